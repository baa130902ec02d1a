use Rattle.std.proofs.lemmas.Result.{IfOk-weaker}
use Rattle.gfx_bits.specs.Bits.{IsPadded}
use Rattle.gfx_srl.proofs.WritingSteps.{closes}
use Rattle.gfx_srl.proofs.writer.SrlWriter.close.Goals as goal

pub returns : goal.returns
returns c =
    rw (← c.self.view_is)
    (IfOk-weaker c.finish.result (λ bytes. IsPadded c.push_rest.new.bits bytes.items) _
    (λ bytes padded. closes _ c.push_rest.new.bits bytes.items c.self.invariant.1 c.in_ok-push_rest.ensures padded) c.finish.ensures)
