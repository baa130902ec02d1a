use Rattle.std.proofs.Common.{◌∙◌, sym, refl}
use Rattle.gfx_base.specs.declared.refusal.Refusal.TheVariants.{KeptDiffers}
use Rattle.gfx_kept_input.specs.declared.taker.Part.TheVariants as part
use Rattle.gfx_kept_input.proofs.TurnLemmas.{client_differs, client_taken, script_waits, stops_at}
use Rattle.gfx_kept_input.proofs.taker.take_client.Goals as goal

pub returns-then-not-agree-clause-turn : goal.returns-then-not-agree-clause-turn
returns-then-not-agree-clause-turn c = λ bytes held.
    stops_at c.refuse.result c.refuse.new.taker bytes KeptDiffers c.refuse.ensures.taken c.refuse.ensures.part
    (client_differs c.args.taker.now c.args.file bytes held c.requires (sym c.agree.ensures ∙ c.if-not-agree.true))

pub returns-clause-turn : goal.returns-clause-turn
returns-clause-turn c = λ bytes held.
    let new = record c.args.taker.now { part = part.Script; bytes = c.let_go.new.bytes; client = c.args.file } in
    script_waits new bytes refl (client_taken c.args.taker.now new c.args.file bytes held c.requires (sym c.agree.ensures ∙ c.if-not-agree.false) c.in_ok-let_go.ensures refl refl)
