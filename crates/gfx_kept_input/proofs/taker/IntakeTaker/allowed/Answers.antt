use Rattle.std.proofs.Common.{◌∙◌, ◌+◌, ap}
use Rattle.gfx_kept_input.proofs.TurnLemmas.{allowed_at}
use Rattle.gfx_kept_input.proofs.taker.IntakeTaker.allowed.Goals as goal

pub returns : goal.returns
returns c = λ bytes stands.
    ap (λ n. c.args.limit + 8 + (c.args.self.now.server.size + c.args.self.now.client.size + n)) c.due_size.ensures ∙ allowed_at c.args.self.now c.args.limit bytes stands
