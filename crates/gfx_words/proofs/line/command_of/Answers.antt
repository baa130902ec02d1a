use Rattle.std.proofs.Common.{◌≡◌, ◌∙◌, false, sym, true}
use Rattle.gfx_words.proofs.LineLemmas.{accepted_refused, accepted_taken}
use Rattle.gfx_words.proofs.line.command_of.Goals as goal

pub returns-in-Ok : goal.returns-in-Ok
returns-in-Ok c =
    c.command_matched.ensures ∙ accepted_taken _ _ _ _ c.in_ok-command_line.ensures
    c.in-Ok.ensures.kinds c.in-Ok.ensures.matches

pub returns-in-Err-2 : goal.returns-in-Err-2
returns-in-Err-2 c =
    accepted_refused _ _ c.in-Err.error c.in_ok-command_line.ensures c.in-Err.ensures.kinds (λ full.
    let same = rw (c.kind.ensures, full) at c.eq.ensures in
    let bad : true ≡ false = sym same ∙ c.if-eq.false in
    cc)
