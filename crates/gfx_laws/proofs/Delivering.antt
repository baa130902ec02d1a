-- A whole channel message delivers what its payload holds.
use Rattle.std.proofs.Common.{◌≡◌, ◌∙◌, ℕ, List, ◌++◌, ap, sym}
use Rattle.gfx_segment.specs.Framing.{Whole, front, payload}
use Rattle.gfx_segment.proofs.FrontLemmas.{front-nil}
use Rattle.gfx_state.specs.Run.{Run, eats, opened}
use Rattle.gfx_state.proofs.Runs.{eats_whole}
use Rattle.gfx_laws.specs.Delivered.{IsBetween, WholeMessagesAreDelivered}

opens : (run : Run) (bytes message others : List ℕ) → IsBetween run → front bytes ≡ Whole message others → eats run bytes ≡ eats (opened run (payload message)) others
opens run bytes message others between found =
    eats_whole run bytes message others between.open_run (ap front between.nothing_held ∙ front-nil) (ap (λ held. front (held ++ bytes)) between.nothing_held ∙ found)
    ∙ ap (λ (held : List ℕ). eats (opened (record run { rest = held }) (payload message)) others) (sym between.nothing_held)

pub delivered : WholeMessagesAreDelivered
unfolding opened
delivered run bytes message others between found = (
  (λ content is. opens run bytes message others between found ∙ ap (λ p. eats (opened run p) others) is),
  (λ r is. opens run bytes message others between found ∙ ap (λ p. eats (opened run p) others) is),
)
