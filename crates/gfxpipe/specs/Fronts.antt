-- What is known of the fronts of a recording that was played.
use Rattle.std.proofs.Common.{◌≡◌, ℕ, List, ◌++◌, take, drop, Some, None, refl, sym, ap, ◌∙◌}
use Rattle.std.proofs.lemmas.List.{take-append-drop}
use Rattle.gfx_client.specs.declared.client.Client.{Client}
use Rattle.gfx_client.specs.Client.{cursor_of}
use Rattle.gfx_state.specs.Cursor.{waiting}
use Rattle.gfx_state.specs.Run.{Run, begun, run_of}
use Rattle.gfx_state.proofs.Runs.{eats-append, eats_refused}
use Rattle.gfx_state.proofs.Moves.{settled_needs}
use Rattle.gfxpipe.specs.Recording.{HasPlayed}

-- a client that needs more stands at the run of its bytes
pub run_there : (client : Client) (bytes : List ℕ) → HasPlayed client bytes → run_of bytes ≡ waiting (cursor_of client)
run_there client bytes h = sym h.0.run ∙ settled_needs (cursor_of client) h.1.needs

-- no front of what isn't refused is refused
front_not_refused : (front more : List ℕ) → (run_of (front ++ more)).refusal ≡ None → (run_of front).refusal ≡ None
front_not_refused front more none =
    elim ((run_of front).refusal) as (λ q. (run_of front).refusal ≡ q → q ≡ None) [
      | None ↦ λ e. refl
      | Some r ↦ λ e.
          let same = eats-append begun front more ∙ eats_refused (run_of front) r more e in
          let refusal = ap (λ (z : Run). z.refusal) same in absurd cc
    ] refl

pub fronts_not_refused : (client : Client) (bytes : List ℕ) (n : ℕ) → HasPlayed client bytes → (run_of (take n bytes)).refusal ≡ None
fronts_not_refused client bytes n h =
    front_not_refused (take n bytes) (drop n bytes) (ap (λ z. (run_of z).refusal) (take-append-drop n bytes) ∙ ap (λ (z : Run). z.refusal) (run_there client bytes h))
