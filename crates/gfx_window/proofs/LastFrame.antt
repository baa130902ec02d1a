-- The last of the frames in flight, as a look at the end of a queue finds it.
use Rattle.std.proofs.Common.{◌≡◌, ◌-◌, ◌<◌, ℕ, suc, List, [], ◌∷◌, length, map, get_or, Option, Some, refl, sym, ap, ◌∙◌, arith}
use Rattle.std.specs.List.{last_or}
use Rattle.gfx_window.specs.declared.window.Sent.{Sent}

-- the frames by their ids
abbrev pub ids : List Sent → List ℕ
ids frames = map (λ (one : Sent). one.frame) frames

pub last-there : (before : Option ℕ) (frames : List Sent) (one : Sent) → 0 < length frames → one ≡ get_or frames (length frames - 1) one → last_or before (ids frames) ≡ Some one.frame
last-there before [] one some is = absurd (omega (arith, some))
last-there before (first ∷ []) one some is = ap (λ (z : Sent). Some z.frame) (sym is)
last-there before (first ∷ (next ∷ others)) one some is =
    let place : length (first ∷ (next ∷ others)) - 1 ≡ suc (length (next ∷ others) - 1) = omega arith in
    last-there (Some first.frame) (next ∷ others) one (omega arith) (is ∙ ap (λ n. get_or (first ∷ (next ∷ others)) n one) place)
