-- Frames in flight are numbered one after another.
use Rattle.std.proofs.Common.{◌≡◌, ◌∙◌, ℕ, ◌+◌, ◌≤◌, List, [], ◌∷◌, ◌++◌, length, map, Option, Some, refl, ap, arith, length-append}
use Rattle.std.specs.List.{last_or}
use Rattle.gfx_window.specs.declared.window.Sent.{Sent}

-- up to this one
abbrev pub IsUpTo : ℕ → List Sent → Type 0
IsUpTo last [] = Unit {0}
IsUpTo last (first ∷ others) = (first.frame + length others ≡ last) × (1 ≤ first.frame) × IsUpTo last others

-- and the next one behind them
pub upto-more : (last : ℕ) (flying : List Sent) (next : Sent) → next.frame ≡ last + 1 → IsUpTo last flying → IsUpTo (last + 1) (flying ++ next ∷ [])
upto-more last [] next is all = (omega (arith, is), omega (arith, is), tt)
upto-more last (first ∷ others) next is all = (omega (arith, all.0, length-append others (next ∷ [])), all.1, upto-more last others next is all.2)

-- those that are left
pub upto-behind : (last : ℕ) (gone left : List Sent) → IsUpTo last (gone ++ left) → IsUpTo last left
upto-behind last [] left all = all
upto-behind last (one ∷ gone) left all = upto-behind last gone left all.2

-- there are no more of them than were sent
pub upto-few : (last : ℕ) (flying : List Sent) → IsUpTo last flying → length flying ≤ last
upto-few last [] all = omega arith
upto-few last (first ∷ others) all = omega (arith, all.0, all.1)

-- the last of them
pub upto-last : (before : Option ℕ) (last : ℕ) (first : Sent) (others : List Sent) → IsUpTo last (first ∷ others) → last_or before (map (λ (one : Sent). one.frame) (first ∷ others)) ≡ Some last
upto-last before last first [] all = ap Some (let same : first.frame ≡ last = omega (arith, all.0) in same)
upto-last before last first (next ∷ others) all = upto-last (Some first.frame) last next others all.2
