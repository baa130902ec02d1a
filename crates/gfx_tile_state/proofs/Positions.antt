-- The positions of a shape.
use Rattle.std.proofs.Common.{◌≡◌, ℕ, zero, suc, ◌<◌, ◌≤◌, Bool, true, false, ◌&&◌, List, [], ◌∷◌, length, refl, arith}
use Rattle.std.specs.Prelude.{slice_index, nat_le, IsTrue}
use Rattle.std.specs.List.{list_all}
use Rattle.std.proofs.lemmas.Bool.{leb-true}
use Rattle.gfx_tile_state.specs.Shape.{is_position, are_positions, AreWithin}

both : (a b : Bool) → IsTrue (a && b) → IsTrue a × IsTrue b
both true b h = (refl, h)
both false b h = cc

each : (xs : List ℕ) → IsTrue (list_all is_position xs) → (k : ℕ) → k < length xs → (6 ≤ slice_index xs k) × (slice_index xs k ≤ 30)
each [] all k h = absurd (omega arith)
each (x ∷ xs) all zero h =
    let here = both (nat_le 6 x) (nat_le x 30) (both (is_position x) (list_all is_position xs) all).0 in
    (leb-true 6 x here.0, leb-true x 30 here.1)
each (x ∷ xs) all (suc k) h = each xs (both (is_position x) (list_all is_position xs) all).1 k (omega arith)

pub all_positions : (xs : List ℕ) → IsTrue (are_positions xs) → length xs ≡ 10 → AreWithin 6 30 xs
all_positions xs all long k h = each xs all k (omega arith)
