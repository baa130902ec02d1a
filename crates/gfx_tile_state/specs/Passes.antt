-- What a pass makes of a component of a tile's record ([MS-RDPEGFX], the progressive codec; the kept plane is this project's own rule).
use Rattle.std.specs.Prelude.{ℕ, ◌<◌, ◌≡◌, ◌⊎◌, ℤ, pos, ◌+ℤ◌, Bool, true, false, List, [], ◌∷◌, ◌++◌, take, drop, length, Result, Ok, Err, replicate}
use Rattle.gfx_base.specs.declared.refusal.Refusal.{Refusal}
use Rattle.gfx_base.specs.declared.refusal.Refusal.TheVariants.{CoefficientRange}
use Rattle.gfx_rlgr.specs.Rlgr.{Rlgr}
use Rattle.gfx_dwt.specs.declared.layout.Transform.{Transform}
use Rattle.gfx_dwt.specs.declared.layout.Band.TheVariants.{Ll3}
use Rattle.gfx_dwt.specs.Place.{start}
use Rattle.gfx_dwt.specs.Ranges.{AllCoefficients, at}
use Rattle.gfx_quant.specs.Coefficient.{is_coefficient}
use Rattle.gfx_quant.specs.Planes.{Dequantises, LeavesRange}
use Rattle.gfx_tile_state.specs.Shape.{AreAtMost}
use Rattle.gfx_tile_state.specs.Entries.{Pass, AreEntries, sum_after}

-- a component of a record: the plane that earlier tiles left, the sums of this tile's contributions, and the bit position of each band
pub record Part : Type 0 where
  pub kept : List ℤ
  pub sums : List ℤ
  pub positions : List ℕ

-- each value and all before it
unfoldable pub running : ℤ → List ℤ → List ℤ
running total [] = []
running total (x ∷ xs) = (total +ℤ x) ∷ running (total +ℤ x) xs

-- LL3 is coded as differences from the value before it
abbrev pub summed : Transform → List ℤ → List ℤ
summed t values = take (start t Ll3) values ++ running (pos 0) (drop (start t Ll3) values)

-- some value with all before it leaves 16 bits
abbrev pub SomeLeaves : List ℤ → Type 0
SomeLeaves values = (k : ℕ) × (k < length values) × (is_coefficient (at (running (pos 0) values) k) ≡ false)

-- some number of LL3 does
abbrev pub SumsLeave : Transform → List ℤ → Type 0
SumsLeave t values = SomeLeaves (drop (start t Ll3) values)

-- two planes, place by place
unfoldable pub added : List ℤ → List ℤ → List ℤ
added [] ys = []
added (x ∷ xs) [] = []
added (x ∷ xs) (y ∷ ys) = (x +ℤ y) ∷ added xs ys

-- a plane of zeros
abbrev pub blank : List ℤ
blank = replicate 4096 (pos 0)

-- the numbers of a kept plane: zeros, or what is written of it
abbrev pub kept_in : Bool → List ℤ → List ℤ
kept_in true plane = blank
kept_in false plane = plane

-- the coefficients of a component
abbrev pub coefficients : Part → List ℤ
coefficients part = added part.kept part.sums

-- some place of a kept plane with a sum is outside the 16-bit range, or the sum is
abbrev pub LeavesIt : List ℤ → (ℕ → ℤ) → Type 0
LeavesIt kept sum = (k : ℕ) × (k < 4096) × ((is_coefficient (sum k) ≡ false) ⊎ (is_coefficient (at kept k +ℤ sum k) ≡ false))

-- or nowhere is either
abbrev pub StaysIn : List ℤ → (ℕ → ℤ) → Type 0
StaysIn kept sum = (k : ℕ) → k < 4096 → (is_coefficient (sum k) ≡ true) × (is_coefficient (at kept k +ℤ sum k) ≡ true)

-- why a first pass is refused: its data, a value without a coefficient, or a place that leaves the range
abbrev pub FirstRefused : Transform → List ℕ → List ℕ → List ℤ → Type 0
FirstRefused t positions bytes kept =
    Rlgr bytes (Err CoefficientRange)
    ⊎ ((values : List ℤ) × Rlgr bytes (Ok values)
    × (LeavesRange t positions (summed t values) ⊎ ((sums : List ℤ) × Dequantises t positions (summed t values) sums × LeavesIt kept (at sums))))

-- a first pass over a kept plane: the sums are the coefficients of its values, 4,096 of them, and stay in range
abbrev pub TakesFirst : Result (Unit {0}) Refusal → Transform → List ℕ → List ℕ → List ℤ → Part → Part → Type 0
TakesFirst (Ok done) t positions bytes kept old new =
    (values : List ℤ) × Rlgr bytes (Ok values) × Dequantises t positions (summed t values) new.sums × (new.kept ≡ kept) × (new.positions ≡ positions) × (length new.sums ≡ 4096)
    × StaysIn kept (at new.sums)
TakesFirst (Err refusal) t positions bytes kept old new = (refusal ≡ CoefficientRange) × FirstRefused t positions bytes kept × (new ≡ old)

-- an upgrade: each of the 4,096 sums with what the pass adds to it, and all stay in range
abbrev pub Upgrades : Result (Unit {0}) Refusal → Pass → List ℕ → Part → Part → Type 0
Upgrades (Ok done) pass positions old new =
    (entries : List ℤ) × AreEntries pass entries × ((k : ℕ) → k < 4096 → at new.sums k ≡ sum_after pass entries k) × (new.kept ≡ old.kept) × (new.positions ≡ positions)
    × (length new.sums ≡ 4096)
    × StaysIn old.kept (at new.sums)
Upgrades (Err refusal) pass positions old new =
    (refusal ≡ CoefficientRange) × ((entries : List ℤ) × AreEntries pass entries × LeavesIt old.kept (sum_after pass entries)) × (new ≡ old)

-- the sums of a component after an upgrade, over its kept plane
abbrev pub UpgradesSums : Result (Unit {0}) Refusal → Pass → List ℤ → List ℤ → Type 0
UpgradesSums (Ok done) pass kept sums =
    (entries : List ℤ) × AreEntries pass entries × ((k : ℕ) → k < 4096 → at sums k ≡ sum_after pass entries k) × (length sums ≡ 4096) × StaysIn kept (at sums)
UpgradesSums (Err refusal) pass kept sums = (refusal ≡ CoefficientRange) × ((entries : List ℤ) × AreEntries pass entries × LeavesIt kept (sum_after pass entries))

-- what a pass makes, or what was there before where it is refused
abbrev pub made : Result (Unit {0}) Refusal → Part → Part → Part
made (Ok done) old new = new
made (Err refusal) old new = old

-- a plane with another stays in the 16-bit range
abbrev pub FitsOnto : List ℤ → List ℤ → Type 0
FitsOnto kept plane = (k : ℕ) → k < 4096 → is_coefficient (at kept k +ℤ at plane k) ≡ true

-- or leaves it at some place
abbrev pub LeavesKept : List ℤ → List ℤ → Type 0
LeavesKept kept plane = (k : ℕ) × (k < 4096) × (is_coefficient (at kept k +ℤ at plane k) ≡ false)

-- what a first pass reads: the coefficients of its values, or why it is refused
abbrev pub ReadsFirst : Result (Unit {0}) Refusal → Transform → List ℕ → List ℕ → List ℤ → Type 0
ReadsFirst (Ok done) t positions bytes plane = (values : List ℤ) × Rlgr bytes (Ok values) × Dequantises t positions (summed t values) plane
ReadsFirst (Err refusal) t positions bytes plane =
    (refusal ≡ CoefficientRange) × (Rlgr bytes (Err CoefficientRange) ⊎ ((values : List ℤ) × Rlgr bytes (Ok values) × LeavesRange t positions (summed t values)))

-- what a component holds: whole planes that stay in the 16-bit range together, sums that stay in it by themselves, and positions
pub record IsSound (kept sums : List ℤ) (positions : List ℕ) : Type 0 where
  pub kept_whole : length kept ≡ 4096
  pub sums_whole : length sums ≡ 4096
  pub fits : FitsOnto kept sums
  pub sums_small : AllCoefficients sums
  pub positions_small : AreAtMost 30 positions

-- a component before its first pass
abbrev pub fresh : Part
fresh = record { kept = blank; sums = blank; positions = replicate 10 0 }
