-- How far the upgrade of a band has come that takes the places whose sum is zero, and the others, each as a list of their own: the values that are coded and the raw numbers are read apart, so their readers needn't go place by place together.
use Prim.Native.Nat.{zero, suc}
use Rattle.std.specs.Prelude.{ℕ, ◌+◌, ◌-◌, ◌<◌, ◌≤◌, ◌≡◌, ℤ, pos, negsuc, Bool, true, false, List, [], ◌∷◌, ◌++◌, length, take, MatchBool, slice_index}
use Rattle.gfx_srl.specs.Code.{Pair}
use Rattle.gfx_dwt.specs.Ranges.{IsCoefficient, at}
use Rattle.gfx_quant.specs.Coefficient.{is_coefficient}
use Rattle.gfx_tile_state.specs.declared.entries.Readers.{Readers}
use Rattle.gfx_tile_state.specs.Entries.{Pass, Fits, Stands, coded, pairs_from, raw, raw_from, sum_after, way_at, wrapped}

-- whether a sum is zero, and whether it is not
abbrev pub is_nought : ℤ → Bool
is_nought (pos zero) = true
is_nought (pos (suc n)) = false
is_nought (negsuc n) = false

abbrev pub is_other : ℤ → Bool
is_other (pos zero) = false
is_other (pos (suc n)) = true
is_other (negsuc n) = true

-- a place, if it is wanted
abbrev pub place_if : Bool → ℕ → List ℕ
place_if true k = k ∷ []
place_if false k = []

-- of so many places from one on those whose sums are wanted, in order
abbrev pub places : (ℤ → Bool) → List ℤ → ℕ → ℕ → List ℕ
places wanted sums from zero = []
places wanted sums from (suc count) = places wanted sums from count ++ place_if (wanted (at sums (from + count))) (from + count)

-- two lists of places: so many whose sum is zero stand at the front of one, and the others at that of the other
pub record Listed (sums : List ℤ) (from to count : ℕ) (noughts others : List ℕ) : Type 0 where
  pub most : count ≤ to - from
  pub noughts_long : length noughts ≡ 1024
  pub others_long : length others ≡ 1024
  pub noughts_are : take count noughts ≡ places is_nought sums from (to - from)
  pub others_are : take (to - from - count) others ≡ places is_other sums from (to - from)

-- the pairs and the raw bits of the entries at these places
abbrev pub pairs_at : Pass → List ℤ → List ℕ → List Pair
pairs_at pass entries [] = []
pairs_at pass entries (k ∷ ks) = coded (way_at pass k) (pass.falls k) (at entries k) ++ pairs_at pass entries ks

abbrev pub raw_at : Pass → List ℤ → List ℕ → List Bool
raw_at pass entries [] = []
raw_at pass entries (k ∷ ks) = raw (way_at pass k) (pass.falls k) (at entries k) ++ raw_at pass entries ks

-- an entry for each place before a band's end; those that aren't read yet are zero, and read are those before the band, so many of the places whose sum is zero, and so many of the others
pub record Sifted (pass : Pass) (from to : ℕ) (noughts others : List ℕ) (coded_count raw_count : ℕ) (now : List ℤ) (fits : Bool) (readers : Readers) : Type 0 where
  pub entries : List ℤ
  pub all : length entries ≡ to
  pub long : length now ≡ length pass.sums
  pub noughts_are : noughts ≡ places is_nought pass.sums from (to - from)
  pub others_are : others ≡ places is_other pass.sums from (to - from)
  pub small : (k : ℕ) → from ≤ k → k < to → IsCoefficient (at pass.sums k)
  pub stands : Stands pass.srl pass.bits (pairs_from pass 0 (take from entries) ++ pairs_at pass entries (take coded_count noughts)) (raw_from pass 0 (take from entries) ++ raw_at pass entries (take raw_count others)) readers
  pub noughts_due : (j : ℕ) → coded_count ≤ j → j < length noughts → at entries (slice_index noughts j) ≡ pos 0
  pub others_due : (j : ℕ) → raw_count ≤ j → j < length others → at entries (slice_index others j) ≡ pos 0
  pub fit : (k : ℕ) → k < to → Fits (way_at pass k) (pass.falls k) (at entries k)
  pub sums : (k : ℕ) → k < to → at now k ≡ wrapped (sum_after pass entries k)
  pub due : (k : ℕ) → to ≤ k → at now k ≡ at pass.sums k
  pub range : MatchBool fits ((k : ℕ) → k < to → is_coefficient (sum_after pass entries k) ≡ true)
      ((k : ℕ) × (k < to) × (is_coefficient (sum_after pass entries k) ≡ false))
