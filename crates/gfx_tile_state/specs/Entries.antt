-- What an upgrade reads for each place of a component ([MS-RDPEGFX], the progressive codec's upgrade tiles).
use Prim.Native.Nat.{zero, suc}
use Rattle.std.specs.Prelude.{ℕ, ◌+◌, ◌-◌, ◌^◌, ◌<◌, ◌≤◌, ◌≡◌, ℤ, pos, negsuc, neg_ℤ, ◌+ℤ◌, Bool, true, false, List, [], ◌∷◌, ◌++◌, length, nat_lt, MatchBool, if◌then◌else◌}
use Rattle.std.specs.Int.{int_wrap, w16}
use Rattle.std.specs.Int.RustNames.{unsigned_abs}
use Rattle.gfx_bits.specs.Bits.{Spelled, digits}
use Rattle.gfx_srl.specs.Code.{Pair}
use Rattle.gfx_srl.specs.Srl.{Srl}
use Rattle.gfx_srl.specs.Steps.{HasRead}
use Rattle.gfx_tile_state.specs.declared.entries.Readers.{Readers}
use Rattle.gfx_dwt.specs.declared.layout.Transform.{Transform}
use Rattle.gfx_dwt.specs.declared.layout.Band.{Band}
use Rattle.gfx_dwt.specs.declared.layout.Band.TheVariants.{Ll3}
use Rattle.gfx_dwt.specs.Place.{bands, size, start}
use Rattle.gfx_dwt.specs.Ranges.{at}
use Rattle.gfx_quant.specs.Quant.{value_of}
use Rattle.gfx_quant.specs.Coefficient.{coefficient_of, is_coefficient}

-- the first of some bands that ends behind a place
abbrev pub band_among : Transform → ℕ → List Band → Band
band_among t k [] = Ll3
band_among t k (band ∷ rest) = if nat_lt k (start t band + size t band) then band else band_among t k rest

-- the band of a place
abbrev pub band_at : Transform → ℕ → Band
band_at t k = band_among t k bands

-- whether a band is LL3, whose numbers have no sign
abbrev pub is_low : Band → Bool
is_low Ll3 = true
is_low _ = false

-- what is read for a place: nothing, a number, a number that goes away from zero, up or down, or a value
pub data Way : Type 0 where
  Nothing : Way
  Counted : Way
  Up : Way
  Down : Way
  Coded : Way

-- a place is read by its sum so far, whose sign is the sign that is known of it
abbrev pub signed_way : ℤ → Way
signed_way (pos zero) = Coded
signed_way (pos (suc n)) = Up
signed_way (negsuc n) = Down

-- the way of a place: by how far its position falls, and whether its band is LL3
abbrev pub way : ℕ → Bool → ℤ → Way
way zero low sum = Nothing
way (suc n) true sum = Counted
way (suc n) false sum = signed_way sum

-- an entry that a place of this way and width may have
abbrev pub Fits : Way → ℕ → ℤ → Type 0
Fits Nothing width entry = entry ≡ pos 0
Fits Counted width entry = (entry ≡ pos (unsigned_abs entry)) × (unsigned_abs entry < 2 ^ width)
Fits Up width entry = (entry ≡ pos (unsigned_abs entry)) × (unsigned_abs entry < 2 ^ width)
Fits Down width entry = (entry ≡ neg_ℤ (pos (unsigned_abs entry))) × (unsigned_abs entry < 2 ^ width)
Fits Coded width entry = Unit {0}

-- the value that is coded in SRL for an entry, if any
abbrev pub coded : Way → ℕ → ℤ → List Pair
coded Coded width entry = (record { value = entry; width = width }) ∷ []
coded _ width entry = []

-- the bits that are raw for an entry, if any
abbrev pub raw : Way → ℕ → ℤ → List Bool
raw Counted width entry = digits width (unsigned_abs entry)
raw Up width entry = digits width (unsigned_abs entry)
raw Down width entry = digits width (unsigned_abs entry)
raw _ width entry = []

-- an upgrade of a component: the sums before it, how far each place falls and to which position, whether it is in LL3, and the bits of both data
pub record Pass : Type 0 where
  pub sums : List ℤ
  pub falls : ℕ → ℕ
  pub positions : ℕ → ℕ
  pub low : ℕ → Bool
  pub srl : List Bool
  pub bits : List Bool

-- the way of a place in a pass
abbrev pub way_at : Pass → ℕ → Way
way_at pass k = way (pass.falls k) (pass.low k) (at pass.sums k)

-- the pairs of all entries from place k on, as one list
unfoldable pub pairs_from : Pass → ℕ → List ℤ → List Pair
pairs_from pass k [] = []
pairs_from pass k (entry ∷ entries) = coded (way_at pass k) (pass.falls k) entry ++ pairs_from pass (suc k) entries

-- the raw bits of all entries from place k on
unfoldable pub raw_from : Pass → ℕ → List ℤ → List Bool
raw_from pass k [] = []
raw_from pass k (entry ∷ entries) = raw (way_at pass k) (pass.falls k) entry ++ raw_from pass (suc k) entries

-- the entries that both data of a pass say, one for each place in order
pub record AreEntries (pass : Pass) (entries : List ℤ) : Type 0 where
  pub all : length entries ≡ 4096
  pub pairs : Srl pass.srl (pairs_from pass 0 entries)
  pub numbers : (rest : List Bool) × Spelled pass.bits (raw_from pass 0 entries) rest
  pub fit : (k : ℕ) → k < 4096 → Fits (way_at pass k) (pass.falls k) (at entries k)

-- the sum of a place after a pass
abbrev pub sum_after : Pass → List ℤ → ℕ → ℤ
sum_after pass entries k = at pass.sums k +ℤ coefficient_of (at entries k) (pass.positions k)

-- what 16 bits hold of a number
abbrev pub wrapped : ℤ → ℤ
wrapped z = int_wrap w16 z

-- the upgrade of a component from its positions to new ones
abbrev pub pass_of : Transform → List ℕ → List ℕ → List ℤ → List Bool → List Bool → Pass
pass_of t before behind sums srl bits = record {
  sums = sums;
  falls = λ k. value_of before (band_at t k) - value_of behind (band_at t k);
  positions = λ k. value_of behind (band_at t k);
  low = λ k. is_low (band_at t k);
  srl = srl;
  bits = bits;
}

-- a part of both data was read: these pairs and these raw bits
pub record Stands (srl bits : List Bool) (pairs : List Pair) (numbers : List Bool) (readers : Readers) : Type 0 where
  pub coded_are : HasRead srl pairs readers.srl
  pub raw_are : Spelled bits numbers readers.bits

-- whatever was read before, an entry of a place of this way is read
pub record ReadsEntry (way : Way) (width : ℕ) (entry : ℤ) (old new : Readers) : Type 0 where
  pub fits : Fits way width entry
  pub reads : (srl bits : List Bool) (pairs : List Pair) (numbers : List Bool) → Stands srl bits pairs numbers old
      → Stands srl bits (pairs ++ coded way width entry) (numbers ++ raw way width entry) new

-- how far an upgrade has come: an entry for each place before this one, and what they made of the plane
pub record Upgraded (pass : Pass) (place : ℕ) (now : List ℤ) (fits : Bool) (readers : Readers) : Type 0 where
  pub entries : List ℤ
  pub all : length entries ≡ place
  pub long : length now ≡ length pass.sums
  pub stands : Stands pass.srl pass.bits (pairs_from pass 0 entries) (raw_from pass 0 entries) readers
  pub fit : (k : ℕ) → k < place → Fits (way_at pass k) (pass.falls k) (at entries k)
  pub sums : (k : ℕ) → k < place → at now k ≡ wrapped (sum_after pass entries k)
  pub due : (k : ℕ) → place ≤ k → at now k ≡ at pass.sums k
  pub range : MatchBool fits ((k : ℕ) → k < place → is_coefficient (sum_after pass entries k) ≡ true)
      ((k : ℕ) × (k < place) × (is_coefficient (sum_after pass entries k) ≡ false))

-- all these places fall so far, to this position
pub record AreAlike (pass : Pass) (from to : ℕ) (fall position : ℕ) (low : Bool) : Type 0 where
  pub falls : (k : ℕ) → from ≤ k → k < to → pass.falls k ≡ fall
  pub positions : (k : ℕ) → from ≤ k → k < to → pass.positions k ≡ position
  pub lows : (k : ℕ) → from ≤ k → k < to → pass.low k ≡ low
