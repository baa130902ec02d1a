-- The signs that are known of a component's places, as its passes say them ([MS-RDPEGFX], the progressive codec's upgrade tiles): by the values and entries that aren't 0, whatever the sums are.
use Prim.Native.Nat.{zero, suc}
use Rattle.std.specs.Prelude.{ℕ, ◌-◌, ◌<◌, ◌≡◌, ℤ, pos, negsuc, ◌+ℤ◌, Bool, true, false, List, [], ◌∷◌, ◌++◌, length}
use Rattle.gfx_bits.specs.Bits.{Spelled}
use Rattle.gfx_srl.specs.Code.{Pair}
use Rattle.gfx_srl.specs.Srl.{Srl}
use Rattle.gfx_dwt.specs.declared.layout.Transform.{Transform}
use Rattle.gfx_dwt.specs.Ranges.{at}
use Rattle.gfx_quant.specs.Coefficient.{coefficient_of}
use Rattle.gfx_quant.specs.Quant.{value_of}
use Rattle.gfx_tile_state.specs.Entries.{Way, Nothing, Counted, Up, Down, Coded, Fits, band_at, coded, is_low, raw}
use Rattle.gfx_tile_state.specs.Passes.{Part}

-- a sign that is known, or none
pub data Known : Type 0 where
  Unknown : Known
  Above : Known
  Below : Known

-- the sign of a number, which 0 has not
abbrev pub sign_of : ℤ → Known
sign_of (pos zero) = Unknown
sign_of (pos (suc n)) = Above
sign_of (negsuc n) = Below

-- a sign that is known stays; where none is, that of the entry is known
abbrev pub known_after : Known → ℤ → Known
known_after Unknown entry = sign_of entry
known_after Above entry = Above
known_after Below entry = Below

-- how a place is read by its known sign
abbrev pub way_of : Known → Way
way_of Unknown = Coded
way_of Above = Up
way_of Below = Down

-- the way of a place: by how far its position falls, whether its band is LL3, and its known sign
abbrev pub way_by : ℕ → Bool → Known → Way
way_by zero low known = Nothing
way_by (suc n) true known = Counted
way_by (suc n) false known = way_of known

-- ---- what an upgrade says

-- the pairs of all entries from place k on, where each place is read in its way and falls so far
unfoldable pub pairs_by : (ℕ → Way) → (ℕ → ℕ) → ℕ → List ℤ → List Pair
pairs_by ways falls k [] = []
pairs_by ways falls k (entry ∷ entries) = coded (ways k) (falls k) entry ++ pairs_by ways falls (suc k) entries

-- the raw bits likewise
unfoldable pub raw_by : (ℕ → Way) → (ℕ → ℕ) → ℕ → List ℤ → List Bool
raw_by ways falls k [] = []
raw_by ways falls k (entry ∷ entries) = raw (ways k) (falls k) entry ++ raw_by ways falls (suc k) entries

-- the entries that both data of an upgrade say, one for each place in order
pub record AreSaid (ways : ℕ → Way) (falls : ℕ → ℕ) (srl bits : List Bool) (entries : List ℤ) : Type 0 where
  pub all : length entries ≡ 4096
  pub pairs : Srl srl (pairs_by ways falls 0 entries)
  pub numbers : (rest : List Bool) × Spelled bits (raw_by ways falls 0 entries) rest
  pub fit : (k : ℕ) → k < 4096 → Fits (ways k) (falls k) (at entries k)

-- ---- all passes since a first pass

-- an upgrade: the positions that it falls to, both data, and its entries
pub record Raise : Type 0 where
  pub positions : List ℕ
  pub srl : List Bool
  pub bits : List Bool
  pub entries : List ℤ

-- a component's passes by one transform: the values and positions of its first pass, and the upgrades behind it, the last one in front
pub record History : Type 0 where
  pub values : List ℤ
  pub positions : List ℕ
  pub raises : List Raise

-- the sign that is known of a place outside LL3, whose numbers have none
unfoldable pub known_behind : List ℤ → List Raise → ℕ → Known
known_behind values [] k = sign_of (at values k)
known_behind values (raise ∷ earlier) k = known_after (known_behind values earlier k) (at raise.entries k)

-- the positions that stand
abbrev pub positions_behind : List ℕ → List Raise → List ℕ
positions_behind positions [] = positions
positions_behind positions (raise ∷ earlier) = raise.positions

-- the sum of a place
unfoldable pub sum_behind : Transform → List ℤ → List ℕ → List Raise → ℕ → ℤ
sum_behind t values positions [] k = coefficient_of (at values k) (value_of positions (band_at t k))
sum_behind t values positions (raise ∷ earlier) k =
    sum_behind t values positions earlier k +ℤ coefficient_of (at raise.entries k) (value_of raise.positions (band_at t k))

-- how far a place falls
abbrev pub fall : Transform → List ℕ → List ℕ → ℕ → ℕ
fall t before behind k = value_of before (band_at t k) - value_of behind (band_at t k)

-- how each place is read
abbrev pub ways_by : Transform → List ℕ → List ℕ → (ℕ → Known) → ℕ → Way
ways_by t before behind known k = way_by (fall t before behind k) (is_low (band_at t k)) (known k)

-- each upgrade was read by the signs that were known then
unfoldable pub AreRead : Transform → List ℤ → List ℕ → List Raise → Type 0
AreRead t values positions [] = Unit {0}
AreRead t values positions (raise ∷ earlier) =
    AreRead t values positions earlier
    × AreSaid (ways_by t (positions_behind positions earlier) raise.positions (known_behind values earlier)) (fall t (positions_behind positions earlier) raise.positions) raise.srl raise.bits
    raise.entries

-- the sign that is known of a place behind all passes
abbrev pub known : History → ℕ → Known
known history k = known_behind history.values history.raises k

-- these passes, all by this transform, left this component
pub record Leaves (t : Transform) (history : History) (part : Part) : Type 0 where
  pub read : AreRead t history.values history.positions history.raises
  pub positions_are : part.positions ≡ positions_behind history.positions history.raises
  pub sums_are : (k : ℕ) → k < 4096 → at part.sums k ≡ sum_behind t history.values history.positions history.raises k

-- a first pass of these values and no upgrade yet
abbrev pub begun : List ℤ → List ℕ → History
begun values positions = record { values = values; positions = positions; raises = [] }

-- one upgrade more
abbrev pub raised : History → Raise → History
raised history raise = record { values = history.values; positions = history.positions; raises = raise ∷ history.raises }
