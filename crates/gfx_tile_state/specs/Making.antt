-- What a pass makes of a component of a tile's record, and whether one may follow, as functions ([MS-RDPEGFX], the progressive
-- codec; difference tiles and the kept plane are this project's own rule).
use Prim.Native.Nat.{zero, suc}
use Rattle.std.specs.Prelude.{ℕ, ℤ, pos, neg_ℤ, ◌+ℤ◌, Bool, ◌&&◌, List, [], ◌∷◌, ◌++◌, length, drop, nat_le, slice_index, Result, Ok}
use Rattle.std.specs.List.{list_all}
use Rattle.gfx_base.specs.declared.refusal.Refusal.{Refusal}
use Rattle.gfx_base.specs.declared.refusal.Refusal.TheVariants.{CoefficientRange, QualityWorse, TransformChanged}
use Rattle.gfx_base.specs.Results.{◌>>=◌, check}
use Rattle.gfx_bits.specs.Bits.{number}
use Rattle.gfx_rlgr.specs.Says.{rlgr}
use Rattle.gfx_srl.specs.Says.{srl}
use Rattle.gfx_dwt.specs.declared.layout.Transform.{Transform}
use Rattle.gfx_dwt.specs.Ranges.{at}
use Rattle.gfx_quant.specs.declared.quant.Component.{Component}
use Rattle.gfx_quant.specs.declared.quant.Component.TheVariants.{Y, Cb, Cr}
use Rattle.gfx_quant.specs.Coefficient.{coefficient_of, is_coefficient}
use Rattle.gfx_quant.specs.Quant.{value_of}
use Rattle.gfx_quant.specs.Setting.{all_below}
use Rattle.gfx_tile_state.specs.declared.state.TileState.{TileState}
use Rattle.gfx_tile_state.specs.Entries.{Way, Nothing, Counted, Up, Down, Coded, Pass, band_at, way_at}
use Rattle.gfx_tile_state.specs.Passes.{Part, added, summed}
use Rattle.gfx_tile_state.specs.Record.{fits_transform}

-- ---- whether a pass may follow

-- whether no position of the one is above that of the other
abbrev pub are_below : List ℕ → List ℕ → Bool
are_below low high = all_below 10 (λ k. nat_le (slice_index low k) (slice_index high k))

-- the answer to a difference tile of a transform
abbrev pub may_add : TileState → Transform → Result (Unit {0}) Refusal
may_add tile t = check TransformChanged (fits_transform tile.transform t)

-- the answer to an upgrade to these positions: the transform is looked at first
unfoldable pub may_upgrade : TileState → Transform → (Component → List ℕ) → Result (Unit {0}) Refusal
may_upgrade tile t positions = do
  same ← check TransformChanged (fits_transform tile.transform t)
  check QualityWorse (are_below (positions Y) tile.y.positions && are_below (positions Cb) tile.cb.positions && are_below (positions Cr) tile.cr.positions)

-- ---- what a pass leaves

-- the numbers from place k on, each as its place has it
unfoldable pub by_place_from : (ℕ → ℤ → ℤ) → ℕ → List ℤ → List ℤ
by_place_from f k [] = []
by_place_from f k (x ∷ xs) = f k x ∷ by_place_from f (suc k) xs

-- each number of a plane, as its place has it
abbrev pub by_place : (ℕ → ℤ → ℤ) → List ℤ → List ℤ
by_place f plane = by_place_from f 0 plane

-- whether all sums are coefficients, and all that they make of a kept plane
abbrev pub fits_onto : List ℤ → List ℤ → Bool
fits_onto kept sums = list_all is_coefficient sums && list_all is_coefficient (added kept sums)

-- a component that stays in the 16-bit range
unfoldable pub fitting : Part → Result Part Refusal
fitting part = do
  fits ← check CoefficientRange (fits_onto part.kept part.sums)
  Ok part

-- ---- first passes

-- what values stand for, at the bit position of each place's band
abbrev pub plane_of : Transform → List ℕ → List ℤ → List ℤ
plane_of t positions values = by_place (λ k value. coefficient_of value (value_of positions (band_at t k))) values

-- a component after a first pass over a kept plane
unfoldable pub first_part : Transform → List ℕ → List ℕ → List ℤ → Result Part Refusal
first_part t positions bytes kept = do
  values ← rlgr bytes
  fitting record { kept = kept; sums = plane_of t positions (summed t values); positions = positions }

-- ---- upgrades

-- the width of the value that is coded for a place, if any
abbrev pub coded_width : Way → ℕ → List ℕ
coded_width Coded width = width ∷ []
coded_width _ width = []

-- how many raw bits there are for a place
abbrev pub raw_width : Way → ℕ → ℕ
raw_width Counted width = width
raw_width Up width = width
raw_width Down width = width
raw_width _ width = 0

-- the entry of a place: a number at the front of the raw bits, or the first of the coded values
abbrev pub entry_of : Way → ℕ → List ℤ → List Bool → ℤ
entry_of Nothing width values bits = pos 0
entry_of Counted width values bits = pos (number width bits)
entry_of Up width values bits = pos (number width bits)
entry_of Down width values bits = neg_ℤ (pos (number width bits))
entry_of Coded width values bits = at values 0

-- the widths of all values that are coded for n places from place k on
unfoldable pub widths_from : Pass → ℕ → ℕ → List ℕ
widths_from pass k zero = []
widths_from pass k (suc n) = coded_width (way_at pass k) (pass.falls k) ++ widths_from pass (suc k) n

-- the entries of n places from place k on, by the coded values and the raw bits that are left
unfoldable pub entries_from : Pass → ℕ → ℕ → List ℤ → List Bool → List ℤ
entries_from pass k zero values bits = []
entries_from pass k (suc n) values bits =
    let here = way_at pass k in
    let width = pass.falls k in
    entry_of here width values bits ∷ entries_from pass (suc k) n (drop (length (coded_width here width)) values) (drop (raw_width here width) bits)

-- the entries that both data of a pass say
unfoldable pub entries_of : Pass → List ℤ
entries_of pass = entries_from pass 0 4096 (srl pass.srl (widths_from pass 0 4096)) pass.bits

-- the sums after a pass of these entries
abbrev pub sums_of : Pass → List ℤ → List ℤ
sums_of pass entries = by_place (λ k entry. at pass.sums k +ℤ coefficient_of entry (pass.positions k)) entries

-- a component after an upgrade to these positions
unfoldable pub upgraded_part : Pass → List ℕ → Part → Result Part Refusal
upgraded_part pass positions part =
    fitting record { kept = part.kept; sums = sums_of pass (entries_of pass); positions = positions }
