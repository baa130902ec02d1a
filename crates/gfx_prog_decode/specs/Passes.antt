-- What a tile's data make of the record of its cell ([MS-RDPEGFX] 3.2.8; difference tiles, the number of records and the
-- order of the checks are this project's own rules).
use Rattle.std.specs.Prelude.{ℕ, ℤ, Bool, true, false, ◌||◌, not, nat_lt, is_some, List, Option, Some, None, Result, Ok}
use Rattle.gfx_base.specs.declared.refusal.Refusal.{Refusal}
use Rattle.gfx_base.specs.declared.refusal.Refusal.TheVariants.{TileBudget, TransformChanged}
use Rattle.gfx_base.specs.Results.{◌>>=◌, check}
use Rattle.gfx_bits.specs.Bits.{bits_of}
use Rattle.gfx_dwt.specs.declared.layout.Transform.{Transform}
use Rattle.gfx_quant.specs.declared.quant.Component.{Component}
use Rattle.gfx_quant.specs.declared.quant.Component.TheVariants.{Y, Cb, Cr}
use Rattle.gfx_prog_block.specs.declared.tile.FirstPass.{FirstPass}
use Rattle.gfx_prog_block.specs.declared.tile.UpgradePass.{UpgradePass}
use Rattle.gfx_tile_state.specs.declared.state.TileState.{TileState}
use Rattle.gfx_tile_state.specs.Entries.{Pass, pass_of}
use Rattle.gfx_tile_state.specs.Making.{first_part, may_upgrade, upgraded_part}
use Rattle.gfx_tile_state.specs.Passes.{Part, blank, coefficients}
use Rattle.gfx_tile_state.specs.Record.{fits_transform, fresh_tile, part_of}
use Rattle.gfx_prog_decode.specs.declared.TheConstants.{MOST_RECORDS}
use Rattle.gfx_prog_decode.specs.Coding.{Coding, positions_in}

-- the record that a first pass goes on: where there is none, all is zero
abbrev pub start_of : Option TileState → TileState
start_of None = fresh_tile
start_of (Some tile) = tile

-- ---- first passes

-- whether a first pass may begin, of so many records
unfoldable pub may_start : Bool → Option TileState → ℕ → Transform → Result (Unit {0}) Refusal
may_start difference old count t = do
  same ← check TransformChanged (not difference || fits_transform (start_of old).transform t)
  check TileBudget (is_some old || nat_lt count MOST_RECORDS)

-- what is kept of a component: a plain tile begins anew, a difference tile goes on its coefficients
abbrev pub kept_of : Bool → Part → List ℤ
kept_of false part = blank
kept_of true part = coefficients part

-- a component after its first pass
abbrev pub part_started : Bool → Coding → Component → List ℕ → TileState → Result Part Refusal
part_started difference coding component bytes old =
    first_part coding.transform (positions_in coding component) bytes (kept_of difference (part_of old component))

-- a record after a first pass
unfoldable pub started : Bool → Coding → FirstPass → TileState → Result TileState Refusal
started difference coding pass old = do
  y ← part_started difference coding Y pass.y old
  cb ← part_started difference coding Cb pass.cb old
  cr ← part_started difference coding Cr pass.cr old
  Ok (record { transform = Some coding.transform; y = y; cb = cb; cr = cr })

-- ---- upgrades

-- a component's upgrade
abbrev pub pass_in : Coding → Component → List ℕ → List ℕ → TileState → Pass
pass_in coding component srl raw old =
    pass_of coding.transform (part_of old component).positions (positions_in coding component) (part_of old component).sums (bits_of srl) (bits_of raw)

-- a component after it
abbrev pub part_improved : Coding → Component → List ℕ → List ℕ → TileState → Result Part Refusal
part_improved coding component srl raw old = upgraded_part (pass_in coding component srl raw old) (positions_in coding component) (part_of old component)

-- a record after an upgrade; whether one may follow is looked at first
unfoldable pub improved : Coding → UpgradePass → TileState → Result TileState Refusal
improved coding pass old = do
  may ← may_upgrade old coding.transform (positions_in coding)
  y ← part_improved coding Y pass.y_srl pass.y_raw old
  cb ← part_improved coding Cb pass.cb_srl pass.cb_raw old
  cr ← part_improved coding Cr pass.cr_srl pass.cr_raw old
  Ok (record { transform = old.transform; y = y; cb = cb; cr = cr })
