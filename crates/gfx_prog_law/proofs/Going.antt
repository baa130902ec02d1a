-- What a painted tile goes on.
use Rattle.std.proofs.Common.{◌≡◌, ◌∙◌, ℕ, Bool, true, false, ◌&&◌, ◌==◌, if◌then◌else◌, true≢false, List, length, Option, Some, None, refl, sym, ap, eqb-true}
use Rattle.gfx_base.specs.declared.pixel.Pixel.{Pixel}
use Rattle.gfx_base.specs.declared.geometry.Cell.{Cell}
use Rattle.gfx_base.specs.declared.geometry.Rect.{Rect}
use Rattle.gfx_dwt.specs.declared.layout.Transform.{Transform}
use Rattle.gfx_dwt.specs.declared.layout.Transform.TheVariants.{Plain, Reduced}
use Rattle.gfx_quant.specs.declared.quant.Component.{Component}
use Rattle.gfx_quant.specs.declared.quant.Component.TheVariants.{Y, Cb, Cr}
use Rattle.gfx_quant.specs.declared.setting.Setting.{Setting}
use Rattle.gfx_tile_state.specs.declared.state.TileState.{TileState}
use Rattle.gfx_tile_state.specs.Passes.{blank, coefficients}
use Rattle.gfx_tile_state.specs.Record.{fits_transform, part_of}
use Rattle.gfx_tile_make.specs.Levels.{MayBeSent, record_at, tile_at}
use Rattle.gfx_tile_make.specs.Source.{SourceTile, difference_of, planes_of, source_of}
use Rattle.gfx_tile_make.proofs.Sources.{difference-kept, plain-kept}
use Rattle.gfx_prog_decode.specs.Passes.{start_of}
use Rattle.gfx_prog_encode.specs.declared.send.TileSend.{TileSend}
use Rattle.gfx_prog_live.specs.Tiles.{gone_on, is_in_range}
use Rattle.gfx_prog_law.specs.Accepted.{GoesOn}

-- a tile is as it was, or goes on the last level of the one before
abbrev LastOf : Option TileSend → SourceTile → TileSend → Type 0
LastOf before tile old = (before ≡ Some old) × ((old.level ≡ length old.tile.setting.levels) × (is_in_range (difference_of tile old.tile) ≡ true))

three : (a b c : Bool) → (a && b && c) ≡ true → (b ≡ true) × (c ≡ true)
three true true c e = (refl, e)
three true false c e = cc
three false b c e = cc

pub gone-by : (P : SourceTile → Type 0) (differences : Bool) (before : Option TileSend) (tile : SourceTile) → P tile → ((old : TileSend) → LastOf before tile old → P (difference_of tile old.tile)) → P (gone_on differences before tile)
unfolding gone_on
gone-by P differences None tile plain last = plain
gone-by P differences (Some old) tile plain last =
    by (differences && (old.level == length old.tile.setting.levels) && is_in_range (difference_of tile old.tile)) refl
  where
    by : (b : Bool) → (differences && (old.level == length old.tile.setting.levels) && is_in_range (difference_of tile old.tile)) ≡ b → P (if b then difference_of tile old.tile else tile)
    by true e =
        let told : ((old.level == length old.tile.setting.levels) ≡ true) × (is_in_range (difference_of tile old.tile) ≡ true) = three differences (old.level == length old.tile.setting.levels) (is_in_range (difference_of tile old.tile)) e in
        last old (refl, (eqb-true old.level (length old.tile.setting.levels) told.0, told.1))
    by false e = plain

fits-itself : (t : Transform) → fits_transform (Some t) t ≡ true
fits-itself Plain = refl
fits-itself Reduced = refl

part-at : (source : SourceTile) (level : ℕ) (component : Component) → part_of (tile_at source level) component ≡ record_at source component level
part-at source level Y = refl
part-at source level Cb = refl
part-at source level Cr = refl

plain-of : (setting : Setting) (pixels : List Pixel) (component : Component) → (planes_of (source_of setting pixels) component).kept ≡ blank
plain-of setting pixels Y = refl
plain-of setting pixels Cb = refl
plain-of setting pixels Cr = refl

-- a tile of pixels goes on nothing
pub plain-goes : (c : Cell) (rect : Rect) (setting : Setting) (pixels : List Pixel) (before : Option TileState) → GoesOn before (record { cell = c; rect = rect; tile = source_of setting pixels; level = 0 })
plain-goes c rect setting pixels before = record {
  transform = λ e. absurd (true≢false (sym e));
  kept = λ component. sym (plain-kept (source_of setting pixels) component 0 (plain-of setting pixels component));
}

-- a difference tile on the record of the last level
pub difference-goes : (c : Cell) (rect : Rect) (tile : SourceTile) (old : TileSend) (before : Option TileState) → MayBeSent old.tile → old.tile.setting ≡ tile.setting
    → old.level ≡ length old.tile.setting.levels → before ≡ Some (tile_at old.tile old.level)
    → GoesOn before (record { cell = c; rect = rect; tile = difference_of tile old.tile; level = 0 })
difference-goes c rect tile old before may coded last e = record {
  transform = λ _.
      ap (λ b. fits_transform (start_of b).transform tile.setting.transform) e
      ∙ ap (λ (s : Setting). fits_transform (Some s.transform) tile.setting.transform) coded
      ∙ fits-itself tile.setting.transform;
  kept = λ component.
      ap (λ b. coefficients (part_of (start_of b) component)) e
      ∙ ap coefficients (part-at old.tile old.level component)
      ∙ ap (λ n. coefficients (record_at old.tile component n)) last
      ∙ sym (difference-kept tile old.tile component 0 may coded);
}
