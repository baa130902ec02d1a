-- To a thin client nothing goes in passes.
use Rattle.std.proofs.Common.{◌≡◌, ◌∙◌, ℕ, ◌==◌, true, false, not, List, [], ◌∷◌, fold, Option, Some, None, refl, sym, ap, subst}
use Rattle.std.specs.FinMap.{get, get-empty}
use Rattle.std.specs.List.{filter_map, slice_get}
use Rattle.std.specs.Option.{option_and_then}
use Rattle.gfx_base.specs.declared.geometry.Cell.{Cell}
use Rattle.gfx_base.specs.Cells.{cells_met}
use Rattle.gfx_base.specs.Geometry.{sized}
use Rattle.gfx_prog_live.specs.Cells.{cell_key}
use Rattle.gfx_prog_live.specs.Live.{Live, Passes, improved_sends, passes_after, raised, without_surface}
use Rattle.gfx_prog_law.proofs.Kept.{retained-live}
use Rattle.gfx_prog_decode.specs.Records.{key_cmp}
use Rattle.gfx_prog_encode.specs.declared.send.TileSend.{TileSend}
use Rattle.gfx_script.specs.declared.held.Sides.{Sides}
use Rattle.gfx_script.specs.declared.step.Kind.{Kind}
use Rattle.gfx_script.specs.declared.step.Kind.TheVariants.{Raw, Residual, Bands, Palette, Plain, Progressive, Video}
use Rattle.gfx_script.specs.declared.step.Step.{Step}
use Rattle.gfx_script.specs.declared.step.Step.TheVariants.{Delete, Improve, Paint}
use Rattle.gfx_script.specs.Kinds.{KindedStep}
use Rattle.gfx_script.specs.Scripted.{Script}
use Rattle.gfx_script.specs.Ways.{goes_by}
use Rattle.gfx_script.specs.Writes.{writes_by}
use Rattle.gfx_surface.specs.Picture.{Picture}
use Rattle.gfx_surface_map.specs.Surfaces.{Surfaces}
use Rattle.gfx_planner.specs.Bitmaps.{sides_kept}
use Rattle.gfx_planner.specs.TileSteps.{goes_in_passes}
use Rattle.gfx_planner.specs.Passes.{ended_by, improved_passes, passes_as}
use Rattle.gfx_planner.specs.Wanted.{Wanted, nothing_wanted}
use Rattle.gfx_planner.specs.Want.{wanted_after}
use Rattle.gfx_planner.proofs.TilesFollow.{Ends, ends-by}
use Rattle.gfx_planner.proofs.Ways.{live_left}
use Rattle.gfx_laws.specs.Thin.{NoneIsLive, ThinClientsHaveNoLiveTiles}

-- what ends leaves none where there was none
none-left : (live left : Live) → Ends live left → NoneIsLive live → NoneIsLive left
none-left live left ends none key = by (get left key) refl
  where
    by : (o : Option TileSend) → get left key ≡ o → get left key ≡ None
    by None e = e
    by (Some send) e = let both : None ≡ Some send = sym (none key) ∙ ends key send e in absurd cc

-- an improvement sends none
none-sent : (live : Live) (id : ℕ) → NoneIsLive live → (cells : List Cell) → filter_map (λ cell. option_and_then raised (get live (cell_key id cell))) cells ≡ []
none-sent live id none [] = refl
none-sent live id none (c ∷ cells) = rw (none (cell_key id c)) (none-sent live id none cells)

none-improved : (live : Live) (id width height : ℕ) → NoneIsLive live → improved_sends live id width height ≡ []
none-improved live id width height none = none-sent live id none (cells_met (sized width height))

improved-none : (passes : Passes) (id : ℕ) (o : Option Picture) → NoneIsLive passes.live → NoneIsLive (improved_passes passes id o).live
unfolding improved_passes
improved-none passes id None none = none
improved-none passes id (Some surface) none =
    subst (λ sends. NoneIsLive (passes_after id sends passes).live) (sym (none-improved passes.live id surface.width surface.height none)) none

-- no kind goes in passes to a thin client
never-in-passes : (kind : Option Kind) → goes_in_passes (goes_by true kind) ≡ false
never-in-passes None = refl
never-in-passes (Some Raw) = refl
never-in-passes (Some Residual) = refl
never-in-passes (Some Bands) = refl
never-in-passes (Some Palette) = refl
never-in-passes (Some Plain) = refl
never-in-passes (Some Progressive) = refl
never-in-passes (Some Video) = refl

step-none : (script : Script) (sides_of : ℕ → Option Sides) (surfaces : Surfaces) (passes : Passes) (kind : Option Kind) (step : Step) → script.thin ≡ true → NoneIsLive passes.live
    → NoneIsLive (passes_as script sides_of surfaces passes kind step).live
unfolding passes_as
step-none script sides_of surfaces passes kind (Delete id) thin none =
    none-left passes.live (without_surface passes.live id) (λ key send found. (retained-live passes.live (λ k. not (k.surface == id)) key send found).0) none
step-none script sides_of surfaces passes kind (Improve id) thin none = improved-none passes id (get surfaces id) none
step-none script sides_of surfaces passes kind (Paint id picture at named glyph) thin none =
    let written = writes_by script sides_of (Paint id picture at named glyph) in
    let apart : goes_in_passes (goes_by script.thin kind) ≡ false = ap (λ t. goes_in_passes (goes_by t kind)) thin ∙ never-in-passes kind in
    subst NoneIsLive (sym (live_left script passes (goes_by script.thin kind) id (slice_get script.pictures picture) at written apart).0)
    (none-left passes.live (ended_by passes written).live (ends-by passes written) none)
step-none script sides_of surfaces passes kind step thin none =
    none-left passes.live (ended_by passes (writes_by script sides_of step)).live (ends-by passes (writes_by script sides_of step)) none

steps-none : (script : Script) (wanted : Wanted) (steps : List KindedStep) → script.thin ≡ true → NoneIsLive wanted.passes.live → NoneIsLive (fold (wanted_after script) wanted steps).passes.live
steps-none script wanted [] thin none = none
steps-none script wanted (one ∷ steps) thin none =
    steps-none script (wanted_after script wanted one) steps thin
    (step-none script (sides_kept wanted.plan wanted.slots) wanted.shown.surfaces wanted.passes one.kind one.step thin none)

pub thin-none : ThinClientsHaveNoLiveTiles
thin-none script steps thin = (none, λ id width height. none-improved _ id width height none)
  where
    start : NoneIsLive (nothing_wanted script.small).passes.live
    start key = get-empty key_cmp key

    none : NoneIsLive (fold (wanted_after script) (nothing_wanted script.small) steps).passes.live
    none = steps-none script (nothing_wanted script.small) steps thin start
