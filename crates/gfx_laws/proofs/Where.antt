-- Where a step writes, in the words of a script's checks.
use Rattle.std.proofs.Common.{◌≡◌, ℕ, Bool, List, [], ◌∷◌, Option, Some, None, option_map, refl, subst}
use Rattle.gfx_base.specs.declared.geometry.Point.{Point}
use Rattle.gfx_base.specs.declared.geometry.Rect.{Rect}
use Rattle.gfx_base.specs.Geometry.{sized}
use Rattle.gfx_bitmap_cache.specs.Slots.{Entry}
use Rattle.gfx_script.specs.declared.step.Step.{Step}
use Rattle.gfx_script.specs.declared.step.Step.TheVariants.{Surface, Delete, Reset, Map, Fill, Copy, Keep, Show, Forget, Paint, Improve, Frame}
use Rattle.gfx_script.specs.Kinds.{KindedStep}
use Rattle.gfx_script.specs.Scripted.{Script}
use Rattle.gfx_script.specs.Writes.{Area, area, at_each, writes_by}
use Rattle.gfx_slot_plan.specs.Plan.{slot_of}
use Rattle.gfx_planner.specs.Bitmaps.{bitmap_in, sides_in, sides_kept}
use Rattle.gfx_planner.specs.Wanted.{Wanted}
use Rattle.gfx_planner.specs.Want.{wanted_after}
use Rattle.gfx_laws.specs.Written.{AllSpare, IsBeside, Spares, laid_at_each, writes_in}

-- the rectangles of a step that is no improvement
abbrev pub writes_at : Script → Wanted → Step → Option Area
writes_at script wanted (Improve id) = None
writes_at script wanted step = writes_by script (sides_kept wanted.plan wanted.slots) step

-- a step leaves what such rectangles would end
abbrev pub SparesAt : (Rect → Bool) → ℕ → Script → Wanted → Step → Type 0
SparesAt test id script wanted (Delete other) = other ≡ id → ⊥
SparesAt test id script wanted step = IsBeside test id (writes_at script wanted step)

abbrev pub AllSpareAt : (Rect → Bool) → ℕ → Script → Wanted → List KindedStep → Type 0
AllSpareAt test id script wanted [] = Unit {0}
AllSpareAt test id script wanted (one ∷ steps) = SparesAt test id script wanted one.step × AllSpareAt test id script (wanted_after script wanted one) steps

-- the two are the same
shown-same : (o : Option Entry) (to : ℕ) (points : List Point) → option_map (λ (kept : Entry). area to (laid_at_each points kept)) o
    ≡ option_map (λ sides. area to (at_each points (sized sides.width sides.height))) (option_map sides_in o)
shown-same None to points = refl
shown-same (Some kept) to points = refl

pub writes-same : (script : Script) (wanted : Wanted) (step : Step) → writes_in script wanted step ≡ writes_at script wanted step
unfolding writes_by
writes-same script wanted (Surface id width height format) = refl
writes-same script wanted (Delete id) = refl
writes-same script wanted (Reset width height) = refl
writes-same script wanted (Map id x y) = refl
writes-same script wanted (Fill id colour rects) = refl
writes-same script wanted (Copy from to rect points) = refl
writes-same script wanted (Keep id key rect) = refl
writes-same script wanted (Show key to points) = shown-same (bitmap_in wanted.slots (slot_of key wanted.plan.places)) to points
writes-same script wanted (Forget key) = refl
writes-same script wanted (Paint id number at named glyph) = refl
writes-same script wanted (Improve id) = refl
writes-same script wanted Frame = refl

spares-at : (test : Rect → Bool) (id : ℕ) (script : Script) (wanted : Wanted) (step : Step) → Spares test id script wanted step → SparesAt test id script wanted step
spares-at test id script wanted (Delete other) spares = spares
spares-at test id script wanted step spares = subst (IsBeside test id) (writes-same script wanted step) spares

pub all-spare-at : (test : Rect → Bool) (id : ℕ) (script : Script) (wanted : Wanted) (steps : List KindedStep) → AllSpare test id script wanted steps → AllSpareAt test id script wanted steps
all-spare-at test id script wanted [] spare = tt
all-spare-at test id script wanted (one ∷ steps) spare =
    (spares-at test id script wanted one.step spare.0, all-spare-at test id script (wanted_after script wanted one) steps spare.1)
