-- A stream on a surface, step by step.
use Rattle.std.proofs.Common.{◌≡◌, ℕ, ◌*◌, List, map, Some, Result, Ok, Err, sym, ap, ◌∙◌, subst}
use Rattle.gfx_base.specs.declared.answer.Cause.{Cause}
use Rattle.gfx_base.specs.declared.answer.Cause.TheVariants.{Refused, Memory}
use Rattle.gfx_base.specs.declared.geometry.Rect.{Rect}
use Rattle.gfx_base.specs.declared.refusal.Refusal.{Refusal}
use Rattle.gfx_base.specs.Geometry.{width_of, height_of}
use Rattle.gfx_base.specs.Outcome.{Applies}
use Rattle.gfx_base.specs.Results.{and_then}
use Rattle.gfx_base.proofs.ResultLemmas.{and_then_at, and_then_refused}
use Rattle.gfx_surface.specs.Picture.{Picture, rect_of}
use Rattle.gfx_clear_store.specs.Rings.{Rings}
use Rattle.gfx_clear_bands.specs.Bands.{Drawing}
use Rattle.gfx_glyph.specs.Glyphs.{Slot}
use Rattle.gfx_clear.specs.declared.head.Head.{Head}
use Rattle.gfx_clear.specs.State.{ClearState, state, next_sequence}
use Rattle.gfx_clear.specs.Heads.{head}
use Rattle.gfx_clear.specs.Clear.{behind_head, undrawn, rings_before, clear, cleared}
use Rattle.gfx_clear.specs.Painting.{Scene, scene, decoded}
use Rattle.gfx_base.specs.Colour.{colour_of}
use Rattle.gfx_clear.specs.Inner.{Draws, with_drawn}
use Rattle.gfx_clear.proofs.Layers.{Refuses, refuses_first}

-- a head that is refused
pub decoded_refused : (old : ClearState) (picture : Picture) (rect : Rect) (area : ℕ) (bytes : List ℕ) (refusal : Refusal) → area ≡ width_of rect * height_of rect → head old.expected area bytes ≡ Err refusal
    → decoded (scene old picture) rect bytes ≡ Err refusal
unfolding decoded clear
decoded_refused old picture rect area bytes refusal same e =
    and_then_refused (clear old (width_of rect) (height_of rect) (map colour_of (rect_of picture rect)) bytes) refusal _
    (and_then_refused (head old.expected (width_of rect * height_of rect) bytes) refusal _ (ap (λ n. head old.expected n bytes) (sym same) ∙ e))

-- what stands behind a head, for a rectangle of a surface
abbrev pub behind : ClearState → Picture → Rect → Head → List ℕ → Result (Drawing × List Slot) Refusal
behind old picture rect start rest = behind_head start.glyph (width_of rect) (height_of rect) old.glyphs (undrawn (map colour_of (rect_of picture rect)) (rings_before start.reset old.rings)) rest

clear_behind : (old : ClearState) (picture : Picture) (rect : Rect) (area : ℕ) (bytes rest : List ℕ) (start : Head) → area ≡ width_of rect * height_of rect → head old.expected area bytes ≡ Ok (start, rest)
    → clear old (width_of rect) (height_of rect) (map colour_of (rect_of picture rect)) bytes ≡ and_then (behind old picture rect start rest) (λ next. Ok (cleared next.0 next.1 start.sequence))
unfolding clear
clear_behind old picture rect area bytes rest start same e =
    and_then_at (head old.expected (width_of rect * height_of rect) bytes) (start, rest) _ (ap (λ n. head old.expected n bytes) (sym same) ∙ e)

-- a fault behind it
pub decoded_fault : (fault : Cause Refusal) (old : ClearState) (picture : Picture) (rect : Rect) (area : ℕ) (bytes rest : List ℕ) (start : Head) → area ≡ width_of rect * height_of rect
    → head old.expected area bytes ≡ Ok (start, rest) → Refuses fault (behind old picture rect start rest) → Refuses fault (decoded (scene old picture) rect bytes)
unfolding decoded
decoded_fault fault old picture rect area bytes rest start same e g =
    refuses_first fault (clear old (width_of rect) (height_of rect) (map colour_of (rect_of picture rect)) bytes) _
    (subst (Refuses fault) (sym (clear_behind old picture rect area bytes rest start same e)) (refuses_first fault (behind old picture rect start rest) _ g))

-- and all that is drawn
pub decoded_done : (old : ClearState) (picture : Picture) (rect : Rect) (area : ℕ) (bytes rest : List ℕ) (start : Head) (new : Drawing) (glyphs : List Slot) → area ≡ width_of rect * height_of rect
    → head old.expected area bytes ≡ Ok (start, rest) → behind old picture rect start rest ≡ Ok (new, glyphs)
    → decoded (scene old picture) rect bytes ≡ Ok (scene (state new.rings glyphs (Some (next_sequence start.sequence))) (with_drawn picture rect new))
unfolding decoded
decoded_done old picture rect area bytes rest start new glyphs same e f =
    and_then_at (clear old (width_of rect) (height_of rect) (map colour_of (rect_of picture rect)) bytes) (cleared new glyphs start.sequence) _
    (clear_behind old picture rect area bytes rest start same e ∙ and_then_at (behind old picture rect start rest) (new, glyphs) _ f)

-- what drawing over rings that are begun with did
pub decoded_drawn : (old : ClearState) (picture new : Picture) (rect : Rect) (area : ℕ) (bytes rest : List ℕ) (start : Head) (held rings : Rings) (glyphs : List Slot) → area ≡ width_of rect * height_of rect
    → head old.expected area bytes ≡ Ok (start, rest) → held ≡ rings_before start.reset old.rings
    → Draws (Ok tt) rect rings old.glyphs glyphs picture new (behind_head start.glyph (width_of rect) (height_of rect) old.glyphs (undrawn (map colour_of (rect_of picture rect)) held) rest)
    → decoded (scene old picture) rect bytes ≡ Ok (scene (state rings glyphs (Some (next_sequence start.sequence))) new)
decoded_drawn old picture new rect area bytes rest start held rings glyphs same e begun d =
    decoded_done old picture rect area bytes rest start d.0 glyphs same e
    (ap (λ z. behind_head start.glyph (width_of rect) (height_of rect) old.glyphs (undrawn (map colour_of (rect_of picture rect)) z) rest) (sym begun) ∙ d.1)
    ∙ (λ i. Ok (scene (state (sym d.2 i) glyphs (Some (next_sequence start.sequence))) (sym d.3 i)))

draws_refuses : (fault : Cause Refusal) (rect : Rect) (rings : Rings) (glyphs after : List Slot) (old new : Picture) (due : Result (Drawing × List Slot) Refusal) → Draws (Err fault) rect rings glyphs after old new due
    → Refuses fault due × (after ≡ glyphs) × (new ≡ old)
draws_refuses Memory rect rings glyphs after old new due d = (tt, d.0, d.1)
draws_refuses (Refused refusal) rect rings glyphs after old new due d = d

applies_fault : (fault : Cause Refusal) (old new : Scene) (due : Result Scene Refusal) → Refuses fault due → new ≡ old → Applies (Err fault) old new due
applies_fault Memory old new due g same = same
applies_fault (Refused refusal) old new due g same = (g, same)

-- and what it did that was refused
pub decoded_undone : (fault : Cause Refusal) (old : ClearState) (picture new : Picture) (rect : Rect) (area : ℕ) (bytes rest : List ℕ) (start : Head) (held rings back : Rings) (glyphs : List Slot)
    → area ≡ width_of rect * height_of rect → head old.expected area bytes ≡ Ok (start, rest) → held ≡ rings_before start.reset old.rings → back ≡ old.rings
    → Draws (Err fault) rect rings old.glyphs glyphs picture new (behind_head start.glyph (width_of rect) (height_of rect) old.glyphs (undrawn (map colour_of (rect_of picture rect)) held) rest)
    → Applies (Err fault) (scene old picture) (scene (state back glyphs old.expected) new) (decoded (scene old picture) rect bytes)
decoded_undone fault old picture new rect area bytes rest start held rings back glyphs same e begun undone d =
    let g = draws_refuses fault rect rings old.glyphs glyphs picture new _ d in
    applies_fault fault (scene old picture) (scene (state back glyphs old.expected) new) (decoded (scene old picture) rect bytes)
    (decoded_fault fault old picture rect area bytes rest start same e
    (subst (λ z. Refuses fault (behind_head start.glyph (width_of rect) (height_of rect) old.glyphs (undrawn (map colour_of (rect_of picture rect)) z) rest)) begun g.0))
    (λ i. scene (state (undone i) (g.1 i) old.expected) (g.2 i))
