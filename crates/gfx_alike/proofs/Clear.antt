-- A ClearCodec stream over other pixels, with glyphs that differ in pixels alone: it is accepted alike, and leaves the same
-- rings. Two drawings are followed by their rings alone, since nothing else of them is read by a check.
use Rattle.std.proofs.Common.{◌≡◌, ℕ, zero, suc, ◌+◌, ◌*◌, Bool, true, false, cond, List, [], ◌∷◌, length, map, Option, Some, None, Result, Ok, Err, refl, sym, ap, ◌∙◌, subst}
use Rattle.std.specs.Int.{w16}
use Rattle.std.specs.Prelude.{nat_eq, nat_lt, slice_index, slice_index_or, slice_set, ◌&&◌, if◌then◌else◌}
use Rattle.std.specs.Option.{option_map}
use Rattle.std.proofs.lemmas.List.{map-set}
use Rattle.std.proofs.Math.ListN.{get_or-map}
use Rattle.gfx_base.specs.Field.{number_at}
use Rattle.gfx_base.specs.Results.{and_then, Has}
use Rattle.gfx_base.proofs.ResultLemmas.{chain}
use Rattle.gfx_base.proofs.ResultLemmas.{gives as gives_all}
use Rattle.gfx_base.proofs.ResultLemmas.{never as never_any}
use Rattle.gfx_base.specs.declared.geometry.Rect.{Rect}
use Rattle.gfx_base.specs.declared.pixel.Rgb.{Rgb}
use Rattle.gfx_base.specs.declared.refusal.Refusal.{Refusal}
use Rattle.gfx_base.specs.declared.refusal.Refusal.TheVariants.{GlyphIndex, GlyphArea, GlyphEmpty, GlyphSize}
use Rattle.gfx_clear_bands.specs.Bars.{bar}
use Rattle.gfx_clear_bands.specs.Bands.{Drawing, Stop, here, drawn_down, band_head, height_of, draws_bar, columns, one_band, bands_within}
use Rattle.gfx_glyph.specs.declared.glyph.Glyph.{Glyph}
use Rattle.gfx_glyph.specs.declared.glyphs.TheConstants.{PLACES, MOST_AREA}
use Rattle.gfx_glyph.specs.Glyphs.{Slot, glyph, slot_at, stored, drawn, shown}
use Rattle.gfx_clear.specs.Heads.{head, glyph_use, is_set}
use Rattle.gfx_clear.specs.Clear.{layered, drawn_in_layers, drawn_by_index, drawn_as, glyphs_after, with_glyphs, behind_head, Cleared, clear}
use Rattle.gfx_clear.specs.Painting.{Scene, scene, decoded}
use Rattle.gfx_clear.specs.Parts.{Parts, residual, banded}
use Rattle.gfx_clear.specs.State.{ClearState, state}
use Rattle.gfx_clear.specs.Subcodecs.{rows_drawn, subcodec, subcodecs_within}
use Rattle.gfx_surface.specs.Picture.{Picture}
use Rattle.gfx_state.specs.Alike.{glyph_outline}
use Rattle.gfx_state.proofs.Following.{Follows, gives, never, after, both}
use Rattle.gfx_alike.proofs.Surfaces.{SameOutline, outline-overlaid}

-- glyphs ------------------------------------------------------------------------------------------------------

-- what a slot holds differs in pixels alone
abbrev SameSlot : Slot → Slot → Type 0
SameSlot x y = option_map glyph_outline x ≡ option_map glyph_outline y

-- so does what all slots hold
abbrev pub SameGlyphs : List Slot → List Slot → Type 0
SameGlyphs gs hs = map (option_map glyph_outline) gs ≡ map (option_map glyph_outline) hs

same_slot : (gs hs : List Slot) (index : ℕ) → SameGlyphs gs hs → SameSlot (slot_at gs index) (slot_at hs index)
same_slot gs hs index same =
    sym (get_or-map (option_map glyph_outline) gs index None) ∙ ap (λ slots. slice_index_or slots index None) same
    ∙ get_or-map (option_map glyph_outline) hs index None

same_set : (gs hs : List Slot) (index : ℕ) (width height : ℕ) (these those : List Rgb) → SameGlyphs gs hs
    → SameGlyphs (slice_set gs index (Some (glyph width height these))) (slice_set hs index (Some (glyph width height those)))
same_set gs hs index width height these those same =
    map-set (option_map glyph_outline) gs index (Some (glyph width height these))
    ∙ ap (λ slots. slice_set slots index (Some (glyph width height []))) same
    ∙ sym (map-set (option_map glyph_outline) hs index (Some (glyph width height those)))

-- any two lists of pixels
abbrev Any : {A : Type 0} → A → A → Type 0
Any x y = Unit {0}

-- a choice of two answers by the same test
chosen : {A E : Type 0} (R : A → A → Type 0) (test : Bool) (x x' y y' : Result A E) → Follows R x x' → Follows R y y' → Follows R (cond test x y) (cond test x' y')
chosen R true x x' y y' one other = one
chosen R false x x' y y' one other = other

drawn_alike : (width height : ℕ) (x y : Slot) → SameSlot x y → Follows Any (drawn width height x) (drawn width height y)
unfolding drawn
drawn_alike width height None y same = never Any GlyphEmpty _
drawn_alike width height (Some a) None same = let h : Some (glyph_outline a) ≡ None = same in absurd cc
drawn_alike width height (Some a) (Some b) same =
    let sides : Some (glyph_outline a) ≡ Some (glyph_outline b) = same in
    let held : glyph_outline a ≡ glyph_outline b = cc in
    subst (λ (z : Glyph). Follows Any (cond (nat_eq a.width width && nat_eq a.height height) (Ok a.pixels) (Err GlyphSize)) (cond (nat_eq z.width width && nat_eq z.height height) (Ok b.pixels) (Err GlyphSize)))
    held (chosen Any (nat_eq a.width width && nat_eq a.height height) _ _ _ _ (gives Any a.pixels b.pixels tt) (never Any GlyphSize _))

shown_alike : (index width height : ℕ) (gs hs : List Slot) → SameGlyphs gs hs → Follows Any (shown index width height gs) (shown index width height hs)
unfolding shown
shown_alike index width height gs hs same =
    chosen Any (nat_lt index PLACES) _ _ _ _
    (chosen Any (nat_lt MOST_AREA (width * height)) _ _ _ _ (never Any GlyphArea _) (drawn_alike width height _ _ (same_slot gs hs index same)))
    (never Any GlyphIndex _)

stored_alike : (index width height : ℕ) (these those : List Rgb) (gs hs : List Slot) → SameGlyphs gs hs
    → Follows SameGlyphs (stored index width height these gs) (stored index width height those hs)
unfolding stored
stored_alike index width height these those gs hs same =
    chosen SameGlyphs (nat_lt index PLACES) _ _ _ _
    (chosen SameGlyphs (nat_lt MOST_AREA (width * height)) _ _ _ _ (never SameGlyphs GlyphArea _) (gives SameGlyphs _ _ (same_set gs hs index width height these those same)))
    (never SameGlyphs GlyphIndex _)

-- drawings ----------------------------------------------------------------------------------------------------

-- the same rings
abbrev SameRings : Drawing → Drawing → Type 0
SameRings a b = a.rings ≡ b.rings

-- the same rings, and the same bytes to come
record Ahead (a b : Drawing × List ℕ) : Type 0 where
  rings : a.0.rings ≡ b.0.rings
  rest : a.1 ≡ b.1

rings-drawn_down : (width at : ℕ) (pixels : List Rgb) (old : Drawing) → (drawn_down width at pixels old).rings ≡ old.rings
unfolding drawn_down
rings-drawn_down width at [] old = refl
rings-drawn_down width at (c ∷ cs) old = rings-drawn_down width (at + width) cs _

rings-rows_drawn : (across width at rows : ℕ) (pixels : List Rgb) (old : Drawing) → (rows_drawn across width at rows pixels old).rings ≡ old.rings
unfolding rows_drawn
rings-rows_drawn across width at zero pixels old = refl
rings-rows_drawn across width at (suc rows) pixels old = rings-rows_drawn across width (at + across) rows _ _

-- the same first step, of which more is known
after_that : {A B E : Type 0} (R : B → B → Type 0) (x : Result A E) (P : A → Type 0) (f g : A → Result B E) → Has x P
    → ((a : A) → P a → Follows R (f a) (g a)) → Follows R (and_then x f) (and_then x g)
unfolding and_then
after_that R (Ok a) P f g known k = k a (known.each a refl)
after_that R (Err r) P f g known k = never R r (Err r)

-- the same answer, wherever it ends the reading
heard : {A B : Type 0} (R : B → B → Type 0) (x : Result A Refusal) (a b : Drawing) (f g : A → Result B Stop) → ((y : A) → Follows R (f y) (g y))
    → Follows R (and_then (here a x) f) (and_then (here b x) g)
unfolding and_then
heard R (Ok y) a b f g rest = rest y
heard R (Err refusal) a b f g rest = never R _ _

-- a residual layer
residual_alike : (area : ℕ) (a b : Drawing) (bytes : List ℕ) → SameRings a b → Follows SameRings (residual area a bytes) (residual area b bytes)
unfolding residual
residual_alike area a b [] same = gives SameRings a b same
residual_alike area a b (byte ∷ bytes) same = after SameRings _ _ _ (λ pixels. gives SameRings _ _ same)

-- columns of a band
columns_alike : (width : ℕ) (band : _) (n x : ℕ) (a b : Drawing) (bytes : List ℕ) → SameRings a b
    → Follows Ahead (columns width band n x a bytes) (columns width band n x b bytes)
unfolding columns
columns_alike width band zero x a b bytes same = gives Ahead _ _ (record { rings = same; rest = refl })
columns_alike width band (suc n) x a b bytes same =
    subst (λ rings. Follows Ahead (columns width band (suc n) x a bytes)
    (and_then (here b (bar rings (height_of band) band.background bytes)) (λ read. columns width band n (x + 1) (draws_bar width band x b read).0 (draws_bar width band x b read).1)))
    same (heard Ahead (bar a.rings (height_of band) band.background bytes) a b _ _ (λ read.
    columns_alike width band n (x + 1) _ _ read.rest (rings-drawn_down width _ read.pixels _ ∙ sym (rings-drawn_down width _ read.pixels _))))

band_alike : (width height : ℕ) (a b : Drawing) (bytes : List ℕ) → SameRings a b → Follows Ahead (one_band width height a bytes) (one_band width height b bytes)
unfolding one_band
band_alike width height a b bytes same =
    heard Ahead (band_head width height bytes) a b _ _ (λ band. columns_alike width band _ band.left a b _ same)

bands_alike_within : (most width height : ℕ) (a b : Drawing) (bytes : List ℕ) → SameRings a b
    → Follows SameRings (bands_within most width height a bytes) (bands_within most width height b bytes)
unfolding bands_within
bands_alike_within most width height a b [] same = gives SameRings a b same
bands_alike_within zero width height a b (byte ∷ bytes) same = gives SameRings a b same
bands_alike_within (suc most) width height a b (byte ∷ bytes) same =
    both Ahead SameRings _ _ _ _ (band_alike width height a b (byte ∷ bytes) same) (λ x y r.
    subst (λ rest. Follows SameRings (bands_within most width height x.0 x.1) (bands_within most width height y.0 rest)) r.rest
    (bands_alike_within most width height x.0 y.0 x.1 r.rings))

-- why bands stop is told without where
banded_alike : (x y : Result Drawing Stop) → Follows SameRings x y → Follows SameRings (banded x) (banded y)
banded_alike (Ok a) (Ok b) same = let given = same.each a refl in let is : b ≡ given.0 = let h = given.1 in cc in gives SameRings a b (given.2 ∙ ap (λ z. z.rings) (sym is))
banded_alike (Ok a) (Err stop) same = let given = same.each a refl in let h = given.1 in absurd cc
banded_alike (Err stop) y same = never SameRings _ _

-- subcodecs
subcodec_alike : (width height : ℕ) (a b : Drawing) (bytes : List ℕ) → SameRings a b → Follows Ahead (subcodec width height a bytes) (subcodec width height b bytes)
unfolding subcodec
subcodec_alike width height a b bytes same =
    after Ahead _ _ _ (λ area. after Ahead _ _ _ (λ pixels. gives Ahead _ _ (record {
      rings = rings-rows_drawn width area.width (area.y * width + area.x) area.height pixels a ∙ same ∙ sym (rings-rows_drawn width area.width (area.y * width + area.x) area.height pixels b);
      rest = refl;
    })))

subcodecs_alike : (most width height : ℕ) (a b : Drawing) (bytes : List ℕ) → SameRings a b
    → Follows SameRings (subcodecs_within most width height a bytes) (subcodecs_within most width height b bytes)
unfolding subcodecs_within
subcodecs_alike most width height a b [] same = gives SameRings a b same
subcodecs_alike zero width height a b (byte ∷ bytes) same = gives SameRings a b same
subcodecs_alike (suc most) width height a b (byte ∷ bytes) same =
    both Ahead SameRings _ _ _ _ (subcodec_alike width height a b (byte ∷ bytes) same) (λ x y r.
    subst (λ rest. Follows SameRings (subcodecs_within most width height x.0 x.1) (subcodecs_within most width height y.0 rest)) r.rest
    (subcodecs_alike most width height x.0 y.0 x.1 r.rings))

-- behind the head ---------------------------------------------------------------------------------------------

layered_alike : (width height : ℕ) (a b : Drawing) (ps : Parts) → SameRings a b → Follows SameRings (layered width height a ps) (layered width height b ps)
unfolding layered
layered_alike width height a b ps same =
    both SameRings SameRings _ _ _ _ (residual_alike (width * height) a b ps.residual same) (λ c d r.
    both SameRings SameRings _ _ _ _ (banded_alike _ _ (bands_alike_within (length ps.bands) width height c d ps.bands r)) (λ e f t.
    subcodecs_alike (length ps.subcodecs) width height e f ps.subcodecs t))

in_layers_alike : (width height : ℕ) (a b : Drawing) (bytes : List ℕ) → SameRings a b
    → Follows SameRings (drawn_in_layers width height a bytes) (drawn_in_layers width height b bytes)
unfolding drawn_in_layers
in_layers_alike width height a b bytes same = after SameRings _ _ _ (λ ps. layered_alike width height a b ps same)

by_index_alike : (index width height : ℕ) (gs hs : List Slot) (a b : Drawing) (bytes : List ℕ) → SameGlyphs gs hs → SameRings a b
    → Follows SameRings (drawn_by_index index width height gs a bytes) (drawn_by_index index width height hs b bytes)
unfolding drawn_by_index
by_index_alike index width height gs hs a b bytes glyphs same =
    after SameRings _ _ _ (λ ended. both Any SameRings _ _ _ _ (shown_alike index width height gs hs glyphs) (λ x y r. gives SameRings _ _ same))

-- the same rings, and glyphs that differ in pixels alone
record Drawn (x y : Drawing × List Slot) : Type 0 where
  rings : x.0.rings ≡ y.0.rings
  glyphs : SameGlyphs x.1 y.1

-- behind a head of any kind, by what is drawn and which glyphs are left
behind_alike : (kind : _) (width height : ℕ) (gs hs : List Slot) (a b : Drawing) (bytes : List ℕ)
    → Follows SameRings (drawn_as kind width height gs a bytes) (drawn_as kind width height hs b bytes)
    → ((these those : List Rgb) → Follows SameGlyphs (glyphs_after kind width height these gs) (glyphs_after kind width height those hs))
    → Follows Drawn (behind_head kind width height gs a bytes) (behind_head kind width height hs b bytes)
unfolding behind_head with_glyphs
behind_alike kind width height gs hs a b bytes draws leaves =
    both SameRings Drawn _ _ _ _ draws (λ x y r.
    both SameGlyphs Drawn _ _ _ _ (leaves x.colours y.colours) (λ left right t.
    gives Drawn _ _ (record { rings = r; glyphs = t })))

-- streams -----------------------------------------------------------------------------------------------------

-- what streams left differs in the pixels of glyphs alone
pub record ClearAlike (a b : ClearState) : Type 0 where
  pub rings : a.rings ≡ b.rings
  pub glyphs : SameGlyphs a.glyphs b.glyphs
  pub expected : a.expected ≡ b.expected

-- a choice by two flags
by_flags : {A E : Type 0} (P : A → Type 0) (indexed hit : Bool) (shows stores unused : A) (refusal : E) → P shows → P stores → P unused
    → Has (if indexed then Ok (if hit then shows else stores) else (if hit then Err refusal else Ok unused)) P
by_flags P true true shows stores unused refusal one two three = gives_all shows P one
by_flags P true false shows stores unused refusal one two three = gives_all stores P two
by_flags P false true shows stores unused refusal one two three = never_any refusal P
by_flags P false false shows stores unused refusal one two three = gives_all unused P three

-- the three kinds of use have no names outside of their crate: what holds of those that the flags 3, 1 and 0 say, to show
-- an index, to store it and to leave it, holds of that which any flags say
kinds : (P : _ → Type 0) (flags index : ℕ) → Has (glyph_use 3 index) P → Has (glyph_use 1 index) P → Has (glyph_use 0 index) P → Has (glyph_use flags index) P
kinds P flags index shows stores unused = by_flags P (is_set 1 flags) (is_set 2 flags) _ _ _ _ (shows.each _ refl) (stores.each _ refl) (unused.each _ refl)

kind_alike : (flags index width height : ℕ) (gs hs : List Slot) → SameGlyphs gs hs
    → Has (glyph_use flags index) (λ kind. (a b : Drawing) (bytes : List ℕ) → SameRings a b → Follows Drawn (behind_head kind width height gs a bytes) (behind_head kind width height hs b bytes))
kind_alike flags index width height gs hs same = kinds _ flags index
    (gives_all _ _ (λ a b bytes r. behind_alike _ width height gs hs a b bytes (by_index_alike index width height gs hs a b bytes same r) (λ left right. gives SameGlyphs gs hs same)))
    (gives_all _ _ (λ a b bytes r. behind_alike _ width height gs hs a b bytes (in_layers_alike width height a b bytes r) (λ left right. stored_alike index width height left right gs hs same)))
    (gives_all _ _ (λ a b bytes r. behind_alike _ width height gs hs a b bytes (in_layers_alike width height a b bytes r) (λ left right. gives SameGlyphs gs hs same)))

head_alike : (expected : Option ℕ) (area : ℕ) (bytes : List ℕ) (width height : ℕ) (gs hs : List Slot) → SameGlyphs gs hs
    → Has (head expected area bytes) (λ start. (a b : Drawing) (more : List ℕ) → SameRings a b
    → Follows Drawn (behind_head start.0.glyph width height gs a more) (behind_head start.0.glyph width height hs b more))
unfolding head
head_alike expected area bytes width height gs hs same =
    chain _ _ _ (λ whole e. chain _ _ _ (λ kind is. chain _ _ _ (λ due e. chain _ _ _ (λ place e. chain _ _ _ (λ small e.
    gives_all _ _ ((kind_alike (slice_index bytes 0) (number_at w16 bytes 2) width height gs hs same).each kind is))))))

-- over any pixels, from one state and the same with other glyphs
clear_over : (old : ClearState) (glyphs : List Slot) (width height : ℕ) (these those : List Rgb) (bytes : List ℕ) → SameGlyphs old.glyphs glyphs
    → Follows (λ x y. ClearAlike x.state y.state) (clear old width height these bytes) (clear (state old.rings glyphs old.expected) width height those bytes)
unfolding clear
clear_over old glyphs width height these those bytes same =
    let R : Cleared → Cleared → Type 0 = λ x y. ClearAlike x.state y.state in
    after_that R _ _ _ _ (head_alike old.expected (width * height) bytes width height old.glyphs glyphs same) (λ start behind.
    both Drawn R _ _ _ _ (behind _ _ start.1 refl) (λ x y r.
    gives R _ _ (record { rings = r.rings; glyphs = r.glyphs; expected = refl })))

-- a decoder's state and its surface differ in pixels alone
pub record SceneAlike (x y : Scene) : Type 0 where
  pub state : ClearAlike x.state y.state
  pub picture : SameOutline x.picture y.picture

decoded_over : (old : ClearState) (glyphs : List Slot) (p q : Picture) (rect : Rect) (bytes : List ℕ) → SameGlyphs old.glyphs glyphs → SameOutline p q
    → Follows SceneAlike (decoded (scene old p) rect bytes) (decoded (scene (state old.rings glyphs old.expected) q) rect bytes)
unfolding decoded
decoded_over old glyphs p q rect bytes same picture =
    both (λ x y. ClearAlike x.state y.state) SceneAlike _ _ _ _ (clear_over old glyphs _ _ _ _ bytes same) (λ x y r.
    gives SceneAlike _ _ (record { state = r; picture = outline-overlaid p rect _ ∙ picture ∙ sym (outline-overlaid q rect _) }))

pub decoded_alike : (a b : ClearState) (p q : Picture) (rect : Rect) (bytes : List ℕ) → ClearAlike a b → SameOutline p q
    → Follows SceneAlike (decoded (scene a p) rect bytes) (decoded (scene b q) rect bytes)
decoded_alike a b p q rect bytes same picture =
    subst (λ z. Follows SceneAlike (decoded (scene a p) rect bytes) (decoded (scene z q) rect bytes))
    (λ i. state (same.rings i) b.glyphs (same.expected i)) (decoded_over a b.glyphs p q rect bytes same.glyphs picture)
