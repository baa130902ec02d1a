-- Each message, applied to two states that differ in pixels alone.
use Rattle.std.proofs.Common.{◌≡◌, ℕ, ◌+◌, ◌%◌, ◌^◌, not, Bool, true, List, map, Option, is_some, Result, Ok, refl, sym, ap, ◌∙◌, subst}
use Rattle.std.specs.FinMap as finmap
use Rattle.std.specs.FinMap.{FinMap}
use Rattle.std.specs.Ordering.{nat_cmp}
use Rattle.std.specs.Option.{option_map, ok_or}
use Rattle.gfx_base.specs.Results.{◌>>=◌, Has}
use Rattle.gfx_base.proofs.ResultLemmas.{chain}
use Rattle.gfx_base.proofs.ResultLemmas.{gives as gives_all}
use Rattle.gfx_base.specs.Geometry.{sized}
use Rattle.gfx_base.specs.declared.format.Format.{Format}
use Rattle.gfx_base.specs.declared.geometry.Point.{Point}
use Rattle.gfx_base.specs.declared.geometry.Rect.{Rect}
use Rattle.gfx_base.specs.declared.pixel.Pixel.{Pixel}
use Rattle.gfx_base.specs.declared.refusal.Refusal.{Refusal}
use Rattle.gfx_base.specs.declared.refusal.Refusal.TheVariants.{NoSurface, SurfaceExists, FrameOpen, FrameMismatch}
use Rattle.gfx_pdu.specs.declared.pdu.Pdu.{Pdu}
use Rattle.gfx_pdu.specs.declared.pdu.Pdu.TheVariants as pdus
use Rattle.gfx_bitmap_cache.specs.Slots.{Cached, Entry, cached, entry}
use Rattle.gfx_surface.specs.Picture.{Picture}
use Rattle.gfx_surface_map.specs.Shown.{Shown, with_picture, pixels_put}
use Rattle.gfx_surface_map.specs.Surfaces.{painted}
use Rattle.gfx_clear.specs.State.{ClearState}
use Rattle.gfx_prog_decode.specs.Records.{Records, without_context, without_surface}
use Rattle.gfx_pdu.specs.declared.codec.Codec.{Codec}
use Rattle.gfx_pdu.specs.declared.codec.Codec.TheVariants.{Uncompressed, Video, ClearCodec}
use Rattle.gfx_state.specs.State.{State, started, started_with}
use Rattle.gfx_state.specs.Alike.{Alike, outline, outlines, entry_outline, glyph_outline}
use Rattle.gfx_state.specs.Same.{StepsAlike, Wider}
use Rattle.gfx_state.specs.Step.{step, frame_started, is_open, frame_ended, showing, surface_created, rects_filled, bytes_painted, video_painted, stream_painted, painted_by, data_painted, tiles_drawn, tiles_painted, context_deleted, surface_ended, caching, image_in, rect_stored, slot_put, graphics_reset, has_small_cache, caps_confirmed}
use Rattle.gfx_state.proofs.Following.{Follows, gives, after, both}
use Rattle.gfx_alike.proofs.Surfaces.{SameOutline, repainted, for_second, both_changed, outline-painted, outline-overlaid, found_surface, same_check, same_there, ShownAlike, with_picture_alike, made_alike, deleted_alike, copied_alike, put_alike, reset_alike, mapped_alike}
use Rattle.gfx_alike.proofs.Slots.{CacheAlike, SameSlots, IsRecoloured, takes_alike, stored_alike, evicted_alike, image_alike}
use Rattle.gfx_alike.proofs.Clear.{ClearAlike, SceneAlike as StreamAlike, decoded_alike}
use Rattle.gfx_alike.proofs.Video.{video_alike}
use Rattle.gfx_alike.proofs.Progressive.{SceneAlike as TilesAlike, message_alike}

-- the parts of states -----------------------------------------------------------------------------------------

shown_of : (s t : State) → Alike s t → ShownAlike s.shown t.shown
shown_of s t a = record { surfaces = a.surfaces; output = a.output; maps = a.maps }

cache_of : (s t : State) → Alike s t → CacheAlike s.cache t.cache
cache_of s t a = record { slots = a.slots; only_small = a.only_small }

clear_of : (s t : State) → Alike s t → ClearAlike s.clear t.clear
clear_of s t a = record { rings = a.rings; glyphs = a.glyphs; expected = a.expected }

-- what is shown changes
with_shown : (s t : State) (a b : Shown) → ShownAlike a b → Alike s t → Alike (record s { shown = a }) (record t { shown = b })
with_shown s t a b shown all = record {
  surfaces = shown.surfaces;
  output = shown.output;
  maps = shown.maps;
  slots = all.slots;
  rings = all.rings;
  glyphs = all.glyphs;
  expected = all.expected;
  records = all.records;
  frame = all.frame;
  decoded = all.decoded;
  only_small = all.only_small;
}

-- what is shown changes, and what ClearCodec streams left
with_clear : (s t : State) (a b : Shown) (c d : ClearState) → ShownAlike a b → ClearAlike c d → Alike s t
    → Alike (record s { shown = a; clear = c }) (record t { shown = b; clear = d })
with_clear s t a b c d shown clear all = record {
  surfaces = shown.surfaces;
  output = shown.output;
  maps = shown.maps;
  slots = all.slots;
  rings = clear.rings;
  glyphs = clear.glyphs;
  expected = clear.expected;
  records = all.records;
  frame = all.frame;
  decoded = all.decoded;
  only_small = all.only_small;
}

-- what is shown changes, and the records
with_records : (s t : State) (a b : Shown) (these those : Records) → ShownAlike a b → these ≡ those → Alike s t
    → Alike (record s { shown = a; records = these }) (record t { shown = b; records = those })
with_records s t a b these those shown records all = record {
  surfaces = shown.surfaces;
  output = shown.output;
  maps = shown.maps;
  slots = all.slots;
  rings = all.rings;
  glyphs = all.glyphs;
  expected = all.expected;
  records = records;
  frame = all.frame;
  decoded = all.decoded;
  only_small = all.only_small;
}

-- the cache changes
with_cache : (s t : State) (c d : Cached) → CacheAlike c d → Alike s t → Alike (record s { cache = c }) (record t { cache = d })
with_cache s t c d cache all = record {
  surfaces = all.surfaces;
  output = all.output;
  maps = all.maps;
  slots = cache.slots;
  rings = all.rings;
  glyphs = all.glyphs;
  expected = all.expected;
  records = all.records;
  frame = all.frame;
  decoded = all.decoded;
  only_small = cache.only_small;
}

-- a frame begins or ends
with_frame : (s t : State) (frame : Option ℕ) (m n : ℕ) → m ≡ n → Alike s t → Alike (record s { frame = frame; decoded = m }) (record t { frame = frame; decoded = n })
with_frame s t frame m n decoded all = record {
  surfaces = all.surfaces;
  output = all.output;
  maps = all.maps;
  slots = all.slots;
  rings = all.rings;
  glyphs = all.glyphs;
  expected = all.expected;
  records = all.records;
  frame = refl;
  decoded = decoded;
  only_small = all.only_small;
}

-- what is shown -----------------------------------------------------------------------------------------------

showing_alike : (s t : State) (x y : Result Shown Refusal) → Follows ShownAlike x y → Alike s t → Follows Alike (showing s x) (showing t y)
unfolding showing
showing_alike s t x y due all =
    both ShownAlike Alike x y _ _ due (λ a b r. gives Alike _ _ (with_shown s t a b r all))

-- a surface gets a picture
drawn_alike : (s t : State) (id : ℕ) (p q : Picture) → SameOutline p q → Alike s t
    → Alike (record s { shown = with_picture s.shown id p }) (record t { shown = with_picture t.shown id q })
drawn_alike s t id p q same all = with_shown s t _ _ (with_picture_alike s.shown t.shown id p q same (shown_of s t all)) all

-- a surface is looked up
on_surface : (s t : State) (id : ℕ) (f g : Picture → Result State Refusal) → ((p : Picture) (pixels : List Pixel) → Follows Alike (f p) (g (repainted p pixels))) → Alike s t
    → Follows Alike (do
      picture ← ok_or (finmap.get s.shown.surfaces id) NoSurface
      f picture)
    (do
      picture ← ok_or (finmap.get t.shown.surfaces id) NoSurface
      g picture)
on_surface s t id f g each all =
    both SameOutline Alike _ _ f g (found_surface s.shown.surfaces t.shown.surfaces id all.surfaces) (λ p q r.
    for_second (λ z. Follows Alike (f p) (g z)) p q r (each p))

created_alike : (s t : State) (id width height byte : ℕ) → Alike s t → Follows Alike (surface_created s id width height byte) (surface_created t id width height byte)
unfolding surface_created
created_alike s t id width height byte all =
    both (λ x y. Unit {0}) Alike _ _ _ _ (same_check SurfaceExists _ _ (ap not (same_there s.shown.surfaces t.shown.surfaces id all.surfaces))) (λ x y r.
    after Alike _ _ _ (λ sides. after Alike _ _ _ (λ format.
    showing_alike s t _ _ (made_alike s.shown t.shown id width height format (shown_of s t all)) all)))

filled_alike : (s t : State) (id : ℕ) (colour : Pixel) (rects : List Rect) → Alike s t → Follows Alike (rects_filled s id colour rects) (rects_filled t id colour rects)
unfolding rects_filled
filled_alike s t id colour rects all = on_surface s t id _ _ (λ p pixels. after Alike _ _ _ (λ inside.
    gives Alike _ _ (drawn_alike s t id _ _
    (both_changed p (repainted p pixels) (λ z. painted z rects colour) (λ z. painted z rects colour) (λ z. outline-painted z rects colour) (λ z. outline-painted z rects colour) refl) all))) all

-- data --------------------------------------------------------------------------------------------------------

by_bytes_alike : (s t : State) (id : ℕ) (p q : Picture) (format : Format) (rect : Rect) (payload : List ℕ) → SameOutline p q → Alike s t
    → Follows Alike (bytes_painted s id p format rect payload) (bytes_painted t id q format rect payload)
unfolding bytes_painted
by_bytes_alike s t id p q format rect payload same all =
    after Alike _ _ _ (λ whole. gives Alike _ _ (drawn_alike s t id _ _ (outline-overlaid p rect _ ∙ same ∙ sym (outline-overlaid q rect _)) all))

by_video_alike : (s t : State) (id : ℕ) (p q : Picture) (rect : Rect) (payload : List ℕ) → SameOutline p q → Alike s t
    → Follows Alike (video_painted s id p rect payload) (video_painted t id q rect payload)
unfolding video_painted
by_video_alike s t id p q rect payload same all =
    both SameOutline Alike _ _ _ _ (video_alike rect payload p q same) (λ x y r. gives Alike _ _ (drawn_alike s t id x y r all))

by_stream_alike : (s t : State) (id : ℕ) (p q : Picture) (rect : Rect) (payload : List ℕ) → SameOutline p q → Alike s t
    → Follows Alike (stream_painted s id p rect payload) (stream_painted t id q rect payload)
unfolding stream_painted
by_stream_alike s t id p q rect payload same all =
    both StreamAlike Alike _ _ _ _ (decoded_alike s.clear t.clear p q rect payload (clear_of s t all) same) (λ x y r.
    gives Alike _ _ (with_clear s t _ _ x.state y.state (with_picture_alike s.shown t.shown id x.picture y.picture r.picture (shown_of s t all)) r.state all))

by_codec_alike : (codec : Codec) (s t : State) (id : ℕ) (p q : Picture) (format : Format) (rect : Rect) (payload : List ℕ) → SameOutline p q → Alike s t
    → Follows Alike (painted_by codec s id p format rect payload) (painted_by codec t id q format rect payload)
by_codec_alike Uncompressed s t id p q format rect payload same all = by_bytes_alike s t id p q format rect payload same all
by_codec_alike Video s t id p q format rect payload same all = by_video_alike s t id p q rect payload same all
by_codec_alike ClearCodec s t id p q format rect payload same all = by_stream_alike s t id p q rect payload same all

painted_alike : (s t : State) (id codec byte : ℕ) (rect : Rect) (payload : List ℕ) → Alike s t → Follows Alike (data_painted s id codec byte rect payload) (data_painted t id codec byte rect payload)
unfolding data_painted
painted_alike s t id codec byte rect payload all = on_surface s t id _ _ (λ p pixels.
    after Alike _ _ _ (λ built. after Alike _ _ _ (λ format. after Alike _ _ _ (λ inside.
    by_codec_alike built s t id p (repainted p pixels) format rect payload refl all)))) all

by_tiles_alike : (s t : State) (id : ℕ) (p q : Picture) (context : ℕ) (payload : List ℕ) → SameOutline p q → Alike s t
    → Follows Alike (tiles_drawn s id p context payload) (tiles_drawn t id q context payload)
unfolding tiles_drawn
by_tiles_alike s t id p q context payload same all =
    both TilesAlike Alike _ _ _ _ (message_alike _ payload _ _ (record { records = all.records; picture = same })) (λ x y r.
    gives Alike _ _ (with_records s t _ _ x.records y.records (with_picture_alike s.shown t.shown id x.picture y.picture r.picture (shown_of s t all)) r.records all))

tiles_alike : (s t : State) (id codec context byte : ℕ) (payload : List ℕ) → Alike s t
    → Follows Alike (tiles_painted s id codec context byte payload) (tiles_painted t id codec context byte payload)
unfolding tiles_painted
tiles_alike s t id codec context byte payload all = on_surface s t id _ _ (λ p pixels.
    after Alike _ _ _ (λ built. after Alike _ _ _ (λ format. by_tiles_alike s t id p (repainted p pixels) context payload refl all))) all

context_alike : (s t : State) (id context : ℕ) → Alike s t → Follows Alike (context_deleted s id context) (context_deleted t id context)
unfolding context_deleted
context_alike s t id context all =
    both (λ x y. Unit {0}) Alike _ _ _ _ (same_check NoSurface _ _ (same_there s.shown.surfaces t.shown.surfaces id all.surfaces)) (λ x y r.
    gives Alike _ _ (with_records s t s.shown t.shown _ _ (shown_of s t all) (ap (λ records. without_context records id context) all.records) all))

ended_alike : (s t : State) (id : ℕ) → Alike s t → Follows Alike (surface_ended s id) (surface_ended t id)
unfolding surface_ended
ended_alike s t id all =
    both ShownAlike Alike _ _ _ _ (deleted_alike s.shown t.shown id (shown_of s t all)) (λ a b r.
    gives Alike _ _ (with_records s t a b _ _ r (ap (λ records. without_surface records id) all.records) all))

-- the cache ---------------------------------------------------------------------------------------------------

caching_alike : (s t : State) (x y : Result Cached Refusal) → Follows CacheAlike x y → Alike s t → Follows Alike (caching s x) (caching t y)
unfolding caching
caching_alike s t x y due all = both CacheAlike Alike x y _ _ due (λ c d r. gives Alike _ _ (with_cache s t c d r all))

store_alike : (s t : State) (id key slot : ℕ) (rect : Rect) → Alike s t → Follows Alike (rect_stored s id key slot rect) (rect_stored t id key slot rect)
unfolding rect_stored
store_alike s t id key slot rect all = on_surface s t id _ _ (λ p pixels.
    both (λ x y. Unit {0}) Alike _ _ _ _ (takes_alike s.cache t.cache slot (cache_of s t all)) (λ x y r.
    after Alike _ _ _ (λ inside. caching_alike s t _ _
    (stored_alike s.cache t.cache slot (entry key (image_in p rect)) (entry key (image_in (repainted p pixels) rect)) refl (cache_of s t all)) all))) all

slot_alike : (s t : State) (slot id : ℕ) (points : List Point) → Alike s t → Follows Alike (slot_put s slot id points) (slot_put t slot id points)
unfolding slot_put
slot_alike s t slot id points all =
    both IsRecoloured Alike _ _ _ _ (image_alike s.cache t.cache slot (cache_of s t all)) (λ a b r.
    subst (λ z. Follows Alike (showing s (pixels_put s.shown id (sized a.width a.height) a.pixels points)) (showing t (pixels_put t.shown id (sized z.width z.height) z.pixels points))) r
    (showing_alike s t _ _ (put_alike s.shown t.shown id (sized a.width a.height) a.pixels b.pixels points (shown_of s t all)) all))

-- the channel -------------------------------------------------------------------------------------------------

started_alike : (s t : State) (frame : ℕ) → Alike s t → Follows Alike (frame_started s frame) (frame_started t frame)
unfolding frame_started
started_alike s t frame all =
    both (λ x y. Unit {0}) Alike _ _ _ _ (same_check FrameOpen _ _ (ap (λ frame. not (is_some frame)) all.frame)) (λ x y r.
    gives Alike _ _ (with_frame s t _ s.decoded t.decoded all.decoded all))

closed_alike : (s t : State) (frame : ℕ) → Alike s t → Follows Alike (frame_ended s frame) (frame_ended t frame)
unfolding frame_ended
closed_alike s t frame all =
    both (λ x y. Unit {0}) Alike _ _ _ _ (same_check FrameMismatch _ _ (ap (λ begun. is_open begun frame) all.frame)) (λ x y r.
    gives Alike _ _ (with_frame s t _ _ _ (ap (λ n. (n + 1) % 2 ^ 32) all.decoded) all))

graphics_alike : (s t : State) (width height : ℕ) → Alike s t → Follows Alike (graphics_reset s width height) (graphics_reset t width height)
unfolding graphics_reset
graphics_alike s t width height all =
    both ShownAlike Alike _ _ _ _ (reset_alike s.shown t.shown width height (shown_of s t all)) (λ a b r.
    gives Alike _ _ (with_clear s t a b _ _ r (record { rings = all.rings; glyphs = all.glyphs; expected = refl }) all))

-- both get the limits of the message
confirmed_alike : (s t : State) (version : ℕ) (flags : List ℕ) → Alike s t → Follows Alike (caps_confirmed s version flags) (caps_confirmed t version flags)
unfolding caps_confirmed
confirmed_alike s t version flags all =
    after Alike _ _ _ (λ known. gives Alike _ _ (with_cache s t _ _ (record { slots = all.slots; only_small = λ e. e }) all))

-- any message -------------------------------------------------------------------------------------------------

step_follows : (s t : State) (pdu : Pdu) → Alike s t → Follows Alike (step s pdu) (step t pdu)
unfolding step
step_follows s t (pdus.WireToSurface1 surface codec format rect payload) all = painted_alike s t surface codec format rect payload all
step_follows s t (pdus.WireToSurface2 surface codec context format payload) all = tiles_alike s t surface codec context format payload all
step_follows s t (pdus.DeleteEncodingContext surface context) all = context_alike s t surface context all
step_follows s t (pdus.SolidFill surface colour rects) all = filled_alike s t surface colour rects all
step_follows s t (pdus.SurfaceToSurface source destination rect points) all =
    showing_alike s t _ _ (copied_alike s.shown t.shown source destination rect points (shown_of s t all)) all
step_follows s t (pdus.SurfaceToCache surface key slot rect) all = store_alike s t surface key slot rect all
step_follows s t (pdus.CacheToSurface slot surface points) all = slot_alike s t slot surface points all
step_follows s t (pdus.EvictCacheEntry slot) all = caching_alike s t _ _ (evicted_alike s.cache t.cache slot (cache_of s t all)) all
step_follows s t (pdus.CreateSurface id width height format) all = created_alike s t id width height format all
step_follows s t (pdus.DeleteSurface id) all = ended_alike s t id all
step_follows s t (pdus.StartFrame timestamp frame) all = started_alike s t frame all
step_follows s t (pdus.EndFrame frame) all = closed_alike s t frame all
step_follows s t (pdus.ResetGraphics width height monitors) all = graphics_alike s t width height all
step_follows s t (pdus.MapSurfaceToOutput id reserved x y) all =
    showing_alike s t _ _ (mapped_alike s.shown t.shown id (record { x = x; y = y }) (shown_of s t all)) all
step_follows s t (pdus.CapsConfirm version flags) all = confirmed_alike s t version flags all

pub alike_steps : StepsAlike Alike
alike_steps = record { steps = λ s after t pdu e all. (step_follows s t pdu all).each after e; decoded = λ s t all. all.decoded }

-- where a session starts --------------------------------------------------------------------------------------

-- states that are equal but for the word small
pub wider_is_alike : (s t : State) → Wider s t → Alike s t
wider_is_alike s t w = record {
  surfaces = ap (λ shown. outlines outline shown.surfaces) w.shown;
  output = ap (λ shown. shown.output) w.shown;
  maps = ap (λ shown. shown.maps) w.shown;
  slots = ap (outlines entry_outline) w.slots;
  rings = ap (λ clear. clear.rings) w.clear;
  glyphs = ap (λ clear. map (option_map glyph_outline) clear.glyphs) w.clear;
  expected = ap (λ clear. clear.expected) w.clear;
  records = w.records;
  frame = w.frame;
  decoded = w.decoded;
  only_small = w.only_small;
}

pub alike_itself : (s : State) → Alike s s
alike_itself s = record {
  surfaces = refl;
  output = refl;
  maps = refl;
  slots = refl;
  rings = refl;
  glyphs = refl;
  expected = refl;
  records = refl;
  frame = refl;
  decoded = refl;
  only_small = λ e. e;
}

-- bitmaps of the same keys and sides, and all else as at any start
pub starts_are_alike : (these those : FinMap nat_cmp Entry) (small : Bool) → SameSlots these those → Alike (started_with these small) (started_with those small)
starts_are_alike these those small same =
    with_cache (started small) (started small) (cached these small) (cached those small) (record { slots = same; only_small = λ e. e }) (alike_itself (started small))

-- the second takes the limits of a confirmed version, which bind it only where they bind the first
confirmed_follows : (s t : State) (version : ℕ) (flags : List ℕ) → (has_small_cache flags ≡ true → s.cache.small ≡ true) → Alike s t
    → Has (caps_confirmed t version flags) (Alike s)
unfolding caps_confirmed
confirmed_follows s t version flags only all =
    chain _ _ (Alike s) (λ known e. gives_all _ (Alike s) (with_cache s t s.cache (cached t.cache.slots (has_small_cache flags)) (record { slots = all.slots; only_small = only }) all))

pub alike_confirmed : (s t : State) (version : ℕ) (flags : List ℕ) (after : State) → caps_confirmed t version flags ≡ Ok after
    → (has_small_cache flags ≡ true → s.cache.small ≡ true) → Alike s t → Alike s after
alike_confirmed s t version flags after e only all = (confirmed_follows s t version flags only all).each after e
