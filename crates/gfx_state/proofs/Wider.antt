-- What a state with the small limits accepts, one with the large limits accepts alike.
use Rattle.std.proofs.Common.{◌≡◌, ℕ, ◌≤◌, nat_le, Bool, true, false, cond, ◌&&◌, List, [], ◌∷◌, length, map, Result, Ok, refl, sym, ap, ◌∙◌, subst, arith, lit≤}
use Rattle.std.specs.List.{AllByRecursion, AllZip, filter}
use Rattle.std.specs.FinMap as finmap
use borrow.Author.Tests.{leb-true}
use Rattle.std.proofs.lemmas.Bool.{le-leb}
use Rattle.gfx_base.proofs.ResultLemmas.{and_then_ok, and_then_at}
use Rattle.gfx_base.specs.declared.format.Format.{Format}
use Rattle.gfx_base.specs.declared.geometry.Point.{Point}
use Rattle.gfx_base.specs.declared.geometry.Rect.{Rect}
use Rattle.gfx_base.specs.declared.pixel.Pixel.{Pixel}
use Rattle.gfx_base.specs.declared.refusal.Refusal.{Refusal}
use Rattle.gfx_base.specs.declared.refusal.Refusal.TheVariants.{SlotRange, CacheBudget}
use Rattle.gfx_pdu.specs.declared.pdu.Pdu.{Pdu}
use Rattle.gfx_pdu.specs.declared.pdu.Pdu.TheVariants as pdus
use Rattle.gfx_bitmap_cache.specs.Slots.{Cached, Entry, cached, entry, takes_slot, budget, total, stored, evicted}
use Rattle.gfx_bitmap_cache.specs.Slots.{shown as image_at}
use Rattle.gfx_bitmap_cache.specs.declared.limits.TheConstants.{MOST_SLOTS, MOST_SMALL_SLOTS, MOST_BYTES, MOST_SMALL_BYTES}
use Rattle.gfx_surface.specs.Picture.{Picture}
use Rattle.gfx_prog_decode.specs.Records.{Records, without_context, without_surface}
use Rattle.gfx_surface_map.specs.Shown.{Shown, with_picture}
use Rattle.gfx_pdu.specs.declared.codec.Codec.{Codec}
use Rattle.gfx_pdu.specs.declared.codec.Codec.TheVariants.{Uncompressed, Video, ClearCodec}
use Rattle.gfx_state.specs.State.{State, started, fresh}
use Rattle.gfx_state.specs.Same.{Same, StepsAlike, Wider}
use Rattle.gfx_state.specs.Step.{step, frame_started, frame_ended, showing, surface_created, rects_filled, bytes_painted, video_painted, stream_painted, painted_by, data_painted, tiles_drawn, tiles_painted, context_deleted, surface_ended, caching, image_in, rect_stored, slot_put, graphics_reset, caps_confirmed}
use Rattle.gfx_state.specs.Sending.{all_steps, sent, IsCarried, standing, count_after}
use Rattle.gfx_state.specs.Run.{eats}
use Rattle.gfx_pdu.specs.Spelling.{spelling}
use Rattle.gfx_state.specs.History.{Effect, effects, ends_frame, end_states, ended, spelled, ends_of}
use Rattle.gfx_state.proofs.Following.{Follows, gives, after, both, checks}
use Rattle.gfx_state.proofs.Effects.{nothing, effects_cons, ended-sent}
use Rattle.gfx_state.proofs.Sent.{all_steps-cons, eats-sent}

-- what the limits let pass ---------------------------------------------------------------------------

and_more : (a b c : Bool) → (b ≡ true → c ≡ true) → a && b ≡ true → a && c ≡ true
and_more true b c more e = more e
and_more false b c more e = e

le_more : (n most more : ℕ) → most ≤ more → nat_le n most ≡ true → nat_le n more ≡ true
le_more n most more within e = let h : n ≤ most = leb-true n most e in le-leb n more (omega arith)

-- a slot that a store takes is taken under wider limits too
pub slot_wider : (small wide : Bool) (slot : ℕ) → (wide ≡ true → small ≡ true) → takes_slot small slot ≡ true → takes_slot wide slot ≡ true
slot_wider small true slot only e = ap (λ z. takes_slot z slot) (sym (only refl)) ∙ e
slot_wider false false slot only e = e
slot_wider true false slot only e = and_more (nat_le 1 slot) (nat_le slot MOST_SMALL_SLOTS) (nat_le slot MOST_SLOTS) (le_more slot MOST_SMALL_SLOTS MOST_SLOTS (lit≤ tt)) e

-- bytes within the budget are within a wider one
pub budget_wider : (small wide : Bool) (bytes : ℕ) → (wide ≡ true → small ≡ true) → nat_le bytes (budget small) ≡ true → nat_le bytes (budget wide) ≡ true
budget_wider small true bytes only e = ap (λ z. nat_le bytes (budget z)) (sym (only refl)) ∙ e
budget_wider false false bytes only e = e
budget_wider true false bytes only e = le_more bytes MOST_SMALL_BYTES MOST_BYTES (lit≤ tt) e

-- one cache and the same with the word wide ------------------------------------------------------------

record WiderCache (c d : Cached) : Type 0 where
  slots : c.slots ≡ d.slots
  only_small : d.small ≡ true → c.small ≡ true

stored_wider : (c : Cached) (wide : Bool) (slot : ℕ) (held : Entry) → (wide ≡ true → c.small ≡ true) → Follows WiderCache (stored c slot held) (stored (cached c.slots wide) slot held)
unfolding stored
stored_wider c wide slot held only =
    both (λ x y. Unit {0}) WiderCache _ _ _ _ (checks SlotRange _ _ (slot_wider c.small wide slot only)) (λ x y r.
    both (λ x y. Unit {0}) WiderCache _ _ _ _ (checks CacheBudget _ _ (budget_wider c.small wide (total (finmap.insert c.slots slot held)) only)) (λ x y r.
    gives WiderCache _ _ (record { slots = refl; only_small = only })))

evicted_wider : (c : Cached) (wide : Bool) (slot : ℕ) → (wide ≡ true → c.small ≡ true) → Follows WiderCache (evicted c slot) (evicted (cached c.slots wide) slot)
unfolding evicted
evicted_wider c wide slot only = after WiderCache _ _ _ (λ there. gives WiderCache _ _ (record { slots = refl; only_small = only }))

-- one state and the same with the word wide ------------------------------------------------------------

abbrev limited : State → Bool → State
limited s wide = record s { cache = cached s.cache.slots wide }

-- what is shown changes alike
drawn_wider : (s : State) (wide : Bool) (shown : Shown) → (wide ≡ true → s.cache.small ≡ true) → Wider (record s { shown = shown }) (record (limited s wide) { shown = shown })
drawn_wider s wide shown only = record { shown = refl; slots = refl; clear = refl; records = refl; frame = refl; decoded = refl; only_small = only }

showing_wider : (s : State) (wide : Bool) (due : Result Shown Refusal) → (wide ≡ true → s.cache.small ≡ true) → Follows Wider (showing s due) (showing (limited s wide) due)
unfolding showing
showing_wider s wide due only = after Wider due _ _ (λ shown. gives Wider _ _ (drawn_wider s wide shown only))

caching_wider : (s : State) (wide : Bool) (due loose : Result Cached Refusal) → Follows WiderCache due loose → Follows Wider (caching s due) (caching (limited s wide) loose)
unfolding caching
caching_wider s wide due loose cache = both WiderCache Wider due loose _ _ cache (λ c d r.
    gives Wider _ _ (record { shown = refl; slots = r.slots; clear = refl; records = refl; frame = refl; decoded = refl; only_small = r.only_small }))

started_wider : (s : State) (wide : Bool) (frame : ℕ) → (wide ≡ true → s.cache.small ≡ true) → Follows Wider (frame_started s frame) (frame_started (limited s wide) frame)
unfolding frame_started
started_wider s wide frame only = after Wider _ _ _ (λ free. gives Wider _ _ (record { shown = refl; slots = refl; clear = refl; records = refl; frame = refl; decoded = refl; only_small = only }))

closed_wider : (s : State) (wide : Bool) (frame : ℕ) → (wide ≡ true → s.cache.small ≡ true) → Follows Wider (frame_ended s frame) (frame_ended (limited s wide) frame)
unfolding frame_ended
closed_wider s wide frame only = after Wider _ _ _ (λ free. gives Wider _ _ (record { shown = refl; slots = refl; clear = refl; records = refl; frame = refl; decoded = refl; only_small = only }))

created_wider : (s : State) (wide : Bool) (id width height byte : ℕ) → (wide ≡ true → s.cache.small ≡ true) → Follows Wider (surface_created s id width height byte) (surface_created (limited s wide) id width height byte)
unfolding surface_created
created_wider s wide id width height byte only =
    after Wider _ _ _ (λ fresh. after Wider _ _ _ (λ sides. after Wider _ _ _ (λ format. showing_wider s wide _ only)))

filled_wider : (s : State) (wide : Bool) (id : ℕ) (colour : Pixel) (rects : List Rect) → (wide ≡ true → s.cache.small ≡ true) → Follows Wider (rects_filled s id colour rects) (rects_filled (limited s wide) id colour rects)
unfolding rects_filled
filled_wider s wide id colour rects only =
    after Wider _ _ _ (λ picture. after Wider _ _ _ (λ inside. gives Wider _ _ (drawn_wider s wide _ only)))

by_bytes_wider : (s : State) (wide : Bool) (id : ℕ) (picture : Picture) (format : Format) (rect : Rect) (payload : List ℕ) → (wide ≡ true → s.cache.small ≡ true) → Follows Wider (bytes_painted s id picture format rect payload) (bytes_painted (limited s wide) id picture format rect payload)
unfolding bytes_painted
by_bytes_wider s wide id picture format rect payload only = after Wider _ _ _ (λ whole. gives Wider _ _ (drawn_wider s wide _ only))

-- a message of RemoteFX video is applied alike
by_video_wider : (s : State) (wide : Bool) (id : ℕ) (picture : Picture) (rect : Rect) (payload : List ℕ) → (wide ≡ true → s.cache.small ≡ true) → Follows Wider (video_painted s id picture rect payload) (video_painted (limited s wide) id picture rect payload)
unfolding video_painted
by_video_wider s wide id picture rect payload only = after Wider _ _ _ (λ new. gives Wider _ _ (drawn_wider s wide _ only))

-- a stream is decoded alike, as nothing of the cache is read
by_stream_wider : (s : State) (wide : Bool) (id : ℕ) (picture : Picture) (rect : Rect) (payload : List ℕ) → (wide ≡ true → s.cache.small ≡ true) → Follows Wider (stream_painted s id picture rect payload) (stream_painted (limited s wide) id picture rect payload)
unfolding stream_painted
by_stream_wider s wide id picture rect payload only =
    after Wider _ _ _ (λ new. gives Wider _ _ (record { shown = refl; slots = refl; clear = refl; records = refl; frame = refl; decoded = refl; only_small = only }))

by_codec_wider : (codec : Codec) (s : State) (wide : Bool) (id : ℕ) (picture : Picture) (format : Format) (rect : Rect) (payload : List ℕ) → (wide ≡ true → s.cache.small ≡ true) → Follows Wider (painted_by codec s id picture format rect payload) (painted_by codec (limited s wide) id picture format rect payload)
by_codec_wider Uncompressed s wide id picture format rect payload only = by_bytes_wider s wide id picture format rect payload only
by_codec_wider Video s wide id picture format rect payload only = by_video_wider s wide id picture rect payload only
by_codec_wider ClearCodec s wide id picture format rect payload only = by_stream_wider s wide id picture rect payload only

painted_wider : (s : State) (wide : Bool) (id codec byte : ℕ) (rect : Rect) (payload : List ℕ) → (wide ≡ true → s.cache.small ≡ true) → Follows Wider (data_painted s id codec byte rect payload) (data_painted (limited s wide) id codec byte rect payload)
unfolding data_painted
painted_wider s wide id codec byte rect payload only =
    after Wider _ _ _ (λ picture. after Wider _ _ _ (λ built. after Wider _ _ _ (λ format. after Wider _ _ _ (λ inside.
    by_codec_wider built s wide id picture format rect payload only))))

-- the records change alike, and what is shown
recorded_wider : (s : State) (wide : Bool) (shown : Shown) (records : Records) → (wide ≡ true → s.cache.small ≡ true)
    → Wider (record s { shown = shown; records = records }) (record (limited s wide) { shown = shown; records = records })
recorded_wider s wide shown records only = record { shown = refl; slots = refl; clear = refl; records = refl; frame = refl; decoded = refl; only_small = only }

by_tiles_wider : (s : State) (wide : Bool) (id : ℕ) (picture : Picture) (context : ℕ) (payload : List ℕ) → (wide ≡ true → s.cache.small ≡ true)
    → Follows Wider (tiles_drawn s id picture context payload) (tiles_drawn (limited s wide) id picture context payload)
unfolding tiles_drawn
by_tiles_wider s wide id picture context payload only =
    after Wider _ _ _ (λ new. gives Wider _ _ (recorded_wider s wide (with_picture s.shown id new.picture) new.records only))

tiles_wider : (s : State) (wide : Bool) (id codec context byte : ℕ) (payload : List ℕ) → (wide ≡ true → s.cache.small ≡ true)
    → Follows Wider (tiles_painted s id codec context byte payload) (tiles_painted (limited s wide) id codec context byte payload)
unfolding tiles_painted
tiles_wider s wide id codec context byte payload only =
    after Wider _ _ _ (λ picture. after Wider _ _ _ (λ built. after Wider _ _ _ (λ format. by_tiles_wider s wide id picture context payload only)))

context_wider : (s : State) (wide : Bool) (id context : ℕ) → (wide ≡ true → s.cache.small ≡ true) → Follows Wider (context_deleted s id context) (context_deleted (limited s wide) id context)
unfolding context_deleted
context_wider s wide id context only = after Wider _ _ _ (λ there. gives Wider _ _ (recorded_wider s wide s.shown (without_context s.records id context) only))

ended_surface_wider : (s : State) (wide : Bool) (id : ℕ) → (wide ≡ true → s.cache.small ≡ true) → Follows Wider (surface_ended s id) (surface_ended (limited s wide) id)
unfolding surface_ended
ended_surface_wider s wide id only = after Wider _ _ _ (λ shown. gives Wider _ _ (recorded_wider s wide shown (without_surface s.records id) only))

store_wider : (s : State) (wide : Bool) (id key slot : ℕ) (rect : Rect) → (wide ≡ true → s.cache.small ≡ true) → Follows Wider (rect_stored s id key slot rect) (rect_stored (limited s wide) id key slot rect)
unfolding rect_stored
store_wider s wide id key slot rect only =
    after Wider _ _ _ (λ picture. both (λ x y. Unit {0}) Wider _ _ _ _ (checks SlotRange _ _ (slot_wider s.cache.small wide slot only)) (λ x y r.
    after Wider _ _ _ (λ inside. caching_wider s wide _ _ (stored_wider s.cache wide slot (entry key (image_in picture rect)) only))))

put_wider : (s : State) (wide : Bool) (slot id : ℕ) (points : List Point) → (wide ≡ true → s.cache.small ≡ true) → Follows Wider (slot_put s slot id points) (slot_put (limited s wide) slot id points)
unfolding slot_put image_at
put_wider s wide slot id points only = after Wider _ _ _ (λ image. showing_wider s wide _ only)

reset_wider : (s : State) (wide : Bool) (width height : ℕ) → (wide ≡ true → s.cache.small ≡ true) → Follows Wider (graphics_reset s width height) (graphics_reset (limited s wide) width height)
unfolding graphics_reset
reset_wider s wide width height only =
    after Wider _ _ _ (λ shown. gives Wider _ _ (record { shown = refl; slots = refl; clear = refl; records = refl; frame = refl; decoded = refl; only_small = only }))

-- both get the limits of the message
confirmed_wider : (s : State) (wide : Bool) (version : ℕ) (flags : List ℕ) → Follows Wider (caps_confirmed s version flags) (caps_confirmed (limited s wide) version flags)
unfolding caps_confirmed
confirmed_wider s wide version flags =
    after Wider _ _ _ (λ known. gives Wider _ _ (record { shown = refl; slots = refl; clear = refl; records = refl; frame = refl; decoded = refl; only_small = λ e. e }))

limited_follows : (s : State) (wide : Bool) (pdu : Pdu) → (wide ≡ true → s.cache.small ≡ true) → Follows Wider (step s pdu) (step (limited s wide) pdu)
unfolding step
limited_follows s wide (pdus.WireToSurface1 surface codec format rect payload) only = painted_wider s wide surface codec format rect payload only
limited_follows s wide (pdus.WireToSurface2 surface codec context format payload) only = tiles_wider s wide surface codec context format payload only
limited_follows s wide (pdus.DeleteEncodingContext surface context) only = context_wider s wide surface context only
limited_follows s wide (pdus.SolidFill surface colour rects) only = filled_wider s wide surface colour rects only
limited_follows s wide (pdus.SurfaceToSurface source destination rect points) only = showing_wider s wide _ only
limited_follows s wide (pdus.SurfaceToCache surface key slot rect) only = store_wider s wide surface key slot rect only
limited_follows s wide (pdus.CacheToSurface slot surface points) only = put_wider s wide slot surface points only
limited_follows s wide (pdus.EvictCacheEntry slot) only = caching_wider s wide _ _ (evicted_wider s.cache wide slot only)
limited_follows s wide (pdus.CreateSurface id width height format) only = created_wider s wide id width height format only
limited_follows s wide (pdus.DeleteSurface id) only = ended_surface_wider s wide id only
limited_follows s wide (pdus.StartFrame timestamp frame) only = started_wider s wide frame only
limited_follows s wide (pdus.EndFrame frame) only = closed_wider s wide frame only
limited_follows s wide (pdus.ResetGraphics width height monitors) only = reset_wider s wide width height only
limited_follows s wide (pdus.MapSurfaceToOutput id reserved x y) only = showing_wider s wide _ only
limited_follows s wide (pdus.CapsConfirm version flags) only = confirmed_wider s wide version flags

-- any two states -----------------------------------------------------------------------------------------

-- a wider state is the narrower one with another word
wider_limited : (s t : State) → Wider s t → limited s t.cache.small ≡ t
wider_limited s t w = λ i. record { shown = w.shown i; cache = cached (w.slots i) t.cache.small; clear = w.clear i; records = w.records i; frame = w.frame i; decoded = w.decoded i }

-- what a state accepts a wider one accepts alike
pub step_wider : (s s' t : State) (pdu : Pdu) → step s pdu ≡ Ok s' → Wider s t → (t' : State) × (step t pdu ≡ Ok t') × Wider s' t'
step_wider s s' t pdu e w =
    (subst (λ z. Follows Wider (step s pdu) (step z pdu)) (wider_limited s t w) (limited_follows s t.cache.small pdu w.only_small)).each s' e

-- so with any relation that messages keep
pub all_steps_alike : (R : State → State → Type 0) → StepsAlike R → (s s' t : State) (pdus : List Pdu) → all_steps s pdus ≡ Ok s' → R s t → (t' : State) × (all_steps t pdus ≡ Ok t') × R s' t'
unfolding all_steps
all_steps_alike R alike s s' t [] e w = let same : s ≡ s' = cc in (t, refl, subst (λ z. R z t) same w)
all_steps_alike R alike s s' t (pdu ∷ pdus) e w =
    let first = and_then_ok (step s pdu) (λ next. all_steps next pdus) s' e in
    let one = alike.steps s first.0 t pdu first.1 w in
    let rest = all_steps_alike R alike first.0 s' one.0 pdus first.2 one.2 in
    (rest.0, and_then_at (step t pdu) one.0 (λ next. all_steps next pdus) one.1 ∙ rest.1, rest.2)

pub wider_alike : StepsAlike Wider
wider_alike = record { steps = step_wider; decoded = λ s t w. w.decoded }

pub all_steps_wider : (s s' t : State) (pdus : List Pdu) → all_steps s pdus ≡ Ok s' → Wider s t → (t' : State) × (all_steps t pdus ≡ Ok t') × Wider s' t'
all_steps_wider s s' t pdus e w = all_steps_alike Wider wider_alike s s' t pdus e w

-- messages that are sent
pub sent_wider : (s s' t : State) (applied : ℕ) (pdus : List Pdu) → AllByRecursion IsCarried pdus → all_steps s pdus ≡ Ok s' → Wider s t
    → (t' : State) × (eats (standing t applied) (sent pdus) ≡ standing t' (count_after applied pdus)) × Wider s' t'
sent_wider s s' t applied pdus carried e w =
    let all = all_steps_wider s s' t pdus e w in
    (all.0, eats-sent t all.0 applied pdus carried all.1, all.2)

pub Wider_same : (s t : State) → Wider s t → Same s t
Wider_same s t w = record { surfaces = ap (λ z. z.surfaces) w.shown; slots = w.slots; rings = ap (λ z. z.rings) w.clear; glyphs = ap (λ z. z.glyphs) w.clear }

-- a stream's state at its start accepts more than any other at a start
pub started_fresh : (small : Bool) → Wider (started small) fresh
started_fresh small = record { shown = refl; slots = refl; clear = refl; records = refl; frame = refl; decoded = refl; only_small = λ e. absurd cc }

-- the ends of frames ---------------------------------------------------------------------------------------

-- one more effect of the same message on either side
same_front : (pdu : Pdu) (size : ℕ) (s t : State) (ss ts : List Effect) → Same s t → AllZip Same (end_states ss) (end_states ts)
    → AllZip Same (end_states (record { pdu = pdu; size = size; state = s } ∷ ss)) (end_states (record { pdu = pdu; size = size; state = t } ∷ ts))
same_front pdu size s t ss ts same rest =
    elim (ends_frame pdu) as (λ b. AllZip Same (map (λ (e : Effect). e.state) (cond b (record { pdu = pdu; size = size; state = s } ∷ filter (λ e. ends_frame e.pdu) ss) (filter (λ e. ends_frame e.pdu) ss))) (map (λ (e : Effect). e.state) (cond b (record { pdu = pdu; size = size; state = t } ∷ filter (λ e. ends_frame e.pdu) ts) (filter (λ e. ends_frame e.pdu) ts)))) [
      | true ↦ (same, rest)
      | false ↦ rest
    ]

-- at each EndFrame a wider state is the same
pub ends_wider : (s s' t : State) (pdus : List Pdu) → all_steps s pdus ≡ Ok s' → Wider s t → AllZip Same (ends_of s pdus) (ends_of t pdus)
ends_wider s s' t [] e w = rw (nothing s, nothing t) tt
ends_wider s s' t (pdu ∷ pdus) e w =
    let first = all_steps-cons s s' pdu pdus e in
    let one = step_wider s first.0 t pdu first.1 w in
    let rest = ends_wider first.0 s' one.0 pdus first.2 one.2 in
    let text : Pdu × ℕ = (pdu, length (spelling pdu)) in
    rw (effects_cons s first.0 text (spelled pdus) first.1, effects_cons t one.0 text (spelled pdus) one.1)
    (same_front pdu (length (spelling pdu)) first.0 one.0 (effects first.0 (spelled pdus)) (effects one.0 (spelled pdus)) (Wider_same first.0 one.0 one.2) rest)

pub ended_wider : (s s' t : State) (applied : ℕ) (pdus : List Pdu) → AllByRecursion IsCarried pdus → all_steps s pdus ≡ Ok s' → Wider s t
    → AllZip Same (ends_of s pdus) (ended (standing t applied) (sent pdus))
ended_wider s s' t applied pdus carried e w =
    let all = all_steps_wider s s' t pdus e w in
    subst (AllZip Same (ends_of s pdus)) (sym (ended-sent t all.0 applied pdus carried all.1)) (ends_wider s s' t pdus e w)
