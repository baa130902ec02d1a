-- What data do to the screen, by their codec.
use Rattle.std.proofs.Common.{◌≡◌, ◌≢◌, ◌∙◌, ◌⊎◌, inl, inr, ℕ, Bool, true, false, cond, List, Option, Some, None, Result, Ok, Err, refl, sym, ap, subst, arith}
use Rattle.std.specs.Prelude.{◌==◌, ◌||◌, if◌then◌else◌, IsTrue, IsSome, IsSomeAnd, IfSome, IfOk, OnErr}
use Rattle.std.specs.Cmp.{nat_cmp_total}
use Rattle.std.specs.Ordering.{nat_cmp, eq_by_cmp}
use Rattle.std.specs.FinMap.{FinMap, get, insert, get-insert, same_map, nat_cmp-IsAntisymmetric}
use Rattle.std.proofs.lemmas.Bool.{cases_eq}
use Rattle.std.proofs.lemmas.Bool.Decides.{nat_tests}
use Rattle.gfx_base.specs.Format.{format_of}
use Rattle.gfx_base.specs.Geometry.{lies_in}
use Rattle.gfx_base.specs.Results.{and_then}
use Rattle.gfx_base.specs.Outcome.{Applies, WantsOnlyIf}
use Rattle.gfx_base.specs.declared.answer.Cause.{Cause}
use Rattle.gfx_base.specs.declared.answer.Cause.TheVariants.{Refused, Memory}
use Rattle.gfx_base.specs.declared.answer.NoMemory.{NoMemory}
use Rattle.gfx_base.specs.declared.format.Format.{Format}
use Rattle.gfx_base.specs.declared.geometry.Rect.{Rect}
use Rattle.gfx_base.specs.declared.pixel.Pixel.{Pixel}
use Rattle.gfx_base.specs.declared.refusal.Refusal.{Refusal}
use Rattle.gfx_base.proofs.ResultLemmas.{and_then_ok, and_then_at, and_then_refused}
use Rattle.gfx_pdu.specs.declared.pdu.Pdu.TheVariants.{WireToSurface1}
use Rattle.gfx_surface.specs.Picture.{Picture, overlaid}
use Rattle.gfx_surface.proofs.PictureLemmas.{overlaid-width, overlaid-height}
use Rattle.gfx_surface_map.specs.Shown.{SurfaceMap, with_picture, AllHaveRoom}
use Rattle.gfx_surface_map.proofs.RoomLemmas.{room_drawn}
use Rattle.gfx_clear.specs.Painting.{Scene, scene, painted, decoded}
use Rattle.gfx_pdu.specs.declared.codec.Codec.{Codec}
use Rattle.gfx_pdu.specs.declared.codec.Codec.TheVariants.{Uncompressed, Video, ClearCodec}
use Rattle.gfx_pdu.specs.Codecs.{UNCOMPRESSED, VIDEO, CLEAR_CODEC, codec_of}
use Rattle.gfx_state.specs.State.{State}
use Rattle.gfx_state.specs.Step.{step, painted_by, stream_painted, data_painted}
use Rattle.gfx_base.proofs.Wanting.{wants_any}

-- data whose surface, codec, format and rectangle are good are painted by their codec
pub data_painted_by : (state : State) (id number byte : ℕ) (rect : Rect) (payload : List ℕ) (picture : Picture) (codec : Codec) (format : Format) → get state.shown.surfaces id ≡ Some picture
    → codec_of number ≡ Some codec → format_of byte ≡ Some format → lies_in picture.width picture.height rect ≡ true
    → data_painted state id number byte rect payload ≡ painted_by codec state id picture format rect payload
unfolding data_painted and_then
data_painted_by state id number byte rect payload picture codec format found built named inside = rw (found, built, named, inside) refl

-- to put what is there changes nothing
pub insert_found : {X : Type 0} (m : FinMap nat_cmp X) (k : ℕ) (v : X) → get m k ≡ Some v → insert m k v ≡ m
insert_found m k v there = same_map nat_cmp_total nat_cmp-IsAntisymmetric _ _ (λ q.
    get-insert nat_cmp_total m k v q ∙ by q (cases_eq q k))
  where
    by : (q : ℕ) → ((q ≡ k) ⊎ (q ≢ k)) → cond (eq_by_cmp nat_cmp q k) (Some v) (get m q) ≡ get m q
    by q (inl same) =
        let hit : eq_by_cmp nat_cmp q k ≡ true = grind (arith, nat_tests) in
        ap (λ b. cond b (Some v) (get m q)) hit ∙ sym (ap (get m) same ∙ there)
    by q (inr apart) =
        let miss : eq_by_cmp nat_cmp q k ≡ false = grind (arith, nat_tests) in
        ap (λ b. cond b (Some v) (get m q)) miss

-- a state once a surface shows a picture, and the streams so far have left this
abbrev pub repainted : State → ℕ → Scene → State
repainted old id new = record old { shown = with_picture old.shown id new.picture; clear = new.state }

same_picture : (old : State) (id : ℕ) (picture : Picture) (new : Scene) → get old.shown.surfaces id ≡ Some picture → new ≡ scene old.clear picture → repainted old id new ≡ old
same_picture old id picture new found same =
    ap (repainted old id) same ∙ ap (λ m. record old { shown = record old.shown { surfaces = m } }) (insert_found old.shown.surfaces id picture found)

-- what decoding a stream did to a surface it did to the state
pub stream_applies : (result : Result (Unit {0}) (Cause Refusal)) (old : State) (id : ℕ) (picture : Picture) (new : Scene) (rect : Rect) (bytes : List ℕ) → get old.shown.surfaces id ≡ Some picture
    → Applies result (scene old.clear picture) new (decoded (scene old.clear picture) rect bytes)
    → Applies result old (repainted old id new) (stream_painted old id picture rect bytes)
unfolding stream_painted
stream_applies (Ok x) old id picture new rect bytes found due = and_then_at (decoded (scene old.clear picture) rect bytes) new _ due
stream_applies (Err Memory) old id picture new rect bytes found same = same_picture old id picture new found same
stream_applies (Err (Refused r)) old id picture new rect bytes found (due, same) =
    (and_then_refused (decoded (scene old.clear picture) rect bytes) r _ due, same_picture old id picture new found same)

-- a stream that is decoded leaves the sides of a picture
decoded_sides : (old new : Scene) (rect : Rect) (bytes : List ℕ) → decoded old rect bytes ≡ Ok new → (new.picture.width ≡ old.picture.width) × (new.picture.height ≡ old.picture.height)
unfolding decoded
decoded_sides old new rect bytes e =
    let s = and_then_ok _ _ new e in
    let same : scene s.0.state (painted old.picture rect s.0) ≡ new = let last = s.2 in cc in (
      ap (λ z. z.picture.width) (sym same) ∙ overlaid-width old.picture rect _,
      ap (λ z. z.picture.height) (sym same) ∙ overlaid-height old.picture rect _,
    )

-- and so does any stream
pub applied_sides : (result : Result (Unit {0}) (Cause Refusal)) (old new : Scene) (rect : Rect) (bytes : List ℕ) → Applies result old new (decoded old rect bytes)
    → (new.picture.width ≡ old.picture.width) × (new.picture.height ≡ old.picture.height)
applied_sides (Ok x) old new rect bytes due = decoded_sides old new rect bytes due
applied_sides (Err Memory) old new rect bytes same = (ap (λ z. z.picture.width) same, ap (λ z. z.picture.height) same)
applied_sides (Err (Refused r)) old new rect bytes (due, same) = (ap (λ z. z.picture.width) same, ap (λ z. z.picture.height) same)

-- a surface that keeps its sides leaves room for all of them
pub room_repainted : (old new : SurfaceMap) (id : ℕ) (picture after : Picture) → get old.shown.surfaces id ≡ Some picture → (after.width ≡ picture.width) × (after.height ≡ picture.height)
    → new ≡ record old { shown = with_picture old.shown id after } → AllHaveRoom old → AllHaveRoom new
room_repainted old new id picture after found sides is all =
    room_drawn old new id picture after found sides.0 sides.1 (ap (λ (k : SurfaceMap). k.shown.surfaces) is) (ap (λ (k : SurfaceMap). k.room) is) all

-- and so do pixels that are put in a rectangle of it
pub room_overlaid : (old new : SurfaceMap) (id : ℕ) (rect : Rect) (pixels : List Pixel) (P : Picture → Type 0) → IsSomeAnd (get old.shown.surfaces id) P
    → IfSome (get old.shown.surfaces id) (λ picture. new ≡ record old { shown = with_picture old.shown id (overlaid picture rect pixels) }) → AllHaveRoom old → AllHaveRoom new
room_overlaid old new id rect pixels P there due all = by (get old.shown.surfaces id) refl there due
  where
    by : (found : Option Picture) → get old.shown.surfaces id ≡ found → IsSomeAnd found P
        → IfSome found (λ picture. new ≡ record old { shown = with_picture old.shown id (overlaid picture rect pixels) }) → AllHaveRoom new
    by (Some picture) found there due =
        room_repainted old new id picture (overlaid picture rect pixels) found (overlaid-width picture rect pixels, overlaid-height picture rect pixels) due all
    by None found there due = absurd there

-- a stream is decoded ------------------------------------------------------------------------------

-- what decoding a stream does to a surface that there is
pub stream_answers : (result : Result (Unit {0}) (Cause Refusal)) (old : State) (id : ℕ) (surface : Picture) (new : Scene) (rect : Rect) (bytes : List ℕ) → get old.shown.surfaces id ≡ Some surface
    → Applies result (scene old.clear surface) new (decoded (scene old.clear surface) rect bytes)
    → IfSome (get old.shown.surfaces id) (λ picture. Applies result old (repainted old id new) (stream_painted old id picture rect bytes))
stream_answers result old id surface new rect bytes found due =
    subst (λ z. IfSome z (λ picture. Applies result old (repainted old id new) (stream_painted old id picture rect bytes))) (sym found)
    (stream_applies result old id surface new rect bytes found due)

-- this codec may take memory
by_id : (plain video clear : Bool) → (if plain then Some Uncompressed else if video then Some Video else if clear then Some ClearCodec else None) ≡ Some ClearCodec → clear || video ≡ true
by_id true video clear e = absurd cc
by_id false true clear e = absurd cc
by_id false false true e = refl
by_id false false false e = absurd cc

-- and so may this one
by_video : (plain video clear : Bool) → (if plain then Some Uncompressed else if video then Some Video else if clear then Some ClearCodec else None) ≡ Some Video → clear || video ≡ true
by_video true video clear e = absurd cc
by_video false true true e = refl
by_video false true false e = refl
by_video false false true e = absurd cc
by_video false false false e = absurd cc

pub stream_wants : (result : Result (Unit {0}) (Cause Refusal)) (number : ℕ) → codec_of number ≡ Some ClearCodec → WantsOnlyIf result (number == CLEAR_CODEC || number == VIDEO)
unfolding codec_of
stream_wants result number built = wants_any result (number == CLEAR_CODEC || number == VIDEO) (by_id (number == UNCOMPRESSED) (number == VIDEO) (number == CLEAR_CODEC) built)

pub video_wants : (result : Result (Unit {0}) (Cause Refusal)) (number : ℕ) → codec_of number ≡ Some Video → WantsOnlyIf result (number == CLEAR_CODEC || number == VIDEO)
unfolding codec_of
video_wants result number built = wants_any result (number == CLEAR_CODEC || number == VIDEO) (by_video (number == UNCOMPRESSED) (number == VIDEO) (number == CLEAR_CODEC) built)

-- a picture is sent --------------------------------------------------------------------------------

by_format : (found : Option Format) → IsSome found → (format : Format) × (found ≡ Some format)
by_format (Some format) some = (format, refl)
by_format None some = absurd cc

-- a stream that is decoded so is the step of its message
stream_steps : (old : State) (id byte : ℕ) (picture : Picture) (new : Scene) (rect : Rect) (bytes : List ℕ) → get old.shown.surfaces id ≡ Some picture → lies_in picture.width picture.height rect ≡ true
    → IsSome (format_of byte) → decoded (scene old.clear picture) rect bytes ≡ Ok new → step old (WireToSurface1 id CLEAR_CODEC byte rect bytes) ≡ Ok (repainted old id new)
unfolding step codec_of
stream_steps old id byte picture new rect bytes found inside known due =
    let format = by_format (format_of byte) known in
    data_painted_by old id CLEAR_CODEC byte rect bytes picture ClearCodec format.0 found refl format.1 inside
    ∙ stream_applies (Ok tt) old id picture new rect bytes found due

pub sent_steps : (result : Result (List ℕ) NoMemory) (old : State) (id : ℕ) (surface : Picture) (new : Scene) (rect : Rect) → get old.shown.surfaces id ≡ Some surface
    → IsSomeAnd (get old.shown.surfaces id) (λ picture. IsTrue (lies_in picture.width picture.height rect)) → IfOk result (λ bytes. decoded (scene old.clear surface) rect bytes ≡ Ok new)
    → IfOk result (λ bytes. (byte : ℕ) → IsSome (format_of byte) → step old (WireToSurface1 id CLEAR_CODEC byte rect bytes) ≡ Ok (repainted old id new))
sent_steps (Ok bytes) old id surface new rect found inside due = λ byte known.
    stream_steps old id byte surface new rect bytes found (subst (λ z. IsSomeAnd z (λ picture. IsTrue (lies_in picture.width picture.height rect))) found inside) known due
sent_steps (Err none) old id surface new rect found inside due = tt

-- without memory nothing is painted
pub not_sent : (result : Result (List ℕ) NoMemory) (old : State) (id : ℕ) (surface : Picture) (new : Scene) → get old.shown.surfaces id ≡ Some surface → OnErr result (new.state ≡ old.clear)
    → OnErr result (new.picture ≡ surface) → OnErr result (repainted old id new ≡ old)
not_sent (Ok bytes) old id surface new found state picture = tt
not_sent (Err none) old id surface new found state picture = same_picture old id surface new found (λ i. scene (state i) (picture i))

pub sent_sides : (result : Result (List ℕ) NoMemory) (old new : Scene) (rect : Rect) → IfOk result (λ bytes. decoded old rect bytes ≡ Ok new) → OnErr result (new.picture ≡ old.picture)
    → (new.picture.width ≡ old.picture.width) × (new.picture.height ≡ old.picture.height)
sent_sides (Ok bytes) old new rect due same = decoded_sides old new rect bytes due
sent_sides (Err none) old new rect due same = (ap (λ z. z.width) same, ap (λ z. z.height) same)
