-- Uncompressed data of a picture, and what they paint.
use Rattle.std.proofs.Common.{◌≡◌, ℕ, zero, suc, ◌+◌, ◌-◌, ◌*◌, ◌==◌, ◌<◌, ◌^◌, true, if◌then◌else◌, List, [], ◌∷◌, map, length, Option, Some, None, Ok, refl, sym, ap, ◌∙◌, subst, arith, eq-eqb}
use Rattle.std.specs.List.{slice_index_or}
use Rattle.std.specs.Option.{ok_or}
use Rattle.std.specs.FinMap.{get}
use Rattle.std.proofs.lemmas.List.{length-map}
use Rattle.gfx_base.specs.Format.{byte_of, format_of}
use Rattle.gfx_base.specs.Geometry.{holds, lies_in, width_of, height_of}
use Rattle.gfx_base.specs.Results.{check}
use Rattle.gfx_base.proofs.ResultLemmas.{and_then_at}
use Rattle.gfx_base.specs.declared.format.Format.{Format}
use Rattle.gfx_base.specs.declared.format.Format.TheVariants.{Xrgb, Argb}
use Rattle.gfx_base.specs.declared.geometry.Point.{Point}
use Rattle.gfx_base.specs.declared.geometry.Rect.{Rect}
use Rattle.gfx_base.specs.declared.pixel.Pixel.{Pixel}
use Rattle.gfx_base.specs.declared.refusal.Refusal.TheVariants as refusal
use Rattle.gfx_clear_store.specs.Rings.{AreRings}
use Rattle.gfx_clear.specs.declared.layer.Layer.{Layer}
use Rattle.gfx_clear.specs.State.{ClearState}
use Rattle.gfx_base.specs.Colour.{colour_of, opaque}
use Rattle.gfx_clear.specs.Painting.{scene, decoded}
use Rattle.gfx_clear.specs.Sending.{MaySend as MaySendStream, sent as stream_sent}
use Rattle.gfx_clear.proofs.Step.{painting_is_step}
use Rattle.gfx_pdu.specs.declared.pdu.Pdu.TheVariants.{WireToSurface1}
use Rattle.gfx_surface.specs.Picture.{Picture, shade, redrawn, pixel_at, overlaid, raw_pixels, no_pixel}
use Rattle.gfx_surface.proofs.PictureLemmas.{length-drawn}
use Rattle.gfx_surface_map.specs.Shown.{with_picture}
use Rattle.gfx_script.specs.declared.picture.Picture.{Picture as Source}
use Rattle.gfx_script.specs.Patterns.{pixel_of}
use Rattle.gfx_script.specs.Writes.{place_of}
use Rattle.gfx_state.specs.State.{State}
use Rattle.gfx_state.specs.Step as message
use Rattle.gfx_pdu.specs.Codecs.{UNCOMPRESSED, CLEAR_CODEC, codec_of}
use Rattle.gfx_pdu.specs.declared.codec.Codec.TheVariants.{Uncompressed, ClearCodec}
use Rattle.gfx_state.specs.Step.{data_painted, bytes_painted, stream_painted}
use Rattle.gfx_planner.specs.Pixels.{pixels_in, colours_in}
use Rattle.gfx_planner.specs.PaintMessages.{raw_bytes, paint_message}
use Rattle.gfx_planner.proofs.Ways.{shown_by}

-- data that are read back as a format keeps them
raw_back : (format : Format) (pixels : List Pixel) → raw_pixels format (raw_bytes pixels) ≡ map (shade format) pixels
unfolding raw_pixels raw_bytes
raw_back format [] = refl
raw_back format (pixel ∷ pixels) = ap (λ rest. shade format pixel ∷ rest) (raw_back format pixels)

pub length-raw_bytes : (pixels : List Pixel) → length (raw_bytes pixels) ≡ 4 * length pixels
unfolding raw_bytes
length-raw_bytes [] = refl
length-raw_bytes (pixel ∷ pixels) = omega (arith, length-raw_bytes pixels)

shade-twice : (format : Format) (pixel : Pixel) → shade format (shade format pixel) ≡ shade format pixel
shade-twice Xrgb pixel = refl
shade-twice Argb pixel = refl

shade-indexed : (format : Format) (pixels : List Pixel) (k : ℕ) → shade format (slice_index_or (map (shade format) pixels) k no_pixel) ≡ shade format (slice_index_or pixels k no_pixel)
shade-indexed format [] k = refl
shade-indexed format (pixel ∷ pixels) zero = shade-twice format pixel
shade-indexed format (pixel ∷ pixels) (suc k) = shade-indexed format pixels k

-- a surface shades what is laid on it
overlaid-shaded : (picture : Picture) (rect : Rect) (pixels : List Pixel) → overlaid picture rect (map (shade picture.format) pixels) ≡ overlaid picture rect pixels
unfolding overlaid
overlaid-shaded picture rect pixels =
    λ i. redrawn picture (λ x y. if holds rect x y then shade-indexed picture.format pixels ((y - rect.top) * width_of rect + (x - rect.left)) i else pixel_at picture x y)

pub overlaid-raw : (picture : Picture) (rect : Rect) (pixels : List Pixel) → overlaid picture rect (raw_pixels picture.format (raw_bytes pixels)) ≡ overlaid picture rect pixels
overlaid-raw picture rect pixels = ap (overlaid picture rect) (raw_back picture.format pixels) ∙ overlaid-shaded picture rect pixels

pub length-pixels_in : (picture : Source) → length (pixels_in picture) ≡ picture.width * picture.height
unfolding pixels_in
length-pixels_in picture = length-drawn picture.width picture.height (pixel_of picture)

-- a format is read back from its byte
pub format_back : (format : Format) → format_of (byte_of format) ≡ Some format
format_back Xrgb = refl
format_back Argb = refl

payload_whole : (picture : Source) (at : Point) → length (raw_bytes (pixels_in picture)) ≡ 4 * (width_of (place_of picture at) * height_of (place_of picture at))
payload_whole picture at =
    let wide : width_of (place_of picture at) ≡ picture.width = omega arith in
    let high : height_of (place_of picture at) ≡ picture.height = omega arith in
    length-raw_bytes (pixels_in picture) ∙ ap (λ n. 4 * n) (length-pixels_in picture) ∙ sym (λ i. 4 * (wide i * high i))

pub painted_raw : (state : State) (id : ℕ) (surface : Picture) (picture : Source) (at : Point) → get state.shown.surfaces id ≡ Some surface
    → lies_in surface.width surface.height (place_of picture at) ≡ true
    → message.step state (WireToSurface1 id UNCOMPRESSED (byte_of surface.format) (place_of picture at) (raw_bytes (pixels_in picture)))
    ≡ Ok (record state { shown = with_picture state.shown id (overlaid surface (place_of picture at) (pixels_in picture)) })
unfolding message.step data_painted bytes_painted codec_of
painted_raw state id surface picture at there inside =
    and_then_at (ok_or (get state.shown.surfaces id) refusal.NoSurface) surface _ (ap (λ o. ok_or o refusal.NoSurface) there)
    ∙ and_then_at (ok_or (codec_of UNCOMPRESSED) refusal.CodecRefused) Uncompressed _ refl
    ∙ and_then_at (ok_or (format_of (byte_of surface.format)) refusal.PixelFormat) surface.format _ (ap (λ o. ok_or o refusal.PixelFormat) (format_back surface.format))
    ∙ and_then_at (check refusal.RectOutside (lies_in surface.width surface.height (place_of picture at))) tt _ (ap (check refusal.RectOutside) inside)
    ∙ and_then_at (check refusal.PayloadLength (length (raw_bytes (pixels_in picture)) == 4 * (width_of (place_of picture at) * height_of (place_of picture at)))) tt _
    (ap (check refusal.PayloadLength) (eq-eqb _ _ (payload_whole picture at)))
    ∙ ap (λ z. Ok (record state { shown = with_picture state.shown id z })) (overlaid-raw surface (place_of picture at) (pixels_in picture))

-- by ClearCodec ----------------------------------------------------------------------------------------

-- the ClearCodec state once a picture is sent
abbrev pub clear_by : Option Layer → ClearState → Option ℕ → Source → ClearState
clear_by None clear glyph picture = clear
clear_by (Some layer) clear glyph picture = (stream_sent clear layer glyph picture.width picture.height (colours_in picture)).state

pub length-colours_in : (picture : Source) → length (colours_in picture) ≡ picture.width * picture.height
unfolding colours_in
length-colours_in picture = length-map (pixels_in picture) colour_of ∙ length-pixels_in picture

-- a picture that goes by a layer is drawn as it shows, and leaves the server's own stores
pub painted_clear : (state : State) (id : ℕ) (surface : Picture) (picture : Source) (at : Point) (layer : Layer) (glyph : Option ℕ) → get state.shown.surfaces id ≡ Some surface
    → lies_in surface.width surface.height (place_of picture at) ≡ true → AreRings state.clear.rings → MaySendStream picture.width picture.height (colours_in picture) glyph
    → picture.width < 2 ^ 16 → picture.height < 2 ^ 16
    → message.step state (paint_message (Some layer) state.clear glyph surface picture id at)
    ≡ Ok (record state { shown = with_picture state.shown id (overlaid surface (place_of picture at) (shown_by (Some layer) picture)); clear = clear_by (Some layer) state.clear glyph picture })
unfolding message.step data_painted stream_painted codec_of
painted_clear state id surface picture at layer glyph there inside are may wide high =
    let rect = place_of picture at in
    let colours = colours_in picture in
    let across : width_of rect ≡ picture.width = omega arith in
    let down : height_of rect ≡ picture.height = omega arith in
    let may_there = subst (λ w. MaySendStream w (height_of rect) colours glyph) (sym across) (subst (λ h. MaySendStream picture.width h colours glyph) (sym down) may) in
    let due = stream_sent state.clear layer glyph picture.width picture.height colours in
    and_then_at (ok_or (get state.shown.surfaces id) refusal.NoSurface) surface _ (ap (λ o. ok_or o refusal.NoSurface) there)
    ∙ and_then_at (ok_or (codec_of CLEAR_CODEC) refusal.CodecRefused) ClearCodec _ refl
    ∙ and_then_at (ok_or (format_of (byte_of surface.format)) refusal.PixelFormat) surface.format _ (ap (λ o. ok_or o refusal.PixelFormat) (format_back surface.format))
    ∙ and_then_at (check refusal.RectOutside (lies_in surface.width surface.height rect)) tt _ (ap (check refusal.RectOutside) inside)
    ∙ and_then_at (decoded (scene state.clear surface) rect due.bytes) (scene due.state (overlaid surface rect (map opaque colours))) _
    (painting_is_step state.clear due.state surface rect layer glyph colours due.bytes (map opaque colours) are may_there (omega (arith, across, wide)) (omega (arith, down, high))
    (λ i. stream_sent state.clear layer glyph (sym across i) (sym down i) colours) refl)
