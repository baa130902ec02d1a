-- What a message does to the state, or the first reason to refuse it. A refused message changes nothing.
-- The effects are those of [MS-RDPEGFX] 3.3.5; the order of the checks is this project's own rule.
use Rattle.std.specs.Prelude.{ℕ, ◌+◌, ◌*◌, ◌%◌, ◌^◌, ◌==◌, ◌&&◌, ◌||◌, Bool, false, not, List, length, Option, Some, None, is_some, Result, Ok}
use Rattle.std.specs.List.{list_all}
use Rattle.std.specs.Option.{ok_or}
use Rattle.std.specs.FinMap as finmap
use Rattle.std.specs.Int.{w32}
use Rattle.gfx_base.specs.Results.{◌>>=◌, check}
use Rattle.gfx_base.specs.Field.{number_at}
use Rattle.gfx_base.specs.Format.{format_of}
use Rattle.gfx_base.specs.Geometry.{lies_in, width_of, height_of, sized}
use Rattle.gfx_base.specs.declared.format.Format.{Format}
use Rattle.gfx_base.specs.declared.geometry.Point.{Point}
use Rattle.gfx_base.specs.declared.geometry.Rect.{Rect}
use Rattle.gfx_base.specs.declared.pixel.Pixel.{Pixel}
use Rattle.gfx_base.specs.declared.refusal.Refusal.{Refusal}
use Rattle.gfx_base.specs.declared.refusal.Refusal.TheVariants.{NoSurface, SurfaceExists, SurfaceSize, RectOutside, PixelFormat, CodecRefused, PayloadLength, SlotRange, FrameOpen, FrameMismatch, CapsVersion}
use Rattle.gfx_caps.specs.Choice.{binds_small}
use Rattle.gfx_caps.specs.declared.versions.TheConstants.{VERSION_8, VERSION_8_1, VERSION_10, FLAGS_SIZE}
use Rattle.gfx_pdu.specs.declared.pdu.Pdu.{Pdu}
use Rattle.gfx_pdu.specs.declared.pdu.Pdu.TheVariants.{WireToSurface1, WireToSurface2, DeleteEncodingContext, SolidFill, SurfaceToSurface, SurfaceToCache, CacheToSurface, EvictCacheEntry, CreateSurface, DeleteSurface, StartFrame, EndFrame, ResetGraphics, MapSurfaceToOutput, CapsConfirm}
use Rattle.gfx_bitmap_cache.specs.Slots.{Cached, Image, cached, entry, takes_slot, stored, evicted}
use Rattle.gfx_bitmap_cache.specs.Slots.{shown as image_at}
use Rattle.gfx_surface.specs.Picture.{Picture, overlaid, raw_pixels, rect_of}
use Rattle.gfx_surface_map.specs.Surfaces.{is_size, painted}
use Rattle.gfx_surface_map.specs.Shown.{Shown, with_picture, surface_made, surface_deleted, surface_copied, pixels_put, output_reset, output_mapped}
use Rattle.gfx_clear.specs.State.{without_sequence}
use Rattle.gfx_clear.specs.Painting.{scene, decoded}
use Rattle.gfx_rfx_video.specs.Video.{after_video}
use Rattle.gfx_prog_decode.specs.Progressive.{after_message}
use Rattle.gfx_prog_decode.specs.Records.{without_context, without_surface}
use Rattle.gfx_prog_decode.specs.Scene.{scene as tiles_on}
use Rattle.gfx_pdu.specs.declared.codec.Codec.{Codec}
use Rattle.gfx_pdu.specs.declared.codec.Codec.TheVariants.{Uncompressed, Video, ClearCodec}
use Rattle.gfx_pdu.specs.Codecs.{PROGRESSIVE, codec_of}
use Rattle.gfx_state.specs.State.{State}

-- RDPGFX_START_FRAME_PDU: no frame may be open
unfoldable pub frame_started : State → ℕ → Result State Refusal
frame_started state frame = do
  free ← check FrameOpen (not (is_some state.frame))
  Ok (record state { frame = Some frame })

-- this frame is the one that is open
abbrev pub is_open : Option ℕ → ℕ → Bool
is_open None frame = false
is_open (Some begun) frame = begun == frame

-- RDPGFX_END_FRAME_PDU: this frame must be open
unfoldable pub frame_ended : State → ℕ → Result State Refusal
frame_ended state frame = do
  ended ← check FrameMismatch (is_open state.frame frame)
  Ok (record state { frame = None; decoded = (state.decoded + 1) % 2 ^ 32 })

-- only what is shown changes
unfoldable pub showing : State → Result Shown Refusal → Result State Refusal
showing state due = do
  shown ← due
  Ok (record state { shown = shown })

-- RDPGFX_CREATE_SURFACE_PDU
unfoldable pub surface_created : State → ℕ → ℕ → ℕ → ℕ → Result State Refusal
surface_created state id width height byte = do
  fresh ← check SurfaceExists (not (finmap.contains_key state.shown.surfaces id))
  sides ← check SurfaceSize (is_size width height)
  format ← ok_or (format_of byte) PixelFormat
  showing state (surface_made state.shown id width height format)

-- RDPGFX_SOLIDFILL_PDU: all rectangles are checked before any is filled
unfoldable pub rects_filled : State → ℕ → Pixel → List Rect → Result State Refusal
rects_filled state id colour rects = do
  picture ← ok_or (finmap.get state.shown.surfaces id) NoSurface
  inside ← check RectOutside (list_all (lies_in picture.width picture.height) rects)
  Ok (record state { shown = with_picture state.shown id (painted picture rects colour) })

-- uncompressed data: four bytes for each pixel, row by row
unfoldable pub bytes_painted : State → ℕ → Picture → Format → Rect → List ℕ → Result State Refusal
bytes_painted state id picture format rect payload = do
  whole ← check PayloadLength (length payload == 4 * (width_of rect * height_of rect))
  Ok (record state { shown = with_picture state.shown id (overlaid picture rect (raw_pixels format payload)) })

-- a message of RemoteFX video, which leaves nothing for later ones
unfoldable pub video_painted : State → ℕ → Picture → Rect → List ℕ → Result State Refusal
video_painted state id picture rect payload = do
  new ← after_video rect payload picture
  Ok (record state { shown = with_picture state.shown id new })

-- a ClearCodec stream, which goes on from the streams before it
unfoldable pub stream_painted : State → ℕ → Picture → Rect → List ℕ → Result State Refusal
stream_painted state id picture rect payload = do
  new ← decoded (scene state.clear picture) rect payload
  Ok (record state { shown = with_picture state.shown id new.picture; clear = new.state })

-- data by their codec
abbrev pub painted_by : Codec → State → ℕ → Picture → Format → Rect → List ℕ → Result State Refusal
painted_by Uncompressed state id picture format rect payload = bytes_painted state id picture format rect payload
painted_by Video state id picture format rect payload = video_painted state id picture rect payload
painted_by ClearCodec state id picture format rect payload = stream_painted state id picture rect payload

-- RDPGFX_WIRE_TO_SURFACE_PDU_1
unfoldable pub data_painted : State → ℕ → ℕ → ℕ → Rect → List ℕ → Result State Refusal
data_painted state id codec byte rect payload = do
  picture ← ok_or (finmap.get state.shown.surfaces id) NoSurface
  built ← ok_or (codec_of codec) CodecRefused
  format ← ok_or (format_of byte) PixelFormat
  inside ← check RectOutside (lies_in picture.width picture.height rect)
  painted_by built state id picture format rect payload

-- progressive data, which go on from the records that the messages before left
unfoldable pub tiles_drawn : State → ℕ → Picture → ℕ → List ℕ → Result State Refusal
tiles_drawn state id picture context payload = do
  new ← after_message (record { surface = id; context = context }) payload (tiles_on state.records picture)
  Ok (record state { shown = with_picture state.shown id new.picture; records = new.records })

-- RDPGFX_WIRE_TO_SURFACE_PDU_2
unfoldable pub tiles_painted : State → ℕ → ℕ → ℕ → ℕ → List ℕ → Result State Refusal
tiles_painted state id codec context byte payload = do
  picture ← ok_or (finmap.get state.shown.surfaces id) NoSurface
  built ← check CodecRefused (codec == PROGRESSIVE)
  format ← ok_or (format_of byte) PixelFormat
  tiles_drawn state id picture context payload

-- RDPGFX_DELETE_ENCODING_CONTEXT_PDU: the records of the surface's context go
unfoldable pub context_deleted : State → ℕ → ℕ → Result State Refusal
context_deleted state id context = do
  there ← check NoSurface (finmap.contains_key state.shown.surfaces id)
  Ok (record state { records = without_context state.records id context })

-- RDPGFX_DELETE_SURFACE_PDU: its records go with it
unfoldable pub surface_ended : State → ℕ → Result State Refusal
surface_ended state id = do
  shown ← surface_deleted state.shown id
  Ok (record state { shown = shown; records = without_surface state.records id })

-- only the cache changes
unfoldable pub caching : State → Result Cached Refusal → Result State Refusal
caching state due = do
  cache ← due
  Ok (record state { cache = cache })

-- a rectangle of a picture, as it stands
abbrev pub image_in : Picture → Rect → Image
image_in picture rect = record { width = width_of rect; height = height_of rect; pixels = rect_of picture rect }

-- RDPGFX_SURFACE_TO_CACHE_PDU: the slot is checked before the rectangle, the budget last
unfoldable pub rect_stored : State → ℕ → ℕ → ℕ → Rect → Result State Refusal
rect_stored state id key slot rect = do
  picture ← ok_or (finmap.get state.shown.surfaces id) NoSurface
  taken ← check SlotRange (takes_slot state.cache.small slot)
  inside ← check RectOutside (lies_in picture.width picture.height rect)
  caching state (stored state.cache slot (entry key (image_in picture rect)))

-- RDPGFX_CACHE_TO_SURFACE_PDU: the slot is checked before the surface
unfoldable pub slot_put : State → ℕ → ℕ → List Point → Result State Refusal
slot_put state slot id points = do
  image ← image_at state.cache slot
  showing state (pixels_put state.shown id (sized image.width image.height) image.pixels points)

-- RDPGFX_RESET_GRAPHICS_PDU: any ClearCodec sequence number may come next
unfoldable pub graphics_reset : State → ℕ → ℕ → Result State Refusal
graphics_reset state width height = do
  shown ← output_reset state.shown width height
  Ok (record state { shown = shown; clear = without_sequence state.clear })

-- the versions that are built
abbrev pub is_version : ℕ → Bool
is_version version = version == VERSION_8 || version == VERSION_8_1 || version == VERSION_10

-- these flags choose the small limits
abbrev pub has_small_cache : List ℕ → Bool
has_small_cache flags = binds_small (number_at w32 flags 0)

-- RDPGFX_CAPS_CONFIRM_PDU: it sets the limits of later stores
unfoldable pub caps_confirmed : State → ℕ → List ℕ → Result State Refusal
caps_confirmed state version flags = do
  known ← check CapsVersion (is_version version && length flags == FLAGS_SIZE)
  Ok (record state { cache = cached state.cache.slots (has_small_cache flags) })

-- one message
unfoldable pub step : State → Pdu → Result State Refusal
step state (WireToSurface1 surface codec format rect payload) = data_painted state surface codec format rect payload
step state (WireToSurface2 surface codec context format payload) = tiles_painted state surface codec context format payload
step state (DeleteEncodingContext surface context) = context_deleted state surface context
step state (SolidFill surface colour rects) = rects_filled state surface colour rects
step state (SurfaceToSurface source destination rect points) = showing state (surface_copied state.shown source destination rect points)
step state (SurfaceToCache surface key slot rect) = rect_stored state surface key slot rect
step state (CacheToSurface slot surface points) = slot_put state slot surface points
step state (EvictCacheEntry slot) = caching state (evicted state.cache slot)
step state (CreateSurface id width height format) = surface_created state id width height format
step state (DeleteSurface id) = surface_ended state id
step state (StartFrame timestamp frame) = frame_started state frame
step state (EndFrame frame) = frame_ended state frame
step state (ResetGraphics width height monitors) = graphics_reset state width height
step state (MapSurfaceToOutput id reserved x y) = showing state (output_mapped state.shown id (record { x = x; y = y }))
step state (CapsConfirm version flags) = caps_confirmed state version flags
