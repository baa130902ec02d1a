-- The bytes of a message: its header ([MS-RDPEGFX] 2.2.1.5) and its body.
use Rattle.std.specs.Prelude.{◌≡◌, ℕ, ◌+◌, ◌-◌, ◌*◌, ◌≤◌, ◌<◌, ◌^◌, List, ◌++◌, length, replicate}
use Rattle.std.specs.List.{AllByRecursion}
use Rattle.gfx_base.specs.Geometry.{IsPoint, IsRect}
use Rattle.gfx_layout.specs.Header.{header, no_flags}
use Rattle.gfx_layout.specs.Layout.{Parts, spelled, measured}
use Rattle.gfx_pdu.specs.declared.id.Id.{Id}
use Rattle.gfx_pdu.specs.declared.id.Id.TheVariants as ids
use Rattle.gfx_pdu.specs.declared.pdu.Monitor.{Monitor}
use Rattle.gfx_pdu.specs.declared.pdu.Pdu.{Pdu}
use Rattle.gfx_pdu.specs.declared.pdu.Pdu.TheVariants.{WireToSurface1, WireToSurface2, DeleteEncodingContext, SolidFill, SurfaceToSurface, SurfaceToCache, CacheToSurface, EvictCacheEntry, CreateSurface, DeleteSurface, StartFrame, EndFrame, ResetGraphics, MapSurfaceToOutput, CapsConfirm}
use Rattle.gfx_pdu.specs.Id.{number_of}
use Rattle.gfx_pdu.specs.Layouts.{layout_of}

-- the id of a message
abbrev pub id_of : Pdu → Id
id_of (WireToSurface1 surface codec format area payload) = ids.WireToSurface1
id_of (WireToSurface2 surface codec context format payload) = ids.WireToSurface2
id_of (DeleteEncodingContext surface context) = ids.DeleteEncodingContext
id_of (SolidFill surface colour rects) = ids.SolidFill
id_of (SurfaceToSurface source destination area points) = ids.SurfaceToSurface
id_of (SurfaceToCache surface key slot area) = ids.SurfaceToCache
id_of (CacheToSurface slot surface points) = ids.CacheToSurface
id_of (EvictCacheEntry slot) = ids.EvictCacheEntry
id_of (CreateSurface id width height format) = ids.CreateSurface
id_of (DeleteSurface id) = ids.DeleteSurface
id_of (StartFrame timestamp frame) = ids.StartFrame
id_of (EndFrame frame) = ids.EndFrame
id_of (ResetGraphics width height monitors) = ids.ResetGraphics
id_of (MapSurfaceToOutput id reserved x y) = ids.MapSurfaceToOutput
id_of (CapsConfirm version payload) = ids.CapsConfirm

-- the parts of a message in the order of its layout, with this padding
abbrev pub parts_of : (pdu : Pdu) → List ℕ → Parts (layout_of (id_of pdu))
parts_of (WireToSurface1 surface codec format area payload) padding = (surface, (codec, (format, (area, (payload, tt)))))
parts_of (WireToSurface2 surface codec context format payload) padding = (surface, (codec, (context, (format, (payload, tt)))))
parts_of (DeleteEncodingContext surface context) padding = (surface, (context, tt))
parts_of (SolidFill surface colour rects) padding = (surface, (colour, (rects, tt)))
parts_of (SurfaceToSurface source destination area points) padding = (source, (destination, (area, (points, tt))))
parts_of (SurfaceToCache surface key slot area) padding = (surface, (key, (slot, (area, tt))))
parts_of (CacheToSurface slot surface points) padding = (slot, (surface, (points, tt)))
parts_of (EvictCacheEntry slot) padding = (slot, tt)
parts_of (CreateSurface id width height format) padding = (id, (width, (height, (format, tt))))
parts_of (DeleteSurface id) padding = (id, tt)
parts_of (StartFrame timestamp frame) padding = (timestamp, (frame, tt))
parts_of (EndFrame frame) padding = (frame, tt)
parts_of (ResetGraphics width height monitors) padding = (width, (height, (length monitors, (monitors, (padding, tt)))))
parts_of (MapSurfaceToOutput id reserved x y) padding = (id, (reserved, (x, (y, tt))))
parts_of (CapsConfirm version payload) padding = (version, (payload, tt))

-- how much padding a message has: ResetGraphics always has the room of 16 monitors
abbrev pub padding_of : Pdu → ℕ
padding_of (ResetGraphics width height monitors) = (16 - length monitors) * 20
padding_of pdu = 0

-- the body of a message, with this padding
abbrev pub body : Pdu → List ℕ → List ℕ
body pdu padding = spelled (layout_of (id_of pdu)) (parts_of pdu padding)

-- the padding that is written
abbrev pub no_padding : Pdu → List ℕ
no_padding pdu = replicate (padding_of pdu) 0

-- the body that is written
unfoldable pub written_body : Pdu → List ℕ
written_body pdu = body pdu (no_padding pdu)

-- how many bytes a message has, its header's 8 among them
unfoldable pub size : Pdu → ℕ
size pdu = 8 + measured (layout_of (id_of pdu)) (parts_of pdu (no_padding pdu))

-- the one spelling that is written: flags and padding are zero
unfoldable pub spelling : Pdu → List ℕ
spelling pdu = header (number_of (id_of pdu)) no_flags (size pdu) ++ written_body pdu

-- these bytes are this message; its flags and its padding may be anything
pub record Spells (bytes : List ℕ) (pdu : Pdu) : Type 0 where
  pub flags : List ℕ
  pub two : length flags ≡ 2
  pub padding : List ℕ
  pub as_long : length padding ≡ padding_of pdu
  pub bytes_are : bytes ≡ header (number_of (id_of pdu)) flags (size pdu) ++ body pdu padding

-- each count fits its field, and there are at most 16 monitors
abbrev pub CountsFit : Pdu → Type 0
CountsFit (SolidFill surface colour rects) = length rects < 2 ^ 16
CountsFit (SurfaceToSurface source destination area points) = length points < 2 ^ 16
CountsFit (CacheToSurface slot surface points) = length points < 2 ^ 16
CountsFit (ResetGraphics width height monitors) = length monitors ≤ 16
CountsFit pdu = Unit {0}

-- counts fit their fields, and so does the length
pub record IsSpellable (pdu : Pdu) : Type 0 where
  pub counts : CountsFit pdu
  pub short : size pdu < 2 ^ 32

-- a monitor's numbers fit their fields
pub record IsMonitor (monitor : Monitor) : Type 0 where
  pub left : monitor.left < 2 ^ 32
  pub top : monitor.top < 2 ^ 32
  pub right : monitor.right < 2 ^ 32
  pub bottom : monitor.bottom < 2 ^ 32
  pub flags : monitor.flags < 2 ^ 32

-- the numbers fit their fields, as all of a program's do (a byte that stands alone is written as it is)
abbrev pub NumbersFit : Pdu → Type 0
NumbersFit (WireToSurface1 surface codec format area payload) =
    (surface < 2 ^ 16) × (codec < 2 ^ 16) × IsRect area
NumbersFit (WireToSurface2 surface codec context format payload) =
    (surface < 2 ^ 16) × (codec < 2 ^ 16) × (context < 2 ^ 32)
NumbersFit (DeleteEncodingContext surface context) = (surface < 2 ^ 16) × (context < 2 ^ 32)
NumbersFit (SolidFill surface colour rects) = (surface < 2 ^ 16) × AllByRecursion IsRect rects
NumbersFit (SurfaceToSurface source destination area points) =
    (source < 2 ^ 16) × (destination < 2 ^ 16) × IsRect area × AllByRecursion IsPoint points
NumbersFit (SurfaceToCache surface key slot area) =
    (surface < 2 ^ 16) × (key < 2 ^ 64) × (slot < 2 ^ 16) × IsRect area
NumbersFit (CacheToSurface slot surface points) =
    (slot < 2 ^ 16) × (surface < 2 ^ 16) × AllByRecursion IsPoint points
NumbersFit (EvictCacheEntry slot) = slot < 2 ^ 16
NumbersFit (CreateSurface id width height format) = (id < 2 ^ 16) × (width < 2 ^ 16) × (height < 2 ^ 16)
NumbersFit (DeleteSurface id) = id < 2 ^ 16
NumbersFit (StartFrame timestamp frame) = (timestamp < 2 ^ 32) × (frame < 2 ^ 32)
NumbersFit (EndFrame frame) = frame < 2 ^ 32
NumbersFit (ResetGraphics width height monitors) =
    (width < 2 ^ 32) × (height < 2 ^ 32) × AllByRecursion IsMonitor monitors
NumbersFit (MapSurfaceToOutput id reserved x y) =
    (id < 2 ^ 16) × (reserved < 2 ^ 16) × (x < 2 ^ 32) × (y < 2 ^ 32)
NumbersFit (CapsConfirm version payload) = version < 2 ^ 32

-- all fits its field
pub record Fits (pdu : Pdu) : Type 0 where
  pub numbers : NumbersFit pdu
  pub spellable : IsSpellable pdu

-- these bytes begin with this message, which has so many of them, and all of it fits its field
pub record Begins (bytes : List ℕ) (pdu : Pdu) (count : ℕ) : Type 0 where
  pub text : List ℕ
  pub more : List ℕ
  pub cut : bytes ≡ text ++ more
  pub long : length text ≡ count
  pub spells : Spells text pdu
  pub fits : Fits pdu
