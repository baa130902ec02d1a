-- The numbers of the server's messages ([MS-RDPEGFX] 2.2.1.5, cmdId).
use Rattle.std.specs.Prelude.{ℕ, ◌==◌, List, [], ◌∷◌, Option}
use Rattle.std.specs.List.{find}
use Rattle.gfx_pdu.specs.declared.id.Id.{Id}
use Rattle.gfx_pdu.specs.declared.id.Id.TheVariants as ids

-- the number in a header
abbrev pub number_of : Id → ℕ
number_of ids.WireToSurface1 = 0x1
number_of ids.WireToSurface2 = 0x2
number_of ids.DeleteEncodingContext = 0x3
number_of ids.SolidFill = 0x4
number_of ids.SurfaceToSurface = 0x5
number_of ids.SurfaceToCache = 0x6
number_of ids.CacheToSurface = 0x7
number_of ids.EvictCacheEntry = 0x8
number_of ids.CreateSurface = 0x9
number_of ids.DeleteSurface = 0xA
number_of ids.StartFrame = 0xB
number_of ids.EndFrame = 0xC
number_of ids.ResetGraphics = 0xE
number_of ids.MapSurfaceToOutput = 0xF
number_of ids.CapsConfirm = 0x13

-- all of them
abbrev pub all_ids : List Id
all_ids =
    ids.WireToSurface1 ∷ ids.WireToSurface2 ∷ ids.DeleteEncodingContext ∷ ids.SolidFill
    ∷ ids.SurfaceToSurface ∷ ids.SurfaceToCache ∷ ids.CacheToSurface ∷ ids.EvictCacheEntry
    ∷ ids.CreateSurface ∷ ids.DeleteSurface ∷ ids.StartFrame ∷ ids.EndFrame ∷ ids.ResetGraphics
    ∷ ids.MapSurfaceToOutput ∷ ids.CapsConfirm ∷ []

-- the id that has this number, if one has
unfoldable pub id_of_number : ℕ → Option Id
id_of_number number = find (λ id. number_of id == number) all_ids
