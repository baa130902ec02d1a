-- The bodies of the server's messages, what stands behind the header ([MS-RDPEGFX] 2.2.2).
use Rattle.std.specs.Prelude.{◌-◌, ◌*◌, [], ◌∷◌, nat_le, refl}
use Rattle.gfx_base.specs.declared.refusal.Refusal.TheVariants.{MonitorCount}
use Rattle.gfx_layout.specs.Shape.{Shape, u8, u16, u32, u64}
use Rattle.gfx_layout.specs.Shapes.{pixel, point, rect}
use Rattle.gfx_layout.specs.Layout.{Layout, done, number, one, items, list, sized, bytes, must}
use Rattle.gfx_pdu.specs.declared.id.Id.{Id}
use Rattle.gfx_pdu.specs.declared.id.Id.TheVariants as ids
use Rattle.gfx_pdu.specs.declared.pdu.Monitor.{Monitor}
use Rattle.gfx_pdu.specs.declared.pdu.Pdu.{Pdu}
use Rattle.gfx_pdu.specs.declared.pdu.Pdu.TheVariants.{WireToSurface1, WireToSurface2, DeleteEncodingContext, SolidFill, SurfaceToSurface, SurfaceToCache, CacheToSurface, EvictCacheEntry, CreateSurface, DeleteSurface, StartFrame, EndFrame, ResetGraphics, MapSurfaceToOutput, CapsConfirm}

-- TS_MONITOR_DEF of [MS-RDPBCGR], 2.2.1.3.6.1
abbrev pub monitor : Shape Monitor
monitor = record {
  sizes = u32 ∷ u32 ∷ u32 ∷ u32 ∷ u32 ∷ [];
  row = λ m. (m.left, (m.top, (m.right, (m.bottom, (m.flags, tt)))));
  of_row = λ t. record { left = t.0; top = t.1.0; right = t.1.1.0; bottom = t.1.1.1.0; flags = t.1.1.1.1.0 };
  there = λ m. refl;
  back = λ t. refl;
}

-- RDPGFX_WIRE_TO_SURFACE_PDU_1, 2.2.2.1
abbrev pub wire_to_surface_1 : Layout Pdu
wire_to_surface_1 =
    number u16 λ surface. number u16 λ codec. number u8 λ format. one rect λ area. sized u32 λ payload.
    done (WireToSurface1 surface codec format area payload)

-- RDPGFX_WIRE_TO_SURFACE_PDU_2, 2.2.2.2
abbrev pub wire_to_surface_2 : Layout Pdu
wire_to_surface_2 =
    number u16 λ surface. number u16 λ codec. number u32 λ context. number u8 λ format. sized u32 λ payload.
    done (WireToSurface2 surface codec context format payload)

-- RDPGFX_DELETE_ENCODING_CONTEXT_PDU, 2.2.2.3
abbrev pub delete_encoding_context : Layout Pdu
delete_encoding_context = number u16 λ surface. number u32 λ context. done (DeleteEncodingContext surface context)

-- RDPGFX_SOLIDFILL_PDU, 2.2.2.4
abbrev pub solid_fill : Layout Pdu
solid_fill =
    number u16 λ surface. one pixel λ colour. list u16 rect λ rects.
    done (SolidFill surface colour rects)

-- RDPGFX_SURFACE_TO_SURFACE_PDU, 2.2.2.5
abbrev pub surface_to_surface : Layout Pdu
surface_to_surface =
    number u16 λ source. number u16 λ destination. one rect λ area. list u16 point λ points.
    done (SurfaceToSurface source destination area points)

-- RDPGFX_SURFACE_TO_CACHE_PDU, 2.2.2.6
abbrev pub surface_to_cache : Layout Pdu
surface_to_cache =
    number u16 λ surface. number u64 λ key. number u16 λ slot. one rect λ area.
    done (SurfaceToCache surface key slot area)

-- RDPGFX_CACHE_TO_SURFACE_PDU, 2.2.2.7
abbrev pub cache_to_surface : Layout Pdu
cache_to_surface =
    number u16 λ slot. number u16 λ surface. list u16 point λ points.
    done (CacheToSurface slot surface points)

-- RDPGFX_EVICT_CACHE_ENTRY_PDU, 2.2.2.8
abbrev pub evict_cache_entry : Layout Pdu
evict_cache_entry = number u16 λ slot. done (EvictCacheEntry slot)

-- RDPGFX_CREATE_SURFACE_PDU, 2.2.2.9
abbrev pub create_surface : Layout Pdu
create_surface =
    number u16 λ id. number u16 λ width. number u16 λ height. number u8 λ format.
    done (CreateSurface id width height format)

-- RDPGFX_DELETE_SURFACE_PDU, 2.2.2.10
abbrev pub delete_surface : Layout Pdu
delete_surface = number u16 λ id. done (DeleteSurface id)

-- RDPGFX_START_FRAME_PDU, 2.2.2.11
abbrev pub start_frame : Layout Pdu
start_frame = number u32 λ timestamp. number u32 λ frame. done (StartFrame timestamp frame)

-- RDPGFX_END_FRAME_PDU, 2.2.2.12
abbrev pub end_frame : Layout Pdu
end_frame = number u32 λ frame. done (EndFrame frame)

-- RDPGFX_RESET_GRAPHICS_PDU, 2.2.2.14: room for 16 monitors; what stands in the rest of it may be anything
abbrev pub reset_graphics : Layout Pdu
reset_graphics =
    number u32 λ width. number u32 λ height.
    number u32 λ count. must (nat_le count 16) MonitorCount (items monitor count λ monitors.
    bytes ((16 - count) * 20) λ padding.
    done (ResetGraphics width height monitors))

-- RDPGFX_MAP_SURFACE_TO_OUTPUT_PDU, 2.2.2.15
abbrev pub map_surface_to_output : Layout Pdu
map_surface_to_output =
    number u16 λ id. number u16 λ reserved. number u32 λ x. number u32 λ y.
    done (MapSurfaceToOutput id reserved x y)

-- RDPGFX_CAPS_CONFIRM_PDU, 2.2.2.19
abbrev pub caps_confirm : Layout Pdu
caps_confirm = number u32 λ version. sized u32 λ payload. done (CapsConfirm version payload)

-- the body of the messages with this id
abbrev pub layout_of : Id → Layout Pdu
layout_of ids.WireToSurface1 = wire_to_surface_1
layout_of ids.WireToSurface2 = wire_to_surface_2
layout_of ids.DeleteEncodingContext = delete_encoding_context
layout_of ids.SolidFill = solid_fill
layout_of ids.SurfaceToSurface = surface_to_surface
layout_of ids.SurfaceToCache = surface_to_cache
layout_of ids.CacheToSurface = cache_to_surface
layout_of ids.EvictCacheEntry = evict_cache_entry
layout_of ids.CreateSurface = create_surface
layout_of ids.DeleteSurface = delete_surface
layout_of ids.StartFrame = start_frame
layout_of ids.EndFrame = end_frame
layout_of ids.ResetGraphics = reset_graphics
layout_of ids.MapSurfaceToOutput = map_surface_to_output
layout_of ids.CapsConfirm = caps_confirm
