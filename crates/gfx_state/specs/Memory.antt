-- Which messages may want memory: this project's own rule.
use Rattle.std.specs.Prelude.{◌==◌, ◌||◌, Bool, true, false, is_ok}
use Rattle.gfx_pdu.specs.declared.pdu.Pdu.{Pdu}
use Rattle.gfx_pdu.specs.declared.pdu.Pdu.TheVariants.{WireToSurface1, WireToSurface2, SurfaceToCache, CreateSurface, MapSurfaceToOutput}
use Rattle.gfx_surface_map.specs.Shown.{output_mapped}
use Rattle.gfx_pdu.specs.Codecs.{CLEAR_CODEC, PROGRESSIVE, VIDEO}
use Rattle.gfx_state.specs.State.{State}
use Rattle.gfx_state.specs.Step.{showing, rect_stored, surface_created}

-- the effect of this message on a state takes memory: data take it where they are a ClearCodec stream, RemoteFX
-- video or progressive, a bitmap, a surface and a map where they are accepted
abbrev pub takes_memory : State → Pdu → Bool
takes_memory state (WireToSurface1 surface codec format rect payload) = codec == CLEAR_CODEC || codec == VIDEO
takes_memory state (WireToSurface2 surface codec context format payload) = codec == PROGRESSIVE
takes_memory state (SurfaceToCache surface key slot rect) = is_ok (rect_stored state surface key slot rect)
takes_memory state (CreateSurface id width height format) = is_ok (surface_created state id width height format)
takes_memory state (MapSurfaceToOutput id reserved x y) = is_ok (showing state (output_mapped state.shown id (record { x = x; y = y })))
takes_memory state other = false

-- the effect of a message of this kind may take memory
abbrev pub may_take_memory : Pdu → Bool
may_take_memory (WireToSurface1 surface codec format rect payload) = true
may_take_memory (WireToSurface2 surface codec context format payload) = true
may_take_memory (SurfaceToCache surface key slot rect) = true
may_take_memory (CreateSurface id width height format) = true
may_take_memory (MapSurfaceToOutput id reserved x y) = true
may_take_memory other = false
