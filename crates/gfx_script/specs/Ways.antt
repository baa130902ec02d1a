-- The ways in which pictures go to the client: which there are is [MS-RDPEGFX] 2.2.4's, which kind of paint goes in
-- which is this project's own rule.
use Rattle.std.specs.Prelude.{Bool, true, false, if◌then◌else◌, Option, Some, None}
use Rattle.gfx_clear.specs.declared.layer.Layer.TheVariants as layers
use Rattle.gfx_script.specs.declared.step.Kind.{Kind}
use Rattle.gfx_script.specs.declared.step.Kind.TheVariants as kinds
use Rattle.gfx_script.specs.declared.way.Way.{Way}
use Rattle.gfx_script.specs.declared.way.Way.TheVariants.{Uncompressed, ByLayer, InPasses, Video}

-- the way of a picture that goes as tiles: later steps raise them, but not those of a thin client, which decodes
-- RemoteFX video in their place ([MS-RDPEGFX] 2.2.3.1, RDPGFX_CAPS_FLAG_THINCLIENT)
abbrev pub way_of_tiles : Bool → Way
way_of_tiles thin = if thin then Video else InPasses

-- the way of a picture of a kind, to a client that is thin or to one that isn't
abbrev pub way_of : Bool → Kind → Way
way_of thin kinds.Raw = Uncompressed
way_of thin kinds.Residual = ByLayer layers.Residual
way_of thin kinds.Bands = ByLayer layers.Bands
way_of thin kinds.Palette = ByLayer layers.Palette
way_of thin kinds.Plain = ByLayer layers.Plain
way_of thin kinds.Progressive = way_of_tiles thin
way_of thin kinds.Video = Video

-- the way of a paint that goes as a kind, or of one that goes as none
abbrev pub goes_by : Bool → Option Kind → Option Way
goes_by thin None = None
goes_by thin (Some kind) = Some (way_of thin kind)

-- a picture goes as one ClearCodec stream
abbrev pub is_stream : Way → Bool
is_stream Uncompressed = false
is_stream (ByLayer layer) = true
is_stream InPasses = false
is_stream Video = false

-- a picture goes as tiles that later steps raise
abbrev pub is_in_passes : Way → Bool
is_in_passes Uncompressed = false
is_in_passes (ByLayer layer) = false
is_in_passes InPasses = true
is_in_passes Video = false

-- a picture goes as RemoteFX video, whose tiles no later step raises
abbrev pub is_video : Way → Bool
is_video Uncompressed = false
is_video (ByLayer layer) = false
is_video InPasses = false
is_video Video = true
