-- Which steps send tiles: those of passes, which a later step may raise, and those of RemoteFX video. By it the planner's
-- own functions choose how a step is sent; no public contract names it. This project's own rule.
use Rattle.std.specs.Prelude.{Bool, true, false, Option, Some, None}
use Rattle.gfx_script.specs.declared.step.Kind.{Kind}
use Rattle.gfx_script.specs.declared.step.Step.{Step}
use Rattle.gfx_script.specs.declared.step.Step.TheVariants.{Improve, Paint}
use Rattle.gfx_script.specs.Ways.{goes_by, is_in_passes, is_video}
use Rattle.gfx_script.specs.declared.way.Way.{Way}

-- a picture goes in passes; one that goes in no way doesn't
abbrev pub goes_in_passes : Option Way → Bool
goes_in_passes None = false
goes_in_passes (Some way) = is_in_passes way

-- a step sends tiles that may be raised: a paint in passes, or an improvement. The first argument: the client is thin
abbrev pub sends_tiles : Bool → Option Kind → Step → Bool
sends_tiles thin kind (Paint id picture at named glyph) = goes_in_passes (goes_by thin kind)
sends_tiles thin kind (Improve id) = true
sends_tiles thin kind step = false

-- a picture goes as video; one that goes in no way doesn't
abbrev pub goes_as_video : Option Way → Bool
goes_as_video None = false
goes_as_video (Some way) = is_video way

-- a step is a paint that goes as video. The first argument: the client is thin
abbrev pub is_video_paint : Bool → Option Kind → Step → Bool
is_video_paint thin kind (Paint id picture at named glyph) = goes_as_video (goes_by thin kind)
is_video_paint thin kind step = false
