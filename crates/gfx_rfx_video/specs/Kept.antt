-- What a decoder keeps between messages.
use Rattle.std.specs.Prelude.{◌≡◌, [], IfSome}
use Rattle.gfx_rfx_video.specs.declared.decoder.VideoDecoder.TheInside.{Inside}
use Rattle.gfx_rfx_video.specs.Inside.{IsCanvas}

-- a canvas, if there was a message with tiles, and a log without cells
pub record IsReady (decoder : Inside) : Type 0 where
  pub canvas : IfSome decoder.canvas (λ canvas. IsCanvas canvas.value)
  pub empty : decoder.log.cells.items ≡ []
