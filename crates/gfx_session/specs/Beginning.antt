-- The two ends of a session in which nothing has happened yet. No public clause names these words.
use Rattle.std.specs.Prelude.{◌≡◌, ℕ, Bool, false, List, []}
use Rattle.gfx_client.specs.declared.client.Client.{Client}
use Rattle.gfx_planner.specs.Planned.{Planned}
use Rattle.gfx_script.specs.Scripted.{Script}
use Rattle.gfx_segment.specs.Framing.{holding}
use Rattle.gfx_session.specs.declared.digests.Digests.{Digests}
use Rattle.gfx_session.specs.declared.server_end.ServerEnd.{ServerEnd}
use Rattle.gfx_session.specs.declared.session.Session.{Session}
use Rattle.gfx_window.specs.Window.{no_frames}

-- a server's end of a script with this planner, of which no step is queued; a version is confirmed, or not, and digests are
-- on, or not
pub record IsOpened (end : ServerEnd) (of : Script) (planned : Planned) (known : Bool) (asked : Digests) : Type 0 where
  pub script : end.script ≡ of
  pub planner : end.planner ≡ planned
  pub confirmed : end.confirmed ≡ known
  pub window : end.window ≡ no_frames of.window
  pub last : end.last ≡ 0
  pub ends : end.ends.items ≡ []
  pub digests : end.digests ≡ asked
  pub splitter : end.splitter ≡ holding []
  pub fresh : end.spent ≡ false
  pub unclosed : end.closed ≡ false

-- a session of these two ends, with these bytes on their way to the server's
pub record IsBegun (session : Session) (end : ServerEnd) (other : Client) (coming : List ℕ) : Type 0 where
  pub server : session.server ≡ end
  pub client : session.client ≡ other
  pub down : session.down ≡ []
  pub up : session.up ≡ coming
  pub drawn : session.drawn.items ≡ []
  pub acks : session.acks ≡ []
  pub fresh : session.spent ≡ false
