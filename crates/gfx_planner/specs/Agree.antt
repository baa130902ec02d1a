-- When the server's end shows and holds what a script wants: this project's own rule.
use Rattle.std.specs.Prelude.{◌≡◌}
use Rattle.gfx_planner.specs.Wanted.{Wanted}
use Rattle.gfx_planner.specs.Server.{Server}

-- the same is seen, the same keys have the same slots with the same bitmaps in them, and the same tiles are live
pub record Agree (server : Server) (wanted : Wanted) : Type 0 where
  pub shown : server.state.shown ≡ wanted.shown
  pub slots : server.state.cache.slots ≡ wanted.slots
  pub plan : server.plan ≡ wanted.plan
  pub passes : server.passes ≡ wanted.passes
