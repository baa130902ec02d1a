use Rattle.gfx_planner.proofs.BitmapStarts.{begins-empty, begins-with}
use Rattle.gfx_planner.proofs.planner.Planner.import.Goals as goal

pub keep_imported-requires : goal.keep_imported-requires
keep_imported-requires c =
    begins-empty c.args.self.now c.self.inside.sender c.self.inside.plan c.self.inside.passes c.self.inside.frames c.self.inside.spent c.has_small_cache-small.result
    c.self.view_is c.requires c.has_small_cache-small.ensures

pub returns-clause-ok : goal.returns-clause-ok
returns-clause-ok c =
    begins-with c.args.self.now c.self.inside.sender c.self.inside.plan c.self.inside.passes c.self.inside.frames c.self.inside.spent c.has_small_cache-small.result
    c.self.view_is c.requires c.has_small_cache-small.ensures
    c.args.server.now c.args.client.now c.in_ok-cache.cache c.put_cache.new.self c.keep_imported.new.slots c.in_ok-cache.ensures c.put_cache.ensures c.in_ok-keep_imported.ensures
