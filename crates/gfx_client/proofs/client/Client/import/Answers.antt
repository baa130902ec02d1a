use Rattle.std.proofs.lemmas.Result.{err_from_is_err_and}
use Rattle.gfx_client.proofs.Beginning.{began, not_begun, begun_small}
use Rattle.gfx_client.proofs.client.Client.import.Goals as goal

pub returns-in_err-cache-clause-imports : goal.returns-in_err-cache-clause-imports
returns-in_err-cache-clause-imports c =
    let p = err_from_is_err_and c.from_residual.result c.from_residual.ensures.1 in
    rw (p.1, p.2) (not_begun c.args.self.now c.in_err-cache.field-0.0 _ c.in_err-cache.ensures.value)

pub returns-clause-imports : goal.returns-clause-imports
returns-clause-imports c =
    (c.in_ok-cache.cache, c.in_ok-cache.ensures.value, began c.args.self.now c.put_cache.new.self c.in_ok-cache.cache c.requires c.put_cache.ensures)

pub returns-clause-small : goal.returns-clause-small
returns-clause-small c = begun_small c.args.kept.now c.args.reply.now c.args.small c.in_ok-cache.cache c.args.self.now.state c.put_cache.new.self c.in_ok-cache.ensures.value c.put_cache.ensures
