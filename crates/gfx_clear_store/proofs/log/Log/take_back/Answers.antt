use Rattle.std.proofs.Common.{length, sym, ap, ◌∙◌, rules}
use Rattle.gfx_clear_store.proofs.Undone.{log_within}
use Rattle.gfx_clear_store.proofs.log.Log.take_back.Goals as goal

pub put_back-requires : goal.put_back-requires
put_back-requires g c =
    let room = ap (λ z. z.room) c.self.view_is in (
      search (rules, c.self.invariant.small),
      (
        c.self.invariant.small,
        log_within c.self.inside.noted.items c.self.inside.entries.items (length c.args.slots.now) c.self.invariant.flags (room ∙ sym c.requires),
      ),
    )
