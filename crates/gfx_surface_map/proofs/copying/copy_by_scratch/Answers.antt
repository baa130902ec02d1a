use Rattle.std.proofs.Common.{◌*◌, ◌∙◌, sym, refl}
use Rattle.gfx_surface_map.proofs.CopiedLemmas.{front_as_long, room_for}
use Rattle.gfx_surface_map.proofs.copying.copy_by_scratch.Goals as goal

pub slice_bounds-copy_by_room-end : goal.slice_bounds-copy_by_room-end
slice_bounds-copy_by_room-end c =
    room_for c.args.scratch.now _ _ _ _ (c.from.ensures ∙ c.width.ensures) (c.from-2.ensures ∙ c.height.ensures) c.requires.room

pub copy_by_room-requires-clause-exact : goal.copy_by_room-requires-clause-exact
copy_by_room-requires-clause-exact c =
    sym (front_as_long c.args.scratch.now _ _ _ _ _ (c.from.ensures ∙ c.width.ensures) (c.from-2.ensures ∙ c.height.ensures) refl c.requires.room)
    ∙ (λ i. (c.from.ensures ∙ c.width.ensures) i * (c.from-2.ensures ∙ c.height.ensures) i)
