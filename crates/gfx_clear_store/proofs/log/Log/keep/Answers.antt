use Rattle.std.proofs.Common.{◌<◌, length, ap, arith}
use Rattle.gfx_clear_store.proofs.Undone.{room_for_one, read_flag}
use Rattle.gfx_clear_store.proofs.log.Log.keep.Goals as goal

pub push_reserved-requires : goal.push_reserved-requires
push_reserved-requires g c =
    let long = ap (λ z. z.room) c.self.view_is in
    let within : c.from.result < length c.self.inside.noted.items = omega (arith, c.requires, long, c.from.ensures) in
    let fresh = read_flag c.self.inside.noted.items c.from.result c.index.result.now c.index.ensures c.if-index.false in
    let room = room_for_one c.self.inside.noted.items c.from.result _ within fresh c.self.invariant.counted in
    omega (arith, room, c.self.invariant.room)
