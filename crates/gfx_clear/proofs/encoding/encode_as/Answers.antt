use Rattle.std.proofs.Common.{◌*◌, subst}
use Rattle.gfx_clear.specs.Inner.{MayUse}
use Rattle.gfx_clear.proofs.Sent.{stored_never, stores_sent}
use Rattle.gfx_clear.proofs.encoding.encode_as.Goals as goal

pub unreachable-requires : goal.unreachable-requires
unreachable-requires c =
    let a = rw c.in-Err-Refused.field-0-is at c.in-Err-Refused.ensures.stored in
    stored_never c.in-Stores.index c.args.width c.args.height c.args.pixels.now c.args.glyphs.now c.in-Err-Refused.field-0-0 (subst (MayUse (c.args.width * c.args.height)) c.in-Stores.is c.requires.glyph) a.0

pub returns-in-Ok-clause-ok : goal.returns-in-Ok-clause-ok
returns-in-Ok-clause-ok c =
    stores_sent c.args.glyph c.in-Stores.index c.args.layer c.args.store.now.held c.with_layer-in-Stores.new.store.held c.args.glyphs.now c.store.new.self c.args.sequence c.args.width c.args.height
    c.args.pixels.now c.in_ok-out-in-Stores.out c.in-Stores.is c.requires.glyph c.in_ok-out-in-Stores.ensures.ok c.in_ok-out-in-Stores.ensures.store c.in-Ok.ensures.stored
