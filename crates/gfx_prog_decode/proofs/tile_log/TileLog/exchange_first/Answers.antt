use Rattle.std.proofs.Common.{◌∙◌, ◌++◌, ◌∷◌, [], ap, refl}
use Rattle.gfx_prog_decode.specs.declared.saved.SavedTile.{SavedTile}
use Rattle.gfx_prog_decode.proofs.Undoing.{keeps_pushed}
use Rattle.gfx_prog_decode.proofs.tile_log.TileLog.exchange_first.Goals as goal

pub returns-clause-keeps : goal.returns-clause-keeps
returns-clause-keeps c =
    let saved : SavedTile = record { key = c.args.key; tile = c.in_ok-old.old } in
    keeps_pushed c.args.key saved c.args.records.now c.args.self.now.tiles.items c.push_reserved.new.self.items
    (c.push_reserved.ensures.items ∙ ap (λ l. l ++ saved ∷ []) c.in_ok-reserve.ensures.items) (record { key_is = refl; tile_is = c.in_ok-old.ensures.given })
