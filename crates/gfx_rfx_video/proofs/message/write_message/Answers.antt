use Rattle.std.proofs.Common.{◌≤◌, ◌*◌, length, subst}
use Rattle.gfx_rfx_video.proofs.message.write_message.Goals as goal

pub returns-clause-tiles : goal.returns-clause-tiles
returns-clause-tiles c = subst (λ l. length l ≤ length c.args.tiles.now * 196624) c.in_ok-texts.ensures.value c.in_ok-texts.ensures.short
