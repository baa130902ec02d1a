use Rattle.std.proofs.Common.{sym}
use Rattle.std.proofs.lemmas.Bool.{leb-true, leb-false}
use Rattle.gfx_dvc.proofs.CutLemmas.{narrow-is, wide-is, puts_lone, puts_recorded}
use Rattle.gfx_dvc.proofs.splitting.put_fragments.Goals as goal

pub returns-then-is_lone : goal.returns-then-is_lone
returns-then-is_lone c = puts_lone _ _ _ _ (leb-true _ _ (sym c.if-is_lone.ensures)) c.put_data.ensures

pub returns-then-is_narrow : goal.returns-then-is_narrow
returns-then-is_narrow c =
    puts_recorded _ c.args.message.now _ _ _ (narrow-is _ (leb-false _ _ (sym c.if-is_lone.ensures)) (leb-true _ _ (sym c.if-is_narrow.ensures))) c.put_narrow_message.ensures

pub returns-else-is_narrow : goal.returns-else-is_narrow
returns-else-is_narrow c =
    puts_recorded _ c.args.message.now _ _ _ (wide-is _ (leb-false _ _ (sym c.if-is_lone.ensures)) (leb-false _ _ (sym c.if-is_narrow.ensures))) c.put_wide_message.ensures
