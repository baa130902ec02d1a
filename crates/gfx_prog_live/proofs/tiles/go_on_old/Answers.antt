use Rattle.gfx_prog_live.proofs.Making.{gone_on_left, gone_on_tried, tests_same}
use Rattle.gfx_prog_live.proofs.tiles.go_on_old.Goals as goal

pub returns-then-differences-is_last : goal.returns-then-differences-is_last
returns-then-differences-is_last c =
    gone_on_tried c.args.script.now.differences c.against.result c.args.old.now c.args.tile.now c.against.new.self c.against.ensures
    (tests_same c.differences.result _ _ c.from.result c.len.result c.args.old.now c.setting.result.now c.args.script.now.setting
    c.differences.ensures c.from.ensures c.len.ensures.value c.setting.ensures c.requires.one_setting c.if-differences-is_last.true)

pub returns-else-differences-is_last : goal.returns-else-differences-is_last
returns-else-differences-is_last c =
    gone_on_left c.args.script.now.differences c.args.old.now c.args.tile.now
    (tests_same c.differences.result _ _ c.from.result c.len.result c.args.old.now c.setting.result.now c.args.script.now.setting
    c.differences.ensures c.from.ensures c.len.ensures.value c.setting.ensures c.requires.one_setting c.if-differences-is_last.false)
