use Rattle.gfx_prog_encode.specs.Messages.{paint_data}
use Rattle.gfx_prog_live.proofs.Groups.{all_written, fewer_left, none_left, none_written, one_written, some_left}
use Rattle.gfx_prog_live.proofs.messages.paint_messages.Goals as goal

pub groups-init : goal.groups-init
groups-init c = none_written (paint_data c.args.setting.now) c.args.sends.now c.args.next.now _ c.new-all.ensures.items

pub groups-smaller : goal.groups-smaller
groups-smaller c =
    fewer_left c.groups.rest.now c.first_group.result.1.now (some_left c.groups.rest.now c.is_empty.result c.is_empty.ensures c.groups-test.true) c.first_group.ensures.rest

pub groups-preserved : goal.groups-preserved
groups-preserved c =
    one_written (paint_data c.args.setting.now) c.args.sends.now c.args.next.now c.groups.rest.now c.groups.next c.groups.all.items c.push.new.self.items
    c.first_group.result.0.now c.first_group.result.1.now c.in_ok-paint_message.field-0
    (some_left c.groups.rest.now c.is_empty.result c.is_empty.ensures c.groups-test.true) c.first_group.ensures.group c.first_group.ensures.rest
    c.in_ok-paint_message.ensures c.in_ok-push.ensures.items c.groups.invariant

pub returns-clause-value : goal.returns-clause-value
returns-clause-value c =
    (all_written (paint_data c.args.setting.now) c.args.sends.now c.args.next.now c.groups.rest.now c.groups.next c.groups.all.items
    (none_left c.groups.rest.now c.is_empty.result c.is_empty.ensures c.groups-test.false) c.groups.invariant).0

pub returns-clause-number : goal.returns-clause-number
returns-clause-number c =
    (all_written (paint_data c.args.setting.now) c.args.sends.now c.args.next.now c.groups.rest.now c.groups.next c.groups.all.items
    (none_left c.groups.rest.now c.is_empty.result c.is_empty.ensures c.groups-test.false) c.groups.invariant).1
