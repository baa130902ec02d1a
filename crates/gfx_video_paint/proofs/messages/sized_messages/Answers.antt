use Rattle.std.proofs.Common.{◌≡◌, ◌∙◌, ◌+◌, ◌-◌, ◌<◌, ◌≤◌, ap, length, min, arith}
use Rattle.std.specs.List.{slice_get}
use Rattle.gfx_base.specs.Cells.{cells_met}
use Rattle.gfx_base.specs.Geometry.{sized}
use Rattle.gfx_video_paint.specs.Video.{video_payloads, video_setting, videos_after}
use Rattle.gfx_video_paint.proofs.Making.{given, group_few, group_sent, group_written, groups_written, if_there}
use Rattle.gfx_video_paint.proofs.messages.sized_messages.Goals as goal

pub video_message-requires-clause-few : goal.video_message-requires-clause-few
video_message-requires-clause-few c =
    let most : c.min.result ≡ min (c.len-in-groups.result - c.groups.place) 256 = c.min.ensures in
    given (slice_get c.args.script.now.pictures c.args.picture) c.requires.drawn
    (λ drawing there.
    group_few c.args.script.now.setting drawing c.met-squares.result c.groups.place (c.groups.place + c.min.result - c.groups.place) c.in_ok-tiles.tiles (omega (arith, most)) (c.in_ok-tiles.ensures drawing there))

pub video_message-requires-clause-sent : goal.video_message-requires-clause-sent
video_message-requires-clause-sent c =
    let met : c.met-squares.result ≡ cells_met (sized c.args.width c.args.height) = c.met-squares.ensures ∙ ap cells_met c.sized.ensures in
    let by : c.video_setting-setting.result ≡ video_setting c.args.script.now.setting = c.video_setting-setting.ensures ∙ ap video_setting c.setting.ensures in
    given (slice_get c.args.script.now.pictures c.args.picture) c.requires.drawn
    (λ drawing there.
    group_sent c.args.script.now.setting c.video_setting-setting.result drawing c.args.width c.args.height c.met-squares.result c.groups.place (c.groups.place + c.min.result - c.groups.place)
    c.in_ok-tiles.tiles by (c.requires.sides drawing there) c.requires.some met (c.in_ok-tiles.ensures drawing there))

pub groups-preserved : goal.groups-preserved
groups-preserved c =
    let within : c.groups.place < c.len.result = c.groups-test.true in
    let many : c.len.result ≡ length c.met-squares.result = c.len.ensures in
    let again : c.len-in-groups.result ≡ length c.met-squares.result = c.len-in-groups.ensures in
    let most : c.min.result ≡ min (c.len-in-groups.result - c.groups.place) 256 = c.min.ensures in
    let by : c.video_setting-setting.result ≡ video_setting c.args.script.now.setting = c.video_setting-setting.ensures ∙ ap video_setting c.setting.ensures in (
      omega (arith, within, many, again, most),
      λ drawing there.
          group_written c.args.script.now.setting c.video_setting-setting.result c.args.mode drawing c.args.width c.args.height c.met-squares.result c.groups.place c.args.next.now c.groups.next c.min.result
          c.groups.all.items c.push.new.self.items c.in_ok-tiles.tiles c.in_ok-video_message.field-0 (omega (arith, within, many)) (omega (arith, again, most)) by (c.requires.sides drawing there)
          (c.in_ok-tiles.ensures drawing there) c.in_ok-video_message.ensures.data c.in_ok-push.ensures.items (c.groups.invariant.1 drawing there),
    )

pub returns-clause-data : goal.returns-clause-data
returns-clause-data c =
    let past : c.len.result ≤ c.groups.place = c.groups-test.false in
    let many : c.len.result ≡ length c.met-squares.result = c.len.ensures in
    let met : c.met-squares.result ≡ cells_met (sized c.args.width c.args.height) = c.met-squares.ensures ∙ ap cells_met c.sized.ensures in
    if_there (slice_get c.args.script.now.pictures c.args.picture) (λ drawing. c.groups.all.items ≡ video_payloads c.args.script.now.setting c.args.mode drawing c.args.next.now)
    (λ drawing there.
    (groups_written c.args.script.now.setting c.args.mode drawing c.args.width c.args.height c.met-squares.result c.groups.place c.args.next.now c.groups.next c.groups.all.items (omega (arith, past, many))
    (c.requires.sides drawing there) met (c.groups.invariant.1 drawing there)).0)

pub returns-clause-number : goal.returns-clause-number
returns-clause-number c =
    let past : c.len.result ≤ c.groups.place = c.groups-test.false in
    let many : c.len.result ≡ length c.met-squares.result = c.len.ensures in
    let met : c.met-squares.result ≡ cells_met (sized c.args.width c.args.height) = c.met-squares.ensures ∙ ap cells_met c.sized.ensures in
    if_there (slice_get c.args.script.now.pictures c.args.picture) (λ drawing. c.groups.next ≡ videos_after drawing c.args.next.now)
    (λ drawing there.
    (groups_written c.args.script.now.setting c.args.mode drawing c.args.width c.args.height c.met-squares.result c.groups.place c.args.next.now c.groups.next c.groups.all.items (omega (arith, past, many))
    (c.requires.sides drawing there) met (c.groups.invariant.1 drawing there)).1)
