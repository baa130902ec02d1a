use Rattle.std.proofs.Common.{◌≡◌, ◌∙◌, None, sym, rules}
use Rattle.std.specs.List.{slice_get}
use Rattle.gfx_video_paint.proofs.Making.{none_there, sides_there, some_there}
use Rattle.gfx_video_paint.proofs.messages.video_messages.Goals as goal

pub unreachable-requires : goal.unreachable-requires
unreachable-requires c =
    let none : slice_get c.args.script.now.pictures c.args.picture ≡ None = search rules in
    none_there (slice_get c.args.script.now.pictures c.args.picture) none c.requires.drawn

pub sized_messages-requires-clause-sides : goal.sized_messages-requires-clause-sides
sized_messages-requires-clause-sides c = λ drawing there.
    sides_there (slice_get c.args.script.now.pictures c.args.picture) (c.in-Some.width, c.in-Some.height) drawing (sym c.picture_size.ensures ∙ c.in-Some.is) there

pub sized_messages-requires-clause-some : goal.sized_messages-requires-clause-some
sized_messages-requires-clause-some c =
    some_there (slice_get c.args.script.now.pictures c.args.picture) c.in-Some.width c.in-Some.height c.requires.drawn c.requires.some
    (λ drawing there.
    sides_there (slice_get c.args.script.now.pictures c.args.picture) (c.in-Some.width, c.in-Some.height) drawing (sym c.picture_size.ensures ∙ c.in-Some.is) there)
