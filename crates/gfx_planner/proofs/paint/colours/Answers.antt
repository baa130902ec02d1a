use Rattle.std.proofs.Common.{◌∙◌, [], ◌∷◌, ◌++◌, ◌+◌, ◌*◌, ◌<◌, ◌≤◌, ap, arith, rules}
use Rattle.std.specs.List.{slice_get}
use Rattle.gfx_planner.proofs.Payloads.{colours_start, colours_next, colours_end, row_below}
use Rattle.gfx_surface.proofs.Places.{some_columns}
use Rattle.gfx_planner.proofs.paint.colours.Goals as goal

pub pixels-init : goal.pixels-init
pixels-init c = record {
  colours = rw c.in_ok-colours.ensures.items (colours_start (slice_get c.args.script.now.pictures c.args.picture));
  place = omega arith;
  inside = λ below. some_columns 0 c.args.width c.args.height below;
}

pub next_place-requires-clause-inside : goal.next_place-requires-clause-inside
next_place-requires-clause-inside c =
    let below : c.pixels.counter < c.args.width * c.args.height = search rules in
    c.pixels.invariant.inside below

pub next_place-requires-clause-rows : goal.next_place-requires-clause-rows
next_place-requires-clause-rows c =
    let below : c.pixels.counter < c.args.width * c.args.height = search rules in
    let row = row_below c.pixels.x c.pixels.y c.pixels.counter c.args.width c.args.height c.pixels.invariant.place (c.pixels.invariant.inside below) below in
    omega (arith, row, c.ranges.height.fits)

pub pixels-preserved : goal.pixels-preserved
pixels-preserved c =
    let below : c.pixels.counter < c.args.width * c.args.height = search rules in
    record {
      colours = colours_next (slice_get c.args.script.now.pictures c.args.picture) c.picture_pixel.result c.pixels.x c.pixels.y c.pixels.counter c.args.width c.args.height c.pixels.colours.items c.push.new.self.items
          c.requires c.picture_pixel.ensures c.pixels.invariant.place (c.pixels.invariant.inside below) below (c.in_ok-push.ensures.items ∙ ap (λ z. c.pixels.colours.items ++ z ∷ []) c.colour.ensures) c.pixels.invariant.colours;
      place = c.next_place.ensures.next ∙ ap (λ n. n + 1) c.pixels.invariant.place;
      inside = λ _. c.next_place.ensures.inside;
    }

pub returns : goal.returns
returns c =
    let past : c.args.width * c.args.height ≤ c.pixels.counter = search rules in
    colours_end (slice_get c.args.script.now.pictures c.args.picture) c.pixels.counter c.args.width c.args.height c.pixels.colours.items c.requires past c.pixels.invariant.colours
