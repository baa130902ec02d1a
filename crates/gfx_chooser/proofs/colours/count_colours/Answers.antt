-- One pixel after another.
use Rattle.std.proofs.Common.{◌≡◌, ◌≤◌, length, true, false, sym, ap, ◌∙◌, subst, arith, eqb-true}
use Rattle.std.specs.Prelude.{IfSome}
use Rattle.gfx_base.specs.Colour.{colour_of, has_colour}
use Rattle.gfx_script.specs.Patterns.{pixel_of}
use Rattle.gfx_chooser.specs.declared.facts.TheConstants.{MOST_COLOURS}
use Rattle.gfx_chooser.proofs.Counting.{finds_held, finds_new, has_new, counts_all, counts_full, not_full}
use Rattle.gfx_chooser.proofs.colours.count_colours.Goals as goal

pub pixels-preserved-then-is_last : goal.pixels-preserved-then-is_last
pixels-preserved-then-is_last c =
    let is : c.colour-colour.result ≡ colour_of (pixel_of c.args.picture.now c.pixels.x c.rows.y) = c.colour-colour.ensures ∙ ap colour_of c.pixel.ensures in
    let held : has_colour c.pixels.colours.items c.colour-colour.result ≡ true =
    subst (λ z. IfSome z (λ colour. has_colour c.pixels.colours.items colour ≡ true)) (c.is_last.ensures c.if-is_last.true) c.pixels.invariant.held in
    record {
      few = c.pixels.invariant.few;
      finds = finds_held c.args.picture.now c.pixels.x c.rows.y c.colour-colour.result c.pixels.colours.items c.pixels-test.true c.rows-test.true is held c.pixels.invariant.finds;
      held = c.pixels.invariant.held;
    }

pub pixels-preserved-then-has_colour : goal.pixels-preserved-then-has_colour
pixels-preserved-then-has_colour c =
    let is : c.colour-colour.result ≡ colour_of (pixel_of c.args.picture.now c.pixels.x c.rows.y) = c.colour-colour.ensures ∙ ap colour_of c.pixel.ensures in
    let held : has_colour c.pixels.colours.items c.colour-colour.result ≡ true =
    ap (λ z. has_colour z c.colour-colour.result) (sym c.deref.ensures.0) ∙ sym c.has_colour.ensures ∙ c.if-has_colour.true in
    record {
      few = c.pixels.invariant.few;
      finds = finds_held c.args.picture.now c.pixels.x c.rows.y c.colour-colour.result c.pixels.colours.items c.pixels-test.true c.rows-test.true is held c.pixels.invariant.finds;
      held = held;
    }

pub returns-then-is_full : goal.returns-then-is_full
returns-then-is_full c =
    let is : c.colour-colour.result ≡ colour_of (pixel_of c.args.picture.now c.pixels.x c.rows.y) = c.colour-colour.ensures ∙ ap colour_of c.pixel.ensures in
    let lacks : has_colour c.pixels.colours.items c.colour-colour.result ≡ false =
    ap (λ z. has_colour z c.colour-colour.result) (sym c.deref.ensures.0) ∙ sym c.has_colour.ensures ∙ c.if-has_colour.false in
    counts_full c.args.picture.now _ c.push.new.self.items
    (eqb-true (length c.push.new.self.items) MOST_COLOURS (sym c.is_full.ensures.value ∙ c.if-is_full.true))
    (finds_new c.args.picture.now c.pixels.x c.rows.y c.colour-colour.result c.pixels.colours.items c.push.new.self.items
    c.pixels-test.true c.rows-test.true is lacks c.push.ensures.items c.pixels.invariant.finds)

pub pixels-preserved : goal.pixels-preserved
pixels-preserved c =
    let is : c.colour-colour.result ≡ colour_of (pixel_of c.args.picture.now c.pixels.x c.rows.y) = c.colour-colour.ensures ∙ ap colour_of c.pixel.ensures in
    let lacks : has_colour c.pixels.colours.items c.colour-colour.result ≡ false =
    ap (λ z. has_colour z c.colour-colour.result) (sym c.deref.ensures.0) ∙ sym c.has_colour.ensures ∙ c.if-has_colour.false in
    record {
      few = not_full (length c.push.new.self.items) MOST_COLOURS (sym c.is_full.ensures.value ∙ c.if-is_full.false) c.is_full.ensures.fits;
      finds = finds_new c.args.picture.now c.pixels.x c.rows.y c.colour-colour.result c.pixels.colours.items c.push.new.self.items
          c.pixels-test.true c.rows-test.true is lacks c.push.ensures.items c.pixels.invariant.finds;
      held = has_new c.pixels.colours.items c.push.new.self.items c.colour-colour.result lacks c.push.ensures.items;
    }

pub returns : goal.returns
returns c =
    let all : c.rows.y ≡ c.args.picture.now.height = omega (arith, c.rows-test.false, c.rows.auto.y-end) in
    let few : length c.rows.colours.items ≤ MOST_COLOURS = omega (arith, c.rows.invariant.few) in
    c.len.ensures.value ∙ counts_all c.args.picture.now c.rows.y c.rows.colours.items all few c.rows.invariant.finds
