use Rattle.std.proofs.Common.{◌≡◌, ◌∙◌, ap, drop, sym, arith}
use Rattle.std.specs.List.{list_all}
use Rattle.gfx_window.specs.Superseded.{stands_aside}
use Rattle.gfx_window.proofs.SureLaws.{all_aside, aside_from, one_aside}
use Rattle.gfx_window.proofs.sparing.aside_from.Goals as goal

pub returns-then-not-stands_aside : goal.returns-then-not-stands_aside
returns-then-not-stands_aside c =
    aside_from c.args.script.now c.args.items.now c.items.from _ (omega (arith, c.items-test.true)) c.items.invariant.0 c.items.invariant.1
    (sym c.stands_aside.ensures ∙ c.if-not-stands_aside.true)

pub items-preserved : goal.items-preserved
items-preserved c = (
  omega (arith, c.items.invariant.0),
  one_aside c.args.script.now c.args.items.now c.items.from _ (omega (arith, c.items-test.true)) c.items.invariant.0 c.items.invariant.1
      (sym c.stands_aside.ensures ∙ c.if-not-stands_aside.false),
)

pub returns : goal.returns
returns c =
    let none : c.items.from ≡ 0 = omega (arith, c.items-test.false) in
    all_aside c.args.script.now c.args.items.now (ap (λ n. list_all (stands_aside c.args.script.now) (drop n c.args.items.now)) (sym none) ∙ c.items.invariant.1)
