-- One chooser after another.
use Rattle.std.proofs.Common.{◌+◌, ◌<◌, ◌≤◌, length, ap, ◌∙◌, sym, subst, arith}
use Rattle.gfx_chooser.specs.Choosing.{Choice, chosen}
use Rattle.gfx_chooser.specs.Seen.{seen}
use Rattle.gfx_chooser.proofs.Answering.{IsAskedTo, Chose, asked_first, turn_of, dropped_on, kept_to, dropped_here, kept_here, none_here}
use Rattle.gfx_chooser.proofs.choosing.choose.Goals as goal
use Rattle.gfx_chooser.proofs.choosing.choose.Goals.{then-spent, else-spent}

pub choosers-init : goal.choosers-init
choosers-init g c = asked_first g.C.Chooser.reply g.C.Chooser.is_spent c.args.facts.now c.args.choosers.now.items

pub returns-in-Some : goal.returns-in-Some
returns-in-Some g c =
    let due : Choice = chosen (seen g.C.Chooser.reply g.C.Chooser.is_spent c.args.choosers.now.items) c.args.facts.now in
    let inside : c.choosers.at < length c.choosers.choosers.items = omega (arith, c.choosers-test.true, c.len.ensures, c.choosers.choosers.ok.0) in
    let turn = turn_of g.C.Chooser.reply g.C.Chooser.is_spent c.args.facts.now due
    c.choosers.choosers.items c.choosers.at c.choose-answer.result c.spent.result c.index_mut.result.now c.choose-answer.new.self c.index.result.now
    inside c.index_mut.ensures.value c.choosers.invariant c.choose-answer.ensures.answer c.choose-answer.ensures.replies c.choose-answer.ensures.spends c.index.ensures c.spent.ensures in
    let chose : Chose due c.in-Some.kind (seen g.C.Chooser.reply g.C.Chooser.is_spent c.if-spent.choosers.items) =
    elim c.if-spent.branch [
      | then-spent w ↦ dropped_here g.C.Chooser.reply g.C.Chooser.is_spent c.args.facts.now due c.choosers.choosers.items c.choosers.at c.choose-answer.result c.spent.result c.choose-answer.new.self
          c.if-spent.choosers.items c.in-Some.kind turn c.in-Some.is w.if-spent.true (ap (λ v. v.items) w.choosers-is ∙ w.remove.ensures.by_index.2)
      | else-spent w ↦ subst (λ v. Chose due c.in-Some.kind (seen g.C.Chooser.reply g.C.Chooser.is_spent v.items)) (sym w.choosers-is)
          (kept_here g.C.Chooser.reply g.C.Chooser.is_spent c.args.facts.now due c.choosers.choosers.items c.choosers.at c.choose-answer.result c.spent.result c.choose-answer.new.self
          c.in-Some.kind turn c.in-Some.is w.if-spent.false)
    ] in
    record { kind = chose.kind_is; left = chose.alike }

pub choosers-preserved : goal.choosers-preserved
choosers-preserved g c =
    let due : Choice = chosen (seen g.C.Chooser.reply g.C.Chooser.is_spent c.args.choosers.now.items) c.args.facts.now in
    let inside : c.choosers.at < length c.choosers.choosers.items = omega (arith, c.choosers-test.true, c.len.ensures, c.choosers.choosers.ok.0) in
    let turn = turn_of g.C.Chooser.reply g.C.Chooser.is_spent c.args.facts.now due
    c.choosers.choosers.items c.choosers.at c.choose-answer.result c.spent.result c.index_mut.result.now c.choose-answer.new.self c.index.result.now
    inside c.index_mut.ensures.value c.choosers.invariant c.choose-answer.ensures.answer c.choose-answer.ensures.replies c.choose-answer.ensures.spends c.index.ensures c.spent.ensures in
    elim c.if-spent.branch [
      | then-spent w ↦ subst (IsAskedTo g.C.Chooser.reply g.C.Chooser.is_spent c.args.facts.now due c.if-spent.choosers.items) (sym w.at-is)
          (dropped_on g.C.Chooser.reply g.C.Chooser.is_spent c.args.facts.now due c.choosers.choosers.items c.choosers.at c.choose-answer.result c.spent.result c.choose-answer.new.self
          c.if-spent.choosers.items turn c.in_default.is w.if-spent.true (ap (λ v. v.items) w.choosers-is ∙ w.remove.ensures.by_index.2))
      | else-spent w ↦ subst (IsAskedTo g.C.Chooser.reply g.C.Chooser.is_spent c.args.facts.now due c.if-spent.choosers.items) (sym w.at-is)
          (subst (λ v. IsAskedTo g.C.Chooser.reply g.C.Chooser.is_spent c.args.facts.now due v.items (c.choosers.at + 1)) (sym w.choosers-is)
          (kept_to g.C.Chooser.reply g.C.Chooser.is_spent c.args.facts.now due c.choosers.choosers.items c.choosers.at c.choose-answer.result c.spent.result c.choose-answer.new.self
          turn c.in_default.is w.if-spent.false))
    ]

pub returns : goal.returns
returns g c =
    let past : length c.choosers.choosers.items ≤ c.choosers.at = omega (arith, c.choosers-test.false, c.len.ensures, c.choosers.choosers.ok.0) in
    let chose = none_here g.C.Chooser.reply g.C.Chooser.is_spent c.args.facts.now _ c.choosers.choosers.items c.choosers.at c.choosers.invariant past in
    record { kind = chose.kind_is; left = chose.alike }
