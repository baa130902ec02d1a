use Rattle.std.proofs.Common.{◌≡◌, ◌+◌, ◌-◌, ◌∙◌, List, sym, ap, subst, arith}
use Rattle.gfx_chooser.specs.Choosing.{Chooser}
use Rattle.gfx_chooser.specs.Seen.{seen}
use Rattle.gfx_schedule.specs.Schedule.{rounds_for}
use Rattle.gfx_session.proofs.TurnLemmas.{HasDrained, drains_none, drains_next, drains_ended, drains_last}
use Rattle.gfx_session.proofs.session.Session.drain.Goals as goal

pub rounds-init : goal.rounds-init
rounds-init g c =
    let before : List Chooser = seen g.C.Chooser.reply g.C.Chooser.is_spent c.args.choosers.now.items in
    let all : c.most_rounds-most.result - 0 ≡ c.most_rounds-most.result = omega arith in
    drains_none c.args.self.now before (c.most_rounds-most.result - 0) c.requires c.if-self.false (all ∙ c.most_rounds-most.ensures ∙ ap rounds_for c.script.ensures)

pub returns-then-has_ended-clause-drains : goal.returns-then-has_ended-clause-drains
returns-then-has_ended-clause-drains g c =
    let before : List Chooser = seen g.C.Chooser.reply g.C.Chooser.is_spent c.args.choosers.now.items in
    let left : List Chooser = seen g.C.Chooser.reply g.C.Chooser.is_spent c.rounds.choosers.items in
    drains_ended c.args.self.now c.rounds.self before left (c.most_rounds-most.result - c.rounds.counter) c.rounds_end.ensures c.requires c.if-self.false c.rounds.invariant
    (λ w s. sym c.if-has_ended.true ∙ c.has_ended.ensures w s)

pub rounds-preserved : goal.rounds-preserved
rounds-preserved g c =
    let before : List Chooser = seen g.C.Chooser.reply g.C.Chooser.is_spent c.args.choosers.now.items in
    let here : List Chooser = seen g.C.Chooser.reply g.C.Chooser.is_spent c.rounds.choosers.items in
    let left : List Chooser = seen g.C.Chooser.reply g.C.Chooser.is_spent c.round.new.choosers.items in
    let most = c.most_rounds-most.result in
    let less : most - c.rounds.counter ≡ (most - (c.rounds.counter + 1)) + 1 = omega (arith, c.rounds-test.true) in
    drains_next c.args.self.now c.rounds.self c.round.new.self before here left (most - c.rounds.counter) (most - (c.rounds.counter + 1)) less c.rounds.invariant
    (λ w s. sym c.if-has_ended.false ∙ c.has_ended.ensures w s) c.in_ok-round.ensures.goes c.round.ensures.is

pub returns-clause-drains : goal.returns-clause-drains
returns-clause-drains g c =
    let before : List Chooser = seen g.C.Chooser.reply g.C.Chooser.is_spent c.args.choosers.now.items in
    let left : List Chooser = seen g.C.Chooser.reply g.C.Chooser.is_spent c.rounds.choosers.items in
    let none : c.most_rounds-most.result - c.rounds.counter ≡ 0 = omega (arith, c.rounds-test.false) in
    drains_last c.args.self.now c.rounds.self before left c.rounds_end.ensures c.requires c.if-self.false (subst (HasDrained c.args.self.now c.rounds.self before left) none c.rounds.invariant)
