use Rattle.std.proofs.Common.{◌≡◌, ◌+◌, ◌∙◌, sym, arith, drop, nat_le}
use Rattle.std.specs.List.{list_all}
use Rattle.gfx_window.specs.Superseded.{stands_aside}
use Rattle.gfx_window.proofs.SureLaws.{left-here, newest-left, sent-here}
use Rattle.gfx_window.proofs.sparing.mark_surely_sent.Goals.{else-not-need_not_be_sent, then-not-need_not_be_sent}
use Rattle.gfx_window.proofs.sparing.mark_surely_sent.Goals as goal

pub older-preserved : goal.older-preserved
older-preserved c =
    let test : list_all (stands_aside c.args.script.now) (drop (c.older.place + 1) c.args.older.now) ≡ nat_le c.aside_from-quiet.result (c.older.place + 1) = c.aside_from-quiet.ensures (c.older.place + 1) (omega arith) in
    elim c.if-not-need_not_be_sent.branch [
      | then-not-need_not_be_sent w ↦
          rw (w.marks-is, w.mark_item.ensures) (sent-here c.args.script.now c.args.older.now c.args.newest.now c.older.place _ _ c.older.marks _ (omega arith) test
          (sym c.need_not_be_sent.ensures ∙ w.if-not-need_not_be_sent.true) c.older.invariant)
      | else-not-need_not_be_sent w ↦
          rw w.marks-is (left-here c.args.script.now c.args.older.now c.args.newest.now c.older.place _ _ c.older.marks _ (omega arith) test
          (sym c.need_not_be_sent.ensures ∙ w.if-not-need_not_be_sent.false) c.older.invariant)
    ]

pub returns : goal.returns
returns c = c.mark_items.ensures ∙ newest-left c.args.script.now c.args.older.now c.args.newest.now c.older.place _ c.older.marks (omega arith) c.older.invariant
