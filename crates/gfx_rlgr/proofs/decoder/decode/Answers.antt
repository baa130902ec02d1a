use Rattle.std.proofs.Common.{◌≡◌, true, false, sym, ap, refl, ◌∙◌, arith}
use Rattle.std.proofs.lemmas.Bool.{le-leb, lt-leb}
use Rattle.std.specs.Prelude.{nat_le}
use Rattle.gfx_rlgr.proofs.Filling.{answer-in, answer-out}
use Rattle.gfx_rlgr.proofs.Places.{all-zero}
use Rattle.gfx_rlgr.proofs.decoder.decode.Goals as goal

pub returns-then-from-le-MAGNITUDE_MAX-clause-ok : goal.returns-then-from-le-MAGNITUDE_MAX-clause-ok
returns-then-from-le-MAGNITUDE_MAX-clause-ok c =
    let read = c.fill_by-most.ensures in
    let few : nat_le c.fill_by-most.result 32767 ≡ true = le-leb _ _ (omega (arith, c.if-from-le-MAGNITUDE_MAX.true, c.from.ensures)) in
    (read.0, read.1, answer-in _ c.fill_by-most.new.out read.2 (ap (λ m. nat_le m 32767) (sym read.3) ∙ few))

pub returns-clause-refused : goal.returns-clause-refused
returns-clause-refused c =
    let read = c.fill_by-most.ensures in
    let many : nat_le c.fill_by-most.result 32767 ≡ false = lt-leb _ _ (omega (arith, c.if-from-le-MAGNITUDE_MAX.false, c.from.ensures)) in
    (refl, (read.0, read.1, answer-out _ c.fill_by-most.new.out read.2 (ap (λ m. nat_le m 32767) (sym read.3) ∙ many)))

pub returns-clause-err : goal.returns-clause-err
returns-clause-err c = all-zero 4096 c.clear.new.out c.clear.ensures
