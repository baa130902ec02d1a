use Rattle.std.proofs.Common.{◌∙◌, ◌≡◌, subst, sym, length, arith}
use Rattle.std.specs.Prelude.{IfSome}
use Rattle.gfx_prog_live.specs.Cells.{cell_key}
use Rattle.std.specs.FinMap.{get}
use Rattle.gfx_prog_live.specs.Inside.{Lists}
use Rattle.gfx_prog_live.proofs.Taking.{TakenOut, taken_out}
use Rattle.gfx_prog_live.proofs.live.LiveTiles.take_raised.Goals as goal

out : (c : goal.After-struct_known-1) → TakenOut (get c.args.self.now (cell_key c.args.id c.args.cell)) c.in_ok-send.send
out c = taken_out _ c.in_ok-send.send c.in_ok-send.ensures.value (sym c.may_be_raised.ensures ∙ c.if-not-may_be_raised.false)

pub overflow_add-send : goal.overflow_add-send
overflow_add-send c =
    let lists : length c.in_ok-send.send.tile.setting.levels ≡ c.args.listed = subst (λ o. IfSome o (Lists c.args.listed)) (sym c.in_ok-send.ensures.value) c.requires.levels in
    omega (arith, (out c).below, lists, c.requires.few)

pub returns-clause-value : goal.returns-clause-value
returns-clause-value c = (out c).value
