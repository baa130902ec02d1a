use Rattle.gfx_rlgr.proofs.number_writer.write_number.Goals as goal

pub returns : goal.returns
returns c = (rw (← c.kr-low.ensures) c.in_ok-write_code.ensures, rw (← c.kr-low.ensures) c.after_ones.ensures)
