-- Which messages may want memory: this project's own rule.
use Rattle.std.specs.Prelude.{◌||◌, Bool, is_some}
use Rattle.gfx_pdu.specs.declared.pdu.Pdu.{Pdu}
use Rattle.gfx_state.specs.Memory.{takes_memory}
use Rattle.gfx_state.specs.State.{State}
use Rattle.gfx_state.specs.Written.{written}

-- the effect of this message on a state takes memory, or it writes on a surface that is there, of which a note is taken
abbrev pub may_want : State → Pdu → Bool
may_want state pdu = takes_memory state pdu || is_some (written state pdu)
