-- The text of an audit: a line for each message that is applied, and at the end what a client then holds. This
-- project's own rule.
use Rattle.std.specs.Prelude.{ℕ, List, [], ◌∷◌, ◌++◌}
use Rattle.std.specs.FinMap.{len}
use Rattle.gfx_base.specs.Memory.{next_count}
use Rattle.gfx_pdu.specs.Spelling.{id_of}
use Rattle.gfx_report.specs.Audit.{audit_line, audit_end_text}
use Rattle.gfx_state.specs.History.{Effect, history_of}
use Rattle.gfx_state.specs.State.{State}

-- the lines of these messages, where so many were applied before them
unfoldable pub lines : ℕ → List Effect → List ℕ
lines applied [] = []
lines applied (message ∷ more) =
    audit_line (next_count applied) (id_of message.pdu) message.size ++ lines (next_count applied) more

-- the lines of all messages in these bytes
abbrev pub told : List ℕ → List ℕ
told bytes = lines 0 (history_of bytes)

-- the lines of what a client in this state holds
abbrev pub held_lines : State → List ℕ
held_lines state = audit_end_text state.cache.slots state.clear.rings state.clear.glyphs (len state.records)
