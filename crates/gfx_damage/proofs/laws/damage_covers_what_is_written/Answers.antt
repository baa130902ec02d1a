use Rattle.gfx_damage.proofs.DamageLemmas.{notes}
use Rattle.gfx_damage.proofs.MarkLemmas.{keeps}
use Rattle.gfx_damage.proofs.laws.damage_covers_what_is_written.Goals as goal

pub returns-clause-notes : goal.returns-clause-notes
returns-clause-notes c = λ before state pdu. notes before state pdu

pub returns-clause-keeps : goal.returns-clause-keeps
returns-clause-keeps c = λ rects more. keeps rects more
