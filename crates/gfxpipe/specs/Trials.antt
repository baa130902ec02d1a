-- What a trial comes to: this project's own rule.
use Rattle.std.specs.Prelude.{ℕ, List, [], length, Option, Some, None, Result}
use Rattle.std.specs.List.{last_or}
use Rattle.gfx_base.specs.Stream.{Change}
use Rattle.gfx_chooser.specs.Choosing.{Chooser}
use Rattle.gfx_report.specs.Texts.{trial_line}
use Rattle.gfx_session.specs.declared.acked.Acked.{Acked}
use Rattle.gfx_session.specs.declared.session.Session.{Session}
use Rattle.gfxpipe.specs.declared.ending.Ending.{Ending}
use Rattle.gfxpipe.specs.declared.trouble.Trouble.{Trouble}
use Rattle.gfxpipe.specs.Did.{EndsUnread}
use Rattle.gfxpipe.specs.Rules.{trying}
use Rattle.gfxpipe.specs.Sessions.{told_line}

-- how it ended, what session it answered, and what it left of the choosers
pub record Tries (ended : Result Ending Trouble) (answered : Option Session) (number : ℕ) (choosers left : List Chooser) (o : Change) : Type 0 where
  pub ends : EndsUnread ended (trying number).writes_on ((trying number).due choosers 0 []) o
  pub answers : (trying number).answers ended choosers answered 0 []
  pub leaves : (trying number).leaves ended choosers left 0 [] o

-- the line of the last of these acknowledged frames, as a session keeps them
abbrev pub kept_trial : ℕ → ℕ → Option Acked → List ℕ
kept_trial number count None = []
kept_trial number count (Some ack) = told_line (trial_line number count ack.step) ack.client ack.server

abbrev pub acks_trial : ℕ → List Acked → List ℕ
acks_trial number acks = kept_trial number (length acks) (last_or None acks)
