-- What the parts of `render` come to, and a command of which nothing was begun.
use Rattle.std.proofs.Common.{◌≡◌, ℕ, List, [], Option, Some, None, Result, Ok, Err, refl, sym, ap, ◌∙◌, subst, arith}
use Rattle.gfx_base.specs.Stream.{Change, change, Gains, FailsAfter}
use Rattle.gfx_base.proofs.Streams.{Gains_none, Keeps_same}
use Rattle.gfx_chooser.specs.Choosing.{Chooser}
use Rattle.gfx_client.specs.declared.client.Client.{Client}
use Rattle.gfx_client.specs.declared.fault.ClientFault.{ClientFault}
use Rattle.gfx_client.specs.declared.fault.ClientFault.TheVariants as fault
use Rattle.gfx_client.specs.Client.{cursor_of, closed_by, end_of}
use Rattle.gfx_fragments.specs.Found.{Found, fragmented, joined}
use Rattle.gfx_fragments.proofs.FoundLemmas.{IsFinder, fragments_found, joins_found}
use Rattle.gfx_input.specs.declared.fault.InputFault.{InputFault}
use Rattle.gfx_input.specs.declared.fault.InputFault.TheVariants as input
use Rattle.gfx_input.specs.declared.reading.Read.{Read}
use Rattle.gfx_input.specs.declared.reading.Read.TheVariants as read
use Rattle.gfx_input.specs.Reading.{rest_of, Reads, input_of, EndsBy, ReadsInput}
use Rattle.gfx_input.specs.Taking.{fixed, silent, nowhere}
use Rattle.gfx_input.proofs.Pieces.{Tells_rest}
use Rattle.gfx_input.proofs.Silent.{never_fails, ends_only}
use Rattle.gfx_session.specs.declared.session.Session as answered
use Rattle.gfx_state.specs.Run.{Run, begun}
use Rattle.gfx_state.specs.State.{State}
use Rattle.gfx_state.proofs.Runs.{eats-nil}
use Rattle.gfx_surface_map.specs.Shown.{Shown}
use Rattle.gfx_words.specs.declared.table.Command.{Command}
use Rattle.gfx_words.specs.declared.table.Command.TheVariants.{Render, RenderOutput, Audit, Encode, Session, Make, Trial, Import, Fragment, Join}
use Rattle.gfxpipe.specs.declared.ending.Ending.{Ending}
use Rattle.gfxpipe.specs.declared.outcome.Outcome.{Outcome}
use Rattle.gfxpipe.specs.declared.recording.Player.{Player}
use Rattle.gfxpipe.specs.declared.render.Dump.{Dump}
use Rattle.gfxpipe.specs.declared.trouble.Trouble.{Trouble}
use Rattle.gfxpipe.specs.declared.trouble.Trouble.TheVariants as trouble
use Rattle.gfxpipe.specs.Did.{IsNotRefused, IsReadWhole, IsUnread, trouble_of}
use Rattle.gfxpipe.specs.Due.{shown, played, found_in, found_for, from_scratch_or, scratch_in}
use Rattle.gfxpipe.specs.Dump.{dump_of, Prints}
use Rattle.gfxpipe.specs.Imports.{kept_in}
use Rattle.gfxpipe.specs.Outcome.{ended_of, session_of}
use Rattle.gfxpipe.specs.Recording.{ending_by}
use Rattle.gfxpipe.specs.Rule.{Limits, Source, Nothing, From, Rule, DoesBy}
use Rattle.gfxpipe.specs.Rules.{rule_of, working, Renders, Audits}
use Rattle.gfxpipe.specs.Run.{Executes}
use Rattle.gfxpipe.proofs.Encoding.{nothing_written}
use Rattle.gfxpipe.proofs.Encoding.{unasked as no_stream}
use Rattle.gfxpipe.proofs.Sessions.{unasked as no_session}
use Rattle.gfxpipe.proofs.Importing.{fine_first}
use Rattle.gfxpipe.proofs.Recordings.{Plays, Refuses, told, tells}

-- nothing was begun -----------------------------------------------------------------------------------

-- the empty front of an input is fine
fine_none : IsNotRefused []
fine_none = ap (λ (z : Run). z.refusal) (eats-nil begun)

abbrev FineNone : Source → Type 0
FineNone Nothing = Unit {0}
FineNone (From input) = input.is_fine []

-- a command that has begun nothing has written, answered and asked nothing
record IsIdle (rule : Rule) : Type 0 where
  fine : FineNone rule.reads
  writes : (m : ℕ) (held : Option (List ℕ)) (text : List ℕ) → rule.writes_on (change m m held held) text
  answers : (choosers : List Chooser) (limit : ℕ) (bytes : List ℕ) → rule.answers (Err trouble.Memory) choosers None limit bytes
  leaves : (choosers : List Chooser) (limit m : ℕ) (held : Option (List ℕ)) (bytes : List ℕ) → rule.leaves (Err trouble.Memory) choosers choosers limit bytes (change m m held held)

-- `fragment` and `join`
idle_work : (find : List ℕ → Found) → IsFinder find → IsIdle (working find)
idle_work find law = record { fine = law.fine_first; writes = λ m held text. nothing_written text m held; answers = λ choosers limit bytes. refl; leaves = λ choosers limit m held bytes. refl }

idle : (command : Command) → IsIdle (rule_of command)
idle Render = record { fine = fine_none; writes = λ m held text. Gains_none m held; answers = λ choosers limit bytes. refl; leaves = λ choosers limit m held bytes. refl }
idle RenderOutput = record { fine = fine_none; writes = λ m held text. Gains_none m held; answers = λ choosers limit bytes. refl; leaves = λ choosers limit m held bytes. refl }
idle Audit = record { fine = fine_none; writes = λ m held text. nothing_written text m held; answers = λ choosers limit bytes. refl; leaves = λ choosers limit m held bytes. refl }
idle Encode = record {
  fine = tt;
  writes = λ m held text. nothing_written text m held;
  answers = λ choosers limit bytes. refl;
  leaves = λ choosers limit m held bytes. no_stream trouble.Memory (found_in limit bytes) choosers m held;
}
idle Session = record {
  fine = tt;
  writes = λ m held text. Gains_none m held;
  answers = λ choosers limit bytes. refl;
  leaves = λ choosers limit m held bytes. no_session trouble.Memory (scratch_in limit bytes) choosers;
}
idle (Make number) = record { fine = tt; writes = λ m held text. Gains_none m held; answers = λ choosers limit bytes. refl; leaves = λ choosers limit m held bytes. refl }
idle (Trial number) = record {
  fine = tt;
  writes = λ m held text. Gains_none m held;
  answers = λ choosers limit bytes. refl;
  leaves = λ choosers limit m held bytes. no_session trouble.Memory (from_scratch_or (found_for number)) choosers;
}
idle Import = record {
  fine = fine_first;
  writes = λ m held text. Gains_none m held;
  answers = λ choosers limit bytes. refl;
  leaves = λ choosers limit m held bytes. no_session trouble.Memory (kept_in limit bytes) choosers;
}
idle Fragment = idle_work fragmented fragments_found
idle Join = idle_work joined joins_found

unread : (n : ℕ) (left : Option (List ℕ)) → IsUnread (change n n left left)
unread n left = record { count = refl; left = Keeps_same left }

reads_none : (is_fine : List ℕ → Type 0) (allowed : List ℕ → ℕ) (n : ℕ) (left : Option (List ℕ)) → is_fine [] → Reads is_fine allowed (change n n left left)
reads_none is_fine allowed n left fine = record { taken = []; few = omega arith; told = Tells_rest left; early = fine }

-- no memory is left before anything is read
none_done : (source : Source) (rule : Rule) (choosers : List Chooser) (bounds : Limits) (n m : ℕ) (left held : Option (List ℕ)) → FineNone source → IsIdle rule
    → DoesBy source (Err trouble.Memory) None rule choosers choosers bounds (change n n left left) (change m m held held)
none_done Nothing rule choosers bounds n m left held fine idle =
    record { unread = unread n left; ends = idle.writes m held _; answers = idle.answers choosers 0 []; leaves = idle.leaves choosers 0 m held [] }
none_done (From input) rule choosers bounds n m left held fine idle = (
  (reads_none input.is_fine (input.allowed (input.limit bounds)) n left fine, (refl, idle.writes m held _)),
  idle.answers choosers (input.limit bounds) _,
  idle.leaves choosers (input.limit bounds) m held _,
)

pub memory_first : (command : Option Command) (choosers : List Chooser) (bounds : Limits) (n m : ℕ) (left held : Option (List ℕ))
    → Executes (Err trouble.Memory) None command choosers choosers bounds (change n n left left) (change m m held held)
memory_first None choosers bounds n m left held = ((unread n left, Gains_none m held), refl, refl)
memory_first (Some command) choosers bounds n m left held = none_done (rule_of command).reads (rule_of command) choosers bounds n m left held (idle command).fine (idle command)

-- the words are another spelling of the same command
pub spelled : (ended : Result Ending Trouble) (session : Option answered.Session) (a b : Option Command) (choosers left : List Chooser) (bounds : Limits) (i o : Change) → a ≡ b → Executes ended session a choosers left bounds i o
    → Executes ended session b choosers left bounds i o
spelled ended session a b choosers left bounds i o same done = subst (λ (z : Option Command). Executes ended session z choosers left bounds i o) same done

-- and the outcome has no session
pub alone : (outcome : Result Outcome Trouble) (ended : Result Ending Trouble) (a b : Option Command) (choosers left : List Chooser) (bounds : Limits) (i o : Change) → a ≡ b → ended_of outcome ≡ ended
    → session_of outcome ≡ None → Executes ended None a choosers left bounds i o → Executes (ended_of outcome) (session_of outcome) b choosers left bounds i o
alone outcome ended a b choosers left bounds i o same is none done =
    subst (λ (z : Option Command). Executes (ended_of outcome) (session_of outcome) z choosers left bounds i o) same
    (subst (λ (z : Result Ending Trouble). Executes z (session_of outcome) a choosers left bounds i o) (sym is) (subst (λ (z : Option answered.Session). Executes ended z a choosers left bounds i o) (sym none) done))

-- a recording ----------------------------------------------------------------------------------------------

-- no client can be made
pub no_client : (d : Dump) (limit n m : ℕ) (left held : Option (List ℕ)) → Renders (Err trouble.Memory) d limit (change n n left left) (change m m held held)
no_client d limit n m left held = (reads_none IsNotRefused (fixed limit) n left fine_none, (refl, Gains_none m held))

-- a recording could not be read
pub not_played : (f : InputFault) (d : Dump) (limit m : ℕ) (i : Change) (held : Option (List ℕ)) (player : Player) → ReadsInput Plays Refuses IsNotRefused silent (Err f) (fixed limit) i nowhere player
    → Renders (Err (trouble_of f)) d limit i (change m m held held)
not_played input.Read d limit m i held player (reads, (falls, rose), broke) = (reads, (falls, rose, Gains_none m held))
not_played input.Write d limit m i held player (reads, count, broke) = absurd (never_fails [] broke.broke)
not_played input.Memory d limit m i held player (reads, count, broke) = (reads, (count, Gains_none m held))

-- no auditor can be made
pub no_auditor : (limit n m : ℕ) (left held : Option (List ℕ)) → Audits (Err trouble.Memory) limit (change n n left left) (change m m held held)
no_auditor limit n m left held = (reads_none IsNotRefused (fixed limit) n left fine_none, (refl, nothing_written _ m held))

-- a recording that ends well was read to its end
pub read_whole : (r : Read) (limit : ℕ) (bytes : List ℕ) (i : Change) (player : Player) → EndsBy Plays Refuses r limit bytes (rest_of i.new) player → IsReadWhole (told r player) i
read_whole read.Whole limit bytes i player e = by (end_of (closed_by player.client) (cursor_of player.client))
  where
    by : (answer : Result (Unit {0}) ClientFault) → IsReadWhole (ending_by read.Whole answer) i
    by (Ok done) = e.1
    by (Err (fault.Refused number r)) = tt
    by (Err fault.Memory) = e.1
    by (Err (fault.ClosedRefused number r)) = e.1
    by (Err fault.ClosedMemory) = e.1
read_whole read.TooLong limit bytes i player e = tt
read_whole read.Stopped limit bytes i player e =
    subst (λ z. IsReadWhole (ending_by read.Stopped (end_of z (cursor_of player.client))) i) (sym e.stopped.refused.closed) tt

-- the text of a client is that of what was played
text_of : (d : Dump) (limit : ℕ) (bytes : List ℕ) (client : Client) (seen : Shown) → seen ≡ (cursor_of client).state.shown → (cursor_of client).state ≡ (played limit bytes).state
    → dump_of d seen ≡ (shown (dump_of d) limit bytes).text
text_of d limit bytes client seen same state = ap (dump_of d) (same ∙ ap (λ (z : State). z.shown) state)

-- a recording was played, and what the client shows was printed
pub printed : (d : Dump) (r : Read) (limit : ℕ) (i o : Change) (player : Player) (seen : Shown) → ReadsInput Plays Refuses IsNotRefused silent (Ok r) (fixed limit) i nowhere player
    → seen ≡ (cursor_of player.client).state.shown → Gains o (dump_of d seen) → Renders (Ok (told r player)) d limit i o
printed d r limit i o player seen (reads, count, wrote) same gains =
    let ends = ends_only Plays Refuses silent nowhere r limit (input_of reads) (rest_of i.new) player wrote in
    let t = tells r limit (input_of reads) (rest_of i.new) player ends in
    (reads, (t.ending, count, read_whole r limit (input_of reads) i player ends, subst (Gains o) (text_of d limit (input_of reads) player.client seen same t.state) gains))

-- a recording was played, and what the client shows could not be printed
pub not_printed : (t : Trouble) (d : Dump) (r : Read) (limit : ℕ) (i o : Change) (player : Player) (seen : Shown) → ReadsInput Plays Refuses IsNotRefused silent (Ok r) (fixed limit) i nowhere player
    → seen ≡ (cursor_of player.client).state.shown → Prints (Err t) o (dump_of d seen) → Renders (Err t) d limit i o
not_printed trouble.Write d r limit i o player seen (reads, count, wrote) same fails =
    let ends = ends_only Plays Refuses silent nowhere r limit (input_of reads) (rest_of i.new) player wrote in
    let t = tells r limit (input_of reads) (rest_of i.new) player ends in
    (reads, (count, subst (FailsAfter o) (text_of d limit (input_of reads) player.client seen same t.state) fails))
not_printed trouble.Memory d r limit i o player seen (reads, count, wrote) same gains = (reads, (count, gains))
not_printed trouble.Read d r limit i o player seen reads same never = absurd never
