-- What a server's end makes of its client's messages, one after another.
use Rattle.std.proofs.Common.{◌≡◌, ◌<◌, ◌≤◌, ℕ, false, List, [], ◌++◌, length, take, drop, Option, Some, None, Result, Ok, Err, refl, sym, ap, ◌∙◌, subst, append_assoc, length-append, arith}
use Rattle.std.specs.Int.{w32}
use Rattle.std.proofs.lemmas.List.{append-nil, take-append-drop, take_all, drop_all, length-take-le}
use Rattle.std.proofs.Math.Seq.{drop-append_seam}
use Rattle.std.specs.Prelude.{is_some}
use Rattle.gfx_base.specs.Results.{and_then}
use Rattle.gfx_base.specs.declared.answer.Cause.{Cause}
use Rattle.gfx_base.specs.declared.answer.Cause.TheVariants as cause
use Rattle.gfx_base.specs.declared.refusal.Refusal.{Refusal}
use Rattle.gfx_base.specs.declared.refusal.Refusal.TheVariants.{ChannelLength}
use Rattle.gfx_caps.specs.Reading.{client_of}
use Rattle.gfx_schedule.proofs.Listening.{hears-append, hears-nil, hears_short, hears_bad, hears_whole, hears_stopped}
use Rattle.gfx_schedule.specs.Hearing.{Heard, listening, stop, told, hears}
use Rattle.gfx_schedule.specs.ServerEnd.{Stop, ScheduledEnd}
use Rattle.gfx_schedule.specs.ServerEnd.{Refused as refuses, Unknown as unknown}
use Rattle.gfx_schedule.specs.Words.{holding as with_held}
use Rattle.gfx_script.specs.Scripted.{Script}
use Rattle.gfx_base.specs.declared.TheConstants.{MOST_MESSAGE}
use Rattle.gfx_base.specs.Field.{number_at}
use Rattle.gfx_base.proofs.FieldLemmas.{number_at-append}
use Rattle.gfx_segment.specs.Framing.{Front, Whole, Short, Bad, front, front_of, Splitter, holding, fed, next, after_next, next_of, answer_of, behind, Answers}
use Rattle.gfx_segment.proofs.FrontLemmas.{front-nil, front_at, front_whole, length-after, whole_at}
use Rattle.gfx_session.specs.Kept.{ListensAs}
use Rattle.gfx_session.specs.Listening.{Amid, LeavesPlan, Obeys, Hears}
use Rattle.gfx_session.specs.Taking.{AnswersWhole, IsWhyStopped, fault_of}
use Rattle.gfx_session.specs.declared.server_end.ServerEnd.{ServerEnd}
use Rattle.gfx_session.specs.declared.server_end.ServerFault.{ServerFault}
use Rattle.gfx_session.specs.declared.server_end.ServerFault.TheVariants.{Refused, Ack, Memory, Closed}
use Rattle.gfx_session.specs.declared.server_end.listening.ShownFrame.{ShownFrame}

-- what the splitter answers ---------------------------------------------------------------------------------

-- it gave a message
pub record One (held new : Splitter) (message : List ℕ) : Type 0 where
  pub after : List ℕ
  pub whole : front held.rest ≡ Whole message after
  pub none : held.refusal ≡ None
  pub is : new ≡ holding after
  pub fewer : length new.rest < length held.rest

one_of : (f : Front) (bytes message : List ℕ) (new : Splitter) → front bytes ≡ f → answer_of Ok f ≡ Ok (Some message) → new ≡ behind (answer_of Ok f) f bytes → One (holding bytes) new message
unfolding answer_of behind and_then
one_of (Whole m a) bytes message new found e n =
    let same : m ≡ message = cc in
    let is : new ≡ holding a = n in
    record { after = a; whole = found ∙ ap (λ z. Whole z a) same; none = refl; is = is; fewer = omega (arith, length-after bytes m a found, ap (λ z. length z.rest) is) }
one_of Short bytes message new found e n = absurd cc
one_of Bad bytes message new found e n = absurd cc

one_from : (kept : Option Refusal) (rest message : List ℕ) (new : Splitter) → next Ok (record { rest = rest; refusal = kept }) ≡ Ok (Some message) → new ≡ after_next Ok (record { rest = rest; refusal = kept }) → One (record { rest = rest; refusal = kept }) new message
unfolding next_of
one_from None rest message new e n = one_of (front rest) rest message new refl e n
one_from (Some r) rest message new e n = absurd cc

pub one : (held new : Splitter) (message : List ℕ) → (next Ok held ≡ Ok (Some message)) × (new ≡ after_next Ok held) → One held new message
one held new message e = one_from held.refusal held.rest message new e.0 e.1

-- it has none
none_of : (f : Front) (bytes : List ℕ) (new : Splitter) → answer_of Ok f ≡ Ok None → new ≡ behind (answer_of Ok f) f bytes → (f ≡ Short) × (new ≡ holding bytes)
unfolding answer_of behind and_then
none_of (Whole m a) bytes new e n = absurd cc
none_of Short bytes new e n = (refl, n)
none_of Bad bytes new e n = absurd cc

none_from : (kept : Option Refusal) (rest : List ℕ) (new : Splitter) → kept ≡ None → next Ok (record { rest = rest; refusal = kept }) ≡ Ok None → new ≡ after_next Ok (record { rest = rest; refusal = kept }) → (front rest ≡ Short) × (new ≡ holding rest)
unfolding next_of
none_from None rest new k e n = none_of (front rest) rest new e n
none_from (Some r) rest new k e n = absurd cc

-- it refuses
bad_of : (f : Front) (r : Refusal) → answer_of Ok f ≡ Err r → (f ≡ Bad) × (r ≡ ChannelLength)
unfolding answer_of and_then
bad_of (Whole m a) r e = absurd cc
bad_of Short r e = absurd cc
bad_of Bad r e = (refl, (let same : r ≡ ChannelLength = cc in same))

bad_from : (kept : Option Refusal) (rest : List ℕ) (r : Refusal) → kept ≡ None → next Ok (record { rest = rest; refusal = kept }) ≡ Err r → (front rest ≡ Bad) × (r ≡ ChannelLength)
unfolding next_of
bad_from None rest r k e = bad_of (front rest) r e
bad_from (Some s) rest r k e = absurd cc

-- in the midst of a piece ---------------------------------------------------------------------------------------

-- what the piece comes to is what the schedule's end comes to, as it is now, with the bytes that are held
pub record Midway (script : Script) (at : ScheduledEnd) (piece before now : List ℕ) (had has : List ShownFrame) (end : ServerEnd) : Type 0 where
  pub heard : Heard
  pub amid : Amid before now had has end heard
  pub goes_on : heard.end.stopped ≡ None
  pub unrefused : end.splitter.refusal ≡ None
  pub same : hears script (listening at) piece ≡ hears script (with_held heard []) end.splitter.rest
  -- and these bytes were a whole number of messages
  pub taken : List ℕ
  pub cut : at.heard ++ piece ≡ taken ++ end.splitter.rest
  pub told : hears script (with_held (listening at) []) taken ≡ with_held heard []

none_stopped : (stopped : Option Stop) → false ≡ is_some stopped → stopped ≡ None
none_stopped None e = refl
none_stopped (Some why) e = absurd cc

begun_at : (script : Script) (at : ScheduledEnd) (piece : List ℕ) → at.stopped ≡ None → front at.heard ≡ Short → hears script (listening at) piece ≡ hears script (with_held (listening at) []) (at.heard ++ piece)
begun_at script at piece on short =
    let first : hears script (with_held (listening at) []) at.heard ≡ listening at = hears_short script (with_held (listening at) []) at.heard on short in
    ap (λ z. hears script z piece) (sym first) ∙ sym (hears-append script (with_held (listening at) []) at.heard piece)

pub begins : (old : ServerEnd) (splitter : Splitter) (at : ScheduledEnd) (piece before : List ℕ) (had : List ShownFrame) → old.closed ≡ false → splitter ≡ fed old.splitter piece → ListensAs old at
    → Midway old.script at piece before before had had (record old { splitter = splitter })
begins old splitter at piece before had opened is s =
    let on = none_stopped at.stopped (sym opened ∙ s.closed) in
    let held : splitter ≡ holding (at.heard ++ piece) = is ∙ ap (λ z. fed z piece) (s.heard on) in
    record {
      heard = listening at;
      amid = record {
        window = s.window;
        ends = s.ends;
        even = s.even;
        confirmed = s.confirmed;
        out = sym (append-nil before);
        taken = sym (append-nil had);
        paired = refl;
      };
      goes_on = on;
      unrefused = ap (λ z. z.refusal) held;
      same = begun_at old.script at piece on (s.short on) ∙ ap (λ z. hears old.script (with_held (listening at) []) z.rest) (sym held);
      taken = [];
      cut = ap (λ z. z.rest) (sym held);
      told = hears-nil old.script (with_held (listening at) []);
    }

-- what is held is no matter
amid_held : (before now : List ℕ) (had has : List ShownFrame) (end : ServerEnd) (splitter : Splitter) (heard : Heard) (bytes : List ℕ) → Amid before now had has end heard → Amid before now had has (record end { splitter = splitter }) (with_held heard bytes)
amid_held before now had has end splitter heard bytes a = record {
  window = a.window;
  ends = a.ends;
  even = a.even;
  confirmed = a.confirmed;
  out = a.out;
  taken = a.taken;
  paired = a.paired;
}

amid_stop : (before now : List ℕ) (had has : List ShownFrame) (end : ServerEnd) (splitter : Splitter) (heard : Heard) (why : Stop) → Amid before now had has end heard → Amid before now had has (record end { splitter = splitter }) (stop heard why)
amid_stop before now had has end splitter heard why a = record {
  window = a.window;
  ends = a.ends;
  even = a.even;
  confirmed = a.confirmed;
  out = a.out;
  taken = a.taken;
  paired = a.paired;
}

-- all that is whole was told
abbrev HasWaited : List ℕ → List ℕ → List ShownFrame → List ShownFrame → ServerEnd → Heard → Type 0
HasWaited before now had has end all = Amid before now had has end all × (all.end.stopped ≡ None) × (end.splitter ≡ holding all.end.heard) × (front all.end.heard ≡ Short)

pub waits : (script : Script) (at : ScheduledEnd) (piece before now : List ℕ) (had has : List ShownFrame) (end : ServerEnd) (splitter : Splitter) → Midway script at piece before now had has end
    → (next Ok end.splitter ≡ Ok None) × (splitter ≡ after_next Ok end.splitter) → HasWaited before now had has (record end { splitter = splitter }) (hears script (listening at) piece)
waits script at piece before now had has end splitter m e =
    let rest : List ℕ = end.splitter.rest in
    let found = none_from end.splitter.refusal rest splitter m.unrefused e.0 e.1 in
    let is : hears script (listening at) piece ≡ with_held m.heard rest = m.same ∙ hears_short script (with_held m.heard []) rest m.goes_on found.0 in
    subst (HasWaited before now had has (record end { splitter = splitter })) (sym is) (amid_held before now had has end splitter m.heard rest m.amid, m.goes_on, found.1, found.0)

-- without memory
lacks : (script : Script) (at : ScheduledEnd) (piece before now later : List ℕ) (had has : List ShownFrame) (end : ServerEnd) → Midway script at piece before now had has end → later ≡ now → AnswersWhole script at piece before later
lacks script at piece before now later had has end m e = record {
  taken = m.taken;
  rest = end.splitter.rest;
  cut = m.cut;
  whole = ap (λ z. z.end.heard) m.told;
  gained = e ∙ m.amid.out ∙ ap (λ z. before ++ z.out) (sym m.told);
}

-- a fault of the splitter
abbrev HasStopped : ServerFault → List ℕ → List ℕ → List ShownFrame → List ShownFrame → ServerEnd → Heard → Type 0
HasStopped fault before now had has end all = Amid before now had has end all × IsWhyStopped fault all.end.stopped

refuses_length : (script : Script) (at : ScheduledEnd) (piece before now : List ℕ) (had has : List ShownFrame) (end : ServerEnd) (splitter : Splitter) (r : Refusal) → Midway script at piece before now had has end → next Ok end.splitter ≡ Err r
    → HasStopped (Refused r) before now had has (record end { splitter = splitter }) (hears script (listening at) piece)
refuses_length script at piece before now had has end splitter r m e =
    let rest : List ℕ = end.splitter.rest in
    let found = bad_from end.splitter.refusal rest r m.unrefused e in
    let is : hears script (listening at) piece ≡ stop (with_held m.heard []) (refuses ChannelLength) = m.same ∙ hears_bad script (with_held m.heard []) rest m.goes_on front-nil found.0 in
    subst (HasStopped (Refused r) before now had has (record end { splitter = splitter })) (sym is) (amid_stop before now had has end splitter m.heard (refuses ChannelLength) m.amid, ap (λ z. Some (refuses z)) (sym found.1))

pub splitter_fails : (old end : ServerEnd) (splitter : Splitter) (piece before now : List ℕ) (had has : List ShownFrame) (fault : Cause Refusal) → ((at : ScheduledEnd) → ListensAs old at → Midway old.script at piece before now had has end)
    → Answers (Err fault) end.splitter splitter (next Ok end.splitter) (after_next Ok end.splitter) → Hears (Err (fault_of fault)) old (record end { splitter = splitter }) before now had has piece
splitter_fails old end splitter piece before now had has cause.Memory m e = λ at s. lacks old.script at piece before now now had has end (m at s) refl
splitter_fails old end splitter piece before now had has (cause.Refused r) m e = λ at s. refuses_length old.script at piece before now had has end splitter r (m at s) e.0

-- the piece was not even held
pub untold : (script : Script) (at : ScheduledEnd) (piece before : List ℕ) → AnswersWhole script at piece before before
untold script at piece before =
    let none = hears-nil script (with_held (listening at) []) in
    record {
      taken = [];
      rest = at.heard ++ piece;
      cut = refl;
      whole = ap (λ z. z.end.heard) none;
      gained = sym (append-nil before) ∙ ap (λ z. before ++ z.out) (sym none);
    }

-- the bytes of a whole message, before those behind it
record Wire (bytes message after : List ℕ) : Type 0 where
  wire : List ℕ
  cut : bytes ≡ wire ++ after
  whole : front wire ≡ Whole message []

wire_of : (bytes message after : List ℕ) → front bytes ≡ Whole message after → Wire bytes message after
wire_of bytes message after found =
    let f = front_whole bytes message after found in
    let long : 4 ≤ length bytes = f.begins.long in
    let first : length (take 4 bytes) ≡ 4 = length-take-le 4 bytes long in
    let wire : List ℕ = take 4 bytes ++ message in
    let cut : bytes ≡ wire ++ after =
    sym (take-append-drop 4 bytes) ∙ ap (λ z. take 4 bytes ++ z) (sym (take-append-drop f.size (drop 4 bytes)))
    ∙ (λ i. take 4 bytes ++ (f.cut.message i ++ f.cut.after i)) ∙ sym (append_assoc (take 4 bytes) message after) in
    let behind : drop 4 wire ≡ message = ap (λ n. drop n wire) (sym first) ∙ drop-append_seam (take 4 bytes) message in
    let count : length message ≡ f.size = ap length (sym f.cut.message) ∙ length-take-le f.size (drop 4 bytes) f.cut.within in
    let enough : 4 ≤ length wire = omega (arith, first, length-append (take 4 bytes) message) in
    let spells : number_at w32 wire 0 ≡ f.size = sym (number_at-append w32 wire after 0 enough) ∙ ap (λ z. number_at w32 z 0) (sym cut) ∙ f.begins.spells in
    let given : front wire ≡ Whole (take f.size message) (drop f.size message) =
    front_at f.size wire (record { long = enough; spells = spells }) ∙ ap (λ z. front_of MOST_MESSAGE (Some f.size) z) behind ∙ whole_at MOST_MESSAGE f.size message f.cut.fits (omega (arith, count)) in
    record {
      wire = wire;
      cut = cut;
      whole = given ∙ (λ i. Whole (take (sym count i) message) (drop (sym count i) message))
          ∙ (λ i. Whole (take_all (length message) message (omega arith) i) (drop_all (length message) message (omega arith) i));
    }

-- with a message in hand
record Opened (script : Script) (at : ScheduledEnd) (piece before now : List ℕ) (had has : List ShownFrame) (end : ServerEnd) (message : List ℕ) : Type 0 where
  pub heard : Heard
  pub amid : Amid before now had has end heard
  pub goes_on : heard.end.stopped ≡ None
  pub none : heard.end.heard ≡ []
  pub unrefused : end.splitter.refusal ≡ None
  pub same : hears script (listening at) piece ≡ hears script (told script heard (client_of message)) end.splitter.rest
  pub taken : List ℕ
  pub cut : at.heard ++ piece ≡ taken ++ end.splitter.rest
  pub took : hears script (with_held (listening at) []) taken ≡ told script heard (client_of message)

opens : (script : Script) (at : ScheduledEnd) (piece before now : List ℕ) (had has : List ShownFrame) (end : ServerEnd) (splitter : Splitter) (message : List ℕ) → Midway script at piece before now had has end → One end.splitter splitter message
    → Opened script at piece before now had has (record end { splitter = splitter }) message
opens script at piece before now had has end splitter message m o =
    let none : Heard = with_held m.heard [] in
    let first = wire_of end.splitter.rest message o.after o.whole in
    let one : hears script none first.wire ≡ told script none (client_of message) =
    hears_whole script none first.wire message [] m.goes_on front-nil first.whole ∙ hears-nil script (told script none (client_of message)) in
    record {
      heard = none;
      amid = amid_held before now had has end splitter m.heard [] m.amid;
      goes_on = m.goes_on;
      none = refl;
      unrefused = ap (λ z. z.refusal) o.is;
      same = m.same ∙ hears_whole script none end.splitter.rest message o.after m.goes_on front-nil o.whole ∙ ap (λ z. hears script (told script none (client_of message)) z.rest) (sym o.is);
      taken = m.taken ++ first.wire;
      cut = m.cut ∙ ap (λ z. m.taken ++ z) first.cut ∙ sym (append_assoc m.taken first.wire o.after) ∙ ap (λ z. (m.taken ++ first.wire) ++ z.rest) (sym o.is);
      took = hears-append script (with_held (listening at) []) m.taken first.wire ∙ ap (λ z. hears script z first.wire) m.told ∙ one;
    }

-- it is done
goes : (script : Script) (at : ScheduledEnd) (piece before now later : List ℕ) (had has more : List ShownFrame) (end new : ServerEnd) (message : List ℕ) → Opened script at piece before now had has end message → new.splitter ≡ end.splitter
    → Obeys (Ok tt) end new now later has more (λ heard. told script heard (client_of message)) → Midway script at piece before later had more new
goes script at piece before now later had has more end new message o kept obeys =
    let after : Heard = told script o.heard (client_of message) in
    let done = obeys before had o.heard o.amid in
    let empty : after.end.heard ≡ [] = done.2 ∙ o.none in
    let is : after ≡ with_held after [] = ap (with_held after) empty in
    record {
      heard = after;
      amid = done.0;
      goes_on = done.1 ∙ o.goes_on;
      unrefused = ap (λ z. z.refusal) kept ∙ o.unrefused;
      same = o.same ∙ ap (λ z. hears script z end.splitter.rest) is ∙ ap (λ z. hears script (with_held after []) z.rest) (sym kept);
      taken = o.taken;
      cut = o.cut ∙ ap (λ z. o.taken ++ z.rest) (sym kept);
      told = o.took ∙ is;
    }

-- or not
halts : (script : Script) (at : ScheduledEnd) (piece before now later : List ℕ) (had has more : List ShownFrame) (end new : ServerEnd) (message : List ℕ) (fault : ServerFault) (why : Stop) → (o : Opened script at piece before now had has end message)
    → Amid before later had more new (told script o.heard (client_of message)) → IsWhyStopped fault (told script o.heard (client_of message)).end.stopped → (told script o.heard (client_of message)).end.stopped ≡ Some why
    → HasStopped fault before later had more new (hears script (listening at) piece)
halts script at piece before now later had has more end new message fault why o amid tells stopped =
    let is = o.same ∙ hears_stopped script (told script o.heard (client_of message)) why end.splitter.rest stopped in
    subst (HasStopped fault before later had more new) (sym is) (amid, tells)

-- said of the same script, and of the same message
as_said : (result : Result (Unit {0}) ServerFault) (old new : ServerEnd) (now later : List ℕ) (has more : List ShownFrame) (script same : Script) (text message : List ℕ) → script ≡ same → text ≡ message
    → Obeys result old new now later has more (λ heard. told script heard (client_of text)) → Obeys result old new now later has more (λ heard. told same heard (client_of message))
as_said result old new now later has more script same text message e f obeys =
    subst (λ z. Obeys result old new now later has more (λ heard. told z heard (client_of message))) e (subst (λ z. Obeys result old new now later has more (λ heard. told script heard (client_of z))) f obeys)

pub message_fails : (old end new : ServerEnd) (splitter : Splitter) (piece before now later : List ℕ) (had has more : List ShownFrame) (text message : List ℕ) (fault : ServerFault) → ((at : ScheduledEnd) → ListensAs old at → Midway old.script at piece before now had has end)
    → One end.splitter splitter message → end.script ≡ old.script → text ≡ message → Obeys (Err fault) (record end { splitter = splitter }) new now later has more (λ heard. told end.script heard (client_of text)) → Hears (Err fault) old new before later had more piece
message_fails old end new splitter piece before now later had has more text message Memory m one e f obeys = λ at s. lacks old.script at piece before now later had has end (m at s) obeys
message_fails old end new splitter piece before now later had has more text message Closed m one e f obeys = obeys
message_fails old end new splitter piece before now later had has more text message (Refused r) m one e f obeys = λ at s.
    let o = opens old.script at piece before now had has end splitter message (m at s) one in
    let done = as_said (Err (Refused r)) (record end { splitter = splitter }) new now later has more end.script old.script text message e f obeys before had o.heard o.amid in
    halts old.script at piece before now later had has more (record end { splitter = splitter }) new message (Refused r) (refuses r) o done.0 done.1 done.1
message_fails old end new splitter piece before now later had has more text message (Ack u) m one e f obeys = λ at s.
    let o = opens old.script at piece before now had has end splitter message (m at s) one in
    let done = as_said (Err (Ack u)) (record end { splitter = splitter }) new now later has more end.script old.script text message e f obeys before had o.heard o.amid in
    halts old.script at piece before now later had has more (record end { splitter = splitter }) new message (Ack u) (unknown u) o done.0 done.1 done.1

pub message_done : (old end new : ServerEnd) (splitter : Splitter) (piece before now later : List ℕ) (had has more : List ShownFrame) (text message : List ℕ) → ((at : ScheduledEnd) → ListensAs old at → Midway old.script at piece before now had has end)
    → One end.splitter splitter message → end.script ≡ old.script → text ≡ message → new.splitter ≡ splitter → Obeys (Ok tt) (record end { splitter = splitter }) new now later has more (λ heard. told end.script heard (client_of text))
    → (at : ScheduledEnd) → ListensAs old at → Midway old.script at piece before later had more new
message_done old end new splitter piece before now later had has more text message m one e f kept obeys = λ at s.
    goes old.script at piece before now later had has more (record end { splitter = splitter }) new message (opens old.script at piece before now had has end splitter message (m at s) one) kept
    (as_said (Ok tt) (record end { splitter = splitter }) new now later has more end.script old.script text message e f obeys)

-- what no message changes
pub leaves_on : (old end new : ServerEnd) (splitter : Splitter) (had has more : List ShownFrame) → LeavesPlan old end had has → LeavesPlan (record end { splitter = splitter }) new has more → LeavesPlan old new had more
leaves_on old end new splitter had has more a b = record {
  plans = record {
    script = b.plans.script ∙ a.plans.script;
    last = b.plans.last ∙ a.plans.last;
    planner = b.plans.planner ∙ a.plans.planner;
    spent = b.plans.spent ∙ a.plans.spent;
    pending = b.plans.pending ∙ a.plans.pending;
    digests = b.plans.digests ∙ a.plans.digests;
  };
  few = omega (arith, a.few, b.few);
}

pub leaves_split : (old end : ServerEnd) (splitter : Splitter) (had has : List ShownFrame) → LeavesPlan old end had has → LeavesPlan old (record end { splitter = splitter }) had has
leaves_split old end splitter had has a = record {
  plans = record { script = a.plans.script; last = a.plans.last; planner = a.plans.planner; spent = a.plans.spent; pending = a.plans.pending; digests = a.plans.digests };
  few = a.few;
}

pub leaves_start : (old : ServerEnd) (splitter : Splitter) (had : List ShownFrame) → LeavesPlan old (record old { splitter = splitter }) had had
leaves_start old splitter had = record { plans = record { script = refl; last = refl; planner = refl; spent = refl; pending = refl; digests = refl }; few = omega arith }
