-- What an audit comes to, message by message and piece by piece.
use Rattle.std.proofs.Common.{◌≡◌, ℕ, ◌<◌, List, [], ◌∷◌, ◌++◌, length, Option, Some, None, Result, Ok, Err, refl, sym, ap, ◌∙◌, subst, append_assoc, arith}
use Rattle.std.proofs.lemmas.List.{append-nil}
use Rattle.std.proofs.lemmas.List.Sums.{fold-append}
use Rattle.gfx_base.specs.Memory.{next_count}
use Rattle.gfx_base.specs.Stream.{Change, change, Gains, FailsAfter}
use Rattle.gfx_base.specs.declared.refusal.Refusal.{Refusal}
use Rattle.gfx_base.proofs.Streams.{Gained-append, Gains-append, Gains_none, FailsAfter-append, FailsAfter_more}
use Rattle.gfx_client.proofs.NextEffects.{still_coming}
use Rattle.gfx_client.proofs.Playing.{stopped}
use Rattle.gfx_client.specs.Client.{cursor_of, closed_by, Steps, StepsOpen, MovesBy, Waits, Takes}
use Rattle.gfx_client.specs.Replies.{stepped_of}
use Rattle.gfx_client.specs.Standing.{StandsFor, HasBrought}
use Rattle.gfx_client.specs.declared.client.Client.{Client}
use Rattle.gfx_client.specs.declared.fault.ClientFault.{ClientFault}
use Rattle.gfx_client.specs.declared.fault.ClientFault.TheVariants as fault
use Rattle.gfx_client.specs.declared.stepped.Stepped.{Stepped}
use Rattle.gfx_client.specs.declared.stepped.Stepped.TheVariants as stepped
use Rattle.gfx_input.specs.Reading.{TakesPiece}
use Rattle.gfx_input.specs.declared.fault.TakeFault.{TakeFault}
use Rattle.gfx_input.specs.declared.fault.TakeFault.TheVariants as broke
use Rattle.gfx_input.specs.declared.taker.Taken.{Taken}
use Rattle.gfx_input.specs.declared.taker.Taken.TheVariants as taken
use Rattle.gfx_pdu.specs.declared.id.Id.{Id}
use Rattle.gfx_pdu.specs.declared.pdu.Pdu.{Pdu}
use Rattle.gfx_pdu.specs.declared.pdu.Pdu.TheVariants.{EndFrame}
use Rattle.gfx_pdu.specs.Spelling.{id_of}
use Rattle.gfx_report.specs.Audit.{audit_line}
use Rattle.gfx_state.specs.History.{Effect, history, history_of}
use Rattle.gfx_state.specs.Run.{begun, run_of}
use Rattle.gfx_state.proofs.Coming.{coming_needs, coming_refuses}
use Rattle.gfx_state.proofs.Effects.{history-nil, history-append}
use Rattle.gfxpipe.specs.Audit.{lines, told}
use Rattle.gfxpipe.specs.Auditing.{number_after, HasHeard, due_of, due_lines, StandsAsBefore, TellsAll, GoesOnByAll}
use Rattle.gfxpipe.specs.AuditSteps.{message_in, WritesLine, TellsMessage, TellsNext, TellsNone, GoesOnByOne}
use Rattle.gfxpipe.specs.Recording.{HasPlayed, HasRefused}
use Rattle.gfxpipe.specs.declared.audit.Auditor.{Auditor}

-- lines ---------------------------------------------------------------------------------------------------

pub lines_nil : (number : ℕ) → lines number [] ≡ []
unfolding lines
lines_nil number = refl

lines_cons : (number : ℕ) (message : Effect) (more : List Effect)
    → lines number (message ∷ more) ≡ audit_line (next_count number) (id_of message.pdu) message.size ++ lines (next_count number) more
unfolding lines
lines_cons number message more = refl

pub lines-append : (number : ℕ) (xs ys : List Effect) → lines number (xs ++ ys) ≡ lines number xs ++ lines (number_after number xs) ys
lines-append number [] ys = ap (λ z. z ++ lines number ys) (sym (lines_nil number))
lines-append number (x ∷ xs) ys =
    lines_cons number x (xs ++ ys)
    ∙ ap (λ z. audit_line (next_count number) (id_of x.pdu) x.size ++ z) (lines-append (next_count number) xs ys)
    ∙ sym (append_assoc (audit_line (next_count number) (id_of x.pdu) x.size) (lines (next_count number) xs) (lines (number_after (next_count number) xs) ys))
    ∙ ap (λ z. z ++ lines (number_after (next_count number) xs) ys) (sym (lines_cons number x xs))

pub number-append : (number : ℕ) (xs ys : List Effect) → number_after number (xs ++ ys) ≡ number_after (number_after number xs) ys
number-append number xs ys = fold-append (λ (n : ℕ) (e : Effect). next_count n) number xs ys

-- one message -----------------------------------------------------------------------------------------------

-- the message that a step says it applied
message_said : (pdu : Pdu) (size decoded : ℕ) → message_in (stepped_of pdu size decoded) ≡ Some (id_of pdu, size)
message_said (EndFrame frame) size decoded = refl
message_said other size decoded = refl

-- a line was written, or could not be
told_line : (old new : Auditor) (answer : Result (Option Taken) TakeFault) (o : Change) (next : Effect) → due_of old ≡ next ∷ due_of new → new.number ≡ next_count old.number → StandsAsBefore old.client new.client
    → closed_by new.client ≡ None → WritesLine answer o (audit_line (next_count old.number) (id_of next.pdu) next.size) → GoesOnByOne answer old new o
told_line old new (Ok None) o next first number alike not_closed wrote = record {
  takes = record { next = next; first = first; number = number; alike = alike; not_closed = not_closed };
  writes = subst (λ n. Gains o (audit_line n (id_of next.pdu) next.size)) (sym number) wrote;
}
told_line old new (Ok (Some taken.More)) o next first number alike not_closed wrote = absurd wrote
told_line old new (Ok (Some taken.Stopped)) o next first number alike not_closed wrote = absurd wrote
told_line old new (Err broke.Write) o next first number alike not_closed wrote = record {
  takes = record { next = next; first = first; number = number; alike = alike; not_closed = not_closed };
  writes = subst (λ n. FailsAfter o (audit_line n (id_of next.pdu) next.size)) (sym number) wrote;
}
told_line old new (Err broke.Memory) o next first number alike not_closed wrote = absurd wrote

-- no message was there
told_none : (old new : Auditor) (answer : Result (Option Taken) TakeFault) (o : Change) → closed_by old.client ≡ None → Waits old.client new.client → StandsAsBefore old.client new.client
    → TellsMessage None answer old new o → GoesOnByOne answer old new o
told_none old new answer o none waits alike (is, number, gains) =
    subst (λ z. GoesOnByOne z old new o) (sym is) (
      record {
        none = still_coming (cursor_of old.client) (cursor_of new.client) waits.moves.reaches ∙ coming_needs (cursor_of new.client) waits.needs;
        number = number;
        gains = gains;
      },
      (alike, record { needs = waits.needs; not_closed = waits.moves.closed ∙ none }),
    )

-- a message was applied and told of
told_message : (old new : Auditor) (said : Stepped) (answer : Result (Option Taken) TakeFault) (o : Change) → closed_by old.client ≡ None → MovesBy old.client new.client said → StandsAsBefore old.client new.client
    → TellsMessage (message_in said) answer old new o → GoesOnByOne answer old new o
told_message old new said answer o none m alike tells =
    let told = subst (λ z. TellsMessage z answer old new o) (ap message_in m.says ∙ message_said m.pdu m.size (cursor_of new.client).state.decoded) tells in
    told_line old new answer o (record { pdu = m.pdu; size = m.size; state = (cursor_of new.client).state }) m.first told.0 alike (m.moves.closed ∙ none) told.1

told_open : (old new : Auditor) (said : Stepped) (answer : Result (Option Taken) TakeFault) (o : Change) → closed_by old.client ≡ None → StepsOpen (Ok said) old.client new.client → StandsAsBefore old.client new.client
    → TellsMessage (message_in said) answer old new o → GoesOnByOne answer old new o
told_open old new stepped.Need answer o none s alike tells = told_none old new answer o none s alike tells
told_open old new (stepped.Applied id size) answer o none s alike tells = told_message old new (stepped.Applied id size) answer o none s alike tells
told_open old new (stepped.Ended frame size reply) answer o none s alike tells = told_message old new (stepped.Ended frame size reply) answer o none s alike tells

-- a step that isn't closed off
open_step : (closed : Option ClientFault) (result : Result Stepped ClientFault) (old new : Client) → closed ≡ None → Steps closed result old new → StepsOpen result old new
open_step closed result old new none s = subst (λ (z : Option ClientFault). Steps z result old new) none s

-- whatever a step said was told
pub told_step : (old mid new : Auditor) (said : Stepped) (answer : Result (Option Taken) TakeFault) (o : Change) → closed_by old.client ≡ None → Steps (closed_by old.client) (Ok said) old.client mid.client
    → StandsAsBefore old.client mid.client → mid.number ≡ old.number → new.client ≡ mid.client → TellsMessage (message_in said) answer mid new o → GoesOnByOne answer old new o
told_step old mid new said answer o none s alike same client tells =
    told_open old new said answer o none
    (subst (λ z. StepsOpen (Ok said) old.client z) (sym client) (open_step (closed_by old.client) (Ok said) old.client mid.client none s))
    (subst (λ z. StandsAsBefore old.client z) (sym client) alike) (counted (message_in said) tells)
  where
    counted : (message : Option (Id × ℕ)) → TellsMessage message answer mid new o → TellsMessage message answer old new o
    counted None (is, number, gains) = (is, number ∙ same, gains)
    counted (Some message) (number, wrote) =
        (number ∙ ap next_count same, subst (λ n. WritesLine answer o (audit_line (next_count n) message.0 message.1)) same wrote)

-- the message was refused
pub refused_step : (old new : Auditor) (number m : ℕ) (r : Refusal) (held : Option (List ℕ)) → closed_by old.client ≡ None → Steps (closed_by old.client) (Err (fault.Refused number r)) old.client new.client
    → new.number ≡ old.number → GoesOnByOne (Ok (Some taken.Stopped)) old new (change m m held held)
refused_step old new number m r held none s same =
    let e = open_step (closed_by old.client) (Err (fault.Refused number r)) old.client new.client none s in (
      record {
        none = still_coming (cursor_of old.client) e.0.at e.0.reaches ∙ coming_refuses e.0.at r e.0.refuses;
        number = same;
        gains = Gains_none m held;
      },
      λ bytes stands. record { number = number; reason = r; refused = (stopped old.client old.client new.client (fault.Refused number r) bytes refl none s stands).1 },
    )

-- all messages that are whole -------------------------------------------------------------------------------------

-- an auditor that has gone on, and told of these messages
pub record Telling (start now : Auditor) (o : Change) : Type 0 where
  pub done : List Effect
  pub first : due_of start ≡ done ++ due_of now
  pub number : now.number ≡ number_after start.number done
  pub gains : Gains o (lines start.number done)
  pub alike : StandsAsBefore start.client now.client
  pub not_closed : closed_by now.client ≡ None

pub telling_none : (start : Auditor) (m : ℕ) (held : Option (List ℕ)) → closed_by start.client ≡ None → Telling start start (change m m held held)
telling_none start m held none = record {
  done = [];
  first = refl;
  number = refl;
  gains = subst (Gains (change m m held held)) (sym (lines_nil start.number)) (Gains_none m held);
  alike = λ bytes stands. stands;
  not_closed = none;
}

-- the line of the next message, behind those that were told of
lines_next : (start now : Auditor) (done : List Effect) (next : Effect) (number : ℕ) → now.number ≡ number_after start.number done → number ≡ next_count now.number
    → lines start.number (done ++ next ∷ []) ≡ lines start.number done ++ audit_line number (id_of next.pdu) next.size
lines_next start now done next number at is =
    lines-append start.number done (next ∷ [])
    ∙ ap (λ z. lines start.number done ++ lines z (next ∷ [])) (sym at)
    ∙ ap (λ z. lines start.number done ++ z) (lines_cons now.number next [] ∙ ap (λ z. audit_line (next_count now.number) (id_of next.pdu) next.size ++ z) (lines_nil (next_count now.number)) ∙ append-nil (audit_line (next_count now.number) (id_of next.pdu) next.size))
    ∙ ap (λ z. lines start.number done ++ audit_line z (id_of next.pdu) next.size) (sym is)

-- what is due from the start, with the next message told of
first_next : (start now new : Auditor) (done : List Effect) (next : Effect) → due_of start ≡ done ++ due_of now → due_of now ≡ next ∷ due_of new → due_of start ≡ (done ++ next ∷ []) ++ due_of new
first_next start now new done next first then = first ∙ ap (λ z. done ++ z) then ∙ sym (append_assoc done (next ∷ []) (due_of new))

pub telling_more : (a b d : ℕ) (x y z : Option (List ℕ)) (start now new : Auditor) → Telling start now (change a b x y) → TellsNext (Ok None) now new (change b d y z) → Telling start new (change a d x z)
telling_more a b d x y z start now new t n = record {
  done = t.done ++ n.takes.next ∷ [];
  first = first_next start now new t.done n.takes.next t.first n.takes.first;
  number = n.takes.number ∙ ap next_count t.number ∙ sym (number-append start.number t.done (n.takes.next ∷ []));
  gains = subst (Gains (change a d x z)) (sym (lines_next start now t.done n.takes.next new.number t.number n.takes.number)) (Gains-append a b d x y z (lines start.number t.done) (audit_line new.number (id_of n.takes.next.pdu) n.takes.next.size) t.gains n.writes);
  alike = λ bytes stands. n.takes.alike bytes (t.alike bytes stands);
  not_closed = n.takes.not_closed;
}

-- where the next answer doesn't end it, a message was told of
pub goes_on : (now new : Auditor) (answer : Option Taken) (o : Change) → ((t : Taken) → answer ≡ Some t → ⊥) → GoesOnByOne (Ok answer) now new o → TellsNext (Ok None) now new o
goes_on now new None o more n = n
goes_on now new (Some t) o more n = absurd (more t refl)

-- fewer messages are left
pub fewer_left : (now new : Auditor) (o : Change) → TellsNext (Ok None) now new o → length (due_of new) < length (due_of now)
fewer_left now new o n = rw n.takes.first (omega arith)

-- no message is left
told_all : (a b d : ℕ) (x y z : Option (List ℕ)) (start now new : Auditor) → Telling start now (change a b x y) → TellsNone now new (change b d y z) → TellsAll start new (change a d x z)
told_all a b d x y z start now new t n =
    let all : due_of start ≡ t.done = t.first ∙ ap (λ w. t.done ++ w) n.none ∙ append-nil t.done in
    record {
      number = n.number ∙ t.number ∙ ap (number_after start.number) (sym all);
      gains = subst (Gains (change a d x z)) (append-nil (lines start.number t.done) ∙ ap (lines start.number) (sym all)) (Gains-append a b d x y z (lines start.number t.done) [] t.gains n.gains);
    }

-- the lines told of are a front of those that are due
front_due : (start now : Auditor) (o : Change) (t : Telling start now o) → due_lines start ≡ lines start.number t.done ++ lines (number_after start.number t.done) (due_of now)
front_due start now o t = ap (lines start.number) t.first ∙ lines-append start.number t.done (due_of now)

pub told_end : (a b d : ℕ) (x y z : Option (List ℕ)) (start now new : Auditor) (answer : Taken) → Telling start now (change a b x y) → GoesOnByOne (Ok (Some answer)) now new (change b d y z)
    → GoesOnByAll (Ok answer) start new (change a d x z)
told_end a b d x y z start now new taken.More t (n, (alike, rest)) =
    (told_all a b d x y z start now new t n, ((λ bytes stands. alike bytes (t.alike bytes stands)), rest))
told_end a b d x y z start now new taken.Stopped t (n, refuses) =
    (told_all a b d x y z start now new t n, λ bytes stands. refuses bytes (t.alike bytes stands))

pub told_fault : (a b d : ℕ) (x y z : Option (List ℕ)) (start now new : Auditor) (f : TakeFault) → Telling start now (change a b x y) → GoesOnByOne (Err f) now new (change b d y z)
    → GoesOnByAll (Err f) start new (change a d x z)
told_fault a b d x y z start now new broke.Write t n =
    let front = lines start.number t.done in
    let line = audit_line new.number (id_of n.takes.next.pdu) n.takes.next.size in
    let due : due_lines start ≡ (front ++ line) ++ lines (number_after start.number (t.done ++ n.takes.next ∷ [])) (due_of new) =
    ap (lines start.number) (first_next start now new t.done n.takes.next t.first n.takes.first)
    ∙ lines-append start.number (t.done ++ n.takes.next ∷ []) (due_of new)
    ∙ ap (λ w. w ++ lines (number_after start.number (t.done ++ n.takes.next ∷ [])) (due_of new)) (lines_next start now t.done n.takes.next new.number t.number n.takes.number) in
    subst (FailsAfter (change a d x z)) (sym due)
    (FailsAfter_more (change a d x z) (front ++ line) (lines (number_after start.number (t.done ++ n.takes.next ∷ [])) (due_of new)) (FailsAfter-append a b d x y z front line t.gains n.writes))
told_fault a b d x y z start now new broke.Memory t n = (
  n.count ∙ t.gains.count,
  record {
    sent = lines start.number t.done ++ [];
    rest = lines (number_after start.number t.done) (due_of now);
    cut = front_due start now (change a b x y) t ∙ ap (λ w. w ++ lines (number_after start.number t.done) (due_of now)) (sym (append-nil (lines start.number t.done)));
    gained = Gained-append x (lines start.number t.done) y [] z t.gains.gained n.gained;
  },
)

-- a piece -----------------------------------------------------------------------------------------------------------

-- what an auditor was given
abbrev pub Heard : Auditor → List ℕ → Type 0
Heard auditor bytes = HasHeard auditor.client auditor.number bytes

abbrev pub Stopped : Auditor → List ℕ → Type 0
Stopped auditor bytes = HasRefused auditor.client bytes

-- a client that took bytes is open
pub open_taken : (closed : Option ClientFault) (old new : Client) (piece : List ℕ) → Takes closed (Ok tt) old new piece → closed_by new ≡ None
open_taken (Some f) old new piece (is, same) = absurd cc
open_taken None old new piece (at, none) = none

pub heard : (a b d : ℕ) (x y z : Option (List ℕ)) (old mid new : Auditor) (bytes all : List ℕ) (answer : Result Taken TakeFault) → Heard old bytes → Gains (change a b x y) (told bytes) → StandsFor mid.client all
    → HasBrought mid.client all (history_of bytes) → mid.number ≡ old.number → GoesOnByAll answer mid new (change b d y z) → TakesPiece Heard Stopped (told all) answer new all (change a d x z)
heard a b d x y z old mid new bytes all answer h wrote stands brought same goes = by answer goes
  where
    before : number_after 0 (history_of bytes) ≡ mid.number
    before = sym h.1 ∙ sym same

    due : told all ≡ told bytes ++ due_lines mid
    due = ap (lines 0) brought.is ∙ lines-append 0 (history_of bytes) (due_of mid) ∙ ap (λ w. told bytes ++ lines w (due_of mid)) before

    number : TellsAll mid new (change b d y z) → new.number ≡ number_after 0 (history_of all)
    number t = t.number ∙ ap (λ w. number_after w (due_of mid)) (sym before) ∙ sym (number-append 0 (history_of bytes) (due_of mid)) ∙ ap (number_after 0) (sym brought.is)

    gains : TellsAll mid new (change b d y z) → Gains (change a d x z) (told all)
    gains t = subst (Gains (change a d x z)) (sym due) (Gains-append a b d x y z (told bytes) (due_lines mid) wrote t.gains)

    by : (given : Result Taken TakeFault) → GoesOnByAll given mid new (change b d y z) → TakesPiece Heard Stopped (told all) given new all (change a d x z)
    by (Ok taken.More) (t, (alike, rest)) = (((alike all stands, rest), number t), gains t)
    by (Ok taken.Stopped) (t, refuses) = (refuses all stands, gains t)
    by (Err broke.Write) fails = subst (FailsAfter (change a d x z)) (sym due) (FailsAfter-append a b d x y z (told bytes) (due_lines mid) wrote fails)
    by (Err broke.Memory) (count, part) = (
      count ∙ wrote.count,
      record {
        sent = told bytes ++ part.sent;
        rest = part.rest;
        cut = due ∙ ap (λ w. told bytes ++ w) part.cut ∙ sym (append_assoc (told bytes) part.sent part.rest);
        gained = Gained-append x (told bytes) y part.sent z wrote.gained part.gained;
      },
    )

-- memory ran out before a piece was taken
pub not_heard : (c : Change) (new : Auditor) (bytes piece : List ℕ) → Gains c (told bytes) → TakesPiece Heard Stopped (told (bytes ++ piece)) (Err broke.Memory) new (bytes ++ piece) c
not_heard c new bytes piece wrote = (
  wrote.count,
  record {
    sent = told bytes;
    rest = lines (number_after 0 (history_of bytes)) (history (run_of bytes) piece);
    cut = ap (lines 0) (history-append begun bytes piece) ∙ lines-append 0 (history_of bytes) (history (run_of bytes) piece);
    gained = wrote.gained;
  },
)

-- nothing was heard yet
pub heard_none : (auditor : Auditor) → HasPlayed auditor.client [] → auditor.number ≡ 0 → Heard auditor []
heard_none auditor played first = (played, first ∙ ap (number_after 0) (sym (history-nil begun)))

pub told_nothing : told [] ≡ []
told_nothing = ap (lines 0) (history-nil begun) ∙ lines_nil 0
