-- What the audit of an input comes to, against what is due.
use Rattle.std.proofs.Common.{◌≡◌, ℕ, ◌+◌, ◌-◌, ◌≤◌, List, [], ◌++◌, length, take, Option, Ok, Err, sym, ap, ◌∙◌, subst, append_assoc, arith}
use Rattle.std.proofs.lemmas.List.{append-nil, take_all}
use Rattle.std.proofs.Math.Seq.{take-append-add}
use Rattle.gfx_base.specs.Stream.{Change, change, Gains, GainsPart, FailsAfter}
use Rattle.gfx_base.proofs.Streams.{Gains-append, FailsAfter-append, FailsAfter_more, GainsPart_all}
use Rattle.gfx_client.specs.Client.{IsAtEnd}
use Rattle.gfx_input.specs.declared.fault.InputFault.{InputFault}
use Rattle.gfx_input.specs.declared.fault.InputFault.TheVariants as fault
use Rattle.gfx_input.specs.declared.reading.Read.{Read}
use Rattle.gfx_input.specs.declared.reading.Read.TheVariants as read
use Rattle.gfx_input.specs.Reading.{rest_of, input_of, EndsBy, Wrote, ReadsInput}
use Rattle.gfx_input.specs.Taking.{fixed}
use Rattle.gfx_state.specs.History.{history, history_of}
use Rattle.gfx_state.specs.Run.{begun, run_of}
use Rattle.gfx_state.specs.State.{State}
use Rattle.gfx_state.proofs.Effects.{history-append, history_refused}
use Rattle.gfxpipe.specs.Audit.{lines, told, held_lines}
use Rattle.gfxpipe.specs.Auditing.{TellsHeld, number_after}
use Rattle.gfxpipe.specs.Did.{IsNotRefused, trouble_of}
use Rattle.gfxpipe.specs.Due.{played, audit_text}
use Rattle.gfxpipe.specs.Rules.{Audits}
use Rattle.gfxpipe.specs.declared.audit.Auditor.{Auditor}
use Rattle.gfxpipe.specs.declared.recording.Player.{Player}
use Rattle.gfxpipe.specs.declared.trouble.Trouble.{Trouble}
use Rattle.gfxpipe.specs.declared.trouble.Trouble.TheVariants as trouble
use Rattle.gfxpipe.proofs.Auditing.{Heard, Stopped, lines-append}
use Rattle.gfxpipe.proofs.Commands.{read_whole}
use Rattle.gfxpipe.proofs.Recordings.{Plays, Refuses, tells, told as said, at_end as player_at_end}

-- the audit broke off ---------------------------------------------------------------------------------------------

-- the lines of a front within the limit are a front of the text that is due
pub record FrontOfText (limit : ℕ) (front more : List ℕ) : Type 0 where
  pub rest : List ℕ
  pub text : audit_text limit (front ++ more) ≡ told front ++ rest

front_of_text : (limit : ℕ) (front more : List ℕ) → length front ≤ limit → FrontOfText limit front more
unfolding audit_text
front_of_text limit front more within =
    let k : (n : ℕ) × (length front + n ≡ limit) = (limit - length front, omega arith) in
    let cut : take limit (front ++ more) ≡ front ++ take k.0 more = ap (λ z. take z (front ++ more)) (sym k.1) ∙ take-append-add front more k.0 in
    let behind = lines (number_after 0 (history_of front)) (history (run_of front) (take k.0 more)) in
    let held = held_lines (played limit (front ++ more)).state in
    record {
      rest = behind ++ held;
      text = ap (λ z. told z ++ held) cut
          ∙ ap (λ z. lines 0 z ++ held) (history-append begun front (take k.0 more))
          ∙ ap (λ z. z ++ held) (lines-append 0 (history_of front) (history (run_of front) (take k.0 more)))
          ∙ append_assoc (told front) behind held;
    }

part_more : (c : Change) (xs ys : List ℕ) → GainsPart c xs → GainsPart c (xs ++ ys)
part_more c xs ys part = record {
  sent = part.sent;
  rest = part.rest ++ ys;
  cut = ap (λ w. w ++ ys) part.cut ∙ append_assoc part.sent part.rest ys;
  gained = part.gained;
}

fails_in_text : (c : Change) (limit : ℕ) (bytes front more : List ℕ) → bytes ≡ front ++ more → length front ≤ limit → FailsAfter c (told front) → FailsAfter c (audit_text limit bytes)
fails_in_text c limit bytes front more cut within fails =
    let f = front_of_text limit front more within in subst (FailsAfter c) (sym (ap (audit_text limit) cut ∙ f.text)) (FailsAfter_more c (told front) f.rest fails)

part_in_text : (c : Change) (limit : ℕ) (bytes front more : List ℕ) → bytes ≡ front ++ more → length front ≤ limit → GainsPart c (told front) → GainsPart c (audit_text limit bytes)
part_in_text c limit bytes front more cut within part =
    let f = front_of_text limit front more within in subst (GainsPart c) (sym (ap (audit_text limit) cut ∙ f.text)) (part_more c (told front) f.rest part)

pub broke_off : (f : InputFault) (limit : ℕ) (i o : Change) (auditor : Auditor) → ReadsInput Heard Stopped IsNotRefused told (Err f) (fixed limit) i o auditor → Audits (Err (trouble_of f)) limit i o
broke_off fault.Read limit i o auditor (reads, (falls, rose), b) =
    (reads, (falls, rose, (b.broke.count, part_in_text o limit (input_of reads) b.front b.behind b.cut b.within (GainsPart_all o (told b.front) b.broke))))
broke_off fault.Write limit i o auditor (reads, count, b) = (reads, (count, fails_in_text o limit (input_of reads) b.front b.behind b.cut b.within b.broke))
broke_off fault.Memory limit i o auditor (reads, count, b) =
    (reads, (count, (b.broke.0, part_in_text o limit (input_of reads) b.front b.behind b.cut b.within b.broke.1)))

-- the end -------------------------------------------------------------------------------------------------------------

-- the client of an audit as a player
abbrev player_of : Auditor → Player
player_of auditor = record { client = auditor.client }

ends_playing : (last : Read) (limit : ℕ) (o : Change) (bytes left : List ℕ) (auditor : Auditor) → EndsBy (Wrote Heard told o) (Wrote Stopped told o) last limit bytes left auditor
    → EndsBy Plays Refuses last limit bytes left (player_of auditor)
ends_playing read.Whole limit o bytes left auditor e = (e.0, e.1, e.2.0.0)
ends_playing read.TooLong limit o bytes left auditor e = (e.0, e.1.0.0)
ends_playing read.Stopped limit o bytes left auditor e = record { front = e.front; behind = e.behind; cut = e.cut; within = e.within; stopped = e.stopped.0 }

-- such a client has nothing more to apply
pub at_end : (last : Read) (limit : ℕ) (o : Change) (bytes left : List ℕ) (auditor : Auditor) → EndsBy (Wrote Heard told o) (Wrote Stopped told o) last limit bytes left auditor → IsAtEnd auditor.client
at_end last limit o bytes left auditor e = player_at_end last limit bytes left (player_of auditor) (ends_playing last limit o bytes left auditor e)

-- the lines of a recording that was refused in its front
told_refused : (limit : ℕ) (front more : List ℕ) (auditor : Auditor) → length front ≤ limit → Stopped auditor front → told (take limit (front ++ more)) ≡ told front
told_refused limit front more auditor within s =
    let k : (n : ℕ) × (length front + n ≡ limit) = (limit - length front, omega arith) in
    let none : history (run_of front) (take k.0 more) ≡ [] = history_refused (run_of front) s.reason (take k.0 more) s.refused.refusal in
    ap (λ z. told (take z (front ++ more))) (sym k.1)
    ∙ ap told (take-append-add front more k.0)
    ∙ ap (lines 0) (history-append begun front (take k.0 more) ∙ ap (λ z. history_of front ++ z) none ∙ append-nil (history_of front))

-- the lines of a recording as far as it was heard
told_gained : (last : Read) (limit : ℕ) (o : Change) (bytes left : List ℕ) (auditor : Auditor) → EndsBy (Wrote Heard told o) (Wrote Stopped told o) last limit bytes left auditor → Gains o (told (take limit bytes))
told_gained read.Whole limit o bytes left auditor e = subst (λ z. Gains o (told z)) (sym (take_all limit bytes e.0)) e.2.1
told_gained read.TooLong limit o bytes left auditor e = e.1.1
told_gained read.Stopped limit o bytes left auditor e =
    subst (λ z. Gains o (told (take limit z))) (sym e.cut) (subst (Gains o) (sym (told_refused limit e.front e.behind auditor e.within e.stopped.0)) e.stopped.1)

-- all is told
pub told_held : (last : Read) (limit : ℕ) (i : Change) (b d f : ℕ) (x y z : Option (List ℕ)) (auditor : Auditor) → ReadsInput Heard Stopped IsNotRefused told (Ok last) (fixed limit) i (change b d x y) auditor
    → TellsHeld (Ok tt) auditor.client (change d f y z) → Audits (Ok (said last (record { client = auditor.client }))) limit i (change b f x z)
unfolding audit_text
told_held last limit i b d f x y z auditor (reads, count, ends) gains =
    let e = ends_playing last limit (change b d x y) (input_of reads) (rest_of i.new) auditor ends in
    let t = tells last limit (input_of reads) (rest_of i.new) (player_of auditor) e in (
      reads,
      (
        t.ending,
        count,
        read_whole last limit (input_of reads) i (player_of auditor) e,
        Gains-append b d f x y z (told (take limit (input_of reads))) (held_lines (played limit (input_of reads)).state) (told_gained last limit (change b d x y) (input_of reads) (rest_of i.new) auditor ends)
            (subst (λ (w : State). Gains (change d f y z) (held_lines w)) t.state gains),
      ),
    )

-- what is held could not be told
pub not_told_held : (t : Trouble) (last : Read) (limit : ℕ) (i : Change) (b d f : ℕ) (x y z : Option (List ℕ)) (auditor : Auditor) → ReadsInput Heard Stopped IsNotRefused told (Ok last) (fixed limit) i (change b d x y) auditor
    → TellsHeld (Err t) auditor.client (change d f y z) → Audits (Err t) limit i (change b f x z)
unfolding audit_text
not_told_held trouble.Write last limit i b d f x y z auditor (reads, count, ends) fails =
    let e = ends_playing last limit (change b d x y) (input_of reads) (rest_of i.new) auditor ends in
    let t = tells last limit (input_of reads) (rest_of i.new) (player_of auditor) e in (
      reads,
      (
        count,
        FailsAfter-append b d f x y z (told (take limit (input_of reads))) (held_lines (played limit (input_of reads)).state) (told_gained last limit (change b d x y) (input_of reads) (rest_of i.new) auditor ends)
            (subst (λ (w : State). FailsAfter (change d f y z) (held_lines w)) t.state fails),
      ),
    )
not_told_held trouble.Read last limit i b d f x y z auditor heard never = absurd never
not_told_held trouble.Memory last limit i b d f x y z auditor heard never = absurd never
