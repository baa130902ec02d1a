-- What a command comes to, against what is due of its input.
use Rattle.std.proofs.Common.{◌≡◌, ℕ, ◌+◌, ◌-◌, ◌≤◌, ◌<◌, List, [], ◌++◌, length, take, Option, Some, None, Ok, Err, inl, inr, refl, sym, ap, ◌∙◌, subst, append_assoc, arith}
use Rattle.std.proofs.lemmas.Bool.{cases_lt, le-leb, lt-leb, cond-true, cond-false}
use Rattle.std.proofs.lemmas.List.{take_all}
use Rattle.std.proofs.Math.Nat.{min-eq_left, min-eq_right}
use Rattle.std.proofs.Math.Seq.{take-append-add}
use Rattle.gfx_base.specs.Stream.{LAST, Change, Gains, GainsPart, FailsAfter}
use Rattle.gfx_base.specs.Memory.{next_count}
use Rattle.gfx_base.specs.declared.refusal.Refusal.{Refusal}
use Rattle.gfx_base.proofs.Streams.{FailsAfter_more, GainsPart_all}
use Rattle.gfx_input.specs.Reading.{rest_of, input_of, EndsBy, Wrote, ReadsInput}
use Rattle.gfx_input.specs.Taking.{fixed}
use Rattle.gfx_input.specs.declared.fault.InputFault.{InputFault}
use Rattle.gfx_input.specs.declared.fault.InputFault.TheVariants as fault
use Rattle.gfx_input.specs.declared.reading.Read.{Read}
use Rattle.gfx_input.specs.declared.reading.Read.TheVariants as read
use Rattle.gfx_fragments.specs.Due.{counted, found_in, last_of, ending_of, due_in, IsFine, IsReadWhole, Does, ended_by}
use Rattle.gfx_fragments.specs.Found.{Found, first_of, left_open, ended}
use Rattle.gfx_fragments.specs.declared.ended.Ended.{Ended}
use Rattle.gfx_fragments.specs.declared.ended.Ended.TheVariants.{Done, TooLong, Refused}
use Rattle.gfx_fragments.specs.Turns.{IsRefused}
use Rattle.gfx_fragments.proofs.FoundLemmas.{IsFinder, IsTextFront, Stays}

-- counts -----------------------------------------------------------------------------------------------------

pub counted-more : (n : ℕ) → next_count (counted n) ≡ counted (n + 1)
counted-more n =
    elim (cases_lt n LAST) [
      | inl below ↦ ap next_count (min-eq_left (omega arith))
      | inr past ↦ ap next_count (min-eq_right past) ∙ min-eq_right {n = LAST} {m = LAST + 1} (omega arith) ∙ sym (min-eq_right {n = LAST} {m = n + 1} (omega arith))
    ]

-- what is found in an input ----------------------------------------------------------------------------------

pub within-found : (find : List ℕ → Found) (limit : ℕ) (bytes : List ℕ) → length bytes ≤ limit → found_in find limit bytes ≡ ended (find bytes)
unfolding found_in
within-found find limit bytes within = cond-true _ _ _ (le-leb (length bytes) limit within)

past-found : (find : List ℕ → Found) (limit : ℕ) (bytes : List ℕ) → limit < length bytes → found_in find limit bytes ≡ find (take limit bytes)
unfolding found_in
past-found find limit bytes past = cond-false _ _ _ (lt-leb (length bytes) limit past)

-- the text of what is found is that of the bytes within the limit
found-text : (find : List ℕ → Found) (limit : ℕ) (bytes : List ℕ) → (due_in find limit bytes).text ≡ (find (take limit bytes)).text
found-text find limit bytes =
    elim (cases_lt limit (length bytes)) [
      | inl past ↦ ap (λ (z : Found). z.text) (past-found find limit bytes past)
      | inr within ↦ ap (λ (z : Found). z.text) (within-found find limit bytes within) ∙ ap (λ z. (find z).text) (sym (take_all limit bytes within))
    ]

-- a front within the limit, and the bytes within it behind that front
front_cut : (limit : ℕ) (front behind : List ℕ) → length front ≤ limit → (n : ℕ) × (take limit (front ++ behind) ≡ front ++ take n behind)
front_cut limit front behind within =
    let k : (n : ℕ) × (length front + n ≡ limit) = (limit - length front, omega arith) in
    (k.0, ap (λ z. take z (front ++ behind)) (sym k.1) ∙ take-append-add front behind k.0)

-- the text of a front is a front of the text that is due
text-front : (find : List ℕ → Found) → IsFinder find → (limit : ℕ) (bytes front behind : List ℕ) → bytes ≡ front ++ behind → length front ≤ limit → IsTextFront (find front).text (due_in find limit bytes).text
text-front find law limit bytes front behind cut within =
    let k = front_cut limit front behind within in
    let more = law.grows front (take k.0 behind) in
    record {
      rest = more.rest;
      cut = found-text find limit bytes ∙ ap (λ z. (find (take limit z)).text) cut ∙ ap (λ z. (find z).text) k.1 ∙ more.cut;
    }

-- a command broke off ------------------------------------------------------------------------------------------

part_more : (c : Change) (xs ys : List ℕ) → GainsPart c xs → GainsPart c (xs ++ ys)
part_more c xs ys part = record {
  sent = part.sent;
  rest = part.rest ++ ys;
  cut = ap (λ w. w ++ ys) part.cut ∙ append_assoc part.sent part.rest ys;
  gained = part.gained;
}

pub part_in : (c : Change) (front text : List ℕ) → IsTextFront front text → GainsPart c front → GainsPart c text
part_in c front text f part = subst (GainsPart c) (sym f.cut) (part_more c front f.rest part)

pub fails_in : (c : Change) (front text : List ℕ) → IsTextFront front text → FailsAfter c front → FailsAfter c text
fails_in c front text f fails = subst (FailsAfter c) (sym f.cut) (FailsAfter_more c front f.rest fails)

pub broke_off : {S : Type 0} (stands stops : S → List ℕ → Type 0) (find : List ℕ → Found) → IsFinder find → (f : InputFault) (limit : ℕ) (i o : Change) (taker : S)
    → ReadsInput stands stops (IsFine find) (λ bytes. (find bytes).text) (Err f) (fixed limit) i o taker → Does find (Err f) limit i o
broke_off stands stops find law fault.Read limit i o taker (reads, (falls, rose), b) =
    (reads, (falls, rose, (b.broke.count, part_in o _ _ (text-front find law limit (input_of reads) b.front b.behind b.cut b.within) (GainsPart_all o _ b.broke))))
broke_off stands stops find law fault.Write limit i o taker (reads, count, b) =
    (reads, (count, fails_in o _ _ (text-front find law limit (input_of reads) b.front b.behind b.cut b.within) b.broke))
broke_off stands stops find law fault.Memory limit i o taker (reads, count, b) =
    (reads, (count, (b.broke.0, part_in o _ _ (text-front find law limit (input_of reads) b.front b.behind b.cut b.within) b.broke.1)))

-- an input that is refused within the limit is refused so
stays_found : (find : List ℕ → Found) → IsFinder find → (limit : ℕ) (bytes front behind : List ℕ) (r : Refusal) → bytes ≡ front ++ behind → length front ≤ limit → (find front).refusal ≡ Some r → Stays (find front) (found_in find limit bytes) r
stays_found find law limit bytes front behind r cut within e =
    elim (cases_lt limit (length bytes)) [
      | inl past ↦
          let k = front_cut limit front behind within in
          let same : find (take limit bytes) ≡ find (front ++ take k.0 behind) = ap (λ z. find (take limit z)) cut ∙ ap find k.1 in
          subst (λ z. Stays (find front) z r) (sym (past-found find limit bytes past ∙ same)) (law.keeps front (take k.0 behind) r e)
      | inr all ↦
          let kept = law.keeps front behind r e in
          subst (λ z. Stays (find front) z r) (sym (within-found find limit bytes all ∙ ap (λ z. ended (find z)) cut))
          (record { text = kept.text; count = kept.count; refusal = ap (λ z. first_of z (left_open (find (front ++ behind)).is_open)) kept.refusal })
    ]

-- a command ended ----------------------------------------------------------------------------------------------

-- all of these bytes were taken, and so many items; if nothing follows, this is why the next is refused
pub record IsTaken (find : List ℕ → Found) (number : ℕ) (refusal : Option Refusal) (bytes : List ℕ) : Type 0 where
  pub count : number ≡ counted (find bytes).count
  pub fine : (find bytes).refusal ≡ None
  pub last : refusal ≡ (ended (find bytes)).refusal

numbered : (refusal : Option Refusal) (count : ℕ) (last : Ended) → ending_of refusal (counted count) last ≡ ending_of refusal count last
numbered None count last = refl
numbered (Some r) count last = ap (λ n. Refused n r) (counted-more count)

read-whole : (refusal : Option Refusal) (number : ℕ) (i : Change) → rest_of i.new ≡ [] → IsReadWhole (ending_of refusal number Done) i
read-whole None number i e = e
read-whole (Some r) number i e = tt

pub finished : {S : Type 0} (stands stops : S → List ℕ → Type 0) (find : List ℕ → Found) → IsFinder find → (why : Read) (number : ℕ) (refusal : Option Refusal) (limit : ℕ) (i o : Change) (taker : S)
    → ((bytes : List ℕ) → stands taker bytes → IsTaken find number refusal bytes) → ((bytes : List ℕ) → stops taker bytes → IsRefused find number refusal bytes)
    → ReadsInput stands stops (IsFine find) (λ bytes. (find bytes).text) (Ok why) (fixed limit) i o taker → Does find (Ok (ended_by why number refusal)) limit i o
finished stands stops find law why number refusal limit i o taker taken refuses (reads, count, ends) = (reads, by why ends)
  where
    bytes : List ℕ
    bytes = input_of reads

    by : (w : Read) → EndsBy (Wrote stands (λ z. (find z).text) o) (Wrote stops (λ z. (find z).text) o) w limit bytes (rest_of i.new) taker
        → (ended_by w number refusal ≡ (due_in find limit bytes).ending) × (i.now ≡ i.before) × IsReadWhole (ended_by w number refusal) i × Gains o (due_in find limit bytes).text
    by read.Whole (within, left, (there, gains)) =
        let t = taken bytes there in
        let found = within-found find limit bytes within in
        let ending : (due_in find limit bytes).ending ≡ ending_of (ended (find bytes)).refusal (find bytes).count Done =
        ap (λ (z : Found). ending_of z.refusal z.count (last_of limit bytes)) found ∙ ap (ending_of (ended (find bytes)).refusal (find bytes).count) (cond-true _ _ _ (le-leb (length bytes) limit within)) in (
          ap (λ z. ending_of z number Done) t.last ∙ ap (λ z. ending_of (ended (find bytes)).refusal z Done) t.count ∙ numbered (ended (find bytes)).refusal (find bytes).count Done ∙ sym ending,
          count,
          read-whole refusal number i left,
          subst (Gains o) (sym (ap (λ (z : Found). z.text) found)) gains,
        )
    by read.TooLong (past, (there, gains)) =
        let t = taken (take limit bytes) there in
        let found = past-found find limit bytes past in
        let ending : (due_in find limit bytes).ending ≡ TooLong =
        ap (λ (z : Found). ending_of z.refusal z.count (last_of limit bytes)) found ∙ ap (λ z. ending_of z (find (take limit bytes)).count (last_of limit bytes)) t.fine ∙ cond-false _ _ _ (lt-leb (length bytes) limit past) in
        (sym ending, count, tt, subst (Gains o) (sym (ap (λ (z : Found). z.text) found)) gains)
    by read.Stopped s =
        let q = refuses s.front s.stopped.0 in
        let found = stays_found find law limit bytes s.front s.behind q.reason s.cut s.within q.found in
        let ending : (due_in find limit bytes).ending ≡ Refused (counted ((find s.front).count + 1)) q.reason =
        ap (λ z. ending_of z (found_in find limit bytes).count (last_of limit bytes)) found.refusal ∙ ap (λ n. Refused (counted (n + 1)) q.reason) found.count in
        let said : ended_by read.Stopped number refusal ≡ Refused (counted ((find s.front).count + 1)) q.reason =
        ap (λ z. ending_of z number Done) q.keeps ∙ ap (λ n. Refused (counted (n + 1)) q.reason) q.count ∙ ap (λ n. Refused n q.reason) (counted-more (find s.front).count) in
        (said ∙ sym ending, count, subst (λ z. IsReadWhole z i) (sym said) tt, subst (Gains o) (sym found.text) s.stopped.1)
