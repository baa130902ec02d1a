-- What reading an input comes to, against what is due of it.
use Rattle.std.proofs.Common.{◌≡◌, ℕ, ◌+◌, ◌≤◌, ◌<◌, Bool, true, false, cond, leb, List, [], ◌++◌, length, take, drop, Ok, refl, sym, ap, ◌∙◌, subst, arith}
use Rattle.std.proofs.lemmas.Bool.{leb-true, le-leb, lt-leb, cond-true, cond-false}
use Rattle.std.proofs.lemmas.List.{take_all, take-append-drop, length-take}
use Rattle.gfx_base.specs.Stream.{Change}
use Rattle.gfx_bitmap_cache.specs.Slots.{Entry}
use Rattle.gfx_import.specs.Agreed.{agree}
use Rattle.gfx_input.specs.Reading.{rest_of, input_of, ReadsInput}
use Rattle.gfx_input.specs.Taking.{silent, nowhere}
use Rattle.gfx_input.specs.declared.reading.Read.{Read}
use Rattle.gfx_input.specs.declared.reading.Read.TheVariants as read
use Rattle.gfx_kept_input.specs.Allowed.{allowed, grows}
use Rattle.gfx_kept_input.specs.Due.{IsNotWrong, IsFine, ending_of, ending_in, IsReadWhole, ReadsKept}
use Rattle.gfx_kept_input.specs.Split.{Split, split, Found, Few, Wrong, Splits, found}
use Rattle.gfx_kept_input.specs.Taking.{Holds, Waits, Stands, Refuses, Stops, ended_at, ended_by}
use Rattle.gfx_kept_input.specs.declared.outcome.KeptInput.{KeptInput}
use Rattle.gfx_kept_input.specs.declared.outcome.KeptInput.TheVariants as ending
use Rattle.gfx_kept_input.specs.declared.taker.Intake.{Intake}
use Rattle.gfx_kept_input.specs.declared.taker.Part.{Part}
use Rattle.gfx_kept_input.specs.declared.taker.Part.TheVariants as part
use Rattle.gfx_kept_input.proofs.FoundLemmas.{wrong-stays, splits-stay, few-under, splits-is, split-size}
use Rattle.gfx_kept_input.proofs.TurnLemmas.{server-few, client-few, script-splits}

-- it was taken whole -------------------------------------------------------------------------------------------

ended_whole : (p : Part) (taker : Intake) (limit : ℕ) (bytes : List ℕ) → Holds p taker bytes → Waits p taker.bytes → length bytes ≤ allowed limit bytes → ended_at p taker ≡ ending_in limit bytes
ended_whole part.Server taker limit bytes h short within = ap (ending_of limit) (sym (server-few taker bytes h short))
ended_whole part.Client taker limit bytes h short within = ap (ending_of limit) (sym (client-few taker bytes h short))
ended_whole part.Script taker limit bytes h waits within =
    let is = script-splits taker bytes h in
    let size : allowed limit bytes + length taker.bytes ≡ limit + length bytes = split-size limit bytes (split taker.server.kept taker.client.kept taker.bytes) is in
    sym (ap (ending_of limit) is ∙ cond-true _ _ _ (le-leb (length taker.bytes) limit (omega arith)))
ended_whole (part.Refused refusal) taker limit bytes h waits within = absurd waits

read_whole : (p : Part) (taker : Intake) (i : Change) → rest_of i.new ≡ [] → IsReadWhole (ended_at p taker) i
read_whole part.Server taker i left = tt
read_whole part.Client taker i left = tt
read_whole part.Script taker i left = left
read_whole (part.Refused refusal) taker i left = tt

-- it is longer than may be taken -------------------------------------------------------------------------------

long_by : (f : Found) (limit : ℕ) (bytes front behind : List ℕ) → found front ≡ f → IsNotWrong f → front ++ behind ≡ bytes
    → length front ≡ allowed limit bytes → allowed limit bytes < length bytes → ending_in limit bytes ≡ ending.TooLong
long_by Few limit bytes front behind is fine cut all past =
    let under : length front < allowed limit front = few-under limit front is in
    let more : allowed limit front ≤ allowed limit bytes = subst (λ z. allowed limit front ≤ allowed limit z) cut (grows limit front behind) in
    absurd (omega arith)
long_by (Wrong refusal) limit bytes front behind is fine cut all past = absurd fine
long_by (Splits s) limit bytes front behind is fine cut all past =
    let script = s.script ++ behind in
    let found_so : found bytes ≡ Splits (split s.server s.client script) = ap found (sym cut) ∙ splits-stay front behind s is in
    let size : allowed limit bytes + length script ≡ limit + length bytes = split-size limit bytes (split s.server s.client script) found_so in
    ap (ending_of limit) found_so ∙ cond-false _ _ _ (lt-leb (length script) limit (omega arith))

ended_long : (taker : Intake) (limit n : ℕ) (bytes : List ℕ) → n ≡ allowed limit bytes → Stands taker (take n bytes) → n < length bytes → ending_in limit bytes ≡ ending.TooLong
ended_long taker limit n bytes is s past =
    let as_many : length (take n bytes) ≡ n = omega (arith, length-take n bytes) in
    let fine : IsFine (take n bytes) = subst IsFine (take_all n (take n bytes) (omega arith)) (s.fine n) in
    long_by (found (take n bytes)) limit bytes (take n bytes) (drop n bytes) refl fine (take-append-drop n bytes) (as_many ∙ is) (omega arith)

-- it is refused ------------------------------------------------------------------------------------------------

ended_refused : (p : Part) (taker : Intake) (limit : ℕ) (bytes front behind : List ℕ) → bytes ≡ front ++ behind → Refuses p front → ended_at p taker ≡ ending_in limit bytes
ended_refused part.Server taker limit bytes front behind cut never = absurd never
ended_refused part.Client taker limit bytes front behind cut never = absurd never
ended_refused part.Script taker limit bytes front behind cut never = absurd never
ended_refused (part.Refused refusal) taker limit bytes front behind cut wrong =
    ap (ending_of limit) (sym (ap found cut ∙ wrong-stays front behind refusal wrong))

read_part : (p : Part) (taker : Intake) (i : Change) (front : List ℕ) → Refuses p front → IsReadWhole (ended_at p taker) i
read_part part.Server taker i front never = absurd never
read_part part.Client taker i front never = absurd never
read_part part.Script taker i front never = absurd never
read_part (part.Refused refusal) taker i front wrong = tt

-- it ended -----------------------------------------------------------------------------------------------------

pub finished : (why : Read) (limit : ℕ) (i : Change) (taker : Intake) → ReadsInput Stands Stops IsFine silent (Ok why) (allowed limit) i nowhere taker → ReadsKept (Ok (ended_by why taker)) limit i
finished read.Whole limit i taker (reads, count, (within, left, there)) =
    (reads, count, read_whole taker.part taker i left, ended_whole taker.part taker limit (input_of reads) there.0.holds there.0.waits within)
finished read.TooLong limit i taker (reads, count, (past, there)) =
    (reads, count, tt, sym (ended_long taker limit (allowed limit (input_of reads)) (input_of reads) refl there.0 past))
finished read.Stopped limit i taker (reads, count, s) =
    (reads, count, read_part taker.part taker i s.front s.stopped.0, ended_refused taker.part taker limit (input_of reads) s.front s.behind s.cut s.stopped.0)

-- what stands in an input that is taken whole -------------------------------------------------------------------

-- both files agree, and the script is within the limit
pub record IsWhole (limit : ℕ) (bytes : List ℕ) (server client : List Entry) (script : List ℕ) : Type 0 where
  pub splits : found bytes ≡ Splits (split server client script)
  pub agreed : agree server client ≡ true
  pub fits : length script ≤ limit

-- the bytes of a script within the limit, or TooLong
abbrev fitting : Bool → Split → KeptInput
fitting fits s = cond fits (ending.Whole s.server s.client s.script) ending.TooLong

fitting-true : (fits : Bool) (s : Split) (server client : List Entry) (script : List ℕ) → fitting fits s ≡ ending.Whole server client script → fits ≡ true
fitting-true true s server client script e = refl
fitting-true false s server client script e = absurd cc

fitting-is : (fits : Bool) (s : Split) (server client : List Entry) (script : List ℕ) → fitting fits s ≡ ending.Whole server client script → s ≡ split server client script
fitting-is true s server client script e =
    let one : s.server ≡ server = cc in
    let other : s.client ≡ client = cc in
    let rest : s.script ≡ script = cc in
    ap (λ z. split z s.client s.script) one ∙ ap (λ z. split server z s.script) other ∙ ap (split server client) rest
fitting-is false s server client script e = absurd cc

whole_by : (f : Found) (limit : ℕ) (bytes : List ℕ) (server client : List Entry) (script : List ℕ) → found bytes ≡ f → ending_of limit f ≡ ending.Whole server client script → IsWhole limit bytes server client script
whole_by Few limit bytes server client script is e = absurd cc
whole_by (Wrong refusal) limit bytes server client script is e = absurd cc
whole_by (Splits s) limit bytes server client script is e =
    let same = fitting-is (leb (length s.script) limit) s server client script e in
    let splits : found bytes ≡ Splits (split server client script) = is ∙ ap (λ z. Splits z) same in
    let size : length s.script ≡ length script = ap (λ (z : Split). length z.script) same in
    let within : length s.script ≤ limit = leb-true (length s.script) limit (fitting-true (leb (length s.script) limit) s server client script e) in
    record { splits = splits; agreed = (splits-is bytes (split server client script) splits).agreed; fits = omega arith }

pub whole-is : (limit : ℕ) (bytes : List ℕ) (server client : List Entry) (script : List ℕ) → ending_in limit bytes ≡ ending.Whole server client script → IsWhole limit bytes server client script
whole-is limit bytes server client script e = whole_by (found bytes) limit bytes server client script refl e
