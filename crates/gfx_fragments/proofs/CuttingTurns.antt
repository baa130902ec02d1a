-- What a turn of `fragment` comes to.
use Rattle.std.proofs.Common.{◌≡◌, ℕ, ◌≤◌, ◌<◌, true, false, List, [], ◌∷◌, ◌++◌, length, take, drop, Option, Some, None, Result, Ok, Err, OnOk, refl, sym, ap, ◌∙◌, subst, arith, length-take-le}
use Rattle.std.proofs.lemmas.Grind.{flat_map-append}
use Rattle.std.proofs.lemmas.List.{append-nil}
use Rattle.gfx_base.specs.Memory.{next_count}
use Rattle.gfx_base.specs.Results.{and_then}
use Rattle.gfx_base.specs.Stream.{Change, change, Gains}
use Rattle.gfx_base.specs.declared.TheConstants.{MOST_MESSAGE}
use Rattle.gfx_base.specs.declared.answer.Cause.{Cause}
use Rattle.gfx_base.specs.declared.answer.Cause.TheVariants as cause
use Rattle.gfx_base.specs.declared.refusal.Refusal.{Refusal}
use Rattle.gfx_base.specs.declared.refusal.Refusal.TheVariants.{ChannelLength}
use Rattle.gfx_base.proofs.Streams.{Gains-append}
use Rattle.gfx_dvc.specs.Cutting.{recorded}
use Rattle.gfx_input.specs.Reading.{TakesPiece, EndsBy, Wrote}
use Rattle.gfx_input.specs.declared.fault.TakeFault.{TakeFault}
use Rattle.gfx_input.specs.declared.fault.TakeFault.TheVariants as broke
use Rattle.gfx_input.specs.declared.reading.Read.{Read}
use Rattle.gfx_input.specs.declared.reading.Read.TheVariants as read
use Rattle.gfx_input.specs.declared.taker.Taken.{Taken}
use Rattle.gfx_input.specs.declared.taker.Taken.TheVariants as taken
use Rattle.gfx_segment.specs.Framing as framing
use Rattle.gfx_segment.specs.Framing.{Splitter, holding, fed, answer_of, behind, next_of, next, after_next, Answers, is_drained}
use Rattle.gfx_segment.proofs.FrontLemmas.{front_whole}
use Rattle.gfx_segment.proofs.CuttingLemmas.{drained_short}
use Rattle.gfx_fragments.specs.Cut.{One, Few, Wrong, next_message, is_one, Cut, cut_of, cut, Cuts}
use Rattle.gfx_fragments.specs.Due.{counted}
use Rattle.gfx_fragments.specs.Found.{Found, first_of, wrong_in, has_bytes, left_open, fragments_text, fragmented, fragments_due}
use Rattle.gfx_fragments.specs.Turns.{WritesItem, IsRefused, IsCutting, HasCut, RefusesCut, CutsOn}
use Rattle.gfx_fragments.specs.declared.fragmenting.Fragmenter.{Fragmenter}
use Rattle.gfx_fragments.proofs.CutLemmas.{Cuts-append, Cuts-one, cut-there, cut-is, cut-behind, cut-nil}
use Rattle.gfx_fragments.proofs.EndLemmas.{IsTaken}
use Rattle.gfx_fragments.proofs.FoundLemmas.{IsTextFront, fronts_fine, fragmented-is, fragments_found}
use Rattle.gfx_fragments.proofs.FrontLemmas.{message-is, message-short, messages_lawful}
use Rattle.gfx_fragments.proofs.TurnLemmas.{counts-one, part_written, part_still, fails_then}

-- what a splitter answers -----------------------------------------------------------------------------------------

-- a message was taken from the front
pub record TakesMessage (old new : Splitter) (message : List ℕ) : Type 0 where
  pub first : next_message old.rest ≡ One message new.rest
  pub clear : new.refusal ≡ None
  pub some : 0 < length message
  pub fits : length message ≤ MOST_MESSAGE

whole_takes : (refusal : Option Refusal) (rest m after : List ℕ) (new : Splitter) → framing.front rest ≡ framing.Whole m after → new ≡ holding after → TakesMessage (record { rest = rest; refusal = refusal }) new m
whole_takes refusal rest m after new is now =
    let f = front_whole rest m after is in
    let sized : length m ≡ f.size = ap length (sym f.cut.message) ∙ length-take-le f.size (drop 4 rest) f.cut.within in
    record {
      first = message-is rest (framing.Whole m after) is ∙ ap (λ (z : Splitter). One m z.rest) (sym now);
      clear = ap (λ (z : Splitter). z.refusal) now;
      some = let some : 0 < f.size = f.cut.fits.some in omega arith;
      fits = let most : f.size ≤ MOST_MESSAGE = f.cut.fits.most in omega arith;
    }

some_at : (rest m : List ℕ) (new : Splitter) (found : framing.Front) → framing.front rest ≡ found → answer_of Ok found ≡ Ok (Some m) → new ≡ behind (answer_of Ok found) found rest → TakesMessage (holding rest) new m
unfolding answer_of behind and_then
some_at rest m new (framing.Whole n after) is e now =
    let same : n ≡ m = cc in
    whole_takes None rest m after new (is ∙ ap (λ z. framing.Whole z after) same) now
some_at rest m new framing.Short is e now = absurd cc
some_at rest m new framing.Bad is e now = absurd cc

takes_at : (refusal : Option Refusal) (rest m : List ℕ) (new : Splitter) → let old : Splitter = record { rest = rest; refusal = refusal } in next Ok old ≡ Ok (Some m) → new ≡ after_next Ok old → TakesMessage old new m
unfolding next_of
takes_at None rest m new e now = some_at rest m new (framing.front rest) refl e now
takes_at (Some r) rest m new e now = absurd cc

pub takes_message : (old new : Splitter) (m : List ℕ) (result : Result (Option (List ℕ)) (Cause Refusal)) → result ≡ Ok (Some m) → Answers result old new (next Ok old) (after_next Ok old) → TakesMessage old new m
takes_message old new m (Ok given) e h = let same : given ≡ Some m = cc in takes_at old.refusal old.rest m new (h.0 ∙ ap (λ z. Ok z) same) h.1
takes_message old new m (Err fault) e h = absurd cc

-- fewer bytes are left
pub fewer_left : (old new : Splitter) (m : List ℕ) → TakesMessage old new m → length new.rest < length old.rest
fewer_left old new m t = messages_lawful.fewer old.rest m new.rest t.first

-- no message was there
pub record TakesNone (old new : Splitter) : Type 0 where
  pub few : next_message old.rest ≡ Few
  pub same : new ≡ old

none_at : (rest : List ℕ) (new : Splitter) (found : framing.Front) → framing.front rest ≡ found → answer_of Ok found ≡ Ok None → new ≡ behind (answer_of Ok found) found rest → TakesNone (holding rest) new
unfolding answer_of behind and_then
none_at rest new (framing.Whole n after) is e now = absurd cc
none_at rest new framing.Short is e now = record { few = message-is rest framing.Short is; same = now }
none_at rest new framing.Bad is e now = absurd cc

takes_none_at : (refusal : Option Refusal) (rest : List ℕ) (new : Splitter) → let old : Splitter = record { rest = rest; refusal = refusal } in next Ok old ≡ Ok None → new ≡ after_next Ok old → TakesNone old new
unfolding next_of
takes_none_at None rest new e now = none_at rest new (framing.front rest) refl e now
takes_none_at (Some r) rest new e now = absurd cc

pub takes_none : (old new : Splitter) (result : Result (Option (List ℕ)) (Cause Refusal)) → result ≡ Ok None → Answers result old new (next Ok old) (after_next Ok old) → TakesNone old new
takes_none old new (Ok given) e h = let same : given ≡ None = cc in takes_none_at old.refusal old.rest new (h.0 ∙ ap (λ z. Ok z) same) h.1
takes_none old new (Err fault) e h = absurd cc

-- a length was refused
pub record TakesWrong (old : Splitter) (r : Refusal) : Type 0 where
  pub wrong : next_message old.rest ≡ Wrong
  pub reason : r ≡ ChannelLength

wrong_at : (rest : List ℕ) (r : Refusal) (found : framing.Front) → framing.front rest ≡ found → answer_of Ok found ≡ Err r → TakesWrong (holding rest) r
unfolding answer_of and_then
wrong_at rest r (framing.Whole n after) is e = absurd cc
wrong_at rest r framing.Short is e = absurd cc
wrong_at rest r framing.Bad is e = record { wrong = message-is rest framing.Bad is; reason = let same : ChannelLength ≡ r = cc in sym same }

takes_wrong_at : (refusal : Option Refusal) (rest : List ℕ) (r : Refusal) → refusal ≡ None → let old : Splitter = record { rest = rest; refusal = refusal } in next Ok old ≡ Err r → TakesWrong old r
unfolding next_of
takes_wrong_at None rest r none e = wrong_at rest r (framing.front rest) refl e
takes_wrong_at (Some s) rest r none e = absurd cc

pub takes_wrong : (old new : Splitter) (r : Refusal) (result : Result (Option (List ℕ)) (Cause Refusal)) → result ≡ Err (cause.Refused r) → old.refusal ≡ None → Answers result old new (next Ok old) (after_next Ok old) → TakesWrong old r
takes_wrong old new r (Ok given) e none h = absurd cc
takes_wrong old new r (Err cause.Memory) e none h = let clash : cause.Memory ≡ cause.Refused r = cc in absurd cc
takes_wrong old new r (Err (cause.Refused s)) e none h = let same : s ≡ r = cc in takes_wrong_at old.refusal old.rest r none (h.0 ∙ ap (λ z. Err z) same)

-- one message -----------------------------------------------------------------------------------------------------

-- what was written is a front of the text that is due
cut_front : (bytes : List ℕ) (messages : List (List ℕ)) (rest : List ℕ) → Cuts next_message bytes messages rest → IsTextFront (fragments_text messages) (fragmented bytes).text
cut_front bytes messages rest cuts =
    let c = cut next_message rest in
    let all = fragmented-is bytes (cut_of (messages ++ c.items) c.rest) (cut-behind next_message messages_lawful bytes messages rest cuts) in
    record { rest = fragments_text c.items; cut = ap (λ (z : Found). z.text) all ∙ flat_map-append recorded messages c.items }

text-one : (messages : List (List ℕ)) (m : List ℕ) → fragments_text (messages ++ m ∷ []) ≡ fragments_text messages ++ recorded m
text-one messages m = flat_map-append recorded messages (m ∷ []) ∙ ap (λ z. fragments_text messages ++ z) (append-nil (recorded m))

-- a message was recorded, or couldn't be
pub put_turns : (a b d : ℕ) (x y z : Option (List ℕ)) (old new : Fragmenter) (mid : Splitter) (bytes m : List ℕ) (answer : Result (Option Taken) TakeFault) → IsCutting old bytes (change a b x y)
    → TakesMessage old.splitter mid m → new.splitter ≡ mid → new.refusal ≡ old.refusal → OnOk answer (new.number ≡ next_count old.number) → WritesItem answer (change b d y z) (recorded m) → CutsOn answer new bytes (change a d x z)
put_turns a b d x y z old new mid bytes m (Ok None) g t now kept number wrote =
    let more : Gains (change b d y z) (recorded m) = wrote in record {
      messages = g.messages ++ m ∷ [];
      cuts = Cuts-one next_message bytes g.messages old.splitter.rest m new.splitter.rest g.cuts (t.first ∙ ap (λ (w : Splitter). One m w.rest) (sym now));
      clear = ap (λ (w : Splitter). w.refusal) now ∙ t.clear;
      kept = kept ∙ g.kept;
      number = counts-one old.number new.number g.messages m g.number number;
      gains = subst (Gains (change a d x z)) (sym (text-one g.messages m)) (Gains-append a b d x y z (fragments_text g.messages) (recorded m) g.gains more);
    }
put_turns a b d x y z old new mid bytes m (Ok (Some t)) g takes now kept number wrote = absurd wrote
put_turns a b d x y z old new mid bytes m (Err broke.Write) g t now kept number wrote =
    let f = cut_front bytes (g.messages ++ m ∷ []) mid.rest (Cuts-one next_message bytes g.messages old.splitter.rest m mid.rest g.cuts t.first) in
    fails_then a b d x y z (fragments_text g.messages) (recorded m) (fragmented bytes).text g.gains wrote (subst (λ w. IsTextFront w (fragmented bytes).text) (text-one g.messages m) f)
put_turns a b d x y z old new mid bytes m (Err broke.Memory) g t now kept number wrote =
    part_still a b d x y z (fragments_text g.messages) (fragmented bytes).text g.gains wrote (cut_front bytes g.messages old.splitter.rest g.cuts)

-- memory ran out before that
pub no_memory : (o : Change) (old new : Fragmenter) (bytes : List ℕ) → IsCutting old bytes o → CutsOn (Err broke.Memory) new bytes o
no_memory o old new bytes g = part_written o (fragments_text g.messages) (fragmented bytes).text g.gains (cut_front bytes g.messages old.splitter.rest g.cuts)

-- what is found where no message is left
found_at : (o : Change) (old : Fragmenter) (bytes : List ℕ) (g : IsCutting old bytes o) → is_one (next_message old.splitter.rest) ≡ false → cut next_message bytes ≡ cut_of g.messages old.splitter.rest
found_at o old bytes g ends = cut-is next_message messages_lawful bytes g.messages old.splitter.rest g.cuts ends

-- no message is left
pub none_turns : (o : Change) (old new : Fragmenter) (bytes : List ℕ) → IsCutting old bytes o → TakesNone old.splitter new.splitter → new.refusal ≡ old.refusal → new.number ≡ old.number → CutsOn (Ok (Some taken.More)) new bytes o
none_turns o old new bytes g t kept number =
    let c = found_at o old bytes g (ap is_one t.few) in
    let all = fragmented-is bytes (cut_of g.messages old.splitter.rest) c in
    let fine : (fragmented bytes).refusal ≡ None = ap (λ (z : Found). z.refusal) all ∙ ap wrong_in t.few in (
      record {
        waits = ap (λ (z : Cut). next_message z.rest) c ∙ t.few;
        fine = λ n. fronts_fine fragmented fragments_found bytes n fine;
        holds = t.same ∙ ap (λ w. let s : Splitter = record { rest = old.splitter.rest; refusal = w } in s) g.clear ∙ ap (λ (z : Cut). holding z.rest) (sym c);
        kept = kept ∙ g.kept;
        number = number ∙ g.number ∙ ap (λ (z : Found). counted z.count) (sym all);
      },
      subst (Gains o) (ap (λ (z : Found). z.text) (sym all)) g.gains,
    )

-- the next is refused
pub refused_turns : (o : Change) (old new : Fragmenter) (bytes : List ℕ) (r : Refusal) → IsCutting old bytes o → TakesWrong old.splitter r → new.refusal ≡ Some r → new.number ≡ old.number → CutsOn (Ok (Some taken.Stopped)) new bytes o
refused_turns o old new bytes r g t kept number =
    let c = found_at o old bytes g (ap is_one t.wrong) in
    let all = fragmented-is bytes (cut_of g.messages old.splitter.rest) c in (
      record {
        count = number ∙ g.number ∙ ap (λ (z : Found). counted z.count) (sym all);
        reason = r;
        found = ap (λ (z : Found). z.refusal) all ∙ ap wrong_in t.wrong ∙ ap (λ z. Some z) (sym t.reason);
        keeps = kept;
      },
      subst (Gains o) (ap (λ (z : Found). z.text) (sym all)) g.gains,
    )

-- a piece ---------------------------------------------------------------------------------------------------------

fed_is : (old new : Splitter) (rest piece : List ℕ) → old ≡ holding rest → new ≡ fed old piece → new ≡ holding (rest ++ piece)
fed_is old new rest piece is now = now ∙ ap (λ z. fed z piece) is

pub fed_cutting : (o : Change) (old new : Fragmenter) (bytes piece : List ℕ) → HasCut old bytes → Gains o (fragments_due bytes) → new.splitter ≡ fed old.splitter piece → new.refusal ≡ old.refusal → new.number ≡ old.number → IsCutting new (bytes ++ piece) o
fed_cutting o old new bytes piece h gains now kept number =
    let c = cut next_message bytes in
    let holds = fed_is old.splitter new.splitter c.rest piece h.holds now in
    let all = fragmented-is bytes c refl in
    record {
      messages = c.items;
      cuts = subst (λ (z : Splitter). Cuts next_message (bytes ++ piece) c.items z.rest) (sym holds) (Cuts-append next_message messages_lawful bytes c.items c.rest piece (cut-there next_message messages_lawful bytes).cuts);
      clear = ap (λ (z : Splitter). z.refusal) holds;
      kept = kept ∙ h.kept;
      number = number ∙ h.number ∙ ap (λ (z : Found). counted z.count) all;
      gains = subst (Gains o) (ap (λ (z : Found). z.text) all) gains;
    }

pub not_fed : (o : Change) (new : Fragmenter) (bytes piece : List ℕ) → Gains o (fragments_due bytes) → TakesPiece HasCut RefusesCut (fragments_due (bytes ++ piece)) (Err broke.Memory) new (bytes ++ piece) o
not_fed o new bytes piece gains = part_written o (fragments_due bytes) (fragments_due (bytes ++ piece)) gains (fragments_found.grows bytes piece)

-- nothing was given yet
pub cut_nothing : (taker : Fragmenter) → taker.splitter ≡ holding [] → taker.number ≡ 0 → taker.refusal ≡ None → HasCut taker []
cut_nothing taker splitter number kept =
    let c = cut-nil next_message messages_lawful in
    let all = fragmented-is [] (cut_of [] []) c in
    let few : next_message [] ≡ Few = messages_lawful.none in
    record {
      waits = ap (λ (z : Cut). next_message z.rest) c ∙ few;
      fine = λ n. fronts_fine fragmented fragments_found [] n (ap (λ (z : Found). z.refusal) all ∙ ap wrong_in few);
      holds = splitter ∙ ap (λ (z : Cut). holding z.rest) (sym c);
      kept = kept;
      number = number ∙ ap (λ (z : Found). counted z.count) (sym all);
    }

-- the end ---------------------------------------------------------------------------------------------------------

-- no message can be taken any more
pub at_end : (why : Read) (limit : ℕ) (o : Change) (bytes left : List ℕ) (taker : Fragmenter) → EndsBy (Wrote HasCut fragments_due o) (Wrote RefusesCut fragments_due o) why limit bytes left taker → taker.refusal ≡ None → is_drained taker.splitter ≡ true
at_end why limit o bytes left taker e none = by why e
  where
    drained : (taken_bytes : List ℕ) → HasCut taker taken_bytes → is_drained taker.splitter ≡ true
    drained taken_bytes h = drained_short taker.splitter (ap (λ (z : Splitter). framing.front z.rest) h.holds ∙ message-short (cut next_message taken_bytes).rest h.waits)

    by : (w : Read) → EndsBy (Wrote HasCut fragments_due o) (Wrote RefusesCut fragments_due o) w limit bytes left taker → is_drained taker.splitter ≡ true
    by read.Whole h = drained bytes h.2.0
    by read.TooLong h = drained (take limit bytes) h.1.0
    by read.Stopped h = let clash : None ≡ Some h.stopped.0.reason = sym none ∙ h.stopped.0.keeps in absurd cc

pub taken_whole : (taker : Fragmenter) (refusal : Option Refusal) (bytes : List ℕ) → (taker.refusal ≡ None → taker.splitter.refusal ≡ None → refusal ≡ left_open (has_bytes taker.splitter.rest)) → HasCut taker bytes
    → IsTaken fragmented taker.number refusal bytes
taken_whole taker refusal bytes last h =
    let c = cut next_message bytes in
    let all = fragmented-is bytes c refl in
    let fine : (fragmented bytes).refusal ≡ None = ap (λ (z : Found). z.refusal) all ∙ ap wrong_in h.waits in
    record {
      count = h.number;
      fine = fine;
      last =
          last h.kept (ap (λ (z : Splitter). z.refusal) h.holds)
          ∙ ap (λ (z : Splitter). left_open (has_bytes z.rest)) h.holds
          ∙ ap (λ (z : Found). left_open z.is_open) (sym all)
          ∙ ap (λ z. first_of z (left_open (fragmented bytes).is_open)) (sym fine);
    }

pub taken_refused : (find : List ℕ → Found) (number : ℕ) (kept refusal : Option Refusal) (bytes : List ℕ) → ((r : Refusal) → kept ≡ Some r → refusal ≡ Some r) → IsRefused find number kept bytes → IsRefused find number refusal bytes
taken_refused find number kept refusal bytes same h = record { count = h.count; reason = h.reason; found = h.found; keeps = same h.reason h.keeps }
