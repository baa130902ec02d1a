-- What a turn of `join` comes to.
use Rattle.std.proofs.Common.{◌≡◌, ℕ, Bool, true, false, ◌||◌, List, [], ◌∷◌, ◌++◌, length, Option, Some, None, is_some, if◌then◌else◌, Result, Ok, Err, refl, sym, ap, ◌∙◌, subst, eqb}
use Rattle.std.proofs.lemmas.List.{append-nil}
use Rattle.std.specs.List.{flat_map}
use Rattle.std.specs.Result.{is_ok}
use Rattle.gfx_base.specs.Memory.{next_count}
use Rattle.gfx_base.specs.Outcome as outcome
use Rattle.gfx_base.specs.Stream.{Change, change, Gains}
use Rattle.gfx_base.specs.declared.answer.Cause.{Cause}
use Rattle.gfx_base.specs.declared.answer.Cause.TheVariants as cause
use Rattle.gfx_base.specs.declared.refusal.Refusal.{Refusal}
use Rattle.gfx_base.specs.declared.refusal.Refusal.TheVariants.{ChannelLength}
use Rattle.gfx_base.proofs.ResultLemmas.{and_then_ok}
use Rattle.gfx_base.proofs.Streams.{Gains-append}
use Rattle.gfx_dvc.specs.Joining.{Joiner, fresh, refused, idle, opened, whole, so_far, passed, reached, put, step, given, turn_of, turn, messages_of, joiner_after, Answers}
use Rattle.gfx_input.specs.Reading.{TakesPiece, WantsOnlyIf}
use Rattle.gfx_input.specs.declared.fault.TakeFault.{TakeFault}
use Rattle.gfx_input.specs.declared.fault.TakeFault.TheVariants as broke
use Rattle.gfx_input.specs.declared.taker.Taken.{Taken}
use Rattle.gfx_input.specs.declared.taker.Taken.TheVariants as taken
use Rattle.gfx_segment.specs.Framing.{prefixed}
use Rattle.gfx_fragments.specs.Cut.{One, Few, Wrong, next_fragment, is_one, Cut, cut_of, cut, Cuts}
use Rattle.gfx_fragments.specs.Due.{counted}
use Rattle.gfx_fragments.specs.Found.{Found, first_of, wrong_in, has_bytes, left_open, joined_text, joined, joined_due}
use Rattle.gfx_fragments.specs.Turns.{WritesItem, IsJoining, HasJoined, RefusesJoin, JoinsOn}
use Rattle.gfx_fragments.specs.declared.joining.Assembler.{Assembler}
use Rattle.gfx_fragments.proofs.CutLemmas.{Cuts-append, Cuts-then, Cuts-one, cut-there, cut-is, cut-behind, cut-nil}
use Rattle.gfx_fragments.proofs.EndLemmas.{IsTaken}
use Rattle.gfx_fragments.proofs.FoundLemmas.{IsTextFront, fronts_fine, joined-is, joined-append, joiner-append, over, passed-all, passed-to, joins_found, turn-not}
use Rattle.gfx_fragments.proofs.FrontLemmas.{fragments_lawful}
use Rattle.gfx_fragments.proofs.TurnLemmas.{counts-one, part_written, part_still, fails_then}

-- one fragment -----------------------------------------------------------------------------------------------------

-- no refusal is kept behind a fragment that was taken
clear-reached : (all : Bool) (channel total : ℕ) (bytes : List ℕ) → let r : Option (List ℕ) × Joiner = if all then (Some bytes, idle channel) else (None, opened channel total bytes) in r.1.refusal ≡ None
clear-reached true channel total bytes = refl
clear-reached false channel total bytes = refl

step-clear : (joiner new : Joiner) (f : List ℕ) (message : Option (List ℕ)) → step joiner f ≡ Ok (message, new) → new.refusal ≡ None
unfolding step put reached
step-clear joiner new f message e =
    let s = and_then_ok (passed joiner f) _ (message, new) e in
    let fragment = s.0 in
    let total = whole joiner.message fragment.header.total fragment.piece in
    let bytes = so_far joiner.message fragment.piece in
    let is : reached fragment.header.channel total bytes ≡ (message, new) = let h = s.2 in cc in
    ap (λ (z : Option (List ℕ) × Joiner). z.1.refusal) (sym is) ∙ clear-reached (eqb (length bytes) total) fragment.header.channel total bytes

turn-taken : (joiner new : Joiner) (f : List ℕ) (message : Option (List ℕ)) → step joiner f ≡ Ok (message, new) → turn joiner f ≡ (given message, new)
unfolding turn_of
turn-taken joiner new f message e = ap turn_of e

-- what a joiner answered
pub took : (old new : Joiner) (f g : List ℕ) (message : Option (List ℕ)) (result : Result (Option (List ℕ)) (Cause Refusal)) → result ≡ Ok message → f ≡ g → Answers result old new (step old f) → step old g ≡ Ok (message, new)
took old new f g message (Ok m) e same is = ap (step old) (sym same) ∙ is ∙ (let one : m ≡ message = cc in ap (λ z. Ok (z, new)) one)
took old new f g message (Err fault) e same is = absurd cc

pub took_not : (old new : Joiner) (f g : List ℕ) (r : Refusal) (result : Result (Option (List ℕ)) (Cause Refusal)) → result ≡ Err (cause.Refused r) → f ≡ g → Answers result old new (step old f) → step old g ≡ Err r
took_not old new f g r (Ok m) e same is = absurd cc
took_not old new f g r (Err cause.Memory) e same is = let clash : cause.Memory ≡ cause.Refused r = cc in absurd cc
took_not old new f g r (Err (cause.Refused s)) e same is = ap (step old) (sym same) ∙ is.0 ∙ (let one : s ≡ r = cc in ap (λ z. Err z) one)

-- it wanted memory only for a fragment that passes
pub wanted : (old : Joiner) (f g : List ℕ) (result : Result (Option (List ℕ)) (Cause Refusal)) → result ≡ Err cause.Memory → f ≡ g → outcome.WantsOnlyIf result (is_ok (step old f))
    → is_ok (step old g) ≡ true
wanted old f g (Ok m) e same wants = absurd cc
wanted old f g (Err cause.Memory) e same wants = ap (λ z. is_ok (step old z)) (sym same) ∙ wants
wanted old f g (Err (cause.Refused s)) e same wants = let clash : cause.Refused s ≡ cause.Memory = cc in absurd cc

pub wants_any : {X : Type 0} (result : Result X TakeFault) (may : Bool) → may ≡ true → WantsOnlyIf result may
wants_any (Ok x) may e = tt
wants_any (Err broke.Write) may e = tt
wants_any (Err broke.Memory) may e = e

-- what was written is a front of the text that is due
join_front : (bytes : List ℕ) (fragments : List (List ℕ)) (rest : List ℕ) → Cuts next_fragment bytes fragments rest → IsTextFront (joined_text fragments) (joined bytes).text
join_front bytes fragments rest cuts =
    let c = cut next_fragment rest in
    let all = joined-is bytes (cut_of (fragments ++ c.items) c.rest) (cut-behind next_fragment fragments_lawful bytes fragments rest cuts) in
    record { rest = flat_map prefixed (messages_of (joiner_after fresh fragments) c.items); cut = ap (λ (z : Found). z.text) all ∙ joined-append fragments c.items }

-- the joiner and the text with one fragment more
record OneMore (fragments : List (List ℕ)) (f : List ℕ) (message : Option (List ℕ)) (new : Joiner) : Type 0 where
  joiner : new ≡ joiner_after fresh (fragments ++ f ∷ [])
  text : joined_text (fragments ++ f ∷ []) ≡ joined_text fragments ++ flat_map prefixed (given message)

one-more : (fragments : List (List ℕ)) (f : List ℕ) (message : Option (List ℕ)) (joiner new : Joiner) → joiner ≡ joiner_after fresh fragments → step joiner f ≡ Ok (message, new) → OneMore fragments f message new
one-more fragments f message joiner new at e =
    let now : turn (joiner_after fresh fragments) f ≡ (given message, new) = ap (λ z. turn z f) (sym at) ∙ turn-taken joiner new f message e in
    record {
      joiner = sym (joiner-append fresh fragments (f ∷ []) ∙ ap (λ (z : List (List ℕ) × Joiner). z.1) now);
      text =
          joined-append fragments (f ∷ [])
          ∙ ap (λ (z : List (List ℕ) × Joiner). joined_text fragments ++ flat_map prefixed (z.0 ++ [])) now
          ∙ ap (λ z. joined_text fragments ++ flat_map prefixed z) (append-nil (given message));
    }

-- a fragment was joined, and the message that it ended was written or couldn't be
pub take_turns : (a b d : ℕ) (x y z : Option (List ℕ)) (old new : Assembler) (bytes f after : List ℕ) (message : Option (List ℕ)) (answer : Result (Option Taken) TakeFault) → IsJoining old bytes (change a b x y)
    → next_fragment old.pending ≡ One f after → step old.joiner f ≡ Ok (message, new.joiner) → new.pending ≡ after → new.refusal ≡ old.refusal → new.number ≡ next_count old.number
    → WritesItem answer (change b d y z) (flat_map prefixed (given message)) → JoinsOn answer new bytes (change a d x z)
take_turns a b d x y z old new bytes f after message (Ok None) g first e now kept number wrote =
    let one = one-more g.fragments f message old.joiner new.joiner g.joiner e in
    let more : Gains (change b d y z) (flat_map prefixed (given message)) = wrote in
    record {
      fragments = g.fragments ++ f ∷ [];
      cuts = Cuts-one next_fragment bytes g.fragments old.pending f new.pending g.cuts (first ∙ ap (One f) (sym now));
      joiner = one.joiner;
      clear = step-clear old.joiner new.joiner f message e;
      kept = kept ∙ g.kept;
      number = counts-one old.number new.number g.fragments f g.number number;
      gains = subst (Gains (change a d x z)) (sym one.text) (Gains-append a b d x y z (joined_text g.fragments) (flat_map prefixed (given message)) g.gains more);
    }
take_turns a b d x y z old new bytes f after message (Ok (Some t)) g first e now kept number wrote = absurd wrote
take_turns a b d x y z old new bytes f after message (Err broke.Write) g first e now kept number wrote =
    let one = one-more g.fragments f message old.joiner new.joiner g.joiner e in
    let front = join_front bytes (g.fragments ++ f ∷ []) after (Cuts-one next_fragment bytes g.fragments old.pending f after g.cuts first) in
    fails_then a b d x y z (joined_text g.fragments) (flat_map prefixed (given message)) (joined bytes).text g.gains wrote (subst (λ w. IsTextFront w (joined bytes).text) one.text front)
take_turns a b d x y z old new bytes f after message (Err broke.Memory) g first e now kept number wrote =
    part_still a b d x y z (joined_text g.fragments) (joined bytes).text g.gains wrote (join_front bytes g.fragments old.pending g.cuts)

-- memory ran out before that
pub no_memory : (o : Change) (old new : Assembler) (bytes : List ℕ) → IsJoining old bytes o → JoinsOn (Err broke.Memory) new bytes o
no_memory o old new bytes g = part_written o (joined_text g.fragments) (joined bytes).text g.gains (join_front bytes g.fragments old.pending g.cuts)

-- the next is refused by the joiner
pub refused_turns : (o : Change) (old new : Assembler) (bytes f after : List ℕ) (r : Refusal) → IsJoining old bytes o → next_fragment old.pending ≡ One f after → step old.joiner f ≡ Err r → new.refusal ≡ Some r → new.number ≡ old.number
    → JoinsOn (Ok (Some taken.Stopped)) new bytes o
refused_turns o old new bytes f after r g first e kept number =
    let others = cut next_fragment after in
    let there = cut-there next_fragment fragments_lawful after in
    let items = g.fragments ++ f ∷ others.items in
    let c : cut next_fragment bytes ≡ cut_of items others.rest =
    cut-is next_fragment fragments_lawful bytes items others.rest (Cuts-then next_fragment bytes g.fragments old.pending (f ∷ others.items) others.rest g.cuts (after, first, there.cuts)) there.ends in
    let all = joined-is bytes (cut_of items others.rest) c in
    let before = joiner_after fresh g.fragments in
    let now : turn before f ≡ ([], refused r) = ap (λ z. turn z f) (sym g.joiner) ∙ turn-not old.joiner f r e in
    let refusal : (turn before f).1.refusal ≡ Some r = ap (λ (z : List (List ℕ) × Joiner). z.1.refusal) now in
    let end = over (turn before f).1 others.items r refusal in
    let clear : before.refusal ≡ None = ap (λ (z : Joiner). z.refusal) (sym g.joiner) ∙ g.clear in
    let none : messages_of before (f ∷ others.items) ≡ [] = ap (λ (z : List (List ℕ) × Joiner). z.0 ++ messages_of (turn before f).1 others.items) now ∙ end.messages in
    let last : (joiner_after fresh items).refusal ≡ Some r = ap (λ (z : Joiner). z.refusal) (joiner-append fresh g.fragments (f ∷ others.items)) ∙ end.kept in
    let text : joined_text items ≡ joined_text g.fragments = joined-append g.fragments (f ∷ others.items) ∙ ap (λ z. joined_text g.fragments ++ flat_map prefixed z) none ∙ append-nil (joined_text g.fragments) in (
      record {
        count = number ∙ g.number ∙ ap (λ z. counted (length z)) (sym (passed-to fresh g.fragments f others.items r clear refusal)) ∙ ap (λ (z : Found). counted z.count) (sym all);
        reason = r;
        found = ap (λ (z : Found). z.refusal) all ∙ ap (λ z. first_of z (wrong_in (next_fragment others.rest))) last;
        keeps = kept;
      },
      subst (Gains o) (sym text ∙ ap (λ (z : Found). z.text) (sym all)) g.gains,
    )

-- what is found where no fragment is left -----------------------------------------------------------------------

-- its refusal is that of the length at the front
record IsFound (old : Assembler) (bytes : List ℕ) (fragments : List (List ℕ)) : Type 0 where
  cut_is : cut next_fragment bytes ≡ cut_of fragments old.pending
  text : (joined bytes).text ≡ joined_text fragments
  count : (joined bytes).count ≡ length fragments
  refusal : (joined bytes).refusal ≡ wrong_in (next_fragment old.pending)

found_at : (o : Change) (old : Assembler) (bytes : List ℕ) (g : IsJoining old bytes o) → is_one (next_fragment old.pending) ≡ false → IsFound old bytes g.fragments
found_at o old bytes g ends =
    let c = cut-is next_fragment fragments_lawful bytes g.fragments old.pending g.cuts ends in
    let all = joined-is bytes (cut_of g.fragments old.pending) c in
    let clear : (joiner_after fresh g.fragments).refusal ≡ None = ap (λ (z : Joiner). z.refusal) (sym g.joiner) ∙ g.clear in
    record {
      cut_is = c;
      text = ap (λ (z : Found). z.text) all;
      count = ap (λ (z : Found). z.count) all ∙ ap length (passed-all fresh g.fragments clear);
      refusal = ap (λ (z : Found). z.refusal) all ∙ ap (λ z. first_of z (wrong_in (next_fragment old.pending))) clear;
    }

-- no fragment is left
pub none_turns : (o : Change) (old : Assembler) (bytes : List ℕ) → IsJoining old bytes o → next_fragment old.pending ≡ Few → JoinsOn (Ok (Some taken.More)) old bytes o
none_turns o old bytes g few =
    let f = found_at o old bytes g (ap is_one few) in (
      record {
        waits = ap (λ (z : Cut). next_fragment z.rest) f.cut_is ∙ few;
        fine = λ n. fronts_fine joined joins_found bytes n (f.refusal ∙ ap wrong_in few);
        holds = ap (λ (z : Cut). z.rest) (sym f.cut_is);
        joiner = g.joiner ∙ ap (λ (z : Cut). joiner_after fresh z.items) (sym f.cut_is);
        clear = g.clear;
        kept = g.kept;
        number = g.number ∙ ap counted (sym f.count);
      },
      subst (Gains o) (sym f.text) g.gains,
    )

-- the next has a length that no fragment has
pub wrong_turns : (o : Change) (old new : Assembler) (bytes : List ℕ) → IsJoining old bytes o → next_fragment old.pending ≡ Wrong → new.refusal ≡ Some ChannelLength → new.number ≡ old.number → JoinsOn (Ok (Some taken.Stopped)) new bytes o
wrong_turns o old new bytes g wrong kept number =
    let f = found_at o old bytes g (ap is_one wrong) in (
      record { count = number ∙ g.number ∙ ap counted (sym f.count); reason = ChannelLength; found = f.refusal ∙ ap wrong_in wrong; keeps = kept },
      subst (Gains o) (sym f.text) g.gains,
    )

-- a piece ------------------------------------------------------------------------------------------------------------

pub gained_joining : (o : Change) (old new : Assembler) (bytes piece : List ℕ) → HasJoined old bytes → Gains o (joined_due bytes) → new.pending ≡ old.pending ++ piece → new.joiner ≡ old.joiner → new.refusal ≡ old.refusal → new.number ≡ old.number
    → IsJoining new (bytes ++ piece) o
gained_joining o old new bytes piece h gains now joiner kept number =
    let c = cut next_fragment bytes in
    let all = joined-is bytes c refl in
    let holds : new.pending ≡ c.rest ++ piece = now ∙ ap (λ z. z ++ piece) h.holds in
    let clear : (joiner_after fresh c.items).refusal ≡ None = ap (λ (z : Joiner). z.refusal) (sym h.joiner) ∙ h.clear in
    record {
      fragments = c.items;
      cuts = subst (Cuts next_fragment (bytes ++ piece) c.items) (sym holds) (Cuts-append next_fragment fragments_lawful bytes c.items c.rest piece (cut-there next_fragment fragments_lawful bytes).cuts);
      joiner = joiner ∙ h.joiner;
      clear = ap (λ (z : Joiner). z.refusal) joiner ∙ h.clear;
      kept = kept ∙ h.kept;
      number = number ∙ h.number ∙ ap (λ (z : Found). counted z.count) all ∙ ap (λ z. counted (length z)) (passed-all fresh c.items clear);
      gains = subst (Gains o) (ap (λ (z : Found). z.text) all) gains;
    }

pub not_gained : (o : Change) (new : Assembler) (bytes piece : List ℕ) → Gains o (joined_due bytes) → TakesPiece HasJoined RefusesJoin (joined_due (bytes ++ piece)) (Err broke.Memory) new (bytes ++ piece) o
not_gained o new bytes piece gains = part_written o (joined_due bytes) (joined_due (bytes ++ piece)) gains (joins_found.grows bytes piece)

-- nothing was given yet
pub joined_nothing : (taker : Assembler) → taker.pending ≡ [] → taker.joiner ≡ fresh → taker.number ≡ 0 → taker.refusal ≡ None → HasJoined taker []
joined_nothing taker pending joiner number kept =
    let c = cut-nil next_fragment fragments_lawful in
    let all = joined-is [] (cut_of [] []) c in
    let few : next_fragment [] ≡ Few = fragments_lawful.none in
    record {
      waits = ap (λ (z : Cut). next_fragment z.rest) c ∙ few;
      fine = λ n. fronts_fine joined joins_found [] n (ap (λ (z : Found). z.refusal) all ∙ ap wrong_in few);
      holds = pending ∙ ap (λ (z : Cut). z.rest) (sym c);
      joiner = joiner ∙ ap (λ (z : Cut). joiner_after fresh z.items) (sym c);
      clear = ap (λ (z : Joiner). z.refusal) joiner;
      kept = kept;
      number = number ∙ ap (λ (z : Found). counted z.count) (sym all);
    }

-- the end ------------------------------------------------------------------------------------------------------------

pub joined_whole : (taker : Assembler) (refusal : Option Refusal) (bytes : List ℕ) → (taker.refusal ≡ None → taker.joiner.refusal ≡ None → refusal ≡ left_open (is_some taker.joiner.message || has_bytes taker.pending)) → HasJoined taker bytes
    → IsTaken joined taker.number refusal bytes
joined_whole taker refusal bytes last h =
    let c = cut next_fragment bytes in
    let all = joined-is bytes c refl in
    let clear : (joiner_after fresh c.items).refusal ≡ None = ap (λ (z : Joiner). z.refusal) (sym h.joiner) ∙ h.clear in
    let fine : (joined bytes).refusal ≡ None = ap (λ (z : Found). z.refusal) all ∙ ap (λ z. first_of z (wrong_in (next_fragment c.rest))) clear ∙ ap wrong_in h.waits in
    record {
      count = h.number;
      fine = fine;
      last =
          last h.kept h.clear
          ∙ ap (λ (z : Joiner). left_open (is_some z.message || has_bytes taker.pending)) h.joiner
          ∙ ap (λ z. left_open (is_some (joiner_after fresh c.items).message || has_bytes z)) h.holds
          ∙ ap (λ (z : Found). left_open z.is_open) (sym all)
          ∙ ap (λ z. first_of z (left_open (joined bytes).is_open)) (sym fine);
    }
