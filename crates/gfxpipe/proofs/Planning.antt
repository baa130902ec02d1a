-- Planning the steps of a script, frame by frame, as choosers choose.
use Rattle.std.proofs.Common.{◌≡◌, ℕ, ◌+◌, ◌-◌, ◌≤◌, ◌<◌, ◌==◌, Bool, true, false, cond, List, [], ◌∷◌, ◌++◌, length, take, drop, get_or, Option, Some, None, is_some, Ok, inl, inr, refl, sym, ap, ◌∙◌, subst, append_assoc, arith}
use Rattle.std.specs.List.{slice_get}
use Rattle.std.specs.Option.{option_map}
use Rattle.std.proofs.lemmas.Bool.{cases_lt}
use Rattle.std.proofs.lemmas.Bool.Decides.{nat_tests}
use Rattle.std.proofs.lemmas.List.{append-nil, take-append-drop, take_more, take_all, drop_more}
use Rattle.std.proofs.lemmas.Option.{slice_get_within, slice_get-get_or}
use Rattle.gfx_base.specs.Stream.{Gained, Change, change, Gains, GainsPart, FailsAfter}
use Rattle.gfx_base.proofs.Streams.{Gained_none, Gained-append, Gains_none, Gains-append, FailsAfter-append, FailsAfter_more}
use Rattle.gfx_chooser.specs.Choosing.{Chooser, AreAlike}
use Rattle.gfx_chooser.specs.Kinded.{GoesSo, Goes, Asks, kinded_steps, left_after, left_of}
use Rattle.gfx_chooser.proofs.Asking.{length-kinded, kinded_fit, asks_none, asks_on, asks_step, kinded_next, kinded_asked}
use Rattle.gfx_planner.specs.Server.{at_start}
use Rattle.gfx_planner.specs.Allowed.{IsAllowedStep, kinded_at}
use Rattle.gfx_planner.specs.Planned.{Planned, ready}
use Rattle.gfx_planner.specs.Stream.{stream, sends, served, end_after, stream_of, PutsInFrame}
use Rattle.gfx_planner.proofs.Fronts.{MayPut, may_put, end_after-one, stream_of-one}
use Rattle.gfx_planner.proofs.Streams.{stream-append}
use Rattle.gfx_schedule.specs.ServerEnd.{first_frame}
use Rattle.gfx_script.specs.Kinds.{KindedStep, Fits, as_kind}
use Rattle.gfx_script.specs.Script.{IsAccepted, step_at, is_frame}
use Rattle.gfx_script.specs.Scripted.{Script}
use Rattle.gfx_script.specs.declared.step.Kind.{Kind}
use Rattle.gfx_script.specs.declared.step.Step.{Step}
use Rattle.gfx_state.specs.Sending.{sent}
use Rattle.gfx_state.proofs.Sent.{sent-append}
use Rattle.gfxpipe.specs.Due.{stream_text}
use Rattle.gfxpipe.specs.Leaves.{AsksAhead}
use Rattle.gfxpipe.specs.Stream.{HasPut, MayGoOn, Plans, AsksWithin, steps_before, behind}

-- a step of a number --------------------------------------------------------------------------------

none_at : (steps : List Step) (n : ℕ) → n < length steps → slice_get steps n ≡ None → ⊥
none_at [] n below none = omega arith
none_at (x ∷ xs) n below none = let there = slice_get-get_or (x ∷ xs) n x below in absurd cc

not_zero : (number : ℕ) → (number == 0) ≡ false → 0 < number
not_zero number differ = grind (arith, nat_tests)

past_none : (number : ℕ) (o : Option Step) (step : Step) → cond (number == 0) None o ≡ Some step → (0 < number) × (o ≡ Some step)
past_none number o step e = by (number == 0) refl e
  where
    by : (b : Bool) → (number == 0) ≡ b → cond b None o ≡ Some step → (0 < number) × (o ≡ Some step)
    by true at f = absurd cc
    by false at f = (not_zero number at, f)

pub is_past : (steps : List Step) (number : ℕ) → 0 < number → step_at steps number ≡ None → length steps < number
is_past steps number some none =
    elim (cases_lt (number - 1) (length steps)) [
      | inl below ↦
          let differ : (number == 0) ≡ false = grind (arith, nat_tests) in
          let there : slice_get steps (number - 1) ≡ None = ap (λ b. cond b None (slice_get steps (number - 1))) (sym differ) ∙ none in
          absurd (none_at steps (number - 1) below there)
      | inr above ↦ omega arith
    ]

-- it is one of the steps
pub is_within : (steps : List Step) (number : ℕ) (step : Step) → step_at steps number ≡ Some step → (0 < number) × (number ≤ length steps)
is_within steps number step found =
    let f = past_none number (slice_get steps (number - 1)) step found in
    let below : number - 1 < length steps = slice_get_within steps (number - 1) step f.1 in
    let some : 0 < number = f.0 in (some, omega arith)

-- where it stands among the steps with their kinds, once choosers were asked of those before it and then of it
pub record IsAt (script : Script) (begun left : List Chooser) (number : ℕ) (one : KindedStep) : Type 0 where
  pub from : 0 < number
  pub within : number ≤ length script.steps
  pub here : drop (number - 1) (kinded_steps script begun) ≡ one ∷ drop number (kinded_steps script begun)
  pub front : take number (kinded_steps script begun) ≡ steps_before script begun number ++ one ∷ []
  pub asks : Asks script 0 number begun left

-- the first of what is left is the one step, so the rest is the rest
same_first : {X : Type 0} (a b : X) (xs ys : List X) → a ∷ xs ≡ b ∷ ys → a ≡ b
same_first a b xs ys e = cc

is_at : (script : Script) (begun now left : List Chooser) (number : ℕ) (step : Step) (kind : Option Kind) → step_at script.steps number ≡ Some step
    → Asks script 0 (number - 1) begun now → Goes script number (step_at script.steps number) kind now left → IsAt script begun left number (as_kind kind step)
is_at script begun now left number step kind found asks goes =
    let all = kinded_steps script begun in
    let at = number - 1 in
    let one = as_kind kind step in
    let w = is_within script.steps number step found in
    let some : 0 < number = w.0 in
    let most : number ≤ length script.steps = w.1 in
    let next : at + 1 ≡ number = omega arith in
    let found_next : step_at script.steps (at + 1) ≡ Some step = subst (λ n. step_at script.steps n ≡ Some step) (sym next) found in
    let goes_so : GoesSo script number step kind now left = subst (λ o. Goes script number o kind now left) found goes in
    let goes_next : GoesSo script (at + 1) step kind now left = subst (λ n. GoesSo script n step kind now left) (sym next) goes_so in
    let whole : at - 0 ≡ at = omega arith in
    let few : at ≤ length script.steps = omega arith in
    let rest = ap (λ n. drop n all) (sym whole) ∙ kinded_asked script 0 at begun now asks few ∙ kinded_next script at step kind now left found_next goes_next in
    let below : at < length all = omega (arith, length-kinded script 1 begun script.steps) in
    let more = drop_more all at one below in
    let it : get_or all at one ≡ one = same_first _ _ _ _ (sym more ∙ rest) in
    record {
      from = some;
      within = most;
      here = more ∙ (λ i. it i ∷ drop (next i) all);
      front = ap (λ n. take n all) (sym next) ∙ take_more all at one below ∙ ap (λ z. take at all ++ z ∷ []) it;
      asks = subst (λ n. Asks script 0 n begun left) next (asks_on script 0 at (at + 1) begun now left asks (asks_step script at step kind now left found_next goes_next));
    }

-- planning ------------------------------------------------------------------------------------------

-- how many steps of a frame are left behind so many
frame_left : Script → List Chooser → ℕ → ℕ
frame_left script begun number = length (first_frame (drop (number - 1) (kinded_steps script begun)))

-- the steps of a frame from its first number on, up to this one, are planned
pub record Planning (script : Script) (begun left : List Chooser) (first number : ℕ) (planned : Planned) (before now : List ℕ) : Type 0 where
  pub further : first ≤ number
  pub within : number ≤ length script.steps + 1
  pub frame : behind script begun first ≡ behind script begun number
  pub has_put : HasPut script number planned begun left
  pub bytes : List ℕ
  pub gained : now ≡ before ++ bytes
  pub due : stream_of script (steps_before script begun number) ≡ stream_of script (steps_before script begun first) ++ bytes

-- so whatever the choosers were at first
abbrev pub PlansOn : Script → ℕ → Planned → List Chooser → List Chooser → ℕ → Planned → List ℕ → List ℕ → Type 0
PlansOn script first begins mid left number planned before now =
    (begun : List Chooser) → HasPut script first begins begun mid → Planning script begun left first number planned before now

pub planning_none : (script : Script) (begun left : List Chooser) (first : ℕ) (planned : Planned) (before : List ℕ) → first ≤ length script.steps → HasPut script first planned begun left
    → Planning script begun left first first planned before before
planning_none script begun left first planned before there put = record {
  further = omega arith;
  within = omega arith;
  frame = refl;
  has_put = put;
  bytes = [];
  gained = sym (append-nil before);
  due = sym (append-nil (stream_of script (steps_before script begun first)));
}

-- what the planner needs to put the next step as the kind that was chosen
may_put_at : (script : Script) (begun left : List Chooser) (number : ℕ) (one : KindedStep) → IsAccepted script → IsAt script begun left number one
    → MayPut script (end_after script (steps_before script begun number)) one
may_put_at script begun left number one good place =
    let all = kinded_steps script begun in
    let front = steps_before script begun number in
    let rest = drop number all in
    let cut : all ≡ front ++ one ∷ rest = sym (take-append-drop (number - 1) all) ∙ ap (λ z. front ++ z) place.here in
    may_put script front one rest good (subst (λ z. Fits z script.steps) cut (kinded_fit script begun))

pub may_put_next : (script : Script) (begun now left : List Chooser) (number : ℕ) (planned : Planned) (step : Step) (kind : Option Kind) → IsAccepted script → step_at script.steps number ≡ Some step
    → HasPut script number planned begun now → Goes script number (step_at script.steps number) kind now left → MayPut script planned.server (as_kind kind step)
may_put_next script begun now left number planned step kind good found put goes =
    subst (λ (p : Planned). MayPut script p.server (as_kind kind step)) (sym put.planner)
    (may_put_at script begun left number (as_kind kind step) good (is_at script begun now left number step kind found put.asks goes))

-- the same, by the number of the step
pub allowed_next : (script : Script) (begun now left : List Chooser) (number : ℕ) (planned : Planned) (step : Step) (kind : Option Kind) → IsAccepted script → step_at script.steps number ≡ Some step
    → HasPut script number planned begun now → Goes script number (step_at script.steps number) kind now left → IsAllowedStep script planned.server (kinded_at script.steps number kind)
allowed_next script begun now left number planned step kind good found put goes =
    subst (λ z. IsAllowedStep script planned.server (option_map (as_kind kind) z)) (sym found)
    (may_put_next script begun now left number planned step kind good found put goes).allowed

-- the frame goes to behind its first step, or further
frame_from : (one : KindedStep) (more : List KindedStep) → 1 ≤ length (first_frame (one ∷ more))
frame_from one more = omega arith

-- the step of a number is in the frame that it is in
in_frame : (script : Script) (begun left : List Chooser) (number : ℕ) (one : KindedStep) → IsAt script begun left number one → number + 1 ≤ behind script begun number
in_frame script begun left number one place =
    let some : 1 ≤ length (first_frame (drop (number - 1) (kinded_steps script begun))) =
    subst (λ z. 1 ≤ length (first_frame z)) (sym place.here) (frame_from one (drop number (kinded_steps script begun))) in
    omega arith

-- and where it is no frame step, the frame goes on
frame_on : (one : KindedStep) (more : List KindedStep) → is_frame one.step ≡ false → length (first_frame (one ∷ more)) ≡ 1 + length (first_frame more)
frame_on one more other = ap (λ b. length (one ∷ cond b [] (first_frame more))) other ∙ omega arith

goes_on : (script : Script) (begun left : List Chooser) (number : ℕ) (one : KindedStep) → IsAt script begun left number one → is_frame one.step ≡ false
    → behind script begun number ≡ behind script begun (number + 1)
goes_on script begun left number one place other =
    let all = kinded_steps script begun in
    let next : number + 1 - 1 ≡ number = omega arith in
    let here : length (first_frame (drop (number - 1) all)) ≡ 1 + length (first_frame (drop number all)) = ap (λ z. length (first_frame z)) place.here ∙ frame_on one (drop number all) other in
    let then : length (first_frame (drop (number + 1 - 1) all)) ≡ length (first_frame (drop number all)) = ap (λ n. length (first_frame (drop n all))) next in
    omega arith

-- a step was put
pub plans_more : (script : Script) (begun mid left : List Chooser) (first number : ℕ) (old new : Planned) (before between now : List ℕ) (step : Step) (kind : Option Kind)
    → Planning script begun mid first number old before between → step_at script.steps number ≡ Some step → Goes script number (step_at script.steps number) kind mid left
    → PutsInFrame script (Ok tt) old.server new between now (kinded_at script.steps number kind) → Plans script begun left first (number + 1) new before now
plans_more script begun mid left first number old new before between now step kind p found goes put =
    let place = is_at script begun mid left number step kind found p.has_put.asks goes in
    let front = steps_before script begun number in
    let server = end_after script front in
    let one = as_kind kind step in
    let is = p.has_put.planner in
    let did = subst (λ o. PutsInFrame script (Ok tt) old.server new between now (option_map (as_kind kind) o)) found put in
    let next : number + 1 - 1 ≡ number = omega arith in
    let grown : steps_before script begun (number + 1) ≡ front ++ one ∷ [] = ap (λ n. take n (kinded_steps script begun)) next ∙ place.front in
    record {
      further = let low = p.further in omega arith;
      within = let all = place.within in omega arith;
      frame = subst (λ n. number + 1 ≤ n) (sym p.frame) (in_frame script begun left number one place);
      has_put = record {
        planner = did.0 ∙ ap (λ z. ready (served script z.server one)) is ∙ ap ready (sym (end_after-one script front one) ∙ ap (end_after script) (sym grown));
        asks = subst (λ n. Asks script 0 n begun left) (sym next) place.asks;
      };
      bytes = p.bytes ++ sent (sends script server one);
      gained = did.1 ∙ (λ i. p.gained i ++ sent (sends script ((is i).server) one)) ∙ append_assoc before p.bytes (sent (sends script server one));
      due = ap (stream_of script) grown ∙ stream_of-one script front one ∙ ap (λ z. z ++ sent (sends script server one)) p.due
          ∙ append_assoc (stream_of script (steps_before script begun first)) p.bytes (sent (sends script server one));
    }

-- and the frame goes on
pub planning_more : (script : Script) (begun mid left : List Chooser) (first number : ℕ) (old new : Planned) (before between now : List ℕ) (step : Step) (kind : Option Kind)
    → Planning script begun mid first number old before between → step_at script.steps number ≡ Some step → Goes script number (step_at script.steps number) kind mid left
    → PutsInFrame script (Ok tt) old.server new between now (kinded_at script.steps number kind) → is_frame step ≡ false → Planning script begun left first (number + 1) new before now
planning_more script begun mid left first number old new before between now step kind p found goes put other =
    let place = is_at script begun mid left number step kind found p.has_put.asks goes in
    let more = plans_more script begun mid left first number old new before between now step kind p found goes put in
    record {
      further = let low = more.further in omega arith;
      within = more.within;
      frame = p.frame ∙ goes_on script begun left number (as_kind kind step) place other;
      has_put = more.has_put;
      bytes = more.bytes;
      gained = more.gained;
      due = more.due;
    }

-- no step is left
pub planned_to : (script : Script) (begun left : List Chooser) (first number : ℕ) (planned : Planned) (before now : List ℕ) → Planning script begun left first number planned before now → first < number
    → Plans script begun left first number planned before now
planned_to script begun left first number planned before now p further = record {
  further = further;
  within = p.within;
  frame = subst (λ n. number ≤ n) (sym p.frame) (omega arith);
  has_put = p.has_put;
  bytes = p.bytes;
  gained = p.gained;
  due = p.due;
}

-- no memory is left to put the step that choosers were asked of
pub asked_within : (script : Script) (begun mid left : List Chooser) (first number : ℕ) (planned : Planned) (before now : List ℕ) (step : Step) (kind : Option Kind)
    → Planning script begun mid first number planned before now → step_at script.steps number ≡ Some step → Goes script number (step_at script.steps number) kind mid left → AsksWithin script begun left first
asked_within script begun mid left first number planned before now step kind p found goes =
    let place = is_at script begun mid left number step kind found p.has_put.asks goes in
    record { asked = number; asks = place.asks; near = subst (λ n. number + 1 ≤ n) (sym p.frame) (in_frame script begun left number (as_kind kind step) place) }

-- writing -------------------------------------------------------------------------------------------

-- the stream of the steps before a number is written
pub record Streaming (script : Script) (begun left : List Chooser) (next : ℕ) (planned : Planned) (frame : List ℕ) (o : Change) : Type 0 where
  pub from : 1 ≤ next
  pub within : next ≤ length script.steps + 1
  pub has_put : HasPut script next planned begun left
  pub empty : frame ≡ []
  pub gains : Gains o (stream_of script (steps_before script begun next))

pub streaming_none : (script : Script) (choosers : List Chooser) (m : ℕ) (held : Option (List ℕ)) → Streaming script choosers choosers 1 (ready (at_start script.small)) [] (change m m held held)
unfolding stream sent
streaming_none script choosers m held = record {
  from = omega arith;
  within = omega arith;
  has_put = record { planner = refl; asks = asks_none script 0 choosers };
  empty = refl;
  gains = Gains_none m held;
}

-- a planner that has put the steps before a number may go on
pub may_go_on : (script : Script) (begun left : List Chooser) (next : ℕ) (planned : Planned) (frame : List ℕ) (o : Change) → Streaming script begun left next planned frame o → MayGoOn script next planned left
may_go_on script begun left next planned frame o s = record { choosers = begun; has_put = s.has_put }

-- the stream of a front, and what follows
due_behind : (script : Script) (begun : List Chooser) (k : ℕ) → stream_text begun script
    ≡ stream_of script (take k (kinded_steps script begun)) ++ sent (stream script (end_after script (take k (kinded_steps script begun))) (drop k (kinded_steps script begun)))
due_behind script begun k =
    let start = at_start script.small in
    let all = kinded_steps script begun in
    ap (stream_of script) (sym (take-append-drop k all)) ∙ ap sent (stream-append script start (take k all) (drop k all))
    ∙ sent-append (stream script start (take k all)) (stream script (end_after script (take k all)) (drop k all))

-- a frame was planned and written
pub streaming_more : (script : Script) (begun mid left : List Chooser) (next further : ℕ) (old new : Planned) (frame bytes : List ℕ) (x y z : ℕ) (a b d : Option (List ℕ))
    → Streaming script begun mid next old frame (change x y a b) → Plans script begun left next further new frame bytes → Gains (change y z b d) bytes
    → Streaming script begun left further new [] (change x z a d)
streaming_more script begun mid left next further old new frame bytes x y z a b d s p g =
    let wrote : bytes ≡ p.bytes = p.gained ∙ ap (λ f. f ++ p.bytes) s.empty in
    record {
      from = let up = p.further in let low = s.from in omega arith;
      within = p.within;
      has_put = p.has_put;
      empty = refl;
      gains = subst (Gains (change x z a d)) (sym p.due)
          (Gains-append x y z a b d (stream_of script (steps_before script begun next)) p.bytes s.gains (subst (Gains (change y z b d)) wrote g));
    }

-- a frame was planned, and could not be written whole
frame_fails : (script : Script) (begun mid left : List Chooser) (next further : ℕ) (old new : Planned) (frame bytes : List ℕ) (x y z : ℕ) (a b d : Option (List ℕ))
    → Streaming script begun mid next old frame (change x y a b) → Plans script begun left next further new frame bytes → FailsAfter (change y z b d) bytes
    → FailsAfter (change x z a d) (stream_text begun script)
frame_fails script begun mid left next further old new frame bytes x y z a b d s p f =
    let wrote : bytes ≡ p.bytes = p.gained ∙ ap (λ h. h ++ p.bytes) s.empty in
    let front : FailsAfter (change x z a d) (stream_of script (steps_before script begun further)) = subst (FailsAfter (change x z a d)) (sym p.due)
    (FailsAfter-append x y z a b d (stream_of script (steps_before script begun next)) p.bytes s.gains (subst (FailsAfter (change y z b d)) wrote f)) in
    subst (FailsAfter (change x z a d)) (sym (due_behind script begun (further - 1)))
    (FailsAfter_more (change x z a d) (stream_of script (steps_before script begun further))
    (sent (stream script (end_after script (steps_before script begun further)) (drop (further - 1) (kinded_steps script begun)))) front)

pub streaming_fails : (script : Script) (begun mid left : List Chooser) (next further : ℕ) (old new : Planned) (frame bytes : List ℕ) (x y z : ℕ) (a b d : Option (List ℕ))
    → Streaming script begun mid next old frame (change x y a b) → Plans script begun left next further new frame bytes → FailsAfter (change y z b d) bytes
    → FailsAfter (change x z a d) (stream_text begun script) × AsksAhead script begun left (change x z a d)
streaming_fails script begun mid left next further old new frame bytes x y z a b d s p f = (
  frame_fails script begun mid left next further old new frame bytes x y z a b d s p f,
  record {
    written = next - 1;
    part = f.part.sent;
    gained = Gained-append a (stream_of script (steps_before script begun next)) b f.part.sent d s.gains.gained f.part.gained;
    asked = further - 1;
    asks = p.has_put.asks;
    near = let low : 1 ≤ next = s.from in let most : further ≤ behind script begun next = p.frame in omega arith;
  },
)

-- no memory is left for the next frame
pub streaming_starved : (script : Script) (begun mid left : List Chooser) (next : ℕ) (old : Planned) (frame : List ℕ) (o : Change) → Streaming script begun mid next old frame o → AsksWithin script begun left next
    → (o.now ≡ o.before) × GainsPart o (stream_text begun script) × AsksAhead script begun left o
streaming_starved script begun mid left next old frame o s within = (
  s.gains.count,
  record {
    sent = stream_of script (steps_before script begun next);
    rest = sent (stream script (end_after script (steps_before script begun next)) (drop (next - 1) (kinded_steps script begun)));
    cut = due_behind script begun (next - 1);
    gained = s.gains.gained;
  },
  record {
    written = next - 1;
    part = [];
    gained = subst (λ z. Gained o.old z o.new) (sym (append-nil (stream_of script (steps_before script begun next)))) s.gains.gained;
    asked = within.asked;
    asks = within.asks;
    near = let low : 1 ≤ next = s.from in let most : within.asked + 1 ≤ behind script begun next = within.near in omega arith;
  },
)

-- all steps were asked of
pub asked_all : (script : Script) (begun left : List Chooser) (count : ℕ) → length script.steps ≤ count → Asks script 0 count begun left → AreAlike left (left_of script begun)
asked_all script begun left count all asks =
    let few : length script.steps ≤ count - 0 = omega arith in
    subst (λ steps. AreAlike left (left_after script 1 begun steps)) (take_all (count - 0) script.steps few) asks.left

-- all frames are written
pub streaming_ends : (script : Script) (begun left : List Chooser) (next : ℕ) (old : Planned) (frame : List ℕ) (o : Change) → Streaming script begun left next old frame o → step_at script.steps next ≡ None
    → Gains o (stream_text begun script) × AreAlike left (left_of script begun)
streaming_ends script begun left next old frame o s none =
    let past = is_past script.steps next s.from none in
    let all = kinded_steps script begun in (
      subst (λ z. Gains o (stream_of script z)) (take_all (next - 1) all (omega (arith, length-kinded script 1 begun script.steps))) s.gains,
      asked_all script begun left (next - 1) (omega arith) s.has_put.asks,
    )

-- nothing was asked and nothing written
pub asks_nothing : (script : Script) (choosers : List Chooser) (m : ℕ) (held : Option (List ℕ)) → AsksAhead script choosers choosers (change m m held held)
unfolding stream sent
asks_nothing script choosers m held = record {
  written = 0;
  part = [];
  gained = Gained_none held;
  asked = 0;
  asks = asks_none script 0 choosers;
  near = omega arith;
}

-- no planner can be made
pub not_planned : (script : Script) (choosers : List Chooser) (m : ℕ) (held : Option (List ℕ))
    → (m ≡ m) × GainsPart (change m m held held) (stream_text choosers script) × AsksAhead script choosers choosers (change m m held held)
not_planned script choosers m held =
    (refl, record { sent = []; rest = stream_text choosers script; cut = refl; gained = Gained_none held }, asks_nothing script choosers m held)

-- a step that is there
pub is_there : (steps : List Step) (number : ℕ) → is_some (step_at steps number) ≡ true → number ≤ length steps
is_there steps number some = by (step_at steps number) refl some
  where
    by : (o : Option Step) → step_at steps number ≡ o → is_some o ≡ true → number ≤ length steps
    by None e there = absurd cc
    by (Some step) e there = (is_within steps number step e).1

pub is_absent : {X : Type 0} (o : Option X) → is_some o ≡ false → o ≡ None
is_absent None e = refl
is_absent (Some x) e = absurd cc
