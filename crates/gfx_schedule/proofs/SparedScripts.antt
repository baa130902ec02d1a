-- A script that has forgotten steps that were sent, and pixels of what is left out, serves as the whole one, and does so still
-- when the session goes on, when both grow, and when it forgets more.
use Rattle.std.proofs.Common.{◌≡◌, ℕ, zero, suc, ◌+◌, ◌-◌, ◌≤◌, ◌<◌, ◌==◌, Bool, true, false, ◌&&◌, ◌||◌, cond, List, [], ◌∷◌, ◌++◌, drop, length, replicate, Option, Some, None, inl, refl, sym, ap, ◌∙◌, subst, arith, length-append}
use Rattle.std.specs.List.{AllByRecursion, list_all, slice_get}
use Rattle.std.specs.Option.{IfSome, option_map}
use Rattle.std.proofs.lemmas.List.{drop-append-le, drop_all, length-replicate}
use Rattle.gfx_script.specs.Checks.{Held}
use Rattle.gfx_script.specs.Drafts.{sides_of}
use Rattle.gfx_script.specs.Forgetting.{PaintsFrom, blank, forgotten}
use Rattle.gfx_script.specs.Kinds.{KindedStep}
use Rattle.gfx_script.specs.Script.{step_at}
use Rattle.gfx_script.specs.Scripted.{Script}
use Rattle.gfx_script.specs.Sparing.{Marks, keeps, spared, spared_from}
use Rattle.gfx_script.specs.Writes.{Area}
use Rattle.gfx_script.specs.declared.picture.Picture.{Picture}
use Rattle.gfx_script.specs.declared.step.Step.{Step}
use Rattle.gfx_script.specs.declared.step.Step.TheVariants.{Surface, Delete, Reset, Map, Fill, Copy, Keep, Show, Forget, Paint, Improve, Frame}
use Rattle.gfx_script.proofs.MoreSteps.{get_before}
use Rattle.gfx_script.proofs.SparedLemmas.{marked_keeps, marked_still, spared_accepted, spared_count, spared_drawn, spared_keeps, spared_sides, spared_sides_at}
use Rattle.gfx_planner.specs.Agree.{Agree}
use Rattle.gfx_planner.specs.Holds.{Holds}
use Rattle.gfx_planner.specs.Joined.{after_frame}
use Rattle.gfx_planner.specs.Server.{Server}
use Rattle.gfx_planner.proofs.Lists.{all_both}
use Rattle.gfx_planner.proofs.Streams.{bare}
use Rattle.gfx_window.specs.Sparing.{items_marked, step_marked, surely_sent}
use Rattle.gfx_window.specs.Superseded.{plain_area, stands_aside, covers, is_covered, is_left_out}
use Rattle.gfx_window.specs.declared.window.Queued.{Queued}
use Rattle.gfx_schedule.specs.Feeding.{grown}
use Rattle.gfx_schedule.specs.Forgetting.{IsBehind, Sees, ServesAlike}
use Rattle.gfx_schedule.specs.Hearing.{hears}
use Rattle.gfx_schedule.specs.Leaving.{AreAmong, kept}
use Rattle.gfx_schedule.specs.ServerEnd.{ScheduledEnd, can_send, due, first_frame, numbered, queued, sends, with_sent}
use Rattle.gfx_schedule.specs.Sparing.{AllIsForgotten, HasSides, LeftOutStaysSo, PaintsWithin, SeesAt, SparedGrows, SparedServesAlike, SparedStaysSo, Spares, SparingIsPlanned, WaitingIsSpared}
use Rattle.gfx_schedule.proofs.FeedingScripts.{AgreesAt, LooksAt, bytes_by, kept_same, other, sees_all_at, sends_by, want_same}
use Rattle.gfx_schedule.proofs.FeedingTurns.{got, step_by}
use Rattle.gfx_schedule.proofs.ForgottenScripts.{items_behind, numbers_behind, queued_behind, step_behind}
use Rattle.gfx_schedule.proofs.LeavingItems.{all_among, among-more, only_leaves}
use Rattle.gfx_schedule.proofs.Unheard.{hears_by, hears_pending}
use Rattle.gfx_schedule.proofs.Unseen.{hears_keeps}

-- more is queued -----------------------------------------------------------------------------------------------------

goes_on : (a b c d : Bool) → (a || (b && c)) ≡ true → (c ≡ true → d ≡ true) → (a || (b && d)) ≡ true
goes_on true b c d e f = refl
goes_on false true c d e f = f e
goes_on false false c d e f = absurd cc

covered_on : (script : Script) (written : Area) (items more : List Queued) → is_covered script written items ≡ true → is_covered script written (items ++ more) ≡ true
unfolding is_covered
covered_on script written [] more e = absurd cc
covered_on script written (item ∷ items) more e =
    goes_on (covers written (plain_area script item)) (stands_aside script item) (is_covered script written items) (is_covered script written (items ++ more)) e (covered_on script written items more)

left_out_on : (script : Script) (written : Option Area) (items more : List Queued) → is_left_out script written items ≡ true → is_left_out script written (items ++ more) ≡ true
left_out_on script None items more e = absurd cc
left_out_on script (Some written) items more e = covered_on script written items more e

among_where : (now then : Bool) (item : Queued) (some all : List Queued) → (now ≡ true → then ≡ true) → AreAmong some all → AreAmong (cond then some (item ∷ some)) (cond now all (item ∷ all))
among_where true true item some all goes among = among
among_where true false item some all goes among = let wrong : false ≡ true = goes refl in absurd cc
among_where false true item some all goes among = among-more some all item among
among_where false false item some all goes among = inl (refl, among)

more_behind : (b : Bool) (item : Queued) (front more : List Queued) → cond b (front ++ more) (item ∷ (front ++ more)) ≡ cond b front (item ∷ front) ++ more
more_behind true item front more = refl
more_behind false item front more = refl

pub left_out_stays_so : LeftOutStaysSo
unfolding kept
left_out_stays_so script [] more = (only_leaves script more).0
left_out_stays_so script (item ∷ items) more =
    let now : Bool = is_left_out script (plain_area script item) items in
    subst (AreAmong (kept script (item ∷ (items ++ more)))) (more_behind now item (kept script items) more)
    (among_where now (is_left_out script (plain_area script item) (items ++ more)) item (kept script (items ++ more)) (kept script items ++ more)
    (left_out_on script (plain_area script item) items more) (left_out_stays_so script items more))

-- a turn -------------------------------------------------------------------------------------------------------------

pub later : {X : Type 0} (P : X → Type 0) (few more : ℕ) (xs : List X) → few ≤ more → AllByRecursion P (drop few xs) → AllByRecursion P (drop more xs)
later P zero zero xs le all = all
later P few more [] le all = nothing P more
  where
    nothing : {X : Type 0} (P : X → Type 0) (n : ℕ) → AllByRecursion P (drop n [])
    nothing P zero = tt
    nothing P (suc n) = tt
later P zero (suc more) (x ∷ xs) le all = later P zero more xs (omega arith) all.1
later P (suc few) zero (x ∷ xs) le all = absurd (omega (arith, le))
later P (suc few) (suc more) (x ∷ xs) le all = later P few more xs (omega (arith, le)) all

-- what is kept of what waits when the next script frame is queued has the same pictures too
queued_sees : (over : ℕ) (whole own : Script) (end : ScheduledEnd) → Spares over whole own end → AllByRecursion (SeesAt whole own.pictures) (kept whole (queued end).window.pending)
unfolding queued
queued_sees over whole own end spares =
    let new : List Queued = numbered (end.last + 1) (first_frame end.left) in
    let agree : AllByRecursion (AgreesAt whole own.pictures whole.steps) new =
    items_behind (Sees whole.pictures own.pictures) end.last whole.steps whole.steps refl spares.left new (numbers_behind end.last (end.last + 1) (first_frame end.left) (omega arith)) in
    all_among (SeesAt whole own.pictures) (kept whole (end.window.pending ++ new)) (kept whole end.window.pending ++ new) (left_out_stays_so whole end.window.pending new)
    (all_both (SeesAt whole own.pictures) (kept whole end.window.pending) new spares.waits (sees_all_at whole own.pictures whole.steps new agree))

looks_at : (over : ℕ) (whole own : Script) (end : ScheduledEnd) → Spares over whole own end → IsBehind over end → AllByRecursion (LooksAt whole own.pictures own.steps) end.window.pending
looks_at over whole own end spares behind = items_behind (HasSides whole.pictures own.pictures) over whole.steps own.steps spares.steps spares.sides end.window.pending behind.items

pub spared_serves_alike : SparedServesAlike
spared_serves_alike over whole own end spares behind =
    let looks : AllByRecursion (LooksAt whole own.pictures own.steps) (queued end).window.pending =
    items_behind (HasSides whole.pictures own.pictures) over whole.steps own.steps spares.steps spares.sides (queued end).window.pending (queued_behind over end behind).items in
    let seen = queued_sees over whole own end spares in
    subst (λ z. ServesAlike whole z end) (sym spares.others) record {
      serves = sends_by whole own.pictures own.steps (queued end) looks seen;
      serving = bytes_by whole own.pictures own.steps (queued end) looks seen;
      hears = hears_by whole own.pictures own.steps;
    }

-- where other steps wait, and others are left
spares_then : (over : ℕ) (whole own : Script) (end then : ScheduledEnd) → Spares over whole own end → AllByRecursion (SeesAt whole own.pictures) (kept whole then.window.pending) → end.last ≤ then.last → Spares over whole own then
spares_then over whole own end then spares waits le = record {
  others = spares.others;
  steps = spares.steps;
  sides = spares.sides;
  waits = waits;
  left = later (Sees whole.pictures own.pictures) end.last then.last whole.steps le spares.left;
  step_count = spares.step_count;
  picture_count = spares.picture_count;
}

none_waits : (whole own : Script) → AllByRecursion (SeesAt whole own.pictures) (kept whole [])
unfolding kept
none_waits whole own = tt

either_spares : (over : ℕ) (whole own : Script) (b : Bool) (x y : ScheduledEnd) → Spares over whole own x → Spares over whole own y → Spares over whole own (cond b x y)
either_spares over whole own true x y first second = first
either_spares over whole own false x y first second = second

queued_spares : (over : ℕ) (whole own : Script) (end : ScheduledEnd) → Spares over whole own end → Spares over whole own (queued end)
unfolding queued
queued_spares over whole own end spares = spares_then over whole own end (queued end) spares (queued_sees over whole own end spares) (omega arith)

sends_spares : (over : ℕ) (whole own : Script) (end : ScheduledEnd) → Spares over whole own end → Spares over whole own (sends whole end)
unfolding sends with_sent
sends_spares over whole own end spares =
    let then : ScheduledEnd = with_sent end (after_frame whole end.server (due whole end)) in
    either_spares over whole own (can_send end) then end (spares_then over whole own end then spares (none_waits whole own) (omega arith)) spares

pub spared_stays_so : SparedStaysSo
spared_stays_so over whole own = record {
  serves = λ end spares. sends_spares over whole own (queued end) (queued_spares over whole own end spares);
  hears = λ heard bytes spares.
      spares_then over whole own heard.end (hears whole heard bytes).end spares
      (subst (λ items. AllByRecursion (SeesAt whole own.pictures) (kept whole items)) (sym (hears_pending whole heard bytes)) spares.waits)
      (omega (arith, (hears_keeps whole heard bytes).1));
}

-- both grow ----------------------------------------------------------------------------------------------------------

-- where two lists have as many, and the same at a place if it lies within them, so they have with more behind them
get_grown : {X : Type 0} (xs ys more : List X) (n : ℕ) → length ys ≡ length xs → (n < length xs → slice_get ys n ≡ slice_get xs n) → slice_get (ys ++ more) n ≡ slice_get (xs ++ more) n
get_grown [] [] more n long same = refl
get_grown [] (y ∷ ys) more n long same = absurd (omega (arith, long))
get_grown (x ∷ xs) [] more n long same = absurd (omega (arith, long))
get_grown (x ∷ xs) (y ∷ ys) more zero long same = same (omega arith)
get_grown (x ∷ xs) (y ∷ ys) more (suc n) long same = get_grown xs ys more n (omega (arith, long)) (λ lt. same (omega (arith, lt)))

sees_grown : (some others more : List Picture) (step : Step) → length others ≡ length some → Sees some others step → Sees (some ++ more) (others ++ more) step
sees_grown some others more (Paint id picture at named glyph) long sees = get_grown some others more picture long (λ lt. sees)
sees_grown some others more step long sees = tt

sees_new : (some others more : List Picture) (step : Step) → length others ≡ length some → PaintsFrom (length some) step → Sees (some ++ more) (others ++ more) step
sees_new some others more (Paint id picture at named glyph) long from = get_grown some others more picture long (λ lt. absurd (omega (arith, from, lt)))
sees_new some others more step long from = tt

all_grown : (P : Step → Type 0) (some others more : List Picture) (steps : List Step) → ((step : Step) → P step → Sees (some ++ more) (others ++ more) step) → AllByRecursion P steps
    → AllByRecursion (Sees (some ++ more) (others ++ more)) steps
all_grown P some others more [] each all = tt
all_grown P some others more (step ∷ steps) each all = (each step all.0, all_grown P some others more steps each all.1)

-- the sides of pictures
sides_by : (some others : List Picture) (step : Step) → Sees some others step → HasSides some others step
sides_by some others (Paint id picture at named glyph) sees = ap (option_map sides_of) sees
sides_by some others step sees = tt

sides_grown : (some others more : List Picture) (step : Step) → PaintsWithin (length some) step → length others ≡ length some → HasSides some others step → HasSides (some ++ more) (others ++ more) step
sides_grown some others more (Paint id picture at named glyph) within long sides =
    ap (option_map sides_of) (get_before others more picture (omega (arith, within, long))) ∙ sides ∙ ap (option_map sides_of) (sym (get_before some more picture within))
sides_grown some others more step within long sides = tt

all_sides : (some others more : List Picture) (steps : List Step) → length others ≡ length some → AllByRecursion (PaintsWithin (length some)) steps → AllByRecursion (HasSides some others) steps
    → AllByRecursion (HasSides (some ++ more) (others ++ more)) steps
all_sides some others more [] long within all = tt
all_sides some others more (step ∷ steps) long within all = (sides_grown some others more step within.0 long all.0, all_sides some others more steps long within.1 all.1)

new_sides : (some others more : List Picture) (steps : List Step) → AllByRecursion (Sees (some ++ more) (others ++ more)) steps → AllByRecursion (HasSides (some ++ more) (others ++ more)) steps
new_sides some others more [] all = tt
new_sides some others more (step ∷ steps) all = (sides_by (some ++ more) (others ++ more) step all.0, new_sides some others more steps all.1)

-- of a longer list of the same pictures
own_sides : (pictures more : List Picture) (step : Step) → PaintsWithin (length pictures) step → HasSides pictures (pictures ++ more) step
own_sides pictures more (Paint id picture at named glyph) within = ap (option_map sides_of) (get_before pictures more picture within)
own_sides pictures more step within = tt

own_sides_all : (pictures more : List Picture) (steps : List Step) → AllByRecursion (PaintsWithin (length pictures)) steps → AllByRecursion (HasSides pictures (pictures ++ more)) steps
own_sides_all pictures more [] all = tt
own_sides_all pictures more (step ∷ steps) all = (own_sides pictures more step all.0, own_sides_all pictures more steps all.1)

step_before : (steps more : List Step) (number : ℕ) → number ≤ length steps → step_at (steps ++ more) number ≡ step_at steps number
step_before steps more number le = step_by steps more number (number == 0) refl le

-- what waits is kept as it was, when its steps have more behind them
looks_longer : (over : ℕ) (pictures : List Picture) (P : Step → Type 0) (steps more : List Step) (items : List Queued) → AllByRecursion P (drop over steps)
    → AllByRecursion (λ (item : Queued). over < item.step) items → AllByRecursion (λ (item : Queued). item.step ≤ length steps) items
    → AllByRecursion (λ (item : Queued). (step_at (steps ++ more) item.step ≡ step_at steps item.step) × IfSome (step_at steps item.step) P) items
looks_longer over pictures P steps more [] all behind within = tt
looks_longer over pictures P steps more (item ∷ items) all behind within = (
  (
    step_before steps more item.step within.0,
    subst (λ z. IfSome z P) (sym (step_behind steps over item.step behind.0)) (got P (drop over steps) (item.step - 1 - over) all),
  ),
  looks_longer over pictures P steps more items all behind.1 within.1,
)

sees_longer : (whole : Script) (others more : List Picture) (steps : List Step) (items : List Queued) → length others ≡ length whole.pictures → AllByRecursion (λ (item : Queued). item.step ≤ length whole.steps) items
    → AllByRecursion (SeesAt whole others) items → AllByRecursion (SeesAt (other whole (whole.pictures ++ more) (whole.steps ++ steps)) (others ++ more)) items
sees_longer whole others more steps [] long within all = tt
sees_longer whole others more steps (item ∷ items) long within all = (
  subst (λ z. IfSome z (Sees (whole.pictures ++ more) (others ++ more))) (sym (step_before whole.steps steps item.step within.0)) (if_seen (step_at whole.steps item.step) all.0),
  sees_longer whole others more steps items long within.1 all.1,
)
  where
    if_seen : (step : Option Step) → IfSome step (Sees whole.pictures others) → IfSome step (Sees (whole.pictures ++ more) (others ++ more))
    if_seen None sees = tt
    if_seen (Some step) sees = sees_grown whole.pictures others more step long sees

pub spared_grows : SparedGrows
spared_grows over whole own end pictures more spares behind of fresh =
    let long : length own.pictures ≡ length whole.pictures = spares.picture_count in
    let within : over ≤ length whole.steps = omega (arith, behind.last, of.last) in
    let whole_is : drop over (whole.steps ++ bare more) ≡ drop over whole.steps ++ bare more = drop-append-le over whole.steps (bare more) within in
    let own_is : drop over (own.steps ++ bare more) ≡ drop over own.steps ++ bare more = drop-append-le over own.steps (bare more) (omega (arith, within, spares.step_count)) in
    let left_is : drop end.last (whole.steps ++ bare more) ≡ drop end.last whole.steps ++ bare more = drop-append-le end.last whole.steps (bare more) of.last in
    let new : AllByRecursion (Sees (whole.pictures ++ pictures) (own.pictures ++ pictures)) (bare more) =
    all_grown (PaintsFrom (length whole.pictures)) whole.pictures own.pictures pictures (bare more) (λ step. sees_new whole.pictures own.pictures pictures step long) fresh in
    let looks : AllByRecursion (LooksAt whole (whole.pictures ++ pictures) (whole.steps ++ bare more)) end.window.pending =
    looks_longer over pictures (HasSides whole.pictures (whole.pictures ++ pictures)) whole.steps (bare more) end.window.pending (own_sides_all whole.pictures pictures (drop over whole.steps) of.paints) behind.items of.items in
    let same : kept (grown whole pictures more) end.window.pending ≡ kept whole end.window.pending = kept_same whole (whole.pictures ++ pictures) (whole.steps ++ bare more) end.window.pending looks in
    record {
      others = ap (λ z. other z (own.pictures ++ pictures) (own.steps ++ bare more)) spares.others;
      steps = own_is ∙ ap (λ z. z ++ bare more) spares.steps ∙ sym whole_is;
      sides =
          subst (AllByRecursion (HasSides (whole.pictures ++ pictures) (own.pictures ++ pictures))) (sym whole_is)
          (
          all_both (HasSides (whole.pictures ++ pictures) (own.pictures ++ pictures)) (drop over whole.steps) (bare more)
          (all_sides whole.pictures own.pictures pictures (drop over whole.steps) long of.paints spares.sides) (new_sides whole.pictures own.pictures pictures (bare more) new)
          );
      waits =
          subst (AllByRecursion (SeesAt (grown whole pictures more) (own.pictures ++ pictures))) (sym same)
          (
          sees_longer whole own.pictures pictures (bare more) (kept whole end.window.pending) long
          (all_among (λ (item : Queued). item.step ≤ length whole.steps) (kept whole end.window.pending) end.window.pending (only_leaves whole end.window.pending).0 of.items) spares.waits
          );
      left =
          subst (AllByRecursion (Sees (whole.pictures ++ pictures) (own.pictures ++ pictures))) (sym left_is)
          (
          all_both (Sees (whole.pictures ++ pictures) (own.pictures ++ pictures)) (drop end.last whole.steps) (bare more)
          (
          all_grown (Sees whole.pictures own.pictures) whole.pictures own.pictures pictures (drop end.last whole.steps)
          (λ step. sees_grown whole.pictures own.pictures pictures step long) spares.left
          )
          new
          );
      step_count = omega (arith, spares.step_count, length-append own.steps (bare more), length-append whole.steps (bare more));
      picture_count = omega (arith, long, length-append own.pictures pictures, length-append whole.pictures pictures);
    }

-- all is forgotten ---------------------------------------------------------------------------------------------------

pub all_is_forgotten : AllIsForgotten
all_is_forgotten over whole own end spares none all =
    let gone : drop end.last whole.steps ≡ [] = drop_all end.last whole.steps all in
    let steps : length (replicate (length own.steps) Frame) ≡ length whole.steps = length-replicate (length own.steps) Frame ∙ spares.step_count in
    let pictures : List Picture = replicate (length own.pictures) blank in
    record {
      others = ap (λ z. other z pictures (replicate (length own.steps) Frame)) spares.others;
      steps = drop_all end.last (replicate (length own.steps) Frame) (omega (arith, steps, all)) ∙ sym gone;
      sides = subst (AllByRecursion (HasSides whole.pictures pictures)) (sym gone) tt;
      waits = subst (λ items. AllByRecursion (SeesAt whole pictures) (kept whole items)) (sym none) (none_waits whole (forgotten own));
      left = subst (AllByRecursion (Sees whole.pictures pictures)) (sym gone) tt;
      step_count = steps;
      picture_count = length-replicate (length own.pictures) blank ∙ spares.picture_count;
    }

-- pixels of what waits are forgotten -----------------------------------------------------------------------------------

-- what is covered by the newest items is covered when others stand aside before them
covered_behind : (script : Script) (written : Area) (older newest : List Queued) → (list_all (stands_aside script) older && is_covered script written newest) ≡ true → is_covered script written (older ++ newest) ≡ true
unfolding is_covered
covered_behind script written [] newest both = both
covered_behind script written (item ∷ older) newest both =
    aside (covers written (plain_area script item)) (stands_aside script item) (list_all (stands_aside script) older) (is_covered script written newest) (is_covered script written (older ++ newest)) both
    (covered_behind script written older newest)
  where
    aside : (a b c d e : Bool) → ((b && c) && d) ≡ true → ((c && d) ≡ true → e ≡ true) → (a || (b && e)) ≡ true
    aside true b c d e both rest = refl
    aside false true c d e both rest = rest both
    aside false false c d e both rest = absurd cc

left_out_behind : (script : Script) (written : Option Area) (older newest : List Queued) → (list_all (stands_aside script) older && is_left_out script written newest) ≡ true → is_left_out script written (older ++ newest) ≡ true
left_out_behind script None older newest both = never (list_all (stands_aside script) older) both
  where
    never : (b : Bool) → (b && false) ≡ true → false ≡ true
    never true both = both
    never false both = both
left_out_behind script (Some written) older newest both = covered_behind script written older newest both

-- what is kept surely has to be sent
kept_surely : (script : Script) (older newest : List Queued) → AreAmong (kept script (older ++ newest)) (surely_sent script older newest)
unfolding kept surely_sent
kept_surely script [] newest = (only_leaves script newest).0
kept_surely script (item ∷ older) newest =
    among_where (list_all (stands_aside script) older && is_left_out script (plain_area script item) newest) (is_left_out script (plain_area script item) (older ++ newest)) item (kept script (older ++ newest))
    (surely_sent script older newest) (left_out_behind script (plain_area script item) older newest) (kept_surely script older newest)

-- the picture that a step paints keeps its pixels
abbrev IsMarked : Marks → Step → Type 0
IsMarked marks (Paint id picture at named glyph) = keeps marks picture ≡ true
IsMarked marks step = Unit {0}

abbrev AreMarked : Script → Marks → Queued → Type 0
AreMarked script marks item = IfSome (step_at script.steps item.step) (IsMarked marks)

marked_first : (marks : Marks) (step : Option Step) → IfSome step (IsMarked (step_marked marks step))
marked_first marks None = tt
marked_first marks (Some step) = one step
  where
    one : (step : Step) → IsMarked (step_marked marks (Some step)) step
    one (Surface id width height format) = tt
    one (Delete id) = tt
    one (Reset width height) = tt
    one (Map id x y) = tt
    one (Fill id colour rects) = tt
    one (Copy from to rect points) = tt
    one (Keep id key rect) = tt
    one (Show key to points) = tt
    one (Forget key) = tt
    one (Paint id picture at kind glyph) = marked_keeps marks picture
    one (Improve id) = tt
    one Frame = tt

-- and keeps them when others are marked
still_step : (marks : Marks) (other : Option Step) (number : ℕ) → keeps marks number ≡ true → keeps (step_marked marks other) number ≡ true
still_step marks None number kept = kept
still_step marks (Some step) number kept = one step
  where
    one : (step : Step) → keeps (step_marked marks (Some step)) number ≡ true
    one (Surface id width height format) = kept
    one (Delete id) = kept
    one (Reset width height) = kept
    one (Map id x y) = kept
    one (Fill id colour rects) = kept
    one (Copy from to rect points) = kept
    one (Keep id key rect) = kept
    one (Show key to points) = kept
    one (Forget key) = kept
    one (Paint id picture at kind glyph) = marked_still marks number picture kept
    one (Improve id) = kept
    one Frame = kept

still_items : (script : Script) (marks : Marks) (items : List Queued) (number : ℕ) → keeps marks number ≡ true → keeps (items_marked script marks items) number ≡ true
still_items script marks [] number kept = kept
still_items script marks (item ∷ items) number kept =
    still_items script (step_marked marks (step_at script.steps item.step)) items number (still_step marks (step_at script.steps item.step) number kept)

still_marked : (script : Script) (marks : Marks) (items : List Queued) (step : Option Step) → IfSome step (IsMarked marks) → IfSome step (IsMarked (items_marked script marks items))
still_marked script marks items None is = tt
still_marked script marks items (Some step) is = one step is
  where
    one : (step : Step) → IsMarked marks step → IsMarked (items_marked script marks items) step
    one (Paint id picture at kind glyph) is = still_items script marks items picture is
    one step is = tt

all_marked : (script : Script) (marks : Marks) (items : List Queued) → AllByRecursion (AreMarked script (items_marked script marks items)) items
all_marked script marks [] = tt
all_marked script marks (item ∷ items) = (
  still_marked script (step_marked marks (step_at script.steps item.step)) items (step_at script.steps item.step) (marked_first marks (step_at script.steps item.step)),
  all_marked script (step_marked marks (step_at script.steps item.step)) items,
)

-- so each of them has the same picture still
module _ (whole own : Script) (marks : Marks) where
  abbrev then : List Picture
  then = spared_from 0 marks own.pictures

  sees_then : (step : Step) → Sees whole.pictures own.pictures step → IsMarked marks step → Sees whole.pictures then step
  sees_then (Paint id picture at named glyph) sees is =
      let same : picture ≡ 0 + picture = omega arith in
      spared_keeps 0 marks own.pictures picture (subst (λ n. keeps marks n ≡ true) same is) ∙ sees
  sees_then step sees is = tt

  if_then : (step mine : Option Step) → mine ≡ step → IfSome step (Sees whole.pictures own.pictures) → IfSome mine (IsMarked marks) → IfSome step (Sees whole.pictures then)
  if_then None mine same sees is = tt
  if_then (Some step) mine same sees is = sees_then step sees (subst (λ z. IfSome z (IsMarked marks)) same is)

  all_then : (items : List Queued) → AllByRecursion (LooksAt whole own.pictures own.steps) items → AllByRecursion (SeesAt whole own.pictures) items → AllByRecursion (AreMarked own marks) items
      → AllByRecursion (SeesAt whole then) items
  all_then [] looks sees are = tt
  all_then (item ∷ items) looks sees are =
      (if_then (step_at whole.steps item.step) (step_at own.steps item.step) looks.0.0 sees.0 are.0, all_then items looks.1 sees.1 are.1)

  sides_then : (step : Step) → HasSides whole.pictures own.pictures step → HasSides whole.pictures then step
  sides_then (Paint id picture at named glyph) sides = spared_sides_at 0 marks own.pictures picture ∙ sides
  sides_then step sides = tt

  all_sides_then : (steps : List Step) → AllByRecursion (HasSides whole.pictures own.pictures) steps → AllByRecursion (HasSides whole.pictures then) steps
  all_sides_then [] sides = tt
  all_sides_then (step ∷ steps) sides = (sides_then step sides.0, all_sides_then steps sides.1)

pub waiting_is_spared : WaitingIsSpared
waiting_is_spared over whole own end older newest start spares behind waiting all =
    let surely : List Queued = surely_sent own older newest in
    let marks : Marks = items_marked own start surely in
    let gone : drop end.last whole.steps ≡ [] = drop_all end.last whole.steps all in
    let looks = looks_at over whole own end spares behind in
    let same : kept own end.window.pending ≡ kept whole end.window.pending =
    ap (λ z. kept z end.window.pending) spares.others ∙ kept_same whole own.pictures own.steps end.window.pending looks in
    let among : AreAmong (kept whole end.window.pending) surely =
    subst (λ items. AreAmong items surely) (ap (kept own) (sym waiting) ∙ same) (kept_surely own older newest) in
    record {
      others = ap (λ z. other z (spared_from 0 marks own.pictures) own.steps) spares.others;
      steps = spares.steps;
      sides = all_sides_then whole own marks (drop over whole.steps) spares.sides;
      waits =
          all_then whole own marks (kept whole end.window.pending)
          (all_among (LooksAt whole own.pictures own.steps) (kept whole end.window.pending) end.window.pending (only_leaves whole end.window.pending).0 looks) spares.waits
          (all_among (AreMarked own marks) (kept whole end.window.pending) surely among (all_marked own start surely));
      left = subst (AllByRecursion (Sees whole.pictures (spared_from 0 marks own.pictures))) (sym gone) tt;
      step_count = spares.step_count;
      picture_count = spared_count 0 marks own.pictures ∙ spares.picture_count;
    }

-- and it stays in step -------------------------------------------------------------------------------------------------

frames_seen : (script : Script) (pictures : List Picture) (gone : List KindedStep) → AllByRecursion (λ (one : KindedStep). one.step ≡ Frame) gone → AllByRecursion (λ (one : KindedStep). Sees script.pictures pictures one.step) gone
frames_seen script pictures [] frames = tt
frames_seen script pictures (one ∷ gone) frames = (subst (Sees script.pictures pictures) (sym frames.0) tt, frames_seen script pictures gone frames.1)

holds_spared : (script : Script) (marks : Marks) (held : Held) (server : Server) → Holds script held server → Holds (spared marks script) held server
holds_spared script marks held server holds = record {
  drawn = spared_drawn 0 marks script.pictures holds.drawn;
  same = holds.same ∙ sym (spared_sides 0 marks script.pictures);
  surfaces = holds.surfaces;
  bitmaps = holds.bitmaps;
  setting = holds.setting;
  tiles = holds.tiles;
  number = holds.number;
  rings = holds.rings;
}

pub sparing_is_planned : SparingIsPlanned
sparing_is_planned start script kinded end gone waiting marks is frames = record {
  begins = record {
    accepted = spared_accepted start.held script marks is.begins.accepted;
    fits = record { same = is.begins.fits.same; kinds = is.begins.fits.kinds };
    may = record {
      holds = holds_spared script marks start.held start.server is.begins.may.holds;
      agrees = is.begins.may.agrees;
      closed = is.begins.may.closed;
      frames = is.begins.may.frames;
      greets = is.begins.may.greets;
    };
    alike = is.begins.alike;
  };
  plan = record {
    cut = is.plan.cut;
    last = is.plan.last;
    pending = is.plan.pending;
    held = is.plan.held;
    checked = is.plan.checked;
    holds = holds_spared script marks is.plan.held end.server is.plan.holds;
    agrees =
        subst (Agree end.server)
        (sym (want_same script (spared_from 0 marks script.pictures) script.steps start.wanted gone (frames_seen script (spared_from 0 marks script.pictures) gone frames))) is.plan.agrees;
    frame = is.plan.frame;
    frames = is.plan.frames;
  };
}

-- a script spares itself -------------------------------------------------------------------------------------------------

sees_itself : (pictures : List Picture) (step : Step) → Sees pictures pictures step
sees_itself pictures (Surface id width height format) = tt
sees_itself pictures (Delete id) = tt
sees_itself pictures (Reset width height) = tt
sees_itself pictures (Map id x y) = tt
sees_itself pictures (Fill id colour rects) = tt
sees_itself pictures (Copy from to rect points) = tt
sees_itself pictures (Keep id key rect) = tt
sees_itself pictures (Show key to points) = tt
sees_itself pictures (Forget key) = tt
sees_itself pictures (Paint id picture at kind glyph) = refl
sees_itself pictures (Improve id) = tt
sees_itself pictures Frame = tt

all_see_themselves : (pictures : List Picture) (steps : List Step) → AllByRecursion (Sees pictures pictures) steps
all_see_themselves pictures [] = tt
all_see_themselves pictures (step ∷ steps) = (sees_itself pictures step, all_see_themselves pictures steps)

all_have_sides : (pictures : List Picture) (steps : List Step) → AllByRecursion (HasSides pictures pictures) steps
all_have_sides pictures [] = tt
all_have_sides pictures (step ∷ steps) = (sides_by pictures pictures step (sees_itself pictures step), all_have_sides pictures steps)

-- where nothing waits
pub spares_itself : (script : Script) (end : ScheduledEnd) → end.window.pending ≡ [] → Spares 0 script script end
spares_itself script end none = record {
  others = refl;
  steps = refl;
  sides = all_have_sides script.pictures (drop 0 script.steps);
  waits = subst (λ items. AllByRecursion (SeesAt script script.pictures) (kept script items)) (sym none) (none_waits script script);
  left = all_see_themselves script.pictures (drop end.last script.steps);
  step_count = refl;
  picture_count = refl;
}
