-- Choosers that are asked of steps one after another.
use Rattle.std.proofs.Common.{◌≡◌, ℕ, ◌+◌, ◌-◌, ◌<◌, ◌≤◌, ◌⊎◌, inl, inr, Bool, true, false, List, [], ◌∷◌, ◌++◌, length, map, take, drop, zero, suc, Option, Some, None, refl, sym, ap, ◌∙◌, subst, arith, length-take, length-drop}
use Rattle.std.specs.Prelude.{if◌then◌else◌, ◌==◌}
use Rattle.std.specs.List.{AllByRecursion, slice_get}
use Rattle.std.proofs.lemmas.Bool.{cases_lt, ne_eqb}
use Rattle.std.proofs.lemmas.List.{append-nil, take-append-drop, drop-drop, take_all, drop_all, drop_more, drop_at, take-take, drop-take}
use Rattle.std.proofs.lemmas.Option.{slice_get_within, get_or_from_slice_get}
use Rattle.gfx_script.specs.Kinds.{KindedStep, HasKind, GoesAs, Fits, as_kind, kind_of}
use Rattle.gfx_script.specs.Script.{step_at}
use Rattle.gfx_script.specs.Scripted.{Script}
use Rattle.gfx_base.specs.declared.geometry.Point.{Point}
use Rattle.gfx_script.specs.declared.step.Kind.{Kind}
use Rattle.gfx_script.specs.declared.step.Step.{Step}
use Rattle.gfx_script.specs.declared.step.Step.TheVariants.{Paint}
use Rattle.gfx_chooser.specs.declared.facts.Facts.{Facts}
use Rattle.gfx_chooser.specs.Choosing.{Chooser, Choice, Alike, AreAlike, asked, kept, choice_by, chosen}
use Rattle.gfx_chooser.specs.Facts.{facts_in, facts_with}
use Rattle.gfx_chooser.specs.Kinded.{Going, going, going_by, kinded, left_after, kinded_steps, steps_between, Asks, GoesSo}

-- alike ------------------------------------------------------------------------------------------------

pub alike_itself : (one : Chooser) → Alike one one
alike_itself one = record { replies = λ before next. refl; spends = λ before. refl }

pub alike_self : (cs : List Chooser) → AreAlike cs cs
alike_self [] = tt
alike_self (one ∷ ones) = (alike_itself one, alike_self ones)

pub alike_then : (cs ds es : List Chooser) → AreAlike cs ds → AreAlike ds es → AreAlike cs es
alike_then [] [] [] one two = tt
alike_then [] [] (e ∷ es) one two = absurd two
alike_then [] (d ∷ ds) es one two = absurd one
alike_then (c ∷ cs) [] es one two = absurd one
alike_then (c ∷ cs) (d ∷ ds) [] one two = absurd two
alike_then (c ∷ cs) (d ∷ ds) (e ∷ es) one two = (
  record {
    replies = λ before next. one.0.replies before next ∙ two.0.replies before next;
    spends = λ before. one.0.spends before ∙ two.0.spends before;
  },
  alike_then cs ds es one.1 two.1,
)

-- they choose the same
pub record ChooseAlike (one other : Choice) : Type 0 where
  pub kind : one.kind ≡ other.kind
  pub left : AreAlike one.left other.left

asked_alike : (facts : Facts) (c d : Chooser) → Alike c d → Alike (asked facts c) (asked facts d)
asked_alike facts c d alike = record {
  replies = λ before next. alike.replies (facts ∷ before) next;
  spends = λ before. alike.spends (facts ∷ before);
}

kept_by : (facts : Facts) (c d : Chooser) (cs ds : List Chooser) (a b : Bool) → a ≡ b → Alike c d → AreAlike cs ds
    → AreAlike (if a then cs else asked facts c ∷ cs) (if b then ds else asked facts d ∷ ds)
kept_by facts c d cs ds true true same one others = others
kept_by facts c d cs ds false false same one others = (asked_alike facts c d one, others)
kept_by facts c d cs ds true false same one others = absurd cc
kept_by facts c d cs ds false true same one others = absurd cc

kept_alike : (facts : Facts) (c d : Chooser) (cs ds : List Chooser) → Alike c d → AreAlike cs ds → AreAlike (kept facts c cs) (kept facts d ds)
kept_alike facts c d cs ds one others =
    kept_by facts c d cs ds (c.is_spent (facts ∷ [])) (d.is_spent (facts ∷ [])) (one.spends (facts ∷ [])) one others

choice_alike : (facts : Facts) (c d : Chooser) (cs ds : List Chooser) (x y : Choice) (a b : Option Kind) → a ≡ b → Alike c d → AreAlike cs ds → ChooseAlike x y
    → ChooseAlike (choice_by a facts c cs x) (choice_by b facts d ds y)
unfolding choice_by
choice_alike facts c d cs ds x y (Some a) (Some b) same one others choice = record { kind = cc; left = kept_alike facts c d cs ds one others }
choice_alike facts c d cs ds x y None None same one others choice = record { kind = choice.kind; left = kept_alike facts c d x.left y.left one choice.left }
choice_alike facts c d cs ds x y (Some a) None same one others choice = absurd cc
choice_alike facts c d cs ds x y None (Some b) same one others choice = absurd cc

pub chosen_alike : (facts : Facts) (cs ds : List Chooser) → AreAlike cs ds → ChooseAlike (chosen cs facts) (chosen ds facts)
unfolding chosen
chosen_alike facts [] [] alike = record { kind = refl; left = tt }
chosen_alike facts [] (d ∷ ds) alike = absurd alike
chosen_alike facts (c ∷ cs) [] alike = absurd alike
chosen_alike facts (c ∷ cs) (d ∷ ds) alike =
    choice_alike facts c d cs ds (chosen cs facts) (chosen ds facts) (c.reply [] facts) (d.reply [] facts) (alike.0.replies [] facts) alike.0 alike.1
    (chosen_alike facts cs ds alike.1)

-- a step goes the same
record GoAlike (one other : Going) : Type 0 where
  pub kind : one.kind ≡ other.kind
  pub left : AreAlike one.left other.left

going_by_alike : (facts : Option Facts) (step : Step) (cs ds : List Chooser) → AreAlike cs ds → GoAlike (going_by facts step cs) (going_by facts step ds)
going_by_alike None step cs ds alike = record { kind = refl; left = alike }
going_by_alike (Some facts) step cs ds alike =
    let choice = chosen_alike facts cs ds alike in
    record { kind = ap Some choice.kind; left = choice.left }

going_alike : (script : Script) (number : ℕ) (step : Step) (cs ds : List Chooser) → AreAlike cs ds → GoAlike (going script number step cs) (going script number step ds)
unfolding going
going_alike script number step cs ds alike = going_by_alike (facts_in script number step) step cs ds alike

-- choosers that are alike give the same kinds, and are left alike
pub kinded_alike : (script : Script) (number : ℕ) (cs ds : List Chooser) (steps : List Step) → AreAlike cs ds → kinded script number cs steps ≡ kinded script number ds steps
unfolding kinded
kinded_alike script number cs ds [] alike = refl
kinded_alike script number cs ds (step ∷ steps) alike =
    let goes = going_alike script number step cs ds alike in
    ap (λ k. as_kind k step ∷ kinded script (number + 1) (going script number step cs).left steps) goes.kind
    ∙ ap (λ z. as_kind (going script number step ds).kind step ∷ z)
    (kinded_alike script (number + 1) (going script number step cs).left (going script number step ds).left steps goes.left)

pub left_alike : (script : Script) (number : ℕ) (cs ds : List Chooser) (steps : List Step) → AreAlike cs ds → AreAlike (left_after script number cs steps) (left_after script number ds steps)
unfolding left_after
left_alike script number cs ds [] alike = alike
left_alike script number cs ds (step ∷ steps) alike =
    left_alike script (number + 1) (going script number step cs).left (going script number step ds).left steps (going_alike script number step cs ds alike).left

-- steps behind others --------------------------------------------------------------------------------------

pub kinded-append : (script : Script) (number : ℕ) (cs : List Chooser) (xs ys : List Step)
    → kinded script number cs (xs ++ ys) ≡ kinded script number cs xs ++ kinded script (number + length xs) (left_after script number cs xs) ys
unfolding kinded left_after
kinded-append script number cs [] ys =
    let same : number ≡ number + 0 = omega arith in
    ap (λ n. kinded script n cs ys) same
kinded-append script number cs (x ∷ xs) ys =
    let same : number + 1 + length xs ≡ number + length (x ∷ xs) = omega arith in
    ap (λ z. as_kind (going script number x cs).kind x ∷ z)
    (kinded-append script (number + 1) (going script number x cs).left xs ys
    ∙ ap (λ n. kinded script (number + 1) (going script number x cs).left xs ++ kinded script n (left_after script (number + 1) (going script number x cs).left xs) ys) same)

pub left_after-append : (script : Script) (number : ℕ) (cs : List Chooser) (xs ys : List Step)
    → left_after script number cs (xs ++ ys) ≡ left_after script (number + length xs) (left_after script number cs xs) ys
unfolding left_after
left_after-append script number cs [] ys =
    let same : number ≡ number + 0 = omega arith in
    ap (λ n. left_after script n cs ys) same
left_after-append script number cs (x ∷ xs) ys =
    let same : number + 1 + length xs ≡ number + length (x ∷ xs) = omega arith in
    left_after-append script (number + 1) (going script number x cs).left xs ys
    ∙ ap (λ n. left_after script n (left_after script (number + 1) (going script number x cs).left xs) ys) same

pub length-kinded : (script : Script) (number : ℕ) (cs : List Chooser) (steps : List Step) → length (kinded script number cs steps) ≡ length steps
unfolding kinded
length-kinded script number cs [] = refl
length-kinded script number cs (step ∷ steps) = ap (λ n. suc n) (length-kinded script (number + 1) (going script number step cs).left steps)

-- they are the steps, each as a kind that it may go as
pub bare_kinded : (script : Script) (number : ℕ) (cs : List Chooser) (steps : List Step) → map (λ (one : KindedStep). one.step) (kinded script number cs steps) ≡ steps
unfolding kinded
bare_kinded script number cs [] = refl
bare_kinded script number cs (step ∷ steps) = ap (λ z. step ∷ z) (bare_kinded script (number + 1) (going script number step cs).left steps)

own_kind : (step : Step) → GoesAs (kind_of step) step
own_kind (Paint id picture at None glyph) = (refl, tt)
own_kind (Paint id picture at (Some kind) glyph) = (refl, refl)
own_kind step = refl

paint_goes : (facts : Option Facts) (id picture : ℕ) (at : Point) (glyph : Option ℕ) (cs : List Chooser)
    → GoesAs (going_by facts (Paint id picture at None glyph) cs).kind (Paint id picture at None glyph)
paint_goes None id picture at glyph cs = (refl, tt)
paint_goes (Some facts) id picture at glyph cs = (refl, tt)

step_goes : (script : Script) (number : ℕ) (step : Step) (cs : List Chooser) → GoesAs (going script number step cs).kind step
unfolding going facts_in
step_goes script number (Paint id picture at None glyph) cs = paint_goes (facts_with number id (slice_get script.pictures picture)) id picture at glyph cs
step_goes script number (Paint id picture at (Some kind) glyph) cs = (refl, refl)
step_goes script number step cs = own_kind step

pub kinds_kinded : (script : Script) (number : ℕ) (cs : List Chooser) (steps : List Step) → AllByRecursion HasKind (kinded script number cs steps)
unfolding kinded
kinds_kinded script number cs [] = tt
kinds_kinded script number cs (step ∷ steps) =
    (step_goes script number step cs, kinds_kinded script (number + 1) (going script number step cs).left steps)

pub kinded_fit : (script : Script) (cs : List Chooser) → Fits (kinded_steps script cs) script.steps
kinded_fit script cs = record { same = bare_kinded script 1 cs script.steps; kinds = kinds_kinded script 1 cs script.steps }

-- choosers that were asked ----------------------------------------------------------------------------------

-- no step stands between a number and itself
between_none : (script : Script) (at : ℕ) → steps_between script at at ≡ []
between_none script at =
    let none : at - at ≡ 0 = omega arith in
    ap (λ n. take n (drop at script.steps)) none

-- what stands between is joined
between_on : (script : Script) (a b c : ℕ) → a ≤ b → b ≤ c → steps_between script a c ≡ steps_between script a b ++ steps_between script b c
between_on script a b c first second =
    let long : c - a ≡ (b - a) + (c - b) = omega arith in
    let far : a + (b - a) ≡ b = omega arith in
    let all : List Step = drop a script.steps in
    let front : take (b - a) (take ((b - a) + (c - b)) all) ≡ take (b - a) all = take-take (b - a) ((b - a) + (c - b)) all (omega arith) in
    let back : drop (b - a) (take ((b - a) + (c - b)) all) ≡ take (c - b) (drop b script.steps) =
    drop-take (b - a) (c - b) all ∙ ap (take (c - b)) (drop-drop (b - a) a script.steps ∙ ap (λ n. drop n script.steps) far) in
    ap (λ n. take n all) long
    ∙ sym (take-append-drop (b - a) (take ((b - a) + (c - b)) all))
    ∙ ap (λ z. z ++ drop (b - a) (take ((b - a) + (c - b)) all)) front
    ∙ ap (λ z. take (b - a) all ++ z) back

length-between : (script : Script) (a b : ℕ) → a ≤ b → b ≤ length script.steps → length (steps_between script a b) ≡ b - a
length-between script a b first within = simp (length-take, length-drop) (omega arith)

-- there is no step behind the last
between_past : (script : Script) (a b : ℕ) → length script.steps ≤ a → steps_between script a b ≡ []
between_past script a b past = ap (take (b - a)) (drop_all a script.steps past) ∙ take_all (b - a) [] (omega arith)

-- the steps of a script from one of these numbers on
rest_between : (script : Script) (a b : ℕ) → a ≤ b → drop a script.steps ≡ steps_between script a b ++ drop b script.steps
rest_between script a b first =
    let far : a + (b - a) ≡ b = omega arith in
    sym (take-append-drop (b - a) (drop a script.steps))
    ∙ ap (λ z. steps_between script a b ++ z) (drop-drop (b - a) a script.steps ∙ ap (λ n. drop n script.steps) far)

-- numbers count from 1, places from 0
at_next : (steps : List Step) (at : ℕ) → step_at steps (at + 1) ≡ slice_get steps at
at_next steps at =
    let some : ((at + 1) == 0) ≡ false = ne_eqb (at + 1) 0 (λ e. omega arith) in
    let same : at + 1 - 1 ≡ at = omega arith in
    ap (λ b. if b then None else slice_get steps (at + 1 - 1)) some ∙ ap (slice_get steps) same

none_past : (steps : List Step) (at : ℕ) → slice_get steps at ≡ None → drop at steps ≡ []
none_past [] zero none = refl
none_past [] (suc at) none = refl
none_past (step ∷ steps) zero none = absurd cc
none_past (step ∷ steps) (suc at) none = none_past steps at none

-- the step of a number stands before those behind it
step_front : (steps : List Step) (at : ℕ) (step : Step) → step_at steps (at + 1) ≡ Some step → drop at steps ≡ step ∷ drop (at + 1) steps
step_front steps at step there =
    let found : slice_get steps at ≡ Some step = sym (at_next steps at) ∙ there in
    drop_more steps at step (slice_get_within steps at step found)
    ∙ ap (λ z. z ∷ drop (at + 1) steps) (get_or_from_slice_get steps at step step found)

no_step_front : (steps : List Step) (at : ℕ) → step_at steps (at + 1) ≡ None → drop at steps ≡ []
no_step_front steps at none = none_past steps at (sym (at_next steps at) ∙ none)

pub asks_none : (script : Script) (at : ℕ) (cs : List Chooser) → Asks script at at cs cs
unfolding left_after
asks_none script at cs = record {
  further = omega arith;
  left = subst (λ z. AreAlike cs (left_after script (at + 1) cs z)) (sym (between_none script at)) (alike_self cs);
}

-- steps that were asked, and those behind them
on_by : (script : Script) (a b c : ℕ) (cs ds es : List Chooser) → Asks script a b cs ds → Asks script b c ds es → ((length script.steps < b) ⊎ (b ≤ length script.steps))
    → AreAlike es (left_after script (a + 1) cs (steps_between script a c))
unfolding left_after
on_by script a b c cs ds es one two (inl past) =
    let none : steps_between script b c ≡ [] = between_past script b c (omega arith) in
    let same : steps_between script a b ≡ steps_between script a c =
    sym (append-nil (steps_between script a b)) ∙ ap (λ z. steps_between script a b ++ z) (sym none) ∙ sym (between_on script a b c one.further two.further) in
    let last : AreAlike es ds = subst (λ z. AreAlike es (left_after script (b + 1) ds z)) none two.left in
    subst (λ z. AreAlike es (left_after script (a + 1) cs z)) same (alike_then es ds (left_after script (a + 1) cs (steps_between script a b)) last one.left)
on_by script a b c cs ds es one two (inr within) =
    let number : a + 1 + length (steps_between script a b) ≡ b + 1 = omega (arith, one.further, length-between script a b one.further within) in
    let same : left_after script (a + 1) cs (steps_between script a c) ≡ left_after script (b + 1) (left_after script (a + 1) cs (steps_between script a b)) (steps_between script b c) =
    ap (left_after script (a + 1) cs) (between_on script a b c one.further two.further)
    ∙ left_after-append script (a + 1) cs (steps_between script a b) (steps_between script b c)
    ∙ ap (λ n. left_after script n (left_after script (a + 1) cs (steps_between script a b)) (steps_between script b c)) number in
    subst (λ z. AreAlike es z) (sym same)
    (alike_then es (left_after script (b + 1) ds (steps_between script b c)) (left_after script (b + 1) (left_after script (a + 1) cs (steps_between script a b)) (steps_between script b c))
    two.left (left_alike script (b + 1) ds (left_after script (a + 1) cs (steps_between script a b)) (steps_between script b c) one.left))

pub asks_on : (script : Script) (a b c : ℕ) (cs ds es : List Chooser) → Asks script a b cs ds → Asks script b c ds es → Asks script a c cs es
asks_on script a b c cs ds es one two = record { further = omega (arith, one.further, two.further); left = on_by script a b c cs ds es one two (cases_lt (length script.steps) b) }

-- one step
pub asks_step : (script : Script) (at : ℕ) (step : Step) (kind : Option Kind) (cs ds : List Chooser) → step_at script.steps (at + 1) ≡ Some step
    → GoesSo script (at + 1) step kind cs ds → Asks script at (at + 1) cs ds
unfolding left_after
asks_step script at step kind cs ds there goes =
    let more : at + 1 - at ≡ 1 = omega arith in
    let one : steps_between script at (at + 1) ≡ step ∷ [] =
    ap (λ n. take n (drop at script.steps)) more ∙ ap (take 1) (step_front script.steps at step there) in
    record {
      further = omega arith;
      left = subst (λ z. AreAlike ds (left_after script (at + 1) cs z)) (sym one) goes.left;
    }

pub kinded_next : (script : Script) (at : ℕ) (step : Step) (kind : Option Kind) (cs ds : List Chooser) → step_at script.steps (at + 1) ≡ Some step
    → GoesSo script (at + 1) step kind cs ds
    → kinded script (at + 1) cs (drop at script.steps) ≡ as_kind kind step ∷ kinded script (at + 1 + 1) ds (drop (at + 1) script.steps)
unfolding kinded
kinded_next script at step kind cs ds there goes =
    ap (kinded script (at + 1) cs) (step_front script.steps at step there)
    ∙ ap (λ k. as_kind k step ∷ kinded script (at + 1 + 1) (going script (at + 1) step cs).left (drop (at + 1) script.steps)) (sym goes.kind_is)
    ∙ ap (λ z. as_kind kind step ∷ z) (sym (kinded_alike script (at + 1 + 1) ds (going script (at + 1) step cs).left (drop (at + 1) script.steps) goes.left))

-- there is none
pub kinded_past : (script : Script) (at : ℕ) (cs : List Chooser) → step_at script.steps (at + 1) ≡ None → kinded script (at + 1) cs (drop at script.steps) ≡ []
unfolding kinded
kinded_past script at cs none = ap (kinded script (at + 1) cs) (no_step_front script.steps at none)

-- what is left goes as the choosers choose that are left
pub kinded_asked : (script : Script) (a b : ℕ) (cs ds : List Chooser) → Asks script a b cs ds → b ≤ length script.steps
    → drop (b - a) (kinded script (a + 1) cs (drop a script.steps)) ≡ kinded script (b + 1) ds (drop b script.steps)
kinded_asked script a b cs ds asks within =
    let long : length (steps_between script a b) ≡ b - a = length-between script a b asks.further within in
    let number : a + 1 + length (steps_between script a b) ≡ b + 1 = omega (arith, asks.further, long) in
    let whole : kinded script (a + 1) cs (drop a script.steps)
    ≡ kinded script (a + 1) cs (steps_between script a b) ++ kinded script (b + 1) (left_after script (a + 1) cs (steps_between script a b)) (drop b script.steps) =
    ap (kinded script (a + 1) cs) (rest_between script a b asks.further)
    ∙ kinded-append script (a + 1) cs (steps_between script a b) (drop b script.steps)
    ∙ ap (λ n. kinded script (a + 1) cs (steps_between script a b) ++ kinded script n (left_after script (a + 1) cs (steps_between script a b)) (drop b script.steps)) number in
    ap (drop (b - a)) whole
    ∙ drop_at (kinded script (a + 1) cs (steps_between script a b)) (kinded script (b + 1) (left_after script (a + 1) cs (steps_between script a b)) (drop b script.steps)) (b - a)
    (length-kinded script (a + 1) cs (steps_between script a b) ∙ long)
    ∙ sym (kinded_alike script (b + 1) ds (left_after script (a + 1) cs (steps_between script a b)) (drop b script.steps) asks.left)
