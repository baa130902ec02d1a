-- Choosers of a list that are asked of one paint in order, and the kind of one step.
use Rattle.std.proofs.Common.{◌≡◌, ℕ, ◌+◌, ◌<◌, ◌≤◌, Bool, true, false, List, [], ◌∷◌, ◌++◌, length, take, drop, set, get_or, suc, Option, Some, None, refl, sym, ap, ◌∙◌, subst, arith, length-take}
use Rattle.std.specs.Prelude.{if◌then◌else◌}
use Rattle.std.proofs.lemmas.List.{append-nil, map_push, map-append, take_at, drop_at, drop_all, take_all, drop_more, take_more_set, take-set, drop-set-lt, length-set, length-take-le, get_or-set_same, set_split}
use Rattle.std.proofs.lemmas.Option.{same_Some}
use Rattle.gfx_script.specs.Kinds.{kind_of}
use Rattle.gfx_script.specs.Scripted.{Script}
use Rattle.gfx_script.specs.declared.step.Kind.{Kind}
use Rattle.gfx_script.specs.declared.step.Kind.TheVariants.{Residual}
use Rattle.gfx_script.specs.declared.step.Step.{Step}
use Rattle.gfx_chooser.specs.declared.facts.Facts.{Facts}
use Rattle.gfx_chooser.specs.Facts.{facts_at}
use Rattle.gfx_chooser.specs.Kinded.{going, going_by, Goes}
use Rattle.gfx_chooser.specs.Choosing.{Chooser, Choice, Alike, AreAlike, asked, kept, choice_by, chosen}
use Rattle.gfx_chooser.specs.Seen.{seen_by, seen}
use Rattle.gfx_chooser.proofs.Asking.{alike_itself, alike_self, alike_then}

-- some choosers were asked and stay in front, the others are still to be asked: then this is chosen
pub record IsAsked (facts : Facts) (due : Choice) (front rest : List Chooser) : Type 0 where
  pub kind : due.kind ≡ (chosen rest facts).kind
  pub left : AreAlike (front ++ (chosen rest facts).left) due.left

-- this kind was chosen, and these are left
pub record Chose (due : Choice) (kind : Kind) (left : List Chooser) : Type 0 where
  pub kind_is : kind ≡ due.kind
  pub alike : AreAlike left due.left

abbrev choice : Kind → List Chooser → Choice
choice kind left = record { kind = kind; left = left }

chosen_on : (facts : Facts) (chooser : Chooser) (rest : List Chooser) → chooser.reply [] facts ≡ None
    → chosen (chooser ∷ rest) facts ≡ choice (chosen rest facts).kind (kept facts chooser (chosen rest facts).left)
unfolding chosen choice_by
chosen_on facts chooser rest none = ap (λ o. choice_by o facts chooser rest (chosen rest facts)) none

chosen_here : (facts : Facts) (chooser : Chooser) (rest : List Chooser) (kind : Kind) → chooser.reply [] facts ≡ Some kind
    → chosen (chooser ∷ rest) facts ≡ choice kind (kept facts chooser rest)
unfolding chosen choice_by
chosen_here facts chooser rest kind some = ap (λ o. choice_by o facts chooser rest (chosen rest facts)) some

kept_not : (facts : Facts) (chooser : Chooser) (others : List Chooser) → chooser.is_spent (facts ∷ []) ≡ true → kept facts chooser others ≡ others
kept_not facts chooser others spent = ap (λ b. if b then others else asked facts chooser ∷ others) spent

kept_on : (facts : Facts) (chooser : Chooser) (others : List Chooser) → chooser.is_spent (facts ∷ []) ≡ false → kept facts chooser others ≡ asked facts chooser ∷ others
kept_on facts chooser others lasts = ap (λ b. if b then others else asked facts chooser ∷ others) lasts

-- one that nobody can tell from another, behind some and before others
alike_put : (front rest : List Chooser) (one other : Chooser) → Alike one other → AreAlike (front ++ one ∷ rest) (front ++ other ∷ rest)
alike_put [] rest one other alike = (alike, alike_self rest)
alike_put (first ∷ front) rest one other alike = (alike_itself first, alike_put front rest one other alike)

alike_push : (front rest : List Chooser) (one other : Chooser) → Alike one other → AreAlike ((front ++ one ∷ []) ++ rest) (front ++ other ∷ rest)
alike_push [] rest one other alike = (alike, alike_self rest)
alike_push (first ∷ front) rest one other alike = (alike_itself first, alike_push front rest one other alike)

-- the next has no answer and is spent
next_dropped : (facts : Facts) (due : Choice) (front rest : List Chooser) (chooser : Chooser) → IsAsked facts due front (chooser ∷ rest)
    → chooser.reply [] facts ≡ None → chooser.is_spent (facts ∷ []) ≡ true → IsAsked facts due front rest
next_dropped facts due front rest chooser goes none spent =
    let same : chosen (chooser ∷ rest) facts ≡ choice (chosen rest facts).kind (chosen rest facts).left =
    chosen_on facts chooser rest none ∙ ap (choice (chosen rest facts).kind) (kept_not facts chooser (chosen rest facts).left spent) in
    record {
      kind = goes.kind ∙ ap (λ c. c.kind) same;
      left = subst (λ c. AreAlike (front ++ c.left) due.left) same goes.left;
    }

-- the next has no answer and stays
next_kept : (facts : Facts) (due : Choice) (front rest : List Chooser) (chooser new : Chooser) → IsAsked facts due front (chooser ∷ rest)
    → chooser.reply [] facts ≡ None → chooser.is_spent (facts ∷ []) ≡ false → Alike new (asked facts chooser) → IsAsked facts due (front ++ new ∷ []) rest
next_kept facts due front rest chooser new goes none lasts alike =
    let same : chosen (chooser ∷ rest) facts ≡ choice (chosen rest facts).kind (asked facts chooser ∷ (chosen rest facts).left) =
    chosen_on facts chooser rest none ∙ ap (choice (chosen rest facts).kind) (kept_on facts chooser (chosen rest facts).left lasts) in
    record {
      kind = goes.kind ∙ ap (λ c. c.kind) same;
      left = alike_then ((front ++ new ∷ []) ++ (chosen rest facts).left) (front ++ asked facts chooser ∷ (chosen rest facts).left) due.left
          (alike_push front (chosen rest facts).left new (asked facts chooser) alike)
          (subst (λ c. AreAlike (front ++ c.left) due.left) same goes.left);
    }

-- the next has an answer and is spent
answer_dropped : (facts : Facts) (due : Choice) (front rest : List Chooser) (chooser : Chooser) (kind : Kind) → IsAsked facts due front (chooser ∷ rest)
    → chooser.reply [] facts ≡ Some kind → chooser.is_spent (facts ∷ []) ≡ true → Chose due kind (front ++ rest)
answer_dropped facts due front rest chooser kind goes some spent =
    let same : chosen (chooser ∷ rest) facts ≡ choice kind rest =
    chosen_here facts chooser rest kind some ∙ ap (choice kind) (kept_not facts chooser rest spent) in
    record {
      kind_is = sym (goes.kind ∙ ap (λ c. c.kind) same);
      alike = subst (λ c. AreAlike (front ++ c.left) due.left) same goes.left;
    }

-- the next has an answer and stays
answer_kept : (facts : Facts) (due : Choice) (front rest : List Chooser) (chooser new : Chooser) (kind : Kind) → IsAsked facts due front (chooser ∷ rest)
    → chooser.reply [] facts ≡ Some kind → chooser.is_spent (facts ∷ []) ≡ false → Alike new (asked facts chooser) → Chose due kind (front ++ new ∷ rest)
answer_kept facts due front rest chooser new kind goes some lasts alike =
    let same : chosen (chooser ∷ rest) facts ≡ choice kind (asked facts chooser ∷ rest) =
    chosen_here facts chooser rest kind some ∙ ap (choice kind) (kept_on facts chooser rest lasts) in
    record {
      kind_is = sym (goes.kind ∙ ap (λ c. c.kind) same);
      alike = alike_then (front ++ new ∷ rest) (front ++ asked facts chooser ∷ rest) due.left
          (alike_put front rest new (asked facts chooser) alike)
          (subst (λ c. AreAlike (front ++ c.left) due.left) same goes.left);
    }

-- none has answered
none_answers : (facts : Facts) (due : Choice) (front : List Chooser) → IsAsked facts due front [] → Chose due Residual front
unfolding chosen
none_answers facts due front goes = record {
  kind_is = sym goes.kind;
  alike = subst (λ z. AreAlike z due.left) (append-nil front) goes.left;
}

-- values of a type of choosers -------------------------------------------------------------------------------

-- those before a place were asked, those from it on are still to be asked
pub record IsAskedTo {S : Type 0} (reply : S → List Facts → Facts → Option Kind) (is_spent : S → List Facts → Bool) (facts : Facts) (due : Choice) (values : List S) (at : ℕ) : Type 0 where
  pub within : at ≤ length values
  pub goes : IsAsked facts due (seen reply is_spent (take at values)) (seen reply is_spent (drop at values))

pub asked_first : {S : Type 0} (reply : S → List Facts → Facts → Option Kind) (is_spent : S → List Facts → Bool) (facts : Facts) (values : List S)
    → IsAskedTo reply is_spent facts (chosen (seen reply is_spent values) facts) values 0
asked_first reply is_spent facts values = record {
  within = omega arith;
  goes = record { kind = refl; left = alike_self (chosen (seen reply is_spent values) facts).left };
}

-- the one at the place stands before those behind it
one_asked : {S : Type 0} (reply : S → List Facts → Facts → Option Kind) (is_spent : S → List Facts → Bool) (facts : Facts) (due : Choice) (values : List S) (at : ℕ) (old : S)
    → at < length values → old ≡ get_or values at old → IsAskedTo reply is_spent facts due values at
    → IsAsked facts due (seen reply is_spent (take at values)) (seen_by reply is_spent old ∷ seen reply is_spent (drop (at + 1) values))
one_asked reply is_spent facts due values at old within here to =
    let split : drop at values ≡ old ∷ drop (at + 1) values = drop_more values at old within ∙ ap (λ z. z ∷ drop (at + 1) values) (sym here) in
    subst (λ z. IsAsked facts due (seen reply is_spent (take at values)) (seen reply is_spent z)) split to.goes

-- one of them was asked, with this answer, and is spent or not
pub record Turn {S : Type 0} (reply : S → List Facts → Facts → Option Kind) (is_spent : S → List Facts → Bool) (facts : Facts) (due : Choice) (values : List S) (at : ℕ) (answer : Option Kind) (spent : Bool) (new : S) : Type 0 where
  pub old : S
  pub inside : at < length values
  pub goes : IsAsked facts due (seen reply is_spent (take at values)) (seen_by reply is_spent old ∷ seen reply is_spent (drop (at + 1) values))
  pub answer_is : answer ≡ reply old [] facts
  pub alike : Alike (seen_by reply is_spent new) (asked facts (seen_by reply is_spent old))
  pub spent_is : spent ≡ is_spent old (facts ∷ [])

pub turn_of : {S : Type 0} (reply : S → List Facts → Facts → Option Kind) (is_spent : S → List Facts → Bool) (facts : Facts) (due : Choice) (values : List S) (at : ℕ)
    (answer : Option Kind) (spent : Bool) (old new again : S)
    → at < length values → old ≡ get_or values at old → IsAskedTo reply is_spent facts due values at
    → answer ≡ reply old [] facts → ((before : List Facts) (next : Facts) → reply new before next ≡ reply old (facts ∷ before) next)
    → ((before : List Facts) → is_spent new before ≡ is_spent old (facts ∷ before))
    → again ≡ get_or (set values at new) at again → spent ≡ is_spent again []
    → Turn reply is_spent facts due values at answer spent new
turn_of reply is_spent facts due values at answer spent old new again inside here to answers replies spends there ends = record {
  old = old;
  inside = inside;
  goes = one_asked reply is_spent facts due values at old inside here to;
  answer_is = answers;
  alike = record { replies = replies; spends = spends };
  spent_is = ends ∙ ap (λ v. is_spent v []) (there ∙ get_or-set_same values at new again inside) ∙ spends [];
}

-- what a list is where the one at a place is dropped
dropped : {S : Type 0} (values changed : List S) (at : ℕ) (new : S) → changed ≡ take at (set values at new) ++ drop (at + 1) (set values at new)
    → changed ≡ take at values ++ drop (at + 1) values
dropped values changed at new e =
    let before : at < at + 1 = omega arith in
    e ∙ ap (λ z. z ++ drop (at + 1) (set values at new)) (take-set values at new) ∙ ap (λ z. take at values ++ z) (drop-set-lt (at + 1) values at new before)

-- and where it is another
replaced : {S : Type 0} (values : List S) (at : ℕ) (new : S) → at < length values → set values at new ≡ take at values ++ new ∷ drop (at + 1) values
replaced values at new inside =
    let next : suc at ≡ at + 1 = omega arith in
    set_split values at new inside ∙ ap (λ n. take at values ++ new ∷ drop n values) next

pub dropped_on : {S : Type 0} (reply : S → List Facts → Facts → Option Kind) (is_spent : S → List Facts → Bool) (facts : Facts) (due : Choice) (values : List S) (at : ℕ)
    (answer : Option Kind) (spent : Bool) (new : S) (changed : List S) → Turn reply is_spent facts due values at answer spent new
    → answer ≡ None → spent ≡ true → changed ≡ take at (set values at new) ++ drop (at + 1) (set values at new)
    → IsAskedTo reply is_spent facts due changed at
dropped_on reply is_spent facts due values at answer spent new changed turn none ends e =
    let parts : changed ≡ take at values ++ drop (at + 1) values = dropped values changed at new e in
    let front : length (take at values) ≡ at = length-take-le at values (omega (arith, turn.inside)) in
    let before : take at changed ≡ take at values = ap (take at) parts ∙ take_at (take at values) (drop (at + 1) values) at front in
    let behind : drop at changed ≡ drop (at + 1) values = ap (drop at) parts ∙ drop_at (take at values) (drop (at + 1) values) at front in
    let goes : IsAsked facts due (seen reply is_spent (take at values)) (seen reply is_spent (drop (at + 1) values)) =
    next_dropped facts due (seen reply is_spent (take at values)) (seen reply is_spent (drop (at + 1) values)) (seen_by reply is_spent turn.old) turn.goes
    (sym turn.answer_is ∙ none) (sym turn.spent_is ∙ ends) in
    record {
      within = omega (arith, front, ap length before, length-take at changed);
      goes = subst (λ z. IsAsked facts due (seen reply is_spent z) (seen reply is_spent (drop at changed))) (sym before)
          (subst (λ z. IsAsked facts due (seen reply is_spent (take at values)) (seen reply is_spent z)) (sym behind) goes);
    }

pub kept_to : {S : Type 0} (reply : S → List Facts → Facts → Option Kind) (is_spent : S → List Facts → Bool) (facts : Facts) (due : Choice) (values : List S) (at : ℕ)
    (answer : Option Kind) (spent : Bool) (new : S) → Turn reply is_spent facts due values at answer spent new
    → answer ≡ None → spent ≡ false → IsAskedTo reply is_spent facts due (set values at new) (at + 1)
kept_to reply is_spent facts due values at answer spent new turn none lasts =
    let inside : at < length values = turn.inside in
    let next : at < at + 1 = omega arith in
    let before : seen reply is_spent (take (at + 1) (set values at new)) ≡ seen reply is_spent (take at values) ++ seen_by reply is_spent new ∷ [] =
    ap (seen reply is_spent) (take_more_set values at new inside) ∙ map_push (seen_by reply is_spent) (take at values) new in
    let behind : drop (at + 1) (set values at new) ≡ drop (at + 1) values = drop-set-lt (at + 1) values at new next in
    let goes : IsAsked facts due (seen reply is_spent (take at values) ++ seen_by reply is_spent new ∷ []) (seen reply is_spent (drop (at + 1) values)) =
    next_kept facts due (seen reply is_spent (take at values)) (seen reply is_spent (drop (at + 1) values)) (seen_by reply is_spent turn.old) (seen_by reply is_spent new) turn.goes
    (sym turn.answer_is ∙ none) (sym turn.spent_is ∙ lasts) turn.alike in
    record {
      within = omega (arith, inside, length-set values at new);
      goes = subst (λ z. IsAsked facts due z (seen reply is_spent (drop (at + 1) (set values at new)))) (sym before)
          (subst (λ z. IsAsked facts due (seen reply is_spent (take at values) ++ seen_by reply is_spent new ∷ []) (seen reply is_spent z)) (sym behind) goes);
    }

pub dropped_here : {S : Type 0} (reply : S → List Facts → Facts → Option Kind) (is_spent : S → List Facts → Bool) (facts : Facts) (due : Choice) (values : List S) (at : ℕ)
    (answer : Option Kind) (spent : Bool) (new : S) (changed : List S) (kind : Kind) → Turn reply is_spent facts due values at answer spent new
    → answer ≡ Some kind → spent ≡ true → changed ≡ take at (set values at new) ++ drop (at + 1) (set values at new)
    → Chose due kind (seen reply is_spent changed)
dropped_here reply is_spent facts due values at answer spent new changed kind turn some ends e =
    let parts : seen reply is_spent changed ≡ seen reply is_spent (take at values) ++ seen reply is_spent (drop (at + 1) values) =
    ap (seen reply is_spent) (dropped values changed at new e) ∙ map-append (seen_by reply is_spent) (take at values) (drop (at + 1) values) in
    subst (Chose due kind) (sym parts)
    (answer_dropped facts due (seen reply is_spent (take at values)) (seen reply is_spent (drop (at + 1) values)) (seen_by reply is_spent turn.old) kind turn.goes
    (sym turn.answer_is ∙ some) (sym turn.spent_is ∙ ends))

pub kept_here : {S : Type 0} (reply : S → List Facts → Facts → Option Kind) (is_spent : S → List Facts → Bool) (facts : Facts) (due : Choice) (values : List S) (at : ℕ)
    (answer : Option Kind) (spent : Bool) (new : S) (kind : Kind) → Turn reply is_spent facts due values at answer spent new
    → answer ≡ Some kind → spent ≡ false → Chose due kind (seen reply is_spent (set values at new))
kept_here reply is_spent facts due values at answer spent new kind turn some lasts =
    let parts : seen reply is_spent (set values at new) ≡ seen reply is_spent (take at values) ++ seen_by reply is_spent new ∷ seen reply is_spent (drop (at + 1) values) =
    ap (seen reply is_spent) (replaced values at new turn.inside) ∙ map-append (seen_by reply is_spent) (take at values) (new ∷ drop (at + 1) values) in
    subst (Chose due kind) (sym parts)
    (answer_kept facts due (seen reply is_spent (take at values)) (seen reply is_spent (drop (at + 1) values)) (seen_by reply is_spent turn.old) (seen_by reply is_spent new) kind turn.goes
    (sym turn.answer_is ∙ some) (sym turn.spent_is ∙ lasts) turn.alike)

-- none is left to be asked
pub none_here : {S : Type 0} (reply : S → List Facts → Facts → Option Kind) (is_spent : S → List Facts → Bool) (facts : Facts) (due : Choice) (values : List S) (at : ℕ)
    → IsAskedTo reply is_spent facts due values at → length values ≤ at → Chose due Residual (seen reply is_spent values)
none_here reply is_spent facts due values at to past =
    let before : take at values ≡ values = take_all at values past in
    let behind : drop at values ≡ [] = drop_all at values past in
    none_answers facts due (seen reply is_spent values)
    (subst (λ z. IsAsked facts due (seen reply is_spent z) []) before
    (subst (λ z. IsAsked facts due (seen reply is_spent (take at values)) (seen reply is_spent z)) behind to.goes))

-- the kind of one step -----------------------------------------------------------------------------------------

-- it was chosen
pub goes_chosen : (script : Script) (number : ℕ) (step : Option Step) (facts : Facts) (kind : Kind) (old new : List Chooser) → Some facts ≡ facts_at script number step
    → kind ≡ (chosen old facts).kind → AreAlike new (chosen old facts).left → Goes script number step (Some kind) old new
unfolding going
goes_chosen script number None facts kind old new told same left = absurd cc
goes_chosen script number (Some step) facts kind old new told same left = record {
  kind_is = ap Some same ∙ ap (λ f. (going_by f step old).kind) told;
  left = subst (λ f. AreAlike new (going_by f step old).left) told left;
}

-- it is the step's own
pub goes_own : (script : Script) (number : ℕ) (found : Option Step) (step : Step) (kind : Option Kind) (all : List Chooser) → Some step ≡ found → None ≡ facts_at script number found
    → kind ≡ kind_of step → Goes script number found kind all all
unfolding going
goes_own script number None step kind all is told same = absurd cc
goes_own script number (Some one) step kind all is told same = record {
  kind_is = same ∙ ap kind_of (same_Some step one is) ∙ ap (λ f. (going_by f one all).kind) told;
  left = subst (λ f. AreAlike all (going_by f one all).left) told (alike_self all);
}
