-- Queueing the steps of the next frame of a script.
use Rattle.std.proofs.Common.{◌≡◌, ℕ, ◌+◌, ◌-◌, ◌≤◌, ◌<◌, ◌==◌, true, false, cond, List, [], ◌∷◌, ◌++◌, length, Option, Some, None, Ok, refl, sym, ap, ◌∙◌, subst, append_assoc, arith}
use Rattle.std.specs.List.{slice_get}
use Rattle.std.proofs.lemmas.Bool.{ne_eqb}
use Rattle.std.proofs.lemmas.List.{append-nil}
use Rattle.std.proofs.lemmas.Option.{slice_get_within}
use Rattle.gfx_chooser.specs.Choosing.{Chooser}
use Rattle.gfx_chooser.specs.Kinded.{Asks, Goes, GoesSo}
use Rattle.gfx_chooser.proofs.Asking.{asks_none, asks_on, asks_step, kinded_next, kinded_past}
use Rattle.gfx_schedule.specs.ServerEnd.{first_frame, numbered}
use Rattle.gfx_script.specs.Kinds.{as_kind}
use Rattle.gfx_script.specs.Script.{is_frame, step_at}
use Rattle.gfx_script.specs.Scripted.{Script}
use Rattle.gfx_script.specs.declared.step.Kind.{Kind}
use Rattle.gfx_script.specs.declared.step.Step.{Step}
use Rattle.gfx_session.specs.Queueing.{next_steps, QueuesFrame}
use Rattle.gfx_window.specs.Window.{Window, with_pending}

at_next : (steps : List Step) (last : ℕ) → step_at steps (last + 1) ≡ slice_get steps last
at_next steps last =
    let differ : (last + 1 == 0) ≡ false = ne_eqb (last + 1) 0 (λ e. omega arith) in
    let place : last + 1 - 1 ≡ last = omega arith in
    ap (λ b. cond b None (slice_get steps (last + 1 - 1))) differ ∙ ap (slice_get steps) place

-- the step behind this number is one of the script
next_within : (steps : List Step) (last : ℕ) (step : Step) → step_at steps (last + 1) ≡ Some step → last + 1 ≤ length steps
next_within steps last step found =
    let below : last < length steps = slice_get_within steps last step (sym (at_next steps last) ∙ found) in
    omega (arith, below)

-- the loop ------------------------------------------------------------------------------------------

-- the choosers were asked of the steps that are queued; with the steps that are left of the frame, all of it is
pub record Queueing (script : Script) (last number : ℕ) (before left : List Chooser) (old now : Window) : Type 0 where
  pub within : number ≤ length script.steps
  pub asks : Asks script last number before left
  pub count : number + length (next_steps script left number) ≡ last + length (next_steps script before last)
  pub window : with_pending now (now.pending ++ numbered (number + 1) (next_steps script left number)) ≡ with_pending old (old.pending ++ numbered (last + 1) (next_steps script before last))

pub queueing_none : (script : Script) (last : ℕ) (choosers : List Chooser) (window : Window) → last ≤ length script.steps → Queueing script last last choosers choosers window window
queueing_none script last choosers window within = record { within = within; asks = asks_none script last choosers; count = refl; window = refl }

-- one more step is queued, as choosers chose
pub record GoesNext (script : Script) (number : ℕ) (mid left : List Chooser) (step : Step) (kind : Option Kind) : Type 0 where
  pub within : number + 1 ≤ length script.steps
  pub asks : Asks script number (number + 1) mid left
  pub cut : next_steps script mid number ≡ as_kind kind step ∷ cond (is_frame step) [] (next_steps script left (number + 1))

goes_next : (script : Script) (number : ℕ) (mid left : List Chooser) (step : Step) (kind : Option Kind) → step_at script.steps (number + 1) ≡ Some step
    → Goes script (number + 1) (step_at script.steps (number + 1)) kind mid left → GoesNext script number mid left step kind
goes_next script number mid left step kind found goes =
    let so : GoesSo script (number + 1) step kind mid left = subst (λ z. Goes script (number + 1) z kind mid left) found goes in
    record {
      within = next_within script.steps number step found;
      asks = asks_step script number step kind mid left found so;
      cut = ap first_frame (kinded_next script number step kind mid left found so);
    }

grown : (script : Script) (last number : ℕ) (before mid left : List Chooser) (old between now : Window) (step : Step) (kind : Option Kind) → Queueing script last number before mid old between → GoesNext script number mid left step kind
    → now ≡ with_pending between (between.pending ++ record { step = number + 1; kind = kind } ∷ [])
    → with_pending now (now.pending ++ numbered (number + 1 + 1) (cond (is_frame step) [] (next_steps script left (number + 1)))) ≡ with_pending old (old.pending ++ numbered (last + 1) (next_steps script before last))
grown script last number before mid left old between now step kind q next is =
    let rest = numbered (number + 1 + 1) (cond (is_frame step) [] (next_steps script left (number + 1))) in
    ap (λ z. with_pending z (z.pending ++ rest)) is
    ∙ ap (with_pending between) (append_assoc between.pending (record { step = number + 1; kind = kind } ∷ []) rest)
    ∙ ap (λ z. with_pending between (between.pending ++ numbered (number + 1) z)) (sym next.cut)
    ∙ q.window

-- it isn't the last of the frame
pub queueing_more : (script : Script) (last number : ℕ) (before mid left : List Chooser) (old between now : Window) (step : Step) (kind : Option Kind) → Queueing script last number before mid old between
    → step_at script.steps (number + 1) ≡ Some step → is_frame step ≡ false → Goes script (number + 1) (step_at script.steps (number + 1)) kind mid left
    → now ≡ with_pending between (between.pending ++ record { step = number + 1; kind = kind } ∷ []) → Queueing script last (number + 1) before left old now
queueing_more script last number before mid left old between now step kind q found other goes is =
    let next = goes_next script number mid left step kind found goes in
    let cut : next_steps script mid number ≡ as_kind kind step ∷ next_steps script left (number + 1) = next.cut ∙ ap (λ b. as_kind kind step ∷ cond b [] (next_steps script left (number + 1))) other in
    record {
      within = next.within;
      asks = asks_on script last number (number + 1) before mid left q.asks next.asks;
      count = omega (arith, ap length cut, q.count);
      window = ap (λ b. with_pending now (now.pending ++ numbered (number + 1 + 1) (cond b [] (next_steps script left (number + 1))))) (sym other)
          ∙ grown script last number before mid left old between now step kind q next is;
    }

-- it is
pub queueing_ends : (script : Script) (last number : ℕ) (before mid left : List Chooser) (old between now : Window) (step : Step) (kind : Option Kind) → Queueing script last number before mid old between
    → step_at script.steps (number + 1) ≡ Some step → is_frame step ≡ true → Goes script (number + 1) (step_at script.steps (number + 1)) kind mid left
    → now ≡ with_pending between (between.pending ++ record { step = number + 1; kind = kind } ∷ []) → QueuesFrame (Ok (number + 1)) script last before left old now
queueing_ends script last number before mid left old between now step kind q found ends goes is =
    let next = goes_next script number mid left step kind found goes in
    let cut : next_steps script mid number ≡ as_kind kind step ∷ [] = next.cut ∙ ap (λ b. as_kind kind step ∷ cond b [] (next_steps script left (number + 1))) ends in (
      omega (arith, ap length cut, q.count),
      ap (with_pending now) (sym (append-nil now.pending))
          ∙ ap (λ b. with_pending now (now.pending ++ numbered (number + 1 + 1) (cond b [] (next_steps script left (number + 1))))) (sym ends)
          ∙ grown script last number before mid left old between now step kind q next is,
      asks_on script last number (number + 1) before mid left q.asks next.asks,
    )

-- no step is left
pub queueing_past : (script : Script) (last number : ℕ) (before left : List Chooser) (old now : Window) → Queueing script last number before left old now → step_at script.steps (number + 1) ≡ None → QueuesFrame (Ok number) script last before left old now
queueing_past script last number before left old now q none =
    let cut : next_steps script left number ≡ [] = ap first_frame (kinded_past script number left none) in (
      omega (arith, ap length cut, q.count),
      ap (with_pending now) (sym (append-nil now.pending)) ∙ ap (λ z. with_pending now (now.pending ++ numbered (number + 1) z)) (sym cut) ∙ q.window,
      q.asks,
    )

-- only what waits has changed
pub queueing_only : (script : Script) (last number : ℕ) (before left : List Chooser) (old now : Window) → Queueing script last number before left old now → now ≡ with_pending old now.pending
queueing_only script last number before left old now q = ap (λ z. with_pending z now.pending) q.window
