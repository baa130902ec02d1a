-- What waits in a server's end stays behind the first steps of its script.
use Rattle.std.proofs.Common.{◌≡◌, ℕ, zero, suc, ◌+◌, ◌-◌, ◌<◌, ◌==◌, Bool, true, false, cond, List, [], ◌∷◌, drop, None, refl, sym, ap, ◌∙◌, subst, arith}
use Rattle.std.specs.List.{AllByRecursion, slice_get}
use Rattle.std.specs.Option.{IfSome}
use Rattle.std.proofs.lemmas.Bool.{ne_eqb}
use Rattle.gfx_script.specs.Kinds.{KindedStep}
use Rattle.gfx_script.specs.Script.{step_at}
use Rattle.gfx_script.specs.Scripted.{Script}
use Rattle.gfx_script.specs.declared.step.Step.{Step}
use Rattle.gfx_planner.specs.Joined.{after_frame}
use Rattle.gfx_planner.proofs.Lists.{all_both}
use Rattle.gfx_window.specs.declared.window.Queued.{Queued}
use Rattle.gfx_schedule.specs.Forgetting.{IsBehind, StaysBehind}
use Rattle.gfx_schedule.specs.Hearing.{Heard, hears}
use Rattle.gfx_schedule.specs.ServerEnd.{ScheduledEnd, can_send, due, first_frame, numbered, queued, sends, with_sent}
use Rattle.gfx_schedule.proofs.FeedingTurns.{got}
use Rattle.gfx_schedule.proofs.Unheard.{hears_pending}
use Rattle.gfx_schedule.proofs.Unseen.{hears_keeps}

-- steps behind the first so many -----------------------------------------------------------------------------------

get_behind : {X : Type 0} (xs : List X) (over n : ℕ) → slice_get xs (over + n) ≡ slice_get (drop over xs) n
get_behind xs zero n = ap (slice_get xs) (omega arith)
get_behind [] (suc over) n = refl
get_behind (x ∷ xs) (suc over) n = let more : suc over + n ≡ suc (over + n) = omega arith in ap (slice_get (x ∷ xs)) more ∙ get_behind xs over n

pub step_behind : (steps : List Step) (over number : ℕ) → over < number → step_at steps number ≡ slice_get (drop over steps) (number - 1 - over)
step_behind steps over number lt =
    let some : (number == 0) ≡ false = ne_eqb number 0 (λ e. omega (arith, lt)) in
    let place : number - 1 ≡ over + (number - 1 - over) = omega (arith, lt) in
    ap (λ b. cond b None (slice_get steps (number - 1))) some ∙ ap (slice_get steps) place ∙ get_behind steps over (number - 1 - over)

-- the items of these steps are the same in steps that differ in the first so many alone, and what holds of each later step
-- holds of theirs
pub items_behind : (P : Step → Type 0) (over : ℕ) (whole steps : List Step) → drop over steps ≡ drop over whole → AllByRecursion P (drop over whole)
    → (items : List Queued) → AllByRecursion (λ (item : Queued). over < item.step) items
    → AllByRecursion (λ (item : Queued). (step_at steps item.step ≡ step_at whole item.step) × IfSome (step_at whole item.step) P) items
items_behind P over whole steps same all [] behind = tt
items_behind P over whole steps same all (item ∷ items) behind =
    let n : ℕ = item.step - 1 - over in
    let there = step_behind whole over item.step behind.0 in (
      (
        step_behind steps over item.step behind.0 ∙ ap (λ z. slice_get z n) same ∙ sym there,
        subst (λ z. IfSome z P) (sym there) (got P (drop over whole) n all),
      ),
      items_behind P over whole steps same all items behind.1,
    )

-- what waits -------------------------------------------------------------------------------------------------------

pub numbers_behind : (over at : ℕ) (more : List KindedStep) → over < at → AllByRecursion (λ (item : Queued). over < item.step) (numbered at more)
numbers_behind over at [] lt = tt
numbers_behind over at (one ∷ more) lt = (lt, numbers_behind over (at + 1) more (omega (arith, lt)))

pub queued_behind : (over : ℕ) (end : ScheduledEnd) → IsBehind over end → IsBehind over (queued end)
unfolding queued
queued_behind over end behind = record {
  items =
      all_both (λ (item : Queued). over < item.step) end.window.pending (numbered (end.last + 1) (first_frame end.left)) behind.items
      (numbers_behind over (end.last + 1) (first_frame end.left) (omega (arith, behind.last)));
  last = omega (arith, behind.last);
}

either_behind : (over : ℕ) (b : Bool) (x y : ScheduledEnd) → IsBehind over x → IsBehind over y → IsBehind over (cond b x y)
either_behind over true x y first second = first
either_behind over false x y first second = second

sends_behind : (over : ℕ) (script : Script) (end : ScheduledEnd) → IsBehind over end → IsBehind over (sends script end)
unfolding sends with_sent
sends_behind over script end behind =
    either_behind over (can_send end) (with_sent end (after_frame script end.server (due script end))) end (record { items = tt; last = behind.last }) behind

hears_behind : (over : ℕ) (script : Script) (heard : Heard) (bytes : List ℕ) → IsBehind over heard.end → IsBehind over (hears script heard bytes).end
hears_behind over script heard bytes behind = record {
  items = subst (AllByRecursion (λ (item : Queued). over < item.step)) (sym (hears_pending script heard bytes)) behind.items;
  last = omega (arith, behind.last, (hears_keeps script heard bytes).1);
}

pub stays_behind : StaysBehind
stays_behind over = record {
  serves = λ script end behind. sends_behind over script (queued end) (queued_behind over end behind);
  hears = hears_behind over;
  grows = λ end more behind. record { items = behind.items; last = behind.last };
}
