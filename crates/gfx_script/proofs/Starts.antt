-- The bitmaps that a script starts with, kept one after another.
use Rattle.std.proofs.Common.{◌≡◌, ◌∙◌, ◌<◌, ◌≤◌, ◌+◌, ap, sym, subst, Bool, ℕ, List, [], ◌∷◌, ◌++◌, map, length, take, drop, get_or, Ok, Err, arith}
use Rattle.std.specs.FinMap.{FinMap, empty, insert}
use Rattle.std.specs.Ordering.{nat_cmp}
use Rattle.std.proofs.lemmas.List.{drop_more, length-map, map-append, take-append-drop, take_all, take_more}
use Rattle.gfx_slot_plan.specs.Plan.{IsPlan, keeps}
use Rattle.gfx_slot_plan.specs.Started.{plan_with}
use Rattle.gfx_slot_plan.proofs.InTurn.{IsNext, keeps_in_turn, next_planned}
use Rattle.gfx_script.specs.declared.error.ScriptKind.{ScriptKind}
use Rattle.gfx_script.specs.declared.held.Sides.{Sides}
use Rattle.gfx_script.specs.declared.start.StartBitmap.{StartBitmap}
use Rattle.gfx_script.specs.Checks.{held_from, sides_of_all}
use Rattle.gfx_script.specs.Script.{IsAccepted, IsAcceptedAtStart, IsAcceptedFrom}
use Rattle.gfx_script.specs.Scripted.{Script}
use Rattle.gfx_script.specs.Starting.{IsStart, key_bytes, sides_from, stock_with}
use Rattle.gfx_script.specs.Stock.{Stock, bitmap_kept}
use Rattle.gfx_script.proofs.Bitmaps.{kept_bitmap}

-- ---- one more

pub sides_append : (sides : FinMap nat_cmp Sides) (at : ℕ) (front more : List StartBitmap) → sides_from sides at (front ++ more) ≡ sides_from (sides_from sides at front) (at + length front) more
sides_append sides at [] more =
    let same : at ≡ at + length {A = StartBitmap} [] = omega arith in
    ap (λ n. sides_from sides n more) same
sides_append sides at (one ∷ front) more =
    let next : FinMap nat_cmp Sides = insert sides at one.sides in
    let same : at + 1 + length front ≡ at + length (one ∷ front) = omega arith in
    sides_append next (at + 1) front more ∙ ap (λ n. sides_from (sides_from next (at + 1) front) n more) same

pub sides_last : (front : List StartBitmap) (one : StartBitmap) → sides_from empty 1 (front ++ one ∷ []) ≡ insert (sides_from empty 1 front) (length front + 1) one.sides
sides_last front one =
    let same : 1 + length front ≡ length front + 1 = omega arith in
    sides_append empty 1 front (one ∷ []) ∙ ap (λ n. insert (sides_from empty 1 front) n one.sides) same

-- each bitmap of a start may be kept behind those in front of it
pub next_start : (small : Bool) (front : List StartBitmap) (one : StartBitmap) (more : List StartBitmap) → IsStart (front ++ one ∷ more) small
    → IsNext small (map key_bytes front) (key_bytes one)
next_start small front one more is =
    next_planned small (map key_bytes front) (key_bytes one) (map key_bytes more) (subst (λ l. IsPlan (plan_with l small)) (map-append key_bytes front (one ∷ more)) is)

-- and is, in the next slot
pub keeps_start : (small : Bool) (front : List StartBitmap) (one : StartBitmap) (more : List StartBitmap) → IsStart (front ++ one ∷ more) small
    → keeps (plan_with (map key_bytes front) small) one.key one.sides.width one.sides.height
    ≡ Ok (plan_with (map key_bytes (front ++ one ∷ [])) small, record { dropped = []; slot = length front + 1 })
keeps_start small front one more is =
    let next = next_start small front one more is in
    keeps_in_turn small (map key_bytes front) one.key one.sides.width one.sides.height next.before next.fresh next.slot next.room
    ∙ (λ i. Ok (plan_with (sym (map-append key_bytes front (one ∷ [])) i) small, record { dropped = []; slot = length-map front key_bytes i + 1 }))

pub stock_next : (small : Bool) (front : List StartBitmap) (one : StartBitmap) (more : List StartBitmap) → IsStart (front ++ one ∷ more) small
    → bitmap_kept (stock_with front small) one.key one.sides.width one.sides.height ≡ Ok (stock_with (front ++ one ∷ []) small)
stock_next small front one more is =
    kept_bitmap (stock_with front small) one.key one.sides.width one.sides.height (plan_with (map key_bytes (front ++ one ∷ [])) small)
    record { dropped = []; slot = length front + 1 } (sides_from empty 1 (front ++ one ∷ [])) (keeps_start small front one more is) (sides_last front one)

-- ---- so far, by the place of the next

module _ (small : Bool) (start : List StartBitmap) (at : ℕ) (none : StartBitmap) (below : at < length start) where
  parted : start ≡ take at start ++ get_or start at none ∷ drop (at + 1) start
  parted = sym (take-append-drop at start) ∙ ap (λ l. take at start ++ l) (drop_more start at none below)

  pub stock_at : IsStart start small
      → bitmap_kept (stock_with (take at start) small) (get_or start at none).key (get_or start at none).sides.width (get_or start at none).sides.height
      ≡ Ok (stock_with (take (at + 1) start) small)
  stock_at is =
      stock_next small (take at start) (get_or start at none) (drop (at + 1) start) (subst (λ l. IsStart l small) parted is)
      ∙ ap (λ l. Ok (stock_with l small)) (sym (take_more start at none below))

pub stock_all : (small : Bool) (start : List StartBitmap) (at : ℕ) → length start ≤ at → stock_with (take at start) small ≡ stock_with start small
stock_all small start at past = ap (λ l. stock_with l small) (take_all at start past)

-- what is kept on a stock that is this one
pub kept_as : (stock before after new : Stock) (key width height : ℕ) → stock ≡ before → bitmap_kept before key width height ≡ Ok after
    → bitmap_kept stock key width height ≡ Ok new → new ≡ after
kept_as stock before after new key width height same due found =
    let both : Ok new ≡ Ok after = sym found ∙ ap (λ s. bitmap_kept s key width height) same ∙ due in cc

pub never_refused : (stock before after : Stock) (key width height : ℕ) (kind : ScriptKind) → stock ≡ before → bitmap_kept before key width height ≡ Ok after
    → bitmap_kept stock key width height ≡ Err kind → ⊥
never_refused stock before after key width height kind same due refused =
    let both : Err kind ≡ Ok after = sym refused ∙ ap (λ s. bitmap_kept s key width height) same ∙ due in absurd cc

-- ---- a start with nothing

pub no_start : (small : Bool) → IsStart [] small
no_start small = record { keys = tt; slots = tt; within = omega arith }

-- a script that starts with nothing is accepted at its start exactly where it is accepted
pub accepted_at_start : (script : Script) → script.start ≡ [] → IsAccepted script → IsAcceptedAtStart script
accepted_at_start script none is = record {
  start = subst (λ start. IsStart start script.small) (sym none) (no_start script.small);
  accepted = subst (λ start. IsAcceptedFrom (held_from (sides_of_all script.pictures) (stock_with start script.small)) script) (sym none) is;
}

pub accepted_from_nothing : (script : Script) → script.start ≡ [] → IsAcceptedAtStart script → IsAccepted script
accepted_from_nothing script none is =
    subst (λ start. IsAcceptedFrom (held_from (sides_of_all script.pictures) (stock_with start script.small)) script) none is.accepted
