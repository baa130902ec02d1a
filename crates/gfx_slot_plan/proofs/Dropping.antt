-- The least recently used keys go, one after another.
use Rattle.std.proofs.Common.{◌≡◌, ◌∙◌, ◌<◌, ◌≤◌, ◌+◌, ◌-◌, not, ap, sym, refl, Bool, true, false, ℕ, zero, suc, List, [], ◌∷◌, ◌++◌, length, take, drop, arith, append_assoc, append-nil}
use Rattle.std.proofs.lemmas.List.{take_all, length-take-le}
use Rattle.gfx_slot_plan.specs.Pool.{Pool, pool_slots, is_none}
use Rattle.gfx_slot_plan.specs.Plan.{Allocations, slots_back, staying, left_for, gone_for, takes_more}
use Rattle.gfx_slot_plan.specs.Tied.{IsTied}
use Rattle.gfx_slot_plan.proofs.Order.{staying_stops, staying_goes, room_alone, slots_back_more, take_less, full_slots}

-- some of those behind the first are left; the others are dropped, and those that stay are among the left
pub record Dropping (before now : Allocations) (last most bytes : ℕ) (items0 items : List ℕ) (p : Pool) (sum len cap : ℕ) : Type 0 where
  pub count : ℕ
  pub fewer : count ≤ length (drop 1 before)
  pub places : now ≡ take 1 before ++ take count (drop 1 before)
  pub same : staying last most bytes (drop 1 before) count ≡ staying last most bytes (drop 1 before) (length (drop 1 before))
  pub dropped : items ≡ items0 ++ slots_back (drop count (drop 1 before))
  pub tied : IsTied (drop 1 now) p sum
  pub room : len + count ≤ cap

first_and_rest : (all : Allocations) → all ≡ take 1 all ++ drop 1 all
first_and_rest [] = refl
first_and_rest (e ∷ es) = refl

none_past : (all : Allocations) → drop (length all) all ≡ []
none_past [] = refl
none_past (e ∷ es) = none_past es

-- at the start all are left
pub dropping_none : (all : Allocations) (last most bytes : ℕ) (items : List ℕ) (p : Pool) (sum len cap : ℕ) → IsTied (drop 1 all) p sum
    → len + length (drop 1 all) ≤ cap → Dropping all all last most bytes items items p sum len cap
dropping_none all last most bytes items p sum len cap tied room = record {
  count = length (drop 1 all);
  fewer = omega arith;
  places = first_and_rest all ∙ ap (λ l. take 1 all ++ l) (sym (take_all (length (drop 1 all)) (drop 1 all) (omega arith)));
  same = refl;
  dropped = sym (ap (λ l. items ++ slots_back l) (none_past (drop 1 all)) ∙ append-nil items);
  tied = tied;
  room = room;
}

-- what a test says of its denial
pub denied : (b : Bool) → not b ≡ true → b ≡ false
denied true holds = let f : false ≡ true = holds in cc
denied false holds = refl

pub granted : (b : Bool) → not b ≡ false → b ≡ true
granted true holds = refl
granted false holds = let f : true ≡ false = holds in cc

-- while there is no room some are left
pub dropping_some : (before now : Allocations) (last most bytes : ℕ) (items0 items : List ℕ) (p : Pool) (sum len cap : ℕ) → 0 < length before
    → Dropping before now last most bytes items0 items p sum len cap → 1 ≤ last → bytes ≤ most → takes_more last most bytes (drop 1 now) ≡ false
    → (1 < length now) × (len < cap)
dropping_some [] now last most bytes items0 items p sum len cap some d first alone full = absurd (omega arith)
dropping_some (e ∷ es) now last most bytes items0 items p sum len cap some d first alone full = by d.count refl
  where
    by : (n : ℕ) → d.count ≡ n → (1 < length now) × (len < cap)
    by zero is =
        let none : drop 1 now ≡ [] = ap (λ l. drop 1 l) d.places ∙ ap (λ n. take n es) is in
        let no : true ≡ false = sym (room_alone last most bytes first alone) ∙ sym (ap (takes_more last most bytes) none) ∙ full in absurd cc
    by (suc k) is =
        let fewer = d.fewer in
        let room = d.room in
        let long : length (take d.count es) ≡ d.count = length-take-le d.count es fewer in
        let all : length now ≡ suc (length (take d.count es)) = ap length d.places in
        (omega arith, omega arith)

-- and one goes
pub dropping_more : (before now next : Allocations) (last most bytes : ℕ) (items0 items more : List ℕ) (p q : Pool) (sum left len longer cap same : ℕ) → 0 < length before
    → Dropping before now last most bytes items0 items p sum len cap → 1 ≤ last → bytes ≤ most → takes_more last most bytes (drop 1 now) ≡ false
    → next ≡ take (length now - 1) now → more ≡ items ++ slots_back (drop (length now - 1) now) → IsTied (drop 1 next) q left
    → longer ≡ len + 1 → same ≡ cap → Dropping before next last most bytes items0 more q left longer same
dropping_more [] now next last most bytes items0 items more p q sum left len longer cap same some d first alone full is adds tied one keeps = absurd (omega arith)
dropping_more (e ∷ es) now next last most bytes items0 items more p q sum left len longer cap same some d first alone full is adds tied one keeps = by d.count refl
  where
    by : (n : ℕ) → d.count ≡ n → Dropping (e ∷ es) next last most bytes items0 more q left longer same
    by zero none =
        let none_left : drop 1 now ≡ [] = ap (λ l. drop 1 l) d.places ∙ ap (λ n. take n es) none in
        let no : true ≡ false = sym (room_alone last most bytes first alone) ∙ sym (ap (takes_more last most bytes) none_left) ∙ full in absurd cc
    by (suc k) count =
        let fewer = d.fewer in
        let room = d.room in
        let places : now ≡ e ∷ take (suc k) es = d.places ∙ ap (λ n. e ∷ take n es) count in
        let long : length (take (suc k) es) ≡ suc k = length-take-le (suc k) es (omega arith) in
        let all : length now ≡ suc (length (take (suc k) es)) = ap length places in
        let less : length now - 1 ≡ suc k = omega arith in
        record {
          count = k;
          fewer = omega arith;
          places = is ∙ (λ i. take (less i) (places i)) ∙ ap (λ l. e ∷ l) (take_less k es);
          same = sym (staying_goes last most bytes es k (sym (ap (λ l. takes_more last most bytes (drop 1 l)) places) ∙ full))
              ∙ ap (staying last most bytes es) (sym count) ∙ d.same;
          dropped = adds ∙ (λ i. (d.dropped ∙ ap (λ n. items0 ++ slots_back (drop n es)) count) i ++ slots_back (drop (less i) (places i)))
              ∙ append_assoc items0 (slots_back (drop (suc k) es)) (slots_back (drop k (take (suc k) es)))
              ∙ ap (λ l. items0 ++ l) (sym (slots_back_more k es));
          tied = tied;
          room = omega arith;
        }

-- once there is room, as many are left as stay
pub dropping_all : (before now : Allocations) (last most bytes : ℕ) (items0 items : List ℕ) (p : Pool) (sum len cap : ℕ) → 0 < length before
    → Dropping before now last most bytes items0 items p sum len cap → takes_more last most bytes (drop 1 now) ≡ true
    → (now ≡ take 1 before ++ left_for last most bytes (drop 1 before)) × (items ≡ items0 ++ slots_back (gone_for last most bytes (drop 1 before)))
dropping_all [] now last most bytes items0 items p sum len cap some d room = absurd (omega arith)
dropping_all (e ∷ es) now last most bytes items0 items p sum len cap some d room =
    let stays : staying last most bytes es (length es) ≡ d.count =
    sym d.same ∙ staying_stops last most bytes es d.count (sym (ap (λ l. takes_more last most bytes (drop 1 l)) d.places) ∙ room) in
    (d.places ∙ ap (λ n. e ∷ take n es) (sym stays), d.dropped ∙ ap (λ n. items0 ++ slots_back (drop n es)) (sym stays))

-- and a slot is free
pub room_slots : (places : Allocations) (p : Pool) (b most bytes : ℕ) → IsTied places p b → takes_more p.last most bytes places ≡ true → is_none (pool_slots p) ≡ false
room_slots places p b most bytes tied room = by (is_none (pool_slots p)) refl
  where
    by : (t : Bool) → is_none (pool_slots p) ≡ t → is_none (pool_slots p) ≡ false
    by true none = let no : true ≡ false = sym (full_slots places p b most bytes tied none) ∙ ap not room in cc
    by false some = some
