-- Tests of all numbers below one.
use Rattle.std.proofs.Common.{◌≡◌, ℕ, zero, suc, ◌+◌, ◌<◌, ◌≤◌, Bool, true, false, ◌&&◌, List, [], ◌∷◌, length, get_or, refl, ap, ◌∙◌, arith, inl, inr}
use Rattle.std.specs.Prelude.{nat_le, slice_index}
use Rattle.std.proofs.lemmas.Bool.{cases_lt}
use Rattle.gfx_quant.specs.declared.quant.Component.{Component}
use Rattle.gfx_quant.specs.declared.setting.Level.{Level}
use Rattle.gfx_quant.specs.Quant.{is_base, noughts}
use Rattle.gfx_quant.specs.Setting.{all_below, of_level, left_out, stays_within, falls_well, is_fine}

-- one test more
pub one-more : (n : ℕ) (test : ℕ → Bool) (so_far here : Bool) → so_far ≡ all_below n test → here ≡ test n → (so_far && here) ≡ all_below (n + 1) test
unfolding all_below
one-more n test so_far here e f = ap (λ b. b && here) e ∙ ap (λ b. all_below n test && b) f ∙ ap (λ m. all_below m test) {x = suc n} {y = n + 1} (omega arith)

pub and-assoc : (a b c : Bool) → ((a && b) && c) ≡ (a && (b && c))
and-assoc true b c = refl
and-assoc false b c = refl

pub left-listed : (component : Component) (levels : List Level) (i : ℕ) (d : Level) → i < length levels → of_level component (get_or levels i d) ≡ left_out component levels i
left-listed component [] i d h = absurd (omega arith)
left-listed component (level ∷ levels) zero d h = refl
left-listed component (level ∷ levels) (suc i) d h = left-listed component levels i d (omega arith)

pub left-behind : (component : Component) (levels : List Level) (i : ℕ) → length levels ≤ i → noughts ≡ left_out component levels i
left-behind component [] i h = refl
left-behind component (level ∷ levels) zero h = absurd (omega arith)
left-behind component (level ∷ levels) (suc i) h = left-behind component levels i (omega arith)

both : (a b : Bool) → (a && b) ≡ true → (a ≡ true) × (b ≡ true)
both true b e = (refl, e)
both false b e = cc

-- what a test of all says of each
pub each-below : (n : ℕ) (test : ℕ → Bool) → all_below n test ≡ true → (k : ℕ) → k < n → test k ≡ true
unfolding all_below
each-below zero test e k h = absurd (omega arith)
each-below (suc n) test e k h = elim (cases_lt k n) [
  | inl less ↦ each-below n test (both (all_below n test) (test n) e).0 k less
  | inr on ↦ ap test {x = k} {y = n} (omega arith) ∙ (both (all_below n test) (test n) e).1
]

pub and-true : (b : Bool) → b ≡ (b && true)
and-true true = refl
and-true false = refl

-- the tests of all bands, and of all levels
pub stays-whole : (base level : List ℕ) (n : ℕ) (b : Bool) → b ≡ all_below n (λ k. nat_le (slice_index base k + slice_index level k) 15) → n ≡ 10 → b ≡ stays_within base level
unfolding stays_within
stays-whole base level n b e f = e ∙ ap (λ m. all_below m (λ k. nat_le (slice_index base k + slice_index level k) 15)) f

pub falls-whole : (level next : List ℕ) (n : ℕ) (b : Bool)
    → b ≡ all_below n (λ k. nat_le (slice_index next k) (slice_index level k) && nat_le (slice_index level k) (slice_index next k + 6)) → n ≡ 10 → b ≡ falls_well level next
unfolding falls_well
falls-whole level next n b e f = e ∙ ap (λ m. all_below m (λ k. nat_le (slice_index next k) (slice_index level k) && nat_le (slice_index level k) (slice_index next k + 6))) f

-- whether a level stays within its base and falls well to the next
abbrev pub level-test : Component → List ℕ → List Level → ℕ → Bool
level-test component base levels i = stays_within base (left_out component levels i) && falls_well (left_out component levels i) (left_out component levels (suc i))

pub fine-whole : (component : Component) (base : List ℕ) (levels : List Level) (n : ℕ) (b : Bool) → b ≡ (is_base base && all_below n (level-test component base levels)) → n ≡ length levels → b ≡ is_fine component base levels
unfolding is_fine
fine-whole component base levels n b e f = e ∙ ap (λ m. is_base base && all_below m (level-test component base levels)) f

pub fine-more : (component : Component) (base : List ℕ) (levels : List Level) (n : ℕ) (b here : Bool) → b ≡ (is_base base && all_below n (level-test component base levels))
    → here ≡ (stays_within base (left_out component levels n) && falls_well (left_out component levels n) (left_out component levels (n + 1)))
    → (b && here) ≡ (is_base base && all_below (n + 1) (level-test component base levels))
fine-more component base levels n b here e f =
    ap (λ x. x && here) e
    ∙ and-assoc (is_base base) (all_below n (level-test component base levels)) here
    ∙ ap (λ x. is_base base && x)
    (one-more n (level-test component base levels) (all_below n (level-test component base levels)) here refl
    (f ∙ ap (λ m. stays_within base (left_out component levels n) && falls_well (left_out component levels n) (left_out component levels m)) {x = n + 1} {y = suc n} (omega arith)))
