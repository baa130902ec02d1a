-- Values that were read are in range.
use Rattle.std.proofs.Common.{◌≡◌, ℕ, zero, suc, ◌<◌, ◌≤◌, Bool, true, false, cond, ◌&&◌, ℤ, pos, negsuc, List, [], ◌∷◌, length, take, refl, ap, ◌∙◌, arith, Result, Ok, Err}
use Rattle.std.specs.List.{list_all}
use Rattle.std.proofs.lemmas.Bool.{leb-true}
use Rattle.std.proofs.lemmas.Int.{ints}
use Rattle.std.proofs.lemmas.List.{length-take-le}
use Rattle.gfx_base.specs.declared.refusal.Refusal.{Refusal}
use Rattle.gfx_base.specs.declared.refusal.Refusal.TheVariants.{CoefficientRange}
use Rattle.gfx_rlgr.specs.Code.{start}
use Rattle.gfx_rlgr.specs.Rlgr.{Rlgr, answer, in_range, terms}
use Rattle.gfx_rlgr.proofs.Tokens.{needed-fewest}
use Rattle.gfx_dwt.specs.Ranges.{Within, at}

values-of : Result (List ℤ) Refusal → List ℤ
values-of (Ok values) = values
values-of (Err refusal) = []

is-ok : Result (List ℤ) Refusal → Bool
is-ok (Ok values) = true
is-ok (Err refusal) = false

answered : (xs values : List ℤ) → Ok values ≡ answer xs → (values ≡ xs) × (list_all in_range values ≡ true)
unfolding answer values-of is-ok
answered xs values e = go (list_all in_range xs) refl e
  where
    go : (b : Bool) → list_all in_range xs ≡ b → ◌≡◌ {A = Result (List ℤ) Refusal} (Ok values) (cond b (Ok xs) (Err CoefficientRange)) → (values ≡ xs) × (list_all in_range values ≡ true)
    go true is same = (ap values-of same, ap (λ r. list_all in_range (values-of r)) same ∙ is)
    go false is same = absurd (true-false (ap is-ok same))
      where
        true-false : true ≡ false → ⊥
        true-false f = cc

both : (a b : Bool) → (a && b) ≡ true → (a ≡ true) × (b ≡ true)
both true b e = (refl, e)
both false b e = cc

range-within : (z : ℤ) → in_range z ≡ true → Within 32767 z
range-within (pos n) e = let most : n ≤ 32767 = leb-true n 32767 e in record { low = omega (arith, ints); high = omega (arith, ints) }
range-within (negsuc n) e = let most : suc n ≤ 32767 = leb-true (suc n) 32767 e in record { low = omega (arith, ints); high = omega (arith, ints) }

each-within : (values : List ℤ) → list_all in_range values ≡ true → (k : ℕ) → k < length values → Within 32767 (at values k)
each-within [] all k h = absurd (omega arith)
each-within (x ∷ values) all zero h = range-within x (both (in_range x) (list_all in_range values) all).0
each-within (x ∷ values) all (suc k) h = each-within values (both (in_range x) (list_all in_range values) all).1 k (omega arith)

pub values-within : (bytes : List ℕ) (values : List ℤ) → Rlgr bytes (Ok values) → (k : ℕ) → k < length values → Within 32767 (at values k)
values-within bytes values read = each-within values (answered _ values read.2).1

-- bytes say 4,096 values
pub values-whole : (bytes : List ℕ) (values : List ℤ) → Rlgr bytes (Ok values) → length values ≡ 4096
values-whole bytes values read =
    ap length (answered (take 4096 (terms start read.0)) values read.2).0
    ∙ length-take-le 4096 (terms start read.0) (needed-fewest 4096 start read.0 read.1.fewest)
