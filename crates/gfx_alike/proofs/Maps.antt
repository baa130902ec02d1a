-- Maps that have the same outlines: the same keys, and under each what is the same once some of it is left out.
use Rattle.std.proofs.Common.{◌≡◌, ℕ, ◌+◌, Bool, true, false, cond, not, List, [], ◌∷◌, map, length, Option, Some, None, is_some, refl, sym, ap, ◌∙◌}
use Rattle.std.specs.Cmp.{IsTotalOrder, alike_right, eq_by_cmp_equiv}
use Rattle.std.specs.List.{sum_by}
use Rattle.std.specs.Option.{option_map, ok_or}
use Rattle.std.specs.Ordering.{eq_by_cmp, is_eq}
use Rattle.std.specs.declared.cmp.Ordering.{Ordering}
use Rattle.std.specs.declared.cmp.Ordering.TheVariants.{Less, Equal, Greater}
use Rattle.std.specs.FinMap.{FinMap, IsAntisymmetric, entries, entries_sorted, get, contains_key, insert, remove, len, values, get-entries, get-remove, len-entries, entries-insert, find, put}
use Rattle.std.specs.FinMap.Entries.{where_key, by_order, is_sorted-where_key, find-where_key, same_entries}
use Rattle.std.proofs.lemmas.List.{length-map}
use Rattle.std.proofs.lemmas.List.Sums.{sum_by-cons}
use Rattle.gfx_state.specs.Alike.{outlines}
use Rattle.gfx_state.proofs.Following.{Follows, gives, never}

-- what may be missing, and is the same where it is there
abbrev pub SameAt : {X : Type 0} → (X → X) → Option X → Option X → Type 0
SameAt without x y = option_map without x ≡ option_map without y

-- where the first is there, so is the second
pub found : {X E : Type 0} (without : X → X) (x y : Option X) (r : E) → SameAt without x y
    → Follows (λ a b. without a ≡ without b) (ok_or x r) (ok_or y r)
found without None y r same = never _ r (ok_or y r)
found without (Some a) (Some b) r same = gives (λ a b. without a ≡ without b) a b (let h : Some (without a) ≡ Some (without b) = same in cc)
found without (Some a) None r same = let h : Some (without a) ≡ None = same in absurd cc

there : {X : Type 0} (without : X → X) (x : Option X) → is_some x ≡ is_some (option_map without x)
there without None = refl
there without (Some a) = refl

swapped : {X : Type 0} (b : Bool) (x : Option X) → cond b None x ≡ cond (not b) x None
swapped true x = refl
swapped false x = refl

-- lists of entries ------------------------------------------------------------------------------------------

module _ {K X : Type 0} (without : X → X) where
  abbrev bare : List (K × X) → List (K × X)
  bare es = map (λ e. (e.0, without e.1)) es

  bare-put : (R : K → K → Ordering) (k : K) (v : X) (es : List (K × X)) → bare (put R k v es) ≡ put R k (without v) (bare es)
  bare-put R k v [] = refl
  bare-put R k v (e ∷ es) =
      elim (R k e.0) as (λ o. bare (by_order o ((k, v) ∷ e ∷ es) ((e.0, v) ∷ es) (e ∷ put R k v es))
      ≡ by_order o ((k, without v) ∷ bare (e ∷ es)) ((e.0, without v) ∷ bare es) ((e.0, without e.1) ∷ put R k (without v) (bare es))) [
        | Less ↦ refl
        | Equal ↦ refl
        | Greater ↦ λ i. (e.0, without e.1) ∷ bare-put R k v es i
      ]

  bare-where_key : (R : K → K → Ordering) (p : K → Bool) (es : List (K × X)) → bare (where_key R p es) ≡ where_key R p (bare es)
  bare-where_key R p [] = refl
  bare-where_key R p (e ∷ es) =
      elim (p e.0) as (λ b. bare (cond b (e ∷ where_key R p es) (where_key R p es)) ≡ cond b ((e.0, without e.1) ∷ where_key R p (bare es)) (where_key R p (bare es))) [
        | true ↦ λ i. (e.0, without e.1) ∷ bare-where_key R p es i
        | false ↦ bare-where_key R p es
      ]

  bare-find : (R : K → K → Ordering) (q : K) (es : List (K × X)) → find R q (bare es) ≡ option_map without (find R q es)
  bare-find R q [] = refl
  bare-find R q (e ∷ es) =
      elim (eq_by_cmp R q e.0) as (λ b. cond b (Some (without e.1)) (find R q (bare es)) ≡ option_map without (cond b (Some e.1) (find R q es))) [
        | true ↦ refl
        | false ↦ bare-find R q es
      ]

  -- a sum that reads nothing of what is left out
  bare-sum : (f : X → ℕ) → ((x : X) → f (without x) ≡ f x) → (es : List (K × X)) → sum_by f (map (λ e. e.1) (bare es)) ≡ sum_by f (map (λ e. e.1) es)
  bare-sum f unread [] = refl
  bare-sum f unread (e ∷ es) =
      sum_by-cons f (without e.1) (map (λ e. e.1) (bare es)) ∙ (λ i. unread e.1 i + bare-sum f unread es i) ∙ sym (sum_by-cons f e.1 (map (λ e. e.1) es))

-- maps --------------------------------------------------------------------------------------------------------

module _ {K X : Type 0} {R : K → K → Ordering} (without : X → X) where
  -- the same outlines
  abbrev pub SameOutlines : FinMap R X → FinMap R X → Type 0
  SameOutlines m n = outlines without m ≡ outlines without n

  pub same-get : (m n : FinMap R X) (q : K) → SameOutlines m n → SameAt without (get m q) (get n q)
  same-get m n q same =
      ap (option_map without) (get-entries m q) ∙ sym (bare-find without R q (entries m)) ∙ ap (find R q) same
      ∙ bare-find without R q (entries n) ∙ ap (option_map without) (sym (get-entries n q))

  pub same-contains_key : (m n : FinMap R X) (q : K) → SameOutlines m n → contains_key m q ≡ contains_key n q
  same-contains_key m n q same = there without (get m q) ∙ ap is_some (same-get m n q same) ∙ sym (there without (get n q))

  pub same-len : (m n : FinMap R X) → SameOutlines m n → len m ≡ len n
  same-len m n same =
      len-entries m ∙ sym (length-map (entries m) (λ e. (e.0, without e.1))) ∙ ap length same
      ∙ length-map (entries n) (λ e. (e.0, without e.1)) ∙ sym (len-entries n)

  pub same-sum : (f : X → ℕ) → ((x : X) → f (without x) ≡ f x) → (m n : FinMap R X) → SameOutlines m n → sum_by f (values m) ≡ sum_by f (values n)
  same-sum f unread m n same =
      sym (bare-sum without f unread (entries m)) ∙ ap (λ (es : List (K × X)). sum_by f (map (λ e. e.1) es)) same ∙ bare-sum without f unread (entries n)

  pub outlines-insert : IsTotalOrder R → (m : FinMap R X) (k : K) (v : X) → outlines without (insert m k v) ≡ put R k (without v) (outlines without m)
  outlines-insert o m k v = ap (bare without) (entries-insert o m k v) ∙ bare-put without R k v (entries m)

  pub same-insert : IsTotalOrder R → (m n : FinMap R X) (k : K) (v w : X) → without v ≡ without w → SameOutlines m n → SameOutlines (insert m k v) (insert n k w)
  same-insert o m n k v w value same = outlines-insert o m k v ∙ (λ i. put R k (value i) (same i)) ∙ sym (outlines-insert o n k w)

  tied : IsTotalOrder R → (k q x : K) → R q x ≡ Equal → not (eq_by_cmp R k x) ≡ not (eq_by_cmp R k q)
  tied o k q x t = ap (λ r. not (is_eq r)) (sym (alike_right o q x k t))

  find-remove : IsTotalOrder R → (m : FinMap R X) (k q : K) → get (remove m k) q ≡ cond (not (eq_by_cmp R k q)) (find R q (entries m)) None
  find-remove o m k q =
      get-remove o m k q ∙ swapped (eq_by_cmp R q k) (get m q)
      ∙ (λ i. cond (not ((eq_by_cmp_equiv o).symm q k i)) (get-entries m q i) None)

  entries-remove : IsTotalOrder R → IsAntisymmetric R → (m : FinMap R X) (k : K) → entries (remove m k) ≡ where_key R (λ x. not (eq_by_cmp R k x)) (entries m)
  entries-remove o apart m k =
      same_entries R o apart _ _ (entries_sorted (remove m k)) (is_sorted-where_key R _ (entries m) (entries_sorted m)) (λ q.
      sym (get-entries (remove m k) q) ∙ find-remove o m k q ∙ sym (find-where_key R (λ x. not (eq_by_cmp R k x)) q (tied o k q) (entries m)))

  pub outlines-remove : IsTotalOrder R → IsAntisymmetric R → (m : FinMap R X) (k : K) → outlines without (remove m k) ≡ where_key R (λ x. not (eq_by_cmp R k x)) (outlines without m)
  outlines-remove o apart m k = ap (bare without) (entries-remove o apart m k) ∙ bare-where_key without R (λ x. not (eq_by_cmp R k x)) (entries m)

  pub same-remove : IsTotalOrder R → IsAntisymmetric R → (m n : FinMap R X) (k : K) → SameOutlines m n → SameOutlines (remove m k) (remove n k)
  same-remove o apart m n k same =
      outlines-remove o apart m k ∙ ap (where_key R (λ x. not (eq_by_cmp R k x))) same ∙ sym (outlines-remove o apart n k)
