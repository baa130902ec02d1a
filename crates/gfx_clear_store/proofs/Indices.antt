-- The index through writes: a place goes, the order of writing moves on, a place is entered.
use Rattle.std.proofs.Common.{◌≡◌, ◌≢◌, ◌⊎◌, inl, inr, ℕ, ◌<◌, ◌≤◌, Bool, true, false, nat_eq, cond, List, length, set, get_or, Option, Some, None, refl, sym, ap, ◌∙◌, subst, arith}
use Rattle.std.proofs.lemmas.Bool.{cases_eq, cases_lt}
use Rattle.std.proofs.lemmas.Bool.Decides.{nat_tests}
use Rattle.std.proofs.lemmas.List.{get_or-set_other, get_or-set_same}
use Rattle.gfx_clear_store.specs.Index.{Leads, IsIndex}

-- the homes without one place
abbrev pub without : ℕ → (ℕ → Option ℕ) → ℕ → Option ℕ
without gone home_by place = cond (nat_eq place gone) None (home_by place)

-- the homes with one place more, or another home for it
abbrev pub with_home : ℕ → Option ℕ → (ℕ → Option ℕ) → ℕ → Option ℕ
with_home new home home_by place = cond (nat_eq place new) home (home_by place)

at_itself : (n : ℕ) → nat_eq n n ≡ true
at_itself n = grind (arith, nat_tests)

apart_is : (m n : ℕ) → m ≢ n → nat_eq m n ≡ false
apart_is m n apart = grind (arith, nat_tests)

-- what is left was there, and is another place
left_is : (gone place home : ℕ) (home_by : ℕ → Option ℕ) → without gone home_by place ≡ Some home → (place ≢ gone) × (home_by place ≡ Some home)
left_is gone place home home_by e = by (nat_eq place gone) refl
  where
    by : (b : Bool) → nat_eq place gone ≡ b → (place ≢ gone) × (home_by place ≡ Some home)
    by true same = let none : None ≡ Some home = sym (ap (λ z. cond z None (home_by place)) same) ∙ e in absurd cc
    by false differ = ((λ is. let no : true ≡ false = sym (at_itself gone) ∙ ap (λ z. nat_eq z gone) (sym is) ∙ differ in absurd cc), sym (ap (λ z. cond z None (home_by place)) differ) ∙ e)

left_stays : (gone place : ℕ) (home_by : ℕ → Option ℕ) → place ≢ gone → without gone home_by place ≡ home_by place
left_stays gone place home_by apart = ap (λ z. cond z None (home_by place)) (apart_is place gone apart)

-- the oldest place may go
pub index_less : (order : ℕ → ℕ) (home_by : ℕ → Option ℕ) (latest earlier : List ℕ) (gone : ℕ)
    → ((place home : ℕ) → home_by place ≡ Some home → order place ≤ order gone → place ≡ gone)
    → IsIndex order home_by latest earlier → IsIndex order (without gone home_by) latest earlier
index_less order home_by latest earlier gone oldest index = record {
  first = λ place home e.
      let there = left_is gone place home home_by e in
      let leads = index.first place home there.1 in
      still place home _ there leads;
  next = λ from place home e f less.
      let there = left_is gone place home home_by f in
      let leads = index.next from place home (left_is gone from home home_by e).1 there.1 less in
      (still place home _ there leads.0, leads.1);
}
  where
    still : (place home link : ℕ) → (place ≢ gone) × (home_by place ≡ Some home) → Leads order home_by home place link → Leads order (without gone home_by) home place link
    still place home link there leads =
        let other : link ≢ gone = λ is. there.0 (oldest place home there.1 (subst (λ z. order place ≤ order z) is leads.after)) in
        record { after = leads.after; same = left_stays gone link home_by other ∙ leads.same }

-- another order in which the places stand alike serves as well
pub index_ranked : (order order' : ℕ → ℕ) (home_by : ℕ → Option ℕ) (latest earlier : List ℕ)
    → ((p q h k : ℕ) → home_by p ≡ Some h → home_by q ≡ Some k → (order p ≤ order q → order' p ≤ order' q) × (order p < order q → order' p < order' q))
    → IsIndex order home_by latest earlier → IsIndex order' home_by latest earlier
index_ranked order order' home_by latest earlier alike index = record {
  first = λ place home e.
      let leads = index.first place home e in
      record { after = (alike place _ home home e leads.same).0 leads.after; same = leads.same };
  next = λ from place home e f less.
      let leads = index.next from place home e f (back from place home e f less) in (
        record { after = (alike place _ home home f leads.0.same).0 leads.0.after; same = leads.0.same },
        (alike _ from home home leads.0.same e).1 leads.1,
      );
}
  where
    back : (from place home : ℕ) → home_by from ≡ Some home → home_by place ≡ Some home → order' place < order' from → order place < order from
    back from place home e f less = by (cases_lt (order place) (order from))
      where
        by : ((order place < order from) ⊎ (order from ≤ order place)) → order place < order from
        by (inl is) = is
        by (inr turns) = let turned = (alike from place home home e f).0 turns in absurd (omega arith)

-- the latest place is entered
pub index_more : (order : ℕ → ℕ) (home_by : ℕ → Option ℕ) (latest earlier : List ℕ) (new home : ℕ)
    → home < length latest → new < length earlier → home_by new ≡ None
    → ((place other : ℕ) → home_by place ≡ Some other → order place < order new)
    → IsIndex order home_by latest earlier
    → IsIndex order (with_home new (Some home) home_by) (set latest home new) (set earlier new (get_or latest home 0))
index_more order home_by latest earlier new home in_latest in_earlier fresh newest index = record {
  first = λ place at e. first place at (cases_eq place new) (cases_eq at home) e;
  next = λ from place at e f less. next from place at (cases_eq from new) (cases_eq place new) e f less;
}
  where
    homes : ℕ → Option ℕ
    homes = with_home new (Some home) home_by

    here : homes new ≡ Some home
    here = ap (λ z. cond z (Some home) (home_by new)) (at_itself new)

    there : (place : ℕ) → place ≢ new → homes place ≡ home_by place
    there place apart = ap (λ z. cond z (Some home) (home_by place)) (apart_is place new apart)

    -- what is reached was there before
    kept : (place at link : ℕ) → Leads order home_by at place link → Leads order homes at place link
    kept place at link leads =
        let other : link ≢ new = λ is. (let none : None ≡ Some at = sym fresh ∙ ap home_by (sym is) ∙ leads.same in absurd cc) in
        record { after = leads.after; same = there link other ∙ leads.same }

    moved : (place at link link' : ℕ) → link' ≡ link → Leads order homes at place link → Leads order homes at place link'
    moved place at link link' e leads = subst (λ z. Leads order homes at place z) (sym e) leads

    first : (place at : ℕ) → ((place ≡ new) ⊎ (place ≢ new)) → ((at ≡ home) ⊎ (at ≢ home)) → homes place ≡ Some at → Leads order homes at place (get_or (set latest home new) at 0)
    first place at (inl is) (inl same) e = moved place at new _ (ap (λ z. get_or (set latest home new) z 0) same ∙ get_or-set_same latest home new 0 in_latest)
        (record { after = subst (λ z. order z ≤ order new) (sym is) (omega arith); same = here ∙ ap Some (sym same) })
    first place at (inl is) (inr apart) e =
        let both : Some home ≡ Some at = sym here ∙ ap homes (sym is) ∙ e in
        let same : home ≡ at = cc in absurd (apart (sym same))
    first place at (inr other) (inl same) e = moved place at new _ (ap (λ z. get_or (set latest home new) z 0) same ∙ get_or-set_same latest home new 0 in_latest)
        (let below = newest place at (sym (there place other) ∙ e) in record { after = omega arith; same = here ∙ ap Some (sym same) })
    first place at (inr other) (inr apart) e = moved place at (get_or latest at 0) _ (get_or-set_other latest home at new 0 apart)
        (kept place at _ (index.first place at (sym (there place other) ∙ e)))

    next : (from place at : ℕ) → ((from ≡ new) ⊎ (from ≢ new)) → ((place ≡ new) ⊎ (place ≢ new)) → homes from ≡ Some at → homes place ≡ Some at → order place < order from
        → Leads order homes at place (get_or (set earlier new (get_or latest home 0)) from 0) × (order (get_or (set earlier new (get_or latest home 0)) from 0) < order from)
    next from place at (inl is) (inl too) e f less = absurd (let no : order new < order new = subst (λ z. order new < order z) is (subst (λ z. order z < order from) too less) in omega arith)
    next from place at (inr differs) (inl too) e f less =
        let below = newest from at (sym (there from differs) ∙ e) in
        let above : order new < order from = subst (λ z. order z < order from) too less in absurd (omega arith)
    next from place at (inl is) (inr other) e f less =
        let both : Some home ≡ Some at = sym here ∙ ap homes (sym is) ∙ e in
        let same : home ≡ at = cc in
        let link : get_or (set earlier new (get_or latest home 0)) from 0 ≡ get_or latest at 0 =
        ap (λ z. get_or (set earlier new (get_or latest home 0)) z 0) is ∙ get_or-set_same earlier new (get_or latest home 0) 0 in_earlier ∙ ap (λ z. get_or latest z 0) same in
        let leads = index.first place at (sym (there place other) ∙ f) in (
          moved place at (get_or latest at 0) _ link (kept place at _ leads),
          subst (λ z. order z < order from) (sym link) (subst (λ z. order (get_or latest at 0) < order z) (sym is) (newest _ at leads.same)),
        )
    next from place at (inr differs) (inr other) e f less =
        let link : get_or (set earlier new (get_or latest home 0)) from 0 ≡ get_or earlier from 0 = get_or-set_other earlier new from (get_or latest home 0) 0 differs in
        let leads = index.next from place at (sym (there from differs) ∙ e) (sym (there place other) ∙ f) less in
        (moved place at (get_or earlier from 0) _ link (kept place at _ leads.0), subst (λ z. order z < order from) (sym link) leads.1)

-- the same homes, said otherwise
pub index_same : (order : ℕ → ℕ) (home_by home_by' : ℕ → Option ℕ) (latest earlier : List ℕ) → ((place : ℕ) → home_by place ≡ home_by' place)
    → IsIndex order home_by latest earlier → IsIndex order home_by' latest earlier
index_same order home_by home_by' latest earlier same index = subst (λ h. IsIndex order h latest earlier) (λ i place. same place i) index
