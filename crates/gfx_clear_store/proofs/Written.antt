-- The index of a ring after one more write, over plain variables.
use Rattle.std.proofs.Common.{◌≡◌, ◌≢◌, ◌⊎◌, inl, inr, ℕ, ◌+◌, ◌<◌, ◌≤◌, ◌==◌, Bool, true, false, nat_eq, nat_lt, cond, List, length, set, get_or, Some, None, refl, sym, ap, ◌∙◌, arith}
use Rattle.std.specs.Option.{option_map}
use Rattle.std.proofs.lemmas.Bool.{cases_eq, cases_lt}
use Rattle.std.proofs.lemmas.Bool.Decides.{nat_tests}
use Rattle.std.proofs.lemmas.List.{get_or-set_other, get_or-set_same, get_or_past}
use Rattle.gfx_base.specs.declared.pixel.Rgb.{Rgb}
use Rattle.gfx_clear_store.specs.Rings.{Slot, next_place}
use Rattle.gfx_clear_store.specs.Home.{home_of}
use Rattle.gfx_clear_store.specs.Index.{rank, home_at, IsIndex}
use Rattle.gfx_clear_store.proofs.Indices.{without, with_home, index_less, index_ranked, index_more, index_same}

pub rank_low : (count cursor place : ℕ) → place < cursor → rank count cursor place ≡ place + count
rank_low count cursor place low = let test : nat_lt place cursor ≡ true = grind (arith, nat_tests) in ap (λ b. cond b (place + count) place) test

pub rank_high : (count cursor place : ℕ) → cursor ≤ place → rank count cursor place ≡ place
rank_high count cursor place high = let test : nat_lt place cursor ≡ false = grind (arith, nat_tests) in ap (λ b. cond b (place + count) place) test

-- the cursor's own place is the oldest
pub rank_oldest : (count cursor place : ℕ) → place < count → rank count cursor place ≤ rank count cursor cursor → cursor < count → place ≡ cursor
rank_oldest count cursor place within older at = by (cases_lt place cursor)
  where
    by : ((place < cursor) ⊎ (cursor ≤ place)) → place ≡ cursor
    by (inl low) = let e = rank_low count cursor place low in let f = rank_high count cursor cursor (omega arith) in absurd (omega arith)
    by (inr high) = let e = rank_high count cursor place high in let f = rank_high count cursor cursor (omega arith) in omega arith

-- no two places were written at once
pub rank_apart : (count cursor p q : ℕ) → p < count → q < count → rank count cursor p ≤ rank count cursor q → p ≢ q → rank count cursor p < rank count cursor q
rank_apart count cursor p q in_p in_q less apart = by (cases_lt p cursor) (cases_lt q cursor)
  where
    by : ((p < cursor) ⊎ (cursor ≤ p)) → ((q < cursor) ⊎ (cursor ≤ q)) → rank count cursor p < rank count cursor q
    by (inl a) (inl b) = let e = rank_low count cursor p a in let f = rank_low count cursor q b in omega arith
    by (inl a) (inr b) = let e = rank_low count cursor p a in let f = rank_high count cursor q b in omega arith
    by (inr a) (inl b) = let e = rank_high count cursor p a in let f = rank_low count cursor q b in omega arith
    by (inr a) (inr b) = let e = rank_high count cursor p a in let f = rank_high count cursor q b in omega arith

next_end : (count cursor : ℕ) → cursor + 1 ≡ count → next_place count cursor ≡ 0
next_end count cursor e = let test : (cursor + 1 == count) ≡ true = grind (arith, nat_tests) in ap (λ b. cond b 0 (cursor + 1)) test

next_more : (count cursor : ℕ) → cursor + 1 ≢ count → next_place count cursor ≡ cursor + 1
next_more count cursor e = let test : (cursor + 1 == count) ≡ false = grind (arith, nat_tests) in ap (λ b. cond b 0 (cursor + 1)) test

-- the order as it is after the write: the cursor's place is the latest, and the others stand as before, or all a round lower
pub record Turned (count cursor : ℕ) : Type 0 where
  pub round : ℕ
  pub latest : rank count (next_place count cursor) cursor + round ≡ cursor + count
  pub others : (p : ℕ) → p < count → p ≢ cursor → rank count (next_place count cursor) p + round ≡ rank count cursor p

pub turned : (count cursor : ℕ) → cursor < count → Turned count cursor
turned count cursor within = by (cases_eq (cursor + 1) count)
  where
    by : ((cursor + 1 ≡ count) ⊎ (cursor + 1 ≢ count)) → Turned count cursor
    by (inl e) = record {
      round = count;
      latest = let f = ap (λ z. rank count z cursor) (next_end count cursor e) in let h = rank_high count 0 cursor (omega arith) in omega arith;
      others = λ p in_p apart. let f = ap (λ z. rank count z p) (next_end count cursor e) in let h = rank_high count 0 p (omega arith) in let g = rank_low count cursor p (omega arith) in omega arith;
    }
    by (inr more) = record {
      round = 0;
      latest = let f = ap (λ z. rank count z cursor) (next_more count cursor more) in let h = rank_low count (cursor + 1) cursor (omega arith) in omega arith;
      others = λ p in_p apart. let f = ap (λ z. rank count z p) (next_more count cursor more) in side p apart f (cases_lt p cursor);
    }
      where
        side : (p : ℕ) → p ≢ cursor → rank count (next_place count cursor) p ≡ rank count (cursor + 1) p → ((p < cursor) ⊎ (cursor ≤ p)) → rank count (next_place count cursor) p + 0 ≡ rank count cursor p
        side p apart f (inl low) = let g = rank_low count (cursor + 1) p (omega arith) in let h = rank_low count cursor p low in omega arith
        side p apart f (inr high) = let g = rank_high count (cursor + 1) p (omega arith) in let h = rank_high count cursor p high in omega arith

-- only a place of the ring has a home
pub home_within : (count : ℕ) (slots : List Slot) (place home : ℕ) → home_at count slots place ≡ Some home → place < length slots
home_within count slots place home e = by (cases_lt place (length slots))
  where
    by : ((place < length slots) ⊎ (length slots ≤ place)) → place < length slots
    by (inl is) = is
    by (inr past) = let none : None ≡ Some home = sym (ap (λ z. option_map (home_of count) z) (get_or_past slots place None past)) ∙ e in absurd cc

pub home_below : (count : ℕ) (pixels : List Rgb) → 0 < count → home_of count pixels < count
unfolding home_of
home_below count pixels some = omega arith

-- the index stays true through a write
pub index_written : (count cursor : ℕ) (slots : List Slot) (pixels : List Rgb) (latest earlier : List ℕ)
    → length slots ≡ count → cursor < count → length latest ≡ count → length earlier ≡ count
    → IsIndex (rank count cursor) (home_at count slots) latest earlier
    → IsIndex (rank count (next_place count cursor)) (home_at count (set slots cursor (Some pixels)))
    (set latest (home_of count pixels) cursor) (set earlier cursor (get_or latest (home_of count pixels) 0))
index_written count cursor slots pixels latest earlier long within homes places index =
    let move = turned count cursor within in
    let low = home_below count pixels (omega arith) in
    let less = index_less (rank count cursor) (home_at count slots) latest earlier cursor
    (λ place home e older. let in_place = home_within count slots place home e in rank_oldest count cursor place (omega arith) older within) index in
    let ranked = index_ranked (rank count cursor) (rank count (next_place count cursor)) (without cursor (home_at count slots)) latest earlier
    (λ p q h k e f. let a = there p h e in let b = there q k f in let x = move.others p a.1 a.0 in let y = move.others q b.1 b.0 in ((λ z. omega arith), (λ z. omega arith))) less in
    let more = index_more (rank count (next_place count cursor)) (without cursor (home_at count slots)) latest earlier cursor (home_of count pixels)
    (omega arith) (omega arith) (gone refl) (λ place other e. let a = there place other e in newest place move.round a.1 (move.others place a.1 a.0) move.latest) ranked in
    index_same _ _ (home_at count (set slots cursor (Some pixels))) _ _ (λ place. same place (cases_eq place cursor)) more
  where
    itself : nat_eq cursor cursor ≡ true
    itself = grind (arith, nat_tests)

    gone : cursor ≡ cursor → without cursor (home_at count slots) cursor ≡ None
    gone is = ap (λ b. cond b None (home_at count slots cursor)) itself

    there : (p h : ℕ) → without cursor (home_at count slots) p ≡ Some h → (p ≢ cursor) × (p < count)
    there p h e = by (nat_eq p cursor) refl
      where
        by : (b : Bool) → nat_eq p cursor ≡ b → (p ≢ cursor) × (p < count)
        by true is = let none : None ≡ Some h = sym (ap (λ b. cond b None (home_at count slots p)) is) ∙ e in absurd cc
        by false is =
            let below = home_within count slots p h (sym (ap (λ b. cond b None (home_at count slots p)) is) ∙ e) in
            ((λ s. let clash : true ≡ false = sym itself ∙ ap (λ z. nat_eq z cursor) (sym s) ∙ is in absurd cc), omega arith)

    newest : (place round : ℕ) → place < count → rank count (next_place count cursor) place + round ≡ rank count cursor place
        → rank count (next_place count cursor) cursor + round ≡ cursor + count → rank count (next_place count cursor) place < rank count (next_place count cursor) cursor
    newest place round below e f = by (cases_lt place cursor)
      where
        by : ((place < cursor) ⊎ (cursor ≤ place)) → rank count (next_place count cursor) place < rank count (next_place count cursor) cursor
        by (inl low) = let h = rank_low count cursor place low in omega arith
        by (inr high) = let h = rank_high count cursor place high in omega arith

    same : (place : ℕ) → ((place ≡ cursor) ⊎ (place ≢ cursor))
        → with_home cursor (Some (home_of count pixels)) (without cursor (home_at count slots)) place ≡ home_at count (set slots cursor (Some pixels)) place
    same place (inl is) =
        let test : nat_eq place cursor ≡ true = grind (arith, nat_tests) in
        ap (λ b. cond b (Some (home_of count pixels)) (without cursor (home_at count slots) place)) test
        ∙ sym (ap (option_map (home_of count)) (ap (λ z. get_or (set slots cursor (Some pixels)) z None) is ∙ get_or-set_same slots cursor (Some pixels) None (omega arith)))
    same place (inr apart) =
        let test : nat_eq place cursor ≡ false = grind (arith, nat_tests) in
        ap (λ b. cond b (Some (home_of count pixels)) (cond b None (home_at count slots place))) test
        ∙ sym (ap (option_map (home_of count)) (get_or-set_other slots cursor place (Some pixels) None apart))
