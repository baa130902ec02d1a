-- The index of a ring once its places are entered one after another, the oldest first.
use Rattle.std.proofs.Common.{◌≡◌, ◌≢◌, ◌⊎◌, inl, inr, ℕ, ◌+◌, ◌<◌, ◌≤◌, Bool, true, false, nat_eq, nat_lt, cond, List, length, set, get_or, Option, Some, None, refl, sym, ap, ◌∙◌, subst, arith}
use Rattle.std.specs.Prelude.{MatchOption}
use Rattle.std.specs.Option.{option_map}
use Rattle.std.proofs.lemmas.Bool.{cases_eq, cases_lt}
use Rattle.std.proofs.lemmas.Bool.Decides.{nat_tests}
use Rattle.std.proofs.lemmas.List.{get_or_past, get_or_default}
use Rattle.gfx_clear_store.specs.Rings.{Slot}
use Rattle.gfx_clear_store.specs.Home.{home_of}
use Rattle.gfx_clear_store.specs.Index.{rank, home_at, IsIndex}
use Rattle.gfx_clear_store.proofs.Indices.{with_home, index_more, index_same}
use Rattle.gfx_clear_store.proofs.Written.{rank_low, rank_high, rank_apart, home_below}

-- the homes of the places that were written in the first so many steps
abbrev pub entered : ℕ → ℕ → List Slot → ℕ → ℕ → Option ℕ
entered count cursor slots steps place = cond (nat_lt (rank count cursor place) (cursor + steps)) (home_at count slots place) None

entered_in : (count cursor : ℕ) (slots : List Slot) (steps place : ℕ) → rank count cursor place < cursor + steps → entered count cursor slots steps place ≡ home_at count slots place
entered_in count cursor slots steps place less = let t : nat_lt (rank count cursor place) (cursor + steps) ≡ true = grind (arith, nat_tests) in ap (λ b. cond b (home_at count slots place) None) t

entered_out : (count cursor : ℕ) (slots : List Slot) (steps place : ℕ) → cursor + steps ≤ rank count cursor place → entered count cursor slots steps place ≡ None
entered_out count cursor slots steps place more = let t : nat_lt (rank count cursor place) (cursor + steps) ≡ false = grind (arith, nat_tests) in ap (λ b. cond b (home_at count slots place) None) t

no_home : (count : ℕ) (slots : List Slot) (place : ℕ) → length slots ≤ place → home_at count slots place ≡ None
no_home count slots place past = ap (option_map (home_of count)) (get_or_past slots place None past)

rank_from : (count cursor place : ℕ) → cursor < count → cursor ≤ rank count cursor place
rank_from count cursor place within = by (cases_lt place cursor)
  where
    by : ((place < cursor) ⊎ (cursor ≤ place)) → cursor ≤ rank count cursor place
    by (inl low) = let e = rank_low count cursor place low in omega arith
    by (inr high) = let e = rank_high count cursor place high in omega arith

rank_to : (count cursor place : ℕ) → place < count → rank count cursor place < cursor + count
rank_to count cursor place within = by (cases_lt place cursor)
  where
    by : ((place < cursor) ⊎ (cursor ≤ place)) → rank count cursor place < cursor + count
    by (inl low) = let e = rank_low count cursor place low in omega arith
    by (inr high) = let e = rank_high count cursor place high in omega arith

-- no place is entered yet
pub none_entered : (count cursor : ℕ) (slots : List Slot) (latest earlier : List ℕ) → cursor < count → IsIndex (rank count cursor) (entered count cursor slots 0) latest earlier
none_entered count cursor slots latest earlier within = record {
  first = λ place home e. let none : None ≡ Some home = sym (out place) ∙ e in absurd cc;
  next = λ from place home e f less. let none : None ≡ Some home = sym (out place) ∙ f in absurd cc;
}
  where
    out : (place : ℕ) → entered count cursor slots 0 place ≡ None
    out place = entered_out count cursor slots 0 place (let from = rank_from count cursor place within in omega arith)

-- all places are
pub all_entered : (count cursor steps : ℕ) (slots : List Slot) (latest earlier : List ℕ) → length slots ≡ count → steps ≡ count → IsIndex (rank count cursor) (entered count cursor slots steps) latest earlier
    → IsIndex (rank count cursor) (home_at count slots) latest earlier
all_entered count cursor steps slots latest earlier long all index = index_same (rank count cursor) (entered count cursor slots steps) (home_at count slots) latest earlier (λ place. by place (cases_lt place count)) index
  where
    by : (place : ℕ) → ((place < count) ⊎ (count ≤ place)) → entered count cursor slots steps place ≡ home_at count slots place
    by place (inl within) = entered_in count cursor slots steps place (let to = rank_to count cursor place within in omega arith)
    by place (inr past) = side (cases_lt (rank count cursor place) (cursor + steps))
      where
        side : ((rank count cursor place < cursor + steps) ⊎ (cursor + steps ≤ rank count cursor place)) → entered count cursor slots steps place ≡ home_at count slots place
        side (inl less) = entered_in count cursor slots steps place less
        side (inr more) = entered_out count cursor slots steps place more ∙ sym (no_home count slots place (omega arith))

-- one more is the one at this step
one_more : (count cursor : ℕ) (slots : List Slot) (step at : ℕ) → length slots ≡ count → cursor < count → at < count → rank count cursor at ≡ cursor + step
    → (place : ℕ) → with_home at (home_at count slots at) (entered count cursor slots step) place ≡ entered count cursor slots (step + 1) place
one_more count cursor slots step at long within in_at order place = by (cases_eq place at)
  where
    by : ((place ≡ at) ⊎ (place ≢ at)) → with_home at (home_at count slots at) (entered count cursor slots step) place ≡ entered count cursor slots (step + 1) place
    by (inl is) =
        let t : nat_eq place at ≡ true = grind (arith, nat_tests) in
        let e : rank count cursor place ≡ cursor + step = ap (rank count cursor) is ∙ order in
        ap (λ b. cond b (home_at count slots at) (entered count cursor slots step place)) t ∙ ap (home_at count slots) (sym is)
        ∙ sym (entered_in count cursor slots (step + 1) place (omega arith))
    by (inr apart) =
        let t : nat_eq place at ≡ false = grind (arith, nat_tests) in
        ap (λ b. cond b (home_at count slots at) (entered count cursor slots step place)) t ∙ side (cases_lt (rank count cursor place) (cursor + step)) (cases_lt place count)
      where
        side : ((rank count cursor place < cursor + step) ⊎ (cursor + step ≤ rank count cursor place)) → ((place < count) ⊎ (count ≤ place)) → entered count cursor slots step place ≡ entered count cursor slots (step + 1) place
        side (inl less) w = entered_in count cursor slots step place less ∙ sym (entered_in count cursor slots (step + 1) place (omega arith))
        side (inr more) (inl low) =
            let later = rank_apart count cursor at place in_at low (omega arith) (λ e. apart (sym e)) in
            entered_out count cursor slots step place more ∙ sym (entered_out count cursor slots (step + 1) place (omega arith))
        side (inr more) (inr past) = entered_out count cursor slots step place more ∙ sym (beyond (cases_lt (rank count cursor place) (cursor + (step + 1))))
          where
            beyond : ((rank count cursor place < cursor + (step + 1)) ⊎ (cursor + (step + 1) ≤ rank count cursor place)) → entered count cursor slots (step + 1) place ≡ None
            beyond (inl less) = entered_in count cursor slots (step + 1) place less ∙ no_home count slots place (omega arith)
            beyond (inr over) = entered_out count cursor slots (step + 1) place over

-- what a step does to the index
pub one_entered : (count cursor : ℕ) (slots : List Slot) (step at n : ℕ) (slot : Slot) (latest earlier latest' earlier' : List ℕ)
    → length slots ≡ count → cursor < count → length latest ≡ count → length earlier ≡ count
    → at < count → rank count cursor at ≡ cursor + step → n ≡ at → slot ≡ get_or slots n slot
    → MatchOption slot (latest' ≡ latest) (λ pixels. latest' ≡ set latest (home_of count pixels) at)
    → MatchOption slot (earlier' ≡ earlier) (λ pixels. earlier' ≡ set earlier at (get_or latest (home_of count pixels) 0))
    → IsIndex (rank count cursor) (entered count cursor slots step) latest earlier
    → IsIndex (rank count cursor) (entered count cursor slots (step + 1)) latest' earlier'
one_entered count cursor slots step at n slot latest earlier latest' earlier' long within homes links in_at order same read l e index =
    by slot (home_of_slot slot (read ∙ ap (λ z. get_or slots z slot) same ∙ get_or_default slots at slot None (omega arith))) l e
  where
    out : entered count cursor slots step at ≡ None
    out = entered_out count cursor slots step at (omega arith)

    home_of_slot : (s : Slot) → s ≡ get_or slots at None → home_at count slots at ≡ option_map (home_of count) s
    home_of_slot s f = ap (option_map (home_of count)) (sym f)

    -- nothing is entered where nothing stands
    still : (place : ℕ) → with_home at None (entered count cursor slots step) place ≡ entered count cursor slots step place
    still place = side (nat_eq place at) refl
      where
        side : (b : Bool) → nat_eq place at ≡ b → with_home at None (entered count cursor slots step) place ≡ entered count cursor slots step place
        side true is = ap (λ b. cond b None (entered count cursor slots step place)) is ∙ sym (let here : place ≡ at = grind (arith, nat_tests) in ap (entered count cursor slots step) here ∙ out)
        side false is = ap (λ b. cond b None (entered count cursor slots step place)) is

    newest : (place other : ℕ) → entered count cursor slots step place ≡ Some other → rank count cursor place < rank count cursor at
    newest place other f = side (cases_lt (rank count cursor place) (cursor + step))
      where
        side : ((rank count cursor place < cursor + step) ⊎ (cursor + step ≤ rank count cursor place)) → rank count cursor place < rank count cursor at
        side (inl less) = omega arith
        side (inr more) = let none : None ≡ Some other = sym (entered_out count cursor slots step place more) ∙ f in absurd cc

    by : (s : Slot) → home_at count slots at ≡ option_map (home_of count) s
        → MatchOption s (latest' ≡ latest) (λ pixels. latest' ≡ set latest (home_of count pixels) at)
        → MatchOption s (earlier' ≡ earlier) (λ pixels. earlier' ≡ set earlier at (get_or latest (home_of count pixels) 0))
        → IsIndex (rank count cursor) (entered count cursor slots (step + 1)) latest' earlier'
    by None h f k =
        let more = index_same (rank count cursor) (entered count cursor slots step) (entered count cursor slots (step + 1)) latest earlier
        (λ place. sym (still place) ∙ ap (λ z. with_home at z (entered count cursor slots step) place) (sym h) ∙ one_more count cursor slots step at long within in_at order place) index in
        subst (λ z. IsIndex (rank count cursor) (entered count cursor slots (step + 1)) z earlier') (sym f)
        (subst (λ z. IsIndex (rank count cursor) (entered count cursor slots (step + 1)) latest z) (sym k) more)
    by (Some pixels) h f k =
        let low = home_below count pixels (omega arith) in
        let put = index_more (rank count cursor) (entered count cursor slots step) latest earlier at (home_of count pixels) (omega arith) (omega arith) out newest index in
        let more = index_same (rank count cursor) (with_home at (Some (home_of count pixels)) (entered count cursor slots step)) (entered count cursor slots (step + 1))
        (set latest (home_of count pixels) at) (set earlier at (get_or latest (home_of count pixels) 0))
        (λ place. ap (λ z. with_home at z (entered count cursor slots step) place) (sym h) ∙ one_more count cursor slots step at long within in_at order place) put in
        subst (λ z. IsIndex (rank count cursor) (entered count cursor slots (step + 1)) z earlier') (sym f)
        (subst (λ z. IsIndex (rank count cursor) (entered count cursor slots (step + 1)) (set latest (home_of count pixels) at) z) (sym k) more)
