-- Tiles that are taken out by their places, in order.
use Rattle.std.proofs.Common.{◌≡◌, ◌∙◌, ap, sym, refl, subst, cond, ◌||◌, Bool, true, false, ℕ, zero, suc, ◌+◌, ◌-◌, ◌<◌, ◌≤◌, List, [], ◌∷◌, ◌++◌, length, get_or, Option, Some, None, is_some, inl, inr, ◌⊎◌, arith}
use Rattle.std.specs.Prelude.{◌==◌, IfSome}
use Rattle.std.specs.FinMap.{get, get-remove, remove}
use Rattle.std.specs.List.{All, filter_map, list_any}
use Rattle.std.specs.List.Sorted.{IsNonDecreasing}
use Rattle.std.specs.Option.{option_and_then}
use Rattle.std.specs.Ordering.{eq_by_cmp}
use Rattle.std.proofs.lemmas.Bool.{cases_lt, eqb-true}
use Rattle.std.proofs.lemmas.List.{nil_from_length, take_all}
use Rattle.std.proofs.lemmas.List.Elements.{All-head, All-tail}
use Rattle.std.proofs.lemmas.List.Folds.{Any-from_list_any}
use Rattle.gfx_base.specs.declared.geometry.Cell.{Cell}
use Rattle.gfx_base.specs.declared.geometry.Rect.{Rect}
use Rattle.gfx_base.specs.Cells.{cell, cells_met}
use Rattle.gfx_base.specs.Geometry.{sized}
use Rattle.gfx_quant.specs.declared.setting.Setting.{Setting}
use Rattle.gfx_prog_decode.specs.declared.key.Key.{Key}
use Rattle.gfx_prog_decode.specs.Records.{key_cmp}
use Rattle.gfx_prog_decode.proofs.Keys.{itself, key_total}
use Rattle.gfx_prog_encode.specs.declared.send.TileSend.{TileSend}
use Rattle.gfx_prog_live.specs.Cells.{cell_key}
use Rattle.gfx_prog_live.specs.Inside.{AreBy, AreInPlace, AreListed, IsBy, Lists, without_taken}
use Rattle.gfx_prog_live.specs.Live.{Live, improved_sends, raised}
use Rattle.gfx_prog_live.specs.Places.{ArePlaces}
use Rattle.gfx_prog_live.specs.Raising.{is_raised_in}
use Rattle.gfx_prog_live.proofs.InPlace.{if_not_taken}
use Rattle.gfx_prog_live.proofs.Taking.{Taking, improved, none_taken, nothing_taken, one_taken}

-- the least of numbers that don't fall comes first
least : (place : ℕ) (places : List ℕ) (j : ℕ) → IsNonDecreasing (place ∷ places) → list_any (λ one. one == j) (place ∷ places) ≡ true → place ≤ j
least place places j rising any =
    let some = Any-from_list_any (λ one. one == j) (place ∷ places) any in
    let up : place ≤ get_or (place ∷ places) some.0 some.1 = rising 0 some.0 some.1 (omega arith) some.2 in
    let here : some.1 ≡ j = eqb-true some.1 j some.4 in
    omega (arith, some.3, here)

rest_rises : (place : ℕ) (places : List ℕ) → IsNonDecreasing (place ∷ places) → IsNonDecreasing places
rest_rises place places rising = λ i j d h k. rising (suc i) (suc j) d (omega arith) (omega arith)

-- one that is among them, and isn't the first, is among the others
others : (place : ℕ) (places : List ℕ) (j : ℕ) → (place ≡ j → ⊥) → list_any (λ one. one == j) (place ∷ places) ≡ true → list_any (λ one. one == j) places ≡ true
others place places j apart any = by (place == j) refl any
  where
    by : (b : Bool) → (place == j) ≡ b → (b || list_any (λ one. one == j) places) ≡ true → list_any (λ one. one == j) places ≡ true
    by true same any = absurd (apart (eqb-true place j same))
    by false same any = any

-- where nothing may be raised, there is nothing to be sent
none_raised : (o : Option TileSend) → (is_some o ≡ true → ⊥) → o ≡ None
none_raised None h = refl
none_raised (Some send) h = absurd (h refl)

-- the cells before a place are done, those whose tiles may be raised and that are still to come are among these places,
-- which don't fall
pub record Visiting (id listed : ℕ) (cells : List Cell) (old live : Live) (sends : List TileSend) (places : List ℕ) : Type 0 where
  pub place : ℕ
  pub far : place ≤ length cells
  pub taking : Taking id cells old live sends place
  pub done : (j : ℕ) → j < place → improved id live (get_or cells j (cell 0 0)) ≡ None
  pub left : (j : ℕ) → place ≤ j → j < length cells → is_raised_in old id (get_or cells j (cell 0 0)) ≡ true → list_any (λ one. one == j) places ≡ true
  pub within : All (λ one. one < length cells) places
  pub rising : IsNonDecreasing places
  pub lists : AreListed listed live

-- none is yet
pub none_visited : (id listed : ℕ) (cells : List Cell) (old : Live) (sends : List TileSend) (places : List ℕ) → sends ≡ [] → AreInPlace old → AreListed listed old
    → ArePlaces old id cells places → Visiting id listed cells old old sends places
none_visited id listed cells old sends places none placed lists are = record {
  place = 0;
  far = omega arith;
  taking = none_taken id cells old sends none placed;
  done = λ j h. absurd (omega arith);
  left = λ j h within may. are.all j within may;
  within = are.within;
  rising = are.rising;
  lists = lists;
}

-- cells that have nothing to be sent are passed over
passed_over : (n id : ℕ) (cells : List Cell) (old live : Live) (sends : List TileSend) (place : ℕ) → place + n ≤ length cells
    → ((j : ℕ) → place ≤ j → j < place + n → improved id old (get_or cells j (cell 0 0)) ≡ None)
    → Taking id cells old live sends place → Taking id cells old live sends (place + n)
passed_over zero id cells old live sends place far nothing before = subst (Taking id cells old live sends) {x = place} {y = place + zero} (omega arith) before
passed_over (suc n) id cells old live sends place far nothing before =
    let here : None ≡ improved id live (get_or cells place (cell 0 0)) =
    sym (ap (option_and_then raised) (before.rest place (omega arith) (omega arith)) ∙ nothing place (omega arith) (omega arith)) in
    let next : Taking id cells old live sends (place + 1) =
    nothing_taken id cells old live live sends sends place (get_or cells place (cell 0 0)) (omega arith) refl here refl refl before in
    subst (Taking id cells old live sends) {x = place + 1 + n} {y = place + suc n} (omega arith)
    (passed_over n id cells old live sends (place + 1) (omega arith) (λ j h k. nothing j (omega arith) (omega arith)) next)

-- so are those before the next of the places
between : (id listed : ℕ) (cells : List Cell) (old live : Live) (sends : List TileSend) (next : ℕ) (places : List ℕ) (v : Visiting id listed cells old live sends (next ∷ places))
    → (j : ℕ) → v.place ≤ j → j < next → j < length cells → improved id old (get_or cells j (cell 0 0)) ≡ None
between id listed cells old live sends next places v j from before within =
    none_raised (improved id old (get_or cells j (cell 0 0))) (λ may.
    let low : next ≤ j = least next places j v.rising (v.left j from within may) in
    absurd (omega arith))

reached : (id listed : ℕ) (cells : List Cell) (old live : Live) (sends : List TileSend) (next : ℕ) (places : List ℕ) (v : Visiting id listed cells old live sends (next ∷ places))
    → v.place ≤ next → Taking id cells old live sends next
reached id listed cells old live sends next places v on =
    let within : next < length cells = All-head (λ one. one < length cells) next places v.within in
    let whole : v.place + (next - v.place) ≡ next = omega arith in
    subst (Taking id cells old live sends) whole
    (passed_over (next - v.place) id cells old live sends v.place (omega arith)
    (λ j h k. between id listed cells old live sends next places v j h (omega arith) (omega arith)) v.taking)

-- all before it are done
done_before : (id listed : ℕ) (cells : List Cell) (old live : Live) (sends : List TileSend) (next : ℕ) (places : List ℕ) (v : Visiting id listed cells old live sends (next ∷ places))
    → (j : ℕ) → j < next → improved id live (get_or cells j (cell 0 0)) ≡ None
done_before id listed cells old live sends next places v j before = by (cases_lt j v.place)
  where
    by : ((j < v.place) ⊎ (v.place ≤ j)) → improved id live (get_or cells j (cell 0 0)) ≡ None
    by (inl less) = v.done j less
    by (inr from) =
        let end : next < length cells = All-head (λ one. one < length cells) next places v.within in
        let within : j < length cells = omega arith in
        ap (option_and_then raised) (v.taking.rest j from within) ∙ between id listed cells old live sends next places v j from before within

-- a tile that is taken out leaves nothing to be sent
gone : (id : ℕ) (live : Live) (a c : Cell) → improved id live a ≡ None → improved id (remove live (cell_key id c)) a ≡ None
gone id live a c nothing =
    ap (option_and_then raised) (get-remove key_total live (cell_key id c) (cell_key id a)) ∙ by (eq_by_cmp key_cmp (cell_key id a) (cell_key id c))
  where
    by : (b : Bool) → option_and_then raised (cond b None (get live (cell_key id a))) ≡ None
    by true = refl
    by false = nothing

gone_itself : (id : ℕ) (live : Live) (c : Cell) → improved id (remove live (cell_key id c)) c ≡ None
gone_itself id live c =
    ap (option_and_then raised) (get-remove key_total live (cell_key id c) (cell_key id c)
    ∙ ap (λ b. cond b None (get live (cell_key id c))) (itself (cell_key id c)))

-- live tiles of one setting list as many levels as it does
pub lists_by : (setting : Setting) (listed : ℕ) (live : Live) → listed ≡ length setting.levels → AreBy setting live → AreListed listed live
lists_by setting listed live count are key = by (get live key) (are key)
  where
    by : (o : Option TileSend) → IfSome o (IsBy setting) → IfSome o (Lists listed)
    by None is = tt
    by (Some send) is = ap (λ (s : Setting). length s.levels) is ∙ sym count

fewer_listed : (listed : ℕ) (live : Live) (gone : Key) → AreListed listed live → AreListed listed (remove live gone)
fewer_listed listed live gone lists key =
    subst (λ o. IfSome o (Lists listed)) (sym (get-remove key_total live gone key))
    (if_not_taken (eq_by_cmp key_cmp key gone) (get live key) (Lists listed) (lists key))

-- one place more, whose tile is taken out
taken_next : (id listed : ℕ) (rect : Rect) (cells : List Cell) (old live : Live) (sends more : List TileSend) (next : ℕ) (places : List ℕ) (c : Cell) (send : TileSend)
    → cells ≡ cells_met rect → c ≡ get_or cells next (cell 0 0) → Some send ≡ improved id live c → more ≡ sends ++ send ∷ []
    → Visiting id listed cells old live sends (next ∷ places) → Visiting id listed cells old (remove live (cell_key id c)) more places
taken_next id listed rect cells old live sends more next places c send are at is put v = record {
  place = next + 1;
  far = let within : next < length cells = All-head (λ one. one < length cells) next places v.within in omega arith;
  taking =
      one_taken id rect cells old live (remove live (cell_key id c)) sends more next c send are (All-head (λ one. one < length cells) next places v.within) at is refl put
      (reached id listed cells old live sends next places v on);
  done = λ j h. done j h (cases_lt j next);
  left = λ j from within may. others next places j (λ same. absurd (omega (arith, same))) (v.left j (omega (arith, on)) within may);
  within = All-tail (λ one. one < length cells) next places v.within;
  rising = rest_rises next places v.rising;
  lists = fewer_listed listed live (cell_key id c) v.lists;
}
  where
    on : v.place ≤ next
    on = by (cases_lt next v.place)
      where
        by : ((next < v.place) ⊎ (v.place ≤ next)) → v.place ≤ next
        by (inr from) = from
        by (inl less) = absurd (let no : Some send ≡ None = is ∙ ap (improved id live) at ∙ v.done next less in cc)

    done : (j : ℕ) → j < next + 1 → ((j < next) ⊎ (next ≤ j)) → improved id (remove live (cell_key id c)) (get_or cells j (cell 0 0)) ≡ None
    done j h (inl less) = gone id live (get_or cells j (cell 0 0)) c (done_before id listed cells old live sends next places v j less)
    done j h (inr from) =
        let same : next ≡ j = omega arith in
        ap (λ n. improved id (remove live (cell_key id c)) (get_or cells n (cell 0 0))) (sym same) ∙ ap (improved id (remove live (cell_key id c))) (sym at) ∙ gone_itself id live c

pub one_visited : (id listed : ℕ) (rect : Rect) (cells : List Cell) (old live new : Live) (sends more : List TileSend) (rest : List ℕ) (next : ℕ) (places : List ℕ) (c : Cell) (send : TileSend)
    → cells ≡ cells_met rect → rest ≡ next ∷ places → c ≡ get_or cells next (cell 0 0) → Some send ≡ improved id live c → new ≡ without_taken id c (Some send) live → more ≡ sends ++ send ∷ []
    → Visiting id listed cells old live sends rest → Visiting id listed cells old new more places
one_visited id listed rect cells old live new sends more rest next places c send are front at is left put before =
    subst (λ m. Visiting id listed cells old m more places) (sym left)
    (taken_next id listed rect cells old live sends more next places c send are at is put (subst (Visiting id listed cells old live sends) front before))

-- one more that has nothing to be sent
skipped_next : (id listed : ℕ) (cells : List Cell) (old live : Live) (sends : List TileSend) (next : ℕ) (places : List ℕ) (c : Cell)
    → c ≡ get_or cells next (cell 0 0) → None ≡ improved id live c
    → Visiting id listed cells old live sends (next ∷ places) → Visiting id listed cells old live sends places
skipped_next id listed cells old live sends next places c at is v = record {
  place = v.place;
  far = v.far;
  taking = v.taking;
  done = v.done;
  left = λ j from within may. others next places j (λ same. not_it j from within may same) (v.left j from within may);
  within = All-tail (λ one. one < length cells) next places v.within;
  rising = rest_rises next places v.rising;
  lists = v.lists;
}
  where
    not_it : (j : ℕ) → v.place ≤ j → j < length cells → is_raised_in old id (get_or cells j (cell 0 0)) ≡ true → next ≡ j → ⊥
    not_it j from within may same =
        let nothing : improved id old (get_or cells j (cell 0 0)) ≡ None =
        sym (ap (option_and_then raised) (v.taking.rest j from within)) ∙ ap (λ n. improved id live (get_or cells n (cell 0 0))) (sym same) ∙ ap (improved id live) (sym at) ∙ sym is in
        let no : false ≡ true = sym (ap is_some nothing) ∙ may in
        absurd cc

pub none_to_take : (id listed : ℕ) (cells : List Cell) (old live new : Live) (sends : List TileSend) (rest : List ℕ) (next : ℕ) (places : List ℕ) (c : Cell)
    → rest ≡ next ∷ places → c ≡ get_or cells next (cell 0 0) → None ≡ improved id live c → new ≡ without_taken id c None live
    → Visiting id listed cells old live sends rest → Visiting id listed cells old new sends places
none_to_take id listed cells old live new sends rest next places c front at is left before =
    subst (λ m. Visiting id listed cells old m sends places) (sym left)
    (skipped_next id listed cells old live sends next places c at is (subst (Visiting id listed cells old live sends) front before))

-- all are visited
pub all_visited : (id listed width height : ℕ) (rect : Rect) (cells : List Cell) (old live : Live) (sends : List TileSend) (rest : List ℕ) → rect ≡ sized width height → cells ≡ cells_met rect
    → length rest ≡ 0 → Visiting id listed cells old live sends rest → sends ≡ improved_sends old id width height
all_visited id listed width height rect cells old live sends rest sides are none v =
    whole.value
    ∙ ap (filter_map (improved id old)) (take_all (length cells) cells (omega arith))
    ∙ ap (filter_map (improved id old)) (are ∙ ap cells_met sides)
  where
    nothing : (j : ℕ) → v.place ≤ j → j < length cells → improved id old (get_or cells j (cell 0 0)) ≡ None
    nothing j from within = none_raised (improved id old (get_or cells j (cell 0 0))) (λ may.
        let no : false ≡ true = sym (ap (list_any (λ one. one == j)) (nil_from_length rest none)) ∙ v.left j from within may in
        absurd cc)

    whole : Taking id cells old live sends (length cells)
    whole =
        let far : v.place ≤ length cells = v.far in
        let end : v.place + (length cells - v.place) ≡ length cells = omega arith in
        subst (Taking id cells old live sends) end
        (passed_over (length cells - v.place) id cells old live sends v.place (omega arith) (λ j h k. nothing j h (omega arith)) v.taking)
