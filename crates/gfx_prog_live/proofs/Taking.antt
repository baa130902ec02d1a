-- Tiles that are taken out, raised, and put back.
use Rattle.std.proofs.Common.{◌≡◌, ◌∙◌, ap, sym, refl, subst, cond, Bool, true, false, ℕ, suc, ◌+◌, ◌-◌, ◌/◌, ◌<◌, ◌≤◌, List, [], ◌∷◌, ◌++◌, length, take, get_or, Option, Some, None, is_some, T, arith}
use Rattle.std.specs.Prelude.{IfSome, nat_lt, if◌then◌else◌}
use Rattle.std.specs.FinMap.{get, get-insert, get-remove, remove, same_map}
use Rattle.std.specs.List.{cons_option, filter_map}
use Rattle.std.specs.Option.{option_and_then}
use Rattle.std.specs.Ordering.{eq_by_cmp}
use Rattle.std.proofs.lemmas.Bool.Decides.{nat_tests}
use Rattle.std.proofs.lemmas.List.Elements.{All-nil, All-push, filter_map-append}
use Rattle.std.proofs.lemmas.List.Sums.{fold-append}
use Rattle.std.proofs.Math.Seq.{take-suc}
use Rattle.gfx_base.specs.declared.geometry.Cell.{Cell}
use Rattle.gfx_base.specs.declared.geometry.Rect.{Rect}
use Rattle.gfx_base.specs.Cells.{cell, cells_along, cells_met}
use Rattle.gfx_base.proofs.Blocks.{cells_apart}
use Rattle.gfx_prog_decode.specs.declared.key.Key.{Key}
use Rattle.gfx_prog_decode.specs.Records.{key_cmp}
use Rattle.gfx_prog_decode.proofs.Keys.{key_same, key_total, tied}
use Rattle.gfx_prog_encode.specs.declared.send.TileSend.{TileSend}
use Rattle.gfx_prog_encode.specs.Inside.{AreRaised, IsRaised}
use Rattle.gfx_prog_live.specs.Cells.{cell_key}
use Rattle.gfx_prog_live.specs.Inside.{AreInPlace, IsInPlace, Lists}
use Rattle.gfx_prog_live.specs.Live.{Live, after_sends, raised, with_live}
use Rattle.gfx_prog_live.proofs.InPlace.{removed_in_place}

-- none is left to put in
pub none_to_keep : (id : ℕ) (sends : List TileSend) (live : Live) → length sends ≡ 0 → live ≡ after_sends id sends live
none_to_keep id [] live none = refl
none_to_keep id (send ∷ sends) live none = absurd (omega arith)

-- one is put in
pub one_kept : (id : ℕ) (sends rest : List TileSend) (send : TileSend) (live new due : Live) → sends ≡ send ∷ rest → new ≡ with_live id live send
    → after_sends id sends live ≡ due → after_sends id rest new ≡ due
one_kept id sends rest send live new due front put before =
    ap (after_sends id rest) put ∙ sym (ap (λ (xs : List TileSend). after_sends id xs live) front) ∙ before

-- ---- one tile

-- whether one is raised
pub raised_by_test : (listed : ℕ) (send : TileSend) → Lists listed send → nat_lt send.level listed ≡ is_some (raised send)
unfolding raised
raised_by_test listed send lists = ap (nat_lt send.level) (sym lists) ∙ by (nat_lt send.level (length send.tile.setting.levels))
  where
    by : (b : Bool) → b ≡ is_some (if b then Some (record send { level = send.level + 1 }) else None)
    by true = refl
    by false = refl

-- so it is with one that was found
pub found_by_test : (listed : ℕ) (found : Option TileSend) (send : TileSend) → Some send ≡ found → IfSome found (Lists listed)
    → nat_lt send.level listed ≡ is_some (option_and_then raised found)
found_by_test listed found send is lists =
    raised_by_test listed send (subst (λ o. IfSome o (Lists listed)) (sym is) lists) ∙ ap (λ o. is_some (option_and_then raised o)) is

-- what is known of one that is raised
pub record IsRaisedFrom (old new : TileSend) : Type 0 where
  pub is : new ≡ record old { level = old.level + 1 }
  pub below : old.level < length old.tile.setting.levels

pub raised_from : (old new : TileSend) → raised old ≡ Some new → IsRaisedFrom old new
unfolding raised
raised_from old new is = by (nat_lt old.level (length old.tile.setting.levels)) refl is
  where
    by : (b : Bool) → nat_lt old.level (length old.tile.setting.levels) ≡ b → (if b then Some (record old { level = old.level + 1 }) else None) ≡ Some new → IsRaisedFrom old new
    by true below is = record { is = cc; below = grind (arith, nat_tests) }
    by false below is = cc

-- one that is taken out since it may be raised
pub record TakenOut (found : Option TileSend) (send : TileSend) : Type 0 where
  pub value : Some (record send { level = send.level + 1 }) ≡ option_and_then raised found
  pub below : send.level < length send.tile.setting.levels

pub taken_out : (found : Option TileSend) (send : TileSend) → Some send ≡ found → is_some (option_and_then raised found) ≡ true → TakenOut found send
taken_out found send is some =
    subst (λ o. TakenOut o send) is (one (raised send) refl (ap (λ o. is_some (option_and_then raised o)) is ∙ some))
  where
    one : (next : Option TileSend) → raised send ≡ next → is_some (raised send) ≡ true → TakenOut (Some send) send
    one None is some = absurd (subst (λ b. T b) (sym (ap is_some (sym is) ∙ some)) tt)
    one (Some next) is some =
        let from : IsRaisedFrom send next = raised_from send next is in
        record { value = ap Some (sym from.is) ∙ sym is; below = from.below }

-- a tile that comes of one that was found
pub record ComesOf (found : Option TileSend) (send : TileSend) : Type 0 where
  pub old : TileSend
  pub is : found ≡ Some old
  pub raises : raised old ≡ Some send

comes_of : (found : Option TileSend) (send : TileSend) → Some send ≡ option_and_then raised found → ComesOf found send
comes_of None send is = cc
comes_of (Some old) send is = record { old = old; is = refl; raises = sym is }

-- ---- all of a surface

-- the key of the cell at a place
abbrev pub key_at : ℕ → List Cell → ℕ → Key
key_at id cells place = cell_key id (get_or cells place (cell 0 0))

-- what is sent of a cell
abbrev pub improved : ℕ → Live → Cell → Option TileSend
improved id live c = option_and_then raised (get live (cell_key id c))

-- the cells before a place are done: what was sent of them was taken out, and makes the same of what is left as of what was
pub record Taking (id : ℕ) (cells : List Cell) (old live : Live) (sends : List TileSend) (place : ℕ) : Type 0 where
  pub value : sends ≡ filter_map (improved id old) (take place cells)
  pub back : after_sends id sends live ≡ after_sends id sends old
  pub rest : (j : ℕ) → place ≤ j → j < length cells → get live (key_at id cells j) ≡ get old (key_at id cells j)
  pub raised_are : AreRaised sends
  pub placed : AreInPlace live

-- none is yet
pub none_taken : (id : ℕ) (cells : List Cell) (old : Live) (sends : List TileSend) → sends ≡ [] → AreInPlace old → Taking id cells old old sends 0
none_taken id cells old sends none placed = record {
  value = none;
  back = refl;
  rest = λ j h k. refl;
  raised_are = subst AreRaised (sym none) (All-nil IsRaised);
  placed = placed;
}

-- one cell more
sent_more : (h : Cell → Option TileSend) (cells : List Cell) (place : ℕ) → place < length cells
    → filter_map h (take (place + 1) cells) ≡ filter_map h (take place cells) ++ cons_option (h (get_or cells place (cell 0 0))) []
sent_more h cells place within =
    ap (λ n. filter_map h (take n cells)) {x = place + 1} {y = suc place} (omega arith)
    ∙ ap (filter_map h) (take-suc cells place (cell 0 0) within)
    ∙ filter_map-append h (take place cells) (get_or cells place (cell 0 0) ∷ [])

append_nil : (xs : List TileSend) → xs ++ [] ≡ xs
append_nil [] = refl
append_nil (x ∷ xs) = ap (λ ys. x ∷ ys) (append_nil xs)

-- that has nothing to be sent
pub nothing_taken : (id : ℕ) (cells : List Cell) (old live new : Live) (sends more : List TileSend) (place : ℕ) (c : Cell)
    → place < length cells → c ≡ get_or cells place (cell 0 0) → None ≡ improved id live c → new ≡ live → more ≡ sends
    → Taking id cells old live sends place → Taking id cells old new more (place + 1)
nothing_taken id cells old live new sends more place c within at is same kept before =
    let nothing : improved id old (get_or cells place (cell 0 0)) ≡ None =
    ap (option_and_then raised) (sym (before.rest place (omega arith) within)) ∙ ap (improved id live) (sym at) ∙ sym is in
    record {
      value =
          kept ∙ before.value ∙ sym (append_nil (filter_map (improved id old) (take place cells)))
          ∙ ap (λ o. filter_map (improved id old) (take place cells) ++ cons_option o []) (sym nothing)
          ∙ sym (sent_more (improved id old) cells place within);
      back = (λ i. after_sends id (kept i) (same i)) ∙ before.back ∙ ap (λ xs. after_sends id xs old) (sym kept);
      rest = λ j h k. ap (λ m. get m (key_at id cells j)) same ∙ before.rest j (omega arith) k;
      raised_are = subst AreRaised (sym kept) before.raised_are;
      placed = subst AreInPlace (sym same) before.placed;
    }

-- what is found of a key is the same after the same tiles
alike_after : (id : ℕ) (sends : List TileSend) (a b : Live) (q : Key) → get a q ≡ get b q → get (after_sends id sends a) q ≡ get (after_sends id sends b) q
alike_after id [] a b q same = same
alike_after id (send ∷ sends) a b q same =
    alike_after id sends (with_live id a send) (with_live id b send) q
    (get-insert key_total a (cell_key id send.cell) send q
    ∙ ap (cond (eq_by_cmp key_cmp q (cell_key id send.cell)) (Some send)) same
    ∙ sym (get-insert key_total b (cell_key id send.cell) send q))

-- put back at its key, a tile that was taken out is where it was
put_back : (id : ℕ) (send : TileSend) (sends : List TileSend) (old live : Live) → after_sends id sends live ≡ after_sends id sends old
    → after_sends id (sends ++ send ∷ []) (remove live (cell_key id send.cell)) ≡ after_sends id (sends ++ send ∷ []) old
put_back id send sends old live back =
    fold-append (with_live id) (remove live (cell_key id send.cell)) sends (send ∷ [])
    ∙ same_map key_total key_same _ _ (λ q.
    get-insert key_total (after_sends id sends (remove live (cell_key id send.cell))) (cell_key id send.cell) send q
    ∙ by q (eq_by_cmp key_cmp q (cell_key id send.cell)) refl
    ∙ sym (get-insert key_total (after_sends id sends old) (cell_key id send.cell) send q))
    ∙ sym (fold-append (with_live id) old sends (send ∷ []))
  where
    by : (q : Key) (b : Bool) → eq_by_cmp key_cmp q (cell_key id send.cell) ≡ b
        → cond b (Some send) (get (after_sends id sends (remove live (cell_key id send.cell))) q) ≡ cond b (Some send) (get (after_sends id sends old) q)
    by q true ties = refl
    by q false ties =
        alike_after id sends (remove live (cell_key id send.cell)) live q
        (get-remove key_total live (cell_key id send.cell) q ∙ ap (λ b. cond b None (get live q)) ties)
        ∙ ap (λ m. get m q) back

-- no key stands at two places
keys_apart : (id : ℕ) (rect : Rect) (cells : List Cell) (j k : ℕ) → cells ≡ cells_met rect → j < k → k < length cells → eq_by_cmp key_cmp (key_at id cells k) (key_at id cells j) ≡ false
keys_apart id rect cells j k are before within = by (eq_by_cmp key_cmp (key_at id cells k) (key_at id cells j)) refl
  where
    by : (b : Bool) → eq_by_cmp key_cmp (key_at id cells k) (key_at id cells j) ≡ b → b ≡ false
    by false ties = refl
    by true ties =
        let same : key_at id cells k ≡ key_at id cells j = tied (key_at id cells k) (key_at id cells j) ties in
        let alike : get_or cells j (cell 0 0) ≡ get_or cells k (cell 0 0) = λ i. cell (sym same i).x (sym same i).y in
        absurd (cells_apart (rect.left / 64) (rect.top / 64) (cells_along rect.right - rect.left / 64) (cells_along rect.bottom - rect.top / 64) j k before
        (subst (λ (xs : List Cell). k < length xs) are within)
        (subst (λ (xs : List Cell). get_or xs j (cell 0 0) ≡ get_or xs k (cell 0 0)) are alike))

-- one that has
pub one_taken : (id : ℕ) (rect : Rect) (cells : List Cell) (old live new : Live) (sends more : List TileSend) (place : ℕ) (c : Cell) (send : TileSend)
    → cells ≡ cells_met rect → place < length cells → c ≡ get_or cells place (cell 0 0) → Some send ≡ improved id live c
    → new ≡ remove live (cell_key id c) → more ≡ sends ++ send ∷ []
    → Taking id cells old live sends place → Taking id cells old new more (place + 1)
one_taken id rect cells old live new sends more place c send are within at is left put before =
    let from : ComesOf (get live (cell_key id c)) send = comes_of _ send is in
    let raise : IsRaisedFrom from.old send = raised_from from.old send from.raises in
    let here : IsInPlace (cell_key id c) from.old = subst (λ o. IfSome o (IsInPlace (cell_key id c))) from.is (before.placed (cell_key id c)) in
    let key : cell_key id c ≡ cell_key id send.cell = here ∙ ap (λ (s : TileSend). cell_key id s.cell) (sym raise.is) in
    let there : key_at id cells place ≡ cell_key id c = ap (cell_key id) (sym at) in
    let sent : improved id old (get_or cells place (cell 0 0)) ≡ Some send =
    ap (option_and_then raised) (sym (before.rest place (omega arith) within)) ∙ ap (improved id live) (sym at) ∙ sym is in
    record {
      value =
          put ∙ (λ i. before.value i ++ cons_option (sym sent i) [])
          ∙ sym (sent_more (improved id old) cells place within);
      back =
          (λ i. after_sends id (put i) (left i))
          ∙ ap (λ k. after_sends id (sends ++ send ∷ []) (remove live k)) key
          ∙ put_back id send sends old live before.back
          ∙ ap (λ xs. after_sends id xs old) (sym put);
      rest = λ j h k.
          ap (λ m. get m (key_at id cells j)) left
          ∙ get-remove key_total live (cell_key id c) (key_at id cells j)
          ∙ ap (λ b. cond b None (get live (key_at id cells j))) (ap (eq_by_cmp key_cmp (key_at id cells j)) (sym there) ∙ keys_apart id rect cells place j are (omega arith) k)
          ∙ before.rest j (omega arith) k;
      raised_are = subst AreRaised (sym put) (All-push IsRaised sends send before.raised_are (raised_now from.old send raise));
      placed = subst AreInPlace (sym left) (removed_in_place live (cell_key id c) before.placed);
    }
  where
    raised_now : (old send : TileSend) → IsRaisedFrom old send → IsRaised send
    raised_now old send raise = subst IsRaised (sym raise.is) (omega arith, omega (arith, raise.below))
