-- The walk along the links of an index meets every place of the pixels that are looked for.
use Rattle.std.proofs.Common.{◌≡◌, ◌≢◌, ◌⊎◌, inl, inr, ℕ, ◌<◌, ◌≤◌, Bool, true, false, nat_lt, cond, min, List, length, get_or, Some, None, refl, sym, ap, ◌∙◌, subst, arith}
use Rattle.std.specs.Bool.{Decides}
use Rattle.std.specs.List.{position, position_or_len}
use Rattle.std.specs.Option.{option_map}
use Rattle.std.proofs.lemmas.Bool.{cases_eq, cases_lt}
use Rattle.std.proofs.lemmas.Bool.Decides.{nat_tests}
use Rattle.std.proofs.lemmas.Slice.Eq.{slice_eq-Decides}
use Rattle.std.proofs.lemmas.List.{get_or_default}
use Rattle.std.proofs.lemmas.List.Sums.{position_or_len_is}
use Rattle.gfx_base.specs.declared.pixel.Rgb.{Rgb}
use Rattle.gfx_base.specs.Colour.{same_colour, same_pixels}
use Rattle.gfx_base.proofs.Palettes.{same_itself, same_is}
use Rattle.gfx_clear_store.specs.Rings.{Slot, stands}
use Rattle.gfx_clear_store.specs.Home.{home_of}
use Rattle.gfx_clear_store.specs.Index.{rank, home_at, Leads, IsIndex}
use Rattle.gfx_clear_store.proofs.Written.{rank_apart, home_within}

pub same_colour-Decides : (c d : Rgb) → Decides (same_colour c d) (c ≡ d)
same_colour-Decides c d = (same_is c d, λ e. ap (same_colour c) (sym e) ∙ same_itself c)

pub same_pixels-Decides : (xs ys : List Rgb) → Decides (same_pixels xs ys) (xs ≡ ys)
same_pixels-Decides xs ys = slice_eq-Decides same_colour-Decides xs ys (same_pixels xs ys) refl

-- the test says what stands there
pub stands_is : (pixels : List Rgb) (slot : Slot) → stands pixels slot ≡ true → slot ≡ Some pixels
stands_is pixels None e = let clash : false ≡ true = e in absurd cc
stands_is pixels (Some held) e = ap Some ((same_pixels-Decides held pixels).0 e)

pub is_stands : (pixels : List Rgb) (slot : Slot) → slot ≡ Some pixels → stands pixels slot ≡ true
is_stands pixels slot e = ap (stands pixels) e ∙ (same_pixels-Decides pixels pixels).1 refl

-- what has to be met yet: each place of the pixels is not below the least so far, or is reached from here
abbrev pub Left : ℕ → ℕ → List Slot → List Rgb → ℕ → ℕ → Type 0
Left count cursor slots pixels least place =
    (p : ℕ) → stands pixels (get_or slots p None) ≡ true → (least ≤ p) ⊎ Leads (rank count cursor) (home_at count slots) (home_of count pixels) p place

pub home_stands : (count : ℕ) (slots : List Slot) (pixels : List Rgb) (p : ℕ) → stands pixels (get_or slots p None) ≡ true → home_at count slots p ≡ Some (home_of count pixels)
home_stands count slots pixels p e = ap (option_map (home_of count)) (stands_is pixels (get_or slots p None) e)

pub left_first : (count cursor : ℕ) (slots : List Slot) (pixels : List Rgb) (latest earlier : List ℕ) (home place : ℕ)
    → home ≡ home_of count pixels → place ≡ get_or latest home 0
    → IsIndex (rank count cursor) (home_at count slots) latest earlier → Left count cursor slots pixels count place
left_first count cursor slots pixels latest earlier home place is at index p e =
    inr (subst (λ z. Leads (rank count cursor) (home_at count slots) (home_of count pixels) p z) (sym (at ∙ ap (λ z. get_or latest z 0) is)) (index.first p (home_of count pixels) (home_stands count slots pixels p e)))

pub left_next : (count cursor : ℕ) (slots : List Slot) (pixels : List Rgb) (latest earlier : List ℕ) (least place least' place' : ℕ)
    → length slots ≡ count → place < count
    → ((link : ℕ) → link ≡ get_or earlier place 0 → link < count → rank count cursor link < rank count cursor place → place' ≡ link)
    → least' ≡ cond (stands pixels (get_or slots place None)) (min place least) least
    → IsIndex (rank count cursor) (home_at count slots) latest earlier
    → Left count cursor slots pixels least place → Left count cursor slots pixels least' place'
left_next count cursor slots pixels latest earlier least place least' place' long within link lesser index left p e = by (left p e)
  where
    not_more : (b : Bool) → least' ≡ cond b (min place least) least → least' ≤ least
    not_more true is = omega arith
    not_more false is = omega arith

    by : ((least ≤ p) ⊎ Leads (rank count cursor) (home_at count slots) (home_of count pixels) p place) → (least' ≤ p) ⊎ Leads (rank count cursor) (home_at count slots) (home_of count pixels) p place'
    by (inl met) = inl (let less = not_more _ lesser in omega arith)
    by (inr leads) = at (cases_eq p place)
      where
        at : ((p ≡ place) ⊎ (p ≢ place)) → (least' ≤ p) ⊎ Leads (rank count cursor) (home_at count slots) (home_of count pixels) p place'
        at (inl here) =
            let found : least' ≡ min place least = lesser ∙ ap (λ b. cond b (min place least) least) (ap (λ z. stands pixels (get_or slots z None)) (sym here) ∙ e) in
            inl (omega arith)
        at (inr apart) =
            let home = home_stands count slots pixels p e in
            let in_p = home_within count slots p (home_of count pixels) home in
            let next = index.next place p (home_of count pixels) leads.same home (rank_apart count cursor p place (omega arith) within leads.after apart) in
            let in_link = home_within count slots (get_or earlier place 0) (home_of count pixels) next.0.same in
            inr (subst (λ z. Leads (rank count cursor) (home_at count slots) (home_of count pixels) p z) (sym (link (get_or earlier place 0) refl (omega arith) next.1)) next.0)

-- the least so far is a place of the pixels
pub least_next : (count : ℕ) (slots : List Slot) (pixels : List Rgb) (least place least' : ℕ) → place < count
    → least' ≡ cond (stands pixels (get_or slots place None)) (min place least) least
    → (least < count → stands pixels (get_or slots least None) ≡ true) → least' < count → stands pixels (get_or slots least' None) ≡ true
least_next count slots pixels least place least' within lesser held below = by (stands pixels (get_or slots place None)) refl
  where
    by : (b : Bool) → stands pixels (get_or slots place None) ≡ b → stands pixels (get_or slots least' None) ≡ true
    by false is =
        let same : least' ≡ least = lesser ∙ ap (λ b. cond b (min place least) least) is in
        ap (λ z. stands pixels (get_or slots z None)) same ∙ held (omega arith)
    by true is = side (cases_lt place least)
      where
        found : least' ≡ min place least
        found = lesser ∙ ap (λ b. cond b (min place least) least) is

        side : ((place < least) ⊎ (least ≤ place)) → stands pixels (get_or slots least' None) ≡ true
        side (inl less) = let same : least' ≡ place = omega (arith, found) in ap (λ z. stands pixels (get_or slots z None)) same ∙ is
        side (inr more) = let same : least' ≡ least = omega (arith, found) in ap (λ z. stands pixels (get_or slots z None)) same ∙ held (omega arith)

-- once the links end, the least is the first place
pub walked : (count cursor : ℕ) (slots : List Slot) (pixels : List Rgb) (least place : ℕ) → length slots ≡ count → count ≤ place → least ≤ count
    → (least < count → stands pixels (get_or slots least None) ≡ true) → Left count cursor slots pixels least place → position_or_len (stands pixels) slots ≡ least
walked count cursor slots pixels least place long past most held left =
    position_or_len_is (stands pixels) slots least None (omega arith) (λ k below. fails k below (stands pixels (get_or slots k None)) refl) (λ below. held (omega arith))
  where
    fails : (k : ℕ) → k < least → (b : Bool) → stands pixels (get_or slots k None) ≡ b → stands pixels (get_or slots k None) ≡ false
    fails k below false is = is
    fails k below true is = by (left k is)
      where
        by : ((least ≤ k) ⊎ Leads (rank count cursor) (home_at count slots) (home_of count pixels) k place) → stands pixels (get_or slots k None) ≡ false
        by (inl no_less) = absurd (omega arith)
        by (inr leads) = let in_place = home_within count slots place (home_of count pixels) leads.same in absurd (omega arith)

pub position_at : (xs : List Slot) (test : Slot → Bool) (n : ℕ) → position_or_len test xs ≡ n → n < length xs → Some n ≡ position test xs
position_at xs test n e below =
    let t : nat_lt (position_or_len test xs) (length xs) ≡ true = grind (arith, nat_tests) in
    sym (ap (λ b. cond b (Some (position_or_len test xs)) None) t ∙ ap Some e)

pub position_none : (xs : List Slot) (test : Slot → Bool) (n : ℕ) → position_or_len test xs ≡ n → length xs ≤ n → None ≡ position test xs
position_none xs test n e past =
    let t : nat_lt (position_or_len test xs) (length xs) ≡ false = grind (arith, nat_tests) in
    sym (ap (λ b. cond b (Some (position_or_len test xs)) None) t)

pub min_most : (b : Bool) (place least least' count : ℕ) → least' ≡ cond b (min place least) least → least ≤ count → least' ≤ count
min_most true place least least' count e most = omega arith
min_most false place least least' count e most = omega arith

-- the slot that was read is the one at the place
pub read_slot : (slots : List Slot) (pixels : List Rgb) (place at least least' : ℕ) (slot : Slot) → place < length slots → at ≡ place → slot ≡ get_or slots at slot
    → least' ≡ cond (stands pixels slot) (min place least) least → least' ≡ cond (stands pixels (get_or slots place None)) (min place least) least
read_slot slots pixels place at least least' slot within same read lesser =
    lesser ∙ ap (λ z. cond (stands pixels z) (min place least) least) (read ∙ ap (λ z. get_or slots z slot) same ∙ get_or_default slots place slot None within)

-- so far none was the place, and this one is
pub scan_here : (slots : List Slot) (pixels : List Rgb) (place : ℕ) (slot : Slot) → place < length slots → slot ≡ get_or slots place slot
    → stands pixels slot ≡ true → ((k : ℕ) → k < place → stands pixels (get_or slots k None) ≡ false) → Some place ≡ position (stands pixels) slots
scan_here slots pixels place slot within read found before =
    let here : stands pixels (get_or slots place None) ≡ true = sym (ap (stands pixels) (read ∙ get_or_default slots place slot None within)) ∙ found in
    position_at slots (stands pixels) place (position_or_len_is (stands pixels) slots place None (omega arith) before (λ below. here)) within

pub scan_none : (slots : List Slot) (pixels : List Rgb) (place : ℕ) → length slots ≤ place
    → ((k : ℕ) → k < place → stands pixels (get_or slots k None) ≡ false) → None ≡ position (stands pixels) slots
scan_none slots pixels place past before =
    position_none slots (stands pixels) (length slots) (position_or_len_is (stands pixels) slots (length slots) None (omega arith) (λ k below. before k (omega arith)) (λ below. absurd (omega arith))) (omega arith)
