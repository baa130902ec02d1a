-- Bytes are cut into items in one way, and so are they with more bytes behind.
use Rattle.std.proofs.Common.{◌≡◌, ℕ, zero, suc, ◌≤◌, ◌<◌, false, List, [], ◌∷◌, ◌++◌, length, refl, sym, ap, ◌∙◌, arith}
use Rattle.std.proofs.lemmas.List.{append-nil, nil_from_length}
use Rattle.gfx_fragments.specs.Cut.{Next, One, Few, Wrong, is_one, Cut, cut_of, with_first, cut_within, cut, Cuts}

-- what an input is cut by: an item has bytes, and what is at the front stays there under more bytes
pub record IsLawful (next : List ℕ → Next) : Type 0 where
  pub none : next [] ≡ Few
  pub fewer : (bytes item after : List ℕ) → next bytes ≡ One item after → length after < length bytes
  pub whole : (bytes more item after : List ℕ) → next bytes ≡ One item after → next (bytes ++ more) ≡ One item (after ++ more)
  pub wrong : (bytes more : List ℕ) → next bytes ≡ Wrong → next (bytes ++ more) ≡ Wrong

-- how bytes are cut --------------------------------------------------------------------------------

pub Cuts-append : (next : List ℕ → Next) → IsLawful next → (bytes : List ℕ) (items : List (List ℕ)) (rest more : List ℕ) → Cuts next bytes items rest → Cuts next (bytes ++ more) items (rest ++ more)
Cuts-append next law bytes [] rest more e = ap (λ z. z ++ more) e
Cuts-append next law bytes (item ∷ items) rest more (after, e, others) =
    (after ++ more, law.whole bytes more item after e, Cuts-append next law after items rest more others)

pub Cuts-then : (next : List ℕ → Next) (bytes : List ℕ) (items : List (List ℕ)) (rest : List ℕ) (more : List (List ℕ)) (last : List ℕ) → Cuts next bytes items rest → Cuts next rest more last → Cuts next bytes (items ++ more) last
Cuts-then next bytes [] rest more last e then = rw e then
Cuts-then next bytes (item ∷ items) rest more last (after, e, others) then = (after, e, Cuts-then next after items rest more last others then)

-- one item more
pub Cuts-one : (next : List ℕ → Next) (bytes : List ℕ) (items : List (List ℕ)) (rest item after : List ℕ) → Cuts next bytes items rest → next rest ≡ One item after → Cuts next bytes (items ++ item ∷ []) after
Cuts-one next bytes items rest item after cuts e = Cuts-then next bytes items rest (item ∷ []) after cuts (after, e, refl)

-- bytes are cut so, and no item is at the front of those behind
pub record IsCut (next : List ℕ → Next) (bytes : List ℕ) (c : Cut) : Type 0 where
  pub cuts : Cuts next bytes c.items c.rest
  pub ends : is_one (next c.rest) ≡ false

cut_first : (next : List ℕ → Next) (bytes : List ℕ) (others : List ℕ → Cut) (found : Next) → next bytes ≡ found → ((item after : List ℕ) → found ≡ One item after → IsCut next after (others after)) → IsCut next bytes (with_first found bytes others)
cut_first next bytes others (One item after) e behind =
    let rest = behind item after refl in record { cuts = (after, e, rest.cuts); ends = rest.ends }
cut_first next bytes others Few e behind = record { cuts = refl; ends = ap is_one e }
cut_first next bytes others Wrong e behind = record { cuts = refl; ends = ap is_one e }

within-cut : (next : List ℕ → Next) → IsLawful next → (most : ℕ) (bytes : List ℕ) → length bytes ≤ most → IsCut next bytes (cut_within most next bytes)
unfolding cut_within
within-cut next law zero bytes fits =
    let none : bytes ≡ [] = nil_from_length bytes (omega arith) in
    record { cuts = refl; ends = ap (λ z. is_one (next z)) none ∙ ap is_one law.none }
within-cut next law (suc most) bytes fits =
    cut_first next bytes (λ after. cut_within most next after) (next bytes) refl
    (λ item after e. within-cut next law most after (let fewer = law.fewer bytes item after e in omega arith))

pub cut-there : (next : List ℕ → Next) → IsLawful next → (bytes : List ℕ) → IsCut next bytes (cut next bytes)
unfolding cut
cut-there next law bytes = within-cut next law (length bytes) bytes (omega arith)

-- there is one cut ----------------------------------------------------------------------------------

pub record IsSame (items others : List (List ℕ)) (rest last : List ℕ) : Type 0 where
  pub items_are : items ≡ others
  pub rest_is : rest ≡ last

same-more : (item other : List ℕ) (items others : List (List ℕ)) (rest last : List ℕ) → item ≡ other → IsSame items others rest last → IsSame (item ∷ items) (other ∷ others) rest last
same-more item other items others rest last e same =
    record { items_are = ap (λ z. z ∷ items) e ∙ ap (λ z. other ∷ z) same.items_are; rest_is = same.rest_is }

not-one : (next : List ℕ → Next) (bytes item after : List ℕ) → is_one (next bytes) ≡ false → next bytes ≡ One item after → ⊥
not-one next bytes item after ends e = let clash = sym ends ∙ ap is_one e in cc

pub one_cut : (next : List ℕ → Next) (bytes other : List ℕ) (items others : List (List ℕ)) (rest last : List ℕ) → bytes ≡ other → Cuts next bytes items rest → Cuts next other others last
    → is_one (next rest) ≡ false → is_one (next last) ≡ false → IsSame items others rest last
one_cut next bytes other [] [] rest last same e f ends stops = record { items_are = refl; rest_is = sym e ∙ same ∙ f }
one_cut next bytes other [] (j ∷ others) rest last same e (after, f, behind) ends stops =
    absurd (not-one next rest j after ends (ap next (sym e ∙ same) ∙ f))
one_cut next bytes other (i ∷ items) [] rest last same (after, e, behind) f ends stops =
    absurd (not-one next last i after stops (ap next (sym f ∙ sym same) ∙ e))
one_cut next bytes other (i ∷ items) (j ∷ others) rest last same (after, e, behind) (then, f, beyond) ends stops =
    let fronts : One i after ≡ One j then = sym e ∙ ap next same ∙ f in
    let item : i ≡ j = cc in
    let left : after ≡ then = cc in
    same-more i j items others rest last item (one_cut next after then items others rest last left behind beyond ends stops)

pub cut-is : (next : List ℕ → Next) → IsLawful next → (bytes : List ℕ) (items : List (List ℕ)) (rest : List ℕ) → Cuts next bytes items rest → is_one (next rest) ≡ false → cut next bytes ≡ cut_of items rest
cut-is next law bytes items rest cuts ends =
    let c = cut-there next law bytes in
    let same = one_cut next bytes bytes (cut next bytes).items items (cut next bytes).rest rest refl c.cuts cuts c.ends ends in
    ap (λ z. cut_of z (cut next bytes).rest) same.items_are ∙ ap (cut_of items) same.rest_is

-- with more bytes ------------------------------------------------------------------------------------

-- bytes that begin with these items: the others are those of the rest
pub cut-behind : (next : List ℕ → Next) → IsLawful next → (bytes : List ℕ) (items : List (List ℕ)) (rest : List ℕ) → Cuts next bytes items rest → cut next bytes ≡ cut_of (items ++ (cut next rest).items) (cut next rest).rest
cut-behind next law bytes items rest cuts =
    let c = cut-there next law rest in
    cut-is next law bytes (items ++ (cut next rest).items) (cut next rest).rest (Cuts-then next bytes items rest (cut next rest).items (cut next rest).rest cuts c.cuts) c.ends

pub cut-append : (next : List ℕ → Next) → IsLawful next → (bytes more : List ℕ) → let old = cut next bytes in let new = cut next (old.rest ++ more) in cut next (bytes ++ more) ≡ cut_of (old.items ++ new.items) new.rest
cut-append next law bytes more =
    let c = cut-there next law bytes in
    cut-behind next law (bytes ++ more) (cut next bytes).items ((cut next bytes).rest ++ more) (Cuts-append next law bytes (cut next bytes).items (cut next bytes).rest more c.cuts)

-- nothing is taken behind a wrong length
pub cut-wrong : (next : List ℕ → Next) → IsLawful next → (bytes : List ℕ) → next bytes ≡ Wrong → cut next bytes ≡ cut_of [] bytes
cut-wrong next law bytes e = cut-is next law bytes [] bytes refl (ap is_one e)

-- behind a wrong length all stays, but for the bytes
pub record StaysWrong (next : List ℕ → Next) (bytes more : List ℕ) : Type 0 where
  pub items_are : (cut next (bytes ++ more)).items ≡ (cut next bytes).items
  pub wrong : next (cut next (bytes ++ more)).rest ≡ Wrong

pub stays-wrong : (next : List ℕ → Next) → IsLawful next → (bytes more : List ℕ) → next (cut next bytes).rest ≡ Wrong → StaysWrong next bytes more
stays-wrong next law bytes more e =
    let old = cut next bytes in
    let then = law.wrong old.rest more e in
    let now = cut-append next law bytes more in
    let none = cut-wrong next law (old.rest ++ more) then in
    record {
      items_are = ap (λ (z : Cut). z.items) now ∙ ap (λ (z : Cut). old.items ++ z.items) none ∙ append-nil old.items;
      wrong = ap (λ (z : Cut). next z.rest) now ∙ ap (λ (z : Cut). next z.rest) none ∙ then;
    }

-- nothing was given yet
pub cut-nil : (next : List ℕ → Next) → IsLawful next → cut next [] ≡ cut_of [] []
cut-nil next law = cut-is next law [] [] [] refl (ap is_one law.none)
