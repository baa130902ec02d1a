-- Lists of places.
use Rattle.std.proofs.lemmas.Bool.Decides.{leb_tells}
use Rattle.std.proofs.Common.{◌≡◌, ◌≢◌, ℕ, zero, suc, ◌+◌, ◌-◌, ◌<◌, ◌≤◌, Bool, true, false, cond, ℤ, pos, negsuc, List, [], ◌∷◌, ◌++◌, length, take, set, inl, inr, refl, sym, ap, subst, ◌∙◌, arith, append_assoc, length-append, length-set, get_or-set_other}
use Rattle.std.specs.Prelude.{slice_index}
use Rattle.std.proofs.lemmas.List.{append-nil, get_or_append_left, get_or-append-add, get_or-take, take_more, take_more_set, take-set, length-take-le}
use Rattle.gfx_dwt.specs.Ranges.{at}
use Rattle.gfx_tile_state.specs.Entries.{Pass, way, way_at, coded, raw, pairs_from, raw_from}
use Rattle.gfx_tile_state.specs.Sifting.{Listed, is_nought, is_other, place_if, places, pairs_at, raw_at}
use Rattle.gfx_tile_state.proofs.Passing.{pairs-last, raw-last}

-- one of the two is so
pub nought-or-other : (z : ℤ) → is_nought z ≡ true → is_other z ≡ true → ⊥
nought-or-other (pos zero) a b = absurd (true-false (sym b))
  where
    true-false : true ≡ false → ⊥
    true-false f = cc
nought-or-other (pos (suc n)) a b = absurd (true-false (sym a))
  where
    true-false : true ≡ false → ⊥
    true-false f = cc
nought-or-other (negsuc n) a b = absurd (true-false (sym a))
  where
    true-false : true ≡ false → ⊥
    true-false f = cc

pub is-nought : (z : ℤ) → is_nought z ≡ true → z ≡ pos 0
is-nought (pos zero) e = refl
is-nought (pos (suc n)) e = cc
is-nought (negsuc n) e = cc

pub isnt-nought : (z : ℤ) → is_other z ≡ true → z ≡ pos 0 → ⊥
isnt-nought z e f = other (sym (ap is_other f) ∙ e)
  where
    other : false ≡ true → ⊥
    other g = cc

-- ---- what a list of places has

one-place : (b : Bool) (k j : ℕ) → j < length (place_if b k) → (slice_index (place_if b k) j ≡ k) × (b ≡ true)
one-place true k zero h = (refl, refl)
one-place true k (suc j) h = absurd (omega arith)
one-place false k j h = absurd (omega arith)

-- the places of all but the last, and the last
pub in-front : (ks ls : List ℕ) (j : ℕ) → j < length ks → slice_index (ks ++ ls) j ≡ slice_index ks j
in-front ks ls j h = get_or_append_left ks ls 0 j h

pub behind : (ks ls : List ℕ) (j : ℕ) → length ks ≤ j → slice_index (ks ++ ls) j ≡ slice_index ls (j - length ks)
behind ks ls j h = ap (slice_index (ks ++ ls)) {x = j} {y = length ks + (j - length ks)} (omega arith) ∙ get_or-append-add ks ls (j - length ks) 0

-- a place of a list lies between its ends, and is wanted
pub record IsPlace (wanted : ℤ → Bool) (sums : List ℤ) (from end k : ℕ) : Type 0 where
  pub low : from ≤ k
  pub high : k < end
  pub wants : wanted (at sums k) ≡ true

later-place : (wanted : ℤ → Bool) (sums : List ℤ) (from end end' k : ℕ) → end ≤ end' → IsPlace wanted sums from end k → IsPlace wanted sums from end' k
later-place wanted sums from end end' k h p = record { low = p.low; high = omega (arith, p.high); wants = p.wants }

pub each-place : (wanted : ℤ → Bool) (sums : List ℤ) (from count j : ℕ) → j < length (places wanted sums from count) → IsPlace wanted sums from (from + count) (slice_index (places wanted sums from count) j)
each-place wanted sums from zero j h = absurd (omega arith)
each-place wanted sums from (suc count) j h = elim (leb_tells (length ks) j) [
  | inr e ↦
      subst (IsPlace wanted sums from (from + suc count)) (sym (in-front ks ls j e.1))
      (later-place wanted sums from (from + count) (from + suc count) (slice_index ks j) (omega arith) (each-place wanted sums from count j e.1))
  | inl e ↦
      let last = one-place (wanted (at sums (from + count))) (from + count) (j - length ks) (omega (arith, e.1, length-append ks ls)) in
      subst (IsPlace wanted sums from (from + suc count)) (sym (behind ks ls j e.1 ∙ last.0))
      (record { low = omega arith; high = omega arith; wants = last.1 })
]
  where
    ks : List ℕ
    ks = places wanted sums from count

    ls : List ℕ
    ls = place_if (wanted (at sums (from + count))) (from + count)

-- and they rise
pub rises : (wanted : ℤ → Bool) (sums : List ℤ) (from count i j : ℕ) → i < j → j < length (places wanted sums from count)
    → slice_index (places wanted sums from count) i < slice_index (places wanted sums from count) j
rises wanted sums from zero i j less h = absurd (omega arith)
rises wanted sums from (suc count) i j less h = elim (leb_tells (length ks) j) [
  | inr e ↦
      let first : i < length ks = omega (arith, e.1) in
      subst (λ a. a < slice_index (ks ++ ls) j) (sym (in-front ks ls i first))
      (subst (λ b. slice_index ks i < b) (sym (in-front ks ls j e.1)) (rises wanted sums from count i j less e.1))
  | inl e ↦
      let last = one-place (wanted (at sums (from + count))) (from + count) (j - length ks) (omega (arith, e.1, length-append ks ls)) in
      let first : i < length ks = omega (arith, e.1, one-at-most (wanted (at sums (from + count))) (from + count), length-append ks ls) in
      subst (λ a. a < slice_index (ks ++ ls) j) (sym (in-front ks ls i first))
      (subst (λ b. slice_index ks i < b) (sym (behind ks ls j e.1 ∙ last.0)) (each-place wanted sums from count i first).high)
]
  where
    ks : List ℕ
    ks = places wanted sums from count

    ls : List ℕ
    ls = place_if (wanted (at sums (from + count))) (from + count)

    one-at-most : (b : Bool) (k : ℕ) → length (place_if b k) ≤ 1
    one-at-most true k = omega arith
    one-at-most false k = omega arith

-- the places of sums that are the same there
pub same-places : (wanted : ℤ → Bool) (sums others : List ℤ) (from count : ℕ) → ((k : ℕ) → from ≤ k → k < from + count → at sums k ≡ at others k)
    → places wanted sums from count ≡ places wanted others from count
same-places wanted sums others from zero same = refl
same-places wanted sums others from (suc count) same =
    ap (λ ks. ks ++ place_if (wanted (at sums (from + count))) (from + count)) (same-places wanted sums others from count (λ k a b. same k a (omega arith)))
    ∙ ap (λ z. places wanted others from count ++ place_if (wanted z) (from + count)) (same (from + count) (omega arith) (omega arith))

-- ---- a list is written

-- whether a place counts
abbrev pub one_if : Bool → ℕ
one_if b = cond b 1 0

pub listed : (b : Bool) (xs ks : List ℕ) (m m' place : ℕ) → m < length xs → m' ≡ m + one_if b → take m xs ≡ ks → take m' (set xs m place) ≡ ks ++ place_if b place
listed true xs ks m m' place h e same = ap (λ i. take i (set xs m place)) e ∙ take_more_set xs m place h ∙ ap (λ l. l ++ place ∷ []) same
listed false xs ks m m' place h e same = ap (λ i. take i (set xs m place)) {x = m'} {y = m} (omega arith) ∙ take-set xs m place ∙ same ∙ sym (append-nil ks)

pub one-counts : (z : ℤ) → one_if (is_nought z) + one_if (is_other z) ≡ 1
one-counts (pos zero) = refl
one-counts (pos (suc n)) = refl
one-counts (negsuc n) = refl

-- one place more
next-places : (wanted : ℤ → Bool) (sums : List ℤ) (from place : ℕ) → from ≤ place
    → places wanted sums from (place - from) ++ place_if (wanted (at sums place)) place ≡ places wanted sums from (place + 1 - from)
next-places wanted sums from place h =
    ap (λ k. places wanted sums from (place - from) ++ place_if (wanted (at sums k)) k) {x = place} {y = from + (place - from)} (omega arith)
    ∙ ap (places wanted sums from) {x = suc (place - from)} {y = place + 1 - from} (omega arith)

pub none-listed : (sums : List ℤ) (from : ℕ) (noughts others : List ℕ) → length noughts ≡ 1024 → length others ≡ 1024 → Listed sums from from 0 noughts others
none-listed sums from noughts others long long' = record {
  most = omega arith;
  noughts_long = long;
  others_long = long';
  noughts_are = ap (places is_nought sums from) {x = 0} {y = from - from} (omega arith);
  others_are = ap (λ n. take n others) {x = from - from - 0} {y = 0} (omega arith) ∙ ap (places is_other sums from) {x = 0} {y = from - from} (omega arith);
}

pub place-listed : (sums : List ℤ) (from place count more : ℕ) (noughts others : List ℕ) → from ≤ place → place < from + 1024 → more ≡ one_if (is_nought (at sums place))
    → Listed sums from place count noughts others → Listed sums from (place + 1) (count + more) (set noughts count place) (set others (place - from - count) place)
place-listed sums from place count more noughts others order room is l =
    let counts = one-counts (at sums place) in
    record {
      most = omega (arith, counts, l.most);
      noughts_long = length-set noughts count place ∙ l.noughts_long;
      others_long = length-set others (place - from - count) place ∙ l.others_long;
      noughts_are =
          listed (is_nought (at sums place)) noughts (places is_nought sums from (place - from)) count (count + more) place (omega (arith, l.most, l.noughts_long)) (ap (λ m. count + m) is) l.noughts_are
          ∙ next-places is_nought sums from place order;
      others_are =
          listed (is_other (at sums place)) others (places is_other sums from (place - from)) (place - from - count) (place + 1 - from - (count + more)) place (omega (arith, l.others_long)) (omega (arith, counts, l.most)) l.others_are
          ∙ next-places is_other sums from place order;
    }

-- a place of a sum that is zero
pub nought-listed : (sums : List ℤ) (from place place' count count' : ℕ) (noughts others : List ℕ) → from ≤ place → place < from + 1024 → at sums place ≡ pos 0 → place' ≡ place + 1 → count' ≡ count + 1
    → Listed sums from place count noughts others → Listed sums from place' count' (set noughts count place) others
nought-listed sums from place place' count count' noughts others order room none next more l = record {
  most = omega (arith, l.most);
  noughts_long = length-set noughts count place ∙ l.noughts_long;
  others_long = l.others_long;
  noughts_are =
      listed true noughts (places is_nought sums from (place - from)) count count' place (omega (arith, l.most, l.noughts_long)) more l.noughts_are
      ∙ ap (λ z. places is_nought sums from (place - from) ++ place_if (is_nought z) place) (sym none)
      ∙ next-places is_nought sums from place order
      ∙ ap (λ n. places is_nought sums from (n - from)) (sym next);
  others_are =
      ap (λ n. take n others) {x = place' - from - count'} {y = place - from - count} (omega (arith, l.most)) ∙ l.others_are
      ∙ sym (append-nil (places is_other sums from (place - from)))
      ∙ ap (λ z. places is_other sums from (place - from) ++ place_if (is_other z) place) (sym none)
      ∙ next-places is_other sums from place order
      ∙ ap (λ n. places is_other sums from (n - from)) (sym next);
}

-- places of a list lie in the plane
pub places-inside : (wanted : ℤ → Bool) (sums : List ℤ) (from to m : ℕ) (ks : List ℕ) → from ≤ to → to ≤ 4096 → m ≤ length ks → take m ks ≡ places wanted sums from (to - from)
    → (j : ℕ) → j < m → slice_index ks j < 4096
places-inside wanted sums from to m ks order end room e j h =
    let inside : j < length (places wanted sums from (to - from)) = subst (λ l. j < length l) e (omega (arith, length-take-le m ks room)) in
    let place = each-place wanted sums from (to - from) j inside in
    let same : slice_index ks j ≡ slice_index (places wanted sums from (to - from)) j = sym (get_or-take m ks j 0 h) ∙ ap (λ l. slice_index l j) e in
    omega (arith, same, place.high)

-- ---- the pairs and bits at places

pub pairs_at-last : (pass : Pass) (es : List ℤ) (ks : List ℕ) (k : ℕ) → pairs_at pass es (ks ++ k ∷ []) ≡ pairs_at pass es ks ++ coded (way_at pass k) (pass.falls k) (at es k)
pairs_at-last pass es [] k = append-nil (coded (way_at pass k) (pass.falls k) (at es k))
pairs_at-last pass es (x ∷ ks) k =
    ap (λ ps. coded (way_at pass x) (pass.falls x) (at es x) ++ ps) (pairs_at-last pass es ks k)
    ∙ sym (append_assoc (coded (way_at pass x) (pass.falls x) (at es x)) (pairs_at pass es ks) (coded (way_at pass k) (pass.falls k) (at es k)))

pub raw_at-last : (pass : Pass) (es : List ℤ) (ks : List ℕ) (k : ℕ) → raw_at pass es (ks ++ k ∷ []) ≡ raw_at pass es ks ++ raw (way_at pass k) (pass.falls k) (at es k)
raw_at-last pass es [] k = append-nil (raw (way_at pass k) (pass.falls k) (at es k))
raw_at-last pass es (x ∷ ks) k =
    ap (λ ps. raw (way_at pass x) (pass.falls x) (at es x) ++ ps) (raw_at-last pass es ks k)
    ∙ sym (append_assoc (raw (way_at pass x) (pass.falls x) (at es x)) (raw_at pass es ks) (raw (way_at pass k) (pass.falls k) (at es k)))

-- an entry elsewhere plays no part
pub pairs_at-apart : (pass : Pass) (es : List ℤ) (ks : List ℕ) (p : ℕ) (e : ℤ) → ((j : ℕ) → j < length ks → slice_index ks j ≢ p) → pairs_at pass (set es p e) ks ≡ pairs_at pass es ks
pairs_at-apart pass es [] p e apart = refl
pairs_at-apart pass es (x ∷ ks) p e apart =
    ap (λ z. coded (way_at pass x) (pass.falls x) z ++ pairs_at pass (set es p e) ks) (get_or-set_other es p x e (pos 0) (apart 0 (omega arith)))
    ∙ ap (λ ps. coded (way_at pass x) (pass.falls x) (at es x) ++ ps) (pairs_at-apart pass es ks p e (λ j h. apart (suc j) (omega arith)))

pub raw_at-apart : (pass : Pass) (es : List ℤ) (ks : List ℕ) (p : ℕ) (e : ℤ) → ((j : ℕ) → j < length ks → slice_index ks j ≢ p) → raw_at pass (set es p e) ks ≡ raw_at pass es ks
raw_at-apart pass es [] p e apart = refl
raw_at-apart pass es (x ∷ ks) p e apart =
    ap (λ z. raw (way_at pass x) (pass.falls x) z ++ raw_at pass (set es p e) ks) (get_or-set_other es p x e (pos 0) (apart 0 (omega arith)))
    ∙ ap (λ ps. raw (way_at pass x) (pass.falls x) (at es x) ++ ps) (raw_at-apart pass es ks p e (λ j h. apart (suc j) (omega arith)))

-- ---- the entries' pairs and bits are those of the places of each kind

coded-if : (n k : ℕ) (sum e : ℤ) (pass : Pass) (es : List ℤ) → 1 ≤ n → way_at pass k ≡ way n false sum → at es k ≡ e → coded (way_at pass k) (pass.falls k) e ≡ pairs_at pass es (place_if (is_nought sum) k)
coded-if zero k sum e pass es some is same = absurd (omega arith)
coded-if (suc n) k (pos zero) e pass es some is same = ap (coded (way_at pass k) (pass.falls k)) (sym same) ∙ sym (append-nil (coded (way_at pass k) (pass.falls k) (at es k)))
coded-if (suc n) k (pos (suc m)) e pass es some is same = ap (λ w. coded w (pass.falls k) e) is
coded-if (suc n) k (negsuc m) e pass es some is same = ap (λ w. coded w (pass.falls k) e) is

raw-if : (n k : ℕ) (sum e : ℤ) (pass : Pass) (es : List ℤ) → 1 ≤ n → way_at pass k ≡ way n false sum → at es k ≡ e → raw (way_at pass k) (pass.falls k) e ≡ raw_at pass es (place_if (is_other sum) k)
raw-if zero k sum e pass es some is same = absurd (omega arith)
raw-if (suc n) k (pos zero) e pass es some is same = ap (λ w. raw w (pass.falls k) e) is
raw-if (suc n) k (pos (suc m)) e pass es some is same = ap (raw (way_at pass k) (pass.falls k)) (sym same) ∙ sym (append-nil (raw (way_at pass k) (pass.falls k) (at es k)))
raw-if (suc n) k (negsuc m) e pass es some is same = ap (raw (way_at pass k) (pass.falls k)) (sym same) ∙ sym (append-nil (raw (way_at pass k) (pass.falls k) (at es k)))

pairs_at-append : (pass : Pass) (es : List ℤ) (ks ls : List ℕ) → pairs_at pass es (ks ++ ls) ≡ pairs_at pass es ks ++ pairs_at pass es ls
pairs_at-append pass es [] ls = refl
pairs_at-append pass es (k ∷ ks) ls =
    ap (λ ps. coded (way_at pass k) (pass.falls k) (at es k) ++ ps) (pairs_at-append pass es ks ls)
    ∙ sym (append_assoc (coded (way_at pass k) (pass.falls k) (at es k)) (pairs_at pass es ks) (pairs_at pass es ls))

raw_at-append : (pass : Pass) (es : List ℤ) (ks ls : List ℕ) → raw_at pass es (ks ++ ls) ≡ raw_at pass es ks ++ raw_at pass es ls
raw_at-append pass es [] ls = refl
raw_at-append pass es (k ∷ ks) ls =
    ap (λ ps. raw (way_at pass k) (pass.falls k) (at es k) ++ ps) (raw_at-append pass es ks ls)
    ∙ sym (append_assoc (raw (way_at pass k) (pass.falls k) (at es k)) (raw_at pass es ks) (raw_at pass es ls))

pub pairs-sifted : (count : ℕ) (pass : Pass) (es : List ℤ) (from n : ℕ) → 1 ≤ n → from + count ≤ length es → ((k : ℕ) → from ≤ k → k < from + count → way_at pass k ≡ way n false (at pass.sums k))
    → pairs_from pass 0 (take (from + count) es) ≡ pairs_from pass 0 (take from es) ++ pairs_at pass es (places is_nought pass.sums from count)
pairs-sifted zero pass es from n some room ways = ap (λ i. pairs_from pass 0 (take i es)) {x = from + 0} {y = from} (omega arith) ∙ sym (append-nil (pairs_from pass 0 (take from es)))
pairs-sifted (suc count) pass es from n some room ways =
    let k = from + count in
    ap (λ i. pairs_from pass 0 (take i es)) {x = from + suc count} {y = k + 1} (omega arith)
    ∙ ap (pairs_from pass 0) (take_more es k (pos 0) (omega arith))
    ∙ pairs-last pass 0 (take k es) (at es k)
    ∙ ap (λ j. pairs_from pass 0 (take k es) ++ coded (way_at pass j) (pass.falls j) (at es k)) {x = 0 + length (take k es)} {y = k} (omega (arith, length-take-le k es (omega arith)))
    ∙ ap (λ ps. ps ++ coded (way_at pass k) (pass.falls k) (at es k)) (pairs-sifted count pass es from n some (omega arith) (λ j a b. ways j a (omega arith)))
    ∙ append_assoc (pairs_from pass 0 (take from es)) (pairs_at pass es (places is_nought pass.sums from count)) (coded (way_at pass k) (pass.falls k) (at es k))
    ∙ ap (λ ps. pairs_from pass 0 (take from es) ++ (pairs_at pass es (places is_nought pass.sums from count) ++ ps)) (coded-if n k (at pass.sums k) (at es k) pass es some (ways k (omega arith) (omega arith)) refl)
    ∙ ap (λ ps. pairs_from pass 0 (take from es) ++ ps) (sym (pairs_at-append pass es (places is_nought pass.sums from count) (place_if (is_nought (at pass.sums k)) k)))

pub raw-sifted : (count : ℕ) (pass : Pass) (es : List ℤ) (from n : ℕ) → 1 ≤ n → from + count ≤ length es → ((k : ℕ) → from ≤ k → k < from + count → way_at pass k ≡ way n false (at pass.sums k))
    → raw_from pass 0 (take (from + count) es) ≡ raw_from pass 0 (take from es) ++ raw_at pass es (places is_other pass.sums from count)
raw-sifted zero pass es from n some room ways = ap (λ i. raw_from pass 0 (take i es)) {x = from + 0} {y = from} (omega arith) ∙ sym (append-nil (raw_from pass 0 (take from es)))
raw-sifted (suc count) pass es from n some room ways =
    let k = from + count in
    ap (λ i. raw_from pass 0 (take i es)) {x = from + suc count} {y = k + 1} (omega arith)
    ∙ ap (raw_from pass 0) (take_more es k (pos 0) (omega arith))
    ∙ raw-last pass 0 (take k es) (at es k)
    ∙ ap (λ j. raw_from pass 0 (take k es) ++ raw (way_at pass j) (pass.falls j) (at es k)) {x = 0 + length (take k es)} {y = k} (omega (arith, length-take-le k es (omega arith)))
    ∙ ap (λ ps. ps ++ raw (way_at pass k) (pass.falls k) (at es k)) (raw-sifted count pass es from n some (omega arith) (λ j a b. ways j a (omega arith)))
    ∙ append_assoc (raw_from pass 0 (take from es)) (raw_at pass es (places is_other pass.sums from count)) (raw (way_at pass k) (pass.falls k) (at es k))
    ∙ ap (λ ps. raw_from pass 0 (take from es) ++ (raw_at pass es (places is_other pass.sums from count) ++ ps)) (raw-if n k (at pass.sums k) (at es k) pass es some (ways k (omega arith) (omega arith)) refl)
    ∙ ap (λ ps. raw_from pass 0 (take from es) ++ ps) (sym (raw_at-append pass es (places is_other pass.sums from count) (place_if (is_other (at pass.sums k)) k)))
