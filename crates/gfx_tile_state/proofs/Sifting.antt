-- How an upgrade goes on by lists of places.
use Rattle.std.proofs.lemmas.Bool.Decides.{eqb_tells, leb_tells}
use Rattle.std.proofs.Common.{◌≡◌, ◌≢◌, ℕ, zero, suc, ◌+◌, ◌-◌, ◌<◌, ◌≤◌, Bool, true, false, ◌&&◌, ℤ, pos, negsuc, ◌+ℤ◌, List, [], ◌∷◌, ◌++◌, length, map, take, set, replicate, inl, inr, refl, sym, ap, subst, ◌∙◌, arith, append_assoc, length-append, length-set, get_or-set_same, get_or-set_other}
use Rattle.std.specs.Prelude.{MatchBool, slice_index}
use Rattle.std.proofs.lemmas.List.{append-nil, map-append, get_or_append_left, get_or-append-add, get_or-take, length-replicate, length-take, take_at, take_more, take-set-le}
use Rattle.std.proofs.lemmas.Nat.{pow_pos}
use Rattle.std.proofs.Math.IntN.{+ℤ_idl}
use Rattle.std.proofs.Math.Seq.{take-length}
use Rattle.gfx_bits.specs.Bits.{Spelled}
use Rattle.gfx_srl.specs.Steps.{HasRead, ReadsMany, at_width}
use Rattle.gfx_dwt.specs.Ranges.{IsCoefficient, at}
use Rattle.gfx_quant.specs.Coefficient.{coefficient_of, is_coefficient}
use Rattle.gfx_tile_state.specs.declared.entries.Readers.{Readers}
use Rattle.gfx_tile_state.specs.Entries.{AreAlike, Coded, Counted, Down, Fits, Nothing, Pass, ReadsEntry, Stands, Up, Upgraded, Way, coded, pairs_from, raw, raw_from, sum_after, way, way_at, wrapped}
use Rattle.gfx_tile_state.specs.Sifting.{Sifted, is_nought, is_other, pairs_at, places, raw_at}
use Rattle.gfx_tile_state.proofs.PlaceLists.{IsPlace, each-place, rises, same-places, is-nought, isnt-nought, nought-or-other, pairs-sifted, raw-sifted, pairs_at-apart, raw_at-apart, pairs_at-last, raw_at-last}
use Rattle.gfx_tile_state.proofs.Passing.{wrapped-small, same-range, stays}

-- ---- entries that aren't read yet are zero

zero-fits : (w : Way) (n : ℕ) → Fits w n (pos 0)
zero-fits Nothing n = refl
zero-fits Counted n = (refl, pow_pos n)
zero-fits Up n = (refl, pow_pos n)
zero-fits Down n = (refl, pow_pos n)
zero-fits Coded n = tt

-- what an entry of zero leaves
zero-adds : (z : ℤ) (position : ℕ) → IsCoefficient z → (wrapped (z +ℤ coefficient_of (pos 0) position) ≡ z) × (is_coefficient (z +ℤ coefficient_of (pos 0) position) ≡ true)
zero-adds z position small =
    let same = stays z position in
    let cuts = wrapped-small z small in
    (ap wrapped same ∙ cuts.0, ap is_coefficient same ∙ cuts.1)

-- the way of a place of a band with signs
pub way-alike : (pass : Pass) (from to n position k : ℕ) → AreAlike pass from to n position false → from ≤ k → k < to → way_at pass k ≡ way n false (at pass.sums k)
way-alike pass from to n position k alike a b =
    ap (λ m. way m (pass.low k) (at pass.sums k)) (alike.falls k a b) ∙ ap (λ l. way n l (at pass.sums k)) (alike.lows k a b)

-- ---- the beginning

more-range : (P : ℕ → Bool) (from to : ℕ) (fits : Bool) → from ≤ to → ((k : ℕ) → from ≤ k → k < to → P k ≡ true)
    → MatchBool fits ((k : ℕ) → k < from → P k ≡ true) ((k : ℕ) × (k < from) × (P k ≡ false))
    → MatchBool fits ((k : ℕ) → k < to → P k ≡ true) ((k : ℕ) × (k < to) × (P k ≡ false))
more-range P from to true order fine before = λ k h. elim (leb_tells from k) [ inl e ↦ fine k e.1 h | inr e ↦ before k e.1 ]
more-range P from to false order fine before = (before.0, omega (arith, before.1), before.2)

pub sifting-begins : (pass : Pass) (from to : ℕ) (noughts others : List ℕ) (now : List ℤ) (fits : Bool) (readers : Readers) → from ≤ to → to ≤ length now
    → ((k : ℕ) → k < length now → IsCoefficient (at now k)) → noughts ≡ places is_nought now from (to - from) → others ≡ places is_other now from (to - from)
    → Upgraded pass from now fits readers → Sifted pass from to noughts others 0 0 now fits readers
sifting-begins pass from to noughts others now fits readers order end coefficients noughts_are others_are u = record {
  entries = entries;
  all = omega (arith, length-append es (replicate (to - from) (pos 0)), length-replicate (to - from) (pos 0), u.all);
  long = u.long;
  noughts_are = noughts_are ∙ same-places is_nought now pass.sums from (to - from) same;
  others_are = others_are ∙ same-places is_other now pass.sums from (to - from) same;
  small = small;
  stands =
      rw (append-nil (pairs_from pass 0 (take from entries)), append-nil (raw_from pass 0 (take from entries)))
      (subst (λ l. Stands pass.srl pass.bits (pairs_from pass 0 l) (raw_from pass 0 l) readers) (sym (take_at es (replicate (to - from) (pos 0)) from u.all)) u.stands);
  noughts_due = λ j a h. new-at (slice_index noughts j) (place-low is_nought noughts noughts_are j h);
  others_due = λ j a h. new-at (slice_index others j) (place-low is_other others others_are j h);
  fit = λ k h. elim (leb_tells from k) [
    | inl e ↦ subst (Fits (way_at pass k) (pass.falls k)) (sym (new-at k e.1)) (zero-fits (way_at pass k) (pass.falls k))
    | inr e ↦ subst (Fits (way_at pass k) (pass.falls k)) (sym (old-at k e.1)) (u.fit k e.1)
  ];
  sums = λ k h. elim (leb_tells from k) [
    | inl e ↦
        u.due k e.1 ∙ sym (zero-adds (at pass.sums k) (pass.positions k) (small k e.1 h)).0
        ∙ ap (λ z. wrapped (at pass.sums k +ℤ coefficient_of z (pass.positions k))) (sym (new-at k e.1))
    | inr e ↦ u.sums k e.1 ∙ ap (λ z. wrapped (at pass.sums k +ℤ coefficient_of z (pass.positions k))) (sym (old-at k e.1))
  ];
  due = λ k h. u.due k (omega arith);
  range =
      more-range (λ k. is_coefficient (sum_after pass entries k)) from to fits order
      (λ k a h. ap (λ z. is_coefficient (at pass.sums k +ℤ coefficient_of z (pass.positions k))) (new-at k a) ∙ (zero-adds (at pass.sums k) (pass.positions k) (small k a h)).1)
      (same-range (λ k. is_coefficient (sum_after pass es k)) (λ k. is_coefficient (sum_after pass entries k)) from fits
      (λ k h. ap (λ z. is_coefficient (at pass.sums k +ℤ coefficient_of z (pass.positions k))) (old-at k h)) u.range);
}
  where
    es : List ℤ
    es = u.entries

    entries : List ℤ
    entries = u.entries ++ replicate (to - from) (pos 0)

    old-at : (k : ℕ) → k < from → at (u.entries ++ replicate (to - from) (pos 0)) k ≡ at u.entries k
    old-at k h = get_or_append_left u.entries (replicate (to - from) (pos 0)) (pos 0) k (omega (arith, u.all))

    zero-at : (m i : ℕ) → at (replicate m (pos 0)) i ≡ pos 0
    zero-at zero i = refl
    zero-at (suc m) zero = refl
    zero-at (suc m) (suc i) = zero-at m i

    new-at : (k : ℕ) → from ≤ k → at (u.entries ++ replicate (to - from) (pos 0)) k ≡ pos 0
    new-at k h =
        ap (at (u.entries ++ replicate (to - from) (pos 0))) {x = k} {y = length u.entries + (k - from)} (omega (arith, u.all))
        ∙ get_or-append-add u.entries (replicate (to - from) (pos 0)) (k - from) (pos 0) ∙ zero-at (to - from) (k - from)

    same : (k : ℕ) → from ≤ k → k < from + (to - from) → at now k ≡ at pass.sums k
    same k a b = u.due k a

    small : (k : ℕ) → from ≤ k → k < to → IsCoefficient (at pass.sums k)
    small k a b = subst IsCoefficient (u.due k a) (coefficients k (omega arith))

    place-low : (wanted : ℤ → Bool) (ks : List ℕ) → ks ≡ places wanted now from (to - from) → (j : ℕ) → j < length ks → from ≤ slice_index ks j
    place-low wanted ks e j h =
        subst (λ l. from ≤ slice_index l j) (sym e) (each-place wanted now from (to - from) j (subst (λ l. j < length l) e h)).low

-- ---- one entry is put in its place

-- what is known of the entries and of the plane, whatever was read
record Holds (pass : Pass) (from to : ℕ) (entries now : List ℤ) (fits : Bool) : Type 0 where
  all : length entries ≡ to
  long : length now ≡ length pass.sums
  small : (k : ℕ) → from ≤ k → k < to → IsCoefficient (at pass.sums k)
  fit : (k : ℕ) → k < to → Fits (way_at pass k) (pass.falls k) (at entries k)
  sums : (k : ℕ) → k < to → at now k ≡ wrapped (sum_after pass entries k)
  due : (k : ℕ) → to ≤ k → at now k ≡ at pass.sums k
  range : MatchBool fits ((k : ℕ) → k < to → is_coefficient (sum_after pass entries k) ≡ true)
      ((k : ℕ) × (k < to) × (is_coefficient (sum_after pass entries k) ≡ false))

-- one place of all is told of anew, where it was fine
put-range : (P Q : ℕ → Bool) (to p : ℕ) (fits here : Bool) → p < to → ((k : ℕ) → k ≢ p → Q k ≡ P k) → P p ≡ true → here ≡ Q p
    → MatchBool fits ((k : ℕ) → k < to → P k ≡ true) ((k : ℕ) × (k < to) × (P k ≡ false))
    → MatchBool (fits && here) ((k : ℕ) → k < to → Q k ≡ true) ((k : ℕ) × (k < to) × (Q k ≡ false))
put-range P Q to p true true inside same fine is before = λ k h. elim (eqb_tells k p) [ inl e ↦ ap Q e.1 ∙ sym is | inr e ↦ same k e.1 ∙ before k h ]
put-range P Q to p true false inside same fine is before = (p, inside, sym is)
put-range P Q to p false here inside same fine is before = (before.0, before.1, same before.0 apart ∙ before.2)
  where
    true-false : true ≡ false → ⊥
    true-false f = cc

    apart : before.0 ≢ p
    apart e = true-false (sym fine ∙ sym (ap P e) ∙ before.2)

-- the sum of a place whose entry isn't read yet
still : (pass : Pass) (from to p : ℕ) (entries now : List ℤ) (fits : Bool) → Holds pass from to entries now fits → from ≤ p → p < to → at entries p ≡ pos 0 → at now p ≡ at pass.sums p
still pass from to p entries now fits h a b none =
    h.sums p b ∙ ap (λ z. wrapped (at pass.sums p +ℤ coefficient_of z (pass.positions p))) none ∙ (zero-adds (at pass.sums p) (pass.positions p) (h.small p a b)).0

puts : (pass : Pass) (from to p position : ℕ) (entries now now' : List ℤ) (entry : ℤ) (fits here : Bool) → Holds pass from to entries now fits → from ≤ p → p < to → p < length now
    → at entries p ≡ pos 0 → pass.positions p ≡ position → Fits (way_at pass p) (pass.falls p) entry
    → now' ≡ set now p (wrapped (at now p +ℤ coefficient_of entry position)) → here ≡ is_coefficient (at now p +ℤ coefficient_of entry position)
    → Holds pass from to (set entries p entry) now' (fits && here)
puts pass from to p position entries now now' entry fits here h a b inside none at_position fit put is =
    let was : at now p ≡ at pass.sums p = still pass from to p entries now fits h a b none in
    let here-at : at (set entries p entry) p ≡ entry = get_or-set_same entries p entry (pos 0) (omega (arith, h.all)) in
    let sum : at now p +ℤ coefficient_of entry position ≡ sum_after pass (set entries p entry) p =
    ap (λ z. z +ℤ coefficient_of entry position) was ∙ ap (λ s. at pass.sums p +ℤ coefficient_of entry s) (sym at_position) ∙ ap (λ z. at pass.sums p +ℤ coefficient_of z (pass.positions p)) (sym here-at) in
    let apart : (k : ℕ) → k ≢ p → at (set entries p entry) k ≡ at entries k = λ k ne. get_or-set_other entries p k entry (pos 0) ne in
    let now-apart : (k : ℕ) → k ≢ p → at now' k ≡ at now k = λ k ne. ap (λ l. at l k) put ∙ get_or-set_other now p k (wrapped (at now p +ℤ coefficient_of entry position)) (pos 0) ne in
    record {
      all = length-set entries p entry ∙ h.all;
      long = ap length put ∙ length-set now p (wrapped (at now p +ℤ coefficient_of entry position)) ∙ h.long;
      small = h.small;
      fit = λ k less. elim (eqb_tells k p) [
        | inl e ↦ subst (λ j. Fits (way_at pass j) (pass.falls j) (at (set entries p entry) j)) (sym e.1) (subst (Fits (way_at pass p) (pass.falls p)) (sym here-at) fit)
        | inr e ↦ subst (Fits (way_at pass k) (pass.falls k)) (sym (apart k e.1)) (h.fit k less)
      ];
      sums = λ k less. elim (eqb_tells k p) [
        | inl e ↦
            subst (λ j. at now' j ≡ wrapped (sum_after pass (set entries p entry) j)) (sym e.1)
            (ap (λ l. at l p) put ∙ get_or-set_same now p (wrapped (at now p +ℤ coefficient_of entry position)) (pos 0) inside ∙ ap wrapped sum)
        | inr e ↦ now-apart k e.1 ∙ h.sums k less ∙ ap (λ z. wrapped (at pass.sums k +ℤ coefficient_of z (pass.positions k))) (sym (apart k e.1))
      ];
      due = λ k less. now-apart k (λ e. omega arith) ∙ h.due k less;
      range =
          put-range (λ k. is_coefficient (sum_after pass entries k)) (λ k. is_coefficient (sum_after pass (set entries p entry) k)) to p fits here b
          (λ k ne. ap (λ z. is_coefficient (at pass.sums k +ℤ coefficient_of z (pass.positions k))) (apart k ne))
          (ap (λ z. is_coefficient (at pass.sums p +ℤ coefficient_of z (pass.positions p))) none ∙ (zero-adds (at pass.sums p) (pass.positions p) (h.small p a b)).1)
          (is ∙ ap is_coefficient sum) h.range;
    }

holds : (pass : Pass) (from to : ℕ) (noughts others : List ℕ) (z o : ℕ) (now : List ℤ) (fits : Bool) (readers : Readers) (s : Sifted pass from to noughts others z o now fits readers) → Holds pass from to s.entries now fits
holds pass from to noughts others z o now fits readers s = record {
  all = s.all;
  long = s.long;
  small = s.small;
  fit = s.fit;
  sums = s.sums;
  due = s.due;
  range = s.range;
}

-- ---- what the lists have

-- a place of a list that is given as one
listed-place : (wanted : ℤ → Bool) (sums : List ℤ) (from to : ℕ) (ks : List ℕ) → from ≤ to → ks ≡ places wanted sums from (to - from) → (j : ℕ) → j < length ks → IsPlace wanted sums from to (slice_index ks j)
listed-place wanted sums from to ks order e j h =
    subst (λ l. IsPlace wanted sums from to (slice_index l j)) (sym e)
    (subst (λ end. IsPlace wanted sums from end (slice_index (places wanted sums from (to - from)) j)) {x = from + (to - from)} {y = to} (omega arith)
    (each-place wanted sums from (to - from) j (subst (λ l. j < length l) e h)))

listed-rise : (wanted : ℤ → Bool) (sums : List ℤ) (from to : ℕ) (ks : List ℕ) → ks ≡ places wanted sums from (to - from) → (i j : ℕ) → i < j → j < length ks → slice_index ks i < slice_index ks j
listed-rise wanted sums from to ks e i j less h =
    subst (λ l. slice_index l i < slice_index l j) (sym e) (rises wanted sums from (to - from) i j less (subst (λ l. j < length l) e h))

-- a place of zero is none of the others
kinds-apart : (sums : List ℤ) (from to i j : ℕ) (noughts others : List ℕ) → from ≤ to → noughts ≡ places is_nought sums from (to - from) → others ≡ places is_other sums from (to - from)
    → i < length noughts → j < length others → slice_index noughts i ≢ slice_index others j
kinds-apart sums from to i j noughts others order e f a b same =
    nought-or-other (at sums (slice_index others j)) (subst (λ k. is_nought (at sums k) ≡ true) same (listed-place is_nought sums from to noughts order e i a).wants)
    (listed-place is_other sums from to others order f j b).wants

-- so many in front of a list, none of them this one
taken-apart : (ks : List ℕ) (m p : ℕ) → ((j : ℕ) → j < m → j < length ks → slice_index ks j ≢ p) → (j : ℕ) → j < length (take m ks) → slice_index (take m ks) j ≢ p
taken-apart ks m p apart j h e =
    let few : j < m = omega (arith, h, length-take m ks) in
    let inside : j < length ks = omega (arith, h, length-take m ks) in
    apart j few inside (sym (get_or-take m ks j 0 few) ∙ e)

-- ---- a raw number

uncoded : (n : ℕ) (sum entry : ℤ) → (sum ≡ pos 0 → ⊥) → coded (way n false sum) n entry ≡ []
uncoded zero sum entry apart = refl
uncoded (suc n) (pos zero) entry apart = absurd (apart refl)
uncoded (suc n) (pos (suc m)) entry apart = refl
uncoded (suc n) (negsuc m) entry apart = refl

pub other-read : (pass : Pass) (from to n position : ℕ) (noughts others : List ℕ) (z o p : ℕ) (now now' : List ℤ) (fits here : Bool) (readers readers' : Readers) (entry : ℤ)
    → from ≤ to → to ≤ length now → AreAlike pass from to n position false → o < length others → p ≡ slice_index others o → Sifted pass from to noughts others z o now fits readers
    → ((at now p ≡ pos 0 → ⊥) → ReadsEntry (way n false (at now p)) n entry readers readers')
    → now' ≡ set now p (wrapped (at now p +ℤ coefficient_of entry position)) → here ≡ is_coefficient (at now p +ℤ coefficient_of entry position)
    → Sifted pass from to noughts others z (o + 1) now' (fits && here) readers'
other-read pass from to n position noughts others z o p now now' fits here readers readers' entry order end alike inside is_at s read put is =
    let place : IsPlace is_other pass.sums from to p = subst (IsPlace is_other pass.sums from to) (sym is_at) (listed-place is_other pass.sums from to others order s.others_are o inside) in
    let h = holds pass from to noughts others z o now fits readers s in
    let none : at s.entries p ≡ pos 0 = ap (at s.entries) is_at ∙ s.others_due o (omega arith) inside in
    let was : at now p ≡ at pass.sums p = still pass from to p s.entries now fits h place.low place.high none in
    let some : at now p ≡ pos 0 → ⊥ = λ e. isnt-nought (at pass.sums p) place.wants (sym was ∙ e) in
    let its : way n false (at now p) ≡ way_at pass p = ap (way n false) was ∙ sym (way-alike pass from to n position p alike place.low place.high) in
    let falls : n ≡ pass.falls p = sym (alike.falls p place.low place.high) in
    let r : ReadsEntry (way_at pass p) (pass.falls p) entry readers readers' =
    subst (λ w. ReadsEntry w (pass.falls p) entry readers readers') its (subst (λ m. ReadsEntry (way n false (at now p)) m entry readers readers') falls (read some)) in
    let unread : coded (way_at pass p) (pass.falls p) entry ≡ [] = ap (λ m. coded (way_at pass p) m entry) (sym falls) ∙ ap (λ w. coded w n entry) (sym its) ∙ uncoded n (at now p) entry some in
    let new = puts pass from to p position s.entries now now' entry fits here h place.low place.high (omega (arith, place.high)) none (alike.positions p place.low place.high) r.fits put is in
    let es : List ℤ = set s.entries p entry in
    let apart : (j : ℕ) → j < length noughts → slice_index noughts j ≢ p = λ j a e. kinds-apart pass.sums from to j o noughts others order s.noughts_are s.others_are a inside (e ∙ is_at) in
    let before : (j : ℕ) → j < o → j < length others → slice_index others j ≢ p = λ j a b e. (let less : slice_index others j < slice_index others o = listed-rise is_other pass.sums from to others s.others_are j o a inside in omega arith) in
    let after : (j : ℕ) → o + 1 ≤ j → j < length others → slice_index others j ≢ p = λ j a b e. (let less : slice_index others o < slice_index others j = listed-rise is_other pass.sums from to others s.others_are o j (omega arith) b in omega arith) in
    let front : take from es ≡ take from s.entries = take-set-le from s.entries p entry place.low in
    let pairs : (pairs_from pass 0 (take from s.entries) ++ pairs_at pass s.entries (take z noughts)) ++ coded (way_at pass p) (pass.falls p) entry ≡ pairs_from pass 0 (take from es) ++ pairs_at pass es (take z noughts) =
    ap (λ ps. (pairs_from pass 0 (take from s.entries) ++ pairs_at pass s.entries (take z noughts)) ++ ps) unread
    ∙ append-nil (pairs_from pass 0 (take from s.entries) ++ pairs_at pass s.entries (take z noughts))
    ∙ ap (λ ps. pairs_from pass 0 (take from s.entries) ++ ps) (sym (pairs_at-apart pass s.entries (take z noughts) p entry (taken-apart noughts z p (λ j a b. apart j b))))
    ∙ ap (λ l. pairs_from pass 0 l ++ pairs_at pass es (take z noughts)) (sym front) in
    let last : raw_at pass es (take (o + 1) others) ≡ raw_at pass s.entries (take o others) ++ raw (way_at pass p) (pass.falls p) entry =
    ap (raw_at pass es) (take_more others o 0 inside ∙ ap (λ k. take o others ++ k ∷ []) (sym is_at))
    ∙ raw_at-last pass es (take o others) p
    ∙ ap (λ bs. bs ++ raw (way_at pass p) (pass.falls p) (at es p)) (raw_at-apart pass s.entries (take o others) p entry (taken-apart others o p before))
    ∙ ap (λ e. raw_at pass s.entries (take o others) ++ raw (way_at pass p) (pass.falls p) e) (get_or-set_same s.entries p entry (pos 0) (omega (arith, s.all, place.high))) in
    let numbers : (raw_from pass 0 (take from s.entries) ++ raw_at pass s.entries (take o others)) ++ raw (way_at pass p) (pass.falls p) entry ≡ raw_from pass 0 (take from es) ++ raw_at pass es (take (o + 1) others) =
    append_assoc (raw_from pass 0 (take from s.entries)) (raw_at pass s.entries (take o others)) (raw (way_at pass p) (pass.falls p) entry)
    ∙ ap (λ bs. raw_from pass 0 (take from s.entries) ++ bs) (sym last)
    ∙ ap (λ l. raw_from pass 0 l ++ raw_at pass es (take (o + 1) others)) (sym front) in
    record {
      entries = es;
      all = new.all;
      long = new.long;
      noughts_are = s.noughts_are;
      others_are = s.others_are;
      small = s.small;
      stands =
          subst (λ ps. Stands pass.srl pass.bits ps (raw_from pass 0 (take from es) ++ raw_at pass es (take (o + 1) others)) readers') pairs
          (subst (λ bs. Stands pass.srl pass.bits ((pairs_from pass 0 (take from s.entries) ++ pairs_at pass s.entries (take z noughts)) ++ coded (way_at pass p) (pass.falls p) entry) bs readers') numbers
          (r.reads pass.srl pass.bits (pairs_from pass 0 (take from s.entries) ++ pairs_at pass s.entries (take z noughts)) (raw_from pass 0 (take from s.entries) ++ raw_at pass s.entries (take o others)) s.stands));
      noughts_due = λ j a b. get_or-set_other s.entries p (slice_index noughts j) entry (pos 0) (apart j b) ∙ s.noughts_due j a b;
      others_due = λ j a b. get_or-set_other s.entries p (slice_index others j) entry (pos 0) (after j a b) ∙ s.others_due j (omega arith) b;
      fit = new.fit;
      sums = new.sums;
      due = new.due;
      range = new.range;
    }

-- ---- a value, and zeros before it

coded-nought : (n fall : ℕ) (w : Way) (sum entry : ℤ) → 1 ≤ n → w ≡ way n false sum → fall ≡ n → sum ≡ pos 0 → coded w fall entry ≡ at_width n entry ∷ []
coded-nought zero fall w sum entry some is same none = absurd (omega arith)
coded-nought (suc n) fall w sum entry some is same none = ap (λ v. coded v fall entry) (is ∙ ap (way (suc n) false) none) ∙ ap (λ m. at_width m entry ∷ []) same

fits-coded : (n fall : ℕ) (w : Way) (sum entry : ℤ) → 1 ≤ n → w ≡ way n false sum → sum ≡ pos 0 → Fits w fall entry
fits-coded zero fall w sum entry some is none = absurd (omega arith)
fits-coded (suc n) fall w sum entry some is none = subst (λ v. Fits v fall entry) (sym (is ∙ ap (way (suc n) false) none)) tt

-- zeros of a list, one after another
noughts-told : (count z n : ℕ) (pass : Pass) (entries : List ℤ) (noughts : List ℕ) → z + count ≤ length noughts
    → ((j : ℕ) → z ≤ j → j < z + count → coded (way_at pass (slice_index noughts j)) (pass.falls (slice_index noughts j)) (at entries (slice_index noughts j)) ≡ at_width n (pos 0) ∷ [])
    → pairs_at pass entries (take (z + count) noughts) ≡ pairs_at pass entries (take z noughts) ++ map (at_width n) (replicate count (pos 0))
noughts-told zero z n pass entries noughts room each = ap (λ i. pairs_at pass entries (take i noughts)) {x = z + 0} {y = z} (omega arith) ∙ sym (append-nil (pairs_at pass entries (take z noughts)))
noughts-told (suc count) z n pass entries noughts room each =
    ap (λ i. pairs_at pass entries (take i noughts)) {x = z + suc count} {y = (z + 1) + count} (omega arith)
    ∙ noughts-told count (z + 1) n pass entries noughts (omega arith) (λ j a b. each j (omega arith) (omega arith))
    ∙ ap (λ ps. ps ++ map (at_width n) (replicate count (pos 0)))
    (ap (pairs_at pass entries) (take_more noughts z 0 (omega arith)) ∙ pairs_at-last pass entries (take z noughts) (slice_index noughts z)
    ∙ ap (λ ps. pairs_at pass entries (take z noughts) ++ ps) (each z (omega arith) (omega arith)))
    ∙ append_assoc (pairs_at pass entries (take z noughts)) (at_width n (pos 0) ∷ []) (map (at_width n) (replicate count (pos 0)))

-- the zeros that are passed in a sifting
passed-told : (pass : Pass) (from to n position : ℕ) (noughts others : List ℕ) (z o passed : ℕ) (now : List ℤ) (fits : Bool) (readers : Readers) → from ≤ to → 1 ≤ n
    → AreAlike pass from to n position false → z + passed ≤ length noughts → (s : Sifted pass from to noughts others z o now fits readers)
    → pairs_at pass s.entries (take (z + passed) noughts) ≡ pairs_at pass s.entries (take z noughts) ++ map (at_width n) (replicate passed (pos 0))
passed-told pass from to n position noughts others z o passed now fits readers order some alike room s =
    noughts-told passed z n pass s.entries noughts room
    (λ j a b.
    let place = listed-place is_nought pass.sums from to noughts order s.noughts_are j (omega arith) in
    let p : ℕ = slice_index noughts j in
    coded-nought n (pass.falls p) (way_at pass p) (at pass.sums p) (at s.entries p) some (way-alike pass from to n position p alike place.low place.high) (alike.falls p place.low place.high)
    (is-nought (at pass.sums p) place.wants)
    ∙ ap (λ e. at_width n e ∷ []) (s.noughts_due j a (omega arith)))

pub zeros-passed : (pass : Pass) (from to n position : ℕ) (noughts others : List ℕ) (z o passed : ℕ) (now : List ℤ) (fits : Bool) (readers readers' : Readers) → from ≤ to → 1 ≤ n
    → AreAlike pass from to n position false → z + passed ≤ length noughts → Sifted pass from to noughts others z o now fits readers
    → ReadsMany n (replicate passed (pos 0)) readers.srl readers'.srl → readers'.bits ≡ readers.bits
    → Sifted pass from to noughts others (z + passed) o now fits readers'
zeros-passed pass from to n position noughts others z o passed now fits readers readers' order some alike room s read same = record {
  entries = s.entries;
  all = s.all;
  long = s.long;
  noughts_are = s.noughts_are;
  others_are = s.others_are;
  small = s.small;
  stands = record {
    coded_are =
        subst (λ ps. HasRead pass.srl ps readers'.srl)
        (append_assoc (pairs_from pass 0 (take from s.entries)) (pairs_at pass s.entries (take z noughts)) (map (at_width n) (replicate passed (pos 0)))
        ∙ ap (λ ps. pairs_from pass 0 (take from s.entries) ++ ps) (sym (passed-told pass from to n position noughts others z o passed now fits readers order some alike room s)))
        (read pass.srl (pairs_from pass 0 (take from s.entries) ++ pairs_at pass s.entries (take z noughts)) s.stands.coded_are);
    raw_are = rw same s.stands.raw_are;
  };
  noughts_due = λ j a b. s.noughts_due j (omega arith) b;
  others_due = s.others_due;
  fit = s.fit;
  sums = s.sums;
  due = s.due;
  range = s.range;
}

pub nought-read : (pass : Pass) (from to n position : ℕ) (noughts others : List ℕ) (z o passed p : ℕ) (now now' : List ℤ) (fits here : Bool) (readers readers' : Readers) (entry : ℤ)
    → from ≤ to → to ≤ length now → 1 ≤ n → AreAlike pass from to n position false → z + passed < length noughts → p ≡ slice_index noughts (z + passed)
    → Sifted pass from to noughts others z o now fits readers
    → ReadsMany n (replicate passed (pos 0) ++ entry ∷ []) readers.srl readers'.srl → readers'.bits ≡ readers.bits
    → now' ≡ set now p (wrapped (at now p +ℤ coefficient_of entry position)) → here ≡ is_coefficient (at now p +ℤ coefficient_of entry position)
    → Sifted pass from to noughts others (z + passed + 1) o now' (fits && here) readers'
nought-read pass from to n position noughts others z o passed p now now' fits here readers readers' entry order end some alike inside is_at s read same put is =
    let place : IsPlace is_nought pass.sums from to p = subst (IsPlace is_nought pass.sums from to) (sym is_at) (listed-place is_nought pass.sums from to noughts order s.noughts_are (z + passed) inside) in
    let h = holds pass from to noughts others z o now fits readers s in
    let none : at s.entries p ≡ pos 0 = ap (at s.entries) is_at ∙ s.noughts_due (z + passed) (omega arith) inside in
    let nought : at pass.sums p ≡ pos 0 = is-nought (at pass.sums p) place.wants in
    let its = way-alike pass from to n position p alike place.low place.high in
    let new =
    puts pass from to p position s.entries now now' entry fits here h place.low place.high (omega (arith, place.high)) none (alike.positions p place.low place.high)
    (fits-coded n (pass.falls p) (way_at pass p) (at pass.sums p) entry some its nought) put is in
    let es : List ℤ = set s.entries p entry in
    let apart : (j : ℕ) → j < length others → slice_index others j ≢ p = λ j a e. kinds-apart pass.sums from to (z + passed) j noughts others order s.noughts_are s.others_are inside a (sym is_at ∙ sym e) in
    let before : (j : ℕ) → j < z + passed → j < length noughts → slice_index noughts j ≢ p = λ j a b e. (let less : slice_index noughts j < slice_index noughts (z + passed) = listed-rise is_nought pass.sums from to noughts s.noughts_are j (z + passed) a inside in omega arith) in
    let after : (j : ℕ) → z + passed + 1 ≤ j → j < length noughts → slice_index noughts j ≢ p = λ j a b e. (let less : slice_index noughts (z + passed) < slice_index noughts j = listed-rise is_nought pass.sums from to noughts s.noughts_are (z + passed) j (omega arith) b in omega arith) in
    let front : take from es ≡ take from s.entries = take-set-le from s.entries p entry place.low in
    let last : pairs_at pass es (take (z + passed + 1) noughts) ≡ pairs_at pass s.entries (take z noughts) ++ map (at_width n) (replicate passed (pos 0) ++ entry ∷ []) =
    ap (pairs_at pass es) (take_more noughts (z + passed) 0 inside ∙ ap (λ k. take (z + passed) noughts ++ k ∷ []) (sym is_at))
    ∙ pairs_at-last pass es (take (z + passed) noughts) p
    ∙ ap (λ ps. ps ++ coded (way_at pass p) (pass.falls p) (at es p))
    (pairs_at-apart pass s.entries (take (z + passed) noughts) p entry (taken-apart noughts (z + passed) p before)
    ∙ passed-told pass from to n position noughts others z o passed now fits readers order some alike (omega arith) s)
    ∙ ap (λ ps. (pairs_at pass s.entries (take z noughts) ++ map (at_width n) (replicate passed (pos 0))) ++ ps)
    (coded-nought n (pass.falls p) (way_at pass p) (at pass.sums p) (at es p) some its (alike.falls p place.low place.high) nought
    ∙ ap (λ e. at_width n e ∷ []) (get_or-set_same s.entries p entry (pos 0) (omega (arith, s.all, place.high))))
    ∙ append_assoc (pairs_at pass s.entries (take z noughts)) (map (at_width n) (replicate passed (pos 0))) (at_width n entry ∷ [])
    ∙ ap (λ ps. pairs_at pass s.entries (take z noughts) ++ ps) (sym (map-append (at_width n) (replicate passed (pos 0)) (entry ∷ []))) in
    let pairs : (pairs_from pass 0 (take from s.entries) ++ pairs_at pass s.entries (take z noughts)) ++ map (at_width n) (replicate passed (pos 0) ++ entry ∷ []) ≡ pairs_from pass 0 (take from es) ++ pairs_at pass es (take (z + passed + 1) noughts) =
    append_assoc (pairs_from pass 0 (take from s.entries)) (pairs_at pass s.entries (take z noughts)) (map (at_width n) (replicate passed (pos 0) ++ entry ∷ []))
    ∙ ap (λ ps. pairs_from pass 0 (take from s.entries) ++ ps) (sym last)
    ∙ ap (λ l. pairs_from pass 0 l ++ pairs_at pass es (take (z + passed + 1) noughts)) (sym front) in
    let numbers : raw_from pass 0 (take from s.entries) ++ raw_at pass s.entries (take o others) ≡ raw_from pass 0 (take from es) ++ raw_at pass es (take o others) =
    ap (λ bs. raw_from pass 0 (take from s.entries) ++ bs) (sym (raw_at-apart pass s.entries (take o others) p entry (taken-apart others o p (λ j a b. apart j b))))
    ∙ ap (λ l. raw_from pass 0 l ++ raw_at pass es (take o others)) (sym front) in
    record {
      entries = es;
      all = new.all;
      long = new.long;
      noughts_are = s.noughts_are;
      others_are = s.others_are;
      small = s.small;
      stands = record {
        coded_are =
            subst (λ ps. HasRead pass.srl ps readers'.srl) pairs
            (read pass.srl (pairs_from pass 0 (take from s.entries) ++ pairs_at pass s.entries (take z noughts)) s.stands.coded_are);
        raw_are = rw same (subst (λ bs. Spelled pass.bits bs readers.bits) numbers s.stands.raw_are);
      };
      noughts_due = λ j a b. get_or-set_other s.entries p (slice_index noughts j) entry (pos 0) (after j a b) ∙ s.noughts_due j (omega arith) b;
      others_due = λ j a b. get_or-set_other s.entries p (slice_index others j) entry (pos 0) (apart j b) ∙ s.others_due j a b;
      fit = new.fit;
      sums = new.sums;
      due = new.due;
      range = new.range;
    }

-- the same where the sum of the place isn't read, since it is zero
pub nought-put : (pass : Pass) (from to n position : ℕ) (noughts others : List ℕ) (z o passed p : ℕ) (now now' : List ℤ) (fits here : Bool) (readers readers' : Readers) (entry : ℤ)
    → from ≤ to → to ≤ length now → 1 ≤ n → AreAlike pass from to n position false → z + passed < length noughts → p ≡ slice_index noughts (z + passed)
    → Sifted pass from to noughts others z o now fits readers
    → ReadsMany n (replicate passed (pos 0) ++ entry ∷ []) readers.srl readers'.srl → readers'.bits ≡ readers.bits
    → now' ≡ set now p (wrapped (coefficient_of entry position)) → here ≡ is_coefficient (coefficient_of entry position)
    → Sifted pass from to noughts others (z + passed + 1) o now' (fits && here) readers'
nought-put pass from to n position noughts others z o passed p now now' fits here readers readers' entry order end some alike inside is_at s read same put is =
    let place : IsPlace is_nought pass.sums from to p = subst (IsPlace is_nought pass.sums from to) (sym is_at) (listed-place is_nought pass.sums from to noughts order s.noughts_are (z + passed) inside) in
    let h = holds pass from to noughts others z o now fits readers s in
    let none : at s.entries p ≡ pos 0 = ap (at s.entries) is_at ∙ s.noughts_due (z + passed) (omega arith) inside in
    let was : at now p ≡ pos 0 = still pass from to p s.entries now fits h place.low place.high none ∙ is-nought (at pass.sums p) place.wants in
    let sum : coefficient_of entry position ≡ at now p +ℤ coefficient_of entry position = sym (ap (λ x. x +ℤ coefficient_of entry position) was ∙ +ℤ_idl (coefficient_of entry position)) in
    nought-read pass from to n position noughts others z o passed p now now' fits here readers readers' entry order end some alike inside is_at s read same
    (put ∙ ap (λ x. set now p (wrapped x)) sum) (is ∙ ap is_coefficient sum)

-- ---- the end

pub sifting-ends : (pass : Pass) (from to n position : ℕ) (noughts others : List ℕ) (z o : ℕ) (now : List ℤ) (fits : Bool) (readers : Readers) → from ≤ to → 1 ≤ n → AreAlike pass from to n position false
    → z ≡ length noughts → o ≡ length others → Sifted pass from to noughts others z o now fits readers → Upgraded pass to now fits readers
sifting-ends pass from to n position noughts others z o now fits readers order some alike all_noughts all_others s =
    let ways : (k : ℕ) → from ≤ k → k < from + (to - from) → way_at pass k ≡ way n false (at pass.sums k) = λ k a b. way-alike pass from to n position k alike a (omega arith) in
    let whole : take (from + (to - from)) s.entries ≡ s.entries = ap (λ i. take i s.entries) {x = from + (to - from)} {y = length s.entries} (omega (arith, s.all)) ∙ take-length s.entries in
    let pairs : pairs_from pass 0 (take from s.entries) ++ pairs_at pass s.entries (take z noughts) ≡ pairs_from pass 0 s.entries =
    ap (λ i. pairs_from pass 0 (take from s.entries) ++ pairs_at pass s.entries (take i noughts)) all_noughts
    ∙ ap (λ l. pairs_from pass 0 (take from s.entries) ++ pairs_at pass s.entries l) (take-length noughts ∙ s.noughts_are)
    ∙ sym (pairs-sifted (to - from) pass s.entries from n some (omega (arith, s.all)) ways)
    ∙ ap (pairs_from pass 0) whole in
    let numbers : raw_from pass 0 (take from s.entries) ++ raw_at pass s.entries (take o others) ≡ raw_from pass 0 s.entries =
    ap (λ i. raw_from pass 0 (take from s.entries) ++ raw_at pass s.entries (take i others)) all_others
    ∙ ap (λ l. raw_from pass 0 (take from s.entries) ++ raw_at pass s.entries l) (take-length others ∙ s.others_are)
    ∙ sym (raw-sifted (to - from) pass s.entries from n some (omega (arith, s.all)) ways)
    ∙ ap (raw_from pass 0) whole in
    record {
      entries = s.entries;
      all = s.all;
      long = s.long;
      stands =
          subst (λ ps. Stands pass.srl pass.bits ps (raw_from pass 0 s.entries) readers) pairs
          (subst (λ bs. Stands pass.srl pass.bits (pairs_from pass 0 (take from s.entries) ++ pairs_at pass s.entries (take z noughts)) bs readers) numbers s.stands);
      fit = s.fit;
      sums = s.sums;
      due = s.due;
      range = s.range;
    }
