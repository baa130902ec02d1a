-- A column that was sent is read back.
use Rattle.std.proofs.Common.{◌≡◌, ◌≢◌, ℕ, zero, suc, ◌+◌, ◌-◌, ◌*◌, ◌/◌, ◌%◌, ◌^◌, ◌==◌, ◌<◌, ◌≤◌, Bool, true, false, cond, nat_le, List, [], ◌∷◌, ◌++◌, length, take, drop, replicate, Option, Some, None, Result, Ok, refl, sym, ap, ◌∙◌, arith, append_assoc, append-nil, length-append}
use Rattle.std.specs.List.{flat_map}
use Rattle.std.specs.Int.{w16, to_le_bytes}
use Rattle.std.specs.Option.{ok_or}
use Rattle.std.proofs.lemmas.Bool.Decides.{nat_tests}
use Rattle.std.proofs.lemmas.List.{length-replicate, length-set}
use Rattle.std.proofs.lemmas.List.Quantifiers.{position-Some}
use Rattle.std.proofs.Math.Seq.{take-append_seam}
use Rattle.gfx_base.specs.declared.pixel.Rgb.{Rgb}
use Rattle.gfx_base.specs.declared.refusal.Refusal.{Refusal}
use Rattle.gfx_base.specs.declared.refusal.Refusal.TheVariants.{ClearLengths, BarOrder, BarEmpty, BarHeight}
use Rattle.gfx_base.specs.Results.{check}
use Rattle.gfx_base.proofs.FieldLemmas.{number_at-written_2}
use Rattle.gfx_base.proofs.ResultLemmas.{and_then_at}
use Rattle.gfx_base.specs.Colour.{same_colour}
use Rattle.gfx_clear_store.specs.Rings.{Places, Rings, IsRing, AreRings, added, next_place, slot_at, stands, least_place, with_short}
use Rattle.gfx_clear_store.specs.declared.store.TheConstants.{BARS, SHORTS, MOST_BAR}
use Rattle.gfx_clear_store.proofs.Walks.{same_colour-Decides, stands_is}
use Rattle.gfx_clear_bands.specs.Bars.{Bar, kept_bar, bar, worded_bar, word_of, hit_bar, short_bar, missed_bar, made_bar, colours}
use Rattle.gfx_clear_bands.specs.Writing.{Sent, sent, sent_bar, sent_short, short_of, row_of, row_unless_none, without_front, without_end, before, colour_bytes}
use Rattle.gfx_clear_bands.specs.declared.word.Word.TheVariants.{Hit, ShortHit, Miss}
use Rattle.gfx_clear_bands.specs.declared.word.TheConstants.{HIT, SHORT_HIT, OFF}
use Rattle.gfx_clear_bands.proofs.Shorts.{front_pass, front_stop, front_none, front_first, end_some, end_none, end_before, length-end}

-- a write keeps a ring one
pub ring_kept : (count : ℕ) (pixels : List Rgb) (ring : Places) → IsRing count ring → IsRing count (added count pixels ring)
ring_kept count pixels ring is = record { whole = length-set ring.slots ring.cursor (Some pixels) ∙ is.whole; within = by (ring.cursor + 1 == count) refl }
  where
    by : (b : Bool) → (ring.cursor + 1 == count) ≡ b → next_place count ring.cursor < count
    by true e = let f = ap (λ b. cond b 0 (ring.cursor + 1)) e in let low = is.within in omega (arith, f)
    by false e = let f = ap (λ b. cond b 0 (ring.cursor + 1)) e in let low = is.within in let apart : ring.cursor + 1 ≢ count = grind (arith, nat_tests) in omega (arith, f)

-- what a look-up found stands there
pub least_is : (pixels : List Rgb) (ring : Places) (place : ℕ) → least_place pixels ring ≡ Some place → (place < length ring.slots) × (slot_at ring place ≡ Some pixels)
least_is pixels ring place e = let found = position-Some (stands pixels) ring.slots place None e in (found.0, stands_is pixels (slot_at ring place) found.1)

-- the background at the front, and the rest
front_parts : (background : Rgb) (xs : List Rgb) → (k : ℕ) × (xs ≡ replicate k background ++ without_front background xs)
front_parts background [] = (0, sym (front_none background))
front_parts background (x ∷ xs) = by (same_colour x background) refl (front_parts background xs)
  where
    by : (b : Bool) → same_colour x background ≡ b → (k : ℕ) × (xs ≡ replicate k background ++ without_front background xs) → (k : ℕ) × (x ∷ xs ≡ replicate k background ++ without_front background (x ∷ xs))
    by true is rest = (suc rest.0, (λ i. (same_colour-Decides x background).0 is i ∷ rest.1 i) ∙ ap (λ z. background ∷ (replicate rest.0 background ++ z)) (sym (front_pass background x xs is)))
    by false is rest = (0, sym (front_stop background x xs is))

-- the background at the end again
end_again : (background : Rgb) (cs : List Rgb) (m : ℕ) → length cs ≤ m → take (length cs) (without_end background cs ++ replicate m background) ≡ cs
end_again background [] m most = refl
end_again background (c ∷ cs) zero most = absurd (omega arith)
end_again background (c ∷ cs) (suc m) most =
    ap (λ z. take (suc (length cs)) (z ++ replicate (suc m) background)) (end_before background c cs)
    ∙ by (without_end background cs) (same_colour c background) refl refl (end_again background cs m (omega arith)) (end_again background cs (suc m) (omega arith))
  where
    by : (ds : List Rgb) (b : Bool) → without_end background cs ≡ ds → same_colour c background ≡ b
        → take (length cs) (without_end background cs ++ replicate m background) ≡ cs
        → take (length cs) (without_end background cs ++ replicate (suc m) background) ≡ cs
        → take (suc (length cs)) (before background c (without_end background cs) ++ replicate (suc m) background) ≡ c ∷ cs
    by [] true e is less more =
        ap (λ z. take (suc (length cs)) (before background c z ++ replicate (suc m) background)) e
        ∙ ap (λ b. take (suc (length cs)) (cond b [] (c ∷ []) ++ replicate (suc m) background)) is
        ∙ (λ i. sym ((same_colour-Decides c background).0 is) i ∷ (ap (λ z. take (length cs) (z ++ replicate m background)) (sym e) ∙ less) i)
    by [] false e is less more =
        ap (λ z. take (suc (length cs)) (before background c z ++ replicate (suc m) background)) e
        ∙ ap (λ b. take (suc (length cs)) (cond b [] (c ∷ []) ++ replicate (suc m) background)) is
        ∙ ap (λ z. c ∷ z) (ap (λ z. take (length cs) (z ++ replicate (suc m) background)) (sym e) ∙ more)
    by (d ∷ ds) b e is less more =
        ap (λ z. take (suc (length cs)) (before background c z ++ replicate (suc m) background)) e
        ∙ ap (λ z. c ∷ z) (ap (λ z. take (length cs) (z ++ replicate (suc m) background)) (sym e) ∙ more)

take_behind : (xs ys : List Rgb) (n : ℕ) → take (length xs + n) (xs ++ ys) ≡ xs ++ take n ys
take_behind [] ys n = ap (λ z. take z ys) (omega arith)
take_behind (x ∷ xs) ys n = let e : length (x ∷ xs) + n ≡ suc (length xs + n) = omega arith in ap (λ z. take z (x ∷ (xs ++ ys))) e ∙ ap (λ z. x ∷ z) (take_behind xs ys n)

take_all : (xs : List Rgb) (n : ℕ) → n ≡ length xs → take n xs ≡ xs
take_all xs n e = ap (λ z. take z xs) e ∙ ap (take (length xs)) (sym (append-nil xs)) ∙ take-append_seam xs []

-- a column is made of its short again
pub made_again : (background : Rgb) (xs : List Rgb) → made_bar (length xs) background (row_of background xs) (short_of background xs) ≡ xs
unfolding made_bar
made_again background xs = by (front_parts background xs) (without_front background xs) refl
  where
    by : (k : ℕ) × (xs ≡ replicate k background ++ without_front background xs) → (f : List Rgb) → without_front background xs ≡ f
        → take (length xs) (replicate (row_of background xs) background ++ (short_of background xs ++ replicate (length xs) background)) ≡ xs
    by parts [] is =
        let whole : xs ≡ replicate parts.0 background = parts.1 ∙ ap (λ z. replicate parts.0 background ++ z) is ∙ append-nil (replicate parts.0 background) in
        let long : length xs ≡ parts.0 = ap length whole ∙ length-replicate parts.0 background in
        ap (λ z. take (length xs) (replicate (row_unless_none (without_end background z) (length xs - length z)) background ++ (without_end background z ++ replicate (length xs) background))) is
        ∙ ap (λ z. take (length xs) (replicate (row_unless_none z (length xs - 0)) background ++ (z ++ replicate (length xs) background))) (end_none background)
        ∙ take_all (replicate (length xs) background) (length xs) (sym (length-replicate (length xs) background))
        ∙ ap (λ z. replicate z background) long ∙ sym whole
    by parts (c ∷ cs) is =
        let whole : xs ≡ replicate parts.0 background ++ (c ∷ cs) = parts.1 ∙ ap (λ z. replicate parts.0 background ++ z) is in
        let long : length xs ≡ parts.0 + length (c ∷ cs) = ap length whole ∙ length-append (replicate parts.0 background) (c ∷ cs) ∙ ap (λ z. z + length (c ∷ cs)) (length-replicate parts.0 background) in
        let row : length xs - length (c ∷ cs) ≡ parts.0 = omega arith in
        let reach : length xs ≡ length (replicate parts.0 background) + length (c ∷ cs) = long ∙ ap (λ z. z + length (c ∷ cs)) (sym (length-replicate parts.0 background)) in
        ap (λ z. take (length xs) (replicate (row_unless_none (without_end background z) (length xs - length z)) background ++ (without_end background z ++ replicate (length xs) background))) is
        ∙ ap (λ z. take (length xs) (replicate z background ++ (without_end background (c ∷ cs) ++ replicate (length xs) background)))
        (end_some background c cs (length xs - length (c ∷ cs)) (front_first background xs c cs is) ∙ row)
        ∙ ap (λ z. take z (replicate parts.0 background ++ (without_end background (c ∷ cs) ++ replicate (length xs) background))) reach
        ∙ take_behind (replicate parts.0 background) (without_end background (c ∷ cs) ++ replicate (length xs) background) (length (c ∷ cs))
        ∙ ap (λ z. replicate parts.0 background ++ z) (end_again background (c ∷ cs) (length xs) (omega arith))
        ∙ sym whole

-- colours are read back
pub colours_again : (cs : List Rgb) (more : List ℕ) → colours (length cs) (flat_map colour_bytes cs ++ more) ≡ cs
unfolding colours
colours_again [] more = refl
colours_again (c ∷ cs) more = ap (λ z. c ∷ z) (colours_again cs more)

pub colours_behind : (cs : List Rgb) (more : List ℕ) → drop (3 * length cs) (flat_map colour_bytes cs ++ more) ≡ more
colours_behind [] more = refl
colours_behind (c ∷ cs) more =
    let e : 3 * length (c ∷ cs) ≡ suc (suc (suc (3 * length cs))) = omega arith in
    ap (λ z. drop z (c.b ∷ (c.g ∷ (c.r ∷ (flat_map colour_bytes cs ++ more))))) e ∙ colours_behind cs more

pub length-colour_bytes : (cs : List Rgb) (more : List ℕ) → 3 * length cs ≤ length (flat_map colour_bytes cs ++ more)
length-colour_bytes [] more = omega arith
length-colour_bytes (c ∷ cs) more = let rest = length-colour_bytes cs more in omega arith

word_hit : (place : ℕ) → place < 32768 → word_of (HIT + place) ≡ Hit place
word_hit place within =
    let t : nat_le HIT (HIT + place) ≡ true = grind (arith, nat_tests) in
    let e : HIT + place - HIT ≡ place = omega arith in
    ap (λ b. cond b (Hit (HIT + place - HIT)) (cond (nat_le SHORT_HIT (HIT + place)) (ShortHit (HIT + place - SHORT_HIT)) (Miss ((HIT + place) % OFF) ((HIT + place) / OFF)))) t ∙ ap Hit e

word_short : (place : ℕ) → place < 16384 → word_of (SHORT_HIT + place) ≡ ShortHit place
word_short place within =
    let t : nat_le HIT (SHORT_HIT + place) ≡ false = grind (arith, nat_tests) in
    let s : nat_le SHORT_HIT (SHORT_HIT + place) ≡ true = grind (arith, nat_tests) in
    let e : SHORT_HIT + place - SHORT_HIT ≡ place = omega arith in
    (λ i. cond (t i) (Hit (SHORT_HIT + place - HIT)) (cond (s i) (ShortHit (SHORT_HIT + place - SHORT_HIT)) (Miss ((SHORT_HIT + place) % OFF) ((SHORT_HIT + place) / OFF)))) ∙ ap ShortHit e

word_miss : (on off : ℕ) → on < 256 → off < 64 → word_of (on + OFF * off) ≡ Miss on off
word_miss on off low few =
    let t : nat_le HIT (on + OFF * off) ≡ false = grind (arith, nat_tests) in
    let s : nat_le SHORT_HIT (on + OFF * off) ≡ false = grind (arith, nat_tests) in
    let e : (on + OFF * off) % OFF ≡ on = omega arith in
    let f : (on + OFF * off) / OFF ≡ off = omega arith in
    (λ i. cond (t i) (Hit (on + OFF * off - HIT)) (cond (s i) (ShortHit (on + OFF * off - SHORT_HIT)) (Miss (e i) (f i))))

passes : {E : Type 0} (e : E) (test : Bool) → test ≡ true → check e test ≡ Ok tt
passes e true is = refl
passes e false is = absurd cc

bar_word : (old : Rings) (rows : ℕ) (background : Rgb) (n : ℕ) (tail : List ℕ) → n < 2 ^ 16 → bar old rows background (to_le_bytes w16 n ++ tail) ≡ worded_bar old rows background (word_of n) tail
unfolding bar
bar_word old rows background n tail fits =
    let t : nat_le 2 (length (to_le_bytes w16 n ++ tail)) ≡ true = grind (arith, nat_tests) in
    and_then_at (check ClearLengths (nat_le 2 (length (to_le_bytes w16 n ++ tail)))) tt _ (passes ClearLengths _ t)
    ∙ ap (λ z. worded_bar old rows background (word_of z) tail) (number_at-written_2 [] tail n fits)

hit_again : (old : Rings) (rows place : ℕ) (column : List Rgb) (more : List ℕ) → slot_at old.bars place ≡ Some column → length column ≡ rows
    → hit_bar old rows place more ≡ Ok (record { pixels = column; rings = old; rest = more })
unfolding hit_bar
hit_again old rows place column more e tall =
    let t : (length column == rows) ≡ true = grind (arith, nat_tests) in
    and_then_at (ok_or (slot_at old.bars place) BarEmpty) column _ (ap (λ z. ok_or z BarEmpty) e)
    ∙ and_then_at (check BarHeight (length column == rows)) tt _ (passes BarHeight _ t)

short_again : (old : Rings) (rows : ℕ) (background : Rgb) (place on : ℕ) (short : List Rgb) (more : List ℕ) → slot_at old.shorts place ≡ Some short
    → short_bar old rows background place (on ∷ more) ≡ Ok (kept_bar old (made_bar rows background on short) more)
unfolding short_bar
short_again old rows background place on short more e =
    let t : nat_le 1 (length (on ∷ more)) ≡ true = grind (arith, nat_tests) in
    and_then_at (check ClearLengths (nat_le 1 (length (on ∷ more)))) tt _ (passes ClearLengths _ t)
    ∙ and_then_at (ok_or (slot_at old.shorts place) BarEmpty) short _ (ap (λ z. ok_or z BarEmpty) e)

missed_again : (old : Rings) (rows : ℕ) (background : Rgb) (on : ℕ) (short : List Rgb) (more : List ℕ)
    → missed_bar old rows background on (on + length short) (flat_map colour_bytes short ++ more) ≡ Ok (kept_bar (with_short short old) (made_bar rows background on short) more)
unfolding missed_bar
missed_again old rows background on short more =
    let bytes = flat_map colour_bytes short ++ more in
    let n : on + length short - on ≡ length short = omega arith in
    let t : nat_le on (on + length short) ≡ true = grind (arith, nat_tests) in
    let long = length-colour_bytes short more in
    let s : nat_le (3 * (on + length short - on)) (length bytes) ≡ true = ap (λ z. nat_le (3 * z) (length bytes)) n ∙ fits (3 * length short) (length bytes) long in
    and_then_at (check BarOrder (nat_le on (on + length short))) tt _ (passes BarOrder _ t)
    ∙ and_then_at (check ClearLengths (nat_le (3 * (on + length short - on)) (length bytes))) tt _ (passes ClearLengths _ s)
    ∙ ap (λ z. Ok (kept_bar (with_short (colours z bytes) old) (made_bar rows background on (colours z bytes)) (drop (3 * z) bytes))) n
    ∙ (λ i. Ok (kept_bar (with_short (colours_again short more i) old) (made_bar rows background on (colours_again short more i)) (colours_behind short more i)))
  where
    fits : (m n : ℕ) → m ≤ n → nat_le m n ≡ true
    fits m n le = grind (arith, nat_tests)

row_within : (background : Rgb) (xs : List Rgb) → row_of background xs + length (short_of background xs) ≤ length xs
row_within background xs = by (front_parts background xs)
  where
    less : (ss : List Rgb) (n m : ℕ) → n + length ss ≤ m → row_unless_none ss n + length ss ≤ m
    less [] n m le = omega arith
    less (s ∷ ss) n m le = le

    by : (k : ℕ) × (xs ≡ replicate k background ++ without_front background xs) → row_of background xs + length (short_of background xs) ≤ length xs
    by parts =
        let long : length xs ≡ parts.0 + length (without_front background xs) = ap length parts.1 ∙ length-append (replicate parts.0 background) (without_front background xs) ∙ ap (λ z. z + length (without_front background xs)) (length-replicate parts.0 background) in
        let most = length-end background (without_front background xs) in
        less (short_of background xs) (length xs - length (without_front background xs)) (length xs) (omega arith)

-- a column that was sent is read back, and the rings are those that writing left
pub bar_again : (old : Rings) (background : Rgb) (column : List Rgb) (rows : ℕ) (more : List ℕ) → AreRings old → length column ≡ rows → rows ≤ MOST_BAR
    → bar old rows background ((sent old background column).bytes ++ more) ≡ Ok (record { pixels = column; rings = (sent old background column).rings; rest = more })
unfolding sent
bar_again old background column rows more are tall most = by (least_place column old.bars) refl
  where
    due : Sent → Result Bar Refusal
    due s = Ok (record { pixels = column; rings = s.rings; rest = more })

    made : made_bar rows background (row_of background column) (short_of background column) ≡ column
    made = ap (λ z. made_bar z background (row_of background column) (short_of background column)) (sym tall) ∙ made_again background column

    by : (o : Option ℕ) → least_place column old.bars ≡ o → bar old rows background ((sent_bar old background column (least_place column old.bars)).bytes ++ more) ≡ due (sent_bar old background column (least_place column old.bars))
    by (Some place) e =
        let found = least_is column old.bars place e in
        let low : place < 32768 = omega (arith, found.0, are.bars.whole) in
        ap (λ z. bar old rows background ((sent_bar old background column z).bytes ++ more)) e
        ∙ bar_word old rows background (HIT + place) more (omega arith)
        ∙ ap (λ z. worded_bar old rows background z more) (word_hit place low)
        ∙ hit_again old rows place column more found.1 tall
        ∙ ap (λ z. due (sent_bar old background column z)) (sym e)
    by None e =
        ap (λ z. bar old rows background ((sent_bar old background column z).bytes ++ more)) e
        ∙ side (least_place (short_of background column) old.shorts) refl
        ∙ ap (λ z. due (sent_bar old background column z)) (sym e)
      where
        sends : Option ℕ → Sent
        sends o = sent_short old column (row_of background column) (short_of background column) o

        side : (o : Option ℕ) → least_place (short_of background column) old.shorts ≡ o
            → bar old rows background ((sends (least_place (short_of background column) old.shorts)).bytes ++ more) ≡ due (sends (least_place (short_of background column) old.shorts))
        side (Some place) f =
            let found = least_is (short_of background column) old.shorts place f in
            let low : place < 16384 = omega (arith, found.0, are.shorts.whole) in
            ap (λ z. bar old rows background ((sends z).bytes ++ more)) f
            ∙ bar_word old rows background (SHORT_HIT + place) (row_of background column ∷ more) (omega arith)
            ∙ ap (λ z. worded_bar old rows background z (row_of background column ∷ more)) (word_short place low)
            ∙ short_again old rows background place (row_of background column) (short_of background column) more found.1
            ∙ ap (λ z. Ok (kept_bar old z more)) made
            ∙ ap (λ z. due (sends z)) (sym f)
        side None f =
            let few = row_within background column in
            let on = row_of background column in
            let short = short_of background column in
            ap (λ z. bar old rows background ((sends z).bytes ++ more)) f
            ∙ ap (bar old rows background) (append_assoc (to_le_bytes w16 (on + OFF * (on + length short))) (flat_map colour_bytes short) more)
            ∙ bar_word old rows background (on + OFF * (on + length short)) (flat_map colour_bytes short ++ more) (omega arith)
            ∙ ap (λ z. worded_bar old rows background z (flat_map colour_bytes short ++ more)) (word_miss on (on + length short) (omega arith) (omega arith))
            ∙ missed_again old rows background on short more
            ∙ ap (λ z. Ok (kept_bar (with_short short old) z more)) made
            ∙ ap (λ z. due (sends z)) (sym f)

-- and the rings are still rings
pub rings_again : (old : Rings) (background : Rgb) (column : List Rgb) → AreRings old → AreRings (sent old background column).rings
unfolding sent
rings_again old background column are = by (least_place column old.bars)
  where
    side : (p : Option ℕ) → AreRings (sent_short old column (row_of background column) (short_of background column) p).rings
    side (Some place) = record { bars = ring_kept BARS column old.bars are.bars; shorts = are.shorts }
    side None = record { bars = ring_kept BARS column old.bars are.bars; shorts = ring_kept SHORTS (short_of background column) old.shorts are.shorts }

    by : (o : Option ℕ) → AreRings (sent_bar old background column o).rings
    by (Some place) = are
    by None = side (least_place (short_of background column) old.shorts)
