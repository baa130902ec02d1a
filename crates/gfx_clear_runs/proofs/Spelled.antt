-- What is read as runs and segments is spelled so, and what is spelled so is read.
use Rattle.std.proofs.Common.{◌≡◌, inl, inr, ℕ, ◌+◌, ◌*◌, ◌/◌, ◌%◌, ◌^◌, ◌<◌, ◌≤◌, List, [], ◌∷◌, ◌++◌, length, take, drop, get_or, zero, suc, Option, Some, None, Result, Ok, Err, refl, sym, ap, ◌∙◌, subst, arith, append_assoc, length-append, ne_eqb, eq-eqb}
use Rattle.std.specs.Int.{w16, w32, to_le_bytes}
use Rattle.std.specs.List.{flat_map}
use Rattle.std.proofs.lemmas.List.{append-nil, drop_at, take-append-drop, take_more}
use Rattle.std.proofs.lemmas.Grind.{flat_map-append}
use Rattle.std.proofs.lemmas.Bool.{lt-ltb, le-ltb, lt-leb, le-leb, cases_lt, cases_eq}
use Rattle.std.proofs.lemmas.Nat.{shr_high, mod_low, shr_split}
use Rattle.std.proofs.Math.Pow.{pow_mono}
use Rattle.gfx_base.specs.Field.{field, number_at, IsBytes}
use Rattle.gfx_base.specs.declared.pixel.Rgb.{Rgb}
use Rattle.gfx_base.specs.declared.refusal.Refusal.{Refusal}
use Rattle.gfx_base.specs.declared.refusal.Refusal.TheVariants.{PaletteRange}
use Rattle.gfx_base.proofs.FieldLemmas.{IsBytes-take, IsBytes-drop, number_at-read_2, number_at-read_4}
use Rattle.gfx_clear_runs.specs.declared.length.Length.{Length}
use Rattle.gfx_clear_runs.specs.declared.palette.TheConstants.{PALETTE_MOST}
use Rattle.gfx_clear_runs.specs.Lengths.{lasts, length_at, middle_length, long_length}
use Rattle.gfx_clear_runs.specs.Elements.{Element, element, pixels_in, rgb, entry, entries, run_at, run_with, stop_bits, segment_at, segment_with, segment_from}
use Rattle.gfx_clear_runs.specs.Reading.{Part, ended, refused, behind, part_of, pixels_of, runs_of, rlex_of, segments_behind}
use Rattle.gfx_clear_runs.specs.Writing.{Run, entry_spelled}
use Rattle.gfx_clear_runs.specs.Forms.{pixels_in_run}
use Rattle.gfx_clear_runs.specs.Spelling.{SpellsLength, SpellsAll, SpellsRun, Spells, Segment, pixels_in_segment, AreBits, SpellsSegment, SpellsRlex, of_run, of_segment, IsReadAs, AreRuns, AreSegments}
use Rattle.gfx_clear_runs.proofs.Parts.{part_none, part_refused}
use Rattle.gfx_clear_runs.proofs.Segments.{length-entries, cut_palette, whole_palette}
use Rattle.gfx_clear_runs.proofs.Writings.{short_read, middle_read, long_read, front_read}
use Rattle.gfx_clear_runs.proofs.Segmented.{enough_bits, rlex_read}

-- a run length at the front of bytes, in the form that it has there
pub record LengthFound (bytes : List ℕ) (run : Length) : Type 0 where
  pub own : List ℕ
  pub rest : List ℕ
  pub split : bytes ≡ own ++ rest
  pub spelled : SpellsLength own run.count
  pub size : run.size ≡ length own

-- each form is read
pub length_spelled_read : (own more : List ℕ) (count : ℕ) → SpellsLength own count → length_at (own ++ more) ≡ Some (lasts count (length own))
length_spelled_read own more count (inl (few, e)) = rw e (short_read count more few)
length_spelled_read own more count (inr (inl (few, e))) = rw e (middle_read count more few)
length_spelled_read own more count (inr (inr (few, e))) = rw e (long_read count more few)

length_some : (own : List ℕ) (count : ℕ) → SpellsLength own count → 0 < length own
length_some own count (inl (few, e)) = rw e (omega arith)
length_some own count (inr (inl (few, e))) = rw e (omega arith)
length_some own count (inr (inr (few, e))) = rw e (omega arith)

number_below_2 : (bytes : List ℕ) (at : ℕ) → IsBytes bytes → number_at w16 bytes at < 2 ^ 16
number_below_2 bytes at all =
    let own = IsBytes-take 2 (drop at bytes) (IsBytes-drop at bytes all) in omega (arith, own 0, own 1)

number_below_4 : (bytes : List ℕ) (at : ℕ) → IsBytes bytes → number_at w32 bytes at < 2 ^ 32
number_below_4 bytes at all =
    let own = IsBytes-take 4 (drop at bytes) (IsBytes-drop at bytes all) in omega (arith, own 0, own 1, own 2, own 3)

-- where a field is whole
field_whole_2 : (bytes : List ℕ) (at n : ℕ) → field w16 bytes at ≡ Some n → (at + 2 ≤ length bytes) × (n ≡ number_at w16 bytes at)
unfolding field
field_whole_2 bytes at n e =
    elim (cases_lt (length bytes) (at + 2)) as (λ _. (at + 2 ≤ length bytes) × (n ≡ number_at w16 bytes at)) [
      | inl cut ↦ let none : field w16 bytes at ≡ None = rw (lt-leb (at + 2) (length bytes) cut) refl in absurd cc
      | inr whole ↦ let some : field w16 bytes at ≡ Some (number_at w16 bytes at) = rw (le-leb (at + 2) (length bytes) whole) refl in (whole, cc)
    ]

field_whole_4 : (bytes : List ℕ) (at n : ℕ) → field w32 bytes at ≡ Some n → (at + 4 ≤ length bytes) × (n ≡ number_at w32 bytes at)
unfolding field
field_whole_4 bytes at n e =
    elim (cases_lt (length bytes) (at + 4)) as (λ _. (at + 4 ≤ length bytes) × (n ≡ number_at w32 bytes at)) [
      | inl cut ↦ let none : field w32 bytes at ≡ None = rw (lt-leb (at + 4) (length bytes) cut) refl in absurd cc
      | inr whole ↦ let some : field w32 bytes at ≡ Some (number_at w32 bytes at) = rw (le-leb (at + 4) (length bytes) whole) refl in (whole, cc)
    ]

-- the long form
long_found : (rest : List ℕ) (long : Option ℕ) (run : Length) → IsBytes (255 ∷ rest) → number_at w16 (255 ∷ rest) 1 ≡ 65535 → 2 ≤ length rest
    → field w32 (255 ∷ rest) 3 ≡ long → long_length long ≡ Some run → LengthFound (255 ∷ rest) run
unfolding long_length
long_found rest None run all marked two e f = absurd cc
long_found rest (Some n) run all marked two e f =
    let w = field_whole_4 (255 ∷ rest) 3 n e in
    let is : run ≡ lasts n 7 = cc in
    let marks : 255 ∷ (255 ∷ []) ≡ take 2 rest = ap (to_le_bytes w16) (sym marked) ∙ number_at-read_2 (255 ∷ rest) 1 all (omega arith) in
    let four : to_le_bytes w32 n ≡ take 4 (drop 2 rest) = ap (to_le_bytes w32) w.1 ∙ number_at-read_4 (255 ∷ rest) 3 all w.0 in
    subst (LengthFound (255 ∷ rest)) (sym is) (record {
      own = 255 ∷ (255 ∷ (255 ∷ to_le_bytes w32 n));
      rest = drop 4 (drop 2 rest);
      split = ap (λ z. 255 ∷ z) (sym (take-append-drop 2 rest) ∙ ap (λ z. z ++ drop 2 rest) (sym marks) ∙ ap (λ z. 255 ∷ (255 ∷ z)) (sym (take-append-drop 4 (drop 2 rest)) ∙ ap (λ z. z ++ drop 4 (drop 2 rest)) (sym four)));
      spelled = inr (inr (subst (λ z. z < 2 ^ 32) (sym w.1) (number_below_4 (255 ∷ rest) 3 all), refl));
      size = refl;
    })

-- the middle form, if it isn't the long one
middle_found : (rest : List ℕ) (middle : Option ℕ) (run : Length) → IsBytes (255 ∷ rest) → field w16 (255 ∷ rest) 1 ≡ middle
    → middle_length middle (field w32 (255 ∷ rest) 3) ≡ Some run → LengthFound (255 ∷ rest) run
unfolding middle_length
middle_found rest None run all e f = absurd cc
middle_found rest (Some n) run all e f =
    let w = field_whole_2 (255 ∷ rest) 1 n e in
    let two : 2 ≤ length rest = omega (arith, w.0) in
    elim (cases_eq n 65535) as (λ _. LengthFound (255 ∷ rest) run) [
      | inl same ↦
          let long : long_length (field w32 (255 ∷ rest) 3) ≡ Some run = rw (eq-eqb n 65535 same) at f in
          long_found rest (field w32 (255 ∷ rest) 3) run all (sym w.1 ∙ same) two refl long
      | inr other ↦
          let short : Some (lasts n 3) ≡ Some run = rw (ne_eqb n 65535 other) at f in
          let is : run ≡ lasts n 3 = cc in
          let pair : to_le_bytes w16 n ≡ take 2 rest = ap (to_le_bytes w16) w.1 ∙ number_at-read_2 (255 ∷ rest) 1 all w.0 in
          let below : n < 2 ^ 16 = subst (λ z. z < 2 ^ 16) (sym w.1) (number_below_2 (255 ∷ rest) 1 all) in
          subst (LengthFound (255 ∷ rest)) (sym is) (record {
            own = 255 ∷ to_le_bytes w16 n;
            rest = drop 2 rest;
            split = ap (λ z. 255 ∷ z) (sym (take-append-drop 2 rest) ∙ ap (λ z. z ++ drop 2 rest) (sym pair));
            spelled = inr (inl (omega (arith, other, below), refl));
            size = refl;
          })
    ]

-- what is read as a run length is spelled so
pub length_found : (bytes : List ℕ) (run : Length) → IsBytes bytes → length_at bytes ≡ Some run → LengthFound bytes run
unfolding length_at
length_found [] run all e = absurd cc
length_found (short ∷ rest) run all e =
    elim (cases_eq short 255) as (λ _. LengthFound (short ∷ rest) run) [
      | inl same ↦
          let more : middle_length (field w16 (short ∷ rest) 1) (field w32 (short ∷ rest) 3) ≡ Some run = rw (eq-eqb short 255 same) at e in
          subst (λ z. LengthFound (z ∷ rest) run) (sym same)
          (middle_found rest (field w16 (255 ∷ rest) 1) run (subst (λ z. IsBytes (z ∷ rest)) same all) refl
          (subst (λ z. middle_length (field w16 (z ∷ rest) 1) (field w32 (z ∷ rest) 3) ≡ Some run) same more))
      | inr other ↦
          let one : Some (lasts short 1) ≡ Some run = rw (ne_eqb short 255 other) at e in
          let is : run ≡ lasts short 1 = cc in
          let below : short < 256 = all 0 in
          subst (LengthFound (short ∷ rest)) (sym is) (record {
            own = short ∷ [];
            rest = rest;
            split = refl;
            spelled = inl (omega (arith, other, below), refl);
            size = refl;
          })
    ]

-- an item at the front of bytes
pub record Found {Item : Type 0} (SpellsOne : List ℕ → Item → Type 0) (shown : Item → ℕ → Element) (bytes : List ℕ) (found : Element) : Type 0 where
  pub item : Item
  pub own : List ℕ
  pub rest : List ℕ
  pub split : bytes ≡ own ++ rest
  pub spelled : SpellsOne own item
  pub is : found ≡ shown item (length own)
  pub some : 0 < length own

-- how a reader of elements goes with what spells items
pub record Reads {Item : Type 0} (SpellsOne : List ℕ → Item → Type 0) (shown : Item → ℕ → Element) (gives : Item → List Rgb) (at : List ℕ → Result Element Refusal) : Type 0 where
  pub size : (item : Item) (n : ℕ) → (shown item n).size ≡ n
  pub pixels : (item : Item) (n : ℕ) → pixels_in (shown item n) ≡ gives item
  pub some : (own : List ℕ) (item : Item) → SpellsOne own item → 0 < length own
  pub back : (own more : List ℕ) (item : Item) → SpellsOne own item → at (own ++ more) ≡ Ok (shown item (length own))
  pub found : (bytes : List ℕ) (element : Element) → IsBytes bytes → at bytes ≡ Ok element → Found SpellsOne shown bytes element

pixels_first : (part : Element) (parts : List Element) → pixels_of (part ∷ parts) ≡ pixels_in part ++ pixels_of parts
unfolding pixels_of
pixels_first part parts = refl

-- one more item in front
read_more : {Item : Type 0} (shown : Item → ℕ → Element) (gives : Item → List Rgb) (part rest : Part) (n : ℕ) (item : Item) (items : List Item)
    → (shown item n).size ≡ n → pixels_in (shown item n) ≡ gives item → part ≡ behind (shown item n) rest → IsReadAs shown gives rest items
    → IsReadAs shown gives part (item ∷ items)
read_more shown gives part rest n item items sized shows e read = subst (λ z. IsReadAs shown gives z (item ∷ items)) (sym e) (record {
  whole = read.whole;
  found = (ap (shown item) (sym sized), read.found);
  pixels = pixels_first (shown item n) rest.elements ∙ (λ i. shows i ++ read.pixels i);
})

read_none : {Item : Type 0} (shown : Item → ℕ → Element) (gives : Item → List Rgb) (part : Part) → part ≡ ended → IsReadAs shown gives part []
unfolding pixels_of
read_none shown gives part e = subst (λ z. IsReadAs shown gives z []) (sym e) (record { whole = refl; found = tt; pixels = refl })

-- what is spelled is read
pub spelled_read : {Item : Type 0} (SpellsOne : List ℕ → Item → Type 0) (shown : Item → ℕ → Element) (gives : Item → List Rgb) (at : List ℕ → Result Element Refusal)
    → Reads SpellsOne shown gives at → (bytes : List ℕ) (items : List Item) → SpellsAll SpellsOne bytes items → IsReadAs shown gives (part_of at bytes) items
spelled_read SpellsOne shown gives at reads bytes [] e = read_none shown gives (part_of at bytes) (part_none at bytes (ap length e))
spelled_read SpellsOne shown gives at reads bytes (item ∷ items) (own, rest, e, one, all) =
    read_more shown gives (part_of at bytes) (part_of at rest) (length own) item items (reads.size item (length own)) (reads.pixels item (length own))
    (ap (part_of at) e ∙ front_read at own rest (shown item (length own)) (reads.back own rest item one) (reads.size item (length own)) (reads.some own item one))
    (spelled_read SpellsOne shown gives at reads rest items all)

-- and what is read is spelled
abbrev pub IsSpelledAs : {Item : Type 0} → (List ℕ → Item → Type 0) → (Item → ℕ → Element) → (Item → List Rgb) → Part → List ℕ → Type 0
IsSpelledAs {Item = Item} SpellsOne shown gives part bytes = (items : List Item) × SpellsAll SpellsOne bytes items × IsReadAs shown gives part items

no_refusal : (at : List ℕ → Result Element Refusal) (bytes : List ℕ) (reason : Refusal) → at bytes ≡ Err reason → 0 < length bytes → (part_of at bytes).refusal ≡ None → ⊥
no_refusal at bytes reason e some whole =
    let some_reason : (part_of at bytes).refusal ≡ Some reason = ap (λ z. z.refusal) (part_refused at bytes reason e some) in absurd cc

-- one more item in front of what is spelled
abbrev pub Follows : {Item : Type 0} → (List ℕ → Item → Type 0) → (Item → ℕ → Element) → (Item → List Rgb) → (List ℕ → Result Element Refusal) → ℕ → Type 0
Follows SpellsOne shown gives at most =
    (bytes : List ℕ) → length bytes ≤ most → IsBytes bytes → (part_of at bytes).refusal ≡ None → IsSpelledAs SpellsOne shown gives (part_of at bytes) bytes

read_one : {Item : Type 0} (SpellsOne : List ℕ → Item → Type 0) (shown : Item → ℕ → Element) (gives : Item → List Rgb) (at : List ℕ → Result Element Refusal)
    → Reads SpellsOne shown gives at → (most : ℕ) (bytes : List ℕ) (answer : Result Element Refusal) → Follows SpellsOne shown gives at most → at bytes ≡ answer
    → 0 < length bytes → length bytes ≤ suc most → IsBytes bytes → (part_of at bytes).refusal ≡ None → IsSpelledAs SpellsOne shown gives (part_of at bytes) bytes
read_one SpellsOne shown gives at reads most bytes (Err reason) follows e some few all whole = absurd (no_refusal at bytes reason e some whole)
read_one SpellsOne shown gives at reads most bytes (Ok one) follows e some few all whole =
    let f = reads.found bytes one all e in
    let front : at (f.own ++ f.rest) ≡ Ok (shown f.item (length f.own)) = ap at (sym f.split) ∙ e ∙ ap (λ z. Ok z) f.is in
    let part : part_of at bytes ≡ behind (shown f.item (length f.own)) (part_of at f.rest)
    = ap (part_of at) f.split ∙ front_read at f.own f.rest (shown f.item (length f.own)) front (reads.size f.item (length f.own)) f.some in
    let after : drop (length f.own) bytes ≡ f.rest = ap (drop (length f.own)) f.split ∙ drop_at f.own f.rest (length f.own) refl in
    let rest = follows f.rest (omega (arith, ap length f.split, length-append f.own f.rest, f.some)) (subst IsBytes after (IsBytes-drop (length f.own) bytes all))
    (sym (ap (λ z. z.refusal) part) ∙ whole) in (
      f.item ∷ rest.0,
      (f.own, f.rest, f.split, f.spelled, rest.1),
      read_more shown gives (part_of at bytes) (part_of at f.rest) (length f.own) f.item rest.0 (reads.size f.item (length f.own)) (reads.pixels f.item (length f.own)) part rest.2,
    )

read_within : {Item : Type 0} (SpellsOne : List ℕ → Item → Type 0) (shown : Item → ℕ → Element) (gives : Item → List Rgb) (at : List ℕ → Result Element Refusal)
    → Reads SpellsOne shown gives at → (most : ℕ) → Follows SpellsOne shown gives at most
read_within SpellsOne shown gives at reads most [] few all whole = ([], refl, read_none shown gives (part_of at []) (part_none at [] refl))
read_within SpellsOne shown gives at reads zero (byte ∷ bytes) few all whole = absurd (omega arith)
read_within SpellsOne shown gives at reads (suc most) (byte ∷ bytes) few all whole =
    read_one SpellsOne shown gives at reads most (byte ∷ bytes) (at (byte ∷ bytes)) (read_within SpellsOne shown gives at reads most) refl (omega arith) few all whole

pub read_spelled : {Item : Type 0} (SpellsOne : List ℕ → Item → Type 0) (shown : Item → ℕ → Element) (gives : Item → List Rgb) (at : List ℕ → Result Element Refusal)
    → Reads SpellsOne shown gives at → (bytes : List ℕ) → IsBytes bytes → (part_of at bytes).refusal ≡ None → IsSpelledAs SpellsOne shown gives (part_of at bytes) bytes
read_spelled SpellsOne shown gives at reads bytes all whole = read_within SpellsOne shown gives at reads (length bytes) bytes (omega arith) all whole

-- runs
run_back : (own more : List ℕ) (part : Run) → SpellsRun own part → run_at (own ++ more) ≡ Ok (of_run part (length own))
unfolding run_at run_with
run_back own more part (behind, e, long) =
    let size : 3 + length behind ≡ length own = omega (arith, ap length e) in
    rw (e, length_spelled_read behind more part.count long) (ap (λ n. Ok (of_run part n)) (size ∙ ap length e))

run_by : (b g r : ℕ) (rest : List ℕ) (found : Element) (long : Option Length) → IsBytes (b ∷ (g ∷ (r ∷ rest))) → length_at rest ≡ long
    → run_with (rgb b g r) long ≡ Ok found → Found SpellsRun of_run (b ∷ (g ∷ (r ∷ rest))) found
unfolding run_with
run_by b g r rest found None all e f = absurd cc
run_by b g r rest found (Some run) all e f =
    let l = length_found rest run (IsBytes-drop 3 (b ∷ (g ∷ (r ∷ rest))) all) e in
    let is : found ≡ element (rgb b g r) run.count [] (3 + run.size) = cc in
    record {
      item = record { colour = rgb b g r; count = run.count };
      own = b ∷ (g ∷ (r ∷ l.own));
      rest = l.rest;
      split = ap (λ z. b ∷ (g ∷ (r ∷ z))) l.split;
      spelled = (l.own, refl, l.spelled);
      is = is ∙ ap (element (rgb b g r) run.count []) (omega (arith, l.size));
      some = omega arith;
    }

run_found : (bytes : List ℕ) (found : Element) → IsBytes bytes → run_at bytes ≡ Ok found → Found SpellsRun of_run bytes found
unfolding run_at
run_found [] found all e = absurd cc
run_found (b ∷ []) found all e = absurd cc
run_found (b ∷ (g ∷ [])) found all e = absurd cc
run_found (b ∷ (g ∷ (r ∷ rest))) found all e = run_by b g r rest found (length_at rest) all refl e

run_some : (own : List ℕ) (part : Run) → SpellsRun own part → 0 < length own
run_some own part (behind, e, long) = omega (arith, ap length e)

reads_runs : Reads SpellsRun of_run pixels_in_run run_at
reads_runs = record {
  size = λ part n. refl;
  pixels = λ part n. append-nil (pixels_in_run part);
  some = run_some;
  back = run_back;
  found = run_found;
}

pub spelled_runs : (bytes : List ℕ) (runs : List Run) → Spells bytes runs → AreRuns bytes runs
spelled_runs bytes runs all = spelled_read SpellsRun of_run pixels_in_run run_at reads_runs bytes runs all

pub read_runs : (bytes : List ℕ) → IsBytes bytes → (runs_of bytes).refusal ≡ None → (runs : List Run) × Spells bytes runs × AreRuns bytes runs
read_runs bytes all whole = read_spelled SpellsRun of_run pixels_in_run run_at reads_runs bytes all whole

-- the bits of a segment's byte are the least that suffice
bits_by : (P : ℕ → Type 0) (n : ℕ) → P 1 → (2 < n → P 2) → (4 < n → P 3) → (8 < n → P 4) → (16 < n → P 5) → (32 < n → P 6) → (64 < n → P 7) → P (stop_bits n)
unfolding stop_bits
bits_by P n one two three four five six seven =
    elim (cases_lt 2 n) as (λ _. P (stop_bits n)) [
      | inr q ↦ rw (le-leb n 2 q) one
      | inl p0 ↦
          elim (cases_lt 4 n) as (λ _. P (stop_bits n)) [
            | inr q ↦ rw (lt-leb n 2 p0, le-leb n 4 q) (two p0)
            | inl p1 ↦
                elim (cases_lt 8 n) as (λ _. P (stop_bits n)) [
                  | inr q ↦ rw (lt-leb n 2 p0, lt-leb n 4 p1, le-leb n 8 q) (three p1)
                  | inl p2 ↦
                      elim (cases_lt 16 n) as (λ _. P (stop_bits n)) [
                        | inr q ↦ rw (lt-leb n 2 p0, lt-leb n 4 p1, lt-leb n 8 p2, le-leb n 16 q) (four p2)
                        | inl p3 ↦
                            elim (cases_lt 32 n) as (λ _. P (stop_bits n)) [
                              | inr q ↦ rw (lt-leb n 2 p0, lt-leb n 4 p1, lt-leb n 8 p2, lt-leb n 16 p3, le-leb n 32 q) (five p3)
                              | inl p4 ↦
                                  elim (cases_lt 64 n) as (λ _. P (stop_bits n)) [
                                    | inr q ↦ rw (lt-leb n 2 p0, lt-leb n 4 p1, lt-leb n 8 p2, lt-leb n 16 p3, lt-leb n 32 p4, le-leb n 64 q) (six p4)
                                    | inl p5 ↦ rw (lt-leb n 2 p0, lt-leb n 4 p1, lt-leb n 8 p2, lt-leb n 16 p3, lt-leb n 32 p4, lt-leb n 64 p5) (seven p5)
                                  ]
                            ]
                      ]
                ]
          ]
    ]

abbrev IsLeast : ℕ → ℕ → Type 0
IsLeast n bits = (fewer : ℕ) → 1 ≤ fewer → fewer < bits → 2 ^ fewer < n

least_of : (n last : ℕ) → 2 ^ last < n → IsLeast n (suc last)
least_of n last more fewer some less = let up : 2 ^ fewer ≤ 2 ^ last = pow_mono (omega arith) in omega (arith, up, more)

are_bits : (n : ℕ) → n ≤ 128 → AreBits (stop_bits n) n
are_bits n few = record {
  some = bits_by (λ k. 1 ≤ k) n (omega arith) (λ p. omega arith) (λ p. omega arith) (λ p. omega arith) (λ p. omega arith) (λ p. omega arith) (λ p. omega arith);
  enough = enough_bits n few;
  least = bits_by (IsLeast n) n (λ fewer some less. absurd (omega arith)) (least_of n 1) (least_of n 2) (least_of n 3) (least_of n 4) (least_of n 5) (least_of n 6);
}

same_bits : (bits n : ℕ) → n ≤ 128 → AreBits bits n → bits ≡ stop_bits n
same_bits bits n few are =
    let own = are_bits n few in
    elim (cases_lt bits (stop_bits n)) as (λ _. bits ≡ stop_bits n) [
      | inl less ↦ let short = own.least bits are.some less in absurd (omega (arith, short, are.enough))
      | inr past ↦ elim (cases_lt (stop_bits n) bits) as (λ _. bits ≡ stop_bits n) [
        | inl more ↦ let short = are.least (stop_bits n) own.some more in absurd (omega (arith, short, own.enough))
        | inr within ↦ omega (arith, past, within)
      ]
    ]

-- segments
segment_some : (palette : List Rgb) (own : List ℕ) (segment : Segment) → SpellsSegment palette own segment → 0 < length own
segment_some palette own segment one = omega (arith, ap length one.spelled)

segment_back : (palette : List Rgb) → length palette ≤ 127 → (own more : List ℕ) (segment : Segment) → SpellsSegment palette own segment
    → segment_at palette (own ++ more) ≡ Ok (of_segment palette segment (length own))
unfolding segment_at segment_with segment_from
segment_back palette few own more segment one =
    let bits = same_bits one.bits (length palette) (omega arith) one.low in
    let below : segment.stop < 2 ^ stop_bits (length palette) = omega (arith, one.stops, enough_bits (length palette) (omega arith)) in
    let spelled : own ≡ (segment.depth * 2 ^ stop_bits (length palette) + segment.stop) ∷ one.behind = one.spelled ∙ ap (λ n. (segment.depth * 2 ^ n + segment.stop) ∷ one.behind) bits in
    let size : 1 + length one.behind ≡ length ((segment.depth * 2 ^ stop_bits (length palette) + segment.stop) ∷ one.behind) = omega arith in
    rw (
      spelled,
      length_spelled_read one.behind more segment.count one.run,
      mod_low segment.depth (stop_bits (length palette)) segment.stop below,
      shr_high segment.depth (stop_bits (length palette)) segment.stop below,
      lt-leb (length palette) segment.stop one.stops,
      le-ltb segment.stop segment.depth one.starts,
    ) (ap (λ n. Ok (of_segment palette segment n)) size)

from_found : (palette : List Rgb) (found : Element) (stop depth : ℕ) (run : Length) → segment_from palette stop depth run ≡ Ok found
    → (stop < length palette) × (depth ≤ stop) × (found ≡ of_segment palette (record { stop = stop; depth = depth; count = run.count }) (1 + run.size))
unfolding segment_from
from_found palette found stop depth run f =
    elim (cases_lt stop (length palette)) as (λ _. (stop < length palette) × (depth ≤ stop) × (found ≡ of_segment palette (record { stop = stop; depth = depth; count = run.count }) (1 + run.size))) [
      | inr past ↦ let g = rw (le-leb (length palette) stop past) at f in absurd cc
      | inl within ↦ elim (cases_lt stop depth) as (λ _. (stop < length palette) × (depth ≤ stop) × (found ≡ of_segment palette (record { stop = stop; depth = depth; count = run.count }) (1 + run.size))) [
        | inl deep ↦ let g = rw (lt-leb (length palette) stop within, lt-ltb stop depth deep) at f in absurd cc
        | inr low ↦ let g = rw (lt-leb (length palette) stop within, le-ltb stop depth low) at f in (within, low, cc)
      ]
    ]

segment_by : (palette : List Rgb) (byte : ℕ) (rest : List ℕ) (found : Element) (long : Option Length) → length palette ≤ 127 → IsBytes (byte ∷ rest) → length_at rest ≡ long
    → segment_with palette byte long ≡ Ok found → Found (SpellsSegment palette) (of_segment palette) (byte ∷ rest) found
unfolding segment_with
segment_by palette byte rest found None few all e f = absurd cc
segment_by palette byte rest found (Some run) few all e f =
    let l = length_found rest run (IsBytes-drop 1 (byte ∷ rest) all) e in
    let w = from_found palette found (byte % 2 ^ stop_bits (length palette)) (byte / 2 ^ stop_bits (length palette)) run f in
    record {
      item = record { stop = byte % 2 ^ stop_bits (length palette); depth = byte / 2 ^ stop_bits (length palette); count = run.count };
      own = byte ∷ l.own;
      rest = l.rest;
      split = ap (λ z. byte ∷ z) l.split;
      spelled = record {
        bits = stop_bits (length palette);
        low = are_bits (length palette) (omega arith);
        stops = w.0;
        starts = w.1;
        behind = l.own;
        spelled = ap (λ z. z ∷ l.own) (sym (shr_split byte (stop_bits (length palette))));
        run = l.spelled;
      };
      is = w.2 ∙ ap (of_segment palette (record { stop = byte % 2 ^ stop_bits (length palette); depth = byte / 2 ^ stop_bits (length palette); count = run.count })) (omega (arith, l.size));
      some = omega arith;
    }

segment_found : (palette : List Rgb) → length palette ≤ 127 → (bytes : List ℕ) (found : Element) → IsBytes bytes → segment_at palette bytes ≡ Ok found
    → Found (SpellsSegment palette) (of_segment palette) bytes found
unfolding segment_at
segment_found palette few [] found all e = absurd cc
segment_found palette few (byte ∷ rest) found all e = segment_by palette byte rest found (length_at rest) few all refl e

reads_segments : (palette : List Rgb) → length palette ≤ 127 → Reads (SpellsSegment palette) (of_segment palette) (pixels_in_segment palette) (segment_at palette)
reads_segments palette few = record {
  size = λ segment n. refl;
  pixels = λ segment n. refl;
  some = segment_some palette;
  back = segment_back palette few;
  found = segment_found palette few;
}

-- a palette is spelled by its entries
entries_spelled : (n : ℕ) (bytes : List ℕ) → 3 * n ≤ length bytes → flat_map entry_spelled (entries n bytes) ≡ take (3 * n) bytes
unfolding entries
entries_spelled zero bytes within = refl
entries_spelled (suc n) bytes within =
    let third : 3 * suc n ≡ 3 * n + 2 + 1 = omega arith in
    let second : 3 * n + 2 ≡ 3 * n + 1 + 1 = omega arith in
    flat_map-append entry_spelled (entries n bytes) (entry bytes n ∷ [])
    ∙ ap (λ z. z ++ entry_spelled (entry bytes n)) (entries_spelled n bytes (omega arith))
    ∙ sym (ap (λ k. take k bytes) third
    ∙ take_more bytes (3 * n + 2) 0 (omega arith)
    ∙ ap (λ k. take k bytes ++ get_or bytes (3 * n + 2) 0 ∷ []) second
    ∙ ap (λ z. z ++ get_or bytes (3 * n + 2) 0 ∷ []) (take_more bytes (3 * n + 1) 0 (omega arith) ∙ ap (λ z. z ++ get_or bytes (3 * n + 1) 0 ∷ []) (take_more bytes (3 * n) 0 (omega arith)))
    ∙ append_assoc (take (3 * n) bytes ++ get_or bytes (3 * n) 0 ∷ []) (get_or bytes (3 * n + 1) 0 ∷ []) (get_or bytes (3 * n + 2) 0 ∷ [])
    ∙ append_assoc (take (3 * n) bytes) (get_or bytes (3 * n) 0 ∷ []) (get_or bytes (3 * n + 1) 0 ∷ (get_or bytes (3 * n + 2) 0 ∷ [])))

-- the RLEX subcodec
pub spelled_segments : (bytes : List ℕ) (palette : List Rgb) (segments : List Segment) → SpellsRlex bytes palette segments → AreSegments bytes palette segments
spelled_segments bytes palette segments one =
    subst (λ (z : Part). IsReadAs (of_segment palette) (pixels_in_segment palette) z segments)
    (sym (ap rlex_of one.spelled ∙ rlex_read palette one.behind (omega (arith, one.some)) one.few))
    (spelled_read (SpellsSegment palette) (of_segment palette) (pixels_in_segment palette) (segment_at palette) (reads_segments palette one.few) one.behind segments one.all)

abbrev IsRlex : List ℕ → Part → Type 0
IsRlex bytes part = (palette : List Rgb) × (segments : List Segment) × SpellsRlex bytes palette segments × IsReadAs (of_segment palette) (pixels_in_segment palette) part segments

refused_never : (part : Part) (reason : Refusal) → part ≡ refused reason → part.refusal ≡ None → ⊥
refused_never part reason e whole = let some : part.refusal ≡ Some reason = ap (λ z. z.refusal) e in absurd cc

behind_palette : (colours : ℕ) (bytes : List ℕ) → 1 ≤ colours → colours ≤ 127 → IsBytes (colours ∷ bytes) → (segments_behind colours bytes).refusal ≡ None
    → IsRlex (colours ∷ bytes) (segments_behind colours bytes)
behind_palette colours bytes some few all whole =
    elim (cases_lt (length bytes) (3 * colours)) as (λ _. IsRlex (colours ∷ bytes) (segments_behind colours bytes)) [
      | inl cut ↦ absurd (refused_never (segments_behind colours bytes) _ (cut_palette colours bytes cut) whole)
      | inr enough ↦
          let palette = entries colours bytes in
          let part : segments_behind colours bytes ≡ part_of (segment_at palette) (drop (3 * colours) bytes) = whole_palette colours bytes enough in
          let count : length palette ≡ colours = length-entries colours bytes in
          let fits : length palette ≤ 127 = omega (arith, count) in
          let found = read_spelled (SpellsSegment palette) (of_segment palette) (pixels_in_segment palette) (segment_at palette) (reads_segments palette fits)
          (drop (3 * colours) bytes) (IsBytes-drop (suc (3 * colours)) (colours ∷ bytes) all) (sym (ap (λ z. z.refusal) part) ∙ whole) in (
            palette,
            found.0,
            record {
              some = omega (arith, count);
              few = fits;
              behind = drop (3 * colours) bytes;
              spelled = ap (λ z. z ∷ bytes) (sym count)
                  ∙ ap (λ z. length palette ∷ z) (sym (take-append-drop (3 * colours) bytes) ∙ ap (λ z. z ++ drop (3 * colours) bytes) (sym (entries_spelled colours bytes enough)));
              all = found.1;
            },
            subst (λ (z : Part). IsReadAs (of_segment palette) (pixels_in_segment palette) z found.0) (sym part) found.2,
          )
    ]

pub read_segments : (bytes : List ℕ) → IsBytes bytes → (rlex_of bytes).refusal ≡ None
    → (palette : List Rgb) × (segments : List Segment) × SpellsRlex bytes palette segments × AreSegments bytes palette segments
unfolding rlex_of
read_segments [] all whole = absurd cc
read_segments (colours ∷ bytes) all whole =
    elim (cases_eq colours 0) as (λ _. IsRlex (colours ∷ bytes) (rlex_of (colours ∷ bytes))) [
      | inl none ↦ absurd (refused_never (rlex_of (colours ∷ bytes)) PaletteRange (rw (eq-eqb colours 0 none) refl) whole)
      | inr some ↦
          elim (cases_lt PALETTE_MOST colours) as (λ _. IsRlex (colours ∷ bytes) (rlex_of (colours ∷ bytes))) [
            | inl much ↦ absurd (refused_never (rlex_of (colours ∷ bytes)) PaletteRange (rw (ne_eqb colours 0 some, lt-ltb PALETTE_MOST colours much) refl) whole)
            | inr few ↦
                let part : rlex_of (colours ∷ bytes) ≡ segments_behind colours bytes = rw (ne_eqb colours 0 some, le-ltb PALETTE_MOST colours few) refl in
                subst (λ (z : Part). IsRlex (colours ∷ bytes) z) (sym part)
                (behind_palette colours bytes (omega (arith, some)) few all (sym (ap (λ z. z.refusal) part) ∙ whole))
          ]
    ]
