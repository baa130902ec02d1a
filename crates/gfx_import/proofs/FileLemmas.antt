-- Kept files, both ways.
use Rattle.std.proofs.Common.{◌≡◌, ◌∙◌, ap, sym, refl, subst, cond, Bool, true, false, nat_le, ℕ, ◌*◌, ◌≤◌, List, [], ◌∷◌, ◌++◌, length, map, drop, Result, Ok, Err, zero, suc, arith}
use Rattle.std.specs.List.{AllByRecursion, flat_map}
use Rattle.std.proofs.lemmas.Bool.Decides.{nat_tests}
use Rattle.std.proofs.lemmas.List.{length-map}
use Rattle.std.proofs.lemmas.List.Folds.{flat_map-map}
use Rattle.gfx_base.specs.declared.pixel.Pixel.{Pixel}
use Rattle.gfx_layout.specs.declared.stop.Stop.TheVariants.{Short}
use Rattle.gfx_layout.specs.Shape.{Shape, width, text, number_alone, u16, u32, PartFits}
use Rattle.gfx_layout.specs.Shapes.{pixel}
use Rattle.gfx_layout.specs.Layout.{made, Fit, spelled}
use Rattle.gfx_layout.specs.Reading.{Taken, parts_in, take_items}
use Rattle.gfx_layout.specs.Writing.{Puts}
use Rattle.gfx_layout.proofs.FoundLaws.{read_whole-spelled}
use Rattle.gfx_bitmap_cache.specs.Slots.{Entry}
use Rattle.gfx_import.specs.declared.limits.TheConstants.{MARK, MOST_ENTRIES, MOST_PIXELS}
use Rattle.gfx_import.specs.Entries.{entry_keys, are_distinct, IsEntry, IsKept}
use Rattle.gfx_import.specs.File.{kept_entry, kept_file, shaped, entries_of, entry_parts, file_parts, entry_text, file_text}
use Rattle.gfx_import.proofs.WritingLemmas.{puts_behind}

-- ---- so many pixels are read as are due

length-parts_in : {T : Type 0} (shape : Shape T) (count : ℕ) (from : List ℕ) → length (parts_in shape count from) ≡ count
unfolding parts_in
length-parts_in shape zero from = refl
length-parts_in shape (suc count) from = ap (λ n. suc n) (length-parts_in shape count _)

pub length-items : {T : Type 0} (shape : Shape T) (count : ℕ) (from : List ℕ) (parts : List T) (after : List ℕ) → take_items shape count from ≡ Ok (parts, after) → length parts ≡ count
unfolding take_items
length-items {T = T} shape count from parts after = by (nat_le (count * width shape) (length from))
  where
    first : Taken (List T) → List T
    first (Ok pair) = pair.0
    first (Err stop) = []

    by : (b : Bool) → cond {A = Taken (List T)} b (Ok (parts_in shape count from, drop (count * width shape) from)) (Err Short) ≡ Ok (parts, after) → length parts ≡ count
    by true e = sym (ap length (ap first e)) ∙ length-parts_in shape count from
    by false e = absurd cc

-- ---- what is written

-- the start and the entries are the file
pub puts_file : {E : Type 0} (result : Result (Unit {0}) E) (entries : List Entry) (old first second new : List ℕ) (count : ℕ) → count ≡ length entries → first ≡ old ++ text (number_alone u32) MARK
    → second ≡ first ++ text (number_alone u16) count → Puts result second new (flat_map entry_text entries) → Puts result old new (file_text entries)
unfolding file_text
puts_file result entries old first second new count e f g put =
    subst (λ t. Puts result old new t)
    (λ i. text (number_alone u32) MARK ++ (text (number_alone u16) (e i) ++ (sym (flat_map-map (spelled kept_entry) entry_parts entries) i ++ [])))
    (puts_behind result old first second (text (number_alone u32) MARK) (text (number_alone u16) count) (flat_map entry_text entries) new f g put)

-- ---- and read back

all_pixels : (pixels : List Pixel) → AllByRecursion (PartFits pixel) pixels
all_pixels [] = tt
all_pixels (one ∷ pixels) = ((tt, (tt, (tt, (tt, tt)))), all_pixels pixels)

entry-fit : (one : Entry) → IsEntry one → Fit kept_entry (entry_parts one)
entry-fit one is =
    let few : nat_le (one.image.width * one.image.height) MOST_PIXELS ≡ true = le_true _ _ is.image.few in
    ((is.key, tt), ((is.image.width, tt), ((is.image.height, tt), (few, (is.image.area, (all_pixels one.image.pixels, tt))))))
  where
    le_true : (m n : ℕ) → m ≤ n → nat_le m n ≡ true
    le_true m n e = grind (arith, nat_tests)

each-fit : (entries : List Entry) → AllByRecursion IsEntry entries → AllByRecursion (Fit kept_entry) (map entry_parts entries)
each-fit [] all = tt
each-fit (one ∷ entries) all = (entry-fit one all.0, each-fit entries all.1)

made-parts : (entries : List Entry) → map (made kept_entry) (map entry_parts entries) ≡ entries
made-parts [] = refl
made-parts (one ∷ entries) = ap (λ z. one ∷ z) (made-parts entries)

file-fit : (entries : List Entry) → IsKept entries → Fit kept_file (file_parts entries)
file-fit entries is =
    let few : nat_le (length entries) MOST_ENTRIES ≡ true = le_true _ _ is.few in (
      (omega arith, tt),
      (
        refl,
        (
          (omega (arith, is.few), tt),
          (
            few,
            (
              length-map entries entry_parts,
              (
                each-fit entries is.each,
                (ap (λ z. are_distinct (entry_keys z)) (made-parts entries) ∙ is.distinct, tt),
              ),
            ),
          ),
        ),
      ),
    )
  where
    le_true : (m n : ℕ) → m ≤ n → nat_le m n ≡ true
    le_true m n e = grind (arith, nat_tests)

pub file-read : (entries : List Entry) → IsKept entries → entries_of (file_text entries) ≡ Ok entries
unfolding entries_of file_text
file-read entries is =
    ap shaped (read_whole-spelled kept_file (file_parts entries) (file-fit entries is)) ∙ ap (λ z. Ok z) (made-parts entries)
