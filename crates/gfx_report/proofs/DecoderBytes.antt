-- What is still due of the places of a ring, and of the indices of glyphs.
use Rattle.std.proofs.Common.{◌≡◌, ◌∙◌, ℕ, ◌+◌, ◌-◌, ◌<◌, ◌≤◌, suc, List, [], ◌∷◌, ◌++◌, length, drop, Some, None, refl, ap, sym, subst, arith}
use Rattle.std.specs.Prelude.{slice_index_or}
use Rattle.std.specs.List.{flat_map, range_with_len}
use Rattle.std.proofs.lemmas.List.{drop_more, get_or-drop}
use Rattle.sha2.specs.declared.Sha256.{Sha256}
use Rattle.gfx_clear_store.specs.Rings.{Slot}
use Rattle.gfx_report.specs.Hashing.{Took}
use Rattle.gfx_glyph.specs.Glyphs.{Slot as GlyphSlot}
use Rattle.gfx_glyph.specs.declared.glyph.Glyph.{Glyph}
use Rattle.gfx_report.specs.StateBytes.{two_bytes, sides_bytes, place_bytes, ring_bytes, colours_bytes, glyph_bytes}
use Rattle.gfx_report.proofs.TookLemmas.{Owes, Owes_as, Owes_front, Owes_none}

-- the places of a ring from one on
abbrev pub ring_from : List Slot → ℕ → List ℕ
ring_from slots place = ring_bytes place (drop place slots)

-- the next place was taken in
pub ring_next : (a b c : Sha256) (due : List ℕ) (slots : List Slot) (place from count : ℕ) (slot : Slot)
    → length slots ≡ count → from ≤ count → place < from → slot ≡ slice_index_or slots place None
    → Owes a b due (ring_from slots place) → Took b c (place_bytes place slot) → Owes a c due (ring_from slots (place + 1))
unfolding ring_bytes
ring_next a b c due slots place from count slot whole within below here owes took =
    let cut = Owes_as a b due _ _ (ap (ring_bytes place) (drop_more slots place None (omega arith))) owes in
    Owes_front a b c due _ _ cut (subst (λ s. Took b c (place_bytes place s)) here took)

-- slots that hold nothing give no bytes
blank_bytes : (place : ℕ) (slots : List Slot) → ((k : ℕ) → slice_index_or slots k None ≡ None) → ring_bytes place slots ≡ []
unfolding ring_bytes
blank_bytes place [] blank = refl
blank_bytes place (slot ∷ slots) blank = ap (λ s. place_bytes place s ++ ring_bytes (place + 1) slots) (blank 0) ∙ blank_bytes (place + 1) slots (λ k. blank (suc k))

-- from the place on where nothing was ever written there are none
pub ring_end : (a b : Sha256) (due : List ℕ) (slots : List Slot) (place from : ℕ)
    → ((k : ℕ) → from ≤ k → slice_index_or slots k None ≡ None) → from ≤ place → Owes a b due (ring_from slots place) → Took a b due
ring_end a b due slots place from blank past owes =
    Owes_none a b due _ (blank_bytes place (drop place slots) (λ k. get_or-drop place slots k None ∙ blank (place + k) (omega arith))) owes

module _ (f : ℕ → List ℕ) where
  -- the indices from one on, below a number
  abbrev pub bytes_from : ℕ → ℕ → List ℕ
  bytes_from count index = flat_map f (range_with_len index (count - index))

  -- from 0 on there are all
  pub bytes_from-zero : (count : ℕ) → flat_map f (range_with_len 0 count) ≡ bytes_from count 0
  bytes_from-zero count =
      let all : count ≡ count - 0 = omega arith in
      ap (λ n. flat_map f (range_with_len 0 n)) all

  -- the next index was taken in
  pub index_next : (a b c : Sha256) (due : List ℕ) (index count : ℕ) → index < count
      → Owes a b due (bytes_from count index) → Took b c (f index) → Owes a c due (bytes_from count (index + 1))
  index_next a b c due index count below owes took =
      let here : count - index ≡ suc (count - (index + 1)) = omega arith in
      let cut = Owes_as a b due _ (f index ++ bytes_from count (index + 1)) (ap (λ n. flat_map f (range_with_len index n)) here) owes in
      Owes_front a b c due _ _ cut took

  -- behind the last index there is none
  pub index_end : (a b : Sha256) (due : List ℕ) (index count : ℕ) → count ≤ index → Owes a b due (bytes_from count index) → Took a b due
  index_end a b due index count past owes =
      let none : count - index ≡ 0 = omega arith in
      Owes_none a b due _ (ap (λ n. flat_map f (range_with_len index n)) none) owes

-- a glyph was looked up, and its bytes were taken in
pub index_taken : (a b : Sha256) (index : ℕ) (slot looked : GlyphSlot) (held : Glyph) → looked ≡ slot → looked ≡ Some held
    → Took a b (two_bytes index ++ (sides_bytes held.width held.height ++ colours_bytes held.pixels)) → Took a b (glyph_bytes index slot)
index_taken a b index slot looked held here is took = subst (λ (z : GlyphSlot). Took a b (glyph_bytes index z)) (sym is ∙ here) took
