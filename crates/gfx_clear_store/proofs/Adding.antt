-- One more write to a ring, over plain variables: what it shows, and its index.
use Rattle.std.proofs.Common.{◌≡◌, ℕ, ◌<◌, Bool, true, false, List, length, set, get_or, Some, refl, sym, ap, ◌∙◌, subst}
use Rattle.gfx_base.specs.declared.pixel.Rgb.{Rgb}
use Rattle.gfx_clear_store.specs.Rings.{Slot, Places, places, Marked, with_mark, added, next_place}
use Rattle.gfx_clear_store.specs.Undoing.{Logged, kept, undone, is_noted}
use Rattle.gfx_clear_store.specs.Home.{home_of}
use Rattle.gfx_clear_store.specs.Index.{rank, home_at, IsIndex}
use Rattle.gfx_clear_store.proofs.Undone.{undone_kept}
use Rattle.gfx_clear_store.proofs.Written.{index_written}

pub room_kept : (place : ℕ) (slot : Slot) (log : Logged) → (kept place slot log).room ≡ log.room
room_kept place slot log = by (is_noted place log.entries) refl
  where
    by : (b : Bool) → is_noted place log.entries ≡ b → (kept place slot log).room ≡ log.room
    by true is = rw is refl
    by false is = rw is refl

-- the slots at the mark stay through a write
pub undone_written : (slots : List Slot) (cursor at : ℕ) (dest old d : Slot) (log log' : Logged) → at ≡ cursor → old ≡ get_or slots at d → log' ≡ kept cursor old log
    → undone log'.entries (set slots at dest) ≡ undone log.entries slots
undone_written slots cursor at dest old d log log' e g h =
    let was : old ≡ get_or slots cursor d = g ∙ ap (λ z. get_or slots z d) e in
    ap (λ z. undone z.entries (set slots at dest)) (h ∙ ap (λ z. kept cursor z log) was)
    ∙ ap (λ z. undone (kept cursor (get_or slots cursor d) log).entries (set slots z dest)) e
    ∙ undone_kept log.room log.entries slots cursor dest d

pub ring_added : (count : ℕ) (slots : List Slot) (cursor at_mark : ℕ) (log : Logged) (whole : Marked Places) (pixels : List Rgb)
    (at next : ℕ) (dest old d : Slot) (log' : Logged)
    → with_mark (places slots cursor) (places (undone log.entries slots) at_mark) ≡ whole
    → at ≡ cursor → dest ≡ Some pixels → old ≡ get_or slots at d → log' ≡ kept cursor old log → next ≡ next_place count cursor
    → with_mark (places (set slots at dest) next) (places (undone log'.entries (set slots at dest)) at_mark) ≡ with_mark (added count pixels whole.held) whole.marked
ring_added count slots cursor at_mark log whole pixels at next dest old d log' view e f g h n =
    let back = undone_written slots cursor at dest old d log log' e g h in
    (λ i. with_mark (places (set slots (e i) (f i)) (n i)) (places (back i) at_mark))
    ∙ ap (λ z. with_mark (added count pixels z.held) z.marked) view

pub index_added : (count cursor : ℕ) (slots : List Slot) (pixels : List Rgb) (at next : ℕ) (dest : Slot) (latest earlier latest' earlier' : List ℕ) (ready ready' : Bool)
    → length slots ≡ count → cursor < count → length latest ≡ count → length earlier ≡ count
    → at ≡ cursor → dest ≡ Some pixels → next ≡ next_place count cursor
    → (ready ≡ true → latest' ≡ set latest (home_of count pixels) cursor)
    → (ready ≡ true → earlier' ≡ set earlier cursor (get_or latest (home_of count pixels) 0))
    → ready' ≡ ready
    → (ready ≡ true → IsIndex (rank count cursor) (home_at count slots) latest earlier)
    → ready' ≡ true → IsIndex (rank count next) (home_at count (set slots at dest)) latest' earlier'
index_added count cursor slots pixels at next dest latest earlier latest' earlier' ready ready' long within homes links e f n l k same index on =
    let is : ready ≡ true = sym same ∙ on in
    let index' = index_written count cursor slots pixels latest earlier long within homes links (index is) in
    let latest'' = set latest (home_of count pixels) cursor in
    let earlier'' = set earlier cursor (get_or latest (home_of count pixels) 0) in
    subst (λ z. IsIndex (rank count next) (home_at count (set slots at dest)) z earlier') (sym (l is))
    (subst (λ z. IsIndex (rank count next) (home_at count (set slots at dest)) latest'' z) (sym (k is))
    (subst (λ z. IsIndex (rank count z) (home_at count (set slots at dest)) latest'' earlier'') (sym n)
    (subst (λ z. IsIndex (rank count (next_place count cursor)) (home_at count (set slots z dest)) latest'' earlier'') (sym e)
    (subst (λ z. IsIndex (rank count (next_place count cursor)) (home_at count (set slots cursor z)) latest'' earlier'') (sym f) index'))))

-- what is written is the copy of these pixels
pub copy_is : (dest : Slot) (copy pixels : List Rgb) → dest ≡ Some copy → copy ≡ pixels → dest ≡ Some pixels
copy_is dest copy pixels e f = e ∙ ap Some f
