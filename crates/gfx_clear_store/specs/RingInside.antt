-- How a ring is kept.
use Rattle.std.specs.Prelude.{◌≡◌, ℕ, ◌<◌, ◌≤◌, true, length, slice_index_or, None}
use Rattle.gfx_clear_store.specs.declared.ring.Ring.TheInside.{Inside}
use Rattle.gfx_clear_store.specs.Rings.{Places, places, Marked, with_mark}
use Rattle.gfx_clear_store.specs.Undoing.{undone}
use Rattle.gfx_clear_store.specs.Index.{rank, home_at, IsIndex}

module _ {COUNT MOST : ℕ} where
  -- the ring of the fields
  abbrev pub ring_of : Inside COUNT MOST → Marked Places
  ring_of a = with_mark (places a.slots.items a.cursor) (places (undone a.log.entries a.slots.items) a.at_mark)

  -- the parts have as many places as the ring, the index is true where it is kept, and from `written` on nothing
  -- stands, nor stood at the mark
  pub record IsSound (a : Inside COUNT MOST) : Type 0 where
    pub count : COUNT ≤ 32768
    pub small : MOST ≤ 255
    pub slots : length a.slots.items ≡ COUNT
    pub cursor : a.cursor < COUNT
    pub at_mark : a.at_mark < COUNT
    pub log : a.log.room ≡ COUNT
    pub latest : length a.index.latest.items ≡ COUNT
    pub earlier : length a.index.earlier.items ≡ COUNT
    pub ready : a.index.ready ≡ true → IsIndex (rank COUNT a.cursor) (home_at COUNT a.slots.items) a.index.latest.items a.index.earlier.items
    pub written : a.written ≤ COUNT
    pub blank : (place : ℕ) → a.written ≤ place → slice_index_or a.slots.items place None ≡ None
    pub was_blank : (place : ℕ) → a.written ≤ place → slice_index_or (undone a.log.entries a.slots.items) place None ≡ None
