-- How the log is kept.
use Rattle.std.specs.Prelude.{◌≡◌, ℕ, ◌≤◌, length, slice_index_or, false}
use Rattle.std.specs.List.{count_by}
use Rattle.std.specs.Vec.{vec_capacity}
use Rattle.gfx_clear_store.specs.declared.log.Log.TheInside.{Inside}
use Rattle.gfx_clear_store.specs.Undoing.{Logged, logged, is_noted}

module _ {MOST : ℕ} where
  -- the log of the fields
  abbrev pub logged_of : Inside MOST → Logged
  logged_of a = logged (length a.noted.items) a.entries.items

  -- no place has more than 255 pixels, the flags say which places were written, and there is room for all of them
  pub record IsLog (a : Inside MOST) : Type 0 where
    pub flags : (k : ℕ) → slice_index_or a.noted.items k false ≡ is_noted k a.entries.items
    pub counted : count_by (λ flag. flag) a.noted.items ≡ length a.entries.items
    pub small : MOST ≤ 255
    pub room : vec_capacity a.entries ≡ length a.noted.items
