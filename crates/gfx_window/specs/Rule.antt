-- The rule of superseding in its own words, and the promise that `superseded` is it: this project's own.
use Rattle.std.specs.Prelude.{◌≡◌, true, IsTrue, ◌↔◌, List, ◌∷◌, ◌++◌, length, Some}
use Rattle.std.specs.List.{list_all}
use Rattle.gfx_script.specs.Scripted.{Script}
use Rattle.gfx_script.specs.Writes.{Area}
use Rattle.gfx_window.specs.declared.window.Queued.{Queued}
use Rattle.gfx_window.specs.Superseded.{plain_area, stands_aside, covers, superseded}

-- behind an item that writes here, one item covers it, and all between the two stand aside
pub record IsCovered (script : Script) (area : Area) (items : List Queued) : Type 0 where
  pub between : List Queued
  pub later : Queued
  pub after : List Queued
  pub order : items ≡ between ++ later ∷ after
  pub aside : list_all (stands_aside script) between ≡ true
  pub covered : covers area (plain_area script later) ≡ true

-- an item of a pending list is a plain write that is covered
pub record IsLeftOut (script : Script) (item : Queued) (behind : List Queued) : Type 0 where
  pub area : Area
  pub plain : plain_area script item ≡ Some area
  pub covered : IsCovered script area behind

-- so of each item of each list
abbrev pub SupersededIsTheRule : Type 0
SupersededIsTheRule = (script : Script) (before : List Queued) (item : Queued) (behind : List Queued) → IsTrue (superseded script (before ++ item ∷ behind) (length before)) ↔ IsLeftOut script item behind
