-- The loop that looks for an item that covers a write.
use Rattle.std.proofs.Common.{◌≡◌, ℕ, ◌+◌, ◌≤◌, ◌<◌, Bool, true, false, List, length, drop, get_or, sym}
use Rattle.std.proofs.lemmas.List.{drop_more, drop_all}
use Rattle.gfx_script.specs.Scripted.{Script}
use Rattle.gfx_window.specs.declared.covering.Write.{Write}
use Rattle.gfx_window.specs.declared.window.Queued.{Queued}
use Rattle.gfx_window.specs.Superseded.{plain_area, stands_aside}
use Rattle.gfx_window.specs.Hulls.{hull_covers, is_covered_by}

module _ (script : Script) (write : Write) (items : List Queued) (i : ℕ) (d : Queued) (due : Bool) where
  -- this item covers it
  pub covers-here : i < length items → true ≡ hull_covers write (plain_area script (get_or items i d)) → is_covered_by script write (drop i items) ≡ due → true ≡ due
  unfolding is_covered_by
  covers-here lt covers so_far = let here = rw (drop_more items i d lt, sym covers) at so_far in here

  -- this item neither covers it nor stands aside
  pub stops-here : i < length items → false ≡ hull_covers write (plain_area script (get_or items i d)) → false ≡ stands_aside script (get_or items i d) → is_covered_by script write (drop i items) ≡ due → false ≡ due
  unfolding is_covered_by
  stops-here lt covers aside so_far = let here = rw (drop_more items i d lt, sym covers, sym aside) at so_far in here

  -- this item stands aside
  pub goes-on : i < length items → false ≡ hull_covers write (plain_area script (get_or items i d)) → true ≡ stands_aside script (get_or items i d) → is_covered_by script write (drop i items) ≡ due → is_covered_by script write (drop (i + 1) items) ≡ due
  unfolding is_covered_by
  goes-on lt covers aside so_far = let here = rw (drop_more items i d lt, sym covers, sym aside) at so_far in here

-- no item is left
pub none-left : (script : Script) (write : Write) (items : List Queued) (i : ℕ) (due : Bool) → length items ≤ i → is_covered_by script write (drop i items) ≡ due → false ≡ due
unfolding is_covered_by
none-left script write items i due le so_far = rw (drop_all i items le) at so_far
