-- What the bytes of a recording begin with, as the code says it: by the fragment's length alone.
use Rattle.std.specs.Prelude.{◌≡◌, ℕ, ◌+◌, ◌≤◌, List, length, take, drop}
use Rattle.gfx_dvc.specs.declared.profile.TheConstants.{PREFIX, MOST_FRAGMENT}
use Rattle.gfx_fragments.specs.Cut.{One, Few, Wrong, next_fragment}
use Rattle.gfx_fragments.specs.declared.edge.Edge.{Edge}
use Rattle.gfx_fragments.specs.declared.edge.Edge.TheVariants.{Whole, Short, Bad}

-- a whole fragment lies between its length and the bytes behind it
pub record IsWhole (bytes : List ℕ) (size : ℕ) : Type 0 where
  pub most : size ≤ MOST_FRAGMENT
  pub within : PREFIX + size ≤ length bytes
  pub cut : next_fragment bytes ≡ One (take size (drop PREFIX bytes)) (drop (PREFIX + size) bytes)

abbrev pub IsEdge : List ℕ → Edge → Type 0
IsEdge bytes (Whole size) = IsWhole bytes size
IsEdge bytes Short = next_fragment bytes ≡ Few
IsEdge bytes Bad = next_fragment bytes ≡ Wrong
