-- What bytes begin with, as the code says it: by the message's length alone.
use Rattle.std.specs.Prelude.{◌≡◌, ℕ, ◌+◌, ◌≤◌, List, length, take, drop}
use Rattle.gfx_segment.specs.Framing.{Whole, Short, Bad, front}
use Rattle.gfx_segment.specs.declared.edge.Edge.{Edge}
use Rattle.gfx_segment.specs.declared.edge.Edge.TheVariants as edge
use Rattle.gfx_segment.specs.declared.profile.TheConstants.{PREFIX}

-- a whole message lies between its length and the bytes after it
pub record IsWhole (bytes : List ℕ) (size : ℕ) : Type 0 where
  pub within : PREFIX + size ≤ length bytes
  pub cut : front bytes ≡ Whole (take size (drop PREFIX bytes)) (drop (PREFIX + size) bytes)

abbrev pub IsEdge : List ℕ → Edge → Type 0
IsEdge bytes (edge.Whole size) = IsWhole bytes size
IsEdge bytes edge.Short = front bytes ≡ Short
IsEdge bytes edge.Bad = front bytes ≡ Bad
