-- What takers have in common whose limit doesn't depend on what they take, and that write nothing: this project's
-- own rule.
use Rattle.std.proofs.Common.{◌≡◌, ℕ, ◌≤◌, List, [], length, None, sym}
use Rattle.std.proofs.Math.Nat.{le_refl}
use Rattle.gfx_base.specs.Stream.{Change, change}

-- so many bytes, whatever they are
abbrev pub fixed : ℕ → List ℕ → ℕ
fixed limit bytes = limit

-- further bytes allow no fewer
pub stays : (limit : ℕ) → limit ≤ limit
stays limit = le_refl limit

-- nor more
pub settled : (limit : ℕ) (bytes : List ℕ) → length bytes ≡ limit → limit ≡ length bytes
settled limit bytes all = sym all

-- nothing is written, whatever they are
abbrev pub silent : List ℕ → List ℕ
silent bytes = []

-- and what is given to such a taker to write to is as it was
abbrev pub nowhere : Change
nowhere = change 0 0 None None
