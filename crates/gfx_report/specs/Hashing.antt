-- What a hasher took in.
use Rattle.std.specs.Prelude.{ℕ, List, ◌++◌}
use Rattle.sha2.specs.Hashers.{Holds256}
use Rattle.sha2.specs.declared.Sha256.{Sha256}

-- these bytes stand behind those that it held
abbrev pub Took : Sha256 → Sha256 → List ℕ → Type 0
Took old new bytes = (message : List ℕ) → Holds256 old message → Holds256 new (message ++ bytes)
