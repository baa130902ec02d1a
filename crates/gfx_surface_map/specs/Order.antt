-- The surfaces by ascending id: this project's own rule on the order of a report.
use Rattle.std.specs.Prelude.{◌≡◌, ℕ, ◌≤◌, List, [], filter, nat_le, Option, MatchOption, slice_get, All, Contains}
use Rattle.std.specs.Option.{option_map}
use Rattle.gfx_surface.specs.Picture.{Picture}

-- the entries whose ids are not below this number, in their order
abbrev pub from_id : ℕ → List (ℕ × Picture) → List (ℕ × Picture)
from_id from entries = filter (λ entry. nat_le from entry.0) entries

-- the id of the first entry
abbrev pub first_id : List (ℕ × Picture) → Option ℕ
first_id entries = option_map (λ entry. entry.0) (slice_get entries 0)

-- the least of these ids that is not below a number, if there is one
abbrev pub IsLeastFrom : ℕ → List ℕ → Option ℕ → Type 0
IsLeastFrom from ids least =
    let found = filter (λ id. nat_le from id) ids in
    MatchOption least (found ≡ []) (λ id. Contains found id × All (λ other. id ≤ other) found)
