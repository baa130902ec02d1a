use Rattle.std.proofs.Common.{◌≡◌, ◌++◌}
use Rattle.std.specs.List.{filter_map}
use Rattle.gfx_prog_live.proofs.Seeking.{place_of}
use Rattle.gfx_prog_live.proofs.live.LiveTiles.places_to_raise.Given as goal

-- the places so far and those of the tiles that are left are all
abbrev pub invariant-tiles : goal.invariant-tiles
invariant-tiles l =
    l.places.items ++ filter_map (place_of l.listed l.id l.columns l.rows) l.key-iterator ≡ filter_map (place_of l.listed l.id l.columns l.rows) l.initial.key-iterator
