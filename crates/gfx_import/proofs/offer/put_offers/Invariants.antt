use Rattle.std.proofs.Common.{◌≡◌, ◌++◌, ◌-◌, take}
use Rattle.std.specs.List.{flat_map}
use Rattle.gfx_layout.specs.Shape.{text}
use Rattle.gfx_import.specs.declared.limits.TheConstants.{MOST_ENTRIES}
use Rattle.gfx_caps.specs.Entries.{cache_entry}
use Rattle.gfx_import.specs.Offered.{offers_of}
use Rattle.gfx_import.proofs.offer.put_offers.Given as goal

abbrev pub invariant-entries : goal.invariant-entries
invariant-entries l = l.out ≡ l.initial.out ++ flat_map (text cache_entry) (take l.place (offers_of l.kept))

abbrev pub decreases-entries : goal.decreases-entries
decreases-entries l = MOST_ENTRIES - l.place
