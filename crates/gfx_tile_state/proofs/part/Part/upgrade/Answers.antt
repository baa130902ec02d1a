use Rattle.std.proofs.Common.{List, ℤ, Ok, ◌∙◌, refl, subst}
use Rattle.gfx_bits.specs.Bits.{bits_of}
use Rattle.gfx_tile_state.specs.Entries.{pass_of}
use Rattle.gfx_tile_state.specs.Passes.{Part, UpgradesSums}
use Rattle.gfx_tile_state.proofs.Parts.{upgrades-part}
use Rattle.gfx_tile_state.proofs.part.Part.upgrade.Goals as goal

pub returns : goal.returns
returns c =
    let old : Part = record { kept = c.self.inside.kept; sums = c.self.inside.sums.items; positions = c.self.inside.positions } in
    let new : Part = record { kept = c.self.inside.kept; sums = c.copy_from_slice.new.self.items; positions = c.args.positions.now } in
    let pass = λ (sums : List ℤ). pass_of c.args.transform old.positions c.args.positions.now sums (bits_of c.args.srl.now) (bits_of c.args.raw.now) in
    rw (← c.self.view_is)
    (upgrades-part (pass old.sums) c.args.positions.now c.upgrade_sums.new.sums old new
    (subst (λ sums. UpgradesSums (Ok tt) (pass sums) old.kept c.upgrade_sums.new.sums) (c.as_plane.ensures ∙ c.deref.ensures.value) c.in_ok-upgrade_sums.ensures.sums)
    c.copy_from_slice.ensures.items refl refl)
