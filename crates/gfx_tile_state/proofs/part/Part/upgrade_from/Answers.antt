use Rattle.std.proofs.Common.{rules, Ok, ◌∙◌, ℤ, List, refl, subst}
use Rattle.gfx_bits.specs.Bits.{bits_of}
use Rattle.gfx_tile_state.specs.Entries.{pass_of}
use Rattle.gfx_tile_state.specs.Passes.{Part, UpgradesSums}
use Rattle.gfx_tile_state.proofs.Parts.{blank-sound, sums-sound, upgrades-part}
use Rattle.gfx_tile_state.proofs.Places.{all-written}
use Rattle.gfx_tile_state.proofs.part.Part.upgrade_from.Goals as goal

pub invariant_of-self : goal.invariant_of-self
invariant_of-self c =
    let done = c.in_err-upgrade_slice.ensures in
    blank-sound _ _ c.upgrade_slice.new.sums c.self.inside.positions c.clear.ensures (all-written _ _ _ done.whole (search rules)) done.whole done.coefficients c.self.invariant.positions_small

pub invariant_of-self-2 : goal.invariant_of-self-2
invariant_of-self-2 c =
    let done = c.in_ok-upgrade_slice.ensures in
    sums-sound _ _ c.before-2.inside.kept c.upgrade_slice.new.sums c.args.positions.now c.copy_from.ensures (all-written _ _ _ done.whole (search rules)) c.before-2.invariant.kept_whole done.whole
    (λ k h. (done.sums.4 k h).1) done.coefficients c.requires.within

pub returns : goal.returns
returns c =
    let done = c.in_ok-upgrade_slice.ensures in
    let old : Part = record { kept = c.before-2.inside.kept; sums = c.before-2.inside.sums.items; positions = c.before-2.inside.positions } in
    let pass = λ (sums : List ℤ). pass_of c.args.transform old.positions c.args.positions.now sums (bits_of c.args.srl.now) (bits_of c.args.raw.now) in
    rw (← c.before-2.view_is)
    (upgrades-part (pass old.sums) c.args.positions.now c.upgrade_slice.new.sums old _
    (subst (λ sums. UpgradesSums (Ok tt) (pass sums) old.kept c.upgrade_slice.new.sums) (c.deref_mut.ensures.value ∙ c.copy_from_slice.ensures.items ∙ c.deref.ensures.value) done.sums)
    (all-written _ _ _ done.whole (search rules)) c.copy_from.ensures refl)
