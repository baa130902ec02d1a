use Rattle.std.proofs.lemmas.Result.{err_from_is_err_and}
use Rattle.std.proofs.Common.{rules, List, ℤ, ◌∙◌, ap, arith, refl, subst, sym}
use Rattle.gfx_tile_state.specs.Passes.{IsSound, blank}
use Rattle.gfx_tile_state.proofs.Parts.{first-refused, first-sound, fits-blank, takes-first}
use Rattle.gfx_tile_state.proofs.Places.{all-written}
use Rattle.gfx_tile_state.proofs.part.Part.first.Goals as goal

pub invariant_of-self : goal.invariant_of-self
invariant_of-self c =
    let done = c.in_err-read_sums.ensures in
    subst (λ sums. IsSound c.self.inside.kept sums c.self.inside.positions) (sym (all-written _ c.read_sums.new.sums c.self.inside.sums.items done.whole (search rules) ∙ done.err ∙ c.deref_mut.ensures.value)) c.self.invariant

pub invariant_of-self-2 : goal.invariant_of-self-2
invariant_of-self-2 c =
    let done = c.in_ok-read_sums.ensures in
    let same = all-written _ c.read_sums.new.sums c.self.inside.sums.items done.whole (search rules) in
    subst (λ sums. IsSound c.clear.new.self sums c.args.positions.now) (sym same) (first-sound _ _ c.read_sums.new.sums c.args.positions.now c.clear.ensures refl done.whole done.coefficients c.requires)

pub returns-in_err-read_sums : goal.returns-in_err-read_sums
returns-in_err-read_sums c =
    let done = c.in_err-read_sums.ensures in
    let p = err_from_is_err_and c.from_residual.result c.from_residual.ensures.1 in
    let same = all-written _ c.read_sums.new.sums c.self.inside.sums.items done.whole (search rules) ∙ done.err ∙ c.deref_mut.ensures.value in
    rw (p.1, p.2)
    (first-refused c.in_err-read_sums.field-0.0 c.args.transform c.args.positions.now c.args.bytes.now blank c.read_sums.new.sums c.args.self.now _ done.reads
    (ap (λ (sums : List ℤ). record { kept = c.self.inside.kept; sums = sums; positions = c.self.inside.positions }) same ∙ c.self.view_is))

pub returns : goal.returns
returns c =
    let done = c.in_ok-read_sums.ensures in
    let same = all-written _ c.read_sums.new.sums c.self.inside.sums.items done.whole (search rules) in
    takes-first c.in_ok-read_sums.field-0 c.args.transform c.args.positions.now c.args.bytes.now blank c.read_sums.new.sums c.args.self.now _ done.reads c.clear.ensures same refl done.whole
    (fits-blank blank c.read_sums.new.sums refl (λ k h. done.coefficients k (omega (arith, done.whole)))) done.coefficients
