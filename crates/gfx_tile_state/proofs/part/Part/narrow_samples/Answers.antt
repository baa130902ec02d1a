use Rattle.std.proofs.Common.{◌≡◌, ℤ, List, ◌∙◌, ap, sym}
use Rattle.gfx_dwt.specs.Samples.{sample}
use Rattle.gfx_tile_state.specs.Passes.{added}
use Rattle.gfx_tile_state.proofs.Parts.{added-blank}
use Rattle.gfx_tile_state.proofs.part.Part.narrow_samples.Goals as goal

pub returns-then-is_blank : goal.returns-then-is_blank
returns-then-is_blank c = λ narrow y x p q.
    let sums : List ℤ = c.self.inside.sums.items in
    let same : c.as_plane.result.now ≡ added c.self.inside.kept sums =
    c.as_plane.ensures ∙ c.deref.ensures.value ∙ sym (ap (λ kept. added kept sums) (c.is_blank.ensures c.if-is_blank.true) ∙ added-blank sums c.self.invariant.sums_whole) in
    rw (← c.self.view_is)
    (c.inverse_narrow.ensures.narrow narrow y x p q ∙ ap (λ plane. sample c.args.transform plane y x) same)
