use Rattle.std.proofs.Common.{◌≡◌, length, ◌*◌, ◌^◌, lit≤, arith}
use Rattle.gfx_dwt.specs.declared.layout.Scale.TheVariants.{First, Second, Third}
use Rattle.gfx_dwt.proofs.Levels.{kept_at_end, level_at_end, sample_is, sample_within}
use Rattle.gfx_dwt.proofs.Planes.{all_more, coefficients_within, cells_within}
use Rattle.gfx_dwt.proofs.synthesis.inverse_with.Goals as goal

pub join_in_plane-requires-2-clause-within : goal.join_in_plane-requires-2-clause-within
join_in_plane-requires-2-clause-within c =
    all_more (16 * 32768) (2 ^ 26) _ (lit≤ tt) (c.join_in_plane.ensures.within 32768 (coefficients_within _ c.requires))

pub join_in_plane-requires-3-clause-within : goal.join_in_plane-requires-3-clause-within
join_in_plane-requires-3-clause-within c =
    all_more (16 * (16 * 32768)) (2 ^ 26) _ (lit≤ tt) (c.join_in_plane-2.ensures.within (16 * 32768) (c.join_in_plane.ensures.within 32768 (coefficients_within _ c.requires)))

pub returns-clause-samples : goal.returns-clause-samples
returns-clause-samples c =
    let t = c.args.transform in
    let p0 = c.args.plane.now in
    let p1 = c.join_in_plane.new.plane in
    let p2 = c.join_in_plane-2.new.plane in
    let p3 = c.join_in_plane-3.new.plane in
    let e0 : length p0 ≡ 4096 = omega arith in
    let e1 : length p1 ≡ 4096 = omega arith in
    let e2 : length p2 ≡ 4096 = omega arith in
    let one = c.join_in_plane.ensures in
    let two = c.join_in_plane-2.ensures in
    sample_is t p0 p1 p2 p3 (level_at_end t Third p0 p1 e0 one.each) (kept_at_end t Third p0 p1 e0 one.kept) (level_at_end t Second p1 p2 e1 two.each) (kept_at_end t Second p1 p2 e1 two.kept) (level_at_end t First p2 p3 e2 c.join_in_plane-3.ensures.each)

pub returns-clause-within : goal.returns-clause-within
returns-clause-within c =
    cells_within 64 64 1507328 _ (omega arith)
    (λ y x p q. rw (returns-clause-samples c y x p q) (sample_within c.args.transform 32768 c.args.plane.now (coefficients_within _ c.requires) y x p q))
