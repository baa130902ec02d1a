use Rattle.std.proofs.Common.{◌≡◌, length, rules, subst}
use Rattle.std.proofs.lemmas.Result.{err_from_is_err_and}
use Rattle.gfx_dwt.specs.declared.layout.Transform.TheVariants.{Plain}
use Rattle.gfx_quant.specs.Planes.{LeavesRange}
use Rattle.gfx_tile_state.specs.Passes.{summed}
use Rattle.gfx_tile_state.proofs.Summing.{front-within, leaves}
use Rattle.gfx_rfx_video.proofs.Decoded.{lacking, planned, unread, values-whole, values-within}
use Rattle.gfx_rfx_video.proofs.planes.read_plane.Goals as goal

pub returns-in_err-magnitude : goal.returns-in_err-magnitude
returns-in_err-magnitude c =
    let p = err_from_is_err_and c.from_residual.result c.from_residual.ensures.1 in
    let bad = c.in_err-magnitude.ensures.refused in
    rw (p.1, p.2, bad.0) (unread c.args.mode c.args.base.now.values c.args.bytes.now bad.1)

pub sum_low-requires : goal.sum_low-requires
sum_low-requires c = values-within c.args.mode c.args.bytes.now c.decode.new.out c.in_ok-magnitude.ensures.ok

pub returns-then-not-sum_low : goal.returns-then-not-sum_low
returns-then-not-sum_low c =
    let read = c.in_ok-magnitude.ensures.ok in
    let whole = values-whole c.args.mode c.args.bytes.now c.decode.new.out read in
    lacking c.args.mode c.args.base.now.values c.args.bytes.now c.decode.new.out read
    (leaves Plain c.args.base.now.values c.decode.new.out whole (rw c.if-not-sum_low.true at c.sum_low.ensures))

pub dequantise_plane-requires-clause-magnitude : goal.dequantise_plane-requires-clause-magnitude
dequantise_plane-requires-clause-magnitude c =
    let sums : c.sum_low.new.values ≡ summed Plain c.decode.new.out = rw c.if-not-sum_low.false at c.sum_low.ensures in
    front-within Plain c.decode.new.out c.sum_low.new.values _ (values-whole c.args.mode c.args.bytes.now c.decode.new.out c.in_ok-magnitude.ensures.ok) c.in_ok-magnitude.ensures.greatest sums

pub returns-then-dequantise_plane : goal.returns-then-dequantise_plane
returns-then-dequantise_plane c =
    let sums : c.sum_low.new.values ≡ summed Plain c.decode.new.out = rw c.if-not-sum_low.false at c.sum_low.ensures in
    let long : length c.dequantise_plane.new.out ≡ 4096 = search rules in
    planned c.args.mode c.args.base.now.values c.args.bytes.now c.decode.new.out c.sum_low.new.values c.dequantise_plane.new.out c.in_ok-magnitude.ensures.ok sums
    long (rw c.if-dequantise_plane.true at c.dequantise_plane.ensures.exact) (c.dequantise_plane.ensures.coefficients c.if-dequantise_plane.true)

pub returns-else-dequantise_plane : goal.returns-else-dequantise_plane
returns-else-dequantise_plane c =
    let sums : c.sum_low.new.values ≡ summed Plain c.decode.new.out = rw c.if-not-sum_low.false at c.sum_low.ensures in
    let out = rw c.if-dequantise_plane.false at c.dequantise_plane.ensures.exact in
    lacking c.args.mode c.args.base.now.values c.args.bytes.now c.decode.new.out c.in_ok-magnitude.ensures.ok (subst (LeavesRange Plain c.args.base.now.values) sums out.0)
