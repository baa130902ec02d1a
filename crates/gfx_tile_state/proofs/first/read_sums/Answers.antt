use Rattle.std.proofs.Common.{◌≡◌, refl, inr, subst}
use Rattle.gfx_quant.specs.Planes.{Dequantises, LeavesRange}
use Rattle.gfx_tile_state.specs.Passes.{summed}
use Rattle.gfx_tile_state.proofs.Summing.{front-within, leaves}
use Rattle.gfx_tile_state.proofs.Values.{values-whole, values-within}
use Rattle.gfx_tile_state.proofs.first.read_sums.Goals as goal

pub sum_low-requires : goal.sum_low-requires
sum_low-requires c = values-within c.args.bytes.now c.decode.new.out c.in_ok-magnitude.ensures.ok

pub returns-then-not-sum_low-clause-reads : goal.returns-then-not-sum_low-clause-reads
returns-then-not-sum_low-clause-reads c =
    let read = c.in_ok-magnitude.ensures.ok in
    (refl, inr (c.decode.new.out, read, leaves c.args.transform c.args.positions.now c.decode.new.out (values-whole c.args.bytes.now c.decode.new.out read) (rw c.if-not-sum_low.true at c.sum_low.ensures)))

pub returns-then-dequantise_plane-clause-reads : goal.returns-then-dequantise_plane-clause-reads
returns-then-dequantise_plane-clause-reads c =
    let summed : c.sum_low.new.plane ≡ summed c.args.transform c.decode.new.out = rw c.if-not-sum_low.false at c.sum_low.ensures in (
      c.decode.new.out,
      c.in_ok-magnitude.ensures.ok,
      subst (λ plane. Dequantises c.args.transform c.args.positions.now plane c.dequantise_plane.new.out) summed (rw c.if-dequantise_plane.true at c.dequantise_plane.ensures.exact),
    )

pub returns-else-dequantise_plane-clause-reads : goal.returns-else-dequantise_plane-clause-reads
returns-else-dequantise_plane-clause-reads c =
    let summed : c.sum_low.new.plane ≡ summed c.args.transform c.decode.new.out = rw c.if-not-sum_low.false at c.sum_low.ensures in
    let out = rw c.if-dequantise_plane.false at c.dequantise_plane.ensures.exact in
    (refl, inr (c.decode.new.out, c.in_ok-magnitude.ensures.ok, subst (LeavesRange c.args.transform c.args.positions.now) summed out.0))

pub dequantise_plane-requires-clause-magnitude : goal.dequantise_plane-requires-clause-magnitude
dequantise_plane-requires-clause-magnitude c =
    let summed : c.sum_low.new.plane ≡ summed c.args.transform c.decode.new.out = rw c.if-not-sum_low.false at c.sum_low.ensures in
    front-within c.args.transform c.decode.new.out c.sum_low.new.plane _ (values-whole c.args.bytes.now c.decode.new.out c.in_ok-magnitude.ensures.ok) c.in_ok-magnitude.ensures.greatest summed
