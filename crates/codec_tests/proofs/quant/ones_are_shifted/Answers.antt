use Rattle.std.proofs.Common.{pos, negsuc, replicate, arith}
use Rattle.codec_tests.proofs.Magnitudes.{all_alike, down_to, one_changed, up_to}
use Rattle.codec_tests.proofs.quant.ones_are_shifted.Goals as goal

pub dequantise_plane-taken-requires-clause-magnitude : goal.dequantise_plane-taken-requires-clause-magnitude
dequantise_plane-taken-requires-clause-magnitude c k h =
    one_changed 1 (replicate 4096 (pos 0)) 0 (negsuc 0) (all_alike 1 4096 (pos 0) (up_to 1 0 (omega arith))) (down_to 1 0 (omega arith)) k

pub dequantise_plane-beyond-requires-clause-magnitude : goal.dequantise_plane-beyond-requires-clause-magnitude
dequantise_plane-beyond-requires-clause-magnitude c k h =
    one_changed 1 (replicate 4096 (pos 0)) 0 (negsuc 0) (all_alike 1 4096 (pos 0) (up_to 1 0 (omega arith))) (down_to 1 0 (omega arith)) k
