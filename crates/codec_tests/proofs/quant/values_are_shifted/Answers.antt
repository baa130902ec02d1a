use Rattle.std.proofs.Common.{pos, negsuc, replicate, arith}
use Rattle.codec_tests.proofs.Magnitudes.{all_alike, down_to, one_changed, up_to}
use Rattle.codec_tests.proofs.quant.values_are_shifted.Goals as goal

pub dequantise_plane-requires-clause-magnitude : goal.dequantise_plane-requires-clause-magnitude
dequantise_plane-requires-clause-magnitude c k h =
    one_changed 1023 (replicate 4096 (pos 1023)) 1 (negsuc 1022) (all_alike 1023 4096 (pos 1023) (up_to 1023 1023 (omega arith))) (down_to 1023 1022 (omega arith)) k
