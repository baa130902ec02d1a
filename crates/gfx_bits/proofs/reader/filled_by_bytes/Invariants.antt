use Rattle.std.proofs.Common.{◌≡◌, length}
use Rattle.gfx_bits.specs.Ahead.{bits_ahead, IsAhead}
use Rattle.gfx_bits.proofs.reader.filled_by_bytes.Given as goal

abbrev pub invariant-bytes : goal.invariant-bytes
invariant-bytes l = (bits_ahead l.ahead l.count l.rest ≡ bits_ahead l.initial.ahead l.initial.count l.initial.rest) × IsAhead l.ahead l.count

abbrev pub decreases-bytes : goal.decreases-bytes
decreases-bytes l = length l.rest
