-- Inner: what serves the proofs of loops alone. No clause of a public call cites it.
use Rattle.std.specs.Prelude.{ℕ, ◌+◌, ◌-◌, ◌*◌, ◌≤◌, ◌==◌, Bool, ◌&&◌, nat_lt, length, if◌then◌else◌}
use Rattle.gfx_base.specs.Colour.{same_colour}
use Rattle.gfx_base.specs.declared.pixel.Rgb.{Rgb}
use Rattle.gfx_chooser.specs.declared.facts.TheConstants.{MOST_COLOURS}
use Rattle.gfx_clear_runs.specs.Lengths.{length_spelled}
use Rattle.gfx_estimate.specs.declared.runs.Runs.{Runs}
use Rattle.gfx_estimate.specs.Passes.{step_between}

-- so many colours, of which no more than a palette may have and one are counted, make a palette
abbrev pub are_palette : ℕ → Bool
are_palette colours = nat_lt 0 colours && nat_lt colours MOST_COLOURS

-- how many bytes a run of so many pixels has in a residual layer, and as a segment of a palette; none where it has none
abbrev pub run_bytes : ℕ → ℕ
run_bytes count = if count == 0 then 0 else 3 + length (length_spelled count)

abbrev pub segment_bytes : ℕ → ℕ
segment_bytes count = if count == 0 then 0 else 1 + length (length_spelled (count - 1))

-- the run under way has ended, and another colour follows
abbrev pub turned : Runs → Rgb → Runs
turned old colour = record {
  residual = old.residual + run_bytes old.count;
  segments = old.segments + segment_bytes old.count;
  steps = old.steps + step_between old.colour colour;
  colour = colour;
  count = 1;
}

-- one more pixel
unfoldable pub taken : Runs → Rgb → Runs
taken old colour = if same_colour old.colour colour then record old { count = old.count + 1 } else turned old colour

-- the counts are those of so many pixels at most
pub record IsFew (pixels : ℕ) (runs : Runs) : Type 0 where
  pub count : runs.count ≤ pixels
  pub residual : runs.residual ≤ 10 * pixels
  pub segments : runs.segments ≤ 8 * pixels
  pub steps : runs.steps ≤ 765 * pixels
