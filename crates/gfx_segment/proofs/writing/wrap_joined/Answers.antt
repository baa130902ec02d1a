use Rattle.std.proofs.Common.{◌≤◌, ◌++◌, length, arith, length-append}
use Rattle.gfx_segment.specs.declared.profile.TheConstants.{MOST_PAYLOAD}
use Rattle.gfx_segment.proofs.ReadBackLemmas.{read_back}
use Rattle.gfx_segment.proofs.writing.wrap_joined.Goals as goal

pub returns-then-is_err-clause-law : goal.returns-then-is_err-clause-law
returns-then-is_err-clause-law c more =
    let fits : length (c.args.head.now ++ c.args.tail.now) ≤ MOST_PAYLOAD = omega (arith, c.requires, length-append c.args.head.now c.args.tail.now) in
    read_back (c.args.head.now ++ c.args.tail.now) more fits

pub returns-else-is_err-clause-law : goal.returns-else-is_err-clause-law
returns-else-is_err-clause-law c more =
    let fits : length (c.args.head.now ++ c.args.tail.now) ≤ MOST_PAYLOAD = omega (arith, c.requires, length-append c.args.head.now c.args.tail.now) in
    read_back (c.args.head.now ++ c.args.tail.now) more fits
