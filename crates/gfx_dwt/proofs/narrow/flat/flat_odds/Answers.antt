use Rattle.std.proofs.Common.{◌+◌, ◌-◌, ◌*◌, ◌≤◌, arith, rules}
use Rattle.gfx_dwt.proofs.Flat.{columns_within}
use Rattle.gfx_dwt.proofs.Planes.{place_in}
use Rattle.gfx_dwt.proofs.narrow.flat.flat_odds.Goals as goal

pub returns-clause-within : goal.returns-clause-within
returns-clause-within c = λ k h.
    let w = c.args.size in
    let rows = c.args.rows in
    let odds = c.last_odds-last.new.odds in
    let last : c.last_odds-last.result ≤ c.max.result = search rules in
    let all : c.odds_of-most.result ≤ c.max.result = search rules in
    let written = c.odds_of-most.auto.out in
    let kept = c.last_odds-last.auto.odds in
    columns_within w rows (w - 1) c.last_odds-last.result c.odds_of-most.result c.max.result odds last all c.last_odds-last.ensures.within
    (λ r j p q other.
    let inside = place_in w rows r j p q in
    rw (c.last_odds-last.ensures.others r j (omega (arith, q, other))) (c.odds_of-most.ensures.within (r * w + j) (omega (arith, written, inside))))
    k (omega (arith, h, kept, written))
