use Rattle.std.proofs.Common.{◌-◌, ◌&&◌, sym, take, arith, subst}
use Rattle.std.proofs.lemmas.List.{length-take-le}
use Rattle.gfx_tile_state.specs.Entries.{Upgraded}
use Rattle.gfx_tile_state.specs.Sifting.{is_nought, is_other}
use Rattle.gfx_tile_state.proofs.PlaceLists.{places-inside}
use Rattle.gfx_tile_state.proofs.Passing.{and-more}
use Rattle.gfx_tile_state.proofs.Sifting.{sifting-begins, sifting-ends}
use Rattle.gfx_tile_state.proofs.upgrading.upgrade_signed.Goals as goal

pub upgrade_others-others_fit-requires-clause-inside : goal.upgrade_others-others_fit-requires-clause-inside
upgrade_others-others_fit-requires-clause-inside c =
    places-inside is_other c.args.plane.now c.args.from c.args.to (c.args.to - c.args.from - c.sift-count.result) c.sift-count.new.others c.requires.order c.requires.end (omega (arith, c.sift-count.ensures.others_long, c.requires.room)) c.sift-count.ensures.others_are

pub upgrade_noughts-noughts_fit-requires-clause-inside : goal.upgrade_noughts-noughts_fit-requires-clause-inside
upgrade_noughts-noughts_fit-requires-clause-inside c =
    places-inside is_nought c.args.plane.now c.args.from c.args.to c.sift-count.result c.sift-count.new.noughts c.requires.order c.requires.end (omega (arith, c.sift-count.ensures.noughts_long, c.sift-count.ensures.most, c.requires.room)) c.sift-count.ensures.noughts_are

pub returns-clause-upgraded : goal.returns-clause-upgraded
returns-clause-upgraded c pass fits alike u =
    let from = c.args.from in
    let to = c.args.to in
    let count = c.sift-count.result in
    let rest = to - from - count in
    let noughts = take count c.sift-count.new.noughts in
    let others = take rest c.sift-count.new.others in
    let begun = sifting-begins pass from to noughts others c.args.plane.now fits c.args.readers.now c.requires.order (omega (arith, c.told-plane)) c.requires.coefficients c.sift-count.ensures.noughts_are c.sift-count.ensures.others_are u in
    let numbers = c.upgrade_others-others_fit.ensures.sifted pass from to noughts fits c.requires.order c.requires.end alike begun in
    let values = c.upgrade_noughts-noughts_fit.ensures.sifted pass from to others rest (fits && c.upgrade_others-others_fit.result) c.requires.order c.requires.end alike numbers in
    subst (λ b. Upgraded pass to c.upgrade_noughts-noughts_fit.new.plane b c.upgrade_noughts-noughts_fit.new.readers) (and-more fits c.upgrade_others-others_fit.result c.upgrade_noughts-noughts_fit.result)
    (sifting-ends pass from to c.args.n c.args.position noughts others count rest c.upgrade_noughts-noughts_fit.new.plane ((fits && c.upgrade_others-others_fit.result) && c.upgrade_noughts-noughts_fit.result)
    c.upgrade_noughts-noughts_fit.new.readers c.requires.order c.requires.some alike (sym (length-take-le count c.sift-count.new.noughts (omega (arith, c.sift-count.ensures.noughts_long, c.sift-count.ensures.most, c.requires.room)))) (sym (length-take-le rest c.sift-count.new.others (omega (arith, c.sift-count.ensures.others_long, c.requires.room)))) values)
