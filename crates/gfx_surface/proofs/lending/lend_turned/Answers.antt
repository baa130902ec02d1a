use Rattle.std.proofs.Common.{◌≡◌, ◌∙◌, ◌+◌, ◌-◌, ◌≤◌, ◌++◌, sym, ap, subst, List, length, take, drop, get_or, length-take, length-drop, arith}
use Rattle.std.proofs.lemmas.List.{length-append}
use borrow.Rule.Slice.PartMut.{put_mid, same_len_mid}
use Rattle.gfx_base.specs.declared.pixel.Pixel.{Pixel}
use Rattle.gfx_surface.specs.Picture.{no_pixel}
use Rattle.gfx_surface.specs.Rows.{WritesRun}
use Rattle.gfx_surface.proofs.LendLemmas.{front_written, back_written, front_piece, lent_of}
use Rattle.gfx_surface.proofs.lending.lend_turned.Goals as goal

pub returns : goal.returns
returns g c =
    let parts = c.split_at_mut-low.ensures in
    let low = c.split_at_mut-low.result.0.now in
    let high = c.split_at_mut-low.result.1.now in
    let first = c.args.first in
    let second = c.args.second in
    let count = c.args.first_length in
    let other = c.args.second_length in
    let whole : low ++ high ≡ c.args.cells.now = sym parts.value in
    let within : count ≤ length high = omega (arith, parts.back_len, c.requires.within) in
    let within_other : second + other ≤ length low = omega (arith, parts.front_len, c.requires.order) in
    let long : length c.lend.new.first ≡ count = c.lend.auto.first ∙ simp length-take (omega (arith, within)) in
    let long_other : length c.lend.new.second ≡ other = c.lend.auto.second ∙ simp (length-take, length-drop) (omega (arith, within_other)) in
    let front : List Pixel = put_mid second (second + other - second) low c.lend.new.second in
    let back : List Pixel = c.lend.new.first ++ drop count high in
    let same : length front ≡ length low = same_len_mid second (second + other - second) low c.lend.new.second c.lend.auto.second in
    let same_back : length back ≡ length high = length-append c.lend.new.first (drop count high) ∙ simp length-drop (omega (arith, long, within)) in
    lent_of c.args.format first count second other c.args.cells.now (low ++ back) _ _ _ c.lend.new.first c.lend.new.second c.lend.ensures
    (ap (take count) parts.back) (front_piece second other first low c.args.cells.now parts.front c.requires.order) long long_other
    (length-append low back ∙ ap (λ n. length low + n) same_back ∙ sym (length-append low high) ∙ ap length whole)
    (subst (λ (cells : List Pixel). WritesRun first (first + count) (λ k. get_or c.lend.new.first (k - first) no_pixel) cells (low ++ back)) whole
    (back_written first count low high c.lend.new.first parts.front_len within long))
    (front_written second other low back c.lend.new.second within_other long_other same)
