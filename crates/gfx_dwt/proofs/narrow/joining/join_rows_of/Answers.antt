use Rattle.std.proofs.Common.{◌≡◌, ◌+◌, ◌*◌, ◌∙◌, length, refl}
use Rattle.gfx_dwt.specs.Place.{high_size, line_size, low_size}
use Rattle.gfx_dwt.specs.Samples.{cell}
use Rattle.gfx_dwt.proofs.NarrowLines.{AreEvens, edge_rows_within, even_rows_within, evens_are, line_of, next_even}
use Rattle.gfx_dwt.proofs.Small.{small_high, small_low, small_row_even}
use Rattle.gfx_dwt.proofs.narrow.joining.join_rows_of.Goals as goal

pub edge_rows-requires-clause-high : goal.edge_rows-requires-clause-high
edge_rows-requires-clause-high c = small_high c.args.low.now c.args.high.now c.requires.small

pub even_rows-requires-clause-low : goal.even_rows-requires-clause-low
even_rows-requires-clause-low c = small_low c.args.low.now c.args.high.now c.requires.small

pub even_rows-requires-clause-edges : goal.even_rows-requires-clause-edges
even_rows-requires-clause-edges c =
    let t = c.args.transform in
    let l = c.args.level in
    let e : c.low_size.result ≡ low_size t l = c.low_size.ensures in
    let long : length c.edge_rows.new.edges ≡ c.args.rows * (low_size t l + 1) = c.edge_rows.auto.edges ∙ c.split_at_mut-edges.ensures.front_len ∙ rw e refl in
    edge_rows_within t l c.args.rows c.args.low.now c.args.high.now _ c.requires.high_len long c.requires.small (λ r p k h. c.edge_rows.ensures r k p h)

pub even_rows-requires-clause-evens : goal.even_rows-requires-clause-evens
even_rows-requires-clause-evens c = λ r k p h.
    let t = c.args.transform in
    let l = c.args.level in
    rw (next_even t l (cell (low_size t l) c.args.low.now r) (cell (high_size t l) c.args.high.now r) (cell (low_size t l + 1) c.edge_rows.new.edges r) (λ n q. c.edge_rows.ensures r n p q) k h)
    (small_row_even t l c.args.rows c.args.low.now c.args.high.now c.requires.low_len c.requires.high_len c.requires.small r p k h)

pub line_rows-requires-clause-edges : goal.line_rows-requires-clause-edges
line_rows-requires-clause-edges c =
    let t = c.args.transform in
    let l = c.args.level in
    let e : c.low_size.result ≡ low_size t l = c.low_size.ensures in
    let long : length c.edge_rows.new.edges ≡ c.args.rows * (low_size t l + 1) = c.edge_rows.auto.edges ∙ c.split_at_mut-edges.ensures.front_len ∙ rw e refl in
    edge_rows_within t l c.args.rows c.args.low.now c.args.high.now _ c.requires.high_len long c.requires.small (λ r p k h. c.edge_rows.ensures r k p h)

pub line_rows-requires-clause-evens : goal.line_rows-requires-clause-evens
line_rows-requires-clause-evens c =
    let t = c.args.transform in
    let l = c.args.level in
    let e : c.low_size.result ≡ low_size t l = c.low_size.ensures in
    let long : length c.even_rows.new.evens ≡ c.args.rows * (low_size t l + 1) = c.even_rows.auto.evens ∙ c.split_at_mut-evens.ensures.front_len ∙ rw e refl in
    even_rows_within t l c.args.rows c.args.low.now c.args.high.now _ c.requires.low_len c.requires.high_len long c.requires.small
    (λ r p. evens_are t l _ _ (cell (low_size t l + 1) c.edge_rows.new.edges r) _ (λ k h. c.edge_rows.ensures r k p h) (λ k h. c.even_rows.ensures.each r k p h) (c.even_rows.ensures.last r p))

pub returns : goal.returns
returns c = λ r k p h.
    let t = c.args.transform in
    let l = c.args.level in
    let evens : AreEvens t l (cell (low_size t l) c.args.low.now r) (cell (high_size t l) c.args.high.now r) (cell (low_size t l + 1) c.even_rows.new.evens r) =
    evens_are t l _ _ (cell (low_size t l + 1) c.edge_rows.new.edges r) _ (λ n q. c.edge_rows.ensures r n p q) (λ n q. c.even_rows.ensures.each r n p q) (c.even_rows.ensures.last r p) in
    line_of t l _ _ (cell (low_size t l + 1) c.edge_rows.new.edges r) (cell (low_size t l + 1) c.even_rows.new.evens r) (cell (line_size t l) c.line_rows.new.out r) (λ n q. c.edge_rows.ensures r n p q) evens
    (λ n q. c.line_rows.ensures.evens r n p q) (λ n q. c.line_rows.ensures.odds r n p q) k h
