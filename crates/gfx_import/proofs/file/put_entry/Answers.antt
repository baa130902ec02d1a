use Rattle.std.proofs.Common.{◌++◌, [], subst}
use Rattle.std.specs.List.{flat_map}
use Rattle.gfx_layout.specs.Shape.{text, number_alone, u16, u64}
use Rattle.gfx_layout.specs.Shapes.{pixel}
use Rattle.gfx_layout.specs.Writing.{Puts}
use Rattle.gfx_import.proofs.WritingLemmas.{puts_four}
use Rattle.gfx_import.proofs.file.put_entry.Goals as goal

pub returns : goal.returns
returns c =
    subst (λ pixels. Puts c.put_items.result c.args.out.now c.put_items.new.out
    (text (number_alone u64) c.args.key ++ (text (number_alone u16) c.args.bitmap.now.width ++ (text (number_alone u16) c.args.bitmap.now.height ++ (flat_map (text pixel) pixels ++ [])))))
    c.as_slice.ensures
    (puts_four c.put_items.result c.args.out.now c.put.new.out c.put-2.new.out c.put-3.new.out _ _ _ (flat_map (text pixel) c.as_slice.result.now) c.put_items.new.out
    c.in_ok-put.ensures.ok c.in_ok-put-2.ensures.ok c.in_ok-put-3.ensures.ok c.put_items.ensures.ok c.put_items.ensures.err)
