use Rattle.std.proofs.Common.{◌≡◌, ◌+◌, ◌-◌, suc, ◌++◌, ◌∙◌, ap, arith, refl}
use Rattle.std.specs.List.{flat_map}
use Rattle.gfx_base.specs.Geometry.{width_of}
use Rattle.gfx_surface_map.specs.Composed.{output_part, pixel_bytes}
use Rattle.gfx_surface_map.proofs.BytesLemmas.{put_none, put_more, put_all, rows_cut, rows_none}
use Rattle.gfx_surface_map.proofs.map.SurfaceMap.append_rows.Goals as goal

pub rows-init : goal.rows-init
rows-init c = put_none _ _

pub rows-preserved : goal.rows-preserved
rows-preserved c =
    let long = c.rows.auto.row ∙ c.requires.whole in
    let part = c.compose_part.ensures ∙ (λ i. output_part c.args.self.now.shown (c.from.ensures i) (c.from-in-rows.ensures i) (long i)) in
    let is = c.in_ok-append_pixels.ensures.ok ∙ ap (λ z. c.rows.out ++ flat_map pixel_bytes z) part in
    let rows : c.args.rect.bottom - c.rows.y ≡ suc (c.args.rect.bottom - (c.rows.y + 1)) = omega arith in
    put_more _ _ _ _ _ _ _ is (rows_cut c.args.self.now.shown c.args.rect.left (width_of c.args.rect) c.rows.y _ _ _ rows refl) c.rows.invariant

pub returns-clause-ok : goal.returns-clause-ok
returns-clause-ok c =
    let none : c.args.rect.bottom - c.rows.y ≡ 0 = omega arith in
    put_all _ _ _ _ (rows_none c.args.self.now.shown _ _ c.rows.y _ none) c.rows.invariant
