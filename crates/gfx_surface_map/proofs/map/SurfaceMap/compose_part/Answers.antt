use Rattle.std.proofs.Common.{◌∙◌, ap, get_or, length, arith, List}
use Rattle.std.proofs.lemmas.List.{get_or-replicate}
use Rattle.gfx_base.specs.declared.pixel.Pixel.{Pixel}
use Rattle.gfx_surface_map.specs.Shown.{SurfaceMap}
use Rattle.gfx_surface_map.proofs.ComposedLemmas.{maps_more, maps_all}
use Rattle.gfx_surface_map.proofs.map.SurfaceMap.compose_part.Goals as goal

pub maps-init : goal.maps-init
maps-init c = λ x d below.
    ap (λ (out : List Pixel). get_or out x d) c.clear_part.ensures ∙ get_or-replicate _ x _ d (omega (arith, below))

pub maps-preserved : goal.maps-preserved
maps-preserved c =
    let count = c.len-i-end.ensures.len ∙ ap (λ (k : SurfaceMap). length k.shown.maps) c.self.view_is in
    maps_more c.args.self.now.shown.surfaces c.args.self.now.shown.maps c.args.left c.args.y c.maps.i _ (0, record { x = 0; y = 0 }) _ _ (omega (arith, count)) c.maps.auto.out
    (c.paint_map.ensures (0, record { x = 0; y = 0 })) c.maps.invariant

pub returns : goal.returns
returns c =
    let count = c.len-i-end.ensures.len ∙ ap (λ (k : SurfaceMap). length k.shown.maps) c.self.view_is in
    let wide = c.maps.auto.out ∙ c.clear_part.auto.out in
    maps_all c.args.self.now.shown c.args.left c.args.y c.maps.i _ c.maps.out (omega (arith, count)) wide (λ x d below. c.maps.invariant x d (omega (arith, below)))
