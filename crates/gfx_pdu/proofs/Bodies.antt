-- The body of each message: what is spelled is read, and what is read is the body of a message that fits.
use Rattle.std.proofs.Common.{◌≡◌, ℕ, ◌*◌, ◌-◌, ◌≤◌, List, [], length, Ok, refl, sym, ap, ◌∙◌, subst, arith}
use Rattle.std.proofs.lemmas.Bool.{le-leb, leb-true}
use Rattle.std.proofs.lemmas.List.{append-nil}
use Rattle.gfx_base.specs.Field.{IsBytes}
use Rattle.gfx_base.specs.Geometry.{IsPoint, IsRect}
use Rattle.gfx_layout.specs.Shape.{PartFits}
use Rattle.gfx_layout.specs.Shapes.{pixel, point, rect}
use Rattle.gfx_layout.specs.Layout.{Parts, made, Fit, spelled}
use Rattle.gfx_layout.proofs.Fitting.{rect_fits, is_rect, point_fits, is_point, all_so}
use Rattle.gfx_layout.proofs.FoundLaws.{read_whole-spelled, read_whole-found}
use Rattle.gfx_pdu.specs.declared.id.Id.{Id}
use Rattle.gfx_pdu.specs.declared.id.Id.TheVariants as ids
use Rattle.gfx_pdu.specs.declared.pdu.Monitor.{Monitor}
use Rattle.gfx_pdu.specs.declared.pdu.Pdu.{Pdu}
use Rattle.gfx_pdu.specs.declared.pdu.Pdu.TheVariants as pdus
use Rattle.gfx_pdu.specs.Layouts.{monitor, wire_to_surface_1, wire_to_surface_2, delete_encoding_context, solid_fill, surface_to_surface, surface_to_cache, cache_to_surface, evict_cache_entry, create_surface, delete_surface, start_frame, end_frame, reset_graphics, map_surface_to_output, caps_confirm, layout_of}
use Rattle.gfx_layout.specs.Header.{refused}
use Rattle.gfx_layout.proofs.Headers.{refused-ok}
use Rattle.gfx_pdu.specs.Reading.{body_of}
use Rattle.gfx_pdu.specs.Spelling.{id_of, parts_of, padding_of, body, size, IsMonitor, NumbersFit, CountsFit, Fits}

-- ---- numbers that fit

monitor_fits : (m : Monitor) → IsMonitor m → PartFits monitor m
monitor_fits m fits = (fits.left, (fits.top, (fits.right, (fits.bottom, (fits.flags, tt)))))

is_monitor : (m : Monitor) → PartFits monitor m → IsMonitor m
is_monitor m fits = record { left = fits.0; top = fits.1.0; right = fits.1.1.0; bottom = fits.1.1.1.0; flags = fits.1.1.1.1.0 }

-- ---- what is spelled is read

-- the parts of a message say that message
parts-made : (pdu : Pdu) (padding : List ℕ) → made (layout_of (id_of pdu)) (parts_of pdu padding) ≡ pdu
parts-made (pdus.ResetGraphics width height monitors) padding = refl
parts-made pdu padding = refl

-- and fit where it does
parts-fit : (pdu : Pdu) (padding : List ℕ) → Fits pdu → length padding ≡ padding_of pdu → Fit (layout_of (id_of pdu)) (parts_of pdu padding)
unfolding size
parts-fit (pdus.WireToSurface1 surface codec format area payload) padding fits e =
    let short = fits.spellable.short in let n = fits.numbers in
    ((n.0, tt), ((n.1, tt), ((tt, tt), (rect_fits area n.2, (omega arith, tt)))))
parts-fit (pdus.WireToSurface2 surface codec context format payload) padding fits e =
    let short = fits.spellable.short in let n = fits.numbers in
    ((n.0, tt), ((n.1, tt), ((n.2, tt), ((tt, tt), (omega arith, tt)))))
parts-fit (pdus.DeleteEncodingContext surface context) padding fits e = ((fits.numbers.0, tt), ((fits.numbers.1, tt), tt))
parts-fit (pdus.SolidFill surface colour rects) padding fits e =
    let colour_fits : PartFits pixel colour = (tt, (tt, (tt, (tt, tt)))) in
    ((fits.numbers.0, tt), (colour_fits, (fits.spellable.counts, (all_so IsRect (PartFits rect) rect_fits rects fits.numbers.1, tt))))
parts-fit (pdus.SurfaceToSurface source destination area points) padding fits e =
    let n = fits.numbers in
    ((n.0, tt), ((n.1, tt), (rect_fits area n.2, (fits.spellable.counts, (all_so IsPoint (PartFits point) point_fits points n.3, tt)))))
parts-fit (pdus.SurfaceToCache surface key slot area) padding fits e =
    let n = fits.numbers in ((n.0, tt), ((n.1, tt), ((n.2, tt), (rect_fits area n.3, tt))))
parts-fit (pdus.CacheToSurface slot surface points) padding fits e =
    let n = fits.numbers in
    ((n.0, tt), ((n.1, tt), (fits.spellable.counts, (all_so IsPoint (PartFits point) point_fits points n.2, tt))))
parts-fit (pdus.EvictCacheEntry slot) padding fits e = ((fits.numbers, tt), tt)
parts-fit (pdus.CreateSurface id width height format) padding fits e =
    let n = fits.numbers in ((n.0, tt), ((n.1, tt), ((n.2, tt), ((tt, tt), tt))))
parts-fit (pdus.DeleteSurface id) padding fits e = ((fits.numbers, tt), tt)
parts-fit (pdus.StartFrame timestamp frame) padding fits e = ((fits.numbers.0, tt), ((fits.numbers.1, tt), tt))
parts-fit (pdus.EndFrame frame) padding fits e = ((fits.numbers, tt), tt)
parts-fit (pdus.ResetGraphics width height monitors) padding fits e =
    let few : length monitors ≤ 16 = fits.spellable.counts in let n = fits.numbers in
    ((n.0, tt), ((n.1, tt), ((omega arith, tt), (le-leb _ _ few, (refl, (all_so IsMonitor (PartFits monitor) monitor_fits monitors n.2, (e, tt)))))))
parts-fit (pdus.MapSurfaceToOutput id reserved x y) padding fits e =
    let n = fits.numbers in ((n.0, tt), ((n.1, tt), ((n.2, tt), ((n.3, tt), tt))))
parts-fit (pdus.CapsConfirm version payload) padding fits e =
    let short = fits.spellable.short in ((fits.numbers, tt), (omega arith, tt))

pub body_of-again : (pdu : Pdu) (padding : List ℕ) → Fits pdu → length padding ≡ padding_of pdu → body_of (id_of pdu) (body pdu padding) ≡ Ok pdu
unfolding body_of
body_of-again pdu padding fits e =
    ap refused (read_whole-spelled (layout_of (id_of pdu)) (parts_of pdu padding) (parts-fit pdu padding fits e))
    ∙ ap (λ p. Ok p) (parts-made pdu padding)

-- ---- what is read is spelled so

-- these bytes are the body of this message
pub record IsBody (id : Id) (bytes : List ℕ) (pdu : Pdu) : Type 0 where
  pub same : id_of pdu ≡ id
  pub numbers : NumbersFit pdu
  pub counts : CountsFit pdu
  pub padding : List ℕ
  pub as_long : length padding ≡ padding_of pdu
  pub spelled_so : bytes ≡ body pdu padding

-- a message without padding
plain : (id : Id) (pdu : Pdu) (bytes : List ℕ) → id_of pdu ≡ id → 0 ≡ padding_of pdu → NumbersFit pdu → CountsFit pdu → bytes ≡ body pdu [] → IsBody id bytes pdu
plain id pdu bytes same short numbers counts spelled_so =
    record { same = same; numbers = numbers; counts = counts; padding = []; as_long = short; spelled_so = spelled_so }

found_body : (id : Id) (p : Parts (layout_of id)) → Fit (layout_of id) p → IsBody id (spelled (layout_of id) p) (made (layout_of id) p)
found_body ids.WireToSurface1 p fit =
    plain ids.WireToSurface1 (made wire_to_surface_1 p) _ refl refl (fit.0.0, fit.1.0.0, is_rect _ fit.1.1.1.0) tt refl
found_body ids.WireToSurface2 p fit =
    plain ids.WireToSurface2 (made wire_to_surface_2 p) _ refl refl (fit.0.0, fit.1.0.0, fit.1.1.0.0) tt refl
found_body ids.DeleteEncodingContext p fit =
    plain ids.DeleteEncodingContext (made delete_encoding_context p) _ refl refl (fit.0.0, fit.1.0.0) tt refl
found_body ids.SolidFill p fit =
    plain ids.SolidFill (made solid_fill p) _ refl refl (fit.0.0, all_so (PartFits rect) IsRect is_rect _ fit.1.1.1.0) fit.1.1.0 refl
found_body ids.SurfaceToSurface p fit =
    plain ids.SurfaceToSurface (made surface_to_surface p) _ refl refl (fit.0.0, fit.1.0.0, is_rect _ fit.1.1.0, all_so (PartFits point) IsPoint is_point _ fit.1.1.1.1.0) fit.1.1.1.0 refl
found_body ids.SurfaceToCache p fit =
    plain ids.SurfaceToCache (made surface_to_cache p) _ refl refl (fit.0.0, fit.1.0.0, fit.1.1.0.0, is_rect _ fit.1.1.1.0) tt refl
found_body ids.CacheToSurface p fit =
    plain ids.CacheToSurface (made cache_to_surface p) _ refl refl (fit.0.0, fit.1.0.0, all_so (PartFits point) IsPoint is_point _ fit.1.1.1.0) fit.1.1.0 refl
found_body ids.EvictCacheEntry p fit = plain ids.EvictCacheEntry (made evict_cache_entry p) _ refl refl fit.0.0 tt refl
found_body ids.CreateSurface p fit = plain ids.CreateSurface (made create_surface p) _ refl refl (fit.0.0, fit.1.0.0, fit.1.1.0.0) tt refl
found_body ids.DeleteSurface p fit = plain ids.DeleteSurface (made delete_surface p) _ refl refl fit.0.0 tt refl
found_body ids.StartFrame p fit = plain ids.StartFrame (made start_frame p) _ refl refl (fit.0.0, fit.1.0.0) tt refl
found_body ids.EndFrame p fit = plain ids.EndFrame (made end_frame p) _ refl refl fit.0.0 tt refl
found_body ids.ResetGraphics p fit =
    let (width, (height, (count, (monitors, (padding, _))))) = p in
    let ((w, _), ((h, _), (n, (few, (long, (all, (room, _))))))) = fit in
    record {
      same = refl;
      numbers = (w, h, all_so (PartFits monitor) IsMonitor is_monitor monitors all);
      counts = subst (λ k. k ≤ 16) (sym long) (leb-true _ _ few);
      padding = padding;
      as_long = subst (λ k. length padding ≡ (16 - k) * 20) (sym long) room;
      spelled_so = ap (λ k. spelled reset_graphics (width, (height, (k, (monitors, (padding, tt)))))) (sym long);
    }
found_body ids.MapSurfaceToOutput p fit =
    plain ids.MapSurfaceToOutput (made map_surface_to_output p) _ refl refl (fit.0.0, fit.1.0.0, fit.1.1.0.0, fit.1.1.1.0.0) tt refl
found_body ids.CapsConfirm p fit = plain ids.CapsConfirm (made caps_confirm p) _ refl refl fit.0.0 tt refl

pub body_of-read : (id : Id) (bytes : List ℕ) (pdu : Pdu) → IsBytes bytes → body_of id bytes ≡ Ok pdu → IsBody id bytes pdu
unfolding body_of
body_of-read id bytes pdu all e =
    let found = read_whole-found (layout_of id) bytes pdu all (refused-ok _ pdu e) in
    let same : spelled (layout_of id) found.parts ≡ bytes = sym (found.splits ∙ append-nil (spelled (layout_of id) found.parts)) in
    subst (λ p. IsBody id bytes p) found.made_is
    (subst (λ t. IsBody id t (made (layout_of id) found.parts)) same (found_body id found.parts found.fit))
