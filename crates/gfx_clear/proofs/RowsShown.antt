-- Which pixels rows of a rectangle draw.
use Rattle.std.proofs.Common.{◌≡◌, ◌⊎◌, inl, inr, ℕ, zero, suc, ◌+◌, ◌-◌, ◌*◌, ◌<◌, ◌≤◌, Bool, true, false, ◌&&◌, nat_le, List, ◌++◌, length, take, drop, get_or, replicate, Ok, refl, sym, ap, ◌∙◌, subst, arith, length-take, length-drop}
use Rattle.std.proofs.lemmas.List.{get_or_append_left, get_or-append_right, get_or-take, get_or-drop, get_or-replicate, length-replicate}
use Rattle.std.proofs.lemmas.Bool.Decides.{nat_tests}
use Rattle.std.proofs.Math.Nat.{mul-le-mul_left}
use Rattle.gfx_base.specs.declared.pixel.Rgb.{Rgb}
use Rattle.gfx_base.specs.declared.refusal.Refusal.TheVariants.{ClearLengths, RectOutside}
use Rattle.gfx_base.specs.Results.{and_then, check}
use Rattle.gfx_base.proofs.ResultLemmas.{and_then_ok, check_ok}
use Rattle.gfx_clear_runs.specs.Reading.{covered, runs_of}
use Rattle.gfx_clear_bands.specs.Bands.{Drawing}
use Rattle.gfx_clear_bands.specs.Pixels.{Shows, row_by_row}
use Rattle.gfx_clear_bands.specs.Writing.{black}
use Rattle.gfx_clear_bands.proofs.Shown.{Put, row_shows, shows_none, shows_below}
use Rattle.gfx_clear.specs.declared.area.Area.{Area}
use Rattle.gfx_clear.specs.declared.area.TheConstants.{AREA}
use Rattle.gfx_clear.specs.Parts.{covered_by}
use Rattle.gfx_clear.specs.Shown.{ResidualShows, SubcodecShows}
use Rattle.gfx_clear.specs.Subcodecs.{overwritten, row_drawn, rows_drawn, area_of, is_inside, area_at, area_drawn, coded, subcodec}
use Rattle.gfx_clear.proofs.Layers.{length-covered, length-coded, residual_some}
use Rattle.gfx_clear.proofs.Rows.{length-overwritten, rows_cover}

-- items over others
put_over : {A : Type 0} (d : A) (at n : ℕ) (item : ℕ → A) (items old : List A) → length items ≡ n → ((i : ℕ) → i < n → get_or items i d ≡ item i) → at + n ≤ length old
    → Put d at n item old (overwritten at items old)
put_over {A = A} d at n item items old long each within = record {
  long = length-overwritten at items old (omega (arith, long));
  inside = λ i less.
      get_or-append_right (take at old) (items ++ tail) at (at + i) d front (omega arith)
      ∙ ap (λ z. get_or (items ++ tail) z d) (minus i)
      ∙ get_or_append_left items tail d i (omega (arith, long))
      ∙ each i less;
  outside = λ k apart. by k apart;
}
  where
    tail : List A
    tail = drop (length items) (drop at old)

    front : length (take at old) ≡ at
    front = omega (arith, length-take at old)

    minus : (i : ℕ) → at + i - at ≡ i
    minus i = omega arith

    by : (k : ℕ) → ((k < at) ⊎ (at + n ≤ k)) → get_or (overwritten at items old) k d ≡ get_or old k d
    by k (inl less) = get_or_append_left (take at old) (items ++ tail) d k (omega (arith, front)) ∙ get_or-take at old k d less
    by k (inr past) =
        get_or-append_right (take at old) (items ++ tail) at k d front (omega arith)
        ∙ get_or-append_right items tail n (k - at) d long (omega arith)
        ∙ get_or-drop (length items) (drop at old) (k - at - n) d
        ∙ get_or-drop at old (length items + (k - at - n)) d
        ∙ ap (λ z. get_or old z d) (omega (arith, long))

-- rows of a rectangle
pub record Below (across left top wide high : ℕ) (pixels : List Rgb) (old new : Drawing) : Type 0 where
  pub shows : Shows across left top wide high (row_by_row wide pixels) old new
  pub colours : length new.colours ≡ length old.colours
  pub flags : length new.drawn ≡ length old.drawn
  pub rings : new.rings ≡ old.rings

one_more : (n : ℕ) → 1 + n ≡ suc n
one_more n = omega arith

pub rows_show : (across left top wide high : ℕ) (pixels : List Rgb) (old : Drawing) → left + wide ≤ across → length pixels ≡ wide * high
    → across * (top + high) ≤ length old.colours → across * (top + high) ≤ length old.drawn
    → Below across left top wide high pixels old (rows_drawn across wide (top * across + left) high pixels old)
unfolding rows_drawn
rows_show across left top wide zero pixels old side whole in_colours in_flags = record {
  shows = shows_none across left top wide 0 (row_by_row wide pixels) old (inr refl);
  colours = refl;
  flags = refl;
  rings = refl;
}
rows_show across left top wide (suc rows) pixels old side whole in_colours in_flags =
    let product : wide * suc rows ≡ wide + wide * rows = omega arith in
    let first = take wide pixels in
    let others = drop wide pixels in
    let at = top * across + left in
    let one : length first ≡ wide = omega (arith, length-take wide pixels) in
    let less : length others ≡ wide * rows = omega (arith, length-drop wide pixels) in
    let most = mul-le-mul_left across (let e : top + 1 ≤ top + suc rows = omega arith in e) in
    let room : at + wide ≤ length old.colours = omega (arith, most, side, in_colours) in
    let mark_room : at + wide ≤ length old.drawn = omega (arith, most, side, in_flags) in
    let marks = replicate (length first) true in
    let marked : length marks ≡ wide = length-replicate (length first) true ∙ one in
    let mid = row_drawn at first old in
    let put = put_over black at wide (λ i. get_or first i black) first old.colours one (λ i within. refl) room in
    let flagged = put_over false at wide (λ i. true) marks old.drawn marked (λ i within. get_or-replicate (length first) i true false (omega (arith, within, one))) mark_room in
    let row = row_shows across left top wide (λ i. get_or first i black) old mid side put flagged in
    let sides : across * (top + 1 + rows) ≡ across * (top + suc rows) = ap (λ n. across * n) (let e : top + 1 + rows ≡ top + suc rows = omega arith in e) in
    let rest = rows_show across left (top + 1) wide rows others mid side less (omega (arith, sides, put.long, in_colours)) (omega (arith, sides, flagged.long, in_flags)) in
    let place : (top + 1) * across + left ≡ at + across = omega arith in
    let last = subst (λ z. Below across left (top + 1) wide rows others mid (rows_drawn across wide z rows others mid)) place rest in
    record {
      shows = subst (λ n. Shows across left top wide n (row_by_row wide pixels) old (rows_drawn across wide (at + across) rows others mid)) (one_more rows)
          (shows_below across left top wide 1 rows (λ x y. get_or first x black) (row_by_row wide others) (row_by_row wide pixels) old mid
          (rows_drawn across wide (at + across) rows others mid) side row last.shows (λ x y column top_row. first_row x y column top_row)
          (λ x y. get_or-drop wide pixels (y * wide + x) black ∙ ap (λ z. get_or pixels z black) (next_row x y)));
      colours = last.colours ∙ put.long;
      flags = last.flags ∙ flagged.long;
      rings = last.rings;
    }
  where
    first_row : (x y : ℕ) → x < wide → y < 1 → get_or (take wide pixels) x black ≡ row_by_row wide pixels x y
    first_row x y column top_row =
        let none : y ≡ 0 = omega arith in
        get_or-take wide pixels x black column ∙ ap (λ z. get_or pixels z black) (let e : x ≡ 0 * wide + x = omega arith in e ∙ ap (λ z. z * wide + x) (sym none))

    next_row : (x y : ℕ) → wide + (y * wide + x) ≡ (1 + y) * wide + x
    next_row x y = omega arith

pub residual_shows : ResidualShows
residual_shows width height old new bytes colours flags some e =
    let s = and_then_ok (covered (width * height) (runs_of bytes)) _ new (sym (residual_some (width * height) old bytes some) ∙ e) in
    let pixels = s.0 in
    let whole : length pixels ≡ width * height = length-covered (width * height) (runs_of bytes) pixels s.1 in
    let same : covered_by pixels old ≡ new = let f = s.2 in cc in
    let below = rows_show width 0 0 width height pixels old (omega arith) whole (omega (arith, colours)) (omega (arith, flags)) in
    let drawn = rows_cover width height pixels old whole colours flags ∙ same in
    let start : 0 * width + 0 ≡ 0 = omega arith in
    let all = subst (Below width 0 0 width height pixels old) (ap (λ z. rows_drawn width width z height pixels old) start ∙ drawn) below in
    (pixels, s.1, whole, all.shows, all.rings)

-- a rectangle that is accepted
area_ok : (width height : ℕ) (bytes : List ℕ) (area : Area) → area_at width height bytes ≡ Ok area
    → (area_of bytes ≡ area) × ((area_of bytes).x + (area_of bytes).width ≤ width) × ((area_of bytes).y + (area_of bytes).height ≤ height)
unfolding area_at
area_ok width height bytes area e =
    let first = and_then_ok (check ClearLengths _) _ area e in
    let second = and_then_ok (check ClearLengths _) _ area first.2 in
    let third = and_then_ok (check RectOutside (is_inside width height (area_of bytes))) _ area second.2 in
    let inside = check_ok RectOutside (is_inside width height (area_of bytes)) third.1 in
    let same : area_of bytes ≡ area = let f = third.2 in cc in
    let sides = by (nat_le ((area_of bytes).x + (area_of bytes).width) width) (nat_le ((area_of bytes).y + (area_of bytes).height) height) refl refl inside in
    (same, sides.0, sides.1)
  where
    by : (a b : Bool) → nat_le ((area_of bytes).x + (area_of bytes).width) width ≡ a → nat_le ((area_of bytes).y + (area_of bytes).height) height ≡ b → (a && b) ≡ true
        → ((area_of bytes).x + (area_of bytes).width ≤ width) × ((area_of bytes).y + (area_of bytes).height ≤ height)
    by true true a b all = (grind (arith, nat_tests), grind (arith, nat_tests))
    by true false a b all = let clash : false ≡ true = all in absurd cc
    by false b' a b all = let clash : false ≡ true = all in absurd cc

pub subcodec_shows : SubcodecShows
unfolding subcodec
subcodec_shows width height old new bytes rest colours flags e =
    let s = and_then_ok (area_at width height bytes) _ (new, rest) e in
    let inside = area_ok width height bytes s.0 s.1 in
    let area = area_of bytes in
    let due = subst (λ z. and_then {B = Drawing × List ℕ} (coded z.codec (z.width * z.height) (take z.size (drop AREA bytes))) (λ pixels. Ok (area_drawn width z pixels old, drop z.size (drop AREA bytes))) ≡ Ok (new, rest)) (sym inside.0) s.2 in
    let t = and_then_ok (coded area.codec (area.width * area.height) (take area.size (drop AREA bytes))) _ (new, rest) due in
    let pixels = t.0 in
    let whole = length-coded area.codec (area.width * area.height) (take area.size (drop AREA bytes)) pixels t.1 in
    let same : ◌≡◌ {A = Drawing × List ℕ} (area_drawn width area pixels old, drop area.size (drop AREA bytes)) (new, rest) = let f = t.2 in cc in
    let most = mul-le-mul_left width inside.2 in
    let below = rows_show width area.x area.y area.width area.height pixels old inside.1 whole (omega (arith, most, colours)) (omega (arith, most, flags)) in
    let all = subst (Below width area.x area.y area.width area.height pixels old) (ap (λ z. z.0) same) below in
    (pixels, t.1, whole, all.shows, all.rings, sym (ap (λ z. z.1) same))
