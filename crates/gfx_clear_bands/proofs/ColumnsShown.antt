-- Which pixels of a picture a band draws.
use Rattle.std.proofs.Common.{◌≡◌, inl, inr, ℕ, zero, suc, ◌+◌, ◌-◌, ◌*◌, ◌==◌, ◌<◌, ◌≤◌, true, false, List, [], ◌∷◌, ◌++◌, length, drop, get_or, set, replicate, Result, Ok, Err, refl, sym, ap, ◌∙◌, subst, arith, length-append, length-take, eqb-true}
use Rattle.std.specs.Option.{ok_or}
use Rattle.std.specs.Int.{w16}
use Rattle.std.proofs.lemmas.List.{length-set, length-replicate}
use Rattle.std.proofs.Math.Nat.{mul-le-mul_left}
use Rattle.gfx_base.specs.Field.{number_at}
use Rattle.gfx_base.specs.declared.pixel.Rgb.{Rgb}
use Rattle.gfx_base.specs.declared.refusal.Refusal.{Refusal}
use Rattle.gfx_base.specs.declared.refusal.Refusal.TheVariants.{ClearLengths, BandShape, BarEmpty, BarHeight}
use Rattle.gfx_base.specs.Results.{check, Has}
use Rattle.gfx_base.proofs.ResultLemmas.{and_then_ok, chain, gives, check_ok}
use Rattle.gfx_clear_store.specs.Rings.{Rings, slot_at}
use Rattle.gfx_clear_bands.specs.declared.band.Band.{Band}
use Rattle.gfx_clear_bands.specs.declared.band.TheConstants.{HEAD}
use Rattle.gfx_clear_bands.specs.declared.word.Word.{Word}
use Rattle.gfx_clear_bands.specs.declared.word.Word.TheVariants.{Hit, ShortHit, Miss}
use Rattle.gfx_clear_bands.specs.Bars.{Bar, bar, worded_bar, word_of, hit_bar, short_bar, missed_bar, made_bar}
use Rattle.gfx_clear_bands.specs.Bands.{Drawing, drawing, Stop, here, drawn_down, band_of, is_shaped, band_head, height_of, draws_bar, columns, one_band}
use Rattle.gfx_clear_bands.specs.Inner.{IsShaped}
use Rattle.gfx_clear_bands.specs.Pixels.{Shows, by_columns, ReadsColumns, BandShows}
use Rattle.gfx_clear_bands.specs.Writing.{black}
use Rattle.gfx_clear_bands.proofs.Drawings.{shaped_from, band_at}
use Rattle.gfx_clear_bands.proofs.Shown.{put_one, row_shows, shows_none, shows_below, shows_beside}

one_more : (n : ℕ) → 1 + n ≡ suc n
one_more n = omega arith

-- a column of pixels, one below the other
pub record Down (width x top : ℕ) (pixels : List Rgb) (old new : Drawing) : Type 0 where
  pub shows : Shows width x top 1 (length pixels) (λ i row. get_or pixels row black) old new
  pub colours : length new.colours ≡ length old.colours
  pub flags : length new.drawn ≡ length old.drawn
  pub rings : new.rings ≡ old.rings

pub down_shows : (width x top : ℕ) (pixels : List Rgb) (old : Drawing) → x < width → width * (top + length pixels) ≤ length old.colours → width * (top + length pixels) ≤ length old.drawn
    → Down width x top pixels old (drawn_down width (top * width + x) pixels old)
unfolding drawn_down
down_shows width x top [] old column in_colours in_flags = record {
  shows = shows_none width x top 1 0 (λ i row. get_or [] row black) old (inr refl);
  colours = refl;
  flags = refl;
  rings = refl;
}
down_shows width x top (c ∷ cs) old column in_colours in_flags =
    let most = mul-le-mul_left width (let e : top + 1 ≤ top + length (c ∷ cs) = omega arith in e) in
    let first : top * width + x < length old.colours = omega (arith, most) in
    let mark : top * width + x < length old.drawn = omega (arith, most) in
    let mid = drawing (set old.colours (top * width + x) c) (set old.drawn (top * width + x) true) old.rings in
    let one = row_shows width x top 1 (λ i. c) old mid (omega arith) (put_one black (top * width + x) c old.colours first) (put_one false (top * width + x) true old.drawn mark) in
    let long : length mid.colours ≡ length old.colours = length-set old.colours (top * width + x) c in
    let flags : length mid.drawn ≡ length old.drawn = length-set old.drawn (top * width + x) true in
    let sides : width * (top + 1 + length cs) ≡ width * (top + length (c ∷ cs)) = ap (λ n. width * n) (let e : top + 1 + length cs ≡ top + length (c ∷ cs) = omega arith in e) in
    let rest = down_shows width x (top + 1) cs mid column (omega (arith, sides, long)) (omega (arith, sides, flags)) in
    let place : (top + 1) * width + x ≡ top * width + x + width = omega arith in
    let last = subst (λ z. Down width x (top + 1) cs mid (drawn_down width z cs mid)) place rest in
    record {
      shows = subst (λ n. Shows width x top 1 n (λ i row. get_or (c ∷ cs) row black) old (drawn_down width (top * width + x + width) cs mid)) (one_more (length cs))
          (shows_below width x top 1 1 (length cs) (λ i row. c) (λ i row. get_or cs row black) (λ i row. get_or (c ∷ cs) row black) old mid
          (drawn_down width (top * width + x + width) cs mid) (omega arith) one last.shows (λ i row column less. top_row row less)
          (λ i row. ap (λ z. get_or (c ∷ cs) z black) (sym (one_more row))));
      colours = last.colours ∙ long;
      flags = last.flags ∙ flags;
      rings = last.rings;
    }
  where
    top_row : (row : ℕ) → row < 1 → c ≡ get_or (c ∷ cs) row black
    top_row row less = let none : 0 ≡ row = omega arith in ap (λ z. get_or (c ∷ cs) z black) none

-- a column that is read has the height of its band
length-made : (height : ℕ) (background : Rgb) (on : ℕ) (short : List Rgb) → length (made_bar height background on short) ≡ height
unfolding made_bar
length-made height background on short =
    omega (
      arith,
      length-take height (replicate on background ++ (short ++ replicate height background)),
      length-append (replicate on background) (short ++ replicate height background),
      length-append short (replicate height background),
      length-replicate height background,
    )

abbrev IsTall : ℕ → Bar → Type 0
IsTall height read = length read.pixels ≡ height

worded_tall : (old : Rings) (height : ℕ) (background : Rgb) (word : Word) (rest : List ℕ) → Has (worded_bar old height background word rest) (IsTall height)
unfolding hit_bar short_bar missed_bar
worded_tall old height background (Hit place) rest =
    chain (ok_or (slot_at old.bars place) BarEmpty) _ (IsTall height) (λ pixels e.
    chain (check BarHeight (length pixels == height)) _ (IsTall height) (λ u tall. gives (record { pixels = pixels; rings = old; rest = rest }) (IsTall height) (eqb-true (length pixels) height (check_ok BarHeight (length pixels == height) tall))))
worded_tall old height background (ShortHit place) rest =
    chain (check ClearLengths _) _ (IsTall height) (λ u e. chain (ok_or (slot_at old.shorts place) BarEmpty) _ (IsTall height) (λ short f. gives _ (IsTall height) (length-made height background _ short)))
worded_tall old height background (Miss on off) rest =
    chain (check _ _) _ (IsTall height) (λ u e. chain (check ClearLengths _) _ (IsTall height) (λ v f. gives _ (IsTall height) (length-made height background on _)))

pub bar_tall : (old : Rings) (height : ℕ) (background : Rgb) (bytes : List ℕ) → Has (bar old height background bytes) (IsTall height)
unfolding bar
bar_tall old height background bytes =
    chain (check ClearLengths _) _ (IsTall height) (λ u e. worded_tall old height background (word_of (number_at w16 bytes 0)) (drop 2 bytes))

-- so many columns
pub record Across (width : ℕ) (band : Band) (n x : ℕ) (old new : Drawing) (bytes rest : List ℕ) : Type 0 where
  pub these : List (List Rgb)
  pub many : length these ≡ n
  pub read : ReadsColumns old.rings (height_of band) band.background bytes these new.rings rest
  pub shows : Shows width x band.top n (height_of band) (by_columns these) old new

here_ok : {A : Type 0} (reached : Drawing) (answer : Result A Refusal) (a : A) → here reached answer ≡ Ok a → answer ≡ Ok a
here_ok reached (Ok x) a e = let same : x ≡ a = cc in ap (λ z. Ok z) same
here_ok reached (Err refusal) a e = absurd cc

-- the rings don't matter
shows_from : (across left top wide high : ℕ) (colour : ℕ → ℕ → Rgb) (old new : Drawing) (held : Rings)
    → Shows across left top wide high colour (drawing old.colours old.drawn held) new → Shows across left top wide high colour old new
shows_from across left top wide high colour old new held shows = record { inside = shows.inside; outside = shows.outside }

pub columns_show : (width : ℕ) (band : Band) (n x : ℕ) (old new : Drawing) (bytes rest : List ℕ) → x + n ≤ width
    → width * (band.top + height_of band) ≤ length old.colours → width * (band.top + height_of band) ≤ length old.drawn
    → columns width band n x old bytes ≡ Ok (new, rest) → Across width band n x old new bytes rest
unfolding columns
columns_show width band zero x old new bytes rest inside in_colours in_flags e =
    let same : new ≡ old = ap (λ (z : Result (Drawing × List ℕ) Stop). first_of z) (sym e) in
    let left : rest ≡ bytes = ap (λ (z : Result (Drawing × List ℕ) Stop). second_of z) (sym e) in
    record {
      these = [];
      many = refl;
      read = (ap (λ z. z.rings) same, left);
      shows = subst (λ z. Shows width x band.top 0 (height_of band) (by_columns []) old z) (sym same) (shows_none width x band.top 0 (height_of band) (by_columns []) old (inl refl));
    }
  where
    first_of : Result (Drawing × List ℕ) Stop → Drawing
    first_of (Ok found) = found.0
    first_of (Err stop) = old

    second_of : Result (Drawing × List ℕ) Stop → List ℕ
    second_of (Ok found) = found.1
    second_of (Err stop) = bytes
columns_show width band (suc n) x old new bytes rest inside in_colours in_flags e =
    let s = and_then_ok (here old (bar old.rings (height_of band) band.background bytes)) _ (new, rest) e in
    let read = s.0 in
    let found : bar old.rings (height_of band) band.background bytes ≡ Ok read = here_ok old (bar old.rings (height_of band) band.background bytes) read s.1 in
    let tall : length read.pixels ≡ height_of band = (bar_tall old.rings (height_of band) band.background bytes).each read found in
    let base = drawing old.colours old.drawn read.rings in
    let high : width * (band.top + length read.pixels) ≡ width * (band.top + height_of band) = ap (λ z. width * (band.top + z)) tall in
    let down = down_shows width x band.top read.pixels base (omega arith) (omega (arith, high, in_colours)) (omega (arith, high, in_flags)) in
    let mid = (draws_bar width band x old read).0 in
    let others = columns_show width band n (x + 1) mid new read.rest rest (omega arith) (omega (arith, down.colours, in_colours)) (omega (arith, down.flags, in_flags)) s.2 in
    record {
      these = read.pixels ∷ others.these;
      many = ap (λ z. suc z) others.many;
      read = (read, found, refl, tall, subst (λ z. ReadsColumns z (height_of band) band.background read.rest others.these new.rings rest) down.rings others.read);
      shows = subst (λ k. Shows width x band.top k (height_of band) (by_columns (read.pixels ∷ others.these)) old new) (one_more n)
          (shows_beside width x band.top 1 n (height_of band) (λ i row. get_or read.pixels row black) (by_columns others.these) (by_columns (read.pixels ∷ others.these)) old mid new (omega arith)
          (shows_from width x band.top 1 (height_of band) (λ i row. get_or read.pixels row black) old mid read.rings
          (subst (λ z. Shows width x band.top 1 z (λ i row. get_or read.pixels row black) base mid) tall down.shows))
          others.shows (λ i row less. left_column read.pixels others.these i row less)
          (λ i row. ap (λ z. by_columns (read.pixels ∷ others.these) z row) (sym (one_more i))));
    }
  where
    left_column : (pixels : List Rgb) (others : List (List Rgb)) (i row : ℕ) → i < 1 → get_or pixels row black ≡ by_columns (pixels ∷ others) i row
    left_column pixels others i row less = let none : 0 ≡ i = omega arith in ap (λ z. by_columns (pixels ∷ others) z row) none

-- a band
head_ok : (width height : ℕ) (bytes : List ℕ) (band : Band) → band_head width height bytes ≡ Ok band → (band_of bytes ≡ band) × IsShaped width height band
unfolding band_head
head_ok width height bytes band e =
    let first = and_then_ok (check ClearLengths _) _ band e in
    let second = and_then_ok (check BandShape (is_shaped width height (band_of bytes))) _ band first.2 in
    let same : band_of bytes ≡ band = let f = second.2 in cc in
    (same, subst (IsShaped width height) same (shaped_from width height (band_of bytes) (check_ok BandShape (is_shaped width height (band_of bytes)) second.1)))

band_ok : (width height : ℕ) (old new : Drawing) (bytes rest : List ℕ) → one_band width height old bytes ≡ Ok (new, rest)
    → (band_head width height bytes ≡ Ok (band_of bytes)) × IsShaped width height (band_of bytes)
unfolding one_band
band_ok width height old new bytes rest e =
    let s = and_then_ok (here old (band_head width height bytes)) _ (new, rest) e in
    let found = here_ok old (band_head width height bytes) s.0 s.1 in
    let h = head_ok width height bytes s.0 found in
    (found ∙ ap (λ z. Ok z) (sym h.0), subst (IsShaped width height) (sym h.0) h.1)

pub band_shows : BandShows
band_shows width height old new bytes rest colours flags e =
    let b = band_ok width height old new bytes rest e in
    let band = band_of bytes in
    let high : height_of band ≡ band.bottom + 1 - band.top = omega (arith, b.1.rows) in
    let room = mul-le-mul_left width (let f : band.top + height_of band ≤ height = omega (arith, b.1.rows, b.1.above) in f) in
    let a = columns_show width band (band.right + 1 - band.left) band.left old new (drop HEAD bytes) rest (omega (arith, b.1.sides, b.1.inside))
    (omega (arith, room, colours)) (omega (arith, room, flags)) (sym (band_at width height old bytes band b.0) ∙ e) in (
      a.these,
      a.many,
      subst (λ z. ReadsColumns old.rings z band.background (drop HEAD bytes) a.these new.rings rest) high a.read,
      subst (λ z. Shows width band.left band.top (band.right + 1 - band.left) z (by_columns a.these) old new) high a.shows,
    )
