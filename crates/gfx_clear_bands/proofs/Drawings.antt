-- What one more pixel, column or band does to what is read.
use Rattle.std.proofs.Common.{◌≡◌, ◌==◌, ℕ, zero, suc, ◌+◌, ◌-◌, ◌*◌, ◌<◌, ◌≤◌, Bool, true, false, ◌&&◌, nat_lt, nat_le, List, [], ◌∷◌, length, drop, set, get_or, Result, Ok, Err, refl, sym, ap, ◌∙◌, arith, add-one, drop-cons, length-drop}
use Rattle.std.proofs.lemmas.Bool.Decides.{nat_tests}
use Rattle.std.proofs.Math.Nat.{mul-le-mul_left}
use Rattle.gfx_base.specs.declared.pixel.Rgb.{Rgb}
use Rattle.gfx_base.specs.declared.refusal.Refusal.{Refusal}
use Rattle.gfx_base.specs.Results.{and_then}
use Rattle.gfx_base.proofs.ResultLemmas.{and_then_at, and_then_refused}
use Rattle.gfx_clear_store.specs.Rings.{Rings}
use Rattle.gfx_clear_store.specs.declared.store.TheConstants.{MOST_BAR}
use Rattle.gfx_clear_bands.specs.Bars.{Bar, bar}
use Rattle.gfx_clear_bands.specs.Bands.{Drawing, drawing, Stop, stopped, here, drawn_down, is_shaped, band_head, height_of, draws_bar, columns, one_band, bands_within}
use Rattle.gfx_clear_bands.specs.Inner.{IsShaped}
use Rattle.gfx_clear_bands.specs.declared.band.Band.{Band}
use Rattle.gfx_clear_bands.specs.declared.band.TheConstants.{HEAD}

-- one pixel more
pub draw_step : (width at i : ℕ) (pixels : List Rgb) (out : List Rgb) (drawn : List Bool) (held : Rings) (d : Rgb) → i < length pixels
    → drawn_down width (at + width) (drop (i + 1) pixels) (drawing (set out at (get_or pixels i d)) (set drawn at true) held) ≡ drawn_down width at (drop i pixels) (drawing out drawn held)
unfolding drawn_down
draw_step width at i pixels out drawn held d within =
    ap (λ z. drawn_down width (at + width) (drop z pixels) (drawing (set out at (get_or pixels i d)) (set drawn at true) held)) (add-one i)
    ∙ sym (ap (λ z. drawn_down width at z (drawing out drawn held)) (drop-cons pixels i d within))

draw_none : (width at : ℕ) (pixels : List Rgb) (old : Drawing) → length pixels ≡ 0 → drawn_down width at pixels old ≡ old
unfolding drawn_down
draw_none width at [] old e = refl
draw_none width at (c ∷ cs) old e = absurd (omega arith)

-- no pixel more
pub draw_end : (width at i : ℕ) (pixels : List Rgb) (old : Drawing) → length pixels ≤ i → drawn_down width at (drop i pixels) old ≡ old
draw_end width at i pixels old past = draw_none width at (drop i pixels) old (omega (arith, length-drop i pixels))

minus_step : (stop x : ℕ) → x < stop → stop - x ≡ suc (stop - (x + 1))
minus_step stop x less = omega arith

pub columns-suc : (width : ℕ) (band : Band) (n x : ℕ) (old : Drawing) (bytes : List ℕ)
    → columns width band (suc n) x old bytes ≡ and_then (here old (bar old.rings (height_of band) band.background bytes)) (λ read. columns width band n (x + 1) (draws_bar width band x old read).0 (draws_bar width band x old read).1)
unfolding columns
columns-suc width band n x old bytes = refl

-- one column more
pub columns_step : (width : ℕ) (band : Band) (stop x : ℕ) (old new : Drawing) (bytes rest : List ℕ) (read : Bar) → x < stop
    → bar old.rings (height_of band) band.background bytes ≡ Ok read → (new, rest) ≡ draws_bar width band x old read
    → columns width band (stop - (x + 1)) (x + 1) new rest ≡ columns width band (stop - x) x old bytes
columns_step width band stop x old new bytes rest read less e f =
    ap (λ z. columns width band (stop - (x + 1)) (x + 1) z.0 z.1) f
    ∙ sym (ap (λ z. columns width band z x old bytes) (minus_step stop x less) ∙ columns-suc width band (stop - (x + 1)) x old bytes
    ∙ and_then_at (here old (bar old.rings (height_of band) band.background bytes)) read _ (ap (here old) e))

-- a column that is refused
pub columns_stop : (width : ℕ) (band : Band) (stop x : ℕ) (old new : Drawing) (bytes : List ℕ) (refusal : Refusal) → x < stop
    → bar old.rings (height_of band) band.background bytes ≡ Err refusal → new ≡ old
    → columns width band (stop - x) x old bytes ≡ Err (stopped new refusal)
columns_stop width band stop x old new bytes refusal less e same =
    ap (λ z. columns width band z x old bytes) (minus_step stop x less) ∙ columns-suc width band (stop - (x + 1)) x old bytes
    ∙ and_then_refused (here old (bar old.rings (height_of band) band.background bytes)) (stopped old refusal) _ (ap (here old) e)
    ∙ ap (λ z. Err (stopped z refusal)) (sym same)

-- no column more
pub columns_none : (width : ℕ) (band : Band) (stop x : ℕ) (old : Drawing) (bytes : List ℕ) → stop ≤ x → columns width band (stop - x) x old bytes ≡ Ok (old, bytes)
unfolding columns
columns_none width band stop x old bytes past = let none : stop - x ≡ 0 = omega arith in ap (λ z. columns width band z x old bytes) none

pub shaped_from : (width height : ℕ) (band : Band) → is_shaped width height band ≡ true → IsShaped width height band
shaped_from width height band e =
    by (nat_le band.left band.right) (nat_lt band.right width) (nat_le band.top band.bottom) (nat_lt band.bottom height) (nat_lt (band.bottom - band.top) MOST_BAR) refl refl refl refl refl e
  where
    by : (a b c d f : Bool) → nat_le band.left band.right ≡ a → nat_lt band.right width ≡ b → nat_le band.top band.bottom ≡ c → nat_lt band.bottom height ≡ d → nat_lt (band.bottom - band.top) MOST_BAR ≡ f
        → (a && b && c && d && f) ≡ true → IsShaped width height band
    by true true true true true a b c d f all = record { sides = grind (arith, nat_tests); inside = grind (arith, nat_tests); rows = grind (arith, nat_tests); above = grind (arith, nat_tests); low = grind (arith, nat_tests) }
    by false b' c' d' f' a b c d f all = let clash : false ≡ true = all in absurd cc
    by true false c' d' f' a b c d f all = let clash : false ≡ true = all in absurd cc
    by true true false d' f' a b c d f all = let clash : false ≡ true = all in absurd cc
    by true true true false f' a b c d f all = let clash : false ≡ true = all in absurd cc
    by true true true true false a b c d f all = let clash : false ≡ true = all in absurd cc

pub band_at : (width height : ℕ) (old : Drawing) (bytes : List ℕ) (band : Band) → band_head width height bytes ≡ Ok band
    → one_band width height old bytes ≡ columns width band (band.right + 1 - band.left) band.left old (drop HEAD bytes)
unfolding one_band
band_at width height old bytes band e = and_then_at (here old (band_head width height bytes)) band _ (ap (here old) e)

pub band_refused : (width height : ℕ) (old : Drawing) (bytes : List ℕ) (refusal : Refusal) → band_head width height bytes ≡ Err refusal
    → one_band width height old bytes ≡ Err (stopped old refusal)
unfolding one_band
band_refused width height old bytes refusal e = and_then_refused (here old (band_head width height bytes)) (stopped old refusal) _ (ap (here old) e)

-- what is left to be read gives what is due
pub record Due (width height : ℕ) (old : Drawing) (bytes : List ℕ) (due : Result Drawing Stop) : Type 0 where
  pub most : ℕ
  pub enough : length bytes ≤ most
  pub same : bands_within most width height old bytes ≡ due

pub within-suc : (most width height : ℕ) (old : Drawing) (bytes : List ℕ) → 0 < length bytes
    → bands_within (suc most) width height old bytes ≡ and_then (one_band width height old bytes) (λ next. bands_within most width height next.0 next.1)
unfolding bands_within
within-suc most width height old [] some = absurd (omega arith)
within-suc most width height old (byte ∷ bytes) some = refl

pub due_step : (width height : ℕ) (old new : Drawing) (bytes rest : List ℕ) (due : Result Drawing Stop) → 0 < length bytes → length rest < length bytes
    → one_band width height old bytes ≡ Ok (new, rest) → Due width height old bytes due → Due width height new rest due
due_step width height old new bytes rest due some shorter e d = by d.most d.enough d.same
  where
    by : (most : ℕ) → length bytes ≤ most → bands_within most width height old bytes ≡ due → Due width height new rest due
    by zero enough same = absurd (omega arith)
    by (suc most) enough same = record {
      most = most;
      enough = omega arith;
      same = sym (within-suc most width height old bytes some ∙ and_then_at (one_band width height old bytes) (new, rest) _ e) ∙ same;
    }

pub due_stop : (width height : ℕ) (old new : Drawing) (bytes : List ℕ) (refusal : Refusal) (due : Result Drawing Stop) → 0 < length bytes
    → one_band width height old bytes ≡ Err (stopped new refusal) → Due width height old bytes due → due ≡ Err (stopped new refusal)
due_stop width height old new bytes refusal due some e d = by d.most d.enough d.same
  where
    by : (most : ℕ) → length bytes ≤ most → bands_within most width height old bytes ≡ due → due ≡ Err (stopped new refusal)
    by zero enough same = absurd (omega arith)
    by (suc most) enough same = sym same ∙ within-suc most width height old bytes some ∙ and_then_refused (one_band width height old bytes) (stopped new refusal) _ e

pub within_none : (most width height : ℕ) (old : Drawing) (bytes : List ℕ) → length bytes ≡ 0 → bands_within most width height old bytes ≡ Ok old
unfolding bands_within
within_none most width height old [] e = refl
within_none most width height old (b ∷ bs) e = absurd (omega arith)

pub due_end : (width height : ℕ) (old : Drawing) (bytes : List ℕ) (due : Result Drawing Stop) → length bytes ≡ 0 → Due width height old bytes due → due ≡ Ok old
due_end width height old bytes due none d = sym d.same ∙ within_none d.most width height old bytes none

-- each row of a column is in the picture
pub down_within : (top bottom width x k len : ℕ) → k < bottom - top + 1 → top ≤ bottom → x < width → width * (bottom + 1) ≤ len → top * width + x + width * k < len
down_within top bottom width x k len row order column room =
    let most : top + k ≤ bottom = omega arith in
    let below = mul-le-mul_left width most in
    omega (arith, below)

pub none_left : (n : ℕ) (empty : Bool) → empty ≡ (n == 0) → empty ≡ true → n ≡ 0
none_left n empty e is = let t : (n == 0) ≡ true = sym e ∙ is in grind (arith, nat_tests)

pub some_left : (n : ℕ) (empty : Bool) → empty ≡ (n == 0) → empty ≡ false → 0 < n
some_left n empty e is = let t : (n == 0) ≡ false = sym e ∙ is in grind (arith, nat_tests)
