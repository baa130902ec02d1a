-- What the residual layer and the subcodecs draw.
use Rattle.std.proofs.Common.{◌≡◌, ℕ, ◌*◌, ◌<◌, ◌==◌, Bool, true, false, cond, List, [], ◌∷◌, length, Option, Some, None, Result, Ok, Err, refl, sym, ap, ◌∙◌, arith, eqb-true}
use Rattle.gfx_base.specs.declared.answer.Cause.{Cause}
use Rattle.gfx_base.specs.declared.answer.Cause.TheVariants.{Refused, Memory}
use Rattle.gfx_base.specs.declared.pixel.Rgb.{Rgb}
use Rattle.gfx_base.specs.declared.refusal.Refusal.{Refusal}
use Rattle.gfx_base.specs.declared.refusal.Refusal.TheVariants.{RunTotal, PayloadLength, SubcodecRefused}
use Rattle.gfx_base.specs.Results.{and_then, check}
use Rattle.gfx_base.proofs.ResultLemmas.{and_then_at, and_then_refused, and_then_ok}
use Rattle.gfx_clear_runs.specs.Elements.{Element}
use Rattle.gfx_clear_runs.specs.Reading.{Part, covering, covered, pixels_of, total_of, runs_of, rlex_of}
use Rattle.gfx_clear_runs.proofs.Writings.{total_pixels}
use Rattle.gfx_clear_bands.specs.Bands.{Drawing}
use Rattle.gfx_clear_bands.specs.Bars.{colours}
use Rattle.gfx_clear_bands.proofs.Making.{length-colours}
use Rattle.gfx_clear.specs.declared.area.TheConstants.{RAW, RLEX}
use Rattle.gfx_clear.specs.Subcodecs.{raw_colours, coded}
use Rattle.gfx_clear.specs.Parts.{covered_by, residual}

-- a fault is the refusal that is due, or want of memory
abbrev pub Refuses : {Y : Type 0} → Cause Refusal → Result Y Refusal → Type 0
Refuses (Refused refusal) due = due ≡ Err refusal
Refuses Memory due = Unit {0}

-- a fault in the first step is one of both
pub refuses_first : {A B : Type 0} (fault : Cause Refusal) (first : Result A Refusal) (next : A → Result B Refusal) → Refuses fault first → Refuses fault (and_then first next)
refuses_first Memory first next g = tt
refuses_first (Refused refusal) first next g = and_then_refused first refusal next g

-- a fault in the second, once the first is done
pub refuses_next : {A B : Type 0} (fault : Cause Refusal) (first : Result A Refusal) (a : A) (next : A → Result B Refusal) → first ≡ Ok a → Refuses fault (next a) → Refuses fault (and_then first next)
refuses_next Memory first a next e g = tt
refuses_next (Refused refusal) first a next e g = and_then_at first a next e ∙ g

covering-length : (area : ℕ) (elements : List Element) (reason : Option Refusal) (pixels : List Rgb) → covering area elements reason ≡ Ok pixels → length pixels ≡ area
unfolding covering
covering-length area elements (Some reason) pixels e = absurd cc
covering-length area elements None pixels e = by (total_of elements == area) refl e
  where
    by : (b : Bool) → (total_of elements == area) ≡ b → cond b (Ok (pixels_of elements)) (Err RunTotal) ≡ Ok pixels → length pixels ≡ area
    by true is e = let same : pixels_of elements ≡ pixels = cc in ap length (sym same) ∙ sym (total_pixels elements) ∙ eqb-true (total_of elements) area is
    by false is e = absurd cc

-- what covers an area has as many pixels
pub length-covered : (area : ℕ) (part : Part) (pixels : List Rgb) → covered area part ≡ Ok pixels → length pixels ≡ area
length-covered area part pixels e = covering-length area part.elements part.refusal pixels e

pub residual_none : (area : ℕ) (old : Drawing) (bytes : List ℕ) → length bytes ≡ 0 → residual area old bytes ≡ Ok old
unfolding residual
residual_none area old [] none = refl
residual_none area old (byte ∷ bytes) none = absurd (omega arith)

pub residual_some : (area : ℕ) (old : Drawing) (bytes : List ℕ) → 0 < length bytes → residual area old bytes ≡ and_then (covered area (runs_of bytes)) (λ pixels. Ok (covered_by pixels old))
unfolding residual
residual_some area old [] some = absurd (omega arith)
residual_some area old (byte ∷ bytes) some = refl

pub residual_drawn : (area : ℕ) (old new : Drawing) (bytes : List ℕ) (pixels : List Rgb) → 0 < length bytes → covered area (runs_of bytes) ≡ Ok pixels → new ≡ covered_by pixels old
    → residual area old bytes ≡ Ok new
residual_drawn area old new bytes pixels some e same = residual_some area old bytes some ∙ and_then_at (covered area (runs_of bytes)) pixels _ e ∙ ap Ok (sym same)

raw-length : (count : ℕ) (bytes : List ℕ) (pixels : List Rgb) → raw_colours count bytes ≡ Ok pixels → length pixels ≡ count
unfolding raw_colours
raw-length count bytes pixels e =
    let colours_are = (and_then_ok (check PayloadLength (length bytes == 3 * count)) _ pixels e).2 in
    let same : colours count bytes ≡ pixels = cc in
    ap length (sym same) ∙ length-colours count bytes

-- a subcodec gives as many pixels as its rectangle has
pub length-coded : (codec count : ℕ) (bytes : List ℕ) (pixels : List Rgb) → coded codec count bytes ≡ Ok pixels → length pixels ≡ count
length-coded codec count bytes pixels e = by (codec == RAW) (codec == RLEX) e
  where
    by : (a b : Bool) → cond a (raw_colours count bytes) (cond b (covered count (rlex_of bytes)) (Err SubcodecRefused)) ≡ Ok pixels → length pixels ≡ count
    by true b e = raw-length count bytes pixels e
    by false true e = length-covered count (rlex_of bytes) pixels e
    by false false e = absurd cc
