-- What is painted for a part, element by element.
use Rattle.std.proofs.Common.{◌≡◌, ℕ, zero, suc, ◌+◌, ◌-◌, ◌<◌, ◌≤◌, set, get_or, length-take, length-drop, List, [], ◌∷◌, ◌++◌, length, map, drop, take, replicate, Result, Ok, Err, refl, sym, ap, ◌∙◌, subst, arith, append_assoc, length-append}
use Rattle.std.proofs.lemmas.List.{append-nil, map-append, take_all, take_at, take_more, take_more_set, replicate-append-replicate, length-replicate}
use Rattle.gfx_base.specs.declared.pixel.Pixel.{Pixel}
use Rattle.gfx_base.specs.declared.pixel.Rgb.{Rgb}
use Rattle.gfx_base.specs.declared.refusal.Refusal.{Refusal}
use Rattle.gfx_base.specs.declared.refusal.Refusal.TheVariants.{RunTotal}
use Rattle.gfx_clear_runs.specs.Elements.{Element, pixels_in, area_in}
use Rattle.gfx_clear_runs.specs.Reading.{Part, ended, refused, behind, pixels_of, covering, covered}
use Rattle.gfx_clear_runs.specs.Inner.{reason_of}
use Rattle.gfx_base.specs.Colour.{opaque}
use Rattle.gfx_clear_runs.specs.Outcome.{Paints}
use Rattle.gfx_clear_runs.proofs.Appending.{covered_ok, covered_err, over_all, covering_other, covering_whole, total_none}

-- what was painted behind so many pixels that were painted before
abbrev pub Goes : Result (Unit {0}) Refusal → ℕ → Part → List Pixel → List Pixel → Type 0
Goes (Ok x) left part done new = (covered left part ≡ Ok (pixels_of part.elements)) × (new ≡ done ++ map opaque (pixels_of part.elements))
Goes (Err reason) left part done new = covered left part ≡ Err reason

goes_behind : (result : Result (Unit {0}) Refusal) (element : Element) (part : Part) (less left : ℕ) (done new : List Pixel)
    → area_in element + less ≡ left → Goes result less part (done ++ map opaque (pixels_in element)) new → Goes result left (behind element part) done new
unfolding pixels_of
goes_behind (Ok x) element part less left done new e (ok, same) = (
  covered_ok element less left part.elements part.refusal e ok,
  same ∙ append_assoc done (map opaque (pixels_in element)) (map opaque (pixels_of part.elements)) ∙ ap (λ z. done ++ z) (sym (map-append opaque (pixels_in element) (pixels_of part.elements))),
)
goes_behind (Err reason) element part less left done new e err = covered_err element less left part.elements part.refusal reason e err

-- what is painted for the rest is painted for the whole
pub record Paving (area : ℕ) (part : Part) (left : ℕ) (rest : Part) (done : List Pixel) : Type 0 where
  pub on : (result : Result (Unit {0}) Refusal) (new : List Pixel) → Goes result left rest done new → Paints result area part new

pub paving_first : (area : ℕ) (part : Part) (left : ℕ) (done : List Pixel) → left ≡ area → done ≡ [] → Paving area part left part done
paving_first area part left done e f = record { on = λ result new goes. by result new (subst (λ z. Goes result z part done new) e goes) }
  where
    by : (result : Result (Unit {0}) Refusal) (new : List Pixel) → Goes result area part done new → Paints result area part new
    by (Ok x) new goes = (goes.0, goes.1 ∙ ap (λ z. z ++ map opaque (pixels_of part.elements)) f)
    by (Err reason) new goes = goes

pub paving_more : (area : ℕ) (part : Part) (left : ℕ) (rest : Part) (done : List Pixel) (element : Element) (behind_it : Part) (less : ℕ) (later : List Pixel)
    → Paving area part left rest done → rest ≡ behind element behind_it → area_in element + less ≡ left → later ≡ done ++ map opaque (pixels_in element)
    → Paving area part less behind_it later
paving_more area part left rest done element behind_it less later w e f g = record {
  on = λ result new goes.
      w.on result new (subst (λ z. Goes result left z done new) (sym e)
      (goes_behind result element behind_it less left done new f (subst (λ z. Goes result less behind_it z new) g goes)));
}

-- the ends
pub paving_refused : (left : ℕ) (part : Part) (reason : Refusal) → part ≡ refused reason → covered left part ≡ Err reason
unfolding covering
paving_refused left part reason e = rw e refl

pub paving_over : (left : ℕ) (part : Part) (element : Element) (behind_it : Part) (reason : Refusal)
    → part ≡ behind element behind_it → left < area_in element → reason ≡ reason_of behind_it → covered left part ≡ Err reason
paving_over left part element behind_it reason e over f = rw (e, f) (over_all left element behind_it.elements behind_it.refusal over)

pub paving_short : (left : ℕ) (part : Part) → part ≡ ended → 0 < left → covered left part ≡ Err RunTotal
paving_short left part e some = rw e (covering_other left [] (λ f. omega (arith, total_none)))

pub paving_whole : (left : ℕ) (part : Part) (done new : List Pixel) → part ≡ ended → left ≡ 0 → new ≡ done → Goes (Ok tt) left part done new
unfolding pixels_of
paving_whole left part done new e none same = rw e (covering_whole left [] (total_none ∙ sym none), same ∙ sym (append-nil done))

-- the front of a list in which a block of one pixel was put, up to a place in the block
pub block_front : (at n m size : ℕ) (pixel : Pixel) (old new more : List Pixel) → at + n ≤ length old → m ≤ n → size ≡ n → new ≡ replicate (length (take size (drop at old))) pixel
    → take (at + m) (take at old ++ (new ++ more)) ≡ take at old ++ replicate m pixel
block_front at n m size pixel old new more within less sized filled =
    let e : new ≡ replicate n pixel = filled ∙ ap (λ k. replicate k pixel) (let w : length (take size (drop at old)) ≡ n = omega (arith, length-take size (drop at old), length-drop at old) in w) in
    let front = take at old ++ replicate m pixel in
    let behind = replicate (n - m) pixel ++ more in
    let both : new ≡ replicate m pixel ++ replicate (n - m) pixel = e ∙ ap (λ k. replicate k pixel) (let w : n ≡ m + (n - m) = omega arith in w) ∙ sym (replicate-append-replicate m (n - m) pixel) in
    let long : length front ≡ at + m = omega (arith, length-append (take at old) (replicate m pixel), length-take at old, length-replicate m pixel) in
    ap (λ z. take (at + m) (take at old ++ (z ++ more))) both
    ∙ ap (λ z. take (at + m) (take at old ++ z)) (append_assoc (replicate m pixel) (replicate (n - m) pixel) more)
    ∙ ap (take (at + m)) (sym (append_assoc (take at old) (replicate m pixel) behind))
    ∙ take_at front behind (at + m) long

-- one colour more
pub each_more : (at i : ℕ) (colours : List Rgb) (colour : Rgb) (pixel : Pixel) (old now new : List Pixel) → at + i < length now → i < length colours → pixel ≡ opaque (get_or colours i colour)
    → new ≡ set now (at + i) pixel → take (at + i) now ≡ take at old ++ map opaque (take i colours) → take (at + (i + 1)) new ≡ take at old ++ map opaque (take (i + 1) colours)
each_more at i colours colour pixel old now new within less e f done =
    ap (λ n. take n new) (let w : at + (i + 1) ≡ at + i + 1 = omega arith in w)
    ∙ ap (take (at + i + 1)) f
    ∙ take_more_set now (at + i) pixel within
    ∙ (λ k. done k ++ e k ∷ [])
    ∙ append_assoc (take at old) (map opaque (take i colours)) (opaque (get_or colours i colour) ∷ [])
    ∙ ap (λ z. take at old ++ z) (sym (map-append opaque (take i colours) (get_or colours i colour ∷ [])) ∙ ap (map opaque) (sym (take_more colours i colour less)))

-- none yet
pub each_none : (at i : ℕ) (colours : List Rgb) (old : List Pixel) → i ≡ 0 → take (at + i) old ≡ take at old ++ map opaque (take i colours)
each_none at i colours old e =
    ap (λ n. take (at + n) old) e ∙ ap (λ n. take n old) (let w : at + 0 ≡ at = omega arith in w) ∙ sym (append-nil (take at old)) ∙ ap (λ n. take at old ++ map opaque (take n colours)) (sym e)

-- all of them
pub each_all : (at i : ℕ) (colours : List Rgb) (old now : List Pixel) → length colours ≡ i → take (at + i) now ≡ take at old ++ map opaque (take i colours)
    → take (at + length colours) now ≡ take at old ++ map opaque colours
each_all at i colours old now e done = ap (λ n. take (at + n) now) e ∙ done ∙ ap (λ z. take at old ++ map opaque z) (take_all i colours (omega arith))

-- copies, and colours behind them
pub both_painted : (at count n : ℕ) (colour : Rgb) (pixel : Pixel) (more : List Rgb) (old mid new : List Pixel) → n ≡ length more → pixel ≡ opaque colour
    → take (at + count) mid ≡ take at old ++ replicate count pixel → take (at + count + n) new ≡ take (at + count) mid ++ map opaque more
    → take (at + (count + n)) new ≡ take at old ++ map opaque (replicate count colour ++ more)
both_painted at count n colour pixel more old mid new long same first second =
    ap (λ k. take k new) (let w : at + (count + n) ≡ at + count + n = omega arith in w)
    ∙ second
    ∙ ap (λ z. z ++ map opaque more) (first ∙ ap (λ z. take at old ++ z) (ap (replicate count) same ∙ sym (map-replicate count colour)))
    ∙ append_assoc (take at old) (map opaque (replicate count colour)) (map opaque more)
    ∙ ap (λ z. take at old ++ z) (sym (map-append opaque (replicate count colour) more))
  where
    map-replicate : (k : ℕ) (c : Rgb) → map opaque (replicate k c) ≡ replicate k (opaque c)
    map-replicate zero c = refl
    map-replicate (suc k) c = ap (λ z. opaque c ∷ z) (map-replicate k c)
