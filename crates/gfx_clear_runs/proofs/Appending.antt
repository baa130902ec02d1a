-- What is appended for a part, element by element.
use Rattle.std.proofs.Common.{◌≡◌, ◌≢◌, ℕ, ◌+◌, ◌<◌, ◌≤◌, Bool, true, false, List, [], ◌∷◌, ◌++◌, length, drop, take, replicate, inl, inr, ◌-◌, eq-eqb, ne_eqb, Option, Some, None, Result, Ok, Err, refl, sym, ap, ◌∙◌, subst, arith, append_assoc}
use Rattle.std.proofs.lemmas.List.{append-nil, replicate-append-replicate, take-replicate}
use Rattle.std.proofs.lemmas.Bool.{cases_eq}
use Rattle.std.specs.Prelude.{◌==◌, unwrap_or, OnErr}
use Rattle.gfx_base.specs.declared.pixel.Rgb.{Rgb}
use Rattle.gfx_base.specs.declared.answer.Cause.{Cause}
use Rattle.gfx_base.specs.declared.answer.Cause.TheVariants.{Refused, Memory}
use Rattle.gfx_base.specs.declared.refusal.Refusal.{Refusal}
use Rattle.gfx_base.specs.declared.refusal.Refusal.TheVariants.{RunTotal}
use Rattle.gfx_clear_runs.specs.Elements.{Element, pixels_in, area_in}
use Rattle.gfx_clear_runs.specs.Reading.{Part, ended, refused, behind, part_of, pixels_of, total_of, covering}
use Rattle.gfx_clear_runs.specs.Inner.{reason_of}
use Rattle.gfx_clear_runs.specs.Outcome.{Appends, IsBegun}
use Rattle.gfx_clear_runs.proofs.Parts.{part_step}

-- nothing yet
pub begun_none : (due old : List Rgb) → IsBegun due old old
begun_none due old = ([], due, refl, sym (append-nil old))

pub begun_front : (front due old new : List Rgb) → IsBegun front old new → IsBegun (front ++ due) old new
begun_front front due old new (sent, rest, e, f) = (sent, rest ++ due, ap (λ z. z ++ due) e ∙ append_assoc sent rest due, f)

begun_behind : (front due old new : List Rgb) → IsBegun due (old ++ front) new → IsBegun (front ++ due) old new
begun_behind front due old new (sent, rest, e, f) = (front ++ sent, rest, ap (λ z. front ++ z) e ∙ sym (append_assoc front sent rest), f ∙ append_assoc old front sent)

pub covering_whole : (area : ℕ) (elements : List Element) → total_of elements ≡ area → covering area elements None ≡ Ok (pixels_of elements)
unfolding covering
covering_whole area elements e = rw (eq-eqb (total_of elements) area e) refl

pub covering_other : (area : ℕ) (elements : List Element) → total_of elements ≢ area → covering area elements None ≡ Err RunTotal
unfolding covering
covering_other area elements e = rw (ne_eqb (total_of elements) area e) refl

pub covering_refused : (area : ℕ) (elements : List Element) (reason : Refusal) → covering area elements (Some reason) ≡ Err reason
unfolding covering
covering_refused area elements reason = refl

pub total_more : (element : Element) (elements : List Element) → total_of (element ∷ elements) ≡ area_in element + total_of elements
unfolding total_of
total_more element elements = refl

pub covered_ok : (element : Element) (less left : ℕ) (elements : List Element) (refusal : Option Refusal) → area_in element + less ≡ left
    → covering less elements refusal ≡ Ok (pixels_of elements) → covering left (element ∷ elements) refusal ≡ Ok (pixels_of (element ∷ elements))
covered_ok element less left elements (Some reason) e ok =
    let err : covering less elements (Some reason) ≡ Err reason = covering_refused less elements reason in absurd cc
covered_ok element less left elements None e ok =
    elim (cases_eq (total_of elements) less) as (λ _. covering left (element ∷ elements) None ≡ Ok (pixels_of (element ∷ elements))) [
      | inl same ↦ covering_whole left (element ∷ elements) (omega (arith, total_more element elements))
      | inr other ↦ let err : covering less elements None ≡ Err RunTotal = covering_other less elements other in absurd cc
    ]

pub covered_err : (element : Element) (less left : ℕ) (elements : List Element) (refusal : Option Refusal) (reason : Refusal) → area_in element + less ≡ left
    → covering less elements refusal ≡ Err reason → covering left (element ∷ elements) refusal ≡ Err reason
covered_err element less left elements (Some first) reason e err =
    let due : covering less elements (Some first) ≡ Err first = covering_refused less elements first in
    let same : first ≡ reason = cc in
    covering_refused left (element ∷ elements) first ∙ ap (λ z. Err z) same
covered_err element less left elements None reason e err =
    elim (cases_eq (total_of elements) less) as (λ _. covering left (element ∷ elements) None ≡ Err reason) [
      | inl same ↦ let ok : covering less elements None ≡ Ok (pixels_of elements) = covering_whole less elements same in absurd cc
      | inr other ↦
          let due : covering less elements None ≡ Err RunTotal = covering_other less elements other in
          let same : RunTotal ≡ reason = cc in
          covering_other left (element ∷ elements) (λ f. other (omega (arith, total_more element elements))) ∙ ap (λ z. Err z) same
    ]

-- an element that fits was appended, and the rest after it
pub appends_behind : (result : Result (Unit {0}) (Cause Refusal)) (element : Element) (part : Part) (less left : ℕ) (old new : List Rgb)
    → area_in element + less ≡ left → Appends result less part (old ++ pixels_in element) new → Appends result left (behind element part) old new
unfolding pixels_of
appends_behind (Ok x) element part less left old new e (ok, same) =
    (covered_ok element less left part.elements part.refusal e ok, same ∙ append_assoc old (pixels_in element) (pixels_of part.elements))
appends_behind (Err Memory) element part less left old new e some = begun_behind (pixels_in element) (pixels_of part.elements) old new some
appends_behind (Err (Refused reason)) element part less left old new e (err, some) =
    (covered_err element less left part.elements part.refusal reason e err, begun_behind (pixels_in element) (pixels_of part.elements) old new some)

-- what is appended for the rest is appended for the whole
pub record Onward (area : ℕ) (part : Part) (old : List Rgb) (left : ℕ) (rest : Part) (now : List Rgb) : Type 0 where
  pub on : (result : Result (Unit {0}) (Cause Refusal)) (new : List Rgb) → Appends result left rest now new → Appends result area part old new

pub onward_first : (area : ℕ) (part : Part) (old : List Rgb) → Onward area part old area part old
onward_first area part old = record { on = λ result new done. done }

pub onward_more : (area : ℕ) (part : Part) (old : List Rgb) (left : ℕ) (rest : Part) (now : List Rgb) (element : Element) (behind_it : Part) (less : ℕ) (later : List Rgb)
    → Onward area part old left rest now → rest ≡ behind element behind_it → area_in element + less ≡ left → later ≡ now ++ pixels_in element
    → Onward area part old less behind_it later
onward_more area part old left rest now element behind_it less later w e f g = record {
  on = λ result new done.
      w.on result new (subst (λ z. Appends result left z now new) (sym e)
      (appends_behind result element behind_it less left now new f (subst (λ z. Appends result less behind_it z new) g done)));
}

-- the ends
pub ends_refused : (left : ℕ) (part : Part) (reason : Refusal) (now : List Rgb) → part ≡ refused reason → Appends (Err (Refused reason)) left part now now
unfolding covering
ends_refused left part reason now e = rw e (refl, begun_none (pixels_of []) now)

pub over_all : (left : ℕ) (element : Element) (elements : List Element) (refusal : Option Refusal) → left < area_in element
    → covering left (element ∷ elements) refusal ≡ Err (unwrap_or refusal RunTotal)
over_all left element elements (Some reason) over = covering_refused left (element ∷ elements) reason
over_all left element elements None over = covering_other left (element ∷ elements) (λ f. omega (arith, total_more element elements))

pub ends_over : (left : ℕ) (part : Part) (element : Element) (behind_it : Part) (now : List Rgb) (reason : Refusal)
    → part ≡ behind element behind_it → left < area_in element → reason ≡ reason_of behind_it → Appends (Err (Refused reason)) left part now now
ends_over left part element behind_it now reason e over f =
    rw (e, f) (over_all left element behind_it.elements behind_it.refusal over, begun_none (pixels_of (element ∷ behind_it.elements)) now)

pub ends_memory : (left : ℕ) (part : Part) (element : Element) (behind_it : Part) (now new : List Rgb)
    → part ≡ behind element behind_it → IsBegun (pixels_in element) now new → Appends (Err Memory) left part now new
unfolding pixels_of
ends_memory left part element behind_it now new e some = rw e (begun_front (pixels_in element) (pixels_of behind_it.elements) now new some)

pub total_none : total_of [] ≡ 0
unfolding total_of
total_none = refl

pub pixels_none : pixels_of [] ≡ []
unfolding pixels_of
pixels_none = refl

pub ends_short : (left : ℕ) (part : Part) (now : List Rgb) → part ≡ ended → 0 < left → Appends (Err (Refused RunTotal)) left part now now
ends_short left part now e some = rw e (covering_other left [] (λ f. omega (arith, total_none)), begun_none (pixels_of []) now)

pub ends_whole : (left : ℕ) (part : Part) (now : List Rgb) → part ≡ ended → left ≡ 0 → Appends (Ok tt) left part now now
ends_whole left part now e none =
    rw e (covering_whole left [] (total_none ∙ sym none), rw pixels_none (sym (append-nil now)))

-- the copies so far
pub copies_begun : (count done : ℕ) (colour : Rgb) (old new : List Rgb) → done ≤ count → new ≡ old ++ replicate done colour → IsBegun (replicate count colour) old new
copies_begun count done colour old new within e = (
  replicate done colour,
  replicate (count - done) colour,
  sym (replicate-append-replicate done (count - done) colour ∙ ap (λ n. replicate n colour) (omega arith)),
  e,
)

pub copies_more : (count left size : ℕ) (colour : Rgb) (old now new block : List Rgb) → left ≤ count → size ≤ left → size ≤ 64 → block ≡ replicate 64 colour
    → now ≡ old ++ replicate (count - left) colour → new ≡ now ++ take size block → new ≡ old ++ replicate (count - (left - size)) colour
copies_more count left size colour old now new block within less fits b e f =
    f ∙ (ap (λ z. now ++ take size z) b
    ∙ (ap (λ z. now ++ z) (take-replicate size 64 colour fits)
    ∙ (ap (λ z. z ++ replicate size colour) e
    ∙ (append_assoc old (replicate (count - left) colour) (replicate size colour)
    ∙ ap (λ z. old ++ z) (replicate-append-replicate (count - left) size colour ∙ ap (λ n. replicate n colour) (omega arith))))))

-- what holds holds of an error too
pub on_err : {A E : Type 0} (result : Result A E) (P : Type 0) → P → OnErr result P
on_err (Ok x) P p = tt
on_err (Err e) P p = p

-- the reason behind an element, as far as the walk has come
pub reason_step : (part : Part) (element : Element) (behind_it : Part) → part ≡ behind element behind_it → reason_of part ≡ reason_of behind_it
reason_step part element behind_it e = rw e refl

-- an element at the front of what is left
pub takes : (at : List ℕ → Result Element Refusal) (bytes after : List ℕ) (element : Element) → at bytes ≡ Ok element → 0 < length bytes → 0 < element.size
    → after ≡ drop element.size bytes → part_of at bytes ≡ behind element (part_of at after)
takes at bytes after element e some more f = rw f (part_step at bytes element e some more)

-- what the test of an empty slice says
pub is_none : (n : ℕ) (empty : Bool) → empty ≡ (n == 0) → empty ≡ true → n ≡ 0
is_none n empty e f =
    elim (cases_eq n 0) as (λ _. n ≡ 0) [ inl same ↦ same | inr other ↦ let g : (n == 0) ≡ false = ne_eqb n 0 other in absurd cc ]

pub is_some : (n : ℕ) (empty : Bool) → empty ≡ (n == 0) → empty ≡ false → 0 < n
is_some n empty e f =
    elim (cases_eq n 0) as (λ _. 0 < n) [ inl same ↦ let g : (n == 0) ≡ true = eq-eqb n 0 same in absurd cc | inr other ↦ omega arith ]
