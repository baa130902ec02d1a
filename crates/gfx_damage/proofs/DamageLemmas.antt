-- What a message does to the rectangles of each surface.
use Rattle.std.proofs.Common.{◌≡◌, ◌∙◌, ℕ, ◌&&◌, ◌||◌, not, Bool, true, false, List, [], Option, Some, None, Result, Ok, Err, nat_eq, cond, if◌then◌else◌, refl, sym, ap}
use Rattle.std.proofs.lemmas.Bool.{eqb-true}
use Rattle.std.specs.Prelude.{IsOk, OnErr, OnOk}
use Rattle.std.specs.FinMap.{empty, from_entries, get, get-insert, insert}
use Rattle.std.specs.Map.{lookup}
use Rattle.std.specs.Cmp.{nat_cmp_total}
use Rattle.std.specs.Ordering.{nat_cmp}
use Rattle.gfx_base.specs.declared.geometry.Rect.{Rect}
use Rattle.gfx_base.proofs.MapLemmas.{eq_by_cmp-nat_cmp, get-entries_lookup, updated_map}
use Rattle.gfx_pdu.specs.declared.pdu.Pdu.{Pdu}
use Rattle.gfx_state.specs.State.{State}
use Rattle.gfx_state.specs.Written.{changes_all, own_rects, written}
use Rattle.gfx_damage.specs.Damage.{Damage, Marks, Notes, begun, ends_frame, marked, noted, rects_in, rects_on, undamaged}
use Rattle.gfx_damage.specs.Marks.{with_rects}

-- what a call that gave its value has done
pub was_ok : {A E P : Type 0} (r : Result A E) → IsOk r → OnOk r P → P
was_ok (Ok x) is p = p
was_ok (Err e) is p = absurd cc

-- what holds where a call failed
pub where_err : {A E P : Type 0} (r : Result A E) → P → OnErr r P
where_err (Ok x) p = tt
where_err (Err e) p = p

-- entries of which one alone was written: that of a surface, with what was put to its rectangles
pub put_to : (old new : List (ℕ × List Rect)) (one : ℕ × List Rect) (held made : List Rect) → held ≡ rects_in (lookup (nat_eq one.0) old) → made ≡ with_rects held one.1
    → ((q : ℕ) → lookup (nat_eq q) new ≡ cond (nat_eq one.0 q) (Some made) (lookup (nat_eq q) old))
    → from_entries {R = nat_cmp} new ≡ marked (from_entries old) (Some one)
put_to old new one held made holds makes says =
    updated_map old new one.0 made says
    ∙ ap (insert (from_entries old) one.0) (makes ∙ ap (λ h. with_rects h one.1) (holds ∙ ap rects_in (sym (get-entries_lookup old one.0))))

-- what is written on one surface is put to its own, and those of no other change
own : (marks : Marks) (drawn : Option (ℕ × List Rect)) (id : ℕ) → rects_on (marked marks drawn) id ≡ with_rects (rects_on marks id) (own_rects id drawn)
own marks None id = refl
own marks (Some one) id =
    let put = with_rects (rects_on marks one.0) one.1 in
    ap rects_in (get-insert nat_cmp_total marks one.0 put id ∙ ap (λ b. cond b (Some put) (get marks id)) (sym (eq_by_cmp-nat_cmp id one.0)))
    ∙ elim (nat_eq id one.0) as (λ b. nat_eq id one.0 ≡ b → rects_in (cond b (Some put) (get marks id)) ≡ with_rects (rects_on marks id) (cond b one.1 [])) [
      | true ↦ λ e. ap (λ s. with_rects (rects_on marks s) one.1) (sym (eqb-true id one.0 e))
      | false ↦ λ e. refl
    ] refl

pub notes : (before : Damage) (state : State) (pdu : Pdu) → Notes before state pdu
unfolding noted
notes before state pdu = record { rects = λ id. own (begun before).marks (written state pdu) id }

never : (a : Bool) → (a && false) ≡ false
never true = refl
never false = refl

ever : (a : Bool) → (a && true) ≡ a
ever true = refl
ever false = refl

-- whether anything may show, and the rectangles, when all begins anew or goes on
whole_begun : (before : Damage) → (before.whole && not before.ended) ≡ (begun before).whole
whole_begun before = elim before.ended as (λ b. (before.whole && not b) ≡ (if b then undamaged else before).whole) [ true ↦ never before.whole | false ↦ ever before.whole ]

marks_begun : (before : Damage) → (if before.ended then empty else before.marks) ≡ (begun before).marks
marks_begun before = elim before.ended as (λ b. (if b then empty else before.marks) ≡ (if b then undamaged else before).marks) [ true ↦ refl | false ↦ refl ]

pub noting : (before : Damage) (state : State) (pdu : Pdu) (ended whole : Bool) (first marks : Marks) (drawn : Option (ℕ × List Rect))
    → ended ≡ ends_frame pdu → whole ≡ ((before.whole && not before.ended) || changes_all pdu) → first ≡ (if before.ended then empty else before.marks)
    → drawn ≡ written state pdu → marks ≡ marked first drawn
    → record { ended = ended; whole = whole; marks = marks } ≡ noted before state pdu
unfolding noted
noting before state pdu ended whole first marks drawn ends all starts draws puts = λ i. record {
  ended = ends i;
  whole = (all ∙ ap (λ b. b || changes_all pdu) (whole_begun before)) i;
  marks = (puts ∙ (λ j. marked ((starts ∙ marks_begun before) j) (draws j))) i;
}
