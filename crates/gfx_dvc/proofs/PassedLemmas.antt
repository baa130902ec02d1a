-- What the checks on a fragment come to, taken apart and put together; and a step by them.
use Rattle.std.proofs.Common.{◌≡◌, ℕ, ◌≤◌, Bool, true, List, length, Option, Some, None, Ok, Err, refl, ap, ◌∙◌, subst, leb}
use Rattle.std.proofs.lemmas.Bool.{le-leb, leb-true, cond-true}
use Rattle.gfx_base.specs.Results.{check}
use Rattle.gfx_base.specs.declared.refusal.Refusal.{Refusal}
use Rattle.gfx_base.specs.declared.refusal.Refusal.TheVariants.{ChannelLength, FragmentLength, FragmentOrder, FragmentChannel}
use Rattle.gfx_base.proofs.ResultLemmas.{and_then_at, and_then_refused, and_then_ok, check_ok}
use Rattle.gfx_dvc.specs.declared.fragment.Fragment.{Fragment}
use Rattle.gfx_dvc.specs.Format.{read_fragment}
use Rattle.gfx_dvc.specs.Joining.{Joiner, none_kept, is_of, is_in_order, is_sized, whole, so_far, passed, put, step}

-- a fragment that passes says this, and keeps to all that the checks ask
pub record Passes (joiner : Joiner) (bytes : List ℕ) (fragment : Fragment) : Type 0 where
  pub clear : joiner.refusal ≡ None
  pub says : read_fragment bytes ≡ Ok fragment
  pub channel : is_of joiner.channel fragment.header.channel ≡ true
  pub order : is_in_order joiner.message fragment.header.total ≡ true
  pub sized : is_sized joiner.message fragment.header.total fragment.piece ≡ true
  pub room : length (so_far joiner.message fragment.piece) ≤ whole joiner.message fragment.header.total fragment.piece

none_kept-ok : (refusal : Option Refusal) → none_kept refusal ≡ Ok tt → refusal ≡ None
unfolding none_kept
none_kept-ok None e = refl
none_kept-ok (Some r) e = absurd cc

pub passed-ok : (joiner : Joiner) (bytes : List ℕ) (fragment : Fragment) → passed joiner bytes ≡ Ok fragment → Passes joiner bytes fragment
unfolding passed
passed-ok joiner bytes fragment e =
    let kept = and_then_ok (none_kept joiner.refusal) _ fragment e in
    let read = and_then_ok (read_fragment bytes) _ fragment kept.2 in
    let channel = and_then_ok (check FragmentChannel (is_of joiner.channel read.0.header.channel)) _ fragment read.2 in
    let order = and_then_ok (check FragmentOrder (is_in_order joiner.message read.0.header.total)) _ fragment channel.2 in
    let sized = and_then_ok (check ChannelLength (is_sized joiner.message read.0.header.total read.0.piece)) _ fragment order.2 in
    let room = and_then_ok (check FragmentLength (leb (length (so_far joiner.message read.0.piece)) (whole joiner.message read.0.header.total read.0.piece))) _ fragment sized.2 in
    let same : read.0 ≡ fragment = let h = room.2 in cc in
    subst (Passes joiner bytes) same (record {
      clear = none_kept-ok joiner.refusal kept.1;
      says = read.1;
      channel = check_ok FragmentChannel _ channel.1;
      order = check_ok FragmentOrder _ order.1;
      sized = check_ok ChannelLength _ sized.1;
      room = leb-true _ _ (check_ok FragmentLength _ room.1);
    })

check-true : (r : Refusal) (holds : Bool) → holds ≡ true → check r holds ≡ Ok tt
check-true r holds e = cond-true holds _ _ e

pub passed-is : (joiner : Joiner) (bytes : List ℕ) (fragment : Fragment) → Passes joiner bytes fragment → passed joiner bytes ≡ Ok fragment
unfolding passed none_kept
passed-is joiner bytes fragment h =
    and_then_at (none_kept joiner.refusal) tt _ (ap none_kept h.clear)
    ∙ and_then_at (read_fragment bytes) fragment _ h.says
    ∙ and_then_at (check FragmentChannel (is_of joiner.channel fragment.header.channel)) tt _ (check-true _ _ h.channel)
    ∙ and_then_at (check FragmentOrder (is_in_order joiner.message fragment.header.total)) tt _ (check-true _ _ h.order)
    ∙ and_then_at (check ChannelLength (is_sized joiner.message fragment.header.total fragment.piece)) tt _ (check-true _ _ h.sized)
    ∙ and_then_at (check FragmentLength (leb (length (so_far joiner.message fragment.piece)) (whole joiner.message fragment.header.total fragment.piece))) tt _ (check-true _ _ (le-leb _ _ h.room))

-- a refusal that is kept is answered
pub passed-kept : (joiner : Joiner) (bytes : List ℕ) (r : Refusal) → joiner.refusal ≡ Some r → passed joiner bytes ≡ Err r
unfolding passed none_kept
passed-kept joiner bytes r e = and_then_refused (none_kept joiner.refusal) r _ (ap none_kept e)

pub step-passed : (joiner : Joiner) (bytes : List ℕ) (fragment : Fragment) → passed joiner bytes ≡ Ok fragment → step joiner bytes ≡ Ok (put joiner fragment)
unfolding step
step-passed joiner bytes fragment e = and_then_at (passed joiner bytes) fragment _ e

pub step-refused : (joiner : Joiner) (bytes : List ℕ) (r : Refusal) → passed joiner bytes ≡ Err r → step joiner bytes ≡ Err r
unfolding step
step-refused joiner bytes r e = and_then_refused (passed joiner bytes) r _ e
