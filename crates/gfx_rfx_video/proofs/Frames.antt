-- How much a frame takes of its bytes.
use Rattle.std.proofs.Common.{◌≡◌, ℕ, ◌+◌, ◌-◌, ◌≤◌, cond, leb, List, length, drop, Ok, Err, ap, length-drop, arith, inl, inr}
use Rattle.std.proofs.lemmas.Bool.{cases_Bool, leb-true}
use Rattle.gfx_base.specs.Results.{check}
use Rattle.gfx_base.specs.declared.refusal.Refusal.TheVariants.{BlockLength}
use Rattle.gfx_base.proofs.ResultLemmas.{and_then_ok}
use Rattle.gfx_layout.specs.declared.stop.Stop.TheVariants.{Short, Rule}
use Rattle.gfx_layout.specs.Shape.{Shape, width, number_alone, u16, u32}
use Rattle.gfx_layout.specs.Reading.{read, take_one, take_bytes}
use Rattle.gfx_rfx_video.specs.declared.frame.Frame.{Frame}
use Rattle.gfx_rfx_video.specs.Layouts.{frame}

taken : {X : Type 0} (need : ℕ) (from : List ℕ) (at : X) (found : X × List ℕ) → cond (leb need (length from)) (Ok (at, drop need from)) (Err Short) ≡ Ok found → need + length found.1 ≡ length from
taken need from at found e =
    elim (cases_Bool (leb need (length from))) [
      | inl enough ↦
          let given = rw enough at e in
          let same : drop need from ≡ found.1 = cc in
          omega (arith, leb-true _ _ enough, ap length same, length-drop need from)
      | inr missing ↦ let given = rw missing at e in absurd cc
    ]

take_one-takes : {T : Type 0} (shape : Shape T) (from : List ℕ) (found : T × List ℕ) → take_one shape from ≡ Ok found → width shape + length found.1 ≡ length from
unfolding take_one
take_one-takes shape from found e = taken (width shape) from _ found e

take_bytes-takes : (count : ℕ) (from : List ℕ) (found : List ℕ × List ℕ) → take_bytes count from ≡ Ok found → count + length found.1 ≡ length from
unfolding take_bytes
take_bytes-takes count from found e = taken count from _ found e

-- a frame has six bytes and more
pub read-frame-takes : (bytes : List ℕ) (found : Frame × List ℕ) → read frame bytes ≡ Ok found → 6 + length found.1 ≤ length bytes
unfolding read
read-frame-takes bytes found e =
    let kind = and_then_ok (take_one (number_alone u16) bytes) _ found e in
    let size = and_then_ok (take_one (number_alone u32) kind.0.1) _ found kind.2 in
    let least = and_then_ok (check (Rule BlockLength) (leb 6 size.0.0)) _ found size.2 in
    let body = and_then_ok (take_bytes (size.0.0 - 6) size.0.1) _ found least.2 in
    let last = body.2 in
    let same : body.0.1 ≡ found.1 = cc in
    omega (arith, take_one-takes (number_alone u16) bytes kind.0 kind.1, take_one-takes (number_alone u32) kind.0.1 size.0 size.1, take_bytes-takes (size.0.0 - 6) size.0.1 body.0 body.1, ap length same)
