-- What subcodecs draw, one after another.
use Rattle.std.proofs.Common.{◌≡◌, ℕ, zero, suc, ◌<◌, ◌≤◌, List, [], ◌∷◌, length, Result, Ok, Err, refl, sym, ◌∙◌, arith}
use Rattle.gfx_base.specs.declared.answer.Cause.{Cause}
use Rattle.gfx_base.specs.declared.answer.Cause.TheVariants.{Refused, Memory}
use Rattle.gfx_base.specs.declared.refusal.Refusal.{Refusal}
use Rattle.gfx_base.specs.Results.{and_then}
use Rattle.gfx_base.proofs.ResultLemmas.{and_then_at, and_then_refused}
use Rattle.gfx_clear_bands.specs.Bands.{Drawing}
use Rattle.gfx_clear.specs.Subcodecs.{subcodec, subcodecs_within}
use Rattle.gfx_clear.proofs.Layers.{Refuses}

-- what is left to be read gives what is due
pub record Due (width height : ℕ) (old : Drawing) (bytes : List ℕ) (due : Result Drawing Refusal) : Type 0 where
  pub most : ℕ
  pub enough : length bytes ≤ most
  pub same : subcodecs_within most width height old bytes ≡ due

pub within-suc : (most width height : ℕ) (old : Drawing) (bytes : List ℕ) → 0 < length bytes
    → subcodecs_within (suc most) width height old bytes ≡ and_then (subcodec width height old bytes) (λ next. subcodecs_within most width height next.0 next.1)
unfolding subcodecs_within
within-suc most width height old [] some = absurd (omega arith)
within-suc most width height old (byte ∷ bytes) some = refl

pub due_step : (width height : ℕ) (old new : Drawing) (bytes rest : List ℕ) (due : Result Drawing Refusal) → 0 < length bytes → length rest < length bytes
    → subcodec width height old bytes ≡ Ok (new, rest) → Due width height old bytes due → Due width height new rest due
due_step width height old new bytes rest due some shorter e d = by d.most d.enough d.same
  where
    by : (most : ℕ) → length bytes ≤ most → subcodecs_within most width height old bytes ≡ due → Due width height new rest due
    by zero enough same = absurd (omega arith)
    by (suc most) enough same = record {
      most = most;
      enough = omega arith;
      same = sym (within-suc most width height old bytes some ∙ and_then_at (subcodec width height old bytes) (new, rest) _ e) ∙ same;
    }

pub due_fault : (fault : Cause Refusal) (width height : ℕ) (old : Drawing) (bytes : List ℕ) (due : Result Drawing Refusal) → 0 < length bytes
    → Refuses fault (subcodec width height old bytes) → Due width height old bytes due → Refuses fault due
due_fault Memory width height old bytes due some g d = tt
due_fault (Refused refusal) width height old bytes due some g d = by d.most d.enough d.same
  where
    by : (most : ℕ) → length bytes ≤ most → subcodecs_within most width height old bytes ≡ due → due ≡ Err refusal
    by zero enough same = absurd (omega arith)
    by (suc most) enough same = sym same ∙ within-suc most width height old bytes some ∙ and_then_refused (subcodec width height old bytes) refusal _ g

pub within_none : (most width height : ℕ) (old : Drawing) (bytes : List ℕ) → length bytes ≡ 0 → subcodecs_within most width height old bytes ≡ Ok old
unfolding subcodecs_within
within_none most width height old [] e = refl
within_none most width height old (b ∷ bs) e = absurd (omega arith)

pub due_end : (width height : ℕ) (old : Drawing) (bytes : List ℕ) (due : Result Drawing Refusal) → length bytes ≡ 0 → Due width height old bytes due → due ≡ Ok old
due_end width height old bytes due none d = sym d.same ∙ within_none d.most width height old bytes none

-- one subcodec with nothing behind it
pub subcodecs_from : (most width height : ℕ) (old new : Drawing) (bytes : List ℕ) → length bytes ≡ most → 0 < length bytes → subcodec width height old bytes ≡ Ok (new, []) → subcodecs_within most width height old bytes ≡ Ok new
subcodecs_from zero width height old new bytes long some e = absurd (omega arith)
subcodecs_from (suc most) width height old new bytes long some e =
    within-suc most width height old bytes some ∙ and_then_at (subcodec width height old bytes) (new, []) _ e ∙ within_none most width height new [] refl
