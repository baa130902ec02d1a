-- Lists of which the first items are forgotten: the others stand at the numbers that they had.
use Rattle.std.proofs.Common.{◌≡◌, Bool, true, false, cond, ℕ, zero, suc, ◌+◌, ◌-◌, ◌≤◌, List, [], ◌∷◌, ◌++◌, length, drop, replicate, refl, ap, ◌∙◌, subst, arith}
use Rattle.std.specs.List.{filter}
use Rattle.std.proofs.Math.Seq.{drop-append-add}
use Rattle.std.proofs.lemmas.List.{length-replicate}
use Rattle.gfx_script.specs.declared.step.Step.{Step}
use Rattle.gfx_script.specs.declared.step.Step.TheVariants.{Frame}
use Rattle.gfx_script.specs.Script.{frames_in, is_frame}

-- to forget fewer than are forgotten changes nothing
pub forgotten_before : {X : Type 0} (count forgotten : ℕ) (x : X) (others : List X) → count ≤ forgotten
    → replicate count x ++ drop count (replicate forgotten x ++ others) ≡ replicate forgotten x ++ others
forgotten_before zero forgotten x others le = refl
forgotten_before (suc count) zero x others le = absurd (omega (arith, le))
forgotten_before (suc count) (suc forgotten) x others le = ap (λ z. x ∷ z) (forgotten_before count forgotten x others (omega (arith, le)))

-- to forget more leaves less of the others
pub others_dropped : {X : Type 0} (count forgotten : ℕ) (x : X) (others : List X) → forgotten ≤ count
    → drop count (replicate forgotten x ++ others) ≡ drop (count - forgotten) others
others_dropped count forgotten x others le =
    let all : count ≡ length (replicate forgotten x) + (count - forgotten) = omega (arith, le, length-replicate forgotten x) in
    ap (λ n. drop n (replicate forgotten x ++ others)) all ∙ drop-append-add (replicate forgotten x) others (count - forgotten)

-- the frames behind a number: of those that are forgotten, and of the others
both_parts : (others : List Step) (total some more behind place : ℕ) → some ≡ more → behind ≡ place → total ≡ some + frames_in (drop behind others)
    → total ≡ more + frames_in (drop place others)
both_parts others total some more behind place first second is =
    subst (λ n. total ≡ n + frames_in (drop place others)) first (subst (λ n. total ≡ some + frames_in (drop n others)) second is)

all_frames : (forgotten : ℕ) (others : List Step) → frames_in (replicate forgotten Frame ++ others) ≡ forgotten + frames_in others
all_frames zero others = let none : frames_in others ≡ 0 + frames_in others = omega arith in none
all_frames (suc forgotten) others =
    let one : suc (forgotten + frames_in others) ≡ suc forgotten + frames_in others = omega arith in
    ap suc (all_frames forgotten others) ∙ one

pub frames_behind_forgotten : (number forgotten : ℕ) (others : List Step)
    → frames_in (drop number (replicate forgotten Frame ++ others)) ≡ (forgotten - number) + frames_in (drop (number - forgotten) others)
frames_behind_forgotten zero forgotten others = both_parts others _ forgotten (forgotten - 0) 0 (0 - forgotten) (omega arith) (omega arith) (all_frames forgotten others)
frames_behind_forgotten (suc number) zero others = both_parts others _ 0 (0 - suc number) (suc number) (suc number - 0) (omega arith) (omega arith)
    (let none : frames_in (drop (suc number) others) ≡ 0 + frames_in (drop (suc number) others) = omega arith in none)
frames_behind_forgotten (suc number) (suc forgotten) others =
    both_parts others _ (forgotten - number) (suc forgotten - suc number) (number - forgotten) (suc number - suc forgotten) (omega arith) (omega arith)
    (frames_behind_forgotten number forgotten others)

-- no more are frames than there are
pub few_frames : (steps : List Step) → frames_in steps ≤ length steps
few_frames [] = omega arith
few_frames (step ∷ steps) = by (is_frame step) (few_frames steps)
  where
    by : (b : Bool) → length (filter is_frame steps) ≤ length steps → length (cond b (step ∷ filter is_frame steps) (filter is_frame steps)) ≤ length (step ∷ steps)
    by true few = omega (arith, few)
    by false few = omega (arith, few)
