-- A script's last step, from the front and from the end.
use Rattle.std.proofs.Common.{◌≡◌, ◌∙◌, suc, ◌-◌, List, [], ◌∷◌, length, Some, ap, arith}
use Rattle.std.specs.List.{slice_get}
use Rattle.gfx_script.specs.declared.step.Step.{Step}
use Rattle.gfx_script.specs.Script.{is_frame, is_framed}

pub framed_last : (steps : List Step) (last : Step) → Some last ≡ slice_get steps (length steps - 1) → is_framed steps ≡ is_frame last
framed_last [] last is = absurd cc
framed_last (step ∷ []) last is = let same : step ≡ last = cc in ap is_frame same
framed_last (step ∷ next ∷ steps) last is =
    let place : length (step ∷ next ∷ steps) - 1 ≡ suc (length (next ∷ steps) - 1) = omega arith in
    framed_last (next ∷ steps) last (is ∙ ap (slice_get (step ∷ next ∷ steps)) place)
