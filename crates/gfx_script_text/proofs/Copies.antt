-- A table of `copy`, by what stands under its keys.
use Rattle.std.proofs.Common.{◌≡◌, ◌∙◌, ℤ, List, [], ◌∷◌, Ok, Err, codes}
use Rattle.toml.specs.Data.{Data, Members}
use Rattle.gfx_base.specs.Results.{check}
use Rattle.gfx_base.proofs.ResultLemmas.{and_then_at, and_then_refused}
use Rattle.gfx_script.specs.declared.error.ScriptKind.{ScriptKind}
use Rattle.gfx_script.specs.declared.error.ScriptKind.TheVariants.{Key}
use Rattle.gfx_script_text.specs.Members.{has_only, whole}
use Rattle.gfx_script_text.specs.Places.{numbers_at, arrays_at}
use Rattle.gfx_script_text.specs.Words.{copy_between, copy_of}

module _ (table : Members) (known : Unit {0}) (from to : ℤ) (corners : List Data)
    (keys : check Key (has_only (codes "do" ∷ codes "from" ∷ codes "to" ∷ codes "rect" ∷ codes "points" ∷ []) table) ≡ Ok known)
    (from_found : whole (codes "from") table ≡ Ok from) (to_found : whole (codes "to") table ≡ Ok to)
    (corners_found : numbers_at (codes "rect") table ≡ Ok corners) where
  pub copy_found : (points : List Data) → arrays_at (codes "points") table ≡ Ok points → copy_of table ≡ copy_between from to corners points
  unfolding copy_of
  copy_found points found =
      and_then_at _ known _ keys ∙ and_then_at _ from _ from_found ∙ and_then_at _ to _ to_found
      ∙ and_then_at _ corners _ corners_found ∙ and_then_at _ points _ found

  pub copy_refused : (kind : ScriptKind) → arrays_at (codes "points") table ≡ Err kind → copy_of table ≡ Err kind
  unfolding copy_of
  copy_refused kind found =
      and_then_at _ known _ keys ∙ and_then_at _ from _ from_found ∙ and_then_at _ to _ to_found
      ∙ and_then_at _ corners _ corners_found ∙ and_then_refused _ kind _ found
