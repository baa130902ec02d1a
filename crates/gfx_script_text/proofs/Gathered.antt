-- The pictures that were read so far, and what is left of them.
use Rattle.std.proofs.Common.{◌≡◌, ◌∙◌, ℕ, ◌+◌, ◌<◌, ◌≤◌, List, [], map, length, drop, get_or, Result, Ok, Err, refl, ap}
use Rattle.std.proofs.lemmas.List.{drop_all}
use Rattle.toml.specs.Data.{Data}
use Rattle.gfx_base.proofs.ResultLemmas.{and_then_at, and_then_refused}
use Rattle.gfx_script.specs.declared.error.ScriptKind.{ScriptKind}
use Rattle.gfx_script_text.specs.Pictures.{Named, Gallery, with_picture, picture_of, more_pictures}
use Rattle.gfx_script_text.proofs.Runs.{from_place}

no_more : (gallery : Gallery) → more_pictures gallery [] ≡ Ok gallery
unfolding more_pictures
no_more gallery = refl

module _ {V : Type 0} (view : V → Data) (vs : List V) (at : ℕ) (gallery : Gallery) (due : Result Gallery ScriptKind)
    (so_far : due ≡ more_pictures gallery (map view (drop at vs))) where
  pub gathered-next : (v : V) (one : Named) → at < length vs → v ≡ get_or vs at v → picture_of gallery.names (view v) ≡ Ok one
      → due ≡ more_pictures (with_picture gallery one) (map view (drop (at + 1) vs))
  unfolding more_pictures
  gathered-next v one lt is e =
      so_far ∙ ap (λ ws. more_pictures gallery (map view ws)) (from_place vs at v lt is) ∙ and_then_at (picture_of gallery.names (view v)) one _ e

  pub gathered-stop : (v : V) (kind : ScriptKind) → at < length vs → v ≡ get_or vs at v → picture_of gallery.names (view v) ≡ Err kind → due ≡ Err kind
  unfolding more_pictures
  gathered-stop v kind lt is e =
      so_far ∙ ap (λ ws. more_pictures gallery (map view ws)) (from_place vs at v lt is) ∙ and_then_refused (picture_of gallery.names (view v)) kind _ e

  pub gathered-end : length vs ≤ at → due ≡ Ok gallery
  gathered-end past = so_far ∙ ap (λ ws. more_pictures gallery (map view ws)) (drop_all at vs past) ∙ no_more gallery
