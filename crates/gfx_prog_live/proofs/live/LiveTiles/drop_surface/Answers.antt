use Rattle.std.proofs.Common.{◌∙◌, ◌==◌, ap, not, rules, sym, subst}
use Rattle.std.specs.FinMap.{from_entries, len, retain_keys}
use Rattle.std.proofs.lemmas.Bool.{eqb-true}
use Rattle.indexmap.proofs.CallerLemmas.{filter-RetainsPairs}
use Rattle.gfx_prog_decode.specs.Records.{key_cmp}
use Rattle.gfx_prog_decode.proofs.Keys.{retained}
use Rattle.gfx_prog_live.specs.Inside.{AreInPlace}
use Rattle.gfx_prog_live.proofs.Ending.{none_dropped}
use Rattle.gfx_prog_live.proofs.InPlace.{retained_in_place}
use Rattle.gfx_prog_live.proofs.live.LiveTiles.drop_surface.Goals as goal

pub returns-then-is_empty : goal.returns-then-is_empty
returns-then-is_empty c = none_dropped c.args.self.now c.args.id (eqb-true (len c.args.self.now) 0 (sym c.is_empty.ensures ∙ c.if-is_empty.true))

pub invariant_of-self : goal.invariant_of-self
invariant_of-self c =
    subst AreInPlace
    (sym (ap (λ es. from_entries {R = key_cmp} es) (filter-RetainsPairs _ (λ e. not (e.0.surface == c.args.id)) _ (λ k v b w g call. search rules) _ _ c.retain.ensures.filtered)
    ∙ retained (λ key. not (key.surface == c.args.id)) c.self.inside.tiles.entries))
    (retained_in_place _ (λ key. not (key.surface == c.args.id)) c.self.invariant)

pub returns : goal.returns
returns c =
    ap (λ es. from_entries {R = key_cmp} es) (filter-RetainsPairs _ (λ e. not (e.0.surface == c.args.id)) _ (λ k v b w g call. search rules) _ _ c.retain.ensures.filtered)
    ∙ retained (λ key. not (key.surface == c.args.id)) c.self.inside.tiles.entries
    ∙ ap (λ m. retain_keys m (λ key. not (key.surface == c.args.id))) c.self.view_is
