-- Levels that were read so far, and what is left of them.
use Rattle.std.proofs.Common.{◌≡◌, ◌∙◌, ℕ, ◌+◌, ◌<◌, ◌≤◌, List, [], ◌∷◌, ◌++◌, map, length, drop, get_or, Option, Some, Result, Ok, Err, ap, append-nil}
use Rattle.std.proofs.lemmas.List.{drop_all}
use Rattle.toml.specs.Data.{Data}
use Rattle.gfx_base.proofs.ResultLemmas.{and_then_at, and_then_refused}
use Rattle.gfx_quant.specs.declared.setting.Level.{Level}
use Rattle.gfx_script.specs.declared.error.ScriptKind.{ScriptKind}
use Rattle.gfx_script_text.specs.declared.levels.Bases.{Bases}
use Rattle.gfx_script_text.specs.Progressive.{next_level, levels_behind}
use Rattle.gfx_script_text.proofs.Runs.{after_these, after_one, from_place}

module _ (bases : Bases) where
  levels-found : (before : Option Level) (done : List Level) (d : Data) (ds : List Data) (level : Level) → next_level bases before d ≡ Ok level
      → after_these done (levels_behind bases before (d ∷ ds)) ≡ after_these (done ++ level ∷ []) (levels_behind bases (Some level) ds)
  unfolding levels_behind
  levels-found before done d ds level e =
      ap (after_these done) (and_then_at (next_level bases before d) level _ e) ∙ after_one done level (levels_behind bases (Some level) ds)

  levels-none : (before : Option Level) (done : List Level) → after_these done (levels_behind bases before []) ≡ Ok done
  unfolding levels_behind
  levels-none before done = ap Ok (append-nil done)

  levels-refused : (before : Option Level) (done : List Level) (d : Data) (ds : List Data) (kind : ScriptKind) → next_level bases before d ≡ Err kind
      → after_these done (levels_behind bases before (d ∷ ds)) ≡ Err kind
  unfolding levels_behind
  levels-refused before done d ds kind e = ap (after_these done) (and_then_refused (next_level bases before d) kind _ e)

  module _ {V : Type 0} (view : V → Data) where
    pub levels-next : (vs : List V) (at : ℕ) (v : V) (before : Option Level) (done : List Level) (level : Level) (due : Result (List Level) ScriptKind)
        → at < length vs → v ≡ get_or vs at v → next_level bases before (view v) ≡ Ok level
        → due ≡ after_these done (levels_behind bases before (map view (drop at vs))) → due ≡ after_these (done ++ level ∷ []) (levels_behind bases (Some level) (map view (drop (at + 1) vs)))
    levels-next vs at v before done level due lt is e so_far =
        so_far ∙ ap (λ ws. after_these done (levels_behind bases before (map view ws))) (from_place vs at v lt is)
        ∙ levels-found before done (view v) (map view (drop (at + 1) vs)) level e

    pub levels-end : (vs : List V) (at : ℕ) (before : Option Level) (done : List Level) (due : Result (List Level) ScriptKind) → length vs ≤ at
        → due ≡ after_these done (levels_behind bases before (map view (drop at vs))) → due ≡ Ok done
    levels-end vs at before done due past so_far =
        so_far ∙ ap (λ ws. after_these done (levels_behind bases before (map view ws))) (drop_all at vs past) ∙ levels-none before done

    pub levels-stop : (vs : List V) (at : ℕ) (v : V) (before : Option Level) (done : List Level) (kind : ScriptKind) (due : Result (List Level) ScriptKind)
        → at < length vs → v ≡ get_or vs at v → next_level bases before (view v) ≡ Err kind
        → due ≡ after_these done (levels_behind bases before (map view (drop at vs))) → due ≡ Err kind
    levels-stop vs at v before done kind due lt is e so_far =
        so_far ∙ ap (λ ws. after_these done (levels_behind bases before (map view ws))) (from_place vs at v lt is)
        ∙ levels-refused before done (view v) (map view (drop (at + 1) vs)) kind e
