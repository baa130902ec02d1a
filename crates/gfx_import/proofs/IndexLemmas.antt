-- Entries that are put in by their keys.
use Rattle.std.proofs.Common.{◌≡◌, ◌∙◌, ap, sym, refl, Bool, true, false, ◌&&◌, not, nat_lt, ℕ, ◌+◌, ◌≤◌, ◌<◌, List, [], ◌∷◌, ◌++◌, length, Ok, Err, length-append, append_assoc, arith}
use Rattle.std.proofs.lemmas.Bool.Decides.{nat_tests}
use Rattle.std.proofs.lemmas.List.{append-nil, map-append}
use Rattle.gfx_base.specs.Results.{check}
use Rattle.gfx_base.specs.declared.refusal.Refusal.TheVariants.{KeptShape}
use Rattle.gfx_layout.specs.declared.stop.Stop.TheVariants.{Rule}
use Rattle.gfx_bitmap_cache.specs.Slots.{Entry}
use Rattle.gfx_import.specs.declared.limits.TheConstants.{MOST_ENTRIES}
use Rattle.gfx_import.specs.Entries.{entry_keys, has_key, are_distinct, takes, with_entry, IsKept}
use Rattle.gfx_import.specs.Indexing.{distinct}
use Rattle.gfx_import.proofs.KeyLemmas.{key-twice}
use Rattle.gfx_import.proofs.KeptLemmas.{with-push}

module _ (entries done rest after : List Entry) (one : Entry) (is : rest ≡ one ∷ after) (so : done ++ rest ≡ entries) where
  together : done ++ one ∷ after ≡ entries
  together = ap (λ z. done ++ z) (sym is) ∙ so

  -- one more was put in
  pub index_more : (new : List Entry) → takes done one.key ≡ true → new ≡ with_entry done one → new ++ after ≡ entries
  index_more new free put =
      ap (λ z. z ++ after) (put ∙ with-push done one free) ∙ append_assoc done (one ∷ []) after ∙ together

  -- its key is there already
  pub index_stop : length entries ≤ MOST_ENTRIES → takes done one.key ≡ false → distinct entries ≡ Err (Rule KeptShape)
  index_stop few full =
      let long : length done + (1 + length after) ≡ length entries = omega (arith, length-append done (one ∷ after), ap length together) in
      let room : nat_lt (length done) MOST_ENTRIES ≡ true = lt_true (length done) MOST_ENTRIES (omega arith) in
      let there : has_key (entry_keys done) one.key ≡ true = held _ _ full room in
      let twice : are_distinct (entry_keys entries) ≡ false =
      ap (λ z. are_distinct (entry_keys z)) (sym together) ∙ ap are_distinct (map-append (λ (e : Entry). e.key) done (one ∷ after))
      ∙ key-twice (entry_keys done) (entry_keys after) one.key there in
      ap (check (Rule KeptShape)) twice
    where
      lt_true : (m n : ℕ) → m < n → nat_lt m n ≡ true
      lt_true m n e = grind (arith, nat_tests)

      held : (a b : Bool) → (not a && b) ≡ false → b ≡ true → a ≡ true
      held true b e f = refl
      held false b e f = absurd cc

no_items : (rest : List Entry) → length rest ≡ 0 → rest ≡ []
no_items [] e = refl
no_items (one ∷ rest) e = absurd (omega arith)

-- all were put in
pub index_end : (entries done rest : List Entry) → length rest ≡ 0 → done ++ rest ≡ entries → IsKept done → (distinct entries ≡ Ok tt) × (done ≡ entries)
index_end entries done rest e so kept =
    let same : done ≡ entries = sym (append-nil done) ∙ ap (λ z. done ++ z) (sym (no_items rest e)) ∙ so in
    (ap (λ z. check (Rule KeptShape) (are_distinct (entry_keys z))) (sym same) ∙ ap (check (Rule KeptShape)) kept.distinct, same)
