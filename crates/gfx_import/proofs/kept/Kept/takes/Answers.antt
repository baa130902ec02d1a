use Rattle.std.proofs.Common.{◌≡◌, ◌∙◌, ap, sym, not, ◌&&◌, nat_lt, length, true, false}
use Rattle.gfx_import.specs.declared.limits.TheConstants.{MOST_ENTRIES}
use Rattle.gfx_import.specs.Entries.{takes, entry_keys, has_key}
use Rattle.gfx_import.proofs.KeptLemmas.{listed, has_key-lookup, length-listed}
use Rattle.gfx_import.proofs.kept.Kept.takes.Goals as goal

pub returns-then-not-contains_key-clause-takes : goal.returns-then-not-contains_key-clause-takes
returns-then-not-contains_key-clause-takes c =
    let es = c.self.inside.bitmaps.entries in
    let absent : not (has_key (entry_keys (listed es)) c.args.key) ≡ true =
    ap not (sym (c.contains_key.ensures ∙ has_key-lookup es c.args.key) ∙ c.if-not-contains_key.true) in
    ap (λ n. nat_lt n MOST_ENTRIES) (c.len.ensures.len ∙ sym (length-listed es))
    ∙ sym (ap (λ b. b && nat_lt (length (listed es)) MOST_ENTRIES) absent)
    ∙ ap (λ z. takes z c.args.key) c.self.view_is

pub returns-else-not-contains_key-clause-takes : goal.returns-else-not-contains_key-clause-takes
returns-else-not-contains_key-clause-takes c =
    let es = c.self.inside.bitmaps.entries in
    let present : not (has_key (entry_keys (listed es)) c.args.key) ≡ false =
    ap not (sym (c.contains_key.ensures ∙ has_key-lookup es c.args.key) ∙ c.if-not-contains_key.false) in
    ap not c.if-not-contains_key.false
    ∙ sym (ap (λ b. b && nat_lt (length (listed es)) MOST_ENTRIES) present)
    ∙ ap (λ z. takes z c.args.key) c.self.view_is
