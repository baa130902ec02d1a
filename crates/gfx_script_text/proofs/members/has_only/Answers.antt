use Rattle.std.proofs.Common.{◌∙◌, sym, map}
use Rattle.gfx_script_text.proofs.Arrays.{has_only-entries, one_of_text, all_pass_next, all_pass_stop, all_pass_end}
use Rattle.gfx_script_text.proofs.members.has_only.Goals as goal

pub returns-then-not-is_among : goal.returns-then-not-is_among
returns-then-not-is_among c =
    all_pass_stop _ _ _ _ _ c.in-Some.ensures.steps
    (one_of_text _ c.in-Some.key.now _ _ c.is_among.ensures c.as_str.ensures.value ∙ c.if-not-is_among.true) c.members.invariant
    ∙ sym (has_only-entries (map (λ k. k.now) c.args.keys.now) c.args.table.now.entries)

pub members-preserved : goal.members-preserved
members-preserved c =
    all_pass_next _ _ _ _ _ c.in-Some.ensures.steps
    (one_of_text _ c.in-Some.key.now _ _ c.is_among.ensures c.as_str.ensures.value ∙ c.if-not-is_among.false) c.members.invariant

pub returns : goal.returns
returns c =
    all_pass_end _ _ _ c.in-None.ensures.steps.0 c.members.invariant
    ∙ sym (has_only-entries (map (λ k. k.now) c.args.keys.now) c.args.table.now.entries)
