use Rattle.std.proofs.Common.{◌≡◌, ◌∙◌, true, ap, refl, subst, sym}
use Rattle.gfx_script.specs.Building.{Building, script_so_far}
use Rattle.gfx_script.specs.Script.{IsAccepted, IsAcceptedAtStart, is_framed}
use Rattle.gfx_script.proofs.Builds.{built_accepted, parts_seen}
use Rattle.gfx_script.proofs.Starts.{accepted_at_start}
use Rattle.gfx_script.proofs.builder.ScriptBuilder.into_script.Goals as goal

pub new-requires-2 : goal.new-requires-2
new-requires-2 c =
    let now : Building = record { head = c.self.inside.head; draft = c.self.inside.draft; turns = c.self.inside.turns.items } in
    let framed : is_framed now.draft.steps ≡ true = ap (λ b. is_framed b.draft.steps) c.self.view_is ∙ c.requires in
    subst IsAcceptedAtStart
    (parts_seen now _ _ _ _ _ _ c.into_parts-window.ensures c.into_parts-pictures.ensures.pictures c.small-small.ensures c.thin-thin.ensures c.new.ensures.items c.into_parts-pictures.ensures.steps)
    (accepted_at_start (script_so_far now) refl (built_accepted now c.self.invariant framed))

pub returns-clause-accepted : goal.returns-clause-accepted
returns-clause-accepted c =
    let now : Building = record { head = c.self.inside.head; draft = c.self.inside.draft; turns = c.self.inside.turns.items } in
    let framed : is_framed now.draft.steps ≡ true = ap (λ b. is_framed b.draft.steps) c.self.view_is ∙ c.requires in
    subst IsAccepted
    (parts_seen now _ _ _ _ _ _ c.into_parts-window.ensures c.into_parts-pictures.ensures.pictures c.small-small.ensures c.thin-thin.ensures c.new.ensures.items c.into_parts-pictures.ensures.steps
    ∙ sym c.new-2.ensures) (built_accepted now c.self.invariant framed)
