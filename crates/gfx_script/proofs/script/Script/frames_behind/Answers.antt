use Rattle.std.proofs.Common.{◌≡◌, ◌+◌, ◌-◌, ◌∙◌, ap, sym, drop, arith}
use Rattle.std.proofs.lemmas.List.{length-drop}
use Rattle.gfx_script.specs.Script.{frames_in}
use Rattle.gfx_script.specs.Scripted.{Script}
use Rattle.gfx_script.proofs.ForgottenItems.{few_frames, frames_behind_forgotten}
use Rattle.gfx_script.proofs.script.Script.frames_behind.Goals as goal

pub returns : goal.returns
returns c =
    let others : c.frames_in.result ≡ frames_in (drop (c.args.number - c.self.inside.forgotten_steps) c.self.inside.steps.items) =
    c.frames_in.ensures ∙ ap frames_in c.split_at.ensures.back ∙ ap (λ l. frames_in (drop c.saturating_sub-passed.result l)) c.as_slice.ensures.value
    ∙ ap (λ n. frames_in (drop n c.self.inside.steps.items)) c.saturating_sub-passed.ensures in
    (λ i. c.saturating_sub-forgotten.ensures i + others i) ∙ sym (frames_behind_forgotten c.args.number c.self.inside.forgotten_steps c.self.inside.steps.items)
    ∙ ap (λ (s : Script). frames_in (drop c.args.number s.steps)) c.self.view_is

pub overflow_add-result : goal.overflow_add-result
overflow_add-result c =
    omega (arith, returns c, few_frames (drop c.args.number c.args.self.now.steps), length-drop c.args.number c.args.self.now.steps, c.step_count.ensures, c.step_count.type_inv)
