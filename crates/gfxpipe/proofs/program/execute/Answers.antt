use Rattle.std.proofs.Common.{Some, map, sym, ap, ◌∙◌, refl}
use Rattle.gfx_words.specs.CommandLine.{accepted}
use Rattle.gfx_words.specs.declared.table.Command.TheVariants.{Render, RenderOutput, Audit, Encode, Session, Import, Fragment, Join}
use Rattle.gfxpipe.specs.Outcome.{ended_of, session_of}
use Rattle.gfxpipe.specs.Rule.{limits}
use Rattle.gfxpipe.proofs.Commands.{memory_first, spelled, alone}
use Rattle.gfxpipe.proofs.program.execute.Goals as goal

pub returns-in-Ok-Some-Render : goal.returns-in-Ok-Some-Render
returns-in-Ok-Some-Render g c =
    let words = ap (λ z. Some z) (sym c.in-Ok-Some-Render.field-0-0-is) ∙ sym c.in-Ok-Some-Render.field-0-is ∙ c.in-Ok-Some-Render.ensures in
    alone c.alone.result c.render.result (Some Render) _ _ _ (limits c.args.stream c.args.script) _ _ words c.alone.ensures.ended c.alone.ensures.session (c.render.ensures, refl, refl)

pub returns-in-Ok-Some-RenderOutput : goal.returns-in-Ok-Some-RenderOutput
returns-in-Ok-Some-RenderOutput g c =
    let words = ap (λ z. Some z) (sym c.in-Ok-Some-RenderOutput.field-0-0-is) ∙ sym c.in-Ok-Some-RenderOutput.field-0-is ∙ c.in-Ok-Some-RenderOutput.ensures in
    alone c.alone-in-Ok-Some-RenderOutput.result c.render-in-Ok-Some-RenderOutput.result (Some RenderOutput) _ _ _ (limits c.args.stream c.args.script) _ _ words c.alone-in-Ok-Some-RenderOutput.ensures.ended c.alone-in-Ok-Some-RenderOutput.ensures.session (c.render-in-Ok-Some-RenderOutput.ensures, refl, refl)

pub returns-in-Ok-Some-Audit : goal.returns-in-Ok-Some-Audit
returns-in-Ok-Some-Audit g c =
    let words = ap (λ z. Some z) (sym c.in-Ok-Some-Audit.field-0-0-is) ∙ sym c.in-Ok-Some-Audit.field-0-is ∙ c.in-Ok-Some-Audit.ensures in
    alone c.alone-in-Ok-Some-Audit.result c.audit.result (Some Audit) _ _ _ (limits c.args.stream c.args.script) _ _ words c.alone-in-Ok-Some-Audit.ensures.ended c.alone-in-Ok-Some-Audit.ensures.session (c.audit.ensures, refl, refl)

pub returns-in-Ok-Some-Encode : goal.returns-in-Ok-Some-Encode
returns-in-Ok-Some-Encode g c =
    let words = ap (λ z. Some z) (sym c.in-Ok-Some-Encode.field-0-0-is) ∙ sym c.in-Ok-Some-Encode.field-0-is ∙ c.in-Ok-Some-Encode.ensures in
    alone c.alone-in-Ok-Some-Encode.result c.encode.result (Some Encode) _ _ _ (limits c.args.stream c.args.script) _ _ words c.alone-in-Ok-Some-Encode.ensures.ended c.alone-in-Ok-Some-Encode.ensures.session c.encode.ensures

pub returns-in-Ok-Some-Session : goal.returns-in-Ok-Some-Session
returns-in-Ok-Some-Session g c =
    let words = ap (λ z. Some z) (sym c.in-Ok-Some-Session.field-0-0-is) ∙ sym c.in-Ok-Some-Session.field-0-is ∙ c.in-Ok-Some-Session.ensures in
    spelled (ended_of c.session.result) (session_of c.session.result) (Some Session) _ _ _ (limits c.args.stream c.args.script) _ _ words c.session.ensures

pub returns-in-Ok-Some-Import : goal.returns-in-Ok-Some-Import
returns-in-Ok-Some-Import g c =
    let words = ap (λ z. Some z) (sym c.in-Ok-Some-Import.field-0-0-is) ∙ sym c.in-Ok-Some-Import.field-0-is ∙ c.in-Ok-Some-Import.ensures in
    spelled (ended_of c.import.result) (session_of c.import.result) (Some Import) _ _ _ (limits c.args.stream c.args.script) _ _ words c.import.ensures

pub returns-in-Ok-Some-Fragment : goal.returns-in-Ok-Some-Fragment
returns-in-Ok-Some-Fragment g c =
    let words = ap (λ z. Some z) (sym c.in-Ok-Some-Fragment.field-0-0-is) ∙ sym c.in-Ok-Some-Fragment.field-0-is ∙ c.in-Ok-Some-Fragment.ensures in
    alone c.alone-in-Ok-Some-Fragment.result c.fragment.result (Some Fragment) _ _ _ (limits c.args.stream c.args.script) _ _ words c.alone-in-Ok-Some-Fragment.ensures.ended c.alone-in-Ok-Some-Fragment.ensures.session (c.fragment.ensures, refl, refl)

pub returns-in-Ok-Some-Join : goal.returns-in-Ok-Some-Join
returns-in-Ok-Some-Join g c =
    let words = ap (λ z. Some z) (sym c.in-Ok-Some-Join.field-0-0-is) ∙ sym c.in-Ok-Some-Join.field-0-is ∙ c.in-Ok-Some-Join.ensures in
    alone c.alone-in-Ok-Some-Join.result c.join.result (Some Join) _ _ _ (limits c.args.stream c.args.script) _ _ words c.alone-in-Ok-Some-Join.ensures.ended c.alone-in-Ok-Some-Join.ensures.session (c.join.ensures, refl, refl)

pub returns-in-Err : goal.returns-in-Err
returns-in-Err g c = memory_first (accepted (map (λ word. word.now) c.args.words.now)) _ (limits c.args.stream c.args.script) _ _ _ _
