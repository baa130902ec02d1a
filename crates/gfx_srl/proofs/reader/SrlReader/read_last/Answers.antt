use Rattle.std.proofs.Common.{rules, ℕ, ◌≡◌, ◌≤◌, ◌∙◌, ◌+◌, ◌-◌, ◌^◌, ap, sym, refl, arith, subst, drop}
use Rattle.std.proofs.lemmas.Int.{to_z-of_z}
use Rattle.std.specs.Int.{w32}
use Rattle.std.specs.Prelude.{FitsSigned}
use Rattle.gfx_bits.specs.Ahead.{Shows}
use Rattle.gfx_bits.specs.Bits.{number}
use Rattle.gfx_srl.specs.Code.{k}
use Rattle.gfx_srl.specs.Steps.{Reader}
use Rattle.gfx_srl.proofs.Together.{few-zeros, last-read}
use Rattle.gfx_srl.proofs.reader.SrlReader.read_last.Goals as goal

pub pass-requires : goal.pass-requires
pass-requires c = omega (arith, c.width_of-width.ensures.small, c.value_in-value.ensures.size, few-zeros c.args.n c.requires.few)

pub returns-clause-value : goal.returns-clause-value
returns-clause-value c =
    let fits : FitsSigned w32 c.value_in-value.result.0 = search rules in
    let width : ℕ = c.width_of-width.result in
    let shown : ℕ = 2 + width + (2 ^ c.args.n - 2) in
    let at : ◌≡◌ {A = ℕ} (2 + k c.self.inside.kp + (2 ^ c.args.n - 2)) shown = omega (arith, c.width_of-width.ensures.value) in
    let shows : Shows shown c.args.word c.self.inside.bits =
    subst (λ m. Shows m c.args.word c.self.inside.bits) at (subst (λ (r : Reader). Shows (2 + k r.kp + (2 ^ c.args.n - 2)) c.args.word r.bits) (sym c.self.view_is) c.requires.shows) in
    let fitting : shown ≤ 64 = omega (arith, c.width_of-width.ensures.small, few-zeros c.args.n c.requires.few) in
    let behind = c.word_behind.ensures shown c.self.inside.bits (omega arith) fitting shows in
    let spells = c.value_in-value.ensures.value (shown - (1 + width)) (drop (1 + width) c.self.inside.bits) (omega arith) (omega arith) behind in
    rw (← c.self.view_is, to_z-of_z w32 c.value_in-value.result.0 fits)
    (last-read _ c.pass.new.self c.after_value-self-inside.result c.self.inside.zeros c.args.n width c.value_in-value.result.1 c.value_in-value.result.0 c.self.inside.ends
    (ap (λ (r : Reader). r.zeros) c.self.view_is ∙ c.requires.begins.0) (ap (λ (r : Reader). r.ends) c.self.view_is ∙ c.requires.begins.1)
    (λ e. c.requires.last (ap (λ (r : Reader). number 1 r.bits) (sym c.self.view_is) ∙ e))
    c.width_of-width.ensures.value c.value_in-value.ensures.some c.value_in-value.ensures.small
    spells.0 spells.1
    c.pass.ensures
    c.after_value-self-inside.ensures refl refl)
