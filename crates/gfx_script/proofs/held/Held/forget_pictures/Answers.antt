use Rattle.std.proofs.Common.{◌≡◌, ◌++◌, ◌∙◌, ap, sym, subst, replicate, arith}
use Rattle.gfx_script.specs.Checks.{Held}
use Rattle.gfx_script.specs.Drafts.{sides_of}
use Rattle.gfx_script.specs.Forgetting.{blank, sides_forgotten}
use Rattle.gfx_script.specs.Inside.{held_of}
use Rattle.gfx_script.proofs.ForgottenItems.{forgotten_before, others_dropped}
use Rattle.gfx_script.proofs.held.Held.forget_pictures.Goals as goal

pub returns-then-count-self : goal.returns-then-count-self
returns-then-count-self c =
    subst (λ (h : Held). h ≡ sides_forgotten c.args.count h) c.self.view_is
    (ap (λ l. record (held_of c.self.inside) { pictures = l }) (sym (forgotten_before c.args.count c.self.inside.forgotten (sides_of blank) c.self.inside.pictures.items c.if-count-self.true)))

pub returns : goal.returns
returns c =
    subst (λ (h : Held). held_of record { forgotten = c.args.count; pictures = c.drop-drain.new.self.0; sides = c.self.inside.sides; cells = c.self.inside.cells; stock = c.self.inside.stock } ≡ sides_forgotten c.args.count h) c.self.view_is
    (ap (λ l. record (held_of c.self.inside) { pictures = replicate c.args.count (sides_of blank) ++ l })
    (c.drop-drain.ensures.items ∙ c.drain.ensures.kept ∙ sym (others_dropped c.args.count c.self.inside.forgotten (sides_of blank) c.self.inside.pictures.items (omega (arith, c.if-count-self.false)))))
