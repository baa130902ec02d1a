-- What the laws take of a script, from clauses alone.
use Rattle.std.proofs.Common.{◌≡◌, ◌∷◌, false, true, ℕ, Option, Some, None, refl}
use Rattle.gfx_base.specs.declared.geometry.Point.{Point}
use Rattle.gfx_schedule.specs.Starts.{MayBegin, from_kept}
use Rattle.gfx_schedule.proofs.Importing.{import_may_begin}
use Rattle.gfx_schedule.proofs.Turns.{may_start}
use Rattle.gfx_script.specs.declared.step.Kind.{Kind}
use Rattle.gfx_script.specs.declared.step.Step.TheVariants.{Paint}
use Rattle.gfx_script.specs.Kinds.{as_kind}
use Rattle.gfx_script.specs.Scripted.{Script}
use Rattle.gfx_planner.specs.Wanted.{Wanted}
use Rattle.gfx_planner.specs.Want.{want_from}
use Rattle.gfx_planner.proofs.PaintSteps.{MayPaint}
use Rattle.gfx_laws.specs.Premises.{LiesOnSurface, MayGoFromKept, MayGoFromNothing, PaintsLieOnTheirSurface}
use Rattle.gfx_laws.proofs.Fronts.{Here, along, here}
use Rattle.gfx_laws.proofs.Pictures.{no-pictures}
use Rattle.gfx_laws.proofs.Placing.{wanted-there}
use Rattle.gfx_laws.proofs.Tiling.{paint-some}

lies : (script : Script) (wanted : Wanted) (kind named : Option Kind) (id number : ℕ) (at : Point) (glyph : Option ℕ) → Here script wanted (as_kind kind (Paint id number at named glyph)) → LiesOnSurface script wanted kind id number at
lies script wanted None named id number at glyph h = absurd (let f : false ≡ true = h.kind.0 in cc)
lies script wanted (Some kind) named id number at glyph h =
    let may : MayPaint script h.server id number at glyph = paint-some script wanted (Some kind) id number at named glyph h in
    record {
      source = may.picture;
      drawn = may.drawn;
      named = kind;
      goes = refl;
      surface = may.surface;
      there = wanted-there script wanted (Paint id number at named glyph) (Some kind) h id may.surface may.there;
      inside = may.inside;
    }

pub paints-lie : PaintsLieOnTheirSurface
paints-lie start script front rest kind named id number at glyph go =
    lies script (want_from script start.wanted front) kind named id number at glyph
    (here script (want_from script start.wanted front) (as_kind kind (Paint id number at named glyph)) rest (along start script front (as_kind kind (Paint id number at named glyph) ∷ rest) go))

pub goes-from-nothing : MayGoFromNothing
goes-from-nothing script kinded good fits = record { accepted = good; fits = fits; may = may_start script good; pictures = no-pictures }

pub goes-from-kept : MayGoFromKept
goes-from-kept script server client kinded may fits =
    let begins : MayBegin (from_kept script server client) script kinded = import_may_begin script server client kinded may fits in
    record { accepted = begins.accepted; fits = begins.fits; may = begins.may; pictures = no-pictures }
