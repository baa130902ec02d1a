-- What is good stays good by checks of what is new alone, and a server's end in step with its script is so with a longer one.
use Rattle.std.proofs.Common.{◌≡◌, ◌≤◌, List, [], ◌∷◌, ◌++◌, length, Ok, refl, sym, ap, ◌∙◌, subst, append_assoc, arith}
use Rattle.std.specs.List.{AllByRecursion}
use Rattle.std.proofs.lemmas.List.{map-append, length-map}
use Rattle.gfx_script.specs.Checks.{Held, held_through, sides_of_all}
use Rattle.gfx_script.specs.declared.held.Sides.{Sides}
use Rattle.gfx_script.specs.Kinds.{KindedStep, Fits, HasKind}
use Rattle.gfx_script.specs.Pictures.{IsDrawn}
use Rattle.gfx_script.specs.Script.{IsAcceptedFrom, IsStep}
use Rattle.gfx_script.specs.Scripted.{Script}
use Rattle.gfx_script.specs.declared.picture.Picture.{Picture}
use Rattle.gfx_script.specs.declared.step.Step.{Step}
use Rattle.gfx_script.specs.declared.turn.Turn.{Turn}
use Rattle.gfx_planner.specs.Agree.{Agree}
use Rattle.gfx_planner.proofs.Lists.{all_both}
use Rattle.gfx_planner.proofs.Streams.{bare}
use Rattle.gfx_schedule.specs.Feeding.{Event, Feeding, Grows, StaysGood, IsGood, Takes, fed_at_start, goes_on, grown, start_of, with_more}
use Rattle.gfx_schedule.specs.Forgetting.{Sees}
use Rattle.gfx_schedule.specs.Growing.{AreChecked, BeganInStep, ChecksMakeFeeds, GrowthIsGood, GrowthIsPlanned, GrowthStaysInStep, MayGrow}
use Rattle.gfx_schedule.specs.ServerEnd.{ScheduledEnd}
use Rattle.gfx_schedule.specs.Starts.{MayStart, Start}
use Rattle.gfx_schedule.proofs.FeedingScripts.{want_same}
use Rattle.gfx_schedule.proofs.FeedingTurns.{all_name, all_see}
use Rattle.gfx_script.proofs.MoreSteps.{more_sides, through_more, through_both, framed_both, sides_both}

-- a longer script is accepted --------------------------------------------------------------------------------------------

-- its start
held_grown : (start : Start) (script : Script) (pictures : List Picture) (more : List KindedStep)
    → (start_of start (grown script pictures more)).held ≡ more_sides (start_of start script).held (sides_of_all pictures)
held_grown start script pictures more = ap (λ z. record start.held { pictures = z }) (sides_both script.pictures pictures)

grown_accepted : (start : Start) (script : Script) (pictures : List Picture) (more : List KindedStep) (good : IsAcceptedFrom (start_of start script).held script) → MayGrow good.held script pictures more
    → IsAcceptedFrom (start_of start (grown script pictures more)).held (grown script pictures more)
grown_accepted start script pictures more good may =
    let sides : List Sides = sides_of_all pictures in
    let first : Held = more_sides (start_of start script).held sides in
    let so_far = through_more (start_of start script).held good.held sides script.steps good.checked in
    record {
      window_from = good.window_from;
      window_most = good.window_most;
      some_offers = good.some_offers;
      few_offers = good.few_offers;
      offers = good.offers;
      setting = good.setting;
      small = good.small;
      thin = good.thin;
      few_pictures = may.few_pictures;
      pictures = all_both IsDrawn script.pictures pictures good.pictures may.drawn;
      few = may.few;
      numbers = all_both IsStep script.steps (bare more) good.numbers may.numbers;
      held = may.after;
      checked =
          ap (λ z. held_through z (script.steps ++ bare more)) (held_grown start script pictures more)
          ∙ through_both first (more_sides good.held sides) script.steps (bare more) so_far ∙ may.checked;
      framed = framed_both script.steps (bare more) good.framed may.framed;
      few_turns = good.few_turns;
      turns = good.turns;
    }

-- and its steps go as kinds that they may go as
grown_fits : (script : Script) (kinded more : List KindedStep) → Fits kinded script.steps → AllByRecursion HasKind more → Fits (kinded ++ more) (script.steps ++ bare more)
grown_fits script kinded more fits kinds = record {
  same = map-append (λ (one : KindedStep). one.step) kinded more ∙ ap (λ z. z ++ bare more) fits.same;
  kinds = all_both HasKind kinded more fits.kinds kinds;
}

pub growth_is_good : GrowthIsGood
unfolding goes_on
growth_is_good start fed good pictures more may = record {
  accepted = grown_accepted start fed.script pictures more good.accepted may;
  fits = grown_fits fed.script fed.kinded more good.fits may.kinds;
}

-- checks make feeds ------------------------------------------------------------------------------------------------------

grown_good : (start : Start) (fed : Feeding) (good : IsGood start fed) (pictures : List Picture) (more : List KindedStep) (may : MayGrow good.accepted.held fed.script pictures more)
    → (now : IsGood start (goes_on fed (Grows pictures more))) × (now.accepted.held ≡ may.after)
unfolding growth_is_good grown_accepted goes_on
grown_good start fed good pictures more may = (growth_is_good start fed good pictures more may, refl)

turned_good : (start : Start) (fed : Feeding) (turn : Turn) (good : IsGood start fed) → (now : IsGood start (goes_on fed (Takes turn))) × (now.accepted.held ≡ good.accepted.held)
unfolding goes_on
turned_good start fed turn good = (record { accepted = good.accepted; fits = good.fits }, refl)

checked_feed : (start : Start) (fed : Feeding) (events : List Event) (good : IsGood start fed) (held : Held) → good.accepted.held ≡ held → AreChecked held fed events → StaysGood start fed events
checked_feed start fed [] good held is checked = good
checked_feed start fed (Grows pictures more ∷ events) good held is checked =
    let next : (may : MayGrow good.accepted.held fed.script pictures more) × AreChecked may.after (goes_on fed (Grows pictures more)) events =
    subst (λ z. (may : MayGrow z fed.script pictures more) × AreChecked may.after (goes_on fed (Grows pictures more)) events) (sym is) checked in
    let now = grown_good start fed good pictures more next.0 in
    (good, checked_feed start (goes_on fed (Grows pictures more)) events now.0 next.0.after now.1 next.1)
checked_feed start fed (Takes turn ∷ events) good held is checked =
    let now = turned_good start fed turn good in
    (good, checked_feed start (goes_on fed (Takes turn)) events now.0 held (now.1 ∙ is) checked)

pub checks_make_feeds : ChecksMakeFeeds
checks_make_feeds start head events accepted none checked = record {
  no_step = none;
  good = checked_feed start (fed_at_start start head) events (record { accepted = accepted; fits = record { same = sym none; kinds = tt } }) accepted.held refl checked;
}

-- what is in step stays so -------------------------------------------------------------------------------------------------

of_bare : (P : Step → Type 0) (steps : List KindedStep) → AllByRecursion P (bare steps) → AllByRecursion (λ one. P one.step) steps
of_bare P [] all = tt
of_bare P (one ∷ steps) all = (all.0, of_bare P steps all.1)

-- the steps that were sent see the same pictures
gone_see : (start : Start) (script : Script) (pictures : List Picture) (gone : List KindedStep) (held : Held) → held_through (start_of start script).held (bare gone) ≡ Ok held
    → AllByRecursion (λ one. Sees script.pictures (script.pictures ++ pictures) one.step) gone
gone_see start script pictures gone held checked =
    let count : length (start_of start script).held.pictures ≤ length script.pictures =
    omega (arith, length-map script.pictures (λ (picture : Picture). let one : Sides = record { width = picture.width; height = picture.height } in one)) in
    of_bare (Sees script.pictures (script.pictures ++ pictures)) gone
    (all_see script.pictures pictures (start_of start script).held.pictures (bare gone) count (all_name (start_of start script).held held (bare gone) checked))

pub growth_is_planned : GrowthIsPlanned
growth_is_planned start script kinded end gone waiting pictures more drawn plan =
    let sides : List Sides = sides_of_all pictures in
    let want = want_same script (script.pictures ++ pictures) (script.steps ++ bare more) start.wanted gone (gone_see start script pictures gone plan.held plan.checked) in
    record {
      cut = ap (λ z. z ++ more) plan.cut ∙ append_assoc gone (waiting ++ end.left) more ∙ ap (λ z. gone ++ z) (append_assoc waiting end.left more);
      last = plan.last;
      pending = plan.pending;
      held = more_sides plan.held sides;
      checked = ap (λ z. held_through z (bare gone)) (held_grown start script pictures more) ∙ through_more (start_of start script).held plan.held sides (bare gone) plan.checked;
      holds = record {
        drawn = all_both IsDrawn script.pictures pictures plan.holds.drawn drawn;
        same = ap (λ z. z ++ sides) plan.holds.same ∙ sym (sides_both script.pictures pictures);
        surfaces = plan.holds.surfaces;
        bitmaps = plan.holds.bitmaps;
        setting = plan.holds.setting;
        tiles = plan.holds.tiles;
        number = plan.holds.number;
        rings = plan.holds.rings;
      };
      agrees = subst (Agree end.server) (sym want) plan.agrees;
      frame = plan.frame;
      frames = plan.frames;
    }

-- a session of the longer script may have begun so
grown_start : (start : Start) (script : Script) (pictures : List Picture) (more : List KindedStep) → AllByRecursion IsDrawn pictures → MayStart script (start_of start script)
    → MayStart (grown script pictures more) (start_of start (grown script pictures more))
grown_start start script pictures more drawn may = record {
  holds = record {
    drawn = all_both IsDrawn script.pictures pictures may.holds.drawn drawn;
    same = refl;
    surfaces = may.holds.surfaces;
    bitmaps = may.holds.bitmaps;
    setting = may.holds.setting;
    tiles = may.holds.tiles;
    number = may.holds.number;
    rings = may.holds.rings;
  };
  agrees = may.agrees;
  closed = may.closed;
  frames = may.frames;
  greets = may.greets;
}

stays : (origin : Start) (script : Script) (kinded : List KindedStep) (end : ScheduledEnd) (gone waiting : List KindedStep) (began : BeganInStep (start_of origin script) script kinded end gone waiting)
    (pictures : List Picture) (more : List KindedStep) → MayGrow began.begins.accepted.held script pictures more
    → BeganInStep (start_of origin (grown script pictures more)) (grown script pictures more) (kinded ++ more) (with_more end more) gone waiting
stays origin script kinded end gone waiting began pictures more may =
    let begins = began.begins in
    record {
      begins = record {
        accepted = grown_accepted origin script pictures more begins.accepted may;
        fits = grown_fits script kinded more begins.fits may.kinds;
        may = grown_start origin script pictures more may.drawn begins.may;
        alike = begins.alike;
      };
      plan = growth_is_planned origin script kinded end gone waiting pictures more may.drawn began.plan;
    }

-- the sides of a script's pictures are what its start knows
start_is : (origin : Start) (script : Script) → origin.held.pictures ≡ sides_of_all script.pictures → origin ≡ start_of origin script
start_is origin script same = λ i. record origin { held = record origin.held { pictures = same i } }

pub growth_stays_in_step : GrowthStaysInStep
growth_stays_in_step origin script kinded end gone waiting began pictures more may =
    let same : origin ≡ start_of origin script = start_is origin script began.begins.may.holds.same in
    subst
    (λ z. (b : BeganInStep z script kinded end gone waiting) → MayGrow b.begins.accepted.held script pictures more
    → BeganInStep (start_of origin (grown script pictures more)) (grown script pictures more) (kinded ++ more) (with_more end more) gone waiting)
    (sym same) (λ b m. stays origin script kinded end gone waiting b pictures more m) began may
