-- What is seen at acknowledged frames.
use Rattle.std.proofs.Common.{◌≡◌, ◌∙◌, List, [], ◌∷◌, ◌++◌, fold, take, drop, refl, sym, ap, subst, take-append-drop}
use Rattle.std.specs.List.{AllByRecursion}
use Rattle.gfx_schedule.specs.Feeding.{Event, Feeding, Grows, IsFeed, IsGood, StaysGood, Takes, fed_at_start, fed_from, goes_on, start_of}
use Rattle.gfx_schedule.specs.Schedule.{IsShownFrom, KeepsWorldFrom}
use Rattle.gfx_schedule.specs.Starts.{MayImport, MayStart, Start, from_kept, from_nothing}
use Rattle.gfx_schedule.specs.World.{Acknowledged, World, world, world_from}
use Rattle.gfx_schedule.proofs.FedPromises.{every_fed_import, every_feed, every_feed_from_nothing}
use Rattle.gfx_schedule.proofs.FeedingScripts.{other}
use Rattle.gfx_schedule.proofs.Importing.{every_import}
use Rattle.gfx_schedule.proofs.Turns.{every_schedule, every_schedule_from}
use Rattle.gfx_script.specs.Kinds.{KindedStep}
use Rattle.gfx_script.specs.Script.{IsAcceptedFrom}
use Rattle.gfx_script.specs.Scripted.{Script}
use Rattle.gfx_surface_map.specs.Shown.{Shown}
use Rattle.gfx_planner.specs.Server.{at_start}
use Rattle.gfx_planner.specs.Tiles.{HoldsTiles}
use Rattle.gfx_planner.proofs.Streams.{bare}
use Rattle.gfx_laws.specs.Acknowledged.{EveryFedImportShowsItsScript, EveryFeedFromNothingShowsItsScript, EveryFeedShowsItsScript, EveryImportShowsItsScript, EverySessionShowsItsScript, EveryStartShowsItsScript, IsSeen, ShowsItsScript}
use Rattle.gfx_laws.specs.Seen.{ArePictures, MayGo, PixelsAreAsWritten}
use Rattle.gfx_laws.proofs.Premising.{goes-from-kept, goes-from-nothing}
use Rattle.gfx_laws.proofs.Seeing.{pixels-as-written}

-- ---- an acknowledged frame

seen-at : (start : Start) (script : Script) (kinded : List KindedStep) (ack : Acknowledged) → MayGo start script kinded → IsShownFrom start script kinded ack → IsSeen start script kinded ack
seen-at start script kinded ack go shown = record {
  shown = shown;
  pixels = subst (λ (s : Shown). PixelsAreAsWritten start script (take ack.step kinded) s.surfaces) (sym shown.client.shown)
      (pixels-as-written start script (take ack.step kinded) (drop ack.step kinded) (subst (MayGo start script) (sym (take-append-drop ack.step kinded)) go));
}

all-seen : (start : Start) (script : Script) (kinded : List KindedStep) (acks : List Acknowledged) → MayGo start script kinded → AllByRecursion (IsShownFrom start script kinded) acks → AllByRecursion (IsSeen start script kinded) acks
all-seen start script kinded [] go all = tt
all-seen start script kinded (ack ∷ acks) go all = (seen-at start script kinded ack go all.0, all-seen start script kinded acks go all.1)

-- what keeps the promise of the schedule shows its script
shows : (start : Start) (script : Script) (kinded : List KindedStep) (w : World) → MayGo start script kinded → KeepsWorldFrom start script kinded w → ShowsItsScript start script kinded w
shows start script kinded w go keeps = record {
  started = keeps.started;
  client_goes_on = keeps.client_goes_on;
  server_goes_on = keeps.server_goes_on;
  behind = keeps.behind;
  there = keeps.there;
  shown = all-seen start script kinded w.acks go keeps.shown;
  window = keeps.window;
  rising = keeps.rising;
}

pub every-start : EveryStartShowsItsScript
every-start start script kinded turns go wider =
    shows start script kinded (world_from start script kinded turns) go (every_schedule_from start script kinded turns go.accepted go.fits go.may wider)

pub every-session : EverySessionShowsItsScript
every-session script kinded turns good fits =
    shows (from_nothing script) script kinded (world script kinded turns) (goes-from-nothing script kinded good fits) (every_schedule script kinded turns good fits)

pub every-import : EveryImportShowsItsScript
every-import script server client kinded turns may fits agrees =
    shows (from_kept script server client) script kinded (world_from (from_kept script server client) script kinded turns) (goes-from-kept script server client kinded may fits)
    ((every_import script server client kinded turns may fits).agreed agrees)

-- ---- a session that is fed

good-after : (start : Start) (fed : Feeding) (events : List Event) → StaysGood start fed events → IsGood start (fold goes_on fed events)
good-after start fed [] good = good
good-after start fed (event ∷ events) good = good-after start (goes_on fed event) events good.1

-- its script keeps its head
head-after : (head : Script) (fed : Feeding) (events : List Event) → fed.script ≡ other head fed.script.pictures fed.script.steps
    → (fold goes_on fed events).script ≡ other head (fold goes_on fed events).script.pictures (fold goes_on fed events).script.steps
unfolding goes_on
head-after head fed [] has = has
head-after head fed (Grows pictures more ∷ events) has =
    head-after head (goes_on fed (Grows pictures more)) events (ap (λ z. other z (fed.script.pictures ++ pictures) (fed.script.steps ++ bare more)) has)
head-after head fed (Takes turn ∷ events) has = head-after head (goes_on fed (Takes turn)) events has

module _ (start : Start) (head : Script) (events : List Event) (feed : IsFeed start head events) where
  abbrev fed : Feeding
  fed = fed_from start head events

  pub last-good : IsGood start fed
  last-good = good-after start (fed_at_start start head) events feed.good

  pub has-head : fed.script ≡ other head fed.script.pictures fed.script.steps
  has-head = head-after head (fed_at_start start head) events refl

  fed-starts : MayStart head start → MayStart fed.script (start_of start fed.script)
  fed-starts may = record {
    holds = record {
      drawn = last-good.accepted.pictures;
      same = refl;
      surfaces = may.holds.surfaces;
      bitmaps = may.holds.bitmaps;
      setting = last-good.accepted.setting;
      tiles = subst (λ z. HoldsTiles z start.server.passes.live start.server.state.records start.server.state.shown.surfaces) (sym (ap (λ z. z.setting) has-head)) may.holds.tiles;
      number = may.holds.number;
      rings = may.holds.rings;
    };
    agrees = may.agrees;
    closed = may.closed;
    frames = may.frames;
    greets = λ unconfirmed. may.greets unconfirmed ∙ ap at_start (sym (ap (λ z. z.small) has-head));
  }

  pub fed-goes : MayStart head start → ArePictures start.wanted.shown.surfaces → MayGo (start_of start fed.script) fed.script fed.kinded
  fed-goes may are = record { accepted = last-good.accepted; fits = last-good.fits; may = fed-starts may; pictures = are }

pub feeds : EveryFeedShowsItsScript
feeds start head events feed may are wider =
    let fed : Feeding = fed_from start head events in
    shows (start_of start fed.script) fed.script fed.kinded fed.world (fed-goes start head events feed may are) (every_feed start head events feed may wider)

pub feeds-from-nothing : EveryFeedFromNothingShowsItsScript
feeds-from-nothing head events feed =
    let start : Start = from_nothing head in
    let fed : Feeding = fed_from start head events in
    let good : IsGood start fed = last-good start head events feed in
    let begins : from_nothing fed.script ≡ start_of start fed.script = ap from_nothing (has-head start head events feed) in
    shows (from_nothing fed.script) fed.script fed.kinded fed.world
    (goes-from-nothing fed.script fed.kinded (subst (λ (s : Start). IsAcceptedFrom s.held fed.script) (sym begins) good.accepted) good.fits) (every_feed_from_nothing head events feed)

pub feeds-from-kept : EveryFedImportShowsItsScript
feeds-from-kept head server client events feed may agrees =
    let start : Start = from_kept head server client in
    let fed : Feeding = fed_from start head events in
    let good : IsGood start fed = last-good start head events feed in
    let has = has-head start head events feed in
    let begins : from_kept fed.script server client ≡ start_of start fed.script = ap (λ z. from_kept z server client) has in
    let later : MayImport (other head fed.script.pictures fed.script.steps) server client = record {
      accepted = record { start = may.accepted.start; accepted = subst (IsAcceptedFrom (start_of start fed.script).held) has good.accepted };
      start = may.start;
      sides = may.sides;
    } in
    shows (from_kept fed.script server client) fed.script fed.kinded fed.world
    (goes-from-kept fed.script server client fed.kinded (subst (λ z. MayImport z server client) (sym has) later) good.fits) ((every_fed_import head server client events feed may).agreed agrees)
