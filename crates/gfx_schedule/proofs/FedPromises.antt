-- What holds of every session holds of one that is fed, since it is one of the whole script so far.
use Rattle.std.proofs.Common.{◌≡◌, List, [], ◌∷◌, ◌++◌, fold, refl, sym, ap, ◌∙◌, subst}
use Rattle.gfx_bitmap_cache.specs.Slots.{Entry}
use Rattle.gfx_script.specs.Script.{IsAcceptedFrom}
use Rattle.gfx_script.specs.Scripted.{Script}
use Rattle.gfx_state.proofs.Wider.{started_fresh}
use Rattle.gfx_planner.specs.Server.{at_start}
use Rattle.gfx_planner.specs.Tiles.{HoldsTiles}
use Rattle.gfx_planner.proofs.Streams.{bare}
use Rattle.gfx_schedule.specs.Feeding.{Event, Grows, Takes, Feeding, goes_on, fed_at_start, fed_from, start_of, IsGood, StaysGood, IsFeed, EveryFeed, EveryFeedAlike, EveryFeedFromNothing, EveryFedImport}
use Rattle.gfx_schedule.specs.Schedule.{KeepsWorldFrom, KeepsAlikeFrom}
use Rattle.gfx_schedule.specs.Starts.{MayImport, MayStart, Start, from_kept, from_nothing}
use Rattle.gfx_schedule.specs.World.{world_from}
use Rattle.gfx_schedule.proofs.Fed.{feeding_is_scripting}
use Rattle.gfx_schedule.proofs.FeedingScripts.{other}
use Rattle.gfx_schedule.proofs.Importing.{every_import}
use Rattle.gfx_schedule.proofs.Turns.{every_schedule_from, every_schedule_alike, may_start}

-- the script is good at first and at last ----------------------------------------------------------------------------------

good_now : (start : Start) (fed : Feeding) (events : List Event) → StaysGood start fed events → IsGood start fed
good_now start fed [] good = good
good_now start fed (event ∷ events) good = good.0

good_after : (start : Start) (fed : Feeding) (events : List Event) → StaysGood start fed events → IsGood start (fold goes_on fed events)
good_after start fed [] good = good
good_after start fed (event ∷ events) good = good_after start (goes_on fed event) events good.1

first_good : (start : Start) (head : Script) (events : List Event) → IsFeed start head events → IsGood start (fed_at_start start head)
first_good start head events feed = good_now start (fed_at_start start head) events feed.good

last_good : (start : Start) (head : Script) (events : List Event) → IsFeed start head events → IsGood start (fed_from start head events)
last_good start head events feed = good_after start (fed_at_start start head) events feed.good

-- and keeps its head -------------------------------------------------------------------------------------------------------

HasHead : Script → Feeding → Type 0
HasHead head fed = fed.script ≡ other head fed.script.pictures fed.script.steps

head_goes_on : (head : Script) (fed : Feeding) (event : Event) → HasHead head fed → HasHead head (goes_on fed event)
unfolding HasHead goes_on
head_goes_on head fed (Grows pictures more) has = ap (λ z. other z (fed.script.pictures ++ pictures) (fed.script.steps ++ bare more)) has
head_goes_on head fed (Takes turn) has = has

head_after : (head : Script) (fed : Feeding) (events : List Event) → HasHead head fed → HasHead head (fold goes_on fed events)
head_after head fed [] has = has
head_after head fed (event ∷ events) has = head_after head (goes_on fed event) events (head_goes_on head fed event has)

has_head : (start : Start) (head : Script) (events : List Event) → HasHead head (fed_from start head events)
unfolding HasHead
has_head start head events = head_after head (fed_at_start start head) events refl

-- so a session of the whole script may start there -------------------------------------------------------------------------

may_start_fed : (start : Start) (head : Script) (fed : Feeding) → IsGood start fed → HasHead head fed → MayStart head start → MayStart fed.script (start_of start fed.script)
unfolding HasHead
may_start_fed start head fed good has may = record {
  holds = record {
    drawn = good.accepted.pictures;
    same = refl;
    surfaces = may.holds.surfaces;
    bitmaps = may.holds.bitmaps;
    setting = good.accepted.setting;
    tiles = subst (λ z. HoldsTiles z start.server.passes.live start.server.state.records start.server.state.shown.surfaces) (sym (ap (λ z. z.setting) has)) may.holds.tiles;
    number = may.holds.number;
    rings = may.holds.rings;
  };
  agrees = may.agrees;
  closed = may.closed;
  frames = may.frames;
  greets = λ unconfirmed. may.greets unconfirmed ∙ ap at_start (sym (ap (λ z. z.small) has));
}

nothing_fed : (head : Script) (fed : Feeding) → HasHead head fed → from_nothing fed.script ≡ start_of (from_nothing head) fed.script
unfolding HasHead
nothing_fed head fed has = ap from_nothing has

kept_fed : (head : Script) (fed : Feeding) (server client : List Entry) → HasHead head fed → from_kept fed.script server client ≡ start_of (from_kept head server client) fed.script
unfolding HasHead
kept_fed head fed server client has = ap (λ z. from_kept z server client) has

may_import_fed : (head : Script) (fed : Feeding) (server client : List Entry) → HasHead head fed → IsGood (from_kept head server client) fed → MayImport head server client → MayImport fed.script server client
unfolding HasHead
may_import_fed head fed server client has good may =
    let one : MayImport (other head fed.script.pictures fed.script.steps) server client = record {
      accepted = record { start = may.accepted.start; accepted = subst (IsAcceptedFrom (start_of (from_kept head server client) fed.script).held) has good.accepted };
      start = may.start;
      sides = may.sides;
    } in
    subst (λ z. MayImport z server client) (sym has) one

-- the promises -------------------------------------------------------------------------------------------------------------

pub every_feed : EveryFeed
every_feed start head events feed may wider =
    let fed : Feeding = fed_from start head events in
    let at = feeding_is_scripting start head events feed in
    let now = last_good start head events feed in
    let begins = may_start_fed start head fed now (has_head start head events) may in
    subst (KeepsWorldFrom (start_of start fed.script) fed.script fed.kinded) (sym at.is)
    (every_schedule_from (start_of start fed.script) fed.script fed.kinded at.turns now.accepted now.fits begins wider)

pub every_feed_alike : EveryFeedAlike
every_feed_alike start head events feed may alike =
    let fed : Feeding = fed_from start head events in
    let at = feeding_is_scripting start head events feed in
    let now = last_good start head events feed in
    let begins = may_start_fed start head fed now (has_head start head events) may in
    subst (KeepsAlikeFrom (start_of start fed.script) fed.script fed.kinded) (sym at.is)
    (every_schedule_alike (start_of start fed.script) fed.script fed.kinded at.turns record { accepted = now.accepted; fits = now.fits; may = begins; alike = alike })

pub every_feed_from_nothing : EveryFeedFromNothing
every_feed_from_nothing head events feed =
    let start : Start = from_nothing head in
    let fed : Feeding = fed_from start head events in
    subst (λ z. KeepsWorldFrom z fed.script fed.kinded fed.world) (sym (nothing_fed head fed (has_head start head events)))
    (every_feed start head events feed (may_start head (first_good start head events feed).accepted) (started_fresh head.small))

pub every_fed_import : EveryFedImport
every_fed_import head server client events feed may =
    let start : Start = from_kept head server client in
    let fed : Feeding = fed_from start head events in
    let has = has_head start head events in
    let at = feeding_is_scripting start head events feed in
    let now = last_good start head events feed in
    let world_is : fed.world ≡ world_from (from_kept fed.script server client) fed.script fed.kinded at.turns =
    at.is ∙ ap (λ z. world_from z fed.script fed.kinded at.turns) (sym (kept_fed head fed server client has)) in
    let holds = every_import fed.script server client fed.kinded at.turns (may_import_fed head fed server client has now may) now.fits in
    record {
      alike = subst (KeepsAlikeFrom (from_kept fed.script server client) fed.script fed.kinded) (sym world_is) holds.alike;
      agreed = λ agreed. subst (KeepsWorldFrom (from_kept fed.script server client) fed.script fed.kinded) (sym world_is) (holds.agreed agreed);
    }
