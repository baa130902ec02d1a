-- A session under way, whose left steps go as choosers choose.
use Rattle.std.proofs.Common.{◌≡◌, ℕ, ◌+◌, ◌-◌, ◌≤◌, Bool, false, List, [], ◌∷◌, ◌++◌, length, map, take, drop, Result, Ok, Err, refl, sym, ap, ◌∙◌, subst, arith}
use Rattle.std.specs.List.{AllByRecursion}
use Rattle.std.proofs.lemmas.List.{map-append, length-map, length-take-le, take-append-drop, take-map, drop-drop}
use Rattle.std.proofs.lemmas.List.Sums.{fold-append}
use Rattle.std.proofs.Math.Seq.{take-append_seam, drop-append_seam}
use Rattle.gfx_base.specs.declared.answer.NoMemory.{NoMemory}
use Rattle.gfx_chooser.specs.Choosing.{Chooser}
use Rattle.gfx_chooser.specs.Kinded.{Asks}
use Rattle.gfx_chooser.specs.Kinded as chosen
use Rattle.gfx_chooser.proofs.Asking.{asks_none, bare_kinded, kinds_kinded, kinded_asked}
use Rattle.gfx_planner.proofs.Lists.{all_both, all_front}
use Rattle.gfx_schedule.proofs.Unseen.{with_left, unseen, left_behind, last_within_all}
use Rattle.gfx_schedule.specs.Starts.{MayBegin, Start}
use Rattle.gfx_schedule.specs.World.{World, begin_from, happens, world_from}
use Rattle.gfx_script.specs.Kinds.{KindedStep, HasKind, Fits}
use Rattle.gfx_script.specs.Scripted.{Script}
use Rattle.gfx_script.specs.declared.step.Step.{Step}
use Rattle.gfx_script.specs.declared.turn.Turn.{Turn}
use Rattle.gfx_session.specs.Kept.{GoesBy, IsServerEnd}
use Rattle.gfx_session.specs.Session.{Stands, StandsBy, IsUnderWay, IsSession, script_of}
use Rattle.gfx_session.specs.Turning.{Does, DoesBy}
use Rattle.gfx_session.specs.declared.session.Session.{Session}
use Rattle.gfx_session.proofs.Plans.{moved}

abbrev pub bare : List KindedStep → List Step
bare steps = map (λ (one : KindedStep). one.step) steps

-- the kinds of what is left ------------------------------------------------------------------------------

-- the steps of a script behind a number, as these choosers choose
abbrev pub chosen_behind : Script → List Chooser → ℕ → List KindedStep
chosen_behind script choosers last = chosen.kinded script (last + 1) choosers (drop last script.steps)

-- the first so many keep the kinds that they have
abbrev pub chosen_from : Script → List Chooser → ℕ → List KindedStep → List KindedStep
chosen_from script choosers last all = take last all ++ chosen_behind script choosers last

same_steps : (script : Script) (choosers : List Chooser) (last : ℕ) (all : List KindedStep) → bare all ≡ script.steps → bare (chosen_from script choosers last all) ≡ script.steps
same_steps script choosers last all same =
    map-append (λ (one : KindedStep). one.step) (take last all) (chosen_behind script choosers last)
    ∙ (λ i. sym (take-map (λ (one : KindedStep). one.step) last all) i ++ bare_kinded script (last + 1) choosers (drop last script.steps) i)
    ∙ ap (λ z. take last z ++ drop last script.steps) same
    ∙ take-append-drop last script.steps

chosen_fit : (script : Script) (choosers : List Chooser) (last : ℕ) (all : List KindedStep) → Fits all script.steps → Fits (chosen_from script choosers last all) script.steps
chosen_fit script choosers last all fits = record {
  same = same_steps script choosers last all fits.same;
  kinds =
      let first = all_front HasKind (take last all) (drop last all) (subst (AllByRecursion HasKind) (sym (take-append-drop last all)) fits.kinds) in
      all_both HasKind (take last all) (chosen_behind script choosers last) first (kinds_kinded script (last + 1) choosers (drop last script.steps));
}

-- a session stands for another world, where what is left goes as other kinds
with_left_stands : (session : Session) (w : World) (left : List KindedStep) → bare left ≡ drop w.server.last (script_of session).steps → Stands session w → Stands session (with_left left w)
with_left_stands session w left same s = record {
  fresh = s.fresh;
  server = record {
    fresh = s.server.fresh;
    left = same;
    last = s.server.last;
    planned = s.server.planned;
    listens = record {
      window = s.server.listens.window;
      ends = s.server.listens.ends;
      even = s.server.listens.even;
      confirmed = s.server.listens.confirmed;
      closed = s.server.listens.closed;
      heard = s.server.listens.heard;
      short = s.server.listens.short;
    };
  };
  offers = s.offers;
  client = s.client;
  brought = s.brought;
  drained = s.drained;
  down = s.down;
  up = s.up;
  drawn = s.drawn;
  acks = s.acks;
}

-- a session under way, whose left steps go as these choosers choose
pub record IsUnderWayBy (session : Session) (choosers : List Chooser) : Type 0 where
  pub origin : Start
  pub kinded : List KindedStep
  pub begins : MayBegin origin (script_of session) kinded
  pub turns : List Turn
  pub stands : StandsBy session choosers (script_of session) (world_from origin (script_of session) kinded turns)

-- whatever choosers are brought
pub by_choosers : (session : Session) (choosers : List Chooser) → IsUnderWay session → IsUnderWayBy session choosers
by_choosers session choosers u =
    let script : Script = script_of session in
    let w : World = world_from u.origin script u.kinded u.turns in
    let last : ℕ = w.server.last in
    let front : List KindedStep = take last u.kinded in
    let left : List KindedStep = chosen_behind script choosers last in
    let count : length front ≡ last = length-take-le last u.kinded (last_within_all u.origin script u.kinded u.turns) in
    let same : bare (front ++ left) ≡ bare u.kinded = same_steps script choosers last u.kinded u.begins.fits.same ∙ sym u.begins.fits.same in
    let first : take last (front ++ left) ≡ front = ap (λ n. take n (front ++ left)) (sym count) ∙ take-append_seam front left in
    let behind : drop last (front ++ left) ≡ left = ap (λ n. drop n (front ++ left)) (sym count) ∙ drop-append_seam front left in
    let is : world_from u.origin script (front ++ left) u.turns ≡ with_left left w = unseen u.origin script u.kinded (front ++ left) u.turns same first ∙ ap (λ z. with_left z w) behind in
    let stands : StandsBy session choosers script (with_left left w) = record {
      stands = with_left_stands session w left (bare_kinded script (last + 1) choosers (drop last script.steps)) u.stands;
      goes_by = refl;
    } in
    record {
      origin = u.origin;
      kinded = front ++ left;
      begins = moved u.begins (chosen_fit script choosers last u.kinded u.begins.fits);
      turns = u.turns;
      stands = subst (StandsBy session choosers script) (sym is) stands;
    }

-- and after a turn ------------------------------------------------------------------------------------------

-- what is left then goes as the choosers choose that are left
pub left_by : (origin : Start) (script : Script) (all : List KindedStep) (turns more : List Turn) (a b : ℕ) (cs ds : List Chooser) → Fits all script.steps → Asks script a b cs ds → a ≡ (world_from origin script all turns).server.last → b ≡ (world_from origin script all more).server.last
    → GoesBy script cs (world_from origin script all turns).server → GoesBy script ds (world_from origin script all more).server
left_by origin script all turns more a b cs ds fits asks a_is b_is goes =
    let reached : a + (b - a) ≡ b = omega (arith, asks.further) in
    let count : length all ≡ length script.steps = sym (length-map all (λ (one : KindedStep). one.step)) ∙ ap length fits.same in
    let within : b ≤ length script.steps = omega (arith, last_within_all origin script all more, b_is, count) in
    let here : drop a all ≡ chosen_behind script cs a = ap (λ n. drop n all) a_is ∙ sym (left_behind origin script all turns) ∙ goes ∙ ap (chosen_behind script cs) (sym a_is) in
    left_behind origin script all more
    ∙ ap (λ n. drop n all) (sym b_is ∙ sym reached)
    ∙ sym (drop-drop (b - a) a all)
    ∙ ap (drop (b - a)) here
    ∙ kinded_asked script a b cs ds asks within
    ∙ ap (chosen_behind script ds) b_is

-- one more turn
pub one_more : (origin : Start) (script : Script) (all : List KindedStep) (turns : List Turn) (turn : Turn) → world_from origin script all (turns ++ turn ∷ []) ≡ happens script (world_from origin script all turns) turn
one_more origin script all turns turn = fold-append (happens script) (begin_from origin script all) turns (turn ∷ [])

pub stands_by : (old new : Session) (cs ds : List Chooser) (moved : Bool) (turn : Turn) (origin : Start) (all : List KindedStep) (turns : List Turn) → DoesBy (Ok moved) old new cs ds turn → MayBegin origin (script_of old) all
    → StandsBy old cs (script_of old) (world_from origin (script_of old) all turns) → StandsBy new ds (script_of old) (world_from origin (script_of old) all (turns ++ turn ∷ []))
stands_by old new cs ds moved turn origin all turns does may s =
    let script : Script = script_of old in
    let there : Stands new (world_from origin script all (turns ++ turn ∷ [])) = subst (Stands new) (sym (one_more origin script all turns turn)) (does.1.2 origin all turns may s.stands s.goes_by).0 in
    record {
      stands = there;
      goes_by = left_by origin script all turns (turns ++ turn ∷ []) old.server.last new.server.last cs ds may.fits does.0 s.stands.server.last there.server.last s.goes_by;
    }

-- no chooser is asked where no step is queued
pub by_any : (old new : Session) (cs : List Chooser) (moved : Bool) (turn : Turn) → Does (Ok moved) old new turn → DoesBy (Ok moved) old new cs cs turn
by_any old new cs moved turn does = (
  subst (λ n. Asks (script_of old) old.server.last n cs cs) (sym does.1) (asks_none (script_of old) old.server.last cs),
  (does.0.0, does.0.1, λ origin all turns may s goes. does.0.2 origin all turns may s tt, does.0.3),
)

-- whatever it answers
pub by_none : (result : Result Bool NoMemory) (old new : Session) (cs : List Chooser) (turn other : Turn) → turn ≡ other → Does result old new other → DoesBy result old new cs cs turn
by_none (Ok moved) old new cs turn other is does = by_any old new cs moved turn (subst (Does (Ok moved) old new) (sym is) does)
by_none (Err e) old new cs turn other is does = does

-- what stays a session --------------------------------------------------------------------------------------

pub is_on_by : (old new : Session) (cs ds : List Chooser) (moved : Bool) (turn : Turn) → IsSession old → old.spent ≡ false → IsServerEnd new.server → DoesBy (Ok moved) old new cs ds turn → IsSession new
is_on_by old new cs ds moved turn is fresh server does =
    let u = by_choosers old cs (is.under_way fresh) in
    let s = stands_by old new cs ds moved turn u.origin u.kinded u.turns does u.begins u.stands in
    let same : script_of new ≡ script_of old = does.1.1 in
    record {
      server = server;
      under_way = λ still. record {
        origin = u.origin;
        kinded = u.kinded;
        begins = subst (λ (z : Script). MayBegin u.origin z u.kinded) (sym same) u.begins;
        turns = u.turns ++ turn ∷ [];
        stands = subst (λ (z : Script). Stands new (world_from u.origin z u.kinded (u.turns ++ turn ∷ []))) (sym same) s.stands;
      };
    }

pub is_on : (old new : Session) (moved : Bool) (turn : Turn) → IsSession old → old.spent ≡ false → IsServerEnd new.server → Does (Ok moved) old new turn → IsSession new
is_on old new moved turn is fresh server does = is_on_by old new [] [] moved turn is fresh server (by_any old new [] moved turn does)
