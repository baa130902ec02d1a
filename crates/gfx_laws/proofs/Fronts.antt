-- What holds after a front of a script, from any start.
use Rattle.std.proofs.Common.{◌≡◌, ◌+◌, ◌<◌, ◌^◌, List, ◌∷◌, ◌++◌, length, Ok, inl, sym, ap, ◌∙◌, subst, arith, length-append}
use Rattle.std.proofs.lemmas.List.{length-map, map-append}
use Rattle.std.specs.List.{AllByRecursion}
use Rattle.gfx_schedule.specs.Starts.{Start}
use Rattle.gfx_script.specs.Checks.{Held, held_after, held_through}
use Rattle.gfx_script.specs.Kinds.{HasKind, KindedStep}
use Rattle.gfx_script.specs.Script.{IsStep}
use Rattle.gfx_script.specs.Scripted.{Script}
use Rattle.gfx_planner.specs.Wanted.{Wanted}
use Rattle.gfx_planner.specs.Want.{want_from, wanted_after}
use Rattle.gfx_planner.specs.Server.{Server}
use Rattle.gfx_planner.specs.Stream.{served, served_all}
use Rattle.gfx_planner.proofs.Lists.{all_behind, all_front}
use Rattle.gfx_planner.proofs.Streams.{Goes, Stands, Streams, bare, goes, held_through-append, held_through-cons, streams}
use Rattle.gfx_laws.specs.Seen.{MayGo}

-- the server's end stands in step with what is wanted, and the steps behind it are checked
pub record Along (script : Script) (wanted : Wanted) (rest : List KindedStep) : Type 0 where
  pub server : Server
  pub held : Held
  pub stands : Stands script server held wanted
  pub few : server.frames + length rest < 2 ^ 32
  pub numbers : AllByRecursion IsStep (bare rest)
  pub kinds : AllByRecursion HasKind rest
  pub last : Held
  pub checked : held_through held (bare rest) ≡ Ok last

-- so behind each front
pub along : (start : Start) (script : Script) (front rest : List KindedStep) → MayGo start script (front ++ rest) → Along script (want_from script start.wanted front) rest
along start script front rest go =
    let good = go.accepted in
    let cut : script.steps ≡ bare front ++ bare rest = sym go.fits.same ∙ map-append (λ (one : KindedStep). one.step) front rest in
    let numbers = subst (AllByRecursion IsStep) cut good.numbers in
    let checked = ap (held_through start.held) (sym cut) ∙ good.checked in
    let c = held_through-append start.held good.held (bare front) (bare rest) checked in
    let many : length (front ++ rest) ≡ length script.steps = sym (length-map (front ++ rest) (λ (one : KindedStep). one.step)) ∙ ap length go.fits.same in
    let both : length (front ++ rest) ≡ length front + length rest = length-append front rest in
    let through : Streams script start.server front c.0 (want_from script start.wanted front) =
    streams script start.server start.held c.0 start.wanted front (omega (arith, good.few, many, both, go.may.frames))
    (record { holds = go.may.holds; agrees = go.may.agrees; frame = inl go.may.closed })
    (all_front IsStep (bare front) (bare rest) numbers) (all_front HasKind front rest go.fits.kinds) c.1 in
    record {
      server = served_all script start.server front;
      held = c.0;
      stands = through.stands;
      few = omega (arith, good.few, many, both, go.may.frames, through.frames);
      numbers = all_behind IsStep (bare front) (bare rest) numbers;
      kinds = all_behind HasKind front rest go.fits.kinds;
      last = good.held;
      checked = c.2;
    }

-- a step that may be put where the server's end stands
pub record Here (script : Script) (wanted : Wanted) (one : KindedStep) : Type 0 where
  pub server : Server
  pub held : Held
  pub stands : Stands script server held wanted
  pub numbers : IsStep one.step
  pub kind : HasKind one
  pub after : Held
  pub checked : held_after held one.step ≡ Ok after

-- the first of the steps behind
pub here : (script : Script) (wanted : Wanted) (one : KindedStep) (rest : List KindedStep) → Along script wanted (one ∷ rest) → Here script wanted one
here script wanted one rest a =
    let c = held_through-cons a.held a.last one.step (bare rest) a.checked in
    record { server = a.server; held = a.held; stands = a.stands; numbers = a.numbers.0; kind = a.kinds.0; after = c.0; checked = c.1 }

-- and those behind that
pub next : (script : Script) (wanted : Wanted) (one : KindedStep) (rest : List KindedStep) → Along script wanted (one ∷ rest) → Along script (wanted_after script wanted one) rest
next script wanted one rest a =
    let c = held_through-cons a.held a.last one.step (bare rest) a.checked in
    let first : Goes script a.server one c.0 (wanted_after script wanted one) = goes script a.server a.held c.0 wanted one (omega (arith, a.few)) a.stands a.numbers.0 a.kinds.0 c.1 in
    record {
      server = served script a.server one;
      held = c.0;
      stands = first.stands;
      few = omega (arith, a.few, first.frames);
      numbers = a.numbers.1;
      kinds = a.kinds.1;
      last = a.last;
      checked = c.2;
    }

-- a part of the steps behind is one front's, and others come behind that
pub first_part : (script : Script) (wanted : Wanted) (steps rest : List KindedStep) → Along script wanted (steps ++ rest) → Along script wanted steps
first_part script wanted steps rest a =
    let cut : bare (steps ++ rest) ≡ bare steps ++ bare rest = map-append (λ (one : KindedStep). one.step) steps rest in
    let c = held_through-append a.held a.last (bare steps) (bare rest) (ap (held_through a.held) (sym cut) ∙ a.checked) in
    record {
      server = a.server;
      held = a.held;
      stands = a.stands;
      few = omega (arith, a.few, length-append steps rest);
      numbers = all_front IsStep (bare steps) (bare rest) (subst (AllByRecursion IsStep) cut a.numbers);
      kinds = all_front HasKind steps rest a.kinds;
      last = c.0;
      checked = c.1;
    }
