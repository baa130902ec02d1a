-- Fronts of an accepted script, step by step: what those need who put its steps one after another.
use Rattle.std.proofs.Common.{◌≡◌, ◌∙◌, ◌<◌, List, [], ◌∷◌, ◌++◌, length, sym, ap, arith, append-nil, length-append}
use Rattle.std.proofs.lemmas.List.{length-map}
use Rattle.std.proofs.lemmas.List.Sums.{fold-append}
use Rattle.gfx_script.specs.Kinds.{KindedStep, Fits}
use Rattle.gfx_script.specs.Script.{IsAccepted}
use Rattle.gfx_script.specs.Scripted.{Script}
use Rattle.gfx_script.specs.declared.step.Step.{Step}
use Rattle.gfx_state.specs.Sending.{sent}
use Rattle.gfx_state.proofs.Sent.{sent-append}
use Rattle.gfx_planner.specs.Server.{Server, at_start}
use Rattle.gfx_planner.specs.Allowed.{KeepsFrame, IsAllowed}
use Rattle.gfx_planner.specs.Stream.{stream, sends, served, end_after, stream_of}
use Rattle.gfx_planner.specs.declared.planner.TheConstants.{MOST_FRAMES}
use Rattle.gfx_planner.proofs.Streams.{bare, along, held_through-cons, stream-nil, stream-cons, stream-append}

-- one more step ---------------------------------------------------------------------------------------

-- what the planner needs to put the next step
pub record MayPut (script : Script) (server : Server) (one : KindedStep) : Type 0 where
  pub keeps : KeepsFrame server
  pub few : server.frames < MOST_FRAMES
  pub allowed : IsAllowed script server one

-- fewer steps stand before one of a script than it has
front_below : (front rest : List KindedStep) (one : KindedStep) (steps : List Step) → bare (front ++ one ∷ rest) ≡ steps → length front < length steps
front_below front rest one steps same =
    let all : length (front ++ one ∷ rest) ≡ length steps = sym (length-map (front ++ one ∷ rest) (λ (k : KindedStep). k.step)) ∙ ap length same in
    omega (arith, length-append front (one ∷ rest), all)

-- an accepted script's next step may be put
pub may_put : (script : Script) (front : List KindedStep) (one : KindedStep) (rest : List KindedStep) → IsAccepted script → Fits (front ++ one ∷ rest) script.steps → MayPut script (end_after script front) one
may_put script front one rest good fits =
    let a = along script front (one ∷ rest) good fits in
    let c = held_through-cons a.held a.last one.step (bare rest) a.checked in
    let stands = a.streams.stands in
    let below = front_below front rest one script.steps fits.same in
    record {
      keeps = stands.frame;
      few = let most = a.streams.frames in let limit = good.few in omega arith;
      allowed = record { numbers = a.numbers.0; kind = a.kinds.0; held = a.held; holds = stands.holds; after = c.0; checked = c.1 };
    }

pub end_after-one : (script : Script) (xs : List KindedStep) (one : KindedStep) → end_after script (xs ++ one ∷ []) ≡ served script (end_after script xs) one
end_after-one script xs one = fold-append (served script) (at_start script.small) xs (one ∷ [])

stream-one : (script : Script) (server : Server) (one : KindedStep) → stream script server (one ∷ []) ≡ sends script server one
stream-one script server one =
    stream-cons script server one [] ∙ ap (λ z. sends script server one ++ z) (stream-nil script (served script server one)) ∙ append-nil (sends script server one)

pub stream_of-one : (script : Script) (xs : List KindedStep) (one : KindedStep) → stream_of script (xs ++ one ∷ []) ≡ stream_of script xs ++ sent (sends script (end_after script xs) one)
stream_of-one script xs one =
    let start = at_start script.small in
    ap sent (stream-append script start xs (one ∷ []) ∙ ap (λ z. stream script start xs ++ z) (stream-one script (end_after script xs) one))
    ∙ sent-append (stream script start xs) (sends script (end_after script xs) one)
