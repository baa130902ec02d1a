-- Each line of `session` has equal digests.
use Rattle.std.proofs.Common.{◌≡◌, ℕ, zero, suc, Bool, true, false, cond, List, [], ◌∷◌, ◌++◌, length, refl, sym, subst}
use Rattle.std.specs.List.{AllByRecursion}
use Rattle.std.proofs.lemmas.List.Sums.{fold-append}
use Rattle.gfx_chooser.specs.Choosing.{Chooser}
use Rattle.gfx_chooser.specs.Kinded.{kinded_steps}
use Rattle.gfx_chooser.proofs.Asking.{kinded_fit}
use Rattle.gfx_report.specs.StateBytes.{digest_of}
use Rattle.gfx_schedule.specs.Schedule.{IsShownFrom, KeepsWorldFrom, rounds_for}
use Rattle.gfx_schedule.specs.Starts.{Start}
use Rattle.gfx_schedule.specs.World.{World, Acknowledged, begin_from, happens, world_from, round, drained, is_ended}
use Rattle.gfx_schedule.proofs.Turns.{every_schedule}
use Rattle.gfx_script.specs.Kinds.{KindedStep}
use Rattle.gfx_script.specs.Scripted.{Script}
use Rattle.gfx_script.specs.declared.turn.Turn.{Turn}
use Rattle.gfx_script.specs.declared.turn.Turn.TheVariants.{Server, Client, Answer}
use Rattle.gfx_script_text.proofs.Accepted.{accepted}
use Rattle.gfx_session.specs.Kept.{digest_in}
use Rattle.gfx_state.specs.Same.{Same}
use Rattle.gfx_state.specs.State.{State}
use Rattle.gfxpipe.specs.Laws.{EveryLineHasEqualDigests, HasEqualDigests, SessionAgrees}
use Rattle.gfxpipe.specs.Sessions.{Beginning, from_scratch, whole_session}

-- a round is three turns
record AreTurns (start : Start) (script : Script) (kinded : List KindedStep) (w : World) : Type 0 where
  pub turns : List Turn
  pub is : w ≡ world_from start script kinded turns

round_is : (start : Start) (script : Script) (kinded : List KindedStep) (turns : List Turn) → AreTurns start script kinded (round script (world_from start script kinded turns))
unfolding round
round_is start script kinded turns =
    let sent = happens script (world_from start script kinded turns) Server in
    let drawn = happens script sent (Client (length sent.down)) in
    let more = Server ∷ Client (length sent.down) ∷ Answer (length drawn.up) ∷ [] in
    record { turns = turns ++ more; is = sym (fold-append (happens script) (begin_from start script kinded) turns more) }

-- so what is drained has taken some turns
drained_is : (start : Start) (script : Script) (kinded : List KindedStep) (most : ℕ) (turns : List Turn) → AreTurns start script kinded (drained script most (world_from start script kinded turns))
drained_is start script kinded zero turns = record { turns = turns; is = refl }
drained_is start script kinded (suc most) turns =
    let further = round_is start script kinded turns in
    by (is_ended (world_from start script kinded turns)) (subst (λ w. AreTurns start script kinded (drained script most w)) (sym further.is) (drained_is start script kinded most further.turns))
  where
    by : (b : Bool) → AreTurns start script kinded (drained script most (round script (world_from start script kinded turns)))
        → AreTurns start script kinded (cond b (world_from start script kinded turns) (drained script most (round script (world_from start script kinded turns))))
    by true rest = record { turns = turns; is = refl }
    by false rest = rest

-- states that are the same have equal digests
equal_digests : (s t : State) → Same s t → digest_in t ≡ digest_in s
equal_digests s t same = sym (λ i. digest_of (same.surfaces i) (same.slots i) (same.rings i) (same.glyphs i))

equal_each : (start : Start) (script : Script) (kinded : List KindedStep) (acks : List Acknowledged) → AllByRecursion (IsShownFrom start script kinded) acks → AllByRecursion HasEqualDigests acks
equal_each start script kinded [] all = tt
equal_each start script kinded (ack ∷ acks) (shown, all) =
    (equal_digests ack.server ack.client shown.same, equal_each start script kinded acks all)

-- where a session agrees whatever turns it takes, it agrees to its end
pub whole_agrees : (b : Beginning) (choosers : List Chooser) → ((turns : List Turn) → KeepsWorldFrom b.start b.script (kinded_steps b.script choosers) (world_from b.start b.script (kinded_steps b.script choosers) turns)) → SessionAgrees choosers b
unfolding whole_session
whole_agrees b choosers agrees =
    let kinded = kinded_steps b.script choosers in
    let whole = drained_is b.start b.script kinded (rounds_for b.script) b.script.turns in
    let keeps : KeepsWorldFrom b.start b.script kinded (whole_session choosers b) = subst (KeepsWorldFrom b.start b.script kinded) (sym whole.is) (agrees whole.turns) in
    record { keeps = keeps; equal = equal_each b.start b.script kinded (whole_session choosers b).acks keeps.shown }

pub every_line : EveryLineHasEqualDigests
every_line text script choosers is =
    whole_agrees (from_scratch script) choosers (λ turns. every_schedule script (kinded_steps script choosers) turns (accepted text script is) (kinded_fit script choosers))
