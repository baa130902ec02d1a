-- What the parts of a session's turn do, and a round of turns: what happens in the schedule's world for which the session
-- stands. No public clause names these words.
use Rattle.std.specs.Prelude.{◌≡◌, Bool, true, false, List, Result, Ok, Err}
use Rattle.gfx_base.specs.declared.answer.NoMemory.{NoMemory}
use Rattle.gfx_chooser.specs.Choosing.{Chooser}
use Rattle.gfx_schedule.specs.Starts.{MayBegin, Start}
use Rattle.gfx_schedule.specs.World.{World, world_from, happens, can_turn, round}
use Rattle.gfx_schedule.specs.declared.turned.Turned.{Turned}
use Rattle.gfx_schedule.specs.declared.turned.Turned.TheVariants.{Moved}
use Rattle.gfx_script.specs.Kinds.{KindedStep}
use Rattle.gfx_script.specs.declared.turn.Turn.{Turn}
use Rattle.gfx_session.specs.Kept.{GoesBy}
use Rattle.gfx_session.specs.Session.{script_of, digests_of, AfterTurns, AsksBetween, Stands, StandsBy}
use Rattle.gfx_session.specs.declared.session.Session.{Session}

-- what a turn does where this is known of the world for which the session stands; the answer is whether it had something
-- to do. Without memory the session is spent
abbrev pub DoesWhere : (World → Type 0) → Result Bool NoMemory → Session → Session → Turn → Type 0
DoesWhere is_known (Ok moved) old new turn =
    (new.spent ≡ false) × (script_of new ≡ script_of old)
    × ((origin : Start) (kinded : List KindedStep) (turns : List Turn) → MayBegin origin (script_of old) kinded → Stands old (world_from origin (script_of old) kinded turns)
    → is_known (world_from origin (script_of old) kinded turns)
    → Stands new (happens (script_of old) (world_from origin (script_of old) kinded turns) turn) × (moved ≡ can_turn (world_from origin (script_of old) kinded turns) turn))
    × (digests_of new ≡ digests_of old)
DoesWhere is_known (Err e) old new turn = (new.spent ≡ true) × (script_of new ≡ script_of old)

-- nothing has to be known of a world
abbrev pub AnyWorld : World → Type 0
AnyWorld w = Unit {0}

-- what a turn does in which no step is queued
abbrev pub Does : Result Bool NoMemory → Session → Session → Turn → Type 0
Does (Ok moved) old new turn = DoesWhere AnyWorld (Ok moved) old new turn × (new.server.last ≡ old.server.last)
Does (Err e) old new turn = DoesWhere AnyWorld (Err e) old new turn

-- what a turn does to which choosers are brought: the steps that are left have to go as they choose
abbrev pub DoesBy : Result Bool NoMemory → Session → Session → List Chooser → List Chooser → Turn → Type 0
DoesBy (Ok moved) old new choosers left turn =
    AsksBetween old new choosers left × DoesWhere (λ w. GoesBy (script_of old) choosers w.server) (Ok moved) old new turn
DoesBy (Err e) old new choosers left turn = DoesWhere AnyWorld (Err e) old new turn

-- the server's end did something in its turn
abbrev pub has_moved : Turned → Bool
has_moved Moved = true
has_moved other = false

-- what a round does: the session stands for the world behind it, which some turns bring about
abbrev pub GoesRound : Result (Unit {0}) NoMemory → Session → Session → List Chooser → List Chooser → Type 0
GoesRound (Ok done) old new choosers left =
    (new.spent ≡ false) × (script_of new ≡ script_of old) × AsksBetween old new choosers left
    × AfterTurns old choosers (λ origin kinded turns.
    (more : List Turn) × ((round (script_of old) (world_from origin (script_of old) kinded turns) ≡ world_from origin (script_of old) kinded more) × StandsBy new left (script_of old) (world_from origin (script_of old) kinded more)))
    × (digests_of new ≡ digests_of old)
GoesRound (Err e) old new choosers left = (new.spent ≡ true) × (script_of new ≡ script_of old)
