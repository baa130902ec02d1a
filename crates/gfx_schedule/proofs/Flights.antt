-- Frames on their way to the client, and those that it has drawn.
use Rattle.std.proofs.Common.{◌≡◌, ℕ, false, List, [], ◌∷◌, ◌++◌, length, map, Ok, refl, sym, ap, ◌∙◌, append_assoc}
use Rattle.std.specs.List.{AllByRecursion}
use Rattle.std.proofs.lemmas.List.{map-append}
use Rattle.gfx_pdu.specs.declared.pdu.Pdu.{Pdu}
use Rattle.gfx_pdu.specs.declared.pdu.Pdu.TheVariants.{EndFrame}
use Rattle.gfx_pdu.specs.Spelling.{spelling}
use Rattle.gfx_state.specs.History.{Effect, effects, history, spelled, ends_frame, end_states}
use Rattle.gfx_state.specs.Run.{Run, eats}
use Rattle.gfx_state.specs.Sending.{all_steps, sent, IsCarried}
use Rattle.gfx_state.specs.State.{State}
use Rattle.gfx_state.proofs.Effects.{effects-append, effects_cons, nothing}
use Rattle.gfx_state.proofs.Sent.{all_steps-cons, all_steps-nil, sent-append}
use Rattle.gfx_planner.proofs.Lists.{all_both}
use Rattle.gfx_planner.proofs.Streams.{both}
use Rattle.gfx_window.specs.declared.window.Sent.{Sent}
use Rattle.gfx_schedule.specs.Frames.{frame_before, frames_of}
use Rattle.gfx_schedule.specs.Pieces.{IsInside}
use Rattle.gfx_schedule.proofs.Lists.{splits}
use Rattle.gfx_schedule.proofs.Pieces.{messages_are_read_in_pieces}

-- the frames of effects -----------------------------------------------------------------------------------

frame_before-append : (pdu : Pdu) (state : State) (xs ys : List (ℕ × State)) → frame_before pdu state (xs ++ ys) ≡ frame_before pdu state xs ++ ys
unfolding frame_before
frame_before-append (EndFrame frame) state xs ys = refl
frame_before-append other state xs ys = refl

pub frames_of-append : (xs ys : List Effect) → frames_of (xs ++ ys) ≡ frames_of xs ++ frames_of ys
frames_of-append [] ys = refl
frames_of-append (x ∷ xs) ys = ap (frame_before x.pdu x.state) (frames_of-append xs ys) ∙ frame_before-append x.pdu x.state (frames_of xs) (frames_of ys)

-- the states at the ends of frames are theirs
one_more : (pdu : Pdu) (size : ℕ) (state : State) (others : List Effect) → end_states others ≡ map (λ (pair : ℕ × State). pair.1) (frames_of others)
    → end_states (record { pdu = pdu; size = size; state = state } ∷ others) ≡ map (λ (pair : ℕ × State). pair.1) (frame_before pdu state (frames_of others))
unfolding frame_before
one_more (EndFrame frame) size state others e = ap (λ z. state ∷ z) e
one_more other size state others e = e

pub end_states-frames : (all : List Effect) → end_states all ≡ map (λ (pair : ℕ × State). pair.1) (frames_of all)
end_states-frames [] = refl
end_states-frames (x ∷ xs) = one_more x.pdu x.size x.state xs (end_states-frames xs)

-- messages inside a frame end none
inside_ends_none : (pdu : Pdu) (state : State) (others : List (ℕ × State)) → ends_frame pdu ≡ false → frame_before pdu state others ≡ others
unfolding frame_before
inside_ends_none (EndFrame frame) state others e = absurd cc
inside_ends_none other state others e = refl

pub frames_inside : (state last : State) (pdus : List Pdu) → AllByRecursion (λ pdu. ends_frame pdu ≡ false) pdus → all_steps state pdus ≡ Ok last → frames_of (effects state (spelled pdus)) ≡ []
frames_inside state last [] inside accepted = ap frames_of (nothing state)
frames_inside state last (pdu ∷ pdus) inside accepted =
    let s = all_steps-cons state last pdu pdus accepted in
    ap frames_of (effects_cons state s.0 (pdu, length (spelling pdu)) (spelled pdus) s.1)
    ∙ inside_ends_none pdu s.0 (frames_of (effects s.0 (spelled pdus))) inside.0 ∙ frames_inside s.0 last pdus inside.1 s.2

pub frames_end : (state last : State) (frame : ℕ) → all_steps state (EndFrame frame ∷ []) ≡ Ok last → frames_of (effects state (spelled (EndFrame frame ∷ []))) ≡ (frame, last) ∷ []
unfolding frame_before
frames_end state last frame accepted =
    let s = all_steps-cons state last (EndFrame frame) [] accepted in
    let same = all_steps-nil s.0 last s.2 in
    ap frames_of (effects_cons state s.0 (EndFrame frame, length (spelling (EndFrame frame))) [] s.1)
    ∙ ap (λ z. (frame, s.0) ∷ frames_of z) (nothing s.0) ∙ ap (λ z. (frame, z) ∷ []) same

-- messages one list after another
pub frames_both : (state via : State) (xs ys : List Pdu) → all_steps state xs ≡ Ok via → frames_of (effects state (spelled (xs ++ ys))) ≡ frames_of (effects state (spelled xs)) ++ frames_of (effects via (spelled ys))
frames_both state via xs ys accepted = ap frames_of (effects-append state via xs ys accepted) ∙ frames_of-append (effects state (spelled xs)) (effects via (spelled ys))

-- frames in flight ------------------------------------------------------------------------------------------

-- a frame that was sent, and the states of the two ends right after it
pub record Flight : Type 0 where
  pub sent_as : Sent
  pub server : State
  pub client : State

abbrev pub pair_of : Flight → ℕ × State
pair_of flight = (flight.sent_as.frame, flight.client)

-- the bytes on their way to the client are messages that it will accept, which end these frames, and bring
-- it to a state that is related to the server's
pub record Downward (R : State → State → Type 0) (run : Run) (bytes : List ℕ) (server : State) (coming : List Flight) : Type 0 where
  pub todo : List Pdu
  pub last : State
  pub inside : IsInside run bytes todo last
  pub related : R server last
  pub frames : frames_of (effects run.state (spelled todo)) ≡ map pair_of coming

-- the client takes the first of them
pub record Draws (R : State → State → Type 0) (run : Run) (bytes behind : List ℕ) (server : State) (coming : List Flight) : Type 0 where
  pub now : List Flight
  pub later : List Flight
  pub cut : coming ≡ now ++ later
  pub drawn : frames_of (history run bytes) ≡ map pair_of now
  pub downward : Downward R (eats run bytes) behind server later

pub draws : (R : State → State → Type 0) (run : Run) (bytes behind : List ℕ) (server : State) (coming : List Flight) → Downward R run (bytes ++ behind) server coming → Draws R run bytes behind server coming
draws R run bytes behind server coming down =
    let read = messages_are_read_in_pieces run bytes behind down.todo down.last down.inside in
    let state : State = (eats run bytes).state in
    let parts : map pair_of coming ≡ frames_of (effects run.state (spelled read.done)) ++ frames_of (effects state (spelled read.left)) =
    sym down.frames ∙ ap (λ z. frames_of (effects run.state (spelled z))) read.cut ∙ frames_both run.state state read.done read.left read.steps in
    let s = splits pair_of coming (frames_of (effects run.state (spelled read.done))) (frames_of (effects state (spelled read.left))) parts in
    record {
      now = s.first;
      later = s.second;
      cut = s.cut;
      drawn = ap frames_of read.made ∙ sym s.first_is;
      downward = record { todo = read.left; last = down.last; inside = read.inside; related = down.related; frames = sym s.second_is };
    }

-- what more messages come to at a client's state
pub record Extends (R : State → State → Type 0) (state : State) (server : State) (pdus : List Pdu) (more : State → List Flight) : Type 0 where
  pub last : State
  pub accepted : all_steps state pdus ≡ Ok last
  pub related : R server last
  pub frames : frames_of (effects state (spelled pdus)) ≡ map pair_of (more last)

-- more messages go behind those on their way
pub record Follows (R : State → State → Type 0) (run : Run) (bytes : List ℕ) (server next : State) (coming : List Flight) (pdus : List Pdu) (more : State → List Flight) : Type 0 where
  pub last : State
  pub related : R next last
  pub downward : Downward R run (bytes ++ sent pdus) next (coming ++ more last)

pub follows : (R : State → State → Type 0) (run : Run) (bytes : List ℕ) (server next : State) (coming : List Flight) (pdus : List Pdu) (more : State → List Flight) → Downward R run bytes server coming → AllByRecursion IsCarried pdus
    → ((state : State) → R server state → Extends R state next pdus more) → Follows R run bytes server next coming pdus more
follows R run bytes server next coming pdus more down carried extends =
    let e = extends down.last down.related in
    record {
      last = e.last;
      related = e.related;
      downward = record {
        todo = down.todo ++ pdus;
        last = e.last;
        inside = record {
          goes_on = down.inside.goes_on;
          short = down.inside.short;
          bytes_are = sym (append_assoc run.rest bytes (sent pdus)) ∙ ap (λ z. z ++ sent pdus) down.inside.bytes_are ∙ sym (sent-append down.todo pdus);
          carried = all_both IsCarried down.todo pdus down.inside.carried carried;
          accepted = both run.state down.last e.last down.todo pdus down.inside.accepted e.accepted;
        };
        related = e.related;
        frames = frames_both run.state down.last down.todo pdus down.inside.accepted
            ∙ ap (λ z. z ++ frames_of (effects down.last (spelled pdus))) down.frames ∙ ap (λ z. map pair_of coming ++ z) e.frames ∙ sym (map-append pair_of coming (more e.last));
      };
    }
