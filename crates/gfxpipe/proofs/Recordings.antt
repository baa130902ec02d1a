-- What playing a recording comes to, against what is due.
use Rattle.std.proofs.Common.{◌≡◌, ℕ, ◌+◌, ◌-◌, ◌≤◌, ◌<◌, ◌==◌, true, false, cond, List, ◌++◌, length, take, Option, Some, None, is_some, inl, inr, refl, sym, ap, ◌∙◌, subst, arith}
use Rattle.std.proofs.lemmas.Bool.{cases_lt, le-leb, lt-leb}
use Rattle.std.proofs.Math.Seq.{take-append-add}
use Rattle.gfx_base.specs.declared.refusal.Refusal.{Refusal}
use Rattle.gfx_base.specs.declared.refusal.Refusal.TheVariants.{ChannelTruncated}
use Rattle.gfx_client.specs.declared.client.Client.{Client}
use Rattle.gfx_client.specs.Client.{cursor_of, closed_by, IsAtEnd, end_of}
use Rattle.gfx_client.specs.Standing.{answer_by, ends_by}
use Rattle.gfx_client.proofs.Playing.{end_is}
use Rattle.gfx_input.specs.declared.reading.Read.{Read}
use Rattle.gfx_input.specs.declared.reading.Read.TheVariants as read
use Rattle.gfx_input.specs.Reading.{EndsBy}
use Rattle.gfx_state.specs.Cursor.{waiting}
use Rattle.gfx_state.specs.Run.{Run, begun, refuse, run_of, end}
use Rattle.gfx_state.proofs.Runs.{eats-append, eats_refused, stays}
use Rattle.gfxpipe.specs.declared.ending.Ending.{Ending}
use Rattle.gfxpipe.specs.declared.ending.Ending.TheVariants.{Done, TooLong, Refused}
use Rattle.gfxpipe.specs.declared.recording.Player.{Player}
use Rattle.gfxpipe.specs.Due.{played, last_of, ending_of}
use Rattle.gfxpipe.specs.Recording.{HasPlayed, HasRefused, ending_by}
use Rattle.gfxpipe.specs.Fronts.{run_there}

-- what was played ---------------------------------------------------------------------------------------

-- a recording within the limit, and one over it
pub played_short : (limit : ℕ) (bytes : List ℕ) → length bytes ≤ limit → played limit bytes ≡ end (run_of bytes)
unfolding played
played_short limit bytes h = ap (λ b. cond b (end (run_of bytes)) (run_of (take limit bytes))) (le-leb (length bytes) limit h)

played_long : (limit : ℕ) (bytes : List ℕ) → limit < length bytes → played limit bytes ≡ run_of (take limit bytes)
unfolding played
played_long limit bytes h = ap (λ b. cond b (end (run_of bytes)) (run_of (take limit bytes))) (lt-leb (length bytes) limit h)

pub last_short : (limit : ℕ) (bytes : List ℕ) → length bytes ≤ limit → last_of limit bytes ≡ Done
last_short limit bytes h = ap (λ b. cond b Done TooLong) (le-leb (length bytes) limit h)

last_long : (limit : ℕ) (bytes : List ℕ) → limit < length bytes → last_of limit bytes ≡ TooLong
last_long limit bytes h = ap (λ b. cond b Done TooLong) (lt-leb (length bytes) limit h)

-- the end of a run changes no state, and nothing follows a refusal
end_state : (run : Run) → (end run).state ≡ run.state
unfolding end
end_state run =
    elim (is_some run.refusal) as (λ a. (cond a run (cond (length run.rest == 0) run (refuse run ChannelTruncated))).state ≡ run.state) [
      | true ↦ refl
      | false ↦ elim (length run.rest == 0) as (λ b. (cond b run (refuse run ChannelTruncated)).state ≡ run.state) [ true ↦ refl | false ↦ refl ]
    ]

end_refused : (run : Run) (r : Refusal) → run.refusal ≡ Some r → end run ≡ run
unfolding end
end_refused run r e = stays run _ r e

-- a refusal within the limit is that of the recording, whatever follows
played_refused : (limit : ℕ) (front more : List ℕ) (r : Refusal) → length front ≤ limit → (run_of front).refusal ≡ Some r → played limit (front ++ more) ≡ run_of front
played_refused limit front more r within refused =
    let whole : run_of (front ++ more) ≡ run_of front = eats-append begun front more ∙ eats_refused (run_of front) r more refused in
    elim (cases_lt limit (length (front ++ more))) [
      | inl over ↦
          let k : (m : ℕ) × (length front + m ≡ limit) = (limit - length front, omega arith) in
          let cut : take limit (front ++ more) ≡ front ++ take k.0 more = ap (λ z. take z (front ++ more)) (sym k.1) ∙ take-append-add front more k.0 in
          played_long limit (front ++ more) over ∙ ap run_of cut ∙ eats-append begun front (take k.0 more) ∙ eats_refused (run_of front) r (take k.0 more) refused
      | inr in_limit ↦
          played_short limit (front ++ more) in_limit ∙ ap end whole ∙ end_refused (run_of front) r refused
    ]

-- how a recording ends --------------------------------------------------------------------------------------

-- a client that was given a recording says how it ends, as it is due, and is in the state that is due
pub record Tells (read : Read) (limit : ℕ) (bytes : List ℕ) (client : Client) : Type 0 where
  pub ending : ending_by read (end_of (closed_by client) (cursor_of client)) ≡ ending_of (played limit bytes).refusal (played limit bytes).applied (last_of limit bytes)
  pub state : (cursor_of client).state ≡ (played limit bytes).state

-- the ending of a run that is known
ending_at : (limit : ℕ) (bytes : List ℕ) (run : Run) (last : Ending) → played limit bytes ≡ run → last_of limit bytes ≡ last → ending_of (played limit bytes).refusal (played limit bytes).applied (last_of limit bytes) ≡ ending_of run.refusal run.applied last
ending_at limit bytes run last e l = ap (λ (z : Run). ending_of z.refusal z.applied (last_of limit bytes)) e ∙ ap (ending_of run.refusal run.applied) l

ending_whole : (refusal : Option Refusal) (applied : ℕ) → ending_by read.Whole (answer_by refusal applied) ≡ ending_of refusal applied Done
ending_whole None applied = refl
ending_whole (Some r) applied = refl

tells_whole : (limit : ℕ) (bytes : List ℕ) (client : Client) → length bytes ≤ limit → HasPlayed client bytes → Tells read.Whole limit bytes client
tells_whole limit bytes client within h =
    let run = played_short limit bytes within in
    let said : end_of (closed_by client) (cursor_of client) ≡ ends_by (closed_by client) bytes = end_is (closed_by client) client bytes (λ none. h.1.needs) h.0 in
    let open_ends = said ∙ ap (λ z. ends_by z bytes) h.1.not_closed in
    record {
      ending = ap (ending_by read.Whole) open_ends ∙ ending_whole (end (run_of bytes)).refusal (end (run_of bytes)).applied ∙ sym (ending_at limit bytes (end (run_of bytes)) Done run (last_short limit bytes within));
      state = sym (ap (λ (z : Run). z.state) run ∙ end_state (run_of bytes) ∙ ap (λ (z : Run). z.state) (run_there client bytes h));
    }

tells_long : (limit : ℕ) (bytes : List ℕ) (client : Client) → limit < length bytes → HasPlayed client (take limit bytes) → Tells read.TooLong limit bytes client
tells_long limit bytes client over h =
    let run : played limit bytes ≡ waiting (cursor_of client) = played_long limit bytes over ∙ run_there client (take limit bytes) h in
    record {
      ending = sym (ending_at limit bytes (waiting (cursor_of client)) TooLong run (last_long limit bytes over));
      state = ap (λ (z : Run). z.state) (sym run);
    }

tells_refused : (limit : ℕ) (front more : List ℕ) (client : Client) → length front ≤ limit → HasRefused client front → Tells read.Stopped limit (front ++ more) client
tells_refused limit front more client within h =
    let run = played_refused limit front more h.reason within h.refused.refusal in
    record {
      ending = ap (λ z. ending_by read.Stopped (end_of z (cursor_of client))) h.refused.closed
          ∙ ap (λ n. Refused n h.reason) h.refused.number_is
          ∙ ap (λ z. ending_of z (run_of front).applied (last_of limit (front ++ more))) (sym h.refused.refusal)
          ∙ sym (ending_at limit (front ++ more) (run_of front) (last_of limit (front ++ more)) run refl);
      state = h.refused.state ∙ ap (λ (z : Run). z.state) (sym run);
    }

-- what a player was given
abbrev pub Plays : Player → List ℕ → Type 0
Plays player bytes = HasPlayed player.client bytes

abbrev pub Refuses : Player → List ℕ → Type 0
Refuses player bytes = HasRefused player.client bytes

-- how it says that a recording ends
abbrev pub told : Read → Player → Ending
told r player = ending_by r (end_of (closed_by player.client) (cursor_of player.client))

pub tells : (r : Read) (limit : ℕ) (bytes left : List ℕ) (player : Player) → EndsBy Plays Refuses r limit bytes left player → Tells r limit bytes player.client
tells read.Whole limit bytes left player e = tells_whole limit bytes player.client e.0 e.2
tells read.TooLong limit bytes left player e = tells_long limit bytes player.client e.0 e.1
tells read.Stopped limit bytes left player e =
    subst (λ z. Tells read.Stopped limit z player.client) (sym e.cut) (tells_refused limit e.front e.behind player.client e.within e.stopped)

-- such a client has nothing more to apply
pub at_end : (r : Read) (limit : ℕ) (bytes left : List ℕ) (player : Player) → EndsBy Plays Refuses r limit bytes left player → IsAtEnd player.client
at_end read.Whole limit bytes left player e = λ none. e.2.1.needs
at_end read.TooLong limit bytes left player e = λ none. e.1.1.needs
at_end read.Stopped limit bytes left player e = λ none. let closing = e.stopped.refused.closed in absurd cc
