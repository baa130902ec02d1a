-- What every turn of a session keeps.
use Rattle.std.proofs.Common.{◌≡◌, ℕ, ◌<◌, ◌^◌, ◌==◌, true, false, List, [], ◌∷◌, ◌++◌, map, None, refl, sym, ap, ◌∙◌, subst, append_assoc, eq-eqb}
use Rattle.std.specs.List.{AllByRecursion}
use Rattle.std.proofs.lemmas.List.{append-nil}
use Rattle.std.proofs.lemmas.Grind.{flat_map-append}
use Rattle.gfx_caps.specs.declared.message.ClientPdu.{ClientPdu}
use Rattle.gfx_caps.specs.declared.message.ClientPdu.TheVariants.{Ack}
use Rattle.gfx_client.specs.Replies.{alone, replies, reply_in, stepped_of}
use Rattle.gfx_client.proofs.ReplyLemmas.{acknowledgement_read}
use Rattle.gfx_pdu.specs.declared.pdu.Pdu.{Pdu}
use Rattle.gfx_pdu.specs.declared.pdu.Pdu.TheVariants.{EndFrame}
use Rattle.gfx_script.specs.Scripted.{Script}
use Rattle.gfx_state.specs.History.{Effect}
use Rattle.gfx_state.specs.State.{State}
use Rattle.gfx_window.specs.Window.{acknowledged}
use Rattle.gfx_schedule.specs.Frames.{frame_before, frames_of}
use Rattle.gfx_schedule.specs.ServerEnd.{ScheduledEnd}
use Rattle.gfx_schedule.specs.Hearing.{Heard, acknowledges, told}
use Rattle.gfx_schedule.specs.Words.{said, IsWord, tell, tells, TakesAll}
use Rattle.gfx_schedule.proofs.Flights.{Flight, pair_of}

-- what a client says of the frames that it draws ------------------------------------------------------------

abbrev pub word_in : ℕ × State → ClientPdu
word_in pair = Ack 0 pair.0 pair.1.decoded

one_said : (pdu : Pdu) (size : ℕ) (state : State) (others : List (ℕ × State)) → reply_in (stepped_of pdu size state.decoded) ++ said (map word_in others) ≡ said (map word_in (frame_before pdu state others))
unfolding frame_before
one_said (EndFrame frame) size state others = refl
one_said other size state others = refl

pub replies_said : (all : List Effect) → replies all ≡ said (map word_in (frames_of all))
replies_said [] = refl
replies_said (x ∷ xs) = ap (λ z. reply_in (stepped_of x.pdu x.size x.state.decoded) ++ z) (replies_said xs) ∙ one_said x.pdu x.size x.state (frames_of xs)

pub said-append : (xs ys : List ClientPdu) → said (xs ++ ys) ≡ said xs ++ said ys
said-append xs ys = flat_map-append alone xs ys

-- the word about a frame in flight
abbrev pub word_of : Flight → ClientPdu
word_of flight = Ack 0 flight.sent_as.frame flight.client.decoded

pub words_of : (flights : List Flight) → map word_in (map pair_of flights) ≡ map word_of flights
words_of [] = refl
words_of (flight ∷ flights) = ap (λ z. word_of flight ∷ z) (words_of flights)

-- its numbers fit their fields
pub record FitsWord (flight : Flight) : Type 0 where
  pub frame : flight.sent_as.frame < 2 ^ 32
  pub decoded : flight.client.decoded < 2 ^ 32

pub words_carried : (flights : List Flight) → AllByRecursion FitsWord flights → AllByRecursion IsWord (map word_of flights)
words_carried [] fit = tt
words_carried (flight ∷ flights) fit = (λ more. acknowledgement_read flight.sent_as.frame flight.client.decoded more fit.0.frame fit.0.decoded, words_carried flights fit.1)

-- what the server's end makes of them ---------------------------------------------------------------------

-- the server's end with these frames in flight
abbrev pub flies : ScheduledEnd → List Flight → ScheduledEnd
flies end flights = record end {
  window = record end.window { flying = map (λ (f : Flight). f.sent_as) flights };
  ends = map (λ (f : Flight). f.server) flights;
  heard = [];
}

-- it has taken the acknowledgements of these
abbrev pub having : Heard → List Flight → List Flight → Heard
having heard done left = record heard {
  end = flies heard.end left;
  taken = heard.taken ++ map (λ (f : Flight). f.sent_as) done;
  states = heard.states ++ map (λ (f : Flight). f.server) done;
}

-- a server's end that has these frames in flight, and watches them
pub record HasFlying (end : ScheduledEnd) (flights : List Flight) : Type 0 where
  pub flying : end.window.flying ≡ map (λ (f : Flight). f.sent_as) flights
  pub ends : end.ends ≡ map (λ (f : Flight). f.server) flights
  pub watched : end.window.suspended ≡ false

same_frame : (frame : ℕ) → (frame == frame) ≡ true
same_frame frame = eq-eqb frame frame refl

-- one acknowledgement
tells_one : (script : Script) (heard : Heard) (flight : Flight) (left : List Flight) → HasFlying heard.end (flight ∷ left) → tell script heard (word_of flight) ≡ having heard (flight ∷ []) left
unfolding told acknowledges acknowledged
tells_one script heard flight left has = rw (has.flying, has.ends, has.watched, same_frame flight.sent_as.frame) refl

pub tells_all : (script : Script) (heard : Heard) (done left : List Flight) → heard.end.heard ≡ [] → HasFlying heard.end (done ++ left) → tells script heard (map word_of done) ≡ having heard done left
tells_all script heard [] left none has =
    λ i. record heard {
      end = record heard.end { window = record heard.end.window { flying = has.flying i }; ends = has.ends i; heard = none i };
      taken = sym (append-nil heard.taken) i;
      states = sym (append-nil heard.states) i;
    }
tells_all script heard (flight ∷ done) left none has =
    let next : Heard = having heard (flight ∷ []) (done ++ left) in
    ap (λ z. tells script z (map word_of done)) (tells_one script heard flight (done ++ left) has)
    ∙ tells_all script next done left refl record { flying = refl; ends = refl; watched = has.watched }
    ∙ (λ i. record (having heard (flight ∷ done) left) {
      taken = append_assoc heard.taken (flight.sent_as ∷ []) (map (λ (f : Flight). f.sent_as) done) i;
      states = append_assoc heard.states (flight.server ∷ []) (map (λ (f : Flight). f.server) done) i;
    })

pub takes_all : (script : Script) (heard : Heard) (done left : List Flight) → heard.end.stopped ≡ None → HasFlying heard.end (done ++ left) → TakesAll script heard (map word_of done)
takes_all script heard [] left goes has = tt
takes_all script heard (flight ∷ done) left goes has =
    let one = tells_one script heard flight (done ++ left) has in
    let next : Heard = having heard (flight ∷ []) (done ++ left) in (
      ap (λ z. z.end.stopped) one ∙ goes,
      subst (λ z. TakesAll script z (map word_of done)) (sym one) (takes_all script next done left goes record { flying = refl; ends = refl; watched = has.watched }),
    )
