-- The server's end and whole messages of its client, cut anywhere.
use Rattle.std.proofs.Common.{◌≡◌, ℕ, List, [], ◌∷◌, ◌++◌, Bool, true, false, cond, ◌&&◌, not, Option, Some, None, Result, Ok, Err, refl, sym, ap, ◌∙◌, subst, append_assoc}
use Rattle.gfx_base.specs.declared.refusal.Refusal.{Refusal}
use Rattle.gfx_base.specs.declared.refusal.Refusal.TheVariants.{CapsVersion}
use Rattle.gfx_caps.specs.Choice.{binds_small, choice}
use Rattle.gfx_caps.specs.declared.choice.Chosen.{Chosen}
use Rattle.gfx_caps.specs.declared.message.ClientPdu.{ClientPdu}
use Rattle.gfx_caps.specs.declared.message.ClientPdu.TheVariants.{Advertise, Ack, ImportOffer, QoeAck}
use Rattle.gfx_caps.specs.Spelling.{spelling}
use Rattle.gfx_caps.specs.Reading.{client_of}
use Rattle.gfx_client.specs.Replies.{alone}
use Rattle.gfx_script.specs.Scripted.{Script}
use Rattle.gfx_segment.specs.Framing.{Whole, Short, Bad, front}
use Rattle.gfx_segment.proofs.FrontLemmas.{front-nil, front-append_whole, front-append_bad}
use Rattle.gfx_state.specs.Sending.{sent}
use Rattle.gfx_window.specs.declared.window.AckUnknown.{AckUnknown}
use Rattle.gfx_window.specs.Window.{Window}
use Rattle.gfx_schedule.specs.ServerEnd.{Refused}
use Rattle.gfx_schedule.specs.Hearing.{Heard, stop, confirm, confirms, acknowledges, declines, told, hears}
use Rattle.gfx_schedule.specs.Words.{said, IsWord, holding, tell, TakesAll, IsListening, HasHeard, WordsAreHeardInPieces}
use Rattle.gfx_schedule.proofs.Listening.{hears_short, hears_whole}
use Rattle.gfx_schedule.proofs.Lists.{nil_parts}

-- no message is whole yet
still : (script : Script) (heard : Heard) (bytes behind : List ℕ) (words : List ClientPdu) → IsListening script heard (bytes ++ behind) words → front (heard.end.heard ++ bytes) ≡ Short → HasHeard script heard bytes behind words
still script heard bytes behind words listens short =
    let after = hears_short script heard bytes listens.goes_on short in
    record {
      done = [];
      left = words;
      cut = refl;
      held = heard.end.heard ++ bytes;
      is = after;
      listens = subst (λ z. IsListening script z behind words) (sym after) record {
        goes_on = listens.goes_on;
        short = short;
        bytes_are = append_assoc heard.end.heard bytes behind ∙ listens.bytes_are;
        carried = listens.carried;
        taken = same_taken script heard (heard.end.heard ++ bytes) words listens.taken;
      };
    }
  where
    -- what is held of a message isn't read by those that are told
    same_taken : (script : Script) (heard : Heard) (held : List ℕ) (words : List ClientPdu) → TakesAll script heard words → TakesAll script (holding heard held) words
    same_taken script heard held [] taken = tt
    same_taken script heard held (word ∷ words) taken = taken

-- a message is whole: the first one
record Opens (heard : Heard) (behind message after : List ℕ) (word : ClientPdu) (words : List ClientPdu) : Type 0 where
  same : message ≡ spelling word
  rest : after ++ behind ≡ said words

said-cons : (word : ClientPdu) (words : List ClientPdu) → said (word ∷ words) ≡ alone word ++ said words
said-cons word words = refl

opens : (heard : Heard) (bytes behind message after : List ℕ) (word : ClientPdu) (words : List ClientPdu) → IsWord word → heard.end.heard ++ (bytes ++ behind) ≡ said (word ∷ words) → front (heard.end.heard ++ bytes) ≡ Whole message after
    → Opens heard behind message after word words
opens heard bytes behind message after word words is bytes_are whole =
    let here = front-append_whole (heard.end.heard ++ bytes) behind message after whole in
    let all : (heard.end.heard ++ bytes) ++ behind ≡ alone word ++ said words = append_assoc heard.end.heard bytes behind ∙ bytes_are ∙ said-cons word words in
    let there : front ((heard.end.heard ++ bytes) ++ behind) ≡ Whole (spelling word) (said words) = ap front all ∙ (is (said words)).whole in
    record { same = cc; rest = cc }

never_bad : (heard : Heard) (bytes behind : List ℕ) (word : ClientPdu) (words : List ClientPdu) → IsWord word → heard.end.heard ++ (bytes ++ behind) ≡ said (word ∷ words) → front (heard.end.heard ++ bytes) ≡ Bad → ⊥
never_bad heard bytes behind word words is bytes_are bad =
    let here = front-append_bad (heard.end.heard ++ bytes) behind bad in
    let all : (heard.end.heard ++ bytes) ++ behind ≡ alone word ++ said words = append_assoc heard.end.heard bytes behind ∙ bytes_are ∙ said-cons word words in
    let there : front ((heard.end.heard ++ bytes) ++ behind) ≡ Whole (spelling word) (said words) = ap front all ∙ (is (said words)).whole in
    absurd cc

-- the first message is taken, and others behind it
goes_on_with : (script : Script) (heard : Heard) (bytes behind message after : List ℕ) (word : ClientPdu) (words : List ClientPdu) → IsListening script heard (bytes ++ behind) (word ∷ words) → front (heard.end.heard ++ bytes) ≡ Whole message after
    → message ≡ spelling word → HasHeard script (tell script heard word) after behind words → HasHeard script heard bytes behind (word ∷ words)
goes_on_with script heard bytes behind message after word words listens whole same more =
    let ran : hears script heard bytes ≡ hears script (tell script heard word) after =
    hears_whole script heard bytes message after listens.goes_on listens.short whole
    ∙ ap (λ z. hears script (told script (holding heard []) z) after) (ap client_of same ∙ (listens.carried.0 []).same) in
    record {
      done = word ∷ more.done;
      left = more.left;
      cut = ap (λ z. word ∷ z) more.cut;
      held = more.held;
      is = ran ∙ more.is;
      listens = subst (λ z. IsListening script z behind more.left) (sym ran) more.listens;
    }

-- behind a message that is told nothing is held
confirms_holds : (script : Script) (heard : Heard) (due : Result Chosen Refusal) → heard.end.heard ≡ [] → (confirms script heard due).end.heard ≡ []
unfolding confirms
confirms_holds script heard (Err r) none = refl
confirms_holds script heard (Ok chosen) none = by (binds_small chosen.flags && not script.small)
  where
    by : (b : Bool) → (cond b (stop heard (Refused CapsVersion)) (record heard { end = record heard.end { confirmed = true }; out = heard.out ++ sent (confirm chosen ∷ []) })).end.heard ≡ []
    by true = refl
    by false = none

acknowledges_holds : (heard : Heard) (frame : ℕ) (due : Result (Option ℕ × Window) AckUnknown) → heard.end.heard ≡ [] → (acknowledges heard frame due).end.heard ≡ []
unfolding acknowledges
acknowledges_holds heard frame (Err unknown) none = refl
acknowledges_holds heard frame (Ok (None, window)) none = none
acknowledges_holds heard frame (Ok (Some step, window)) none = none

declines_holds : (heard : Heard) (confirmed : Bool) → heard.end.heard ≡ [] → (declines heard confirmed).end.heard ≡ []
unfolding declines
declines_holds heard true none = none
declines_holds heard false none = refl

nothing_held : (script : Script) (heard : Heard) (word : ClientPdu) → (tell script heard word).end.heard ≡ []
unfolding told
nothing_held script heard (Advertise sets) = confirms_holds script (holding heard []) (choice sets) refl
nothing_held script heard (Ack depth frame total) = acknowledges_holds (holding heard []) frame _ refl
nothing_held script heard (ImportOffer entries) = declines_holds (holding heard []) heard.end.confirmed refl
nothing_held script heard (QoeAck frame timestamp decoding rendering) = refl

pub words_are_heard_in_pieces : WordsAreHeardInPieces
words_are_heard_in_pieces script heard bytes behind [] listens =
    let none : (heard.end.heard ++ bytes) ++ behind ≡ [] = append_assoc heard.end.heard bytes behind ∙ listens.bytes_are in
    still script heard bytes behind [] listens (ap front (nil_parts (heard.end.heard ++ bytes) behind none).0 ∙ front-nil)
words_are_heard_in_pieces script heard bytes behind (word ∷ words) listens =
    let later = λ (message after : List ℕ) (whole : front (heard.end.heard ++ bytes) ≡ Whole message after).
    let o = opens heard bytes behind message after word words listens.carried.0 listens.bytes_are whole in
    let next : Heard = tell script heard word in
    let held = nothing_held script heard word in
    goes_on_with script heard bytes behind message after word words listens whole o.same
    (words_are_heard_in_pieces script next after behind words record {
      goes_on = listens.taken.0;
      short = ap front held ∙ front-nil;
      bytes_are = ap (λ z. z ++ (after ++ behind)) held ∙ o.rest;
      carried = listens.carried.1;
      taken = listens.taken.1;
    }) in
    elim (front (heard.end.heard ++ bytes)) as (λ f. front (heard.end.heard ++ bytes) ≡ f → HasHeard script heard bytes behind (word ∷ words)) [
      | Short ↦ λ short. still script heard bytes behind (word ∷ words) listens short
      | Bad ↦ λ bad. absurd (never_bad heard bytes behind word words listens.carried.0 listens.bytes_are bad)
      | Whole message after ↦ λ whole. later message after whole
    ] refl
