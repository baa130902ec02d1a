-- The server's end and its client's bytes: one after another, and message by message.
use Rattle.std.proofs.Common.{◌≡◌, ℕ, List, [], ◌∷◌, ◌++◌, Some, None, refl, sym, ap, ◌∙◌}
use Rattle.std.proofs.lemmas.List.{append-nil}
use Rattle.std.proofs.lemmas.List.Sums.{fold-append}
use Rattle.gfx_base.specs.declared.refusal.Refusal.TheVariants.{ChannelLength}
use Rattle.gfx_caps.specs.Reading.{client_of}
use Rattle.gfx_script.specs.Scripted.{Script}
use Rattle.gfx_segment.specs.Framing.{Front, Whole, Short, Bad, front}
use Rattle.gfx_segment.proofs.FrontLemmas.{front-append_whole, front-append_bad}
use Rattle.gfx_state.proofs.Runs.{front_fewer, front_ends, regrouped}
use Rattle.gfx_schedule.specs.ServerEnd.{Stop, Refused}
use Rattle.gfx_schedule.specs.Hearing.{Heard, stop, told, judge, unless_stopped, hear, hears}
use Rattle.gfx_schedule.specs.Words.{holding}

pub hears-append : (script : Script) (heard : Heard) (xs ys : List ℕ) → hears script heard (xs ++ ys) ≡ hears script (hears script heard xs) ys
unfolding hears
hears-append script heard xs ys = fold-append (hear script) heard xs ys

pub hears-nil : (script : Script) (heard : Heard) → hears script heard [] ≡ heard
unfolding hears
hears-nil script heard = refl

pub hears_more : (script : Script) (heard : Heard) (x : ℕ) (xs : List ℕ) → hears script heard (x ∷ xs) ≡ hears script (hear script heard x) xs
unfolding hears
hears_more script heard x xs = refl

-- behind a stop
stays : (heard next : Heard) (why : Stop) → heard.end.stopped ≡ Some why → unless_stopped heard next ≡ heard
stays heard next why e = rw e refl

goes_on : (heard next : Heard) → heard.end.stopped ≡ None → unless_stopped heard next ≡ next
goes_on heard next e = rw e refl

pub hear_stopped : (script : Script) (heard : Heard) (why : Stop) (x : ℕ) → heard.end.stopped ≡ Some why → hear script heard x ≡ heard
unfolding hear
hear_stopped script heard why x e = stays heard _ why e

pub hears_stopped : (script : Script) (heard : Heard) (why : Stop) (xs : List ℕ) → heard.end.stopped ≡ Some why → hears script heard xs ≡ heard
hears_stopped script heard why [] e = hears-nil script heard
hears_stopped script heard why (x ∷ xs) e =
    hears_more script heard x xs ∙ ap (λ z. hears script z xs) (hear_stopped script heard why x e) ∙ hears_stopped script heard why xs e

-- one byte
pub hear_judges : (script : Script) (heard : Heard) (x : ℕ) (f : Front) → heard.end.stopped ≡ None → front (heard.end.heard ++ x ∷ []) ≡ f → hear script heard x ≡ judge script heard (heard.end.heard ++ x ∷ []) f
unfolding hear
hear_judges script heard x f e found = goes_on heard _ e ∙ ap (λ z. judge script heard (heard.end.heard ++ x ∷ []) z) found

hear_short : (script : Script) (heard : Heard) (x : ℕ) → heard.end.stopped ≡ None → front (heard.end.heard ++ x ∷ []) ≡ Short → hear script heard x ≡ holding heard (heard.end.heard ++ x ∷ [])
unfolding judge
hear_short script heard x e found = hear_judges script heard x Short e found

hear_bad : (script : Script) (heard : Heard) (x : ℕ) → heard.end.stopped ≡ None → front (heard.end.heard ++ x ∷ []) ≡ Bad → hear script heard x ≡ stop heard (Refused ChannelLength)
unfolding judge
hear_bad script heard x e found = hear_judges script heard x Bad e found

hear_whole : (script : Script) (heard : Heard) (x : ℕ) (m a : List ℕ) → heard.end.stopped ≡ None → front (heard.end.heard ++ x ∷ []) ≡ Whole m a → hear script heard x ≡ told script (holding heard a) (client_of m)
unfolding judge
hear_whole script heard x m a e found = hear_judges script heard x (Whole m a) e found

-- many bytes: less than a message is kept
pub hears_short : (script : Script) (heard : Heard) (xs : List ℕ) → heard.end.stopped ≡ None → front (heard.end.heard ++ xs) ≡ Short → hears script heard xs ≡ holding heard (heard.end.heard ++ xs)
hears_short script heard [] e found = hears-nil script heard ∙ ap (holding heard) (sym (append-nil heard.end.heard))
hears_short script heard (x ∷ xs) e found =
    let whole = ap front (regrouped heard.end.heard x xs) ∙ found in
    let here = front_fewer (heard.end.heard ++ x ∷ []) xs whole in
    hears_more script heard x xs ∙ ap (λ z. hears script z xs) (hear_short script heard x e here)
    ∙ hears_short script (holding heard (heard.end.heard ++ x ∷ [])) xs e whole
    ∙ ap (holding heard) (regrouped heard.end.heard x xs)

-- a length that no message has stops it
pub hears_bad : (script : Script) (heard : Heard) (xs : List ℕ) → heard.end.stopped ≡ None → front heard.end.heard ≡ Short → front (heard.end.heard ++ xs) ≡ Bad → hears script heard xs ≡ stop heard (Refused ChannelLength)
hears_bad script heard [] e short found =
    let same = ap front (append-nil heard.end.heard) in absurd cc
hears_bad script heard (x ∷ xs) e short found =
    let all = ap front (regrouped heard.end.heard x xs) ∙ found in
    let later = λ (here : front (heard.end.heard ++ x ∷ []) ≡ Short). hears_bad script (holding heard (heard.end.heard ++ x ∷ [])) xs e here all in
    elim (front (heard.end.heard ++ x ∷ [])) as (λ f. front (heard.end.heard ++ x ∷ []) ≡ f → hears script heard (x ∷ xs) ≡ stop heard (Refused ChannelLength)) [
      | Short ↦ λ here. hears_more script heard x xs ∙ ap (λ z. hears script z xs) (hear_short script heard x e here) ∙ later here
      | Bad ↦ λ here. hears_more script heard x xs ∙ ap (λ z. hears script z xs) (hear_bad script heard x e here) ∙ hears_stopped script (stop heard (Refused ChannelLength)) (Refused ChannelLength) xs refl
      | Whole m a ↦ λ here. let whole = front-append_whole (heard.end.heard ++ x ∷ []) xs m a here in absurd cc
    ] refl

-- a whole message is told, and the bytes after it go on from there
pub hears_whole : (script : Script) (heard : Heard) (xs m a : List ℕ) → heard.end.stopped ≡ None → front heard.end.heard ≡ Short → front (heard.end.heard ++ xs) ≡ Whole m a
    → hears script heard xs ≡ hears script (told script (holding heard []) (client_of m)) a
hears_whole script heard [] m a e short found =
    let same = ap front (append-nil heard.end.heard) in absurd cc
hears_whole script heard (x ∷ xs) m a e short found =
    let all = ap front (regrouped heard.end.heard x xs) ∙ found in
    let later = λ (here : front (heard.end.heard ++ x ∷ []) ≡ Short). hears_whole script (holding heard (heard.end.heard ++ x ∷ [])) xs m a e here all in
    elim (front (heard.end.heard ++ x ∷ [])) as (λ f. front (heard.end.heard ++ x ∷ []) ≡ f → hears script heard (x ∷ xs) ≡ hears script (told script (holding heard []) (client_of m)) a) [
      | Short ↦ λ here. hears_more script heard x xs ∙ ap (λ z. hears script z xs) (hear_short script heard x e here) ∙ later here
      | Bad ↦ λ here. let bad = front-append_bad (heard.end.heard ++ x ∷ []) xs here in absurd cc
      | Whole m' a' ↦ λ here.
          let none = front_ends heard.end.heard m' a' x short here in
          let whole = front-append_whole (heard.end.heard ++ x ∷ []) xs m' a' here in
          let message : m' ≡ m = cc in
          let after : xs ≡ a = ap (λ z. z ++ xs) (sym none) ∙ (let joined : a' ++ xs ≡ a = cc in joined) in
          hears_more script heard x xs ∙ ap (λ z. hears script z xs) (hear_whole script heard x m' a' e here)
          ∙ ap (λ z. hears script (told script (holding heard z) (client_of m')) xs) none
          ∙ ap (λ z. hears script (told script (holding heard []) (client_of z)) xs) message
          ∙ ap (λ z. hears script (told script (holding heard []) (client_of m)) z) after
    ] refl
