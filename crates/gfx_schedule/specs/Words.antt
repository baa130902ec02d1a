-- What a server's end makes of whole messages of its client, cut anywhere: this project's own promise.
use Rattle.std.specs.Prelude.{◌≡◌, ℕ, List, [], ◌∷◌, ◌++◌, fold, None, Ok}
use Rattle.std.specs.List.{AllByRecursion, flat_map}
use Rattle.gfx_caps.specs.declared.message.ClientPdu.{ClientPdu}
use Rattle.gfx_client.specs.Replies.{alone, IsRead}
use Rattle.gfx_script.specs.Scripted.{Script}
use Rattle.gfx_segment.specs.Framing.{Short, front}
use Rattle.gfx_schedule.specs.Hearing.{Heard, told, hears}

-- the bytes of messages of a client, one after another
abbrev pub said : List ClientPdu → List ℕ
said words = flat_map alone words

-- a message that is whole and read, whatever follows
abbrev pub IsWord : ClientPdu → Type 0
IsWord word = (more : List ℕ) → IsRead word more

-- the server's end with these bytes of a message that isn't whole
abbrev pub holding : Heard → List ℕ → Heard
holding heard bytes = record heard { end = record heard.end { heard = bytes } }

-- one message, and messages one after another
abbrev pub tell : Script → Heard → ClientPdu → Heard
tell script heard word = told script (holding heard []) (Ok word)

abbrev pub tells : Script → Heard → List ClientPdu → Heard
tells script heard words = fold (tell script) heard words

-- the server's end refuses none of these messages
abbrev pub TakesAll : Script → Heard → List ClientPdu → Type 0
TakesAll script heard [] = Unit {0}
TakesAll script heard (word ∷ words) = ((tell script heard word).end.stopped ≡ None) × TakesAll script (tell script heard word) words

-- the server's end goes on, with these bytes to come: what it holds and they are these messages, which it
-- will take
pub record IsListening (script : Script) (heard : Heard) (bytes : List ℕ) (words : List ClientPdu) : Type 0 where
  pub goes_on : heard.end.stopped ≡ None
  pub short : front heard.end.heard ≡ Short
  pub bytes_are : heard.end.heard ++ bytes ≡ said words
  pub carried : AllByRecursion IsWord words
  pub taken : TakesAll script heard words

-- it has heard the first of those bytes: it has taken the first of the messages, and the others are to come
pub record HasHeard (script : Script) (heard : Heard) (bytes behind : List ℕ) (words : List ClientPdu) : Type 0 where
  pub done : List ClientPdu
  pub left : List ClientPdu
  pub cut : words ≡ done ++ left
  pub held : List ℕ
  pub is : hears script heard bytes ≡ holding (tells script heard done) held
  pub listens : IsListening script (hears script heard bytes) behind left

abbrev pub WordsAreHeardInPieces : Type 0
WordsAreHeardInPieces =
    (script : Script) (heard : Heard) (bytes behind : List ℕ) (words : List ClientPdu) → IsListening script heard (bytes ++ behind) words → HasHeard script heard bytes behind words
