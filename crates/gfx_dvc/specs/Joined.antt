-- What fragments are together, as a relation: messages one after another, one that is open, and a first refusal.
use Rattle.std.specs.Prelude.{◌≡◌, ℕ, ◌<◌, true, ◌⊎◌, List, [], ◌∷◌, ◌++◌, length, map, Option, Some, None, Result, Ok, Err}
use Rattle.std.specs.List.{concat}
use Rattle.gfx_base.specs.declared.refusal.Refusal.{Refusal}
use Rattle.gfx_dvc.specs.declared.fragment.Fragment.{Fragment}
use Rattle.gfx_dvc.specs.declared.open.Open.{Open}
use Rattle.gfx_dvc.specs.Format.{read_fragment}
use Rattle.gfx_dvc.specs.Joining.{Joiner, refused, is_length, passed}

-- a DATA_FIRST with a total and a piece, and a DATA with a piece
abbrev pub first_of : ℕ → ℕ → List ℕ → Fragment
first_of channel total piece = record { header = record { channel = channel; total = Some total }; piece = piece }

abbrev pub data_of : ℕ → List ℕ → Fragment
data_of channel piece = record { header = record { channel = channel; total = None }; piece = piece }

-- what these fragments say, each by itself
abbrev pub said : List (List ℕ) → List (Result Fragment Refusal)
said fragments = map read_fragment fragments

-- DATA with these pieces
abbrev pub data_all : ℕ → List (List ℕ) → List (Result Fragment Refusal)
data_all channel pieces = map (λ piece. Ok (data_of channel piece)) pieces

-- a DATA_FIRST with a total, and DATA, whose pieces put together are these bytes
pub record Gathers (channel total : ℕ) (own : List (List ℕ)) (first : List ℕ) (others : List (List ℕ)) (bytes : List ℕ) : Type 0 where
  pub says : said own ≡ Ok (first_of channel total first) ∷ data_all channel others
  pub gathered : first ++ concat others ≡ bytes

-- the last of these pieces has bytes, if there is one
abbrev pub EndsInBytes : List (List ℕ) → Type 0
EndsInBytes [] = Unit {0}
EndsInBytes (piece ∷ []) = 0 < length piece
EndsInBytes (piece ∷ (other ∷ others)) = EndsInBytes (other ∷ others)

-- a message in one DATA
pub record IsLone (channel : ℕ) (own : List (List ℕ)) (message : List ℕ) : Type 0 where
  pub says : said own ≡ Ok (data_of channel message) ∷ []
  pub some : 0 < length message

-- a message in a DATA_FIRST with its total, and DATA, the last of which has its last byte
pub record IsPieced (channel : ℕ) (own : List (List ℕ)) (message : List ℕ) : Type 0 where
  pub first : List ℕ
  pub others : List (List ℕ)
  pub gathers : Gathers channel (length message) own first others message
  pub fits : is_length (length message) ≡ true
  pub ends : EndsInBytes others

-- these fragments are this message, whole
abbrev pub IsMessage : ℕ → List (List ℕ) → List ℕ → Type 0
IsMessage channel own message = IsLone channel own message ⊎ IsPieced channel own message

-- these fragments begin with those of these messages, and go on with the rest
abbrev pub Ended : ℕ → List (List ℕ) → List (List ℕ) → List (List ℕ) → Type 0
Ended channel fragments [] rest = fragments ≡ rest
Ended channel fragments (message ∷ messages) rest =
    (own : List (List ℕ)) × (after : List (List ℕ)) × (fragments ≡ own ++ after) × IsMessage channel own message × Ended channel after messages rest

-- these fragments are of a message that isn't whole yet
pub record IsOpen (channel : ℕ) (own : List (List ℕ)) (begun : Open) : Type 0 where
  pub first : List ℕ
  pub others : List (List ℕ)
  pub gathers : Gathers channel begun.total own first others begun.bytes
  pub fits : is_length begun.total ≡ true
  pub less : length begun.bytes < begun.total

-- none are left, or those of the message that is open
abbrev pub IsLeft : ℕ → List (List ℕ) → Option Open → Type 0
IsLeft channel rest None = rest ≡ []
IsLeft channel rest (Some begun) = IsOpen channel rest begun

-- the channel's id is known from the first fragment on
abbrev pub known_in : ℕ → List (List ℕ) → Option ℕ
known_in channel [] = None
known_in channel (fragment ∷ fragments) = Some channel

-- fragments of one channel that no check refused, the messages that they ended, and the joiner then
pub record Accepted (fragments messages : List (List ℕ)) (joiner : Joiner) : Type 0 where
  pub channel : ℕ
  pub rest : List (List ℕ)
  pub whole : Ended channel fragments messages rest
  pub left : IsLeft channel rest joiner.message
  pub known : joiner.channel ≡ known_in channel fragments
  pub clear : joiner.refusal ≡ None

-- nothing is behind them, or a fragment that is refused, and whatever follows
abbrev pub EndsBehind : Joiner → List (List ℕ) → Joiner → Type 0
EndsBehind before [] joiner = joiner ≡ before
EndsBehind before (bad ∷ others) joiner = (r : Refusal) × (passed before bad ≡ Err r) × (joiner ≡ refused r)

-- fragments, the messages that they ended, and the joiner behind them: with a message that is open, or the first refusal
pub record Joined (fragments messages : List (List ℕ)) (joiner : Joiner) : Type 0 where
  pub accepted : List (List ℕ)
  pub behind : List (List ℕ)
  pub cut : fragments ≡ accepted ++ behind
  pub before : Joiner
  pub taken : Accepted accepted messages before
  pub ends : EndsBehind before behind joiner
