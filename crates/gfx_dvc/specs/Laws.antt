-- What holds of joining: this project's own promises.
use Rattle.std.specs.Prelude.{◌≡◌, ℕ, List, [], ◌∷◌, ◌++◌, Option, Some, None, Result, Ok, Err}
use Rattle.gfx_base.specs.declared.answer.Cause.{Cause}
use Rattle.gfx_base.specs.declared.answer.Cause.TheVariants.{Refused, Memory}
use Rattle.gfx_base.specs.declared.refusal.Refusal.{Refusal}
use Rattle.gfx_dvc.specs.Joined.{Joined, IsMessage}
use Rattle.gfx_dvc.specs.Joining.{Joiner, fresh, idle, given, messages_of, joiner_after}

-- what was joined of some fragments is joined of them and one more
abbrev pub JoinsOn : Joiner → Joiner → List ℕ → List (List ℕ) → Type 0
JoinsOn old new fragment more =
    (fragments messages : List (List ℕ)) → Joined fragments messages old → Joined (fragments ++ fragment ∷ []) (messages ++ more) new

-- so it is with what a call gave; want of memory takes no fragment
abbrev pub TakesOn : Result (Option (List ℕ)) (Cause Refusal) → Joiner → Joiner → List ℕ → Type 0
TakesOn (Ok message) old new fragment = JoinsOn old new fragment (given message)
TakesOn (Err Memory) old new fragment = Unit {0}
TakesOn (Err (Refused r)) old new fragment = JoinsOn old new fragment []

-- whatever the fragments, what one step after another gives is joined of them
abbrev pub StepsJoin : Type 0
StepsJoin = (fragments : List (List ℕ)) → Joined fragments (messages_of fresh fragments) (joiner_after fresh fragments)

-- and nothing else is
abbrev pub OneJoining : Type 0
OneJoining =
    (fragments messages : List (List ℕ)) (joiner : Joiner) → Joined fragments messages joiner
    → (messages_of fresh fragments ≡ messages) × (joiner_after fresh fragments ≡ joiner)

-- no message is open and no refusal is kept, and the id, if it is known, is this one
pub record IsIdle (channel : ℕ) (joiner : Joiner) : Type 0 where
  pub closed : joiner.message ≡ None
  pub clear : joiner.refusal ≡ None
  pub known : (other : ℕ) → joiner.channel ≡ Some other → other ≡ channel

-- from fragments it goes on to these, with these messages before those that they end
pub record Leads (joiner : Joiner) (fragments messages : List (List ℕ)) (next : Joiner) (others : List (List ℕ)) : Type 0 where
  pub messages_are : messages_of joiner fragments ≡ messages ++ messages_of next others
  pub joiner_is : joiner_after joiner fragments ≡ joiner_after next others

-- a message in fragments, cut in any way, is given whole, whatever fragments are behind them
abbrev pub AnyCutting : Type 0
AnyCutting =
    (channel : ℕ) (joiner : Joiner) (own : List (List ℕ)) (message : List ℕ) (behind : List (List ℕ))
    → IsIdle channel joiner → IsMessage channel own message → Leads joiner (own ++ behind) (message ∷ []) (idle channel) behind

-- and such fragments are joined to it
abbrev pub CuttingJoins : Type 0
CuttingJoins = (channel : ℕ) (own : List (List ℕ)) (message : List ℕ) → IsMessage channel own message → Joined own (message ∷ []) (idle channel)
