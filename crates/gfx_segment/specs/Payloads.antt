-- Payloads one after another, the open one lent where it lies.
use Rattle.std.specs.Prelude.{◌≡◌, ℕ, ◌+◌, ◌-◌, ◌≤◌, ◌<◌, Bool, true, false, List, [], length, take, drop, Some, None, Result, Ok, Err}
use Rattle.gfx_base.specs.declared.refusal.Refusal.{Refusal}
use Rattle.gfx_base.specs.declared.answer.Cause.{Cause}
use Rattle.gfx_base.specs.declared.answer.Cause.TheVariants.{Refused, Memory}
use Rattle.gfx_segment.specs.declared.payloads.Place.{Place}
use Rattle.gfx_segment.specs.declared.payloads.Place.TheVariants.{Closed, Lying, Joined}
use Rattle.gfx_segment.specs.declared.profile.TheConstants.{PREFIX}
use Rattle.gfx_segment.specs.Framing.{Splitter, next, after_next, payload}

-- the bytes fed that no opened payload has used, with the refusal that is kept, and what is left of the open payload
pub record Payloads : Type 0 where
  pub splitter : Splitter
  pub left : List ℕ

-- by what is held, and where the open payload lies
abbrev pub held_by : Splitter → List ℕ → Place → Payloads
held_by splitter joined Closed = record { splitter = splitter; left = [] }
held_by splitter joined (Lying at whole) = record { splitter = record splitter { rest = drop whole splitter.rest }; left = take (whole - at) (drop at splitter.rest) }
held_by splitter joined (Joined at) = record { splitter = splitter; left = drop at joined }

-- it lies there; one that lies among the bytes fed has some left
abbrev pub IsHeld : Splitter → List ℕ → Place → Type 0
IsHeld splitter joined Closed = Unit {0}
IsHeld splitter joined (Lying at whole) = (at < whole) × (whole ≤ length splitter.rest)
IsHeld splitter joined (Joined at) = at ≤ length joined

-- a payload was opened, as the splitter's next one; else nothing changed but a refusal that is kept
abbrev pub Opens : Result Bool (Cause Refusal) → Payloads → Payloads → Type 0
Opens (Ok true) old new = (next payload old.splitter ≡ Ok (Some new.left)) × (new.splitter ≡ after_next payload old.splitter)
Opens (Ok false) old new = (next payload old.splitter ≡ Ok None) × (new ≡ old)
Opens (Err Memory) old new = new ≡ old
Opens (Err (Refused r)) old new = (next payload old.splitter ≡ Err r) × (new ≡ record old { splitter = after_next payload old.splitter })

-- the message of this size at the front was opened, and is no longer held
pub record OpensOne (old : Splitter) (size : ℕ) (new : Splitter) (joined : List ℕ) (place : Place) : Type 0 where
  pub gives : payload (take size (drop PREFIX old.rest)) ≡ Ok (held_by new joined place).left
  pub behind : (held_by new joined place).splitter ≡ record old { rest = drop (PREFIX + size) old.rest }
  pub held : IsHeld new joined place

abbrev pub OpensMessage : Result Place (Cause Refusal) → Splitter → ℕ → Splitter → List ℕ → Type 0
OpensMessage (Ok place) old size new joined = OpensOne old size new joined place
OpensMessage (Err Memory) old size new joined = new ≡ old
OpensMessage (Err (Refused r)) old size new joined = (payload (take size (drop PREFIX old.rest)) ≡ Err r) × (new ≡ old)
