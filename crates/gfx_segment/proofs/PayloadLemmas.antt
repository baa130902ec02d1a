-- Payloads that are lent where they lie.
use Rattle.std.proofs.Common.{◌≡◌, ℕ, ◌+◌, ◌-◌, ◌≤◌, true, false, List, [], length, take, drop, Some, None, Ok, Err, refl, sym, ap, ◌∙◌, length-drop, length-take, arith}
use Rattle.std.proofs.lemmas.List.{drop-take, drop-drop}
use Rattle.gfx_base.specs.declared.refusal.Refusal.{Refusal}
use Rattle.gfx_base.specs.declared.refusal.Refusal.TheVariants.{ChannelLength}
use Rattle.gfx_base.specs.declared.answer.Cause.TheVariants.{Refused}
use Rattle.gfx_segment.specs.declared.payloads.Place.{Place}
use Rattle.gfx_segment.specs.declared.payloads.Place.TheVariants.{Closed, Lying, Joined}
use Rattle.gfx_segment.specs.Framing.{Whole, Short, Bad, front, Splitter, refused, payload}
use Rattle.gfx_segment.specs.Payloads.{Payloads, held_by, IsHeld, Opens}
use Rattle.gfx_segment.proofs.NextLemmas.{next_refused, next_short, next_bad, next_whole, next_unread}

-- some of one that lies is passed
pub lying_passed : (rest : List ℕ) (at count whole : ℕ) → at + count ≤ whole → take (whole - (at + count)) (drop (at + count) rest) ≡ drop count (take (whole - at) (drop at rest))
lying_passed rest at count whole within =
    let long : whole - at ≡ count + (whole - (at + count)) = omega arith in
    sym (ap (λ n. drop count (take n (drop at rest))) long ∙ drop-take count (whole - (at + count)) (drop at rest) ∙ ap (take (whole - (at + count))) (drop-drop count at rest))

-- nothing is left of it
abbrev pub closed : Splitter → Payloads
closed splitter = record { splitter = splitter; left = [] }

left_none : (splitter : Splitter) (joined : List ℕ) (place : Place) → IsHeld splitter joined place → (held_by splitter joined place).left ≡ [] → held_by splitter joined place ≡ closed splitter
left_none splitter joined Closed held none = refl
left_none splitter joined (Lying at whole) held none =
    absurd (omega (arith, held, ap length none, length-take (whole - at) (drop at splitter.rest), length-drop at splitter.rest))
left_none splitter joined (Joined at) held none = ap (λ z. record { splitter = splitter; left = z }) none

pub was_closed : (old : Payloads) (splitter : Splitter) (joined : List ℕ) (place : Place) → held_by splitter joined place ≡ old → IsHeld splitter joined place → old.left ≡ [] → old ≡ closed splitter
was_closed old splitter joined place is held none = sym is ∙ left_none splitter joined place held (ap (λ (z : Payloads). z.left) is ∙ none)

-- what opening the next answers, case by case
pub opens_refused : (old : Payloads) (s : Splitter) (r : Refusal) → old ≡ closed s → s.refusal ≡ Some r → Opens (Err (Refused r)) old (closed s)
opens_refused old s r e kept = let n = next_refused payload s r kept in rw e (n.0, ap closed n.1)

pub opens_short : (old : Payloads) (s : Splitter) → old ≡ closed s → s.refusal ≡ None → front s.rest ≡ Short → Opens (Ok false) old (closed s)
opens_short old s e none is = rw e ((next_short payload s none is).0, refl)

pub opens_bad : (old : Payloads) (s new : Splitter) → old ≡ closed s → s.refusal ≡ None → front s.rest ≡ Bad → new ≡ refused ChannelLength → Opens (Err (Refused ChannelLength)) old (closed new)
opens_bad old s new e none is now = let n = next_bad payload s new none is now in rw e (n.0, ap closed n.1)

pub opens_unread : (old : Payloads) (s new : Splitter) (m a : List ℕ) (r : Refusal) → old ≡ closed s → s.refusal ≡ None → front s.rest ≡ Whole m a → payload m ≡ Err r → new ≡ refused r → Opens (Err (Refused r)) old (closed new)
opens_unread old s new m a r e none is reads now = let n = next_unread payload s new m a r none is reads now in rw e (n.0, ap closed n.1)

pub opens_whole : (old new : Payloads) (s : Splitter) (m a : List ℕ) → old ≡ closed s → s.refusal ≡ None → front s.rest ≡ Whole m a → payload m ≡ Ok new.left → new.splitter ≡ record s { rest = a } → Opens (Ok true) old new
opens_whole old new s m a e none is reads now = rw e (next_whole payload s new.splitter m a new.left none is reads now)
