-- The next answer and what is held after it, case by case.
use Rattle.std.proofs.Common.{◌≡◌, ℕ, true, List, Option, Some, None, Result, Ok, Err, refl, sym, ap, ◌∙◌}
use Rattle.gfx_base.specs.declared.refusal.Refusal.{Refusal}
use Rattle.gfx_base.specs.declared.refusal.Refusal.TheVariants.{ChannelLength}
use Rattle.gfx_base.specs.Results.{and_then}
use Rattle.gfx_segment.specs.Framing.{Front, Whole, Short, Bad, front, Splitter, holding, refused, answer_of, behind, next_of, next, after_next, is_described, begins_described, may_give}
use Rattle.gfx_segment.proofs.GivenLemmas.{Reader}

-- this answer is due, and this is held after it
abbrev pub IsNext : Reader → Splitter → Result (Option (List ℕ)) Refusal → Splitter → Type 0
IsNext read held answer new = (next read held ≡ answer) × (new ≡ after_next read held)

refused_at : (read : Reader) (refusal : Option Refusal) (rest : List ℕ) (r : Refusal) → refusal ≡ Some r → let held : Splitter = record { rest = rest; refusal = refusal } in IsNext read held (Err r) held
unfolding next_of
refused_at read None rest r e = absurd cc
refused_at read (Some s) rest r e = let same : s ≡ r = cc in (ap (λ z. Err z) same, refl)

pub next_refused : (read : Reader) (held : Splitter) (r : Refusal) → held.refusal ≡ Some r → IsNext read held (Err r) held
next_refused read held r e = refused_at read held.refusal held.rest r e

-- where none is kept, by what is at the front
open_at : (read : Reader) (refusal : Option Refusal) (rest : List ℕ) (found : Front) (answer : Result (Option (List ℕ)) Refusal) → refusal ≡ None → front rest ≡ found → answer_of read found ≡ answer → IsNext read (record { rest = rest; refusal = refusal }) answer (behind answer found rest)
unfolding next_of
open_at read None rest found answer none is due =
    let now : answer_of read (front rest) ≡ answer = ap (answer_of read) is ∙ due in
    (now, sym (ap (λ z. behind z (front rest) rest) now ∙ ap (λ z. behind answer z rest) is))
open_at read (Some s) rest found answer none is due = absurd cc

same_at : (refusal : Option Refusal) (rest : List ℕ) → refusal ≡ None → let held : Splitter = record { rest = rest; refusal = refusal } in held ≡ holding rest
same_at refusal rest none = ap (λ z. let held : Splitter = record { rest = rest; refusal = z } in held) none

with_new : (read : Reader) (held : Splitter) (answer : Result (Option (List ℕ)) Refusal) (new now : Splitter) → new ≡ now → IsNext read held answer now → IsNext read held answer new
with_new read held answer new now e is = (is.0, e ∙ is.1)

pub next_short : (read : Reader) (held : Splitter) → held.refusal ≡ None → front held.rest ≡ Short → IsNext read held (Ok None) held
unfolding answer_of behind
next_short read held none is = with_new read held (Ok None) held (holding held.rest) (same_at held.refusal held.rest none) (open_at read held.refusal held.rest Short (Ok None) none is refl)

pub next_bad : (read : Reader) (held new : Splitter) → held.refusal ≡ None → front held.rest ≡ Bad → new ≡ refused ChannelLength → IsNext read held (Err ChannelLength) new
unfolding answer_of behind
next_bad read held new none is e = with_new read held (Err ChannelLength) new (refused ChannelLength) e (open_at read held.refusal held.rest Bad (Err ChannelLength) none is refl)

-- the message is read
pub next_whole : (read : Reader) (held new : Splitter) (m a p : List ℕ) → held.refusal ≡ None → front held.rest ≡ Whole m a → read m ≡ Ok p → new ≡ record held { rest = a } → IsNext read held (Ok (Some p)) new
unfolding answer_of behind and_then
next_whole read held new m a p none is reads e =
    with_new read held (Ok (Some p)) new (holding a) (e ∙ same_at held.refusal a none)
    (open_at read held.refusal held.rest (Whole m a) (Ok (Some p)) none is (ap (λ z. and_then z (λ q. Ok (Some q))) reads))

-- the message is refused
pub next_unread : (read : Reader) (held new : Splitter) (m a : List ℕ) (r : Refusal) → held.refusal ≡ None → front held.rest ≡ Whole m a → read m ≡ Err r → new ≡ refused r → IsNext read held (Err r) new
unfolding answer_of behind and_then
next_unread read held new m a r none is reads e =
    with_new read held (Err r) new (refused r) e
    (open_at read held.refusal held.rest (Whole m a) (Err r) none is (ap (λ z. and_then z (λ q. Ok (Some q))) reads))

-- none is kept, since it was none of the kept ones
pub none_kept : (kept refusal : Option Refusal) → kept ≡ refusal → ((r : Refusal) → kept ≡ Some r → ⊥) → refusal ≡ None
none_kept None refusal e other = sym e
none_kept (Some r) refusal e other = absurd (other r refl)

-- there may be a payload to take
pub may_give_at : (held : Splitter) (m a : List ℕ) → held.refusal ≡ None → front held.rest ≡ Whole m a → is_described m ≡ true → may_give held ≡ true
unfolding may_give begins_described
may_give_at held m a none is known = rw (none, is) known
