-- Bytes put one piece after the other, until there is no memory.
use Rattle.std.proofs.Common.{◌≡◌, ℕ, ◌≤◌, List, ◌++◌, length, take, Result, Ok, Err, OnOk, OnErr, refl, sym, ap, ◌∙◌, append_assoc, arith, length-take}
use Rattle.std.proofs.lemmas.List.{take-take, take_all, take_at}
use Rattle.gfx_base.specs.declared.answer.NoMemory.{NoMemory}
use Rattle.gfx_segment.specs.Pieces.{Keeps, Puts}

pub keeps_same : (old new : List ℕ) → new ≡ old → Keeps old new
keeps_same old new e = record { kept = rw e (take_all (length old) old (omega arith)) }

pub keeps_more : (old new more : List ℕ) → new ≡ old ++ more → Keeps old new
keeps_more old new more e = record { kept = rw e (take_at old more (length old) refl) }

length_kept : (old new : List ℕ) → Keeps old new → length old ≤ length new
length_kept old new h = omega (arith, ap length h.kept, length-take (length old) new)

pub keeps_after : (old mid new : List ℕ) → Keeps old mid → Keeps mid new → Keeps old new
keeps_after old mid new first last = record {
  kept = sym (take-take (length old) (length mid) new (length_kept old mid first)) ∙ ap (take (length old)) last.kept ∙ first.kept;
}

-- one piece
pub puts_piece : (result : Result (Unit {0}) NoMemory) (old new piece : List ℕ) → OnOk result (new ≡ old ++ piece) → OnErr result (new ≡ old) → Puts result old new piece
puts_piece (Ok done) old new piece ok err = ok
puts_piece (Err fault) old new piece ok err = keeps_same old new err

-- a piece before the others
pub puts_after : (result : Result (Unit {0}) NoMemory) (old mid new first others : List ℕ) → mid ≡ old ++ first → Puts result mid new others → Puts result old new (first ++ others)
puts_after (Ok done) old mid new first others e is = is ∙ ap (λ z. z ++ others) e ∙ append_assoc old first others
puts_after (Err fault) old mid new first others e is = keeps_after old mid new (keeps_more old mid first e) is

-- what is due is what was put
pub puts_due : (result : Result (Unit {0}) NoMemory) (old new piece due : List ℕ) → piece ≡ due → Puts result old new piece → Puts result old new due
puts_due result old new piece due e is = rw (← e) is
