-- What a splitter stands for: more bytes may come, and one more message may be given.
use Rattle.std.proofs.Common.{◌≡◌, ℕ, List, [], ◌∷◌, ◌++◌, Option, Some, None, Result, Ok, Err, refl, sym, ap, ◌∙◌}
use Rattle.std.proofs.lemmas.List.{append-nil}
use Rattle.gfx_base.specs.declared.refusal.Refusal.{Refusal}
use Rattle.gfx_base.specs.declared.answer.Cause.{Cause}
use Rattle.gfx_base.specs.declared.answer.Cause.TheVariants.{Refused, Memory}
use Rattle.gfx_base.specs.Results.{and_then}
use Rattle.gfx_segment.specs.Framing.{Front, Whole, Short, Bad, front, Splitter, holding, refused, fed, answer_of, behind, next_of, next, after_next, Given, IsDue, Stands, TakesIn, GivesOut, taken, Answers}
use Rattle.gfx_segment.proofs.FrontLemmas.{front-append_whole, front-append_bad}

-- how a message is read
abbrev pub Reader : Type 0
Reader = List ℕ → Result (List ℕ) Refusal

-- answers ------------------------------------------------------------------------------------------

-- a message that is read
pub record Reads (read : Reader) (found : Front) (p : List ℕ) : Type 0 where
  pub message : List ℕ
  pub after : List ℕ
  pub front_is : found ≡ Whole message after
  pub gives : read message ≡ Ok p

read_some : (read : Reader) (r : Result (List ℕ) Refusal) (m a p : List ℕ) → read m ≡ r → and_then r (λ q. Ok (Some q)) ≡ Ok (Some p) → Reads read (Whole m a) p
unfolding and_then
read_some read (Ok q) m a p is e = record { message = m; after = a; front_is = refl; gives = let same : q ≡ p = cc in is ∙ ap (λ z. Ok z) same }
read_some read (Err r) m a p is e = absurd cc

answer_some : (read : Reader) (found : Front) (p : List ℕ) → answer_of read found ≡ Ok (Some p) → Reads read found p
unfolding answer_of
answer_some read (Whole m a) p e = read_some read (read m) m a p refl e
answer_some read Short p e = absurd cc
answer_some read Bad p e = absurd cc

never_none : (r : Result (List ℕ) Refusal) → and_then r (λ q. Ok (Some q)) ≡ Ok None → ⊥
unfolding and_then
never_none (Ok q) e = cc
never_none (Err r) e = cc

pub answer_none : (read : Reader) (found : Front) → answer_of read found ≡ Ok None → found ≡ Short
unfolding answer_of
answer_none read (Whole m a) e = absurd (never_none (read m) e)
answer_none read Short e = refl
answer_none read Bad e = absurd cc

-- a refusal is due whatever follows
err_more : (read : Reader) (found : Front) (bytes more : List ℕ) (r : Refusal) → front bytes ≡ found → answer_of read found ≡ Err r → answer_of read (front (bytes ++ more)) ≡ Err r
unfolding answer_of
err_more read (Whole m a) bytes more r is e = rw (front-append_whole bytes more m a is) e
err_more read Short bytes more r is e = absurd cc
err_more read Bad bytes more r is e = rw (front-append_bad bytes more is) e

pub answer-append : (read : Reader) (bytes more : List ℕ) (r : Refusal) → answer_of read (front bytes) ≡ Err r → answer_of read (front (bytes ++ more)) ≡ Err r
answer-append read bytes more r e = err_more read (front bytes) bytes more r refl e

-- what is given whole --------------------------------------------------------------------------------

pub Given-append : (read : Reader) (bytes : List ℕ) (given : List (List ℕ)) (rest more : List ℕ) → Given read bytes given rest → Given read (bytes ++ more) given (rest ++ more)
Given-append read bytes [] rest more e = ap (λ z. z ++ more) e
Given-append read bytes (p ∷ ps) rest more (m, a, whole, reads, others) =
    (m, a ++ more, front-append_whole bytes more m a whole, reads, Given-append read a ps rest more others)

pub Given-push : (read : Reader) (bytes : List ℕ) (given : List (List ℕ)) (rest m a p : List ℕ) → Given read bytes given rest → front rest ≡ Whole m a → read m ≡ Ok p → Given read bytes (given ++ p ∷ []) a
Given-push read bytes [] rest m a p e whole reads = (m, a, ap front e ∙ whole, reads, refl)
Given-push read bytes (q ∷ qs) rest m a p (n, b, first, gives, others) whole reads =
    (n, b, first, gives, Given-push read b qs rest m a p others whole reads)

-- the laws of the calls ---------------------------------------------------------------------------------

pub stands_none : (read : Reader) → Stands read [] [] (holding [])
stands_none read = record { left = []; gave = refl; due = refl }

fed_more : (read : Reader) (refusal : Option Refusal) (rest left piece : List ℕ) → IsDue read left refusal rest → let new = fed (record { rest = rest; refusal = refusal }) piece in IsDue read (left ++ piece) new.refusal new.rest
fed_more read None rest left piece e = ap (λ z. z ++ piece) e
fed_more read (Some r) rest left piece e = answer-append read left piece r e

fed_law : (old : Splitter) (piece : List ℕ) → TakesIn old (fed old piece) piece
fed_law old piece read bytes given stands = record {
  left = stands.left ++ piece;
  gave = Given-append read bytes given stands.left piece stands.gave;
  due = fed_more read old.refusal old.rest stands.left piece stands.due;
}

pub takes_in_fed : (old new : Splitter) (piece : List ℕ) → new ≡ fed old piece → TakesIn old new piece
takes_in_fed old new piece e = rw e (fed_law old piece)

-- nothing was given, and nothing changed
stays : (read : Reader) (old : Splitter) → GivesOut read old old []
stays read old bytes given stands = rw (append-nil given) stands

-- a message was given: the bytes after it are held
gives_one : (read : Reader) (rest p : List ℕ) (reads : Reads read (front rest) p) → GivesOut read (holding rest) (holding reads.after) (p ∷ [])
gives_one read rest p reads bytes given stands = record {
  left = reads.after;
  gave = Given-push read bytes given stands.left reads.message reads.after p stands.gave (ap front (sym stands.due) ∙ reads.front_is) reads.gives;
  due = refl;
}

-- the refusal that was due is kept
keeps : (read : Reader) (rest : List ℕ) (r : Refusal) → answer_of read (front rest) ≡ Err r → GivesOut read (holding rest) (refused r) []
keeps read rest r e bytes given stands = record {
  left = stands.left;
  gave = rw (append-nil given) stands.gave;
  due = ap (λ z. answer_of read (front z)) (sym stands.due) ∙ e;
}

behind_some : (found : Front) (given : Option (List ℕ)) (bytes m a : List ℕ) → found ≡ Whole m a → behind (Ok given) found bytes ≡ holding a
unfolding behind
behind_some found given bytes m a e = rw e refl

behind_none : (found : Front) (given : Option (List ℕ)) (bytes : List ℕ) → found ≡ Short → behind (Ok given) found bytes ≡ holding bytes
unfolding behind
behind_none found given bytes e = rw e refl

behind_err : (found : Front) (bytes : List ℕ) (r : Refusal) → behind (Err r) found bytes ≡ refused r
unfolding behind
behind_err found bytes r = refl

open_law : (read : Reader) (result : Result (Option (List ℕ)) (Cause Refusal)) (rest : List ℕ) (new : Splitter) → Answers result (holding rest) new (answer_of read (front rest)) (behind (answer_of read (front rest)) (front rest) rest) → GivesOut read (holding rest) new (taken result)
open_law read (Ok (Some p)) rest new (e, is) =
    let reads = answer_some read (front rest) p e in
    let now : new ≡ holding reads.after = is ∙ ap (λ z. behind z (front rest) rest) e ∙ behind_some (front rest) (Some p) rest reads.message reads.after reads.front_is in
    rw now (gives_one read rest p reads)
open_law read (Ok None) rest new (e, is) =
    let now : new ≡ holding rest = is ∙ ap (λ z. behind z (front rest) rest) e ∙ behind_none (front rest) None rest (answer_none read (front rest) e) in
    rw now (stays read (holding rest))
open_law read (Err Memory) rest new is = rw is (stays read (holding rest))
open_law read (Err (Refused r)) rest new (e, is) =
    let now : new ≡ refused r = is ∙ ap (λ z. behind z (front rest) rest) e ∙ behind_err (front rest) rest r in
    rw now (keeps read rest r e)

next_law : (read : Reader) (result : Result (Option (List ℕ)) (Cause Refusal)) (refusal : Option Refusal) (rest : List ℕ) (new : Splitter) → let old : Splitter = record { rest = rest; refusal = refusal } in Answers result old new (next read old) (after_next read old) → GivesOut read old new (taken result)
unfolding next_of
next_law read result None rest new is = open_law read result rest new is
next_law read (Ok given) (Some r) rest new (e, is) = absurd cc
next_law read (Err Memory) (Some r) rest new is = rw is (stays read (record { rest = rest; refusal = Some r }))
next_law read (Err (Refused s)) (Some r) rest new (e, is) = rw is (stays read (record { rest = rest; refusal = Some r }))

pub gives_out_next : (read : Reader) (result : Result (Option (List ℕ)) (Cause Refusal)) (old new : Splitter) → Answers result old new (next read old) (after_next read old) → GivesOut read old new (taken result)
gives_out_next read result old new is = next_law read result old.refusal old.rest new is
