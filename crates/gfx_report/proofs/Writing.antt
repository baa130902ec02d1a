-- One write after another on a sink.
use Rattle.std.proofs.Common.{◌≡◌, ℕ, ◌+◌, List, [], ◌++◌, Option, Result, Ok, Err, ap, sym, ◌∙◌, append_assoc, take, drop}
use Rattle.std.specs.List.{flat_map}
use Rattle.std.proofs.lemmas.List.{take-append-drop, drop-drop}
use Rattle.std.proofs.lemmas.Grind.{flat_map-append}
use Rattle.std.specs.Prelude.{IsErr}
use Rattle.gfx_base.specs.declared.pixel.Pixel.{Pixel}
use Rattle.gfx_surface.specs.Picture.{Picture, row_of, run_of}
use Rattle.gfx_base.specs.Stream.{Change, change, Gains, FailsAfter, Writes}
use Rattle.gfx_base.proofs.Streams.{Sent, Gains_none, Gains-append, FailsAfter-append, FailsAfter_more}

-- all is still due
pub Sent_nothing : (n : ℕ) (held : Option (List ℕ)) (due rest : List ℕ) → due ≡ rest → Sent (change n n held held) due rest
Sent_nothing n held due rest e = record { sent = []; cut = e; gains = Gains_none n held }

-- what is still due, in other words
pub Sent_as : (c : Change) (due rest same : List ℕ) → rest ≡ same → Sent c due rest → Sent c due same
Sent_as c due rest same e s = rw (← e) s

-- the front of what is still due was gained
pub Sent_front : (a b d : ℕ) (x y z : Option (List ℕ)) (due xs rest : List ℕ) → Sent (change a b x y) due (xs ++ rest) → Gains (change b d y z) xs → Sent (change a d x z) due rest
Sent_front a b d x y z due xs rest s g = record {
  sent = s.sent ++ xs;
  cut = s.cut ∙ sym (append_assoc s.sent xs rest);
  gains = Gains-append a b d x y z s.sent xs s.gains g;
}

-- a fault within the front of what is still due
pub Sent_broken : (a b d : ℕ) (x y z : Option (List ℕ)) (due xs rest : List ℕ) → Sent (change a b x y) due (xs ++ rest) → FailsAfter (change b d y z) xs → FailsAfter (change a d x z) due
Sent_broken a b d x y z due xs rest s f =
    rw s.cut (FailsAfter-append a b d x y z s.sent (xs ++ rest) s.gains (FailsAfter_more (change b d y z) xs rest f))

-- bytes gained, and then a write of more
pub Writes-append : {E : Type 0} (r : Result (Unit {0}) E) (a b d : ℕ) (x y z : Option (List ℕ)) (xs ys : List ℕ) → Gains (change a b x y) xs → Writes r (change b d y z) ys → Writes r (change a d x z) (xs ++ ys)
Writes-append (Ok _) a b d x y z xs ys g w = Gains-append a b d x y z xs ys g w
Writes-append (Err _) a b d x y z xs ys g w = FailsAfter-append a b d x y z xs ys g w

-- a call that failed
pub Writes_failed : {E : Type 0} (r : Result (Unit {0}) E) (c : Change) (due : List ℕ) → IsErr r → FailsAfter c due → Writes r c due
Writes_failed (Ok _) c due e f = cc
Writes_failed (Err _) c due e f = f

-- what is still due of some items is due of a front of them and of the others
pub Sent_cut : {X : Type 0} (f : X → List ℕ) (c : Change) (due : List ℕ) (xs front back : List X) (n : ℕ) → front ≡ take n xs → back ≡ drop n xs → Sent c due (flat_map f xs) → Sent c due (flat_map f front ++ flat_map f back)
Sent_cut f c due xs front back n e d s =
    rw (e, d, ← flat_map-append f (take n xs) (drop n xs), take-append-drop n xs) s

-- what is still due of a row is due of a run of it and of the pixels behind
pub Sent_run : (f : Pixel → List ℕ) (c : Change) (due : List ℕ) (picture : Picture) (x y count n : ℕ) → n ≡ count
    → Sent c due (flat_map f (drop x (row_of picture y))) → Sent c due (flat_map f (run_of picture x y n) ++ flat_map f (drop (x + count) (row_of picture y)))
Sent_run f c due picture x y count n same s =
    let row = row_of picture y in
    Sent_cut f c due (drop x row) (run_of picture x y n) (drop (x + count) row) count (ap (λ k. take k (drop x row)) same) (sym (drop-drop count x row)) s
