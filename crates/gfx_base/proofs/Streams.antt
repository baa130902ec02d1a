-- What several calls on one sink or source come to.
use Rattle.std.proofs.Common.{◌≡◌, ℕ, ◌≤◌, ◌<◌, List, [], ◌++◌, length, take, drop, Option, Some, None, refl, sym, ap, ◌∙◌, subst, append_assoc, arith}
use Rattle.std.proofs.lemmas.List.{append-nil, take-append-drop, nil_from_length}
use Rattle.gfx_base.specs.Stream.{Rose, Gained, Gave, Keeps, Tells, Change, change, Gains, GainsPart, FailsAfter}

-- nothing was gained
pub Gained_none : (held : Option (List ℕ)) → Gained held [] held
Gained_none None = tt
Gained_none (Some old) = sym (append-nil old)

-- what is as it was gained nothing
pub Gained_kept : (a : Option (List ℕ)) (xs : List ℕ) (b c : Option (List ℕ)) → Gained a xs b → Keeps b c → Gained a xs c
Gained_kept None xs b c g k = tt
Gained_kept (Some a) xs None c g k = absurd g
Gained_kept (Some a) xs (Some b) c g k = rw k g

-- what was told twice to be as it was, is
pub Keeps_then : (a b c : Option (List ℕ)) → Keeps a b → Keeps b c → Keeps a c
Keeps_then None b c p q = tt
Keeps_then (Some a) b c p q = subst (λ z. Keeps z c) p q

-- what is as it was is told as it was
pub Keeps_same : (a : Option (List ℕ)) → Keeps a a
Keeps_same None = tt
Keeps_same (Some a) = refl

-- two gains, one after the other, are one
pub Gained-append : (a : Option (List ℕ)) (xs : List ℕ) (b : Option (List ℕ)) (ys : List ℕ) (c : Option (List ℕ)) → Gained a xs b → Gained b ys c → Gained a (xs ++ ys) c
Gained-append None xs b ys c p q = tt
Gained-append (Some a) xs None ys c p q = absurd p
Gained-append (Some a) xs (Some b) ys None p q = q
Gained-append (Some a) xs (Some b) ys (Some c) p q = q ∙ ap (λ z. z ++ ys) p ∙ append_assoc a xs ys

-- a front of the due bytes was gained, with no fault, and the rest is still due
pub record Sent (c : Change) (due rest : List ℕ) : Type 0 where
  pub sent : List ℕ
  pub cut : due ≡ sent ++ rest
  pub gains : Gains c sent

pub Sent_none : (n : ℕ) (held : Option (List ℕ)) (due : List ℕ) → Sent (change n n held held) due due
Sent_none n held due = record { sent = []; cut = refl; gains = record { count = refl; gained = Gained_none held } }

pub Sent_more : (a b b' : ℕ) (x y z : Option (List ℕ)) (due rest : List ℕ) (n : ℕ) → Sent (change a b x y) due rest → b' ≡ b → Gained y (take n rest) z → Sent (change a b' x z) due (drop n rest)
Sent_more a b b' x y z due rest n s e g = record {
  sent = s.sent ++ take n rest;
  cut = s.cut ∙ ap (λ w. s.sent ++ w) (sym (take-append-drop n rest)) ∙ sym (append_assoc s.sent (take n rest) (drop n rest));
  gains = record { count = e ∙ s.gains.count; gained = Gained-append x s.sent y (take n rest) z s.gains.gained g };
}

pub Sent_fails : (a b d : ℕ) (x y z : Option (List ℕ)) (due rest : List ℕ) → Sent (change a b x y) due rest → b ≤ d → Rose b d → Keeps y z → FailsAfter (change a d x z) due
Sent_fails a b d x y z due rest s le rose e = record {
  falls = omega arith;
  rose = λ below. let up : b < d = rose below in omega arith;
  part = record { sent = s.sent; rest = rest; cut = s.cut; gained = Gained_kept x s.sent y z s.gains.gained e };
}

pub Sent_all : (c : Change) (due rest : List ℕ) → Sent c due rest → length rest ≡ 0 → Gains c due
Sent_all c due rest s e =
    let whole : due ≡ s.sent = s.cut ∙ ap (λ w. s.sent ++ w) (nil_from_length rest e) ∙ append-nil s.sent in
    rw whole s.gains

-- bytes gained, and then more
pub Gains-append : (a b d : ℕ) (x y z : Option (List ℕ)) (xs ys : List ℕ) → Gains (change a b x y) xs → Gains (change b d y z) ys → Gains (change a d x z) (xs ++ ys)
Gains-append a b d x y z xs ys g h =
    record { count = h.count ∙ g.count; gained = Gained-append x xs y ys z g.gained h.gained }

-- nothing gained is no change
pub Gains_none : (a : ℕ) (x : Option (List ℕ)) → Gains (change a a x x) []
Gains_none a x = record { count = refl; gained = Gained_none x }

-- a fault after bytes gained
pub FailsAfter-append : (a b d : ℕ) (x y z : Option (List ℕ)) (xs ys : List ℕ) → Gains (change a b x y) xs → FailsAfter (change b d y z) ys → FailsAfter (change a d x z) (xs ++ ys)
FailsAfter-append a b d x y z xs ys g f = record {
  falls = let before : b ≡ a = g.count in let then : b ≤ d = f.falls in omega arith;
  rose = λ below. let before : b ≡ a = g.count in let up : b < d = f.rose below in omega arith;
  part = record {
    sent = xs ++ f.part.sent;
    rest = f.part.rest;
    cut = ap (λ w. xs ++ w) f.part.cut ∙ sym (append_assoc xs f.part.sent f.part.rest);
    gained = Gained-append x xs y f.part.sent z g.gained f.part.gained;
  };
}

-- a fault with more bytes due behind
pub FailsAfter_more : (c : Change) (xs ys : List ℕ) → FailsAfter c xs → FailsAfter c (xs ++ ys)
FailsAfter_more c xs ys f = record {
  falls = f.falls;
  rose = f.rose;
  part = record {
    sent = f.part.sent;
    rest = f.part.rest ++ ys;
    cut = ap (λ w. w ++ ys) f.part.cut ∙ append_assoc f.part.sent f.part.rest ys;
    gained = f.part.gained;
  };
}

-- a fault with nothing gained
pub FailsAfter_none : (a b : ℕ) (x y : Option (List ℕ)) (due : List ℕ) → a ≤ b → Rose a b → Keeps x y → FailsAfter (change a b x y) due
FailsAfter_none a b x y due le rose same = record {
  falls = le;
  rose = rose;
  part = record { sent = []; rest = due; cut = refl; gained = Gained_kept x [] x y (Gained_none x) same };
}

-- all of the bytes are a part of them
pub GainsPart_all : (c : Change) (due : List ℕ) → Gains c due → GainsPart c due
GainsPart_all c due g = record { sent = due; rest = []; cut = sym (append-nil due); gained = g.gained }

-- a count that rose and did not fall afterwards has risen
pub Rose_then : (a b d : ℕ) → Rose a b → b ≤ d → Rose a d
Rose_then a b d rose le = λ below. let up : a < b = rose (omega arith) in omega arith

-- and so has one that did not fall before
pub then_Rose : (a b d : ℕ) → a ≤ b → Rose b d → Rose a d
then_Rose a b d le rose = λ below. let up : b < d = rose below in omega arith

-- what is told is the one list that it may be
pub Tells_same : (told : List ℕ) (bytes : List ℕ) → Tells (Some told) bytes → bytes ≡ told
Tells_same told bytes e = e

-- what is left is as it was, and what is told of it
pub Tells-Keeps : (old new : Option (List ℕ)) (rest : List ℕ) → Keeps old new → Tells new rest → Tells old rest
Tells-Keeps None new rest k t = tt
Tells-Keeps (Some old) new rest k t = subst (λ z. Tells z rest) k t

-- what was given, and what is told to be left, was told before
pub Tells-Gave : (old new : Option (List ℕ)) (given rest : List ℕ) → Gave old given new → Tells new rest → Tells old (given ++ rest)
Tells-Gave None None given rest g t = tt
Tells-Gave None (Some new) given rest g t = tt
Tells-Gave (Some old) None given rest g t = absurd g
Tells-Gave (Some old) (Some new) given rest g t = ap (λ w. given ++ w) t ∙ sym g.0
