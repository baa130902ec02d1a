-- A step of the reader: a token, and of it what there is room for.
use Rattle.std.proofs.Common.{◌≡◌, ℕ, zero, suc, ◌+◌, ◌-◌, ◌≤◌, ◌<◌, ◌&&◌, Bool, true, false, ℤ, pos, List, [], ◌∷◌, ◌++◌, map, replicate, min, refl, sym, ap, subst, ◌∙◌, arith, append_assoc}
use Rattle.std.specs.Prelude.{nat_lt}
use Rattle.std.proofs.lemmas.Bool.{ltb-true, lt-ltb}
use Rattle.std.proofs.lemmas.List.{append-nil, map-append}
use Rattle.gfx_srl.specs.Code.{Pair}
use Rattle.gfx_srl.specs.Steps.{Reader, HasRead, ReadsMany, ReadsNext, at_width}
use Rattle.gfx_srl.proofs.Reading.{pair_of, standing, zero-read}

-- zeros that were still to give
zeros-read : (count : ℕ) (all bits : List Bool) (kp zeros width : ℕ) (ends : Bool) (pairs : List Pair) → HasRead all pairs (standing bits kp (count + zeros) ends)
    → HasRead all (pairs ++ map (at_width width) (replicate count (pos 0))) (standing bits kp zeros ends)
zeros-read zero all bits kp zeros width ends pairs h =
    subst (λ ps. HasRead all ps (standing bits kp zeros ends)) (sym (append-nil pairs)) (subst (λ n. HasRead all pairs (standing bits kp n ends)) {x = 0 + zeros} {y = zeros} (omega arith) h)
zeros-read (suc count) all bits kp zeros width ends pairs h =
    subst (λ ps. HasRead all ps (standing bits kp zeros ends)) (append_assoc pairs (pair_of (pos 0) width ∷ []) (map (at_width width) (replicate count (pos 0))))
    (zeros-read count all bits kp zeros width ends (pairs ++ pair_of (pos 0) width ∷ [])
    (zero-read all bits kp (count + zeros) width ends pairs (subst (λ n. HasRead all pairs (standing bits kp n ends)) {x = suc count + zeros} {y = suc (count + zeros)} (omega arith) h)))

pub steps-zeros : (old mid new : Reader) (count n : ℕ) → ReadsMany 0 [] old mid → count ≤ mid.zeros → new ≡ record mid { zeros = mid.zeros - count }
    → ReadsMany n (replicate count (pos 0)) old new
steps-zeros old mid new count n begun known passed all pairs h =
    subst (HasRead all (pairs ++ map (at_width n) (replicate count (pos 0)))) (sym passed)
    (zeros-read count all mid.bits mid.kp (mid.zeros - count) n mid.ends pairs
    (subst (λ z. HasRead all pairs (standing mid.bits mid.kp z mid.ends)) {x = mid.zeros} {y = count + (mid.zeros - count)} (omega arith)
    (subst (λ ps. HasRead all ps mid) (append-nil pairs) (begun all pairs h))))

pub steps-value : (old mid new : Reader) (values : List ℤ) (value : ℤ) (n : ℕ) → ReadsMany n values old mid → ReadsNext n value mid new
    → ReadsMany n (values ++ value ∷ []) old new
steps-value old mid new values value n begun next all pairs h =
    subst (λ ps. HasRead all ps new)
    (append_assoc pairs (map (at_width n) values) (at_width n value ∷ []) ∙ ap (λ ps. pairs ++ ps) (sym (map-append (at_width n) values (value ∷ []))))
    (next all (pairs ++ map (at_width n) values) (begun all pairs h))

-- ---- a step goes on

both : (a b : Bool) → (a && b) ≡ true → a ≡ true
both true b e = refl
both false b e = e

pub has-room : (passed room : ℕ) (ends : Bool) → (nat_lt passed room && ends) ≡ true → passed < room
has-room passed room ends e = ltb-true passed room (both (nat_lt passed room) ends e)

pub some-passed : (passed zeros room : ℕ) (ends : Bool) → passed ≡ min zeros room → 1 ≤ room → (zeros ≡ 0 → ends ≡ true) → (nat_lt passed room && ends) ≡ false → 1 ≤ passed
some-passed zero zero room ends e some known stop =
    absurd (true-false (sym (ap (λ b. b && ends) (lt-ltb 0 room (omega arith)) ∙ known refl) ∙ stop))
  where
    true-false : true ≡ false → ⊥
    true-false f = cc
some-passed zero (suc zeros) room ends e some known stop = absurd (omega arith)
some-passed (suc passed) zeros room ends e some known stop = omega arith

-- zeros that don't fill the room are all passed
pub none-left : (known room passed : ℕ) → passed ≡ min known room → passed < room → known - passed ≡ 0
none-left known room passed e h = omega arith
