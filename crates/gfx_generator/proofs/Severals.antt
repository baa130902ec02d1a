-- The texts of several draws, written one after another.
use Rattle.std.proofs.Common.{◌≡◌, ℕ, suc, ◌+◌, ◌-◌, ◌<◌, List, ◌++◌, refl, sym, ◌∙◌, append_assoc, append-nil, arith}
use Rattle.std.specs.List.{flat_map}
use Rattle.gfx_generator.specs.Draws.{Draw, several}

-- some are still to be drawn: their texts are what is missing, and their last state is the last one of all
pub record Left {A : Type 0} (text_of : A → List ℕ) (one : Draw A) (left count : ℕ) (state first : ℕ) (new old : List ℕ) : Type 0 where
  pub text : new ++ flat_map text_of (several left one state).value ≡ old ++ flat_map text_of (several count one first).value
  pub last : (several left one state).state ≡ (several count one first).state

-- all are
pub Left_all : {A : Type 0} (text_of : A → List ℕ) (one : Draw A) (left count state : ℕ) (old : List ℕ) → left ≡ count → Left text_of one left count state state old old
Left_all text_of one left count state old e = rw e record { text = refl; last = refl }

-- one more was drawn, and its text was written
Left_one : {A : Type 0} (text_of : A → List ℕ) (one : Draw A) (left count state first : ℕ) (new old : List ℕ)
    → Left text_of one (suc left) count state first new old
    → Left text_of one left count (one state).state first (new ++ text_of (one state).value) old
unfolding several
Left_one text_of one left count state first new old s = record {
  text = append_assoc new (text_of (one state).value) (flat_map text_of (several left one (one state).state).value) ∙ s.text;
  last = s.last;
}

-- the same where what was drawn of all is counted
pub Left_next : {A : Type 0} (text_of : A → List ℕ) (one : Draw A) (done count state first after : ℕ) (new old more : List ℕ)
    → done < count → after ≡ (one state).state → more ≡ new ++ text_of (one state).value
    → Left text_of one (count - done) count state first new old
    → Left text_of one (count - (done + 1)) count after first more old
Left_next text_of one done count state first after new old more below e f s =
    let one_more : count - done ≡ suc (count - (done + 1)) = omega arith in
    rw (e, f) (Left_one text_of one (count - (done + 1)) count state first new old (rw one_more at s))

-- none is
pub Left_none : {A : Type 0} (text_of : A → List ℕ) (one : Draw A) (left count state first : ℕ) (new old : List ℕ)
    → left ≡ 0 → Left text_of one left count state first new old
    → (new ≡ old ++ flat_map text_of (several count one first).value) × (state ≡ (several count one first).state)
unfolding several
Left_none text_of one left count state first new old e s =
    let none = rw e at s in
    (sym (append-nil new) ∙ none.text, none.last)
