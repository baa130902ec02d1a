-- A header, and what stands behind it.
use Rattle.std.proofs.Common.{◌≡◌, ℕ, ◌+◌, ◌≤◌, ◌<◌, ◌^◌, Bool, true, false, cond, ltb, List, [], ◌∷◌, ◌++◌, length, drop, Option, Some, None, Result, Ok, Err, refl, sym, ap, ◌∙◌, length-append, arith, inl, inr}
use Rattle.std.proofs.lemmas.Bool.{le-ltb, lt-ltb, ltb-false, cases_lt, cases_Bool}
use Rattle.std.proofs.lemmas.List.{drop-drop}
use Rattle.std.specs.Int.{w16, w32}
use Rattle.std.specs.List.{find}
use Rattle.std.specs.Option.{ok_or}
use Rattle.gfx_base.specs.Field.{number_at, IsBytes}
use Rattle.gfx_base.specs.declared.refusal.Refusal.{Refusal}
use Rattle.gfx_base.specs.declared.refusal.Refusal.TheVariants.{PduTruncated, PduLength, PduUnknown}
use Rattle.gfx_layout.specs.declared.stop.Stop.{Stop}
use Rattle.gfx_layout.specs.Shape.{digits, number_in, u16, u32}
use Rattle.gfx_layout.specs.Header.{size_of, kind_by, refused, header}
use Rattle.gfx_layout.proofs.ShapeLaws.{number_in-digits, row_digits-row_in}

-- ---- what is framed is read

-- a framed body, its flags two bytes
abbrev pub head : ℕ → ℕ → ℕ → ℕ → List ℕ → List ℕ
head number a b whole rest = digits u16 number ++ (a ∷ b ∷ (digits u32 whole ++ rest))

pub size_of-head : (number a b whole : ℕ) (rest : List ℕ) → 8 ≤ whole → whole ≤ 8 + length rest → whole < 2 ^ 32 → size_of (head number a b whole rest) ≡ Ok whole
unfolding size_of
size_of-head number a b whole rest least within fits =
    let long : ltb (length (head number a b whole rest)) 8 ≡ false = le-ltb _ _ (omega arith) in
    let not_below : ltb whole 8 ≡ false = le-ltb _ _ least in
    let not_beyond : ltb (length (head number a b whole rest)) whole ≡ false = le-ltb _ _ (omega arith) in
    rw (long, number_in-digits u32 whole rest fits, not_below, not_beyond) refl

pub kind_by-head : {Id : Type 0} (ids : ℕ → Option Id) (id : Id) (number a b whole : ℕ) (rest : List ℕ) → number < 2 ^ 16 → ids number ≡ Some id → kind_by ids (head number a b whole rest) ≡ Ok id
unfolding kind_by
kind_by-head ids id number a b whole rest fits named = rw (number_in-digits u16 number [] fits, named) refl

-- flags are two bytes
pub two_flags : (flags : List ℕ) → length flags ≡ 2 → (a : ℕ) × (b : ℕ) × (flags ≡ a ∷ b ∷ [])
two_flags [] two = absurd (omega arith)
two_flags (a ∷ []) two = absurd (omega arith)
two_flags (a ∷ b ∷ []) two = (a, b, refl)
two_flags (a ∷ b ∷ c ∷ others) two = absurd (omega arith)

pub length-header : (number : ℕ) (flags : List ℕ) (whole : ℕ) → length flags ≡ 2 → length (header number flags whole) ≡ 8
unfolding header
length-header number flags whole two = omega (arith, length-append flags (digits u32 whole))

-- the length in a header
pub whole-header : (number : ℕ) (flags : List ℕ) (whole : ℕ) (body : List ℕ) → length flags ≡ 2 → whole < 2 ^ 32 → number_at w32 (header number flags whole ++ body) 4 ≡ whole
unfolding header
whole-header number flags whole body two fits = let f = two_flags flags two in rw f.2 (number_in-digits u32 whole body fits)

-- ---- what is read has a header

-- what a size says
pub record IsSize (bytes : List ℕ) (whole : ℕ) : Type 0 where
  pub is : number_at w32 bytes 4 ≡ whole
  pub least : 8 ≤ whole
  pub within : whole ≤ length bytes

refused_or : {A : Type 0} (b : Bool) (r : Refusal) (go : Result A Refusal) (a : A) → cond b (Err r) go ≡ Ok a → (b ≡ false) × (go ≡ Ok a)
refused_or true r go a e = absurd cc
refused_or false r go a e = (refl, e)

pub size_of-ok : (bytes : List ℕ) (whole : ℕ) → size_of bytes ≡ Ok whole → IsSize bytes whole
unfolding size_of
size_of-ok bytes whole e =
    let first = refused_or (ltb (length bytes) 8) PduTruncated _ whole e in
    let second = refused_or (ltb (number_at w32 bytes 4) 8) PduLength _ whole first.1 in
    let third = refused_or (ltb (length bytes) (number_at w32 bytes 4)) PduTruncated (Ok (number_at w32 bytes 4)) whole second.1 in
    let last : Result ℕ Refusal = Ok (number_at w32 bytes 4) in
    let h : last ≡ Ok whole = third.1 in
    let same : number_at w32 bytes 4 ≡ whole = cc in
    let least : 8 ≤ number_at w32 bytes 4 = ltb-false _ _ second.0 in
    let within : number_at w32 bytes 4 ≤ length bytes = ltb-false _ _ third.0 in
    record { is = same; least = omega arith; within = omega arith }

ok_or-ok : {X : Type 0} (found : Option X) (x : X) → ok_or found PduUnknown ≡ Ok x → found ≡ Some x
ok_or-ok None x e = absurd cc
ok_or-ok (Some y) x e = let same : y ≡ x = cc in ap (λ z. Some z) same

pub kind_by-ok : {Id : Type 0} (ids : ℕ → Option Id) (bytes : List ℕ) (id : Id) → kind_by ids bytes ≡ Ok id → ids (number_at w16 bytes 0) ≡ Some id
unfolding kind_by
kind_by-ok ids bytes id e = ok_or-ok (ids (number_at w16 bytes 0)) id e

-- what is found passes the test
pub find_passes : {X : Type 0} (test : X → Bool) (xs : List X) (x : X) → find test xs ≡ Some x → test x ≡ true
find_passes test [] x e = absurd cc
find_passes test (y ∷ ys) x e =
    elim (cases_Bool (test y)) [
      | inl passes ↦ let found : cond (test y) (Some y) (find test ys) ≡ Some x = e in let first = rw passes at found in let same : y ≡ x = cc in ap test (sym same) ∙ passes
      | inr fails ↦ let found : cond (test y) (Some y) (find test ys) ≡ Some x = e in find_passes test ys x (rw fails at found)
    ]

-- a header and what stands behind it
pub header-read : (bytes : List ℕ) (number whole : ℕ) → IsBytes bytes → 8 ≤ length bytes → number ≡ number_at w16 bytes 0 → number_at w32 bytes 4 ≡ whole → bytes ≡ header number (digits u16 (number_in u16 (drop 2 bytes))) whole ++ drop 8 bytes
unfolding header
header-read bytes number whole all long named sized =
    let there : number_in u32 (drop 2 (drop 2 bytes)) ≡ whole = ap (number_in u32) (drop-drop 2 2 bytes) ∙ sized in
    row_digits-row_in (u16 ∷ u16 ∷ u32 ∷ []) bytes all long ∙ rw (there, sym named) refl

-- a front that is too short
pub size_of-cut : (bytes : List ℕ) (whole : ℕ) → length bytes < whole → 8 ≤ whole → (8 ≤ length bytes → number_at w32 bytes 4 ≡ whole) → size_of bytes ≡ Err PduTruncated
unfolding size_of
size_of-cut bytes whole short least is =
    elim (cases_lt (length bytes) 8) [
      | inl below ↦ let test : ltb (length bytes) 8 ≡ true = lt-ltb _ _ below in rw test refl
      | inr enough ↦
          let test : ltb (length bytes) 8 ≡ false = le-ltb _ _ enough in
          let not_below : ltb whole 8 ≡ false = le-ltb _ _ least in
          let beyond : ltb (length bytes) whole ≡ true = lt-ltb _ _ short in
          rw (test, is enough, not_below, beyond) refl
    ]

-- what was read of a body without a refusal
pub refused-ok : {X : Type 0} (read : Result X Stop) (x : X) → refused read ≡ Ok x → read ≡ Ok x
refused-ok (Ok y) x e = let same : y ≡ x = cc in ap (λ z. Ok z) same
refused-ok (Err stop) x e = absurd cc
