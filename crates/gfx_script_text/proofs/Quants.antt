-- Ten numbers for the bands of a component, as they are read.
use Rattle.std.proofs.Common.{◌≡◌, ℕ, ◌<◌, ◌≤◌, Bool, true, false, ◌&&◌, nat_lt, List, [], ◌∷◌, length, Ok, refl, ap, ◌∙◌, arith}
use Rattle.std.specs.Prelude.{IsTrue}
use Rattle.std.proofs.Math.Bool.{Bool-set}
use Rattle.std.proofs.lemmas.Bool.{eq-eqb, lt-ltb}
use Rattle.std.specs.List.{AllByRecursion}
use Rattle.toml.specs.Data.{Data}
use Rattle.gfx_base.specs.Results.{Has, check, each}
use Rattle.gfx_base.proofs.ResultLemmas.{and_then_at, chain}
use Rattle.gfx_quant.specs.declared.quant.Quant.{Quant}
use Rattle.gfx_quant.specs.Quant.{are_nibbles}
use Rattle.gfx_script.specs.declared.error.ScriptKind.TheVariants.{Range}
use Rattle.gfx_script_text.specs.Progressive.{holds_or, number_in, quant_of, quant_with}
use Rattle.gfx_script_text.proofs.Ranges.{each_has, within_ok}

-- a test that holds is found to hold: there is one proof of it
holds_found : {E : Type 0} (e : E) (b : Bool) (p : IsTrue b) → holds_or e b ≡ Ok p
holds_found e true p = ap Ok (Bool-set true true refl p)
holds_found e false p = absurd cc

number_in-most : (least most : ℕ) (value : Data) → Has (number_in least most value) (λ n. n ≤ most)
unfolding number_in
number_in-most least most value = chain _ _ (λ n. n ≤ most) (λ number found. record { each = λ n is. (within_ok least most number n is).1 })

both_true : (a b : Bool) → a ≡ true → b ≡ true → (a && b) ≡ true
both_true a b e f = rw (e, f) refl

all_nibbles : (most : ℕ) (values : List ℕ) → most < 16 → AllByRecursion (λ n. n ≤ most) values → are_nibbles values ≡ true
all_nibbles most [] small each = refl
all_nibbles most (value ∷ values) small each =
    both_true (nat_lt value 16) (are_nibbles values) (lt-ltb value 16 (omega (arith, each.0))) (all_nibbles most values small each.1)

-- numbers up to a most that fits four bits fit four bits
pub small_numbers : (least most : ℕ) (items : List Data) (values : List ℕ) → most < 16 → each (number_in least most) items ≡ Ok values → IsTrue (are_nibbles values)
small_numbers least most items values small found =
    all_nibbles most values small (each_has (number_in least most) (λ n. n ≤ most) (number_in-most least most) items values found)

-- ten items are the quant of their numbers
pub quant_read : (least most : ℕ) (items : List Data) (quant : Quant) → length items ≡ 10 → each (number_in least most) items ≡ Ok quant.values → quant_of least most items ≡ Ok quant
unfolding quant_of quant_with
quant_read least most items quant ten found =
    and_then_at _ tt _ (ap (check Range) (eq-eqb (length items) 10 ten)) ∙ and_then_at _ quant.values _ found
    ∙ and_then_at _ quant.nibbles _ (holds_found Range (are_nibbles quant.values) quant.nibbles)
