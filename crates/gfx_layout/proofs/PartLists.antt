-- Parts of one size, read from the front one by one.
use Rattle.std.proofs.Common.{◌≡◌, ℕ, suc, ◌+◌, ◌-◌, ◌*◌, ◌≤◌, ◌<◌, List, [], ◌∷◌, ◌++◌, length, drop, sym, ap, ◌∙◌, append_assoc, length-drop, suc-mul, arith}
use Rattle.std.proofs.lemmas.List.{append-nil}
use Rattle.gfx_layout.specs.Shape.{Shape, width, part_in}
use Rattle.gfx_layout.specs.Reading.{parts_in}

module _ {T : Type 0} (shape : Shape T) (count i : ℕ) (front : List T) (rest : List ℕ) where
  -- what was read, the next part, and the parts behind it
  pub parts_in-next : (due : List T) → i < count → front ++ parts_in shape (count - i) rest ≡ due → (front ++ part_in shape rest ∷ []) ++ parts_in shape (count - (i + 1)) (drop (width shape) rest) ≡ due
  unfolding parts_in
  parts_in-next due lt so_far =
      let k : count - i ≡ suc (count - (i + 1)) = omega arith in
      append_assoc front (part_in shape rest ∷ []) _ ∙ (rw k at so_far)

  -- all were read
  pub parts_in-end : (due : List T) → count ≤ i → front ++ parts_in shape (count - i) rest ≡ due → front ≡ due
  unfolding parts_in
  parts_in-end due le so_far =
      let k : count - i ≡ 0 = omega arith in
      sym (append-nil front) ∙ (rw k at so_far)

-- there is room for one more part
pub room-next : (wide count i : ℕ) (rest : List ℕ) → i < count → (count - i) * wide ≤ length rest → wide ≤ length rest
room-next wide count i rest lt room =
    let k : count - i ≡ suc (count - (i + 1)) = omega arith in
    let e : (count - i) * wide ≡ (count - (i + 1)) * wide + wide = ap (λ n. n * wide) k ∙ suc-mul (count - (i + 1)) wide in
    omega arith

-- and behind it for the others
pub room-after : (wide count i : ℕ) (rest : List ℕ) → i < count → (count - i) * wide ≤ length rest → (count - (i + 1)) * wide ≤ length (drop wide rest)
room-after wide count i rest lt room =
    let k : count - i ≡ suc (count - (i + 1)) = omega arith in
    let e : (count - i) * wide ≡ (count - (i + 1)) * wide + wide = ap (λ n. n * wide) k ∙ suc-mul (count - (i + 1)) wide in
    omega (arith, length-drop wide rest)
