-- What the views of a TOML text's arrays and tables show of their lists.
use Rattle.std.proofs.Common.{◌≡◌, ℕ, Bool, true, false, ◌&&◌, ◌||◌, List, [], ◌∷◌, map, Some, None, String, Global, string_bytes, refl, sym, ap, ◌∙◌}
use Rattle.std.specs.List.{list_all, list_any}
use Rattle.std.specs.Map.{keys_of}
use Rattle.std.specs.Str.{bytes_eq}
use Rattle.toml.specs.declared.value.Value.{Value}
use Rattle.toml.specs.Data.{Data, as_array}
use Rattle.toml.specs.View.{view, items_of, items_view, members_view}
use Rattle.toml.proofs.Views.{Entry}
use Rattle.gfx_script_text.specs.Members.{listed, items_in, has_only}

pub listed-items_of : (values : List Data) → listed (items_of values) ≡ values
listed-items_of [] = refl
listed-items_of (value ∷ values) = ap (λ vs. value ∷ vs) (listed-items_of values)

-- an array's items are seen one by one
pub items_in-array : (value : Data) (items : List Value) → Some (items_view items) ≡ as_array value → Some (map view items) ≡ items_in value
unfolding items_in
items_in-array value items is = rw (← is) (ap Some (sym (listed-items_of (map view items))))

pub items_in-none : (value : Data) → None ≡ as_array value → None ≡ items_in value
unfolding items_in
items_in-none value is = rw (← is) refl

-- the key is one of these
abbrev pub is_one_of : List (List ℕ) → String Global → Bool
is_one_of keys key = list_any (λ one. bytes_eq one (string_bytes key)) keys

-- the test of a table's keys, one after another
pub has_only-entries : (keys : List (List ℕ)) (entries : List Entry) → has_only keys (members_view entries) ≡ list_all (is_one_of keys) (keys_of entries)
has_only-entries keys [] = refl
has_only-entries keys (e ∷ entries) = ap (λ rest. is_one_of keys e.0 && rest) (has_only-entries keys entries)

-- ---- one item after another

pub list_any-map : {X Y : Type 0} (p : Y → Bool) (f : X → Y) (xs : List X) → list_any p (map f xs) ≡ list_any (λ x. p (f x)) xs
list_any-map p f [] = refl
list_any-map p f (x ∷ xs) = ap (λ rest. p (f x) || rest) (list_any-map p f xs)

module _ {X : Type 0} (p : X → Bool) where
  pub all_pass_next : (items more : List X) (item : X) (due : Bool) → items ≡ item ∷ more → p item ≡ true → due ≡ list_all p items → due ≡ list_all p more
  all_pass_next items more item due is passes so_far = so_far ∙ ap (list_all p) is ∙ ap (λ b. b && list_all p more) passes

  pub all_pass_stop : (items more : List X) (item : X) (due : Bool) → items ≡ item ∷ more → p item ≡ false → due ≡ list_all p items → false ≡ due
  all_pass_stop items more item due is fails so_far = sym (so_far ∙ ap (list_all p) is ∙ ap (λ b. b && list_all p more) fails)

  pub all_pass_end : (items : List X) (due : Bool) → items ≡ [] → due ≡ list_all p items → true ≡ due
  all_pass_end items due is so_far = sym (so_far ∙ ap (list_all p) is)

-- whether a key is one of some, from the text that it has
pub one_of_text : (keys : List (List ℕ)) (key : String Global) (text : List ℕ) (found : Bool) → found ≡ list_any (λ one. bytes_eq one text) keys → text ≡ string_bytes key → is_one_of keys key ≡ found
one_of_text keys key text found is same = sym (is ∙ ap (λ t. list_any (λ one. bytes_eq one t) keys) same)
