-- What clap's clauses say of the command line.
use Rattle.std.proofs.Common.{◌≡◌, ◌∙◌, inl, inr, Bool, true, false, arith, ap, length, refl, sym, codes, List, [], ◌∷◌, Option, None}
use Rattle.std.specs.Option.{option_map_or}
use Rattle.std.specs.Str.{bytes_eq}
use Rattle.std.proofs.lemmas.Bool.{ne_eqb}
use Rattle.clap.specs.Walk.{is_empty}
use Rattle.clap.specs.Words.{App, HasKind, IsAmong, Kinds, Row, Text, fault_of, first_value, found_of, is_simple, is_simple_and_free, kind_of, matches_of, rows_of}
use Rattle.clap.specs.declared.error.Error.{Error}
use Rattle.clap.specs.declared.error.kind.ErrorKind.{ErrorKind}
use Rattle.clap.specs.declared.error.kind.ErrorKind.TheVariants.{OutOfMemory}
use Rattle.clap.specs.declared.parser.matches.ArgMatches.{ArgMatches}
use Rattle.clap.proofs.WalkLemmas.{first_value-rows}
use Rattle.gfx_words.specs.CommandLine.{accepted, command_line, command_matched, has_output}
use Rattle.gfx_words.specs.Table.{command_named}

line_is_simple : is_simple command_line ≡ true
line_is_simple = refl

line_is_free : is_simple_and_free command_line ≡ true
line_is_free = refl

taken : (words : List Text) (rows : List Row) → fault_of command_line words ≡ []
    → rows ≡ matches_of command_line words → command_matched rows ≡ accepted words
unfolding accepted
taken words rows none same = rw (none, same) refl

-- the matches of words that clap takes are the command
pub accepted_taken : (a : App) (words : List Text) (rows : List Row) (S : Type 0) → a ≡ command_line
    → (is_simple_and_free a ≡ true → fault_of a words ≡ [])
    → (is_simple a ≡ true → (rows ≡ matches_of a words) × S) → command_matched rows ≡ accepted words
accepted_taken a words rows S line none same =
    let faultless = none (ap is_simple_and_free line ∙ line_is_free) in
    let matched = same (ap is_simple line ∙ line_is_simple) in
    taken words rows (ap (λ (x : App). fault_of x words) (sym line) ∙ faultless)
    (matched.0 ∙ ap (λ (x : App). matches_of x words) line)

some_kind : (kinds : Kinds) (k : ErrorKind) → IsAmong k kinds → is_empty kinds ≡ false
some_kind [] k among = absurd among
some_kind (x ∷ xs) k among = ne_eqb (length (x ∷ xs)) 0 (λ e. omega arith)

refused : (words : List Text) (kinds : Kinds) (e : Error) → kinds ≡ fault_of command_line words → HasKind kinds e
    → (kind_of e ≡ OutOfMemory → ⊥) → None ≡ accepted words
unfolding accepted
refused words kinds e same (inl full) other = absurd (other full)
refused words kinds e same (inr among) other = rw (← same, some_kind kinds (kind_of e) among) refl

-- words that clap refuses for another cause than memory are no command
pub accepted_refused : (a : App) (words : List Text) (e : Error) → a ≡ command_line
    → (is_simple_and_free a ≡ true → HasKind (fault_of a words) e)
    → (kind_of e ≡ OutOfMemory → ⊥) → None ≡ accepted words
accepted_refused a words e line kinds other =
    refused words (fault_of a words) e (ap (λ (x : App). fault_of x words) line)
    (kinds (ap is_simple_and_free line ∙ line_is_free)) other

-- the flag, by the text that `get_str` gives
pub output_by_text : (m : ArgMatches) (text : Option Text) → text ≡ first_value (found_of m) (codes "output")
    → option_map_or (λ t. bytes_eq t (codes "true")) text false ≡ has_output (rows_of (found_of m))
output_by_text m text is =
    ap (λ (t : Option Text). option_map_or (λ s. bytes_eq s (codes "true")) t false)
    (is ∙ first_value-rows (found_of m) (codes "output"))

-- the table's answer, by what `get_str` gives
pub matched_by_texts : (m : ArgMatches) (name number : Option Text) (output : Bool)
    → name ≡ first_value (found_of m) (codes "command") → output ≡ has_output (rows_of (found_of m))
    → number ≡ first_value (found_of m) (codes "number")
    → command_named name output number ≡ command_matched (rows_of (found_of m))
matched_by_texts m name number output n o d =
    rw (n ∙ first_value-rows (found_of m) (codes "command"), o, d ∙ first_value-rows (found_of m) (codes "number")) refl
