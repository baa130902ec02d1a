-- Which words clap takes as a name, alone, with the flag or with a number, one word after another.
use Rattle.std.proofs.Common.{◌≡◌, ◌∙◌, ◌==◌, ◌⊎◌, ℕ, inl, inr, Bool, true, false, arith, ap, refl, subst, sym, length, codes, List, [], ◌∷◌, Option, Some, None}
use Rattle.std.specs.Prelude.{if◌then◌else◌, fold, is_some, option_and_then, slice_get}
use Rattle.std.specs.Str.{bytes_eq, chars}
use Rattle.std.proofs.lemmas.Slice.Eq.{bytes_eq-Decides}
use Rattle.std.proofs.lemmas.Bool.{ne_eqb}
use Rattle.clap.specs.Lexer.{long_of, short_of}
use Rattle.clap.specs.Walk.{Held, Row, Rule, Text, Walk, arg_by_index, bundle_met, finished, idle, is_empty, nothing_held, reacted, settled, to_positional, value, walk, walk_from, walked}
use Rattle.clap.specs.Simple.{Shape, built, entered, filled}
use Rattle.clap.specs.Kinds.{Kinds, or_else}
use Rattle.clap.specs.Faults.{check_fault, defaults_fault, entered_fault, flags_fault, level_fault, react_fault, settle_fault, step_fault, turn_fault, walk_fault}
use Rattle.clap.specs.declared.error.kind.ErrorKind.{ErrorKind}
use Rattle.clap.specs.declared.error.kind.ErrorKind.TheVariants as kind
use Rattle.gfx_words.specs.CommandLine.{accepted, command_line, command_matched, output_rule}
use Rattle.clap.proofs.OnLiterals.{clap_on_literals}
use Rattle.gfx_words.proofs.LongWords.{long_word}
use Rattle.gfx_words.proofs.NumberLemmas.{begins_with_digit}
use Rattle.gfx_words.specs.Laws.{IsNameAlone, IsNameAndFlag, IsNameAndNumber, IsNameThenText, OnlyNameAndNumberAreCommand, OnlyNameIsCommand, OnlyNamesAndNumbersAreCommands, OnlyNamesAreCommands, OnlyRenderAndFlagAreRenderOutput}
use Rattle.gfx_words.specs.Table.{command_named, number_of, numbered_command, output_command, plain_command}
use Rattle.gfx_words.specs.declared.table.Command.{Command}
use Rattle.gfx_words.specs.declared.table.Command.TheVariants.{Audit, Encode, Fragment, Import, Join, Make, Render, RenderOutput, Session, Trial}

-- ---- the walk as an answer

abbrev shape : Shape
shape = (built command_line).top

abbrev rules : List Rule
rules = shape.rules

abbrev end_fault : Held → Kinds
end_fault h = or_else (settle_fault rules false h)
    (or_else (defaults_fault (settled rules h).rows rules) (check_fault shape (finished rules h) false))

abbrev answer_by : Kinds → Held → Option Command
answer_by kinds h =
    if is_empty (or_else kinds (end_fault h)) then command_matched (finished rules h) else None

-- the command at the end of the words, from where the walk stands
abbrev answer : Walk → List Text → Option Command
answer w words = answer_by (walk_fault shape [] w words) (fold (walked rules []) w words).held

accepted-answer : (words : List Text) → accepted words ≡ answer (walk_from nothing_held) words
unfolding accepted
accepted-answer words = go (walk rules [] nothing_held words).stopped
  where
    go : (stop : Option (Text × List Text))
        → (if is_empty (level_fault shape [] nothing_held words (is_some (entered (built command_line) stop)) (entered_fault (built command_line) stop))
        then command_matched (finished rules (walk rules [] nothing_held words).held) else None)
        ≡ answer (walk_from nothing_held) words
    go None = refl
    go (Some p) = refl

step_taken : (w next : Walk) (word : Text) (rest : List Text) → turn_fault shape [] w word ≡ []
    → walked rules [] w word ≡ next → answer w (word ∷ rest) ≡ answer next rest
unfolding walk_fault
step_taken w next word rest none same =
    ap (λ (t : Kinds). answer_by (or_else t (walk_fault shape [] (walked rules [] w word) rest)) (fold (walked rules []) (walked rules [] w word) rest).held) none
    ∙ ap (λ (v : Walk). answer v rest) same

step_refused : (w : Walk) (word : Text) (rest : List Text) (k : ErrorKind) (ks : Kinds)
    → turn_fault shape [] w word ≡ k ∷ ks → answer w (word ∷ rest) ≡ None
unfolding walk_fault
step_refused w word rest k ks some =
    let end = fold (walked rules []) (walked rules [] w word) rest in
    ap (λ (t : Kinds). answer_by (or_else t (walk_fault shape [] (walked rules [] w word) rest)) end.held) some
    ∙ ap (λ (b : Bool). if b then command_matched (finished rules end.held) else None)
    (ne_eqb (length (k ∷ ks)) 0 (λ e. omega arith))

-- a word after which the answer is a command has no fault, and the answer is that of the next step
step : (w next : Walk) (word : Text) (rest : List Text) (fault : Kinds) (c : Command)
    → turn_fault shape [] w word ≡ fault → walked rules [] w word ≡ next
    → answer w (word ∷ rest) ≡ Some c → (fault ≡ []) × (answer next rest ≡ Some c)
step w next word rest [] c none same is = (refl, sym (step_taken w next word rest none same) ∙ is)
step w next word rest (k ∷ ks) c some same is =
    let bad : None ≡ Some c = sym (step_refused w word rest k ks some) ∙ is in
    cc

-- ---- what a word is

-- a name or a number, by its place
abbrev given : Text → Walk → Walk
given word w = to_positional rules (arg_by_index rules w.position) word w w.held

abbrev given_fault : Walk → Kinds
given_fault w = step_fault shape w.position w.held value

abbrev flag : Rule
flag = filled output_rule

-- the flag `--output`
abbrev flagged : Walk → Walk
flagged w = record w { held = reacted rules flag [] w.held }

abbrev flag_fault : Walk → Kinds
flag_fault w = or_else (react_fault rules false flag [] w.held) []

-- the mark `--`, behind which each word is a name or a number
abbrev marked : Walk → Walk
marked w = record w { is_trailing = true }

abbrev at : Held → ℕ → Walk
at h position = record { held = h; waiting = idle; position = position; is_trailing = false; stopped = None }

abbrev standing : List Row → Option (Text × List Text) → ℕ → Walk
standing rows pending position = at (record { rows = rows; pending = pending; skip = 0 }) position

data Read (w : Walk) (word : Text) : Type 0 where
  a_mark : word ≡ codes "--" → turn_fault shape [] w word ≡ [] → walked rules [] w word ≡ marked w → Read w word
  a_flag : word ≡ codes "--output" → turn_fault shape [] w word ≡ flag_fault w → walked rules [] w word ≡ flagged w → Read w word
  a_value : turn_fault shape [] w word ≡ given_fault w → walked rules [] w word ≡ given word w → Read w word
  refused : (turn_fault shape [] w word ≡ [] → ⊥) → Read w word

-- what is due behind other faults is a fault all the same
some_fault : (before after : Kinds) (k : ErrorKind) → or_else (or_else before (k ∷ [])) after ≡ [] → ⊥
some_fault [] after k e = cc
some_fault (x ∷ xs) after k e = cc

some_fault_before : (before after last : Kinds) (k : ErrorKind) → or_else (or_else (or_else before (k ∷ [])) after) last ≡ [] → ⊥
some_fault_before [] after last k e = cc
some_fault_before (x ∷ xs) after last k e = cc

flag_word : (word name : Text) → long_of word ≡ Some (name, None) → bytes_eq (codes "output") name ≡ true → word ≡ codes "--output"
flag_word word name is same = long_word word name is ∙ ap (λ (n : Text). 45 ∷ 45 ∷ n) (sym ((bytes_eq-Decides (codes "output") name).0 same))

read : (rows : List Row) (pending : Option (Text × List Text)) (p : ℕ) (word : Text) → Read (standing rows pending p) word
unfolding walked bundle_met flags_fault
read rows pending p word = by_mark (bytes_eq word (codes "--")) refl
  where
    by_letter : (x : ℕ) (xs : List ℕ) (c : ℕ) (b : Bool) → bytes_eq word (codes "--") ≡ false → long_of word ≡ None → short_of word ≡ Some (x ∷ xs)
        → slice_get (chars (x ∷ xs)) 0 ≡ Some c → (104 == c) ≡ b → Read (standing rows pending p) word
    by_letter x xs c true m l s is h = refused (λ none. some_fault_before (settle_fault rules false (standing rows pending p).held) _ _ kind.DisplayHelp (rw (m, l, s, is, h) at none))
    by_letter x xs c false m l s is h = refused (λ none. let bad : kind.UnknownArgument ∷ [] ≡ [] = rw (m, l, s, is, h) at none in cc)

    by_first : (x : ℕ) (xs : List ℕ) (c : Option ℕ) → bytes_eq word (codes "--") ≡ false → long_of word ≡ None → short_of word ≡ Some (x ∷ xs)
        → slice_get (chars (x ∷ xs)) 0 ≡ c → Read (standing rows pending p) word
    by_first x xs None m l s is = a_value (rw (m, l, s, is) refl) (rw (m, l, s, is) refl)
    by_first x xs (Some c) m l s is = by_letter x xs c (104 == c) m l s is refl

    by_short : (s : Option Text) → bytes_eq word (codes "--") ≡ false → long_of word ≡ None → short_of word ≡ s → Read (standing rows pending p) word
    by_short None m l is = a_value (rw (m, l, is) refl) (rw (m, l, is) refl)
    by_short (Some []) m l is = a_value (rw (m, l, is) refl) (rw (m, l, is) refl)
    by_short (Some (x ∷ xs)) m l is = by_first x xs (slice_get (chars (x ∷ xs)) 0) m l is refl

    by_help : (l : Text × Option Text) (b : Bool) → bytes_eq word (codes "--") ≡ false → long_of word ≡ Some l
        → bytes_eq (codes "output") l.0 ≡ false → bytes_eq (codes "help") l.0 ≡ b → Read (standing rows pending p) word
    by_help l false m is o h = refused (λ none. let bad : kind.UnknownArgument ∷ [] ≡ [] = rw (m, is, o, h) at none in cc)
    by_help (name, None) true m is o h = refused (λ none. some_fault (settle_fault rules false (standing rows pending p).held) [] kind.DisplayHelp (rw (m, is, o, h) at none))
    by_help (name, Some v) true m is o h = refused (λ none. let bad : kind.TooManyValues ∷ [] ≡ [] = rw (m, is, o, h) at none in cc)

    by_output : (l : Text × Option Text) (b : Bool) → bytes_eq word (codes "--") ≡ false → long_of word ≡ Some l
        → bytes_eq (codes "output") l.0 ≡ b → Read (standing rows pending p) word
    by_output (name, None) true m is o = a_flag (flag_word word name is o) (rw (m, is, o) refl) (rw (m, is, o) refl)
    by_output (name, Some v) true m is o = refused (λ none. let bad : kind.TooManyValues ∷ [] ≡ [] = rw (m, is, o) at none in cc)
    by_output l false m is o = by_help l (bytes_eq (codes "help") l.0) m is o refl

    by_long : (l : Option (Text × Option Text)) → bytes_eq word (codes "--") ≡ false → long_of word ≡ l → Read (standing rows pending p) word
    by_long None m is = by_short (short_of word) m is refl
    by_long (Some l) m is = by_output l (bytes_eq (codes "output") l.0) m is refl

    by_mark : (b : Bool) → bytes_eq word (codes "--") ≡ b → Read (standing rows pending p) word
    by_mark true is = a_mark ((bytes_eq-Decides word (codes "--")).0 is) (rw is refl) (rw is refl)
    by_mark false is = by_long (long_of word) is refl

-- behind the mark each word is a value
read_behind : (h : Held) (p : ℕ) (word : Text)
    → (turn_fault shape [] (marked (at h p)) word ≡ given_fault (marked (at h p)))
    × (walked rules [] (marked (at h p)) word ≡ given word (marked (at h p)))
unfolding walked
read_behind h p word = (refl, refl)

-- ---- what a list of words is

abbrev Never : Command → Walk → Type 0
Never c w = (words : List Text) → answer w words ≡ Some c → ⊥

abbrev EndsWithout : Command → Walk → Type 0
EndsWithout c w = answer w [] ≡ Some c → ⊥

-- what follows of the next word, by what it is
next_word : (c : Command) (rows : List Row) (pending : Option (Text × List Text)) (p : ℕ) (word : Text) (rest : List Text) (G : Type 0)
    → (word ≡ codes "--" → answer (marked (standing rows pending p)) rest ≡ Some c → G)
    → (word ≡ codes "--output" → flag_fault (standing rows pending p) ≡ [] → answer (flagged (standing rows pending p)) rest ≡ Some c → G)
    → (given_fault (standing rows pending p) ≡ [] → answer (given word (standing rows pending p)) rest ≡ Some c → G)
    → answer (standing rows pending p) (word ∷ rest) ≡ Some c → G
next_word c rows pending p word rest G by_mark by_flag by_value is = go (read rows pending p word)
  where
    go : Read (standing rows pending p) word → G
    go (a_mark same none next) = by_mark same (step _ _ word rest _ c none next is).1
    go (a_flag same fault next) = let s = step _ _ word rest _ c fault next is in by_flag same s.0 s.1
    go (a_value fault next) = let s = step _ _ word rest _ c fault next is in by_value s.0 s.1
    go (refused some) = absurd (some (step _ _ word rest _ c refl refl is).0)

no_answer : (c : Command) → None ≡ Some c → ⊥
no_answer c e = cc

faultless : (k : ErrorKind) → k ∷ [] ≡ [] → ⊥
faultless k e = cc

next_behind : (c : Command) (h : Held) (p : ℕ) (word : Text) (rest : List Text) → answer (marked (at h p)) (word ∷ rest) ≡ Some c
    → (given_fault (marked (at h p)) ≡ []) × (answer (given word (marked (at h p))) rest ≡ Some c)
next_behind c h p word rest is = step _ _ word rest _ c (read_behind h p word).0 (read_behind h p word).1 is

-- behind the mark, with both places taken, there is no word
full_behind : (c : Command) (h : Held) (V : Type 0) → (answer (marked (at h 3)) [] ≡ Some c → V) → (rest : List Text)
    → answer (marked (at h 3)) rest ≡ Some c → V × (rest ≡ [])
full_behind c h V end [] is = (end is, refl)
full_behind c h V end (word ∷ rest) is = absurd (faultless kind.UnknownArgument (next_behind c h 3 word rest is).0)

-- with one place left there is no word, or one
abbrev Behind : Type 0 → (Text → Type 0) → List Text → Type 0
Behind V N rest = (V × (rest ≡ [])) ⊎ ((b : Text) × (N b × (rest ≡ b ∷ [])))

number_behind : (c : Command) (h : Held) (V : Type 0) (N : Text → Type 0) → (answer (marked (at h 2)) [] ≡ Some c → V)
    → ((b : Text) → answer (given b (marked (at h 2))) [] ≡ Some c → N b) → (rest : List Text)
    → answer (marked (at h 2)) rest ≡ Some c → Behind V N rest
number_behind c h V N one two [] is = inl (one is, refl)
number_behind c h V N one two (b ∷ rest) is =
    let n = full_behind c (given b (marked (at h 2))).held (N b) (two b) rest (next_behind c h 2 b rest is).1 in
    inr (b, (n.0, ap (λ (words : List Text). b ∷ words) n.1))

-- with both places left, one word or two
name_behind : (c : Command) (h : Held) (V : Text → Type 0) (N : Text → Text → Type 0) → EndsWithout c (marked (at h 1))
    → ((a : Text) → answer (given a (marked (at h 1))) [] ≡ Some c → V a)
    → ((a b : Text) → answer (given b (given a (marked (at h 1)))) [] ≡ Some c → N a b) → (words : List Text)
    → answer (marked (at h 1)) words ≡ Some c → (a : Text) × ((rest : List Text) × ((words ≡ a ∷ rest) × Behind (V a) (N a) rest))
name_behind c h V N none one two [] is = absurd (none is)
name_behind c h V N none one two (a ∷ rest) is =
    (a, (rest, (refl, number_behind c (given a (marked (at h 1))).held (V a) (N a) (one a) (two a) rest (next_behind c h 1 a rest is).1)))

-- where a number can't be the command, no word
no_more : (V : Type 0) (rest : List Text) → Behind V (λ _. ⊥) rest → V × (rest ≡ [])
no_more V rest (inl end) = end
no_more V rest (inr (b, (bad, is))) = absurd bad

-- where the walk stands after the flag and some values, in the order that the names say
abbrev start : Walk
start = walk_from nothing_held

abbrev name_flag : Text → Walk
name_flag a = flagged (given a start)

abbrev flag_name : Text → Walk
flag_name a = given a (flagged start)

abbrev name_number : Text → Text → Walk
name_number a b = given b (given a start)

-- where the flag stands and both places are taken, no word can follow but the mark
full : (c : Command) (rows : List Row) (pending : Option (Text × List Text)) → EndsWithout c (standing rows pending 3)
    → EndsWithout c (marked (standing rows pending 3)) → (flag_fault (standing rows pending 3) ≡ [] → ⊥)
    → Never c (standing rows pending 3)
full c rows pending end marked_end again [] is = end is
full c rows pending end marked_end again (word ∷ rest) is =
    next_word c rows pending 3 word rest ⊥ (λ _ e. (full_behind c (standing rows pending 3).held ⊥ marked_end rest e).0)
    (λ _ fault _. again fault) (λ fault _. faultless kind.UnknownArgument fault) is

-- no word, or the mark alone
abbrev IsEnd : List Text → Type 0
IsEnd words = (words ≡ []) ⊎ (words ≡ codes "--" ∷ [])

-- where the flag and the name stand, no word can follow but the mark
flag_and_name : (c : Command) (rows : List Row) (pending : Option (Text × List Text)) (V : Type 0)
    → (answer (standing rows pending 2) [] ≡ Some c → V) → (answer (marked (standing rows pending 2)) [] ≡ Some c → V)
    → (flag_fault (standing rows pending 2) ≡ [] → ⊥)
    → ((b : Text) → EndsWithout c (given b (marked (standing rows pending 2))))
    → ((b : Text) → Never c (given b (standing rows pending 2))) → (words : List Text)
    → answer (standing rows pending 2) words ≡ Some c → V × IsEnd words
flag_and_name c rows pending V end marked_end again more never [] is = (end is, inl refl)
flag_and_name c rows pending V end marked_end again more never (word ∷ rest) is =
    next_word c rows pending 2 word rest (V × IsEnd (word ∷ rest))
    (λ mark e. let n = no_more V rest (number_behind c (standing rows pending 2).held V (λ _. ⊥) marked_end more rest e) in (n.0, inr (rw (mark, n.1) refl)))
    (λ _ fault _. absurd (again fault)) (λ _ e. absurd (never word rest e)) is

-- ---- which words are a command

-- the command of the name with the number's text
abbrev numbered : Text → Text → Option Command
numbered a b = command_named (Some a) false (Some b)

never_name_flag_number : (c : Command) (a b : Text) → Never c (given b (name_flag a))
unfolding clap_on_literals
never_name_flag_number c a b = full c (given b (name_flag a)).held.rows (given b (name_flag a)).held.pending
    (no_answer c) (no_answer c) (faultless kind.ArgumentConflict)

never_flag_name_number : (c : Command) (a b : Text) → Never c (given b (flag_name a))
unfolding clap_on_literals
never_flag_name_number c a b = full c (given b (flag_name a)).held.rows (given b (flag_name a)).held.pending
    (no_answer c) (no_answer c) (faultless kind.ArgumentConflict)

never_name_number_flag : (c : Command) (a b : Text) → Never c (flagged (name_number a b))
unfolding clap_on_literals
never_name_number_flag c a b = full c (flagged (name_number a b)).held.rows (flagged (name_number a b)).held.pending
    (no_answer c) (no_answer c) (faultless kind.ArgumentConflict)

-- what follows a name and a number
behind_name_number : (c : Command) (a b : Text) (words : List Text)
    → answer (name_number a b) words ≡ Some c → (numbered a b ≡ Some c) × IsEnd words
unfolding clap_on_literals
behind_name_number c a b [] is = (is, inl refl)
behind_name_number c a b (word ∷ rest) is =
    next_word c (name_number a b).held.rows (name_number a b).held.pending 3 word rest ((numbered a b ≡ Some c) × IsEnd (word ∷ rest))
    (λ mark e. let n = full_behind c (name_number a b).held (numbered a b ≡ Some c) (λ same. same) rest e in (n.0, inr (rw (mark, n.1) refl)))
    (λ _ _ e. absurd (never_name_number_flag c a b rest e)) (λ fault _. absurd (faultless kind.UnknownArgument fault)) is

-- what follows a name and the flag
behind_name_flag : (c : Command) (a : Text) (words : List Text)
    → answer (name_flag a) words ≡ Some c → (output_command a ≡ Some c) × IsEnd words
unfolding clap_on_literals
behind_name_flag c a =
    flag_and_name c (name_flag a).held.rows (name_flag a).held.pending (output_command a ≡ Some c) (λ is. is) (λ is. is)
    (faultless kind.ArgumentConflict) (λ _. no_answer c) (never_name_flag_number c a)

behind_flag_name : (c : Command) (a : Text) (words : List Text)
    → answer (flag_name a) words ≡ Some c → (output_command a ≡ Some c) × IsEnd words
unfolding clap_on_literals
behind_flag_name c a =
    flag_and_name c (flag_name a).held.rows (flag_name a).held.pending (output_command a ≡ Some c) (λ is. is) (λ is. is)
    (faultless kind.ArgumentConflict) (λ _. no_answer c) (never_flag_name_number c a)

alone : (a : Text) (words : List Text) → IsEnd words → IsNameAlone a (a ∷ words)
alone a words (inl none) = inl (rw none refl)
alone a words (inr mark) = inr (inl (rw mark refl))

mark_before : (a word : Text) (words : List Text) → word ≡ codes "--" → words ≡ a ∷ [] → IsNameAlone a (word ∷ words)
mark_before a word words mark name = inr (inr (rw (mark, name) refl))

-- what follows the flag is the name alone
behind_flag : (c : Command) (words : List Text) → answer (flagged start) words ≡ Some c
    → (a : Text) × ((output_command a ≡ Some c) × IsNameAlone a words)
unfolding clap_on_literals
behind_flag c [] is = absurd (no_answer c is)
behind_flag c (word ∷ rest) is =
    next_word c (flagged start).held.rows (flagged start).held.pending 1 word rest
    ((a : Text) × ((output_command a ≡ Some c) × IsNameAlone a (word ∷ rest)))
    (λ mark e. let n = name_behind c (flagged start).held (λ a. output_command a ≡ Some c) (λ _ _. ⊥) (no_answer c) (λ a same. same) (λ _ _. no_answer c) rest e in
    let m = no_more (output_command n.0 ≡ Some c) n.1.0 n.1.1.1 in
    (n.0, (m.0, mark_before n.0 word rest mark (n.1.1.0 ∙ ap (λ (words : List Text). n.0 ∷ words) m.1))))
    (λ _ fault _. absurd (faultless kind.ArgumentConflict fault))
    (λ _ e. let n = behind_flag_name c word rest e in (word, (n.0, alone word rest n.1))) is

-- the words are a name alone that is the command, a name and the flag that are, or a name and a number that are
abbrev ByName : Command → List Text → Type 0
ByName c words = (a : Text) × ((plain_command a ≡ Some c) × IsNameAlone a words)

abbrev ByFlag : Command → List Text → Type 0
ByFlag c words = (a : Text) × ((output_command a ≡ Some c) × IsNameAndFlag a words)

abbrev ByNumber : Command → List Text → Type 0
ByNumber c words = (a : Text) × ((b : Text) × ((numbered a b ≡ Some c) × IsNameThenText a b words))

abbrev ByAny : Command → List Text → Type 0
ByAny c words = ByName c words ⊎ (ByFlag c words ⊎ ByNumber c words)

flag_behind : (a word : Text) (words : List Text) → word ≡ codes "--output" → IsEnd words → IsNameAndFlag a (a ∷ word ∷ words)
flag_behind a word words flag (inl none) = inl (rw (flag, none) refl)
flag_behind a word words flag (inr mark) = inr (inr (inl (rw (flag, mark) refl)))

flag_before : (a word : Text) (words : List Text) → word ≡ codes "--output" → IsNameAlone a words → IsNameAndFlag a (word ∷ words)
flag_before a word words flag (inl name) = inr (inl (rw (flag, name) refl))
flag_before a word words flag (inr (inl before)) = inr (inr (inr (inl (rw (flag, before) refl))))
flag_before a word words flag (inr (inr behind)) = inr (inr (inr (inr (rw (flag, behind) refl))))

number_last : (a b : Text) (words : List Text) → IsEnd words → IsNameThenText a b (a ∷ b ∷ words)
number_last a b words (inl none) = inl (rw none refl)
number_last a b words (inr mark) = inr (inr (inr (rw mark refl)))

-- the name is followed by the mark
mark_second : (c : Command) (a word : Text) (rest : List Text) → word ≡ codes "--"
    → Behind (plain_command a ≡ Some c) (λ b. numbered a b ≡ Some c) rest → ByAny c (a ∷ word ∷ rest)
mark_second c a word rest mark (inl end) = inl (a, (end.0, inr (inl (rw (mark, end.1) refl))))
mark_second c a word rest mark (inr (b, (is, more))) = inr (inr (a, (b, (is, inr (inr (inl (rw (mark, more) refl)))))))

-- the mark comes first
mark_first : (c : Command) (a word : Text) (words rest : List Text) → word ≡ codes "--" → words ≡ a ∷ rest
    → Behind (plain_command a ≡ Some c) (λ b. numbered a b ≡ Some c) rest → ByAny c (word ∷ words)
mark_first c a word words rest mark name (inl end) = inl (a, (end.0, inr (inr (rw (mark, name, end.1) refl))))
mark_first c a word words rest mark name (inr (b, (is, more))) = inr (inr (a, (b, (is, inr (inl (rw (mark, name, more) refl))))))

behind_name : (c : Command) (a : Text) (words : List Text) → answer (given a start) words ≡ Some c → ByAny c (a ∷ words)
unfolding clap_on_literals
behind_name c a [] is = inl (a, (is, inl refl))
behind_name c a (word ∷ rest) is =
    next_word c (given a start).held.rows (given a start).held.pending 2 word rest (ByAny c (a ∷ word ∷ rest))
    (λ mark e. mark_second c a word rest mark
    (number_behind c (given a start).held (plain_command a ≡ Some c) (λ b. numbered a b ≡ Some c) (λ same. same) (λ b same. same) rest e))
    (λ flag _ e. let n = behind_name_flag c a rest e in inr (inl (a, (n.0, flag_behind a word rest flag n.1))))
    (λ _ e. let n = behind_name_number c a word rest e in inr (inr (a, (word, (n.0, number_last a word rest n.1))))) is

-- the words that clap takes, and the table has
words_of : (c : Command) (words : List Text) → answer start words ≡ Some c → ByAny c words
unfolding clap_on_literals
words_of c [] is = absurd (no_answer c is)
words_of c (word ∷ rest) is =
    next_word c [] None 1 word rest (ByAny c (word ∷ rest))
    (λ mark e. let n = name_behind c start.held (λ a. plain_command a ≡ Some c) (λ a b. numbered a b ≡ Some c) (no_answer c) (λ a same. same) (λ a b same. same) rest e in
    mark_first c n.0 word rest n.1.0 mark n.1.1.0 n.1.1.1)
    (λ flag _ e. let n = behind_flag c rest e in inr (inl (n.0, (n.1.0, flag_before n.0 word rest flag n.1.1))))
    (λ _ e. behind_name c word rest e) is

-- ---- the table

same_command : (b c : Command) → Some b ≡ Some c → b ≡ c
same_command b c e = cc

-- the text is the name that is the command by itself
abbrev IsPlainName : Command → Text → Type 0
IsPlainName Encode a = a ≡ codes "encode"
IsPlainName Render a = a ≡ codes "render"
IsPlainName RenderOutput a = ⊥
IsPlainName Audit a = a ≡ codes "audit"
IsPlainName Session a = a ≡ codes "session"
IsPlainName (Make n) a = ⊥
IsPlainName (Trial n) a = ⊥
IsPlainName Import a = a ≡ codes "import"
IsPlainName Fragment a = a ≡ codes "fragment"
IsPlainName Join a = a ≡ codes "join"

-- the text is the name that is the command with the flag
abbrev IsFlagName : Command → Text → Type 0
IsFlagName Encode a = ⊥
IsFlagName Render a = ⊥
IsFlagName RenderOutput a = a ≡ codes "render"
IsFlagName Audit a = ⊥
IsFlagName Session a = ⊥
IsFlagName (Make n) a = ⊥
IsFlagName (Trial n) a = ⊥
IsFlagName Import a = ⊥
IsFlagName Fragment a = ⊥
IsFlagName Join a = ⊥

-- the text is the name that is the command with the number
abbrev IsNumberName : Command → ℕ → Text → Type 0
IsNumberName Encode n a = ⊥
IsNumberName Render n a = ⊥
IsNumberName RenderOutput n a = ⊥
IsNumberName Audit n a = ⊥
IsNumberName Session n a = ⊥
IsNumberName (Make m) n a = (a ≡ codes "make") × (n ≡ m)
IsNumberName (Trial m) n a = (a ≡ codes "trial") × (n ≡ m)
IsNumberName Import n a = ⊥
IsNumberName Fragment n a = ⊥
IsNumberName Join n a = ⊥

plain_in_table : (c : Command) (a : Text) → plain_command a ≡ Some c → IsPlainName c a
unfolding plain_command
plain_in_table c a is = by_encode (bytes_eq a (codes "encode")) refl is
  where
    by_join : (b : Bool) → bytes_eq a (codes "join") ≡ b → (if b then Some Join else None) ≡ Some c → IsPlainName c a
    by_join true same e = subst (λ k. IsPlainName k a) (same_command Join c e) ((bytes_eq-Decides a (codes "join")).0 same)
    by_join false same e = absurd (no_answer c e)

    by_fragment : (b : Bool) → bytes_eq a (codes "fragment") ≡ b
        → (if b then Some Fragment else if bytes_eq a (codes "join") then Some Join else None) ≡ Some c
        → IsPlainName c a
    by_fragment true same e = subst (λ k. IsPlainName k a) (same_command Fragment c e) ((bytes_eq-Decides a (codes "fragment")).0 same)
    by_fragment false same e = by_join (bytes_eq a (codes "join")) refl e

    by_import : (b : Bool) → bytes_eq a (codes "import") ≡ b
        → (if b then Some Import else if bytes_eq a (codes "fragment") then Some Fragment else if bytes_eq a (codes "join") then Some Join else None) ≡ Some c
        → IsPlainName c a
    by_import true same e = subst (λ k. IsPlainName k a) (same_command Import c e) ((bytes_eq-Decides a (codes "import")).0 same)
    by_import false same e = by_fragment (bytes_eq a (codes "fragment")) refl e

    by_session : (b : Bool) → bytes_eq a (codes "session") ≡ b → (if b then Some Session else if bytes_eq a (codes "import") then Some Import else if bytes_eq a (codes "fragment") then Some Fragment else if bytes_eq a (codes "join") then Some Join else None) ≡ Some c → IsPlainName c a
    by_session true same e = subst (λ k. IsPlainName k a) (same_command Session c e) ((bytes_eq-Decides a (codes "session")).0 same)
    by_session false same e = by_import (bytes_eq a (codes "import")) refl e

    by_audit : (b : Bool) → bytes_eq a (codes "audit") ≡ b
        → (if b then Some Audit else if bytes_eq a (codes "session") then Some Session else if bytes_eq a (codes "import") then Some Import else if bytes_eq a (codes "fragment") then Some Fragment else if bytes_eq a (codes "join") then Some Join else None) ≡ Some c
        → IsPlainName c a
    by_audit true same e = subst (λ k. IsPlainName k a) (same_command Audit c e) ((bytes_eq-Decides a (codes "audit")).0 same)
    by_audit false same e = by_session (bytes_eq a (codes "session")) refl e

    by_render : (b : Bool) → bytes_eq a (codes "render") ≡ b
        → (if b then Some Render else if bytes_eq a (codes "audit") then Some Audit else if bytes_eq a (codes "session") then Some Session else if bytes_eq a (codes "import") then Some Import else if bytes_eq a (codes "fragment") then Some Fragment else if bytes_eq a (codes "join") then Some Join else None) ≡ Some c
        → IsPlainName c a
    by_render true same e = subst (λ k. IsPlainName k a) (same_command Render c e) ((bytes_eq-Decides a (codes "render")).0 same)
    by_render false same e = by_audit (bytes_eq a (codes "audit")) refl e

    by_encode : (b : Bool) → bytes_eq a (codes "encode") ≡ b
        → (if b then Some Encode else if bytes_eq a (codes "render") then Some Render else if bytes_eq a (codes "audit") then Some Audit else if bytes_eq a (codes "session") then Some Session else if bytes_eq a (codes "import") then Some Import else if bytes_eq a (codes "fragment") then Some Fragment else if bytes_eq a (codes "join") then Some Join else None) ≡ Some c
        → IsPlainName c a
    by_encode true same e = subst (λ k. IsPlainName k a) (same_command Encode c e) ((bytes_eq-Decides a (codes "encode")).0 same)
    by_encode false same e = by_render (bytes_eq a (codes "render")) refl e

flag_in_table : (c : Command) (a : Text) → output_command a ≡ Some c → IsFlagName c a
unfolding output_command
flag_in_table c a is = go (bytes_eq a (codes "render")) refl is
  where
    go : (b : Bool) → bytes_eq a (codes "render") ≡ b → (if b then Some RenderOutput else None) ≡ Some c → IsFlagName c a
    go true same e = subst (λ k. IsFlagName k a) (same_command RenderOutput c e) ((bytes_eq-Decides a (codes "render")).0 same)
    go false same e = absurd (no_answer c e)

named_in_table : (c : Command) (n : ℕ) (a : Text) → numbered_command a n ≡ Some c → IsNumberName c n a
unfolding numbered_command
named_in_table c n a is = by_make (bytes_eq a (codes "make")) refl is
  where
    by_trial : (b : Bool) → bytes_eq a (codes "trial") ≡ b → (if b then Some (Trial n) else None) ≡ Some c → IsNumberName c n a
    by_trial true same e = subst (λ k. IsNumberName k n a) (same_command (Trial n) c e) ((bytes_eq-Decides a (codes "trial")).0 same, refl)
    by_trial false same e = absurd (no_answer c e)

    by_make : (b : Bool) → bytes_eq a (codes "make") ≡ b
        → (if b then Some (Make n) else if bytes_eq a (codes "trial") then Some (Trial n) else None) ≡ Some c → IsNumberName c n a
    by_make true same e = subst (λ k. IsNumberName k n a) (same_command (Make n) c e) ((bytes_eq-Decides a (codes "make")).0 same, refl)
    by_make false same e = by_trial (bytes_eq a (codes "trial")) refl e

-- the name and the text of the number are the command
abbrev IsNumbered : Command → Text → Text → Type 0
IsNumbered c a b = (n : ℕ) × ((number_of b ≡ Some n) × IsNumberName c n a)

number_in_table : (c : Command) (a b : Text) → numbered a b ≡ Some c → IsNumbered c a b
number_in_table c a b is = go (number_of b) refl is
  where
    go : (m : Option ℕ) → number_of b ≡ m → option_and_then (numbered_command a) m ≡ Some c → IsNumbered c a b
    go None told e = absurd (no_answer c e)
    go (Some n) told e = (n, (told, named_in_table c n a e))

-- the words that make a command, by the table
abbrev ByTable : Command → List Text → Type 0
ByTable c words = ((a : Text) × (IsPlainName c a × IsNameAlone a words))
    ⊎ (((a : Text) × (IsFlagName c a × IsNameAndFlag a words))
    ⊎ ((a : Text) × ((b : Text) × (IsNumbered c a b × IsNameThenText a b words))))

accepted_by : (c : Command) (words : List Text) → accepted words ≡ Some c → ByTable c words
accepted_by c words is = go (words_of c words (sym (accepted-answer words) ∙ is))
  where
    go : ByAny c words → ByTable c words
    go (inl (a, (is, form))) = inl (a, (plain_in_table c a is, form))
    go (inr (inl (a, (is, form)))) = inr (inl (a, (flag_in_table c a is, form)))
    go (inr (inr (a, (b, (is, form))))) = inr (inr (a, (b, (number_in_table c a b is, form))))

-- ---- the laws

-- the name is the command, however the mark stands beside it
abbrev IsTaken : Text → Command → Type 0
IsTaken name c = (accepted (name ∷ []) ≡ Some c)
    × ((accepted (name ∷ codes "--" ∷ []) ≡ Some c) × (accepted (codes "--" ∷ name ∷ []) ≡ Some c))

name_alone : (name : Text) (c : Command) → IsTaken name c → (words : List Text) → IsNameAlone name words → accepted words ≡ Some c
name_alone name c taken words (inl alone) = rw alone taken.0
name_alone name c taken words (inr (inl before)) = rw before taken.1.0
name_alone name c taken words (inr (inr behind)) = rw behind taken.1.1

by_name : (name : Text) (c : Command) → ((a : Text) → IsPlainName c a → a ≡ name) → ((a : Text) → IsFlagName c a → ⊥)
    → ((n : ℕ) (a : Text) → IsNumberName c n a → ⊥) → IsTaken name c → OnlyNameIsCommand name c
by_name name c only no_flag no_number taken words = ((λ is. go (accepted_by c words is)), name_alone name c taken words)
  where
    go : ByTable c words → IsNameAlone name words
    go (inl (a, (is, form))) = subst (λ n. IsNameAlone n words) (only a is) form
    go (inr (inl (a, (is, form)))) = absurd (no_flag a is)
    go (inr (inr (a, (b, ((n, (told, is)), form))))) = absurd (no_number n a is)

-- the words that are a command of a name alone
pub only_names_are_commands : OnlyNamesAreCommands
unfolding clap_on_literals accepted plain_command
only_names_are_commands = (
  by_name (codes "encode") Encode (λ a is. is) (λ a is. is) (λ n a is. is) (refl, (refl, refl)),
  (
    by_name (codes "render") Render (λ a is. is) (λ a is. is) (λ n a is. is) (refl, (refl, refl)),
    (
      by_name (codes "audit") Audit (λ a is. is) (λ a is. is) (λ n a is. is) (refl, (refl, refl)),
      (
        by_name (codes "session") Session (λ a is. is) (λ a is. is) (λ n a is. is) (refl, (refl, refl)),
        (
          by_name (codes "import") Import (λ a is. is) (λ a is. is) (λ n a is. is) (refl, (refl, refl)),
          (
            by_name (codes "fragment") Fragment (λ a is. is) (λ a is. is) (λ n a is. is) (refl, (refl, refl)),
            by_name (codes "join") Join (λ a is. is) (λ a is. is) (λ n a is. is) (refl, (refl, refl)),
          ),
        ),
      ),
    ),
  ),
)

render_output_taken : (words : List Text) → IsNameAndFlag (codes "render") words → accepted words ≡ Some RenderOutput
unfolding clap_on_literals accepted output_command
render_output_taken words (inl is) = rw is refl
render_output_taken words (inr (inl is)) = rw is refl
render_output_taken words (inr (inr (inl is))) = rw is refl
render_output_taken words (inr (inr (inr (inl is)))) = rw is refl
render_output_taken words (inr (inr (inr (inr is)))) = rw is refl

-- the words that are the command of a name with the flag
pub only_render_and_flag_are_render_output : OnlyRenderAndFlagAreRenderOutput
only_render_and_flag_are_render_output words = ((λ is. go (accepted_by RenderOutput words is)), render_output_taken words)
  where
    go : ByTable RenderOutput words → IsNameAndFlag (codes "render") words
    go (inl (a, (is, form))) = absurd is
    go (inr (inl (a, (is, form)))) = subst (λ n. IsNameAndFlag n words) is form
    go (inr (inr (a, (b, ((n, (told, is)), form))))) = absurd is

-- ---- the law of names with numbers

-- the word is neither the mark nor a flag
abbrev IsValue : Text → Type 0
IsValue word = (bytes_eq word (codes "--") ≡ false) × ((long_of word ≡ None) × (short_of word ≡ None))

value_step : (rows : List Row) (pending : Option (Text × List Text)) (p : ℕ) (word : Text) (rest : List Text) → IsValue word
    → given_fault (standing rows pending p) ≡ []
    → answer (standing rows pending p) (word ∷ rest) ≡ answer (given word (standing rows pending p)) rest
unfolding walked bundle_met flags_fault
value_step rows pending p word rest (no_mark, (no_long, no_short)) none =
    let fault : turn_fault shape [] (standing rows pending p) word ≡ given_fault (standing rows pending p) = rw (no_mark, no_long, no_short) refl in
    step_taken (standing rows pending p) (given word (standing rows pending p)) word rest (fault ∙ none) (rw (no_mark, no_long, no_short) refl)

mark_step : (rows : List Row) (pending : Option (Text × List Text)) (p : ℕ) (rest : List Text)
    → answer (standing rows pending p) (codes "--" ∷ rest) ≡ answer (marked (standing rows pending p)) rest
unfolding walked bundle_met flags_fault
mark_step rows pending p rest = step_taken (standing rows pending p) (marked (standing rows pending p)) (codes "--") rest refl refl

step_behind : (h : Held) (p : ℕ) (word : Text) (rest : List Text) → given_fault (marked (at h p)) ≡ []
    → answer (marked (at h p)) (word ∷ rest) ≡ answer (given word (marked (at h p))) rest
step_behind h p word rest none =
    step_taken (marked (at h p)) (given word (marked (at h p))) word rest ((read_behind h p word).0 ∙ none) (read_behind h p word).1

-- a name and a text that clap takes as values are what the table says
values_taken : (a b : Text) → IsValue a → IsValue b → (words : List Text) → IsNameThenText a b words → accepted words ≡ numbered a b
unfolding clap_on_literals
values_taken a b name text words (inl is) = rw is
    (accepted-answer (a ∷ b ∷ [])
    ∙ (value_step [] None 1 a (b ∷ []) name refl
    ∙ value_step (given a start).held.rows (given a start).held.pending 2 b [] text refl))
values_taken a b name text words (inr (inl is)) = rw is
    (accepted-answer (codes "--" ∷ a ∷ b ∷ [])
    ∙ (mark_step [] None 1 (a ∷ b ∷ [])
    ∙ (step_behind start.held 1 a (b ∷ []) refl
    ∙ step_behind (given a (marked start)).held 2 b [] refl)))
values_taken a b name text words (inr (inr (inl is))) = rw is
    (accepted-answer (a ∷ codes "--" ∷ b ∷ [])
    ∙ (value_step [] None 1 a (codes "--" ∷ b ∷ []) name refl
    ∙ (mark_step (given a start).held.rows (given a start).held.pending 2 (b ∷ [])
    ∙ step_behind (given a start).held 2 b [] refl)))
values_taken a b name text words (inr (inr (inr is))) = rw is
    (accepted-answer (a ∷ b ∷ codes "--" ∷ [])
    ∙ (value_step [] None 1 a (b ∷ codes "--" ∷ []) name refl
    ∙ (value_step (given a start).held.rows (given a start).held.pending 2 b (codes "--" ∷ []) text refl
    ∙ mark_step (name_number a b).held.rows (name_number a b).held.pending 3 [])))

-- the text of a number has no hyphen (45) in front
number_is_value : (b : Text) (n : ℕ) → number_of b ≡ Some n → IsValue b
unfolding number_of
number_is_value [] n is = cc
number_is_value (x ∷ xs) n is =
    let digit = begins_with_digit x xs n is in
    let other : (x == 45) ≡ false = ne_eqb x 45 (λ e. omega (arith, digit.0)) in
    (rw other refl, (rw other refl, rw other refl))

by_number : (name : Text) (command : ℕ → Command) → IsValue name
    → ((n : ℕ) (a : Text) → IsPlainName (command n) a → ⊥) → ((n : ℕ) (a : Text) → IsFlagName (command n) a → ⊥)
    → ((n m : ℕ) (a : Text) → IsNumberName (command n) m a → (a ≡ name) × (m ≡ n))
    → ((n : ℕ) → numbered_command name n ≡ Some (command n)) → OnlyNameAndNumberAreCommand name command
by_number name command plain no_plain no_flag only taken n words = ((λ is. go (accepted_by (command n) words is)), back)
  where
    go : ByTable (command n) words → IsNameAndNumber name n words
    go (inl (a, (is, form))) = absurd (no_plain n a is)
    go (inr (inl (a, (is, form)))) = absurd (no_flag n a is)
    go (inr (inr (a, (b, ((m, (told, is)), form))))) =
        let same = only n m a is in (b, (told ∙ ap (λ k. Some k) same.1, subst (λ t. IsNameThenText t b words) same.0 form))

    back : IsNameAndNumber name n words → accepted words ≡ Some (command n)
    back (b, (told, form)) =
        values_taken name b plain (number_is_value b n told) words form
        ∙ (ap (λ m. option_and_then (numbered_command name) m) told ∙ taken n)

-- the words that are a command of a name with a number
pub only_names_and_numbers_are_commands : OnlyNamesAndNumbersAreCommands
unfolding clap_on_literals numbered_command
only_names_and_numbers_are_commands = (
  by_number (codes "make") Make (refl, (refl, refl)) (λ n a is. is) (λ n a is. is) (λ n m a is. is) (λ n. refl),
  by_number (codes "trial") Trial (refl, (refl, refl)) (λ n a is. is) (λ n a is. is) (λ n m a is. is) (λ n. refl),
)
