-- Which word lists are each command, in words.
use Rattle.std.specs.Prelude.{◌≡◌, ◌⊎◌, ◌↔◌, ℕ, List, [], ◌∷◌, Some, codes}
use Rattle.clap.specs.Words.{Text}
use Rattle.gfx_words.specs.CommandLine.{accepted}
use Rattle.gfx_words.specs.Table.{number_of}
use Rattle.gfx_words.specs.declared.table.Command.{Command}
use Rattle.gfx_words.specs.declared.table.Command.TheVariants.{Audit, Encode, Fragment, Import, Join, Make, Render, RenderOutput, Session, Trial}

-- the words are the name alone, or with the mark `--` before or behind it
abbrev pub IsNameAlone : Text → List Text → Type 0
IsNameAlone name words = (words ≡ name ∷ [])
    ⊎ ((words ≡ name ∷ codes "--" ∷ []) ⊎ (words ≡ codes "--" ∷ name ∷ []))

-- the name alone is the command, and no other words are
abbrev pub OnlyNameIsCommand : Text → Command → Type 0
OnlyNameIsCommand name command = (words : List Text) → (accepted words ≡ Some command) ↔ IsNameAlone name words

-- the commands of a name alone, each with its name
abbrev pub OnlyNamesAreCommands : Type 0
OnlyNamesAreCommands =
    OnlyNameIsCommand (codes "encode") Encode × (OnlyNameIsCommand (codes "render") Render
    × (OnlyNameIsCommand (codes "audit") Audit × (OnlyNameIsCommand (codes "session") Session
    × (OnlyNameIsCommand (codes "import") Import
    × (OnlyNameIsCommand (codes "fragment") Fragment × OnlyNameIsCommand (codes "join") Join)))))

-- the words are the name and the flag `--output` in either order, with the mark `--` at most once
-- and behind the flag
abbrev pub IsNameAndFlag : Text → List Text → Type 0
IsNameAndFlag name words = (words ≡ name ∷ codes "--output" ∷ [])
    ⊎ ((words ≡ codes "--output" ∷ name ∷ [])
    ⊎ ((words ≡ name ∷ codes "--output" ∷ codes "--" ∷ [])
    ⊎ ((words ≡ codes "--output" ∷ name ∷ codes "--" ∷ [])
    ⊎ (words ≡ codes "--output" ∷ codes "--" ∷ name ∷ []))))

-- the name with the flag is the command, and no other words are
abbrev pub OnlyNameAndFlagAreCommand : Text → Command → Type 0
OnlyNameAndFlagAreCommand name command =
    (words : List Text) → (accepted words ≡ Some command) ↔ IsNameAndFlag name words

-- the command of a name with the flag
abbrev pub OnlyRenderAndFlagAreRenderOutput : Type 0
OnlyRenderAndFlagAreRenderOutput = OnlyNameAndFlagAreCommand (codes "render") RenderOutput

-- the words are the name and then the text, with the mark `--` at most once: before both, between
-- them or behind both
abbrev pub IsNameThenText : Text → Text → List Text → Type 0
IsNameThenText name text words = (words ≡ name ∷ text ∷ [])
    ⊎ ((words ≡ codes "--" ∷ name ∷ text ∷ [])
    ⊎ ((words ≡ name ∷ codes "--" ∷ text ∷ [])
    ⊎ (words ≡ name ∷ text ∷ codes "--" ∷ [])))

-- the words are the name and then a text of the number
abbrev pub IsNameAndNumber : Text → ℕ → List Text → Type 0
IsNameAndNumber name n words = (text : Text) × ((number_of text ≡ Some n) × IsNameThenText name text words)

-- the name with each number is the command of that number, and no other words are
abbrev pub OnlyNameAndNumberAreCommand : Text → (ℕ → Command) → Type 0
OnlyNameAndNumberAreCommand name command =
    (n : ℕ) (words : List Text) → (accepted words ≡ Some (command n)) ↔ IsNameAndNumber name n words

-- the commands of a name with a number, each with its name
abbrev pub OnlyNamesAndNumbersAreCommands : Type 0
OnlyNamesAndNumbersAreCommands =
    OnlyNameAndNumberAreCommand (codes "make") Make × OnlyNameAndNumberAreCommand (codes "trial") Trial
