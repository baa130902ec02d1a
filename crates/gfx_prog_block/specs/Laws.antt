-- What reading and spelling have to do with each other: this project's own promises.
use Rattle.std.specs.Prelude.{◌≡◌, ℕ, List, Ok}
use Rattle.std.specs.List.{AllByRecursion}
use Rattle.gfx_base.specs.Field.{IsBytes}
use Rattle.gfx_prog_block.specs.declared.block.Block.{Block}
use Rattle.gfx_prog_block.specs.Fitting.{Fits}
use Rattle.gfx_prog_block.specs.Reading.{blocks_of}
use Rattle.gfx_prog_block.specs.Spelling.{spelling, Spells}

-- what is read is spelled so, byte for byte; only what sync blocks hold is free; and all of it fits its field
abbrev pub ReadIsSpelled : Type 0
ReadIsSpelled = (bytes : List ℕ) (all : List Block) → IsBytes bytes → blocks_of bytes ≡ Ok all → Spells bytes all × AllByRecursion Fits all

-- what is spelled is read, whatever sync blocks hold
abbrev pub SpelledIsRead : Type 0
SpelledIsRead = (bytes : List ℕ) (all : List Block) → AllByRecursion Fits all → Spells bytes all → blocks_of bytes ≡ Ok all

-- what is written is a spelling
abbrev pub WrittenIsSpelled : Type 0
WrittenIsSpelled = (all : List Block) → Spells (spelling all) all

-- what is written is read back as it was, so no two lists of blocks have one spelling
abbrev pub OneSpelling : Type 0
OneSpelling = (some others : List Block) → AllByRecursion Fits some → AllByRecursion Fits others → spelling some ≡ spelling others → some ≡ others
