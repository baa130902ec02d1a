-- The script with a number, and its text: this project's own rule.
use Rattle.std.specs.Prelude.{ℕ, ◌%◌, List, ◌++◌, codes, decimal}
use Rattle.std.specs.List.{flat_map}
use Rattle.gfx_generator.specs.Draws.{Draw, gives, ◌>>=◌, several}
use Rattle.gfx_generator.specs.Steps.{frame}
use Rattle.gfx_generator.specs.Rounds.{round, round_text}
use Rattle.gfx_generator.specs.Texts.{frame_text}
use Rattle.gfx_generator.specs.declared.rounds.Round.{Round}
use Rattle.gfx_generator.specs.declared.step.Step.{Step}

-- what is drawn: the steps of each frame, and the turns of each round
pub record Script : Type 0 where
  pub frames : List (List Step)
  pub rounds : List Round

-- all of it
unfoldable pub script : Draw Script
script = do
  frames ← several 100 frame
  rounds ← several 300 round
  gives (record { frames = frames; rounds = rounds })

-- the line of the picture of noise
unfoldable pub noise_line : ℕ → List ℕ
noise_line seed =
    codes "{ name = \"b\", width = 64, height = 64, pattern = \"noise\", seed = " ++ (decimal (seed % 65536) ++ codes " },\n")

-- the lines above that
abbrev pub above_noise : List ℕ
above_noise =
    codes "window = 2\n" ++ (codes "picture = [\n" ++ codes "{ name = \"a\", width = 96, height = 80, pattern = \"text\" },\n")

-- the lines from there to the first drawn step
abbrev pub below_noise : List ℕ
below_noise =
    codes "{ name = \"c\", width = 128, height = 100, pattern = \"ramp\" },\n" ++ (codes "]\n" ++ (codes "step = [\n"
    ++ (codes "{ do = \"surface\", id = 1, width = 256, height = 192 },\n" ++ codes "{ do = \"frame\" },\n")))

-- the lines above the first drawn step
unfoldable pub head_text : ℕ → List ℕ
head_text seed = above_noise ++ (noise_line seed ++ below_noise)

-- the text of what was drawn
abbrev pub text_of : ℕ → Script → List ℕ
text_of seed drawn =
    head_text seed ++ (flat_map frame_text drawn.frames ++ (codes "]\nturn = [\n" ++ (flat_map round_text drawn.rounds ++ codes "]\n")))

-- the text of the script with a number, whose draws begin at the number
unfoldable pub script_text : ℕ → List ℕ
script_text seed = text_of seed (script seed).value
