-- The turns that are drawn, and their lines: this project's own rule.
use Rattle.std.specs.Prelude.{ℕ, ◌+◌, List, ◌++◌, codes, decimal}
use Rattle.gfx_generator.specs.Draws.{Draw, gives, ◌>>=◌, draw}
use Rattle.gfx_generator.specs.declared.rounds.Round.{Round}

-- a round of turns
unfoldable pub round : Draw Round
round = do
  client ← draw 4096
  answer ← draw 32
  gives (record { client = 1 + client; answer = 1 + answer })

-- its lines
unfoldable pub round_text : Round → List ℕ
round_text round =
    codes "{ end = \"server\" },\n" ++ (codes "{ end = \"client\", take = " ++ (decimal round.client ++ (codes " },\n"
    ++ (codes "{ end = \"answer\", take = " ++ (decimal round.answer ++ codes " },\n")))))
