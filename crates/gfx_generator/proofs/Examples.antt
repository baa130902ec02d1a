-- What the definitions say of small numbers.
use Rattle.std.proofs.Common.{◌≡◌, ◌∷◌, [], refl}
use Rattle.std.specs.Prelude.{codes}
use Rattle.std.specs.Fmt.{digits}
use Rattle.hex.specs.Hex.{encode_with}
use Rattle.gfx_generator.specs.Draws.{draw, several}
use Rattle.gfx_generator.specs.Steps.{fill, paint, copy, step}
use Rattle.gfx_generator.specs.Rounds.{round, round_text}
use Rattle.gfx_generator.specs.Texts.{fill_text, paint_text, copy_text, improve_text, step_text}
use Rattle.gfx_generator.specs.Script.{noise_line}

-- the first step of the scripts 1, 5, 8 and 3
pub a_fill : step_text (step 1).value ≡ codes "{ do = \"fill\", id = 1, colour = \"985662ff\", rects = [[136, 22, 230, 85]] },\n"
unfolding step fill draw step_text fill_text digits encode_with
a_fill = refl

pub a_paint : step_text (step 5).value ≡ codes "{ do = \"paint\", id = 1, picture = \"b\", at = [121, 123], kind = \"progressive\" },\n"
unfolding step paint draw step_text paint_text digits
a_paint = refl

pub a_copy : step_text (step 8).value ≡ codes "{ do = \"copy\", from = 1, to = 1, rect = [0, 0, 64, 64], points = [[82, 127]] },\n"
unfolding step copy draw step_text copy_text digits
a_copy = refl

pub an_improvement : step_text (step 3).value ≡ codes "{ do = \"improve\", id = 1 },\n"
unfolding step draw step_text improve_text
an_improvement = refl

-- a round of turns
pub a_round : round_text (round 1).value ≡ codes "{ end = \"server\" },\n{ end = \"client\", take = 3209 },\n{ end = \"answer\", take = 9 },\n"
unfolding round draw round_text digits
a_round = refl

-- two numbers, one after the other
pub two_numbers : (several 2 (draw 1000) 1).value ≡ 496 ∷ 200 ∷ []
unfolding several draw
two_numbers = refl

-- the highest number of a script
pub noise_of_the_last : noise_line 4294967295 ≡ codes "{ name = \"b\", width = 64, height = 64, pattern = \"noise\", seed = 65535 },\n"
unfolding noise_line digits
noise_of_the_last = refl
