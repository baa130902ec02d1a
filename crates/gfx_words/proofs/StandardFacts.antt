-- What words are which command and what texts are which number, computed from the definitions, and the usage line.
use Rattle.std.proofs.Common.{◌≡◌, [], ◌∷◌, Some, None, codes, refl}
use Rattle.clap.proofs.OnLiterals.{clap_on_literals}
use Rattle.gfx_words.specs.CommandLine.{accepted}
use Rattle.gfx_words.specs.Table.{number_of, output_command, plain_command}
use Rattle.gfx_words.specs.declared.table.TheConstants.{USAGE}

pub no_command : (accepted [] ≡ None) × (accepted (codes "--help" ∷ []) ≡ None)
    × (accepted (codes "-h" ∷ []) ≡ None) × (accepted (codes "render" ∷ codes "--wide" ∷ []) ≡ None)
    × (accepted (codes "render" ∷ codes "render" ∷ []) ≡ None)
    × (accepted (codes "encode" ∷ codes "--output" ∷ []) ≡ None)
unfolding clap_on_literals accepted plain_command output_command number_of
no_command = (refl, refl, refl, refl, refl, refl)

pub usage_line : USAGE.now ≡ codes "usage: gfxpipe encode | render [--output] | audit | session | make N | trial N | import | fragment | join"
usage_line = refl

pub numbers : (number_of (codes "0") ≡ Some 0) × (number_of (codes "0000000007") ≡ Some 7)
    × (number_of (codes "4294967295") ≡ Some 4294967295)
unfolding number_of
numbers = (refl, refl, refl)

pub no_numbers : (number_of [] ≡ None) × (number_of (codes "+7") ≡ None) × (number_of (codes "7 ") ≡ None)
    × (number_of (codes "00000000007") ≡ None) × (number_of (codes "4294967296") ≡ None)
unfolding number_of
no_numbers = (refl, refl, refl, refl, refl)
