-- What holds of every script that is read: this project's own rule.
use Rattle.std.specs.Prelude.{◌≡◌, ℕ, true, List, Ok}
use Rattle.gfx_bitmap_cache.specs.Slots.{Entry}
use Rattle.gfx_import.specs.Entries.{are_distinct, entry_keys}
use Rattle.gfx_script.specs.Script.{IsAccepted, IsAcceptedAtStart}
use Rattle.gfx_script.specs.Scripted.{Script}
use Rattle.gfx_script_text.specs.Text.{script_kept, script_of}

-- an accepted script has at most so many offers, pictures, steps and turns, its numbers lie within their
-- ranges, its offers are of versions of the profile, its setting is one that a server may code its tiles by, each
-- step passes its checks, and the last is a frame
abbrev pub AcceptedIsGood : Type 0
AcceptedIsGood = (text : List ℕ) (script : Script) → script_of text ≡ Ok script → IsAccepted script

-- and so has one that starts with what is imported of two kept files, whose keys are apart and which has slots and room
abbrev pub KeptIsGood : Type 0
KeptIsGood =
    (server client : List Entry) (text : List ℕ) (script : Script) → are_distinct (entry_keys client) ≡ true → script_kept server client text ≡ Ok script → IsAcceptedAtStart script
