use Rattle.std.proofs.Common.{◌≡◌, map}
use Rattle.std.specs.List.{list_all}
use Rattle.std.specs.Map.{keys_of}
use Rattle.gfx_script_text.proofs.Arrays.{is_one_of}
use Rattle.gfx_script_text.proofs.members.has_only.Given as goal

abbrev pub invariant-members : goal.invariant-members
invariant-members l = list_all (is_one_of (map (λ k. k.now) l.keys)) (keys_of l.table.entries) ≡ list_all (is_one_of (map (λ k. k.now) l.keys)) l.key-iterator
