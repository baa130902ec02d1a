use Rattle.std.proofs.Common.{sym, ◌∙◌}
use Rattle.std.proofs.lemmas.List.Sums.{AllPass-from_list_all}
use Rattle.gfx_rlgr.specs.Rlgr.{in_range}
use Rattle.video_tests.proofs.rlgr3.encoded.Goals as goal

pub encode-requires : goal.encode-requires
encode-requires c = AllPass-from_list_all in_range c.args.values.now (sym c.all_in_range.ensures ∙ c.if-all_in_range.true)
