-- What is coded is what is due: values and bits are written in one way only.
use Rattle.std.proofs.Common.{◌≡◌, ℕ, ◌∙◌, ap, ℤ, List, length}
use Rattle.gfx_base.specs.Field.{IsBytes}
use Rattle.gfx_bits.proofs.Padding.{padded-is}
use Rattle.gfx_quant.specs.declared.quant.Component.{Component}
use Rattle.gfx_rlgr.specs.Rlgr.{Written}
use Rattle.gfx_rlgr.specs.Writes.{rlgr_bytes}
use Rattle.gfx_rlgr.proofs.Writes.{written-only}
use Rattle.gfx_srl.proofs.Writes.{written-only as srl-only}
use Rattle.gfx_tile_make.specs.declared.data.Pass.{Pass}
use Rattle.gfx_tile_make.specs.Source.{SourceTile}
use Rattle.gfx_tile_make.specs.Upgrade.{IsPass, entries_to}
use Rattle.gfx_tile_state.specs.Entries.{pairs_from, raw_from}
use Rattle.gfx_prog_encode.specs.Inside.{pass_to}
use Rattle.gfx_prog_encode.specs.Messages.{raised, raw_code, srl_code}

pub code-only : (values due : List ℤ) (bytes : List ℕ) → length values ≡ 4096 → IsBytes bytes → Written values bytes → values ≡ due → bytes ≡ rlgr_bytes due
code-only values due bytes count fits written is = written-only values bytes count fits written ∙ ap rlgr_bytes is

pub pass-only : (source : SourceTile) (component : Component) (level : ℕ) (srl raw : List ℕ) → IsBytes srl → IsBytes raw → IsPass source component level srl raw
    → ◌≡◌ {A = Pass} (record { srl = srl; raw = raw }) (pass_to source component level)
unfolding pass_to
pass-only source component level srl raw srl_fits raw_fits written =
    let coded : srl ≡ srl_code source component level =
    srl-only (pairs_from (raised source component level) 0 (entries_to source component level)) srl srl_fits written.coded_are in
    let bits : raw ≡ raw_code source component level =
    padded-is (raw_from (raised source component level) 0 (entries_to source component level)) raw raw_fits written.raw_are in
    λ i. record { srl = coded i; raw = bits i }
