-- The kind that costs least: this project's own rule.
use Rattle.std.specs.Prelude.{ℕ, ◌*◌, Bool, ◌&&◌, nat_lt, if◌then◌else◌}
use Rattle.gfx_script.specs.declared.step.Kind.{Kind}
use Rattle.gfx_script.specs.declared.step.Kind.TheVariants.{Raw, Residual, Bands, Palette, Plain, Progressive}
use Rattle.gfx_estimate.specs.declared.by_size.Offer.{Offer}
use Rattle.gfx_estimate.specs.declared.sizes.Sizes.{Sizes}

-- a kind, and what a picture costs by it
abbrev pub offer : Kind → ℕ → Offer
offer kind size = record { kind = kind; size = size }

-- of two the one that costs less, or the first
abbrev pub lesser : Offer → Offer → Offer
lesser one other = if nat_lt other.size one.size then other else one

-- the kind that costs least of those that lose nothing
abbrev pub least_of : Sizes → Offer
least_of sizes =
    lesser (lesser (lesser (lesser (offer Residual sizes.residual) (offer Palette sizes.palette)) (offer Bands sizes.bands)) (offer Plain sizes.plain)) (offer Raw sizes.raw)

-- it costs more than so many hundredths of the pixels uncompressed, and more than a first pass
abbrev pub is_dear : ℕ → Sizes → Offer → Bool
is_dear share sizes least = nat_lt (share * sizes.raw) (100 * least.size) && nat_lt sizes.passes least.size

-- that kind, or passes where it is dear
unfoldable pub kind_by : ℕ → Sizes → Kind
kind_by share sizes = if is_dear share sizes (least_of sizes) then Progressive else (least_of sizes).kind
