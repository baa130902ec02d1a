-- What a client reads of the quants of a region is what the setting has of each band.
use Rattle.std.proofs.Common.{◌≡◌, ◌∙◌, ℕ, ◌+◌, ◌*◌, ◌/◌, ◌%◌, ◌<◌, Bool, true, ◌&&◌, List, [], ◌∷◌, length, map, refl, ap, arith}
use Rattle.std.specs.Prelude.{slice_index}
use Rattle.gfx_dwt.specs.Place.{bands}
use Rattle.gfx_quant.specs.declared.quant.Component.{Component}
use Rattle.gfx_quant.specs.declared.quant.Component.TheVariants.{Y, Cb, Cr}
use Rattle.gfx_quant.specs.declared.setting.Setting.{Setting}
use Rattle.gfx_quant.specs.Quant.{is_base, value_of}
use Rattle.gfx_quant.specs.Setting.{IsSetting, base_of, left_out}
use Rattle.gfx_tile_make.specs.Levels.{positions_at}
use Rattle.gfx_tile_make.proofs.Settings.{is-base, within-all}
use Rattle.gfx_prog_encode.specs.Messages.{packed}
use Rattle.gfx_prog_decode.specs.Coding.{are_bases, together, unpacked}

-- the number of each band
abbrev pub of_bands : List ℕ → List ℕ
of_bands values = map (λ band. value_of values band) bands

-- each fits four bits
abbrev pub AreNibbles : List ℕ → Type 0
AreNibbles values = (k : ℕ) → k < 10 → slice_index values k < 16

-- ---- both halves of a byte

-- the low half
low-half : (a b : ℕ) → a < 16 → (a + 16 * b) % 16 ≡ a
low-half a b h = omega arith

-- and the high half
high-half : (a b : ℕ) → a < 16 → (a + 16 * b) / 16 ≡ b
high-half a b h = omega arith

-- quants are read as they were packed
pub unpacked-packed : (values : List ℕ) → AreNibbles values → unpacked (packed values) ≡ of_bands values
unpacked-packed values h =
    let v : ℕ → ℕ = slice_index values in
    let low : (a b : ℕ) → a < 10 → (v a + 16 * v b) % 16 ≡ v a = λ a b few. low-half (v a) (v b) (h a few) in
    let high : (a b : ℕ) → a < 10 → (v a + 16 * v b) / 16 ≡ v b = λ a b few. high-half (v a) (v b) (h a few) in
    λ i.
    high 5 0 (omega arith) i
    ∷ low 1 2 (omega arith) i
    ∷ high 1 2 (omega arith) i
    ∷ low 3 4 (omega arith) i
    ∷ high 3 4 (omega arith) i
    ∷ low 5 0 (omega arith) i
    ∷ high 9 6 (omega arith) i
    ∷ low 7 8 (omega arith) i
    ∷ high 7 8 (omega arith) i
    ∷ low 9 6 (omega arith) i
    ∷ []

-- ten values are the numbers of the bands
pub of_bands-all : (values : List ℕ) → length values ≡ 10 → of_bands values ≡ values
of_bands-all (a ∷ b ∷ c ∷ d ∷ e ∷ f ∷ g ∷ h ∷ i ∷ j ∷ []) ten = refl
of_bands-all _ ten = absurd (omega arith)

-- so ten values are read as they were packed
pub packed-again : (values : List ℕ) → length values ≡ 10 → AreNibbles values → unpacked (packed values) ≡ values
packed-again values ten small = unpacked-packed values small ∙ of_bands-all values ten

-- ---- positions

-- base and level together are the positions of the level
pub together-at : (base level : List ℕ) → together (of_bands base) (of_bands level) ≡ positions_at base level
unfolding together
together-at base level = refl

-- ---- a setting's quants

-- a setting's bases fit four bits
pub bases-small : (setting : Setting) (component : Component) → IsSetting setting → AreNibbles (base_of component setting)
bases-small setting component set k few = let most = within-all setting component 0 set.accepted k few in omega arith

-- and so does what its levels leave out
pub levels-small : (setting : Setting) (component : Component) (i : ℕ) → IsSetting setting → AreNibbles (left_out component setting.levels i)
levels-small setting component i set k few = let most = within-all setting component i set.accepted k few in omega arith

-- a packed base may be one
packed-base : (setting : Setting) (component : Component) → IsSetting setting → is_base (unpacked (packed (base_of component setting))) ≡ true
packed-base setting component set = ap is_base (packed-again (base_of component setting) (set.bases component) (bases-small setting component set)) ∙ is-base setting component set.accepted

-- the quants of a region may be bases
pub are-bases : (setting : Setting) → IsSetting setting → are_bases (packed setting.y.values ∷ packed setting.cb.values ∷ packed setting.cr.values ∷ []) ≡ true
are-bases setting set = three-hold _ _ _ (packed-base setting Y set) (packed-base setting Cb set) (packed-base setting Cr set)
  where
    three-hold : (a b c : Bool) → a ≡ true → b ≡ true → c ≡ true → (a && (b && (c && true))) ≡ true
    three-hold a b c first second third = rw (first, second, third) refl
