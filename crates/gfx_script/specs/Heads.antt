-- What a script says before its pictures and steps: this project's own rule.
use Rattle.std.specs.Prelude.{◌≡◌, ◌≤◌, Bool, false, ◌&&◌, ◌==◌, nat_le, List, [], ◌∷◌, length, Result, Ok, refl}
use Rattle.std.specs.List.{AllByRecursion, list_all}
use Rattle.gfx_base.specs.Results.{◌>>=◌, check}
use Rattle.gfx_caps.specs.declared.choice.Chosen.{Chosen}
use Rattle.gfx_caps.specs.declared.offer.Offer.{Offer}
use Rattle.gfx_caps.specs.declared.sets.CapsSet.{CapsSet}
use Rattle.gfx_caps.specs.declared.versions.TheConstants.{SMALL_CACHE, THIN_CLIENT}
use Rattle.gfx_caps.specs.Choice.{choice, has_flag}
use Rattle.gfx_caps.specs.Offers.{IsOffer, is_offer, small_of, thin_of}
use Rattle.gfx_dwt.specs.declared.layout.Transform.TheVariants.{Reduced}
use Rattle.gfx_quant.specs.declared.quant.Quant.{Quant}
use Rattle.gfx_quant.specs.declared.setting.Level.{Level}
use Rattle.gfx_quant.specs.declared.rounding.Rounding.TheVariants.{Nearest}
use Rattle.gfx_quant.specs.declared.setting.Setting.{Setting}
use Rattle.gfx_quant.specs.declared.setting.TheConstants.{MOST_LEVELS}
use Rattle.gfx_quant.specs.Setting.{IsSetting, is_accepted}
use Rattle.gfx_script.specs.declared.TheConstants.{MOST_VERSIONS, MOST_WINDOW, USUAL_WINDOW}
use Rattle.gfx_script.specs.declared.error.ScriptKind.{ScriptKind}
use Rattle.gfx_script.specs.declared.error.ScriptKind.TheVariants.{Range}
use Rattle.gfx_script.specs.declared.head.HeadParts.{HeadParts}
use Rattle.gfx_script.specs.declared.start.StartBitmap.{StartBitmap}
use Rattle.gfx_script.specs.declared.step.Entropy.TheVariants.{One}
use Rattle.gfx_script.specs.Script.{is_from_one}
use Rattle.gfx_script.specs.Scripted.{Script}

-- ---- settings

-- a number for each band
abbrev pub is_ten : Quant → Bool
is_ten quant = length quant.values == 10

abbrev pub is_level : Level → Bool
is_level level = is_ten level.y && (is_ten level.cb && is_ten level.cr)

-- a server may code its tiles so: a test of all that `IsSetting` says
abbrev pub is_setting : Setting → Bool
is_setting setting =
    is_accepted setting
    && ((is_ten setting.y && (is_ten setting.cb && is_ten setting.cr)) && (list_all is_level setting.levels && nat_le (length setting.levels) MOST_LEVELS))

-- how paints are coded where nothing is said; scripts in text round toward zero there
abbrev pub usual_base : Quant
usual_base = record { values = 6 ∷ 6 ∷ 6 ∷ 6 ∷ 6 ∷ 6 ∷ 6 ∷ 6 ∷ 6 ∷ 6 ∷ []; nibbles = refl }

abbrev pub usual_left_out : Quant
usual_left_out = record { values = 4 ∷ 4 ∷ 4 ∷ 4 ∷ 4 ∷ 4 ∷ 4 ∷ 4 ∷ 4 ∷ 4 ∷ []; nibbles = refl }

abbrev pub usual_level : Level
usual_level = record { y = usual_left_out; cb = usual_left_out; cr = usual_left_out }

abbrev pub usual_setting : Setting
usual_setting = record { transform = Reduced; rounding = Nearest; y = usual_base; cb = usual_base; cr = usual_base; levels = usual_level ∷ [] }

-- ---- heads

-- what holds of the head of every script that is accepted
pub record IsHead (head : HeadParts) : Type 0 where
  pub window_from : 1 ≤ head.window
  pub window_most : head.window ≤ MOST_WINDOW
  pub some_offers : 1 ≤ length head.offers
  pub few_offers : length head.offers ≤ MOST_VERSIONS
  pub offers : AllByRecursion IsOffer head.offers
  pub setting : IsSetting head.setting

-- a window within its range, a few offers of the profile's versions, and a setting
unfoldable pub head_of : HeadParts → Result HeadParts ScriptKind
head_of parts = do
  window ← check Range (is_from_one MOST_WINDOW parts.window)
  few ← check Range (is_from_one MOST_VERSIONS (length parts.offers))
  offers ← check Range (list_all is_offer parts.offers)
  setting ← check Range (is_setting parts.setting)
  Ok parts

-- the version that was chosen, as the client offered it
abbrev pub offer_chosen : Chosen → Offer
offer_chosen chosen = record { version = chosen.version; small = has_flag chosen.flags SMALL_CACHE; thin = has_flag chosen.flags THIN_CLIENT }

-- whatever a server chooses is a version of the profile
abbrev pub ChosenAreOffers : Type 0
ChosenAreOffers = (sets : List CapsSet) (chosen : Chosen) → choice sets ≡ Ok chosen → IsOffer (offer_chosen chosen)

-- the head for a client of a chosen version, where nothing is said
abbrev pub head_for : Chosen → HeadParts
head_for chosen = record {
  window = USUAL_WINDOW;
  offers = offer_chosen chosen ∷ [];
  setting = usual_setting;
  differences = false;
  entropy = One;
}

-- ---- the script of a head

-- nothing is painted yet, and these bitmaps are there before the first step
abbrev pub script_from : HeadParts → List StartBitmap → Script
script_from head start = record {
  window = head.window;
  offers = head.offers;
  setting = head.setting;
  differences = head.differences;
  pictures = [];
  small = small_of head.offers;
  thin = thin_of head.offers;
  entropy = head.entropy;
  start = start;
  steps = [];
  turns = [];
}

-- what a script says before its pictures and steps
abbrev pub head_parts : Script → HeadParts
head_parts script = record {
  window = script.window;
  offers = script.offers;
  setting = script.setting;
  differences = script.differences;
  entropy = script.entropy;
}
