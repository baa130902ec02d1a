-- The tests of a head tell what holds of it, and pass wherever that holds; whatever version a server chooses is one that it may have.
use Rattle.std.proofs.Common.{◌≡◌, ℕ, ◌≤◌, Bool, true, ◌&&◌, List, [], ◌∷◌, length, Ok, Decides, nat_le, refl, sym, ap, ◌∙◌, subst, arith}
use Rattle.std.specs.List.{list_all}
use Rattle.std.proofs.lemmas.Bool.{and_from, and_parts, eqb-true, eq-eqb, leb-true, le-leb}
use Rattle.std.proofs.lemmas.Bool.Decides.{Decides-and, Decides-like}
use Rattle.std.proofs.lemmas.List.Elements.{All-from_recursion, recursion_from_All}
use Rattle.gfx_base.specs.Results.{check}
use Rattle.gfx_base.proofs.ResultLemmas.{and_then_at, and_then_ok, check_ok}
use Rattle.gfx_caps.specs.declared.offer.Offer.{Offer}
use Rattle.gfx_caps.specs.Offers.{IsOffer, is_offer}
use Rattle.gfx_quant.specs.declared.quant.Component.{Component}
use Rattle.gfx_quant.specs.declared.quant.Component.TheVariants.{Y, Cb, Cr}
use Rattle.gfx_quant.specs.declared.quant.Quant.{Quant}
use Rattle.gfx_quant.specs.declared.setting.Level.{Level}
use Rattle.gfx_quant.specs.declared.setting.Setting.{Setting}
use Rattle.gfx_quant.specs.declared.setting.TheConstants.{MOST_LEVELS}
use Rattle.gfx_quant.specs.Setting.{IsSetting, all_below, base_of, falls_well, is_accepted, is_fine, of_level, stays_within}
use Rattle.gfx_script.specs.declared.TheConstants.{MOST_VERSIONS, MOST_WINDOW}
use Rattle.gfx_script.specs.declared.error.ScriptKind.TheVariants.{Range}
use Rattle.gfx_script.specs.declared.head.HeadParts.{HeadParts}
use Rattle.gfx_script.specs.declared.step.Entropy.{Entropy}
use Rattle.gfx_script.specs.Heads.{IsHead, head_of, is_level, is_setting, is_ten, usual_setting}
use Rattle.gfx_script.specs.Script.{is_from_one}
use Rattle.gfx_script.proofs.Ranged.{all_tested}

-- ---- settings

ten : (quant : Quant) → Decides (is_ten quant) (length quant.values ≡ 10)
ten quant = (eqb-true (length quant.values) 10, eq-eqb (length quant.values) 10)

-- each component of a level has ten numbers
abbrev IsWhole : Level → Type 0
IsWhole level = (component : Component) → length (of_level component level) ≡ 10

whole_level : (level : Level) → length level.y.values ≡ 10 → length level.cb.values ≡ 10 → length level.cr.values ≡ 10 → IsWhole level
whole_level level y cb cr Y = y
whole_level level y cb cr Cb = cb
whole_level level y cb cr Cr = cr

whole : (level : Level) → Decides (is_level level) (IsWhole level)
whole level =
    Decides-like (is_level level) (λ h. whole_level level h.0 h.1.0 h.1.1) (λ h. (h Y, (h Cb, h Cr)))
    (Decides-and (is_ten level.y) _ (ten level.y) (Decides-and (is_ten level.cb) (is_ten level.cr) (ten level.cb) (ten level.cr)))

whole_bases : (setting : Setting) → length setting.y.values ≡ 10 → length setting.cb.values ≡ 10 → length setting.cr.values ≡ 10 → (component : Component) → length (base_of component setting) ≡ 10
whole_bases setting y cb cr Y = y
whole_bases setting y cb cr Cb = cb
whole_bases setting y cb cr Cr = cr

pub setting_tested : (setting : Setting) → Decides (is_setting setting) (IsSetting setting)
setting_tested setting =
    Decides-like (is_setting setting)
    (λ h. record { accepted = h.0; bases = whole_bases setting h.1.0.0 h.1.0.1.0 h.1.0.1.1; levels = All-from_recursion IsWhole setting.levels h.1.1.0; few = h.1.1.1 })
    (λ h. (h.accepted, ((h.bases Y, (h.bases Cb, h.bases Cr)), (recursion_from_All IsWhole setting.levels h.levels, h.few))))
    (Decides-and (is_accepted setting) _ ((λ e. e, λ e. e))
    (Decides-and (is_ten setting.y && (is_ten setting.cb && is_ten setting.cr)) _
    (Decides-and (is_ten setting.y) _ (ten setting.y) (Decides-and (is_ten setting.cb) (is_ten setting.cr) (ten setting.cb) (ten setting.cr)))
    (Decides-and (list_all is_level setting.levels) (nat_le (length setting.levels) MOST_LEVELS) (all_tested is_level IsWhole whole setting.levels)
    (leb-true (length setting.levels) MOST_LEVELS, le-leb (length setting.levels) MOST_LEVELS))))

-- ---- heads

offer_tested : (offer : Offer) → Decides (is_offer offer) (IsOffer offer)
offer_tested offer = (λ e. e, λ e. e)

-- a head of which each test holds
pub head_tested : (parts : HeadParts) → is_from_one MOST_WINDOW parts.window ≡ true → is_from_one MOST_VERSIONS (length parts.offers) ≡ true → list_all is_offer parts.offers ≡ true
    → is_setting parts.setting ≡ true → IsHead parts
head_tested parts window few offers setting =
    let sides = and_parts (nat_le 1 parts.window) (nat_le parts.window MOST_WINDOW) window in
    let counts = and_parts (nat_le 1 (length parts.offers)) (nat_le (length parts.offers) MOST_VERSIONS) few in
    record {
      window_from = leb-true 1 parts.window sides.0;
      window_most = leb-true parts.window MOST_WINDOW sides.1;
      some_offers = leb-true 1 (length parts.offers) counts.0;
      few_offers = leb-true (length parts.offers) MOST_VERSIONS counts.1;
      offers = (all_tested is_offer IsOffer offer_tested parts.offers).0 offers;
      setting = (setting_tested parts.setting).0 setting;
    }

-- a head that passes is one
pub head_found : (parts found : HeadParts) → head_of parts ≡ Ok found → (parts ≡ found) × IsHead parts
unfolding head_of
head_found parts found is =
    let window = and_then_ok (check Range (is_from_one MOST_WINDOW parts.window)) _ found is in
    let few = and_then_ok (check Range (is_from_one MOST_VERSIONS (length parts.offers))) _ found window.2 in
    let offers = and_then_ok (check Range (list_all is_offer parts.offers)) _ found few.2 in
    let setting = and_then_ok (check Range (is_setting parts.setting)) _ found offers.2 in
    let same : parts ≡ found = let h = setting.2 in cc in (
      same,
      head_tested parts (check_ok Range (is_from_one MOST_WINDOW parts.window) window.1) (check_ok Range (is_from_one MOST_VERSIONS (length parts.offers)) few.1)
          (check_ok Range (list_all is_offer parts.offers) offers.1) (check_ok Range (is_setting parts.setting) setting.1),
    )

-- and every head passes
pub head_passes : (head : HeadParts) → IsHead head → head_of head ≡ Ok head
unfolding head_of
head_passes head is =
    and_then_at (check Range (is_from_one MOST_WINDOW head.window)) tt _
    (ap (check Range) (and_from (nat_le 1 head.window) (nat_le head.window MOST_WINDOW) (le-leb 1 head.window is.window_from) (le-leb head.window MOST_WINDOW is.window_most)))
    ∙ and_then_at (check Range (is_from_one MOST_VERSIONS (length head.offers))) tt _
    (ap (check Range) (and_from (nat_le 1 (length head.offers)) (nat_le (length head.offers) MOST_VERSIONS) (le-leb 1 (length head.offers) is.some_offers) (le-leb (length head.offers) MOST_VERSIONS is.few_offers)))
    ∙ and_then_at (check Range (list_all is_offer head.offers)) tt _ (ap (check Range) ((all_tested is_offer IsOffer offer_tested head.offers).1 is.offers))
    ∙ and_then_at (check Range (is_setting head.setting)) tt _ (ap (check Range) ((setting_tested head.setting).1 is.setting))

-- ---- the usual head

pub usual_accepted : IsSetting usual_setting
unfolding is_fine all_below stays_within falls_well
usual_accepted = (setting_tested usual_setting).0 refl

pub one_offered : (window : ℕ) (offer : Offer) (offers : List Offer) (setting : Setting) (differences : Bool) (entropy : Entropy) → 1 ≤ window → window ≤ MOST_WINDOW → IsOffer offer → offers ≡ offer ∷ []
    → setting ≡ usual_setting → IsHead record { window = window; offers = offers; setting = setting; differences = differences; entropy = entropy }
one_offered window offer offers setting differences entropy from most good is usual =
    subst (λ list. IsHead record { window = window; offers = list; setting = setting; differences = differences; entropy = entropy }) (sym is)
    record { window_from = from; window_most = most; some_offers = omega arith; few_offers = omega arith; offers = (good, tt); setting = subst IsSetting (sym usual) usual_accepted }
