-- Within which ranges a script's window, offers and turns lie that were read.
use Rattle.std.proofs.Common.{◌≡◌, ℕ, ◌==◌, ◌&&◌, not, true, false, if◌then◌else◌, ◌≤◌, ◌<◌, ◌^◌, Bool, Err, List, length, Option, Some, None, ℤ, refl, sym, ap, subst, arith}
use Rattle.std.proofs.lemmas.Bool.{leb-true}
use Rattle.std.specs.List.{AllByRecursion}
use Rattle.std.specs.Option.{ok_or}
use Rattle.toml.specs.Data.{Data, Members, as_bool}
use Rattle.gfx_base.specs.Results.{Has}
use Rattle.gfx_base.proofs.ResultLemmas.{chain, gives, never, check_ok, length-each}
use Rattle.gfx_caps.specs.declared.offer.Offer.{Offer}
use Rattle.gfx_caps.specs.declared.versions.TheConstants.{VERSION_8, VERSION_8_1, VERSION_10}
use Rattle.gfx_caps.specs.Choice.{allows}
use Rattle.gfx_caps.specs.Offers.{IsOffer}
use Rattle.gfx_script.specs.declared.TheConstants.{MOST_VERSIONS, MOST_WINDOW, MOST_TURNS}
use Rattle.gfx_script.specs.declared.error.ScriptKind.TheVariants.{Key, Range}
use Rattle.gfx_script.specs.declared.turn.Turn.{Turn}
use Rattle.gfx_script.specs.declared.turn.Turn.TheVariants.{Server, Client, Answer}
use Rattle.gfx_script.specs.Script.{IsTurn}
use Rattle.gfx_script_text.specs.declared.TheConstants.{MOST_TAKE}
use Rattle.gfx_script_text.specs.Clients.{version_named, thin_with, offer_in, offers_of}
use Rattle.gfx_script_text.specs.Sessions.{window_of, taken_of, server_of, client_of, answer_of, ended, turn_of, turns_of}
use Rattle.gfx_script_text.proofs.Ranges.{range_passed, within_ok, each_has, if_has}

-- ---- the window

abbrev pub IsWindow : ℕ → Type 0
IsWindow window = (1 ≤ window) × (window ≤ MOST_WINDOW)

pub window_of-fits : (number : Option ℤ) → Has (window_of number) IsWindow
unfolding window_of
window_of-fits None = gives _ IsWindow (omega arith, omega arith)
window_of-fits (Some number) = record { each = λ window is. within_ok 1 MOST_WINDOW number window is }

-- ---- the offers

-- with each flag that it allows it is a version of the profile
abbrev IsVersion : ℕ → Type 0
IsVersion version = (small thin : Bool) → allows version thin ≡ true → IsOffer record { version = version; small = small; thin = thin }

ten_known : IsVersion VERSION_10
ten_known small true allowed = absurd cc
ten_known small false allowed = refl

version_named-known : (word : List ℕ) → Has (version_named word) IsVersion
version_named-known word =
    if_has _ _ _ IsVersion (gives VERSION_8 IsVersion (λ small thin allowed. refl))
    (if_has _ _ _ IsVersion (gives VERSION_8_1 IsVersion (λ small thin allowed. refl))
    (if_has _ _ _ IsVersion (gives VERSION_10 IsVersion ten_known) (never _ IsVersion)))

-- a version allows it
abbrev IsAllowed : ℕ → Bool → Type 0
IsAllowed version thin = allows version thin ≡ true

never_thin : (b : Bool) → not (b && false) ≡ true
never_thin true = refl
never_thin false = refl

thin_kept : (version : ℕ) (value : Data) (b : Bool) → (version == VERSION_10) ≡ b → Has (if b then Err Key else ok_or (as_bool value) Key) (IsAllowed version)
thin_kept version value true is = never _ (IsAllowed version)
thin_kept version value false is = record { each = λ thin found. ap (λ b. not (b && thin)) is }

thin_with-fits : (version : ℕ) (value : Option Data) → Has (thin_with version value) (IsAllowed version)
thin_with-fits version None = gives false (IsAllowed version) (never_thin (version == VERSION_10))
thin_with-fits version (Some value) = thin_kept version value (version == VERSION_10) refl

offer_in-known : (value : Data) → Has (offer_in value) IsOffer
unfolding offer_in
offer_in-known value =
    chain _ _ IsOffer (λ table found_table.
    chain _ _ IsOffer (λ known passed.
    chain _ _ IsOffer (λ word found_word.
    chain _ _ IsOffer (λ version found_version.
    chain _ _ IsOffer (λ small found_small.
    chain _ _ IsOffer (λ thin found_thin.
    gives _ IsOffer ((version_named-known word).each version found_version small thin ((thin_with-fits version _).each thin found_thin))))))))

-- some offers, and few
pub record AreOffers (offers : List Offer) : Type 0 where
  pub some : 1 ≤ length offers
  pub few : length offers ≤ MOST_VERSIONS
  pub each : AllByRecursion IsOffer offers

pub offers_of-good : (client : Option (List Data)) → Has (offers_of client) AreOffers
unfolding offers_of
offers_of-good None = gives _ AreOffers record { some = omega arith; few = omega arith; each = (refl, tt) }
offers_of-good (Some values) =
    chain _ _ AreOffers (λ few are_few.
    let count = range_passed 1 MOST_VERSIONS (length values) (check_ok Range _ are_few) in
    record {
      each = λ offers found.
          let same : length offers ≡ length values = length-each offer_in values offers found in
          record {
            some = subst (λ n. 1 ≤ n) (sym same) count.0;
            few = subst (λ n. n ≤ MOST_VERSIONS) (sym same) count.1;
            each = each_has offer_in IsOffer offer_in-known values offers found;
          };
    })

-- ---- the turns

abbrev IsTaken : ℕ → Type 0
IsTaken number = (1 ≤ number) × (number < 2 ^ 32)

taken_of-fits : (table : Members) → Has (taken_of table) IsTaken
unfolding taken_of
taken_of-fits table =
    chain _ _ IsTaken (λ known passed.
    chain _ _ IsTaken (λ number found.
    record { each = λ n is. let fits = within_ok 1 MOST_TAKE number n is in (fits.0, omega (arith, fits.1)) }))

server_of-fits : (table : Members) → Has (server_of table) IsTurn
unfolding server_of
server_of-fits table = chain _ _ IsTurn (λ known passed. gives Server IsTurn tt)

client_of-fits : (table : Members) → Has (client_of table) IsTurn
unfolding client_of
client_of-fits table = chain _ _ IsTurn (λ number found. gives (Client number) IsTurn ((taken_of-fits table).each number found))

answer_of-fits : (table : Members) → Has (answer_of table) IsTurn
unfolding answer_of
answer_of-fits table = chain _ _ IsTurn (λ number found. gives (Answer number) IsTurn ((taken_of-fits table).each number found))

turn_of-fits : (value : Data) → Has (turn_of value) IsTurn
unfolding turn_of ended
turn_of-fits value =
    chain _ _ IsTurn (λ table found_table.
    chain _ _ IsTurn (λ word found_word.
    if_has _ _ _ IsTurn (server_of-fits table) (if_has _ _ _ IsTurn (client_of-fits table) (if_has _ _ _ IsTurn (answer_of-fits table) (never _ IsTurn)))))

-- few turns
pub record AreTurns (turns : List Turn) : Type 0 where
  pub few : length turns ≤ MOST_TURNS
  pub each : AllByRecursion IsTurn turns

turns_few : (values : List Data) (turns : List Turn) → length values ≤ MOST_TURNS → length turns ≡ length values → length turns ≤ MOST_TURNS
turns_few values turns few same = subst (λ n. n ≤ MOST_TURNS) (sym same) few

pub turns_of-good : (values : List Data) → Has (turns_of values) AreTurns
unfolding turns_of
turns_of-good values =
    chain _ _ AreTurns (λ few are_few.
    record {
      each = λ turns found. record {
        few = turns_few values turns (leb-true (length values) MOST_TURNS (check_ok Range _ are_few)) (length-each turn_of values turns found);
        each = each_has turn_of IsTurn turn_of-fits values turns found;
      };
    })
