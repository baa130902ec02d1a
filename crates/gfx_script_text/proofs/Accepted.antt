-- What holds of every script that is read.
use Rattle.std.proofs.Common.{◌≡◌, ℕ, suc, ◌+◌, ◌≤◌, Bool, List, [], ◌∷◌, length, Result, Ok, Err, refl, sym, ap, ◌∙◌, subst, true, arith}
use Rattle.std.proofs.lemmas.Bool.{leb-true}
use Rattle.std.specs.List.{AllByRecursion}
use Rattle.toml.specs.Data.{Data}
use Rattle.gfx_base.specs.Results.{Has}
use Rattle.gfx_base.proofs.ResultLemmas.{and_then_ok, and_then_at, chain, gives, check_ok}
use Rattle.gfx_bitmap_cache.specs.Slots.{Entry}
use Rattle.gfx_import.specs.Entries.{are_distinct, entry_keys}
use Rattle.gfx_import.specs.Imported.{imported}
use Rattle.gfx_quant.specs.Setting.{IsSetting}
use Rattle.gfx_script.specs.declared.TheConstants.{MOST_PICTURES, MOST_STEPS_READ}
use Rattle.gfx_script.specs.declared.error.ScriptKind.{ScriptKind}
use Rattle.gfx_script.specs.declared.error.ScriptKind.TheVariants.{Range, Unframed}
use Rattle.gfx_script.specs.declared.start.StartBitmap.{StartBitmap}
use Rattle.gfx_script.specs.declared.step.Step.{Step}
use Rattle.gfx_script.specs.Checks.{Held, held_after, held_from, held_through, sides_of_all}
use Rattle.gfx_script.specs.Scripted.{Script}
use Rattle.gfx_script.specs.Script.{held_at_start, is_framed, IsStep, IsAccepted, IsAcceptedAtStart, IsAcceptedFrom}
use Rattle.gfx_script.specs.Starting.{IsStart, starts_of, stock_with}
use Rattle.gfx_script.proofs.Imports.{imported_start}
use Rattle.gfx_script_text.specs.Text.{Top, Head, at_step, head_of, next_step, start_by, steps_of, held_before, script_with, script_from, script_in, script_kept, script_of}
use Rattle.gfx_script_text.proofs.PictureRanges.{AreGood, pictures_of-good}
use Rattle.gfx_script_text.proofs.SettingRanges.{progressive_of-good}
use Rattle.gfx_script_text.proofs.SessionRanges.{IsWindow, window_of-fits, AreOffers, offers_of-good, turns_of-good}
use Rattle.gfx_script_text.proofs.Ranges.{step_of-fits}

at_step_ok : {A : Type 0} (number : ℕ) (r : Result A ScriptKind) (x : A) → at_step number r ≡ Ok x → r ≡ Ok x
at_step_ok number (Ok y) x is = cc
at_step_ok number (Err kind) x is = absurd cc

-- what holds of steps that were read from so many values, where this was held before them
record Good (count : ℕ) (held : Held) (steps : List Step) : Type 0 where
  many : length steps ≡ count
  numbers : AllByRecursion IsStep steps
  after : Held
  checked : held_through held steps ≡ Ok after

-- what holds of the next step
record Next (held : Held) (next : Step × Held) : Type 0 where
  numbers : IsStep next.0
  checked : held_after held next.0 ≡ Ok next.1

next_good : (names : List (List ℕ)) (held : Held) (value : Data) (next : Step × Held) → next_step names held value ≡ Ok next → Next held next
unfolding next_step
next_good names held value next is =
    let read = and_then_ok _ _ next is in
    let taken = and_then_ok _ _ next read.2 in
    let same : (read.0, taken.0) ≡ next = let h = taken.2 in cc in
    subst (Next held) same record { numbers = (step_of-fits names value).each read.0 read.1; checked = taken.1 }

no_good : (held : Held) → Good 0 held []
unfolding held_through
no_good held = record { many = refl; numbers = tt; after = held; checked = refl }

more_good : (count : ℕ) (held : Held) (next : Step × Held) (steps : List Step) → Next held next → Good count next.1 steps → Good (suc count) held (next.0 ∷ steps)
unfolding held_through
more_good count held next steps one others = record {
  many = ap suc others.many;
  numbers = (one.numbers, others.numbers);
  after = others.after;
  checked = and_then_at (held_after held next.0) next.1 _ one.checked ∙ others.checked;
}

steps_good : (names : List (List ℕ)) (number : ℕ) (held : Held) (values : List Data) (steps : List Step) → steps_of names number held values ≡ Ok steps → Good (length values) held steps
unfolding steps_of
steps_good names number held [] steps is = subst (Good 0 held) (let e : [] ≡ steps = cc in e) (no_good held)
steps_good names number held (value ∷ values) steps is =
    let first = and_then_ok (at_step number (next_step names held value)) _ steps is in
    let others = and_then_ok (steps_of names (number + 1) first.0.1 values) _ steps first.2 in
    let same : first.0.0 ∷ others.0 ≡ steps = let h = others.2 in cc in
    subst (Good (suc (length values)) held) same
    (more_good (length values) held first.0 others.0 (next_good names held value first.0 (at_step_ok number _ first.0 first.1))
    (steps_good names (number + 1) first.0.1 values others.0 others.1))

-- what holds of what stands before the steps
record HeadGood (top : Top) (head : Head) : Type 0 where
  window : IsWindow head.window
  offers : AreOffers head.offers
  setting : IsSetting head.progressive.setting
  few : length top.step ≤ MOST_STEPS_READ
  pictures : AreGood head.gallery

head_of-good : (top : Top) → Has (head_of top) (HeadGood top)
unfolding head_of
head_of-good top =
    chain _ _ (HeadGood top) (λ window found_window.
    chain _ _ (HeadGood top) (λ offers found_offers.
    chain _ _ (HeadGood top) (λ progressive found_progressive.
    chain _ _ (HeadGood top) (λ entropy found_entropy.
    chain _ _ (HeadGood top) (λ gallery found_gallery.
    chain _ _ (HeadGood top) (λ few are_few.
    gives _ (HeadGood top) record {
      window = (window_of-fits top.window).each window found_window;
      offers = (offers_of-good top.client).each offers found_offers;
      setting = (progressive_of-good top.progressive).each progressive found_progressive;
      few = leb-true (length top.step) MOST_STEPS_READ (check_ok Range _ are_few);
      pictures = (pictures_of-good top.picture).each gallery found_gallery;
    }))))))

-- a script that is read starts with what it is to start with, and is good from there
pub record Begun (starts : Bool → List StartBitmap) (script : Script) : Type 0 where
  pub start : script.start ≡ starts script.small
  pub pictures : length script.pictures ≤ MOST_PICTURES
  pub steps : length script.steps ≤ MOST_STEPS_READ
  pub accepted : IsAcceptedFrom (held_at_start script) script

pub begun : (starts : Bool → List StartBitmap) (text : List ℕ) (script : Script) → script_from starts text ≡ Ok script → Begun starts script
unfolding script_from script_in
begun starts text script is =
    let utf8 = and_then_ok _ _ script is in
    let table = and_then_ok _ _ script utf8.2 in
    let top = and_then_ok _ _ script table.2 in
    let head = and_then_ok _ _ script top.2 in
    let steps = and_then_ok _ _ script head.2 in
    let framed = and_then_ok _ _ script steps.2 in
    let turns = and_then_ok _ _ script framed.2 in
    let same : script_with head.0 (start_by starts head.0) steps.0 turns.0 ≡ script = let h = turns.2 in cc in
    let before = (head_of-good top.0).each head.0 (at_step_ok 0 _ head.0 head.1) in
    let good = steps_good head.0.gallery.names 1 (held_before (start_by starts head.0) head.0) top.0.step steps.0 steps.1 in
    let moved = (turns_of-good top.0.turn).each turns.0 (at_step_ok 0 _ turns.0 turns.1) in
    subst (Begun starts) same record {
      start = refl;
      pictures = before.pictures.few;
      steps = subst (λ n. n ≤ MOST_STEPS_READ) (sym good.many) before.few;
      accepted = record {
        window_from = before.window.0;
        window_most = before.window.1;
        some_offers = before.offers.some;
        few_offers = before.offers.few;
        offers = before.offers.each;
        setting = before.setting;
        small = refl;
        thin = refl;
        few_pictures = omega (arith, before.pictures.few);
        pictures = before.pictures.each;
        few = omega (arith, good.many, before.few);
        numbers = good.numbers;
        held = good.after;
        checked = good.checked;
        framed = check_ok Unframed (is_framed steps.0) (at_step_ok 0 _ framed.0 framed.1);
        few_turns = moved.few;
        turns = moved.each;
      };
    }

-- a script that is read with nothing before its first step is good
pub starts_with_nothing : (text : List ℕ) (script : Script) → script_of text ≡ Ok script → script.start ≡ []
unfolding script_of
starts_with_nothing text script is = (begun (λ small. []) text script is).start

pub few_pictures : (text : List ℕ) (script : Script) → script_of text ≡ Ok script → length script.pictures ≤ MOST_PICTURES
unfolding script_of
few_pictures text script is = (begun (λ small. []) text script is).pictures

pub few_steps : (text : List ℕ) (script : Script) → script_of text ≡ Ok script → length script.steps ≤ MOST_STEPS_READ
unfolding script_of
few_steps text script is = (begun (λ small. []) text script is).steps

pub accepted : (text : List ℕ) (script : Script) → script_of text ≡ Ok script → IsAccepted script
unfolding script_of
accepted text script is =
    let begins = begun (λ small. []) text script is in
    subst (λ start. IsAcceptedFrom (held_from (sides_of_all script.pictures) (stock_with start script.small)) script) begins.start begins.accepted

-- and so is one with what is imported
pub starts_with_kept : (server client : List Entry) (text : List ℕ) (script : Script) → script_kept server client text ≡ Ok script
    → script.start ≡ starts_of (imported server client script.small)
unfolding script_kept
starts_with_kept server client text script is = (begun (λ small. starts_of (imported server client small)) text script is).start

pub few_pictures_kept : (server client : List Entry) (text : List ℕ) (script : Script) → script_kept server client text ≡ Ok script → length script.pictures ≤ MOST_PICTURES
unfolding script_kept
few_pictures_kept server client text script is = (begun (λ small. starts_of (imported server client small)) text script is).pictures

pub few_steps_kept : (server client : List Entry) (text : List ℕ) (script : Script) → script_kept server client text ≡ Ok script → length script.steps ≤ MOST_STEPS_READ
unfolding script_kept
few_steps_kept server client text script is = (begun (λ small. starts_of (imported server client small)) text script is).steps

pub accepted_with : (server client : List Entry) (text : List ℕ) (script : Script) → IsStart script.start script.small → script_kept server client text ≡ Ok script
    → IsAcceptedAtStart script
unfolding script_kept
accepted_with server client text script start is =
    record { start = start; accepted = (begun (λ small. starts_of (imported server client small)) text script is).accepted }

pub accepted_kept : (server client : List Entry) (text : List ℕ) (script : Script) → are_distinct (entry_keys client) ≡ true → script_kept server client text ≡ Ok script → IsAcceptedAtStart script
accepted_kept server client text script distinct is =
    accepted_with server client text script
    (subst (λ start. IsStart start script.small) (sym (starts_with_kept server client text script is)) (imported_start server client script.small distinct)) is
