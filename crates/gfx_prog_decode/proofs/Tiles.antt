-- Passes over all components.
use Rattle.std.proofs.Common.{◌≡◌, ◌∙◌, ap, sym, refl, subst, Bool, true, false, ℕ, List, Option, Some, Result, Ok, Err, T}
use Rattle.std.specs.Prelude.{ℤ, OnOk}
use Rattle.gfx_base.specs.Outcome.{Performs, Says}
use Rattle.gfx_base.specs.Results.{and_then}
use Rattle.gfx_base.specs.declared.refusal.Refusal.{Refusal}
use Rattle.gfx_base.specs.declared.refusal.Refusal.TheVariants.{TransformChanged}
use Rattle.gfx_base.proofs.ResultLemmas.{and_then_at, and_then_refused}
use Rattle.gfx_dwt.specs.declared.layout.Transform.{Transform}
use Rattle.gfx_dwt.specs.declared.layout.Transform.TheVariants.{Plain, Reduced}
use Rattle.gfx_quant.specs.declared.quant.Component.TheVariants.{Y, Cb, Cr}
use Rattle.gfx_prog_block.specs.declared.tile.FirstPass.{FirstPass}
use Rattle.gfx_prog_block.specs.declared.tile.UpgradePass.{UpgradePass}
use Rattle.gfx_bits.specs.Bits.{bits_of}
use Rattle.gfx_tile_state.specs.Entries.{Pass, pass_of}
use Rattle.gfx_tile_state.specs.Making.{first_part, may_upgrade, upgraded_part}
use Rattle.gfx_tile_state.specs.declared.shape.PassShape.{PassShape}
use Rattle.gfx_tile_state.specs.declared.state.TileState.{TileState}
use Rattle.gfx_tile_state.specs.Passes.{Part, TakesFirst, Upgrades}
use Rattle.gfx_tile_state.specs.Record.{MayAdd, MayBeUpgraded, MayUpgrade, StartsIn, UpgradesFrom, fits_transform}
use Rattle.gfx_tile_state.proofs.Making.{first-is, upgrade-is, upgrades-is}
use Rattle.gfx_prog_decode.specs.Inside.{coding_seen}
use Rattle.gfx_prog_decode.specs.Coding.{Coding, positions_in}
use Rattle.gfx_prog_decode.specs.Passes.{improved, kept_of, may_start, start_of, started}

-- what was performed is what is said
performed : {S : Type 0} (result : Result (Unit {0}) Refusal) (old new : S) (due : Result S Refusal) → Performs result old new due → Says (λ _. new) result due
performed (Ok done) old new due is = is
performed (Err refusal) old new due is = is.0

first_made : (result : Result (Unit {0}) Refusal) (t : Transform) (positions bytes : List ℕ) (kept : List ℤ) (old new : Part)
    → TakesFirst result t positions bytes kept old new → Says (λ _. new) result (first_part t positions bytes kept)
first_made result t positions bytes kept old new took = performed result old new (first_part t positions bytes kept) (first-is result t positions bytes kept old new took)

upgrade_made : (result : Result (Unit {0}) Refusal) (pass : Pass) (positions : List ℕ) (old new : Part)
    → Upgrades result pass positions old new → Says (λ _. new) result (upgraded_part pass positions old)
upgrade_made result pass positions old new made = performed result old new (upgraded_part pass positions old) (upgrade-is result pass positions old new made)

-- what a difference tile may do is what the record says of it
pub added_to : (result : Result (Unit {0}) Refusal) (tile : TileState) (t : Transform) → MayAdd result tile t
    → (count : ℕ) → result ≡ may_start true (Some tile) count t
unfolding may_start and_then
added_to (Ok done) tile t fits count = sym (rw fits refl)
added_to (Err refusal) tile t (is, unlike) count = ap Err is ∙ sym (rw unlike refl)

-- a plain tile may replace any record
pub plain_over : (tile : TileState) (t : Transform) (count : ℕ) → Ok tt ≡ may_start false (Some tile) count t
unfolding may_start and_then
plain_over tile t count = refl

-- where a difference tile may begin, the transform is that of the record
pub begun_alike : (old : Option TileState) (count : ℕ) (t : Transform) (difference : Bool) → Ok tt ≡ may_start difference old count t
    → difference ≡ true → fits_transform (start_of old).transform t ≡ true
unfolding may_start and_then
begun_alike old count t false may is = absurd (subst (λ b. T b) (sym is) tt)
begun_alike old count t true may is = by (fits_transform (start_of old).transform t) refl
  where
    by : (b : Bool) → fits_transform (start_of old).transform t ≡ b → b ≡ true
    by true fits = refl
    by false unlike = let no : ◌≡◌ {A = Result (Unit {0}) Refusal} (Ok tt) (Err TransformChanged) = may ∙ rw unlike refl in cc

-- a plain first pass doesn't read the record
pub started_anew : (coding : Coding) (pass : FirstPass) (one other : TileState) → started false coding pass one ≡ started false coding pass other
unfolding started
started_anew coding pass one other = refl

-- a transform is like itself
pub alike : (t : Transform) → fits_transform (Some t) t ≡ true
alike Plain = refl
alike Reduced = refl

module _ (shape : PassShape) (difference : Bool) (pass : FirstPass) where
  -- what is due of a component, told of what it was and what is kept of it
  abbrev due_on : List ℕ → List ℕ → Part → Result Part Refusal
  due_on positions bytes old = first_part shape.transform positions bytes (kept_of difference old)

  -- the first is refused
  pub y_refused : (old new : TileState) (refusal : Refusal) → StartsIn (Err refusal) Y pass.y shape (kept_of difference old.y) old new
      → started difference (coding_seen shape) pass old ≡ Err refusal
  unfolding started
  y_refused old new refusal (y, others) = and_then_refused (due_on shape.y pass.y old.y) refusal _ (first_made (Err refusal) shape.transform shape.y pass.y (kept_of difference old.y) old.y new.y y)

  -- the first is done
  y_done : (old one : TileState) → StartsIn (Ok tt) Y pass.y shape (kept_of difference old.y) old one → due_on shape.y pass.y old.y ≡ Ok one.y
  y_done old one (y, others) = first_made (Ok tt) shape.transform shape.y pass.y (kept_of difference old.y) old.y one.y y

  -- the second, over what it was at first
  cb_says : (result : Result (Unit {0}) Refusal) (old one two : TileState) → one.cb ≡ old.cb → StartsIn result Cb pass.cb shape (kept_of difference one.cb) one two
      → Says (λ _. two.cb) result (due_on shape.cb pass.cb old.cb)
  cb_says result old one two same (cb, others) =
      subst (λ p. Says (λ _. two.cb) result (due_on shape.cb pass.cb p)) same (first_made result shape.transform shape.cb pass.cb (kept_of difference one.cb) one.cb two.cb cb)

  pub cb_refused : (old one new : TileState) (refusal : Refusal) → StartsIn (Ok tt) Y pass.y shape (kept_of difference old.y) old one
      → StartsIn (Err refusal) Cb pass.cb shape (kept_of difference one.cb) one new
      → started difference (coding_seen shape) pass old ≡ Err refusal
  unfolding started
  cb_refused old one new refusal y cb =
      and_then_at (due_on shape.y pass.y old.y) one.y _ (y_done old one y)
      ∙ and_then_refused (due_on shape.cb pass.cb old.cb) refusal _ (cb_says (Err refusal) old one new y.1.0 cb)

  -- the third
  cr_says : (result : Result (Unit {0}) Refusal) (old two new : TileState) → two.cr ≡ old.cr → StartsIn result Cr pass.cr shape (kept_of difference two.cr) two new
      → Says (λ _. new.cr) result (due_on shape.cr pass.cr old.cr)
  cr_says result old two new same (cr, others) =
      subst (λ p. Says (λ _. new.cr) result (due_on shape.cr pass.cr p)) same (first_made result shape.transform shape.cr pass.cr (kept_of difference two.cr) two.cr new.cr cr)

  -- all three as one
  all_as : (new : TileState) (y cb cr : Part) → new.transform ≡ Some shape.transform → new.y ≡ y → new.cb ≡ cb → new.cr ≡ cr
      → record { transform = Some shape.transform; y = y; cb = cb; cr = cr } ≡ new
  all_as new y cb cr transform is_y is_cb is_cr = λ i. record { transform = sym transform i; y = sym is_y i; cb = sym is_cb i; cr = sym is_cr i }

  -- all are done, or the last is refused
  pub cr_ended : (result : Result (Unit {0}) Refusal) (old one two new : TileState)
      → StartsIn (Ok tt) Y pass.y shape (kept_of difference old.y) old one
      → StartsIn (Ok tt) Cb pass.cb shape (kept_of difference one.cb) one two
      → StartsIn result Cr pass.cr shape (kept_of difference two.cr) two new
      → OnOk result (new.transform ≡ Some shape.transform) → Says (λ _. new) result (started difference (coding_seen shape) pass old)
  unfolding started
  cr_ended (Ok done) old one two new y cb cr transform =
      and_then_at (due_on shape.y pass.y old.y) one.y _ (y_done old one y)
      ∙ and_then_at (due_on shape.cb pass.cb old.cb) two.cb _ (cb_says (Ok tt) old one two y.1.0 cb)
      ∙ and_then_at (due_on shape.cr pass.cr old.cr) new.cr _ (cr_says (Ok tt) old two new (cb.1.1 ∙ y.1.1) cr)
      ∙ ap Ok (all_as new one.y two.cb new.cr transform (cr.1.0 ∙ cb.1.0) cr.1.1 refl)
  cr_ended (Err refusal) old one two new y cb cr none =
      and_then_at (due_on shape.y pass.y old.y) one.y _ (y_done old one y)
      ∙ and_then_at (due_on shape.cb pass.cb old.cb) two.cb _ (cb_says (Ok tt) old one two y.1.0 cb)
      ∙ and_then_refused (due_on shape.cr pass.cr old.cr) refusal _ (cr_says (Err refusal) old two new (cb.1.1 ∙ y.1.1) cr)

-- ---- upgrades

-- whether one may follow
told : (shape : PassShape) (result : Result (Unit {0}) Refusal) (old : TileState) → MayUpgrade result old shape
    → may_upgrade old shape.transform (positions_in (coding_seen shape)) ≡ result
unfolding may_upgrade
told shape result old may = sym (upgrades-is result old shape may)

-- none may follow
pub may_not : (shape : PassShape) (pass : UpgradePass) (refusal : Refusal) (old : TileState) → MayUpgrade (Err refusal) old shape
    → improved (coding_seen shape) pass old ≡ Err refusal
unfolding improved
may_not shape pass refusal old not =
    and_then_refused (may_upgrade old shape.transform (positions_in (coding_seen shape))) refusal _ (told shape (Err refusal) old not)

module _ (shape : PassShape) (pass : UpgradePass) (before : TileState) (m : MayBeUpgraded before shape) where
  -- what is due of a component
  abbrev raised_on : List ℕ → List ℕ → List ℕ → Part → Result Part Refusal
  raised_on positions srl raw old = upgraded_part (pass_of shape.transform old.positions positions old.sums (bits_of srl) (bits_of raw)) positions old

  abbrev y_due : Result Part Refusal
  y_due = raised_on shape.y pass.y_srl pass.y_raw before.y

  abbrev cb_due : Result Part Refusal
  cb_due = raised_on shape.cb pass.cb_srl pass.cb_raw before.cb

  abbrev cr_due : Result Part Refusal
  cr_due = raised_on shape.cr pass.cr_srl pass.cr_raw before.cr

  -- one may follow
  may : may_upgrade before shape.transform (positions_in (coding_seen shape)) ≡ Ok tt
  may = told shape (Ok tt) before m

  -- the first is refused
  pub y_spoiled : (old new : TileState) (refusal : Refusal) → UpgradesFrom (Err refusal) Y pass.y_srl pass.y_raw shape before old new
      → improved (coding_seen shape) pass before ≡ Err refusal
  unfolding improved
  y_spoiled old new refusal (y, others) =
      and_then_at (may_upgrade before shape.transform (positions_in (coding_seen shape))) tt _ may
      ∙ and_then_refused y_due refusal _ (upgrade_made (Err refusal) _ shape.y before.y before.y y)

  y_raised : (old one : TileState) → UpgradesFrom (Ok tt) Y pass.y_srl pass.y_raw shape before old one → y_due ≡ Ok one.y
  y_raised old one (y, others) = upgrade_made (Ok tt) _ shape.y before.y one.y y

  -- the second is refused
  pub cb_spoiled : (old one new : TileState) (refusal : Refusal) → UpgradesFrom (Ok tt) Y pass.y_srl pass.y_raw shape before old one
      → UpgradesFrom (Err refusal) Cb pass.cb_srl pass.cb_raw shape before one new → improved (coding_seen shape) pass before ≡ Err refusal
  unfolding improved
  cb_spoiled old one new refusal y (cb, others) =
      and_then_at (may_upgrade before shape.transform (positions_in (coding_seen shape))) tt _ may
      ∙ and_then_at y_due one.y _ (y_raised old one y)
      ∙ and_then_refused cb_due refusal _ (upgrade_made (Err refusal) _ shape.cb before.cb before.cb cb)

  cb_raised : (one two : TileState) → UpgradesFrom (Ok tt) Cb pass.cb_srl pass.cb_raw shape before one two → cb_due ≡ Ok two.cb
  cb_raised one two (cb, others) = upgrade_made (Ok tt) _ shape.cb before.cb two.cb cb

  -- all three as one
  all_raised : (new : TileState) (t : Option Transform) (y cb cr : Part) → new.transform ≡ t → new.y ≡ y → new.cb ≡ cb → new.cr ≡ cr
      → record { transform = t; y = y; cb = cb; cr = cr } ≡ new
  all_raised new t y cb cr transform is_y is_cb is_cr = λ i. record { transform = sym transform i; y = sym is_y i; cb = sym is_cb i; cr = sym is_cr i }

  -- all are done, or the last is refused
  pub cr_done : (result : Result (Unit {0}) Refusal) (old one two new : TileState)
      → UpgradesFrom (Ok tt) Y pass.y_srl pass.y_raw shape before old one
      → UpgradesFrom (Ok tt) Cb pass.cb_srl pass.cb_raw shape before one two
      → UpgradesFrom result Cr pass.cr_srl pass.cr_raw shape before two new
      → OnOk result (new.transform ≡ before.transform)
      → Says (λ _. new) result (improved (coding_seen shape) pass before)
  unfolding improved
  cr_done (Ok done) old one two new y cb (cr, others) transform =
      and_then_at (may_upgrade before shape.transform (positions_in (coding_seen shape))) tt _ may
      ∙ and_then_at y_due one.y _ (y_raised old one y)
      ∙ and_then_at cb_due two.cb _ (cb_raised one two cb)
      ∙ and_then_at cr_due new.cr _ (upgrade_made (Ok tt) _ shape.cr before.cr new.cr cr)
      ∙ ap Ok (all_raised new before.transform one.y two.cb new.cr transform (others.0 ∙ cb.1.0) others.1 refl)
  cr_done (Err refusal) old one two new y cb (cr, others) none =
      and_then_at (may_upgrade before shape.transform (positions_in (coding_seen shape))) tt _ may
      ∙ and_then_at y_due one.y _ (y_raised old one y)
      ∙ and_then_at cb_due two.cb _ (cb_raised one two cb)
      ∙ and_then_refused cr_due refusal _ (upgrade_made (Err refusal) _ shape.cr before.cr before.cr cr)
