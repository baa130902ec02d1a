-- Where memory may be wanting.
use Rattle.std.proofs.Common.{◌≡◌, ◌⊎◌, inl, inr, ℕ, ◌*◌, Bool, true, ◌&&◌, is_ok, List, length, Result, Ok, Err, sym, ap, ◌∙◌, eq-eqb}
use Rattle.gfx_base.specs.Outcome.{WantsOnlyIf}
use Rattle.gfx_base.specs.declared.answer.Cause.{Cause}
use Rattle.gfx_base.specs.declared.answer.Cause.TheVariants.{Refused, Memory}
use Rattle.gfx_glyph.specs.Glyphs.{Slot, shown}
use Rattle.gfx_clear.specs.declared.head.GlyphUse.{GlyphUse}
use Rattle.gfx_clear.specs.declared.head.GlyphUse.TheVariants.{Unused, Stores, Shows}
use Rattle.gfx_clear.specs.declared.head.Head.{Head}
use Rattle.gfx_clear.specs.Begun.{is_begun_as, is_begun_behind, is_begun}
use Rattle.gfx_clear.specs.Heads.{head}
use Rattle.gfx_clear.specs.Parts.{parts}
use Rattle.gfx_clear.specs.State.{ClearState}

-- anything is answered where it may be
pub wants_where : {X R : Type 0} (result : Result X (Cause R)) (may : Bool) → may ≡ true → WantsOnlyIf result may
wants_where (Ok x) may e = tt
wants_where (Err Memory) may e = e
wants_where (Err (Refused r)) may e = tt

pub is_accepted : {A E : Type 0} (due : Result A E) (a : A) → due ≡ Ok a → is_ok due ≡ true
is_accepted due a e = ap is_ok e

-- a glyph that can be shown
pub glyph_begun : (index wide high width height : ℕ) (glyphs : List Slot) (bytes : List ℕ) (pixels : _) → wide ≡ width → high ≡ height → length bytes ≡ 0
    → shown index wide high glyphs ≡ Ok pixels → is_begun_as (Shows index) width height glyphs bytes ≡ true
glyph_begun index wide high width height glyphs bytes pixels across down none e =
    λ i. eq-eqb (length bytes) 0 none i && is_accepted (shown index width height glyphs) pixels ((λ k. shown index (sym across k) (sym down k) glyphs) ∙ e) i

-- the parts of a stream with another use of glyphs
pub parts_begun : (glyph : GlyphUse) (width height : ℕ) (glyphs : List Slot) (bytes : List ℕ) → ((index : ℕ) × (glyph ≡ Stores index)) ⊎ (glyph ≡ Unused)
    → is_ok (parts bytes) ≡ is_begun_as glyph width height glyphs bytes
parts_begun glyph width height glyphs bytes (inl stores) = ap (λ z. is_begun_as z width height glyphs bytes) (sym stores.1)
parts_begun glyph width height glyphs bytes (inr unused) = ap (λ z. is_begun_as z width height glyphs bytes) (sym unused)

-- behind the head that was read
pub head_begun : (old : ClearState) (area width height : ℕ) (bytes rest : List ℕ) (start : Head) → area ≡ width * height → head old.expected area bytes ≡ Ok (start, rest)
    → is_begun_as start.glyph width height old.glyphs rest ≡ is_begun old width height bytes
head_begun old area width height bytes rest start same e =
    ap (λ z. is_begun_behind z width height old.glyphs) (sym (ap (λ z. head old.expected z bytes) (sym same) ∙ e))
