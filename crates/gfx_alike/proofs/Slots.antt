-- The cache, where its bitmaps differ in pixels alone: no check of a change reads a pixel, and each change leaves them so.
use Rattle.std.proofs.Common.{◌≡◌, ℕ, nat_le, true, List, refl, sym, ap, ◌∙◌}
use Rattle.std.specs.Cmp.{nat_cmp_total}
use Rattle.std.specs.FinMap.{insert, get, nat_cmp-IsAntisymmetric}
use Rattle.std.specs.Ordering.{nat_cmp}
use Rattle.std.specs.FinMap.{FinMap}
use Rattle.gfx_base.specs.declared.pixel.Pixel.{Pixel}
use Rattle.gfx_base.specs.declared.refusal.Refusal.TheVariants.{SlotRange, SlotEmpty, CacheBudget}
use Rattle.gfx_base.specs.Results.{check}
use Rattle.gfx_bitmap_cache.specs.Slots.{Image, Entry, Cached, takes_slot, bytes_of, total, budget, stored, evicted}
use Rattle.gfx_bitmap_cache.specs.Slots.{shown as image_at}
use Rattle.gfx_state.specs.Alike.{entry_outline}
use Rattle.gfx_state.proofs.Following.{Follows, gives, after, both, checks}
use Rattle.gfx_state.proofs.Wider.{slot_wider, budget_wider}
use Rattle.gfx_alike.proofs.Maps.{SameOutlines, found, same-get, same-sum, same-insert, same-remove}

-- two cached bitmaps that differ in pixels alone
abbrev pub SameEntry : Entry → Entry → Type 0
SameEntry a b = entry_outline a ≡ entry_outline b

-- an image with other pixels
abbrev pub recoloured : Image → List Pixel → Image
recoloured image pixels = record image { pixels = pixels }

second_image : (a b : Entry) → SameEntry a b → recoloured a.image b.image.pixels ≡ b.image
second_image a b same = λ i. record { width = (same i).image.width; height = (same i).image.height; pixels = b.image.pixels }

-- two lots of slots whose bitmaps differ in pixels alone
abbrev pub SameSlots : FinMap nat_cmp Entry → FinMap nat_cmp Entry → Type 0
SameSlots m n = SameOutlines entry_outline m n

pub same_stored : (m n : FinMap nat_cmp Entry) (slot : ℕ) (a b : Entry) → SameEntry a b → SameSlots m n → SameSlots (insert m slot a) (insert n slot b)
same_stored m n slot a b entries same = same-insert entry_outline nat_cmp_total m n slot a b entries same

-- two caches that differ in the pixels of their bitmaps, and in the word small, which the second has only where the first
-- has it
pub record CacheAlike (c d : Cached) : Type 0 where
  pub slots : SameSlots c.slots d.slots
  pub only_small : d.small ≡ true → c.small ≡ true

same_total : (a b : FinMap nat_cmp Entry) → SameSlots a b → total a ≡ total b
same_total a b same = same-sum entry_outline bytes_of (λ held. refl) a b same

-- a slot that a store takes
pub takes_alike : (c d : Cached) (slot : ℕ) → CacheAlike c d → Follows (λ x y. Unit {0}) (check SlotRange (takes_slot c.small slot)) (check SlotRange (takes_slot d.small slot))
takes_alike c d slot same = checks SlotRange _ _ (slot_wider c.small d.small slot same.only_small)

within_budget : (c d : Cached) (slots others : FinMap nat_cmp Entry) → (d.small ≡ true → c.small ≡ true) → SameSlots slots others
    → Follows (λ x y. Unit {0}) (check CacheBudget (nat_le (total slots) (budget c.small))) (check CacheBudget (nat_le (total others) (budget d.small)))
within_budget c d slots others only same =
    checks CacheBudget _ _ (λ e. ap (λ n. nat_le n (budget d.small)) (sym (same_total slots others same)) ∙ budget_wider c.small d.small (total slots) only e)

pub stored_alike : (c d : Cached) (slot : ℕ) (a b : Entry) → SameEntry a b → CacheAlike c d → Follows CacheAlike (stored c slot a) (stored d slot b)
unfolding stored
stored_alike c d slot a b entries same =
    let slots : SameSlots (insert c.slots slot a) (insert d.slots slot b) = same_stored c.slots d.slots slot a b entries same.slots in
    both (λ x y. Unit {0}) CacheAlike _ _ _ _ (takes_alike c d slot same) (λ x y r.
    both (λ x y. Unit {0}) CacheAlike _ _ _ _ (within_budget c d _ _ same.only_small slots) (λ x y r.
    gives CacheAlike _ _ (record { slots = slots; only_small = same.only_small })))

pub evicted_alike : (c d : Cached) (slot : ℕ) → CacheAlike c d → Follows CacheAlike (evicted c slot) (evicted d slot)
unfolding evicted
evicted_alike c d slot same =
    after CacheAlike _ _ _ (λ there. gives CacheAlike _ _ (record {
      slots = same-remove entry_outline nat_cmp_total nat_cmp-IsAntisymmetric c.slots d.slots slot same.slots;
      only_small = same.only_small;
    }))

-- an image of the same sides
abbrev pub IsRecoloured : Image → Image → Type 0
IsRecoloured a b = recoloured a b.pixels ≡ b

pub image_alike : (c d : Cached) (slot : ℕ) → CacheAlike c d → Follows IsRecoloured (image_at c slot) (image_at d slot)
unfolding image_at
image_alike c d slot same =
    after IsRecoloured _ _ _ (λ there.
    both SameEntry IsRecoloured _ _ _ _ (found entry_outline (get c.slots slot) (get d.slots slot) SlotEmpty (same-get entry_outline c.slots d.slots slot same.slots)) (λ a b r.
    gives IsRecoloured _ _ (second_image a b r)))
