-- Agreement, one entry after another.
use Rattle.std.proofs.Common.{◌≡◌, ◌∙◌, ap, sym, true, false, ◌&&◌, List, [], ◌∷◌}
use Rattle.gfx_bitmap_cache.specs.Slots.{Entry}
use Rattle.gfx_import.specs.Entries.{image_at}
use Rattle.gfx_import.specs.Agreed.{agrees, agree, have_sides_of, same_sides}

module _ (server client rest after : List Entry) (one : Entry) (is : rest ≡ one ∷ after) (so : agree server rest ≡ agree server client) where
  -- the first of the rest agrees
  pub agree_more : agrees one.image (image_at server one.key) ≡ true → agree server after ≡ agree server client
  agree_more e = sym (ap (λ b. b && agree server after) e) ∙ sym (ap (agree server) is) ∙ so

  -- or it doesn't
  pub agree_stop : agrees one.image (image_at server one.key) ≡ false → false ≡ agree server client
  agree_stop e = sym (ap (λ b. b && agree server after) e) ∙ sym (ap (agree server) is) ∙ so

-- sides, one entry after another
module _ (all others rest after behind past : List Entry) (one other : Entry) (is : rest ≡ one ∷ after) (so : have_sides_of rest behind ≡ have_sides_of all others) where
  -- the first of the rest has the sides of the first behind
  pub sides_more : behind ≡ other ∷ past → same_sides one.image other.image ≡ true → have_sides_of after past ≡ have_sides_of all others
  sides_more there e = sym (ap (λ b. b && have_sides_of after past) e) ∙ sym (λ i. have_sides_of (is i) (there i)) ∙ so

  -- or it hasn't
  pub sides_stop : behind ≡ other ∷ past → same_sides one.image other.image ≡ false → false ≡ have_sides_of all others
  sides_stop there e = sym (ap (λ b. b && have_sides_of after past) e) ∙ sym (λ i. have_sides_of (is i) (there i)) ∙ so

  -- or there is none behind
  pub sides_none : behind ≡ [] → false ≡ have_sides_of all others
  sides_none none = sym (λ i. have_sides_of (is i) (none i)) ∙ so
