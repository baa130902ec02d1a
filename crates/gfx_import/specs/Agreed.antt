-- Whether what two files have under one key is one bitmap: this project's own rule. Of a key whose bitmaps have not as
-- many bytes nothing is imported, so it doesn't count.
use Rattle.std.specs.Prelude.{nat_eq, ◌==◌, Bool, true, false, ◌&&◌, ◌||◌, not, List, [], ◌∷◌, Option, Some, None}
use Rattle.std.specs.List.{list_all}
use Rattle.std.specs.Cmp.Lexicographic.{pointwise}
use Rattle.gfx_base.specs.declared.pixel.Pixel.{Pixel}
use Rattle.gfx_bitmap_cache.specs.Slots.{Image, Entry, bytes_for}
use Rattle.gfx_import.specs.Entries.{image_at}
use Rattle.gfx_import.specs.Imported.{imported}

abbrev pub same_pixel : Pixel → Pixel → Bool
same_pixel p q = nat_eq p.b q.b && (nat_eq p.g q.g && (nat_eq p.r q.r && nat_eq p.a q.a))

-- they have the same sides and the same pixels
abbrev pub same_image : Image → Image → Bool
same_image one other =
    nat_eq one.width other.width && (nat_eq one.height other.height && pointwise same_pixel one.pixels other.pixels)

abbrev pub same_length : Image → Image → Bool
same_length one other = bytes_for one.width one.height == bytes_for other.width other.height

-- an image, and what the other end has under its key
abbrev pub agrees : Image → Option Image → Bool
agrees image None = true
agrees image (Some other) = not (same_length image other) || same_image image other

-- all that the client keeps agrees with what the server keeps
abbrev pub agree : List Entry → List Entry → Bool
agree server client = list_all (λ (one : Entry). agrees one.image (image_at server one.key)) client

-- two images have the same sides, whatever they show
abbrev pub same_sides : Image → Image → Bool
same_sides one other = nat_eq one.width other.width && nat_eq one.height other.height

-- entries have the sides of the first of others, place by place
abbrev pub have_sides_of : List Entry → List Entry → Bool
have_sides_of [] others = true
have_sides_of (one ∷ entries) [] = false
have_sides_of (one ∷ entries) (other ∷ others) = same_sides one.image other.image && have_sides_of entries others

-- each bitmap that is imported has the same sides at both ends
abbrev pub have_same_sides : List Entry → List Entry → Bool → Bool
have_same_sides server client small = have_sides_of (imported server client small) client
