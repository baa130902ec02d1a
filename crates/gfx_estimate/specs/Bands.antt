-- What a picture by bands costs a client that holds no column, nearly: this project's own rule, over the bands that a
-- server writes ([MS-RDPEGFX] 2.2.4.1.1.2).
use Rattle.std.specs.Prelude.{ℕ, ◌+◌, ◌*◌, ◌/◌, ◌%◌, ◌^◌, ◌==◌, length, replicate, slice_index, slice_set, if◌then◌else◌}
use Rattle.std.specs.List.{fold}
use Rattle.gfx_base.specs.Colour.{hash_of}
use Rattle.gfx_chooser.specs.Facts.{colours_in}
use Rattle.gfx_clear_bands.specs.Writing.{Element, elements, short_of}
use Rattle.gfx_clear_bands.specs.Writing.Element.{Head, Column}
use Rattle.gfx_script.specs.declared.picture.Picture.{Picture}
use Rattle.gfx_estimate.specs.declared.columns.Columns.{Columns}
use Rattle.gfx_estimate.specs.declared.columns.TheConstants.{WORD, PIXEL, PLACES}
use Rattle.gfx_estimate.specs.declared.sizes.TheConstants.{HEAD}

-- where the hash of a column leads, and the mark that it leaves there
abbrev pub place_of : ℕ → ℕ
place_of hash = hash / 2 ^ 49

abbrev pub mark_of : ℕ → ℕ
mark_of hash = hash / 2 ^ 33 % 2 ^ 16

-- a column of this hash costs its word; and so many pixels, where the last one that led to its place left another mark
abbrev pub with_hash : ℕ → ℕ → Columns → Columns
with_hash hash pixels old =
    if slice_index old.marks (place_of hash) == mark_of hash then record old { bytes = old.bytes + WORD }
    else record { marks = slice_set old.marks (place_of hash) (mark_of hash); bytes = old.bytes + (WORD + PIXEL * pixels) }

-- the head of a band costs its bytes, a column as its hash and its short say
unfoldable pub with_element : Columns → Element → Columns
with_element old (Head bytes) = record old { bytes = old.bytes + length bytes }
with_element old (Column background pixels) = with_hash (hash_of pixels) (length (short_of background pixels)) old

-- no column was met
unfoldable pub no_columns : Columns
no_columns = record { marks = replicate PLACES 0; bytes = 0 }

-- a picture: the head of its stream, and its bands
unfoldable pub bands_size : Picture → ℕ
bands_size picture = HEAD + (fold with_element no_columns (elements picture.width picture.height (colours_in picture))).bytes
