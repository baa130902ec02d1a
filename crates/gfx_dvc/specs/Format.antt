-- A fragment of a channel message: its header, field by field, and data ([MS-RDPEDYC] 2.2.3.1, DYNVC_DATA_FIRST, and
-- 2.2.3.2, DYNVC_DATA). Which fault is the first is this project's own rule.
use Rattle.std.specs.Prelude.{ℕ, ◌/◌, ◌%◌, ◌==◌, Bool, not, ◌&&◌, ◌||◌, List, Some, None, Result, Ok, Err}
use Rattle.gfx_base.specs.declared.refusal.Refusal.{Refusal}
use Rattle.gfx_base.specs.declared.refusal.Refusal.TheVariants.{BulkCompressed, FragmentLength, FragmentKind}
use Rattle.gfx_layout.specs.declared.stop.Stop.{Stop}
use Rattle.gfx_layout.specs.declared.stop.Stop.TheVariants.{Short, Long, Rule}
use Rattle.gfx_layout.specs.Shape.{u8, u16, u32}
use Rattle.gfx_layout.specs.Layout.{Layout, done, number, choose, must}
use Rattle.gfx_layout.specs.Reading.{read}
use Rattle.gfx_dvc.specs.declared.fragment.Fragment.{Fragment}
use Rattle.gfx_dvc.specs.declared.header.Header.{Header}
use Rattle.gfx_dvc.specs.declared.profile.TheConstants.{KIND_AT, DATA_FIRST, DATA, DATA_FIRST_COMPRESSED, DATA_COMPRESSED, WIDTHS, TOTAL_WIDTH_AT, ONE_BYTE, TWO_BYTES, NO_WIDTH}

-- what the first byte says: the kind (Cmd), the width of the total (Len), and that of the channel's id (cbId)
abbrev pub kind : ℕ → ℕ
kind first = first / KIND_AT

abbrev pub total_width : ℕ → ℕ
total_width first = first / TOTAL_WIDTH_AT % WIDTHS

abbrev pub channel_width : ℕ → ℕ
channel_width first = first % WIDTHS

-- a fragment opens a message, or is compressed
abbrev pub opens : ℕ → Bool
opens first = kind first == DATA_FIRST

abbrev pub is_compressed : ℕ → Bool
is_compressed first = kind first == DATA_FIRST_COMPRESSED || kind first == DATA_COMPRESSED

-- it is a DATA_FIRST or a DATA, and each number in its header has a width; a DATA has no total
abbrev pub is_known : ℕ → Bool
is_known first = (opens first && not (total_width first == NO_WIDTH) || kind first == DATA) && not (channel_width first == NO_WIDTH)

-- a number of this width, by its value
abbrev pub number_of : ℕ → Layout ℕ
number_of width =
    choose (width == ONE_BYTE) (number u8 λ n. done n) (choose (width == TWO_BYTES) (number u16 λ n. done n) (number u32 λ n. done n))

-- such a number, and more behind it
abbrev pub wide : {R : Type 0} → ℕ → (ℕ → Layout R) → Layout R
wide width rest = choose (width == ONE_BYTE) (number u8 rest) (choose (width == TWO_BYTES) (number u16 rest) (number u32 rest))

-- the header
abbrev pub header : Layout Header
header =
    number u8 λ first. must (not (is_compressed first)) BulkCompressed (must (is_known first) FragmentKind (
    wide (channel_width first) λ channel.
    choose (opens first)
    (wide (total_width first) λ total. done (record { channel = channel; total = Some total }))
    (done (record { channel = channel; total = None }))))

-- why a fragment is refused by itself: one that ends inside its header is FragmentLength
abbrev pub refusal_of : Stop → Refusal
refusal_of Short = FragmentLength
refusal_of Long = FragmentLength
refusal_of (Rule refusal) = refusal

-- a header and the data behind it
abbrev pub fragment_of : Result (Header × List ℕ) Stop → Result Fragment Refusal
fragment_of (Ok found) = Ok (record { header = found.0; piece = found.1 })
fragment_of (Err stop) = Err (refusal_of stop)

-- what a fragment says by itself, or why it is refused
unfoldable pub read_fragment : List ℕ → Result Fragment Refusal
read_fragment bytes = fragment_of (read header bytes)
