-- The message at the front of bytes ([MS-RDPEGFX] 2.2.1.5 and 2.2.2), and which fault is the first.
use Rattle.std.specs.Prelude.{ℕ, ◌+◌, ◌-◌, List, length, take, drop, ◌==◌, if◌then◌else◌, Option, Some, None, Result, Ok}
use Rattle.std.specs.Option.{option_map}
use Rattle.gfx_base.specs.Results.{◌>>=◌}
use Rattle.gfx_base.specs.declared.refusal.Refusal.{Refusal}
use Rattle.gfx_layout.specs.Header.{size_of, kind_by, refused}
use Rattle.gfx_layout.specs.Reading.{read_whole}
use Rattle.gfx_pdu.specs.declared.id.Id.{Id}
use Rattle.gfx_pdu.specs.declared.pdu.Pdu.{Pdu}
use Rattle.gfx_pdu.specs.Id.{id_of_number}
use Rattle.gfx_pdu.specs.Layouts.{layout_of}

-- the message of this id with this body
unfoldable pub body_of : Id → List ℕ → Result Pdu Refusal
body_of id body = refused (read_whole (layout_of id) body)

-- which message of the server a header announces
abbrev pub kind_of : List ℕ → Result Id Refusal
kind_of bytes = kind_by id_of_number bytes

-- the message at the front of bytes, of which there are some
unfoldable pub front : List ℕ → Result (Pdu × ℕ) Refusal
front bytes = do
  size ← size_of bytes
  kind ← kind_of bytes
  pdu ← body_of kind (take (size - 8) (drop 8 bytes))
  Ok (pdu, size)

-- the message at the front of these bytes and how many bytes it has; nothing where there are no bytes
unfoldable pub message_at : List ℕ → Result (Option (Pdu × ℕ)) Refusal
message_at bytes =
    if length bytes == 0 then Ok None
    else do
      found ← front bytes
      Ok (Some found)

-- a message's length as the place after it
abbrev pub placed : ℕ → Pdu × ℕ → Pdu × ℕ
placed at found = (found.0, at + found.1)

-- the message at a place of a payload, and the place after it
unfoldable pub next_pdu : List ℕ → ℕ → Result (Option (Pdu × ℕ)) Refusal
next_pdu payload at = do
  found ← message_at (drop at payload)
  Ok (option_map (placed at) found)
