-- The message that bytes of a client are ([MS-RDPEGFX] 2.2.1.5 and 2.2.2), and which fault is the first.
use Rattle.std.specs.Prelude.{ℕ, ◌-◌, ◌==◌, List, length, take, drop, Result, Ok}
use Rattle.gfx_base.specs.Results.{◌>>=◌, check}
use Rattle.gfx_base.specs.declared.refusal.Refusal.{Refusal}
use Rattle.gfx_base.specs.declared.refusal.Refusal.TheVariants.{CountMismatch}
use Rattle.gfx_layout.specs.Header.{size_of, kind_by, refused}
use Rattle.gfx_layout.specs.Reading.{read_whole}
use Rattle.gfx_caps.specs.declared.client_id.ClientId.{ClientId}
use Rattle.gfx_caps.specs.declared.message.ClientPdu.{ClientPdu}
use Rattle.gfx_caps.specs.ClientId.{id_of_number}
use Rattle.gfx_caps.specs.Layouts.{layout_of}

-- which message of the client a header announces
abbrev pub kind_of : List ℕ → Result ClientId Refusal
kind_of bytes = kind_by id_of_number bytes

-- the message of this id with this body; a body that doesn't end with its fields is CountMismatch
unfoldable pub body_of : ClientId → List ℕ → Result ClientPdu Refusal
body_of id body = refused (read_whole (layout_of id) body)

-- the message at the front of bytes, and how many bytes it has
unfoldable pub front : List ℕ → Result (ClientPdu × ℕ) Refusal
front bytes = do
  size ← size_of bytes
  kind ← kind_of bytes
  pdu ← body_of kind (take (size - 8) (drop 8 bytes))
  Ok (pdu, size)

-- the message that these bytes are; whether they end with it is judged last (this project's own rule)
unfoldable pub client_of : List ℕ → Result ClientPdu Refusal
client_of bytes = do
  found ← front bytes
  alone ← check CountMismatch (found.1 == length bytes)
  Ok found.0
