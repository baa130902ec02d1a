-- What reading says of the parts of a script: this project's own rule.
use Rattle.std.specs.Prelude.{◌≡◌, ℕ, map, Result, Ok, Err}
use Rattle.std.specs.Option.{option_map}
use Rattle.toml.specs.View.{table_view, view}
use Rattle.gfx_script_text.specs.declared.error.ScriptError.{ScriptError}
use Rattle.gfx_script_text.specs.declared.error.ScriptError.TheVariants as errors
use Rattle.gfx_script.specs.declared.error.ScriptKind.{ScriptKind}
use Rattle.gfx_base.specs.declared.answer.Cause.{Cause}
use Rattle.gfx_base.specs.declared.answer.Cause.TheVariants.{Refused, Memory}
use Rattle.gfx_script_text.specs.declared.pictures.Gallery as read_pictures
use Rattle.gfx_script_text.specs.declared.reading.Top as read_top
use Rattle.gfx_script_text.specs.declared.reading.Head as read_head
use Rattle.gfx_script_text.specs.Pictures.{Gallery}
use Rattle.gfx_script_text.specs.Text.{Wrong}
use Rattle.gfx_script_text.specs.Text as text

-- a flaw as an error at the step of this number
abbrev pub error_at : ℕ → Cause ScriptKind → ScriptError
error_at number Memory = errors.Memory
error_at number (Refused kind) = errors.Fault number kind

-- what reading a script or its steps answers, seen by view. Want of memory is the one free answer
abbrev pub Reads : {X Y : Type 0} → (X → Y) → Result X ScriptError → Result Y Wrong → Type 0
Reads view (Ok x) due = due ≡ Ok (view x)
Reads view (Err errors.Memory) due = Unit {0}
Reads view (Err (errors.Fault step kind)) due = due ≡ Err record { step = step; kind = kind }

-- pictures with their names, as contracts see them
abbrev pub gallery_seen : read_pictures.Gallery → Gallery
gallery_seen gallery = record { names = gallery.names; pictures = gallery.pictures.items }

-- what stands under the keys at the top, as contracts see it
abbrev pub top_seen : read_top.Top → text.Top
top_seen top = record {
  window = top.window;
  client = option_map (λ items. map view items.now) top.client;
  progressive = option_map (λ table. table_view table.now) top.progressive;
  video = option_map (λ table. table_view table.now) top.video;
  picture = map view top.picture.now;
  step = map view top.step.now;
  turn = map view top.turn.now;
}

-- what stands before the steps, as contracts see it
abbrev pub head_seen : read_head.Head → text.Head
head_seen head = record {
  window = head.window;
  offers = head.offers;
  progressive = head.progressive;
  entropy = head.entropy;
  gallery = gallery_seen head.gallery;
}
