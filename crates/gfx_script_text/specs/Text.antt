-- The script of a text, and the order of checks: this project's own format.
use Rattle.std.specs.Prelude.{ℕ, ℤ, ◌+◌, nat_le, Bool, List, [], ◌∷◌, length, Option, Some, None, Result, Ok, Err, codes}
use Rattle.std.specs.Option.{ok_or}
use Rattle.std.specs.Str.{is_utf8}
use Rattle.toml.specs.Data.{Data, Members, get_member}
use Rattle.toml.specs.Parse.{parse_document}
use Rattle.gfx_base.specs.Results.{◌>>=◌, check}
use Rattle.gfx_bitmap_cache.specs.Slots.{Entry}
use Rattle.gfx_caps.specs.declared.offer.Offer.{Offer}
use Rattle.gfx_caps.specs.Offers.{small_of, thin_of}
use Rattle.gfx_script.specs.declared.TheConstants.{MOST_STEPS_READ}
use Rattle.gfx_import.specs.Imported.{imported}
use Rattle.gfx_script.specs.declared.error.ScriptKind.{ScriptKind}
use Rattle.gfx_script.specs.declared.error.ScriptKind.TheVariants.{Toml, Key, Range, Unframed}
use Rattle.gfx_script.specs.declared.start.StartBitmap.{StartBitmap}
use Rattle.gfx_script.specs.declared.step.Entropy.{Entropy}
use Rattle.gfx_script.specs.declared.step.Step.{Step}
use Rattle.gfx_script.specs.declared.turn.Turn.{Turn}
use Rattle.gfx_script.specs.Checks.{Held, held_from, sides_of_all, held_after}
use Rattle.gfx_script.specs.Script.{is_framed}
use Rattle.gfx_script.specs.Scripted.{Script}
use Rattle.gfx_script.specs.Starting.{starts_of, stock_with}
use Rattle.gfx_script_text.specs.Clients.{offers_of}
use Rattle.gfx_script_text.specs.Members.{items_in, has_only, items_if_any, table_if_any, whole_if_any}
use Rattle.gfx_script_text.specs.Pictures.{Gallery, pictures_of}
use Rattle.gfx_script_text.specs.declared.progressive.Progressive.{Progressive}
use Rattle.gfx_script_text.specs.Progressive.{progressive_of}
use Rattle.gfx_script_text.specs.Sessions.{window_of, turns_of}
use Rattle.gfx_script_text.specs.Video.{video_of}
use Rattle.gfx_script_text.specs.Words.{step_of}

-- what is wrong, at which step; 0 stands for a fault outside the steps
pub record Wrong : Type 0 where
  pub step : ℕ
  pub kind : ScriptKind

-- a fault as one of the step of this number
abbrev pub at_step : {A : Type 0} → ℕ → Result A ScriptKind → Result A Wrong
at_step number (Ok found) = Ok found
at_step number (Err kind) = Err record { step = number; kind = kind }

-- the table of a text
unfoldable pub document_of : List ℕ → Result Members ScriptKind
document_of text = ok_or (parse_document text) Toml

-- the items of an array, which may be missing
abbrev pub items_or_none : Option Data → Result (List Data) ScriptKind
items_or_none None = Ok []
items_or_none (Some value) = ok_or (items_in value) Key

-- what stands under the keys at the top
pub record Top : Type 0 where
  pub window : Option ℤ
  pub client : Option (List Data)
  pub progressive : Option Members
  pub video : Option Members
  pub picture : List Data
  pub step : List Data
  pub turn : List Data

-- the same of a text's table: the faults of the top table itself come before all others
unfoldable pub top_of : Members → Result Top ScriptKind
top_of top = do
  known ← check Key (has_only (codes "window" ∷ codes "client" ∷ codes "progressive" ∷ codes "video" ∷ codes "picture" ∷ codes "step" ∷ codes "turn" ∷ []) top)
  window ← whole_if_any (get_member (codes "window") top)
  client ← items_if_any (get_member (codes "client") top)
  progressive ← table_if_any (get_member (codes "progressive") top)
  video ← table_if_any (get_member (codes "video") top)
  picture ← items_or_none (get_member (codes "picture") top)
  step ← items_or_none (get_member (codes "step") top)
  turn ← items_or_none (get_member (codes "turn") top)
  Ok record { window = window; client = client; progressive = progressive; video = video; picture = picture; step = step; turn = turn }

-- what stands before the steps
pub record Head : Type 0 where
  pub window : ℕ
  pub offers : List Offer
  pub progressive : Progressive
  pub entropy : Entropy
  pub gallery : Gallery

-- the same of a top: `window`, `client`, `progressive` and `video` come before `picture`, and `step` behind it
unfoldable pub head_of : Top → Result Head ScriptKind
head_of top = do
  window ← window_of top.window
  offers ← offers_of top.client
  progressive ← progressive_of top.progressive
  entropy ← video_of top.video
  gallery ← pictures_of top.picture
  few ← check Range (nat_le (length top.step) MOST_STEPS_READ)
  Ok record { window = window; offers = offers; progressive = progressive; entropy = entropy; gallery = gallery }

-- the step that a value is, and what is held after it
unfoldable pub next_step : List (List ℕ) → Held → Data → Result (Step × Held) ScriptKind
next_step names held value = do
  step ← step_of names value
  after ← held_after held step
  Ok (step, after)

-- the steps that these values are, the first of this number, where this is held before it
unfoldable pub steps_of : List (List ℕ) → ℕ → Held → List Data → Result (List Step) Wrong
steps_of names number held [] = Ok []
steps_of names number held (value ∷ values) = do
  next ← at_step number (next_step names held value)
  steps ← steps_of names (number + 1) next.1 values
  Ok (next.0 ∷ steps)

-- the bitmaps that a script starts with, where they are these by whether the small limits bind them
abbrev pub start_by : (Bool → List StartBitmap) → Head → List StartBitmap
start_by starts head = starts (small_of head.offers)

-- what is held before the first step, with these bitmaps
abbrev pub held_before : List StartBitmap → Head → Held
held_before start head = held_from (sides_of_all head.gallery.pictures) (stock_with start (small_of head.offers))

-- the script of these parts
abbrev pub script_with : Head → List StartBitmap → List Step → List Turn → Script
script_with head start steps turns = record {
  window = head.window;
  offers = head.offers;
  setting = head.progressive.setting;
  differences = head.progressive.differences;
  pictures = head.gallery.pictures;
  small = small_of head.offers;
  thin = thin_of head.offers;
  entropy = head.entropy;
  start = start;
  steps = steps;
  turns = turns;
}

-- the script of a text, or what is wrong first
unfoldable pub script_in : (Bool → List StartBitmap) → List ℕ → Result Script Wrong
script_in starts text = do
  table ← at_step 0 (document_of text)
  top ← at_step 0 (top_of table)
  head ← at_step 0 (head_of top)
  steps ← steps_of head.gallery.names 1 (held_before (start_by starts head) head) top.step
  framed ← at_step 0 (check Unframed (is_framed steps))
  turns ← at_step 0 (turns_of top.turn)
  Ok (script_with head (start_by starts head) steps turns)

-- the script of bytes, which are a text in UTF-8
unfoldable pub script_from : (Bool → List StartBitmap) → List ℕ → Result Script Wrong
script_from starts bytes = do
  utf8 ← at_step 0 (check Toml (is_utf8 bytes))
  script_in starts bytes

-- the same with no bitmap before the first step
unfoldable pub script_of : List ℕ → Result Script Wrong
script_of bytes = script_from (λ small. []) bytes

-- the same with the bitmaps that are imported of two kept files ([MS-RDPEGFX] 3.2.5.13)
unfoldable pub script_kept : List Entry → List Entry → List ℕ → Result Script Wrong
script_kept server client bytes = script_from (λ small. starts_of (imported server client small)) bytes
