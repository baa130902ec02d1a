-- Channel messages, and how a payload is cut into blocks ([MS-RDPEGFX] 2.2.5, RDP_SEGMENTED_DATA and
-- RDP8_BULK_ENCODED_DATA). The length before a message and its limit are this project's own.
use Rattle.std.specs.Prelude.{◌≡◌, ℕ, zero, suc, ◌+◌, ◌/◌, ◌%◌, Bool, true, false, not, ◌&&◌, ◌||◌, ◌==◌, nat_lt, nat_le, if◌then◌else◌, List, [], ◌∷◌, ◌++◌, length, take, drop, Option, Some, None, is_some, is_none, Result, Ok, Err}
use Rattle.std.specs.Int.{w16, w32, to_le_bytes, div_ceil}
use Rattle.std.specs.Option.{ok_or}
use Rattle.gfx_base.specs.Field.{field}
use Rattle.gfx_base.specs.Results.{and_then, ◌>>=◌, check}
use Rattle.gfx_base.specs.declared.refusal.Refusal.{Refusal}
use Rattle.gfx_base.specs.declared.refusal.Refusal.TheVariants.{ChannelTruncated, ChannelLength, Descriptor, SegmentSize, BulkCompressed}
use Rattle.gfx_base.specs.declared.answer.Cause.{Cause}
use Rattle.gfx_base.specs.declared.answer.Cause.TheVariants.{Refused, Memory}
use Rattle.gfx_base.specs.declared.TheConstants.{MOST_MESSAGE}
use Rattle.gfx_segment.specs.declared.profile.TheConstants.{PREFIX, SINGLE, MULTIPART, SIZE_AT, SEGMENTS_AT, TYPES, RDP8, COMPRESSED, MOST_BLOCK}

-- what bytes begin with: a whole message and the bytes after it, too few bytes yet, or a length that
-- no message has
pub data Front : Type 0 where
  Whole : List ℕ → List ℕ → Front
  Short : Front
  Bad : Front

-- a length, once it is there, and the bytes behind it
unfoldable pub front_of : ℕ → Option ℕ → List ℕ → Front
front_of limit None bytes = Short
front_of limit (Some size) bytes =
    if size == 0 || nat_lt limit size then Bad
    else (if nat_le size (length bytes) then Whole (take size bytes) (drop size bytes) else Short)

-- the next channel message, behind its length
unfoldable pub front : List ℕ → Front
front bytes = front_of MOST_MESSAGE (field w32 bytes 0) (drop PREFIX bytes)

-- the content of a block behind its header (RDP8_BULK_ENCODED_DATA), or the first fault
unfoldable pub block_data : List ℕ → Result (List ℕ) Refusal
block_data [] = Err SegmentSize
block_data (header ∷ rest) =
    if not (header % TYPES == RDP8) then Err Descriptor
    else (if header / COMPRESSED % 2 == 1 then Err BulkCompressed
    else (if nat_lt MOST_BLOCK (length rest) then Err SegmentSize else Ok rest))

-- so many bytes, and those behind them
unfoldable pub cut_of : Option ℕ → List ℕ → Result (List ℕ × List ℕ) Refusal
cut_of None bytes = Err SegmentSize
cut_of (Some size) bytes = if nat_le size (length bytes) then Ok (take size bytes, drop size bytes) else Err SegmentSize

-- the next block, behind its size (RDP_DATA_SEGMENT), and the bytes behind it
unfoldable pub next_block : List ℕ → Result (List ℕ × List ℕ) Refusal
next_block bytes = cut_of (field w32 bytes 0) (drop PREFIX bytes)

-- the content of so many blocks, one after the other, and the bytes behind them
unfoldable pub blocks : ℕ → List ℕ → Result (List ℕ × List ℕ) Refusal
blocks zero bytes = Ok ([], bytes)
blocks (suc count) bytes = do
  cut ← next_block bytes
  first ← block_data cut.0
  others ← blocks count cut.1
  Ok (first ++ others.0, others.1)

-- a multipart message behind its descriptor: how many blocks, how much content, the blocks, and no more
unfoldable pub segments : List ℕ → Result (List ℕ) Refusal
segments bytes = do
  count ← ok_or (field w16 bytes 0) SegmentSize
  size ← ok_or (field w32 bytes SIZE_AT) SegmentSize
  found ← blocks count (drop SEGMENTS_AT bytes)
  agreed ← check SegmentSize (length found.1 == 0 && length found.0 == size)
  Ok found.0

-- the payload of a channel message, or the first fault
unfoldable pub payload : List ℕ → Result (List ℕ) Refusal
payload [] = Err Descriptor
payload (descriptor ∷ rest) =
    if descriptor == SINGLE then block_data rest
    else (if descriptor == MULTIPART then segments rest else Err Descriptor)

-- what the writer makes ------------------------------------------------------------------------

-- content as a block behind its size
unfoldable pub sized_block : List ℕ → List ℕ
sized_block content = to_le_bytes w32 (length content + 1) ++ (RDP8 ∷ content)

-- so many blocks of so much content each, the last with what is left
unfoldable pub sized_blocks : ℕ → ℕ → List ℕ → List ℕ
sized_blocks most zero content = []
sized_blocks most (suc count) content = sized_block (take most content) ++ sized_blocks most count (drop most content)

-- the channel message of a payload: one block where it fits, else as few as can be
unfoldable pub message_of : ℕ → List ℕ → List ℕ
message_of most content =
    if nat_le (length content) most then SINGLE ∷ RDP8 ∷ content
    else (let count = div_ceil (length content) most in
    MULTIPART ∷ (to_le_bytes w16 count ++ (to_le_bytes w32 (length content) ++ sized_blocks most count content)))

-- a message behind its length
unfoldable pub prefixed : List ℕ → List ℕ
prefixed message = to_le_bytes w32 (length message) ++ message

-- the writer's form of a payload
unfoldable pub wrapped : List ℕ → List ℕ
wrapped content = prefixed (message_of MOST_BLOCK content)

-- whatever follows, a payload's writer's form is one whole message, and its payload is that one
pub record ReadBack (content more : List ℕ) : Type 0 where
  pub message : List ℕ
  pub whole : front (wrapped content ++ more) ≡ Whole message more
  pub same : payload message ≡ Ok content

-- what a splitter holds --------------------------------------------------------------------------

-- the bytes fed and not yet used, and the refusal that it keeps
pub record Splitter : Type 0 where
  pub rest : List ℕ
  pub refusal : Option Refusal

abbrev pub holding : List ℕ → Splitter
holding bytes = record { rest = bytes; refusal = None }

abbrev pub refused : Refusal → Splitter
refused r = record { rest = []; refusal = Some r }

-- more bytes are fed; none are kept behind a refusal
abbrev pub fed : Splitter → List ℕ → Splitter
fed held piece = if is_some held.refusal then held else holding (held.rest ++ piece)

-- what the bytes at the front answer, their message read by read
unfoldable pub answer_of : (List ℕ → Result (List ℕ) Refusal) → Front → Result (Option (List ℕ)) Refusal
answer_of read (Whole message after) = and_then (read message) (λ p. Ok (Some p))
answer_of read Short = Ok None
answer_of read Bad = Err ChannelLength

-- what is held behind that answer
unfoldable pub behind : Result (Option (List ℕ)) Refusal → Front → List ℕ → Splitter
behind (Err r) found bytes = refused r
behind (Ok given) (Whole message after) bytes = holding after
behind (Ok given) Short bytes = holding bytes
behind (Ok given) Bad bytes = holding bytes

-- the next answer: the refusal that is kept, else that of the front
unfoldable pub next_of : (List ℕ → Result (List ℕ) Refusal) → Option Refusal → List ℕ → Result (Option (List ℕ)) Refusal
next_of read (Some r) bytes = Err r
next_of read None bytes = answer_of read (front bytes)

abbrev pub next : (List ℕ → Result (List ℕ) Refusal) → Splitter → Result (Option (List ℕ)) Refusal
next read held = next_of read held.refusal held.rest

-- what is held after it: all as it was where a refusal is kept
abbrev pub after_next : (List ℕ → Result (List ℕ) Refusal) → Splitter → Splitter
after_next read held = if is_some held.refusal then held else behind (next read held) (front held.rest) held.rest

abbrev pub is_short : Front → Bool
is_short (Whole message after) = false
is_short Short = true
is_short Bad = false

-- a message begins with a known descriptor
unfoldable pub is_described : List ℕ → Bool
is_described [] = false
is_described (descriptor ∷ rest) = (descriptor == SINGLE) || (descriptor == MULTIPART)

-- these bytes begin with such a message
unfoldable pub begins_described : Front → Bool
begins_described (Whole message after) = is_described message
begins_described Short = false
begins_described Bad = false

-- there may be a payload to take: no refusal is kept, and the bytes begin with such a message
unfoldable pub may_give : Splitter → Bool
may_give held = is_none held.refusal && begins_described (front held.rest)

-- no message can be taken any more
unfoldable pub is_drained : Splitter → Bool
is_drained held = is_some held.refusal || is_short (front held.rest)

-- the end of the bytes: nothing may be left of a message, where no refusal is kept
unfoldable pub ended : Splitter → Result (Unit {0}) Refusal
ended held = check ChannelTruncated (is_some held.refusal || (length held.rest == 0))

-- what is given whole --------------------------------------------------------------------------

-- these bytes begin with messages that are read as these, and go on with the rest
abbrev pub Given : (List ℕ → Result (List ℕ) Refusal) → List ℕ → List (List ℕ) → List ℕ → Type 0
Given read bytes [] rest = bytes ≡ rest
Given read bytes (p ∷ ps) rest =
    (message : List ℕ) × (after : List ℕ) × (front bytes ≡ Whole message after) × (read message ≡ Ok p) × Given read after ps rest

-- where a refusal is kept, it is due at these bytes; else they are held
abbrev pub IsDue : (List ℕ → Result (List ℕ) Refusal) → List ℕ → Option Refusal → List ℕ → Type 0
IsDue read bytes None rest = rest ≡ bytes
IsDue read bytes (Some r) rest = answer_of read (front bytes) ≡ Err r

-- a splitter that was fed these bytes and gave these
pub record Stands (read : List ℕ → Result (List ℕ) Refusal) (bytes : List ℕ) (given : List (List ℕ)) (held : Splitter) : Type 0 where
  pub left : List ℕ
  pub gave : Given read bytes given left
  pub due : IsDue read left held.refusal held.rest

-- of two splitters that were fed the same bytes, cut anywhere, and that can give no more: both gave the
-- same messages, and keep the same refusal
abbrev pub AnyCutting : Type 0
AnyCutting =
    (read : List ℕ → Result (List ℕ) Refusal) (bytes : List ℕ) (given others : List (List ℕ)) (one other : Splitter) → Stands read bytes given one → Stands read bytes others other → is_drained one ≡ true → is_drained other ≡ true → (given ≡ others) × (one.refusal ≡ other.refusal)

-- for each way to read: what it stood for, it stands for with this piece behind the bytes
abbrev pub TakesIn : Splitter → Splitter → List ℕ → Type 0
TakesIn old new piece =
    (read : List ℕ → Result (List ℕ) Refusal) (bytes : List ℕ) (given : List (List ℕ)) → Stands read bytes given old → Stands read (bytes ++ piece) given new

-- what it stood for, it stands for with these behind what was given
abbrev pub GivesOut : (List ℕ → Result (List ℕ) Refusal) → Splitter → Splitter → List (List ℕ) → Type 0
GivesOut read old new more =
    (bytes : List ℕ) (given : List (List ℕ)) → Stands read bytes given old → Stands read bytes (given ++ more) new

-- what a call gave
abbrev pub taken : Result (Option (List ℕ)) (Cause Refusal) → List (List ℕ)
taken (Ok (Some p)) = p ∷ []
taken (Ok None) = []
taken (Err fault) = []

-- what a call answered and left, against what is due; want of memory leaves all as it was
abbrev pub Answers : Result (Option (List ℕ)) (Cause Refusal) → Splitter → Splitter → Result (Option (List ℕ)) Refusal → Splitter → Type 0
Answers (Ok given) old new due after = (due ≡ Ok given) × (new ≡ after)
Answers (Err Memory) old new due after = new ≡ old
Answers (Err (Refused r)) old new due after = (due ≡ Err r) × (new ≡ after)
