-- Reading and spelling undo each other.
use Rattle.std.proofs.Common.{◌≡◌, ℕ, ◌+◌, ◌-◌, ◌≤◌, ◌<◌, true, false, cond, eqb, ◌&&◌, is_ok, List, ◌++◌, length, take, drop, Option, Some, None, Result, Ok, Err, refl, sym, ap, subst, ◌∙◌, append_assoc, length-append, length-drop, arith}
use Rattle.std.proofs.lemmas.Bool.{ne_eqb}
use Rattle.std.specs.Prelude.{IfOk, IfSome}
use Rattle.std.proofs.lemmas.List.{take-append-drop, length-take, length-replicate}
use Rattle.std.specs.Int.{w16, w32}
use Rattle.std.specs.Option.{option_map}
use Rattle.gfx_base.specs.Field.{number_at, IsBytes}
use Rattle.gfx_base.specs.Outcome.{Gives}
use Rattle.gfx_base.specs.declared.answer.Cause.{Cause}
use Rattle.gfx_base.specs.Results.{and_then}
use Rattle.gfx_base.proofs.FieldLemmas.{IsBytes-take, IsBytes-drop, number_at-append}
use Rattle.gfx_base.proofs.ResultLemmas.{and_then_ok}
use Rattle.gfx_base.specs.declared.refusal.Refusal.{Refusal}
use Rattle.gfx_layout.specs.Shape.{digits, number_in, u16, u32}
use Rattle.gfx_layout.proofs.ShapeLaws.{number_in-fits}
use Rattle.gfx_layout.proofs.FoundLaws.{length-spelled}
use Rattle.gfx_pdu.specs.declared.id.Id.{Id}
use Rattle.gfx_pdu.specs.declared.pdu.Pdu.{Pdu}
use Rattle.gfx_pdu.specs.declared.pdu.PduRef.{PduRef}
use Rattle.gfx_pdu.specs.Borrowed.{pdu_of, message_in, found_in}
use Rattle.gfx_pdu.specs.Id.{number_of, id_of_number}
use Rattle.gfx_layout.specs.Header.{size_of, header, no_flags, is_headed}
use Rattle.gfx_layout.proofs.Headers.{length-header, whole-header, IsSize, size_of-ok, size_of-cut, header-read}
use Rattle.gfx_pdu.specs.Reading.{body_of, kind_of, front, message_at, placed, next_pdu}
use Rattle.gfx_pdu.specs.Layouts.{layout_of}
use Rattle.gfx_pdu.specs.Spelling.{id_of, parts_of, padding_of, body, no_padding, size, spelling, written_body, Spells, Begins, Fits}
use Rattle.gfx_pdu.specs.Laws.{ReadIsSpelled, SpelledIsRead, WrittenIsSpelled, CutIsTruncated}
use Rattle.gfx_pdu.proofs.Sizes.{size-padded, size-least}
use Rattle.gfx_pdu.proofs.Bodies.{body_of-again, IsBody, body_of-read}
use Rattle.gfx_pdu.proofs.Framing.{front-header, kind_of-ok}

-- a message is its header and its body
pub size-body : (pdu : Pdu) (padding : List ℕ) → length padding ≡ padding_of pdu → size pdu ≡ 8 + length (body pdu padding)
size-body pdu padding e = size-padded pdu padding e ∙ ap (λ n. 8 + n) (sym (length-spelled (layout_of (id_of pdu)) (parts_of pdu padding)))

-- a spelling is as long as it says
pub length-spells : (text : List ℕ) (pdu : Pdu) → Spells text pdu → length text ≡ size pdu
length-spells text pdu s =
    ap length s.bytes_are ∙ length-append (header (number_of (id_of pdu)) s.flags (size pdu)) (body pdu s.padding)
    ∙ ap (λ n. n + length (body pdu s.padding)) (length-header (number_of (id_of pdu)) s.flags (size pdu) s.two) ∙ sym (size-body pdu s.padding s.as_long)

-- ---- what is written is a spelling

pub spelling-spells : WrittenIsSpelled
unfolding spelling written_body
spelling-spells pdu = record { flags = no_flags; two = refl; padding = no_padding pdu; as_long = length-replicate (padding_of pdu) 0; bytes_are = refl }

pub length-spelling : (pdu : Pdu) → length (spelling pdu) ≡ size pdu
length-spelling pdu = length-spells (spelling pdu) pdu (spelling-spells pdu)

-- ---- what is spelled is read

-- a message where there are bytes
message_at-some : (bytes : List ℕ) (found : Pdu × ℕ) → 0 < length bytes → front bytes ≡ Ok found → message_at bytes ≡ Ok (Some found)
unfolding message_at and_then
message_at-some bytes found some e =
    let test : eqb (length bytes) 0 ≡ false = ne_eqb (length bytes) 0 (λ z. absurd (omega arith)) in
    rw (test, e) refl

pub message_at-spells : SpelledIsRead
message_at-spells text more pdu fits s =
    let long = length-spells text pdu s in
    let some : 0 < length (text ++ more) = omega (arith, length-append text more, size-least pdu) in
    let read : front (text ++ more) ≡ Ok (pdu, size pdu) =
    rw s.bytes_are (front-header (id_of pdu) s.flags (size pdu) (body pdu s.padding) more pdu s.two (size-body pdu s.padding s.as_long) fits.spellable.short (body_of-again pdu s.padding fits s.as_long)) in
    rw long (message_at-some (text ++ more) (pdu, size pdu) some read)

pub message_at-spelling : (pdu : Pdu) (more : List ℕ) → Fits pdu → message_at (spelling pdu ++ more) ≡ Ok (Some (pdu, length (spelling pdu)))
message_at-spelling pdu more fits = message_at-spells (spelling pdu) more pdu fits (spelling-spells pdu)

-- ---- what is read is spelled

header-same : (id id' : Id) (flags : List ℕ) (whole whole' : ℕ) → id ≡ id' → whole ≡ whole' → header (number_of id) flags whole ≡ header (number_of id') flags whole'
header-same id id' flags whole whole' p q = rw (p, q) refl

-- a message by what its header says and the body behind it
begins : (bytes : List ℕ) (id : Id) (pdu : Pdu) (whole : ℕ) → IsBytes bytes → IsSize bytes whole → number_of id ≡ number_at w16 bytes 0 → body_of id (take (whole - 8) (drop 8 bytes)) ≡ Ok pdu → Begins bytes pdu whole
begins bytes id pdu whole all sized named reads =
    let behind = take (whole - 8) (drop 8 bytes) in
    let more = drop (whole - 8) (drop 8 bytes) in
    let read : IsBody id behind pdu = body_of-read id behind pdu (IsBytes-take (whole - 8) (drop 8 bytes) (IsBytes-drop 8 bytes all)) reads in
    let flags = digits u16 (number_in u16 (drop 2 bytes)) in
    let long : length behind ≡ whole - 8 = omega (arith, length-take (whole - 8) (drop 8 bytes), length-drop 8 bytes, sized.within) in
    let exact : size pdu ≡ whole = size-body pdu read.padding read.as_long ∙ ap (λ t. 8 + length t) (sym read.spelled_so) ∙ omega (arith, long, sized.least) in
    let head = header (number_of id) flags whole in
    record {
      text = head ++ behind;
      more = more;
      cut = header-read bytes (number_of id) whole all (omega (arith, sized.least, sized.within)) named sized.is
          ∙ ap (λ t. head ++ t) (sym (take-append-drop (whole - 8) (drop 8 bytes))) ∙ sym (append_assoc head behind more);
      long = length-append head behind ∙ ap (λ n. n + length behind) (length-header (number_of id) flags whole refl) ∙ omega (arith, long, sized.least);
      fits = record { numbers = read.numbers; spellable = record { counts = read.counts; short = rw (exact, sym sized.is) (number_in-fits u32 (drop 4 bytes) (IsBytes-drop 4 bytes all)) } };
      spells = record {
        flags = flags;
        two = refl;
        padding = read.padding;
        as_long = read.as_long;
        bytes_are = ap (λ t. t ++ behind) (header-same id (id_of pdu) flags whole (size pdu) (sym read.same) (sym exact)) ∙ ap (λ t. header (number_of (id_of pdu)) flags (size pdu) ++ t) read.spelled_so;
      };
    }

pub front-begins : (bytes : List ℕ) (found : Pdu × ℕ) → IsBytes bytes → front bytes ≡ Ok found → Begins bytes found.0 found.1
unfolding front
front-begins bytes found all e =
    let sized = and_then_ok (size_of bytes) _ found e in
    let named = and_then_ok (kind_of bytes) _ found sized.2 in
    let bodied = and_then_ok (body_of named.0 (take (sized.0 - 8) (drop 8 bytes))) _ found named.2 in
    let last = bodied.2 in
    let same : (bodied.0, sized.0) ≡ found = cc in
    subst (λ f. Begins bytes f.0 f.1) same
    (begins bytes named.0 bodied.0 sized.0 all (size_of-ok bytes sized.0 sized.1) (kind_of-ok bytes named.0 named.1) bodied.1)

-- a message that is found stands at the front
pub message_at-front : (bytes : List ℕ) (found : Pdu × ℕ) → message_at bytes ≡ Ok (Some found) → front bytes ≡ Ok found
unfolding message_at
message_at-front bytes found e =
    elim (eqb (length bytes) 0) as (λ b. cond b (Ok None) (and_then (front bytes) (λ m. Ok (Some m))) ≡ Ok (Some found) → front bytes ≡ Ok found) [
      | true ↦ λ none. absurd cc
      | false ↦ λ some.
          let parts = and_then_ok (front bytes) (λ m. Ok (Some m)) (Some found) some in
          let last = parts.2 in
          let same : parts.0 ≡ found = cc in
          parts.1 ∙ ap (λ m. Ok m) same
    ] e

pub message_at-begins : ReadIsSpelled
message_at-begins bytes pdu count all e = front-begins bytes (pdu, count) all (message_at-front bytes (pdu, count) e)

-- ---- a cut spelling

pub message_at-cut : CutIsTruncated
unfolding message_at front and_then
message_at-cut text begin rest pdu fits s cut some left =
    let long = length-spells text pdu s in
    let short : length begin < size pdu = omega (arith, ap length cut, length-append begin rest) in
    let whole : 8 ≤ length begin → number_at w32 begin 4 ≡ size pdu = λ enough. sym (number_at-append w32 begin rest 4 (omega arith)) ∙ ap (λ t. number_at w32 t 4) (sym cut ∙ s.bytes_are) ∙ whole-header (number_of (id_of pdu)) s.flags (size pdu) (body pdu s.padding) s.two fits.short in
    let test : eqb (length begin) 0 ≡ false = ne_eqb (length begin) 0 (λ z. absurd (omega arith)) in
    rw (test, size_of-cut begin (size pdu) short (size-least pdu) whole) refl

-- ---- the message at a place

next_begins : (payload : List ℕ) (at : ℕ) (m : Pdu × ℕ) → IsBytes payload → (found : Option (Pdu × ℕ)) → message_at (drop at payload) ≡ Ok found → option_map (placed at) found ≡ Some m → Begins (drop at payload) m.0 (m.1 - at)
next_begins payload at m all None here e = absurd cc
next_begins payload at m all (Some found) here e =
    let same : (found.0, at + found.1) ≡ m = cc in
    let count : found.1 ≡ at + found.1 - at = omega arith in
    subst (λ x. Begins (drop at payload) x.0 (x.1 - at)) same
    (subst (λ n. Begins (drop at payload) found.0 n) count (message_at-begins (drop at payload) found.0 found.1 (IsBytes-drop at payload all) here))

-- the place after it, and what stands there
pub next_pdu-begins : (payload : List ℕ) (at : ℕ) (m : Pdu × ℕ) → IsBytes payload → next_pdu payload at ≡ Ok (Some m) → Begins (drop at payload) m.0 (m.1 - at)
unfolding next_pdu
next_pdu-begins payload at m all e =
    let parts = and_then_ok (message_at (drop at payload)) (λ found. Ok (option_map (placed at) found)) (Some m) e in
    let last = parts.2 in
    let same : option_map (placed at) parts.0 ≡ Some m = cc in
    next_begins payload at m all parts.0 parts.1 same

-- so of a call that gave what is due
pub given-begins : (payload : List ℕ) (at : ℕ) (given : Result (Option (Pdu × ℕ)) (Cause Refusal)) → IsBytes payload → Gives (λ found. found) given (next_pdu payload at) → IfOk given (λ found. IfSome found (λ m. Begins (drop at payload) m.0 (m.1 - at)))
given-begins payload at (Err fault) all due = tt
given-begins payload at (Ok None) all due = tt
given-begins payload at (Ok (Some m)) all due = next_pdu-begins payload at m all due

-- and of one that gave a message with borrowed data
pub borrowed-begins : (payload : List ℕ) (at : ℕ) (given : Result (Option (PduRef × ℕ)) (Cause Refusal)) → IsBytes payload → Gives found_in given (next_pdu payload at) → IfOk given (λ found. IfSome found (λ m. Begins (drop at payload) (pdu_of m.0) (m.1 - at)))
borrowed-begins payload at (Err fault) all due = tt
borrowed-begins payload at (Ok None) all due = tt
borrowed-begins payload at (Ok (Some m)) all due = next_pdu-begins payload at (message_in m) all due

-- its header was accepted
front-headed : (bytes : List ℕ) (found : Pdu × ℕ) → front bytes ≡ Ok found → is_headed id_of_number bytes ≡ true
unfolding front
front-headed bytes found e =
    let sized = and_then_ok (size_of bytes) _ found e in
    let named = and_then_ok (kind_of bytes) _ found sized.2 in
    ap (λ z. is_ok z && is_ok (kind_of bytes)) sized.1 ∙ ap is_ok named.1

next_headed : (payload : List ℕ) (at : ℕ) (m : Pdu × ℕ) (found : Option (Pdu × ℕ)) → message_at (drop at payload) ≡ Ok found → option_map (placed at) found ≡ Some m → is_headed id_of_number (drop at payload) ≡ true
next_headed payload at m None here e = absurd cc
next_headed payload at m (Some found) here e = front-headed (drop at payload) found (message_at-front (drop at payload) found here)

pub next_pdu-headed : (payload : List ℕ) (at : ℕ) (m : Pdu × ℕ) → next_pdu payload at ≡ Ok (Some m) → is_headed id_of_number (drop at payload) ≡ true
unfolding next_pdu
next_pdu-headed payload at m e =
    let parts = and_then_ok (message_at (drop at payload)) (λ found. Ok (option_map (placed at) found)) (Some m) e in
    let last = parts.2 in
    let same : option_map (placed at) parts.0 ≡ Some m = cc in
    next_headed payload at m parts.0 parts.1 same
