-- Reading and spelling undo each other.
use Rattle.std.proofs.Common.{Result, ◌≡◌, ℕ, ◌+◌, ◌-◌, ◌<◌, ◌^◌, true, eqb, List, ◌++◌, length, take, drop, Some, Ok, Err, refl, sym, ap, subst, ◌∙◌, length-drop, arith, lit<}
use Rattle.std.proofs.lemmas.Bool.{eqb-true, eq-eqb}
use Rattle.std.proofs.lemmas.List.{take_all}
use Rattle.std.specs.Int.{w16}
use Rattle.gfx_base.specs.Field.{number_at, IsBytes}
use Rattle.std.specs.Prelude.{IfOk}
use Rattle.gfx_base.specs.Outcome.{Gives}
use Rattle.gfx_base.specs.Results.{and_then, check}
use Rattle.gfx_base.specs.declared.answer.Cause.{Cause}
use Rattle.gfx_base.specs.declared.refusal.Refusal.{Refusal}
use Rattle.gfx_base.specs.declared.refusal.Refusal.TheVariants.{CountMismatch}
use Rattle.gfx_base.proofs.FieldLemmas.{IsBytes-drop}
use Rattle.gfx_base.proofs.ResultLemmas.{and_then_ok, check_ok}
use Rattle.gfx_layout.specs.Shape.{digits, number_in, u16, u32}
use Rattle.gfx_layout.proofs.ShapeLaws.{number_in-fits}
use Rattle.gfx_layout.proofs.FoundLaws.{length-spelled}
use Rattle.gfx_layout.specs.Header.{size_of, header, no_flags}
use Rattle.gfx_layout.proofs.Headers.{head, size_of-head, kind_by-head, kind_by-ok, two_flags, find_passes, IsSize, size_of-ok, header-read}
use Rattle.gfx_caps.specs.declared.client_id.ClientId.{ClientId}
use Rattle.gfx_caps.specs.declared.client_id.ClientId.TheVariants as ids
use Rattle.gfx_caps.specs.declared.message.ClientPdu.{ClientPdu}
use Rattle.gfx_caps.specs.ClientId.{number_of, all_ids, id_of_number}
use Rattle.gfx_caps.specs.Layouts.{layout_of}
use Rattle.gfx_caps.specs.Reading.{body_of, kind_of, front, client_of}
use Rattle.gfx_caps.specs.Spelling.{id_of, parts_of, body, size, spelling, Spells, Fits}
use Rattle.gfx_caps.specs.Laws.{ReadIsSpelled, SpelledIsRead, WrittenIsSpelled}
use Rattle.gfx_caps.proofs.BodyLaws.{body_of-again, IsBody, body_of-read}

-- ---- an id and its number are told from each other

id_of_number-again : (id : ClientId) → id_of_number (number_of id) ≡ Some id
unfolding id_of_number
id_of_number-again ids.FrameAcknowledge = refl
id_of_number-again ids.CacheImportOffer = refl
id_of_number-again ids.CapsAdvertise = refl
id_of_number-again ids.QoeFrameAcknowledge = refl

number_of-fits : (id : ClientId) → number_of id < 2 ^ 16
number_of-fits ids.FrameAcknowledge = lit< tt
number_of-fits ids.CacheImportOffer = lit< tt
number_of-fits ids.CapsAdvertise = lit< tt
number_of-fits ids.QoeFrameAcknowledge = lit< tt

-- ---- what is written is a spelling

-- a message is its header and its body
size-body : (pdu : ClientPdu) → size pdu ≡ 8 + length (body pdu)
unfolding size
size-body pdu = ap (λ n. 8 + n) (sym (length-spelled (layout_of (id_of pdu)) (parts_of pdu)))

pub spelling-spells : WrittenIsSpelled
unfolding spelling
spelling-spells pdu = record { flags = no_flags; two = refl; bytes_are = refl }

-- ---- what is spelled is read

client_of-head : (id : ClientId) (a b whole : ℕ) (rest : List ℕ) (pdu : ClientPdu) → whole ≡ 8 + length rest → whole < 2 ^ 32 → body_of id rest ≡ Ok pdu → client_of (head (number_of id) a b whole rest) ≡ Ok pdu
unfolding client_of front and_then
client_of-head id a b whole rest pdu e fits reads =
    let here : take (whole - 8) rest ≡ rest = take_all (whole - 8) rest (omega arith) in
    let alone : eqb whole (length (head (number_of id) a b whole rest)) ≡ true = eq-eqb _ _ (omega arith) in
    rw (size_of-head (number_of id) a b whole rest (omega arith) (omega arith) fits, kind_by-head id_of_number id (number_of id) a b whole rest (number_of-fits id) (id_of_number-again id), here, reads, alone) refl

client_of-header : (id : ClientId) (flags : List ℕ) (whole : ℕ) (rest : List ℕ) (pdu : ClientPdu) → length flags ≡ 2 → whole ≡ 8 + length rest → whole < 2 ^ 32 → body_of id rest ≡ Ok pdu → client_of (header (number_of id) flags whole ++ rest) ≡ Ok pdu
unfolding header
client_of-header id flags whole rest pdu two e fits reads =
    let f = two_flags flags two in rw f.2 (client_of-head id f.0 f.1 whole rest pdu e fits reads)

pub client_of-spells : SpelledIsRead
client_of-spells bytes pdu fits s =
    rw s.bytes_are (client_of-header (id_of pdu) s.flags (size pdu) (body pdu) pdu s.two (size-body pdu) fits.spellable.short (body_of-again pdu fits))

-- ---- what is read is spelled so

-- the id that is found has the number
number_of-found : (number : ℕ) (id : ClientId) → id_of_number number ≡ Some id → number_of id ≡ number
unfolding id_of_number
number_of-found number id e = eqb-true _ _ (find_passes (λ i. eqb (number_of i) number) all_ids id e)

kind_of-ok : (bytes : List ℕ) (id : ClientId) → kind_of bytes ≡ Ok id → number_of id ≡ number_at w16 bytes 0
kind_of-ok bytes id e = number_of-found (number_at w16 bytes 0) id (kind_by-ok id_of_number bytes id e)

header-same : (id id' : ClientId) (flags : List ℕ) (whole whole' : ℕ) → id ≡ id' → whole ≡ whole' → header (number_of id) flags whole ≡ header (number_of id') flags whole'
header-same id id' flags whole whole' p q = rw (p, q) refl

-- bytes that end with their message, by what the header says and the body behind it
is_message : (bytes : List ℕ) (id : ClientId) (pdu : ClientPdu) (whole : ℕ) → IsBytes bytes → IsSize bytes whole → whole ≡ length bytes → number_of id ≡ number_at w16 bytes 0
    → body_of id (take (whole - 8) (drop 8 bytes)) ≡ Ok pdu → Spells bytes pdu × Fits pdu
is_message bytes id pdu whole all sized alone named reads =
    let behind = drop 8 bytes in
    let here : take (whole - 8) behind ≡ behind = take_all (whole - 8) behind (omega (arith, length-drop 8 bytes, alone)) in
    let found : IsBody id behind pdu = body_of-read id behind pdu (IsBytes-drop 8 bytes all) (ap (body_of id) (sym here) ∙ reads) in
    let exact : size pdu ≡ whole = size-body pdu ∙ ap (λ t. 8 + length t) (sym found.spelled_so) ∙ omega (arith, length-drop 8 bytes, sized.least, alone) in
    let flags = digits u16 (number_in u16 (drop 2 bytes)) in (
      record {
        flags = flags;
        two = refl;
        bytes_are = header-read bytes (number_of id) whole all (omega (arith, sized.least, sized.within)) named sized.is
            ∙ ap (λ t. t ++ behind) (header-same id (id_of pdu) flags whole (size pdu) (sym found.same) (sym exact))
            ∙ ap (λ t. header (number_of (id_of pdu)) flags (size pdu) ++ t) found.spelled_so;
      },
      record {
        numbers = found.numbers;
        spellable = record { count = found.count; short = rw (exact, sym sized.is) (number_in-fits u32 (drop 4 bytes) (IsBytes-drop 4 bytes all)) };
      },
    )

pub client_of-read : ReadIsSpelled
unfolding client_of front
client_of-read bytes pdu all e =
    let found = and_then_ok (front bytes) _ pdu e in
    let last = and_then_ok (check CountMismatch _) (λ _. Ok found.0.0) pdu found.2 in
    let alone : found.0.1 ≡ length bytes = eqb-true _ _ (check_ok CountMismatch _ last.1) in
    let says = last.2 in
    let same : found.0.0 ≡ pdu = cc in
    let sized = and_then_ok (size_of bytes) _ found.0 found.1 in
    let named = and_then_ok (kind_of bytes) _ found.0 sized.2 in
    let bodied = and_then_ok (body_of named.0 (take (sized.0 - 8) (drop 8 bytes))) _ found.0 named.2 in
    let gives = bodied.2 in
    let pair : (bodied.0, sized.0) ≡ found.0 = cc in
    let whole : sized.0 ≡ length bytes = ap (λ f. f.1) pair ∙ alone in
    subst (λ p. Spells bytes p × Fits p) (ap (λ f. f.0) pair ∙ same)
    (is_message bytes named.0 bodied.0 sized.0 all (size_of-ok bytes sized.0 sized.1) whole (kind_of-ok bytes named.0 named.1) bodied.1)

-- so of a call that gave what is due
pub given-spells : (bytes : List ℕ) (given : Result ClientPdu (Cause Refusal)) → IsBytes bytes → Gives (λ p. p) given (client_of bytes) → IfOk given (λ p. Spells bytes p × Fits p)
given-spells bytes (Err fault) all due = tt
given-spells bytes (Ok pdu) all due = client_of-read bytes pdu all due
