-- Offers and replies: what is written is read.
use Rattle.std.proofs.Common.{◌≡◌, ◌∙◌, ap, sym, refl, Bool, true, eqb, ◌&&◌, ℕ, ◌+◌, ◌-◌, ◌≤◌, ◌<◌, ◌^◌, List, [], ◌∷◌, length, take, Some, Result, Ok, zero, suc, arith}
use Rattle.std.specs.Prelude.{is_ok}
use Rattle.std.specs.Int.{w16}
use Rattle.std.specs.List.{AllByRecursion}
use Rattle.std.proofs.lemmas.Bool.{eq-eqb}
use Rattle.std.proofs.lemmas.List.{take_all, length-map}
use Rattle.gfx_base.specs.Field.{number_at}
use Rattle.gfx_base.specs.Results.{and_then, check}
use Rattle.gfx_base.specs.declared.refusal.Refusal.{Refusal}
use Rattle.gfx_base.specs.declared.refusal.Refusal.TheVariants.{PduUnknown}
use Rattle.gfx_base.proofs.ResultLemmas.{and_then_ok, check_ok}
use Rattle.gfx_layout.specs.Shape.{PartFits, number_alone, u16}
use Rattle.gfx_layout.specs.Layout.{Layout, Parts, made, Fit, spelled, measured}
use Rattle.gfx_layout.specs.Header.{size_of, kind_by, header}
use Rattle.gfx_layout.specs.Reading.{read_whole}
use Rattle.gfx_layout.proofs.FoundLaws.{read_whole-spelled, length-spelled}
use Rattle.gfx_layout.proofs.Headers.{head, size_of-head, kind_by-head}
use Rattle.gfx_bitmap_cache.specs.Slots.{Entry, bytes_of}
use Rattle.gfx_import.specs.declared.limits.TheConstants.{OFFER, REPLY}
use Rattle.gfx_import.specs.Entries.{IsEntry, IsKept}
use Rattle.gfx_caps.specs.Entries.{cache_entry}
use Rattle.gfx_import.specs.Offered.{offered_of, offers_of}
use Rattle.gfx_import.specs.Imported.{imported}
use Rattle.gfx_import.specs.Messages.{import_offer, import_reply, message_of, message_text, offer_of, offer_text, reply_of, reply_text, numbers_from, slots_of, taken_of, is_headed}
use Rattle.gfx_import.proofs.WritingLemmas.{length-numbers}

-- the number that a header announces
number-head : (number a b whole : ℕ) (rest : List ℕ) → number < 2 ^ 16 → number_at w16 (head number a b whole rest) 0 ≡ number
unfolding kind_by
number-head number a b whole rest fits =
    let found : ◌≡◌ {A = Result ℕ Refusal} (Ok (number_at w16 (head number a b whole rest) 0)) (Ok number) = kind_by-head (λ n. Some n) number number a b whole rest fits refl in
    same_ok _ _ found
  where
    same_ok : (x y : ℕ) → ◌≡◌ {A = Result ℕ Refusal} (Ok x) (Ok y) → x ≡ y
    same_ok x y e = cc

message-head : {X : Type 0} (number whole : ℕ) (layout : Layout X) (rest : List ℕ) (says : X) → number < 2 ^ 16 → whole ≡ 8 + length rest → whole < 2 ^ 32 → read_whole layout rest ≡ Ok says
    → message_of number layout (head number 0 0 whole rest) ≡ Ok says
unfolding message_of and_then
message-head number whole layout rest says small e fits reads =
    let here : take (whole - 8) rest ≡ rest = take_all (whole - 8) rest (omega arith) in
    let alone : eqb whole (length (head number 0 0 whole rest)) ≡ true = eq-eqb _ _ (omega arith) in
    let known : eqb (number_at w16 (head number 0 0 whole rest) 0) number ≡ true = eq-eqb _ _ (number-head number 0 0 whole rest small) in
    rw (size_of-head number 0 0 whole rest (omega arith) (omega arith) fits, known, here, reads, alone) refl

-- what is written by a layout is read by it
pub message-read : {X : Type 0} (number : ℕ) (layout : Layout X) (parts : Parts layout) → number < 2 ^ 16 → 8 + measured layout parts < 2 ^ 32 → Fit layout parts
    → message_of number layout (message_text number layout parts) ≡ Ok (made layout parts)
unfolding message_text header
message-read number layout parts small fits fit =
    message-head number (8 + measured layout parts) layout (spelled layout parts) (made layout parts) small (ap (λ n. 8 + n) (sym (length-spelled layout parts))) fits (read_whole-spelled layout parts fit)

offers-fit : (client : List Entry) → AllByRecursion IsEntry client → AllByRecursion (PartFits cache_entry) (offers_of client)
offers-fit [] all = tt
offers-fit (one ∷ client) all =
    let short : bytes_of one < 2 ^ 32 = omega (arith, all.0.image.few) in
    ((all.0.key, (short, tt)), offers-fit client all.1)

pub offer-read : (client : List Entry) → IsKept client → offer_of (offer_text (offers_of client)) ≡ Ok (offers_of client)
offer-read client is =
    let long : length (offers_of client) ≡ length client = length-map client offered_of in
    message-read OFFER import_offer (offers_of client, tt) (omega arith) (omega (arith, long, is.few)) (omega (arith, long, is.few), (offers-fit client is.each, tt))

pub offer-answered : (server client : List Entry) (small : Bool) → IsKept client → taken_of server (offer_text (offers_of client)) small ≡ Ok (length (imported server client small))
unfolding taken_of and_then
offer-answered server client small is = rw (offer-read client is) refl

numbers-fit : (first count : ℕ) → first + count ≤ 2 ^ 16 → AllByRecursion (PartFits (number_alone u16)) (numbers_from first count)
numbers-fit first zero fits = tt
numbers-fit first (suc count) fits = ((omega arith, tt), numbers-fit (first + 1) count (omega arith))

pub reply-read : (count : ℕ) → count ≤ 25600 → reply_of (reply_text count) ≡ Ok (slots_of count)
reply-read count few =
    let long : length (slots_of count) ≡ count = length-numbers 1 count in
    message-read REPLY import_reply (slots_of count, tt) (omega arith) (omega (arith, long)) (omega (arith, long), (numbers-fit 1 count (omega arith), tt))

-- what is read has a header that is accepted
pub headed-ok : {X : Type 0} (number : ℕ) (layout : Layout X) (bytes : List ℕ) (says : X) → message_of number layout bytes ≡ Ok says → is_headed number bytes ≡ true
unfolding message_of
headed-ok number layout bytes says e =
    let sized = and_then_ok (size_of bytes) _ says e in
    let known = and_then_ok (check PduUnknown (eqb (number_at w16 bytes 0) number)) _ says sized.2 in
    ap (λ z. is_ok z && eqb (number_at w16 bytes 0) number) sized.1 ∙ check_ok PduUnknown _ known.1
