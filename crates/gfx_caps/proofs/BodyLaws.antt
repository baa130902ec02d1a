-- The body of each message: what is spelled is read, and what is read is the body of a message that fits.
use Rattle.std.proofs.Common.{◌≡◌, ℕ, ◌+◌, ◌<◌, ◌^◌, List, [], ◌∷◌, length, map, Ok, refl, sym, ap, ◌∙◌, subst, arith}
use Rattle.std.proofs.lemmas.List.{append-nil, length-map}
use Rattle.std.proofs.lemmas.List.Sums.{sum_by-cons}
use Rattle.std.specs.List.{AllByRecursion, sum_by}
use Rattle.gfx_base.specs.Field.{IsBytes}
use Rattle.gfx_layout.specs.Layout.{Parts, made, Fit, spelled}
use Rattle.gfx_layout.proofs.FoundLaws.{read_whole-spelled, read_whole-found}
use Rattle.gfx_layout.specs.Header.{refused}
use Rattle.gfx_layout.proofs.Headers.{refused-ok}
use Rattle.gfx_caps.specs.declared.client_id.ClientId.{ClientId}
use Rattle.gfx_caps.specs.declared.client_id.ClientId.TheVariants as ids
use Rattle.gfx_caps.specs.declared.message.ClientPdu.{ClientPdu}
use Rattle.gfx_caps.specs.declared.message.ClientPdu.TheVariants as pdus
use Rattle.gfx_caps.specs.declared.sets.CapsSet.{CapsSet}
use Rattle.gfx_caps.specs.Layouts.{caps_set, caps_advertise, layout_of}
use Rattle.gfx_caps.specs.Reading.{body_of}
use Rattle.gfx_caps.specs.Spelling.{id_of, set_parts, parts_of, body, size, set_size, NumbersFit, CountFits, Fits}
use Rattle.gfx_caps.proofs.SetLemmas.{sets-size}

-- ---- what is spelled is read

sets-made : (sets : List CapsSet) → map (made caps_set) (map set_parts sets) ≡ sets
sets-made [] = refl
sets-made (set ∷ sets) = ap (λ others. set ∷ others) (sets-made sets)

-- the parts of a message say that message
parts-made : (pdu : ClientPdu) → made (layout_of (id_of pdu)) (parts_of pdu) ≡ pdu
parts-made (pdus.Advertise sets) = ap (λ s. pdus.Advertise s) (sets-made sets)
parts-made (pdus.Ack depth frame total) = refl
parts-made (pdus.ImportOffer entries) = refl
parts-made (pdus.QoeAck frame timestamp decoding rendering) = refl

-- sets fit whose versions do, since none is longer than all together
sets-fit : (sets : List CapsSet) → AllByRecursion (λ (set : CapsSet). set.version < 2 ^ 32) sets → sum_by set_size sets < 2 ^ 32 → AllByRecursion (Fit caps_set) (map set_parts sets)
sets-fit [] fits short = tt
sets-fit (set ∷ sets) fits short =
    let e : sum_by set_size (set ∷ sets) ≡ set_size set + sum_by set_size sets = sum_by-cons set_size set sets in
    (((fits.0, tt), (omega arith, tt)), sets-fit sets fits.1 (omega arith))

-- parts fit where the message does
parts-fit : (pdu : ClientPdu) → Fits pdu → Fit (layout_of (id_of pdu)) (parts_of pdu)
unfolding size
parts-fit (pdus.Advertise sets) fits =
    let short = fits.spellable.short in
    let together : sum_by set_size sets < 2 ^ 32 = omega (arith, sets-size sets) in
    ((fits.spellable.count, tt), (length-map sets set_parts, (sets-fit sets fits.numbers together, tt)))
parts-fit (pdus.Ack depth frame total) fits =
    let n = fits.numbers in ((n.0, tt), ((n.1, tt), ((n.2, tt), tt)))
parts-fit (pdus.ImportOffer entries) fits = (fits.spellable.count, (fits.numbers, tt))
parts-fit (pdus.QoeAck frame timestamp decoding rendering) fits =
    let n = fits.numbers in ((n.0, tt), ((n.1, tt), ((n.2, tt), ((n.3, tt), tt))))

pub body_of-again : (pdu : ClientPdu) → Fits pdu → body_of (id_of pdu) (body pdu) ≡ Ok pdu
unfolding body_of
body_of-again pdu fits =
    ap refused (read_whole-spelled (layout_of (id_of pdu)) (parts_of pdu) (parts-fit pdu fits)) ∙ ap (λ p. Ok p) (parts-made pdu)

-- ---- what is read is spelled so

-- these bytes are the body of this message
pub record IsBody (id : ClientId) (bytes : List ℕ) (pdu : ClientPdu) : Type 0 where
  pub same : id_of pdu ≡ id
  pub numbers : NumbersFit pdu
  pub count : CountFits pdu
  pub spelled_so : bytes ≡ body pdu

made-parts : (parts : List (Parts caps_set)) → map set_parts (map (made caps_set) parts) ≡ parts
made-parts [] = refl
made-parts (part ∷ parts) = ap (λ others. part ∷ others) (made-parts parts)

made-fit : (parts : List (Parts caps_set)) → AllByRecursion (Fit caps_set) parts → AllByRecursion (λ (set : CapsSet). set.version < 2 ^ 32) (map (made caps_set) parts)
made-fit [] fits = tt
made-fit (part ∷ parts) fits = (fits.0.0.0, made-fit parts fits.1)

found_body : (id : ClientId) (p : Parts (layout_of id)) → Fit (layout_of id) p → IsBody id (spelled (layout_of id) p) (made (layout_of id) p)
found_body ids.FrameAcknowledge p fit = record {
  same = refl;
  numbers = (fit.0.0, fit.1.0.0, fit.1.1.0.0);
  count = tt;
  spelled_so = refl;
}
found_body ids.CacheImportOffer p fit = record {
  same = refl;
  numbers = fit.1.0;
  count = fit.0;
  spelled_so = refl;
}
found_body ids.QoeFrameAcknowledge p fit = record {
  same = refl;
  numbers = (fit.0.0, fit.1.0.0, fit.1.1.0.0, fit.1.1.1.0.0);
  count = tt;
  spelled_so = refl;
}
found_body ids.CapsAdvertise p fit =
    let (count, (parts, _)) = p in
    let ((few, _), (long, (all, _))) = fit in
    let there : length (map (made caps_set) parts) ≡ count = length-map parts (made caps_set) ∙ long in
    record {
      same = refl;
      numbers = made-fit parts all;
      count = subst (λ n. n < 2 ^ 16) (sym there) few;
      spelled_so = λ i. spelled caps_advertise (sym there i, (sym (made-parts parts) i, tt));
    }

pub body_of-read : (id : ClientId) (bytes : List ℕ) (pdu : ClientPdu) → IsBytes bytes → body_of id bytes ≡ Ok pdu → IsBody id bytes pdu
unfolding body_of
body_of-read id bytes pdu all e =
    let found = read_whole-found (layout_of id) bytes pdu all (refused-ok _ pdu e) in
    let same : spelled (layout_of id) found.parts ≡ bytes = sym (found.splits ∙ append-nil (spelled (layout_of id) found.parts)) in
    subst (λ p. IsBody id bytes p) found.made_is
    (subst (λ t. IsBody id t (made (layout_of id) found.parts)) same (found_body id found.parts found.fit))
