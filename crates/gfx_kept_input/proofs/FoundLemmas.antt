-- What is found stays found under more bytes, and how many bytes it takes.
use Rattle.std.proofs.Common.{◌≡◌, ℕ, ◌+◌, ◌≤◌, ◌<◌, Bool, true, false, cond, List, ◌++◌, length, take, drop, refl, sym, ap, ◌∙◌, subst, arith, length-drop}
use Rattle.std.proofs.lemmas.List.{take-append-drop}
use Rattle.gfx_base.specs.declared.refusal.Refusal.{Refusal}
use Rattle.gfx_base.specs.declared.refusal.Refusal.TheVariants.{KeptDiffers}
use Rattle.gfx_bitmap_cache.specs.Slots.{Entry}
use Rattle.gfx_import.specs.Agreed.{agree}
use Rattle.gfx_kept_input.specs.Allowed.{allowed}
use Rattle.gfx_kept_input.specs.Due.{IsNotWrong, IsFine}
use Rattle.gfx_kept_input.specs.Front.{Front, Whole, Short, Bad, front, size_of}
use Rattle.gfx_kept_input.specs.Split.{Split, split, Found, Few, Wrong, Splits, behind_server, from_start, found}
use Rattle.gfx_kept_input.proofs.FrontLemmas.{whole-stays, bad-stays, whole-size, short-size}

-- what is found with more bytes behind
abbrev pub found_more : Found → List ℕ → Found
found_more Few more = Few
found_more (Wrong refusal) more = Wrong refusal
found_more (Splits s) more = Splits (split s.server s.client (s.script ++ more))

-- both files agree, or they don't
abbrev judged : Bool → Split → Found
judged agreed s = cond agreed (Splits s) (Wrong KeptDiffers)

judged-more : (agreed : Bool) (server client : List Entry) (script more : List ℕ) → judged agreed (split server client (script ++ more)) ≡ found_more (judged agreed (split server client script)) more
judged-more true server client script more = refl
judged-more false server client script more = refl

judged-never : (agreed : Bool) (s : Split) → judged agreed s ≡ Few → ⊥
judged-never true s e = cc
judged-never false s e = cc

judged-is : (agreed : Bool) (s t : Split) → judged agreed s ≡ Splits t → s ≡ t
judged-is true s t e = cc
judged-is false s t e = absurd cc

judged-true : (agreed : Bool) (s t : Split) → judged agreed s ≡ Splits t → agreed ≡ true
judged-true true s t e = refl
judged-true false s t e = absurd cc

-- ---- what is found at a front

pub found-at : (bytes : List ℕ) (first : Front) → front bytes ≡ first → found bytes ≡ from_start first
unfolding found
found-at bytes first is = ap from_start is

pub found-behind : (bytes after : List ℕ) (server : List Entry) (second : Front) → front bytes ≡ Whole server after → front after ≡ second → found bytes ≡ behind_server server second
found-behind bytes after server second is then = found-at bytes (Whole server after) is ∙ ap (behind_server server) then

-- ---- it stays

behind-stays : (second : Front) (server : List Entry) (after more : List ℕ) → front after ≡ second → (behind_server server second ≡ Few → ⊥)
    → behind_server server (front (after ++ more)) ≡ found_more (behind_server server second) more
behind-stays Short server after more is never = absurd (never refl)
behind-stays (Bad refusal) server after more is never = ap (behind_server server) (bad-stays after more refusal is)
behind-stays (Whole client script) server after more is never =
    ap (behind_server server) (whole-stays after more script client is) ∙ judged-more (agree server client) server client script more

start-stays : (first : Front) (bytes more : List ℕ) → front bytes ≡ first → (from_start first ≡ Few → ⊥) → from_start (front (bytes ++ more)) ≡ found_more (from_start first) more
start-stays Short bytes more is never = absurd (never refl)
start-stays (Bad refusal) bytes more is never = ap from_start (bad-stays bytes more refusal is)
start-stays (Whole server after) bytes more is never =
    ap from_start (whole-stays bytes more after server is) ∙ behind-stays (front after) server after more refl never

pub found-stays : (bytes more : List ℕ) → (found bytes ≡ Few → ⊥) → found (bytes ++ more) ≡ found_more (found bytes) more
unfolding found
found-stays bytes more never = start-stays (front bytes) bytes more refl never

-- what is refused stays refused, and what splits stays split
pub wrong-stays : (bytes more : List ℕ) (refusal : Refusal) → found bytes ≡ Wrong refusal → found (bytes ++ more) ≡ Wrong refusal
wrong-stays bytes more refusal is = found-stays bytes more (λ few. cc) ∙ ap (λ z. found_more z more) is

pub splits-stay : (bytes more : List ℕ) (s : Split) → found bytes ≡ Splits s → found (bytes ++ more) ≡ Splits (split s.server s.client (s.script ++ more))
splits-stay bytes more s is = found-stays bytes more (λ few. cc) ∙ ap (λ z. found_more z more) is

-- no front of what isn't refused is refused
pub fronts-fine : (bytes : List ℕ) (n : ℕ) → IsFine bytes → IsFine (take n bytes)
fronts-fine bytes n fine = by (found (take n bytes)) refl
  where
    by : (f : Found) → found (take n bytes) ≡ f → IsNotWrong f
    by Few is = tt
    by (Splits s) is = tt
    by (Wrong refusal) is =
        let whole : found bytes ≡ Wrong refusal = ap found (sym (take-append-drop n bytes)) ∙ wrong-stays (take n bytes) (drop n bytes) refusal is in
        subst IsNotWrong whole fine

-- ---- how many bytes it takes

behind-few : (second : Front) (server : List Entry) (after : List ℕ) → front after ≡ second → behind_server server second ≡ Few → length after < size_of after
behind-few Short server after is few = short-size after is
behind-few (Bad refusal) server after is few = absurd cc
behind-few (Whole client script) server after is few = absurd (judged-never (agree server client) (split server client script) few)

start-few : (first : Front) (bytes : List ℕ) → front bytes ≡ first → from_start first ≡ Few → length bytes < size_of bytes + size_of (drop (size_of bytes) bytes)
start-few Short bytes is few = let under = short-size bytes is in omega arith
start-few (Bad refusal) bytes is few = absurd cc
start-few (Whole server after) bytes is few =
    let w = whole-size bytes after server is in
    let within : size_of bytes ≤ length bytes = w.0 in
    let under : length after < size_of after = behind-few (front after) server after refl few in
    let same : length (drop (size_of bytes) bytes) ≡ length after = ap length w.1 in
    let size : size_of (drop (size_of bytes) bytes) ≡ size_of after = ap size_of w.1 in
    omega (arith, length-drop (size_of bytes) bytes)

-- where too few bytes are found, more may be taken
pub few-under : (limit : ℕ) (bytes : List ℕ) → found bytes ≡ Few → length bytes < allowed limit bytes
unfolding found
few-under limit bytes few = let under = start-few (front bytes) bytes refl few in omega arith

-- the two files of an input that splits so, which agree, and what stands behind the first
pub record IsSplit (bytes : List ℕ) (s : Split) : Type 0 where
  pub after : List ℕ
  pub first : front bytes ≡ Whole s.server after
  pub second : front after ≡ Whole s.client s.script
  pub agreed : agree s.server s.client ≡ true

behind-splits : (second : Front) (server : List Entry) (after : List ℕ) (s : Split) → front after ≡ second → behind_server server second ≡ Splits s
    → (server ≡ s.server) × (front after ≡ Whole s.client s.script) × (agree s.server s.client ≡ true)
behind-splits Short server after s is e = absurd cc
behind-splits (Bad refusal) server after s is e = absurd cc
behind-splits (Whole client script) server after s is e =
    let same = judged-is (agree server client) (split server client script) s e in (
      ap (λ (z : Split). z.server) same,
      is ∙ ap (λ (z : Split). Whole z.client z.script) same,
      ap (λ (z : Split). agree z.server z.client) (sym same) ∙ judged-true (agree server client) (split server client script) s e,
    )

start-splits : (first : Front) (bytes : List ℕ) (s : Split) → front bytes ≡ first → from_start first ≡ Splits s → IsSplit bytes s
start-splits Short bytes s is e = absurd cc
start-splits (Bad refusal) bytes s is e = absurd cc
start-splits (Whole server after) bytes s is e =
    let b = behind-splits (front after) server after s refl e in
    record { after = after; first = is ∙ ap (λ z. Whole z after) b.0; second = b.1; agreed = b.2 }

pub splits-is : (bytes : List ℕ) (s : Split) → found bytes ≡ Splits s → IsSplit bytes s
unfolding found
splits-is bytes s e = start-splits (front bytes) bytes s refl e

-- what may be taken beside the script is the files
pub split-size : (limit : ℕ) (bytes : List ℕ) (s : Split) → found bytes ≡ Splits s → allowed limit bytes + length s.script ≡ limit + length bytes
split-size limit bytes s e =
    let i = splits-is bytes s e in
    let w = whole-size bytes i.after s.server i.first in
    let v = whole-size i.after s.script s.client i.second in
    let first : size_of bytes ≤ length bytes = w.0 in
    let second : size_of i.after ≤ length i.after = v.0 in
    let same : length (drop (size_of bytes) bytes) ≡ length i.after = ap length w.1 in
    let size : size_of (drop (size_of bytes) bytes) ≡ size_of i.after = ap size_of w.1 in
    let rest : length (drop (size_of i.after) i.after) ≡ length s.script = ap length v.1 in
    omega (arith, length-drop (size_of bytes) bytes, length-drop (size_of i.after) i.after)
