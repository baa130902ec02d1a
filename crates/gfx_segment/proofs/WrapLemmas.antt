-- The writer's form: how long it is, and that it is read back whatever follows.
use Rattle.std.proofs.Common.{◌≡◌, ℕ, ◌+◌, ◌-◌, ◌*◌, ◌≤◌, ◌<◌, zero, suc, List, [], ◌∷◌, ◌++◌, length, take, drop, refl, sym, ap, ◌∙◌, append_assoc, arith, length-append, length-drop, length-take}
use Rattle.std.specs.Int.{w16, w32, to_le_bytes, div_ceil}
use Rattle.std.proofs.lemmas.List.{append-nil}
use Rattle.std.proofs.lemmas.Grind.{div_ceil_times}
use Rattle.std.proofs.lemmas.Bool.{le-leb, lt-leb, cond-true, cond-false}
use Rattle.gfx_segment.specs.declared.profile.TheConstants.{MOST_BLOCK, SINGLE, MULTIPART, RDP8}
use Rattle.gfx_segment.specs.Framing.{sized_block, sized_blocks, message_of, prefixed, wrapped}
use Rattle.gfx_segment.specs.Pieces.{Keeps}
use Rattle.gfx_segment.proofs.PutLemmas.{keeps_same, keeps_more, keeps_after}

-- how long it is ------------------------------------------------------------------------------------

-- so many blocks hold that much content
pub record Holds (most count : ℕ) (content : List ℕ) : Type 0 where
  pub all : length content ≤ count * most

length-sized_block : (content : List ℕ) → length (sized_block content) ≡ length content + 5
unfolding sized_block
length-sized_block content = omega arith

pub Holds-drop : (most count : ℕ) (content : List ℕ) → Holds most (suc count) content → Holds most count (drop most content)
Holds-drop most count content h = record { all = let all : length content ≤ suc count * most = h.all in omega (arith, length-drop most content) }

pub length-sized_blocks : (most count : ℕ) (content : List ℕ) → Holds most count content → length (sized_blocks most count content) ≡ length content + count * 5
unfolding sized_blocks
length-sized_blocks most zero content h = let all : length content ≤ 0 * most = h.all in omega arith
length-sized_blocks most (suc count) content h =
    let others = length-sized_blocks most count (drop most content) (Holds-drop most count content h) in
    omega (arith, others, length-append (sized_block (take most content)) (sized_blocks most count (drop most content)), length-sized_block (take most content), length-take most content, length-drop most content)

-- the blocks, one after the other ----------------------------------------------------------------------

-- what is put, and the blocks that are still due
pub record Sent (most n : ℕ) (old out content rest : List ℕ) (count : ℕ) : Type 0 where
  pub kept : Keeps old out
  pub due : out ++ sized_blocks most n rest ≡ old ++ sized_blocks most count content

pub sent_none : (most : ℕ) (old content : List ℕ) (count n : ℕ) → n ≡ count → Sent most n old old content content count
sent_none most old content count n e = record { kept = keeps_same old old refl; due = ap (λ z. old ++ sized_blocks most z content) e }

pub sent_more : (most n m : ℕ) (old out new content rest block after : List ℕ) (count : ℕ) → n ≡ suc m → block ≡ take most rest → after ≡ drop most rest → new ≡ out ++ sized_block block → Sent most n old out content rest count → Sent most m old new content after count
unfolding sized_blocks
sent_more most n m old out new content rest block after count e front_is back_is put sent =
    let more : sized_blocks most n rest ≡ sized_block (take most rest) ++ sized_blocks most m (drop most rest) = ap (λ z. sized_blocks most z rest) e in
    let same : new ++ sized_blocks most m after ≡ out ++ sized_blocks most n rest =
    rw (put, front_is, back_is, more) (append_assoc out (sized_block (take most rest)) (sized_blocks most m (drop most rest)))
    in
    record { kept = keeps_after old out new sent.kept (keeps_more out new (sized_block block) put); due = same ∙ sent.due }

pub sent_all : (most n : ℕ) (old out content rest : List ℕ) (count : ℕ) → n ≡ 0 → Sent most n old out content rest count → out ≡ old ++ sized_blocks most count content
unfolding sized_blocks
sent_all most n old out content rest count e sent =
    sym (append-nil out) ∙ ap (λ z. out ++ sized_blocks most z rest) (sym e) ∙ sent.due

-- content in two pieces: what is cut off at its front, and what is left of it
take_joined : (most : ℕ) (head tail : List ℕ) → take most (head ++ tail) ≡ take most head ++ take (most - length head) tail
take_joined zero head tail = let e : 0 - length head ≡ 0 = omega arith in rw e refl
take_joined (suc n) [] tail = let e : suc n - 0 ≡ suc n = omega arith in rw e refl
take_joined (suc n) (x ∷ xs) tail = let e : suc n - suc (length xs) ≡ n - length xs = omega arith in rw e (ap (λ z. x ∷ z) (take_joined n xs tail))

drop_joined : (most : ℕ) (head tail : List ℕ) → drop most (head ++ tail) ≡ drop most head ++ drop (most - length head) tail
drop_joined zero head tail = let e : 0 - length head ≡ 0 = omega arith in rw e refl
drop_joined (suc n) [] tail = let e : suc n - 0 ≡ suc n = omega arith in rw e refl
drop_joined (suc n) (x ∷ xs) tail = let e : suc n - suc (length xs) ≡ n - length xs = omega arith in rw e (drop_joined n xs tail)

-- the room behind what the first piece gave
room_left : (most : ℕ) (head first : List ℕ) → first ≡ take most head → most - length first ≡ most - length head
room_left most head first e = omega (arith, ap length e, length-take most head)

pub cut_joined : (most : ℕ) (head tail first second : List ℕ) → first ≡ take most head → second ≡ take (most - length first) tail → first ++ second ≡ take most (head ++ tail)
cut_joined most head tail first second front_is back_is =
    rw (back_is, room_left most head first front_is, front_is) (sym (take_joined most head tail))

pub left_joined : (most : ℕ) (head tail first head_after tail_after : List ℕ) → first ≡ take most head → head_after ≡ drop most head → tail_after ≡ drop (most - length first) tail → head_after ++ tail_after ≡ drop most (head ++ tail)
left_joined most head tail first head_after tail_after front_is head_is tail_is =
    rw (tail_is, room_left most head first front_is, head_is) (sym (drop_joined most head tail))

-- what is put in the whole ------------------------------------------------------------------------------

pub message_single : (most : ℕ) (content : List ℕ) → length content ≤ most → message_of most content ≡ SINGLE ∷ RDP8 ∷ content
unfolding message_of
message_single most content few = cond-true _ _ _ (le-leb (length content) most few)

pub wrapped_single : (content : List ℕ) → length content ≤ MOST_BLOCK → wrapped content ≡ to_le_bytes w32 (length content + 1 + 1) ++ (SINGLE ∷ RDP8 ∷ content)
unfolding wrapped prefixed
wrapped_single content few =
    rw (message_single MOST_BLOCK content few) (ap (λ z. to_le_bytes w32 z ++ (SINGLE ∷ RDP8 ∷ content)) (omega arith))

-- how many blocks there are: enough, and few
pub record Counted (most : ℕ) (content : List ℕ) (count : ℕ) : Type 0 where
  pub holds : Holds most count content
  pub few : count * most < length content + most

pub counted : (most : ℕ) (content : List ℕ) → 0 < most → Counted most content (div_ceil (length content) most)
counted most content some =
    let t = div_ceil_times (length content) most some in
    record { holds = record { all = t.0 }; few = t.1 }

pub message_segments : (most : ℕ) (content : List ℕ) → most < length content → message_of most content ≡ MULTIPART ∷ (to_le_bytes w16 (div_ceil (length content) most) ++ (to_le_bytes w32 (length content) ++ sized_blocks most (div_ceil (length content) most) content))
unfolding message_of
message_segments most content more = cond-false _ _ _ (lt-leb (length content) most more)

pub length-message_segments : (most : ℕ) (content : List ℕ) → 0 < most → most < length content → length (message_of most content) ≡ 7 + length content + div_ceil (length content) most * 5
length-message_segments most content some more =
    ap length (message_segments most content more)
    ∙ omega (arith, length-sized_blocks most (div_ceil (length content) most) content (counted most content some).holds)

pub wrapped_segments : (content : List ℕ) (count : ℕ) → count ≡ div_ceil (length content) MOST_BLOCK → MOST_BLOCK < length content → wrapped content ≡ to_le_bytes w32 (7 + length content + count * 5) ++ ((MULTIPART ∷ []) ++ (to_le_bytes w16 count ++ (to_le_bytes w32 (length content) ++ sized_blocks MOST_BLOCK count content)))
unfolding wrapped prefixed
wrapped_segments content count e more =
    rw e (ap (λ z. to_le_bytes w32 z ++ message_of MOST_BLOCK content) (length-message_segments MOST_BLOCK content (omega arith) more)
    ∙ ap (λ z. to_le_bytes w32 (7 + length content + div_ceil (length content) MOST_BLOCK * 5) ++ z) (message_segments MOST_BLOCK content more))
