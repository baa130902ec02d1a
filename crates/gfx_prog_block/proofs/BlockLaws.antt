-- Blocks: what is spelled is read, and what is read is spelled so.
use Rattle.std.proofs.Common.{◌≡◌, ℕ, zero, suc, ◌+◌, ◌≤◌, ◌<◌, ◌^◌, true, false, eqb, List, [], ◌∷◌, ◌++◌, length, Result, Ok, Err, refl, sym, ap, subst, ◌∙◌, length-append, arith, inl, inr}
use Rattle.std.proofs.lemmas.Bool.{eqb-true, cases_Bool}
use Rattle.std.proofs.lemmas.List.{append-nil, nil_from_length}
use Rattle.std.specs.List.{AllByRecursion}
use Rattle.std.specs.Option.{ok_or}
use Rattle.std.specs.Prelude.{IfOk}
use Rattle.gfx_base.specs.Field.{IsBytes}
use Rattle.gfx_base.specs.Outcome.{Gives}
use Rattle.gfx_base.specs.Results.{and_then}
use Rattle.gfx_base.specs.declared.answer.Cause.{Cause}
use Rattle.gfx_base.specs.declared.refusal.Refusal.{Refusal}
use Rattle.gfx_base.specs.declared.refusal.Refusal.TheVariants.{BlockUnknown}
use Rattle.gfx_base.proofs.ResultLemmas.{and_then_ok}
use Rattle.gfx_layout.specs.declared.stop.Stop.{Stop}
use Rattle.gfx_layout.specs.declared.stop.Stop.TheVariants.{Rule}
use Rattle.gfx_layout.specs.Layout.{spelled}
use Rattle.gfx_layout.specs.Reading.{read, read_whole}
use Rattle.gfx_layout.proofs.FoundLaws.{read_whole-spelled, read_whole-found, length-spelled}
use Rattle.gfx_prog_block.specs.declared.block.Block.{Block}
use Rattle.gfx_prog_block.specs.declared.block.Block.TheVariants as blocks
use Rattle.gfx_prog_block.specs.declared.kinds.BlockType.{BlockType}
use Rattle.gfx_prog_block.specs.declared.kinds.BlockType.TheVariants as types
use Rattle.gfx_prog_block.specs.declared.region.Region.{Region}
use Rattle.gfx_prog_block.specs.declared.region.TheConstants.{TILE_SIZE}
use Rattle.gfx_prog_block.specs.Kinds.{block_number, block_type_of}
use Rattle.gfx_prog_block.specs.Layouts.{frame, sync, frame_begin, frame_end, context, region}
use Rattle.gfx_prog_block.specs.Reading.{region_of, block_of, block_at, begins_block, blocks_within, blocks_of, refused}
use Rattle.gfx_prog_block.specs.Fitting.{IsSpellable, Fits}
use Rattle.gfx_prog_block.specs.Spelling.{framed, region_parts, region_body, region_measure, block_type, block_body, block_measure, block_text, sync_contents, spelling, Stands, Spells}
use Rattle.gfx_prog_block.specs.Laws.{ReadIsSpelled, SpelledIsRead, WrittenIsSpelled, OneSpelling}
use Rattle.gfx_prog_block.proofs.Frames.{read-framed, length-framed, IsFramed, read-is_framed, block_type_of-again, block_number-found, block_number-fits}
use Rattle.gfx_prog_block.proofs.BlockLoops.{blocks-some, blocks_within-none, block_at-takes, block_begins, some_left}
use Rattle.gfx_prog_block.proofs.TileLaws.{bytes_behind, bytes_framed}
use Rattle.gfx_prog_block.proofs.RegionLaws.{context_of-text, IsContext, context_of-found, region_of-text, IsRegion, region_of-found}

-- ---- one block

-- a body has as many bytes as it says
pub length-block_body : (contents : List ℕ) (block : Block) → length contents ≡ 6 → length (block_body contents block) ≡ block_measure block
unfolding region_measure region_body
length-block_body contents blocks.Sync six = six
length-block_body contents (blocks.FrameBegin index regions) six = length-spelled frame_begin (index, (regions, tt))
length-block_body contents blocks.FrameEnd six = refl
length-block_body contents (blocks.Context id flags) six = length-spelled context (id, (TILE_SIZE, (flags, tt)))
length-block_body contents (blocks.Region r) six = length-spelled region (region_parts r)

block-short : (block : Block) → Fits block → 6 + block_measure block < 2 ^ 32
block-short blocks.Sync fits = omega arith
block-short (blocks.FrameBegin index regions) fits = omega arith
block-short blocks.FrameEnd fits = omega arith
block-short (blocks.Context id flags) fits = omega arith
block-short (blocks.Region r) fits = omega (arith, fits.spellable.short)

-- what is spelled is read
block_of-text : (contents : List ℕ) (block : Block) → length contents ≡ 6 → Fits block → block_of (block_type block) (block_body contents block) ≡ Ok block
unfolding block_of and_then
block_of-text contents blocks.Sync six fits = ap (read_whole sync) (sym (append-nil contents)) ∙ read_whole-spelled sync (contents, tt) (six, tt)
block_of-text contents (blocks.FrameBegin index regions) six fits = read_whole-spelled frame_begin (index, (regions, tt)) ((fits.numbers.0, tt), ((fits.numbers.1, tt), tt))
block_of-text contents blocks.FrameEnd six fits = read_whole-spelled frame_end tt tt
block_of-text contents (blocks.Context id flags) six fits = context_of-text id flags
block_of-text contents (blocks.Region r) six fits = rw (region_of-text r fits.spellable fits.numbers.0 fits.numbers.1) refl

pub block_at-stands : (block : Block) (bytes more : List ℕ) → Fits block → Stands block bytes more → block_at bytes ≡ Ok (block, more)
unfolding block_at block_text and_then
block_at-stands block bytes more fits s =
    let kind = block_type block in
    let body = block_body s.contents block in
    rw (
      s.splits,
      read-framed (block_number kind) (block_measure block) body more (block_number-fits kind) (block-short block fits) (length-block_body s.contents block s.six),
      block_type_of-again kind,
      block_of-text s.contents block s.six fits,
    ) refl

-- these bytes are the body of this block
record IsBlockBody (kind : BlockType) (body : List ℕ) (block : Block) : Type 0 where
  same : block_type block ≡ kind
  contents : List ℕ
  six : length contents ≡ 6
  fits : Fits block
  spelled_so : body ≡ block_body contents block

-- a region's body, with room for the length of its frame
is_region_body : (body : List ℕ) (r : Region) → 6 + length body < 2 ^ 32 → IsRegion body r → IsBlockBody types.Region body (blocks.Region r)
unfolding region_measure region_body
is_region_body body r short is = record {
  same = refl;
  contents = sync_contents;
  six = refl;
  fits = record {
    numbers = (is.areas, is.placed);
    spellable = record {
      rects = is.rects;
      quants = is.quants;
      levels = is.levels;
      tiles = is.tiles;
      each = is.each;
      short = omega (arith, short, ap length is.spelled_so, length-spelled region (region_parts r));
    };
  };
  spelled_so = is.spelled_so;
}

is_context_body : (body : List ℕ) (block : Block) → IsContext body block → IsBlockBody types.Context body block
is_context_body body block is =
    subst (λ b. IsBlockBody types.Context body b) (sym is.is)
    (record { same = refl; contents = sync_contents; six = refl; fits = record { numbers = tt; spellable = tt }; spelled_so = is.spelled_so })

block_of-found : (kind : BlockType) (body : List ℕ) (block : Block) → IsBytes body → 6 + length body < 2 ^ 32 → block_of kind body ≡ Ok block → IsBlockBody kind body block
unfolding block_of
block_of-found types.Sync body block all short e =
    let found = read_whole-found sync body block all e in
    subst (λ b. IsBlockBody types.Sync body b) found.made_is (record {
      same = refl;
      contents = found.parts.0;
      six = found.fit.0;
      fits = record { numbers = tt; spellable = tt };
      spelled_so = found.splits ∙ append-nil (found.parts.0 ++ []) ∙ append-nil found.parts.0;
    })
block_of-found types.FrameBegin body block all short e =
    let found = read_whole-found frame_begin body block all e in
    subst (λ b. IsBlockBody types.FrameBegin body b) found.made_is (record {
      same = refl;
      contents = sync_contents;
      six = refl;
      fits = record { numbers = (found.fit.0.0, found.fit.1.0.0); spellable = tt };
      spelled_so = found.splits ∙ append-nil (spelled frame_begin found.parts);
    })
block_of-found types.FrameEnd body block all short e =
    let found = read_whole-found frame_end body block all e in
    subst (λ b. IsBlockBody types.FrameEnd body b) found.made_is (record {
      same = refl;
      contents = sync_contents;
      six = refl;
      fits = record { numbers = tt; spellable = tt };
      spelled_so = found.splits;
    })
block_of-found types.Context body block all short e = is_context_body body block (context_of-found body block all e)
block_of-found types.Region body block all short e =
    let r = and_then_ok (region_of body) _ block e in
    let last = r.2 in
    let same : blocks.Region r.0 ≡ block = cc in
    subst (λ b. IsBlockBody types.Region body b) same (is_region_body body r.0 short (region_of-found body r.0 all r.1))

-- a body in its frame is a block
block_of_body : (number : ℕ) (body more : List ℕ) (kind : BlockType) (block : Block) → block_number kind ≡ number → (b : IsBlockBody kind body block) → framed number (length body) body ++ more ≡ block_text b.contents block ++ more
unfolding block_text
block_of_body number body more kind block e b =
    let named : number ≡ block_number (block_type block) = sym e ∙ ap block_number (sym b.same) in
    let sized : length body ≡ block_measure block = ap length b.spelled_so ∙ length-block_body b.contents block b.six in
    λ i. framed (named i) (sized i) (b.spelled_so i) ++ more

-- this block stands at the front, and fits
record IsBlock (bytes : List ℕ) (block : Block) (more : List ℕ) : Type 0 where
  stands : Stands block bytes more
  fits : Fits block

block_at-found : (bytes : List ℕ) (found : Block × List ℕ) → IsBytes bytes → block_at bytes ≡ Ok found → IsBlock bytes found.0 found.1
unfolding block_at
block_at-found bytes found all e =
    let framing = and_then_ok (read frame bytes) _ found e in
    let number = framing.0.0.kind in
    let body = framing.0.0.body in
    let more = framing.0.1 in
    let f : IsFramed bytes framing.0.0 more = read-is_framed bytes framing.0 all framing.1 in
    let kind = and_then_ok (ok_or (block_type_of number) (Rule BlockUnknown)) _ found framing.2 in
    let read_body = and_then_ok (block_of kind.0 body) _ found kind.2 in
    let inside : IsBytes body = bytes_framed number (length body) body more (subst IsBytes f.splits all) in
    let b = block_of-found kind.0 body read_body.0 inside f.short read_body.1 in
    let last = read_body.2 in
    let same : (read_body.0, more) ≡ found = cc in
    subst (λ x. IsBlock bytes x.0 x.1) same (record {
      stands = record {
        contents = b.contents;
        six = b.six;
        splits = f.splits ∙ block_of_body number body more kind.0 read_body.0 (block_number-found number (Rule BlockUnknown) kind.0 kind.1) b;
      };
      fits = b.fits;
    })

-- ---- blocks one after another

length-stands : (block : Block) (bytes more : List ℕ) → Stands block bytes more → 0 < length bytes
unfolding block_text
length-stands block bytes more s =
    let body = block_body s.contents block in
    omega (
      arith,
      ap length s.splits,
      length-append (framed (block_number (block_type block)) (block_measure block) body) more,
      length-framed (block_number (block_type block)) (block_measure block) body (length-block_body s.contents block s.six),
    )

blocks-spelled : (all : List Block) (bytes : List ℕ) → AllByRecursion Fits all → Spells bytes all → blocks_within (length bytes) bytes ≡ Ok all
unfolding blocks_within and_then
blocks-spelled [] bytes fits e = rw e refl
blocks-spelled (block ∷ all) bytes fits (more, (stands, others)) =
    blocks-some bytes (length-stands block bytes more stands)
    ∙ rw (block_at-stands block bytes more fits.0 stands, blocks-spelled all more fits.1 others) refl

pub blocks_of-spells : SpelledIsRead
unfolding blocks_of
blocks_of-spells bytes all fits s = ap refused (blocks-spelled all bytes fits s)

-- what is found behind a first block
found_behind : (most : ℕ) (bytes : List ℕ) (all : List Block) → IsBytes bytes → length bytes ≤ suc most
    → and_then (block_at bytes) (λ first. and_then (blocks_within most first.1) (λ others. Ok (first.0 ∷ others))) ≡ Ok all
    → ((more : List ℕ) (others : List Block) → IsBytes more → length more ≤ most → blocks_within most more ≡ Ok others → Spells more others × AllByRecursion Fits others)
    → Spells bytes all × AllByRecursion Fits all
unfolding block_text
found_behind most bytes all are few e finds =
    let first = and_then_ok (block_at bytes) _ all e in
    let others = and_then_ok (blocks_within most first.0.1) _ all first.2 in
    let b : IsBlock bytes first.0.0 first.0.1 = block_at-found bytes first.0 are first.1 in
    let text = block_text b.stands.contents first.0.0 in
    let behind : IsBytes first.0.1 = bytes_behind text first.0.1 (subst IsBytes b.stands.splits are) in
    let short : 6 + length first.0.1 ≤ length bytes = block_at-takes bytes first.0 first.1 in
    let rest = finds first.0.1 others.0 behind (omega arith) others.1 in
    let last = others.2 in
    let same : first.0.0 ∷ others.0 ≡ all = cc in
    subst (λ x. Spells bytes x × AllByRecursion Fits x) same ((first.0.1, (b.stands, rest.0)), (b.fits, rest.1))

blocks_within-found : (most : ℕ) (bytes : List ℕ) (all : List Block) → IsBytes bytes → length bytes ≤ most → blocks_within most bytes ≡ Ok all → Spells bytes all × AllByRecursion Fits all
unfolding blocks_within
blocks_within-found zero bytes all are few e =
    let same : [] ≡ all = cc in
    subst (λ x. Spells bytes x × AllByRecursion Fits x) same (nil_from_length bytes (omega arith), tt)
blocks_within-found (suc most) bytes all are few e =
    elim (cases_Bool (eqb (length bytes) 0)) [
      | inl empty ↦
          let given = rw empty at e in
          let same : [] ≡ all = cc in
          subst (λ x. Spells bytes x × AllByRecursion Fits x) same (nil_from_length bytes (eqb-true _ _ empty), tt)
      | inr some ↦ found_behind most bytes all are few (rw some at e) (blocks_within-found most)
    ]

refused-ok : (found : Result (List Block) Stop) (all : List Block) → refused found ≡ Ok all → found ≡ Ok all
refused-ok (Ok x) all e = let same : x ≡ all = cc in ap (λ z. Ok z) same
refused-ok (Err stop) all e = absurd cc

pub blocks_of-read : ReadIsSpelled
unfolding blocks_of
blocks_of-read bytes all are e = blocks_within-found (length bytes) bytes all are (omega arith) (refused-ok _ all e)

-- where bytes are some blocks, one begins
pub blocks_begin : (bytes : List ℕ) (all : List Block) → blocks_of bytes ≡ Ok all → eqb (length all) 0 ≡ false → begins_block bytes ≡ true
unfolding blocks_of
blocks_begin bytes all e some =
    let found : blocks_within (length bytes) bytes ≡ Ok all = refused-ok _ all e in
    elim (cases_Bool (eqb (length bytes) 0)) [
      | inl none ↦
          let given : ◌≡◌ {A = Result (List Block) Stop} (Ok []) (Ok all) = sym (blocks_within-none (length bytes) bytes (eqb-true _ _ none)) ∙ found in
          let same : [] ≡ all = cc in
          let any : eqb (length all) 0 ≡ true = ap (λ l. eqb (length l) 0) (sym same) in
          absurd cc
      | inr more ↦
          let first = and_then_ok (block_at bytes) _ all (sym (blocks-some bytes (some_left bytes more)) ∙ found) in
          block_begins bytes first.0 first.1
    ]

-- so of a call that gave what is due
pub given-spells : (bytes : List ℕ) (given : Result (List Block) (Cause Refusal)) → IsBytes bytes → Gives (λ all. all) given (blocks_of bytes) → IfOk given (λ all. Spells bytes all × AllByRecursion Fits all)
given-spells bytes (Ok all) are due = blocks_of-read bytes all are due
given-spells bytes (Err fault) are due = tt

-- ---- what is written

pub spelling-spells : WrittenIsSpelled
unfolding spelling
spelling-spells [] = refl
spelling-spells (block ∷ all) = (spelling all, (record { contents = sync_contents; six = refl; splits = refl }, spelling-spells all))

pub one-spelling : OneSpelling
one-spelling some others fits fit e =
    let first : blocks_of (spelling some) ≡ Ok some = blocks_of-spells (spelling some) some fits (spelling-spells some) in
    let second : blocks_of (spelling others) ≡ Ok others = blocks_of-spells (spelling others) others fit (spelling-spells others) in
    let same : Ok some ≡ blocks_of (spelling others) = sym first ∙ ap blocks_of e in
    cc

-- what fits can be spelled
pub all_spellable : (all : List Block) → AllByRecursion Fits all → AllByRecursion IsSpellable all
all_spellable [] fits = tt
all_spellable (block ∷ all) fits = (fits.0.spellable, all_spellable all fits.1)
