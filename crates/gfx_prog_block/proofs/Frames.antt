-- What stands round blocks and tiles, and which type it names.
use Rattle.std.proofs.Common.{◌≡◌, ℕ, ◌+◌, ◌-◌, ◌≤◌, ◌<◌, ◌^◌, Bool, true, cond, eqb, leb, List, [], ◌∷◌, ◌++◌, length, drop, Option, Some, None, Ok, Err, refl, sym, ap, subst, ◌∙◌, length-drop, arith, inl, inr, lit<}
use Rattle.std.proofs.lemmas.Bool.{eqb-true, cases_Bool, leb-true, le-leb}
use Rattle.std.proofs.lemmas.List.{append-nil}
use Rattle.std.specs.List.{find}
use Rattle.std.specs.Option.{ok_or}
use Rattle.gfx_base.specs.Field.{IsBytes}
use Rattle.gfx_base.specs.Results.{check}
use Rattle.gfx_base.specs.declared.refusal.Refusal.TheVariants.{BlockLength}
use Rattle.gfx_base.proofs.ResultLemmas.{and_then_ok}
use Rattle.gfx_layout.specs.declared.stop.Stop.TheVariants.{Short, Rule}
use Rattle.gfx_layout.specs.Shape.{Shape, width, digits, text, number_alone, u16, u32}
use Rattle.gfx_layout.specs.Layout.{spelled}
use Rattle.gfx_layout.specs.Reading.{read, take_one, take_bytes}
use Rattle.gfx_layout.specs.Laws.{Found}
use Rattle.gfx_layout.proofs.LayoutLaws.{Reads-layout}
use Rattle.gfx_layout.proofs.FoundLaws.{read-found}
use Rattle.gfx_prog_block.specs.declared.frame.Frame.{Frame}
use Rattle.gfx_prog_block.specs.declared.kinds.BlockType.{BlockType}
use Rattle.gfx_prog_block.specs.declared.kinds.BlockType.TheVariants as blocks
use Rattle.gfx_prog_block.specs.declared.kinds.TileType.{TileType}
use Rattle.gfx_prog_block.specs.declared.kinds.TileType.TheVariants as tiles
use Rattle.gfx_prog_block.specs.Kinds.{block_number, block_types, block_type_of, tile_number, tile_types, tile_type_of}
use Rattle.gfx_prog_block.specs.Layouts.{frame}
use Rattle.gfx_prog_block.specs.Spelling.{framed}

-- ---- a body in its frame

-- a frame is spelled by its layout
framed-spelled : (kind size : ℕ) (body : List ℕ) → spelled frame (kind, (size, (body, tt))) ≡ digits u16 kind ++ (digits u32 size ++ body)
unfolding text
framed-spelled kind size body = ap (λ t. digits u16 kind ++ (digits u32 size ++ t)) (append-nil body)

-- what is framed is read, whatever follows
pub read-framed : (kind size : ℕ) (body more : List ℕ) → kind < 2 ^ 16 → 6 + size < 2 ^ 32 → length body ≡ size → read frame (framed kind size body ++ more) ≡ Ok (record { kind = kind; body = body }, more)
read-framed kind size body more narrow short e =
    let rest : length body ≡ 6 + size - 6 = omega (arith, e) in
    let reads = (Reads-layout frame (kind, (6 + size, (body, tt))) ((narrow, tt), ((short, tt), (le-leb 6 (6 + size) (omega arith), (rest, tt))))).whole more in
    ap (λ t. read frame (t ++ more)) (sym (framed-spelled kind (6 + size) body)) ∙ reads

pub length-framed : (kind size : ℕ) (body : List ℕ) → length body ≡ size → length (framed kind size body) ≡ 6 + size
length-framed kind size body e = omega (arith, e)

-- these bytes begin with this frame
pub record IsFramed (bytes : List ℕ) (found : Frame) (more : List ℕ) : Type 0 where
  pub narrow : found.kind < 2 ^ 16
  pub short : 6 + length found.body < 2 ^ 32
  pub splits : bytes ≡ framed found.kind (length found.body) found.body ++ more

pub read-is_framed : (bytes : List ℕ) (found : Frame × List ℕ) → IsBytes bytes → read frame bytes ≡ Ok found → IsFramed bytes found.0 found.1
read-is_framed bytes found all e =
    let f : Found frame bytes found.0 found.1 = read-found frame bytes found all e in
    let (kind, (size, (body, _))) = f.parts in
    let ((narrow, _), ((short, _), (least, (rest, _)))) = f.fit in
    let six : 6 ≤ size = leb-true 6 size least in
    let whole : size ≡ 6 + length body = omega arith in
    subst (λ x. IsFramed bytes x found.1) f.made_is (record {
      narrow = narrow;
      short = subst (λ n. n < 2 ^ 32) whole short;
      splits = f.splits ∙ ap (λ t. t ++ found.1) (framed-spelled kind size body) ∙ ap (λ n. (digits u16 kind ++ (digits u32 n ++ body)) ++ found.1) whole;
    })

-- ---- how much a frame takes

taken : {X : Type 0} (need : ℕ) (from : List ℕ) (at : X) (found : X × List ℕ) → cond (leb need (length from)) (Ok (at, drop need from)) (Err Short) ≡ Ok found → need + length found.1 ≡ length from
taken need from at found e =
    elim (cases_Bool (leb need (length from))) [
      | inl enough ↦
          let given = rw enough at e in
          let same : drop need from ≡ found.1 = cc in
          omega (arith, leb-true _ _ enough, ap length same, length-drop need from)
      | inr missing ↦ let given = rw missing at e in absurd cc
    ]

take_one-takes : {T : Type 0} (shape : Shape T) (from : List ℕ) (found : T × List ℕ) → take_one shape from ≡ Ok found → width shape + length found.1 ≡ length from
unfolding take_one
take_one-takes shape from found e = taken (width shape) from _ found e

take_bytes-takes : (count : ℕ) (from : List ℕ) (found : List ℕ × List ℕ) → take_bytes count from ≡ Ok found → count + length found.1 ≡ length from
unfolding take_bytes
take_bytes-takes count from found e = taken count from _ found e

-- a frame has six bytes and more
pub read-frame-takes : (bytes : List ℕ) (found : Frame × List ℕ) → read frame bytes ≡ Ok found → 6 + length found.1 ≤ length bytes
unfolding read
read-frame-takes bytes found e =
    let kind = and_then_ok (take_one (number_alone u16) bytes) _ found e in
    let size = and_then_ok (take_one (number_alone u32) kind.0.1) _ found kind.2 in
    let least = and_then_ok (check (Rule BlockLength) (leb 6 size.0.0)) _ found size.2 in
    let body = and_then_ok (take_bytes (size.0.0 - 6) size.0.1) _ found least.2 in
    let last = body.2 in
    let same : body.0.1 ≡ found.1 = cc in
    omega (arith, take_one-takes (number_alone u16) bytes kind.0 kind.1, take_one-takes (number_alone u32) kind.0.1 size.0 size.1, take_bytes-takes (size.0.0 - 6) size.0.1 body.0 body.1, ap length same)

-- ---- types and their numbers are told from each other

-- what is found passes the test
find_passes : {X : Type 0} (test : X → Bool) (xs : List X) (x : X) → find test xs ≡ Some x → test x ≡ true
find_passes test [] x e = absurd cc
find_passes test (y ∷ ys) x e =
    elim (cases_Bool (test y)) [
      | inl passes ↦ let found : cond (test y) (Some y) (find test ys) ≡ Some x = e in let first = rw passes at found in let same : y ≡ x = cc in ap test (sym same) ∙ passes
      | inr fails ↦ let found : cond (test y) (Some y) (find test ys) ≡ Some x = e in find_passes test ys x (rw fails at found)
    ]

-- a look-up that gave something found it
some_found : {X E : Type 0} (found : Option X) (e : E) (x : X) → ok_or found e ≡ Ok x → found ≡ Some x
some_found None e x given = absurd cc
some_found (Some y) e x given = let same : y ≡ x = cc in ap (λ z. Some z) same

pub block_type_of-again : (kind : BlockType) → block_type_of (block_number kind) ≡ Some kind
unfolding block_type_of
block_type_of-again blocks.Sync = refl
block_type_of-again blocks.FrameBegin = refl
block_type_of-again blocks.FrameEnd = refl
block_type_of-again blocks.Context = refl
block_type_of-again blocks.Region = refl

pub block_number-found : {E : Type 0} (number : ℕ) (e : E) (kind : BlockType) → ok_or (block_type_of number) e ≡ Ok kind → block_number kind ≡ number
unfolding block_type_of
block_number-found number e kind given = eqb-true _ _ (find_passes (λ k. eqb (block_number k) number) block_types kind (some_found _ e kind given))

pub block_number-fits : (kind : BlockType) → block_number kind < 2 ^ 16
block_number-fits blocks.Sync = lit< tt
block_number-fits blocks.FrameBegin = lit< tt
block_number-fits blocks.FrameEnd = lit< tt
block_number-fits blocks.Context = lit< tt
block_number-fits blocks.Region = lit< tt

pub tile_type_of-again : (kind : TileType) → tile_type_of (tile_number kind) ≡ Some kind
unfolding tile_type_of
tile_type_of-again tiles.Simple = refl
tile_type_of-again tiles.First = refl
tile_type_of-again tiles.Upgrade = refl

pub tile_number-found : {E : Type 0} (number : ℕ) (e : E) (kind : TileType) → ok_or (tile_type_of number) e ≡ Ok kind → tile_number kind ≡ number
unfolding tile_type_of
tile_number-found number e kind given = eqb-true _ _ (find_passes (λ k. eqb (tile_number k) number) tile_types kind (some_found _ e kind given))

pub tile_number-fits : (kind : TileType) → tile_number kind < 2 ^ 16
tile_number-fits tiles.Simple = lit< tt
tile_number-fits tiles.First = lit< tt
tile_number-fits tiles.Upgrade = lit< tt
