-- What reading piece by piece comes to.
use Rattle.std.proofs.Common.{◌≡◌, ℕ, ◌+◌, ◌-◌, ◌≤◌, ◌<◌, List, [], ◌++◌, length, take, Option, Some, None, Ok, Err, refl, sym, ap, ◌∙◌, subst, append_assoc, arith, length-append}
use Rattle.std.proofs.lemmas.List.{append-nil, take-append-le}
use Rattle.std.proofs.Math.Seq.{take-append_seam}
use Rattle.gfx_base.specs.Stream.{Change, change, Tells, Gave}
use Rattle.gfx_base.proofs.Streams.{Tells-Gave, Tells-Keeps}
use Rattle.gfx_input.specs.declared.fault.InputFault.TheVariants as fault
use Rattle.gfx_input.specs.declared.fault.InputFault.{InputFault}
use Rattle.gfx_input.specs.declared.fault.TakeFault.TheVariants as broke
use Rattle.gfx_input.specs.declared.fault.TakeFault.{TakeFault}
use Rattle.gfx_input.specs.declared.reading.TheConstants.{PIECE}
use Rattle.gfx_input.specs.declared.reading.Read.{Read}
use Rattle.gfx_input.specs.declared.reading.Read.TheVariants as read
use Rattle.gfx_input.specs.declared.taker.Taken.{Taken}
use Rattle.gfx_input.specs.declared.taker.Taken.TheVariants as taken
use Rattle.gfx_input.specs.Reading.{fault_of, TakesPiece, rest_of, Reads, input_of, EndsBy, Wrote, BreaksOff, ReadsInput, Got, GoesOn, EndsWith, EndsHere, ReadsNone, BreaksHere, turn_by, Turns}

-- one turn ------------------------------------------------------------------------------------------

-- nothing is left where a read gave nothing
gave_nothing : (old new : Option (List ℕ)) → Gave old [] new → rest_of new ≡ []
gave_nothing None None g = refl
gave_nothing None (Some new) g = g refl
gave_nothing (Some old) None g = absurd g
gave_nothing (Some old) (Some new) g = g.1 refl

-- a read gave the front of its buffer
pub got_piece : (i : Change) (buffer : List ℕ) (count : ℕ) → i.now ≡ i.before → Gave i.old (take count buffer) i.new → length (take count buffer) ≡ count → count ≤ PIECE → Got i (take count buffer)
got_piece i buffer count same gave size few = record { count = same; few = omega arith; gave = gave }

-- the input is at its end
pub ends_whole : {S : Type 0} (stands stops : S → List ℕ → Type 0) (limit : ℕ) (i : Change) (bytes : List ℕ) (new : S) → i.now ≡ i.before → Gave i.old [] i.new → stands new bytes
    → EndsHere stands stops limit i bytes read.Whole new
ends_whole stands stops limit i bytes new count gave there = record {
  piece = [];
  got = record { count = count; few = omega arith; gave = gave };
  ends = (refl, gave_nothing i.old i.new gave, there);
}

-- it goes on past the limit
pub ends_past : {S : Type 0} (stands stops : S → List ℕ → Type 0) (limit : ℕ) (i : Change) (bytes piece : List ℕ) (new : S) → Got i piece → length piece ≡ 1 → length bytes ≡ limit → stands new bytes
    → EndsHere stands stops limit i bytes read.TooLong new
ends_past stands stops limit i bytes piece new got one full there = record { piece = piece; got = got; ends = (one, full, there) }

-- a piece was given away
pub turns_given : {S : Type 0} (stands stops : S → List ℕ → Type 0) (written : List ℕ → List ℕ) (answer : Taken) (limit count : ℕ) (i o : Change) (bytes piece : List ℕ) (new : S) → Got i piece
    → length piece ≡ count → 0 < count → length bytes + count ≤ limit → TakesPiece stands stops (written (bytes ++ piece)) (Ok answer) new (bytes ++ piece) o
    → Turns stands stops written (Ok (turn_by answer count)) limit i o bytes new
turns_given stands stops written taken.More limit count i o bytes piece new got as_many some within there =
    record { piece = piece; got = got; as_many = as_many; some = some; within = within; stands_on = there }
turns_given stands stops written taken.Stopped limit count i o bytes piece new got as_many some within there =
    record { piece = piece; got = got; ends = (omega arith, there) }

-- what it was given to broke off
pub turns_broken : {S : Type 0} (stands stops : S → List ℕ → Type 0) (written : List ℕ → List ℕ) (f : TakeFault) (limit : ℕ) (i o : Change) (bytes piece : List ℕ) (new : S) → Got i piece
    → length bytes + length piece ≤ limit → TakesPiece stands stops (written (bytes ++ piece)) (Err f) new (bytes ++ piece) o → Turns stands stops written (Err (fault_of f)) limit i o bytes new
turns_broken stands stops written broke.Write limit i o bytes piece new got within there =
    record { piece = piece; got = got; within = within; broke = there }
turns_broken stands stops written broke.Memory limit i o bytes piece new got within there =
    record { piece = piece; got = got; within = within; broke = there }

-- many turns ----------------------------------------------------------------------------------------

-- whatever is told to be left now, it was told behind these bytes at first
abbrev pub Took : Option (List ℕ) → List ℕ → Option (List ℕ) → Type 0
Took old bytes new = (rest : List ℕ) → Tells new rest → Tells old (bytes ++ rest)

-- what is told of a source is what it has left
pub Tells_rest : (left : Option (List ℕ)) → Tells left (rest_of left)
Tells_rest None = tt
Tells_rest (Some rest) = refl

-- one more piece
took_more : (a b c : Option (List ℕ)) (bytes piece : List ℕ) → Took a bytes b → Gave b piece c → Took a (bytes ++ piece) c
took_more a b c bytes piece took gave = λ rest t.
    subst (λ z. Tells a z) (sym (append_assoc bytes piece rest)) (took (piece ++ rest) (Tells-Gave b c piece rest gave t))

-- the input as far as it was read and taken
pub record Reading {S : Type 0} (stands : S → List ℕ → Type 0) (allowed : List ℕ → ℕ) (i : Change) (count : ℕ) (taker : S) : Type 0 where
  pub bytes : List ℕ
  pub sized : length bytes ≡ count
  pub within : count ≤ allowed bytes
  pub there : stands taker bytes
  pub counted : i.now ≡ i.before
  pub told : Took i.old bytes i.new

-- nothing was read yet
pub reading_none : {S : Type 0} (stands : S → List ℕ → Type 0) (allowed : List ℕ → ℕ) (n : ℕ) (left : Option (List ℕ)) (taker : S) → stands taker [] → Reading stands allowed (change n n left left) 0 taker
reading_none stands allowed n left taker there =
    record { bytes = []; sized = refl; within = omega arith; there = there; counted = refl; told = λ rest t. t }

-- what a taker knows of the fronts of what it has taken, and of how much it may take
abbrev pub Fronts : {S : Type 0} → (S → List ℕ → Type 0) → (List ℕ → Type 0) → Type 0
Fronts {S} stands is_fine = (taker : S) (bytes : List ℕ) (n : ℕ) → stands taker bytes → is_fine (take n bytes)

abbrev pub Grows : (List ℕ → ℕ) → Type 0
Grows allowed = (bytes more : List ℕ) → allowed bytes ≤ allowed (bytes ++ more)

abbrev pub Settles : (List ℕ → ℕ) → Type 0
Settles allowed = (bytes more : List ℕ) → length bytes ≡ allowed bytes → allowed (bytes ++ more) ≡ length bytes

pub reading_more : {S : Type 0} (said stands : S → List ℕ → Type 0) (allowed : List ℕ → ℕ) (limit x y z count sum : ℕ) (a b c : Option (List ℕ)) (old new : S) → Grows allowed
    → (r : Reading said allowed (change x y a b) sum old) → limit ≡ allowed r.bytes → GoesOn stands limit (change y z b c) r.bytes count new → Reading stands allowed (change x z a c) (sum + count) new
reading_more said stands allowed limit x y z count sum a b c old new grows r is g = record {
  bytes = r.bytes ++ g.piece;
  sized = let size = r.sized in let few = g.as_many in omega (arith, length-append r.bytes g.piece);
  within = let size = r.sized in let within = g.within in let more = grows r.bytes g.piece in omega arith;
  there = g.stands_on;
  counted = g.got.count ∙ r.counted;
  told = took_more a b c r.bytes g.piece r.told g.got.gave;
}

-- without its last piece all that was read is fine
early_piece : {S : Type 0} (stands : S → List ℕ → Type 0) (is_fine : List ℕ → Type 0) (taker : S) (bytes piece : List ℕ) → Fronts stands is_fine → stands taker bytes → length piece ≤ PIECE
    → is_fine (take (length (bytes ++ piece) - PIECE) (bytes ++ piece))
early_piece stands is_fine taker bytes piece fronts there few =
    let k = length (bytes ++ piece) - PIECE in
    let below : k ≤ length bytes = omega (arith, length-append bytes piece) in
    subst is_fine (sym (take-append-le k bytes piece below)) (fronts taker bytes k there)

-- what was read when a piece ends it
reads_piece : {S : Type 0} (stands : S → List ℕ → Type 0) (is_fine : List ℕ → Type 0) (allowed : List ℕ → ℕ) (x y z sum : ℕ) (a b c : Option (List ℕ)) (old : S) → Fronts stands is_fine
    → (r : Reading stands allowed (change x y a b) sum old) (piece : List ℕ) → Got (change y z b c) piece → length (r.bytes ++ piece) ≤ allowed ((r.bytes ++ piece) ++ rest_of c) + 1 → Reads is_fine allowed (change x z a c)
reads_piece stands is_fine allowed x y z sum a b c old fronts r piece got few = record {
  taken = r.bytes ++ piece;
  few = few;
  told = took_more a b c r.bytes piece r.told got.gave (rest_of c) (Tells_rest c);
  early = early_piece stands is_fine old r.bytes piece fronts r.there got.few;
}

-- where a piece lies within the limit, all that was read does, and whatever follows
in_limit : (allowed : List ℕ → ℕ) (limit : ℕ) (bytes piece rest : List ℕ) → Grows allowed → limit ≡ allowed bytes → length bytes + length piece ≤ limit → length (bytes ++ piece) ≤ allowed ((bytes ++ piece) ++ rest)
in_limit allowed limit bytes piece rest grows is within =
    let first = grows bytes piece in let then = grows (bytes ++ piece) rest in omega (arith, length-append bytes piece)

-- the reading ends: what its last turn says of this piece is what is to be said of all
record Last {S : Type 0} (stands stops : S → List ℕ → Type 0) (allowed : List ℕ → ℕ) (last : Read) (bytes piece rest : List ℕ) (new : S) : Type 0 where
  few : length (bytes ++ piece) ≤ allowed ((bytes ++ piece) ++ rest) + 1
  ends : EndsBy stands stops last (allowed ((bytes ++ piece) ++ rest)) ((bytes ++ piece) ++ rest) rest new

last_whole : {S : Type 0} (stands stops : S → List ℕ → Type 0) (allowed : List ℕ → ℕ) (bytes piece rest : List ℕ) (new : S) → length bytes ≤ allowed bytes → piece ≡ [] → rest ≡ [] → stands new bytes
    → Last stands stops allowed read.Whole bytes piece rest new
last_whole stands stops allowed bytes piece rest new within none left there =
    let all : bytes ≡ (bytes ++ piece) ++ rest = sym (append-nil bytes) ∙ ap (λ z. bytes ++ z) (sym none) ∙ sym (append-nil (bytes ++ piece)) ∙ ap (λ z. (bytes ++ piece) ++ z) (sym left) in
    let some : bytes ≡ bytes ++ piece = sym (append-nil bytes) ∙ ap (λ z. bytes ++ z) (sym none) in
    let fits : length ((bytes ++ piece) ++ rest) ≤ allowed ((bytes ++ piece) ++ rest) = subst (λ z. length z ≤ allowed z) all within in
    record { few = omega (arith, length-append (bytes ++ piece) rest); ends = (fits, left, subst (stands new) all there) }

last_past : {S : Type 0} (stands stops : S → List ℕ → Type 0) (allowed : List ℕ → ℕ) (bytes piece rest : List ℕ) (new : S) → Settles allowed → length piece ≡ 1 → length bytes ≡ allowed bytes → stands new bytes
    → Last stands stops allowed read.TooLong bytes piece rest new
last_past stands stops allowed bytes piece rest new settles one full there =
    let whole = (bytes ++ piece) ++ rest in
    let limit : allowed whole ≡ length bytes = ap allowed (append_assoc bytes piece rest) ∙ settles bytes (piece ++ rest) full in
    let front : take (allowed whole) whole ≡ bytes = ap (λ n. take n whole) limit ∙ ap (take (length bytes)) (append_assoc bytes piece rest) ∙ take-append_seam bytes (piece ++ rest) in
    record {
      few = omega (arith, length-append bytes piece);
      ends = (omega (arith, length-append bytes piece, length-append (bytes ++ piece) rest), subst (stands new) (sym front) there);
    }

last_stopped : {S : Type 0} (stands stops : S → List ℕ → Type 0) (allowed : List ℕ → ℕ) (limit : ℕ) (bytes piece rest : List ℕ) (new : S) → Grows allowed → limit ≡ allowed bytes → length bytes + length piece ≤ limit
    → stops new (bytes ++ piece) → Last stands stops allowed read.Stopped bytes piece rest new
last_stopped stands stops allowed limit bytes piece rest new grows is within there =
    let fits = in_limit allowed limit bytes piece rest grows is within in
    record { few = omega arith; ends = record { front = bytes ++ piece; behind = rest; cut = refl; within = fits; stopped = there } }

last_by : {S : Type 0} (stands stops : S → List ℕ → Type 0) (allowed : List ℕ → ℕ) (limit : ℕ) (i : Change) (last : Read) (bytes piece : List ℕ) (new : S) → Grows allowed → Settles allowed → limit ≡ allowed bytes
    → length bytes ≤ allowed bytes → EndsWith stands stops last limit i bytes piece new → Last stands stops allowed last bytes piece (rest_of i.new) new
last_by stands stops allowed limit i read.Whole bytes piece new grows settles is within (none, left, there) = last_whole stands stops allowed bytes piece (rest_of i.new) new within none left there
last_by stands stops allowed limit i read.TooLong bytes piece new grows settles is within (one, full, there) = last_past stands stops allowed bytes piece (rest_of i.new) new settles one (full ∙ is) there
last_by stands stops allowed limit i read.Stopped bytes piece new grows settles is within (few, there) = last_stopped stands stops allowed limit bytes piece (rest_of i.new) new grows is few there

pub reads_end : {S : Type 0} (stands stops : S → List ℕ → Type 0) (is_fine : List ℕ → Type 0) (written : List ℕ → List ℕ) (allowed : List ℕ → ℕ) (limit x y z sum : ℕ) (a b c : Option (List ℕ)) (p o : Change) (old new : S) (last : Read)
    → Fronts stands is_fine → Grows allowed → Settles allowed → (r : Reading (Wrote stands written p) allowed (change x y a b) sum old) → limit ≡ allowed r.bytes
    → EndsHere (Wrote stands written o) (Wrote stops written o) limit (change y z b c) r.bytes last new → ReadsInput stands stops is_fine written (Ok last) allowed (change x z a c) o new
unfolding reads_piece
reads_end stands stops is_fine written allowed limit x y z sum a b c p o old new last fronts grows settles r is e =
    let sized = r.sized in let within = r.within in
    let l = last_by (Wrote stands written o) (Wrote stops written o) allowed limit (change y z b c) last r.bytes e.piece new grows settles is (omega arith) e.ends in (
      reads_piece (Wrote stands written p) is_fine allowed x y z sum a b c old (λ taker bytes n h. fronts taker bytes n h.0) r e.piece e.got l.few,
      e.got.count ∙ r.counted,
      l.ends,
    )

-- a read failed
reads_failed : {S : Type 0} (stands stops : S → List ℕ → Type 0) (is_fine : List ℕ → Type 0) (written : List ℕ → List ℕ) (allowed : List ℕ → ℕ) (x y z sum : ℕ) (a b c : Option (List ℕ)) (p o : Change) (old new : S)
    → Fronts stands is_fine → Grows allowed → (r : Reading (Wrote stands written p) allowed (change x y a b) sum old) → ReadsNone (change y z b c) o (written r.bytes)
    → ReadsInput stands stops is_fine written (Err fault.Read) allowed (change x z a c) o new
reads_failed stands stops is_fine written allowed x y z sum a b c p o old new fronts grows r none =
    let sized = r.sized in let within = r.within in let more = grows r.bytes (rest_of c) in
    let same : y ≡ x = r.counted in let falls = none.falls in
    let fits : length r.bytes ≤ allowed (r.bytes ++ rest_of c) = omega arith in (
      record {
        taken = r.bytes;
        few = omega arith;
        told = r.told (rest_of c) (Tells-Keeps b c (rest_of c) none.kept (Tells_rest c));
        early = fronts old r.bytes (length r.bytes - PIECE) r.there.0;
      },
      ((omega arith), λ below. let up : y < z = none.rose below in omega arith),
      record { front = r.bytes; behind = rest_of c; cut = refl; within = fits; broke = none.wrote },
    )

-- what was given a piece broke off
reads_broken : {S : Type 0} (stands stops : S → List ℕ → Type 0) (is_fine : List ℕ → Type 0) (written : List ℕ → List ℕ) (f : InputFault) (allowed : List ℕ → ℕ) (limit x y z sum : ℕ) (a b c : Option (List ℕ)) (p o : Change) (old : S)
    → Fronts stands is_fine → Grows allowed → (r : Reading (Wrote stands written p) allowed (change x y a b) sum old) → limit ≡ allowed r.bytes → BreaksHere written f limit (change y z b c) r.bytes o
    → (reads : Reads is_fine allowed (change x z a c)) × (z ≡ x) × BreaksOff written f (allowed (input_of reads)) (input_of reads) o
unfolding reads_piece
reads_broken stands stops is_fine written f allowed limit x y z sum a b c p o old fronts grows r is broken =
    let fits = in_limit allowed limit r.bytes broken.piece (rest_of c) grows is broken.within in (
      reads_piece (Wrote stands written p) is_fine allowed x y z sum a b c old (λ taker bytes n h. fronts taker bytes n h.0) r broken.piece broken.got (omega arith),
      broken.got.count ∙ r.counted,
      record { front = r.bytes ++ broken.piece; behind = rest_of c; cut = refl; within = fits; broke = broken.broke },
    )

-- a turn that failed
pub reads_fault : {S : Type 0} (stands stops : S → List ℕ → Type 0) (is_fine : List ℕ → Type 0) (written : List ℕ → List ℕ) (allowed : List ℕ → ℕ) (limit x y z sum : ℕ) (a b c : Option (List ℕ)) (p o : Change) (old new : S) (f : InputFault)
    → Fronts stands is_fine → Grows allowed → (r : Reading (Wrote stands written p) allowed (change x y a b) sum old) → limit ≡ allowed r.bytes
    → Turns stands stops written (Err f) limit (change y z b c) o r.bytes new → ReadsInput stands stops is_fine written (Err f) allowed (change x z a c) o new
reads_fault stands stops is_fine written allowed limit x y z sum a b c p o old new fault.Read fronts grows r is turn =
    reads_failed stands stops is_fine written allowed x y z sum a b c p o old new fronts grows r turn
reads_fault stands stops is_fine written allowed limit x y z sum a b c p o old new fault.Write fronts grows r is turn =
    reads_broken stands stops is_fine written fault.Write allowed limit x y z sum a b c p o old fronts grows r is turn
reads_fault stands stops is_fine written allowed limit x y z sum a b c p o old new fault.Memory fronts grows r is turn =
    reads_broken stands stops is_fine written fault.Memory allowed limit x y z sum a b c p o old fronts grows r is turn
