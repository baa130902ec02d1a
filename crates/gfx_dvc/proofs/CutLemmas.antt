-- What is written of a message: how it is put, and that it is the message whole.
use Rattle.std.proofs.Common.{◌≡◌, ℕ, zero, suc, ◌+◌, ◌*◌, ◌≤◌, ◌<◌, ◌^◌, true, List, [], ◌∷◌, ◌++◌, length, take, drop, map, Result, Ok, Err, refl, sym, ap, ◌∙◌, subst, append_assoc, length-append, length-take, length-drop, suc-mul, inl, inr, arith}
use Rattle.std.proofs.lemmas.Bool.{le-leb, lt-leb, lt-ltb, cond-true, cond-false, cases_lt}
use Rattle.std.proofs.lemmas.List.{append-nil, take-append-drop, take_at, take-take, take_all}
use Rattle.std.proofs.lemmas.Grind.{div_ceil_times}
use Rattle.std.specs.Int.{div_ceil}
use Rattle.std.specs.List.{concat, flat_map, AllByRecursion}
use Rattle.gfx_base.specs.declared.TheConstants.{MOST_MESSAGE}
use Rattle.gfx_layout.specs.Shape.{text}
use Rattle.gfx_layout.specs.Layout.{Parts, Fit}
use Rattle.gfx_layout.specs.Writing.{Puts}
use Rattle.gfx_layout.proofs.LayoutLaws.{Reads-layout}
use Rattle.gfx_dvc.specs.declared.profile.TheConstants.{CHANNEL, DATA_BYTE, NARROW_BYTE, WIDE_BYTE, MOST_LONE, MOST_NARROW, MOST_DATA, MOST_NARROW_DATA, MOST_WIDE_DATA}
use Rattle.gfx_dvc.specs.Format.{header, fragment_of, read_fragment}
use Rattle.gfx_dvc.specs.Joining.{is_length}
use Rattle.gfx_dvc.specs.Joined.{first_of, data_of, said, data_all, EndsInBytes, IsMessage}
use Rattle.gfx_dvc.proofs.LeadLemmas.{any_cutting}
use Rattle.gfx_dvc.specs.Cutting.{data_fragment, narrow_fragment, wide_fragment, pieces, data_fragments, several, fragments_of, recorded_fragment, recorded, IsRecordable, IsCut}

-- ---- DATA, one after another

-- the bytes of a record of so many pieces
abbrev pub recorded_pieces : ℕ → ℕ → List ℕ → List ℕ
recorded_pieces most count bytes = flat_map recorded_fragment (map data_fragment (pieces most count bytes))

-- what is put, and what is still due
pub record Sent (most n : ℕ) (old out bytes rest : List ℕ) (count : ℕ) : Type 0 where
  pub kept : take (length old) out ≡ old
  pub due : out ++ recorded_pieces most n rest ≡ old ++ recorded_pieces most count bytes

pub sent_none : (most : ℕ) (old bytes : List ℕ) (count n : ℕ) → n ≡ count → Sent most n old old bytes bytes count
sent_none most old bytes count n e = record { kept = take_all (length old) old (omega arith); due = ap (λ z. old ++ recorded_pieces most z bytes) e }

kept_more : (old out more : List ℕ) → take (length old) out ≡ old → take (length old) (out ++ more) ≡ old
kept_more old out more kept =
    let long : length old ≤ length out = omega (arith, ap length kept, length-take (length old) out) in
    sym (take-take (length old) (length out) (out ++ more) long) ∙ ap (take (length old)) (take_at out more (length out) refl) ∙ kept

pub sent_more : (most n m : ℕ) (old out new bytes rest piece after : List ℕ) (count : ℕ) → n ≡ suc m → piece ≡ take most rest → after ≡ drop most rest → new ≡ out ++ recorded_fragment (data_fragment piece) → Sent most n old out bytes rest count → Sent most m old new bytes after count
unfolding pieces
sent_more most n m old out new bytes rest piece after count e front_is back_is put sent =
    let more : recorded_pieces most n rest ≡ recorded_fragment (data_fragment (take most rest)) ++ recorded_pieces most m (drop most rest) = ap (λ z. recorded_pieces most z rest) e in
    let same : new ++ recorded_pieces most m after ≡ out ++ recorded_pieces most n rest =
    rw (put, front_is, back_is, more) (append_assoc out (recorded_fragment (data_fragment (take most rest))) (recorded_pieces most m (drop most rest)))
    in
    record { kept = rw put (kept_more old out (recorded_fragment (data_fragment piece)) sent.kept); due = same ∙ sent.due }

pub sent_all : (most n : ℕ) (old out bytes rest : List ℕ) (count : ℕ) → n ≡ 0 → Sent most n old out bytes rest count → out ≡ old ++ recorded_pieces most count bytes
unfolding pieces
sent_all most n old out bytes rest count e sent =
    sym (append-nil out) ∙ ap (λ z. out ++ recorded_pieces most z rest) (sym e) ∙ sent.due

-- ---- what is written is read

abbrev data_parts : Parts header
data_parts = (DATA_BYTE, inl (CHANNEL, inr tt))

abbrev narrow_parts : ℕ → Parts header
narrow_parts total = (NARROW_BYTE, inl (CHANNEL, inl (inr (inl (total, tt)))))

abbrev wide_parts : ℕ → Parts header
wide_parts total = (WIDE_BYTE, inl (CHANNEL, inl (inr (inr (total, tt)))))

data_fit : Fit header data_parts
data_fit = ((tt, tt), (refl, (refl, (refl, ((tt, tt), (refl, tt))))))

narrow_fit : (total : ℕ) → total < 2 ^ 16 → Fit header (narrow_parts total)
narrow_fit total fits = ((tt, tt), (refl, (refl, (refl, ((tt, tt), (refl, (refl, (refl, ((fits, tt), tt)))))))))

wide_fit : (total : ℕ) → total < 2 ^ 32 → Fit header (wide_parts total)
wide_fit total fits = ((tt, tt), (refl, (refl, (refl, ((tt, tt), (refl, (refl, (refl, ((fits, tt), tt)))))))))

pub data-read : (piece : List ℕ) → read_fragment (data_fragment piece) ≡ Ok (data_of CHANNEL piece)
unfolding read_fragment data_fragment text
data-read piece = ap fragment_of ((Reads-layout header data_parts data_fit).whole piece)

pub narrow-read : (total : ℕ) (piece : List ℕ) → total < 2 ^ 16 → read_fragment (narrow_fragment total piece) ≡ Ok (first_of CHANNEL total piece)
unfolding read_fragment narrow_fragment text
narrow-read total piece fits = ap fragment_of ((Reads-layout header (narrow_parts total) (narrow_fit total fits)).whole piece)

pub wide-read : (total : ℕ) (piece : List ℕ) → total < 2 ^ 32 → read_fragment (wide_fragment total piece) ≡ Ok (first_of CHANNEL total piece)
unfolding read_fragment wide_fragment text
wide-read total piece fits = ap fragment_of ((Reads-layout header (wide_parts total) (wide_fit total fits)).whole piece)

said-data : (all : List (List ℕ)) → said (map data_fragment all) ≡ data_all CHANNEL all
said-data [] = refl
said-data (piece ∷ all) = rw (data-read piece, said-data all) refl

-- ---- pieces put together

concat-pieces : (most count : ℕ) (bytes : List ℕ) → length bytes ≤ count * most → concat (pieces most count bytes) ≡ bytes
unfolding pieces
concat-pieces most zero [] within = refl
concat-pieces most zero (b ∷ bytes) within = absurd (omega arith)
concat-pieces most (suc count) bytes within =
    ap (λ z. take most bytes ++ z) (concat-pieces most count (drop most bytes) (omega (arith, suc-mul count most, length-drop most bytes)))
    ∙ take-append-drop most bytes

ends-pieces : (most count : ℕ) (bytes : List ℕ) → 0 < most → count * most < length bytes + most → EndsInBytes (pieces most count bytes)
unfolding pieces
ends-pieces most zero bytes some few = tt
ends-pieces most (suc zero) bytes some few = omega (arith, length-take most bytes)
ends-pieces most (suc (suc count)) bytes some few =
    ends-pieces most (suc count) (drop most bytes) some (omega (arith, suc-mul (suc count) most, suc-mul count most, length-drop most bytes))

-- ---- each may be recorded

data-recordable : (piece : List ℕ) → length piece ≤ MOST_DATA → IsRecordable (data_fragment piece)
unfolding data_fragment
data-recordable piece few = (omega arith, omega arith)

data-fit : (count : ℕ) (bytes : List ℕ) → AllByRecursion IsRecordable (map data_fragment (pieces MOST_DATA count bytes))
unfolding pieces
data-fit zero bytes = tt
data-fit (suc count) bytes = (data-recordable (take MOST_DATA bytes) (omega (arith, length-take MOST_DATA bytes)), data-fit count (drop MOST_DATA bytes))

-- ---- the whole

a_length : (message : List ℕ) → 0 < length message → length message ≤ MOST_MESSAGE → is_length (length message) ≡ true
a_length message some fits = rw (lt-ltb 0 (length message) some, le-leb (length message) MOST_MESSAGE fits) refl

-- a DATA_FIRST as full as can be
record Begins (first : List ℕ → List ℕ) (room : ℕ) (message : List ℕ) : Type 0 where
  reads : (piece : List ℕ) → read_fragment (first piece) ≡ Ok (first_of CHANNEL (length message) piece)
  fits : (piece : List ℕ) → length piece ≤ room → IsRecordable (first piece)

several-cut : (first : List ℕ → List ℕ) (room : ℕ) (message : List ℕ) → Begins first room message → is_length (length message) ≡ true → IsMessage CHANNEL (several first room message) message × AllByRecursion IsRecordable (several first room message)
unfolding several data_fragments
several-cut first room message begins fits =
    let rest = drop room message in
    let t = div_ceil_times (length rest) MOST_DATA (omega arith) in
    let all = pieces MOST_DATA (div_ceil (length rest) MOST_DATA) rest in (
      inr (record {
        first = take room message;
        others = all;
        gathers = record {
          says = rw (begins.reads (take room message), said-data all) refl;
          gathered = ap (λ z. take room message ++ z) (concat-pieces MOST_DATA _ rest t.0) ∙ take-append-drop room message;
        };
        fits = fits;
        ends = ends-pieces MOST_DATA _ rest (omega arith) t.1;
      }),
      (begins.fits (take room message) (omega (arith, length-take room message)), data-fit _ rest),
    )

narrow-begins : (message : List ℕ) → length message ≤ MOST_NARROW → Begins (narrow_fragment (length message)) MOST_NARROW_DATA message
unfolding narrow_fragment
narrow-begins message narrow = record { reads = λ piece. narrow-read (length message) piece (omega arith); fits = λ piece few. (omega arith, omega arith) }

wide-begins : (message : List ℕ) → length message ≤ MOST_MESSAGE → Begins (wide_fragment (length message)) MOST_WIDE_DATA message
unfolding wide_fragment
wide-begins message fits = record { reads = λ piece. wide-read (length message) piece (omega arith); fits = λ piece few. (omega arith, omega arith) }

-- by how many bytes it has
pub lone-is : (message : List ℕ) → length message ≤ MOST_LONE → fragments_of message ≡ data_fragment message ∷ []
unfolding fragments_of
lone-is message short = cond-true _ _ _ (le-leb (length message) MOST_LONE short)

pub narrow-is : (message : List ℕ) → MOST_LONE < length message → length message ≤ MOST_NARROW → fragments_of message ≡ several (narrow_fragment (length message)) MOST_NARROW_DATA message
unfolding fragments_of
narrow-is message long narrow = cond-false _ _ _ (lt-leb (length message) MOST_LONE long) ∙ cond-true _ _ _ (le-leb (length message) MOST_NARROW narrow)

pub wide-is : (message : List ℕ) → MOST_LONE < length message → MOST_NARROW < length message → fragments_of message ≡ several (wide_fragment (length message)) MOST_WIDE_DATA message
unfolding fragments_of
wide-is message long wide = cond-false _ _ _ (lt-leb (length message) MOST_LONE long) ∙ cond-false _ _ _ (lt-leb (length message) MOST_NARROW wide)

cut-from : (message : List ℕ) (all : List (List ℕ)) → fragments_of message ≡ all → IsMessage CHANNEL all message × AllByRecursion IsRecordable all → IsCut message
cut-from message all e h = record {
  whole = rw e h.0;
  fit = rw e h.1;
  joins = λ joiner behind idle. rw e (any_cutting CHANNEL joiner all message behind idle h.0);
}

lone-cut : (message : List ℕ) → 0 < length message → length message ≤ MOST_LONE → IsMessage CHANNEL (data_fragment message ∷ []) message × AllByRecursion IsRecordable (data_fragment message ∷ [])
lone-cut message some short =
    (inl (record { says = ap (λ z. z ∷ []) (data-read message); some = some }), (data-recordable message (omega arith), tt))

pub is_cut : (message : List ℕ) → 0 < length message → length message ≤ MOST_MESSAGE → IsCut message
is_cut message some fits =
    elim (cases_lt MOST_LONE (length message)) [
      | inr short ↦ cut-from message _ (lone-is message short) (lone-cut message some short)
      | inl long ↦ elim (cases_lt MOST_NARROW (length message)) [
        | inr narrow ↦ cut-from message _ (narrow-is message long narrow) (several-cut _ _ message (narrow-begins message narrow) (a_length message some fits))
        | inl wide ↦ cut-from message _ (wide-is message long wide) (several-cut _ _ message (wide-begins message fits) (a_length message some fits))
      ]
    ]

-- ---- put one behind the other

puts_after : {E : Type 0} (result : Result (Unit {0}) E) (old mid new first others : List ℕ) → mid ≡ old ++ first → Puts result mid new others → Puts result old new (first ++ others)
puts_after (Ok x) old mid new first others e is = is ∙ ap (λ z. z ++ others) e ∙ append_assoc old first others
puts_after (Err x) old mid new first others e is =
    let long : length old ≤ length mid = omega (arith, ap length e, length-append old first) in
    sym (take-take (length old) (length mid) new long) ∙ ap (take (length old)) (is ∙ e) ∙ take_at old first (length old) refl

-- a DATA_FIRST, and the DATA behind it
pub puts_several : {E : Type 0} (result : Result (Unit {0}) E) (first : List ℕ → List ℕ) (room : ℕ) (message piece rest old mid new : List ℕ) → piece ≡ take room message → rest ≡ drop room message
    → mid ≡ old ++ recorded_fragment (first piece) → Puts result mid new (flat_map recorded_fragment (data_fragments MOST_DATA rest))
    → Puts result old new (flat_map recorded_fragment (several first room message))
unfolding several
puts_several result first room message piece rest old mid new front_is back_is put is =
    puts_after result old mid new _ _ (put ∙ ap (λ z. old ++ recorded_fragment (first z)) front_is)
    (subst (λ z. Puts result mid new (flat_map recorded_fragment (data_fragments MOST_DATA z))) back_is is)

-- all of a message, by how many bytes it has
pub puts_recorded : {E : Type 0} (result : Result (Unit {0}) E) (message old new : List ℕ) (all : List (List ℕ)) → fragments_of message ≡ all → Puts result old new (flat_map recorded_fragment all) → Puts result old new (recorded message)
unfolding recorded
puts_recorded result message old new all e is = subst (λ z. Puts result old new (flat_map recorded_fragment z)) (sym e) is

pub puts_lone : {E : Type 0} (result : Result (Unit {0}) E) (message old new : List ℕ) → length message ≤ MOST_LONE → Puts result old new (recorded_fragment (data_fragment message)) → Puts result old new (recorded message)
puts_lone result message old new short is =
    puts_recorded result message old new _ (lone-is message short)
    (subst (Puts result old new) (sym (append-nil (recorded_fragment (data_fragment message)))) is)
