-- Loops over places, bands and levels, and what is written at a place.
use Rattle.std.proofs.Common.{◌≡◌, ◌∙◌, inl, inr, ℕ, zero, suc, ◌+◌, ◌-◌, ◌<◌, ◌≤◌, Bool, true, false, ◌&&◌, ℤ, pos, List, [], ◌∷◌, ◌++◌, length, take, refl, sym, ap, subst, arith, below_more, append_assoc}
use Rattle.std.specs.Prelude.{IfOk, MatchBool, Result, Ok, Err, slice_index}
use Rattle.gfx_base.specs.declared.answer.NoMemory.{NoMemory}
use Rattle.std.proofs.lemmas.Bool.{cases_lt}
use Rattle.std.proofs.lemmas.List.{append-nil, take_more, length-take-le}
use Rattle.gfx_srl.specs.Steps.{HasWritten}
use Rattle.gfx_dwt.specs.declared.layout.Transform.{Transform}
use Rattle.gfx_dwt.specs.declared.layout.Band.{Band}
use Rattle.gfx_dwt.specs.Place.{number, size, start}
use Rattle.gfx_dwt.specs.Ranges.{at}
use Rattle.gfx_quant.specs.Coefficient.{truncated}
use Rattle.gfx_quant.specs.Quant.{value_of}
use Rattle.gfx_tile_state.specs.Entries.{Pass, Nothing, way, way_at, is_low, coded, raw, pairs_from, raw_from}
use Rattle.gfx_tile_state.proofs.Bands.{band_at-is, front, front-more}
use Rattle.gfx_tile_make.specs.declared.entry.Writers.{Writers}
use Rattle.gfx_tile_make.specs.Fitting.{BandFits, BandLeaves, PlaneFits, PlaneLeaves, fits_at, place_fits}
use Rattle.gfx_tile_make.specs.Upgrade.{gained}
use Rattle.gfx_tile_make.specs.Writing.{WritesEntry, HasPassed, AreDue}

-- one more of what is tested one by one
pub one-more : (A B : ℕ → Type 0) (n : ℕ) (fits here : Bool) → MatchBool fits ((k : ℕ) → k < n → A k) ((k : ℕ) × ((k < n) × B k)) → MatchBool here (A n) (B n)
    → MatchBool (fits && here) ((k : ℕ) → k < n + 1 → A k) ((k : ℕ) × ((k < n + 1) × B k))
one-more A B n true true before now = below_more A n before now
one-more A B n true false before now = (n, (omega arith, now))
one-more A B n false here before now = (before.0, (omega (arith, before.1.0), before.1.1))

-- some more at once
pub some-more : (A B : ℕ → Type 0) (n m : ℕ) (fits here : Bool) → MatchBool fits ((k : ℕ) → k < n → A k) ((k : ℕ) × ((k < n) × B k))
    → MatchBool here ((k : ℕ) → k < m → n ≤ k → A k) ((k : ℕ) × ((k < m) × ((n ≤ k) × B k))) → n ≤ m
    → MatchBool (fits && here) ((k : ℕ) → k < m → A k) ((k : ℕ) × ((k < m) × B k))
some-more A B n m true true before now h = λ k less. elim (cases_lt k n) [ inl under ↦ before k under | inr on ↦ now k less on ]
some-more A B n m true false before now h = (now.0, (now.1.0, now.1.1.1))
some-more A B n m false here before now h = (before.0, (omega (arith, before.1.0), before.1.1))

-- ---- writing

pairs-last : (pass : Pass) (k : ℕ) (es : List ℤ) (e : ℤ) → pairs_from pass k (es ++ e ∷ []) ≡ pairs_from pass k es ++ coded (way_at pass (k + length es)) (pass.falls (k + length es)) e
unfolding pairs_from
pairs-last pass k [] e = append-nil (coded (way_at pass k) (pass.falls k) e) ∙ ap (λ j. coded (way_at pass j) (pass.falls j) e) {y = k + 0} (omega arith)
pairs-last pass k (x ∷ es) e =
    ap (λ ps. coded (way_at pass k) (pass.falls k) x ++ ps) (pairs-last pass (suc k) es e)
    ∙ sym (append_assoc (coded (way_at pass k) (pass.falls k) x) (pairs_from pass (suc k) es) (coded (way_at pass (suc k + length es)) (pass.falls (suc k + length es)) e))
    ∙ ap (λ j. (coded (way_at pass k) (pass.falls k) x ++ pairs_from pass (suc k) es) ++ coded (way_at pass j) (pass.falls j) e) {y = k + suc (length es)} (omega arith)

raw-last : (pass : Pass) (k : ℕ) (es : List ℤ) (e : ℤ) → raw_from pass k (es ++ e ∷ []) ≡ raw_from pass k es ++ raw (way_at pass (k + length es)) (pass.falls (k + length es)) e
unfolding raw_from
raw-last pass k [] e = append-nil (raw (way_at pass k) (pass.falls k) e) ∙ ap (λ j. raw (way_at pass j) (pass.falls j) e) {y = k + 0} (omega arith)
raw-last pass k (x ∷ es) e =
    ap (λ ps. raw (way_at pass k) (pass.falls k) x ++ ps) (raw-last pass (suc k) es e)
    ∙ sym (append_assoc (raw (way_at pass k) (pass.falls k) x) (raw_from pass (suc k) es) (raw (way_at pass (suc k + length es)) (pass.falls (suc k + length es)) e))
    ∙ ap (λ j. (raw (way_at pass k) (pass.falls k) x ++ raw_from pass (suc k) es) ++ raw (way_at pass j) (pass.falls j) e) {y = k + suc (length es)} (omega arith)

-- one more entry of the front
pairs-next : (pass : Pass) (entries : List ℤ) (k : ℕ) → k < length entries → pairs_from pass 0 (take (k + 1) entries) ≡ pairs_from pass 0 (take k entries) ++ coded (way_at pass k) (pass.falls k) (at entries k)
pairs-next pass entries k h =
    ap (pairs_from pass 0) (take_more entries k (pos 0) h)
    ∙ pairs-last pass 0 (take k entries) (at entries k)
    ∙ ap (λ j. pairs_from pass 0 (take k entries) ++ coded (way_at pass j) (pass.falls j) (at entries k)) {x = 0 + length (take k entries)} {y = k} (omega (arith, length-take-le k entries (omega arith)))

raw-next : (pass : Pass) (entries : List ℤ) (k : ℕ) → k < length entries → raw_from pass 0 (take (k + 1) entries) ≡ raw_from pass 0 (take k entries) ++ raw (way_at pass k) (pass.falls k) (at entries k)
raw-next pass entries k h =
    ap (raw_from pass 0) (take_more entries k (pos 0) h)
    ∙ raw-last pass 0 (take k entries) (at entries k)
    ∙ ap (λ j. raw_from pass 0 (take k entries) ++ raw (way_at pass j) (pass.falls j) (at entries k)) {x = 0 + length (take k entries)} {y = k} (omega (arith, length-take-le k entries (omega arith)))

-- an entry was written
pub passes : (pass : Pass) (entries : List ℤ) (k : ℕ) (old new : Writers) → k < length entries → HasPassed pass entries k old → WritesEntry (way_at pass k) (pass.falls k) (at entries k) old new → HasPassed pass entries (k + 1) new
passes pass entries k old new h before write = record {
  coded_are = rw (pairs-next pass entries k h) (write.coded_on (pairs_from pass 0 (take k entries)) before.coded_are);
  raw_are = write.raw_on ∙ ap (λ b. b ++ raw (way_at pass k) (pass.falls k) (at entries k)) before.raw_are ∙ sym (raw-next pass entries k h);
}

nothing-written : (width : ℕ) (entry : ℤ) (writers : Writers) → WritesEntry Nothing width entry writers writers
nothing-written width entry writers = record {
  coded_on = λ pairs h. subst (λ ps. HasWritten ps writers.srl) (sym (append-nil pairs)) h;
  raw_on = sym (append-nil writers.bits);
}

-- places that don't fall are passed over
pub passed-over : (d : ℕ) (pass : Pass) (entries : List ℤ) (k : ℕ) (writers : Writers) → k + d ≤ length entries → ((j : ℕ) → k ≤ j → j < k + d → pass.falls j ≡ 0) → HasPassed pass entries k writers → HasPassed pass entries (k + d) writers
passed-over zero pass entries k writers h none before = subst (λ j. HasPassed pass entries j writers) {x = k} {y = k + 0} (omega arith) before
passed-over (suc d) pass entries k writers h none before =
    subst (λ j. HasPassed pass entries j writers) {x = k + 1 + d} {y = k + suc d} (omega arith)
    (passed-over d pass entries (k + 1) writers (omega arith) (λ j a b. none j (omega arith) (omega arith))
    (passes pass entries k writers writers (omega arith) before
    (subst (λ w. WritesEntry w (pass.falls k) (at entries k) writers writers) (ap (λ n. way n (pass.low k) (at pass.sums k)) (sym (none k (omega arith) (omega arith)))) (nothing-written (pass.falls k) (at entries k) writers))))

take-whole : (xs : List ℤ) → take (length xs) xs ≡ xs
take-whole [] = refl
take-whole (x ∷ xs) = ap (λ l. x ∷ l) (take-whole xs)

-- all entries were written
pub passed-all : (pass : Pass) (entries : List ℤ) (writers : Writers) → length entries ≡ 4096 → HasPassed pass entries 4096 writers
    → HasWritten (pairs_from pass 0 entries) writers.srl × (writers.bits ≡ raw_from pass 0 entries)
passed-all pass entries writers long passed =
    let all : take 4096 entries ≡ entries = ap (λ n. take n entries) (sym long) ∙ take-whole entries in
    (subst (λ es. HasWritten (pairs_from pass 0 es) writers.srl) all passed.coded_are, passed.raw_are ∙ ap (raw_from pass 0) all)

-- an entry that was due was written
pub due-passes : (pass : Pass) (entries values : List ℤ) (band : Band) (before behind from to place : ℕ) (low : Bool) (old new : Writers) → low ≡ is_low band → AreDue pass entries values band before behind from to
    → from ≤ place → place < to → to ≤ 4096 → HasPassed pass entries place old
    → WritesEntry (way (before - behind) low (truncated band (at values place) before)) (before - behind) (gained band (at values place) before behind) old new
    → HasPassed pass entries (place + 1) new
due-passes pass entries values band before behind from to place low old new is due a b end passed write =
    passes pass entries place old new (omega (arith, due.all)) passed
    (rw (due.ways place a b, due.falls place a b, due.gains place a b) (subst (λ l. WritesEntry (way (before - behind) l (truncated band (at values place) before)) (before - behind) (gained band (at values place) before behind) old new) is write))

-- ---- what fits

pub tested : (from place : ℕ) (here test : Bool) → from ≤ place → here ≡ test → MatchBool here (from ≤ place → test ≡ true) ((from ≤ place) × (test ≡ false))
tested from place true test h e = λ a. sym e
tested from place false test h e = (h, sym e)

-- one more band
pub more-bands : (t : Transform) (base level : List ℕ) (kept values : List ℤ) (band : Band) (i from count b l : ℕ) (fits here : Bool) → number band ≡ i → from ≡ start t band → count ≡ size t band → b ≡ slice_index base i → l ≡ slice_index level i
    → MatchBool fits (PlaneFits t base level kept values (front t i)) (PlaneLeaves t base level kept values (front t i))
    → MatchBool here (BandFits band b l kept values from (from + count)) (BandLeaves band b l kept values from (from + count))
    → MatchBool (fits && here) (PlaneFits t base level kept values (front t (i + 1))) (PlaneLeaves t base level kept values (front t (i + 1)))
more-bands t base level kept values band i from count b l fits here is es ez eb el before now =
    let begins : from ≡ front t i = es ∙ ap (front t) is in
    let ends : from + count ≡ front t (i + 1) = ap (λ n. n + count) es ∙ ap (λ n. start t band + n) ez ∙ front-more t band ∙ ap (λ n. front t (n + 1)) is in
    subst (λ m. MatchBool (fits && here) (PlaneFits t base level kept values m) (PlaneLeaves t base level kept values m)) ends
    (some-more (λ k. place_fits t base level kept values k ≡ true) (λ k. place_fits t base level kept values k ≡ false) from (from + count) fits here
    (subst (λ m. MatchBool fits (PlaneFits t base level kept values m) (PlaneLeaves t base level kept values m)) (sym begins) before) (by here now) (omega arith))
  where
    same : (k : ℕ) → from ≤ k → k < from + count → fits_at band b l (at kept k) (at values k) ≡ place_fits t base level kept values k
    same k a h =
        ap (λ n. fits_at band n l (at kept k) (at values k)) (eb ∙ ap (slice_index base) (sym is))
        ∙ ap (λ n. fits_at band (value_of base band) n (at kept k) (at values k)) (el ∙ ap (slice_index level) (sym is))
        ∙ ap (λ c. fits_at c (value_of base c) (value_of level c) (at kept k) (at values k)) (sym (band_at-is t band k (omega (arith, es), omega (arith, es, ez))))

    by : (here : Bool) → MatchBool here (BandFits band b l kept values from (from + count)) (BandLeaves band b l kept values from (from + count))
        → MatchBool here ((k : ℕ) → k < from + count → from ≤ k → place_fits t base level kept values k ≡ true) ((k : ℕ) × ((k < from + count) × ((from ≤ k) × (place_fits t base level kept values k ≡ false))))
    by true h = λ k a o. sym (same k o a) ∙ h k a o
    by false h = (h.0, (h.1.0, (h.1.1.0, sym (same h.0 h.1.1.0 h.1.0) ∙ h.1.1.1)))

-- nothing is written at the start
pub begins : (pass : Pass) (entries : List ℤ) (writers : Writers) → HasWritten [] writers.srl → writers.bits ≡ [] → HasPassed pass entries 0 writers
unfolding pairs_from raw_from
begins pass entries writers h e = record { coded_are = h; raw_are = e }

-- what a call that gave something says
pub if-ok : (T : Type 0) (P Q : T → Type 0) (result : Result T NoMemory) → ((x : T) → P x → Q x) → IfOk result P → IfOk result Q
if-ok T P Q (Ok x) f h = f x h
if-ok T P Q (Err e) f h = tt
