-- Each step of the encoder writes a token.
use Rattle.std.proofs.Common.{◌≡◌, ◌≢◌, ℕ, ◌+◌, ◌-◌, ◌*◌, ◌/◌, ◌%◌, ◌^◌, ◌<◌, ◌≤◌, Bool, true, false, cond, ℤ, pos, List, [], ◌∷◌, ◌++◌, length, take, refl, sym, ap, ◌∙◌, arith, append_assoc, replicate, subst, min, get_or, length-append}
use Rattle.std.specs.Prelude.{bit_and}
use Rattle.std.specs.Int.RustNames.{unsigned_abs}
use Rattle.std.specs.List.{list_all}
use Rattle.std.proofs.lemmas.List.{replicate-append-replicate, take_more, length-take, take_all, append-nil}
use Rattle.std.proofs.lemmas.Nat.{one_shl, and_mask}
use Rattle.gfx_bits.specs.Bits.{digits, IsPadded}
use Rattle.gfx_rlgr.specs.declared.mode.Mode.{Mode}
use Rattle.gfx_rlgr.specs.declared.mode.Mode.TheVariants.{Rlgr1}
use Rattle.gfx_rlgr.specs.declared.params.Params.{Params}
use Rattle.gfx_rlgr.specs.Code.{Token, Run, LastRun, Value, start, k, kr, number_code, after_number, folded, is_negative, kp_after, code, after, IsToken, adds_up, terms_of}
use Rattle.gfx_rlgr.specs.Rlgr.{Encodes, codes, terms, AreTokens, AreFewest}
use Rattle.gfx_rlgr.specs.Steps.{AreWithin, WritesToken, Covers}
use Rattle.gfx_rlgr.proofs.Reading.{with_kp, within-after}
use Rattle.gfx_rlgr.proofs.Tokens.{after_all, AreNeeded, after_all-last, codes-last, terms-last, tokens-last, adds-last, needed-last, fewest-needed}

digits-one : digits 1 1 ≡ true ∷ []
unfolding digits
digits-one = refl

digits-none : digits 1 0 ≡ false ∷ []
unfolding digits
digits-none = refl

digits-sign : (negative : Bool) → digits 1 (cond negative 1 0) ≡ negative ∷ []
digits-sign true = digits-one
digits-sign false = digits-none

-- ---- a number

pub number-written : (old one two new : List Bool) (low n : ℕ) → low ≤ 10
    → one ≡ old ++ replicate (n / 2 ^ low) true → two ≡ one ++ digits 1 0 → new ≡ two ++ digits low (bit_and n (1 * 2 ^ low % 2 ^ 32 - 1))
    → new ≡ old ++ number_code low n
unfolding number_code
number-written old one two new low n h e f g =
    g
    ∙ ap (λ m. two ++ digits low m) (ap (λ m. bit_and n (m - 1)) (one_shl low 32 (omega arith)) ∙ and_mask n low)
    ∙ ap (λ b. b ++ digits low (n % 2 ^ low)) (f ∙ ap (λ b. one ++ b) digits-none ∙ ap (λ b. b ++ false ∷ []) e)
    ∙ append_assoc (old ++ replicate (n / 2 ^ low) true) (false ∷ []) (digits low (n % 2 ^ low))
    ∙ append_assoc old (replicate (n / 2 ^ low) true) (false ∷ digits low (n % 2 ^ low))

-- ---- a value

pub value-written : (old new : List Bool) (before between behind : Params) (value : ℤ) → k before ≡ 0
    → new ≡ old ++ number_code (kr before) (folded value) → between ≡ after_number before (folded value)
    → behind ≡ record between { kp = kp_after (folded value) between.kp }
    → WritesToken Rlgr1 old new before behind (value ∷ [])
unfolding code after IsToken terms_of
value-written old new before between behind value none e f g = record {
  token = Value value;
  fits = (none, refl);
  adds = refl;
  spelled = e;
  params = g ∙ ap (λ p. with_kp (kp_after (folded value) p.kp) p) f;
  shows = refl;
}

-- ---- a run that a value ends

pub last-run-written : (mode : Mode) (old one two three new : List Bool) (before moved behind : Params) (count sign : ℕ) (value : ℤ)
    → 0 < k before → count < 2 ^ k before → value ≢ pos 0 → sign ≡ cond (is_negative value) 1 0
    → one ≡ old ++ digits 1 1 → two ≡ one ++ digits (k before) count → three ≡ two ++ digits 1 sign
    → moved ≡ record before { kp = before.kp - 6 }
    → new ≡ three ++ number_code (kr moved) (unsigned_abs value - 1) → behind ≡ after_number moved (unsigned_abs value - 1)
    → WritesToken mode old new before behind (replicate count (pos 0) ++ value ∷ [])
unfolding code after IsToken terms_of
last-run-written mode old one two three new before moved behind count sign value run small some signed e f g m h i = record {
  token = LastRun count value;
  fits = (run, small, some);
  adds = refl;
  spelled =
      h ∙ ap (λ p. three ++ number_code (kr p) (unsigned_abs value - 1)) m
      ∙ ap (λ b. b ++ tail)
      (g ∙ ap (λ s. two ++ digits 1 s) signed ∙ ap (λ b. two ++ b) (digits-sign (is_negative value))
      ∙ ap (λ b. b ++ is_negative value ∷ []) (f ∙ ap (λ b. b ++ digits (k before) count) (e ∙ ap (λ b. old ++ b) digits-one)))
      ∙ append_assoc ((old ++ true ∷ []) ++ digits (k before) count) (is_negative value ∷ []) tail
      ∙ append_assoc (old ++ true ∷ []) (digits (k before) count) (is_negative value ∷ tail)
      ∙ append_assoc old (true ∷ []) (digits (k before) count ++ is_negative value ∷ tail);
  params = i ∙ ap (λ p. after_number p (unsigned_abs value - 1)) m;
  shows = refl;
}
  where
    tail : List Bool
    tail = number_code (kr before) (unsigned_abs value - 1)

-- ---- a full run

pub run-written : (mode : Mode) (old new : List Bool) (before behind : Params) → 0 < k before → new ≡ old ++ digits 1 0
    → behind ≡ record before { kp = min 80 (before.kp + 4) } → WritesToken mode old new before behind (replicate (2 ^ k before) (pos 0))
unfolding code after IsToken terms_of
run-written mode old new before behind run e f = record {
  token = Run;
  fits = run;
  adds = refl;
  spelled = e ∙ ap (λ b. old ++ b) digits-none;
  params = f;
  shows = refl;
}

-- ---- the places that a token covers

pub zeros-more : (values : List ℤ) (at next : ℕ) → at ≤ next → next < length values → get_or values next (pos 0) ≡ pos 0
    → take next values ≡ take at values ++ replicate (next - at) (pos 0) → take (next + 1) values ≡ take at values ++ replicate (next + 1 - at) (pos 0)
zeros-more values at next from h zero-here so_far =
    take_more values next (pos 0) h
    ∙ ap (λ v. take next values ++ v ∷ []) zero-here
    ∙ ap (λ vs. vs ++ pos 0 ∷ []) so_far
    ∙ append_assoc (take at values) (replicate (next - at) (pos 0)) (pos 0 ∷ [])
    ∙ ap (λ vs. take at values ++ vs) (replicate-append-replicate (next - at) 1 (pos 0))
    ∙ ap (λ n. take at values ++ replicate n (pos 0)) {y = next + 1 - at} (omega arith)

pub covers-value : (mode : Mode) (values : List ℤ) (at : ℕ) (v : ℤ) (old new : List Bool) (before behind : Params) → AreWithin before → at < length values
    → v ≡ get_or values at (pos 0) → WritesToken mode old new before behind (v ∷ []) → Covers mode values at (at + 1) old new before behind
covers-value mode values at v old new before behind within h is written = record {
  shown = v ∷ [];
  written = written;
  within = rw written.params (within-after before written.token within);
  on = (omega arith, omega arith);
  more = 0;
  gives = ap (λ x. take at values ++ x ∷ []) is ∙ sym (append-nil (take (at + 1) values) ∙ take_more values at (pos 0) h);
  none = λ _. refl;
}

pub covers-run : (mode : Mode) (values : List ℤ) (at next run : ℕ) (old new : List Bool) (before behind : Params) → AreWithin before → at < length values → 0 < run
    → next ≡ min (length values) (at + run) → take next values ≡ take at values ++ replicate (next - at) (pos 0)
    → WritesToken mode old new before behind (replicate run (pos 0)) → Covers mode values at next old new before behind
covers-run mode values at next run old new before behind within h some is zeros-are written = record {
  shown = replicate run (pos 0);
  written = written;
  within = rw written.params (within-after before written.token within);
  on = (omega arith, omega arith);
  more = run - (next - at);
  gives =
      ap (λ n. take at values ++ replicate n (pos 0)) {y = (next - at) + (run - (next - at))} (omega arith)
      ∙ ap (λ vs. take at values ++ vs) (sym (replicate-append-replicate (next - at) (run - (next - at)) (pos 0)))
      ∙ sym (append_assoc (take at values) (replicate (next - at) (pos 0)) (replicate (run - (next - at)) (pos 0)))
      ∙ ap (λ vs. vs ++ replicate (run - (next - at)) (pos 0)) (sym zeros-are);
  none = λ short. omega arith;
}

pub covers-last-run : (mode : Mode) (values : List ℤ) (at next : ℕ) (v : ℤ) (old new : List Bool) (before behind : Params) → AreWithin before → at ≤ next → next < length values
    → v ≡ get_or values next (pos 0) → take next values ≡ take at values ++ replicate (next - at) (pos 0)
    → WritesToken mode old new before behind (replicate (next - at) (pos 0) ++ v ∷ []) → Covers mode values at (next + 1) old new before behind
covers-last-run mode values at next v old new before behind within from h is zeros-are written = record {
  shown = replicate (next - at) (pos 0) ++ v ∷ [];
  written = written;
  within = rw written.params (within-after before written.token within);
  on = (omega arith, omega arith);
  more = 0;
  gives =
      sym (append_assoc (take at values) (replicate (next - at) (pos 0)) (v ∷ []))
      ∙ ap (λ vs. vs ++ v ∷ []) (sym zeros-are)
      ∙ ap (λ x. take next values ++ x ∷ []) is
      ∙ sym (append-nil (take (next + 1) values) ∙ take_more values next (pos 0) h);
  none = λ _. refl;
}

-- ---- the encoder's loop

-- the tokens written so far give the values so far
pub record Writes (mode : Mode) (n : ℕ) (values : List ℤ) (bits : List Bool) (params : Params) (at : ℕ) : Type 0 where
  pub tokens : List Token
  pub tokens_fit : AreTokens mode start tokens
  pub add_up : list_all adds_up tokens ≡ true
  pub needed : AreNeeded n start tokens
  pub spelled : bits ≡ codes start tokens
  pub params_are : params ≡ after_all start tokens
  pub within : AreWithin params
  pub more : ℕ
  pub gives : terms start tokens ≡ take at values ++ replicate more (pos 0)
  pub none : at < length values → more ≡ 0
  pub place : at ≤ length values

pub begins : (mode : Mode) (n : ℕ) (values : List ℤ) → Writes mode n values [] start 0
unfolding AreTokens AreNeeded codes terms after_all
begins mode n values = record {
  tokens = [];
  tokens_fit = tt;
  add_up = refl;
  needed = tt;
  spelled = refl;
  params_are = refl;
  within = record { kp = omega arith; krp = omega arith };
  more = 0;
  gives = refl;
  none = λ _. refl;
  place = omega arith;
}

pub covers-more : (mode : Mode) (n : ℕ) (values : List ℤ) (bits new : List Bool) (params behind : Params) (at next : ℕ) → n ≡ length values → at < length values
    → Writes mode n values bits params at → Covers mode values at next bits new params behind → Writes mode n values new behind next
covers-more mode n values bits new params behind at next count h so_far step =
    let ts : List Token = so_far.tokens in
    let t : Token = step.written.token in
    let exact : terms start ts ≡ take at values =
    so_far.gives ∙ ap (λ m. take at values ++ replicate m (pos 0)) (so_far.none h) ∙ append-nil (take at values) in
    let long : length (terms start ts) ≡ at = ap length exact ∙ length-take at values ∙ omega arith in
    record {
      tokens = ts ++ t ∷ [];
      tokens_fit = tokens-last mode start ts t so_far.tokens_fit (subst (λ p. IsToken mode p t) so_far.params_are step.written.fits);
      add_up = adds-last ts t so_far.add_up step.written.adds;
      needed = needed-last n start ts t so_far.needed (omega (arith, long));
      spelled =
          step.written.spelled ∙ ap (λ b. b ++ code params t) so_far.spelled
          ∙ ap (λ p. codes start ts ++ code p t) so_far.params_are ∙ sym (codes-last start ts t);
      params_are = step.written.params ∙ ap (λ p. after p t) so_far.params_are ∙ sym (after_all-last start ts t);
      within = step.within;
      more = step.more;
      gives =
          terms-last start ts t
          ∙ ap (λ vs. vs ++ terms_of (after_all start ts) t) exact
          ∙ ap (λ p. take at values ++ terms_of p t) (sym so_far.params_are)
          ∙ ap (λ vs. take at values ++ vs) (sym step.written.shows)
          ∙ step.gives;
      none = step.none;
      place = step.on.1;
    }

pub written-whole : (mode : Mode) (n : ℕ) (values : List ℤ) (bits : List Bool) (params : Params) (at : ℕ) → n ≡ length values → length values ≤ at
    → (done : Writes mode n values bits params at)
    → AreFewest n start done.tokens × (terms start done.tokens ≡ values ++ replicate done.more (pos 0))
written-whole mode n values bits params at count all done =
    let gives : terms start done.tokens ≡ values ++ replicate done.more (pos 0) =
    done.gives ∙ ap (λ vs. vs ++ replicate done.more (pos 0)) (take_all at values all) in
    (fewest-needed n start done.tokens done.needed (omega (arith, ap length gives, length-append values (replicate done.more (pos 0)))), gives)

pub written-bytes : (mode : Mode) (values : List ℤ) (bits : List Bool) (params : Params) (at : ℕ) (bytes : List ℕ) → 4096 ≡ length values → length values ≤ at
    → Writes mode 4096 values bits params at → IsPadded bits bytes → Encodes mode values bytes
written-bytes mode values bits params at bytes count all done padded =
    let whole = written-whole mode 4096 values bits params at count all done in
    record {
      tokens = done.tokens;
      tokens_fit = done.tokens_fit;
      add_up = done.add_up;
      fewest = whole.0;
      gives = (done.more, whole.1);
      padded = subst (λ b. IsPadded b bytes) done.spelled padded;
    }
