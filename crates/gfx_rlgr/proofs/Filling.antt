-- What the decoder's loop keeps.
use Rattle.std.proofs.Common.{◌≡◌, ℕ, ◌+◌, ◌<◌, ◌≤◌, Bool, true, false, cond, ◌&&◌, ℤ, pos, negsuc, List, [], ◌∷◌, ◌++◌, map, length, take, refl, sym, ap, ◌∙◌, arith, subst, min, replicate, ◌^◌, nat_le, Ok, Err}
use Rattle.std.specs.Prelude.{max}
use Rattle.std.specs.Int.RustNames.{unsigned_abs}
use Rattle.std.specs.List.{list_all}
use Rattle.std.proofs.lemmas.List.{map-append, length-map, take-map, take_all, length-append, length-replicate}
use Rattle.std.proofs.lemmas.Nat.{pow_pos}
use Rattle.gfx_base.specs.declared.refusal.Refusal.TheVariants.{CoefficientRange}
use Rattle.gfx_bits.specs.Bits.{Spelled}
use Rattle.gfx_bits.proofs.Laws.{spelled-join}
use Rattle.gfx_rlgr.specs.declared.mode.Mode.{Mode}
use Rattle.gfx_rlgr.specs.declared.params.Params.{Params}
use Rattle.gfx_rlgr.specs.Bound.{greatest}
use Rattle.gfx_rlgr.specs.Code.{Token, Run, LastRun, Value, Pair, start, k, code, after, IsToken, terms_of}
use Rattle.gfx_rlgr.specs.Rlgr.{Reading, answer, codes, terms, AreTokens, AreFewest, in_range}
use Rattle.gfx_rlgr.specs.Steps.{AreWithin, ReadsToken, kept, filled}
use Rattle.gfx_rlgr.proofs.Places.{filled-whole}
use Rattle.gfx_rlgr.proofs.Reading.{within-read}
use Rattle.gfx_rlgr.proofs.Tokens.{after_all, AreNeeded, after_all-last, codes-last, terms-last, tokens-last, needed-last, fewest-needed}

-- tokens that stand at the front of the bits, as far as the decoder has come
pub record Fills (mode : Mode) (n : ℕ) (bits rest : List Bool) (params : Params) (at : ℕ) (out : List ℤ) (most : ℕ) : Type 0 where
  pub tokens : List Token
  pub tokens_fit : AreTokens mode start tokens
  pub needed : AreNeeded n start tokens
  pub spelled : Spelled bits (codes start tokens) rest
  pub params_are : params ≡ after_all start tokens
  pub within : AreWithin params
  pub at_is : at ≡ min n (length (map kept (terms start tokens)))
  pub shows : out ≡ filled n (map kept (terms start tokens))
  pub most_is : most ≡ greatest (take n (map kept (terms start tokens)))

pub begun : (mode : Mode) (n : ℕ) (bits : List Bool) (out : List ℤ) → out ≡ filled n [] → Fills mode n bits bits start 0 out 0
unfolding AreTokens AreNeeded codes terms after_all greatest
begun mode n bits out is = record {
  tokens = [];
  tokens_fit = tt;
  needed = tt;
  spelled = refl;
  params_are = refl;
  within = record { kp = omega arith; krp = omega arith };
  at_is = omega arith;
  shows = is;
  most_is = ap greatest (sym (take_all n [] (omega arith)));
}

pub goes-on : (mode : Mode) (n : ℕ) (bits rest rest' : List Bool) (params params' : Params) (at at' : ℕ) (out out' shown : List ℤ) (magnitude most : ℕ)
    → (so_far : Fills mode n bits rest params at out most) → at < n → ReadsToken mode rest rest' params params' shown
    → ((values : List ℤ) → out ≡ filled n values → at ≡ length values
    → (out' ≡ filled n (values ++ shown)) × (at' ≡ min n (length (values ++ shown))) × (greatest (take n (values ++ shown)) ≡ max (greatest values) magnitude))
    → Fills mode n bits rest' params' at' out' (max most magnitude)
goes-on mode n bits rest rest' params params' at at' out out' shown magnitude most so_far wanted read placed =
    let ts : List Token = so_far.tokens in
    let values : List ℤ = map kept (terms start ts) in
    let here : at ≡ length values = omega (arith, so_far.at_is) in
    let put = placed values so_far.shows here in
    let whole : map kept (terms start (ts ++ read.token ∷ [])) ≡ values ++ shown =
    ap (map kept) (terms-last start ts read.token)
    ∙ map-append kept (terms start ts) (terms_of (after_all start ts) read.token)
    ∙ ap (λ vs. values ++ vs) (sym (read.shows ∙ ap (λ p. map kept (terms_of p read.token)) so_far.params_are)) in
    record {
      tokens = ts ++ read.token ∷ [];
      tokens_fit = tokens-last mode start ts read.token so_far.tokens_fit (subst (λ p. IsToken mode p read.token) so_far.params_are read.fits);
      needed = needed-last n start ts read.token so_far.needed (omega (arith, length-map (terms start ts) kept));
      spelled = rw (codes-last start ts read.token)
          (spelled-join bits (codes start ts) rest (code (after_all start ts) read.token) rest' so_far.spelled (subst (λ p. Spelled rest (code p read.token) rest') so_far.params_are read.spelled));
      params_are = read.params ∙ ap (λ p. after p read.token) so_far.params_are ∙ sym (after_all-last start ts read.token);
      within = within-read mode rest rest' params params' shown so_far.within read;
      at_is = put.1 ∙ ap (λ vs. min n (length vs)) (sym whole);
      shows = put.0 ∙ ap (filled n) (sym whole);
      most_is =
          ap (λ m. max m magnitude) (so_far.most_is ∙ ap greatest (take_all n values (omega arith)))
          ∙ sym put.2 ∙ ap (λ vs. greatest (take n vs)) (sym whole);
    }

shown-some : (params : Params) (token : Token) → 0 < length (terms_of params token)
unfolding terms_of
shown-some params Run = omega (arith, length-replicate (2 ^ k params) (pos 0), pow_pos (k params))
shown-some params (LastRun count value) = omega (arith, length-append (replicate count (pos 0)) (value ∷ []))
shown-some params (Value value) = omega arith
shown-some params (Pair sum one) = omega arith

-- each token takes a place
pub further : (mode : Mode) (n : ℕ) (bits rest rest' : List Bool) (params params' : Params) (at at' : ℕ) (out out' shown : List ℤ) (magnitude most : ℕ)
    → (so_far : Fills mode n bits rest params at out most) → at < n → ReadsToken mode rest rest' params params' shown
    → ((values : List ℤ) → out ≡ filled n values → at ≡ length values
    → (out' ≡ filled n (values ++ shown)) × (at' ≡ min n (length (values ++ shown))) × (greatest (take n (values ++ shown)) ≡ max (greatest values) magnitude))
    → (at < at') × (at' ≤ n)
further mode n bits rest rest' params params' at at' out out' shown magnitude most so_far wanted read placed =
    let values : List ℤ = map kept (terms start so_far.tokens) in
    let here : at ≡ length values = omega (arith, so_far.at_is) in
    let put = placed values so_far.shows here in
    let more : length shown ≡ length (terms_of params read.token) = ap length read.shows ∙ length-map (terms_of params read.token) kept in
    let some : 0 < length (terms_of params read.token) = shown-some params read.token in
    let both : length (values ++ shown) ≡ length values + length shown = length-append values shown in
    let there : at' ≡ min n (length (values ++ shown)) = put.1 in
    (omega arith, omega arith)

-- a value is in range exactly where what is kept of it is
kept-range : (value : ℤ) → in_range value ≡ nat_le (unsigned_abs (kept value)) 32767
kept-range value = go (in_range value) refl
  where
    go : (b : Bool) → in_range value ≡ b → b ≡ nat_le (unsigned_abs (cond b value (negsuc 32767))) 32767
    go true e = sym e
    go false e = refl

within-both : (m n : ℕ) → (nat_le m 32767 && nat_le n 32767) ≡ nat_le (max m n) 32767
within-both m n = grind arith

-- and all are exactly where the greatest magnitude is
range-kept : (values : List ℤ) → list_all in_range values ≡ nat_le (greatest (map kept values)) 32767
unfolding greatest
range-kept [] = refl
range-kept (v ∷ values) =
    ap (λ b. b && list_all in_range values) (kept-range v)
    ∙ ap (λ b. nat_le (unsigned_abs (kept v)) 32767 && b) (range-kept values)
    ∙ within-both (unsigned_abs (kept v)) (greatest (map kept values))

both : (a b : Bool) → (a && b) ≡ true → (a ≡ true) × (b ≡ true)
both true b e = (refl, e)
both false b e = cc

-- values in range are kept as they are
kept-all : (values : List ℤ) → list_all in_range values ≡ true → map kept values ≡ values
kept-all [] e = refl
kept-all (v ∷ values) e =
    let parts = both (in_range v) (list_all in_range values) e in
    ap (λ b. cond b v (negsuc 32767) ∷ map kept values) parts.0 ∙ ap (λ vs. v ∷ vs) (kept-all values parts.1)

-- with all places taken it is a reading
reading-at : (mode : Mode) (n : ℕ) (bits rest : List Bool) (params : Params) (at : ℕ) (out : List ℤ) (most : ℕ) → (done : Fills mode n bits rest params at out most) → n ≤ at
    → AreFewest n start done.tokens × (out ≡ map kept (take n (terms start done.tokens))) × (most ≡ greatest out)
reading-at mode n bits rest params at out most done full =
    let long : n ≤ length (map kept (terms start done.tokens)) = omega (arith, done.at_is) in
    let whole : out ≡ take n (map kept (terms start done.tokens)) = done.shows ∙ filled-whole n (map kept (terms start done.tokens)) long in (
      fewest-needed n start done.tokens done.needed (omega (arith, length-map (terms start done.tokens) kept)),
      whole ∙ take-map kept n (terms start done.tokens),
      done.most_is ∙ ap greatest (sym whole),
    )

pub filled-reading : (mode : Mode) (bits rest : List Bool) (params : Params) (at : ℕ) (out : List ℤ) (most : ℕ) → Fills mode 4096 bits rest params at out most → 4096 ≤ at
    → (tokens : List Token) × Reading mode bits tokens × (out ≡ map kept (take 4096 (terms start tokens))) × (most ≡ greatest out)
filled-reading mode bits rest params at out most done full =
    let read = reading-at mode 4096 bits rest params at out most done full in
    (done.tokens, record { tokens_fit = done.tokens_fit; fewest = read.0; spelled = (rest, done.spelled) }, read.1, read.2)

-- what the values say
pub answer-in : (values out : List ℤ) → out ≡ map kept values → nat_le (greatest out) 32767 ≡ true → Ok out ≡ answer values
unfolding answer
answer-in values out is few =
    let all : list_all in_range values ≡ true = range-kept values ∙ ap (λ vs. nat_le (greatest vs) 32767) (sym is) ∙ few in
    rw all (ap Ok (is ∙ kept-all values all))

pub answer-out : (values out : List ℤ) → out ≡ map kept values → nat_le (greatest out) 32767 ≡ false → Err CoefficientRange ≡ answer values
unfolding answer
answer-out values out is many =
    let none : list_all in_range values ≡ false = range-kept values ∙ ap (λ vs. nat_le (greatest vs) 32767) (sym is) ∙ many in
    rw none refl
