-- What working off a file comes to.
use Rattle.std.proofs.Common.{◌≡◌, ℕ, ◌+◌, ◌≤◌, ◌<◌, true, false, List, [], ◌++◌, length, take, drop, Result, Ok, Err, refl, sym, ap, ◌∙◌, subst, arith, length-drop}
use Rattle.std.proofs.lemmas.Bool.{cond-true, cond-false}
use Rattle.gfx_base.specs.Stream.{Change, Gains}
use Rattle.gfx_base.specs.declared.refusal.Refusal.{Refusal}
use Rattle.gfx_base.specs.declared.refusal.Refusal.TheVariants.{KeptDiffers}
use Rattle.gfx_base.proofs.Streams.{GainsPart_all}
use Rattle.gfx_import.specs.Agreed.{agree}
use Rattle.gfx_input.specs.Reading.{TakesPiece}
use Rattle.gfx_input.specs.declared.fault.TakeFault.{TakeFault}
use Rattle.gfx_input.specs.declared.fault.TakeFault.TheVariants as broke
use Rattle.gfx_input.specs.declared.taker.Taken.{Taken}
use Rattle.gfx_input.specs.declared.taker.Taken.TheVariants as taken
use Rattle.gfx_kept_input.specs.Allowed.{allowed, size_least, size_stays, size_unknown}
use Rattle.gfx_kept_input.specs.Due.{IsNotWrong, IsFine}
use Rattle.gfx_kept_input.specs.Front.{Whole, Short, Bad, front, known_size, size_of}
use Rattle.gfx_kept_input.specs.Split.{Split, split, Few, Wrong, Splits, found}
use Rattle.gfx_kept_input.specs.Taking.{IsFirst, IsRead, due_size, HoldsBoth, Holds, Waits, Stands, Refuses, Stops, Goes}
use Rattle.gfx_kept_input.specs.declared.file.File.{File}
use Rattle.gfx_kept_input.specs.declared.file.TheConstants.{PREFIX}
use Rattle.gfx_kept_input.specs.declared.taker.Intake.{Intake}
use Rattle.gfx_kept_input.specs.declared.taker.Part.{Part}
use Rattle.gfx_kept_input.specs.declared.taker.Part.TheVariants as part
use Rattle.gfx_kept_input.proofs.FrontLemmas.{short_at, whole-stays, whole-size, short-size}
use Rattle.gfx_kept_input.proofs.FoundLemmas.{found-at, found-behind, fronts-fine}

-- a file at the front ------------------------------------------------------------------------------------------

first-is : (file other : File) (bytes those after rest : List ℕ) → file ≡ other → bytes ≡ those → after ≡ rest → IsFirst file bytes after → IsFirst other those rest
first-is file other bytes those after rest e b a f = record {
  whole = ap front (sym b) ∙ f.whole ∙ ap (λ (z : File). Whole z.kept after) e ∙ ap (Whole other.kept) a;
  size = ap size_of (sym b) ∙ f.size ∙ ap (λ (z : File). PREFIX + z.size) e;
}

first-more : (file : File) (bytes after more : List ℕ) → IsFirst file bytes after → IsFirst file (bytes ++ more) (after ++ more)
first-more file bytes after more f =
    let w = whole-size bytes after file.kept f.whole in
    let within : size_of bytes ≤ length bytes = w.0 in
    let least = size_least bytes in
    record { whole = whole-stays bytes more after file.kept f.whole; size = size_stays bytes more (omega arith) ∙ f.size }

-- what is found of it ------------------------------------------------------------------------------------------

pub server-few : (taker : Intake) (bytes : List ℕ) → Holds part.Server taker bytes → front taker.bytes ≡ Short → found bytes ≡ Few
server-few taker bytes h short = found-at bytes Short (ap front (sym h.0) ∙ short)

pub client-few : (taker : Intake) (bytes : List ℕ) → Holds part.Client taker bytes → front taker.bytes ≡ Short → found bytes ≡ Few
client-few taker bytes h short = found-behind bytes taker.bytes taker.server.kept Short h.0.whole short

pub script-splits : (taker : Intake) (bytes : List ℕ) → HoldsBoth taker bytes → found bytes ≡ Splits (split taker.server.kept taker.client.kept taker.bytes)
script-splits taker bytes b =
    found-behind bytes b.behind taker.server.kept (Whole taker.client.kept taker.bytes) b.server.whole b.client.whole ∙ cond-true _ _ _ b.agreed

few-fine : (bytes : List ℕ) (n : ℕ) → found bytes ≡ Few → IsFine (take n bytes)
few-fine bytes n is = fronts-fine bytes n (subst IsNotWrong (sym is) tt)

splits-fine : (bytes : List ℕ) (n : ℕ) (s : Split) → found bytes ≡ Splits s → IsFine (take n bytes)
splits-fine bytes n s is = fronts-fine bytes n (subst IsNotWrong (sym is) tt)

-- it waits -----------------------------------------------------------------------------------------------------

pub server_waits : (taker : Intake) (bytes : List ℕ) → taker.part ≡ part.Server → Holds part.Server taker bytes → front taker.bytes ≡ Short → Stands taker bytes
server_waits taker bytes is h short = record {
  holds = subst (λ p. Holds p taker bytes) (sym is) h;
  waits = subst (λ p. Waits p taker.bytes) (sym is) short;
  fine = λ n. few-fine bytes n (server-few taker bytes h short);
}

pub client_waits : (taker : Intake) (bytes : List ℕ) → taker.part ≡ part.Client → Holds part.Client taker bytes → front taker.bytes ≡ Short → Stands taker bytes
client_waits taker bytes is h short = record {
  holds = subst (λ p. Holds p taker bytes) (sym is) h;
  waits = subst (λ p. Waits p taker.bytes) (sym is) short;
  fine = λ n. few-fine bytes n (client-few taker bytes h short);
}

pub script_waits : (taker : Intake) (bytes : List ℕ) → taker.part ≡ part.Script → HoldsBoth taker bytes → Stands taker bytes
script_waits taker bytes is h = record {
  holds = subst (λ p. Holds p taker bytes) (sym is) h;
  waits = subst (λ p. Waits p taker.bytes) (sym is) tt;
  fine = λ n. splits-fine bytes n _ (script-splits taker bytes h);
}

-- nothing was given yet
pub nothing_yet : (taker : Intake) → taker.part ≡ part.Server → taker.bytes ≡ [] → taker.server.size ≡ 0 → taker.client.size ≡ 0 → Stands taker []
nothing_yet taker is none server client = server_waits taker [] is (none, server, client) (ap front none ∙ short_at [] (omega arith))

-- it stops -----------------------------------------------------------------------------------------------------

pub stops_at : (answer : Taken) (taker : Intake) (bytes : List ℕ) (refusal : Refusal) → answer ≡ taken.Stopped → taker.part ≡ part.Refused refusal → found bytes ≡ Wrong refusal → Goes (Ok answer) taker bytes
stops_at answer taker bytes refusal is kept wrong = subst (λ z. Goes (Ok z) taker bytes) (sym is) (subst (λ p. Refuses p bytes) (sym kept) wrong)

pub server_bad : (taker : Intake) (bytes : List ℕ) (refusal : Refusal) → Holds part.Server taker bytes → front taker.bytes ≡ Bad refusal → found bytes ≡ Wrong refusal
server_bad taker bytes refusal h bad = found-at bytes (Bad refusal) (ap front (sym h.0) ∙ bad)

pub client_bad : (taker : Intake) (bytes : List ℕ) (refusal : Refusal) → Holds part.Client taker bytes → front taker.bytes ≡ Bad refusal → found bytes ≡ Wrong refusal
client_bad taker bytes refusal h bad = found-behind bytes taker.bytes taker.server.kept (Bad refusal) h.0.whole bad

pub client_differs : (taker : Intake) (file : File) (bytes : List ℕ) → Holds part.Client taker bytes → IsRead file taker.bytes → agree taker.server.kept file.kept ≡ false → found bytes ≡ Wrong KeptDiffers
client_differs taker file bytes h r differs =
    found-behind bytes taker.bytes taker.server.kept (Whole file.kept (drop (PREFIX + file.size) taker.bytes)) h.0.whole r.first.whole ∙ cond-false _ _ _ differs

-- the client's file is taken -----------------------------------------------------------------------------------

pub client_taken : (old new : Intake) (file : File) (bytes : List ℕ) → Holds part.Client old bytes → IsRead file old.bytes → agree old.server.kept file.kept ≡ true
    → new.bytes ≡ drop (PREFIX + file.size) old.bytes → new.server ≡ old.server → new.client ≡ file → HoldsBoth new bytes
client_taken old new file bytes h r agreed behind server client = record {
  behind = old.bytes;
  server = first-is old.server new.server bytes bytes old.bytes old.bytes (sym server) refl refl h.0;
  client = first-is file new.client old.bytes old.bytes (drop (PREFIX + file.size) old.bytes) new.bytes (sym client) refl (sym behind) r.first;
  agreed = ap (λ (z : File). agree z.kept new.client.kept) server ∙ ap (λ (z : File). agree old.server.kept z.kept) client ∙ agreed;
}

-- a piece ------------------------------------------------------------------------------------------------------

more_held : (p : Part) (old new : Intake) (bytes more : List ℕ) → Holds p old bytes → Waits p old.bytes → new.bytes ≡ old.bytes ++ more → new.server ≡ old.server → new.client ≡ old.client → Holds p new (bytes ++ more)
more_held part.Server old new bytes more h waits now server client =
    (now ∙ ap (λ z. z ++ more) h.0, ap (λ (z : File). z.size) server ∙ h.1, ap (λ (z : File). z.size) client ∙ h.2)
more_held part.Client old new bytes more h waits now server client = (
  first-is old.server new.server (bytes ++ more) (bytes ++ more) (old.bytes ++ more) new.bytes (sym server) refl (sym now) (first-more old.server bytes old.bytes more h.0),
  ap (λ (z : File). z.size) client ∙ h.1,
)
more_held part.Script old new bytes more h waits now server client = record {
  behind = h.behind ++ more;
  server = first-is old.server new.server (bytes ++ more) (bytes ++ more) (h.behind ++ more) (h.behind ++ more) (sym server) refl refl (first-more old.server bytes h.behind more h.server);
  client = first-is old.client new.client (h.behind ++ more) (h.behind ++ more) (old.bytes ++ more) new.bytes (sym client) refl (sym now) (first-more old.client h.behind old.bytes more h.client);
  agreed = ap (λ (z : File). agree z.kept new.client.kept) server ∙ ap (λ (z : File). agree old.server.kept z.kept) client ∙ h.agreed;
}
more_held (part.Refused refusal) old new bytes more h waits now server client = absurd waits

pub gained : (old new : Intake) (bytes more : List ℕ) → Stands old bytes → new.part ≡ old.part → new.bytes ≡ old.bytes ++ more → new.server ≡ old.server → new.client ≡ old.client → Holds new.part new (bytes ++ more)
gained old new bytes more s is now server client =
    subst (λ p. Holds p new (bytes ++ more)) (sym is) (more_held old.part old new bytes more s.holds s.waits now server client)

-- nothing is written meanwhile
pub gave : (answer : Result Taken TakeFault) (new : Intake) (bytes : List ℕ) (o : Change) → Gains o [] → Goes answer new bytes → TakesPiece Stands Stops [] answer new bytes o
gave (Ok taken.More) new bytes o gains goes = (goes, gains)
gave (Ok taken.Stopped) new bytes o gains goes = (goes, gains)
gave (Err broke.Memory) new bytes o gains goes = (gains.count, GainsPart_all o [] gains)
gave (Err broke.Write) new bytes o gains goes = absurd goes

-- how many bytes it takes --------------------------------------------------------------------------------------

allowed_by : (p : Part) (taker : Intake) (limit : ℕ) (bytes : List ℕ) → Holds p taker bytes → Waits p taker.bytes → limit + 8 + (taker.server.size + taker.client.size + due_size p taker.bytes) ≡ allowed limit bytes
allowed_by part.Server taker limit bytes h short =
    let server : taker.server.size ≡ 0 = h.1 in
    let client : taker.client.size ≡ 0 = h.2 in
    let known : known_size taker.bytes ≡ known_size bytes = ap known_size h.0 in
    let under : length bytes < size_of bytes = short-size bytes (ap front (sym h.0) ∙ short) in
    let second = size_unknown (drop (size_of bytes) bytes) (omega (arith, length-drop (size_of bytes) bytes)) in
    omega arith
allowed_by part.Client taker limit bytes h short =
    let client : taker.client.size ≡ 0 = h.1 in
    let first : size_of bytes ≡ 4 + taker.server.size = h.0.size in
    let w = whole-size bytes taker.bytes taker.server.kept h.0.whole in
    let second : size_of (drop (size_of bytes) bytes) ≡ size_of taker.bytes = ap size_of w.1 in
    omega arith
allowed_by part.Script taker limit bytes h waits =
    let first : size_of bytes ≡ 4 + taker.server.size = h.server.size in
    let other : size_of h.behind ≡ 4 + taker.client.size = h.client.size in
    let w = whole-size bytes h.behind taker.server.kept h.server.whole in
    let second : size_of (drop (size_of bytes) bytes) ≡ size_of h.behind = ap size_of w.1 in
    omega arith
allowed_by (part.Refused refusal) taker limit bytes h waits = absurd waits

pub allowed_at : (taker : Intake) (limit : ℕ) (bytes : List ℕ) → Stands taker bytes → limit + 8 + (taker.server.size + taker.client.size + due_size taker.part taker.bytes) ≡ allowed limit bytes
allowed_at taker limit bytes s = allowed_by taker.part taker limit bytes s.holds s.waits
