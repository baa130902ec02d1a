-- What the parts of `import` come to, and that each of its lines has equal digests.
use Rattle.std.proofs.Common.{◌≡◌, ℕ, Bool, true, false, cond, List, [], take, Option, Some, None, Result, Ok, Err, refl, sym, ap, ◌∙◌, subst, arith}
use Rattle.gfx_base.specs.Stream.{Change, change}
use Rattle.gfx_base.specs.declared.refusal.Refusal.{Refusal}
use Rattle.gfx_base.specs.declared.refusal.Refusal.TheVariants.{KeptShape}
use Rattle.gfx_base.proofs.ResultLemmas.{and_then_ok, check_ok}
use Rattle.gfx_base.proofs.Streams.{Gains_none}
use Rattle.gfx_bitmap_cache.specs.Slots.{Entry}
use Rattle.gfx_chooser.specs.Choosing.{Chooser}
use Rattle.gfx_chooser.specs.Kinded.{kinded_steps}
use Rattle.gfx_chooser.proofs.Asking.{kinded_fit}
use Rattle.gfx_import.specs.Agreed.{agree}
use Rattle.gfx_import.specs.Entries.{are_distinct, entry_keys}
use Rattle.gfx_import.specs.File.{entries_of, shaped}
use Rattle.gfx_import.proofs.OwnLemmas.{agreed-sides}
use Rattle.gfx_import.specs.Imported.{imported}
use Rattle.gfx_input.specs.Reading.{input_of}
use Rattle.gfx_input.specs.declared.fault.InputFault.{InputFault}
use Rattle.gfx_input.specs.declared.fault.InputFault.TheVariants as input
use Rattle.gfx_kept_input.specs.Allowed.{field_none}
use Rattle.gfx_kept_input.specs.Due.{IsFine, IsNotWrong, ReadsKept, ending_in}
use Rattle.gfx_kept_input.specs.Front.{Whole, Short, Bad, front, front_of, read_as}
use Rattle.gfx_kept_input.specs.Split.{found, from_start}
use Rattle.gfx_kept_input.specs.declared.outcome.KeptInput.{KeptInput}
use Rattle.gfx_kept_input.specs.declared.outcome.KeptInput.TheVariants as kept
use Rattle.gfx_kept_input.proofs.EndLemmas.{whole-is}
use Rattle.gfx_kept_input.proofs.FoundLemmas.{splits-is}
use Rattle.gfx_layout.specs.declared.stop.Stop.{Stop}
use Rattle.gfx_layout.specs.declared.stop.Stop.TheVariants.{Rule}
use Rattle.gfx_layout.specs.Reading.{read, read_whole}
use Rattle.gfx_schedule.specs.Starts.{MayBegin, MayImport, from_kept}
use Rattle.gfx_schedule.specs.World.{begin_from}
use Rattle.gfx_schedule.proofs.Importing.{every_import, import_may_begin}
use Rattle.gfx_script.specs.Kinds.{Fits, KindedStep}
use Rattle.gfx_script.specs.Script.{IsAcceptedAtStart}
use Rattle.gfx_script.specs.Scripted.{Script}
use Rattle.gfx_script.specs.Starting.{starts_of}
use Rattle.gfx_script.specs.declared.error.ScriptKind.{ScriptKind}
use Rattle.gfx_script_text.specs.Text.{Wrong, script_kept}
use Rattle.gfx_script_text.proofs.Accepted.{accepted_kept, starts_with_kept}
use Rattle.gfx_session.specs.Session.{IsSession, Stands, digests_of, script_of}
use Rattle.gfx_session.specs.declared.digests.Digests.TheVariants.{On}
use Rattle.gfx_session.specs.declared.session.Session.{Session}
use Rattle.gfxpipe.specs.declared.ending.Ending.{Ending}
use Rattle.gfxpipe.specs.declared.ending.Ending.TheVariants.{Done, TooLong, Kept, Faulty}
use Rattle.gfxpipe.specs.declared.trouble.Trouble.{Trouble}
use Rattle.gfxpipe.specs.declared.trouble.Trouble.TheVariants as trouble
use Rattle.gfxpipe.specs.Did.{trouble_of}
use Rattle.gfxpipe.specs.Imports.{Begins, ReadsSession, imported_as, imported_of, kept_in}
use Rattle.gfxpipe.specs.Laws.{EveryLineOfAnImportHasEqualDigests, SessionAgrees}
use Rattle.gfxpipe.specs.Rule.{DidAll}
use Rattle.gfxpipe.specs.Rules.{importing, kept_input}
use Rattle.gfxpipe.specs.Sessions.{Beginning, PlaysOut, beginning}
use Rattle.gfxpipe.proofs.Agreeing.{whole_agrees}
use Rattle.gfxpipe.proofs.ReadingScripts.{read_to_end}
use Rattle.gfxpipe.proofs.Sessions.{not_found, played_out, told, unasked}

-- the empty front of an input is fine
short_unsized : (most : ℕ) (size : Option ℕ) (bytes : List ℕ) → size ≡ None → front_of most size bytes ≡ Short
unfolding front_of
short_unsized most None bytes none = refl
short_unsized most (Some size) bytes none = absurd cc

front_none : front [] ≡ Short
unfolding front
front_none = short_unsized _ _ _ (field_none [] (omega arith))

pub fine_first : IsFine []
unfolding found
fine_first = subst (λ z. IsNotWrong (from_start z)) (sym front_none) tt

-- the files --------------------------------------------------------------------------------------------------

only_entries : (read : Result (List Entry) Stop) (entries : List Entry) → shaped read ≡ Ok entries → read ≡ Ok entries
only_entries (Ok x) entries e = let same : x ≡ entries = cc in ap (λ (z : List Entry). Ok z) same
only_entries (Err stop) entries e = absurd cc

-- no key is twice in a file
entries_distinct : (bytes : List ℕ) (entries : List Entry) → entries_of bytes ≡ Ok entries → are_distinct (entry_keys entries) ≡ true
unfolding entries_of read_whole read
entries_distinct bytes entries e =
    let whole = and_then_ok _ _ entries (only_entries _ entries e) in
    let end = and_then_ok _ _ entries whole.2 in
    let mark = and_then_ok _ _ whole.0 whole.1 in
    let right = and_then_ok _ _ whole.0 mark.2 in
    let count = and_then_ok _ _ whole.0 right.2 in
    let few = and_then_ok _ _ whole.0 count.2 in
    let each = and_then_ok _ _ whole.0 few.2 in
    let apart = and_then_ok _ _ whole.0 each.2 in
    let is : each.0.0 ≡ whole.0.0 = (let h = apart.2 in cc) in
    let same : whole.0.0 ≡ entries = (let h = end.2 in cc) in
    subst (λ (z : List Entry). are_distinct (entry_keys z) ≡ true) (is ∙ same) (check_ok (Rule KeptShape) (are_distinct (entry_keys each.0.0)) apart.1)

-- a file at the front of bytes is one
read_from : (result : Result (List Entry) Refusal) (after rest : List ℕ) (entries : List Entry) → read_as result after ≡ Whole entries rest → result ≡ Ok entries
read_from (Ok x) after rest entries e = let same : x ≡ entries = cc in ap (λ (z : List Entry). Ok z) same
read_from (Err refusal) after rest entries e = absurd cc

fits_from : (fits : Bool) (result : Result (List Entry) Refusal) (after rest : List ℕ) (entries : List Entry) → cond fits (read_as result after) Short ≡ Whole entries rest → result ≡ Ok entries
fits_from true result after rest entries e = read_from result after rest entries e
fits_from false result after rest entries e = absurd cc

short_from : (long fits : Bool) (result : Result (List Entry) Refusal) (after rest : List ℕ) (entries : List Entry) → cond long (Bad KeptShape) (cond fits (read_as result after) Short) ≡ Whole entries rest
    → result ≡ Ok entries
short_from true fits result after rest entries e = absurd cc
short_from false fits result after rest entries e = fits_from fits result after rest entries e

-- by its length, where that is known
sized_from : (most : ℕ) (size : Option ℕ) (bytes rest : List ℕ) (entries : List Entry) → front_of most size bytes ≡ Whole entries rest → (n : ℕ) × (entries_of (take n bytes) ≡ Ok entries)
unfolding front_of
sized_from most None bytes rest entries e = absurd cc
sized_from most (Some size) bytes rest entries e = (size, short_from _ _ _ _ rest entries e)

front_distinct : (bytes rest : List ℕ) (entries : List Entry) → front bytes ≡ Whole entries rest → are_distinct (entry_keys entries) ≡ true
unfolding front
front_distinct bytes rest entries e = let sized = sized_from _ _ _ rest entries e in entries_distinct _ entries sized.1

-- what an input comes to ---------------------------------------------------------------------------------------

-- a session of two files that agree may begin with what is imported of them
pub may_import : (server client : List Entry) (script : Script) → agree server client ≡ true → IsAcceptedAtStart script → script.start ≡ starts_of (imported server client script.small) → MayImport script server client
may_import server client script agreed accepted start = record { accepted = accepted; start = start; sides = agreed-sides server client script.small agreed }

may_import_read : (server client : List Entry) (text : List ℕ) (script : Script) → agree server client ≡ true → are_distinct (entry_keys client) ≡ true → script_kept server client text ≡ Ok script → MayImport script server client
may_import_read server client text script agreed distinct is =
    may_import server client script agreed (accepted_kept server client text script distinct is) (starts_with_kept server client text script is)

-- what is found so is a script with a start of two files that agree
pub record IsImported (b : Beginning) : Type 0 where
  pub server : List Entry
  pub client : List Entry
  pub agreed : agree server client ≡ true
  pub may : MayImport b.script server client
  pub start : b.start ≡ from_kept b.script server client

script_imported : (result : Result Script Wrong) (server client : List Entry) (text : List ℕ) (b : Beginning) → script_kept server client text ≡ result → agree server client ≡ true → are_distinct (entry_keys client) ≡ true
    → imported_as server client result ≡ Ok b → IsImported b
script_imported (Ok script) server client text b is agreed distinct e =
    let same : beginning (from_kept script server client) script ≡ b = cc in
    let it : script ≡ b.script = ap (λ (z : Beginning). z.script) same in
    record {
      server = server;
      client = client;
      agreed = agreed;
      may = subst (λ (z : Script). MayImport z server client) it (may_import_read server client text script agreed distinct is);
      start = sym (ap (λ (z : Beginning). z.start) same) ∙ ap (λ (z : Script). from_kept z server client) it;
    }
script_imported (Err wrong) server client text b is agreed distinct e = absurd cc

found_imported : (ending : KeptInput) (limit : ℕ) (bytes : List ℕ) (b : Beginning) → ending_in limit bytes ≡ ending → imported_of ending ≡ Ok b → IsImported b
found_imported (kept.Whole server client text) limit bytes b is e =
    let w = whole-is limit bytes server client text is in
    let s = splits-is bytes _ w.splits in
    script_imported (script_kept server client text) server client text b refl w.agreed (front_distinct s.after text client s.second) e
found_imported kept.TooLong limit bytes b is e = absurd cc
found_imported (kept.Refused r) limit bytes b is e = absurd cc

kept_imported : (limit : ℕ) (bytes : List ℕ) (b : Beginning) → kept_in limit bytes ≡ Ok b → IsImported b
unfolding kept_in
kept_imported limit bytes b is = found_imported (ending_in limit bytes) limit bytes b refl is

pub every_import_line : EveryLineOfAnImportHasEqualDigests
every_import_line limit bytes b choosers is =
    let i = kept_imported limit bytes b is in
    let kinded = kinded_steps b.script choosers in
    subst (λ start. SessionAgrees choosers (beginning start b.script)) (sym i.start)
    (whole_agrees (beginning (from_kept b.script i.server i.client) b.script) choosers (λ turns. (every_import b.script i.server i.client kinded turns i.may (kinded_fit b.script choosers)).agreed i.agreed))

-- the parts of `import` ------------------------------------------------------------------------------------------

-- the session of a script that was read with two files that agree
pub imported_begins : (server client : List Entry) (text : List ℕ) (script : Script) (session : Session) → MayImport script server client → script_kept server client text ≡ Ok script → IsSession session → script_of session ≡ script
    → digests_of session ≡ On → session.server.last ≡ 0 → ((kinded : List KindedStep) → Fits kinded script.steps → Stands session (begin_from (from_kept script server client) script kinded))
    → Begins (Ok (Ok session)) (imported_as server client (script_kept server client text))
imported_begins server client text script session may read is same on last stands = (
  beginning (from_kept script server client) script,
  ap (imported_as server client) read,
  record {
    is = is;
    script = same;
    begun = record {
      stands = subst (λ s. (kinded : List KindedStep) → Fits kinded s.steps → Stands session (begin_from (from_kept script server client) s kinded)) (sym same) stands;
      begins = subst (λ s. (kinded : List KindedStep) → Fits kinded s.steps → MayBegin (from_kept script server client) s kinded) (sym same) (λ kinded fits. import_may_begin script server client kinded may fits);
    };
    unqueued = last;
    digests = on;
  },
)

-- its text is none
pub not_imported : (server client : List Entry) (text : List ℕ) (step : ℕ) (kind : ScriptKind) → script_kept server client text ≡ Err record { step = step; kind = kind }
    → Begins (Ok (Err (Faulty step kind))) (imported_as server client (script_kept server client text))
not_imported server client text step kind read = record { is = ap (imported_as server client) read; not_done = λ done. absurd cc }

-- an input that could not be read
pub kept_unread : (f : InputFault) (limit : ℕ) (i : Change) → ReadsKept (Err f) limit i → ReadsSession (Err (trouble_of f)) limit i
kept_unread input.Read limit i reads = reads
kept_unread input.Memory limit i reads = reads
kept_unread input.Write limit i never = absurd never

-- the two files of one agree
pub kept_agree : (limit : ℕ) (i : Change) (server client : List Entry) (text : List ℕ) → ReadsKept (Ok (kept.Whole server client text)) limit i → agree server client ≡ true
kept_agree limit i server client text (reads, count, all, is) = (whole-is limit (input_of reads) server client text (sym is)).agreed

-- this is found in it
found_as : (limit : ℕ) (bytes : List ℕ) (ending : KeptInput) → ending ≡ ending_in limit bytes → imported_of ending ≡ kept_in limit bytes
unfolding kept_in
found_as limit bytes ending is = ap imported_of is

pub kept_begins : (result : Result (Result Session Ending) Trouble) (limit : ℕ) (i : Change) (server client : List Entry) (text : List ℕ) → ReadsKept (Ok (kept.Whole server client text)) limit i
    → Begins result (imported_as server client (script_kept server client text)) → ReadsSession result limit i
kept_begins (Ok (Ok session)) limit i server client text (reads, count, all, is) begins =
    (reads, count, all, subst (Begins (Ok (Ok session))) (found_as limit (input_of reads) (kept.Whole server client text) is) begins)
kept_begins (Ok (Err ending)) limit i server client text (reads, count, all, is) begins =
    (reads, count, read_to_end ending i all, subst (Begins (Ok (Err ending))) (found_as limit (input_of reads) (kept.Whole server client text) is) begins)
kept_begins (Err trouble.Memory) limit i server client text (reads, count, all, is) begins = (reads, count)
kept_begins (Err trouble.Read) limit i server client text reads never = absurd never
kept_begins (Err trouble.Write) limit i server client text reads never = absurd never

-- or why there is no session
pub kept_too_long : (limit : ℕ) (i : Change) → ReadsKept (Ok kept.TooLong) limit i → ReadsSession (Ok (Err TooLong)) limit i
kept_too_long limit i (reads, count, all, is) = (reads, count, tt, record { is = sym (found_as limit (input_of reads) kept.TooLong is); not_done = λ done. absurd cc })

pub kept_refused : (r : Refusal) (limit : ℕ) (i : Change) → ReadsKept (Ok (kept.Refused r)) limit i → ReadsSession (Ok (Err (Kept r))) limit i
kept_refused r limit i (reads, count, all, is) = (reads, count, tt, record { is = sym (found_as limit (input_of reads) (kept.Refused r) is); not_done = λ done. absurd cc })

-- no session was begun
pub no_import : (t : Trouble) (choosers : List Chooser) (limit m : ℕ) (i : Change) (held : Option (List ℕ)) → ReadsSession (Err t) limit i → DidAll (Err t) None importing kept_input choosers choosers limit i (change m m held held)
no_import trouble.Read choosers limit m i held (reads, falls, rose) = ((reads, (falls, rose, Gains_none m held)), refl, unasked trouble.Read (kept_in limit (input_of reads)) choosers)
no_import trouble.Memory choosers limit m i held (reads, count) = ((reads, (count, Gains_none m held)), refl, unasked trouble.Memory (kept_in limit (input_of reads)) choosers)
no_import trouble.Write choosers limit m i held never = absurd never

pub import_refused : (ending : Ending) (choosers : List Chooser) (limit m : ℕ) (i : Change) (held : Option (List ℕ)) → ReadsSession (Ok (Err ending)) limit i
    → DidAll (Ok ending) None importing kept_input choosers choosers limit i (change m m held held)
import_refused ending choosers limit m i held (reads, count, all, refused) = not_found kept_input kept_in ending choosers limit m i held refused.not_done (reads, count, all, refused.is)

-- one was, and nothing of it is queued
pub import_is : (session : Session) (limit : ℕ) (i : Change) → ReadsSession (Ok (Ok session)) limit i → IsSession session × (session.server.last ≡ 0) × (digests_of session ≡ On)
import_is session limit i (reads, count, all, (b, found, of)) = (of.is, of.unqueued, of.digests)

-- it was played, as far as memory and the output allow it
pub import_broken : (t : Trouble) (choosers left : List Chooser) (limit : ℕ) (i o : Change) (session : Session) → ReadsSession (Ok (Ok session)) limit i → PlaysOut (Err t) session choosers left o
    → DidAll (Err t) None importing kept_input choosers left limit i o
import_broken t choosers left limit i o session (reads, count, all, (b, found, of)) plays = played_out kept_input kept_in choosers left limit i o b.start b.script session t (reads, count, all, found) of.script of.begun plays

pub import_told : (choosers left : List Chooser) (limit : ℕ) (i o : Change) (session new : Session) → ReadsSession (Ok (Ok session)) limit i → PlaysOut (Ok new) session choosers left o
    → DidAll (Ok Done) (Some new) importing kept_input choosers left limit i o
import_told choosers left limit i o session new (reads, count, all, (b, found, of)) plays = told kept_input kept_in choosers left limit i o b.start b.script session new (reads, count, all, found) of.script of.begun plays
