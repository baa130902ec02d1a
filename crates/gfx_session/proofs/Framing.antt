-- Putting out a frame of all that waits.
use Rattle.std.proofs.Common.{◌≡◌, ℕ, ◌+◌, ◌≤◌, ◌<◌, true, false, cond, List, [], ◌∷◌, ◌++◌, length, drop, Option, Some, None, IsSome, Result, Ok, Err, inl, inr, zero, suc, refl, sym, ap, ◌∙◌, subst, append_assoc, arith}
use Rattle.std.specs.Prelude.{OnOk, OnErr}
use Rattle.std.specs.List.{AllByRecursion, slice_get, filter_map}
use Rattle.std.proofs.lemmas.List.{append-nil}
use Rattle.std.proofs.lemmas.Option.{slice_get_cases}
use Rattle.gfx_base.specs.declared.answer.NoMemory.{NoMemory}
use Rattle.gfx_pdu.specs.declared.pdu.Pdu.{Pdu}
use Rattle.gfx_planner.specs.Server.{Server}
use Rattle.gfx_planner.specs.Wire.{messages, frame_start, frame_end}
use Rattle.gfx_planner.specs.After.{after_put, after_open, after_close}
use Rattle.gfx_planner.specs.Holds.{Holds}
use Rattle.gfx_planner.specs.Allowed.{IsAllowed, IsAllowedStep, IsInFrame}
use Rattle.gfx_planner.specs.Planned.{Planned, ready, PutsFront, AllSent, PartSent, PutsStep}
use Rattle.gfx_planner.specs.Joined.{all_messages, after_all, frame_of, after_frame}
use Rattle.gfx_planner.proofs.Frames.{still_in_frame}
use Rattle.gfx_planner.proofs.Joined.{all_messages-nil, all_messages-cons, after_all-nil, after_all-cons}
use Rattle.gfx_planner.proofs.Streams.{bare, opens_frame, held_through-cons}
use Rattle.gfx_schedule.specs.Leaving.{kept, step_of, steps_of}
use Rattle.gfx_schedule.proofs.LeavingItems.{by_place}
use Rattle.gfx_script.specs.Kinds.{KindedStep}
use Rattle.gfx_script.specs.Scripted.{Script}
use Rattle.gfx_session.specs.Frames.{MayPut, MayFrame, Flies, HearsAsBefore, WatchesFrame, due_of}
use Rattle.gfx_session.specs.Kept.{noted}
use Rattle.gfx_session.specs.declared.server_end.ServerEnd.{ServerEnd}
use Rattle.gfx_state.specs.Sending.{sent}
use Rattle.gfx_state.proofs.Sent.{sent-append}
use Rattle.gfx_window.specs.Superseded.{superseded}
use Rattle.gfx_window.specs.Window.{Window, watched}
use Rattle.gfx_window.specs.Window.{sent as with_frame}
use Rattle.gfx_window.specs.declared.window.Queued.{Queued}

-- a front of a whole, and of what is due behind what was written
pub front_on : (before mid now wrote due more whole : List ℕ) → mid ≡ before ++ wrote → whole ≡ wrote ++ (due ++ more) → PutsFront mid now due → PutsFront before now whole
front_on before mid now wrote due more whole gained is p = record {
  part = wrote ++ p.part;
  rest = p.rest ++ more;
  cut = is ∙ ap (λ z. wrote ++ (z ++ more)) p.cut ∙ ap (λ z. wrote ++ z) (append_assoc p.part p.rest more) ∙ sym (append_assoc wrote p.part (p.rest ++ more));
  gained = p.gained ∙ ap (λ z. z ++ p.part) gained ∙ append_assoc before wrote p.part;
}

-- the messages of a frame that are left, when these steps of it are
abbrev pub rest_of : Script → Server → List KindedStep → List Pdu
rest_of script server left = all_messages script server left ++ frame_end (after_all script server left) ∷ []

-- a frame is being put out, and these steps of it are left
pub record Going (script : Script) (steps left : List KindedStep) (start : Server) (planned : Planned) (before now : List ℕ) : Type 0 where
  pub wrote : List ℕ
  pub gained : now ≡ before ++ wrote
  pub due : sent (frame_of script start steps) ≡ wrote ++ sent (rest_of script planned.server left)
  pub ends : after_frame script start steps ≡ after_close (after_all script planned.server left)
  pub fresh : planned.spent ≡ false
  pub within : IsInFrame planned.server
  pub may : MayPut script planned.server left

-- it is opened
frame_of-is : (script : Script) (start : Server) (steps : List KindedStep) → frame_of script start steps ≡ frame_start start ∷ rest_of script (after_open start) steps
unfolding frame_of
frame_of-is script start steps = refl

after_frame-is : (script : Script) (start : Server) (steps : List KindedStep) → after_frame script start steps ≡ after_close (after_all script (after_open start) steps)
unfolding after_frame
after_frame-is script start steps = refl

sent_frame : (script : Script) (start : Server) (steps : List KindedStep) → sent (frame_of script start steps) ≡ sent (frame_start start ∷ []) ++ sent (rest_of script (after_open start) steps)
sent_frame script start steps = ap sent (frame_of-is script start steps) ∙ sent-append (frame_start start ∷ []) (rest_of script (after_open start) steps)

opened_going : (script : Script) (start : Server) (window : Window) (before now : List ℕ) → MayFrame script start window → now ≡ before ++ sent (frame_start start ∷ [])
    → Going script (due_of script window) (due_of script window) start (ready (after_open start)) before now
opened_going script start window before now may wrote =
    let steps = due_of script window in
    let opened = opens_frame start (let few = may.few in omega arith) may.between in
    record {
      wrote = sent (frame_start start ∷ []);
      gained = wrote;
      due = sent_frame script start steps;
      ends = after_frame-is script start steps;
      fresh = refl;
      within = ap (λ z. z.state.frame) opened ∙ ap (λ z. Some z.frames) (sym opened);
      may = record {
        numbers = may.may.numbers;
        kinds = may.may.kinds;
        held = may.may.held;
        holds = subst (Holds script may.may.held) (sym opened) (let h = may.may.holds in record { drawn = h.drawn; same = h.same; surfaces = h.surfaces; bitmaps = h.bitmaps; setting = h.setting; tiles = h.tiles; number = h.number; rings = h.rings });
        after = may.may.after;
        checked = may.may.checked;
      };
    }

pub going_opened : (script : Script) (start : Server) (window : Window) (planned : Planned) (before now : List ℕ) → MayFrame script start window → AllSent planned before now (frame_start start ∷ []) (after_open start)
    → Going script (due_of script window) (due_of script window) start planned before now
going_opened script start window planned before now may s =
    subst (λ (p : Planned). Going script (due_of script window) (due_of script window) start p before now) (sym s.0) (opened_going script start window before now may s.1)

-- nothing of it is put out
pub none_put : (script : Script) (start : Server) (window : Window) (before : List ℕ) → PutsFront before before (sent (frame_of script start (due_of script window)))
none_put script start window before = record { part = []; rest = sent (frame_of script start (due_of script window)); cut = refl; gained = sym (append-nil before) }

pub not_opened : (script : Script) (start : Server) (window : Window) (new : Planned) (before now : List ℕ) → PartSent new before now (frame_start start ∷ []) → PutsFront before now (sent (frame_of script start (due_of script window)))
not_opened script start window new before now s =
    let steps = due_of script window in
    front_on before before now [] (sent (frame_start start ∷ [])) (sent (rest_of script (after_open start) steps)) _ (sym (append-nil before)) (sent_frame script start steps) s.1

-- a step of it is put
pub going_allowed : (script : Script) (steps left : List KindedStep) (one : KindedStep) (start : Server) (planned : Planned) (before now : List ℕ) → Going script steps (one ∷ left) start planned before now → IsAllowed script planned.server one
going_allowed script steps left one start planned before now g =
    let c = held_through-cons g.may.held g.may.after one.step (bare left) g.may.checked in
    record { numbers = g.may.numbers.0; kind = g.may.kinds.0; held = g.may.held; holds = g.may.holds; after = c.0; checked = c.1 }

rest_more : (script : Script) (server : Server) (one : KindedStep) (left : List KindedStep) → sent (rest_of script server (one ∷ left)) ≡ sent (messages script server one) ++ sent (rest_of script (after_put script server one) left)
rest_more script server one left =
    let next : Server = after_put script server one in
    ap sent (
    (λ i. all_messages-cons script server one left i ++ frame_end (after_all-cons script server one left i) ∷ [])
    ∙ append_assoc (messages script server one) (all_messages script next left) (frame_end (after_all script next left) ∷ [])
    ) ∙ sent-append (messages script server one) (rest_of script next left)

pub going_put : (script : Script) (steps left : List KindedStep) (one : KindedStep) (start : Server) (old new : Planned) (before mid now : List ℕ) → Going script steps (one ∷ left) start old before mid
    → PutsStep script (Ok tt) old new mid now (Some one) → Going script steps left start new before now
going_put script steps left one start old new before mid now g put =
    let is : after_put script old.server one ≡ new.server = ap (λ p. p.server) (sym put.0.1.0) in
    let c = held_through-cons g.may.held g.may.after one.step (bare left) g.may.checked in
    let pdus = sent (messages script old.server one) in
    record {
      wrote = g.wrote ++ pdus;
      gained = put.0.1.1 ∙ ap (λ z. z ++ pdus) g.gained ∙ append_assoc before g.wrote pdus;
      due =
          g.due ∙ ap (λ z. g.wrote ++ z) (rest_more script old.server one left)
          ∙ ap (λ (z : Server). g.wrote ++ (pdus ++ sent (rest_of script z left))) is ∙ sym (append_assoc g.wrote pdus (sent (rest_of script new.server left)));
      ends = g.ends ∙ ap after_close (after_all-cons script old.server one left) ∙ ap (λ (z : Server). after_close (after_all script z left)) is;
      fresh = ap (λ p. p.spent) put.0.1.0;
      within = still_in_frame script old new mid now (Some one) g.within (going_allowed script steps left one start old before mid g) put;
      may = record {
        numbers = g.may.numbers.1;
        kinds = g.may.kinds.1;
        held = c.0;
        holds = put.1.holds g.may.held c.0 g.may.holds c.1;
        after = g.may.after;
        checked = c.2;
      };
    }

pub going_fails : (script : Script) (steps left : List KindedStep) (one : KindedStep) (start : Server) (old new : Planned) (before mid now : List ℕ) (e : NoMemory) → Going script steps (one ∷ left) start old before mid
    → PutsStep script (Err e) old new mid now (Some one) → PutsFront before now (sent (frame_of script start steps))
going_fails script steps left one start old new before mid now e g put =
    front_on before mid now g.wrote (sent (messages script old.server one)) (sent (rest_of script (after_put script old.server one) left)) _
    g.gained (g.due ∙ ap (λ z. g.wrote ++ z) (rest_more script old.server one left)) put.0.1

-- it is ended
rest_none : (script : Script) (server : Server) → sent (rest_of script server []) ≡ sent (frame_end server ∷ [])
rest_none script server = ap sent (λ i. all_messages-nil script server i ++ frame_end (after_all-nil script server i) ∷ [])

pub going_ended : (script : Script) (steps : List KindedStep) (start : Server) (old new : Planned) (before mid now : List ℕ) → Going script steps [] start old before mid
    → AllSent new mid now (frame_end old.server ∷ []) (after_close old.server) → AllSent new before now (frame_of script start steps) (after_frame script start steps)
going_ended script steps start old new before mid now g s = (
  s.0 ∙ ap ready (sym (g.ends ∙ ap after_close (after_all-nil script old.server))),
  s.1 ∙ ap (λ z. z ++ sent (frame_end old.server ∷ [])) g.gained ∙ append_assoc before g.wrote (sent (frame_end old.server ∷ []))
      ∙ ap (λ z. before ++ z) (sym (g.due ∙ ap (λ z. g.wrote ++ z) (rest_none script old.server))),
)

pub going_unended : (script : Script) (steps : List KindedStep) (start : Server) (old new : Planned) (before mid now : List ℕ) → Going script steps [] start old before mid
    → PartSent new mid now (frame_end old.server ∷ []) → PutsFront before now (sent (frame_of script start steps))
going_unended script steps start old new before mid now g s =
    front_on before mid now g.wrote (sent (frame_end old.server ∷ [])) [] _
    g.gained (g.due ∙ ap (λ z. g.wrote ++ z) (rest_none script old.server ∙ sym (append-nil (sent (frame_end old.server ∷ []))))) s.1

-- the places of what waits --------------------------------------------------------------------------

slice_get-some : {X : Type 0} (xs : List X) (place : ℕ) → place < length xs → (x : X) × (slice_get xs place ≡ Some x)
slice_get-some xs place below =
    elim (slice_get_cases xs place).1 [
      | inl there ↦ (there.0, there.2)
      | inr past ↦ (let all = past.0 in absurd (omega arith))
    ]

some_is : {X : Type 0} (o : Option X) → IsSome o → (x : X) × (o ≡ Some x)
some_is None some = absurd cc
some_is (Some x) some = (x, refl)

all_at : {X : Type 0} (P : X → Type 0) (xs : List X) (place : ℕ) (x : X) → AllByRecursion P xs → slice_get xs place ≡ Some x → P x
all_at P [] place x all found = absurd cc
all_at P (y ∷ ys) zero x all found = subst P (let same : y ≡ x = cc in same) all.0
all_at P (y ∷ ys) (suc place) x all found = all_at P ys place x all.1 found

filter_map-some : {X Y : Type 0} (h : X → Option Y) (x : X) (y : Y) (xs : List X) → h x ≡ Some y → filter_map h (x ∷ xs) ≡ y ∷ filter_map h xs
filter_map-some h x y xs e = rw e refl

-- the steps that are left from a place on
abbrev pub left_from : Script → List Queued → ℕ → List KindedStep
left_from script pending place = steps_of script (kept script (drop place pending))

pub left_none : (script : Script) (pending : List Queued) (place : ℕ) → length pending ≤ place → left_from script pending place ≡ []
left_none script pending place past = ap (steps_of script) ((by_place script pending).last place past)

-- one that a later one covers is passed over
pub left_passed : (script : Script) (pending : List Queued) (place : ℕ) → place < length pending → superseded script pending place ≡ true → left_from script pending place ≡ left_from script pending (place + 1)
left_passed script pending place below is =
    let there = slice_get-some pending place below in
    let each = (by_place script pending).each place there.0 there.1 in
    ap (steps_of script) (each ∙ ap (λ b. cond b (kept script (drop (place + 1) pending)) (there.0 ∷ kept script (drop (place + 1) pending))) is)

-- the next that isn't is put
pub record LeftTaken (script : Script) (pending : List Queued) (place : ℕ) (item : Queued) : Type 0 where
  pub one : KindedStep
  pub is : step_of script item ≡ Some one
  pub left : left_from script pending place ≡ one ∷ left_from script pending (place + 1)

pub left_taken : (script : Script) (pending : List Queued) (place : ℕ) (item : Queued) → AllByRecursion (λ item. IsSome (step_of script item)) pending → slice_get pending place ≡ Some item → superseded script pending place ≡ false
    → LeftTaken script pending place item
left_taken script pending place item there found is =
    let some = all_at (λ item. IsSome (step_of script item)) pending place item there found in
    let one = some_is (step_of script item) some in
    let each = (by_place script pending).each place item found in
    let behind = kept script (drop (place + 1) pending) in
    record {
      one = one.0;
      is = one.1;
      left = ap (steps_of script) (each ∙ ap (λ b. cond b behind (item ∷ behind)) is) ∙ filter_map-some (step_of script) item one.0 behind one.1;
    }

-- the walk: a frame of all that waits is being put out, and what waits from this place on is left
abbrev pub Walking : Script → Window → ℕ → Server → Planned → List ℕ → List ℕ → Type 0
Walking script window place start planned before now = Going script (due_of script window) (left_from script window.pending place) start planned before now

pub walks_past : (script : Script) (window : Window) (place : ℕ) (start : Server) (planned : Planned) (before now : List ℕ) → place < length window.pending → superseded script window.pending place ≡ true
    → Walking script window place start planned before now → Walking script window (place + 1) start planned before now
walks_past script window place start planned before now below is g =
    subst (λ left. Going script (due_of script window) left start planned before now) (left_passed script window.pending place below is) g

-- at an item that is put
here : (script : Script) (window : Window) (place : ℕ) (item : Queued) (start : Server) (planned : Planned) (before now : List ℕ) → (t : LeftTaken script window.pending place item)
    → Walking script window place start planned before now → Going script (due_of script window) (t.one ∷ left_from script window.pending (place + 1)) start planned before now
here script window place item start planned before now t g = subst (λ left. Going script (due_of script window) left start planned before now) t.left g

pub walk_allowed : (script : Script) (window : Window) (place : ℕ) (item : Queued) (start server : Server) (planned : Planned) (before now : List ℕ) → MayFrame script server window → slice_get window.pending place ≡ Some item
    → superseded script window.pending place ≡ false → Walking script window place start planned before now → IsAllowedStep script planned.server (step_of script item)
walk_allowed script window place item start server planned before now may found is g =
    let t = left_taken script window.pending place item may.there found is in
    subst (IsAllowedStep script planned.server) (sym t.is)
    (going_allowed script (due_of script window) (left_from script window.pending (place + 1)) t.one start planned before now (here script window place item start planned before now t g))

pub walks_on : (script : Script) (window : Window) (place : ℕ) (item : Queued) (start server : Server) (old new : Planned) (before mid now : List ℕ) → MayFrame script server window → slice_get window.pending place ≡ Some item
    → superseded script window.pending place ≡ false → Walking script window place start old before mid → PutsStep script (Ok tt) old new mid now (step_of script item) → Walking script window (place + 1) start new before now
walks_on script window place item start server old new before mid now may found is g put =
    let t = left_taken script window.pending place item may.there found is in
    going_put script (due_of script window) (left_from script window.pending (place + 1)) t.one start old new before mid now (here script window place item start old before mid t g)
    (subst (PutsStep script (Ok tt) old new mid now) t.is put)

pub walk_fails : (script : Script) (window : Window) (place : ℕ) (item : Queued) (start server : Server) (old new : Planned) (before mid now : List ℕ) (e : NoMemory) → MayFrame script server window → slice_get window.pending place ≡ Some item
    → superseded script window.pending place ≡ false → Walking script window place start old before mid → PutsStep script (Err e) old new mid now (step_of script item) → PutsFront before now (sent (frame_of script start (due_of script window)))
walk_fails script window place item start server old new before mid now e may found is g put =
    let t = left_taken script window.pending place item may.there found is in
    going_fails script (due_of script window) (left_from script window.pending (place + 1)) t.one start old new before mid now e (here script window place item start old before mid t g)
    (subst (PutsStep script (Err e) old new mid now) t.is put)

-- at its end
walked : (script : Script) (window : Window) (place : ℕ) (start : Server) (planned : Planned) (before now : List ℕ) → length window.pending ≤ place → Walking script window place start planned before now
    → Going script (due_of script window) [] start planned before now
walked script window place start planned before now past g = subst (λ left. Going script (due_of script window) left start planned before now) (left_none script window.pending place past) g

pub walk_ends : (script : Script) (window : Window) (place : ℕ) (start : Server) (old new : Planned) (before mid now : List ℕ) → length window.pending ≤ place → Walking script window place start old before mid
    → AllSent new mid now (frame_end old.server ∷ []) (after_close old.server) → AllSent new before now (frame_of script start (due_of script window)) (after_frame script start (due_of script window))
walk_ends script window place start old new before mid now past g s = going_ended script (due_of script window) start old new before mid now (walked script window place start old before mid past g) s

pub walk_unended : (script : Script) (window : Window) (place : ℕ) (start : Server) (old new : Planned) (before mid now : List ℕ) → length window.pending ≤ place → Walking script window place start old before mid
    → PartSent new mid now (frame_end old.server ∷ []) → PutsFront before now (sent (frame_of script start (due_of script window)))
walk_unended script window place start old new before mid now past g s = going_unended script (due_of script window) start old new before mid now (walked script window place start old before mid past g) s

-- a frame that went is noted ----------------------------------------------------------------------------

-- while acknowledgements are suspended nothing is kept for it
pub unwatched_frame : (result : Result (Unit {0}) NoMemory) (old : ServerEnd) (window : Window) (frame : ℕ) → old.window.suspended ≡ true → OnOk result (window ≡ with_frame old.window frame old.last) → OnErr result (window ≡ old.window)
    → WatchesFrame result old (record old { window = window }) frame
unwatched_frame (Ok done) old window frame suspended ok err =
    (refl, ok, sym (append-nil old.ends.items) ∙ ap (λ b. old.ends.items ++ watched b (noted old.digests old.planner.server.state ∷ [])) (sym suspended))
unwatched_frame (Err e) old window frame suspended ok err = (ap (λ w. record old { window = w }) err, refl)

-- otherwise what is kept of the state right after it
pub kept_frame : (old : ServerEnd) (ends : List (Option (List ℕ))) (kept : Option (List ℕ)) → old.window.suspended ≡ false → ends ≡ old.ends.items ++ kept ∷ [] → kept ≡ noted old.digests old.planner.server.state
    → ends ≡ old.ends.items ++ watched old.window.suspended (noted old.digests old.planner.server.state ∷ [])
kept_frame old ends kept watches grown is =
    grown ∙ ap (λ d. old.ends.items ++ d ∷ []) is ∙ ap (λ b. old.ends.items ++ watched b (noted old.digests old.planner.server.state ∷ [])) (sym watches)

-- and so it is in flight, or unwatched, by the planner that has put it out
pub has_flown : (old new : ServerEnd) (planned : Planned) (server : Server) (frame : ℕ) → frame ≡ old.planner.server.frames + 1 → planned ≡ ready server → WatchesFrame (Ok tt) (record old { planner = planned }) new frame → Flies old new server
has_flown old new planned server frame id is w = record {
  script = ap (λ (z : ServerEnd). z.script) w.0;
  last = ap (λ (z : ServerEnd). z.last) w.0;
  window = w.1 ∙ ap (λ n. with_frame old.window n old.last) id;
  planned = ap (λ (z : ServerEnd). z.planner) w.0 ∙ is;
  ends = w.2 ∙ ap (λ (p : Planned). old.ends.items ++ watched old.window.suspended (noted old.digests p.server.state ∷ [])) is;
  digests = ap (λ (z : ServerEnd). z.digests) w.0;
  confirmed = ap (λ (z : ServerEnd). z.confirmed) w.0;
  closed = ap (λ (z : ServerEnd). z.closed) w.0;
  splitter = ap (λ (z : ServerEnd). z.splitter) w.0;
  spent = ap (λ (z : ServerEnd). z.spent) w.0;
}

-- or nothing is in flight for it, and the client is heard as before
pub has_not_flown : (old new : ServerEnd) (planned : Planned) (frame : ℕ) (e : NoMemory) → WatchesFrame (Err e) (record old { planner = planned }) new frame → HearsAsBefore old new
has_not_flown old new planned frame e w = record {
  window = ap (λ (z : ServerEnd). z.window) w.0;
  ends = w.1;
  digests = ap (λ (z : ServerEnd). z.digests) w.0;
  confirmed = ap (λ (z : ServerEnd). z.confirmed) w.0;
  closed = ap (λ (z : ServerEnd). z.closed) w.0;
  splitter = ap (λ (z : ServerEnd). z.splitter) w.0;
}
