-- What a server's end makes of one message of its client.
use Rattle.std.proofs.Common.{◌≡◌, ◌≤◌, ℕ, ◌+◌, ◌-◌, ◌==◌, Bool, true, false, List, [], ◌∷◌, ◌++◌, length, map, take, drop, Option, Some, None, Result, Ok, Err, if◌then◌else◌, refl, sym, ap, ◌∙◌, subst, append_assoc, length-append, length-drop, arith}
use Rattle.std.proofs.lemmas.List.{append-nil, drop-map, map-append, length-map}
use Rattle.gfx_pdu.specs.declared.pdu.Pdu.{Pdu}
use Rattle.gfx_pdu.specs.declared.pdu.Pdu.TheVariants.{CapsConfirm}
use Rattle.gfx_pdu.specs.Spelling.{IsSpellable, size, spelling}
use Rattle.gfx_pdu.proofs.Laws.{length-spelling}
use Rattle.gfx_segment.specs.Framing.{wrapped}
use Rattle.gfx_segment.specs.declared.profile.TheConstants.{MOST_PAYLOAD}
use Rattle.std.specs.Prelude.{not, ◌&&◌}
use Rattle.gfx_base.specs.Outcome.{Gives}
use Rattle.gfx_base.specs.declared.answer.Cause.{Cause}
use Rattle.gfx_base.specs.declared.answer.Cause.TheVariants as cause
use Rattle.gfx_base.specs.declared.refusal.Refusal.{Refusal}
use Rattle.gfx_base.specs.declared.refusal.Refusal.TheVariants.{PduUnknown, CapsVersion}
use Rattle.gfx_caps.specs.Choice.{binds_small, choice}
use Rattle.gfx_caps.specs.declared.choice.Chosen.{Chosen}
use Rattle.gfx_caps.specs.declared.message.ClientPdu.{ClientPdu}
use Rattle.gfx_caps.specs.declared.message.ClientPdu.TheVariants as message
use Rattle.gfx_caps.specs.declared.message.TheConstants.{SUSPENDS}
use Rattle.gfx_caps.specs.declared.entries.CacheEntry.{CacheEntry}
use Rattle.gfx_caps.specs.declared.sets.CapsSet.{CapsSet}
use Rattle.gfx_import.specs.Messages.{message_text, reply_text, import_reply, slots_of}
use Rattle.gfx_layout.proofs.FoundLaws.{length-spelled}
use Rattle.gfx_layout.specs.Layout.{spelled}
use Rattle.gfx_layout.specs.Header.{header}
use Rattle.gfx_schedule.specs.Hearing.{Heard, stop, confirm, confirms, acknowledges, declines, told}
use Rattle.gfx_schedule.specs.ServerEnd.{Stop}
use Rattle.gfx_schedule.specs.ServerEnd.{Refused as refuses, Unknown as unknown}
use Rattle.gfx_script.specs.Scripted.{Script}
use Rattle.gfx_state.specs.Sending.{sent}
use Rattle.gfx_state.specs.State.{State}
use Rattle.gfx_window.specs.declared.window.AckUnknown.{AckUnknown}
use Rattle.gfx_window.specs.declared.window.Sent.{Sent}
use Rattle.gfx_window.specs.Window.{Window, watched, is_unwatched, left_flying, acknowledged, acknowledged_late}
use Rattle.gfx_window.proofs.Watched.{watched-map, watched-length}
use Rattle.gfx_session.specs.Kept.{noted, PlansAsBefore}
use Rattle.gfx_session.specs.Listening.{Amid, LeavesPlan, Obeys, told_of}
use Rattle.gfx_session.specs.Noting.{taken_of}
use Rattle.gfx_session.specs.Taking.{fault_of}
use Rattle.gfx_session.specs.declared.digests.Digests.{Digests}
use Rattle.gfx_session.specs.declared.server_end.ServerEnd.{ServerEnd}
use Rattle.gfx_session.specs.declared.server_end.ServerFault.{ServerFault}
use Rattle.gfx_session.specs.declared.server_end.ServerFault.TheVariants.{Refused, Ack}
use Rattle.gfx_session.specs.declared.server_end.listening.ShownFrame.{ShownFrame}

-- whether it goes on is no matter, and neither are the bytes that are held
amid_stop : (before now : List ℕ) (had has : List ShownFrame) (end : ServerEnd) (heard : Heard) (why : Stop) → Amid before now had has end heard → Amid before now had has end (stop heard why)
amid_stop before now had has end heard why a = record {
  window = a.window;
  ends = a.ends;
  even = a.even;
  confirmed = a.confirmed;
  out = a.out;
  taken = a.taken;
  paired = a.paired;
}

-- a message that isn't read
pub unread : (script : Script) (end : ServerEnd) (now : List ℕ) (has : List ShownFrame) (fault : Cause Refusal) (due : Result ClientPdu Refusal) → Gives (λ p. p) (Err fault) due → Obeys (Err (fault_of fault)) end end now now has has (λ heard. told script heard due)
unfolding told
unread script end now has cause.Memory due e = refl
unread script end now has (cause.Refused r) (Err s) e = λ before had heard a.
    let same : s ≡ r = cc in (amid_stop before now had has end heard (refuses s) a, ap (λ z. Some (refuses z)) same)
unread script end now has (cause.Refused r) (Ok p) e = absurd cc

-- each message
pub tells_offers : (script : Script) (result : Result (Unit {0}) ServerFault) (old new : ServerEnd) (now later : List ℕ) (has more : List ShownFrame) (sets : List CapsSet) (due : Result ClientPdu Refusal) → due ≡ Ok (message.Advertise sets)
    → Obeys result old new now later has more (λ heard. confirms script heard (choice sets)) → Obeys result old new now later has more (λ heard. told script heard due)
unfolding told
tells_offers script result old new now later has more sets due e obeys = subst (λ z. Obeys result old new now later has more (λ heard. told script heard z)) (sym e) obeys

pub tells_frame : (script : Script) (result : Result (Unit {0}) ServerFault) (old new : ServerEnd) (now later : List ℕ) (has more : List ShownFrame) (depth frame total : ℕ) (due : Result ClientPdu Refusal) → due ≡ Ok (message.Ack depth frame total)
    → Obeys result old new now later has more (λ heard. acknowledges heard frame (acknowledged heard.end.window heard.end.window.flying depth frame)) → Obeys result old new now later has more (λ heard. told script heard due)
unfolding told
tells_frame script result old new now later has more depth frame total due e obeys = subst (λ z. Obeys result old new now later has more (λ heard. told script heard z)) (sym e) obeys

pub tells_kept : (script : Script) (result : Result (Unit {0}) ServerFault) (old new : ServerEnd) (now later : List ℕ) (has more : List ShownFrame) (entries : List CacheEntry) (due : Result ClientPdu Refusal) → due ≡ Ok (message.ImportOffer entries)
    → Obeys result old new now later has more (λ heard. declines heard heard.end.confirmed) → Obeys result old new now later has more (λ heard. told script heard due)
unfolding told
tells_kept script result old new now later has more entries due e obeys = subst (λ z. Obeys result old new now later has more (λ heard. told script heard z)) (sym e) obeys

-- how long a frame took at the client is passed over
pub tells_times : (script : Script) (end : ServerEnd) (now : List ℕ) (has : List ShownFrame) (frame timestamp decoding rendering : ℕ) (due : Result ClientPdu Refusal) → due ≡ Ok (message.QoeAck frame timestamp decoding rendering)
    → Obeys (Ok tt) end end now now has has (λ heard. told script heard due)
unfolding told
tells_times script end now has frame timestamp decoding rendering due e = subst (λ z. Obeys (Ok tt) end end now now has has (λ heard. told script heard z)) (sym e) (λ before had heard a. (a, refl, refl))

-- offers ------------------------------------------------------------------------------------------------------

pub not_chosen : (script : Script) (end : ServerEnd) (now : List ℕ) (has : List ShownFrame) (r : Refusal) (due : Result Chosen Refusal) → due ≡ Err r → Obeys (Err (Refused r)) end end now now has has (λ heard. confirms script heard due)
unfolding confirms
not_chosen script end now has r (Err s) e = λ before had heard a.
    let same : s ≡ r = cc in (amid_stop before now had has end heard (refuses s) a, ap (λ z. Some (refuses z)) same)
not_chosen script end now has r (Ok chosen) e = absurd cc

too_small : (script : Script) (heard : Heard) (chosen : Chosen) → (binds_small chosen.flags && not script.small) ≡ true → confirms script heard (Ok chosen) ≡ stop heard (refuses CapsVersion)
unfolding confirms
too_small script heard chosen e = rw e refl

pub not_small : (script : Script) (end : ServerEnd) (now : List ℕ) (has : List ShownFrame) (chosen : Chosen) (due : Result Chosen Refusal) → due ≡ Ok chosen → (binds_small chosen.flags && not script.small) ≡ true
    → Obeys (Err (Refused CapsVersion)) end end now now has has (λ heard. confirms script heard due)
not_small script end now has chosen due e small = λ before had heard a.
    let is : confirms script heard due ≡ stop heard (refuses CapsVersion) = ap (confirms script heard) e ∙ too_small script heard chosen small in
    (subst (Amid before now had has end) (sym is) (amid_stop before now had has end heard (refuses CapsVersion) a), ap (λ z. z.end.stopped) is)

-- what is heard where a version is confirmed
abbrev confirmed : Heard → Chosen → Heard
confirmed heard chosen = record heard { end = record heard.end { confirmed = true }; out = heard.out ++ sent (confirm chosen ∷ []) }

is_confirmed : (script : Script) (heard : Heard) (chosen : Chosen) → (binds_small chosen.flags && not script.small) ≡ false → confirms script heard (Ok chosen) ≡ confirmed heard chosen
unfolding confirms
is_confirmed script heard chosen e = rw e refl

amid_confirmed : (before now later : List ℕ) (had has : List ShownFrame) (end : ServerEnd) (heard : Heard) (chosen : Chosen) → later ≡ now ++ sent (confirm chosen ∷ []) → Amid before now had has end heard → Amid before later had has (record end { confirmed = true }) (confirmed heard chosen)
amid_confirmed before now later had has end heard chosen wrote a = record {
  window = a.window;
  ends = a.ends;
  even = a.even;
  confirmed = refl;
  out = wrote ∙ ap (λ z. z ++ sent (confirm chosen ∷ [])) a.out ∙ append_assoc before heard.out (sent (confirm chosen ∷ []));
  taken = a.taken;
  paired = a.paired;
}

pub chosen : (script : Script) (end : ServerEnd) (now later : List ℕ) (has : List ShownFrame) (pick : Chosen) (due : Result Chosen Refusal) → due ≡ Ok pick → (binds_small pick.flags && not script.small) ≡ false → later ≡ now ++ sent (confirm pick ∷ [])
    → Obeys (Ok tt) end (record end { confirmed = true }) now later has has (λ heard. confirms script heard due)
chosen script end now later has pick due e small wrote = λ before had heard a.
    let is : confirms script heard due ≡ confirmed heard pick = ap (confirms script heard) e ∙ is_confirmed script heard pick small in (
      subst (Amid before later had has (record end { confirmed = true })) (sym is) (amid_confirmed before now later had has end heard pick wrote a),
      ap (λ z. z.end.stopped) is,
      ap (λ z. z.end.heard) is,
    )

-- acknowledgements --------------------------------------------------------------------------------------------

-- so many of the oldest frames are told of and leave the flight; where acknowledgements are suspended then, all leave it
pub record Leaves (count : ℕ) (window after : Window) : Type 0 where
  pub pending : after.pending ≡ window.pending
  pub flying : after.flying ≡ watched after.suspended (drop count window.flying)
  pub some : count ≤ length window.flying

-- how many frames are told of
abbrev pub count_of : Option ℕ → ℕ
count_of shown = length (told_of 0 shown)

abbrev Found : Window → Result (Option ℕ × Window) AckUnknown → Type 0
Found window (Ok found) = Leaves (count_of found.0) window found.1
Found window (Err u) = Unit {0}

leaves-flying : (suspends : Bool) (window : Window) (flying : List Sent) (count : ℕ) → flying ≡ drop count window.flying → count ≤ length window.flying → Leaves count window (left_flying suspends window flying)
leaves-flying true window flying count is some = record { pending = refl; flying = refl; some = some }
leaves-flying false window flying count is some = record { pending = refl; flying = is; some = some }

either_found : (b : Bool) (window : Window) (x y : Result (Option ℕ × Window) AckUnknown) → Found window x → Found window y → Found window (if b then x else y)
either_found true window x y first second = first
either_found false window x y first second = second

late : (window : Window) (oldest : Option ℕ) (depth frame : ℕ) → Found window (acknowledged_late window oldest depth frame)
late window oldest depth frame = either_found (is_unwatched window.unwatched frame) window _ _ (leaves-flying (depth == SUSPENDS) window window.flying 0 refl (omega arith)) tt

found : (window : Window) (flying : List Sent) (depth frame : ℕ) → flying ≡ window.flying → Found window (acknowledged window flying depth frame)
unfolding acknowledged
found window [] depth frame is = late window None depth frame
found window (first ∷ others) depth frame is =
    either_found (first.frame == frame) window _ _ (leaves-flying (depth == SUSPENDS) window others 1 (ap (drop 1) is) (omega (arith, ap length is))) (late window (Some first.frame) depth frame)

pub leaves : (window after : Window) (depth frame : ℕ) (shown : Option ℕ) → acknowledged window window.flying depth frame ≡ Ok (shown, after) → Leaves (count_of shown) window after
leaves window after depth frame shown e = subst (Found window) e (found window window.flying depth frame refl)

pub not_oldest : (end : ServerEnd) (window : Window) (now : List ℕ) (has : List ShownFrame) (depth frame : ℕ) (u : AckUnknown) → window ≡ end.window → acknowledged end.window end.window.flying depth frame ≡ Err u
    → Obeys (Err (Ack u)) end (record end { window = window }) now now has has (λ heard. acknowledges heard frame (acknowledged heard.end.window heard.end.window.flying depth frame))
unfolding acknowledges
not_oldest end window now has depth frame u same e = λ before had heard a.
    let due : acknowledged heard.end.window heard.end.window.flying depth frame ≡ Err u = ap (λ z. acknowledged z z.flying depth frame) (sym a.window) ∙ e in
    let is : acknowledges heard frame (acknowledged heard.end.window heard.end.window.flying depth frame) ≡ stop heard (unknown u) = ap (acknowledges heard frame) due in
    let b = amid_stop before now had has end heard (unknown u) a in
    let c : Amid before now had has (record end { window = window }) (stop heard (unknown u)) = record {
      window = same ∙ b.window;
      ends = b.ends;
      even = b.even;
      confirmed = b.confirmed;
      out = b.out;
      taken = b.taken;
      paired = b.paired;
    } in
    (subst (Amid before now had has (record end { window = window })) (sym is) c, ap (λ z. z.end.stopped) is)

-- what stays
pub record Stays (old new : ServerEnd) : Type 0 where
  pub script : new.script ≡ old.script
  pub last : new.last ≡ old.last
  pub planner : new.planner ≡ old.planner
  pub spent : new.spent ≡ old.spent
  pub confirmed : new.confirmed ≡ old.confirmed
  pub digests : new.digests ≡ old.digests

-- only the window has changed, which is this one now, and what is kept for frames
pub stays : (old new : ServerEnd) (window : Window) → new ≡ record old { window = window; ends = new.ends } → Stays old new
stays old new window is = record {
  script = ap (λ (z : ServerEnd). z.script) is;
  last = ap (λ (z : ServerEnd). z.last) is;
  planner = ap (λ (z : ServerEnd). z.planner) is;
  spent = ap (λ (z : ServerEnd). z.spent) is;
  confirmed = ap (λ (z : ServerEnd). z.confirmed) is;
  digests = ap (λ (z : ServerEnd). z.digests) is;
}

same_found : (old new : ServerEnd) (window : Window) (depth frame : ℕ) (shown : Option ℕ) → new ≡ record old { window = window; ends = new.ends } → acknowledged old.window old.window.flying depth frame ≡ Ok (shown, window)
    → acknowledged old.window old.window.flying depth frame ≡ Ok (shown, new.window)
same_found old new window depth frame shown is e = e ∙ ap (λ z. Ok (shown, z)) (sym (ap (λ (z : ServerEnd). z.window) is))

taken_of-append : (frames : List Sent) (frame : Sent) (digests : List (Option (List ℕ))) (digest : Option (List ℕ)) → length digests ≡ length frames
    → taken_of (frames ++ frame ∷ []) (digests ++ digest ∷ []) ≡ taken_of frames digests ++ record { frame = frame.frame; step = frame.step; digest = digest } ∷ []
taken_of-append [] frame [] digest even = refl
taken_of-append [] frame (d ∷ digests) digest even = absurd (omega (arith, even))
taken_of-append (f ∷ frames) frame [] digest even = absurd (omega (arith, even))
taken_of-append (f ∷ frames) frame (d ∷ digests) digest even = ap (λ z. record { frame = f.frame; step = f.step; digest = d } ∷ z) (taken_of-append frames frame digests digest (omega (arith, even)))

-- what is heard of it
abbrev acked : Heard → Sent → Window → Heard
acked heard one after = record heard {
  end = record heard.end { window = after; ends = watched after.suspended (drop 1 heard.end.ends) };
  taken = heard.taken ++ one ∷ [];
  states = heard.states ++ take 1 heard.end.ends;
}

-- and of one that isn't told of
abbrev passed : Heard → Window → Heard
passed heard after = record heard { end = record heard.end { window = after; ends = watched after.suspended heard.end.ends } }

-- the oldest of the ends
record IsFirst (digests : Digests) (ends : List State) (one : Sent) : Type 0 where
  state : State
  front : take 1 ends ≡ state ∷ []
  noted_so : taken_of (one ∷ []) (map (noted digests) ends) ≡ record { frame = one.frame; step = one.step; digest = noted digests state } ∷ []

is_first : (digests : Digests) (ends : List State) (one : Sent) → 1 ≤ length ends → IsFirst digests ends one
is_first digests [] one some = absurd (omega (arith, some))
is_first digests (state ∷ ends) one some = record { state = state; front = refl; noted_so = refl }

-- of the frames in flight as many leave as of the states that are kept for them
ends_left : (count : ℕ) (old new : ServerEnd) (ends : List State) → Stays old new → old.ends.items ≡ map (noted old.digests) ends → new.ends.items ≡ watched new.window.suspended (drop count old.ends.items)
    → new.ends.items ≡ map (noted new.digests) (watched new.window.suspended (drop count ends))
ends_left count old new ends s were left =
    left ∙ ap (λ z. watched new.window.suspended (drop count z)) were ∙ ap (watched new.window.suspended) (drop-map (noted old.digests) count ends)
    ∙ sym (watched-map (noted old.digests) new.window.suspended (drop count ends)) ∙ ap (λ (d : Digests). map (noted d) (watched new.window.suspended (drop count ends))) (sym s.digests)

still_even : (count : ℕ) (window after : Window) (ends : List State) → Leaves count window after → length ends ≡ length window.flying → length (watched after.suspended (drop count ends)) ≡ length after.flying
still_even count window after ends l even =
    watched-length after.suspended (drop count ends) (drop count window.flying) (length-drop count ends ∙ ap (λ n. n - count) even ∙ sym (length-drop count window.flying)) ∙ ap length (sym l.flying)

amid_acked : (before now : List ℕ) (had has more : List ShownFrame) (old new : ServerEnd) (heard : Heard) (one : Sent) → Stays old new → Leaves 1 old.window new.window
    → new.ends.items ≡ watched new.window.suspended (drop 1 old.ends.items) → more ≡ has ++ taken_of (one ∷ []) old.ends.items → Amid before now had has old heard → Amid before now had more new (acked heard one new.window)
amid_acked before now had has more old new heard one s l left pushed a =
    let even : length heard.end.ends ≡ length old.window.flying = a.even ∙ ap (λ (z : Window). length z.flying) (sym a.window) in
    let first = is_first old.digests heard.end.ends one (omega (arith, even, l.some)) in
    let keep : State → Option (List ℕ) = noted old.digests in
    let item : ShownFrame = record { frame = one.frame; step = one.step; digest = keep first.state } in
    let states : map keep (heard.states ++ take 1 heard.end.ends) ≡ map keep heard.states ++ keep first.state ∷ [] =
    ap (λ z. map keep (heard.states ++ z)) first.front ∙ map-append keep heard.states (first.state ∷ []) in
    let joined = taken_of-append heard.taken one (map keep heard.states) (keep first.state) (length-map heard.states keep ∙ a.paired) in
    record {
      window = refl;
      ends = ends_left 1 old new heard.end.ends s a.ends left;
      even = still_even 1 old.window new.window heard.end.ends l even;
      confirmed = s.confirmed ∙ a.confirmed;
      out = a.out;
      taken = pushed ∙ ap (λ z. has ++ taken_of (one ∷ []) z) a.ends ∙ ap (λ z. has ++ z) first.noted_so
          ∙ ap (λ z. z ++ item ∷ []) a.taken ∙ append_assoc had (taken_of heard.taken (map keep heard.states)) (item ∷ []) ∙ ap (λ z. had ++ z) (sym joined)
          ∙ ap (λ z. had ++ taken_of (heard.taken ++ one ∷ []) z) (sym states)
          ∙ ap (λ (d : Digests). had ++ taken_of (heard.taken ++ one ∷ []) (map (noted d) (heard.states ++ take 1 heard.end.ends))) (sym s.digests);
      paired = ap (λ z. length (heard.states ++ z)) first.front ∙ length-append heard.states (first.state ∷ []) ∙ ap (λ n. n + 1) a.paired ∙ sym (length-append heard.taken (one ∷ []));
    }

amid_passed : (before now : List ℕ) (had has : List ShownFrame) (old new : ServerEnd) (heard : Heard) → Stays old new → Leaves 0 old.window new.window
    → new.ends.items ≡ watched new.window.suspended old.ends.items → Amid before now had has old heard → Amid before now had has new (passed heard new.window)
amid_passed before now had has old new heard s l left a = record {
  window = refl;
  ends = ends_left 0 old new heard.end.ends s a.ends left;
  even = still_even 0 old.window new.window heard.end.ends l (a.even ∙ ap (λ (z : Window). length z.flying) (sym a.window));
  confirmed = s.confirmed ∙ a.confirmed;
  out = a.out;
  taken = a.taken ∙ ap (λ (d : Digests). had ++ taken_of heard.taken (map (noted d) heard.states)) (sym s.digests);
  paired = a.paired;
}

pub takes_frame : (old new : ServerEnd) (now : List ℕ) (has more : List ShownFrame) (depth frame step : ℕ) → Stays old new → acknowledged old.window old.window.flying depth frame ≡ Ok (Some step, new.window)
    → new.ends.items ≡ watched new.window.suspended (drop 1 old.ends.items) → more ≡ has ++ taken_of (record { frame = frame; step = step } ∷ []) old.ends.items
    → Obeys (Ok tt) old new now now has more (λ heard. acknowledges heard frame (acknowledged heard.end.window heard.end.window.flying depth frame))
unfolding acknowledges
takes_frame old new now has more depth frame step s e left pushed = λ before had heard a.
    let one : Sent = record { frame = frame; step = step } in
    let due : acknowledged heard.end.window heard.end.window.flying depth frame ≡ Ok (Some step, new.window) = ap (λ z. acknowledged z z.flying depth frame) (sym a.window) ∙ e in
    let is : acknowledges heard frame (acknowledged heard.end.window heard.end.window.flying depth frame) ≡ acked heard one new.window = ap (acknowledges heard frame) due in (
      subst (Amid before now had more new) (sym is) (amid_acked before now had has more old new heard one s (leaves old.window new.window depth frame (Some step) e) left pushed a),
      ap (λ z. z.end.stopped) is,
      ap (λ z. z.end.heard) is,
    )

pub takes_unwatched : (old new : ServerEnd) (now : List ℕ) (has : List ShownFrame) (depth frame : ℕ) → Stays old new → acknowledged old.window old.window.flying depth frame ≡ Ok (None, new.window) → new.ends.items ≡ watched new.window.suspended old.ends.items
    → Obeys (Ok tt) old new now now has has (λ heard. acknowledges heard frame (acknowledged heard.end.window heard.end.window.flying depth frame))
unfolding acknowledges
takes_unwatched old new now has depth frame s e left = λ before had heard a.
    let due : acknowledged heard.end.window heard.end.window.flying depth frame ≡ Ok (None, new.window) = ap (λ z. acknowledged z z.flying depth frame) (sym a.window) ∙ e in
    let is : acknowledges heard frame (acknowledged heard.end.window heard.end.window.flying depth frame) ≡ passed heard new.window = ap (acknowledges heard frame) due in (
      subst (Amid before now had has new) (sym is) (amid_passed before now had has old new heard s (leaves old.window new.window depth frame None e) left a),
      ap (λ z. z.end.stopped) is,
      ap (λ z. z.end.heard) is,
    )

-- where no frame is noted, and where one is
fewer : (count : ℕ) (window after : Window) → Leaves count window after → length after.flying + count ≤ length window.flying
fewer count window after l = by after.suspended l.flying
  where
    by : (suspended : Bool) → after.flying ≡ watched suspended (drop count window.flying) → length after.flying + count ≤ length window.flying
    by true is = omega (arith, ap length is, l.some)
    by false is = omega (arith, ap length is, length-drop count window.flying, l.some)

plans_as_before : (count : ℕ) (old new : ServerEnd) → Stays old new → Leaves count old.window new.window → PlansAsBefore old new
plans_as_before count old new s l = record { script = s.script; last = s.last; planner = s.planner; spent = s.spent; pending = l.pending; digests = s.digests }

pub leaves_none : (old new : ServerEnd) (has : List ShownFrame) (depth frame : ℕ) (shown : Option ℕ) → Stays old new → acknowledged old.window old.window.flying depth frame ≡ Ok (shown, new.window) → LeavesPlan old new has has
leaves_none old new has depth frame shown s e =
    let l = leaves old.window new.window depth frame shown e in
    record { plans = plans_as_before (count_of shown) old new s l; few = omega (arith, fewer (count_of shown) old.window new.window l) }

one_noted : (one : Sent) (kept : List (Option (List ℕ))) → length (taken_of (one ∷ []) kept) ≤ 1
one_noted one [] = omega arith
one_noted one (digest ∷ kept) = omega arith

pub leaves_one : (old new : ServerEnd) (has more : List ShownFrame) (depth frame step : ℕ) → Stays old new → acknowledged old.window old.window.flying depth frame ≡ Ok (Some step, new.window) → more ≡ has ++ taken_of (record { frame = frame; step = step } ∷ []) old.ends.items
    → LeavesPlan old new has more
leaves_one old new has more depth frame step s e pushed =
    let one : Sent = record { frame = frame; step = step } in
    let l = leaves old.window new.window depth frame (Some step) e in
    record {
      plans = plans_as_before 1 old new s l;
      few = omega (arith, fewer 1 old.window new.window l, ap length pushed, length-append has (taken_of (one ∷ []) old.ends.items), one_noted one old.ends.items);
    }

-- what was kept for a frame that is told of is noted, and then nothing is kept but for what is in flight
pub record Shows (old mid new : ServerEnd) (window : Window) (has more : List ShownFrame) (depth frame : ℕ) (shown : Option ℕ) : Type 0 where
  pub found : acknowledged old.window old.window.flying depth frame ≡ Ok (shown, window)
  pub first : mid ≡ record old { window = window; ends = mid.ends }
  pub second : new ≡ record mid { ends = new.ends }
  pub behind : mid.ends.items ≡ drop (length (told_of frame shown)) old.ends.items
  pub left : new.ends.items ≡ watched mid.window.suspended mid.ends.items
  pub pushed : more ≡ has ++ taken_of (told_of frame shown) old.ends.items

module _ (old mid new : ServerEnd) (window : Window) (has more : List ShownFrame) (depth frame : ℕ) where
  shows_is : (shown : Option ℕ) → Shows old mid new window has more depth frame shown → new ≡ record old { window = window; ends = new.ends }
  shows_is shown s = s.second ∙ ap (λ (z : ServerEnd). record z { ends = new.ends }) s.first

  shows_left : (shown : Option ℕ) → Shows old mid new window has more depth frame shown → new.ends.items ≡ watched new.window.suspended (drop (length (told_of frame shown)) old.ends.items)
  shows_left shown s =
      let at : mid.window ≡ new.window = ap (λ (z : ServerEnd). z.window) s.first ∙ sym (ap (λ (z : ServerEnd). z.window) (shows_is shown s)) in
      s.left ∙ (λ i. watched (at i).suspended (s.behind i))

  pub shows_frame : (shown : Option ℕ) (now : List ℕ) → Shows old mid new window has more depth frame shown
      → Obeys (Ok tt) old new now now has more (λ heard. acknowledges heard frame (acknowledged heard.end.window heard.end.window.flying depth frame))
  shows_frame None now s =
      let is = shows_is None s in
      subst (λ z. Obeys (Ok tt) old new now now has z (λ heard. acknowledges heard frame (acknowledged heard.end.window heard.end.window.flying depth frame))) (sym (s.pushed ∙ append-nil has))
      (takes_unwatched old new now has depth frame (stays old new window is) (same_found old new window depth frame None is s.found) (shows_left None s))
  shows_frame (Some step) now s =
      let is = shows_is (Some step) s in
      takes_frame old new now has more depth frame step (stays old new window is) (same_found old new window depth frame (Some step) is s.found) (shows_left (Some step) s) s.pushed

  pub leaves_shown : (shown : Option ℕ) → Shows old mid new window has more depth frame shown → LeavesPlan old new has more
  leaves_shown None s =
      let is = shows_is None s in
      subst (LeavesPlan old new has) (sym (s.pushed ∙ append-nil has)) (leaves_none old new has depth frame None (stays old new window is) (same_found old new window depth frame None is s.found))
  leaves_shown (Some step) s =
      let is = shows_is (Some step) s in
      leaves_one old new has more depth frame step (stays old new window is) (same_found old new window depth frame (Some step) is s.found) s.pushed

-- memory ran out before it was noted
pub leaves_unnoted : (old mid : ServerEnd) (window : Window) (has more : List ShownFrame) (depth frame : ℕ) (shown : Option ℕ) → acknowledged old.window old.window.flying depth frame ≡ Ok (shown, window) → mid ≡ record old { window = window; ends = mid.ends }
    → more ≡ has → LeavesPlan old mid has more
leaves_unnoted old mid window has more depth frame shown e is same =
    subst (LeavesPlan old mid has) (sym same) (leaves_none old mid has depth frame shown (stays old mid window is) (same_found old mid window depth frame shown is e))

-- an offer of kept bitmaps ----------------------------------------------------------------------------------------

amid_declined : (before now later : List ℕ) (had has : List ShownFrame) (end : ServerEnd) (heard : Heard) → later ≡ now ++ wrapped (reply_text 0) → Amid before now had has end heard → Amid before later had has end (record heard { out = heard.out ++ wrapped (reply_text 0) })
amid_declined before now later had has end heard wrote a = record {
  window = a.window;
  ends = a.ends;
  even = a.even;
  confirmed = a.confirmed;
  out = wrote ∙ ap (λ z. z ++ wrapped (reply_text 0)) a.out ∙ append_assoc before heard.out (wrapped (reply_text 0));
  taken = a.taken;
  paired = a.paired;
}

pub refuses_offer : (end : ServerEnd) (now : List ℕ) (has : List ShownFrame) → end.confirmed ≡ false → Obeys (Err (Refused PduUnknown)) end end now now has has (λ heard. declines heard heard.end.confirmed)
unfolding declines
refuses_offer end now has not_yet = λ before had heard a.
    let is : declines heard heard.end.confirmed ≡ stop heard (refuses PduUnknown) = ap (declines heard) (sym a.confirmed ∙ not_yet) in
    (subst (Amid before now had has end) (sym is) (amid_stop before now had has end heard (refuses PduUnknown) a), ap (λ z. z.end.stopped) is)

pub declines_offer : (end : ServerEnd) (now later : List ℕ) (has : List ShownFrame) → end.confirmed ≡ true → later ≡ now ++ wrapped (reply_text 0) → Obeys (Ok tt) end end now later has has (λ heard. declines heard heard.end.confirmed)
unfolding declines
declines_offer end now later has known wrote = λ before had heard a.
    let is : declines heard heard.end.confirmed ≡ record heard { out = heard.out ++ wrapped (reply_text 0) } = ap (declines heard) (sym a.confirmed ∙ known) in
    (subst (Amid before later had has end) (sym is) (amid_declined before now later had has end heard wrote a), ap (λ z. z.end.stopped) is, ap (λ z. z.end.heard) is)

-- the reply has ten bytes
pub reply_short : (bytes : List ℕ) → bytes ≡ reply_text 0 → length bytes ≤ MOST_PAYLOAD
unfolding message_text header
reply_short bytes e =
    let body : length (spelled import_reply (slots_of 0, tt)) ≡ 2 = length-spelled import_reply (slots_of 0, tt) in
    omega (arith, ap length e, body)

-- the confirmation ----------------------------------------------------------------------------------------------

confirm_size : (version : ℕ) (payload : List ℕ) → size (CapsConfirm version payload) ≡ 16 + length payload
unfolding size
confirm_size version payload = omega arith

pub confirm_spellable : (version : ℕ) (payload : List ℕ) → length payload ≤ 4 → IsSpellable (CapsConfirm version payload)
confirm_spellable version payload few = record { counts = tt; short = omega (arith, confirm_size version payload, few) }

pub confirm_short : (version : ℕ) (payload bytes : List ℕ) → bytes ≡ spelling (CapsConfirm version payload) → length payload ≤ 4 → length bytes ≤ MOST_PAYLOAD
confirm_short version payload bytes e few = omega (arith, ap length e, length-spelling (CapsConfirm version payload), confirm_size version payload, few)

pub one_sent : (pdu : Pdu) → wrapped (spelling pdu) ≡ sent (pdu ∷ [])
unfolding sent
one_sent pdu = sym (append-nil (wrapped (spelling pdu)))
