-- What a call of a server's end comes to.
use Rattle.std.proofs.Common.{◌≡◌, ℕ, Bool, true, false, ◌||◌, List, [], ◌∷◌, length, map, Option, Some, None, is_some, Ok, Err, refl, sym, ap, ◌∙◌, subst, arith}
use Rattle.std.proofs.lemmas.List.{length-map}
use Rattle.gfx_schedule.specs.Hearing.{Heard, listening, hears}
use Rattle.gfx_schedule.specs.Plan.{InPlanFrom}
use Rattle.gfx_schedule.specs.Starts.{MayBegin}
use Rattle.gfx_schedule.specs.ServerEnd.{Stop, Refused as refuses, Unknown as unknown}
use Rattle.gfx_script.specs.Checks.{Held}
use Rattle.gfx_script.specs.Script.{IsAcceptedFrom}
use Rattle.gfx_script.specs.Scripted.{Script}
use Rattle.gfx_window.specs.declared.window.Sent.{Sent}
use Rattle.gfx_session.specs.Kept.{noted, InStep, IsServerEndFrom, ListensAs, PlansAsBefore}
use Rattle.gfx_session.specs.Listening.{Amid, LeavesPlan, Hears}
use Rattle.gfx_session.specs.Noting.{Listens, taken_of}
use Rattle.gfx_session.specs.Taking.{Takes, is_want_of_memory}
use Rattle.gfx_session.specs.declared.server_end.ServerEnd.{ServerEnd}
use Rattle.gfx_session.specs.declared.server_end.ServerFault.{ServerFault}
use Rattle.gfx_session.specs.declared.server_end.ServerFault.TheVariants.{Refused, Ack, Memory, Closed}
use Rattle.gfx_session.specs.declared.server_end.listening.ShownFrame.{ShownFrame}

-- what every server's end has stays
in_step : {held : Held} (script : Script) (old new : ServerEnd) (had has : List ShownFrame) → LeavesPlan old new had has → InStep held old → InStep held new
in_step script old new had has b i = record {
  origin = i.origin;
  checks = i.checks;
  kinded = i.kinded;
  begins = subst (λ z. MayBegin i.origin z i.kinded) (sym b.plans.script) i.begins;
  at = record i.at { window = new.window };
  gone = i.gone;
  waiting = i.waiting;
  plan = subst (λ z. InPlanFrom i.origin z i.kinded (record i.at { window = new.window }) i.gone i.waiting) (sym b.plans.script) (record {
    cut = i.plan.cut;
    last = i.plan.last;
    pending = b.plans.pending ∙ ap (λ z. z.pending) i.window ∙ i.plan.pending;
    held = i.plan.held;
    checked = i.plan.checked;
    holds = i.plan.holds;
    agrees = i.plan.agrees;
    frame = i.plan.frame;
    frames = i.plan.frames;
  });
  last = b.plans.last ∙ i.last;
  window = refl;
  planned = b.plans.planner ∙ i.planned;
}

pub keeps : {held : Held} (old new : ServerEnd) (had has : List ShownFrame) → LeavesPlan old new had has → IsServerEndFrom held old → IsServerEndFrom held new
keeps {held} old new had has b i = record {
  good = subst (IsAcceptedFrom held) (sym b.plans.script) i.good;
  in_step = λ fresh. in_step old.script old new had has b (i.in_step (sym b.plans.spent ∙ fresh));
}

-- and so it is of one that is spent
pub spent_end : {held : Held} (old new : ServerEnd) → IsServerEndFrom held old → new.script ≡ old.script → new.spent ≡ true → IsServerEndFrom held new
spent_end {held} old new i same spent =
    record { good = subst (IsAcceptedFrom held) (sym same) i.good; in_step = λ fresh. absurd (let e = sym spent ∙ fresh in cc) }

-- a server's end that a fault closes, and spends where memory is wanting
abbrev pub closed_for : ServerFault → ServerEnd → ServerEnd
closed_for fault end = record end { closed = true; spent = is_want_of_memory fault || end.spent }

not_spent : (b spent : Bool) → (b || spent) ≡ false → spent ≡ false
not_spent true spent none = absurd cc
not_spent false spent none = none

pub closed_too : {held : Held} (new : ServerEnd) (fault : ServerFault) → IsServerEndFrom held new → IsServerEndFrom held (closed_for fault new)
closed_too new fault i = record {
  good = i.good;
  in_step = λ fresh. let s = i.in_step (not_spent (is_want_of_memory fault) new.spent fresh) in record { origin = s.origin; checks = s.checks; kinded = s.kinded; begins = s.begins; at = s.at; gone = s.gone; waiting = s.waiting; plan = s.plan; last = s.last; window = s.window; planned = s.planned };
}

-- the same, however it was found out why
pub closed_is : (fault : ServerFault) (end : ServerEnd) (wants : Bool) → wants ≡ is_want_of_memory fault → closed_for fault end ≡ record end { closed = true; spent = wants || end.spent }
closed_is fault end wants is = λ i. record end { closed = true; spent = sym is i || end.spent }

-- a server's end that a fault closes hears as the schedule's that has stopped
stops : (before now : List ℕ) (had has : List ShownFrame) (new : ServerEnd) (heard : Heard) (why : Stop) → Amid before now had has new heard → heard.end.stopped ≡ Some why → ListensAs (record new { closed = true }) heard.end
stops before now had has new heard why a is = record {
  window = a.window;
  ends = a.ends;
  even = a.even;
  confirmed = a.confirmed;
  closed = sym (ap is_some is);
  heard = λ none. absurd (let no : None ≡ Some why = sym none ∙ is in cc);
  short = λ none. absurd (let no : None ≡ Some why = sym none ∙ is in cc);
}

-- what its client's bytes leave as it is
pub plans : {old new : ServerEnd} {had has : List ShownFrame} {closed : Bool} → LeavesPlan old new had has → PlansAsBefore old (record new { closed = closed })
plans b = record { script = b.plans.script; last = b.plans.last; planner = b.plans.planner; spent = b.plans.spent; pending = b.plans.pending; digests = b.plans.digests }

-- what a fault leaves that closes it
pub closed_by : (closed : Bool) (fault : ServerFault) (old new : ServerEnd) (before now : List ℕ) (had has : List ShownFrame) (piece : List ℕ) → closed ≡ false → LeavesPlan old new had has
    → Hears (Err fault) old new before now had has piece → Listens closed (Err fault) old (closed_for fault new) before now had has piece
closed_by true fault old new before now had has piece unclosed b h = absurd cc
closed_by false (Refused r) old new before now had has piece unclosed b h = (
  plans b,
  λ at stands. let x = h at stands in ((stops before now had has new (hears old.script (listening at) piece) (refuses r) x.0 x.1, x.0.out), x.1),
)
closed_by false (Ack u) old new before now had has piece unclosed b h = (
  plans b,
  λ at stands. let x = h at stands in ((stops before now had has new (hears old.script (listening at) piece) (unknown u) x.0 x.1, x.0.out), x.1),
)
closed_by false Memory old new before now had has piece unclosed b h = (
  (
    record { script = b.plans.script; last = b.plans.last; planner = b.plans.planner; spent = refl; pending = b.plans.pending; digests = b.plans.digests },
    refl,
  ),
  (refl, h),
)
closed_by false Closed old new before now had has piece unclosed b h = absurd h

-- the count ---------------------------------------------------------------------------------------------------

length-taken_of : (frames : List Sent) (digests : List (Option (List ℕ))) → length digests ≡ length frames → length (taken_of frames digests) ≡ length frames
length-taken_of [] [] e = refl
length-taken_of [] (d ∷ digests) e = refl
length-taken_of (f ∷ frames) [] e = absurd (omega (arith, e))
length-taken_of (f ∷ frames) (d ∷ digests) e = omega (arith, length-taken_of frames digests (omega (arith, e)))

pub counts : (closed : Bool) (old new : ServerEnd) (before now : List ℕ) (has : List ShownFrame) (piece : List ℕ) (count : ℕ) → count ≡ length has → Listens closed (Ok tt) old new before now [] has piece → Takes closed (Ok count) old new before now piece
counts true old new before now has piece count is l = absurd (let e = l.0 in cc)
counts false old new before now has piece count is l = (
  l.0,
  (λ at s.
      let h = l.1 at s in
      let all : Heard = hears old.script (listening at) piece in
      (h.0, h.1, is ∙ ap length h.2.0 ∙ length-taken_of all.taken (map (noted new.digests) all.states) (length-map all.states (noted new.digests) ∙ h.2.1))),
)
