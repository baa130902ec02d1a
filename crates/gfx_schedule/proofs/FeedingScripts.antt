-- Two scripts that differ in pictures and steps alone, and agree on the pictures that steps name, do the same with those steps.
use Rattle.std.proofs.Common.{◌≡◌, ℕ, ◌&&◌, ◌||◌, cond, List, [], ◌∷◌, ◌++◌, fold, Option, Some, None, refl, sym, ap, ◌∙◌}
use Rattle.std.specs.List.{AllByRecursion, slice_get, cons_option}
use Rattle.std.specs.FinMap.{get}
use Rattle.gfx_planner.specs.Bitmaps.{sides_kept}
use Rattle.std.specs.Option.{option_map, option_and_then, is_some, IfSome}
use Rattle.gfx_base.specs.declared.geometry.Point.{Point}
use Rattle.gfx_prog_live.specs.Live.{Passes, send_of}
use Rattle.gfx_base.specs.Geometry.{moved, sized}
use Rattle.gfx_script.specs.Drafts.{sides_of}
use Rattle.gfx_script.specs.Kinds.{KindedStep, as_kind, is_plain_write}
use Rattle.gfx_script.specs.Script.{step_at}
use Rattle.gfx_script.specs.Scripted.{Script}
use Rattle.gfx_script.specs.Ways.{goes_by}
use Rattle.gfx_script.specs.Writes.{Area, area, place_of, writes_by, writes_plainly, paints_plainly}
use Rattle.gfx_script.specs.declared.held.Sides.{Sides}
use Rattle.gfx_script.specs.declared.picture.Picture.{Picture as Source}
use Rattle.gfx_script.specs.declared.step.Kind.{Kind}
use Rattle.gfx_script.specs.declared.step.Step.{Step}
use Rattle.gfx_script.specs.declared.step.Step.TheVariants.{Paint, Improve}
use Rattle.gfx_script.specs.declared.way.Way.{Way}
use Rattle.gfx_script.specs.declared.way.Way.TheVariants as ways
use Rattle.gfx_slot_plan.specs.Plan.{Plan}
use Rattle.gfx_state.specs.State.{State}
use Rattle.gfx_surface.specs.Picture.{Picture}
use Rattle.gfx_surface_map.specs.Surfaces.{Surfaces}
use Rattle.gfx_planner.specs.After.{after_put, after_made, after_open, after_close}
use Rattle.gfx_planner.specs.Joined.{all_messages, after_all, frame_of, after_frame}
use Rattle.gfx_planner.specs.Made.{pdus_of}
use Rattle.gfx_planner.specs.Passes.{painted_passes, live_after, passes_as}
use Rattle.gfx_planner.specs.Server.{Server}
use Rattle.gfx_planner.specs.StepMessages.{paint_made, made_as}
use Rattle.gfx_planner.specs.TileMessages.{painting_in_passes, improving}
use Rattle.gfx_planner.specs.VideoMessages.{painting_as_video}
use Rattle.gfx_planner.specs.Wire.{messages, frame_start, frame_end}
use Rattle.gfx_window.specs.Superseded.{plain_area, shows, covers, is_covered, is_left_out}
use Rattle.gfx_window.specs.declared.window.Queued.{Queued}
use Rattle.gfx_schedule.specs.Forgetting.{Sees}
use Rattle.gfx_schedule.specs.Leaving.{steps_of, kept}
use Rattle.gfx_schedule.specs.Sparing.{HasSides, SeesAt}
use Rattle.gfx_schedule.specs.ServerEnd.{ScheduledEnd, can_send, due, with_sent, sends, bytes_sent}
use Rattle.gfx_state.specs.Sending.{sent}
use Rattle.gfx_planner.specs.PaintEffects.{with_painting, with_video}
use Rattle.gfx_planner.specs.TileEffects.{with_tiles}
use Rattle.gfx_planner.specs.Want.{wanted_as, wanted_after, want_from}
use Rattle.gfx_planner.specs.Wanted.{Wanted}
use Rattle.gfx_schedule.proofs.LeavingItems.{all_among, only_leaves}

-- the same script, of other pictures and steps
abbrev pub other : Script → List Source → List Step → Script
other script pictures steps = record script { pictures = pictures; steps = steps }

-- messages, and what is left of live tiles ---------------------------------------------------------------------------

module _ (script : Script) (pictures : List Source) (steps : List Step) where
  abbrev now : Script
  now = other script pictures steps

  -- so is the picture of each paint among these steps
  abbrev pub AreSeen : List KindedStep → Type 0
  AreSeen more = AllByRecursion (λ one. Sees script.pictures pictures one.step) more

  painted_passes_same : (passes : Passes) (id : ℕ) (source : Option Source) (at : Point) → painted_passes now passes id source at ≡ painted_passes script passes id source at
  unfolding painted_passes send_of
  painted_passes_same passes id None at = refl
  painted_passes_same passes id (Some picture) at = refl

  live_after_same : (passes : Passes) (way : Option Way) (id : ℕ) (source : Option Source) (at : Point) (written : Option Area)
      → live_after now passes way id source at written ≡ live_after script passes way id source at written
  unfolding live_after
  live_after_same passes None id source at written = refl
  live_after_same passes (Some ways.Uncompressed) id source at written = refl
  live_after_same passes (Some (ways.ByLayer layer)) id source at written = refl
  live_after_same passes (Some ways.InPasses) id source at written = painted_passes_same passes id source at
  live_after_same passes (Some ways.Video) id source at written = refl

  passes_as_same : (sides_of : ℕ → Option Sides) (surfaces : Surfaces) (passes : Passes) (kind : Option Kind) (step : Step) → Sees script.pictures pictures step
      → passes_as now sides_of surfaces passes kind step ≡ passes_as script sides_of surfaces passes kind step
  unfolding passes_as writes_by
  passes_as_same sides_of surfaces passes kind (Paint id picture at named glyph) sees =
      live_after_same passes (goes_by script.thin kind) id (slice_get pictures picture) at (option_map (λ source. area id (place_of source at ∷ [])) (slice_get pictures picture))
      ∙ ap (λ z. live_after script passes (goes_by script.thin kind) id z at (option_map (λ source. area id (place_of source at ∷ [])) z)) sees
  passes_as_same sides_of surfaces passes kind step sees = refl

  in_passes_same : (passes : Passes) (surface : Option Picture) (source : Option Source) (id : ℕ) (at : Point) (next : Plan)
      → painting_in_passes now passes surface source id at next ≡ painting_in_passes script passes surface source id at next
  unfolding painting_in_passes send_of
  in_passes_same passes (Some surface) (Some picture) id at next = refl
  in_passes_same passes (Some surface) None id at next = refl
  in_passes_same passes None source id at next = refl

  as_video_same : (number : ℕ) (surface : Option Picture) (source : Option Source) (id : ℕ) (at : Point) (next : Plan)
      → painting_as_video now number surface source id at next ≡ painting_as_video script number surface source id at next
  unfolding painting_as_video
  as_video_same number (Some surface) (Some picture) id at next = refl
  as_video_same number (Some surface) None id at next = refl
  as_video_same number None source id at next = refl

  improving_same : (passes : Passes) (surface : Option Picture) (id : ℕ) (next : Plan) → improving now passes surface id next ≡ improving script passes surface id next
  unfolding improving
  improving_same passes None id next = refl
  improving_same passes (Some surface) id next = refl

  paint_made_same : (state : State) (passes : Passes) (old : Plan) (way : Option Way) (source : Option Source) (glyph : Option ℕ) (id : ℕ) (at : Point)
      → paint_made now state passes old way source glyph id at ≡ paint_made script state passes old way source glyph id at
  unfolding paint_made
  paint_made_same state passes old None source glyph id at = refl
  paint_made_same state passes old (Some ways.Uncompressed) source glyph id at = refl
  paint_made_same state passes old (Some (ways.ByLayer layer)) source glyph id at = refl
  paint_made_same state passes old (Some ways.InPasses) source glyph id at = in_passes_same passes (get state.shown.surfaces id) source id at old
  paint_made_same state passes old (Some ways.Video) source glyph id at = as_video_same passes.videos (get state.shown.surfaces id) source id at old

  made_as_same : (state : State) (passes : Passes) (old : Plan) (kind : Option Kind) (step : Step) → Sees script.pictures pictures step
      → made_as now state passes old kind step ≡ made_as script state passes old kind step
  unfolding made_as
  made_as_same state passes old kind (Paint id picture at named glyph) sees =
      paint_made_same state passes old (goes_by script.thin kind) (slice_get pictures picture) glyph id at
      ∙ ap (λ z. paint_made script state passes old (goes_by script.thin kind) z glyph id at) sees
  made_as_same state passes old kind (Improve id) sees = improving_same passes (get state.shown.surfaces id) id old
  made_as_same state passes old kind step sees = refl

  -- steps that are put one after another
  put_same : (server : Server) (one : KindedStep) → Sees script.pictures pictures one.step → after_put now server one ≡ after_put script server one
  unfolding after_put
  put_same server one sees =
      let made = made_as_same server.state server.passes server.plan one.kind one.step sees in
      let passes = passes_as_same (sides_kept server.plan server.state.cache.slots) server.state.shown.surfaces server.passes one.kind one.step sees in
      λ i. record (after_made server (made i)) { passes = passes i }

  all_messages_same : (server : Server) (more : List KindedStep) → AreSeen more → all_messages now server more ≡ all_messages script server more
  unfolding all_messages messages
  all_messages_same server [] sees = refl
  all_messages_same server (one ∷ more) sees =
      let made = made_as_same server.state server.passes server.plan one.kind one.step sees.0 in
      (λ i. pdus_of (made i) ++ all_messages now (put_same server one sees.0 i) more)
      ∙ ap (λ z. pdus_of (made_as script server.state server.passes server.plan one.kind one.step) ++ z) (all_messages_same (after_put script server one) more sees.1)

  after_all_same : (server : Server) (more : List KindedStep) → AreSeen more → after_all now server more ≡ after_all script server more
  unfolding after_all
  after_all_same server [] sees = refl
  after_all_same server (one ∷ more) sees = ap (λ z. fold (after_put now) z more) (put_same server one sees.0) ∙ after_all_same (after_put script server one) more sees.1

  -- and so a frame of them
  frame_of_same : (server : Server) (more : List KindedStep) → AreSeen more → frame_of now server more ≡ frame_of script server more
  unfolding frame_of
  frame_of_same server more sees =
      let ready = after_open server in
      λ i. frame_start server ∷ (all_messages_same ready more sees i ++ frame_end (after_all_same ready more sees i) ∷ [])

  after_frame_same : (server : Server) (more : List KindedStep) → AreSeen more → after_frame now server more ≡ after_frame script server more
  unfolding after_frame
  after_frame_same server more sees = ap after_close (after_all_same (after_open server) more sees)

  -- what is left out --------------------------------------------------------------------------------------------------

  -- an item's step is the same in both scripts, and so is the picture that it paints
  abbrev pub AgreesAt : Queued → Type 0
  AgreesAt item = (step_at steps item.step ≡ step_at script.steps item.step) × IfSome (step_at script.steps item.step) (Sees script.pictures pictures)

  -- an item's step is the same in both scripts, and so are the sides of the picture that it paints
  abbrev pub LooksAt : Queued → Type 0
  LooksAt item = (step_at steps item.step ≡ step_at script.steps item.step) × IfSome (step_at script.steps item.step) (HasSides script.pictures pictures)

  -- what a paint covers goes by the sides of its picture alone
  abbrev by_sides : Kind → Option Sides → ℕ → Point → Option Area
  by_sides kind sides id at = cond (is_plain_write kind) (option_map (λ one. area id (moved (sized one.width one.height) at ∷ [])) sides) None

  plainly_by : (kind : Kind) (source : Option Source) (id : ℕ) (at : Point) → paints_plainly kind source id at ≡ by_sides kind (option_map sides_of source) id at
  unfolding paints_plainly
  plainly_by kind None id at = refl
  plainly_by kind (Some source) id at = refl

  writes_plainly_same : (kind : Option Kind) (step : Step) → HasSides script.pictures pictures step → writes_plainly now kind step ≡ writes_plainly script kind step
  unfolding writes_plainly
  writes_plainly_same (Some kind) (Paint id picture at named glyph) sides =
      plainly_by kind (slice_get pictures picture) id at ∙ ap (λ z. by_sides kind z id at) sides ∙ sym (plainly_by kind (slice_get script.pictures picture) id at)
  writes_plainly_same None step sides = refl
  writes_plainly_same (Some kind) step sides = refl

  plain_by : (kind : Option Kind) (step : Option Step) → IfSome step (HasSides script.pictures pictures) → option_and_then (writes_plainly now kind) step ≡ option_and_then (writes_plainly script kind) step
  plain_by kind None sides = refl
  plain_by kind (Some step) sides = writes_plainly_same kind step sides

  plain_area_same : (item : Queued) → LooksAt item → plain_area now item ≡ plain_area script item
  plain_area_same item agrees = ap (option_and_then (writes_plainly now item.kind)) agrees.0 ∙ plain_by item.kind (step_at script.steps item.step) agrees.1

  is_covered_same : (written : Area) (items : List Queued) → AllByRecursion LooksAt items → is_covered now written items ≡ is_covered script written items
  unfolding is_covered
  is_covered_same written [] agree = refl
  is_covered_same written (item ∷ items) agree =
      let plain = plain_area_same item agree.0 in
      let first = agree.0.0 in
      λ i. covers written (plain i) || ((is_some (plain i) || shows (first i)) && is_covered_same written items agree.1 i)

  left_out_same : (written : Option Area) (items : List Queued) → AllByRecursion LooksAt items → is_left_out now written items ≡ is_left_out script written items
  left_out_same None items agree = refl
  left_out_same (Some written) items agree = is_covered_same written items agree

  pub kept_same : (items : List Queued) → AllByRecursion LooksAt items → kept now items ≡ kept script items
  unfolding kept
  kept_same [] agree = refl
  kept_same (item ∷ items) agree =
      let out : is_left_out now (plain_area now item) items ≡ is_left_out script (plain_area script item) items =
      ap (λ z. is_left_out now z items) (plain_area_same item agree.0) ∙ left_out_same (plain_area script item) items agree.1 in
      λ i. cond (out i) (kept_same items agree.1 i) (item ∷ kept_same items agree.1 i)

  kept_all : (P : Queued → Type 0) (items : List Queued) → AllByRecursion P items → AllByRecursion P (kept script items)
  kept_all P items all = all_among P (kept script items) items (only_leaves script items).0 all

  steps_same : (items : List Queued) → AllByRecursion LooksAt items → steps_of now items ≡ steps_of script items
  steps_same [] agree = refl
  steps_same (item ∷ items) agree =
      let first = agree.0.0 in
      λ i. cons_option (option_map (as_kind item.kind) (first i)) (steps_same items agree.1 i)

  seen_first : (kind : Option Kind) (step : Option Step) (more : List KindedStep) → IfSome step (Sees script.pictures pictures) → AreSeen more → AreSeen (cons_option (option_map (as_kind kind) step) more)
  seen_first kind None more first all = all
  seen_first kind (Some step) more first all = (first, all)

  steps_seen : (items : List Queued) → AllByRecursion (SeesAt script pictures) items → AreSeen (steps_of script items)
  steps_seen [] seen = tt
  steps_seen (item ∷ items) seen = seen_first item.kind (step_at script.steps item.step) (steps_of script items) seen.0 (steps_seen items seen.1)

  -- and so what a server's end sends ------------------------------------------------------------------------------------

  -- where all that waits has pictures of the same sides, and what is kept of it the same pictures
  module _ (end : ScheduledEnd) (looks : AllByRecursion LooksAt end.window.pending) (seen : AllByRecursion (SeesAt script pictures) (kept script end.window.pending)) where
    due_same : due now end ≡ due script end
    due_same = ap (steps_of now) (kept_same end.window.pending looks) ∙ steps_same (kept script end.window.pending) (kept_all LooksAt end.window.pending looks)

    due_seen : AreSeen (due script end)
    due_seen = steps_seen (kept script end.window.pending) seen

    pub sends_by : sends now end ≡ sends script end
    unfolding sends
    sends_by =
        let frame : after_frame now end.server (due now end) ≡ after_frame script end.server (due script end) =
        ap (after_frame now end.server) due_same ∙ after_frame_same end.server (due script end) due_seen in
        ap (λ z. cond (can_send end) (with_sent end z) end) frame

    pub bytes_by : bytes_sent now end ≡ bytes_sent script end
    unfolding bytes_sent
    bytes_by =
        let frame : frame_of now end.server (due now end) ≡ frame_of script end.server (due script end) =
        ap (frame_of now end.server) due_same ∙ frame_of_same end.server (due script end) due_seen in
        ap (λ z. cond (can_send end) (sent z) []) frame

  looks_by : (step : Step) → Sees script.pictures pictures step → HasSides script.pictures pictures step
  looks_by (Paint id picture at named glyph) sees = ap (option_map sides_of) sees
  looks_by step sees = tt

  looks_if : (step : Option Step) → IfSome step (Sees script.pictures pictures) → IfSome step (HasSides script.pictures pictures)
  looks_if None sees = tt
  looks_if (Some step) sees = looks_by step sees

  looks_all : (items : List Queued) → AllByRecursion AgreesAt items → AllByRecursion LooksAt items
  looks_all [] agree = tt
  looks_all (item ∷ items) agree = ((agree.0.0, looks_if (step_at script.steps item.step) agree.0.1), looks_all items agree.1)

  pub sees_all_at : (items : List Queued) → AllByRecursion AgreesAt items → AllByRecursion (SeesAt script pictures) items
  sees_all_at [] agree = tt
  sees_all_at (item ∷ items) agree = (agree.0.1, sees_all_at items agree.1)

  -- so where all of it has the same pictures
  pub sends_alike : (end : ScheduledEnd) → AllByRecursion AgreesAt end.window.pending → sends now end ≡ sends script end
  sends_alike end agree = sends_by end (looks_all end.window.pending agree) (kept_all (SeesAt script pictures) end.window.pending (sees_all_at end.window.pending agree))

  pub bytes_alike : (end : ScheduledEnd) → AllByRecursion AgreesAt end.window.pending → bytes_sent now end ≡ bytes_sent script end
  bytes_alike end agree = bytes_by end (looks_all end.window.pending agree) (kept_all (SeesAt script pictures) end.window.pending (sees_all_at end.window.pending agree))

  -- what is wanted ------------------------------------------------------------------------------------------------------

  painting_same : (wanted : Wanted) (way : Option Way) (source : Option Source) (id : ℕ) (at : Point) → with_painting now wanted way source id at ≡ with_painting script wanted way source id at
  unfolding with_painting with_tiles with_video send_of
  painting_same wanted None source id at = refl
  painting_same wanted (Some ways.Uncompressed) source id at = refl
  painting_same wanted (Some (ways.ByLayer layer)) source id at = refl
  painting_same wanted (Some ways.InPasses) None id at = refl
  painting_same wanted (Some ways.InPasses) (Some source) id at = refl
  painting_same wanted (Some ways.Video) None id at = refl
  painting_same wanted (Some ways.Video) (Some source) id at = refl

  wanted_as_same : (wanted : Wanted) (kind : Option Kind) (step : Step) → Sees script.pictures pictures step → wanted_as now wanted kind step ≡ wanted_as script wanted kind step
  unfolding wanted_as
  wanted_as_same wanted kind (Paint id picture at named glyph) sees =
      painting_same wanted (goes_by script.thin kind) (slice_get pictures picture) id at ∙ ap (λ z. with_painting script wanted (goes_by script.thin kind) z id at) sees
  wanted_as_same wanted kind step sees = refl

  wanted_after_same : (wanted : Wanted) (one : KindedStep) → Sees script.pictures pictures one.step → wanted_after now wanted one ≡ wanted_after script wanted one
  wanted_after_same wanted one sees =
      let is = wanted_as_same wanted one.kind one.step sees in
      let passes = passes_as_same (sides_kept wanted.plan wanted.slots) wanted.shown.surfaces wanted.passes one.kind one.step sees in
      λ i. record (is i) { passes = passes i }

  pub want_same : (wanted : Wanted) (more : List KindedStep) → AreSeen more → want_from now wanted more ≡ want_from script wanted more
  want_same wanted [] sees = refl
  want_same wanted (one ∷ more) sees = ap (λ z. want_from now z more) (wanted_after_same wanted one sees.0) ∙ want_same (wanted_after script wanted one) more sees.1
