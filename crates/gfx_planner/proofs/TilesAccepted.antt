-- The messages of what is painted in passes are accepted by the server's own state, one after another.
use Rattle.std.proofs.Common.{◌≡◌, ◌≢◌, ◌⊎◌, inl, inr, ℕ, Bool, true, false, cond, List, [], ◌∷◌, map, Option, Some, Ok, refl, sym, ap, ◌∙◌, arith}
use Rattle.std.specs.Cmp.{nat_cmp_total}
use Rattle.std.specs.FinMap.{get, get-insert, insert, nat_cmp-IsAntisymmetric, same_map}
use Rattle.std.specs.Option.{ok_or}
use Rattle.std.specs.Ordering.{nat_cmp, eq_by_cmp}
use Rattle.std.proofs.lemmas.Bool.{cases_eq}
use Rattle.std.proofs.lemmas.Bool.Decides.{nat_tests}
use Rattle.gfx_base.specs.Format.{byte_of, format_of}
use Rattle.gfx_base.specs.Results.{check}
use Rattle.gfx_base.specs.declared.format.Format.{Format}
use Rattle.gfx_base.specs.declared.refusal.Refusal.TheVariants as refusal
use Rattle.gfx_base.proofs.ResultLemmas.{and_then_at, and_then_ok}
use Rattle.gfx_prog_law.specs.Taken.{place_of}
use Rattle.gfx_prog_decode.specs.Progressive.{after_message}
use Rattle.gfx_prog_decode.specs.Scene.{Scene, in_turn, scene}
use Rattle.gfx_surface.specs.Picture.{Picture}
use Rattle.gfx_surface_map.specs.Shown.{with_picture}
use Rattle.gfx_surface_map.specs.Surfaces.{Surfaces}
use Rattle.gfx_state.specs.State.{State}
use Rattle.gfx_state.specs.Step as message
use Rattle.gfx_state.specs.Step.{tiles_drawn, tiles_painted}
use Rattle.gfx_state.specs.Sending.{all_steps}
use Rattle.gfx_planner.specs.TileMessages.{passes_message}
use Rattle.gfx_planner.proofs.Paints.{format_back}

-- ---- a surface in the place of another

-- its id has it
pub surface_here : (surfaces : Surfaces) (id : ℕ) (picture : Picture) (q : ℕ) → q ≡ id → get (insert surfaces id picture) q ≡ Some picture
surface_here surfaces id picture q at =
    let yes : eq_by_cmp nat_cmp q id ≡ true = grind (arith, nat_tests) in
    get-insert nat_cmp_total surfaces id picture q ∙ ap (λ b. cond b (Some picture) (get surfaces q)) yes

-- other ids have what they had
pub surface_elsewhere : (surfaces : Surfaces) (id : ℕ) (picture : Picture) (q : ℕ) → q ≢ id → get (insert surfaces id picture) q ≡ get surfaces q
surface_elsewhere surfaces id picture q apart =
    let differ : eq_by_cmp nat_cmp q id ≡ false = grind (arith, nat_tests) in
    get-insert nat_cmp_total surfaces id picture q ∙ ap (λ b. cond b (Some picture) (get surfaces q)) differ

-- a surface that is put in its own place changes nothing
pub put_same : (surfaces : Surfaces) (id : ℕ) (picture : Picture) → get surfaces id ≡ Some picture → insert surfaces id picture ≡ surfaces
put_same surfaces id picture there = same_map nat_cmp_total nat_cmp-IsAntisymmetric _ _ (λ q. by q (cases_eq q id))
  where
    by : (q : ℕ) → ((q ≡ id) ⊎ (q ≢ id)) → get (insert surfaces id picture) q ≡ get surfaces q
    by q (inl at) = surface_here surfaces id picture q at ∙ sym (ap (get surfaces) at ∙ there)
    by q (inr apart) = surface_elsewhere surfaces id picture q apart

-- of two that are put in one place the later one stays
pub put_twice : (surfaces : Surfaces) (id : ℕ) (one other : Picture) → insert (insert surfaces id one) id other ≡ insert surfaces id other
put_twice surfaces id one other = same_map nat_cmp_total nat_cmp-IsAntisymmetric _ _ (λ q.
    get-insert nat_cmp_total (insert surfaces id one) id other q
    ∙ ap (cond (eq_by_cmp nat_cmp q id) (Some other)) (get-insert nat_cmp_total surfaces id one q)
    ∙ twice (eq_by_cmp nat_cmp q id) (get surfaces q)
    ∙ sym (get-insert nat_cmp_total surfaces id other q))
  where
    twice : (b : Bool) (o : Option Picture) → cond b (Some other) (cond b (Some one) o) ≡ cond b (Some other) o
    twice true o = refl
    twice false o = refl

-- ---- messages

-- the state once tiles are drawn on a surface
abbrev pub drawn_state : State → ℕ → Scene → State
drawn_state state id new = record state { shown = with_picture state.shown id new.picture; records = new.records }

-- one message
tiles_step : (state : State) (id : ℕ) (surface : Picture) (format : Format) (bytes : List ℕ) (new : Scene) → get state.shown.surfaces id ≡ Some surface
    → after_message (place_of id) bytes (scene state.records surface) ≡ Ok new → message.step state (passes_message id format bytes) ≡ Ok (drawn_state state id new)
unfolding message.step tiles_painted tiles_drawn
tiles_step state id surface format bytes new there made =
    and_then_at (ok_or (get state.shown.surfaces id) refusal.NoSurface) surface _ (ap (λ o. ok_or o refusal.NoSurface) there)
    ∙ and_then_at (check refusal.CodecRefused true) tt _ refl
    ∙ and_then_at (ok_or (format_of (byte_of format)) refusal.PixelFormat) format _ (ap (λ o. ok_or o refusal.PixelFormat) (format_back format))
    ∙ and_then_at (after_message (place_of id) bytes (scene state.records surface)) new _ made

-- all of them, where they are accepted on the surface and its records
pub tiles_accepted : (id : ℕ) (format : Format) (messages : List (List ℕ)) (state : State) (surface : Picture) (new : Scene) → get state.shown.surfaces id ≡ Some surface
    → in_turn (after_message (place_of id)) messages (scene state.records surface) ≡ Ok new → all_steps state (map (passes_message id format) messages) ≡ Ok (drawn_state state id new)
unfolding all_steps in_turn
tiles_accepted id format [] state surface new there done =
    let same : scene state.records surface ≡ new = cc in
    ap Ok (sym (ap (λ surfaces. record state { shown = record state.shown { surfaces = surfaces } }) (put_same state.shown.surfaces id surface there)) ∙ ap (drawn_state state id) same)
tiles_accepted id format (bytes ∷ messages) state surface new there done =
    let first = and_then_ok (after_message (place_of id) bytes (scene state.records surface)) (in_turn (after_message (place_of id)) messages) new done in
    and_then_at (message.step state (passes_message id format bytes)) (drawn_state state id first.0) (λ next. all_steps next (map (passes_message id format) messages))
    (tiles_step state id surface format bytes first.0 there first.1)
    ∙ tiles_accepted id format messages (drawn_state state id first.0) first.0.picture new (surface_here state.shown.surfaces id first.0.picture id refl) first.2
    ∙ (λ i. Ok (record state { shown = record state.shown { surfaces = put_twice state.shown.surfaces id first.0.picture new.picture i }; records = new.records }))
