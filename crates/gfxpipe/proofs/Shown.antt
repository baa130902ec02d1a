-- What `encode` wrote, `render` shows.
use Rattle.std.proofs.Common.{◌≡◌, ℕ, [], refl, sym, ap, ◌∙◌, subst}
use Rattle.std.proofs.lemmas.List.{append-nil}
use Rattle.gfx_chooser.specs.Kinded.{kinded_steps}
use Rattle.gfx_chooser.proofs.Asking.{kinded_fit}
use Rattle.gfx_planner.specs.Shows.{Shows}
use Rattle.gfx_planner.specs.Stream.{stream_of}
use Rattle.gfx_planner.proofs.Streams.{shown}
use Rattle.gfx_script.specs.Kinds.{Fits}
use Rattle.gfx_script_text.proofs.Accepted.{accepted}
use Rattle.gfx_state.specs.Run.{Run, end}
use Rattle.gfx_state.specs.Sending.{standing}
use Rattle.gfx_state.specs.State.{State}
use Rattle.gfxpipe.specs.Due.{played, last_of, ending_of}
use Rattle.gfxpipe.specs.Dump.{dump_of}
use Rattle.gfxpipe.specs.Laws.{EncodeThenRender}
use Rattle.gfxpipe.proofs.Recordings.{played_short, last_short}

-- a run between two channel messages is a good end
ends_well : (state : State) (applied : ℕ) → end (standing state applied) ≡ standing state applied
unfolding end
ends_well state applied = refl

pub encode_then_render : EncodeThenRender
encode_then_render limit text script choosers dump is short =
    let good = accepted text script is in
    let steps = kinded_steps script choosers in
    let s : Shows script steps = (shown script steps [] good (subst (λ z. Fits z script.steps) (sym (append-nil steps)) (kinded_fit script choosers))).0 in
    let bytes = stream_of script steps in
    let run : played limit bytes ≡ standing s.client s.applied = played_short limit bytes short ∙ ap end s.run ∙ ends_well s.client s.applied in
    let last = last_short limit bytes short in
    λ i. record {
      text = (ap (λ (z : Run). dump_of dump z.state.shown) run ∙ ap (dump_of dump) s.shown) i;
      ending = (ap (λ (z : Run). ending_of z.refusal z.applied (last_of limit bytes)) run ∙ last) i;
    }
