-- The history of bytes leads to the run after them.
use Rattle.std.proofs.Common.{◌≡◌, ℕ, true, false, List, [], ◌∷◌, ◌++◌, Option, Some, None, is_some, if◌then◌else◌, Result, Ok, Err, fold, refl, sym, ap, ◌∙◌, subst}
use Rattle.std.proofs.lemmas.List.Sums.{fold-append}
use Rattle.gfx_base.specs.Memory.{next_count}
use Rattle.gfx_base.specs.declared.refusal.Refusal.{Refusal}
use Rattle.gfx_base.specs.declared.refusal.Refusal.TheVariants.{ChannelLength}
use Rattle.gfx_pdu.specs.declared.pdu.Pdu.{Pdu}
use Rattle.gfx_segment.specs.Framing.{Front, Whole, Short, Bad, front, payload}
use Rattle.gfx_state.specs.State.{State}
use Rattle.gfx_state.specs.Step.{step}
use Rattle.gfx_state.specs.Payload.{messages_of}
use Rattle.gfx_state.specs.Run.{Run, refuse, took, apply, close, deliver, opened, judge, eat, eats}
use Rattle.gfx_state.specs.History.{Effect, effect, effects, messages_read, messages_whole, brings, history, state_after, LeadsTo}
use Rattle.gfx_state.proofs.Effects.{nothing, effects_cons, history-nil, history_more, brings_refused, brings_open}
use Rattle.gfx_state.proofs.Moves.{fold_refused}
use Rattle.gfx_state.proofs.Runs.{eats-nil, eats_more, eat_refused, eat_judges, goes_on}

-- nothing is brought about where a run is only refused, or holds other bytes
leads_nowhere : (run next : Run) (all : List Effect) → all ≡ [] → next.state ≡ run.state → next.applied ≡ run.applied → LeadsTo run all next
leads_nowhere run next all none state applied = record {
  state = state ∙ sym (ap (state_after run.state) none);
  applied = applied ∙ sym (ap (fold (λ (n : ℕ) (e : Effect). next_count n) run.applied) none);
}

leads_on : (run mid next : Run) (xs ys : List Effect) → LeadsTo run xs mid → LeadsTo mid ys next → LeadsTo run (xs ++ ys) next
leads_on run mid next xs ys a b = record {
  state = b.state ∙ ap (λ z. state_after z ys) a.state ∙ sym (fold-append (λ (s : State) (e : Effect). e.state) run.state xs ys);
  applied = b.applied ∙ ap (λ z. fold (λ (n : ℕ) (e : Effect). next_count n) z ys) a.applied ∙ sym (fold-append (λ (n : ℕ) (e : Effect). next_count n) run.applied xs ys);
}

effects_refused : (state : State) (message : Pdu × ℕ) (messages : List (Pdu × ℕ)) (r : Refusal) → step state message.0 ≡ Err r → effects state (message ∷ messages) ≡ []
unfolding effects effect
effects_refused state message messages r stepped = ap (λ z. effect message z (λ after. effects after messages)) stepped

apply_by : (run : Run) (message : Pdu × ℕ) (due : Result State Refusal) → run.refusal ≡ None → step run.state message.0 ≡ due → apply run message ≡ took run due
unfolding apply
apply_by run message due open_run stepped = goes_on run (took run (step run.state message.0)) open_run ∙ ap (took run) stepped

leads_taking : (run : Run) (m : Pdu × ℕ) (ms : List (Pdu × ℕ)) (s : State) → run.refusal ≡ None → step run.state m.0 ≡ Ok s
    → (let next : Run = record run { state = s; applied = next_count run.applied } in LeadsTo next (effects s ms) (fold apply next ms))
    → LeadsTo run (effects run.state (m ∷ ms)) (fold apply run (m ∷ ms))
unfolding took
leads_taking run m ms s open_run stepped rest =
    let all = effects_cons run.state s m ms stepped in
    let on = ap (λ z. fold apply z ms) (apply_by run m (Ok s) open_run stepped) in
    record {
      state = ap (λ (z : Run). z.state) on ∙ rest.state ∙ sym (ap (state_after run.state) all);
      applied = ap (λ (z : Run). z.applied) on ∙ rest.applied ∙ sym (ap (fold (λ (n : ℕ) (e : Effect). next_count n) run.applied) all);
    }

leads_refusing : (run : Run) (m : Pdu × ℕ) (ms : List (Pdu × ℕ)) (r : Refusal) → run.refusal ≡ None → step run.state m.0 ≡ Err r
    → LeadsTo run (effects run.state (m ∷ ms)) (fold apply run (m ∷ ms))
unfolding took
leads_refusing run m ms r open_run stepped =
    let on = ap (λ z. fold apply z ms) (apply_by run m (Err r) open_run stepped) ∙ fold_refused (refuse run r) r ms refl in
    leads_nowhere run (fold apply run (m ∷ ms)) (effects run.state (m ∷ ms)) (effects_refused run.state m ms r stepped) (ap (λ (z : Run). z.state) on) (ap (λ (z : Run). z.applied) on)

-- a message, whatever becomes of it
leads_step : (run : Run) (m : Pdu × ℕ) (ms : List (Pdu × ℕ)) (due : Result State Refusal) → run.refusal ≡ None → step run.state m.0 ≡ due
    → ((next : Run) → next.refusal ≡ None → LeadsTo next (effects next.state ms) (fold apply next ms))
    → LeadsTo run (effects run.state (m ∷ ms)) (fold apply run (m ∷ ms))
leads_step run m ms (Ok s) open_run stepped rest = leads_taking run m ms s open_run stepped (rest (record run { state = s; applied = next_count run.applied }) open_run)
leads_step run m ms (Err r) open_run stepped rest = leads_refusing run m ms r open_run stepped

-- the messages of a payload, up to the first that is refused
leads_fold : (run : Run) (messages : List (Pdu × ℕ)) → run.refusal ≡ None → LeadsTo run (effects run.state messages) (fold apply run messages)
leads_fold run [] open_run = leads_nowhere run run (effects run.state []) (nothing run.state) refl refl
leads_fold run (m ∷ ms) open_run = leads_step run m ms (step run.state m.0) open_run refl (λ next none. leads_fold next ms none)

-- the end of a payload changes neither the state nor the count
close_keeps : (run : Run) (refusal : Option Refusal) → ((close run refusal).state ≡ run.state) × ((close run refusal).applied ≡ run.applied)
unfolding close
close_keeps run None = (refl, refl)
close_keeps run (Some r) =
    elim (is_some run.refusal) as (λ b. ((if b then run else refuse run r).state ≡ run.state) × ((if b then run else refuse run r).applied ≡ run.applied)) [ true ↦ (refl, refl) | false ↦ (refl, refl) ]

leads_opened : (run : Run) (read : Result (List ℕ) Refusal) → run.refusal ≡ None → LeadsTo run (effects run.state (messages_read read)) (opened run read)
unfolding opened deliver messages_read
leads_opened run (Ok p) open_run =
    let all = leads_fold run (messages_of p).read open_run in
    let same = close_keeps (fold apply run (messages_of p).read) (messages_of p).refusal in
    record { state = same.0 ∙ all.state; applied = same.1 ∙ all.applied }
leads_opened run (Err r) open_run = leads_nowhere run (refuse run r) (effects run.state []) (nothing run.state) refl refl

leads_judge : (run : Run) (bytes : List ℕ) (found : Front) → run.refusal ≡ None → LeadsTo run (effects run.state (messages_whole found)) (judge run bytes found)
unfolding judge messages_whole
leads_judge run bytes (Whole m a) open_run = let all = leads_opened (record run { rest = a }) (payload m) open_run in record { state = all.state; applied = all.applied }
leads_judge run bytes Short open_run = leads_nowhere run (record run { rest = bytes }) (effects run.state []) (nothing run.state) refl refl
leads_judge run bytes Bad open_run = leads_nowhere run (refuse run ChannelLength) (effects run.state []) (nothing run.state) refl refl

-- one byte
leads_eat : (run : Run) (x : ℕ) (refusal : Option Refusal) → run.refusal ≡ refusal → LeadsTo run (brings run x) (eat run x)
leads_eat run x None open_run =
    let all = leads_judge run (run.rest ++ x ∷ []) (front (run.rest ++ x ∷ [])) open_run in
    let first = brings_open run x (front (run.rest ++ x ∷ [])) open_run refl in
    let next = eat_judges run x (front (run.rest ++ x ∷ [])) open_run refl in
    subst (λ z. LeadsTo run z (eat run x)) (sym first) (subst (λ z. LeadsTo run (effects run.state (messages_whole (front (run.rest ++ x ∷ [])))) z) (sym next) all)
leads_eat run x (Some r) refused_run =
    let same = eat_refused run r x refused_run in
    leads_nowhere run (eat run x) (brings run x) (brings_refused run r x refused_run) (ap (λ (z : Run). z.state) same) (ap (λ (z : Run). z.applied) same)

-- one byte after another
pub leads-history : (run : Run) (bytes : List ℕ) → LeadsTo run (history run bytes) (eats run bytes)
leads-history run [] =
    let same = eats-nil run in
    leads_nowhere run (eats run []) (history run []) (history-nil run) (ap (λ (z : Run). z.state) same) (ap (λ (z : Run). z.applied) same)
leads-history run (x ∷ xs) =
    let on = leads_on run (eat run x) (eats (eat run x) xs) (brings run x) (history (eat run x) xs) (leads_eat run x run.refusal refl) (leads-history (eat run x) xs) in
    subst (λ z. LeadsTo run z (eats run (x ∷ xs))) (sym (history_more run x xs)) (subst (λ z. LeadsTo run (brings run x ++ history (eat run x) xs) z) (sym (eats_more run x xs)) on)
