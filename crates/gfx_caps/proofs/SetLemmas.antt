-- Capability sets, one after another: what they are put together from.
use Rattle.std.proofs.Common.{◌≡◌, ℕ, ◌+◌, List, [], ◌++◌, length, take, drop, map, Result, Ok, Err, refl, sym, ap, ◌∙◌, subst, append_assoc, arith}
use Rattle.std.proofs.lemmas.List.{append-nil, take-append-drop, take_at}
use Rattle.std.proofs.lemmas.List.Folds.{flat_map-map, fold-map}
use Rattle.std.specs.List.{flat_map, sum_by}
use Rattle.gfx_layout.specs.Shape.{text, number_alone, u16}
use Rattle.gfx_layout.specs.Layout.{spelled, measured}
use Rattle.gfx_layout.specs.Writing.{Puts}
use Rattle.gfx_layout.specs.Header.{header, no_flags}
use Rattle.gfx_caps.specs.ClientId.{number_of}
use Rattle.gfx_caps.specs.declared.client_id.ClientId.TheVariants.{CapsAdvertise}
use Rattle.gfx_caps.specs.declared.message.ClientPdu.TheVariants.{Advertise}
use Rattle.gfx_caps.specs.declared.sets.CapsSet.{CapsSet}
use Rattle.gfx_caps.specs.Layouts.{caps_set}
use Rattle.gfx_caps.specs.Spelling.{set_parts, set_text, set_size, body, size, spelling}

-- the text of sets is that of their parts
pub sets-text : (sets : List CapsSet) → flat_map set_text sets ≡ flat_map (spelled caps_set) (map set_parts sets) ++ []
sets-text sets = sym (append-nil (flat_map (spelled caps_set) (map set_parts sets)) ∙ flat_map-map (spelled caps_set) set_parts sets)

-- and as long
pub sets-size : (sets : List CapsSet) → sum_by set_size sets ≡ sum_by (measured caps_set) (map set_parts sets)
sets-size sets = sym (fold-map (λ n p. n + measured caps_set p) set_parts 0 sets)

-- a text that is put in three goes
puts-behind : {E : Type 0} (result : Result (Unit {0}) E) (old first second third mid new : List ℕ) → mid ≡ (old ++ first) ++ second → Puts result mid new third → Puts result old new (first ++ (second ++ third))
puts-behind (Ok x) old first second third mid new e put =
    put ∙ ap (λ t. t ++ third) (e ∙ append_assoc old first second) ∙ append_assoc old (first ++ second) third ∙ ap (λ t. old ++ t) (append_assoc first second third)
puts-behind (Err x) old first second third mid new e put =
    let more = drop (length mid) new in
    let whole : new ≡ old ++ (first ++ (second ++ more)) =
    sym (take-append-drop (length mid) new) ∙ ap (λ t. t ++ more) (put ∙ e ∙ append_assoc old first second) ∙ append_assoc old (first ++ second) more ∙ ap (λ t. old ++ t) (append_assoc first second more) in
    ap (λ t. take (length old) t) whole ∙ take_at old (first ++ (second ++ more)) (length old) refl

-- header, count and sets are the message
pub advertised : {E : Type 0} (result : Result (Unit {0}) E) (old headed counted new : List ℕ) (sets : List CapsSet) (size : ℕ)
    → size ≡ sum_by set_size sets → headed ≡ old ++ header (number_of CapsAdvertise) no_flags (8 + (2 + size)) → counted ≡ headed ++ text (number_alone u16) (length sets)
    → Puts result counted new (flat_map set_text sets) → Puts result old new (spelling (Advertise sets))
unfolding spelling size
advertised result old headed counted new sets long e f g put =
    let count = text (number_alone u16) (length sets) in
    let whole : 8 + (2 + long) ≡ size (Advertise sets) = omega (arith, e, sets-size sets) in
    let head = header (number_of CapsAdvertise) no_flags (8 + (2 + long)) in
    let done = puts-behind result old head count (flat_map set_text sets) counted new (g ∙ ap (λ t. t ++ count) f) put in
    let same : head ++ (count ++ flat_map set_text sets) ≡ spelling (Advertise sets) =
    ap (λ t. head ++ (count ++ t)) (sets-text sets) ∙ ap (λ n. header (number_of CapsAdvertise) no_flags n ++ body (Advertise sets)) whole in
    subst (λ t. Puts result old new t) same done
