-- Of two states that are alike in both directions each accepts what the other does.
use Rattle.std.proofs.Common.{◌≡◌, Result, Ok, Err, refl, sym, ◌∙◌}
use Rattle.std.specs.Result.{is_ok}
use Rattle.gfx_alike.proofs.Steps.{alike_steps}
use Rattle.gfx_base.specs.declared.refusal.Refusal.{Refusal}
use Rattle.gfx_state.specs.Alike.{Alike}
use Rattle.gfx_state.specs.State.{State}
use Rattle.gfx_state.specs.Step.{step}
use Rattle.gfx_laws.specs.Refusing.{AlikeRefuseTogether, KeptLimitsAreTheSame}

-- alike the other way round, where the limits are the same
turned : (s t : State) → Alike s t → s.cache.small ≡ t.cache.small → Alike t s
turned s t alike limits = record {
  surfaces = sym alike.surfaces;
  output = sym alike.output;
  maps = sym alike.maps;
  slots = sym alike.slots;
  rings = sym alike.rings;
  glyphs = sym alike.glyphs;
  expected = sym alike.expected;
  records = sym alike.records;
  frame = sym alike.frame;
  decoded = sym alike.decoded;
  only_small = λ small. sym limits ∙ small;
}

both : (x y : Result State Refusal) → ((after : State) → x ≡ Ok after → (then : State) × (y ≡ Ok then)) → ((after : State) → y ≡ Ok after → (then : State) × (x ≡ Ok then)) → is_ok x ≡ is_ok y
both (Ok s) (Ok t) there back = refl
both (Ok s) (Err f) there back = let found = there s refl in let wrong : Err f ≡ Ok found.0 = found.1 in absurd cc
both (Err e) (Ok t) there back = let found = back t refl in let wrong : Err e ≡ Ok found.0 = found.1 in absurd cc
both (Err e) (Err f) there back = refl

pub refuse_together : AlikeRefuseTogether
refuse_together s t pdu alike limits =
    both (step s pdu) (step t pdu)
    (λ after is. let found = alike_steps.steps s after t pdu is alike in (found.0, found.1))
    (λ after is. let found = alike_steps.steps t after s pdu is (turned s t alike limits) in (found.0, found.1))

pub same_limits : KeptLimitsAreTheSame
same_limits script server client = refl
