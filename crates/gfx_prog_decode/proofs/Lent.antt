-- What is lent under one name.
use Rattle.std.proofs.Common.{◌≡◌, refl, ap, inl, inr, Option, Some, None}
use Rattle.std.specs.Option.{ghost_name_of}
use Rattle.std.specs.Borrow.{MutBor}
use borrow.Follows.Closed.{read_of}

-- it is the same where its users' functions are the same
pub lent_alike : {D E : Type 0} (r : Option (MutBor E)) (F G : E → D) (u v : D)
    → ((x : MutBor E) → r ≡ Some x → (w : E) → F w ≡ G w) → u ≡ v → read_of (ghost_name_of r) F u ≡ read_of (ghost_name_of r) G v
lent_alike None F G u v some none = ap inr none
lent_alike (Some x) F G u v some none = λ i. inl (x.ghost_name, λ w. some x refl w i)
