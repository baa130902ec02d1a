-- What is kept of frames that go, while acknowledgements are suspended and else.
use Rattle.std.proofs.Common.{◌≡◌, Bool, true, false, List, length, map, refl}
use Rattle.gfx_window.specs.Window.{watched}

pub watched-map : {X Y : Type 0} (f : X → Y) (suspended : Bool) (frames : List X) → map f (watched suspended frames) ≡ watched suspended (map f frames)
watched-map f true frames = refl
watched-map f false frames = refl

pub watched-length : {X Y : Type 0} (suspended : Bool) (xs : List X) (ys : List Y) → length xs ≡ length ys → length (watched suspended xs) ≡ length (watched suspended ys)
watched-length true xs ys e = refl
watched-length false xs ys e = e
