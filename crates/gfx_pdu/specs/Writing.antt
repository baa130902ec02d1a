-- Writing a message in two parts: this project's own rule.
use Rattle.std.specs.Prelude.{◌≡◌, ℕ, List, [], ◌++◌, length, take, Result, Ok, Err}
use Rattle.gfx_pdu.specs.declared.pdu.Pdu.{Pdu}
use Rattle.gfx_pdu.specs.declared.pdu.Pdu.TheVariants.{WireToSurface1, WireToSurface2, CapsConfirm}

-- the data that a message ends with
abbrev pub data_of : Pdu → List ℕ
data_of (WireToSurface1 surface codec format area payload) = payload
data_of (WireToSurface2 surface codec context format payload) = payload
data_of (CapsConfirm version payload) = payload
data_of pdu = []

-- it put this text at their end but for what the text ends with, or, where memory ended, kept what was there
abbrev pub PutsFront : {E : Type 0} → Result (Unit {0}) E → List ℕ → List ℕ → List ℕ → List ℕ → Type 0
PutsFront (Ok x) old new text last = new ++ last ≡ old ++ text
PutsFront (Err e) old new text last = take (length old) new ≡ old
