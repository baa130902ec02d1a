-- The texts of the surfaces from an id on.
use Rattle.std.proofs.Common.{◌≡◌, ℕ, ◌+◌, ◌<◌, List, [], ◌++◌, Option, Some, length, suc, Bor, ap, sym, ◌∙◌, arith}
use Rattle.std.specs.List.{flat_map}
use Rattle.std.specs.FinMap as finmap
use Rattle.gfx_base.specs.Stream.{Change, Gains}
use Rattle.gfx_base.proofs.Streams.{Sent, Sent_all}
use Rattle.gfx_report.proofs.Writing.{Sent_as}
use Rattle.std.specs.Option.{option_copied}
use Rattle.gfx_surface.specs.Picture.{Picture}
use Rattle.gfx_surface_map.specs.Surfaces.{Surfaces}
use Rattle.gfx_surface_map.specs.Order.{from_id, first_id}
use Rattle.gfx_base.proofs.MapLemmas.{next_some, from_key-zero}
use Rattle.gfx_report.specs.Texts.{dump_text, surface_text}

-- the surfaces from an id on
abbrev pub from_on : Surfaces → ℕ → List (ℕ × Picture)
from_on surfaces from = from_id from (finmap.entries surfaces)

abbrev pub texts : List (ℕ × Picture) → List ℕ
texts entries = flat_map (λ entry. surface_text entry.0 entry.1) entries

pub dump_text-from_on : (surfaces : Surfaces) → dump_text surfaces ≡ texts (from_on surfaces 0)
unfolding dump_text
dump_text-from_on surfaces = ap texts (sym (from_key-zero (finmap.entries surfaces)))

-- the next surface's text stands first
pub next_text : (surfaces : Surfaces) (from id : ℕ) (picture : Picture) → first_id (from_on surfaces from) ≡ Some id → finmap.get surfaces id ≡ Some picture → texts (from_on surfaces from) ≡ surface_text id picture ++ texts (from_on surfaces (id + 1))
next_text surfaces from id picture first here =
    let next = next_some surfaces from id first in
    let same : next.value ≡ picture = let found = next.found in cc in
    ap texts next.cut ∙ ap (λ p. surface_text id p ++ texts (from_on surfaces (id + 1))) same

-- the next surface as it was looked up: its text is due first
pub next_due : (c : Change) (due : List ℕ) (surfaces : Surfaces) (from id : ℕ) (looked : Option (Bor Picture)) (surface : Bor Picture) → Some id ≡ first_id (from_on surfaces from) → option_copied looked ≡ finmap.get surfaces id → looked ≡ Some surface → Sent c due (texts (from_on surfaces from)) → Sent c due (surface_text id surface.now ++ texts (from_on surfaces (id + 1)))
next_due c due surfaces from id looked surface first here is s =
    Sent_as c due _ _ (next_text surfaces from id surface.now (sym first) (sym here ∙ ap option_copied is)) s

-- behind the next surface there are fewer
pub next_fewer : (surfaces : Surfaces) (from id : ℕ) → Some id ≡ first_id (from_on surfaces from) → length (from_on surfaces (id + 1)) < length (from_on surfaces from)
next_fewer surfaces from id first =
    let next = next_some surfaces from id (sym first) in
    let counts : length (from_on surfaces from) ≡ suc (length (from_on surfaces (id + 1))) = ap length next.cut in
    omega arith

-- with no surface left all is written
pub no_more : (c : Change) (due : List ℕ) (rest : List (ℕ × Picture)) → rest ≡ [] → Sent c due (texts rest) → Gains c due
no_more c due rest e s = Sent_all c due (texts rest) s (ap (λ r. length (texts r)) e)
