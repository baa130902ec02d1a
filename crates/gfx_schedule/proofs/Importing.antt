-- A session may begin with kept bitmaps.
use Rattle.std.proofs.Common.{◌≡◌, ℕ, ◌+◌, nat_eq, true, List, [], ◌∷◌, length, take, refl, ap}
use Rattle.std.proofs.lemmas.Bool.{eqb-true}
use Rattle.std.specs.Cmp.{nat_cmp_total}
use Rattle.std.specs.Ordering.{nat_cmp}
use Rattle.std.specs.FinMap.{FinMap, empty, insert}
use Rattle.gfx_alike.proofs.Maps.{same-insert}
use Rattle.gfx_bitmap_cache.specs.Slots.{Entry}
use Rattle.gfx_import.specs.Agreed.{agree, have_sides_of, same_sides}
use Rattle.gfx_import.specs.Chosen.{AreShared}
use Rattle.gfx_import.specs.Imported.{imported}
use Rattle.gfx_import.specs.Started.{in_slots, own, put_from}
use Rattle.gfx_import.proofs.ChosenLemmas.{imported-chosen}
use Rattle.gfx_import.proofs.KeyLemmas.{both_true}
use Rattle.gfx_import.proofs.OwnLemmas.{agreed-own}
use Rattle.gfx_planner.proofs.BitmapStarts.{agrees_at_start, holds_at_start}
use Rattle.gfx_script.specs.Scripted.{Script}
use Rattle.gfx_script.specs.Starting.{start_of, starts_of}
use Rattle.gfx_script.specs.declared.turn.Turn.{Turn}
use Rattle.gfx_state.specs.Alike.{entry_outline, outlines}
use Rattle.gfx_state.specs.Same.{Wider}
use Rattle.gfx_schedule.specs.Schedule.{EveryImport, ImportMayBegin}
use Rattle.gfx_schedule.specs.Starts.{MayBegin, MayImport, MayStart, Start, from_kept}
use Rattle.gfx_schedule.proofs.Turns.{every_schedule_alike, every_schedule_from}

-- bitmaps with the same keys and sides have the same outlines, in the same slots
same_outline : (x y : Entry) → start_of x ≡ start_of y → entry_outline x ≡ entry_outline y
same_outline x y same = λ i. record { key = (same i).key; image = record { width = (same i).sides.width; height = (same i).sides.height; pixels = [] } }

put_alike : (one other : FinMap nat_cmp Entry) (at : ℕ) (xs ys : List Entry) → outlines entry_outline one ≡ outlines entry_outline other → starts_of xs ≡ starts_of ys
    → outlines entry_outline (put_from one at xs) ≡ outlines entry_outline (put_from other at ys)
put_alike one other at [] [] same starts = same
put_alike one other at [] (y ∷ ys) same starts = absurd cc
put_alike one other at (x ∷ xs) [] same starts = absurd cc
put_alike one other at (x ∷ xs) (y ∷ ys) same starts =
    let first : start_of x ≡ start_of y = (let s = starts in cc) in
    let others : starts_of xs ≡ starts_of ys = (let s = starts in cc) in
    put_alike (insert one at x) (insert other at y) (at + 1) xs ys (same-insert entry_outline nat_cmp_total one other at x y (same_outline x y first) same) others

-- what is imported and what the client keeps of it have the same keys, and so the same starts where the sides are the same
same_starts : (server client entries : List Entry) → AreShared server client entries → have_sides_of entries client ≡ true → starts_of entries ≡ starts_of (take (length entries) client)
same_starts server client [] shared sides = refl
same_starts server [] (one ∷ entries) shared sides = absurd cc
same_starts server (other ∷ client) (one ∷ entries) shared sides =
    let both = both_true (same_sides one.image other.image) (have_sides_of entries client) sides in
    let equal = both_true (nat_eq one.image.width other.image.width) (nat_eq one.image.height other.image.height) both.0 in
    let width = eqb-true one.image.width other.image.width equal.0 in
    let height = eqb-true one.image.height other.image.height equal.1 in
    λ i. record { key = shared.0 i; sides = record { width = width i; height = height i } } ∷ same_starts server client entries shared.1.1.1 both.1 i

own_starts : (script : Script) (server client : List Entry) → MayImport script server client → starts_of (imported server client script.small) ≡ starts_of (own server client script.small)
own_starts script server client i =
    same_starts server client (imported server client script.small) (imported-chosen server client script.small).shared i.sides

-- the start is one that the script may have
may_import : (script : Script) (server client : List Entry) → MayImport script server client → MayStart script (from_kept script server client)
may_import script server client i = record {
  holds = holds_at_start script (imported server client script.small) i.accepted i.start;
  agrees = agrees_at_start (imported server client script.small) script.small;
  closed = refl;
  frames = refl;
  greets = λ unconfirmed. absurd cc;
}

pub import_may_begin : ImportMayBegin
import_may_begin script server client kinded i fits = record {
  accepted = i.accepted.accepted;
  fits = fits;
  may = may_import script server client i;
  alike = record {
    surfaces = refl;
    output = refl;
    maps = refl;
    slots = put_alike empty empty 1 (imported server client script.small) (own server client script.small) refl (own_starts script server client i);
    rings = refl;
    glyphs = refl;
    expected = refl;
    records = refl;
    frame = refl;
    decoded = refl;
    only_small = λ small. small;
  };
}

-- where the files agree the two ends begin with the same bitmaps
begins_same : (script : Script) (server client : List Entry) → agree server client ≡ true → Wider (from_kept script server client).server.state (from_kept script server client).client
begins_same script server client agreed = record {
  shown = refl;
  slots = ap in_slots (agreed-own server client script.small agreed);
  clear = refl;
  records = refl;
  frame = refl;
  decoded = refl;
  only_small = λ small. small;
}

pub every_import : EveryImport
every_import script server client kinded turns i fits = record {
  alike = every_schedule_alike (from_kept script server client) script kinded turns (import_may_begin script server client kinded i fits);
  agreed = λ agreed.
      every_schedule_from (from_kept script server client) script kinded turns i.accepted.accepted fits (may_import script server client i) (begins_same script server client agreed);
}
