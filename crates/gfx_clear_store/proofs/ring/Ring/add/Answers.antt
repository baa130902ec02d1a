use Rattle.std.proofs.Common.{ap, ◌∙◌, arith}
use Rattle.std.proofs.lemmas.List.{length-set}
use Rattle.gfx_clear_store.proofs.Adding.{room_kept, ring_added, index_added, copy_is}
use Rattle.gfx_clear_store.proofs.Blank.{still_blank, mark_blank}
use Rattle.gfx_clear_store.proofs.ring.Ring.add.Goals as goal

pub invariant_of-self : goal.invariant_of-self
invariant_of-self g c =
    let a = c.self.inside in
    let sound = c.self.invariant in
    record {
      count = sound.count;
      small = sound.small;
      slots = length-set a.slots.items c.from.result c.replace-old.new.dest ∙ sound.slots;
      cursor = c.next_place-self-inside.ensures.within;
      at_mark = sound.at_mark;
      log = ap (λ z. z.room) c.keep.ensures ∙ room_kept _ _ a.log ∙ sound.log;
      latest = c.note.ensures.homes;
      earlier = c.note.ensures.places;
      ready = index_added g.row.COUNT a.cursor a.slots.items c.args.pixels.now c.from.result c.next_place-self-inside.result c.replace-old.new.dest a.index.latest.items a.index.earlier.items
          c.note.new.self.latest.items c.note.new.self.earlier.items a.index.ready c.note.new.self.ready sound.slots sound.cursor sound.latest sound.earlier
          c.from.ensures (copy_is c.replace-old.new.dest c.new.result c.args.pixels.now c.replace-old.ensures.after c.new.ensures) c.next_place-self-inside.ensures.next
          c.note.ensures.latest c.note.ensures.earlier c.note.ensures.ready sound.ready;
      written = omega (arith, sound.cursor, sound.written, c.max-self-inside.ensures);
      blank = still_blank a.slots.items a.cursor c.from.result a.written _ c.replace-old.new.dest c.from.ensures c.max-self-inside.ensures sound.blank;
      was_blank = mark_blank a.slots.items a.cursor c.from.result a.written _ c.replace-old.new.dest c.replace-old.result c.index_mut.result.now a.log c.keep.new.self
          c.from.ensures c.max-self-inside.ensures (c.replace-old.ensures.value ∙ c.index_mut.ensures.value) c.keep.ensures sound.was_blank;
    }

pub returns : goal.returns
returns g c =
    let a = c.self.inside in
    ring_added g.row.COUNT a.slots.items a.cursor a.at_mark a.log c.args.self.now c.args.pixels.now c.from.result c.next_place-self-inside.result c.replace-old.new.dest
    c.replace-old.result c.index_mut.result.now c.keep.new.self c.self.view_is c.from.ensures (copy_is c.replace-old.new.dest c.new.result c.args.pixels.now c.replace-old.ensures.after c.new.ensures)
    (c.replace-old.ensures.value ∙ c.index_mut.ensures.value) c.keep.ensures c.next_place-self-inside.ensures.next
