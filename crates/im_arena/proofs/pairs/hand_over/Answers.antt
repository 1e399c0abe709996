use Rattle.std.proofs.Common.{◌≡◌, ◌<◌, ◌≢◌, [], ◌∷◌, ◌++◌, length, sym, ap, ◌∙◌, arith, length-set, get_or-set_other}
use Rattle.std.proofs.Common.{get_or-set_same}
use Rattle.im_arena.{proofs.Room.room_after_pop, specs.Lists.free, specs.Lists.list_at, specs.Lists.Lists}

pub returns-clause-lists : Rattle.im_arena.proofs.pairs.hand_over.Goals.returns-clause-lists
returns-clause-lists c =
    let old = c.args.arena.now.held in
    let mid = c.pop_front.new.self.held in
    let popped = c.pop_front.ensures.rest in
    let room : 0 < free mid = rw popped
    (room_after_pop old.nodes old.lists c.args.from c.requires.from c.requires.room) in
    let pushed = c.push_back.ensures.pushed (c.push_back.ensures.room.1 room) in
    let other : c.args.to ≢ c.args.from = λ same. c.requires.apart (sym same) in
    let inside : length mid.lists ≡ length old.lists = ap (λ (held : Lists). length held.lists) popped
    ∙ length-set old.lists c.args.from _ in
    record {
      rest =
          ap (λ (held : Lists). list_at held c.args.from) pushed
          ∙ get_or-set_other mid.lists c.args.to c.args.from _ [] c.requires.apart
          ∙ ap (λ (held : Lists). list_at held c.args.from) popped
          ∙ get_or-set_same old.lists c.args.from _ [] c.requires.from;
      behind =
          ap (λ (held : Lists). list_at held c.args.to) pushed
          ∙ get_or-set_same mid.lists c.args.to _ [] (omega (arith, inside, c.requires.to))
          ∙ ap (λ waiters. waiters ++ c.args.waiter ∷ [])
          (ap (λ (held : Lists). list_at held c.args.to) popped
          ∙ get_or-set_other old.lists c.args.from c.args.to _ [] other);
      others = λ list not_from not_to.
          ap (λ (held : Lists). list_at held list) pushed ∙ get_or-set_other mid.lists c.args.to list _ [] not_to
          ∙ ap (λ (held : Lists). list_at held list) popped ∙ get_or-set_other old.lists c.args.from list _ [] not_from;
    }
