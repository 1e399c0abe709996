use Rattle.std.proofs.Common.{None, inl, inr, ⊎_elim, arith}
use Rattle.im_turning.proofs.TurningLemmas.{spent_behind}
use Rattle.im_dialogue.proofs.{ServeLemmas.turns_failed, ServeLemmas.turns_told, TalkLemmas.then_talks}
use Rattle.im_dialogue.specs.Serving.{told_by_it, told_so}
use Rattle.im_dialogue.proofs.serving.Dialogue.advance.Goals as goal

pub returns-in-Ok-clause-talks : goal.returns-in-Ok-clause-talks
returns-in-Ok-clause-talks g c = λ kept left.
    let old = c.args.self.now in
    let mid = c.make_room.new.self in
    let new = c.serve_group.new.self in
    then_talks old.setting.watch old.front.session mid.session new.front.session (told_by_it old kept left)
    (told_so mid.asked _ kept left) (λ done. told_by_it new kept left) (told_by_it new kept None)
    c.serve_group.result
    (turns_told old.setting.watch old.front mid c.make_room.ensures.same (record {
      rests = c.make_room.ensures.same.rests;
      works = c.in-Ok.ensures.works;
      turns = c.in-Ok.ensures.room.turns;
      lead = c.in-Ok.ensures.room.lead;
    }) _ kept left)
    (c.serve_group.ensures.talks kept left)

pub returns-in-Err-clause-talks : goal.returns-in-Err-clause-talks
returns-in-Err-clause-talks g c = λ kept left.
    turns_failed c.args.self.now.setting.watch c.args.self.now.front c.make_room.new.self c.make_room.ensures.same _
    kept left

pub serve_group-requires-clause-spent : goal.serve_group-requires-clause-spent
serve_group-requires-clause-spent g c = let made = c.in-Ok.ensures.room in spent_behind _ _ (record {
  turns = made.turns;
  lead = made.lead;
  room = ⊎_elim (λ enough. inl (omega (arith, enough, c.requires.some))) inr made.room;
})
