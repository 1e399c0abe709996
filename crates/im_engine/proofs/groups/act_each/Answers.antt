use Rattle.std.proofs.Common.{◌≡◌, ◌+◌, Bool, List, [], ◌∷◌, ◌++◌, map, length, drop, ap, ◌∙◌, arith, rules}
use Rattle.{im_types.specs.Types.Served, im_types.specs.Types.as_served, im_checkpoint.specs.Step.changed_in}
use Rattle.im_groups.specs.Commands.{answers_with, most_pages_with}
use Rattle.im_engine.proofs.Adding.{adds_next}
use Rattle.im_engine.proofs.Members.{answers_next, contents_next, length_taken, taken_first, taken_next}
use Rattle.im_engine.proofs.groups.act_each.Goals as goal

pub loop-i-preserved : goal.loop-i-preserved
loop-i-preserved c =
    let inv = c.loop-i.invariant in
    let e = c.act_one-answer.ensures in
    let m = c.loop-i.memory.contents in
    let left = c.loop-i.left in
    let rs = c.args.members.now.all.now in
    let i = c.loop-i.i in
    let more = map as_served
    (answers_with c.act_one-answer.new.memory.contents c.act_one-answer.new.left (drop (i + 1) rs)) in
    record {
      size = search rules;
      answers = ap (λ (l : List Served). l ++ more)
          (c.push.ensures.items ∙ ap (λ (s : Served). c.loop-i.served.items ++ s ∷ []) c.as_served.ensures)
          ∙ answers_next m left c.loop-i.served.items rs i _ c.act_one-answer.result
          c.act_one-answer.new.memory.contents c.act_one-answer.new.left c.loop-i-test.true e.answer e.contents e.left ∙ inv.answers;
      contents = contents_next m left rs i _ c.act_one-answer.new.memory.contents c.act_one-answer.new.left
          c.loop-i-test.true e.contents e.left ∙ inv.contents;
      taken = taken_next m left rs c.args.members.now.taken.now i _ c.act_one-answer.new.memory.contents
          c.act_one-answer.new.left c.loop-i-test.true inv.taken e.contents e.left;
      sizes = e.sizes;
      state = e.stays.state ∙ inv.state;
      pages = adds_next m left rs i _ c.act_one-answer.new.memory.contents c.act_one-answer.new.left
          (most_pages_with c.args.memory.now.contents c.args.places rs) (changed_in c.args.checkpoint.now)
          (changed_in c.loop-i.checkpoint) (changed_in c.act_one-answer.new.checkpoint) c.loop-i-test.true
          e.contents e.left inv.pages e.stays.pages;
      kept = λ n j now kept. e.kept n j now (inv.kept n j now kept);
    }

pub act_one-answer-requires-clause-taken : goal.act_one-answer-requires-clause-taken
act_one-answer-requires-clause-taken c =
    taken_first c.loop-i.memory.contents c.loop-i.left c.args.members.now.all.now c.args.members.now.taken.now
    c.loop-i.i _ _ c.loop-i-test.true c.loop-i.invariant.taken

pub bounds-members-i : goal.bounds-members-i
bounds-members-i c =
    let same : length c.args.members.now.taken.now
    ≡ length c.args.members.now.all.now = ap (λ (l : List Bool). length l) c.requires.told.taken
    ∙ length_taken c.args.memory.now.contents c.args.places c.args.members.now.all.now in
    omega (arith, same, c.loop-i-test.true)
