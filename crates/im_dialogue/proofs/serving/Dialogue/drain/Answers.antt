use Rattle.std.proofs.Common.{None, refl, ◌∙◌, subst, arith}
use Rattle.im_front.specs.declared.asks.TheConstants.{MOST_ASKED}
use Rattle.im_dialogue.proofs.ServeLemmas.{none_left}
use Rattle.im_dialogue.proofs.TalkLemmas.{ends_after, goes_talk, nothing_said, on_after}
use Rattle.im_dialogue.specs.{declared.serving.Setting.Setting, Serving.told_by_it, Talk.TalkEnds, Talk.TalksOn}
use Rattle.im_dialogue.proofs.serving.Dialogue.drain.Goals as goal

pub loop-group-init : goal.loop-group-init
loop-group-init g c = record {
  talks = λ kept left. goes_talk c.args.self.now.setting.watch c.args.self.now.front.session
      c.args.self.now.front.session (told_by_it c.args.self.now kept left) (nothing_said c.args.self.now.front.session);
  asked = c.requires.asked;
  few = let few = c.is_full-full.ensures.few in omega (arith, few);
  same = refl;
  line = refl;
}

pub loop-group-preserved : goal.loop-group-preserved
loop-group-preserved g c =
    let old = c.args.self.now in
    let mid = c.loop-group.self in
    let new = c.advance.new.self in
    let inv = c.loop-group.invariant in
    record {
      talks = λ kept left. on_after old.setting.watch old.front.session mid.front.session new.front.session
          (told_by_it old kept left) (told_by_it mid kept left) (told_by_it new kept left) (inv.talks kept left)
          (subst (λ (s : Setting). TalksOn s.watch mid.front.session (told_by_it mid kept left) new.front.session
          (told_by_it new kept left)) inv.same (c.in-Ok.ensures.talks kept left));
      asked = c.advance.ensures.asked;
      few = let few = inv.few in let less = c.in-Ok.ensures.less in omega (arith, few, less);
      same = c.advance.ensures.same ∙ inv.same;
      line = c.advance.ensures.line ∙ inv.line;
    }

pub returns-in-Err-clause-talks : goal.returns-in-Err-clause-talks
returns-in-Err-clause-talks g c = λ kept left.
    let old = c.args.self.now in
    let mid = c.loop-group.self in
    let new = c.advance.new.self in
    let inv = c.loop-group.invariant in
    ends_after old.setting.watch old.front.session mid.front.session new.front.session (told_by_it old kept left)
    (told_by_it mid kept left) (told_by_it new kept None) (inv.talks kept left)
    (subst (λ (s : Setting). TalkEnds s.watch mid.front.session (told_by_it mid kept left) new.front.session
    (told_by_it new kept None)) inv.same (c.in-Err.ensures.talks kept left))

pub returns-clause-none : goal.returns-clause-none
returns-clause-none g c =
    none_left c.loop-group.self.front.asked c.loop-group._group MOST_ASKED c.loop-group.invariant.few
    (λ less. let past = c.loop-group-test.false in omega (arith, less, past))
