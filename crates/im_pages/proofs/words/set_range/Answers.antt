use Rattle.std.proofs.Common.{◌/◌, arith}
use Rattle.im_pages.proofs.RangeLemmas.{in_more, in_one, length-with, low_mask}
use Rattle.im_pages.proofs.words.set_range.Goals as goal

pub returns-then-first-last-clause-found : goal.returns-then-first-last-clause-found
returns-then-first-last-clause-found c = λ bit lo hi.
    (in_one c.args.words.now c.args.from c.args.to c.requires.order c.requires.inside c.if-first-last.true).found bit lo hi

pub returns-then-first-last-clause-others : goal.returns-then-first-last-clause-others
returns-then-first-last-clause-others c = λ bit out.
    (in_one c.args.words.now c.args.from c.args.to c.requires.order c.requires.inside c.if-first-last.true).others bit out

pub returns-clause-found : goal.returns-clause-found
returns-clause-found c = λ bit lo hi.
    (in_more c.args.words.now c.fill_between.new.words c.args.from c.args.to c.requires.order c.requires.inside c.if-first-last.false
    (omega (
      arith,
      c.fill_between.auto.words,
      length-with c.args.words.now (c.args.from / 64)
          (low_mask c.args.from),
    )) c.fill_between.ensures.found c.fill_between.ensures.others).found bit lo hi

pub returns-clause-others : goal.returns-clause-others
returns-clause-others c = λ bit out.
    (in_more c.args.words.now c.fill_between.new.words c.args.from c.args.to c.requires.order c.requires.inside c.if-first-last.false
    (omega (
      arith,
      c.fill_between.auto.words,
      length-with c.args.words.now (c.args.from / 64)
          (low_mask c.args.from),
    )) c.fill_between.ensures.found c.fill_between.ensures.others).others bit out
