use Rattle.im_engine.proofs.groups.act_all.Goals as goal

pub act_whole-requires-clause-whole : goal.act_whole-requires-clause-whole
act_whole-requires-clause-whole c = c.requires.judged.whole c.if-members.true

pub act_each-requires-clause-told : goal.act_each-requires-clause-told
act_each-requires-clause-told c = c.requires.judged.each c.if-members.false
