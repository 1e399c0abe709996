use Rattle.std.proofs.Common.{◌∙◌}

pub go_on-requires-clause-told : Rattle.im_engine.proofs.engine.Engine.advance_some.Goals.go_on-requires-clause-told
go_on-requires-clause-told g c = let told = c.judge_coming-many.ensures.told in record {
  commands = told.commands;
  taken = λ other. c.as_slice.ensures.value ∙ told.taken other;
}
