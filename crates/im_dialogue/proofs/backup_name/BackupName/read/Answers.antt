use Rattle.std.proofs.Common.{sym, ◌∙◌}
use Rattle.im_dialogue.proofs.BackupLemmas.{few_in}

pub of-requires : Rattle.im_dialogue.proofs.backup_name.BackupName.read.Goals.of-requires
of-requires c = few_in c.args.word.now (sym c.is_name.ensures ∙ c.if-is_name.true)
