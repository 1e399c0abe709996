use Rattle.std.proofs.Common.{true, string_bytes, sym, ◌∙◌}
use Rattle.im_dialogue.proofs.WatchedLemmas.{told_quiet}

pub returns-then-answers_nobody : Rattle.im_dialogue.proofs.watching.add_behind.Goals.returns-then-answers_nobody
returns-then-answers_nobody c = λ known b same.
    told_quiet true b c.args.ahead.now c.args.command.now (string_bytes c.args.now.now) c.requires.empty
    (λ w. sym c.answers_nobody.ensures ∙ c.if-answers_nobody.true)
