use Rattle.std.proofs.Common.{◌≡◌, true, List, [], ◌++◌, string_bytes, sym, ap, ◌∙◌, subst, rules}
use Rattle.im_types.specs.Types.{Command, Contents}
use Rattle.im_dialogue.proofs.WatchedLemmas.{no_command, told_alone}
use Rattle.im_dialogue.specs.{Together.TellsWatchers, Watching.nows_text, Watching.resumed_by}
use Rattle.im_dialogue.proofs.watching.add_told.Goals as goal

pub returns-in_ok-add_by_command-clause-known : goal.returns-in_ok-add_by_command-clause-known
returns-in_ok-add_by_command-clause-known c = λ known b same.
    let m = c.args.memory.now.contents in
    let none : c.args.ahead.now ≡ [] = no_command c.args.ahead.now (search rules) in
    subst (λ (l : List Command). TellsWatchers true b l c.args.command.now (string_bytes c.add_by_command.new.out))
    (sym none)
    (told_alone b c.args.command.now (string_bytes c.add_by_command.new.out)
    (c.in_ok-add_by_command.ensures
    ∙ ap (λ t. t ++ nows_text (resumed_by m c.args.command.now)) c.requires.empty
    ∙ ap (λ (x : Contents). nows_text (resumed_by x c.args.command.now)) (sym same)))
