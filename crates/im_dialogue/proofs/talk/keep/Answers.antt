use Rattle.std.proofs.Common.{◌∷◌, Some, Ok, Err, refl, ap, ◌∙◌}
use Rattle.{im_types.specs.Types.Contents, im_engine.specs.State.EngineState}
use Rattle.im_dialogue.{proofs.TalkLemmas.quiet, specs.Backups.Backup, specs.Backups.bytes_of}
use Rattle.im_dialogue.specs.declared.asking.Question.TheVariants as asks
use Rattle.im_dialogue.specs.declared.answers.LineAnswer.TheVariants as answer
use Rattle.im_dialogue.proofs.talk.keep.Goals as goal

pub returns-in-Ok-clause-answered : goal.returns-in-Ok-clause-answered
returns-in-Ok-clause-answered g c = quiet c.args.front.now.session (Some (asks.Backup c.args.name))
    (answer.Backup c.args.name (Ok c.count-count.result)) (λ m. refl)
    (λ f turns. (
      Ok c.count-count.result,
      refl,
      c.count-count.ensures ∙ ap (λ (e : EngineState _). e.count) c.engine.ensures.state,
    ))

pub returns-in-Ok-clause-kept : goal.returns-in-Ok-clause-kept
returns-in-Ok-clause-kept g c =
    let made : Contents → Backup = λ m. record
    { name = bytes_of c.args.name; memory = m; count = c.count-count.result } in
    c.in-Ok.ensures.kept ∙ ap (λ (m : Contents). made m ∷ g.B.Backups.kept c.args.backups.now) c.memory.ensures

pub returns-in-Err-clause-answered : goal.returns-in-Err-clause-answered
returns-in-Err-clause-answered g c = quiet c.args.front.now.session (Some (asks.Backup c.args.name))
    (answer.Backup c.args.name (Err c.in-Err.fault)) (λ m. refl) (λ f turns. (Err c.in-Err.fault, refl, tt))
