use Rattle.std.proofs.Common.{ℕ, List, Option, ◌∙◌, subst}
use Rattle.{im_disk.specs.contracts.file.FileDiskDisk.TheImpl.ghosts, im_program.specs.Ending.EndedOn}
use Rattle.im_listening.specs.Listening.{still_in}
use Rattle.imem.proofs.Heard.{heard_as}

pub returns-clause-ended : Rattle.imem.proofs.working.work_on.Goals.returns-clause-ended
returns-clause-ended g c = subst
    (λ (known : Option (List ℕ)). EndedOn g.S.Start g.T.Start
    (ghosts g.row.S g.S.Start g.S.Start-dict g.S.Destruct-dict)
    (ghosts g.row.T g.T.Start g.T.Start-dict g.T.Destruct-dict) c.args.line.now known (g.W.Write.contents c.args.out)
    (g.W.Write.contents c.act-status.new.out) c.status_for-ends.result c.act-status.result.1
    c.act-status.result.2)
    (heard_as still_in c.in-Ok.input c.new-prompter.result c.listen-heard.result c.in-Ok.ensures.inner
    c.in-Ok.ensures.empty c.in-Ok.ensures.capacity c.new-prompter.ensures ∙ c.listen-heard.ensures.bytes)
    (record {
      status = c.act-status.result.0;
      ends = record {
        same = c.status_for-ends.ensures.same;
        few = c.status_for-ends.ensures.few;
        range = c.status_for-ends.ensures.range;
      };
      done = c.act-status.ensures.done;
    })
