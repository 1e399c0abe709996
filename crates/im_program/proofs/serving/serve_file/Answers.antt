use Rattle.std.proofs.Common.{◌∙◌}
use Rattle.im_program.proofs.SourceLemmas.{text_as}
use Rattle.im_program.proofs.serving.serve_file.Goals as goal

pub returns-then-once-clause-served : goal.returns-then-once-clause-served
returns-then-once-clause-served g c = λ honest. rw c.if-once.true (record {
  old = c.in_ok-disk.disk;
  begins = c.in_ok-disk.ensures.now;
  none = c.in_ok-disk.ensures.past;
  text = c.in_ok-script.script;
  read = text_as _ c.in_ok-text.text.items c.in_ok-script.script
      (c.in_ok-script.ensures.text ∙ c.as_slice.ensures.value)
      (rw c.parts-input.ensures.input at c.in_ok-text.ensures.text);
  served = record {
    faulted = c.serial_once_on-status.result.2;
    plain = c.serial_once_on-status.result.0;
    done = c.serial_once_on-status.ensures.served honest;
    status_is = c.strict_status.ensures.status;
  };
})

pub returns-clause-served : goal.returns-clause-served
returns-clause-served g c = λ honest. rw c.if-once.false (record {
  old = c.in_ok-disk.disk;
  begins = c.in_ok-disk.ensures.now;
  none = c.in_ok-disk.ensures.past;
  text = c.in_ok-script.script;
  read = text_as _ c.in_ok-text.text.items c.in_ok-script.script
      (c.in_ok-script.ensures.text ∙ c.as_slice.ensures.value)
      (rw c.parts-input.ensures.input at c.in_ok-text.ensures.text);
  served = record {
    faulted = c.serial_on-status.result.2;
    plain = c.serial_on-status.result.0;
    done = c.serial_on-status.ensures.served honest;
    status_is = c.strict_status-else-once.ensures.status;
  };
})
