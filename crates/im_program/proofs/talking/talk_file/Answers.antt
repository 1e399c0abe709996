pub returns-clause-talked : Rattle.im_program.proofs.talking.talk_file.Goals.returns-clause-talked
returns-clause-talked g c = λ honest. record {
  old = c.in_ok-disk.disk;
  was = c.in_ok-disk.ensures.now;
  none = c.in_ok-disk.ensures.past;
  talked = rw c.parts-input.ensures.input at (c.dialogue_on.ensures.talked honest);
}
