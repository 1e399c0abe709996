-- Where the controller begins, over a disk that is always honest.
use Rattle.std.proofs.Common.{false, length}

abbrev pub ghosts-act_named : Rattle.im_stories_threads.proofs.acts.act_on.Given.ghosts-act_named
ghosts-act_named g a = let s = a.opening.session in record {
  origin = record {
    memory = s.engine.memory;
    plan = a.opening.plan;
    marks = λ _. false;
    lines_name = a.opening.lines_name;
    marked_name = a.opening.marked_name;
    ports = a.opening.ports;
    book = a.opening.book;
    begun = record {
      now = s.start.disk.disk.moment;
      past = s.start.disk.disk.past;
      failures = s.start.disk.disk.failures;
      memory = s.start.memory;
      count = s.start.count;
    };
    first = s.put;
    time = length s.engine.disk.disk.past;
    failed = s.engine.failed;
    honest = Unit {0};
  };
}
