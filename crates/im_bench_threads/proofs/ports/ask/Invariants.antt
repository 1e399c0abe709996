-- Where the controller begins.
use Rattle.std.proofs.Common.{false}
use Rattle.im_controller.specs.Kept.{origin_of}

abbrev pub ghosts-ask_named : Rattle.im_bench_threads.proofs.ports.ask.Given.ghosts-ask_named
ghosts-ask_named g a = record { origin = origin_of g.D.Disk (λ _. false) a.opening }
