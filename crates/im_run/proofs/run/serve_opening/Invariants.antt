-- Where the controller begins.
use Rattle.std.proofs.Common.{map}
use Rattle.im_controller.specs.Kept.{origin_of}
use Rattle.im_run.specs.{Alone.is_strange, Orders.ask_of}

abbrev pub ghosts-serve_orders : Rattle.im_run.proofs.run.serve_opening.Given.ghosts-serve_orders
ghosts-serve_orders g a = record { origin = origin_of g.D.Disk (is_strange (map ask_of a.orders.items)) a.opening }
