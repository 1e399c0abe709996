use Rattle.std.proofs.Common.{◌≡◌, ◌≤◌, length, rules}
use Rattle.im_types.specs.Types.{header_place}
use Rattle.im_dump.proofs.SalvageLemmas.{best_found}

pub returns-clause-found : Rattle.im_dump.proofs.salvaging.read_best.Goals.returns-clause-found
returns-clause-found g c =
    let file = (g.D.Disk.now c.args.disk.now).bytes in
    let room : g.D.Disk.honest c.read-2.new.self → 8192 ≤ length file = search rules in
    let zero : g.D.Disk.honest c.read-2.new.self → c.read.new.buf ≡ header_place 0 file = search rules in
    let one : g.D.Disk.honest c.read-2.new.self → c.read-2.new.buf ≡ header_place 1 file = search rules in record {
      same = λ honest. best_found file _ _ _ (room honest) (zero honest) (one honest) c.best_of.ensures.found;
    }
