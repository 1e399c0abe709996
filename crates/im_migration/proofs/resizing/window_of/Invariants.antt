use Rattle.std.proofs.Common.{◌≡◌, ◌-◌, take}
use Rattle.im_migration.specs.Resizing.{window_at}

abbrev pub invariant-loop-number : Rattle.im_migration.proofs.resizing.window_of.Given.invariant-loop-number
invariant-loop-number l = l.window
    ≡ record {
      base = l.base;
      kept = take (l.number - l.base) (window_at l.memory.contents.windows l.element).kept;
    }
