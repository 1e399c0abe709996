use Rattle.std.proofs.Common.{[], refl, arith}

pub returns-then-are_windows : Rattle.im_contents.proofs.contents.have_parts.Goals.returns-then-are_windows
returns-then-are_windows c = (
  λ yes. record {
    cell_count = omega arith;
    window_count = c.if-windows-limits.false;
    within = c.if-are_windows.ensures.0 refl;
    blocks = λ lists. (c.are_blocks.ensures lists).0 yes;
  },
  λ parts. (c.are_blocks.ensures []).1 (parts.blocks []),
)
