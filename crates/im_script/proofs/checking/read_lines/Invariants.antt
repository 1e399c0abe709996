use Rattle.std.proofs.Common.{◌≡◌, ◌+◌, ◌≤◌, [], length, take, drop, Some}
use Rattle.std.specs.Option.{option_map_or}
use Rattle.im_script.specs.Script.{draft_of, lines_after, lines_of, new_draft}
use Rattle.im_script.proofs.checking.read_lines.Given as goal

-- the reader has what as many lines say as were counted, and the others are left
abbrev pub invariant-loop-rest : goal.invariant-loop-rest
invariant-loop-rest l = record {
  left : drop l.number (lines_of l.text) ≡ option_map_or (λ rest. lines_of rest.now) l.rest [];
  said : lines_after l.glances new_draft (take l.number (lines_of l.text)) ≡ Some (draft_of l.reader);
  few : l.number + option_map_or (λ rest. length rest.now + 1) l.rest 0 ≤ length l.text + 1;
}

abbrev pub decreases-loop-rest : goal.decreases-loop-rest
decreases-loop-rest l = option_map_or (λ rest. length rest.now + 1) l.rest 0
