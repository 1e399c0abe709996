use Rattle.std.proofs.Common.{◌≡◌, true, [], ◌++◌, map, length, drop, string_bytes}
use Rattle.im_front.specs.Lists.{commands_asked}
use Rattle.im_dialogue.specs.Together.{GroupStart, TellWatchers}

abbrev pub invariant-loop-one : Rattle.im_dialogue.proofs.watching.add_nows.Given.invariant-loop-one
invariant-loop-one l = record {
  ahead : l.ahead.items ++ commands_asked (drop l.one-index l.asked) ≡ commands_asked l.asked;
  many : length l.ahead.items ≡ l.one-index;
  texts : length (map string_bytes l.nows.items) ≡ length l.ahead.items;
  told : (b : GroupStart) → b.memory ≡ l.memory.contents
      → TellWatchers true b [] l.ahead.items (map string_bytes l.nows.items);
}
