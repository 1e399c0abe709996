use Rattle.std.proofs.Common.{◌≡◌, ◌++◌, map, string_bytes}
use Rattle.im_types.specs.Types.{Value, waiters_at}
use Rattle.im_dialogue.specs.Watching.{nows_text}

abbrev pub invariant-loop-reader : Rattle.im_dialogue.proofs.watching.add_readers.Given.invariant-loop-reader
invariant-loop-reader l =
    string_bytes l.out ++ nows_text (map (λ w. (w, Value l.value)) l.reader-iterator) ≡ string_bytes l.fn.out
    ++ nows_text (map (λ w. (w, Value l.value)) (waiters_at l.memory.contents.cells l.a))
