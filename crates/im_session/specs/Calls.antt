-- What the calls of a session put on its disk. (Own.)
use Rattle.std.specs.Prelude.{Bool, List, [], ◌∷◌, ◌++◌, length, take, Result}
use Rattle.im_types.specs.Types.{Command, Outcome, Refusal, Contents}
use Rattle.im_groups.specs.Commands.{commands_at}
use Rattle.im_session.specs.declared.calls.SessionCall.{SessionCall, TheVariants.Alone, TheVariants.Together}
use Rattle.im_session.specs.Put.{doubted_by, doubted_of, PutList, sure_by, sure_of}

-- nothing was put yet
abbrev pub nothing_put : PutList
nothing_put = record { sure = []; doubt = [] }

-- with one more command, served on this memory
abbrev pub put_with : PutList → Contents → Command → Result Outcome Refusal → PutList
put_with p m c answer = record { sure = p.sure ++ sure_by m c answer; doubt = p.doubt ++ doubted_by m c answer }

-- with commands that were put together
abbrev pub put_with_all : PutList → List Command → Bool → Bool → PutList
put_with_all p commands before failed =
    record { sure = p.sure ++ sure_of failed commands; doubt = p.doubt ++ doubted_of before failed commands }

-- what these calls put, the last call first
abbrev pub put_by_calls : List SessionCall → PutList
put_by_calls [] = nothing_put
put_by_calls (Alone memory command answer ∷ calls) =
    put_with (put_by_calls calls) memory.value.contents command.value answer.value
put_by_calls (Together memory places members served before failed ∷ calls) = put_with_all (put_by_calls calls)
    (commands_at memory.value.contents places.value (take (length served.value.items) members.value.items)) before.value
    failed.value
