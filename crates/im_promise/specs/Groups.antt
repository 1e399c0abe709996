-- What a recovery gives of a group, and the answers to a group that is sent again. (Own.)
use Rattle.std.specs.Prelude.{◌≡◌, ◌+◌, ◌<◌, false, ◌⊎◌, List, [], ◌∷◌, length, Ok}
use Rattle.im_types.specs.Types.{Entry, Request, Command, Tells, Served, Device, Contents, WaitingAgrees, after, is_put}
use Rattle.im_types.specs.Types.{answer_of, reached_by_one, puts_of, Reached}
use Rattle.im_engine.specs.Groups.{after_group, all_refused, answers_in, group_put, reached_in}
use Rattle.im_engine.specs.State.{EngineState}
use Rattle.im_session.specs.declared.{Answer.Answer, Event.Event}
use Rattle.im_promise.specs.{Again.IsSaidAgain, Recovery.Recovers}

-- the engine has the memory and the count of an earlier one after these commands
pub record HasMore {D E : Type 0} (old : EngineState D) (commands : List Command) (now : EngineState E) : Type 0 where
  pub memory : now.memory ≡ after old.memory commands
  pub count : now.count ≡ old.count + length commands

-- An engine served a group with these answers. Its disk stopped, or not, and a crash left a file. The image was opened
-- again, with the engine `now`. Either the members got their answers one after another, and all commands of the group
-- are there. Or all members got `Device`, and either none or all of the commands are there.
abbrev pub RecoversGroup : {D E : Type 0} → EngineState D → List Request → List Served → EngineState E → Type 0
RecoversGroup old members answers now =
    ((answers ≡ answers_in old members) × HasMore old (group_put old members) now)
    ⊎ ((answers ≡ all_refused Device members) × (HasMore old [] now ⊎ HasMore old (group_put old members) now))

-- an engine's answers to a group that it was sent: those of the members one after another, or all `Device`
abbrev pub IsGroupAnswer : {D : Type 0} → EngineState D → List Request → List Served → Type 0
IsGroupAnswer old members answers = (answers ≡ answers_in old members) ⊎ (answers ≡ all_refused Device members)

-- The group was sent on `before` and is sent again on `now`, one member after another. Each member that was told an
-- entry is told it again, or the answer that has come since, or `Forgotten` if it was confirmed. It isn't put on the
-- disk again.
abbrev pub AreSaidAgain : Reached → Reached → List Request → Type 0
AreSaidAgain before now [] = Unit {0}
AreSaidAgain before now (r ∷ rs) =
    ((entry : Entry) → answer_of before r ≡ Ok (Tells entry)
    → IsSaidAgain now.contents r entry (answer_of now r) × (is_put now r ≡ false))
    × AreSaidAgain (reached_by_one before r) (reached_by_one now r) rs

-- each member was told an entry, one after another
abbrev pub AreTold : Reached → List Request → Type 0
AreTold before [] = Unit {0}
AreTold before (r ∷ rs) =
    ((entry : Entry) × (answer_of before r ≡ Ok (Tells entry))) × AreTold (reached_by_one before r) rs

-- the memory came of `before` by the commands that this group put on the disk there, and later ones; the waiters and
-- entries of `before` agreed
pub record HasGroup (m : Contents) (before : Reached) (members : List Request) : Type 0 where
  pub later : List Command
  pub agrees : WaitingAgrees before.contents
  pub is : m ≡ after (after before.contents (puts_of before members)) later

-- the answers to a group that was sent on `before` and is sent again, and the engine after it
pub record GroupSaidAgain {D : Type 0} (before : Reached) (old : EngineState D) (members : List Request)
    (answers : List Served) (new : EngineState D) : Type 0 where
  -- its members are answered one after another, or all `Device` if one of them is new
  pub answered : (answers ≡ answers_in old members)
      ⊎ ((answers ≡ all_refused Device members) × (0 < length (group_put old members)))
  -- those that were told an entry are answered as before, and don't act
  pub again : AreSaidAgain before (reached_in old) members
  -- if all were told one, nothing changes, and no call of the disk is made
  pub still : AreTold before members → (answers ≡ answers_in old members) × (new ≡ old)

-- A group was served, and no member was answered `Device`. Events were served and answered. The disk stopped, or not,
-- and a crash left a file. The image was opened, and the group was sent again.
pub record GroupAskedOverACrash {D E : Type 0} (old : EngineState D) (members : List Request) (events : List Event)
    (answers : List Answer) (said : List Served) (new : EngineState E) : Type 0 where
  -- the members that are ahead of the engine behind the group: those that were, or none
  pub ahead : List Command
  pub left : (ahead ≡ old.ahead) ⊎ (ahead ≡ [])
  -- The engine of the opening works. It has the memory and the count after the group, once, and after what a recovery
  -- gives of the events.
  pub opened : EngineState E
  pub works : opened.failed ≡ false
  pub once : Recovers (after_group old members).memory
      (after_group old members).count ahead events answers opened.memory opened.count
  -- each member that was told an entry is told it again, or the answer that has come since, and doesn't act again
  pub again : GroupSaidAgain (reached_in old) opened members said new
