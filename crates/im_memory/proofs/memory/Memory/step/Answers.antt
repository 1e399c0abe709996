use Rattle.std.proofs.Common.{◌≡◌, [], ◌∷◌, ◌++◌, length, sym, ap, ◌∙◌, subst}
use Rattle.im_types.specs.Types.{Command, Asks, Confirm, Contents, IsMemory, KeepsEntries, step, is_accepted}
use Rattle.im_laws.proofs.{MemoryLemmas.step-memory, RunAgrees.step-keeps}
use Rattle.im_histories.proofs.Laws.{every_matching_law, every_value_law}
use Rattle.im_memory.proofs.memory.Memory.step.Goals as goal

module _ (m next : Contents) (command known : Command) (is : command ≡ known)
    (steps : next ≡ (step m known).contents) (memory : IsMemory (length m.cells) (length m.windows) m) where
  stays : IsMemory (length m.cells) (length m.windows) next
  stays = subst (IsMemory (length m.cells) (length m.windows)) (sym steps)
      (step-memory (length m.cells) (length m.windows) m known memory)

  keeps : KeepsEntries m command next
  keeps = subst (KeepsEntries m command) (sym (steps ∙ ap (λ k. (step m k).contents) (sym is)))
      (step-keeps m command memory.agrees)

pub returns-in-Request-clause-memory : goal.returns-in-Request-clause-memory
returns-in-Request-clause-memory c =
    stays c.args.self.now.contents c.request.new.self.contents c.args.command.now
    (Asks c.in-Request.request) c.in-Request.is c.request.ensures.contents c.request.ensures.was_memory

pub returns-in-Request-clause-keeps : goal.returns-in-Request-clause-keeps
returns-in-Request-clause-keeps c =
    keeps c.args.self.now.contents c.request.new.self.contents c.args.command.now
    (Asks c.in-Request.request) c.in-Request.is c.request.ensures.contents c.request.ensures.was_memory

pub returns-in-Request-clause-unaccepted : goal.returns-in-Request-clause-unaccepted
returns-in-Request-clause-unaccepted c = λ un. c.request.ensures.unaccepted
    (sym (ap (λ k. is_accepted c.args.self.now.contents k) c.in-Request.is) ∙ un)

pub returns-in-Request-clause-values : goal.returns-in-Request-clause-values
returns-in-Request-clause-values c = λ commands was. every_value_law (length c.args.self.now.contents.cells)
    (length c.args.self.now.contents.windows) (commands ++ c.args.command.now ∷ [])

pub returns-in-Request-clause-matching : goal.returns-in-Request-clause-matching
returns-in-Request-clause-matching c = λ commands was. every_matching_law (length c.args.self.now.contents.cells)
    (length c.args.self.now.contents.windows) (commands ++ c.args.command.now ∷ [])

pub returns-in-Confirm-clause-memory : goal.returns-in-Confirm-clause-memory
returns-in-Confirm-clause-memory c =
    stays c.args.self.now.contents c.confirm.new.self.contents c.args.command.now
    (Confirm c.in-Confirm.element c.in-Confirm.upto) c.in-Confirm.is c.confirm.ensures.contents c.confirm.ensures.was_memory

pub returns-in-Confirm-clause-keeps : goal.returns-in-Confirm-clause-keeps
returns-in-Confirm-clause-keeps c =
    keeps c.args.self.now.contents c.confirm.new.self.contents c.args.command.now
    (Confirm c.in-Confirm.element c.in-Confirm.upto) c.in-Confirm.is c.confirm.ensures.contents c.confirm.ensures.was_memory

pub returns-in-Confirm-clause-values : goal.returns-in-Confirm-clause-values
returns-in-Confirm-clause-values c = λ commands was. every_value_law (length c.args.self.now.contents.cells)
    (length c.args.self.now.contents.windows) (commands ++ c.args.command.now ∷ [])

pub returns-in-Confirm-clause-matching : goal.returns-in-Confirm-clause-matching
returns-in-Confirm-clause-matching c = λ commands was. every_matching_law (length c.args.self.now.contents.cells)
    (length c.args.self.now.contents.windows) (commands ++ c.args.command.now ∷ [])

pub returns-in-Confirm-clause-unaccepted : goal.returns-in-Confirm-clause-unaccepted
returns-in-Confirm-clause-unaccepted c = λ un. c.confirm.ensures.unaccepted
    (sym (ap (λ k. is_accepted c.args.self.now.contents k) c.in-Confirm.is) ∙ un)
