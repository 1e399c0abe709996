-- Lists of commands, joined and accepted.
use Rattle.std.proofs.Common.{◌≡◌, Bool, true, false, cond, List, [], ◌∷◌, ◌++◌, sym, refl, ap, ◌∙◌}
use Rattle.im_types.specs.Types.{Command, Contents, step, is_accepted, after, accepted, answers}
use Rattle.im_laws.proofs.AcceptLemmas.{unaccepted-leaves}

pub after-append : (m : Contents) (earlier later : List Command) → after m (earlier ++ later)
    ≡ after (after m earlier) later
after-append m [] later = refl
after-append m (command ∷ earlier) later = after-append (step m command).contents earlier later

pub answers-append : (m : Contents) (earlier later : List Command)
    → answers m (earlier ++ later) ≡ answers m earlier ++ answers (after m earlier) later
answers-append m [] later = refl
answers-append m (command ∷ earlier) later = ap (λ rest. (step m command).answer ∷ rest)
    (answers-append (step m command).contents earlier later)

pub accepted-append : (m : Contents) (earlier later : List Command)
    → accepted m (earlier ++ later) ≡ accepted m earlier ++ accepted (after m earlier) later
accepted-append m [] later = refl
accepted-append m (command ∷ earlier) later = by_test (is_accepted m command)
    (accepted-append (step m command).contents earlier later)
  where
    by_test : (b : Bool) → let next = (step m command).contents in
        accepted next (earlier ++ later) ≡ accepted next earlier ++ accepted (after next earlier) later
        → cond b (command ∷ accepted next (earlier ++ later)) (accepted next (earlier ++ later))
        ≡ cond b (command ∷ accepted next earlier) (accepted next earlier) ++ accepted (after next earlier) later
    by_test true rest = ap (λ rest. command ∷ rest) rest
    by_test false rest = rest

-- only what is accepted matters
pub after-accepted : (m : Contents) (commands : List Command) → after m (accepted m commands) ≡ after m commands
after-accepted m [] = refl
after-accepted m (command ∷ commands) = by_test (is_accepted m command) refl
    (after-accepted (step m command).contents commands)
  where
    by_test : (b : Bool) → is_accepted m command ≡ b → let rest = accepted (step m command).contents commands in
        after (step m command).contents rest ≡ after (step m command).contents commands
        → after m (cond b (command ∷ rest) rest) ≡ after (step m command).contents commands
    by_test true e same = same
    by_test false e same = ap (λ m'. after m' (accepted (step m command).contents commands))
        (sym (unaccepted-leaves m command e)) ∙ same

pub accepted-accepted : (m : Contents) (commands : List Command) → accepted m (accepted m commands)
    ≡ accepted m commands
accepted-accepted m [] = refl
accepted-accepted m (command ∷ commands) = by_test (is_accepted m command) refl
    (accepted-accepted (step m command).contents commands)
  where
    by_test : (b : Bool) → is_accepted m command ≡ b → let rest = accepted (step m command).contents commands in
        accepted (step m command).contents rest ≡ rest → accepted m (cond b (command ∷ rest) rest)
        ≡ cond b (command ∷ rest) rest
    by_test true e again =
        let rest : List Command = accepted (step m command).contents commands in
        ap (λ b. cond b (command ∷ accepted (step m command).contents rest) (accepted (step m command).contents rest)) e
        ∙ ap (λ rest. command ∷ rest) again
    by_test false e again =
        ap (λ m'. accepted m' (accepted (step m command).contents commands)) (sym (unaccepted-leaves m command e))
        ∙ again
