use Rattle.std.proofs.Common.{◌≡◌, true, [], IsSome, None, codes, Option, sym, refl, ap, ◌∙◌, subst, ⊎_elim, rules}
use Rattle.clap.specs.Simple.{is_simple, subcommand_of}
use Rattle.clap.specs.Words.{App, app_of, fault_of, is_simple_and_free, takes}
use Rattle.im_script.specs.Grammar.{texts}
use Rattle.im_words.specs.Words.{asks_wait, asks_work, has_flag, imem_app, wait_in, with_subcommands, with_words}
use Rattle.im_words.specs.Words.{work_in}
use Rattle.im_words.proofs.reading.read_words.Goals as goal

free : is_simple_and_free imem_app ≡ true
unfolding imem_app with_subcommands with_words
free = refl

pub returns-in-Some-clause-sound : goal.returns-in-Some-clause-sound
returns-in-Some-clause-sound c = λ ok.
    let app : app_of c.in-Ok.command ≡ imem_app = c.in-Ok.ensures.app in
    let none : fault_of (app_of c.in-Ok.command) (texts c.args.words.now) ≡ [] = c.in-Ok-try_get_matches_from.ensures.kinds (ap is_simple_and_free app ∙ free) in
    sym (ap (λ (a : App). fault_of a (texts c.args.words.now)) app) ∙ none

pub returns-in-Err-try_get_matches_from-clause-taken : goal.returns-in-Err-try_get_matches_from-clause-taken
returns-in-Err-try_get_matches_from-clause-taken c = λ taken some waits.
    let same : takes (app_of c.in-Ok.command) (texts c.args.words.now) ≡ true = ap (λ (a : App). takes a (texts c.args.words.now)) c.in-Ok.ensures.app ∙ taken in
    c.fault.ensures (c.in-Err-try_get_matches_from.ensures.passes same)

simple : is_simple imem_app ≡ true
unfolding imem_app with_subcommands with_words
simple = refl

pub returns-in-Some-clause-work : goal.returns-in-Some-clause-work
returns-in-Some-clause-work c =
    let app : app_of c.in-Ok.command ≡ imem_app = c.in-Ok.ensures.app in
    let met = c.in-Ok-try_get_matches_from.ensures.matches (ap is_simple app ∙ simple) in
    let same = met.1 ∙ ap (λ (a : App). subcommand_of a (texts c.args.words.now)) app in
    sym (ap work_in same) ∙ c.in-Some.ensures.work

pub returns-in-Some-clause-statuses : goal.returns-in-Some-clause-statuses
returns-in-Some-clause-statuses c =
    let app : app_of c.in-Ok.command ≡ imem_app = c.in-Ok.ensures.app in
    let met = c.in-Ok-try_get_matches_from.ensures.matches (ap is_simple app ∙ simple) in
    let same = met.1 ∙ ap (λ (a : App). subcommand_of a (texts c.args.words.now)) app in
    c.in-Some.ensures.statuses ∙ ap (has_flag (codes "statuses")) same

pub returns-in-Some-clause-progress : goal.returns-in-Some-clause-progress
returns-in-Some-clause-progress c =
    let app : app_of c.in-Ok.command ≡ imem_app = c.in-Ok.ensures.app in
    let met = c.in-Ok-try_get_matches_from.ensures.matches (ap is_simple app ∙ simple) in
    let same = met.1 ∙ ap (λ (a : App). subcommand_of a (texts c.args.words.now)) app in
    c.in-Some.ensures.progress ∙ ap (has_flag (codes "progress")) same

pub returns-in-Some-clause-wait : goal.returns-in-Some-clause-wait
returns-in-Some-clause-wait c =
    let app : app_of c.in-Ok.command ≡ imem_app = c.in-Ok.ensures.app in
    let met = c.in-Ok-try_get_matches_from.ensures.matches (ap is_simple app ∙ simple) in
    let same = met.1 ∙ ap (λ (a : App). subcommand_of a (texts c.args.words.now)) app in
    sym (ap wait_in same) ∙ c.in-Some.ensures.wait

no_some : (A : Type 0) → IsSome {T = A} None → ⊥
no_some A some = search rules

none_some : {A : Type 0} (o : Option A) → o ≡ None → IsSome o → ⊥
none_some {A = A} o is some = no_some A (subst (λ (p : Option A). IsSome p) is some)

pub returns-clause-taken : goal.returns-clause-taken
returns-clause-taken c = λ taken some waits.
    let app : app_of c.in-Ok.command ≡ imem_app = c.in-Ok.ensures.app in
    let met = c.in-Ok-try_get_matches_from.ensures.matches (ap is_simple app ∙ simple) in
    let same = met.1 ∙ ap (λ (a : App). subcommand_of a (texts c.args.words.now)) app in
    ⊎_elim (λ none. absurd (none_some (asks_work (texts c.args.words.now)) (sym (ap work_in same) ∙ none) some))
    (λ none. absurd (none_some (asks_wait (texts c.args.words.now)) (sym (ap wait_in same) ∙ none) waits))
    c.in-None.ensures.none
