use Rattle.std.proofs.Common.{◌≡◌, ℕ, List, [], Some, None, Option, option_map, unwrap_or, sym, ap, ◌∙◌, Bor}
use Rattle.clap.proofs.WalkLemmas.{first_value-rows}
use Rattle.clap.specs.Words.{first_of, found_of, rows_of, Text}
use Rattle.im_words.proofs.given.path_of.Goals as goal

pub returns-in-Some : goal.returns-in-Some
returns-in-Some c =
    let is : first_of c.args.id.now (rows_of (found_of c.args.found.now)) ≡ Some c.in-Some.text.now =
    sym (first_value-rows (found_of c.args.found.now) c.args.id.now) ∙ sym c.get_str.ensures ∙ ap (option_map (λ (s : Bor (List ℕ)). s.now)) c.in-Some.is in
    sym (ap (λ (o : Option Text). unwrap_or o []) is)

pub returns-in-None : goal.returns-in-None
returns-in-None c =
    let is : first_of c.args.id.now (rows_of (found_of c.args.found.now)) ≡ None =
    sym (first_value-rows (found_of c.args.found.now) c.args.id.now) ∙ sym c.get_str.ensures ∙ ap (option_map (λ (s : Bor (List ℕ)). s.now)) c.in-None.is in
    sym (ap (λ (o : Option Text). unwrap_or o []) is)
