-- What is given under an id, by what clap says of it.
use Rattle.std.proofs.Common.{◌≡◌, Some, None, Option, option_map, sym, ap, ◌∙◌, Bor}
use Rattle.clap.{proofs.WalkLemmas.first_value-rows, specs.declared.parser.matches.ArgMatches.ArgMatches}
use Rattle.clap.specs.Words.{first_of, first_value, found_of, rows_of, Text}
use Rattle.std.specs.Option.{option_map_or}

module _ {A : Type 0} (read : Text → A) (fallback : A) (m : ArgMatches) (id : Text) (given : Option (Bor Text))
    (ensures : option_map (λ (s : Bor Text). s.now) given ≡ first_value (found_of m) id) where
  -- a text is given
  pub given_some : (text : Bor Text) → given ≡ Some text
      → read text.now ≡ option_map_or read (first_of id (rows_of (found_of m))) fallback
  given_some text is =
      let there : first_of id (rows_of (found_of m)) ≡ Some text.now =
      sym (first_value-rows (found_of m) id) ∙ sym ensures ∙ ap (option_map (λ (s : Bor Text). s.now)) is in
      sym (ap (λ (o : Option Text). option_map_or read o fallback) there)

  -- none is given
  pub given_none : given ≡ None → fallback ≡ option_map_or read (first_of id (rows_of (found_of m))) fallback
  given_none is =
      let none : first_of id (rows_of (found_of m)) ≡ None =
      sym (first_value-rows (found_of m) id) ∙ sym ensures ∙ ap (option_map (λ (s : Bor Text). s.now)) is in
      sym (ap (λ (o : Option Text). option_map_or read o fallback) none)
