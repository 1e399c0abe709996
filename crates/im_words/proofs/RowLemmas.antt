-- A command that takes what a list has of words from a place on.
use Rattle.std.proofs.Common.{◌≡◌, ℕ, suc, ◌+◌, ◌<◌, ◌≤◌, Bool, List, map, length, get_or, drop, sym, ap, ◌∙◌, arith}
use Rattle.clap.specs.Words.{App, Rule, with_rule, with_subcommand}
use Rattle.std.proofs.{lemmas.List.drop_all, Math.Seq.drop-cons}
use Rattle.im_words.specs.Words.{app_in, argument_in, SubcommandRow, with_subcommands, with_words, WordRow}

module _ {R : Type 0} (of : R → WordRow) (is_path : Bool) (ws : List R) (i : ℕ) where
  -- one more word
  pub word_added : (d : R) (first was made : App) (rule : Rule) → i < length ws
      → rule ≡ argument_in is_path (of (get_or ws i d)) → made ≡ with_rule was rule
      → with_words is_path was (map of (drop i ws)) ≡ first → with_words is_path made (map of (drop (i + 1) ws)) ≡ first
  unfolding with_words
  word_added d first was made rule within is added before =
      let next : suc i ≡ i + 1 = omega arith in
      sym (ap (λ (n : ℕ). with_words is_path made (map of (drop n ws))) next)
      ∙ ap (λ (app : App). with_words is_path app (map of (drop (suc i) ws))) (added ∙ ap (with_rule was) is)
      ∙ sym (ap (λ (l : List R). with_words is_path was (map of l)) (drop-cons ws i d within)) ∙ before

  -- no word is left
  pub words_end : (app : App) → length ws ≤ i → with_words is_path app (map of (drop i ws)) ≡ app
  unfolding with_words
  words_end app past = ap (λ (l : List R). with_words is_path app (map of l)) (drop_all i ws past)

module _ {R : Type 0} (of : R → SubcommandRow) (rs : List R) (i : ℕ) where
  -- one more subcommand
  pub row_added : (d : R) (first was made sub : App) → i < length rs → sub ≡ app_in (of (get_or rs i d))
      → made ≡ with_subcommand was sub.top → with_subcommands was (map of (drop i rs)) ≡ first
      → with_subcommands made (map of (drop (i + 1) rs)) ≡ first
  unfolding with_subcommands
  row_added d first was made sub within is added before =
      let next : suc i ≡ i + 1 = omega arith in
      sym (ap (λ (n : ℕ). with_subcommands made (map of (drop n rs))) next)
      ∙ ap (λ (app : App). with_subcommands app (map of (drop (suc i) rs)))
      (added ∙ ap (λ (app : App). with_subcommand was app.top) is)
      ∙ sym (ap (λ (l : List R). with_subcommands was (map of l)) (drop-cons rs i d within)) ∙ before

  -- no subcommand is left
  pub rows_end : (app : App) → length rs ≤ i → with_subcommands app (map of (drop i rs)) ≡ app
  unfolding with_subcommands
  rows_end app past = ap (λ (l : List R). with_subcommands app (map of l)) (drop_all i rs past)
