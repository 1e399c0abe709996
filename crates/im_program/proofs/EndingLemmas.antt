-- How the program ends.
use Rattle.std.proofs.Common.{◌≡◌, ℕ, Bool, List, Some, None, Option, unwrap_or, sym, refl, ap, ◌∙◌, subst, inl, arith}
use Rattle.im_disk.specs.declared.{Disk.Ghosts as DiskGhosts, FileDisk.FileDisk, Start.Ghosts}
use Rattle.im_words.specs.declared.{CommandLine.CommandLine, Work.Work}
use Rattle.im_words.specs.Words.{asks_statuses, asks_work, texts_in}
use Rattle.im_program.proofs.ToldLemmas.{nothing_done}
use Rattle.im_program.specs.Ending.{Ended, EndedBy, EndedOn, EndsAs}

same_work : (a b : Work (List ℕ)) → Some a ≡ Some b → a ≡ b
same_work a b is = ap (λ (o : Option (Work (List ℕ))). unwrap_or o a) is

module _ {S T : Type 0} (start : Ghosts S) (other : Ghosts T) (d : DiskGhosts (FileDisk S start))
    (e : DiskGhosts (FileDisk T other)) (input was is : Option (List ℕ)) (result : ℕ) where
  -- what was read of the words was done
  pub ended_by : (words : List (List ℕ)) (line : CommandLine) (disk : Option (FileDisk S start))
      (old : Option (FileDisk T other)) → asks_work words ≡ Some (texts_in line.work)
      → line.statuses ≡ asks_statuses words
      → EndedOn start other d e line input was is result disk old
      → EndedBy start other d e words input was is result disk old
  ended_by words line disk old is_work statuses ended = λ taken waits work asks.
      subst (λ (s : Bool). Ended start other d e s work input was is result disk old) statuses
      (subst (λ (w : Work (List ℕ)). Ended start other d e line.statuses w input was is result disk old)
      (same_work (texts_in line.work) work (sym is_work ∙ asks)) ended)

  -- the same words, and the same status
  pub ended_as : (told words : List (List ℕ)) (came_to : ℕ) (disk : Option (FileDisk S start))
      (old : Option (FileDisk T other)) → told ≡ words → result ≡ came_to
      → EndedBy start other d e told input was is came_to disk old
      → EndedBy start other d e words input was is result disk old
  ended_as told words came_to disk old same is_so ended =
      subst (λ (w : List (List ℕ)). EndedBy start other d e w input was is result disk old) same
      (subst (λ (n : ℕ). EndedBy start other d e told input was is n disk old) (sym is_so) ended)

  refused_as : (statuses : Bool) → result ≡ 1 → EndsAs statuses 1 result
  refused_as statuses one = record {
    same = λ _. one;
    few = λ _. omega (arith, one);
    range = λ _. inl one;
  }

  -- whatever was asked was refused, and no file was opened
  pub refused : (statuses : Bool) (work : Work (List ℕ)) → result ≡ 1
      → Ended start other d e statuses work input was is result None None
  refused statuses work one = record {
    status = 1;
    ends = refused_as statuses one;
    done = nothing_done start other d e work _ 1 refl;
  }

  -- the same of what these words ask for
  pub refused_by : (words : List (List ℕ)) → result ≡ 1
      → EndedBy start other d e words input was is result None None
  refused_by words one = λ taken waits work asks. refused (asks_statuses words) work one
