-- A group of requests is served as one of commands.
use Rattle.std.proofs.Common.{◌≡◌, ℕ, ◌+◌, ◌<◌, Bool, List, [], ◌∷◌, map, length, take, if◌then◌else◌, sym, refl, ap}
use Rattle.std.proofs.Common.{◌∙◌, subst, inl, inr, ⊎_elim}
use Rattle.im_types.specs.Types.{Request, Command, Asks, Served, Refusal, Device, Failed, Contents, as_served}
use Rattle.im_types.specs.Types.{reached_by_one, Reached}
use Rattle.im_laws.proofs.GroupLemmas.{counted-one, puts-counted, puts-room}
use Rattle.{im_laws.specs.Groups.IsCounted, im_journal.specs.Holding.room_after, im_memory.specs.Covering.most_pages}
use Rattle.{im_groups.specs.Ahead.ServesPrefix, im_checkpoint.specs.Turns.AddsAtMost}
use Rattle.im_groups.proofs.RequestLemmas.{answers_by, contents_by, one_contents, one_places, places_of, put_takes}
use Rattle.im_groups.proofs.RequestLemmas.{puts_by}
use Rattle.im_groups.specs.Commands.{contents_with, most_pages_at, most_pages_with}
use Rattle.im_engine.proofs.Members.{length_map, requests_whole, take_whole}
use Rattle.im_engine.specs.Commands.{after_commands, answers_in_turn, commands_put, CommandsAnswered, each_refused}
use Rattle.im_engine.specs.Groups.{after_group, all_refused, answers_in, group_put, GroupAnswered, most_pages_in}
use Rattle.im_engine.specs.Groups.{reached_in}
use Rattle.im_engine.specs.State.{EngineState, MeansEither, MeansState}

-- all of them are served
pub all_served : (m : Contents) (put cs : List Command) (rs : List Request) (many : ℕ) → cs ≡ map Asks rs
    → ServesPrefix m put cs many → take many cs ≡ map Asks rs
all_served m put cs rs many is it =
    ap (take many) is
    ∙ take_whole (map Asks rs) many
    (requests_whole m put rs many (subst (λ (l : List Command). ServesPrefix m put l many) is it) ∙ sym (length_map rs))

refused_each : (refusal : Refusal) (rs : List Request) → each_refused refusal (map Asks rs) ≡ all_refused refusal rs
refused_each refusal [] = refl
refused_each refusal (r ∷ rs) = ap (λ (l : List Served). Served.Refused refusal ∷ l) (refused_each refusal rs)

-- the most pages on which they may change a record
most_pages_by : (s : Reached) (rs : List Request) → IsCounted s
    → most_pages_in s rs ≡ most_pages_with s.contents (places_of s) (map Asks rs)
most_pages_by s [] it = refl
most_pages_by s (r ∷ rs) it =
    ap (λ (b : Bool). (if b then most_pages s.contents (Asks r) else 0) + most_pages_in (reached_by_one s r) rs)
    (put_takes s r it)
    ∙ ap (λ (n : ℕ). most_pages_at s.contents (places_of s) (Asks r) + n)
    (most_pages_by (reached_by_one s r) rs (counted-one s r it)
    ∙ ap (λ (m : Contents). most_pages_with m (places_of (reached_by_one s r)) (map Asks rs)) (one_contents s r it)
    ∙ ap (λ (n : ℕ). most_pages_with (contents_with s.contents (places_of s) (Asks r)) n (map Asks rs))
    (one_places s r it))

module _ {D : Type 0} (old : EngineState D) (rs : List Request) (counted : IsCounted (reached_in old)) where
  pub put_is : commands_put old (map Asks rs) ≡ group_put old rs
  put_is = sym (puts_by (reached_in old) rs counted)

  after_is : after_commands old (map Asks rs) ≡ after_group old rs
  after_is =
      let memory = sym (contents_by (reached_in old) rs counted) in
      let count = ap (λ (l : List Command). old.count + length l) put_is ∙ sym (puts-counted (reached_in old) rs) in
      let room = ap (λ (l : List Command). room_after old.count (length l) old.room) put_is
      ∙ sym (puts-room (reached_in old) rs counted) in
      (λ i. record old { memory = memory i; count = count i; room = room i; ahead = [] })

  answers_are : answers_in_turn old (map Asks rs) ≡ answers_in old rs
  answers_are = ap (map as_served) (sym (answers_by (reached_in old) rs counted))

  -- what a file means
  pub means_requests : (file : List ℕ) → MeansEither old (after_commands old (map Asks rs)) file
      → MeansEither old (after_group old rs) file
  means_requests file (inl before) = inl before
  means_requests file (inr behind) = inr (subst (λ (s : EngineState D). MeansState s file) after_is behind)

  -- what is answered
  pub requests_answered : (answers : List Served) (new : EngineState D) → CommandsAnswered old (map Asks rs) answers new
      → GroupAnswered old rs answers new
  requests_answered answers new it = record {
    dead = λ e. ((it.dead e).0 ∙ refused_each Failed rs, (it.dead e).1);
    none = λ e none. let same = it.none e (put_is ∙ none) in (same.0 ∙ answers_are, same.1);
    put = λ e some. ⊎_elim
        (λ done. inl (
          done.0 ∙ answers_are,
          done.1 ∙ ap (λ (s : EngineState D). record s { disk = new.disk; pages = new.pages }) after_is,
        ))
        (λ lost. inr (lost.0 ∙ refused_each Device rs, lost.1))
        (it.put e (subst (λ (l : List Command). 0 < length l) (sym put_is) some));
    pages = λ e works. subst (λ (n : ℕ). AddsAtMost n old.pages new.pages)
        (sym (most_pages_by (reached_in old) rs counted)) (it.pages e works);
  }
