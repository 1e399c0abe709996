-- What was said by a group that was told.
use Rattle.std.proofs.Common.{◌≡◌, ℕ, zero, suc, ◌+◌, ◌<◌, ◌≤◌, max, Bool, true, false, List, [], ◌∷◌, ◌++◌, map}
use Rattle.std.proofs.Common.{length, get_or, drop, IfSome, IfOk, OnOk, ◌==◌, Some, None, Ok, Err, Option, Result, sym}
use Rattle.std.proofs.Common.{refl, ap, ◌∙◌, subst, inl, inr, append_assoc, append-nil, arith, length-append}
use Rattle.std.proofs.{lemmas.Bool.Decides.nat_tests, lemmas.List.map-append, Math.Seq.drop-cons}
use Rattle.im_types.specs.Types.{Command, Outcome, Served, Refusal, LAST, Contents, as_served}
use Rattle.im_groups.proofs.{CommandLemmas.left_behind as places_left, EnoughLemmas.at_most_members}
use Rattle.im_groups.specs.Commands.{answer_with, answers_with, contents_with, places, places_behind}
use Rattle.{im_turning.specs.Turning.IsSpent, im_session.specs.Serving.served_answer}
use Rattle.im_front.specs.declared.{AskedCommand.AskedCommand, ToldAnswer.ToldAnswer}
use Rattle.im_front.specs.Lists.{answers_told, asks_told, commands_told}
use Rattle.im_dialogue.proofs.GroupTalk.{left_and_put, told_member, told_none}
use Rattle.im_dialogue.proofs.{ReachLemmas.contents_behind, TalkLemmas.Left}
use Rattle.im_dialogue.specs.{Answers.answer_text, Answers.served_line, declared.asking.Question.Question}
use Rattle.im_dialogue.specs.{Serving.behind_asked, Telling.SaysAll, Watching.told_with}
use Rattle.im_dialogue.specs.declared.answers.LineAnswer.{LineAnswer, TheVariants.Served as ServedAs}
use Rattle.im_dialogue.specs.Hearing.{asking, Hears, left_behind, until_quit}
use Rattle.im_dialogue.specs.Together.{answer_told, AreAsked, AreLinesOf, first_text, FitInto, GroupStart, GroupTold}
use Rattle.im_dialogue.specs.Together.{later_texts, memory_between, places_between, point_between, questions_asked}
use Rattle.im_dialogue.specs.Together.{TellWatchers}
use Rattle.im_dialogue.specs.declared.asking.Question.TheVariants as asks

member_answered : (s : Served) (a : Result Outcome Refusal) → s ≡ as_served a → served_answer s ≡ a
member_answered s (Ok outcome) is = ap served_answer is
member_answered s (Err refusal) is = ap served_answer is

none_more : (n : ℕ) → n ≡ 0 + n
none_more n = omega arith

module _ (watch : Bool) (b : GroupStart) where
  -- no place is left behind members only where no turn makes any
  full_here : (ahead : List Command) (n : ℕ) → FitInto b (length ahead + suc n) → places_between b ahead ≡ 0
      → ((point_between b ahead).room ≡ 0) × IsSpent (point_between b ahead)
  full_here ahead n (inl few) none =
      let put = at_most_members b.memory b.places ahead in
      let all = left_and_put b.memory b.places ahead in
      absurd (omega (arith, put, all, few, none))
  full_here [] n (inr (one, spent)) none = spent
  full_here (c ∷ ahead) n (inr (one, spent)) none = absurd (omega (arith, one))

  -- behind these members, which were told so
  says_from : (told : List ToldAnswer) (ahead : List Command) (nows : List (List ℕ)) (before text : List ℕ)
      (qs : List (Option Question)) → SaysAll watch b ahead before qs → AreAsked (asks_told told)
      → answers_told told ≡ map as_served (answers_with (memory_between b ahead) (places_between b ahead)
      (commands_told told))
      → FitInto b (length ahead + length told) → TellWatchers watch b ahead (commands_told told) nows
      → AreLinesOf told nows text
      → SaysAll watch b (ahead ++ commands_told told) (before ++ text) (qs ++ questions_asked (asks_told told))
  says_from [] ahead nows before text qs says asked are fit watched none =
      subst (λ (l : List Command). SaysAll watch b l (before ++ text) (qs ++ [])) (sym (append-nil ahead))
      (subst (λ (l : List (Option Question)). SaysAll watch b ahead (before ++ text) l) (sym (append-nil qs))
      (subst (λ (l : List ℕ). SaysAll watch b ahead l qs)
      (sym (ap (λ (l : List ℕ). before ++ l) none ∙ append-nil before)) says))
  says_from (t ∷ told) ahead nows before text qs says asked are fit watched (name, rest, is, more) =
      subst (λ (l : List Command). SaysAll watch b l (before ++ text) (qs ++ (Some (asks.Serve c) ∷ others)))
      (append_assoc ahead (c ∷ []) (commands_told told))
      (subst (λ (l : List (Option Question)). SaysAll watch b ((ahead ++ c ∷ []) ++ commands_told told)
      (before ++ text) l) (append_assoc qs (Some (asks.Serve c) ∷ []) others)
      (subst (λ (l : List ℕ). SaysAll watch b ((ahead ++ c ∷ []) ++ commands_told told) l
      ((qs ++ Some (asks.Serve c) ∷ []) ++ others))
      (append_assoc before line rest ∙ sym (ap (λ (l : List ℕ). before ++ l) is))
      (says_from told (ahead ++ c ∷ []) (later_texts nows) (before ++ line) rest (qs ++ Some (asks.Serve c) ∷ []) said
      asked.1 later (subst (FitInto b) next fit) watched.1 more)))
    where
      c : Command
      c = t.asked.command

      others : List (Option Question)
      others = questions_asked (asks_told told)

      a : Result Outcome Refusal
      a = answer_with (memory_between b ahead) (places_between b ahead) c

      behind : List (Result Outcome Refusal)
      behind = answers_with (contents_with (memory_between b ahead) (places_between b ahead) c)
          (places_behind (memory_between b ahead) (places_between b ahead) c) (commands_told told)

      here : t.served ∷ answers_told told ≡ as_served a ∷ map as_served behind
      here = are

      head : t.served ≡ as_served a
      head = cc

      tail : answers_told told ≡ map as_served behind
      tail = cc

      result : served_answer t.served ≡ a
      result = member_answered t.served a head

      line : List ℕ
      line = served_line name c (served_answer t.served) ++ told_with (answer_told t) (first_text nows)

      said : SaysAll watch b (ahead ++ c ∷ []) (before ++ line) (qs ++ Some (asks.Serve c) ∷ [])
      said = told_member watch b ahead before qs says asked.0.0 name c asked.0.1 (full_here ahead (length told) fit)
          (before ++ line)
          (ap (λ (r : Result Outcome Refusal). before
          ++ (served_line name c r ++ told_with (ServedAs c r) (first_text nows))) result
          ∙ ap (λ (l : List ℕ). before ++ (served_line name c a ++ l)) (watched.0 a refl))

      later : answers_told told ≡ map as_served (answers_with (memory_between b (ahead ++ c ∷ []))
          (places_between b (ahead ++ c ∷ [])) (commands_told told))
      later = tail
          ∙ ap (λ m. map as_served (answers_with m (places_behind (memory_between b ahead) (places_between b ahead) c)
          (commands_told told))) (sym (contents_behind b.memory b.places ahead c))
          ∙ ap (λ (k : ℕ). map as_served (answers_with (memory_between b (ahead ++ c ∷ [])) k (commands_told told)))
          (sym (places_left b.memory b.places ahead c))

      next : length ahead + suc (length told) ≡ length (ahead ++ c ∷ []) + length told
      next = omega (arith, length-append ahead (c ∷ []))

  -- what was told was said
  pub says_told : (told : List ToldAnswer) (nows : List (List ℕ)) (text : List ℕ) → GroupTold watch b told nows
      → AreLinesOf told nows text → SaysAll watch b (commands_told told) text (questions_asked (asks_told told))
  says_told told nows text was lines =
      says_from told [] nows [] text [] (told_none watch b) was.asked was.answers
      (subst (FitInto b) (none_more (length told)) was.room) was.watched lines

-- there are such lines
pub lines_exist : (told : List ToldAnswer) (nows : List (List ℕ)) → (text : List ℕ) × AreLinesOf told nows text
lines_exist [] nows = ([], refl)
lines_exist (t ∷ told) nows = let rest = lines_exist told (later_texts nows) in
    (_, ([], rest.0, refl, rest.1))

-- ---- how many fit

-- as many as there were places for, or one
pub fits_told : (b : GroupStart) (count room n : ℕ) → b.places ≡ places count room → b.point.room ≡ room
    → n ≤ max 1 (places count room) → count ≤ LAST → (count ≡ LAST → room ≡ 0) → (room ≡ 0 → IsSpent b.point)
    → FitInto b n
fits_told b count room n same there few within last spent = by_test (places count room == 0) refl
  where
    by_test : (t : Bool) → (places count room == 0) ≡ t → FitInto b n
    by_test false is =
        let some : 1 ≤ places count room = grind (arith, nat_tests, is) in inl (omega (arith, few, some, same))
    by_test true is =
        let none : places count room ≡ 0 = grind (arith, nat_tests, is) in
        let empty = no_room (room == 0) refl none in
        inr (omega (arith, few, none), (there ∙ empty, spent empty))
      where
        no_room : (z : Bool) → (room == 0) ≡ z → places count room ≡ 0 → room ≡ 0
        no_room true e none = grind (arith, nat_tests, e)
        no_room false e none =
            let some : 0 < room = grind (arith, nat_tests, e) in
            last (omega (arith, some, none, within))

-- ---- what is still asked

pub asked_split : (first others : List AskedCommand) → AreAsked (first ++ others) → AreAsked first × AreAsked others
asked_split [] others are = (tt, are)
asked_split (a ∷ first) others are = let rest = asked_split first others are.1 in ((are.0, rest.0), rest.1)

pub asked_more : (first : List AskedCommand) (a : AskedCommand) → AreAsked first → AreAsked (a ∷ [])
    → AreAsked (first ++ a ∷ [])
asked_more [] a are is = is
asked_more (x ∷ first) a are is = (are.0, asked_more first a are.1 is)

-- what was told was asked before all else
pub hears_told : (first others all : List AskedCommand) (left : Left) → all ≡ first ++ others
    → Hears (behind_asked all left) (behind_asked others left) (questions_asked first)
hears_told first others all None is = tt
hears_told first others all (Some left) is =
    ap (λ (l : List AskedCommand). questions_asked l ++ left) is
    ∙ ap (λ (l : List (Option Question)). l ++ left)
    (map-append (λ (a : AskedCommand). Some (asks.Serve a.command)) first others)
    ∙ append_assoc (questions_asked first) (questions_asked others) left

-- a command more is asked
pub asks_more : (asked : List AskedCommand) (a : AskedCommand) (rest : Left)
    → IfSome (behind_asked asked (asking (Some (asks.Serve a.command)) rest))
    (λ l. behind_asked (asked ++ a ∷ []) (left_behind true rest) ≡ Some l)
asks_more asked a None = tt
asks_more asked a (Some others) = ap (λ (l : List (Option Question)). Some l)
    (ap (λ (l : List (Option Question)). l ++ until_quit others)
    (map-append (λ (x : AskedCommand). Some (asks.Serve x.command)) asked (a ∷ []))
    ∙ append_assoc (questions_asked asked) (Some (asks.Serve a.command) ∷ []) (until_quit others))

-- nothing is asked
pub hears_alone : (was is : List AskedCommand) (a b : Left) (xs : List (Option Question)) → was ≡ [] → is ≡ []
    → Hears a b xs → Hears (behind_asked was a) (behind_asked is b) xs
hears_alone was is a b xs none empty it =
    subst (λ (l : List AskedCommand). Hears (behind_asked l a) (behind_asked is b) xs) (sym none)
    (subst (λ (l : List AskedCommand). Hears (behind_asked [] a) (behind_asked l b) xs) (sym empty) (by_cases a b it))
  where
    by_cases : (a b : Left) → Hears a b xs → Hears (behind_asked [] a) (behind_asked [] b) xs
    by_cases None b it = tt
    by_cases (Some all) None it = absurd it
    by_cases (Some all) (Some left) it = it

pub same_behind : (asked : List AskedCommand) (a b : Left) → IfSome a (λ l. b ≡ Some l)
    → IfSome (behind_asked asked a) (λ l. behind_asked asked b ≡ Some l)
same_behind asked None b same = tt
same_behind asked (Some l) b same = ap (λ (o : Left). behind_asked asked o) same

pub same_alone : (asked : List AskedCommand) (a b : Left) → asked ≡ [] → IfSome a (λ l. b ≡ Some l)
    → IfSome (behind_asked asked a) (λ l. b ≡ Some l)
same_alone asked a b none same =
    subst (λ (l : List AskedCommand). IfSome (behind_asked l a) (λ k. b ≡ Some k)) (sym none) (by_case a b same)
  where
    by_case : (a b : Left) → IfSome a (λ l. b ≡ Some l) → IfSome (behind_asked [] a) (λ l. b ≡ Some l)
    by_case None b same = tt
    by_case (Some l) b same = same

-- ---- the lines, one after another

pub lines_next : (told : List ToldAnswer) (i : ℕ) (d : ToldAnswer) (m : Contents) (name : List ℕ) (given : LineAnswer)
    (nows later : List (List ℕ)) (now rest : List ℕ) → i < length told → later ≡ later_texts nows
    → now ≡ first_text nows → given ≡ answer_told (get_or told i d) → AreLinesOf (drop (i + 1) told) later rest
    → AreLinesOf (drop i told) nows ((answer_text name m given ++ told_with given now) ++ rest)
lines_next told i d m name given nows later now rest within later_is now_is given_is it =
    let next : suc i ≡ i + 1 = omega arith in
    let first : ToldAnswer = get_or told i d in
    subst (λ (l : List ToldAnswer). AreLinesOf l nows ((answer_text name m given ++ told_with given now) ++ rest))
    (sym (drop-cons told i d within)) (
      name,
      rest,
      ap (λ (a : LineAnswer). (answer_text name m a ++ told_with a now) ++ rest) given_is
          ∙ ap (λ (n : List ℕ). (answer_text name m (answer_told first) ++ told_with (answer_told first) n) ++ rest)
          now_is,
      subst (λ (n : ℕ). AreLinesOf (drop n told) (later_texts nows) rest) (sym next)
          (subst (λ (l : List (List ℕ)). AreLinesOf (drop (i + 1) told) l rest) later_is it),
    )

pub lines_end : (told : List ToldAnswer) (i : ℕ) (nows : List (List ℕ)) → length told ≤ i
    → AreLinesOf (drop i told) nows []
lines_end [] zero nows past = refl
lines_end [] (suc i) nows past = refl
lines_end (t ∷ told) zero nows past = absurd (omega (arith, past))
lines_end (t ∷ told) (suc i) nows past = lines_end told i nows (omega (arith, past))

-- ---- where nothing is asked

pub none_asked : (asked : List AskedCommand) → asked ≡ [] → AreAsked asked
none_asked asked none = subst AreAsked (sym none) tt

pub asked_if : {T E : Type 0} (r : Result T E) (asked : List AskedCommand) → OnOk r (asked ≡ [])
    → OnOk r (AreAsked asked)
asked_if (Ok x) asked none = none_asked asked none
asked_if (Err e) asked none = tt

pub few_if : {T E : Type 0} (r : Result T E) (asked : List AskedCommand) (most : ℕ) → 0 < most → OnOk r (asked ≡ [])
    → OnOk r (length asked < most)
few_if (Ok x) asked most some none =
    let same = ap (λ (l : List AskedCommand). length l) none in omega (arith, same, some)
few_if (Err e) asked most some none = tt

pub none_if : {E : Type 0} (r : Result Bool E) (asked : List AskedCommand) → OnOk r (asked ≡ [])
    → IfOk r (λ goes_on. goes_on ≡ false → asked ≡ [])
none_if (Ok x) asked none = λ ends. none
none_if (Err e) asked none = tt

pub never_if : {E : Type 0} (r : Result Bool E) (asked : List AskedCommand) → IfOk r (λ goes_on. goes_on ≡ true)
    → IfOk r (λ goes_on. goes_on ≡ false → asked ≡ [])
never_if (Ok x) asked goes = λ ends. let both : true ≡ false = sym goes ∙ ends in absurd (cc)
never_if (Err e) asked goes = tt
