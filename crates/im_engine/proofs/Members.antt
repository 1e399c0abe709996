-- The members of a group: how they act, and requests as commands.
use Rattle.std.proofs.Common.{◌≡◌, ℕ, zero, suc, ◌+◌, ◌-◌, ◌<◌, ◌≤◌, Bool, true, false, ◌&&◌, ◌↔◌, List, [], ◌∷◌, ◌++◌}
use Rattle.std.proofs.Common.{map, length, get_or, take, drop, if◌then◌else◌, OnOk, IsOk, nat_lt, ◌==◌, slice_get, Some}
use Rattle.std.proofs.Common.{Ok, Err, Result, sym, refl, ap, ◌∙◌, subst, append_assoc, arith, length-take-le}
use Rattle.std.proofs.{lemmas.Bool.Decides.nat_tests, Math.Seq.drop-cons}
use Rattle.im_types.specs.Types.{Request, Command, Outcome, Asks, Served, Refusal, JournalFull, LAST, Contents, step}
use Rattle.im_types.specs.Types.{is_accepted, as_served, is_put, reached_by_one, puts_of, Reached}
use Rattle.im_laws.proofs.MemoryLemmas.{step-cell_count, step-window_count}
use Rattle.{im_laws.proofs.Tests.and_both, im_laws.proofs.Tests.true_false, im_memory.specs.Covering.most_pages}
use Rattle.{im_image.specs.Reading.HasSizes, im_checkpoint.specs.Step.CheckpointState}
use Rattle.im_journal.specs.Holding.{IsJournal, JournalState, longer, room_after}
use Rattle.im_groups.proofs.{AheadLemmas.accepted_first, WholeLemmas.whole-commands, WholeLemmas.whole-takes}
use Rattle.im_groups.specs.Ahead.{AreAccepted, ServesPrefix}
use Rattle.im_groups.specs.Commands.{answer_with, answers_with, commands_at, contents_after_all, contents_with}
use Rattle.im_groups.specs.Commands.{most_pages_at, places_behind, takes_at, takes_place}
use Rattle.im_engine.specs.Commands.{each_refused}

-- a list goes on by what comes of the next element
pub told_next : {A X : Type 0} (f : List A → List X) (g : A → X) (h : List A → List X) (xs : List X) (rs : List A)
    (i : ℕ) (d : A) (a : X)
    → ((r : A) (l : List A) → f (r ∷ l) ≡ g r ∷ h l) → i < length rs → a ≡ g (get_or rs i d)
    → (xs ++ a ∷ []) ++ h (drop (i + 1) rs) ≡ xs ++ f (drop i rs)
told_next f g h xs rs i d a is_cons within is =
    let next : i + 1 ≡ suc i = omega arith in
    append_assoc xs (a ∷ []) (h (drop (i + 1) rs))
    ∙ ap (λ b. xs ++ b ∷ h (drop (i + 1) rs)) is
    ∙ ap (λ l. xs ++ l) (sym (is_cons (get_or rs i d) (drop (i + 1) rs)))
    ∙ ap (λ n. xs ++ f (get_or rs i d ∷ drop n rs)) next
    ∙ ap (λ l. xs ++ f l) (sym (drop-cons rs i d within))

-- what is put into a list with room for it, where there was nothing
pub put_all : {T E X : Type 0} (r : Result T E) (old new added : List X) (room : Type 0) → (IsOk r ↔ room) → room
    → OnOk r (new ≡ old ++ added) → old ≡ [] → new ≡ added
put_all (Ok x) old new added room is fits ok none = ok ∙ ap (λ l. l ++ added) none
put_all (Err e) old new added room is fits ok none = absurd (true_false (sym (is.1 fits)))

-- a member that isn't accepted is answered by the step
pub answer_unaccepted : (m : Contents) (left : ℕ) (c : Command) → is_accepted m c ≡ false
    → answer_with m left c ≡ (step m c).answer
answer_unaccepted m left c un = ap
    (λ (b : Bool). if b && (left == 0) then Err JournalFull else (step m c).answer) un

-- a member that takes a place is answered by the step, and acts
pub taken_parts : (m : Contents) (left : ℕ) (c : Command) → takes_place m left c ≡ true
    → (is_accepted m c ≡ true) × (nat_lt 0 left ≡ true)
taken_parts m left c taken = and_both (is_accepted m c) (nat_lt 0 left) taken

some_left : (left : ℕ) → nat_lt 0 left ≡ true → (left == 0) ≡ false
some_left left some = grind (arith, nat_tests)

none_left : (left : ℕ) → nat_lt 0 left ≡ false → (left == 0) ≡ true
none_left left none = grind (arith, nat_tests)

second_fails : (a b : Bool) → a ≡ true → (a && b) ≡ false → b ≡ false
second_fails true b p q = q
second_fails false b p q = absurd (cc)

no_second : (a b : Bool) → b ≡ false → (a && b) ≡ false
no_second true b q = q
no_second false b q = refl

pub answer_taken : (m : Contents) (left : ℕ) (c : Command) → takes_place m left c ≡ true
    → (step m c).answer ≡ answer_with m left c
answer_taken m left c taken = sym (ap (λ (b : Bool). if b then Err JournalFull else (step m c).answer)
    (no_second (is_accepted m c) (left == 0) (some_left left (taken_parts m left c taken).1)))

pub contents_taken : (m : Contents) (left : ℕ) (c : Command) → takes_place m left c ≡ true
    → (step m c).contents ≡ contents_with m left c
contents_taken m left c taken = sym (ap (λ (b : Bool). if b then (step m c).contents else m) taken)

pub left_taken : (m : Contents) (left : ℕ) (c : Command) → takes_place m left c ≡ true → left - 1
    ≡ places_behind m left c
left_taken m left c taken = sym (ap (λ (b : Bool). if b then left - 1 else left) taken)

pub pages_taken : (m : Contents) (left : ℕ) (c : Command) → takes_place m left c ≡ true → most_pages m c
    ≡ most_pages_at m left c
pages_taken m left c taken = sym (ap (λ (b : Bool). if b then most_pages m c else 0) taken)

-- one that takes none and is accepted finds no place
pub answer_full : (m : Contents) (left : ℕ) (c : Command) → takes_place m left c ≡ false → is_accepted m c ≡ true
    → Err JournalFull ≡ answer_with m left c
answer_full m left c none accepted = sym (ap (λ (b : Bool). if b then Err JournalFull else (step m c).answer)
    (ap (λ (a : Bool). a && (left == 0)) accepted
    ∙ none_left left (second_fails (is_accepted m c) (nat_lt 0 left) accepted none)))

-- and changes nothing
pub contents_none : (m : Contents) (left : ℕ) (c : Command) → takes_place m left c ≡ false → m
    ≡ contents_with m left c
contents_none m left c none = sym (ap (λ (b : Bool). if b then (step m c).contents else m) none)

pub left_none : (m : Contents) (left : ℕ) (c : Command) → takes_place m left c ≡ false → left
    ≡ places_behind m left c
left_none m left c none = sym (ap (λ (b : Bool). if b then left - 1 else left) none)

pub pages_none : (m : Contents) (left : ℕ) (c : Command) → takes_place m left c ≡ false → 0
    ≡ most_pages_at m left c
pages_none m left c none = sym (ap (λ (b : Bool). if b then most_pages m c else 0) none)

-- the sizes of a memory stay
pub sizes_after : (s t : CheckpointState) (m n : Contents) (command : Command) → t ≡ s → n
    ≡ (step m command).contents → HasSizes s.header.sizes m → HasSizes t.header.sizes n
sizes_after s t m n command same is it = record {
  cells = ap (λ (x : Contents). length x.cells) is ∙ step-cell_count m command ∙ it.cells
      ∙ ap (λ (x : CheckpointState). x.header.sizes.cells) (sym same);
  elements = ap (λ (x : Contents). length x.windows) is ∙ step-window_count m command ∙ it.elements
      ∙ ap (λ (x : CheckpointState). x.header.sizes.elements) (sym same);
}

pub puts_few : (s : Reached) (rs : List Request) → length (puts_of s rs) ≤ length rs
puts_few s [] = omega arith
puts_few s (r ∷ rs) = by_test (is_put s r) (puts_few (reached_by_one s r) rs)
  where
    by_test : (b : Bool) → length (puts_of (reached_by_one s r) rs) ≤ length rs
        → length ((if b then Asks r ∷ [] else []) ++ puts_of (reached_by_one s r) rs) ≤ length (r ∷ rs)
    by_test true less = omega (arith, less)
    by_test false less = omega (arith, less)

-- a journal with no command more is as it was
pub longer_none : (j : JournalState) → IsJournal j → longer 0 j ≡ j
longer_none j it =
    let count : j.count + 0 ≡ j.count = omega arith in
    let room : room_after j.count 0 j.room ≡ j.room = by_test (j.count + 0 == LAST) refl in
    (λ i. record { ring = j.ring; first = j.first; count = count i; room = room i; ahead = j.ahead })
  where
    by_test : (b : Bool) → (j.count + 0 == LAST) ≡ b → (if b then 0 else j.room - 0) ≡ j.room
    by_test true e = let last : j.count ≡ LAST = grind (arith, nat_tests) in sym (it.full_at_last last)
    by_test false e = omega arith

-- the members go on by one
pub answers_next : (m : Contents) (left : ℕ) (xs : List Served) (cs : List Command) (i : ℕ) (d : Command)
    (a : Result Outcome Refusal) (m2 : Contents) (left2 : ℕ) → i < length cs
    → a ≡ answer_with m left (get_or cs i d) → m2 ≡ contents_with m left (get_or cs i d) → left2
    ≡ places_behind m left (get_or cs i d)
    → (xs ++ as_served a ∷ []) ++ map as_served (answers_with m2 left2 (drop (i + 1) cs))
    ≡ xs ++ map as_served (answers_with m left (drop i cs))
answers_next m left xs cs i d a m2 left2 within answer contents less =
    let c : Command = get_or cs i d in
    let next : i + 1 ≡ suc i = omega arith in
    append_assoc xs (as_served a ∷ []) (map as_served (answers_with m2 left2 (drop (i + 1) cs)))
    ∙ ap (λ (b : Result Outcome Refusal). xs ++ as_served b ∷ map as_served
    (answers_with m2 left2 (drop (i + 1) cs))) answer
    ∙ ap (λ (n : Contents). xs ++ as_served (answer_with m left c) ∷ map as_served
    (answers_with n left2 (drop (i + 1) cs))) contents
    ∙ ap (λ (n : ℕ). xs ++ as_served (answer_with m left c) ∷ map as_served
    (answers_with (contents_with m left c) n (drop (i + 1) cs))) less
    ∙ ap (λ (n : ℕ). xs ++ map as_served (answers_with m left (c ∷ drop n cs))) next
    ∙ ap (λ (l : List Command). xs ++ map as_served (answers_with m left l)) (sym (drop-cons cs i d within))

pub contents_next : (m : Contents) (left : ℕ) (cs : List Command) (i : ℕ) (d : Command) (m2 : Contents) (left2 : ℕ)
    → i < length cs
    → m2 ≡ contents_with m left (get_or cs i d) → left2 ≡ places_behind m left (get_or cs i d)
    → contents_after_all m2 left2 (drop (i + 1) cs) ≡ contents_after_all m left (drop i cs)
contents_next m left cs i d m2 left2 within contents less =
    let next : i + 1 ≡ suc i = omega arith in
    ap (λ (n : Contents). contents_after_all n left2 (drop (i + 1) cs)) contents
    ∙ ap (λ (n : ℕ). contents_after_all (contents_with m left (get_or cs i d)) n (drop (i + 1) cs)) less
    ∙ ap (λ (n : ℕ). contents_after_all m left (get_or cs i d ∷ drop n cs)) next
    ∙ ap (λ (l : List Command). contents_after_all m left l) (sym (drop-cons cs i d within))

some_taken : (m : Contents) (left : ℕ) (cs : List Command) (i : ℕ) → i < length cs
    → ◌≡◌ {A = List Bool} [] (takes_at m left (drop i cs)) → ⊥
some_taken m left [] i within are = absurd (omega (arith, within))
some_taken m left (c ∷ cs) zero within are = cc
some_taken m left (c ∷ cs) (suc i) within are = some_taken m left cs i (omega (arith, within)) are

-- whether the members that are left take a place: the first of them
pub taken_first : (m : Contents) (left : ℕ) (cs : List Command) (ts : List Bool) (i : ℕ) (d : Command) (e : Bool)
    → i < length cs → drop i ts ≡ takes_at m left (drop i cs) → get_or ts i e ≡ takes_place m left (get_or cs i d)
taken_first m left [] ts i d e within are = absurd (omega (arith, within))
taken_first m left (c ∷ cs) [] zero d e within are = absurd (cc)
taken_first m left (c ∷ cs) [] (suc i) d e within are = absurd (some_taken m left cs i (omega (arith, within)) are)
taken_first m left (c ∷ cs) (t ∷ ts) zero d e within are = cc
taken_first m left (c ∷ cs) (t ∷ ts) (suc i) d e within are = taken_first m left cs ts i d e
    (omega (arith, within)) are

later_same : (t : Bool) (ts : List Bool) (us : List Bool) (u : Bool) → ◌≡◌ {A = List Bool} (t ∷ ts) (u ∷ us)
    → ts ≡ us
later_same t ts us u e = cc

-- and the rest
pub taken_next : (m : Contents) (left : ℕ) (cs : List Command) (ts : List Bool) (i : ℕ) (d : Command) (m2 : Contents)
    (left2 : ℕ) → i < length cs → drop i ts ≡ takes_at m left (drop i cs) → m2 ≡ contents_with m left (get_or cs i d)
    → left2 ≡ places_behind m left (get_or cs i d) → drop (i + 1) ts ≡ takes_at m2 left2 (drop (i + 1) cs)
taken_next m left [] ts i d m2 left2 within are contents less = absurd (omega (arith, within))
taken_next m left (c ∷ cs) [] zero d m2 left2 within are contents less = absurd (cc)
taken_next m left (c ∷ cs) [] (suc i) d m2 left2 within are contents less = absurd
    (some_taken m left cs i (omega (arith, within)) are)
taken_next m left (c ∷ cs) (t ∷ ts) zero d m2 left2 within are contents less =
    later_same t ts (takes_at (contents_with m left c) (places_behind m left c) cs) (takes_place m left c) are
    ∙ ap (λ (n : Contents). takes_at n (places_behind m left c) cs) (sym contents)
    ∙ ap (λ (n : ℕ). takes_at m2 n cs) (sym less)
taken_next m left (c ∷ cs) (t ∷ ts) (suc i) d m2 left2 within are contents less =
    let next : suc i + 1 ≡ suc (i + 1) = omega arith in
    ap (λ (n : ℕ). drop n (t ∷ ts)) next
    ∙ taken_next m left cs ts i d m2 left2 (omega (arith, within)) are contents less
    ∙ ap (λ (n : ℕ). takes_at m2 left2 (drop n (c ∷ cs))) (sym next)

-- members that are all accepted, with places for them: the first of those that are left
accepted_parts : (m : Contents) (cs : List Command) (i : ℕ) (d : Command) → i < length cs
    → AreAccepted m (drop i cs) → (is_accepted m (get_or cs i d) ≡ true)
    × AreAccepted (step m (get_or cs i d)).contents (drop (i + 1) cs)
accepted_parts m cs i d within accepted =
    let next : suc i ≡ i + 1 = omega arith in
    accepted_first m (get_or cs i d) (drop (i + 1) cs)
    (subst (λ (n : ℕ). AreAccepted m (get_or cs i d ∷ drop n cs)) next
    (subst (λ (l : List Command). AreAccepted m l) (drop-cons cs i d within) accepted))

pub whole_first : (m : Contents) (left : ℕ) (cs : List Command) (i : ℕ) (d : Command) → i < length cs
    → AreAccepted m (drop i cs) → length cs ≤ left + i → takes_place m left (get_or cs i d) ≡ true
whole_first m left cs i d within accepted enough = whole-takes m left (get_or cs i d)
    (accepted_parts m cs i d within accepted).0 (omega (arith, within, enough))

-- and the rest
pub whole_next : (m : Contents) (left : ℕ) (cs : List Command) (i : ℕ) (d : Command) (m2 : Contents) → i < length cs
    → AreAccepted m (drop i cs) → length cs ≤ left + i → m2 ≡ contents_with m left (get_or cs i d)
    → AreAccepted m2 (drop (i + 1) cs)
whole_next m left cs i d m2 within accepted enough contents =
    subst (λ (n : Contents). AreAccepted n (drop (i + 1) cs))
    (contents_taken m left (get_or cs i d) (whole_first m left cs i d within accepted enough) ∙ sym contents)
    (accepted_parts m cs i d within accepted).1

-- a beginning of the members that is served whole
pub whole_served : (ms items : List Command) (judged many : ℕ) → ms ≡ items → judged ≤ length ms
    → many ≡ length (take judged ms) → take judged ms ≡ take many items
whole_served ms items judged many same within is =
    ap (take judged) same ∙ ap (λ (n : ℕ). take n items) (sym (is ∙ length-take-le judged ms within))

pub whole_begins : (m : Contents) (left : ℕ) (ms items : List Command) (judged many : ℕ) → ms ≡ items
    → AreAccepted m (take judged ms) → judged ≤ left → ServesPrefix m (take judged ms) ms judged
    → many ≡ length (take judged ms) → ServesPrefix m (commands_at m left (take many items)) items many
whole_begins m left ms items judged many same accepted enough it is =
    let all : length (take judged ms) ≡ judged = length-take-le judged ms it.within in
    subst (λ (l : List Command). ServesPrefix m (commands_at m left (take many l)) l many) same
    (subst (λ (n : ℕ). ServesPrefix m (commands_at m left (take n ms)) ms n) (sym (is ∙ all))
    (subst (λ (l : List Command). ServesPrefix m l ms judged)
    (sym (whole-commands m left (take judged ms) accepted (omega (arith, all, enough)))) it))

pub length_taken : (m : Contents) (left : ℕ) (cs : List Command) → length (takes_at m left cs) ≡ length cs
length_taken m left [] = refl
length_taken m left (c ∷ cs) = ap suc (length_taken (contents_with m left c) (places_behind m left c) cs)

pub length_map : (rs : List Request) → length (map Asks rs) ≡ length rs
length_map [] = refl
length_map (r ∷ rs) = ap suc (length_map rs)

at_end : (rs : List Request) (many : ℕ) → ((r : Request) → slice_get (map Asks rs) many ≡ Some (Asks r) → ⊥)
    → many ≤ length rs → many ≡ length rs
at_end [] many none within = omega (arith, within)
at_end (r ∷ rs) zero none within = absurd (none r refl)
at_end (r ∷ rs) (suc many) none within = ap suc (at_end rs many none (omega (arith, within)))

-- a group of requests is judged whole
pub requests_whole : (m : Contents) (put : List Command) (rs : List Request) (many : ℕ) → ServesPrefix m put (map
    Asks rs) many
    → many ≡ length rs
requests_whole m put rs many it = at_end rs many
    (λ r is. it.stops (Asks r) is) (omega (arith, it.within, length_map rs))

pub take_whole : {X : Type 0} (xs : List X) (many : ℕ) → many ≡ length xs → take many xs ≡ xs
take_whole [] zero e = refl
take_whole [] (suc many) e = refl
take_whole (x ∷ xs) zero e = absurd (omega (arith, e))
take_whole (x ∷ xs) (suc many) e = ap (λ l. x ∷ l) (take_whole xs many (omega (arith, e)))

-- there is an answer for each member
pub length_refused : (refusal : Refusal) (cs : List Command) → length (each_refused refusal cs) ≡ length cs
length_refused refusal [] = refl
length_refused refusal (c ∷ cs) = ap suc (length_refused refusal cs)

pub length_answers : (m : Contents) (left : ℕ) (cs : List Command) → length (map as_served (answers_with m left cs))
    ≡ length cs
length_answers m left [] = refl
length_answers m left (c ∷ cs) = ap suc (length_answers (contents_with m left c) (places_behind m left c) cs)
