-- Marks of the elements of commands.
use Rattle.std.proofs.Common.{◌≡◌, ℕ, zero, suc, ◌+◌, ◌<◌, Bool, true, false, List, [], ◌∷◌, ◌++◌, length, get_or, take}
use Rattle.std.proofs.Common.{set, if◌then◌else◌, ◌==◌, Ok, Err, Result, sym, refl, ap, ◌∙◌, subst, append_assoc}
use Rattle.std.proofs.lemmas.List.{take_more}
use Rattle.im_types.specs.Types.{Request, Command, Asks, Confirm, Refusal, Contents, bounds, is_accepted, after}
use Rattle.im_laws.proofs.Tests.{eq_by_test, true_false}
use Rattle.im_groups.proofs.AheadLemmas.{request-behind, request-judged, request-lost, request-nowhere}
use Rattle.im_groups.specs.Ahead.{AreAccepted, bounds_behind, bounds_behind_all, moved_by}
use Rattle.im_groups.specs.Marks.{element_behind, has_mark, HaveMarks}

-- ---- marking

here : (marks : List Bool) (i : ℕ) → has_mark (set marks i true) i ≡ true
here [] zero = refl
here [] (suc i) = refl
here (m ∷ marks) zero = refl
here (m ∷ marks) (suc i) = here marks i

stays : (marks : List Bool) (i x : ℕ) → has_mark marks x ≡ true → has_mark (set marks i true) x ≡ true
stays [] zero x it = refl
stays [] (suc i) x it = refl
stays (m ∷ marks) zero zero it = refl
stays (m ∷ marks) zero (suc x) it = it
stays (m ∷ marks) (suc i) zero it = it
stays (m ∷ marks) (suc i) (suc x) it = stays marks i x it

all_stay : (marks : List Bool) (i : ℕ) (cs : List Command) → HaveMarks marks cs → HaveMarks (set marks i true) cs
all_stay marks i [] it = tt
all_stay marks i (c ∷ cs) it = (stays marks i (element_behind c) it.0, all_stay marks i cs it.1)

pub with_more : (marks : List Bool) (cs ds : List Command) → HaveMarks marks cs → HaveMarks marks ds
    → HaveMarks marks (cs ++ ds)
with_more marks [] ds it more = more
with_more marks (c ∷ cs) ds it more = (it.0, with_more marks cs ds it.1 more)

marked_by : (marks : List Bool) (cs : List Command) (c : Command) (b : Bool) → HaveMarks marks cs
    → HaveMarks (set marks (element_behind c) true) (cs ++ (if b then c ∷ [] else []))
marked_by marks cs c true it = with_more (set marks (element_behind c) true) cs (c ∷ [])
    (all_stay marks (element_behind c) cs it) (here marks (element_behind c), tt)
marked_by marks cs c false it = with_more (set marks (element_behind c) true) cs []
    (all_stay marks (element_behind c) cs it) tt

pub none_marked : (marks : List Bool) (cs : List Command) → cs ≡ [] → HaveMarks marks cs
none_marked marks cs none = subst (λ (l : List Command). HaveMarks marks l) (sym none) tt

-- the elements of commands ahead, and of no others
pub group_marked : (marks : List Bool) (ahead cs : List Command) → HaveMarks marks ahead → cs ≡ []
    → HaveMarks marks (ahead ++ cs)
group_marked marks ahead cs it none = with_more marks ahead cs it (none_marked marks cs none)

-- one member more behind commands ahead
pub marked-behind : (marks marks2 : List Bool) (ahead cs ds : List Command) (c : Command) (b : Bool)
    → HaveMarks marks (ahead ++ cs) → marks2 ≡ set marks (element_behind c) true
    → ds ≡ cs ++ (if b then c ∷ [] else []) → HaveMarks marks2 (ahead ++ ds)
marked-behind marks marks2 ahead cs ds c b it marks_are ds_are =
    subst (λ (l : List Bool). HaveMarks l (ahead ++ ds)) (sym marks_are)
    (subst (λ (l : List Command). HaveMarks (set marks (element_behind c) true) l)
    (append_assoc ahead cs (if b then c ∷ [] else []) ∙ ap (λ (l : List Command). ahead ++ l) (sym ds_are))
    (marked_by marks (ahead ++ cs) c b it))

-- all of some commands, as far as a loop has come
pub marked-all : (marks marks2 : List Bool) (cs : List Command) (i : ℕ) (d : Command) → i < length cs
    → HaveMarks marks (take i cs) → marks2 ≡ set marks (element_behind (get_or cs i d)) true
    → HaveMarks marks2 (take (i + 1) cs)
marked-all marks marks2 cs i d within it marks_are =
    subst (λ (l : List Bool). HaveMarks l (take (i + 1) cs)) (sym marks_are)
    (subst (λ (l : List Command). HaveMarks (set marks (element_behind (get_or cs i d)) true) l)
    (sym (take_more cs i d within)) (marked_by marks (take i cs) (get_or cs i d) true it))

-- the elements of the commands are marked, one member more
pub marked-next : (marks marks2 : List Bool) (cs ds : List Command) (c : Command) (b : Bool) → HaveMarks marks cs
    → marks2 ≡ set marks (element_behind c) true → ds ≡ cs ++ (if b then c ∷ [] else []) → HaveMarks marks2 ds
marked-next marks marks2 cs ds c b it marks_are ds_are =
    subst (λ (l : List Command). HaveMarks marks2 l) (sym ds_are)
    (subst (λ (l : List Bool). HaveMarks l (cs ++ (if b then c ∷ [] else []))) (sym marks_are)
    (marked_by marks cs c b it))

-- ---- a request of an element with no mark

other : (marks : List Bool) (e f : ℕ) → has_mark marks f ≡ true → has_mark marks e ≡ false → (f == e) ≡ false
other marks e f marked none = by_test (f == e) refl
  where
    by_test : (b : Bool) → (f == e) ≡ b → b ≡ false
    by_test true is = absurd
        (true_false (sym (sym none ∙ ap (λ (n : ℕ). has_mark marks n) (sym (eq_by_test f e is)) ∙ marked)))
    by_test false is = refl

one-unmoved : (marks : List Bool) (e : ℕ) (c : Command) (b : ℕ × ℕ) → has_mark marks (element_behind c) ≡ true
    → has_mark marks e ≡ false → bounds_behind e c b ≡ b
one-unmoved marks e (Asks r) b marked none = ap (λ (t : Bool). if t then (b.0, b.1 + 1) else b)
    (other marks e r.element marked none)
one-unmoved marks e (Confirm element upto) b marked none = ap (λ (t : Bool). if t then (upto, b.1) else b)
    (other marks e element marked none)

all-unmoved : (marks : List Bool) (e : ℕ) (cs : List Command) (b : ℕ × ℕ) → HaveMarks marks cs
    → has_mark marks e ≡ false → bounds_behind_all e cs b ≡ b
all-unmoved marks e [] b it none = refl
all-unmoved marks e (c ∷ cs) b it none =
    ap (λ (x : ℕ × ℕ). bounds_behind_all e cs x) (one-unmoved marks e c b it.0 none)
    ∙ all-unmoved marks e cs b it.1 none

-- it is judged by the memory as it is
pub request-alone : (m : Contents) (cs : List Command) (marks : List Bool) (r : Request) → AreAccepted m cs
    → HaveMarks marks cs → has_mark marks r.element ≡ false
    → is_accepted m (Asks r) ≡ is_accepted (after m cs) (Asks r)
request-alone m cs marks r accepted it none = by_bounds (bounds m.windows r.element) refl
  where
    by_bounds : (o : Result (ℕ × ℕ) Refusal) → bounds m.windows r.element ≡ o
        → is_accepted m (Asks r) ≡ is_accepted (after m cs) (Asks r)
    by_bounds (Ok b) are = sym (request-judged m r b are)
        ∙ request-behind m cs r b accepted
        (ap (λ (o : Result (ℕ × ℕ) Refusal). moved_by r.element cs o) are
        ∙ ap (λ (x : ℕ × ℕ). Ok x) (all-unmoved marks r.element cs b it none))
    by_bounds (Err x) are = request-nowhere m r x are
        ∙ request-lost m cs r x accepted (ap (λ (o : Result (ℕ × ℕ) Refusal). moved_by r.element cs o) are)
