-- What is put ahead, one change after another, and what a copy is after it.
use Rattle.std.proofs.Common.{◌≡◌, ℕ, zero, suc, ◌+◌, ◌<◌, Bool, true, false, cond, ◌≢◌, List, [], ◌∷◌, ◌++◌, length}
use Rattle.std.proofs.Common.{get_or, take, set, replicate, ◌==◌, Some, None, fold, Option, sym, refl, ap, ◌∙◌, subst}
use Rattle.std.proofs.Common.{append_assoc, append-nil, arith, get_or-set_other, get_or-set_same}
use Rattle.logbook.specs.Pages.{Book}
use Rattle.std.{proofs.lemmas.Bool.Decides.nat_tests, proofs.lemmas.List.take_more, specs.List.AllByRecursion}
use Rattle.im_types.specs.Types.{is_among, changed, value_after, is_below, Change, Fills as Full, Same, Gone}
use Rattle.im_fulls.proofs.ChangeLemmas.{get_or-emptied}
use Rattle.im_glass.{proofs.CellLemmas.length-written, specs.Cells.cells_written, specs.declared.copies.Ahead.Ahead}
use Rattle.im_glass.specs.Copies.{AddsOne, after_all, applied_to, ChangeNothing, changes_ahead, CopyState, FollowEach}
use Rattle.im_glass.specs.Copies.{History, IsKeptCopy}

value_after-more : (a : ℕ) (changes : List Change) (change : Change) → value_after a None (changes ++ change ∷ [])
    ≡ changed a (value_after a None changes) change
value_after-more a changes change = go changes None
  where
    go : (changes : List Change) (value : Option ℕ) → fold (changed a) value (changes ++ change ∷ [])
        ≡ changed a (fold (changed a) value changes) change
    go [] value = refl
    go (c ∷ changes) value = go changes (changed a value c)

get_or-filled : (cells : List (Option ℕ)) (b v : ℕ) → b < length cells → (a : ℕ)
    → get_or (set cells b (Some v)) a None ≡ cond (a == b) (Some v) (get_or cells a None)
get_or-filled cells b v below a = by_test (a == b) refl
  where
    by_test : (t : Bool) → (a == b) ≡ t → get_or (set cells b (Some v)) a None ≡ cond t (Some v) (get_or cells a None)
    by_test true e = let same : a
        ≡ b = grind (arith, nat_tests) in rw same (let within : b < length cells = below in rw get_or-set_same refl)
    by_test false e = let other : a ≢ b = grind (arith, nat_tests) in rw get_or-set_other refl

-- the cells after one more change
pub written-kept : (cells : List (Option ℕ)) (changes : List Change) (change : Change)
    → ((a : ℕ) → get_or cells a None ≡ value_after a None changes)
    → is_below (length cells) change ≡ true → (a : ℕ) → get_or (cells_written cells change) a None
    ≡ value_after a None (changes ++ change ∷ [])
written-kept cells changes Same kept below a = kept a ∙ sym (value_after-more a changes Same)
written-kept cells changes (Full b v) kept below a =
    get_or-filled cells b v (grind (arith, nat_tests)) a
    ∙ (ap (λ value. cond (a == b) (Some v) value) (kept a) ∙ sym (value_after-more a changes (Full b v)))
written-kept cells changes (Gone base n) kept below a =
    get_or-emptied cells base n a
    ∙ (ap (λ value. cond (is_among base n a) None value) (kept a) ∙ sym (value_after-more a changes (Gone base n)))

-- one change more is put ahead
pub goes_on-more : (n : ℕ) (book : Book) (changes : List Change) (all : List Ahead) (ahead : Ahead)
    → FollowEach n book changes all
    → ahead.seen.book ≡ book → ahead.seen.log ≡ (changes ++ changes_ahead all) ++ ahead.change ∷ [] → ahead.count
    ≡ length ahead.seen.log → is_below n ahead.change ≡ true
    → FollowEach n book changes (all ++ ahead ∷ [])
    × (changes_ahead (all ++ ahead ∷ []) ≡ changes_ahead all ++ ahead.change ∷ [])
goes_on-more n book changes [] ahead h b e c below =
    ((b, e ∙ ap (λ l. l ++ ahead.change ∷ []) (append-nil changes), c, below, tt), refl)
goes_on-more n book changes (first ∷ all) ahead h b e c below =
    let r = goes_on-more n book first.seen.log all ahead h.4 b
    (e ∙ ap (λ l. l ++ ahead.change ∷ [])
    (sym (ap (λ l. l ++ changes_ahead all) h.1
    ∙ append_assoc changes (first.change ∷ []) (changes_ahead all)))) c below in
    ((h.0, h.1, h.2, h.3, r.0), ap (λ l. first.change ∷ l) r.1)

-- operations that lead from one list to another by these changes
pub record Staged (n : ℕ) (book : Book) (from changes to : List Change) (ahead : List Ahead) : Type 0 where
  pub goes : FollowEach n book from ahead
  pub changes_are : changes_ahead ahead ≡ changes
  pub to_is : to ≡ from ++ changes

pub staged-none : (n : ℕ) (book : Book) (from : List Change) (ahead : List Ahead) → ahead ≡ []
    → Staged n book from [] from ahead
staged-none n book from ahead none = record {
  goes = subst (λ (l : List Ahead). FollowEach n book from l) (sym none) tt;
  changes_are = ap changes_ahead none;
  to_is = sym (append-nil from);
}

staged-more : (n : ℕ) (book : Book) (from changes to to' : List Change) (change : Change) (before after : List Ahead)
    → Staged n book from changes to before → to' ≡ to ++ change ∷ [] → AddsOne book change to' before after
    → is_below n change ≡ true → Staged n book from (changes ++ change ∷ []) to' after
staged-more n book from changes to to' change before after s goes a below =
    let one : Ahead = a.one in
    let whole : to' ≡ (from ++ changes_ahead before) ++ change ∷ [] = goes
    ∙ ap (λ l. l ++ change ∷ []) (s.to_is ∙ ap (λ l. from ++ l) (sym s.changes_are)) in
    let log : one.seen.log ≡ (from ++ changes_ahead before) ++ one.change ∷ [] = a.list_is ∙ whole
    ∙ ap (λ (c : Change). (from ++ changes_ahead before) ++ c ∷ []) (sym a.change_is) in
    let r = goes_on-more n book from before one s.goes a.book_is log (a.count_is ∙ ap length (sym a.list_is))
    (ap (is_below n) a.change_is ∙ below) in
    record {
      goes = subst (λ (l : List Ahead). FollowEach n book from l) (sym a.is) r.0;
      changes_are = ap changes_ahead a.is ∙ r.1 ∙ ap (λ l. l ++ one.change ∷ []) s.changes_are
          ∙ ap (λ (c : Change). changes ++ c ∷ []) a.change_is;
      to_is = goes ∙ ap (λ l. l ++ change ∷ []) s.to_is ∙ append_assoc from changes (change ∷ []);
    }

-- the next of these changes
pub staged-next : (n : ℕ) (book : Book) (from changes to to' : List Change) (i : ℕ) (d : Change)
    (before after : List Ahead)
    → Staged n book from (take i changes) to before → i < length changes → to' ≡ to ++ get_or changes i d ∷ []
    → AddsOne book (get_or changes i d) to' before after
    → is_below n (get_or changes i d) ≡ true → Staged n book from (take (i + 1) changes) to' after
staged-next n book from changes to to' i d before after s less goes a below =
    subst (λ (l : List Change). Staged n book from l to' after) (sym (take_more changes i d less))
    (staged-more n book from (take i changes) to to' (get_or changes i d) before after s goes a below)

-- one change more of the first cells alone
pub below-more : (n : ℕ) (change : Change) → is_below n change ≡ true → (changes : List Change)
    → AllByRecursion (λ (c : Change). is_below n c ≡ true) changes
    → AllByRecursion (λ (c : Change). is_below n c ≡ true) (changes ++ change ∷ [])
below-more n change is [] below = (is, tt)
below-more n change is (c ∷ changes) below = (below.0, below-more n change is changes below.1)

-- what a copy is after all that was put ahead
pub record Brought (book : Book) (changes : List Change) (n : ℕ) (s : CopyState) : Type 0 where
  pub log : s.0.log ≡ changes
  pub book_is : s.0.book ≡ book
  pub kept : IsKeptCopy s
  pub cells : length s.1 ≡ n

pub brought : (all : List Ahead) (book : Book) (s : CopyState) → s.0.book ≡ book → IsKeptCopy s
    → FollowEach (length s.1) book s.0.log all
    → Brought book (s.0.log ++ changes_ahead all) (length s.1) (after_all s all)
brought [] book s b kept h = record { log = sym (append-nil s.0.log); book_is = b; kept = kept; cells = refl }
brought (ahead ∷ all) book s b kept h =
    let next : CopyState = (ahead.seen, cells_written s.1 ahead.change, ahead.count) in
    let is : applied_to s ahead ≡ next = rw h.3 refl in
    let same = length-written s.1 ahead.change in
    let kept' : IsKeptCopy next = record {
      values = λ a. written-kept s.1 s.0.log ahead.change kept.values h.3 a
          ∙ ap (λ l. value_after a None l) (sym h.1);
      count = h.2;
    } in
    let r = brought all book next h.0 kept' (subst (λ (n : ℕ). FollowEach n book ahead.seen.log all) (sym same) h.4) in
    let r' : Brought book (s.0.log ++ changes_ahead (ahead ∷ all)) (length s.1) (after_all next all) =
    record {
      log = r.log ∙
          (ap (λ l. l ++ changes_ahead all) h.1
          ∙ append_assoc s.0.log (ahead.change ∷ [])
          (changes_ahead all));
      book_is = r.book_is;
      kept = r.kept;
      cells = r.cells ∙ same;
    } in
    subst (λ (q : CopyState). Brought book (s.0.log ++ changes_ahead (ahead ∷ all)) (length s.1) (after_all q all))
    (sym is) r'

-- what changes nothing
pub idle-all : (all : List Ahead) (s : CopyState) → ChangeNothing s all → after_all s all ≡ s
idle-all [] s h = refl
idle-all (ahead ∷ all) s h = ap (λ (q : CopyState). after_all q all) h.0 ∙ idle-all all s h.1

pub idle-more : (all : List Ahead) (s : CopyState) (ahead : Ahead) → ChangeNothing s all → applied_to s ahead ≡ s
    → ChangeNothing s (all ++ ahead ∷ [])
idle-more [] s ahead h e = (e, tt)
idle-more (first ∷ all) s ahead h e = (h.0, idle-more all s ahead h.1 e)

-- a copy after no change
all-none : (n a : ℕ) → get_or {A = Option ℕ} (replicate n None) a None ≡ None
all-none zero a = refl
all-none (suc n) zero = refl
all-none (suc n) (suc a) = all-none n a

pub new-kept : (s : CopyState) (seen : History) (n : ℕ) → seen.log ≡ [] → s ≡ (seen, replicate n None, 0) → IsKeptCopy s
new-kept s seen n none is =
    let kept : IsKeptCopy (seen, replicate n None, 0) = record {
      values = λ a. all-none n a
          ∙ sym (ap (λ log. value_after a None log) none);
      count = sym (ap length none);
    } in
    subst (λ (s : CopyState). IsKeptCopy s) (sym is) kept
