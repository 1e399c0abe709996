-- The steps keep the rule of the book of lines, and what they leave of its lines.
use Rattle.std.proofs.Common.{◌≡◌, ℕ, zero, suc, ◌<◌, ◌≤◌, Bool, true, false, ◌⊎◌, List, [], ◌∷◌, ◌++◌, length, take}
use Rattle.std.proofs.Common.{drop, set, if◌then◌else◌, ◌==◌, None, sym, refl, ap, ◌∙◌, subst, inl, inr, append_assoc}
use Rattle.std.proofs.Common.{append-nil, arith, take-append-drop}
use Rattle.logbook.specs.Pages.{adds, Cell, cell, gives, keeps, may_write, Moves, Nib, no_nib, step}
use Rattle.std.{proofs.lemmas.Bool.Decides.nat_tests, specs.List.AllByRecursion}
use Rattle.{im_types.specs.Types.Line, im_laws.proofs.Tests.test-self, im_laws.proofs.Tests.true_false}
use Rattle.im_trace.specs.Chains.{IsApart, IsChained, IsUsed, KeepsPen, KnowsAll, lines_from, MakesPen, read_from}
use Rattle.im_trace.specs.Chains.{times_from, tip_from, UsesPen}
use Rattle.im_trace.specs.{declared.rule.Link.Link, Lines.AreInOrder}
use mathlib.Core.List.{IsPrefix}
use prog.Atomic.{either}

abbrev pub shown : List Link → List Link
shown log = []

abbrev pub moved : List Link → List Link → ℕ → Type 0
moved xs ys n = Unit {0}

-- ---- cells that are at home stay so

pub home-set : (cs : List Cell) (i j : ℕ) (v : ℕ) → (cell cs j).1 ≡ true → (cell (set cs i (v, true)) j).1 ≡ true
home-set [] i j v is = is
home-set (c ∷ cs) zero zero v is = refl
home-set (c ∷ cs) zero (suc j) v is = is
home-set (c ∷ cs) (suc i) zero v is = is
home-set (c ∷ cs) (suc i) (suc j) v is = home-set cs i j v is

pub home-here : (cs : List Cell) (i v : ℕ) → i < length cs → (cell (set cs i (v, true)) i).1 ≡ true
home-here [] i v less = absurd (omega arith)
home-here (c ∷ cs) zero v less = refl
home-here (c ∷ cs) (suc i) v less = home-here cs i v (omega (arith, less))

pub home-more : (cs ds : List Cell) (j : ℕ) → (cell cs j).1 ≡ true → (cell (cs ++ ds) j).1 ≡ true
home-more [] ds j is = absurd (cc (is))
home-more (c ∷ cs) ds zero is = is
home-more (c ∷ cs) ds (suc j) is = home-more cs ds j is

pub used-set : (cs : List Cell) (i v : ℕ) (log : List Link) → AllByRecursion (IsUsed cs) log
    → AllByRecursion (IsUsed (set cs i (v, true))) log
used-set cs i v [] all = tt
used-set cs i v (l ∷ log) all = (home-set cs i l.from v all.0, used-set cs i v log all.1)

pub used-more : (cs ds : List Cell) (log : List Link) → AllByRecursion (IsUsed cs) log
    → AllByRecursion (IsUsed (cs ++ ds)) log
used-more cs ds [] all = tt
used-more cs ds (l ∷ log) all = (home-more cs ds l.from all.0, used-more cs ds log all.1)

length-set : {X : Type 0} (xs : List X) (i : ℕ) (x : X) → length (set xs i x) ≡ length xs
length-set [] i x = refl
length-set (y ∷ xs) zero x = refl
length-set (y ∷ xs) (suc i) x = ap suc (length-set xs i x)

pub chained-set : (cs : List Cell) (i v : ℕ) (log : List Link) → IsChained cs log → IsChained (set cs i (v, true)) log
chained-set cs i v log is = record {
  head = omega (arith, length-set cs i (v, true), is.head);
  home = home-set cs i 0 v is.home;
  used = used-set cs i v log is.used;
}

pub chained-more : (cs ds : List Cell) (log : List Link) → IsChained cs log → IsChained (cs ++ ds) log
chained-more [] ds log is = absurd (omega (arith, is.head))
chained-more (c ∷ cs) ds log is = record {
  head = omega arith;
  home = is.home;
  used = used-more (c ∷ cs) ds log is.used;
}

used-push : (cs : List Cell) (log : List Link) (l : Link) → AllByRecursion (IsUsed cs) log → IsUsed cs l
    → AllByRecursion (IsUsed cs) (log ++ l ∷ [])
used-push cs [] l all is = (is, tt)
used-push cs (k ∷ log) l all is = (all.0, used-push cs log l all.1 is)

pub chained-add : (cs : List Cell) (log : List Link) (l : Link) → IsChained cs log → IsUsed cs l
    → IsChained cs (log ++ l ∷ [])
chained-add cs log l is used = record {
  head = is.head;
  home = is.home;
  used = used-push cs log l is.used used;
}

-- a pen that isn't used up wrote none of the entries
apart_by : (cs : List Cell) (key from : ℕ) (b : Bool) → (from == key) ≡ b → (cell cs key).1 ≡ false
    → (cell cs from).1 ≡ true → b ≡ false
apart_by cs key from false e away used = refl
apart_by cs key from true e away used =
    let same : from ≡ key = grind (arith, nat_tests) in
    absurd (true_false (sym used ∙ ap (λ k. (cell cs k).1) same ∙ away))

pub all-apart : (cs : List Cell) (key : ℕ) (log : List Link) → (cell cs key).1 ≡ false → AllByRecursion (IsUsed cs) log
    → AllByRecursion (IsApart key) log
all-apart cs key [] away all = tt
all-apart cs key (l ∷ log) away all =
    (apart_by cs key l.from (l.from == key) refl away all.0, all-apart cs key log away all.1)

-- ---- the steps

pub grow_moves : (v : List Link) (e : Link)
    → Moves IsChained shown moved 0 (v, (no_nib, None)) (λ n. either (n == 0) 0 n)
    (MakesPen (step 0 0 0 e) (v, (no_nib, None)))
grow_moves v e cs log is pre away =
    let n = either ((cell cs 0).0 == 0) 0 (cell cs 0).0 in (
      is.head,
      is.home,
      (
        adds,
        [],
        None,
        tt,
        subst (λ l. IsChained (set cs 0 (n, true) ++ (0, false) ∷ []) l) (sym (append-nil log))
            (chained-more (set cs 0 (n, true)) ((0, false) ∷ []) log (chained-set cs 0 n log is)),
        inl (refl, refl),
        refl,
      ),
    )

pub look_moves : (v : List Link) (p : Nib) (e : Link) → p.right ≡ may_write
    → Moves IsChained shown moved 0 (v, (p, None)) (λ n. either (n == 0) 0 n)
    (KeepsPen (step 0 0 0 e) (v, (p, None)))
look_moves v p e right cs log is pre away =
    let n = either ((cell cs 0).0 == 0) 0 (cell cs 0).0 in (
      is.head,
      is.home,
      (
        keeps,
        [],
        None,
        tt,
        subst (λ l. IsChained (set cs 0 (n, true)) l) (sym (append-nil log)) (chained-set cs 0 n log is),
        inl (refl, refl),
        (
          subst (λ l. AllByRecursion (IsApart p.key) l) (sym (append-nil log))
              (all-apart cs p.key log (away right).1 is.used),
          refl,
        ),
      ),
    )

pub add_moves : (v : List Link) (p : Nib) (e : Link) → p.right ≡ may_write
    → Moves IsChained shown moved 0 (v, (p, None)) (λ n. either (n == 0) 0 n)
    (UsesPen (step 0 0 0 e) (v, (p, None)))
add_moves v p e right cs log is pre away =
    let l : Link = record { from = p.key; line = e.line; time = e.time; next = e.next } in
    let n = either ((cell cs 0).0 == 0) 0 (cell cs 0).0 in
    let ds = set cs 0 (n, true) in
    let less : p.key < length ds = omega (arith, length-set cs 0 (n, true), (away right).0) in (
      is.head,
      is.home,
      (
        gives,
        l ∷ [],
        None,
        right,
        chained-add (set ds p.key (p.value, true)) log l
            (chained-set ds p.key p.value log (chained-set cs 0 n log is))
            (home-here ds p.key p.value less),
        inl (refl, refl),
        (log, pre, all-apart cs p.key log (away right).1 is.used, refl),
      ),
    )

-- ---- what is read off the entries

module _ {X : Type 0} (read : Link → X) where
  read_by : (b : Bool) (l : Link) (key : ℕ) (xs ys : List Link)
      → read_from read l.next (xs ++ ys) ≡ read_from read l.next xs ++ read_from read (tip_from l.next xs) ys
      → read_from read key (xs ++ ys) ≡ read_from read key xs ++ read_from read (tip_from key xs) ys
      → (if b then read l ∷ read_from read l.next (xs ++ ys) else read_from read key (xs ++ ys))
      ≡ (if b then read l ∷ read_from read l.next xs else read_from read key xs)
      ++ read_from read (if b then tip_from l.next xs else tip_from key xs) ys
  read_by true l key xs ys p q = ap (λ ls. read l ∷ ls) p
  read_by false l key xs ys p q = q

  pub read-append : (key : ℕ) (xs ys : List Link) → read_from read key (xs ++ ys)
      ≡ read_from read key xs ++ read_from read (tip_from key xs) ys
  read-append key [] ys = refl
  read-append key (l ∷ xs) ys =
      read_by (l.from == key) l key xs ys (read-append l.next xs ys) (read-append key xs ys)

  -- entries of other pens add nothing
  read-apart : (key : ℕ) (ys : List Link) → AllByRecursion (IsApart key) ys → read_from read key ys ≡ []
  read-apart key [] all = refl
  read-apart key (l ∷ ys) all =
      ap (λ b. if b then read l ∷ read_from read l.next ys else read_from read key ys) all.0 ∙ read-apart key ys all.1

tip_by : (b : Bool) (l : Link) (key : ℕ) (xs ys : List Link)
    → tip_from l.next (xs ++ ys) ≡ tip_from (tip_from l.next xs) ys
    → tip_from key (xs ++ ys) ≡ tip_from (tip_from key xs) ys
    → (if b then tip_from l.next (xs ++ ys) else tip_from key (xs ++ ys))
    ≡ tip_from (if b then tip_from l.next xs else tip_from key xs) ys
tip_by true l key xs ys p q = p
tip_by false l key xs ys p q = q

pub tip-append : (key : ℕ) (xs ys : List Link) → tip_from key (xs ++ ys) ≡ tip_from (tip_from key xs) ys
tip-append key [] ys = refl
tip-append key (l ∷ xs) ys = tip_by (l.from == key) l key xs ys (tip-append l.next xs ys) (tip-append key xs ys)

tip-apart : (key : ℕ) (ys : List Link) → AllByRecursion (IsApart key) ys → tip_from key ys ≡ key
tip-apart key [] all = refl
tip-apart key (l ∷ ys) all =
    ap (λ b. if b then tip_from l.next ys else tip_from key ys) all.0 ∙ tip-apart key ys all.1

all-behind : {X : Type 0} (P : X → Type 0) (xs ys : List X) → AllByRecursion P (xs ++ ys) → AllByRecursion P ys
all-behind P [] ys all = all
all-behind P (x ∷ xs) ys all = all-behind P xs ys all.1

-- what is seen later by who has the next pen
module _ (root : ℕ) (seen log : List Link) (begins : IsPrefix seen log)
    (apart : AllByRecursion (IsApart (tip_from root seen)) log) where
  abbrev rest : List Link
  rest = begins.0

  rest-apart : AllByRecursion (IsApart (tip_from root seen)) rest
  rest-apart = all-behind (IsApart (tip_from root seen)) seen rest
      (subst (λ ls. AllByRecursion (IsApart (tip_from root seen)) ls) (sym begins.1) apart)

  pub read-same : {X : Type 0} (read : Link → X) → read_from read root log ≡ read_from read root seen
  read-same read = ap (read_from read root) (sym begins.1) ∙ read-append read root seen rest
      ∙ ap (λ ls. read_from read root seen ++ ls) (read-apart read (tip_from root seen) rest rest-apart)
      ∙ append-nil (read_from read root seen)

  pub tip-same : tip_from root log ≡ tip_from root seen
  tip-same = ap (tip_from root) (sym begins.1) ∙ tip-append root seen rest
      ∙ tip-apart (tip_from root seen) rest rest-apart

-- an entry more, by the pen that writes next
pub read-added : {X : Type 0} (read : Link → X) (root key : ℕ) (log : List Link) (l : Link) → tip_from root log ≡ key
    → l.from ≡ key → read_from read root (log ++ l ∷ []) ≡ read_from read root log ++ read l ∷ []
read-added {X} read root key log l tip from = read-append read root log (l ∷ [])
    ∙ ap (λ ls. read_from read root log ++ ls)
    (ap {B = List X} (λ b. if b then read l ∷ [] else []) (ap (λ k. l.from == k) (tip ∙ sym from) ∙ test-self l.from))

pub tip-added : (root key : ℕ) (log : List Link) (l : Link) → tip_from root log ≡ key → l.from ≡ key
    → tip_from root (log ++ l ∷ []) ≡ l.next
tip-added root key log l tip from = tip-append root log (l ∷ [])
    ∙ ap {B = ℕ} (λ b. if b then l.next else tip_from root log) (ap (λ k. l.from == k) (tip ∙ sym from)
    ∙ test-self l.from)

-- what is read off a longer log goes on
pub read-prefix : {X : Type 0} (read : Link → X) (root : ℕ) (xs ys : List Link) → IsPrefix xs ys
    → IsPrefix (read_from read root xs) (read_from read root ys)
read-prefix read root xs ys p = (
  read_from read (tip_from root xs) p.0,
  sym (read-append read root xs p.0)
      ∙ ap (read_from read root) p.1,
)

lengths_by : (b : Bool) (l : Link) (key : ℕ) (xs : List Link)
    → length (times_from l.next xs) ≡ length (lines_from l.next xs)
    → length (times_from key xs) ≡ length (lines_from key xs)
    → length (if b then l.time ∷ times_from l.next xs else times_from key xs)
    ≡ length (if b then l.line ∷ lines_from l.next xs else lines_from key xs)
lengths_by true l key xs p q = ap suc p
lengths_by false l key xs p q = q

-- each line has a time
pub times-length : (key : ℕ) (xs : List Link) → length (times_from key xs) ≡ length (lines_from key xs)
times-length key [] = refl
times-length key (l ∷ xs) = lengths_by (l.from == key) l key xs (times-length l.next xs) (times-length key xs)

-- ---- prefixes of one list

-- the first lines of a list begin it
pub first-prefix : (n : ℕ) (xs : List Line) → IsPrefix (take n xs) xs
first-prefix n xs = (drop n xs, take-append-drop n xs)

pub prefix-trans : {X : Type 0} (xs ys zs : List X) → IsPrefix xs ys → IsPrefix ys zs → IsPrefix xs zs
prefix-trans xs ys zs p q = (p.0 ++ q.0, sym (append_assoc xs p.0 q.0) ∙ ap (λ l. l ++ q.0) p.1 ∙ q.1)

prefix-heads : {X : Type 0} (x y : X) (xs ys : List X) → x ≡ y → IsPrefix xs ys ⊎ IsPrefix ys xs
    → IsPrefix (x ∷ xs) (y ∷ ys) ⊎ IsPrefix (y ∷ ys) (x ∷ xs)
prefix-heads x y xs ys heads (inl r) = inl (r.0, cc (heads, r.1))
prefix-heads x y xs ys heads (inr r) = inr (r.0, cc (heads, r.1))

pub prefix-either : {X : Type 0} (xs ys zs : List X) → IsPrefix xs zs → IsPrefix ys zs → IsPrefix xs ys ⊎ IsPrefix ys xs
prefix-either [] ys zs p q = inl (ys, refl)
prefix-either (x ∷ xs) [] zs p q = inr (x ∷ xs, refl)
prefix-either (x ∷ xs) (y ∷ ys) [] p q = absurd (cc (p.1))
prefix-either (x ∷ xs) (y ∷ ys) (z ∷ zs) p q =
    prefix-heads x y xs ys (cc (p.1, q.1)) (prefix-either xs ys zs (p.0, cc (p.1)) (q.0, cc (q.1)))

-- what a step by the next pen leaves
pub added : {X : Type 0} (read : Link → X) (root key : ℕ) (seen log new : List Link) (l : Link) → IsPrefix seen log
    → AllByRecursion (IsApart key) log
    → tip_from root seen ≡ key → l.from ≡ key → new ≡ log ++ l ∷ []
    → (read_from read root new ≡ read_from read root seen ++ read l ∷ []) × (tip_from root new ≡ l.next)
added read root key seen log new l pre apart tip from is =
    let here = subst (λ k. AllByRecursion (IsApart k) log) (sym tip) apart in
    let now : tip_from root log ≡ key = tip-same root seen log pre here ∙ tip in (
      ap (read_from read root) is ∙ read-added read root key log l now from
          ∙ ap (λ ls. ls ++ read l ∷ []) (read-same root seen log pre here read),
      ap (tip_from root) is ∙ tip-added root key log l now from,
    )

-- what was seen by others begins what the next pen's owner has
pub known : {X : Type 0} (read : Link → X) (root key : ℕ) (mine other : List Link) → KnowsAll key mine other
    → tip_from root mine ≡ key → IsPrefix (read_from read root other) (read_from read root mine)
known {X} read root key mine other k tip =
    let here = subst (λ n. AllByRecursion (IsApart n) k.all) (sym tip) k.apart in
    subst (λ (xs : List X). IsPrefix (read_from read root other) xs) (read-same root mine k.all k.goes here read)
    (read-prefix read root other k.all k.holds)

-- two prefixes of lines that were seen
pub ordered : (root : ℕ) (one two both : List Link) (xs ys : List Line) → IsPrefix one both → IsPrefix two both
    → IsPrefix xs (lines_from root one) → IsPrefix ys (lines_from root two) → AreInOrder xs ys
ordered root one two both xs ys p q a b = prefix-either xs ys (lines_from root both)
    (prefix-trans xs (lines_from root one) (lines_from root both) a (read-prefix (λ l. l.line) root one both p))
    (prefix-trans ys (lines_from root two) (lines_from root both) b (read-prefix (λ l. l.line) root two both q))
