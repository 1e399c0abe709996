-- The lines of a trace, as they are printed. (Own.)
use Rattle.std.proofs.Common.{◌≡◌, ℕ, zero, suc, ◌+◌, ◌-◌, ◌≤◌, Bool, true, false, List, [], ◌∷◌, ◌++◌, length}
use Rattle.std.proofs.Common.{if◌then◌else◌, OnOk, slice_get, Ok, Err, Option, Result, sym, refl, ap, ◌∙◌, subst}
use Rattle.std.proofs.Common.{⊎_elim, append_assoc, append-nil, arith, take_all}
use Rattle.std.proofs.{KnownBytes.Appends-nil, lemmas.Bool.cases_lt, lemmas.List.take-append-le}
use Rattle.std.specs.Io.KnownBytes.{Appends}
use Rattle.im_types.{specs.Types.Line, proofs.Tests.false_true}
use Rattle.{im_trace.specs.declared.Since.Since, im_text.specs.declared.Batch.Batch, im_text.specs.Texts.texts_below}
use Rattle.im_text.proofs.PrintingLemmas.{batches_all, batches_begin, batches_none, take-prefix}
use Rattle.im_text.specs.Printing.{Batches, BatchesMore, BatchesOn, Begins}
use Rattle.im_run.specs.Tracing.{BeginsTrace, first_lines, IsTracedText, IsTraceText, MayStand, PrintsBeginning}
use Rattle.im_run.specs.Tracing.{PrintsSome, PrintsTraced, trace_line, trace_lines, traced_text, TraceState, unmarked}
use Rattle.im_run.specs.Tracing.{WritesTrace}

-- ---- two lists

pub get_second : {A : Type 0} (xs ys : List A) (at : ℕ) → length xs ≤ at
    → slice_get (xs ++ ys) at ≡ slice_get ys (at - length xs)
get_second [] ys at behind = ap (slice_get ys) (omega arith)
get_second (x ∷ xs) ys zero behind = absurd (omega (arith, behind))
get_second (x ∷ xs) ys (suc at) behind = get_second xs ys at (omega (arith, behind)) ∙ ap (slice_get ys) (omega arith)

-- ---- marks

-- no mark may always stand
none_stands : (setup lines : List Line) (at : ℕ) → MayStand setup lines at unmarked
none_stands setup lines at = record {
  early = λ _. refl;
  begins = λ line there begins. absurd (false_true begins);
}

-- ---- the text of lines, or of their objects

-- it is that of the lines
line_text : (setup lines : List Line) (many : ℕ) (text : List ℕ) → IsTracedText false setup lines many text
    → text ≡ first_lines lines many
unfolding texts_below
line_text setup lines zero text is = is
line_text setup lines (suc at) text is =
    is.1.1.1.1 ∙ ap (λ (x : List ℕ). x ++ trace_line (slice_get lines at)) (line_text setup lines at is.0 is.1.1.0)

trace_is : (objects : Bool) (t : TraceState) (text : List ℕ)
    → IsTracedText objects t.setup (trace_lines t) (length (trace_lines t)) text → IsTraceText objects t text
trace_is false t text is = line_text t.setup (trace_lines t) (length (trace_lines t)) text is
trace_is true t text is = is

same_many : (objects : Bool) (setup lines : List Line) (many other : ℕ) (text : List ℕ) → many ≡ other
    → IsTracedText objects setup lines many text → IsTracedText objects setup lines other text
same_many objects setup lines many other text same is =
    subst (λ (n : ℕ). IsTracedText objects setup lines n text) same is

-- more lines stand there without marks
unmarked_rest : (objects : Bool) (setup lines : List Line) (many more : ℕ) (text : List ℕ)
    → IsTracedText objects setup lines many text
    → (rest : List ℕ) × IsTracedText objects setup lines (many + more) (text ++ rest)
unmarked_rest objects setup lines many zero text is = (
  [],
  subst (λ (t : List ℕ). IsTracedText objects setup lines (many + 0) t) (sym (append-nil text))
      (same_many objects setup lines many (many + 0) text (omega arith) is),
)
unmarked_rest objects setup lines many (suc more) text is =
    let before = unmarked_rest objects setup lines many more text is in
    let last = traced_text objects unmarked (slice_get lines (many + more)) in
    let all : IsTracedText objects setup lines (suc (many + more)) (text ++ (before.0 ++ last)) = (
      text ++ before.0,
      (
        unmarked,
        (
          before.1,
          (
            none_stands setup lines (many + more),
            sym (append_assoc text before.0 last),
          ),
        ),
      ),
    ) in (
      before.0 ++ last,
      same_many objects setup lines (suc (many + more)) (many + suc more) (text ++ (before.0 ++ last)) (omega arith)
          all,
    )

-- ---- the first lines

-- none is printed yet
pub none_printed : (objects : Bool) (setup lines : List Line) (is : Option (List ℕ)) (after : Batch)
    → PrintsTraced objects setup lines 0 is after is after
none_printed objects setup lines is after =
    ([], (refl, λ start text it. subst (Batches start is after) (sym (append-nil text)) it))

-- one more is printed
pub one_printed : (objects : Bool) (setup lines : List Line) (at : ℕ) (since : Since) (was mid is : Option (List ℕ))
    (before between after : Batch) → PrintsTraced objects setup lines at was before mid between
    → MayStand setup lines at since
    → BatchesMore mid between is after (traced_text objects since (slice_get lines at))
    → PrintsTraced objects setup lines (at + 1) was before is after
one_printed objects setup lines at since was mid is before between after first may more =
    let last = traced_text objects since (slice_get lines at) in
    let all : IsTracedText objects setup lines (suc at) (first.0 ++ last) =
    (first.0, (since, (first.1.0, (may, refl)))) in (
      first.0 ++ last,
      (
        same_many objects setup lines (suc at) (at + 1) (first.0 ++ last) (omega arith) all,
        λ start text it. subst (Batches start is after) (append_assoc text first.0 last)
            (more start (text ++ first.0) (first.1.1 start text it)),
      ),
    )

-- all are printed
pub all_printed : (objects : Bool) (setup lines : List Line) (at : ℕ) (was is : Option (List ℕ))
    (before after : Batch) → at ≡ length lines → PrintsTraced objects setup lines at was before is after
    → PrintsTraced objects setup lines (length lines) was before is after
all_printed objects setup lines at was is before after same printed =
    subst (λ (n : ℕ). PrintsTraced objects setup lines n was before is after) same printed

-- the first of these lines are a beginning of them
pub begins_with : (objects : Bool) (setup lines : List Line) (at : ℕ) (was is : Option (List ℕ))
    (before after : Batch) → at ≤ length lines → PrintsTraced objects setup lines at was before is after
    → PrintsSome objects setup lines was before is after
begins_with objects setup lines at was is before after within printed =
    let text = printed.0 in
    let rest = unmarked_rest objects setup lines at (length lines - at) text printed.1.0 in (
      text ++ rest.0,
      (
        same_many objects setup lines (at + (length lines - at)) (length lines) (text ++ rest.0) (omega (arith, within))
            rest.1,
        (text, (rest.0, (refl, printed.1.1))),
      ),
    )

-- nothing more is printed
pub begins_on : (objects : Bool) (setup lines : List Line) (was mid is : Option (List ℕ)) (before between after : Batch)
    → PrintsSome objects setup lines was before mid between → BatchesOn mid between is after
    → PrintsSome objects setup lines was before is after
begins_on objects setup lines was mid is before between after some on =
    let begun = some.1.1 in (
      some.0,
      (
        some.1.0,
        (
          begun.0,
          (begun.1.0, (begun.1.1.0, (λ start more it. on start (more ++ begun.0) (begun.1.1.1 start more it)))),
        ),
      ),
    )

-- ---- what was written

-- a beginning of a beginning of a text is a beginning of it
longer : (was is : Option (List ℕ)) (part rest : List ℕ) → Begins was is part → Begins was is (part ++ rest)
longer was is part rest begun = ⊎_elim
    (λ less. (begun.0, subst (Appends was is) (sym (take-append-le begun.0 part rest (omega (arith, less)))) begun.1))
    (λ more. (length part, subst (Appends was is) (take_all begun.0 part more ∙ sym (take-prefix part rest)) begun.1))
    (cases_lt begun.0 (length part))

-- as much was written as the writer took
pub written_some : (start mid is : Option (List ℕ)) (before between after : Batch) (text : List ℕ)
    → before.pending.items ≡ [] → PrintsBeginning start before mid between text
    → BatchesOn mid between is after → Begins start is text
written_some start mid is before between after text empty begun on =
    subst (Begins start is) (sym begun.1.1.0)
    (longer start is begun.0 begun.1.0 (batches_begin start is after begun.0
    (on start begun.0 (begun.1.1.1 start [] (batches_none start before empty)))))

-- all was written
pub written_all : (start mid is : Option (List ℕ)) (before between after : Batch) (text : List ℕ)
    → before.pending.items ≡ [] → BatchesMore start before mid between text
    → BatchesOn mid between is after → after.broken ≡ false → after.pending.items ≡ [] → Appends start is text
written_all start mid is before between after text empty printed on works flushed =
    batches_all start is after text works flushed (on start text (printed start [] (batches_none start before empty)))

-- what holds of both, if the call succeeded
pub on_ok_both : {T E P Q R : Type 0} (r : Result T E) → (P → Q → R) → OnOk r P → OnOk r Q → OnOk r R
on_ok_both (Ok x) both one two = both one two
on_ok_both (Err e) both one two = tt

-- ---- a trace

module _ (objects : Bool) (t : TraceState) (setup served : List Line) (first : setup ≡ t.setup)
    (others : served ≡ (if t.recorded then t.served else [])) where
  pub traced_some : (start mid is : Option (List ℕ)) (before between after : Batch) → before.pending.items ≡ []
      → PrintsSome objects setup (setup ++ served) start before mid between → BatchesOn mid between is after
      → BeginsTrace objects t start is
  traced_some start mid is before between after empty printed on =
      let some = subst (λ (l : List Line). PrintsSome objects t.setup (t.setup ++ l) start before mid between) others
      (subst (λ (l : List Line). PrintsSome objects l (l ++ served) start before mid between) first printed) in (
        some.0,
        (trace_is objects t some.0 some.1.0, written_some start mid is before between after some.0 empty some.1.1 on),
      )

  pub traced_all : (start mid is : Option (List ℕ)) (before between after : Batch) → before.pending.items ≡ []
      → PrintsTraced objects setup (setup ++ served) (length (setup ++ served)) start before mid between
      → BatchesOn mid between is after → after.broken ≡ false → after.pending.items ≡ []
      → WritesTrace objects t start is
  traced_all start mid is before between after empty printed on works flushed =
      let all = subst (λ (l : List Line). PrintsTraced objects t.setup (t.setup ++ l) (length (t.setup ++ l)) start
      before mid between) others
      (subst (λ (l : List Line). PrintsTraced objects l (l ++ served) (length (l ++ served)) start before mid between)
      first printed) in (
        all.0,
        (
          trace_is objects t all.0 all.1.0,
          written_all start mid is before between after all.0 empty all.1.1 on works flushed,
        ),
      )

-- nothing was written
pub none_begun : (objects : Bool) (t : TraceState) (was : Option (List ℕ)) → BeginsTrace objects t was was
none_begun objects t was =
    let lines = trace_lines t in
    let all = unmarked_rest objects t.setup lines 0 (length lines) [] refl in
    let whole = same_many objects t.setup lines (0 + length lines) (length lines) all.0 (omega arith) all.1 in
    (all.0, (trace_is objects t all.0 whole, (0, Appends-nil was)))
