-- A script's requests, one after another. (Own.)
use Rattle.std.proofs.Common.{◌≡◌, ℕ, List, [], ◌∷◌, ◌++◌, slice_get, Some, None, Ok, Option, option_map}
use Rattle.std.proofs.Common.{option_and_then, sym, refl, ap, ◌∙◌, subst, ap₂, inl, inr, append_assoc, append-nil}
use Rattle.std.specs.Option.{option_map_or}
use Rattle.im_types.specs.Types.{Op, Request, Command, Asks, Confirm, Window, Contents, next_number, bounds, step}
use Rattle.im_types.specs.Types.{after}
use Rattle.{im_laws.proofs.RunLemmas.after-append, im_text.proofs.WindowLemmas.bounds_found}
use Rattle.im_script.specs.{declared.Said.Said, Places.action_op, Script.Draft}
use Rattle.im_serial.specs.Asked.{AreDue, bases_after, bases_by, Course, HasNamed, HasReached, Leads, LeadsIf, NamesIf}
use Rattle.im_serial.specs.Asked.{request_in, said_at, Standing, standing, Wanted, wanted_by, wanted_in}

-- ---- one request

-- a request with its element's next number is the one that its line asks for
pub request_is : (m : Contents) (bases : List ℕ) (w : Wanted) (r : Request) (base : ℕ) → w.element ≡ r.element
    → action_op
    bases w.action ≡ Some r.op → bounds m.windows r.element ≡ Ok (base, r.number) → request_in m bases w ≡ Some r
request_is m bases w r base element op found =
    let it = bounds_found (slice_get m.windows r.element) base r.number found in
    ap (option_and_then (λ (window : Window). option_map (λ (op : Op). record {
      element = w.element;
      number = next_number window;
      op = op;
    }) (action_op bases w.action))) (ap (slice_get m.windows) element ∙ it.found_is)
    ∙ ap (option_map (λ (op : Op). record { element = w.element; number = next_number it.window; op = op })) op
    ∙ ap₂ (λ (e n : ℕ). Some (record { element = e; number = n; op = r.op })) element (sym it.next_is)

-- ---- where the script stands

-- a confirmation more
pub stands_confirmed : (m : Contents) (s : Standing) (put : List Command) (element upto : ℕ) → HasReached m s put →
    HasReached m s (put ++ Confirm element upto ∷ [])
stands_confirmed m s put element upto it = λ more last leads.
    subst (λ (l : List Command). LeadsIf m s.script l last) (sym (append_assoc put (Confirm element upto ∷ []) more))
    (it (Confirm element upto ∷ more) last (subst (λ (n : Contents). Leads n s.bases s.left more last) (after-append m
    put (Confirm element upto ∷ [])) leads))

-- more commands, whose confirmations are due behind these
pub due_more : (m : Contents) (put more : List Command) → AreDue m put → AreDue (after m put) more
    → AreDue m (put ++ more)
due_more m [] more first second = second
due_more m (Asks r ∷ put) more first second = due_more (step m (Asks r)).contents put more first second
due_more m (Confirm element upto ∷ put) more first second =
    (first.0, due_more (step m (Confirm element upto)).contents put more first.1 second)

-- a request more
pub stands_asked : (m : Contents) (script : Option Course) (bases added : List ℕ) (w : Wanted) (left : List
    Wanted) (put : List Command) (r : Request) → HasReached m (standing script bases (w ∷ left)) put
    → request_in (after m put) bases w ≡ Some r → bases_by w (step (after m put) (Asks r)).answer ≡ Some added →
    HasReached m (standing script (bases ++ added) left) (put ++ Asks r ∷ [])
stands_asked m script bases added w left put r it is made = λ more last leads.
    subst (λ (l : List Command). LeadsIf m script l last) (sym (append_assoc put (Asks r ∷ []) more))
    (it (Asks r ∷ more) last (
      is,
      inl (
        added,
        (
          made,
          subst (λ (n : Contents). Leads n (bases ++ added) left more last)
              (after-append m put (Asks r ∷ [])) leads,
        ),
      ),
    ))

-- nothing more comes
pub stands_here : (m : Contents) (s : Standing) (put : List Command) → HasReached m s put → LeadsIf m s.script put
    s.left
stands_here m s put it = subst (λ (l : List Command). LeadsIf m s.script l s.left) (append-nil put) (it [] s.left refl)

-- a request more, and then nothing
pub stands_last : (m : Contents) (script : Option Course) (bases : List ℕ) (w : Wanted) (left : List Wanted)
    (put : List Command) (r : Request) → HasReached m (standing script bases (w ∷ left)) put
    → request_in (after m put) bases w ≡ Some r → (last : List Wanted) × LeadsIf m script (put ++ Asks r ∷ []) last
stands_last m script bases w left put r it is = by_made (bases_by w (step (after m put) (Asks r)).answer) refl
  where
    by_made : (made : Option (List ℕ)) → bases_by w (step (after m put) (Asks r)).answer ≡ made → (last : List Wanted)
        × LeadsIf m script (put ++ Asks r ∷ []) last
    by_made (Some added) e = (
      left,
      stands_here m (standing script (bases ++ added) left) (put ++ Asks r ∷ [])
          (stands_asked m script bases added w left put r it is e),
    )
    by_made None e = (w ∷ left, it (Asks r ∷ []) (w ∷ left) (is, inr (e, (refl, refl))))

-- nothing of a script was put
pub stands_first : (m : Contents) (c : Course) → HasReached m (standing (Some c) c.first c.wanted) []
stands_first m c = λ more last leads. leads

-- ---- for which bases its names stand

-- a confirmation more
pub named_confirmed : (m : Contents) (s : Standing) (put : List Command) (element upto : ℕ) → HasNamed m s put
    → HasNamed m s (put ++ Confirm element upto ∷ [])
named_confirmed m s put element upto it = λ more.
    let c = Confirm element upto in
    subst (λ (l : List Command). NamesIf m s.script l
    (bases_after (after m (put ++ c ∷ [])) s.bases s.left more)) (sym (append_assoc put (c ∷ []) more))
    (subst (λ (n : Contents). NamesIf m s.script (put ++ c ∷ more) (bases_after n s.bases s.left more))
    (sym (after-append m put (c ∷ []))) (it (c ∷ more)))

-- a request more
pub named_asked : (m : Contents) (script : Option Course) (bases added : List ℕ) (w : Wanted) (left : List Wanted)
    (put : List Command) (r : Request) → HasNamed m (standing script bases (w ∷ left)) put
    → bases_by w (step (after m put) (Asks r)).answer ≡ Some added
    → HasNamed m (standing script (bases ++ added) left) (put ++ Asks r ∷ [])
named_asked m script bases added w left put r it made = λ more.
    let c = Asks r in
    subst (λ (l : List Command). NamesIf m script l
    (bases_after (after m (put ++ c ∷ [])) (bases ++ added) left more)) (sym (append_assoc put (c ∷ []) more))
    (subst (λ (n : Contents). NamesIf m script (put ++ c ∷ more) (bases_after n (bases ++ added) left more))
    (sym (after-append m put (c ∷ [])))
    (subst (λ (o : Option (List ℕ)). NamesIf m script (put ++ c ∷ more) (bases_after
    (step (after m put) c).contents (bases ++ option_map_or (λ (b : List ℕ). b) o []) left more)) made (it (c ∷ more))))

-- nothing more comes
pub named_here : (m : Contents) (s : Standing) (put : List Command) → HasNamed m s put → NamesIf m s.script put s.bases
named_here m s put it = subst (λ (l : List Command). NamesIf m s.script l s.bases) (append-nil put) (it [])

-- nothing of a script was put
pub named_first : (m : Contents) (c : Course) → HasNamed m (standing (Some c) c.first c.wanted) []
named_first m c = λ more. refl

-- ---- lines

-- a line that says this, and those behind it
pub wanted_line : (d next : Draft) (said : Said) (line : List ℕ) (lines : List (List ℕ)) → said_at d line ≡ Some (
  next,
  said,
) → wanted_in d (line ∷ lines) ≡ wanted_by said ++ wanted_in next lines
wanted_line d next said line lines is = ap (λ (o : Option (Draft × Said)). option_map_or (λ r. wanted_by r.1 ++
    wanted_in r.0 lines) o []) is
