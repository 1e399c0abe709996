-- A law of one cell, said request by request, holds of the cell's whole life.
use Rattle.std.proofs.Common.{◌≡◌, ℕ, ◌≤◌, true, false, cond, ◌||◌, List, [], ◌∷◌, ◌++◌, IfSome, slice_get, Some, None}
use Rattle.std.proofs.Common.{sym, refl, ap, ◌∙◌, subst, ⊎_elim, append_assoc, append-nil, get_or-set_same}
use Rattle.std.proofs.lemmas.Option.{IfSome_then, MatchOption-from_none, none-some}
use Rattle.im_types.specs.Types.{Entry, Kind, Op, Reply, Waiter, Waiting, Answered, I, M, Alloc, Release, Reset, Fetch}
use Rattle.im_types.specs.Types.{Store, Take, Put, Request, Command, Held, Contents, held_at, waiters_of, kept_for}
use Rattle.im_types.specs.Types.{times, WaitingAgrees, ServedCell as Served, Acted, serve_cell, act, is_waiting_entry}
use Rattle.im_types.specs.Types.{asker, step, Event, event_of, events, clears, ends_life, until_end, stores}
use Rattle.im_types.specs.Types.{entry_of_fetch, entry_of_take, entry_of_put, lawful_entry}
use Rattle.im_histories.proofs.{CellLaw.CellLaw, CellLaw.IsServed, NewEntry.own_entry, NewEntry.resumed_entry}
use Rattle.im_histories.proofs.CellStep.{answered_by, Clears, Frees, given_by, is_for, Meets, meets, Passes, serve_op}
use Rattle.im_histories.proofs.CellStep.{Serves}
use Rattle.im_histories.proofs.EndEntry.{Ends, ends-answered, ends-later, ends-now}
use Rattle.im_histories.proofs.Given.{held_at-within, IsNext, step-agrees}
use Rattle.im_histories.proofs.OneStep.{Asked, contents_of, event_for, IsSound, Silent, sound-step, Takes}
use Rattle.im_histories.proofs.OneStep.{takes_command, times-get, waiting_kept}

nil_split : (before : List Event) (x : Event) (later : List Event) → [] ≡ before ++ x ∷ later → ⊥
nil_split [] x later e = cc
nil_split (b ∷ before) x later e = cc

same_head : (x y : Event) (xs ys : List Event) → x ∷ xs ≡ y ∷ ys → x ≡ y
same_head x y xs ys e = cc

same_tail : (x y : Event) (xs ys : List Event) → x ∷ xs ≡ y ∷ ys → xs ≡ ys
same_tail x y xs ys e = cc

waiting_entry : (entry : Entry) → is_waiting_entry entry ≡ true → entry ≡ Waiting
waiting_entry Waiting e = refl
waiting_entry (Answered reply) e = absurd (cc)

-- of a request that isn't for the cell the laws say nothing
unsaid : (kind : Kind) (a : ℕ) (all before : List Event) (e : Event) (op : Op) → is_for kind a op ≡ false
    → lawful_entry kind a all before e op ≡ None
unsaid I a all before e (Alloc k n) h = refl
unsaid I a all before e (Release b) h = refl
unsaid I a all before e (Reset b) h = refl
unsaid I a all before e (Fetch b) h = ap (λ t. cond t (Some (entry_of_fetch (stores a before) (stores a all))) None) h
unsaid I a all before e (Store b v) h = refl
unsaid I a all before e (Take b) h = refl
unsaid I a all before e (Put b v) h = refl
unsaid M a all before e (Alloc k n) h = refl
unsaid M a all before e (Release b) h = refl
unsaid M a all before e (Reset b) h = refl
unsaid M a all before e (Fetch b) h = refl
unsaid M a all before e (Store b v) h = refl
unsaid M a all before e (Take b) h = ap (λ t. cond t (Some (entry_of_take a before all)) None) h
unsaid M a all before e (Put b v) h = ap (λ t. cond t (Some (entry_of_put a before e)) None) h

-- from m on a request has in the end the entry that the laws say, if they say one
abbrev pub EndsAsSaid : Kind → ℕ → Contents → List Command → List Event → List Event → Event → Type 0
EndsAsSaid kind a m commands all before x = IfSome (lawful_entry kind a all before x x.request.op)
    (λ entry. Ends m commands (asker x.request) entry)

module _ (kind : Kind) (a : ℕ) (law : CellLaw kind a) (base : ℕ) where
  -- the cell lies in a block with this base, after these requests of its life
  pub record IsAt (m : Contents) (held : Held) (early : List Event) : Type 0 where
    pub at : held_at m.cells a ≡ Some held
    pub is_kind : held.block.kind ≡ kind
    pub is_base : held.block.base ≡ base
    pub agrees : law.Agrees early held.state

  -- each request of the life has in the end what the law says: who waits now, and the later ones
  pub record IsLawful (m : Contents) (commands : List Command) (held : Held) (early all : List Event) : Type 0 where
    pub waits : (k : ℕ) (who : Waiter) → slice_get (waiters_of held.state) k ≡ Some who
        → Ends m commands who (law.due all early k)
    pub later : (before rest : List Event) (x : Event) → until_end base (events m commands) ≡ before ++ x ∷ rest
        → EndsAsSaid kind a m commands all (early ++ before) x

  -- no command is left
  finished : (m : Contents) (held : Held) (early all : List Event) → IsSound m → IsAt m held early → all
      ≡ early ++ [] → IsLawful m [] held early all
  finished m held early all sound here is = record {
    waits = λ k who w.
        let kept = waiting_kept m sound.agrees a held here.at who (times-get (waiters_of held.state) k who w) in
        subst (Ends m [] who)
        (waiting_entry kept.0.entry kept.2
        ∙ sym (ap (λ xs. law.due xs early k) (is ∙ append-nil early)
        ∙ law.ends early held.state here.agrees k who w))
        (ends-now m who kept.0 kept.1);
    later = λ before rest x e. absurd (nil_split before x rest e);
  }

  module _ (m : Contents) (command : Command) (commands : List Command) (held : Held) (early all : List Event)
      (sound : IsSound m) (here : IsAt m held early) where
    abbrev next : Contents
    next = (step m command).contents

    abbrev more : List Event
    more = until_end base (events next commands)

    one_earlier : (before : List Event) (x : Event) → EndsAsSaid kind a next commands all before x
        → EndsAsSaid kind a m (command ∷ commands) all before x
    one_earlier before x h = IfSome_then (lawful_entry kind a all before x x.request.op) h
        (λ entry ends. ends-later m command commands (asker x.request) entry ends)

    -- the command isn't among the requests of the life
    quiet : event_of m command ≡ [] → IsLawful next commands held early all
        → IsLawful m (command ∷ commands) held early all
    quiet none rest_of = record {
      waits = λ k who w. ends-later m command commands who (law.due all early k) (rest_of.waits k who w);
      later = λ before rest x e. one_earlier (early ++ before) x
          (rest_of.later before rest x (ap (λ es. until_end base (es ++ events next commands)) (sym none) ∙ e));
    }

    -- the command is one of them
    module _ (e : Event) (one : event_of m command ≡ e ∷ [])
        (goes_on : ends_life base e.request.op e.entry ≡ false) where
      life_from_here : until_end base (events m (command ∷ commands)) ≡ e ∷ more
      life_from_here = ap (λ es. until_end base (es ++ events next commands)) one
          ∙ ap (λ t. cond t [] (e ∷ more)) goes_on

      early_and_more : all ≡ early ++ until_end base (events m (command ∷ commands)) → all ≡ early ++ e ∷ more
      early_and_more is = is ∙ ap (λ es. early ++ es) life_from_here

      then_more : all ≡ early ++ until_end base (events m (command ∷ commands)) → all ≡ (early ++ e ∷ []) ++ more
      then_more is = early_and_more is ∙ sym (append_assoc early (e ∷ []) more)

      listed : (held' : Held) → IsLawful next commands held' (early ++ e ∷ []) all
          → EndsAsSaid kind a m (command ∷ commands) all early e
          → (before rest : List Event) (x : Event) → e ∷ more ≡ before ++ x ∷ rest
          → EndsAsSaid kind a m (command ∷ commands) all (early ++ before) x
      listed held' rest_of own [] rest x is =
          subst (λ (x : Event). EndsAsSaid kind a m (command ∷ commands) all (early ++ []) x)
          (same_head e x more rest is)
          (subst (λ es. EndsAsSaid kind a m (command ∷ commands) all es e) (sym (append-nil early)) own)
      listed held' rest_of own (b ∷ before) rest x is =
          subst (λ (b : Event). EndsAsSaid kind a m (command ∷ commands) all (early ++ b ∷ before) x)
          (same_head e b more (before ++ x ∷ rest) is)
          (subst (λ es. EndsAsSaid kind a m (command ∷ commands) all es x) (append_assoc early (e ∷ []) before)
          (one_earlier ((early ++ e ∷ []) ++ before) x
          (rest_of.later before rest x (same_tail e b more (before ++ x ∷ rest) is))))

      -- it isn't for the cell
      passed : is_for kind a e.request.op ≡ false → IsLawful next commands held (early ++ e ∷ []) all
          → IsLawful m (command ∷ commands) held early all
      passed other rest_of = record {
        waits = λ k who w. ends-later m command commands who (law.due all early k)
            (subst (Ends next commands who) (law.passes_due all early e k other) (rest_of.waits k who w));
        later = λ before rest x is.
            listed held rest_of
            (MatchOption-from_none (lawful_entry kind a all early e e.request.op) _
            (unsaid kind a all early e e.request.op other)) before rest x (sym life_from_here ∙ is);
      }

    -- it is for the cell
    module _ (r : Request) (new : IsNext m.windows r)
        (one : event_of m command ≡ event_for r (act m.cells (asker r) r.op) ∷ [])
        (is : next ≡ contents_of m r (act m.cells (asker r) r.op))
        (mine : is_for kind a r.op ≡ true) (goes_on : ends_life base r.op (act m.cells (asker r) r.op).entry ≡ false)
        (acts : act m.cells (asker r) r.op ≡ serve_cell m.cells a held.block (serve_op (asker r) r.op held.state)) where
      abbrev e : Event
      e = event_for r (act m.cells (asker r) r.op)

      abbrev served : Served
      served = serve_op (asker r) r.op held.state

      served_rightly : IsServed kind a law.Agrees law.due early e held.state
      served_rightly = law.serves early e held.state mine here.agrees

      abbrev pub held_after : Held
      held_after = record { block = held.block; state = served.state }

      pub is_after : IsAt next held_after (early ++ e ∷ [])
      is_after = record {
        at = ap (λ (c : Contents). held_at c.cells a) is ∙ ap (λ (acted : Acted). held_at acted.cells a) acts
            ∙ get_or-set_same m.cells a (Some held_after) None (held_at-within m.cells a held here.at);
        is_kind = here.is_kind;
        is_base = here.is_base;
        agrees = served_rightly.agrees;
      }

      next_agrees : WaitingAgrees next
      next_agrees = step-agrees m command sound.agrees

      resumed_end : (who : Waiter) → 1 ≤ times who (answered_by r.op held.state)
          → Ends m (command ∷ commands) who (Answered (given_by r.op))
      resumed_end who some =
          let k = resumed_entry m sound.agrees r new a held here.at acts who some in
          ends-later m command commands who (Answered (given_by r.op))
          (ends-answered next commands who k.0 (given_by r.op) next_agrees
          (ap (λ (c : Contents). kept_for c.windows who) is ∙ k.1) k.2)

      own_end : (reply : Reply) → served.entry ≡ Answered reply → Ends m (command ∷ commands) (asker r) (Answered reply)
      own_end reply told =
          ends-later m command commands (asker r) (Answered reply)
          (ends-answered next commands (asker r) (record { op = r.op; entry = e.entry }) reply next_agrees
          (ap (λ (c : Contents). kept_for c.windows (asker r)) is ∙ own_entry m sound.agrees r new)
          (ap (λ (acted : Acted). acted.entry) acts ∙ told))

      pub served_lawful : all ≡ early ++ until_end base (events m (command ∷ commands))
          → IsLawful next commands held_after (early ++ e ∷ []) all → IsLawful m (command ∷ commands) held early all
      served_lawful is_all rest_of = record {
        waits = λ k who w. ⊎_elim
            (λ resumed. subst (Ends m (command ∷ commands) who) (sym resumed.1) (resumed_end who resumed.0))
            (λ stays. ends-later m command commands who (law.due all early k)
            (subst (Ends next commands who) stays.2 (rest_of.waits stays.0 who stays.1)))
            (served_rightly.waits all more (early_and_more e one goes_on is_all) k who w);
        later = λ before rest x f. listed e one goes_on held_after rest_of
            (IfSome_then (lawful_entry kind a all early e r.op)
            (served_rightly.asked all more (early_and_more e one goes_on is_all)) (λ entry h. ⊎_elim
            (λ told. subst (Ends m (command ∷ commands) (asker r)) (sym told.2) (own_end told.0 told.1))
            (λ waits. ends-later m command commands (asker r) entry
            (subst (Ends next commands (asker r)) waits.2 (rest_of.waits waits.0 (asker r) waits.1)))
            h))
            before rest x (sym (life_from_here e one goes_on) ∙ f);
      }

    -- it releases or empties the block
    freed : (e : Event) → event_of m command ≡ e ∷ [] → ends_life base e.request.op e.entry ≡ true
        → waiters_of held.state ≡ []
        → IsLawful m (command ∷ commands) held early all
    freed e one gone nobody = record {
      waits = λ k who w. absurd (none-some who (sym (ap (λ waiters. slice_get waiters k) nobody) ∙ w));
      later = λ before rest x is. absurd
          (nil_split before x rest
          (sym (ap (λ es. until_end base (es ++ events next commands)) one ∙ ap (λ t. cond t [] (e ∷ more)) gone)
          ∙ is));
    }

    -- each command
    one_more : all ≡ early ++ until_end base (events m (command ∷ commands))
        → ((held' : Held) (early' : List Event) → IsAt next held' early' → all ≡ early' ++ more
        → IsLawful next commands held' early' all)
        → IsLawful m (command ∷ commands) held early all
    one_more is_all rest_of = by_takes (takes_command m command)
      where
        by_meets : (r : Request) → IsNext m.windows r → event_of m command
            ≡ event_for r (act m.cells (asker r) r.op) ∷ []
            → next ≡ contents_of m r (act m.cells (asker r) r.op)
            → Meets a held (asker r) r.op m.cells (act m.cells (asker r) r.op)
            → IsLawful m (command ∷ commands) held early all
        by_meets r new one is (Passes other goes_on at) =
            let e = event_for r (act m.cells (asker r) r.op) in
            let not_mine : is_for kind a r.op ≡ false = sym (ap (λ k. is_for k a r.op) here.is_kind) ∙ other in
            let on : ends_life base r.op e.entry ≡ false = sym (ap (λ b. ends_life b r.op e.entry) here.is_base)
            ∙ goes_on in
            passed e one on not_mine (rest_of held (early ++ e ∷ [])
            (record {
              at = ap (λ (c : Contents). held_at c.cells a) is
                  ∙ at;
              is_kind = here.is_kind;
              is_base = here.is_base;
              agrees = law.passes early e held.state not_mine here.agrees;
            })
            (then_more e one on is_all))
        by_meets r new one is (Serves mine goes_on acts) =
            let e = event_for r (act m.cells (asker r) r.op) in
            let yes_mine : is_for kind a r.op ≡ true = sym (ap (λ k. is_for k a r.op) here.is_kind) ∙ mine in
            let on : ends_life base r.op e.entry ≡ false = sym (ap (λ b. ends_life b r.op e.entry) here.is_base)
            ∙ goes_on in
            served_lawful r new one is yes_mine on acts is_all
            (rest_of (held_after r new one is yes_mine on acts) (early ++ e ∷ [])
            (is_after r new one is yes_mine on acts) (then_more e one on is_all))
        by_meets r new one is (Frees gone nobody) =
            let e = event_for r (act m.cells (asker r) r.op) in
            freed e one (sym (ap (λ b. ends_life b r.op e.entry) here.is_base)
            ∙ ap (λ t. t || clears held.block.base r.op e.entry) gone) nobody
        by_meets r new one is (Clears stays cleared nobody at) =
            let e = event_for r (act m.cells (asker r) r.op) in
            freed e one (sym (ap (λ b. ends_life b r.op e.entry) here.is_base)
            ∙ ap (λ t. t || clears held.block.base r.op e.entry) stays ∙ cleared) nobody

        by_takes : Takes m command → IsLawful m (command ∷ commands) held early all
        by_takes (Silent none same) = quiet none (rest_of held early
            (record {
              at = ap (λ cells. held_at cells a) same
                  ∙ here.at;
              is_kind = here.is_kind;
              is_base = here.is_base;
              agrees = here.agrees;
            })
            (is_all ∙ ap (λ es. early ++ until_end base (es ++ events next commands)) none))
        by_takes (Asked r new one is) = by_meets r new one is (meets m.cells sound.blocks a held here.at (asker r) r.op)

  -- any commands
  pub life_lawful : (commands : List Command) (m : Contents) (held : Held) (early all : List Event) → IsSound m
      → IsAt m held early
      → all ≡ early ++ until_end base (events m commands)
      → IsLawful m commands held early all
  life_lawful [] m held early all sound here is = finished m held early all sound here is
  life_lawful (command ∷ commands) m held early all sound here is = one_more m command commands held early all sound here is
      (λ held' early' here' is'. life_lawful commands (step m command).contents held' early' all
      (sound-step m command sound) here' is')
