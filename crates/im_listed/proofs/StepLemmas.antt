-- One step more on the list of a disk over a caller's bytes.
use Rattle.std.proofs.Common.{◌≡◌, ℕ, Bool, true, false, List, [], ◌∷◌, ◌++◌, map, length, sym, refl, ap, ◌∙◌, subst}
use Rattle.std.proofs.Common.{inl, inr, ⊎_elim, arith, length-append, take_all}
use Rattle.std.proofs.lemmas.{Bool.cases_lt, Bool.false≢true, List.take-append-le}
use Rattle.im_disk.specs.Moment.{Left, Moment, synced}
use Rattle.im_listed.specs.{declared.step.Step.Step, History.CallHistory, History.later}
use Rattle.im_listed.specs.Listing.{Accounts, Agrees, carried, FileStep, is_calm, later_with, Listing, listing_of}
use Rattle.im_listed.specs.Listing.{no_range, settled, Settles, stepped, task_of}

carried_more : (m : Moment) (ts : List FileStep) (t : FileStep) → carried m (ts ++ t ∷ []) ≡ stepped t (carried m ts)
carried_more m [] t = refl
carried_more m (x ∷ xs) t = carried_more (stepped x m) xs t

accounts_more : (d : Listing) (t : FileStep) → Accounts d
    → Accounts (later_with (stepped t d.now) (d.steps ++ t ∷ []) d)
accounts_more d t a =
    let size = length-append d.steps (t ∷ []) in
    let ends : stepped t d.now ≡ carried d.begun (d.steps ++ t ∷ []) = ap (λ (m : Moment). stepped t m) a.ends
    ∙ sym (carried_more d.begun d.steps t) in
    record {
      ends = ends;
      way = λ many file within left. ⊎_elim
          (λ last. inl (
            omega arith,
            subst (λ (m : Moment). Left m file) (sym ends)
                (subst (λ (ts : List FileStep). Left (carried d.begun ts) file)
                (take_all many (d.steps ++ t ∷ []) (omega arith)) left),
          ))
          (λ early. inr (a.way many file early
          (subst (λ (ts : List FileStep). Left (carried d.begun ts) file)
          (take-append-le many d.steps (t ∷ []) early) left)))
          (cases_lt (length d.steps) many);
    }

pub agrees_more : (bytes new_bytes : List ℕ) (steps new_steps : List Step) (calm : Bool) (h : CallHistory)
    (t : FileStep)
    → Agrees bytes steps calm h → map task_of new_steps ≡ map task_of steps ++ t ∷ [] → new_bytes
    ≡ (stepped t h.now).bytes → Agrees new_bytes new_steps (is_calm (stepped t h.now)) (later (stepped t h.now) h)
agrees_more bytes new_bytes steps new_steps calm h t a more same = record {
  same = same;
  calm_is = refl;
  accounts = subst (λ (ts : List FileStep). Accounts
      (record { now = stepped t h.now; past = h.now ∷ h.past; begun = h.begun; steps = ts; failed = false }))
      (sym more) (accounts_more (listing_of h steps false) t a.accounts);
}

none_is : (ranges : List (ℕ × ℕ)) → no_range ranges ≡ true → ranges ≡ []
none_is [] is = refl
none_is (r ∷ rs) is = absurd (false≢true is)

calm_synced : (m : Moment) → is_calm m ≡ true → synced m ≡ m
calm_synced m is =
    let none = none_is m.ranges is in
    (λ i. record { bytes = m.bytes; ranges = sym none i })

-- a sync where all was synced
accounts_later : (d : Listing) → synced d.now ≡ d.now → Accounts d → Accounts (later_with (synced d.now) d.steps d)
accounts_later d same a = record {
  ends = same ∙ a.ends;
  way = λ many file within left. inr (a.way many file within left);
}

-- a sync, which lists a step where not all was synced
pub agrees_synced : (bytes : List ℕ) (steps new_steps : List Step) (calm : Bool) (h : CallHistory)
    → Agrees bytes steps calm h → map task_of new_steps ≡ settled calm (map task_of steps)
    → Agrees bytes new_steps true (later (synced h.now) h)
agrees_synced bytes steps new_steps false h a more =
    agrees_more bytes bytes steps new_steps false h Settles a more a.same
agrees_synced bytes steps new_steps true h a same = record {
  same = a.same;
  calm_is = refl;
  accounts = subst (λ (ts : List FileStep). Accounts
      (record { now = synced h.now; past = h.now ∷ h.past; begun = h.begun; steps = ts; failed = false })) (sym same)
      (accounts_later (listing_of h steps false) (calm_synced h.now (sym a.calm_is)) a.accounts);
}
