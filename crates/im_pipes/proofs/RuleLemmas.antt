-- Each move keeps the rule of a pipe.
use Rattle.std.proofs.Common.{◌≡◌, ℕ, zero, suc, true, false, ◌≢◌, List, [], ◌∷◌, ◌++◌, length, set, Option, sym, refl}
use Rattle.std.proofs.Common.{ap, ◌∙◌, subst, ⊎_elim, true≢false, append_assoc}
use Rattle.atomic_table.proofs.Lists.{at_set, at_snoc}
use Rattle.crossbeam_channel.specs.Fifo.{Forks, Learns, Merges, Pops, Pushes}
use Rattle.im_pipes.specs.declared.rule.PassLog.{PassLog}
use Rattle.im_pipes.specs.Rule.{Fits, IsRelayed, log, with_received, with_sent}
use mathlib.Core.Option.{some, some-ne-none}
use lib.ListN.{get_elem?}

module _ {T : Type 0} where
  -- what wasn't in a list, and is with one element more, is that element
  at_end : (l : List (PassLog T)) (a b : PassLog T) (j : ℕ) → get_elem? l j ≢ some b
      → get_elem? (l ++ a ∷ []) j ≡ some b → j
      ≡ length l
  at_end [] a b zero n e = refl
  at_end [] a b (suc j) n e = absurd (some-ne-none b (sym e))
  at_end (x ∷ xs) a b zero n e = absurd (n e)
  at_end (x ∷ xs) a b (suc j) n e = ap suc (at_end xs a b j n e)

  -- each log is so
  abbrev All : (ℕ → PassLog T → Type 0) → List (PassLog T) → Type 0
  All F views = (port : ℕ) (v : PassLog T) → get_elem? views port ≡ some v → F port v

  -- each log is so where one is changed
  all_set : (F : ℕ → PassLog T → Type 0) (views : List (PassLog T)) (port : ℕ) (w : PassLog T) → F port w
      → ((j : ℕ) (u : PassLog T) → j ≢ port → get_elem? views j ≡ some u → F j u) → All F (set views port w)
  all_set F views port w mine others j u e = ⊎_elim
      (λ (x : (j ≡ port) × (w ≡ u)). subst (λ (y : ℕ × PassLog T). F y.0 y.1) (λ i. (sym x.0 i, x.1 i)) mine)
      (λ (x : (j ≢ port) × (get_elem? views j ≡ some u)). others j u x.0 x.1) (at_set views port j w u e)

  -- a new channel keeps it
  pub begins : IsRelayed {T = T} [] (log true true [] [] ∷ [])
  begins = (
    0,
    0,
    [],
    [],
    refl,
    all_set (Fits 0 0 [] []) (log true true [] [] ∷ []) 0 (log true true [] [])
        ((λ _. (refl, refl)), λ _. (refl, refl))
        (λ j u other e. absurd (other (at_end [] _ u j (λ x. some-ne-none u (sym x)) e))),
  )

  -- a message is sent
  pub sends : (n port : ℕ) (v : PassLog T) (x : Option T) → v.sends ≡ true
      → Pushes IsRelayed n port v x (λ w. w ≡ with_sent v x)
  sends n port v x may items views _ h at = let w : PassLog T = with_sent v x in let mine = h.5 port v at in let sent = h.2 ++ x ∷ [] in (
    w,
    (
      h.0,
      h.1,
      sent,
      h.3,
      ap (λ l. l ++ x ∷ []) h.4 ∙ append_assoc h.3 items (x ∷ []),
      all_set (Fits h.0 h.1 sent h.3) views port w
          ((λ _. ((mine.0 may).0, ap (λ l. l ++ x ∷ []) (mine.0 may).1)), mine.1)
          (λ j u other e. ((λ p. absurd (other (((h.5 j u e).0 p).0 ∙ sym (mine.0 may).0))), (h.5 j u e).1)),
    ),
    refl,
  )

  -- a message is received
  pub receives : (port : ℕ) (v : PassLog T) → v.receives ≡ true → Pops IsRelayed port v (λ x w. w ≡ with_received v x)
  receives port v may x items views h at = let w : PassLog T = with_received v x in let mine = h.5 port v at in let received = h.3 ++ x ∷ [] in (
    w,
    (
      h.0,
      h.1,
      h.2,
      received,
      h.4 ∙ sym (append_assoc h.3 (x ∷ []) items),
      all_set (Fits h.0 h.1 h.2 received) views port w
          (mine.0, λ _. ((mine.1 may).0, ap (λ l. l ++ x ∷ []) (mine.1 may).1))
          (λ j u other e. ((h.5 j u e).0, λ p. absurd (other (((h.5 j u e).1 p).0 ∙ sym (mine.1 may).0)))),
    ),
    refl,
  )

  -- a pass for each end
  pub forks : (port : ℕ) (v : PassLog T) → v.sends ≡ true → v.receives ≡ true
      → Forks IsRelayed port v (log true false v.sent []) (log false true [] v.received)
  forks port v a b items views h at = let l : PassLog T = log true false v.sent [] in let r : PassLog T = log false true [] v.received in let mine = h.5 port v at in let vs : List (PassLog T) = set views port l in
      let Old : ℕ → PassLog T → Type 0 = λ j u. (u.sends ≡ true → (j ≡ h.0) × (u.sent ≡ h.2)) × (u.receives ≢ true) in
      let old : All Old vs = all_set Old views port l ((λ _. mine.0 a), λ p. true≢false (sym p))
      (λ j u other e. ((h.5 j u e).0, λ p. other (((h.5 j u e).1 p).0 ∙ sym (mine.1 b).0))) in (
        h.0,
        length vs,
        h.2,
        h.3,
        h.4,
        λ j u e. ⊎_elim (λ x. ((old j u x).0, λ p. absurd ((old j u x).1 p)))
            (λ (is : r ≡ u). (
              (λ p. absurd (true≢false (sym (ap (λ (y : PassLog T). y.sends) is ∙ p)))),
              λ p. (
                at_end vs r u j (λ x. (old j u x).1 p) e,
                ap (λ (y : PassLog T). y.received) (sym is) ∙
                    (mine.1 b).1,
              ),
            ))
            (at_snoc vs r u j e),
      )

  -- both ends in one pass
  pub merges : (port : ℕ) (v : PassLog T) (other : ℕ) (u : PassLog T) → v.sends ≡ true → u.receives ≡ true
      → Merges IsRelayed port v other u (log true true v.sent u.received) (log false false [] [])
  merges port v other u a b items views h at two at' = let both : PassLog T = log true true v.sent u.received in let mine = h.5 port v at in let vs : List (PassLog T) = set views port both in
      let was : get_elem? views other
      ≡ some u = ⊎_elim (λ x. absurd (two x.0)) (λ x. x.1) (at_set views port other both u at') in let theirs =
      (h.5 other u was).1 b in
      let Now : ℕ → PassLog T → Type 0 = λ j y. j ≢ other → Fits h.0 port h.2 h.3 j y in
      let now : All Now vs = all_set Now views port both (λ _. ((λ _. mine.0 a), λ _. (refl, theirs.1)))
      (λ j y _ e apart. ((h.5 j y e).0, λ p. absurd (apart (((h.5 j y e).1 p).0 ∙ sym theirs.0)))) in (
        h.0,
        port,
        h.2,
        h.3,
        h.4,
        all_set (Fits h.0 port h.2 h.3) vs other (log false false [] [])
            ((λ p. absurd (true≢false (sym p))), λ p. absurd (true≢false (sym p))) (λ j y apart e. now j y e apart),
      )

  -- and what it knows then
  pub learns : (port : ℕ) (v : PassLog T) → v.sends ≡ true → v.receives ≡ true
      → Learns IsRelayed port v (λ held. v.sent ≡ v.received ++ held)
  learns port v a b items views h at = let mine = h.5 port v at in (mine.0 a).1
      ∙ (h.4 ∙ ap (λ xs. xs ++ items) (sym (mine.1 b).1))
