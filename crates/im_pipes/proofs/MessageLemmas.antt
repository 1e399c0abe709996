-- Messages and the items among them.
use Rattle.std.proofs.Common.{◌≡◌, ◌-◌, Bool, true, false, List, [], ◌∷◌, ◌++◌, map, length, slice_get, Some, None}
use Rattle.std.proofs.Common.{Option, remove, sym, refl, ap, ◌∙◌, append_assoc, length-append, take_at}
use Rattle.std.proofs.Math.Nat.{add-sub_cancel}
use Rattle.im_pipes.specs.{declared.rule.PassLog.PassLog, Rule.log, Rule.with_sent}
use Rattle.im_pipes.specs.Ends.{handed_of, items_of, messages_of}

module _ {T : Type 0} where
  items_of_map : (items : List T) → items_of (map Some items) ≡ items
  items_of_map [] = refl
  items_of_map (x ∷ items) = ap (λ l. x ∷ l) (items_of_map items)

  map_more : (items : List T) (x : T) → map Some (items ++ x ∷ []) ≡ map Some items ++ Some x ∷ []
  map_more [] x = refl
  map_more (y ∷ items) x = ap (λ l. Some y ∷ l) (map_more items x)

  items_more : (items : List T) (x : T) → items_of (map Some items ++ Some x ∷ []) ≡ items ++ x ∷ []
  items_more items x = ap items_of (sym (map_more items x)) ∙ items_of_map (items ++ x ∷ [])

  items_marked : (items : List T) → items_of (map Some items ++ None ∷ []) ≡ items
  items_marked [] = refl
  items_marked (x ∷ items) = ap (λ l. x ∷ l) (items_marked items)

  items_join : (messages others : List (Option T)) → items_of (messages ++ others)
      ≡ items_of messages ++ items_of others
  items_join [] others = refl
  items_join (Some x ∷ messages) others = ap (λ l. x ∷ l) (items_join messages others)
  items_join (None ∷ messages) others = items_join messages others

  -- messages that begin with an end mark after these items are of these items alone
  ends : (marked : Bool) (items others : List T) (rest : List (Option T)) → messages_of marked others
      ≡ messages_of true items ++ rest → items ≡ others
  ends true [] [] rest e = refl
  ends false [] [] rest e = absurd (cc e)
  ends true [] (y ∷ others) rest e = absurd (cc e)
  ends false [] (y ∷ others) rest e = absurd (cc e)
  ends true (x ∷ items) [] rest e = absurd (cc e)
  ends false (x ∷ items) [] rest e = absurd (cc e)
  ends true (x ∷ items) (y ∷ others) rest e = let h : x
      ≡ y = cc e in let t = ends true items others rest (cc e) in cc (h, t)
  ends false (x ∷ items) (y ∷ others) rest e = let h : x
      ≡ y = cc e in let t = ends false items others rest (cc e) in cc (h, t)

  same_log : (a b c d : Bool) (s t r q : List (Option T)) → a ≡ b → c ≡ d → s ≡ t → r ≡ q → log a c s r ≡ log b d t q
  same_log a b c d s t r q sends receives sent received = λ j. log (sends j) (receives j) (sent j) (received j)

  -- an item more was sent
  pub sent_item : (l m : PassLog T) (x : T) → l ≡ log true false (messages_of false (items_of l.sent)) [] → m
      ≡ with_sent l (Some x)
      → (items_of m.sent ≡ items_of l.sent ++ x ∷ []) × (m ≡ log true false (messages_of false (items_of m.sent)) [])
  sent_item l m x i p =
      let items = items_of l.sent in
      let e : m.sent ≡ map Some items ++ Some x ∷ [] = ap (λ (k : PassLog T). k.sent) p
      ∙ ap (λ (k : PassLog T). k.sent ++ Some x ∷ []) i in
      let more : items_of m.sent ≡ items ++ x ∷ [] = ap items_of e ∙ items_more items x in
      let sent : l.sent ++ Some x ∷ [] ≡ map Some (items_of m.sent) = ap (λ (k : PassLog T). k.sent ++ Some x ∷ []) i
      ∙ (sym (map_more items x) ∙ ap (λ k. map Some k) (sym more)) in (
        more,
        p ∙ same_log _ _ _ _ _ _ _ _ (ap (λ (k : PassLog T). k.sends) i) (ap (λ (k : PassLog T). k.receives) i) sent
            (ap (λ (k : PassLog T). k.received) i),
      )

  -- the end mark was sent
  pub sent_mark : (l m : PassLog T) → l ≡ log true false (messages_of false (items_of l.sent)) [] → m ≡ with_sent l None
      → (items_of m.sent ≡ items_of l.sent) × (m ≡ log true false (messages_of true (items_of m.sent)) [])
  sent_mark l m i p =
      let items = items_of l.sent in
      let e : m.sent ≡ map Some items ++ None ∷ [] = ap (λ (k : PassLog T). k.sent) p
      ∙ ap (λ (k : PassLog T). k.sent ++ None ∷ []) i in
      let same : items_of m.sent ≡ items = ap items_of e ∙ items_marked items in
      let sent : l.sent ++ None ∷ [] ≡ messages_of true (items_of m.sent) =
      ap (λ (k : PassLog T). k.sent ++ None ∷ []) i
      ∙ ap (λ k. map Some k ++ None ∷ []) (sym same) in (
        same,
        p ∙ same_log _ _ _ _ _ _ _ _ (ap (λ (k : PassLog T). k.sends) i) (ap (λ (k : PassLog T). k.receives) i) sent
            (ap (λ (k : PassLog T). k.received) i),
      )

  -- what an outlet knows: these items were handed out, and then the end mark where it ended, and those messages are held
  abbrev pub Knows : PassLog T → Bool → List T → List (Option T) → Type 0
  Knows l ended items held = l ≡ log false true [] (messages_of ended items ++ held)

  items_of_messages : (ended : Bool) (items : List T) → items_of (messages_of ended items) ≡ items
  items_of_messages true items = items_marked items
  items_of_messages false items = items_of_map items

  handed_join : (handed held : List (Option T)) → handed_of (handed ++ held) held ≡ handed
  handed_join handed held = take_at handed held _
      (sym (ap (λ n. n - length held) (length-append handed held) ∙ add-sub_cancel (length handed) (length held)))

  -- so they are those that contracts see
  pub handed_items : (l : PassLog T) (ended : Bool) (items : List T) (held : List (Option T)) → Knows l ended items held
      → items_of (handed_of l.received held) ≡ items
  handed_items l ended items held k = ap (λ (m : PassLog T). items_of (handed_of m.received held)) k
      ∙ (ap items_of (handed_join (messages_of ended items) held) ∙ items_of_messages ended items)

  pub knows_handed : (l : PassLog T) (ended : Bool) (items : List T) (held : List (Option T)) → Knows l ended items held
      → Knows l ended (items_of (handed_of l.received held)) held
  knows_handed l ended items held k = k
      ∙ ap (λ xs. log false true [] (messages_of ended xs ++ held)) (sym (handed_items l ended items held k))

  -- the first that is held, and the others
  first_of : (held others : List (Option T)) (message : Option T) → Some message ≡ slice_get held 0 → others
      ≡ remove held 0 → held ≡ message ∷ others
  first_of [] others message e r = absurd (cc e)
  first_of (x ∷ held) others message e r = let h : message ≡ x = cc e in cc (h, r)

  -- the first that is held was handed out, an item
  pub item_next : (l : PassLog T) (ended : Bool) (items : List T) (held others : List (Option T)) (message : Option T)
      (x : T) → Knows l ended items held → ended ≡ false
      → Some message ≡ slice_get held 0 → others ≡ remove held 0 → message ≡ Some x
      → Knows l false (items ++ x ∷ []) others
  item_next l ended items held others message x k open_ e r is =
      let first : held ≡ Some x ∷ others = first_of held others message e r ∙ ap (λ m. m ∷ others) is in
      k ∙ ((λ j. log false true [] (messages_of (open_ j) items ++ first j))
      ∙ ap (λ xs. log false true [] xs)
      (sym (append_assoc (map Some items) (Some x ∷ []) others) ∙ ap (λ xs. xs ++ others) (sym (map_more items x))))

  -- or the end mark
  pub mark_next : (l : PassLog T) (ended : Bool) (items : List T) (held others : List (Option T)) (message : Option T)
      → Knows l ended items held → ended ≡ false
      → Some message ≡ slice_get held 0 → others ≡ remove held 0 → message ≡ None → Knows l true items others
  mark_next l ended items held others message k open_ e r is =
      let first : held ≡ None ∷ others = first_of held others message e r ∙ ap (λ m. m ∷ others) is in
      k ∙ ((λ j. log false true [] (messages_of (open_ j) items ++ first j))
      ∙ ap (λ xs. log false true [] xs) (sym (append_assoc (map Some items) (None ∷ []) others)))

  sent_of : (l m both : PassLog T) (ended : Bool) (items : List T) (held rest : List (Option T))
      → Knows m ended items held → both ≡ log true true l.sent m.received → both.sent ≡ both.received ++ rest
      → l.sent ≡ messages_of ended items ++ (held ++ rest)
  sent_of l m both ended items held rest k p t =
      sym (ap (λ (j : PassLog T). j.sent) p)
      ∙ (t ∙ (ap (λ (j : PassLog T). j.received ++ rest) p
      ∙ (ap (λ (j : PassLog T). j.received ++ rest) k ∙ append_assoc (messages_of ended items) held rest)))

  -- both ends in one pass: what was handed out begins what was sent
  pub begins_items : (l m both : PassLog T) (ended : Bool) (items : List T) (held rest : List (Option T))
      → Knows m ended items held → both ≡ log true true l.sent m.received → both.sent ≡ both.received ++ rest
      → items_of l.sent ≡ items ++ items_of (held ++ rest)
  begins_items l m both ended items held rest k p t =
      ap items_of (sent_of l m both ended items held rest k p t)
      ∙ (items_join (messages_of ended items) (held ++ rest)
      ∙ ap (λ xs. xs ++ items_of (held ++ rest)) (items_of_messages ended items))

  -- and after the end mark it is all of it
  pub whole_items : (l m both : PassLog T) (marked : Bool) (items : List T) (held rest : List (Option T)) → l
      ≡ log true false (messages_of marked (items_of l.sent)) []
      → Knows m true items held → both ≡ log true true l.sent m.received → both.sent ≡ both.received ++ rest → items
      ≡ items_of l.sent
  whole_items l m both marked items held rest i k p t =
      ends marked items (items_of l.sent) (held ++ rest)
      (sym (ap (λ (j : PassLog T). j.sent) i) ∙ sent_of l m both true items held rest k p t)
