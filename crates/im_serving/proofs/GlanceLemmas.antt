-- What an element saw, and what was done for it. (Own.)
use Rattle.std.proofs.Common.{◌≡◌, ℕ, suc, ◌+◌, ◌≤◌, List, [], ◌∷◌, ◌++◌, map, length, OnOk, OnErr, Some, None, Ok, Err}
use Rattle.std.proofs.Common.{All, Option, Result, sym, refl, ap, ◌∙◌, subst, append-nil, arith, length-append}
use Rattle.std.proofs.lemmas.List.{Elements.All-append, Elements.All-cons, Elements.All-nil, map-append}
use Rattle.im_types.specs.Types.{Entry, Op, Command, Outcome, Line, Asks, Tells, Commands, Contents, IsLegal}
use Rattle.im_types.specs.Types.{value_after, opening, shown_by, Change}
use Rattle.im_trace.proofs.ChainLemmas.{prefix-trans}
use Rattle.im_controller.specs.{Lines.EndsIn, Lines.line_of, State.PortState}
use Rattle.im_serving.proofs.AnswerLemmas.{answered_as, answered_more, answered_on, asked_count, found_length}
use Rattle.im_serving.specs.declared.{glances.Glanced.Glanced, numbers.ServedNumbers.ServedNumbers}
use Rattle.im_serving.specs.declared.intent.Intent.{Intent, TheVariants.Glance, TheVariants.Request}
use Rattle.im_serving.specs.Serving.{AreDone, AreGlanced, HasAsked, HasBegun, HasLearnt, IsGlanced, Looked, ops_of}
use Rattle.im_serving.specs.Serving.{requests, sites}
use mathlib.Core.List.{IsPrefix}

-- ---- what was seen

learnt_more : (m : Contents) (element : ℕ) (last : Option ℕ) (xs ys : List Change) → HasLearnt m element last xs
    → IsPrefix xs ys → HasLearnt m element last ys
learnt_more m element None xs ys h p = prefix-trans (opening m) xs ys h p
learnt_more m element (Some number) xs ys h p =
    (h.0, h.1, h.2, h.3, h.4, prefix-trans (shown_by m h.2) xs ys h.5 p)

-- more is seen
pub glanced_more : (m : Contents) (element : ℕ) (last last' : Option ℕ) (xs ys : List Change)
    (made made' : List Glanced) → IsPrefix xs ys → made' ≡ made → last' ≡ last
    → AreGlanced m element last xs made → AreGlanced m element last' ys made'
glanced_more m element last last' xs ys made made' p same was h =
    subst (λ l. AreGlanced m element l ys made') (sym was)
    (learnt_more m element last xs ys h.0 p, subst (All (IsGlanced m element)) (sym same) h.1)

-- a request was answered, and what was shown then was learnt
pub glanced_asked : (m : Contents) (element number : ℕ) (op : Op) (entry : Entry) (last : Option ℕ)
    (xs ys : List Change) (made made' : List Glanced) (command : Command) (outcome : Outcome) (history : List Line)
    → command ≡ Asks (record { element = element; number = number; op = op }) → IsLegal m history
    → EndsIn history (line_of (Commands command) (Ok outcome)) → outcome ≡ Tells entry
    → IsPrefix (shown_by m history) ys
    → made' ≡ made → AreGlanced m element last xs made → AreGlanced m element (Some number) ys made'
glanced_asked m element number op entry last xs ys made made' command outcome history asked legal ends tells shown
    same h =
    let P : Command → Type 0 = λ k. EndsIn history (line_of (Commands k) (Ok outcome)) in
    let Q : Outcome → Type 0 = λ o. EndsIn history
    (line_of (Commands (Asks (record { element = element; number = number; op = op }))) (Ok o)) in (
      (op, entry, history, legal, subst Q tells (subst P asked ends), shown),
      subst (All (IsGlanced m element))
          (sym same) h.1,
    )

glanced_read : (m : Contents) (element behind address : ℕ) (last : Option ℕ) (xs ys : List Change)
    (made made' : List Glanced) → AreGlanced m element last xs made → IsPrefix xs ys
    → made' ≡ made ++ record { behind = behind; after = last; address = address; value = value_after address None ys }
    ∷ []
    → AreGlanced m element last ys made'
glanced_read m element behind address last xs ys made made' h p is =
    let learnt = learnt_more m element last xs ys h.0 p in
    let g : Glanced = record { behind = behind; after = last; address = address; value = value_after address None ys }
    in (
      learnt,
      subst (All (IsGlanced m element)) (sym is)
          (All-append (IsGlanced m element) made (g ∷ []) h.1
          (All-cons (IsGlanced m element) g [] (ys, learnt, refl) (All-nil (IsGlanced m element)))),
    )

-- a glance was made, or refused
pub glanced_by : {T E : Type 0} (r : Result T E) (m : Contents) (element behind address : ℕ) (last last' : Option ℕ)
    (xs ys : List Change) (made made' : List Glanced) → OnOk r (IsPrefix xs ys)
    → OnOk r (made' ≡ made ++ record
    { behind = behind; after = last; address = address; value = value_after address None ys } ∷ []) → last' ≡ last
    → OnErr r ((made' ≡ made) × (ys ≡ xs)) → AreGlanced m element last xs made → AreGlanced m element last' ys made'
glanced_by (Ok x) m element behind address last last' xs ys made made' p is was same h =
    subst (λ l. AreGlanced m element l ys made') (sym was)
    (glanced_read m element behind address last xs ys made made' h p is)
glanced_by (Err e) m element behind address last last' xs ys made made' p is was same h =
    glanced_more m element last last' xs ys made made' ([], append-nil xs ∙ sym same.1) same.0 was h

-- one thing after another, by a port that stays its element's
pub glanced_then : (m : Contents) (element port : ℕ) (l0 l1 l2 : Option ℕ) (xs0 xs1 xs2 : List Change)
    (made0 made1 made2 : List Glanced) → port ≡ element
    → (AreGlanced m element l0 xs0 made0 → AreGlanced m element l1 xs1 made1)
    → (AreGlanced m port l1 xs1 made1 → AreGlanced m port l2 xs2 made2)
    → AreGlanced m element l0 xs0 made0 → AreGlanced m element l2 xs2 made2
glanced_then m element port l0 l1 l2 xs0 xs1 xs2 made0 made1 made2 same first second h =
    subst (λ k. AreGlanced m k l2 xs2 made2) same
    (second (subst (λ k. AreGlanced m k l1 xs1 made1) (sym same) (first h)))

-- ---- what was done

requests_more : (xs : List Intent) (op : Op) → requests (xs ++ Request op ∷ []) ≡ suc (requests xs)
requests_more [] op = refl
requests_more (Request first ∷ xs) op = ap suc (requests_more xs op)
requests_more (Glance a ∷ xs) op = requests_more xs op

requests_same : (xs : List Intent) (address : ℕ) → requests (xs ++ Glance address ∷ []) ≡ requests xs
requests_same [] address = refl
requests_same (Request op ∷ xs) address = ap suc (requests_same xs address)
requests_same (Glance a ∷ xs) address = requests_same xs address

sites_same : (n : ℕ) (xs : List Intent) (op : Op) → sites n (xs ++ Request op ∷ []) ≡ sites n xs
sites_same n [] op = refl
sites_same n (Request first ∷ xs) op = sites_same (suc n) xs op
sites_same n (Glance a ∷ xs) op = ap (λ l. (n, a) ∷ l) (sites_same n xs op)

sites_more : (n k : ℕ) (xs : List Intent) (address : ℕ) → k ≡ n + requests xs → sites n (xs ++ Glance address ∷ [])
    ≡ sites n xs ++ (k, address) ∷ []
sites_more n k [] address is = let same : n ≡ k = omega (arith, is) in ap (λ i. (i, address) ∷ []) same
sites_more n k (Request op ∷ xs) address is = sites_more (suc n) k xs address (omega (arith, is))
sites_more n k (Glance a ∷ xs) address is = ap (λ l. (n, a) ∷ l) (sites_more n k xs address is)

pub ops_more : (xs : List Intent) (op : Op) → ops_of (xs ++ Request op ∷ []) ≡ ops_of xs ++ op ∷ []
ops_more [] op = refl
ops_more (Request first ∷ xs) op = ap (λ l. first ∷ l) (ops_more xs op)
ops_more (Glance a ∷ xs) op = ops_more xs op

ops_same : (xs : List Intent) (address : ℕ) → ops_of (xs ++ Glance address ∷ []) ≡ ops_of xs
ops_same [] address = refl
ops_same (Request op ∷ xs) address = ap (λ l. op ∷ l) (ops_same xs address)
ops_same (Glance a ∷ xs) address = ops_same xs address

on_ok : {T E P Q : Type 0} (r : Result T E) → (P → Q) → OnOk r P → OnOk r Q
on_ok (Ok x) f p = f p
on_ok (Err e) f p = p

on_err : {T E P Q : Type 0} (r : Result T E) → (P → Q) → OnErr r P → OnErr r Q
on_err (Ok x) f p = p
on_err (Err e) f p = f p

more_counted : (a b c n : ℕ) → a ≡ b + 1 → b ≡ c → n ≡ suc c → a ≡ n
more_counted a b c n e f g = omega (arith, e, f, g)

-- the same was done, by a port that looked again
pub done_on : (port port' : PortState) (served served' : ServedNumbers) (made made' : List Glanced)
    (intents : List Intent) → port'.element ≡ port.element → served'.first ≡ served.first → made' ≡ made
    → Looked port.history port'.history port.element served.first served.entries.items served'.entries.items
    → AreDone port served made intents
    → AreDone port' served' made' intents
done_on port port' served served' made made' intents element start same l d = record {
  count = found_length port'.history port.element served.first served.entries.items served'.entries.items l.found
      ∙ d.count;
  answered = answered_as port'.history port.element port'.element served.first served'.first (ops_of intents)
      (ops_of intents) served'.entries.items element start refl
      (answered_on port.history port'.history port.element served.first
      (ops_of intents) served.entries.items served'.entries.items l d.answered);
  places = ap (map (λ (g : Glanced). (g.behind, g.address))) same ∙ d.places;
}

-- a request more
done_asked : (port port' : PortState) (served served' : ServedNumbers) (made made' : List Glanced)
    (op : Op) (intents : List Intent) → port'.element ≡ port.element → served'.first ≡ served.first → made' ≡ made
    → HasAsked port.history port'.history port.element served.first op served.entries.items served'.entries.items
    → AreDone port served made intents
    → AreDone port' served' made' (intents ++ Request op ∷ [])
done_asked port port' served served' made made' op intents element start same h d = record {
  count = more_counted _ _ _ _
      (asked_count port.history port'.history port.element served.first op served.entries.items served'.entries.items
      h) d.count (requests_more intents op);
  answered = answered_as port'.history port.element port'.element served.first served'.first
      (ops_of intents ++ op ∷ []) (ops_of (intents ++ Request op ∷ [])) served'.entries.items element start
      (ops_more intents op)
      (answered_more port.history port'.history port.element served.first
      (ops_of intents) op served.entries.items served'.entries.items h d.answered);
  places = ap (map (λ (g : Glanced). (g.behind, g.address))) same ∙ d.places ∙ sym (sites_same 0 intents op);
}

pub done_request : {T E : Type 0} (r : Result T E) (port port' : PortState) (served served' : ServedNumbers)
    (made made' : List Glanced) (op : Op) (intent : Intent) → intent ≡ Request op → port'.element ≡ port.element
    → served'.first ≡ served.first
    → OnOk r (HasAsked port.history port'.history port.element served.first op served.entries.items
    served'.entries.items) → made' ≡ made
    → OnOk r ((intents : List Intent) → AreDone port served made intents
    → AreDone port' served' made' (intents ++ intent ∷ []))
done_request r port port' served served' made made' op intent is element start asked same = on_ok r
    (λ h intents d. subst (λ (i : Intent). AreDone port' served' made' (intents ++ i ∷ [])) (sym is)
    (done_asked port port' served served' made made' op intents element start same h d)) asked

-- or none, as it was refused
pub done_refused : {T E : Type 0} (r : Result T E) (port port' : PortState) (served served' : ServedNumbers)
    (made made' : List Glanced) → port'.element ≡ port.element → served'.first ≡ served.first
    → OnErr r (Looked port.history port'.history port.element served.first served.entries.items served'.entries.items)
    → made' ≡ made
    → OnErr r ((intents : List Intent) → AreDone port served made intents → AreDone port' served' made' intents)
done_refused r port port' served served' made made' element start looked same = on_err r
    (λ l intents d. done_on port port' served served' made made' intents element start same l d) looked

behind_all : (n k m : ℕ) → n ≡ k → k ≡ m → n ≡ 0 + m
behind_all n k m e f = omega (arith, e, f)

-- a glance more
pub done_glance : {T E : Type 0} (r : Result T E) (port : PortState) (served : ServedNumbers)
    (made made' : List Glanced) (behind address : ℕ) (after value : Option ℕ) (intent : Intent)
    → intent ≡ Glance address
    → behind ≡ length served.entries.items
    → OnOk r (made' ≡ made ++ record { behind = behind; after = after; address = address; value = value } ∷ [])
    → OnOk r ((intents : List Intent) → AreDone port served made intents
    → AreDone port served made' (intents ++ intent ∷ []))
done_glance r port served made made' behind address after value intent asks at more = on_ok r
    (λ is intents d. subst (λ (i : Intent). AreDone port served made' (intents ++ i ∷ [])) (sym asks) (record {
      count = d.count ∙ sym (requests_same intents address);
      answered = answered_as port.history port.element port.element served.first served.first (ops_of intents)
          (ops_of (intents ++ Glance address ∷ [])) served.entries.items refl refl
          (ops_same intents address) d.answered;
      places = ap (map (λ (g : Glanced). (g.behind, g.address))) is
          ∙ map-append (λ (g : Glanced). (g.behind, g.address)) made _
          ∙ ap (λ l. l ++ (behind, address) ∷ []) d.places
          ∙ sym (sites_more 0 behind intents address (behind_all _ _ _ at d.count));
    })) more

-- or none, as it was refused
pub unglanced : {T E : Type 0} (r : Result T E) (port : PortState) (served : ServedNumbers) (made made' : List Glanced)
    (xs ys : List Change)
    → OnErr r ((made' ≡ made) × (ys ≡ xs))
    → OnErr r ((intents : List Intent) → AreDone port served made intents → AreDone port served made' intents)
unglanced r port served made made' xs ys same = on_err r
    (λ is intents d. subst (λ (l : List Glanced). AreDone port served l intents) (sym is.0) d) same

-- one thing after another
pub done_then : (p0 p1 p2 : PortState) (e0 e1 e2 : ServedNumbers) (g0 g1 g2 : List Glanced) (xs0 xs1 xs2 : List Intent)
    (intent : Intent)
    → (AreDone p0 e0 g0 xs0 → AreDone p1 e1 g1 xs1)
    → ((before : List Intent) → AreDone p1 e1 g1 before → AreDone p2 e2 g2 (before ++ intent ∷ [])) → xs2
    ≡ xs1 ++ intent ∷ [] → AreDone p0 e0 g0 xs0 → AreDone p2 e2 g2 xs2
done_then p0 p1 p2 e0 e1 e2 g0 g1 g2 xs0 xs1 xs2 intent first second is d = subst (AreDone p2 e2 g2) (sym is)
    (second xs1 (first d))

-- and a refusal then: all but the last was done
pub begun_then : (p0 p1 p2 : PortState) (e0 e1 e2 : ServedNumbers) (g0 g1 g2 : List Glanced) (xs0 xs1 xs2 : List Intent)
    (intent : Intent)
    → (AreDone p0 e0 g0 xs0 → AreDone p1 e1 g1 xs1)
    → ((before : List Intent) → AreDone p1 e1 g1 before → AreDone p2 e2 g2 before) → xs2
    ≡ xs1 ++ intent ∷ [] → AreDone p0 e0 g0 xs0 → HasBegun p2 e2 g2 xs2
begun_then p0 p1 p2 e0 e1 e2 g0 g1 g2 xs0 xs1 xs2 intent first second is d =
    (xs1, (intent ∷ [], sym is), second xs1 (first d))

one_more : (a b k n l m : ℕ) → a ≡ b + 1 → b + k ≡ n + l → m ≡ l + 1 → a + k ≡ n + m
one_more a b k n l m e f g = omega (arith, e, f, g)

-- and so one more was received
pub counted_then : (a b k n : ℕ) (xs ys : List Intent) (intent : Intent) → a ≡ b + 1 → b + k ≡ n + length xs → ys
    ≡ xs ++ intent ∷ [] → a + k ≡ n + length ys
counted_then a b k n xs ys intent e f is = one_more a b k n (length xs) (length ys) e f
    (ap length is ∙ length-append xs (intent ∷ []))

few_one : (a b k n l m : ℕ) → a ≤ b + 1 → b + k ≡ n + l → m ≡ l + 1 → a + k ≤ n + m
few_one a b k n l m e f g = omega (arith, e, f, g)

-- and so at most one more was done
pub few_then : (a b k n : ℕ) (xs ys : List Intent) (intent : Intent) → a ≤ b + 1 → b + k ≡ n + length xs → ys
    ≡ xs ++ intent ∷ [] → a + k ≤ n + length ys
few_then a b k n xs ys intent e f is = few_one a b k n (length xs) (length ys) e f
    (ap length is ∙ length-append xs (intent ∷ []))

-- or nothing more was received
pub counted_same : (a k n : ℕ) (xs ys : List Intent) → a + k ≡ n + length xs → ys ≡ xs → a + k ≡ n + length ys
counted_same a k n xs ys e is = e ∙ ap (λ (l : List Intent). n + length l) (sym is)

pub few_by : (a b : ℕ) → a ≡ b → a ≤ b
few_by a b e = omega (arith, e)

pub few_more : (a n x y : ℕ) → a ≤ n + x → x ≤ y → a ≤ n + y
few_more a n x y e f = omega (arith, e, f)

-- all of it was done, and so a beginning
pub begun_all : (p : PortState) (e : ServedNumbers) (g : List Glanced) (xs ys : List Intent) → ys ≡ xs
    → AreDone p e g xs → HasBegun p e g ys
begun_all p e g xs ys is d = (xs, ([], append-nil xs ∙ sym is), d)

-- whatever came of it
pub always : {T E P : Type 0} (r : Result T E) → P → OnOk r P
always (Ok x) p = p
always (Err e) p = tt

pub still_counted : (a b m k n : ℕ) → a ≡ b → b + m + k ≡ n → a + m + k ≡ n
still_counted a b m k n same is = omega (arith, same, is)

pub still_few : (a b m k n : ℕ) → a ≡ b → b + m + k ≤ n → a + m + k ≤ n
still_few a b m k n same few = omega (arith, same, few)

-- a beginning of more
pub begun_more : (p : PortState) (e : ServedNumbers) (g : List Glanced) (xs ys : List Intent) → IsPrefix xs ys
    → HasBegun p e g xs
    → HasBegun p e g ys
begun_more p e g xs ys within it = (it.0, prefix-trans it.0 xs ys it.1 within, it.2)
