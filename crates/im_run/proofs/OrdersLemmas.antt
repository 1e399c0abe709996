-- What each element asks for in a script, as its lines are read. (Own.)
use Rattle.std.proofs.Common.{◌≡◌, ℕ, zero, suc, ◌+◌, Bool, true, false, not, ◌&&◌, List, [], ◌∷◌, ◌++◌, map, length}
use Rattle.std.proofs.Common.{is_ok, is_err, IfOk, if◌then◌else◌, OnOk, IsSome, ◌==◌, slice_get, slice_set, Some, None}
use Rattle.std.proofs.Common.{Ok, Err, Option, Result, option_map, option_and_then, sym, refl, ap, ◌∙◌, subst, ap₂}
use Rattle.std.proofs.Common.{append_assoc, append-nil, arith, Bor}
use Rattle.std.proofs.{lemmas.Option.slice_get_past, lemmas.Option.slice_get_within, Math.ListN.length-set}
use Rattle.std.specs.Option.{option_map_or}
use Rattle.{im_types.specs.Types.Op, im_serving.specs.declared.Intent.Intent}
use Rattle.im_laws.proofs.Tests.{eq_by_test, some_same, test-self, true_false}
use Rattle.im_script.specs.declared.{Action.Action, Allocation.Allocation, ScriptLine.ScriptLine}
use Rattle.im_script.specs.declared.Action.TheVariants.{Alloc, Fetch, Put, Release, Reset, Store, Take}
use Rattle.im_script.specs.declared.Heard.{Heard, TheVariants.Glances, TheVariants.Says}
use Rattle.im_script.specs.declared.Place.{Place, TheVariants.Address, TheVariants.Named}
use Rattle.im_script.specs.declared.Said.{Said, TheVariants.Asks, TheVariants.Block}
use Rattle.im_script.specs.Places.{action_op, as_u32, place_address}
use Rattle.im_script.specs.Script.{Draft, heard, lines_of}
use Rattle.im_serial.proofs.NotedLemmas.{get_set_here, get_set_other}
use Rattle.im_serial.specs.{Asked.Wanted, Asked.wanted_by, Had.met_all, Had.news}
use Rattle.im_run.specs.declared.sheet.Order.{Order}
use Rattle.im_run.specs.Orders.{AddsGlance, AddsRequest, all_asked_in_part, AreInTurn, AreOrdersFrom, ArePartsThere}
use Rattle.im_run.specs.Orders.{ArePlaced, Ask, ask_if, ask_of, asked_in_part, asks_among, asks_from, BeginsAmong}
use Rattle.im_run.specs.Orders.{HasAdded, HasHeard, HasMissed, HasReadTo, HaveOps, intents_at, line_asks, lines_heard}
use Rattle.im_run.specs.Orders.{part_of, request_asked, settled_past}
use mathlib.Core.List.{IsPrefix}
use Rattle.im_types.specs.declared.operations.Op.TheVariants as op
use Rattle.im_serving.specs.declared.intent.Intent.TheVariants as intent_kinds

-- ---- results

-- a growth that wasn't refused
pub grown : {A T E : Type 0} (r : Result T E) (some none new : List A) → new ≡ (if is_ok r then some else none)
    → is_err r ≡ false → new ≡ some
grown (Ok x) some none new is well = is
grown (Err e) some none new is well = absurd (true_false well)

pub ok_if : {T E : Type 0} (P : Type 0) (r : Result T E) → P → OnOk r P
ok_if P (Ok x) it = it
ok_if P (Err e) it = tt

pub if_ok_at : {T E : Type 0} (P : T → Type 0) (r : Result T E) (x : T) → r ≡ Ok x → IfOk r P → P x
if_ok_at P r x is it = subst (λ (s : Result _ _). IfOk s P) is it

pub match_ok : {T E : Type 0} (P : Type 0) (r : Result T E) (x : T) → r ≡ Ok x → OnOk r P → P
match_ok P r x is it = subst (λ (s : Result _ _). OnOk s P) is it

pub if_ok_map : {T E : Type 0} (P Q : T → Type 0) (r : Result T E) → IfOk r P → ((x : T) → P x → Q x) → IfOk r Q
if_ok_map P Q (Ok x) it f = f x it
if_ok_map P Q (Err e) it f = tt

-- what is so of the other result
pub if_ok_of : {T E : Type 0} (P : T → Type 0) (r s : Result T E) → IfOk r (λ x. s ≡ Ok x) → IfOk s P → IfOk r P
if_ok_of P (Ok x) s is it = if_ok_at P s x is it
if_ok_of P (Err e) s is it = tt

pub on_ok_map : {T E : Type 0} (P Q : Type 0) (r : Result T E) → OnOk r P → (P → Q) → OnOk r Q
on_ok_map P Q (Ok x) it f = f it
on_ok_map P Q (Err e) it f = tt

-- ---- more names

get_left : (xs ys : List ℕ) (at x : ℕ) → slice_get xs at ≡ Some x → slice_get (xs ++ ys) at ≡ Some x
get_left [] ys at x is = absurd (cc)
get_left (y ∷ xs) ys zero x is = is
get_left (y ∷ xs) ys (suc at) x is = get_left xs ys at x is

named_longer : (bases more : List ℕ) (index offset a : ℕ) (found : Option ℕ) → slice_get bases index ≡ found
    → option_and_then (λ base. as_u32 (base + offset)) found ≡ Some a
    → option_and_then (λ base. as_u32 (base + offset)) (slice_get (bases ++ more) index) ≡ Some a
named_longer bases more index offset a (Some base) is e =
    ap (option_and_then (λ (b : ℕ). as_u32 (b + offset))) (get_left bases more index base is) ∙ e
named_longer bases more index offset a None is e = absurd (cc)

pub address_longer : (bases more : List ℕ) (place : Place) (a : ℕ) → place_address bases place ≡ Some a
    → place_address (bases ++ more) place ≡ Some a
address_longer bases more (Address b) a e = e
address_longer bases more (Named index offset) a e =
    named_longer bases more index offset a (slice_get bases index) refl e

mapped_longer : (f : ℕ → Op) (bases more : List ℕ) (place : Place) (o : Op) (found : Option ℕ)
    → place_address bases place ≡ found → option_map f found ≡ Some o
    → option_map f (place_address (bases ++ more) place) ≡ Some o
mapped_longer f bases more place o (Some a) is e = ap (option_map f) (address_longer bases more place a is) ∙ e
mapped_longer f bases more place o None is e = absurd (cc)

pub op_longer : (bases more : List ℕ) (action : Action) (o : Op) → action_op bases action ≡ Some o
    → action_op (bases ++ more) action ≡ Some o
op_longer bases more (Alloc kind length) o e = e
op_longer bases more (Release place) o e =
    mapped_longer op.Release bases more place o (place_address bases place) refl e
op_longer bases more (Reset place) o e = mapped_longer op.Reset bases more place o (place_address bases place) refl e
op_longer bases more (Fetch place) o e = mapped_longer op.Fetch bases more place o (place_address bases place) refl e
op_longer bases more (Store place value) o e =
    mapped_longer (λ a. op.Store a value) bases more place o (place_address bases place) refl e
op_longer bases more (Take place) o e = mapped_longer op.Take bases more place o (place_address bases place) refl e
op_longer bases more (Put place value) o e =
    mapped_longer (λ a. op.Put a value) bases more place o (place_address bases place) refl e

-- ---- one order

turn_set : (orders : List Order) (at element : ℕ) (o new : Order) → slice_get orders at ≡ Some o
    → new.element ≡ o.element → AreInTurn element orders → AreInTurn element (slice_set orders at new)
turn_set [] at element o new is same it = absurd (cc)
turn_set (x ∷ orders) zero element o new is same it =
    (same ∙ ap (λ (p : Order). p.element) (sym (some_same x o is)) ∙ it.0, it.1)
turn_set (x ∷ orders) (suc at) element o new is same it =
    (it.0, turn_set orders at (suc element) o new is same it.1)

module _ (orders : List Order) (at : ℕ) (o new : Order) (intent : Intent) (is : slice_get orders at ≡ Some o)
    (pushed : new.intents.items ≡ o.intents.items ++ intent ∷ []) where
  intents_set : (k : ℕ) (b : Bool) → (at == k) ≡ b
      → intents_at (slice_set orders at new) k ≡ intents_at orders k ++ (if b then intent ∷ [] else [])
  intents_set k true test =
      let same : at ≡ k = eq_by_test at k test in
      let here : slice_get (slice_set orders at new) k ≡ Some new =
      subst (λ (i : ℕ). slice_get (slice_set orders at new) i ≡ Some new) same
      (get_set_here orders at new (slice_get_within orders at o is)) in
      let was : slice_get orders k ≡ Some o = subst (λ (i : ℕ). slice_get orders i ≡ Some o) same is in
      ap (λ (p : Option Order). option_map_or (λ (q : Order). q.intents.items) p []) here ∙ pushed
      ∙ ap (λ (p : Option Order). option_map_or (λ (q : Order). q.intents.items) p [] ++ intent ∷ []) (sym was)
  intents_set k false test =
      let other : slice_get (slice_set orders at new) k ≡ slice_get orders k = get_set_other orders at new k
      (λ same. true_false (sym (test-self at) ∙ ap (λ (i : ℕ). at == i) (sym same) ∙ test)) in
      ap (λ (p : Option Order). option_map_or (λ (q : Order). q.intents.items) p []) other
      ∙ sym (append-nil (intents_at orders k))

  pub added_at : new.element ≡ o.element
      → HasAdded (λ k. if at == k then intent ∷ [] else []) orders (slice_set orders at new)
  added_at same = record {
    intents = λ k. intents_set k (at == k) refl;
    places = turn_set orders at 0 o new is same;
    count = length-set orders at new;
  }

pub added_as : (f g : ℕ → List Intent) (old new : List Order) → ((k : ℕ) → g k ≡ f k) → HasAdded f old new
    → HasAdded g old new
added_as f g old new same it = record {
  intents = λ k. it.intents k ∙ ap (λ (l : List Intent). intents_at old k ++ l) (sym (same k));
  places = it.places;
  count = it.count;
}

added_none : (f : ℕ → List Intent) (orders : List Order) → ((k : ℕ) → f k ≡ []) → HasAdded f orders orders
added_none f orders none = record {
  intents = λ k. sym (append-nil (intents_at orders k))
      ∙ ap (λ (l : List Intent). intents_at orders k ++ l) (sym (none k));
  places = λ it. it;
  count = refl;
}

-- a request, and a glance
pub adds_request : (bases : List ℕ) (w : Wanted) (o : Op) (old new : List Order) → w.named ≡ false
    → action_op bases w.action ≡ Some o
    → HasAdded (λ k. if w.element == k then intent_kinds.Request o ∷ [] else []) old new → AddsRequest bases w old new
adds_request bases w o old new part is it = λ more.
    let there : action_op (bases ++ more) w.action ≡ Some o = op_longer bases more w.action o is in (
      subst IsSome (sym there) refl,
      added_as _ _ old new (λ k.
          ap (λ (b : Bool). if not b && (w.element == k) then request_asked (bases ++ more) w else []) part
          ∙ ap (λ (p : Option Op). if w.element == k
          then option_map_or (λ (q : Op). intent_kinds.Request q ∷ []) p [] else []) there) it,
    )

pub adds_glance : (bases : List ℕ) (glancer : ℕ) (place : Place) (a : ℕ) (old new : List Order)
    → place_address bases place ≡ Some a
    → HasAdded (λ k. if glancer == k then intent_kinds.Glance a ∷ [] else []) old new
    → AddsGlance bases glancer place old new
adds_glance bases glancer place a old new is it = λ more.
    let there : place_address (bases ++ more) place ≡ Some a = address_longer bases more place a is in (
      subst IsSome (sym there) refl,
      added_as _ _ old new (λ k. ap (λ (p : Option ℕ). if glancer == k
          then option_map_or (λ (b : ℕ). intent_kinds.Glance b ∷ []) p [] else []) there) it,
    )

-- ---- one line

-- it is settled, or asks for nothing
pub heard_nothing : (had left before bases : List ℕ) (said : Said) (orders : List Order) → IsPrefix before bases
    → news had (wanted_by said) ≡ [] → left ≡ met_all had (wanted_by said)
    → HasHeard had (Says said) before bases orders orders left
heard_nothing had left before bases said orders longer none is = record {
  longer = longer;
  settled = is;
  adds = λ more. (
    subst (HaveOps (bases ++ more)) (sym none) tt,
    added_none _ orders (λ k. ap (all_asked_in_part (bases ++ more) k) none),
  );
}

-- it makes a block
pub heard_block : (had left before bases : List ℕ) (said : Said) (b : Allocation) (orders : List Order)
    → said ≡ Block b → IsPrefix before bases → news had (wanted_by said) ≡ wanted_by said
    → left ≡ met_all had (wanted_by said) → HasHeard had (Says said) before bases orders orders left
heard_block had left before bases said b orders block longer new is =
    let same : news had (wanted_by said) ≡ wanted_by (Block b) = new ∙ ap wanted_by block in
    record {
      longer = longer;
      settled = is;
      adds = λ more. (
        subst (HaveOps (bases ++ more)) (sym same) (refl, tt),
        added_none _ orders (λ k. ap (all_asked_in_part (bases ++ more) k) same),
      );
    }

-- it is a request of a part
pub heard_asked : (had left before bases known : List ℕ) (said : Said) (line : ScriptLine) (old new : List Order)
    → said ≡ Asks line → known ≡ bases → IsPrefix before bases
    → AddsRequest known (record { element = line.element; action = line.action; named = false }) old new
    → news had (wanted_by said) ≡ wanted_by said → left ≡ met_all had (wanted_by said)
    → HasHeard had (Says said) before bases old new left
heard_asked had left before bases known said line old new asks known_is longer adds all is =
    let w : Wanted = record { element = line.element; action = line.action; named = false } in
    let same : news had (wanted_by said) ≡ w ∷ [] = all ∙ ap wanted_by asks in
    let here : AddsRequest bases w old new = subst (λ (b : List ℕ). AddsRequest b w old new) known_is adds in
    record {
      longer = longer;
      settled = is;
      adds = λ more. let it = here more in (
        subst (HaveOps (bases ++ more)) (sym same) (it.0, tt),
        added_as _ _ old new (λ k. ap (all_asked_in_part (bases ++ more) k) same
            ∙ append-nil (asked_in_part (bases ++ more) k w)) it.1,
      );
    }

-- it is a glance
pub heard_glance : (had bases known : List ℕ) (h : Heard) (glancer : ℕ) (place : Place) (old new : List Order)
    → h ≡ Glances glancer place → known ≡ bases → AddsGlance known glancer place old new
    → HasHeard had h bases bases old new had
heard_glance had bases known h glancer place old new is known_is adds =
    subst (λ (l : Heard). HasHeard had l bases bases old new had) (sym is) (record {
      longer = ([], append-nil bases);
      settled = refl;
      adds = subst (λ (b : List ℕ). AddsGlance b glancer place old new) known_is adds;
    })

pub prefix_same : (xs ys : List ℕ) → ys ≡ xs → IsPrefix xs ys
prefix_same xs ys same = ([], append-nil xs ∙ sym same)

-- of orders that are the same
pub heard_from : (had : List ℕ) (h : Heard) (before bases : List ℕ) (old mid new : List Order) (left : List ℕ)
    → mid ≡ old → HasHeard had h before bases mid new left → HasHeard had h before bases old new left
heard_from had h before bases old mid new left same it =
    subst (λ (l : List Order). HasHeard had h before bases l new left) same it

-- ---- one line after another

pub read_none : (had bases : List ℕ) (all rest : List Heard) (orders : List Order) → rest ≡ all
    → HasReadTo had all orders had rest bases orders
read_none had bases all rest orders same = record {
  intents = λ more k. ap (λ (l : List Heard). intents_at orders k ++ part_of (bases ++ more) had k l) same;
  placed = λ more it. subst (ArePlaced (bases ++ more) had) same it;
  places = λ it. it;
  count = refl;
}

heard_behind : (d : Draft) (behind : Option (Bor (List ℕ)))
    → lines_heard d (option_map_or (λ rest. lines_of rest.now) behind [])
    ≡ option_map_or (λ rest. lines_heard d (lines_of rest.now)) behind []
heard_behind d (Some rest) = refl
heard_behind d None = refl

-- what a line says stands in front
pub line_heard : (d next : Draft) (h : Heard) (text line : List ℕ) (behind : Option (Bor (List ℕ)))
    → lines_of text ≡ line ∷ option_map_or (λ rest. lines_of rest.now) behind [] → heard true d line ≡ Some (next, h)
    → lines_heard d (lines_of text) ≡ h ∷ option_map_or (λ r. lines_heard next (lines_of r.now)) behind []
line_heard d next h text line behind lines read = ap (lines_heard d) lines
    ∙ ap (λ (o : Option (Draft × Heard)). option_map_or (λ r. r.1 ∷ lines_heard r.0
    (option_map_or (λ rest. lines_of rest.now) behind [])) o []) read
    ∙ ap (λ (l : List Heard). h ∷ l) (heard_behind next behind)

module _ (had : List ℕ) (all : List Heard) (old mid new : List Order) (before left : List ℕ) (d next : Draft)
    (h : Heard) (text line : List ℕ) (behind : Option (Bor (List ℕ))) (bases later : List ℕ)
    (lines : lines_of text ≡ line ∷ option_map_or (λ rest. lines_of rest.now) behind [])
    (read : heard true d line ≡ Some (next, h))
    (so_far : HasReadTo had all old before (lines_heard d (lines_of text)) bases mid)
    (it : HasHeard before h bases later mid new left) where
  abbrev others : List Heard
  others = option_map_or (λ r. lines_heard next (lines_of r.now)) behind []

  lines_are : lines_heard d (lines_of text) ≡ h ∷ others
  lines_are = line_heard d next h text line behind lines read

  bases_are : (more : List ℕ) → bases ++ (it.longer.0 ++ more) ≡ later ++ more
  bases_are more = sym (append_assoc bases it.longer.0 more) ∙ ap (λ (l : List ℕ). l ++ more) it.longer.1

  was : (more : List ℕ) (k : ℕ) → intents_at mid k ++ part_of (later ++ more) before k (h ∷ others)
      ≡ intents_at old k ++ part_of (later ++ more) had k all
  was more k =
      subst (λ (l : List Heard). intents_at mid k ++ part_of (later ++ more) before k l
      ≡ intents_at old k ++ part_of (later ++ more) had k all) lines_are
      (subst (λ (b : List ℕ). intents_at mid k ++ part_of b before k (lines_heard d (lines_of text))
      ≡ intents_at old k ++ part_of b had k all) (bases_are more) (so_far.intents (it.longer.0 ++ more) k))

  now : (more : List ℕ) (k : ℕ) → intents_at new k ++ part_of (later ++ more) left k others
      ≡ intents_at old k ++ part_of (later ++ more) had k all
  now more k =
      let asks = line_asks (later ++ more) before k h in
      let behind_it = part_of (later ++ more) (settled_past before h) k others in
      ap (λ (l : List ℕ). intents_at new k ++ part_of (later ++ more) l k others) it.settled
      ∙ ap (λ (l : List Intent). l ++ behind_it) ((it.adds more).1.intents k)
      ∙ append_assoc (intents_at mid k) asks behind_it ∙ was more k

  pub read_line : HasReadTo had all old left others later new
  read_line = record {
    intents = now;
    placed = λ more placed. subst (λ (b : List ℕ). ArePlaced b had all) (bases_are more)
        (so_far.placed (it.longer.0 ++ more) (subst (λ (b : List ℕ). ArePlaced b before
        (lines_heard d (lines_of text))) (sym (bases_are more)) (subst (ArePlaced (later ++ more) before)
        (sym lines_are) (
          (it.adds more).0,
          subst (λ (l : List ℕ). ArePlaced (later ++ more) l others) it.settled
              placed,
        ))));
    places = λ first. (it.adds []).1.places (so_far.places first);
    count = (it.adds []).1.count ∙ so_far.count;
  }

-- the rest of the lines, if there are some
pub rest_some : (had : List ℕ) (all : List Heard) (old new : List Order) (left bases : List ℕ) (d : Draft)
    (rest : Option (Bor (List ℕ))) (text : Bor (List ℕ)) → rest ≡ Some text
    → HasReadTo had all old left (option_map_or (λ t. lines_heard d (lines_of t.now)) rest []) bases new
    → HasReadTo had all old left (lines_heard d (lines_of text.now)) bases new
rest_some had all old new left bases d rest text some it = subst (λ (o : Option (Bor (List ℕ))).
    HasReadTo had all old left (option_map_or (λ t. lines_heard d (lines_of t.now)) o []) bases new) some it

pub rest_none : (had : List ℕ) (all : List Heard) (old new : List Order) (left bases : List ℕ) (d : Draft)
    (rest : Option (Bor (List ℕ))) → rest ≡ None
    → HasReadTo had all old left (option_map_or (λ t. lines_heard d (lines_of t.now)) rest []) bases new
    → HasReadTo had all old left [] bases new
rest_none had all old new left bases d rest none it = subst (λ (o : Option (Bor (List ℕ))).
    HasReadTo had all old left (option_map_or (λ t. lines_heard d (lines_of t.now)) o []) bases new) none it

-- ---- the elements of its parts

pub there_start : (elements : ℕ) (all rest : List Heard) (missing : Option ℕ) → rest ≡ all
    → HasMissed elements all rest missing
there_start elements all rest missing same = λ none there. subst (ArePartsThere elements) same there

pub there_line : (elements : ℕ) (all : List Heard) (d next : Draft) (h : Heard) (rest : Option (Bor (List ℕ)))
    (text : Bor (List ℕ)) (line : List ℕ) (behind : Option (Bor (List ℕ))) (was now : Option ℕ) → rest ≡ Some text
    → lines_of text.now ≡ line ∷ option_map_or (λ r. lines_of r.now) behind [] → heard true d line ≡ Some (next, h)
    → (now ≡ None → (was ≡ None) × BeginsAmong elements h)
    → HasMissed elements all (option_map_or (λ t. lines_heard d (lines_of t.now)) rest []) was
    → HasMissed elements all (option_map_or (λ t. lines_heard next (lines_of t.now)) behind []) now
there_line elements all d next h rest text line behind was now some lines read found so_far = λ none there.
    let it = found none in
    so_far it.0 (subst
    (λ (o : Option (Bor (List ℕ))).
    ArePartsThere elements (option_map_or (λ t. lines_heard d (lines_of t.now)) o [])) (sym some)
    (subst (ArePartsThere elements) (sym (line_heard d next h text.now line behind lines read)) (it.1, there)))

pub there_end : (elements : ℕ) (all : List Heard) (d : Draft) (rest : Option (Bor (List ℕ))) (missing : Option ℕ)
    → rest ≡ None → HasMissed elements all (option_map_or (λ t. lines_heard d (lines_of t.now)) rest []) missing
    → missing ≡ None → ArePartsThere elements all
there_end elements all d rest missing none it = λ there. it there (subst
    (λ (o : Option (Bor (List ℕ))).
    ArePartsThere elements (option_map_or (λ t. lines_heard d (lines_of t.now)) o [])) (sym none) tt)

-- ---- all orders

-- none asks for anything yet
pub turn_more : (orders : List Order) (element : ℕ) (o : Order) → AreInTurn element orders
    → o.element ≡ element + length orders → AreInTurn element (orders ++ o ∷ [])
turn_more [] element o it is = (omega (arith, is), tt)
turn_more (x ∷ orders) element o it is = (it.0, turn_more orders (suc element) o it.1 (omega (arith, is)))

pub blank_more : (orders : List Order) (o : Order) → ((k : ℕ) → intents_at orders k ≡ []) → o.intents.items ≡ []
    → (k : ℕ) → intents_at (orders ++ o ∷ []) k ≡ []
blank_more [] o none is zero = is
blank_more [] o none is (suc k) = refl
blank_more (x ∷ orders) o none is zero = none 0
blank_more (x ∷ orders) o none is (suc k) = blank_more orders o (λ i. none (suc i)) is k

-- one that asks for something
pub ask_some : (intents : List Intent) (element first many : ℕ) → many ≡ length intents → (many == 0) ≡ false
    → ask_if intents element first ≡ record { element = element; first = first; intents = intents } ∷ []
ask_some [] element first many count some =
    absurd (true_false (sym (test-self 0) ∙ ap (λ (n : ℕ). n == 0) (sym count) ∙ some))
ask_some (intent ∷ intents) element first many count some = refl

pub ask_none : (intents : List Intent) (element first many : ℕ) → many ≡ length intents → (many == 0) ≡ true
    → ask_if intents element first ≡ []
ask_none [] element first many count none = refl
ask_none (intent ∷ intents) element first many count none =
    let zero_is = eq_by_test many 0 none in absurd (omega (arith, count, zero_is))

among_from : (first : ℕ → ℕ) (asked : ℕ → List Intent) (orders : List Order) (element : ℕ)
    → AreInTurn element orders → ((i : ℕ) → intents_at orders i ≡ asked (element + i))
    → asks_among first orders ≡ asks_from asked first element (length orders)
unfolding asks_from
among_from first asked [] element it same = refl
among_from first asked (o ∷ orders) element it same =
    let here : element + 0 ≡ element = omega arith in
    let head : ask_if o.intents.items o.element (first o.element) ≡ ask_if (asked element) element (first element) =
    ap (λ (l : List Intent). ask_if l o.element (first o.element)) (same 0 ∙ ap asked here)
    ∙ ap (λ (e : ℕ). ask_if (asked element) e (first e)) it.0 in
    let behind : (i : ℕ) → intents_at orders i ≡ asked (suc element + i) = λ i.
    let next : element + suc i ≡ suc element + i = omega arith in same (suc i) ∙ ap asked next in
    ap₂ (λ (l r : List Ask). l ++ r) head (among_from first asked orders (suc element) it.1 behind)

pub orders_read : (first : ℕ → ℕ) (had left bases : List ℕ) (script : List Heard) (none orders numbered : List Order)
    → AreInTurn 0 none → ((k : ℕ) → intents_at none k ≡ [])
    → HasReadTo had script none left [] bases orders
    → map ask_of numbered ≡ asks_among first orders → AreOrdersFrom first had bases script (map ask_of numbered)
orders_read first had left bases script none orders numbered turn blank it asked =
    let whole : (k : ℕ) → intents_at orders k ≡ part_of bases had k script = λ k.
    sym (append-nil (intents_at orders k)) ∙ it.intents [] k
    ∙ ap (λ (l : List Intent). l ++ part_of (bases ++ []) had k script) (blank k)
    ∙ ap (λ (b : List ℕ). part_of b had k script) (append-nil bases) in
    record {
      many = length orders;
      all = asked ∙ among_from first (λ k. part_of bases had k script) orders 0 (it.places turn)
          (λ k. let same : k ≡ 0 + k = omega arith in whole k ∙ ap (λ (i : ℕ). part_of bases had i script) same);
      none = λ k past. sym (whole k)
          ∙ ap (λ (o : Option Order). option_map_or (λ (p : Order). p.intents.items) o [])
          (slice_get_past orders k past);
      placed = subst (λ (b : List ℕ). ArePlaced b had script) (append-nil bases) (it.placed [] tt);
    }
