-- What becomes of elements that are served all at once. (Own.)
use Rattle.std.proofs.Common.{◌≡◌, Bool, true, false, ◌⊎◌, List, [], ◌∷◌, ◌++◌, length, OnOk, Ok, Err, Result}
use Rattle.std.proofs.Common.{MatchResult, sym, refl, ap, ◌∙◌, subst, inl, inr, arith}
use Rattle.im_types.specs.Types.{Line, NoMemory, Contents}
use Rattle.{im_pipes.specs.Ends.PipeEnd, im_pipes.specs.Ends.PipeId, im_trace.proofs.ChainLemmas.prefix-trans}
use Rattle.im_serving.proofs.{CallsLemmas.makes_more, CallsLemmas.ops_longer, GlanceLemmas.begun_more}
use Rattle.im_serving.specs.{Calls.IsOwnCall, Calls.MakesOnly, declared.intent.Intent.Intent}
use Rattle.im_serving.specs.Elements.{AreEnded, Asked, Deeds, End, HasSent, HasStopped, IsEnded, IsUnserved}
use Rattle.im_serving.specs.Elements.{ServesIntents}
use Rattle.im_serving.specs.Serving.{AreDone, AreGlanced, HasBegun, ops_of}
use mathlib.Core.List.{IsPrefix}

from_none : {T E : Type 0} (r : Result T E) (P : List Intent → Type 0) (Q : Type 0) (before : List Intent) → before
    ≡ [] → OnOk r (P before → Q) → OnOk r (P [] → Q)
from_none (Ok x) P Q before none it = λ p. it (subst P (sym none) p)
from_none (Err e) P Q before none it = tt

-- a server did what came out of a pipe of which nothing had come before
pub has_stopped : (m : Contents) (marks : Line → Bool) (p : Deeds) (d : End) (before : List Intent)
    (outlet : PipeEnd Intent) → before ≡ []
    → d.deeds.port.element ≡ p.port.element → d.deeds.served.first ≡ p.served.first
    → (AreDone p.port p.served p.made before → HasBegun d.deeds.port d.deeds.served d.deeds.made outlet.items)
    → OnOk d.result (AreDone p.port p.served p.made before
    → AreDone d.deeds.port d.deeds.served d.deeds.made outlet.items)
    → OnOk d.result (outlet.ended ≡ true)
    → (AreGlanced m p.port.element p.last p.seen p.made
    → AreGlanced m p.port.element d.deeds.last d.deeds.seen d.deeds.made)
    → (AreDone p.port p.served p.made before
    → MakesOnly marks (IsOwnCall p.port.element p.served.first d.deeds.served.untold (ops_of outlet.items)) p.port
    d.deeds.port)
    → HasStopped m marks p d outlet
has_stopped m marks p d before outlet none element first begun done ended seen alone = (
  record {
    element = element;
    first = first;
    begun = λ (start : AreDone p.port p.served p.made []). begun
        (subst (AreDone p.port p.served p.made) (sym none) start);
    done = from_none d.result (AreDone p.port p.served p.made)
        (AreDone d.deeds.port d.deeds.served d.deeds.made outlet.items) before none done;
    seen = seen;
    alone = λ (start : AreDone p.port p.served p.made []). alone
        (subst (AreDone p.port p.served p.made) (sym none) start);
  },
  ended,
)

-- a server that is to ask for more
alone_more : (marks : Line → Bool) (p : Deeds) (d : End) (xs ys : List Intent) → IsPrefix xs ys
    → (AreDone p.port p.served p.made []
    → MakesOnly marks (IsOwnCall p.port.element p.served.first d.deeds.served.untold (ops_of xs)) p.port d.deeds.port)
    → AreDone p.port p.served p.made []
    → MakesOnly marks (IsOwnCall p.port.element p.served.first d.deeds.served.untold (ops_of ys)) p.port d.deeds.port
alone_more marks p d xs ys within it start = makes_more marks p.port.element p.served.first d.deeds.served.untold
    d.deeds.served.untold (ops_of xs) (ops_of ys) p.port d.deeds.port (omega arith) (ops_longer xs ys within) (it start)

-- it was refused, so a beginning is enough
refused_less : (m : Contents) (marks : Line → Bool) (p : Deeds) (d e : End) (xs ys : List Intent)
    → e ≡ record d { result = Err NoMemory }
    → IsPrefix xs ys → ServesIntents m marks p d.deeds d.result xs → ServesIntents m marks p e.deeds e.result ys
refused_less m marks p d e xs ys same within it =
    subst (λ (x : End). ServesIntents m marks p x.deeds x.result ys) (sym same) (record {
      element = it.element;
      first = it.first;
      begun = λ (start : AreDone p.port p.served p.made []). begun_more d.deeds.port d.deeds.served d.deeds.made xs ys
          within
          (it.begun start);
      done = tt;
      seen = it.seen;
      alone = alone_more marks p d xs ys within it.alone;
    })

whole_done : {T E : Type 0} (r : Result T E) (P : List Intent → Type 0) (Q : Type 0) (xs ys : List Intent) (b : Bool)
    → OnOk r (Q → P xs) → OnOk r (b ≡ true) → (b ≡ true → xs ≡ ys) → OnOk r (Q → P ys)
whole_done (Ok x) P Q xs ys b it ended whole = λ q. subst P (whole ended) (it q)
whole_done (Err e) P Q xs ys b it ended whole = tt

-- its threads have ended
pub settled : (m : Contents) (marks : Line → Bool) (p : Deeds) (d e : End) (outlet : PipeEnd Intent)
    (sent intents : List Intent)
    (all : Bool) → HasStopped m marks p d outlet → IsPrefix outlet.items sent
    → (outlet.ended ≡ true → outlet.items ≡ sent) → IsPrefix sent intents → (all ≡ true → sent ≡ intents)
    → ((all ≡ true) × (e ≡ d)) ⊎ ((all ≡ false) × (e ≡ record d { result = Err NoMemory }))
    → ServesIntents m marks p e.deeds e.result intents
settled m marks p d e outlet sent intents all it begins whole within sends (inl (wanted, same)) = subst
    (λ (x : End). ServesIntents m marks p x.deeds x.result intents) (sym same) (record {
      element = it.0.element;
      first = it.0.first;
      begun = λ (start : AreDone p.port p.served p.made []). begun_more d.deeds.port d.deeds.served d.deeds.made
          outlet.items intents
          (prefix-trans outlet.items sent intents begins within) (it.0.begun start);
      done = whole_done d.result (AreDone d.deeds.port d.deeds.served d.deeds.made)
          (AreDone p.port p.served p.made []) outlet.items intents outlet.ended it.0.done it.1
          (λ ended. whole ended ∙ sends wanted);
      seen = it.0.seen;
      alone = alone_more marks p d outlet.items intents (prefix-trans outlet.items sent intents begins within)
          it.0.alone;
    })
settled m marks p d e outlet sent intents all it begins whole within sends (inr (_, refused)) =
    refused_less m marks p d e outlet.items intents refused (prefix-trans outlet.items sent intents begins within) it.0

-- nothing was sent
pub unserved : (m : Contents) (marks : Line → Bool) (p : Deeds) (d e : End) (outlet : PipeEnd Intent)
    (sent : List Intent) (all : Bool)
    → HasStopped m marks p d outlet → IsPrefix outlet.items sent → sent ≡ [] → all ≡ false
    → ((all ≡ true) × (e ≡ d)) ⊎ ((all ≡ false) × (e ≡ record d { result = Err NoMemory })) → IsUnserved m marks p e
unserved m marks p d e outlet sent all it begins none not (inl (wanted, same)) = let is : false ≡ true = sym not
    ∙ wanted in absurd (cc)
unserved m marks p d e outlet sent all it begins none not (inr (_, refused)) = (
  refused_less m marks p d e outlet.items [] refused (subst (IsPrefix outlet.items) none begins) it.0,
  ap
      (λ (x : End). x.result) refused,
)

never : {T E : Type 0} (r : Result T E) (refusal : E) (P : Type 0) → r ≡ Err refusal → OnOk r P
never {T} {E} r refusal P is = subst (λ (x : Result T E). OnOk x P) (sym is) tt

-- whatever the part asks for
pub unserved_part : (m : Contents) (marks : Line → Bool) (p : Deeds) (d : End) (intents : List Intent)
    → IsUnserved m marks p d
    → ServesIntents m marks p d.deeds d.result intents
unserved_part m marks p d intents it = record {
  element = it.0.element;
  first = it.0.first;
  begun = λ (start : AreDone p.port p.served p.made []). begun_more d.deeds.port d.deeds.served d.deeds.made []
      intents (intents, refl)
      (it.0.begun start);
  done = never d.result NoMemory _ it.1;
  seen = it.0.seen;
  alone = alone_more marks p d [] intents (intents, refl) it.0.alone;
}

-- there was no memory for a pipe
pub given_up : (m : Contents) (marks : Line → Bool) (p : Deeds) (d : End)
    → d ≡ record { deeds = p; result = Err NoMemory }
    → IsUnserved m marks p d
given_up m marks p d is = subst (IsUnserved m marks p) (sym is) (
  record {
    element = refl;
    first = refl;
    begun = λ (start : AreDone p.port p.served p.made []). ([], ([], refl), start);
    done = tt;
    seen = λ seen. seen;
    alone = λ start quiet. refl;
  },
  refl,
)

-- its sender has ended, as a thread or because there was none
pub sent_by : {H S : Type 0} (r : Result H S) (pipe : PipeId Intent) (intents : List Intent)
    (into : H → PipeId Intent) (of : H → List Intent) (finished : S → PipeEnd Intent) (all : S → Bool) (sent : S)
    → MatchResult r (λ h. (into h ≡ pipe) × (of h ≡ intents)) (λ s. HasSent pipe intents (finished s) (all s))
    → MatchResult r (λ h. HasSent (into h) (of h) (finished sent) (all sent)) (λ s. sent ≡ s)
    → HasSent pipe intents (finished sent) (all sent)
sent_by (Ok h) pipe intents into of finished all sent known told =
    (told.0 ∙ known.0, subst (IsPrefix (finished sent).items) known.1 told.1, λ wanted. told.2 wanted ∙ known.1)
sent_by {H} {S} (Err s) pipe intents into of finished all sent known told = subst
    (λ (x : S). HasSent pipe intents (finished x) (all x)) (sym told) known

-- ---- one after another

pub ended_more : (m : Contents) (marks : Line → Bool) (parts : List Asked) (ends : List End) (p : Asked) (d : End)
    → AreEnded m marks parts ends
    → IsEnded m marks p d → AreEnded m marks (parts ++ p ∷ []) (ends ++ d ∷ [])
ended_more m marks [] [] p d all it = (it, tt)
ended_more m marks [] (e ∷ ends) p d all it = absurd all
ended_more m marks (q ∷ parts) [] p d all it = absurd all
ended_more m marks (q ∷ parts) (e ∷ ends) p d all it = (all.0, ended_more m marks parts ends p d all.1 it)

pub ended_length : (m : Contents) (marks : Line → Bool) (parts : List Asked) (ends : List End)
    → AreEnded m marks parts ends → length ends
    ≡ length parts
ended_length m marks [] [] all = refl
ended_length m marks [] (e ∷ ends) all = absurd all
ended_length m marks (q ∷ parts) [] all = absurd all
ended_length m marks (q ∷ parts) (e ∷ ends) all = let same = ended_length m marks parts ends all.1 in omega
    (arith, same)
