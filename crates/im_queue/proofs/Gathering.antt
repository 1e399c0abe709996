-- A group, gathered element by element.
use Rattle.std.proofs.Common.{◌≡◌, ℕ, ◌+◌, ◌<◌, true, ◌≢◌, List, [], ◌∷◌, ◌++◌, slice_get, Some, None, Option, sym}
use Rattle.std.proofs.Common.{subst, inl, inr, arith}
use Rattle.std.specs.List.{AllByRecursion}
use Rattle.im_types.specs.Types.{Command, Contents}
use Rattle.im_trace.specs.Log.{sender_of, UnclaimedState}
use Rattle.im_queue.specs.Members.{are_joined, AreBelow, AreOneOfEach, AreSureBehind, Gathers, IsCut, IsSure}
use Rattle.im_queue.specs.Members.{IsSureBehind, MayJoin}

below_weaker : (e : ℕ) (rs : List Command) → AreBelow e rs → AreBelow (e + 1) rs
below_weaker e [] below = tt
below_weaker e (r ∷ rs) below = (omega (arith, below.0), below_weaker e rs below.1)

module _ (P : Command → Type 0) where
  pub all_push : (rs : List Command) (r : Command) → AllByRecursion P rs → P r → AllByRecursion P (rs ++ r ∷ [])
  all_push [] r all is = (is, tt)
  all_push (q ∷ rs) r all is = (all.0, all_push rs r all.1 is)

apart_push : (rs : List Command) (r : Command) → AreOneOfEach rs → AreBelow (sender_of r) rs
    → AreOneOfEach (rs ++ r ∷ [])
apart_push [] r apart below = (tt, tt)
apart_push (q ∷ rs) r apart below = (
  all_push (λ (c : Command). sender_of q ≢ sender_of c) rs r apart.0
      (λ same. absurd (omega (arith, below.0, same))),
  apart_push rs r apart.1 below.1,
)

cut_push : (rs : List Command) (r : Command) → IsCut rs → MayJoin r rs → IsCut (rs ++ r ∷ [])
cut_push [] r cut may = (tt, tt)
cut_push (q ∷ rs) r cut may = (
  all_push (λ (c : Command). are_joined q c ≡ true) rs r cut.0 may.0,
  cut_push rs r cut.1 may.1,
)

behind_push : (m : Contents) (rs : List Command) (r : Command) → AreSureBehind m rs → IsSureBehind m r rs
    → AreSureBehind m (rs ++ r ∷ [])
behind_push m [] r sure is = tt
behind_push m (q ∷ rs) r sure (inl none) = absurd (cc)
behind_push m (q ∷ rs) r sure (inr is) = all_push (IsSure m) rs r sure is

pub gathers_weaker : (places : List (Option UnclaimedState)) (m : Contents) (e : ℕ) (rs : List Command)
    → Gathers places m e rs → Gathers places m (e + 1) rs
gathers_weaker places m e rs g = record {
  apart = g.apart;
  free = g.free;
  below = below_weaker e rs g.below;
  cut = g.cut;
  sure = g.sure;
}

pub gathers_push : (places : List (Option UnclaimedState)) (m : Contents) (e : ℕ) (rs : List Command) (r : Command)
    → Gathers places m e rs → sender_of r ≡ e → slice_get places e ≡ Some None → MayJoin r rs
    → IsSureBehind m r rs → Gathers places m (e + 1) (rs ++ r ∷ [])
gathers_push places m e rs r g is free may sure = record {
  apart = apart_push rs r g.apart (subst (λ (n : ℕ). AreBelow n rs) (sym is) g.below);
  free = all_push (λ (c : Command). slice_get places (sender_of c) ≡ Some None) rs r g.free
      (subst (λ (n : ℕ). slice_get places n ≡ Some None) (sym is) free);
  below = all_push (λ (c : Command). sender_of c < e + 1) rs r (below_weaker e rs g.below) (omega (arith, is));
  cut = cut_push rs r g.cut may;
  sure = behind_push m rs r g.sure sure;
}
