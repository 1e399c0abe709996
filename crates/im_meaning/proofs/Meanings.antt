-- What an image reads as, by its parts.
use Rattle.std.proofs.Common.{◌≡◌, ℕ, ◌+◌, ◌*◌, ◌<◌, Bool, true, false, ◌⊎◌, List, length, drop, Some, None, Ok, Err}
use Rattle.std.proofs.Common.{Option, Result, MatchOption, sym, refl, ap, ◌∙◌, subst, inl, inr}
use Rattle.im_types.specs.Types.{Command, Refusal, BadPage, Contents, Layout, ring_of, area_of, Header, header_place}
use Rattle.im_types.specs.Types.{is_open_header, header_of, header_fault, IsBoundary, Tail, tail, Shows, Reached}
use Rattle.im_types.specs.Types.{accept_in, reached_by, reached_after, read_journal, IsShown, Reads}
use Rattle.{im_disk.specs.Since.SameBut, im_journal.proofs.Later.tail_later}
use Rattle.im_meaning.proofs.Headers.{in_force, in_force_is, no_header_fault}
use Rattle.im_meaning.proofs.Writes.{stays_closed, takes_over}
use Rattle.im_meaning.specs.Images.{Follows, IsImage, IsPrepared, IsRead, other}

abbrev Outcome : Layout → List ℕ → Result Reached Refusal → Option Refusal → Type 0
Outcome l file outcome fault = MatchOption fault
    (((m : Contents) × IsShown l file m × (outcome ≡ read_journal l file m))
    ⊎ (((m : Contents) → IsShown l file m → ⊥) × (outcome ≡ Err BadPage)))
    (λ fault. outcome ≡ Err fault)

pub image_reads : (l : Layout) (h : Header) (shown m : Contents) (commands : List Command) (room : ℕ) (c : List ℕ)
    → IsImage l h shown commands room c
    → accept_in l shown commands ≡ Some m
    → Reads l c (Ok (record { contents = m; count = h.count + length commands; room = room }))
image_reads l h shown m commands room c it accepts =
    let r : Reached = record { contents = m; count = h.count + length commands; room = room } in
    let is : header_of c ≡ h = in_force_is l h c it.in_force in
    let shows : IsShown l c shown = subst (λ (x : Header). Shows l x.sizes (area_of l x.sizes x.area c) shown)
    (sym is) it.shows in
    let reads : read_journal l c shown ≡ Ok r =
    ap (λ (x : Header). reached_after l x.count shown (tail (ring_of l x.sizes) x.count c)) is
    ∙ ap (λ (t : Option Tail). reached_after l h.count shown t) it.journal
    ∙ ap (λ (o : Option Contents). reached_by (h.count + length commands) room o) accepts in
    subst (λ (o : Option Refusal). Outcome l c (Ok r) o) (sym (no_header_fault l h c it.in_force))
    (inl (shown, shows, sym reads))

-- the parts of what is read

record Ran (l : Layout) (first : ℕ) (m : Contents) (t : Option Tail) (r : Reached) : Type 0 where
  end : Tail
  is : t ≡ Some end
  accepts : accept_in l m end.commands ≡ Some r.contents
  count : r.count ≡ first + length end.commands
  room : r.room ≡ end.room

ran_by : (l : Layout) (first : ℕ) (m : Contents) (t : Tail) (r : Reached) (o : Option Contents)
    → accept_in l m t.commands ≡ o → Ok r ≡ reached_by (first + length t.commands) t.room o → Ran l first m (Some t) r
ran_by l first m t r None e is = absurd (cc)
ran_by l first m t r (Some m2) e is =
    let same : r ≡ (let x : Reached = record { contents = m2; count = first + length t.commands; room = t.room } in x) = cc in
    record {
      end = t;
      is = refl;
      accepts = e ∙ ap (λ (x : Reached). Some x.contents) (sym same);
      count = ap (λ (x : Reached). x.count) same;
      room = ap (λ (x : Reached). x.room) same;
    }

ran : (l : Layout) (first : ℕ) (m : Contents) (t : Option Tail) (r : Reached) → Ok r ≡ reached_after l first m t
    → Ran l first m t r
ran l first m None r is = absurd (cc)
ran l first m (Some t) r is = ran_by l first m t r (accept_in l m t.commands) refl is

read_by : (l : Layout) (c : List ℕ) (r : Reached) (o : Option Refusal) → header_fault l c ≡ o → Outcome l c (Ok r) o
    → IsRead l c r
read_by l c r None good (inl it) =
    let end : Ran l (header_of c).count it.0
    (tail (ring_of l (header_of c).sizes) (header_of c).count c) r = ran l _ _ _ r it.2 in
    record {
      header = header_of c;
      shown = it.0;
      commands = end.end.commands;
      image = record {
        in_force = in_force l c good;
        shows = it.1;
        journal = end.is ∙ ap
            (λ (n : ℕ). Some (let t : Tail = record { commands = end.end.commands; room = n } in t)) (sym end.room);
      };
      accepts = end.accepts;
      count = end.count;
    }
read_by l c r None good (inr it) = let is : Ok r ≡ Err BadPage = it.1 in absurd (cc)
read_by l c r (Some fault) good it = let is : Ok r ≡ Err fault = it in absurd (cc)

pub read_image : (l : Layout) (c : List ℕ) (r : Reached) → Reads l c (Ok r) → IsRead l c r
read_image l c r it = read_by l c r (header_fault l c) refl it

-- the next header takes over

module _ (l : Layout) (h next : Header) (shown after : Contents) (commands : List Command) (room k : ℕ)
    (c d : List ℕ) (it : IsImage l h shown commands room c)
    (some : 0 < h.sizes.slots) (follows : Follows l h next) (ready : IsPrepared l h next after c)
    (but : SameBut (4096 * other h) 1 c d)
    (count : next.count ≡ h.count + k) (boundary : IsBoundary (ring_of l h.sizes) h.count k c) where
  later : tail (ring_of l h.sizes) next.count c ≡ Some (record { commands = drop k commands; room = room })
  later = subst (λ (n : ℕ). tail (ring_of l h.sizes) n c ≡ Some (record { commands = drop k commands; room = room }))
      (sym count)
      (tail_later (ring_of l h.sizes) h.count k c commands room it.journal boundary)

  pub opened_image : is_open_header (header_place (other h) d) ≡ true → IsImage l next after (drop k commands) room d
  opened_image opened = takes_over l h next shown after commands
      (drop k commands) room c d it some follows ready but later opened

  pub one_of_two : IsImage l h shown commands room d ⊎ IsImage l next after (drop k commands) room d
  one_of_two = by_gate (is_open_header (header_place (other h) d)) refl
    where
      by_gate : (b : Bool) → is_open_header (header_place (other h) d) ≡ b → IsImage l h shown commands room d
          ⊎ IsImage l next after (drop k commands) room d
      by_gate true opened = inr (opened_image opened)
      by_gate false closed = inl
          (stays_closed l h next shown after commands (drop k commands) room c d it some follows ready but later closed)
