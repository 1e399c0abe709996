-- `into_parts` moves two fields, and what they own goes with them.
use mathlib.{Core.Path.refl, Core.Path.sym, Core.Path.subst, Core.Path.◌≡◌, Core.List.List, Core.List.[], Core.List.◌∷◌}
use mathlib.Core.List.{◌++◌}
use seplogic.Ra.Ura.{Ura}
use mir.Val.{Val}
use base.{Logic.SProp, Logic.ent, Logic.id⊢, Fml.ftrue, Fml.fsep}
use prog.{Memory.Memory, Routine.Routine, Wp.WpFn, Wp.Tables}
use types.Kit.{Item, ‵, raw, ◌⊛◌, ◌$◌, ◌∵◌, !, qed, by, move, drop, use1, join, split, fsplit, fjoin, suffices, done}
use types.Run.{stop, fld, no_more, and_then, of_opd, returns, enter}
use types.ByLocal.{alloc_all, pass_all, free_all, look_at, get, get_in, sets}
use types.{Logic.Logic, Logic.sem, Part.whole, Part.sub, Part.agg}
use contract.{Monad.Fun, Monad.fact, Running.tables, Running.tables_of}
use sound.WpLaws.{WpFn-mono}
use denote.Triple.Walked.{says, Stays, stay_dropped, walk_of, ends_at, Goes-dropped, walk_Meets}
use denote.{Exit.yes, Signature.type_at, Steps.nothing, Steps.heard, Triple.Spec.triple_of, Triple.Table.entered}
use denote.RawPtr.{Ptr}
use Rattle.std.proofs.{Common.IsSome, Common.Some, Common.None, Common.Global, lemmas.Bool.false≢true}
use Rattle.std.specs.declared.option.Option.{Option}
use Rattle.std_alloc.proofs.BoxSteps.{Form.B, Form.box_typed, Form.D, Form.word, Steps.box_in, Steps.box_out}
use Rattle.im_c.proofs.AsImage.{E, FromHandle as From}
use Rattle.im_c.specs.contracts.image.LtImage.into_parts.Key.{name as #self}
use Rattle.im_c.specs.contracts.image.LtImage as Handle
use Rattle.im_c.specs.contracts.image.LtImage.into_parts as F
use Rattle.im_c.proofs.image.LtImage.into_parts.Statement as stated
use Rattle.im_c.proofs.image.LtImage.into_parts.Code as code

abbrev stayed : Stays (F.ended).signature.params (F.ended).kept
stayed = (stay_dropped From yes, tt)

abbrev X : Type 0
X = (E.row).Denot

some_of : (o : Option X) → IsSome o → (x : X) × (o ≡ Some x)
some_of None is = absurd (false≢true is)
some_of (Some x) is = (x, refl)

as_box : {M : Type 1} {𝓤 : Ura M} (𝓛 : Logic 𝓤) (p : Ptr) (a : Global) (o : Option X) (x : X) → o ≡ Some x
    → (vs : List Val)
    → ent 𝓤 (sem 𝓛 (Handle.the_row.own_val (record { ptr = p; alloc = a; value = o }) vs))
    (sem 𝓛 ((B E).own_val (record { ptr = p; alloc = a; value = x }) vs))
as_box {𝓤 = 𝓤} 𝓛 p a o x e vs = subst
    (λ (o' : Option X). ent 𝓤 (sem 𝓛 (Handle.the_row.own_val (record { ptr = p; alloc = a; value = o' }) vs))
    (sem 𝓛 ((B E).own_val (record { ptr = p; alloc = a; value = x }) vs))) (sym e) (id⊢ 𝓤 _)

module _ {M : Type 1} {𝓤 : Ura M} (𝓛 : Logic 𝓤) (at_mem : Memory → SProp 𝓤) (run : Routine → Fun 𝓤)
    (𝓣 : Tables 𝓤 𝓛.H) where
  open 𝓛 use {H}

  walk : (z : (walk_of 𝓛 F.ended stayed (F.clauses 𝓛 at_mem run)).Ghost)
      → ent 𝓤 ((walk_of 𝓛 F.ended stayed (F.clauses 𝓛 at_mem run)).pre z)
      (WpFn 𝓤 H 𝓣.C 𝓣.Λ code.function (z.0.4.0 ++ []) ((walk_of 𝓛 F.ended stayed (F.clauses 𝓛 at_mem run)).post z))
  walk z =
      let Post = (walk_of 𝓛 F.ended stayed (F.clauses 𝓛 at_mem run)).post z in
      let h = z.0.3.0 in
      qed 𝓛 ((‵ ftrue ⊛ ‵ (fsep (Handle.the_row.own_val h z.0.4.0) ftrue)) ∷ raw
      (fact 𝓤 (IsSome h.value)) ∷ []) ∵ move ! (1 ∷ []) $ heard ! (IsSome h.value) (λ is.
      let found = some_of h.value is in
      let v : D E = record { ptr = h.ptr; alloc = h.alloc; value = found.0 } in
      let To = type_at (F.signature).result tt in
      let made : To.Denot = record { ptr = v.ptr; alloc = v.alloc; value = v.value } in
      split ! $ drop ! $ fsplit ! $ use1 𝓛 (‵ ((B E).own_val v z.0.4.0))
      (as_box 𝓛 h.ptr h.alloc h.value found.0 found.1 z.0.4.0) $
      box_out E ! v z.0.4.0
      (λ b o hv e ws fa. box_in E ! v b o v.value e refl $ use1 𝓛 (‵ (To.own_val made (word E hv b o ∷ [])))
      (id⊢ 𝓤 _) $ move ! (1 ∷ 2 ∷ []) $ drop ! $ drop ! $
      let w = word E hv b o in
      let Γ : List (Item 𝓤) = ‵ (To.own_val made (w ∷ [])) ∷ [] in
      by ! (subst (λ (us : List Val). ent 𝓤 (types.Kit.⋆ 𝓛 Γ) (WpFn 𝓤 H 𝓣.C 𝓣.Λ code.function (us ++ []) Post)) (sym ws)
      (qed 𝓛 Γ ∵ enter ! 𝓣.C 𝓣.Λ code.function (w ∷ []) _ $ alloc_all !
      (λ ls. pass_all ! refl (box_typed E hv b o fa, tt) $
      sets ! (of_opd ! (get_in ! (fld ! refl (stop !)) (sub ! 0 refl (whole !)))) refl (tt, tt) $ sets !
      (of_opd ! (get_in ! (fld ! refl (stop !)) (sub ! 1 refl (whole !)))) refl fa $
      sets ! (of_opd ! (get ! refl)) refl (tt, tt) $
      sets ! (agg ! (and_then ! (get ! refl) (and_then ! (get ! refl) (no_more !)))) refl
      (box_typed E hv b o fa) $ returns ! (look_at ! 0 refl) $ free_all ! refl $
      suffices ! _ (ends_at 𝓛 F.ended stayed (F.clauses 𝓛 at_mem run) z w made (tt, tt) (tt, tt)) $ says ! found.1 $
      nothing ! $ nothing ! $ fjoin ! $ join ! $ nothing ! $ join ! $ done !)))))

pub into_parts_spec : {M : Type 1} → stated.statement M
unfolding tables_of
into_parts_spec 𝓤 𝓛 𝓜 𝓡 wired =
    let 𝓣 : Tables 𝓤 𝓛.H = tables_of 𝓤 𝓛.H 𝓜 (tables 𝓤 𝓛.H 𝓜 𝓡 𝓡.env) in
    entered 𝓤 𝓛.H (triple_of 𝓛 F.signature (F.spec 𝓛 𝓜.mem 𝓡.returns)) 𝓣.C 𝓣.Λ #self code.function
    (code.unfolded 𝓤 𝓛.H 𝓜 𝓡 wired)
    (walk_Meets 𝓛 F.ended stayed (Goes-dropped 𝓛 0 From yes (λ κs x f. refl), tt) (F.clauses 𝓛 𝓜.mem 𝓡.returns)
    (WpFn 𝓤 𝓛.H 𝓣.C 𝓣.Λ code.function) (WpFn-mono 𝓤 𝓛.H 𝓛.laws 𝓣 code.function)
    (walk 𝓛 𝓜.mem 𝓡.returns 𝓣))
