-- `into_loose` gives the pointer its type and its allocator again.
use Rattle.std.proofs.Common.{◌≡◌, List, [], ◌∷◌, ◌++◌, refl, sym, ap, ◌∙◌, subst, true, Option, Some}
use Rattle.std.specs.Prelude.{is_some}
use mir.Raw.{raw as bare}
use mir.Val.{Val, vptr, vstruct, vcons, vnil}
use base.Logic.{SProp, ent, emp, never, fst∗, id⊢}
use prog.Wp.{WpFn}
use types.Logic.{sem}
use types.Kit.{‵, raw, ◌⊛◌, ◌$◌, ◌∵◌, !, qed, by, move, keep, drop, split, fsplit, fjoin, rewrite, suffices, use0}
use types.Run.{stop, fld, of_opd, no_more, and_then, returns, enter}
use types.ByLocal.{alloc_all, pass_all, free_all, look_at, get, get_in, sets}
use types.Part.{agg, sub, whole}
use contract.Monad.{fact, fact_i}
use contract.Running.{tables}
use denote.RattleType.{RattleType, owns}
use denote.Memory.{lone}
use denote.Signature.{types_at, plain}
use denote.RawPtr.{Ptr, block_ptr, null_ptr, in_a_block}
use denote.Steps.{nothing, heard}
use denote.Triple.Entry.{alive}
use denote.Triple.Walked.{Stays, stay_dropped, walk_of}
use Rattle.std.proofs.alloc.Calls.{Goes-blank, handle_tells}
use Rattle.std.proofs.raw_atomic.Walks.{proved_at, leaves}
use Rattle.std.specs.Box.Ownership.{box_owns}
use Rattle.std.specs.contracts.alloc.Global as heap
use Rattle.std.specs.contracts.impls.GlobalAllocator.TheImpl.{ghosts}
use Rattle.std.proofs.alloc.Global.TheLaws as heap_laws
use Rattle.host_manager.specs.Host.{HostView}
use Rattle.host_manager.specs.contracts.host_manager.HostManager as manager
use Rattle.wirtozhak_c.specs.Owned.{owned_if}
use Rattle.wirtozhak_c.proofs.Filled.{filled}
use Rattle.wirtozhak_c.proofs.Values.{both, al, loose_good, loose_in}
use Rattle.wirtozhak_c.specs.contracts.handle.Held as held
use Rattle.wirtozhak_c.proofs.handle.Held.TheLaws.{lowers}
use Rattle.wirtozhak_c.specs.contracts.handle.Held.into_loose.{ended, clauses}
use Rattle.wirtozhak_c.specs.contracts.handle.Held.into_loose.Key.{name as #self}
use Rattle.wirtozhak_c.proofs.handle.Held.into_loose.Statement.{statement}
use Rattle.wirtozhak_c.proofs.handle.Held.into_loose.Code as code

pub into_loose_spec : {M : Type 1} → statement M
into_loose_spec 𝓤 𝓛 𝓜 𝓡 wired =
    let H = 𝓛.H in let 𝓣 = tables 𝓤 H 𝓜 𝓡 𝓡.env in let R : RattleType = manager.the_row in let Z : RattleType = heap.the_row in let LZ = heap_laws.the_row_laws in let g = ghosts in
    let En = ended in let c = clauses 𝓛 𝓜.mem 𝓡.returns in let fn = code.function in
    let hs : Stays En.signature.params En.kept = (stay_dropped (plain (λ _. held.the_row)) En.kept.0, (stay_dropped (plain (λ _. Z)) En.kept.1.0, tt)) in
    proved_at 𝓛 En hs c 𝓜 𝓡 (Goes-blank 𝓛 0 (plain (λ _. held.the_row)) En.kept.0 (λ κs x f. tt), (Goes-blank 𝓛 0 (plain (λ _. Z)) En.kept.1.0 (λ κs x f. tt), tt)) #self fn (code.unfolded 𝓤 H 𝓜 𝓡 wired) (λ z are.
    let v = z.0.3.0 in let a = z.0.3.1.0 in let vs = z.0.4.0 in let us = z.0.4.1.0 in let Post : Val → SProp 𝓤 = (walk_of 𝓛 En hs c).post z in let Run : List Val → SProp 𝓤 = λ ws. WpFn 𝓤 H 𝓣.C 𝓣.Λ fn ws Post in
    qed 𝓛 ((raw (alive 𝓛 En.signature z.0.0 z.0.1) ⊛ ‵ (owns (types_at En.signature.params z.0.0) z.0.3 z.0.4)) ∷ raw (fact 𝓤 (is_some v.value ≡ true)) ∷ []) ∵
    move ! (1 ∷ []) $ heard ! (is_some v.value ≡ true) (λ full. let m = (filled v.value full).0 in let is_m = (filled v.value full).1 in
    split ! $ move ! (1 ∷ []) $ fsplit ! $ fsplit ! $ drop ! $
    -- [what the handle owns; the allocator and the end; the tokens]
    rewrite ! 0 (λ (x : Option HostView). ‵ (owned_if (box_owns (g.dealloc_token a) R v.at) x)) is_m refl $
    in_a_block ! v.at (λ p. box_owns (g.dealloc_token a) R p m) (fst∗ 𝓤 (never 𝓤) (sem 𝓛 (g.dealloc_token a (bare (lone R.mir)) null_ptr))) (λ b o e.
    move ! (1 ∷ []) $ fsplit ! $ handle_tells (al R Z LZ g) ! a us (λ h word_a fits. move ! (2 ∷ 0 ∷ []) $
    let u : Val = vstruct (vcons (vptr b o) vnil) in let w : Val = both (vptr b o) h in let typed = loose_good R Z LZ g b o h fits in
    let word_v : vs ≡ u ∷ [] = lowers.val_is v vs are.0 ∙ ap (λ (p : Ptr). lowers.lowered (record v { at = p }) ∷ []) e in
    suffices ! (Run (u ∷ h ∷ [])) (subst (λ (ws : List Val). ent 𝓤 (Run (u ∷ h ∷ [])) (Run ws)) (sym (λ i. word_v i ++ (word_a i ++ []))) (id⊢ 𝓤 (Run (u ∷ h ∷ [])))) $
    enter ! 𝓣.C 𝓣.Λ fn (u ∷ h ∷ []) Post $ alloc_all ! (λ l. pass_all ! refl ((tt, (tt, tt)), (fits, tt)) $
    sets ! (of_opd ! (get_in ! (fld ! refl (stop !)) (sub ! 0 refl (whole !)))) refl (tt, tt) $
    sets ! (of_opd ! (get ! refl)) refl (tt, tt) $
    sets ! (agg ! (and_then ! (get ! refl) (and_then ! (get ! refl) (no_more !)))) refl typed $
    returns ! (look_at ! 0 refl) $ free_all ! refl $ keep ! (0 ∷ 1 ∷ 3 ∷ []) $ loose_in R Z LZ g ! b o h a m $
    use0 𝓛 (raw (fact 𝓤 (v.value ≡ Some m))) (fact_i 𝓤 (v.value ≡ Some m) (emp 𝓤) is_m) $ nothing ! $ nothing ! $ fjoin ! $ nothing ! $ fjoin ! $ keep ! (3 ∷ 0 ∷ 2 ∷ 1 ∷ []) $
    by ! (leaves 𝓛 En hs c z w (record { at = block_ptr b o; alloc = a; value = m }) (tt, (tt, tt)) (tt, (tt, tt))))))))
