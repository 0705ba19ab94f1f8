-- Whom a call makes an enlistment of a manager stays that manager's, whatever is entered after it.
use Rattle.std.proofs.Common.{ℕ, suc, ◌≡◌, ◌∙◌, true, Bool, List, [], ◌∷◌, ◌++◌, refl, ap, subst, sym}
use Rattle.std.proofs.lemmas.List.Folds.{list_any-append}
use Rattle.dtx_values.specs.declared.call.Call.{Call}
use Rattle.dtx_values.specs.declared.call.Call.TheVariants.{Volatile}
use Rattle.dtx_model.specs.declared.waiting.EnteredCall.{EnteredCall}
use Rattle.dtx_model.specs.Caused.{AreMadeOnce, IsIn, IsOwnRun, makes_volatile}
use Rattle.dtx_model.specs.Words.{has}
use Rattle.dtx_model.specs.World.{World}
use Rattle.dtx_model.proofs.Bools.{or_right}
use Rattle.record_laws.specs.Recorded.{IsOf, IsVolatile}
use Rattle.record_laws.proofs.NamedManagers.{IsCallAt, at_has, is_maker_of, made_of, of_call, of_no_volatile}

-- the call that was entered last
pub call_first : (k : EnteredCall) (ks : List EnteredCall) (q : Call → Bool) → q k.call ≡ true → IsCallAt (k ∷ ks) q
call_first k ks q p = record { place = 0; entry = k; stands = refl; passes = p }

-- a call that was entered is one of more calls
call_more : (more ks : List EnteredCall) (q : Call → Bool) → IsCallAt ks q → IsCallAt (more ++ ks) q
call_more [] ks q a = a
call_more (m ∷ more) ks q a = let b = call_more more ks q a in record { place = suc b.place; entry = b.entry; stands = b.stands; passes = b.passes }

-- In a world that ran: whom one of the first calls makes an enlistment of a manager is that manager's,
pub made_in : (t : ℕ) (w : World) (more ks : List EnteredCall) (m e : ℕ) → AreMadeOnce (IsIn w.calls) → IsOwnRun t w → w.calls ≡ more ++ ks → IsCallAt ks (is_maker_of e m) → IsOf w m e
made_in t w more ks m e once run calls a =
    made_of t run.0 w once run.1 e m (subst (λ (xs : List EnteredCall). IsCallAt xs (is_maker_of e m)) (sym calls) (call_more more ks (is_maker_of e m) a))

-- and so is whom they made one before.
pub of_stays : (t : ℕ) (v w : World) (more : List EnteredCall) (m e : ℕ) → AreMadeOnce (IsIn w.calls) → IsOwnRun t w → w.calls ≡ more ++ v.calls → IsOf v m e → IsOf w m e
of_stays t v w more m e once run calls o = made_in t w more v.calls m e once run calls (of_call v.calls m e o)

-- Who is volatile stays so,
pub volatile_stays : (v w : World) (more : List EnteredCall) (e : ℕ) → w.calls ≡ more ++ v.calls → IsVolatile v e → IsVolatile w e
volatile_stays v w more e calls k =
    let p : EnteredCall → Bool = λ c. makes_volatile e c.call in
    ap (has p) calls ∙ (list_any-append p more v.calls ∙ or_right (has p more) (has p v.calls) k)

-- and is of no manager.
pub volatile_alone : (t : ℕ) (w : World) (m e : ℕ) → AreMadeOnce (IsIn w.calls) → IsOwnRun t w → IsVolatile w e → IsOf w m e → ⊥
volatile_alone t w m e once run k o =
    let a = at_has w.calls (makes_volatile e) k in
    of_no_volatile t run.0 w once run.1 m e o (record { place = a.place; entry = a.entry; stands = a.stands; passes = made a.entry.call a.passes })
  where
    made : (c : Call) → makes_volatile e c ≡ true → Rattle.history_table.proofs.Makers.makes_volatile e c ≡ true
    made (Volatile u f x v) p = p
    made _ p = absurd cc
