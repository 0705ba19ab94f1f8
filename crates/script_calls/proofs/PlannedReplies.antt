-- A reply that a transaction's own calls plan is the one that the script plans.
use Rattle.std.proofs.Common.{◌≡◌, ◌⊎◌, ℕ, Bool, true, false, List, [], ◌∷◌, find, Option, Some, None, inl, inr, refl, ap, sym, subst, ◌∙◌, if◌then◌else◌, ◌||◌}
use Rattle.dtx_values.specs.declared.call.Call.{Call}
use Rattle.dtx_values.specs.declared.message.Conn.{Conn}
use Rattle.dtx_values.specs.declared.note.Note.{Note}
use Rattle.dtx_values.specs.declared.note.Note.TheVariants.{Commit as CommitNote}
use Rattle.dtx_values.specs.declared.note.Plan.{Plan}
use Rattle.dtx_values.specs.declared.number.ActorNo.{ActorNo}
use Rattle.dtx_values.specs.declared.row.Row.{Row}
use Rattle.dtx_values.specs.declared.script.Line.{Line}
use Rattle.dtx_values.specs.Row.{is_of}
use Rattle.dtx_model.specs.Words.{has, or_else}
use Rattle.dtx_model.specs.Grammar.{are_named_well}
use Rattle.dtx_model.specs.Observed.{Observed, observe}
use Rattle.dtx_model.specs.Plans.{plan_of, planned as reply_planned}
use Rattle.dtx_model.specs.Replies.{conn_due, due_of, note_of_conn, note_of_row}
use Rattle.dtx_model.specs.Half.{is_gone}
use Rattle.dtx_model.specs.World.{World, half}
use Rattle.dtx_model.specs.Caused.{IsCallOf, IsIn, IsOwnRun, plans_of}
use Rattle.dtx_model.proofs.Lifting.{lift_ran}
use Rattle.history_table.proofs.Makers.{maker_called, ran_made}
use Rattle.script_histories.proofs.Planned.{plan_same}
use Rattle.history_table.proofs.EntryTests.{is_enlisted}
use Rattle.script_histories.proofs.ScriptCalls.{plans_same}
use Rattle.script_histories.proofs.ScriptCalls.{ran_calls}
use Rattle.history_table.proofs.TableRows.{enlisted_in_rows}

-- A reply other than an acknowledgement is due of an enlistment that stands.
found_stands : {A : Type 0} (p : A → Bool) (xs : List A) (x : A) → find p xs ≡ Some x → has p xs ≡ true
found_stands p [] x e = absurd cc
found_stands {A = A} p (y ∷ ys) x e = step (p y) y (find p ys) (has p ys) (found_stands p ys x) e
  where
    step : (b : Bool) (y : A) (o : Option A) (rest : Bool) → (o ≡ Some x → rest ≡ true) → (if b then Some y else o) ≡ Some x → (b || rest) ≡ true
    step true y o rest ih h = refl
    step false y o rest ih h = ih h

due_stands : (o : Observed) (e : ℕ) (n : Note) → due_of o e ≡ Some n → (n ≡ CommitNote) ⊎ (has (is_of e) o.table ≡ true)
unfolding due_of
due_stands o e n d = by (is_gone o e) (find (is_of e) o.table) refl d
  where
    on_conn : (c : Option Conn) → note_of_conn c ≡ Some n → n ≡ CommitNote
    on_conn (Some c) k = cc
    on_conn None k = absurd cc

    by : (b : Bool) (x : Option Row) → find (is_of e) o.table ≡ x → (if b then None else or_else (note_of_row o x) (note_of_conn (conn_due o e))) ≡ Some n
        → (n ≡ CommitNote) ⊎ (has (is_of e) o.table ≡ true)
    by true x f k = absurd cc
    by false None f k = inl (on_conn (conn_due o e) k)
    by false (Some x) f k = inr (found_stands (is_of e) o.table x f)

-- The plan of an enlistment that stands is the script's.
plan_here : (s : List Line) (t : ℕ) (w : World) (e : ℕ) → are_named_well s ≡ true → ((n : ℕ) (a : ActorNo) (c : Call) → IsIn w.calls n a c → IsCallOf s t n a c) → IsOwnRun t w → has (is_enlisted e) w.past ≡ true → plan_of w.calls e ≡ plans_of s e
plan_here s t w e named given own stands =
    let ran = lift_ran (IsIn w.calls) (IsCallOf s t) given t own.0 w own.1 in
    let m = ((ran_made (IsCallOf s t) t own.0 w ran).enlisted e stands).0 in
    ap (λ (p : ℕ → Plan). p e) (plans_same s t w.calls w.past (ran_calls s t own.0 w ran))
    ∙ plan_same s t e w.past named (record { number = m.number; actor = m.actor; call = m.call; given = m.may; passes = maker_called e m.call m.passes; called = m.called })

-- So what it plans to a note to which a reply of it is due is the same by its calls as by the script.
pub planned_here : (s : List Line) (t : ℕ) (w : World) (e : ℕ) (n : Note) → are_named_well s ≡ true → ((n : ℕ) (a : ActorNo) (c : Call) → IsIn w.calls n a c → IsCallOf s t n a c) → IsOwnRun t w → due_of (half w).seen e ≡ Some n
    → reply_planned (plan_of w.calls e) n ≡ reply_planned (plans_of s e) n
unfolding observe
planned_here s t w e n named given own due = elim (due_stands (half w).seen e n due) [
  | inl is ↦ subst (λ (o : Note). reply_planned (plan_of w.calls e) o ≡ reply_planned (plans_of s e) o) (sym is) refl
  | inr stands ↦
      let enlisted : has (is_enlisted e) w.past ≡ true = sym (enlisted_in_rows e w.past) ∙ stands in
      ap (λ (p : Plan). reply_planned p n) (plan_here s t w e named given own enlisted)
]
