-- A history that keeps the joint table is sealed where each Zero row has a vote; nothing is enlisted after the seal; and a clone is made before it is complete.
use Rattle.std.proofs.Common.{◌≡◌, ℕ, true, ◌&&◌, List, ◌∷◌, refl, sym, ◌∙◌, subst}
use Rattle.std.specs.Prelude.{not}
use Rattle.std.proofs.lemmas.Bool.{eqb-true, false_from_ne_true}
use Rattle.dtx_values.specs.declared.entry.Entry.{Entry}
use Rattle.dtx_values.specs.declared.entry.Entry.TheVariants.{Cloned, Completed, Enlisted, Sealed}
use Rattle.dtx_values.specs.Class.{is_volatile}
use Rattle.dtx_model.specs.Words.{always, has}
use Rattle.dtx_model.specs.Entries.{is_commit, is_completed, is_decision, is_sealed}
use Rattle.dtx_model.specs.Wires.{opens}
use Rattle.dtx_values.specs.declared.message.Conn.TheVariants.{Enl}
use Rattle.dtx_model.proofs.Bools.{and_right, not_both, not_false, not_true}
use Rattle.history_table.proofs.EntryTests.{all_complete, is_cloned, is_enlisted, zeros_cast}
use Rattle.history_table.proofs.Tests.{second_of_five, fourth_of_five}
use Rattle.script_histories.proofs.ClosedTables.{is_closed_well}
use Rattle.history_table.proofs.Table.{class_row, is_settled_there, rule}
use Rattle.history_table.proofs.Keeping.{Keeps, before, keeps_before, newest, third_of_three}
use Rattle.history_table.proofs.HalfRows.{zeros_seen}
use Rattle.settled_histories.proofs.BeforeRows.{by_keeping}

-- who is complete was cloned
cloned_before : (n : ℕ) (h : List Entry) → Keeps h → has (is_completed n) h ≡ true → has (is_cloned n) h ≡ true
cloned_before n = before (is_completed n) (is_cloned n) (at n)
  where
    at : (n : ℕ) (x : Entry) (h : List Entry) → Keeps h → rule h x ≡ true → is_completed n x ≡ true → has (is_cloned n) h ≡ true
    at n (Completed c) h k r t =
        let P : ℕ → Type 0 = λ y. has (is_cloned y) h ≡ true in
        subst P (sym (eqb-true n c.value t)) (and_right (not (has is_decision h)) (has (is_cloned c.value) h) r)
    at n _ h k r t = absurd cc

pub kept_shut : (h : List Entry) → Keeps h → always is_closed_well h ≡ true
kept_shut = by_keeping is_closed_well at
  where
    at : (x : Entry) (h : List Entry) → Keeps (x ∷ h) → is_closed_well h x ≡ true
    at Sealed h k =
        zeros_seen h (keeps_before Sealed h k)
        ∙ fourth_of_five (not (has is_decision h)) (has is_commit h) (all_complete h) (zeros_cast h) (not (has is_sealed h) && is_settled_there h) (newest Sealed h k)
    at (Enlisted e c) h k =
        second_of_five (not (has is_decision h)) (not (has is_sealed h)) (not (has (is_enlisted e.value) h)) (class_row h e.value c) (not (is_volatile c && has (opens (Enl e)) h))
        (newest (Enlisted e c) h k)
    at (Cloned c w) h k =
        not_false (has (is_completed c.value) h)
        (false_from_ne_true (has (is_completed c.value) h)
        (λ q. not_both (has (is_cloned c.value) h) (cloned_before c.value h (keeps_before (Cloned c w) h k) q)
        (not_true (has (is_cloned c.value) h) (third_of_three (not (has is_decision h)) (not (has is_commit h)) (not (has (is_cloned c.value) h)) (newest (Cloned c w) h k)))))
    at x h k = refl
