-- A settled history of a script that can commit is committed, promoted or not.
use Rattle.std.proofs.Common.{◌≡◌, ℕ, Bool, true, false, List, refl, ap}
use Rattle.std.specs.Prelude.{not}
use Rattle.dtx_values.specs.declared.entry.Entry.{Entry}
use Rattle.dtx_values.specs.declared.entry.Entry.TheVariants.{Promoting}
use Rattle.dtx_values.specs.declared.script.Line.{Line}
use Rattle.dtx_values.specs.declared.words.Outcome.TheVariants.{Committed}
use Rattle.dtx_model.specs.Words.{has}
use Rattle.dtx_model.specs.Entries.{is_client_told}
use Rattle.dtx_model.specs.Grammar.{are_named_well}
use Rattle.dtx_model.specs.Promotes.{is_promoting}
use Rattle.dtx_model.specs.Caused.{FreelyCaused, IsCallOf, Settled, is_unpromoted}
use Rattle.dtx_model.specs.History.{CanCommit}
use Rattle.dtx_model.proofs.Local.{free-local}
use Rattle.script_histories.proofs.Blocks.{script_kept}
use Rattle.outcome_law.proofs.Promotions.{promoted_committed}
use Rattle.script_histories.proofs.Runs.{free_run}
use Rattle.history_table.proofs.Scans.{has_more}
use Rattle.script_histories.proofs.Settled.{settled_committed}
use Rattle.outcome_law.proofs.Settlings.{settled_act, settled_unplanned}

same_entry : (x : Entry) → is_promoting x ≡ true → is_promoting x ≡ true
same_entry (Promoting c) k = k
same_entry _ k = absurd cc

unpromoted_committed : (s : List Line) (t : ℕ) (h : List Entry) → are_named_well s ≡ true → FreelyCaused (IsCallOf s t) t h → is_unpromoted h ≡ true → Settled s h → CanCommit s h → has (is_client_told Committed) h ≡ true
unpromoted_committed s t h named c u settled can =
    let kept = script_kept s t h named c u in
    let home = free-local (IsCallOf s t) t h c u in
    let run = free_run (IsCallOf s t) t h c u in
    settled_committed s h kept.rules (settled_act s t h named run home kept.rules settled) (settled_unplanned s t h named run home kept.rules settled) can

pub settled_told : (s : List Line) (t : ℕ) (h : List Entry) → are_named_well s ≡ true → FreelyCaused (IsCallOf s t) t h → Settled s h → CanCommit s h → has (is_client_told Committed) h ≡ true
settled_told s t h named c settled can = over (has is_promoting h) refl
  where
    over : (b : Bool) → has is_promoting h ≡ b → has (is_client_told Committed) h ≡ true
    over true q = promoted_committed s t h named c settled can (has_more is_promoting is_promoting same_entry h q)
    over false q = unpromoted_committed s t h named c (ap not q) settled can
