use Rattle.std.proofs.Common.{ℕ, true, false, ◌≡◌, List, sym, subst}
use Rattle.std.proofs.lemmas.Bool.{false_from_ne_true}
use Rattle.dtx_values.specs.declared.entry.Entry.{Entry}
use Rattle.dtx_values.specs.declared.number.EnlNo.{EnlNo}
use Rattle.dtx_model.specs.AtLog.{is_restart}
use Rattle.dtx_model.specs.Caused.{AreMadeOnce, IsIn, IsOwnRun}
use Rattle.dtx_model.specs.Entries.{is_asked, is_good_vote}
use Rattle.dtx_model.specs.Words.{has}
use Rattle.dtx_model.specs.World.{World, core}
use Rattle.coordinator_core.specs.Acting.{record_for}
use Rattle.history_table.proofs.Keeping.{Keeps}
use Rattle.history_table.proofs.Managed.{is_enlist_by}
use Rattle.history_table.proofs.Steady.{run_keeps}
use Rattle.history_table.proofs.Table.{is_enlist_got, stands_volatile}
use Rattle.settled_histories.proofs.BeforeRows.{made_volatile}
use Rattle.settled_histories.proofs.UnstoppedTies.{unrestarted_tied}
use Rattle.record_laws.specs.Recorded.{IsOf, RecordsVotes, is_named, is_vote_yes}
use Rattle.record_laws.proofs.NamedDesks.{asked_if_yes, named_voted, voted_named}
use Rattle.record_laws.proofs.NamedManagers.{of_number, of_unvolatile, sent_named}
use Rattle.record_laws.proofs.TriedRecords.{come_if_asked, tried_good, tried_unaborted, tried_unhanded}
use Rattle.record_laws.proofs.records_votes.Goals as goal

all_recorded : (t : ℕ) (w : World) → AreMadeOnce (IsIn w.calls) → IsOwnRun t w → has is_restart w.past ≡ false → RecordsVotes t w
all_recorded t w once run n = record {
  unhanded = λ r. tried_unhanded h k r;
  unaborted = λ r e. tried_unaborted h k n r e;
  voted = λ r m e o a. let f = of_number w.calls m e o in
      subst (λ i. has (is_good_vote i) h ≡ true) f.1 (tried_good f.0 h k r (came m f.0 (subst (IsOf w m) (sym f.1) o) (subst (λ i. has (is_asked i) h ≡ true) (sym f.1) a)));
  named = λ r m e s. named_voted w.calls t h k own m e s;
  names = λ r m e o y. let f = of_number w.calls m e o in
      let mine : IsOf w m f.0.value = subst (IsOf w m) (sym f.1) o in
      let voted : has (is_vote_yes f.0.value) h ≡ true = subst (λ i. has (is_vote_yes i) h ≡ true) (sym f.1) y in
      subst (λ i. is_named m i (record_for t (core w)) ≡ true) f.1
      (voted_named w.calls t h k n r own m f.0 mine voted (came m f.0 mine (asked_if_yes f.0.value h k voted)));
}
  where
    h : List Entry
    h = w.past

    k : Keeps h
    k = run_keeps (IsIn w.calls) t run.0 w once run.1 (unrestarted_tied h n)

    own : (e r : ℕ) → has (is_enlist_by e r) h ≡ true → IsOf w r e
    own = sent_named t run.0 w once run.1

    came : (m : ℕ) (f : EnlNo) → IsOf w m f.value → has (is_asked f.value) h ≡ true → has (is_enlist_got f.value) h ≡ true
    came m f o a = come_if_asked f h k (false_from_ne_true (stands_volatile f.value h) (λ v. of_unvolatile t run.0 w once run.1 m f.value o (made_volatile f.value h v))) a

pub returns : goal.returns
returns c = all_recorded
