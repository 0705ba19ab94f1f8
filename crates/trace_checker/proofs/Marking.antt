-- The flags with one more entry.
use Rattle.std.proofs.Common.{◌≡◌, ℕ, suc, Bool, true, false, cond, ◌==◌, ◌&&◌, ◌||◌, not, List, ◌∷◌, ap, arith}
use Rattle.std.proofs.lemmas.Bool.Decides.{nat_tests}
use Rattle.dtx_values.specs.declared.entry.Entry.{Entry}
use Rattle.dtx_values.specs.declared.words.Outcome.TheVariants.{Committed, Aborted}
use Rattle.dtx_values.specs.Table.{how_many}
use Rattle.dtx_model.specs.Entries.{is_any_hand, is_any_single_sent, is_commit, is_commit_got, is_decision, is_enlist_got, is_final, is_promoted, is_record, is_sealed, is_yes, is_yes_got}
use Rattle.dtx_model.specs.Outcome.{is_begin_end, is_outcome_got, is_voter_end}
use Rattle.trace_checker.specs.declared.marks.Marks.{Marks}
use Rattle.trace_checker.specs.declared.heard.Heard.{Heard}
use Rattle.trace_checker.specs.Marks.{IsMarksOf, marks_after}
use Rattle.trace_checker.specs.Heard.{IsHeardOf, heard_after}

pub marks_more : (h : List Entry) (x : Entry) (m : Marks) → IsMarksOf h m → IsMarksOf (x ∷ h) (marks_after x m)
marks_more h x m k = record {
  commit = ap (λ b. is_commit x || b) k.commit;
  sealed = ap (λ b. is_sealed x || b) k.sealed;
  promoted = ap (λ b. is_promoted x || b) k.promoted;
  recorded = ap (λ b. is_record x || b) k.recorded;
  yes = ap (λ b. is_yes x || b) k.yes;
  handed = ap (λ b. is_any_hand x || b) k.handed;
  single = ap (λ b. is_any_single_sent x || b) k.single;
  decided = ap (λ b. is_decision x || b) k.decided;
  committed = ap (λ b. is_final Committed x || b) k.committed;
  aborted = ap (λ b. is_final Aborted x || b) k.aborted;
}

none_more : (b : Bool) (n : ℕ) (o : Bool) → o ≡ (n == 0) → (not b && o) ≡ (cond b (suc n) n == 0)
none_more true n o k = grind (arith, nat_tests)
none_more false n o k = k

lone_more : (b : Bool) (n : ℕ) (o l : Bool) → o ≡ (n == 0) → l ≡ (n == 1) → cond b o l ≡ (cond b (suc n) n == 1)
lone_more true n o l k j = grind (arith, nat_tests)
lone_more false n o l k j = j

pub heard_more : (h : List Entry) (x : Entry) (d : Heard) → IsHeardOf h d → IsHeardOf (x ∷ h) (heard_after x d)
heard_more h x d k = record {
  commit = ap (λ b. is_commit_got x || b) k.commit;
  yes = ap (λ b. is_yes_got x || b) k.yes;
  begin_end = ap (λ b. is_begin_end x || b) k.begin_end;
  voter_end = ap (λ b. is_voter_end x || b) k.voter_end;
  outcome = ap (λ b. is_outcome_got x || b) k.outcome;
  nobody = none_more (is_enlist_got x) (how_many is_enlist_got h) d.nobody k.nobody;
  lone = lone_more (is_enlist_got x) (how_many is_enlist_got h) d.nobody d.lone k.nobody k.lone;
}
