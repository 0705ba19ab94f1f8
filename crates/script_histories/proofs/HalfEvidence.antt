-- While nothing is promoted and no owner answered, the rows show whether evidence stands; and so they do at the end of each block while nothing is decided.
use Rattle.std.proofs.Common.{◌≡◌, false, ◌&&◌, List, refl, ◌∙◌, ap, sym}
use Rattle.dtx_values.specs.declared.entry.Entry.{Entry}
use Rattle.dtx_values.specs.Owners.{is_evident}
use Rattle.dtx_model.specs.Words.{each, has}
use Rattle.dtx_model.specs.Entries.{is_commit, is_decision, is_good_vote, is_promoted, is_record, is_sealed}
use Rattle.dtx_model.specs.Observed.{rows}
use Rattle.dtx_model.specs.Outcome.{by_log, by_owner, by_seal, durables, enlisted, evidence, is_empty, owner_committed, ready, volatiles, voters}
use Rattle.history_table.proofs.EntryTests.{all_complete, is_answer}
use Rattle.script_histories.proofs.Evidence.{all_well, seal_alone, seal_step, uncommitted, volatile_well}
use Rattle.history_table.proofs.Keeping.{Keeps}
use Rattle.history_table.proofs.Recording.{commit_if_sealed, complete_if_sealed}
use Rattle.history_table.proofs.HalfRows.{evident_seen}
use Rattle.history_table.proofs.Undecided.{Stands, goes_on}

-- the volatiles vote where nothing is promoted
voters_local : (h : List Entry) → has is_promoted h ≡ false → voters h ≡ volatiles h
voters_local h p = rw p refl

-- where nothing is promoted and no owner answered, evidence stands where it is sealed and each is volatile and voted well
evidence_local : (h : List Entry) → Keeps h → has is_promoted h ≡ false → has is_answer h ≡ false → evidence h ≡ (has is_sealed h && all_well h)
unfolding evidence ready by_seal by_owner by_log
evidence_local h k p u =
    seal_alone (ready h) (has is_sealed h) (has is_promoted h) (has is_record h) (is_empty (durables h)) (owner_committed h (durables h)) p (uncommitted h (durables h) u)
    ∙ ap (λ xs. (has is_commit h && all_complete h && each (λ x. has (is_good_vote x.0.value) h) xs) && (has is_sealed h && is_empty (durables h))) (voters_local h p)
    ∙ seal_step (has is_sealed h) (has is_commit h) (all_complete h) (each (λ x. has (is_good_vote x.0.value) h) (volatiles h)) (is_empty (durables h))
    (commit_if_sealed h k) (complete_if_sealed h k)
    ∙ ap (λ b. has is_sealed h && b) (volatile_well (λ x. has (is_good_vote x.0.value) h) (enlisted h))

-- where nothing is promoted and no owner answered, the rows show whether evidence stands
pub evidence_shown : (h : List Entry) → Keeps h → has is_promoted h ≡ false → has is_answer h ≡ false → is_evident (has is_sealed h) (rows h) ≡ evidence h
evidence_shown h k p u = ap (λ b. has is_sealed h && b) (evident_seen h k) ∙ sym (evidence_local h k p u)

-- at the end of each block, while nothing is promoted and decided, the rows show whether evidence stands
pub evidence_at_end : (h : List Entry) → Stands h → has is_promoted h ≡ false → has is_decision h ≡ false → is_evident (has is_sealed h) (rows h) ≡ evidence h
evidence_at_end h s p d = evidence_shown h s.keeps p ((goes_on h s d).unanswered p)
