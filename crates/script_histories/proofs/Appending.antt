-- What stands where an append may be tried, or there is a record: the transaction is ready, and COMMIT, YES and each vote were got. And where an abort is decided, none of this is so.
use Rattle.std.proofs.Common.{Bool, ◌&&◌, List, ◌≡◌, ℕ, true, ◌∷◌, ◌||◌, false}
use Rattle.std.proofs.lemmas.Bool.{false_from_ne_true}
use Rattle.dtx_values.specs.declared.entry.Entry.{Entry}
use Rattle.dtx_values.specs.declared.entry.Entry.TheVariants.{Got}
use Rattle.dtx_values.specs.declared.message.Conn.TheVariants.{Enl}
use Rattle.dtx_values.specs.declared.message.Dir.TheVariants.{Up}
use Rattle.dtx_values.specs.declared.message.Info.{Info}
use Rattle.dtx_values.specs.declared.message.Message.TheVariants.{EnlistPrepared, EnlistReadonly, EnlistEnlist}
use Rattle.dtx_model.specs.Words.{has, all_of, each}
use Rattle.dtx_model.specs.Entries.{is_commit_got, is_sealed, is_yes_got, is_vote_got, is_record}
use Rattle.dtx_model.specs.Outcome.{ready}
use Rattle.dtx_model.specs.Coordinated.{coordinate, may_log}
use Rattle.dtx_model.specs.Tied.{is_ready_got, can_log, enlist_got, before_first_stop, has_mark, is_logged, is_stop}
use Rattle.dtx_model.proofs.Bools.{and_both, or_right, not_both, not_true, and_left, and_right, or_case, or_false}
use Rattle.history_table.specs.Appended.{are_votes_got, has_append, stopped_at_append, backs_append, is_abort_decision}
use Rattle.history_table.proofs.Recording.{all_good, can_commit, can_ready, can_yes, good_at, good_stays, if_record, from_first, keeps_first, ready_if_good}
use Rattle.history_table.proofs.Scans.{each_more, has_more, has_less}
use Rattle.history_table.proofs.Keeping.{Keeps, newest}
use Rattle.history_table.proofs.Sendings.{record_of_mark, logged_record}
use Rattle.history_table.proofs.CoreKnown.{may_log_can}
use Rattle.history_table.proofs.Aborting.{barred_apart, decided_off, abort_latest, barred_unable}

-- What the coordinator got, and that it was sealed and each voted well: it stands where an append may come, and stays.
abbrev is_backed : List Entry → Bool
is_backed h = (has is_commit_got h && has is_yes_got h && are_votes_got h) && (has is_sealed h && all_good h)

ready_vote : (e : ℕ) (x : Entry) → is_ready_got e x ≡ true → is_vote_got e x ≡ true
ready_vote e (Got (Enl f) Up EnlistPrepared) k = k
ready_vote e (Got (Enl f) Up EnlistReadonly) k = k
ready_vote e x k = absurd cc

backed_at : (h : List Entry) → Keeps h → can_log h ≡ true → is_backed h ≡ true
backed_at h k c =
    and_both (has is_commit_got h && has is_yes_got h && are_votes_got h) (has is_sealed h && all_good h)
    (and_both (has is_commit_got h && has is_yes_got h) (are_votes_got h) (and_both (has is_commit_got h) (has is_yes_got h) (can_commit h c) (can_yes h c))
    (each_more (λ (i : Info). has (is_ready_got i.enl.value) h) (λ (i : Info). has (is_vote_got i.enl.value) h)
    (λ i r. has_more (is_ready_got i.enl.value) (is_vote_got i.enl.value) (ready_vote i.enl.value) h r) (all_of enlist_got h) (can_ready h c))) (good_at h k c)

votes_more : (x : Entry) (h : List Entry) → are_votes_got h ≡ true → each (λ (i : Info). has (is_vote_got i.enl.value) (x ∷ h)) (all_of enlist_got h) ≡ true
votes_more x h v =
    each_more (λ (i : Info). has (is_vote_got i.enl.value) h) (λ (i : Info). has (is_vote_got i.enl.value) (x ∷ h))
    (λ i r. or_right (is_vote_got i.enl.value x) (has (is_vote_got i.enl.value) h) r) (all_of enlist_got h) v

-- no ENLIST comes after COMMIT
votes_stay : (x : Entry) (h : List Entry) → Keeps (x ∷ h) → has is_commit_got h ≡ true → are_votes_got h ≡ true → are_votes_got (x ∷ h) ≡ true
votes_stay (Got (Enl e) Up (EnlistEnlist i)) h k c v =
    absurd (not_both (has is_commit_got h) c (not_true (has is_commit_got h) (newest (Got (Enl e) Up (EnlistEnlist i)) h k)))
votes_stay x h k c v = votes_more x h v

backed_stays : (x : Entry) (h : List Entry) → Keeps (x ∷ h) → is_backed h ≡ true → is_backed (x ∷ h) ≡ true
backed_stays x h k t =
    let got = and_left (has is_commit_got h && has is_yes_got h && are_votes_got h) (has is_sealed h && all_good h) t in
    let both = and_left (has is_commit_got h && has is_yes_got h) (are_votes_got h) got in
    let commit = and_left (has is_commit_got h) (has is_yes_got h) both in
    and_both (has is_commit_got (x ∷ h) && has is_yes_got (x ∷ h) && are_votes_got (x ∷ h)) (has is_sealed (x ∷ h) && all_good (x ∷ h))
    (and_both (has is_commit_got (x ∷ h) && has is_yes_got (x ∷ h)) (are_votes_got (x ∷ h))
    (and_both (has is_commit_got (x ∷ h)) (has is_yes_got (x ∷ h)) (or_right (is_commit_got x) (has is_commit_got h) commit)
    (or_right (is_yes_got x) (has is_yes_got h) (and_right (has is_commit_got h) (has is_yes_got h) both)))
    (votes_stay x h k commit (and_right (has is_commit_got h && has is_yes_got h) (are_votes_got h) got)))
    (good_stays x h k (and_right (has is_commit_got h && has is_yes_got h && are_votes_got h) (has is_sealed h && all_good h) t))

record_backed : (h : List Entry) → Keeps h → has is_record h ≡ true → is_backed h ≡ true
record_backed h k s = if_record is_backed backed_stays backed_at h k s

append_backed : (h : List Entry) → Keeps h → (has_append h || stopped_at_append h) ≡ true → is_backed h ≡ true
append_backed h k t =
    or_case (has_append h) (stopped_at_append h)
    (λ a. or_case (may_log (coordinate h) || has is_logged h) (has_mark h)
    (λ b. or_case (may_log (coordinate h)) (has is_logged h) (λ m. backed_at h k (may_log_can h k m)) (λ l. record_backed h k (has_more is_logged is_record logged_record h l)) b)
    (λ m. record_backed h k (record_of_mark h m)) a)
    (λ b. from_first is_backed backed_stays h k (backed_at (before_first_stop h) (keeps_first h k) (and_right (has is_stop h) (can_log (before_first_stop h)) b))) t

-- Where an append may be tried, was done, or may have been tried where the log stopped, and where there is a record, all that it needs stands.
pub append_ready : (h : List Entry) → Keeps h → (has_append h || stopped_at_append h) ≡ true → backs_append h ≡ true
append_ready h k t =
    let b = append_backed h k t in
    let got = and_left (has is_commit_got h && has is_yes_got h && are_votes_got h) (has is_sealed h && all_good h) b in
    let both = and_left (has is_commit_got h && has is_yes_got h) (are_votes_got h) got in
    and_both (ready h && has is_commit_got h && has is_yes_got h) (are_votes_got h)
    (and_both (ready h && has is_commit_got h) (has is_yes_got h)
    (and_both (ready h) (has is_commit_got h) (ready_if_good h k (and_right (has is_commit_got h && has is_yes_got h && are_votes_got h) (has is_sealed h && all_good h) b))
    (and_left (has is_commit_got h) (has is_yes_got h) both)) (and_right (has is_commit_got h) (has is_yes_got h) both))
    (and_right (has is_commit_got h && has is_yes_got h) (are_votes_got h) got)

-- Where an abort is decided, nothing was logged, there is no record, and none may be appended.
pub abort_unlogged : (h : List Entry) → Keeps h → has is_abort_decision h ≡ true → has_append h ≡ false
abort_unlogged h k d =
    let barred = (decided_off h k (abort_latest h k d)).barred in
    let none : has is_record h ≡ false = false_from_ne_true (has is_record h) (λ s. barred_apart h k barred s) in
    or_false (may_log (coordinate h) || has is_logged h) (has_mark h)
    (or_false (may_log (coordinate h)) (has is_logged h) (false_from_ne_true (may_log (coordinate h)) (λ m. barred_unable h k barred (may_log_can h k m)))
    (has_less is_logged is_record logged_record h none))
    (false_from_ne_true (has_mark h) (λ m. not_both (has is_record h) (record_of_mark h m) none))
