-- Where the record was freed, or may have been, each durable or promotable that voted yes acknowledged: it is finished, and that only by its acknowledgement, since it voted yes and nobody is told that it
-- aborted where there was a record.
use Rattle.std.proofs.Common.{◌≡◌, ◌∙◌, ℕ, ◌==◌, Bool, true, false, ◌&&◌, ◌||◌, inl, inr, List, [], ◌∷◌, Option, Some, None, refl, subst, sym}
use Rattle.std.specs.Prelude.{filter, not, if◌then◌else◌}
use Rattle.std.proofs.lemmas.Bool.{eqb-true, false_from_ne_true, or_left}
use Rattle.std.proofs.lemmas.Nat.Bits.{bit_at-zero}
use Rattle.dtx_values.specs.declared.call.Call.{Call}
use Rattle.dtx_values.specs.declared.entry.Ask.TheVariants.{Prepare}
use Rattle.dtx_values.specs.declared.entry.Entry.{Entry}
use Rattle.dtx_values.specs.declared.entry.Entry.TheVariants.{Acked, Asked, Enlisted, Freed, Got, Logged, Recovered, Reenlisted, Restarted, Sent, Stopped, Told, Voted}
use Rattle.dtx_values.specs.declared.entry.Party.TheVariants.{Enl as Member}
use Rattle.dtx_values.specs.declared.message.Conn.TheVariants.{Again, Enl}
use Rattle.dtx_values.specs.declared.message.Dir.TheVariants.{Down, Up}
use Rattle.dtx_values.specs.declared.message.Message.TheVariants.{EnlistCommit, EnlistEnlist, EnlistEnlisted, EnlistPrepare, ReenlistCommitted}
use Rattle.dtx_values.specs.declared.number.ActorNo.{ActorNo}
use Rattle.dtx_values.specs.declared.number.EnlNo.{EnlNo}
use Rattle.dtx_values.specs.declared.row.Row.{Row}
use Rattle.dtx_values.specs.declared.words.Outcome.TheVariants.{Aborted}
use Rattle.dtx_values.specs.declared.words.Vote.{Vote}
use Rattle.dtx_values.specs.declared.words.Vote.TheVariants.{Yes}
use Rattle.dtx_values.specs.Ends.{is_in}
use Rattle.dtx_values.specs.Row.{fresh_row, is_of, mark_in, mark_row, number_of, unless_there, vote_in, vote_row}
use Rattle.dtx_values.specs.Table.{marks}
use Rattle.dtx_values.specs.Vote.{still_hears}
use Rattle.dtx_model.specs.declared.branch.Branch.{Branch}
use Rattle.dtx_model.specs.Words.{has, latest, onto}
use Rattle.dtx_model.specs.Entries.{decision_of, is_final, is_record, is_vote, same_outcome}
use Rattle.dtx_model.specs.Learned.{coordinator_aborted}
use Rattle.dtx_model.specs.Observed.{branch_acked, branch_aborted, branch_number, branches, is_branch, is_done_branch, rows}
use Rattle.dtx_model.specs.AtLog.{is_restart}
use Rattle.dtx_model.specs.Tied.{before_last_stop, can_free, can_log, has_mark, is_logged, is_stop, tied}
use Rattle.dtx_model.specs.Wires.{is_stopped}
use Rattle.dtx_model.specs.Coordinated.{coordinate, follow}
use Rattle.dtx_model.specs.Steps.{Step, Restarts, after, block_at, restarted}
use Rattle.dtx_model.specs.World.{World, core, is_out_row}
use Rattle.dtx_model.specs.Caused.{Ran}
use Rattle.dtx_model.proofs.Bools.{and_both, and_left, and_never, and_right, not_both, not_true, or_case, or_right, or_second}
use Rattle.history_table.proofs.Aborting.{barred_apart, decided_off}
use Rattle.history_table.proofs.CoreKnown.{enlist_of, record_begun}
use Rattle.history_table.proofs.CoreStages.{stopped_same}
use Rattle.history_table.proofs.EntryTests.{is_decided}
use Rattle.history_table.proofs.Evident.{handed_unlogged}
use Rattle.history_table.proofs.HalfKnows.{unmapped}
use Rattle.history_table.proofs.HalfRows.{voted_once}
use Rattle.history_table.proofs.Handed.{hand_name, is_answered}
use Rattle.history_table.proofs.Handover.{opening_before}
use Rattle.history_table.proofs.Keeping.{Keeps, keeps_before, newest}
use Rattle.history_table.proofs.LetDecide.{answered_handed}
use Rattle.history_table.proofs.Lists.{has-insert, has_kept, if_kept}
use Rattle.history_table.proofs.Owned.{has_filter}
use Rattle.history_table.proofs.Recording.{live_if_record, promoted_if_yes, yes_if_record}
use Rattle.history_table.proofs.Scans.{has_more}
use Rattle.history_table.proofs.Sendings.{aborted_more, record_of_mark}
use Rattle.history_table.proofs.Standing.{prepared_if_asked}
use Rattle.history_table.proofs.Table.{is_enlist_got, is_opening_got, is_prepare_got, ruled, stands_volatile}
use Rattle.settled_histories.proofs.Finished.{is_finished}
use Rattle.settled_histories.proofs.FreedDesks.{AreFreed, IsDone, none_freed, step_freed}
use Rattle.script_histories.proofs.OneOutcome.{final_cause, heard_aborted}
use Rattle.script_histories.proofs.PromotesRuns.{keeps_past}
use Rattle.script_histories.proofs.Rules.{decided_same}
use Rattle.record_laws.specs.Recorded.{is_ack, is_freed, is_free_tried, is_recovered, is_told_so, is_vote_yes}
use Rattle.record_laws.proofs.AskedOnce.{asked_if_voted}
use Rattle.record_laws.proofs.ToldByRecord.{record_logged}

-- A row is out by a vote of no or done.
abbrev is_out_vote : ℕ → Entry → Bool
is_out_vote e (Voted f v) = (e == f.value) && not (still_hears (Some v))
is_out_vote e _ = false

out_now : (e : ℕ) (x : Entry) (h : List Entry) → has (is_out_row e) (rows (x ∷ h)) ≡ true → (is_out_vote e x || has (is_out_row e) (rows h)) ≡ true
out_now e (Enlisted f c) h t =
    let new = fresh_row f c (marks (rows h)) in
    or_case (is_of e new && false) (has (is_out_row e) (rows h)) (λ a. absurd (not_both (is_of e new && false) a (and_never (is_of e new)))) (λ a. a) (sym (has-insert (is_out_row e) number_of new (rows h)) ∙ t)
out_now e (Asked f Prepare) h t =
    sym (has_kept (is_out_row e) (mark_in f.value (marks (rows h))) (λ x. if_kept (is_out_row e) (is_of f.value x) (mark_row (marks (rows h)) x) x refl) (rows h)) ∙ t
out_now e (Voted f v) h t = unmapped ((e == f.value) && not (still_hears (Some v))) (is_out_row e) (vote_in f.value v) (λ x s. by x (is_of f.value x) refl s) (rows h) t
  where
    here : (x : Row) (o : Option Vote) → is_of f.value x ≡ true → (is_of e x && not (still_hears (unless_there o v))) ≡ true → (((e == f.value) && not (still_hears (Some v))) || (is_of e x && not (still_hears o))) ≡ true
    here x (Some u) q s = or_right ((e == f.value) && not (still_hears (Some v))) (is_of e x && not (still_hears (Some u))) s
    here x None q s =
        let P : ℕ → Type 0 = λ n. (e == n) ≡ true in
        or_left ((e == f.value) && not (still_hears (Some v))) (is_of e x && false)
        (and_both (e == f.value) (not (still_hears (Some v))) (subst P (sym (eqb-true f.value x.number.value q)) (and_left (is_of e x) (not (still_hears (Some v))) s)) (and_right (is_of e x) (not (still_hears (Some v))) s))

    by : (x : Row) (b : Bool) → is_of f.value x ≡ b → is_out_row e (if b then vote_row v x else x) ≡ true → (((e == f.value) && not (still_hears (Some v))) || is_out_row e x) ≡ true
    by x false q s = or_right ((e == f.value) && not (still_hears (Some v))) (is_out_row e x) s
    by x true q s = here x x.vote q s
out_now e _ h t = t

out_cast : (e : ℕ) (h : List Entry) → has (is_out_row e) (rows h) ≡ true → has (is_out_vote e) h ≡ true
out_cast e [] t = absurd cc
out_cast e (x ∷ h) t =
    or_case (is_out_vote e x) (has (is_out_row e) (rows h)) (λ a. or_left (is_out_vote e x) (has (is_out_vote e) h) a) (λ a. or_right (is_out_vote e x) (has (is_out_vote e) h) (out_cast e h a)) (out_now e x h t)

-- A branch is done by an acknowledgement, or by a telling of the abort.
abbrev is_done_by : ℕ → Entry → Bool
is_done_by e x = is_ack e x || is_told_so Aborted e x

branch_now : (e : ℕ) (x : Entry) (h : List Entry) → has (is_done_branch e) (branches (x ∷ h)) ≡ true → (is_done_by e x || has (is_done_branch e) (branches h)) ≡ true
branch_now e (Sent (Enl f) Up (EnlistEnlist i)) h t =
    let new : Branch = record { enlistment = f; manager = i.rm; enlisted = false; aborted = false; acked = false; due = None } in
    let rest = filter (λ b. not (is_branch f.value b)) (branches h) in
    or_case (is_branch e new && false) (has (is_done_branch e) rest) (λ a. absurd (not_both (is_branch e new && false) a (and_never (is_branch e new))))
    (λ a. has_more (λ b. is_done_branch e b && not (is_branch f.value b)) (is_done_branch e) (λ b s. and_left (is_done_branch e b) (not (is_branch f.value b)) s) (branches h)
    (sym (has_filter (is_done_branch e) (λ b. not (is_branch f.value b)) (branches h)) ∙ a)) (sym (has-insert (is_done_branch e) branch_number new rest) ∙ t)
branch_now e (Got (Enl f) Down EnlistEnlisted) h t = sym (has_kept (is_done_branch e) _ (λ b. refl) (branches h)) ∙ t
branch_now e (Got (Enl f) Down EnlistCommit) h t = sym (has_kept (is_done_branch e) _ (λ b. refl) (branches h)) ∙ t
branch_now e (Got (Again f) Down ReenlistCommitted) h t = sym (has_kept (is_done_branch e) _ (λ b. refl) (branches h)) ∙ t
branch_now e (Reenlisted f) h t = sym (has_kept (is_done_branch e) _ (λ b. refl) (branches h)) ∙ t
branch_now e (Told (Member f) Aborted) h t = unmapped ((e == f.value) && true) (is_done_branch e) (branch_aborted f.value) (λ b s. by b (is_branch f.value b) refl s) (branches h) t
  where
    by : (b : Branch) (c : Bool) → is_branch f.value b ≡ c → (is_branch e b && (b.acked || (c || b.aborted))) ≡ true → (((e == f.value) && true) || is_done_branch e b) ≡ true
    by b false q s = or_right ((e == f.value) && true) (is_done_branch e b) s
    by b true q s =
        let P : ℕ → Type 0 = λ n. (e == n) ≡ true in
        or_left ((e == f.value) && true) (is_done_branch e b) (and_both (e == f.value) true (subst P (sym (eqb-true f.value b.enlistment.value q)) (and_left (is_branch e b) (b.acked || true) s)) refl)
branch_now e (Acked f) h t = by_ack (unmapped (e == f.value) (is_done_branch e) (branch_acked f.value) (λ b s. by b (is_branch f.value b) refl s) (branches h) t)
  where
    by : (b : Branch) (c : Bool) → is_branch f.value b ≡ c → (is_branch e b && ((c || b.acked) || b.aborted)) ≡ true → ((e == f.value) || is_done_branch e b) ≡ true
    by b false q s = or_right (e == f.value) (is_done_branch e b) s
    by b true q s =
        let P : ℕ → Type 0 = λ n. (e == n) ≡ true in
        or_left (e == f.value) (is_done_branch e b) (subst P (sym (eqb-true f.value b.enlistment.value q)) (and_left (is_branch e b) ((true || b.acked) || b.aborted) s))

    by_ack : ((e == f.value) || has (is_done_branch e) (branches h)) ≡ true → (((e == f.value) || false) || has (is_done_branch e) (branches h)) ≡ true
    by_ack s = step (e == f.value) (has (is_done_branch e) (branches h)) s
      where
        step : (a b : Bool) → (a || b) ≡ true → ((a || false) || b) ≡ true
        step true b s = refl
        step false b s = s
branch_now e x h t = or_right (is_done_by e x) (has (is_done_branch e) (branches h)) t

branch_said : (e : ℕ) (h : List Entry) → has (is_done_branch e) (branches h) ≡ true → (has (is_ack e) h || has (is_told_so Aborted e) h) ≡ true
branch_said e [] t = absurd cc
branch_said e (x ∷ h) t =
    step (is_ack e x) (is_told_so Aborted e x) (has (is_ack e) h) (has (is_told_so Aborted e) h) (has (is_done_branch e) (branches h)) (branch_said e h) (branch_now e x h t)
  where
    step : (a b c d g : Bool) → (g ≡ true → (c || d) ≡ true) → ((a || b) || g) ≡ true → ((a || c) || (b || d)) ≡ true
    step true b c d g f s = refl
    step false true true d g f s = refl
    step false true false d g f s = refl
    step false false c d g f s = f s

-- Nobody is told that it aborted where there was a record.
abort_final : (e : ℕ) (x : Entry) → is_told_so Aborted e x ≡ true → is_final Aborted x ≡ true
abort_final e (Told (Member f) p) t = and_right (e == f.value) (same_outcome Aborted p) t
abort_final e _ t = absurd cc

pub recorded_unaborted : (e : ℕ) (h : List Entry) → Keeps h → has is_record h ≡ true → has (is_told_so Aborted e) h ≡ false
recorded_unaborted e h k r =
    false_from_ne_true (has (is_told_so Aborted e) h)
    (λ t. or_case (is_decided Aborted (latest decision_of h) || has (is_answered Aborted) h) (coordinator_aborted h)
    (λ a. or_case (is_decided Aborted (latest decision_of h)) (has (is_answered Aborted) h) (λ d. barred_apart h k (decided_off h k (decided_same Aborted (latest decision_of h) d)).barred r)
    (λ b. let w = hand_name h (answered_handed Aborted h k b) in not_both (has is_record h) r (handed_unlogged w.0 h k w.1 true (promoted_if_yes h k (yes_if_record h k r)))) a)
    (λ a. not_both (coordinator_aborted h) a (live_if_record h k r))
    (final_cause Aborted coordinator_aborted aborted_more heard_aborted h k (has_more (is_told_so Aborted e) (is_final Aborted) (abort_final e) h t)))

-- Who voted yes voted nothing else.
out_votes : (e : ℕ) (x : Entry) → is_out_vote e x ≡ true → is_vote e x ≡ true
out_votes e (Voted f v) t = and_left (e == f.value) (not (still_hears (Some v))) t
out_votes e _ t = absurd cc

yes_votes : (e : ℕ) (x : Entry) → is_vote_yes e x ≡ true → is_vote e x ≡ true
yes_votes e (Voted f Yes) t = t
yes_votes e _ t = absurd cc

not_twice : (e : ℕ) (p : Entry → Bool) (f : EnlNo) (v : Vote) (h : List Entry) → Keeps (Voted f v ∷ h) → ((x : Entry) → p x ≡ true → is_vote e x ≡ true) → (e == f.value) ≡ true → has p h ≡ true → ⊥
not_twice e p f v h k g q t =
    let P : ℕ → Type 0 = λ n. has (is_vote n) h ≡ false in
    not_both (has (is_vote e) h) (has_more p (is_vote e) g h t) (subst P (sym (eqb-true e f.value q)) (voted_once f v h (newest (Voted f v) h k)))

yes_stays : (e : ℕ) (h : List Entry) → Keeps h → has (is_vote_yes e) h ≡ true → has (is_out_vote e) h ≡ true → ⊥
yes_stays e [] k y o = absurd cc
yes_stays e (Voted f Yes ∷ h) k y o =
    or_case ((e == f.value) && false) (has (is_out_vote e) h) (λ a. not_both ((e == f.value) && false) a (and_never (e == f.value)))
    (λ a. or_case (e == f.value) (has (is_vote_yes e) h) (λ q. not_twice e (is_out_vote e) f Yes h k (out_votes e) q a) (λ b. yes_stays e h (keeps_before (Voted f Yes) h k) b a) y) o
yes_stays e (Voted f v ∷ h) k y o =
    or_case ((e == f.value) && true) (has (is_out_vote e) h) (λ a. not_twice e (is_vote_yes e) f v h k (yes_votes e) (and_left (e == f.value) true a) y) (λ a. yes_stays e h (keeps_before (Voted f v) h k) y a) o
yes_stays e (x ∷ h) k y o = yes_stays e h (keeps_before x h k) y o

-- So who voted yes and is finished acknowledged.
finished_acked : (e : ℕ) (h : List Entry) → Keeps h → has is_record h ≡ true → has (is_vote_yes e) h ≡ true → is_finished e h ≡ true → has (is_ack e) h ≡ true
finished_acked e h k r y t =
    or_case (has (is_done_branch e) (branches h)) (has (is_out_row e) (rows h))
    (λ a. or_case (has (is_ack e) h) (has (is_told_so Aborted e) h) (λ b. b) (λ b. absurd (not_both (has (is_told_so Aborted e) h) b (recorded_unaborted e h k r))) (branch_said e h a))
    (λ a. absurd (yes_stays e h k y (out_cast e h a))) t

-- Without a recovery of a manager, who is done is finished.
none_recovered : (h : List Entry) → has is_recovered h ≡ false → (coordinate h).recovered ≡ 0
unfolding coordinate follow
none_recovered [] n = refl
none_recovered (Recovered q ∷ h) n = absurd cc
none_recovered (x ∷ h) n = none_recovered h (or_second (is_recovered x) (has is_recovered h) n)

done_finished : (e : EnlNo) (h : List Entry) → has is_recovered h ≡ false → IsDone e h → is_finished e.value h ≡ true
done_finished e h n (inl t) = t
done_finished e h n (inr w) = let P : ℕ → Type 0 = λ rs. is_in w.0 rs ≡ true in absurd (never w.0 (subst P (none_recovered h n) w.2))
  where
    never : (r : ℕ) → is_in r 0 ≡ true → ⊥
    never r t = zero_one (subst (λ n. (n == 1) ≡ true) (bit_at-zero r) t)
      where
        zero_one : (0 == 1) ≡ true → ⊥
        zero_one e = absurd cc

-- Who voted yes, and is durable or promotable, came to the coordinator.
yes_named : (e : ℕ) (h : List Entry) → has (is_vote_yes e) h ≡ true → (f : EnlNo) × (e ≡ f.value)
yes_named e [] t = absurd cc
yes_named e (Voted f Yes ∷ h) t = by (e == f.value) refl (yes_named e h) t
  where
    by : (b : Bool) → (e == f.value) ≡ b → (has (is_vote_yes e) h ≡ true → (g : EnlNo) × (e ≡ g.value)) → (b || has (is_vote_yes e) h) ≡ true → (g : EnlNo) × (e ≡ g.value)
    by true q ih t = (f, eqb-true e f.value q)
    by false q ih t = ih t
yes_named e (x ∷ h) t = yes_named e h t

prepared_came : (n : ℕ) (h : List Entry) → Keeps h → has (is_prepare_got n) h ≡ true → has (is_enlist_got n) h ≡ true
prepared_came n [] k t = absurd cc
prepared_came n (Got (Enl f) Down EnlistPrepare ∷ h) k t =
    or_case (n == f.value) (has (is_prepare_got n) h) (λ q. has_more (is_opening_got (Enl f)) (is_enlist_got n) (enlist_of n f q) h (opening_before (Enl f) EnlistPrepare h k))
    (λ q. prepared_came n h (keeps_before (Got (Enl f) Down EnlistPrepare) h k) q) t
prepared_came n (x ∷ h) k t = or_right (is_enlist_got n x) (has (is_enlist_got n) h) (prepared_came n h (keeps_before x h k) t)

yes_came : (e : ℕ) (h : List Entry) → Keeps h → stands_volatile e h ≡ false → has (is_vote_yes e) h ≡ true → has (is_enlist_got e) h ≡ true
yes_came e h k v y =
    or_case (stands_volatile e h) (has (is_prepare_got e) h) (λ q. absurd (not_both (stands_volatile e h) q v)) (λ q. prepared_came e h k q)
    (prepared_if_asked e h k (asked_if_voted e h k (has_more (is_vote_yes e) (is_vote e) (yes_votes e) h y)))

-- Where all that came are done, those that voted yes acknowledged.
all_acked : (g h : List Entry) → Keeps h → has is_record h ≡ true → has is_recovered g ≡ false → ((e : EnlNo) → has (is_enlist_got e.value) h ≡ true → IsDone e g) → ((e : ℕ) → is_finished e g ≡ true → is_finished e h ≡ true)
    → (e : ℕ) → stands_volatile e h ≡ false → has (is_vote_yes e) h ≡ true → has (is_ack e) h ≡ true
all_acked g h k r n d s e v y =
    let w = yes_named e h y in
    let came : has (is_enlist_got w.0.value) h ≡ true = subst (λ m. has (is_enlist_got m) h ≡ true) w.1 (yes_came e h k v y) in
    let done : is_finished e g ≡ true = subst (λ m. is_finished m g ≡ true) (sym w.1) (done_finished w.0 g n (d w.0 came)) in
    finished_acked e h k r y (s e done)

-- Where the record was freed it is gone.
can_unlogged : (h : List Entry) → can_log h ≡ true → has is_logged h ≡ false
can_unlogged h t = not_true (has is_logged h) (and_right _ (not (has is_logged h)) (and_left _ (not (has is_stop h)) t))

record IsGone (h : List Entry) : Type 0 where
  recorded : has is_record h ≡ true
  gone : has_mark h ≡ false

freed_gone : (h : List Entry) → Keeps h → has is_restart h ≡ false → has is_freed h ≡ true → IsGone h
freed_gone [] k n t = absurd cc
freed_gone (Freed ∷ h) k n t = record { recorded = record_of_mark h (newest Freed h k); gone = refl }
freed_gone (Logged ∷ h) k n t =
    let w = freed_gone h (keeps_before Logged h k) n t in
    absurd (not_both (has is_logged h) (record_logged h n w.recorded) (can_unlogged h (newest Logged h k)))
freed_gone (Restarted b ∷ h) k n t = absurd cc
freed_gone (x ∷ h) k n t = let w = freed_gone h (keeps_before x h k) n t in record { recorded = w.recorded; gone = w.gone }

ran_freed : (G : ℕ → ActorNo → Call → Type 0) (t : ℕ) (ms : List Step) (w : World) → Ran G t ms w → Keeps w.past → AreFreed w.past
ran_freed G t [] w r k = subst AreFreed (sym r.1) none_freed
ran_freed G t (m ∷ ms) w r k =
    let now = subst (λ (x : World). Keeps x.past) r.3 k in
    subst (λ (x : World). AreFreed x.past) (sym r.3) (step_freed G t r.0 m r.2 now (ran_freed G t ms r.0 r.1 (keeps_past t r.0 m now)))

-- Where it could be freed before the last stop, a restart may find none.
record IsHalted (h : List Entry) : Type 0 where
  recorded : has is_record h ≡ true
  stopped : is_stopped h ≡ true

halted : (h : List Entry) → has is_restart h ≡ false → has_mark (before_last_stop h) ≡ true → IsHalted h
halted [] n t = absurd cc
halted (Stopped ∷ h) n t = record { recorded = record_of_mark h t; stopped = refl }
halted (Restarted b ∷ h) n t = absurd cc
halted (x ∷ h) n t = let w = halted h (or_second (is_restart x) (has is_restart h) n) t in record { recorded = or_right (is_record x) (has is_record h) w.recorded; stopped = w.stopped }

restarts : (h : List Entry) → Keeps h → is_stopped h ≡ true → can_free (before_last_stop h) ≡ true → Keeps (Restarted false ∷ h)
restarts h k s c =
    record {
      rules = and_both (is_stopped h) (ruled h) s k.rules;
      ties = and_both (not (has_mark h) || can_free (before_last_stop h)) (tied h) (or_right (not (has_mark h)) (can_free (before_last_stop h)) c) k.ties;
      wires = (tt, k.wires);
    }

restart_freed : (G : ℕ → ActorNo → Call → Type 0) (t : ℕ) (w : World) → Keeps w.past → IsHalted w.past → can_free (before_last_stop w.past) ≡ true → AreFreed w.past → AreFreed (Restarted false ∷ w.past)
unfolding after block_at
restart_freed G t w k s c f =
    let up : (core w).stopped ≡ true = stopped_same w.past ∙ s.stopped in
    let K : Bool → Type 0 = λ b. Keeps (onto w.past (restarted b false)) in
    let F : Bool → Type 0 = λ b. AreFreed (onto w.past (restarted b false)) in
    subst F up (step_freed G t w (Restarts false) (record_begun w.past k s.recorded) (subst K (sym up) (restarts w.past k s.stopped c)) f)

-- So where it was freed, or may have been, each that voted yes acknowledged.
pub freed_acked : (G : ℕ → ActorNo → Call → Type 0) (t : ℕ) (ms : List Step) (w : World) → Ran G t ms w → Keeps w.past → has is_restart w.past ≡ false → has is_recovered w.past ≡ false → is_free_tried w.past ≡ true
    → (e : ℕ) → stands_volatile e w.past ≡ false → has (is_vote_yes e) w.past ≡ true → has (is_ack e) w.past ≡ true
freed_acked G t ms w r k n u c e v y =
    or_case (has is_freed h) (can_free (before_last_stop h))
    (λ a. let g = freed_gone h k n a in all_acked h h k g.recorded u (freed g.recorded g.gone) (λ f q. q) e v y)
    (λ a. let s = halted h n (and_left (has_mark (before_last_stop h)) _ a) in
    all_acked (Restarted false ∷ h) h k s.recorded u (λ f q. restart_freed G t w k s a freed s.recorded refl f q) (λ f q. q) e v y) c
  where
    h : List Entry
    h = w.past

    freed : AreFreed h
    freed = ran_freed G t ms w r k
