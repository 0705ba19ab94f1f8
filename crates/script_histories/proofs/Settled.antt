-- A settled history that can commit is committed, and its client was told so.
use Rattle.std.proofs.Common.{◌≡◌, Bool, true, false, ◌&&◌, List, ◌||◌, [], ◌∷◌, refl, Some, subst, Option, None, ℕ, ◌==◌, ap, ◌∙◌, sym}
use Rattle.std.specs.Prelude.{not, is_some, filter, if◌then◌else◌, is_none, find}
use Rattle.std.proofs.lemmas.Bool.{eqb-true, false_from_ne_true}
use Rattle.dtx_values.specs.declared.number.EnlNo.{EnlNo}
use Rattle.dtx_values.specs.declared.entry.Entry.{Entry}
use Rattle.dtx_values.specs.declared.entry.Entry.TheVariants.{Decided, Told, Lost, Handed, OwnerAnswered, Voted, CommitAsked, Cut, Down, Enlisted, Got, LogFull, PromoteReply, Requested, Restarted, RollbackAsked, Stopped, TimedOut, Sealed}
use Rattle.dtx_values.specs.declared.entry.Party.TheVariants.{Client}
use Rattle.dtx_values.specs.declared.note.Note.{Note}
use Rattle.dtx_values.specs.declared.script.Line.{Line}
use Rattle.dtx_values.specs.declared.words.Class.{Class}
use Rattle.dtx_values.specs.declared.words.Outcome.{Outcome}
use Rattle.dtx_values.specs.declared.words.Outcome.TheVariants.{Committed, Aborted, InDoubt}
use Rattle.dtx_values.specs.declared.words.Vote.{Vote}
use Rattle.dtx_values.specs.declared.words.Vote.TheVariants.{Yes, No, Done}
use Rattle.dtx_values.specs.Row.{is_marked, has_voted}
use Rattle.dtx_values.specs.declared.row.Row.{Row}
use Rattle.dtx_values.specs.Clones.{is_open_block, blocks}
use Rattle.dtx_values.specs.Owners.{owner_of}
use Rattle.dtx_values.specs.Vote.{voted_well}
use Rattle.dtx_values.specs.Waves.{next_ask, is_over, all_voted}
use Rattle.dtx_values.specs.Class.{is_volatile, is_promotable, is_zero}
use Rattle.dtx_model.specs.Words.{has, each, ever, latest, holds, all_of, always}
use Rattle.dtx_model.specs.Entries.{decision_of, client_told_of, is_any_single_sent, is_client_told, is_hand, is_decision, same_outcome, is_owner, handed_of, is_asked, is_vote, is_commit, is_sealed, is_lost, clone_of}
use Rattle.dtx_model.specs.History.{is_loss, is_committed, is_willing, CanCommit, is_asked_in_time, is_ending}
use Rattle.dtx_model.specs.Outcome.{evidence, is_veto, is_first_veto, vetoed, doubt, is_lost_owner, can_own, enlisted, owner_doubt, is_begin_end, is_voter_end, is_outcome_got, coordinator_doubt, single_doubt, is_complete}
use Rattle.dtx_model.specs.Observed.{observe, rows, clone_rows}
use Rattle.dtx_model.specs.Half.{is_handed, is_gone}
use Rattle.dtx_model.specs.Plans.{vote_reply, owner_reply}
use Rattle.dtx_model.specs.Caused.{plans_of, is_outcome_planned, is_vote_planned}
use Rattle.dtx_model.proofs.Narrow.{open_note, due_note, before_seal, after_seal, commit_act, undecided_act, act_by, is_to_tell, act_entries}
use Rattle.dtx_model.proofs.Bools.{and_never, and_left, not_both, or_second, and_right, or_right, or_false, not_true, not_false}
use Rattle.history_table.proofs.Scans.{none_more, has_less, each_more, each_both}
use Rattle.history_table.proofs.EntryTests.{is_decided, is_certain, is_only, is_answer, is_enlisted, enlisted_passes, all_complete, zeros_cast, is_unplanned}
use Rattle.history_table.proofs.Tests.{second_of_three, second_of_four, first_of_three, fourth_of_four, or_between}
use Rattle.history_table.proofs.Doubting.{single_if_doubt}
use Rattle.history_table.proofs.Handed.{is_answered, hand_name}
use Rattle.history_table.proofs.NextActs.{asked_well, has_answered, zeros_done, ones_done, told_all}
use Rattle.history_table.proofs.TableRows.{each_rows}
use Rattle.history_table.proofs.Owned.{any_hand_seen}
use Rattle.script_histories.proofs.Rule.{ruled, first_rule, other_rules}
use Rattle.script_histories.proofs.Rules.{decided_same, not_behind, decided_may}
use Rattle.script_histories.proofs.Evidence.{hand_stands, none_single, none_yes}
use Rattle.script_histories.proofs.Plans.{planned_owner, planned_promotion, planned_vote, is_planned, each_as_planned}
use Rattle.script_histories.proofs.RuledRows.{lost_seen, hand_seen, zeros_seen, open_blocks}

-- where each passes q, none passes p and fails q
none_open : {A : Type 0} (p q : A → Bool) (xs : List A) → each q xs ≡ true → has (λ x. p x && not (q x)) xs ≡ false
none_open p q xs h = none_more q (λ x. p x && not (q x)) (λ x k. rw k (and_never (p x))) xs h

-- where no veto stands, none stands after which there was no evidence
first_veto : (h : List Entry) → ever is_veto h ≡ false → ever is_first_veto h ≡ false
first_veto [] v = refl
first_veto (x ∷ h) v = step (is_veto h x) (evidence h) (ever is_veto h) (ever is_first_veto h) (first_veto h) v
  where
    step : (a e r q : Bool) → (r ≡ false → q ≡ false) → (a || r) ≡ false → ((a && not e) || q) ≡ false
    step true e r q ih v = absurd cc
    step false e r q ih v = ih v

-- what the client was told was decided
told_decided : (h : List Entry) (x : Outcome) → ruled h ≡ true → latest client_told_of h ≡ Some x → latest decision_of h ≡ Some x
told_decided [] x r e = absurd cc
told_decided (Told Client y ∷ h) x r e =
    let same : y ≡ x = cc in
    decided_same x (latest decision_of h)
    (subst (λ o. is_decided o (latest decision_of h) ≡ true) same (and_left (is_decided y (latest decision_of h)) (is_certain y || true) (first_rule (Told Client y) h r)))
told_decided (Decided y ∷ h) x r e = not_behind (Decided y) h x (told_decided h x (other_rules (Decided y) h r) e) refl r
told_decided (y ∷ h) x r e = told_decided h x (other_rules y h r) e

-- what was told last was told
client_told : (h : List Entry) → latest client_told_of h ≡ Some Committed → has (is_client_told Committed) h ≡ true
client_told [] e = absurd cc
client_told (Told Client Committed ∷ h) e = refl
client_told (Told Client Aborted ∷ h) e = absurd cc
client_told (Told Client InDoubt ∷ h) e = absurd cc
client_told (x ∷ h) e = client_told h e

-- without a veto and without doubt, a client that was told anything was told that it is committed
client_committed : (h : List Entry) (o : Option Outcome) → ruled h ≡ true → ever is_veto h ≡ false → doubt h ≡ false → latest client_told_of h ≡ o → is_some o ≡ true
    → has (is_client_told Committed) h ≡ true
unfolding vetoed
client_committed h (Some Committed) r v d e k = client_told h e
client_committed h (Some Aborted) r v d e k =
    let may = decided_may h r Aborted (told_decided h Aborted r e) in
    absurd (not_both (vetoed h) (and_left (vetoed h) (not (evidence h)) may) (first_veto h v))
client_committed h (Some InDoubt) r v d e k = absurd (not_both (doubt h) (decided_may h r InDoubt (told_decided h InDoubt r e)) d)
client_committed h None r v d e k = absurd cc

-- where nothing was lost, no owner was
unlost_owner : (h : List Entry) → has is_loss h ≡ false → ever is_lost_owner h ≡ false
unlost_owner [] k = refl
unlost_owner (Lost e ∷ h) k = absurd cc
unlost_owner (x ∷ h) k = unlost_owner h (or_second (is_loss x) (has is_loss h) k)

-- what each enlistment passes, the one durable or promotable passes
only_passes : (f : EnlNo × Class → Bool) (g : ℕ → Bool) → ((x : EnlNo × Class) → can_own x.1 ≡ true → f x ≡ true → g x.0.value ≡ true)
    → (e : ℕ) (xs : List (EnlNo × Class)) → is_only e (filter (λ x. not (is_volatile x.1)) xs) ≡ true → each f xs ≡ true → g e ≡ true
only_passes f g sub e [] o k = absurd cc
only_passes f g sub e (x ∷ xs) o k =
    step f g sub e (is_volatile x.1) x (filter (λ x. not (is_volatile x.1)) xs) (and_left (f x) (each f xs) k)
    (λ p. only_passes f g sub e xs p (and_right (f x) (each f xs) k)) o
  where
    step : (f : EnlNo × Class → Bool) (g : ℕ → Bool) → ((x : EnlNo × Class) → can_own x.1 ≡ true → f x ≡ true → g x.0.value ≡ true) → (e : ℕ) (v : Bool) (x : EnlNo × Class)
        (ds : List (EnlNo × Class)) → f x ≡ true → (is_only e ds ≡ true → g e ≡ true) → is_only e (if not v then x ∷ ds else ds) ≡ true → g e ≡ true
    step f g sub e true x ds k ih o = ih o
    step f g sub e false x [] k ih o =
        let same : e ≡ x.0.value = eqb-true e x.0.value (and_left (e == x.0.value) (can_own x.1) o) in rw same (sub x (and_right (e == x.0.value) (can_own x.1) o) k)
    step f g sub e false x (y ∷ ds) k ih o = absurd cc

-- whoever can own the commit is willing only if it plans to answer committed
owner_willing : (v w p : Bool) (c : Class) → can_own c ≡ true → (v && (not (can_own c) || w) && p) ≡ true → w ≡ true
owner_willing v w p c o k = step v w p (can_own c) o k
  where
    step : (v w p b : Bool) → b ≡ true → (v && (not b || w) && p) ≡ true → w ≡ true
    step v w p true o k = and_right v w (and_left (v && w) p k)
    step v w p false o k = absurd cc

-- to whom the commit was handed it plans to answer committed
hand_willing : (s : List Line) (h : List Entry) (e : ℕ) → ruled h ≡ true → each (λ x. is_willing (plans_of s x.0.value) x.1) (enlisted h) ≡ true → has (is_hand e) h ≡ true
    → is_committed (planned_owner s e) ≡ true
hand_willing s h e r w k =
    only_passes (λ x. is_willing (plans_of s x.0.value) x.1) (λ n. is_committed (planned_owner s n))
    (λ x o f. owner_willing (voted_well (planned_vote s x.0.value)) (is_committed (planned_owner s x.0.value)) (not (is_promotable x.1) || holds (planned_promotion s x.0.value)) x.1 o f)
    e (enlisted h) (hand_stands e h r k).alone w

-- where each owner answers as planned and is willing, none answered in doubt
none_doubts : (s : List Line) (h : List Entry) (k : List Entry) → ((e : ℕ) → has (is_hand e) k ≡ true → is_committed (planned_owner s e) ≡ true)
    → ruled h ≡ true → each (is_planned s) h ≡ true → ((e : ℕ) → has (is_hand e) h ≡ true → has (is_hand e) k ≡ true) → has (is_answered InDoubt) h ≡ false
none_doubts s [] k w r p sub = refl
none_doubts s (OwnerAnswered e Committed ∷ h) k w r p sub = none_doubts s h k w (other_rules (OwnerAnswered e Committed) h r) (and_right _ (each (is_planned s) h) p) sub
none_doubts s (OwnerAnswered e Aborted ∷ h) k w r p sub = none_doubts s h k w (other_rules (OwnerAnswered e Aborted) h r) (and_right _ (each (is_planned s) h) p) sub
none_doubts s (OwnerAnswered e InDoubt ∷ h) k w r p sub =
    let handed = second_of_three (not (has is_decision h)) (has (is_hand e.value) h) (not (has is_answer h)) (first_rule (OwnerAnswered e InDoubt) h r) in
    absurd (opposite (planned_owner s e.value) (w e.value (sub e.value handed)) (and_left (is_outcome_planned (planned_owner s e.value) InDoubt) (each (is_planned s) h) p))
  where
    opposite : (o : Option Outcome) → is_committed o ≡ true → is_outcome_planned o InDoubt ≡ true → ⊥
    opposite (Some Committed) c d = cc
    opposite (Some Aborted) c d = cc
    opposite (Some InDoubt) c d = cc
    opposite None c d = cc
none_doubts s (Voted e v ∷ h) k w r p sub = none_doubts s h k w (other_rules (Voted e v) h r) (and_right (is_vote_planned (planned_vote s e.value) v) (each (is_planned s) h) p) sub
none_doubts s (Handed f ∷ h) k w r p sub = none_doubts s h k w (other_rules (Handed f) h r) p (λ e q. sub e (or_right (e == f.value) (has (is_hand e) h) q))
none_doubts s (x ∷ h) k w r p sub = none_doubts s h k w (other_rules x h r) p sub

-- an answer of this owner is such an answer
owner_answered : (e : ℕ) (o : Outcome) (x : Entry) → is_owner e o x ≡ true → is_answered o x ≡ true
owner_answered e o (OwnerAnswered f y) k = and_right (e == f.value) (same_outcome o y) k
owner_answered e o _ k = k

-- where nothing was lost and each owner is willing and answers as planned, there is no doubt
no_doubt : (s : List Line) (h : List Entry) → ruled h ≡ true → each (is_planned s) h ≡ true → CanCommit s h → doubt h ≡ false
unfolding doubt owner_doubt coordinator_doubt
no_doubt s h r p can =
    let none : has (is_answered InDoubt) h ≡ false = none_doubts s h h (λ e. hand_willing s h e r can.willing) r p (λ e k. k) in
    let answers : has (λ e. has (is_owner e.value InDoubt) h) (all_of handed_of h) ≡ false =
    nowhere (λ e. has (is_owner e.value InDoubt) h) (λ e. has_less (is_owner e.value InDoubt) (is_answered InDoubt) (owner_answered e.value InDoubt) h none) (all_of handed_of h) in
    or_false (owner_doubt h || coordinator_doubt h) (single_doubt h)
    (or_false (owner_doubt h) (coordinator_doubt h) (or_false (has (λ e. has (is_owner e.value InDoubt) h) (all_of handed_of h)) (ever is_lost_owner h) answers (unlost_owner h can.unlost))
    (ap (λ b. b && has is_begin_end h && has is_voter_end h && not (has is_outcome_got h)) (none_yes h r)))
    (false_from_ne_true (single_doubt h) (λ t. not_both (has is_any_single_sent h) (single_if_doubt h t) (none_single h r)))
  where
    nowhere : (q : EnlNo → Bool) → ((e : EnlNo) → q e ≡ false) → (xs : List EnlNo) → has q xs ≡ false
    nowhere q f [] = refl
    nowhere q f (x ∷ xs) = or_false (q x) (has q xs) (f x) (nowhere q f xs)

-- a vote that is planned to be good is no veto
cast_well : (o : Option Vote) → is_vote_planned o No ≡ true → voted_well o ≡ true → ⊥
cast_well (Some Yes) c w = cc
cast_well (Some No) c w = cc
cast_well (Some Done) c w = cc
cast_well None c w = cc

-- an answer that is planned to be committed is no veto
answered_well : (o : Option Outcome) → is_outcome_planned o Aborted ≡ true → is_committed o ≡ true → ⊥
answered_well (Some Committed) d c = cc
answered_well (Some Aborted) d c = cc
answered_well (Some InDoubt) d c = cc
answered_well None d c = cc

-- where each is willing and answers as planned, and no rollback, timeout or loss came, nobody gave a veto. The history k has h as its beginning.
none_vetoes : (s : List Line) (h k : List Entry) → ((e : ℕ) → has (is_enlisted e) k ≡ true → voted_well (planned_vote s e) ≡ true)
    → ((e : ℕ) → has (is_hand e) k ≡ true → is_committed (planned_owner s e) ≡ true) → ruled h ≡ true → each (is_planned s) h ≡ true
    → has is_ending h ≡ false → always is_asked_in_time h ≡ true → has is_loss h ≡ false
    → ((e : ℕ) → has (is_enlisted e) h ≡ true → has (is_enlisted e) k ≡ true) → ((e : ℕ) → has (is_hand e) h ≡ true → has (is_hand e) k ≡ true) → ever is_veto h ≡ false
none_vetoes s [] k v w r p d t l n m = refl
none_vetoes s (RollbackAsked ∷ h) k v w r p d t l n m = absurd cc
none_vetoes s (TimedOut ∷ h) k v w r p d t l n m = absurd cc
none_vetoes s (LogFull ∷ h) k v w r p d t l n m = absurd cc
none_vetoes s (Lost e ∷ h) k v w r p d t l n m = absurd cc
none_vetoes s (Cut c x y ∷ h) k v w r p d t l n m = absurd cc
none_vetoes s (Stopped ∷ h) k v w r p d t l n m = absurd cc
none_vetoes s (PromoteReply e ok ∷ h) k v w r p d t l n m = absurd cc
none_vetoes s (Requested e x ∷ h) k v w r p d t l n m = absurd cc
none_vetoes s (Restarted found ∷ h) k v w r p d t l n m = absurd cc
none_vetoes s (Down c x ∷ h) k v w r p d t l n m = absurd cc
none_vetoes s (Got c x y ∷ h) k v w r p d t l n m = absurd cc
none_vetoes s (CommitAsked ∷ h) k v w r p d t l n m =
    or_false (is_veto h CommitAsked) (ever is_veto h) (asked_well h (and_left (is_asked_in_time h CommitAsked) (always is_asked_in_time h) t))
    (none_vetoes s h k v w (other_rules CommitAsked h r) p d (and_right (is_asked_in_time h CommitAsked) (always is_asked_in_time h) t) l n m)
none_vetoes s (Voted e No ∷ h) k v w r p d t l n m =
    let there = second_of_four (not (has is_decision h)) (has (is_enlisted e.value) h) (has (is_asked e.value) h) (not (has (is_vote e.value) h)) (first_rule (Voted e No) h r) in
    absurd (cast_well (planned_vote s e.value) (and_left (is_vote_planned (planned_vote s e.value) No) (each (is_planned s) h) p) (v e.value (n e.value there)))
none_vetoes s (Voted e Yes ∷ h) k v w r p d t l n m = none_vetoes s h k v w (other_rules (Voted e Yes) h r) (and_right _ (each (is_planned s) h) p) d t l n m
none_vetoes s (Voted e Done ∷ h) k v w r p d t l n m = none_vetoes s h k v w (other_rules (Voted e Done) h r) (and_right _ (each (is_planned s) h) p) d t l n m
none_vetoes s (OwnerAnswered e Aborted ∷ h) k v w r p d t l n m =
    let handed = second_of_three (not (has is_decision h)) (has (is_hand e.value) h) (not (has is_answer h)) (first_rule (OwnerAnswered e Aborted) h r) in
    absurd (answered_well (planned_owner s e.value) (and_left (is_outcome_planned (planned_owner s e.value) Aborted) (each (is_planned s) h) p) (w e.value (m e.value handed)))
none_vetoes s (OwnerAnswered e Committed ∷ h) k v w r p d t l n m = none_vetoes s h k v w (other_rules (OwnerAnswered e Committed) h r) (and_right _ (each (is_planned s) h) p) d t l n m
none_vetoes s (OwnerAnswered e InDoubt ∷ h) k v w r p d t l n m = none_vetoes s h k v w (other_rules (OwnerAnswered e InDoubt) h r) (and_right _ (each (is_planned s) h) p) d t l n m
none_vetoes s (Enlisted f c ∷ h) k v w r p d t l n m =
    none_vetoes s h k v w (other_rules (Enlisted f c) h r) p d t l (λ e q. n e (or_right (e == f.value) (has (is_enlisted e) h) q)) m
none_vetoes s (Handed f ∷ h) k v w r p d t l n m =
    none_vetoes s h k v w (other_rules (Handed f) h r) p d t l n (λ e q. m e (or_right (e == f.value) (has (is_hand e) h) q))
none_vetoes s (x ∷ h) k v w r p d t l n m = none_vetoes s h k v w (other_rules x h r) p d t l n m

-- nobody gave a veto in a history that can commit
unvetoed : (s : List Line) (h : List Entry) → ruled h ≡ true → each (is_planned s) h ≡ true → CanCommit s h → ever is_veto h ≡ false
unvetoed s h r p can =
    let votes : each (λ x. voted_well (planned_vote s x.0.value)) (enlisted h) ≡ true =
    each_more (λ x. is_willing (plans_of s x.0.value) x.1) (λ x. voted_well (planned_vote s x.0.value)) (λ x k. first_of_three (voted_well (planned_vote s x.0.value)) _ _ k) (enlisted h) can.willing in
    none_vetoes s h h (λ e k. enlisted_passes (λ n. voted_well (planned_vote s n)) e h votes k) (λ e k. hand_willing s h e r can.willing k) r p can.ended_by_none can.in_time can.unlost
    (λ e k. k) (λ e k. k)

-- sealed is only where each Zero enlistment voted
sealed_zeros : (h : List Entry) → ruled h ≡ true → has is_sealed h ≡ true → zeros_cast h ≡ true
sealed_zeros [] r k = absurd cc
sealed_zeros (Sealed ∷ h) r k = fourth_of_four (not (has is_decision h)) (has is_commit h) (all_complete h) (zeros_cast h) (first_rule Sealed h r)
sealed_zeros (Enlisted e c ∷ h) r k =
    let rule = first_rule (Enlisted e c) h r in
    let unsealed = not_true (has is_sealed h) (second_of_four (not (has is_decision h)) (not (has is_sealed h)) (not (has (is_enlisted e.value) h)) _ rule) in
    absurd (not_both (has is_sealed h) k unsealed)
sealed_zeros (Voted e w ∷ h) r k =
    each_more (λ x. not (is_zero x.1) || has (is_vote x.0.value) h) (λ x. not (is_zero x.1) || has (is_vote x.0.value) (Voted e w ∷ h))
    (λ x. or_between (not (is_zero x.1)) (is_vote x.0.value (Voted e w)) (has (is_vote x.0.value) h)) (enlisted h) (sealed_zeros h (other_rules (Voted e w) h r) k)
sealed_zeros (x ∷ h) r k = sealed_zeros h (other_rules x h r) k

-- of a row of which nothing is due and whose planned vote is yes or done it is so that it has a vote where it is marked
row_step : (s : List Line) (marked voted handed : Bool) (e : EnlNo) → voted_well (planned_vote s e.value) ≡ true
    → is_unplanned (plans_of s e.value) (open_note (marked && not voted) handed) ≡ true → (not marked || voted) ≡ true
row_step s false voted handed e p d = refl
row_step s true true handed e p d = refl
row_step s true false handed e p d = planned e (planned_vote s e.value) p d
  where
    planned : (e : EnlNo) (o : Option Vote) → voted_well o ≡ true → is_none (vote_reply o) ≡ true → (false || false) ≡ true
    planned e (Some v) p d = absurd cc
    planned e None p d = absurd cc

-- and it wasn't handed the commit where it plans to answer committed
hand_step : (s : List Line) (asked handed : Bool) (e : EnlNo) → voted_well (planned_vote s e.value) ≡ true → is_committed (planned_owner s e.value) ≡ true
    → is_unplanned (plans_of s e.value) (open_note asked handed) ≡ true → handed ≡ false
hand_step s true handed e p o d = vote e handed (planned_vote s e.value) p d
  where
    vote : (e : EnlNo) (b : Bool) (o : Option Vote) → voted_well o ≡ true → is_none (vote_reply o) ≡ true → b ≡ false
    vote e b (Some v) p d = absurd cc
    vote e b None p d = absurd cc
hand_step s false false e p o d = refl
hand_step s false true e p o d = owner e (planned_owner s e.value) o d
  where
    owner : (e : EnlNo) (o : Option Outcome) → is_committed o ≡ true → is_none (owner_reply o) ≡ true → true ≡ false
    owner e (Some x) p d = absurd cc
    owner e None p d = absurd cc

-- to what a reply is due of the row where nothing is decided and nothing is lost
abbrev pub open_reply : List Entry → Row → Option Note
open_reply h x = open_note (is_marked x && not (has_voted x)) (is_handed (latest handed_of h) x.number.value)

-- no reply is due of any row to which its plan isn't silent
abbrev pub AreUnplanned : List Line → List Entry → Type 0
AreUnplanned s h = each (λ x. is_unplanned (plans_of s x.number.value) (due_note (observe h) x)) (rows h) ≡ true

-- an enlistment that is lost is a loss
lost_loss : (e : ℕ) (x : Entry) → is_lost e x ≡ true → is_loss x ≡ true
lost_loss e (Lost f) k = refl
lost_loss e _ k = absurd cc

-- where nothing is decided and nothing is lost, that reply is due
reply_open : (h : List Entry) (x : Row) → ruled h ≡ true → latest decision_of h ≡ None → has is_loss h ≡ false → due_note (observe h) x ≡ open_reply h x
unfolding observe
reply_open h x r d l =
    let here : is_gone (observe h) x.number.value ≡ false = lost_seen x.number.value h r ∙ has_less (is_lost x.number.value) is_loss (lost_loss x.number.value) h l in
    ap (λ b. if b then None else open_note (is_marked x && not (has_voted x)) (is_handed (latest handed_of h) x.number.value))
    (or_false (is_some (latest decision_of h)) (is_gone (observe h) x.number.value) (ap is_some d) here)

-- then the plan of each row is silent to it
none_due : (s : List Line) (h : List Entry) → ruled h ≡ true → latest decision_of h ≡ None → has is_loss h ≡ false → AreUnplanned s h
    → each (λ x. is_unplanned (plans_of s x.number.value) (open_reply h x)) (rows h) ≡ true
unfolding observe
none_due s h r d l e =
    each_more (λ x. is_unplanned (plans_of s x.number.value) (due_note (observe h) x)) (λ x. is_unplanned (plans_of s x.number.value) (open_reply h x))
    (λ x k. ap (is_unplanned (plans_of s x.number.value)) (sym (reply_open h x r d l)) ∙ k) (rows h) e

-- each row is willing
each_planned : (s : List Line) (h : List Entry) → CanCommit s h → each (λ x. is_willing (plans_of s x.number.value) x.class) (rows h) ≡ true
each_planned s h c = each_rows (λ e k. is_willing (plans_of s e.value) k) h ∙ c.willing

-- where each is willing and no reply is due, each marked row has a vote
each_answered : (s : List Line) (h : List Entry) → CanCommit s h → each (λ x. is_unplanned (plans_of s x.number.value) (open_reply h x)) (rows h) ≡ true → each has_answered (rows h) ≡ true
each_answered s h c d =
    each_both (λ x. is_willing (plans_of s x.number.value) x.class) (λ x. is_unplanned (plans_of s x.number.value) (open_reply h x)) has_answered
    (λ x w n. row_step s (is_marked x) (has_voted x) (is_handed (latest handed_of h) x.number.value) x.number (first_of_three (voted_well (planned_vote s x.number.value)) _ _ w) n) (rows h) (each_planned s h c) d

-- a row that can own the commit and is willing, and of which no reply is due, wasn't handed it
still : (s : List Line) (h : List Entry) (x : Row) → is_willing (plans_of s x.number.value) x.class ≡ true → is_unplanned (plans_of s x.number.value) (open_reply h x) ≡ true
    → (not (can_own x.class) || not (is_handed (latest handed_of h) x.number.value)) ≡ true
still s h x w n = step (can_own x.class) (not (is_handed (latest handed_of h) x.number.value)) (λ o. bare o)
  where
    step : (b c : Bool) → (b ≡ true → c ≡ true) → (not b || c) ≡ true
    step true c f = f refl
    step false c f = refl

    bare : can_own x.class ≡ true → not (is_handed (latest handed_of h) x.number.value) ≡ true
    bare o =
        not_false (is_handed (latest handed_of h) x.number.value)
        (hand_step s (is_marked x && not (has_voted x)) (is_handed (latest handed_of h) x.number.value) x.number (first_of_three (voted_well (planned_vote s x.number.value)) _ _ w)
        (owner_willing (voted_well (planned_vote s x.number.value)) (is_committed (planned_owner s x.number.value)) (not (is_promotable x.class) || holds (planned_promotion s x.number.value)) x.class o w) n)

-- where the commit is handed to no row that can own it, it isn't handed over
pub unhanded_by : (h : List Entry) → ruled h ≡ true → each (λ x. not (can_own x.class) || not (is_handed (latest handed_of h) x.number.value)) (rows h) ≡ true
    → is_some (latest handed_of h) ≡ false
unhanded_by h r each_still =
    let of_each = sym (each_rows (λ e k. not (can_own k) || not (is_handed (latest handed_of h) e.value)) h) ∙ each_still in
    false_from_ne_true (is_some (latest handed_of h))
    (λ k. let w = hand_name h (sym (any_hand_seen h) ∙ k) in
    let none = only_passes (λ x. not (can_own x.1) || not (is_handed (latest handed_of h) x.0.value)) (λ n. not (is_handed (latest handed_of h) n))
    (λ x o f. step (can_own x.1) (not (is_handed (latest handed_of h) x.0.value)) o f) w.0 (enlisted h) (hand_stands w.0 h r w.1).alone of_each in
    not_both (is_handed (latest handed_of h) w.0) (hand_seen w.0 h r ∙ w.1) (not_true (is_handed (latest handed_of h) w.0) none))
  where
    step : (b c : Bool) → b ≡ true → (not b || c) ≡ true → c ≡ true
    step true c e k = k
    step false c e k = absurd cc

-- where nothing comes in phase zero, nobody is to be asked and it isn't over
zero_stuck : (q : Option EnlNo) (over : Bool) → before_seal q over ≡ [] → (q ≡ None) × (over ≡ false)
zero_stuck (Some q) over e = absurd cc
zero_stuck None true e = absurd cc
zero_stuck None false e = (refl, refl)

-- where nothing comes after the seal, nobody is to be asked, and where all voted nothing comes to commit
seal_stuck : (q : Option EnlNo) (voted : Bool) (commit : List Entry) → after_seal q voted commit ≡ [] → (q ≡ None) × (voted ≡ true → commit ≡ [])
seal_stuck (Some q) voted commit e = absurd cc
seal_stuck None true commit e = (refl, λ k. e)
seal_stuck None false commit e = (refl, λ k. absurd cc)

-- where nothing comes to commit, the commit was handed over
commit_stuck : (handed : Bool) (owner : Option EnlNo) → commit_act handed owner ≡ [] → handed ≡ true
commit_stuck true owner e = refl
commit_stuck false (Some f) e = absurd cc
commit_stuck false None e = absurd cc

-- where each is willing and no reply is due, the commit isn't handed over
none_handed : (s : List Line) (h : List Entry) → ruled h ≡ true → CanCommit s h → each (λ x. is_unplanned (plans_of s x.number.value) (open_reply h x)) (rows h) ≡ true → is_some (latest handed_of h) ≡ false
none_handed s h r c d =
    unhanded_by h r
    (each_both (λ x. is_willing (plans_of s x.number.value) x.class) (λ x. is_unplanned (plans_of s x.number.value) (open_reply h x)) (λ x. not (can_own x.class) || not (is_handed (latest handed_of h) x.number.value))
    (still s h) (rows h) (each_planned s h c) d)

-- by cases: it is sealed, or it isn't
pub by_seal : {C : Type 0} (h : List Entry) (commit sealed : Bool) → has is_sealed h ≡ sealed → commit ≡ true → ruled h ≡ true → has is_open_block (clone_rows h) ≡ false
    → each has_answered (rows h) ≡ true → is_some (latest handed_of h) ≡ false
    → undecided_act commit sealed (before_seal (next_ask (rows h) true) (is_over (rows h) (clone_rows h) 0))
    (after_seal (next_ask (rows h) false) (all_voted (rows h)) (commit_act (is_some (latest handed_of h)) (owner_of (rows h)))) ≡ [] → C
unfolding is_over
by_seal h false sealed k c r closed a u e = absurd cc
by_seal h true false k c r closed a u e =
    let stuck = zero_stuck (next_ask (rows h) true) (is_over (rows h) (clone_rows h) 0) e in
    let over : is_over (rows h) (clone_rows h) 0 ≡ true = rw (zeros_done (rows h) a stuck.0, closed) refl in
    absurd (not_both (is_over (rows h) (clone_rows h) 0) over stuck.1)
by_seal h true true k c r closed a u e =
    let stuck = seal_stuck (next_ask (rows h) false) (all_voted (rows h)) (commit_act (is_some (latest handed_of h)) (owner_of (rows h))) e in
    let voted = ones_done (rows h) a (zeros_seen h r ∙ sealed_zeros h r k) stuck.0 in
    absurd (not_both (is_some (latest handed_of h)) (commit_stuck (is_some (latest handed_of h)) (owner_of (rows h)) (stuck.1 voted)) u)

-- by cases: it was decided, or nothing was
by_decision : (s : List Line) (h : List Entry) (d : Option Outcome) → latest decision_of h ≡ d → ruled h ≡ true → each (is_planned s) h ≡ true → CanCommit s h
    → act_by d (observe h) ≡ [] → AreUnplanned s h → has (is_client_told Committed) h ≡ true
unfolding observe
by_decision s h (Some x) f r p can a d =
    client_committed h (latest client_told_of h) r (unvetoed s h r p can) (no_doubt s h r p can) refl (told_all x (find (is_to_tell (observe h) x) (observe h).listeners) (latest client_told_of h) a)
by_decision s h None f r p can a d =
    let none = none_due s h r f can.unlost d in
    let closed : has is_open_block (clone_rows h) ≡ false = open_blocks h r ∙ none_open (λ c. blocks c.1) (is_complete h) (all_of clone_of h) can.completed in
    by_seal h (has is_commit h) (has is_sealed h) refl can.asked r closed (each_answered s h can none) (none_handed s h r can none) a

-- a settled history that keeps the rules and that can commit: its client was told that it is committed
pub settled_committed : (s : List Line) (h : List Entry) → ruled h ≡ true → act_entries (observe h) ≡ [] → AreUnplanned s h → CanCommit s h → has (is_client_told Committed) h ≡ true
unfolding observe act_entries
settled_committed s h r a due can = by_decision s h (latest decision_of h) refl r (each_as_planned s h can.planned) can a due
