-- The block of each call that may come keeps the table, promoted or not.
use Rattle.std.proofs.Common.{Bool, true, ◌&&◌, List, ◌≡◌, false, ℕ, Option, Some, None, refl, ◌||◌, ◌∷◌, ◌∙◌, sym, [], ap, subst, ◌==◌}
use Rattle.std.specs.Prelude.{not, if◌then◌else◌, map, is_some, find, length}
use Rattle.std.proofs.lemmas.Bool.{eqb-true, false_from_ne_true, or_left}
use Rattle.dtx_values.specs.declared.number.ActorNo.{ActorNo}
use Rattle.dtx_values.specs.declared.number.EnlNo.{EnlNo}
use Rattle.dtx_values.specs.declared.number.RmNo.{RmNo}
use Rattle.dtx_values.specs.declared.number.TxNo.{TxNo}
use Rattle.dtx_values.specs.declared.row.Row.{Row}
use Rattle.dtx_values.specs.declared.script.Support.{Support}
use Rattle.dtx_values.specs.declared.call.Call.{Call}
use Rattle.dtx_values.specs.declared.call.Call.TheVariants.{Volatile, Durable, Promotable, Clone, Reenlist, Begin, Complete, Commit, Rollback, Marshal, Status, Await, Tick, Do, Lose, Gone, Recovered}
use Rattle.dtx_values.specs.declared.limits.TheConstants.{ENLISTMENTS, CALLS, DURABLES}
use Rattle.dtx_values.specs.declared.entry.Answer.{Answer}
use Rattle.dtx_values.specs.declared.entry.Answer.TheVariants.{Fine, Many, TooLate, True, False, Wait, Id, NotBegun, NoSuch, Finished, Over, Connected}
use Rattle.dtx_values.specs.declared.entry.Entry.{Entry}
use Rattle.dtx_values.specs.declared.entry.Entry.TheVariants.{Lost, OwnerAnswered, Clock, Late, TimedOut, Called, Enlisted, Init, Got, Reenlisted, Sent, Began, Cloned, CommitAsked, Completed, RollbackAsked, Recovered as RecoveredEntry}
use Rattle.dtx_values.specs.declared.message.Conn.{Conn}
use Rattle.dtx_values.specs.declared.message.Conn.TheVariants.{Enl as OnEnl, Again}
use Rattle.dtx_values.specs.declared.message.Dir.TheVariants.{Down, Up}
use Rattle.dtx_values.specs.declared.message.Message.TheVariants.{EnlistEnlisted, ReenlistReenlist}
use Rattle.dtx_values.specs.Ends.{is_in}
use Rattle.dtx_values.specs.declared.words.Cause.{Cause}
use Rattle.dtx_values.specs.declared.words.Cause.TheVariants.{Marshal as MarshalCause}
use Rattle.dtx_values.specs.declared.words.Class.TheVariants.{DurableSingle, Promotable as PromotableClass}
use Rattle.dtx_values.specs.declared.words.Outcome.{Outcome}
use Rattle.dtx_values.specs.declared.words.Outcome.TheVariants.{InDoubt}
use Rattle.dtx_values.specs.declared.script.EnlistOption.{EnlistOption}
use Rattle.dtx_values.specs.Class.{is_volatile}
use Rattle.dtx_values.specs.Clones.{is_clone, is_complete_clone, is_open_rollback}
use Rattle.dtx_values.specs.Owners.{is_evident, cause_of, may_own}
use Rattle.dtx_values.specs.Row.{is_lasting, is_of}
use Rattle.dtx_values.specs.Support.{is_single}
use Rattle.dtx_values.specs.Table.{voted}
use Rattle.dtx_model.specs.Words.{all_of, ever, has, onto, latest, each}
use Rattle.dtx_model.specs.Entries.{is_any_single_sent, is_owner, is_owner_answer, is_single_sent, is_good_vote, is_yes, is_vote, is_decision, is_hand, is_any_hand, is_any_owner, is_sealed, decision_of, handed_of, is_promoted, began_of, is_commit}
use Rattle.dtx_model.specs.Observed.{observe, rows, track, branches, is_branch, is_done_branch, clock, clone_rows}
use Rattle.dtx_model.specs.Outcome.{enlisted, is_lost_owner, owner_doubt, evidence, by_log, by_owner, by_seal, ready}
use Rattle.dtx_model.specs.Promotes.{identifier_of, is_under_way, is_enlisted_got, is_promoting}
use Rattle.dtx_model.specs.Wires.{opens, is_ended}
use Rattle.dtx_model.specs.declared.branch.Branch.{Branch}
use Rattle.dtx_model.specs.Waiting.{Waiter, managed, waiting}
use Rattle.dtx_model.specs.Half.{veto, decide, fails_if, is_promoting as sees_promoting, enlist_sent, is_handed, info, is_gone, sees, veto_if}
use Rattle.dtx_model.specs.Answers.{if_begun, unless_ended, clone_answer, complete_answer, unless_late, gone_answer, wait_for, class_of, has_promotion, is_crowded, is_full, is_full_of_durables, local_answer, marshal_answer, promotable_answer, volatile_answer, limit_of}
use Rattle.dtx_model.specs.Facts.{has_facts, is_late, facts_if, begin_promotion, durable_waits, is_done, durable_facts, tick_facts, ticked, reaches}
use Rattle.dtx_model.specs.World.{cut_upward, has_answered_there, is_out_row, World, answer_at, half, gone_by, open_ones, has_left, is_connected, is_linked, was_opened, reenlist_facts, branch_answer, core, is_finished_there, reenlist_answer, reenlist_by, unless_stopped, cut}
use Rattle.dtx_model.specs.Steps.{called}
use Rattle.dtx_model.proofs.Bools.{and_left, not_true, and_right, not_both, or_case, and_both, not_false, or_first, or_second, and_never, or_false, or_right, three_hold}
use Rattle.dtx_model.proofs.Unowned.{causeless}
use Rattle.dtx_model.proofs.Classes.{volatile_class}
use Rattle.history_table.proofs.EntryTests.{is_cloned, is_enlisted, enlisted_passes, is_answer, undecided}
use Rattle.history_table.proofs.Table.{stands_volatile, is_enlist_got, is_left_alone, is_opening_got, is_lost_there, decision_row}
use Rattle.history_table.proofs.HalfRows.{volatile_stands, vote_seen, commit_vetoed}
use Rattle.history_table.proofs.Scans.{each_both, has_less, has_more}
use Rattle.history_table.proofs.Keeping.{Keeps, arrived}
use Rattle.history_table.proofs.Recording.{come_if_promoted, promoted_if_yes, well_if_yes, promoting_if_promoted}
use Rattle.history_table.proofs.TableRows.{unvoted_unwell, none_there, enlisted_in_rows, clone_stands}
use Rattle.history_table.proofs.Undecided.{Stands, stand, goes_on, unanswered_if, unwilling_open, decided_stand, way_unsealed, unowned_evident, none_began, hand_seen}
use Rattle.history_table.proofs.Deciding.{seen_half, decide_decides, decide_keeps, decided_there}
use Rattle.history_table.proofs.HalfCalls.{veto_stands, timeout_stands, call_alone, enlisted_stands, begin_stands, begun_if_promoted, enlist_stands, owner_row, cloned_stands, commit_stands, completed_stands, rollback_stands}
use Rattle.history_table.proofs.Handed.{any_answer, hand_any, hand_name}
use Rattle.history_table.proofs.Doubting.{owner_doubts}
use Rattle.history_table.proofs.LetDecide.{single_any, single_if_handed, yes_if_single}
use Rattle.history_table.proofs.SinglePhase.{single_only}
use Rattle.history_table.proofs.CameBack.{came_if_enlisted}
use Rattle.history_table.proofs.HalfOwner.{enlist_opening}
use Rattle.history_table.proofs.Standing.{opened_if_got}
use Rattle.history_table.proofs.Evident.{sealed_if_handed}
use Rattle.history_table.proofs.HalfKnows.{way_seen}
use Rattle.history_table.proofs.Owned.{any_hand_seen, none_lasting, decision_seen}
use Rattle.history_table.proofs.Sendings.{got_promoting}
use Rattle.history_table.proofs.Crossed.{is_severing}
use Rattle.history_table.proofs.Reenlisted.{ended_loss, opened_since, branches_got}
use Rattle.history_table.proofs.Tests.{eq_self}

abbrev pub makes_new : List Entry → Call → Bool
makes_new h (Volatile t e x v) = not (has (is_enlisted e.value) h) && not (has (opens (OnEnl e)) h)
makes_new h (Durable t e r s) = not (has (is_enlisted e.value) h) && not (has (opens (OnEnl e)) h)
makes_new h (Promotable t e r v x p) = not (has (is_enlisted e.value) h) && not (has (opens (OnEnl e)) h)
makes_new h (Clone t c k) = not (has (is_cloned c.value) h)
makes_new h _ = true

unenlisted : (h : List Entry) (e : EnlNo) → (not (has (is_enlisted e.value) h) && not (has (opens (OnEnl e)) h)) ≡ true → has (is_enlisted e.value) h ≡ false
unenlisted h e w = not_true (has (is_enlisted e.value) h) (and_left (not (has (is_enlisted e.value) h)) (not (has (opens (OnEnl e)) h)) w)

unopened : (h : List Entry) (e : EnlNo) → (not (has (is_enlisted e.value) h) && not (has (opens (OnEnl e)) h)) ≡ true → has (opens (OnEnl e)) h ≡ false
unopened h e w = not_true (has (opens (OnEnl e)) h) (and_right (not (has (is_enlisted e.value) h)) (not (has (opens (OnEnl e)) h)) w)

-- a call was done where it was begun and nothing is decided
pub done_behind : (l : Option ℕ) (d : Option Outcome) (a : Answer) → has_facts (if_begun l (unless_ended d a)) ≡ true → (d ≡ None) × (has_facts a ≡ true)
done_behind None d a k = absurd cc
done_behind (Some n) (Some x) a k = absurd cc
done_behind (Some n) None a k = (refl, k)

-- a call of volatile that was done stood after no seal
volatile_done : (s f : Bool) → has_facts (if s then TooLate else if f then Many ENLISTMENTS else Fine) ≡ true → s ≡ false
volatile_done true f k = absurd cc
volatile_done false f k = refl

-- a promotable call that was done stood after no seal, no promotion, and nothing durable or promotable
promotable_done : (s l p f : Bool) → has_facts (if s then TooLate else if not (not p && not l) then False else if f then Many ENLISTMENTS else True) ≡ true
    → (s ≡ false) × (l ≡ false) × (p ≡ false)
promotable_done true l p f k = absurd cc
promotable_done false l true f k = absurd cc
promotable_done false true false f k = absurd cc
promotable_done false false false f k = (refl, refl, refl)

clone_done : (commit : Bool) (n : ℕ) → has_facts (clone_answer commit n) ≡ true → commit ≡ false
clone_done true n k = absurd cc
clone_done false n k = refl

complete_done : (stands complete : Bool) → has_facts (complete_answer stands complete) ≡ true → stands ≡ true
complete_done true complete k = refl
complete_done false complete k = absurd cc

late_done : (late : Bool) → has_facts (unless_late late) ≡ true → late ≡ false
late_done true k = absurd cc
late_done false k = refl

marshal_done : (t : ℕ) (p s c : Bool) → has_facts (if p then Id (identifier_of t) else if s then TooLate else if c then Many CALLS else Wait) ≡ true → (p ≡ false) × (s ≡ false)
marshal_done t true s c k = absurd cc
marshal_done t false true c k = absurd cc
marshal_done t false false c k = (refl, refl)

gone_done : (l : Option ℕ) (stands lost : Bool) → has_facts (if_begun l (gone_answer stands lost)) ≡ true → stands ≡ true
gone_done None stands lost k = absurd cc
gone_done (Some n) false lost k = absurd cc
gone_done (Some n) true lost k = refl

-- what a durable call answers: what is so for each answer of these
durable_by : (F : Answer → Type 0) (l : Option ℕ) (d : Option Outcome) (s f c q p : Bool) (o : Option Cause) → (d ≡ None → s ≡ false → p ≡ false → o ≡ None → F Fine) → (d ≡ None → s ≡ false → F Wait)
    → ((x : Answer) → has_facts x ≡ false → F x)
    → F (if_begun l (unless_ended d (if s then TooLate else if f then Many ENLISTMENTS else if c then Many CALLS else if q then Many DURABLES else if p then Wait else wait_for o)))
durable_by F None d s f c q p o good wait bad = bad NotBegun refl
durable_by F (Some n) (Some x) s f c q p o good wait bad = bad _ refl
durable_by F (Some n) None true f c q p o good wait bad = bad TooLate refl
durable_by F (Some n) None false true c q p o good wait bad = bad (Many ENLISTMENTS) refl
durable_by F (Some n) None false false true q p o good wait bad = bad (Many CALLS) refl
durable_by F (Some n) None false false false true p o good wait bad = bad (Many DURABLES) refl
durable_by F (Some n) None false false false false true o good wait bad = wait refl refl
durable_by F (Some n) None false false false false false (Some y) good wait bad = wait refl refl
durable_by F (Some n) None false false false false false None good wait bad = good refl refl refl refl

-- what doesn't stand is no volatile
unvolatile : (e : EnlNo) (h : List Entry) → has (is_enlisted e.value) h ≡ false → stands_volatile e.value h ≡ false
unvolatile e h n = false_from_ne_true (stands_volatile e.value h) (λ v. not_both (has (is_enlisted e.value) h) (volatile_stands e.value h v) n)

-- A loss. Who came to the coordinator, or is volatile and voted well.
came_or_good : (h : List Entry) (e : ℕ) → Keeps h → has is_yes h ≡ true → has (is_enlisted e) h ≡ true → (has (is_enlist_got e) h || has (is_good_vote e) h) ≡ true
came_or_good h e k y s =
    enlisted_passes (λ n. has (is_enlist_got n) h || has (is_good_vote n) h) e h
    (each_both (λ x. is_volatile x.1 || has (is_enlist_got x.0.value) h) (λ x. not (is_volatile x.1) || has (is_good_vote x.0.value) h) (λ x. has (is_enlist_got x.0.value) h || has (is_good_vote x.0.value) h)
    (λ x. step (is_volatile x.1) (has (is_enlist_got x.0.value) h) (has (is_good_vote x.0.value) h)) (enlisted h) (come_if_promoted h k (promoted_if_yes h k y)) (well_if_yes h k y)) s
  where
    step : (v g w : Bool) → (v || g) ≡ true → (not v || w) ≡ true → (g || w) ≡ true
    step true true w p q = refl
    step true false w p q = q
    step false true w p q = refl
    step false false w p q = absurd cc

lost_where : (h : List Entry) (e : EnlNo) → Keeps h → has (is_enlisted e.value) h ≡ true → has (is_vote e.value) h ≡ false → (not (has is_yes h) || is_lost_there h (Lost e)) ≡ true
lost_where h e k s v = step (has is_yes h) refl
  where
    step : (b : Bool) → has is_yes h ≡ b → (not b || has (is_enlist_got e.value) h) ≡ true
    step false y = refl
    step true y =
        or_case (has (is_enlist_got e.value) h) (has (is_good_vote e.value) h) (λ g. g) (λ g. absurd (not_both (has (is_good_vote e.value) h) g (unvoted_unwell e.value h v))) (came_or_good h e.value k y s)

lost_alone : (h : List Entry) (e : EnlNo) → Stands h → has (is_enlisted e.value) h ≡ true → Stands (Lost e ∷ h)
lost_alone h e k s = stand (Lost e) h refl tt k s (λ g. g)

-- nobody else is handed the commit of a promotion then, so no owner answered
lost_unanswered : (h : List Entry) (e : EnlNo) → Stands h → has (is_enlisted e.value) h ≡ true → has is_decision h ≡ false → has (is_vote e.value) h ≡ false → has (is_hand e.value) h ≡ false
    → has is_answer h ≡ false
lost_unanswered h e k s d v u = unanswered_if h k d (λ p. false_from_ne_true (has is_any_hand h) (λ t. apart (promoting_if_promoted h k.keeps p) (hand_name h t)))
  where
    apart : has is_promoting h ≡ true → (f : ℕ) × (has (is_hand f) h ≡ true) → ⊥
    apart p name =
        let sent = single_if_handed name.0 h k.keeps p name.1 in
        or_case (has (is_enlist_got e.value) h) (has (is_good_vote e.value) h)
        (λ g. not_both (has (is_hand e.value) h) (subst (λ n. has (is_hand n) h ≡ true) (sym (eqb-true e.value name.0 (single_only e.value name.0 h k.keeps sent g))) name.1) u)
        (λ g. not_both (has (is_good_vote e.value) h) g (unvoted_unwell e.value h v))
        (came_or_good h e.value k.keeps (yes_if_single h k.keeps (has_more (is_single_sent name.0) is_any_single_sent (single_any name.0) h sent)) s)

lost_vetoes : (h : List Entry) (ws : List Waiter) (ms : List (EnlNo × RmNo)) (e : EnlNo) → Stands h → has (is_enlisted e.value) h ≡ true → has is_decision h ≡ false → has (is_vote e.value) h ≡ false
    → has (is_hand e.value) h ≡ false → Stands (onto (Lost e ∷ h) (veto (seen_half (Lost e ∷ h) ws ms)))
lost_vetoes h ws ms e k s d v u =
    let veto = and_both (not (has (is_vote e.value) h)) (not (has (is_hand e.value) h)) (not_false (has (is_vote e.value) h) v) (not_false (has (is_hand e.value) h) u) in
    veto_stands (Lost e) h ws ms refl (lost_alone h e k s).keeps d veto (unwilling_open h e.value k.keeps s (unvoted_unwell e.value h v) (lost_unanswered h e k s d v u)) (lost_where h e k.keeps s v)

lost_doubts : (h : List Entry) (ws : List Waiter) (ms : List (EnlNo × RmNo)) (e : EnlNo) → Stands h → has (is_enlisted e.value) h ≡ true → has is_decision h ≡ false → has is_answer h ≡ false → has (is_hand e.value) h ≡ true
    → Stands (onto (Lost e ∷ h) (decide (seen_half (Lost e ∷ h) ws ms) InDoubt))
unfolding owner_doubt
lost_doubts h ws ms e k s d q u =
    decided_stand (onto (Lost e ∷ h) (decide (seen_half (Lost e ∷ h) ws ms) InDoubt))
    (decide_keeps (Lost e ∷ h) ws ms InDoubt (lost_alone h e k s).keeps d (λ w. absurd (settled w)) row)
    (decided_there (onto (Lost e ∷ h) (decide (seen_half (Lost e ∷ h) ws ms) InDoubt)) InDoubt (decide_decides (Lost e ∷ h) ws ms InDoubt))
  where
    settled : is_under_way (Lost e ∷ h) ≡ true → ⊥
    settled w = not_both (has is_sealed h) (sealed_if_handed h k.keeps (has_more (is_hand e.value) is_any_hand (hand_any e.value) h u)) (way_unsealed h k.keeps w)

    lost : is_lost_owner h (Lost e) ≡ true
    lost =
        and_both (has (is_hand e.value) h) (not (has (is_any_owner e.value) h)) u
        (not_false (has (is_any_owner e.value) h) (has_less (is_any_owner e.value) is_answer (any_answer e.value) h q))

    lose : owner_doubt (Lost e ∷ h) ≡ true
    lose =
        or_right (has (λ f. has (is_owner f.value InDoubt) h) (all_of handed_of h)) (is_lost_owner h (Lost e) || ever is_lost_owner h) (or_left (is_lost_owner h (Lost e)) (ever is_lost_owner h) lost)

    row : (b : Bool) → sees_promoting (observe (Lost e ∷ h)) ≡ b → decision_row (onto (Lost e ∷ h) (fails_if b)) InDoubt ≡ true
    row true q = absurd (settled (sym (way_seen (Lost e ∷ h)) ∙ q))
    row false q = owner_doubts (Lost e ∷ h) lose

-- who answered as the owner of a promotion is lost without more; so else no owner answered
answered_seen : (h : List Entry) → Stands h → has is_decision h ≡ false → (has is_promoted h && true && has is_owner_answer h) ≡ false → has is_answer h ≡ false
answered_seen h k d a = by (has is_promoted h) refl a
  where
    answer : (x : Entry) → is_answer x ≡ true → is_owner_answer x ≡ true
    answer (OwnerAnswered f y) t = refl
    answer _ t = absurd cc

    by : (b : Bool) → has is_promoted h ≡ b → (b && true && has is_owner_answer h) ≡ false → has is_answer h ≡ false
    by true p q = has_less is_answer is_owner_answer answer h q
    by false p q = (goes_on h k d).unanswered p

gone_stands : (h : List Entry) (ws : List Waiter) (ms : List (EnlNo × RmNo)) (e : EnlNo) (answered decided voted handed : Bool) → Stands h → has (is_enlisted e.value) h ≡ true
    → answered ≡ (has is_promoted h && handed && has is_owner_answer h) → decided ≡ has is_decision h → voted ≡ has (is_vote e.value) h → handed ≡ has (is_hand e.value) h
    → Stands (onto (Lost e ∷ h) (if answered then [] else if decided || voted then [] else if handed then decide (seen_half (Lost e ∷ h) ws ms) InDoubt else veto (seen_half (Lost e ∷ h) ws ms)))
gone_stands h ws ms e true decided voted handed k s a f g w = lost_alone h e k s
gone_stands h ws ms e false true voted handed k s a f g w = lost_alone h e k s
gone_stands h ws ms e false false true handed k s a f g w = lost_alone h e k s
gone_stands h ws ms e false false false true k s a f g w = lost_doubts h ws ms e k s (sym f) (answered_seen h k (sym f) (sym a)) (sym w)
gone_stands h ws ms e false false false false k s a f g w = lost_vetoes h ws ms e k s (sym f) (sym g) (sym w)

-- each connection that is open is cut
cuts_stand : (past : List Entry) (cs : List Conn) (h : List Entry) → Stands h → Stands (onto h (map (cut_upward past) cs))
cuts_stand past [] h k = k
cuts_stand past (c ∷ cs) h k = cuts_stand past cs (cut_upward past c ∷ h) (stand (cut_upward past c) h refl tt k refl (λ g. g))

-- the clock that reaches the timeout, or doesn't
late_open : (h : List Entry) → Stands h → is_late (observe h) ≡ false → (has is_decision h ≡ false) × (has is_yes h ≡ false) × (has is_any_hand h ≡ false) × (evidence h ≡ false)
unfolding observe
late_open h k l =
    let yes = has is_yes h in
    let decided = is_some (latest decision_of h) in
    let handed = is_some (latest handed_of h) in
    let evident = not (has is_promoted h) && is_evident (has is_sealed h) (rows h) in
    let first = or_first (yes || decided || handed) evident l in
    let second = or_first (yes || decided) handed first in
    let d = undecided h (none_there (latest decision_of h) (or_second yes decided second)) in
    let y = or_first yes decided second in
    let u = sym (any_hand_seen h) ∙ or_second (yes || decided) handed first in
    (d, y, u, false_from_ne_true (evidence h) (λ e. not_both evident (unowned_evident h k.keeps y u e) (or_second (yes || decided || handed) evident l)))

clock_open : (h : List Entry) (z : ℕ) → evidence (Clock z ∷ h) ≡ evidence h
unfolding evidence ready by_seal by_owner by_log
clock_open h z = refl

time_stands : (h : List Entry) (ws : List Waiter) (ms : List (EnlNo × RmNo)) (z : ℕ) (reached late : Bool) → Stands h → is_late (observe h) ≡ late
    → Stands (onto (Clock z ∷ h) (if reached then (if late then Late ∷ [] else TimedOut ∷ veto (seen_half h ws ms)) else []))
unfolding veto observe
time_stands h ws ms z false late k e = stand (Clock z) h refl tt k refl (λ g. g)
time_stands h ws ms z true true k e = stand Late (Clock z ∷ h) refl tt (stand (Clock z) h refl tt k refl (λ g. g)) refl (λ g. g)
time_stands h ws ms z true false k e =
    let w = late_open h k e in timeout_stands (Clock z ∷ h) ws ms (stand (Clock z) h refl tt k refl (λ g. g)) w.0 w.1 w.2 (clock_open h z ∙ w.3)

-- The calls.
fact_by : (P : Bool → Type 0) (b : Bool) → P false → (b ≡ true → P true) → P b
fact_by P true x f = f refl
fact_by P false x f = x

volatile_call : (t : ℕ) (w : World) (n : ℕ) (a : ActorNo) (m u : ℕ) (e : EnlNo) (x : EnlistOption) (y : Answer) → Stands w.past → (not (has (is_enlisted e.value) w.past) && not (has (opens (OnEnl e)) w.past)) ≡ true
    → (has_facts y ≡ true → (has is_decision w.past ≡ false) × (has is_sealed w.past ≡ false)) → Stands (onto (Called n a y ∷ w.past) (facts_if (has_facts y) (Enlisted e (class_of x) ∷ [])))
volatile_call t w n a m u e x y k new f =
    let P : Bool → Type 0 = λ b. Stands (onto (Called n a y ∷ w.past) (facts_if b (Enlisted e (class_of x) ∷ []))) in
    fact_by P (has_facts y) (call_alone n a y w.past k) (λ b. let g = f b in
    enlisted_stands (Called n a y ∷ w.past) e (class_of x) (call_alone n a y w.past k) g.0 g.1 (unenlisted w.past e new)
    (or_left (is_volatile (class_of x) || has (is_enlist_got e.value) w.past) _ (or_left (is_volatile (class_of x)) (has (is_enlist_got e.value) w.past) (volatile_class x)))
    (rw (unopened w.past e new) (and_never (is_volatile (class_of x)))))

-- a durable call that waits
wait_stands : (t : ℕ) (h : List Entry) (ws : List Waiter) (ms : List (EnlNo × RmNo)) (e : EnlNo) (r : RmNo) (single : Bool) → Stands h → has is_decision h ≡ false → has is_sealed h ≡ false
    → (not (has (is_enlisted e.value) h) && not (has (opens (OnEnl e)) h)) ≡ true → Stands (onto h (durable_waits t (seen_half h ws ms) e r single))
unfolding observe
wait_stands t h ws ms e r single k d s new = step (has is_promoted h) (sees_promoting (observe h)) refl refl
  where
    step : (p q : Bool) → has is_promoted h ≡ p → sees_promoting (observe h) ≡ q
        → Stands (onto h (if p then enlist_sent t e r else if q then [] else begin_promotion (seen_half h ws ms) (cause_of (rows h) single)))
    step true q f g =
        enlist_stands t h e r k (promoting_if_promoted h k.keeps f) (begun_if_promoted h k.keeps f) (unopened h e new) (unvolatile e h (unenlisted h e new))
    step false true f g = k
    step false false f g = begin_stands h ws ms (cause_of (rows h) single) k d s (none_began h k d (or_false (has is_promoted h) (sees_promoting (observe h)) f g))

causeless_wait : (xs : List Row) (single : Bool) → cause_of xs single ≡ None → has is_lasting xs ≡ false
causeless_wait xs single n = causeless xs single (ap (λ o. is_done (wait_for o)) n)

durable_call : (t : ℕ) (w : World) (n : ℕ) (a : ActorNo) (m : ℕ) (u : TxNo) (e : EnlNo) (r : RmNo) (x : Support) → Stands w.past
    → (not (has (is_enlisted e.value) w.past) && not (has (opens (OnEnl e)) w.past)) ≡ true → Stands (onto w.past (called t w n a (Durable u e r x) (answer_at t w (Durable u e r x) m)))
unfolding answer_at local_answer observe
durable_call t w n a m u e r x k new =
    let h = w.past in
    let F : Answer → Type 0 = λ y. Stands (onto (Called n a y ∷ h) (facts_if (has_facts y) (durable_facts t (half w) e r (is_single x) y))) in
    durable_by F (latest began_of h) (latest decision_of h) (has is_sealed h) (is_full (half w)) (is_crowded (half w)) (is_full_of_durables (half w)) (has_promotion (observe h)) (cause_of (rows h) (is_single x))
    (λ d s p o. let free = undecided h d in
    enlisted_stands (Called n a Fine ∷ h) e DurableSingle (call_alone n a Fine h k) free s (unenlisted h e new)
    (owner_row (Called n a Fine ∷ h) e DurableSingle refl (none_began h k free p) (none_lasting h (causeless_wait (rows h) (is_single x) o))) refl)
    (λ d s. wait_stands t (Called n a Wait ∷ h) (waiting w.calls h) (managed w.calls h) e r (is_single x) (call_alone n a Wait h k) (undecided h d) s new)
    (λ y b. let P : Bool → Type 0 = λ c. Stands (onto (Called n a y ∷ h) (facts_if c (durable_facts t (half w) e r (is_single x) y))) in subst P (sym b) (call_alone n a y h k))

-- what a call does where it was done, and else nothing
done_by : (y : Answer) (n : ℕ) (a : ActorNo) (h es : List Entry) → Stands h → (has_facts y ≡ true → Stands (onto (Called n a y ∷ h) es)) → Stands (onto (Called n a y ∷ h) (facts_if (has_facts y) es))
done_by y n a h es k f = let P : Bool → Type 0 = λ b. Stands (onto (Called n a y ∷ h) (facts_if b es)) in fact_by P (has_facts y) (call_alone n a y h k) f

promotable_call : (t : ℕ) (w : World) (n : ℕ) (a : ActorNo) (e : EnlNo) (y : Answer) → Stands w.past → (not (has (is_enlisted e.value) w.past) && not (has (opens (OnEnl e)) w.past)) ≡ true
    → (has_facts y ≡ true → (has is_decision w.past ≡ false) × (has is_sealed w.past ≡ false) × (has is_lasting (rows w.past) ≡ false) × (has_promotion (observe w.past) ≡ false))
    → Stands (onto (Called n a y ∷ w.past) (facts_if (has_facts y) (Enlisted e PromotableClass ∷ Init e ∷ [])))
promotable_call t w n a e y k new f =
    done_by y n a w.past (Enlisted e PromotableClass ∷ Init e ∷ []) k (λ b. let g = f b in
    stand (Init e) (Enlisted e PromotableClass ∷ Called n a y ∷ w.past) refl tt
    (enlisted_stands (Called n a y ∷ w.past) e PromotableClass (call_alone n a y w.past k) g.0 g.1 (unenlisted w.past e new)
    (owner_row (Called n a y ∷ w.past) e PromotableClass refl (none_began w.past k g.0 g.3) (none_lasting w.past g.2)) refl) refl (λ g. g))

-- a marshal call
marshal_call : (t : ℕ) (w : World) (n : ℕ) (a : ActorNo) (y : Answer) → Stands w.past → (has_facts y ≡ true → (has is_decision w.past ≡ false) × (has is_promoted w.past ≡ false) × (has is_sealed w.past ≡ false))
    → Stands (onto (Called n a y ∷ w.past) (facts_if (has_facts y) (if sees_promoting (half w).seen then [] else begin_promotion (half w) (Some MarshalCause))))
unfolding observe
marshal_call t w n a y k f = done_by y n a w.past _ k (λ b. step (sees_promoting (observe w.past)) refl (f b))
  where
    step : (q : Bool) → sees_promoting (observe w.past) ≡ q → (has is_decision w.past ≡ false) × (has is_promoted w.past ≡ false) × (has is_sealed w.past ≡ false)
        → Stands (onto (Called n a y ∷ w.past) (if q then [] else begin_promotion (half w) (Some MarshalCause)))
    step true q g = call_alone n a y w.past k
    step false q g =
        begin_stands (Called n a y ∷ w.past) (waiting w.calls w.past) (managed w.calls w.past) (Some MarshalCause) (call_alone n a y w.past k) g.0 g.2
        (none_began w.past k g.0 (or_false (has is_promoted w.past) (sees_promoting (observe w.past)) g.1 q))

-- where an enlistment that stands is lost
gone_call : (t : ℕ) (w : World) (n : ℕ) (a : ActorNo) (e : EnlNo) (y : Answer) → Stands w.past → (has_facts y ≡ true → has (is_of e.value) (rows w.past) ≡ true)
    → Stands (onto (Called n a y ∷ w.past) (facts_if (has_facts y) (gone_by w e (open_ones w e))))
unfolding observe track
gone_call t w n a e y k f = done_by y n a w.past (gone_by w e (open_ones w e)) k (λ b. step (open_ones w e) (f b))
  where
    h : List Entry
    h = w.past

    step : (cs : List Conn) → has (is_of e.value) (rows w.past) ≡ true → Stands (onto (Called n a y ∷ w.past) (gone_by w e cs))
    step [] s =
        gone_stands (Called n a y ∷ w.past) (waiting w.calls w.past) (managed w.calls w.past) e (has_answered_there (observe w.past) e.value) (is_some (latest decision_of w.past))
        (voted e.value (rows w.past)) (is_handed (latest handed_of w.past) e.value) (call_alone n a y w.past k) (sym (enlisted_in_rows e.value w.past) ∙ s) refl (decision_seen w.past) (vote_seen w.past e.value k.keeps s)
        (hand_seen e.value w.past k.keeps)
    step (c ∷ cs) s =
        cuts_stand w.past (c ∷ cs) (Lost e ∷ Called n a y ∷ w.past) (lost_alone (Called n a y ∷ w.past) e (call_alone n a y w.past k) (sym (enlisted_in_rows e.value w.past) ∙ s))

-- A reenlistment.
enlisted_promoting : (n : ℕ) (x : Entry) (h : List Entry) → Keeps (x ∷ h) → is_enlisted_got n x ≡ true → has is_promoting h ≡ true
enlisted_promoting n (Got (OnEnl f) Down EnlistEnlisted) h k t = got_promoting (OnEnl f) Down EnlistEnlisted h k
enlisted_promoting n _ h k t = absurd cc

promoting_if_enlisted : (n : ℕ) (h : List Entry) → Keeps h → has (is_enlisted_got n) h ≡ true → has is_promoting h ≡ true
promoting_if_enlisted n h k s =
    arrived (is_enlisted_got n) (λ g. has is_promoting g) (λ x g t. or_right (is_promoting x) (has is_promoting g) t) (enlisted_promoting n) h k s

-- an answer with facts is that of one that was enlisted and has no connection
pub branch_done : (a f v c : Bool) (r : RmNo) (e : EnlNo) (x : Answer) → has_facts (if not a then NoSuch else if f then Finished else if v then Over r else if c then Connected e else x) ≡ true → (a ≡ true) × (c ≡ false)
branch_done false f v c r e x k = absurd cc
branch_done true true v c r e x k = absurd cc
branch_done true false true c r e x k = absurd cc
branch_done true false false true r e x k = absurd cc
branch_done true false false false r e x k = (refl, refl)

-- and it isn't finished
pub branch_unfinished : (a f v c : Bool) (r : RmNo) (e : EnlNo) (x : Answer) → has_facts (if not a then NoSuch else if f then Finished else if v then Over r else if c then Connected e else x) ≡ true → f ≡ false
branch_unfinished false f v c r e x k = absurd cc
branch_unfinished true true v c r e x k = absurd cc
branch_unfinished true false v c r e x k = refl

-- where a connection was opened and has nothing left, it was seen to end at both its ends
pub both_ended : (o a b l r : Bool) → o ≡ true → (o && (not (a && b) || l || r)) ≡ false → b ≡ true
both_ended false a b l r p q = absurd cc
both_ended true true true l r p q = refl
both_ended true true false l r p q = absurd cc
both_ended true false b l r p q = absurd cc

unlinked_row : (e : EnlNo) (h : List Entry) → Keeps h → is_connected e h ≡ false → (not (has (opens (Again e)) h) || has is_severing h) ≡ true
unlinked_row e h k u = step (has (opens (Again e)) h) refl
  where
    step : (b : Bool) → has (opens (Again e)) h ≡ b → (not b || has is_severing h) ≡ true
    step false o = refl
    step true o =
        ended_loss (Again e) h k
        (both_ended (was_opened (Again e) h) (is_ended (Again e) Up h) (is_ended (Again e) Down h) (has_left (Again e) Up h) (has_left (Again e) Down h) (opened_since (Again e) h o)
        (or_second (is_linked (OnEnl e) h) (is_linked (Again e) h) u))

pub found_branch : (p q : Branch → Bool) (bs : List Branch) (b : Branch) → each q bs ≡ true → find p bs ≡ Some b → q b ≡ true
found_branch p q [] b k e = absurd cc
found_branch p q (x ∷ bs) b k e = step (p x) e (found_branch p q bs b (and_right (q x) (each q bs) k))
  where
    step : (c : Bool) → (if c then Some x else find p bs) ≡ Some b → (find p bs ≡ Some b → q b ≡ true) → q b ≡ true
    step true e f = let same : x ≡ b = cc in subst (λ z. q z ≡ true) same (and_left (q x) (each q bs) k)
    step false e f = f e

-- who comes back is left alone: it wasn't handed the commit, and its own connection has ended
left_alone : (e : EnlNo) (h : List Entry) → Keeps h → has (is_enlisted_got e.value) h ≡ true → is_handed (latest handed_of h) e.value ≡ false → is_connected e h ≡ false → is_left_alone (Again e) h ≡ true
left_alone e h k g u n =
    three_hold (has (is_enlisted_got e.value) h) (not (has (is_hand e.value) h)) (is_ended (OnEnl e) Down h) g (not_false (has (is_hand e.value) h) (sym (hand_seen e.value h k) ∙ u))
    (both_ended (was_opened (OnEnl e) h) (is_ended (OnEnl e) Up h) (is_ended (OnEnl e) Down h) (has_left (OnEnl e) Up h) (has_left (OnEnl e) Down h)
    (opened_since (OnEnl e) h (opened_if_got (OnEnl e) h k (has_more (is_enlist_got e.value) (is_opening_got (OnEnl e)) (enlist_opening e) h (came_if_enlisted e h k g))))
    (or_first (is_linked (OnEnl e) h) (is_linked (Again e) h) n))

reenlist_block : (t : ℕ) (h : List Entry) (b : Branch) → Stands h → has (is_enlisted_got b.enlistment.value) h ≡ true → (not (has (opens (Again b.enlistment)) h) || has is_severing h) ≡ true
    → is_left_alone (Again b.enlistment) h ≡ true → Stands (onto h (reenlist_facts t (Some b)))
reenlist_block t h b k g l z =
    let promoting = promoting_if_enlisted b.enlistment.value h k.keeps g in
    stand (Sent (Again b.enlistment) Up (ReenlistReenlist (info t b.enlistment b.manager))) (Reenlisted b.enlistment ∷ h) refl tt
    (stand (Reenlisted b.enlistment) h refl tt k g (λ g. g))
    (and_both (has is_promoting h && true) ((b.enlistment.value == b.enlistment.value) && (not (has (opens (Again b.enlistment)) h) || has is_severing h) && is_left_alone (Again b.enlistment) h)
    (and_both (has is_promoting h) true promoting refl)
    (three_hold (b.enlistment.value == b.enlistment.value) (not (has (opens (Again b.enlistment)) h) || has is_severing h) (is_left_alone (Again b.enlistment) h) (eq_self b.enlistment.value) l z)) (λ g. g)

reenlist_call : (t : ℕ) (w : World) (n : ℕ) (a : ActorNo) (e : EnlNo) (l : Option ℕ) → Stands w.past
    → Stands (onto w.past (called t w n a (Reenlist e) (if_begun l (reenlist_answer w e))))
unfolding observe
reenlist_call t w n a e None k = call_alone n a NotBegun w.past k
reenlist_call t w n a e (Some d) k = step (find (is_branch e.value) (branches w.past)) refl
  where
    step : (o : Option Branch) → find (is_branch e.value) (branches w.past) ≡ o
        → Stands (onto w.past (Called n a (reenlist_by w o) ∷ facts_if (has_facts (reenlist_by w o)) (reenlist_facts t o)))
    step None q = call_alone n a NoSuch w.past k
    step (Some b) q =
        done_by (branch_answer w b) n a w.past (reenlist_facts t (Some b)) k (λ f.
        let g = branch_done b.enlisted (is_finished_there (half w).seen b.enlistment.value) (is_in b.manager.value (core w).recovered) (is_connected b.enlistment w.past) b.manager b.enlistment (unless_stopped w) f in
        let got : has (is_enlisted_got b.enlistment.value) w.past ≡ true =
        got_now b.enlisted (has (is_enlisted_got b.enlistment.value) w.past) g.0
        (found_branch (is_branch e.value) (λ b. not b.enlisted || has (is_enlisted_got b.enlistment.value) w.past) (branches w.past) b (branches_got w.past) q) in
        reenlist_block t (Called n a (branch_answer w b) ∷ w.past) b (call_alone n a (branch_answer w b) w.past k) got (unlinked_row b.enlistment w.past k.keeps g.1)
        (left_alone b.enlistment w.past k.keeps got (or_second (has (is_done_branch b.enlistment.value) (branches w.past) || has (is_out_row b.enlistment.value) (rows w.past)) (is_handed (latest handed_of w.past) b.enlistment.value)
        (branch_unfinished b.enlisted (is_finished_there (half w).seen b.enlistment.value) (is_in b.manager.value (core w).recovered) (is_connected b.enlistment w.past) b.manager b.enlistment (unless_stopped w) f)) g.1))
      where
        got_now : (d g : Bool) → d ≡ true → (not d || g) ≡ true → g ≡ true
        got_now true g e k = k
        got_now false g e k = absurd cc

-- The entries of each call that may come keep it.
pub call_stands : (t : ℕ) (w : World) (n : ℕ) (a : ActorNo) (c : Call) (m : ℕ) → Stands w.past → makes_new w.past c ≡ true → Stands (onto w.past (called t w n a c (answer_at t w c m)))
unfolding answer_at local_answer observe track may_own
call_stands t w n a (Begin u d) m k new = stand (Began (limit_of d)) (Called n a Fine ∷ w.past) refl tt (call_alone n a Fine w.past k) refl (λ g. g)
call_stands t w n a (Volatile u e x v) m k new =
    volatile_call t w n a m 0 e x (answer_at t w (Volatile u e x v) m) k new
    (λ b. let fine = done_behind (latest began_of w.past) (latest decision_of w.past) (volatile_answer (half w)) b in (undecided w.past fine.0, volatile_done (has is_sealed w.past) (is_full (half w)) fine.1))
call_stands t w n a (Durable u e r x) m k new = durable_call t w n a m u e r x k new
call_stands t w n a (Promotable u e r v x p) m k new =
    promotable_call t w n a e (answer_at t w (Promotable u e r v x p) m) k new
    (λ b. let fine = done_behind (latest began_of w.past) (latest decision_of w.past) (promotable_answer (half w)) b in
    let g = promotable_done (has is_sealed w.past) (has is_lasting (rows w.past)) (has_promotion (observe w.past)) (is_full (half w)) fine.1 in (undecided w.past fine.0, g.0, g.1, g.2))
call_stands t w n a (Clone u c d) m k new =
    done_by (answer_at t w (Clone u c d) m) n a w.past (Cloned c d ∷ []) k (λ b.
    let fine = done_behind (latest began_of w.past) (latest decision_of w.past) (clone_answer (has is_commit w.past) (length (clone_rows w.past))) b in
    cloned_stands (Called n a (answer_at t w (Clone u c d) m) ∷ w.past) c d (call_alone n a (answer_at t w (Clone u c d) m) w.past k) (undecided w.past fine.0) (clone_done (has is_commit w.past) (length (clone_rows w.past)) fine.1) (not_true (has (is_cloned c.value) w.past) new))
call_stands t w n a (Complete c) m k new =
    done_by (answer_at t w (Complete c) m) n a w.past (Completed c ∷ []) k (λ b.
    let fine = done_behind (latest began_of w.past) (latest decision_of w.past) (complete_answer (has (is_clone c.value) (clone_rows w.past)) (has (is_complete_clone c.value) (clone_rows w.past))) b in
    completed_stands (Called n a (answer_at t w (Complete c) m) ∷ w.past) c (call_alone n a (answer_at t w (Complete c) m) w.past k) (undecided w.past fine.0)
    (sym (clone_stands c.value w.past) ∙ complete_done (has (is_clone c.value) (clone_rows w.past)) (has (is_complete_clone c.value) (clone_rows w.past)) fine.1))
call_stands t w n a (Commit u) m k new =
    done_by (answer_at t w (Commit u) m) n a w.past (CommitAsked ∷ veto_if (has is_open_rollback (clone_rows w.past)) (sees (half w) CommitAsked)) k (λ b.
    let fine = done_behind (latest began_of w.past) (latest decision_of w.past) (unless_late (has is_commit w.past)) b in
    commit_stands (Called n a (answer_at t w (Commit u) m) ∷ w.past) (waiting w.calls w.past) (managed w.calls w.past) (has is_open_rollback (clone_rows w.past)) (call_alone n a (answer_at t w (Commit u) m) w.past k) (undecided w.past fine.0)
    (late_done (has is_commit w.past) fine.1) (sym (commit_vetoed w.past k.keeps)))
call_stands t w n a (Rollback u) m k new =
    done_by (answer_at t w (Rollback u) m) n a w.past (RollbackAsked ∷ veto (sees (half w) RollbackAsked)) k (λ b.
    let fine = done_behind (latest began_of w.past) (latest decision_of w.past) (unless_late (has is_sealed w.past)) b in
    rollback_stands (Called n a (answer_at t w (Rollback u) m) ∷ w.past) (waiting w.calls w.past) (managed w.calls w.past) (call_alone n a (answer_at t w (Rollback u) m) w.past k) (undecided w.past fine.0) (late_done (has is_sealed w.past) fine.1))
call_stands t w n a (Marshal u) m k new =
    marshal_call t w n a (answer_at t w (Marshal u) m) k
    (λ b. let fine = done_behind (latest began_of w.past) (latest decision_of w.past) (marshal_answer t (half w)) b in
    let g = marshal_done t (has is_promoted w.past) (has is_sealed w.past) (is_crowded (half w)) fine.1 in (undecided w.past fine.0, g.0, g.1))
call_stands t w n a (Tick u i) m k new =
    done_by (answer_at t w (Tick u i) m) n a w.past (tick_facts (half w) (ticked (clock w.past) i)) k (λ b.
    time_stands (Called n a (answer_at t w (Tick u i) m) ∷ w.past) (waiting w.calls w.past) (managed w.calls w.past) (ticked (clock w.past) i) (reaches (latest began_of w.past) (clock w.past) (ticked (clock w.past) i))
    (is_late (observe w.past)) (call_alone n a (answer_at t w (Tick u i) m) w.past k) refl)
call_stands t w n a (Gone e) m k new =
    gone_call t w n a e (answer_at t w (Gone e) m) k (λ b. gone_done (latest began_of w.past) (has (is_of e.value) (rows w.past)) (is_gone (observe w.past) e.value) b)
call_stands t w n a (Reenlist e) m k new = reenlist_call t w n a e (latest began_of w.past) k
call_stands t w n a (Recovered u r) m k new =
    done_by (answer_at t w (Recovered u r) m) n a w.past (RecoveredEntry r ∷ []) k (λ b. stand (RecoveredEntry r) (Called n a (answer_at t w (Recovered u r) m) ∷ w.past) refl tt (call_alone n a (answer_at t w (Recovered u r) m) w.past k) refl (λ g. g))
call_stands t w n a (Lose u c i j) m k new =
    done_by (answer_at t w (Lose u c i j) m) n a w.past (cut w.past c i j ∷ []) k (λ b. stand (cut w.past c i j) (Called n a (answer_at t w (Lose u c i j) m) ∷ w.past) refl tt (call_alone n a (answer_at t w (Lose u c i j) m) w.past k) refl (λ g. g))
call_stands t w n a (Status u) m k new = done_by (answer_at t w (Status u) m) n a w.past [] k (λ b. call_alone n a (answer_at t w (Status u) m) w.past k)
call_stands t w n a (Await u) m k new = done_by (answer_at t w (Await u) m) n a w.past [] k (λ b. call_alone n a (answer_at t w (Await u) m) w.past k)
call_stands t w n a (Do u i j) m k new = done_by (answer_at t w (Do u i j) m) n a w.past [] k (λ b. call_alone n a (answer_at t w (Do u i j) m) w.past k)
