-- Where the local side decided an abort, or the coordinator aborted, no evidence stands, then or later.
use Rattle.std.proofs.Common.{ℕ, ◌==◌, Bool, false, ◌&&◌, List, ◌≡◌, true, ◌⊎◌, inl, inr, ◌∷◌, subst, refl, ◌||◌, [], ◌∙◌, Some, ap, sym}
use Rattle.std.specs.Prelude.{not, if◌then◌else◌}
use Rattle.std.proofs.lemmas.Bool.{eqb-true, false_from_ne_true, or_left}
use Rattle.dtx_values.specs.declared.entry.Entry.{Entry}
use Rattle.dtx_values.specs.declared.entry.Entry.TheVariants.{Handed, Lost, Voted, OwnerAnswered, CommitAsked, Down as End, Got, LogFull, PromoteReply, Requested, Restarted, RollbackAsked, TimedOut, LocalYes, PromotionFailed, Decided}
use Rattle.dtx_values.specs.declared.number.EnlNo.{EnlNo}
use Rattle.dtx_values.specs.declared.words.Class.{Class}
use Rattle.dtx_values.specs.declared.words.Outcome.{Outcome}
use Rattle.dtx_values.specs.declared.words.Outcome.TheVariants.{Committed, Aborted, InDoubt}
use Rattle.dtx_values.specs.declared.words.Vote.TheVariants.{Yes, No, Done}
use Rattle.dtx_values.specs.declared.message.Conn.TheVariants.{Again, Begin, Enl, Voter}
use Rattle.dtx_values.specs.declared.message.Dir.TheVariants.{Down}
use Rattle.dtx_values.specs.declared.message.Message.{Message}
use Rattle.dtx_values.specs.declared.message.Message.TheVariants.{BeginCommitted, VoterCommit}
use Rattle.dtx_model.specs.Words.{has, ever, each, latest}
use Rattle.dtx_model.specs.Entries.{is_lost, is_vote, is_yes, is_good_vote, is_record, is_asked, is_decision, is_promoted, is_sealed, is_any_hand, is_any_single_sent, is_hand, is_owner, is_commit, is_two_phase_got, decision_of}
use Rattle.dtx_model.specs.Outcome.{evidence, can_own, may_decide, owner_committed, by_log, by_owner, by_seal, durables, is_empty, is_veto, ready, voters, is_first_veto}
use Rattle.dtx_model.specs.Learned.{coordinator_aborted}
use Rattle.dtx_model.specs.Promotes.{ends_told, is_enlisted_got, is_promoting, is_refusal}
use Rattle.dtx_model.specs.Wires.{is_ended}
use Rattle.dtx_model.proofs.Bools.{not_both, not_true, or_false, or_right, and_both, and_left, and_right, or_case, or_second}
use Rattle.dtx_model.specs.Tied.{can_log}
use Rattle.history_table.proofs.Table.{is_abort_decided, is_aborted_for_good, is_enlist_got, is_left_alone, is_one_aborted, is_one_committed, is_single_got, may_hand, rule, stands_volatile, is_lost_there, ends_called_off, but_failed, decision_row, ends_with, is_commit_come}
use Rattle.history_table.proofs.Scans.{has_more, each_more}
use Rattle.history_table.proofs.Keeping.{Keeps, keeps_before, newest}
use Rattle.history_table.proofs.Recording.{came_voted, live_if_record, yes_if_record, promoted_if_sealed, promoted_if_yes, promoting_if_promoted, aborted_promoting, commit_if_sealed, came_good, can_live, can_two_phase, yes_at, evidence_if_record}
use Rattle.history_table.proofs.Evident.{good_voted, evidence-handed, evident_record, unsealed_open, sealed_if_evident, not_after, evidence_same}
use Rattle.history_table.proofs.Tests.{eq_self, first_of_five, first_of_three, fourth_of_five, second_of_three}
use Rattle.history_table.proofs.EntryTests.{is_decided, is_enlisted, is_only, all_complete}
use Rattle.history_table.proofs.Sendings.{aborted_more, for_good_more, refusal_for_good, told_for_good, verdict_by_got}
use Rattle.history_table.proofs.Handed.{hand_any, hand_name, is_answered}
use Rattle.history_table.proofs.LetDecide.{aborted_if_one, answered_handed, answered_once, any_single_if_handed, committed_if_one, one_apart, one_if_single, single_if_handed, single_unrecorded, yes_if_single}
use Rattle.history_table.proofs.CameBack.{alone_by_got, alone_more, came_if_enlisted}
use Rattle.history_table.proofs.SinglePhase.{single_only}
use Rattle.history_table.specs.Appended.{is_abort_decision}

-- the entry loses this enlistment, whose ENLIST the coordinator got before
abbrev pub loses_there : ℕ → List Entry → Entry → Bool
loses_there e past (Lost f) = (e == f.value) && has (is_enlist_got e) past
loses_there e past _ = false

-- an enlistment came to the coordinator, and then was lost without a vote, and before it was handed the commit
pub record IsGone (h : List Entry) : Type 0 where
  pub name : EnlNo
  pub after : ever (loses_there name.value) h ≡ true
  pub came : has (is_enlist_got name.value) h ≡ true
  pub lost : has (is_lost name.value) h ≡ true
  pub silent : has (is_vote name.value) h ≡ false
  pub unhanded : has (is_hand name.value) h ≡ false

-- the coordinator aborted, and an enlistment that came is left alone, and never handed the commit
pub record IsShut (h : List Entry) : Type 0 where
  pub name : EnlNo
  pub alone : is_left_alone (Again name) h ≡ true
  pub aborted : coordinator_aborted h ≡ true

-- the coordinator's abort stands: it aborted and nobody was let decide, or the owner said aborted, or who came back is left alone
abbrev pub IsCalledOff : List Entry → Type 0
IsCalledOff h = (is_aborted_for_good h ≡ true) ⊎ ((has (is_answered Aborted) h ≡ true) ⊎ IsShut h)

-- no record comes, and no owner answers committed: the coordinator's abort stands, or the local side said no yes, or one that came there never votes
abbrev pub IsBarred : List Entry → Type 0
IsBarred h = IsCalledOff h ⊎ ((has is_yes h ≡ false) ⊎ IsGone h)

-- an answer of an owner leaves no record of a promotion
answered_unrecorded : (o : Outcome) (h : List Entry) → Keeps h → has (is_answered o) h ≡ true → has is_record h ≡ true → ⊥
answered_unrecorded o h k a s =
    let name = hand_name h (answered_handed o h k a) in
    not_both (has is_record h) s (single_unrecorded h k (any_single_if_handed name.0 h k (promoting_if_promoted h k (promoted_if_yes h k (yes_if_record h k s))) name.1))

off_unrecorded : (h : List Entry) → Keeps h → IsCalledOff h → has is_record h ≡ true → ⊥
off_unrecorded h k (inl a) s = not_both (coordinator_aborted h) (and_left (coordinator_aborted h) _ a) (live_if_record h k s)
off_unrecorded h k (inr (inl b)) s = answered_unrecorded Aborted h k b s
off_unrecorded h k (inr (inr w)) s = not_both (coordinator_aborted h) w.aborted (live_if_record h k s)

pub barred_apart : (h : List Entry) → Keeps h → IsBarred h → has is_record h ≡ true → ⊥
barred_apart h k (inl w) s = off_unrecorded h k w s
barred_apart h k (inr (inl n)) s = not_both (has is_yes h) (yes_if_record h k s) n
barred_apart h k (inr (inr g)) s =
    not_both (has (is_vote g.name.value) h) (has_more (is_good_vote g.name.value) (is_vote g.name.value) (good_voted g.name.value) h (came_voted g.name h k s g.came)) g.silent

-- whoever is handed the commit of a promotion is the one that came
hand_only : (n e : ℕ) (h : List Entry) → Keeps h → has is_promoting h ≡ true → has (is_enlist_got n) h ≡ true → has (is_hand e) h ≡ true → has (is_hand n) h ≡ true
hand_only n e h k p c t = subst (λ m. has (is_hand m) h ≡ true) (sym (eqb-true n e (single_only n e h k (single_if_handed e h k p t) c))) t

off_unanswered : (h : List Entry) → Keeps h → has is_promoting h ≡ true → IsCalledOff h → has (is_answered Committed) h ≡ true → ⊥
off_unanswered h k p (inl a) s =
    let name = hand_name h (answered_handed Committed h k s) in
    or_case (not (has is_any_single_sent h)) (has is_one_aborted h)
    (λ n. not_both (has is_any_single_sent h) (any_single_if_handed name.0 h k p name.1) (not_true (has is_any_single_sent h) n))
    (λ o. not_both (has (is_answered Committed) h) s (answered_once h k (aborted_if_one h k o)))
    (and_right (coordinator_aborted h) (not (has is_any_single_sent h) || has is_one_aborted h) a)
off_unanswered h k p (inr (inl b)) s = not_both (has (is_answered Committed) h) s (answered_once h k b)
off_unanswered h k p (inr (inr w)) s =
    let name = hand_name h (answered_handed Committed h k s) in
    let enlisted = first_of_three (has (is_enlisted_got w.name.value) h) (not (has (is_hand w.name.value) h)) (is_ended (Enl w.name) Down h) w.alone in
    not_both (has (is_hand w.name.value) h) (hand_only w.name.value name.0 h k p (came_if_enlisted w.name h k enlisted) name.1)
    (not_true (has (is_hand w.name.value) h) (second_of_three (has (is_enlisted_got w.name.value) h) (not (has (is_hand w.name.value) h)) (is_ended (Enl w.name) Down h) w.alone))

pub barred_unanswered : (h : List Entry) → Keeps h → has is_promoting h ≡ true → IsBarred h → has (is_answered Committed) h ≡ true → ⊥
barred_unanswered h k p (inl w) s = off_unanswered h k p w s
barred_unanswered h k p (inr (inl n)) s =
    let name = hand_name h (answered_handed Committed h k s) in not_both (has is_yes h) (yes_if_single h k (any_single_if_handed name.0 h k p name.1)) n
barred_unanswered h k p (inr (inr g)) s =
    let name = hand_name h (answered_handed Committed h k s) in not_both (has (is_hand g.name.value) h) (hand_only g.name.value name.0 h k p g.came name.1) g.unhanded

silent_more : (x : Entry) (h : List Entry) → rule h x ≡ true → (e : ℕ) → has (is_lost e) h ≡ true → has (is_vote e) h ≡ false → has (is_vote e) (x ∷ h) ≡ false
silent_more (Voted f v) h r e l s =
    or_false (e == f.value) (has (is_vote e) h) (false_from_ne_true (e == f.value) (λ t.
    let same : e ≡ f.value = eqb-true e f.value t in
    let present : has (is_lost f.value) h ≡ true = subst (λ n. has (is_lost n) h ≡ true) same l in
    not_both (has (is_lost f.value) h) present
    (not_true (has (is_lost f.value) h) (fourth_of_five (has (is_enlisted f.value) h) (has (is_asked f.value) h) (not (has (is_vote f.value) h)) (not (has (is_lost f.value) h)) (not (stands_volatile f.value h && has is_decision h)) r)))) s
silent_more _ h r e l s = s

-- the coordinator's abort goes on standing
pub called_off_more : (x : Entry) (h : List Entry) → Keeps (x ∷ h) → IsCalledOff h → IsCalledOff (x ∷ h)
called_off_more x h k (inl a) = inl (for_good_more x h (newest x h k) a)
called_off_more x h k (inr (inl b)) = inr (inl (or_right (is_answered Aborted x) (has (is_answered Aborted) h) b))
called_off_more x h k (inr (inr w)) = inr (inr (record { name = w.name; alone = alone_more w.name x h k w.alone; aborted = aborted_more x h w.aborted }))

-- and so does the rest, where the local side says no yes, and the commit isn't handed over
barred_more : (x : Entry) (h : List Entry) → Keeps (x ∷ h) → is_yes x ≡ false → is_any_hand x ≡ false → IsBarred h → IsBarred (x ∷ h)
barred_more x h k n u (inl w) = inl (called_off_more x h k w)
barred_more x h k n u (inr (inl y)) = inr (inl (or_false (is_yes x) (has is_yes h) n y))
barred_more x h k n u (inr (inr g)) =
    inr (inr (record {
      name = g.name;
      after = or_right (loses_there g.name.value h x) (ever (loses_there g.name.value) h) g.after;
      came = or_right (is_enlist_got g.name.value x) (has (is_enlist_got g.name.value) h) g.came;
      lost = or_right (is_lost g.name.value x) (has (is_lost g.name.value) h) g.lost;
      silent = silent_more x h (newest x h k) g.name.value g.lost g.silent;
      unhanded = or_false (is_hand g.name.value x) (has (is_hand g.name.value) h) (false_from_ne_true (is_hand g.name.value x) (λ t. not_both (is_any_hand x) (hand_any g.name.value x t) u)) g.unhanded;
    }))

-- no evidence stands, nor will: where it isn't promoted none does, and no record and no answer of an owner comes that would be one
pub record IsOff (h : List Entry) : Type 0 where
  pub bare : has is_promoted h ≡ false → evidence h ≡ false
  pub barred : IsBarred h

promoted_open : (h : List Entry) → Keeps h → has is_promoted h ≡ true → IsBarred h → evidence h ≡ true → ⊥
promoted_open h k p w e = by (has is_any_hand h) refl
  where
    by : (b : Bool) → has is_any_hand h ≡ b → ⊥
    by true t = barred_unanswered h k (promoting_if_promoted h k p) w (sym (evidence-handed h k t) ∙ e)
    by false t = barred_apart h k w (evident_record h p t e)

pub off_open : (h : List Entry) → Keeps h → IsOff h → evidence h ≡ false
off_open h k w = step (has is_promoted h) refl
  where
    step : (b : Bool) → has is_promoted h ≡ b → evidence h ≡ false
    step true p = false_from_ne_true (evidence h) (λ e. promoted_open h k p w.barred e)
    step false p = w.bare p

-- where the coordinator's abort stands
pub called_off : (h : List Entry) → Keeps h → has is_promoting h ≡ true → IsCalledOff h → IsOff h
called_off h k p w =
    record { bare = λ n. unsealed_open h k (false_from_ne_true (has is_sealed h) (λ s. not_both (has is_promoted h) (promoted_if_sealed h k s p) n)); barred = inl w }

-- where it aborted for good, and where who came back hears that it aborted
pub for_good_off : (h : List Entry) → Keeps h → is_aborted_for_good h ≡ true → IsOff h
for_good_off h k a = called_off h k (aborted_promoting h k (and_left (coordinator_aborted h) _ a)) (inl a)

pub again_off : (e : EnlNo) (m : Message) (h : List Entry) → Keeps (Got (Again e) Down m ∷ h) → coordinator_aborted (Got (Again e) Down m ∷ h) ≡ true → IsOff (Got (Again e) Down m ∷ h)
again_off e m h k a =
    called_off (Got (Again e) Down m ∷ h) k (aborted_promoting (Got (Again e) Down m ∷ h) k a)
    (inr (inr (record { name = e; alone = alone_more e (Got (Again e) Down m) h k (alone_by_got e m h k); aborted = a })))

-- A veto brings no evidence.
drop_no : (t b : Bool) → ((t && false) || b) ≡ true → b ≡ true
drop_no true b k = k
drop_no false b k = k

owner_back : (e : EnlNo) (h : List Entry) (ds : List (EnlNo × Class)) → owner_committed (OwnerAnswered e Aborted ∷ h) ds ≡ true → owner_committed h ds ≡ true
owner_back e h [] t = t
owner_back e h (x ∷ xs) t =
    and_both (each (λ y. x.0.value == y.0.value) xs && has (λ y. can_own y.1) (x ∷ xs) && may_decide h x.0.value && has (is_hand x.0.value) h) (has (is_owner x.0.value Committed) h)
    (and_left (each (λ y. x.0.value == y.0.value) xs && has (λ y. can_own y.1) (x ∷ xs) && may_decide h x.0.value && has (is_hand x.0.value) h) (((x.0.value == e.value) && false) || has (is_owner x.0.value Committed) h) t)
    (drop_no (x.0.value == e.value) (has (is_owner x.0.value Committed) h)
    (and_right (each (λ y. x.0.value == y.0.value) xs && has (λ y. can_own y.1) (x ∷ xs) && may_decide h x.0.value && has (is_hand x.0.value) h) (((x.0.value == e.value) && false) || has (is_owner x.0.value Committed) h) t))

owner_swap : (a s o q l : Bool) → (o ≡ true → q ≡ true) → (a && (s || o || l)) ≡ true → (a && (s || q || l)) ≡ true
owner_swap a s true q l f t = let same : q ≡ true = f refl in rw same t
owner_swap false s false q l f t = absurd cc
owner_swap true true false q l f t = refl
owner_swap true false false q true f t = or_right q true refl
owner_swap true false false q false f t = absurd cc

veto_back : (x : Entry) (h : List Entry) → Keeps (x ∷ h) → is_veto h x ≡ true → evidence (x ∷ h) ≡ true → evidence h ≡ true
unfolding evidence ready by_seal by_owner by_log
veto_back (Voted e No) h k v t =
    let part = and_left (has is_commit h && all_complete h && each (λ x. has (is_good_vote x.0.value) (Voted e No ∷ h)) (voters h)) (by_seal h || by_owner h || by_log h) t in
    and_both (ready h) (by_seal h || by_owner h || by_log h)
    (and_both (has is_commit h && all_complete h) (each (λ x. has (is_good_vote x.0.value) h) (voters h))
    (and_left (has is_commit h && all_complete h) (each (λ x. has (is_good_vote x.0.value) (Voted e No ∷ h)) (voters h)) part)
    (each_more (λ x. has (is_good_vote x.0.value) (Voted e No ∷ h)) (λ x. has (is_good_vote x.0.value) h) (λ x. drop_no (x.0.value == e.value) (has (is_good_vote x.0.value) h)) (voters h)
    (and_right (has is_commit h && all_complete h) (each (λ x. has (is_good_vote x.0.value) (Voted e No ∷ h)) (voters h)) part)))
    (and_right (has is_commit h && all_complete h && each (λ x. has (is_good_vote x.0.value) (Voted e No ∷ h)) (voters h)) (by_seal h || by_owner h || by_log h) t)
veto_back (Voted e Yes) h k v t = absurd cc
veto_back (Voted e Done) h k v t = absurd cc
veto_back (OwnerAnswered e Aborted) h k v t =
    owner_swap (ready h) (has is_sealed h && not (has is_promoted h) && is_empty (durables h)) (owner_committed (OwnerAnswered e Aborted ∷ h) (durables h)) (owner_committed h (durables h)) (has is_promoted h && has is_record h)
    (owner_back e h (durables h)) t
veto_back (OwnerAnswered e Committed) h k v t = absurd cc
veto_back (OwnerAnswered e InDoubt) h k v t = absurd cc
veto_back (Restarted true) h k v t = absurd cc
veto_back (Restarted false) h k v t = t
veto_back CommitAsked h k v t =
    let past = keeps_before CommitAsked h k in
    let sealed : has is_sealed h ≡ true = sealed_if_evident (CommitAsked ∷ h) k t in
    absurd (not_both (has is_commit h) (commit_if_sealed h past sealed) (not_true (has is_commit h) (and_right (not (has is_decision h)) (not (has is_commit h)) (newest CommitAsked h k))))
veto_back RollbackAsked h k v t = t
veto_back TimedOut h k v t = t
veto_back (PromoteReply e ok) h k v t = t
veto_back (Requested e r) h k v t = t
veto_back LogFull h k v t = t
veto_back (Lost e) h k v t = t
veto_back (End c d) h k v t = t
veto_back (Got c d m) h k v t = t
veto_back _ h k v t = absurd cc

no_yes : (x : Entry) (h : List Entry) → is_veto h x ≡ true → is_yes x ≡ false
no_yes LocalYes h v = absurd cc
no_yes _ h v = refl

lost_gone : (x : Entry) (h : List Entry) → is_veto h x ≡ true → is_lost_there h x ≡ true → IsGone (x ∷ h)
lost_gone (Lost e) h v t = record {
  name = e;
  after = or_left ((e.value == e.value) && has (is_enlist_got e.value) h) (ever (loses_there e.value) h) (and_both (e.value == e.value) (has (is_enlist_got e.value) h) (eq_self e.value) t);
  came = t;
  lost = rw (eq_self e.value) refl;
  silent = not_true (has (is_vote e.value) h) (and_left (not (has (is_vote e.value) h)) (not (has (is_hand e.value) h)) v);
  unhanded = not_true (has (is_hand e.value) h) (and_right (not (has (is_vote e.value) h)) (not (has (is_hand e.value) h)) v);
}
lost_gone _ h v t = absurd cc

-- after a veto of the local side
veto_off : (x : Entry) (h : List Entry) → Keeps (x ∷ h) → is_first_veto h x ≡ true → (not (has is_yes h) || is_lost_there h x) ≡ true → IsOff (x ∷ h)
veto_off x h k f t =
    let veto = and_left (is_veto h x) (not (evidence h)) f in
    let none = not_true (evidence h) (and_right (is_veto h x) (not (evidence h)) f) in
    record {
      bare = λ p. false_from_ne_true (evidence (x ∷ h)) (λ e. not_both (evidence h) (veto_back x h k veto e) none);
      barred = or_case (not (has is_yes h)) (is_lost_there h x) (λ n. inr (inl (or_false (is_yes x) (has is_yes h) (no_yes x h veto) (not_true (has is_yes h) n)))) (λ l. inr (inr (lost_gone x h veto l))) t;
    }

-- where the history ends with what the local side aborts after
head_off : (h : List Entry) → Keeps h → ends_called_off h ≡ true → IsOff h
head_off [] k t = absurd cc
head_off (x ∷ h) k t =
    or_case (is_first_veto h x && (not (has is_yes h) || is_lost_there h x)) (is_refusal x || ends_told h x)
    (λ v. veto_off x h k (and_left (is_first_veto h x) (not (has is_yes h) || is_lost_there h x) v) (and_right (is_first_veto h x) (not (has is_yes h) || is_lost_there h x) v))
    (λ a. for_good_off (x ∷ h) k (for_good_more x h (newest x h k) (or_case (is_refusal x) (ends_told h x) (refusal_for_good x h k) (told_for_good x h (keeps_before x h k)) a))) t

failed_off : (h : List Entry) → Keeps (PromotionFailed ∷ h) → IsOff h → IsOff (PromotionFailed ∷ h)
unfolding evidence ready by_seal by_owner by_log
failed_off h k w = record { bare = w.bare; barred = barred_more PromotionFailed h k refl refl w.barred }

pub row_off : (h : List Entry) → Keeps h → ends_called_off (but_failed h) ≡ true → IsOff h
row_off (PromotionFailed ∷ h) k t = failed_off h k (head_off h (keeps_before PromotionFailed h k) t)
row_off h k t = head_off h k t

-- what was decided stands there
pub decision_stands : (h : List Entry) (o : Outcome) → latest decision_of h ≡ Some o → has is_decision h ≡ true
decision_stands [] o d = absurd cc
decision_stands (Decided x ∷ h) o d = refl
decision_stands (x ∷ h) o d = or_right (is_decision x) (has is_decision h) (decision_stands h o d)

-- it stays so after a decision
yes_not : (x : Entry) (h : List Entry) → rule h x ≡ true → has is_decision h ≡ true → is_yes x ≡ false
yes_not LocalYes h r d = not_after LocalYes h refl r d
yes_not _ h r d = refl

-- and the commit isn't handed over after an abort
hand_not : (x : Entry) (h : List Entry) → rule h x ≡ true → has is_decision h ≡ true → is_abort_decided h ≡ true → is_any_hand x ≡ false
hand_not (Handed e) h r d a = absurd (by (has is_promoting h) (first_of_five (may_hand h e.value) (has is_sealed h) (ready h) (is_only e.value (durables h)) (not (has is_any_hand h)) r))
  where
    by : (b : Bool) → (if b then ends_with (is_single_got e.value) h && not (is_abort_decided h) else not (has is_decision h)) ≡ true → ⊥
    by true t = not_both (is_abort_decided h) a (not_true (is_abort_decided h) (and_right (ends_with (is_single_got e.value) h) (not (is_abort_decided h)) t))
    by false t = not_both (has is_decision h) d (not_true (has is_decision h) t)
hand_not _ h r d a = refl

off_more : (x : Entry) (h : List Entry) → Keeps (x ∷ h) → latest decision_of h ≡ Some Aborted → IsOff h → IsOff (x ∷ h)
off_more x h k a w =
    let d = decision_stands h Aborted a in
    record {
      bare = λ p. let unpromoted = or_second (is_promoted x) (has is_promoted h) p in evidence_same x h k d unpromoted ∙ w.bare unpromoted;
      barred = barred_more x h k (yes_not x h (newest x h k) d) (hand_not x h (newest x h k) d (ap (is_decided Aborted) a)) w.barred;
    }

decided_off_now : (h : List Entry) → Keeps (Decided Aborted ∷ h) → IsOff h → IsOff (Decided Aborted ∷ h)
unfolding evidence ready by_seal by_owner by_log
decided_off_now h k w = record { bare = w.bare; barred = barred_more (Decided Aborted) h k refl refl w.barred }

-- where the local side decided an abort
pub decided_off : (h : List Entry) → Keeps h → latest decision_of h ≡ Some Aborted → IsOff h
decided_off [] k d = absurd cc
decided_off (Decided Aborted ∷ h) k d =
    let past = keeps_before (Decided Aborted) h k in
    decided_off_now h k (row_off h past (and_right (not (has is_decision h)) (ends_called_off (but_failed h)) (newest (Decided Aborted) h k)))
decided_off (Decided Committed ∷ h) k d = absurd cc
decided_off (Decided InDoubt ∷ h) k d = absurd cc
decided_off (x ∷ h) k d = off_more x h k d (decided_off h (keeps_before x h k) d)

-- Where no record comes, none may be appended.
pub barred_unable : (h : List Entry) → Keeps h → IsBarred h → can_log h ≡ true → ⊥
barred_unable h k (inl (inl a)) c = not_both (coordinator_aborted h) (and_left (coordinator_aborted h) _ a) (can_live h c)
barred_unable h k (inl (inr (inl b))) c =
    let name = hand_name h (answered_handed Aborted h k b) in
    let promoting = promoting_if_promoted h k (promoted_if_yes h k (yes_at h k c)) in
    not_both (has is_two_phase_got h) (can_two_phase h c) (one_apart h k (one_if_single h k (any_single_if_handed name.0 h k promoting name.1)))
barred_unable h k (inl (inr (inr w))) c = not_both (coordinator_aborted h) w.aborted (can_live h c)
barred_unable h k (inr (inl n)) c = not_both (has is_yes h) (yes_at h k c) n
barred_unable h k (inr (inr g)) c =
    not_both (has (is_vote g.name.value) h) (has_more (is_good_vote g.name.value) (is_vote g.name.value) (good_voted g.name.value) h (came_good g.name h k c g.came)) g.silent

-- it is decided once
pub abort_latest : (h : List Entry) → Keeps h → has is_abort_decision h ≡ true → latest decision_of h ≡ Some Aborted
abort_latest [] k d = absurd cc
abort_latest (Decided Aborted ∷ h) k d = refl
abort_latest (Decided o ∷ h) k d =
    absurd (not_both (has is_decision h) (has_more is_abort_decision is_decision decided h d)
    (not_true (has is_decision h) (and_left (not (has is_decision h)) (decision_row h o) (newest (Decided o) h k))))
  where
    decided : (x : Entry) → is_abort_decision x ≡ true → is_decision x ≡ true
    decided (Decided o) k = refl
    decided x k = absurd cc
abort_latest (x ∷ h) k d = abort_latest h (keeps_before x h k) d

-- Committed is decided on evidence, which stays.
answered_evident : (h : List Entry) → Keeps h → has (is_answered Committed) h ≡ true → evidence h ≡ true
answered_evident h k t = evidence-handed h k (answered_handed Committed h k t) ∙ t

verdict_evident : (h : List Entry) → Keeps h → (has is_record h || has is_one_committed h) ≡ true → evidence h ≡ true
verdict_evident h k t = or_case (has is_record h) (has is_one_committed h) (evidence_if_record h k) (λ o. answered_evident h k (committed_if_one h k o)) t

come_verdict : (h : List Entry) → Keeps h → ends_with is_commit_come h ≡ true → (has is_record h || has is_one_committed h) ≡ true
come_verdict (Got Begin Down BeginCommitted ∷ h) k t = verdict_by_got Begin BeginCommitted h k refl
come_verdict (Got Voter Down VoterCommit ∷ h) k t = verdict_by_got Voter VoterCommit h k refl
come_verdict _ k t = absurd cc

pub commit_evident : (h : List Entry) → Keeps h → decision_row h Committed ≡ true → evidence h ≡ true
commit_evident h k r =
    or_case (ends_with is_commit_come h) (not (has is_promoted h) && evidence h) (λ t. verdict_evident h k (come_verdict h k t)) (λ t. and_right (not (has is_promoted h)) (evidence h) t) r

-- so no owner answers committed where no evidence stands, and none where an abort is decided
pub off_uncommitted : (h : List Entry) → Keeps h → IsOff h → has (is_answered Committed) h ≡ false
off_uncommitted h k w = false_from_ne_true (has (is_answered Committed) h) (λ t. not_both (evidence h) (answered_evident h k t) (off_open h k w))

pub abort_uncommitted : (h : List Entry) → Keeps h → has is_abort_decision h ≡ true → has (is_answered Committed) h ≡ false
abort_uncommitted h k d = off_uncommitted h k (decided_off h k (abort_latest h k d))

-- what is promoted goes on having evidence, and so does what isn't, after a decision
pub promoted_evident : (x : Entry) (h : List Entry) → Keeps (x ∷ h) → has is_promoted h ≡ true → evidence h ≡ true → evidence (x ∷ h) ≡ true
promoted_evident x h k p e = by (has is_any_hand h) refl
  where
    past : Keeps h
    past = keeps_before x h k

    by : (b : Bool) → has is_any_hand h ≡ b → evidence (x ∷ h) ≡ true
    by true t = answered_evident (x ∷ h) k (or_right (is_answered Committed x) (has (is_answered Committed) h) (sym (evidence-handed h past t) ∙ e))
    by false t = evidence_if_record (x ∷ h) k (or_right (is_record x) (has is_record h) (evident_record h p t e))

evident_more : (x : Entry) (h : List Entry) → Keeps (x ∷ h) → has is_decision h ≡ true → evidence h ≡ true → evidence (x ∷ h) ≡ true
evident_more x h k d e = step (has is_promoted h) refl
  where
    step : (b : Bool) → has is_promoted h ≡ b → evidence (x ∷ h) ≡ true
    step true p = promoted_evident x h k p e
    step false p = evidence_same x h k d p ∙ e

pub decided_evident : (h : List Entry) → Keeps h → latest decision_of h ≡ Some Committed → evidence h ≡ true
unfolding evidence ready by_seal by_owner by_log
decided_evident [] k d = absurd cc
decided_evident (Decided Committed ∷ h) k d =
    commit_evident h (keeps_before (Decided Committed) h k) (and_right (not (has is_decision h)) (decision_row h Committed) (newest (Decided Committed) h k))
decided_evident (Decided Aborted ∷ h) k d = absurd cc
decided_evident (Decided InDoubt ∷ h) k d = absurd cc
decided_evident (x ∷ h) k d = evident_more x h k (decision_stands h Committed d) (decided_evident h (keeps_before x h k) d)
