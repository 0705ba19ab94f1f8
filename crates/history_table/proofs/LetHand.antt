-- Where SINGLE comes, and no abort is decided, the table lets the commit be handed over: it is sealed and ready, the enlistment is the one durable, and nobody was handed it before, since SINGLE is sent
-- once.
use Rattle.std.proofs.Common.{◌≡◌, true, List, ◌==◌, [], ◌∷◌, ◌&&◌, ◌||◌, false, Bool, refl, ℕ, ◌∙◌, sym, subst}
use Rattle.std.specs.Prelude.{not, ◌++◌, if◌then◌else◌}
use Rattle.std.proofs.lemmas.Bool.{false_from_ne_true, eqb-true}
use Rattle.dtx_values.specs.declared.entry.Entry.{Entry}
use Rattle.dtx_values.specs.declared.entry.Entry.TheVariants.{Got, Handed, Promoting, Sent}
use Rattle.dtx_values.specs.declared.message.Conn.{Conn}
use Rattle.dtx_values.specs.declared.message.Conn.TheVariants.{Enl}
use Rattle.dtx_values.specs.declared.message.Dir.{Dir}
use Rattle.dtx_values.specs.declared.message.Dir.TheVariants.{Down}
use Rattle.dtx_values.specs.declared.message.Message.{Message}
use Rattle.dtx_values.specs.declared.message.Message.TheVariants.{EnlistEnlist, EnlistSingle}
use Rattle.dtx_values.specs.declared.number.EnlNo.{EnlNo}
use Rattle.dtx_values.specs.declared.words.Class.{Class}
use Rattle.dtx_values.specs.declared.words.Class.TheVariants.{DurableSingle}
use Rattle.dtx_values.specs.Class.{is_single_class, is_volatile}
use Rattle.dtx_values.specs.Ends.{same_connection, same_direction}
use Rattle.dtx_values.specs.Lines.{is_opening}
use Rattle.dtx_model.specs.Words.{always, each, has}
use Rattle.dtx_model.specs.Entries.{is_any_hand, is_any_single_sent, is_commit, is_decision, is_good_vote, is_hand, is_promoted, is_sealed, is_single_sent, is_yes_got}
use Rattle.dtx_model.specs.Outcome.{all_vote, can_own, durables, enlisted, ready, volatiles, voters}
use Rattle.dtx_model.specs.Learned.{coordinator_aborted}
use Rattle.dtx_model.specs.Promotes.{is_promoting}
use Rattle.dtx_model.specs.Coordinated.{coordinate, has_desk, is_sole}
use Rattle.dtx_model.specs.Wires.{MayCross}
use Rattle.dtx_model.proofs.Bools.{and_both, and_left, and_right, not_both, not_false, not_true, or_case, or_right, three_hold}
use Rattle.history_table.proofs.Tests.{eq_self, eq_swap, first_of_five, five_hold, fourth_of_four, second_of_three}
use Rattle.history_table.proofs.EntryTests.{all_complete, is_only}
use Rattle.history_table.proofs.Lists.{each_filter}
use Rattle.history_table.proofs.Scans.{each_more, has_less, has_more}
use Rattle.history_table.proofs.Messages.{SINGLE}
use Rattle.history_table.proofs.Table.{ends_with, have_come, is_abort_decided, is_enlist_got, is_lone_owner, is_one_phase_got, is_opening_got, is_single_got, may_hand, rule}
use Rattle.history_table.proofs.Keeping.{Keeps, keeps_before, newest}
use Rattle.history_table.proofs.Crossed.{is_got_on, is_sent_on}
use Rattle.history_table.proofs.OnceSent.{first_got, is_first_sent}
use Rattle.history_table.proofs.Sendings.{ends_has, got_promoting, single_row}
use Rattle.history_table.proofs.Handed.{hand_any, hand_name}
use Rattle.history_table.proofs.Recording.{come_if_promoted, commit_if_sealed, complete_if_sealed, well_if_yes}
use Rattle.history_table.proofs.LetDecide.{got_single, lone_if_one, one_if_single, promoted_if_single, sealed_if_handed, single_any, single_if_handed, yes_if_single}
use Rattle.history_table.proofs.CoreStages.{sole_open}
use Rattle.history_table.proofs.CoreKnown.{enlist_of, open_single, sent_opened_there}
use Rattle.history_table.proofs.SinglePhase.{single_only}

-- SINGLE is sent once
sent_any : (e : EnlNo) (x : Entry) → is_sent_on (Enl e) Down SINGLE x ≡ true → is_any_single_sent x ≡ true
sent_any e (Sent c d m) t =
    let both = and_left (same_connection (Enl e) c && same_direction Down d) (SINGLE m) t in
    by c d m (and_left (same_connection (Enl e) c) (same_direction Down d) both) (and_right (same_connection (Enl e) c) (same_direction Down d) both)
    (and_right (same_connection (Enl e) c && same_direction Down d) (SINGLE m) t)
  where
    by : (c : Conn) (d : Dir) (m : Message) → same_connection (Enl e) c ≡ true → same_direction Down d ≡ true → SINGLE m ≡ true → is_any_single_sent (Sent c d m) ≡ true
    by (Enl f) Down EnlistSingle s w t = refl
    by _ _ _ s w t = absurd cc
sent_any e _ t = absurd cc

pub single_first : (e : EnlNo) (h : List Entry) → Keeps h → always (is_first_sent (Enl e) Down SINGLE) h ≡ true
single_first e [] k = refl
single_first e (x ∷ h) k =
    and_both (is_first_sent (Enl e) Down SINGLE h x) (always (is_first_sent (Enl e) Down SINGLE) h) (now (is_sent_on (Enl e) Down SINGLE x) refl) (single_first e h (keeps_before x h k))
  where
    none : is_any_single_sent x ≡ true → has (is_sent_on (Enl e) Down SINGLE) h ≡ false
    none t =
        let w = single_row x h (newest x h k) t in
        let sole = and_left (is_sole (coordinate h).stage) (has_desk (coordinate h) w.0.value)
        (fourth_of_four (has is_one_phase_got h) (has is_yes_got h) (not (coordinator_aborted h)) (is_sole (coordinate h).stage && has_desk (coordinate h) w.0.value) w.2) in
        has_less (is_sent_on (Enl e) Down SINGLE) is_any_single_sent (sent_any e) h (open_single h (keeps_before x h k) (sole_open (coordinate h).stage sole))

    now : (b : Bool) → is_sent_on (Enl e) Down SINGLE x ≡ b → (not b || not (has (is_sent_on (Enl e) Down SINGLE) h)) ≡ true
    now true q = not_false (has (is_sent_on (Enl e) Down SINGLE) h) (none (sent_any e x q))
    now false q = refl

-- so where it comes none came before
opening_unsingle : (e : EnlNo) (m : Message) → is_opening (Enl e) m ≡ true → SINGLE m ≡ false
opening_unsingle e (EnlistEnlist i) t = refl
opening_unsingle e _ t = absurd cc

single_on : (e : EnlNo) (x : Entry) → is_single_got e.value x ≡ true → is_got_on (Enl e) Down SINGLE x ≡ true
single_on e (Got (Enl f) Down EnlistSingle) t = three_hold (e.value == f.value) true true t refl refl
single_on e _ t = absurd cc

pub single_new : (e : EnlNo) (h : List Entry) → Keeps h → MayCross h (Got (Enl e) Down EnlistSingle) → has (is_single_got e.value) h ≡ false
single_new e h k n =
    has_less (is_single_got e.value) (is_got_on (Enl e) Down SINGLE) (single_on e) h (first_got (Enl e) Down SINGLE EnlistSingle (opening_unsingle e) refl h k.wires (single_first e h k) n)

-- whoever was handed the commit of a promotion had got it
pub single_got_if_handed : (e : ℕ) (h : List Entry) → Keeps h → has is_promoting h ≡ true → has (is_hand e) h ≡ true → has (is_single_got e) h ≡ true
single_got_if_handed e [] k p t = absurd cc
single_got_if_handed e (Promoting c ∷ h) k p t =
    absurd (not_both (has is_sealed h) (sealed_if_handed h (keeps_before (Promoting c) h k) (has_more (is_hand e) is_any_hand (hand_any e) h t))
    (not_true (has is_sealed h) (second_of_three (not (has is_decision h)) (not (has is_sealed h)) (not (has is_promoting h)) (newest (Promoting c) h k))))
single_got_if_handed e (Handed f ∷ h) k p t =
    or_case (e == f.value) (has (is_hand e) h)
    (λ a. subst (λ n. has (is_single_got n) h ≡ true) (sym (eqb-true e f.value a))
    (ends_has (is_single_got f.value) h (by (has is_promoting h) p (first_of_five (may_hand h f.value) (has is_sealed h) (ready h) (is_only f.value (durables h)) _ (newest (Handed f) h k)))))
    (λ a. single_got_if_handed e h (keeps_before (Handed f) h k) p a) t
  where
    by : (b : Bool) → b ≡ true → (if b then ends_with (is_single_got f.value) h && not (is_abort_decided h) else not (has is_decision h)) ≡ true → ends_with (is_single_got f.value) h ≡ true
    by true q r = and_left (ends_with (is_single_got f.value) h) (not (is_abort_decided h)) r
    by false q r = absurd cc
single_got_if_handed e (x ∷ h) k p t = or_right (is_single_got e x) (has (is_single_got e) h) (single_got_if_handed e h (keeps_before x h k) p t)

-- who is let decide came
pub came_if_single : (e : EnlNo) (h : List Entry) → Keeps h → has (is_single_sent e.value) h ≡ true → has (is_enlist_got e.value) h ≡ true
came_if_single e h k t =
    has_more (is_opening_got (Enl e)) (is_enlist_got e.value) (enlist_of e.value e (eq_self e.value)) h
    (sent_opened_there (Enl e) SINGLE h k (has_more (is_single_sent e.value) (is_sent_on (Enl e) Down SINGLE) on h t))
  where
    on : (x : Entry) → is_single_sent e.value x ≡ true → is_sent_on (Enl e) Down SINGLE x ≡ true
    on (Sent (Enl f) Down EnlistSingle) t = three_hold (e.value == f.value) true true t refl refl
    on _ t = absurd cc

-- The one that is let decide is the one durable, and can own the commit.
single_owns : (c : Class) → is_single_class c ≡ true → can_own c ≡ true
single_owns DurableSingle t = refl
single_owns _ t = absurd cc

durables_come : (h : List Entry) → have_come h ≡ true → each (λ x. has (is_enlist_got x.0.value) h) (durables h) ≡ true
durables_come h a =
    each_filter (λ x. not (is_volatile x.1)) (λ x. has (is_enlist_got x.0.value) h) (enlisted h)
    (each_more (λ x. is_volatile x.1 || has (is_enlist_got x.0.value) h) (λ x. not (not (is_volatile x.1)) || has (is_enlist_got x.0.value) h)
    (λ x t. twice (is_volatile x.1) (has (is_enlist_got x.0.value) h) t) (enlisted h) a)
  where
    twice : (v b : Bool) → (v || b) ≡ true → (not (not v) || b) ≡ true
    twice true b t = refl
    twice false b t = t

pub single_alone : (e : EnlNo) (h : List Entry) → Keeps h → has (is_single_sent e.value) h ≡ true → is_only e.value (durables h) ≡ true
single_alone e h k t =
    let any = has_more (is_single_sent e.value) is_any_single_sent (single_any e.value) h t in
    by (durables h) (and_right (has is_sealed h) (is_lone_owner (durables h)) (lone_if_one h k (one_if_single h k any))) (durables_come h (come_if_promoted h k (promoted_if_single h k any)))
  where
    by : (ds : List (EnlNo × Class)) → is_lone_owner ds ≡ true → each (λ x. has (is_enlist_got x.0.value) h) ds ≡ true → is_only e.value ds ≡ true
    by [] o a = absurd cc
    by (x ∷ []) o a =
        and_both (e.value == x.0.value) (can_own x.1) (eq_swap e.value x.0.value ∙ single_only x.0.value e.value h k t (and_left (has (is_enlist_got x.0.value) h) true a)) (single_owns x.1 o)
    by (x ∷ y ∷ ds) o a = absurd cc

-- and it is ready: the volatiles alone vote
pub single_ready : (h : List Entry) → Keeps h → has is_any_single_sent h ≡ true → ready h ≡ true
unfolding ready
single_ready h k t =
    let sealed = and_left (has is_sealed h) (is_lone_owner (durables h)) (lone_if_one h k (one_if_single h k t)) in
    and_both (has is_commit h && all_complete h) (each (λ x. has (is_good_vote x.0.value) h) (voters h)) (and_both (has is_commit h) (all_complete h) (commit_if_sealed h k sealed) (complete_if_sealed h k sealed))
    (by (all_vote h) (silent (has is_promoted h) (has is_any_single_sent h) t) (each_filter (λ x. is_volatile x.1) (λ x. has (is_good_vote x.0.value) h) (enlisted h) (well_if_yes h k (yes_if_single h k t))))
  where
    silent : (p s : Bool) → s ≡ true → (p && not s) ≡ false
    silent true true q = refl
    silent p false q = absurd cc
    silent false true q = refl

    by : (b : Bool) → b ≡ false → each (λ x. has (is_good_vote x.0.value) h) (volatiles h) ≡ true → each (λ x. has (is_good_vote x.0.value) h) (if b then volatiles h ++ durables h else volatiles h) ≡ true
    by true q a = absurd cc
    by false q a = a

-- So the table lets it be handed over.
pub hand_row : (e : EnlNo) (h : List Entry) → Keeps (Got (Enl e) Down EnlistSingle ∷ h) → is_abort_decided h ≡ false → rule (Got (Enl e) Down EnlistSingle ∷ h) (Handed e) ≡ true
hand_row e h k d =
    let g = Got (Enl e) Down EnlistSingle ∷ h in
    let promoting = got_promoting (Enl e) Down EnlistSingle h k in
    let sent = got_single e.value (Got (Enl e) Down EnlistSingle ∷ h) k (eq_self e.value) in
    let any = has_more (is_single_sent e.value) is_any_single_sent (single_any e.value) (Got (Enl e) Down EnlistSingle ∷ h) sent in
    let past = keeps_before (Got (Enl e) Down EnlistSingle) h k in
    five_hold (may_hand (Got (Enl e) Down EnlistSingle ∷ h) e.value) (has is_sealed h) (ready (Got (Enl e) Down EnlistSingle ∷ h)) (is_only e.value (durables h)) (not (has is_any_hand h))
    (by (has is_promoting h) promoting) (and_left (has is_sealed h) (is_lone_owner (durables h)) (lone_if_one h past (one_if_single h past any))) (single_ready (Got (Enl e) Down EnlistSingle ∷ h) k any)
    (single_alone e h past sent)
    (not_false (has is_any_hand h) (false_from_ne_true (has is_any_hand h) (λ t.
    let name = hand_name h t in
    let own = single_only e.value name.0 h past (single_if_handed name.0 h past promoting name.1) (came_if_single e h past sent) in
    not_both (has (is_single_got e.value) h) (single_got_if_handed e.value h past promoting (subst (λ n. has (is_hand n) h ≡ true) (sym (eqb-true e.value name.0 own)) name.1)) (single_new e h past k.wires.0))))
  where
    by : (b : Bool) → b ≡ true → (if b then (e.value == e.value) && not (is_abort_decided h) else not (has is_decision h)) ≡ true
    by true q = and_both (e.value == e.value) (not (is_abort_decided h)) (eq_self e.value) (not_false (is_abort_decided h) d)
    by false q = absurd cc
