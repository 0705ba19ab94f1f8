-- Which enlistment decides at the coordinator: where SINGLE was sent and no answer came, it is the one whose SINGLE was sent, and its answer wasn't got.
use Rattle.std.proofs.Common.{◌≡◌, true, List, ◌==◌, [], ◌∷◌, ◌&&◌, false, Bool, refl, ℕ, ap, sym, subst}
use Rattle.std.specs.Prelude.{not, if◌then◌else◌}
use Rattle.std.proofs.lemmas.Bool.{false_from_ne_true, eqb-true, or_left}
use Rattle.dtx_values.specs.declared.entry.Entry.{Entry}
use Rattle.dtx_values.specs.declared.entry.Entry.TheVariants.{Got, Restarted, Sent}
use Rattle.dtx_values.specs.declared.message.Conn.TheVariants.{Enl}
use Rattle.dtx_values.specs.declared.message.Dir.TheVariants.{Down, Up}
use Rattle.dtx_values.specs.declared.message.Message.TheVariants.{EnlistOneAborted, EnlistOneCommitted, EnlistOneInDoubt, EnlistSingle}
use Rattle.dtx_values.specs.declared.number.EnlNo.{EnlNo}
use Rattle.dtx_model.specs.declared.desk.Stage.TheVariants.{Answered as AnsweredStage, Aborted as AbortedStage}
use Rattle.dtx_model.specs.Words.{has}
use Rattle.dtx_model.specs.Entries.{is_any_owner, is_any_single_sent, is_one_got, is_single_sent, is_yes_got}
use Rattle.dtx_model.specs.Learned.{coordinator_aborted}
use Rattle.dtx_model.specs.Coordinated.{Coordinated, coordinate, decides, desks_after, follow, has_desk, is_desk_of, is_given, is_sole, is_undecided, stage_after}
use Rattle.dtx_model.proofs.Bools.{and_both, and_left, and_right, not_both, or_case, or_false, or_right}
use Rattle.history_table.proofs.Tests.{eq_self, fourth_of_four}
use Rattle.history_table.proofs.Table.{is_one_phase_got}
use Rattle.history_table.proofs.Keeping.{Keeps, keeps_before, newest}
use Rattle.history_table.proofs.Scans.{has_less, has_more}
use Rattle.history_table.proofs.Sendings.{single_row}
use Rattle.history_table.proofs.LetDecide.{handed_if_owner, owner_new, promoted_if_single, single_any, single_if_handed}
use Rattle.history_table.proofs.Recording.{promoting_if_promoted}
use Rattle.history_table.proofs.CoreStages.{live_restart, sole_open}
use Rattle.history_table.proofs.CoreKnown.{desk_stays, given_live, given_new, numbered, open_single, single_if_given, unanswered_if_unsent}
use Rattle.history_table.proofs.SinglePhase.{single_only}
use Rattle.history_table.proofs.Asking.{desk_come}

no : false ≡ true → ⊥
no e = absurd cc

-- SINGLE is sent where it waits for the one enlistment
sole_before : (x : Entry) (h : List Entry) → Keeps (x ∷ h) → is_any_single_sent x ≡ true → is_sole (coordinate h).stage ≡ true
sole_before x h k t =
    let w = single_row x h (newest x h k) t in
    and_left (is_sole (coordinate h).stage) (has_desk (coordinate h) w.0.value)
    (fourth_of_four (has is_one_phase_got h) (has is_yes_got h) (not (coordinator_aborted h)) (is_sole (coordinate h).stage && has_desk (coordinate h) w.0.value) w.2)

unsent_before : (x : Entry) (h : List Entry) → Keeps (x ∷ h) → is_any_single_sent x ≡ true → has is_any_single_sent h ≡ false
unsent_before x h k t = open_single h (keeps_before x h k) (sole_open (coordinate h).stage (sole_before x h k t))

unrestarted : (k : Coordinated) (x : Entry) → is_given (stage_after k x) ≡ true → (b : Bool) → x ≡ Restarted b → ⊥
unrestarted k x g b q = let P : Entry → Type 0 = λ y. is_given (stage_after k y) ≡ true in live_restart is_given given_live b k.stage (subst P q g)

-- whose SINGLE was sent has its desk
given_desk : (f : ℕ) (h : List Entry) → Keeps h → is_given (coordinate h).stage ≡ true → has (is_single_sent f) h ≡ true → has (is_desk_of f) (coordinate h).desks ≡ true
unfolding coordinate follow
given_desk f [] k g t = absurd (no t)
given_desk f (x ∷ h) k g t =
    or_case (is_any_single_sent x) (is_given (coordinate h).stage)
    (λ a. or_case (is_single_sent f x) (has (is_single_sent f) h) (λ b. now x k b)
    (λ b. absurd (not_both (has is_any_single_sent h) (has_more (is_single_sent f) is_any_single_sent (single_any f) h b) (unsent_before x h k a))) t)
    (λ a. or_case (is_single_sent f x) (has (is_single_sent f) h)
    (λ b. now x k b)
    (λ b. desk_stays (is_desk_of f) (numbered f) (coordinate h) x (unrestarted (coordinate h) x g) (given_desk f h (keeps_before x h k) a b)) t) (given_new (coordinate h) x g)
  where
    now : (x : Entry) → Keeps (x ∷ h) → is_single_sent f x ≡ true → has (is_desk_of f) (desks_after (coordinate h) x) ≡ true
    now (Sent (Enl e) Down EnlistSingle) k b =
        let w = single_row (Sent (Enl e) Down EnlistSingle) h (newest (Sent (Enl e) Down EnlistSingle) h k) refl in
        let desk : has (is_desk_of w.0.value) (coordinate h).desks ≡ true = and_right (is_sole (coordinate h).stage) (has_desk (coordinate h) w.0.value)
        (fourth_of_four (has is_one_phase_got h) (has is_yes_got h) (not (coordinator_aborted h)) (is_sole (coordinate h).stage && has_desk (coordinate h) w.0.value) w.2) in
        let P : ℕ → Type 0 = λ n. has (is_desk_of n) (coordinate h).desks ≡ true in
        let same : w.0 ≡ e = by w.0 e w.1 in
        subst P (sym (eqb-true f e.value b)) (subst P (ap (λ z. z.value) same) desk)
      where
        by : (d e : EnlNo) → Sent (Enl e) Down EnlistSingle ≡ Sent (Enl d) Down EnlistSingle → d ≡ e
        by d e q = cc
    now _ k b = absurd (no b)

deciding : (e : ℕ) (f : EnlNo) (k : Coordinated) → (e == f.value) ≡ true → is_given k.stage ≡ true → has (is_desk_of e) k.desks ≡ true → decides k f.value ≡ true
deciding e f k t g d = and_both (is_given k.stage) (has_desk k f.value) g (subst (λ n. has (is_desk_of n) k.desks ≡ true) (eqb-true e f.value t) d)

-- an answer that comes from it ends that
answered_now : (e : ℕ) (k : Coordinated) (x : Entry) → is_one_got e x ≡ true → is_given k.stage ≡ true → has (is_desk_of e) k.desks ≡ true → is_given (stage_after k x) ≡ false
answered_now e k (Got (Enl f) Up EnlistOneCommitted) t g d =
    let P : Bool → Type 0 = λ b. is_given (if b then AnsweredStage else k.stage) ≡ false in subst P (sym (deciding e f k t g d)) refl
answered_now e k (Got (Enl f) Up EnlistOneInDoubt) t g d =
    let P : Bool → Type 0 = λ b. is_given (if b then AnsweredStage else k.stage) ≡ false in subst P (sym (deciding e f k t g d)) refl
answered_now e k (Got (Enl f) Up EnlistOneAborted) t g d =
    let P : Bool → Type 0 = λ b. is_given (if b then AbortedStage else k.stage) ≡ false in
    subst P (sym (or_right (is_undecided k.stage) (decides k f.value) (deciding e f k t g d))) refl
answered_now e k _ t g d = absurd (no t)

-- so no answer was got there
one_unsent : (e : ℕ) (x : Entry) → is_one_got e x ≡ true → is_any_single_sent x ≡ false
one_unsent e (Got c d m) t = refl
one_unsent e _ t = absurd (no t)

answerer_single : (e : ℕ) (h : List Entry) → Keeps h → has is_any_single_sent h ≡ true → has (is_any_owner e) h ≡ true → has (is_single_sent e) h ≡ true
answerer_single e h k s t = single_if_handed e h k (promoting_if_promoted h k (promoted_if_single h k s)) (handed_if_owner e h k t)

pub given_silent : (e : ℕ) (h : List Entry) → Keeps h → is_given (coordinate h).stage ≡ true → has (is_one_got e) h ≡ false
unfolding coordinate follow
given_silent e [] k g = refl
given_silent e (x ∷ h) k g =
    let past = keeps_before x h k in
    or_case (is_any_single_sent x) (is_given (coordinate h).stage)
    (λ a. or_false (is_one_got e x) (has (is_one_got e) h) (false_from_ne_true (is_one_got e x) (λ t. not_both (is_any_single_sent x) a (one_unsent e x t)))
    (unanswered_if_unsent e h past (has_less (is_single_sent e) is_any_single_sent (single_any e) h (unsent_before x h k a))))
    (λ a. or_false (is_one_got e x) (has (is_one_got e) h)
    (false_from_ne_true (is_one_got e x) (λ t. not_both (is_given (stage_after (coordinate h) x)) g
    (answered_now e (coordinate h) x t a (given_desk e h past a (answerer_single e h past (single_if_given h a) (owner_new e x h k t))))))
    (given_silent e h past a)) (given_new (coordinate h) x g)

-- Where it decides by the coordinator, it does by the history.
single_name : (h : List Entry) → has is_any_single_sent h ≡ true → (e : ℕ) × (has (is_single_sent e) h ≡ true)
single_name [] t = absurd (no t)
single_name (x ∷ h) t = or_case (is_any_single_sent x) (has is_any_single_sent h) (λ a. now x a) (λ a. let w = single_name h a in (w.0, or_right (is_single_sent w.0 x) (has (is_single_sent w.0) h) w.1)) t
  where
    now : (x : Entry) → is_any_single_sent x ≡ true → (e : ℕ) × (has (is_single_sent e) (x ∷ h) ≡ true)
    now (Sent (Enl f) Down EnlistSingle) a = (f.value, or_left (f.value == f.value) (has (is_single_sent f.value) h) (eq_self f.value))
    now _ a = absurd (no a)

pub decides_sent : (e : ℕ) (h : List Entry) → Keeps h → decides (coordinate h) e ≡ true → has (is_single_sent e) h ≡ true
decides_sent e h k d =
    let w = single_name h (single_if_given h (and_left (is_given (coordinate h).stage) (has_desk (coordinate h) e) d)) in
    subst (λ n. has (is_single_sent n) h ≡ true) (sym (eqb-true e w.0 (single_only e w.0 h k w.1 (desk_come e h (and_right (is_given (coordinate h).stage) (has_desk (coordinate h) e) d))))) w.1

pub decides_silent : (e : ℕ) (h : List Entry) → Keeps h → decides (coordinate h) e ≡ true → has (is_one_got e) h ≡ false
decides_silent e h k d = given_silent e h k (and_left (is_given (coordinate h).stage) (has_desk (coordinate h) e) d)
