-- The single phase at the coordinator: COMMIT for it comes where exactly one enlistment came, and that one alone is let decide.
use Rattle.std.proofs.Common.{◌≡◌, true, List, ◌==◌, [], ◌∷◌, ◌&&◌, ◌||◌, false, Bool, None, refl, ℕ, sym, subst}
use Rattle.std.specs.Prelude.{not, map, if◌then◌else◌}
use Rattle.std.proofs.lemmas.Bool.{eqb-true, or_left}
use Rattle.dtx_values.specs.declared.entry.Entry.{Entry}
use Rattle.dtx_values.specs.declared.entry.Entry.TheVariants.{Got, Restarted, Sent}
use Rattle.dtx_values.specs.declared.message.Conn.TheVariants.{Again, Begin, Enl}
use Rattle.dtx_values.specs.declared.message.Dir.TheVariants.{Down, Up}
use Rattle.dtx_values.specs.declared.message.Message.TheVariants.{BeginCommitOne, EnlistAck, EnlistEnlist, EnlistOneAborted, EnlistSingle, ReenlistAck}
use Rattle.dtx_values.specs.Lines.{has_line}
use Rattle.dtx_values.specs.Table.{insert_by}
use Rattle.dtx_model.specs.declared.desk.Desk.{Desk}
use Rattle.dtx_model.specs.declared.desk.Stage.{Stage}
use Rattle.dtx_model.specs.declared.desk.Stage.TheVariants.{Sole}
use Rattle.dtx_model.specs.Words.{has}
use Rattle.dtx_model.specs.Entries.{is_any_single_sent, is_commit_got, is_single_sent, is_yes_got}
use Rattle.dtx_model.specs.Learned.{coordinator_aborted}
use Rattle.dtx_model.specs.Promotes.{is_promoting}
use Rattle.dtx_model.specs.Coordinated.{Coordinated, accepts, coordinate, desk_number, desks_after, follow, has_desk, is_active, is_desk_of, is_one, is_sole, stage_after}
use Rattle.dtx_model.proofs.Bools.{and_both, and_left, and_right, not_both, not_true, or_case, or_right}
use Rattle.history_table.proofs.Tests.{eq_self, fourth_of_four}
use Rattle.history_table.proofs.Table.{is_enlist_got, is_one_phase_got, is_there, may_let_decide, rule}
use Rattle.history_table.proofs.Keeping.{Keeps, keeps_before, newest}
use Rattle.history_table.proofs.Scans.{has_more}
use Rattle.history_table.proofs.CoreStages.{come, live_restart, sole_open}
use Rattle.history_table.proofs.CoreKnown.{desk_there, sole_live}
use Rattle.history_table.proofs.LetDecide.{commit_if_single, single_any}

-- what maps or keeps the desks keeps their number
one_map : (f : Desk → Desk) (ds : List Desk) → is_one ds ≡ true → is_one (map f ds) ≡ true
one_map f [] o = absurd cc
one_map f (d ∷ []) o = refl
one_map f (d ∷ c ∷ ds) o = absurd cc

one_if : (b : Bool) (f : Desk → Desk) (ds : List Desk) → is_one ds ≡ true → is_one (if b then map f ds else ds) ≡ true
one_if true f ds o = one_map f ds o
one_if false f ds o = o

-- where it waits for its one enlistment, it has one
sole_new : (k : Coordinated) (x : Entry) → is_sole (stage_after k x) ≡ true → ((is_one_phase_got x && is_one k.desks) || is_sole k.stage) ≡ true
sole_new k x a =
    come is_sole sole_live k x
    (record {
      stays = λ u. or_right (is_one_phase_got x && is_one k.desks) (is_sole k.stage) u;
      begun = λ u o q. absurd cc;
      alone = λ u a o q. or_left (is_one_phase_got x && is_one k.desks) (is_sole k.stage) (and_both (is_one_phase_got x) (is_one k.desks) q o);
      lets = λ u a q. absurd cc;
      answers = λ u g. absurd cc;
    }) a

sole_inactive : (s : Stage) → is_sole s ≡ true → is_active s ≡ true → ⊥
sole_inactive s q a = by s q a
  where
    by : (s : Stage) → is_sole s ≡ true → is_active s ≡ true → ⊥
    by Sole q a = absurd cc
    by _ q a = absurd cc

desks_stay : (k : Coordinated) (x : Entry) → is_sole k.stage ≡ true → is_sole (stage_after k x) ≡ true → is_one k.desks ≡ true → is_one (desks_after k x) ≡ true
desks_stay k (Got (Enl e) Up (EnlistEnlist i)) s u o = by (accepts k) refl
  where
    made : Desk
    made = record { enlistment = e; manager = i.rm; ballot = None; acked = false }

    by : (b : Bool) → accepts k ≡ b → is_one (if b then insert_by desk_number made k.desks else k.desks) ≡ true
    by true q = absurd (sole_inactive k.stage s (and_left (is_active k.stage) (not k.commit) q))
    by false q = o
desks_stay k (Got (Enl e) Up EnlistAck) s u o = one_map _ k.desks o
desks_stay k (Got (Again e) Up ReenlistAck) s u o = one_map _ k.desks o
desks_stay k (Got (Enl e) Up EnlistOneAborted) s u o = one_if _ _ k.desks o
desks_stay k (Got (Enl e) Up m) s u o = one_if (is_active k.stage) _ k.desks o
desks_stay k (Restarted b) s u o = absurd (live_restart is_sole sole_live b k.stage u)
desks_stay k x s u o = o

one_came : (k : Coordinated) (x : Entry) → is_one_phase_got x ≡ true → is_one k.desks ≡ true → is_one (desks_after k x) ≡ true
one_came k (Got Begin Up BeginCommitOne) t o = o
one_came k _ t o = absurd cc

pub sole_one : (h : List Entry) → is_sole (coordinate h).stage ≡ true → is_one (coordinate h).desks ≡ true
unfolding coordinate follow
sole_one [] a = absurd cc
sole_one (x ∷ h) a =
    or_case (is_one_phase_got x && is_one (coordinate h).desks) (is_sole (coordinate h).stage)
    (λ t. one_came (coordinate h) x (and_left (is_one_phase_got x) (is_one (coordinate h).desks) t) (and_right (is_one_phase_got x) (is_one (coordinate h).desks) t))
    (λ t. desks_stay (coordinate h) x t a (sole_one h t)) (sole_new (coordinate h) x a)

-- two desks of one have one name
pub one_name : (n e : ℕ) (ds : List Desk) → is_one ds ≡ true → has (is_desk_of n) ds ≡ true → has (is_desk_of e) ds ≡ true → (n == e) ≡ true
one_name n e [] o p q = absurd cc
one_name n e (d ∷ []) o p q =
    let first : n ≡ d.enlistment.value = eqb-true n d.enlistment.value (alone (is_desk_of n d) p) in
    let second : e ≡ d.enlistment.value = eqb-true e d.enlistment.value (alone (is_desk_of e d) q) in
    rw (first, second) (eq_self d.enlistment.value)
  where
    alone : (b : Bool) → (b || false) ≡ true → b ≡ true
    alone true t = refl
    alone false t = absurd cc
one_name n e (d ∷ c ∷ ds) o p q = absurd cc

-- Whoever came is the one that was let decide.
enlist_late : (n : ℕ) (x : Entry) (h : List Entry) → rule h x ≡ true → is_enlist_got n x ≡ true → has is_commit_got h ≡ false
enlist_late n (Got (Enl f) Up (EnlistEnlist i)) h r t = not_true (has is_commit_got h) r
enlist_late n _ h r t = absurd cc

single_now : (n e : ℕ) (x : Entry) (h : List Entry) → Keeps (x ∷ h) → is_single_sent e x ≡ true → has (is_enlist_got n) h ≡ true → (n == e) ≡ true
single_now n e (Sent (Enl f) Down EnlistSingle) h k s t =
    let here : may_let_decide h (Enl f) ≡ true = fourth_of_four (has_line (Enl f) Down EnlistSingle) (has is_promoting h) (is_there h (Enl f) Down EnlistSingle) (may_let_decide h (Enl f)) (newest (Sent (Enl f) Down EnlistSingle) h k) in
    let both = fourth_of_four (has is_one_phase_got h) (has is_yes_got h) (not (coordinator_aborted h)) (is_sole (coordinate h).stage && has_desk (coordinate h) f.value) here in
    let sole = and_left (is_sole (coordinate h).stage) (has_desk (coordinate h) f.value) both in
    subst (λ m. (n == m) ≡ true) (sym (eqb-true e f.value s))
    (one_name n f.value (coordinate h).desks (sole_one h sole) (desk_there n h (keeps_before (Sent (Enl f) Down EnlistSingle) h k) (sole_open (coordinate h).stage sole) t)
    (and_right (is_sole (coordinate h).stage) (has_desk (coordinate h) f.value) both))
single_now n e _ h k s t = absurd cc

pub single_only : (n e : ℕ) (h : List Entry) → Keeps h → has (is_single_sent e) h ≡ true → has (is_enlist_got n) h ≡ true → (n == e) ≡ true
single_only n e [] k s t = absurd cc
single_only n e (x ∷ h) k s t =
    let past = keeps_before x h k in
    or_case (is_enlist_got n x) (has (is_enlist_got n) h)
    (λ a. or_case (is_single_sent e x) (has (is_single_sent e) h) (λ b. absurd (apart x a b))
    (λ b. absurd (not_both (has is_commit_got h) (commit_if_single h past (has_more (is_single_sent e) is_any_single_sent (single_any e) h b)) (enlist_late n x h (newest x h k) a))) s)
    (λ a. or_case (is_single_sent e x) (has (is_single_sent e) h) (λ b. single_now n e x h k b a) (λ b. single_only n e h past b a) s) t
  where
    apart : (x : Entry) → is_enlist_got n x ≡ true → is_single_sent e x ≡ true → ⊥
    apart (Got c d m) a b = absurd cc
    apart _ a b = absurd cc
