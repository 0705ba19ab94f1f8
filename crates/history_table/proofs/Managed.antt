-- The manager of each branch at the local side, and of each desk at the coordinator, is that of the ENLIST that was sent, and of each enlistment one ENLIST was.
use Rattle.std.proofs.Common.{ℕ, ◌==◌, Bool, false, ◌&&◌, ◌≡◌, true, refl, ◌∙◌, sym, List, [], ◌∷◌, None, Option, Some, subst}
use Rattle.std.specs.Prelude.{filter, not, map, if◌then◌else◌, find}
use Rattle.std.proofs.lemmas.Bool.{eqb-true, or_left}
use Rattle.dtx_values.specs.declared.entry.Entry.{Entry}
use Rattle.dtx_values.specs.declared.entry.Entry.TheVariants.{Sent, Acked, Got, Reenlisted, Told, Restarted}
use Rattle.dtx_values.specs.declared.entry.Party.TheVariants.{Enl as Member}
use Rattle.dtx_values.specs.declared.message.Conn.{Conn}
use Rattle.dtx_values.specs.declared.message.Conn.TheVariants.{Enl, Again, Begin, Voter}
use Rattle.dtx_values.specs.declared.message.Dir.{Dir}
use Rattle.dtx_values.specs.declared.message.Dir.TheVariants.{Up, Down}
use Rattle.dtx_values.specs.declared.message.Message.{Message}
use Rattle.dtx_values.specs.declared.message.Message.TheVariants.{EnlistEnlist, EnlistCommit, EnlistEnlisted, EnlistOneAborted, ReenlistCommitted, EnlistAck, ReenlistAck}
use Rattle.dtx_values.specs.declared.number.EnlNo.{EnlNo}
use Rattle.dtx_values.specs.declared.words.Outcome.TheVariants.{Aborted}
use Rattle.dtx_values.specs.Ends.{same_connection, same_direction}
use Rattle.dtx_values.specs.Table.{insert_by}
use Rattle.dtx_model.specs.declared.branch.Branch.{Branch}
use Rattle.dtx_model.specs.declared.desk.Ballot.{Ballot}
use Rattle.dtx_model.specs.declared.desk.Ballot.TheVariants.{Refused}
use Rattle.dtx_model.specs.declared.desk.Desk.{Desk}
use Rattle.dtx_model.specs.Words.{has, each}
use Rattle.dtx_model.specs.Observed.{branch_number, branches, is_branch, branch_acked, branch_due, due_in, observe}
use Rattle.dtx_model.specs.Replies.{conn_due, due_conn}
use Rattle.dtx_model.specs.Wires.{opens}
use Rattle.dtx_model.specs.Coordinated.{accepts, ballot_of, coordinate, desk_number, follow, hears_one, is_active, is_desk_of, is_prepared, unacked, with_ack, with_ballot}
use Rattle.dtx_model.proofs.Bools.{and_both, and_left, and_right, not_both, or_case, or_right}
use Rattle.dtx_values.proofs.SameNumbers.{same_enlistment}
use Rattle.history_table.proofs.Scans.{has_more, each_more, each-at}
use Rattle.history_table.proofs.Keeping.{Keeps, keeps_before}
use Rattle.history_table.proofs.Marks.{unopened_again}
use Rattle.history_table.proofs.Tests.{eq_self, eq_swap}
use Rattle.history_table.proofs.Lists.{each-insert, found_at}
use Rattle.history_table.proofs.CoreStages.{changed, kept_some, each_if}
use Rattle.history_table.proofs.Crossed.{is_sent_on, got_sent}

-- the ENLIST of this enlistment is sent, and names this manager
abbrev pub is_enlist_by : ℕ → ℕ → Entry → Bool
is_enlist_by e r (Sent (Enl f) Up (EnlistEnlist i)) = (e == f.value) && (r == i.rm.value)
is_enlist_by e r _ = false

pub enlist_opens : (e : EnlNo) (r : ℕ) (x : Entry) → is_enlist_by e.value r x ≡ true → opens (Enl e) x ≡ true
enlist_opens e r (Sent (Enl f) Up (EnlistEnlist i)) t = and_both (e.value == f.value) true (and_left (e.value == f.value) (r == i.rm.value) t) refl
enlist_opens e r _ t = absurd cc

same_here : (e r q : ℕ) (x : Entry) → is_enlist_by e r x ≡ true → is_enlist_by e q x ≡ true → r ≡ q
same_here e r q (Sent (Enl f) Up (EnlistEnlist i)) s t =
    eqb-true r i.rm.value (and_right (e == f.value) (r == i.rm.value) s) ∙ sym (eqb-true q i.rm.value (and_right (e == f.value) (q == i.rm.value) t))
same_here e r q _ s t = absurd cc

-- so each has one manager
pub one_manager : (e : EnlNo) (r q : ℕ) (h : List Entry) → Keeps h → has (is_enlist_by e.value r) h ≡ true → has (is_enlist_by e.value q) h ≡ true → r ≡ q
one_manager e r q [] k s t = absurd cc
one_manager e r q (x ∷ h) k s t =
    or_case (is_enlist_by e.value r x) (has (is_enlist_by e.value r) h)
    (λ a. or_case (is_enlist_by e.value q x) (has (is_enlist_by e.value q) h) (λ b. same_here e.value r q x a b) (λ b. absurd (again r q a b)) t)
    (λ a. or_case (is_enlist_by e.value q x) (has (is_enlist_by e.value q) h) (λ b. absurd (again q r b a)) (λ b. one_manager e r q h (keeps_before x h k) a b) t) s
  where
    again : (m n : ℕ) → is_enlist_by e.value m x ≡ true → has (is_enlist_by e.value n) h ≡ true → ⊥
    again m n a b = not_both (opens (Enl e) x) (enlist_opens e m x a) (unopened_again e x h k (has_more (is_enlist_by e.value n) (opens (Enl e)) (enlist_opens e n) h b))

-- The branches at the local side.
abbrev pub is_managed_branch : List Entry → Branch → Bool
is_managed_branch h b = has (is_enlist_by b.enlistment.value b.manager.value) h

pub branches_managed : (h : List Entry) → each (is_managed_branch h) (branches h) ≡ true
branches_managed [] = refl
branches_managed (Sent (Enl e) Up (EnlistEnlist i) ∷ h) =
    let new : Branch = record { enlistment = e; manager = i.rm; enlisted = false; aborted = false; acked = false; due = None } in
    let x = Sent (Enl e) Up (EnlistEnlist i) in
    each-insert (is_managed_branch (x ∷ h)) branch_number new (filter (λ b. not (is_branch e.value b)) (branches h))
    ∙ and_both (is_managed_branch (x ∷ h) new) (each (is_managed_branch (x ∷ h)) (filter (λ b. not (is_branch e.value b)) (branches h)))
    (or_left (is_enlist_by e.value i.rm.value x) (has (is_enlist_by e.value i.rm.value) h) (and_both (e.value == e.value) (i.rm.value == i.rm.value) (eq_self e.value) (eq_self i.rm.value)))
    (kept_some (is_managed_branch (x ∷ h)) (λ b. not (is_branch e.value b)) (branches h)
    (each_more (is_managed_branch h) (is_managed_branch (x ∷ h)) (λ b t. or_right (is_enlist_by b.enlistment.value b.manager.value x) (is_managed_branch h b) t) (branches h) (branches_managed h)))
branches_managed (Got (Enl e) Down EnlistEnlisted ∷ h) = changed (is_managed_branch h) (is_managed_branch h) _ (λ b t. t) (branches h) (branches_managed h)
branches_managed (Got (Enl e) Down EnlistCommit ∷ h) = changed (is_managed_branch h) (is_managed_branch h) _ (λ b t. t) (branches h) (branches_managed h)
branches_managed (Got (Again e) Down ReenlistCommitted ∷ h) = changed (is_managed_branch h) (is_managed_branch h) _ (λ b t. t) (branches h) (branches_managed h)
branches_managed (Told (Member e) Aborted ∷ h) = changed (is_managed_branch h) (is_managed_branch h) _ (λ b t. t) (branches h) (branches_managed h)
branches_managed (Acked e ∷ h) = changed (is_managed_branch h) (is_managed_branch h) _ (λ b t. t) (branches h) (branches_managed h)
branches_managed (Reenlisted e ∷ h) = changed (is_managed_branch h) (is_managed_branch h) _ (λ b t. t) (branches h) (branches_managed h)
branches_managed (x ∷ h) =
    each_more (is_managed_branch h) (is_managed_branch (x ∷ h)) (λ b t. or_right (is_enlist_by b.enlistment.value b.manager.value x) (is_managed_branch h b) t) (branches h) (branches_managed h)

-- The desks at the coordinator.
abbrev pub is_managed_desk : List Entry → Desk → Bool
is_managed_desk h d = has (is_enlist_by d.enlistment.value d.manager.value) h

-- the message is an ENLIST that names this manager
abbrev pub names : ℕ → Message → Bool
names r (EnlistEnlist i) = r == i.rm.value
names r _ = false

pub named_sent : (e : EnlNo) (r : ℕ) (x : Entry) → is_sent_on (Enl e) Up (names r) x ≡ true → is_enlist_by e.value r x ≡ true
named_sent e r (Sent c d m) t =
    let both = and_left (same_connection (Enl e) c && same_direction Up d) (names r m) t in
    by c d m (and_left (same_connection (Enl e) c) (same_direction Up d) both) (and_right (same_connection (Enl e) c) (same_direction Up d) both) (and_right (same_connection (Enl e) c && same_direction Up d) (names r m) t)
  where
    by : (c : Conn) (d : Dir) (m : Message) → same_connection (Enl e) c ≡ true → same_direction Up d ≡ true → names r m ≡ true → is_enlist_by e.value r (Sent c d m) ≡ true
    by (Enl f) Up (EnlistEnlist i) s w n = and_both (e.value == f.value) (r == i.rm.value) s n
    by (Enl f) Up _ s w n = absurd cc
    by (Enl f) Down m s w n = absurd cc
    by Begin d m s w n = absurd cc
    by Voter d m s w n = absurd cc
    by (Again f) d m s w n = absurd cc
named_sent e r _ t = absurd cc

-- a ballot leaves the desk's names
cast_managed : (e : ℕ) (o : Option Ballot) (h : List Entry) (d : Desk) → is_managed_desk h d ≡ true → is_managed_desk h (with_ballot e o d) ≡ true
cast_managed e None h d t = t
cast_managed e (Some b) h d t = at (is_desk_of e d)
  where
    at : (c : Bool) → is_managed_desk h (if c then record { enlistment = d.enlistment; manager = d.manager; ballot = Some b; acked = d.acked } else d) ≡ true
    at true = t
    at false = t

pub desks_managed : (h : List Entry) → Keeps h → each (is_managed_desk h) (coordinate h).desks ≡ true
unfolding coordinate follow
desks_managed [] k = refl
desks_managed (Got (Enl e) Up (EnlistEnlist i) ∷ h) k =
    let new : Desk = record { enlistment = e; manager = i.rm; ballot = None; acked = false } in
    let rest = desks_managed h (keeps_before (Got (Enl e) Up (EnlistEnlist i)) h k) in
    each_if (is_managed_desk h) (accepts (coordinate h)) _ (coordinate h).desks
    (each-insert (is_managed_desk h) desk_number new (coordinate h).desks
    ∙ and_both (is_managed_desk h new) (each (is_managed_desk h) (coordinate h).desks)
    (has_more (is_sent_on (Enl e) Up (names i.rm.value)) (is_enlist_by e.value i.rm.value) (named_sent e i.rm.value) h
    (got_sent (Enl e) Up (EnlistEnlist i) (names i.rm.value) h k.wires.0 (eq_self i.rm.value))) rest) rest
desks_managed (Got (Enl e) Up EnlistAck ∷ h) k = changed (is_managed_desk h) (is_managed_desk h) (with_ack e.value) (λ d t. t) (coordinate h).desks (desks_managed h (keeps_before (Got (Enl e) Up EnlistAck) h k))
desks_managed (Got (Again e) Up ReenlistAck ∷ h) k = changed (is_managed_desk h) (is_managed_desk h) (with_ack e.value) (λ d t. t) (coordinate h).desks (desks_managed h (keeps_before (Got (Again e) Up ReenlistAck) h k))
desks_managed (Got (Enl e) Up EnlistOneAborted ∷ h) k =
    let rest = desks_managed h (keeps_before (Got (Enl e) Up EnlistOneAborted) h k) in
    each_if (is_managed_desk h) (hears_one (coordinate h) e.value) (map (with_ballot e.value (Some Refused)) (coordinate h).desks) (coordinate h).desks
    (changed (is_managed_desk h) (is_managed_desk h) (with_ballot e.value (Some Refused)) (λ d t. cast_managed e.value (Some Refused) h d t) (coordinate h).desks rest) rest
desks_managed (Got (Enl e) Up m ∷ h) k =
    let rest = desks_managed h (keeps_before (Got (Enl e) Up m) h k) in
    each_if (is_managed_desk h) (is_active (coordinate h).stage) (map (with_ballot e.value (ballot_of m)) (coordinate h).desks) (coordinate h).desks
    (changed (is_managed_desk h) (is_managed_desk h) (with_ballot e.value (ballot_of m)) (λ d t. cast_managed e.value (ballot_of m) h d t) (coordinate h).desks rest) rest
desks_managed (Restarted true ∷ h) k =
    changed (is_managed_desk h) (is_managed_desk h) unacked (λ d t. t) (filter (λ d. is_prepared d.ballot) (coordinate h).desks)
    (kept_some (is_managed_desk h) (λ d. is_prepared d.ballot) (coordinate h).desks (desks_managed h (keeps_before (Restarted true) h k)))
desks_managed (Restarted false ∷ h) k = refl
desks_managed (x ∷ h) k =
    each_more (is_managed_desk h) (is_managed_desk (x ∷ h)) (λ d t. or_right (is_enlist_by d.enlistment.value d.manager.value x) (is_managed_desk h d) t) (coordinate h).desks (desks_managed h (keeps_before x h k))

-- A branch is to acknowledge on a connection of its own.
abbrev pub is_own_connection : ℕ → Option Conn → Bool
is_own_connection e (Some (Enl f)) = e == f.value
is_own_connection e (Some (Again f)) = e == f.value
is_own_connection e _ = true

abbrev pub is_own_due : Branch → Bool
is_own_due b = is_own_connection b.enlistment.value b.due

pub branches_own : (h : List Entry) → each is_own_due (branches h) ≡ true
branches_own [] = refl
branches_own (Sent (Enl e) Up (EnlistEnlist i) ∷ h) =
    let new : Branch = record { enlistment = e; manager = i.rm; enlisted = false; aborted = false; acked = false; due = None } in
    each-insert is_own_due branch_number new (filter (λ b. not (is_branch e.value b)) (branches h)) ∙ kept_some is_own_due (λ b. not (is_branch e.value b)) (branches h) (branches_own h)
branches_own (Got (Enl e) Down EnlistEnlisted ∷ h) = changed is_own_due is_own_due _ (λ b t. t) (branches h) (branches_own h)
branches_own (Got (Enl e) Down EnlistCommit ∷ h) = changed is_own_due is_own_due (branch_due e.value (Some (Enl e))) (λ b t. by b (is_branch e.value b) refl t) (branches h) (branches_own h)
  where
    by : (b : Branch) (c : Bool) → is_branch e.value b ≡ c → is_own_due b ≡ true → is_own_connection b.enlistment.value (due_in c (Some (Enl e)) b.due) ≡ true
    by b true q t = eq_swap b.enlistment.value e.value ∙ q
    by b false q t = t
branches_own (Got (Again e) Down ReenlistCommitted ∷ h) = changed is_own_due is_own_due (branch_due e.value (Some (Again e))) (λ b t. by b (is_branch e.value b) refl t) (branches h) (branches_own h)
  where
    by : (b : Branch) (c : Bool) → is_branch e.value b ≡ c → is_own_due b ≡ true → is_own_connection b.enlistment.value (due_in c (Some (Again e)) b.due) ≡ true
    by b true q t = eq_swap b.enlistment.value e.value ∙ q
    by b false q t = t
branches_own (Told (Member e) Aborted ∷ h) = changed is_own_due is_own_due _ (λ b t. t) (branches h) (branches_own h)
branches_own (Acked e ∷ h) = changed is_own_due is_own_due (branch_acked e.value) (λ b t. by b (is_branch e.value b) t) (branches h) (branches_own h)
  where
    by : (b : Branch) (c : Bool) → is_own_due b ≡ true → is_own_connection b.enlistment.value (due_in c None b.due) ≡ true
    by b true t = refl
    by b false t = t
branches_own (Reenlisted e ∷ h) = changed is_own_due is_own_due (branch_due e.value None) (λ b t. by b (is_branch e.value b) t) (branches h) (branches_own h)
  where
    by : (b : Branch) (c : Bool) → is_own_due b ≡ true → is_own_connection b.enlistment.value (due_in c None b.due) ≡ true
    by b true t = refl
    by b false t = t
branches_own (x ∷ h) = branches_own h

-- so who is to acknowledge on a connection is the enlistment of it, and its own was opened
abbrev pub is_for : EnlNo → Conn → Bool
is_for f (Enl g) = f.value == g.value
is_for f (Again g) = f.value == g.value
is_for f c = false

pub due_opened : (e f : EnlNo) (c : Conn) (h : List Entry) → conn_due (observe h) e.value ≡ Some c → is_for f c ≡ true → ((f.value == e.value) && has (opens (Enl f)) h) ≡ true
unfolding observe
due_opened e f c h d s = step (find (is_branch e.value) (branches h)) refl d
  where
    own : (b : Branch) (g : Conn) → is_for f g ≡ true → is_own_connection b.enlistment.value (Some g) ≡ true → b.enlistment.value ≡ f.value
    own b (Enl g) s t = eqb-true b.enlistment.value g.value t ∙ sym (eqb-true f.value g.value s)
    own b (Again g) s t = eqb-true b.enlistment.value g.value t ∙ sym (eqb-true f.value g.value s)
    own b _ s t = absurd cc

    step : (o : Option Branch) → find (is_branch e.value) (branches h) ≡ o → due_conn o ≡ Some c → ((f.value == e.value) && has (opens (Enl f)) h) ≡ true
    step None q d = absurd cc
    step (Some b) q d =
        let place = found_at (is_branch e.value) (branches h) b q in
        let D : Option Conn → Type 0 = λ o. is_own_connection b.enlistment.value o ≡ true in
        let same : b.enlistment.value ≡ f.value = own b c s (subst D d (each-at is_own_due (branches h) place.0 b (branches_own h) place.1)) in
        let Q : EnlNo → Type 0 = λ g. has (opens (Enl g)) h ≡ true in
        and_both (f.value == e.value) (has (opens (Enl f)) h) (rw (sym same ∙ sym (eqb-true e.value b.enlistment.value place.2)) (eq_self e.value))
        (subst Q (same_enlistment b.enlistment f same)
        (has_more (is_enlist_by b.enlistment.value b.manager.value) (opens (Enl b.enlistment)) (enlist_opens b.enlistment b.manager.value) h
        (each-at (is_managed_branch h) (branches h) place.0 b (branches_managed h) place.1)))

pub each_inserted : (p : Desk → Bool) (x : Desk) (ds : List Desk) → p x ≡ true → each p ds ≡ true → each p (insert_by desk_number x ds) ≡ true
each_inserted p x ds a k = each-insert p desk_number x ds ∙ and_both (p x) (each p ds) a k

-- it is finished, or has a desk that said PREPARED
abbrev pub is_prepared_desk : ℕ → Desk → Bool
is_prepared_desk e d = is_desk_of e d && is_prepared d.ballot
