-- While the coordinator awaits, the one that it let decide still decides there: so it saw no end of that one's connection, and got no answer of it.
use Rattle.std.proofs.Common.{◌≡◌, ℕ, ◌==◌, Bool, true, false, ◌&&◌, ◌||◌, List, [], ◌∷◌, Option, Some, None, refl, ◌∙◌, ap, subst, sym}
use Rattle.std.specs.Prelude.{not, map, if◌then◌else◌}
use Rattle.std.proofs.lemmas.Bool.{eqb-true, false_from_ne_true, or_left, true_from_ne_false}
use Rattle.dtx_values.specs.declared.entry.Entry.{Entry}
use Rattle.dtx_values.specs.declared.entry.Entry.TheVariants.{Sent, Got, Down as End, Logged, Freed, Restarted}
use Rattle.dtx_values.specs.declared.message.Conn.{Conn}
use Rattle.dtx_values.specs.declared.message.Conn.TheVariants.{Begin, Voter, Enl, Again}
use Rattle.dtx_values.specs.declared.message.Dir.TheVariants.{Up, Down}
use Rattle.dtx_values.specs.declared.message.Message.{Message}
use Rattle.dtx_values.specs.declared.message.Message.TheVariants.{BeginBegin, BeginCommitOne, EnlistAck, EnlistEnlist, EnlistOneAborted, EnlistOneCommitted, EnlistOneInDoubt, EnlistSingle, ReenlistAck}
use Rattle.dtx_values.specs.declared.number.EnlNo.{EnlNo}
use Rattle.dtx_values.specs.Lines.{has_line}
use Rattle.dtx_model.specs.declared.desk.Ballot.{Ballot}
use Rattle.dtx_model.specs.declared.desk.Ballot.TheVariants.{Refused}
use Rattle.dtx_model.specs.declared.desk.Desk.{Desk}
use Rattle.dtx_model.specs.declared.desk.Stage.{Stage}
use Rattle.dtx_model.specs.declared.desk.Stage.TheVariants.{Aborted, Answered, Given}
use Rattle.dtx_model.specs.Words.{ever, has}
use Rattle.dtx_model.specs.Entries.{is_one_got, is_single_sent, is_yes_got}
use Rattle.dtx_model.specs.Learned.{coordinator_aborted}
use Rattle.dtx_model.specs.Wires.{MayCross}
use Rattle.dtx_model.specs.Outcome.{is_deciding, is_lost_single, single_doubt}
use Rattle.dtx_model.specs.Coordinated.{Coordinated, abort_if, aborts, accepts, ballot_of, begin_if, behind_restart, coordinate, decides, desk_number, desks_after, ended_stage, follow, has_desk, hears_one, is_active, is_desk_of, is_given, is_one, is_sole, is_undecided, sole_if, stage_after, stage_if, with_ack, with_ballot}
use Rattle.dtx_model.proofs.Bools.{and_both, and_left, and_right, not_both, or_case, or_false, or_right}
use Rattle.history_table.proofs.Keeping.{Keeps, keeps_before, newest}
use Rattle.history_table.proofs.Lists.{has-insert}
use Rattle.history_table.proofs.CoreKnown.{has_made, unanswered_if_unsent}
use Rattle.history_table.proofs.Sendings.{got_line}
use Rattle.history_table.proofs.Table.{is_one_phase_got}
use Rattle.settled_histories.proofs.Awaits.{awaits, awaits_upheld, restart_is_left, upheld_before}
use Rattle.settled_histories.proofs.BeforeRows.{row_of}

-- A desk keeps its name, and stays until a restart.
pub named_ballot : (n e : ℕ) (b : Ballot) (d : Desk) → is_desk_of n d ≡ true → is_desk_of n (with_ballot e (Some b) d) ≡ true
named_ballot n e b d k = at (is_desk_of e d)
  where
    at : (c : Bool) → is_desk_of n (if c then record { enlistment = d.enlistment; manager = d.manager; ballot = Some b; acked = d.acked } else d) ≡ true
    at true = k
    at false = k

balloted : (n e : ℕ) (ds : List Desk) (m : Message) → has (is_desk_of n) ds ≡ true → has (is_desk_of n) (map (with_ballot e (ballot_of m)) ds) ≡ true
balloted n e ds m k = has_made (is_desk_of n) (is_desk_of n) (with_ballot e (ballot_of m)) (λ d q. one d (ballot_of m) q) ds k
  where
    one : (d : Desk) (o : Option Ballot) → is_desk_of n d ≡ true → is_desk_of n (with_ballot e o d) ≡ true
    one d (Some b) q = named_ballot n e b d q
    one d None q = q

either_list : {A : Type 0} (p : A → Bool) (b : Bool) (xs ys : List A) → has p xs ≡ true → has p ys ≡ true → has p (if b then xs else ys) ≡ true
either_list p true xs ys a k = a
either_list p false xs ys a k = k

pub desk_stays : (n : ℕ) (k : Coordinated) (x : Entry) → awaits (stage_after k x) ≡ true → has_desk k n ≡ true → has (is_desk_of n) (desks_after k x) ≡ true
desk_stays n k (Got (Enl e) Up (EnlistEnlist i)) u d =
    either_list (is_desk_of n) (accepts k) _ k.desks (has-insert (is_desk_of n) desk_number _ k.desks ∙ or_right (n == e.value) (has (is_desk_of n) k.desks) d) d
desk_stays n k (Got (Enl e) Up EnlistAck) u d = has_made (is_desk_of n) (is_desk_of n) (with_ack e.value) (λ d q. q) k.desks d
desk_stays n k (Got (Again e) Up ReenlistAck) u d = has_made (is_desk_of n) (is_desk_of n) (with_ack e.value) (λ d q. q) k.desks d
desk_stays n k (Got (Enl e) Up EnlistOneAborted) u d =
    either_list (is_desk_of n) (hears_one k e.value) _ k.desks (has_made (is_desk_of n) (is_desk_of n) (with_ballot e.value (Some Refused)) (λ d q. named_ballot n e.value Refused d q) k.desks d) d
desk_stays n k (Got (Enl e) Up m) u d = either_list (is_desk_of n) (is_active k.stage) _ k.desks (balloted n e.value k.desks m d) d
desk_stays n k (Restarted found) u d = absurd (not_both (awaits (behind_restart found k.stage)) u (restart_is_left found k.stage))
desk_stays n k x u d = d

-- What is given stays so, while it awaits.
given_begin : (s : Stage) → is_given s ≡ true → is_given (begin_if s) ≡ true
given_begin Given g = refl
given_begin _ g = absurd cc

given_sole : (c one : Bool) (s : Stage) → is_given s ≡ true → is_given (sole_if (is_active s && c) one s) ≡ true
given_sole c one Given g = refl
given_sole c one _ g = absurd cc

given_single : (s : Stage) → is_given s ≡ true → is_given (stage_if (is_sole s) Given s) ≡ true
given_single Given g = refl
given_single _ g = absurd cc

given_if : (b : Bool) (s n : Stage) → awaits n ≡ false → awaits (stage_if b n s) ≡ true → is_given s ≡ true → is_given (stage_if b n s) ≡ true
given_if true s n q u g = absurd (not_both (awaits n) u q)
given_if false s n q u g = g

given_abort : (b : Bool) (s : Stage) → awaits (abort_if b s) ≡ true → is_given s ≡ true → is_given (abort_if b s) ≡ true
given_abort b s u g = given_if (b && is_undecided s) s Aborted refl u g

given_end : (k : Coordinated) (c : Conn) (x : Entry) → awaits (ended_stage k c x) ≡ true → is_given k.stage ≡ true → is_given (ended_stage k c x) ≡ true
given_end k (Enl e) x u g = by (decides k e.value) u
  where
    by : (b : Bool) → awaits (if b then Answered else abort_if (aborts k x) k.stage) ≡ true → is_given (if b then Answered else abort_if (aborts k x) k.stage) ≡ true
    by true u = absurd cc
    by false u = given_abort (aborts k x) k.stage u g
given_end k Begin x u g = given_abort (aborts k x) k.stage u g
given_end k Voter x u g = given_abort (aborts k x) k.stage u g
given_end k (Again e) x u g = given_abort (aborts k x) k.stage u g

given_got : (k : Coordinated) (c : Conn) (m : Message) → awaits (stage_after k (Got c Up m)) ≡ true → is_given k.stage ≡ true → is_given (stage_after k (Got c Up m)) ≡ true
given_got k Begin BeginBegin u g = given_begin k.stage g
given_got k Begin BeginCommitOne u g = given_sole (not k.commit) (is_one k.desks) k.stage g
given_got k (Enl e) EnlistOneCommitted u g = given_if (decides k e.value) k.stage Answered refl u g
given_got k (Enl e) EnlistOneInDoubt u g = given_if (decides k e.value) k.stage Answered refl u g
given_got k (Enl e) EnlistOneAborted u g = given_if (hears_one k e.value) k.stage Aborted refl u g
given_got k c m u g = by (has_line c Up m) u
  where
    by : (b : Bool) → awaits (if b then abort_if (aborts k (Got c Up m)) k.stage else ended_stage k c (Got c Up m)) ≡ true
        → is_given (if b then abort_if (aborts k (Got c Up m)) k.stage else ended_stage k c (Got c Up m)) ≡ true
    by true u = given_abort (aborts k (Got c Up m)) k.stage u g
    by false u = given_end k c (Got c Up m) u g

given_sent : (k : Coordinated) (c : Conn) (m : Message) → is_given k.stage ≡ true → is_given (stage_after k (Sent c Down m)) ≡ true
given_sent k (Enl e) EnlistSingle g = given_single k.stage g
given_sent k (Enl e) m g = g
given_sent k Begin m g = g
given_sent k Voter m g = g
given_sent k (Again e) m g = g

given_still : (k : Coordinated) (x : Entry) → awaits (stage_after k x) ≡ true → is_given k.stage ≡ true → is_given (stage_after k x) ≡ true
given_still k (Got c Up m) u g = given_got k c m u g
given_still k (Got Begin Down m) u g = g
given_still k (Got Voter Down m) u g = g
given_still k (Got (Enl e) Down m) u g = g
given_still k (Got (Again e) Down m) u g = g
given_still k (Sent c Down m) u g = given_sent k c m g
given_still k (Sent Begin Up m) u g = g
given_still k (Sent Voter Up m) u g = g
given_still k (Sent (Enl e) Up m) u g = g
given_still k (Sent (Again e) Up m) u g = g
given_still k (End c Up) u g = given_end k c (End c Up) u g
given_still k (End c Down) u g = g
given_still k Logged u g = absurd cc
given_still k Freed u g = absurd cc
given_still k (Restarted found) u g = absurd (not_both (awaits (behind_restart found k.stage)) u (restart_is_left found k.stage))
given_still k x u g = given_abort (aborts k x) k.stage u g

-- So who was let decide decides there.
let_sole : (x : Entry) (h : List Entry) (e : ℕ) → Keeps (x ∷ h) → is_single_sent e x ≡ true → (is_sole (coordinate h).stage && has_desk (coordinate h) e) ≡ true
let_sole (Sent (Enl f) Down EnlistSingle) h e k t =
    let row = row_of (Enl f) Down EnlistSingle h (newest (Sent (Enl f) Down EnlistSingle) h k) in
    subst (λ n. (is_sole (coordinate h).stage && has_desk (coordinate h) n) ≡ true) (sym (eqb-true e f.value t))
    (and_right (has is_one_phase_got h && has is_yes_got h && not (coordinator_aborted h)) (is_sole (coordinate h).stage && has_desk (coordinate h) f.value) row)
let_sole x h e k t = absurd cc

sole_given : (k : Coordinated) (x : Entry) (e : ℕ) → is_single_sent e x ≡ true → is_sole k.stage ≡ true → is_given (stage_after k x) ≡ true
sole_given k (Sent (Enl f) Down EnlistSingle) e t s = ap (λ b. is_given (stage_if b Given k.stage)) s
sole_given k x e t s = absurd cc

pub still_decides : (e : ℕ) (h : List Entry) → Keeps h → awaits (coordinate h).stage ≡ true → has (is_single_sent e) h ≡ true → decides (coordinate h) e ≡ true
unfolding coordinate follow
still_decides e [] k u t = absurd cc
still_decides e (x ∷ h) k u t =
    or_case (is_single_sent e x) (has (is_single_sent e) h)
    (λ q. let row = let_sole x h e k q in
    and_both (is_given (stage_after (coordinate h) x)) (has (is_desk_of e) (desks_after (coordinate h) x)) (sole_given (coordinate h) x e q (and_left (is_sole (coordinate h).stage) (has_desk (coordinate h) e) row))
    (desk_stays e (coordinate h) x u (and_right (is_sole (coordinate h).stage) (has_desk (coordinate h) e) row)))
    (λ q. let before = still_decides e h (keeps_before x h k) (upheld_before awaits awaits_upheld (coordinate h) x u) q in
    and_both (is_given (stage_after (coordinate h) x)) (has (is_desk_of e) (desks_after (coordinate h) x))
    (given_still (coordinate h) x u (and_left (is_given (coordinate h).stage) (has_desk (coordinate h) e) before))
    (desk_stays e (coordinate h) x u (and_right (is_given (coordinate h).stage) (has_desk (coordinate h) e) before))) t

-- It saw no end of that one's connection,
end_answers : (k : Coordinated) (e : EnlNo) (x : Entry) → decides k e.value ≡ true → awaits (ended_stage k (Enl e) x) ≡ true → ⊥
end_answers k e x d u = by (decides k e.value) d u
  where
    by : (b : Bool) → b ≡ true → awaits (if b then Answered else abort_if (aborts k x) k.stage) ≡ true → ⊥
    by true q u = absurd cc
    by false q u = absurd cc

pub unended_single : (e : EnlNo) (h : List Entry) → Keeps h → awaits (coordinate h).stage ≡ true → has (is_single_sent e.value) h ≡ true → MayCross h (End (Enl e) Up) → awaits (coordinate (End (Enl e) Up ∷ h)).stage ≡ true → ⊥
unfolding coordinate follow
unended_single e h k u t c v = end_answers (coordinate h) e (End (Enl e) Up) (still_decides e.value h k u t) v

-- so the coordinator isn't in doubt,
undoubted_here : (x : Entry) (h : List Entry) → Keeps (x ∷ h) → awaits (coordinate h).stage ≡ true → awaits (stage_after (coordinate h) x) ≡ true → is_lost_single h x ≡ false
undoubted_here (End (Enl e) Up) h k u v =
    false_from_ne_true (has (is_single_sent e.value) h && not (has (is_one_got e.value) h))
    (λ t. end_answers (coordinate h) e (End (Enl e) Up) (still_decides e.value h (keeps_before (End (Enl e) Up) h k) u (and_left (has (is_single_sent e.value) h) (not (has (is_one_got e.value) h)) t)) v)
undoubted_here (End (Enl e) Down) h k u v = refl
undoubted_here (End Begin d) h k u v = refl
undoubted_here (End Voter d) h k u v = refl
undoubted_here (End (Again e) d) h k u v = refl
undoubted_here (Got (Enl e) Up m) h k u v = let line : has_line (Enl e) Up m ≡ true = got_line (Enl e) Up m h k in ap (λ b. is_deciding h (if b then None else Some e)) line
undoubted_here (Got (Enl e) Down m) h k u v = refl
undoubted_here (Got Begin d m) h k u v = refl
undoubted_here (Got Voter d m) h k u v = refl
undoubted_here (Got (Again e) d m) h k u v = refl
undoubted_here _ h k u v = refl

pub awaits_undoubted : (h : List Entry) → Keeps h → awaits (coordinate h).stage ≡ true → single_doubt h ≡ false
unfolding single_doubt coordinate follow
awaits_undoubted [] k u = refl
awaits_undoubted (x ∷ h) k u =
    let before = upheld_before awaits awaits_upheld (coordinate h) x u in
    or_false (is_lost_single h x) (ever is_lost_single h) (undoubted_here x h k before u) (awaits_undoubted h (keeps_before x h k) before)

-- and it got no answer.
one_answers : (k : Coordinated) (x : Entry) (e : ℕ) → is_one_got e x ≡ true → decides k e ≡ true → awaits (stage_after k x) ≡ true → ⊥
one_answers k (Got (Enl f) Up EnlistOneCommitted) e t d u = decided (decides k f.value) (subst (λ n. decides k n ≡ true) (eqb-true e f.value t) d) u
  where
    decided : (b : Bool) → b ≡ true → awaits (stage_if b Answered k.stage) ≡ true → ⊥
    decided true q u = absurd cc
    decided false q u = absurd cc
one_answers k (Got (Enl f) Up EnlistOneInDoubt) e t d u = decided (decides k f.value) (subst (λ n. decides k n ≡ true) (eqb-true e f.value t) d) u
  where
    decided : (b : Bool) → b ≡ true → awaits (stage_if b Answered k.stage) ≡ true → ⊥
    decided true q u = absurd cc
    decided false q u = absurd cc
one_answers k (Got (Enl f) Up EnlistOneAborted) e t d u = decided (is_undecided k.stage) (decides k f.value) (subst (λ n. decides k n ≡ true) (eqb-true e f.value t) d) u
  where
    decided : (a b : Bool) → b ≡ true → awaits (stage_if (a || b) Aborted k.stage) ≡ true → ⊥
    decided true b q u = absurd cc
    decided false true q u = absurd cc
    decided false false q u = absurd cc
one_answers k x e t d u = absurd cc

pub got_single : (e : ℕ) (x : Entry) (h : List Entry) → Keeps (x ∷ h) → is_one_got e x ≡ true → has (is_single_sent e) h ≡ true
got_single e (Got c d m) h k t =
    let past = keeps_before (Got c d m) h k in
    true_from_ne_false (has (is_single_sent e) h)
    (λ n. not_both (has (is_one_got e) (Got c d m ∷ h)) (or_left (is_one_got e (Got c d m)) (has (is_one_got e) h) t) (unanswered_if_unsent e (Got c d m ∷ h) k n))
got_single e x h k t = absurd cc

pub unanswered_there : (e : ℕ) (h : List Entry) → Keeps h → awaits (coordinate h).stage ≡ true → has (is_one_got e) h ≡ false
unfolding coordinate follow
unanswered_there e [] k u = refl
unanswered_there e (x ∷ h) k u =
    let past = keeps_before x h k in
    let before = upheld_before awaits awaits_upheld (coordinate h) x u in
    or_false (is_one_got e x) (has (is_one_got e) h)
    (false_from_ne_true (is_one_got e x) (λ t. one_answers (coordinate h) x e t (still_decides e h past before (got_single e x h k t)) u)) (unanswered_there e h past before)
