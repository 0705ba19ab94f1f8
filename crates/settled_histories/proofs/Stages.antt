-- The coordinator is active from BEGIN on, where it has decided nothing; and what the table says of what stands before an entry.
use Rattle.std.proofs.Common.{◌≡◌, Bool, true, false, ◌&&◌, ◌||◌, List, [], ◌∷◌, refl, ◌∙◌, sym, subst, ap}
use Rattle.std.specs.Prelude.{not, if◌then◌else◌}
use Rattle.std.proofs.lemmas.Bool.{false_from_ne_true}
use Rattle.dtx_values.specs.declared.entry.Entry.{Entry}
use Rattle.dtx_values.specs.declared.entry.Entry.TheVariants.{Sent, Got, Down as End, Logged, Freed, Restarted}
use Rattle.dtx_values.specs.declared.message.Conn.{Conn}
use Rattle.dtx_values.specs.declared.message.Conn.TheVariants.{Begin, Voter, Enl, Again}
use Rattle.dtx_values.specs.declared.message.Dir.TheVariants.{Up, Down}
use Rattle.dtx_values.specs.declared.message.Message.{Message}
use Rattle.dtx_values.specs.declared.message.Message.TheVariants.{BeginBegin, BeginCommit, BeginCommitOne, EnlistOneAborted, EnlistOneCommitted, EnlistOneInDoubt, EnlistSingle}
use Rattle.dtx_values.specs.Ends.{same_connection}
use Rattle.dtx_values.specs.Lines.{has_line, is_opening}
use Rattle.dtx_model.specs.declared.desk.Stage.{Stage}
use Rattle.dtx_model.specs.declared.desk.Stage.TheVariants.{Idle, Active, Sole, Given, Answered, Aborted, Recorded, Over}
use Rattle.dtx_model.specs.Words.{has, always}
use Rattle.dtx_model.specs.Entries.{is_any_single_sent, is_commit_got, is_record}
use Rattle.dtx_model.specs.Tied.{is_logged}
use Rattle.dtx_model.specs.Wires.{is_next, in_transit}
use Rattle.dtx_model.specs.Coordinated.{Coordinated, abort_if, aborts, accepts, begin_if, behind_restart, coordinate, decides, ended_stage, follow, has_desk, hears_one, is_active, is_one, is_sole, sole_if, stage_if}
use Rattle.dtx_model.proofs.Bools.{and_both, and_left, and_right, not_both, not_false, not_true, or_case, or_false, or_second, or_right}
use Rattle.history_table.proofs.Scans.{has_less, has_more}
use Rattle.history_table.proofs.Messages.{BEGIN, COMMIT, COMMIT_ONE, COMMIT_TWO}
use Rattle.settled_histories.proofs.MessageKinds.{BEGUN}
use Rattle.settled_histories.proofs.Awaits.{awaits, awaits_upheld, upheld_before, upheld_unrecorded}
use Rattle.settled_histories.proofs.Fine.{IsFine}
use Rattle.settled_histories.proofs.Rest.{is_begun, is_once_committed, is_ordered, is_sound}
use Rattle.dtx_model.proofs.Connections.{same_is}
use Rattle.settled_histories.proofs.Openings.{once_sent, opening_first}
use Rattle.settled_histories.proofs.Unblamed.{fine_before}
use Rattle.history_table.proofs.CoreKnown.{is_work}
use Rattle.history_table.proofs.Crossed.{is_sent_on, is_got_on, got_sent}
use Rattle.dtx_model.specs.AtLog.{is_restart}

-- where something that passes p stands, Q holds, if by the row it holds before each such entry, and stays
pub earlier : (row : List Entry → Entry → Bool) (p : Entry → Bool) (Q : List Entry → Bool) → ((x : Entry) (h : List Entry) → Q h ≡ true → Q (x ∷ h) ≡ true)
    → ((x : Entry) (h : List Entry) → row h x ≡ true → p x ≡ true → Q h ≡ true) → (h : List Entry) → always row h ≡ true → has p h ≡ true → Q h ≡ true
earlier row p Q stays at [] s k = absurd cc
earlier row p Q stays at (x ∷ h) s k =
    stays x h (or_case (p x) (has p h) (at x h (and_left (row h x) (always row h) s)) (earlier row p Q stays at h (and_right (row h x) (always row h) s)) k)

-- a connection on which the coordinator sent is known to it
pub sent_known : (c : Conn) (p : Message → Bool) (h : List Entry) → always is_sound h ≡ true → has (is_sent_on c Down p) h ≡ true → has (is_got_on c Up (is_opening c)) h ≡ true
sent_known c p h s k = earlier is_sound (is_sent_on c Down p) (λ h. has (is_got_on c Up (is_opening c)) h) (λ x h q. or_right (is_got_on c Up (is_opening c) x) (has (is_got_on c Up (is_opening c)) h) q) (at c p) h s k
  where
    at : (c : Conn) (p : Message → Bool) (x : Entry) (h : List Entry) → is_sound h x ≡ true → is_sent_on c Down p x ≡ true → has (is_got_on c Up (is_opening c)) h ≡ true
    at c p (Sent e Down m) h s k =
        let P : Conn → Type 0 = λ x. has (is_got_on x Up (is_opening x)) h ≡ true in
        subst P (sym (same_is c e (and_left (same_connection c e) true (and_left (same_connection c e && true) (p m) k)))) s
    at c p (Sent e Up m) h s k = absurd (never (same_connection c e) (p m) k)
      where
        never : (a b : Bool) → (a && false && b) ≡ true → ⊥
        never true b k = absurd cc
        never false b k = absurd cc
    at c p x h s k = absurd cc

-- a history in which nothing bad came and nothing is decided at the coordinator
pub record IsOpenThere (h : List Entry) : Type 0 where
  pub fine : IsFine h
  pub sound : always is_sound h ≡ true
  pub ordered : always is_ordered h ≡ true
  pub begun : always is_begun h ≡ true
  pub once : always is_once_committed h ≡ true
  pub undecided : awaits (coordinate h).stage ≡ true

pub there_before : (x : Entry) (h : List Entry) → IsOpenThere (x ∷ h) → IsOpenThere h
unfolding coordinate follow
there_before x h r = record {
  fine = fine_before x h r.fine;
  sound = and_right (is_sound h x) (always is_sound h) r.sound;
  ordered = and_right (is_ordered h x) (always is_ordered h) r.ordered;
  begun = and_right (is_begun h x) (always is_begun h) r.begun;
  once = and_right (is_once_committed h x) (always is_once_committed h) r.once;
  undecided = upheld_before awaits awaits_upheld (coordinate h) x r.undecided;
}

-- so nothing is logged
logged_recorded : (x : Entry) → is_logged x ≡ true → is_record x ≡ true
logged_recorded Logged k = refl
logged_recorded _ k = absurd cc

pub open_unlogged : (h : List Entry) → awaits (coordinate h).stage ≡ true → has is_logged h ≡ false
open_unlogged h u = has_less is_logged is_record logged_recorded h (upheld_unrecorded awaits awaits_upheld h u)

-- without a restart, a record was logged
pub record_logged : (h : List Entry) → has is_restart h ≡ false → has is_record h ≡ true → has is_logged h ≡ true
record_logged [] u k = absurd cc
record_logged (Logged ∷ h) u k = refl
record_logged (Restarted found ∷ h) u k = absurd cc
record_logged (x ∷ h) u k = or_right (is_logged x) (has is_logged h) (record_logged h (or_second (is_restart x) (has is_restart h) u) k)

-- It is active from BEGIN on, until COMMIT for a single phase is got and SINGLE is sent: b, BEGIN was got; o, that COMMIT; and s, SINGLE was sent.
abbrev pub stage_of : Bool → Bool → Bool → Stage
stage_of b true true = Given
stage_of b true false = Sole
stage_of true false s = Active
stage_of false false s = Idle

still : (b : Bool) (s t : Stage) → awaits (abort_if b s) ≡ true → s ≡ t → abort_if b s ≡ t
still true Idle t u e = absurd cc
still true Active t u e = absurd cc
still true Sole t u e = absurd cc
still true _ t u e = e
still false s t u e = e

still_decided : (b : Bool) (s t n : Stage) → awaits n ≡ false → awaits (stage_if b n s) ≡ true → s ≡ t → stage_if b n s ≡ t
still_decided true s t n q u e = absurd (not_both (awaits n) u q)
still_decided false s t n q u e = e

still_ended : (k : Coordinated) (c : Conn) (x : Entry) (t : Stage) → awaits (ended_stage k c x) ≡ true → k.stage ≡ t → ended_stage k c x ≡ t
still_ended k (Enl e) x t u q = by (decides k e.value) u
  where
    by : (b : Bool) → awaits (if b then Answered else abort_if (aborts k x) k.stage) ≡ true → (if b then Answered else abort_if (aborts k x) k.stage) ≡ t
    by true u = absurd cc
    by false u = still (aborts k x) k.stage t u q
still_ended k Begin x t u q = still (aborts k x) k.stage t u q
still_ended k Voter x t u q = still (aborts k x) k.stage t u q
still_ended k (Again e) x t u q = still (aborts k x) k.stage t u q

-- COMMIT isn't noted where it wasn't got
pub commit_unseen : (h : List Entry) → has (is_got_on Begin Up COMMIT) h ≡ false → (coordinate h).commit ≡ false
unfolding coordinate follow
commit_unseen [] k = refl
commit_unseen (Got Begin Up BeginCommit ∷ h) k = absurd cc
commit_unseen (Got Begin Up BeginCommitOne ∷ h) k = absurd cc
commit_unseen (x ∷ h) k = or_false (is_commit_got x && is_active (coordinate h).stage) (coordinate h).commit refl (commit_unseen h (or_second (is_got_on Begin Up COMMIT x) (has (is_got_on Begin Up COMMIT) h) k))

-- where no COMMIT was got, none of a name was
one_commit : (x : Entry) → is_got_on Begin Up COMMIT_ONE x ≡ true → is_got_on Begin Up COMMIT x ≡ true
one_commit (Got Begin Up BeginCommitOne) k = refl
one_commit x k = absurd cc

two_commit : (x : Entry) → is_got_on Begin Up COMMIT_TWO x ≡ true → is_got_on Begin Up COMMIT x ≡ true
two_commit (Got Begin Up BeginCommit) k = refl
two_commit x k = absurd cc

pub committed_one : (h : List Entry) → has (is_got_on Begin Up COMMIT_ONE) h ≡ true → has (is_got_on Begin Up COMMIT) h ≡ true
committed_one h k = has_more (is_got_on Begin Up COMMIT_ONE) (is_got_on Begin Up COMMIT) one_commit h k

pub committed_two : (h : List Entry) → has (is_got_on Begin Up COMMIT_TWO) h ≡ true → has (is_got_on Begin Up COMMIT) h ≡ true
committed_two h k = has_more (is_got_on Begin Up COMMIT_TWO) (is_got_on Begin Up COMMIT) two_commit h k

pub uncommitted_one : (h : List Entry) → has (is_got_on Begin Up COMMIT) h ≡ false → has (is_got_on Begin Up COMMIT_ONE) h ≡ false
uncommitted_one h n = has_less (is_got_on Begin Up COMMIT_ONE) (is_got_on Begin Up COMMIT) one_commit h n

pub uncommitted_two : (h : List Entry) → has (is_got_on Begin Up COMMIT) h ≡ false → has (is_got_on Begin Up COMMIT_TWO) h ≡ false
uncommitted_two h n = has_less (is_got_on Begin Up COMMIT_TWO) (is_got_on Begin Up COMMIT) two_commit h n

-- COMMIT is got for two phases, or for a single one, and not for both
pub either_phase : (h : List Entry) → has (is_got_on Begin Up COMMIT) h ≡ true → (has (is_got_on Begin Up COMMIT_ONE) h || has (is_got_on Begin Up COMMIT_TWO) h) ≡ true
either_phase [] k = absurd cc
either_phase (Got Begin Up BeginCommit ∷ h) k = or_right (has (is_got_on Begin Up COMMIT_ONE) h) true refl
either_phase (Got Begin Up BeginCommitOne ∷ h) k = refl
either_phase (x ∷ h) k =
    both (is_got_on Begin Up COMMIT x) (is_got_on Begin Up COMMIT_ONE x) (is_got_on Begin Up COMMIT_TWO x) (has (is_got_on Begin Up COMMIT_ONE) h) (has (is_got_on Begin Up COMMIT_TWO) h) refl
    (either_phase h (or_case (is_got_on Begin Up COMMIT x) (has (is_got_on Begin Up COMMIT) h) (λ q. absurd (not_both (is_got_on Begin Up COMMIT x) q refl)) (λ q. q) k))
  where
    both : (a b c o t : Bool) → a ≡ false → (o || t) ≡ true → ((b || o) || (c || t)) ≡ true
    both a true c o t n k = refl
    both a false c true t n k = refl
    both a false c false true n k = or_right c true refl
    both a false c false false n k = absurd cc

pub one_phase : (h : List Entry) → always is_once_committed h ≡ true → has (is_got_on Begin Up COMMIT_ONE) h ≡ true → has (is_got_on Begin Up COMMIT_TWO) h ≡ false
one_phase [] r k = absurd cc
one_phase (Got Begin Up BeginCommit ∷ h) r k =
    absurd (not_both (has (is_got_on Begin Up COMMIT) h) (committed_one h k) (not_true (has (is_got_on Begin Up COMMIT) h) (and_left (not (has (is_got_on Begin Up COMMIT) h)) (always is_once_committed h) r)))
one_phase (Got Begin Up BeginCommitOne ∷ h) r k = uncommitted_two h (not_true (has (is_got_on Begin Up COMMIT) h) (and_left (not (has (is_got_on Begin Up COMMIT) h)) (always is_once_committed h) r))
one_phase (x ∷ h) r k = one_phase h (and_right (is_once_committed h x) (always is_once_committed h) r) k

pub two_phase : (h : List Entry) → always is_once_committed h ≡ true → has (is_got_on Begin Up COMMIT_TWO) h ≡ true → has (is_got_on Begin Up COMMIT_ONE) h ≡ false
two_phase h r k = false_from_ne_true (has (is_got_on Begin Up COMMIT_ONE) h) (λ q. not_both (has (is_got_on Begin Up COMMIT_TWO) h) k (one_phase h r q))

-- BEGIN was got where anything was got on b
begin_of : (x : Entry) → is_got_on Begin Up (is_opening Begin) x ≡ true → is_got_on Begin Up BEGIN x ≡ true
begin_of (Got Begin Up BeginBegin) k = refl
begin_of x k = absurd cc

pub begin_got : (p : Message → Bool) (h : List Entry) → IsFine h → has (is_got_on Begin Up p) h ≡ true → has (is_got_on Begin Up BEGIN) h ≡ true
begin_got p h f k = has_more (is_got_on Begin Up (is_opening Begin)) (is_got_on Begin Up BEGIN) begin_of h (opening_first Begin p h f.wired refl k)

-- it is active where BEGIN was got, and COMMIT for a single phase wasn't
pub active_stage : (h : List Entry) {s : Stage} → s ≡ stage_of (has (is_got_on Begin Up BEGIN) h) (has (is_got_on Begin Up COMMIT_ONE) h) (has is_any_single_sent h) → has (is_got_on Begin Up BEGIN) h ≡ true
    → has (is_got_on Begin Up COMMIT_ONE) h ≡ false → s ≡ Active
active_stage h e b n = e ∙ ap (λ q. stage_of q (has (is_got_on Begin Up COMMIT_ONE) h) (has is_any_single_sent h)) b ∙ ap (λ q. stage_of true q (has is_any_single_sent h)) n

-- SINGLE is sent after COMMIT for a single phase
pub single_committed : (h : List Entry) → always is_ordered h ≡ true → has is_any_single_sent h ≡ true → has (is_got_on Begin Up COMMIT_ONE) h ≡ true
single_committed h o k =
    earlier is_ordered is_any_single_sent (λ h. has (is_got_on Begin Up COMMIT_ONE) h) (λ x h q. or_right (is_got_on Begin Up COMMIT_ONE x) (has (is_got_on Begin Up COMMIT_ONE) h) q) at h o k
  where
    at : (x : Entry) (h : List Entry) → is_ordered h x ≡ true → is_any_single_sent x ≡ true → has (is_got_on Begin Up COMMIT_ONE) h ≡ true
    at (Sent (Enl e) Down EnlistSingle) h s k = and_left (has (is_got_on Begin Up COMMIT_ONE) h) (is_sole (coordinate h).stage && has_desk (coordinate h) e.value) s
    at x h s k = absurd cc

-- what the stage is
pub stage_seen : (h : List Entry) → IsOpenThere h → (coordinate h).stage ≡ stage_of (has (is_got_on Begin Up BEGIN) h) (has (is_got_on Begin Up COMMIT_ONE) h) (has is_any_single_sent h)
unfolding coordinate follow
stage_seen [] r = refl
stage_seen (Got Begin Up BeginBegin ∷ h) r =
    active (coordinate h).stage (has (is_got_on Begin Up BEGIN) h) (has (is_got_on Begin Up COMMIT_ONE) h) (has is_any_single_sent h) (stage_seen h (there_before (Got Begin Up BeginBegin) h r))
  where
    active : (s : Stage) (b o g : Bool) → s ≡ stage_of b o g → begin_if s ≡ stage_of true o g
    active s b true true e = ap begin_if e
    active s b true false e = ap begin_if e
    active s true false g e = ap begin_if e
    active s false false g e = ap begin_if e
stage_seen (Got Begin Up BeginCommitOne ∷ h) r =
    let x = Got Begin Up BeginCommitOne in
    let before = there_before x h r in
    let first : has (is_got_on Begin Up COMMIT) h ≡ false = not_true (has (is_got_on Begin Up COMMIT) h) (and_left (not (has (is_got_on Begin Up COMMIT) h)) (always is_once_committed h) r.once) in
    let none = uncommitted_one h first in
    pick (coordinate h) (has is_any_single_sent h) (has (is_got_on Begin Up BEGIN) h) (active_stage h (stage_seen h before) (begin_got COMMIT (x ∷ h) r.fine refl) none) (commit_unseen h first)
    (false_from_ne_true (has is_any_single_sent h) (λ k. not_both (has (is_got_on Begin Up COMMIT_ONE) h) (single_committed h before.ordered k) none)) r.undecided
  where
    pick : (k : Coordinated) (g b : Bool) → k.stage ≡ Active → k.commit ≡ false → g ≡ false → awaits (sole_if (accepts k) (is_one k.desks) k.stage) ≡ true
        → sole_if (accepts k) (is_one k.desks) k.stage ≡ stage_of b true g
    pick k g b e m n u =
        by (accepts k) (is_one k.desks) (and_both (is_active k.stage) (not k.commit) (ap is_active e) (not_false k.commit m)) u ∙ ap (λ q. stage_of b true q) (sym n)
      where
        by : (c one : Bool) → c ≡ true → awaits (sole_if c one k.stage) ≡ true → sole_if c one k.stage ≡ Sole
        by true true q u = refl
        by true false q u = absurd cc
        by false one q u = absurd cc
stage_seen (Sent (Enl e) Down EnlistSingle ∷ h) r =
    let x = Sent (Enl e) Down EnlistSingle in
    let row = and_left (is_ordered h x) (always is_ordered h) r.ordered in
    let sole = and_left (is_sole (coordinate h).stage) (has_desk (coordinate h) e.value) (and_right (has (is_got_on Begin Up COMMIT_ONE) h) (is_sole (coordinate h).stage && has_desk (coordinate h) e.value) row) in
    let one = and_left (has (is_got_on Begin Up COMMIT_ONE) h) (is_sole (coordinate h).stage && has_desk (coordinate h) e.value) row in
    ap (λ b. stage_if b Given (coordinate h).stage) sole ∙ ap (λ o. stage_of (has (is_got_on Begin Up BEGIN) h) o true) (sym one)
stage_seen (Got (Enl e) Up EnlistOneCommitted ∷ h) r =
    still_decided (decides (coordinate h) e.value) (coordinate h).stage _ Answered refl r.undecided (stage_seen h (there_before (Got (Enl e) Up EnlistOneCommitted) h r))
stage_seen (Got (Enl e) Up EnlistOneInDoubt ∷ h) r =
    still_decided (decides (coordinate h) e.value) (coordinate h).stage _ Answered refl r.undecided (stage_seen h (there_before (Got (Enl e) Up EnlistOneInDoubt) h r))
stage_seen (Got (Enl e) Up EnlistOneAborted ∷ h) r =
    still_decided (hears_one (coordinate h) e.value) (coordinate h).stage _ Aborted refl r.undecided (stage_seen h (there_before (Got (Enl e) Up EnlistOneAborted) h r))
stage_seen (Got c Up m ∷ h) r = lined (has_line c Up m) (stage_seen h (there_before (Got c Up m) h r)) r.undecided
  where
    lined : (l : Bool) → (coordinate h).stage ≡ stage_of (has (is_got_on Begin Up BEGIN) h) (has (is_got_on Begin Up COMMIT_ONE) h) (has is_any_single_sent h)
        → awaits (if l then abort_if (aborts (coordinate h) (Got c Up m)) (coordinate h).stage else ended_stage (coordinate h) c (Got c Up m)) ≡ true
        → (if l then abort_if (aborts (coordinate h) (Got c Up m)) (coordinate h).stage else ended_stage (coordinate h) c (Got c Up m))
        ≡ stage_of (has (is_got_on Begin Up BEGIN) h) (has (is_got_on Begin Up COMMIT_ONE) h) (has is_any_single_sent h)
    lined true e u = still (aborts (coordinate h) (Got c Up m)) (coordinate h).stage _ u e
    lined false e u = still_ended (coordinate h) c (Got c Up m) _ u e
stage_seen (End c Up ∷ h) r = still_ended (coordinate h) c (End c Up) _ r.undecided (stage_seen h (there_before (End c Up) h r))
stage_seen (Logged ∷ h) r = let q : false ≡ true = r.undecided in absurd cc
stage_seen (Freed ∷ h) r = let q : false ≡ true = r.undecided in absurd cc
stage_seen (Restarted true ∷ h) r = let q : false ≡ true = r.undecided in absurd cc
stage_seen (Restarted false ∷ h) r = absurd (restarted (coordinate h).stage r.undecided)
  where
    restarted : (s : Stage) → awaits (behind_restart false s) ≡ true → ⊥
    restarted Recorded u = absurd cc
    restarted Over u = absurd cc
    restarted s u = absurd cc
stage_seen (x ∷ h) r = still (aborts (coordinate h) x) (coordinate h).stage _ r.undecided (stage_seen h (there_before x h r))

only_rest : (a b : Bool) → a ≡ false → (a || b) ≡ true → b ≡ true
only_rest true b n k = absurd cc
only_rest false b n k = k

-- COMMIT comes once
pub first_commit : (m : Message) (h : List Entry) → COMMIT m ≡ true → IsOpenThere (Got Begin Up m ∷ h) → has (is_got_on Begin Up COMMIT) h ≡ false
first_commit m h t r =
    not_true (has (is_got_on Begin Up COMMIT) h) (only_rest (not (COMMIT m)) (not (has (is_got_on Begin Up COMMIT) h)) (ap not t) (and_left (is_once_committed h (Got Begin Up m)) (always is_once_committed h) r.once))

-- it is active where COMMIT comes
pub first_active : (m : Message) (h : List Entry) → COMMIT m ≡ true → IsOpenThere (Got Begin Up m ∷ h) → (coordinate h).stage ≡ Active
first_active m h t r =
    active_stage h (stage_seen h (there_before (Got Begin Up m) h r)) (only_rest (BEGIN m) (has (is_got_on Begin Up BEGIN) h) (unbegin m t) (begin_got (λ n. true) (Got Begin Up m ∷ h) r.fine refl))
    (uncommitted_one h (first_commit m h t r))
  where
    unbegin : (m : Message) → COMMIT m ≡ true → BEGIN m ≡ false
    unbegin BeginBegin k = absurd cc
    unbegin _ k = refl

-- and accepts it; and where it is for a single phase, exactly one enlistment came
pub first_accepted : (m : Message) (h : List Entry) → COMMIT m ≡ true → IsOpenThere (Got Begin Up m ∷ h) → accepts (coordinate h) ≡ true
first_accepted m h t r =
    and_both (is_active (coordinate h).stage) (not (coordinate h).commit) (ap is_active (first_active m h t r)) (not_false (coordinate h).commit (commit_unseen h (first_commit m h t r)))

pub one_asked : (h : List Entry) → IsOpenThere (Got Begin Up BeginCommitOne ∷ h) → is_one (coordinate h).desks ≡ true
unfolding coordinate follow
one_asked h r = by (accepts (coordinate h)) (is_one (coordinate h).desks) (first_accepted BeginCommitOne h refl r) r.undecided
  where
    by : (a b : Bool) → a ≡ true → awaits (sole_if a b (coordinate h).stage) ≡ true → b ≡ true
    by true true q u = refl
    by true false q u = absurd cc
    by false b q u = absurd cc

-- BEGIN was got where it was heard of on b, or something was sent upward elsewhere
pub heard_begun : (h : List Entry) → IsFine h → always is_sound h ≡ true → has (is_got_on Begin Down BEGUN) h ≡ true → has (is_got_on Begin Up BEGIN) h ≡ true
heard_begun h f s k = has_more (is_got_on Begin Up (is_opening Begin)) (is_got_on Begin Up BEGIN) begin_of h (sent_known Begin BEGUN h s (once_sent Begin Down BEGUN h f.wired.run k))

sent_begun : (c : Conn) (p : Message → Bool) (h : List Entry) → is_work c ≡ true → always is_begun h ≡ true → has (is_sent_on c Up p) h ≡ true → has (is_got_on Begin Down BEGUN) h ≡ true
sent_begun c p [] o s k = absurd cc
sent_begun c p (Sent e Up m ∷ h) o s k =
    or_case (same_connection c e && true && p m) (has (is_sent_on c Up p) h)
    (λ q. rule c e m h o (and_left (same_connection c e) true (and_left (same_connection c e && true) (p m) q)) (and_left (is_begun h (Sent e Up m)) (always is_begun h) s))
    (λ q. sent_begun c p h o (and_right (is_begun h (Sent e Up m)) (always is_begun h) s) q) k
  where
    rule : (c e : Conn) (m : Message) (h : List Entry) → is_work c ≡ true → same_connection c e ≡ true → is_begun h (Sent e Up m) ≡ true → has (is_got_on Begin Down BEGUN) h ≡ true
    rule Voter Voter m h o q k = k
    rule (Enl e) (Enl f) m h o q k = k
    rule _ _ m h o q k = absurd cc
sent_begun c p (Sent e Down m ∷ h) o s k =
    or_case (same_connection c e && false && p m) (has (is_sent_on c Up p) h) (λ q. absurd (never (same_connection c e) (p m) q)) (λ q. sent_begun c p h o (and_right (is_begun h (Sent e Down m)) (always is_begun h) s) q) k
  where
    never : (a b : Bool) → (a && false && b) ≡ true → ⊥
    never true b k = absurd cc
    never false b k = absurd cc
sent_begun c p (x ∷ h) o s k = or_right (is_got_on Begin Down BEGUN x) (has (is_got_on Begin Down BEGUN) h) (sent_begun c p h o (and_right (is_begun h x) (always is_begun h) s) k)

-- it is active where a message comes on such a connection, and COMMIT for a single phase wasn't got
pub active_at : (c : Conn) (m : Message) (h : List Entry) → is_work c ≡ true → IsOpenThere h → is_next m (in_transit c Up h) → has (is_got_on Begin Up COMMIT_ONE) h ≡ false → (coordinate h).stage ≡ Active
active_at c m h o r n s =
    active_stage h (stage_seen h r) (heard_begun h r.fine r.sound (sent_begun c (λ m. true) h o r.begun (got_sent c Up m (λ m. true) h n refl))) s
