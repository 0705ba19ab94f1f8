-- What the coordinator knows of itself, seen from the entries alone: which connections, whether there is a record, whether it stands stopped, and what COMMIT, YES and the votes
-- of its desks come from. None of this needs that the history keeps the table.
use Rattle.std.proofs.Common.{◌≡◌, ap, ℕ, ◌==◌, Bool, true, false, ◌&&◌, ◌||◌, List, [], ◌∷◌, Option, Some, None, refl, sym, subst, ◌∙◌}
use Rattle.std.specs.Prelude.{not, filter, map, is_some, if◌then◌else◌}
use Rattle.std.proofs.lemmas.Bool.{eqb-true, false_from_ne_true, or_left}
use Rattle.dtx_values.specs.declared.entry.Entry.{Entry}
use Rattle.dtx_values.specs.declared.entry.Entry.TheVariants.{Down as End, Freed, Got, Logged, Restarted, Sent, Stopped}
use Rattle.dtx_values.specs.declared.message.Conn.{Conn}
use Rattle.dtx_values.specs.declared.message.Conn.TheVariants.{Begin, Voter, Enl, Again}
use Rattle.dtx_values.specs.declared.message.Dir.TheVariants.{Down, Up}
use Rattle.dtx_values.specs.declared.message.Message.{Message}
use Rattle.dtx_values.specs.declared.message.Message.TheVariants.{BeginBegin, BeginCommitOne, EnlistAck, EnlistEnlist, EnlistNo, EnlistOneAborted, EnlistOneCommitted, EnlistOneInDoubt, EnlistPrepared, EnlistReadonly, EnlistSingle, ReenlistAck}
use Rattle.dtx_values.specs.declared.number.EnlNo.{EnlNo}
use Rattle.dtx_values.specs.Ends.{order_of, same_connection}
use Rattle.dtx_values.specs.Lines.{has_line, is_opening}
use Rattle.dtx_values.specs.Table.{insert_by}
use Rattle.dtx_model.specs.declared.desk.Ballot.{Ballot}
use Rattle.dtx_model.specs.declared.desk.Ballot.TheVariants.{Refused}
use Rattle.dtx_model.specs.declared.desk.Desk.{Desk}
use Rattle.dtx_model.specs.declared.desk.Stage.{Stage}
use Rattle.dtx_model.specs.declared.desk.Stage.TheVariants.{Idle, Active, Sole, Given, Answered as AnsweredStage, Aborted as AbortedStage, Recorded, Over, Unknown}
use Rattle.dtx_model.specs.Words.{each, has}
use Rattle.dtx_model.specs.Entries.{is_any_single_sent, is_commit_got, is_one_got, is_record, is_vote_got, is_yes_got}
use Rattle.dtx_model.specs.Tied.{has_mark, is_ready_got, is_stop}
use Rattle.dtx_model.specs.Wires.{is_stopped}
use Rattle.dtx_model.specs.Coordinated.{Coordinated, abort_if, aborts, accepts, ballot_of, begin_if, behind_restart, coordinate, decides, desk_number, ended_stage, follow, has_desk, hears_one, is_active, is_desk_of, is_given, is_going, is_one, is_prepared, is_ready, is_recorded, is_sole, is_undecided, kept_desks, sole_if, stage_after, unacked, with_ack, with_ballot, without}
use Rattle.dtx_model.proofs.Bools.{and_left, and_right, and_both, not_both, not_false, or_case, or_right}
use Rattle.history_table.proofs.Tests.{eq_swap}
use Rattle.history_table.proofs.Scans.{each_more, has_more}
use Rattle.history_table.proofs.Lists.{each-insert, has-insert}
use Rattle.history_table.proofs.Owned.{has_filter}
use Rattle.history_table.proofs.Table.{is_one_phase_got, is_opening_got}

-- The opening message of each connection that is known was got.
less_filter : {A : Type 0} (p q : A → Bool) (xs : List A) → has p (filter q xs) ≡ true → has p xs ≡ true
less_filter p q xs k = has_more (λ x. p x && q x) p (λ x a. and_left (p x) (q x) a) xs (sym (has_filter p q xs) ∙ k)

known_step : (c e : Conn) (l o g : Bool) (ks : List Conn) → (has (same_connection c) ks ≡ true → g ≡ true)
    → has (same_connection c) (if not l then without e ks else if o then insert_by order_of e (without e ks) else ks) ≡ true → ((same_connection c e && o) || g) ≡ true
known_step c e false o g ks f k = or_right (same_connection c e && o) g (f (less_filter (same_connection c) (λ d. not (same_connection e d)) ks k))
known_step c e true true g ks f k =
    or_case (same_connection c e) (has (same_connection c) (without e ks)) (λ s. or_left (same_connection c e && true) g (and_both (same_connection c e) true s refl))
    (λ t. or_right (same_connection c e && true) g (f (less_filter (same_connection c) (λ d. not (same_connection e d)) ks t)))
    (sym (has-insert (same_connection c) order_of e (without e ks)) ∙ k)
known_step c e true false g ks f k = or_right (same_connection c e && false) g (f k)

pub known_got : (c : Conn) (h : List Entry) → has (same_connection c) (coordinate h).known ≡ true → has (is_opening_got c) h ≡ true
unfolding coordinate follow
known_got c [] k = absurd cc
known_got c (Got e Up m ∷ h) k = known_step c e (has_line e Up m) (is_opening e m) (has (is_opening_got c) h) (coordinate h).known (λ t. known_got c h t) k
known_got c (End e Up ∷ h) k = known_got c h (less_filter (same_connection c) (λ d. not (same_connection e d)) (coordinate h).known k)
known_got c (Stopped ∷ h) k = absurd cc
known_got c (x ∷ h) k = or_right (is_opening_got c x) (has (is_opening_got c) h) (known_got c h k)

-- What becomes of the stage by an entry that is no mark of a record: it stays, begins, aborts, waits for the one enlistment, lets that decide, or hears of it.
abbrev pub is_marking : Entry → Bool
is_marking Logged = true
is_marking Freed = true
is_marking (Restarted b) = true
is_marking _ = false

pub record IsStep (P : Stage → Type 0) (k : Coordinated) (x : Entry) : Type 0 where
  pub stays : P k.stage
  pub begun : is_opening_got Begin x ≡ true → k.stage ≡ Idle → P Active
  pub aborted : (aborts k x && is_undecided k.stage) ≡ true → P AbortedStage
  pub alone : accepts k ≡ true → is_one k.desks ≡ true → x ≡ Got Begin Up BeginCommitOne → P Sole
  pub several : accepts k ≡ true → is_one k.desks ≡ false → x ≡ Got Begin Up BeginCommitOne → P AbortedStage
  pub lets : is_sole k.stage ≡ true → is_any_single_sent x ≡ true → P Given
  pub answers : (e : EnlNo) → decides k e.value ≡ true → P AnsweredStage
  pub refuses : (e : EnlNo) → x ≡ Got (Enl e) Up EnlistOneAborted → hears_one k e.value ≡ true → P AbortedStage

if_stage : (P : Stage → Type 0) (b : Bool) (s r : Stage) → (b ≡ true → P s) → (b ≡ false → P r) → P (if b then s else r)
if_stage P true s r f g = f refl
if_stage P false s r f g = g refl

abort_step : (P : Stage → Type 0) (k : Coordinated) (x : Entry) → IsStep P k x → P (abort_if (aborts k x) k.stage)
abort_step P k x w = if_stage P (aborts k x && is_undecided k.stage) AbortedStage k.stage w.aborted (λ q. w.stays)

ended_step : (P : Stage → Type 0) (k : Coordinated) (c : Conn) (x : Entry) → IsStep P k x → P (ended_stage k c x)
ended_step P k (Enl e) x w = if_stage P (decides k e.value) AnsweredStage (abort_if (aborts k x) k.stage) (w.answers e) (λ q. abort_step P k x w)
ended_step P k Begin x w = abort_step P k x w
ended_step P k Voter x w = abort_step P k x w
ended_step P k (Again e) x w = abort_step P k x w

begin_step : (P : Stage → Type 0) (s : Stage) → P s → (s ≡ Idle → P Active) → P (begin_if s)
begin_step P Idle p f = f refl
begin_step P _ p f = p

sole_step : (P : Stage → Type 0) (b one : Bool) (s : Stage) → P s → (b ≡ true → one ≡ true → P Sole) → (b ≡ true → one ≡ false → P AbortedStage) → P (sole_if b one s)
sole_step P true true s p f g = f refl refl
sole_step P true false s p f g = g refl refl
sole_step P false one s p f g = p

pub stage_step : (P : Stage → Type 0) (k : Coordinated) (x : Entry) → is_marking x ≡ false → IsStep P k x → P (stage_after k x)
stage_step P k (Got Begin Up BeginBegin) n w = begin_step P k.stage w.stays (w.begun refl)
stage_step P k (Got Begin Up BeginCommitOne) n w = sole_step P (accepts k) (is_one k.desks) k.stage w.stays (λ a o. w.alone a o refl) (λ a o. w.several a o refl)
stage_step P k (Sent (Enl e) Down EnlistSingle) n w = if_stage P (is_sole k.stage) Given k.stage (λ q. w.lets q refl) (λ q. w.stays)
stage_step P k (Got (Enl e) Up EnlistOneCommitted) n w = if_stage P (decides k e.value) AnsweredStage k.stage (w.answers e) (λ q. w.stays)
stage_step P k (Got (Enl e) Up EnlistOneInDoubt) n w = if_stage P (decides k e.value) AnsweredStage k.stage (w.answers e) (λ q. w.stays)
stage_step P k (Got (Enl e) Up EnlistOneAborted) n w = if_stage P (hears_one k e.value) AbortedStage k.stage (w.refuses e refl) (λ q. w.stays)
stage_step P k (Got c Up m) n w =
    if_stage P (has_line c Up m) (abort_if (aborts k (Got c Up m)) k.stage) (ended_stage k c (Got c Up m)) (λ q. abort_step P k (Got c Up m) w) (λ q. ended_step P k c (Got c Up m) w)
stage_step P k (End c Up) n w = ended_step P k c (End c Up) w
stage_step P k Logged n w = absurd cc
stage_step P k Freed n w = absurd cc
stage_step P k (Restarted b) n w = absurd cc
stage_step P k x n w = abort_step P k x w

-- a test of stages that no record, abort or restart leads to
pub record IsLive (p : Stage → Bool) : Type 0 where
  pub aborted : p AbortedStage ≡ false
  pub recorded : p Recorded ≡ false
  pub over : p Over ≡ false
  pub unknown : p Unknown ≡ false

-- what follows where the stage passes after the entry: it passed before, or it began, waits for the one enlistment, lets that decide, or heard of it
pub record IsCome (p : Stage → Bool) (k : Coordinated) (x : Entry) (C : Type 0) : Type 0 where
  pub stays : p k.stage ≡ true → C
  pub begun : p Active ≡ true → is_opening_got Begin x ≡ true → k.stage ≡ Idle → C
  pub alone : p Sole ≡ true → accepts k ≡ true → is_one k.desks ≡ true → is_one_phase_got x ≡ true → C
  pub lets : p Given ≡ true → is_sole k.stage ≡ true → is_any_single_sent x ≡ true → C
  pub answers : p AnsweredStage ≡ true → is_given k.stage ≡ true → C

none_come : {C : Type 0} (p : Stage → Bool) → IsLive p → (k : Coordinated) (x : Entry) → is_marking x ≡ false → IsCome p k x C → p (stage_after k x) ≡ true → C
none_come {C} p l k x n w =
    stage_step (λ s. p s ≡ true → C) k x n
    (record {
      stays = w.stays;
      begun = λ o q u. w.begun u o q;
      aborted = λ q u. absurd (not_both (p AbortedStage) u l.aborted);
      alone = λ a o q u. w.alone u a o (ap is_one_phase_got q);
      several = λ a o q u. absurd (not_both (p AbortedStage) u l.aborted);
      lets = λ a q u. w.lets u a q;
      answers = λ e q u. w.answers u (and_left (is_given k.stage) (has_desk k e.value) q);
      refuses = λ e r q u. absurd (not_both (p AbortedStage) u l.aborted);
    })

pub live_restart : (p : Stage → Bool) → IsLive p → (b : Bool) (s : Stage) → p (behind_restart b s) ≡ true → ⊥
live_restart p l true s t = not_both (p Recorded) t l.recorded
live_restart p l false Recorded t = not_both (p Over) t l.over
live_restart p l false Over t = not_both (p Over) t l.over
live_restart p l false _ t = not_both (p Unknown) t l.unknown

pub come : {C : Type 0} (p : Stage → Bool) → IsLive p → (k : Coordinated) (x : Entry) → IsCome p k x C → p (stage_after k x) ≡ true → C
come p l k Logged w t = absurd (not_both (p Recorded) t l.recorded)
come p l k Freed w t = absurd (not_both (p Over) t l.over)
come p l k (Restarted b) w t = absurd (live_restart p l b k.stage t)
come p l k x w t = none_come p l k x refl w t

-- a test of stages that only a record passes
pub record IsOfRecord (p : Stage → Bool) : Type 0 where
  pub idle : p Idle ≡ false
  pub active : p Active ≡ false
  pub sole : p Sole ≡ false
  pub given : p Given ≡ false
  pub answered : p AnsweredStage ≡ false
  pub aborted : p AbortedStage ≡ false

undecided_none : (p : Stage → Bool) → IsOfRecord p → (s : Stage) → is_undecided s ≡ true → p s ≡ false
undecided_none p l Idle u = l.idle
undecided_none p l Active u = l.active
undecided_none p l Sole u = l.sole
undecided_none p l _ u = absurd cc

given_none : (p : Stage → Bool) → IsOfRecord p → (s : Stage) → is_given s ≡ true → p s ≡ false
given_none p l Given u = l.given
given_none p l _ u = absurd cc

sole_undecided : (s : Stage) → is_sole s ≡ true → is_undecided s ≡ true
sole_undecided Sole u = refl
sole_undecided _ u = absurd cc

pub active_open : (s : Stage) → is_active s ≡ true → is_undecided s ≡ true
active_open Active a = refl
active_open _ a = absurd cc

pub sole_open : (s : Stage) → is_sole s ≡ true → is_undecided s ≡ true
sole_open s q = sole_undecided s q

pub record_after : (p : Stage → Bool) → IsOfRecord p → (k : Coordinated) (x : Entry) → is_marking x ≡ false → p (stage_after k x) ≡ p k.stage
record_after p l k x n =
    stage_step (λ s. p s ≡ p k.stage) k x n
    (record {
      stays = refl;
      begun = λ o q. l.active ∙ sym (ap p q ∙ l.idle);
      aborted = λ q. l.aborted ∙ sym (undecided_none p l k.stage (and_right (aborts k x) (is_undecided k.stage) q));
      alone = λ a o q. l.sole ∙ sym (undecided_none p l k.stage (active_open k.stage (and_left (is_active k.stage) (not k.commit) a)));
      several = λ a o q. l.aborted ∙ sym (undecided_none p l k.stage (active_open k.stage (and_left (is_active k.stage) (not k.commit) a)));
      lets = λ a q. l.given ∙ sym (undecided_none p l k.stage (sole_undecided k.stage a));
      answers = λ e q. l.answered ∙ sym (given_none p l k.stage (and_left (is_given k.stage) (has_desk k e.value) q));
      refuses = λ e r q. l.aborted ∙ sym (or_case (is_undecided k.stage) (decides k e.value) (undecided_none p l k.stage) (λ d. given_none p l k.stage (and_left (is_given k.stage) (has_desk k e.value) d)) q);
    })

-- It has a record where the last mark is one.
of_recorded : IsOfRecord is_recorded
of_recorded = record { idle = refl; active = refl; sole = refl; given = refl; answered = refl; aborted = refl }

pub none_recorded : (s : Stage) → is_recorded (behind_restart false s) ≡ false
none_recorded Recorded = refl
none_recorded Over = refl
none_recorded _ = refl

pub recorded_mark : (h : List Entry) → is_recorded (coordinate h).stage ≡ has_mark h
unfolding coordinate follow
recorded_mark [] = refl
recorded_mark (Logged ∷ h) = refl
recorded_mark (Freed ∷ h) = refl
recorded_mark (Restarted true ∷ h) = refl
recorded_mark (Restarted false ∷ h) = none_recorded (coordinate h).stage
recorded_mark (x ∷ h) = record_after is_recorded of_recorded (coordinate h) x refl ∙ recorded_mark h

-- Where a record stands, it is recorded or over.
abbrev pub has_recorded : Stage → Bool
has_recorded Recorded = true
has_recorded Over = true
has_recorded _ = false

pub of_record : IsOfRecord has_recorded
of_record = record { idle = refl; active = refl; sole = refl; given = refl; answered = refl; aborted = refl }

restart_stage : (b : Bool) (s : Stage) → has_recorded s ≡ true → has_recorded (behind_restart b s) ≡ true
restart_stage true s t = refl
restart_stage false Recorded t = refl
restart_stage false Over t = refl
restart_stage false _ t = absurd cc

pub record_stage : (h : List Entry) → has is_record h ≡ true → has_recorded (coordinate h).stage ≡ true
unfolding coordinate follow
record_stage [] t = absurd cc
record_stage (Logged ∷ h) t = refl
record_stage (Freed ∷ h) t = refl
record_stage (Restarted true ∷ h) t = refl
record_stage (Restarted false ∷ h) t = restart_stage false (coordinate h).stage (record_stage h t)
record_stage (x ∷ h) t = record_after has_recorded of_record (coordinate h) x refl ∙ record_stage h t

-- so while it is undecided none stands
recorded_decided : (s : Stage) → has_recorded s ≡ true → is_undecided s ≡ true → ⊥
recorded_decided s r u = not_both (has_recorded s) r (undecided_none has_recorded of_record s u)

pub open_unrecorded : (h : List Entry) → is_undecided (coordinate h).stage ≡ true → has is_record h ≡ false
open_unrecorded h u = false_from_ne_true (has is_record h) (λ t. recorded_decided (coordinate h).stage (record_stage h t) u)

-- What is decided there stays so.
pub restart_open : (b : Bool) (s : Stage) → is_undecided (behind_restart b s) ≡ true → ⊥
restart_open true s u = absurd cc
restart_open false Recorded u = absurd cc
restart_open false Over u = absurd cc
restart_open false _ u = absurd cc

idle_open : (s : Stage) → s ≡ Idle → is_undecided s ≡ true
idle_open Idle q = refl
idle_open _ q = absurd cc

none_open : (k : Coordinated) (x : Entry) → is_marking x ≡ false → is_undecided (stage_after k x) ≡ true → is_undecided k.stage ≡ true
none_open k x n =
    stage_step (λ s. is_undecided s ≡ true → is_undecided k.stage ≡ true) k x n
    (record {
      stays = λ u. u;
      begun = λ o q u. idle_open k.stage q;
      aborted = λ q u. absurd cc;
      alone = λ a o q u. active_open k.stage (and_left (is_active k.stage) (not k.commit) a);
      several = λ a o q u. absurd cc;
      lets = λ a q u. absurd cc;
      answers = λ e q u. absurd cc;
      refuses = λ e r q u. absurd cc;
    })

pub open_before : (k : Coordinated) (x : Entry) → is_undecided (stage_after k x) ≡ true → is_undecided k.stage ≡ true
open_before k Logged u = absurd cc
open_before k Freed u = absurd cc
open_before k (Restarted b) u = absurd (restart_open b k.stage u)
open_before k x u = none_open k x refl u

-- it isn't idle where BEGIN was got, and begun only where it was
begun_step : (s : Stage) → is_undecided (begin_if s) ≡ true → is_going (begin_if s) ≡ true
begun_step Idle u = refl
begun_step Active u = refl
begun_step Sole u = refl
begun_step _ u = absurd cc

none_going : (k : Coordinated) (x : Entry) → is_marking x ≡ false → is_going k.stage ≡ true → is_undecided (stage_after k x) ≡ true → is_going (stage_after k x) ≡ true
none_going k x n g =
    stage_step (λ s. is_undecided s ≡ true → is_going s ≡ true) k x n
    (record {
      stays = λ u. g;
      begun = λ o q u. refl;
      aborted = λ q u. absurd cc;
      alone = λ a o q u. refl;
      several = λ a o q u. absurd cc;
      lets = λ a q u. absurd cc;
      answers = λ e q u. absurd cc;
      refuses = λ e r q u. absurd cc;
    })

going_stays : (k : Coordinated) (x : Entry) → is_undecided (stage_after k x) ≡ true → is_going k.stage ≡ true → is_going (stage_after k x) ≡ true
going_stays k Logged u a = absurd cc
going_stays k Freed u a = absurd cc
going_stays k (Restarted b) u a = absurd (restart_open b k.stage u)
going_stays k x u a = none_going k x refl a u

begun_going : (k : Coordinated) (x : Entry) → is_opening_got Begin x ≡ true → is_undecided (stage_after k x) ≡ true → is_going (stage_after k x) ≡ true
begun_going k (Got Begin Up BeginBegin) t u = begun_step k.stage u
begun_going k (Got c Up m) t u = absurd cc
begun_going k _ t u = absurd cc

pub going_begun : (h : List Entry) → has (is_opening_got Begin) h ≡ true → is_undecided (coordinate h).stage ≡ true → is_going (coordinate h).stage ≡ true
unfolding coordinate follow
going_begun [] t u = absurd cc
going_begun (x ∷ h) t u =
    or_case (is_opening_got Begin x) (has (is_opening_got Begin) h) (λ a. begun_going (coordinate h) x a u)
    (λ a. going_stays (coordinate h) x u (going_begun h a (open_before (coordinate h) x u))) t

-- what is going is active, or waits for its one enlistment
pub going_case : {C : Type 0} (s : Stage) → is_going s ≡ true → (is_active s ≡ true → C) → (is_sole s ≡ true → C) → C
going_case Active g f k = f refl
going_case Sole g f k = k refl
going_case _ g f k = absurd cc

-- It waits for its one enlistment, lets that decide, or heard of it, only after COMMIT for a single phase.
abbrev pub is_after_one : Stage → Bool
is_after_one Sole = true
is_after_one Given = true
is_after_one AnsweredStage = true
is_after_one _ = false

pub sole_after : (s : Stage) → is_sole s ≡ true → is_after_one s ≡ true
sole_after Sole q = refl
sole_after _ q = absurd cc

pub given_after : (s : Stage) → is_given s ≡ true → is_after_one s ≡ true
given_after Given q = refl
given_after _ q = absurd cc

after_live : IsLive is_after_one
after_live = record { aborted = refl; recorded = refl; over = refl; unknown = refl }

one_new : (k : Coordinated) (x : Entry) → is_after_one (stage_after k x) ≡ true → (is_one_phase_got x || is_after_one k.stage) ≡ true
one_new k x a =
    come is_after_one after_live k x
    (record {
      stays = λ u. or_right (is_one_phase_got x) (is_after_one k.stage) u;
      begun = λ u o q. absurd cc;
      alone = λ u a o q. or_left (is_one_phase_got x) (is_after_one k.stage) q;
      lets = λ u a q. or_right (is_one_phase_got x) (is_after_one k.stage) (sole_after k.stage a);
      answers = λ u g. or_right (is_one_phase_got x) (is_after_one k.stage) (given_after k.stage g);
    }) a

pub one_if_after : (h : List Entry) → is_after_one (coordinate h).stage ≡ true → has is_one_phase_got h ≡ true
unfolding coordinate follow
one_if_after [] a = absurd cc
one_if_after (x ∷ h) a =
    or_case (is_one_phase_got x) (is_after_one (coordinate h).stage) (λ t. or_left (is_one_phase_got x) (has is_one_phase_got h) t)
    (λ t. or_right (is_one_phase_got x) (has is_one_phase_got h) (one_if_after h t)) (one_new (coordinate h) x a)

-- where BEGIN was got, and no COMMIT for a single phase, it is active
pub active_begun : (h : List Entry) → has (is_opening_got Begin) h ≡ true → has is_one_phase_got h ≡ false → is_undecided (coordinate h).stage ≡ true → is_active (coordinate h).stage ≡ true
active_begun h t n u =
    going_case (coordinate h).stage (going_begun h t u) (λ a. a) (λ s. absurd (not_both (has is_one_phase_got h) (one_if_after h (sole_after (coordinate h).stage s)) n))

active_going : (s : Stage) → is_active s ≡ true → is_going s ≡ true
active_going Active q = refl
active_going _ q = absurd cc

going_live : IsLive is_going
going_live = record { aborted = refl; recorded = refl; over = refl; unknown = refl }

going_new : (k : Coordinated) (x : Entry) → is_going (stage_after k x) ≡ true → (is_opening_got Begin x || is_going k.stage) ≡ true
going_new k x a =
    come is_going going_live k x
    (record {
      stays = λ u. or_right (is_opening_got Begin x) (is_going k.stage) u;
      begun = λ u o q. or_left (is_opening_got Begin x) (is_going k.stage) o;
      alone = λ u a o q. or_right (is_opening_got Begin x) (is_going k.stage) (active_going k.stage (and_left (is_active k.stage) (not k.commit) a));
      lets = λ u a q. absurd cc;
      answers = λ u g. absurd cc;
    }) a

pub begun_if_going : (h : List Entry) → is_going (coordinate h).stage ≡ true → has (is_opening_got Begin) h ≡ true
unfolding coordinate follow
begun_if_going [] a = absurd cc
begun_if_going (x ∷ h) a =
    or_case (is_opening_got Begin x) (is_going (coordinate h).stage) (λ t. or_left (is_opening_got Begin x) (has (is_opening_got Begin) h) t)
    (λ t. or_right (is_opening_got Begin x) (has (is_opening_got Begin) h) (begun_if_going h t)) (going_new (coordinate h) x a)

pub begun_if_active : (h : List Entry) → is_active (coordinate h).stage ≡ true → has (is_opening_got Begin) h ≡ true
begun_if_active h a = begun_if_going h (active_going (coordinate h).stage a)

-- It stands stopped where the entries say so; and where it ever stopped and doesn't stand so, it is decided.
pub stopped_same : (h : List Entry) → (coordinate h).stopped ≡ is_stopped h
unfolding coordinate follow
stopped_same [] = refl
stopped_same (Stopped ∷ h) = refl
stopped_same (Restarted b ∷ h) = refl
stopped_same (x ∷ h) = stopped_same h

pub stop_seen : (h : List Entry) → has is_stop h ≡ true → is_undecided (coordinate h).stage ≡ true → (coordinate h).stopped ≡ true
unfolding coordinate follow
stop_seen [] t u = absurd cc
stop_seen (Stopped ∷ h) t u = refl
stop_seen (Restarted b ∷ h) t u = absurd (restart_open b (coordinate h).stage u)
stop_seen (x ∷ h) t u = stop_seen h t (open_before (coordinate h) x u)

-- COMMIT and YES are noted where they were got.
pub commit_noted : (h : List Entry) → (coordinate h).commit ≡ true → has is_commit_got h ≡ true
unfolding coordinate follow
commit_noted [] t = absurd cc
commit_noted (x ∷ h) t =
    or_case (is_commit_got x && is_active (coordinate h).stage) (coordinate h).commit
    (λ a. or_left (is_commit_got x) (has is_commit_got h) (and_left (is_commit_got x) (is_active (coordinate h).stage) a))
    (λ a. or_right (is_commit_got x) (has is_commit_got h) (commit_noted h a)) t

pub yes_noted : (h : List Entry) → (coordinate h).yes ≡ true → has is_yes_got h ≡ true
unfolding coordinate follow
yes_noted [] t = absurd cc
yes_noted (x ∷ h) t =
    or_case (is_yes_got x && is_going (coordinate h).stage) (coordinate h).yes
    (λ a. or_left (is_yes_got x) (has is_yes_got h) (and_left (is_yes_got x) (is_going (coordinate h).stage) a))
    (λ a. or_right (is_yes_got x) (has is_yes_got h) (yes_noted h a)) t

-- The ballot of each desk was got.
abbrev pub is_backed : (Option Ballot → Bool) → (ℕ → Entry → Bool) → List Entry → Desk → Bool
is_backed t p h d = not (t d.ballot) || has (p d.enlistment.value) h

pub changed : {A B : Type 0} (p : A → Bool) (q : B → Bool) (f : A → B) → ((a : A) → p a ≡ true → q (f a) ≡ true) → (xs : List A) → each p xs ≡ true → each q (map f xs) ≡ true
changed p q f sub [] k = refl
changed p q f sub (x ∷ xs) k = and_both (q (f x)) (each q (map f xs)) (sub x (and_left (p x) (each p xs) k)) (changed p q f sub xs (and_right (p x) (each p xs) k))

pub kept_some : {A : Type 0} (p q : A → Bool) (xs : List A) → each p xs ≡ true → each p (filter q xs) ≡ true
kept_some p q [] k = refl
kept_some p q (x ∷ xs) k = step p (q x) x (filter q xs) (and_left (p x) (each p xs) k) (kept_some p q xs (and_right (p x) (each p xs) k))
  where
    step : {B : Type 0} (p : B → Bool) (b : Bool) (y : B) (ys : List B) → p y ≡ true → each p ys ≡ true → each p (if b then y ∷ ys else ys) ≡ true
    step p true y ys a k = and_both (p y) (each p ys) a k
    step p false y ys a k = k

pub each_if : {A : Type 0} (p : A → Bool) (b : Bool) (xs ys : List A) → each p xs ≡ true → each p ys ≡ true → each p (if b then xs else ys) ≡ true
each_if p true xs ys a k = a
each_if p false xs ys a k = k

-- a test of ballots and the entries that a ballot that passes comes from
pub record IsOfVotes (t : Option Ballot → Bool) (p : ℕ → Entry → Bool) : Type 0 where
  pub none : t None ≡ false
  pub from : (e f : EnlNo) (m : Message) → (e.value == f.value) ≡ true → t (ballot_of m) ≡ true → p e.value (Got (Enl f) Up m) ≡ true
  -- the Aborted of who was let decide counts as a refusal
  pub one : (e f : EnlNo) → (e.value == f.value) ≡ true → t (Some Refused) ≡ true → p e.value (Got (Enl f) Up EnlistOneAborted) ≡ true

balloted : (t : Option Ballot → Bool) (p : ℕ → Entry → Bool) (b : Option Ballot) (f : EnlNo) (m : Message) → ((e : EnlNo) → (e.value == f.value) ≡ true → t b ≡ true → p e.value (Got (Enl f) Up m) ≡ true)
    → (h : List Entry) (d : Desk) → is_backed t p h d ≡ true → is_backed t p (Got (Enl f) Up m ∷ h) (with_ballot f.value b d) ≡ true
balloted t p b f m from h d k = by b from
  where
    stays : is_backed t p (Got (Enl f) Up m ∷ h) d ≡ true
    stays =
        or_case (not (t d.ballot)) (has (p d.enlistment.value) h) (λ a. or_left (not (t d.ballot)) (has (p d.enlistment.value) (Got (Enl f) Up m ∷ h)) a)
        (λ a. or_right (not (t d.ballot)) (has (p d.enlistment.value) (Got (Enl f) Up m ∷ h)) (or_right (p d.enlistment.value (Got (Enl f) Up m)) (has (p d.enlistment.value) h) a)) k

    here : (b a r : Bool) → (b ≡ true → a ≡ true) → (not b || (a || r)) ≡ true
    here true a r g = or_left a r (g refl)
    here false a r g = refl

    by : (o : Option Ballot) → ((e : EnlNo) → (e.value == f.value) ≡ true → t o ≡ true → p e.value (Got (Enl f) Up m) ≡ true)
        → is_backed t p (Got (Enl f) Up m ∷ h) (with_ballot f.value o d) ≡ true
    by None g = stays
    by (Some b) g = at (is_desk_of f.value d) refl
      where
        at : (c : Bool) → is_desk_of f.value d ≡ c
            → is_backed t p (Got (Enl f) Up m ∷ h) (if c then record { enlistment = d.enlistment; manager = d.manager; ballot = Some b; acked = d.acked } else d) ≡ true
        at true q =
            here (t (Some b)) (p d.enlistment.value (Got (Enl f) Up m)) (has (p d.enlistment.value) h) (λ a. g d.enlistment (eq_swap d.enlistment.value f.value ∙ q) a)
        at false q = stays

backed_more : (t : Option Ballot → Bool) (p : ℕ → Entry → Bool) (x : Entry) (h : List Entry) (d : Desk) → is_backed t p h d ≡ true → is_backed t p (x ∷ h) d ≡ true
backed_more t p x h d k =
    or_case (not (t d.ballot)) (has (p d.enlistment.value) h) (λ a. or_left (not (t d.ballot)) (has (p d.enlistment.value) (x ∷ h)) a)
    (λ a. or_right (not (t d.ballot)) (has (p d.enlistment.value) (x ∷ h)) (or_right (p d.enlistment.value x) (has (p d.enlistment.value) h) a)) k

all_more : (t : Option Ballot → Bool) (p : ℕ → Entry → Bool) (x : Entry) (h : List Entry) (ds : List Desk) → each (is_backed t p h) ds ≡ true → each (is_backed t p (x ∷ h)) ds ≡ true
all_more t p x h ds k = each_more (is_backed t p h) (is_backed t p (x ∷ h)) (backed_more t p x h) ds k

restart_backed : (t : Option Ballot → Bool) (p : ℕ → Entry → Bool) (b : Bool) (h : List Entry) (ds : List Desk) → each (is_backed t p h) ds ≡ true → each (is_backed t p h) (kept_desks b ds) ≡ true
restart_backed t p true h ds k =
    changed (is_backed t p h) (is_backed t p h) unacked (λ d a. a) (filter (λ d. is_prepared d.ballot) ds) (kept_some (is_backed t p h) (λ d. is_prepared d.ballot) ds k)
restart_backed t p false h ds k = refl

pub desks_backed : (t : Option Ballot → Bool) (p : ℕ → Entry → Bool) → IsOfVotes t p → (h : List Entry) → each (is_backed t p h) (coordinate h).desks ≡ true
unfolding coordinate follow
desks_backed t p v [] = refl
desks_backed t p v (Got (Enl e) Up (EnlistEnlist i) ∷ h) =
    let x : Entry = Got (Enl e) Up (EnlistEnlist i) in
    let new : Desk = record { enlistment = e; manager = i.rm; ballot = None; acked = false } in
    let old = all_more t p x h (coordinate h).desks (desks_backed t p v h) in
    each_if (is_backed t p (x ∷ h)) (accepts (coordinate h)) (insert_by desk_number new (coordinate h).desks) (coordinate h).desks
    (each-insert (is_backed t p (x ∷ h)) desk_number new (coordinate h).desks
    ∙ and_both (is_backed t p (x ∷ h) new) (each (is_backed t p (x ∷ h)) (coordinate h).desks) (or_left (not (t None)) (has (p e.value) (x ∷ h)) (not_false (t None) v.none)) old) old
desks_backed t p v (Got (Enl e) Up EnlistAck ∷ h) =
    changed (is_backed t p h) (is_backed t p (Got (Enl e) Up EnlistAck ∷ h)) (with_ack e.value) (λ d a. backed_more t p (Got (Enl e) Up EnlistAck) h d a) (coordinate h).desks (desks_backed t p v h)
desks_backed t p v (Got (Again e) Up ReenlistAck ∷ h) =
    changed (is_backed t p h) (is_backed t p (Got (Again e) Up ReenlistAck ∷ h)) (with_ack e.value) (λ d a. backed_more t p (Got (Again e) Up ReenlistAck) h d a) (coordinate h).desks (desks_backed t p v h)
desks_backed t p v (Got (Enl e) Up EnlistOneAborted ∷ h) =
    let x : Entry = Got (Enl e) Up EnlistOneAborted in
    each_if (is_backed t p (x ∷ h)) (hears_one (coordinate h) e.value) (map (with_ballot e.value (Some Refused)) (coordinate h).desks) (coordinate h).desks
    (changed (is_backed t p h) (is_backed t p (x ∷ h)) (with_ballot e.value (Some Refused)) (λ d a. balloted t p (Some Refused) e EnlistOneAborted (λ f q b. v.one f e q b) h d a) (coordinate h).desks
    (desks_backed t p v h)) (all_more t p x h (coordinate h).desks (desks_backed t p v h))
desks_backed t p v (Got (Enl e) Up m ∷ h) =
    let x : Entry = Got (Enl e) Up m in
    each_if (is_backed t p (x ∷ h)) (is_active (coordinate h).stage) (map (with_ballot e.value (ballot_of m)) (coordinate h).desks) (coordinate h).desks
    (changed (is_backed t p h) (is_backed t p (x ∷ h)) (with_ballot e.value (ballot_of m)) (λ d a. balloted t p (ballot_of m) e m (λ f q b. v.from f e m q b) h d a) (coordinate h).desks (desks_backed t p v h))
    (all_more t p x h (coordinate h).desks (desks_backed t p v h))
desks_backed t p v (Restarted b ∷ h) = restart_backed t p b (Restarted b ∷ h) (coordinate h).desks (all_more t p (Restarted b) h (coordinate h).desks (desks_backed t p v h))
desks_backed t p v (x ∷ h) = all_more t p x h (coordinate h).desks (desks_backed t p v h)

-- a vote was got of it, or its answer as the one that was let decide
abbrev pub has_said : ℕ → Entry → Bool
has_said e x = is_vote_got e x || is_one_got e x

vote_from : (e f : EnlNo) (m : Message) → (e.value == f.value) ≡ true → is_some (ballot_of m) ≡ true → has_said e.value (Got (Enl f) Up m) ≡ true
vote_from e f EnlistPrepared q a = or_left (e.value == f.value) false q
vote_from e f EnlistNo q a = or_left (e.value == f.value) false q
vote_from e f EnlistReadonly q a = or_left (e.value == f.value) false q
vote_from e f _ q a = absurd cc

ready_from : (e f : EnlNo) (m : Message) → (e.value == f.value) ≡ true → is_ready (ballot_of m) ≡ true → is_ready_got e.value (Got (Enl f) Up m) ≡ true
ready_from e f EnlistPrepared q a = q
ready_from e f EnlistReadonly q a = q
ready_from e f _ q a = absurd cc

-- a desk that is ready, or has a ballot
pub desks_ready : (h : List Entry) → each (is_backed is_ready is_ready_got h) (coordinate h).desks ≡ true
desks_ready h = desks_backed is_ready is_ready_got (record { none = refl; from = ready_from; one = λ e f q a. absurd cc }) h

pub desks_voted : (h : List Entry) → each (is_backed is_some has_said h) (coordinate h).desks ≡ true
desks_voted h = desks_backed is_some has_said (record { none = refl; from = vote_from; one = λ e f q a. q }) h

-- so an enlistment whose desk passes said so
pub said_of : (t : Option Ballot → Bool) (p : ℕ → Entry → Bool) (e : ℕ) (h : List Entry) (ds : List Desk) → each (is_backed t p h) ds ≡ true → has (λ d. is_desk_of e d && t d.ballot) ds ≡ true → has (p e) h ≡ true
said_of t p e h [] a q = absurd cc
said_of t p e h (d ∷ ds) a q =
    or_case (is_desk_of e d && t d.ballot) (has (λ d. is_desk_of e d && t d.ballot) ds)
    (λ r. let P : ℕ → Type 0 = λ n. has (p n) h ≡ true in
    subst P (sym (eqb-true e d.enlistment.value (and_left (is_desk_of e d) (t d.ballot) r)))
    (backed (t d.ballot) (has (p d.enlistment.value) h) (and_left (is_backed t p h d) (each (is_backed t p h) ds) a) (and_right (is_desk_of e d) (t d.ballot) r)))
    (λ r. said_of t p e h ds (and_right (is_backed t p h d) (each (is_backed t p h) ds) a) r) q
  where
    backed : (b r : Bool) → (not b || r) ≡ true → b ≡ true → r ≡ true
    backed true r k q = k
    backed false r k q = absurd cc
