-- A settled world of own calls in which the coordinator didn't stop, with a run that made it. Where a promotion began in it, the commit was asked for, and it waits for nothing, it is at rest.
use Rattle.std.proofs.Common.{◌≡◌, ℕ, true, false, List, []}
use Rattle.dtx_values.specs.declared.call.Call.{Call}
use Rattle.dtx_values.specs.declared.message.Conn.TheVariants.{Begin}
use Rattle.dtx_values.specs.declared.message.Dir.TheVariants.{Up}
use Rattle.dtx_values.specs.declared.number.ActorNo.{ActorNo}
use Rattle.dtx_values.specs.declared.number.EnlNo.{EnlNo}
use Rattle.dtx_values.specs.Clones.{is_open_block}
use Rattle.std.proofs.lemmas.Bool.{false_from_ne_true}
use Rattle.dtx_model.specs.Words.{always, has}
use Rattle.dtx_model.specs.Entries.{is_commit, is_decision, is_lost, is_owner_answer, is_promoted, is_vote}
use Rattle.dtx_model.specs.Observed.{clone_rows}
use Rattle.dtx_model.specs.Promotes.{is_promoting}
use Rattle.dtx_model.specs.Tied.{is_stop}
use Rattle.dtx_model.specs.Plans.{plan_of}
use Rattle.dtx_model.specs.Steps.{Step, pending}
use Rattle.dtx_model.specs.World.{World}
use Rattle.dtx_model.specs.Caused.{AreMadeOnce, Ran}
use Rattle.dtx_model.proofs.Bools.{not_both}
use Rattle.history_table.proofs.Makers.{all_unplaced, ran_made}
use Rattle.history_table.proofs.Undecided.{Stands}
use Rattle.history_table.proofs.Steady.{run_steady}
use Rattle.history_table.proofs.Messages.{COMMIT}
use Rattle.history_table.proofs.Crossed.{is_sent_on}
use Rattle.settled_histories.proofs.Wired.{IsWired}
use Rattle.settled_histories.proofs.LostVoters.{ran_voters}
use Rattle.settled_histories.proofs.Owed.{AreHeeded, IsUnowed, all_answered, all_owned, all_voted, commit_requested, heeded_promised, promotion_replied}
use Rattle.settled_histories.proofs.Joined.{IsJoined}
use Rattle.settled_histories.proofs.Fine.{IsFine}
use Rattle.settled_histories.proofs.Rest.{IsAtRest, IsQuiet, IsUnmoved, is_once_committed}
use Rattle.settled_histories.proofs.Idle.{IsIdle, ends_seen, idle, none_on_the_way}
use Rattle.settled_histories.proofs.BeforeRows.{kept_begun, kept_ordered, kept_sound}
use Rattle.settled_histories.proofs.Requests.{once_got, ran_requests}
use Rattle.settled_histories.proofs.AllCome.{ran_stood}
use Rattle.settled_histories.proofs.Heard.{ran_heard}
use Rattle.settled_histories.proofs.Foregoing.{commit_promoted, vote_cast, vote_stood}
use Rattle.settled_histories.proofs.OnceMade.{ran_once}
use Rattle.settled_histories.proofs.Meeting.{ran_paid}
use Rattle.settled_histories.proofs.ByTable.{kept_committed, ruled_later}
use Rattle.settled_histories.proofs.OpenedRows.{kept_opened}
use Rattle.settled_histories.proofs.UnstoppedTies.{unstopped_tied}
use Rattle.settled_histories.proofs.Ending.{ran_goes}
use Rattle.settled_histories.proofs.Announced.{IsUnstopped, ran_announces}
use Rattle.settled_histories.proofs.UndecidedFine.{IsSettling, none_answered, undecided_fine, undecided_joined}
use Rattle.settled_histories.proofs.Prepared.{ran_prepares}
use Rattle.script_histories.proofs.WaitingRuns.{ran_waits}
use Rattle.script_histories.proofs.ClosedTables.{sealed_zeros}
use Rattle.outcome_law.proofs.Tabled.{run_rows}
use Rattle.outcome_law.proofs.ClosedRows.{kept_shut}
use Rattle.outcome_law.proofs.Told.{all_lasting, lost_cast, none_owned, unowed_of}

-- What is so in a settled world in which the coordinator didn't stop, of a run over calls that make each name once: it keeps the tables; nothing bad came, and what was lost had carried what it was
-- to carry, and no reply is owed, unless something is decided; and nothing is on the way or pending.
pub record IsSettledRun (G : ℕ → ActorNo → Call → Type 0) (t : ℕ) (w : World) : Type 0 where
  pub steps : List Step
  pub ran : Ran G t steps w
  pub made : AreMadeOnce G
  pub stands : Stands w.past
  pub quiet : IsQuiet w.past
  pub fine : has is_decision w.past ≡ false → IsFine w.past
  pub joined : has is_decision w.past ≡ false → IsJoined w.past
  pub pended : IsIdle w.calls w.past
  pub unowed : has is_decision w.past ≡ false → IsUnowed (plan_of w.calls) w.past
  pub committed : always is_once_committed w.past ≡ true
  pub unanswered : has is_decision w.past ≡ false → has is_owner_answer w.past ≡ false
  pub spared : has is_decision w.past ≡ false → (e : EnlNo) → has (is_lost e.value) w.past ≡ true → has (is_vote e.value) w.past ≡ true

-- a run that made a settled world, in which the coordinator didn't stop
pub settled_run : (G : ℕ → ActorNo → Call → Type 0) (t : ℕ) (steps : List Step) (w : World) → AreMadeOnce G → Ran G t steps w → has is_stop w.past ≡ false → pending w ≡ [] → IsSettledRun G t w
settled_run G t steps w once ran running settled =
    let h = w.past in
    let tie = unstopped_tied G t h (w.calls, (steps, ran)) running in
    let stands = (run_steady G t steps w once ran tie).stands in
    let keeps = stands.keeps in
    let more = run_rows G t steps w ran keeps in
    let wired : IsWired h = record { opened = kept_opened h keeps; unstopped = running; run = keeps.wires } in
    let stopless : IsUnstopped h = record { keeps = keeps; unstopped = running } in
    let requests = ran_requests G t steps w once ran keeps in
    let pays = ran_paid G t steps w ran
    (record {
      run = keeps.wires;
      later = ruled_later h keeps.rules;
      sound = kept_sound h keeps;
      committed = kept_committed h keeps;
      once = more.placed;
    }) in
    let i = idle w.calls h settled in
    let quiet : IsQuiet h = record { paid = pays.paid; free = pays.free; empty = none_on_the_way h wired i.undelivered } in
    let settling : IsSettling h =
    record {
      stands = stands;
      wired = wired;
      caused = more.caused;
      ordered = kept_ordered h keeps;
      quiet = quiet;
      going = ran_goes G t steps w once ran tie;
      announced = ran_announces G t steps w ran stopless;
      requests = requests;
      stood = ran_stood G t steps w ran keeps;
      heard = ran_heard G t steps w ran;
      ended = λ c p l d. ends_seen c h wired i.undelivered p l d;
    } in
    let unanswered : has is_decision h ≡ false → has is_owner_answer h ≡ false = λ d. none_owned h (none_answered h settling d (undecided_joined h settling d)) in
    let voters = ran_voters G t steps w once ran stopless in
    let spared : has is_decision h ≡ false → (e : EnlNo) → has (is_lost e.value) h ≡ true → has (is_vote e.value) h ≡ true = λ d. lost_cast h more (undecided_joined h settling d) requests voters (unanswered d) d in
    record {
      steps = steps;
      ran = ran;
      made = once;
      stands = stands;
      quiet = quiet;
      fine = undecided_fine h settling;
      joined = undecided_joined h settling;
      pended = i;
      unowed = λ d. unowed_of (plan_of w.calls) h more (ran_once G t steps w once ran) (undecided_fine h settling d) (undecided_joined h settling d) (spared d) requests i.unanswered;
      committed = once_got h keeps.wires requests.once;
      unanswered = unanswered;
      spared = spared;
    }

-- where a promotion began in it, and the plans have each reply that is due, it can't go on
unmoved : (G : ℕ → ActorNo → Call → Type 0) (t : ℕ) (w : World) → IsSettledRun G t w → has is_promoting w.past ≡ true → AreHeeded (plan_of w.calls) w.past → IsUnmoved w.calls w.past
unmoved G t w r began all =
    let h = w.past in
    let keeps = r.stands.keeps in
    record {
      fine = r.fine;
      joined = r.joined;
      later = ruled_later h keeps.rules;
      sound = kept_sound h keeps;
      ordered = kept_ordered h keeps;
      stood = λ e k. vote_stood e h keeps (vote_cast e h keeps k);
      paying = r.quiet.paid;
      free = r.quiet.free;
      waits = λ p. ran_waits G t r.steps w r.ran p;
      unplaced = all_unplaced G w.calls h r.made (ran_made G t r.steps w r.ran);
      empty = r.quiet.empty;
      act = r.pended.act;
      replied =
          λ d n. promotion_replied (plan_of w.calls) h (r.unowed d) (heeded_promised (plan_of w.calls) h all) d
          (false_from_ne_true (has (is_sent_on Begin Up COMMIT) h) (λ q. not_both (has is_promoted h) (commit_promoted h (kept_sound h keeps) q) n));
      started = began;
    }

-- where the commit was asked for too, and no blocking clone is open, it is at rest
pub at_rest : (G : ℕ → ActorNo → Call → Type 0) (t : ℕ) (w : World) → IsSettledRun G t w → has is_promoting w.past ≡ true → has is_commit w.past ≡ true
    → has is_open_block (clone_rows w.past) ≡ false → AreHeeded (plan_of w.calls) w.past → IsAtRest w.calls w.past
at_rest G t w r began asked closed all =
    let h = w.past in
    let p = plan_of w.calls in
    let keeps = r.stands.keeps in
    record {
      unmoved = unmoved G t w r began all;
      begun = kept_begun h keeps;
      zeros = sealed_zeros h (kept_shut h keeps);
      closed = closed;
      once = r.committed;
      prepares =
          λ d n. ran_prepares G t r.steps w r.ran
          (record { fine = r.fine d; sound = kept_sound h keeps; ordered = kept_ordered h keeps; begun = kept_begun h keeps; once = r.committed; undecided = (r.joined d).undecided });
      lasting = all_lasting G w.calls h r.made (ran_made G t r.steps w r.ran) keeps.wires;
      append = r.pended.append;
      answered = λ d. all_answered p h (r.unowed d) all d;
      voted = λ d l e k. all_voted p h (r.unowed d) all d l e.value k;
      requested = λ d. commit_requested p h (r.unowed d) all d;
      owned = λ d e k. all_owned p h keeps (r.unowed d) all began d e k;
      unanswered = r.unanswered;
      spared = r.spared;
      asked = asked;
    }
