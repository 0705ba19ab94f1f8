-- A replay of a script that promotes a transaction, step by step, so that the law of a replay speaks of promoted ones too. It stands oldest first.
use Rattle.std.proofs.Common.{◌≡◌, ◌==◌, true, List, [], ◌∷◌, ◌++◌, refl, arith, lit≤}
use Rattle.dtx_values.specs.declared.entry.Answer.TheVariants.{Fine, Did, Id, Wait}
use Rattle.dtx_values.specs.declared.entry.Entry.{Entry}
use Rattle.dtx_values.specs.declared.entry.Entry.TheVariants.{Answered, Began, Called, Got, Promoted, Promoting, Sent}
use Rattle.dtx_values.specs.declared.message.Conn.TheVariants.{Begin, Voter}
use Rattle.dtx_values.specs.declared.message.Dir.TheVariants.{Up, Down}
use Rattle.dtx_values.specs.declared.message.Message.TheVariants.{BeginBegin, BeginBegun, VoterCreated, VoterVoter}
use Rattle.dtx_values.specs.declared.number.TxNo.{TxNo}
use Rattle.dtx_values.specs.declared.script.Body.TheVariants.{Begin as BeginLine, Marshal, Do}
use Rattle.dtx_values.specs.declared.script.Line.{Line}
use Rattle.dtx_values.specs.declared.words.Cause.TheVariants.{Marshal as MarshalCause}
use Rattle.dtx_values.specs.declared.words.Timeout.TheVariants.{Milliseconds}
use Rattle.dtx_values.specs.Owners.{owner_of}
use Rattle.dtx_model.specs.Words.{past_of}
use Rattle.dtx_model.specs.Observed.{observe, track}
use Rattle.dtx_model.specs.Coordinated.{coordinate, core_got, follow, may_free, may_log}
use Rattle.dtx_model.specs.Acts.{act_entries}
use Rattle.dtx_model.specs.Answers.{local_answer}
use Rattle.dtx_model.specs.Arrivals.{local_got}
use Rattle.dtx_model.specs.Replies.{all_due}
use Rattle.dtx_model.specs.World.{answer_at}
use Rattle.dtx_model.specs.Steps.{Delivers, Delivery, block_at, local_pending, pending}
use Rattle.dtx_model.specs.Caused.{Caused, has_object, Settled}
use Rattle.dtx_model.specs.Traces.{history}
use Rattle.dtx_model.specs.Replay.{HasDoneAt, IsReplayed, LinesRan, RoundsRan, StepsRan}
use Rattle.script_histories.specs.LogQuiet.{is_log_quiet}
use Rattle.script_histories.proofs.ReplayExample.{at_t1, none_passed, planned_at_t1}
use Rattle.script_histories.proofs.Replays.{replayed_caused}
use Rattle.dtx_model.proofs.Cast.{a1, t1}

-- the lines `a1 begin t1 0`, `a1 marshal t1` and `a1 do t1 1 2`
abbrev pub marshalled : List Line
marshalled = record { actor = a1; body = BeginLine t1 (Milliseconds 0) } ∷ record { actor = a1; body = Marshal t1 } ∷ record { actor = a1; body = Do t1 1 2 } ∷ []

abbrev pub begun : List Entry
begun = Called 1 a1 Fine ∷ Began 600000 ∷ []

-- the marshal call waits, and a promotion begins
abbrev pub waits : List Entry
waits = begun ++ Called 2 a1 Wait ∷ Promoting MarshalCause ∷ Sent Begin Up BeginBegin ∷ []

-- the steps of the `do`: BEGIN is got, and then BEGUN
abbrev pub up : List Entry
up = waits ++ Got Begin Up BeginBegin ∷ Sent Begin Down (BeginBegun 18446744073709551617) ∷ []

abbrev pub down : List Entry
down = up ++ Got Begin Down (BeginBegun 18446744073709551617) ∷ Sent Voter Up (VoterVoter 18446744073709551617) ∷ []

-- and its call
abbrev pub did : List Entry
did = down ++ Called 3 a1 (Did 2) ∷ []

-- in the rounds VOTER is got, and then CREATED: the promotion is over, and the marshal call has its identifier
abbrev pub voter : List Entry
voter = did ++ Got Voter Up (VoterVoter 18446744073709551617) ∷ Sent Voter Down VoterCreated ∷ []

abbrev pub over : List Entry
over = voter ++ Got Voter Down VoterCreated ∷ Promoted 18446744073709551617 MarshalCause ∷ Answered 2 (Id 18446744073709551617) ∷ []

-- the lines ran so
two_steps : StepsRan marshalled t1 1 2 (at_t1 waits) (at_t1 down)
unfolding block_at observe pending local_pending all_due act_entries coordinate follow may_log may_free core_got local_got track
two_steps = (at_t1 up, (at_t1 waits, refl, Delivery Begin Up, Delivers Begin Up, refl, refl, refl, refl), Delivery Begin Down, Delivers Begin Down, refl, refl, refl, refl)

two_done : HasDoneAt marshalled t1 1 2 2 (at_t1 waits) (at_t1 down)
two_done = record { ran = two_steps; most = lit≤ tt; stopped = λ k. absurd (omega (arith, k)) }

lines_run : LinesRan marshalled (past_of marshalled) (at_t1 did)
unfolding block_at answer_at local_answer observe
lines_run = (at_t1 waits, (at_t1 begun, ([], refl, refl), refl), (2, at_t1 down, two_done, refl))

-- and the rounds took these turns
rounds : RoundsRan marshalled (at_t1 did) ((t1, Delivers Voter Down) ∷ (t1, Delivers Voter Up) ∷ []) (at_t1 over)
unfolding block_at observe pending local_pending all_due act_entries coordinate follow may_log may_free core_got local_got track owner_of
rounds = (
  at_t1 voter,
  (
    at_t1 did,
    refl,
    record { name = Delivery Voter Up; others = []; first = refl; named = refl; in_replay = refl; passed = λ v p. absurd (none_passed v.value p) },
    refl,
  ),
  record { name = Delivery Voter Down; others = []; first = refl; named = refl; in_replay = refl; passed = λ v p. absurd (none_passed v.value p) },
  refl,
)

-- it is a replay, in which t1 is promoted, and after which nothing is pending at t1
pub promoted_replayed : IsReplayed marshalled (at_t1 over)
promoted_replayed = record { by_lines = at_t1 did; lines = lines_run; turns = (t1, Delivers Voter Down) ∷ (t1, Delivers Voter Up) ∷ []; rounds = rounds }

pub promoted_settled : Settled marshalled (past_of over)
unfolding observe pending local_pending all_due act_entries coordinate follow may_log may_free
promoted_settled = refl

pub promoted_quiet : is_log_quiet (at_t1 over) ≡ true
promoted_quiet = refl

-- so each transaction is caused by the script
pub promoted_caused : (t : TxNo) → Caused marshalled 0 t.value (history t.value (at_t1 over))
promoted_caused = replayed_caused marshalled (at_t1 over) promoted_replayed (has_object marshalled 0) (λ t. planned_at_t1 marshalled over refl t (t.value == 1) refl)
