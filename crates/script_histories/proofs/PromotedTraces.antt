-- A script that promotes a transaction has one trace: that of proofs/ReplayPromoted is a history of it, in the order of a replay, and a trace that differs from it in an entry is none.
use Rattle.std.proofs.Common.{◌≡◌, ◌==◌, Bool, true, false, List, [], ◌∷◌, ◌++◌, refl, ap, sym, subst, lit≤}
use Rattle.std.proofs.lemmas.Bool.{eqb-true}
use Rattle.dtx_values.specs.Table.{how_many}
use Rattle.dtx_values.specs.Owners.{cause_of}
use Rattle.dtx_values.specs.declared.entry.Answer.TheVariants.{Did, Id}
use Rattle.dtx_values.specs.declared.entry.Entry.TheVariants.{Answered, Called, Got, Promoted, Sent}
use Rattle.dtx_values.specs.declared.message.Conn.TheVariants.{Begin, Voter}
use Rattle.dtx_values.specs.declared.message.Dir.TheVariants.{Up, Down}
use Rattle.dtx_values.specs.declared.message.Message.TheVariants.{BeginBegun, VoterCreated, VoterVoter}
use Rattle.dtx_values.specs.declared.number.TxNo.{TxNo}
use Rattle.dtx_values.specs.declared.words.Cause.TheVariants.{Marshal as MarshalCause}
use Rattle.dtx_model.specs.Words.{has, past_of}
use Rattle.dtx_model.specs.Observed.{observe}
use Rattle.dtx_model.specs.Coordinated.{coordinate, follow, may_free, may_log}
use Rattle.dtx_model.specs.Acts.{act_entries}
use Rattle.dtx_model.specs.Promotes.{promotes}
use Rattle.dtx_model.specs.Replies.{all_due}
use Rattle.dtx_model.specs.Steps.{local_pending, pending}
use Rattle.dtx_model.specs.Caused.{IsCallOf, Settled}
use Rattle.dtx_model.specs.History.{IsHistory, IsReplay, is_call_at}
use Rattle.dtx_model.specs.Traces.{Placed, history, placed}
use Rattle.dtx_model.proofs.Cast.{a1, t1}
use Rattle.dtx_model.proofs.Histories.{history-other, history-same}
use Rattle.dtx_model.proofs.Quiet.{wire_run_of}
use Rattle.script_histories.specs.LogQuiet.{is_log_sound}
use Rattle.script_histories.proofs.Determined.{history_same}
use Rattle.script_histories.proofs.ReplayExample.{at_t1}
use Rattle.script_histories.proofs.ReplayPromoted.{marshalled, over, promoted_caused, promoted_replayed, promoted_settled, up}
use Rattle.script_histories.proofs.Replays.{replayed_called, replayed_noted}

-- nothing is pending in any transaction
settled_all : (t : TxNo) (b : Bool) → (t.value == 1) ≡ b → Settled marshalled (history t.value (at_t1 over))
unfolding observe pending local_pending all_due act_entries coordinate follow may_log may_free
settled_all t true e = subst (λ h. Settled marshalled h) (sym (history-same t.value t1 [] over e)) promoted_settled
settled_all t false e = subst (λ h. Settled marshalled h) (sym (history-other t.value t1 [] over e)) refl

-- each transaction is promoted in order
promotes_one : promotes marshalled 1 (past_of over) ≡ true
unfolding promotes cause_of
promotes_one = refl

promotes_all : (t : TxNo) (b : Bool) → (t.value == 1) ≡ b → promotes marshalled t.value (history t.value (at_t1 over)) ≡ true
unfolding promotes
promotes_all t true e = subst (λ n. promotes marshalled n (history n (at_t1 over)) ≡ true) (sym (eqb-true t.value 1 e)) promotes_one
promotes_all t false e = subst (λ h. promotes marshalled t.value h ≡ true) (sym (history-other t.value t1 [] over e)) refl

-- the trace is a history of the script
promoted_history : IsHistory marshalled 0 0 (placed t1 over)
promoted_history =
    record {
      caused = promoted_caused;
      promotes = λ t. promotes_all t (t.value == 1) refl;
      wires = λ t. wire_run_of (IsCallOf marshalled t.value) t.value (history t.value (at_t1 over)) (promoted_caused t).freely;
      settled = λ t. settled_all t (t.value == 1) refl;
      contexts = replayed_noted marshalled (at_t1 over) promoted_replayed;
      called = λ p n a. ap (how_many (is_call_at p n a)) (replayed_called marshalled (at_t1 over) promoted_replayed);
      faulted = lit≤ tt;
      followed = refl;
    }

-- and in the order of a replay
promoted_replay : IsReplay marshalled 0 true (placed t1 over)
promoted_replay = record { called = replayed_called marshalled (at_t1 over) promoted_replayed; replayed = promoted_replayed; stops = λ e. refl; opens = λ e. refl }

-- so a replay of the script in which the log is sound has that trace and no other
pub no_other_promoted : (T : List Placed) → is_log_sound T ≡ true → IsHistory marshalled 0 0 T → IsReplay marshalled 0 true T → placed t1 over ≡ T
no_other_promoted T l h r = history_same marshalled (placed t1 over) T 0 true promoted_history promoted_replay h r refl l

-- the entry says that a `do` did one step
abbrev says_one : Placed → Bool
says_one (p, Called n a (Did m)) = m == 1
says_one _ = false

-- the `do` does one step where it is to do two, and the other steps come in the rounds
abbrev pub one_step_less : List Placed
one_step_less =
    placed t1
    (up ++ Called 3 a1 (Did 1) ∷ Got Begin Down (BeginBegun 18446744073709551617) ∷ Sent Voter Up (VoterVoter 18446744073709551617) ∷ Got Voter Up (VoterVoter 18446744073709551617)
    ∷ Sent Voter Down VoterCreated ∷ Got Voter Down VoterCreated ∷ Promoted 18446744073709551617 MarshalCause ∷ Answered 2 (Id 18446744073709551617) ∷ [])

pub one_step_less_is_none : IsHistory marshalled 0 0 one_step_less → IsReplay marshalled 0 true one_step_less → ⊥
one_step_less_is_none h r = let same : false ≡ true = ap (has says_one) (no_other_promoted one_step_less refl h r) in cc
