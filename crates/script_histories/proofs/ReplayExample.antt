-- A replay of a whole script, so that the laws speak of something; and traces that are none. Each stands oldest first.
use Rattle.std.proofs.Common.{◌≡◌, ℕ, ◌==◌, Bool, true, false, List, [], ◌∷◌, ◌++◌, Some, refl, ap, arith, lit≤, subst, sym, suc}
use Rattle.std.specs.Prelude.{nat_le, nat_lt}
use Rattle.std.proofs.lemmas.Bool.Decides.{nat_tests}
use Rattle.dtx_values.specs.declared.number.TxNo.{TxNo}
use Rattle.dtx_values.specs.declared.entry.Answer.TheVariants.{Fine, Did, OutcomeIs}
use Rattle.dtx_values.specs.declared.entry.Ask.TheVariants.{Prepare}
use Rattle.dtx_values.specs.declared.entry.Entry.{Entry}
use Rattle.dtx_values.specs.declared.entry.Entry.TheVariants.{Called, Began, Enlisted, CommitAsked, Asked, Voted, Sealed, Decided, Told}
use Rattle.dtx_values.specs.declared.entry.Party.TheVariants.{Client, Enl}
use Rattle.dtx_values.specs.declared.note.Note.TheVariants.{Prepare as PrepareNote}
use Rattle.dtx_values.specs.declared.note.Reply.TheVariants.{Vote as VoteReply}
use Rattle.dtx_values.specs.declared.script.Body.TheVariants.{Begin, Volatile, Commit, Await, Do}
use Rattle.dtx_values.specs.declared.script.EnlistOption.TheVariants.{Plain}
use Rattle.dtx_values.specs.declared.script.Line.{Line}
use Rattle.dtx_values.specs.declared.words.Class.TheVariants.{One}
use Rattle.dtx_values.specs.declared.words.Outcome.TheVariants.{Committed}
use Rattle.dtx_values.specs.declared.words.Timeout.TheVariants.{Milliseconds}
use Rattle.dtx_values.specs.declared.words.Vote.TheVariants.{Yes}
use Rattle.dtx_values.specs.Table.{how_many}
use Rattle.dtx_values.specs.Waves.{next_ask, is_over, hears}
use Rattle.dtx_values.specs.Owners.{owner_of}
use Rattle.dtx_model.specs.Words.{always, past_of, kth}
use Rattle.dtx_model.specs.Observed.{observe, track}
use Rattle.dtx_model.specs.Promotes.{promotes}
use Rattle.dtx_model.specs.Coordinated.{coordinate, follow, may_free, may_log}
use Rattle.dtx_model.specs.Acts.{act_entries}
use Rattle.dtx_model.specs.Answers.{local_answer}
use Rattle.dtx_model.specs.Half.{veto}
use Rattle.dtx_model.specs.Replies.{all_due, due_of, reply_entries}
use Rattle.dtx_model.specs.World.{answer_at}
use Rattle.dtx_model.specs.Steps.{Step, Replies, Acts, StepName, ReplyOf, LocalAct, block_at, local_pending, pending}
use Rattle.dtx_model.specs.Caused.{IsCallOf, Caused, IsNamed, Settled, has_object, is_as_planned, plans_of}
use Rattle.dtx_model.specs.Traces.{Placed, history, placed}
use Rattle.dtx_model.specs.Replay.{is_passed, HasDoneAt, HasSettled, IsReplayed, IsTurn, LinesRan, RoundsRan, StepsRan, is_in_replay, world_at, after_turn}
use Rattle.dtx_model.specs.History.{IsHistory, IsReplay, is_call_at}
use Rattle.dtx_model.proofs.Bools.{and_left, and_right}
use Rattle.dtx_model.proofs.Histories.{history-other, history-same}
use Rattle.dtx_model.proofs.Quiet.{wire_run_of}
use Rattle.script_histories.proofs.Replays.{replayed_caused, replayed_called, replayed_noted}
use Rattle.dtx_model.proofs.Cast.{a1, e1, t1}

-- the lines `a1 begin t1 0`, `a1 volatile t1 e1 none yes`, `a1 commit t1` and `a1 do t1 1 2`
abbrev pub four_lines : List Line
four_lines =
    record { actor = a1; body = Begin t1 (Milliseconds 0) } ∷ record { actor = a1; body = Volatile t1 e1 Plain (Some Yes) } ∷ record { actor = a1; body = Commit t1 }
    ∷ record { actor = a1; body = Do t1 1 2 } ∷ []

-- the script of these and `a1 await t1`
abbrev pub script : List Line
script = four_lines ++ record { actor = a1; body = Await t1 } ∷ []

-- what these entries of t1 are as a trace
abbrev pub at_t1 : List Entry → List Placed
at_t1 es = past_of (placed t1 es)

-- what the line of begin does
abbrev pub begun : List Entry
begun = Called 1 a1 Fine ∷ Began 600000 ∷ []

-- and that of volatile
abbrev pub joined : List Entry
joined = begun ++ Called 2 a1 Fine ∷ Enlisted e1 One ∷ []

-- and that of commit
abbrev pub asked : List Entry
asked = joined ++ Called 3 a1 Fine ∷ CommitAsked ∷ []

-- and the two steps of `do`
abbrev pub stepped : List Entry
stepped = asked ++ Sealed ∷ Asked e1 Prepare ∷ []

-- and its call
abbrev pub did : List Entry
did = stepped ++ Called 4 a1 (Did 2) ∷ []

-- and the steps for which `await` waits
abbrev pub told : List Entry
told = did ++ Voted e1 Yes ∷ Decided Committed ∷ Told (Enl e1) Committed ∷ Told Client Committed ∷ []

-- and its call: the history of the script
abbrev pub whole : List Entry
whole = told ++ Called 5 a1 (OutcomeIs Committed) ∷ []

-- one more step of t1's local side, the only one that was pending
pub acted : (s : List Line) (m : ℕ) (start past T : List Placed) → StepsRan s t1 1 m start past → kth (pending (world_at s t1 past)) 1 ≡ Some LocalAct → T ≡ after_turn s t1 Acts past → StepsRan s t1 1 (suc m) start T
acted s m start past T ran first e = (past, ran, LocalAct, Acts, first, refl, refl, e)

-- the steps of the `do`, in whatever script these lines stand
do_steps : (s : List Line) → StepsRan s t1 1 2 (at_t1 asked) (at_t1 stepped)
unfolding block_at observe pending local_pending all_due due_of act_entries next_ask is_over coordinate follow may_log may_free
do_steps s =
    acted s 1 (at_t1 asked) (at_t1 (asked ++ Sealed ∷ [])) (at_t1 stepped) (acted s 0 (at_t1 asked) (at_t1 asked) (at_t1 (asked ++ Sealed ∷ [])) refl refl refl) refl refl

-- the `do` did two
two_done : (s : List Line) → HasDoneAt s t1 1 2 2 (at_t1 asked) (at_t1 stepped)
two_done s = record { ran = do_steps s; most = lit≤ tt; stopped = λ k. absurd (omega (arith, k)) }

-- the four lines ran so
four_run : (s : List Line) → LinesRan s (past_of four_lines) (at_t1 did)
unfolding block_at answer_at local_answer observe
four_run s = (at_t1 asked, (at_t1 joined, (at_t1 begun, ([], refl, refl), refl), refl), (2, at_t1 stepped, two_done s, refl))

-- the volatile votes as it plans
votes : IsNamed (world_at script t1 (at_t1 did)) (ReplyOf e1) (Replies e1 (VoteReply Yes))
unfolding observe due_of
votes = (VoteReply Yes, PrepareNote, refl, refl, refl)

-- the volatile votes
vote_step : StepsRan script t1 1 1 (at_t1 did) (at_t1 (did ++ Voted e1 Yes ∷ []))
unfolding block_at reply_entries track veto observe pending local_pending all_due due_of act_entries next_ask is_over owner_of hears coordinate follow may_log may_free
vote_step = (at_t1 did, refl, ReplyOf e1, Replies e1 (VoteReply Yes), refl, votes, refl, refl)

-- the steps of the `await`
await_steps : StepsRan script t1 1 4 (at_t1 did) (at_t1 told)
unfolding block_at reply_entries track veto observe pending local_pending all_due due_of act_entries next_ask is_over owner_of hears coordinate follow may_log may_free
await_steps =
    let decided = at_t1 (did ++ Voted e1 Yes ∷ Decided Committed ∷ []) in
    let first_told = at_t1 (did ++ Voted e1 Yes ∷ Decided Committed ∷ Told (Enl e1) Committed ∷ []) in
    acted script 3 (at_t1 did) first_told (at_t1 told)
    (acted script 2 (at_t1 did) decided first_told (acted script 1 (at_t1 did) (at_t1 (did ++ Voted e1 Yes ∷ [])) decided vote_step refl refl) refl refl) refl refl

-- the `await` waited until nothing was pending
waited : HasSettled script t1 4 (at_t1 did) (at_t1 told)
unfolding observe pending local_pending all_due due_of act_entries hears coordinate follow may_log may_free
waited = record { ran = await_steps; settled = refl }

-- the lines of the script ran so
lines_run : LinesRan script (past_of script) (at_t1 whole)
unfolding block_at answer_at local_answer observe
lines_run = (at_t1 did, four_run script, (4, at_t1 told, waited, refl))

-- the trace is that of a replay of the script
pub is_replayed : IsReplayed script (at_t1 whole)
is_replayed = record { by_lines = at_t1 whole; lines = lines_run; turns = []; rounds = refl }

-- where nothing is pending at t1, nothing is in any transaction
settled_all : (t : TxNo) (b : Bool) → (t.value == 1) ≡ b → Settled script (history t.value (at_t1 whole))
unfolding observe pending local_pending all_due due_of act_entries hears coordinate follow may_log may_free
settled_all t true e = subst (λ h. Settled script h) (sym (history-same t.value t1 [] whole e)) refl
settled_all t false e = subst (λ h. Settled script h) (sym (history-other t.value t1 [] whole e)) refl

-- where each reply of t1's is as planned, and none is an object's, it is so of each transaction's
pub planned_at_t1 : (s : List Line) (es : List Entry) → always (is_as_planned (plans_of s) (has_object s 0)) (past_of es) ≡ true → (t : TxNo) (b : Bool) → (t.value == 1) ≡ b
    → always (is_as_planned (plans_of s) (has_object s 0)) (history t.value (at_t1 es)) ≡ true
planned_at_t1 s es k t true e = subst (λ h. always (is_as_planned (plans_of s) (has_object s 0)) h ≡ true) (sym (history-same t.value t1 [] es e)) k
planned_at_t1 s es k t false e = subst (λ h. always (is_as_planned (plans_of s) (has_object s 0)) h ≡ true) (sym (history-other t.value t1 [] es e)) refl

-- nothing is promoted in any transaction
promoted_none : (t : TxNo) (b : Bool) → (t.value == 1) ≡ b → promotes script t.value (history t.value (at_t1 whole)) ≡ true
unfolding promotes
promoted_none t true e = subst (λ h. promotes script t.value h ≡ true) (sym (history-same t.value t1 [] whole e)) refl
promoted_none t false e = subst (λ h. promotes script t.value h ≡ true) (sym (history-other t.value t1 [] whole e)) refl

-- each transaction is caused by the script
all_caused : (t : TxNo) → Caused script 0 t.value (history t.value (at_t1 whole))
all_caused = replayed_caused script (at_t1 whole) is_replayed (has_object script 0) (λ t. planned_at_t1 script whole refl t (t.value == 1) refl)

-- the trace is a history of the script
pub is_history : IsHistory script 0 0 (placed t1 whole)
is_history =
    record {
      caused = all_caused;
      promotes = λ t. promoted_none t (t.value == 1) refl;
      wires = λ t. wire_run_of (IsCallOf script t.value) t.value (history t.value (at_t1 whole)) (all_caused t).freely;
      settled = λ t. settled_all t (t.value == 1) refl;
      contexts = replayed_noted script (at_t1 whole) is_replayed;
      called = λ p n a. ap (how_many (is_call_at p n a)) (replayed_called script (at_t1 whole) is_replayed);
      faulted = lit≤ tt;
      followed = refl;
    }

-- and in the order of a replay
pub is_replay : IsReplay script 0 true (placed t1 whole)
is_replay = record { called = replayed_called script (at_t1 whole) is_replayed; replayed = is_replayed; stops = λ e. refl; opens = λ e. refl }

-- between t1's turn and t1's next no transaction is passed
pub none_passed : (n : ℕ) → is_passed 1 1 n ≡ true → ⊥
none_passed n p =
    let above : nat_le 1 n ≡ true = and_left (nat_le 1 n) (nat_lt n 1) p in
    let below : nat_lt n 1 ≡ true = and_right (nat_le 1 n) (nat_lt n 1) p in
    absurd (grind (arith, nat_tests))

-- a turn of t1, where one step is pending
turn : (T : List Placed) (n : StepName) (m : Step) → pending (world_at four_lines t1 T) ≡ n ∷ [] → IsNamed (world_at four_lines t1 T) n m → is_in_replay m ≡ true → IsTurn four_lines T 1 t1 m
turn T n m first named order = record { name = n; others = []; first = first; named = named; in_replay = order; passed = λ v p. absurd (none_passed v.value p) }

-- the turns after the four lines alone: voted, decided, and told twice
abbrev turns : List (TxNo × Step)
turns = (t1, Acts) ∷ (t1, Acts) ∷ (t1, Acts) ∷ (t1, Replies e1 (VoteReply Yes)) ∷ []

votes_here : IsNamed (world_at four_lines t1 (at_t1 did)) (ReplyOf e1) (Replies e1 (VoteReply Yes))
unfolding observe due_of
votes_here = (VoteReply Yes, PrepareNote, refl, refl, refl)

-- the rounds took these turns
rounds_run : RoundsRan four_lines (at_t1 did) turns (at_t1 told)
unfolding block_at reply_entries track veto observe pending local_pending all_due due_of act_entries next_ask is_over owner_of hears coordinate follow may_log may_free
rounds_run = (
  at_t1 (did ++ Voted e1 Yes ∷ Decided Committed ∷ Told (Enl e1) Committed ∷ []),
  (
    at_t1 (did ++ Voted e1 Yes ∷ Decided Committed ∷ []),
    (
      at_t1 (did ++ Voted e1 Yes ∷ []),
      (at_t1 did, refl, turn (at_t1 did) (ReplyOf e1) (Replies e1 (VoteReply Yes)) refl votes_here refl, refl),
      turn (at_t1 (did ++ Voted e1 Yes ∷ [])) LocalAct Acts refl refl refl,
      refl,
    ),
    turn (at_t1 (did ++ Voted e1 Yes ∷ Decided Committed ∷ [])) LocalAct Acts refl refl refl,
    refl,
  ),
  turn (at_t1 (did ++ Voted e1 Yes ∷ Decided Committed ∷ Told (Enl e1) Committed ∷ [])) LocalAct Acts refl refl refl,
  refl,
)

-- without the `await` the rounds do what is pending after the lines
pub is_replayed_in_rounds : IsReplayed four_lines (at_t1 told)
is_replayed_in_rounds = record { by_lines = at_t1 did; lines = four_run four_lines; turns = turns; rounds = rounds_run }

-- a `do` doesn't stop after one of two steps while another is pending
pub early_do : HasDoneAt script t1 1 2 1 (at_t1 asked) (at_t1 (asked ++ Sealed ∷ [])) → ⊥
unfolding observe pending local_pending all_due due_of act_entries next_ask is_over coordinate follow may_log may_free
early_do r = let none = r.stopped (lit≤ tt) in cc

-- an `await` doesn't answer while a step is pending
pub early_await : (m : ℕ) → HasSettled script t1 m (at_t1 did) (at_t1 (did ++ Voted e1 Yes ∷ [])) → ⊥
unfolding observe pending local_pending all_due due_of act_entries next_ask is_over owner_of coordinate follow may_log may_free
early_await m r = let none = r.settled in cc

-- a trace that stops while a step is pending is no history
pub stopped_is_none : IsHistory script 0 0 (placed t1 (did ++ Called 5 a1 (OutcomeIs Committed) ∷ [])) → ⊥
unfolding observe pending local_pending all_due due_of act_entries next_ask is_over coordinate follow may_log may_free
stopped_is_none r = let none = r.settled t1 in cc

-- a trace without the call of a line is none of the script
pub uncalled_is_none : IsReplayed script (at_t1 told) → ⊥
uncalled_is_none r = let same = replayed_called script (at_t1 told) r in cc
