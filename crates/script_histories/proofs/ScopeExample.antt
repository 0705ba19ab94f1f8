-- A replay of a script with scopes, and traces that are none. Each stands oldest first.
use Rattle.std.proofs.Common.{◌≡◌, ℕ, ◌==◌, Bool, true, false, List, [], ◌∷◌, ◌++◌, Some, refl, arith, lit≤, ap, subst, ◌∙◌}
use Rattle.std.specs.Prelude.{nat_le, nat_lt}
use Rattle.std.proofs.lemmas.Bool.Decides.{nat_tests}
use Rattle.dtx_values.specs.declared.number.ScopeNo.{ScopeNo}
use Rattle.dtx_values.specs.declared.number.TxNo.{TxNo}
use Rattle.dtx_values.specs.declared.call.Call.TheVariants.{Rollback as RollbackCall}
use Rattle.dtx_values.specs.declared.entry.Answer.TheVariants.{Fine, Isolation, Nested}
use Rattle.dtx_values.specs.declared.entry.Entry.TheVariants.{Called, Began, CommitAsked, RollbackAsked, Decided, Told, Scope}
use Rattle.dtx_values.specs.declared.entry.Party.TheVariants.{Client}
use Rattle.dtx_values.specs.declared.entry.ScopeNote.TheVariants.{Opened, Closed}
use Rattle.dtx_values.specs.declared.script.Body.TheVariants.{Open, Close}
use Rattle.dtx_values.specs.declared.script.Line.{Line}
use Rattle.dtx_values.specs.declared.script.Opening.TheVariants.{Required, RequiresNew}
use Rattle.dtx_values.specs.declared.trace.Place.TheVariants.{Transaction}
use Rattle.dtx_values.specs.declared.words.Iso.TheVariants.{Serializable, Snapshot}
use Rattle.dtx_values.specs.declared.words.IsoWord.TheVariants.{Default, Level}
use Rattle.dtx_values.specs.declared.words.Outcome.TheVariants.{Aborted}
use Rattle.dtx_values.specs.declared.words.Timeout.TheVariants.{Default as DefaultTimeout}
use Rattle.dtx_values.specs.Table.{how_many}
use Rattle.dtx_model.specs.Words.{always, past_of}
use Rattle.dtx_model.specs.Observed.{observe, track}
use Rattle.dtx_model.specs.Coordinated.{coordinate, follow, may_free, may_log}
use Rattle.dtx_model.specs.Acts.{act_entries}
use Rattle.dtx_model.specs.Answers.{local_answer}
use Rattle.dtx_model.specs.Half.{veto}
use Rattle.dtx_model.specs.Replies.{all_due, due_of}
use Rattle.dtx_model.specs.World.{answer_at}
use Rattle.dtx_model.specs.Steps.{Acts, LocalAct, block_at, local_pending, pending}
use Rattle.dtx_model.specs.Caused.{IsCallOf, Caused, Settled, has_object, is_as_planned, plans_of}
use Rattle.dtx_model.specs.Traces.{Placed, at_context, history, noted, placed}
use Rattle.dtx_model.specs.Replay.{is_passed, IsReplayed, IsTurn, LinesRan, RoundsRan, after_scope}
use Rattle.dtx_model.specs.History.{IsHistory, IsReplay, is_call_at}
use Rattle.dtx_model.proofs.Quiet.{wire_run_of}
use Rattle.dtx_model.specs.Promotes.{promotes}
use Rattle.dtx_model.specs.Contexts.{scope_answer, scope_calls, scopes_of}
use Rattle.dtx_model.proofs.Bools.{and_left, and_right}
use Rattle.script_histories.proofs.ReplayExample.{none_passed}
use Rattle.script_histories.proofs.Replays.{replayed_called, replayed_caused, replayed_noted}
use Rattle.dtx_model.proofs.Cast.{a1, t1}

abbrev t2 : TxNo
t2 = record { value = 2; in_range = (lit≤ tt, lit≤ tt) }

abbrev s1 : ScopeNo
s1 = record { value = 1; in_range = (lit≤ tt, lit≤ tt) }

abbrev s2 : ScopeNo
s2 = record { value = 2; in_range = (lit≤ tt, lit≤ tt) }

-- `a1 open s1 required t1 default default`
abbrev first_open : Line
first_open = record { actor = a1; body = Open s1 (Required t1 DefaultTimeout Default) }

-- `a1 open s2 requiresnew t2 default default`
abbrev second_open : Line
second_open = record { actor = a1; body = Open s2 (RequiresNew t2 DefaultTimeout Default) }

-- `a1 close s1`
abbrev close : Line
close = record { actor = a1; body = Close s1 }

-- the script of these three
abbrev pub scoped : List Line
scoped = first_open ∷ second_open ∷ close ∷ []

-- what the first line writes: its scope made t1
abbrev pub made_t1 : List Placed
made_t1 = noted a1 (Called 1 a1 Fine ∷ Scope (Opened s1 (Some t1)) ∷ []) ++ placed t1 (Called 1 a1 Fine ∷ Began 60000 ∷ [])

-- and the second: its scope made t2
abbrev pub made_t2 : List Placed
made_t2 = made_t1 ++ noted a1 (Called 2 a1 Fine ∷ Scope (Opened s2 (Some t2)) ∷ []) ++ placed t2 (Called 2 a1 Fine ∷ Began 60000 ∷ [])

-- and the third: s2 is open in s1, so both are taken off, the top first, and both transactions are rolled back
abbrev pub rolled_back : List Placed
rolled_back =
    made_t2 ++ noted a1 (Called 3 a1 (Nested s2) ∷ Scope (Closed s2) ∷ Scope (Closed s1) ∷ [])
    ++ placed t2 (Called 3 a1 Fine ∷ RollbackAsked ∷ Decided Aborted ∷ []) ++ placed t1 (Called 3 a1 Fine ∷ RollbackAsked ∷ Decided Aborted ∷ [])

-- the lines ran so
scoped_run : LinesRan scoped (past_of scoped) (past_of rolled_back)
unfolding block_at answer_at local_answer track veto observe
scoped_run = (past_of made_t2, (past_of made_t1, ([], refl, refl), refl), refl)

-- and in no other way
pub scoped_only : (T : List Placed) → LinesRan scoped (past_of scoped) T → T ≡ past_of rolled_back
unfolding block_at answer_at local_answer track veto observe
scoped_only T r =
    let opened : r.1.0 ≡ past_of made_t1 = r.1.1.2 ∙ ap (λ T. after_scope scoped 1 first_open [] T) r.1.1.1 in
    let again : r.0 ≡ past_of made_t2 = r.1.2 ∙ ap (λ T. after_scope scoped 2 second_open (scopes_of 1 (first_open ∷ [])) T) opened in
    r.2 ∙ ap (λ T. after_scope scoped 3 close (scopes_of 1 (second_open ∷ first_open ∷ [])) T) again

-- the client of each is told that it was rolled back
abbrev pub told_both : List Placed
told_both = rolled_back ++ (Transaction t1, Told Client Aborted) ∷ (Transaction t2, Told Client Aborted) ∷ []

-- t1's turn comes before t2's
only_t1 : (n : ℕ) → is_passed 1 2 n ≡ true → 1 ≡ n
only_t1 n p =
    let above : nat_le 1 n ≡ true = and_left (nat_le 1 n) (nat_lt n 2) p in
    let below : nat_lt n 2 ≡ true = and_right (nat_le 1 n) (nat_lt n 2) p in
    grind (arith, nat_tests)

-- t1's turn
turn_t1 : IsTurn scoped (past_of rolled_back) 1 t1 Acts
unfolding observe pending local_pending all_due due_of act_entries coordinate follow may_log may_free
turn_t1 = record { name = LocalAct; others = []; first = refl; named = refl; in_replay = refl; passed = λ v p. absurd (none_passed v.value p) }

-- and then t2's
turn_t2 : IsTurn scoped (past_of (rolled_back ++ (Transaction t1, Told Client Aborted) ∷ [])) 1 t2 Acts
unfolding observe pending local_pending all_due due_of act_entries coordinate follow may_log may_free
turn_t2 =
    record {
      name = LocalAct;
      others = [];
      first = refl;
      named = refl;
      in_replay = refl;
      passed = λ v p. subst (λ n. Settled scoped (history n (past_of (rolled_back ++ (Transaction t1, Told Client Aborted) ∷ [])))) (only_t1 v.value p) refl;
    }

-- the rounds took these turns
scoped_rounds : RoundsRan scoped (past_of rolled_back) ((t2, Acts) ∷ (t1, Acts) ∷ []) (past_of told_both)
unfolding block_at observe act_entries
scoped_rounds = (past_of (rolled_back ++ (Transaction t1, Told Client Aborted) ∷ []), (past_of rolled_back, refl, turn_t1, refl), turn_t2, refl)

-- the trace is that of a replay of the script
pub scoped_replayed : IsReplayed scoped (past_of told_both)
scoped_replayed = record { by_lines = past_of rolled_back; lines = scoped_run; turns = (t2, Acts) ∷ (t1, Acts) ∷ []; rounds = scoped_rounds }

-- nothing is pending in any transaction
scoped_settled : (n : ℕ) (b c : Bool) → (n == 1) ≡ b → (n == 2) ≡ c → Settled scoped (history n (past_of told_both))
unfolding observe pending local_pending all_due due_of act_entries coordinate follow may_log may_free
scoped_settled n true c e f = let same : 1 ≡ n = grind (arith, nat_tests) in subst (λ n. Settled scoped (history n (past_of told_both))) same refl
scoped_settled n false true e f = let same : 2 ≡ n = grind (arith, nat_tests) in subst (λ n. Settled scoped (history n (past_of told_both))) same refl
scoped_settled n false false e f = rw (e, f) refl

-- nothing is promoted in any transaction
scoped_unpromoted : (n : ℕ) (b c : Bool) → (n == 1) ≡ b → (n == 2) ≡ c → promotes scoped n (history n (past_of told_both)) ≡ true
unfolding promotes
scoped_unpromoted n true c e f = let same : 1 ≡ n = grind (arith, nat_tests) in subst (λ n. promotes scoped n (history n (past_of told_both)) ≡ true) same refl
scoped_unpromoted n false true e f = let same : 2 ≡ n = grind (arith, nat_tests) in subst (λ n. promotes scoped n (history n (past_of told_both)) ≡ true) same refl
scoped_unpromoted n false false e f = rw (e, f) refl

-- no reply is planned, and none came
scoped_planned : (n : ℕ) (b c : Bool) → (n == 1) ≡ b → (n == 2) ≡ c → always (is_as_planned (plans_of scoped) (has_object scoped 0)) (history n (past_of told_both)) ≡ true
scoped_planned n true c e f = let same : 1 ≡ n = grind (arith, nat_tests) in subst (λ n. always (is_as_planned (plans_of scoped) (has_object scoped 0)) (history n (past_of told_both)) ≡ true) same refl
scoped_planned n false true e f = let same : 2 ≡ n = grind (arith, nat_tests) in subst (λ n. always (is_as_planned (plans_of scoped) (has_object scoped 0)) (history n (past_of told_both)) ≡ true) same refl
scoped_planned n false false e f = rw (e, f) refl

-- each transaction is caused by the script
scoped_caused : (t : TxNo) → Caused scoped 0 t.value (history t.value (past_of told_both))
scoped_caused = replayed_caused scoped (past_of told_both) scoped_replayed (has_object scoped 0) (λ t. scoped_planned t.value (t.value == 1) (t.value == 2) refl refl)

-- the trace is a history of the script
pub scoped_history : IsHistory scoped 0 0 told_both
scoped_history =
    record {
      caused = scoped_caused;
      promotes = λ t. scoped_unpromoted t.value (t.value == 1) (t.value == 2) refl refl;
      wires = λ t. wire_run_of (IsCallOf scoped t.value) t.value (history t.value (past_of told_both)) (scoped_caused t).freely;
      settled = λ t. scoped_settled t.value (t.value == 1) (t.value == 2) refl refl;
      contexts = replayed_noted scoped (past_of told_both) scoped_replayed;
      called = λ p n a. ap (how_many (is_call_at p n a)) (replayed_called scoped (past_of told_both) scoped_replayed);
      faulted = lit≤ tt;
      followed = refl;
    }

-- and in the order of a replay
pub scoped_order : IsReplay scoped 0 true told_both
scoped_order = record { called = replayed_called scoped (past_of told_both) scoped_replayed; replayed = scoped_replayed; stops = λ e. refl; opens = λ e. refl }

-- what stands at t1
pub history_of_t1 : history 1 (past_of told_both) ≡ past_of (Called 1 a1 Fine ∷ Began 60000 ∷ Called 3 a1 Fine ∷ RollbackAsked ∷ Decided Aborted ∷ Told Client Aborted ∷ [])
history_of_t1 = refl

-- and at t2
pub history_of_t2 : history 2 (past_of told_both) ≡ past_of (Called 2 a1 Fine ∷ Began 60000 ∷ Called 3 a1 Fine ∷ RollbackAsked ∷ Decided Aborted ∷ Told Client Aborted ∷ [])
history_of_t2 = refl

-- and at the context
pub context_of_a1 : at_context 1 (past_of told_both)
    ≡ past_of (Called 1 a1 Fine ∷ Scope (Opened s1 (Some t1)) ∷ Called 2 a1 Fine ∷ Scope (Opened s2 (Some t2))
    ∷ Called 3 a1 (Nested s2) ∷ Scope (Closed s2) ∷ Scope (Closed s1) ∷ [])
context_of_a1 = refl

-- `a1 open s2 required t2 default default`
abbrev joining : Line
joining = record { actor = a1; body = Open s2 (Required t2 DefaultTimeout Default) }

-- a transaction that one scope made and another joined is rolled back once
pub joined_once : scope_calls close.body (scopes_of 1 (joining ∷ first_open ∷ [])) ≡ (t1, RollbackCall t1) ∷ []
joined_once = refl

-- `a1 open s2 required t2 default snapshot`
abbrev other_open : Line
other_open = record { actor = a1; body = Open s2 (Required t2 DefaultTimeout (Level Snapshot)) }

-- t1 has another isolation, so it isn't joined
pub isolation_differs : scope_answer other_open.body (scopes_of 1 (first_open ∷ [])) ≡ Some (Isolation Snapshot Serializable)
isolation_differs = refl

-- no replay answers that line ok
pub differing_is_none : (T : List Placed) → IsReplayed (first_open ∷ other_open ∷ []) T
    → at_context 1 T ≡ past_of (Called 1 a1 Fine ∷ Scope (Opened s1 (Some t1)) ∷ Called 2 a1 Fine ∷ Scope (Opened s2 (Some t1)) ∷ []) → ⊥
differing_is_none T r e = let same = replayed_noted (first_open ∷ other_open ∷ []) T r a1 in cc

-- the close of a scope that isn't complete rolls its transaction back
pub incomplete_rolls_back : scope_calls close.body (scopes_of 1 (first_open ∷ [])) ≡ (t1, RollbackCall t1) ∷ []
incomplete_rolls_back = refl

-- it commits nothing
pub incomplete_is_none : LinesRan (first_open ∷ close ∷ []) (close ∷ first_open ∷ [])
    (past_of (made_t1 ++ noted a1 (Called 2 a1 Fine ∷ Scope (Closed s1) ∷ []) ++ placed t1 (Called 2 a1 Fine ∷ CommitAsked ∷ []))) → ⊥
unfolding block_at answer_at local_answer track veto observe
incomplete_is_none r =
    let opened : r.0 ≡ past_of made_t1 = r.1.2 ∙ ap (λ T. after_scope (first_open ∷ close ∷ []) 1 first_open [] T) r.1.1 in
    let same = r.2 ∙ ap (λ T. after_scope (first_open ∷ close ∷ []) 2 close (scopes_of 1 (first_open ∷ [])) T) opened in
    cc
