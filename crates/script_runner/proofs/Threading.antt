-- Runs on threads, and replays that stand in their place.
use Rattle.std.proofs.Common.{◌≡◌, ℕ, ◌+◌, ◌-◌, ◌≤◌, Bool, true, false, ◌&&◌, ◌||◌, List, [], ◌∷◌, Option, Some, None, arith, refl, subst}
use Rattle.std.specs.Prelude.{Result, Ok, Err, IfOk, is_some}
use Rattle.std.proofs.lemmas.Bool.Decides.{nat_tests}
use Rattle.dtx_values.specs.declared.entry.Entry.{Entry}
use Rattle.dtx_values.specs.declared.entry.Entry.TheVariants.{Voted, PromoteReply, OwnerAnswered, Requested}
use Rattle.dtx_values.specs.declared.note.Plan.{Plan}
use Rattle.dtx_values.specs.declared.number.RmNo.{RmNo}
use Rattle.dtx_values.specs.declared.number.TxNo.{TxNo}
use Rattle.dtx_values.specs.declared.script.Line.{Line}
use Rattle.dtx_model.specs.Caused.{Caused, calls_in, has_object, is_as_planned, is_up_to, plans_of, is_vote_planned, is_promotion_planned, is_outcome_planned, is_request_planned}
use Rattle.dtx_model.specs.Plans.{manager_of}
use Rattle.dtx_model.specs.Replay.{due_calls}
use Rattle.dtx_model.specs.AtLog.{is_log}
use Rattle.dtx_model.specs.Traces.{Placed, calls, history, is_at}
use Rattle.dtx_model.specs.Words.{always, past_of}
use Rattle.dtx_model.proofs.Bools.{and_both, and_left, and_right}
use Rattle.script_calls.specs.FirstCalls.{par_line}
use Rattle.script_calls.proofs.FirstCalls.{first_by_due}
use Rattle.call_order.specs.InOrder.{AreInActorOrder}
use Rattle.thread_runs.specs.Run.{EndsOnThreads, IsRunOnThreads}
use Rattle.replay_runs.specs.Ending.{IsLogOf}
use Rattle.script_runner.specs.Program.{IsReplayOf, IsThreadsOf}
use Rattle.replay_runs.specs.Run.{IsRunOf}

-- what holds of each value of a result, where it is this one
pub of_ok : {A E : Type 0} (r : Result A E) (x : A) (P : A → Type 0) → r ≡ Ok x → IfOk r P → P x
of_ok r x P e k = subst (λ q. IfOk q P) e k

-- what follows for each
pub if_ok : {A E : Type 0} (r : Result A E) (P Q : A → Type 0) → ((x : A) → P x → Q x) → IfOk r P → IfOk r Q
if_ok (Ok x) P Q f k = f x k
if_ok (Err e) P Q f k = k

-- Where no manager has an object, each reply is planned; and so it is where some have.
objects_more : (k : ℕ) (o : Option RmNo) → is_up_to 0 o ≡ true → is_up_to k o ≡ true
objects_more k (Some r) h = grind (arith, nat_tests)
objects_more k None h = h

freed : (b c d e : Bool) → (b ≡ true → c ≡ true) → ((b && d) || e) ≡ true → ((c && d) || e) ≡ true
freed true true d e f h = h
freed true false d e f h = absurd (let k : false ≡ true = f refl in cc)
freed false true true e f h = refl
freed false true false e f h = h
freed false false d e f h = h

planned_more : (p : ℕ → Plan) (few more : ℕ → Bool) → ((e : ℕ) → few e ≡ true → more e ≡ true) → (past : List Entry) (x : Entry) → is_as_planned p few past x ≡ true → is_as_planned p more past x ≡ true
planned_more p few more f past (Voted e v) h = freed (few e.value) (more e.value) (is_some (p e.value).vote) (is_vote_planned (p e.value).vote v) (f e.value) h
planned_more p few more f past (PromoteReply e ok) h = freed (few e.value) (more e.value) (is_some (p e.value).promote) (is_promotion_planned (p e.value).promote ok) (f e.value) h
planned_more p few more f past (OwnerAnswered e x) h = freed (few e.value) (more e.value) (is_some (p e.value).owner) (is_outcome_planned (p e.value).owner x) (f e.value) h
planned_more p few more f past (Requested e r) h = freed (few e.value) (more e.value) (is_some (p e.value).owner) (is_request_planned (p e.value).owner r) (f e.value) h
planned_more p few more f past _ h = refl

all_planned : (p : ℕ → Plan) (few more : ℕ → Bool) → ((e : ℕ) → few e ≡ true → more e ≡ true) → (h : List Entry) → always (is_as_planned p few) h ≡ true → always (is_as_planned p more) h ≡ true
all_planned p few more f [] k = refl
all_planned p few more f (x ∷ past) k =
    and_both (is_as_planned p more past x) (always (is_as_planned p more) past) (planned_more p few more f past x (and_left (is_as_planned p few past x) (always (is_as_planned p few) past) k))
    (all_planned p few more f past (and_right (is_as_planned p few past x) (always (is_as_planned p few) past) k))

-- what is caused with no object is caused with some
pub caused_more : (s : List Line) (k t : ℕ) (h : List Entry) → Caused s 0 t h → Caused s k t h
caused_more s k t h c = record {
  freely = c.freely;
  planned = all_planned (plans_of s) (has_object s 0) (has_object s k) (λ e. objects_more k (manager_of (calls_in s (past_of s)) e)) h c.planned;
}

-- a replay has the order of threads
abbrev pub HasOrder : Type 0
HasOrder = (s : List Line) (T : List Placed) → calls (past_of T) ≡ due_calls s (past_of s) → AreInActorOrder s T

-- A replay with no object is a run on threads, whichever managers have objects; and the count of faults may have risen before it.
pub replay_on_threads : HasOrder → (s : List Line) (k a from to : ℕ) (honest : Bool) (T : List Placed) → a ≤ from → IsRunOf s 0 from to honest T → IsRunOnThreads s k a to T
replay_on_threads order s k a from to honest T le run = record {
  rise = run.rise + ((to - a) - run.rise);
  risen = λ less. let r = run.risen less in omega (arith, r, le);
  ordered = order s T run.replay.called;
  first = λ t. first_by_due s (past_of s) (is_at t.value) (par_line s) (past_of T) run.replay.called;
  first_at_log = first_by_due s (past_of s) is_log (par_line s) (past_of T) run.replay.called;
  history = let h = run.history in record {
    caused = λ t. caused_more s k t.value (history t.value (past_of T)) (h.caused t);
    wires = h.wires;
    settled = h.settled;
    contexts = h.contexts;
    called = h.called;
    at_log = h.at_log;
    faulted = omega (arith, h.faulted);
    followed = h.followed;
    promotes = h.promotes;
  };
}

-- So the replay that stands in place of a run on threads is what one promises, over a log that ends as that of the replay.
pub all_on_threads : HasOrder → {E : Type 0} (r : Result (List Placed) E) (s : List Line) (k a from to : ℕ) (honest : Bool) (image : List ℕ → Type 0) → a ≤ from
    → ((T : List Placed) → ((t : TxNo) → Caused s 0 t.value (history t.value (past_of T))) → IsLogOf image T → EndsOnThreads s image T) → IfOk r (IsReplayOf 0 from to honest image s) → IfOk r (IsThreadsOf k a to honest image s)
all_on_threads order r s k a from to honest image le ends =
    if_ok r (IsReplayOf 0 from to honest image s) (IsThreadsOf k a to honest image s)
    (λ T x. record { run = replay_on_threads order s k a from to honest T le x.run; lawful = x.lawful; log = λ h. ends T x.run.history.caused (x.log h) })
