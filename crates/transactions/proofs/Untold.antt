-- A transaction whose commit was asked for, and whose client wasn't told.
use Rattle.std.proofs.Common.{ℕ, Bool, true, false, ◌≡◌, ◌∙◌, ◌||◌, ◌&&◌, not, List, [], ◌∷◌, Option, None, is_some, refl, ap, subst, sym}
use Rattle.dtx_values.specs.TxIds.{number_of}
use Rattle.std.proofs.lemmas.Bool.{or_left}
use Rattle.std.proofs.lemmas.List.Folds.{list_any-append}
use Rattle.dtx_values.specs.declared.call.Call.TheVariants.{Commit}
use Rattle.dtx_values.specs.declared.entry.Answer.{Answer}
use Rattle.dtx_values.specs.declared.entry.Answer.TheVariants.{Fine, True, Wait}
use Rattle.dtx_values.specs.declared.entry.Entry.TheVariants.{Called as CalledEntry}
use Rattle.dtx_values.specs.declared.number.ActorNo.{ActorNo}
use Rattle.dtx_values.specs.declared.number.TxNo.{TxNo}
use Rattle.dtx_model.specs.Entries.{client_told_of, is_commit}
use Rattle.dtx_model.specs.Facts.{facts_if, has_facts}
use Rattle.dtx_model.specs.Observed.{observe}
use Rattle.dtx_model.specs.Plans.{plan_of}
use Rattle.dtx_model.specs.Steps.{Calls, block_at, called, pending}
use Rattle.dtx_model.specs.Words.{has, latest}
use Rattle.dtx_model.specs.World.{World, answer_at, facts_at, half}
use Rattle.dtx_model.proofs.Bools.{or_right}
use Rattle.dtx_model.proofs.Reading.{has-onto}
use Rattle.coordinator_log.specs.State.{LogState}
use Rattle.own_laws.specs.Waiting.{is_waiting_by}
use Rattle.tx_world.specs.State.{sends_begin}
use Rattle.transactions.specs.Calling.{IsCalled}
use Rattle.transactions.specs.Doing.{is_done}
use Rattle.transactions.specs.Hearing.{Given, Writes}
use Rattle.transactions.specs.State.{LiveState, past}
use Rattle.transactions.specs.Telling.{Waiting, told}
use Rattle.transactions.specs.Waiting.{AllAsked}
use Rattle.transactions.proofs.Stepping.{stop_after, turned_onto, written}

-- what the client was told is what the newest entry says that tells it
told_latest : (w : World) → (half w).seen.told_client ≡ latest client_told_of w.past
unfolding observe
told_latest w = refl

-- what is none isn't some
none_is : {A : Type 0} (o p : Option A) → o ≡ p → o ≡ None → is_some p ≡ false
none_is o p same none = ap (λ q. is_some q) (sym same ∙ none)

-- it waits, where the law says that the client was told or it waits
pub waiting_of : (x : LiveState) → (pending x.tx.world ≡ [] → has is_commit (past x) ≡ true → (is_some (latest client_told_of (past x)) || is_waiting_by (plan_of x.tx.world.calls) (past x)) ≡ true)
    → told x ≡ None → has is_commit (past x) ≡ true → AllAsked x.tx.world → Waiting x
waiting_of x law untold commit all =
    record {
      untold = untold;
      asked = all;
      why = λ idle. or_rest (is_some (latest client_told_of (past x))) (is_waiting_by (plan_of x.tx.world.calls) (past x))
          (none_is (told x) (latest client_told_of (past x)) (told_latest x.tx.world) untold) (law idle commit);
    }
  where
    or_rest : (a b : Bool) → a ≡ false → (a || b) ≡ true → b ≡ true
    or_rest true b f k = absurd cc
    or_rest false b f k = k

-- a call that was done, or waits, has its facts
done_facts : (a : Answer) → is_done a ≡ true → has_facts a ≡ true
done_facts Fine d = refl
done_facts True d = refl
done_facts Wait d = refl
done_facts _ d = absurd cc

-- the block of a commit that was done asks for it
commit_block : (t : ℕ) (w : World) (n : ℕ) (a : ActorNo) (u : TxNo) (x : Answer) → x ≡ answer_at t w (Commit u) 0 → has_facts x ≡ true → has is_commit (block_at t w (Calls n a (Commit u) 0)) ≡ true
unfolding block_at
commit_block t w n a u x is facts =
    subst (λ y. has is_commit (called t w n a (Commit u) y) ≡ true) is (ap (λ b. has is_commit (CalledEntry n a x ∷ facts_if b (facts_at t w (Commit u) x))) facts)

-- so the history has it then
pub commit_asked : {D : Type 0} (faults : D → ℕ) (log : LogState D) (u : TxNo) (line : ℕ) (answer : Answer) (x y : LiveState) → IsCalled faults log (Commit u) line answer x y
    → is_done answer ≡ true → has is_commit (past y) ≡ true
commit_asked faults log u line answer x y k done =
    let t = (number_of x.tx.transaction) in
    let w = x.tx.world in
    let m = Calls line k.actor (Commit u) 0 in
    let es = written log.is_up t w m in
    let stop = stop_after (sends_begin t w m && not log.is_up) in
    ap (λ (v : World). has is_commit v.past) k.done.world
    ∙ (ap (has is_commit) (turned_onto log.is_up t w m)
    ∙ (has-onto is_commit w.past es
    ∙ or_left (has is_commit es) (has is_commit w.past)
    (list_any-append is_commit (block_at t w m) stop ∙ or_left (has is_commit (block_at t w m)) (has is_commit stop) (commit_block t w line k.actor u answer k.answered (done_facts answer done)))))

-- and it stays
pub commit_stays : (rs : List Given) (x y : LiveState) → Writes rs x y → has is_commit (past x) ≡ true → has is_commit (past y) ≡ true
commit_stays rs x y w c = ap (has is_commit) w.grown ∙ (has-onto is_commit (past x) w.written ∙ or_right (has is_commit w.written) (has is_commit (past x)) c)
