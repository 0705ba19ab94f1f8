-- What a coordinator keeps of the log is what it knows: so it stays with each entry that isn't the log's, and with a stop; and an append, a free and a restart make it anew.
use Rattle.std.proofs.Common.{◌≡◌, ◌&&◌, ◌||◌, ◌∙◌, ℕ, Bool, true, false, List, [], ◌∷◌, Option, Some, None, refl, sym, subst}
use Rattle.std.specs.Prelude.{is_some, IfSome}
use Rattle.dtx_values.specs.declared.entry.Entry.{Entry}
use Rattle.dtx_values.specs.declared.entry.Entry.TheVariants.{Freed, LogFull, Logged, Restarted, Stopped}
use Rattle.dtx_values.specs.declared.message.Message.TheVariants.{ReenlistCommitted, ReenlistAborted}
use Rattle.dtx_model.specs.declared.desk.Stage.{Stage}
use Rattle.dtx_model.specs.declared.desk.Stage.TheVariants.{Active, Recorded}
use Rattle.dtx_model.specs.Words.{each}
use Rattle.dtx_model.specs.Log.{CommitRecord}
use Rattle.dtx_model.specs.Coordinated.{Coordinated, abort_sends, commit_sends, follow, follow_all, is_active, is_given, is_recorded, is_undecided, may_free, may_log}
use Rattle.coordinator_core.proofs.Causes.{active_then, heard_why, voted_why}
use Rattle.coordinator_core.proofs.Following.{after_abort, after_commit, after_waiting, with_waits}
use Rattle.coordinator_core.specs.Kept.{unreached}
use Rattle.dtx_values.specs.declared.number.EnlNo.{EnlNo}
use Rattle.world_parts.specs.AtLog.{IsOurs, Kept}
use Rattle.history_table.proofs.CoreStages.{is_marking, none_recorded, record_after}

-- the entry isn't the log's: none of an append, a free, a stop and a restart
abbrev pub is_elsewhere : Entry → Bool
is_elsewhere Logged = false
is_elsewhere Freed = false
is_elsewhere Stopped = false
is_elsewhere (Restarted found) = false
is_elsewhere _ = true

no_mark : (x : Entry) → is_elsewhere x ≡ true → is_marking x ≡ false
no_mark Logged e = absurd cc
no_mark Freed e = absurd cc
no_mark (Restarted found) e = absurd cc
no_mark _ e = refl

pub stage_same : (k : Coordinated) (x : Entry) → is_elsewhere x ≡ true → is_recorded (follow k x).stage ≡ is_recorded k.stage
unfolding follow
stage_same k x e = record_after is_recorded (record { idle = refl; active = refl; sole = refl; given = refl; answered = refl; aborted = refl }) k x (no_mark x e)

pub stopped_same : (k : Coordinated) (x : Entry) → is_elsewhere x ≡ true → (follow k x).stopped ≡ k.stopped
unfolding follow
stopped_same k Logged e = absurd cc
stopped_same k Freed e = absurd cc
stopped_same k Stopped e = absurd cc
stopped_same k (Restarted found) e = absurd cc
stopped_same k x e = refl

-- It stays with an entry that isn't the log's, and with a block of them.
pub ours_after : (id : ℕ) (k : Coordinated) (x : Kept) (e : Entry) → is_elsewhere e ≡ true → IsOurs id k x → IsOurs id (follow k e) x
ours_after id k x e i o =
    record {
      sure = λ s. o.sure (sym (stopped_same k e i) ∙ s);
      recorded = λ s. o.recorded (sym (stopped_same k e i) ∙ s) ∙ sym (stage_same k e i);
      named = o.named;
    }

pub ours_stays : (id : ℕ) (k : Coordinated) (x : Kept) (es : List Entry) → each is_elsewhere es ≡ true → IsOurs id k x → IsOurs id (follow_all k es) x
unfolding follow_all
ours_stays id k x [] i o = o
ours_stays id k x (e ∷ es) i o = ours_stays id (follow k e) x es (second (is_elsewhere e) i) (ours_after id k x e (first (is_elsewhere e) i) o)
  where
    first : (b : Bool) → (b && each is_elsewhere es) ≡ true → b ≡ true
    first true i = refl
    first false i = absurd cc

    second : (b : Bool) → (b && each is_elsewhere es) ≡ true → each is_elsewhere es ≡ true
    second true i = i
    second false i = absurd cc

-- A stop leaves it.
pub ours_stopped : (id : ℕ) (k : Coordinated) (x : Kept) → IfSome x.ours (λ r. r.id ≡ id) → IsOurs id (follow k Stopped) x
unfolding follow
ours_stopped id k x n = record { sure = λ s. absurd cc; recorded = λ s. absurd cc; named = n }

-- Before an append nothing is kept, and before a free a record is.
none_there : (o : Option CommitRecord) → is_some o ≡ false → o ≡ None
none_there (Some r) n = absurd cc
none_there None n = refl

pub active_unrecorded : (s : Stage) → is_active s ≡ true → is_recorded s ≡ false
active_unrecorded Active a = refl
active_unrecorded _ a = absurd cc

-- nor is there a record where the refusal of who decides counts
pub heard_unrecorded : (s : Stage) (b : Bool) → (is_undecided s || (is_given s && b)) ≡ true → is_recorded s ≡ false
heard_unrecorded Recorded b t = absurd cc
heard_unrecorded _ b t = refl

pub none_kept : (id : ℕ) (k : Coordinated) (x : Kept) → may_log k ≡ true → IsOurs id k x → (x.ours ≡ None) × (x.unsure ≡ false)
none_kept id k x m o =
    (none_there x.ours (o.recorded (voted_why k m).runs ∙ active_unrecorded k.stage (active_then k m)), o.sure (voted_why k m).runs)

pub one_kept : (id : ℕ) (k : Coordinated) (x : Kept) → may_free k ≡ true → IsOurs id k x → (is_some x.ours ≡ true) × (x.unsure ≡ false)
one_kept id k x m o = (o.recorded (heard_why k m).runs ∙ (heard_why k m).stands, o.sure (heard_why k m).runs)

pub runs_then : (k : Coordinated) → may_log k ≡ true → k.stopped ≡ false
runs_then k m = (voted_why k m).runs

pub runs_still : (k : Coordinated) → may_free k ≡ true → k.stopped ≡ false
runs_still k m = (heard_why k m).runs

-- The messages to all change only who waits.
sent_all : (id : ℕ) (j : Coordinated) (x : Kept) (ws : List EnlNo) → IsOurs id j x → IsOurs id (with_waits ws j) x
sent_all id j x ws o = record { sure = o.sure; recorded = o.recorded; named = o.named }

commit_told : (id : ℕ) (j : Coordinated) (x : Kept) → IsOurs id j x → IsOurs id (follow_all j (commit_sends j)) x
commit_told id j x o =
    let P : Coordinated → Type 0 = λ i. IsOurs id i x in
    subst P (sym (after_commit j ∙ after_waiting j ReenlistCommitted)) (sent_all id j x (unreached j.known j.waits) o)

abort_told : (id : ℕ) (j : Coordinated) (x : Kept) → IsOurs id j x → IsOurs id (follow_all j (abort_sends j)) x
abort_told id j x o =
    let P : Coordinated → Type 0 = λ i. IsOurs id i x in
    subst P (sym (after_abort j ∙ after_waiting j ReenlistAborted)) (sent_all id j x (unreached j.known j.waits) o)

-- After an append its record is kept, after a full log what was kept, and after a free nothing.
logged_here : (id : ℕ) (k : Coordinated) (x : Kept) → is_some x.ours ≡ true → x.unsure ≡ false → IfSome x.ours (λ r. r.id ≡ id) → IsOurs id (follow k Logged) x
unfolding follow
logged_here id k x here u n = record { sure = λ s. u; recorded = λ s. here; named = n }

pub ours_logged : (id : ℕ) (k : Coordinated) (r : CommitRecord) (u : Bool) (life : ℕ) → r.id ≡ id → u ≡ false
    → IsOurs id (follow_all k (Logged ∷ commit_sends (follow k Logged))) (record { ours = Some r; unsure = u; life = life })
unfolding follow_all
ours_logged id k r u life n s =
    commit_told id (follow k Logged) (record { ours = Some r; unsure = u; life = life }) (logged_here id k (record { ours = Some r; unsure = u; life = life }) refl s n)

pub ours_full : (id : ℕ) (k : Coordinated) (x : Kept) → IsOurs id k x → IsOurs id (follow_all k (LogFull ∷ abort_sends (follow k LogFull))) x
unfolding follow_all
ours_full id k x o = abort_told id (follow k LogFull) x (ours_after id k x LogFull refl o)

pub ours_freed : (id : ℕ) (k : Coordinated) (u : Bool) (life : ℕ) → u ≡ false → IsOurs id (follow k Freed) (record { ours = None; unsure = u; life = life })
unfolding follow
ours_freed id k u life s = record { sure = λ z. s; recorded = λ z. refl; named = tt }

-- After a restart what was found is kept.
pub ours_restarted : (id : ℕ) (k : Coordinated) (o : Option CommitRecord) (life : ℕ) → IfSome o (λ r. r.id ≡ id) → IsOurs id (follow k (Restarted (is_some o))) (record { ours = o; unsure = false; life = life })
unfolding follow
ours_restarted id k (Some r) life n = record { sure = λ z. refl; recorded = λ z. refl; named = n }
ours_restarted id k None life n = record { sure = λ z. refl; recorded = λ z. sym (none_recorded k.stage); named = tt }
