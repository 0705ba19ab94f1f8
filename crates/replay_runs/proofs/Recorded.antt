-- The log at the start and at the end of a run: before the first step it fits each transaction, and at the end its records are those that the trace says.
use Rattle.std.proofs.Common.{◌≡◌, ◌⊎◌, ◌≤◌, ◌∙◌, ℕ, zero, suc, Bool, true, false, ◌&&◌, ◌||◌, not, List, [], ◌∷◌, Option, Some, None, arith, refl, sym, ap, subst, inl, inr}
use Rattle.std.specs.Prelude.{IsTrue, IfOk, Ok, filter, is_some, length, if◌then◌else◌}
use Rattle.std.proofs.lemmas.Bool.{false_from_ne_true, or_left}
use Rattle.dtx_values.specs.declared.entry.Entry.{Entry}
use Rattle.dtx_values.specs.TxIds.{first_id, number_of}
use Rattle.dtx_values.specs.declared.tx_id.TxId.{TxId}
use Rattle.dtx_values.specs.declared.entry.Entry.TheVariants.{Restarted}
use Rattle.dtx_values.specs.declared.number.TxNo.{TxNo}
use Rattle.dtx_values.specs.declared.script.Line.{Line}
use Rattle.dtx_model.specs.Words.{has, kth, past_of}
use Rattle.dtx_model.specs.Coordinated.{coordinate, is_recorded}
use Rattle.dtx_model.specs.Entries.{is_record}
use Rattle.dtx_model.specs.Log.{CommitRecord, first_of, is_record_of, log_has}
use Rattle.dtx_model.specs.Promotes.{identifier_of}
use Rattle.dtx_model.specs.Tied.{before_last_stop, can_free, has_mark, is_tied}
use Rattle.dtx_model.specs.Traces.{Placed, history}
use Rattle.dtx_model.specs.World.{core}
use Rattle.dtx_model.specs.Caused.{Of, is_begin_sent}
use Rattle.dtx_model.specs.declared.waiting.EnteredCall.{EnteredCall}
use Rattle.dtx_model.proofs.Bools.{not_both}
use Rattle.coordinator_log.specs.Crash.{AllHold}
use Rattle.coordinator_log.specs.Slots.{open_records}
use Rattle.coordinator_log.specs.State.{LogState}
use Rattle.history_table.proofs.CoreStages.{recorded_mark}
use Rattle.scope_context.specs.Standing.{Standing}
use Rattle.tx_world.specs.AtLog.{AreLogs, Fits, id_of}
use Rattle.tx_world.specs.State.{TxState}
use Rattle.tx_world.specs.Recorded.{record_after}
use Rattle.tx_world.specs.Tried.{IsTried}
use Rattle.tx_world.proofs.Begun.{recorded_begun}
use Rattle.world_parts.proofs.Fitting.{none_found, one_found}
use Rattle.world_parts.proofs.Records.{one_where_none}
use Rattle.turn_parts.proofs.Records.{found_so}
use Rattle.turn_parts.proofs.Records.{one_there}
use Rattle.turn_parts.specs.Runs.{records_of}
use Rattle.turn_parts.specs.Runs.{untouched}
use Rattle.replay_runs.specs.Ending.{EndsAs, HasNone, MayBeRecorded, are_ever_named, are_named}
use Rattle.replay_runs.specs.LogRun.{AreForeignSame, IsForeignKept}
use Rattle.replay_runs.specs.RunState.{GoesWith, Holds, IsRecordKept, IsTied, RunState, Tells, state_of}
use Rattle.replay_runs.proofs.InRecords.{ever_there, named_there, named_up, written_there, written_up}

-- there is a record of an identifier exactly where the first is found,
pub has_first : (id : ℕ) (rs : List CommitRecord) → has (is_record_of id) rs ≡ is_some (first_of id rs)
has_first id [] = refl
has_first id (r ∷ rs) = step (is_record_of id r) (has_first id rs)
  where
    step : (b : Bool) → has (is_record_of id) rs ≡ is_some (first_of id rs) → (b || has (is_record_of id) rs) ≡ is_some (if b then Some r else first_of id rs)
    step true ih = refl
    step false ih = ih

-- and where none is found there is none
pub first_none : (id : ℕ) (rs : List CommitRecord) → filter (is_record_of id) rs ≡ [] → first_of id rs ≡ None
first_none id [] k = refl
first_none id (r ∷ rs) k = step (is_record_of id r) k (first_none id rs)
  where
    step : (b : Bool) → (if b then r ∷ filter (is_record_of id) rs else filter (is_record_of id) rs) ≡ [] → (filter (is_record_of id) rs ≡ [] → first_of id rs ≡ None)
        → (if b then Some r else first_of id rs) ≡ None
    step true k ih = absurd cc
    step false k ih = ih k

pub none_first : (id : ℕ) (rs : List CommitRecord) → first_of id rs ≡ None → filter (is_record_of id) rs ≡ []
none_first id [] k = refl
none_first id (r ∷ rs) k = step (is_record_of id r) k (none_first id rs)
  where
    step : (b : Bool) → (if b then Some r else first_of id rs) ≡ None → (first_of id rs ≡ None → filter (is_record_of id) rs ≡ [])
        → (if b then r ∷ filter (is_record_of id) rs else filter (is_record_of id) rs) ≡ []
    step true k ih = absurd cc
    step false k ih = ih k

-- A transaction keeps a record exactly where its history has one, while its coordinator isn't stopped.
pub ours_mark : (x : TxState) → IsRecordKept x → (core x.world).stopped ≡ false → is_some x.ours ≡ has_mark x.world.past
ours_mark x k s = k.ours.recorded s ∙ recorded_mark x.world.past

-- So the log has one of it exactly where its history has one.
recorded_there : (t : TxNo) (T : List Placed) (x : TxState) (rs : List CommitRecord) → x.transaction ≡ first_id t → x.world.past ≡ history t.value T → IsRecordKept x → (core x.world).stopped ≡ false → Fits x rs
    → length (records_of t.value rs) ≡ (if has_mark (history t.value T) then 1 else 0)
recorded_there t T x rs named past kept runs fits =
    let there : length (filter (is_record_of (id_of x)) rs) ≡ (if is_some (first_of (id_of x) rs) then 1 else 0) = one_there (id_of x) rs fits.one in
    let found : is_some (first_of (id_of x) rs) ≡ has_mark (history t.value T) =
    ap (λ (o : Option CommitRecord). is_some o) (one_found (id_of x) x.ours x.unsure rs (kept.ours.sure runs) fits) ∙ ours_mark x kept runs ∙ ap has_mark past in
    subst (λ (u : TxId). length (filter (is_record_of (identifier_of (number_of u))) rs) ≡ (if has_mark (history t.value T) then 1 else 0)) named (there ∙ ap (λ b. if b then 1 else 0) found)

-- Whatever records fit a transaction, a restart that finds them finds what may be found there.
pub found_tied : (x : TxState) (rs : List CommitRecord) → IsTried x.world.past (record { ours = x.ours; unsure = x.unsure; life = x.life }) → Fits x rs → is_tied x.world.past (Restarted (has (is_record_of (id_of x)) rs)) ≡ true
found_tied x rs tried fits = subst (λ b. is_tied x.world.past (Restarted b) ≡ true) (sym (has_first (id_of x) rs)) (elim fits.tie [ inl e ↦ same (is_some x.ours) refl e | inr e ↦ none e.0 e.1 ])
  where
    same : (b : Bool) → is_some x.ours ≡ b → first_of (id_of x) rs ≡ x.ours → is_tied x.world.past (Restarted (is_some (first_of (id_of x) rs))) ≡ true
    same true s e =
        let found : is_some (first_of (id_of x) rs) ≡ true = ap (λ (o : Option CommitRecord). is_some o) e ∙ s in
        subst (λ b. is_tied x.world.past (Restarted b) ≡ true) (sym found) (tried.tried s)
    same false s e =
        let found : is_some (first_of (id_of x) rs) ≡ false = ap (λ (o : Option CommitRecord). is_some o) e ∙ s in
        let unmarked : has_mark x.world.past ≡ false = false_from_ne_true (has_mark x.world.past) (λ m. not_both (is_some x.ours) (tried.kept m) s) in
        subst (λ b. is_tied x.world.past (Restarted b) ≡ true) (sym found) (or_left (not (has_mark x.world.past)) (can_free (before_last_stop x.world.past)) (ap not unmarked))

    none : first_of (id_of x) rs ≡ None → x.unsure ≡ true → is_tied x.world.past (Restarted (is_some (first_of (id_of x) rs))) ≡ true
    none e u =
        let found : is_some (first_of (id_of x) rs) ≡ false = ap (λ (o : Option CommitRecord). is_some o) e in
        subst (λ b. is_tied x.world.past (Restarted b) ≡ true) (sym found) (tried.unsure u)

-- One of which the coordinator doesn't know has no record.
pub unknown_none : (x : TxState) (rs : List CommitRecord) → IsRecordKept x → (core x.world).stopped ≡ false → has is_begin_sent x.world.past ≡ false → Fits x rs → filter (is_record_of (id_of x)) rs ≡ []
unknown_none x rs kept runs unbegun fits = none_first (id_of x) rs (none_found (id_of x) x.ours x.unsure rs (none x.ours refl) (kept.ours.sure runs) fits)
  where
    none : (o : Option CommitRecord) → x.ours ≡ o → x.ours ≡ None
    none None e = e
    none (Some r) e =
        let recorded : is_recorded (core x.world).stage ≡ true = sym (kept.ours.recorded runs) ∙ ap (λ (o : Option CommitRecord). is_some o) e in
        absurd (not_both (has is_begin_sent x.world.past)
        (recorded_begun (number_of x.transaction) x.world kept.own recorded) unbegun)

-- a coordinator runs while the log is up, and before BEGIN
runs_up : {D : Type 0} (log : LogState D) (x : TxState) → GoesWith log x → IsTrue log.is_up → (core x.world).stopped ≡ false
runs_up log x g up = g.stopped ∙ (ap (λ b. has is_begin_sent x.world.past && not b) up ∙ never (has is_begin_sent x.world.past))
  where
    never : (b : Bool) → (b && false) ≡ false
    never true = refl
    never false = refl

runs_unbegun : {D : Type 0} (log : LogState D) (x : TxState) → GoesWith log x → has is_begin_sent x.world.past ≡ false → (core x.world).stopped ≡ false
runs_unbegun log x g unbegun = g.stopped ∙ ap (λ b. b && not log.is_up) unbegun

-- So the log at the end of a run is as its trace says.
pub ends_as : {D : Type 0} (faults : D → ℕ) (image : D → List ℕ → Type 0) (start log : LogState D) (r : RunState) (T : List Placed) → T ≡ r.trace → ((t : TxNo) → (state_of t r.worlds).transaction ≡ first_id t)
    → Holds true image log r → IsForeignKept image (open_records start.slots) log → AreLogs (image log.disk) → (IsTrue log.is_up → AllHold (image log.disk) (open_records log.slots)) → EndsAs image (open_records start.slots) log (past_of T)
ends_as {D} faults image start log r T same numbered holds foreign logs held =
    subst (λ (U : List Placed). EndsAs image (open_records start.slots) log (past_of U)) (sym same)
    (record {
      up = λ up. (
        held up,
        record {
          recorded = λ t. let x = state_of t r.worlds in recorded_there t (past_of r.trace) x (open_records log.slots) (numbered t) (holds.tied t).past (holds.kept t) (runs_up log x (holds.goes t) up) ((holds.fits refl t).fits up);
          written = λ t marked. written t up marked;
          named = λ t marked. named_now t up marked;
          ever = λ t ever. let x = state_of t r.worlds in
              let here = (holds.tied t).past in
              subst (λ (h : List Entry). are_ever_named h (records_of t.value (open_records log.slots)) ≡ true) here
              (ever_there x (records_of t.value (open_records log.slots)) (holds.kept t) (holds.sound refl t)
              (λ m. subst (λ (h : List Entry). are_named h (records_of t.value (open_records log.slots)) ≡ true) (sym here) (named_now t up (sym (ap has_mark here) ∙ m))) (ap (has is_record) here ∙ ever));
          others = foreign.up up;
        },
      );
      stopped = λ c i. let l = logs c i in (l.0, l.1, may_be c i l.0 l.1);
    })
  where
    own_up : (t : TxNo) → IsTrue log.is_up → has_mark (state_of t r.worlds).world.past ≡ true
        → filter (is_record_of (id_of (state_of t r.worlds))) (open_records log.slots) ≡ record_after (number_of (state_of t r.worlds).transaction) (state_of t r.worlds).world.past ∷ []
    own_up t up marked =
        let x = state_of t r.worlds in
        let runs = runs_up log x (holds.goes t) up in
        written_up x (open_records log.slots) (holds.kept t) (holds.named refl t) runs ((holds.fits refl t).fits up) marked (ours_mark x (holds.kept t) runs)

    written : (t : TxNo) → IsTrue log.is_up → has_mark (history t.value (past_of r.trace)) ≡ true → records_of t.value (open_records log.slots) ≡ record_after t.value (history t.value (past_of r.trace)) ∷ []
    written t up marked =
        let x = state_of t r.worlds in
        let here = (holds.tied t).past in
        subst (λ (u : TxId). records_of (number_of u) (open_records log.slots) ≡ record_after (number_of u) (history t.value (past_of r.trace)) ∷ []) (numbered t)
        (subst (λ (h : List Entry). filter (is_record_of (id_of x)) (open_records log.slots) ≡ record_after (number_of x.transaction) h ∷ []) here (own_up t up (ap has_mark here ∙ marked)))

    named_now : (t : TxNo) → IsTrue log.is_up → has_mark (history t.value (past_of r.trace)) ≡ true → are_named (history t.value (past_of r.trace)) (records_of t.value (open_records log.slots)) ≡ true
    named_now t up marked =
        let x = state_of t r.worlds in
        let here = (holds.tied t).past in
        let there : has_mark x.world.past ≡ true = ap has_mark here ∙ marked in
        subst (λ (u : TxId). are_named (history t.value (past_of r.trace)) (records_of (number_of u) (open_records log.slots)) ≡ true) (numbered t)
        (subst (λ (h : List Entry). are_named h (filter (is_record_of (id_of x)) (open_records log.slots)) ≡ true) here
        (named_up x (open_records log.slots) (holds.kept t) (holds.sound refl t) there (own_up t up there)))

    may_be : (c : List ℕ) → image log.disk c → (rs : List CommitRecord) → log_has c ≡ Ok rs → MayBeRecorded (past_of r.trace) (open_records start.slots) rs
    may_be c i rs e =
        let fits : (t : TxNo) → Fits (state_of t r.worlds) rs = λ t. found_so (Fits (state_of t r.worlds)) (log_has c) rs e ((holds.fits refl t).imaged c i) in
        let named : (t : TxNo) → id_of (state_of t r.worlds) ≡ identifier_of t.value = λ t. ap (λ (u : TxId). identifier_of (number_of u)) (numbered t) in
        record {
          one = λ t. subst (λ id. length (filter (is_record_of id) rs) ≤ 1) (named t) (fits t).one;
          written = λ t. let x = state_of t r.worlds in
              subst (λ (u : TxId). (records_of (number_of u) rs ≡ []) ⊎ (records_of (number_of u) rs ≡ record_after (number_of u) (history t.value (past_of r.trace)) ∷ [])) (numbered t)
              (subst (λ (h : List Entry). (filter (is_record_of (id_of x)) rs ≡ []) ⊎ (filter (is_record_of (id_of x)) rs ≡ record_after (number_of x.transaction) h ∷ [])) (holds.tied t).past
              (written_there x rs (holds.named refl t) (fits t) (none_first (id_of x) rs)));
          named = λ t marked. let x = state_of t r.worlds in
              let here = (holds.tied t).past in
              subst (λ (u : TxId). are_named (history t.value (past_of r.trace)) (records_of (number_of u) rs) ≡ true) (numbered t)
              (subst (λ (h : List Entry). are_named h (filter (is_record_of (id_of x)) rs) ≡ true) here
              (named_there x rs (holds.kept t) (holds.named refl t) (holds.sound refl t) (fits t) (ap has_mark here ∙ marked)));
          ever = λ t ever. let x = state_of t r.worlds in
              let here = (holds.tied t).past in
              subst (λ (u : TxId). are_ever_named (history t.value (past_of r.trace)) (records_of (number_of u) rs) ≡ true) (numbered t)
              (subst (λ (h : List Entry). are_ever_named h (filter (is_record_of (id_of x)) rs) ≡ true) here
              (ever_there x (filter (is_record_of (id_of x)) rs) (holds.kept t) (holds.sound refl t) (λ m. named_there x rs (holds.kept t) (holds.named refl t) (holds.sound refl t) (fits t) m) (ap (has is_record) here ∙ ever)));
          known = λ t k. let x = state_of t r.worlds in
              let unbegun : has is_begin_sent x.world.past ≡ false = ap (has is_begin_sent) (holds.tied t).past ∙ k in
              subst (λ id. filter (is_record_of id) rs ≡ []) (named t) (unknown_none x rs (holds.kept t) (runs_unbegun log x (holds.goes t) unbegun) unbegun (fits t));
          found = λ t. let x = state_of t r.worlds in
              subst (λ (h : List Entry). is_tied h (Restarted (has (is_record_of (identifier_of t.value)) rs)) ≡ true) (holds.tied t).past
              (subst (λ id. is_tied x.world.past (Restarted (has (is_record_of id) rs)) ≡ true) (named t) (found_tied x rs ((holds.kept t).tried (holds.sound refl t)) (fits t)));
          others = found_so (AreForeignSame (open_records start.slots)) (log_has c) rs e (foreign.imaged c i);
        }

-- Before the first step: nothing is called,
none_in : (k : ℕ) (c : EnteredCall) → kth {A = EnteredCall} [] k ≡ Some c → ⊥
none_in zero c e = absurd cc
none_in (suc k) c e = absurd cc

tied_at_start : (s : List Line) (o : Of) (t : TxNo) → IsTied s o t [] (untouched t)
tied_at_start s o t = record { past = refl; given = λ n a c k. absurd (none_in k.place (record { line = n; actor = a; call = c }) k.stands); planned = refl }

-- each transaction keeps nothing,
kept_at_start : (t : TxNo) → IsRecordKept (untouched t)
kept_at_start t =
    record {
      own = ([], (refl, refl));
      once = λ n m a b c d x i j. absurd (none_in i.place (record { line = n; actor = a; call = c }) i.stands);
      ours = record { sure = λ s. refl; recorded = λ s. sym (recorded_mark []); named = tt };
      tried = λ k. record { tried = λ o. absurd cc; kept = λ m. absurd cc; unsure = λ u. absurd cc };
    }

goes_at_start : {D : Type 0} (log : LogState D) (t : TxNo) → GoesWith log (untouched t)
unfolding coordinate
goes_at_start log t = record { life = λ b. absurd cc; stopped = refl }

-- and where the log has no record of a script's transactions it fits them
fits_at_start : (t : TxNo) (rs : List CommitRecord) → records_of t.value rs ≡ [] → Fits (untouched t) rs
fits_at_start t rs k =
    let none : first_of (identifier_of t.value) rs ≡ None = first_none (identifier_of t.value) rs k in
    record { tie = inl none; one = one_where_none (identifier_of t.value) rs none }

in_each : (P : List CommitRecord → Type 0) (image : List ℕ → Type 0) (rs : List CommitRecord) → AllHold image rs → P rs → (c : List ℕ) → image c → IfOk (log_has c) P
in_each P image rs held p c i = subst (λ r. IfOk r P) (sym (held c i)) p

-- So all holds of a run before its first step,
pub holds_at_start : {D : Type 0} (honest : Bool) (image : D → List ℕ → Type 0) (log : LogState D) (s : List Line) (o : Of) (cs : List Standing) → IsTrue log.is_up → (IsTrue honest → HasNone (open_records log.slots))
    → (IsTrue honest → AllHold (image log.disk) (open_records log.slots)) → Holds honest image log (record { script = s; objects = o; worlds = []; contexts = cs; trace = [] })
holds_at_start honest image log s o cs up none held =
    record {
      tied = λ t. tied_at_start s o t;
      kept = λ t. kept_at_start t;
      goes = λ t. goes_at_start log t;
      had = λ t u o. absurd cc;
      up = up;
      uncalled = λ u. refl;
      fits = λ h t. let f = fits_at_start t (open_records log.slots) (none h t) in record { fits = λ u. f; imaged = in_each (Fits (untouched t)) (image log.disk) (open_records log.slots) (held h) f };
      sound = λ h t. refl;
      named = λ h t s. absurd cc;
    }

-- and the trace tells of the log.
pub tells_at_start : {D : Type 0} (faults : D → ℕ) (honest : Bool) (image : D → List ℕ → Type 0) (log : LogState D) → log.armed ≡ None → (IsTrue honest → AllHold (image log.disk) (open_records log.slots)) → Tells faults honest image log log []
tells_at_start faults honest image log unarmed held =
    record {
      counted = record {
        count = record { grows = omega arith; told = λ less. rw unarmed (omega arith) };
        broken = λ behind less. rw unarmed (omega arith);
        exact = refl;
        armed = inl (rw unarmed refl);
      };
      foreign = λ h. record { up = λ u id n. refl; imaged = in_each (AreForeignSame (open_records log.slots)) (image log.disk) (open_records log.slots) (held h) (λ id n. refl) };
      opens = λ h e. refl;
      unlike = λ h. refl;
      unfilled = λ h e. refl;
    }
