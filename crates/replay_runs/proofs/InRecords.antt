-- Who said PREPARED, isn't acknowledged and whose manager hasn't recovered is in the record: in the log's while it is up, and in that of each image while it is stopped.
use Rattle.std.proofs.Common.{◌≡◌, ◌⊎◌, ◌∙◌, ◌≤◌, inl, inr, ℕ, ◌==◌, Bool, true, false, ◌&&◌, ◌||◌, not, List, [], ◌∷◌, map, filter, length, Option, Some, None, refl, ap, sym, subst, arith, if◌then◌else◌}
use Rattle.std.specs.Prelude.{is_some}
use Rattle.std.proofs.lemmas.Bool.{or_left}
use Rattle.dtx_values.specs.RecoveryInfo.{pair_of}
use Rattle.dtx_values.specs.TxIds.{number_of}
use Rattle.dtx_values.specs.declared.entry.Entry.{Entry}
use Rattle.dtx_values.specs.declared.entry.Entry.TheVariants.{Got, Recovered, Restarted, Stopped}
use Rattle.dtx_values.specs.declared.message.Conn.TheVariants.{Begin, Voter, Enl, Again}
use Rattle.dtx_values.specs.declared.message.Dir.TheVariants.{Up, Down}
use Rattle.dtx_values.specs.declared.message.Info.{Info}
use Rattle.dtx_values.specs.declared.message.Message.TheVariants.{EnlistEnlist}
use Rattle.dtx_model.specs.declared.desk.Desk.{Desk}
use Rattle.dtx_model.specs.Words.{all_of, each, has, latest}
use Rattle.dtx_model.specs.Log.{CommitRecord, first_of, is_record_of}
use Rattle.dtx_model.specs.Coordinated.{coordinate, is_desk_of, is_prepared}
use Rattle.dtx_model.specs.Tied.{before_last_stop, can_free, enlist_got, has_mark, is_acked, is_done_there, is_prepared_got, is_recovery, tied}
use Rattle.dtx_model.specs.Wires.{WireRun, is_stopped}
use Rattle.dtx_model.specs.Entries.{handed_of, is_record}
use Rattle.dtx_model.specs.Half.{is_handed}
use Rattle.dtx_model.specs.Observed.{observe}
use Rattle.dtx_model.specs.World.{core, is_finished_there}
use Rattle.dtx_model.specs.Caused.{IsIn}
use Rattle.dtx_model.proofs.Bools.{and_both, and_left, and_right, not_both, or_case, or_right}
use Rattle.dtx_model.proofs.Quiet.{wire_run}
use Rattle.history_table.proofs.CoreStages.{stopped_same}
use Rattle.history_table.proofs.Crossed.{nothing_up}
use Rattle.settled_histories.proofs.Finished.{finished_seen, is_finished}
use Rattle.settled_histories.proofs.FreedDesks.{AreFreed}
use Rattle.settled_histories.proofs.FreedDesks.{IsDone}
use Rattle.history_table.proofs.Keeping.{Keeps}
use Rattle.history_table.proofs.Managed.{desks_managed, is_enlist_by, is_managed_desk, one_manager}
use Rattle.settled_histories.proofs.Returning.{ran_returning}
use Rattle.history_table.proofs.Scans.{each_more, has_more}
use Rattle.history_table.proofs.Steady.{run_keeps}
use Rattle.history_table.proofs.Table.{is_enlist_got}
use Rattle.history_table.proofs.Tests.{eq_self}
use Rattle.std.proofs.lemmas.Bool.{eqb-true}
use Rattle.tx_world.specs.AtLog.{AtMostOne, Fits, id_of}
use Rattle.tx_world.specs.Prepared.{NamesPrepared}
use Rattle.tx_world.specs.Recorded.{record_after}
use Rattle.tx_world.specs.State.{TxState}
use Rattle.tx_world.specs.Tried.{IsTried}
use Rattle.world_parts.proofs.Fitting.{one_found}
use Rattle.tx_world.proofs.FreedRecords.{each_info, enlist_by, is_enlist_as, noted_recorded, recovered_seen}
use Rattle.replay_runs.specs.Ending.{are_ever_named, are_named, names}
use Rattle.replay_runs.specs.RunState.{IsRecordKept}
use Rattle.history_table.proofs.Managed.{is_prepared_desk}

-- A desk that said PREPARED is in the record.
abbrev is_pair : Info → ℕ × ℕ → Bool
is_pair i p = (i.rm.value == p.0) && (i.enl.value == p.1)

abbrev prepared_in : List Desk → List (ℕ × ℕ)
prepared_in ds = map (λ d. pair_of (d.manager, d.enlistment)) (filter (λ d. is_prepared d.ballot) ds)

pair_there : (h : List Entry) → Keeps h → (i : Info) → has (is_enlist_by i.enl.value i.rm.value) h ≡ true → (ds : List Desk) → each (is_managed_desk h) ds ≡ true → has (is_prepared_desk i.enl.value) ds ≡ true
    → has (is_pair i) (prepared_in ds) ≡ true
pair_there h k i sent [] m t = absurd cc
pair_there h k i sent (d ∷ ds) m t =
    or_case (is_prepared_desk i.enl.value d) (has (is_prepared_desk i.enl.value) ds)
    (λ s. here (and_left (is_desk_of i.enl.value d) (is_prepared d.ballot) s) (is_prepared d.ballot) (and_right (is_desk_of i.enl.value d) (is_prepared d.ballot) s))
    (λ s. there (is_prepared d.ballot) (pair_there h k i sent ds (and_right (is_managed_desk h d) (each (is_managed_desk h) ds) m) s)) t
  where
    here : is_desk_of i.enl.value d ≡ true → (b : Bool) → b ≡ true
        → has (is_pair i) (map (λ d. pair_of (d.manager, d.enlistment)) (if b then d ∷ filter (λ d. is_prepared d.ballot) ds else filter (λ d. is_prepared d.ballot) ds)) ≡ true
    here own false e = absurd cc
    here own true e =
        let same = eqb-true i.enl.value d.enlistment.value own in
        let managed = and_left (is_managed_desk h d) (each (is_managed_desk h) ds) m in
        let manager : i.rm.value ≡ d.manager.value = one_manager i.enl i.rm.value d.manager.value h k sent (subst (λ n. has (is_enlist_by n d.manager.value) h ≡ true) (sym same) managed) in
        or_left (is_pair i (pair_of (d.manager, d.enlistment))) (has (is_pair i) (prepared_in ds))
        (and_both (i.rm.value == d.manager.value) (i.enl.value == d.enlistment.value) (subst (λ n. (i.rm.value == n) ≡ true) manager (eq_self i.rm.value)) own)

    there : (b : Bool) → has (is_pair i) (prepared_in ds) ≡ true
        → has (is_pair i) (map (λ d. pair_of (d.manager, d.enlistment)) (if b then d ∷ filter (λ d. is_prepared d.ballot) ds else filter (λ d. is_prepared d.ballot) ds)) ≡ true
    there true s = or_right (is_pair i (pair_of (d.manager, d.enlistment))) (has (is_pair i) (prepared_in ds)) s
    there false s = s

-- So the record that the coordinator writes has each enlistment that said PREPARED.
record_names : (t : ℕ) (h : List Entry) → Keeps h → has_mark h ≡ true → are_named h (record_after t h ∷ []) ≡ true
record_names t h k marked =
    each_info (λ i. is_done_there h i || has (names i) (record_after t h ∷ [])) h k (λ i s. by i (enlist_by i.enl i.rm.value h k s) (has (is_prepared_got i.enl.value) h) refl)
  where
    by : (i : Info) → has (is_enlist_by i.enl.value i.rm.value) h ≡ true → (b : Bool) → has (is_prepared_got i.enl.value) h ≡ b
        → ((not b || is_acked i.enl.value h || has (is_recovery i.rm.value) h) || has (names i) (record_after t h ∷ [])) ≡ true
    by i sent false q = refl
    by i sent true q =
        or_right (not true || is_acked i.enl.value h || has (is_recovery i.rm.value) h) (has (names i) (record_after t h ∷ []))
        (or_left (names i (record_after t h)) false (pair_there h k i sent (coordinate h).desks (desks_managed h k) (noted_recorded i.enl h k marked q)))

-- Who was finished before the last stop is finished as long as the coordinator stands stopped.
still_recovered : (h : List Entry) (x : Entry) (i : Info) → (not (has (is_prepared_got i.enl.value) h) || is_acked i.enl.value h || has (is_recovery i.rm.value) h) ≡ true
    → (not (has (is_prepared_got i.enl.value) h) || is_acked i.enl.value h || (is_recovery i.rm.value x || has (is_recovery i.rm.value) h)) ≡ true
still_recovered h x i t = by (not (has (is_prepared_got i.enl.value) h)) (is_acked i.enl.value h) (is_recovery i.rm.value x) (has (is_recovery i.rm.value) h) t
  where
    by : (a b c d : Bool) → (a || b || d) ≡ true → (a || b || (c || d)) ≡ true
    by true b c d t = refl
    by false true c d t = refl
    by false false c d t = or_right c d t

done_still : (h : List Entry) → WireRun h → is_stopped h ≡ true → each (is_done_there (before_last_stop h)) (all_of enlist_got (before_last_stop h)) ≡ true → each (is_done_there h) (all_of enlist_got h) ≡ true
done_still [] w s t = absurd cc
done_still (Stopped ∷ h) w s t = t
done_still (Restarted found ∷ h) w s t = absurd cc
done_still (Recovered r ∷ h) w s t = each_more (is_done_there h) (is_done_there (Recovered r ∷ h)) (still_recovered h (Recovered r)) (all_of enlist_got h) (done_still h w.1 s t)
done_still (Got Begin d m ∷ h) w s t = done_still h w.1 s t
done_still (Got Voter d m ∷ h) w s t = done_still h w.1 s t
done_still (Got (Enl e) Up m ∷ h) w s t = absurd (nothing_up (Enl e) m h s w.0)
done_still (Got (Enl e) Down m ∷ h) w s t = done_still h w.1 s t
done_still (Got (Again e) Up m ∷ h) w s t = absurd (nothing_up (Again e) m h s w.0)
done_still (Got (Again e) Down m ∷ h) w s t = done_still h w.1 s t
done_still (x ∷ h) w s t = done_still h w.1 s t

-- so no record has to name them
done_named : (h : List Entry) (rs : List CommitRecord) → each (is_done_there h) (all_of enlist_got h) ≡ true → are_named h rs ≡ true
done_named h rs t = each_more (is_done_there h) (λ i. is_done_there h i || has (names i) rs) (λ i s. or_left (is_done_there h i) (has (names i) rs) s) (all_of enlist_got h) t

-- Of records of which at most one has an identifier that one alone is found.
only_found : (id : ℕ) (rs : List CommitRecord) (r : CommitRecord) → AtMostOne id rs → first_of id rs ≡ Some r → filter (is_record_of id) rs ≡ r ∷ []
only_found id [] r one f = absurd cc
only_found id (x ∷ rs) r one f = by (is_record_of id x) one f (only_found id rs r)
  where
    is_it : Some x ≡ Some r → x ≡ r
    is_it e = cc

    none : (ys : List CommitRecord) → length (x ∷ ys) ≤ 1 → ys ≡ []
    none [] k = refl
    none (y ∷ ys) k = absurd (omega (arith, k))

    by : (b : Bool) → length (if b then x ∷ filter (is_record_of id) rs else filter (is_record_of id) rs) ≤ 1 → (if b then Some x else first_of id rs) ≡ Some r
        → (AtMostOne id rs → first_of id rs ≡ Some r → filter (is_record_of id) rs ≡ r ∷ []) → (if b then x ∷ filter (is_record_of id) rs else filter (is_record_of id) rs) ≡ r ∷ []
    by true k f ih = (λ z. is_it f z ∷ none (filter (is_record_of id) rs) k z)
    by false k f ih = ih k f

-- What a transaction keeps, and its history, tell of the law.
history_keeps : (x : TxState) → IsRecordKept x → tied x.world.past ≡ true → Keeps x.world.past
history_keeps x kept sound = run_keeps (IsIn x.world.calls) (number_of x.transaction) kept.own.0 x.world kept.once kept.own.1 sound

-- its record, where that is the one that is found
own_record : (x : TxState) (rs : List CommitRecord) → NamesPrepared x → Fits x rs → first_of (id_of x) rs ≡ x.ours → is_some x.ours ≡ true → filter (is_record_of (id_of x)) rs ≡ record_after (number_of x.transaction) x.world.past ∷ []
own_record x rs named fits found some = only_found (id_of x) rs (record_after (number_of x.transaction) x.world.past) fits.one (found ∙ named some)

-- The log is up: where there is a record by the history, it is the one that the coordinator writes.
pub written_up : (x : TxState) (rs : List CommitRecord) → IsRecordKept x → NamesPrepared x → (core x.world).stopped ≡ false → Fits x rs → has_mark x.world.past ≡ true → is_some x.ours ≡ has_mark x.world.past
    → filter (is_record_of (id_of x)) rs ≡ record_after (number_of x.transaction) x.world.past ∷ []
written_up x rs kept named runs fits marked there = own_record x rs named fits (one_found (id_of x) x.ours x.unsure rs (kept.ours.sure runs) fits) (there ∙ marked)

pub named_up : (x : TxState) (rs : List CommitRecord) → IsRecordKept x → tied x.world.past ≡ true → has_mark x.world.past ≡ true
    → filter (is_record_of (id_of x)) rs ≡ record_after (number_of x.transaction) x.world.past ∷ [] → are_named x.world.past (filter (is_record_of (id_of x)) rs) ≡ true
named_up x rs kept sound marked is =
    subst (λ (qs : List CommitRecord). are_named x.world.past qs ≡ true) (sym is) (record_names (number_of x.transaction) x.world.past (history_keeps x kept sound) marked)

-- Whatever records fit a transaction: none of its identifier is there, or the one that the coordinator writes,
pub written_there : (x : TxState) (rs : List CommitRecord) → NamesPrepared x → Fits x rs → (first_of (id_of x) rs ≡ None → filter (is_record_of (id_of x)) rs ≡ [])
    → (filter (is_record_of (id_of x)) rs ≡ []) ⊎ (filter (is_record_of (id_of x)) rs ≡ record_after (number_of x.transaction) x.world.past ∷ [])
written_there x rs named fits none = elim fits.tie [ inl e ↦ by x.ours refl e | inr e ↦ inl (none e.0) ]
  where
    by : (o : Option CommitRecord) → x.ours ≡ o → first_of (id_of x) rs ≡ x.ours → (filter (is_record_of (id_of x)) rs ≡ []) ⊎ (filter (is_record_of (id_of x)) rs ≡ record_after (number_of x.transaction) x.world.past ∷ [])
    by None q e = inl (none (e ∙ q))
    by (Some r) q e = inr (own_record x rs named fits e (ap (λ (o : Option CommitRecord). is_some o) q))

-- and each that isn't finished is named, where there is a record by the history: where none is found its freeing was tried before the last stop, and then all were finished.
pub named_there : (x : TxState) (rs : List CommitRecord) → IsRecordKept x → NamesPrepared x → tied x.world.past ≡ true → Fits x rs → has_mark x.world.past ≡ true → are_named x.world.past (filter (is_record_of (id_of x)) rs) ≡ true
named_there x rs kept named sound fits marked = elim fits.tie [ inl e ↦ named_up x rs kept sound marked (own_record x rs named fits e (tried.kept marked)) | inr e ↦ freed e.1 ]
  where
    tried : IsTried x.world.past (record { ours = x.ours; unsure = x.unsure; life = x.life })
    tried = kept.tried sound

    stopped : x.unsure ≡ true → (b : Bool) → (core x.world).stopped ≡ b → (core x.world).stopped ≡ true
    stopped u true q = q
    stopped u false q = absurd (not_both x.unsure u (kept.ours.sure q))

    freed : x.unsure ≡ true → are_named x.world.past (filter (is_record_of (id_of x)) rs) ≡ true
    freed u =
        let h = x.world.past in
        let can : can_free (before_last_stop h) ≡ true = subst (λ b. (not b || can_free (before_last_stop h)) ≡ true) marked (tried.unsure u) in
        let done = and_right (has_mark (before_last_stop h)) (each (is_done_there (before_last_stop h)) (all_of enlist_got (before_last_stop h))) can in
        done_named h (filter (is_record_of (id_of x)) rs)
        (done_still h (wire_run (IsIn x.world.calls) (number_of x.transaction) kept.own.0 x.world kept.own.1) (sym (stopped_same h) ∙ stopped u (core x.world).stopped refl) done)

-- A record that is gone was freed, and then all were finished. So where there ever was one, each that isn't finished is named.
as_enlist : (i : Info) (x : Entry) → is_enlist_as i.enl.value i.rm.value x ≡ true → is_enlist_got i.enl.value x ≡ true
as_enlist i (Got (Enl f) Up (EnlistEnlist j)) t = and_left (i.enl.value == f.value) (i.rm.value == j.rm.value) t
as_enlist i _ t = absurd cc

ever_named : (h : List Entry) (rs : List CommitRecord) → Keeps h → AreFreed h → (has_mark h ≡ true → are_named h rs ≡ true) → has is_record h ≡ true → are_ever_named h rs ≡ true
ever_named h rs k freed named r = by (has_mark h) refl
  where
    wider : (a b c : Bool) → (a || c) ≡ true → (a || b || c) ≡ true
    wider true b c t = refl
    wider false b c t = or_right b c t

    gone : (i : Info) → has (is_enlist_by i.enl.value i.rm.value) h ≡ true → IsDone i.enl h → (is_done_there h i || is_finished_there (observe h) i.enl.value) ≡ true
    gone i sent (inl f) =
        or_right (is_done_there h i) (is_finished_there (observe h) i.enl.value)
        (finished_seen i.enl.value h ∙ or_left (is_finished i.enl.value h) (is_handed (latest handed_of h) i.enl.value) f)
    gone i sent (inr w) =
        let manager : i.rm.value ≡ w.0 = one_manager i.enl i.rm.value w.0 h k sent w.1 in
        or_left (is_done_there h i) (is_finished_there (observe h) i.enl.value)
        (or_right (not (has (is_prepared_got i.enl.value) h) || is_acked i.enl.value h) (has (is_recovery i.rm.value) h) (subst (λ n. has (is_recovery n) h ≡ true) (sym manager) (recovered_seen w.0 h w.2)))

    by : (b : Bool) → has_mark h ≡ b → are_ever_named h rs ≡ true
    by true m =
        each_more (λ i. is_done_there h i || has (names i) rs) (λ i. is_done_there h i || is_finished_there (observe h) i.enl.value || has (names i) rs)
        (λ i t. wider (is_done_there h i) (is_finished_there (observe h) i.enl.value) (has (names i) rs) t) (all_of enlist_got h) (named m)
    by false m =
        each_info (λ i. is_done_there h i || is_finished_there (observe h) i.enl.value || has (names i) rs) h k
        (λ i s. or_left (is_done_there h i || is_finished_there (observe h) i.enl.value) (has (names i) rs)
        (gone i (enlist_by i.enl i.rm.value h k s) (freed r m i.enl (has_more (is_enlist_as i.enl.value i.rm.value) (is_enlist_got i.enl.value) (as_enlist i) h s))))

pub ever_there : (x : TxState) (rs : List CommitRecord) → IsRecordKept x → tied x.world.past ≡ true → (has_mark x.world.past ≡ true → are_named x.world.past rs ≡ true) → has is_record x.world.past ≡ true → are_ever_named x.world.past rs ≡ true
ever_there x rs kept sound named r =
    ever_named x.world.past rs (history_keeps x kept sound) (ran_returning (IsIn x.world.calls) (number_of x.transaction) kept.own.0 x.world kept.once kept.own.1 sound).freed named r
