-- A log that had no record, on an honest disk, has room for each append of a run.
use Rattle.std.proofs.Common.{◌≡◌, ◌⊎◌, ◌≤◌, ◌<◌, ◌-◌, ◌==◌, ◌&&◌, ℕ, Bool, true, false, not, List, [], ◌∷◌, ◌++◌, length, arith, inl, inr, refl, ap, subst, ◌∙◌, if◌then◌else◌}
use Rattle.std.specs.Prelude.{IsTrue}
use Rattle.std.proofs.lemmas.List.Folds.{list_any-append}
use Rattle.dtx_values.specs.declared.entry.Entry.TheVariants.{Stopped}
use Rattle.dtx_values.specs.TxIds.{number_of}
use Rattle.dtx_values.specs.declared.tx_id.TxId.{TxId}
use Rattle.dtx_values.specs.declared.number.TxNo.{TxNo}
use Rattle.dtx_values.specs.declared.trace.Place.TheVariants.{Context, Log, Transaction}
use Rattle.dtx_model.specs.Log.{CommitRecord}
use Rattle.dtx_model.specs.Promotes.{identifier_of}
use Rattle.dtx_model.specs.Steps.{Full, Step, Coordinates, block_at}
use Rattle.dtx_model.specs.Traces.{Placed, history}
use Rattle.dtx_model.specs.Words.{has}
use Rattle.dtx_model.specs.World.{World}
use Rattle.dtx_model.proofs.Bools.{or_false, or_first, or_second}
use Rattle.coordinator_log.specs.Slots.{lowest_closed, open_records}
use Rattle.coordinator_log.specs.State.{LogState}
use Rattle.tx_world.specs.AtLog.{AtMostOne}
use Rattle.tx_world.specs.State.{TxState, sends_begin}
use Rattle.script_histories.specs.LogQuiet.{is_found_full, is_log_full}
use Rattle.turn_parts.proofs.Filling.{unfilled_block}
use Rattle.turn_parts.proofs.Room.{few_records, has_room}
use Rattle.replay_runs.specs.LogRun.{AreForeignSame, IsForeignKept}
use Rattle.replay_runs.specs.RunState.{AreNumbered, FitsLog, state_of}
use Rattle.replay_runs.proofs.Turns.{written}

-- A step that didn't find the log full writes nothing of that.
pub unfilled_written : (up : Bool) (t : ℕ) (w : World) (m : Step) → (m ≡ Coordinates Full → ⊥) → has is_log_full (written up t w m) ≡ false
unfilled_written up t w m room = by (sends_begin t w m && not up)
  where
    by : (b : Bool) → has is_log_full (if b then block_at t w m ++ Stopped ∷ [] else block_at t w m) ≡ false
    by true = list_any-append is_log_full (block_at t w m) (Stopped ∷ []) ∙ or_false (has is_log_full (block_at t w m)) false (unfilled_block t w m room) refl
    by false = unfilled_block t w m room

-- Records of transactions, of each one at most, and no others: an identifier is that of a transaction, or none has it.
each_once : (rs : List CommitRecord) → ((t : TxNo) → AtMostOne (identifier_of t.value) rs) → AreForeignSame [] rs → (id : ℕ) → AtMostOne id rs
each_once rs one none id = by (place id)
  where
    place : (id : ℕ) → ((18446744073709551616 < id) × (id ≤ 18446744073709551872)) ⊎ ((id ≤ 18446744073709551616) ⊎ (18446744073709551872 < id))
    place id = grind arith

    by : ((18446744073709551616 < id) × (id ≤ 18446744073709551872)) ⊎ ((id ≤ 18446744073709551616) ⊎ (18446744073709551872 < id)) → AtMostOne id rs
    by (inl (low, high)) =
        let t : TxNo = record { value = id - 18446744073709551616; in_range = (omega arith, omega arith) } in
        let same : identifier_of t.value ≡ id = omega arith in
        subst (λ (i : ℕ). AtMostOne i rs) same (one t)
    by (inr (inl low)) = omega (arith, ap length (none id (λ t e. let least = t.in_range.0 in absurd (omega arith))))
    by (inr (inr high)) = omega (arith, ap length (none id (λ t e. let most = t.in_range.1 in absurd (omega arith))))

few : (rs : List CommitRecord) → ((t : TxNo) → AtMostOne (identifier_of t.value) rs) → AreForeignSame [] rs → length rs ≤ 256
few rs one none = few_records rs (each_once rs one none) (λ id foreign. none id (λ t e. foreign t.value t.in_range.0 t.in_range.1 e))

-- So a gate is closed, where the log's records fit the transactions and none was there before.
pub never_full : {D : Type 0} (image : D → List ℕ → Type 0) (log : LogState D) (ws : List TxState) (before : List CommitRecord) → before ≡ [] → AreNumbered ws → IsTrue log.is_up → ((t : TxNo) → FitsLog image log (state_of t ws))
    → IsForeignKept image before log → lowest_closed log.slots ≡ 1024 → ⊥
never_full image log ws before empty numbered up fits foreign full =
    has_room log.slots
    (few (open_records log.slots) (λ t. subst (λ (u : TxId). AtMostOne (identifier_of (number_of u)) (open_records log.slots)) (numbered.numbered t) ((fits t).fits up).one)
    (subst (λ (rs : List CommitRecord). AreForeignSame rs (open_records log.slots)) empty (foreign.up up))) full

-- Where no append of a trace found the log full, none of a transaction did.
pub full_nowhere : (T : List Placed) → has is_found_full T ≡ false → (t : ℕ) → has is_log_full (history t T) ≡ false
full_nowhere [] k t = refl
full_nowhere ((Context a, x) ∷ T) k t = full_nowhere T k t
full_nowhere ((Log, x) ∷ T) k t = full_nowhere T k t
full_nowhere ((Transaction u, x) ∷ T) k t = by (t == u.value) (full_nowhere T (or_second (is_log_full x) (has is_found_full T) k) t)
  where
    by : (b : Bool) → has is_log_full (history t T) ≡ false → has is_log_full (if b then x ∷ history t T else history t T) ≡ false
    by true ih = or_false (is_log_full x) (has is_log_full (history t T)) (or_first (is_log_full x) (has is_found_full T) k) ih
    by false ih = ih
