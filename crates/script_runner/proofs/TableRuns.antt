-- A run over a table is one as the top call promises it, over a log that had no record.
use Rattle.std.proofs.Common.{◌≡◌, ℕ, ◌+◌, ◌<◌, Bool, ◌&&◌, List, [], ◌∷◌, ◌++◌, length, map, take, ap, refl, sym, ◌∙◌, subst, get_or}
use Rattle.std.proofs.Math.Bool.{and-true}
use Rattle.std.proofs.lemmas.List.{take_more}
use Rattle.std.specs.Prelude.{Result, Ok, Err, IfOk}
use Rattle.dtx_values.specs.declared.number.RmNo.{RmNo}
use Rattle.dtx_values.specs.declared.script.Line.{Line}
use Rattle.dtx_model.specs.Caused.{Manager, Volatiles}
use Rattle.dtx_model.specs.Log.{CommitRecord}
use Rattle.dtx_model.specs.Outcome.{is_empty}
use Rattle.dtx_model.specs.Traces.{Placed}
use Rattle.heard_notes.specs.declared.put.Put.{Put}
use Rattle.map_run.specs.Rows.{row_of}
use Rattle.map_run.specs.Runs.{IsTableRun as IsMapRun}
use Rattle.store_run.specs.Runs.{IsTableRun as IsStoreRun}
use Rattle.put_lines.specs.Rows.{pair_of, pairs_of}
use Rattle.put_lines.specs.declared.table.TableRow.{TableRow}
use Rattle.replay_runs.specs.Lawful.{IsLawful}
use Rattle.replay_runs.specs.Run.{IsRunOfBy}
use Rattle.tx_map.specs.declared.write.MapEntry.{MapEntry}
use Rattle.script_runner.specs.Tables.{IsTableOf}

-- where the log had no record, whether the disk is honest says all
honest_alone : (honest : Bool) (rs : List CommitRecord) → rs ≡ [] → (honest && is_empty rs) ≡ honest
honest_alone honest rs none = ap (λ (xs : List CommitRecord). honest && is_empty xs) none ∙ and-true honest

-- a run over a map, and one over a store
of_map : (s : List Line) (ps : List Put) (from to : ℕ) (honest : Bool) (rs : List CommitRecord) (rows others : List (ℕ × ℕ)) (T : List Placed) → rs ≡ [] → others ≡ rows
    → IsMapRun s ps from to honest (is_empty rs) rows T → IsTableOf Volatiles s ps from to honest others T
of_map s ps from to honest rs rows others T none equal run =
    record {
      ran = subst (λ (h : Bool). IsRunOfBy s Volatiles from to h T) (honest_alone honest rs none) run.ran;
      lawful = subst (λ (f : Bool). IsLawful honest f s T) (ap is_empty none) run.lawful;
      table = λ tied. equal ∙ run.table tied;
      willing = λ tied slots. run.willing tied;
    }

of_store : (m : RmNo) (s : List Line) (ps : List Put) (from to : ℕ) (honest : Bool) (rs : List CommitRecord) (rows others : List (ℕ × ℕ)) (T : List Placed) → rs ≡ [] → others ≡ rows
    → IsStoreRun s m ps from to honest (is_empty rs) rows T → IsTableOf (Manager m) s ps from to honest others T
of_store m s ps from to honest rs rows others T none equal run =
    record {
      ran = subst (λ (h : Bool). IsRunOfBy s (Manager m) from to h T) (honest_alone honest rs none) run.ran;
      lawful = subst (λ (f : Bool). IsLawful honest f s T) (ap is_empty none) run.lawful;
      table = λ tied. equal ∙ run.table tied;
      willing = λ tied slots. run.willing tied slots;
    }

-- so where its rows came, and nothing is said where none did
pub rows_of_map : {E V : Type 0} (pairs : V → List (ℕ × ℕ)) (r : Result V E) (s : List Line) (ps : List Put) (from to : ℕ) (honest : Bool) (rs : List CommitRecord) (rows : List (ℕ × ℕ)) (T : List Placed) → rs ≡ []
    → IfOk r (λ v. pairs v ≡ rows) → IsMapRun s ps from to honest (is_empty rs) rows T → IfOk r (λ v. (U : List Placed) × IsTableOf Volatiles s ps from to honest (pairs v) U)
rows_of_map pairs (Ok v) s ps from to honest rs rows T none equal run = (T, of_map s ps from to honest rs rows (pairs v) T none equal run)
rows_of_map pairs (Err e) s ps from to honest rs rows T none equal run = equal

pub rows_of_store : {E V : Type 0} (pairs : V → List (ℕ × ℕ)) (r : Result V E) (m : RmNo) (s : List Line) (ps : List Put) (from to : ℕ) (honest : Bool) (rs : List CommitRecord) (rows : List (ℕ × ℕ)) (T : List Placed) → rs ≡ []
    → IfOk r (λ v. pairs v ≡ rows) → IsStoreRun s m ps from to honest (is_empty rs) rows T → IfOk r (λ v. (U : List Placed) × IsTableOf (Manager m) s ps from to honest (pairs v) U)
rows_of_store pairs (Ok v) m s ps from to honest rs rows T none equal run = (T, of_store m s ps from to honest rs rows (pairs v) T none equal run)
rows_of_store pairs (Err e) m s ps from to honest rs rows T none equal run = equal

map_more : (xs : List TableRow) (r : TableRow) → pairs_of (xs ++ r ∷ []) ≡ pairs_of xs ++ pair_of r ∷ []
map_more [] r = refl
map_more (x ∷ xs) r = ap (λ (ys : List (ℕ × ℕ)). pair_of x ∷ ys) (map_more xs r)

pub pairs_more : (xs : List TableRow) (ys : List (ℕ × ℕ)) (i : ℕ) (d : ℕ × ℕ) (r : TableRow) → i < length ys → pair_of r ≡ get_or ys i d → pairs_of xs ≡ take i ys → pairs_of (xs ++ r ∷ []) ≡ take (i + 1) ys
pairs_more xs ys i d r less one so_far =
    map_more xs r
    ∙ ap (λ (p : ℕ × ℕ). pairs_of xs ++ p ∷ []) one
    ∙ ap (λ (ps : List (ℕ × ℕ)). ps ++ get_or ys i d ∷ []) so_far
    ∙ sym (take_more ys i d less)

entries_more : (xs : List MapEntry) (x : MapEntry) → map row_of (xs ++ x ∷ []) ≡ map row_of xs ++ row_of x ∷ []
entries_more [] x = refl
entries_more (y ∷ xs) x = ap (λ (ys : List (ℕ × ℕ)). row_of y ∷ ys) (entries_more xs x)

-- one row more for one entry more
pub rows_more : (rows : List TableRow) (xs : List MapEntry) (i : ℕ) (d : MapEntry) (r : TableRow) → i < length xs → pair_of r ≡ row_of (get_or xs i d) → pairs_of rows ≡ map row_of (take i xs) → pairs_of (rows ++ r ∷ []) ≡ map row_of (take (i + 1) xs)
rows_more rows xs i d r less one so_far =
    map_more rows r
    ∙ ap (λ (p : ℕ × ℕ). pairs_of rows ++ p ∷ []) one
    ∙ ap (λ (ps : List (ℕ × ℕ)). ps ++ row_of (get_or xs i d) ∷ []) so_far
    ∙ sym (entries_more (take i xs) (get_or xs i d))
    ∙ sym (ap (λ (ys : List MapEntry). map row_of ys) (take_more xs i d less))
