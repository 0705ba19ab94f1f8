-- The replies that are due, row by row, where no enlistment stands at the coordinator.
use Rattle.std.proofs.Common.{◌≡◌, ◌<◌, ℕ, suc, true, List, [], ◌∷◌, ◌++◌, get_or, length, map, Option, Some, slice_get, refl, ap, sym, ◌∙◌}
use Rattle.std.specs.List.{flat_map}
use Rattle.std.proofs.lemmas.Option.{slice_get-get_or}
use Rattle.dtx_values.specs.declared.note.Note.{Note}
use Rattle.dtx_values.specs.declared.note.Plan.{Plan}
use Rattle.dtx_values.specs.declared.row.Row.{Row}
use Rattle.dtx_values.specs.Table.{rises_above}
use Rattle.dtx_model.specs.declared.branch.Branch.{Branch}
use Rattle.dtx_model.specs.Half.{Half}
use Rattle.dtx_model.specs.Observed.{Observed}
use Rattle.dtx_model.specs.Replies.{due_of, note_at, with_names}
use Rattle.dtx_model.specs.Steps.{StepName, replies_due}
use Rattle.half_parts.proofs.Due.{found_above}
use Rattle.world_parts.specs.Pending.{planned_to, reply_if, reply_step}
use Rattle.world_parts.proofs.Places.{replies_are}

-- the step of the enlistment with this row
abbrev pub row_step : (ℕ → Plan) → Observed → Row → List StepName
row_step p o x = reply_if x.number (planned_to (p x.number.value) (note_at o x.number.value (Some x)))

-- the note of a row of the table is that of its enlistment
note_of : (o : Observed) (k : ℕ) (x : Row) → rises_above 0 o.table ≡ true → slice_get o.table k ≡ Some x → due_of o x.number.value ≡ note_at o x.number.value (Some x)
unfolding due_of
note_of o k x rise e = ap (note_at o x.number.value) (found_above 0 o.table k x rise e).1

pub due_row : (o : Observed) (k : ℕ) (x : Row) → rises_above 0 o.table ≡ true → k < length o.table → x ≡ get_or o.table k x → due_of o x.number.value ≡ note_at o x.number.value (Some x)
due_row o k x rise within here = note_of o k x rise (slice_get-get_or {X = Row} o.table k x within ∙ ap Some (sym here))

-- the replies of these rows
of_rows : (p : ℕ → Plan) (o : Observed) (xs : List Row) → ((k : ℕ) (x : Row) → slice_get xs k ≡ Some x → due_of o x.number.value ≡ note_at o x.number.value (Some x))
    → flat_map (reply_step p o) (map (λ (x : Row). x.number) xs) ≡ flat_map (row_step p o) xs
of_rows p o [] due = refl
of_rows p o (x ∷ xs) due =
    ap (λ (n : Option Note). reply_if x.number (planned_to (p x.number.value) n) ++ flat_map (reply_step p o) (map (λ (y : Row). y.number) xs)) (due 0 x refl)
    ∙ ap (λ ms. row_step p o x ++ ms) (of_rows p o xs (λ k y e. due (suc k) y e))

pub row_replies_are : (p : ℕ → Plan) (h : Half) → rises_above 0 h.seen.table ≡ true → h.seen.branches ≡ [] → replies_due p h ≡ flat_map (row_step p h.seen) h.seen.table
row_replies_are p h rise none =
    replies_are p h
    ∙ ap (λ (bs : List Branch). flat_map (reply_step p h.seen) (with_names bs (map (λ (x : Row). x.number) h.seen.table))) none
    ∙ of_rows p h.seen h.seen.table (λ k x e. note_of h.seen k x rise e)
