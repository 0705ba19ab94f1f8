-- The tables of whose each enlistment and each clone is, line by line.
use Rattle.std.proofs.Common.{◌≡◌, ℕ, ◌+◌, ◌-◌, ◌<◌, ◌==◌, Bool, true, false, List, [], ◌∷◌, ◌++◌, Option, None, Some, get_or, length, set, Result, Ok, Err, if◌then◌else◌, inl, inr, refl, ap, arith, sym, ◌∙◌}
use Rattle.std.specs.Prelude.{OnOk}
use Rattle.std.proofs.lemmas.Bool.Decides.{eqb_tells, nat_tests}
use Rattle.std.proofs.lemmas.Grind.{get_or-set_at}
use Rattle.std.proofs.lemmas.List.{get_or-set_other}
use Rattle.dtx_values.specs.declared.script.Body.{Body}
use Rattle.dtx_values.specs.declared.script.Body.TheVariants.{Clone}
use Rattle.dtx_values.specs.declared.words.CloneKind.{CloneKind}
use Rattle.dtx_values.specs.declared.number.CloneNo.{CloneNo}
use Rattle.dtx_values.specs.declared.number.EnlNo.{EnlNo}
use Rattle.dtx_values.specs.declared.number.TxNo.{TxNo}
use Rattle.dtx_values.specs.declared.script.Line.{Line}
use Rattle.dtx_model.specs.Words.{latest, or_else}
use Rattle.dtx_model.specs.Calls.{clone_made, enlistment_made, transaction_of, transaction_with}
use Rattle.dtx_model.proofs.Histories.{past_of-snoc}
use Rattle.script_calls.specs.Plans.{ArePlanned}

-- the enlistment that one more line makes
transaction_with-snoc : (s : List Line) (l : Line) (e : ℕ) → transaction_with (s ++ l ∷ []) e ≡ or_else (enlistment_made e l.body) (transaction_with s e)
transaction_with-snoc s l e = ap (λ (h : List Line). latest (λ (m : Line). enlistment_made e m.body) h) (past_of-snoc s l)

-- the clone that one more line makes
transaction_of-snoc : (s : List Line) (l : Line) (c : ℕ) → transaction_of (s ++ l ∷ []) c ≡ or_else (clone_made c l.body) (transaction_of s c)
transaction_of-snoc s l c = ap (λ (h : List Line). latest (λ (m : Line). clone_made c m.body) h) (past_of-snoc s l)

-- the tables with what one more line says
pub planned-snoc : (s : List Line) (l : Line) (made new_made clones new_clones : List (Option TxNo)) → ArePlanned s made clones
    → ((e : EnlNo) → get_or new_made (e.value - 1) None ≡ or_else (enlistment_made e.value l.body) (get_or made (e.value - 1) None))
    → ((c : CloneNo) → get_or new_clones (c.value - 1) None ≡ or_else (clone_made c.value l.body) (get_or clones (c.value - 1) None)) → ArePlanned (s ++ l ∷ []) new_made new_clones
planned-snoc s l made new_made clones new_clones p slots clone_slots =
    record {
      enlistment = λ e. slots e ∙ (ap (λ (o : Option TxNo). or_else (enlistment_made e.value l.body) o) (p.enlistment e) ∙ sym (transaction_with-snoc s l e.value));
      clone = λ c. clone_slots c ∙ (ap (λ (o : Option TxNo). or_else (clone_made c.value l.body) o) (p.clone c) ∙ sym (transaction_of-snoc s l c.value));
    }

-- before the first line nothing is planned
pub planned-none : ArePlanned [] [] []
planned-none = record { enlistment = λ e. refl; clone = λ c. refl }

-- the first of two where the test passes, and else the second
chosen : {A : Type 0} {b : Bool} (x y : A) → b ≡ true → (if b then x else y) ≡ x
chosen x y k = rw k refl

passed : {A : Type 0} {b : Bool} (x y : A) → b ≡ false → (if b then x else y) ≡ y
passed x y k = rw k refl

-- after one enlistment's place was written
pub planned_put : (made new : List (Option TxNo)) (body : Body) (e : EnlNo) (t : TxNo) (place : ℕ) → place + 1 ≡ e.value
    → ((f : ℕ) → enlistment_made f body ≡ (if f == e.value then Some t else None))
    → ((k : ℕ) → get_or new k None ≡ (if k == place then Some t else get_or made k None))
    → (f : EnlNo) → get_or new (f.value - 1) None ≡ or_else (enlistment_made f.value body) (get_or made (f.value - 1) None)
planned_put made new body e t place at says put f =
    elim (eqb_tells f.value e.value) [
      | inl k ↦
          let there : ((f.value - 1) == place) ≡ true = grind (arith, nat_tests, at, k.1) in
          put (f.value - 1) ∙ chosen _ _ there ∙ ap (λ (o : Option TxNo). or_else o (get_or made (f.value - 1) None)) (sym (says f.value ∙ chosen _ _ k.0))
      | inr k ↦
          let other : ((f.value - 1) == place) ≡ false = grind (arith, nat_tests, at, k.1, f.in_range.0) in
          put (f.value - 1) ∙ passed _ _ other ∙ ap (λ (o : Option TxNo). or_else o (get_or made (f.value - 1) None)) (sym (says f.value ∙ passed _ _ k.0))
    ]

-- after one clone's place was written
pub owned_put : (clones new : List (Option TxNo)) (t : TxNo) (c : CloneNo) (kind : CloneKind) (place : ℕ) → place + 1 ≡ c.value
    → ((k : ℕ) → get_or new k None ≡ (if k == place then Some t else get_or clones k None))
    → (f : CloneNo) → get_or new (f.value - 1) None ≡ or_else (clone_made f.value (Clone t c kind)) (get_or clones (f.value - 1) None)
owned_put clones new t c kind place at put f =
    elim (eqb_tells f.value c.value) [
      | inl k ↦
          let there : ((f.value - 1) == place) ≡ true = grind (arith, nat_tests, at, k.1) in
          put (f.value - 1) ∙ chosen _ _ there ∙ ap (λ (o : Option TxNo). or_else o (get_or clones (f.value - 1) None)) (sym (chosen _ _ k.0))
      | inr k ↦
          let other : ((f.value - 1) == place) ≡ false = grind (arith, nat_tests, at, k.1, f.in_range.0) in
          put (f.value - 1) ∙ passed _ _ other ∙ ap (λ (o : Option TxNo). or_else o (get_or clones (f.value - 1) None)) (sym (passed _ _ k.0))
    ]

-- an item was put at a place of a table
pub put_there : {A : Type 0} (xs ys : List A) (place : ℕ) (blank item : A) → place < length ys → ((k : ℕ) → get_or ys k blank ≡ get_or xs k blank)
    → (k : ℕ) → get_or (set ys place item) k blank ≡ (if k == place then item else get_or xs k blank)
put_there xs ys place blank item room same k =
    elim (eqb_tells k place) [
      | inl e ↦ get_or-set_at ys place k item blank e.1 room ∙ sym (chosen _ _ e.0)
      | inr e ↦ get_or-set_other ys place k item blank e.1 ∙ same k ∙ sym (passed _ _ e.0)
    ]

-- what follows from what is said of Ok
pub on_ok : {E : Type 0} {A B : Type 0} (r : Result (Unit {0}) E) → (A → B) → OnOk r A → OnOk r B
on_ok (Ok x) f k = f k
on_ok (Err e) f k = k
