-- What an append or a free leaves of an honest log fits what the coordinator keeps then, and the records of the others stay.
use Rattle.std.proofs.Common.{◌≡◌, ◌∙◌, inl, inr, ℕ, Bool, true, false, List, Option, Some, None, refl, sym, ap, subst}
use Rattle.std.specs.Prelude.{IfOk, Result, Ok, IsTrue}
use Rattle.std.specs.List.{insert}
use Rattle.dtx_model.specs.Log.{CommitRecord, first_of, log_has, without_first_of}
use Rattle.coordinator_log.specs.Crash.{AllHold, AllHoldEither}
use Rattle.coordinator_log.specs.Slots.{open_records}
use Rattle.coordinator_log.specs.State.{LogState}
use Rattle.world_parts.specs.AtLog.{IsFit, Keeps, LeavesSlots, of_others}
use Rattle.world_parts.proofs.Records.{first_insert, first_without, found_insert, one_insert, one_where_none, others_insert, others_without}

-- where nothing is kept and nothing is unsure, the log has none
pub none_found : (id : ℕ) (o : Option CommitRecord) (u : Bool) (rs : List CommitRecord) → o ≡ None → u ≡ false → IsFit id o u rs → first_of id rs ≡ None
none_found id o u rs n s f = elim f.tie [ inl e ↦ e ∙ n | inr e ↦ e.0 ]

-- where one is kept and nothing is unsure, the log has it
pub one_found : (id : ℕ) (o : Option CommitRecord) (u : Bool) (rs : List CommitRecord) → u ≡ false → IsFit id o u rs → first_of id rs ≡ o
one_found id o u rs s f = elim f.tie [ inl e ↦ e | inr e ↦ absurd (never (sym s ∙ e.1)) ]
  where
    never : false ≡ true → ⊥
    never e = absurd cc

-- The records with the new one fit, whatever is unsure.
fit_insert : (id k : ℕ) (r : CommitRecord) (u : Bool) (rs : List CommitRecord) → r.id ≡ id → first_of id rs ≡ None → IsFit id (Some r) u (insert rs k r)
fit_insert id k r u rs e n = record { tie = inl (first_insert id k r rs e n); one = one_insert id k r rs e n }

-- those without it fit where the append was stopped
fit_unsure : (id : ℕ) (o : Option CommitRecord) (rs : List CommitRecord) → first_of id rs ≡ None → IsFit id o true rs
fit_unsure id o rs n = record { tie = inr (n, refl); one = one_where_none id rs n }

same_ok : (c : List ℕ) (rs : List CommitRecord) (P : List CommitRecord → Type 0) → log_has c ≡ Ok rs → P rs → IfOk (log_has c) P
same_ok c rs P e p = let Q : Result (List CommitRecord) ℕ → Type 0 = λ x. IfOk x P in subst Q (sym e) p

-- An append that was done
pub keeps_appended : {D : Type 0} (image : D → List ℕ → Type 0) (id k : ℕ) (r : CommitRecord) (o : Option CommitRecord) (u v : Bool) (from to : LogState D) → r.id ≡ id
    → first_of id (open_records from.slots) ≡ None → open_records to.slots ≡ insert (open_records from.slots) k r → AllHold (image to.disk) (open_records to.slots)
    → Keeps image id (IsFit id o u) (IsFit id (Some r) v) from to
keeps_appended image id k r o u v from to e n same held =
    let P : List CommitRecord → Type 0 = λ rs. IsFit id (Some r) v rs in
    let fits : IsFit id (Some r) v (open_records to.slots) = subst P (sym same) (fit_insert id k r v (open_records from.slots) e n) in
    let others : of_others id (open_records to.slots) ≡ of_others id (open_records from.slots) = ap (of_others id) same ∙ others_insert id k r (open_records from.slots) e in
    record {
      fits = λ up. fits;
      imaged = λ a c i. same_ok c (open_records to.slots) (IsFit id (Some r) v) (held c i) fits;
      logs = λ a c i. (open_records to.slots, held c i);
      others = others;
      others_imaged = λ c i. inr (same_ok c (open_records to.slots) (λ rs. of_others id rs ≡ of_others id (open_records from.slots)) (held c i) others);
    }

-- one that was stopped
pub keeps_stopped : {D : Type 0} (image : D → List ℕ → Type 0) (id k : ℕ) (r : CommitRecord) (o : Option CommitRecord) (u : Bool) (from to : LogState D) → r.id ≡ id
    → first_of id (open_records from.slots) ≡ None → to.slots ≡ from.slots → (IsTrue to.is_up → ⊥) → AllHoldEither (image to.disk) (open_records from.slots) (insert (open_records from.slots) k r)
    → Keeps image id (IsFit id o u) (IsFit id (Some r) true) from to
keeps_stopped image id k r o u from to e n same down held =
    record {
      fits = λ up. absurd (down up);
      imaged = λ a c i. elim (held c i) [
        | inl h ↦ same_ok c (open_records from.slots) (IsFit id (Some r) true) h (fit_unsure id (Some r) (open_records from.slots) n)
        | inr h ↦ same_ok c (insert (open_records from.slots) k r) (IsFit id (Some r) true) h (fit_insert id k r true (open_records from.slots) e n)
      ];
      logs = λ a c i. elim (held c i) [ inl h ↦ (open_records from.slots, h) | inr h ↦ (insert (open_records from.slots) k r, h) ];
      others = ap (λ (ss : List (Option CommitRecord)). of_others id (open_records ss)) same;
      others_imaged = λ c i. inr (elim (held c i) [
        | inl h ↦ same_ok c (open_records from.slots) (λ rs. of_others id rs ≡ of_others id (open_records from.slots)) h refl
        | inr h ↦ same_ok c (insert (open_records from.slots) k r) (λ rs. of_others id rs ≡ of_others id (open_records from.slots)) h (others_insert id k r (open_records from.slots) e)
      ]);
    }

-- A free that was done
pub keeps_freed : {D : Type 0} (image : D → List ℕ → Type 0) (id : ℕ) (o : Option CommitRecord) (u v : Bool) (from to : LogState D) → IsFit id o u (open_records from.slots)
    → open_records to.slots ≡ without_first_of id (open_records from.slots) → AllHold (image to.disk) (open_records to.slots) → Keeps image id (IsFit id o u) (IsFit id None v) from to
keeps_freed image id o u v from to f same held =
    let P : List CommitRecord → Type 0 = λ rs. IsFit id None v rs in
    let gone : first_of id (without_first_of id (open_records from.slots)) ≡ None = first_without id (open_records from.slots) f.one in
    let fits : IsFit id None v (open_records to.slots) = subst P (sym same) (record { tie = inl gone; one = one_where_none id (without_first_of id (open_records from.slots)) gone }) in
    let others : of_others id (open_records to.slots) ≡ of_others id (open_records from.slots) = ap (of_others id) same ∙ others_without id (open_records from.slots) in
    record {
      fits = λ up. fits;
      imaged = λ a c i. same_ok c (open_records to.slots) (IsFit id None v) (held c i) fits;
      logs = λ a c i. (open_records to.slots, held c i);
      others = others;
      others_imaged = λ c i. inr (same_ok c (open_records to.slots) (λ rs. of_others id rs ≡ of_others id (open_records from.slots)) (held c i) others);
    }

-- one that was stopped
pub keeps_unfreed : {D : Type 0} (image : D → List ℕ → Type 0) (id : ℕ) (o : Option CommitRecord) (u : Bool) (from to : LogState D) → u ≡ false → IsFit id o u (open_records from.slots)
    → to.slots ≡ from.slots → (IsTrue to.is_up → ⊥) → AllHoldEither (image to.disk) (open_records from.slots) (without_first_of id (open_records from.slots))
    → Keeps image id (IsFit id o u) (IsFit id o true) from to
keeps_unfreed image id o u from to sure f same down held =
    let gone : first_of id (without_first_of id (open_records from.slots)) ≡ None = first_without id (open_records from.slots) f.one in
    record {
      fits = λ up. absurd (down up);
      imaged = λ a c i. elim (held c i) [
        | inl h ↦ same_ok c (open_records from.slots) (IsFit id o true) h (record { tie = inl (one_found id o u (open_records from.slots) sure f); one = f.one })
        | inr h ↦ same_ok c (without_first_of id (open_records from.slots)) (IsFit id o true) h (fit_unsure id o (without_first_of id (open_records from.slots)) gone)
      ];
      logs = λ a c i. elim (held c i) [ inl h ↦ (open_records from.slots, h) | inr h ↦ (without_first_of id (open_records from.slots), h) ];
      others = ap (λ (ss : List (Option CommitRecord)). of_others id (open_records ss)) same;
      others_imaged = λ c i. inr (elim (held c i) [
        | inl h ↦ same_ok c (open_records from.slots) (λ rs. of_others id rs ≡ of_others id (open_records from.slots)) h refl
        | inr h ↦ same_ok c (without_first_of id (open_records from.slots)) (λ rs. of_others id rs ≡ of_others id (open_records from.slots)) h (others_without id (open_records from.slots))
      ]);
    }

-- where the log and what is kept of it are as before
pub keeps_same : {D : Type 0} (image : D → List ℕ → Type 0) (id : ℕ) (o : Option CommitRecord) (u : Bool) (from to : LogState D) → to ≡ from
    → (IsTrue from.is_up → IsFit id o u (open_records from.slots)) → Keeps image id (IsFit id o u) (IsFit id o u) from to
keeps_same {D} image id o u from to same f =
    let P : LogState D → Type 0 = λ l. Keeps image id (IsFit id o u) (IsFit id o u) from l in
    subst P (sym same) (record { fits = f; imaged = λ a. a; logs = λ a. a; others = refl; others_imaged = λ c i. inl i })

-- What an act leaves of the records in memory, whatever the disk is: an append that was done,
pub slots_appended : {D : Type 0} (id k : ℕ) (r : CommitRecord) (o : Option CommitRecord) (from to : LogState D) → r.id ≡ id → open_records to.slots ≡ insert (open_records from.slots) k r
    → LeavesSlots id o (Some r) from to
slots_appended id k r o from to e same =
    record { others = ap (of_others id) same ∙ others_insert id k r (open_records from.slots) e; had = λ h up s n. found_insert id k r (open_records from.slots) e (ap (first_of id) (sym same) ∙ n) }

-- a free that was done,
pub slots_freed : {D : Type 0} (id : ℕ) (o : Option CommitRecord) (from to : LogState D) → open_records to.slots ≡ without_first_of id (open_records from.slots) → LeavesSlots id o None from to
slots_freed id o from to same = record { others = ap (of_others id) same ∙ others_without id (open_records from.slots); had = λ h up s. absurd cc }

-- one that was stopped,
pub slots_stopped : {D : Type 0} (id : ℕ) (o p : Option CommitRecord) (from to : LogState D) → to.slots ≡ from.slots → (IsTrue to.is_up → ⊥) → LeavesSlots id o p from to
slots_stopped id o p from to same down = record { others = ap (λ (ss : List (Option CommitRecord)). of_others id (open_records ss)) same; had = λ h up. absurd (down up) }

-- and one that left the log as it was.
pub slots_same : {D : Type 0} (id : ℕ) (o : Option CommitRecord) (from to : LogState D) → to ≡ from → LeavesSlots id o o from to
slots_same {D} id o from to same = subst (λ (l : LogState D). LeavesSlots id o o from l) (sym same) (record { others = refl; had = λ h. h })

pub slots_lost : {D : Type 0} (id : ℕ) (o : Option CommitRecord) (from to : LogState D) → to ≡ from → LeavesSlots id o None from to
slots_lost {D} id o from to same = subst (λ (l : LogState D). LeavesSlots id o None from l) (sym same) (record { others = refl; had = λ h up s. absurd cc })
