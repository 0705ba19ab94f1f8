-- What a stop leaves of the record of the act that it stopped, over a disk that obeys.
use Rattle.std.proofs.Common.{◌≡◌, ◌⊎◌, ◌∙◌, inl, inr, ℕ, Bool, true, false, List, Option, Some, None, is_some, sym, ap, subst}
use Rattle.std.specs.Prelude.{IsTrue, Ok, if◌then◌else◌}
use Rattle.std.specs.List.{insert}
use Rattle.outside.specs.Faults.{Rose}
use Rattle.dtx_model.specs.Coordinated.{Coordinated, may_log}
use Rattle.dtx_model.specs.Log.{CommitRecord, first_of, log_has, without_first_of}
use Rattle.coordinator_log.specs.Crash.{with_record}
use Rattle.coordinator_log.specs.Slots.{lowest_closed, open_records}
use Rattle.coordinator_log.specs.State.{LogState}
use Rattle.coordinator_log.specs.Stop.{is_found_after_append, is_found_after_free}
use Rattle.coordinator_log.specs.declared.stop.ArmedStop.{ArmedStop}
use Rattle.world_parts.specs.AtLog.{AtMostOne, IsFit}
use Rattle.world_parts.specs.Found.{IsLeftAsWished}
use Rattle.world_parts.proofs.Answering.{never_both}
use Rattle.world_parts.proofs.Fitting.{one_found}
use Rattle.world_parts.proofs.Records.{first_insert, first_without}

-- Nothing stopped a log that is still up, nor one that is as it was.
pub wished_up : {D : Type 0} (faults : D → ℕ) (seen : D → List ℕ) (k : Coordinated) (id : ℕ) (from to : LogState D) → IsTrue to.is_up → IsLeftAsWished faults seen k id from to
wished_up faults seen k id from to up = λ was down s armed. absurd (never_both to.is_up up down)

pub wished_same : {D : Type 0} (faults : D → ℕ) (seen : D → List ℕ) (k : Coordinated) (id : ℕ) (from to : LogState D) → to ≡ from → IsLeftAsWished faults seen k id from to
wished_same {D} faults seen k id from to same = λ was down s armed. absurd (never_both from.is_up was (ap (λ (l : LogState D). l.is_up) (sym same) ∙ down))

-- An append: there was no record, and there is one where the stop leaves it.
appended_there : (id k : ℕ) (r : CommitRecord) (rs : List CommitRecord) → r.id ≡ id → first_of id rs ≡ None → (b : Bool) → is_some (first_of id (if b then insert rs k r else rs)) ≡ b
appended_there id k r rs e none true = ap is_some (first_insert id k r rs e none)
appended_there id k r rs e none false = ap is_some none

pub wished_append : {D : Type 0} (faults : D → ℕ) (seen : D → List ℕ) (k : Coordinated) (id : ℕ) (r : CommitRecord) (from to : LogState D) → may_log k ≡ true → r.id ≡ id
    → (IsTrue from.is_up → first_of id (open_records from.slots) ≡ None) → Rose (faults from.disk) (faults to.disk) ⊎ (to.armed ≡ None)
    → (IsTrue from.is_up → (s : ArmedStop) → from.armed ≡ Some s → to.armed ≡ None
    → Rose (faults from.disk) (faults to.disk) ⊎ (log_has (seen to.disk) ≡ Ok (if is_found_after_append s.image s.passes then with_record r from.slots else open_records from.slots)))
    → IsLeftAsWished faults seen k id from to
wished_append faults seen k id r from to votes own none used found = λ up down s armed.
    let b = is_found_after_append s.image s.passes in
    elim used [
      | inl rose ↦ inl rose
      | inr unarmed ↦ elim (found up s armed unarmed) [
        | inl rose ↦ inl rose
        | inr held ↦ inr (
          if b then with_record r from.slots else open_records from.slots,
          held,
          appended_there id (lowest_closed from.slots) r (open_records from.slots) own (none up) b ∙ sym (ap (λ c. if c then b else is_found_after_free s.image) votes),
        )
      ]
    ]

-- A free: there was one record, and there is none where the stop leaves it.
freed_there : (id : ℕ) (rs : List CommitRecord) → is_some (first_of id rs) ≡ true → AtMostOne id rs → (b : Bool) → is_some (first_of id (if b then rs else without_first_of id rs)) ≡ b
freed_there id rs some one true = some
freed_there id rs some one false = ap is_some (first_without id rs one)

pub wished_free : {D : Type 0} (faults : D → ℕ) (seen : D → List ℕ) (k : Coordinated) (id i : ℕ) (o : Option CommitRecord) (u : Bool) (from to : LogState D) → may_log k ≡ false → i ≡ id
    → is_some o ≡ true → u ≡ false → (IsTrue from.is_up → IsFit id o u (open_records from.slots)) → Rose (faults from.disk) (faults to.disk) ⊎ (to.armed ≡ None)
    → (IsTrue from.is_up → (s : ArmedStop) → from.armed ≡ Some s → to.armed ≡ None
    → Rose (faults from.disk) (faults to.disk) ⊎ (log_has (seen to.disk) ≡ Ok (if is_found_after_free s.image then open_records from.slots else without_first_of i (open_records from.slots))))
    → IsLeftAsWished faults seen k id from to
wished_free faults seen k id i o u from to votes own some sure fits used found = λ up down s armed.
    let rs = open_records from.slots in
    let b = is_found_after_free s.image in
    let H : ℕ → Type 0 = λ n. log_has (seen to.disk) ≡ Ok (if b then rs else without_first_of n rs) in
    elim used [
      | inl rose ↦ inl rose
      | inr unarmed ↦ elim (found up s armed unarmed) [
        | inl rose ↦ inl rose
        | inr held ↦ inr (
          if b then rs else without_first_of id rs,
          subst H own held,
          freed_there id rs (ap is_some (one_found id o u rs sure (fits up)) ∙ some) (fits up).one b ∙ sym (ap (λ c. if c then is_found_after_append s.image s.passes else b) votes),
        )
      ]
    ]
