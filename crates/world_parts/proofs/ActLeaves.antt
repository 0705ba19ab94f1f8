-- What the coordinator's act at the log leaves, by what the log answered.
use Rattle.std.proofs.Common.{◌≡◌, ℕ, Bool, true, List, Option, None, is_some, refl, sym, subst}
use Rattle.std.specs.Prelude.{IfSome, IsFalse, IsTrue}
use Rattle.dtx_values.specs.declared.entry.Entry.TheVariants.{Freed, Stopped}
use Rattle.dtx_model.specs.Coordinated.{Coordinated, follow, may_free}
use Rattle.dtx_model.specs.Log.{CommitRecord}
use Rattle.dtx_model.specs.Promotes.{identifier_of}
use Rattle.coordinator_log.specs.Slots.{open_records}
use Rattle.coordinator_log.specs.State.{LogState}
use Rattle.world_parts.specs.AtLog.{IsFit, IsOurs, Keeps, Kept, LeavesSlots}
use Rattle.world_parts.specs.Leaves.{LeavesKept}
use Rattle.world_parts.specs.Prepared.{Names}
use Rattle.world_parts.proofs.Answering.{never_both}
use Rattle.world_parts.proofs.Fitting.{keeps_same, slots_same, slots_stopped}
use Rattle.world_parts.proofs.Freeing.{freed_runs}
use Rattle.world_parts.proofs.Keeping.{one_kept, ours_freed, ours_stopped}
use Rattle.world_parts.proofs.Named.{named_stopped, names_none}

-- Nothing was tried: the log, and what is kept of it, are as they were.
pub left_same : {D : Type 0} (honest : Bool) (image : D → List ℕ → Type 0) (t : ℕ) (k : Coordinated) (x : Kept) (from : LogState D) (j : Coordinated) (to : LogState D) → to ≡ from
    → (IsTrue honest → IsTrue from.is_up → IsFit (identifier_of t) x.ours x.unsure (open_records from.slots)) → IsOurs (identifier_of t) j x → (Names t x.ours k → Names t x.ours j) → LeavesKept honest image t k x from j x to
left_same honest image t k x from j to same fits ours named = record {
  ours = ours;
  had = λ stops some. some;
  kept = λ is. keeps_same image (identifier_of t) x.ours x.unsure from to same (fits is);
  slots = slots_same (identifier_of t) x.ours from to same;
  named = named;
}

-- So it is where the log was found stopped, or in another life: then the coordinator stops.
pub left_before : {D : Type 0} (honest : Bool) (image : D → List ℕ → Type 0) (t : ℕ) (k : Coordinated) (x : Kept) (from : LogState D) (j : Coordinated) (to : LogState D) → to ≡ from
    → (IsTrue honest → IsTrue from.is_up → IsFit (identifier_of t) x.ours x.unsure (open_records from.slots)) → IsOurs (identifier_of t) k x → j ≡ follow k Stopped → LeavesKept honest image t k x from j x to
left_before honest image t k x from j to same fits ours state =
    left_same honest image t k x from j to same fits (subst (λ (i : Coordinated). IsOurs (identifier_of t) i x) (sym state) (ours_stopped (identifier_of t) k x ours.named))
    (λ was. subst (λ (i : Coordinated). Names t x.ours i) (sym state) (named_stopped t x.ours k was))

-- The log was stopped by the act: the coordinator keeps the record that it tried to append, or to free.
pub left_now : {D : Type 0} (honest : Bool) (image : D → List ℕ → Type 0) (t : ℕ) (k : Coordinated) (x : Kept) (from : LogState D) (j : Coordinated) (o : Option CommitRecord) (life : ℕ) (to : LogState D) → j ≡ follow k Stopped
    → IfSome o (λ r. r.id ≡ identifier_of t) → (is_some x.ours ≡ true → is_some o ≡ true) → (IsTrue honest → Keeps image (identifier_of t) (IsFit (identifier_of t) x.ours x.unsure) (IsFit (identifier_of t) o true) from to)
    → to.slots ≡ from.slots → IsFalse to.is_up → (Names t x.ours k → Names t o k) → LeavesKept honest image t k x from j (record { ours = o; unsure = true; life = life }) to
left_now honest image t k x from j o life to state own some keeps same down names =
    let y : Kept = record { ours = o; unsure = true; life = life } in
    record {
      ours = subst (λ (i : Coordinated). IsOurs (identifier_of t) i y) (sym state) (ours_stopped (identifier_of t) k y own);
      had = λ stops. some;
      kept = keeps;
      slots = slots_stopped (identifier_of t) x.ours o from to same (λ u. never_both to.is_up u down);
      named = λ was. subst (λ (i : Coordinated). Names t o i) (sym state) (named_stopped t o k (names was));
    }

-- The record was freed: none is kept, and its coordinator runs.
pub left_freed : {D : Type 0} (honest : Bool) (image : D → List ℕ → Type 0) (t : ℕ) (k : Coordinated) (x : Kept) (from : LogState D) (j : Coordinated) (y : Kept) (to : LogState D) → may_free k ≡ true → IsOurs (identifier_of t) k x
    → j ≡ follow k Freed → y ≡ record { ours = None; unsure = x.unsure; life = x.life } → (IsTrue honest → Keeps image (identifier_of t) (IsFit (identifier_of t) x.ours x.unsure) (IsFit (identifier_of t) None x.unsure) from to)
    → LeavesSlots (identifier_of t) x.ours None from to → LeavesKept honest image t k x from j y to
left_freed honest image t k x from j y to finished ours state is keeps slots =
    let none : Kept = record { ours = None; unsure = x.unsure; life = x.life } in
    subst (λ (z : Kept). LeavesKept honest image t k x from j z to) (sym is) (record {
      ours = subst (λ (i : Coordinated). IsOurs (identifier_of t) i none) (sym state) (ours_freed (identifier_of t) k x.unsure x.life (one_kept (identifier_of t) k x finished ours).1);
      had = λ stops some. absurd (freed_runs k j finished state stops);
      kept = keeps;
      slots = slots;
      named = λ was. names_none t None j refl;
    })
