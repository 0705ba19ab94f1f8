-- Recovery of several resources, one after another, where each call may free records.
use Rattle.std.specs.Prelude.{◌≡◌, ◌⊎◌, ℕ, ◌==◌, Bool, true, false, ◌&&◌, not, List, [], ◌∷◌, ◌++◌, Some, None}
use Rattle.dtx_model.specs.Log.{CommitRecord, first_of}
use Rattle.dtx_model.specs.Words.{each, has}
use Rattle.recovery_laws.specs.Finding.{settled}
use Rattle.recovery_laws.specs.Steps.{at_site}
use Rattle.recovery_laws.specs.Whole.{IsEnded, Site, has_here, is_of_number, is_whole}

-- what the log has recorded, and what each resource manager holds
pub record Standing : Type 0 where
  pub records : List CommitRecord
  pub sites : List Site

-- the manager is among these
abbrev pub is_among : ℕ → List ℕ → Bool
is_among m ms = has (λ k. k == m) ms

-- each enlistment that the record names is of a manager among these
abbrev pub covers : List ℕ → CommitRecord → Bool
covers ms r = each (λ p. is_among p.0 ms) r.enlistments

-- What one call of recovery does, for the resource of manager m, where those on the desk recovered before. What this resource holds in doubt is settled by the records of before. A record goes only
-- where each manager that it names has recovered by then, this one included, and none is new.
pub record RecoversOne (desk : List ℕ) (m : ℕ) (old new : Standing) : Type 0 where
  pub settles : new.sites ≡ at_site (settled old.records m) m old.sites
  pub kept : (id : ℕ) (r : CommitRecord) → first_of id old.records ≡ Some r → covers (desk ++ m ∷ []) r ≡ false → first_of id new.records ≡ Some r
  pub either : (id : ℕ) → (first_of id new.records ≡ first_of id old.records) ⊎ (first_of id new.records ≡ None)

-- one such call for each of these managers, in order; each of them is on the desk from then on
abbrev pub RecoversEach : List ℕ → List ℕ → Standing → Standing → Type 0
RecoversEach desk [] old new = new ≡ old
RecoversEach desk (m ∷ ms) old new = (between : Standing) × RecoversOne desk m old between × RecoversEach (desk ++ m ∷ []) ms between new

-- something that is held of the transaction isn't marked, at a manager that isn't among these
abbrev pub has_unmarked_beyond : List ℕ → ℕ → List Site → Bool
has_unmarked_beyond ms n sites = has (λ s. not (is_among s.manager ms) && has (λ h. is_of_number n h && not h.marked) s.held) sites

-- The law. After each call the transaction of an earlier process is as whole as it was, although its record may be gone. And once each manager has recovered that held something of it in doubt, it's
-- ended, at all of them alike, by the record that the log had of it before the first call.
pub record IsRecoveredOneByOne : Type 0 where
  pub stays : (ms : List ℕ) (old new : Standing) (n : ℕ) → RecoversEach [] ms old new → is_whole old.records old.sites n ≡ true → has_here n old.sites ≡ false
      → (is_whole new.records new.sites n ≡ true) × (has_here n new.sites ≡ false)
  pub ends : (ms : List ℕ) (old new : Standing) (n : ℕ) → RecoversEach [] ms old new → is_whole old.records old.sites n ≡ true → has_here n old.sites ≡ false
      → has_unmarked_beyond ms n old.sites ≡ false → IsEnded old.records old.sites new.sites n
