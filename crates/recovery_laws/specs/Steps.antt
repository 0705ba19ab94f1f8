-- The steps of a resource manager, and that each keeps all or nothing: for the transaction that it is about, and for every other.
use Rattle.std.specs.Prelude.{◌≡◌, ℕ, ◌==◌, Bool, true, false, ◌&&◌, ◌||◌, not, List, [], ◌∷◌, ◌++◌, filter, map, Some, None, if◌then◌else◌}
use Rattle.dtx_model.specs.Log.{CommitRecord, first_of}
use Rattle.dtx_model.specs.Promotes.{identifier_of}
use Rattle.dtx_model.specs.Words.{each}
use Rattle.recovery_laws.specs.Whole.{IsEnded, Site, are_all_named, has_here, has_marked, has_unmarked, is_held, is_of_number, is_whole}
use Rattle.resource_managers.specs.Holding.{Holding, as_found, finished}

-- what is held after this process prepared an enlistment
abbrev pub prepared : ℕ → ℕ → List Holding → List Holding
prepared n e hs = hs ++ record { number = n; enlistment = e; marked = false; here = true } ∷ []

abbrev pub is_pair : ℕ → ℕ → Holding → Bool
is_pair n e h = is_of_number n h && (e == h.enlistment)

abbrev pub mark_one : ℕ → ℕ → Holding → Holding
mark_one n e h = record { number = h.number; enlistment = h.enlistment; marked = h.marked || is_pair n e h; here = h.here }

-- what is held after an enlistment was marked as committed
abbrev pub marked : ℕ → ℕ → List Holding → List Holding
marked n e hs = map (mark_one n e) hs

-- what is held after an enlistment that isn't marked was rolled back
abbrev pub dropped : ℕ → ℕ → List Holding → List Holding
dropped n e hs = filter (λ h. not (is_pair n e h) || h.marked) hs

abbrev pub change : (List Holding → List Holding) → ℕ → Site → Site
change f m s = record { manager = s.manager; held = if m == s.manager then f s.held else s.held }

-- a step at the resource of this manager, and at no other
abbrev pub at_site : (List Holding → List Holding) → ℕ → List Site → List Site
at_site f m ss = map (change f m) ss

-- a site as a later process finds it, which prepared nothing
abbrev pub found_site : Site → Site
found_site s = record { manager = s.manager; held = as_found s.held }

-- The law of the steps: n is the transaction that a step is about, e and m its enlistment and manager. Recovery's own step is `finished`: by the record where there is one, and to abort where
-- there is none. Where the process ends, a later one finds each transaction as whole as it was, and nothing prepared by its own calls. A step of transaction k changes nothing of the wholeness of
-- another, n.
pub record AreStepsWhole : Type 0 where
  pub prepares : (rs : List CommitRecord) (ss : List Site) (n e m : ℕ) → first_of (identifier_of n) rs ≡ None → has_marked n ss ≡ false → is_whole rs (at_site (prepared n e) m ss) n ≡ true
  pub records : (rs : List CommitRecord) (ss : List Site) (n : ℕ) (r : CommitRecord) → first_of (identifier_of n) rs ≡ Some r → each (is_held n ss) r.enlistments ≡ true → are_all_named n r ss ≡ true
      → is_whole rs ss n ≡ true
  pub marks : (rs : List CommitRecord) (ss : List Site) (n e m : ℕ) (r : CommitRecord) → first_of (identifier_of n) rs ≡ Some r → is_whole rs ss n ≡ true
      → is_whole rs (at_site (marked n e) m ss) n ≡ true
  pub ends : (rs : List CommitRecord) (ss : List Site) (n : ℕ) → first_of (identifier_of n) rs ≡ None → has_unmarked n ss ≡ false → is_whole rs ss n ≡ true
  pub drops : (rs : List CommitRecord) (ss : List Site) (n e m : ℕ) → first_of (identifier_of n) rs ≡ None → is_whole rs ss n ≡ true → is_whole rs (at_site (dropped n e) m ss) n ≡ true
  pub finishes_committed : (rs : List CommitRecord) (ss : List Site) (n e m : ℕ) (r : CommitRecord) → first_of (identifier_of n) rs ≡ Some r → is_whole rs ss n ≡ true
      → is_whole rs (at_site (finished true (n, e)) m ss) n ≡ true
  pub finishes_aborted : (rs : List CommitRecord) (ss : List Site) (n e m : ℕ) → first_of (identifier_of n) rs ≡ None → is_whole rs ss n ≡ true
      → is_whole rs (at_site (finished false (n, e)) m ss) n ≡ true
  pub stops : (rs : List CommitRecord) (ss : List Site) (n : ℕ) → (is_whole rs (map found_site ss) n ≡ is_whole rs ss n) × (has_here n (map found_site ss) ≡ false)
  pub others : (rs : List CommitRecord) (ss : List Site) (n k e m : ℕ) (commit : Bool) → (n == k) ≡ false
      → (is_whole rs (at_site (prepared k e) m ss) n ≡ is_whole rs ss n)
      × (is_whole rs (at_site (marked k e) m ss) n ≡ is_whole rs ss n)
      × (is_whole rs (at_site (dropped k e) m ss) n ≡ is_whole rs ss n)
      × (is_whole rs (at_site (finished commit (k, e)) m ss) n ≡ is_whole rs ss n)

-- Recovery in any order of its calls: where each of them kept the log and the resources whole, nothing is left unmarked, and none was marked without a record, the transaction is ended.
abbrev pub IsEndedBySteps : Type 0
IsEndedBySteps = (rs : List CommitRecord) (before after : List Site) (n : ℕ) → is_whole rs after n ≡ true → has_unmarked n after ≡ false
    → (first_of (identifier_of n) rs ≡ None → has_marked n before ≡ false → has_marked n after ≡ false) → IsEnded rs before after n
