-- All or nothing for a transaction, over what each resource manager holds of it, and what recovery makes of it.
use Rattle.std.specs.Prelude.{◌≡◌, ℕ, ◌==◌, Bool, true, false, ◌&&◌, ◌||◌, not, List, map, Option, Some, None}
use Rattle.dtx_model.specs.Log.{CommitRecord, first_of}
use Rattle.dtx_model.specs.Promotes.{identifier_of}
use Rattle.dtx_model.specs.Words.{each, has}
use Rattle.recovery_laws.specs.Finding.{names, settled}
use Rattle.resource_managers.specs.Holding.{Holding}

-- a resource manager, and what its resource holds
pub record Site : Type 0 where
  pub manager : ℕ
  pub held : List Holding

abbrev pub settled_site : List CommitRecord → Site → Site
settled_site rs s = record { manager = s.manager; held = settled rs s.manager s.held }

abbrev pub is_of_number : ℕ → Holding → Bool
is_of_number n h = n == h.number

-- the enlistment of this manager in transaction n is held there, marked or not; p is the manager and the enlistment, as a record of the log has them
abbrev pub is_held : ℕ → List Site → ℕ × ℕ → Bool
is_held n sites p = has (λ s. (p.0 == s.manager) && has (λ h. is_of_number n h && (p.1 == h.enlistment)) s.held) sites

-- the record names each enlistment that is held of the transaction
abbrev pub are_all_named : ℕ → CommitRecord → List Site → Bool
are_all_named n r sites = each (λ s. each (λ h. not (is_of_number n h) || names s.manager h.enlistment r) s.held) sites

-- something that is held of the transaction is marked as committed
abbrev pub has_marked : ℕ → List Site → Bool
has_marked n sites = has (λ s. has (λ h. is_of_number n h && h.marked) s.held) sites

-- something that is held of the transaction isn't marked
abbrev pub has_unmarked : ℕ → List Site → Bool
has_unmarked n sites = has (λ s. has (λ h. is_of_number n h && not h.marked) s.held) sites

-- a call of this process prepared something that is held of the transaction
abbrev pub has_here : ℕ → List Site → Bool
has_here n sites = has (λ s. has (λ h. is_of_number n h && h.here) s.held) sites

-- Where the log has a record of the transaction, each enlistment that the record names is held, marked or not, and each that is held is named. Where it has none, all that is held is marked, or
-- nothing is.
abbrev pub is_whole_by : Option CommitRecord → ℕ → List Site → Bool
is_whole_by (Some r) n sites = each (is_held n sites) r.enlistments && are_all_named n r sites
is_whole_by None n sites = not (has_marked n sites && has_unmarked n sites)

-- all or nothing, for one transaction by its number: what the log and the resources have of it is whole
unfoldable pub is_whole : List CommitRecord → List Site → ℕ → Bool
is_whole rs sites n = is_whole_by (first_of (identifier_of n) rs) n sites

-- all that is held of the transaction is marked, so nothing of it is in doubt
abbrev pub is_settled : List Site → ℕ → Bool
is_settled sites n = not (has_unmarked n sites)

-- the enlistment of this manager is held there as committed
abbrev pub is_kept_at : ℕ → List Site → ℕ × ℕ → Bool
is_kept_at n sites p = has (λ s. (p.0 == s.manager) && has (λ h. (is_of_number n h && (p.1 == h.enlistment)) && h.marked) s.held) sites

-- something of the transaction is held
abbrev pub is_any_held : ℕ → List Site → Bool
is_any_held n sites = has (λ s. has (is_of_number n) s.held) sites

-- What holds of a transaction after recovery: nothing of it is in doubt; each enlistment that its record names is committed; and where it has no record, and nothing of it was committed before,
-- nothing of it is held.
pub record IsEnded (rs : List CommitRecord) (before after : List Site) (n : ℕ) : Type 0 where
  pub settled : is_settled after n ≡ true
  pub all : (r : CommitRecord) → first_of (identifier_of n) rs ≡ Some r → each (is_kept_at n after) r.enlistments ≡ true
  pub nothing : first_of (identifier_of n) rs ≡ None → has_marked n before ≡ false → is_any_held n after ≡ false

-- Where the log and the resources are whole for a transaction of an earlier process, the recovery of each resource ends it, at all of them alike.
abbrev pub IsRecovered : Type 0
IsRecovered = (rs : List CommitRecord) (sites : List Site) (n : ℕ) → is_whole rs sites n ≡ true → has_here n sites ≡ false → IsEnded rs sites (map (settled_site rs) sites) n
