-- Worked rows of recovery: one transaction at two resource managers.
use Rattle.std.proofs.Common.{◌≡◌, ◌⊎◌, inl, inr, ℕ, Bool, true, false, cond, List, [], ◌∷◌, map, Some, None, refl, ap, sym}
use Rattle.std.proofs.lemmas.Bool.{eqb-true}
use Rattle.dtx_model.specs.Log.{CommitRecord, first_of, is_record_of}
use Rattle.dtx_model.specs.Promotes.{identifier_of}
use Rattle.log_epochs.specs.Epochs.{epoch_record}
use Rattle.recovery_laws.specs.Finding.{Aborts, Commits, IsNotNamed, finding, finding_of, settled}
use Rattle.recovery_laws.specs.OneByOne.{RecoversEach, Standing, covers}
use Rattle.recovery_laws.specs.Steps.{at_site}
use Rattle.recovery_laws.specs.Whole.{Site, is_whole, settled_site}
use Rattle.resource_managers.specs.Holding.{Holding, finished}

abbrev record_of : ℕ → List (ℕ × ℕ) → CommitRecord
record_of n es = record { id = identifier_of n; enlistments = es }

-- epoch 3, and what epoch 2 left: t1 with an enlistment at r1 and one at r2
abbrev t1 : CommitRecord
t1 = record_of 131073 ((1, 1) ∷ (2, 2) ∷ [])

abbrev left : List CommitRecord
left = t1 ∷ epoch_record 3 ∷ []

abbrev held : ℕ → ℕ → Holding
held n e = record { number = n; enlistment = e; marked = false; here = false }

abbrev kept : ℕ → ℕ → Holding
kept n e = record { number = n; enlistment = e; marked = true; here = false }

abbrev site : ℕ → List Holding → Site
site r hs = record { manager = r; held = hs }

found : finding left 1 (held 131073 1) ≡ Commits
unfolding finding_of
found = refl

found_none : finding left 1 (held 196609 1) ≡ Aborts
unfolding finding_of
found_none = refl

-- the resource of r2 is given as that of r1
found_another : finding left 1 (held 131073 2) ≡ IsNotNamed
unfolding finding_of
found_another = refl

-- one is marked, the other isn't yet: the record makes it whole
abbrev half_marked : List Site
half_marked = site 1 (kept 131073 1 ∷ []) ∷ site 2 (held 131073 2 ∷ []) ∷ []

is_whole_by_record : is_whole left half_marked 131073 ≡ true
unfolding is_whole
is_whole_by_record = refl

is_torn_without : is_whole (epoch_record 3 ∷ []) half_marked 131073 ≡ false
unfolding is_whole
is_torn_without = refl

is_torn_where_one_is_missing : is_whole left (site 1 (held 131073 1 ∷ []) ∷ site 2 [] ∷ []) 131073 ≡ false
unfolding is_whole
is_torn_where_one_is_missing = refl

recovered : map (settled_site left) half_marked ≡ site 1 (kept 131073 1 ∷ []) ∷ site 2 (kept 131073 2 ∷ []) ∷ []
unfolding finding_of
recovered = refl

aborted : map (settled_site (epoch_record 3 ∷ [])) (site 1 (held 131073 1 ∷ []) ∷ site 2 (held 131073 2 ∷ []) ∷ []) ≡ site 1 [] ∷ site 2 [] ∷ []
unfolding finding_of
aborted = refl

-- what a call of this process prepared isn't in doubt, and stays
abbrev new : ℕ → ℕ → Holding
new n e = record { number = n; enlistment = e; marked = false; here = true }

stays : map (settled_site left) (site 1 (new 196609 1 ∷ held 131073 1 ∷ []) ∷ []) ≡ site 1 (new 196609 1 ∷ kept 131073 1 ∷ []) ∷ []
unfolding finding_of
stays = refl

-- one call of recovery finishes the first that is in doubt
finished_one : finished true (131073, 1) (new 131073 1 ∷ held 131073 1 ∷ held 131073 1 ∷ []) ≡ new 131073 1 ∷ kept 131073 1 ∷ held 131073 1 ∷ []
finished_one = refl

-- ---- one resource after the other: t1 at r1 and at r2, recovered in this order

abbrev both : Standing
both = record { records = left; sites = site 1 (held 131073 1 ∷ []) ∷ site 2 (held 131073 2 ∷ []) ∷ [] }

-- after the call of r1 the record stays, since r2 didn't recover
abbrev first_recovered : Standing
first_recovered = record { records = left; sites = site 1 (kept 131073 1 ∷ []) ∷ site 2 (held 131073 2 ∷ []) ∷ [] }

-- after the call of r2 the record is gone
abbrev both_recovered : Standing
both_recovered = record { records = epoch_record 3 ∷ []; sites = site 1 (kept 131073 1 ∷ []) ∷ site 2 (kept 131073 2 ∷ []) ∷ [] }

recovers_first : first_recovered.sites ≡ at_site (settled left 1) 1 both.sites
unfolding finding_of
recovers_first = refl

recovers_second : both_recovered.sites ≡ at_site (settled left 2) 2 first_recovered.sites
unfolding finding_of
recovers_second = refl

covers_once_both : (map (covers (1 ∷ [])) left ≡ false ∷ true ∷ []) × (map (covers (1 ∷ 2 ∷ [])) left ≡ true ∷ true ∷ [])
covers_once_both = (refl, refl)

-- it's whole before, between and after
whole_all_along : (is_whole left both.sites 131073 ≡ true) × (is_whole left first_recovered.sites 131073 ≡ true) × (is_whole both_recovered.records both_recovered.sites 131073 ≡ true)
unfolding is_whole
whole_all_along = (refl, refl, refl)

-- with the record gone after the first call, the second would abort at r2 what is committed at r1
torn_if_freed_early : is_whole (epoch_record 3 ∷ []) first_recovered.sites 131073 ≡ false
unfolding is_whole
torn_if_freed_early = refl

aborted_if_freed_early : at_site (settled (epoch_record 3 ∷ []) 2) 2 first_recovered.sites ≡ site 1 (kept 131073 1 ∷ []) ∷ site 2 [] ∷ []
unfolding finding_of
aborted_if_freed_early = refl

-- the second call frees the record of t1, and under each other identifier the same is found as before
kept_by_second : (id : ℕ) (r : CommitRecord) → first_of id left ≡ Some r → covers (1 ∷ 2 ∷ []) r ≡ false → first_of id both_recovered.records ≡ Some r
kept_by_second id r found off = by (is_record_of id t1) found
  where
    by : (b : Bool) → cond b (Some t1) (first_of id both_recovered.records) ≡ Some r → first_of id both_recovered.records ≡ Some r
    by true found = let is : t1 ≡ r = cc in let all : covers (1 ∷ 2 ∷ []) r ≡ true = ap (covers (1 ∷ 2 ∷ [])) (sym is) in absurd cc
    by false found = found

either_by_second : (id : ℕ) → (first_of id both_recovered.records ≡ first_of id left) ⊎ (first_of id both_recovered.records ≡ None)
either_by_second id = by (is_record_of id t1) refl
  where
    by : (b : Bool) → is_record_of id t1 ≡ b → (first_of id both_recovered.records ≡ cond b (Some t1) (first_of id both_recovered.records)) ⊎ (first_of id both_recovered.records ≡ None)
    by true e = inr (ap (λ k. first_of k both_recovered.records) (sym (eqb-true t1.id id e)))
    by false e = inl refl

recovers_each : RecoversEach [] (1 ∷ 2 ∷ []) both both_recovered
recovers_each = (
  first_recovered,
  record { settles = recovers_first; kept = λ id r found off. found; either = λ id. inl refl },
  (both_recovered, record { settles = recovers_second; kept = kept_by_second; either = either_by_second }, refl),
)
