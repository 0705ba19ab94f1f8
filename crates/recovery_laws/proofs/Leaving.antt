-- What settling leaves of what is held, at one resource and at all.
use Rattle.std.proofs.Common.{◌≡◌, ℕ, Bool, true, false, cond, not, ◌&&◌, ◌==◌, List, [], ◌∷◌, Option, Some, None, refl, ap, subst, sym, ◌∙◌}
use Rattle.std.proofs.lemmas.Bool.{and_from, and_parts, and_right, eqb-true, not-true}
use Rattle.dtx_model.specs.Log.{CommitRecord, first_of}
use Rattle.dtx_model.specs.Promotes.{identifier_of}
use Rattle.dtx_model.specs.Words.{each, has, put}
use Rattle.recovery_laws.proofs.Changing.{none_sites}
use Rattle.recovery_laws.proofs.Holdings.{Each, EachAt, Passes, each_off, here_or_on, is_marked, is_the, is_unmarked, none_left, number_is, passes, some_left}
use Rattle.recovery_laws.proofs.Settling.{is_here, is_kept, of_number, other}
use Rattle.recovery_laws.specs.Finding.{Aborts, Commits, Finding, IsNotNamed, finding, finding_of, found_by, settled, settled_by, settled_one}
use Rattle.recovery_laws.specs.Steps.{at_site}
use Rattle.recovery_laws.specs.Whole.{Site, is_held, is_of_number}
use Rattle.resource_managers.specs.Holding.{Holding, is_in_doubt, with_mark}

-- ---- at one resource

-- a test that a mark doesn't make pass passes at none where it did at none
pub none_settled : (P : Holding → Bool) (rs : List CommitRecord) (m : ℕ) → ((h : Holding) → P h ≡ false → P (with_mark h) ≡ false) → (hs : List Holding) → has P hs ≡ false → has P (settled rs m hs) ≡ false
none_settled P rs m marks hs off = none_left P (λ h. P h ≡ false) rs m (λ h e. by h (is_in_doubt h) (finding rs m h) e) hs (each_off P hs off)
  where
    by : (h : Holding) (b : Bool) (f : Finding) → P h ≡ false → passes P (cond b (settled_by f h) (Some h)) ≡ false
    by h true Commits e = marks h e
    by h true Aborts e = refl
    by h true IsNotNamed e = e
    by h false f e = e

-- one that a mark doesn't make fail passes at each where it did at each
pub each_settled : (P : Holding → Bool) (rs : List CommitRecord) (m : ℕ) → ((h : Holding) → P h ≡ true → P (with_mark h) ≡ true) → (hs : List Holding) → each P hs ≡ true → each P (settled rs m hs) ≡ true
each_settled P rs m marks [] on = refl
each_settled P rs m marks (h ∷ hs) on = let parts = and_parts (P h) (each P hs) on in by (is_in_doubt h) (finding rs m h) parts.0 (each_settled P rs m marks hs parts.1)
  where
    by : (b : Bool) (f : Finding) → P h ≡ true → each P (settled rs m hs) ≡ true → each P (put (cond b (settled_by f h) (Some h)) (settled rs m hs)) ≡ true
    by true Commits e rest = and_from (P (with_mark h)) (each P (settled rs m hs)) (marks h e) rest
    by true Aborts e rest = rest
    by true IsNotNamed e rest = and_from (P h) (each P (settled rs m hs)) e rest
    by false f e rest = and_from (P h) (each P (settled rs m hs)) e rest

-- what a mark leaves is no longer unmarked
pub unmarked_settled : (rs : List CommitRecord) (n m : ℕ) (hs : List Holding) → has (is_unmarked n) hs ≡ false → has (is_unmarked n) (settled rs m hs) ≡ false
unmarked_settled rs n m hs off = none_settled (is_unmarked n) rs m (λ h e. and_right (is_of_number n h) false refl) hs off

-- where there is no record of the number, nothing of it is marked
pub none_marked : (rs : List CommitRecord) (n m : ℕ) (h : Holding) → first_of (identifier_of n) rs ≡ None → is_marked n h ≡ false → passes (is_marked n) (settled_one rs m h) ≡ false
unfolding finding_of
none_marked rs n m h first off = by (is_of_number n h) refl
  where
    gone : (b : Bool) → passes (is_marked n) (cond b None (Some h)) ≡ false
    gone true = refl
    gone false = off

    by : (b : Bool) → is_of_number n h ≡ b → passes (is_marked n) (settled_one rs m h) ≡ false
    by true same =
        let found : finding rs m h ≡ Aborts = ap (λ k. found_by m h.enlistment (first_of (identifier_of k) rs)) (number_is n h same) ∙ ap (found_by m h.enlistment) first in
        ap (λ f. passes (is_marked n) (cond (is_in_doubt h) (settled_by f h) (Some h))) found ∙ gone (is_in_doubt h)
    by false apart = of_number n (λ x. x.marked) (settled_one rs m h) (other rs n m h apart)

-- ---- at all

pub unmarked_at : (rs : List CommitRecord) (n m : ℕ) (g : ℕ → Bool) (ss : List Site) → has (λ s. g s.manager && has (is_unmarked n) s.held) ss ≡ false → has (λ s. g s.manager && has (is_unmarked n) s.held) (at_site (settled rs m) m ss) ≡ false
unmarked_at rs n m g ss off = none_sites (λ k hs. g k && has (is_unmarked n) hs) (settled rs m) m ss (λ k hs e. by (g k) hs e) off
  where
    by : (b : Bool) (hs : List Holding) → (b && has (is_unmarked n) hs) ≡ false → (b && has (is_unmarked n) (settled rs m hs)) ≡ false
    by true hs e = unmarked_settled rs n m hs e
    by false hs e = refl

-- what is held stays held, where each of the pair stays
pub held_at : (Q : ℕ → Holding → Type 0) (rs : List CommitRecord) (n m : ℕ) (p : ℕ × ℕ) → ((h : Holding) → Q m h → is_the n p.1 h ≡ true → passes (is_the n p.1) (settled_one rs m h) ≡ true) → (ss : List Site) → EachAt Q ss
    → is_held n ss p ≡ true → is_held n (at_site (settled rs m) m ss) p ≡ true
held_at Q rs n m p stays [] facts is = absurd cc
held_at Q rs n m p stays (s ∷ ss) facts is =
    here_or_on (p.0 == s.manager) (has (is_the n p.1) s.held) (is_held n ss p) (has (is_the n p.1) (cond (m == s.manager) (settled rs m s.held) s.held)) (is_held n (at_site (settled rs m) m ss) p)
    (by (m == s.manager) refl)
    (held_at Q rs n m p stays ss facts.1)
    is
  where
    by : (b : Bool) → (m == s.manager) ≡ b → has (is_the n p.1) s.held ≡ true → has (is_the n p.1) (cond b (settled rs m s.held) s.held) ≡ true
    by true e on = some_left (is_the n p.1) (is_the n p.1) (Q m) rs m stays s.held (subst (λ k. Each (Q k) s.held) (sym (eqb-true m s.manager e)) facts.0) on
    by false e on = on

-- where the record names it, it is marked; and where it is marked, it stays
pub kept_the : (n d : ℕ) (o : Option Holding) → passes (is_kept n d) o ≡ true → passes (is_the n d) o ≡ true
kept_the n d (Some h) e = (and_parts (is_the n d h) h.marked e).0
kept_the n d None e = absurd cc

-- a fact of a holding of the number that isn't unmarked
abbrev pub IsMarked : ℕ → Holding → Type 0
IsMarked n h = Passes (λ x. not (is_unmarked n x)) (is_here n) h

pub marked_stays : (rs : List CommitRecord) (n d m : ℕ) (h : Holding) → IsMarked n h → is_the n d h ≡ true → passes (is_the n d) (settled_one rs m h) ≡ true
marked_stays rs n d m h fact is = by h.marked (and_parts (is_of_number n h) (d == h.enlistment) is).0 (not-true (is_unmarked n h) fact.0)
  where
    by : (b : Bool) → is_of_number n h ≡ true → (is_of_number n h && not b) ≡ false → passes (is_the n d) (cond (not b && not h.here) (settled_by (finding rs m h) h) (Some h)) ≡ true
    by true same off = is
    by false same off = absurd cc
