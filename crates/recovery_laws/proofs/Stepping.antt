-- Each step of a resource manager, of the log and of recovery keeps all or nothing.
use Rattle.std.proofs.Common.{◌≡◌, ℕ, Bool, true, false, not, ◌&&◌, ◌||◌, ◌==◌, List, [], ◌∷◌, Option, Some, None, map, refl, ap, sym, ◌∙◌, arith}
use Rattle.std.proofs.lemmas.Bool.{and_left, and_parts, and_right, not-false, not-true, or_from, or_parts}
use Rattle.std.proofs.lemmas.Bool.Decides.{nat_tests}
use Rattle.dtx_model.specs.Log.{CommitRecord, first_of}
use Rattle.dtx_model.specs.Promotes.{identifier_of}
use Rattle.dtx_model.specs.Words.{each, has}
use Rattle.recovery_laws.proofs.Changing.{Keeps, each_filtered, each_finished, each_joined, each_mapped, each_same, each_sites, has_filtered, has_finished, has_joined, has_mapped, has_sites, none_aborted, none_filtered, none_sites}
use Rattle.recovery_laws.proofs.Holdings.{is_the, is_marked, is_unmarked}
use Rattle.recovery_laws.specs.Finding.{names}
use Rattle.recovery_laws.specs.Steps.{AreStepsWhole, at_site, dropped, found_site, is_pair, mark_one, marked, prepared}
use Rattle.recovery_laws.specs.Whole.{Site, are_all_named, has_here, has_marked, has_unmarked, is_held, is_of_number, is_whole, is_whole_by}
use Rattle.resource_managers.specs.Holding.{Holding, as_found, finished, found_one, is_doubt_of, is_in_doubt, with_mark}

-- ---- what wholeness asks of a holding

abbrev is_named : ℕ → ℕ → CommitRecord → Holding → Bool
is_named n m r h = not (is_of_number n h) || names m h.enlistment r

-- a step that changes neither what is held nor what is named
record KeepsHeld (n : ℕ) (f : List Holding → List Holding) : Type 0 where
  held : (d : ℕ) (hs : List Holding) → has (is_the n d) (f hs) ≡ has (is_the n d) hs
  named : (m : ℕ) (r : CommitRecord) (hs : List Holding) → each (is_named n m r) (f hs) ≡ each (is_named n m r) hs

-- a step that changes neither what is marked nor what is unmarked
record KeepsMarks (n : ℕ) (f : List Holding → List Holding) : Type 0 where
  kept : (hs : List Holding) → has (is_marked n) (f hs) ≡ has (is_marked n) hs
  left : (hs : List Holding) → has (is_unmarked n) (f hs) ≡ has (is_unmarked n) hs

-- a step that changes nothing of what is marked, and leaves nothing new unmarked
record OnlyDrops (n : ℕ) (f : List Holding → List Holding) : Type 0 where
  kept : (hs : List Holding) → has (is_marked n) (f hs) ≡ has (is_marked n) hs
  left : (hs : List Holding) → has (is_unmarked n) hs ≡ false → has (is_unmarked n) (f hs) ≡ false

held_same : (n m : ℕ) (f : List Holding → List Holding) (ss : List Site) (p : ℕ × ℕ) → KeepsHeld n f → is_held n (at_site f m ss) p ≡ is_held n ss p
held_same n m f ss p same = has_sites (λ k hs. (p.0 == k) && has (is_the n p.1) hs) f m ss (λ k hs. ap (λ b. (p.0 == k) && b) (same.held p.1 hs))

-- with a record, all stays whole where what is held and named stays
whole_by_record : (r : CommitRecord) (n m : ℕ) (f : List Holding → List Holding) (ss : List Site) → KeepsHeld n f → is_whole_by (Some r) n (at_site f m ss) ≡ is_whole_by (Some r) n ss
whole_by_record r n m f ss same = rw (each_same (is_held n (at_site f m ss)) (is_held n ss) r.enlistments (λ p. held_same n m f ss p same), each_sites (λ k hs. each (is_named n k r) hs) f m ss (λ k hs. same.named k r hs)) refl

-- and without one where the marks do
whole_by_marks : (n m : ℕ) (f : List Holding → List Holding) (ss : List Site) → KeepsMarks n f → is_whole_by None n (at_site f m ss) ≡ is_whole_by None n ss
whole_by_marks n m f ss same = rw (has_sites (λ k hs. has (is_marked n) hs) f m ss (λ k hs. same.kept hs), has_sites (λ k hs. has (is_unmarked n) hs) f m ss (λ k hs. same.left hs)) refl

-- what wasn't both isn't both, where a step makes neither
pub not_both : (a b c d : Bool) → (a ≡ false → c ≡ false) → (b ≡ false → d ≡ false) → not (a && b) ≡ true → not (c && d) ≡ true
not_both true true c d first second e = absurd cc
not_both true false c d first second e = rw (second refl) (ap not (and_right c false refl))
not_both false b c d first second e = rw (first refl) refl

whole_by_drops : (n m : ℕ) (f : List Holding → List Holding) (ss : List Site) → OnlyDrops n f → is_whole_by None n ss ≡ true → is_whole_by None n (at_site f m ss) ≡ true
whole_by_drops n m f ss drops whole =
    not_both (has_marked n ss) (has_unmarked n ss) (has_marked n (at_site f m ss)) (has_unmarked n (at_site f m ss))
    (λ off. has_sites (λ k hs. has (is_marked n) hs) f m ss (λ k hs. drops.kept hs) ∙ off)
    (none_sites (λ k hs. has (is_unmarked n) hs) f m ss (λ k. drops.left))
    whole

-- ---- a step of another number changes neither

whole_same : (o : Option CommitRecord) (n m : ℕ) (f : List Holding → List Holding) (ss : List Site) → KeepsHeld n f → KeepsMarks n f → is_whole_by o n (at_site f m ss) ≡ is_whole_by o n ss
whole_same (Some r) n m f ss held marks = whole_by_record r n m f ss held
whole_same None n m f ss held marks = whole_by_marks n m f ss marks

off_named : (n m : ℕ) (r : CommitRecord) (h : Holding) → is_of_number n h ≡ false → is_named n m r h ≡ true
off_named n m r h e = rw e refl

-- one of the pair isn't of another number
other_pair : (n k e : ℕ) (h : Holding) → (n == k) ≡ false → is_pair k e h ≡ true → is_of_number n h ≡ false
other_pair n k e h apart is = let parts = and_parts (k == h.number) (e == h.enlistment) is in grind (arith, nat_tests)

held_prepared : (n k e : ℕ) → (n == k) ≡ false → KeepsHeld n (prepared k e)
held_prepared n k e apart =
    let new : Holding = record { number = k; enlistment = e; marked = false; here = true } in
    record {
      held = λ d hs. has_joined (is_the n d) hs new (and_left (n == k) (d == e) apart);
      named = λ m r hs. each_joined (is_named n m r) hs new (off_named n m r new apart);
    }

marks_prepared : (n k e : ℕ) → (n == k) ≡ false → KeepsMarks n (prepared k e)
marks_prepared n k e apart =
    let new : Holding = record { number = k; enlistment = e; marked = false; here = true } in
    record {
      kept = λ hs. has_joined (is_marked n) hs new (and_left (n == k) false apart);
      left = λ hs. has_joined (is_unmarked n) hs new (and_left (n == k) true apart);
    }

-- a mark changes no number and no enlistment
held_marked : (n k e : ℕ) → KeepsHeld n (marked k e)
held_marked n k e = record {
  held = λ d hs. has_mapped (is_the n d) (mark_one k e) hs (λ h. refl);
  named = λ m r hs. each_mapped (is_named n m r) (mark_one k e) hs (λ h. refl);
}

or_no : (a : Bool) → (a || false) ≡ a
or_no true = refl
or_no false = refl

same_mark : (n k e : ℕ) (h : Holding) (f : Bool → Bool) → (n == k) ≡ false → (is_of_number n h && f (h.marked || is_pair k e h)) ≡ (is_of_number n h && f h.marked)
same_mark n k e h f apart = by (is_pair k e h) refl
  where
    by : (b : Bool) → is_pair k e h ≡ b → (is_of_number n h && f (h.marked || b)) ≡ (is_of_number n h && f h.marked)
    by true is = let off = other_pair n k e h apart is in and_left (is_of_number n h) (f (h.marked || true)) off ∙ sym (and_left (is_of_number n h) (f h.marked) off)
    by false is = ap (λ b. is_of_number n h && f b) (or_no h.marked)

marks_marked : (n k e : ℕ) → (n == k) ≡ false → KeepsMarks n (marked k e)
marks_marked n k e apart = record {
  kept = λ hs. has_mapped (is_marked n) (mark_one k e) hs (λ h. same_mark n k e h (λ b. b) apart);
  left = λ hs. has_mapped (is_unmarked n) (mark_one k e) hs (λ h. same_mark n k e h not apart);
}

-- what is rolled back is of the pair, and isn't marked
dropped_is : (k e : ℕ) (h : Holding) → (not (is_pair k e h) || h.marked) ≡ false → (is_pair k e h ≡ true) × (h.marked ≡ false)
dropped_is k e h off = let parts = or_parts (not (is_pair k e h)) h.marked off in (not-false (is_pair k e h) parts.0, parts.1)

held_dropped : (n k e : ℕ) → (n == k) ≡ false → KeepsHeld n (dropped k e)
held_dropped n k e apart = record {
  held = λ d hs. has_filtered (is_the n d) (λ h. not (is_pair k e h) || h.marked) hs (λ h off. and_left (is_of_number n h) (d == h.enlistment) (other_pair n k e h apart (dropped_is k e h off).0));
  named = λ m r hs. each_filtered (is_named n m r) (λ h. not (is_pair k e h) || h.marked) hs (λ h off. off_named n m r h (other_pair n k e h apart (dropped_is k e h off).0));
}

marks_dropped : (n k e : ℕ) → (n == k) ≡ false → KeepsMarks n (dropped k e)
marks_dropped n k e apart = record {
  kept = λ hs. has_filtered (is_marked n) (λ h. not (is_pair k e h) || h.marked) hs (λ h off. and_left (is_of_number n h) h.marked (other_pair n k e h apart (dropped_is k e h off).0));
  left = λ hs. has_filtered (is_unmarked n) (λ h. not (is_pair k e h) || h.marked) hs (λ h off. and_left (is_of_number n h) (not h.marked) (other_pair n k e h apart (dropped_is k e h off).0));
}

-- what is finished is in doubt, and of the pair
doubt_is : (k e : ℕ) (h : Holding) → is_doubt_of (k, e) h ≡ true → (is_pair k e h ≡ true) × (h.marked ≡ false)
doubt_is k e h is =
    let parts = and_parts (is_in_doubt h) (is_pair k e h) is in
    (parts.1, not-true h.marked (and_parts (not h.marked) (not h.here) parts.0).0)

-- where the finish is of another number, a test of the number says the same of a mark as of nothing
keeps_other : (n k e : ℕ) (gone commit : Bool) (P : Holding → Bool) → (n == k) ≡ false → ((h : Holding) → is_of_number n h ≡ false → P h ≡ gone) → Keeps gone commit (k, e) P
keeps_other n k e gone true P apart off h is = let other = other_pair n k e h apart (doubt_is k e h is).0 in off (with_mark h) other ∙ sym (off h other)
keeps_other n k e gone false P apart off h is = sym (off h (other_pair n k e h apart (doubt_is k e h is).0))

held_finished : (n k e : ℕ) (commit : Bool) → (n == k) ≡ false → KeepsHeld n (finished commit (k, e))
held_finished n k e commit apart = record {
  held = λ d hs. has_finished (is_the n d) commit (k, e) hs (keeps_other n k e false commit (is_the n d) apart (λ h off. and_left (is_of_number n h) (d == h.enlistment) off));
  named = λ m r hs. each_finished (is_named n m r) commit (k, e) hs (keeps_other n k e true commit (is_named n m r) apart (off_named n m r));
}

marks_finished : (n k e : ℕ) (commit : Bool) → (n == k) ≡ false → KeepsMarks n (finished commit (k, e))
marks_finished n k e commit apart = record {
  kept = λ hs. has_finished (is_marked n) commit (k, e) hs (keeps_other n k e false commit (is_marked n) apart (λ h off. and_left (is_of_number n h) h.marked off));
  left = λ hs. has_finished (is_unmarked n) commit (k, e) hs (keeps_other n k e false commit (is_unmarked n) apart (λ h off. and_left (is_of_number n h) (not h.marked) off));
}

-- ---- a step of the number

-- a finish by the record marks, and changes no number and no enlistment
held_committed : (n k e : ℕ) → KeepsHeld n (finished true (k, e))
held_committed n k e = record {
  held = λ d hs. has_finished (is_the n d) true (k, e) hs (λ h is. refl);
  named = λ m r hs. each_finished (is_named n m r) true (k, e) hs (λ h is. refl);
}

drops_dropped : (n e : ℕ) → OnlyDrops n (dropped n e)
drops_dropped n e = record {
  kept = λ hs. has_filtered (is_marked n) (λ h. not (is_pair n e h) || h.marked) hs (λ h off. and_right (is_of_number n h) h.marked (dropped_is n e h off).1);
  left = λ hs. none_filtered (is_unmarked n) (λ h. not (is_pair n e h) || h.marked) hs;
}

drops_aborted : (n e : ℕ) → OnlyDrops n (finished false (n, e))
drops_aborted n e = record {
  kept = λ hs. has_finished (is_marked n) false (n, e) hs (λ h is. sym (and_right (is_of_number n h) h.marked (doubt_is n e h is).1));
  left = none_aborted (is_unmarked n) (n, e);
}

with_record : (o : Option CommitRecord) (r : CommitRecord) (n m : ℕ) (f : List Holding → List Holding) (ss : List Site) → o ≡ Some r → KeepsHeld n f → is_whole_by o n ss ≡ true
    → is_whole_by o n (at_site f m ss) ≡ true
with_record (Some q) r n m f ss some held whole = whole_by_record q n m f ss held ∙ whole
with_record None r n m f ss some held whole = absurd cc

with_none : (o : Option CommitRecord) (n m : ℕ) (f : List Holding → List Holding) (ss : List Site) → o ≡ None → OnlyDrops n f → is_whole_by o n ss ≡ true → is_whole_by o n (at_site f m ss) ≡ true
with_none (Some q) n m f ss none drops whole = absurd cc
with_none None n m f ss none drops whole = whole_by_drops n m f ss drops whole

-- ---- a later process finds all as whole, and prepared nothing

whole_found : (o : Option CommitRecord) (n : ℕ) (ss : List Site) → is_whole_by o n (map found_site ss) ≡ is_whole_by o n ss
whole_found (Some r) n ss =
    let here : (p : ℕ × ℕ) → is_held n (map found_site ss) p ≡ is_held n ss p =
    λ p. has_mapped (λ (s : Site). (p.0 == s.manager) && has (is_the n p.1) s.held) found_site ss (λ s. ap (λ b. (p.0 == s.manager) && b) (has_mapped (is_the n p.1) found_one s.held (λ h. refl)))
    in
    rw (
      each_same (is_held n (map found_site ss)) (is_held n ss) r.enlistments here,
      each_mapped (λ (s : Site). each (is_named n s.manager r) s.held) found_site ss (λ s. each_mapped (is_named n s.manager r) found_one s.held (λ h. refl)),
    ) refl
whole_found None n ss =
    rw (
      has_mapped (λ (s : Site). has (is_marked n) s.held) found_site ss (λ s. has_mapped (is_marked n) found_one s.held (λ h. refl)),
      has_mapped (λ (s : Site). has (is_unmarked n) s.held) found_site ss (λ s. has_mapped (is_unmarked n) found_one s.held (λ h. refl)),
    ) refl

none_here : (n : ℕ) (hs : List Holding) → has (λ h. is_of_number n h && h.here) (as_found hs) ≡ false
none_here n [] = refl
none_here n (h ∷ hs) = or_from (is_of_number n h && false) _ (and_right (is_of_number n h) false refl) (none_here n hs)

none_here_at : (n : ℕ) (ss : List Site) → has_here n (map found_site ss) ≡ false
none_here_at n [] = refl
none_here_at n (s ∷ ss) = or_from (has (λ h. is_of_number n h && h.here) (as_found s.held)) (has_here n (map found_site ss)) (none_here n s.held) (none_here_at n ss)

-- ---- the law

prepares : (rs : List CommitRecord) (ss : List Site) (n e m : ℕ) → first_of (identifier_of n) rs ≡ None → has_marked n ss ≡ false → is_whole rs (at_site (prepared n e) m ss) n ≡ true
unfolding is_whole
prepares rs ss n e m none off =
    let new : Holding = record { number = n; enlistment = e; marked = false; here = true } in
    rw (none, has_sites (λ k hs. has (is_marked n) hs) (prepared n e) m ss (λ k hs. has_joined (is_marked n) hs new (and_right (n == n) false refl)), off) refl

records : (rs : List CommitRecord) (ss : List Site) (n : ℕ) (r : CommitRecord) → first_of (identifier_of n) rs ≡ Some r → each (is_held n ss) r.enlistments ≡ true → are_all_named n r ss ≡ true
    → is_whole rs ss n ≡ true
unfolding is_whole
records rs ss n r some held named = rw (some, held, named) refl

ends : (rs : List CommitRecord) (ss : List Site) (n : ℕ) → first_of (identifier_of n) rs ≡ None → has_unmarked n ss ≡ false → is_whole rs ss n ≡ true
unfolding is_whole
ends rs ss n none off = rw (none, off) (ap not (and_right (has_marked n ss) false refl))

pub stays_committed : (rs : List CommitRecord) (ss : List Site) (n e m : ℕ) (r : CommitRecord) → first_of (identifier_of n) rs ≡ Some r → is_whole rs ss n ≡ true
    → is_whole rs (at_site (finished true (n, e)) m ss) n ≡ true
unfolding is_whole
stays_committed rs ss n e m r some whole = with_record (first_of (identifier_of n) rs) r n m (finished true (n, e)) ss some (held_committed n n e) whole

pub stays_aborted : (rs : List CommitRecord) (ss : List Site) (n e m : ℕ) → first_of (identifier_of n) rs ≡ None → is_whole rs ss n ≡ true → is_whole rs (at_site (finished false (n, e)) m ss) n ≡ true
unfolding is_whole
stays_aborted rs ss n e m none whole = with_none (first_of (identifier_of n) rs) n m (finished false (n, e)) ss none (drops_aborted n e) whole

pub finishes_other : (rs : List CommitRecord) (ss : List Site) (n k e m : ℕ) (commit : Bool) → (n == k) ≡ false → is_whole rs (at_site (finished commit (k, e)) m ss) n ≡ is_whole rs ss n
unfolding is_whole
finishes_other rs ss n k e m commit apart = whole_same (first_of (identifier_of n) rs) n m (finished commit (k, e)) ss (held_finished n k e commit apart) (marks_finished n k e commit apart)

pub steps_whole : AreStepsWhole
unfolding is_whole
steps_whole = record {
  prepares = prepares;
  records = records;
  marks = λ rs ss n e m r some whole. with_record (first_of (identifier_of n) rs) r n m (marked n e) ss some (held_marked n n e) whole;
  ends = ends;
  drops = λ rs ss n e m none whole. with_none (first_of (identifier_of n) rs) n m (dropped n e) ss none (drops_dropped n e) whole;
  finishes_committed = stays_committed;
  finishes_aborted = stays_aborted;
  stops = λ rs ss n. (whole_found (first_of (identifier_of n) rs) n ss, none_here_at n ss);
  others = λ rs ss n k e m commit apart.
      let o = first_of (identifier_of n) rs in (
        whole_same o n m (prepared k e) ss (held_prepared n k e apart) (marks_prepared n k e apart),
        whole_same o n m (marked k e) ss (held_marked n k e) (marks_marked n k e apart),
        whole_same o n m (dropped k e) ss (held_dropped n k e apart) (marks_dropped n k e apart),
        finishes_other rs ss n k e m commit apart,
      );
}
