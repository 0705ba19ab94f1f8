-- What is whole stays so where all that is held of a transaction is as it was.
use Rattle.std.proofs.Common.{◌≡◌, ℕ, Bool, true, false, not, ◌&&◌, ◌||◌, ◌==◌, List, [], ◌∷◌, ◌++◌, Option, Some, None, if◌then◌else◌, refl, ap, subst, sym, ◌∙◌}
use Rattle.std.proofs.lemmas.Bool.{eqb-true, or_left}
use Rattle.std.proofs.lemmas.List.Folds.{list_any-append}
use Rattle.dtx_model.proofs.Bools.{and_both, and_left, and_right, not_both, or_case, or_right}
use Rattle.dtx_model.specs.Log.{CommitRecord}
use Rattle.dtx_model.specs.Words.{each, has}
use Rattle.history_table.proofs.Scans.{each_more}
use Rattle.recovery_laws.specs.Finding.{names}
use Rattle.recovery_laws.specs.Whole.{Site, are_all_named, has_marked, has_unmarked, is_held, is_of_number, is_whole_by}
use Rattle.resource_managers.specs.Holding.{Holding}
use Rattle.all_or_nothing.specs.Marks.{marks_in, marks_of}
use Rattle.all_or_nothing.proofs.Marking.{all_named, held_by_marks, is_some_held, marked_some, none_both}

in_marked : (q : Bool → Bool) (n e : ℕ) (hs : List Holding) → has q (marks_in n e hs) ≡ true → has (λ h. is_of_number n h && q h.marked) hs ≡ true
in_marked q n e [] k = absurd cc
in_marked q n e (h ∷ hs) k = by (is_of_number n h && (e == h.enlistment)) refl k (λ p. in_marked q n e hs p)
  where
    by : (b : Bool) → (is_of_number n h && (e == h.enlistment)) ≡ b → has q (if b then h.marked ∷ marks_in n e hs else marks_in n e hs) ≡ true
        → (has q (marks_in n e hs) ≡ true → has (λ x. is_of_number n x && q x.marked) hs ≡ true) → ((is_of_number n h && q h.marked) || has (λ x. is_of_number n x && q x.marked) hs) ≡ true
    by true is k rest =
        or_case (q h.marked) (has q (marks_in n e hs)) (λ p. or_left (is_of_number n h && q h.marked) _ (and_both (is_of_number n h) (q h.marked) (and_left (is_of_number n h) (e == h.enlistment) is) p))
        (λ p. or_right (is_of_number n h && q h.marked) _ (rest p)) k
    by false is k rest = or_right (is_of_number n h && q h.marked) _ (rest k)

-- an enlistment with a mark that passes a test is one at some resource
some_marked : (q : Bool → Bool) (m n e : ℕ) (ss : List Site) → has q (marks_of m n e ss) ≡ true → has (λ s. has (λ h. is_of_number n h && q h.marked) s.held) ss ≡ true
some_marked q m n e [] k = absurd cc
some_marked q m n e (s ∷ ss) k = by (m == s.manager) k (λ p. some_marked q m n e ss p)
  where
    by : (b : Bool) → has q (if b then marks_in n e s.held ++ marks_of m n e ss else marks_of m n e ss) ≡ true
        → (has q (marks_of m n e ss) ≡ true → has (λ x. has (λ h. is_of_number n h && q h.marked) x.held) ss ≡ true)
        → (has (λ h. is_of_number n h && q h.marked) s.held || has (λ x. has (λ h. is_of_number n h && q h.marked) x.held) ss) ≡ true
    by true k rest =
        or_case (has q (marks_in n e s.held)) (has q (marks_of m n e ss)) (λ p. or_left (has (λ h. is_of_number n h && q h.marked) s.held) _ (in_marked q n e s.held p)) (λ p. or_right (has (λ h. is_of_number n h && q h.marked) s.held) _ (rest p))
        (sym (list_any-append q (marks_in n e s.held) (marks_of m n e ss)) ∙ k)
    by false k rest = or_right (has (λ h. is_of_number n h && q h.marked) s.held) _ (rest k)

in_named : (P : ℕ → Bool) (n e : ℕ) (hs : List Holding) → each (λ h. not (is_of_number n h) || P h.enlistment) hs ≡ true → is_some_held (marks_in n e hs) ≡ true → P e ≡ true
in_named P n e [] all k = absurd cc
in_named P n e (h ∷ hs) all k =
    by (is_of_number n h && (e == h.enlistment)) refl (and_left (not (is_of_number n h) || P h.enlistment) (each (λ x. not (is_of_number n x) || P x.enlistment) hs) all) k
    (λ p. in_named P n e hs (and_right (not (is_of_number n h) || P h.enlistment) (each (λ x. not (is_of_number n x) || P x.enlistment) hs) all) p)
  where
    by : (b : Bool) → (is_of_number n h && (e == h.enlistment)) ≡ b → (not (is_of_number n h) || P h.enlistment) ≡ true → is_some_held (if b then h.marked ∷ marks_in n e hs else marks_in n e hs) ≡ true
        → (is_some_held (marks_in n e hs) ≡ true → P e ≡ true) → P e ≡ true
    by true is one k rest =
        subst (λ j. P j ≡ true) (sym (eqb-true e h.enlistment (and_right (is_of_number n h) (e == h.enlistment) is)))
        (or_case (not (is_of_number n h)) (P h.enlistment) (λ p. absurd (not_both (is_of_number n h) (and_left (is_of_number n h) (e == h.enlistment) is) (Rattle.dtx_model.proofs.Bools.not_true (is_of_number n h) p))) (λ p. p) one)
    by false is one k rest = rest k

-- where all that is held is named, each that is held is
some_named : (m n e : ℕ) (r : CommitRecord) (ss : List Site) → are_all_named n r ss ≡ true → is_some_held (marks_of m n e ss) ≡ true → names m e r ≡ true
some_named m n e r [] all k = absurd cc
some_named m n e r (s ∷ ss) all k =
    by (m == s.manager) refl (and_left (each (λ h. not (is_of_number n h) || names s.manager h.enlistment r) s.held) (are_all_named n r ss) all) k
    (λ p. some_named m n e r ss (and_right (each (λ h. not (is_of_number n h) || names s.manager h.enlistment r) s.held) (are_all_named n r ss) all) p)
  where
    by : (b : Bool) → (m == s.manager) ≡ b → each (λ h. not (is_of_number n h) || names s.manager h.enlistment r) s.held ≡ true
        → is_some_held (if b then marks_in n e s.held ++ marks_of m n e ss else marks_of m n e ss) ≡ true → (is_some_held (marks_of m n e ss) ≡ true → names m e r ≡ true) → names m e r ≡ true
    by true is one k rest =
        or_case (is_some_held (marks_in n e s.held)) (is_some_held (marks_of m n e ss))
        (λ p. subst (λ j. names j e r ≡ true) (sym (eqb-true m s.manager is)) (in_named (λ j. names s.manager j r) n e s.held one p)) rest
        (sym (Rattle.all_or_nothing.proofs.Marking.some_joined (marks_in n e s.held) (marks_of m n e ss)) ∙ k)
    by false is one k rest = rest k

-- What is whole stays so.
pub whole_same : (o : Option CommitRecord) (n : ℕ) (ss old : List Site) → ((m e : ℕ) → marks_of m n e ss ≡ marks_of m n e old) → is_whole_by o n old ≡ true → is_whole_by o n ss ≡ true
whole_same (Some r) n ss old same whole =
    and_both (each (is_held n ss) r.enlistments) (are_all_named n r ss)
    (each_more (is_held n old) (is_held n ss) (λ p k. sym (held_by_marks p.0 n p.1 ss) ∙ (ap is_some_held (same p.0 p.1) ∙ (held_by_marks p.0 n p.1 old ∙ k))) r.enlistments (and_left (each (is_held n old) r.enlistments) (are_all_named n r old) whole))
    (all_named n r ss (λ m e some. some_named m n e r old (and_right (each (is_held n old) r.enlistments) (are_all_named n r old) whole) (ap is_some_held (sym (same m e)) ∙ some)))
whole_same None n ss old same whole =
    none_both (has_marked n ss) (has_unmarked n ss) (λ a b.
    let x = marked_some (λ c. c) n ss a in
    let y = marked_some (λ c. not c) n ss b in
    let p = some_marked (λ c. c) x.manager n x.enlistment old (ap (has (λ c. c)) (sym (same x.manager x.enlistment)) ∙ x.passes) in
    let q = some_marked (λ c. not c) y.manager n y.enlistment old (ap (has (λ c. not c)) (sym (same y.manager y.enlistment)) ∙ y.passes) in
    not_both (has_marked n old && has_unmarked n old) (and_both (has_marked n old) (has_unmarked n old) p q) (Rattle.dtx_model.proofs.Bools.not_true (has_marked n old && has_unmarked n old) whole))
