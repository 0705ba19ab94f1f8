-- What is held of a transaction, by the marks of each enlistment.
use Rattle.std.proofs.Common.{◌≡◌, ℕ, Bool, true, false, not, ◌&&◌, ◌||◌, ◌==◌, List, [], ◌∷◌, ◌++◌, if◌then◌else◌, refl, ap, sym, ◌∙◌}
use Rattle.std.proofs.lemmas.Bool.{or_left}
use Rattle.std.proofs.lemmas.List.Folds.{list_any-append}
use Rattle.dtx_model.proofs.Bools.{and_both, and_left, and_right, not_false, or_case, or_right}
use Rattle.dtx_model.specs.Log.{CommitRecord}
use Rattle.dtx_model.specs.Outcome.{is_empty}
use Rattle.dtx_model.specs.Words.{each, has}
use Rattle.history_table.proofs.Tests.{eq_self}
use Rattle.resource_managers.specs.Holding.{Holding}
use Rattle.recovery_laws.specs.Finding.{names}
use Rattle.recovery_laws.specs.Whole.{Site, are_all_named, is_held, is_of_number}
use Rattle.all_or_nothing.specs.Marks.{is_single, is_unmarked, marks_in, marks_of}

-- something is there
abbrev pub is_some_held : List Bool → Bool
is_some_held l = not (is_empty l)

pub held_if : (l : List Bool) → is_some_held l ≡ true → is_empty l ≡ false
held_if [] e = absurd cc
held_if (b ∷ l) e = refl

pub if_held : (l : List Bool) → is_empty l ≡ false → is_some_held l ≡ true
if_held l e = not_false (is_empty l) e

pub some_joined : (xs ys : List Bool) → is_some_held (xs ++ ys) ≡ (is_some_held xs || is_some_held ys)
some_joined [] ys = refl
some_joined (x ∷ xs) ys = refl

-- the enlistment has a mark exactly where it is held: at one resource
marks_held : (n e : ℕ) (hs : List Holding) → is_some_held (marks_in n e hs) ≡ has (λ h. is_of_number n h && (e == h.enlistment)) hs
marks_held n e [] = refl
marks_held n e (h ∷ hs) = by (is_of_number n h && (e == h.enlistment)) (marks_held n e hs)
  where
    by : (b : Bool) → is_some_held (marks_in n e hs) ≡ has (λ k. is_of_number n k && (e == k.enlistment)) hs
        → is_some_held (if b then h.marked ∷ marks_in n e hs else marks_in n e hs) ≡ (b || has (λ k. is_of_number n k && (e == k.enlistment)) hs)
    by true ih = refl
    by false ih = ih

-- and at all of them
pub held_by_marks : (m n e : ℕ) (ss : List Site) → is_some_held (marks_of m n e ss) ≡ is_held n ss (m, e)
held_by_marks m n e [] = refl
held_by_marks m n e (s ∷ ss) = by (m == s.manager) (held_by_marks m n e ss)
  where
    by : (b : Bool) → is_some_held (marks_of m n e ss) ≡ is_held n ss (m, e)
        → is_some_held (if b then marks_in n e s.held ++ marks_of m n e ss else marks_of m n e ss) ≡ ((b && has (λ h. is_of_number n h && (e == h.enlistment)) s.held) || is_held n ss (m, e))
    by true ih = some_joined (marks_in n e s.held) (marks_of m n e ss) ∙ (ap (λ c. c || is_some_held (marks_of m n e ss)) (marks_held n e s.held) ∙ ap (λ c. has (λ h. is_of_number n h && (e == h.enlistment)) s.held || c) ih)
    by false ih = ih

-- an enlistment with a mark that passes a test
pub record Marked (q : Bool → Bool) (n : ℕ) (ss : List Site) : Type 0 where
  pub manager : ℕ
  pub enlistment : ℕ
  pub passes : has q (marks_of manager n enlistment ss) ≡ true

record MarkedIn (q : Bool → Bool) (n : ℕ) (hs : List Holding) : Type 0 where
  enlistment : ℕ
  passes : has q (marks_in n enlistment hs) ≡ true

has_if : (q : Bool → Bool) (b c : Bool) (l : List Bool) → has q l ≡ true → has q (if b then c ∷ l else l) ≡ true
has_if q true c l e = or_right (q c) (has q l) e
has_if q false c l e = e

marked_in : (q : Bool → Bool) (n : ℕ) (hs : List Holding) → has (λ h. is_of_number n h && q h.marked) hs ≡ true → MarkedIn q n hs
marked_in q n [] e = absurd cc
marked_in q n (h ∷ hs) e = or_case (is_of_number n h && q h.marked) (has (λ k. is_of_number n k && q k.marked) hs) here (λ p. there (marked_in q n hs p)) e
  where
    here : (is_of_number n h && q h.marked) ≡ true → MarkedIn q n (h ∷ hs)
    here p = record {
      enlistment = h.enlistment;
      passes =
          by (is_of_number n h && (h.enlistment == h.enlistment)) (and_both (is_of_number n h) (h.enlistment == h.enlistment) (and_left (is_of_number n h) (q h.marked) p) (eq_self h.enlistment))
          (and_right (is_of_number n h) (q h.marked) p);
    }
      where
        by : (b : Bool) → b ≡ true → q h.marked ≡ true → has q (if b then h.marked ∷ marks_in n h.enlistment hs else marks_in n h.enlistment hs) ≡ true
        by true same is = or_left (q h.marked) (has q (marks_in n h.enlistment hs)) is
        by false same is = absurd cc

    there : MarkedIn q n hs → MarkedIn q n (h ∷ hs)
    there p = record { enlistment = p.enlistment; passes = has_if q (is_of_number n h && (p.enlistment == h.enlistment)) h.marked (marks_in n p.enlistment hs) p.passes }

has_joined : (q : Bool → Bool) (xs ys : List Bool) → (has q xs || has q ys) ≡ true → has q (xs ++ ys) ≡ true
has_joined q xs ys e = list_any-append q xs ys ∙ e

-- what passes a test at some resource is an enlistment with such a mark
pub marked_some : (q : Bool → Bool) (n : ℕ) (ss : List Site) → has (λ s. has (λ h. is_of_number n h && q h.marked) s.held) ss ≡ true → Marked q n ss
marked_some q n [] e = absurd cc
marked_some q n (s ∷ ss) e =
    or_case (has (λ h. is_of_number n h && q h.marked) s.held) (has (λ x. has (λ h. is_of_number n h && q h.marked) x.held) ss) (λ p. here (marked_in q n s.held p)) (λ p. there (marked_some q n ss p)) e
  where
    here : MarkedIn q n s.held → Marked q n (s ∷ ss)
    here p = record { manager = s.manager; enlistment = p.enlistment; passes = by (s.manager == s.manager) (eq_self s.manager) }
      where
        by : (b : Bool) → b ≡ true → has q (if b then marks_in n p.enlistment s.held ++ marks_of s.manager n p.enlistment ss else marks_of s.manager n p.enlistment ss) ≡ true
        by true same = has_joined q (marks_in n p.enlistment s.held) (marks_of s.manager n p.enlistment ss) (or_left (has q (marks_in n p.enlistment s.held)) (has q (marks_of s.manager n p.enlistment ss)) p.passes)
        by false same = absurd cc

    there : Marked q n ss → Marked q n (s ∷ ss)
    there p = record { manager = p.manager; enlistment = p.enlistment; passes = by (p.manager == s.manager) }
      where
        by : (b : Bool) → has q (if b then marks_in n p.enlistment s.held ++ marks_of p.manager n p.enlistment ss else marks_of p.manager n p.enlistment ss) ≡ true
        by true = has_joined q (marks_in n p.enlistment s.held) (marks_of p.manager n p.enlistment ss) (or_right (has q (marks_in n p.enlistment s.held)) (has q (marks_of p.manager n p.enlistment ss)) p.passes)
        by false = p.passes

-- Where the record names each enlistment that is held, all that is held is named.
named_in : (P : ℕ → Bool) (n : ℕ) (hs : List Holding) → ((e : ℕ) → is_some_held (marks_in n e hs) ≡ true → P e ≡ true) → each (λ h. not (is_of_number n h) || P h.enlistment) hs ≡ true
named_in P n [] all = refl
named_in P n (h ∷ hs) all =
    and_both (not (is_of_number n h) || P h.enlistment) (each (λ k. not (is_of_number n k) || P k.enlistment) hs) (by (is_of_number n h) refl)
    (named_in P n hs (λ e some. all e (more (is_of_number n h && (e == h.enlistment)) e some)))
  where
    by : (b : Bool) → is_of_number n h ≡ b → (not b || P h.enlistment) ≡ true
    by true is = all h.enlistment (marks_held n h.enlistment (h ∷ hs) ∙ or_left (is_of_number n h && (h.enlistment == h.enlistment)) _ (and_both (is_of_number n h) (h.enlistment == h.enlistment) is (eq_self h.enlistment)))
    by false is = refl

    more : (b : Bool) (e : ℕ) → is_some_held (marks_in n e hs) ≡ true → is_some_held (if b then h.marked ∷ marks_in n e hs else marks_in n e hs) ≡ true
    more true e some = refl
    more false e some = some

pub all_named : (n : ℕ) (r : CommitRecord) (ss : List Site) → ((m e : ℕ) → is_some_held (marks_of m n e ss) ≡ true → names m e r ≡ true) → are_all_named n r ss ≡ true
all_named n r [] all = refl
all_named n r (s ∷ ss) all =
    and_both (each (λ h. not (is_of_number n h) || names s.manager h.enlistment r) s.held) (are_all_named n r ss)
    (named_in (λ e. names s.manager e r) n s.held (λ e some. all s.manager e (here (s.manager == s.manager) e (eq_self s.manager) some)))
    (all_named n r ss (λ m e some. all m e (there (m == s.manager) m e some)))
  where
    here : (b : Bool) (e : ℕ) → b ≡ true → is_some_held (marks_in n e s.held) ≡ true
        → is_some_held (if b then marks_in n e s.held ++ marks_of s.manager n e ss else marks_of s.manager n e ss) ≡ true
    here true e same some = some_joined (marks_in n e s.held) (marks_of s.manager n e ss) ∙ or_left (is_some_held (marks_in n e s.held)) (is_some_held (marks_of s.manager n e ss)) some
    here false e same some = absurd cc

    there : (b : Bool) (m e : ℕ) → is_some_held (marks_of m n e ss) ≡ true → is_some_held (if b then marks_in n e s.held ++ marks_of m n e ss else marks_of m n e ss) ≡ true
    there true m e some = some_joined (marks_in n e s.held) (marks_of m n e ss) ∙ or_right (is_some_held (marks_in n e s.held)) (is_some_held (marks_of m n e ss)) some
    there false m e some = some

-- Where each enlistment that the record names is held, all that it names is.
pub all_held : (n : ℕ) (ss : List Site) (ps : List (ℕ × ℕ)) → ((m e : ℕ) → has (λ p. (m == p.0) && (e == p.1)) ps ≡ true → is_some_held (marks_of m n e ss) ≡ true) → each (is_held n ss) ps ≡ true
all_held n ss [] all = refl
all_held n ss (p ∷ ps) all =
    and_both (is_held n ss p) (each (is_held n ss) ps)
    (sym (held_by_marks p.0 n p.1 ss) ∙ all p.0 p.1 (or_left ((p.0 == p.0) && (p.1 == p.1)) _ (and_both (p.0 == p.0) (p.1 == p.1) (eq_self p.0) (eq_self p.1))))
    (all_held n ss ps (λ m e some. all m e (or_right ((m == p.0) && (e == p.1)) _ some)))

-- One that is held at most once, and with a mark, is held with that mark alone.
pub only_true : (l : List Bool) → is_single l ≡ true → has (λ b. b) l ≡ true → l ≡ true ∷ []
only_true [] s e = absurd cc
only_true (true ∷ []) s e = refl
only_true (false ∷ []) s e = absurd cc
only_true (b ∷ c ∷ l) s e = absurd cc

pub only_false : (l : List Bool) → is_single l ≡ true → has (λ b. not b) l ≡ true → is_unmarked l ≡ true
only_false [] s e = absurd cc
only_false (true ∷ []) s e = absurd cc
only_false (false ∷ []) s e = refl
only_false (b ∷ c ∷ l) s e = absurd cc

pub unmarked_held : (l : List Bool) → is_unmarked l ≡ true → is_some_held l ≡ true
unmarked_held [] e = absurd cc
unmarked_held (b ∷ l) e = refl

pub none_both : (a b : Bool) → (a ≡ true → b ≡ true → ⊥) → not (a && b) ≡ true
none_both true true never = absurd (never refl refl)
none_both true false never = refl
none_both false b never = refl
