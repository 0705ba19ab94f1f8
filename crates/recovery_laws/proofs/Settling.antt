-- After recovery nothing of an earlier process's transaction is in doubt.
use Rattle.std.proofs.Common.{◌≡◌, ℕ, Bool, true, false, cond, not, ◌&&◌, ◌||◌, ◌==◌, List, [], ◌∷◌, map, Option, Some, None, refl, ap, sym, ◌∙◌}
use Rattle.std.proofs.lemmas.Bool.{and_from, and_left, and_parts, and_right, not-true}
use Rattle.dtx_model.specs.Log.{CommitRecord, first_of}
use Rattle.dtx_model.specs.Promotes.{identifier_of}
use Rattle.dtx_model.specs.Words.{each, has}
use Rattle.recovery_laws.proofs.Holdings.{EachAt, Passes, each_at, each_not_at, here_or_on, is_marked, is_the, is_unmarked, none_left_at, number_is, passes, some_left}
use Rattle.recovery_laws.specs.Finding.{Aborts, Commits, Finding, IsNotNamed, finding, finding_of, found_by, names, settled, settled_by, settled_one}
use Rattle.recovery_laws.specs.Whole.{IsRecovered, Site, are_all_named, has_here, is_held, is_kept_at, is_of_number, is_whole, is_whole_by, settled_site}
use Rattle.resource_managers.specs.Holding.{Holding, is_in_doubt}

-- ---- what becomes of one holding

abbrev pub is_here : ℕ → Holding → Bool
is_here n h = is_of_number n h && h.here

-- the record, where there is one, names the holding if it is of the number
abbrev pub is_named : Option CommitRecord → ℕ → ℕ → Holding → Bool
is_named (Some r) n m h = not (is_of_number n h) || names m h.enlistment r
is_named None n m h = true

-- one of the number that is marked stays, and one that isn't is settled by the record of the number
settled_is : (rs : List CommitRecord) (n m : ℕ) (h : Holding) → is_of_number n h ≡ true → is_here n h ≡ false
    → settled_one rs m h ≡ cond h.marked (Some h) (settled_by (found_by m h.enlistment (first_of (identifier_of n) rs)) h)
unfolding finding_of
settled_is rs n m h same early = by (ap (λ b. b && h.here) (sym same) ∙ early) h.marked
  where
    by : h.here ≡ false → (b : Bool) → cond (not b && not h.here) (settled_by (finding rs m h) h) (Some h) ≡ cond b (Some h) (settled_by (found_by m h.enlistment (first_of (identifier_of n) rs)) h)
    by here true = refl
    by here false =
        ap (λ b. cond (not b) (settled_by (finding rs m h) h) (Some h)) here ∙ ap (λ k. settled_by (found_by m h.enlistment (first_of (identifier_of k) rs)) h) (number_is n h same)

-- of one of another number nothing is left that is of the number
other_by : (f : Finding) (n : ℕ) (h : Holding) → is_of_number n h ≡ false → passes (is_of_number n) (settled_by f h) ≡ false
other_by Commits n h e = e
other_by Aborts n h e = refl
other_by IsNotNamed n h e = e

pub other : (rs : List CommitRecord) (n m : ℕ) (h : Holding) → is_of_number n h ≡ false → passes (is_of_number n) (settled_one rs m h) ≡ false
other rs n m h e = by (is_in_doubt h)
  where
    by : (b : Bool) → passes (is_of_number n) (cond b (settled_by (finding rs m h) h) (Some h)) ≡ false
    by true = other_by (finding rs m h) n h e
    by false = e

pub of_number : (n : ℕ) (t : Holding → Bool) (o : Option Holding) → passes (is_of_number n) o ≡ false → passes (λ h. is_of_number n h && t h) o ≡ false
of_number n t (Some h) e = and_left (is_of_number n h) (t h) e
of_number n t None e = refl

-- ---- nothing is left unmarked

settled_by_record : (o : Option CommitRecord) (n m : ℕ) (h : Holding) → is_of_number n h ≡ true → is_named o n m h ≡ true → passes (is_unmarked n) (settled_by (found_by m h.enlistment o) h) ≡ false
settled_by_record None n m h same named = refl
settled_by_record (Some r) n m h same named =
    let here : names m h.enlistment r ≡ true = ap (λ b. not b || names m h.enlistment r) (sym same) ∙ named in
    rw here (and_right (is_of_number n h) false refl)

pub one_settled : (rs : List CommitRecord) (n m : ℕ) (h : Holding) → Passes (is_named (first_of (identifier_of n) rs) n m) (is_here n) h → passes (is_unmarked n) (settled_one rs m h) ≡ false
one_settled rs n m h facts = by (is_of_number n h) refl
  where
    kept : is_of_number n h ≡ true → (b : Bool) → h.marked ≡ b → passes (is_unmarked n) (cond b (Some h) (settled_by (found_by m h.enlistment (first_of (identifier_of n) rs)) h)) ≡ false
    kept same true is = and_right (is_of_number n h) (not h.marked) (ap not is)
    kept same false is = settled_by_record (first_of (identifier_of n) rs) n m h same facts.0

    by : (b : Bool) → is_of_number n h ≡ b → passes (is_unmarked n) (settled_one rs m h) ≡ false
    by true same = ap (passes (is_unmarked n)) (settled_is rs n m h same facts.1) ∙ kept same h.marked refl
    by false apart = of_number n (λ x. not x.marked) (settled_one rs m h) (other rs n m h apart)

-- where the log and the sites are whole, all that is held is named
unnamed_pairs : (n m : ℕ) (hs : List Holding) → each (is_named None n m) hs ≡ true
unnamed_pairs n m [] = refl
unnamed_pairs n m (h ∷ hs) = unnamed_pairs n m hs

unnamed_sites : (n : ℕ) (ss : List Site) → each (λ s. each (is_named None n s.manager) s.held) ss ≡ true
unnamed_sites n [] = refl
unnamed_sites n (s ∷ ss) = and_from (each (is_named None n s.manager) s.held) _ (unnamed_pairs n s.manager s.held) (unnamed_sites n ss)

pub named_by : (o : Option CommitRecord) (n : ℕ) (ss : List Site) → is_whole_by o n ss ≡ true → each (λ s. each (is_named o n s.manager) s.held) ss ≡ true
named_by (Some r) n ss e = (and_parts (each (is_held n ss) r.enlistments) (are_all_named n r ss) e).1
named_by None n ss e = unnamed_sites n ss

-- ---- each that the record names is kept

abbrev pub is_kept : ℕ → ℕ → Holding → Bool
is_kept n e h = is_the n e h && h.marked

-- the facts of a holding, where the record is this one
abbrev pub IsNamed : CommitRecord → ℕ → ℕ → Holding → Type 0
IsNamed r n m = Passes (is_named (Some r) n m) (is_here n)

pub kept_one : (rs : List CommitRecord) (r : CommitRecord) (n e m : ℕ) (h : Holding) → first_of (identifier_of n) rs ≡ Some r → is_the n e h ≡ true → IsNamed r n m h → passes (is_kept n e) (settled_one rs m h) ≡ true
kept_one rs r n e m h first is facts = by (and_parts (is_of_number n h) (e == h.enlistment) is).0
  where
    kept : is_of_number n h ≡ true → (b : Bool) → h.marked ≡ b → passes (is_kept n e) (cond b (Some h) (settled_by (found_by m h.enlistment (Some r)) h)) ≡ true
    kept same true marks = and_from (is_the n e h) h.marked is marks
    kept same false marks =
        let named : names m h.enlistment r ≡ true = ap (λ b. not b || names m h.enlistment r) (sym same) ∙ facts.0 in
        rw named (and_from (is_the n e h) true is refl)

    by : is_of_number n h ≡ true → passes (is_kept n e) (settled_one rs m h) ≡ true
    by same =
        ap (passes (is_kept n e)) (settled_is rs n m h same facts.1)
        ∙ ap (λ o. passes (is_kept n e) (cond h.marked (Some h) (settled_by (found_by m h.enlistment o) h))) first
        ∙ kept same h.marked refl

kept_sites : (rs : List CommitRecord) (r : CommitRecord) (n : ℕ) (p : ℕ × ℕ) (ss : List Site) → first_of (identifier_of n) rs ≡ Some r → EachAt (IsNamed r n) ss → is_held n ss p ≡ true
    → is_kept_at n (map (settled_site rs) ss) p ≡ true
kept_sites rs r n p [] first facts is = absurd cc
kept_sites rs r n p (s ∷ ss) first facts is =
    here_or_on (p.0 == s.manager) (has (is_the n p.1) s.held) (is_held n ss p) (has (is_kept n p.1) (settled rs s.manager s.held)) (is_kept_at n (map (settled_site rs) ss) p)
    (some_left (is_the n p.1) (is_kept n p.1) (IsNamed r n s.manager) rs s.manager (λ h named the. kept_one rs r n p.1 s.manager h first the named) s.held facts.0)
    (kept_sites rs r n p ss first facts.1)
    is

all_kept : (rs : List CommitRecord) (r : CommitRecord) (n : ℕ) (ss : List Site) (ps : List (ℕ × ℕ)) → first_of (identifier_of n) rs ≡ Some r → EachAt (IsNamed r n) ss → each (is_held n ss) ps ≡ true
    → each (is_kept_at n (map (settled_site rs) ss)) ps ≡ true
all_kept rs r n ss [] first facts is = refl
all_kept rs r n ss (p ∷ ps) first facts is =
    let parts = and_parts (is_held n ss p) (each (is_held n ss) ps) is in
    and_from (is_kept_at n (map (settled_site rs) ss) p) (each (is_kept_at n (map (settled_site rs) ss)) ps) (kept_sites rs r n p ss first facts parts.0) (all_kept rs r n ss ps first facts parts.1)

-- ---- and where there is no record, nothing is left

gone_one : (rs : List CommitRecord) (n m : ℕ) (h : Holding) → first_of (identifier_of n) rs ≡ None → Passes (λ x. not (is_marked n x)) (is_here n) h → passes (is_of_number n) (settled_one rs m h) ≡ false
gone_one rs n m h first facts = by (is_of_number n h) refl
  where
    gone : is_of_number n h ≡ true → (b : Bool) → h.marked ≡ b → passes (is_of_number n) (cond b (Some h) None) ≡ false
    gone same true is = absurd (cc (not-true (is_marked n h) facts.0, same, is))
    gone same false is = refl

    by : (b : Bool) → is_of_number n h ≡ b → passes (is_of_number n) (settled_one rs m h) ≡ false
    by true same =
        ap (passes (is_of_number n)) (settled_is rs n m h same facts.1)
        ∙ ap (λ o. passes (is_of_number n) (cond h.marked (Some h) (settled_by (found_by m h.enlistment o) h))) first
        ∙ gone same h.marked refl
    by false apart = other rs n m h apart

-- ---- the law

-- each that the record names is kept, where there is a record
kept_by : (rs : List CommitRecord) (n : ℕ) (ss : List Site) → is_whole_by (first_of (identifier_of n) rs) n ss ≡ true → has_here n ss ≡ false → (r : CommitRecord) → first_of (identifier_of n) rs ≡ Some r
    → each (is_kept_at n (map (settled_site rs) ss)) r.enlistments ≡ true
kept_by rs n ss whole early r first =
    let here : is_whole_by (Some r) n ss ≡ true = ap (λ o. is_whole_by o n ss) (sym first) ∙ whole in
    let parts = and_parts (each (is_held n ss) r.enlistments) (are_all_named n r ss) here in
    all_kept rs r n ss r.enlistments first (each_at (is_named (Some r) n) (is_here n) ss parts.1 early) parts.0

pub recovered : IsRecovered
unfolding is_whole
recovered rs ss n whole early =
    let o = first_of (identifier_of n) rs in
    record {
      settled = ap not (none_left_at (is_unmarked n) (λ m. Passes (is_named o n m) (is_here n)) rs (one_settled rs n) ss (each_at (is_named o n) (is_here n) ss (named_by o n ss whole) early));
      all = kept_by rs n ss whole early;
      nothing = λ first off. none_left_at (is_of_number n) (λ m. Passes (λ x. not (is_marked n x)) (is_here n)) rs (λ m h facts. gone_one rs n m h first facts) ss
          (each_at (λ m x. not (is_marked n x)) (is_here n) ss (each_not_at (is_marked n) ss off) early);
    }
