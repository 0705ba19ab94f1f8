-- Tests of what is held, at one resource and at all.
use Rattle.std.proofs.Common.{◌≡◌, ℕ, Bool, true, false, not, ◌&&◌, ◌||◌, ◌==◌, List, [], ◌∷◌, map, Option, Some, None, refl, sym, ◌∙◌}
use Rattle.std.proofs.lemmas.Bool.{and_from, and_parts, eqb-true, not_from_false, or_from, or_left, or_parts, or_right}
use Rattle.dtx_model.specs.Log.{CommitRecord}
use Rattle.dtx_model.specs.Words.{each, has, put}
use Rattle.recovery_laws.specs.Finding.{settled, settled_one}
use Rattle.recovery_laws.specs.Whole.{Site, is_of_number, settled_site}
use Rattle.resource_managers.specs.Holding.{Holding}

-- the number of a holding that is of the number
pub number_is : (n : ℕ) (h : Holding) → is_of_number n h ≡ true → h.number ≡ n
number_is n h e = sym (eqb-true n h.number e)

-- one of the number: with this enlistment, marked, and not marked
abbrev pub is_the : ℕ → ℕ → Holding → Bool
is_the n e h = is_of_number n h && (e == h.enlistment)

abbrev pub is_marked : ℕ → Holding → Bool
is_marked n h = is_of_number n h && h.marked

abbrev pub is_unmarked : ℕ → Holding → Bool
is_unmarked n h = is_of_number n h && not h.marked

-- a fact of each holding, at one resource and at all
abbrev pub Each : (Holding → Type 0) → List Holding → Type 0
Each Q [] = Unit {0}
Each Q (h ∷ hs) = Q h × Each Q hs

abbrev pub EachAt : (ℕ → Holding → Type 0) → List Site → Type 0
EachAt Q [] = Unit {0}
EachAt Q (s ∷ ss) = Each (Q s.manager) s.held × EachAt Q ss

-- one test passes at each, and another at none
abbrev pub Passes : (a b : Holding → Bool) → Holding → Type 0
Passes a b h = (a h ≡ true) × (b h ≡ false)

pub each_of : (a b : Holding → Bool) (hs : List Holding) → each a hs ≡ true → has b hs ≡ false → Each (Passes a b) hs
each_of a b [] on off = tt
each_of a b (h ∷ hs) on off =
    let here = and_parts (a h) (each a hs) on in
    let there = or_parts (b h) (has b hs) off in
    ((here.0, there.0), each_of a b hs here.1 there.1)

pub each_at : (a : ℕ → Holding → Bool) (b : Holding → Bool) (ss : List Site) → each (λ s. each (a s.manager) s.held) ss ≡ true → has (λ s. has b s.held) ss ≡ false → EachAt (λ m. Passes (a m) b) ss
each_at a b [] on off = tt
each_at a b (s ∷ ss) on off =
    let here = and_parts (each (a s.manager) s.held) (each (λ x. each (a x.manager) x.held) ss) on in
    let there = or_parts (has b s.held) (has (λ x. has b x.held) ss) off in
    (each_of (a s.manager) b s.held here.0 there.0, each_at a b ss here.1 there.1)

-- a test that passes at none fails at each
each_not : (b : Holding → Bool) (hs : List Holding) → has b hs ≡ false → each (λ h. not (b h)) hs ≡ true
each_not b [] off = refl
each_not b (h ∷ hs) off =
    let parts = or_parts (b h) (has b hs) off in
    and_from (not (b h)) (each (λ x. not (b x)) hs) (not_from_false (b h) parts.0) (each_not b hs parts.1)

pub each_not_at : (b : Holding → Bool) (ss : List Site) → has (λ s. has b s.held) ss ≡ false → each (λ s. each (λ h. not (b h)) s.held) ss ≡ true
each_not_at b [] off = refl
each_not_at b (s ∷ ss) off =
    let parts = or_parts (has b s.held) (has (λ x. has b x.held) ss) off in
    and_from (each (λ h. not (b h)) s.held) (each (λ x. each (λ h. not (b h)) x.held) ss) (each_not b s.held parts.0) (each_not_at b ss parts.1)

-- a test of what is left of a holding, where something is
abbrev pub passes : (Holding → Bool) → Option Holding → Bool
passes P (Some h) = P h
passes P None = false

pub has_put : (P : Holding → Bool) (o : Option Holding) (hs : List Holding) → has P (put o hs) ≡ (passes P o || has P hs)
has_put P (Some h) hs = refl
has_put P None hs = refl

-- a fact of what passes at none
pub each_off : (P : Holding → Bool) (hs : List Holding) → has P hs ≡ false → Each (λ h. P h ≡ false) hs
each_off P [] off = tt
each_off P (h ∷ hs) off = let parts = or_parts (P h) (has P hs) off in (parts.0, each_off P hs parts.1)

-- what recovery leaves of none isn't held after it
pub none_left : (P : Holding → Bool) (Q : Holding → Type 0) (rs : List CommitRecord) (m : ℕ) → ((h : Holding) → Q h → passes P (settled_one rs m h) ≡ false) → (hs : List Holding) → Each Q hs
    → has P (settled rs m hs) ≡ false
none_left P Q rs m none [] facts = refl
none_left P Q rs m none (h ∷ hs) facts = rw (has_put P (settled_one rs m h) (settled rs m hs)) (or_from (passes P (settled_one rs m h)) (has P (settled rs m hs)) (none h facts.0) (none_left P Q rs m none hs facts.1))

pub none_left_at : (P : Holding → Bool) (Q : ℕ → Holding → Type 0) (rs : List CommitRecord) → ((m : ℕ) (h : Holding) → Q m h → passes P (settled_one rs m h) ≡ false) → (ss : List Site) → EachAt Q ss
    → has (λ s. has P s.held) (map (settled_site rs) ss) ≡ false
none_left_at P Q rs none [] facts = refl
none_left_at P Q rs none (s ∷ ss) facts =
    or_from (has P (settled rs s.manager s.held)) (has (λ x. has P x.held) (map (settled_site rs) ss)) (none_left P (Q s.manager) rs s.manager (none s.manager) s.held facts.0) (none_left_at P Q rs none ss facts.1)

-- and what it leaves of one is
pub some_left : (P R : Holding → Bool) (Q : Holding → Type 0) (rs : List CommitRecord) (m : ℕ) → ((h : Holding) → Q h → P h ≡ true → passes R (settled_one rs m h) ≡ true) → (hs : List Holding) → Each Q hs
    → has P hs ≡ true → has R (settled rs m hs) ≡ true
some_left P R Q rs m one [] facts is = absurd cc
some_left P R Q rs m one (h ∷ hs) facts is = has_put R (settled_one rs m h) (settled rs m hs) ∙ by (P h) refl is (some_left P R Q rs m one hs facts.1)
  where
    by : (b : Bool) → P h ≡ b → (b || has P hs) ≡ true → (has P hs ≡ true → has R (settled rs m hs) ≡ true) → (passes R (settled_one rs m h) || has R (settled rs m hs)) ≡ true
    by true e is rest = or_left (passes R (settled_one rs m h)) _ (one h facts.0 e)
    by false e is rest = or_right (passes R (settled_one rs m h)) _ (rest is)

-- here or further on
pub here_or_on : (a b c d e : Bool) → (b ≡ true → d ≡ true) → (c ≡ true → e ≡ true) → ((a && b) || c) ≡ true → ((a && d) || e) ≡ true
here_or_on true true c d e here on is = rw (here refl) refl
here_or_on true false c d e here on is = or_right d e (on is)
here_or_on false b c d e here on is = on is
