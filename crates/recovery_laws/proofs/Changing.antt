-- What a step changes at one resource manager, and what stays of a test over all.
use Rattle.std.proofs.Common.{◌≡◌, ℕ, Bool, true, false, cond, ◌&&◌, ◌||◌, ◌==◌, List, [], ◌∷◌, ◌++◌, filter, map, refl, ap}
use Rattle.std.proofs.lemmas.Bool.{and_from, and_parts, or_from, or_parts}
use Rattle.dtx_model.specs.Words.{each, has}
use Rattle.recovery_laws.specs.Steps.{at_site, change}
use Rattle.recovery_laws.specs.Whole.{Site}
use Rattle.resource_managers.specs.Holding.{Holding, finished, is_doubt_of, with_mark}
use Rattle.resource_managers.specs.Pairs.{Pair}

-- ---- each is changed

pub has_mapped : {A : Type 0} (P : A → Bool) (f : A → A) (xs : List A) → ((x : A) → P (f x) ≡ P x) → has P (map f xs) ≡ has P xs
has_mapped P f [] same = refl
has_mapped P f (x ∷ xs) same = rw (same x, has_mapped P f xs same) refl

pub each_mapped : {A : Type 0} (P : A → Bool) (f : A → A) (xs : List A) → ((x : A) → P (f x) ≡ P x) → each P (map f xs) ≡ each P xs
each_mapped P f [] same = refl
each_mapped P f (x ∷ xs) same = rw (same x, each_mapped P f xs same) refl

-- what passes a test at each passes another at each
pub each_on : {A : Type 0} (P Q : A → Bool) (xs : List A) → ((x : A) → P x ≡ true → Q x ≡ true) → each P xs ≡ true → each Q xs ≡ true
each_on P Q [] on e = refl
each_on P Q (x ∷ xs) on e = let parts = and_parts (P x) (each P xs) e in and_from (Q x) (each Q xs) (on x parts.0) (each_on P Q xs on parts.1)

-- two tests that answer alike pass alike at each
pub each_same : {A : Type 0} (P Q : A → Bool) (xs : List A) → ((x : A) → P x ≡ Q x) → each P xs ≡ each Q xs
each_same P Q [] same = refl
each_same P Q (x ∷ xs) same = rw (same x, each_same P Q xs same) refl

-- ---- a test of all sites is the same where it is the same of what is held at each

changed : (Q : ℕ → List Holding → Bool) (f : List Holding → List Holding) (m : ℕ) (s : Site) → ((k : ℕ) (hs : List Holding) → Q k (f hs) ≡ Q k hs) → Q s.manager (change f m s).held ≡ Q s.manager s.held
changed Q f m s same = by (m == s.manager)
  where
    by : (b : Bool) → Q s.manager (cond b (f s.held) s.held) ≡ Q s.manager s.held
    by true = same s.manager s.held
    by false = refl

pub has_sites : (Q : ℕ → List Holding → Bool) (f : List Holding → List Holding) (m : ℕ) (ss : List Site) → ((k : ℕ) (hs : List Holding) → Q k (f hs) ≡ Q k hs)
    → has (λ s. Q s.manager s.held) (at_site f m ss) ≡ has (λ s. Q s.manager s.held) ss
has_sites Q f m ss same = has_mapped (λ (s : Site). Q s.manager s.held) (change f m) ss (λ s. changed Q f m s same)

pub each_sites : (Q : ℕ → List Holding → Bool) (f : List Holding → List Holding) (m : ℕ) (ss : List Site) → ((k : ℕ) (hs : List Holding) → Q k (f hs) ≡ Q k hs)
    → each (λ s. Q s.manager s.held) (at_site f m ss) ≡ each (λ s. Q s.manager s.held) ss
each_sites Q f m ss same = each_mapped (λ (s : Site). Q s.manager s.held) (change f m) ss (λ s. changed Q f m s same)

-- and what holds of none of them holds of none after the step
pub none_sites : (Q : ℕ → List Holding → Bool) (f : List Holding → List Holding) (m : ℕ) (ss : List Site) → ((k : ℕ) (hs : List Holding) → Q k hs ≡ false → Q k (f hs) ≡ false)
    → has (λ s. Q s.manager s.held) ss ≡ false → has (λ s. Q s.manager s.held) (at_site f m ss) ≡ false
none_sites Q f m [] off e = refl
none_sites Q f m (s ∷ ss) off e =
    let parts = or_parts (Q s.manager s.held) (has (λ x. Q x.manager x.held) ss) e in
    or_from (Q s.manager (change f m s).held) (has (λ x. Q x.manager x.held) (at_site f m ss)) (by (m == s.manager) parts.0) (none_sites Q f m ss off parts.1)
  where
    by : (b : Bool) → Q s.manager s.held ≡ false → Q s.manager (cond b (f s.held) s.held) ≡ false
    by true q = off s.manager s.held q
    by false q = q

-- and what holds of each of them holds of each
pub all_sites : (Q : ℕ → List Holding → Bool) (f : List Holding → List Holding) (m : ℕ) (ss : List Site) → ((k : ℕ) (hs : List Holding) → Q k hs ≡ true → Q k (f hs) ≡ true)
    → each (λ s. Q s.manager s.held) ss ≡ true → each (λ s. Q s.manager s.held) (at_site f m ss) ≡ true
all_sites Q f m [] on e = refl
all_sites Q f m (s ∷ ss) on e =
    let parts = and_parts (Q s.manager s.held) (each (λ x. Q x.manager x.held) ss) e in
    and_from (Q s.manager (change f m s).held) (each (λ x. Q x.manager x.held) (at_site f m ss)) (by (m == s.manager) parts.0) (all_sites Q f m ss on parts.1)
  where
    by : (b : Bool) → Q s.manager s.held ≡ true → Q s.manager (cond b (f s.held) s.held) ≡ true
    by true q = on s.manager s.held q
    by false q = q

-- ---- one more is held

pub has_joined : {A : Type 0} (P : A → Bool) (hs : List A) (x : A) → P x ≡ false → has P (hs ++ x ∷ []) ≡ has P hs
has_joined P [] x e = rw e refl
has_joined P (h ∷ hs) x e = ap (λ b. P h || b) (has_joined P hs x e)

pub each_joined : (P : Holding → Bool) (hs : List Holding) (x : Holding) → P x ≡ true → each P (hs ++ x ∷ []) ≡ each P hs
each_joined P [] x e = rw e refl
each_joined P (h ∷ hs) x e = ap (λ b. P h && b) (each_joined P hs x e)

-- ---- some are gone

pub has_filtered : (P g : Holding → Bool) (hs : List Holding) → ((h : Holding) → g h ≡ false → P h ≡ false) → has P (filter g hs) ≡ has P hs
has_filtered P g [] off = refl
has_filtered P g (h ∷ hs) off = by (has_filtered P g hs off) (g h) refl
  where
    by : has P (filter g hs) ≡ has P hs → (b : Bool) → g h ≡ b → has P (cond b (h ∷ filter g hs) (filter g hs)) ≡ (P h || has P hs)
    by ih true e = ap (λ b. P h || b) ih
    by ih false e = rw (off h e) ih

pub each_filtered : (P g : Holding → Bool) (hs : List Holding) → ((h : Holding) → g h ≡ false → P h ≡ true) → each P (filter g hs) ≡ each P hs
each_filtered P g [] on = refl
each_filtered P g (h ∷ hs) on = by (each_filtered P g hs on) (g h) refl
  where
    by : each P (filter g hs) ≡ each P hs → (b : Bool) → g h ≡ b → each P (cond b (h ∷ filter g hs) (filter g hs)) ≡ (P h && each P hs)
    by ih true e = ap (λ b. P h && b) ih
    by ih false e = rw (on h e) ih

pub none_filtered : (P g : Holding → Bool) (hs : List Holding) → has P hs ≡ false → has P (filter g hs) ≡ false
none_filtered P g [] e = refl
none_filtered P g (h ∷ hs) e = by (λ k. none_filtered P g hs k) (P h) refl (g h) e
  where
    by : (has P hs ≡ false → has P (filter g hs) ≡ false) → (a : Bool) → P h ≡ a → (b : Bool) → (a || has P hs) ≡ false → has P (cond b (h ∷ filter g hs) (filter g hs)) ≡ false
    by ih true p b e = absurd cc
    by ih false p true e = rw p (ih e)
    by ih false p false e = ih e

-- ---- the first in doubt of a pair is finished: it is marked, where that changes no answer, or it is gone, where the answer of it doesn't count

-- a test that a finish of the pair doesn't change: by a mark, or, where it is gone, since it answers so
abbrev pub Keeps : Bool → Bool → Pair → (Holding → Bool) → Type 0
Keeps gone commit p P = (h : Holding) → is_doubt_of p h ≡ true → cond commit (P (with_mark h)) gone ≡ P h

pub has_finished : (P : Holding → Bool) (commit : Bool) (p : Pair) (hs : List Holding) → Keeps false commit p P → has P (finished commit p hs) ≡ has P hs
has_finished P commit p [] same = refl
has_finished P commit p (h ∷ hs) same = by (has_finished P commit p hs same) (is_doubt_of p h) refl
  where
    here : (c : Bool) → cond c (P (with_mark h)) false ≡ P h → has P (cond c (with_mark h ∷ hs) hs) ≡ (P h || has P hs)
    here true e = ap (λ b. b || has P hs) e
    here false e = ap (λ b. b || has P hs) e

    by : has P (finished commit p hs) ≡ has P hs → (b : Bool) → is_doubt_of p h ≡ b → has P (cond b (cond commit (with_mark h ∷ hs) hs) (h ∷ finished commit p hs)) ≡ (P h || has P hs)
    by ih true e = here commit (same h e)
    by ih false e = ap (λ b. P h || b) ih

pub each_finished : (P : Holding → Bool) (commit : Bool) (p : Pair) (hs : List Holding) → Keeps true commit p P → each P (finished commit p hs) ≡ each P hs
each_finished P commit p [] same = refl
each_finished P commit p (h ∷ hs) same = by (each_finished P commit p hs same) (is_doubt_of p h) refl
  where
    here : (c : Bool) → cond c (P (with_mark h)) true ≡ P h → each P (cond c (with_mark h ∷ hs) hs) ≡ (P h && each P hs)
    here true e = ap (λ b. b && each P hs) e
    here false e = ap (λ b. b && each P hs) e

    by : each P (finished commit p hs) ≡ each P hs → (b : Bool) → is_doubt_of p h ≡ b → each P (cond b (cond commit (with_mark h ∷ hs) hs) (h ∷ finished commit p hs)) ≡ (P h && each P hs)
    by ih true e = here commit (same h e)
    by ih false e = ap (λ b. P h && b) ih

pub none_aborted : (P : Holding → Bool) (p : Pair) (hs : List Holding) → has P hs ≡ false → has P (finished false p hs) ≡ false
none_aborted P p [] e = refl
none_aborted P p (h ∷ hs) e = by (λ k. none_aborted P p hs k) (P h) refl (is_doubt_of p h) e
  where
    by : (has P hs ≡ false → has P (finished false p hs) ≡ false) → (a : Bool) → P h ≡ a → (b : Bool) → (a || has P hs) ≡ false → has P (cond b hs (h ∷ finished false p hs)) ≡ false
    by ih true q b e = absurd cc
    by ih false q true e = e
    by ih false q false e = rw q (ih e)
