-- What is demanded followed, where nothing is owed.
use Rattle.std.proofs.Common.{◌≡◌, Bool, true, ◌||◌, List, [], ◌∷◌, Option, Some, None, ◌∙◌, sym, ap}
use Rattle.std.proofs.lemmas.Bool.{or_left}
use Rattle.dtx_values.specs.declared.entry.Entry.{Entry}
use Rattle.dtx_model.specs.Words.{has}
use Rattle.dtx_model.proofs.Bools.{and_left, and_right, or_case, or_right}
use Rattle.settled_histories.proofs.Debts.{debt, meets, is_free, pays, paid, owes_none}

-- after this history the entry demands what passes q, or more
pub record Demands (P : List Entry → Type 0) (past : List Entry) (y : Entry) (q : Entry → Bool) : Type 0 where
  pub test : Entry → Bool
  pub owed : debt past y ≡ Some test
  pub serves : (x : Entry) → P (x ∷ y ∷ past) → test x ≡ true → q x ≡ true

-- what is demanded isn't free, and is met by what is paid
not_free : (o : Option (Entry → Bool)) (t : Entry → Bool) → o ≡ Some t → is_free o ≡ true → ⊥
not_free (Some q) t e f = absurd cc
not_free None t e f = absurd cc

met : (o : Option (Entry → Bool)) (t : Entry → Bool) (x : Entry) → o ≡ Some t → meets o x ≡ true → t x ≡ true
met o t x e m = sym (ap (λ r. meets r x) e) ∙ m

-- where each entry that passes p demands what passes q, one that passes p was followed by one that passes q
pub followed : (P : List Entry → Type 0) → ((x : Entry) (h : List Entry) → P (x ∷ h) → P h) → (p q : Entry → Bool)
    → ((y : Entry) (past : List Entry) → P (y ∷ past) → p y ≡ true → Demands P past y q)
    → (h : List Entry) → P h → paid h ≡ true → owes_none h ≡ true → has p h ≡ true → has q h ≡ true
followed P closed p q due [] g k n s = absurd cc
followed P closed p q due (x ∷ h) g k n s =
    or_case (p x) (has p h) (λ a. let d = due x h g a in absurd (not_free (debt h x) d.test d.owed n)) (λ a. inner x h g k a) s
  where
    inner : (x : Entry) (h : List Entry) → P (x ∷ h) → paid (x ∷ h) ≡ true → has p h ≡ true → (q x || has q h) ≡ true
    inner x [] g k a = absurd cc
    inner x (y ∷ past) g k a =
        or_case (p y) (has p past)
        (λ b. let d = due y past (closed x (y ∷ past) g) b in
        or_left (q x) (has q (y ∷ past)) (d.serves x g (met (debt past y) d.test x d.owed (and_left (pays (y ∷ past) x) (paid (y ∷ past)) k))))
        (λ b. or_right (q x) (has q (y ∷ past)) (inner y past (closed x (y ∷ past) g) (and_right (pays (y ∷ past) x) (paid (y ∷ past)) k) b)) a
