-- What a history that keeps the table gives: whatever a row asks for before an entry stands before it.
use Rattle.std.proofs.Common.{◌≡◌, true, List, ◌∷◌, Bool, [], ◌&&◌}
use Rattle.dtx_values.specs.declared.entry.Entry.{Entry}
use Rattle.dtx_model.specs.Words.{has}
use Rattle.dtx_model.specs.Tied.{tied, is_tied}
use Rattle.dtx_model.specs.Wires.{WireRun}
use Rattle.dtx_model.proofs.Bools.{and_right, and_left, or_case, or_right}
use Rattle.history_table.proofs.Table.{ruled, rule}

-- each entry keeps its rule, each restart finds what may be found, and what is got was sent
pub record Keeps (h : List Entry) : Type 0 where
  pub rules : ruled h ≡ true
  pub ties : tied h ≡ true
  pub wires : WireRun h

-- so do the entries before the newest
pub keeps_before : (x : Entry) (h : List Entry) → Keeps (x ∷ h) → Keeps h
keeps_before x h k = record { rules = and_right (rule h x) (ruled h) k.rules; ties = and_right (is_tied h x) (tied h) k.ties; wires = k.wires.1 }

-- and the newest keeps its rule
pub newest : (x : Entry) (h : List Entry) → Keeps (x ∷ h) → rule h x ≡ true
newest x h k = and_left (rule h x) (ruled h) k.rules

-- where it is a restart, it finds what may be found
pub newest_tied : (x : Entry) (h : List Entry) → Keeps (x ∷ h) → is_tied h x ≡ true
newest_tied x h k = and_left (is_tied h x) (tied h) k.ties

-- where an entry that passes p comes only after a history with Q, and Q stays, Q holds where such an entry stands
pub earlier : (p : Entry → Bool) (Q : List Entry → Bool) → ((x : Entry) (h : List Entry) → Q h ≡ true → Q (x ∷ h) ≡ true)
    → ((x : Entry) (h : List Entry) → Keeps h → rule h x ≡ true → p x ≡ true → Q h ≡ true) → (h : List Entry) → Keeps h → has p h ≡ true → Q h ≡ true
earlier p Q stays from [] k s = absurd cc
earlier p Q stays from (x ∷ h) k s =
    stays x h (or_case (p x) (has p h) (λ t. from x h (keeps_before x h k) (newest x h k) t) (λ t. earlier p Q stays from h (keeps_before x h k) t) s)

-- the same, where what stays has its say in the table
pub earlier_keeping : (p : Entry → Bool) (Q : List Entry → Bool) → ((x : Entry) (h : List Entry) → Keeps (x ∷ h) → Q h ≡ true → Q (x ∷ h) ≡ true)
    → ((x : Entry) (h : List Entry) → Keeps h → rule h x ≡ true → p x ≡ true → Q h ≡ true) → (h : List Entry) → Keeps h → has p h ≡ true → Q h ≡ true
earlier_keeping p Q stays from [] k s = absurd cc
earlier_keeping p Q stays from (x ∷ h) k s =
    stays x h k (or_case (p x) (has p h) (λ t. from x h (keeps_before x h k) (newest x h k) t) (λ t. earlier_keeping p Q stays from h (keeps_before x h k) t) s)

-- the same, where what crosses between the sides has its say too
pub arrived : (p : Entry → Bool) (Q : List Entry → Bool) → ((x : Entry) (h : List Entry) → Q h ≡ true → Q (x ∷ h) ≡ true)
    → ((x : Entry) (h : List Entry) → Keeps (x ∷ h) → p x ≡ true → Q h ≡ true) → (h : List Entry) → Keeps h → has p h ≡ true → Q h ≡ true
arrived p Q stays from [] k s = absurd cc
arrived p Q stays from (x ∷ h) k s = stays x h (or_case (p x) (has p h) (λ t. from x h k t) (λ t. arrived p Q stays from h (keeps_before x h k) t) s)

-- where an entry that passes p comes only after one that passes q, one that passes q stands where one that passes p does
pub before : (p q : Entry → Bool) → ((x : Entry) (h : List Entry) → Keeps h → rule h x ≡ true → p x ≡ true → has q h ≡ true) → (h : List Entry) → Keeps h → has p h ≡ true
    → has q h ≡ true
before p q from h k s = earlier p (λ h. has q h) (λ x h t. or_right (q x) (has q h) t) from h k s

-- where all of three hold, the third does
pub third_of_three : (a b c : Bool) → (a && b && c) ≡ true → c ≡ true
third_of_three a b c t = and_right (a && b) c t

-- where all of five hold, the fifth does
pub fifth_of_five : (a b c d e : Bool) → (a && b && c && d && e) ≡ true → e ≡ true
fifth_of_five a b c d e t = and_right (a && b && c && d) e t
