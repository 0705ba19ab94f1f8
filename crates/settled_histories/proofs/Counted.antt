-- Of what was sent once at most, nothing was got before it comes, whatever was lost.
use Rattle.std.proofs.Common.{◌≡◌, suc, ◌≤◌, Bool, true, false, ◌||◌, List, [], ◌∷◌, refl, subst, arith}
use Rattle.std.specs.Prelude.{not, if◌then◌else◌}
use Rattle.dtx_values.specs.declared.entry.Entry.{Entry}
use Rattle.dtx_values.specs.declared.message.Conn.{Conn}
use Rattle.dtx_values.specs.declared.message.Dir.{Dir}
use Rattle.dtx_values.specs.declared.message.Message.{Message}
use Rattle.dtx_values.specs.Table.{how_many}
use Rattle.std.proofs.lemmas.Bool.{false_from_ne_true, or_left}
use Rattle.dtx_model.specs.Words.{always, has}
use Rattle.dtx_model.specs.Wires.{WireRun, in_transit, is_next}
use Rattle.dtx_model.proofs.Bools.{and_left, and_right, or_first, or_second}
use Rattle.history_table.proofs.InTransit.{no_more}
use Rattle.history_table.proofs.Crossed.{is_sent_on, is_got_on}

-- of a kind that is sent once at most
abbrev pub is_once : (Entry → Bool) → List Entry → Entry → Bool
is_once q past x = not (q x) || not (has q past)

none_count : {A : Type 0} (q : A → Bool) (xs : List A) → has q xs ≡ false → how_many q xs ≡ 0
none_count q [] n = refl
none_count q (x ∷ xs) n = rw (or_first (q x) (has q xs) n) (none_count q xs (or_second (q x) (has q xs) n))

some_count : {A : Type 0} (q : A → Bool) (xs : List A) → has q xs ≡ true → 1 ≤ how_many q xs
some_count q [] k = absurd cc
some_count q (x ∷ xs) k = step (q x) k (some_count q xs)
  where
    step : (b : Bool) → (b || has q xs) ≡ true → (has q xs ≡ true → 1 ≤ how_many q xs) → 1 ≤ (if b then suc (how_many q xs) else how_many q xs)
    step true k ih = omega arith
    step false k ih = ih k

once_count : (q : Entry → Bool) (h : List Entry) → always (is_once q) h ≡ true → how_many q h ≤ 1
once_count q [] r = omega arith
once_count q (x ∷ h) r = step (q x) (has q h) refl (and_left (not (q x) || not (has q h)) (always (is_once q) h) r) (once_count q h (and_right (not (q x) || not (has q h)) (always (is_once q) h) r))
  where
    step : (a b : Bool) → has q h ≡ b → (not a || not b) ≡ true → how_many q h ≤ 1 → (if a then suc (how_many q h) else how_many q h) ≤ 1
    step true true e k ih = absurd cc
    step true false e k ih = let n = none_count q h e in omega arith
    step false b e k ih = ih

-- nothing of it was got before it comes
pub got_first : (c : Conn) (d : Dir) (m : Message) (p : Message → Bool) (h : List Entry) → WireRun h → is_next m (in_transit c d h) → p m ≡ true → always (is_once (is_sent_on c d p)) h ≡ true
    → has (is_got_on c d p) h ≡ false
got_first c d m p h run n k r =
    false_from_ne_true (has (is_got_on c d p) h)
    (λ g. let a = some_count (is_got_on c d p) h g in
    let b = some_count p (in_transit c d h) (first (in_transit c d h) n) in
    let s = once_count (is_sent_on c d p) h r in
    let l = no_more c d p h run in
    absurd (omega arith))
  where
    first : (ms : List Message) → is_next m ms → has p ms ≡ true
    first [] n = absurd n
    first (x ∷ ms) n = let P : Message → Type 0 = λ y. (p y || has p ms) ≡ true in subst P n (or_left (p m) (has p ms) k)
