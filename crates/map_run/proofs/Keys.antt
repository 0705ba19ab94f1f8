-- What a map holds of one key, and what a note changes in that.
use Rattle.std.proofs.Common.{ℕ, suc, ◌≡◌, ◌==◌, ◌<◌, ◌≤◌, nat_lt, ◌&&◌, Bool, true, false, cond, not, List, [], ◌∷◌, ◌++◌, map, filter, find, Option, Some, None, refl, sym, subst, ap, ◌∙◌, arith}
use Rattle.std.specs.Option.{option_or}
use Rattle.std.specs.Prelude.{if◌then◌else◌}
use Rattle.std.proofs.lemmas.Bool.{eqb-true}
use Rattle.std.proofs.lemmas.List.Folds.{find-append}
use Rattle.std.proofs.lemmas.Bool.Decides.{nat_tests}
use Rattle.dtx_values.specs.declared.note.Note.{Note}
use Rattle.dtx_values.specs.declared.note.Note.TheVariants.{Init, Prepare, Promote, Hand, Single, Commit, Rollback, InDoubt}
use Rattle.dtx_model.proofs.Bools.{and_both, and_left, and_right}
use Rattle.tx_map.specs.declared.write.LiveWrite.{LiveWrite}
use Rattle.tx_map.specs.declared.write.MapEntry.{MapEntry}
use Rattle.tx_map.specs.Live.{MapState, Pair, base_at, entry_key, is_at, is_of, others, own, value_in, value_over, write_key}
use Rattle.tx_map.specs.Notes.{after_note, base_with, entry_at, entry_of, marked, moved}
use Rattle.tx_map.specs.Order.{IsRising, IsRisingFrom, above, below}
use Rattle.tx_map.proofs.Rising.{find-none}
use Rattle.tx_map.proofs.LiveWrites.{another_in, rising-marked}
use Rattle.tx_map.proofs.Merging.{rising-filter, rising-moved}

-- whose write a key's live write is, and its value
abbrev pub Held : Type 0
Held = Pair × Option ℕ

-- a key: its live write, and its value in the base
pub record KeyState : Type 0 where
  pub held : Option Held
  pub base : Option ℕ

abbrev pub held_in : Option LiveWrite → Option Held
held_in (Some w) = Some ((w.transaction, w.enlistment), w.value)
held_in None = None

abbrev pub key_state : Option Held → Option ℕ → KeyState
key_state h b = record { held = h; base = b }

abbrev pub key_at : ℕ → MapState → KeyState
key_at k m = key_state (held_in (find (is_at k) m.live)) (base_at m k)

-- it is a write of the pair
abbrev pub is_held_by : Pair → Option Held → Bool
is_held_by p (Some h) = (h.0.0.value == p.0.value) && (h.0.1.value == p.1.value)
is_held_by p None = false

abbrev pub value_held : Option Held → Option ℕ → Option ℕ
value_held (Some h) b = h.1
value_held None b = b

-- a Commit of the pair moves its write into the base, a Rollback drops it
abbrev pub key_after : Pair → Note → KeyState → KeyState
key_after p Commit s = if is_held_by p s.held then key_state None (value_held s.held s.base) else s
key_after p Rollback s = if is_held_by p s.held then key_state None s.base else s
key_after p _ s = s

-- a write that is of two pairs: they have the same numbers
pub same_pairs : (p q : Pair) (w : LiveWrite) → is_of p w ≡ true → is_of q w ≡ true → ((q.0.value == p.0.value) && (q.1.value == p.1.value)) ≡ true
same_pairs p q w a d =
    and_both (q.0.value == p.0.value) (q.1.value == p.1.value)
    (both p.0.value q.0.value w.transaction.value (and_left (w.transaction.value == p.0.value) (w.enlistment.value == p.1.value) a) (and_left (w.transaction.value == q.0.value) (w.enlistment.value == q.1.value) d))
    (both p.1.value q.1.value w.enlistment.value (and_right (w.transaction.value == p.0.value) (w.enlistment.value == p.1.value) a) (and_right (w.transaction.value == q.0.value) (w.enlistment.value == q.1.value) d))
  where
    both : (i j k : ℕ) → (k == i) ≡ true → (k == j) ≡ true → (j == i) ≡ true
    both i j k a b = let same : k ≡ j = eqb-true k j b in subst (λ n. (n == i) ≡ true) same a

-- the map's keys rise
pub record Rises (m : MapState) : Type 0 where
  pub base : IsRising entry_key m.base
  pub live : IsRising write_key m.live

pub rises_after : (p : Pair) (n : Note) (m : MapState) → Rises m → Rises (after_note m p n)
rises_after p Prepare m r = record { base = r.base; live = rising-marked p 0 m.live r.live }
rises_after p Commit m r = record { base = rising-moved (own p m.live) m.base r.base; live = rising-filter write_key (λ w. not (is_of p w)) 0 m.live r.live }
rises_after p Rollback m r = record { base = r.base; live = rising-filter write_key (λ w. not (is_of p w)) 0 m.live r.live }
rises_after p _ m r = r

-- marks change nothing of a key
held-marked : (p : Pair) (k : ℕ) (ws : List LiveWrite) → held_in (find (is_at k) (map (marked p) ws)) ≡ held_in (find (is_at k) ws)
held-marked p k [] = refl
held-marked p k (w ∷ ws) = by (w.key == k) (held-marked p k ws)
  where
    by : (b : Bool) → held_in (find (is_at k) (map (marked p) ws)) ≡ held_in (find (is_at k) ws) → held_in (cond b (Some (marked p w)) (find (is_at k) (map (marked p) ws))) ≡ held_in (cond b (Some w) (find (is_at k) ws))
    by true h = refl
    by false h = h

-- the write, where it is the pair's
abbrev own_in : Pair → Option LiveWrite → Option LiveWrite
own_in p (Some w) = if is_of p w then Some w else None
own_in p None = None

-- the key's write among the pair's, and among the others'
find-own : (p : Pair) (k n : ℕ) (ws : List LiveWrite) → IsRisingFrom write_key n ws → find (is_at k) (own p ws) ≡ own_in p (find (is_at k) ws)
find-own p k n [] h = refl
find-own p k n (w ∷ ws) h = by (is_of p w) (w.key == k) refl refl (find-own p k (suc w.key) ws h.1)
  where
    by : (o e : Bool) → is_of p w ≡ o → (w.key == k) ≡ e → find (is_at k) (own p ws) ≡ own_in p (find (is_at k) ws)
        → find (is_at k) (cond o (w ∷ own p ws) (own p ws)) ≡ own_in p (cond e (Some w) (find (is_at k) ws))
    by true true a b r = rw (b, a) refl
    by true false a b r = rw b r
    by false true a b r = let same : w.key ≡ k = grind (arith, nat_tests) in rw a (find-none write_key k (suc w.key) (own p ws) (omega arith) (rising-filter write_key (is_of p) (suc w.key) ws h.1))
    by false false a b r = r

find-others : (p : Pair) (k n : ℕ) (ws : List LiveWrite) → IsRisingFrom write_key n ws → find (is_at k) (others p ws) ≡ another_in p (find (is_at k) ws)
find-others p k n [] h = refl
find-others p k n (w ∷ ws) h = by (is_of p w) (w.key == k) refl refl (find-others p k (suc w.key) ws h.1)
  where
    by : (o e : Bool) → is_of p w ≡ o → (w.key == k) ≡ e → find (is_at k) (others p ws) ≡ another_in p (find (is_at k) ws)
        → find (is_at k) (cond (not o) (w ∷ others p ws) (others p ws)) ≡ another_in p (cond e (Some w) (find (is_at k) ws))
    by true true a b r = let same : w.key ≡ k = grind (arith, nat_tests) in rw a (find-none write_key k (suc w.key) (others p ws) (omega arith) (rising-filter write_key (λ w. not (is_of p w)) (suc w.key) ws h.1))
    by true false a b r = r
    by false true a b r = rw (b, a) refl
    by false false a b r = rw b r

-- the key's value in a list of entries
abbrev pub value_at : ℕ → List MapEntry → Option ℕ
value_at k xs = value_in (find (λ x. x.key == k) xs)

-- a part by a test of keys has a key's item where the test lets the key pass
find-part : {A : Type 0} (key : A → ℕ) (k : ℕ) (q : ℕ → Bool) (xs : List A) → find (λ x. key x == k) (filter (λ x. q (key x)) xs) ≡ cond (q k) (find (λ x. key x == k) xs) None
find-part {A} key k q [] = by (q k)
  where
    by : (b : Bool) → ◌≡◌ {A = Option A} None (cond b None None)
    by true = refl
    by false = refl
find-part key k q (x ∷ xs) = by (q (key x)) (key x == k) (q k) refl refl refl (find-part key k q xs)
  where
    by : (b e c : Bool) → q (key x) ≡ b → (key x == k) ≡ e → q k ≡ c → find (λ x. key x == k) (filter (λ x. q (key x)) xs) ≡ cond c (find (λ x. key x == k) xs) None
        → find (λ x. key x == k) (cond b (x ∷ filter (λ x. q (key x)) xs) (filter (λ x. q (key x)) xs)) ≡ cond c (cond e (Some x) (find (λ x. key x == k) xs)) None
    by true true true a s p h = rw s refl
    by false false c a s p h = h
    by true false c a s p h = rw s h
    by true true false a s p h = absurd (let same : key x ≡ k = eqb-true (key x) k s in let both : true ≡ false = sym a ∙ ap q same ∙ p in cc)
    by false true true a s p h = absurd (let same : key x ≡ k = eqb-true (key x) k s in let both : false ≡ true = sym a ∙ ap q same ∙ p in cc)
    by false true false a s p h = h

-- what is below a key, these of the key, and what is above it
pub find-parts : {A : Type 0} (key : A → ℕ) (k j : ℕ) (ms xs : List A) (o : Option A) → find (λ x. key x == j) ms ≡ cond (k == j) o None
    → find (λ x. key x == j) (below key k xs ++ (ms ++ above key k xs)) ≡ cond (k == j) o (find (λ x. key x == j) xs)
find-parts {A} key k j ms xs o m =
    find-append (λ x. key x == j) (below key k xs) (ms ++ above key k xs)
    ∙ ap (λ a. option_or (find (λ x. key x == j) (below key k xs)) a) (find-append (λ x. key x == j) ms (above key k xs))
    ∙ ap (λ a. option_or a (option_or (find (λ x. key x == j) ms) (find (λ x. key x == j) (above key k xs)))) (find-part key j (λ i. nat_lt i k) xs)
    ∙ ap (λ a. option_or (cond (nat_lt j k) (find (λ x. key x == j) xs) None) (option_or a (find (λ x. key x == j) (above key k xs)))) m
    ∙ ap (λ a. option_or (cond (nat_lt j k) (find (λ x. key x == j) xs) None) (option_or (cond (k == j) o None) a)) (find-part key j (λ i. nat_lt k i) xs)
    ∙ by (nat_lt j k) (k == j) (nat_lt k j) refl refl refl o (find (λ x. key x == j) xs)
  where
    by : (l e g : Bool) → nat_lt j k ≡ l → (k == j) ≡ e → nat_lt k j ≡ g → (v f : Option A) → option_or (cond l f None) (option_or (cond e v None) (cond g f None)) ≡ cond e v f
    by true true g a s c v f = absurd (let same : k ≡ j = grind (arith, nat_tests) in let less : j < k = grind (arith, nat_tests) in omega arith)
    by false true true a s c v f = absurd (let same : k ≡ j = grind (arith, nat_tests) in let less : k < j = grind (arith, nat_tests) in omega arith)
    by false true false a s c (Some x) f = refl
    by false true false a s c None f = refl
    by true false g a s c v (Some x) = refl
    by true false true a s c v None = refl
    by true false false a s c v None = refl
    by false false true a s c v f = refl
    by false false false a s c v f = absurd (let more : k ≤ j = grind (arith, nat_tests) in let less : j ≤ k = grind (arith, nat_tests) in let same : k ≡ j = omega arith in grind (arith, nat_tests))

-- a base with one write has its value at its key
abbrev entry_in : ℕ → Option ℕ → Option MapEntry
entry_in k (Some v) = Some (record { key = k; value = v })
entry_in k None = None

value-with : (k : ℕ) (w : LiveWrite) (b : List MapEntry) → value_at k (base_with w b) ≡ cond (w.key == k) w.value (value_at k b)
value-with k w b = ap value_in (find-parts entry_key w.key k (entry_of w) b (entry_in w.key w.value) (entry w.value)) ∙ value (w.key == k) w.value (find (λ x. x.key == k) b)
  where
    entry : (v : Option ℕ) → find (λ x. x.key == k) (entry_at w.key v) ≡ cond (w.key == k) (entry_in w.key v) None
    entry (Some v) = refl
    entry None = either (w.key == k)
      where
        either : (b : Bool) → ◌≡◌ {A = Option MapEntry} None (cond b None None)
        either true = refl
        either false = refl

    value : (e : Bool) (v : Option ℕ) (f : Option MapEntry) → value_in (cond e (entry_in w.key v) f) ≡ cond e v (value_in f)
    value true (Some v) f = refl
    value true None f = refl
    value false v f = refl

-- so has a base with writes in order
value-moved : (k n : ℕ) (ws : List LiveWrite) (b : List MapEntry) → IsRisingFrom write_key n ws → value_at k (moved ws b) ≡ value_over (find (is_at k) ws) (value_at k b)
value-moved k n [] b h = refl
value-moved k n (w ∷ ws) b h =
    value-moved k (suc w.key) ws (base_with w b) h.1 ∙ ap (λ o. value_over (find (is_at k) ws) o) (value-with k w b) ∙ by (w.key == k) refl
  where
    by : (e : Bool) → (w.key == k) ≡ e → value_over (find (is_at k) ws) (cond e w.value (value_at k b)) ≡ value_over (cond e (Some w) (find (is_at k) ws)) (value_at k b)
    by true s = let same : w.key ≡ k = grind (arith, nat_tests) in ap (λ o. value_over o w.value) (find-none write_key k (suc w.key) ws (omega arith) h.1)
    by false s = refl

-- what a note changes of a key
pub key-after : (k : ℕ) (p : Pair) (n : Note) (m : MapState) → Rises m → key_at k (after_note m p n) ≡ key_after p n (key_at k m)
key-after k p Prepare m r = ap (λ o. key_state o (base_at m k)) (held-marked p k m.live)
key-after k p Commit m r =
    ap (λ o. key_state (held_in (find (is_at k) (others p m.live))) o) (value-moved k 0 (own p m.live) m.base (rising-filter write_key (is_of p) 0 m.live r.live) ∙ ap (λ o. value_over o (base_at m k)) (find-own p k 0 m.live r.live))
    ∙ ap (λ o. key_state (held_in o) (value_over (own_in p (find (is_at k) m.live)) (base_at m k))) (find-others p k 0 m.live r.live) ∙ by (find (is_at k) m.live) (base_at m k)
  where
    by : (o : Option LiveWrite) (b : Option ℕ) → key_state (held_in (another_in p o)) (value_over (own_in p o) b) ≡ key_after p Commit (key_state (held_in o) b)
    by None b = refl
    by (Some w) b = split (is_of p w)
      where
        split : (c : Bool) → key_state (held_in (cond c None (Some w))) (value_over (cond c (Some w) None) b) ≡ cond c (key_state None w.value) (key_state (Some ((w.transaction, w.enlistment), w.value)) b)
        split true = refl
        split false = refl
key-after k p Rollback m r =
    ap (λ o. key_state (held_in o) (base_at m k)) (find-others p k 0 m.live r.live) ∙ by (find (is_at k) m.live) (base_at m k)
  where
    by : (o : Option LiveWrite) (b : Option ℕ) → key_state (held_in (another_in p o)) b ≡ key_after p Rollback (key_state (held_in o) b)
    by None b = refl
    by (Some w) b = split (is_of p w)
      where
        split : (c : Bool) → key_state (held_in (cond c None (Some w))) b ≡ cond c (key_state None b) (key_state (Some ((w.transaction, w.enlistment), w.value)) b)
        split true = refl
        split false = refl
key-after k p Init m r = refl
key-after k p Promote m r = refl
key-after k p Hand m r = refl
key-after k p Single m r = refl
key-after k p InDoubt m r = refl
