-- Puts of which none is bad: a map refuses none of them.
use Rattle.std.proofs.Common.{ℕ, suc, ◌≡◌, ◌==◌, ◌+◌, ◌<◌, ◌≤◌, nat_le, ◌||◌, ◌&&◌, Bool, true, false, cond, not, List, [], ◌∷◌, filter, find, length, Option, Some, None, refl, sym, subst, ap, ◌∙◌, arith}
use Rattle.std.specs.Prelude.{if◌then◌else◌}
use Rattle.std.proofs.lemmas.Bool.{eqb-true, eq-eqb, false_from_ne_true}
use Rattle.std.proofs.lemmas.Bool.Decides.{nat_tests}
use Rattle.dtx_values.specs.declared.script.BadCause.{BadCause}
use Rattle.dtx_values.specs.declared.script.BadCause.TheVariants.{KeyTaken, NameUnknown, TooManyPuts, WrongKind}
use Rattle.dtx_values.specs.declared.script.Body.{Body}
use Rattle.dtx_values.specs.declared.script.Body.TheVariants.{Volatile}
use Rattle.dtx_values.specs.declared.script.Line.{Line}
use Rattle.dtx_values.specs.Table.{how_many}
use Rattle.dtx_values.proofs.Counts.{how_many-count_by}
use Rattle.dtx_model.specs.Caused.{Volatiles}
use Rattle.dtx_model.specs.Grammar.{are_named_well}
use Rattle.dtx_model.specs.Words.{has}
use Rattle.dtx_model.proofs.Counts.{how_many-insert_by}
use Rattle.dtx_model.proofs.Bools.{and_both, and_left, and_never, and_right, not_both, not_false, not_true}
use Rattle.heard_notes.specs.Puts.{is_key_of, is_key_of_another, keys_of, put_fault, with_number}
use Rattle.heard_notes.specs.declared.put.Put.{Put}
use Rattle.history_table.proofs.Lists.{OfEach, has-at, of-at, of-insert}
use Rattle.history_table.proofs.Makers.{of-filter}
use Rattle.history_table.proofs.Scans.{has_more}
use Rattle.history_table.proofs.Tests.{eq_self, eq_swap}
use Rattle.put_lines.specs.Input.{are_good, makes_volatile_of, named_in}
use Rattle.tx_map.specs.declared.refusal.MapRefusal.TheVariants.{Over}
use Rattle.tx_map.specs.declared.refusal.TheConstants.{KEYS}
use Rattle.tx_map.specs.declared.write.LiveWrite.{LiveWrite}
use Rattle.tx_map.specs.Live.{MapState, Pair, is_at, is_of, write_key}
use Rattle.tx_map.specs.Order.{IsRising, IsRisingFrom}
use Rattle.tx_map.specs.Puts.{has_voted, is_of_another, is_own_at, other_keys, put_refusal, refused_by, write_of}
use Rattle.tx_map.proofs.LiveWrites.{rising-with_live}
use Rattle.map_run.specs.Puts.{AreAllowed, empty, pair_of, with_put}
use Rattle.map_run.proofs.Makers.{IsMadeBy, at_place, makes_it, one_transaction, transaction_in}
use Rattle.map_run.proofs.Puts.{any-with_live}
use Rattle.map_run.proofs.Keys.{same_pairs}

-- The keys of an enlistment, as numbers and as puts.
has-with_number : (k j : ℕ) (ks : List ℕ) → has (λ f. k == f) (with_number j ks) ≡ ((k == j) || has (λ f. k == f) ks)
has-with_number k j ks = by (has (λ f. j == f) ks) (k == j) refl refl
  where
    by : (h e : Bool) → has (λ f. j == f) ks ≡ h → (k == j) ≡ e → has (λ f. k == f) (if h then ks else j ∷ ks) ≡ (e || has (λ f. k == f) ks)
    by true true p q = ap (λ n. has (λ f. n == f) ks) (eqb-true k j q) ∙ p
    by true false p q = refl
    by false e p q = ap (λ b. b || has (λ f. k == f) ks) q

has-keys_of : (e k : ℕ) (ps : List Put) → has (λ f. k == f) (keys_of e ps) ≡ has (is_key_of e k) ps
has-keys_of e k [] = refl
has-keys_of e k (p ∷ ps) = by (e == p.enlistment.value) (has-keys_of e k ps)
  where
    by : (b : Bool) → has (λ f. k == f) (keys_of e ps) ≡ has (is_key_of e k) ps → has (λ f. k == f) (if b then with_number p.key (keys_of e ps) else keys_of e ps) ≡ ((b && (k == p.key)) || has (is_key_of e k) ps)
    by true h = has-with_number k p.key (keys_of e ps) ∙ ap (λ b. (k == p.key) || b) h
    by false h = h

-- how many they are with one more
length-with_number : (j : ℕ) (ks : List ℕ) → length (with_number j ks) ≡ cond (has (λ f. j == f) ks) (length ks) (suc (length ks))
length-with_number j ks = by (has (λ f. j == f) ks)
  where
    by : (b : Bool) → length (if b then ks else j ∷ ks) ≡ cond b (length ks) (suc (length ks))
    by true = refl
    by false = refl

-- How many writes of a pair there are.
count-filter : (f g : LiveWrite → Bool) (ws : List LiveWrite) → how_many f (filter g ws) ≡ how_many (λ w. f w && g w) ws
count-filter f g [] = refl
count-filter f g (w ∷ ws) = by (g w) (f w) refl (count-filter f g ws)
  where
    by : (b a : Bool) → f w ≡ a → how_many f (filter g ws) ≡ how_many (λ w. f w && g w) ws
        → how_many f (cond b (w ∷ filter g ws) (filter g ws)) ≡ cond (a && b) (suc (how_many (λ w. f w && g w) ws)) (how_many (λ w. f w && g w) ws)
    by true true e h = ap (λ b. cond b (suc (how_many f (filter g ws))) (how_many f (filter g ws))) e ∙ ap suc h
    by true false e h = ap (λ b. cond b (suc (how_many f (filter g ws))) (how_many f (filter g ws))) e ∙ h
    by false true e h = h
    by false false e h = h

count-same : (f g : LiveWrite → Bool) (ws : List LiveWrite) → ((w : LiveWrite) → f w ≡ g w) → how_many f ws ≡ how_many g ws
count-same f g [] h = refl
count-same f g (w ∷ ws) h = ap (λ b. cond b (suc (how_many f ws)) (how_many f ws)) (h w) ∙ ap (λ n. cond (g w) (suc n) n) (count-same f g ws h)

-- the pair's writes of other keys
abbrev is_other : Pair → ℕ → LiveWrite → Bool
is_other q k w = is_of q w && not (is_at k w)

-- those of other keys, and that of the key
count-parts : (q : Pair) (k : ℕ) (ws : List LiveWrite) → how_many (is_of q) ws ≡ how_many (is_other q k) ws + how_many (is_own_at q k) ws
count-parts q k [] = refl
count-parts q k (w ∷ ws) = by (is_of q w) (w.key == k) (how_many (is_of q) ws) (how_many (is_other q k) ws) (how_many (is_own_at q k) ws) (count-parts q k ws)
  where
    by : (o a : Bool) (n i j : ℕ) → n ≡ i + j → cond o (suc n) n ≡ cond (o && not a) (suc i) i + cond (o && a) (suc j) j
    by true true n i j h = omega arith
    by true false n i j h = omega arith
    by false a n i j h = h

-- which is one at most
count-none : (f : LiveWrite → Bool) (ws : List LiveWrite) → has f ws ≡ false → how_many f ws ≡ 0
count-none f [] h = refl
count-none f (w ∷ ws) h = by (f w) h (count-none f ws)
  where
    by : (b : Bool) → (b || has f ws) ≡ false → (has f ws ≡ false → how_many f ws ≡ 0) → cond b (suc (how_many f ws)) (how_many f ws) ≡ 0
    by true h r = absurd cc
    by false h r = r h

own-beyond : (q : Pair) (k n : ℕ) (ws : List LiveWrite) → k < n → IsRisingFrom write_key n ws → has (is_own_at q k) ws ≡ false
own-beyond q k n [] lt h = refl
own-beyond q k n (w ∷ ws) lt h =
    let e : (w.key == k) ≡ false = grind (arith, nat_tests, h.0) in
    ap (λ b. (is_of q w && b) || has (is_own_at q k) ws) e ∙ ap (λ b. b || has (is_own_at q k) ws) (and_never (is_of q w)) ∙ own-beyond q k (suc w.key) ws (omega (arith, h.0)) h.1

count-own : (q : Pair) (k n : ℕ) (ws : List LiveWrite) → IsRisingFrom write_key n ws → how_many (is_own_at q k) ws ≡ cond (has (is_own_at q k) ws) 1 0
count-own q k n [] h = refl
count-own q k n (w ∷ ws) h = by (is_of q w) (w.key == k) refl (count-own q k (suc w.key) ws h.1)
  where
    by : (o a : Bool) → (w.key == k) ≡ a → how_many (is_own_at q k) ws ≡ cond (has (is_own_at q k) ws) 1 0
        → cond (o && a) (suc (how_many (is_own_at q k) ws)) (how_many (is_own_at q k) ws) ≡ cond ((o && a) || has (is_own_at q k) ws) 1 0
    by true true e r = let same : w.key ≡ k = eqb-true w.key k e in ap suc (count-none (is_own_at q k) ws (own-beyond q k (suc w.key) ws (omega arith) h.1))
    by true false e r = r
    by false a e r = r

-- What stands of a map after these puts, which stand newest first here: none is voted, each live write's pair is that of a line, and each pair has the keys of its enlistment.
pub record IsLoaded (s : List Line) (before : List Put) (m : MapState) : Type 0 where
  pub rises : IsRising write_key m.live
  pub made : OfEach (λ w. (w.voted ≡ false) × IsMadeBy s w.enlistment.value w.transaction.value) m.live
  pub keys : (p : Pair) (k : ℕ) → IsMadeBy s p.1.value p.0.value → has (is_own_at p k) m.live ≡ has (is_key_of p.1.value k) before
  pub count : (p : Pair) → IsMadeBy s p.1.value p.0.value → how_many (is_of p) m.live ≡ length (keys_of p.1.value before)
  pub few : (e : ℕ) → length (keys_of e before) ≤ 1000

-- so it is of an empty map
pub none_loaded : (s : List Line) → IsLoaded s [] empty
none_loaded s = record { rises = tt; made = tt; keys = λ p k m. refl; count = λ p m. refl; few = λ e. omega arith }

-- Nobody voted.
none_voted : (s : List Line) (q : Pair) (ws : List LiveWrite) → OfEach (λ w. (w.voted ≡ false) × IsMadeBy s w.enlistment.value w.transaction.value) ws → has_voted q ws ≡ false
none_voted s q [] h = refl
none_voted s q (w ∷ ws) h = ap (λ b. (is_of q w && b) || has_voted q ws) h.0.0 ∙ ap (λ b. b || has_voted q ws) (and_never (is_of q w)) ∙ none_voted s q ws h.1

none_found : {A : Type 0} (p : A → Bool) (xs : List A) → has p xs ≡ false → find p xs ≡ None
none_found p [] h = refl
none_found p (x ∷ xs) h = by (p x) h (none_found p xs)
  where
    by : (b : Bool) → (b || has p xs) ≡ false → (has p xs ≡ false → find p xs ≡ None) → cond b (Some x) (find p xs) ≡ None
    by true h f = absurd cc
    by false h f = f h

-- a put of one that a line makes, of a key that no other enlistment has, and of no more keys than may be
module _ (s : List Line) (named : are_named_well s ≡ true) (before : List Put) (m : MapState) (p : Put) (loaded : IsLoaded s before m) (made : IsMadeBy s p.enlistment.value p.transaction.value)
    (room : (not (has (is_key_of p.enlistment.value p.key) before) && nat_le 1000 (length (keys_of p.enlistment.value before))) ≡ false)
    (free : has (is_key_of_another p.enlistment.value p.key) before ≡ false) where
  -- no other pair has a live write of the key
  none_other : has (is_of_another (pair_of p) p.key) m.live ≡ false
  none_other = false_from_ne_true (has (is_of_another (pair_of p) p.key) m.live) (λ t.
      let at = at_place (is_of_another (pair_of p) p.key) m.live t in
      let w : LiveWrite = at.1 in
      let own = of-at (λ w. (w.voted ≡ false) × IsMadeBy s w.enlistment.value w.transaction.value) m.live at.0 w loaded.made at.2 in
      let other : not (is_of (pair_of p) w) ≡ true = and_left (not (is_of (pair_of p) w)) (w.key == p.key) at.3 in
      let same : (w.key == p.key) ≡ true = and_right (not (is_of (pair_of p) w)) (w.key == p.key) at.3 in
      let its : is_own_at (w.transaction, w.enlistment) p.key w ≡ true =
      and_both (is_of (w.transaction, w.enlistment) w) (w.key == p.key) (and_both (w.transaction.value == w.transaction.value) (w.enlistment.value == w.enlistment.value) (eq_self w.transaction.value) (eq_self w.enlistment.value)) same in
      let put : has (is_key_of w.enlistment.value p.key) before ≡ true =
      sym (loaded.keys (w.transaction, w.enlistment) p.key own.1) ∙ has-at (is_own_at (w.transaction, w.enlistment) p.key) m.live at.0 w at.2 its in
      by w own.1 (not_true (is_of (pair_of p) w) other) put (p.enlistment.value == w.enlistment.value) refl)
    where
      by : (w : LiveWrite) → IsMadeBy s w.enlistment.value w.transaction.value → is_of (pair_of p) w ≡ false → has (is_key_of w.enlistment.value p.key) before ≡ true → (b : Bool) → (p.enlistment.value == w.enlistment.value) ≡ b → ⊥
      by w k n put true e =
          let here : p.enlistment.value ≡ w.enlistment.value = eqb-true p.enlistment.value w.enlistment.value e in
          let M : ℕ → Type 0 = λ i. IsMadeBy s i w.transaction.value in
          not_both (is_of (pair_of p) w)
          (and_both (w.transaction.value == p.transaction.value) (w.enlistment.value == p.enlistment.value)
          (eq-eqb w.transaction.value p.transaction.value (one_transaction s p.enlistment.value w.transaction.value p.transaction.value named (subst M (sym here) k) made)) (eq_swap w.enlistment.value p.enlistment.value ∙ e)) n
      by w k n put false e =
          not_both (has (is_key_of_another p.enlistment.value p.key) before)
          (has_more (is_key_of w.enlistment.value p.key) (is_key_of_another p.enlistment.value p.key) (λ r t.
          and_both (not (p.enlistment.value == r.enlistment.value)) (p.key == r.key)
          (not_false (p.enlistment.value == r.enlistment.value) (ap (λ i. p.enlistment.value == i) (sym (eqb-true w.enlistment.value r.enlistment.value (and_left (w.enlistment.value == r.enlistment.value) (p.key == r.key) t))) ∙ e))
          (and_right (w.enlistment.value == r.enlistment.value) (p.key == r.key) t)) before put) free

  -- and the pair has few others
  not_many : other_keys (pair_of p) p.key m.live < 1000
  not_many = subst (λ n. n < 1000) (how_many-count_by (is_other (pair_of p) p.key) m.live) (by (has (is_key_of p.enlistment.value p.key) before) refl)
    where
      parts : how_many (is_of (pair_of p)) m.live ≡ how_many (is_other (pair_of p) p.key) m.live + how_many (is_own_at (pair_of p) p.key) m.live
      parts = count-parts (pair_of p) p.key m.live

      all : how_many (is_of (pair_of p)) m.live ≡ length (keys_of p.enlistment.value before)
      all = loaded.count (pair_of p) made

      own : how_many (is_own_at (pair_of p) p.key) m.live ≡ cond (has (is_key_of p.enlistment.value p.key) before) 1 0
      own = count-own (pair_of p) p.key 0 m.live loaded.rises ∙ ap (λ b. cond b 1 0) (loaded.keys (pair_of p) p.key made)

      most : length (keys_of p.enlistment.value before) ≤ 1000
      most = loaded.few p.enlistment.value

      with_own : (o n l : ℕ) → n ≡ 1 → l ≡ o + n → l ≤ 1000 → o < 1000
      with_own o n l a b c = omega arith

      without : (o n l : ℕ) → l ≡ o + n → l < 1000 → o < 1000
      without o n l b c = omega arith

      below : (n : ℕ) → nat_le 1000 n ≡ false → n < 1000
      below n e = grind (arith, nat_tests)

      by : (b : Bool) → has (is_key_of p.enlistment.value p.key) before ≡ b → how_many (is_other (pair_of p) p.key) m.live < 1000
      by true e = with_own (how_many (is_other (pair_of p) p.key) m.live) (how_many (is_own_at (pair_of p) p.key) m.live) (length (keys_of p.enlistment.value before)) (own ∙ ap (λ b. cond b 1 0) e) (sym all ∙ parts) most
      by false e =
          let less : nat_le 1000 (length (keys_of p.enlistment.value before)) ≡ false = sym (ap (λ b. not b && nat_le 1000 (length (keys_of p.enlistment.value before))) e) ∙ room in
          without (how_many (is_other (pair_of p) p.key) m.live) (how_many (is_own_at (pair_of p) p.key) m.live) (length (keys_of p.enlistment.value before)) (sym all ∙ parts) (below (length (keys_of p.enlistment.value before)) less)

  -- so it isn't refused
  pub put_allowed : put_refusal (pair_of p) p.key m.live ≡ None
  put_allowed =
      ap (λ b. cond b (Some (Over (pair_of p).0 (pair_of p).1)) (refused_by (find (is_of_another (pair_of p) p.key) m.live) (nat_le KEYS (other_keys (pair_of p) p.key m.live)))) (none_voted s (pair_of p) m.live loaded.made)
      ∙ ap (λ o. refused_by o (nat_le KEYS (other_keys (pair_of p) p.key m.live))) (none_found (is_of_another (pair_of p) p.key) m.live none_other)
      ∙ ap (λ b. refused_by None b) (few (other_keys (pair_of p) p.key m.live) not_many)
    where
      few : (n : ℕ) → n < 1000 → nat_le KEYS n ≡ false
      few n lt = grind (arith, nat_tests)

  x : LiveWrite
  x = write_of (pair_of p) p.key (Some p.value)

  -- the write is of each pair of its enlistment that a line makes
  own_pair : (q : Pair) → IsMadeBy s q.1.value q.0.value → ((p.transaction.value == q.0.value) && (p.enlistment.value == q.1.value)) ≡ (q.1.value == p.enlistment.value)
  own_pair q k = by (q.1.value == p.enlistment.value) refl
    where
      by : (b : Bool) → (q.1.value == p.enlistment.value) ≡ b → ((p.transaction.value == q.0.value) && (p.enlistment.value == q.1.value)) ≡ b
      by true e =
          let M : ℕ → Type 0 = λ i. IsMadeBy s i p.transaction.value in
          let same : p.transaction.value ≡ q.0.value = one_transaction s q.1.value p.transaction.value q.0.value named (subst M (sym (eqb-true q.1.value p.enlistment.value e)) made) k in
          and_both (p.transaction.value == q.0.value) (p.enlistment.value == q.1.value) (eq-eqb p.transaction.value q.0.value same) (eq_swap p.enlistment.value q.1.value ∙ e)
      by false e = ap (λ b. (p.transaction.value == q.0.value) && b) (eq_swap p.enlistment.value q.1.value ∙ e) ∙ and_never (p.transaction.value == q.0.value)

  -- the keys with its own
  keys_with : (q : Pair) (k : ℕ) → IsMadeBy s q.1.value q.0.value → has (is_own_at q k) (with_put m p).live ≡ has (is_key_of q.1.value k) (p ∷ before)
  keys_with q k made_q =
      any-with_live (is_own_at q k) (pair_of p) p.key (Some p.value) m.live (λ w a b.
      and_both ((p.transaction.value == q.0.value) && (p.enlistment.value == q.1.value)) (p.key == k)
      (same_pairs q (pair_of p) w (and_left (is_of q w) (w.key == k) a) (and_left (is_of (pair_of p) w) (w.key == p.key) b))
      (let here : w.key ≡ p.key = eqb-true w.key p.key (and_right (is_of (pair_of p) w) (w.key == p.key) b) in subst (λ n. (n == k) ≡ true) here (and_right (is_of q w) (w.key == k) a)))
      ∙ ap (λ b. (b && (p.key == k)) || has (is_own_at q k) m.live) (own_pair q made_q)
      ∙ ap (λ b. ((q.1.value == p.enlistment.value) && b) || has (is_own_at q k) m.live) (eq_swap p.key k)
      ∙ ap (λ b. ((q.1.value == p.enlistment.value) && (k == p.key)) || b) (loaded.keys q k made_q)

  -- how many they are
  kept : LiveWrite → Bool
  kept w = not (is_own_at (pair_of p) p.key w)

  count_with : (q : Pair) → IsMadeBy s q.1.value q.0.value → how_many (is_of q) (with_put m p).live ≡ length (keys_of q.1.value (p ∷ before))
  unfolding kept x
  count_with q made_q =
      how_many-insert_by (is_of q) write_key x (filter kept m.live) ∙ ap (λ b. cond b (suc (how_many (is_of q) (filter kept m.live))) (how_many (is_of q) (filter kept m.live))) (own_pair q made_q) ∙ by (q.1.value == p.enlistment.value) refl
    where
      ks : List ℕ
      ks = keys_of q.1.value before

      only : (o a : Bool) → (o && not (o && a)) ≡ (o && not a)
      only true a = refl
      only false a = refl

      total : (h : Bool) (c o n l : ℕ) → c ≡ o + n → c ≡ l → n ≡ cond h 1 0 → suc o ≡ cond h l (suc l)
      total true c o n l a b d = omega arith
      total false c o n l a b d = omega arith

      apart : (q.1.value == p.enlistment.value) ≡ false → (w : LiveWrite) (a b : Bool) → is_of q w ≡ a → is_own_at (pair_of p) p.key w ≡ b → (a && not b) ≡ a
      apart e w true true c d =
          absurd (not_both ((p.transaction.value == q.0.value) && (p.enlistment.value == q.1.value)) (same_pairs q (pair_of p) w c (and_left (is_of (pair_of p) w) (w.key == p.key) d)) (own_pair q made_q ∙ e))
      apart e w true false c d = refl
      apart e w false b c d = refl

      by : (b : Bool) → (q.1.value == p.enlistment.value) ≡ b → cond b (suc (how_many (is_of q) (filter kept m.live))) (how_many (is_of q) (filter kept m.live)) ≡ length (if b then with_number p.key ks else ks)
      by true e =
          let enlistment : q.1.value ≡ p.enlistment.value = eqb-true q.1.value p.enlistment.value e in
          let M : ℕ → Type 0 = λ i. IsMadeBy s i p.transaction.value in
          let transaction : q.0.value ≡ p.transaction.value = one_transaction s q.1.value q.0.value p.transaction.value named made_q (subst M (sym enlistment) made) in
          let others : how_many (is_of q) (filter kept m.live) ≡ how_many (is_other (pair_of p) p.key) m.live =
          count-filter (is_of q) kept m.live
          ∙ count-same (λ w. is_of q w && kept w) (is_other (pair_of p) p.key) m.live (λ w.
          ap (λ i. ((w.transaction.value == i) && (w.enlistment.value == q.1.value)) && kept w) transaction
          ∙ ap (λ i. ((w.transaction.value == p.transaction.value) && (w.enlistment.value == i)) && kept w) enlistment ∙ only (is_of (pair_of p) w) (w.key == p.key)) in
          let all : how_many (is_of (pair_of p)) m.live ≡ length ks = loaded.count (pair_of p) made ∙ ap (λ i. length (keys_of i before)) (sym enlistment) in
          let own : how_many (is_own_at (pair_of p) p.key) m.live ≡ cond (has (λ f. p.key == f) ks) 1 0 =
          count-own (pair_of p) p.key 0 m.live loaded.rises
          ∙ ap (λ b. cond b 1 0) (loaded.keys (pair_of p) p.key made ∙ sym (has-keys_of p.enlistment.value p.key before) ∙ ap (λ i. has (λ f. p.key == f) (keys_of i before)) (sym enlistment)) in
          ap suc others
          ∙ total (has (λ f. p.key == f) ks) (how_many (is_of (pair_of p)) m.live) (how_many (is_other (pair_of p) p.key) m.live) (how_many (is_own_at (pair_of p) p.key) m.live) (length ks) (count-parts (pair_of p) p.key m.live) all own
          ∙ sym (length-with_number p.key ks)
      by false e =
          count-filter (is_of q) kept m.live ∙ count-same (λ w. is_of q w && kept w) (is_of q) m.live (λ w. apart e w (is_of q w) (is_own_at (pair_of p) p.key w) refl refl) ∙ loaded.count q made_q

  few_with : (e : ℕ) → length (keys_of e (p ∷ before)) ≤ 1000
  few_with e = by (e == p.enlistment.value) refl
    where
      by : (b : Bool) → (e == p.enlistment.value) ≡ b → length (if b then with_number p.key (keys_of e before) else keys_of e before) ≤ 1000
      by false q = loaded.few e
      by true q = let P : ℕ → Type 0 = λ n. n ≤ 1000 in subst P (sym (length-with_number p.key (keys_of e before))) (fits (has (λ f. p.key == f) (keys_of e before)) refl)
        where
          fits : (h : Bool) → has (λ f. p.key == f) (keys_of e before) ≡ h → cond h (length (keys_of e before)) (suc (length (keys_of e before))) ≤ 1000
          fits true a = loaded.few e
          fits false a =
              let same : e ≡ p.enlistment.value = eqb-true e p.enlistment.value q in
              let none : has (is_key_of p.enlistment.value p.key) before ≡ false = ap (λ i. has (is_key_of i p.key) before) (sym same) ∙ sym (has-keys_of e p.key before) ∙ a in
              let less : nat_le 1000 (length (keys_of p.enlistment.value before)) ≡ false = sym (ap (λ b. not b && nat_le 1000 (length (keys_of p.enlistment.value before))) none) ∙ room in
              let least : nat_le 1000 (length (keys_of e before)) ≡ false = ap (λ i. nat_le 1000 (length (keys_of i before))) same ∙ less in
              grind (arith, nat_tests)

  -- and the map with it is loaded
  pub put_loaded : IsLoaded s (p ∷ before) (with_put m p)
  put_loaded =
      let M : LiveWrite → Type 0 = λ w. (w.voted ≡ false) × IsMadeBy s w.enlistment.value w.transaction.value in
      record {
        rises = rising-with_live (pair_of p) p.key (Some p.value) m.live loaded.rises (none_found (is_of_another (pair_of p) p.key) m.live none_other);
        made = of-insert M write_key (write_of (pair_of p) p.key (Some p.value)) (refl, made) (filter (λ w. not (is_own_at (pair_of p) p.key w)) m.live) (of-filter M (λ w. not (is_own_at (pair_of p) p.key w)) m.live loaded.made);
        keys = keys_with;
        count = count_with;
        few = few_with;
      }

-- What a put that isn't bad keeps.
no_fault : (a b c d : Bool) → (if not a then Some NameUnknown else if not b then Some WrongKind else if c then Some TooManyPuts else if d then Some KeyTaken else None) ≡ None → (b ≡ true) × (c ≡ false) × (d ≡ false)
no_fault true true false false q = (refl, refl, refl)
no_fault true true false true q = absurd cc
no_fault true true true d q = absurd cc
no_fault true false c d q = absurd cc
no_fault false b c d q = absurd cc

-- who has a put is made by a line
put_made : (s : List Line) (t e : ℕ) → has (λ l. makes_volatile_of t e l.body) s ≡ true → IsMadeBy s e t
put_made s t e h =
    let at = at_place (λ l. makes_volatile_of t e l.body) s h in
    let q = by at.1.body at.3 in
    record { number = suc at.0; line = at.1; stands = at.2; makes = q.0; at = q.1 }
  where
    by : (b : Body) → makes_volatile_of t e b ≡ true → (makes_it e b ≡ true) × (transaction_in b ≡ t)
    by (Volatile u f x v) k = (and_right (t == u.value) (e == f.value) k, sym (eqb-true t u.value (and_left (t == u.value) (e == f.value) k)))
    by _ k = absurd cc

-- the first put is good, and the others after it
good_first : (s : List Line) (before : List Put) (p : Put) (ps : List Put) → are_good 1000 s Volatiles before (p ∷ ps) ≡ true
    → (put_fault 1000 (named_in s Volatiles p) before p ≡ None) × (are_good 1000 s Volatiles (p ∷ before) ps ≡ true)
good_first s before p ps h = (by (put_fault 1000 (named_in s Volatiles p) before p) refl, and_right _ (are_good 1000 s Volatiles (p ∷ before) ps) h)
  where
    by : (o : Option BadCause) → put_fault 1000 (named_in s Volatiles p) before p ≡ o → o ≡ None
    by None e = refl
    by (Some c) e = absurd (let bad = rw e at h in cc)

-- So a map refuses none of them, and each is of a line.
good_allowed : (s : List Line) → are_named_well s ≡ true → (before ps : List Put) (m : MapState) → IsLoaded s before m → are_good 1000 s Volatiles before ps ≡ true
    → AreAllowed m ps × OfEach (λ p. IsMadeBy s p.enlistment.value p.transaction.value) ps
good_allowed s named before [] m l h = (tt, tt)
good_allowed s named before (p ∷ ps) m l h =
    let first = good_first s before p ps h in
    let kept = no_fault (named_in s Volatiles p).made (named_in s Volatiles p).right (not (has (is_key_of p.enlistment.value p.key) before) && nat_le 1000 (length (keys_of p.enlistment.value before)))
    (has (is_key_of_another p.enlistment.value p.key) before) first.0 in
    let made : IsMadeBy s p.enlistment.value p.transaction.value = put_made s p.transaction.value p.enlistment.value kept.0 in
    let rest = good_allowed s named (p ∷ before) ps (with_put m p) (put_loaded s named before m p l made kept.1 kept.2) first.1 in
    ((put_allowed s named before m p l made kept.1 kept.2, rest.0), (made, rest.1))

pub puts_allowed : (s : List Line) (ps : List Put) → are_named_well s ≡ true → are_good 1000 s Volatiles [] ps ≡ true → AreAllowed empty ps
puts_allowed s ps named h = (good_allowed s named [] ps empty (none_loaded s) h).0

pub puts_made : (s : List Line) (ps : List Put) → are_named_well s ≡ true → are_good 1000 s Volatiles [] ps ≡ true → OfEach (λ p. IsMadeBy s p.enlistment.value p.transaction.value) ps
puts_made s ps named h = (good_allowed s named [] ps empty (none_loaded s) h).1
