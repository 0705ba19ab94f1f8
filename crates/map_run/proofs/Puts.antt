-- A map after puts, key by key, beside the table of those that pass.
use Rattle.std.proofs.Common.{ℕ, ◌≡◌, ◌==◌, ◌||◌, ◌&&◌, Bool, true, false, cond, not, List, [], ◌∷◌, filter, find, Option, Some, None, refl, sym, subst, ap, ◌∙◌, arith}
use Rattle.std.specs.Prelude.{if◌then◌else◌}
use Rattle.std.specs.List.{list_any}
use Rattle.std.proofs.lemmas.Bool.{eqb-true, eq-eqb, false_from_ne_true}
use Rattle.std.proofs.lemmas.Map.Views.{any-filter_same}
use Rattle.dtx_model.specs.Words.{has}
use Rattle.dtx_model.proofs.Bools.{and_both, and_left, and_never, and_right, not_both, not_false, or_swap}
use Rattle.heard_notes.specs.Tables.{has_puts, put_onto, with_value}
use Rattle.heard_notes.specs.declared.put.Put.{Put}
use Rattle.history_table.proofs.Lists.{OfEach, has-insert}
use Rattle.history_table.proofs.Tests.{eq_swap}
use Rattle.tx_map.specs.declared.write.LiveWrite.{LiveWrite}
use Rattle.tx_map.specs.Live.{MapState, Pair, has_live, is_at, is_of, write_key}
use Rattle.tx_map.specs.Order.{IsRisingFrom}
use Rattle.tx_map.specs.Puts.{is_of_another, is_own_at, put_refusal, with_live, write_of}
use Rattle.tx_map.proofs.LiveWrites.{another_in, find-another, refusal-none, rising-with_live, with_live-parts}
use Rattle.map_run.specs.Puts.{AreAllowed, pair_of, with_put, with_puts}
use Rattle.map_run.proofs.Keys.{same_pairs, Held, Rises, find-parts, held_in}
use Rattle.map_run.proofs.Rows.{rising-with_value, row-with, row_at, row_key}

-- the value of a key's live write, where its pair passes
abbrev pub value_if : (Pair → Bool) → Option Held → Option ℕ
value_if passes (Some h) = if passes h.0 then h.1 else None
value_if passes None = None

abbrev pub held_at : ℕ → MapState → Option Held
held_at k m = held_in (find (is_at k) m.live)

-- the table has at each key the value of a live write whose pair passes, and each live write's pair is good
pub record IsBeside (passes good : Pair → Bool) (m : MapState) (t : List (ℕ × ℕ)) : Type 0 where
  pub rises : Rises m
  pub rows : IsRisingFrom row_key 0 t
  pub base : m.base ≡ []
  pub same : (k : ℕ) → row_at k t ≡ value_if passes (held_at k m)
  pub held : (k : ℕ) (h : Held) → held_at k m ≡ Some h → good h.0 ≡ true

-- the test sees numbers alone
abbrev pub SeesNumbers : (Pair → Bool) → Type 0
SeesNumbers f = (p q : Pair) → p.0.value ≡ q.0.value → p.1.value ≡ q.1.value → f p ≡ f q

-- a key's live write after a put
held-put : (p : Put) (m : MapState) (j : ℕ) → Rises m → find (is_of_another (pair_of p) p.key) m.live ≡ None → held_at j (with_put m p) ≡ cond (p.key == j) (Some (pair_of p, Some p.value)) (held_at j m)
held-put p m j r free =
    ap (λ (ws : List LiveWrite). held_in (find (is_at j) ws)) (with_live-parts (pair_of p) p.key (Some p.value) 0 m.live r.live free)
    ∙ ap held_in (find-parts write_key p.key j (write_of (pair_of p) p.key (Some p.value) ∷ []) m.live (Some (write_of (pair_of p) p.key (Some p.value))) refl)
    ∙ by (p.key == j) (find (is_at j) m.live)
  where
    by : (e : Bool) (o : Option LiveWrite) → held_in (cond e (Some (write_of (pair_of p) p.key (Some p.value))) o) ≡ cond e (Some (pair_of p, Some p.value)) (held_in o)
    by true o = refl
    by false o = refl

-- a key that is free for a pair is held by it, or by none
free_value : (passes : Pair → Bool) → SeesNumbers passes → (p : Pair) (k : ℕ) (m : MapState) → Rises m → find (is_of_another p k) m.live ≡ None → passes p ≡ false → value_if passes (held_at k m) ≡ None
free_value passes sees p k m r free n = by (find (is_at k) m.live) (sym (find-another p k 0 m.live r.live) ∙ free)
  where
    by : (o : Option LiveWrite) → another_in p o ≡ None → value_if passes (held_in o) ≡ None
    by None q = refl
    by (Some w) q = split (is_of p w) refl q
      where
        split : (c : Bool) → is_of p w ≡ c → cond c None (Some w) ≡ None → (if passes (w.transaction, w.enlistment) then w.value else None) ≡ None
        split true e q =
            let same : passes (w.transaction, w.enlistment) ≡ false =
            sees (w.transaction, w.enlistment) p (eqb-true w.transaction.value p.0.value (and_left (w.transaction.value == p.0.value) (w.enlistment.value == p.1.value) e))
            (eqb-true w.enlistment.value p.1.value (and_right (w.transaction.value == p.0.value) (w.enlistment.value == p.1.value) e)) ∙ n in
            ap (λ b. cond b w.value None) same
        split false e q = absurd cc

-- one put keeps it
one_put : (passes good : Pair → Bool) → SeesNumbers passes → (p : Put) (m : MapState) (t : List (ℕ × ℕ)) → put_refusal (pair_of p) p.key m.live ≡ None → good (pair_of p) ≡ true → IsBeside passes good m t
    → IsBeside passes good (with_put m p) (if passes (pair_of p) then with_value p.key p.value t else t)
one_put passes good sees p m t allowed g b =
    record {
      rises = record { base = b.rises.base; live = rising-with_live (pair_of p) p.key (Some p.value) m.live b.rises.live free };
      rows = rising (passes (pair_of p));
      base = b.base;
      same = λ j. value (passes (pair_of p)) refl j ∙ ap (value_if passes) (sym (held-put p m j b.rises free));
      held = λ j h e. good_held (p.key == j) h (held_at j m) (b.held j) (sym (held-put p m j b.rises free) ∙ e);
    }
  where
    free : find (is_of_another (pair_of p) p.key) m.live ≡ None
    free = refusal-none (pair_of p) p.key m.live allowed

    rising : (c : Bool) → IsRisingFrom row_key 0 (if c then with_value p.key p.value t else t)
    rising true = rising-with_value p.key p.value 0 t (omega arith) b.rows
    rising false = b.rows

    at_key : (e c : Bool) (o : Option Held) → passes (pair_of p) ≡ c → cond e (cond c (Some p.value) None) (value_if passes o) ≡ value_if passes (cond e (Some (pair_of p, Some p.value)) o)
    at_key true c o q = sym (ap (λ x. cond x (Some p.value) None) q)
    at_key false c o q = refl

    kept : (j : ℕ) (e : Bool) → (p.key == j) ≡ e → passes (pair_of p) ≡ false → row_at j t ≡ cond e None (value_if passes (held_at j m))
    kept j true e n = b.same j ∙ ap (λ k. value_if passes (held_at k m)) (sym (eqb-true p.key j e)) ∙ free_value passes sees (pair_of p) p.key m b.rises free n
    kept j false e n = b.same j

    value : (c : Bool) → passes (pair_of p) ≡ c → (j : ℕ) → row_at j (if c then with_value p.key p.value t else t) ≡ value_if passes (cond (p.key == j) (Some (pair_of p, Some p.value)) (held_at j m))
    value true q j = row-with j p.key p.value 0 t b.rows ∙ ap (λ o. cond (p.key == j) (Some p.value) o) (b.same j) ∙ at_key (p.key == j) true (held_at j m) q
    value false q j = kept j (p.key == j) refl q ∙ at_key (p.key == j) false (held_at j m) q

    good_held : (e : Bool) (h : Held) (o : Option Held) → ((i : Held) → o ≡ Some i → good i.0 ≡ true) → cond e (Some (pair_of p, Some p.value)) o ≡ Some h → good h.0 ≡ true
    good_held true h o f q = subst (λ (o : Option Held). holds_good o ≡ true) q g
      where
        holds_good : Option Held → Bool
        holds_good (Some i) = good i.0
        holds_good None = false
    good_held false h o f q = f h q

-- all of them keep it
pub all_puts : (passes good : Pair → Bool) → SeesNumbers passes → (ps : List Put) (m : MapState) (t : List (ℕ × ℕ)) → AreAllowed m ps → OfEach (λ p. good (pair_of p) ≡ true) ps → IsBeside passes good m t
    → IsBeside passes good (with_puts m ps) (put_onto (λ p. passes (pair_of p)) t ps)
all_puts passes good sees [] m t a g b = b
all_puts passes good sees (p ∷ ps) m t a g b = all_puts passes good sees ps (with_put m p) _ a.1 g.1 (one_put passes good sees p m t a.0 g.0 b)

-- A test passes a write after a put where it passed one, or passes the put, which stands in place of one that it passed.
pub any-with_live : (test : LiveWrite → Bool) (q : Pair) (k : ℕ) (v : Option ℕ) (ws : List LiveWrite) → ((w : LiveWrite) → test w ≡ true → is_own_at q k w ≡ true → test (write_of q k v) ≡ true)
    → list_any test (with_live q k v ws) ≡ (test (write_of q k v) || list_any test ws)
any-with_live test q k v ws h = has-insert test write_key (write_of q k v) (filter (λ w. not (is_own_at q k w)) ws) ∙ by (test (write_of q k v)) refl
  where
    by : (b : Bool) → test (write_of q k v) ≡ b → (b || list_any test (filter (λ w. not (is_own_at q k w)) ws)) ≡ (b || list_any test ws)
    by true e = refl
    by false e = any-filter_same test (λ w. not (is_own_at q k w)) true (λ w t. not_false (is_own_at q k w) (false_from_ne_true (is_own_at q k w) (λ o. not_both (test (write_of q k v)) (h w t o) e))) ws

-- the put is the pair's
abbrev pub is_put_of : Pair → Put → Bool
is_put_of p q = (q.transaction.value == p.0.value) && (q.enlistment.value == p.1.value)

live-put : (p : Pair) (q : Put) (m : MapState) → has_live p (with_put m q).live ≡ (is_put_of p q || has_live p m.live)
live-put p q m = any-with_live (is_of p) (pair_of q) q.key (Some q.value) m.live (λ w t o. same_pairs p (pair_of q) w t (and_left (is_of (pair_of q) w) (w.key == q.key) o))

pub live-puts : (p : Pair) (ps : List Put) (m : MapState) → has_live p (with_puts m ps).live ≡ (has (is_put_of p) ps || has_live p m.live)
live-puts p [] m = refl
live-puts p (q ∷ ps) m =
    live-puts p ps (with_put m q) ∙ ap (λ b. has (is_put_of p) ps || b) (live-put p q m) ∙ or_swap (has (is_put_of p) ps) (is_put_of p q) (has_live p m.live)
    ∙ or_assoc (is_put_of p q) (has (is_put_of p) ps) (has_live p m.live)
  where
    or_assoc : (a b c : Bool) → (a || (b || c)) ≡ ((a || b) || c)
    or_assoc true b c = refl
    or_assoc false b c = refl

-- where each put of an enlistment is of the pair's transaction, the pair has a put where the enlistment has
pub puts_of_pair : (p : Pair) (ps : List Put) → OfEach (λ q. (p.1.value == q.enlistment.value) ≡ true → q.transaction.value ≡ p.0.value) ps → has (is_put_of p) ps ≡ has_puts ps p.1.value
puts_of_pair p [] h = refl
puts_of_pair p (q ∷ ps) h = ap (λ b. b || has (is_put_of p) ps) (by (p.1.value == q.enlistment.value) refl) ∙ ap (λ b. (p.1.value == q.enlistment.value) || b) (puts_of_pair p ps h.1)
  where
    by : (b : Bool) → (p.1.value == q.enlistment.value) ≡ b → is_put_of p q ≡ (p.1.value == q.enlistment.value)
    by true e = and_both (q.transaction.value == p.0.value) (q.enlistment.value == p.1.value) (eq-eqb q.transaction.value p.0.value (h.0 e)) (eq_swap q.enlistment.value p.1.value ∙ e) ∙ sym e
    by false e = ap (λ b. (q.transaction.value == p.0.value) && b) (eq_swap q.enlistment.value p.1.value ∙ e) ∙ and_never (q.transaction.value == p.0.value) ∙ sym e
