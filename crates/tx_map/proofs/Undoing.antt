-- Puts of a pair that had no live write, and its Rollback, leave the map as it was.
use Rattle.std.proofs.Common.{◌≡◌, ℕ, Bool, true, false, cond, not, nat_lt, List, [], ◌∷◌, Option, Some, None, filter, eq-eqb, refl, ap, ◌∙◌}
use Rattle.std.proofs.lemmas.Bool.{and_parts, or_parts}
use Rattle.dtx_values.specs.Table.{insert_by}
use Rattle.tx_map.specs.declared.refusal.MapRefusal.{MapRefusal}
use Rattle.tx_map.specs.declared.write.LiveWrite.{LiveWrite}
use Rattle.tx_map.specs.Live.{MapState, Pair, has_live, is_at, is_of, others, write_key}
use Rattle.tx_map.specs.Puts.{after_put, is_own_at, with_live, write_of}
use Rattle.tx_map.specs.Laws.{IsUndone, Puts, after_call, after_calls, puts_of, unless_refused}

-- a pair's write is its own
is_of-write_of : (p : Pair) (k : ℕ) (v : Option ℕ) → is_of p (write_of p k v) ≡ true
is_of-write_of p k v = rw (eq-eqb p.0.value p.0.value refl, eq-eqb p.1.value p.1.value refl) refl

-- a write of the pair that comes in is none of the others
others-insert_by : (p : Pair) (x : LiveWrite) → is_of p x ≡ true → (ws : List LiveWrite) → others p (insert_by write_key x ws) ≡ others p ws
others-insert_by p x mine [] = rw mine refl
others-insert_by p x mine (w ∷ ws) = by (nat_lt w.key x.key) (others-insert_by p x mine ws)
  where
    by : (b : Bool) → others p (insert_by write_key x ws) ≡ others p ws → others p (cond b (w ∷ insert_by write_key x ws) (x ∷ w ∷ ws)) ≡ others p (w ∷ ws)
    by true h = ap (λ ys. cond (not (is_of p w)) (w ∷ ys) ys) h
    by false h = rw mine refl

-- nor is one that goes
others-filter : (p : Pair) (k : ℕ) (ws : List LiveWrite) → others p (filter (λ w. not (is_own_at p k w)) ws) ≡ others p ws
others-filter p k [] = refl
others-filter p k (w ∷ ws) = by (is_own_at p k w) refl (others-filter p k ws)
  where
    by : (b : Bool) → is_own_at p k w ≡ b → others p (filter (λ w. not (is_own_at p k w)) ws) ≡ others p ws → others p (cond (not b) (w ∷ filter (λ w. not (is_own_at p k w)) ws) (filter (λ w. not (is_own_at p k w)) ws)) ≡ others p (w ∷ ws)
    by true e h = rw (and_parts (is_of p w) (is_at k w) e).0 h
    by false e h = ap (λ ys. cond (not (is_of p w)) (w ∷ ys) ys) h

-- a pair's put leaves the others' writes
others-with_live : (p : Pair) (k : ℕ) (v : Option ℕ) (ws : List LiveWrite) → others p (with_live p k v ws) ≡ others p ws
others-with_live p k v ws = others-insert_by p (write_of p k v) (is_of-write_of p k v) _ ∙ others-filter p k ws

-- where a pair has no live write, all are others'
all_others : (p : Pair) (ws : List LiveWrite) → has_live p ws ≡ false → others p ws ≡ ws
all_others p [] e = refl
all_others p (w ∷ ws) e =
    let h = or_parts (is_of p w) (has_live p ws) e in
    ap (λ b. cond (not b) (w ∷ others p ws) (others p ws)) h.0 ∙ ap (λ x. w ∷ x) (all_others p ws h.1)

-- the base and the others' writes stay
record Same (p : Pair) (m n : MapState) : Type 0 where
  base : n.base ≡ m.base
  others : others p n.live ≡ others p m.live

-- over one put of the pair, refused or not
one_put : (o : Option MapRefusal) (m : MapState) (p : Pair) (k : ℕ) (v : Option ℕ) → Same p m (unless_refused o m (after_put p k v m))
one_put (Some r) m p k v = record { base = refl; others = refl }
one_put None m p k v = record { base = refl; others = others-with_live p k v m.live }

-- and over many
puts_same : (m : MapState) (p : Pair) (ws : List (ℕ × Option ℕ)) → Same p m (after_calls m (puts_of p ws))
puts_same m p [] = record { base = refl; others = refl }
puts_same m p (w ∷ ws) =
    let h = one_put _ m p w.0 w.1 in
    let r = puts_same (after_call m (Puts p w.0 w.1)) p ws in
    record { base = r.base ∙ h.base; others = r.others ∙ h.others }

pub undone : IsUndone
undone m p ws e =
    let h = puts_same m p ws in
    ap (λ b. record { base = b; live = others p (after_calls m (puts_of p ws)).live }) h.base ∙ ap (λ l. record { base = m.base; live = l }) (h.others ∙ all_others p m.live e)
