-- Where each actor's calls at each place are those that its lines make there, each call stands as often as its lines make it.
use Rattle.std.proofs.Common.{◌≡◌, ℕ, suc, ◌==◌, Bool, true, false, ◌&&◌, cond, List, [], ◌∷◌, filter, inl, inr, refl, ap, sym, ◌∙◌, arith}
use Rattle.std.specs.Prelude.{if◌then◌else◌}
use Rattle.std.proofs.lemmas.Bool.Decides.{eqb_tells, leb_tells}
use Rattle.dtx_values.specs.declared.number.ActorNo.{ActorNo}
use Rattle.dtx_values.specs.declared.script.Line.{Line}
use Rattle.dtx_values.specs.declared.trace.Place.{Place}
use Rattle.dtx_values.specs.Table.{how_many}
use Rattle.dtx_model.specs.History.{is_call_at, same_place}
use Rattle.dtx_model.specs.Replay.{due_calls}
use Rattle.dtx_model.specs.Traces.{Placed, calls}
use Rattle.dtx_model.specs.Words.{past_of}
use Rattle.call_order.specs.InOrder.{AreInActorOrder, is_by}

-- The calls of a line by an actor at a place are those of the line among the actor's there.
abbrev of_line : ℕ → Place × ℕ × ActorNo → Bool
of_line n c = n == c.1

counted_by : (p : Place) (n a : ℕ) (cs : List (Place × ℕ × ActorNo)) → how_many (is_call_at p n a) cs ≡ how_many (of_line n) (filter (is_by p a) cs)
counted_by p n a [] = refl
counted_by p n a (c ∷ cs) = by (same_place p c.0) (of_line n c) (a == c.2.value) refl (counted_by p n a cs)
  where
    by : (here same mine : Bool) → of_line n c ≡ same → how_many (is_call_at p n a) cs ≡ how_many (of_line n) (filter (is_by p a) cs)
        → (if here && same && mine then suc (how_many (is_call_at p n a) cs) else how_many (is_call_at p n a) cs)
        ≡ how_many (of_line n) (cond (here && mine) (c ∷ filter (is_by p a) cs) (filter (is_by p a) cs))
    by true true true e ih = ap suc ih ∙ sym (ap (λ (b : Bool). if b then suc (how_many (of_line n) (filter (is_by p a) cs)) else how_many (of_line n) (filter (is_by p a) cs)) e)
    by true false true e ih = ih ∙ sym (ap (λ (b : Bool). if b then suc (how_many (of_line n) (filter (is_by p a) cs)) else how_many (of_line n) (filter (is_by p a) cs)) e)
    by true true false e ih = ih
    by true false false e ih = ih
    by false same mine e ih = ih

-- A number that is no actor's makes no call.
nobody_calls : (p : Place) (n a : ℕ) → ((b : ActorNo) → a ≡ b.value → ⊥) → (cs : List (Place × ℕ × ActorNo)) → how_many (is_call_at p n a) cs ≡ 0
nobody_calls p n a none [] = refl
nobody_calls p n a none (c ∷ cs) = elim (eqb_tells a c.2.value) [
  | inl k ↦ absurd (none c.2 k.1)
  | inr k ↦ by (same_place p c.0 && (n == c.1)) (a == c.2.value) k.0 (nobody_calls p n a none cs)
]
  where
    by : (b mine : Bool) → mine ≡ false → how_many (is_call_at p n a) cs ≡ 0 → (if b && mine then suc (how_many (is_call_at p n a) cs) else how_many (is_call_at p n a) cs) ≡ 0
    by b true e ih = absurd cc
    by true false e ih = ih
    by false false e ih = ih

-- So in this order each call stands as often as in a replay.
pub each_called : (s : List Line) (T : List Placed) → AreInActorOrder s T → (p : Place) (n a : ℕ) → how_many (is_call_at p n a) (calls (past_of T)) ≡ how_many (is_call_at p n a) (due_calls s (past_of s))
each_called s T order p n a = elim (leb_tells 1 a) [
  | inl low ↦ elim (leb_tells a 16) [
    | inl high ↦
        let mine : ActorNo = record { value = a; in_range = (low.1, high.1) } in
        counted_by p n a (calls (past_of T)) ∙ ap (λ cs. how_many (of_line n) cs) (order p mine) ∙ sym (counted_by p n a (due_calls s (past_of s)))
    | inr high ↦ neither (λ b e. let most = b.in_range.1 in let more = high.1 in absurd (omega (arith, most, more, e)))
  ]
  | inr low ↦ neither (λ b e. let least = b.in_range.0 in let less = low.1 in absurd (omega (arith, least, less, e)))
]
  where
    neither : ((b : ActorNo) → a ≡ b.value → ⊥) → how_many (is_call_at p n a) (calls (past_of T)) ≡ how_many (is_call_at p n a) (due_calls s (past_of s))
    neither none = nobody_calls p n a none (calls (past_of T)) ∙ sym (nobody_calls p n a none (due_calls s (past_of s)))
