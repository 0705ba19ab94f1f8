-- Which calls may be entered at a transaction of a run, and what is entered there afterwards.
use Rattle.std.proofs.Common.{◌≡◌, ◌≢◌, ℕ, zero, suc, ◌+◌, ◌<◌, ◌==◌, Bool, true, false, not, List, [], ◌∷◌, Some, refl, ap, sym, subst, ◌∙◌, arith, inl, inr}
use Rattle.std.specs.Prelude.{nat_lt}
use Rattle.std.proofs.lemmas.Bool.{eqb-true, lt-ltb, ltb-true}
use Rattle.std.proofs.lemmas.Bool.Decides.{eqb_tells}
use Rattle.dtx_values.specs.declared.call.Call.{Call}
use Rattle.dtx_values.specs.declared.number.ActorNo.{ActorNo}
use Rattle.dtx_values.specs.declared.number.TxNo.{TxNo}
use Rattle.dtx_values.specs.declared.script.Line.{Line}
use Rattle.dtx_model.specs.Words.{each, has, kth}
use Rattle.dtx_model.specs.declared.waiting.EnteredCall.{EnteredCall}
use Rattle.dtx_model.specs.World.{World}
use Rattle.dtx_model.specs.Steps.{Calls}
use Rattle.dtx_model.specs.Caused.{AreMadeOnce, IsCallOf, IsIn, made_by}
use Rattle.dtx_model.proofs.Bools.{and_both, and_left, and_right, not_false, or_false}
use Rattle.dtx_values.proofs.SameNumbers.{same_transaction}
use Rattle.tx_world.specs.State.{TxState, is_maker, may_enter, turned}
use Rattle.turn_parts.proofs.Turned.{same_made, turned_calls}
use Rattle.replay_runs.specs.RunState.{AreBelow, IsBelow, state_of}

-- a number below another isn't it
below_apart : (m n : ℕ) → nat_lt m n ≡ true → (m == n) ≡ false
below_apart m n k = step (m == n) refl
  where
    step : (b : Bool) → (m == n) ≡ b → b ≡ false
    step true e = let less = ltb-true m n k in let same = eqb-true m n e in absurd (omega (arith, less, same))
    step false e = refl

-- of calls of lines before this one none is of it
no_line : (ks : List EnteredCall) (n : ℕ) → each (λ k. nat_lt k.line n) ks ≡ true → has (λ k. k.line == n) ks ≡ false
no_line [] n b = refl
no_line (k ∷ ks) n b =
    or_false (k.line == n) (has (λ (j : EnteredCall). j.line == n) ks) (below_apart k.line n (and_left (nat_lt k.line n) (each (λ (j : EnteredCall). nat_lt j.line n) ks) b))
    (no_line ks n (and_right (nat_lt k.line n) (each (λ (j : EnteredCall). nat_lt j.line n) ks) b))

-- each of some calls is one that the script gives the transaction
abbrev AreGiven : List Line → ℕ → List EnteredCall → Type 0
AreGiven s t ks = (n : ℕ) (a : ActorNo) (c : Call) → IsIn ks n a c → IsCallOf s t n a c

given_first : (s : List Line) (t : ℕ) (k : EnteredCall) (ks : List EnteredCall) → AreGiven s t (k ∷ ks) → IsCallOf s t k.line k.actor k.call
given_first s t k ks given = given k.line k.actor k.call (record { place = 1; stands = refl })

later : (k : EnteredCall) (ks : List EnteredCall) (n : ℕ) (a : ActorNo) (c : Call) → IsIn ks n a c → IsIn (k ∷ ks) n a c
later k ks n a c i = record { place = suc i.place; stands = by i.place i.stands }
  where
    by : (j : ℕ) → kth ks j ≡ Some (record { line = n; actor = a; call = c }) → kth (k ∷ ks) (suc j) ≡ Some (record { line = n; actor = a; call = c })
    by zero e = absurd cc
    by (suc j) e = e

given_rest : (s : List Line) (t : ℕ) (k : EnteredCall) (ks : List EnteredCall) → AreGiven s t (k ∷ ks) → AreGiven s t ks
given_rest s t k ks given n a c i = given n a c (later k ks n a c i)

-- and none makes what a call of it makes: names are made once
no_maker : (s : List Line) (t n : ℕ) (a : ActorNo) (c : Call) (ks : List EnteredCall) → AreMadeOnce (IsCallOf s t) → IsCallOf s t n a c → AreGiven s t ks → each (λ k. nat_lt k.line n) ks ≡ true
    → has (λ k. is_maker (made_by c) k.call) ks ≡ false
no_maker s t n a c [] once mine given b = refl
no_maker s t n a c (k ∷ ks) once mine given b =
    or_false (is_maker (made_by c) k.call) (has (λ (j : EnteredCall). is_maker (made_by c) j.call) ks) (step (is_maker (made_by c) k.call) refl)
    (no_maker s t n a c ks once mine (given_rest s t k ks given) (and_right (nat_lt k.line n) (each (λ (j : EnteredCall). nat_lt j.line n) ks) b))
  where
    step : (y : Bool) → is_maker (made_by c) k.call ≡ y → y ≡ false
    step true e =
        let made = same_made (made_by c) k.call e in
        let same : n ≡ k.line = once n k.line a k.actor c k.call made.0 mine (given_first s t k ks given) made.1 made.2 in
        let less : k.line < n = ltb-true k.line n (and_left (nat_lt k.line n) (each (λ (j : EnteredCall). nat_lt j.line n) ks) b) in
        absurd (omega (arith, same, less))
    step false e = refl

-- So a call of the script may be entered where only calls of lines before it were.
pub enters : (s : List Line) (t n : ℕ) (a : ActorNo) (c : Call) (w : World) → AreMadeOnce (IsCallOf s t) → IsCallOf s t n a c
    → ((m : ℕ) (b : ActorNo) (d : Call) → IsIn w.calls m b d → IsCallOf s t m b d) → each (λ k. nat_lt k.line n) w.calls ≡ true → may_enter w n c ≡ true
enters s t n a c w once mine given b =
    and_both (not (has (λ (k : EnteredCall). k.line == n) w.calls)) (not (has (λ (k : EnteredCall). is_maker (made_by c) k.call) w.calls))
    (not_false (has (λ (k : EnteredCall). k.line == n) w.calls) (no_line w.calls n b))
    (not_false (has (λ (k : EnteredCall). is_maker (made_by c) k.call) w.calls) (no_maker s t n a c w.calls once mine given b))

-- and each is of a line before the next
below_later : (ks : List EnteredCall) (n : ℕ) → each (λ k. nat_lt k.line n) ks ≡ true → each (λ k. nat_lt k.line (n + 1)) ks ≡ true
below_later [] n b = refl
below_later (k ∷ ks) n b =
    let less : k.line < n = ltb-true k.line n (and_left (nat_lt k.line n) (each (λ (j : EnteredCall). nat_lt j.line n) ks) b) in
    and_both (nat_lt k.line (n + 1)) (each (λ (j : EnteredCall). nat_lt j.line (n + 1)) ks) (lt-ltb k.line (n + 1) (omega (arith, less)))
    (below_later ks n (and_right (nat_lt k.line n) (each (λ (j : EnteredCall). nat_lt j.line n) ks) b))

pub below_more : (n : ℕ) (a : ActorNo) (c : Call) (ks : List EnteredCall) → each (λ k. nat_lt k.line n) ks ≡ true → each (λ k. nat_lt k.line (n + 1)) (record { line = n; actor = a; call = c } ∷ ks) ≡ true
below_more n a c ks b =
    and_both (nat_lt n (n + 1)) (each (λ (k : EnteredCall). nat_lt k.line (n + 1)) ks) (lt-ltb n (n + 1) (omega arith)) (below_later ks n b)

-- after a call of line n each is of a line before the next
pub below_after : (n : ℕ) (a : ActorNo) (c : Call) (m : ℕ) (up : Bool) (t : ℕ) (old new : TxState) → new.world ≡ turned up t old.world (Calls n a c m) → IsBelow n old → IsBelow (n + 1) new
below_after n a c m up t old new e b =
    let calls : new.world.calls ≡ record { line = n; actor = a; call = c } ∷ old.world.calls = ap (λ (w : World). w.calls) e ∙ turned_calls up t old.world (Calls n a c m) in
    subst (λ (ks : List EnteredCall). each (λ k. nat_lt k.line (n + 1)) ks ≡ true) (sym calls) (below_more n a c old.world.calls b)

-- what is below a line is below the next
pub below_next : (n : ℕ) (x : TxState) → IsBelow n x → IsBelow (n + 1) x
below_next n x b = below_later x.world.calls n b

pub all_below_next : (n : ℕ) (ws : List TxState) → AreBelow n ws → AreBelow (n + 1) ws
all_below_next n ws b t = below_next n (state_of t ws) (b t)

-- where one transaction was called, and the others are as they were
pub all_below : (n : ℕ) (t : TxNo) (old new : List TxState) → ((u : TxNo) → u ≢ t → state_of u new ≡ state_of u old) → IsBelow n (state_of t new) → AreBelow n old → AreBelow n new
all_below n t old new others here b u = elim (eqb_tells u.value t.value) [
  | inl k ↦ subst (λ (v : TxNo). IsBelow n (state_of v new)) (sym (same_transaction u t k.1)) here
  | inr k ↦ subst (λ (x : TxState). IsBelow n x) (sym (others u (λ e. k.1 (ap (λ (v : TxNo). v.value) e)))) (b u)
]
