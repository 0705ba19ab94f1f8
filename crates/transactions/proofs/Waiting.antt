-- Going through the pending steps, from the first.
use Rattle.std.proofs.Common.{◌≡◌, ◌≤◌, ◌<◌, ◌+◌, ◌⊎◌, ℕ, zero, suc, true, false, Bool, List, Some, None, Result, Ok, length, ap, sym, subst, ◌∙◌, inl, inr, arith}
use Rattle.std.specs.Prelude.{is_some}
use Rattle.std.proofs.lemmas.Option.{slice_get_cases, slice_get_within}
use Rattle.std.proofs.lemmas.Bool.Decides.{eqb_tells}
use Rattle.dtx_model.specs.Words.{kth}
use Rattle.dtx_model.specs.World.{World}
use Rattle.dtx_model.specs.Steps.{StepName, pending}
use Rattle.tx_world.specs.Stepping.{reply_in}
use Rattle.transactions.specs.State.{LiveState}
use Rattle.transactions.specs.Waiting.{AllAsked}

-- the steps before this place are replies of enlistments that were asked
abbrev pub AskedBefore : World → ℕ → Type 0
AskedBefore w k = (j : ℕ) → (s : StepName) → j < k → kth (pending w) j ≡ Some s → is_some (reply_in w (Some s)) ≡ true

-- what stands at a place from 1 stands within the list
pub kth_within : {A : Type 0} (xs : List A) (k : ℕ) (x : A) → kth xs k ≡ Some x → k ≤ length xs
kth_within xs zero x e = absurd cc
kth_within xs (suc k) x e = let within = slice_get_within xs k x e in omega arith

pub asked_none : (w : World) → AskedBefore w 1
asked_none w zero s b e = absurd cc
asked_none w (suc j) s b e = absurd (omega (arith, b))

pub asked_more : (w : World) (k : ℕ) → AskedBefore w k → is_some (reply_in w (kth (pending w) k)) ≡ true → AskedBefore w (k + 1)
asked_more w k before here j s b e = elim (case_of j k (omega arith)) [ inl less ↦ before j s less e | inr same ↦ subst (λ o. is_some (reply_in w o) ≡ true) (ap (kth (pending w)) (sym same) ∙ e) here ]
  where
    case_of : (j k : ℕ) → j ≤ k → (j < k) ⊎ (j ≡ k)
    case_of j k m = elim (eqb_tells j k) [ inl same ↦ inr same.1 | inr apart ↦ inl (let n = apart.1 in omega (arith, n)) ]

pub asked_all : (w : World) (k : ℕ) → length (pending w) < k → AskedBefore w k → AllAsked w
asked_all w k all before j s e = before j s (let within = kth_within (pending w) j s e in omega arith) e

-- the place is one of the pending steps
abbrev pub Within : LiveState → ℕ → Type 0
Within x k = (1 ≤ k) × (k ≤ length (pending x.tx.world))

-- a place from 1 within the list has an item
pub kth_stands : {A : Type 0} (xs : List A) (k : ℕ) → 1 ≤ k → k ≤ length xs → kth xs k ≡ None → ⊥
kth_stands xs zero least most e = absurd (omega (arith, least))
kth_stands xs (suc k) least most e =
    elim (slice_get_cases xs k).1 [
      | inl there ↦ some_none (sym there.2 ∙ e)
      | inr past ↦ (let p = past.0 in absurd (omega (arith, p, most)))
    ]
  where
    some_none : {A : Type 0} {x : A} → Some x ≡ None → ⊥
    some_none q = cc

-- what an answer of a step is
pub ok_is : {F : Type 0} (a b : Bool) → ◌≡◌ {A = Result Bool F} (Ok a) (Ok b) → a ≡ b
ok_is a b e = cc

-- so a step at such a place is never refused
pub never_false : {A E F C : Type 0} (b : Bool) (z : Result Bool E) → z ≡ Ok b → (xs : List A) (k : ℕ) → (z ≡ Ok false → kth xs k ≡ None) → (1 ≤ k) × (k ≤ length xs) → ◌≡◌ {A = Result Bool F} (Ok b) (Ok false) → C
never_false b z is xs k none within answer = absurd (kth_stands xs k within.0 within.1 (none (is ∙ ap (λ (a : Bool). Ok a) (ok_is b false answer))))
