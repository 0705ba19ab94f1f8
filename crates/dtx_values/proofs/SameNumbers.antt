-- Numbers with one value are one.
use Rattle.std.proofs.Common.{◌≡◌, ◌≤◌}
use mathlib.Core.HLevel.{is_prop→PathP}
use native.Mathlib.Bridge.{le_prop}
use Rattle.dtx_values.specs.declared.number.ActorNo.{ActorNo}
use Rattle.dtx_values.specs.declared.number.TxNo.{TxNo}
use Rattle.dtx_values.specs.declared.number.EnlNo.{EnlNo}
use Rattle.dtx_values.specs.declared.number.CloneNo.{CloneNo}
use Rattle.dtx_values.specs.declared.number.ScopeNo.{ScopeNo}
use Rattle.dtx_values.specs.declared.number.RmNo.{RmNo}

-- the number of an actor
pub same_actor : (a b : ActorNo) → a.value ≡ b.value → a ≡ b
same_actor a b e = λ i. record { value = e i; in_range = is_prop→PathP (λ j. (1 ≤ e j) × (e j ≤ 16)) (λ j. hlevel le_prop) a.in_range b.in_range i }

-- the number of a transaction
pub same_transaction : (a b : TxNo) → a.value ≡ b.value → a ≡ b
same_transaction a b e = λ i. record { value = e i; in_range = is_prop→PathP (λ j. (1 ≤ e j) × (e j ≤ 256)) (λ j. hlevel le_prop) a.in_range b.in_range i }

-- the number of an enlistment
pub same_enlistment : (a b : EnlNo) → a.value ≡ b.value → a ≡ b
same_enlistment a b e = λ i. record { value = e i; in_range = is_prop→PathP (λ j. (1 ≤ e j) × (e j ≤ 9999)) (λ j. hlevel le_prop) a.in_range b.in_range i }

-- the number of a clone
pub same_clone : (a b : CloneNo) → a.value ≡ b.value → a ≡ b
same_clone a b e = λ i. record { value = e i; in_range = is_prop→PathP (λ j. (1 ≤ e j) × (e j ≤ 9999)) (λ j. hlevel le_prop) a.in_range b.in_range i }

-- the number of a scope
pub same_scope : (a b : ScopeNo) → a.value ≡ b.value → a ≡ b
same_scope a b e = λ i. record { value = e i; in_range = is_prop→PathP (λ j. (1 ≤ e j) × (e j ≤ 9999)) (λ j. hlevel le_prop) a.in_range b.in_range i }

-- the number of a manager
pub same_manager : (a b : RmNo) → a.value ≡ b.value → a ≡ b
same_manager a b e = λ i. record { value = e i; in_range = is_prop→PathP (λ j. (1 ≤ e j) × (e j ≤ 16)) (λ j. hlevel le_prop) a.in_range b.in_range i }
