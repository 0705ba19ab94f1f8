-- Lines `put`: how many keys an enlistment has, and why one is bad.
use Rattle.std.specs.Prelude.{ℕ, ◌==◌, nat_le, Bool, ◌&&◌, not, List, [], ◌∷◌, length, Option, Some, None, if◌then◌else◌}
use Rattle.dtx_values.specs.declared.script.BadCause.{BadCause}
use Rattle.dtx_values.specs.declared.script.BadCause.TheVariants.{KeyTaken, NameUnknown, TooManyPuts, WrongKind}
use Rattle.dtx_model.specs.Words.{has}
use Rattle.heard_notes.specs.declared.put.Put.{Put}

-- a number, once
abbrev pub with_number : ℕ → List ℕ → List ℕ
with_number e es = if has (λ f. e == f) es then es else e ∷ es

-- the enlistments that have puts, each once
abbrev pub putters : List Put → List ℕ
putters [] = []
putters (p ∷ ps) = with_number p.enlistment.value (putters ps)

-- the put is of this enlistment and of this key
abbrev pub is_key_of : ℕ → ℕ → Put → Bool
is_key_of e k p = (e == p.enlistment.value) && (k == p.key)

-- it is of this key and of another enlistment
abbrev pub is_key_of_another : ℕ → ℕ → Put → Bool
is_key_of_another e k p = not (e == p.enlistment.value) && (k == p.key)

-- the different keys of an enlistment
abbrev pub keys_of : ℕ → List Put → List ℕ
keys_of e [] = []
keys_of e (p ∷ ps) = if e == p.enlistment.value then with_number p.key (keys_of e ps) else keys_of e ps

-- what the script says of a put: it makes the transaction and the enlistment; and that enlistment is one of that transaction that has the object
pub record Named : Type 0 where
  pub made : Bool
  pub right : Bool

-- the first cause for which a put is bad, after these before it, the newest first
abbrev pub put_fault : ℕ → Named → List Put → Put → Option BadCause
put_fault most n before p =
    if not n.made then Some NameUnknown else if not n.right then Some WrongKind else
    if not (has (is_key_of p.enlistment.value p.key) before) && nat_le most (length (keys_of p.enlistment.value before)) then Some TooManyPuts else
    if has (is_key_of_another p.enlistment.value p.key) before then Some KeyTaken else None
