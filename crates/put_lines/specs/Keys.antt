-- Who has which key, after puts.
use Rattle.std.specs.Prelude.{ℕ, ◌≡◌, ◌-◌, ◌==◌, nat_le, Bool, false, ◌&&◌, not, List, length, Option, Some, None, slice_index_or, if◌then◌else◌}
use Rattle.std.specs.BTreeMap.{get}
use Rattle.std.specs.Ordering.{nat_cmp}
use Rattle.dtx_values.specs.declared.number.TheConstants.EnlNo.{MAX as ENLISTMENTS}
use Rattle.dtx_values.specs.declared.number.EnlNo.{EnlNo}
use Rattle.dtx_values.specs.declared.script.BadCause.{BadCause}
use Rattle.dtx_values.specs.declared.script.BadCause.TheVariants.{KeyTaken, TooManyPuts}
use Rattle.dtx_model.specs.Words.{has}
use Rattle.heard_notes.specs.Puts.{is_key_of, is_key_of_another, keys_of}
use Rattle.heard_notes.specs.declared.put.Put.{Put}
use Rattle.put_lines.specs.declared.keys.Keys.{Keys}

-- the first fault of a put by the keys that were put before it
abbrev pub key_fault : ℕ → List Put → Put → Option BadCause
key_fault most before p =
    if not (has (is_key_of p.enlistment.value p.key) before) && nat_le most (length (keys_of p.enlistment.value before)) then Some TooManyPuts else
    if has (is_key_of_another p.enlistment.value p.key) before then Some KeyTaken else None

-- the enlistment is that one; it is another
abbrev pub is_it : ℕ → Option EnlNo → Bool
is_it e (Some f) = e == f.value
is_it e None = false

abbrev pub is_another : ℕ → Option EnlNo → Bool
is_another e (Some f) = not (e == f.value)
is_another e None = false

-- each key has one enlistment, and the tables say which, and how many keys each has
pub record AreKeys (before : List Put) (ks : Keys) : Type 0 where
  pub long : length ks.counts.items ≡ ENLISTMENTS
  pub own : (e k : ℕ) → has (is_key_of e k) before ≡ is_it e (get nat_cmp ks.owners k)
  pub others : (e k : ℕ) → has (is_key_of_another e k) before ≡ is_another e (get nat_cmp ks.owners k)
  pub counted : (e : EnlNo) → slice_index_or ks.counts.items (e.value - 1) 0 ≡ length (keys_of e.value before)
