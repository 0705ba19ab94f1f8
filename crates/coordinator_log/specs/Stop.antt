-- The armed stop of a log, and the device calls that it counts.
use Rattle.std.specs.Prelude.{◌≡◌, ◌≤◌, ◌+◌, ◌-◌, ℕ, nat_lt, nat_le, Bool, true, false, List, Option, Some, None, Result, OnErr, OnOk, if◌then◌else◌}
use Rattle.dtx_values.specs.declared.Image.{Image}
use Rattle.dtx_values.specs.declared.Image.TheVariants.{Lose, Keep, Torn}
use Rattle.outside.specs.Disk.{overwritten}
use Rattle.outside.specs.Faults.{Rose}
use Rattle.coordinator_log.specs.declared.device.Broken.{Broken}
use Rattle.coordinator_log.specs.declared.stop.ArmedStop.{ArmedStop}

-- the image of the stop that is reached in the next n calls, where one is
abbrev pub stop_in : ℕ → Option ArmedStop → Option Image
stop_in n None = None
stop_in n (Some s) = if nat_lt s.passes n then Some s.image else None

-- what is armed after n calls: a stop that was reached in them is armed no more
abbrev pub after_calls : ℕ → Option ArmedStop → Option ArmedStop
after_calls n None = None
after_calls n (Some s) = if nat_lt s.passes n then None else Some (record { passes = s.passes - n; image = s.image })

-- a write or a sync that counts, whatever it answers: the device is as long as before; no fault comes where it is done; and where it isn't, the stop was reached or a fault came
pub record Counts {D : Type 0} (bytes faults : D → ℕ) (old new : D) (armed left : Option ArmedStop) (result : Result (Unit {0}) Broken) : Type 0 where
  pub size : bytes new ≡ bytes old
  pub smooth : OnOk result (faults new ≡ faults old)
  pub grows : faults old ≤ faults new
  pub passed : OnOk result (stop_in 1 armed ≡ None)
  pub counted : left ≡ after_calls 1 armed
  pub cause : OnErr result (stop_in 1 armed ≡ None → Rose (faults old) (faults new))

-- the work of n calls was broken off at one of them, which the stop counted too: by the stop, or by a fault, where the stop wasn't reached
pub record BreaksOff (n : ℕ) (old new : Option ArmedStop) (fault : Type 0) : Type 0 where
  pub call : ℕ
  pub first : 1 ≤ call
  pub last : call ≤ n
  pub before : stop_in (call - 1) old ≡ None
  pub counted : new ≡ after_calls call old
  pub cause : stop_in call old ≡ None → fault

-- how many calls are done before the crash of a stop that passes n: with Lose the write at which it stops isn't done
abbrev pub done_before : Image → ℕ → ℕ
done_before Lose n = n
done_before Keep n = n + 1
done_before Torn n = n + 1

-- whether the n-th call, a write, is done before the crash of a stop
abbrev pub is_done : ℕ → ArmedStop → Bool
is_done n s = nat_le n (done_before s.image s.passes)

-- what a read gives before the crash of a stop at a write: with Lose the write isn't done
abbrev pub at_write : Image → List ℕ → ℕ → List ℕ → List ℕ
at_write Lose old at bytes = old
at_write Keep old at bytes = overwritten old at bytes
at_write Torn old at bytes = overwritten old at bytes

-- whether the record of an append is found after a stop that so many of its calls passed: with Keep at its third and fourth call
abbrev pub is_found_after_append : Image → ℕ → Bool
is_found_after_append Lose passes = false
is_found_after_append Keep passes = nat_le 2 passes
is_found_after_append Torn passes = false

-- whether the record of a free is found after a stop at either of its calls: with Lose alone
abbrev pub is_found_after_free : Image → Bool
is_found_after_free Lose = true
is_found_after_free Keep = false
is_found_after_free Torn = false
