-- What is seen of a source, of a sink and of a disk in memory.
use Rattle.std.specs.Prelude.{ℕ, Bool, true, false, List, Contains}
use Rattle.outside.specs.Faults.{one_more}
use Rattle.outside.specs.Images.{Images}

-- the numbers of the calls that fail, how many calls came, and how many of them failed
pub record Calls : Type 0 where
  pub fail : List ℕ
  pub came : ℕ
  pub failed : ℕ

-- the next call is one of those that fail
abbrev pub FailsNext : Calls → Type 0
FailsNext c = Contains c.fail (one_more c.came)

-- after one more call, which failed or did not
abbrev pub counted : Bool → Calls → Calls
counted true c = record { fail = c.fail; came = one_more c.came; failed = one_more c.failed }
counted false c = record { fail = c.fail; came = one_more c.came; failed = c.failed }

-- a source: what is left to read, how much a read gives at most, and its calls
pub record Feed : Type 0 where
  pub left : List ℕ
  pub piece : ℕ
  pub calls : Calls

-- a sink: what was written, how much a write takes at most, and its calls
pub record Store : Type 0 where
  pub written : List ℕ
  pub piece : ℕ
  pub calls : Calls

-- a disk whose calls are numbered
pub record Device : Type 0 where
  pub images : Images
  pub calls : Calls
