-- One transaction of a manager, as its users see it.
use Rattle.std.specs.Prelude.{ℕ, false, List, [], None, drop}
use Rattle.dtx_values.specs.declared.entry.Entry.{Entry}
use Rattle.dtx_values.specs.declared.tx_id.TxId.{TxId}
use Rattle.dtx_model.specs.Words.{past_of}
use Rattle.tx_world.specs.State.{TxState}
use Rattle.transactions.specs.declared.usage.Usage.{Usage}
use Rattle.transactions.specs.declared.usage.Usage.TheVariants.{Held}

-- Its number for good, and what its place is used for; its world, with its history; how many calls it was given, each on a line of its own; the greatest numbers that it gave to an enlistment and
-- to a clone; how many entries of its history were heard, the oldest first; and up to which reading of the clock its time went on.
pub record LiveState : Type 0 where
  pub number : TxId
  pub usage : Usage
  pub tx : TxState
  pub lines : ℕ
  pub enlisted : ℕ
  pub cloned : ℕ
  pub heard : ℕ
  pub time : ℕ

-- its history, newest entry first
abbrev pub past : LiveState → List Entry
past x = x.tx.world.past

-- the entries of its history that nobody heard, oldest first
abbrev pub unheard : LiveState → List Entry
unheard x = drop x.heard (past_of (past x))

-- a transaction of this number that has no call yet, at this reading of the clock
abbrev pub blank : TxId → ℕ → LiveState
blank t time = record {
  number = t;
  usage = Held;
  tx = record { transaction = t; world = record { calls = []; past = [] }; ours = None; unsure = false; life = 0 };
  lines = 0;
  enlisted = 0;
  cloned = 0;
  heard = 0;
  time = time;
}
