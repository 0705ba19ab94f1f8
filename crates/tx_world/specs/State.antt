-- The world of one transaction, as its users see it, and what a call and a stop make of it.
use Rattle.std.specs.Prelude.{ℕ, ◌==◌, ◌&&◌, not, nat_le, Bool, true, false, Option, if◌then◌else◌}
use Rattle.dtx_values.specs.declared.call.Call.{Call}
use Rattle.dtx_values.specs.declared.call.Call.TheVariants.{Lose, Gone, Reenlist, Recovered}
use Rattle.dtx_values.specs.declared.tx_id.TxId.{TxId}
use Rattle.dtx_model.specs.Words.{has}
use Rattle.dtx_model.specs.Log.{CommitRecord}
use Rattle.dtx_model.specs.World.{World, core}
use Rattle.dtx_model.specs.Steps.{Step, Stops, after, block_at}
use Rattle.dtx_model.specs.Caused.{is_begin_sent, made_by}
pub use Rattle.world_parts.specs.Names.{is_maker, is_name}

-- The transaction; the calls that it was given, and its history; the record of the commit that its coordinator appended, or tried to append when the log was
-- stopped, as long as it wasn't freed and no restart found none; whether the log was stopped under an append or a free of it, and wasn't opened again since;
-- and the life of the log that its coordinator lives in.
pub record TxState : Type 0 where
  pub transaction : TxId
  pub world : World
  pub ours : Option CommitRecord
  pub unsure : Bool
  pub life : ℕ

-- BEGIN was sent in a step
abbrev pub sends_begin : ℕ → World → Step → Bool
sends_begin t w m = has is_begin_sent (block_at t w m)

-- the world after a step of transaction t, where this says whether the log is up: where BEGIN is sent while the log is stopped, the coordinator stops at once
abbrev pub turned : Bool → ℕ → World → Step → World
turned is_up t w m = if sends_begin t w m && not is_up then after t (after t w m) Stops else after t w m

-- the life of the coordinator after a step: it begins to live where BEGIN is sent
abbrev pub life_after : ℕ → ℕ → World → Step → ℕ → ℕ
life_after log_life t w m life = if sends_begin t w m then log_life else life

-- the call of this line may be entered: no call of the line was, and none that makes the same enlistment or the same clone
abbrev pub may_enter : World → ℕ → Call → Bool
may_enter w n c = not (has (λ k. k.line == n) w.calls) && not (has (λ k. is_maker (made_by c) k.call) w.calls)

-- a stop of this life of the log hits it: BEGIN was sent, the coordinator isn't stopped, and it lives in that life or an earlier one
abbrev pub is_hit_by : ℕ → TxState → Bool
is_hit_by life x = has is_begin_sent x.world.past && not (core x.world).stopped && nat_le x.life life

-- an opening of the log in this life says to it what was found: BEGIN was sent, and it lives in an earlier life
abbrev pub is_reached_by : ℕ → TxState → Bool
is_reached_by life x = has is_begin_sent x.world.past && not (nat_le life x.life)

-- the call asks connections: a loss, or one of a manager
abbrev pub is_linking : Call → Bool
is_linking (Lose t c u w) = true
is_linking (Gone e) = true
is_linking (Reenlist e) = true
is_linking (Recovered t r) = true
is_linking _ = false
