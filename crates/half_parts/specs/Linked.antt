-- What holds of the tables of the local side, and of its connections: so that there is room for each enlistment, each place at the coordinator and each connection.
use Rattle.std.specs.Prelude.{ℕ, ◌+◌, ◌≡◌, ◌≤◌, ◌||◌, Bool, true, false, List, length, Option, Some, None, is_some}
use Rattle.dtx_values.specs.declared.limits.TheConstants.{DURABLES, ENLISTMENTS}
use Rattle.dtx_values.specs.declared.end.End.{End}
use Rattle.dtx_values.specs.declared.message.Conn.{Conn}
use Rattle.dtx_values.specs.declared.message.Conn.TheVariants.{Begin, Voter, Enl, Again}
use Rattle.dtx_values.specs.declared.number.EnlNo.{EnlNo}
use Rattle.dtx_values.specs.declared.number.RmNo.{RmNo}
use Rattle.dtx_values.specs.declared.row.Row.{Row}
use Rattle.dtx_values.specs.Ends.{is_end_of}
use Rattle.dtx_values.specs.Row.{is_lasting}
use Rattle.dtx_values.specs.Table.{how_many}
use Rattle.dtx_model.specs.declared.branch.Branch.{Branch}
use Rattle.dtx_model.specs.declared.listener.Listener.{Listener}
use Rattle.dtx_model.specs.Words.{each, has}
use Rattle.dtx_model.specs.Observed.{is_branch}
use Rattle.dtx_model.specs.Waiting.{Waiter, is_place, is_place_of}
use Rattle.dtx_model.specs.Acts.{lasts}

-- the listener is lost
abbrev pub is_lost : Listener → Bool
is_lost l = l.lost

-- the enlistment whose manager is kept stands, and is durable or promotable
abbrev pub is_managed : List Row → Option (EnlNo × RmNo) → Bool
is_managed xs (Some m) = lasts xs m.0.value
is_managed xs None = true

-- The enlistments that were made and the places that calls wait for are at most 32, and 16 of them last. At most one lasts before it is promoted. None is there,
-- and no call waits, before the begin.
pub record AreRows (limit : Option ℕ) (promoted : Bool) (xs : List Row) (manager : Option (EnlNo × RmNo)) (ws : List Waiter) : Type 0 where
  pub few : length xs + how_many is_place ws ≤ ENLISTMENTS
  pub few_last : how_many is_lasting xs + how_many is_place ws ≤ DURABLES
  pub alone : promoted ≡ false → how_many is_lasting xs ≤ 1
  pub managed : is_managed xs manager ≡ true
  pub begun : is_some limit ≡ false → length xs + length ws ≡ 0

-- the enlistment lasts, or a call waits for its place
abbrev pub is_held : List Row → List Waiter → ℕ → Bool
is_held xs ws e = lasts xs e || has (is_place_of e) ws

-- the connection is b or v, or that of an enlistment at the coordinator
abbrev pub is_of_branch : List Branch → Conn → Bool
is_of_branch bs Begin = true
is_of_branch bs Voter = true
is_of_branch bs (Enl e) = has (is_branch e.value) bs
is_of_branch bs (Again e) = has (is_branch e.value) bs

-- No enlistment is twice at the coordinator, at most 16 are there, and until something is decided each of them lasts or a call waits for it. Each connection is
-- known once, and is b or v or that of an enlistment at the coordinator.
pub record AreLinked (decided : Bool) (xs : List Row) (ws : List Waiter) (bs : List Branch) (ns : List End) : Type 0 where
  pub once : (e : ℕ) → how_many (is_branch e) bs ≤ 1
  pub few : length bs ≤ DURABLES
  pub held : decided ≡ false → each (λ b. is_held xs ws b.enlistment.value) bs ≡ true
  pub known_once : (c : Conn) → how_many (is_end_of c) ns ≤ 1
  pub of_branches : each (λ n. is_of_branch bs n.connection) ns ≡ true
