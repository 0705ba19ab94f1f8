-- A coordinator stands stopped only where BEGIN was sent, and BEGIN is sent once. So where it is sent, the coordinator isn't stopped. And what the block of a step sends may be
-- sent.
use Rattle.std.proofs.Common.{◌≡◌, ◌≤◌, ℕ, suc, ◌+◌, Bool, true, false, List, [], ◌∷◌, refl, ◌∙◌, ◌⊎◌, inl, inr, arith, if◌then◌else◌}
use Rattle.std.proofs.lemmas.Bool.{cases_Bool}
use Rattle.dtx_values.proofs.Ids.{number_high, number_low}
use Rattle.dtx_values.specs.declared.entry.Entry.{Entry}
use Rattle.dtx_values.specs.TxIds.{number_of}
use Rattle.dtx_values.specs.declared.tx_id.TxId.{TxId}
use Rattle.dtx_values.specs.declared.entry.Entry.TheVariants.{Sent}
use Rattle.dtx_values.specs.declared.message.Conn.TheVariants.{Begin, Voter, Enl, Again}
use Rattle.dtx_values.specs.declared.message.Dir.TheVariants.{Up, Down}
use Rattle.dtx_values.specs.declared.message.Message.TheVariants.{BeginBegin}
use Rattle.dtx_values.specs.Table.{how_many}
use Rattle.dtx_model.specs.Words.{has, onto}
use Rattle.dtx_model.specs.Wires.{opens}
use Rattle.dtx_model.specs.World.{World, core}
use Rattle.dtx_model.specs.Steps.{Step, after, block_at, entered}
use Rattle.dtx_model.specs.Coordinated.{is_recorded}
use Rattle.dtx_model.specs.Caused.{AreMadeOnce, IsIn, IsOwnRun, MayCome, is_begin_sent}
use Rattle.history_table.proofs.BeginSent.{recorded_begun as begun_if_recorded, stopped_begun as begun_if_stopped}
use Rattle.history_table.proofs.Scans.{has_more}
use Rattle.world_laws.specs.Carried.{are_sendable}
use Rattle.tx_world.proofs.Onward.{ran_on}
use Rattle.world_laws.proofs.Sendable.{id_valid, ran_ends}
use Rattle.world_laws.proofs.SendingEnds.{Ends}
use Rattle.world_laws.proofs.SendingOpened.{some_many}

-- a coordinator stands stopped only where BEGIN was sent
pub stopped_begun : (t : ℕ) (w : World) → IsOwnRun t w → (core w).stopped ≡ true → has is_begin_sent w.past ≡ true
stopped_begun t w r s = begun_if_stopped (IsIn w.calls) t w r s

-- and has a record only there
pub recorded_begun : (t : ℕ) (w : World) → IsOwnRun t w → is_recorded (core w).stage ≡ true → has is_begin_sent w.past ≡ true
recorded_begun t w r s = begun_if_recorded (IsIn w.calls) t w r s

-- BEGIN opens b, and b is opened once
begin_opens : (x : Entry) → is_begin_sent x ≡ true → opens Begin x ≡ true
begin_opens (Sent Begin Up BeginBegin) s = refl
begin_opens (Sent Begin Up _) s = absurd (cc)
begin_opens (Sent Begin Down m) s = absurd (cc)
begin_opens (Sent Voter d m) s = absurd (cc)
begin_opens (Sent (Enl e) d m) s = absurd (cc)
begin_opens (Sent (Again e) d m) s = absurd (cc)
begin_opens _ s = absurd (cc)

many_onto : (p : Entry → Bool) (h es : List Entry) → how_many p (onto h es) ≡ how_many p es + how_many p h
many_onto p h [] = omega arith
many_onto p h (x ∷ es) = many_onto p (x ∷ h) es ∙ by (p x)
  where
    by : (b : Bool) → how_many p es + (if b then suc (how_many p h) else how_many p h) ≡ (if b then suc (how_many p es) else how_many p es) + how_many p h
    by true = omega arith
    by false = refl

-- what the block of a step that may come needs, to be written: what it sends may be sent; and the coordinator isn't stopped where it sends BEGIN
pub record MayWrite (t : ℕ) (w : World) (m : Step) : Type 0 where
  pub sendable : are_sendable (onto w.past (block_at t w m)) ≡ true
  pub runs : has is_begin_sent (block_at t w m) ≡ true → (core w).stopped ≡ false

pub may_write : (t : TxId) (w : World) (m : Step) → IsOwnRun (number_of t) w → MayCome (IsIn (entered m w.calls)) (number_of t) w m → AreMadeOnce (IsIn (entered m w.calls)) → MayWrite (number_of t) w m
unfolding after
may_write t w m r q once =
    let v = after (number_of t) w m in
    let on = ran_on (number_of t) w m r q in
    let ends : Ends v.past = ran_ends (IsIn v.calls) (number_of t) on.0 v (id_valid (number_of t) (number_low t) (number_high t)) once on.1 in
    record { sendable = ends.sendable; runs = λ b. by (cases_Bool (core w).stopped) b ends.opened.on_begin.single }
  where
    by : ((core w).stopped ≡ true) ⊎ ((core w).stopped ≡ false) → has is_begin_sent (block_at (number_of t) w m) ≡ true → how_many (opens Begin) (onto w.past (block_at (number_of t) w m)) ≤ 1 → (core w).stopped ≡ false
    by (inr runs) b single = runs
    by (inl stopped) b single =
        let es = block_at (number_of t) w m in
        let before = some_many (opens Begin) w.past (has_more is_begin_sent (opens Begin) begin_opens w.past (stopped_begun (number_of t) w r stopped)) in
        let now = some_many (opens Begin) es (has_more is_begin_sent (opens Begin) begin_opens es b) in
        let sum = many_onto (opens Begin) w.past es in
        absurd (omega (arith, before, now, sum, single))
