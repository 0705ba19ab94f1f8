-- What a call gives, and when a call that waits is on its way.
use Rattle.std.proofs.Common.{Bool, true, false, ◌≡◌, refl, ℕ, Option, Some, None, ◌||◌, List, ◌∷◌}
use Rattle.std.specs.Prelude.{if◌then◌else◌, not, find, length, nat_le}
use Rattle.dtx_values.specs.declared.call.Call.{Call}
use Rattle.dtx_values.specs.declared.call.Call.TheVariants.{Durable, Volatile, Promotable, Begin, Clone, Complete, Commit, Rollback, Marshal, Status, Await, Tick, Do, Lose, Gone, Reenlist, Recovered}
use Rattle.dtx_values.specs.declared.entry.Answer.{Answer}
use Rattle.dtx_values.specs.declared.entry.Answer.TheVariants.{Id, TooLate, Wait, Many}
use Rattle.dtx_values.specs.declared.entry.Entry.{Entry}
use Rattle.dtx_values.specs.declared.message.Conn.TheVariants.{Enl}
use Rattle.dtx_values.specs.declared.message.Dir.TheVariants.{Up}
use Rattle.dtx_values.specs.declared.number.ActorNo.{ActorNo}
use Rattle.dtx_values.specs.declared.number.EnlNo.{EnlNo}
use Rattle.dtx_values.specs.declared.number.RmNo.{RmNo}
use Rattle.dtx_values.specs.declared.number.TxNo.{TxNo}
use Rattle.dtx_values.specs.declared.script.EnlistOption.{EnlistOption}
use Rattle.dtx_values.specs.declared.words.Vote.{Vote}
use Rattle.dtx_values.specs.declared.words.Outcome.{Outcome}
use Rattle.dtx_values.specs.Clones.{is_clone, is_complete_clone}
use Rattle.dtx_values.specs.Ends.{is_in}
use Rattle.dtx_values.specs.declared.limits.TheConstants.{CLONES, CALLS}
use Rattle.dtx_values.specs.Owners.{may_own}
use Rattle.dtx_model.specs.declared.branch.Branch.{Branch}
use Rattle.dtx_model.specs.declared.waiting.EnteredCall.{EnteredCall}
use Rattle.dtx_model.specs.declared.waiting.Wanted.TheVariants.{Identifier, Place}
use Rattle.dtx_model.specs.Words.{has}
use Rattle.dtx_model.specs.Entries.{is_promoted, is_sealed}
use Rattle.dtx_model.specs.Observed.{observe, Observed, is_branch}
use Rattle.dtx_model.specs.Promotes.{identifier_of}
use Rattle.dtx_model.specs.Wires.{is_open_wire}
use Rattle.dtx_model.specs.Waiting.{call_at, Waiter}
use Rattle.dtx_model.specs.Half.{is_gone, stands}
use Rattle.dtx_model.specs.Answers.{if_begun, unless_ended, unless_late, status_answer, await_answer, unless_over, volatile_answer, is_full, has_promotion, promotable_answer, local_answer, is_crowded}
use Rattle.dtx_model.specs.Facts.{is_waiting_answer}
use Rattle.dtx_model.specs.World.{World, half, core, unless_stopped, is_connected, is_finished_there, reenlist_by, unless_connected, answer_at, branches_by, is_unfinished_link}
use Rattle.dtx_model.proofs.Bools.{or_right}
use Rattle.dtx_model.proofs.Writes.{may_begin}
use Rattle.history_table.proofs.Tests.{eq_self}
use Rattle.history_table.proofs.Messages.{ENLIST}
use Rattle.history_table.proofs.Crossed.{is_sent_on}
use Rattle.history_table.proofs.EntryTests.{is_enlisted}

abbrev pub is_durable_call : Call → Bool
is_durable_call (Durable u e r s) = true
is_durable_call _ = false

pub seen_promoted : (w : World) → (half w).seen.promoted ≡ has is_promoted w.past
unfolding observe
seen_promoted w = refl

pub record Gives (x : Answer) : Type 0 where
  pub proof : is_waiting_answer x ≡ false

pub sure : {x : Answer} → is_waiting_answer x ≡ false → Gives x
sure e = record { proof = e }

gives_if : (b : Bool) {x y : Answer} → Gives x → Gives y → Gives (if b then x else y)
gives_if true p q = p
gives_if false p q = q

pub gives_begun : (o : Option ℕ) {x : Answer} → Gives x → Gives (if_begun o x)
gives_begun (Some d) p = p
gives_begun None p = sure refl

gives_ended : (o : Option Outcome) {x : Answer} → Gives x → Gives (unless_ended o x)
gives_ended (Some x) p = sure refl
gives_ended None p = p

gives_late : (b : Bool) → Gives (unless_late b)
gives_late b = gives_if b (sure refl) (sure refl)

gives_status : (o : Option Outcome) → Gives (status_answer o)
gives_status (Some x) = sure refl
gives_status None = sure refl

gives_await : (o : Option Outcome) → Gives (await_answer o)
gives_await (Some x) = sure refl
gives_await None = sure refl

gives_stopped : (w : World) → Gives (unless_stopped w)
gives_stopped w = gives_if (core w).stopped (sure refl) (sure refl)

gives_branch : (w : World) (o : Option Branch) → Gives (reenlist_by w o)
gives_branch w (Some b) =
    gives_if (not b.enlisted) (sure refl)
    (gives_if (is_finished_there (half w).seen b.enlistment.value) (sure refl)
    (gives_if (is_in b.manager.value (core w).recovered) (sure refl) (gives_if (is_connected b.enlistment w.past) (sure refl) (gives_stopped w))))
gives_branch w None = sure refl

gives_connected : (o : Option Branch) {x : Answer} → Gives x → Gives (unless_connected o x)
gives_connected (Some b) p = sure refl
gives_connected None p = p

gives_id : (b s : Bool) (n : ℕ) (x : Answer) → (b || s) ≡ true → Gives (if b then Id n else if s then TooLate else x)
gives_id true s n x q = sure refl
gives_id false true n x q = sure refl
gives_id false false n x q = absurd cc

gives_over : (o : Observed) {x : Answer} → Gives x → Gives (unless_over o x)
gives_over o p = gives_begun o.limit (gives_ended o.decided p)

volatile_given : (w : World) → Gives (unless_over (half w).seen (volatile_answer (half w)))
volatile_given w = let h = half w in gives_over h.seen (gives_if h.seen.sealed (sure refl) (gives_if (is_full h) (sure refl) (sure refl)))

promotable_given : (w : World) → Gives (unless_over (half w).seen (promotable_answer (half w)))
promotable_given w =
    let h = half w in
    gives_over h.seen (gives_if h.seen.sealed (sure refl) (gives_if (not (may_own h.seen.table (has_promotion h.seen))) (sure refl) (gives_if (is_full h) (sure refl) (sure refl))))

-- a volatile's call doesn't wait, nor does a promotable's
pub volatile_gives : (t : ℕ) (w : World) (u : TxNo) (e : EnlNo) (x : EnlistOption) (v : Option Vote) (m : ℕ) → is_waiting_answer (answer_at t w (Volatile u e x v) m) ≡ false
unfolding answer_at local_answer
volatile_gives t w u e x v m = (volatile_given w).proof

pub promotable_gives : (t : ℕ) (w : World) (u : TxNo) (e : EnlNo) (r : RmNo) (v : Option Vote) (x : Option Outcome) (p : Option Bool) (m : ℕ)
    → is_waiting_answer (answer_at t w (Promotable u e r v x p) m) ≡ false
unfolding answer_at local_answer
promotable_gives t w u e r v x p m = (promotable_given w).proof

-- no call waits but a durable or marshal call
pub other_given : (t : ℕ) (w : World) (c : Call) (m : ℕ) → may_begin c ≡ false → Gives (answer_at t w c m)
unfolding answer_at local_answer
other_given t w (Begin u d) m n = sure refl
other_given t w (Volatile u e x v) m n = volatile_given w
other_given t w (Durable u e r s) m n = absurd cc
other_given t w (Marshal u) m n = absurd cc
other_given t w (Promotable u e r v x y) m n = promotable_given w
other_given t w (Clone u c k) m n = let o = (half w).seen in gives_over o (gives_if o.commit (sure refl) (gives_if (nat_le CLONES (length o.clones)) (sure refl) (sure refl)))
other_given t w (Complete c) m n =
    let o = (half w).seen in
    gives_over o (gives_if (not (has (is_clone c.value) o.clones)) (sure refl) (gives_if (has (is_complete_clone c.value) o.clones) (sure refl) (sure refl)))
other_given t w (Commit u) m n = gives_over (half w).seen (gives_late (half w).seen.commit)
other_given t w (Rollback u) m n = gives_over (half w).seen (gives_late (half w).seen.sealed)
other_given t w (Status u) m n = gives_begun (half w).seen.limit (gives_status (half w).seen.decided)
other_given t w (Await u) m n = gives_begun (half w).seen.limit (gives_await (half w).seen.told_client)
other_given t w (Tick u k) m n = gives_begun (half w).seen.limit (sure refl)
other_given t w (Do u k j) m n = gives_begun (half w).seen.limit (sure refl)
other_given t w (Lose u c k j) m n = gives_begun (half w).seen.limit (gives_if (is_open_wire c w.past) (sure refl) (sure refl))
other_given t w (Gone e) m n =
    let o = (half w).seen in gives_begun o.limit (gives_if (not (stands o e.value)) (sure refl) (gives_if (is_gone o e.value) (sure refl) (sure refl)))
other_given t w (Reenlist e) m n = gives_begun (half w).seen.limit (gives_branch w (find (is_branch e.value) (half w).seen.branches))
other_given t w (Recovered u r) m n =
    gives_begun (half w).seen.limit
    (gives_if (not (has (λ b. b.enlisted) (branches_by w r.value))) (sure refl)
    (gives_if (is_in r.value (core w).recovered) (sure refl) (gives_connected (find (is_unfinished_link w) (branches_by w r.value)) (gives_stopped w))))

-- and a marshal call doesn't where it is promoted or sealed
pub gives : (t : ℕ) (w : World) (c : Call) (m : ℕ) → (has is_promoted w.past || has is_sealed w.past) ≡ true → is_durable_call c ≡ false → Gives (answer_at t w c m)
unfolding answer_at local_answer observe
gives t w (Durable u e r s) m p n = absurd cc
gives t w (Marshal u) m p n =
    let h = half w in
    gives_over h.seen (gives_id (has is_promoted w.past) (has is_sealed w.past) (identifier_of t) (if is_crowded h then Many CALLS else Wait) p)
gives t w c m p n = other_given t w c m refl

-- after the seal no call waits
durable_late : (o : Option ℕ) (d : Option Outcome) (s : Bool) (x : Answer) → s ≡ true → Gives (if_begun o (unless_ended d (if s then TooLate else x)))
durable_late o d true x q = gives_begun o (gives_ended d (sure refl))
durable_late o d false x q = absurd cc

pub sealed_gives : (t : ℕ) (w : World) (c : Call) (m : ℕ) → has is_sealed w.past ≡ true → is_waiting_answer (answer_at t w c m) ≡ false
unfolding answer_at local_answer observe
sealed_gives t w (Durable u e r s) m q = (durable_late (half w).seen.limit (half w).seen.decided (has is_sealed w.past) _ q).proof
sealed_gives t w c m q = (gives t w c m (or_right (has is_promoted w.past) (has is_sealed w.past) q) refl).proof

-- the call of its line is the newest entered
pub own_call : (n : ℕ) (a : ActorNo) (c : Call) (ks : List EnteredCall) → call_at (record { line = n; actor = a; call = c } ∷ ks) n ≡ Some c
own_call n a c ks = rw (eq_self n) refl

-- the call waits for a place, and its ENLIST was sent
abbrev pub is_on_its_way : List Entry → Waiter → Bool
is_on_its_way h (n, Identifier) = false
is_on_its_way h (n, Place e r c) = has (is_sent_on (Enl e) Up ENLIST) h

-- the enlistment of a call that waits doesn't stand
abbrev pub is_unplaced : List Entry → Waiter → Bool
is_unplaced h (n, Identifier) = true
is_unplaced h (n, Place e r c) = not (has (is_enlisted e.value) h)
