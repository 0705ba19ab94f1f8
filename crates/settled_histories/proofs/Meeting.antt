-- In each run whose history keeps the table of rules, what must stand before ENLISTED and COMMITTED did: so each demand is paid, and nothing is owed.
use Rattle.std.proofs.Common.{◌≡◌, ℕ, true, List, [], ◌∷◌, refl, ap, subst}
use Rattle.dtx_values.specs.declared.call.Call.{Call}
use Rattle.dtx_values.specs.declared.entry.Entry.{Entry}
use Rattle.dtx_values.specs.declared.message.Conn.{Conn}
use Rattle.dtx_values.specs.declared.message.Conn.TheVariants.{Begin, Enl}
use Rattle.dtx_values.specs.declared.message.Dir.TheVariants.{Up, Down}
use Rattle.dtx_values.specs.declared.message.Message.{Message}
use Rattle.dtx_values.specs.declared.message.Message.TheVariants.{BeginCommitted, EnlistEnlisted}
use Rattle.dtx_values.specs.declared.number.ActorNo.{ActorNo}
use Rattle.dtx_values.specs.declared.number.EnlNo.{EnlNo}
use Rattle.dtx_model.specs.Words.{always, onto}
use Rattle.dtx_model.specs.Wires.{WireRun, in_transit, is_next}
use Rattle.dtx_model.specs.World.{World}
use Rattle.dtx_model.specs.Steps.{Step, Delivers, after, block_at}
use Rattle.dtx_model.specs.Caused.{Ran}
use Rattle.dtx_model.proofs.Bools.{and_right}
use Rattle.history_table.proofs.Messages.{ENLIST}
use Rattle.settled_histories.proofs.MessageKinds.{ENLISTED}
use Rattle.settled_histories.proofs.Rest.{is_after_start, is_sound}
use Rattle.settled_histories.proofs.Openings.{once_sent}
use Rattle.settled_histories.proofs.Stages.{sent_known}
use Rattle.settled_histories.proofs.Committed.{is_committed_well}
use Rattle.settled_histories.proofs.Paid.{IsPaid}
use Rattle.settled_histories.proofs.PaidRuns.{AreMet, IsMet, MayMeet, committed_met, ran_pays}
use Rattle.settled_histories.proofs.Counted.{got_first, is_once}
use Rattle.settled_histories.proofs.ComingRuns.{enlisted_met, ran_coming}
use Rattle.history_table.proofs.Crossed.{is_sent_on, got_sent}

-- a history whose messages are sent after the promotion began, on connections that are known, COMMITTED after the promotion, and ENLISTED once to each enlistment
pub record IsMeeting (h : List Entry) : Type 0 where
  pub run : WireRun h
  pub later : always is_after_start h ≡ true
  pub sound : always is_sound h ≡ true
  pub committed : always is_committed_well h ≡ true
  pub once : (e : EnlNo) → always (is_once (is_sent_on (Enl e) Down ENLISTED)) h ≡ true

meeting_before : (x : Entry) (h : List Entry) → IsMeeting (x ∷ h) → IsMeeting h
meeting_before x h g = record {
  run = g.run.1;
  later = and_right (is_after_start h x) (always is_after_start h) g.later;
  sound = and_right (is_sound h x) (always is_sound h) g.sound;
  committed = and_right (is_committed_well h x) (always is_committed_well h) g.committed;
  once = λ e. and_right (is_once (is_sent_on (Enl e) Down ENLISTED) h x) (always (is_once (is_sent_on (Enl e) Down ENLISTED)) h) (g.once e);
}

meeting_onto : (h es : List Entry) → IsMeeting (onto h es) → IsMeeting h
meeting_onto h [] g = g
meeting_onto h (x ∷ es) g = meeting_before x h (meeting_onto (x ∷ h) es g)

met : (G : ℕ → ActorNo → Call → Type 0) (t : ℕ) (ms : List Step) (w : World) → Ran G t ms w → IsMeeting w.past → (c : Conn) (m : Message) → is_next m (in_transit c Down w.past) → IsMet w.calls w.past c m
met G t ms w r g (Enl e) EnlistEnlisted n =
    enlisted_met w.calls w.past e (ran_coming G t ms w r g.later)
    (once_sent (Enl e) Up ENLIST w.past g.run (sent_known (Enl e) ENLISTED w.past g.sound (got_sent (Enl e) Down EnlistEnlisted ENLISTED w.past n refl)))
    (got_first (Enl e) Down EnlistEnlisted ENLISTED w.past g.run n refl (g.once e))
met G t ms w r g Begin BeginCommitted n = λ d. committed_met w.past n g.committed
met G t ms w r g c m n = tt

may_meet : (G : ℕ → ActorNo → Call → Type 0) (t : ℕ) (ms : List Step) (w : World) (m : Step) → Ran G t ms w → IsMeeting w.past → MayMeet w m
may_meet G t ms w (Delivers c Down) r g = met G t ms w r g c
may_meet G t ms w _ r g = tt

ran_met : (G : ℕ → ActorNo → Call → Type 0) (t : ℕ) (ms : List Step) (w : World) (r : Ran G t ms w) → IsMeeting w.past → AreMet G t ms w r
unfolding after
ran_met G t [] w r g = tt
ran_met G t (m ∷ ms) w r g =
    let v = r.0 in
    let past : w.past ≡ onto v.past (block_at t v m) = ap (λ (x : World). x.past) r.3 in
    let now : IsMeeting v.past = meeting_onto v.past (block_at t v m) (subst IsMeeting past g) in
    (may_meet G t ms v m r.1 now, ran_met G t ms v r.1 now)

pub ran_paid : (G : ℕ → ActorNo → Call → Type 0) (t : ℕ) (ms : List Step) (w : World) → Ran G t ms w → IsMeeting w.past → IsPaid w.past
ran_paid G t ms w r g = ran_pays G t ms w r (ran_met G t ms w r g)
