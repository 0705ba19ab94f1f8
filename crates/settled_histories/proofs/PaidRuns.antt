-- In each world that steps make each demand is paid, and nothing is owed, where what must stand before ENLISTED and COMMITTED did.
use Rattle.std.proofs.Common.{◌≡◌, ℕ, true, false, ◌&&◌, List, [], ◌∷◌, refl, sym, subst}
use Rattle.dtx_values.specs.declared.call.Call.{Call}
use Rattle.dtx_values.specs.declared.entry.Entry.{Entry}
use Rattle.dtx_values.specs.declared.message.Conn.{Conn}
use Rattle.dtx_values.specs.declared.message.Conn.TheVariants.{Begin, Voter, Enl}
use Rattle.dtx_values.specs.declared.message.Dir.TheVariants.{Down}
use Rattle.dtx_values.specs.declared.message.Message.{Message}
use Rattle.dtx_values.specs.declared.message.Message.TheVariants.{BeginCommitted, EnlistEnlisted, VoterCreated}
use Rattle.dtx_values.specs.declared.number.ActorNo.{ActorNo}
use Rattle.dtx_model.specs.declared.waiting.EnteredCall.{EnteredCall}
use Rattle.dtx_model.specs.Words.{always, has}
use Rattle.dtx_model.specs.Entries.{is_decision, is_promoted}
use Rattle.dtx_model.specs.Observed.{handover, is_promotion_failed}
use Rattle.dtx_model.specs.Promotes.{is_promoting, is_under_way}
use Rattle.dtx_model.specs.Wires.{in_transit, is_next}
use Rattle.dtx_model.specs.Waiting.{is_place_of, waiting}
use Rattle.dtx_model.specs.Half.{is_handed}
use Rattle.dtx_model.specs.World.{World}
use Rattle.dtx_model.specs.Steps.{Step, Delivers}
use Rattle.dtx_model.specs.Caused.{Ran}
use Rattle.std.specs.Prelude.{Bool, not}
use Rattle.settled_histories.proofs.MessageKinds.{COMMITTED}
use Rattle.settled_histories.proofs.Committed.{committed_promoted, is_committed_well}
use Rattle.settled_histories.proofs.Paid.{IsPaid}
use Rattle.settled_histories.proofs.PaidBlocks.{MayServe, Serves, step_pays}
use Rattle.settled_histories.proofs.Handovers.{AreManaged, ran_managed}
use Rattle.history_table.proofs.Crossed.{got_sent}

-- Where nothing is decided: before ENLISTED that is not the handover's, the promotion is over and a call waits for the place; and before COMMITTED no promotion is
-- under way.
abbrev pub IsMet : List EnteredCall → List Entry → Conn → Message → Type 0
IsMet ks h (Enl e) EnlistEnlisted =
    has is_decision h ≡ false → (is_under_way h && is_handed (handover h) e.value) ≡ false → (has is_promoted h ≡ true) × (has (is_place_of e.value) (waiting ks h) ≡ true)
IsMet ks h Begin BeginCommitted = has is_decision h ≡ false → is_under_way h ≡ false
IsMet ks h c m = Unit {0}

abbrev pub MayMeet : World → Step → Type 0
MayMeet w (Delivers c Down) = (m : Message) → is_next m (in_transit c Down w.past) → IsMet w.calls w.past c m
MayMeet w _ = Unit {0}

-- each step of the run
abbrev pub AreMet : (G : ℕ → ActorNo → Call → Type 0) (t : ℕ) (ms : List Step) (w : World) → Ran G t ms w → Type 0
AreMet G t [] w r = Unit {0}
AreMet G t (m ∷ ms) w r = MayMeet r.0 m × AreMet G t ms r.0 r.1

-- the handover has its manager
served : (ks : List EnteredCall) (h : List Entry) (c : Conn) (m : Message) → AreManaged ks h → IsMet ks h c m → Serves ks h c m
served ks h Voter VoterCreated a f = a.handed
served ks h (Enl e) EnlistEnlisted a f = f
served ks h Begin BeginCommitted a f = f
served ks h c m a f = tt

step_served : (w : World) (m : Step) → AreManaged w.calls w.past → MayMeet w m → MayServe w m
step_served w (Delivers c Down) a f = λ m n. served w.calls w.past c m a (f m n)
step_served w _ a f = tt

pub ran_pays : (G : ℕ → ActorNo → Call → Type 0) (t : ℕ) (ms : List Step) (w : World) (r : Ran G t ms w) → AreMet G t ms w r → IsPaid w.past
ran_pays G t [] w r f = subst IsPaid (sym r.1) (record { paid = refl; free = refl })
ran_pays G t (m ∷ ms) w r f =
    subst (λ (x : World). IsPaid x.past) (sym r.3) (step_pays t r.0 m (step_served r.0 m (ran_managed G t ms r.0 r.1) f.0) (ran_pays G t ms r.0 r.1 f.1))

-- What must stand before COMMITTED does, by the table of rules.
pub committed_met : (h : List Entry) → is_next BeginCommitted (in_transit Begin Down h) → always is_committed_well h ≡ true → is_under_way h ≡ false
committed_met h n r =
    over (has is_promoting h) (has is_promoted h) (has is_promotion_failed h)
    (committed_promoted h r (got_sent Begin Down BeginCommitted COMMITTED h n refl))
  where
    over : (a b c : Bool) → b ≡ true → (a && not b && not c) ≡ false
    over true b c k = rw k refl
    over false b c k = refl
