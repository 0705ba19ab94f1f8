-- In each world that steps make the coordinator has room for the message that comes next: it has at most 16 desks, 34 known connections, and 16 that came back and wait. The
-- disk may find what it likes.
use Rattle.std.proofs.Common.{◌≡◌, ◌≤◌, ◌<◌, ℕ, List, ◌∷◌, refl, sym, subst}
use Rattle.dtx_values.specs.declared.call.Call.{Call}
use Rattle.dtx_values.specs.declared.entry.Entry.TheVariants.{Got}
use Rattle.dtx_values.specs.declared.message.Conn.{Conn}
use Rattle.dtx_values.specs.declared.message.Dir.TheVariants.{Up}
use Rattle.dtx_values.specs.declared.message.Message.{Message}
use Rattle.dtx_values.specs.declared.number.ActorNo.{ActorNo}
use Rattle.dtx_model.specs.Caused.{AreMadeOnce, Ran}
use Rattle.dtx_model.specs.Coordinated.{coordinate, follow}
use Rattle.dtx_model.specs.Steps.{Step}
use Rattle.dtx_model.specs.Wires.{in_transit, is_next}
use Rattle.dtx_model.specs.World.{World, core}
use Rattle.dtx_model.proofs.Quiet.{wire_run}
use Rattle.coordinator_core.specs.Kept.{IsFew}
use Rattle.world_laws.proofs.FewAnswers.{ran_roomy}
use Rattle.world_laws.proofs.FewBranches.{gentle_roomy}
use Rattle.world_laws.proofs.FewKnown.{coordinate_few}
use Rattle.world_laws.proofs.Sendable.{id_valid, ran_ends}
use Rattle.world_laws.proofs.SendingEnds.{one_ends}

-- what the coordinator knows fits
pub runs_fit : (G : ℕ → ActorNo → Call → Type 0) (t : ℕ) (ms : List Step) (w : World) → 1 ≤ t → t < 281474976710656 → AreMadeOnce G → Ran G t ms w → IsFew (core w)
runs_fit G t ms w low high once r =
    let v = id_valid t low high in coordinate_few w.calls w.past (wire_run G t ms w r) (ran_ends G t ms w v once r).opened (ran_roomy G t ms w v once r)

-- and it fits with the message that comes next
pub runs_few : (G : ℕ → ActorNo → Call → Type 0) (t : ℕ) (ms : List Step) (w : World) (c : Conn) (m : Message) (rest : List Message) → 1 ≤ t → t < 281474976710656 → AreMadeOnce G → Ran G t ms w → in_transit c Up w.past ≡ m ∷ rest
    → IsFew (follow (core w) (Got c Up m))
unfolding coordinate
runs_few G t ms w c m rest low high once r next =
    let v = id_valid t low high in
    let x = Got c Up m in
    coordinate_few w.calls (x ∷ w.past) (subst (is_next m) (sym next) refl, wire_run G t ms w r) (one_ends x w.past refl refl refl (ran_ends G t ms w v once r)).opened
    (gentle_roomy w.calls x w.past refl (ran_roomy G t ms w v once r))
