-- What comes on a connection is written: the connections carry the history with it.
use Rattle.std.proofs.Common.{◌≡◌, true, List, ◌∷◌, Option, Some, None, IfSome, refl, subst}
use Rattle.dtx_values.specs.declared.entry.Entry.{Entry}
use Rattle.dtx_values.specs.declared.entry.Entry.TheVariants.{Down as Ended, Got}
use Rattle.dtx_values.specs.declared.message.Conn.{Conn}
use Rattle.dtx_values.specs.declared.message.Dir.{Dir}
use Rattle.dtx_values.specs.declared.message.Message.{Message}
use Rattle.dtx_values.specs.Lines.{has_line}
use Rattle.dtx_model.specs.Wires.{MayCross, WireRun}
use Rattle.oletx_frames.specs.declared.refusal.FrameRefusal.{FrameRefusal}
use Rattle.oletx_session.specs.declared.session.Delivered.{Delivered}
use Rattle.oletx_session.specs.declared.session.Delivered.TheVariants.{Msg, End, BadFrame}
use Rattle.oletx_session.specs.Traffic.{Wire}
use Rattle.oletx_session.specs.Carries.{Carries}
use Rattle.world_laws.specs.Course.{Came, arrival}

pub same_entry : (x y : Entry) → Some x ≡ Some y → x ≡ y
same_entry x y e = cc

pub arrived_kept : (c : Conn) (d : Dir) (o : Option Delivered) (x : Entry) (ws us : List Wire) (h : List Entry) → arrival c d o ≡ Some x → Carries ws h → WireRun h
    → ((m : Message) (g : List Entry) → o ≡ Some (Msg m) → Carries ws g → MayCross g (Got c d m) × (has_line c d m ≡ true → Carries us (Got c d m ∷ g)))
    → ((g : List Entry) → o ≡ Some End → Carries ws g → MayCross g (Ended c d) × Carries us (Ended c d ∷ g))
    → ((m : Message) → MayCross h (Got c d m) → has_line c d m ≡ true) → Carries us (x ∷ h) × WireRun (x ∷ h)
arrived_kept c d (Some (Msg m)) x ws us h e k r got down lined =
    let one = got m h refl k in
    subst (λ (y : Entry). Carries us (y ∷ h) × WireRun (y ∷ h)) (same_entry (Got c d m) x e) (one.1 (lined m one.0), (one.0, r))
arrived_kept c d (Some End) x ws us h e k r got down lined =
    let one = down h refl k in
    subst (λ (y : Entry). Carries us (y ∷ h) × WireRun (y ∷ h)) (same_entry (Ended c d) x e) (one.1, (one.0, r))
arrived_kept c d _ x ws us h e k r got down lined = absurd (cc)

-- what comes is no bad frame
pub arrived_came : (c : Conn) (d : Dir) (o : Option Delivered) (h n : List Entry) → ((x : Entry) → arrival c d o ≡ Some x → n ≡ x ∷ h) → ((m : Message) → o ≡ Some (Msg m) → MayCross h (Got c d m))
    → (o ≡ Some End → MayCross h (Ended c d)) → ((e : FrameRefusal) → o ≡ Some (BadFrame e) → ⊥) → IfSome o (λ x. Came c d x h n)
arrived_came c d None h n put got down never = tt
arrived_came c d (Some (Msg m)) h n put got down never = (got m refl, put (Got c d m) refl)
arrived_came c d (Some End) h n put got down never = (down refl, put (Ended c d) refl)
arrived_came c d (Some (BadFrame e)) h n put got down never = never e refl
