-- Shapes of frames.
use Rattle.std.specs.Prelude.{◌≡◌, ℕ, List, [], ◌∷◌}
use Rattle.dtx_values.specs.declared.message.Info.{Info}
use Rattle.dtx_values.specs.declared.message.Message.{Message}
use Rattle.dtx_values.specs.declared.message.Message.TheVariants.{BeginBegun, VoterVoter, VoterRefused, EnlistEnlist, EnlistRefused, ReenlistReenlist}
use Rattle.dtx_model.specs.Frames.{BodyKind, Empty, Identifier, Information, Reason, IsFrame, frame, frame_of}
use Rattle.dtx_values.specs.RecoveryInfo.{id_bytes, info_bytes}
use Rattle.oletx_frames.specs.declared.shape.Shape.{Shape}
use Rattle.oletx_frames.specs.declared.shape.Shape.TheVariants as shape

-- what the body of the frames of a shape is
abbrev pub kind_of : Shape → BodyKind
kind_of (shape.Plain m) = Empty
kind_of shape.Begun = Identifier
kind_of shape.Voter = Identifier
kind_of shape.VoterRefused = Reason
kind_of shape.Enlist = Information
kind_of shape.EnlistRefused = Reason
kind_of shape.Reenlist = Information

-- the frames of this type and tag are those of the shape's messages
abbrev pub IsHead : ℕ → ℕ → Shape → Type 0
IsHead type tag (shape.Plain m) = IsFrame (frame type tag []) m
IsHead type tag shape.Begun = (u : ℕ) → frame_of (BeginBegun u) ≡ frame type tag (id_bytes u)
IsHead type tag shape.Voter = (u : ℕ) → frame_of (VoterVoter u) ≡ frame type tag (id_bytes u)
IsHead type tag shape.VoterRefused = (cause : ℕ) → frame_of (VoterRefused cause) ≡ frame type tag (cause ∷ [])
IsHead type tag shape.Enlist = (i : Info) → frame_of (EnlistEnlist i) ≡ frame type tag (info_bytes i)
IsHead type tag shape.EnlistRefused = (cause : ℕ) → frame_of (EnlistRefused cause) ≡ frame type tag (cause ∷ [])
IsHead type tag shape.Reenlist = (i : Info) → frame_of (ReenlistReenlist i) ≡ frame type tag (info_bytes i)

-- a frame with this body, of the type and tag of the shape, is the frame of this message
abbrev pub IsMade : Shape → List ℕ → Message → Type 0
IsMade s body m = (type tag : ℕ) → IsHead type tag s → IsFrame (frame type tag body) m
