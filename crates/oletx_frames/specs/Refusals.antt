-- Refusals and faults.
use Rattle.std.specs.Prelude.{◌≡◌}
use Rattle.dtx_model.specs.Frames.{FrameFault}
use Rattle.dtx_model.specs.Frames.FrameFault.{TooShort, NoType, NoTag, WrongLength, BadField}
use Rattle.oletx_frames.specs.declared.refusal.FrameRefusal.{FrameRefusal}
use Rattle.oletx_frames.specs.declared.refusal.FrameRefusal.TheVariants.{Short, BadType, BadTag, BadLength, BadValue}

-- the fault that a refusal tells of
abbrev pub fault_of : FrameRefusal → FrameFault
fault_of (Short n) = TooShort n
fault_of (BadType p) = NoType
fault_of (BadTag p) = NoTag
fault_of (BadLength p) = WrongLength
fault_of (BadValue p) = BadField p

-- a refusal of a type, a tag or a length has the place where that stands: 0, 1 or 2
abbrev pub IsPlaced : FrameRefusal → Type 0
IsPlaced (Short n) = Unit {0}
IsPlaced (BadType p) = p ≡ 0
IsPlaced (BadTag p) = p ≡ 1
IsPlaced (BadLength p) = p ≡ 2
IsPlaced (BadValue p) = Unit {0}
