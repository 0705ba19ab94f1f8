-- The bytes of bodies.
use Rattle.std.specs.Prelude.{ℕ, List, [], ◌∷◌}
use Rattle.dtx_values.specs.RecoveryInfo.{id_bytes, info_bytes}
use Rattle.oletx_frames.specs.declared.parts.Body.{Body}
use Rattle.oletx_frames.specs.declared.parts.Body.TheVariants.{Empty, Identifier, Information, Reason}

-- the bytes of a body: none, those of an identifier, those of recovery information, or a cause
abbrev pub body_bytes : Body → List ℕ
body_bytes Empty = []
body_bytes (Identifier u) = id_bytes u
body_bytes (Information i) = info_bytes i
body_bytes (Reason cause) = cause ∷ []
