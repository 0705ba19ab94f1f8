-- Frames that come in pieces.
use Rattle.std.specs.Prelude.{◌≡◌, ◌↔◌, ◌<◌, ◌≤◌, ◌==◌, ℕ, Bool, true, false, List, [], ◌∷◌, ◌++◌, length, take, drop, Option, Some, None, if◌then◌else◌}
use Rattle.dtx_values.specs.declared.message.Message.{Message}
use Rattle.dtx_model.specs.Frames.{IsFrame, TooShort, frame_fault}
use Rattle.oletx_frames.specs.Refusals.{IsPlaced, fault_of}
use Rattle.oletx_frames.specs.declared.fed.Fed.{Fed}
use Rattle.oletx_frames.specs.declared.fed.Fed.TheVariants.{More, Msg, Bad}
use Rattle.oletx_frames.specs.declared.refusal.FrameRefusal.{FrameRefusal}
use Rattle.oletx_frames.specs.declared.refusal.FrameRefusal.TheVariants.{Short}

-- what is seen of a reader: the bytes that it holds, and the refusal that ended it
pub record Reading : Type 0 where
  pub held : List ℕ
  pub ended : Option FrameRefusal

-- a reader that holds these bytes and hasn't ended
abbrev pub holding : List ℕ → Reading
holding b = record { held = b; ended = None }

-- a reader that was ended by this refusal
abbrev pub ended_by : FrameRefusal → Reading
ended_by e = record { held = []; ended = Some e }

-- the bytes are none, or begin a frame of which they aren't the whole
abbrev pub IsBegun : List ℕ → Type 0
IsBegun b = frame_fault b ≡ Some (TooShort (length b))

-- what may come after the bytes doesn't matter to the refusal
abbrev pub is_final : FrameRefusal → Bool
is_final (Short n) = false
is_final _ = true

-- the bytes are refused so
pub record IsRefused (b : List ℕ) (e : FrameRefusal) : Type 0 where
  pub fault : frame_fault b ≡ Some (fault_of e)
  pub placed : IsPlaced e

-- the last of the bytes tells that they are no frame, whatever comes after them: without it they are the beginning of one
pub record IsAtFault (b : List ℕ) (e : FrameRefusal) : Type 0 where
  pub refused : IsRefused b e
  pub final : is_final e ≡ true
  pub before : (k : ℕ) → k < length b → IsBegun (take k b)

-- the held bytes and the first n of the piece are the frame of this message
abbrev pub Completes : List ℕ → List ℕ → ℕ → Message → Type 0
Completes held piece n m = (n ≤ length piece) × IsFrame (held ++ take n piece) m

-- the last of the held bytes and the first n of the piece tells that they are no frame
abbrev pub Spoils : List ℕ → List ℕ → ℕ → FrameRefusal → Type 0
Spoils held piece n e = (n ≤ length piece) × IsAtFault (held ++ take n piece) e

-- the held bytes and the whole piece, which has n bytes, begin a frame that isn't whole yet
abbrev pub Continues : List ℕ → List ℕ → ℕ → Type 0
Continues held piece n = (n ≡ length piece) × IsBegun (held ++ piece)

-- so does a call that takes n bytes of the piece and gives this answer
abbrev pub Gives : List ℕ → List ℕ → ℕ → Fed → Type 0
Gives held piece n (Msg m) = Completes held piece n m
Gives held piece n (Bad e) = Spoils held piece n e
Gives held piece n More = Continues held piece n

-- the reader after an answer: it holds the piece too where more is to come, nothing after a message, and nothing after a refusal, which ends it
abbrev pub left_after : Reading → List ℕ → Fed → Reading
left_after r piece More = holding (r.held ++ piece)
left_after r piece (Msg m) = holding []
left_after r piece (Bad e) = ended_by e

-- what one call of `feed` does: the reader before it, the piece, how many bytes of it are taken and the answer, the reader after it
pub record Feeds (old : Reading) (piece : List ℕ) (call : ℕ × Fed) (new : Reading) : Type 0 where
  pub message : old.ended ≡ None → (n : ℕ) (m : Message) → (call ≡ (n, Msg m)) ↔ Completes old.held piece n m
  pub bad : old.ended ≡ None → (n : ℕ) (e : FrameRefusal) → (call ≡ (n, Bad e)) ↔ Spoils old.held piece n e
  pub more : old.ended ≡ None → (n : ℕ) → (call ≡ (n, More)) ↔ Continues old.held piece n
  pub ended : (e : FrameRefusal) → old.ended ≡ Some e → call ≡ (0, Bad e)
  pub after : new ≡ left_after old piece call.1

-- the pieces that are still to be fed once n bytes of the first were taken with this answer: none after a refusal
abbrev pub still : ℕ → Fed → List ℕ → List (List ℕ) → List (List ℕ)
still n (Bad e) piece pieces = []
still n _ piece pieces = if n == length piece then pieces else drop n piece ∷ pieces

-- what comes of feeding these pieces to a reader in order, each until it is used up: what each call takes and answers, and the reader at the end
abbrev pub Feeding : Reading → List (List ℕ) → List (ℕ × Fed) → Reading → Type 0
Feeding r [] [] end = end ≡ r
Feeding r (piece ∷ pieces) (call ∷ calls) end = (s : Reading) × Feeds r piece call s × Feeding s (still call.0 call.1 piece pieces) calls end
Feeding _ _ _ _ = ⊥

-- the message of an answer
abbrev pub message_in : ℕ × Fed → List Message
message_in (n, Msg m) = m ∷ []
message_in (n, _) = []

-- the reader that bytes leave which are refused so: it holds them where they are too few, else the refusal ended it
abbrev pub left_by : List ℕ → FrameRefusal → Reading
left_by b (Short n) = holding b
left_by b e = ended_by e
