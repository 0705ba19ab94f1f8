-- How messages cross: their frames in pieces.
use Rattle.std.specs.Prelude.{◌≡◌, ◌≤◌, ℕ, zero, suc, true, List, [], ◌∷◌, length, map, min, take, drop, Option, Some, None, Result, Ok}
use Rattle.std.specs.List.{flat_map}
use Rattle.std.specs.Int.{div_ceil}
use Rattle.dtx_values.specs.declared.message.Conn.{Conn}
use Rattle.dtx_values.specs.declared.message.Dir.{Dir}
use Rattle.dtx_values.specs.declared.message.Message.{Message}
use Rattle.dtx_model.specs.Frames.{frame_of, is_valid}
use Rattle.dtx_model.specs.Words.{each}
use Rattle.oletx_frames.specs.declared.refusal.FrameRefusal.{FrameRefusal}
use Rattle.oletx_session.specs.declared.link.Link.{Link}
use Rattle.oletx_session.specs.declared.piece.Piece.{Piece}
use Rattle.oletx_session.specs.Queues.{HasNoStray, bytes_in, on_way}

-- so many pieces of n bytes, or as many as the bytes make, the last one shorter where they don't divide
abbrev pub cut_up : ℕ → ℕ → List ℕ → List (List ℕ)
cut_up zero n b = []
cut_up (suc k) n [] = []
cut_up (suc k) n (x ∷ b) = take n (x ∷ b) ∷ cut_up k n (drop n (x ∷ b))

-- the bytes in pieces of n: no more than there are bytes
abbrev pub cut : ℕ → List ℕ → List (List ℕ)
cut n b = cut_up (length b) n b

-- the frame of a message in pieces of n bytes
abbrev pub pieces_of : ℕ → Message → List (List ℕ)
pieces_of n m = cut n (frame_of m)

-- the most pieces that a frame has, which has at most 40 bytes
abbrev pub most_pieces : ℕ → ℕ
most_pieces n = div_ceil 40 n

-- these are the pieces of valid messages' frames, one frame behind the other
pub record AreCutUp (n : ℕ) (ps : List Piece) : Type 0 where
  pub messages : List Message
  pub valid : each is_valid messages ≡ true
  pub pieces : map bytes_in ps ≡ flat_map (pieces_of n) messages

-- what holds of the connections between two calls: a piece has some bytes, nothing is on the way on a connection that was never started, and whole frames are on the way
-- on each
pub record AreKept (n : ℕ) (ls : List Link) (ps : List Piece) : Type 0 where
  pub some : 1 ≤ n
  pub stray : HasNoStray ls ps
  pub whole : (c : Conn) (d : Dir) → AreCutUp n (on_way c d ps)

-- what is taken of these messages' pieces: nothing where there is no message, else the first message, and the pieces of the others are left
abbrev pub Takes : ℕ → Option (Result Message FrameRefusal) → List Message → List Piece → Type 0
Takes n answer [] left = (answer ≡ None) × (left ≡ [])
Takes n answer (m ∷ ms) left = (answer ≡ Some (Ok m)) × (map bytes_in left ≡ flat_map (pieces_of n) ms)

-- so many are the first of these messages, at most `keep`, and so many pieces have their frames
pub record Begins (n keep : ℕ) (ms : List Message) (counts : ℕ × ℕ) : Type 0 where
  pub frames : counts.0 ≡ min keep (length ms)
  pub pieces : counts.1 ≡ length (flat_map (pieces_of n) (take keep ms))
