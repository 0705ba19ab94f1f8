-- Frames, one behind the other, are read in one way.
use Rattle.std.proofs.Common.{◌≡◌, ℕ, true, List, [], ◌∷◌, ◌++◌, refl, ap, sym, subst, ◌∙◌}
use Rattle.std.specs.List.{flat_map}
use Rattle.std.proofs.lemmas.Bool.{and_parts}
use Rattle.std.proofs.lemmas.List.{append_cancel_left}
use Rattle.dtx_values.specs.declared.message.Message.{Message}
use Rattle.dtx_model.specs.Frames.{frame_of, is_valid}
use Rattle.dtx_model.specs.Words.{each}
use Rattle.oletx_frames.proofs.Pieces.{same_messages}
use Rattle.dtx_model.specs.Outcome.{is_empty}
use Rattle.oletx_session.specs.Traffic.{Spells}
use Rattle.oletx_session.proofs.Views.{frame_full}

-- the message is the first of these, and the bytes are the frames of the others
pub record IsFirst (m : Message) (rest : List ℕ) (ms : List Message) : Type 0 where
  pub behind : List Message
  pub all : ms ≡ m ∷ behind
  pub spelled : Spells rest behind

-- frames that begin with a message's are the frames of this message and of others
pub first_read : (m : Message) (rest : List ℕ) (ms : List Message) → is_valid m ≡ true → Spells (frame_of m ++ rest) ms → IsFirst m rest ms
first_read m rest [] valid s = absurd (let full = sym (frame_full m rest) ∙ ap is_empty s.bytes in cc)
first_read m rest (n ∷ ms) valid s =
    let each_valid = and_parts (is_valid n) (each is_valid ms) s.valid in
    let same = same_messages m n rest (flat_map frame_of ms) s.bytes valid each_valid.0 in
    record {
      behind = ms;
      all = ap (λ x. x ∷ ms) (sym same);
      spelled = record {
        valid = each_valid.1;
        bytes = append_cancel_left (frame_of m) rest (flat_map frame_of ms) (s.bytes ∙ ap (λ x. frame_of x ++ flat_map frame_of ms) (sym same));
      };
    }

-- no bytes are the frames of none
pub none_read : (ms : List Message) → Spells [] ms → ms ≡ []
none_read [] s = refl
none_read (m ∷ ms) s = absurd (let full = sym (frame_full m (flat_map frame_of ms)) ∙ ap is_empty (sym s.bytes) in cc)

-- bytes spell one list of messages
pub same_spelled : (b : List ℕ) (ms ns : List Message) → Spells b ms → Spells b ns → ms ≡ ns
same_spelled b [] ns s t = (let P : List ℕ → Type 0 = λ xs. Spells xs ns in sym (none_read ns (subst P s.bytes t)))
same_spelled b (m ∷ ms) ns s t =
    let valid = and_parts (is_valid m) (each is_valid ms) s.valid in
    let P : List ℕ → Type 0 = λ xs. Spells xs ns in
    let first = first_read m (flat_map frame_of ms) ns valid.0 (subst P s.bytes t) in
    ap (λ xs. m ∷ xs) (same_spelled (flat_map frame_of ms) ms first.behind (record { valid = valid.1; bytes = refl }) first.spelled) ∙ sym first.all
