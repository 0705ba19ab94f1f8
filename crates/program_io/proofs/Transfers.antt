-- Bytes that are read or written a piece at a time, up to where that stops.
use Rattle.std.proofs.Common.{◌≡◌, Bool, ℕ, ◌<◌, ◌≤◌, List, ◌∷◌, ◌++◌, [], append_assoc, take, drop, length, arith, ◌∙◌, refl, sym, ap}
use Rattle.std.specs.Prelude.{Option, Some}
use Rattle.std.proofs.lemmas.List.{take-append-drop, length-drop, append-nil, drop_all}
use Rattle.dtx_model.specs.Traces.{Placed}
use Rattle.trace_text.specs.Forms.{lines_text}
use Rattle.trace_lines.proofs.Lines.{has_left, none}
use Rattle.program_io.specs.Transfer.{IsPartWritten}

-- written up to byte n, which is not the end
pub cut_at : (before bytes : List ℕ) (after : Option (List ℕ)) (n : ℕ) → n < length bytes → after ≡ Some (before ++ take n bytes) → IsPartWritten before bytes after
cut_at before bytes after n within put = record {
  part = take n bytes;
  rest = drop n bytes;
  split = sym (take-append-drop n bytes);
  more = λ (none : drop n bytes ≡ []). omega (arith, length-drop n bytes, ap length none);
  written = put;
}

-- written up to byte n, and then no byte more
pub stalled_at : (before bytes from : List ℕ) (after : Option (List ℕ)) (n none : ℕ) → n < length bytes → none ≡ 0 → after ≡ Some ((before ++ take n bytes) ++ take none from) → IsPartWritten before bytes after
stalled_at before bytes from after n none within zero put =
    let all : (before ++ take n bytes) ++ take none from ≡ before ++ take n bytes = rw zero (append-nil (before ++ take n bytes)) in
    cut_at before bytes after n within (put ∙ ap Some all)

-- nothing is left past the end, so what is left further on is the same
pub left_at_end : (b : List ℕ) (n none most : ℕ) → drop n b ≡ [] → n ≤ most → drop none (drop n b) ≡ drop most b
left_at_end b n none most end within =
    let long : length (drop n b) ≡ 0 = ap length end in
    let here : drop none (drop n b) ≡ [] = drop_all none (drop n b) (omega arith) in
    let further : drop most b ≡ [] = drop_all most b (omega (arith, length-drop n b)) in
    here ∙ sym further

-- A text that is written a piece at a time, each of which is the lines of some entries.

-- before the first piece nothing is written
pub none_written : (wire : Bool) (T : List Placed) (w : List ℕ) → w ++ lines_text wire (take 0 T) ≡ w
none_written wire T w = ap (λ (x : List ℕ). w ++ x) (none wire) ∙ append-nil w

-- a piece that was made after the text of the first k entries, and of nothing, goes on with it
pub piece_on : (wire : Bool) (T : List Placed) (k m : ℕ) (old piece : List ℕ) → ((before : List ℕ) → before ++ old ≡ lines_text wire (take k T) → before ++ piece ≡ lines_text wire (take m T)) → old ≡ []
    → lines_text wire (take k T) ++ piece ≡ lines_text wire (take m T)
piece_on wire T k m old piece on empty = on (lines_text wire (take k T)) (ap (λ (x : List ℕ). lines_text wire (take k T) ++ x) empty ∙ append-nil (lines_text wire (take k T)))

-- after a whole piece the text of the entries up to its end is written
pub piece_written : (wire : Bool) (T : List Placed) (k m : ℕ) (w piece : List ℕ) (after : Option (List ℕ)) → lines_text wire (take k T) ++ piece ≡ lines_text wire (take m T)
    → after ≡ Some ((w ++ lines_text wire (take k T)) ++ piece) → after ≡ Some (w ++ lines_text wire (take m T))
piece_written wire T k m w piece after on put = put ∙ ap Some (append_assoc w (lines_text wire (take k T)) piece ∙ ap (λ (x : List ℕ). w ++ x) on)

-- before a piece that couldn't be made, a part of the text is written
pub before_piece : (wire : Bool) (T : List Placed) (k : ℕ) (w : List ℕ) (after : Option (List ℕ)) → k < length T → after ≡ Some (w ++ lines_text wire (take k T)) → IsPartWritten w (lines_text wire T) after
before_piece wire T k w after within put =
    let l = has_left wire T k in
    record { part = lines_text wire (take k T); rest = l.left; split = l.split; more = l.some within; written = put }

-- and so it is after a part of a piece
pub part_of_piece : (wire : Bool) (T : List Placed) (k m : ℕ) (w piece : List ℕ) (after : Option (List ℕ)) → lines_text wire (take k T) ++ piece ≡ lines_text wire (take m T)
    → IsPartWritten (w ++ lines_text wire (take k T)) piece after → IsPartWritten w (lines_text wire T) after
part_of_piece wire T k m w piece after on p =
    let l = has_left wire T m in
    let done = lines_text wire (take k T) in
    record {
      part = done ++ p.part;
      rest = p.rest ++ l.left;
      split = l.split ∙ ap (λ (x : List ℕ). x ++ l.left) (sym on ∙ ap (λ (x : List ℕ). done ++ x) p.split ∙ sym (append_assoc done p.part p.rest)) ∙ append_assoc (done ++ p.part) p.rest l.left;
      more = λ (e : p.rest ++ l.left ≡ []). p.more (append_none p.rest l.left e);
      written = p.written ∙ ap Some (append_assoc w done p.part);
    }
  where
    append_none : (a b : List ℕ) → a ++ b ≡ [] → a ≡ []
    append_none [] b e = refl
    append_none (x ∷ a) b e = absurd cc
