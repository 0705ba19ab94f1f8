-- A text that is made in pieces: what the pieces together are, and what a part of it is.
use Rattle.std.proofs.Common.{◌≡◌, ◌≢◌, ◌<◌, ◌+◌, Bool, true, false, ℕ, zero, suc, List, [], ◌∷◌, ◌++◌, ap, arith, append_assoc, drop, length, length-append, refl, sym, take, ◌∙◌}
use Rattle.std.proofs.lemmas.List.{take_all}
use Rattle.dtx_model.specs.Traces.{Placed}
use Rattle.dtx_model.specs.TraceText.{lines_from, trace_line, trace_text}
use Rattle.trace_lines.proofs.OneTrace.{no_line}
use Rattle.trace_lines.specs.Forms.{frame_text, line_words, lines_text, wire_line, wire_lines_from, wire_text}

-- a trace without an entry has no text
pub none : (wire : Bool) → lines_text wire [] ≡ []
unfolding trace_text wire_text
none true = refl
none false = refl

-- what was appended to no text, from the first entry to the last, is the text of the trace
pub whole : (wire : Bool) (T : List Placed) (n : ℕ) (old new : List ℕ) → ((before : List ℕ) → before ++ old ≡ lines_text wire (take 0 T) → before ++ new ≡ lines_text wire (take n T)) → old ≡ [] → n ≡ length T → new ≡ lines_text wire T
whole wire T n old new on empty end = on [] (empty ∙ sym (none wire)) ∙ ap (λ (xs : List Placed). lines_text wire xs) (take_all n T (omega (arith, end)))

-- the text of the first entries is followed by that of the others
lines_after : (n k m : ℕ) (T : List Placed) → n + k ≡ m → lines_from n T ≡ lines_from n (take k T) ++ lines_from m (drop k T)
lines_after n zero m T e = ap (λ (i : ℕ). lines_from i T) (omega (arith, e))
lines_after n (suc k) m [] e = refl
lines_after n (suc k) m (x ∷ T) e =
    ap (λ (t : List ℕ). trace_line n x ++ t) (lines_after (suc n) k m T (omega (arith, e))) ∙ sym (append_assoc (trace_line n x) (lines_from (suc n) (take k T)) (lines_from m (drop k T)))

wire_after : (n k m : ℕ) (T : List Placed) → n + k ≡ m → wire_lines_from n T ≡ wire_lines_from n (take k T) ++ wire_lines_from m (drop k T)
wire_after n zero m T e = ap (λ (i : ℕ). wire_lines_from i T) (omega (arith, e))
wire_after n (suc k) m [] e = refl
wire_after n (suc k) m (x ∷ T) e =
    ap (λ (t : List ℕ). wire_line n x ++ t) (wire_after (suc n) k m T (omega (arith, e))) ∙ sym (append_assoc (wire_line n x) (wire_lines_from (suc n) (take k T)) (wire_lines_from m (drop k T)))

-- a line has a byte
lines_some : (n : ℕ) (T : List Placed) (k : ℕ) → k < length T → lines_from n (drop k T) ≢ []
lines_some n [] k h e = absurd (omega arith)
lines_some n (x ∷ T) zero h e = no_line n x (lines_from (suc n) T) (sym e)
lines_some n (x ∷ T) (suc k) h e = lines_some n T k (omega arith) e

pub ended : (a b rest : List ℕ) (m : ℕ) → (a ++ b ++ m ∷ []) ++ rest ≡ [] → ⊥
ended a b rest m e = omega (arith, ap length e, length-append (a ++ b ++ m ∷ []) rest, length-append (a ++ b) (m ∷ []))

wire_some : (n : ℕ) (T : List Placed) (k : ℕ) → k < length T → wire_lines_from n (drop k T) ≢ []
wire_some n [] k h e = absurd (omega arith)
wire_some n (x ∷ T) zero h e = ended (line_words n x) (frame_text x.1) (wire_lines_from (suc n) T) 10 e
wire_some n (x ∷ T) (suc k) h e = wire_some n T k (omega arith) e

-- What is left of a text after that of the first entries: some bytes, where not all entries are printed.
pub record HasLeft (wire : Bool) (T : List Placed) (k : ℕ) : Type 0 where
  pub left : List ℕ
  pub split : lines_text wire T ≡ lines_text wire (take k T) ++ left
  pub some : k < length T → left ≢ []

pub has_left : (wire : Bool) (T : List Placed) (k : ℕ) → HasLeft wire T k
unfolding trace_text wire_text
has_left false T k = record { left = lines_from (suc k) (drop k T); split = lines_after 1 k (suc k) T (omega arith); some = lines_some (suc k) T k }
has_left true T k = record { left = wire_lines_from (suc k) (drop k T); split = wire_after 1 k (suc k) T (omega arith); some = wire_some (suc k) T k }
