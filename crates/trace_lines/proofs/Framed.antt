-- A trace's text in the form wire, a line at a time.
use Rattle.std.proofs.Common.{◌≡◌, ℕ, zero, suc, ◌+◌, ◌<◌, List, [], ◌∷◌, ◌++◌, length, take, get_or, ap, arith, add-one, sym, ◌∙◌, append_assoc}
use Rattle.std.proofs.lemmas.List.{append-nil}
use Rattle.dtx_model.specs.Traces.{Placed}
use Rattle.trace_lines.specs.Forms.{frame_text, line_words, wire_line, wire_lines_from}

-- one entry more is one line more
more : (n : ℕ) (xs : List Placed) (k m : ℕ) (x : Placed) → k < length xs → m ≡ n + k → get_or xs k x ≡ x → wire_lines_from n (take (suc k) xs) ≡ wire_lines_from n (take k xs) ++ wire_line m x
more n [] k m x h number e = absurd (omega arith)
more n (y ∷ xs) zero m x h number e =
    let same : m ≡ n = omega arith in
    append-nil (wire_line n y) ∙ ap (λ (z : Placed). wire_line n z) e ∙ ap (λ (i : ℕ). wire_line i x) (sym same)
more n (y ∷ xs) (suc k) m x h number e =
    ap (λ (t : List ℕ). wire_line n y ++ t) (more (suc n) xs k m x (omega arith) (omega arith) e) ∙ sym (append_assoc (wire_line n y) (wire_lines_from (suc n) (take k xs)) (wire_line m x))

-- a loop's step from entry k, whose line has the number k + 1
pub wire-step : (xs : List Placed) (k : ℕ) (x : Placed) → k < length xs → x ≡ get_or xs k x → wire_lines_from 1 (take (k + 1) xs) ≡ wire_lines_from 1 (take k xs) ++ wire_line (k + 1) x
wire-step xs k x h e = rw add-one (more 1 xs k (suc k) x h (omega arith) (sym e))

-- the same of the text that the loop has made, with the words of the next line, its frame and LF
pub wire-next : (xs : List Placed) (k : ℕ) (x : Placed) → k < length xs → x ≡ get_or xs k x → (text words tail : List ℕ) → text ≡ wire_lines_from 1 (take k xs) → tail ≡ []
    → words ≡ line_words (k + 1) x ++ tail → ((text ++ words) ++ frame_text x.1) ++ 10 ∷ [] ≡ wire_lines_from 1 (take (k + 1) xs)
wire-next xs k x h e text words tail made empty line =
    let spelled : words ≡ line_words (k + 1) x = line ∙ ap (λ (t : List ℕ). line_words (k + 1) x ++ t) empty ∙ append-nil (line_words (k + 1) x) in
    ap (λ (t : List ℕ). t ++ 10 ∷ []) (append_assoc text words (frame_text x.1)) ∙ append_assoc text (words ++ frame_text x.1) (10 ∷ [])
    ∙ ap (λ (t : List ℕ). t ++ ((words ++ frame_text x.1) ++ 10 ∷ [])) made ∙ ap (λ (w : List ℕ). wire_lines_from 1 (take k xs) ++ ((w ++ frame_text x.1) ++ 10 ∷ [])) spelled
    ∙ sym (wire-step xs k x h e)

-- the same where the loop appends the three to a text, with what stands before that
pub wire-after : (xs : List Placed) (k : ℕ) (x : Placed) → k < length xs → x ≡ get_or xs k x → (before text words tail a b c : List ℕ) → before ++ text ≡ wire_lines_from 1 (take k xs) → tail ≡ []
    → words ≡ line_words (k + 1) x ++ tail → a ≡ text ++ words → b ≡ a ++ frame_text x.1 → c ≡ b ++ 10 ∷ [] → before ++ c ≡ wire_lines_from 1 (take (k + 1) xs)
wire-after xs k x h e before text words tail a b c made empty line wordy framed ended =
    let all : c ≡ ((text ++ words) ++ frame_text x.1) ++ 10 ∷ [] = ended ∙ ap (λ (t : List ℕ). t ++ 10 ∷ []) (framed ∙ ap (λ (t : List ℕ). t ++ frame_text x.1) wordy) in
    ap (λ (t : List ℕ). before ++ t) all ∙ sym (append_assoc before ((text ++ words) ++ frame_text x.1) (10 ∷ [])) ∙ ap (λ (t : List ℕ). t ++ 10 ∷ []) (sym (append_assoc before (text ++ words) (frame_text x.1)))
    ∙ ap (λ (t : List ℕ). (t ++ frame_text x.1) ++ 10 ∷ []) (sym (append_assoc before text words)) ∙ wire-next xs k x h e (before ++ text) words tail made empty line
