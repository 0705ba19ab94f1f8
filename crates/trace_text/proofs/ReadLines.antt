-- The words of a line, and where it stands at the front.
use Rattle.std.proofs.Common.{◌≡◌, ℕ, List, ◌++◌, decimal, refl, ap, sym, ◌∙◌, arith, length, length-append, take, ◌≤◌}
use Rattle.std.proofs.lemmas.List.{take_at}
use Rattle.dtx_model.specs.Traces.{Placed}
use Rattle.dtx_model.specs.TraceText.{entry_text, place_text, trace_line}
use Rattle.trace_lines.specs.Forms.{line_words}
use Rattle.line_tail.specs.Cut.{behind, front}
use Rattle.line_words.proofs.Without.{without_decimal}
use Rattle.trace_lines.proofs.CutWords.{cut_spaced, cut_twice, place_apart}

-- the words of a place and of an entry in their line
pub record ArePlaced (v w : List ℕ) (x : Placed) : Type 0 where
  pub name : v ≡ place_text x.0
  pub words : w ≡ entry_text x.1

-- are cut apart
pub placed_cut : (n : ℕ) (x : Placed) (text rest name words : List ℕ) → text ≡ line_words n x → rest ≡ behind 32 text → name ≡ front 32 rest → words ≡ behind 32 rest → ArePlaced name words x
placed_cut n x text rest name words e r f l =
    let k = cut_twice text (front 32 text) rest (decimal n) (place_text x.0) (entry_text x.1) refl r e (without_decimal 32 n (omega arith)) in
    let j = cut_spaced rest name words (place_text x.0) (entry_text x.1) f l k.last (place_apart x.0) in
    record { name = j.first; words = j.last }

-- where a text begins with this entry's line, it is no shorter than that line, and begins with its bytes
pub line_fits : (n : ℕ) (x : Placed) (b line after : List ℕ) → b ≡ trace_line n x ++ after → line ≡ trace_line n x → length line ≤ length b
line_fits n x b line after e h = omega (arith, ap length e, ap length h, length-append (trace_line n x) after)

pub line_taken : (n : ℕ) (x : Placed) (b line after : List ℕ) → b ≡ trace_line n x ++ after → line ≡ trace_line n x → take (length line) b ≡ line
line_taken n x b line after e h = ap (λ t. take (length line) t) (e ∙ ap (λ t. t ++ after) (sym h)) ∙ take_at line after (length line) refl
