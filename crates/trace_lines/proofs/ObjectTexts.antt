-- A text in the form JSON tells the text of its trace in the plain form.
use Rattle.std.proofs.Common.{◌≡◌, ℕ, suc, Bool, true, false, List, [], ◌∷◌, ◌++◌, ap, append_assoc, codes, decimal, drop, get_or, refl, sym, ◌∙◌, arith}
use Rattle.std.proofs.lemmas.List.{append_cancel_left}
use Rattle.serde_json.specs.Written.{comma_if, compact_text}
use Rattle.dtx_model.specs.Traces.{Placed}
use Rattle.dtx_model.specs.TraceText.{entry_text, lines_from, place_text, trace_text}
use Rattle.line_tail.proofs.CutLemmas.{cut_same}
use Rattle.trace_lines.specs.Forms.{json_text, object_of, object_text}
use Rattle.trace_lines.proofs.Arrays.{objects_text, whole}
use Rattle.trace_lines.proofs.Plain.{entry_unquoted, object-written, place_unquoted}

-- what an object has from its entry on, with what follows it
abbrev from_entry : Placed → List ℕ → List ℕ
from_entry x after = entry_text x.1 ++ 34 ∷ 125 ∷ after

-- the same from its place on
abbrev from_place : ℕ → Placed → List ℕ → List ℕ
from_place n x after = place_text x.0 ++ 34 ∷ 44 ∷ 34 ∷ 110 ∷ 34 ∷ 58 ∷ (decimal n ++ 44 ∷ 34 ∷ 116 ∷ 101 ∷ 120 ∷ 116 ∷ 34 ∷ 58 ∷ 34 ∷ from_entry x after)

-- and from its first byte on
abbrev with_after : ℕ → Placed → List ℕ → List ℕ
with_after n x after = 123 ∷ 34 ∷ 97 ∷ 116 ∷ 34 ∷ 58 ∷ 34 ∷ from_place n x after

-- which is how it stands before what follows it
object-append : (n : ℕ) (x : Placed) (after : List ℕ) → compact_text (object_of n x) ++ after ≡ with_after n x after
object-append n x after =
    let regrouped : object_text n x ++ after ≡ with_after n x after = simp append_assoc in
    ap (λ (t : List ℕ). t ++ after) (object-written n x) ∙ regrouped

-- where an array ends no object comes
ends : (later : Bool) (n : ℕ) (x : Placed) (T : List Placed) (r s : List ℕ) → 93 ∷ r ≡ objects_text later n (x ∷ T) ++ s → ⊥
ends true n x T r s e = omega (arith, ap (λ (t : List ℕ). get_or t 0 0) e)
ends false n x T r s e = omega (arith, ap (λ (t : List ℕ). get_or t 0 0) e)

-- what follows an array's objects stands after what follows the first of them
first-append : (later : Bool) (n : ℕ) (x : Placed) (T : List Placed) (s : List ℕ) → objects_text later n (x ∷ T) ++ s ≡ comma_if later ++ with_after n x (objects_text true (suc n) T ++ s)
first-append later n x T s =
    append_assoc (comma_if later) (compact_text (object_of n x) ++ objects_text true (suc n) T) s
    ∙ ap (λ (t : List ℕ). comma_if later ++ t) (append_assoc (compact_text (object_of n x)) (objects_text true (suc n) T) s ∙ object-append n x (objects_text true (suc n) T ++ s))

-- two objects of one number at the front of one text have one place and one entry, and are followed by one text
record AreAlike (x y : Placed) (r s : List ℕ) : Type 0 where
  place : place_text x.0 ≡ place_text y.0
  entry : entry_text x.1 ≡ entry_text y.1
  after : r ≡ s

alike : (n : ℕ) (x y : Placed) (r s : List ℕ) → with_after n x r ≡ with_after n y s → AreAlike x y r s
alike n x y r s e =
    let first = cut_same 34 (place_text x.0) (place_text y.0) _ _ (place_unquoted x.0) (place_unquoted y.0) (ap (λ (t : List ℕ). drop 7 t) e) in
    let numbered = append_cancel_left (decimal n) _ _ (ap (λ (t : List ℕ). drop 5 t) first.1) in
    let last = cut_same 34 (entry_text x.1) (entry_text y.1) _ _ (entry_unquoted x.1) (entry_unquoted y.1) (ap (λ (t : List ℕ). drop 9 t) numbered) in
    record { place = first.0; entry = last.0; after = ap (λ (t : List ℕ). drop 1 t) last.1 }

-- so two arrays that are one text have one text of lines
objects_tell : (later : Bool) (n : ℕ) (S T : List Placed) (r s : List ℕ) → objects_text later n S ++ 93 ∷ r ≡ objects_text later n T ++ 93 ∷ s → lines_from n S ≡ lines_from n T
objects_tell later n [] [] r s e = refl
objects_tell later n [] (y ∷ T) r s e = absurd (ends later n y T r (93 ∷ s) e)
objects_tell later n (x ∷ S) [] r s e = absurd (ends later n x S s (93 ∷ r) (sym e))
objects_tell later n (x ∷ S) (y ∷ T) r s e =
    let front = append_cancel_left (comma_if later) _ _ (sym (first-append later n x S (93 ∷ r)) ∙ e ∙ first-append later n y T (93 ∷ s)) in
    let k = alike n x y (objects_text true (suc n) S ++ 93 ∷ r) (objects_text true (suc n) T ++ 93 ∷ s) front in
    let rest = objects_tell true (suc n) S T r s k.after in
    λ j. (decimal n ++ codes " " ++ k.place j ++ codes " " ++ k.entry j ++ 10 ∷ []) ++ rest j

-- and two traces that are one text in the form JSON are one in the plain form
pub json_plain : (S T : List Placed) → json_text S ≡ json_text T → trace_text S ≡ trace_text T
unfolding json_text trace_text
json_plain S T e = objects_tell false 1 S T (10 ∷ []) (10 ∷ []) (ap (λ (t : List ℕ). drop 1 t) (whole S ∙ e ∙ sym (whole T)))
