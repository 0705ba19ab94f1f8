-- A file of zeros after its head holds nothing.
use Rattle.std.specs.Prelude.{replicate}
use Rattle.std.proofs.Common.{◌≡◌, ℕ, zero, suc, ◌-◌, ◌+◌, ◌*◌, ◌≤◌, List, [], ◌∷◌, ◌++◌, length, get_or, take, drop, map, Option, Result, Ok, Some, None, refl, sym, ap, ◌∙◌, arith, append_assoc}
use Rattle.std.proofs.lemmas.List.{take_at, drop_at, drop-append-le, drop-replicate, length-replicate, get_or-take, get_or_append_left, get_or-replicate}
use Rattle.outside.specs.Disk.{overwritten}
use Rattle.slotted.specs.Slotted.{IsBlank, SlotRead, formed, gated, held_in, slots_by}
use Rattle.slotted.proofs.SlotWrites.{ReadsSlots, closed_slot}

-- a head that was written over zeros
pub blank_made : (b0 b1 b3 z w : List ℕ) → z ≡ replicate (length z) 0 → length z ≡ 524800 → length w ≡ 512 → b1 ≡ overwritten b0 0 z → b3 ≡ overwritten b1 0 w → IsBlank w b3
blank_made b0 b1 b3 z w zeros many long p1 p3 =
    let rest = drop (length z) b0 in
    let rest_is : drop (0 + length z) b0 ≡ rest = ap (λ (n : ℕ). drop n b0) (omega arith) in
    let b1_is : b1 ≡ replicate (length z) 0 ++ rest = p1 ∙ ap (λ (l : List ℕ). z ++ l) rest_is ∙ ap (λ (l : List ℕ). l ++ rest) zeros in
    let at : 0 + length w ≡ 512 = omega arith in
    let w_is : drop (0 + length w) b1 ≡ drop 512 b1 = ap (λ (n : ℕ). drop n b1) at in
    let back : drop 512 b1 ≡ replicate (length z - 512) 0 ++ rest =
    ap (drop 512) b1_is ∙ drop-append-le 512 (replicate (length z) 0) rest (omega (arith, length-replicate {A = ℕ} (length z) 0)) ∙ ap (λ (l : List ℕ). l ++ rest) (drop-replicate 512 (length z) 0) in
    record {
      zeros = length z - 512;
      rest = rest;
      many = omega arith;
      is = p3 ∙ ap (λ (l : List ℕ). w ++ l) (w_is ∙ back) ∙ sym (append_assoc w (replicate (length z - 512) 0) rest);
    }

-- its first 512 bytes are the head
pub blank_head : (w b : List ℕ) → length w ≡ 512 → IsBlank w b → take 512 b ≡ w
blank_head w b long blank = ap (take 512) (blank.is ∙ append_assoc w (replicate blank.zeros 0) blank.rest) ∙ take_at w (replicate blank.zeros 0 ++ blank.rest) 512 long

module _ {A : Type 0} {body : List ℕ → Result A ℕ} {slots_of : List ℕ → List (SlotRead A)} (reads : ReadsSlots body slots_of) where
  -- slots of zeros hold nothing
  slots_zero : (n m : ℕ) (rest : List ℕ) → 512 * n ≤ m → slots_by (gated body) n (replicate m 0 ++ rest) ≡ replicate n (Ok None)
  unfolding slots_by
  slots_zero zero m rest le = refl
  slots_zero (suc n) m rest le =
      let z : List ℕ = replicate m 0 in
      let long : length z ≡ m = length-replicate m 0 in
      let first : get_or (take 512 (z ++ rest)) 0 0 ≡ 0 = get_or-take 512 (z ++ rest) 0 0 (omega arith) ∙ get_or_append_left z rest 0 0 (omega arith) ∙ get_or-replicate m 0 0 0 (omega arith) in
      let closed : gated body (take 512 (z ++ rest)) ≡ Ok None = closed_slot body (take 512 (z ++ rest)) (λ is. omega arith) in
      let next : drop 512 (z ++ rest) ≡ replicate (m - 512) 0 ++ rest = drop-append-le 512 z rest (omega arith) ∙ ap (λ (l : List ℕ). l ++ rest) (drop-replicate 512 m 0) in
      ap (λ (s : SlotRead A). s ∷ slots_by (gated body) n (drop 512 (z ++ rest))) closed ∙ ap (λ (l : List ℕ). Ok None ∷ slots_by (gated body) n l) next
      ∙ ap (λ (l : List (SlotRead A)). Ok None ∷ l) (slots_zero n (m - 512) rest (omega arith))

  -- the slots of a blank file are closed
  pub blank_slots : (w b : List ℕ) (n : ℕ) → length w ≡ 512 → n ≡ 1024 → IsBlank w b → slots_of b ≡ replicate n (Ok None)
  blank_slots w b n long e blank =
      let back : drop 512 b ≡ replicate blank.zeros 0 ++ blank.rest = ap (drop 512) (blank.is ∙ append_assoc w (replicate blank.zeros 0) blank.rest) ∙ drop_at w (replicate blank.zeros 0 ++ blank.rest) 512 long in
      reads.each b ∙ ap (λ (k : ℕ). slots_by (gated body) k (drop 512 b)) (sym e) ∙ ap (slots_by (gated body) n) back ∙ slots_zero n blank.zeros blank.rest (let many = blank.many in omega arith)

-- slots in memory that hold nothing are closed
pub all_closed : {A : Type 0} (vs : List (Option A)) → held_in vs ≡ [] → map formed vs ≡ replicate (length vs) (Ok None)
all_closed [] e = refl
all_closed (None ∷ vs) e = ap (λ (l : List (SlotRead _)). Ok None ∷ l) (all_closed vs e)
all_closed (Some r ∷ vs) e = absurd cc
