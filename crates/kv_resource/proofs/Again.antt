-- What was written of a record is read again.
use Rattle.std.proofs.Common.{◌≡◌, ℕ, ◌-◌, ◌+◌, ◌*◌, ◌≤◌, ◌<◌, true, false, get_or, List, [], ◌∷◌, ◌++◌, length, take, drop, Option, Some, None, Ok, refl, sym, ap, ◌∙◌, append_assoc, arith}
use Rattle.std.specs.Prelude.{replicate}
use Rattle.std.specs.Int.{w32, to_le_bytes}
use Rattle.std.specs.List.{flat_map}
use Rattle.std.proofs.lemmas.Bool.Decides.{nat_tests}
use Rattle.std.proofs.lemmas.List.{drop-take, drop_at, get_or-drop, length-append, length-replicate, take-append-drop, take-take, take_at}
use Rattle.std.proofs.lemmas.Nat.{from_le_bytes-to_le_bytes_2, from_le_bytes-to_le_bytes_4, from_le_bytes-to_le_bytes_8}
use Rattle.dtx_values.specs.TxIds.{number_in}
use Rattle.slotted.proofs.Heads.{whole_of, zeros_again}
use Rattle.slotted.proofs.SlotWrites.{drop_less}
use Rattle.kv_resource.specs.Bytes.{KvRecord, are_spelled, front_bytes, is_within, kv_record_at, number16, number32, number64, unmarked_at, unmarked_bytes, with_mark, write_bytes, writes_at}
use Rattle.kv_resource.proofs.Loops.{Writes}
use Rattle.kv_resource.proofs.Tables.{spelled_parts}

-- a write's bytes are read as this key and this value
key_again : (w : ℕ × ℕ) (z : List ℕ) → w.0 < 4294967296 → number32 (write_bytes w ++ z) ≡ w.0
unfolding number32
key_again w z fits = from_le_bytes-to_le_bytes_4 w.0 fits

value_again : (w : ℕ × ℕ) (z : List ℕ) → w.1 < 18446744073709551616 → number64 (drop 4 (write_bytes w ++ z)) ≡ w.1
unfolding number64
value_again w z fits = from_le_bytes-to_le_bytes_8 w.1 fits

-- and what stands behind it is left
after_write : (w : ℕ × ℕ) (z : List ℕ) → drop 12 (write_bytes w ++ z) ≡ z
after_write w z = refl

-- writes that are spelled are read as these, and what stands behind them is left
writes_again : (place : ℕ) (before : Option ℕ) (ws : Writes) (z : List ℕ) → are_spelled before ws ≡ true → writes_at (length ws) place before (flat_map write_bytes ws ++ z) ≡ Ok (ws, z)
unfolding writes_at
writes_again place before [] z e = refl
writes_again place before (w ∷ ws) z e =
    let p = spelled_parts before w ws e in
    let b = flat_map write_bytes ws in
    let split : (write_bytes w ++ b) ++ z ≡ write_bytes w ++ (b ++ z) = append_assoc (write_bytes w) b z in
    let kf : w.0 < 4294967296 = grind (arith, nat_tests, p.1) in
    let vf : w.1 < 18446744073709551616 = grind (arith, nat_tests, p.2) in
    rw (split, key_again w (b ++ z) kf, p.0, value_again w (b ++ z) vf, after_write w (b ++ z), writes_again (place + 12) (Some w.0) ws z p.3) refl

-- 12 bytes for each write
pub length-writes : (ws : Writes) → length (flat_map write_bytes ws) ≡ 12 * length ws
length-writes [] = refl
length-writes (w ∷ ws) = let h = length-writes ws in omega (arith, length-append (write_bytes w) (flat_map write_bytes ws))

-- the parts of a record's bytes: the format, the number of writes, the transaction, the enlistment, and the rest
format_again : (t : ℕ) (r : KvRecord) → get_or (unmarked_bytes t r) 0 0 ≡ 1
unfolding unmarked_bytes front_bytes
format_again t r = refl

count_again : (t : ℕ) (r : KvRecord) → length r.writes ≤ 40 → number16 (drop 1 (unmarked_bytes t r)) ≡ length r.writes
unfolding unmarked_bytes front_bytes number16
count_again t r few = from_le_bytes-to_le_bytes_2 (length r.writes) (omega arith)

transaction_again : (t : ℕ) (r : KvRecord) → t ≤ 256 → number32 (drop 3 (unmarked_bytes t r)) ≡ t
unfolding unmarked_bytes front_bytes number32
transaction_again t r few = from_le_bytes-to_le_bytes_4 t (omega arith)

enlistment_again : (t : ℕ) (r : KvRecord) → r.enlistment ≤ 9999 → number32 (drop 7 (unmarked_bytes t r)) ≡ r.enlistment
unfolding unmarked_bytes front_bytes number32
enlistment_again t r few = from_le_bytes-to_le_bytes_4 r.enlistment (omega arith)

rest_again : (t : ℕ) (r : KvRecord) → drop 11 (unmarked_bytes t r) ≡ flat_map write_bytes r.writes ++ replicate (495 - 12 * length r.writes) 0
unfolding unmarked_bytes front_bytes
rest_again t r = refl

-- a record that a slot can spell, where t is its transaction's number within this epoch
pub record IsFit (epoch t : ℕ) (r : KvRecord) : Type 0 where
  pub within : (1 ≤ t) × (t ≤ 256)
  pub epoch_fits : epoch < 4294967296
  pub number : r.transaction ≡ number_in epoch t
  pub enlistment : (1 ≤ r.enlistment) × (r.enlistment ≤ 9999)
  pub writes : (1 ≤ length r.writes) × (length r.writes ≤ 40)
  pub spelled : are_spelled None r.writes ≡ true

within : (most n : ℕ) → 1 ≤ n → n ≤ most → is_within most n ≡ true
within most n low high = grind (arith, nat_tests)

pub unmarked_again : (epoch t : ℕ) (r : KvRecord) → IsFit epoch t r → unmarked_at epoch (unmarked_bytes t r) ≡ Ok (with_mark false r)
unfolding unmarked_at
unmarked_again epoch t r fit =
    let n = length r.writes in
    let c = within 40 n fit.writes.0 fit.writes.1 in
    let w = within 256 t fit.within.0 fit.within.1 in
    let e = within 9999 r.enlistment fit.enlistment.0 fit.enlistment.1 in
    rw (
      format_again t r,
      count_again t r fit.writes.1,
      c,
      transaction_again t r fit.within.1,
      w,
      enlistment_again t r fit.enlistment.1,
      e,
      rest_again t r,
      writes_again 12 None r.writes (replicate (495 - 12 * n) 0) fit.spelled,
      zeros_again (12 + 12 * n) (495 - 12 * n),
      ← fit.number,
    ) refl

length-front : (t : ℕ) (r : KvRecord) → length (front_bytes t r) ≡ 11
unfolding front_bytes
length-front t r = refl

-- a record's bytes with its epoch and a mark of 0 behind them are read as the record without a mark
pub record_again : (epoch t : ℕ) (r : KvRecord) (b : List ℕ) → IsFit epoch t r
    → b ≡ (((front_bytes t r ++ flat_map write_bytes r.writes) ++ replicate (495 - 12 * length r.writes) 0) ++ to_le_bytes w32 epoch) ++ 0 ∷ [] → (kv_record_at b ≡ Ok (with_mark false r)) × (length b ≡ 511)
unfolding kv_record_at unmarked_bytes front_bytes number32
record_again epoch t r b fit is =
    let n = length r.writes in
    let few = fit.writes.1 in
    let f : List ℕ = front_bytes t r ++ flat_map write_bytes r.writes in
    let u : List ℕ = unmarked_bytes t r in
    let tail : List ℕ = to_le_bytes w32 epoch ++ 0 ∷ [] in
    let whole : b ≡ u ++ tail = is ∙ ap (λ (l : List ℕ). (l ++ to_le_bytes w32 epoch) ++ 0 ∷ []) (append_assoc (front_bytes t r) (flat_map write_bytes r.writes) (replicate (495 - 12 * n) 0)) ∙ append_assoc u (to_le_bytes w32 epoch) (0 ∷ []) in
    let long : length u ≡ 506 =
    omega (arith, length-append (front_bytes t r) (flat_map write_bytes r.writes ++ replicate (495 - 12 * n) 0), length-append (flat_map write_bytes r.writes) (replicate (495 - 12 * n) 0), length-writes r.writes, length-front t r, length-replicate {A = ℕ} (495 - 12 * n) 0) in
    let first : take 506 b ≡ u = ap (take 506) whole ∙ take_at u tail 506 long in
    let behind : drop 506 b ≡ tail = ap (drop 506) whole ∙ drop_at u tail 506 long in
    let of_epoch : number32 (drop 506 b) ≡ epoch = ap number32 behind ∙ from_le_bytes-to_le_bytes_4 epoch fit.epoch_fits in
    let last : get_or b 510 0 ≡ 0 = sym (get_or-drop 506 b 4 0) ∙ ap (λ (l : List ℕ). get_or l 4 0) behind in
    (rw (first, of_epoch, unmarked_again epoch t r fit, last) refl, ap length whole ∙ omega (arith, length-append u tail, long))

-- zeros behind a front, of which four bytes are written over
pub with_epoch : (f old new e : List ℕ) (k n : ℕ) → take k old ≡ f → drop k old ≡ drop k (replicate 511 0) → k + n ≡ 506 → take 510 new ≡ take 506 old ++ e → drop 510 new ≡ drop 510 old → new ≡ ((f ++ replicate n 0) ++ e) ++ 0 ∷ []
with_epoch f old new e k n front zeros whole written_is left =
    let first : take k (take 506 old) ≡ f = take-take k 506 old (omega arith) ∙ front in
    let cut : (l : List ℕ) → drop k (take 506 l) ≡ take n (drop k l) = λ l. ap (λ (j : ℕ). drop k (take j l)) (sym whole) ∙ drop-take k n l in
    let rest : drop k (take 506 old) ≡ drop k (replicate 506 0) = cut old ∙ ap (take n) zeros ∙ sym (cut (replicate 511 0)) in
    let before : take 506 old ≡ f ++ replicate n 0 = whole_of (take 506 old) f k n 506 first rest (omega arith) in
    let last : drop 510 new ≡ 0 ∷ [] = left ∙ drop_less k 510 old (replicate 511 0) (omega arith) zeros in
    sym (take-append-drop 510 new) ∙ (λ j. written_is j ++ last j) ∙ ap (λ (l : List ℕ). (l ++ e) ++ 0 ∷ []) before
