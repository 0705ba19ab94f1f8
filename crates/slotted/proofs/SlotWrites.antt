-- What a write into one slot of a slotted file leaves, whatever reads the bytes after a gate.
use Rattle.std.proofs.Common.{◌≡◌, ◌⊎◌, inl, inr, ℕ, zero, suc, ◌-◌, ◌+◌, ◌*◌, ◌≤◌, ◌<◌, false, eqb, List, [], ◌∷◌, ◌++◌, length, get_or, take, drop, set, Result, Ok, Err, Some, None, refl, sym, ap, subst, ◌∙◌, append_assoc, arith}
use Rattle.std.proofs.lemmas.Bool.{cases_eq}
use Rattle.std.proofs.lemmas.Bool.Decides.{nat_tests}
use Rattle.std.proofs.lemmas.List.{take-take, drop-drop, drop-take, get_or-take, get_or-drop, get_or-set_same, set-get_or, get_or_at, take_at, drop_at, length-take}
use Rattle.outside.specs.Disk.{overwritten, IsTorn, Follows, IsOnly}
use Rattle.outside.proofs.Writing.{IsTorn-overwritten}
use Rattle.dtx_model.specs.Log.{◌>>=◌}
use Rattle.slotted.specs.Slotted.{HasSlotsBy, IsEitherBy, IsSlotBy, SlotRead, gated, slots_by}

-- lists that begin alike begin alike for less
take_less : (m n : ℕ) (c b : List ℕ) → m ≤ n → take n c ≡ take n b → take m c ≡ take m b
take_less m n c b le e = sym (take-take m n c le) ∙ ap (take m) e ∙ take-take m n b le

-- lists that end alike end alike for less
pub drop_less : (m n : ℕ) (c b : List ℕ) → m ≤ n → drop m c ≡ drop m b → drop n c ≡ drop n b
drop_less m n c b le e =
    let k : m + (n - m) ≡ n = omega arith in
    ap (λ (j : ℕ). drop j c) (sym k) ∙ sym (drop-drop (n - m) m c) ∙ ap (drop (n - m)) e ∙ drop-drop (n - m) m b ∙ ap (λ (j : ℕ). drop j b) k

-- ---- the bytes of a slot

-- the bytes of slot k
abbrev pub slot : ℕ → List ℕ → List ℕ
slot k b = take 512 (drop (512 + 512 * k) b)

-- where the gate of slot k stands
gate_of : (k : ℕ) (b : List ℕ) → get_or (slot k b) 0 0 ≡ get_or b (512 + 512 * k) 0
gate_of k b = get_or-take 512 (drop (512 + 512 * k) b) 0 0 (omega arith) ∙ get_or-drop (512 + 512 * k) b 0 0 ∙ ap (λ (j : ℕ). get_or b j 0) (omega arith)

-- where the rest of slot k stands
rest_of : (k : ℕ) (b : List ℕ) → drop 1 (slot k b) ≡ take 511 (drop (513 + 512 * k) b)
rest_of k b = drop-take 1 511 (drop (512 + 512 * k) b) ∙ ap (take 511) (drop-drop 1 (512 + 512 * k) b ∙ ap (λ (j : ℕ). drop j b) (omega arith))

-- a gate stays where the bytes up to it stay
gate_kept : (k : ℕ) (b c : List ℕ) → take (513 + 512 * k) c ≡ take (513 + 512 * k) b → get_or (slot k c) 0 0 ≡ get_or (slot k b) 0 0
gate_kept k b c e =
    gate_of k c ∙ sym (get_or-take (513 + 512 * k) c (512 + 512 * k) 0 (omega arith)) ∙ ap (λ (x : List ℕ). get_or x (512 + 512 * k) 0) e
    ∙ get_or-take (513 + 512 * k) b (512 + 512 * k) 0 (omega arith) ∙ sym (gate_of k b)

-- a byte that was written over a gate is the gate
gate_put : (gate k at : ℕ) (b c : List ℕ) → at ≡ 512 + 512 * k → c ≡ overwritten b at (gate ∷ []) → at + 1 ≤ length b → get_or (slot k c) 0 0 ≡ gate
gate_put gate k at b c a written_is room =
    let here : length (take at b) ≡ at = omega (arith, length-take at b) in
    gate_of k c ∙ ap (λ (j : ℕ). get_or c j 0) (sym a) ∙ ap (λ (x : List ℕ). get_or x at 0) (written_is ∙ append_assoc (take at b) (gate ∷ []) (drop (at + 1) b)) ∙ get_or_at (take at b) gate (drop (at + 1) b) 0 at here

-- the bytes of slot k but for its last
front_of : (k : ℕ) (b : List ℕ) → take 511 (slot k b) ≡ drop (512 + 512 * k) (take (1023 + 512 * k) b)
front_of k b = take-take 511 512 (drop (512 + 512 * k) b) (omega arith) ∙ sym (drop-take (512 + 512 * k) 511 b) ∙ ap (λ (j : ℕ). drop (512 + 512 * k) (take j b)) (omega arith)

-- the last byte of slot k
pub last_of : (k : ℕ) (b : List ℕ) → get_or (slot k b) 511 0 ≡ get_or b (1023 + 512 * k) 0
last_of k b = get_or-take 512 (drop (512 + 512 * k) b) 511 0 (omega arith) ∙ get_or-drop (512 + 512 * k) b 511 0 ∙ ap (λ (j : ℕ). get_or b j 0) (omega arith)

-- a byte that was written over the last of slot k is the last
pub last_put : (x k at : ℕ) (b c : List ℕ) → at ≡ 1023 + 512 * k → c ≡ overwritten b at (x ∷ []) → at + 1 ≤ length b → get_or (slot k c) 511 0 ≡ x
last_put x k at b c a written_is room =
    let here : length (take at b) ≡ at = omega (arith, length-take at b) in
    last_of k c ∙ ap (λ (j : ℕ). get_or c j 0) (sym a) ∙ ap (λ (l : List ℕ). get_or l at 0) (written_is ∙ append_assoc (take at b) (x ∷ []) (drop (at + 1) b)) ∙ get_or_at (take at b) x (drop (at + 1) b) 0 at here

-- ---- writes over bytes that a crash leaves alone

-- a torn write over bytes that a crash leaves alone
pub from_only : (at n : ℕ) (b : List ℕ) (old new : List ℕ → Type 0) → IsOnly b old → Follows (IsTorn at n) old new → (c : List ℕ) → new c → IsTorn at n b c
from_only at n b old new only follows c left = let from = follows c left in subst (λ (d : List ℕ). IsTorn at n d c) (only from.0 from.1) from.2

-- bytes that were written are at their place
overwritten_holds : (b bytes : List ℕ) (at : ℕ) → at ≤ length b → length bytes ≡ 511 → take 511 (drop at (overwritten b at bytes)) ≡ bytes
overwritten_holds b bytes at room long =
    let rest = drop (at + length bytes) b in
    ap (λ (x : List ℕ). take 511 (drop at x)) (append_assoc (take at b) bytes rest) ∙ ap (take 511) (drop_at (take at b) (bytes ++ rest) at (omega (arith, length-take at b))) ∙ take_at bytes rest 511 long

-- ---- slots, one behind the other

module _ {A : Type 0} (f : List ℕ → SlotRead A) where
  -- only slot k differs
  slots_torn : (n k : ℕ) (b c : List ℕ) → k < n → take (512 * k) c ≡ take (512 * k) b → drop (512 * k + 512) c ≡ drop (512 * k + 512) b → slots_by f n c ≡ set (slots_by f n b) k (f (take 512 (drop (512 * k) c)))
  unfolding slots_by
  slots_torn zero k b c lt front_is r = absurd (omega arith)
  slots_torn (suc n) zero b c lt front_is r = ap (λ (x : List ℕ). f (take 512 c) ∷ slots_by f n x) r
  slots_torn (suc n) (suc k) b c lt front_is r =
      let a : 512 + 512 * k ≡ 512 * suc k = omega arith in
      let z : 512 + (512 * k + 512) ≡ 512 * suc k + 512 = omega arith in
      let h : take 512 c ≡ take 512 b = take_less 512 (512 * suc k) c b (omega arith) front_is in
      let front : take (512 * k) (drop 512 c) ≡ take (512 * k) (drop 512 b) = sym (drop-take 512 (512 * k) c) ∙ ap (λ (j : ℕ). drop 512 (take j c)) a ∙ ap (drop 512) front_is ∙ ap (λ (j : ℕ). drop 512 (take j b)) (sym a) ∙ drop-take 512 (512 * k) b in
      let back : drop (512 * k + 512) (drop 512 c) ≡ drop (512 * k + 512) (drop 512 b) = drop-drop (512 * k + 512) 512 c ∙ ap (λ (j : ℕ). drop j c) z ∙ r ∙ ap (λ (j : ℕ). drop j b) (sym z) ∙ sym (drop-drop (512 * k + 512) 512 b) in
      let here : drop (512 * k) (drop 512 c) ≡ drop (512 * suc k) c = drop-drop (512 * k) 512 c ∙ ap (λ (j : ℕ). drop j c) a in
      let rest = slots_torn n k (drop 512 b) (drop 512 c) (omega arith) front back in
      ap (λ (x : List ℕ). f x ∷ slots_by f n (drop 512 c)) h ∙ ap (λ (x : List (SlotRead A)). f (take 512 b) ∷ x) (rest ∙ ap (λ (x : List ℕ). set (slots_by f n (drop 512 b)) k (f (take 512 x))) here)

  -- as many slots as are read
  length-slots : (n : ℕ) (b : List ℕ) → length (slots_by f n b) ≡ n
  unfolding slots_by
  length-slots zero b = refl
  length-slots (suc n) b = let h = length-slots n (drop 512 b) in omega arith

-- ---- gates

module _ {A : Type 0} (body : List ℕ → Result A ℕ) where
  -- a slot whose gate is not 1 holds none
  pub closed_slot : (s : List ℕ) → (get_or s 0 0 ≡ 1 → ⊥) → gated body s ≡ Ok None
  closed_slot s closed = let test : eqb (get_or s 0 0) 1 ≡ false = grind (arith, nat_tests) in rw test refl

  -- a slot whose gate is 1 holds what is read behind it
  pub open_slot : (s : List ℕ) → get_or s 0 0 ≡ 1 → gated body s ≡ (body (drop 1 s) >>= λ r. Ok (Some r))
  open_slot s is = rw is refl

  -- what is read behind an open gate is no closed gate
  not_closed : (x : Result A ℕ) → (x >>= λ r. Ok (Some r)) ≡ Ok None → ⊥
  not_closed (Ok r) e = absurd cc
  not_closed (Err p) e = absurd cc

  -- the gate of a slot that holds none is not 1
  gate_closed : (s : List ℕ) → gated body s ≡ Ok None → get_or s 0 0 ≡ 1 → ⊥
  gate_closed s e is = not_closed (body (drop 1 s)) (sym (open_slot s is) ∙ e)

  -- the gate of a slot that holds a record is 1
  pub gate_open : (s : List ℕ) (r : A) → gated body s ≡ Ok (Some r) → get_or s 0 0 ≡ 1
  gate_open s r e = elim (cases_eq (get_or s 0 0) 1) [ inl is ↦ is | inr not ↦ let closed = closed_slot s not in absurd (cc (closed, e)) ]

  -- what is read behind an open gate is the record that the slot holds
  opened : (x : Result A ℕ) (r : A) → (x >>= λ r. Ok (Some r)) ≡ Ok (Some r) → x ≡ Ok r
  opened (Ok q) r e = cc
  opened (Err p) r e = absurd cc

-- ---- what has the slots that are wanted

module _ {A : Type 0} {slots_of : List ℕ → List (SlotRead A)} where
  -- nothing was changed
  pub same_bytes : (b c : List ℕ) → c ≡ b → HasSlotsBy slots_of b (slots_of b) c
  same_bytes b c e = record { same_head = ap (take 512) e; slots = ap slots_of e }

  -- two steps
  pub then_same : (b b1 c : List ℕ) (s : List (SlotRead A)) → HasSlotsBy slots_of b (slots_of b) b1 → HasSlotsBy slots_of b1 s c → HasSlotsBy slots_of b s c
  then_same b b1 c s x y = record { same_head = y.same_head ∙ x.same_head; slots = y.slots }

  -- what has these slots has them along an equation
  pub along : (b c d : List ℕ) (s : List (SlotRead A)) → d ≡ c → HasSlotsBy slots_of b s c → HasSlotsBy slots_of b s d
  along b c d s e has = record { same_head = ap (take 512) e ∙ has.same_head; slots = ap slots_of e ∙ has.slots }

-- a reader of the slots of a file, of which `body` reads what comes after an open gate
pub record ReadsSlots {A : Type 0} (body : List ℕ → Result A ℕ) (slots_of : List ℕ → List (SlotRead A)) : Type 0 where
  pub each : (b : List ℕ) → slots_of b ≡ slots_by (gated body) 1024 (drop 512 b)

-- a record was written behind the closed gate of slot k, and nothing else changed
pub record IsBehindBy {A : Type 0} (body : List ℕ → Result A ℕ) (slots_of : List ℕ → List (SlotRead A)) (k : ℕ) (r : A) (b b1 : List ℕ) : Type 0 where
  pub same : HasSlotsBy slots_of b (slots_of b) b1
  pub holds : body (take 511 (drop (513 + 512 * k) b1)) ≡ Ok r

module _ {A : Type 0} {body : List ℕ → Result A ℕ} {slots_of : List ℕ → List (SlotRead A)} (reads : ReadsSlots body slots_of) where
  -- where only the bytes of slot k differ, only slot k differs
  only_slot : (k : ℕ) (b c : List ℕ) → k < 1024 → take (512 + 512 * k) c ≡ take (512 + 512 * k) b → drop (1024 + 512 * k) c ≡ drop (1024 + 512 * k) b → HasSlotsBy slots_of b (set (slots_of b) k (gated body (slot k c))) c
  only_slot k b c lt f r =
      let z : 512 + (512 * k + 512) ≡ 1024 + 512 * k = omega arith in
      let front : take (512 * k) (drop 512 c) ≡ take (512 * k) (drop 512 b) = sym (drop-take 512 (512 * k) c) ∙ ap (drop 512) f ∙ drop-take 512 (512 * k) b in
      let back : drop (512 * k + 512) (drop 512 c) ≡ drop (512 * k + 512) (drop 512 b) = drop-drop (512 * k + 512) 512 c ∙ ap (λ (j : ℕ). drop j c) z ∙ r ∙ ap (λ (j : ℕ). drop j b) (sym z) ∙ sym (drop-drop (512 * k + 512) 512 b) in
      record {
        same_head = take_less 512 (512 + 512 * k) c b (omega arith) f;
        slots = reads.each c ∙ slots_torn (gated body) 1024 k (drop 512 b) (drop 512 c) lt front back ∙ ap (λ (x : List ℕ). set (slots_by (gated body) 1024 (drop 512 b)) k (gated body (take 512 x))) (drop-drop (512 * k) 512 c)
            ∙ ap (λ (x : List (SlotRead A)). set x k (gated body (slot k c))) (sym (reads.each b));
      }

  -- slot k is one of the slots
  pub slots_long : (k : ℕ) (b : List ℕ) → k < 1024 → k < length (slots_of b)
  slots_long k b lt = omega (arith, ap length (reads.each b), length-slots (gated body) 1024 (drop 512 b))

  -- what slot k of the list stands for
  pub slot_is : (k : ℕ) (b : List ℕ) → k < 1024 → get_or (slots_of b) k (Err 0) ≡ gated body (slot k b)
  slot_is k b lt =
      let same = only_slot k b b lt refl refl in
      ap (λ (x : List (SlotRead A)). get_or x k (Err 0)) same.slots ∙ get_or-set_same (slots_of b) k (gated body (slot k b)) (Err 0) (slots_long k b lt)

  -- a file has 1,024 slots
  pub length-slots_of : (b : List ℕ) → length (slots_of b) ≡ 1024
  length-slots_of b = ap length (reads.each b) ∙ length-slots (gated body) 1024 (drop 512 b)

  -- a slot that is set to what it holds changes nothing
  pub set_same : (k : ℕ) (b : List ℕ) (s : SlotRead A) → get_or (slots_of b) k (Err 0) ≡ s → set (slots_of b) k s ≡ slots_of b
  set_same k b s e = ap (set (slots_of b) k) (sym e) ∙ set-get_or (slots_of b) k (Err 0)

  -- behind a closed gate any bytes may stand
  pub body_torn : (k : ℕ) (b c : List ℕ) → k < 1024 → IsSlotBy slots_of k (Ok None) b → IsTorn (513 + 512 * k) 511 b c → HasSlotsBy slots_of b (slots_of b) c × (gated body (slot k c) ≡ Ok None)
  body_torn k b c lt closed torn =
      let has = only_slot k b c lt (take_less (512 + 512 * k) (513 + 512 * k) c b (omega arith) torn.before) (drop_less (513 + 512 * k + 511) (1024 + 512 * k) c b (omega arith) torn.after) in
      let was = sym (slot_is k b lt) ∙ closed in
      let still : gated body (slot k c) ≡ Ok None = closed_slot body (slot k c) (λ is. gate_closed body (slot k b) was (sym (gate_kept k b c torn.before) ∙ is)) in
      (record { same_head = has.same_head; slots = has.slots ∙ ap (set (slots_of b) k) still ∙ set_same k b (Ok None) closed }, still)

  -- a gate that is torn is closed or open, over what stands behind it
  gate_torn : (k : ℕ) (b c : List ℕ) (r : A) → k < 1024 → body (take 511 (drop (513 + 512 * k) b)) ≡ Ok r → IsTorn (512 + 512 * k) 1 b c
      → HasSlotsBy slots_of b (set (slots_of b) k (Ok None)) c ⊎ HasSlotsBy slots_of b (set (slots_of b) k (Ok (Some r))) c
  gate_torn k b c r lt holds torn =
      let has = only_slot k b c lt torn.before (drop_less (512 + 512 * k + 1) (1024 + 512 * k) c b (omega arith) torn.after) in
      let behind : drop (513 + 512 * k) c ≡ drop (513 + 512 * k) b = drop_less (512 + 512 * k + 1) (513 + 512 * k) c b (omega arith) torn.after in
      let rest : body (drop 1 (slot k c)) ≡ Ok r = ap body (rest_of k c ∙ ap (take 511) behind) ∙ holds in
      elim (cases_eq (get_or (slot k c) 0 0) 1) [
        | inl is ↦ let found : gated body (slot k c) ≡ Ok (Some r) = open_slot body (slot k c) is ∙ ap (λ (x : Result A ℕ). x >>= λ r. Ok (Some r)) rest in
            inr (record { same_head = has.same_head; slots = has.slots ∙ ap (set (slots_of b) k) found })
        | inr not ↦ inl (record { same_head = has.same_head; slots = has.slots ∙ ap (set (slots_of b) k) (closed_slot body (slot k c) not) })
      ]

  -- while the body is written the slots stay
  pub body_stage : (k at n : ℕ) (b : List ℕ) (old new : List ℕ → Type 0) → k < 1024 → at ≡ 513 + 512 * k → n ≡ 511 → IsSlotBy slots_of k (Ok None) b → IsOnly b old → Follows (IsTorn at n) old new
      → (c : List ℕ) → new c → HasSlotsBy slots_of b (slots_of b) c
  body_stage k at n b old new lt a m closed only follows c left =
      let torn = from_only at n b old new only follows c left in
      (body_torn k b c lt closed (subst (λ (j : ℕ). IsTorn j 511 b c) a (subst (λ (j : ℕ). IsTorn at j b c) m torn))).0

  -- once a record's bytes are written behind a closed gate, the record is there
  pub written_behind : (k at : ℕ) (b b1 bytes : List ℕ) (r : A) → k < 1024 → at ≡ 513 + 512 * k → IsSlotBy slots_of k (Ok None) b → 524800 ≤ length b → b1 ≡ overwritten b at bytes
      → length bytes ≡ 511 → body bytes ≡ Ok r → IsBehindBy body slots_of k r b b1
  written_behind k at b b1 bytes r lt a closed room is long again =
      let is_at : b1 ≡ overwritten b (513 + 512 * k) bytes = is ∙ ap (λ (j : ℕ). overwritten b j bytes) a in
      record {
        same = (body_torn k b b1 lt closed (IsTorn-overwritten b (513 + 512 * k) 511 bytes b1 is_at long (omega arith))).0;
        holds = ap body (ap (λ (x : List ℕ). take 511 (drop (513 + 512 * k) x)) is_at ∙ overwritten_holds b bytes (513 + 512 * k) (omega arith) long) ∙ again;
      }

  -- a record's bytes that are written behind a gate change no more than these
  pub torn_at : (k at : ℕ) (b c bytes : List ℕ) → k < 1024 → at ≡ 513 + 512 * k → 524800 ≤ length b → length bytes ≡ 511 → c ≡ overwritten b at bytes → IsTorn (513 + 512 * k) 511 b c
  torn_at k at b c bytes lt a room long is = IsTorn-overwritten b (513 + 512 * k) 511 bytes c (is ∙ ap (λ (j : ℕ). overwritten b j bytes) a) long (omega arith)

  module _ (k : ℕ) (lt : k < 1024) (b b1 : List ℕ) (r : A) (closed : IsSlotBy slots_of k (Ok None) b) (behind : IsBehindBy body slots_of k r b b1) where
    -- while the gate is written the slot is as before, or holds the record
    pub gate_stage : (at : ℕ) (old new : List ℕ → Type 0) → at ≡ 512 + 512 * k → IsOnly b1 old → Follows (IsTorn at 1) old new → (c : List ℕ) → new c → IsEitherBy slots_of b k (Ok (Some r)) c
    gate_stage at old new a only follows c left =
        let torn = subst (λ (j : ℕ). IsTorn j 1 b1 c) a (from_only at 1 b1 old new only follows c left) in
        elim (gate_torn k b1 c r lt behind.holds torn) [
          | inl no_gate ↦ inl (then_same b b1 c (slots_of b) behind.same (record { same_head = no_gate.same_head; slots = no_gate.slots ∙ ap (λ (x : List (SlotRead A)). set x k (Ok None)) behind.same.slots ∙ set_same k b (Ok None) closed }))
          | inr gate ↦ inr (then_same b b1 c (set (slots_of b) k (Ok (Some r))) behind.same (record { same_head = gate.same_head; slots = gate.slots ∙ ap (λ (x : List (SlotRead A)). set x k (Ok (Some r))) behind.same.slots }))
        ]

    -- once the gate is written the slot holds the record
    pub done_stage : (at : ℕ) (c : List ℕ) → at ≡ 512 + 512 * k → c ≡ overwritten b1 at (1 ∷ []) → at + 1 ≤ length b1 → HasSlotsBy slots_of b (set (slots_of b) k (Ok (Some r))) c
    done_stage at c a written_is room =
        let torn = subst (λ (j : ℕ). IsTorn j 1 b1 c) a (IsTorn-overwritten b1 at 1 (1 ∷ []) c written_is refl room) in
        let has = only_slot k b1 c lt torn.before (drop_less (512 + 512 * k + 1) (1024 + 512 * k) c b1 (omega arith) torn.after) in
        let after : drop (513 + 512 * k) c ≡ drop (513 + 512 * k) b1 = drop_less (512 + 512 * k + 1) (513 + 512 * k) c b1 (omega arith) torn.after in
        let rest : body (drop 1 (slot k c)) ≡ Ok r = ap body (rest_of k c ∙ ap (take 511) after) ∙ behind.holds in
        let found : gated body (slot k c) ≡ Ok (Some r) = open_slot body (slot k c) (gate_put 1 k at b1 c a written_is room) ∙ ap (λ (x : Result A ℕ). x >>= λ r. Ok (Some r)) rest in
        then_same b b1 c (set (slots_of b) k (Ok (Some r))) behind.same (record { same_head = has.same_head; slots = has.slots ∙ ap (set (slots_of b1) k) found ∙ ap (λ (x : List (SlotRead A)). set x k (Ok (Some r))) behind.same.slots })

  -- while the gate is closed the slot is as before, or holds none
  pub clear_stage : (k at : ℕ) (b : List ℕ) (old new : List ℕ → Type 0) → k < 1024 → at ≡ 512 + 512 * k → ((r : A) × IsSlotBy slots_of k (Ok (Some r)) b) → IsOnly b old → Follows (IsTorn at 1) old new → (c : List ℕ) → new c → IsEitherBy slots_of b k (Ok None) c
  clear_stage k at b old new lt a open_at only follows c left =
      let r = open_at.0 in
      let was : gated body (slot k b) ≡ Ok (Some r) = sym (slot_is k b lt) ∙ open_at.1 in
      let gate = gate_open body (slot k b) r was in
      let holds : body (take 511 (drop (513 + 512 * k) b)) ≡ Ok r = ap body (sym (rest_of k b)) ∙ opened body (body (drop 1 (slot k b))) r (sym (open_slot body (slot k b) gate) ∙ was) in
      let torn = subst (λ (j : ℕ). IsTorn j 1 b c) a (from_only at 1 b old new only follows c left) in
      elim (gate_torn k b c r lt holds torn) [
        | inl no_gate ↦ inr no_gate
        | inr yes_gate ↦ inl (record { same_head = yes_gate.same_head; slots = yes_gate.slots ∙ set_same k b (Ok (Some r)) open_at.1 })
      ]

  -- once any byte but 1 is the gate the slot holds none
  pub shut_stage : (gate k at : ℕ) (b c : List ℕ) → (gate ≡ 1 → ⊥) → k < 1024 → at ≡ 512 + 512 * k → c ≡ overwritten b at (gate ∷ []) → at + 1 ≤ length b → HasSlotsBy slots_of b (set (slots_of b) k (Ok None)) c
  shut_stage gate k at b c not lt a written_is room =
      let torn = subst (λ (j : ℕ). IsTorn j 1 b c) a (IsTorn-overwritten b at 1 (gate ∷ []) c written_is refl room) in
      let has = only_slot k b c lt torn.before (drop_less (512 + 512 * k + 1) (1024 + 512 * k) c b (omega arith) torn.after) in
      record { same_head = has.same_head; slots = has.slots ∙ ap (set (slots_of b) k) (closed_slot body (slot k c) (λ is. not (sym (gate_put gate k at b c a written_is room) ∙ is))) }

  -- once the gate is closed the slot holds none
  pub cleared_stage : (k at : ℕ) (b c : List ℕ) → k < 1024 → at ≡ 512 + 512 * k → c ≡ overwritten b at (0 ∷ []) → at + 1 ≤ length b → HasSlotsBy slots_of b (set (slots_of b) k (Ok None)) c
  cleared_stage k at b c lt a written_is room = shut_stage 0 k at b c (λ is. omega arith) lt a written_is room

  -- ---- the last byte of a slot

  -- where at most the last byte of slot k changed, slot k alone is read anew, and the rest of its bytes stay
  pub last_torn : (k : ℕ) (b c : List ℕ) → k < 1024 → IsTorn (1023 + 512 * k) 1 b c → HasSlotsBy slots_of b (set (slots_of b) k (gated body (slot k c))) c × (take 511 (slot k c) ≡ take 511 (slot k b))
  last_torn k b c lt torn = (
    only_slot k b c lt (take_less (512 + 512 * k) (1023 + 512 * k) c b (omega arith) torn.before) (drop_less (1023 + 512 * k + 1) (1024 + 512 * k) c b (omega arith) torn.after),
    front_of k c ∙ ap (drop (512 + 512 * k)) torn.before ∙ sym (front_of k b),
  )
