-- What a slotted file holds, by its slots in memory and by the slots that are read one after the other.
use Rattle.std.specs.Prelude.{is_ok, IsSome}
use Rattle.std.proofs.Common.{◌≡◌, ◌⊎◌, inl, inr, ℕ, zero, suc, ◌+◌, ◌*◌, ◌≤◌, ◌<◌, true, List, [], ◌∷◌, ◌++◌, length, get_or, take, set, map, Result, Ok, Err, Option, Some, None, refl, sym, ap, ◌∙◌, arith}
use Rattle.std.proofs.lemmas.List.{map-set, take_more, take_more_set, map_push, take_all}
use Rattle.outside.specs.Disk.{IsOnly}
use Rattle.dtx_model.specs.Log.{◌>>=◌, same_at}
use Rattle.slotted.specs.Slotted.{AgreesBy, HasSlotsBy, IsEitherBy, IsSlotBy, SlotRead, formed, gated, held_by, held_from, held_in}
use Rattle.slotted.proofs.Heads.{same_self}
use Rattle.slotted.proofs.SlotWrites.{ReadsSlots, length-slots_of, slot, slot_is, slots_long}

-- slots of the form that a file has hold what stands in them
held_formed : {A : Type 0} (place : ℕ) (ss : List (Option A)) → held_from place (map formed ss) ≡ Ok (held_in ss)
held_formed place [] = refl
held_formed place (None ∷ ss) = held_formed (place + 512) ss
held_formed {A} place (Some r ∷ ss) = ap (λ (x : Result (List A) ℕ). x >>= λ rs. Ok (r ∷ rs)) (held_formed (place + 512) ss)

-- slot k of such slots
formed_at : {A : Type 0} (ss : List (Option A)) (k : ℕ) → k < length ss → get_or (map formed ss) k (Err 0) ≡ formed (get_or ss k None)
formed_at [] k lt = absurd (omega arith)
formed_at (s ∷ ss) zero lt = refl
formed_at (s ∷ ss) (suc k) lt = formed_at ss k (omega arith)

-- a record that is there
some_is : {A : Type 0} (x : Option A) → IsSome x → (r : A) × (x ≡ Some r)
some_is None some = absurd cc
some_is (Some r) some = (r, refl)

-- the first of some slots, and the rest
first_slot : {A : Type 0} (s : SlotRead A) (t : Option A) (ss ts : List (SlotRead A)) → s ∷ ss ≡ formed t ∷ ts → (s ≡ formed t) × (ss ≡ ts)
first_slot s t ss ts e = (cc, cc)

-- behind k slots of the form that a file has, one of another form is the first
held_bad : {A : Type 0} (place k p : ℕ) (ss : List (SlotRead A)) (ts : List (Option A)) → take k ss ≡ map formed ts → k < length ss → get_or ss k (Err 0) ≡ Err p → held_from place ss ≡ Err (place + 512 * k + p)
held_bad place k p [] ts same lt bad = absurd (omega arith)
held_bad {A} place zero p (s ∷ ss) ts same lt bad = ap (λ (x : SlotRead A). held_from place (x ∷ ss)) bad ∙ ap (λ (n : ℕ). Err n) (omega arith)
held_bad place (suc k) p (s ∷ ss) [] same lt bad = absurd cc
held_bad {A} place (suc k) p (s ∷ ss) (None ∷ ts) same lt bad =
    let f = first_slot s None (take k ss) (map formed ts) same in
    ap (λ (x : SlotRead A). held_from place (x ∷ ss)) f.0 ∙ held_bad (place + 512) k p ss ts f.1 (omega arith) bad ∙ ap (λ (n : ℕ). Err n) (omega arith)
held_bad {A} place (suc k) p (s ∷ ss) (Some r ∷ ts) same lt bad =
    let f = first_slot s (Some r) (take k ss) (map formed ts) same in
    ap (λ (x : SlotRead A). held_from place (x ∷ ss)) f.0 ∙ ap (λ (x : Result (List A) ℕ). x >>= λ rs. Ok (r ∷ rs)) (held_bad (place + 512) k p ss ts f.1 (omega arith) bad) ∙ ap (λ (n : ℕ). Err n) (omega arith)

-- ---- slots that are read one after the other

module _ {A : Type 0} {body : List ℕ → Result A ℕ} {slots_of : List ℕ → List (SlotRead A)} (reads : ReadsSlots body slots_of) where
  -- one slot more was read
  pub slots_more : (b : List ℕ) (k : ℕ) (ts : List (Option A)) (s : Option A) → k < 1024 → length ts ≡ 1024 → take k (slots_of b) ≡ map formed (take k ts) → gated body (slot k b) ≡ Ok s
      → take (k + 1) (slots_of b) ≡ map formed (take (k + 1) (set ts k s))
  slots_more b k ts s lt long same is =
      take_more (slots_of b) k (Err 0) (slots_long reads k b lt) ∙ ap (λ (l : List (SlotRead A)). l ++ get_or (slots_of b) k (Err 0) ∷ []) same ∙ ap (λ (x : SlotRead A). map formed (take k ts) ++ x ∷ []) (slot_is reads k b lt ∙ is)
      ∙ sym (map_push formed (take k ts) s) ∙ ap (map formed) (sym (take_more_set ts k s (omega arith)))

  -- one slot more was read behind those before it
  pub slots_pushed : (b : List ℕ) (k : ℕ) (ts : List (Option A)) (s : Option A) → k < 1024 → take k (slots_of b) ≡ map formed ts → gated body (slot k b) ≡ Ok s → take (k + 1) (slots_of b) ≡ map formed (ts ++ s ∷ [])
  slots_pushed b k ts s lt same is =
      take_more (slots_of b) k (Err 0) (slots_long reads k b lt) ∙ ap (λ (l : List (SlotRead A)). l ++ get_or (slots_of b) k (Err 0) ∷ []) same ∙ ap (λ (x : SlotRead A). map formed ts ++ x ∷ []) (slot_is reads k b lt ∙ is)
      ∙ sym (map_push formed ts s)

  -- all slots were read
  pub slots_all : (b : List ℕ) (k : ℕ) (ts : List (Option A)) → 1024 ≤ k → length ts ≡ 1024 → take k (slots_of b) ≡ map formed (take k ts) → slots_of b ≡ map formed ts
  slots_all b k ts le long same =
      sym (take_all k (slots_of b) (omega (arith, length-slots_of reads b))) ∙ same ∙ ap (map formed) (take_all k ts (omega arith))

-- ---- what a file holds

-- files with this head and these slots
pub record HoldsBy {A : Type 0} (head : List ℕ) (slots_of : List ℕ → List (SlotRead A)) (holds : List ℕ → Result (List A) ℕ) : Type 0 where
  pub each : (b : List ℕ) → holds b ≡ held_by head slots_of b

module _ {A : Type 0} {head : List ℕ} {slots_of : List ℕ → List (SlotRead A)} {holds : List ℕ → Result (List A) ℕ} (file : HoldsBy head slots_of holds) where
  -- bytes whose head has another form are no file, from the same place on
  pub bad_head : (b : List ℕ) (p : ℕ) → same_at 0 head (take 512 b) ≡ Err p → holds b ≡ Err p
  bad_head b p e = file.each b ∙ ap (λ (x : Result ℕ ℕ). x >>= λ _. held_from 512 (slots_of b)) e

  -- after a head the slots say what a file holds
  after_head : (b : List ℕ) → take 512 b ≡ head → holds b ≡ held_from 512 (slots_of b)
  after_head b at_head =
      file.each b ∙ ap (λ (h : List ℕ). same_at 0 head h >>= λ _. held_from 512 (slots_of b)) at_head ∙ ap (λ (x : Result ℕ ℕ). x >>= λ _. held_from 512 (slots_of b)) (same_self 0 head).1

  -- a head and slots of the form that a file has hold what stands in them
  pub file_is : (b : List ℕ) (ss : List (Option A)) → take 512 b ≡ head → slots_of b ≡ map formed ss → holds b ≡ Ok (held_in ss)
  file_is b ss at_head slots = after_head b at_head ∙ ap (held_from 512) slots ∙ held_formed 512 ss

  -- each image of a disk that agrees with the slots holds what stands in them
  pub file_agrees : (b : List ℕ) (image : List ℕ → Type 0) (ss : List (Option A)) → AgreesBy head slots_of b image ss → (c : List ℕ) → image c → holds c ≡ Ok (held_in ss)
  file_agrees b image ss agrees c left = ap holds (agrees.durable c left) ∙ file_is b ss agrees.at_head agrees.on_disk

  module _ (b : List ℕ) (image : List ℕ → Type 0) (ss : List (Option A)) (agrees : AgreesBy head slots_of b image ss) (k : ℕ) (lt : k < length ss) where
    -- slot k on the disk is slot k in memory
    pub slot_formed : (x : Option A) → get_or ss k None ≡ x → IsSlotBy slots_of k (formed x) b
    slot_formed x is = ap (λ (l : List (SlotRead A)). get_or l k (Err 0)) agrees.on_disk ∙ formed_at ss k lt ∙ ap formed is

    -- a slot with a record in memory is open on the disk
    pub slot_open : IsSome (get_or ss k None) → (r : A) × IsSlotBy slots_of k (Ok (Some r)) b
    slot_open some = let r = some_is (get_or ss k None) some in (r.0, slot_formed (Some r.0) r.1)

    -- where slot k alone was written, the bytes are a file with that slot
    pub file_with : (x : Option A) (c : List ℕ) → HasSlotsBy slots_of b (set (slots_of b) k (formed x)) c → holds c ≡ Ok (held_in (set ss k x))
    file_with x c has = file_is c (set ss k x) (has.same_head ∙ agrees.at_head) (has.slots ∙ ap (λ (l : List (SlotRead A)). set l k (formed x)) agrees.on_disk ∙ sym (map-set formed ss k x))

    -- where the slots are as before, the bytes are a file with the same
    pub file_same : (c : List ℕ) → HasSlotsBy slots_of b (slots_of b) c → holds c ≡ Ok (held_in ss)
    file_same c has = file_is c ss (has.same_head ∙ agrees.at_head) (has.slots ∙ agrees.on_disk)

    -- where slot k is as before or was written, the file holds as much as before or has that slot
    pub file_either : (x : Option A) (rs : List A) (c : List ℕ) → held_in (set ss k x) ≡ rs → IsEitherBy slots_of b k (formed x) c → (holds c ≡ Ok (held_in ss)) ⊎ (holds c ≡ Ok rs)
    file_either x rs c is (inl same) = inl (file_same c same)
    file_either x rs c is (inr new) = inr (file_with x c new ∙ ap (λ (l : List A). Ok l) is)

    -- the disk agrees with the slots in memory, once slot k was written there and here
    pub agrees_with : (x : Option A) (c : List ℕ) (left : List ℕ → Type 0) → HasSlotsBy slots_of b (set (slots_of b) k (formed x)) c → IsOnly c left → AgreesBy head slots_of c left (set ss k x)
    agrees_with x c left has only = record {
      at_head = has.same_head ∙ agrees.at_head;
      on_disk = has.slots ∙ ap (λ (l : List (SlotRead A)). set l k (formed x)) agrees.on_disk ∙ sym (map-set formed ss k x);
      durable = only;
    }

-- bytes of which slot k is the first of another form are no file, from its place on
pub bad_slot : {A : Type 0} {body : List ℕ → Result A ℕ} {head : List ℕ} {slots_of : List ℕ → List (SlotRead A)} {holds : List ℕ → Result (List A) ℕ} (reads : ReadsSlots body slots_of) (file : HoldsBy head slots_of holds)
    (b : List ℕ) (k p : ℕ) (ts : List (Option A)) → k < 1024 → take 512 b ≡ head → take k (slots_of b) ≡ map formed ts → gated body (slot k b) ≡ Err p → holds b ≡ Err (512 + 512 * k + p)
bad_slot {slots_of} reads file b k p ts lt at_head same bad = after_head file b at_head ∙ held_bad 512 k p (slots_of b) ts same (slots_long reads k b lt) (slot_is reads k b lt ∙ bad)

-- a file that holds as before or after is one
pub either_whole : {A : Type 0} (x : Result (List A) ℕ) (a b : List A) → (x ≡ Ok a) ⊎ (x ≡ Ok b) → is_ok x ≡ true
either_whole x a b (inl e) = ap is_ok e
either_whole x a b (inr e) = ap is_ok e
