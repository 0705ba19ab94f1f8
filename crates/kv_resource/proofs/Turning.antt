-- Device work on one slot, as the state of a store sees it.
use Rattle.std.specs.Prelude.{IsTrue, is_ok}
use Rattle.std.proofs.Common.{◌≡◌, ◌⊎◌, ◌<◌, ◌≤◌, ℕ, Bool, true, false, List, Option, None, Result, Ok, Err, refl, sym, ap, subst, arith, length, get_or, set}
use Rattle.std.proofs.lemmas.List.{length-set}
use Rattle.outside.specs.Disk.{IsOnly}
use Rattle.outside.specs.declared.failure.Failed.{Failed}
use Rattle.slotted.specs.Slotted.{IsSlotBy}
use Rattle.slotted.proofs.SlotReads.{agrees_with, either_whole, file_agrees, file_either, slot_formed}
use Rattle.kv_resource.specs.Bytes.{KvRecord, kv_has, kv_slots}
use Rattle.kv_resource.specs.Images.{IsKept, IsStored, PutsSlot, TurnsSlot, Works}
use Rattle.kv_resource.specs.Store.{KvDraft, KvMemory, open_records}
use Rattle.kv_resource.proofs.Files.{kv_file}
use Rattle.kv_resource.proofs.Finding.{Slots}

-- a store that isn't stopped, of which slot k is worked on
pub record AtSlot {D : Type 0} (honest : Bool) (seen : D → List ℕ) (image : D → List ℕ → Type 0) (size faults : D → ℕ) (old new : D) (m : KvMemory) (k : ℕ) : Type 0 where
  pub kept : IsKept honest (seen old) (image old) (size old) m
  pub up : m.stopped ≡ false
  pub lt : k < 1024

module _ {D : Type 0} {honest : Bool} {seen : D → List ℕ} {image : D → List ℕ → Type 0} {size faults : D → ℕ} {old new : D} {m : KvMemory} {k : ℕ} (at : AtSlot honest seen image size faults old new m k) where
  inside : k < length m.slots
  inside = omega (arith, at.lt, at.kept.many)

  -- the disk is synced
  pub only : IsTrue honest → IsOnly (seen old) (image old)
  only h = (at.kept.stored h at.up).durable

  -- slot k on the disk is slot k in memory
  pub on_disk : IsTrue honest → (s : Option KvRecord) → get_or m.slots k None ≡ s → IsSlotBy kv_slots k (Ok s) (seen old)
  on_disk h s = slot_formed kv_file (seen old) (image old) m.slots (at.kept.stored h at.up) k inside s

  module _ (x : Option KvRecord) (r : Result (Unit {0}) Failed) (puts : IsTrue honest → PutsSlot seen image old new k x r) (works : Works size faults old new r) where
    -- each image is as before, or has the slot
    left : IsTrue honest → (c : List ℕ) → image new c → (kv_has c ≡ Ok (open_records m.slots)) ⊎ (kv_has c ≡ Ok (open_records (set m.slots k x)))
    left h c on = file_either kv_file (seen old) (image old) m.slots (at.kept.stored h at.up) k inside x _ c refl ((puts h).images c on)

    -- so it is a store
    whole : IsTrue honest → (c : List ℕ) → image new c → is_ok (kv_has c) ≡ true
    whole h c on = either_whole (kv_has c) _ _ (left h c on)

    room : 524800 ≤ size new
    room = omega (arith, works.same_size, at.kept.room)

    -- after a fault the store is stopped
    pub kept_stopped : (ds : List KvDraft) → IsKept honest (seen new) (image new) (size new) (record { slots = m.slots; drafts = ds; stopped = true })
    kept_stopped ds = record { stored = λ h no. absurd cc; whole = whole; room = room; many = at.kept.many }

  module _ (x : Option KvRecord) (u : Unit {0}) (puts : IsTrue honest → PutsSlot seen image old new k x (Ok u)) (works : Works size faults old new (Ok u)) (ss : Slots) (ds : List KvDraft) (is : ss ≡ set m.slots k x) where
    -- and else it has the slot
    stored : IsTrue honest → IsStored (seen new) (image new) (set m.slots k x)
    stored h = agrees_with kv_file (seen old) (image old) m.slots (at.kept.stored h at.up) k inside x (seen new) (image new) (puts h).done (puts h).durable

    pub kept_turned : IsKept honest (seen new) (image new) (size new) (record { slots = ss; drafts = ds; stopped = m.stopped })
    kept_turned = record {
      stored = λ h _. subst (λ (l : Slots). IsStored (seen new) (image new) l) (sym is) (stored h);
      whole = whole x (Ok u) puts works;
      room = room x (Ok u) puts works;
      many = omega (arith, ap length is, length-set m.slots k x, at.kept.many);
    }

    pub turned : (before after : ℕ) → TurnsSlot honest image faults (record { disk = old; memory = m; earlier = before }) (record { disk = new; memory = record { slots = ss; drafts = ds; stopped = m.stopped }; earlier = after }) k x ds after (Ok u)
    turned before after = record {
      done = λ i. record { slots = is i; drafts = ds; stopped = at.up i };
      since = refl;
      failed = tt;
      still = tt;
      smooth = works.smooth;
      cause = tt;
      images = left x (Ok u) puts works;
      durable = λ h. file_agrees kv_file (seen new) (image new) (set m.slots k x) (stored h);
    }

  -- what was broken off
  pub broken : (x : Option KvRecord) (f : Failed) → (IsTrue honest → PutsSlot seen image old new k x (Err f)) → Works size faults old new (Err f) → (ds : List KvDraft) (before after : ℕ)
      → TurnsSlot honest image faults (record { disk = old; memory = m; earlier = before }) (record { disk = new; memory = record { slots = m.slots; drafts = m.drafts; stopped = true }; earlier = before }) k x ds after (Err f)
  broken x f puts works ds before after = record {
    done = tt;
    since = tt;
    failed = refl;
    still = refl;
    smooth = tt;
    cause = works.cause;
    images = left x (Err f) puts works;
    durable = λ h. tt;
  }
