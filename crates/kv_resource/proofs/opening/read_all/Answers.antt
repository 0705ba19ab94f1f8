use Rattle.std.proofs.Common.{◌≡◌, ℕ, ◌+◌, ◌*◌, sym, ap, ◌∙◌, arith, length, map, take, drop, List, Option, Err}
use Rattle.std.proofs.lemmas.List.{length-replicate, length_push, take_all}
use Rattle.dtx_model.specs.Log.{same_at}
use Rattle.slotted.specs.Slotted.{formed, gated}
use Rattle.slotted.proofs.Heads.{same_is}
use Rattle.slotted.proofs.SlotReads.{bad_head, bad_slot, slots_pushed}
use Rattle.slotted.proofs.SlotWrites.{length-slots_of}
use Rattle.kv_resource.specs.Bytes.{KvRecord, kv_head, kv_record_at, kv_slots}
use Rattle.kv_resource.proofs.Files.{kv_file, kv_reads}
use Rattle.kv_resource.proofs.opening.read_all.Goals as goal

pub returns-in-Err-clause-bad : goal.returns-in-Err-clause-bad
returns-in-Err-clause-bad g c h p e =
    let b = g.D.Disk.seen c.args.disk.now in
    let block : c.read.new.into ≡ take 512 b = c.in_ok-read.ensures.bytes h ∙ ap (λ (n : ℕ). take n b) (length-replicate {A = ℕ} 512 0) in
    let bad : same_at 0 kv_head (take 512 b) ≡ Err c.in-Err.p = cc (c.in-Err.ensures.same, c.store_head-wanted.ensures, block) in
    let is : c.in-Err.p ≡ p = cc e in
    bad_head kv_file b c.in-Err.p bad ∙ ap (λ (n : ℕ). Err n) is

pub loop-k-init : goal.loop-k-init
loop-k-init g c =
    let empty = c.requires.empty in
    record {
      seen = λ h. c.in_ok-read.ensures.seen h;
      images = λ h. c.in_ok-read.ensures.images h;
      at_head = λ h.
          let b = g.D.Disk.seen c.args.disk.now in
          let block : c.read.new.into ≡ take 512 b = c.in_ok-read.ensures.bytes h ∙ ap (λ (n : ℕ). take n b) (length-replicate {A = ℕ} 512 0) in
          sym block ∙ same_is 0 c.store_head-wanted.result c.read.new.into c.in-Ok.field-0 (omega arith) c.in-Ok.ensures.same ∙ c.store_head-wanted.ensures;
      slots = λ h. ap (λ (l : List (Option KvRecord)). map formed l) (sym empty);
      size = c.in_ok-read.ensures.size;
      smooth = c.in_ok-read.ensures.smooth;
      many = ap length empty;
      room = let room = c.requires.room in omega arith;
      block = omega arith;
    }

pub returns-in-Err-read_slot-clause-bad : goal.returns-in-Err-read_slot-clause-bad
returns-in-Err-read_slot-clause-bad g c h p e =
    let b = g.D.Disk.seen c.args.disk.now in
    let k = c.loop-k.k in
    let q = c.in-Err-read_slot.p in
    let at = c.slot_at-at.result in
    let i = c.loop-k.invariant in
    let block : c.read-in-loop-k.new.into ≡ take 512 (drop (512 + 512 * k) b) = c.in_ok-read-2.ensures.bytes h ∙ ap (λ (n : ℕ). take n (drop at (g.D.Disk.seen c.loop-k.disk))) i.block ∙ ap (λ (l : List ℕ). take 512 (drop at l)) (i.seen h) ∙ ap (λ (n : ℕ). take 512 (drop n b)) c.slot_at-at.ensures in
    let bad : gated kv_record_at (take 512 (drop (512 + 512 * k) b)) ≡ Err q = ap (gated kv_record_at) (sym block) ∙ c.in-Err-read_slot.ensures.slot in
    let is : at + q ≡ p = cc e in
    bad_slot kv_reads kv_file b k q _ c.loop-k-test.true (i.at_head h) (i.slots h) bad ∙ ap (λ (n : ℕ). Err n) (ap (λ (n : ℕ). n + q) (sym c.slot_at-at.ensures) ∙ is)

pub loop-k-preserved : goal.loop-k-preserved
loop-k-preserved g c =
    let k = c.loop-k.k in
    let at = c.slot_at-at.result in
    let i = c.loop-k.invariant in
    record {
      seen = λ h. c.in_ok-read-2.ensures.seen h ∙ i.seen h;
      images = λ h f left. i.images h f (c.in_ok-read-2.ensures.images h f left);
      at_head = i.at_head;
      slots = λ h.
          let b = g.D.Disk.seen c.args.disk.now in
          let block : c.read-in-loop-k.new.into ≡ take 512 (drop (512 + 512 * k) b) = c.in_ok-read-2.ensures.bytes h ∙ ap (λ (n : ℕ). take n (drop at (g.D.Disk.seen c.loop-k.disk))) i.block ∙ ap (λ (l : List ℕ). take 512 (drop at l)) (i.seen h) ∙ ap (λ (n : ℕ). take 512 (drop n b)) c.slot_at-at.ensures in
          slots_pushed kv_reads b k c.loop-k.slots.items c.in-Ok-read_slot.s c.loop-k-test.true (i.slots h) (ap (gated kv_record_at) (sym block) ∙ c.in-Ok-read_slot.ensures.slot)
          ∙ ap (λ (l : List (Option KvRecord)). map formed l) (sym c.push_reserved.ensures.items);
      size = c.in_ok-read-2.ensures.size ∙ i.size;
      smooth = c.in_ok-read-2.ensures.smooth ∙ i.smooth;
      many = let many = i.many in omega (arith, ap length c.push_reserved.ensures.items, length_push c.loop-k.slots.items c.in-Ok-read_slot.s, many);
      room = let room = i.room in omega (arith, room, c.push_reserved.ensures.capacity);
      block = omega arith;
    }

pub returns-clause-slots : goal.returns-clause-slots
returns-clause-slots g c h =
    let b = g.D.Disk.seen c.args.disk.now in
    sym (take_all c.loop-k.k (kv_slots b) (omega (arith, c.loop-k-test.false, length-slots_of kv_reads b))) ∙ c.loop-k.invariant.slots h
