use Rattle.std.specs.Option.{option_map}
use Rattle.std.proofs.Common.{refl, ◌≡◌, ℕ, ◌+◌, ◌*◌, sym, ap, ◌∙◌, arith, length, map, take, drop, List, Option, Err}
use Rattle.std.proofs.lemmas.List.{length-replicate, length-set}
use Rattle.dtx_model.specs.Log.{CommitRecord, head, record_at, record_of, same_at}
use Rattle.slotted.specs.Slotted.{gated}
use Rattle.slotted.proofs.Heads.{same_is}
use Rattle.slotted.proofs.SlotReads.{bad_head, bad_slot, slots_all, slots_more}
use Rattle.coordinator_log.specs.Slots.{formed}
use Rattle.coordinator_log.proofs.Files.{log_file, log_reads}
use Rattle.coordinator_log.proofs.opening.read_all.Goals as goal

pub returns-in-Err-clause-bad : goal.returns-in-Err-clause-bad
returns-in-Err-clause-bad g c h p e =
    let b = g.D.Disk.seen c.args.disk.now in
    let block : c.read.new.into ≡ take 512 b = c.in_ok-read.ensures.bytes h ∙ ap (λ (n : ℕ). take n b) (length-replicate {A = ℕ} 512 0) in
    let bad : same_at 0 head (take 512 b) ≡ Err c.in-Err.p = cc (c.in-Err.ensures.same, c.log_head-wanted.ensures, block) in
    let is : c.in-Err.p ≡ p = cc e in
    bad_head log_file b c.in-Err.p bad ∙ ap (λ (n : ℕ). Err n) is

pub loop-k-init : goal.loop-k-init
loop-k-init g c =
    record {
      seen = λ h. c.in_ok-read.ensures.seen h;
      images = λ h. c.in_ok-read.ensures.images h;
      same = λ o. c.in_ok-read.ensures.same o;
      at_head = λ h.
          let b = g.D.Disk.seen c.args.disk.now in
          let block : c.read.new.into ≡ take 512 b = c.in_ok-read.ensures.bytes h ∙ ap (λ (n : ℕ). take n b) (length-replicate {A = ℕ} 512 0) in
          sym block ∙ same_is 0 c.log_head-wanted.result c.read.new.into c.in-Ok.field-0 (omega arith) c.in-Ok.ensures.same ∙ c.log_head-wanted.ensures;
      slots = λ h. refl;
      size = c.in_ok-read.ensures.size;
      smooth = c.in_ok-read.ensures.smooth;
      many = λ more. absurd (omega arith);
      block = omega arith;
    }

pub returns-in-Err-read_slot-clause-bad : goal.returns-in-Err-read_slot-clause-bad
returns-in-Err-read_slot-clause-bad g c h p e =
    let b = g.D.Disk.seen c.args.disk.now in
    let k = c.loop-k.k in
    let q = c.in-Err-read_slot.p in
    let at = c.slot_at-at.result in
    let i = c.loop-k.invariant in
    let block : c.read-in-loop-k.new.into ≡ take 512 (drop (512 + 512 * k) b) = c.in_ok-read-2.ensures.bytes h ∙ ap (λ (n : ℕ). take n (drop at (g.D.Disk.seen c.loop-k.disk))) i.block ∙ ap (λ (l : List ℕ). take 512 (drop at l)) (i.seen h) ∙ ap (λ (n : ℕ). take 512 (drop n b)) c.slot_at-at.ensures in
    let bad : gated record_at (take 512 (drop (512 + 512 * k) b)) ≡ Err q = ap (gated record_at) (sym block) ∙ c.in-Err-read_slot.ensures.slot in
    let is : at + q ≡ p = cc e in
    bad_slot log_reads log_file b k q _ c.loop-k-test.true (i.at_head h) (i.slots h) bad ∙ ap (λ (n : ℕ). Err n) (ap (λ (n : ℕ). n + q) (sym c.slot_at-at.ensures) ∙ is)

pub loop-k-preserved : goal.loop-k-preserved
loop-k-preserved g c =
    let k = c.loop-k.k in
    let at = c.slot_at-at.result in
    let i = c.loop-k.invariant in
    record {
      seen = λ h. c.in_ok-read-2.ensures.seen h ∙ i.seen h;
      images = λ h f left. i.images h f (c.in_ok-read-2.ensures.images h f left);
      same = λ o. c.in_ok-read-2.ensures.same o ∙ i.same o;
      at_head = i.at_head;
      slots = λ h.
          let b = g.D.Disk.seen c.args.disk.now in
          let block : c.read-in-loop-k.new.into ≡ take 512 (drop (512 + 512 * k) b) = c.in_ok-read-2.ensures.bytes h ∙ ap (λ (n : ℕ). take n (drop at (g.D.Disk.seen c.loop-k.disk))) i.block ∙ ap (λ (l : List ℕ). take 512 (drop at l)) (i.seen h) ∙ ap (λ (n : ℕ). take 512 (drop n b)) c.slot_at-at.ensures in
          let put = option_map record_of c.in-Ok-read_slot.s in
          let many : length c.loop-k.slots ≡ 1024 = sym (length-set c.loop-k.slots k put) ∙ ap length (sym c.set.ensures.slots) ∙ c.set.ensures.many in
          slots_more log_reads b k c.loop-k.slots put c.loop-k-test.true many (i.slots h) (ap (gated record_at) (sym block) ∙ c.in-Ok-read_slot.ensures.slot)
          ∙ ap (λ (l : List (Option CommitRecord)). map formed (take (k + 1) l)) (sym c.set.ensures.slots);
      size = c.in_ok-read-2.ensures.size ∙ i.size;
      smooth = c.in_ok-read-2.ensures.smooth ∙ i.smooth;
      many = λ more. c.set.ensures.many;
      block = omega arith;
    }

pub returns-clause-slots : goal.returns-clause-slots
returns-clause-slots g c h = slots_all log_reads (g.D.Disk.seen c.args.disk.now) c.loop-k.k c.loop-k.slots c.loop-k-test.false (c.loop-k.invariant.many (omega arith)) (c.loop-k.invariant.slots h)

pub returns-clause-smooth : goal.returns-clause-smooth
returns-clause-smooth g c = c.loop-k.invariant.smooth
