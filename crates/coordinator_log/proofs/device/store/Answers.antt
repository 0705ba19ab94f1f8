use Rattle.std.proofs.Common.{◌≡◌, inl, inr, ℕ, ◌+◌, ◌*◌, List, [], ◌∷◌, length, set, true, false, cond, refl, arith, ◌≤◌, ◌<◌, ◌∙◌, ap, sym, subst, Some, Ok}
use Rattle.std.specs.Prelude.{IsTrue}
use Rattle.outside.specs.Disk.{IsOnly}
use Rattle.outside.specs.Faults.{Rose}
use Rattle.outside.specs.Images.{AreSame, after_write, wished}
use Rattle.dtx_model.specs.Log.{record_at, record_of, slots_of}
use Rattle.slotted.proofs.Results.{on_err}
use Rattle.slotted.proofs.SlotWrites.{IsBehindBy, along, body_stage, done_stage, gate_stage, written_behind}
use Rattle.coordinator_log.specs.Slots.{HasSlots, IsClosed, IsEither}
use Rattle.coordinator_log.specs.Stop.{is_found_after_append}
use Rattle.coordinator_log.specs.declared.stop.ArmedStop.{ArmedStop}
use Rattle.coordinator_log.proofs.Files.{log_reads}
use Rattle.coordinator_log.proofs.Stops.{HasPassed, breaks_at, done_at, done_first, none_passed, passed_more, reached_next, still_armed, undone}
use Rattle.coordinator_log.proofs.SlotWrites.{body_stopped, by_test, gate_stopped, unless_fault}
use Rattle.coordinator_log.proofs.Wishes.{body_wished, gate_wished, not_yet, synced_same, unless_rose}
use Rattle.coordinator_log.proofs.device.store.Given.{Over}
use Rattle.coordinator_log.proofs.device.store.Goals.{After-write, After-sync, After-write-2, After-sync-2}
use Rattle.coordinator_log.proofs.device.store.Goals as goal

-- the record is put directly after the gate
place : (g : Over) (c : After-write g) → c.slot_at-gate.result + 1 ≡ 513 + 512 * c.args.k
place g c = omega (arith, c.slot_at-gate.ensures)

-- it has 511 bytes
long : (g : Over) (c : After-write g) → length c.write_record.new.into ≡ 511
long g c = ap length c.write_record.ensures ∙ c.records_are_read_again.ensures.long c.args.r.now

-- for which the disk has room
room : (g : Over) (c : After-write g) → IsTrue g.D.Disk.honest → 524800 ≤ length (g.D.Disk.seen c.args.disk.now)
room g c h = let b = g.D.Disk.seen c.args.disk.now in omega (arith, g.met.D.Disk.long c.args.disk.now b h (g.met.D.Disk.sees c.args.disk.now h), c.requires.size)

-- while it is written the slots are as before
unwritten : (g : Over) (c : After-write g) → IsTrue g.D.Disk.honest → IsOnly (g.D.Disk.seen c.args.disk.now) (g.D.Disk.image c.args.disk.now) → IsClosed c.args.k (g.D.Disk.seen c.args.disk.now) → (f : List ℕ)
    → g.D.Disk.image c.write.new.disk f → HasSlots (g.D.Disk.seen c.args.disk.now) (slots_of (g.D.Disk.seen c.args.disk.now)) f
unwritten g c h only closed f left =
    body_stage log_reads c.args.k (c.slot_at-gate.result + 1) (length c.write_record.new.into) (g.D.Disk.seen c.args.disk.now) _ _ c.requires.slot (place g c) (long g c) closed only (c.write.ensures.images h) f left

-- then it is safe behind the closed gate
behind : (g : Over) (c : After-write-2 g) → c.slot_at-gate.result + 1 ≡ 513 + 512 * c.args.k → length c.write_record.new.into ≡ 511 → 524800 ≤ length (g.D.Disk.seen c.args.disk.now) → IsTrue g.D.Disk.honest
    → IsClosed c.args.k (g.D.Disk.seen c.args.disk.now) → IsBehindBy record_at slots_of c.args.k (record_of c.args.r.now) (g.D.Disk.seen c.args.disk.now) (g.D.Disk.seen c.sync.new.disk)
behind g c at many space h closed =
    written_behind log_reads c.args.k (c.slot_at-gate.result + 1) (g.D.Disk.seen c.args.disk.now) (g.D.Disk.seen c.sync.new.disk) c.write_record.new.into (record_of c.args.r.now) c.requires.slot at closed space
    (c.in_ok-sync.ensures.seen h ∙ c.in_ok-write.ensures.done h) many (ap record_at c.write_record.ensures ∙ c.records_are_read_again.ensures.again c.args.r.now c.requires.valid)

-- while the gate is written the slot is as before, or holds the record
halfway : (g : Over) (c : After-write-2 g) → IsBehindBy record_at slots_of c.args.k (record_of c.args.r.now) (g.D.Disk.seen c.args.disk.now) (g.D.Disk.seen c.sync.new.disk) → IsTrue g.D.Disk.honest
    → IsClosed c.args.k (g.D.Disk.seen c.args.disk.now) → (f : List ℕ) → g.D.Disk.image c.write-2.new.disk f → IsEither (g.D.Disk.seen c.args.disk.now) c.args.k (Ok (Some (record_of c.args.r.now))) f
halfway g c safe h closed f left =
    let b1 = g.D.Disk.seen c.sync.new.disk in
    let only : IsOnly b1 (g.D.Disk.image c.sync.new.disk) = λ e on. c.in_ok-sync.ensures.done h e on ∙ sym (c.in_ok-sync.ensures.seen h) in
    gate_stage log_reads c.args.k c.requires.slot (g.D.Disk.seen c.args.disk.now) b1 (record_of c.args.r.now) closed safe c.slot_at-gate.result _ _ c.slot_at-gate.ensures only (c.write-2.ensures.images h) f left

-- the gate is on the disk
within : (g : Over) (c : After-write-2 g) → IsTrue g.D.Disk.honest → c.slot_at-gate.result + 1 ≤ length (g.D.Disk.seen c.sync.new.disk)
within g c h =
    let b1 = g.D.Disk.seen c.sync.new.disk in
    omega (arith, g.met.D.Disk.long c.sync.new.disk b1 h (g.met.D.Disk.sees c.sync.new.disk h), c.requires.size, c.sync.ensures.counts.size, c.write.ensures.counts.size, c.requires.slot, c.slot_at-gate.ensures)

-- once it is written the slot holds the record
stored : (g : Over) (c : After-sync-2 g) → IsBehindBy record_at slots_of c.args.k (record_of c.args.r.now) (g.D.Disk.seen c.args.disk.now) (g.D.Disk.seen c.sync.new.disk) → c.slot_at-gate.result + 1 ≤ length (g.D.Disk.seen c.sync.new.disk)
    → IsTrue g.D.Disk.honest → IsClosed c.args.k (g.D.Disk.seen c.args.disk.now)
    → HasSlots (g.D.Disk.seen c.args.disk.now) (set (slots_of (g.D.Disk.seen c.args.disk.now)) c.args.k (Ok (Some (record_of c.args.r.now)))) (g.D.Disk.seen c.write-2.new.disk)
stored g c safe ready h closed =
    done_stage log_reads c.args.k c.requires.slot (g.D.Disk.seen c.args.disk.now) (g.D.Disk.seen c.sync.new.disk) (record_of c.args.r.now) closed safe c.slot_at-gate.result _ c.slot_at-gate.ensures (c.in_ok-write-2.ensures.done h) ready

-- so many calls passed
one : (g : Over) (c : After-sync g) → HasPassed 1 c.args.armed.now c.write.new.armed
one g c = passed_more 0 _ _ _ (none_passed _) c.in_ok-write.ensures.counts.passed c.write.ensures.counts.counted

two : (g : Over) (c : After-write-2 g) → HasPassed 1 c.args.armed.now c.write.new.armed → HasPassed 2 c.args.armed.now c.sync.new.armed
two g c p = passed_more 1 _ _ _ p c.in_ok-sync.ensures.counts.passed c.sync.ensures.counts.counted

three : (g : Over) (c : After-sync-2 g) → HasPassed 2 c.args.armed.now c.sync.new.armed → HasPassed 3 c.args.armed.now c.write-2.new.armed
three g c p = passed_more 2 _ _ _ p c.in_ok-write-2.ensures.counts.passed c.write-2.ensures.counts.counted

pub returns-in_err-write-clause-images : goal.returns-in_err-write-clause-images
returns-in_err-write-clause-images g c h only closed f left = inl (unwritten g (goal.at.returns-in_err-write-clause-images g c).After-write h only closed f left)

pub returns-in_err-sync-clause-images : goal.returns-in_err-sync-clause-images
returns-in_err-sync-clause-images g c h only closed f left = inl (unwritten g (goal.at.returns-in_err-sync-clause-images g c).After-write h only closed f (c.sync.ensures.images h f left))

pub returns-in_err-write-2-clause-images : goal.returns-in_err-write-2-clause-images
returns-in_err-write-2-clause-images g c h only closed f left =
    let at = goal.at.returns-in_err-write-2-clause-images g c in
    let safe = behind g at.After-write-2 (place g at.After-write) (long g at.After-write) (room g at.After-write h) h closed in
    halfway g at.After-write-2 safe h closed f left

pub returns-in_err-sync-2-clause-images : goal.returns-in_err-sync-2-clause-images
returns-in_err-sync-2-clause-images g c h only closed f left =
    let at = goal.at.returns-in_err-sync-2-clause-images g c in
    let safe = behind g at.After-write-2 (place g at.After-write) (long g at.After-write) (room g at.After-write h) h closed in
    halfway g at.After-write-2 safe h closed f (c.sync-2.ensures.images h f left)

pub returns-clause-images : goal.returns-clause-images
returns-clause-images g c h only closed f left =
    let at = goal.at.returns-clause-images g c in
    let safe = behind g at.After-write-2 (place g at.After-write) (long g at.After-write) (room g at.After-write h) h closed in
    halfway g at.After-write-2 safe h closed f (c.sync-2.ensures.images h f left)

pub returns-clause-done : goal.returns-clause-done
returns-clause-done g c h only closed =
    let at = goal.at.returns-clause-done g c in
    let safe = behind g at.After-write-2 (place g at.After-write) (long g at.After-write) (room g at.After-write h) h closed in
    along (g.D.Disk.seen c.args.disk.now) _ _ _ (c.in_ok-sync-2.ensures.seen h) (stored g at.After-sync-2 safe (within g at.After-write-2 h) h closed)

pub returns-in_err-sync-clause-broken : goal.returns-in_err-sync-clause-broken
returns-in_err-sync-clause-broken g c =
    on_err c.from_residual-in_err-sync.result _
    (breaks_at 1 4 c.args.armed.now _ _ _ (omega arith) (one g (goal.at.returns-in_err-sync-clause-broken g c).After-sync) c.sync.ensures.counts.counted
    (λ u. subst (λ (n : ℕ). Rose n (g.D.Disk.faults c.sync.new.disk)) c.in_ok-write.ensures.counts.smooth (c.in_err-sync.ensures.counts.cause u)))

pub returns-in_err-write-2-clause-broken : goal.returns-in_err-write-2-clause-broken
returns-in_err-write-2-clause-broken g c =
    let at = goal.at.returns-in_err-write-2-clause-broken g c in
    on_err c.from_residual-in_err-write-2.result _
    (breaks_at 2 4 c.args.armed.now _ _ _ (omega arith) (two g at.After-write-2 (one g at.After-sync)) c.write-2.ensures.counts.counted
    (λ u. subst (λ (n : ℕ). Rose n (g.D.Disk.faults c.write-2.new.disk)) (c.in_ok-sync.ensures.counts.smooth ∙ c.in_ok-write.ensures.counts.smooth) (c.in_err-write-2.ensures.counts.cause u)))

pub returns-in_err-sync-2-clause-broken : goal.returns-in_err-sync-2-clause-broken
returns-in_err-sync-2-clause-broken g c =
    let at = goal.at.returns-in_err-sync-2-clause-broken g c in
    on_err c.from_residual-in_err-sync-2.result _
    (breaks_at 3 4 c.args.armed.now _ _ _ (omega arith) (three g at.After-sync-2 (two g at.After-write-2 (one g at.After-sync))) c.sync-2.ensures.counts.counted
    (λ u. subst (λ (n : ℕ). Rose n (g.D.Disk.faults c.sync-2.new.disk)) (c.in_ok-write-2.ensures.counts.smooth ∙ c.in_ok-sync.ensures.counts.smooth ∙ c.in_ok-write.ensures.counts.smooth) (c.in_err-sync-2.ensures.counts.cause u)))

pub returns-in_err-write-clause-crashed : goal.returns-in_err-write-clause-crashed
returns-in_err-write-clause-crashed g c h only closed s is none =
    let b = (goal.at.returns-in_err-write-clause-crashed g c).After-write in
    let was = g.D.Disk.seen c.args.disk.now in
    let at = reached_next 0 s _ _ _ (none_passed _) c.write.ensures.counts.counted is none in
    let left = c.write.ensures.crashed h s.image at.0 in (
      left.0,
      left.1,
      unless_fault
          (λ e. by_test _ false was _ _ _ (undone 3 s (omega (arith, at.1)))
          (body_stopped s.image c.args.k (c.slot_at-gate.result + 1) was _ c.write_record.new.into c.requires.slot (place g b) closed (room g b h) (long g b) e)) left.2,
    )

pub returns-in_err-sync-clause-crashed : goal.returns-in_err-sync-clause-crashed
returns-in_err-sync-clause-crashed g c h only closed s is none =
    let to = goal.at.returns-in_err-sync-clause-crashed g c in
    let was = g.D.Disk.seen c.args.disk.now in
    let at = reached_next 1 s _ _ _ (one g to.After-sync) c.sync.ensures.counts.counted is none in
    let left = c.sync.ensures.crashed h s.image at.0 in
    let safe =
    written_behind log_reads c.args.k (c.slot_at-gate.result + 1) was _ c.write_record.new.into (record_of c.args.r.now) c.requires.slot (place g to.After-write) closed (room g to.After-write h)
    (left.2 ∙ c.in_ok-write.ensures.done h) (long g to.After-write) (ap record_at c.write_record.ensures ∙ c.records_are_read_again.ensures.again c.args.r.now c.requires.valid) in
    (left.0, left.1, inr (by_test _ false was _ _ _ (undone 3 s (omega (arith, at.1))) safe.same))

pub returns-in_err-write-2-clause-crashed : goal.returns-in_err-write-2-clause-crashed
returns-in_err-write-2-clause-crashed g c h only closed s is none =
    let to = goal.at.returns-in_err-write-2-clause-crashed g c in
    let was = g.D.Disk.seen c.args.disk.now in
    let b1 = g.D.Disk.seen c.sync.new.disk in
    let safe = behind g to.After-write-2 (place g to.After-write) (long g to.After-write) (room g to.After-write h) h closed in
    let at = reached_next 2 s _ _ _ (two g to.After-write-2 (one g to.After-sync)) c.write-2.ensures.counts.counted is none in
    let left = c.write-2.ensures.crashed h s.image at.0 in
    let done = done_stage log_reads c.args.k c.requires.slot was b1 (record_of c.args.r.now) closed safe c.slot_at-gate.result _ c.slot_at-gate.ensures refl (within g to.After-write-2 h) in (
      left.0,
      left.1,
      elim left.2 [
        | inl rose ↦ inl (subst (λ (n : ℕ). Rose n (g.D.Disk.faults c.write-2.new.disk)) (c.in_ok-sync.ensures.counts.smooth ∙ c.in_ok-write.ensures.counts.smooth) rose)
        | inr e ↦ inr (by_test _ _ was _ _ _ (done_at 3 2 s at.1) (gate_stopped s.image 2 was b1 _ c.slot_at-gate.result _ _ _ e safe.same done))
      ],
    )

pub returns-in_err-sync-2-clause-crashed : goal.returns-in_err-sync-2-clause-crashed
returns-in_err-sync-2-clause-crashed g c h only closed s is none =
    let to = goal.at.returns-in_err-sync-2-clause-crashed g c in
    let was = g.D.Disk.seen c.args.disk.now in
    let safe = behind g to.After-write-2 (place g to.After-write) (long g to.After-write) (room g to.After-write h) h closed in
    let at = reached_next 3 s _ _ _ (three g to.After-sync-2 (two g to.After-write-2 (one g to.After-sync))) c.sync-2.ensures.counts.counted is none in
    let left = c.sync-2.ensures.crashed h s.image at.0 in
    (left.0, left.1, inr (by_test _ true was _ _ _ (done_first 3 s (omega (arith, at.1))) (along was _ _ _ left.2 (stored g to.After-sync-2 safe (within g to.After-write-2 h) h closed))))

pub returns-clause-crashed : goal.returns-clause-crashed
returns-clause-crashed g c h only closed s is none =
    let to = goal.at.returns-clause-crashed g c in
    absurd (still_armed 4 s _ _ (passed_more 3 _ _ _ (three g to.After-sync-2 (two g to.After-write-2 (one g to.After-sync))) c.in_ok-sync-2.ensures.counts.passed c.sync-2.ensures.counts.counted) is none)

pub returns-in_err-write-clause-kept : goal.returns-in_err-write-clause-kept
returns-in_err-write-clause-kept g c h only closed s is none third keep = absurd (let at = reached_next 0 s _ _ _ (none_passed _) c.write.ensures.counts.counted is none in omega (arith, at.1))

pub returns-in_err-sync-clause-kept : goal.returns-in_err-sync-clause-kept
returns-in_err-sync-clause-kept g c h only closed s is none third keep =
    absurd (let at = reached_next 1 s _ _ _ (one g (goal.at.returns-in_err-sync-clause-kept g c).After-sync) c.sync.ensures.counts.counted is none in omega (arith, at.1))

pub returns-in_err-write-2-clause-kept : goal.returns-in_err-write-2-clause-kept
returns-in_err-write-2-clause-kept g c h only closed s is none third keep =
    let to = goal.at.returns-in_err-write-2-clause-kept g c in
    absurd (let at = reached_next 2 s _ _ _ (two g to.After-write-2 (one g to.After-sync)) c.write-2.ensures.counts.counted is none in omega (arith, at.1))

pub returns-in_err-sync-2-clause-kept : goal.returns-in_err-sync-2-clause-kept
returns-in_err-sync-2-clause-kept g c h only closed s is none third keep =
    let to = goal.at.returns-in_err-sync-2-clause-kept g c in
    let safe = behind g to.After-write-2 (place g to.After-write) (long g to.After-write) (room g to.After-write h) h closed in
    let at = reached_next 3 s _ _ _ (three g to.After-sync-2 (two g to.After-write-2 (one g to.After-sync))) c.sync-2.ensures.counts.counted is none in
    let done = stored g to.After-sync-2 safe (within g to.After-write-2 h) h closed in
    elim (c.sync-2.ensures.kept h (at.0 ∙ ap Some keep)) [
      | inl rose ↦ inl (subst (λ (n : ℕ). Rose n (g.D.Disk.faults c.sync-2.new.disk)) (c.in_ok-write-2.ensures.counts.smooth ∙ c.in_ok-sync.ensures.counts.smooth ∙ c.in_ok-write.ensures.counts.smooth) rose)
      | inr alone ↦ inr (λ f on. along (g.D.Disk.seen c.args.disk.now) _ f _ (alone f on) done)
    ]

pub returns-clause-kept : goal.returns-clause-kept
returns-clause-kept g c h only closed s is none third keep =
    let to = goal.at.returns-clause-kept g c in
    absurd (still_armed 4 s _ _ (passed_more 3 _ _ _ (three g to.After-sync-2 (two g to.After-write-2 (one g to.After-sync))) c.in_ok-sync-2.ensures.counts.passed c.sync-2.ensures.counts.counted) is none)

pub returns-clause-synced : goal.returns-clause-synced
returns-clause-synced g c o = synced_same (g.D.Disk.images c.write-2.new.disk) _ (c.in_ok-sync-2.ensures.synced o)

-- whatever is wished after the write of the record, the slots are as before
body_left : (g : Over) (c : After-write g) → IsTrue g.D.Disk.obeys → AreSame (g.D.Disk.images c.args.disk.now) → IsClosed c.args.k (g.D.Disk.seen c.args.disk.now) → (s : ArmedStop) → s.passes < 2
    → HasSlots (g.D.Disk.seen c.args.disk.now) (cond (is_found_after_append s.image s.passes) (set (slots_of (g.D.Disk.seen c.args.disk.now)) c.args.k (Ok (Some (record_of c.args.r.now)))) (slots_of (g.D.Disk.seen c.args.disk.now)))
    (wished s.image (after_write (c.slot_at-gate.result + 1) c.write_record.new.into (g.D.Disk.images c.args.disk.now)))
body_left g c o same closed s few =
    by_test _ false (g.D.Disk.seen c.args.disk.now) _ _ _ (not_yet s.image s.passes few)
    (body_wished s.image c.args.k (c.slot_at-gate.result + 1) (g.D.Disk.seen c.args.disk.now) c.write_record.new.into (g.D.Disk.images c.args.disk.now) c.requires.slot (place g c) closed
    (room g c (g.met.D.Disk.tells o)) (long g c) (g.met.D.Disk.kept c.args.disk.now o) same)

-- whatever is wished after the write of the gate, the record is found where the stop says so
gate_left : (g : Over) (c : After-write-2 g) → IsBehindBy record_at slots_of c.args.k (record_of c.args.r.now) (g.D.Disk.seen c.args.disk.now) (g.D.Disk.seen c.sync.new.disk) → IsTrue g.D.Disk.obeys
    → IsClosed c.args.k (g.D.Disk.seen c.args.disk.now) → (s : ArmedStop) → 2 ≤ s.passes
    → HasSlots (g.D.Disk.seen c.args.disk.now) (cond (is_found_after_append s.image s.passes) (set (slots_of (g.D.Disk.seen c.args.disk.now)) c.args.k (Ok (Some (record_of c.args.r.now)))) (slots_of (g.D.Disk.seen c.args.disk.now)))
    (wished s.image (after_write c.slot_at-gate.result (1 ∷ []) (g.D.Disk.images c.sync.new.disk)))
gate_left g c safe o closed s many =
    gate_wished s.image s.passes c.args.k c.slot_at-gate.result (g.D.Disk.seen c.args.disk.now) (g.D.Disk.seen c.sync.new.disk) (record_of c.args.r.now) (g.D.Disk.images c.sync.new.disk) many c.requires.slot
    c.slot_at-gate.ensures closed safe (within g c (g.met.D.Disk.tells o)) (g.met.D.Disk.kept c.sync.new.disk o) (synced_same (g.D.Disk.images c.write.new.disk) _ (c.in_ok-sync.ensures.synced o))

pub returns-in_err-write-clause-found : goal.returns-in_err-write-clause-found
returns-in_err-write-clause-found g c o same closed s is none =
    let at = reached_next 0 s _ _ _ (none_passed _) c.write.ensures.counts.counted is none in
    let left = body_left g (goal.at.returns-in_err-write-clause-found g c).After-write o same closed s (omega (arith, at.1)) in
    unless_fault (λ e. along (g.D.Disk.seen c.args.disk.now) _ _ _ e left) (c.write.ensures.found o s.image at.0)

pub returns-in_err-sync-clause-found : goal.returns-in_err-sync-clause-found
returns-in_err-sync-clause-found g c o same closed s is none =
    let to = goal.at.returns-in_err-sync-clause-found g c in
    let at = reached_next 1 s _ _ _ (one g to.After-sync) c.sync.ensures.counts.counted is none in
    let left = body_left g to.After-write o same closed s (omega (arith, at.1)) in
    unless_rose _ _ _ c.in_ok-write.ensures.counts.smooth (λ e. along (g.D.Disk.seen c.args.disk.now) _ _ _ (e ∙ ap (wished s.image) (c.in_ok-write.ensures.put o)) left) (c.sync.ensures.found o s.image at.0)

pub returns-in_err-write-2-clause-found : goal.returns-in_err-write-2-clause-found
returns-in_err-write-2-clause-found g c o same closed s is none =
    let to = goal.at.returns-in_err-write-2-clause-found g c in
    let h = g.met.D.Disk.tells o in
    let safe = behind g to.After-write-2 (place g to.After-write) (long g to.After-write) (room g to.After-write h) h closed in
    let at = reached_next 2 s _ _ _ (two g to.After-write-2 (one g to.After-sync)) c.write-2.ensures.counts.counted is none in
    let left = gate_left g to.After-write-2 safe o closed s (omega (arith, at.1)) in
    unless_rose _ _ _ (c.in_ok-sync.ensures.counts.smooth ∙ c.in_ok-write.ensures.counts.smooth) (λ e. along (g.D.Disk.seen c.args.disk.now) _ _ _ e left) (c.write-2.ensures.found o s.image at.0)

pub returns-in_err-sync-2-clause-found : goal.returns-in_err-sync-2-clause-found
returns-in_err-sync-2-clause-found g c o same closed s is none =
    let to = goal.at.returns-in_err-sync-2-clause-found g c in
    let h = g.met.D.Disk.tells o in
    let safe = behind g to.After-write-2 (place g to.After-write) (long g to.After-write) (room g to.After-write h) h closed in
    let at = reached_next 3 s _ _ _ (three g to.After-sync-2 (two g to.After-write-2 (one g to.After-sync))) c.sync-2.ensures.counts.counted is none in
    let left = gate_left g to.After-write-2 safe o closed s (omega (arith, at.1)) in
    unless_rose _ _ _ (c.in_ok-write-2.ensures.counts.smooth ∙ c.in_ok-sync.ensures.counts.smooth ∙ c.in_ok-write.ensures.counts.smooth)
    (λ e. along (g.D.Disk.seen c.args.disk.now) _ _ _ (e ∙ ap (wished s.image) (c.in_ok-write-2.ensures.put o)) left) (c.sync-2.ensures.found o s.image at.0)

pub returns-clause-found : goal.returns-clause-found
returns-clause-found g c o same closed s is none =
    absurd (let to = goal.at.returns-clause-found g c in
    still_armed 4 s _ _ (passed_more 3 _ _ _ (three g to.After-sync-2 (two g to.After-write-2 (one g to.After-sync))) c.in_ok-sync-2.ensures.counts.passed c.sync-2.ensures.counts.counted) is none)
