use Rattle.std.proofs.Common.{inl, inr, ℕ, ◌+◌, length, refl, arith, ◌≤◌, subst, ◌∙◌, Some, ap}
use Rattle.outside.specs.Faults.{Rose}
use Rattle.outside.specs.Images.{wished}
use Rattle.slotted.proofs.Results.{on_err}
use Rattle.slotted.proofs.SlotWrites.{along, clear_stage, cleared_stage, same_bytes}
use Rattle.coordinator_log.proofs.Files.{log_reads}
use Rattle.coordinator_log.proofs.Stops.{breaks_at, done_at, done_first, none_passed, passed_more, reached_next, still_armed}
use Rattle.coordinator_log.proofs.SlotWrites.{by_test, gate_stopped, unless_fault}
use Rattle.coordinator_log.proofs.Wishes.{clear_wished, synced_same, unless_rose}
use Rattle.coordinator_log.proofs.device.clear.Goals as goal

pub returns-in_err-write-clause-images : goal.returns-in_err-write-clause-images
returns-in_err-write-clause-images g c h only is_open f left = clear_stage log_reads c.args.k _ _ _ _ c.requires.slot c.slot_at-gate.ensures is_open only (c.write.ensures.images h) f left

pub returns-in_err-sync-clause-images : goal.returns-in_err-sync-clause-images
returns-in_err-sync-clause-images g c h only is_open f left = clear_stage log_reads c.args.k _ _ _ _ c.requires.slot c.slot_at-gate.ensures is_open only (c.write.ensures.images h) f (c.sync.ensures.images h f left)

pub returns-clause-images : goal.returns-clause-images
returns-clause-images g c h only is_open f left = clear_stage log_reads c.args.k _ _ _ _ c.requires.slot c.slot_at-gate.ensures is_open only (c.write.ensures.images h) f (c.sync.ensures.images h f left)

pub returns-clause-done : goal.returns-clause-done
returns-clause-done g c h only is_open =
    let b = g.D.Disk.seen c.args.disk.now in
    let gate = c.slot_at-gate.result in
    let room : gate + 1 ≤ length b = omega (arith, g.met.D.Disk.long c.args.disk.now b h (g.met.D.Disk.sees c.args.disk.now h), c.requires.size, c.requires.slot, c.slot_at-gate.ensures) in
    along b _ _ _ (c.in_ok-sync.ensures.seen h) (cleared_stage log_reads c.args.k gate b _ c.requires.slot c.slot_at-gate.ensures (c.in_ok-write.ensures.done h) room)

pub returns-in_err-sync-clause-broken : goal.returns-in_err-sync-clause-broken
returns-in_err-sync-clause-broken g c =
    on_err c.from_residual-in_err-sync.result _
    (breaks_at 1 2 c.args.armed.now _ _ _ (omega arith) (passed_more 0 _ _ _ (none_passed _) c.in_ok-write.ensures.counts.passed c.write.ensures.counts.counted) c.sync.ensures.counts.counted
    (λ u. subst (λ (n : ℕ). Rose n (g.D.Disk.faults c.sync.new.disk)) c.in_ok-write.ensures.counts.smooth (c.in_err-sync.ensures.counts.cause u)))

pub returns-in_err-write-clause-crashed : goal.returns-in_err-write-clause-crashed
returns-in_err-write-clause-crashed g c h only is_open s is none =
    let b = g.D.Disk.seen c.args.disk.now in
    let gate = c.slot_at-gate.result in
    let at = reached_next 0 s _ _ _ (none_passed _) c.write.ensures.counts.counted is none in
    let left = c.write.ensures.crashed h s.image at.0 in
    let room : gate + 1 ≤ length b = omega (arith, g.met.D.Disk.long c.args.disk.now b h (g.met.D.Disk.sees c.args.disk.now h), c.requires.size, c.requires.slot, c.slot_at-gate.ensures) in
    let cleared = cleared_stage log_reads c.args.k gate b _ c.requires.slot c.slot_at-gate.ensures refl room in
    (left.0, left.1, unless_fault (λ e. by_test _ _ b _ _ _ (done_at 1 0 s at.1) (gate_stopped s.image 0 b b _ gate _ _ _ e (same_bytes b b refl) cleared)) left.2)

pub returns-in_err-sync-clause-crashed : goal.returns-in_err-sync-clause-crashed
returns-in_err-sync-clause-crashed g c h only is_open s is none =
    let b = g.D.Disk.seen c.args.disk.now in
    let gate = c.slot_at-gate.result in
    let at = reached_next 1 s _ _ _ (passed_more 0 _ _ _ (none_passed _) c.in_ok-write.ensures.counts.passed c.write.ensures.counts.counted) c.sync.ensures.counts.counted is none in
    let left = c.sync.ensures.crashed h s.image at.0 in
    let room : gate + 1 ≤ length b = omega (arith, g.met.D.Disk.long c.args.disk.now b h (g.met.D.Disk.sees c.args.disk.now h), c.requires.size, c.requires.slot, c.slot_at-gate.ensures) in
    let cleared = cleared_stage log_reads c.args.k gate b _ c.requires.slot c.slot_at-gate.ensures (c.in_ok-write.ensures.done h) room in
    (left.0, left.1, inr (by_test _ _ b _ _ _ (done_first 1 s (omega (arith, at.1))) (along b _ _ _ left.2 cleared)))

pub returns-clause-crashed : goal.returns-clause-crashed
returns-clause-crashed g c h only is_open s is none =
    absurd (still_armed 2 s _ _ (passed_more 1 _ _ _ (passed_more 0 _ _ _ (none_passed _) c.in_ok-write.ensures.counts.passed c.write.ensures.counts.counted) c.in_ok-sync.ensures.counts.passed c.sync.ensures.counts.counted) is none)

pub returns-in_err-write-clause-kept : goal.returns-in_err-write-clause-kept
returns-in_err-write-clause-kept g c h only is_open s is none second keep = absurd (let at = reached_next 0 s _ _ _ (none_passed _) c.write.ensures.counts.counted is none in omega (arith, at.1))

pub returns-in_err-sync-clause-kept : goal.returns-in_err-sync-clause-kept
returns-in_err-sync-clause-kept g c h only is_open s is none second keep =
    let b = g.D.Disk.seen c.args.disk.now in
    let gate = c.slot_at-gate.result in
    let at = reached_next 1 s _ _ _ (passed_more 0 _ _ _ (none_passed _) c.in_ok-write.ensures.counts.passed c.write.ensures.counts.counted) c.sync.ensures.counts.counted is none in
    let room : gate + 1 ≤ length b = omega (arith, g.met.D.Disk.long c.args.disk.now b h (g.met.D.Disk.sees c.args.disk.now h), c.requires.size, c.requires.slot, c.slot_at-gate.ensures) in
    let cleared = cleared_stage log_reads c.args.k gate b _ c.requires.slot c.slot_at-gate.ensures (c.in_ok-write.ensures.done h) room in
    elim (c.sync.ensures.kept h (at.0 ∙ ap Some keep)) [
      | inl rose ↦ inl (subst (λ (n : ℕ). Rose n (g.D.Disk.faults c.sync.new.disk)) c.in_ok-write.ensures.counts.smooth rose)
      | inr alone ↦ inr (λ f on. along b _ f _ (alone f on) cleared)
    ]

pub returns-clause-kept : goal.returns-clause-kept
returns-clause-kept g c h only is_open s is none second keep =
    absurd (still_armed 2 s _ _ (passed_more 1 _ _ _ (passed_more 0 _ _ _ (none_passed _) c.in_ok-write.ensures.counts.passed c.write.ensures.counts.counted) c.in_ok-sync.ensures.counts.passed c.sync.ensures.counts.counted) is none)

pub returns-clause-synced : goal.returns-clause-synced
returns-clause-synced g c o = synced_same (g.D.Disk.images c.write.new.disk) _ (c.in_ok-sync.ensures.synced o)

pub returns-in_err-write-clause-found : goal.returns-in_err-write-clause-found
returns-in_err-write-clause-found g c o same s is none =
    let h = g.met.D.Disk.tells o in
    let b = g.D.Disk.seen c.args.disk.now in
    let gate = c.slot_at-gate.result in
    let at = reached_next 0 s _ _ _ (none_passed _) c.write.ensures.counts.counted is none in
    let room : gate + 1 ≤ length b = omega (arith, g.met.D.Disk.long c.args.disk.now b h (g.met.D.Disk.sees c.args.disk.now h), c.requires.size, c.requires.slot, c.slot_at-gate.ensures) in
    let left = clear_wished s.image c.args.k gate b (g.D.Disk.images c.args.disk.now) c.requires.slot c.slot_at-gate.ensures room (g.met.D.Disk.kept c.args.disk.now o) same in
    unless_fault (λ e. along b _ _ _ e left) (c.write.ensures.found o s.image at.0)

pub returns-in_err-sync-clause-found : goal.returns-in_err-sync-clause-found
returns-in_err-sync-clause-found g c o same s is none =
    let h = g.met.D.Disk.tells o in
    let b = g.D.Disk.seen c.args.disk.now in
    let gate = c.slot_at-gate.result in
    let at = reached_next 1 s _ _ _ (passed_more 0 _ _ _ (none_passed _) c.in_ok-write.ensures.counts.passed c.write.ensures.counts.counted) c.sync.ensures.counts.counted is none in
    let room : gate + 1 ≤ length b = omega (arith, g.met.D.Disk.long c.args.disk.now b h (g.met.D.Disk.sees c.args.disk.now h), c.requires.size, c.requires.slot, c.slot_at-gate.ensures) in
    let left = clear_wished s.image c.args.k gate b (g.D.Disk.images c.args.disk.now) c.requires.slot c.slot_at-gate.ensures room (g.met.D.Disk.kept c.args.disk.now o) same in
    unless_rose _ _ _ c.in_ok-write.ensures.counts.smooth (λ e. along b _ _ _ (e ∙ ap (wished s.image) (c.in_ok-write.ensures.put o)) left) (c.sync.ensures.found o s.image at.0)

pub returns-clause-found : goal.returns-clause-found
returns-clause-found g c o same s is none =
    absurd (still_armed 2 s _ _ (passed_more 1 _ _ _ (passed_more 0 _ _ _ (none_passed _) c.in_ok-write.ensures.counts.passed c.write.ensures.counts.counted) c.in_ok-sync.ensures.counts.passed c.sync.ensures.counts.counted) is none)
