use Rattle.std.proofs.Common.{◌≡◌, ◌<◌, refl, arith, inl, true, sym, ap, ◌∙◌, subst, List, ℕ, Option, None, Ok, length}
use Rattle.std.specs.Prelude.{IsTrue, is_ok}
use Rattle.dtx_model.specs.Log.{CommitRecord, log_has}
use Rattle.slotted.proofs.Results.{after_err}
use Rattle.slotted.proofs.SlotReads.{agrees_with, either_whole, file_agrees, file_either, file_with, slot_open}
use Rattle.coordinator_log.specs.Slots.{Agrees, IsOpen, open_records}
use Rattle.coordinator_log.proofs.Agreement.{log_by_test, log_unless_test, all_freed}
use Rattle.coordinator_log.proofs.Files.{log_file}
use Rattle.coordinator_log.proofs.SlotWrites.{unless_fault}
use Rattle.coordinator_log.proofs.Stops.{image_kept, used_up}
use Rattle.coordinator_log.proofs.log.Log.free.Given.{Over}
use Rattle.coordinator_log.proofs.log.Log.free.Goals.{After-clear}
use Rattle.coordinator_log.proofs.log.Log.free.Goals as goal

-- the slot is one of the log's
inside : (g : Over) (c : After-clear g) → c.in-Some.k < length c.self.inside.slots
inside g c = let s = c.in-Some.ensures.some in omega (arith, s.0, c.in-Some.ensures.many)

-- it is open on a disk that tells what it holds
opened : (g : Over) (c : After-clear g) → IsTrue g.D.Disk.honest → IsOpen c.in-Some.k (g.D.Disk.seen c.self.inside.disk)
opened g c h = slot_open log_file _ _ c.self.inside.slots (c.self.invariant.agrees h c.if-not-self.false) c.in-Some.k (inside g c) c.in-Some.ensures.some.1

-- whatever is left there is a log
whole : (g : Over) (c : After-clear g) → IsTrue g.D.Disk.honest → (f : List ℕ) → g.D.Disk.image c.clear.new.disk f → is_ok (log_has f) ≡ true
whole g c h f left =
    let a = c.self.invariant.agrees h c.if-not-self.false in
    either_whole _ _ _ (file_either log_file _ _ c.self.inside.slots a c.in-Some.k (inside g c) None _ f refl (c.clear.ensures.images h a.durable (opened g c h) f left))

pub returns-then-not-self-clause-images : goal.returns-then-not-self-clause-images
returns-then-not-self-clause-images g c = rw (← c.self.view_is) (λ h up. record { images = λ f left. inl (file_agrees log_file _ _ _ (c.self.invariant.agrees h up) f left); durable = tt })

pub returns-in_default-clause-images : goal.returns-in_default-clause-images
returns-in_default-clause-images g c = rw (← c.self.view_is) (λ h up. record { images = λ f left. inl (file_agrees log_file _ _ _ (c.self.invariant.agrees h up) f left); durable = tt })

pub returns-in_err-clear-clause-images : goal.returns-in_err-clear-clause-images
returns-in_err-clear-clause-images g c =
    let b = (goal.at.returns-in_err-clear-clause-images g c).After-clear in
    rw (← c.self.view_is)
    (λ h up. let a = c.self.invariant.agrees h up in
    record {
      images = λ f left. file_either log_file _ _ c.self.inside.slots a c.in-Some.k (inside g b) None _ f c.in-Some.ensures.rest (c.clear.ensures.images h a.durable (opened g b h) f left);
      durable = after_err c.from_residual.result _ _ c.from_residual.ensures.1;
    })

pub returns-in_err-clear-clause-crashed : goal.returns-in_err-clear-clause-crashed
returns-in_err-clear-clause-crashed g c =
    let b = (goal.at.returns-in_err-clear-clause-crashed g c).After-clear in
    rw (← c.self.view_is)
    (λ h up stop is none. let a = c.self.invariant.agrees h up in
    let left = c.clear.ensures.crashed h a.durable (opened g b h) stop is none in
    (left.0, left.1, unless_fault (log_by_test _ _ c.self.inside.slots a c.in-Some.k (inside g b) None _ _ _ c.in-Some.ensures.rest) left.2))

pub invariant_of-self : goal.invariant_of-self
invariant_of-self g c = record {
  agrees = λ h up. absurd cc;
  synced = λ o up. absurd cc;
  whole = whole g (goal.at.invariant_of-self g c).After-clear;
  room = let kept = c.self.invariant.room in omega (arith, kept, c.clear.ensures.size);
}

pub invariant_of-self-2 : goal.invariant_of-self-2
invariant_of-self-2 g c = record {
  agrees = λ h up.
      let b = (goal.at.invariant_of-self-2 g c).After-clear in
      let a = c.self.invariant.agrees h c.if-not-self.false in
      subst (λ (l : List (Option CommitRecord)). Agrees (g.D.Disk.seen c.clear.new.disk) (g.D.Disk.image c.clear.new.disk) l) (sym c.set.ensures.slots)
      (agrees_with log_file _ _ c.self.inside.slots a c.in-Some.k (inside g b) None _ _ (c.in_ok-clear.ensures.done h a.durable (opened g b h)) (c.in_ok-clear.ensures.durable h));
  synced = λ o up. c.in_ok-clear.ensures.synced o;
  whole = whole g (goal.at.invariant_of-self-2 g c).After-clear;
  room = let kept = c.self.invariant.room in omega (arith, kept, c.clear.ensures.size);
}

pub returns-clause-durable : goal.returns-clause-durable
returns-clause-durable g c h f left =
    let b = (goal.at.returns-clause-durable g c).After-clear in
    let a = c.self.invariant.agrees h c.if-not-self.false in
    file_agrees log_file _ _ _ (agrees_with log_file _ _ c.self.inside.slots a c.in-Some.k (inside g b) None _ _ (c.in_ok-clear.ensures.done h a.durable (opened g b h)) (c.in_ok-clear.ensures.durable h)) f left
    ∙ ap (λ (l : List (Option CommitRecord)). Ok (open_records l)) (sym c.set.ensures.slots)

pub returns-clause-images : goal.returns-clause-images
returns-clause-images g c =
    let b = (goal.at.returns-clause-images g c).After-clear in
    rw (← c.self.view_is)
    (λ h up. let a = c.self.invariant.agrees h up in
    record {
      images = λ f left. file_either log_file _ _ c.self.inside.slots a c.in-Some.k (inside g b) None _ f c.in-Some.ensures.rest (c.clear.ensures.images h a.durable (opened g b h) f left);
      durable = all_freed _ _ c.self.inside.slots a c.in-Some.k (inside g b) _ _ _ c.in-Some.ensures.rest (c.in_ok-clear.ensures.done h a.durable (opened g b h)) (c.in_ok-clear.ensures.durable h);
    })

pub returns-in_err-clear-clause-used : goal.returns-in_err-clear-clause-used
returns-in_err-clear-clause-used g c = rw (← c.self.view_is) (λ stopped. used_up _ _ _ _ c.in_err-clear.ensures.broken)

pub returns-in_err-clear-clause-image : goal.returns-in_err-clear-clause-image
returns-in_err-clear-clause-image g c = rw (← c.self.view_is) (image_kept _ _ _ c.in_err-clear.ensures.broken.counted)

pub returns-clause-image : goal.returns-clause-image
returns-clause-image g c = rw (← c.self.view_is) (image_kept _ _ _ c.in_ok-clear.ensures.passed.1)

pub returns-in_err-clear-clause-kept : goal.returns-in_err-clear-clause-kept
returns-in_err-clear-clause-kept g c =
    let b = (goal.at.returns-in_err-clear-clause-kept g c).After-clear in
    rw (← c.self.view_is)
    (λ h up stop is none second keep. let a = c.self.invariant.agrees h up in
    unless_fault (λ has f on. file_with log_file _ _ c.self.inside.slots a c.in-Some.k (inside g b) None f (has f on) ∙ ap (λ (l : List CommitRecord). Ok l) c.in-Some.ensures.rest)
    (c.clear.ensures.kept h a.durable (opened g b h) stop is none second keep))

pub returns-in_err-clear-clause-found : goal.returns-in_err-clear-clause-found
returns-in_err-clear-clause-found g c =
    let b = (goal.at.returns-in_err-clear-clause-found g c).After-clear in
    rw (← c.self.view_is)
    (λ o up stop is none. let a = c.self.invariant.agrees (g.met.D.Disk.tells o) up in
    unless_fault (log_unless_test _ _ c.self.inside.slots a c.in-Some.k (inside g b) None _ _ _ c.in-Some.ensures.rest) (c.clear.ensures.found o (c.self.invariant.synced o up) stop is none))
