use Rattle.std.proofs.Common.{◌≡◌, ◌<◌, refl, arith, inl, true, sym, ap, ◌∙◌, subst, List, ℕ, Option, None, Some, Ok, length}
use Rattle.std.specs.Prelude.{IsTrue, is_ok}
use Rattle.std.specs.List.{insert}
use Rattle.dtx_model.specs.Log.{CommitRecord, log_has, record_of}
use Rattle.slotted.proofs.Results.{after_err}
use Rattle.slotted.proofs.SlotReads.{agrees_with, either_whole, file_agrees, file_either, file_with, slot_formed}
use Rattle.coordinator_log.specs.Slots.{Agrees, IsClosed, open_records}
use Rattle.coordinator_log.proofs.Agreement.{insert_lowest, log_by_test, all_appended, either_appended}
use Rattle.coordinator_log.proofs.Files.{log_file}
use Rattle.coordinator_log.proofs.SlotWrites.{unless_fault}
use Rattle.coordinator_log.proofs.Stops.{image_kept, used_up}
use Rattle.coordinator_log.proofs.log.Log.append.Given.{Over}
use Rattle.coordinator_log.proofs.log.Log.append.Goals.{After-store}
use Rattle.coordinator_log.proofs.log.Log.append.Goals as goal

-- the slot is one of the log's
inside : (g : Over) (c : After-store g) → c.in-Some.k < length c.self.inside.slots
inside g c = let s = c.in-Some.ensures.some in omega (arith, s.0, c.in-Some.ensures.many)

-- it is closed on a disk that tells what it holds
closed : (g : Over) (c : After-store g) → IsTrue g.D.Disk.honest → IsClosed c.in-Some.k (g.D.Disk.seen c.self.inside.disk)
closed g c h = slot_formed log_file _ _ c.self.inside.slots (c.self.invariant.agrees h c.if-not-self.false) c.in-Some.k (inside g c) None c.in-Some.ensures.some.1

-- whatever is left there is a log
whole : (g : Over) (c : After-store g) → IsTrue g.D.Disk.honest → (f : List ℕ) → g.D.Disk.image c.store.new.disk f → is_ok (log_has f) ≡ true
whole g c h f left =
    let a = c.self.invariant.agrees h c.if-not-self.false in
    either_whole _ _ _ (file_either log_file _ _ c.self.inside.slots a c.in-Some.k (inside g c) (Some (record_of c.args.r.now)) _ f refl (c.store.ensures.images h a.durable (closed g c h) f left))

pub returns-then-not-self-clause-images : goal.returns-then-not-self-clause-images
returns-then-not-self-clause-images g c = rw (← c.self.view_is) (λ h up. record { images = λ f left. inl (file_agrees log_file _ _ _ (c.self.invariant.agrees h up) f left); durable = tt })

pub returns-in_default-clause-images : goal.returns-in_default-clause-images
returns-in_default-clause-images g c = rw (← c.self.view_is) (λ h up. record { images = λ f left. inl (file_agrees log_file _ _ _ (c.self.invariant.agrees h up) f left); durable = tt })

pub returns-in_err-store-clause-images : goal.returns-in_err-store-clause-images
returns-in_err-store-clause-images g c =
    let b = (goal.at.returns-in_err-store-clause-images g c).After-store in
    rw (← c.self.view_is)
    (λ h up. let a = c.self.invariant.agrees h up in
    record {
      images = λ f left. either_appended _ _ c.self.inside.slots a c.in-Some.k (inside g b) (record_of c.args.r.now) f c.in-Some.ensures.some.2 (c.store.ensures.images h a.durable (closed g b h) f left);
      durable = after_err c.from_residual.result _ _ c.from_residual.ensures.1;
    })

pub returns-in_err-store-clause-crashed : goal.returns-in_err-store-clause-crashed
returns-in_err-store-clause-crashed g c =
    let b = (goal.at.returns-in_err-store-clause-crashed g c).After-store in
    let ss = c.self.inside.slots in
    let k = c.in-Some.k in
    let r = record_of c.args.r.now in
    rw (← c.self.view_is)
    (λ h up stop is none. let a = c.self.invariant.agrees h up in
    let left = c.store.ensures.crashed h a.durable (closed g b h) stop is none in
    let new = insert_lowest ss k r c.in-Some.ensures.some.2 (inside g b) ∙ ap (λ (j : ℕ). insert (open_records ss) j r) (sym c.in-Some.ensures.some.2) in
    (left.0, left.1, unless_fault (log_by_test _ _ ss a k (inside g b) (Some r) _ _ _ new) left.2))

pub invariant_of-self : goal.invariant_of-self
invariant_of-self g c = record {
  agrees = λ h up. absurd cc;
  synced = λ o up. absurd cc;
  whole = whole g (goal.at.invariant_of-self g c).After-store;
  room = let kept = c.self.invariant.room in omega (arith, kept, c.store.ensures.size);
}

pub invariant_of-self-2 : goal.invariant_of-self-2
invariant_of-self-2 g c = record {
  agrees = λ h up.
      let b = (goal.at.invariant_of-self-2 g c).After-store in
      let a = c.self.invariant.agrees h c.if-not-self.false in
      subst (λ (l : List (Option CommitRecord)). Agrees (g.D.Disk.seen c.store.new.disk) (g.D.Disk.image c.store.new.disk) l) (sym c.set.ensures.slots)
      (agrees_with log_file _ _ c.self.inside.slots a c.in-Some.k (inside g b) (Some (record_of c.args.r.now)) _ _ (c.in_ok-store.ensures.done h a.durable (closed g b h)) (c.in_ok-store.ensures.durable h));
  synced = λ o up. c.in_ok-store.ensures.synced o;
  whole = whole g (goal.at.invariant_of-self-2 g c).After-store;
  room = let kept = c.self.invariant.room in omega (arith, kept, c.store.ensures.size);
}

pub returns-clause-records : goal.returns-clause-records
returns-clause-records g c =
    let b = (goal.at.returns-clause-records g c).After-store in
    rw (← c.self.view_is) (ap open_records c.set.ensures.slots ∙ insert_lowest c.self.inside.slots c.in-Some.k (record_of c.args.r.now) c.in-Some.ensures.some.2 (inside g b))

pub returns-clause-durable : goal.returns-clause-durable
returns-clause-durable g c h f left =
    let b = (goal.at.returns-clause-durable g c).After-store in
    let a = c.self.invariant.agrees h c.if-not-self.false in
    file_agrees log_file _ _ _
    (agrees_with log_file _ _ c.self.inside.slots a c.in-Some.k (inside g b) (Some (record_of c.args.r.now)) _ _ (c.in_ok-store.ensures.done h a.durable (closed g b h)) (c.in_ok-store.ensures.durable h)) f left
    ∙ ap (λ (l : List (Option CommitRecord)). Ok (open_records l)) (sym c.set.ensures.slots)

pub returns-clause-images : goal.returns-clause-images
returns-clause-images g c =
    let b = (goal.at.returns-clause-images g c).After-store in
    let ss = c.self.inside.slots in
    let k = c.in-Some.k in
    let r = record_of c.args.r.now in
    rw (← c.self.view_is)
    (λ h up. let a = c.self.invariant.agrees h up in
    record {
      images = λ f left. either_appended _ _ ss a k (inside g b) r f c.in-Some.ensures.some.2 (c.store.ensures.images h a.durable (closed g b h) f left);
      durable = all_appended _ _ ss a k (inside g b) r _ _ c.in-Some.ensures.some.2 (c.in_ok-store.ensures.done h a.durable (closed g b h)) (c.in_ok-store.ensures.durable h);
    })

pub returns-in_err-store-clause-used : goal.returns-in_err-store-clause-used
returns-in_err-store-clause-used g c = rw (← c.self.view_is) (λ stopped. used_up _ _ _ _ c.in_err-store.ensures.broken)

pub returns-in_err-store-clause-image : goal.returns-in_err-store-clause-image
returns-in_err-store-clause-image g c = rw (← c.self.view_is) (image_kept _ _ _ c.in_err-store.ensures.broken.counted)

pub returns-clause-image : goal.returns-clause-image
returns-clause-image g c = rw (← c.self.view_is) (image_kept _ _ _ c.in_ok-store.ensures.passed.1)

pub returns-in_err-store-clause-kept : goal.returns-in_err-store-clause-kept
returns-in_err-store-clause-kept g c =
    let b = (goal.at.returns-in_err-store-clause-kept g c).After-store in
    let ss = c.self.inside.slots in
    let k = c.in-Some.k in
    let r = record_of c.args.r.now in
    rw (← c.self.view_is)
    (λ h up stop is none third keep. let a = c.self.invariant.agrees h up in
    let new = insert_lowest ss k r c.in-Some.ensures.some.2 (inside g b) ∙ ap (λ (j : ℕ). insert (open_records ss) j r) (sym c.in-Some.ensures.some.2) in
    unless_fault (λ has f on. file_with log_file _ _ ss a k (inside g b) (Some r) f (has f on) ∙ ap (λ (l : List CommitRecord). Ok l) new)
    (c.store.ensures.kept h a.durable (closed g b h) stop is none third keep))

pub returns-in_err-store-clause-found : goal.returns-in_err-store-clause-found
returns-in_err-store-clause-found g c =
    let b = (goal.at.returns-in_err-store-clause-found g c).After-store in
    let ss = c.self.inside.slots in
    let k = c.in-Some.k in
    let r = record_of c.args.r.now in
    rw (← c.self.view_is)
    (λ o up stop is none. let h = g.met.D.Disk.tells o in
    let a = c.self.invariant.agrees h up in
    let new = insert_lowest ss k r c.in-Some.ensures.some.2 (inside g b) ∙ ap (λ (j : ℕ). insert (open_records ss) j r) (sym c.in-Some.ensures.some.2) in
    unless_fault (log_by_test _ _ ss a k (inside g b) (Some r) _ _ _ new) (c.store.ensures.found o (c.self.invariant.synced o up) (closed g b h) stop is none))
