use Rattle.std.proofs.Common.{◌≡◌, ◌≤◌, Some, List, IfOk, IfErr, OnErr, true, ap, refl, slice_get, slice_set, subst, sym, ◌+◌, ◌*◌}
use Rattle.std.proofs.lemmas.Option.{slice_get_read}
use Rattle.std.specs.Vec.{vec_len}
use Rattle.dtx_values.specs.declared.number.TheConstants.CloneNo.{MAX as CLONES}
use Rattle.transactions.specs.Enlisting.{ClonesAt, MayNotClone, NumbersClones}
use Rattle.transactions.specs.Slots.{AreSame, Standing, is_live}
use Rattle.transactions.specs.State.{LiveState}
use Rattle.transactions.proofs.Calls.{may_not_make}
use Rattle.transactions.proofs.Enlisted.{clone_leaves, cloned_at, not_cloned_at}
use Rattle.transactions.proofs.Fitted.{fits_set}
use Rattle.transactions.proofs.Standing.{live_here, live_number, live_was, numbered_set, others_same, still_live}
use Rattle.transactions.proofs.manager.TransactionManager.clone_in.Goals as goal

pub invariant_of-self-2 : goal.invariant_of-self-2
invariant_of-self-2 g c =
    let xs = c.self.inside.lives.items in
    let x = c.in-Some.live.now in
    let y = c.clone_next-cloned.new.self in
    let e = c.clone_next-cloned.ensures in
    let there : slice_get xs c.index.result ≡ Some x = slice_get_read xs (vec_len c.self.inside.lives) c.index.result x c.self.inside.lives.ok.0 (c.in-Some.ensures.variant.0 refl) c.in-Some.ensures.value in (
      numbered_set xs c.index.result x y there c.self.invariant.0 (clone_leaves g.D.Disk.faults c.self.inside.log c.args.k c.clone_next-cloned.result x y e.cloned e.failed).1 c.is_sound.ensures.own,
      λ honest. fits_set g.D.Disk.image c.self.inside.log xs c.index.result x y (65536 * c.self.inside.epoch + c.self.inside.given) there (clone_leaves g.D.Disk.faults c.self.inside.log c.args.k c.clone_next-cloned.result x y e.cloned e.failed).1 e.fits (c.self.invariant.1 honest),
      c.self.invariant.2,
      c.self.invariant.3,
    )

pub returns-clause-cloned : goal.returns-clause-cloned
returns-clause-cloned g c =
    let xs = c.self.inside.lives.items in
    let i = c.index.result in
    let x = c.in-Some.live.now in
    let y = c.clone_next-cloned.new.self in
    let e = c.clone_next-cloned.ensures in
    let t = c.args.t in
    let there : slice_get xs i ≡ Some x = slice_get_read xs (vec_len c.self.inside.lives) i x c.self.inside.lives.ok.0 (c.in-Some.ensures.variant.0 refl) c.in-Some.ensures.value in
    let used : is_live t x ≡ true = sym c.if-not-is_live.ensures in
    let now = live_here t xs i x y c.index.ensures.place there (still_live t x y (clone_leaves g.D.Disk.faults c.self.inside.log c.args.k c.clone_next-cloned.result x y e.cloned e.failed) used) in
    let number = live_number t x used in
    subst (λ (s : Standing _ _). IfOk c.clone_next-cloned.result (λ r. ClonesAt g.D.Disk.faults s.log t c.args.k r.0 r.1 s.lives (slice_set xs i y))) c.self.view_is
    (cloned_at g.D.Disk.faults c.self.inside.log t c.args.k c.clone_next-cloned.result xs (slice_set xs i y) x y (live_was t xs i x c.index.ensures.place there used) now number e.cloned)

pub returns-clause-others : goal.returns-clause-others
returns-clause-others g c =
    let xs = c.self.inside.lives.items in
    let x = c.in-Some.live.now in
    let y = c.clone_next-cloned.new.self in
    let there : slice_get xs c.index.result ≡ Some x = slice_get_read xs (vec_len c.self.inside.lives) c.index.result x c.self.inside.lives.ok.0 (c.in-Some.ensures.variant.0 refl) c.in-Some.ensures.value in
    subst (λ (l : List LiveState). AreSame c.args.t l (slice_set xs c.index.result c.clone_next-cloned.new.self)) (ap (λ (s : Standing _ _). s.lives) c.self.view_is)
    (others_same c.args.t xs c.index.result x y c.index.ensures.place there (sym c.if-not-is_live.ensures) (clone_leaves g.D.Disk.faults c.self.inside.log c.args.k c.clone_next-cloned.result x y c.clone_next-cloned.ensures.cloned c.clone_next-cloned.ensures.failed).1)

pub returns-clause-failed : goal.returns-clause-failed
returns-clause-failed g c =
    let xs = c.self.inside.lives.items in
    let i = c.index.result in
    let x = c.in-Some.live.now in
    let y = c.clone_next-cloned.new.self in
    let e = c.clone_next-cloned.ensures in
    let t = c.args.t in
    let there : slice_get xs i ≡ Some x = slice_get_read xs (vec_len c.self.inside.lives) i x c.self.inside.lives.ok.0 (c.in-Some.ensures.variant.0 refl) c.in-Some.ensures.value in
    let used : is_live t x ≡ true = sym c.if-not-is_live.ensures in
    let now = live_here t xs i x y c.index.ensures.place there (still_live t x y (clone_leaves g.D.Disk.faults c.self.inside.log c.args.k c.clone_next-cloned.result x y e.cloned e.failed) used) in
    subst (λ (s : Standing _ _). OnErr c.clone_next-cloned.result (NumbersClones t s.lives (slice_set xs i y))) c.self.view_is
    (not_cloned_at t c.clone_next-cloned.result xs (slice_set xs i y) x y (live_was t xs i x c.index.ensures.place there used) now e.failed)

pub returns-clause-cause : goal.returns-clause-cause
returns-clause-cause g c =
    let xs = c.self.inside.lives.items in
    let i = c.index.result in
    let x = c.in-Some.live.now in
    let there : slice_get xs i ≡ Some x = slice_get_read xs (vec_len c.self.inside.lives) i x c.self.inside.lives.ok.0 (c.in-Some.ensures.variant.0 refl) c.in-Some.ensures.value in
    subst (λ (s : Standing _ _). IfErr c.clone_next-cloned.result (MayNotClone c.args.t s.lives)) c.self.view_is
    (may_not_make (λ (v : LiveState). CLONES ≤ v.cloned) c.args.t c.clone_next-cloned.result xs x (live_was c.args.t xs i x c.index.ensures.place there (sym c.if-not-is_live.ensures)) c.clone_next-cloned.ensures.cause)
