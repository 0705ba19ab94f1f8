use Rattle.std.proofs.Common.{◌≡◌, ◌≤◌, Some, List, IfOk, IfErr, OnErr, true, ap, refl, slice_get, slice_set, subst, sym, ◌+◌, ◌*◌}
use Rattle.std.proofs.lemmas.Option.{slice_get_read}
use Rattle.std.specs.Vec.{vec_len}
use Rattle.dtx_values.specs.declared.number.TheConstants.EnlNo.{MAX as ENLISTMENTS}
use Rattle.transactions.specs.Enlisting.{EnlistsAt, MayNotEnlist, NumbersEnlistments}
use Rattle.transactions.specs.Slots.{AreSame, Standing, is_live}
use Rattle.transactions.specs.State.{LiveState}
use Rattle.transactions.proofs.Calls.{may_not_make}
use Rattle.transactions.proofs.Enlisted.{enlist_leaves, enlisted_at, not_enlisted_at}
use Rattle.transactions.proofs.Fitted.{fits_set}
use Rattle.transactions.proofs.Standing.{live_here, live_number, live_was, numbered_set, others_same, still_live}
use Rattle.transactions.proofs.manager.TransactionManager.enlist.Goals as goal

pub invariant_of-self-2 : goal.invariant_of-self-2
invariant_of-self-2 g c =
    let xs = c.self.inside.lives.items in
    let x = c.in-Some.live.now in
    let y = c.enlist-enlisted.new.self in
    let e = c.enlist-enlisted.ensures in
    let there : slice_get xs c.index.result ≡ Some x = slice_get_read xs (vec_len c.self.inside.lives) c.index.result x c.self.inside.lives.ok.0 (c.in-Some.ensures.variant.0 refl) c.in-Some.ensures.value in (
      numbered_set xs c.index.result x y there c.self.invariant.0 (enlist_leaves g.D.Disk.faults c.self.inside.log c.args.k c.enlist-enlisted.result x y e.enlisted e.failed).1 c.is_sound.ensures.own,
      λ honest. fits_set g.D.Disk.image c.self.inside.log xs c.index.result x y (65536 * c.self.inside.epoch + c.self.inside.given) there (enlist_leaves g.D.Disk.faults c.self.inside.log c.args.k c.enlist-enlisted.result x y e.enlisted e.failed).1 e.fits (c.self.invariant.1 honest),
      c.self.invariant.2,
      c.self.invariant.3,
    )

pub returns-clause-enlisted : goal.returns-clause-enlisted
returns-clause-enlisted g c =
    let xs = c.self.inside.lives.items in
    let i = c.index.result in
    let x = c.in-Some.live.now in
    let y = c.enlist-enlisted.new.self in
    let e = c.enlist-enlisted.ensures in
    let t = c.args.t in
    let there : slice_get xs i ≡ Some x = slice_get_read xs (vec_len c.self.inside.lives) i x c.self.inside.lives.ok.0 (c.in-Some.ensures.variant.0 refl) c.in-Some.ensures.value in
    let used : is_live t x ≡ true = sym c.if-not-is_live.ensures in
    let now = live_here t xs i x y c.index.ensures.place there (still_live t x y (enlist_leaves g.D.Disk.faults c.self.inside.log c.args.k c.enlist-enlisted.result x y e.enlisted e.failed) used) in
    let number = live_number t x used in
    subst (λ (s : Standing _ _). IfOk c.enlist-enlisted.result (λ r. EnlistsAt g.D.Disk.faults s.log t c.args.k r.0 r.1 r.2 s.lives (slice_set xs i y))) c.self.view_is
    (enlisted_at g.D.Disk.faults c.self.inside.log t c.args.k c.enlist-enlisted.result xs (slice_set xs i y) x y (live_was t xs i x c.index.ensures.place there used) now number e.enlisted)

pub returns-clause-failed : goal.returns-clause-failed
returns-clause-failed g c =
    let xs = c.self.inside.lives.items in
    let i = c.index.result in
    let x = c.in-Some.live.now in
    let y = c.enlist-enlisted.new.self in
    let e = c.enlist-enlisted.ensures in
    let t = c.args.t in
    let there : slice_get xs i ≡ Some x = slice_get_read xs (vec_len c.self.inside.lives) i x c.self.inside.lives.ok.0 (c.in-Some.ensures.variant.0 refl) c.in-Some.ensures.value in
    let used : is_live t x ≡ true = sym c.if-not-is_live.ensures in
    let now = live_here t xs i x y c.index.ensures.place there (still_live t x y (enlist_leaves g.D.Disk.faults c.self.inside.log c.args.k c.enlist-enlisted.result x y e.enlisted e.failed) used) in
    subst (λ (s : Standing _ _). OnErr c.enlist-enlisted.result (NumbersEnlistments t s.lives (slice_set xs i y))) c.self.view_is
    (not_enlisted_at t c.enlist-enlisted.result xs (slice_set xs i y) x y (live_was t xs i x c.index.ensures.place there used) now e.failed)

pub returns-clause-others : goal.returns-clause-others
returns-clause-others g c =
    let xs = c.self.inside.lives.items in
    let x = c.in-Some.live.now in
    let y = c.enlist-enlisted.new.self in
    let there : slice_get xs c.index.result ≡ Some x = slice_get_read xs (vec_len c.self.inside.lives) c.index.result x c.self.inside.lives.ok.0 (c.in-Some.ensures.variant.0 refl) c.in-Some.ensures.value in
    subst (λ (l : List LiveState). AreSame c.args.t l (slice_set xs c.index.result c.enlist-enlisted.new.self)) (ap (λ (s : Standing _ _). s.lives) c.self.view_is)
    (others_same c.args.t xs c.index.result x y c.index.ensures.place there (sym c.if-not-is_live.ensures) (enlist_leaves g.D.Disk.faults c.self.inside.log c.args.k c.enlist-enlisted.result x y c.enlist-enlisted.ensures.enlisted c.enlist-enlisted.ensures.failed).1)

pub returns-clause-cause : goal.returns-clause-cause
returns-clause-cause g c =
    let xs = c.self.inside.lives.items in
    let i = c.index.result in
    let x = c.in-Some.live.now in
    let there : slice_get xs i ≡ Some x = slice_get_read xs (vec_len c.self.inside.lives) i x c.self.inside.lives.ok.0 (c.in-Some.ensures.variant.0 refl) c.in-Some.ensures.value in
    subst (λ (s : Standing _ _). IfErr c.enlist-enlisted.result (MayNotEnlist c.args.t s.lives)) c.self.view_is
    (may_not_make (λ (v : LiveState). ENLISTMENTS ≤ v.enlisted) c.args.t c.enlist-enlisted.result xs x (live_was c.args.t xs i x c.index.ensures.place there (sym c.if-not-is_live.ensures)) c.enlist-enlisted.ensures.cause)
