use Rattle.std.proofs.Common.{◌≡◌, Some, List, IfOk, IfErr, true, ap, refl, slice_get, slice_set, subst, sym, ◌+◌, ◌*◌}
use Rattle.std.proofs.lemmas.Option.{slice_get_read}
use Rattle.std.specs.Vec.{vec_len}
use Rattle.transactions.specs.Slots.{AreSame, Standing, is_live}
use Rattle.transactions.specs.State.{LiveState}
use Rattle.transactions.specs.Doing.{CallsAt, MayFail}
use Rattle.transactions.proofs.Calls.{call_leaves, calls_at, may_fail, none_made}
use Rattle.transactions.proofs.Fitted.{fits_set}
use Rattle.transactions.proofs.Standing.{live_here, live_was, numbered_set, others_same, still_live}
use Rattle.transactions.proofs.manager.TransactionManager.call.Goals as goal

pub call-called-requires-clause-unmade : goal.call-called-requires-clause-unmade
call-called-requires-clause-unmade g c = none_made _ _ c.requires.makes

pub invariant_of-self-2 : goal.invariant_of-self-2
invariant_of-self-2 g c =
    let xs = c.self.inside.lives.items in
    let x = c.in-Some.live.now in
    let y = c.call-called.new.self in
    let e = c.call-called.ensures in
    let leaves = call_leaves g.D.Disk.faults c.self.inside.log c.args.c.now c.call-called.result x y e.called e.refused in
    let there : slice_get xs c.index.result ≡ Some x = slice_get_read xs (vec_len c.self.inside.lives) c.index.result x c.self.inside.lives.ok.0 (c.in-Some.ensures.variant.0 refl) c.in-Some.ensures.value in (
      numbered_set xs c.index.result x y there c.self.invariant.0 leaves.1 c.is_sound.ensures.own,
      λ honest. fits_set g.D.Disk.image c.self.inside.log xs c.index.result x y (65536 * c.self.inside.epoch + c.self.inside.given) there leaves.1 e.fits (c.self.invariant.1 honest),
      c.self.invariant.2,
      c.self.invariant.3,
    )

pub returns-clause-called : goal.returns-clause-called
returns-clause-called g c =
    let xs = c.self.inside.lives.items in
    let i = c.index.result in
    let x = c.in-Some.live.now in
    let y = c.call-called.new.self in
    let e = c.call-called.ensures in
    let t = c.args.t in
    let leaves = call_leaves g.D.Disk.faults c.self.inside.log c.args.c.now c.call-called.result x y e.called e.refused in
    let there : slice_get xs i ≡ Some x = slice_get_read xs (vec_len c.self.inside.lives) i x c.self.inside.lives.ok.0 (c.in-Some.ensures.variant.0 refl) c.in-Some.ensures.value in
    let used : is_live t x ≡ true = sym c.if-not-is_live.ensures in
    subst (λ (s : Standing _ _). IfOk c.call-called.result (λ r. CallsAt g.D.Disk.faults s.log t c.args.c.now r.0 r.1 s.lives (slice_set xs i y))) c.self.view_is
    (calls_at g.D.Disk.faults c.self.inside.log t c.args.c.now c.call-called.result xs (slice_set xs i y) x y (live_was t xs i x c.index.ensures.place there used)
    (live_here t xs i x y c.index.ensures.place there (still_live t x y leaves used)) e.called)

pub returns-clause-others : goal.returns-clause-others
returns-clause-others g c =
    let xs = c.self.inside.lives.items in
    let x = c.in-Some.live.now in
    let y = c.call-called.new.self in
    let there : slice_get xs c.index.result ≡ Some x = slice_get_read xs (vec_len c.self.inside.lives) c.index.result x c.self.inside.lives.ok.0 (c.in-Some.ensures.variant.0 refl) c.in-Some.ensures.value in
    subst (λ (l : List LiveState). AreSame c.args.t l (slice_set xs c.index.result c.call-called.new.self)) (ap (λ (s : Standing _ _). s.lives) c.self.view_is)
    (others_same c.args.t xs c.index.result x y c.index.ensures.place there (sym c.if-not-is_live.ensures) (call_leaves g.D.Disk.faults c.self.inside.log c.args.c.now c.call-called.result x y c.call-called.ensures.called c.call-called.ensures.refused).1)

pub returns-clause-cause : goal.returns-clause-cause
returns-clause-cause g c =
    let xs = c.self.inside.lives.items in
    let i = c.index.result in
    let x = c.in-Some.live.now in
    let there : slice_get xs i ≡ Some x = slice_get_read xs (vec_len c.self.inside.lives) i x c.self.inside.lives.ok.0 (c.in-Some.ensures.variant.0 refl) c.in-Some.ensures.value in
    subst (λ (s : Standing _ _). IfErr c.call-called.result (MayFail c.args.t s.lives)) c.self.view_is
    (may_fail c.args.t c.call-called.result xs x (live_was c.args.t xs i x c.index.ensures.place there (sym c.if-not-is_live.ensures)) c.call-called.ensures.cause)
