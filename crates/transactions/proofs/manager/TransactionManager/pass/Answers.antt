use Rattle.std.proofs.Common.{◌≡◌, ◌∙◌, Some, None, List, IfErr, OnOk, true, ap, refl, slice_get, slice_set, subst, sym, ◌+◌, ◌*◌}
use Rattle.std.proofs.lemmas.Option.{slice_get_read}
use Rattle.std.specs.Vec.{vec_len}
use Rattle.transactions.specs.Keeping.{IsKept}
use Rattle.transactions.specs.Slots.{AreSame, Standing, is_live, live_at}
use Rattle.transactions.specs.State.{LiveState}
use Rattle.transactions.specs.Turning.{PassedAt, TickFails}
use Rattle.transactions.proofs.Ending.{pass_leaves, put_back}
use Rattle.transactions.proofs.Fitted.{fits_set}
use Rattle.transactions.proofs.Standing.{live_here, live_off, live_was, numbered_set, others_same, still_live}
use Rattle.transactions.proofs.Turning.{pass_used, passed_at, tick_fails}
use Rattle.transactions.proofs.manager.TransactionManager.pass.Goals as goal

pub invariant_of-self-2 : goal.invariant_of-self-2
invariant_of-self-2 g c =
    let xs = c.self.inside.lives.items in
    let x = c.in-Some.live.now in
    let y = c.pass-passed.new.self in
    let e = c.pass-passed.ensures in
    let there : slice_get xs c.index.result ≡ Some x = slice_get_read xs (vec_len c.self.inside.lives) c.index.result x c.self.inside.lives.ok.0 (c.in-Some.ensures.variant.0 refl) c.in-Some.ensures.value in (
      numbered_set xs c.index.result x y there c.self.invariant.0 (pass_leaves g.D.Disk.faults c.self.inside.log c.self.inside.reading c.pass-passed.result x y e.ticked e.refused) c.is_sound.ensures.own,
      λ honest. fits_set g.D.Disk.image c.self.inside.log xs c.index.result x y (65536 * c.self.inside.epoch + c.self.inside.given) there (pass_leaves g.D.Disk.faults c.self.inside.log c.self.inside.reading c.pass-passed.result x y e.ticked e.refused) e.fits (c.self.invariant.1 honest),
      c.self.invariant.2,
      c.self.invariant.3,
    )

pub returns-clause-others : goal.returns-clause-others
returns-clause-others g c =
    let xs = c.self.inside.lives.items in
    let x = c.in-Some.live.now in
    let y = c.pass-passed.new.self in
    let there : slice_get xs c.index.result ≡ Some x = slice_get_read xs (vec_len c.self.inside.lives) c.index.result x c.self.inside.lives.ok.0 (c.in-Some.ensures.variant.0 refl) c.in-Some.ensures.value in
    subst (λ (l : List LiveState). AreSame c.args.t l (slice_set xs c.index.result c.pass-passed.new.self)) (ap (λ (s : Standing _ _). s.lives) c.self.view_is)
    (others_same c.args.t xs c.index.result x y c.index.ensures.place there (sym c.if-not-is_live.ensures) (pass_leaves g.D.Disk.faults c.self.inside.log c.self.inside.reading c.pass-passed.result x y c.pass-passed.ensures.ticked c.pass-passed.ensures.refused))

pub invariant_of-self-then-not-is_live : goal.invariant_of-self-then-not-is_live
invariant_of-self-then-not-is_live g c =
    let xs = c.self.inside.lives.items in
    let x = c.in-Some.live.now in
    let there : slice_get xs c.index.result ≡ Some x = slice_get_read xs (vec_len c.self.inside.lives) c.index.result x c.self.inside.lives.ok.0 (c.in-Some.ensures.variant.0 refl) c.in-Some.ensures.value in
    subst (λ (l : List LiveState). IsKept g.D.Disk.honest g.D.Disk.image c.self.inside.log l (65536 * c.self.inside.epoch + c.self.inside.given)) (sym (put_back xs c.index.result x there)) c.self.invariant

pub returns-clause-passed : goal.returns-clause-passed
returns-clause-passed g c =
    let xs = c.self.inside.lives.items in
    let i = c.index.result in
    let x = c.in-Some.live.now in
    let y = c.pass-passed.new.self in
    let e = c.pass-passed.ensures in
    let t = c.args.t in
    let there : slice_get xs i ≡ Some x = slice_get_read xs (vec_len c.self.inside.lives) i x c.self.inside.lives.ok.0 (c.in-Some.ensures.variant.0 refl) c.in-Some.ensures.value in
    let used : is_live t x ≡ true = sym c.if-not-is_live.ensures in
    let log = c.self.inside.log in
    let now = live_here t xs i x y c.index.ensures.place there (still_live t x y (pass_used g.D.Disk.faults log c.self.inside.reading c.pass-passed.result x y e.ticked e.refused, pass_leaves g.D.Disk.faults log c.self.inside.reading c.pass-passed.result x y e.ticked e.refused) used) in
    subst (λ (s : Standing _ _). OnOk c.pass-passed.result (PassedAt g.D.Disk.faults s.log s.reading t s.lives (slice_set xs i y))) c.self.view_is
    (passed_at g.D.Disk.faults log c.self.inside.reading t c.pass-passed.result xs (slice_set xs i y) x y (live_was t xs i x c.index.ensures.place there used) now e.ticked)

pub returns-clause-cause : goal.returns-clause-cause
returns-clause-cause g c =
    let xs = c.self.inside.lives.items in
    let i = c.index.result in
    let x = c.in-Some.live.now in
    let there : slice_get xs i ≡ Some x = slice_get_read xs (vec_len c.self.inside.lives) i x c.self.inside.lives.ok.0 (c.in-Some.ensures.variant.0 refl) c.in-Some.ensures.value in
    subst (λ (s : Standing _ _). IfErr c.pass-passed.result (TickFails c.args.t s.lives)) c.self.view_is
    (tick_fails c.args.t c.pass-passed.result xs x (live_was c.args.t xs i x c.index.ensures.place there (sym c.if-not-is_live.ensures)) c.pass-passed.ensures.cause)

pub returns-then-not-is_live-clause-passed : goal.returns-then-not-is_live-clause-passed
returns-then-not-is_live-clause-passed g c = λ v at.
    let xs = c.self.inside.lives.items in
    let x = c.in-Some.live.now in
    let there : slice_get xs c.index.result ≡ Some x = slice_get_read xs (vec_len c.self.inside.lives) c.index.result x c.self.inside.lives.ok.0 (c.in-Some.ensures.variant.0 refl) c.in-Some.ensures.value in
    let none : live_at c.args.t xs ≡ None = live_off c.args.t xs c.index.result x c.index.ensures.place there (sym c.if-not-is_live.ensures) in
    absurd (never v (sym none ∙ subst (λ (s : Standing _ _). live_at c.args.t s.lives ≡ Some v) (sym c.self.view_is) at))
  where
    never : (v : LiveState) → None ≡ Some v → ⊥
    never v q = cc
