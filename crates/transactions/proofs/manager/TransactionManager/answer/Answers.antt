use Rattle.std.proofs.Common.{◌≡◌, Bool, Some, List, IfOk, true, ap, refl, slice_get, slice_set, subst, sym, ◌+◌, ◌*◌}
use Rattle.std.proofs.lemmas.Option.{slice_get_read}
use Rattle.std.specs.Vec.{vec_len}
use Rattle.transactions.proofs.Nexts.{replied_at, so_at}
use Rattle.transactions.specs.Doing.{is_due}
use Rattle.transactions.specs.Slots.{AreSame, Standing, is_live, live_at}
use Rattle.transactions.specs.State.{LiveState}
use Rattle.transactions.proofs.Fitted.{fits_set}
use Rattle.transactions.proofs.Standing.{live_here, live_was, numbered_set, others_same, still_live}
use Rattle.transactions.proofs.manager.TransactionManager.answer.Goals as goal

pub invariant_of-self-2 : goal.invariant_of-self-2
invariant_of-self-2 g c =
    let xs = c.self.inside.lives.items in
    let x = c.in-Some.live.now in
    let y = c.reply-replied.new.self in
    let e = c.reply-replied.ensures in
    let there : slice_get xs c.index.result ≡ Some x = slice_get_read xs (vec_len c.self.inside.lives) c.index.result x c.self.inside.lives.ok.0 (c.in-Some.ensures.variant.0 refl) c.in-Some.ensures.value in (
      numbered_set xs c.index.result x y there c.self.invariant.0 (ap (λ (v : LiveState). v.number) e.rest) c.is_sound.ensures.own,
      λ honest. fits_set g.D.Disk.image c.self.inside.log xs c.index.result x y (65536 * c.self.inside.epoch + c.self.inside.given) there (ap (λ (v : LiveState). v.number) e.rest) e.fits (c.self.invariant.1 honest),
      c.self.invariant.2,
      c.self.invariant.3,
    )

pub returns-clause-others : goal.returns-clause-others
returns-clause-others g c =
    let xs = c.self.inside.lives.items in
    let x = c.in-Some.live.now in
    let y = c.reply-replied.new.self in
    let there : slice_get xs c.index.result ≡ Some x = slice_get_read xs (vec_len c.self.inside.lives) c.index.result x c.self.inside.lives.ok.0 (c.in-Some.ensures.variant.0 refl) c.in-Some.ensures.value in
    subst (λ (l : List LiveState). AreSame c.args.e.transaction l (slice_set xs c.index.result c.reply-replied.new.self)) (ap (λ (s : Standing _ _). s.lives) c.self.view_is)
    (others_same c.args.e.transaction xs c.index.result x y c.index.ensures.place there (sym c.if-not-is_live.ensures) (ap (λ (v : LiveState). v.number) c.reply-replied.ensures.rest))

pub returns-clause-due : goal.returns-clause-due
returns-clause-due g c =
    let xs = c.self.inside.lives.items in
    let i = c.index.result in
    let x = c.in-Some.live.now in
    let t = c.args.e.transaction in
    let there : slice_get xs i ≡ Some x = slice_get_read xs (vec_len c.self.inside.lives) i x c.self.inside.lives.ok.0 (c.in-Some.ensures.variant.0 refl) c.in-Some.ensures.value in
    let P : Bool → LiveState → Type 0 = λ b v. b ≡ is_due c.args.e.number c.args.r v in
    subst (λ (s : Standing _ _). IfOk c.reply-replied.result (λ b. (v : LiveState) → live_at t s.lives ≡ Some v → P b v)) c.self.view_is
    (so_at P t xs x c.reply-replied.result (live_was t xs i x c.index.ensures.place there (sym c.if-not-is_live.ensures)) c.reply-replied.ensures.due)

pub returns-clause-replied : goal.returns-clause-replied
returns-clause-replied g c = λ did v.
    let xs = c.self.inside.lives.items in
    let i = c.index.result in
    let x = c.in-Some.live.now in
    let y = c.reply-replied.new.self in
    let e = c.reply-replied.ensures in
    let t = c.args.e.transaction in
    let there : slice_get xs i ≡ Some x = slice_get_read xs (vec_len c.self.inside.lives) i x c.self.inside.lives.ok.0 (c.in-Some.ensures.variant.0 refl) c.in-Some.ensures.value in
    let used : is_live t x ≡ true = sym c.if-not-is_live.ensures in
    let now = live_here t xs i x y c.index.ensures.place there (still_live t x y (ap (λ (u : LiveState). u.usage) e.rest, ap (λ (u : LiveState). u.number) e.rest) used) in
    let was = live_was t xs i x c.index.ensures.place there used in
    λ at. replied_at g.D.Disk.faults c.self.inside.log t c.args.e.number c.args.r xs (slice_set xs i y) x y was now (e.done did) (e.writes did) e.rest v
    (subst (λ (s : Standing _ _). live_at t s.lives ≡ Some v) (sym c.self.view_is) at)
