use Rattle.std.proofs.Common.{◌≡◌, Some, List, ap, refl, slice_get, slice_set, subst, sym, ◌+◌, ◌*◌}
use Rattle.std.proofs.lemmas.Option.{slice_get_read}
use Rattle.std.specs.Vec.{vec_len}
use Rattle.transactions.specs.Keeping.{IsKept}
use Rattle.transactions.specs.Slots.{AreSame, Standing}
use Rattle.transactions.specs.State.{LiveState}
use Rattle.transactions.specs.declared.usage.Usage.TheVariants.{Free}
use Rattle.transactions.proofs.Ending.{fits_used, gone_here, gone_off, numbered_used, put_back}
use Rattle.transactions.proofs.Standing.{others_same}
use Rattle.transactions.proofs.manager.TransactionManager.take_off.Goals as goal

pub invariant_of-self-2 : goal.invariant_of-self-2
invariant_of-self-2 g c =
    let xs = c.self.inside.lives.items in
    let x = c.in-Some.live.now in
    let y = c.set_usage.new.self in
    let there : slice_get xs c.index.result ≡ Some x = slice_get_read xs (vec_len c.self.inside.lives) c.index.result x c.self.inside.lives.ok.0 (c.in-Some.ensures.variant.0 refl) c.in-Some.ensures.value in (
      numbered_used xs c.index.result x y Free there c.set_usage.ensures c.self.invariant.0,
      λ honest. fits_used g.D.Disk.image c.self.inside.log xs c.index.result x y Free (65536 * c.self.inside.epoch + c.self.inside.given) there c.set_usage.ensures (c.self.invariant.1 honest),
      c.self.invariant.2,
      c.self.invariant.3,
    )

pub returns-clause-gone : goal.returns-clause-gone
returns-clause-gone g c =
    let xs = c.self.inside.lives.items in
    let x = c.in-Some.live.now in
    let y = c.set_usage.new.self in
    let there : slice_get xs c.index.result ≡ Some x = slice_get_read xs (vec_len c.self.inside.lives) c.index.result x c.self.inside.lives.ok.0 (c.in-Some.ensures.variant.0 refl) c.in-Some.ensures.value in
    gone_here c.args.t xs c.index.result x y Free c.index.ensures.place there c.set_usage.ensures refl

pub returns-clause-others : goal.returns-clause-others
returns-clause-others g c =
    let xs = c.self.inside.lives.items in
    let x = c.in-Some.live.now in
    let y = c.set_usage.new.self in
    let there : slice_get xs c.index.result ≡ Some x = slice_get_read xs (vec_len c.self.inside.lives) c.index.result x c.self.inside.lives.ok.0 (c.in-Some.ensures.variant.0 refl) c.in-Some.ensures.value in
    subst (λ (l : List LiveState). AreSame c.args.t l (slice_set xs c.index.result c.set_usage.new.self)) (ap (λ (s : Standing _ _). s.lives) c.self.view_is)
    (others_same c.args.t xs c.index.result x y c.index.ensures.place there (sym c.if-not-is_live.ensures) (ap (λ (v : LiveState). v.number) c.set_usage.ensures))

pub invariant_of-self-then-not-is_live : goal.invariant_of-self-then-not-is_live
invariant_of-self-then-not-is_live g c =
    let xs = c.self.inside.lives.items in
    let x = c.in-Some.live.now in
    let there : slice_get xs c.index.result ≡ Some x = slice_get_read xs (vec_len c.self.inside.lives) c.index.result x c.self.inside.lives.ok.0 (c.in-Some.ensures.variant.0 refl) c.in-Some.ensures.value in
    subst (λ (l : List LiveState). IsKept g.D.Disk.honest g.D.Disk.image c.self.inside.log l (65536 * c.self.inside.epoch + c.self.inside.given)) (sym (put_back xs c.index.result x there)) c.self.invariant

pub returns-then-not-is_live-clause-gone : goal.returns-then-not-is_live-clause-gone
returns-then-not-is_live-clause-gone g c =
    let xs = c.self.inside.lives.items in
    let x = c.in-Some.live.now in
    let there : slice_get xs c.index.result ≡ Some x = slice_get_read xs (vec_len c.self.inside.lives) c.index.result x c.self.inside.lives.ok.0 (c.in-Some.ensures.variant.0 refl) c.in-Some.ensures.value in
    gone_off c.args.t xs c.index.result x x c.index.ensures.place there (sym c.if-not-is_live.ensures)
