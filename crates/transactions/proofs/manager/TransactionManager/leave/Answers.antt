use Rattle.std.proofs.Common.{◌≡◌, ◌∙◌, Some, List, ap, refl, slice_get, subst, sym, ◌+◌, ◌*◌}
use Rattle.std.proofs.lemmas.Option.{slice_get_read}
use Rattle.std.specs.Vec.{vec_len}
use Rattle.transactions.specs.Keeping.{IsKept}
use Rattle.transactions.specs.Slots.{Standing, is_used, live_at}
use Rattle.transactions.specs.State.{LiveState}
use Rattle.transactions.specs.declared.usage.Usage.TheVariants.{Left}
use Rattle.transactions.proofs.Ending.{fits_used, left_by, numbered_used, put_back}
use Rattle.transactions.proofs.Nexts.{one_at}
use Rattle.transactions.proofs.Standing.{live_here, live_number, live_was, others_same, used_live}
use Rattle.transactions.proofs.manager.TransactionManager.leave.Goals as goal

pub invariant_of-self-2 : goal.invariant_of-self-2
invariant_of-self-2 g c =
    let xs = c.self.inside.lives.items in
    let x = c.in-Some.live.now in
    let y = c.set_usage.new.self in
    let there : slice_get xs c.index.result ≡ Some x = slice_get_read xs (vec_len c.self.inside.lives) c.index.result x c.self.inside.lives.ok.0 (c.in-Some.ensures.variant.0 refl) c.in-Some.ensures.value in (
      numbered_used xs c.index.result x y Left there c.set_usage.ensures c.self.invariant.0,
      λ honest. fits_used g.D.Disk.image c.self.inside.log xs c.index.result x y Left (65536 * c.self.inside.epoch + c.self.inside.given) there c.set_usage.ensures (c.self.invariant.1 honest),
      c.self.invariant.2,
      c.self.invariant.3,
    )

pub returns-clause-others : goal.returns-clause-others
returns-clause-others g c = λ u n.
    let xs = c.self.inside.lives.items in
    let x = c.in-Some.live.now in
    let y = c.set_usage.new.self in
    let there : slice_get xs c.index.result ≡ Some x = slice_get_read xs (vec_len c.self.inside.lives) c.index.result x c.self.inside.lives.ok.0 (c.in-Some.ensures.variant.0 refl) c.in-Some.ensures.value in
    c.sweep.ensures.others u n ∙ (others_same c.args.t xs c.index.result x y c.index.ensures.place there (sym c.if-not-is_live.ensures) (ap (λ (v : LiveState). v.number) c.set_usage.ensures) u n ∙ ap (λ (s : Standing _ _). live_at u s.lives) c.self.view_is)

pub returns-clause-left : goal.returns-clause-left
returns-clause-left g c = λ v at.
    let xs = c.self.inside.lives.items in
    let i = c.index.result in
    let x = c.in-Some.live.now in
    let y = c.set_usage.new.self in
    let t = c.args.t in
    let there : slice_get xs i ≡ Some x = slice_get_read xs (vec_len c.self.inside.lives) i x c.self.inside.lives.ok.0 (c.in-Some.ensures.variant.0 refl) c.in-Some.ensures.value in
    let was = live_was t xs i x c.index.ensures.place there (sym c.if-not-is_live.ensures) in
    let same : x ≡ v = one_at t xs x v was (subst (λ (s : Standing _ _). live_at t s.lives ≡ Some v) (sym c.self.view_is) at) in
    let now = live_here t xs i x y c.index.ensures.place there (used_live t y (ap (λ (u : LiveState). is_used u.usage) c.set_usage.ensures) (ap (λ (u : LiveState). u.number) c.set_usage.ensures ∙ live_number t x (sym c.if-not-is_live.ensures))) in
    left_by t v y c.sweep.new.self.lives (c.set_usage.ensures ∙ ap (λ (u : LiveState). record u { usage = Left }) same) (c.sweep.ensures.swept y now)

pub invariant_of-self-then-not-is_live : goal.invariant_of-self-then-not-is_live
invariant_of-self-then-not-is_live g c =
    let xs = c.self.inside.lives.items in
    let x = c.in-Some.live.now in
    let there : slice_get xs c.index.result ≡ Some x = slice_get_read xs (vec_len c.self.inside.lives) c.index.result x c.self.inside.lives.ok.0 (c.in-Some.ensures.variant.0 refl) c.in-Some.ensures.value in
    subst (λ (l : List LiveState). IsKept g.D.Disk.honest g.D.Disk.image c.self.inside.log l (65536 * c.self.inside.epoch + c.self.inside.given)) (sym (put_back xs c.index.result x there)) c.self.invariant
