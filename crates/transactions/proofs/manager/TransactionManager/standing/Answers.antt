use Rattle.std.proofs.Common.{◌≡◌, ◌-◌, ◌∙◌, Some, None, ap, arith, slice_get, sym}
use Rattle.transactions.specs.Slots.{Standing, standing_at, standing_in}
use Rattle.transactions.proofs.Places.{got_at}
use Rattle.transactions.proofs.manager.TransactionManager.standing.Goals as goal

pub returns-in-Some : goal.returns-in-Some
returns-in-Some g c =
    let p = c.args.place in
    let xs = c.self.inside.lives.items in
    let place : p.value - 1 ≡ c.index.result = (let at = c.index.ensures.place in omega (arith, at)) in
    let there : slice_get xs c.index.result ≡ Some c.in-Some.live.now = sym (ap (λ v. slice_get v c.index.result) c.deref.ensures.value) ∙ sym (got_at c.deref.result.now c.index.result (Some c.in-Some.live) c.in-Some.ensures.lookup) in
    c.standing.ensures ∙ (ap (standing_in p) (sym (ap (slice_get xs) place ∙ there)) ∙ ap (λ (s : Standing _ _). standing_at p s.lives) c.self.view_is)

pub returns-in-None : goal.returns-in-None
returns-in-None g c =
    let p = c.args.place in
    let xs = c.self.inside.lives.items in
    let place : p.value - 1 ≡ c.index.result = (let at = c.index.ensures.place in omega (arith, at)) in
    let there : slice_get xs c.index.result ≡ None = sym (ap (λ v. slice_get v c.index.result) c.deref.ensures.value) ∙ sym (got_at c.deref.result.now c.index.result None c.in-None.ensures.lookup) in
    c.first.ensures ∙ (ap (standing_in p) (sym (ap (slice_get xs) place ∙ there)) ∙ ap (λ (s : Standing _ _). standing_at p s.lives) c.self.view_is)
