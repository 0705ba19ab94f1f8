use Rattle.std.proofs.Common.{◌≡◌, ◌==◌, ◌∙◌, Some, None, ap, refl, slice_get, sym}
use Rattle.dtx_values.specs.TxIds.{identifier_of_id}
use Rattle.dtx_values.specs.declared.number.TxNo.{TxNo}
use Rattle.transactions.proofs.Freeing.{has_its_place, has_no_place, is_its}
use Rattle.transactions.proofs.Places.{got_at}
use Rattle.transactions.proofs.recovering.has_place.Goals as goal

pub returns-in_default : goal.returns-in_default
returns-in_default c = sym (has_no_place c.args.id c.args.lives.now (c.in_default.ensures.none refl))

pub returns-in-Some-get : goal.returns-in-Some-get
returns-in-Some-get c =
    let xs = c.args.lives.now in
    let id = c.args.id in
    let there : slice_get xs c.index.result ≡ Some c.in-Some-get.live.now = sym (got_at xs c.index.result (Some c.in-Some-get.live) c.in-Some-get.ensures.lookup) in
    let named = c.identifier.ensures.identifier ∙ ap identifier_of_id c.number.ensures in
    ap (λ n. n == id) named ∙ sym (has_its_place c.in-Some.t id c.index.result xs c.requires c.in-Some.ensures.found (c.index.ensures.place ∙ ap (λ (t : TxNo). t.value) c.t.ensures) ∙ ap (is_its id) there)

pub returns-in-None : goal.returns-in-None
returns-in-None c =
    let xs = c.args.lives.now in
    let id = c.args.id in
    let there : slice_get xs c.index.result ≡ None = sym (got_at xs c.index.result None c.in-None.ensures.lookup) in
    sym (has_its_place c.in-Some.t id c.index.result xs c.requires c.in-Some.ensures.found (c.index.ensures.place ∙ ap (λ (t : TxNo). t.value) c.t.ensures) ∙ ap (is_its id) there)
