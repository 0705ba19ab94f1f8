use Rattle.std.proofs.Common.{◌≡◌, map, slice_get, ap, subst, sym, ◌∙◌}
use Rattle.std.specs.Option.{option_map}
use Rattle.std.proofs.lemmas.Option.{slice_get-map}
use Rattle.host_disk.specs.HostState.{HostState}
use Rattle.host_disk.specs.Order.{order_of}
use Rattle.host_manager.proofs.Requests.{given_before, read_at}
use Rattle.host_manager.specs.Host.{HostView}
use Rattle.host_manager.specs.Requests.{IsGiven}
use Rattle.host_manager.proofs.host_manager.HostManager.request.Goals as goal

pub returns : goal.returns
returns c =
    let xs = c.asked.result.now in
    let k = c.in_ok-last.last in
    let asked : map order_of xs ≡ c.self.inside.manager.log.disk.asked = c.asked.ensures ∙ ap (λ (d : HostState). d.asked) c.disk.ensures in
    subst (λ (s : HostView). IsGiven s (option_map (λ r. r.now) c.get.result)) c.self.view_is
    (ap (λ o. option_map order_of o) (read_at xs k c.get.result c.get.ensures.lookup) ∙ (sym (slice_get-map order_of xs k) ∙
    (ap (λ l. slice_get l k) asked ∙ given_before c.self.inside.given k c.self.inside.manager.log.disk.asked c.in_ok-last.ensures.0 c.in_ok-last.ensures.1)))
