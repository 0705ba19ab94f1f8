use Rattle.std.proofs.Common.{◌∙◌, ◌++◌, ◌∷◌, [], List, ap, map, sym}
use Rattle.std.proofs.lemmas.List.{map_push}
use Rattle.host_disk.specs.declared.request.Request.{Request}
use Rattle.host_disk.specs.Order.{Order, order_of}
use Rattle.host_disk.proofs.Orders.{after-write_order}
use Rattle.host_disk.proofs.host_disk.HostDisk.ask_write.Goals as goal

pub returns-clause-relays : goal.returns-clause-relays
returns-clause-relays c =
    rw (← c.self.view_is)
    (record {
      asked =
          ap (λ (l : List Request). map order_of l) c.in_ok-push_both.ensures.request
          ∙ map_push order_of c.self.inside.asked.items c.in_ok-request.request
          ∙ ap (λ (o : Order). map order_of c.self.inside.asked.items ++ o ∷ []) c.in_ok-request.ensures;
      bytes = c.put.ensures ∙ sym (after-write_order c.self.inside.bytes.items c.args.from.now c.args.at);
    })
