-- What information is answered is what the call `reenlist` is answered in any world of that history: it doesn't matter which calls were entered.
use Rattle.std.proofs.Common.{◌≡◌, List, [], ap}
use Rattle.dtx_values.specs.declared.entry.Entry.{Entry}
use Rattle.dtx_values.specs.declared.number.EnlNo.{EnlNo}
use Rattle.dtx_model.specs.Words.{past_of}
use Rattle.dtx_model.specs.World.{World, reenlist_answer}
use Rattle.reenlist_recovery.specs.Recovery.{reenlisted}

pub in-any-world : (w : World) (xs : List Entry) (e : EnlNo) → w.past ≡ past_of xs → reenlist_answer w e ≡ reenlisted xs e
in-any-world w xs e is = ap (λ (h : List Entry). reenlist_answer (record { calls = []; past = h }) e) is
