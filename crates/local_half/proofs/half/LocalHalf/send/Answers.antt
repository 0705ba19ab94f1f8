use Rattle.std.proofs.Common.{◌≡◌, ◌≤◌, ◌+◌, arith, is_some, subst, sym}
use Rattle.dtx_values.specs.declared.entry.Entry.TheVariants.{Sent}
use Rattle.dtx_values.specs.declared.message.Conn.{Conn}
use Rattle.dtx_values.specs.declared.message.Dir.TheVariants.{Up}
use Rattle.dtx_values.specs.declared.message.Message.{Message}
use Rattle.dtx_values.specs.Ends.{ends_after}
use Rattle.dtx_values.specs.Row.{is_lasting}
use Rattle.dtx_values.specs.Table.{how_many}
use Rattle.dtx_model.specs.Observed.{branches_after}
use Rattle.dtx_model.specs.Waiting.{is_place}
use Rattle.half_parts.specs.Half.{Known}
use Rattle.half_parts.specs.Linked.{AreLinked}
use Rattle.half_parts.specs.Taken.{MaySend}
use Rattle.half_parts.proofs.Links.{ends_few, links-sent}
use Rattle.local_half.proofs.half.LocalHalf.send.Goals as goal

-- what stands of the connections once the message is sent, as what is inside has it
linked : (v k : Known) → v ≡ k → (c : Conn) (m : Message) → MaySend k.half c m → how_many is_lasting v.half.seen.table + how_many is_place v.half.waits ≤ 16
    → AreLinked (is_some v.half.seen.decided) v.half.seen.table v.half.waits v.half.seen.branches v.half.seen.ends
    → AreLinked (is_some v.half.seen.decided) v.half.seen.table v.half.waits (branches_after (Sent c Up m) v.half.seen.branches) (ends_after (Sent c Up m) v.half.seen.ends)
linked v k same c m may few links = links-sent v.half c m (subst (λ (x : Known). MaySend x.half c m) (sym same) may) few links

pub note_sent-requires : goal.note_sent-requires
note_sent-requires c = let l = linked _ _ c.self.view_is c.args.c c.args.m c.requires c.self.invariant.4.few_last c.self.invariant.6 in omega (arith, l.few, c.self.invariant.1)

pub sent-requires : goal.sent-requires
sent-requires c = record { few = ends_few _ _ _ _ _ (linked _ _ c.self.view_is c.args.c c.args.m c.requires c.self.invariant.4.few_last c.self.invariant.6) }

pub invariant_of-self : goal.invariant_of-self
invariant_of-self c =
    let b = c.self.invariant in
    let l = linked _ _ c.self.view_is c.args.c c.args.m c.requires b.4.few_last b.6 in
    rw (c.note_sent.ensures.items, c.sent.ensures) (b.0, omega (arith, c.note_sent.ensures.capacity, b.1), b.2, b.3, b.4, b.5, l, b.7, b.8, b.9)
