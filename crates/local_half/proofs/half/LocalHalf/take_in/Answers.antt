use Rattle.std.proofs.Common.{◌≡◌, ◌∙◌, true, is_some, subst, sym}
use Rattle.std.proofs.lemmas.List.{length-map}
use Rattle.dtx_values.specs.Row.{vote_in}
use Rattle.dtx_values.specs.Table.{was_asked, with_vote}
use Rattle.half_parts.specs.Half.{Known}
use Rattle.half_parts.specs.declared.branches.BranchChange.TheVariants.{Acked}
use Rattle.half_parts.proofs.Links.{links-changed, links-table}
use Rattle.half_parts.proofs.Rows.{lasts-vote, row-vote, rows-vote}
use Rattle.half_parts.proofs.Waiters.{other_table}
use Rattle.local_half.proofs.half.LocalHalf.take_in.Goals as goal

pub invariant_of-self-in-Voted-1 : goal.invariant_of-self-in-Voted-1
invariant_of-self-in-Voted-1 c =
    let b = c.self-in-Voted.invariant in
    let i = c.self-in-Voted.inside in
    let e = c.in-Voted.e.value in
    let v = c.in-Voted.v in
    let asked : was_asked e c.args.self.now.half.seen.table ≡ true = rw c.in-Voted.is at c.requires in
    let taken = c.take_vote.ensures.taken (subst (λ (k : Known). was_asked e k.half.seen.table ≡ true) (sym c.self-in-Voted.view_is) asked) in
    rw taken (
      b.0,
      b.1,
      b.2,
      b.3 ∙ sym (length-map i.table (vote_in e v)),
      rows-vote i.limit i.handover.over i.table i.manager i.waits.items e v b.4,
      other_table i.table (with_vote e v i.table) i.waits.items (λ f a. row-vote e v i.table f) b.5,
      links-table (is_some i.decided) i.table (with_vote e v i.table) i.waits.items i.branches.items i.proxy (lasts-vote e v i.table) b.6,
      b.7,
      b.8,
      b.9,
    )

pub invariant_of-self-in-Acked-1 : goal.invariant_of-self-in-Acked-1
invariant_of-self-in-Acked-1 c =
    let b = c.self-in-Acked.invariant in
    let i = c.self-in-Acked.inside in
    rw (c.change.ensures.items, c.change.ensures.capacity) (
      b.0,
      b.1,
      b.2,
      b.3,
      b.4,
      b.5,
      links-changed (is_some i.decided) i.table i.waits.items i.branches.items i.proxy c.in-Acked.e.value Acked b.6,
      b.7,
      b.8,
      b.9,
    )
