use Rattle.std.specs.Prelude.{position}
use Rattle.std.proofs.Common.{◌≡◌, ◌∙◌, ap, sym, arith, take, true, false}
use Rattle.dtx_values.specs.TxIds.{number_of}
use Rattle.resource_managers.specs.Pairs.{pair_of}
use Rattle.kv_resource.specs.Store.{Pair, is_unmarked, is_unmarked_of, on_open}
use Rattle.kv_resource.proofs.Finding.{Slots, is_first, no_mark, none_first}
use Rattle.kv_resource.proofs.Held.{finish_cause, finish_done, finish_failed, finish_leaves, finish_since, in_whole, nothing_finished}
use Rattle.kv_resource.proofs.kv.KvRecoverable.finish.Goals as goal

pub returns-in_default-clause-finished : goal.returns-in_default-clause-finished
returns-in_default-clause-finished g c =
    let old = c.args.self.now in
    let p : Pair = pair_of c.args.e in
    let earlier : Slots = take old.earlier old.memory.slots in
    let q = is_unmarked_of p in
    let seen : c.unmarked_slot_of.result ≡ position (on_open q) earlier = c.unmarked_slot_of.ensures ∙ (λ j. position (on_open (is_unmarked_of (number_of (c.transaction.ensures j), (c.number.ensures j).value))) (c.earlier_slots.ensures j)) in
    sym (nothing_finished p c.args.commit old.earlier old.earlier 0 old.memory.slots (omega arith) (none_first q earlier (sym (sym c.in_default.is ∙ seen))).0)

pub mark-requires-clause-unmarked : goal.mark-requires-clause-unmarked
mark-requires-clause-unmarked g c =
    let old = c.args.self.now in
    let p : Pair = pair_of c.args.e in
    let earlier : Slots = take old.earlier old.memory.slots in
    let q = is_unmarked_of p in
    let seen : c.unmarked_slot_of.result ≡ position (on_open q) earlier = c.unmarked_slot_of.ensures ∙ (λ j. position (on_open (is_unmarked_of (number_of (c.transaction.ensures j), (c.number.ensures j).value))) (c.earlier_slots.ensures j)) in
    let f = is_first q earlier c.in-Some.k (sym (sym c.in-Some.is ∙ seen)) in
    let whole = in_whole q old.earlier old.memory.slots c.in-Some.k f in
    ap (on_open is_unmarked) whole.1 ∙ no_mark p f.r f.passes

pub close-requires-clause-unmarked : goal.close-requires-clause-unmarked
close-requires-clause-unmarked g c =
    let old = c.args.self.now in
    let p : Pair = pair_of c.args.e in
    let earlier : Slots = take old.earlier old.memory.slots in
    let q = is_unmarked_of p in
    let seen : c.unmarked_slot_of.result ≡ position (on_open q) earlier = c.unmarked_slot_of.ensures ∙ (λ j. position (on_open (is_unmarked_of (number_of (c.transaction.ensures j), (c.number.ensures j).value))) (c.earlier_slots.ensures j)) in
    let f = is_first q earlier c.in-Some.k (sym (sym c.in-Some.is ∙ seen)) in
    let whole = in_whole q old.earlier old.memory.slots c.in-Some.k f in
    ap (on_open is_unmarked) whole.1 ∙ no_mark p f.r f.passes

pub returns-then-commit-clause-finished : goal.returns-then-commit-clause-finished
returns-then-commit-clause-finished g c =
    let old = c.args.self.now in
    let p : Pair = pair_of c.args.e in
    let earlier : Slots = take old.earlier old.memory.slots in
    let q = is_unmarked_of p in
    let seen : c.unmarked_slot_of.result ≡ position (on_open q) earlier = c.unmarked_slot_of.ensures ∙ (λ j. position (on_open (is_unmarked_of (number_of (c.transaction.ensures j), (c.number.ensures j).value))) (c.earlier_slots.ensures j)) in
    let f = is_first q earlier c.in-Some.k (sym (sym c.in-Some.is ∙ seen)) in
    let whole = in_whole q old.earlier old.memory.slots c.in-Some.k f in
    rw c.if-commit.true (finish_done g.D.Disk.honest g.D.Disk.image g.D.Disk.faults p true old c.mark.new.self c.in-Some.k f c.mark.result (c.mark.ensures f.r whole.1))

pub returns-then-commit-clause-failed : goal.returns-then-commit-clause-failed
returns-then-commit-clause-failed g c =
    let old = c.args.self.now in
    let p : Pair = pair_of c.args.e in
    let earlier : Slots = take old.earlier old.memory.slots in
    let q = is_unmarked_of p in
    let seen : c.unmarked_slot_of.result ≡ position (on_open q) earlier = c.unmarked_slot_of.ensures ∙ (λ j. position (on_open (is_unmarked_of (number_of (c.transaction.ensures j), (c.number.ensures j).value))) (c.earlier_slots.ensures j)) in
    let f = is_first q earlier c.in-Some.k (sym (sym c.in-Some.is ∙ seen)) in
    let whole = in_whole q old.earlier old.memory.slots c.in-Some.k f in
    finish_failed g.D.Disk.honest g.D.Disk.image g.D.Disk.faults p true old c.mark.new.self c.in-Some.k f c.mark.result (c.mark.ensures f.r whole.1)

pub returns-then-commit-clause-images : goal.returns-then-commit-clause-images
returns-then-commit-clause-images g c =
    let old = c.args.self.now in
    let p : Pair = pair_of c.args.e in
    let earlier : Slots = take old.earlier old.memory.slots in
    let q = is_unmarked_of p in
    let seen : c.unmarked_slot_of.result ≡ position (on_open q) earlier = c.unmarked_slot_of.ensures ∙ (λ j. position (on_open (is_unmarked_of (number_of (c.transaction.ensures j), (c.number.ensures j).value))) (c.earlier_slots.ensures j)) in
    let f = is_first q earlier c.in-Some.k (sym (sym c.in-Some.is ∙ seen)) in
    let whole = in_whole q old.earlier old.memory.slots c.in-Some.k f in
    rw c.if-commit.true (finish_leaves g.D.Disk.honest g.D.Disk.image g.D.Disk.faults p true old c.mark.new.self c.in-Some.k f c.mark.result (c.mark.ensures f.r whole.1))

pub returns-then-commit-clause-cause : goal.returns-then-commit-clause-cause
returns-then-commit-clause-cause g c =
    let old = c.args.self.now in
    let p : Pair = pair_of c.args.e in
    let earlier : Slots = take old.earlier old.memory.slots in
    let q = is_unmarked_of p in
    let seen : c.unmarked_slot_of.result ≡ position (on_open q) earlier = c.unmarked_slot_of.ensures ∙ (λ j. position (on_open (is_unmarked_of (number_of (c.transaction.ensures j), (c.number.ensures j).value))) (c.earlier_slots.ensures j)) in
    let f = is_first q earlier c.in-Some.k (sym (sym c.in-Some.is ∙ seen)) in
    let whole = in_whole q old.earlier old.memory.slots c.in-Some.k f in
    finish_cause g.D.Disk.honest g.D.Disk.image g.D.Disk.faults p true old c.mark.new.self c.in-Some.k f c.mark.result (c.mark.ensures f.r whole.1)

pub returns-then-commit-clause-since : goal.returns-then-commit-clause-since
returns-then-commit-clause-since g c =
    let old = c.args.self.now in
    let p : Pair = pair_of c.args.e in
    let earlier : Slots = take old.earlier old.memory.slots in
    let q = is_unmarked_of p in
    let seen : c.unmarked_slot_of.result ≡ position (on_open q) earlier = c.unmarked_slot_of.ensures ∙ (λ j. position (on_open (is_unmarked_of (number_of (c.transaction.ensures j), (c.number.ensures j).value))) (c.earlier_slots.ensures j)) in
    let f = is_first q earlier c.in-Some.k (sym (sym c.in-Some.is ∙ seen)) in
    let whole = in_whole q old.earlier old.memory.slots c.in-Some.k f in
    finish_since g.D.Disk.honest g.D.Disk.image g.D.Disk.faults p true old c.mark.new.self c.in-Some.k f c.mark.result (c.mark.ensures f.r whole.1)

pub returns-else-commit-clause-finished : goal.returns-else-commit-clause-finished
returns-else-commit-clause-finished g c =
    let old = c.args.self.now in
    let p : Pair = pair_of c.args.e in
    let earlier : Slots = take old.earlier old.memory.slots in
    let q = is_unmarked_of p in
    let seen : c.unmarked_slot_of.result ≡ position (on_open q) earlier = c.unmarked_slot_of.ensures ∙ (λ j. position (on_open (is_unmarked_of (number_of (c.transaction.ensures j), (c.number.ensures j).value))) (c.earlier_slots.ensures j)) in
    let f = is_first q earlier c.in-Some.k (sym (sym c.in-Some.is ∙ seen)) in
    let whole = in_whole q old.earlier old.memory.slots c.in-Some.k f in
    rw c.if-commit.false (finish_done g.D.Disk.honest g.D.Disk.image g.D.Disk.faults p false old c.close.new.self c.in-Some.k f c.close.result (c.close.ensures))

pub returns-else-commit-clause-images : goal.returns-else-commit-clause-images
returns-else-commit-clause-images g c =
    let old = c.args.self.now in
    let p : Pair = pair_of c.args.e in
    let earlier : Slots = take old.earlier old.memory.slots in
    let q = is_unmarked_of p in
    let seen : c.unmarked_slot_of.result ≡ position (on_open q) earlier = c.unmarked_slot_of.ensures ∙ (λ j. position (on_open (is_unmarked_of (number_of (c.transaction.ensures j), (c.number.ensures j).value))) (c.earlier_slots.ensures j)) in
    let f = is_first q earlier c.in-Some.k (sym (sym c.in-Some.is ∙ seen)) in
    let whole = in_whole q old.earlier old.memory.slots c.in-Some.k f in
    rw c.if-commit.false (finish_leaves g.D.Disk.honest g.D.Disk.image g.D.Disk.faults p false old c.close.new.self c.in-Some.k f c.close.result (c.close.ensures))
