use Rattle.std.proofs.Common.{◌≡◌, ◌∙◌, [], List, false, is_some, ap, subst, sym}
use Rattle.dtx_values.specs.declared.entry.Entry.{Entry}
use Rattle.dtx_values.specs.TxIds.{number_of}
use Rattle.dtx_values.specs.declared.words.Class.{Class}
use Rattle.dtx_values.specs.Outgoing.{written}
use Rattle.dtx_values.specs.Support.{is_single}
use Rattle.dtx_values.specs.Table.{how_many}
use Rattle.dtx_model.specs.Answers.{class_of, has_promotion, local_answer}
use Rattle.dtx_model.specs.Half.{heeds_all}
use Rattle.dtx_model.specs.Waiting.{Waiter, is_place}
use Rattle.half_parts.specs.Half.{Known, after}
use Rattle.half_parts.specs.Taken.{HasPlace, with_call}
use Rattle.half_parts.proofs.Notes.{idle, may_clone, may_join, may_last, may_promote, unstarted_there}
use Rattle.half_parts.proofs.Waiting.{never_started}
use Rattle.local_half.proofs.half.LocalHalf.facts.Goals as goal
use Rattle.dtx_model.proofs.Classes.{volatile_class}
use Rattle.dtx_model.proofs.Writing.{written-none}

pub write-requires-in-Volatile-clause-taken : goal.write-requires-in-Volatile-clause-taken
unfolding local_answer
write-requires-in-Volatile-clause-taken c =
    let x = class_of c.in-Volatile.option in
    subst (λ (k : Class). HasPlace c.args.self.now.half c.in-Volatile.e k) (sym c.class_of.ensures)
    (may_join c.args.self.now.half c.in-Volatile.e x (volatile_class c.in-Volatile.option) (rw c.in-Volatile.is at c.requires.done) (rw c.in-Volatile.is at c.requires.new) (rw c.in-Volatile.is at c.requires.unawaited))

pub own-requires-clause-taken : goal.own-requires-clause-taken
unfolding local_answer
own-requires-clause-taken c =
    may_last c.args.self.now.half c.in-Durable.e (is_single c.in-Durable.field-3) (rw c.in-Durable.is at c.requires.done) (rw c.in-Durable.is at c.requires.new) (rw c.in-Durable.is at c.requires.unawaited)

pub own-requires-in-Promotable-clause-taken : goal.own-requires-in-Promotable-clause-taken
unfolding local_answer
own-requires-in-Promotable-clause-taken c =
    let h = c.args.self.now.half in
    let i = c.self.inside in
    let done = rw c.in-Promotable.is at c.requires.done in
    let found = unstarted_there h done in
    let unstarted = subst (λ (k : Known). has_promotion k.half.seen ≡ false) (sym c.self.view_is) found.0 in
    let undecided = subst (λ (k : Known). is_some k.half.seen.decided ≡ false) (sym c.self.view_is) found.1 in
    let none = c.self.invariant.8 (never_started i.handover.over i.handover.failed (is_some i.handover.cause) (is_some i.decided) unstarted undecided c.self.invariant.7) in
    let empty : h.waits ≡ [] = subst (λ (k : Known). k.half.waits ≡ []) c.self.view_is none in
    may_promote h c.in-Promotable.e (ap (λ (ws : List Waiter). how_many is_place ws) empty) done (rw c.in-Promotable.is at c.requires.new) (rw c.in-Promotable.is at c.requires.unawaited)

pub write-requires-in-Clone-clause-taken : goal.write-requires-in-Clone-clause-taken
unfolding local_answer
write-requires-in-Clone-clause-taken c =
    may_clone c.args.self.now.half c.in-Clone.c (rw c.in-Clone.is at c.requires.done) (rw c.in-Clone.is at c.requires.new)

pub returns-in_default-clause-state : goal.returns-in_default-clause-state
unfolding heeds_all
returns-in_default-clause-state c =
    let k = c.args.self.now in
    let d = c.in_default in
    let q = idle (number_of k.transaction) k c.args.c.now c.requires.own c.requires.done d.not-Begin d.not-Volatile d.not-Durable d.not-Promotable d.not-Clone d.not-Complete d.not-Commit d.not-Rollback d.not-Tick in
    sym (ap (λ (es : List Entry). after [] (with_call c.args.c.now k) es) q.0 ∙ q.1)

pub returns-in_default-clause-out : goal.returns-in_default-clause-out
returns-in_default-clause-out c =
    let k = c.args.self.now in
    let d = c.in_default in
    let q = idle (number_of k.transaction) k c.args.c.now c.requires.own c.requires.done d.not-Begin d.not-Volatile d.not-Durable d.not-Promotable d.not-Clone d.not-Complete d.not-Commit d.not-Rollback d.not-Tick in
    sym (ap (λ (es : List Entry). written c.args.out.now es) q.0 ∙ written-none c.args.out.now)
