use Rattle.std.proofs.Common.{◌≡◌, ap, sym, ◌∙◌, Bool, true, false, ◌&&◌, not, Some, Option, refl}
use Rattle.std.specs.Option.{option_map}
use Rattle.dtx_values.specs.TxIds.{number_of}
use Rattle.kv_resource.specs.Store.{KvDraft, Pair, is_busy_draft, is_draft_of, pair_of_draft, wrote_key}
use Rattle.kv_resource.proofs.Loops.{find_here, find_past, find_there}
use Rattle.kv_resource.proofs.drafts.busy_draft.Goals as goal
use Rattle.kv_resource.proofs.drafts.busy_draft.Goals.{else-not-is_of-via-then-not-is_of+else-has, else-not-is_of-via-else-not-is_of}

both : (a b : Bool) → a ≡ false → b ≡ true → not a && b ≡ true
both a b e f = rw (e, f) refl

its_own : (a b : Bool) → a ≡ true → not a && b ≡ false
its_own a b e = rw e refl

without_key : (a b : Bool) → b ≡ false → not a && b ≡ false
without_key true b e = refl
without_key false b e = e

pub returns-then-has : goal.returns-then-has
returns-then-has c =
    let p : Pair = (number_of c.args.t, c.args.e.value) in
    let d = c.d-item.result in
    let test : is_busy_draft p c.args.key d ≡ true = both (is_draft_of p d) (wrote_key c.args.key d.writes) (sym c.is_of.ensures ∙ c.if-not-is_of.true) (sym c.has.ensures ∙ c.if-has.true) in
    let found = c.loop-d.invariant ∙ find_here (is_busy_draft p c.args.key) c.args.drafts.now c.loop-d.d-index d c.loop-d-test.true (ap (is_busy_draft p c.args.key) (sym c.d-item.is) ∙ test) ∙ ap Some (sym c.d-item.is) in
    let same : Some (number_of c.transaction.result, c.enlistment.result.value) ≡ Some (pair_of_draft d) = λ i. Some (c.transaction.ensures i, c.enlistment.ensures i) in
    same ∙ sym (ap (λ (x : Option KvDraft). option_map pair_of_draft x) found)

pub loop-d-preserved : goal.loop-d-preserved
loop-d-preserved c =
    let p : Pair = (number_of c.args.t, c.args.e.value) in
    let d = c.d-item.result in
    let test : is_busy_draft p c.args.key d ≡ false =
    elim c.else-not-is_of.branch [
      | else-not-is_of-via-then-not-is_of+else-has w ↦ without_key (is_draft_of p d) (wrote_key c.args.key d.writes) (sym w.has.ensures ∙ w.if-has.false)
      | else-not-is_of-via-else-not-is_of w ↦ its_own (is_draft_of p d) (wrote_key c.args.key d.writes) (sym c.is_of.ensures ∙ w.if-not-is_of.false)
    ] in
    c.loop-d.invariant ∙ find_there (is_busy_draft p c.args.key) c.args.drafts.now c.loop-d.d-index d c.loop-d-test.true (ap (is_busy_draft p c.args.key) (sym c.d-item.is) ∙ test)

pub returns : goal.returns
returns c =
    let q = is_busy_draft (number_of c.args.t, c.args.e.value) c.args.key in
    sym (ap (λ (x : Option KvDraft). option_map pair_of_draft x) (c.loop-d.invariant ∙ find_past q c.args.drafts.now c.loop-d.d-index c.loop-d-test.false))
