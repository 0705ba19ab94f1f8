-- What stands at a place of the pending steps of a world, how many they are, and that they are due.
use Rattle.std.proofs.Common.{◌≡◌, ◌<◌, ◌≤◌, ℕ, zero, suc, ◌+◌, Bool, true, false, not, List, [], ◌∷◌, ◌++◌, length, map, Option, Some, None, slice_get, refl, ap, sym, subst, ◌∙◌, arith, length-append, ◌||◌, if◌then◌else◌}
use Rattle.std.specs.List.{flat_map}
use Rattle.std.proofs.lemmas.List.{length-map}
use Rattle.dtx_values.specs.declared.entry.Entry.{Entry}
use Rattle.dtx_values.specs.declared.tx_id.TxId.{TxId}
use Rattle.dtx_values.specs.declared.message.Conn.{Conn}
use Rattle.dtx_values.specs.declared.message.Dir.{Dir}
use Rattle.dtx_values.specs.declared.note.Plan.{Plan}
use Rattle.dtx_values.specs.declared.note.Reply.{Reply}
use Rattle.dtx_values.specs.declared.number.EnlNo.{EnlNo}
use Rattle.dtx_values.specs.declared.end.End.{End}
use Rattle.dtx_values.specs.declared.message.Dir.TheVariants.{Up, Down}
use Rattle.dtx_values.specs.declared.row.Row.{Row}
use Rattle.dtx_model.specs.declared.branch.Branch.{Branch}
use Rattle.dtx_model.specs.Words.{kth}
use Rattle.dtx_model.specs.Acts.{act_entries}
use Rattle.dtx_model.specs.Coordinated.{Coordinated, may_free, may_log}
use Rattle.dtx_model.specs.Plans.{plan_of}
use Rattle.dtx_model.specs.World.{World, half, core, has_left}
use Rattle.local_half.specs.Half.{Known}
use Rattle.coordinator_core.specs.Kept.{Kept as CoreKept}
use Rattle.tx_world.specs.Kept.{Kept}
use Rattle.tx_world.proofs.Onward.{core_is, half_is}
use Rattle.dtx_model.specs.Outcome.{is_empty}
use Rattle.dtx_model.specs.Observed.{Observed}
use Rattle.dtx_model.specs.Half.{Half}
use Rattle.dtx_model.specs.Plans.{planned}
use Rattle.dtx_model.specs.Replies.{all_due, due_of, names, with_names}
use Rattle.dtx_model.specs.Steps.{StepName, CoordinatorAct, LocalAct, core_act, deliveries_on, delivery_if, local_if, local_pending, pending, replies_due}
use Rattle.world_parts.specs.declared.pending.At.{At}
use Rattle.world_parts.specs.declared.pending.At.TheVariants.{Step as StepHere, Beyond}
use Rattle.world_parts.specs.declared.pending.PendingStep.{PendingStep}
use Rattle.world_parts.specs.declared.pending.PendingStep.TheVariants.{Act, Coordinate, Deliver, Reply as PendingReply}
use Rattle.world_parts.specs.Pending.{IsAt, IsDueAt, IsDueIn, IsPlannedAt, IsReply, planned_to, reply_if, reply_step}
use Rattle.world_parts.proofs.Places.{at_later, at_sooner, named_few, no_replies, replies_are}

-- a place of the pending steps of a world that holds, part by part
pub at_reply : (t : TxId) (w : World) (h : Known) (k : CoreKept) (i : ℕ) (s : PendingStep) → Kept t w h k → IsAt (replies_due (plan_of w.calls) h.half) i (StepHere s) → IsAt (pending w) i (StepHere s)
unfolding pending local_pending
at_reply t w h k i s kept here =
    let p = plan_of w.calls in
    let replies = replies_due p (half w) in
    let act = local_if (act_entries (half w)) in
    let found = subst (λ (g : Half). IsAt (replies_due p g) i (StepHere s)) (half_is t w h k kept) here in
    at_sooner (replies ++ act ++ core_act (core w)) (flat_map (deliveries_on w.past) (half w).seen.ends) i s (at_sooner (replies ++ act) (core_act (core w)) i s (at_sooner replies act i s found))

pub at_act : (t : TxId) (w : World) (h : Known) (k : CoreKept) (i n : ℕ) (s : PendingStep) → Kept t w h k → IsAt (replies_due (plan_of w.calls) h.half) i (Beyond n) → IsAt (local_if (act_entries h.half)) n (StepHere s)
    → IsAt (pending w) i (StepHere s)
unfolding pending local_pending
at_act t w h k i n s kept before here =
    let p = plan_of w.calls in
    let replies = replies_due p (half w) in
    let act = local_if (act_entries (half w)) in
    let passed = subst (λ (g : Half). IsAt (replies_due p g) i (Beyond n)) (half_is t w h k kept) before in
    let found = subst (λ (g : Half). IsAt (local_if (act_entries g)) n (StepHere s)) (half_is t w h k kept) here in
    at_sooner (replies ++ act ++ core_act (core w)) (flat_map (deliveries_on w.past) (half w).seen.ends) i s (at_sooner (replies ++ act) (core_act (core w)) i s (at_later replies act i n (StepHere s) passed found))

-- where no reply is due, the local act is the first
pub act_is_first : (t : TxId) (w : World) (h : Known) (k : CoreKept) → Kept t w h k → all_due h.half.seen ≡ [] → not (is_empty (act_entries (half w))) ≡ true → kth (pending w) 1 ≡ Some LocalAct
act_is_first t w h k kept none some =
    let here = subst (λ (g : Half). slice_get (local_if (act_entries g)) 0 ≡ Some LocalAct) (sym (half_is t w h k kept)) (first (act_entries (half w)) some) in
    at_act t w h k 0 0 Act kept (no_replies (plan_of w.calls) h.half 0 none) here
  where
    first : (es : List Entry) → not (is_empty es) ≡ true → slice_get (local_if es) 0 ≡ Some LocalAct
    first [] e = absurd (cc)
    first (x ∷ es) e = refl

-- What is at a place up to the coordinator's act.
core_there : (t : TxId) (w : World) (h : Known) (k : CoreKept) (i n m : ℕ) (a : At) → Kept t w h k → IsAt (replies_due (plan_of w.calls) h.half) i (Beyond n) → IsAt (local_if (act_entries h.half)) n (Beyond m)
    → IsAt (core_act k.state) m a → IsAt (replies_due (plan_of w.calls) (half w) ++ local_if (act_entries (half w)) ++ core_act (core w)) i a
core_there t w h k i n m a kept before between here =
    let replies = replies_due (plan_of w.calls) (half w) in
    let act = local_if (act_entries (half w)) in
    let passed = subst (λ (g : Half). IsAt (replies_due (plan_of w.calls) g) i (Beyond n)) (half_is t w h k kept) before in
    let more = subst (λ (g : Half). IsAt (local_if (act_entries g)) n (Beyond m)) (half_is t w h k kept) between in
    let found = subst (λ (x : Coordinated). IsAt (core_act x) m a) (core_is t w h k kept) here in
    at_later (replies ++ act) (core_act (core w)) i m a (at_later replies act i n (Beyond m) passed more) found

pub at_core : (t : TxId) (w : World) (h : Known) (k : CoreKept) (i n m : ℕ) (s : PendingStep) → Kept t w h k → IsAt (replies_due (plan_of w.calls) h.half) i (Beyond n) → IsAt (local_if (act_entries h.half)) n (Beyond m)
    → IsAt (core_act k.state) m (StepHere s) → IsAt (pending w) i (StepHere s)
unfolding pending local_pending
at_core t w h k i n m s kept before between here =
    at_sooner (replies_due (plan_of w.calls) (half w) ++ local_if (act_entries (half w)) ++ core_act (core w)) (flat_map (deliveries_on w.past) (half w).seen.ends) i s
    (core_there t w h k i n m (StepHere s) kept before between here)

pub at_delivery : (t : TxId) (w : World) (h : Known) (k : CoreKept) (i n m l : ℕ) (a : At) → Kept t w h k → IsAt (replies_due (plan_of w.calls) h.half) i (Beyond n) → IsAt (local_if (act_entries h.half)) n (Beyond m)
    → IsAt (core_act k.state) m (Beyond l) → IsAt (flat_map (deliveries_on w.past) h.half.seen.ends) l a → IsAt (pending w) i a
unfolding pending local_pending
at_delivery t w h k i n m l a kept before between after_it here =
    let found = subst (λ (g : Half). IsAt (flat_map (deliveries_on w.past) g.seen.ends) l a) (half_is t w h k kept) here in
    at_later (replies_due (plan_of w.calls) (half w) ++ local_if (act_entries (half w)) ++ core_act (core w)) (flat_map (deliveries_on w.past) (half w).seen.ends) i l a
    (core_there t w h k i n m (Beyond l) kept before between after_it) found

-- so many steps are pending at most
length-deliveries : (h : List Entry) (ns : List End) → length (flat_map (deliveries_on h) ns) ≤ length ns + length ns
length-deliveries h [] = omega arith
length-deliveries h (n ∷ ns) =
    let rest = length-deliveries h ns in
    let up = one (has_left n.connection Up h) n.connection Up in
    let down = one (has_left n.connection Down h) n.connection Down in
    let a = length-append (deliveries_on h n) (flat_map (deliveries_on h) ns) in
    let b = length-append (delivery_if (has_left n.connection Up h) n.connection Up) (delivery_if (has_left n.connection Down h) n.connection Down) in
    omega (arith, rest, up, down, a, b)
  where
    one : (b : Bool) (c : Conn) (d : Dir) → length (delivery_if b c d) ≤ 1
    one true c d = omega arith
    one false c d = omega arith

length-replies : (p : ℕ → Plan) (o : Observed) (es : List EnlNo) → length (flat_map (reply_step p o) es) ≤ length es
length-replies p o [] = omega arith
length-replies p o (e ∷ es) =
    let rest = length-replies p o es in
    let here = one (planned_to (p e.value) (due_of o e.value)) in
    let a = length-append (reply_step p o e) (flat_map (reply_step p o) es) in
    omega (arith, rest, here, a)
  where
    one : (r : Option Reply) → length (reply_if e r) ≤ 1
    one (Some r) = omega arith
    one None = omega arith

length-names : (bs : List Branch) (es : List EnlNo) → length (with_names bs es) ≤ length es + length bs
length-names [] es = omega arith
length-names (b ∷ bs) es = let rest = length-names bs es in let here = named_few b.enlistment (with_names bs es) in omega (arith, rest, here)

pub pending_few : (t : TxId) (w : World) (h : Known) (k : CoreKept) → Kept t w h k → length h.half.seen.table ≤ 32 → length h.half.seen.branches ≤ 16 → length h.half.seen.ends ≤ 34 → length (pending w) ≤ 118
unfolding pending local_pending
pending_few t w h k kept rows branches ends =
    let p = plan_of w.calls in
    let o = (half w).seen in
    let same = half_is t w h k kept in
    let rs : length o.table ≤ 32 = subst (λ (g : Half). length g.seen.table ≤ 32) same rows in
    let bs : length o.branches ≤ 16 = subst (λ (g : Half). length g.seen.branches ≤ 16) same branches in
    let ns : length o.ends ≤ 34 = subst (λ (g : Half). length g.seen.ends ≤ 34) same ends in
    let replies = replies_due p (half w) in
    let act = local_if (act_entries (half w)) in
    let deliveries = flat_map (deliveries_on w.past) o.ends in
    let a = length-append (replies ++ act ++ core_act (core w)) deliveries in
    let b = length-append (replies ++ act) (core_act (core w)) in
    let d = length-append replies act in
    let e : length replies ≤ length (names o) = subst (λ (ms : List StepName). length ms ≤ length (names o)) (sym (replies_are p (half w))) (length-replies p o (names o)) in
    let f = length-names o.branches (map (λ (x : Row). x.number) o.table) in
    let g : length (map (λ (x : Row). x.number) o.table) ≡ length o.table = length-map o.table (λ (x : Row). x.number) in
    let i = length-deliveries w.past o.ends in
    let j = one_act (act_entries (half w)) in
    let l = one_core (may_log (core w) || may_free (core w)) in
    omega (arith, rs, bs, ns, a, b, d, e, f, g, i, j, l)
  where
    one_act : (es : List Entry) → length (local_if es) ≤ 1
    one_act [] = omega arith
    one_act (x ∷ es) = omega arith

    one_core : (b : Bool) → length (if b then CoordinatorAct ∷ [] else []) ≤ 1
    one_core true = omega arith
    one_core false = omega arith

-- what stands in a list stands before its end
pub within : {A : Type 0} (xs : List A) (k : ℕ) (x : A) → slice_get xs k ≡ Some x → k < length xs
within [] k x e = absurd (cc)
within (y ∷ xs) zero x e = omega arith
within (y ∷ xs) (suc k) x e = let less = within xs k x e in omega (arith, less)

-- a step that is there is due
pub reply_due : (t : TxId) (w : World) (h : Known) (k : CoreKept) (s : PendingStep) → Kept t w h k → IsPlannedAt (plan_of w.calls) h.half.seen (StepHere s) → IsReply s → IsDueIn w s
reply_due t w h k (PendingReply e n r) kept planned is = subst (λ (g : Half). IsPlannedAt (plan_of w.calls) g.seen (StepHere (PendingReply e n r))) (half_is t w h k kept) planned
reply_due t w h k Act kept planned is = absurd is
reply_due t w h k Coordinate kept planned is = absurd is
reply_due t w h k (Deliver c d) kept planned is = absurd is

pub act_due : (t : TxId) (w : World) (h : Known) (k : CoreKept) (s : PendingStep) → Kept t w h k → s ≡ Act → is_empty (act_entries h.half) ≡ false → IsDueIn w s
act_due t w h k s kept same some = subst (IsDueIn w) (sym same) (ap (λ (g : Half). is_empty (act_entries g)) (sym (half_is t w h k kept)) ∙ some)

pub core_due : (t : TxId) (w : World) (h : Known) (k : CoreKept) (s : PendingStep) → Kept t w h k → s ≡ Coordinate → (may_log k.state || may_free k.state) ≡ true → IsDueIn w s
core_due t w h k s kept same some = subst (IsDueIn w) (sym same) (ap (λ (x : Coordinated). may_log x || may_free x) (sym (core_is t w h k kept)) ∙ some)

pub delivery_due : (w : World) (a : At) → ((t : PendingStep) → a ≡ StepHere t → (c : Conn) × (d : Dir) × (t ≡ Deliver c d) × (has_left c d w.past ≡ true)) → IsDueAt w a
delivery_due w (Beyond n) only = tt
delivery_due w (StepHere s) only = let one = only s refl in subst (IsDueIn w) (sym one.2) one.3
