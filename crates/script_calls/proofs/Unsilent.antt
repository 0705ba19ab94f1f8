-- A reply that is pending is one that its enlistment's call plans: a silent enlistment's is never pending.
use Rattle.std.proofs.Common.{◌≡◌, ℕ, Bool, true, false, ◌||◌, List, [], ◌∷◌, ◌++◌, map, filter, Option, Some, None, is_some, refl, ap, sym, ◌∙◌, if◌then◌else◌}
use Rattle.std.specs.List.{cons_option, filter_map, flat_map}
use Rattle.dtx_values.specs.declared.end.End.{End}
use Rattle.dtx_values.specs.declared.entry.Entry.{Entry}
use Rattle.dtx_values.specs.declared.message.Conn.{Conn}
use Rattle.dtx_values.specs.declared.message.Dir.{Dir}
use Rattle.dtx_values.specs.declared.message.Dir.TheVariants.{Up, Down}
use Rattle.dtx_values.specs.declared.note.Note.{Note}
use Rattle.dtx_values.specs.declared.note.Plan.{Plan}
use Rattle.dtx_values.specs.declared.number.EnlNo.{EnlNo}
use Rattle.dtx_model.specs.Words.{each, kth}
use Rattle.dtx_model.specs.Acts.{act_entries}
use Rattle.dtx_model.specs.Coordinated.{may_free, may_log}
use Rattle.dtx_model.specs.Plans.{plan_of, planned}
use Rattle.dtx_model.specs.Replies.{all_due, due_of, is_answered, names, with_note}
use Rattle.dtx_model.specs.World.{World, core, half, has_left}
use Rattle.dtx_model.specs.Steps.{StepName, ReplyOf, CoordinatorAct, core_act, deliveries_on, delivery_if, local_if, local_pending, pending, replies_due}
use Rattle.dtx_model.proofs.Bools.{and_both}
use Rattle.history_table.proofs.Scans.{each-append, each-kth}

-- the note of a step that is a reply
note_of : World → StepName → Option (EnlNo × Note)
note_of w (ReplyOf e) = with_note e (due_of (half w).seen e.value)
note_of w _ = None

abbrev asked : (ℕ → Plan) → Option (EnlNo × Note) → Bool
asked p (Some x) = is_answered p x
asked p None = true

-- a pending step is no reply, or one whose plan isn't silent
is_asked : World → StepName → Bool
is_asked w m = asked (plan_of w.calls) (note_of w m)

asked_replies : (w : World) (es : List EnlNo)
    → each (is_asked w) (map (λ (x : EnlNo × Note). ReplyOf x.0) (filter (is_answered (plan_of w.calls)) (filter_map (λ e. with_note e (due_of (half w).seen e.value)) es))) ≡ true
unfolding is_asked note_of
asked_replies w [] = refl
asked_replies w (e ∷ es) = step (due_of (half w).seen e.value) refl (asked_replies w es)
  where
    rest : List (EnlNo × Note)
    rest = filter_map (λ e. with_note e (due_of (half w).seen e.value)) es

    tested : (n : Note) → due_of (half w).seen e.value ≡ Some n → (b : Bool) → is_answered (plan_of w.calls) (e, n) ≡ b → each (is_asked w) (map (λ (x : EnlNo × Note). ReplyOf x.0) (filter (is_answered (plan_of w.calls)) rest)) ≡ true
        → each (is_asked w) (map (λ (x : EnlNo × Note). ReplyOf x.0) (if b then (e, n) ∷ filter (is_answered (plan_of w.calls)) rest else filter (is_answered (plan_of w.calls)) rest)) ≡ true
    tested n q true k ih = and_both (is_asked w (ReplyOf e)) (each (is_asked w) (map (λ (x : EnlNo × Note). ReplyOf x.0) (filter (is_answered (plan_of w.calls)) rest))) (ap (λ o. asked (plan_of w.calls) (with_note e o)) q ∙ k) ih
    tested n q false k ih = ih

    step : (o : Option Note) → due_of (half w).seen e.value ≡ o → each (is_asked w) (map (λ (x : EnlNo × Note). ReplyOf x.0) (filter (is_answered (plan_of w.calls)) rest)) ≡ true
        → each (is_asked w) (map (λ (x : EnlNo × Note). ReplyOf x.0) (filter (is_answered (plan_of w.calls)) (cons_option (with_note e o) rest))) ≡ true
    step (Some n) q ih = tested n q (is_answered (plan_of w.calls) (e, n)) refl ih
    step None q ih = ih

asked_act : (w : World) (xs : List Entry) → each (is_asked w) (local_if xs) ≡ true
unfolding is_asked note_of
asked_act w [] = refl
asked_act w (x ∷ xs) = refl

asked_core : (w : World) (b : Bool) → each (is_asked w) (if b then CoordinatorAct ∷ [] else []) ≡ true
unfolding is_asked note_of
asked_core w true = refl
asked_core w false = refl

asked_one : (w : World) (c : Conn) (d : Dir) (b : Bool) → each (is_asked w) (delivery_if b c d) ≡ true
unfolding is_asked note_of
asked_one w c d true = refl
asked_one w c d false = refl

asked_deliveries : (w : World) (ns : List End) → each (is_asked w) (flat_map (deliveries_on w.past) ns) ≡ true
asked_deliveries w [] = refl
asked_deliveries w (n ∷ ns) =
    each-append (is_asked w) (deliveries_on w.past n) (flat_map (deliveries_on w.past) ns)
    (each-append (is_asked w) (delivery_if (has_left n.connection Up w.past) n.connection Up) (delivery_if (has_left n.connection Down w.past) n.connection Down)
    (asked_one w n.connection Up (has_left n.connection Up w.past)) (asked_one w n.connection Down (has_left n.connection Down w.past)))
    (asked_deliveries w ns)

all_asked : (w : World) → each (is_asked w) (pending w) ≡ true
unfolding pending local_pending all_due
all_asked w =
    each-append (is_asked w) (local_pending (plan_of w.calls) (half w) ++ core_act (core w)) (flat_map (deliveries_on w.past) (half w).seen.ends)
    (each-append (is_asked w) (local_pending (plan_of w.calls) (half w)) (core_act (core w))
    (each-append (is_asked w) (replies_due (plan_of w.calls) (half w)) (local_if (act_entries (half w))) (asked_replies w (names (half w).seen)) (asked_act w (act_entries (half w))))
    (asked_core w (may_log (core w) || may_free (core w))))
    (asked_deliveries w (half w).seen.ends)

pub unsilent : (w : World) (k : ℕ) (e : EnlNo) (n : Note) → kth (pending w) k ≡ Some (ReplyOf e) → due_of (half w).seen e.value ≡ Some n → is_some (planned (plan_of w.calls e.value) n) ≡ true
unfolding is_asked note_of
unsilent w k e n stands due = ap (λ (o : Option Note). asked (plan_of w.calls) (with_note e o)) (sym due) ∙ each-kth (is_asked w) (pending w) k (ReplyOf e) (all_asked w) stands
