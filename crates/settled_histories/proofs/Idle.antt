-- What 'nothing is pending' says: nothing is on the way, each side saw the end of what was lost, neither side has an act, and no reply is due that its plan has.
use Rattle.std.proofs.Common.{◌≡◌, Bool, true, false, [], refl, List, ◌∷◌, ◌++◌, map, ℕ, zero, suc, Option, Some, None, is_some, filter, slice_get, ap, ◌∙◌, if◌then◌else◌, subst, sym, ◌&&◌, ◌||◌, ◌==◌}
use Rattle.std.specs.Prelude.{not, is_none}
use Rattle.std.specs.List.{filter_map, cons_option, flat_map}
use Rattle.std.proofs.lemmas.Bool.{or_left}
use Rattle.dtx_values.specs.declared.end.End.{End}
use Rattle.dtx_values.specs.declared.entry.Entry.{Entry}
use Rattle.dtx_values.specs.declared.entry.Entry.TheVariants.{Down as Ended, Got, Stopped, Enlisted}
use Rattle.dtx_values.specs.declared.message.Conn.{Conn}
use Rattle.dtx_values.specs.declared.message.Dir.{Dir}
use Rattle.dtx_values.specs.declared.message.Dir.TheVariants.{Up, Down}
use Rattle.dtx_values.specs.declared.message.Message.{Message}
use Rattle.dtx_values.specs.declared.note.Plan.{Plan}
use Rattle.dtx_values.specs.Ends.{is_end_of, same_connection, same_direction}
use Rattle.dtx_values.specs.Lines.{has_line}
use Rattle.dtx_values.specs.declared.number.EnlNo.{EnlNo}
use Rattle.dtx_values.specs.declared.note.Note.{Note}
use Rattle.dtx_values.specs.declared.row.Row.{Row}
use Rattle.dtx_model.specs.declared.waiting.EnteredCall.{EnteredCall}
use Rattle.dtx_model.specs.Words.{has, holds, each}
use Rattle.dtx_model.specs.Observed.{Observed, ends_of, observe}
use Rattle.dtx_model.specs.Outcome.{is_empty, enlisted}
use Rattle.dtx_model.specs.Wires.{in_transit, opens, ends, begins_ended, ended_after, is_ended, is_lost_wire, lost_since}
use Rattle.dtx_model.specs.Coordinated.{Coordinated, may_free, may_log, coordinate}
use Rattle.dtx_model.specs.Plans.{planned, plan_of}
use Rattle.dtx_model.specs.Half.{half_of}
use Rattle.dtx_model.specs.Acts.{act_entries}
use Rattle.dtx_model.specs.Replies.{due_of, is_answered, with_note, names, all_due}
use Rattle.dtx_model.specs.World.{has_left}
use Rattle.dtx_model.specs.Steps.{delivery_if, local_if, ReplyOf, deliveries_on, CoordinatorAct, core_act, local_pending, pending, replies_due}
use Rattle.dtx_model.specs.History.{is_willing}
use Rattle.dtx_model.proofs.Bools.{or_first, or_case, and_right, not_both, not_true, or_right, and_both, and_left}
use Rattle.dtx_model.proofs.Connections.{same_is}
use Rattle.history_table.proofs.Crossed.{since_opened}
use Rattle.history_table.proofs.EntryTests.{is_unplanned, is_enlisted}
use Rattle.history_table.proofs.Tests.{eq_self}
use Rattle.settled_histories.proofs.Wired.{IsWired, is_end_on, newest, unstopped, wired_before, is_plain}
use Rattle.settled_histories.proofs.Openings.{unopened_empty}
use Rattle.settled_histories.proofs.Knowledge.{opened_noted}

-- Nothing is on the way.
none_delivered : (b : Bool) (c : Conn) (d : Dir) → delivery_if b c d ≡ [] → b ≡ false
none_delivered true c d k = absurd cc
none_delivered false c d k = refl

pub none_left : (c : Conn) (d : Dir) (h : List Entry) → has_left c d h ≡ false → in_transit c d h ≡ []
none_left c d h k = bare (in_transit c d h) (or_first (not (is_empty (in_transit c d h))) _ k)
  where
    bare : (ms : List Message) → not (is_empty ms) ≡ false → ms ≡ []
    bare [] k = refl
    bare (m ∷ ms) k = absurd cc

-- two lists together are empty: the first is
pub append_first : {A : Type 0} (xs ys : List A) → xs ++ ys ≡ [] → xs ≡ []
append_first [] ys e = refl
append_first (x ∷ xs) ys e = absurd cc

-- two lists together are empty: the second is
pub append_second : {A : Type 0} (xs ys : List A) → xs ++ ys ≡ [] → ys ≡ []
append_second [] ys e = e
append_second (x ∷ xs) ys e = absurd cc

-- where no act is pending, it has no entries
pub no_act : (xs : List Entry) → local_if xs ≡ [] → xs ≡ []
no_act [] e = refl
no_act (x ∷ xs) e = absurd cc

-- where no reply is named, none is due
pub no_name : (xs : List (EnlNo × Note)) → map (λ x. ReplyOf x.0) xs ≡ [] → xs ≡ []
no_name [] e = refl
no_name (x ∷ xs) e = absurd cc

-- the replies that are due and whose plans aren't silent, where the plans of these rows are the same
pub due_same : (p q : ℕ → Plan) (o : Observed) (xs : List Row) → ((k : ℕ) (x : Row) → slice_get xs k ≡ Some x → p x.number.value ≡ q x.number.value)
    → filter (is_answered p) (filter_map (λ e. with_note e (due_of o e.value)) (map (λ x. x.number) xs)) ≡ filter (is_answered q) (filter_map (λ e. with_note e (due_of o e.value)) (map (λ x. x.number) xs))
due_same p q o [] f = refl
due_same p q o (x ∷ xs) f =
    step x.number (due_of o x.number.value) (filter_map (λ e. with_note e (due_of o e.value)) (map (λ x. x.number) xs)) (f zero x refl) (due_same p q o xs (λ k y e. f (suc k) y e))
  where
    step : (e : EnlNo) (n : Option Note) (ys : List (EnlNo × Note)) → p e.value ≡ q e.value → filter (is_answered p) ys ≡ filter (is_answered q) ys
        → filter (is_answered p) (cons_option (with_note e n) ys) ≡ filter (is_answered q) (cons_option (with_note e n) ys)
    step e None ys g ih = ih
    step e (Some n) ys g ih =
        ap (λ (r : Plan). if is_some (planned r n) then (e, n) ∷ filter (is_answered p) ys else filter (is_answered p) ys) g
        ∙ ap (λ zs. if is_some (planned (q e.value) n) then (e, n) ∷ zs else zs) ih

pub none_pending_on : (c : Conn) (h : List Entry) (ns : List End) → flat_map (deliveries_on h) ns ≡ [] → has (is_end_of c) ns ≡ true → (has_left c Up h ≡ false) × (has_left c Down h ≡ false)
none_pending_on c h [] e k = absurd cc
none_pending_on c h (n ∷ ns) e k =
    or_case (is_end_of c n) (has (is_end_of c) ns)
    (λ q. let own = append_first (deliveries_on h n) (flat_map (deliveries_on h) ns) e in
    let up = delivery_if (has_left n.connection Up h) n.connection Up in
    let down = delivery_if (has_left n.connection Down h) n.connection Down in
    let P : Conn → Type 0 = λ x. (has_left x Up h ≡ false) × (has_left x Down h ≡ false) in
    let there : P n.connection = (
      none_delivered (has_left n.connection Up h) n.connection Up (append_first up down own),
      none_delivered (has_left n.connection Down h) n.connection Down (append_second up down own),
    ) in
    subst P (sym (same_is c n.connection q)) there)
    (λ q. none_pending_on c h ns (append_second (deliveries_on h n) (flat_map (deliveries_on h) ns) e) q) k

pub none_on_the_way : (h : List Entry) → IsWired h → flat_map (deliveries_on h) (ends_of h) ≡ [] → (c : Conn) (d : Dir) → in_transit c d h ≡ []
none_on_the_way h w e c d = by_opening (has (opens c) h) refl
  where
    of_way : (d : Dir) → (has_left c Up h ≡ false) × (has_left c Down h ≡ false) → in_transit c d h ≡ []
    of_way Up k = none_left c Up h k.0
    of_way Down k = none_left c Down h k.1

    by_opening : (b : Bool) → has (opens c) h ≡ b → in_transit c d h ≡ []
    by_opening true o = of_way d (none_pending_on c h (ends_of h) e (opened_noted c h w o))
    by_opening false o = unopened_empty c d h w o

-- Each side saw the end of each connection that was lost.
end_there : (c : Conn) (d : Dir) (x : Entry) (h : List Entry) → IsWired (x ∷ h) → ends c d x ≡ true → is_end_on c d x ≡ true
end_there c d (Ended e r) h w k = k
end_there c d (Got e r m) h w k =
    absurd (not_both (has_line e r m) (newest (Got e r m) h w) (not_true (has_line e r m) (and_right (same_connection c e && same_direction d r) (not (has_line e r m)) k)))
end_there c d Stopped h w k = let s : true ≡ false = w.unstopped in absurd cc
end_there c Up _ h w k = absurd cc
end_there c Down _ h w k = absurd cc

end_saw : (c : Conn) (d : Dir) (h : List Entry) → IsWired h → is_ended c d h ≡ true → has (is_end_on c d) h ≡ true
end_saw c d [] w k = absurd cc
end_saw c d (x ∷ h) w k = step (end_saw c d h past) (opens c x) (begins_ended d h) (fresh d) k
  where
    past : IsWired h
    past = wired_before x h w

    fresh : (d : Dir) → begins_ended d h ≡ false
    fresh Up = unstopped h past.unstopped
    fresh Down = refl

    step : (is_ended c d h ≡ true → has (is_end_on c d) h ≡ true) → (b s : Bool) → s ≡ false → ended_after b s (ends c d x || is_ended c d h) ≡ true
        → (is_end_on c d x || has (is_end_on c d) h) ≡ true
    step ih true s n k = absurd (not_both s k n)
    step ih false s n k =
        or_case (ends c d x) (is_ended c d h) (λ q. or_left (is_end_on c d x) (has (is_end_on c d) h) (end_there c d x h w q))
        (λ q. or_right (is_end_on c d x) (has (is_end_on c d) h) (ih q)) k

-- a connection that is lost was opened
pub opened_if_lost : (c : Conn) (h : List Entry) → is_lost_wire c h ≡ true → has (opens c) h ≡ true
opened_if_lost c h l = since_opened c h (some (lost_since c h) l)
  where
    some : (o : Option Bool) → holds o ≡ true → is_some o ≡ true
    some (Some b) k = refl
    some None k = absurd cc

-- where it is noted, each side has its end
pub lost_ended : (c : Conn) (h : List Entry) → has (is_end_of c) (ends_of h) ≡ true → flat_map (deliveries_on h) (ends_of h) ≡ [] → is_lost_wire c h ≡ true → (d : Dir) → is_ended c d h ≡ true
lost_ended c h n e l d = seen d (none_pending_on c h (ends_of h) e n)
  where
    ended : (m l n : Bool) → l ≡ true → (m || (l && not n)) ≡ false → n ≡ true
    ended m true true l k = refl
    ended true true false l k = absurd cc
    ended false true false l k = absurd cc
    ended m false n l k = absurd cc

    seen : (d : Dir) → (has_left c Up h ≡ false) × (has_left c Down h ≡ false) → is_ended c d h ≡ true
    seen Up k = ended (not (is_empty (in_transit c Up h))) (is_lost_wire c h) (is_ended c Up h) l k.0
    seen Down k = ended (not (is_empty (in_transit c Down h))) (is_lost_wire c h) (is_ended c Down h) l k.1

pub ends_seen : (c : Conn) (h : List Entry) → IsWired h → flat_map (deliveries_on h) (ends_of h) ≡ [] → is_plain c ≡ true → is_lost_wire c h ≡ true → (d : Dir) → has (is_end_on c d) h ≡ true
ends_seen c h w e p l d = end_saw c d h w (lost_ended c h (opened_noted c h w (opened_if_lost c h l)) e l d)

-- Neither side has an act.
none_appended : (k : Coordinated) → core_act k ≡ [] → may_log k ≡ false
none_appended k e = step (may_log k) (may_free k) e
  where
    step : (a b : Bool) → (if a || b then CoordinatorAct ∷ [] else []) ≡ [] → a ≡ false
    step true b e = absurd cc
    step false b e = refl

-- What is pending where nothing is: each of its three parts is empty.
pub record IsIdle (ks : List EnteredCall) (h : List Entry) : Type 0 where
  pub unanswered : each (λ e. is_unplanned (plan_of ks e.value) (due_of (observe h) e.value)) (names (observe h)) ≡ true
  pub act : act_entries (half_of ks h) ≡ []
  pub append : may_log (coordinate h) ≡ false
  pub undelivered : flat_map (deliveries_on h) (ends_of h) ≡ []

-- none is answered: of each name the plan is silent to what is due
pub none_answered : (p : ℕ → Plan) (o : Observed) (es : List EnlNo) → filter (is_answered p) (filter_map (λ e. with_note e (due_of o e.value)) es) ≡ []
    → each (λ e. is_unplanned (p e.value) (due_of o e.value)) es ≡ true
none_answered p o [] k = refl
none_answered p o (e ∷ es) k = step e (due_of o e.value) (filter_map (λ e. with_note e (due_of o e.value)) es) (none_answered p o es) k
  where
    inner : (e : EnlNo) (n : Note) (a : Option _) (ys : List (EnlNo × Note)) (rest : Bool) → planned (p e.value) n ≡ a → (filter (is_answered p) ys ≡ [] → rest ≡ true)
        → (if is_some a then (e, n) ∷ filter (is_answered p) ys else filter (is_answered p) ys) ≡ [] → (is_none a && rest) ≡ true
    inner e n (Some r) ys rest f ih k = absurd cc
    inner e n None ys rest f ih k = ih k

    step : (e : EnlNo) (n : Option Note) (ys : List (EnlNo × Note)) → (filter (is_answered p) ys ≡ [] → each (λ e. is_unplanned (p e.value) (due_of o e.value)) es ≡ true)
        → filter (is_answered p) (cons_option (with_note e n) ys) ≡ [] → (is_unplanned (p e.value) n && each (λ e. is_unplanned (p e.value) (due_of o e.value)) es) ≡ true
    step e None ys ih k = ih k
    step e (Some n) ys ih k = inner e n (planned (p e.value) n) ys (each (λ e. is_unplanned (p e.value) (due_of o e.value)) es) refl ih k

-- of each row, where none of the names is answered
pub named_rows : (f : EnlNo → Bool) (xs : List Row) → each f (map (λ x. x.number) xs) ≡ true → each (λ x. f x.number) xs ≡ true
named_rows f [] k = refl
named_rows f (x ∷ xs) k = and_both (f x.number) (each (λ x. f x.number) xs) (and_left (f x.number) (each f (map (λ x. x.number) xs)) k) (named_rows f xs (and_right (f x.number) (each f (map (λ x. x.number) xs)) k))

pub idle : (ks : List EnteredCall) (h : List Entry) → pending (record { calls = ks; past = h }) ≡ [] → IsIdle ks h
unfolding pending local_pending all_due observe
idle ks h e =
    let k = half_of ks h in
    let p = plan_of ks in
    let replies = replies_due p k in
    let acts = local_if (act_entries k) in
    let local = replies ++ acts in
    let coordinator = core_act (coordinate h) in
    let deliveries = flat_map (deliveries_on h) (ends_of h) in
    let sides = append_first (local ++ coordinator) deliveries e in
    let own = append_first local coordinator sides in
    record {
      unanswered = none_answered p (observe h) (names (observe h)) (no_name _ (append_first replies acts own));
      act = no_act (act_entries k) (append_second replies acts own);
      append = none_appended (coordinate h) (append_second local coordinator sides);
      undelivered = append_second (local ++ coordinator) deliveries e;
    }

-- where whoever was made has the same plan, all are willing by the one as by the other
pub same_willing : (p q : ℕ → Plan) (h : List Entry) → ((e : ℕ) → has (is_enlisted e) h ≡ true → p e ≡ q e) → each (λ x. is_willing (q x.0.value) x.1) (enlisted h) ≡ true
    → each (λ x. is_willing (p x.0.value) x.1) (enlisted h) ≡ true
same_willing p q [] f k = refl
same_willing p q (Enlisted e c ∷ h) f k =
    and_both (is_willing (p e.value) c) (each (λ x. is_willing (p x.0.value) x.1) (enlisted h))
    (ap (λ r. is_willing r c) (f e.value (rw (eq_self e.value) refl)) ∙ and_left (is_willing (q e.value) c) (each (λ x. is_willing (q x.0.value) x.1) (enlisted h)) k)
    (same_willing p q h (λ n a. f n (or_right (n == e.value) (has (is_enlisted n) h) a)) (and_right (is_willing (q e.value) c) (each (λ x. is_willing (q x.0.value) x.1) (enlisted h)) k))
same_willing p q (x ∷ h) f k = same_willing p q h (λ n a. f n (or_right (is_enlisted n x) (has (is_enlisted n) h) a)) k
