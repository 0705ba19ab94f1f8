-- In each world that steps made, promoted or not, what a call makes is new where its line wasn't called: each enlistment is of a call that came, and so is each clone.
use Rattle.std.proofs.Common.{◌≡◌, ℕ, ◌==◌, Bool, true, false, List, [], ◌∷◌, Option, Some, None, refl, sym, subst, ◌∙◌, if◌then◌else◌}
use Rattle.std.specs.Prelude.{find, not}
use Rattle.std.proofs.lemmas.Bool.{eqb-true, false_from_ne_true}
use Rattle.dtx_values.specs.declared.call.Call.{Call}
use Rattle.dtx_values.specs.declared.call.Call.TheVariants.{Volatile, Durable, Promotable, Clone, Marshal, Reenlist}
use Rattle.dtx_values.specs.declared.entry.Answer.{Answer}
use Rattle.dtx_values.specs.declared.entry.Answer.TheVariants.{Wait}
use Rattle.dtx_values.specs.declared.entry.Entry.{Entry}
use Rattle.dtx_values.specs.declared.entry.Entry.TheVariants.{Called, Cloned, Got, Sent, Stopped}
use Rattle.dtx_values.specs.declared.message.Conn.{Conn}
use Rattle.dtx_values.specs.declared.message.Conn.TheVariants.{Begin}
use Rattle.dtx_values.specs.declared.message.Dir.{Dir}
use Rattle.dtx_values.specs.declared.message.Dir.TheVariants.{Up, Down}
use Rattle.dtx_values.specs.declared.message.Message.{Message}
use Rattle.dtx_values.specs.declared.message.Message.TheVariants.{BeginBegin}
use Rattle.dtx_values.specs.declared.note.Reply.{Reply}
use Rattle.dtx_values.specs.declared.note.Reply.TheVariants.{Promote as Promotes}
use Rattle.dtx_values.specs.declared.number.ActorNo.{ActorNo}
use Rattle.dtx_values.specs.declared.number.EnlNo.{EnlNo}
use Rattle.dtx_values.specs.declared.number.RmNo.{RmNo}
use Rattle.dtx_values.specs.declared.words.Cause.{Cause}
use Rattle.dtx_values.specs.declared.words.Cause.TheVariants.{Marshal as MarshalCause}
use Rattle.dtx_values.specs.declared.words.CloneKind.{CloneKind}
use Rattle.dtx_values.specs.Class.{is_promotable}
use Rattle.dtx_values.specs.Clones.{is_clone}
use Rattle.dtx_values.specs.Owners.{cause_of}
use Rattle.dtx_values.specs.Row.{is_of}
use Rattle.dtx_values.specs.Support.{is_single}
use Rattle.dtx_model.specs.declared.branch.Branch.{Branch}
use Rattle.dtx_model.specs.Words.{each, has, onto}
use Rattle.dtx_model.specs.Entries.{is_call}
use Rattle.dtx_model.specs.Observed.{clone_rows, is_branch, observe, rows}
use Rattle.dtx_model.specs.Promotes.{identifier_of}
use Rattle.dtx_model.specs.Wires.{in_transit}
use Rattle.dtx_model.specs.Half.{Half, enlist_sent, is_promoting, sees}
use Rattle.dtx_model.specs.Acts.{act_entries}
use Rattle.dtx_model.specs.Arrivals.{local_got}
use Rattle.dtx_model.specs.Facts.{begin_promotion, durable_facts, facts_if, has_facts}
use Rattle.dtx_model.specs.Replies.{reply_entries}
use Rattle.dtx_model.specs.Grammar.{OfClone, OfEnlistment}
use Rattle.dtx_model.specs.World.{World, answer_at, core, facts_at, half, reenlist_facts}
use Rattle.dtx_model.specs.Steps.{Step, Calls, Replies, Acts, Coordinates, Delivers, Stops, Restarts, after, block_at, coordinates, delivered, ended_at, got_by, restarted}
use Rattle.dtx_model.specs.Caused.{AreMadeOnce, MayCome, IsRun, Ran, is_new, made_by}
use Rattle.dtx_model.proofs.Bools.{and_left, and_right, not_both, not_false, or_case}
use Rattle.history_table.proofs.Scans.{each_more}
use Rattle.history_table.proofs.EntryTests.{is_cloned, is_enlisted}
use Rattle.history_table.proofs.Tests.{eq_self}
use Rattle.history_table.proofs.TableRows.{clone_stands, enlisted_in_rows}
use Rattle.history_table.proofs.Makers.{AreMade, makes_name, ran_made}
use Rattle.history_table.proofs.Marks.{IsCloner, cloner_more}
use Rattle.history_table.proofs.MarkSteps.{all_unpromotable}
use Rattle.history_table.proofs.TameBlocks.{Tame, is_tame, of_act, tame_arrived, tame_called, tame_coordinates, tame_core_got, tame_ended_at, tame_reply, tame_restarted}

-- each clone was made by a call that came
AreCloned : (ℕ → ActorNo → Call → Type 0) → List Entry → Type 0
AreCloned G h = (c : ℕ) → has (is_cloned c) h ≡ true → IsCloner G h c

-- What makes no clone keeps that.
is_uncloning : Entry → Bool
is_uncloning (Cloned c k) = false
is_uncloning _ = true

none_cloned : (x : Entry) → is_uncloning x ≡ true → (c : ℕ) → is_cloned c x ≡ false
unfolding is_uncloning
none_cloned (Cloned d k) u c = absurd cc
none_cloned _ u c = refl

uncloned : (G : ℕ → ActorNo → Call → Type 0) (h es : List Entry) → each is_uncloning es ≡ true → AreCloned G h → AreCloned G (onto h es)
unfolding AreCloned
uncloned G h [] u m = m
uncloned G h (x ∷ es) u m =
    uncloned G (x ∷ h) es (and_right (is_uncloning x) (each is_uncloning es) u)
    (λ c k. cloner_more G h c x
    (m c (or_case (is_cloned c x) (has (is_cloned c) h) (λ q. absurd (not_both (is_cloned c x) q (none_cloned x (and_left (is_uncloning x) (each is_uncloning es) u) c))) (λ q. q) k)))

tame_uncloning : (es : List Entry) → Tame es → each is_uncloning es ≡ true
unfolding is_uncloning
tame_uncloning es q = each_more is_tame is_uncloning one es q.proof
  where
    one : (x : Entry) → is_tame x ≡ true → is_uncloning x ≡ true
    one (Cloned c k) t = absurd cc
    one _ t = refl

-- The calls.
if_uncloning : (b : Bool) (xs ys : List Entry) → each is_uncloning xs ≡ true → each is_uncloning ys ≡ true → each is_uncloning (if b then xs else ys) ≡ true
if_uncloning true xs ys p q = p
if_uncloning false xs ys p q = q

begin_uncloning : (h : Half) (o : Option Cause) → each is_uncloning (begin_promotion h o) ≡ true
unfolding is_uncloning
begin_uncloning h None = refl
begin_uncloning h (Some c) =
    if_uncloning (has (λ x. is_promotable x.class) h.seen.table) [] (Sent Begin Up BeginBegin ∷ []) refl refl

facts_uncloning : (b : Bool) (es : List Entry) → each is_uncloning es ≡ true → each is_uncloning (facts_if b es) ≡ true
facts_uncloning true es p = p
facts_uncloning false es p = refl

durable_uncloning : (t : ℕ) (h : Half) (e : EnlNo) (r : RmNo) (s : Bool) (x : Answer) → each is_uncloning (durable_facts t h e r s x) ≡ true
unfolding is_uncloning
durable_uncloning t h e r s Wait =
    if_uncloning h.seen.promoted (enlist_sent t e r) (if is_promoting h.seen then [] else begin_promotion h (cause_of h.seen.table s)) refl
    (if_uncloning (is_promoting h.seen) [] (begin_promotion h (cause_of h.seen.table s)) refl (begin_uncloning h (cause_of h.seen.table s)))
durable_uncloning t h e r s _ = refl

return_uncloning : (t : ℕ) (o : Option Branch) → each is_uncloning (reenlist_facts t o) ≡ true
unfolding is_uncloning
return_uncloning t (Some b) = refl
return_uncloning t None = refl

clone_made : (G : ℕ → ActorNo → Call → Type 0) (h : List Entry) (n : ℕ) (a : ActorNo) (c : Call) (x : Answer) (k : CloneKind) (d : ℕ) (b : Bool) → G n a c → made_by c ≡ Some (OfClone d)
    → (f : Entry) → ((i : ℕ) → is_cloned i f ≡ (i == d)) → AreCloned G h → AreCloned G (onto (Called n a x ∷ h) (facts_if b (f ∷ [])))
unfolding AreCloned
clone_made G h n a c x k d false g p f own m = λ i q. cloner_more G h i (Called n a x) (m i q)
clone_made G h n a c x k d true g p f own m = λ i q.
    or_case (is_cloned i f) (has (is_cloned i) h)
    (λ e. let same : i ≡ d = eqb-true i d (sym (own i) ∙ e) in
    subst (IsCloner G (f ∷ Called n a x ∷ h)) (sym same)
    (cloner_more G (Called n a x ∷ h) d f (record { number = n; actor = a; call = c; may = g; makes = p; called = rw (eq_self n) refl })))
    (λ e. cloner_more G (Called n a x ∷ h) i f (cloner_more G h i (Called n a x) (m i e))) q

called_cloned : (G : ℕ → ActorNo → Call → Type 0) (t : ℕ) (w : World) (n : ℕ) (a : ActorNo) (c : Call) (x : Answer) → G n a c → AreCloned G w.past
    → AreCloned G (onto w.past (Called n a x ∷ facts_if (has_facts x) (facts_at t w c x)))
unfolding is_uncloning
called_cloned G t w n a (Clone u c k) x g m = clone_made G w.past n a (Clone u c k) x k c.value (has_facts x) g refl (Cloned c k) (λ i. refl) m
called_cloned G t w n a (Durable u e r s) x g m =
    uncloned G w.past (Called n a x ∷ facts_if (has_facts x) (durable_facts t (half w) e r (is_single s) x)) (facts_uncloning (has_facts x) _ (durable_uncloning t (half w) e r (is_single s) x)) m
called_cloned G t w n a (Promotable u e r v o p) x g m = uncloned G w.past (Called n a x ∷ facts_if (has_facts x) (facts_at t w (Promotable u e r v o p) x)) (facts_uncloning (has_facts x) _ refl) m
called_cloned G t w n a (Marshal u) x g m =
    uncloned G w.past (Called n a x ∷ facts_if (has_facts x) (facts_at t w (Marshal u) x))
    (facts_uncloning (has_facts x) _ (if_uncloning (is_promoting (half w).seen) [] (begin_promotion (half w) (Some MarshalCause)) refl (begin_uncloning (half w) (Some MarshalCause)))) m
called_cloned G t w n a (Reenlist e) x g m =
    uncloned G w.past (Called n a x ∷ facts_if (has_facts x) (facts_at t w (Reenlist e) x)) (facts_uncloning (has_facts x) _ (return_uncloning t (find (is_branch e.value) (half w).seen.branches))) m
called_cloned G t w n a c x g m =
    uncloned G w.past (Called n a x ∷ facts_if (has_facts x) (facts_at t w c x)) (tame_uncloning (facts_if (has_facts x) (facts_at t w c x)) (tame_called t w c x refl)) m

-- The other steps.
reply_uncloning : (h : Half) (e : EnlNo) (r : Reply) → each is_uncloning (reply_entries h e r) ≡ true
unfolding reply_entries is_uncloning
reply_uncloning h e (Promotes true) = refl
reply_uncloning h e (Promotes false) = tame_uncloning (reply_entries h e (Promotes false)) (tame_reply h e (Promotes false) refl)
reply_uncloning h e r = tame_uncloning (reply_entries h e r) (tame_reply h e r refl)

act_uncloning : (h : Half) → each is_uncloning (act_entries h) ≡ true
unfolding is_uncloning
act_uncloning h = of_act h (λ es. each is_uncloning es ≡ true) (record { tame = λ es q. tame_uncloning es q; promote = λ e p. refl; single = λ e s p. refl })

delivered_uncloning : (t : ℕ) (w : World) (c : Conn) (d : Dir) (ms : List Message) → each is_uncloning (delivered t w c d ms) ≡ true
unfolding is_uncloning local_got
delivered_uncloning t w c d [] = tame_uncloning (ended_at w c d) (tame_ended_at w c d)
delivered_uncloning t w c Up (x ∷ ms) = tame_uncloning (got_by t w c Up x) (tame_core_got (identifier_of t) (core w) c x)
delivered_uncloning t w c Down (x ∷ ms) = tame_uncloning (got_by t w c Down x) (tame_arrived t (sees (half w) (Got c Down x)) c x (all_unpromotable w.calls w.past))

step_cloned : (G : ℕ → ActorNo → Call → Type 0) (t : ℕ) (w : World) (m : Step) → MayCome G t w m → AreCloned G w.past → AreCloned G (after t w m).past
unfolding after block_at
step_cloned G t w (Calls n a c j) q m = called_cloned G t w n a c (answer_at t w c j) q.0 m
step_cloned G t w (Replies e r) q m = uncloned G w.past (reply_entries (half w) e r) (reply_uncloning (half w) e r) m
step_cloned G t w Acts q m = uncloned G w.past (act_entries (half w)) (act_uncloning (half w)) m
step_cloned G t w (Coordinates x) q m = uncloned G w.past (coordinates (core w) x) (tame_uncloning (coordinates (core w) x) (tame_coordinates (core w) x)) m
step_cloned G t w (Delivers c d) q m = uncloned G w.past (delivered t w c d (in_transit c d w.past)) (delivered_uncloning t w c d (in_transit c d w.past)) m
step_cloned G t w Stops q m = uncloned G w.past (Stopped ∷ []) (tame_uncloning (Stopped ∷ []) (record { proof = refl })) m
step_cloned G t w (Restarts found) q m = uncloned G w.past (restarted (core w).stopped found) (tame_uncloning (restarted (core w).stopped found) (tame_restarted (core w).stopped found)) m

ran_cloned : (G : ℕ → ActorNo → Call → Type 0) (t : ℕ) (ms : List Step) (w : World) → Ran G t ms w → AreCloned G w.past
unfolding AreCloned
ran_cloned G t [] w r = subst (λ h. AreCloned G h) (sym r.1) (λ c k. absurd cc)
ran_cloned G t (m ∷ ms) w r = subst (λ (x : World). AreCloned G x.past) (sym r.3) (step_cloned G t r.0 m r.2 (ran_cloned G t ms r.0 r.1))

-- What a call makes is new where its line wasn't called.
new_enlistment : (G : ℕ → ActorNo → Call → Type 0) (w : World) (n : ℕ) (a : ActorNo) (c : Call) (e : EnlNo) → AreMadeOnce G → AreMade G w.calls w.past → G n a c → has (is_call n) w.past ≡ false
    → made_by c ≡ Some (OfEnlistment e.value) → not (has (is_of e.value) (rows w.past)) ≡ true
new_enlistment G w n a c e once made g new p =
    not_false (has (is_of e.value) (rows w.past))
    (enlisted_in_rows e.value w.past
    ∙ false_from_ne_true (has (is_enlisted e.value) w.past)
    (λ q. let o = (made.enlisted e.value q).0 in
    let same : o.number ≡ n = once o.number n o.actor a o.call c (OfEnlistment e.value) o.may g (makes_name e.value o.call o.passes) p in
    not_both (has (is_call n) w.past) (subst (λ j. has (is_call j) w.past ≡ true) same o.called) new))

pub call_new : (G : ℕ → ActorNo → Call → Type 0) (t : ℕ) (w : World) (n : ℕ) (a : ActorNo) (c : Call) → AreMadeOnce G → IsRun G t w → G n a c → has (is_call n) w.past ≡ false
    → is_new (observe w.past) c ≡ true
unfolding observe AreCloned
call_new G t w n a (Volatile u e x v) once r g new = new_enlistment G w n a (Volatile u e x v) e once (ran_made G t r.0 w r.1) g new refl
call_new G t w n a (Durable u e i s) once r g new = new_enlistment G w n a (Durable u e i s) e once (ran_made G t r.0 w r.1) g new refl
call_new G t w n a (Promotable u e i v x p) once r g new = new_enlistment G w n a (Promotable u e i v x p) e once (ran_made G t r.0 w r.1) g new refl
call_new G t w n a (Clone u c k) once r g new =
    not_false (has (is_clone c.value) (clone_rows w.past))
    (clone_stands c.value w.past
    ∙ false_from_ne_true (has (is_cloned c.value) w.past)
    (λ q. let o = ran_cloned G t r.0 w r.1 c.value q in
    let same : o.number ≡ n = once o.number n o.actor a o.call (Clone u c k) (OfClone c.value) o.may g o.makes refl in
    not_both (has (is_call n) w.past) (subst (λ j. has (is_call j) w.past ≡ true) same o.called) new))
call_new G t w n a c once r g new = refl
