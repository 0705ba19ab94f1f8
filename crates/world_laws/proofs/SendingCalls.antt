-- The blocks of calls, and of a promotable's answer, that open connections: BEGIN where a promotion begins, an ENLIST where it is over, and a REENLIST where nothing is left.
use Rattle.std.proofs.Common.{◌≡◌, inl, inr, ℕ, ◌==◌, Bool, true, false, ◌&&◌, ◌||◌, List, [], ◌∷◌, find, Option, Some, None, is_some, refl, sym, subst, ap, ◌∙◌}
use Rattle.std.specs.Prelude.{IfSome, not, if◌then◌else◌}
use Rattle.std.proofs.lemmas.Bool.{eqb-true, false_from_ne_true}
use Rattle.dtx_values.specs.declared.call.Call.{Call}
use Rattle.dtx_values.specs.declared.call.Call.TheVariants.{Durable, Marshal, Promotable, Reenlist}
use Rattle.dtx_values.specs.declared.entry.Answer.{Answer}
use Rattle.dtx_values.specs.declared.entry.Answer.TheVariants.{Fine, True, Wait}
use Rattle.dtx_values.specs.declared.entry.Entry.{Entry}
use Rattle.dtx_values.specs.declared.entry.Entry.TheVariants.{Called, Enlisted, Init, PromoteReply, Promoting, Reenlisted, Sent}
use Rattle.dtx_values.specs.declared.message.Conn.{Conn}
use Rattle.dtx_values.specs.declared.message.Conn.TheVariants.{Begin, Voter, Enl, Again}
use Rattle.dtx_values.specs.declared.message.Dir.TheVariants.{Up, Down}
use Rattle.dtx_values.specs.declared.message.Message.{Message}
use Rattle.dtx_values.specs.declared.message.Message.TheVariants.{BeginBegin, EnlistEnlist}
use Rattle.dtx_values.specs.declared.note.Note.{Note}
use Rattle.dtx_values.specs.declared.note.Reply.TheVariants.{Promote as Promotes}
use Rattle.dtx_values.specs.declared.number.ActorNo.{ActorNo}
use Rattle.dtx_values.specs.declared.number.EnlNo.{EnlNo}
use Rattle.dtx_values.specs.declared.number.RmNo.{RmNo}
use Rattle.dtx_values.specs.declared.row.Row.{Row}
use Rattle.dtx_values.specs.declared.words.Cause.{Cause}
use Rattle.dtx_values.specs.declared.words.Cause.TheVariants.{Marshal as MarshalCause}
use Rattle.dtx_values.specs.declared.words.Class.{Class}
use Rattle.dtx_values.specs.declared.words.Class.TheVariants.{DurableSingle, Promotable as PromotableClass}
use Rattle.dtx_values.specs.Class.{is_promotable}
use Rattle.dtx_values.specs.Ends.{is_in}
use Rattle.dtx_values.specs.Lines.{is_opening}
use Rattle.dtx_values.specs.Owners.{cause_of, may_own}
use Rattle.dtx_values.specs.RecoveryInfo.{is_id}
use Rattle.dtx_values.specs.Support.{is_single}
use Rattle.dtx_model.specs.declared.branch.Branch.{Branch}
use Rattle.dtx_model.specs.Answers.{durable_answer, if_begun, has_promotion, is_crowded, is_full, local_answer, marshal_answer, promotable_answer}
use Rattle.dtx_model.specs.Caused.{AreMadeOnce, made_by}
use Rattle.dtx_model.specs.Entries.{began_of, decision_of, is_decision, is_promoted, is_sealed, is_call}
use Rattle.dtx_model.specs.Facts.{begin_promotion, durable_facts, facts_if, has_facts}
use Rattle.dtx_model.specs.Grammar.{OfEnlistment}
use Rattle.dtx_model.specs.Half.{Half, enlist_sent, info, is_promoting}
use Rattle.dtx_model.specs.Observed.{Observed, branches, is_branch, is_promotion_failed, observe, rows}
use Rattle.dtx_model.specs.Outcome.{enlisted, is_empty}
use Rattle.dtx_model.specs.Promotes.{identifier_of, is_promoting as is_start}
use Rattle.dtx_model.specs.Replies.{due_of, fits, promote_entries}
use Rattle.dtx_model.specs.Steps.{called}
use Rattle.dtx_model.specs.Wires.{in_transit, is_ended, is_stopped, lost_since, loses, opens}
use Rattle.dtx_model.specs.Words.{each, has, holds, latest, onto}
use Rattle.dtx_model.specs.World.{World, answer_at, facts_at, half, core, is_connected, is_finished_there, is_linked, reenlist_by, reenlist_facts, unless_stopped}
use Rattle.dtx_model.proofs.Bools.{and_left, and_right, not_both, not_false, not_true, or_case, or_second, or_first}
use Rattle.history_table.proofs.Crossed.{is_sent_on}
use Rattle.history_table.proofs.Makers.{AreMade, makes_lasting}
use Rattle.history_table.proofs.Messages.{ENLIST}
use Rattle.history_table.proofs.Owned.{has_rows}
use Rattle.history_table.proofs.Lists.{found_at, has-at, none_each}
use Rattle.history_table.proofs.Scans.{has_more}
use Rattle.history_table.proofs.Tests.{eq_self}
use Rattle.world_laws.proofs.SendingApt.{can_same}
use Rattle.world_laws.proofs.SendingBlocks.{Hears, apt_facts_at, apt_facts_if, may_open}
use Rattle.world_laws.proofs.SendingKnown.{hears}
use Rattle.world_laws.proofs.SendingOpened.{Opened, branch_stays}
use Rattle.world_laws.proofs.SendingEnds.{Ends, again_ends, apt_ends, begin_ends, ends_if, enlist_ends, one_ends, promotable_ends, start_ends}
use Rattle.history_table.proofs.WorldCalls.{done_behind, branch_done}
use Rattle.history_table.proofs.ToPromote.{marshal_waits, owns_alone, to_promote, unowned, unstarted as none_started}
use Rattle.history_table.proofs.HalfKnows.{cause_seen, failed_seen}

no : false ≡ true → ⊥
no e = absurd cc

-- Where it isn't promoted, isn't promoting, and nothing is decided, no promotion began.
pub unstarted : (h : List Entry) → has is_promoted h ≡ false → is_promoting (observe h) ≡ false → latest decision_of h ≡ None → (has is_promotion_failed h ≡ true → has is_decision h ≡ true) → has is_start h ≡ false
unstarted h p w d f = sym (cause_seen h) ∙ none_started h p w d (λ k. f (sym (failed_seen h) ∙ k))

-- so b wasn't opened
unbegun : (h : List Entry) → has is_start h ≡ false → Opened h → has (opens Begin) h ≡ false
unbegun h n i = false_from_ne_true (has (opens Begin) h) (λ o. not_both (has is_start h) (i.on_begin.begun o) n)

-- A promotion begins: BEGIN is sent where there is no promotable.
start_block : (h : List Entry) (v : Half) (c : Option Cause) → v.seen.table ≡ rows h → has is_start h ≡ false → Ends h → Ends (onto h (begin_promotion v c))
start_block h v None q n i = i
start_block h v (Some c) q n i =
    let next = start_ends h c n i in
    ends_if (Promoting c ∷ h) (has (λ x. is_promotable x.class) v.seen.table) [] (Sent Begin Up BeginBegin ∷ []) (λ b. next)
    (λ b. begin_ends (Promoting c ∷ h) (unbegun h n i.opened) refl
    (inr (none_each (λ x. is_promotable x.1) (λ x. not (is_promotable x.1)) (λ x u. not_false (is_promotable x.1) u) (enlisted h)
    (sym (has_rows (λ e d. is_promotable d) h) ∙ ap (has (λ (x : Row). is_promotable x.class)) (sym q) ∙ b))) next)

facts_by : (h : List Entry) (b : Bool) (es : List Entry) → Ends h → (b ≡ true → Ends (onto h es)) → Ends (onto h (facts_if b es))
facts_by h true es i f = f refl
facts_by h false es i f = i

-- A durable call: its ENLIST is sent, a promotion begins, or its enlistment is made.
durable_ends : (t : ℕ) (h : List Entry) (v : Half) (e : EnlNo) (r : RmNo) (single : Bool) (x : Answer) → is_id (identifier_of t) ≡ true → v.seen ≡ observe h → (has_facts x ≡ true → latest decision_of h ≡ None)
    → has (opens (Enl e)) h ≡ false → Ends h → Ends (onto h (facts_if (has_facts x) (durable_facts t v e r single x)))
unfolding observe
durable_ends t h v e r single Wait k s d n i =
    ends_if h v.seen.promoted (enlist_sent t e r) (if is_promoting v.seen then [] else begin_promotion v (cause_of v.seen.table single))
    (λ p. let over = ap (λ (o : Observed). o.promoted) (sym s) ∙ p in
    enlist_ends h e (info t e r) k n (i.opened.over over) (i.opened.going over) (λ q. absurd (not_both (has is_promoted h) over q)) i)
    (λ p. ends_if h (is_promoting v.seen) [] (begin_promotion v (cause_of v.seen.table single)) (λ w. i)
    (λ w. start_block h v (cause_of v.seen.table single) (ap (λ (o : Observed). o.table) s)
    (unstarted h (ap (λ (o : Observed). o.promoted) (sym s) ∙ p) (ap is_promoting (sym s) ∙ w) (d refl) i.failed) i))
durable_ends t h v e r single Fine k s d n i = one_ends (Enlisted e DurableSingle) h refl refl refl i
durable_ends t h v e r single True k s d n i = one_ends (Enlisted e DurableSingle) h refl refl refl i
durable_ends t h v e r single _ k s d n i = i

-- A promotable's call, where no promotion is under way.

promotable_block : (h : List Entry) (e : EnlNo) (x : Answer) → (has_facts x ≡ true → has (opens Begin) h ≡ false) → Ends h → Ends (onto h (facts_if (has_facts x) (Enlisted e PromotableClass ∷ Init e ∷ [])))
promotable_block h e x f i =
    facts_by h (has_facts x) (Enlisted e PromotableClass ∷ Init e ∷ []) i (λ b. one_ends (Init e) (Enlisted e PromotableClass ∷ h) refl refl refl (promotable_ends h e (f b) i))

-- A marshal call: a promotion begins where none did.

-- A reenlistment, where nothing is left of the connections.

-- an entry that opens, loses and ends nothing leaves what a connection has left
lost_same : (c : Conn) (x : Entry) (h : List Entry) → opens c x ≡ false → loses c x ≡ false → lost_since c (x ∷ h) ≡ lost_since c h
lost_same c x h o l = by (opens c x) (loses c x) (lost_since c h) o l
  where
    by : (a b : Bool) (y : Option Bool) → a ≡ false → b ≡ false
        → elim y as (λ z. Option Bool) [ Some k ↦ if a then Some (is_stopped h) else Some (k || b) | None ↦ if a then Some (is_stopped h) else None ] ≡ y
    by true b y p q = absurd cc
    by false true y p q = absurd cc
    by false false (Some true) p q = refl
    by false false (Some false) p q = refl
    by false false None p q = refl

abbrev linked_by : Conn → List Entry → Option Bool → Bool
linked_by c h o =
    is_some o && (not (is_ended c Up h && is_ended c Down h) || (not (is_empty (in_transit c Up h)) || (holds o && not (is_ended c Up h))) || (not (is_empty (in_transit c Down h)) || (holds o && not (is_ended c Down h))))

linked_called : (c : Conn) (n : ℕ) (a : ActorNo) (y : Answer) (h : List Entry) → is_linked c (Called n a y ∷ h) ≡ is_linked c h
linked_called c n a y h = ap (linked_by c h) (lost_same c (Called n a y) h refl refl)

linked_back : (c : Conn) (e : EnlNo) (h : List Entry) → is_linked c (Reenlisted e ∷ h) ≡ is_linked c h
linked_back c e h = ap (linked_by c h) (lost_same c (Reenlisted e) h refl refl)

reenlist_ends : (t n : ℕ) (a : ActorNo) (y : Answer) (h : List Entry) (o : Option Branch) → is_id (identifier_of t) ≡ true → (has_facts y ≡ true → IfSome o (λ b. is_linked (Again b.enlistment) h ≡ false)) → IfSome o (λ b. has (is_branch b.enlistment.value) (branches h) ≡ true)
    → Ends (Called n a y ∷ h) → Ends (onto (Called n a y ∷ h) (facts_if (has_facts y) (reenlist_facts t o)))
reenlist_ends t n a y h None v f there i = facts_by (Called n a y ∷ h) (has_facts y) [] i (λ b. i)
reenlist_ends t n a y h (Some b) v f there i =
    let e = b.enlistment in
    facts_by (Called n a y ∷ h) (has_facts y) (reenlist_facts t (Some b)) i
    (λ q. again_ends (Reenlisted e ∷ Called n a y ∷ h) e (info t e b.manager) v (linked_back (Again e) e (Called n a y ∷ h) ∙ linked_called (Again e) n a y h ∙ f q)
    (branch_stays (Reenlisted e) (Called n a y ∷ h) e.value (branch_stays (Called n a y) h e.value there))
    (one_ends (Reenlisted e) (Called n a y ∷ h) refl refl refl i))

reenlist_free : (w : World) (l : Option ℕ) (o : Option Branch) → has_facts (if_begun l (reenlist_by w o)) ≡ true → IfSome o (λ b. is_linked (Again b.enlistment) w.past ≡ false)
reenlist_free w None o k = absurd cc
reenlist_free w (Some d) None k = tt
reenlist_free w (Some d) (Some b) k =
    or_second (is_linked (Enl b.enlistment) w.past) (is_linked (Again b.enlistment) w.past)
    (branch_done b.enlisted (is_finished_there (half w).seen b.enlistment.value) (is_in b.manager.value (core w).recovered) (is_connected b.enlistment w.past) b.manager b.enlistment (unless_stopped w) k).1

-- the branch that is found is there
found_branch : (e : ℕ) (bs : List Branch) (o : Option Branch) → find (is_branch e) bs ≡ o → IfSome o (λ b. has (is_branch b.enlistment.value) bs ≡ true)
found_branch e bs None q = tt
found_branch e bs (Some b) q =
    let at = found_at (is_branch e) bs b q in has-at (is_branch b.enlistment.value) bs at.0 b at.1 (eq_self b.enlistment.value)

-- The enlistment of a call whose line is new has no connection.
opens_sent : (e : EnlNo) (x : Entry) → opens (Enl e) x ≡ true → is_sent_on (Enl e) Up ENLIST x ≡ true
opens_sent e (Sent (Enl f) Up m) t = by (e.value == f.value) m t
  where
    by : (s : Bool) (m : Message) → (s && is_opening (Enl f) m) ≡ true → (s && true && ENLIST m) ≡ true
    by true (EnlistEnlist i) t = refl
    by true _ t = absurd cc
    by false m t = absurd (not_both (false && is_opening (Enl f) m) t refl)
opens_sent e (Sent Begin Up m) t = absurd (no t)
opens_sent e (Sent Voter Up m) t = absurd (no t)
opens_sent e (Sent (Again f) Up m) t = absurd (no t)
opens_sent e (Sent c Down m) t = absurd (no t)
opens_sent e _ t = absurd (no t)

lasting_name : (e : ℕ) (c : Call) → makes_lasting e c ≡ true → made_by c ≡ Some (OfEnlistment e)
lasting_name e (Durable t f r s) k = ap (λ n. Some (OfEnlistment n)) (sym (eqb-true e f.value k))
lasting_name e (Promotable t f r v x p) k = ap (λ n. Some (OfEnlistment n)) (sym (eqb-true e f.value k))
lasting_name e _ k = absurd cc

own_unopened : (G : ℕ → ActorNo → Call → Type 0) (w : World) (n : ℕ) (a : ActorNo) (c : Call) (e : EnlNo) → AreMadeOnce G → AreMade G w.calls w.past → G n a c → has (is_call n) w.past ≡ false
    → made_by c ≡ Some (OfEnlistment e.value) → has (opens (Enl e)) w.past ≡ false
own_unopened G w n a c e once m g new k =
    false_from_ne_true (has (opens (Enl e)) w.past)
    (λ o. let s = m.sent e (has_more (opens (Enl e)) (is_sent_on (Enl e) Up ENLIST) (opens_sent e) w.past o) in
    let same : s.number ≡ n = once s.number n s.actor a s.call c (OfEnlistment e.value) s.may g (lasting_name e.value s.call s.passes) k in
    not_both (has (is_call n) w.past) (subst (λ j. has (is_call j) w.past ≡ true) same s.called) new)

-- The block of a call that may come.
called_hears : (h : List Entry) (n : ℕ) (a : ActorNo) (x : Answer) → Hears (Called n a x ∷ h) (observe h)
called_hears h n a x = record { up = λ c k. can_same c Up h (Called n a x) refl refl ∙ (hears h).up c k; promoting = λ k. (hears h).promoting k }

called_ends : (h : List Entry) (n : ℕ) (a : ActorNo) (x : Answer) → Ends h → Ends (Called n a x ∷ h)
called_ends h n a x i = one_ends (Called n a x) h refl refl refl i

other_ends : (t : ℕ) (w : World) (n : ℕ) (a : ActorNo) (c : Call) (x : Answer) → may_open c ≡ false → Ends w.past → Ends (onto w.past (called t w n a c x))
other_ends t w n a c x o i =
    let h = Called n a x ∷ w.past in
    apt_ends h (facts_if (has_facts x) (facts_at t w c x)) (apt_facts_if (has_facts x) (apt_facts_at t w (called_hears w.past n a x) c x o)) (called_ends w.past n a x i)

-- it keeps what stands at the end of each block
pub call_ends : (G : ℕ → ActorNo → Call → Type 0) (t : ℕ) (w : World) (n : ℕ) (a : ActorNo) (c : Call) (m : ℕ) → AreMadeOnce G → AreMade G w.calls w.past → G n a c → has (is_call n) w.past ≡ false
    → is_id (identifier_of t) ≡ true → Ends w.past → Ends (onto w.past (called t w n a c (answer_at t w c m)))
unfolding answer_at local_answer observe
call_ends G t w n a (Durable u e r s) m once made g new v i =
    let x = answer_at t w (Durable u e r s) m in
    durable_ends t (Called n a x ∷ w.past) (half w) e r (is_single s) x v refl (λ k. (done_behind (latest began_of w.past) (latest decision_of w.past) (durable_answer (half w) (is_single s)) k).0)
    (own_unopened G w n a (Durable u e r s) e once made g new refl) (called_ends w.past n a x i)
call_ends G t w n a (Promotable u e r y z p) m once made g new v i =
    let x = answer_at t w (Promotable u e r y z p) m in
    promotable_block (Called n a x ∷ w.past) e x
    (λ k. let d = done_behind (latest began_of w.past) (latest decision_of w.past) (promotable_answer (half w)) k in
    let free = unowned (rows w.past) (has_promotion (observe w.past)) (owns_alone (has is_sealed w.past) (may_own (rows w.past) (has_promotion (observe w.past))) (is_full (half w)) d.1) in
    unbegun w.past (unstarted w.past (or_first (has is_promoted w.past) (is_promoting (observe w.past)) free) (or_second (has is_promoted w.past) (is_promoting (observe w.past)) free) d.0 i.failed) i.opened)
    (called_ends w.past n a x i)
call_ends G t w n a (Marshal u) m once made g new v i =
    let x = answer_at t w (Marshal u) m in
    let h = Called n a x ∷ w.past in
    facts_by h (has_facts x) (if is_promoting (half w).seen then [] else begin_promotion (half w) (Some MarshalCause)) (called_ends w.past n a x i)
    (λ k. let d = done_behind (latest began_of w.past) (latest decision_of w.past) (marshal_answer t (half w)) k in
    ends_if h (is_promoting (half w).seen) [] (begin_promotion (half w) (Some MarshalCause)) (λ b. called_ends w.past n a x i)
    (λ b. start_block h (half w) (Some MarshalCause) refl
    (unstarted w.past (marshal_waits (has is_promoted w.past) (has is_sealed w.past) (is_crowded (half w)) (identifier_of t) d.1) b d.0 i.failed) (called_ends w.past n a x i)))
call_ends G t w n a (Reenlist e) m once made g new v i =
    let x = answer_at t w (Reenlist e) m in
    let o = find (is_branch e.value) (half w).seen.branches in
    reenlist_ends t n a x w.past o v (reenlist_free w (latest began_of w.past) o) (found_branch e.value (branches w.past) o refl) (called_ends w.past n a x i)
call_ends G t w n a c m once made g new v i = other_ends t w n a c (answer_at t w c m) refl i

-- A promotable promotes: it was asked to, and hadn't answered, so b wasn't opened.
pub promote_ends : (w : World) (e : EnlNo) (n : Note) → due_of (half w).seen e.value ≡ Some n → fits (Promotes true) n ≡ true → Ends w.past → Ends (onto w.past (promote_entries (half w) e true))
promote_ends w e n d f i =
    let h = w.past in
    let o = to_promote w e n d f in
    let shut = false_from_ne_true (has (opens Begin) h) (λ k. none_there (enlisted h) (i.opened.on_begin.bare k o.new) o.stands) in
    begin_ends (PromoteReply e true ∷ h) shut (i.opened.on_begin.asked o.asked) (inl refl) (one_ends (PromoteReply e true) h refl refl refl i)
  where
    none_there : (xs : List (EnlNo × Class)) → each (λ x. not (is_promotable x.1)) xs ≡ true → has (λ x. is_promotable x.1) xs ≡ true → ⊥
    none_there [] a k = no k
    none_there (x ∷ xs) a k =
        or_case (is_promotable x.1) (has (λ y. is_promotable y.1) xs) (λ t. not_both (is_promotable x.1) t (not_true (is_promotable x.1) (and_left (not (is_promotable x.1)) (each (λ y. not (is_promotable y.1)) xs) a)))
        (λ t. none_there xs (and_right (not (is_promotable x.1)) (each (λ y. not (is_promotable y.1)) xs) a) t) k
