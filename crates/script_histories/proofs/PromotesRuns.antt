-- A run whose history keeps the table is promoted in order: a promotion begins directly after the first call that waits, for the cause of its line's command, and
-- succeeds for that cause, when what stood at the start is handed over.
use Rattle.std.proofs.Common.{◌≡◌, ◌==◌, ◌⊎◌, inl, inr, ℕ, Bool, true, false, ◌&&◌, ◌||◌, List, [], ◌∷◌, ◌++◌, Option, Some, None, refl, ◌∙◌, ap, sym, subst}
use Rattle.std.specs.Prelude.{find, is_some, not, if◌then◌else◌}
use Rattle.std.specs.List.{flat_map}
use Rattle.std.proofs.lemmas.Bool.{false_from_ne_true, or_left}
use Rattle.dtx_values.specs.declared.call.Call.{Call}
use Rattle.dtx_values.specs.declared.call.Call.TheVariants.{Durable, Marshal, Promotable, Volatile}
use Rattle.dtx_values.specs.declared.entry.Answer.{Answer}
use Rattle.dtx_values.specs.declared.entry.Answer.TheVariants.{Ended, Fine, Id, Many, NotBegun, TooLate, Wait}
use Rattle.dtx_values.specs.declared.entry.Entry.{Entry}
use Rattle.dtx_values.specs.declared.entry.Entry.TheVariants.{Called, Down as End, Got, Promoted, Promoting, Sent, Stopped}
use Rattle.dtx_values.specs.declared.limits.TheConstants.{CALLS, DURABLES, ENLISTMENTS}
use Rattle.dtx_values.specs.declared.message.Conn.{Conn}
use Rattle.dtx_values.specs.declared.message.Conn.TheVariants.{Begin as OnBegin, Enl, Voter}
use Rattle.dtx_values.specs.declared.message.Dir.{Dir}
use Rattle.dtx_values.specs.declared.message.Dir.TheVariants.{Down, Up}
use Rattle.dtx_values.specs.declared.message.Message.{Message}
use Rattle.dtx_values.specs.declared.message.Message.TheVariants.{BeginBegin, EnlistEnlisted, VoterCreated}
use Rattle.dtx_values.specs.declared.number.ActorNo.{ActorNo}
use Rattle.dtx_values.specs.declared.number.EnlNo.{EnlNo}
use Rattle.dtx_values.specs.declared.number.RmNo.{RmNo}
use Rattle.dtx_values.specs.declared.number.TxNo.{TxNo}
use Rattle.dtx_values.specs.declared.row.Row.{Row}
use Rattle.dtx_values.specs.declared.script.Body.{Body}
use Rattle.dtx_values.specs.declared.script.Body.TheVariants.{Complete as CompleteLine, Durable as DurableLine, Gone as GoneLine, Marshal as MarshalLine, Reenlist as ReenlistLine}
use Rattle.dtx_values.specs.declared.script.Line.{Line}
use Rattle.dtx_values.specs.declared.script.Support.{Support}
use Rattle.dtx_values.specs.declared.words.Cause.{Cause}
use Rattle.dtx_values.specs.declared.words.Cause.TheVariants.{Marshal as MarshalCause}
use Rattle.dtx_values.specs.declared.words.Outcome.{Outcome}
use Rattle.dtx_values.specs.Class.{is_promotable}
use Rattle.dtx_values.specs.Owners.{cause_of}
use Rattle.dtx_values.specs.Support.{is_single}
use Rattle.dtx_model.specs.Words.{always, each, has, kth, latest, onto}
use Rattle.dtx_model.specs.Entries.{is_decision, is_promoted, is_sealed}
use Rattle.dtx_model.specs.Observed.{cause_of_promotion, observe, rows, track}
use Rattle.dtx_model.specs.Wires.{in_transit}
use Rattle.dtx_model.specs.Calls.{call_of, complete_call, gone_call, reenlist_call, transaction_of, transaction_with}
use Rattle.dtx_model.specs.Contexts.{lines_before}
use Rattle.dtx_model.specs.Promotes.{body_of, cause_by, identifier_of, is_cause, is_enlisted_got, is_first_wait, is_handed_over, is_promoting, is_wait, promotes}
use Rattle.dtx_model.specs.declared.waiting.Wanted.TheVariants.{Identifier, Place}
use Rattle.dtx_model.specs.Waiting.{Waiter, is_place_of}
use Rattle.dtx_model.specs.Half.{Half, by_manager, enlist_sent, given, is_handed, is_promoting as sees_promoting, over, promoted_by, sees}
use Rattle.dtx_model.specs.Answers.{has_promotion, if_begun, is_crowded, is_full, is_full_of_durables, local_answer, unless_ended, wait_for}
use Rattle.dtx_model.specs.Arrivals.{arrived, created, enlisted_at, hand_over, local_got, place_given}
use Rattle.dtx_model.specs.Acts.{act_entries, commit_sent}
use Rattle.dtx_model.specs.Replies.{reply_entries}
use Rattle.dtx_model.specs.Facts.{begin_promotion, facts_if, has_facts, is_waiting_answer}
use Rattle.dtx_model.specs.World.{World, answer_at, core, facts_at, half}
use Rattle.dtx_model.specs.Coordinated.{core_got}
use Rattle.dtx_model.specs.Steps.{Step, Calls, Replies, Acts, Coordinates, Delivers, Stops, Restarts, after, block_at, coordinates, delivered, ended_at, restarted}
use Rattle.dtx_model.specs.Caused.{FreelyCaused, IsCallOf, MayCome, Ran}
use Rattle.dtx_model.proofs.Bools.{and_both, and_left, and_right, not_both, not_false, not_true, or_case, or_right}
use Rattle.history_table.proofs.Scans.{each_more}
use Rattle.history_table.proofs.Tests.{eq_self}
use Rattle.history_table.proofs.Keeping.{Keeps, keeps_before, newest, third_of_three}
use Rattle.history_table.proofs.Recording.{promoting_if_promoted}
use Rattle.history_table.proofs.Deciding.{stays}
use Rattle.history_table.proofs.HalfKnows.{way_seen}
use Rattle.history_table.proofs.ScopeCalls.{given_call, is_scope_call}
use Rattle.script_histories.proofs.ScriptCalls.{own_words}
use Rattle.script_histories.proofs.WaitingRuns.{other_gives}
use Rattle.history_table.proofs.CalmBlocks.{Calm, Seals, act_kind, calm_arrived, calm_called, calm_commit_sent, calm_coordinates, calm_core_got, calm_ended_at, calm_reply, calm_restarted, is_slow}
use Rattle.script_histories.proofs.Ordered.{is_called_for, ruled_ordered}
use Rattle.script_histories.proofs.HandedOver.{none_to_hand, over_called, own_cause, own_handed}
use Rattle.history_table.proofs.Handing.{keeps_within}

-- What a promotion is called for by, so far; and whoever waits, a promotion began.
record IsCalled (s : List Line) (t : ℕ) (h : List Entry) : Type 0 where
  called : always (is_called_for s t) h ≡ true
  waits : has is_wait h ≡ true → has is_promoting h ≡ true

-- an entry that is no call that waits, and neither the start nor the success of a promotion
abbrev is_aside : Entry → Bool
is_aside (Called n a Wait) = false
is_aside (Promoting c) = false
is_aside (Promoted u c) = false
is_aside _ = true

slow_aside : (x : Entry) → is_slow x ≡ true → is_aside x ≡ true
slow_aside (Called n a x) k = absurd cc
slow_aside (Promoting c) k = absurd cc
slow_aside (Promoted u c) k = absurd cc
slow_aside _ k = refl

calm_aside : (es : List Entry) → Calm es → each is_aside es ≡ true
calm_aside es c = each_more is_slow is_aside slow_aside es c.slow

one_aside : (s : List Line) (t : ℕ) (x : Entry) (h : List Entry) → is_aside x ≡ true → IsCalled s t h → IsCalled s t (x ∷ h)
one_aside s t x h k c =
    record {
      called = and_both (is_called_for s t h x) (always (is_called_for s t) h) (called_for x k) c.called;
      waits = λ w. or_right (is_promoting x) (has is_promoting h) (c.waits (or_case (is_wait x) (has is_wait h) (λ a. absurd (not_both (is_wait x) a (unwaiting x k))) (λ a. a) w));
    }
  where
    called_for : (x : Entry) → is_aside x ≡ true → is_called_for s t h x ≡ true
    called_for (Promoting d) k = absurd cc
    called_for (Promoted u d) k = absurd cc
    called_for _ k = refl

    unwaiting : (x : Entry) → is_aside x ≡ true → is_wait x ≡ false
    unwaiting (Called n a Wait) k = absurd cc
    unwaiting _ k = refl

aside : (s : List Line) (t : ℕ) (h es : List Entry) → each is_aside es ≡ true → IsCalled s t h → IsCalled s t (onto h es)
aside s t h [] k c = c
aside s t h (x ∷ es) k c = aside s t (x ∷ h) es (and_right (is_aside x) (each is_aside es) k) (one_aside s t x h (and_left (is_aside x) (each is_aside es) k) c)

-- The line that gives a call. A line that gives a durable or marshal call by its own words has that command.
durable_line : (s : List Line) (b : Body) (u : TxNo) (e : EnlNo) (r : RmNo) (x : Support) (xs : List Row) → own_words (call_of s b) ≡ Some (Durable u e r x) → cause_by xs (Some b) ≡ cause_of xs (is_single x)
durable_line s (DurableLine v f q y) u e r x xs k = let same : y ≡ x = cc in ap (λ z. cause_of xs (is_single z)) same
durable_line s (CompleteLine c) u e r x xs k = absurd (by (transaction_of s c.value) k)
  where
    by : (o : Option TxNo) → own_words (complete_call c o) ≡ Some (Durable u e r x) → ⊥
    by (Some v) k = cc
    by None k = cc
durable_line s (GoneLine f) u e r x xs k = absurd (by (transaction_with s f.value) k)
  where
    by : (o : Option TxNo) → own_words (gone_call f o) ≡ Some (Durable u e r x) → ⊥
    by (Some v) k = cc
    by None k = cc
durable_line s (ReenlistLine f) u e r x xs k = absurd (by (transaction_with s f.value) k)
  where
    by : (o : Option TxNo) → own_words (reenlist_call f o) ≡ Some (Durable u e r x) → ⊥
    by (Some v) k = cc
    by None k = cc
durable_line s _ u e r x xs k = absurd cc

marshal_line : (s : List Line) (b : Body) (u : TxNo) (xs : List Row) → own_words (call_of s b) ≡ Some (Marshal u) → cause_by xs (Some b) ≡ Some MarshalCause
marshal_line s (MarshalLine v) u xs k = refl
marshal_line s (CompleteLine c) u xs k = absurd (by (transaction_of s c.value) k)
  where
    by : (o : Option TxNo) → own_words (complete_call c o) ≡ Some (Marshal u) → ⊥
    by (Some v) k = cc
    by None k = cc
marshal_line s (GoneLine f) u xs k = absurd (by (transaction_with s f.value) k)
  where
    by : (o : Option TxNo) → own_words (gone_call f o) ≡ Some (Marshal u) → ⊥
    by (Some v) k = cc
    by None k = cc
marshal_line s (ReenlistLine f) u xs k = absurd (by (transaction_with s f.value) k)
  where
    by : (o : Option TxNo) → own_words (reenlist_call f o) ≡ Some (Marshal u) → ⊥
    by (Some v) k = cc
    by None k = cc
marshal_line s _ u xs k = absurd cc

-- a call that is no scope line's is that of its line's own words
given_words : (s : List Line) (t n : ℕ) (a : ActorNo) (c : Call) (g : IsCallOf s t n a c) → is_scope_call c ≡ false → own_words (call_of s g.line.body) ≡ Some c
given_words s t n a c g k = by (given_call s (lines_before s n) g.line g.place (g.name, c) g.gives)
  where
    by : (call_of s g.line.body ≡ Some (g.name, c)) ⊎ (is_scope_call c ≡ true) → own_words (call_of s g.line.body) ≡ Some c
    by (inl e) = ap own_words e
    by (inr e) = absurd (not_both (is_scope_call c) e k)

durable_cause : (s : List Line) (t n : ℕ) (a : ActorNo) (u : TxNo) (e : EnlNo) (r : RmNo) (x : Support) (xs : List Row) → IsCallOf s t n a (Durable u e r x) → cause_by xs (body_of (kth s n)) ≡ cause_of xs (is_single x)
durable_cause s t n a u e r x xs g =
    ap (λ o. cause_by xs (body_of o)) g.stands ∙ durable_line s g.line.body u e r x xs (given_words s t n a (Durable u e r x) g refl)

marshal_cause : (s : List Line) (t n : ℕ) (a : ActorNo) (u : TxNo) (xs : List Row) → IsCallOf s t n a (Marshal u) → cause_by xs (body_of (kth s n)) ≡ Some MarshalCause
marshal_cause s t n a u xs g = ap (λ o. cause_by xs (body_of o)) g.stands ∙ marshal_line s g.line.body u xs (given_words s t n a (Marshal u) g refl)

-- The calls. A promotion begins with the first call that waits.
begins : (s : List Line) (t n : ℕ) (a : ActorNo) (c : Cause) (h : List Entry) (v : Half) → cause_by (rows h) (body_of (kth s n)) ≡ Some c → Keeps (onto (Called n a Wait ∷ h) (begin_promotion v (Some c)))
    → IsCalled s t h → IsCalled s t (onto (Called n a Wait ∷ h) (begin_promotion v (Some c)))
begins s t n a c h v q k i = by (has (λ (x : Row). is_promotable x.class) v.seen.table) k
  where
    unpromoting : Keeps (Promoting c ∷ Called n a Wait ∷ h) → has is_promoting h ≡ false
    unpromoting k = not_true (has is_promoting h) (third_of_three (not (has is_decision h)) (not (has is_sealed h)) (not (has is_promoting h)) (newest (Promoting c) (Called n a Wait ∷ h) k))

    began : Keeps (Promoting c ∷ Called n a Wait ∷ h) → IsCalled s t (Promoting c ∷ Called n a Wait ∷ h)
    began k =
        let first : has is_wait h ≡ false = false_from_ne_true (has is_wait h) (λ w. not_both (has is_promoting h) (i.waits w) (unpromoting k)) in
        record {
          called =
              and_both (is_first_wait s c (Called n a Wait ∷ h)) (always (is_called_for s t) h)
              (and_both (not (has is_wait h)) (is_cause c (cause_by (rows h) (body_of (kth s n)))) (not_false (has is_wait h) first) (ap (is_cause c) q ∙ own_cause c)) i.called;
          waits = λ w. refl;
        }

    by : (b : Bool) → Keeps (onto (Promoting c ∷ Called n a Wait ∷ h) (if b then [] else Sent OnBegin Up BeginBegin ∷ []))
        → IsCalled s t (onto (Promoting c ∷ Called n a Wait ∷ h) (if b then [] else Sent OnBegin Up BeginBegin ∷ []))
    by true k = began k
    by false k = one_aside s t (Sent OnBegin Up BeginBegin) (Promoting c ∷ Called n a Wait ∷ h) refl (began (keeps_before (Sent OnBegin Up BeginBegin) (Promoting c ∷ Called n a Wait ∷ h) k))

-- a call that waits where a promotion began
waits_on : (s : List Line) (t n : ℕ) (a : ActorNo) (h : List Entry) → has is_promoting h ≡ true → IsCalled s t h → IsCalled s t (Called n a Wait ∷ h)
waits_on s t n a h p i = record { called = i.called; waits = λ w. p }

-- a call without facts
idle : (s : List Line) (t n : ℕ) (a : ActorNo) (x : Answer) (h es : List Entry) → has_facts x ≡ false → IsCalled s t h → IsCalled s t (onto (Called n a x ∷ h) (facts_if (has_facts x) es))
idle s t n a Wait h es q i = absurd cc
idle s t n a Fine h es q i = absurd cc
idle s t n a x h es q i = let P : Bool → Type 0 = λ b. IsCalled s t (onto (Called n a x ∷ h) (facts_if b es)) in subst P (sym q) (one_aside s t (Called n a x) h refl i)

-- what a marshal call answers
marshal_by : (F : Answer → Type 0) (t : ℕ) (l : Option ℕ) (d : Option Outcome) (p s c : Bool) → F Wait → ((x : Answer) → has_facts x ≡ false → F x)
    → F (if_begun l (unless_ended d (if p then Id (identifier_of t) else if s then TooLate else if c then Many CALLS else Wait)))
marshal_by F t None d p s c w bad = bad NotBegun refl
marshal_by F t (Some n) (Some x) p s c w bad = bad (Ended x) refl
marshal_by F t (Some n) None true s c w bad = bad (Id (identifier_of t)) refl
marshal_by F t (Some n) None false true c w bad = bad TooLate refl
marshal_by F t (Some n) None false false true w bad = bad (Many CALLS) refl
marshal_by F t (Some n) None false false false w bad = w

-- and a durable call: it waits where a promotion began, or where it is a cause of one
durable_by : (F : Answer → Type 0) (l : Option ℕ) (d : Option Outcome) (s f c q p : Bool) (o : Option Cause) → F Fine → (p ≡ true → F Wait) → ((y : Cause) → o ≡ Some y → F Wait)
    → ((x : Answer) → has_facts x ≡ false → F x)
    → F (if_begun l (unless_ended d (if s then TooLate else if f then Many ENLISTMENTS else if c then Many CALLS else if q then Many DURABLES else if p then Wait else wait_for o)))
durable_by F None d s f c q p o good on new bad = bad NotBegun refl
durable_by F (Some n) (Some x) s f c q p o good on new bad = bad (Ended x) refl
durable_by F (Some n) None true f c q p o good on new bad = bad TooLate refl
durable_by F (Some n) None false true c q p o good on new bad = bad (Many ENLISTMENTS) refl
durable_by F (Some n) None false false true q p o good on new bad = bad (Many CALLS) refl
durable_by F (Some n) None false false false true p o good on new bad = bad (Many DURABLES) refl
durable_by F (Some n) None false false false false true o good on new bad = on refl
durable_by F (Some n) None false false false false false (Some y) good on new bad = new y refl
durable_by F (Some n) None false false false false false None good on new bad = good

-- where the local side sees a promotion under way, it began
sees_began : (h : List Entry) → sees_promoting (observe h) ≡ true → has is_promoting h ≡ true
sees_began h e = and_left (has is_promoting h) (not (has is_promoted h)) (and_left (has is_promoting h && not (has is_promoted h)) _ (sym (way_seen h) ∙ e))

marshal_called : (s : List Line) (t : ℕ) (w : World) (n : ℕ) (a : ActorNo) (u : TxNo) (m : ℕ) → IsCallOf s t n a (Marshal u)
    → Keeps (onto w.past (Called n a (answer_at t w (Marshal u) m) ∷ facts_if (has_facts (answer_at t w (Marshal u) m)) (facts_at t w (Marshal u) (answer_at t w (Marshal u) m)))) → IsCalled s t w.past
    → IsCalled s t (onto w.past (Called n a (answer_at t w (Marshal u) m) ∷ facts_if (has_facts (answer_at t w (Marshal u) m)) (facts_at t w (Marshal u) (answer_at t w (Marshal u) m))))
unfolding answer_at local_answer observe
marshal_called s t w n a u m g k i =
    let o = observe w.past in
    marshal_by (λ x. Keeps (onto w.past (Called n a x ∷ facts_if (has_facts x) (facts_at t w (Marshal u) x))) → IsCalled s t (onto w.past (Called n a x ∷ facts_if (has_facts x) (facts_at t w (Marshal u) x)))) t o.limit
    o.decided o.promoted o.sealed (is_crowded (half w)) (λ k. waits (sees_promoting o) refl k) (λ x q k. idle s t n a x w.past (facts_at t w (Marshal u) x) q i) k
  where
    waits : (b : Bool) → sees_promoting (observe w.past) ≡ b → Keeps (onto (Called n a Wait ∷ w.past) (if b then [] else begin_promotion (half w) (Some MarshalCause)))
        → IsCalled s t (onto (Called n a Wait ∷ w.past) (if b then [] else begin_promotion (half w) (Some MarshalCause)))
    waits true e k = waits_on s t n a w.past (sees_began w.past e) i
    waits false e k = begins s t n a MarshalCause w.past (half w) (marshal_cause s t n a u (rows w.past) g) k i

durable_called : (s : List Line) (t : ℕ) (w : World) (n : ℕ) (a : ActorNo) (u : TxNo) (e : EnlNo) (r : RmNo) (x : Support) (m : ℕ) → IsCallOf s t n a (Durable u e r x)
    → Keeps (onto w.past (Called n a (answer_at t w (Durable u e r x) m) ∷ facts_if (has_facts (answer_at t w (Durable u e r x) m)) (facts_at t w (Durable u e r x) (answer_at t w (Durable u e r x) m))))
    → IsCalled s t w.past
    → IsCalled s t (onto w.past (Called n a (answer_at t w (Durable u e r x) m) ∷ facts_if (has_facts (answer_at t w (Durable u e r x) m)) (facts_at t w (Durable u e r x) (answer_at t w (Durable u e r x) m))))
unfolding answer_at local_answer observe
durable_called s t w n a u e r x m g k i =
    let o = observe w.past in
    durable_by (λ y. Keeps (onto w.past (Called n a y ∷ facts_if (has_facts y) (facts_at t w (Durable u e r x) y))) → IsCalled s t (onto w.past (Called n a y ∷ facts_if (has_facts y) (facts_at t w (Durable u e r x) y))))
    o.limit o.decided o.sealed (is_full (half w)) (is_crowded (half w)) (is_full_of_durables (half w)) (has_promotion o) (cause_of o.table (is_single x))
    (λ k. aside s t w.past (Called n a Fine ∷ facts_at t w (Durable u e r x) Fine) refl i)
    (λ p k. waits o.promoted refl (sees_promoting o) refl (inl p) k) (λ y q k. waits o.promoted refl (sees_promoting o) refl (inr (y, q)) k) (λ y q k. idle s t n a y w.past (facts_at t w (Durable u e r x) y) q i) k
  where
    before : (es : List Entry) → Keeps (onto (Called n a Wait ∷ w.past) es) → Keeps w.past
    before es k = keeps_before (Called n a Wait) w.past (keeps_within (Called n a Wait ∷ w.past) es k)

    waits : (p : Bool) → has is_promoted w.past ≡ p → (b : Bool) → sees_promoting (observe w.past) ≡ b
        → ((has is_promoted w.past || sees_promoting (observe w.past)) ≡ true) ⊎ ((y : Cause) × (cause_of (rows w.past) (is_single x) ≡ Some y))
        → Keeps (onto (Called n a Wait ∷ w.past) (if p then enlist_sent t e r else if b then [] else begin_promotion (half w) (cause_of (rows w.past) (is_single x))))
        → IsCalled s t (onto (Called n a Wait ∷ w.past) (if p then enlist_sent t e r else if b then [] else begin_promotion (half w) (cause_of (rows w.past) (is_single x))))
    waits true q b z c k = aside s t (Called n a Wait ∷ w.past) (enlist_sent t e r) refl (waits_on s t n a w.past (promoting_if_promoted w.past (before (enlist_sent t e r) k) q) i)
    waits false q true z c k = waits_on s t n a w.past (sees_began w.past z) i
    waits false q false z (inl p) k = absurd (or_case (has is_promoted w.past) (sees_promoting (observe w.past)) (λ d. not_both (has is_promoted w.past) d q) (λ d. not_both (sees_promoting (observe w.past)) d z) p)
    waits false q false z (inr c) k = for_cause (cause_of (rows w.past) (is_single x)) refl c.1 k
      where
        for_cause : (o : Option Cause) → cause_of (rows w.past) (is_single x) ≡ o → cause_of (rows w.past) (is_single x) ≡ Some c.0 → Keeps (onto (Called n a Wait ∷ w.past) (begin_promotion (half w) o))
            → IsCalled s t (onto (Called n a Wait ∷ w.past) (begin_promotion (half w) o))
        for_cause None q f k = absurd cc
        for_cause (Some y) q f k = begins s t n a y w.past (half w) (durable_cause s t n a u e r x (rows w.past) g ∙ q) k i

-- any other call
other_called : (s : List Line) (t : ℕ) (w : World) (n : ℕ) (a : ActorNo) (c : Call) (x : Answer) → is_waiting_answer x ≡ false → each is_aside (facts_if (has_facts x) (facts_at t w c x)) ≡ true → IsCalled s t w.past
    → IsCalled s t (onto w.past (Called n a x ∷ facts_if (has_facts x) (facts_at t w c x)))
other_called s t w n a c Wait q k i = absurd cc
other_called s t w n a c x q k i = aside s t (Called n a x ∷ w.past) (facts_if (has_facts x) (facts_at t w c x)) k (one_aside s t (Called n a x) w.past refl i)

facts_aside : (b : Bool) (es : List Entry) → each is_aside es ≡ true → each is_aside (facts_if b es) ≡ true
facts_aside true es k = k
facts_aside false es k = refl

call_called : (s : List Line) (t : ℕ) (w : World) (n : ℕ) (a : ActorNo) (c : Call) (m : ℕ) → IsCallOf s t n a c
    → Keeps (onto w.past (Called n a (answer_at t w c m) ∷ facts_if (has_facts (answer_at t w c m)) (facts_at t w c (answer_at t w c m)))) → IsCalled s t w.past
    → IsCalled s t (onto w.past (Called n a (answer_at t w c m) ∷ facts_if (has_facts (answer_at t w c m)) (facts_at t w c (answer_at t w c m))))
call_called s t w n a (Marshal u) m g k i = marshal_called s t w n a u m g k i
call_called s t w n a (Durable u e r x) m g k i = durable_called s t w n a u e r x m g k i
call_called s t w n a (Volatile u e x v) m g k i =
    let y = answer_at t w (Volatile u e x v) m in
    other_called s t w n a (Volatile u e x v) y (other_gives t w (Volatile u e x v) m refl) (facts_aside (has_facts y) (facts_at t w (Volatile u e x v) y) refl) i
call_called s t w n a (Promotable u e r v x p) m g k i =
    let y = answer_at t w (Promotable u e r v x p) m in
    other_called s t w n a (Promotable u e r v x p) y (other_gives t w (Promotable u e r v x p) m refl) (facts_aside (has_facts y) (facts_at t w (Promotable u e r v x p) y) refl) i
call_called s t w n a c m g k i =
    let y = answer_at t w c m in other_called s t w n a c y (other_gives t w c m refl) (calm_aside (facts_if (has_facts y) (facts_at t w c y)) (calm_called t w c y refl)) i

-- The arrivals. The promotion succeeds when what stood at the start is handed over.
over_is : (s : List Line) (t : ℕ) (h : List Entry) (v : Half) → v.seen.cause ≡ latest cause_of_promotion h → is_handed_over h ≡ true → has is_promoting h ≡ true → IsCalled s t h → IsCalled s t (onto h (over t v))
over_is s t h v e o p i =
    record {
      called = let P : Option Cause → Type 0 = λ c. always (is_called_for s t) (onto h (promoted_by t c ++ flat_map (given t) v.waits)) ≡ true in subst P (sym e) (over_called s t h v.waits o i.called);
      waits = λ w. stays is_promoting h (over t v) p;
    }

sent_aside : (t : ℕ) (e : EnlNo) (ms : List (EnlNo × RmNo)) → each is_aside (by_manager (enlist_sent t) ms e) ≡ true
sent_aside t e [] = refl
sent_aside t e (m ∷ ms) = step (e.value == m.0.value) (sent_aside t e ms)
  where
    step : (b : Bool) → each is_aside (by_manager (enlist_sent t) ms e) ≡ true → each is_aside (if b then enlist_sent t e m.1 else by_manager (enlist_sent t) ms e) ≡ true
    step true k = refl
    step false k = k

-- what follows, where this is known
if_called : (s : List Line) (t : ℕ) (h : List Entry) (b : Bool) (xs ys : List Entry) → (b ≡ true → IsCalled s t (onto h xs)) → (b ≡ false → IsCalled s t (onto h ys)) → IsCalled s t (onto h (if b then xs else ys))
if_called s t h true xs ys p q = p refl
if_called s t h false xs ys p q = q refl

created_called : (s : List Line) (t : ℕ) (h : List Entry) (v : Half) → v.seen ≡ observe h → Keeps h → IsCalled s t h → IsCalled s t (onto h (created t v))
unfolding observe
created_called s t h v e k i =
    if_called s t h (is_some v.seen.decided) [] (if sees_promoting v.seen then hand_over t v v.seen.handover else []) (λ q. i)
    (λ q. if_called s t h (sees_promoting v.seen) (hand_over t v v.seen.handover) [] (λ p. hand v.seen.handover refl (sees_began h (sym (ap sees_promoting e) ∙ p))) (λ p. i))
  where
    hand : (o : Option EnlNo) → v.seen.handover ≡ o → has is_promoting h ≡ true → IsCalled s t (onto h (hand_over t v o))
    hand (Some f) q p = aside s t h (by_manager (enlist_sent t) v.managers f) (sent_aside t f v.managers) i
    hand None q p = over_is s t h v (ap (λ o. o.cause) e) (none_to_hand h k p (sym (ap (λ o. o.handover) e) ∙ q)) p i

place_aside : (o : Option Waiter) → each is_aside (place_given o) ≡ true
place_aside (Some (n, Place e r c)) = refl
place_aside (Some (n, Identifier)) = refl
place_aside None = refl

enlisted_called : (s : List Line) (t : ℕ) (h : List Entry) (v : Half) (e : EnlNo) → v.seen ≡ observe h → has (is_enlisted_got e.value) h ≡ true → Keeps h → IsCalled s t h → IsCalled s t (onto h (enlisted_at t v e))
unfolding observe
enlisted_called s t h v e q g k i =
    let own = sees_promoting v.seen && is_handed v.seen.handover e.value in
    let placed = place_given (find (is_place_of e.value) v.waits) in
    if_called s t h (is_some v.seen.decided) [] (if own then over t v else if v.seen.promoted then placed else []) (λ z. i)
    (λ z. if_called s t h own (over t v) (if v.seen.promoted then placed else [])
    (λ p. let began = sees_began h (sym (ap sees_promoting q) ∙ and_left (sees_promoting v.seen) (is_handed v.seen.handover e.value) p) in
    over_is s t h v (ap (λ o. o.cause) q)
    (own_handed h e.value k began (sym (ap (λ o. is_handed o.handover e.value) q) ∙ and_right (sees_promoting v.seen) (is_handed v.seen.handover e.value) p) g) began i)
    (λ p. if_called s t h v.seen.promoted placed [] (λ d. aside s t h placed (place_aside (find (is_place_of e.value) v.waits)) i) (λ d. i)))

got_called : (s : List Line) (t : ℕ) (w : World) (c : Conn) (m : Message) → Keeps (Got c Down m ∷ w.past) → IsCalled s t w.past → IsCalled s t (onto (Got c Down m ∷ w.past) (local_got t (half w) c m))
unfolding local_got observe track
got_called s t w Voter VoterCreated k i =
    created_called s t (Got Voter Down VoterCreated ∷ w.past) (sees (half w) (Got Voter Down VoterCreated)) refl k (one_aside s t (Got Voter Down VoterCreated) w.past refl i)
got_called s t w (Enl e) EnlistEnlisted k i =
    enlisted_called s t (Got (Enl e) Down EnlistEnlisted ∷ w.past) (sees (half w) (Got (Enl e) Down EnlistEnlisted)) e refl (or_left (e.value == e.value) (has (is_enlisted_got e.value) w.past) (eq_self e.value)) k
    (one_aside s t (Got (Enl e) Down EnlistEnlisted) w.past refl i)
got_called s t w c m k i =
    aside s t (Got c Down m ∷ w.past) (arrived t (sees (half w) (Got c Down m)) c m) (calm_aside (arrived t (sees (half w) (Got c Down m)) c m) (calm_arrived t (sees (half w) (Got c Down m)) c m refl))
    (one_aside s t (Got c Down m) w.past refl i)

delivered_called : (s : List Line) (t : ℕ) (w : World) (c : Conn) (d : Dir) (ms : List Message) → Keeps (onto w.past (delivered t w c d ms)) → IsCalled s t w.past → IsCalled s t (onto w.past (delivered t w c d ms))
delivered_called s t w c d [] k i = aside s t (End c d ∷ w.past) (ended_at w c d) (calm_aside (ended_at w c d) (calm_ended_at w c d)) (one_aside s t (End c d) w.past refl i)
delivered_called s t w c Up (m ∷ ms) k i =
    aside s t (Got c Up m ∷ w.past) (core_got (identifier_of t) (core w) c m) (calm_aside (core_got (identifier_of t) (core w) c m) (calm_core_got (identifier_of t) (core w) c m)) (one_aside s t (Got c Up m) w.past refl i)
delivered_called s t w c Down (m ∷ ms) k i = got_called s t w c m (keeps_within (Got c Down m ∷ w.past) (local_got t (half w) c m) k) i

act_aside : (h : Half) → each is_aside (act_entries h) ≡ true
act_aside h = by (act_kind h)
  where
    by : Calm (act_entries h) ⊎ Seals h (act_entries h) → each is_aside (act_entries h) ≡ true
    by (inl c) = calm_aside (act_entries h) c
    by (inr q) = let P : List Entry → Type 0 = λ es. each is_aside es ≡ true in subst P (sym q.2) (calm_aside (commit_sent h.seen) (calm_commit_sent h.seen))

-- Each step keeps it, where the table stands after it.
step_called : (s : List Line) (t : ℕ) (w : World) (m : Step) → MayCome (IsCallOf s t) t w m → Keeps (after t w m).past → IsCalled s t w.past → IsCalled s t (after t w m).past
unfolding after block_at
step_called s t w (Calls n a c m) q k i = call_called s t w n a c m q.0 k i
step_called s t w (Replies e x) q k i = aside s t w.past (reply_entries (half w) e x) (calm_aside (reply_entries (half w) e x) (calm_reply (half w) e x)) i
step_called s t w Acts q k i = aside s t w.past (act_entries (half w)) (act_aside (half w)) i
step_called s t w (Coordinates x) q k i = aside s t w.past (coordinates (core w) x) (calm_aside (coordinates (core w) x) (calm_coordinates (core w) x)) i
step_called s t w (Delivers c d) q k i = delivered_called s t w c d (in_transit c d w.past) k i
step_called s t w Stops q k i = aside s t w.past (Stopped ∷ []) refl i
step_called s t w (Restarts found) q k i = aside s t w.past (restarted (core w).stopped found) (calm_aside (restarted (core w).stopped found) (calm_restarted (core w).stopped found)) i

-- the history before a step keeps the table where that after it does
pub keeps_past : (t : ℕ) (w : World) (m : Step) → Keeps (after t w m).past → Keeps w.past
unfolding after
keeps_past t w m k = keeps_within w.past (block_at t w m) k

ran_called : (s : List Line) (t : ℕ) (ms : List Step) (w : World) → Ran (IsCallOf s t) t ms w → Keeps w.past → IsCalled s t w.past
ran_called s t [] w r k = subst (IsCalled s t) (sym r.1) (record { called = refl; waits = λ q. absurd cc })
ran_called s t (m ∷ ms) w r k =
    let now = subst (λ (x : World). Keeps x.past) r.3 k in
    subst (λ (x : World). IsCalled s t x.past) (sym r.3) (step_called s t r.0 m r.2 now (ran_called s t ms r.0 r.1 (keeps_past t r.0 m now)))

-- So where a call waited, a promotion began.
pub waits_promoting : (s : List Line) (t : ℕ) (ms : List Step) (w : World) → Ran (IsCallOf s t) t ms w → Keeps w.past → has is_wait w.past ≡ true → has is_promoting w.past ≡ true
waits_promoting s t ms w r k = (ran_called s t ms w r k).waits

-- What a script's lines freely cause and keeps the table is promoted in order.
pub runs_promote : (s : List Line) (t : ℕ) (h : List Entry) → FreelyCaused (IsCallOf s t) t h → Keeps h → promotes s t h ≡ true
runs_promote s t h r k = ruled_ordered s t h k.rules (ran_called s t r.1.0 (record { calls = r.0; past = h }) r.1.1 k).called
