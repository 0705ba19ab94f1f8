-- The coordinator's act at the log, and what an opening of the log says to it: what is written then is the block of its step, and the world is the one after it.
use Rattle.std.proofs.Common.{◌≡◌, ◌⊎◌, ◌&&◌, ◌∙◌, inl, inr, ℕ, Bool, true, false, not, List, [], ◌∷◌, Option, is_some, refl, ap, sym, subst, if◌then◌else◌}
use Rattle.dtx_values.specs.declared.entry.Entry.{Entry}
use Rattle.dtx_values.specs.TxIds.{number_of}
use Rattle.dtx_values.specs.declared.tx_id.TxId.{TxId}
use Rattle.dtx_values.specs.declared.entry.Entry.TheVariants.{Freed, Logged, LogFull, Restarted, Sent, Stopped}
use Rattle.dtx_values.specs.declared.message.Conn.TheVariants.{Begin, Voter, Enl, Again}
use Rattle.dtx_values.specs.declared.message.Dir.TheVariants.{Up, Down}
use Rattle.dtx_values.specs.Outgoing.{Outgoing}
use Rattle.dtx_model.specs.Words.{each, has, onto}
use Rattle.dtx_model.specs.Observed.{track}
use Rattle.dtx_model.specs.Promotes.{identifier_of}
use Rattle.dtx_model.specs.Coordinated.{Coordinated, abort_sends, commit_sends, coordinate, follow, follow_all, is_recorded, may_free, may_log, stopped_after}
use Rattle.dtx_model.specs.Half.{Half, heeds, heeds_all}
use Rattle.dtx_model.specs.World.{World, core}
use Rattle.dtx_model.specs.Steps.{LogAnswer, Done, Full, StoppedNow, StoppedBefore, Coordinates, Restarts, Stops, after, appended, block_at, coordinates, freed, restarted}
use Rattle.dtx_model.specs.Caused.{IsIn, is_begin_sent, is_full_answer, may_coordinate}
use Rattle.dtx_model.specs.Log.{CommitRecord}
use Rattle.dtx_model.specs.Tied.{tied}
use Rattle.dtx_model.proofs.Bools.{and_left, and_right, not_true, or_case, or_false}
use Rattle.history_table.proofs.CoreKnown.{may_log_can}
use Rattle.history_table.proofs.CoreStages.{active_open, recorded_mark}
use Rattle.history_table.proofs.Recording.{can_unstopped}
use Rattle.history_table.proofs.Scans.{each_more}
use Rattle.history_table.proofs.Steady.{run_keeps}
use Rattle.local_half.specs.Half.{Known}
use Rattle.coordinator_core.proofs.Causes.{active_then, heard_why}
use Rattle.coordinator_core.specs.Kept.{Kept as CoreKept}
use Rattle.coordinator_log.specs.State.{LogState}
use Rattle.tx_world.specs.State.{TxState, sends_begin}
use Rattle.tx_world.specs.AtLog.{Acts, Answered, IsFit, IsOurs, Keeps, KeepsLog, KeepsSlots, Kept as LogKept, LeavesSlots, Tie, id_of, kept_after}
use Rattle.world_laws.specs.Carried.{are_sendable}
use Rattle.world_laws.specs.Course.{is_far, is_written}
use Rattle.tx_world.specs.Kept.{Kept, Whole, stop_if, stopped_if}
use Rattle.tx_world.specs.Stepping.{Does}
use Rattle.tx_world.specs.Leaves.{IsLater, Leaves, LeavesKept}
use Rattle.world_parts.specs.Found.{IsLeftAsWished}
use Rattle.tx_world.specs.Prepared.{Names, NamesPrepared}
use Rattle.tx_world.specs.Tried.{IsTried}
use Rattle.tx_world.proofs.Begun.{may_write}
use Rattle.world_laws.proofs.Far.{far_abort, far_commit}
use Rattle.world_parts.proofs.Keeping.{runs_still, runs_then}
use Rattle.tx_world.proofs.Living.{own_ours, seen_as}
use Rattle.tx_world.proofs.FreedRecords.{may_free_can}
use Rattle.tx_world.proofs.Onward.{core_is, core_transaction, step_kept}
use Rattle.tx_world.proofs.Trying.{append_tried, free_tried, sure_of, sure_tried, tied_before, told_tied, unmarked_open}

-- what the coordinator writes of its act where it doesn't stop
abbrev pub is_said : Entry → Bool
is_said (Sent c Down m) = true
is_said Logged = true
is_said LogFull = true
is_said Freed = true
is_said _ = false

far_said : (x : Entry) → is_far x ≡ true → is_said x ≡ true
far_said (Sent c Down m) f = refl
far_said (Sent c Up m) f = absurd cc
far_said Logged f = absurd cc
far_said LogFull f = absurd cc
far_said Freed f = absurd cc
far_said _ f = absurd cc

-- it writes that alone, or that it stopped
said : (k : Coordinated) (a : LogAnswer) → (coordinates k a ≡ Stopped ∷ []) ⊎ (each is_said (coordinates k a) ≡ true)
said k a = by (may_log k) a
  where
    by : (b : Bool) (x : LogAnswer) → ((if b then appended k x else freed x) ≡ Stopped ∷ []) ⊎ (each is_said (if b then appended k x else freed x) ≡ true)
    by true Done = inr (each_more is_far is_said far_said (commit_sends (follow k Logged)) (far_commit (follow k Logged)).proof)
    by true Full = inr (each_more is_far is_said far_said (abort_sends (follow k LogFull)) (far_abort (follow k LogFull)).proof)
    by true StoppedNow = inl refl
    by true StoppedBefore = inl refl
    by false Done = inr refl
    by false Full = inr refl
    by false StoppedNow = inl refl
    by false StoppedBefore = inl refl

written_one : (x : Entry) → is_said x ≡ true → is_written x ≡ true
written_one (Sent c d m) s = refl
written_one Logged s = refl
written_one LogFull s = refl
written_one Freed s = refl
written_one _ s = absurd cc

silent_one : (x : Entry) → is_said x ≡ true → is_begin_sent x ≡ false
silent_one (Sent Begin Down m) s = refl
silent_one (Sent Voter Down m) s = refl
silent_one (Sent (Enl e) Down m) s = refl
silent_one (Sent (Again e) Down m) s = refl
silent_one (Sent c Up m) s = absurd cc
silent_one Logged s = refl
silent_one LogFull s = refl
silent_one Freed s = refl
silent_one _ s = absurd cc

silent_all : (es : List Entry) → each is_said es ≡ true → has is_begin_sent es ≡ false
silent_all [] s = refl
silent_all (x ∷ es) s =
    or_false (is_begin_sent x) (has is_begin_sent es) (silent_one x (and_left (is_said x) (each is_said es) s)) (silent_all es (and_right (is_said x) (each is_said es) s))

running_one : (x : Entry) (b : Bool) → is_said x ≡ true → stopped_after x b ≡ b
running_one (Sent c d m) b s = refl
running_one Logged b s = refl
running_one LogFull b s = refl
running_one Freed b s = refl
running_one _ b s = absurd cc

running_all : (k : Coordinated) (es : List Entry) → each is_said es ≡ true → (follow_all k es).stopped ≡ k.stopped
unfolding follow_all follow
running_all k [] s = refl
running_all k (x ∷ es) s = running_all (follow k x) es (and_right (is_said x) (each is_said es) s) ∙ running_one x k.stopped (and_left (is_said x) (each is_said es) s)

unheard_one : (h : Half) (x : Entry) → is_said x ≡ true → heeds [] h x ≡ h
unfolding track
unheard_one h (Sent Begin Down m) s = refl
unheard_one h (Sent Voter Down m) s = refl
unheard_one h (Sent (Enl e) Down m) s = refl
unheard_one h (Sent (Again e) Down m) s = refl
unheard_one h (Sent c Up m) s = absurd cc
unheard_one h Logged s = refl
unheard_one h LogFull s = refl
unheard_one h Freed s = refl
unheard_one h _ s = absurd cc

unheard_all : (h : Half) (es : List Entry) → each is_said es ≡ true → heeds_all [] h es ≡ h
unfolding heeds_all
unheard_all h [] s = refl
unheard_all h (x ∷ es) s =
    ap (λ (g : Half). heeds_all [] g es) (unheard_one h x (and_left (is_said x) (each is_said es) s)) ∙ unheard_all h es (and_right (is_said x) (each is_said es) s)

-- so BEGIN isn't in it, and the local side doesn't hear it
silent_act : (k : Coordinated) (a : LogAnswer) → has is_begin_sent (coordinates k a) ≡ false
silent_act k a = elim (said k a) [ inl e ↦ ap (has is_begin_sent) e | inr s ↦ silent_all (coordinates k a) s ]

unheard_act : (k : Coordinated) (a : LogAnswer) (h : Half) → heeds_all [] h (coordinates k a) ≡ h
unfolding heeds_all track
unheard_act k a h = elim (said k a) [ inl e ↦ ap (heeds_all [] h) e | inr s ↦ unheard_all h (coordinates k a) s ]

-- it is stopped then exactly where it wrote that alone
pub stop_only : (k : Coordinated) (a : LogAnswer) → k.stopped ≡ false → (follow_all k (coordinates k a)).stopped ≡ true → coordinates k a ≡ Stopped ∷ []
stop_only k a runs stops = elim (said k a) [ inl e ↦ e | inr s ↦ absurd (never (sym runs ∙ sym (running_all k (coordinates k a) s) ∙ stops)) ]
  where
    never : false ≡ true → ⊥
    never e = absurd cc

pub written_only : (k : Coordinated) (a : LogAnswer) → (follow_all k (coordinates k a)).stopped ≡ false → each is_written (coordinates k a) ≡ true
unfolding follow_all follow
written_only k a runs =
    elim (said k a) [ inl e ↦ absurd (never (ap (λ (es : List Entry). (follow_all k es).stopped) (sym e) ∙ runs)) | inr s ↦ each_more is_said is_written written_one (coordinates k a) s ]
  where
    never : true ≡ false → ⊥
    never e = absurd cc

-- it runs where it may act
act_runs : (k : Coordinated) (a : LogAnswer) → may_coordinate k a ≡ true → k.stopped ≡ false
act_runs k a m =
    or_case (may_log k) (may_free k && not (is_full_answer a)) (λ l. runs_then k l) (λ f. runs_still k (and_left (may_free k) (not (is_full_answer a)) f)) m

-- The coordinator did its act: what it leaves is what its step does.
pub record Acted (t : TxId) (w : World) (h : Known) (k j : CoreKept) (a : LogAnswer) : Type 0 where
  pub kept : Kept t (after (number_of t) w (Coordinates a)) h j
  pub may : may_coordinate (core w) a ≡ true
  pub block : coordinates k.state a ≡ block_at (number_of t) w (Coordinates a)
  pub silent : sends_begin (number_of t) w (Coordinates a) ≡ false
  pub sendable : are_sendable (onto w.past (coordinates k.state a)) ≡ true
  pub running : k.state.stopped ≡ false

pub acted : (t : TxId) (w : World) (h : Known) (k j : CoreKept) (a : LogAnswer) → Kept t w h k → may_coordinate k.state a ≡ true → j.transaction ≡ k.transaction
    → j.state ≡ follow_all k.state (coordinates k.state a) → Acted t w h k j a
unfolding block_at
acted t w h k j a kept may same state =
    let m = Coordinates a in
    let block : coordinates k.state a ≡ coordinates (core w) a = ap (λ (s : Coordinated). coordinates s a) (core_is t w h k kept) in
    let may_come : may_coordinate (core w) a ≡ true = ap (λ (s : Coordinated). may_coordinate s a) (sym (core_is t w h k kept)) ∙ may in
    let write = may_write t w m kept.ran may_come kept.once in
    record {
      kept =
          step_kept t w m h h k j kept may_come kept.once (ap (λ (g : Half). record { transaction = h.transaction; half = g }) (sym (unheard_act (core w) a h.half)))
          ((λ i. record { transaction = same i; state = state i }) ∙ ap (λ (es : List Entry). record { transaction = k.transaction; state = follow_all k.state es }) block);
      may = may_come;
      block = block;
      silent = silent_act (core w) a;
      sendable = ap (λ (es : List Entry). are_sendable (onto w.past es)) block ∙ write.sendable;
      running = act_runs k.state a may;
    }

-- the world that was written
pub acted_world : (t : TxId) (w : World) (h : Known) (k j : CoreKept) (a : LogAnswer) (n : List Entry) → Acted t w h k j a → n ≡ onto w.past (coordinates k.state a)
    → record { calls = w.calls; past = n } ≡ after (number_of t) w (Coordinates a)
unfolding after
acted_world t w h k j a n acts past = λ i. record { calls = w.calls; past = (past ∙ ap (onto w.past) acts.block) i }

pub acted_whole : (t : TxId) (w : World) (h : Known) (k j : CoreKept) (a : LogAnswer) (n : List Entry) (x : LogKept) → Acted t w h k j a → n ≡ onto w.past (coordinates k.state a)
    → j.transaction ≡ k.transaction → IsOurs (identifier_of (number_of k.transaction)) j.state x → (tied n ≡ true → IsTried n x) → Whole t (record { calls = w.calls; past = n }) h j x
acted_whole t w h k j a n x acts past same ours tried =
    let P : World → Type 0 = λ v. Kept t v h j in
    let Q : TxId → Type 0 = λ u. IsOurs (identifier_of (number_of u)) j.state x in
    record { kept = subst P (sym (acted_world t w h k j a n acts past)) acts.kept; ours = subst Q (sym same) ours; tried = tried }

pub acted_does : {D : Type 0} (faults : D → ℕ) (t : TxId) (w : World) (h : Known) (k j : CoreKept) (n : List Entry) (x y : LogKept) (o p : Outgoing) (from to : LogState D)
    (acts : Acts faults (number_of k.transaction) k.state x o from j.state y p to) → Kept t w h k → Acted t w h k j acts.answer → n ≡ onto w.past (coordinates k.state acts.answer) → y.life ≡ x.life
    → Does faults (Coordinates acts.answer) (seen_as t w x) from (seen_as t (record { calls = w.calls; past = n }) y) to
acted_does {D} faults t w h k j n x y o p from to acts kept did past lives =
    let m = Coordinates acts.answer in
    record {
      transaction = refl;
      world = acted_world t w h k j acts.answer n did past ∙ unturned (sends_begin (number_of t) w m) (not from.is_up) did.silent;
      life = lives ∙ unbegun (sends_begin (number_of t) w m) did.silent;
      answered = subst (λ (i : CoreKept). Answered faults i.state (identifier_of (number_of i.transaction)) x.life from to acts.answer) kept.core acts.answered;
      kept = subst (λ (i : CoreKept). y ≡ kept_after (number_of i.transaction) i.state acts.answer x) kept.core acts.kept;
    }
  where
    unturned : (b u : Bool) → b ≡ false → after (number_of t) w (Coordinates acts.answer)
        ≡ (if b && u then after (number_of t) (after (number_of t) w (Coordinates acts.answer)) Stops else after (number_of t) w (Coordinates acts.answer))
    unturned true u e = absurd cc
    unturned false u e = refl

    unbegun : (b : Bool) → b ≡ false → x.life ≡ (if b then from.life else x.life)
    unbegun true e = absurd cc
    unbegun false e = refl

-- as its users see the transaction
pub acted_so : {D : Type 0} (faults : D → ℕ) (t : TxId) (w : World) (h : Known) (k j : CoreKept) (n : List Entry) (x y : LogKept) (o p : Outgoing) (old : TxState) (from to : LogState D)
    (acts : Acts faults (number_of k.transaction) k.state x o from j.state y p to) → Kept t w h k → Acted t w h k j acts.answer → n ≡ onto w.past (coordinates k.state acts.answer) → y.life ≡ x.life
    → seen_as t w x ≡ old
    → (a : LogAnswer) × (may_coordinate (core old.world) a ≡ true) × Does faults (Coordinates a) old from (seen_as t (record { calls = w.calls; past = n }) y) to
acted_so {D} faults t w h k j n x y o p old from to acts kept did past lives was =
    let v : World = record { calls = w.calls; past = n } in
    let P : TxState → Type 0 = λ z. (a : LogAnswer) × (may_coordinate (core z.world) a ≡ true) × Does faults (Coordinates a) z from (seen_as t v y) to in
    let so : P (seen_as t w x) = (acts.answer, did.may, acted_does faults t w h k j n x y o p from to acts kept did past lives) in
    subst P was so

-- it lives on in its life
pub acted_life : {D : Type 0} (faults : D → ℕ) (t : ℕ) (k j : Coordinated) (x y : LogKept) (o p : Outgoing) (from to : LogState D) → Acts faults t k x o from j y p to → y.life ≡ x.life
acted_life faults t k j x y o p from to acts = ap (λ (z : LogKept). z.life) acts.kept ∙ by acts.answer
  where
    by : (a : LogAnswer) → (kept_after t k a x).life ≡ x.life
    by Done = refl
    by Full = refl
    by StoppedNow = refl
    by StoppedBefore = refl

-- What it keeps of the log is what its history says, where it runs after its act,
pub acted_sure : (t : TxId) (h : Known) (j : CoreKept) (w : World) (x : LogKept) → Kept t w h j → IsOurs (identifier_of (number_of t)) j.state x → j.state.stopped ≡ false → IsTried w.past x
acted_sure t h j w x kept ours runs =
    let is : j.state ≡ coordinate w.past = core_is t w h j kept in
    sure_tried w.past x (sure_of (identifier_of (number_of t)) w.past x (subst (λ (c : Coordinated). IsOurs (identifier_of (number_of t)) c x) is ours) (ap (λ (c : Coordinated). c.stopped) (sym is) ∙ runs))

-- and where the act stopped it: then an append was tried that might come, or a free.
pub acted_stopped : (t : TxId) (w : World) (h : Known) (k j : CoreKept) (a : LogAnswer) (x y : LogKept) → Whole t w h k x → Acted t w h k j a → (is_some x.ours ≡ true → is_some y.ours ≡ true) → tied w.past ≡ true
    → IsTried (Stopped ∷ w.past) y
acted_stopped t w h k j a x y was did had d =
    or_case (may_log (core w)) (may_free (core w) && not (is_full_answer a)) appends (λ f. frees (and_left (may_free (core w)) (not (is_full_answer a)) f)) did.may
  where
    appends : may_log (core w) ≡ true → IsTried (Stopped ∷ w.past) y
    appends m =
        let can = may_log_can w.past (run_keeps (IsIn w.calls) (number_of t) was.kept.ran.0 w was.kept.once was.kept.ran.1 d) m in
        append_tried w.past y can (can_unstopped w.past can) (unmarked_open w.past (active_open (core w).stage (active_then (core w) m)))

    frees : may_free (core w) ≡ true → IsTried (Stopped ∷ w.past) y
    frees m =
        let can = may_free_can w.past (run_keeps (IsIn w.calls) (number_of t) was.kept.ran.0 w was.kept.once was.kept.ran.1 d) m in
        let why = heard_why (core w) m in
        let there : is_some x.ours ≡ true = was.ours.recorded did.running ∙ ap (λ (s : Coordinated). is_recorded s.stage) (core_is t w h k was.kept) ∙ why.stands in
        free_tried w.past y can (sym (recorded_mark w.past) ∙ why.stands) (had there)

pub acted_tried : (t : TxId) (w : World) (h : Known) (k j : CoreKept) (a : LogAnswer) (n : List Entry) (x y : LogKept) → Whole t w h k x → Acted t w h k j a → n ≡ onto w.past (coordinates k.state a)
    → IsOurs (identifier_of (number_of k.transaction)) j.state y → (j.state.stopped ≡ true → is_some x.ours ≡ true → is_some y.ours ≡ true)
    → (j.state.stopped ≡ true → coordinates k.state a ≡ Stopped ∷ []) → tied n ≡ true → IsTried n y
acted_tried t w h k j a n x y was did past ours had only d = by j.state.stopped refl
  where
    by : (b : Bool) → j.state.stopped ≡ b → IsTried n y
    by false runs =
        let v : World = record { calls = w.calls; past = n } in
        let kept : Kept t v h j = subst (λ (u : World). Kept t u h j) (sym (acted_world t w h k j a n did past)) did.kept in
        acted_sure t h j v y kept (subst (λ (u : TxId). IsOurs (identifier_of (number_of u)) j.state y) (core_transaction t w h k was.kept) ours) runs
    by true stops =
        let es = coordinates k.state a in
        let here : n ≡ Stopped ∷ w.past = past ∙ ap (onto w.past) (only stops) in
        subst (λ (p : List Entry). IsTried p y) (sym here)
        (acted_stopped t w h k j a x y was did (had stops) (tied_before w.past es n false past d))

-- what its act keeps of the log the world keeps
acted_keeps : {D : Type 0} (image : D → List ℕ → Type 0) (t : TxId) (w v : World) (h : Known) (k : CoreKept) (x y : LogKept) (old : TxState) (from to : LogState D) → Kept t w h k
    → Keeps image (identifier_of (number_of k.transaction)) (IsFit (identifier_of (number_of k.transaction)) x.ours x.unsure) (IsFit (identifier_of (number_of k.transaction)) y.ours y.unsure) from to
    → seen_as t w x ≡ old → KeepsLog image old from (seen_as t v y) to
acted_keeps image t w v h k x y old from to kept keeps was =
    let P : ℕ → Type 0 = λ id. Keeps image id (IsFit id x.ours x.unsure) (IsFit id y.ours y.unsure) from to in
    subst (λ (z : TxState). KeepsLog image z from (seen_as t v y) to) was (subst P (ap (λ (j : CoreKept). identifier_of (number_of j.transaction)) kept.core) keeps)

-- and what it leaves of the records that the log keeps in memory
acted_slots : {D : Type 0} (t : TxId) (w v : World) (h : Known) (k : CoreKept) (x y : LogKept) (old : TxState) (from to : LogState D) → Kept t w h k
    → LeavesSlots (identifier_of (number_of k.transaction)) x.ours y.ours from to → seen_as t w x ≡ old → KeepsSlots old from (seen_as t v y) to
acted_slots t w v h k x y old from to kept leaves was =
    let at_t : LeavesSlots (identifier_of (number_of t)) x.ours y.ours from to = subst (λ (j : CoreKept). LeavesSlots (identifier_of (number_of j.transaction)) x.ours y.ours from to) kept.core leaves in
    subst (λ (z : TxState). KeepsSlots z from (seen_as t v y) to) was (record { others = at_t.others; had = at_t.had })

-- and the record that it keeps names who said PREPARED
acted_named : (t : TxId) (w : World) (h : Known) (k j : CoreKept) (a : LogAnswer) (n : List Entry) (x y : LogKept) (old : TxState) → Kept t w h k → Acted t w h k j a → n ≡ onto w.past (coordinates k.state a)
    → (Names (number_of k.transaction) x.ours k.state → Names (number_of k.transaction) y.ours j.state) → seen_as t w x ≡ old → NamesPrepared old → NamesPrepared (seen_as t (record { calls = w.calls; past = n }) y)
acted_named t w h k j a n x y old kept did past named was old_named =
    let v : World = record { calls = w.calls; past = n } in
    let after_it : Kept t v h j = subst (λ (u : World). Kept t u h j) (sym (acted_world t w h k j a n did past)) did.kept in
    let before : Names (number_of t) x.ours (core w) = subst (λ (z : TxState). NamesPrepared z) (sym was) old_named in
    let here : Names (number_of k.transaction) x.ours k.state = subst (λ (i : CoreKept). Names (number_of i.transaction) x.ours i.state) (sym kept.core) before in
    let there : Names (number_of k.transaction) y.ours (core v) = subst (λ (c : Coordinated). Names (number_of k.transaction) y.ours c) (core_is t v h j after_it) (named here) in
    subst (λ (u : TxId). Names (number_of u) y.ours (core v)) (core_transaction t w h k kept) there

-- That is what the act leaves.
pub acted_leaves : {D : Type 0} {honest : Bool} {image : D → List ℕ → Type 0} {faults : D → ℕ} (t : TxId) (w : World) (h : Known) (k j : CoreKept) (a : LogAnswer) (n : List Entry) (x y : LogKept) (old : TxState) (from to : LogState D)
    → Kept t w h k → Acted t w h k j a → n ≡ onto w.past (coordinates k.state a) → LeavesKept honest image (number_of k.transaction) k.state x from j.state y to → IsLater faults from to → seen_as t w x ≡ old
    → Leaves honest image faults old from (seen_as t (record { calls = w.calls; past = n }) y) to
acted_leaves {D} {honest} {image} {faults} t w h k j a n x y old from to kept did past leaves later was =
    let v : World = record { calls = w.calls; past = n } in
    record {
      kept = λ is. acted_keeps image t w v h k x y old from to kept (leaves.kept is) was;
      slots = acted_slots t w v h k x y old from to kept leaves.slots was;
      named = acted_named t w h k j a n x y old kept did past leaves.named was;
      later = later;
    }

-- And what a stop by it leaves of its record, over a disk that obeys, is as wished.
pub acted_wished : {D : Type 0} (faults : D → ℕ) (seen : D → List ℕ) (t : TxId) (w : World) (h : Known) (k : CoreKept) (x : LogKept) (old : TxState) (from to : LogState D) → Kept t w h k → seen_as t w x ≡ old
    → IsLeftAsWished faults seen k.state (identifier_of (number_of k.transaction)) from to → IsLeftAsWished faults seen (core old.world) (id_of old) from to
acted_wished faults seen t w h k x old from to kept was left =
    subst (λ (z : TxState). IsLeftAsWished faults seen (core z.world) (id_of z) from to) was
    (subst (λ (j : CoreKept). IsLeftAsWished faults seen j.state (identifier_of (number_of j.transaction)) from to) kept.core left)

-- A coordinator that is told what an opening of the log found: where it still runs it stops first.
told_state : (k : CoreKept) (found : Bool) → follow (stopped_if (not k.state.stopped) k).state (Restarted found) ≡ follow_all k.state (restarted k.state.stopped found)
unfolding follow_all
told_state k found = by k.state.stopped
  where
    by : (b : Bool) → follow (stopped_if (not b) k).state (Restarted found) ≡ follow_all k.state (restarted b found)
    by true = refl
    by false = refl

told_transaction : (k : CoreKept) (b : Bool) → (stopped_if b k).transaction ≡ k.transaction
told_transaction k true = refl
told_transaction k false = refl

told_past : (h : List Entry) (found b : Bool) → Restarted found ∷ stop_if (not b) h ≡ onto h (restarted b found)
told_past h found true = refl
told_past h found false = refl

unheard_told : (h : Half) (b found : Bool) → heeds_all [] h (restarted b found) ≡ h
unfolding heeds_all track
unheard_told h true found = refl
unheard_told h false found = refl

-- it stands stopped when it is told
pub told_stopped : (k i : CoreKept) → i ≡ stopped_if (not k.state.stopped) k → i.state.stopped ≡ true
unfolding follow
told_stopped k i e = ap (λ (x : CoreKept). x.state.stopped) e ∙ by k.state.stopped refl
  where
    by : (b : Bool) → k.state.stopped ≡ b → (stopped_if (not b) k).state.stopped ≡ true
    by true s = s
    by false s = refl

-- and runs then
restarted_runs : (k : Coordinated) (found : Bool) → (follow k (Restarted found)).stopped ≡ false
unfolding follow
restarted_runs k found = refl

-- and its world is the one after its step
pub told : (t : TxId) (w : World) (h : Known) (k i j : CoreKept) (found : Bool) (n : List Entry) (x : LogKept) → Kept t w h k → has is_begin_sent w.past ≡ true
    → i ≡ stopped_if (not k.state.stopped) k → j.transaction ≡ i.transaction → j.state ≡ follow i.state (Restarted found) → n ≡ Restarted found ∷ stop_if (not k.state.stopped) w.past
    → IsOurs (identifier_of (number_of i.transaction)) j.state x
    → Whole t (record { calls = w.calls; past = n }) h j x × (record { calls = w.calls; past = n } ≡ after (number_of t) w (Restarts found))
unfolding after block_at
told t w h k i j found n x kept begun stopped same state past ours =
    let m = Restarts found in
    let block : restarted k.state.stopped found ≡ restarted (core w).stopped found = ap (λ (s : Coordinated). restarted s.stopped found) (core_is t w h k kept) in
    let one : j.transaction ≡ k.transaction = same ∙ ap (λ (y : CoreKept). y.transaction) stopped ∙ told_transaction k (not k.state.stopped) in
    let went : j.state ≡ follow_all k.state (restarted (core w).stopped found)
    = state ∙ ap (λ (y : CoreKept). follow y.state (Restarted found)) stopped ∙ told_state k found ∙ ap (follow_all k.state) block in
    let world : record { calls = w.calls; past = n } ≡ after (number_of t) w m = λ z. record { calls = w.calls; past = (past ∙ told_past w.past found k.state.stopped ∙ ap (onto w.past) block) z } in
    let after_it : Kept t (after (number_of t) w m) h j
    = step_kept t w m h h k j kept begun kept.once (ap (λ (g : Half). record { transaction = h.transaction; half = g }) (sym (unheard_told h.half (core w).stopped found)))
    (λ z. record { transaction = one z; state = went z }) in
    let P : World → Type 0 = λ v. Kept t v h j in
    let Q : TxId → Type 0 = λ u. IsOurs (identifier_of (number_of u)) j.state x in
    let kept_there : Kept t (record { calls = w.calls; past = n }) h j = subst P (sym world) after_it in
    let ours_there : IsOurs (identifier_of (number_of t)) j.state x = subst (λ (u : TxId). IsOurs (identifier_of (number_of u)) j.state x) (sym same ∙ core_transaction t (record { calls = w.calls; past = n }) h j kept_there) ours in
    let runs : j.state.stopped ≡ false = ap (λ (c : Coordinated). c.stopped) state ∙ restarted_runs i.state found in
    (record { kept = kept_there; ours = subst Q (sym same) ours; tried = λ d. acted_sure t h j (record { calls = w.calls; past = n }) x kept_there ours_there runs }, world)

-- What restarts found stays tied, where what it keeps and what is found tie.
pub restart_tied : (t : TxId) (w : World) (h : Known) (k : CoreKept) (x : LogKept) (old : TxState) (found : Option CommitRecord) (n : List Entry) → Whole t w h k x → seen_as t w x ≡ old
    → Tie old.ours old.unsure found → n ≡ Restarted (is_some found) ∷ stop_if (not k.state.stopped) w.past → tied old.world.past ≡ true → tied n ≡ true
restart_tied t w h k x old found n was seen tie past d =
    let P : TxState → Type 0 = λ y. Tie y.ours y.unsure found → tied y.world.past ≡ true → tied n ≡ true in
    let runs : not k.state.stopped ≡ true → (coordinate w.past).stopped ≡ false = λ r. ap (λ (c : Coordinated). c.stopped) (sym (core_is t w h k was.kept)) ∙ not_true k.state.stopped r in
    let here : P (seen_as t w x) = λ ties e.
    subst (λ (p : List Entry). tied p ≡ true) (sym past) (told_tied (identifier_of (number_of t)) w.past x found (not k.state.stopped) (own_ours t w h k x was) was.tried runs ties e) in
    subst P seen here tie d
