-- What holds of each world holds after a step that may come, once its block was written and both halves took it.
use Rattle.std.proofs.Common.{◌≡◌, ℕ, zero, suc, Bool, true, false, ◌&&◌, ◌||◌, not, List, [], ◌∷◌, Some, refl, ap, sym, ◌∙◌, subst, if◌then◌else◌}
use Rattle.std.proofs.lemmas.Bool.{cond-false, cond-true}
use Rattle.dtx_values.specs.declared.call.Call.{Call}
use Rattle.dtx_values.specs.TxIds.{number_of}
use Rattle.dtx_values.specs.declared.tx_id.TxId.{TxId}
use Rattle.dtx_values.specs.declared.entry.Entry.{Entry}
use Rattle.dtx_values.specs.declared.entry.Entry.TheVariants.{Down as Ended, Freed, Got, LogFull, Logged, Recovered, Restarted, Sent, Stopped}
use Rattle.dtx_values.specs.declared.message.Conn.TheVariants.{Begin, Voter, Enl, Again}
use Rattle.dtx_values.specs.declared.message.Dir.TheVariants.{Up, Down}
use Rattle.dtx_values.specs.declared.note.Note.{Note}
use Rattle.dtx_values.specs.declared.note.Reply.{Reply}
use Rattle.dtx_values.specs.declared.number.ActorNo.{ActorNo}
use Rattle.dtx_values.specs.declared.number.EnlNo.{EnlNo}
use Rattle.dtx_model.specs.Words.{each, has, kth, onto}
use Rattle.dtx_model.specs.Outcome.{is_empty}
use Rattle.dtx_model.specs.Observed.{track}
use Rattle.dtx_model.specs.Coordinated.{Coordinated, coordinate, follow, follow_all, nothing}
use Rattle.dtx_model.specs.declared.waiting.EnteredCall.{EnteredCall}
use Rattle.dtx_model.specs.Half.{Half, half_of, heeds, heeds_all}
use Rattle.dtx_model.specs.Acts.{act_entries}
use Rattle.dtx_model.specs.Replies.{due_of, fits, reply_entries}
use Rattle.dtx_model.specs.World.{World, half, core}
use Rattle.dtx_model.specs.Steps.{Step, Calls, Replies, Acts, Stops, after, block_at, entered}
use Rattle.dtx_model.specs.Caused.{AreMadeOnce, IsIn, IsOwnRun, MayCome, is_begin_sent}
use Rattle.dtx_model.proofs.Bools.{and_both, and_left, and_right, not_false}
use Rattle.dtx_model.proofs.Heeding.{core_behind, half_behind}
use Rattle.dtx_model.proofs.Lifting.{lift_ran, still_in}
use Rattle.dtx_model.proofs.Reading.{has-onto}
use Rattle.local_half.specs.Half.{Known, after as known_after}
use Rattle.coordinator_core.specs.Kept.{Kept as CoreKept}
use Rattle.tx_world.specs.State.{sends_begin, turned}
use Rattle.world_laws.specs.Course.{is_far, is_near}
use Rattle.tx_world.specs.Kept.{Kept, stop_if, stopped_if}
use Rattle.world_laws.proofs.Near.{near_act, near_reply}

-- a world to which nothing happened yet
pub new_kept : (t : TxId) (ks : List EnteredCall) (past : List Entry) (h : Known) (k : CoreKept) → ks ≡ [] → past ≡ [] → h ≡ record { transaction = t; half = half_of [] [] }
    → k ≡ record { transaction = t; state = nothing } → Kept t (record { calls = ks; past = past }) h k
unfolding coordinate
new_kept t ks past h k no_calls no_past is_half is_core = record {
  ran = ([], (no_calls, no_past));
  once = λ n m a b c d x i j. absurd (none n a c (subst (λ ls. IsIn ls n a c) no_calls i));
  half = is_half ∙ (λ j. record { transaction = t; half = half_of (sym no_calls j) (sym no_past j) });
  core = is_core ∙ (λ j. record { transaction = t; state = coordinate (sym no_past j) });
}
  where
    none : (n : ℕ) (a : ActorNo) (c : Call) → IsIn [] n a c → ⊥
    none n a c i = by i.place i.stands
      where
        by : (p : ℕ) → kth {A = EnteredCall} [] p ≡ Some (record { line = n; actor = a; call = c }) → ⊥
        by zero s = cc
        by (suc p) s = cc

in_more : (m : Step) (ks : List EnteredCall) (n : ℕ) (a : ActorNo) (c : Call) → IsIn ks n a c → IsIn (entered m ks) n a c
in_more (Calls l b d k) ks n a c i = still_in (record { line = l; actor = b; call = d }) ks n a c i
in_more _ ks n a c i = i

-- a world that its own calls made goes on by a step that may come
pub ran_on : (t : ℕ) (w : World) (m : Step) → IsOwnRun t w → MayCome (IsIn (entered m w.calls)) t w m → IsOwnRun t (after t w m)
unfolding after
ran_on t w m r k = (m ∷ r.0, (w, lift_ran (IsIn w.calls) (IsIn (entered m w.calls)) (in_more m w.calls) t r.0 w r.1, k, refl))

pub step_kept : (t : TxId) (w : World) (m : Step) (h g : Known) (k j : CoreKept) → Kept t w h k → MayCome (IsIn (entered m w.calls)) (number_of t) w m → AreMadeOnce (IsIn (entered m w.calls))
    → g ≡ known_after (entered m []) h (block_at (number_of t) w m) → j ≡ record { transaction = k.transaction; state = follow_all k.state (block_at (number_of t) w m) } → Kept t (after (number_of t) w m) g j
unfolding after
step_kept t w m h g k j kept may once local far =
    let es = block_at (number_of t) w m in
    record {
      ran = ran_on (number_of t) w m kept.ran may;
      once = once;
      half =
          local
          ∙ ap (λ (x : Known). known_after (entered m []) x es) kept.half
          ∙ ap (λ (x : Half). record { transaction = t; half = x }) (sym (half_behind (IsIn (entered m w.calls)) (number_of t) w m may));
      core =
          far
          ∙ ap (λ (x : CoreKept). record { transaction = x.transaction; state = follow_all x.state es }) kept.core
          ∙ ap (λ (x : Coordinated). record { transaction = t; state = x }) (sym (core_behind (number_of t) w m));
    }

-- what is written by the local side alone leaves the coordinator as it was
near_followed : (k : Coordinated) (x : Entry) → is_near x ≡ true → follow k x ≡ k
unfolding follow
near_followed k (Sent Begin Up m) n = refl
near_followed k (Sent Voter Up m) n = refl
near_followed k (Sent (Enl e) Up m) n = refl
near_followed k (Sent (Again e) Up m) n = refl
near_followed k (Sent c Down m) n = absurd cc
near_followed k (Got c d m) n = absurd cc
near_followed k (Ended c d) n = absurd cc
near_followed k Stopped n = absurd cc
near_followed k (Restarted found) n = absurd cc
near_followed k Logged n = absurd cc
near_followed k LogFull n = absurd cc
near_followed k Freed n = absurd cc
near_followed k (Recovered r) n = absurd cc
near_followed k _ n = refl

pub near_follow_all : (k : Coordinated) (es : List Entry) → each is_near es ≡ true → follow_all k es ≡ k
unfolding follow_all
near_follow_all k [] n = refl
near_follow_all k (x ∷ es) n =
    ap (λ (j : Coordinated). follow_all j es) (near_followed k x (and_left (is_near x) (each is_near es) n)) ∙ near_follow_all k es (and_right (is_near x) (each is_near es) n)

-- the coordinator's messages leave what the local side knows as it was
far_heeded : (ks : List EnteredCall) (h : Half) (x : Entry) → is_far x ≡ true → heeds ks h x ≡ h
unfolding track
far_heeded ks h (Sent Begin Down m) f = refl
far_heeded ks h (Sent Voter Down m) f = refl
far_heeded ks h (Sent (Enl e) Down m) f = refl
far_heeded ks h (Sent (Again e) Down m) f = refl
far_heeded ks h (Sent c Up m) f = absurd cc
far_heeded ks h _ f = absurd cc

pub far_heeds_all : (ks : List EnteredCall) (h : Half) (es : List Entry) → each is_far es ≡ true → heeds_all ks h es ≡ h
unfolding heeds_all
far_heeds_all ks h [] f = refl
far_heeds_all ks h (x ∷ es) f =
    ap (λ (g : Half). heeds_all ks g es) (far_heeded ks h x (and_left (is_far x) (each is_far es) f)) ∙ far_heeds_all ks h es (and_right (is_far x) (each is_far es) f)

-- a step of the local side that is no call
pub near_kept : (t : TxId) (w : World) (m : Step) (h g : Known) (k : CoreKept) → Kept t w h k → MayCome (IsIn (entered m w.calls)) (number_of t) w m → AreMadeOnce (IsIn (entered m w.calls))
    → g ≡ known_after (entered m []) h (block_at (number_of t) w m) → each is_near (block_at (number_of t) w m) ≡ true → Kept t (after (number_of t) w m) g k
near_kept t w m h g k kept may once local near =
    step_kept t w m h g k k kept may once local (ap (λ (x : Coordinated). record { transaction = k.transaction; state = x }) (sym (near_follow_all k.state (block_at (number_of t) w m) near)))

-- what the halves of a kept world know
pub half_is : (t : TxId) (w : World) (h : Known) (k : CoreKept) → Kept t w h k → h.half ≡ half w
half_is t w h k kept = ap (λ (x : Known). x.half) kept.half

pub core_is : (t : TxId) (w : World) (h : Known) (k : CoreKept) → Kept t w h k → k.state ≡ core w
core_is t w h k kept = ap (λ (x : CoreKept). x.state) kept.core

pub core_transaction : (t : TxId) (w : World) (h : Known) (k : CoreKept) → Kept t w h k → k.transaction ≡ t
core_transaction t w h k kept = ap (λ (x : CoreKept). x.transaction) kept.core

-- a reply that is due and fits
pub reply_block : (t : TxId) (w : World) (h : Known) (k : CoreKept) (e : EnlNo) (r : Reply) → Kept t w h k → reply_entries h.half e r ≡ block_at (number_of t) w (Replies e r)
unfolding block_at
reply_block t w h k e r kept = ap (λ (x : Half). reply_entries x e r) (half_is t w h k kept)

pub reply_kept : (t : TxId) (w : World) (h g : Known) (k : CoreKept) (e : EnlNo) (r : Reply) (n : Note) → Kept t w h k → due_of h.half.seen e.value ≡ Some n → fits r n ≡ true
    → g ≡ known_after [] h (reply_entries h.half e r) → Kept t (after (number_of t) w (Replies e r)) g k
unfolding block_at
reply_kept t w h g k e r n kept due fit local =
    near_kept t w (Replies e r) h g k kept (n, ap (λ (x : Half). due_of x.seen e.value) (sym (half_is t w h k kept)) ∙ due, fit) kept.once
    (local ∙ ap (known_after [] h) (reply_block t w h k e r kept)) (near_reply (half w) e r).proof

-- the local act
pub act_block : (t : TxId) (w : World) (h : Known) (k : CoreKept) → Kept t w h k → act_entries h.half ≡ block_at (number_of t) w Acts
unfolding block_at
act_block t w h k kept = ap (λ (x : Half). act_entries x) (half_is t w h k kept)

pub act_kept : (t : TxId) (w : World) (h g : Known) (k : CoreKept) → Kept t w h k → is_empty (act_entries h.half) ≡ false → g ≡ known_after [] h (act_entries h.half)
    → Kept t (after (number_of t) w Acts) g k
unfolding block_at
act_kept t w h g k kept some local =
    near_kept t w Acts h g k kept (ap (λ (x : Half). is_empty (act_entries x)) (sym (half_is t w h k kept)) ∙ some) kept.once
    (local ∙ ap (known_after [] h) (act_block t w h k kept)) (near_act (half w)).proof

-- a stop
stop_heeded : (h : Half) → heeds_all [] h (Stopped ∷ []) ≡ h
unfolding heeds_all track
stop_heeded h = refl

stop_followed : (k : Coordinated) → follow_all k (Stopped ∷ []) ≡ follow k Stopped
unfolding follow_all
stop_followed k = refl

pub stop_kept : (t : TxId) (w : World) (h : Known) (k j : CoreKept) → Kept t w h k → has is_begin_sent w.past ≡ true → k.state.stopped ≡ false
    → j ≡ record { transaction = k.transaction; state = follow k.state Stopped } → Kept t (after (number_of t) w Stops) h j
unfolding block_at
stop_kept t w h k j kept begun runs far =
    let may = and_both (has is_begin_sent w.past) (not (core w).stopped) begun (not_false (core w).stopped (ap (λ (x : Coordinated). x.stopped) (sym (core_is t w h k kept)) ∙ runs)) in
    step_kept t w Stops h h k j kept may kept.once (ap (λ (x : Half). record { transaction = h.transaction; half = x }) (sym (stop_heeded h.half)))
    (far ∙ ap (λ (x : Coordinated). record { transaction = k.transaction; state = x }) (sym (stop_followed k.state)))

-- where BEGIN was sent while the log is stopped, the coordinator stopped at once
pub turned_kept : (t : TxId) (w : World) (m : Step) (up : Bool) (h : Known) (k j : CoreKept) → Kept t (after (number_of t) w m) h k → (sends_begin (number_of t) w m ≡ true → k.state.stopped ≡ false)
    → j ≡ stopped_if (sends_begin (number_of t) w m && not up) k → Kept t (turned up (number_of t) w m) h j
unfolding after
turned_kept t w m up h k j kept runs far = by (sends_begin (number_of t) w m && not up) refl
  where
    v : World
    v = after (number_of t) w m

    begun : sends_begin (number_of t) w m ≡ true → has is_begin_sent v.past ≡ true
    begun s = has-onto is_begin_sent w.past (block_at (number_of t) w m) ∙ or_true (sends_begin (number_of t) w m) (has is_begin_sent w.past) s
      where
        or_true : (a b : Bool) → a ≡ true → (a || b) ≡ true
        or_true true b e = refl
        or_true false b e = absurd cc

    by : (b : Bool) → (sends_begin (number_of t) w m && not up) ≡ b → Kept t (turned up (number_of t) w m) h j
    by true e =
        let s = and_left (sends_begin (number_of t) w m) (not up) e in
        subst (λ (x : World). Kept t x h j) (sym (cond-true (sends_begin (number_of t) w m && not up) (after (number_of t) v Stops) v e))
        (stop_kept t v h k j kept (begun s) (runs s) (far ∙ ap (λ b. stopped_if b k) e))
    by false e =
        subst (λ (x : World). Kept t x h j) (sym (cond-false (sends_begin (number_of t) w m && not up) (after (number_of t) v Stops) v e))
        (subst (λ (x : CoreKept). Kept t v h x) (sym (far ∙ ap (λ b. stopped_if b k) e)) kept)

-- the history and the calls of the world after a step are what was written
pub turned_past : (t : ℕ) (w : World) (m : Step) (up : Bool) → record { calls = entered m w.calls; past = stop_if (sends_begin t w m && not up) (onto w.past (block_at t w m)) } ≡ turned up t w m
unfolding after block_at
turned_past t w m up = by (sends_begin t w m && not up)
  where
    by : (b : Bool) → record { calls = entered m w.calls; past = stop_if b (onto w.past (block_at t w m)) } ≡ (if b then after t (after t w m) Stops else after t w m)
    by true = refl
    by false = refl
