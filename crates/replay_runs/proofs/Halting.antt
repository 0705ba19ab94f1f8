-- A stop and an opening of the log, as each transaction is told of it, by number: what becomes of each, and of the trace.
use Rattle.std.proofs.Common.{◌≡◌, ◌≢◌, ◌⊎◌, ◌≤◌, ◌<◌, ℕ, ◌+◌, ◌-◌, nat_le, Bool, true, false, ◌&&◌, not, List, [], ◌∷◌, ◌++◌, length, get_or, set, is_some, inl, inr, refl, ap, sym, subst, ◌∙◌, arith, filter, Option, if◌then◌else◌, length-set}
use Rattle.std.proofs.lemmas.Bool.{cases_lt}
use Rattle.std.proofs.lemmas.Bool.Decides.{leb_tells}
use Rattle.dtx_values.specs.declared.entry.Entry.{Entry}
use Rattle.dtx_values.specs.TxIds.{first_id, number_of}
use Rattle.dtx_values.specs.declared.tx_id.TxId.{TxId}
use Rattle.dtx_values.specs.declared.entry.Entry.TheVariants.{Restarted, Stopped}
use Rattle.dtx_values.specs.declared.number.TxNo.{TxNo}
use Rattle.dtx_values.specs.declared.script.Line.{Line}
use Rattle.dtx_model.specs.Words.{each, has, onto}
use Rattle.dtx_model.specs.Log.{CommitRecord, first_of}
use Rattle.dtx_values.specs.Table.{how_many}
use Rattle.dtx_model.specs.AtLog.{hit, is_hit, is_known, known, one_if, transactions}
use Rattle.dtx_model.specs.Caused.{Of, answers, is_begin_sent, plans_of}
use Rattle.dtx_model.specs.Replay.{put_at}
use Rattle.dtx_model.specs.Steps.{Restarts, Stops, after, block_at, restarted}
use Rattle.dtx_model.specs.Tied.{tied as is_tied_history}
use Rattle.dtx_model.specs.Traces.{Placed, history, placed}
use Rattle.dtx_model.specs.Wires.{is_stopped}
use Rattle.dtx_model.specs.World.{World, core}
use Rattle.dtx_model.proofs.Bools.{and_both, and_left, and_never}
use Rattle.dtx_values.proofs.SameNumbers.{same_transaction}
use Rattle.history_table.proofs.CoreStages.{stopped_same}
use Rattle.script_histories.proofs.PutAt.{history-hit, history-known, is_tx, many-hit, many-known, one_more}
use Rattle.script_calls.proofs.RightReplies.{is_right, right_onto}
use Rattle.coordinator_log.specs.Slots.{open_records}
use Rattle.coordinator_log.specs.State.{LogState}
use Rattle.tx_world.specs.AtLog.{Fits, id_of}
use Rattle.tx_world.specs.Kept.{stop_if}
use Rattle.tx_world.specs.Prepared.{NamesPrepared}
use Rattle.tx_world.specs.State.{TxState, is_hit_by, is_reached_by}
use Rattle.tx_world.proofs.Naming.{named_halt, named_told}
use Rattle.turn_parts.specs.Runs.{untouched}
use Rattle.replay_runs.specs.RunState.{AreNumbered, GoesWith, HaveSameCalls, IsTied, IsToPlan, halted, record_in, reopened, state_of}
use Rattle.replay_runs.proofs.ByNumber.{AreUpTo, Rises, le_last, le_other, le_yet, one_where, put_next, rises-filter, rises-transactions, up_to_all, up_to_next, up_to_none}
use Rattle.replay_runs.proofs.Goes.{restarts_core, stops_core}
use Rattle.replay_runs.proofs.Numbered.{is_it, numbered_set, state_here, state_reached, state_there, state_unreached}
use Rattle.replay_runs.proofs.Tying.{given_same}

-- Of a run under way all but its transactions and its trace is as it was: its script's names, its managers, whose enlistments have an object, and its contexts.
pub record IsElseSame {P M C : Type 0} (old_plans new_plans : P) (old_managers new_managers : M) (old_objects new_objects : Of) (old_contexts new_contexts : C) : Type 0 where
  pub plans : new_plans ≡ old_plans
  pub managers : new_managers ≡ old_managers
  pub objects : new_objects ≡ old_objects
  pub contexts : new_contexts ≡ old_contexts

-- What is done at each transaction up to number n: each of them becomes what g makes of it, and an entry is written at those that pass p.
pub record IsThrough (g : TxState → TxState) (p : TxState → Bool) (f : TxNo → Entry) (ws : List TxState) (T : List Placed) (n : ℕ) (vs : List TxState) (U : List Placed) : Type 0 where
  pub long : length vs ≡ length ws
  pub numbered : AreNumbered vs
  pub calls : HaveSameCalls ws vs
  pub worlds : (t : TxNo) → state_of t vs ≡ (if nat_le t.value n then g (state_of t ws) else state_of t ws)
  pub ts : List TxNo
  pub passed : AreUpTo (λ t. p (state_of t ws)) n ts
  pub trace : U ≡ put_at f ts T

pub through_none : (g : TxState → TxState) (p : TxState → Bool) (f : TxNo → Entry) (ws : List TxState) (T : List Placed) → AreNumbered ws → IsThrough g p f ws T 0 ws T
through_none g p f ws T numbered =
    record { long = refl; numbered = numbered; calls = λ t. refl; worlds = λ t. none t (nat_le t.value 0) refl; ts = []; passed = up_to_none (λ t. p (state_of t ws)); trace = refl }
  where
    none : (t : TxNo) (b : Bool) → nat_le t.value 0 ≡ b → state_of t ws ≡ (if b then g (state_of t ws) else state_of t ws)
    none t true e = elim (leb_tells t.value 0) [
      | inl k ↦ let low = k.1 in let first = t.in_range.0 in absurd (omega (arith, low, first))
      | inr k ↦ let c : true ≡ false = sym e ∙ k.0 in absurd cc
    ]
    none t false e = refl

-- the next one is as it was before
pub through_here : (g : TxState → TxState) (p : TxState → Bool) (f : TxNo → Entry) (ws vs : List TxState) (T U : List Placed) (n : ℕ) (u : TxNo) → u.value ≡ n + 1 → IsThrough g p f ws T n vs U
    → state_of u vs ≡ state_of u ws
through_here g p f ws vs T U n u next a = a.worlds u ∙ ap (λ (b : Bool). if b then g (state_of u ws) else state_of u ws) (le_yet u n next)

through_worlds : (g : TxState → TxState) (p : TxState → Bool) (f : TxNo → Entry) (ws vs : List TxState) (T U : List Placed) (n : ℕ) (u : TxNo) (x y : TxState) → u.value ≡ n + 1
    → IsThrough g p f ws T n vs U → u.value ≤ length vs → x ≡ state_of u ws → y ≡ g x → (t : TxNo)
    → state_of t (set vs (u.value - 1) y) ≡ (if nat_le t.value (n + 1) then g (state_of t ws) else state_of t ws)
through_worlds g p f ws vs T U n u x y next a made was is t = elim (is_it t u) [
  | inl e ↦
      subst (λ (v : TxNo). state_of v (set vs (u.value - 1) y) ≡ (if nat_le v.value (n + 1) then g (state_of v ws) else state_of v ws)) (sym e)
      (state_here u vs y made ∙ (is ∙ (ap g was ∙ sym (ap (λ (b : Bool). if b then g (state_of u ws) else state_of u ws) (le_last u n next)))))
  | inr k ↦
      state_there t u vs y k
      ∙ (a.worlds t ∙ ap (λ (b : Bool). if b then g (state_of t ws) else state_of t ws) (sym (le_other t.value n (n + 1) (apart k) refl)))
]
  where
    apart : t ≢ u → t.value ≢ n + 1
    apart k e = k (same_transaction t u (e ∙ sym next))

pub through_next : (g : TxState → TxState) (p : TxState → Bool) (f : TxNo → Entry) (ws vs : List TxState) (T U V : List Placed) (n : ℕ) (u : TxNo) (x y : TxState) → u.value ≡ n + 1
    → IsThrough g p f ws T n vs U → u.value ≤ length vs → x ≡ get_or vs (u.value - 1) x → y ≡ g x → y.transaction ≡ x.transaction → y.world.calls ≡ x.world.calls
    → V ≡ onto U (placed u (one_where (p x) (f u))) → IsThrough g p f ws T (n + 1) (set vs (u.value - 1) y) V
through_next g p f ws vs T U V n u x y next a made there is number calls written =
    let at : state_of u vs ≡ x = state_reached u vs x made there in
    let was : x ≡ state_of u ws = sym at ∙ through_here g p f ws vs T U n u next a in
    record {
      long = length-set vs (u.value - 1) y ∙ a.long;
      numbered = numbered_set u vs y a.numbered made (number ∙ ap (λ (z : TxState). z.transaction) (sym at));
      calls = λ t. elim (is_it t u) [
        | inl e ↦
            subst (λ (v : TxNo). (state_of v (set vs (u.value - 1) y)).world.calls ≡ (state_of v ws).world.calls) (sym e)
            (ap (λ (z : TxState). z.world.calls) (state_here u vs y made) ∙ (calls ∙ ap (λ (z : TxState). z.world.calls) was))
        | inr k ↦ ap (λ (z : TxState). z.world.calls) (state_there t u vs y k) ∙ a.calls t
      ];
      worlds = through_worlds g p f ws vs T U n u x y next a made was is;
      ts = a.ts ++ one_where (p (state_of u ws)) u;
      passed = up_to_next (λ t. p (state_of t ws)) n a.ts u next a.passed;
      trace =
          written
          ∙ (ap (λ (W : List Placed). onto W (placed u (one_where (p x) (f u)))) a.trace
          ∙ (ap (λ (z : TxState). onto (put_at f a.ts T) (placed u (one_where (p z) (f u)))) was ∙ sym (put_next f a.ts (p (state_of u ws)) u T)));
    }

-- After the last each is what g makes of it, as those beyond are,
pub through_all : (g : TxState → TxState) (p : TxState → Bool) (f : TxNo → Entry) (ws vs : List TxState) (T U : List Placed) (n : ℕ) → IsThrough g p f ws T n vs U → length ws ≤ n
    → ((t : TxNo) → g (untouched t) ≡ untouched t) → (t : TxNo) → state_of t vs ≡ g (state_of t ws)
through_all g p f ws vs T U n a all blank t = a.worlds t ∙ by (cases_lt n t.value)
  where
    beyond : n < t.value → state_of t ws ≡ untouched t
    beyond k = state_unreached t ws (omega (arith, k, all))

    either : (b : Bool) → g (state_of t ws) ≡ state_of t ws → (if b then g (state_of t ws) else state_of t ws) ≡ g (state_of t ws)
    either true e = refl
    either false e = sym e

    low : t.value ≤ n → nat_le t.value n ≡ true
    low k = elim (leb_tells t.value n) [ inl l ↦ l.0 | inr l ↦ let high = l.1 in absurd (omega (arith, high, k)) ]

    by : ((n < t.value) ⊎ (t.value ≤ n)) → (if nat_le t.value n then g (state_of t ws) else state_of t ws) ≡ g (state_of t ws)
    by (inl k) = either (nat_le t.value n) (ap g (beyond k) ∙ (blank t ∙ sym (beyond k)))
    by (inr k) = ap (λ (b : Bool). if b then g (state_of t ws) else state_of t ws) (low k)

-- and what was written is put at those of the trace that pass.
pub through_trace : (g : TxState → TxState) (p : TxState → Bool) (f : TxNo → Entry) (ws vs : List TxState) (T U : List Placed) (n : ℕ) (q : TxNo → Bool) (us : List TxNo) → IsThrough g p f ws T n vs U
    → length ws ≤ n → us ≡ filter q (transactions T) → ((t : TxNo) → p (untouched t) ≡ false) → ((t : TxNo) → p (state_of t ws) ≡ q t)
    → ((u : TxNo) → how_many (is_tx u.value) us ≡ one_if (q u) 0) → U ≡ put_at f us T
through_trace g p f ws vs T U n q us a all is blank same many =
    let rises : Rises 0 us = subst (λ (xs : List TxNo). Rises 0 xs) (sym is) (rises-filter 0 q (transactions T) (rises-transactions T)) in
    let those : a.ts ≡ us =
    up_to_all (λ t. p (state_of t ws)) q n a.ts us a.passed rises many same (λ u k. ap p (state_unreached u ws (omega (arith, k, all))) ∙ blank u) in
    a.trace ∙ ap (λ (xs : List TxNo). put_at f xs T) those

-- Two that are the same in each part are one.
pub same_state : (x y : TxState) → x.transaction ≡ y.transaction → x.world ≡ y.world → x.ours ≡ y.ours → x.unsure ≡ y.unsure → x.life ≡ y.life → x ≡ y
same_state x y a b c d e =
    ap (λ (t : TxId). record { transaction = t; world = x.world; ours = x.ours; unsure = x.unsure; life = x.life }) a
    ∙ (ap (λ (w : World). record { transaction = y.transaction; world = w; ours = x.ours; unsure = x.unsure; life = x.life }) b
    ∙ (ap (λ (o : Option CommitRecord). record { transaction = y.transaction; world = y.world; ours = o; unsure = x.unsure; life = x.life }) c
    ∙ (ap (λ (u : Bool). record { transaction = y.transaction; world = y.world; ours = y.ours; unsure = u; life = x.life }) d
    ∙ ap (λ (n : ℕ). record { transaction = y.transaction; world = y.world; ours = y.ours; unsure = y.unsure; life = n }) e)))

-- A stop: what it makes of a transaction,
pub is_halted : (life : ℕ) (x y : TxState) → y.transaction ≡ x.transaction → y.world ≡ (if is_hit_by life x then after (number_of x.transaction) x.world Stops else x.world) → y.ours ≡ x.ours
    → y.unsure ≡ x.unsure → y.life ≡ x.life → y ≡ halted life x
is_halted life x y number world ours unsure own = by (is_hit_by life x) world
  where
    by : (b : Bool) → y.world ≡ (if b then after (number_of x.transaction) x.world Stops else x.world)
        → y ≡ (if b then record { transaction = x.transaction; world = after (number_of x.transaction) x.world Stops; ours = x.ours; unsure = x.unsure; life = x.life } else x)
    by true w = same_state y (record { transaction = x.transaction; world = after (number_of x.transaction) x.world Stops; ours = x.ours; unsure = x.unsure; life = x.life }) number w ours unsure own
    by false w = same_state y x number w ours unsure own

-- what it writes there,
pub hit_past : (b : Bool) (t : ℕ) (w : World) → (if b then after t w Stops else w).past ≡ onto w.past (one_where b Stopped)
unfolding after block_at
hit_past true t w = refl
hit_past false t w = refl

pub hit_calls : (b : Bool) (t : ℕ) (w : World) → (if b then after t w Stops else w).calls ≡ w.calls
unfolding after
hit_calls true t w = refl
hit_calls false t w = refl

-- which is all that changes of it
pub record IsAsHalted (own : ℕ) (x y : TxState) : Type 0 where
  pub transaction : y.transaction ≡ x.transaction
  pub past : y.world.past ≡ onto x.world.past (one_where (is_hit_by own x) Stopped)
  pub calls : y.world.calls ≡ x.world.calls
  pub ours : y.ours ≡ x.ours
  pub unsure : y.unsure ≡ x.unsure
  pub life : y.life ≡ x.life

pub halted_as : (life : ℕ) (x : TxState) → IsAsHalted life x (halted life x)
halted_as life x = by (is_hit_by life x) refl
  where
    by : (b : Bool) → is_hit_by life x ≡ b
        → IsAsHalted life x (if b then record { transaction = x.transaction; world = after (number_of x.transaction) x.world Stops; ours = x.ours; unsure = x.unsure; life = x.life } else x)
    by true e =
        record {
          transaction = refl;
          past = hit_past true (number_of x.transaction) x.world ∙ ap (λ b. onto x.world.past (one_where b Stopped)) (sym e);
          calls = hit_calls true (number_of x.transaction) x.world;
          ours = refl;
          unsure = refl;
          life = refl;
        }
    by false e = record { transaction = refl; past = ap (λ b. onto x.world.past (one_where b Stopped)) (sym e); calls = refl; ours = refl; unsure = refl; life = refl }

pub halted_blank : (life : ℕ) (t : TxNo) → halted life (untouched t) ≡ untouched t
halted_blank life t = refl

-- and whom it hits: by the trace those that it hits by what is kept of them, where each lives in the life that was stopped
hit_known : (life own : ℕ) (b c : Bool) → (b ≡ true → own ≡ life) → (b && not c && nat_le own life) ≡ (b && not c)
hit_known life own true true k = refl
hit_known life own true false k = elim (leb_tells own life) [ inl l ↦ l.0 | inr l ↦ let high = l.1 in let same = k refl in absurd (omega (arith, high, same)) ]
hit_known life own false c k = refl

pub hit_same : (s : List Line) (o : Of) (life : ℕ) (t : TxNo) (T : List Placed) (x : TxState) → IsTied s o t T x → (has is_begin_sent x.world.past ≡ true → x.life ≡ life) → is_hit_by life x ≡ is_hit T t
hit_same s o life t T x tied lives =
    hit_known life x.life (has is_begin_sent x.world.past) (core x.world).stopped lives
    ∙ (ap (λ (c : Bool). has is_begin_sent x.world.past && not c) (stopped_same x.world.past)
    ∙ ap (λ (h : List Entry). has is_begin_sent h && not (is_stopped h)) tied.past)

-- So a stop of the log, told to each by number.
pub halted_trace : (s : List Line) (o : Of) (life : ℕ) (ws vs : List TxState) (T U : List Placed) (n : ℕ) → IsThrough (halted life) (is_hit_by life) (λ t. Stopped) ws T n vs U → length ws ≤ n
    → ((t : TxNo) → IsTied s o t T (state_of t ws)) → ((t : TxNo) → has is_begin_sent (state_of t ws).world.past ≡ true → (state_of t ws).life ≡ life)
    → U ≡ put_at (λ t. Stopped) (hit T) T
halted_trace s o life ws vs T U n a all tied lives =
    through_trace (halted life) (is_hit_by life) (λ t. Stopped) ws vs T U n (is_hit T) (hit T) a all refl (λ t. refl) (λ t. hit_same s o life t T (state_of t ws) (tied t) (lives t)) (λ u. many-hit u T)

-- each is tied to the trace with it,
one_more_where : (b : Bool) (x : Entry) (h : List Entry) → onto h (one_where b x) ≡ one_more b x h
one_more_where true x h = refl
one_more_where false x h = refl

pub halted_tied : (s : List Line) (o : Of) (life : ℕ) (t : TxNo) (T : List Placed) (x : TxState) → IsTied s o t T x → (has is_begin_sent x.world.past ≡ true → x.life ≡ life)
    → IsTied s o t (put_at (λ u. Stopped) (hit T) T) (halted life x)
halted_tied s o life t T x tied lives =
    let alike = halted_as life x in
    record {
      past =
          alike.past
          ∙ (one_more_where (is_hit_by life x) Stopped x.world.past
          ∙ (ap (λ b. one_more b Stopped x.world.past) (hit_same s o life t T x tied lives)
          ∙ (ap (λ h. one_more (is_hit T t) Stopped h) tied.past ∙ sym (history-hit t (λ u. Stopped) T T))));
      given = given_same s t.value x.world (halted life x).world alike.calls tied.given;
      planned = subst (λ (h : List Entry). IsToPlan s o h) (sym alike.past) (right_onto (plans_of s) (answers s o) x.world.past (one_where (is_hit_by life x) Stopped) tied.planned (as_planned (is_hit_by life x)));
    }
  where
    as_planned : (b : Bool) → each (is_right (plans_of s) (answers s o)) (one_where b Stopped) ≡ true
    as_planned true = refl
    as_planned false = refl

-- and each restart found what may be found, as before
pub halted_sound : (life : ℕ) (x : TxState) → is_tied_history x.world.past ≡ true → is_tied_history (halted life x).world.past ≡ true
halted_sound life x sound = ap is_tied_history (halted_as life x).past ∙ by (is_hit_by life x)
  where
    by : (b : Bool) → is_tied_history (onto x.world.past (one_where b Stopped)) ≡ true
    by true = sound
    by false = sound

-- and the record that is kept names who said PREPARED
pub halted_named : (life : ℕ) (x : TxState) → NamesPrepared x → NamesPrepared (halted life x)
unfolding after block_at
halted_named life x named = by (is_hit_by life x)
  where
    by : (b : Bool) → NamesPrepared (if b then record { transaction = x.transaction; world = after (number_of x.transaction) x.world Stops; ours = x.ours; unsure = x.unsure; life = x.life } else x)
    by true = named_halt x.transaction x.world (after (number_of x.transaction) x.world Stops) (record { ours = x.ours; unsure = x.unsure; life = x.life }) x refl refl named
    by false = named

-- An opening: the record that is kept names who said PREPARED, where those of the log fit what was kept;
pub reopened_named : {D : Type 0} (log : LogState D) (x : TxState) → Fits x (open_records log.slots) → NamesPrepared x → NamesPrepared (reopened log x)
unfolding after block_at
reopened_named {D} log x fits named = by (is_reached_by log.life x)
  where
    found : Option CommitRecord
    found = record_in log.slots (number_of x.transaction)

    told : (b : Bool) → (core x.world).stopped ≡ b → (after (number_of x.transaction) x.world (Restarts (is_some found))).past ≡ Restarted (is_some found) ∷ stop_if (not b) x.world.past
    told true s = ap (λ (c : Bool). onto x.world.past (restarted c (is_some found))) s
    told false s = ap (λ (c : Bool). onto x.world.past (restarted c (is_some found))) s

    by : (b : Bool) → NamesPrepared (if b then record { transaction = x.transaction; world = after (number_of x.transaction) x.world (Restarts (is_some found)); ours = found; unsure = false; life = log.life } else x)
    by true =
        named_told x.transaction x.world (after (number_of x.transaction) x.world (Restarts (is_some found))) (record { ours = x.ours; unsure = x.unsure; life = x.life }) (record { ours = found; unsure = false; life = log.life }) x
        (not (core x.world).stopped) found (told (core x.world).stopped refl) refl fits.tie refl named
    by false = named

-- and what it makes of a transaction,
pub is_reopened : {D : Type 0} (log : LogState D) (x y : TxState) → y.transaction ≡ x.transaction
    → (is_reached_by log.life x ≡ true → (y.world ≡ after (number_of x.transaction) x.world (Restarts (is_some (first_of (id_of x) (open_records log.slots)))))
    × (y.ours ≡ first_of (id_of x) (open_records log.slots)) × (y.unsure ≡ false) × (y.life ≡ log.life))
    → (is_reached_by log.life x ≡ false → y ≡ x) → y ≡ reopened log x
is_reopened {D} log x y number reached unreached = by (is_reached_by log.life x) refl
  where
    there : TxState
    there =
        record { transaction = x.transaction; world = after (number_of x.transaction) x.world (Restarts (is_some (record_in log.slots (number_of x.transaction)))); ours = record_in log.slots (number_of x.transaction); unsure = false; life = log.life }

    by : (b : Bool) → is_reached_by log.life x ≡ b
        → y ≡ (if b then record { transaction = x.transaction; world = after (number_of x.transaction) x.world (Restarts (is_some (record_in log.slots (number_of x.transaction)))); ours = record_in log.slots (number_of x.transaction); unsure = false; life = log.life } else x)
    by true e = let r = reached e in same_state y there number r.0 r.1 r.2 r.3
    by false e = unreached e

-- what it writes there, where the coordinator stands stopped,
pub reopened_past : {D : Type 0} (log : LogState D) (x : TxState) → (has is_begin_sent x.world.past ≡ true → (core x.world).stopped ≡ true)
    → (reopened log x).world.past ≡ onto x.world.past (one_where (is_reached_by log.life x) (Restarted (is_some (record_in log.slots (number_of x.transaction)))))
unfolding after block_at
reopened_past {D} log x stopped = by (is_reached_by log.life x) refl
  where
    begun : is_reached_by log.life x ≡ true → has is_begin_sent x.world.past ≡ true
    begun e = and_left (has is_begin_sent x.world.past) (not (nat_le log.life x.life)) e

    by : (b : Bool) → is_reached_by log.life x ≡ b
        → (if b then record { transaction = x.transaction; world = after (number_of x.transaction) x.world (Restarts (is_some (record_in log.slots (number_of x.transaction)))); ours = record_in log.slots (number_of x.transaction); unsure = false; life = log.life } else x).world.past
        ≡ onto x.world.past (one_where b (Restarted (is_some (record_in log.slots (number_of x.transaction)))))
    by true e = ap (λ (c : Bool). onto x.world.past (restarted c (is_some (record_in log.slots (number_of x.transaction))))) (stopped (begun e))
    by false e = refl

pub reopened_calls : {D : Type 0} (log : LogState D) (x : TxState) → (reopened log x).world.calls ≡ x.world.calls
unfolding after
reopened_calls {D} log x = by (is_reached_by log.life x)
  where
    by : (b : Bool)
        → (if b then record { transaction = x.transaction; world = after (number_of x.transaction) x.world (Restarts (is_some (record_in log.slots (number_of x.transaction)))); ours = record_in log.slots (number_of x.transaction); unsure = false; life = log.life } else x).world.calls
        ≡ x.world.calls
    by true = refl
    by false = refl

pub reopened_number : {D : Type 0} (log : LogState D) (x : TxState) → (reopened log x).transaction ≡ x.transaction
reopened_number {D} log x = by (is_reached_by log.life x)
  where
    by : (b : Bool)
        → (if b then record { transaction = x.transaction; world = after (number_of x.transaction) x.world (Restarts (is_some (record_in log.slots (number_of x.transaction)))); ours = record_in log.slots (number_of x.transaction); unsure = false; life = log.life } else x).transaction
        ≡ x.transaction
    by true = refl
    by false = refl

pub reopened_blank : {D : Type 0} (log : LogState D) (t : TxNo) → reopened log (untouched t) ≡ untouched t
reopened_blank log t = refl

-- and whom it reaches: each of which the coordinator knows, where each lives in an earlier life
reached_known : (life own : ℕ) (b : Bool) → (b ≡ true → own < life) → (b && not (nat_le life own)) ≡ b
reached_known life own true k = elim (leb_tells life own) [ inl l ↦ let high = l.1 in let less = k refl in absurd (omega (arith, high, less)) | inr l ↦ ap not l.0 ]
reached_known life own false k = refl

pub reached_same : (s : List Line) (o : Of) (life : ℕ) (t : TxNo) (T : List Placed) (x : TxState) → IsTied s o t T x → (has is_begin_sent x.world.past ≡ true → x.life < life) → is_reached_by life x ≡ is_known T t
reached_same s o life t T x tied lives = reached_known life x.life (has is_begin_sent x.world.past) lives ∙ ap (λ (h : List Entry). has is_begin_sent h) tied.past

-- So an opening of the log, told to each by number.
pub reopened_trace : {D : Type 0} (s : List Line) (o : Of) (log : LogState D) (ws vs : List TxState) (T U : List Placed) (n : ℕ)
    → IsThrough (reopened log) (is_reached_by log.life) (λ t. Restarted (is_some (record_in log.slots t.value))) ws T n vs U → length ws ≤ n → ((t : TxNo) → IsTied s o t T (state_of t ws))
    → ((t : TxNo) → has is_begin_sent (state_of t ws).world.past ≡ true → (state_of t ws).life < log.life)
    → U ≡ put_at (λ t. Restarted (is_some (record_in log.slots t.value))) (known T) T
reopened_trace s o log ws vs T U n a all tied lives =
    through_trace (reopened log) (is_reached_by log.life) (λ t. Restarted (is_some (record_in log.slots t.value))) ws vs T U n (is_known T) (known T) a all refl (λ t. refl)
    (λ t. reached_same s o log.life t T (state_of t ws) (tied t) (lives t)) (λ u. many-known u T)

-- each is tied to the trace with it
pub reopened_tied : {D : Type 0} (s : List Line) (o : Of) (log : LogState D) (t : TxNo) (T : List Placed) (x : TxState) → x.transaction ≡ first_id t → IsTied s o t T x
    → (has is_begin_sent x.world.past ≡ true → (core x.world).stopped ≡ true) → (has is_begin_sent x.world.past ≡ true → x.life < log.life)
    → IsTied s o t (put_at (λ u. Restarted (is_some (record_in log.slots u.value))) (known T) T) (reopened log x)
reopened_tied {D} s o log t T x number tied stopped lives =
    let found = Restarted (is_some (record_in log.slots (number_of x.transaction))) in
    let past = reopened_past log x stopped in
    record {
      past =
          past
          ∙ (one_more_where (is_reached_by log.life x) found x.world.past
          ∙ (ap (λ b. one_more b found x.world.past) (reached_same s o log.life t T x tied lives)
          ∙ (ap (λ h. one_more (is_known T t) found h) tied.past
          ∙ (ap (λ (u : TxId). one_more (is_known T t) (Restarted (is_some (record_in log.slots (number_of u)))) (history t.value T)) number
          ∙ sym (history-known t (λ u. Restarted (is_some (record_in log.slots u.value))) T T)))));
      given = given_same s t.value x.world (reopened log x).world (reopened_calls log x) tied.given;
      planned = subst (λ (h : List Entry). IsToPlan s o h) (sym past) (right_onto (plans_of s) (answers s o) x.world.past (one_where (is_reached_by log.life x) found) tied.planned (as_planned (is_reached_by log.life x)));
    }
  where
    as_planned : (b : Bool) → each (is_right (plans_of s) (answers s o)) (one_where b (Restarted (is_some (record_in log.slots (number_of x.transaction))))) ≡ true
    as_planned true = refl
    as_planned false = refl

-- After a stop each goes with the log, which is down: its coordinator lived in the log's life, and stood stopped only where BEGIN was sent.
pub goes_halted : {D : Type 0} (log : LogState D) (x : TxState) (c : Bool) → log.is_up ≡ false → (has is_begin_sent x.world.past ≡ true → x.life ≡ log.life)
    → (core x.world).stopped ≡ (has is_begin_sent x.world.past && c) → GoesWith log (halted log.life x)
unfolding after block_at
goes_halted {D} log x c down lives stopped = by (is_hit_by log.life x) refl
  where
    run : (b s : Bool) → (b ≡ true → nat_le x.life log.life ≡ true) → s ≡ (b && c) → (b && not s && nat_le x.life log.life) ≡ false → s ≡ (b && not log.is_up)
    run true true l k e = sym (ap not down)
    run true false l k e = let f : true ≡ false = sym (l refl) ∙ e in absurd cc
    run false s l k e = k

    near : has is_begin_sent x.world.past ≡ true → nat_le x.life log.life ≡ true
    near k = elim (leb_tells x.life log.life) [ inl l ↦ l.0 | inr l ↦ let high = l.1 in let same = lives k in absurd (omega (arith, high, same)) ]

    begun : is_hit_by log.life x ≡ true → has is_begin_sent x.world.past ≡ true
    begun e = and_left (has is_begin_sent x.world.past) (not (core x.world).stopped) (and_left (has is_begin_sent x.world.past && not (core x.world).stopped) (nat_le x.life log.life) e)

    by : (b : Bool) → is_hit_by log.life x ≡ b
        → GoesWith log (if b then record { transaction = x.transaction; world = after (number_of x.transaction) x.world Stops; ours = x.ours; unsure = x.unsure; life = x.life } else x)
    by true e =
        record {
          life = λ k. lives (begun e);
          stopped = stops_core (number_of x.transaction) x.world ∙ sym (and_both (has is_begin_sent x.world.past) (not log.is_up) (begun e) (ap not down));
        }
    by false e = record { life = lives; stopped = run (has is_begin_sent x.world.past) (core x.world).stopped near stopped e }

-- After an opening each goes with the log, which is up.
pub goes_reopened : {D : Type 0} (log : LogState D) (x : TxState) (c : Bool) → log.is_up ≡ true → (has is_begin_sent x.world.past ≡ true → x.life < log.life)
    → (core x.world).stopped ≡ (has is_begin_sent x.world.past && c) → GoesWith log (reopened log x)
goes_reopened {D} log x c up lives stopped = by (is_reached_by log.life x) refl
  where
    never : (b : Bool) → false ≡ (b && not log.is_up)
    never b = sym (ap (λ u. b && not u) up ∙ and_never b)

    by : (b : Bool) → is_reached_by log.life x ≡ b
        → GoesWith log (if b then record { transaction = x.transaction; world = after (number_of x.transaction) x.world (Restarts (is_some (record_in log.slots (number_of x.transaction)))); ours = record_in log.slots (number_of x.transaction); unsure = false; life = log.life } else x)
    by true e =
        record {
          life = λ k. refl;
          stopped = restarts_core (number_of x.transaction) x.world (is_some (record_in log.slots (number_of x.transaction)))
              ∙ never (has is_begin_sent (after (number_of x.transaction) x.world (Restarts (is_some (record_in log.slots (number_of x.transaction))))).past);
        }
    by false e =
        let none : has is_begin_sent x.world.past ≡ false = sym (reached_known log.life x.life (has is_begin_sent x.world.past) lives) ∙ e in
        record {
          life = λ k. let f : true ≡ false = sym k ∙ none in absurd cc;
          stopped = stopped ∙ (ap (λ b. b && c) none ∙ never (has is_begin_sent x.world.past));
        }
