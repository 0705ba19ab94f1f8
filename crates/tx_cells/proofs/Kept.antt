-- What a cell keeps, at its start, after a step, and after a call.
use Rattle.std.proofs.Common.{◌≡◌, ℕ, zero, suc, ◌==◌, Bool, true, false, ◌&&◌, ◌||◌, not, List, [], ◌∷◌, Option, Some, None, is_some, refl, ap, sym, subst, ◌∙◌, inl, inr, if◌then◌else◌}
use Rattle.std.specs.Prelude.{IsTrue}
use Rattle.dtx_values.proofs.Ids.{same_id}
use Rattle.dtx_values.specs.declared.call.Call.{Call}
use Rattle.dtx_values.specs.TxIds.{first_id, number_in, number_of}
use Rattle.dtx_values.specs.declared.tx_id.TxId.{TxId}
use Rattle.dtx_values.specs.declared.call.Call.TheVariants.{Await, Do, Durable, Marshal}
use Rattle.dtx_values.specs.declared.number.ActorNo.{ActorNo}
use Rattle.dtx_values.specs.declared.number.TxNo.{TxNo}
use Rattle.dtx_values.specs.declared.script.Body.{Body}
use Rattle.dtx_values.specs.declared.script.Body.TheVariants.{Complete as CompleteLine, Do as DoLine, Durable as DurableLine, Gone as GoneLine, Marshal as MarshalLine, Reenlist as ReenlistLine}
use Rattle.dtx_values.specs.declared.script.Line.{Line}
use Rattle.dtx_model.specs.Words.{always, has, kth}
use Rattle.dtx_model.specs.Grammar.{OfTransaction, is_made}
use Rattle.dtx_model.specs.Calls.{call_of, complete_call, gone_call, reenlist_call, transaction_of, transaction_with}
use Rattle.dtx_model.specs.Contexts.{lines_before}
use Rattle.dtx_model.specs.Outcome.{is_empty}
use Rattle.dtx_model.specs.Tied.{tied}
use Rattle.dtx_model.specs.declared.waiting.EnteredCall.{EnteredCall}
use Rattle.dtx_model.specs.World.{World, half}
use Rattle.dtx_model.specs.Steps.{Step, Calls, Stops, after, block_at, entered, pending}
use Rattle.dtx_model.specs.Caused.{IsCallOf, IsIn, MayAnswer, has_object, is_as_planned, made_by, plans_of}
use Rattle.script_calls.specs.declared.rows.Due.{Due}
use Rattle.script_calls.specs.Prefix.{IsPrefix}
use Rattle.script_calls.specs.Rows.{next_in, row_at}
use Rattle.script_calls.specs.SeenRow.{SeenRow}
use Rattle.script_calls.proofs.Entered.{next_line_new, next_name_new}
use Rattle.history_table.proofs.ScopeCalls.{given_call, is_scope_call}
use Rattle.history_table.proofs.Tests.{eq_self}
use Rattle.tx_world.specs.State.{TxState, is_maker, may_enter, sends_begin, turned}
use Rattle.tx_world.specs.OwnCalls.{is_alone, is_do}
use Rattle.tx_world.proofs.StillTied.{is_restarting, turned_tied}
use Rattle.tx_cells.specs.Cell.{IsKept, IsThreadable, is_do_line, is_log_full, untouched}
use Rattle.tx_cells.specs.Entering.{is_promoting, is_promoting_line, later_if, may_promote_at, must_wait, put_off}
use Rattle.tx_cells.specs.declared.turns.Turned.TheVariants.{NotNext}
use Rattle.tx_cells.proofs.NeverFull.{finds_full, unfilled_turned}
use Rattle.script_calls.proofs.RightReplies.{IsReplyRight, right_step, right_stop}
use Rattle.script_calls.proofs.Scripts.{given_more}
use Rattle.turn_parts.proofs.Turned.{same_made, turned_calls}

-- at the start: no call was entered, and no entry is there
none_in : (n : ℕ) (a : ActorNo) (c : Call) → IsIn [] n a c → ⊥
none_in n a c i = by i.place i.stands
  where
    by : (k : ℕ) → kth {A = EnteredCall} [] k ≡ Some (record { line = n; actor = a; call = c }) → ⊥
    by zero e = cc
    by (suc k) e = cc

pub kept_new : (s : List Line) (k : ℕ) (honest : Bool) (t : TxNo) (rows : List (SeenRow Call)) → IsThreadable s → is_made s (OfTransaction t.value) ≡ true → IsPrefix s t.value rows [] → IsKept s k honest (untouched t) rows
kept_new s k honest t rows script named prefix = record { script = script; first = refl; named = named; given = λ n a c i. absurd (none_in n a c i); in_order = prefix; planned = refl; sound = λ _. refl; unfilled = λ _. refl }

-- a transaction of epoch 0, by its number
pub of_first : (x : TxId) → x.epoch ≡ 0 → first_id x.t ≡ x
of_first x e = same_id (first_id x.t) x (ap (λ n. number_in n x.t.value) (sym e))

-- a world that was made of it is that of a transaction to which nothing came yet
pub made_untouched : (x : TxState) (i : TxId) (t : TxNo) → x ≡ record { transaction = i; world = record { calls = []; past = [] }; ours = None; unsure = false; life = 0 } → i ≡ first_id t → x ≡ untouched t
made_untouched x i t is first = is ∙ ap new_one first
  where
    new_one : TxId → TxState
    new_one j = record { transaction = j; world = record { calls = []; past = [] }; ours = None; unsure = false; life = 0 }

-- and so it is kept
pub kept_made : (s : List Line) (k : ℕ) (honest : Bool) (x : TxState) (t : TxNo) (rows : List (SeenRow Call)) → x ≡ untouched t → IsThreadable s → is_made s (OfTransaction t.value) ≡ true → IsPrefix s t.value rows []
    → (t ≡ x.transaction.t) × IsKept s k honest x rows
kept_made s k honest x t rows is script named prefix =
    (sym (ap (λ (y : TxState). y.transaction.t) is), subst (λ (y : TxState). IsKept s k honest y rows) (sym is) (kept_new s k honest t rows script named prefix))

-- the replies after a step, with the stop that may follow it
turned_right : (s : List Line) (k : ℕ) (up : Bool) (t : ℕ) (w : World) (m : Step) → IsReplyRight (plans_of s) (has_object s k) m → always (is_as_planned (plans_of s) (has_object s k)) w.past ≡ true
    → always (is_as_planned (plans_of s) (has_object s k)) (turned up t w m).past ≡ true
unfolding after block_at
turned_right s k up t w m q p = by (sends_begin t w m && not up)
  where
    by : (c : Bool) → always (is_as_planned (plans_of s) (has_object s k)) (if c then after t (after t w m) Stops else after t w m).past ≡ true
    by true = right_stop (plans_of s) (has_object s k) (after t w m).past (right_step (plans_of s) (has_object s k) t w m q p)
    by false = right_step (plans_of s) (has_object s k) t w m q p

-- no append finds the log full in a step that is none
unfilled_step : (up : Bool) (x y : TxState) (m : Step) → finds_full m ≡ false → y.world ≡ turned up (number_of x.transaction) x.world m → has is_log_full x.world.past ≡ false → has is_log_full y.world.past ≡ false
unfilled_step up x y m room w before = subst (λ (v : World). has is_log_full v.past ≡ false) (sym w) (unfilled_turned up (number_of x.transaction) x.world m room before)

-- So after a step that enters no call, over an honest disk doesn't find the log full, and after which what restarts found is tied where it was before,
pub kept_tied : (s : List Line) (k : ℕ) (honest up : Bool) (x y : TxState) (rows : List (SeenRow Call)) (m : Step) → entered m x.world.calls ≡ x.world.calls → IsReplyRight (plans_of s) (has_object s k) m
    → (IsTrue honest → finds_full m ≡ false) → (IsTrue honest → tied x.world.past ≡ true → tied y.world.past ≡ true) → y.transaction ≡ x.transaction → y.world ≡ turned up (number_of x.transaction) x.world m → IsKept s k honest x rows → IsKept s k honest y rows
kept_tied s k honest up x y rows m none q room still t w kept =
    let calls : y.world.calls ≡ x.world.calls = ap (λ (v : World). v.calls) w ∙ (turned_calls up (number_of x.transaction) x.world m ∙ none) in
    record {
      script = kept.script;
      first = ap (λ (u : TxId). u.epoch) t ∙ kept.first;
      named = subst (λ (u : TxId). is_made s (OfTransaction (number_of u)) ≡ true) (sym t) kept.named;
      given = λ n a c i. subst (λ (u : TxId). IsCallOf s (number_of u) n a c) (sym t) (kept.given n a c (subst (λ ks. IsIn ks n a c) calls i));
      in_order = subst (λ (u : TxId). IsPrefix s (number_of u) rows y.world.calls) (sym t) (subst (IsPrefix s (number_of x.transaction) rows) (sym calls) kept.in_order);
      planned = subst (λ (v : World). always (is_as_planned (plans_of s) (has_object s k)) v.past ≡ true) (sym w) (turned_right s k up (number_of x.transaction) x.world m q kept.planned);
      sound = λ is. still is (kept.sound is);
      unfilled = λ is. unfilled_step up x y m (room is) w (kept.unfilled is);
    }

-- as after each but a restart,
pub sound_step : (up : Bool) (x y : TxState) (m : Step) → is_restarting m ≡ false → y.world ≡ turned up (number_of x.transaction) x.world m → tied x.world.past ≡ true → tied y.world.past ≡ true
sound_step up x y m other w before = subst (λ (v : World). tied v.past ≡ true) (sym w) (turned_tied up (number_of x.transaction) x.world m other before)

pub kept_step : (s : List Line) (k : ℕ) (honest up : Bool) (x y : TxState) (rows : List (SeenRow Call)) (m : Step) → entered m x.world.calls ≡ x.world.calls → IsReplyRight (plans_of s) (has_object s k) m → (IsTrue honest → finds_full m ≡ false) → is_restarting m ≡ false
    → y.transaction ≡ x.transaction → y.world ≡ turned up (number_of x.transaction) x.world m → IsKept s k honest x rows → IsKept s k honest y rows
kept_step s k honest up x y rows m none q room other t w kept = kept_tied s k honest up x y rows m none q room (λ is. sound_step up x y m other w) t w kept

-- and after a call that the script gives, with its row one further.
pub kept_call : (s : List Line) (k : ℕ) (honest up : Bool) (x y : TxState) (rows rows' : List (SeenRow Call)) (n : ℕ) (a : ActorNo) (c : Call) (m : ℕ) → IsCallOf s (number_of x.transaction) n a c
    → IsPrefix s (number_of x.transaction) rows' (record { line = n; actor = a; call = c } ∷ x.world.calls) → y.transaction ≡ x.transaction → y.world ≡ turned up (number_of x.transaction) x.world (Calls n a c m) → IsKept s k honest x rows → IsKept s k honest y rows'
kept_call s k honest up x y rows rows' n a c m mine prefix t w kept =
    let here : EnteredCall = record { line = n; actor = a; call = c } in
    let calls : y.world.calls ≡ here ∷ x.world.calls = ap (λ (v : World). v.calls) w ∙ turned_calls up (number_of x.transaction) x.world (Calls n a c m) in
    record {
      script = kept.script;
      first = ap (λ (u : TxId). u.epoch) t ∙ kept.first;
      named = subst (λ (u : TxId). is_made s (OfTransaction (number_of u)) ≡ true) (sym t) kept.named;
      given = λ j b d i. subst (λ (u : TxId). IsCallOf s (number_of u) j b d) (sym t)
          (given_more s (number_of x.transaction) here x.world.calls mine kept.given j b d (subst (λ ks. IsIn ks j b d) calls i));
      in_order = subst (λ (u : TxId). IsPrefix s (number_of u) rows' y.world.calls) (sym t) (subst (IsPrefix s (number_of x.transaction) rows') (sym calls) prefix);
      planned = subst (λ (v : World). always (is_as_planned (plans_of s) (has_object s k)) v.past ≡ true) (sym w) (turned_right s k up (number_of x.transaction) x.world (Calls n a c m) tt kept.planned);
      sound = λ is. sound_step up x y (Calls n a c m) refl w (kept.sound is);
      unfilled = λ is. unfilled_step up x y (Calls n a c m) refl w (kept.unfilled is);
    }

-- A step that sends no BEGIN is done in the same way whether the log is up or not.
pub turned_silent : (t : ℕ) (w : World) (m : Step) → after t w m ≡ turned true t w m
turned_silent t w m = by (sends_begin t w m)
  where
    by : (b : Bool) → after t w m ≡ (if b && not true then after t (after t w m) Stops else after t w m)
    by true = refl
    by false = refl

-- A script without `do` lines gives no `do`: so a call that doesn't wait may answer.
no_do_line : (s : List Line) (n : ℕ) (l : Line) → has (λ (x : Line). is_do_line x.body) s ≡ false → kth s n ≡ Some l → is_do_line l.body ≡ false
no_do_line s zero l f e = absurd cc
no_do_line [] (suc k) l f e = absurd cc
no_do_line (x ∷ s) (suc zero) l f e = let same : x ≡ l = cc in subst (λ (y : Line). is_do_line y.body ≡ false) same (first (is_do_line x.body) (has (λ (y : Line). is_do_line y.body) s) f)
  where
    first : (a b : Bool) → (a || b) ≡ false → a ≡ false
    first true b k = absurd cc
    first false b k = refl
no_do_line (x ∷ s) (suc (suc k)) l f e = no_do_line s (suc k) l (rest (is_do_line x.body) (has (λ (y : Line). is_do_line y.body) s) f) e
  where
    rest : (a b : Bool) → (a || b) ≡ false → b ≡ false
    rest true b k = absurd cc
    rest false b k = k

-- a line that gives a `do` is one
abbrev gives_do : Option (TxNo × Call) → Bool
gives_do (Some x) = is_do x.1
gives_do None = false

do_line : (s : List Line) (b : Body) → gives_do (call_of s b) ≡ true → is_do_line b ≡ true
do_line s (DoLine v i j) e = refl
do_line s (CompleteLine c) e = by (transaction_of s c.value) e
  where
    by : (o : Option TxNo) → gives_do (complete_call c o) ≡ true → false ≡ true
    by (Some v) f = f
    by None f = f
do_line s (GoneLine x) e = by (transaction_with s x.value) e
  where
    by : (o : Option TxNo) → gives_do (gone_call x o) ≡ true → false ≡ true
    by (Some v) f = f
    by None f = f
do_line s (ReenlistLine x) e = by (transaction_with s x.value) e
  where
    by : (o : Option TxNo) → gives_do (reenlist_call x o) ≡ true → false ≡ true
    by (Some v) f = f
    by None f = f
do_line s _ e = e

never_do : (s : List Line) (t n : ℕ) (a : ActorNo) (u : TxNo) (k m : ℕ) → IsThreadable s → IsCallOf s t n a (Do u k m) → ⊥
never_do s t n a u k m script g =
    elim (given_call s (lines_before s n) g.line g.place (g.name, Do u k m) g.gives) [
      | inl own ↦ let yes = do_line s g.line.body (ap gives_do own) in let no = no_do_line s n g.line script.free_of_do g.stands in cc
      | inr scope ↦ cc
    ]

-- A line that is neither a durable nor a marshal gives a call that needs no log.
abbrev gives_alone : Option (TxNo × Call) → Bool
gives_alone (Some x) = is_alone x.1
gives_alone None = true

alone_line : (s : List Line) (b : Body) → is_promoting_line b ≡ false → is_do_line b ≡ false → gives_alone (call_of s b) ≡ true
alone_line s (DoLine v i j) p q = absurd cc
alone_line s (DurableLine t e r x) p q = absurd cc
alone_line s (MarshalLine t) p q = absurd cc
alone_line s (CompleteLine c) p q = by (transaction_of s c.value)
  where
    by : (o : Option TxNo) → gives_alone (complete_call c o) ≡ true
    by (Some v) = refl
    by None = refl
alone_line s (GoneLine x) p q = by (transaction_with s x.value)
  where
    by : (o : Option TxNo) → gives_alone (gone_call x o) ≡ true
    by (Some v) = refl
    by None = refl
alone_line s (ReenlistLine x) p q = by (transaction_with s x.value)
  where
    by : (o : Option TxNo) → gives_alone (reenlist_call x o) ≡ true
    by (Some v) = refl
    by None = refl
alone_line s b p q = refl

alone_scope : (c : Call) → is_scope_call c ≡ true → is_alone c ≡ true
alone_scope (Durable t e r x) k = absurd cc
alone_scope (Marshal t) k = absurd cc
alone_scope (Do t k n) q = absurd cc
alone_scope c k = refl

pub alone_given : (s : List Line) (t n : ℕ) (a : ActorNo) (c : Call) → IsThreadable s → IsCallOf s t n a c → may_promote_at s n ≡ false → is_alone c ≡ true
alone_given s t n a c script g f =
    elim (given_call s (lines_before s n) g.line g.place (g.name, c) g.gives) [
      | inl own ↦
          ap gives_alone (sym own)
          ∙ alone_line s g.line.body (ap is_promoting (sym g.stands) ∙ f) (no_do_line s n g.line script.free_of_do g.stands)
      | inr scope ↦ alone_scope c scope
    ]

pub may_answer : (s : List Line) (t n : ℕ) (a : ActorNo) (c : Call) (v : ℕ) (w : World) → IsThreadable s → IsCallOf s t n a c → must_wait w c ≡ false → MayAnswer v w c 0
may_answer s t n a (Do u k m) v w script g q = absurd (never_do s t n a u k m script g)
may_answer s t n a (Await u) v w script g q = by (is_some (half w).seen.told_client || is_empty (pending w)) q
  where
    by : (b : Bool) → not b ≡ false → b ≡ true
    by true k = refl
    by false k = absurd cc
may_answer s t n a c v w script g q = tt

-- what isn't put off, doesn't wait
pub unput : (w : World) (n : ℕ) (c : Call) → put_off w n (Some (record { line = n; call = c })) ≡ None → must_wait w c ≡ false
unput w n c e = by (n == n) (eq_self n) (must_wait w c) e
  where
    by : (b : Bool) → b ≡ true → (q : Bool) → (if b then later_if q else Some (NotNext n)) ≡ None → q ≡ false
    by true k true f = absurd cc
    by true k false f = refl
    by false k q f = absurd cc

-- the call that isn't put off is next, and may be entered
pub next_may : (s : List Line) (k : ℕ) (honest : Bool) (x : TxState) (rows : List (SeenRow Call)) (a : ActorNo) (n : ℕ) (c : Call) → IsKept s k honest x rows → next_in (row_at a rows) ≡ Some (record { line = n; call = c })
    → may_enter x.world n c ≡ true
next_may s k honest x rows a n c kept next =
    let d : Due Call = record { line = n; call = c } in
    let no_line = next_line_new s (number_of x.transaction) rows x.world.calls a d kept.in_order next in
    let no_maker = next_name_new s (number_of x.transaction) rows x.world.calls a d (is_maker (made_by c)) kept.script.script.named kept.in_order next (same_made (made_by c)) in
    rw (no_line, no_maker) refl
