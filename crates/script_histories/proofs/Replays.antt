-- What a replay does, stops of the log and restarts included, is caused by its script in each transaction and follows the log, has each line's call once and in order, and makes each
-- name anew.
use Rattle.std.proofs.Common.{◌≡◌, ℕ, suc, ◌+◌, ◌-◌, Bool, true, false, List, [], ◌∷◌, ◌++◌, length, take, Option, Some, None, inl}
use Rattle.std.proofs.Common.{refl, arith, append-nil, ◌∙◌, ap, sym, subst}
use Rattle.std.specs.List.{slice_get}
use Rattle.dtx_values.specs.declared.number.ActorNo.{ActorNo}
use Rattle.dtx_values.specs.declared.number.TxNo.{TxNo}
use Rattle.dtx_values.specs.declared.call.Call.{Call}
use Rattle.dtx_values.specs.declared.call.Call.TheVariants.{Await, Do}
use Rattle.dtx_values.specs.declared.entry.Answer.TheVariants.{Fine}
use Rattle.dtx_values.specs.declared.entry.Entry.{Entry}
use Rattle.dtx_values.specs.declared.entry.Entry.TheVariants.{Called, LogWord}
use Rattle.dtx_values.specs.declared.entry.LogNote.TheVariants.{Armed}
use Rattle.dtx_values.specs.declared.scope.OpenScope.{OpenScope}
use Rattle.dtx_values.specs.declared.script.Body.{Body}
use Rattle.dtx_values.specs.declared.script.Body.TheVariants.{Stop, Restart}
use Rattle.dtx_values.specs.declared.script.Line.{Line}
use Rattle.dtx_model.specs.Words.{always, has, kth, onto, past_of, put}
use Rattle.dtx_model.specs.Entries.{is_call}
use Rattle.dtx_model.specs.Observed.{observe}
use Rattle.dtx_model.specs.Calls.{call_of}
use Rattle.dtx_model.specs.declared.waiting.EnteredCall.{EnteredCall}
use Rattle.dtx_model.specs.World.{World}
use Rattle.dtx_model.specs.Steps.{Step, Calls}
use Rattle.dtx_model.specs.Contexts.{scope_calls, scopes_of, scope_block, context, lines_before, calls_by}
use Rattle.dtx_model.specs.Caused.{IsCallOf, is_new, CausedBy, MayAnswer, is_as_planned, plans_of}
use Rattle.dtx_model.specs.Grammar.{are_named_well}
use Rattle.dtx_model.specs.Traces.{Placed, history, at_context, noted, calls}
use Rattle.dtx_model.specs.AtLog.{follow_log}
use Rattle.dtx_model.specs.Replay.{CallRan, IsReplayed, LineRan, LinesRan, RoundsRan, StepsRan, after_calls, after_scope, after_turn, at_the_log, block_in, due_calls}
use Rattle.dtx_model.proofs.Histories.{history-other}
use Rattle.history_table.proofs.Lists.{OfEach, of-all, of-at, of-more}
use Rattle.script_histories.proofs.MoreLists.{of-both}
use Rattle.history_table.proofs.ScopeCalls.{IsScopeCall, is_scope_call, scope_calls_plain}
use Rattle.script_histories.proofs.ScopesApart.{IsBeside, AreApart, scope_calls_apart}
use Rattle.script_histories.proofs.FollowingLog.{follows_all, none_follows}
use Rattle.script_histories.proofs.ReplayTurns.{world_with}
use Rattle.script_histories.proofs.ReplayRuns.{IsRunWith, pending_script}
use Rattle.script_histories.proofs.ReplayedCalls.{has_called, lines_called, lines_noted, lines_uncalled, noted_uncalled, own_uncalled, quiet_rounds, quiet_steps, quiet_turn}
use Rattle.script_histories.proofs.ReplayedSteps.{IsGood, noted_good, restart_good, step_turn, steps_turn, there_good, turn}
use Rattle.script_histories.proofs.ReplayNew.{call_new}
use Rattle.history_table.proofs.Names.{script_once}

-- a call as scope lines give it may answer wherever it comes
scope_call_may : (t : ℕ) (w : World) (c : Call) → is_scope_call c ≡ true → MayAnswer t w c 0
scope_call_may t w (Do u k n) e = absurd cc
scope_call_may t w (Await u) e = absurd cc
scope_call_may t w _ e = tt

-- line n, which is l, gives a transaction this call
abbrev IsGiven : List Line → ℕ → Line → TxNo × Call → Type 0
IsGiven s n l c = (place : ℕ) × (slice_get (calls_by s (lines_before s n) l) place ≡ Some c)

-- so the call is one of its transaction
given_of : (s : List Line) (l : Line) (n : ℕ) (c : TxNo × Call) → kth s n ≡ Some l → IsGiven s n l c → IsCallOf s c.0.value n l.actor c.1
given_of s l n c stands given = record { line = l; stands = stands; by_actor = refl; name = c.0; place = given.0; gives = given.1; at_t = refl }

-- A good trace: each transaction's history is freely caused, and follows the log. A call that line n gives and that doesn't stand yet leaves it good, where it may answer,
given_good : (s : List Line) (l : Line) (n : ℕ) (c : TxNo × Call) (d : ℕ) (T : List Placed) (ks : List EnteredCall) → kth s n ≡ Some l → IsGiven s n l c → has (is_call n) (history c.0.value T) ≡ false
    → IsRunWith s ks c.0 T → MayAnswer c.0.value (world_with ks c.0 T) c.1 d → IsGood s T
    → IsGood s (after_turn s c.0 (Calls n l.actor c.1 d) T)
given_good s l n c d T ks stands given new run may good = (turn s ks c.0 (Calls n l.actor c.1 d) T good run (given_of s l n c stands given, new, may) (inl refl)).good

-- and so does a call by its own words
call_good : (s : List Line) (l : Line) (n : ℕ) (c : TxNo × Call) (start T : List Placed) → kth s n ≡ Some l → IsGiven s n l c → has (is_call n) (history c.0.value start) ≡ false
    → IsGood s start → CallRan s l.actor n (Some c) start T → IsGood s T
call_good s l n c start T stands given new good r =
    let ran = has_called s l.actor n c.0 c.1 start T r in
    let first = good.free c.0 in
    let steps = steps_turn s first.0 c.0 ran.place ran.count start ran.before good first.1 ran.steps in
    let still : has (is_call n) (history c.0.value ran.before) ≡ false = (quiet_steps s c.0 ran.place ran.count start ran.before ran.steps).uncalled n c.0.value ∙ new in
    subst (IsGood s) (sym ran.ends)
    (given_good s l n c ran.done ran.before first.0 stands given still steps.run (ran.may first.0 steps.stepped (pending_script s first.0 c.0 ran.before steps.run)) steps.good)

-- the call doesn't stand yet at the transaction
abbrev IsUncalled : ℕ → List Placed → TxNo × Call → Type 0
IsUncalled n T c = has (is_call n) (history c.0.value T) ≡ false

-- a call leaves the transactions of the others without it
beside_uncalled : (s : List Line) (n : ℕ) (a : ActorNo) (c d : TxNo × Call) (T : List Placed) → IsBeside c.0 d → IsUncalled n T d → IsUncalled n (after_turn s c.0 (Calls n a c.1 0) T) d
beside_uncalled s n a c d T apart new =
    (quiet_turn s c.0 (Calls n a c.1 0) T).uncalled n d.0.value ∙ ap (λ h. has (is_call n) h) (history-other d.0.value c.0 T (block_in s c.0 (Calls n a c.1 0) T) apart) ∙ new

others_uncalled : (s : List Line) (n : ℕ) (a : ActorNo) (c : TxNo × Call) (cs : List (TxNo × Call)) (T : List Placed) → OfEach (IsBeside c.0) cs → OfEach (IsUncalled n T) cs
    → OfEach (IsUncalled n (after_turn s c.0 (Calls n a c.1 0) T)) cs
others_uncalled s n a c cs T apart new =
    of-more (λ d. IsBeside c.0 d × IsUncalled n T d) (IsUncalled n (after_turn s c.0 (Calls n a c.1 0) T))
    (λ d h. beside_uncalled s n a c d T h.0 h.1) cs (of-both (IsBeside c.0) (IsUncalled n T) cs apart new)

-- the calls of a scope line leave the trace good
calls_good : (s : List Line) (l : Line) (n : ℕ) (cs : List (TxNo × Call)) (T : List Placed) → kth s n ≡ Some l → OfEach (IsGiven s n l) cs → OfEach IsScopeCall cs → AreApart cs
    → OfEach (IsUncalled n T) cs → IsGood s T → IsGood s (after_calls s n l.actor cs T)
calls_good s l n [] T stands given plain apart new good = good
calls_good s l n (c ∷ cs) T stands given plain apart new good =
    let own = good.free c.0 in
    calls_good s l n cs (after_turn s c.0 (Calls n l.actor c.1 0) T) stands given.1 plain.1 apart.1 (others_uncalled s n l.actor c cs T apart.0 new.1)
    (given_good s l n c 0 T own.0 stands given.0 new.0 own.1 (scope_call_may c.0.value (world_with own.0 c.0 T) c.1 plain.0) good)

-- each of some items stands at a place
of-places : {A : Type 0} → (xs : List A) → OfEach (λ x. (k : ℕ) × (slice_get xs k ≡ Some x)) xs
of-places [] = tt
of-places (x ∷ xs) = (
  (0, refl),
  of-more (λ y. (k : ℕ) × (slice_get xs k ≡ Some y)) (λ y. (k : ℕ) × (slice_get (x ∷ xs) k ≡ Some y)) (λ y h. (suc h.0, h.1)) xs (of-places xs),
)

-- and also where one is put in front
of-put : {A : Type 0} (o : Option A) (xs : List A) → OfEach (λ x. (k : ℕ) × (slice_get (put o xs) k ≡ Some x)) xs
of-put None xs = of-places xs
of-put (Some x) xs = (of-places (x ∷ xs)).1

-- a line gives each of its calls as a scope line
scope_given : (s before : List Line) (l : Line) (n : ℕ) → lines_before s n ≡ before → OfEach (IsGiven s n l) (scope_calls l.body (scopes_of l.actor.value before))
scope_given s before l n found =
    subst (λ b. OfEach (IsGiven s n l) (scope_calls l.body (scopes_of l.actor.value b))) found
    (of-put (call_of s l.body) (scope_calls l.body (scopes_of l.actor.value (lines_before s n))))

-- a line gives the call by its own words
own_given : (s : List Line) (l : Line) (n : ℕ) (c : TxNo × Call) → call_of s l.body ≡ Some c → IsGiven s n l c
own_given s l n c e = (0, ap (λ o. slice_get (put o (scope_calls l.body (scopes_of l.actor.value (lines_before s n)))) 0) e)

-- so a line's call by its own words is one of its transaction, and so is each that it gives as a scope line
pub own_call_of : (s : List Line) (l : Line) (n : ℕ) (t : TxNo) (c : Call) → kth s n ≡ Some l → call_of s l.body ≡ Some (t, c) → IsCallOf s t.value n l.actor c
own_call_of s l n t c stands e = given_of s l n (t, c) stands (own_given s l n (t, c) e)

pub scope_call_of : (s before : List Line) (l : Line) (n k : ℕ) (t : TxNo) (c : Call) → kth s n ≡ Some l → lines_before s n ≡ before → slice_get (scope_calls l.body (scopes_of l.actor.value before)) k ≡ Some (t, c)
    → IsCallOf s t.value n l.actor c
scope_call_of s before l n k t c stands found e =
    given_of s l n (t, c) stands (of-at (IsGiven s n l) (scope_calls l.body (scopes_of l.actor.value before)) k (t, c) (scope_given s before l n found) e)

-- what a scope line writes leaves the trace good, where its calls don't stand yet
pub scope_good : (s before : List Line) (l : Line) (n : ℕ) (start : List Placed) → kth s n ≡ Some l → lines_before s n ≡ before → ((u : ℕ) → has (is_call n) (history u start) ≡ false)
    → IsGood s start → IsGood s (after_scope s n l (scopes_of l.actor.value before) start)
scope_good s before l n start stands found new good =
    let xs : List OpenScope = scopes_of l.actor.value before in
    let es : List Entry = scope_block n l.actor l.body xs in
    calls_good s l n (scope_calls l.body xs) (onto start (noted l.actor es)) stands (scope_given s before l n found) (scope_calls_plain l.body xs) (scope_calls_apart l.body xs)
    (of-all (IsUncalled n (onto start (noted l.actor es))) (λ c. noted_uncalled n c.0.value l.actor es start ∙ new c.0.value) (scope_calls l.body xs))
    (noted_good s l.actor es start good)

-- what a line does after that leaves it good
pub words_good : (s : List Line) (l : Line) (n : ℕ) (o : Option (TxNo × Call)) (start T : List Placed) → kth s n ≡ Some l → call_of s l.body ≡ o
    → ((c : TxNo × Call) → o ≡ Some c → has (is_call n) (history c.0.value start) ≡ false) → IsGood s start → CallRan s l.actor n o start T → IsGood s T
words_good s l n None start T stands e new good r = subst (IsGood s) (sym r) good
words_good s l n (Some c) start T stands e new good r = call_good s l n c start T stands (own_given s l n c e) (new c refl) good r

-- what a line does leaves it good, where no call of it stands yet
pub line_good : (s before : List Line) (a : ActorNo) (b : Body) (start T : List Placed) → kth s (suc (length before)) ≡ Some (record { actor = a; body = b }) → lines_before s (suc (length before)) ≡ before
    → ((u : ℕ) → has (is_call (suc (length before))) (history u start) ≡ false) → IsGood s start → LineRan s before (record { actor = a; body = b }) start T → IsGood s T
line_good s before a (Stop k i) start T stands found new good r =
    let n : ℕ = suc (length before) in
    let called = at_the_log (Called n a Fine) start in
    subst (IsGood s) (sym r) (there_good s (LogWord (Armed k i)) called refl (there_good s (Called n a Fine) start refl good))
line_good s before a Restart start T stands found new good r = subst (IsGood s) (sym r.1) (restart_good s (suc (length before)) a r.0 start good)
line_good s before a b start T stands found new good r =
    let n : ℕ = suc (length before) in
    let l : Line = record { actor = a; body = b } in
    let xs : List OpenScope = scopes_of a.value before in
    words_good s l n (call_of s b) (after_scope s n l xs start) T stands refl
    (λ c e. own_uncalled s l n c.0.value c xs start e ∙ new c.0.value) (scope_good s before l n start stands found new good) r

-- read newest first and put back before others, a list is as it was
pub onto-onto : {A : Type 0} → (h xs ys : List A) → onto ys (onto h xs) ≡ onto (xs ++ ys) h
onto-onto h [] ys = refl
onto-onto h (x ∷ xs) ys = onto-onto (x ∷ h) xs ys

-- the places after a block
slice_get-onto : (bs xs : List Line) (k : ℕ) → slice_get (onto xs bs) (length bs + k) ≡ slice_get xs k
slice_get-onto [] xs k = let same : length {A = Line} [] + k ≡ k = omega arith in rw same refl
slice_get-onto (b ∷ bs) xs k =
    let shift : length (b ∷ bs) + k ≡ length bs + suc k = omega arith in rw shift (slice_get-onto bs (b ∷ xs) (suc k))

-- the line after those before it
line-onto : (before rest : List Line) (l : Line) → kth (onto (l ∷ rest) before) (suc (length before)) ≡ Some l
line-onto before rest l =
    let none : length before ≡ length before + 0 = omega arith in
    let found : slice_get (onto (l ∷ rest) before) (length before + 0) ≡ Some l = slice_get-onto before (l ∷ rest) 0 in
    ap (λ n. slice_get (onto (l ∷ rest) before) n) none ∙ found

-- the lines before a block after those
take-onto : (bs xs : List Line) (k : ℕ) → take (length bs + k) (onto xs bs) ≡ onto (take k xs) bs
take-onto [] xs k = let same : length {A = Line} [] + k ≡ k = omega arith in rw same refl
take-onto (b ∷ bs) xs k =
    let shift : length (b ∷ bs) + k ≡ length bs + suc k = omega arith in rw shift (take-onto bs (b ∷ xs) (suc k))

-- the lines before the line after them
before-onto : (before rest : List Line) (l : Line) → lines_before (onto (l ∷ rest) before) (suc (length before)) ≡ before
before-onto before rest l =
    let none : suc (length before) - 1 ≡ length before + 0 = omega arith in
    ap (λ k. past_of (take k (onto (l ∷ rest) before))) none ∙ ap (λ xs. past_of xs) (take-onto before (l ∷ rest) 0) ∙ onto-onto [] before [] ∙ append-nil before

-- what the lines did is a good trace
pub lines_good : (s bs rest : List Line) (T : List Placed) → s ≡ onto rest bs → LinesRan s bs T → IsGood s T
lines_good s [] rest T e r = subst (IsGood s) (sym r) (record { free = λ u. ([], ([], (refl, refl))); follows = none_follows })
lines_good s (l ∷ before) rest T e r =
    let n = suc (length before) in
    line_good s before l.actor l.body r.0 T (ap (λ s. kth s n) e ∙ line-onto before rest l) (ap (λ s. lines_before s n) e ∙ before-onto before rest l)
    (λ u. lines_uncalled s before r.0 r.1 n (omega arith) u) (lines_good s before (l ∷ rest) r.0 e r.1) r.2

-- and the rounds leave it good
pub rounds_good : (s : List Line) (start : List Placed) (turns : List (TxNo × Step)) (T : List Placed) → IsGood s start → RoundsRan s start turns T → IsGood s T
rounds_good s start [] T good r = subst (IsGood s) (sym r) good
rounds_good s start (x ∷ xs) T good r =
    let ih = rounds_good s start xs r.0 good r.1 in
    let own = ih.free x.0 in
    subst (IsGood s) (sym r.3) (step_turn s own.0 x.0 1 r.2.name x.1 r.0 ih own.1 (ap (λ ns. slice_get ns 0) r.2.first) r.2.named r.2.in_replay).good

-- so a replay is good,
pub replayed_good : (s : List Line) (T : List Placed) → IsReplayed s T → IsGood s T
replayed_good s T r =
    rounds_good s r.by_lines r.turns T (lines_good s (past_of s) [] r.by_lines (sym (append-nil s) ∙ sym (onto-onto [] s [])) r.lines) r.rounds

-- caused, where its replies are as planned,
pub replayed_caused : (s : List Line) (T : List Placed) → IsReplayed s T → (free : ℕ → Bool) → ((t : TxNo) → always (is_as_planned (plans_of s) free) (history t.value T) ≡ true)
    → (t : TxNo) → CausedBy s free t.value (history t.value T)
replayed_caused s T r free planned t = record { freely = (replayed_good s T r).free t; planned = planned t }

-- and follows its log
pub replayed_followed : (s : List Line) (T : List Placed) → IsReplayed s T → follow_log T ≡ true
replayed_followed s T r = follows_all T (replayed_good s T r).follows

-- a replay has each line's call once and in order
pub replayed_called : (s : List Line) (T : List Placed) → IsReplayed s T → calls T ≡ due_calls s (past_of s)
replayed_called s T r = (quiet_rounds s r.by_lines r.turns T r.rounds).counted ∙ lines_called s (past_of s) r.by_lines r.lines

-- a replay writes at each context what its actor's lines write there
pub replayed_noted : (s : List Line) (T : List Placed) → IsReplayed s T → (a : ActorNo) → at_context a.value T ≡ context a.value (past_of s)
replayed_noted s T r a = (quiet_rounds s r.by_lines r.turns T r.rounds).beside a.value ∙ lines_noted s (past_of s) r.by_lines r.lines a.value

-- the lines behind others are so many more
pub length-onto : (h xs : List Line) → length (onto h xs) ≡ length xs + length h
length-onto h [] = omega arith
length-onto h (x ∷ xs) = length-onto (x ∷ h) xs ∙ omega arith

-- the line after those that ran was called nowhere
pub line_new : (s xs ys : List Line) (l : Line) (T : List Placed) → s ≡ xs ++ l ∷ ys → LinesRan s (past_of xs) T → (t : TxNo)
    → has (is_call (suc (length xs))) (history t.value T) ≡ false
line_new s xs ys l T e ran t =
    let many : length (past_of xs) ≡ length xs + length {A = Line} [] = length-onto [] xs in
    lines_uncalled s (past_of xs) T ran (suc (length xs)) (omega arith) t.value

-- nor is it where its calls come: a scope line's call at its transaction after the calls of the same line before it,
pub scope_call_new : (s : List Line) (n : ℕ) (a : ActorNo) (cs ds : List (TxNo × Call)) (c : TxNo × Call) (T : List Placed) → AreApart (cs ++ c ∷ ds) → ((t : TxNo) → has (is_call n) (history t.value T) ≡ false)
    → has (is_call n) (history c.0.value (after_calls s n a cs T)) ≡ false
scope_call_new s n a cs ds c T apart new = others cs T apart (new c.0)
  where
    beside : (d : TxNo × Call) (cs : List (TxNo × Call)) → OfEach (IsBeside d.0) (cs ++ c ∷ ds) → IsBeside d.0 c
    beside d [] h = h.0
    beside d (e ∷ cs) h = beside d cs h.1

    others : (cs : List (TxNo × Call)) (T : List Placed) → AreApart (cs ++ c ∷ ds) → has (is_call n) (history c.0.value T) ≡ false → has (is_call n) (history c.0.value (after_calls s n a cs T)) ≡ false
    others [] T apart new = new
    others (d ∷ cs) T apart new = others cs (after_turn s d.0 (Calls n a d.1 0) T) apart.1 (beside_uncalled s n a d c T (beside d cs apart.0) new)

-- and a call by a line's own words after the steps that it does first
pub own_call_new : (s : List Line) (n : ℕ) (t : TxNo) (k m : ℕ) (start T : List Placed) → StepsRan s t k m start T → (u : TxNo) → has (is_call n) (history u.value start) ≡ false
    → has (is_call n) (history u.value T) ≡ false
own_call_new s n t k m start T r u new = (quiet_steps s t k m start T r).uncalled n u.value ∙ new

-- what is written at a context changes none of that
pub noted_new : (n : ℕ) (t : TxNo) (a : ActorNo) (es : List Entry) (T : List Placed) → has (is_call n) (history t.value T) ≡ false → has (is_call n) (history t.value (onto T (noted a es))) ≡ false
noted_new n t a es T new = noted_uncalled n t.value a es T ∙ new

-- what a line's call makes is new where the lines before it ran
pub ran_new : (s xs ys : List Line) (l : Line) (T : List Placed) (t : TxNo) (c : Call) → s ≡ xs ++ l ∷ ys → are_named_well s ≡ true → LinesRan s (past_of xs) T
    → call_of s l.body ≡ Some (t, c) → is_new (observe (history t.value T)) c ≡ true
ran_new s xs ys l T t c e w ran g =
    let n = suc (length (past_of xs)) in
    let whole : s ≡ onto (l ∷ ys) (past_of xs) = e ∙ sym (onto-onto [] xs (l ∷ ys)) in
    let stands : kth s n ≡ Some l = ap (λ s. kth s n) whole ∙ line-onto (past_of xs) ys l in
    let free = (lines_good s (past_of xs) (l ∷ ys) T whole ran).free t in
    call_new (IsCallOf s t.value) t.value (world_with free.0 t T) n l.actor c (script_once s t.value w) free.1
    (own_call_of s l n t c stands g) (lines_uncalled s (past_of xs) T ran n (omega arith) t.value)
