-- The records of the log after a replay are those of the script's transactions.
use Rattle.std.proofs.Common.{◌≡◌, ℕ, zero, suc, ◌+◌, ◌-◌, ◌<◌, ◌≤◌, ◌⊎◌, inl, inr, Bool, true, false, ◌||◌, List, [], ◌∷◌, ◌++◌, filter, length, take, Option, Some, None, arith, refl, ap, sym, ◌∙◌, subst}
use Rattle.std.specs.List.{range_with_len}
use Rattle.std.specs.Prelude.{◌==◌, slice_get, if◌then◌else◌}
use Rattle.std.proofs.lemmas.Bool.{or_right}
use Rattle.std.proofs.lemmas.Bool.Decides.{nat_tests}
use Rattle.dtx_values.specs.declared.call.Call.{Call}
use Rattle.dtx_values.specs.declared.entry.Entry.{Entry}
use Rattle.dtx_values.specs.declared.note.Note.{Note}
use Rattle.dtx_values.specs.declared.number.ActorNo.{ActorNo}
use Rattle.dtx_values.specs.declared.number.TxNo.{TxNo}
use Rattle.dtx_values.specs.declared.script.Line.{Line}
use Rattle.dtx_model.specs.declared.waiting.EnteredCall.{EnteredCall}
use Rattle.dtx_model.specs.Acts.{act_entries}
use Rattle.dtx_model.specs.AtLog.{is_known}
use Rattle.dtx_model.specs.Caused.{FreelyCaused, IsCallOf, MayCome, Ran, is_begin_sent}
use Rattle.dtx_model.specs.Contexts.{calls_by, lines_before}
use Rattle.dtx_model.specs.Coordinated.{coordinate, may_free, may_log}
use Rattle.dtx_model.specs.Grammar.{IsScript, OfTransaction, is_made}
use Rattle.dtx_model.specs.Log.{CommitRecord, is_record_of}
use Rattle.dtx_model.specs.Observed.{observe}
use Rattle.dtx_model.specs.Promotes.{identifier_of}
use Rattle.dtx_model.specs.Steps.{Step, Acts, Calls, Coordinates, Delivers, Replies, Restarts, Stops}
use Rattle.dtx_model.specs.Traces.{Placed, history}
use Rattle.dtx_model.specs.Words.{all_of, each, has, kth, onto, past_of, put}
use Rattle.dtx_model.specs.Replies.{due_of}
use Rattle.dtx_model.specs.World.{World, half}
use Rattle.dtx_model.proofs.Bools.{and_both, and_left, and_right}
use Rattle.history_table.proofs.Tests.{eq_self}
use Rattle.script_calls.specs.Due.{calls_at, due_at, due_by_line, given_by}
use Rattle.script_calls.specs.declared.rows.Due.{Due}
use Rattle.tx_cells.specs.Board.{transactions_of}
use Rattle.tx_cells.specs.LogCell.{AreOwn, is_own}
use Rattle.turn_parts.specs.Runs.{EachHolds}
use Rattle.thread_runs.specs.Run.{EndsOnThreads}
use Rattle.replay_runs.specs.Ending.{AreOwnLogs, IsLogOf, MayBeRecorded}

-- Records of a run's transactions are of a script's transactions: a number among those that pass lies in the range.
abbrev InRange : (p : ℕ → Bool) (n a : ℕ) → Type 0
InRange p n a = (t : ℕ) × (a ≤ t) × (t < a + n) × (p t ≡ true)

within : (p : ℕ → Bool) (n a : ℕ) → InRange p n (a + 1) → InRange p (suc n) a
within p n a (t, low, high, is) = (t, omega (arith, low), omega (arith, high), is)

among : (p q : ℕ → Bool) (n a : ℕ) → has p (filter q (range_with_len a n)) ≡ true → InRange p n a
among p q zero a h = absurd cc
among p q (suc n) a h = by (λ k. within p n a (among p q n (a + 1) k)) (q a) h
  where
    first : (has p (filter q (range_with_len (a + 1) n)) ≡ true → InRange p (suc n) a) → (b : Bool) → p a ≡ b → (b || has p (filter q (range_with_len (a + 1) n))) ≡ true → InRange p (suc n) a
    first later true e k = (a, omega arith, omega arith, e)
    first later false e k = later k

    by : (has p (filter q (range_with_len (a + 1) n)) ≡ true → InRange p (suc n) a) → (b : Bool) → has p (if b then a ∷ filter q (range_with_len (a + 1) n) else filter q (range_with_len (a + 1) n)) ≡ true → InRange p (suc n) a
    by later true k = first later (p a) refl k
    by later false k = later k

owner_in : (s : List Line) (r : CommitRecord) → InRange (λ t. r.id == identifier_of t) 256 1 → (t : TxNo) × (identifier_of t.value ≡ r.id)
owner_in s r (t, low, high, is) = (record { value = t; in_range = (low, omega (arith, high)) }, grind (arith, nat_tests))

owner_of : (s : List Line) (r : CommitRecord) → is_own s r ≡ true → (t : TxNo) × (identifier_of t.value ≡ r.id)
unfolding transactions_of
owner_of s r own = owner_in s r (among (λ t. r.id == identifier_of t) (λ n. is_made s (OfTransaction n)) 256 1 own)

none_foreign : (s : List Line) (id : ℕ) → ((t : TxNo) → identifier_of t.value ≡ id → ⊥) → (rs : List CommitRecord) → each (is_own s) rs ≡ true → filter (is_record_of id) rs ≡ []
none_foreign s id out [] k = refl
none_foreign s id out (r ∷ rs) k = by (none_foreign s id out rs (and_right (is_own s r) (each (is_own s) rs) k)) (is_record_of id r) refl
  where
    by : filter (is_record_of id) rs ≡ [] → (b : Bool) → is_record_of id r ≡ b → (if b then r ∷ filter (is_record_of id) rs else filter (is_record_of id) rs) ≡ []
    by rest true e = let x = owner_of s r (and_left (is_own s r) (each (is_own s) rs) k) in let same : r.id ≡ id = grind (arith, nat_tests) in absurd (out x.0 (x.1 ∙ same))
    by rest false e = rest

-- So a log that has only the run's transactions has only a script's.
pub own_logs_of : (s : List Line) (image : List ℕ → Type 0) → EachHolds image (AreOwn s) → AreOwnLogs image
own_logs_of s image h c i = let k = h c i in (k.0, k.1, λ id out. none_foreign s id out k.0 k.2.own)

-- A transaction of which the coordinator knows has a call, and a line makes it.
append_left : {A : Type 0} (xs ys : List A) → xs ++ ys ≡ [] → xs ≡ []
append_left [] ys e = refl
append_left (x ∷ xs) ys e = absurd cc

append_right : {A : Type 0} (xs ys : List A) → xs ++ ys ≡ [] → ys ≡ []
append_right [] ys e = e
append_right (x ∷ xs) ys e = absurd cc

back : {D : Type 0} (f : List Line → Line → List D) (base rest : List Line) → given_by f (onto base rest) ≡ [] → given_by f base ≡ []
back f base [] e = e
back f base (x ∷ rest) e = append_left (given_by f base) (f base x) (back f (x ∷ base) rest e)

none_by_line : {D : Type 0} (f : List Line → Line → List D) (before ls : List Line) → given_by f (onto before ls) ≡ [] → (k : ℕ) (l : Line) → slice_get ls k ≡ Some l → f (onto before (take k ls)) l ≡ []
none_by_line f before [] e k l at = absurd cc
none_by_line f before (x ∷ rest) e zero l at =
    let same : x ≡ l = cc in
    subst (λ (y : Line). f before y ≡ []) same (append_right (given_by f before) (f before x) (back f (x ∷ before) rest e))
none_by_line f before (x ∷ rest) e (suc k) l at = none_by_line f (x ∷ before) rest e k l at

some_due : (t m : ℕ) (cs : List (TxNo × Call)) (p : ℕ) (u : TxNo) (c : Call) → slice_get cs p ≡ Some (u, c) → u.value ≡ t → all_of (due_at t m) cs ≡ [] → ⊥
some_due t m [] p u c at e none = cc
some_due t m (x ∷ cs) zero u c at e none = by (t == x.0.value) here none
  where
    here : (t == x.0.value) ≡ true
    here = let same : x ≡ (u, c) = cc in let value : x.0.value ≡ t = ap (λ (y : TxNo × Call). y.0.value) same ∙ e in grind (arith, nat_tests)

    by : (b : Bool) → b ≡ true → put (if b then Some (record { line = m; call = x.1 }) else None) (all_of (due_at t m) cs) ≡ [] → ⊥
    by true is none = cc
    by false is none = cc
some_due t m (x ∷ cs) (suc p) u c at e none = by (some_due t m cs p u c at e) (due_at t m x) none
  where
    by : (all_of (due_at t m) cs ≡ [] → ⊥) → (o : Option (Due Call)) → put o (all_of (due_at t m) cs) ≡ [] → ⊥
    by later (Some d) none = cc
    by later None none = later none

by_its_actor : (s : List Line) (t : ℕ) (before : List Line) (l : Line) → due_by_line s l.actor.value t before l ≡ [] → all_of (due_at t (suc (length before))) (calls_by s before l) ≡ []
by_its_actor s t before l e = mine (l.actor.value == l.actor.value) (eq_self l.actor.value) e
  where
    mine : (b : Bool) → b ≡ true → (if b then all_of (due_at t (suc (length before))) (calls_by s before l) else []) ≡ [] → all_of (due_at t (suc (length before))) (calls_by s before l) ≡ []
    mine true is h = h
    mine false is h = absurd cc

uncalled : (s : List Line) (t : ℕ) → ((a : ℕ) → calls_at s a t ≡ []) → (n : ℕ) (a : ActorNo) (c : Call) → IsCallOf s t n a c → ⊥
uncalled s t none n a c k = by n k.stands k.gives
  where
    by : (n : ℕ) → kth s n ≡ Some k.line → slice_get (calls_by s (lines_before s n) k.line) k.place ≡ Some (k.name, c) → ⊥
    by zero at gives = cc
    by (suc m) at gives =
        let before : suc m - 1 ≡ m = omega arith in
        let given : slice_get (calls_by s (past_of (take m s)) k.line) k.place ≡ Some (k.name, c) = subst (λ (j : ℕ). slice_get (calls_by s (past_of (take j s)) k.line) k.place ≡ Some (k.name, c)) before gives in
        let nothing = by_its_actor s t (past_of (take m s)) k.line (none_by_line (due_by_line s k.line.actor.value t) [] s (none k.line.actor.value) m k.line at) in
        some_due t (suc (length (past_of (take m s)))) (calls_by s (past_of (take m s)) k.line) k.place k.name c given k.at_t nothing

-- a transaction without a call has no history
abbrev empty_world : World
empty_world = record { calls = []; past = [] }

never_due : (e : ℕ) (n : Note) → due_of (half empty_world).seen e ≡ Some n → ⊥
unfolding due_of observe
never_due e n due = cc

never : (G : ℕ → ActorNo → Call → Type 0) (t : ℕ) → ((n : ℕ) (a : ActorNo) (c : Call) → G n a c → ⊥) → (m : Step) → MayCome G t empty_world m → ⊥
unfolding act_entries observe coordinate may_log may_free
never G t none (Calls n a c k) may = none n a c may.0
never G t none (Replies e r) (n, due, fits) = never_due e.value n due
never G t none Acts may = cc
never G t none (Coordinates a) may = cc
never G t none (Delivers c d) may = cc
never G t none Stops may = cc
never G t none (Restarts found) may = cc

of_parts : (cs : List EnteredCall) (h : List Entry) → cs ≡ [] → h ≡ [] → ◌≡◌ {A = World} (record { calls = cs; past = h }) empty_world
of_parts cs h e f = rw (e, f) refl

nothing_ran : (G : ℕ → ActorNo → Call → Type 0) (t : ℕ) → ((n : ℕ) (a : ActorNo) (c : Call) → G n a c → ⊥) → (ms : List Step) (w : World) → Ran G t ms w → w ≡ empty_world
nothing_ran G t none [] w (a, b) = of_parts w.calls w.past a b
nothing_ran G t none (m ∷ ms) w (v, ran, may, is) =
    let blank = nothing_ran G t none ms v ran in
    absurd (never G t none m (subst (λ (u : World). MayCome G t u m) blank may))

-- a script calls only transactions that it makes
abbrev pub CallsMade : Type 0
CallsMade = (s : List Line) (t : ℕ) → IsScript s → is_made s (OfTransaction t) ≡ false → (a : ℕ) → calls_at s a t ≡ []

no_history : (s : List Line) (t : ℕ) (h : List Entry) → ((n : ℕ) (a : ActorNo) (c : Call) → IsCallOf s t n a c → ⊥) → FreelyCaused (IsCallOf s t) t h → h ≡ []
no_history s t h none (calls, (steps, ran)) = ap (λ (w : World). w.past) (nothing_ran (IsCallOf s t) t none steps (record { calls = calls; past = h }) ran)

pub known_made : CallsMade → (s : List Line) (t : TxNo) (T : List Placed) → IsScript s → FreelyCaused (IsCallOf s t.value) t.value (history t.value T) → is_known T t ≡ true → is_made s (OfTransaction t.value) ≡ true
known_made law s t T script free known = by (is_made s (OfTransaction t.value)) refl
  where
    by : (b : Bool) → is_made s (OfTransaction t.value) ≡ b → b ≡ true
    by true e = refl
    by false e =
        let none : history t.value T ≡ [] = no_history s t.value (history t.value T) (uncalled s t.value (law s t.value script e)) free in
        ap (has is_begin_sent) (sym none) ∙ known

-- the number of a transaction that the script makes is among them
in_range : (p q : ℕ → Bool) (n a t : ℕ) → a ≤ t → t < a + n → q t ≡ true → p t ≡ true → has p (filter q (range_with_len a n)) ≡ true
in_range p q zero a t low high qt pt = absurd (omega arith)
in_range p q (suc n) a t low high qt pt = by (λ apart. in_range p q n (a + 1) t (grind (arith, nat_tests)) (omega (arith, high)) qt pt) (a == t) refl
  where
    step : (b : Bool) → has p (filter q (range_with_len (a + 1) n)) ≡ true → has p (if b then a ∷ filter q (range_with_len (a + 1) n) else filter q (range_with_len (a + 1) n)) ≡ true
    step true h = or_right (p a) (has p (filter q (range_with_len (a + 1) n))) h
    step false h = h

    by : ((a == t) ≡ false → has p (filter q (range_with_len (a + 1) n)) ≡ true) → (b : Bool) → (a == t) ≡ b → has p (filter q (range_with_len a (suc n))) ≡ true
    by later true e =
        let same : t ≡ a = grind (arith, nat_tests) in
        let qa : q a ≡ true = subst (λ (k : ℕ). q k ≡ true) same qt in
        let pa : p a ≡ true = subst (λ (k : ℕ). p k ≡ true) same pt in
        rw (qa, pa) refl
    by later false e = step (q a) (later e)

abbrev own_number : List Line → ℕ → Bool
own_number s id = has (λ t. id == identifier_of t) (transactions_of s)

made_own : (s : List Line) (t : TxNo) → is_made s (OfTransaction t.value) ≡ true → own_number s (identifier_of t.value) ≡ true
unfolding transactions_of
made_own s t made = in_range (λ k. identifier_of t.value == identifier_of k) (λ n. is_made s (OfTransaction n)) 256 1 t.value t.in_range.0 (omega (arith, t.in_range.1)) made (eq_self (identifier_of t.value))

-- The records of an image after a replay over a log without one: each is the run's.
found_own : (s : List Line) (T : List Placed) (rs : List CommitRecord) → ((t : TxNo) → is_known T t ≡ true → is_made s (OfTransaction t.value) ≡ true) → MayBeRecorded T [] rs → (id : ℕ)
    → (filter (is_record_of id) rs ≡ []) ⊎ (own_number s id ≡ true)
found_own s T rs made may id = by (own_number s id) refl
  where
    here : own_number s id ≡ false → (t : TxNo) → identifier_of t.value ≡ id → filter (is_record_of id) rs ≡ []
    here foreign t is = known (is_known T t) refl
      where
        known : (b : Bool) → is_known T t ≡ b → filter (is_record_of id) rs ≡ []
        known true e =
            let own : own_number s id ≡ true = subst (λ (i : ℕ). own_number s i ≡ true) is (made_own s t (made t e)) in
            absurd (let both : false ≡ true = sym foreign ∙ own in cc)
        known false e = subst (λ (i : ℕ). filter (is_record_of i) rs ≡ []) is (may.known t e)

    none : own_number s id ≡ false → (found : List CommitRecord) → filter (is_record_of id) rs ≡ found → found ≡ []
    none foreign [] e = refl
    none foreign (x ∷ xs) e =
        let out : (t : TxNo) → identifier_of t.value ≡ id → ⊥ = λ t is. let k : x ∷ xs ≡ [] = sym e ∙ here foreign t is in cc in
        sym e ∙ may.others id out

    by : (b : Bool) → own_number s id ≡ b → (filter (is_record_of id) rs ≡ []) ⊎ (own_number s id ≡ true)
    by true e = inr e
    by false e = inl (none e (filter (is_record_of id) rs) refl)

each_own : (s : List Line) (rs : List CommitRecord) → ((id : ℕ) → (filter (is_record_of id) rs ≡ []) ⊎ (own_number s id ≡ true)) → each (is_own s) rs ≡ true
each_own s [] h = refl
each_own s (r ∷ rs) h = and_both (is_own s r) (each (is_own s) rs) (first (h r.id)) (each_own s rs (λ id. later id (h id)))
  where
    first : (filter (is_record_of r.id) (r ∷ rs) ≡ []) ⊎ (own_number s r.id ≡ true) → own_number s r.id ≡ true
    first (inl e) = absurd (by (r.id == r.id) (eq_self r.id) e)
      where
        by : (b : Bool) → b ≡ true → (if b then r ∷ filter (is_record_of r.id) rs else filter (is_record_of r.id) rs) ≡ [] → ⊥
        by true is k = cc
        by false is k = cc
    first (inr o) = o

    later : (id : ℕ) → (filter (is_record_of id) (r ∷ rs) ≡ []) ⊎ (own_number s id ≡ true) → (filter (is_record_of id) rs ≡ []) ⊎ (own_number s id ≡ true)
    later id (inl e) = inl (by (is_record_of id r) e)
      where
        by : (b : Bool) → (if b then r ∷ filter (is_record_of id) rs else filter (is_record_of id) rs) ≡ [] → filter (is_record_of id) rs ≡ []
        by true k = absurd cc
        by false k = k
    later id (inr o) = inr o

at_most_one : (T : List Placed) (rs : List CommitRecord) → MayBeRecorded T [] rs → (id : ℕ) → length (filter (is_record_of id) rs) ≤ 1
at_most_one T rs may id = by (filter (is_record_of id) rs) refl
  where
    by : (found : List CommitRecord) → filter (is_record_of id) rs ≡ found → length found ≤ 1
    by [] e = omega arith
    by (x ∷ []) e = omega arith
    by (x ∷ (y ∷ zs)) e =
        let out : (t : TxNo) → identifier_of t.value ≡ id → ⊥ = λ t is.
        let one : length (filter (is_record_of id) rs) ≤ 1 = subst (λ (i : ℕ). length (filter (is_record_of i) rs) ≤ 1) is (may.one t) in
        let two : length (x ∷ y ∷ zs) ≤ 1 = subst (λ (q : List CommitRecord). length q ≤ 1) e one in omega (arith, two) in
        absurd (let k : x ∷ y ∷ zs ≡ [] = sym e ∙ may.others id out in cc)

-- So the log at the end of a replay is that of a run on threads.
pub ends_on_threads : CallsMade → (s : List Line) (image : List ℕ → Type 0) (T : List Placed) → IsScript s → ((t : TxNo) → FreelyCaused (IsCallOf s t.value) t.value (history t.value (past_of T))) → IsLogOf image T → EndsOnThreads s image T
ends_on_threads law s image T script free log = record {
  up = λ e. let k = log.up e in (k.0, k.1, k.2.recorded);
  own = λ c i. let k = log.stopped c i in (
    k.0,
    k.1,
    record {
      own = each_own s k.0 (found_own s (past_of T) k.0 (λ t known. known_made law s t (past_of T) script (free t) known) k.2);
      once = at_most_one (past_of T) k.0 k.2;
    },
  );
}
