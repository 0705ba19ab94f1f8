-- A step of a transaction over the log.
use Rattle.std.proofs.Common.{◌≡◌, ◌⊎◌, ◌≤◌, ◌<◌, ◌+◌, ◌==◌, not, ℕ, suc, Bool, true, false, List, [], ◌∷◌, length, filter, Option, Some, None, Ok, Err, Result, refl, sym, ap, subst, ◌∙◌, inl, inr, arith, le_trans, le_refl, if◌then◌else◌, zero}
use Rattle.std.specs.Prelude.{IsTrue, IfOk}
use Rattle.std.specs.List.{range_with_len}
use Rattle.std.proofs.lemmas.Bool.{cases_Bool}
use Rattle.std.proofs.lemmas.Bool.Decides.{nat_tests}
use Rattle.outside.specs.Faults.{Rose}
use Rattle.dtx_values.specs.declared.entry.Entry.{Entry}
use Rattle.dtx_values.specs.TxIds.{number_in, number_of}
use Rattle.dtx_values.specs.declared.tx_id.TxId.{TxId}
use Rattle.dtx_values.specs.declared.entry.Entry.TheVariants.{Stopped}
use Rattle.dtx_values.specs.declared.script.Line.{Line}
use Rattle.dtx_model.specs.AtLog.{armed, faults as faults_told, is_called, is_up_by, one_if}
use Rattle.dtx_model.specs.Grammar.{OfTransaction, is_made}
use Rattle.dtx_model.specs.Log.{CommitRecord, first_of, is_record_of, log_has}
use Rattle.dtx_model.specs.Promotes.{identifier_of}
use Rattle.dtx_model.specs.Steps.{Done, StoppedBefore, StoppedNow, Step, Coordinates}
use Rattle.dtx_model.specs.Words.{each, has}
use Rattle.dtx_model.specs.World.{core}
use Rattle.dtx_model.proofs.Bools.{and_both, and_left, and_right, not_both, or_right}
use Rattle.coordinator_log.specs.Crash.{AllHold}
use Rattle.coordinator_log.specs.Slots.{open_records}
use Rattle.coordinator_log.specs.State.{LogState}
use Rattle.coordinator_log.specs.Stop.{stop_in}
use Rattle.coordinator_log.specs.declared.stop.ArmedStop.{ArmedStop}
use Rattle.script_calls.specs.Prefix.{lines_by}
use Rattle.tx_world.specs.AtLog.{AreFit, AtMostOne, Fits, Tie, act_calls, id_of, of_others}
use Rattle.tx_world.specs.Leaves.{Leaves}
use Rattle.tx_world.specs.State.{TxState}
use Rattle.tx_world.specs.Stepping.{IsAnswered}
use Rattle.tx_cells.specs.Board.{transactions_of}
use Rattle.tx_cells.specs.LogAnswers.{is_no_log_answer}
use Rattle.tx_cells.specs.LogCell.{AreCounted, AreOwn, IsLogKept, LogCell, is_left, is_own}
use Rattle.tx_cells.proofs.Coming.{one_more}
use Rattle.turn_parts.proofs.Counting.{counted_stopped, not_fewer}
use Rattle.turn_parts.specs.LogEvents.{Halts, IsLogHistory}
use Rattle.turn_parts.specs.Reopening.{stop_noted}

-- Records that are the run's, with those of one of its transactions changed, are still the run's.
split_own : (p : CommitRecord → Bool) (id : ℕ) (xs : List CommitRecord) → ((r : CommitRecord) → is_record_of id r ≡ true → p r ≡ true) → each p (of_others id xs) ≡ true → each p xs ≡ true
split_own p id [] own h = refl
split_own p id (x ∷ xs) own h = by (is_record_of id x) refl (split_own p id xs own) h
  where
    by : (b : Bool) → is_record_of id x ≡ b → (each p (of_others id xs) ≡ true → each p xs ≡ true) → each p (if not b then x ∷ of_others id xs else of_others id xs) ≡ true → each p (x ∷ xs) ≡ true
    by true is rest k = and_both (p x) (each p xs) (own x is) (rest k)
    by false is rest k = and_both (p x) (each p xs) (and_left (p x) (each p (of_others id xs)) k) (rest (and_right (p x) (each p (of_others id xs)) k))

each_filter : (p q : CommitRecord → Bool) (xs : List CommitRecord) → each p xs ≡ true → each p (filter q xs) ≡ true
each_filter p q [] h = refl
each_filter p q (x ∷ xs) h = by (q x) (each_filter p q xs (and_right (p x) (each p xs) h))
  where
    by : (b : Bool) → each p (filter q xs) ≡ true → each p (if b then x ∷ filter q xs else filter q xs) ≡ true
    by true k = and_both (p x) (each p (filter q xs)) (and_left (p x) (each p xs) h) k
    by false k = k

other_record : (i id n : ℕ) → (i == id) ≡ false → (n == id) ≡ true → (n == i) ≡ false
other_record i id n apart is = grind (arith, nat_tests)

filter_others : (i id : ℕ) (xs : List CommitRecord) → (i == id) ≡ false → filter (is_record_of i) (of_others id xs) ≡ filter (is_record_of i) xs
filter_others i id [] apart = refl
filter_others i id (x ∷ xs) apart = by (is_record_of id x) refl (filter_others i id xs apart)
  where
    by : (b : Bool) → is_record_of id x ≡ b → filter (is_record_of i) (of_others id xs) ≡ filter (is_record_of i) xs → filter (is_record_of i) (if not b then x ∷ of_others id xs else of_others id xs) ≡ filter (is_record_of i) (x ∷ xs)
    by true is rest = rw (other_record i id x.id apart is) rest
    by false is rest = ap (λ (l : List CommitRecord). if is_record_of i x then x ∷ l else l) rest

same_number : (i id : ℕ) → (i == id) ≡ true → id ≡ i
same_number i id is = grind (arith, nat_tests)

own_kept : (s : List Line) (id : ℕ) (rs old : List CommitRecord) → ((r : CommitRecord) → is_record_of id r ≡ true → is_own s r ≡ true) → of_others id rs ≡ of_others id old → AtMostOne id rs → AreOwn s old → AreOwn s rs
own_kept s id rs old mine e one o = record {
  own = split_own (is_own s) id rs mine (subst (λ (xs : List CommitRecord). each (is_own s) xs ≡ true) (sym e) (each_filter (is_own s) (λ r. not (is_record_of id r)) old o.own));
  once = λ i. elim (cases_Bool (i == id)) [
    | inl is ↦ subst (λ (j : ℕ). AtMostOne j rs) (same_number i id is) one
    | inr apart ↦
        let q : filter (is_record_of i) rs ≡ filter (is_record_of i) old = sym (filter_others i id rs apart) ∙ (ap (λ (xs : List CommitRecord). filter (is_record_of i) xs) e ∙ filter_others i id old apart) in
        subst (λ (xs : List CommitRecord). length xs ≤ 1) (sym q) (o.once i)
  ];
}

-- the number of a transaction that the script names is among them
in_range : (p q : ℕ → Bool) (n a t : ℕ) → a ≤ t → t < a + n → q t ≡ true → p t ≡ true → has p (filter q (range_with_len a n)) ≡ true
in_range p q zero a t low high qt pt = absurd (omega arith)
in_range p q (suc n) a t low high qt pt = elim (cases_Bool (a == t)) [
  | inl is ↦ let e : t ≡ a = same_number a t is in
      let qa : q a ≡ true = subst (λ (k : ℕ). q k ≡ true) e qt in
      let pa : p a ≡ true = subst (λ (k : ℕ). p k ≡ true) e pt in
      rw (qa, pa) refl
  | inr apart ↦ by (q a) (in_range p q n (a + 1) t (grind (arith, nat_tests)) (omega arith) qt pt)
]
  where
    by : (b : Bool) → has p (filter q (range_with_len (a + 1) n)) ≡ true → has p (if b then a ∷ filter q (range_with_len (a + 1) n) else filter q (range_with_len (a + 1) n)) ≡ true
    by true h = or_right (p a) (has p (filter q (range_with_len (a + 1) n))) h
    by false h = h

mine : (s : List Line) (t : ℕ) → 1 ≤ t → t ≤ 256 → is_made s (OfTransaction t) ≡ true → (r : CommitRecord) → is_record_of (identifier_of t) r ≡ true → is_own s r ≡ true
unfolding transactions_of
mine s t low high named r is = in_range (λ k. r.id == identifier_of k) (λ n. is_made s (OfTransaction n)) 256 1 t low (omega arith) named is

-- A log that is stopped is left as it is.
step_down : {D : Type 0} (faults : D → ℕ) (x : TxState) (from to : LogState D) (m : Step) → IsAnswered faults x from to m → from.is_up ≡ false → to ≡ from
step_down faults x from to (Coordinates a) e down =
    let is : a ≡ StoppedBefore = e.before.1 (inl down) in
    e.unchanged (λ done. let q : StoppedBefore ≡ Done = sym is ∙ done in cc) (λ now. let q : StoppedBefore ≡ StoppedNow = sym is ∙ now in cc)
step_down faults x from to m e down = e

-- One that is up is stopped under the coordinator's act.
step_stopped : {D : Type 0} (faults : D → ℕ) (x : TxState) (from to : LogState D) (m : Step) → IsAnswered faults x from to m → from.is_up ≡ true → to.is_up ≡ false
    → (from.armed ≡ None → Rose (faults from.disk) (faults to.disk)) × (Rose (faults from.disk) (faults to.disk) ⊎ (to.armed ≡ None))
step_stopped faults x from to (Coordinates a) e up down =
    let is : a ≡ StoppedNow = e.now.1 (up, down) in (λ none. e.cause is (ap (stop_in (act_calls (core x.world))) none), e.used is)
step_stopped {D} faults x from to m e up down = absurd (not_both from.is_up up (sym (ap (λ (l : LogState D). l.is_up) e) ∙ down))

-- A log that isn't stopped counts as before.
counted_calm : (b m n : ℕ) (old new : Option ArmedStop) (past : List Entry) → m ≤ n → (old ≡ None → new ≡ None) → AreCounted b m old past → AreCounted b n new past
counted_calm b m n old new past le unarmed k = record {
  grows = le_trans k.grows le;
  told = λ less. count old new (armed past) unarmed (k.told (omega arith));
}
  where
    count : (old new : Option ArmedStop) (a : Option ℕ) → (old ≡ None → new ≡ None) → b + one_if (is_left old a) (faults_told past) ≤ m → b + one_if (is_left new a) (faults_told past) ≤ n
    count None None a unarmed was = not_fewer b m n (faults_told past) le was
    count None (Some s) a unarmed was = let none = unarmed refl in absurd cc
    count (Some r) None None unarmed was = omega arith
    count (Some r) None (Some i) unarmed was = not_fewer b m n (faults_told past) le was
    count (Some r) (Some s) None unarmed was = omega arith
    count (Some r) (Some s) (Some i) unarmed was = not_fewer b m n (faults_told past) le was

-- What is known of a step of transaction x, which is y after it, over a log that is `to` after it.
pub record StepsOver {D : Type 0} (faults : D → ℕ) (honest : Bool) (image : D → List ℕ → Type 0) (s : List Line) (x y : TxState) (from to : LogState D) : Type 0 where
  pub named : is_made s (OfTransaction (number_of x.transaction)) ≡ true
  pub first : x.transaction.epoch ≡ 0
  pub same : y.transaction ≡ x.transaction
  pub sure : IsTrue honest → IsTrue from.is_up → AllHold (image from.disk) (open_records from.slots)
  pub tie : IsTrue from.is_up → Tie x.ours x.unsure (first_of (id_of x) (open_records from.slots))
  pub leaves : Leaves honest image faults x from y to
  pub step : Step
  pub answered : IsAnswered faults x from to step

own_of : (s : List Line) (x : TxState) → x.transaction.epoch ≡ 0 → is_made s (OfTransaction (number_of x.transaction)) ≡ true → (r : CommitRecord) → is_record_of (id_of x) r ≡ true → is_own s r ≡ true
own_of s x first named r is =
    let same : x.transaction.t.value ≡ number_of x.transaction = ap (λ n. number_in n x.transaction.t.value) (sym first) in
    let low = x.transaction.t.in_range.0 in
    let high = x.transaction.t.in_range.1 in
    mine s (number_of x.transaction) (omega (arith, same, low)) (omega (arith, same, high)) named r is

own_now : {D : Type 0} (faults : D → ℕ) (honest : Bool) (image : D → List ℕ → Type 0) (s : List Line) (x y : TxState) (from to : LogState D) → StepsOver faults honest image s x y from to → IsTrue honest → AreOwn s (open_records from.slots) → (rs : List CommitRecord)
    → of_others (id_of x) rs ≡ of_others (id_of x) (open_records from.slots) → Fits y rs → AreOwn s rs
own_now faults honest image s x y from to k is o rs e f =
    own_kept s (id_of x) rs (open_records from.slots) (own_of s x k.first k.named) e (subst (λ (t : TxId). AtMostOne (identifier_of (number_of t)) rs) k.same f.one) o

held_step : {D : Type 0} (faults : D → ℕ) (honest : Bool) (image : D → List ℕ → Type 0) (s : List Line) (x y : TxState) (from to : LogState D) → StepsOver faults honest image s x y from to → (IsTrue honest → IsTrue from.is_up → AreOwn s (open_records from.slots))
    → IsTrue honest → IsTrue to.is_up → AreOwn s (open_records to.slots)
held_step faults honest image s x y from to k held is up = own_now faults honest image s x y from to k is (held is (k.leaves.later.still up)) (open_records to.slots) (k.leaves.kept is).others ((k.leaves.kept is).fits up)

both_ok : (s : List Line) (P Q : List CommitRecord → Type 0) (r : Result (List CommitRecord) ℕ) → ((rs : List CommitRecord) → P rs → Q rs → AreOwn s rs) → IfOk r P → IfOk r Q → IfOk r (AreOwn s)
both_ok s P Q (Ok rs) f p q = f rs p q
both_ok s P Q (Err e) f p q = tt

imaged_step : {D : Type 0} (faults : D → ℕ) (honest : Bool) (image : D → List ℕ → Type 0) (s : List Line) (x y : TxState) (from to : LogState D) → StepsOver faults honest image s x y from to → (IsTrue honest → IsTrue from.is_up → AreOwn s (open_records from.slots))
    → (IsTrue honest → AreFit (image from.disk) (AreOwn s)) → IsTrue honest → AreFit (image to.disk) (AreOwn s)
imaged_step {D} faults honest image s x y from to k held imaged is = elim (cases_Bool from.is_up) [
  | inl up ↦
      let fit : Fits x (open_records from.slots) = record { tie = k.tie up; one = (held is up).once (id_of x) } in
      let fit_before : AreFit (image from.disk) (Fits x) = λ c one. rw (k.sure is up c one) fit in
      let fit_after : AreFit (image to.disk) (Fits y) = (k.leaves.kept is).imaged fit_before in
      λ c one. elim ((k.leaves.kept is).others_imaged c one) [
        | inl was ↦ imaged is c was
        | inr others ↦
            both_ok s (λ rs. of_others (id_of x) rs ≡ of_others (id_of x) (open_records from.slots)) (Fits y) (log_has c) (own_now faults honest image s x y from to k is (held is up)) others (fit_after c one)
      ]
  | inr down ↦ subst (λ (l : LogState D). AreFit (image l.disk) (AreOwn s)) (sym (step_down faults x from to k.step k.answered down)) (imaged is)
]

lines_stopped : (up now : Bool) (past : List Entry) (b : ℕ) → lines_by b (stop_noted up now past) ≡ lines_by b past
lines_stopped true true past b = refl
lines_stopped true false past b = refl
lines_stopped false now past b = refl

-- What a step leaves of what the log's cell keeps, where the log's entries are those after it.
kept_as : {D : Type 0} (faults : D → ℕ) (honest : Bool) (image : D → List ℕ → Type 0) (s : List Line) (tells : Bool) (before : ℕ) (x y : TxState) (old : LogCell D) (to : LogState D) (after : List Entry) → StepsOver faults honest image s x y old.log to
    → AreCounted before (faults to.disk) to.armed after → is_up_by after ≡ to.is_up → (IsTrue to.is_up → is_called after ≡ false) → length old.past ≤ length after → has is_no_log_answer after ≡ has is_no_log_answer old.past
    → ((b : ℕ) → lines_by b after ≡ lines_by b old.past) → IsLogHistory s after → IsLogKept faults honest image s tells before old → IsLogKept faults honest image s tells before (record { log = to; rows = old.rows; past = after })
kept_as faults honest image s tells before x y old to after k counted up uncalled long like lines events c = record {
  script = c.script;
  in_order = record { calls = c.in_order.calls; entered = λ a. lines a.value ∙ c.in_order.entered a };
  events = events;
  honest_is = c.honest_is;
  counted = counted;
  up = up;
  uncalled = uncalled;
  life = let le = c.life in let e = k.leaves.later.life in omega arith;
  unlike = λ is. like ∙ c.unlike is;
  held = held_step faults honest image s x y old.log to k c.held;
  imaged = imaged_step faults honest image s x y old.log to k c.held c.imaged;
  logs = λ is. (k.leaves.kept is).logs (c.logs is);
}

pub kept_step : {D : Type 0} (faults : D → ℕ) (honest : Bool) (image : D → List ℕ → Type 0) (s : List Line) (tells : Bool) (before : ℕ) (x y : TxState) (old : LogCell D) (to : LogState D) → StepsOver faults honest image s x y old.log to → (after : List Entry) → after ≡ stop_noted old.log.is_up to.is_up old.past
    → IsLogKept faults honest image s tells before old → IsLogKept faults honest image s tells before (record { log = to; rows = old.rows; past = after })
kept_step {D} faults honest image s tells before x y old to k after is c =
    subst (λ (h : List Entry). IsLogKept faults honest image s tells before (record { log = to; rows = old.rows; past = h })) (sym is) (by old.log.is_up to.is_up refl refl)
  where
    by : (up now : Bool) → old.log.is_up ≡ up → to.is_up ≡ now → IsLogKept faults honest image s tells before (record { log = to; rows = old.rows; past = stop_noted up now old.past })
    by false now down e =
        let same : to ≡ old.log = step_down faults x old.log to k.step k.answered down in
        kept_as faults honest image s tells before x y old to old.past k (counted_calm before (faults old.log.disk) (faults to.disk) old.log.armed to.armed old.past k.leaves.later.grows k.leaves.later.unarmed c.counted)
        (c.up ∙ ap (λ (l : LogState D). l.is_up) (sym same)) (λ up. c.uncalled (k.leaves.later.still up)) (le_refl (length old.past)) refl (λ b. refl) c.events c
    by true true up e =
        kept_as faults honest image s tells before x y old to old.past k (counted_calm before (faults old.log.disk) (faults to.disk) old.log.armed to.armed old.past k.leaves.later.grows k.leaves.later.unarmed c.counted) (c.up ∙ (up ∙ sym e)) (λ now. c.uncalled up) (le_refl (length old.past)) refl
        (λ b. refl) c.events c
    by true false up e =
        let why = step_stopped faults x old.log to k.step k.answered up e in
        kept_as faults honest image s tells before x y old to (Stopped ∷ old.past) k (counted_stopped before (faults old.log.disk) (faults to.disk) old.log.armed to.armed old.past (c.uncalled up) k.leaves.later.grows why.0 why.1 k.leaves.later.unarmed c.counted) (sym e)
        (λ now. refl) (omega arith) refl (λ b. refl) (one_more s Halts old.past c.events (c.up ∙ up)) c
