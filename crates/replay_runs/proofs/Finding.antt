-- What restarts find, as entries come to the trace.
use Rattle.std.proofs.Common.{◌≡◌, ◌≤◌, ◌+◌, ◌-◌, ◌==◌, ◌∙◌, ◌⊎◌, inl, inr, ℕ, Bool, true, false, not, if◌then◌else◌, nat_lt, List, [], ◌∷◌, Option, Some, None, Result, Ok, Err, is_some, refl, sym, ap, subst, arith, le_refl, le_trans}
use Rattle.std.specs.Prelude.{IfSome, IsTrue}
use Rattle.std.proofs.lemmas.Bool.Decides.{eqb_tells, nat_tests}
use Rattle.outside.specs.Faults.{Rose}
use Rattle.outside.proofs.Rising.{rose_earlier, rose_later}
use Rattle.dtx_values.specs.declared.Image.{Image}
use Rattle.dtx_values.specs.declared.entry.Answer.{Answer}
use Rattle.dtx_values.specs.declared.entry.Answer.TheVariants.{Fine}
use Rattle.dtx_values.specs.declared.entry.Entry.{Entry}
use Rattle.dtx_values.specs.declared.entry.Entry.TheVariants.{Called, LogWord, Restarted, Stopped}
use Rattle.dtx_values.specs.declared.entry.LogNote.TheVariants.{Armed, Opened}
use Rattle.dtx_values.specs.declared.number.ActorNo.{ActorNo}
use Rattle.dtx_values.specs.declared.number.TxNo.{TxNo}
use Rattle.dtx_values.specs.declared.trace.Place.TheVariants.{Context, Log, Transaction}
use Rattle.dtx_model.specs.Words.{each, latest, onto, same}
use Rattle.dtx_model.specs.AtLog.{at_log, calls_of, hit, is_called, is_log_up, made}
use Rattle.dtx_model.specs.Coordinated.{Coordinated, coordinate, may_log}
use Rattle.dtx_model.specs.Log.{CommitRecord, first_of, log_has}
use Rattle.dtx_model.specs.Promotes.{identifier_of}
use Rattle.dtx_model.specs.Replay.{after_halt, at_the_log, put_at, stopped_by_restart}
use Rattle.dtx_model.specs.Traces.{Placed, history, noted, placed}
use Rattle.dtx_model.proofs.Bools.{and_both, and_left, and_right, not_both, or_right}
use Rattle.coordinator_log.specs.Slots.{open_records}
use Rattle.coordinator_log.specs.State.{LogState}
use Rattle.coordinator_log.specs.Stop.{after_calls, is_found_after_append, is_found_after_free, stop_in}
use Rattle.coordinator_log.specs.declared.stop.ArmedStop.{ArmedStop}
use Rattle.world_parts.specs.Found.{HasRecord, is_found_after}
use Rattle.replay_runs.specs.Found.{Finds, IsFoundIn, arming, finds_as_wished, finds_right, is_by_act, is_found_as, is_left, leaves_record, left_by, wished_at}
use Rattle.replay_runs.specs.RunState.{record_in}
use Rattle.replay_runs.proofs.Reopening.{halted_log, with_stop}
use Rattle.replay_runs.proofs.Telling.{is_untelling, untelling_calls}
use Rattle.replay_runs.proofs.TellingStops.{passed}

-- Before the first step nothing was armed or found.
pub found_first : {D : Type 0} (faults : D → ℕ) (seen : D → List ℕ) (log : LogState D) → log.armed ≡ None → Finds faults seen log log []
found_first faults seen log unarmed = record { grows = le_refl (faults log.disk); found = inr (record { ended = refl; armed = inl unarmed; left = λ down. tt; found = refl }) }

-- A part of a run leaves it so, unless a fault comes in it.
pub finds_on : {D : Type 0} (faults : D → ℕ) (seen : D → List ℕ) (start from to : LogState D) (T U : List Placed) → faults from.disk ≤ faults to.disk
    → (IsFoundIn seen from T → Rose (faults from.disk) (faults to.disk) ⊎ IsFoundIn seen to U) → Finds faults seen start from T → Finds faults seen start to U
finds_on faults seen start from to T U grows part k = record {
  grows = le_trans k.grows grows;
  found = elim k.found [
    | inl rose ↦ inl (rose_later (faults start.disk) (faults from.disk) (faults to.disk) rose grows)
    | inr f ↦ elim (part f) [
      | inl rose ↦ inl (rose_earlier (faults start.disk) (faults from.disk) (faults to.disk) k.grows rose)
      | inr g ↦ inr g
    ]
  ];
}

pub finds_there : {D : Type 0} (faults : D → ℕ) (seen : D → List ℕ) (start log : LogState D) (T U : List Placed) → (IsFoundIn seen log T → IsFoundIn seen log U) → Finds faults seen start log T → Finds faults seen start log U
finds_there faults seen start log T U part = finds_on faults seen start log log T U (le_refl (faults log.disk)) (λ f. inr (part f))

-- An entry of a transaction leaves what the last stop left, unless it is the stop of the one whose act was stopped,
left_entry : (T : List Placed) (t : TxNo) (x : Entry) → is_by_act T ≡ false → left_by ((Transaction t, x) ∷ T) ≡ left_by T
left_entry T t Stopped e = ap (λ b. if b then Some (t.value, is_left t.value T) else left_by T) e
left_entry T t x e = refl

-- and finds nothing, where it isn't that of a restart.
finds_nothing : (T : List Placed) (t : TxNo) (x : Entry) → is_untelling x ≡ true → finds_right T (Transaction t, x) ≡ true
finds_nothing T t (Restarted b) k = absurd cc
finds_nothing T t x k = refl

-- the disk has what was left
abbrev pub IsThere : List ℕ → Option (ℕ × Bool) → Type 0
IsThere bytes o = IfSome o (λ x. HasRecord bytes (identifier_of x.0) x.1)

-- So an entry that tells nothing of the log may come to the trace,
found_entry : {D : Type 0} (seen : D → List ℕ) (log : LogState D) (T : List Placed) (t : TxNo) (x : Entry) → is_untelling x ≡ true → IsFoundIn seen log T → IsFoundIn seen log ((Transaction t, x) ∷ T)
found_entry seen log T t x k f = record {
  ended = refl;
  armed = elim f.armed [ inl none ↦ inl none | inr e ↦ inr (e ∙ ap (λ m. wished_at m log.armed) (sym (untelling_calls x (made T) k))) ];
  left = λ down. subst (IsThere (seen log.disk)) (sym (left_entry T t x f.ended)) (f.left down);
  found = and_both (finds_right T (Transaction t, x)) (finds_as_wished T) (finds_nothing T t x k) f.found;
}

-- a block of them,
pub found_block : {D : Type 0} (seen : D → List ℕ) (log : LogState D) (T : List Placed) (t : TxNo) (es : List Entry) → each is_untelling es ≡ true → IsFoundIn seen log T → IsFoundIn seen log (onto T (placed t es))
found_block seen log T t [] k f = f
found_block seen log T t (x ∷ es) k f =
    found_block seen log ((Transaction t, x) ∷ T) t es (and_right (is_untelling x) (each is_untelling es) k) (found_entry seen log T t x (and_left (is_untelling x) (each is_untelling es) k) f)

-- `stopped` at transactions,
pub found_put : {D : Type 0} (seen : D → List ℕ) (log : LogState D) (T : List Placed) (us : List TxNo) → IsFoundIn seen log T → IsFoundIn seen log (put_at (λ u. Stopped) us T)
found_put seen log T [] f = f
found_put seen log T (u ∷ us) f = found_put seen log ((Transaction u, Stopped) ∷ T) us (found_entry seen log T u Stopped refl f)

-- and a block at a context.
pub found_noted : {D : Type 0} (seen : D → List ℕ) (log : LogState D) (T : List Placed) (a : ActorNo) (es : List Entry) → IsFoundIn seen log T → IsFoundIn seen log (onto T (noted a es))
found_noted seen log T a [] f = f
found_noted seen log T a (x ∷ es) f = found_noted seen log ((Context a, x) ∷ T) a es (record { ended = refl; armed = f.armed; left = f.left; found = f.found })

-- An append or a free that was done counts its calls.
wished_on : (n m : ℕ) (o : Option ArmedStop) → stop_in n o ≡ None → wished_at m o ≡ wished_at (n + m) (after_calls n o)
wished_on n m None e = refl
wished_on n m (Some s) e =
    let later : nat_lt s.passes n ≡ false = passed n s e in
    let most : n ≤ s.passes = grind (arith, nat_tests) in
    rw later (ap (λ (k : ℕ). Some (k, s.image)) (omega (arith, most)))

pub found_done : {D : Type 0} (seen : D → List ℕ) (from to : LogState D) (T : List Placed) (t : TxNo) (x : Entry) (n : ℕ) → calls_of x ≡ n → finds_right T (Transaction t, x) ≡ true → IsTrue to.is_up
    → stop_in n from.armed ≡ None → to.armed ≡ after_calls n from.armed → IsFoundIn seen from T → IsFoundIn seen to ((Transaction t, x) ∷ T)
found_done seen from to T t x n calls right up passes left f = record {
  ended = refl;
  armed = elim f.armed [
    | inl none ↦ inl (left ∙ ap (after_calls n) none)
    | inr e ↦
        inr (e ∙ (wished_on n (made T) from.armed passes ∙ (ap (λ o. wished_at (n + made T) o) (sym left) ∙ ap (λ m. wished_at (m + made T) to.armed) (sym calls))))
  ];
  left = λ down. absurd (not_both to.is_up up down);
  found = and_both (finds_right T (Transaction t, x)) (finds_as_wished T) right f.found;
}

-- An act that stopped the log: the armed stop was reached, and left the record as is wished.
reached : (b : Bool) (m : ℕ) (s : ArmedStop) → leaves_record b m (wished_at m (Some s)) ≡ (if b then is_found_after_append s.image s.passes else is_found_after_free s.image)
reached b m s =
    let calls : (m + (s.passes + 1)) - m - 1 ≡ s.passes = omega arith in
    ap (λ p. if b then is_found_after_append s.image p else is_found_after_free s.image) calls

left_stopped : (T : List Placed) (t : TxNo) (k : Coordinated) (s : ArmedStop) → is_called (at_log T) ≡ false → coordinate (history t.value T) ≡ k → latest arming (at_log T) ≡ wished_at (made T) (Some s)
    → left_by ((Transaction t, Stopped) ∷ (Log, Stopped) ∷ T) ≡ Some (t.value, is_found_after k s)
left_stopped T t k s uncalled known armed =
    let left : is_left t.value ((Log, Stopped) ∷ T) ≡ is_found_after k s =
    ap (λ (c : Coordinated). leaves_record (may_log c) (made T) (latest arming (at_log T))) known ∙ (ap (leaves_record (may_log k) (made T)) armed ∙ reached (may_log k) (made T) s) in
    rw uncalled (ap (λ b. Some (t.value, b)) left)

pub found_stopped : {D : Type 0} (faults : D → ℕ) (seen : D → List ℕ) (from to : LogState D) (T : List Placed) (t : TxNo) (us : List TxNo) (k : Coordinated) (n : ℕ) → is_called (at_log T) ≡ false
    → coordinate (history t.value T) ≡ k → (stop_in n from.armed ≡ None → Rose (faults from.disk) (faults to.disk)) → Rose (faults from.disk) (faults to.disk) ⊎ (to.armed ≡ None)
    → ((s : ArmedStop) → from.armed ≡ Some s → Rose (faults from.disk) (faults to.disk) ⊎ HasRecord (seen to.disk) (identifier_of t.value) (is_found_after k s)) → IsFoundIn seen from T
    → Rose (faults from.disk) (faults to.disk) ⊎ IsFoundIn seen to (put_at (λ u. Stopped) us (onto (at_the_log Stopped T) (placed t (Stopped ∷ []))))
found_stopped {D} faults seen from to T t us k n uncalled known cause used wished f = by from.armed refl
  where
    U : List Placed
    U = (Transaction t, Stopped) ∷ (Log, Stopped) ∷ T

    left : (s : ArmedStop) → from.armed ≡ Some s → to.armed ≡ None → HasRecord (seen to.disk) (identifier_of t.value) (is_found_after k s)
        → Rose (faults from.disk) (faults to.disk) ⊎ IsFoundIn seen to (put_at (λ u. Stopped) us U)
    left s e unarmed there = elim f.armed [
      | inl none ↦ inl (cause (ap (stop_in n) none))
      | inr armed ↦ inr (found_put seen to U us (record {
        ended = refl;
        armed = inl unarmed;
        left = λ down. subst (IsThere (seen to.disk)) (sym (left_stopped T t k s uncalled known (armed ∙ ap (wished_at (made T)) e))) there;
        found = f.found;
      }))
    ]

    by : (o : Option ArmedStop) → from.armed ≡ o → Rose (faults from.disk) (faults to.disk) ⊎ IsFoundIn seen to (put_at (λ u. Stopped) us U)
    by None e = inl (cause (ap (stop_in n) e))
    by (Some s) e = elim used [
      | inl rose ↦ inl rose
      | inr unarmed ↦ elim (wished s e) [ inl rose ↦ inl rose | inr there ↦ left s e unarmed there ]
    ]

-- A stop was armed.
pub found_armed : {D : Type 0} (seen : D → List ℕ) (from to : LogState D) (T : List Placed) (n : ℕ) (a : ActorNo) (k : ℕ) (i : Image) → 1 ≤ k → to ≡ with_stop from k i → IsFoundIn seen from T
    → IsFoundIn seen to (at_the_log (LogWord (Armed k i)) (at_the_log (Called n a Fine) T))
found_armed {D} seen from to T n a k i first e f =
    let U : List Placed = (Log, LogWord (Armed k i)) ∷ (Log, Called n a Fine) ∷ T in
    subst (λ (l : LogState D). IsFoundIn seen l U) (sym e) (record { ended = refl; armed = inr (ap (λ (m : ℕ). Some (m, i)) (omega (arith, first))); left = f.left; found = f.found })

-- A restart was called, which stops a log that runs.
pub found_halt : {D : Type 0} (seen : D → List ℕ) (from : LogState D) (T : List Placed) (n : ℕ) (a : ActorNo) (x : Answer) → from.is_up ≡ is_log_up T → IsFoundIn seen from T → IsFoundIn seen (halted_log from) (after_halt n a x T)
found_halt {D} seen from T n a x up f = by (is_log_up T) up
  where
    C : List Placed
    C = (Log, Called n a x) ∷ T

    by : (b : Bool) → from.is_up ≡ b → IsFoundIn seen (halted_log from) (stopped_by_restart b C)
    by true e = found_put seen (halted_log from) ((Log, Stopped) ∷ C) (hit C) (record { ended = refl; armed = f.armed; left = λ down. tt; found = f.found })
    by false e = record { ended = refl; armed = f.armed; left = λ down. f.left e; found = f.found }

-- And it opened the log: it finds what was left.
same_both : (b c : Bool) → c ≡ b → same b c ≡ true
same_both true c e = e
same_both false c e = ap not e

found_as : (o : Option (ℕ × Bool)) (t : ℕ) (found : ℕ → Bool) → IfSome o (λ x. found x.0 ≡ x.1) → is_found_as o t (found t) ≡ true
found_as None t found k = refl
found_as (Some (u, b)) t found k = elim (eqb_tells u t) [
  | inl e ↦ or_right (not (u == t)) (same b (found t)) (same_both b (found t) (ap found (sym e.1) ∙ k))
  | inr e ↦ rw e.0 refl
]

found_restarts : {D : Type 0} (seen : D → List ℕ) (log : LogState D) (T : List Placed) (found : ℕ → Bool) (ts : List TxNo) → log.is_up ≡ true → IfSome (left_by T) (λ x. found x.0 ≡ x.1) → IsFoundIn seen log T
    → IsFoundIn seen log (put_at (λ t. Restarted (found t.value)) ts T)
found_restarts seen log T found [] up k f = f
found_restarts seen log T found (t ∷ ts) up k f =
    found_restarts seen log ((Transaction t, Restarted (found t.value)) ∷ T) found ts up k (record {
      ended = refl;
      armed = elim f.armed [ inl none ↦ inl none | inr e ↦ inr (e ∙ ap (λ m. wished_at m log.armed) (omega arith)) ];
      left = λ down. absurd (not_both log.is_up up down);
      found = and_both (is_found_as (left_by T) t.value (found t.value)) (finds_as_wished T) (found_as (left_by T) t.value found k) f.found;
    })

same_records : (r : Result (List CommitRecord) ℕ) (a b : List CommitRecord) → r ≡ Ok a → r ≡ Ok b → a ≡ b
same_records (Ok x) a b p q = cc
same_records (Err e) a b p q = absurd cc

pub found_opened : {D : Type 0} (seen : D → List ℕ) (from to : LogState D) (U : List Placed) (m : ℕ) (ts : List TxNo) → to.armed ≡ from.armed → to.is_up ≡ true → log_has (seen from.disk) ≡ Ok (open_records to.slots)
    → IsFoundIn seen (halted_log from) U → IsFoundIn seen to (put_at (λ t. Restarted (is_some (record_in to.slots t.value))) ts (at_the_log (LogWord (Opened m)) U))
found_opened {D} seen from to U m ts armed up opened f =
    found_restarts seen to ((Log, LogWord (Opened m)) ∷ U) (λ k. is_some (record_in to.slots k)) ts up (there (left_by U) (f.left refl)) (record {
      ended = refl;
      armed = subst (λ (o : Option ArmedStop). (o ≡ None) ⊎ (latest arming (at_log U) ≡ wished_at (made U) o)) (sym armed) f.armed;
      left = λ down. absurd (not_both to.is_up up down);
      found = f.found;
    })
  where
    there : (o : Option (ℕ × Bool)) → IsThere (seen from.disk) o → IfSome o (λ x. is_some (record_in to.slots x.0) ≡ x.1)
    there None k = tt
    there (Some x) k = ap (λ rs. is_some (first_of (identifier_of x.0) rs)) (same_records (log_has (seen from.disk)) (open_records to.slots) k.0 opened k.1) ∙ k.2
