-- The time of a transaction goes on at its place, and the objects hear what came of it.
use Rattle.std.proofs.Common.{ℕ, zero, suc, Bool, true, false, ◌≡◌, ◌≢◌, ◌≤◌, ◌<◌, ◌+◌, ◌-◌, ◌^◌, ◌⊎◌, ◌∙◌, List, [], ◌∷◌, length, Some, None, Result, Ok, Err, IfErr, OnOk, OnErr, slice_get, refl, ap, arith, subst, sym, inl, inr}
use Rattle.dtx_values.specs.declared.number.TxNo.{TxNo}
use Rattle.dtx_values.specs.TxIds.{identifier_of_id}
use Rattle.dtx_values.specs.declared.tx_id.TxId.{TxId}
use Rattle.dtx_values.specs.declared.entry.Answer.TheVariants.{NoSuch}
use Rattle.coordinator_log.specs.State.{LogState}
use Rattle.transactions.specs.declared.error.TxError.{TxError}
use Rattle.transactions.specs.declared.error.TxError.TheVariants.{LogFull, LogStopped, Memory, Many, NoEpoch, Refused, Waits}
use Rattle.transactions.specs.Calling.{Ticks, TicksUnless}
use Rattle.transactions.specs.declared.usage.Usage.TheVariants.{Left}
use Rattle.transactions.specs.Doing.{HasRunAt, HeardAt}
use Rattle.transactions.specs.Ending.{IsOver}
use Rattle.transactions.specs.Keeping.{AreNumbered, HasRun}
use Rattle.transactions.specs.Slots.{AreSame, KeepsRest, KeepsTime, Standing, live_at, standing_at}
use Rattle.transactions.specs.State.{LiveState, past}
use Rattle.transactions.specs.Turning.{PassedAt, Stopped, StoppedAfter, TickFails, Turned, TurnedUpTo}
use Rattle.transactions.specs.Waiting.{AllAsked}
use Rattle.transactions.proofs.Driving.{Gives}
use Rattle.transactions.proofs.Nexts.{one_at}
use Rattle.transactions.proofs.Untouched.{keeps_same, keeps_then}

-- the time's going on leaves what the number is used for
ticks_used : {D : Type 0} (b : Bool) (faults : D → ℕ) (log : LogState D) (now : ℕ) (x y : LiveState) → TicksUnless b faults log now x y → y.usage ≡ x.usage
ticks_used true faults log now x y ticked = ap (λ (v : LiveState). v.usage) ticked
ticks_used false faults log now x y ticked = ap (λ (v : LiveState). v.usage) ticked.4 ∙ ap (λ (v : LiveState). v.usage) ticked.3.rest

-- also where it failed
pub pass_used : {A D : Type 0} (faults : D → ℕ) (log : LogState D) (now : ℕ) (z : Result A TxError) (x y : LiveState) → OnOk z (Ticks faults log now x y) → OnErr z (y ≡ x) → y.usage ≡ x.usage
pass_used faults log now (Ok r) x y ticked same = ticks_used _ faults log now x y ticked
pass_used faults log now (Err e) x y ticked same = ap (λ (v : LiveState). v.usage) same

-- the time of the transaction at its place went on
pub passed_at : {A D : Type 0} (faults : D → ℕ) (log : LogState D) (now : ℕ) (t : TxId) (z : Result A TxError) (xs ys : List LiveState) (x y : LiveState) → live_at t xs ≡ Some x → live_at t ys ≡ Some y
    → OnOk z (Ticks faults log now x y) → OnOk z (PassedAt faults log now t xs ys)
passed_at faults log now t (Ok r) xs ys x y was is ticked = λ v at. (y, is, subst (λ (u : LiveState). Ticks faults log now u y) (one_at t xs x v was at) ticked)
passed_at faults log now t (Err e) xs ys x y was is ticked = tt

-- why it didn't
pub tick_fails : {A : Type 0} (t : TxId) (z : Result A TxError) (xs : List LiveState) (x : LiveState)
    → live_at t xs ≡ Some x → IfErr z (λ e. e ≢ Memory → (e ≡ Many) × (x.lines ≡ 2 ^ 32 - 1)) → IfErr z (TickFails t xs)
tick_fails t (Ok r) xs x was cause = tt
tick_fails t (Err Memory) xs x was cause = inl refl
tick_fails t (Err Many) xs x was cause = let m = cause (λ q. never q) in inr (m.0, x, was, m.1)
  where
    never : Many ≡ Memory → ⊥
    never q = cc
tick_fails t (Err Waits) xs x was cause = absurd (other (cause (λ q. never q)).0)
  where
    never : Waits ≡ Memory → ⊥
    never q = cc

    other : Waits ≡ Many → ⊥
    other q = cc
tick_fails t (Err LogFull) xs x was cause = absurd (other (cause (λ q. never q)).0)
  where
    never : LogFull ≡ Memory → ⊥
    never q = cc

    other : LogFull ≡ Many → ⊥
    other q = cc
tick_fails t (Err LogStopped) xs x was cause = absurd (other (cause (λ q. never q)).0)
  where
    never : LogStopped ≡ Memory → ⊥
    never q = cc

    other : LogStopped ≡ Many → ⊥
    other q = cc
tick_fails t (Err NoEpoch) xs x was cause = absurd (other (cause (λ q. never q)).0)
  where
    never : NoEpoch ≡ Memory → ⊥
    never q = cc

    other : NoEpoch ≡ Many → ⊥
    other q = cc
tick_fails t (Err (Refused a)) xs x was cause = absurd (other (cause (λ q. never q)).0)
  where
    never : Refused a ≡ Memory → ⊥
    never q = cc

    other : Refused a ≡ Many → ⊥
    other q = cc

-- where its time went on it goes on, so that its objects hear what came of it but for memory
pub drive_fails : {D : Type 0} (faults : D → ℕ) (log : LogState D) (now : ℕ) (t : TxId) (xs ys : List LiveState) (e : TxError) (x : LiveState) → live_at t xs ≡ Some x → PassedAt faults log now t xs ys
    → (e ≡ Memory) ⊎ ((e ≡ Refused NoSuch) × (live_at t ys ≡ None)) → TickFails t xs e
drive_fails faults log now t xs ys e x was passed (inl out) = inl out
drive_fails faults log now t xs ys e x was passed (inr none) = let y = passed x was in absurd (never y.0 (sym y.1 ∙ none.1))
  where
    never : (v : LiveState) → Some v ≡ None → ⊥
    never v q = cc

-- why a turn fails, in short
pub turn_fails : (t : TxId) (xs : List LiveState) (e : TxError) → TickFails t xs e → (e ≡ Memory) ⊎ (e ≡ Many)
turn_fails t xs e (inl out) = inl out
turn_fails t xs e (inr many) = inr many.0

-- its time went on, its objects heard what came of it, and it goes on or was taken off: it had its turn
pub turned_by : {D C O : Type 0} (faults : D → ℕ) (honest : Bool) (image : D → List ℕ → Type 0) (gives : Gives O) (t : TxId) (old mid on new : Standing D C) (a b : O) (x : LiveState) → live_at t old.lives ≡ Some x
    → PassedAt faults old.log old.reading t old.lives mid.lives → KeepsRest old mid → HeardAt honest image gives [] t mid on a b → KeepsRest on new
    → ((z : LiveState) → live_at t on.lives ≡ Some z → (z.heard ≡ length (past z)) × AllAsked z.tx.world)
    → ((z : LiveState) → live_at t on.lives ≡ Some z → (live_at t new.lives ≡ Some z) ⊎ ((live_at t new.lives ≡ None) × IsOver z × (z.usage ≡ Left))) → HasRunAt honest image t old → HasRunAt honest image t on
    → Turned faults honest image gives t old new a b
turned_by faults honest image gives t old mid on new a b x was passed rest heard swept all ended run_before run = (
  λ v at.
      let y = passed v at in
      let z = heard y.0 y.1 in
      let id = identifier_of_id t in
      let before = keeps_same honest image id old.log mid.log (ap (λ (s : Standing _ _). s.log) rest) in
      let after = keeps_same honest image id on.log new.log (ap (λ (s : Standing _ _). s.log) swept) in
      record {
        passed = y.0;
        done = z.0;
        ticked = y.2;
        heard = z.2;
        all = all z.0 z.1;
        logged = keeps_then honest image id old.log on.log new.log (keeps_then honest image id old.log mid.log on.log before z.3) after;
        ended = ended z.0 z.1;
        run_before = run_before v at;
        run = subst (λ (l : LogState _). HasRun honest image l z.0) (sym (ap (λ (s : Standing _ _). s.log) swept)) (run z.0 z.1);
      },
  λ none. absurd (never (sym was ∙ none)),
)
  where
    never : Some x ≡ None → ⊥
    never q = cc

-- its time didn't go on, and it is as it was
pub stopped_before : {D C O : Type 0} (faults : D → ℕ) (honest : Bool) (image : D → List ℕ → Type 0) (gives : Gives O) (t : TxId) (old new : Standing D C) (a : O) (x : LiveState) → live_at t old.lives ≡ Some x
    → live_at t new.lives ≡ live_at t old.lives → KeepsRest old new → Stopped faults honest image gives t old new a a
stopped_before faults honest image gives t old new a x was same rest = (x, was, inl (same ∙ was, ap (λ (s : Standing _ _). s.log) rest, refl))

-- its time went on, and its objects heard a part of what came of it
pub stopped_within : {D C O : Type 0} (faults : D → ℕ) (honest : Bool) (image : D → List ℕ → Type 0) (gives : Gives O) (t : TxId) (old mid new : Standing D C) (a b : O) (x : LiveState) → live_at t old.lives ≡ Some x
    → PassedAt faults old.log old.reading t old.lives mid.lives → KeepsRest old mid → HeardAt honest image gives [] t mid new a b → HasRunAt honest image t old → HasRunAt honest image t new
    → Stopped faults honest image gives t old new a b
stopped_within faults honest image gives t old mid new a b x was passed rest heard run_before run =
    let y = passed x was in
    let z = heard y.0 y.1 in
    let id = identifier_of_id t in
    let before = keeps_same honest image id old.log mid.log (ap (λ (s : Standing _ _). s.log) rest) in
    (x, was, inr (record { passed = y.0; done = z.0; ticked = y.2; heard = z.2; on = z.1; logged = keeps_then honest image id old.log mid.log new.log before z.3; run_before = run_before x was; run = run z.0 z.1 }))

-- the turns begin with the same time, however it is named
turned_from : {D C O : Type 0} (faults : D → ℕ) (honest : Bool) (image : D → List ℕ → Type 0) (gives : Gives O) (n : ℕ) (old mid new : Standing D C) (a m : O) → KeepsTime mid new
    → TurnedUpTo faults honest image gives n (record old { clock = mid.clock; reading = mid.reading }) mid a m → TurnedUpTo faults honest image gives n (record old { clock = new.clock; reading = new.reading }) mid a m
turned_from {D} {C} faults honest image gives n old mid new a m time up =
    subst (λ (k : ℕ). TurnedUpTo faults honest image gives n (record old { clock = new.clock; reading = k }) mid a m) (sym time.0.1)
    (subst (λ (k : C). TurnedUpTo faults honest image gives n (record old { clock = k; reading = mid.reading }) mid a m) (sym time.0.0) up)

-- and then the next one had its turn
pub turned_next : {D C O : Type 0} (faults : D → ℕ) (honest : Bool) (image : D → List ℕ → Type 0) (gives : Gives O) (n : ℕ) (p : TxNo) (t : TxId) (old mid new : Standing D C) (a m b : O) → p.value ≡ n + 1 → t ≡ standing_at p mid.lives
    → TurnedUpTo faults honest image gives n (record old { clock = mid.clock; reading = mid.reading }) mid a m → Turned faults honest image gives t mid new m b → AreSame t mid.lives new.lives → KeepsTime mid new
    → TurnedUpTo faults honest image gives (n + 1) (record old { clock = new.clock; reading = new.reading }) new a b
turned_next faults honest image gives n p t old mid new a m b number at up turned same time =
    let so = subst (λ (u : TxId). Turned faults honest image gives u mid new m b × AreSame u mid.lives new.lives) at (turned, same) in
    let next : suc n ≡ n + 1 = omega arith in
    subst (λ (k : ℕ). TurnedUpTo faults honest image gives k (record old { clock = new.clock; reading = new.reading }) new a b) next
    (p, mid, m, number, turned_from faults honest image gives n old mid new a m time up, so.0, so.1, time)

-- or its turn failed
pub stopped_next : {D C O : Type 0} (faults : D → ℕ) (honest : Bool) (image : D → List ℕ → Type 0) (gives : Gives O) (n : ℕ) (p : TxNo) (t : TxId) (old mid new : Standing D C) (a m b : O) → p.value ≡ n + 1 → t ≡ standing_at p mid.lives
    → TurnedUpTo faults honest image gives n (record old { clock = mid.clock; reading = mid.reading }) mid a m → Stopped faults honest image gives t mid new m b → AreSame t mid.lives new.lives → KeepsTime mid new
    → StoppedAfter faults honest image gives (record old { clock = new.clock; reading = new.reading }) new a b
stopped_next faults honest image gives n p t old mid new a m b number at up stopped same time =
    let so = subst (λ (u : TxId). Stopped faults honest image gives u mid new m b × AreSame u mid.lives new.lives) at (stopped, same) in
    (n, p, mid, m, number, turned_from faults honest image gives n old mid new a m time up, so.0, so.1, time)

-- a place within a list has an item
get_within : {A : Type 0} (xs : List A) (i : ℕ) → i < length xs → (x : A) × (slice_get xs i ≡ Some x)
get_within [] i low = absurd (omega (arith, low))
get_within (x ∷ xs) zero low = (x, refl)
get_within (x ∷ xs) (suc i) low = get_within xs i (omega (arith, low))

-- each place of a manager is within the numbers of transactions in an epoch
pub numbers_within : (xs : List LiveState) (i : ℕ) → AreNumbered xs → i < length xs → i + 1 ≤ 256
numbers_within xs i numbered low =
    let x = get_within xs i low in
    let place = (numbered i x.0 x.1).0 in
    let high = x.0.number.t.in_range.1 in
    omega (arith, place, high)
