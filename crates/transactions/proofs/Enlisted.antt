-- What is enlisted in one transaction of a manager.
use Rattle.std.proofs.Common.{ℕ, Bool, true, ◌==◌, ◌≡◌, ◌∙◌, List, [], ◌∷◌, Option, Some, None, Result, Ok, Err, IfOk, OnErr, inl, inr, ap, refl, subst, sym}
use Rattle.std.proofs.lemmas.Bool.{or_left}
use Rattle.dtx_values.specs.TxIds.{number_of}
use Rattle.dtx_values.specs.declared.entry.Answer.{Answer}
use Rattle.dtx_values.specs.declared.entry.Answer.TheVariants.{False, Wait}
use Rattle.dtx_values.specs.declared.entry.Entry.TheVariants.{Answered}
use Rattle.dtx_values.specs.declared.call.Call.{Call}
use Rattle.dtx_values.specs.declared.number.CloneNo.{CloneNo}
use Rattle.dtx_values.specs.declared.script.EnlistOption.{EnlistOption}
use Rattle.dtx_values.specs.declared.number.EnlNo.{EnlNo}
use Rattle.dtx_values.specs.declared.number.RmNo.{RmNo}
use Rattle.dtx_values.specs.declared.number.TxNo.{TxNo}
use Rattle.dtx_values.specs.declared.tx_id.TxId.{TxId}
use Rattle.dtx_model.specs.declared.waiting.EnteredCall.{EnteredCall}
use Rattle.dtx_model.specs.Steps.{Calls}
use Rattle.dtx_model.proofs.Bools.{and_both}
use Rattle.history_table.proofs.Tests.{eq_self}
use Rattle.dtx_model.specs.Caused.{makes_volatile}
use Rattle.dtx_model.specs.Words.{has}
use Rattle.record_laws.specs.Recorded.{IsOf, IsVolatile}
use Rattle.record_laws.proofs.LastingManagers.{call_first, made_in}
use Rattle.record_laws.proofs.NamedManagers.{IsCallAt, is_maker_of}
use Rattle.dtx_values.specs.declared.words.CloneKind.{CloneKind}
use Rattle.coordinator_log.specs.State.{LogState}
use Rattle.transactions.specs.declared.error.TxError.{TxError}
use Rattle.transactions.specs.declared.error.TxError.TheVariants.{Refused}
use Rattle.resource_managers.specs.declared.enlistment.Enlistment.{Enlistment}
use Rattle.transactions.specs.declared.handle.Phases.{Phases}
use Rattle.transactions.specs.declared.handle.Phases.TheVariants.{Two, Single}
use Rattle.transactions.specs.declared.kind.Kind.{Kind}
use Rattle.transactions.specs.declared.kind.Kind.TheVariants.{Durable, Promotable, Volatile}
use Rattle.resource_managers.specs.Pairs.{enlistment}
use Rattle.transactions.specs.Answered.{Has}
use Rattle.transactions.specs.Doing.{HeardAt, is_done}
use Rattle.transactions.specs.Enlisting.{Clones, ClonesAt, Enlists, EnlistsAt, IsAnswered, IsNotEnlisted, IsTaken, MayNotEnlist, NumbersClones, NumbersEnlistments, enlists}
use Rattle.transactions.specs.Keeping.{HasRun}
use Rattle.transactions.specs.Slots.{Standing, live_at}
use Rattle.transactions.specs.State.{LiveState, past}
use Rattle.transactions.proofs.Driving.{Gives}
use Rattle.transactions.proofs.Nexts.{one_at}
use Rattle.transactions.proofs.Sound.{calls_after}

-- an enlistment leaves the number and what it is used for
pub enlist_leaves : {D : Type 0} (faults : D → ℕ) (log : LogState D) (k : Kind) (z : Result (EnlNo × ℕ × Answer) TxError) (x y : LiveState) → IfOk z (λ r. Enlists faults log k r.0 r.1 r.2 x y)
    → OnErr z (y ≡ record x { enlisted = y.enlisted }) → (y.usage ≡ x.usage) × (y.number ≡ x.number)
enlist_leaves faults log k (Ok r) x y made failed = (ap (λ (v : LiveState). v.usage) made.called.rest, ap (λ (v : LiveState). v.number) made.called.rest)
enlist_leaves faults log k (Err e) x y made failed = (ap (λ (v : LiveState). v.usage) failed, ap (λ (v : LiveState). v.number) failed)

-- what was enlisted at its place
pub enlisted_at : {D : Type 0} (faults : D → ℕ) (log : LogState D) (t : TxId) (k : Kind) (z : Result (EnlNo × ℕ × Answer) TxError) (xs ys : List LiveState) (x y : LiveState) → live_at t xs ≡ Some x → live_at t ys ≡ Some y → x.number ≡ t
    → IfOk z (λ r. Enlists faults log k r.0 r.1 r.2 x y) → IfOk z (λ r. EnlistsAt faults log t k r.0 r.1 r.2 xs ys)
enlisted_at faults log t k (Ok r) xs ys x y was now numbered made = record { before = x; after = y; was = was; now = now; numbered = numbered; enlists = made }
enlisted_at faults log t k (Err e) xs ys x y was now numbered made = tt

-- nothing was enlisted at its place
pub not_enlisted_at : {A : Type 0} (t : TxId) (z : Result A TxError) (xs ys : List LiveState) (x y : LiveState) → live_at t xs ≡ Some x → live_at t ys ≡ Some y → OnErr z (y ≡ record x { enlisted = y.enlisted })
    → OnErr z (NumbersEnlistments t xs ys)
not_enlisted_at t (Ok r) xs ys x y was now failed = tt
not_enlisted_at t (Err e) xs ys x y was now failed = λ v at. (y, now, failed ∙ ap (λ (u : LiveState). record u { enlisted = y.enlisted }) (one_at t xs x v was at))

-- an enlistment of a transaction is the one of its number there
pub its_own : (t : TxId) (e : Enlistment) → e.transaction ≡ t → e ≡ enlistment t e.number
its_own t e is = ap (λ u. enlistment u e.number) is

-- what wasn't enlisted since another resource is was answered so
pub not_taken : {D : Type 0} (faults : D → ℕ) (log : LogState D) (t : TxId) (k : Kind) (xs ys : List LiveState) (e : TxError) → e ≡ Refused False → IsNotEnlisted faults log t k xs ys e
    → (n : EnlNo) × (line : ℕ) × (a : Answer) × EnlistsAt faults log t k n line a xs ys × (a ≡ False)
not_taken faults log t k xs ys e is (inl why) = absurd (never why.0)
  where
    never : MayNotEnlist t xs e → ⊥
    never (inl memory) = cc
    never (inr (inl none)) = let h = none.0 in cc
    never (inr (inr many)) = let h = many.0 in cc
not_taken faults log t k xs ys e is (inr made) = (made.0, made.1, made.2, made.4, let h = made.3 in cc)

-- a clone leaves the number and what it is used for
pub clone_leaves : {D : Type 0} (faults : D → ℕ) (log : LogState D) (k : CloneKind) (z : Result (CloneNo × Answer) TxError) (x y : LiveState) → IfOk z (λ r. Clones faults log k r.0 r.1 x y)
    → OnErr z (y ≡ record x { cloned = y.cloned }) → (y.usage ≡ x.usage) × (y.number ≡ x.number)
clone_leaves faults log k (Ok r) x y made failed = (ap (λ (v : LiveState). v.usage) made.called.rest, ap (λ (v : LiveState). v.number) made.called.rest)
clone_leaves faults log k (Err e) x y made failed = (ap (λ (v : LiveState). v.usage) failed, ap (λ (v : LiveState). v.number) failed)

-- no clone was made at its place
pub not_cloned_at : {A : Type 0} (t : TxId) (z : Result A TxError) (xs ys : List LiveState) (x y : LiveState) → live_at t xs ≡ Some x → live_at t ys ≡ Some y → OnErr z (y ≡ record x { cloned = y.cloned }) → OnErr z (NumbersClones t xs ys)
not_cloned_at t (Ok r) xs ys x y was now failed = tt
not_cloned_at t (Err e) xs ys x y was now failed = λ v at. (y, now, failed ∙ ap (λ (u : LiveState). record u { cloned = y.cloned }) (one_at t xs x v was at))

-- the clone that was made at its place
pub cloned_at : {D : Type 0} (faults : D → ℕ) (log : LogState D) (t : TxId) (k : CloneKind) (z : Result (CloneNo × Answer) TxError) (xs ys : List LiveState) (x y : LiveState) → live_at t xs ≡ Some x → live_at t ys ≡ Some y → x.number ≡ t
    → IfOk z (λ r. Clones faults log k r.0 r.1 x y) → IfOk z (λ r. ClonesAt faults log t k r.0 r.1 xs ys)
cloned_at faults log t k (Ok r) xs ys x y was now numbered made = record { before = x; after = y; was = was; now = now; numbered = numbered; clones = made }
cloned_at faults log t k (Err e) xs ys x y was now numbered made = tt

-- the answer that came to a call that had to wait
pub answered_late : (t : TxId) (line : ℕ) (first : Answer) (z : Result Answer TxError) (xs : List LiveState) → first ≡ Wait
    → IfOk z (λ a. (x : LiveState) × (live_at t xs ≡ Some x) × Has (Answered line a) (past x)) → IfOk z (λ a. IsAnswered t line first a xs)
answered_late t line first (Ok a) xs waits found = inr (waits, found.0, found.1, found.2)
answered_late t line first (Err e) xs waits found = tt

-- What enlists a durable resource of a manager, or a promotable one, makes an enlistment of that manager.
pub makes_durable : (t : TxNo) (e : EnlNo) (r : RmNo) (p : Phases) → is_maker_of e.value r.value (enlists t e (Durable r p)) ≡ true
makes_durable t e r Two = and_both (e.value == e.value) (r.value == r.value) (eq_self e.value) (eq_self r.value)
makes_durable t e r Single = and_both (e.value == e.value) (r.value == r.value) (eq_self e.value) (eq_self r.value)

pub makes_promotable : (t : TxNo) (e : EnlNo) (r : RmNo) → is_maker_of e.value r.value (enlists t e (Promotable r)) ≡ true
makes_promotable t e r = and_both (e.value == e.value) (r.value == r.value) (eq_self e.value) (eq_self r.value)

-- the call that enlisted something was entered
entered_call : {D : Type 0} (faults : D → ℕ) (log : LogState D) (k : Kind) (e : EnlNo) (line : ℕ) (answer : Answer) (x y : LiveState) → Enlists faults log k e line answer x y
    → (n : EnteredCall) × (n.call ≡ enlists x.number.t e k) × (y.tx.world.calls ≡ n ∷ x.tx.world.calls)
entered_call faults log k e line answer x y l =
    let c = l.called in
    let call = enlists x.number.t e k in (
      record { line = line; actor = c.actor; call = call },
      refl,
      calls_after log.is_up (Calls line c.actor call 0) (record x { enlisted = e.value }) y (record { transaction = c.done.transaction; world = c.done.world; onward = refl }),
    )

-- What enlists a volatile makes one of that number.
made_volatile : {D : Type 0} (faults : D → ℕ) (log : LogState D) (t : TxId) (o : EnlistOption) (e : EnlNo) (line : ℕ) (answer : Answer) (old new : List LiveState) → EnlistsAt faults log t (Volatile o) e line answer old new
    → (z : LiveState) → live_at t new ≡ Some z → IsVolatile z.tx.world e.value
made_volatile faults log t o e line answer old new l z at =
    let c = entered_call faults log (Volatile o) e line answer l.before l.after l.enlists in
    let p : EnteredCall → Bool = λ k. makes_volatile e.value k.call in
    let first : makes_volatile e.value c.0.call ≡ true = ap (makes_volatile e.value) c.1 ∙ eq_self e.value in
    let is : has p l.after.tx.world.calls ≡ true = ap (has p) c.2 ∙ or_left (p c.0) (has p l.before.tx.world.calls) first in
    subst (λ (s : LiveState). IsVolatile s.tx.world e.value) (one_at t new l.after z l.now at) is

pub volatile_if : {D : Type 0} (faults : D → ℕ) (log : LogState D) (t : TxId) (o : EnlistOption) (old new : List LiveState) (r : Result Enlistment TxError)
    → IfOk r (λ e. (e.transaction ≡ t) × (line : ℕ) × (a : Answer) × EnlistsAt faults log t (Volatile o) e.number line a old new × (is_done a ≡ true)) → IfOk r (λ e. (z : LiveState) → live_at t new ≡ Some z → IsVolatile z.tx.world e.number.value)
volatile_if faults log t o old new (Ok e) k = made_volatile faults log t o e.number k.1 k.2 old new k.3
volatile_if faults log t o old new (Err e) k = tt

-- So it is that manager's, whatever the objects heard after it.
pub of_manager : {D C O : Type 0} (faults : D → ℕ) (honest : Bool) (image : D → List ℕ → Type 0) (gives : Gives O) (t : TxId) (k : Kind) (e : EnlNo) (r : RmNo) (line : ℕ) (answer : Answer) (old mid new : Standing D C) (a b : O)
    → ((u : TxNo) → is_maker_of e.value r.value (enlists u e k) ≡ true) → EnlistsAt faults old.log t k e line answer old.lives mid.lives → HeardAt honest image gives [] t mid new a b
    → ((x : LiveState) → live_at t new.lives ≡ Some x → HasRun honest image new.log x) → (z : LiveState) → live_at t new.lives ≡ Some z → IsOf z.tx.world r.value e.value
of_manager faults honest image gives t k e r line answer old mid new a b maker l h run z at =
    let q : Call → Bool = is_maker_of e.value r.value in
    let c = entered_call faults old.log k e line answer l.before l.after l.enlists in
    let first : IsCallAt l.after.tx.world.calls q = subst (λ (ks : List EnteredCall). IsCallAt ks q) (sym c.2) (call_first c.0 l.before.tx.world.calls q (ap q c.1 ∙ maker l.before.number.t)) in
    let y = h l.after l.now in
    let known = run y.0 y.1 in
    subst (λ (s : LiveState). IsOf s.tx.world r.value e.value) (one_at t new.lives y.0 z y.1 at)
    (made_in (number_of y.0.tx.transaction) y.0.tx.world y.2.writes.called l.after.tx.world.calls r.value e.value known.once known.run y.2.writes.calls first)

-- the enlistment that was made has the number that was given
pub taken_number : (t : TxId) (n : EnlNo) (a : Answer) (o : Option Enlistment) (e : Enlistment) → IsTaken t n a o → o ≡ Some e → n ≡ e.number
taken_number t n a (Some x) e k s =
    let same : x ≡ e = cc in
    ap (λ (y : Enlistment). y.number) (sym k.0) ∙ ap (λ (y : Enlistment). y.number) same
taken_number t n a None e k s = absurd cc

pub some_made : {E : Type 0} (o : Option Enlistment) (e : Enlistment) → ◌≡◌ {A = Result (Option Enlistment) E} (Ok o) (Ok (Some e)) → o ≡ Some e
some_made o e q = cc
