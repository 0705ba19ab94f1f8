-- What a call or a reply makes of a transaction before its objects hear anything, and then what they make of it.
use Rattle.std.proofs.Common.{ℕ, Bool, ◌≡◌, ◌⊎◌, ◌∙◌, List, [], ◌++◌, Option, Some, Result, Ok, Err, OnOk, refl, ap, subst, sym, inl, inr}
use Rattle.dtx_values.specs.declared.call.Call.{Call}
use Rattle.dtx_values.specs.declared.entry.Answer.{Answer}
use Rattle.dtx_values.specs.declared.entry.Entry.{Entry}
use Rattle.dtx_values.specs.TxIds.{identifier_of_id}
use Rattle.dtx_values.specs.declared.tx_id.TxId.{TxId}
use Rattle.dtx_model.specs.Words.{onto}
use Rattle.dtx_model.specs.Steps.{Calls}
use Rattle.dtx_model.proofs.Histories.{onto-append}
use Rattle.coordinator_log.specs.State.{LogState}
use Rattle.transactions.specs.declared.error.TxError.{TxError}
use Rattle.transactions.specs.declared.error.TxError.TheVariants.{Refused}
use Rattle.transactions.specs.Calling.{IsCalled}
use Rattle.transactions.specs.Doing.{Called, CallsAt, HeardAt, IsRefused, MayFail}
use Rattle.dtx_values.specs.declared.number.EnlNo.{EnlNo}
use Rattle.transactions.specs.declared.kind.Kind.{Kind}
use Rattle.transactions.specs.Enlisting.{Enlists, EnlistsAt, IsNotEnlisted, NumbersEnlistments, enlists}
use Rattle.transactions.specs.Hearing.{Given, IsHeard, Writes}
use Rattle.transactions.specs.Slots.{KeepsRest, Standing, live_at}
use Rattle.transactions.specs.State.{LiveState, past}
use Rattle.transactions.proofs.Driving.{GivenAt, Gives, WithinAt, heard_given, heard_none_at, heard_on}
use Rattle.transactions.proofs.Sound.{writes_step}
use Rattle.transactions.proofs.Untouched.{keeps_same, keeps_then}

-- a call writes no reply
pub call_writes : {D : Type 0} (faults : D → ℕ) (log : LogState D) (c : Call) (line : ℕ) (answer : Answer) (x y : LiveState) → IsCalled faults log c line answer x y → Writes [] x y
call_writes faults log c line answer x y k =
    writes_step log.is_up (Calls line k.actor c 0) x y (record { transaction = k.done.transaction; world = k.done.world; onward = refl })

-- so nothing is heard of it
pub call_heard : {D O : Type 0} (faults : D → ℕ) (log : LogState D) (gives : Gives O) (c : Call) (line : ℕ) (answer : Answer) (x y : LiveState) (a : O) → IsCalled faults log c line answer x y
    → IsHeard gives [] x y a a
call_heard faults log gives c line answer x y a k =
    heard_given gives [] x y a (call_writes faults log c line answer x y k) (ap (λ (s : LiveState). s.heard) k.rest) (ap (λ (s : LiveState). s.number) k.rest)

-- what is there is one thing
pub some_same : {A : Type 0} (o : Option A) (x y : A) → o ≡ Some x → o ≡ Some y → x ≡ y
some_same o x y e f = cc

-- the same, of the transaction of a number
pub calls_heard : {D C O : Type 0} (faults : D → ℕ) (honest : Bool) (image : D → List ℕ → Type 0) (gives : Gives O) (t : TxId) (c : Call) (line : ℕ) (answer : Answer) (old new : Standing D C) (a : O)
    → CallsAt faults old.log t c line answer old.lives new.lives → new.log ≡ old.log → HeardAt honest image gives [] t old new a a
calls_heard faults honest image gives t c line answer old new a k log x at = (
  k.after,
  k.now,
  subst (λ (s : LiveState). IsHeard gives [] s k.after a a) (some_same (live_at t old.lives) k.before x k.was at) (call_heard faults old.log gives c line answer k.before k.after a k.called),
  keeps_same honest image (identifier_of_id t) old.log new.log log,
)

-- What one part made, and then the next.
pub heard_on_at : {D C O : Type 0} (honest : Bool) (image : D → List ℕ → Type 0) (gives : Gives O) (gs hs : List Given) (t : TxId) (old mid new : Standing D C) (a b c : O) → HeardAt honest image gives gs t old mid a b
    → WithinAt t mid.lives → HeardAt honest image gives hs t mid new b c → HeardAt honest image gives (gs ++ hs) t old new a c
heard_on_at honest image gives gs hs t old mid new a b c h within k x at =
    let y = h x at in
    let z = k y.0 y.1 in
    (z.0, z.1, heard_on gives gs hs x y.0 z.0 a b c y.2 z.2 (within y.0 y.1), keeps_then honest image (identifier_of_id t) old.log mid.log new.log y.3 z.3)

-- a call that was done or waits
pub called_heard : {D C O : Type 0} (faults : D → ℕ) (honest : Bool) (image : D → List ℕ → Type 0) (gives : Gives O) (t : TxId) (c : Call) (old new : Standing D C) (a : O)
    → Called faults old.log t c old.lives new.lives → new.log ≡ old.log → HeardAt honest image gives [] t old new a a
called_heard faults honest image gives t c old new a k log = calls_heard faults honest image gives t c k.0 k.1 old new a k.2 log

-- a call, and what its objects made of it then
pub goes_heard : {D C O : Type 0} (faults : D → ℕ) (honest : Bool) (image : D → List ℕ → Type 0) (gives : Gives O) (t : TxId) (c : Call) (old mid new : Standing D C) (a b : O)
    → Called faults old.log t c old.lives mid.lives → KeepsRest old mid → WithinAt t mid.lives → HeardAt honest image gives [] t mid new a b → HeardAt honest image gives [] t old new a b
goes_heard faults honest image gives t c old mid new a b k rest within h =
    heard_on_at honest image gives [] [] t old mid new a a b (called_heard faults honest image gives t c old mid a k (ap (λ (s : Standing _ _). s.log) rest)) within h

-- what was heard from a state is so however that is named
pub heard_from : {D C O : Type 0} (honest : Bool) (image : D → List ℕ → Type 0) (gives : Gives O) (t : TxId) (old mid new : Standing D C) (a b : O) → KeepsRest old mid → HeardAt honest image gives [] t mid new a b
    → HeardAt honest image gives [] t (record old { lives = mid.lives }) new a b
heard_from honest image gives t old mid new a b rest h = subst (λ (s : Standing _ _). HeardAt honest image gives [] t s new a b) rest h

-- Where the call wasn't done, the transaction is as it was, or it refused the call.
pub unentered_heard : {D C O : Type 0} (faults : D → ℕ) (honest : Bool) (image : D → List ℕ → Type 0) (gives : Gives O) (t : TxId) (c : Call) (old new : Standing D C) (a : O) (e : TxError) → KeepsRest old new
    → (MayFail t old.lives e × (live_at t new.lives ≡ live_at t old.lives)) ⊎ ((answer : Answer) × (e ≡ Refused answer) × IsRefused faults old.log t c answer old.lives new.lives)
    → HeardAt honest image gives [] t old new a a
unentered_heard faults honest image gives t c old new a e rest (inl k) = heard_none_at honest image gives t old new a k.1 (ap (λ (s : Standing _ _). s.log) rest)
unentered_heard faults honest image gives t c old new a e rest (inr k) = calls_heard faults honest image gives t c k.2.0 k.0 old new a k.2.1 (ap (λ (s : Standing _ _). s.log) rest)

-- A call that enlists something is heard of by nobody,
enlist_heard : {D O : Type 0} (faults : D → ℕ) (log : LogState D) (gives : Gives O) (k : Kind) (e : EnlNo) (line : ℕ) (answer : Answer) (x y : LiveState) (a : O) → Enlists faults log k e line answer x y
    → IsHeard gives [] x y a a
enlist_heard faults log gives k e line answer x y a l =
    let w = call_writes faults log (enlists x.number.t e k) line answer (record x { enlisted = e.value }) y l.called in
    heard_given gives [] x y a (record { written = w.written; grown = w.grown; said = w.said; called = w.called; calls = w.calls }) (ap (λ (s : LiveState). s.heard) l.called.rest)
    (ap (λ (s : LiveState). s.number) l.called.rest)

pub enlists_heard : {D C O : Type 0} (faults : D → ℕ) (honest : Bool) (image : D → List ℕ → Type 0) (gives : Gives O) (t : TxId) (k : Kind) (e : EnlNo) (line : ℕ) (answer : Answer) (old new : Standing D C) (a : O)
    → EnlistsAt faults old.log t k e line answer old.lives new.lives → KeepsRest old new → HeardAt honest image gives [] t old new a a
enlists_heard faults honest image gives t k e line answer old new a l rest x at = (
  l.after,
  l.now,
  subst (λ (s : LiveState). IsHeard gives [] s l.after a a) (some_same (live_at t old.lives) l.before x l.was at) (enlist_heard faults old.log gives k e line answer l.before l.after a l.enlists),
  keeps_same honest image (identifier_of_id t) old.log new.log (ap (λ (s : Standing _ _). s.log) rest),
)

-- and so is that an enlistment was numbered, and nothing else.
pub numbers_heard : {D C O : Type 0} (honest : Bool) (image : D → List ℕ → Type 0) (gives : Gives O) (t : TxId) (old new : Standing D C) (a : O) → NumbersEnlistments t old.lives new.lives → KeepsRest old new
    → HeardAt honest image gives [] t old new a a
numbers_heard honest image gives t old new a n rest x at =
    let y = n x at in (
      y.0,
      y.1,
      heard_given gives [] x y.0 a
          (record { written = []; grown = ap (λ (s : LiveState). past s) y.2; said = refl; called = []; calls = ap (λ (s : LiveState). s.tx.world.calls) y.2 })
          (ap (λ (s : LiveState). s.heard) y.2) (ap (λ (s : LiveState). s.number) y.2),
      keeps_same honest image (identifier_of_id t) old.log new.log (ap (λ (s : Standing _ _). s.log) rest),
    )

-- Nothing was enlisted, whatever the cause.
pub unenlisted_heard : {D C O : Type 0} (faults : D → ℕ) (honest : Bool) (image : D → List ℕ → Type 0) (gives : Gives O) (t : TxId) (k : Kind) (old new : Standing D C) (a : O) (e : TxError)
    → IsNotEnlisted faults old.log t k old.lives new.lives e → KeepsRest old new → HeardAt honest image gives [] t old new a a
unenlisted_heard faults honest image gives t k old new a e (inl n) rest = numbers_heard honest image gives t old new a n.1 rest
unenlisted_heard faults honest image gives t k old new a e (inr n) rest = enlists_heard faults honest image gives t k n.0 n.1 n.2 old new a n.4 rest

-- Something was enlisted, and then its objects heard what came of it.
pub enlisted_heard : {D C O : Type 0} (faults : D → ℕ) (honest : Bool) (image : D → List ℕ → Type 0) (gives : Gives O) (t : TxId) (k : Kind) (e : EnlNo) (line : ℕ) (answer : Answer) (old mid new : Standing D C) (a b : O)
    → EnlistsAt faults old.log t k e line answer old.lives mid.lives → KeepsRest old mid → WithinAt t mid.lives → HeardAt honest image gives [] t mid new a b → HeardAt honest image gives [] t old new a b
enlisted_heard faults honest image gives t k e line answer old mid new a b l rest within h =
    heard_on_at honest image gives [] [] t old mid new a a b (enlists_heard faults honest image gives t k e line answer old mid a l rest) within h

-- A call was entered that makes nothing, and then its objects heard what came of it.
pub entered_heard : {D C O : Type 0} (faults : D → ℕ) (honest : Bool) (image : D → List ℕ → Type 0) (gives : Gives O) (t : TxId) (c : Call) (line : ℕ) (answer : Answer) (old mid new : Standing D C) (a b : O)
    → CallsAt faults old.log t c line answer old.lives mid.lives → KeepsRest old mid → WithinAt t mid.lives → HeardAt honest image gives [] t mid new a b → HeardAt honest image gives [] t old new a b
entered_heard faults honest image gives t c line answer old mid new a b k rest within h =
    heard_on_at honest image gives [] [] t old mid new a a b (calls_heard faults honest image gives t c line answer old mid a k (ap (λ (s : Standing _ _). s.log) rest)) within h

-- A reply of the call itself.
pub given_heard : {D C O : Type 0} (honest : Bool) (image : D → List ℕ → Type 0) (gives : Gives O) (gs : List Given) (t : TxId) (old new : Standing D C) (a : O) → GivenAt gs t old.lives new.lives → KeepsRest old new
    → HeardAt honest image gives gs t old new a a
given_heard honest image gives gs t old new a g rest x at =
    let y = g x at in (
      y.0,
      y.1,
      heard_given gives gs x y.0 a y.2 (ap (λ (s : LiveState). s.heard) y.3) (ap (λ (s : LiveState). s.number) y.3),
      keeps_same honest image (identifier_of_id t) old.log new.log (ap (λ (s : Standing _ _). s.log) rest),
    )

-- What a reply wrote comes first, and then what its objects made of it.
pub replied_on : {D C O : Type 0} (honest : Bool) (image : D → List ℕ → Type 0) (gives : Gives O) (block : List Entry) (h : List Entry) (t : TxId) (mid new : Standing D C) (y : LiveState) (a b : O)
    → live_at t mid.lives ≡ Some y → (es : List Entry) → past y ≡ onto (onto h block) es → HeardAt honest image gives [] t mid new a b
    → (z : LiveState) × (live_at t new.lives ≡ Some z) × (fs : List Entry) × (past z ≡ onto (onto h block) fs)
replied_on honest image gives block h t mid new y a b at es grown k =
    let z = k y at in
    (z.0, z.1, es ++ z.2.writes.written, z.2.writes.grown ∙ (ap (λ xs. onto xs z.2.writes.written) grown ∙ sym (onto-append (onto h block) es z.2.writes.written)))

-- what is so in any case is so where it was done
pub on_ok : {A E P : Type 0} (z : Result A E) → P → OnOk z P
on_ok (Ok x) p = p
on_ok (Err e) p = tt
