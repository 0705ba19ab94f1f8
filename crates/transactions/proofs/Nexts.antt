-- What comes next in one transaction of a manager.
use Rattle.std.proofs.Common.{ℕ, ◌≡◌, ◌≤◌, ◌∙◌, List, [], ◌∷◌, Option, Some, None, Result, Ok, Err, IfOk, OnErr, length, refl, ap, subst, sym, inl, inr}
use Rattle.dtx_values.specs.declared.entry.Entry.{Entry}
use Rattle.dtx_values.specs.declared.note.Reply.{Reply}
use Rattle.dtx_values.specs.declared.number.EnlNo.{EnlNo}
use Rattle.dtx_values.specs.declared.tx_id.TxId.{TxId}
use Rattle.dtx_model.specs.Replies.{reply_entries}
use Rattle.dtx_model.specs.Steps.{Replies}
use Rattle.dtx_model.specs.Words.{onto}
use Rattle.dtx_model.specs.World.{half}
use Rattle.coordinator_log.specs.State.{LogState}
use Rattle.tx_world.specs.Stepping.{Does}
use Rattle.transactions.specs.declared.error.TxError.{TxError}
use Rattle.transactions.specs.declared.event.Advance.{Advance}
use Rattle.transactions.specs.declared.event.Event.{Event}
use Rattle.transactions.specs.Doing.{AdvancesAt}
use Rattle.transactions.specs.Hearing.{Advances, Writes, heard_in}
use Rattle.transactions.specs.Slots.{AreSame, KeepsTime, Standing, live_at}
use Rattle.transactions.specs.State.{LiveState, past}
use Rattle.transactions.specs.Waiting.{AllAsked}
use Rattle.transactions.proofs.Advancing.{Onward, going_none, going_on, onward_next}
use Rattle.transactions.proofs.Sound.{replied_onto}

-- what a transaction did leaves the number and what it is used for
pub next_leaves : (z : Result Advance TxError) (x y : LiveState) → IfOk z (λ a. Advances (heard_in a) x y) → OnErr z (Advances None x y) → (y.usage ≡ x.usage) × (y.number ≡ x.number)
next_leaves (Ok a) x y comes stays = (ap (λ (v : LiveState). v.usage) comes.rest, ap (λ (v : LiveState). v.number) comes.rest)
next_leaves (Err e) x y comes stays = (ap (λ (v : LiveState). v.usage) stays.rest, ap (λ (v : LiveState). v.number) stays.rest)

-- two transactions of one number are one
pub one_at : (t : TxId) (xs : List LiveState) (x y : LiveState) → live_at t xs ≡ Some x → live_at t xs ≡ Some y → x ≡ y
one_at t xs x y a b = the_same (sym a ∙ b)
  where
    the_same : Some x ≡ Some y → x ≡ y
    the_same q = cc

-- what came of the transaction at its place
pub came_at : (t : TxId) (z : Result Advance TxError) (xs ys : List LiveState) (x y : LiveState) → live_at t xs ≡ Some x → live_at t ys ≡ Some y → IfOk z (λ a. Advances (heard_in a) x y)
    → IfOk z (λ a. AdvancesAt (heard_in a) t xs ys)
came_at t (Ok a) xs ys x y was now comes = λ v at. (y, now, subst (λ (u : LiveState). Advances (heard_in a) u y) (one_at t xs x v was at) comes)
came_at t (Err e) xs ys x y was now comes = tt

pub stayed_at : (t : TxId) (z : Result Advance TxError) (xs ys : List LiveState) (x y : LiveState) → live_at t xs ≡ Some x → live_at t ys ≡ Some y → OnErr z (Advances None x y)
    → OnErr z (AdvancesAt None t xs ys)
stayed_at t (Ok a) xs ys x y was now stays = tt
stayed_at t (Err e) xs ys x y was now stays = λ v at. (y, now, subst (λ (u : LiveState). Advances None u y) (one_at t xs x v was at) stays)

pub all_at : (t : TxId) (ys : List LiveState) (y : LiveState) → live_at t ys ≡ Some y → (y.heard ≡ length (past y)) × AllAsked y.tx.world → (w : LiveState) → live_at t ys ≡ Some w → (w.heard ≡ length (past w)) × AllAsked w.tx.world
all_at t ys y now all w at = subst (λ (u : LiveState). (u.heard ≡ length (past u)) × AllAsked u.tx.world) (one_at t ys y w now at) all

-- Where a transaction of this number goes on, it is as it was, or it went on and nothing was heard that says something; the others and the time stood.
abbrev pub OnwardAt : {D C : Type 0} → TxId → Standing D C → Standing D C → Type 0
OnwardAt t old now = ((x : LiveState) → live_at t old.lives ≡ Some x → (y : LiveState) × (live_at t now.lives ≡ Some y) × Onward x y) × AreSame t old.lives now.lives × KeepsTime old now

pub onward_none : {D C : Type 0} (t : TxId) (s : Standing D C) → OnwardAt t s s
onward_none t s = (λ x at. (x, at, inl refl), λ u n. refl, ((refl, refl), refl))

-- So it did nothing that says something, where what was heard before was there.
pub onward_at : {D C : Type 0} (t : TxId) (old now : Standing D C) → ((x : LiveState) → live_at t old.lives ≡ Some x → x.heard ≤ length (past x)) → OnwardAt t old now → AdvancesAt None t old.lives now.lives
onward_at t old now within o x at =
    let y = o.0 x at in
    (y.0, y.1, onward_none_heard x y.0 (within x at) y.2)
  where
    onward_none_heard : (x y : LiveState) → x.heard ≤ length (past x) → Onward x y → Advances None x y
    onward_none_heard x y room (inl same) = subst (λ (v : LiveState). Advances None x v) (sym same) (going_on x x (going_none x) room room)
    onward_none_heard x y room (inr b) = b

-- and then it did this
pub onward_then : (e : Option Event) {D C : Type 0} (t : TxId) (old mid new : Standing D C) → OnwardAt t old mid → AdvancesAt e t mid.lives new.lives → AdvancesAt e t old.lives new.lives
onward_then e t old mid new o a x at =
    let y = o.0 x at in
    let z = a y.0 y.1 in
    (z.0, z.1, onward_next e x y.0 z.0 y.2 z.2)

pub onward_on : {D C : Type 0} (t : TxId) (old mid new : Standing D C) → OnwardAt t old mid → AdvancesAt None t mid.lives new.lives → AreSame t mid.lives new.lives → KeepsTime mid new → OnwardAt t old new
onward_on t old mid new o a same time = (
  λ x at. (let z = onward_then None t old mid new o a x at in (z.0, z.1, inr z.2)),
  λ u n. same u n ∙ o.1 u n,
  ((time.0.0 ∙ o.2.0.0, time.0.1 ∙ o.2.0.1), time.1 ∙ o.2.1),
)

-- where none of this number goes on after it, none did before
pub none_before : {D C : Type 0} (t : TxId) (old now : Standing D C) → OnwardAt t old now → live_at t now.lives ≡ None → live_at t old.lives ≡ None
none_before t old now o none = by (live_at t old.lives) refl
  where
    apart : {A : Type 0} (y : A) (q : Option A) → q ≡ Some y → q ≡ None → ⊥
    apart y (Some z) e n = absurd cc
    apart y None e n = absurd cc

    by : (q : Option LiveState) → live_at t old.lives ≡ q → live_at t old.lives ≡ None
    by None e = e
    by (Some x) e = let y = o.0 x e in absurd (apart y.0 (live_at t now.lives) y.1 none)

-- what is so of the transaction at its place is so of each of that number
pub so_at : {A E : Type 0} (P : A → LiveState → Type 0) (t : TxId) (xs : List LiveState) (x : LiveState) (z : Result A E) → live_at t xs ≡ Some x → IfOk z (λ b. P b x) → IfOk z (λ b. (v : LiveState) → live_at t xs ≡ Some v → P b v)
so_at P t xs x (Ok b) was so = λ v at. subst (P b) (one_at t xs x v was at) so
so_at P t xs x (Err e) was so = tt

-- a reply that was done at its place
pub replied_at : {D : Type 0} (faults : D → ℕ) (log : LogState D) (t : TxId) (e : EnlNo) (r : Reply) (xs ys : List LiveState) (x y : LiveState) → live_at t xs ≡ Some x → live_at t ys ≡ Some y
    → Does faults (Replies e r) x.tx log y.tx log → Writes ((e, r) ∷ []) x y → y ≡ record x { tx = y.tx } → (v : LiveState) → live_at t xs ≡ Some v
    → (w : LiveState) × (live_at t ys ≡ Some w) × Writes ((e, r) ∷ []) v w × (w ≡ record v { tx = w.tx }) × (es : List Entry) × (past w ≡ onto (onto (past v) (reply_entries (half v.tx.world) e r)) es)
replied_at faults log t e r xs ys x y was now did writes rest v at =
    subst (λ (u : LiveState). (w : LiveState) × (live_at t ys ≡ Some w) × Writes ((e, r) ∷ []) u w × (w ≡ record u { tx = w.tx }) × (es : List Entry) × (past w ≡ onto (onto (past u) (reply_entries (half u.tx.world) e r)) es))
    (one_at t xs x v was at) (y, now, writes, rest, (replied_onto faults log e r x y.tx did).0, (replied_onto faults log e r x y.tx did).1)
