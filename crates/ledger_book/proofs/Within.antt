-- The write of a transaction in a book: all or nothing holds after each of its parts.
use Rattle.std.specs.Prelude.{◌≢◌, IsTrue, IsSome, OnErr, OnOk}
use Rattle.std.proofs.Common.{◌≡◌, ◌⊎◌, inl, inr, ℕ, ◌==◌, ◌<◌, ◌≤◌, Bool, true, false, List, [], ◌∷◌, Option, Some, None, Result, Ok, Err, refl, ap, subst, sym, ◌∙◌}
use Rattle.dtx_values.specs.TxIds.{number_of}
use Rattle.dtx_values.specs.declared.call.Call.TheVariants.{Begin}
use Rattle.dtx_values.specs.declared.entry.Answer.TheVariants.{Fine}
use Rattle.dtx_values.specs.declared.note.Note.{Note}
use Rattle.dtx_values.specs.declared.note.Reply.{Reply}
use Rattle.dtx_values.specs.declared.number.EnlNo.{EnlNo}
use Rattle.dtx_values.specs.declared.tx_id.TxId.{TxId}
use Rattle.dtx_values.specs.declared.words.Timeout.{Timeout}
use Rattle.dtx_values.proofs.Ids.{same_id}
use Rattle.std.proofs.lemmas.Bool.{and_parts, eqb-true, false_from_ne_true}
use Rattle.dtx_model.specs.World.{World}
use Rattle.record_laws.specs.Recorded.{IsOf}
use Rattle.resource_managers.specs.Pairs.{enlistment, pair_of}
use Rattle.resource_managers.specs.declared.enlistment.Enlistment.{Enlistment}
use Rattle.kv_resource.specs.Store.{KvState, Pair, after_put}
use Rattle.transactions.specs.Calling.{IsCalled}
use Rattle.transactions.specs.Doing.{HasRunAt, HeardAt}
use Rattle.transactions.specs.Ending.{IsLeft}
use Rattle.transactions.specs.Events.{note_in}
use Rattle.transactions.specs.Hearing.{Given, Hears, HearsNote}
use Rattle.transactions.specs.Logged.{KeepsCommits}
use Rattle.transactions.specs.Slots.{AreSame, KeepsRest, KeepsTime, Standing, live_at}
use Rattle.transactions.specs.State.{LiveState, blank}
use Rattle.transactions.specs.declared.event.Event.{Event}
use Rattle.all_or_nothing.proofs.Turns.{left_so}
use Rattle.all_or_nothing.specs.Marks.{At, Nowhere, Place}
use Rattle.all_or_nothing.specs.Whole.{IsAllOrNothing, IsBeginning, IsBetween, IsCall, IsGivenUp, IsHeardOn, IsNumbering}
use Rattle.resource_managers.specs.Holding.{Holding}
use Rattle.kv_holding.specs.Holding.{KvKeeps, KvLeaves, KvSound, is_pair}
use Rattle.kv_holding.specs.TwoStores.{KeptBy, is_as, place_by, place_of}
use Rattle.ledger_book.specs.Accounts.{at_side, manager_of}
use Rattle.ledger_book.specs.Holding.{stores_give, stores_keep, stores_leave, stores_place, stores_sound}
use Rattle.ledger_book.specs.Whole.{AreFree, IsOfTransaction, IsWholeBook, IsWriting}
use Rattle.ledger_book.specs.declared.account.Account.{Account}
use Rattle.ledger_book.specs.declared.account.Side.{Side}
use Rattle.ledger_book.specs.declared.account.Side.TheVariants.{Left, Right}
use Rattle.ledger_book.specs.declared.book.Book.{Book}
use Rattle.ledger_book.specs.declared.stores.Stores.{Stores}

-- all or nothing, of a manager and the stores
abbrev pub AllOrNothing : {D C : Type 0} → Bool → (D → List ℕ → Type 0) → Standing D C → Stores D → Type 0
AllOrNothing honest image m o = IsAllOrNothing image stores_place (stores_keep honest image) (stores_leave honest image) (stores_sound honest image) m o

-- ---- the laws, which a caller has

abbrev pub CallLaw : (D C : Type 0) → Bool → (D → List ℕ → Type 0) → (D → ℕ) → Type 0
CallLaw D C honest image faults =
    (t : TxId) (m n : Standing D C) (o p : Stores D) → IsTrue honest → AllOrNothing honest image m o → IsCall honest image (stores_give honest image faults) [] t m n o p → AllOrNothing honest image n p

abbrev pub BetweenLaw : (D C : Type 0) → Bool → (D → List ℕ → Type 0) → Type 0
BetweenLaw D C honest image =
    (m : Standing D C) (o p : Stores D) → AllOrNothing honest image m o → IsBetween stores_place (stores_keep honest image) (stores_leave honest image) (stores_sound honest image) m o p → AllOrNothing honest image m p

-- ---- where the stores hear an enlistment

-- one of another transaction isn't that of a store
of_another : (t u : TxId) (e : EnlNo) (o : Option Enlistment) → IsOfTransaction t o → u ≢ t → is_as o (enlistment u e) ≡ false
of_another t u e None of n = refl
of_another t u e (Some x) of n = false_from_ne_true (is_pair (pair_of x) (number_of u) e.value) (λ is.
    let parts = and_parts (number_of x.transaction == number_of u) (x.number.value == e.value) is in
    n (sym (same_id x.transaction u (eqb-true (number_of x.transaction) (number_of u) parts.0)) ∙ of x refl))

-- where it is, it is that store's
of_this : (x : Enlistment) (u : TxId) (e : EnlNo) → is_as (Some x) (enlistment u e) ≡ true → (x.transaction ≡ u) × (x.number.value ≡ e.value)
of_this x u e is =
    let parts = and_parts (number_of x.transaction == number_of u) (x.number.value == e.value) is in
    (same_id x.transaction u (eqb-true (number_of x.transaction) (number_of u) parts.0), eqb-true x.number.value e.value parts.1)

-- what is heard at neither isn't kept
unkept : (a c : Bool) (L R : Type 0) → a ≡ false → c ≡ false → KeptBy a c L R → ⊥
unkept false false L R p q k = k
unkept true c L R p q k = absurd cc
unkept false true L R p q k = absurd cc

-- ---- what a note leaves

-- what the stores are enlisted as stays
abbrev pub AreEnlistedSo : {D : Type 0} → Stores D → Stores D → Type 0
AreEnlistedSo old new = (new.left_as ≡ old.left_as) × (new.right_as ≡ old.right_as)

note_leaves : {D : Type 0} (honest : Bool) (image : D → List ℕ → Type 0) (faults : D → ℕ) (x : Option (Enlistment × Note)) (a b : Stores D) (rs : List Given) → HearsNote (stores_give honest image faults) x a rs b → AreEnlistedSo a b
note_leaves honest image faults (Some x) a b rs h = h.1.1
note_leaves honest image faults None a b rs h = (ap (λ (s : Stores _). s.left_as) h.1, ap (λ (s : Stores _). s.right_as) h.1)

notes_leave : {D : Type 0} (honest : Bool) (image : D → List ℕ → Type 0) (faults : D → ℕ) (xs : List Event) (a b : Stores D) (rs : List Given) → Hears (stores_give honest image faults) xs a rs b → AreEnlistedSo a b
notes_leave honest image faults [] a b rs h = (ap (λ (s : Stores _). s.left_as) h.1, ap (λ (s : Stores _). s.right_as) h.1)
notes_leave honest image faults (x ∷ xs) a b rs h =
    let first = note_leaves honest image faults (note_in x) a h.0 h.1 h.3 in
    let rest = notes_leave honest image faults xs h.0 b h.2 h.4 in
    (rest.0 ∙ first.0, rest.1 ∙ first.1)

-- ---- a call

pub called : {D C : Type 0} (honest : Bool) (image : D → List ℕ → Type 0) (faults : D → ℕ) (t : TxId) (m n : Book D C) → CallLaw D C honest image faults → IsTrue honest → HasRunAt honest image t m.manager → HasRunAt honest image t n.manager
    → HeardAt honest image (stores_give honest image faults) [] t m.manager n.manager m.stores n.stores → AreSame t m.manager.lives n.manager.lives → KeepsTime m.manager n.manager → IsWriting honest image t m
    → IsWriting honest image t n × AreEnlistedSo m.stores n.stores
called honest image faults t m n law is before after heard others time w =
    let h = heard w.transaction w.on in
    let same = notes_leave honest image faults h.2.said m.stores n.stores h.2.replies h.2.hears in
    let call : IsCall honest image (stores_give honest image faults) [] t m.manager n.manager m.stores n.stores = record {
      before = w.transaction;
      was = w.on;
      after = h.0;
      now = h.1;
      run_before = before w.transaction w.on;
      run = after h.0 h.1;
      heard = heard;
      others = others;
      last = time.1;
    } in (
      record {
        whole = law t m.manager n.manager m.stores n.stores is w.whole call;
        transaction = h.0;
        on = h.1;
        left = λ e so. w.left e (sym same.0 ∙ so);
        right = λ e so. w.right e (sym same.1 ∙ so);
      },
      same,
    )

-- a store that may be enlisted still may
pub still_free : {D : Type 0} (side : Side) (a b : Stores D) → AreEnlistedSo a b → AreFree side a → AreFree side b
still_free Left a b same free = (same.0 ∙ free.0, same.1 ∙ free.1)
still_free Right a b same free = same.1 ∙ free

-- ---- an enlistment

-- the stores, where this one is enlisted so
abbrev pub enlisted_as : {D : Type 0} → Side → Enlistment → Stores D → Stores D
enlisted_as side e o = at_side side (record o { left_as = Some e }) (record o { right_as = Some e })

-- whether it is enlisted so decides where it is heard
heard_left : (w : World) (e : ℕ) (b : Bool) → (b ≡ true → IsOf w 1 e) → IsHeardOn w e (place_by 1 2 false false) (place_by 1 2 b false)
heard_left w e true of = inr (refl, of refl)
heard_left w e false of = inl refl

heard_right : (w : World) (e : ℕ) (a b : Bool) → (b ≡ true → IsOf w 2 e) → IsHeardOn w e (place_by 1 2 a false) (place_by 1 2 a b)
heard_right w e true b of = inl refl
heard_right w e false true of = inr (refl, of refl)
heard_right w e false false of = inl refl

kept_right : (a b : Bool) (L R : Type 0) → KeptBy a false L R → KeptBy a b L R
kept_right true b L R k = k
kept_right false b L R k = absurd k

-- An enlistment of this transaction is of its manager, where the stores hear it so from now on.
enlists : {D C : Type 0} (honest : Bool) (image : D → List ℕ → Type 0) (t : TxId) (side : Side) (e : Enlistment) (m : Standing D C) (o : Stores D) → AreFree side o → e.transaction ≡ t
    → ((z : LiveState) → live_at t m.lives ≡ Some z → IsOf z.tx.world (manager_of side) e.number.value) → stores_sound honest image o
    → IsBetween stores_place (stores_keep honest image) (stores_leave honest image) (stores_sound honest image) m o (enlisted_as side e o)
enlists honest image t Left e m o free own of sound = record {
  places = λ u x at f. subst (λ p. IsHeardOn x.tx.world f.value p (place_by 1 2 (is_as (Some e) (enlistment u f)) (is_as o.right_as (enlistment u f)))) (sym (nowhere u f))
      (subst (λ (r : Option Enlistment). IsHeardOn x.tx.world f.value (place_by 1 2 false false) (place_by 1 2 (is_as (Some e) (enlistment u f)) (is_as r (enlistment u f)))) (sym free.1)
      (heard_left x.tx.world f.value (is_as (Some e) (enlistment u f)) (its u x at f)));
  kept = λ u x at f k. absurd (none u f k);
  left = λ ss l. l;
  memory = sound;
}
  where
    nowhere : (u : TxId) (f : EnlNo) → place_of 1 2 o.left_as o.right_as (enlistment u f) ≡ place_by 1 2 false false
    nowhere u f = ap (λ (l : Option Enlistment). place_of 1 2 l o.right_as (enlistment u f)) free.0 ∙ ap (λ (r : Option Enlistment). place_of 1 2 None r (enlistment u f)) free.1

    none : (u : TxId) (f : EnlNo) → stores_keep honest image o (enlistment u f) → ⊥
    none u f k =
        unkept (is_as o.left_as (enlistment u f)) (is_as o.right_as (enlistment u f)) (KvKeeps honest image o.left (pair_of (enlistment u f))) (KvKeeps honest image o.right (pair_of (enlistment u f))) (ap (λ (l : Option Enlistment). is_as l (enlistment u f)) free.0) (ap (λ (r : Option Enlistment). is_as r (enlistment u f)) free.1) k

    its : (u : TxId) (x : LiveState) → live_at u m.lives ≡ Some x → (f : EnlNo) → is_as (Some e) (enlistment u f) ≡ true → IsOf x.tx.world 1 f.value
    its u x at f is =
        let same = of_this e u f is in
        subst (λ k. IsOf x.tx.world 1 k) same.1 (of x (subst (λ v. live_at v m.lives ≡ Some x) (sym same.0 ∙ own) at))
enlists honest image t Right e m o free own of sound = record {
  places = λ u x at f. subst (λ (r : Option Enlistment). IsHeardOn x.tx.world f.value (place_by 1 2 (is_as o.left_as (enlistment u f)) (is_as r (enlistment u f))) (place_by 1 2 (is_as o.left_as (enlistment u f)) (is_as (Some e) (enlistment u f)))) (sym free)
      (heard_right x.tx.world f.value (is_as o.left_as (enlistment u f)) (is_as (Some e) (enlistment u f)) (its u x at f));
  kept = λ u x at f k. kept_right (is_as o.left_as (enlistment u f)) (is_as (Some e) (enlistment u f)) (KvKeeps honest image o.left (pair_of (enlistment u f))) (KvKeeps honest image o.right (pair_of (enlistment u f)))
      (subst (λ (r : Option Enlistment). KeptBy (is_as o.left_as (enlistment u f)) (is_as r (enlistment u f)) (KvKeeps honest image o.left (pair_of (enlistment u f))) (KvKeeps honest image o.right (pair_of (enlistment u f)))) free k);
  left = λ ss l. l;
  memory = sound;
}
  where
    its : (u : TxId) (x : LiveState) → live_at u m.lives ≡ Some x → (f : EnlNo) → is_as (Some e) (enlistment u f) ≡ true → IsOf x.tx.world 2 f.value
    its u x at f is =
        let same = of_this e u f is in
        subst (λ k. IsOf x.tx.world 2 k) same.1 (of x (subst (λ v. live_at v m.lives ≡ Some x) (sym same.0 ∙ own) at))

-- so the write goes on
pub enlisted : {D C : Type 0} (honest : Bool) (image : D → List ℕ → Type 0) (t : TxId) (side : Side) (e : Enlistment) (b : Book D C) → BetweenLaw D C honest image → AreFree side b.stores → e.transaction ≡ t
    → ((z : LiveState) → live_at t b.manager.lives ≡ Some z → IsOf z.tx.world (manager_of side) e.number.value) → IsWriting honest image t b → IsWriting honest image t (record b { stores = enlisted_as side e b.stores })
enlisted honest image t side e b law free own of w = by side free of
  where
    its : (x : Enlistment) → Some e ≡ Some x → x.transaction ≡ t
    its x same = let q : e ≡ x = cc in ap (λ (y : Enlistment). y.transaction) (sym q) ∙ own

    by : (s : Side) → AreFree s b.stores → ((z : LiveState) → live_at t b.manager.lives ≡ Some z → IsOf z.tx.world (manager_of s) e.number.value) → IsWriting honest image t (record b { stores = enlisted_as s e b.stores })
    by Left free of = record {
      whole = law b.manager b.stores (enlisted_as Left e b.stores) w.whole (enlists honest image t Left e b.manager b.stores free own of w.whole.memory);
      transaction = w.transaction;
      on = w.on;
      left = its;
      right = w.right;
    }
    by Right free of = record {
      whole = law b.manager b.stores (enlisted_as Right e b.stores) w.whole (enlists honest image t Right e b.manager b.stores free own of w.whole.memory);
      transaction = w.transaction;
      on = w.on;
      left = w.left;
      right = its;
    }

-- once the left store is enlisted, the right one may be
pub left_free : {D : Type 0} (side : Side) (e : Enlistment) (a o n : Stores D) → side ≡ Left → AreEnlistedSo a o → n ≡ enlisted_as side e o → AreFree Left a → AreFree Right n
left_free Left e a o n is same now free = ap (λ (s : Stores _). s.right_as) now ∙ (same.1 ∙ free.1)
left_free Right e a o n is same now free = absurd cc

-- ---- a put

abbrev pub PutLaw : (D : Type 0) → Bool → (D → List ℕ → Type 0) → Type 0
PutLaw D honest image = (s : KvState D) (p : Pair) (key value : ℕ) → KvSound honest image s → KvSound honest image (after_put p key value s)

-- a crash leaves of a store the same before a put and after it
put_before : {D : Type 0} (honest : Bool) (image : D → List ℕ → Type 0) (s : KvState D) (p : Pair) (key value : ℕ) (hs : List Holding) → KvLeaves honest image (after_put p key value s) hs → KvLeaves honest image s hs
put_before honest image s p key value hs (inl l) = inl (record { honestly = l.honestly; bytes = l.bytes; left = l.left; records = l.records; read = l.read; found = l.found })
put_before honest image s p key value hs (inr h) = inr h

put_keeps : {D : Type 0} (honest : Bool) (image : D → List ℕ → Type 0) (s : KvState D) (p : Pair) (key value : ℕ) (q : Pair) → KvKeeps honest image s q → KvKeeps honest image (after_put p key value s) q
put_keeps honest image s p key value q k = (k.0, λ hs l. k.1 hs (put_before honest image s p key value hs l))

kept_so : (a c : Bool) (L R M S : Type 0) → (L → M) → (R → S) → KeptBy a c L R → KeptBy a c M S
kept_so true c L R M S f g k = f k
kept_so false true L R M S f g k = g k
kept_so false false L R M S f g k = k

pub put_left : {D C : Type 0} (honest : Bool) (image : D → List ℕ → Type 0) (t : TxId) (p : Pair) (key value : ℕ) (b : Book D C) → BetweenLaw D C honest image → PutLaw D honest image → IsWriting honest image t b
    → IsWriting honest image t (record b { stores = record b.stores { left = after_put p key value b.stores.left } })
put_left honest image t p key value b law put w =
    let o = b.stores in
    let q : Stores _ = record o { left = after_put p key value o.left } in
    record {
      whole = law b.manager o q w.whole (record {
        places = λ u x at e. inl refl;
        kept = λ u x at e k. kept_so (is_as o.left_as (enlistment u e)) (is_as o.right_as (enlistment u e)) _ _ _ _ (put_keeps honest image o.left p key value (pair_of (enlistment u e))) (λ r. r) k;
        left = λ ss l. (l.0, l.1, put_before honest image o.left p key value l.0 l.2, l.3, l.4);
        memory = (put o.left p key value w.whole.memory.0, w.whole.memory.1);
      });
      transaction = w.transaction;
      on = w.on;
      left = w.left;
      right = w.right;
    }

pub put_right : {D C : Type 0} (honest : Bool) (image : D → List ℕ → Type 0) (t : TxId) (p : Pair) (key value : ℕ) (b : Book D C) → BetweenLaw D C honest image → PutLaw D honest image → IsWriting honest image t b
    → IsWriting honest image t (record b { stores = record b.stores { right = after_put p key value b.stores.right } })
put_right honest image t p key value b law put w =
    let o = b.stores in
    let q : Stores _ = record o { right = after_put p key value o.right } in
    record {
      whole = law b.manager o q w.whole (record {
        places = λ u x at e. inl refl;
        kept = λ u x at e k. kept_so (is_as o.left_as (enlistment u e)) (is_as o.right_as (enlistment u e)) _ _ _ _ (λ r. r) (put_keeps honest image o.right p key value (pair_of (enlistment u e))) k;
        left = λ ss l. (l.0, l.1, l.2, put_before honest image o.right p key value l.1 l.3, l.4);
        memory = (w.whole.memory.0, put o.right p key value w.whole.memory.1);
      });
      transaction = w.transaction;
      on = w.on;
      left = w.left;
      right = w.right;
    }

-- a put that was done is that of the store that is enlisted
pub put_done : {D C : Type 0} (honest : Bool) (image : D → List ℕ → Type 0) (t : TxId) (a : Account) (amount : ℕ) (b : Book D C) (n : Stores D) → BetweenLaw D C honest image → PutLaw D honest image
    → IsSome (at_side a.side b.stores.left_as b.stores.right_as)
    → ((e : Enlistment) → a.side ≡ Left → b.stores.left_as ≡ Some e → n ≡ record b.stores { left = after_put (pair_of e) a.number amount b.stores.left })
    → ((e : Enlistment) → a.side ≡ Right → b.stores.right_as ≡ Some e → n ≡ record b.stores { right = after_put (pair_of e) a.number amount b.stores.right }) → IsWriting honest image t b
    → IsWriting honest image t (record { manager = b.manager; stores = n })
put_done {D} {C} honest image t a amount b n law put some left right w = by a.side refl some
  where
    here : (s : Stores D) → n ≡ s → IsWriting honest image t (record b { stores = s }) → IsWriting honest image t (record { manager = b.manager; stores = n })
    here s is on = subst (λ (x : Stores D). IsWriting honest image t (record { manager = b.manager; stores = x })) (sym is) on

    on_left : (o : Option Enlistment) → b.stores.left_as ≡ o → IsSome o → a.side ≡ Left → IsWriting honest image t (record { manager = b.manager; stores = n })
    on_left (Some e) is k side = here (record b.stores { left = after_put (pair_of e) a.number amount b.stores.left }) (left e side is) (put_left honest image t (pair_of e) a.number amount b law put w)
    on_left None is k side = absurd cc

    on_right : (o : Option Enlistment) → b.stores.right_as ≡ o → IsSome o → a.side ≡ Right → IsWriting honest image t (record { manager = b.manager; stores = n })
    on_right (Some e) is k side = here (record b.stores { right = after_put (pair_of e) a.number amount b.stores.right }) (right e side is) (put_right honest image t (pair_of e) a.number amount b law put w)
    on_right None is k side = absurd cc

    by : (s : Side) → a.side ≡ s → IsSome (at_side s b.stores.left_as b.stores.right_as) → IsWriting honest image t (record { manager = b.manager; stores = n })
    by Left side k = on_left b.stores.left_as refl k side
    by Right side k = on_right b.stores.right_as refl k side

-- ---- the beginning

abbrev pub BeginLaw : (D C : Type 0) → Bool → (D → List ℕ → Type 0) → (D → ℕ) → Type 0
BeginLaw D C honest image faults =
    (t : TxId) (m n : Standing D C) (o : Stores D) → IsTrue honest → AllOrNothing honest image m o → IsBeginning honest image faults stores_place t m n o → AllOrNothing honest image n o

pub begun : {D C : Type 0} (honest : Bool) (image : D → List ℕ → Type 0) (faults : D → ℕ) (t : TxId) (timeout : Timeout) (m n : Standing D C) (o : Stores D) → BeginLaw D C honest image faults → IsTrue honest → AreFree Left o
    → ((y : LiveState) × (live_at t n.lives ≡ Some y) × IsCalled faults n.log (Begin t.t timeout) 1 Fine (blank t m.reading) y) → HasRunAt honest image t n → (m.last < number_of t) × (n.last ≡ number_of t)
    → KeepsCommits image m.log n.log → AreSame t m.lives n.lives → AllOrNothing honest image m o → IsWriting honest image t (record { manager = n; stores = o })
begun honest image faults t timeout m n o law is free y run number records others all = record {
  whole = law t m n o is all (record {
    time = m.reading;
    call = Begin t.t timeout;
    line = 1;
    answer = Fine;
    begun = y.0;
    now = y.1;
    called = y.2;
    run = run y.0 y.1;
    above = number.0;
    unheard = λ e. ap (λ (l : Option Enlistment). place_of 1 2 l o.right_as (enlistment t e)) free.0 ∙ ap (λ (r : Option Enlistment). place_of 1 2 None r (enlistment t e)) free.1;
    last = number.1;
    records = records;
    others = others;
  });
  transaction = y.0;
  on = y.1;
  left = λ e so. absurd (none o.left_as e free.0 so);
  right = λ e so. absurd (none o.right_as e free.1 so);
}
  where
    none : (x : Option Enlistment) (e : Enlistment) → x ≡ None → x ≡ Some e → ⊥
    none None e p q = absurd cc
    none (Some y) e p q = absurd cc

abbrev pub RefusalLaw : (D C : Type 0) → Bool → (D → List ℕ → Type 0) → Type 0
RefusalLaw D C honest image = (m n : Standing D C) (o : Stores D) → AllOrNothing honest image m o → IsNumbering image m n → AllOrNothing honest image n o

pub not_begun : {D C : Type 0} (honest : Bool) (image : D → List ℕ → Type 0) (m n : Standing D C) (o : Stores D) → RefusalLaw D C honest image → n.lives ≡ m.lives → m.last ≤ n.last
    → KeepsCommits image m.log n.log → AllOrNothing honest image m o → AllOrNothing honest image n o
not_begun honest image m n o law same rises records all = law m n o all (record { same = same; rises = rises; records = records })

-- ---- the end

abbrev pub EndLaw : (D C : Type 0) → Bool → (D → List ℕ → Type 0) → Type 0
EndLaw D C honest image = (t : TxId) (m n : Standing D C) (o : Stores D) → AllOrNothing honest image m o → IsGivenUp t m n → AllOrNothing honest image n o

-- The transaction was taken off, and so neither store is enlisted any more.
pub ended : {D C : Type 0} (honest : Bool) (image : D → List ℕ → Type 0) (t : TxId) (b : Book D C) (n : Standing D C) → EndLaw D C honest image → BetweenLaw D C honest image → live_at t n.lives ≡ None → AreSame t b.manager.lives n.lives
    → KeepsRest b.manager n → IsWriting honest image t b → AllOrNothing honest image n (record b.stores { left_as = None; right_as = None })
ended honest image t b n law between gone others rest w =
    between n b.stores (record b.stores { left_as = None; right_as = None })
    (law t b.manager n b.stores w.whole (record { left = λ z at. absurd (none z (live_at t n.lives) gone at); others = others; rest = rest }))
    (record {
      places = λ u x at e. inl (sym (nowhere u x at e));
      kept = λ u x at e k. absurd (none_kept u x at e k);
      left = λ ss l. l;
      memory = w.whole.memory;
    })
  where
    none : {A : Type 0} (z : A) (o : Option A) → o ≡ None → o ≡ Some z → ⊥
    none z None p q = absurd cc
    none z (Some y) p q = absurd cc

    another : (u : TxId) (x : LiveState) → live_at u n.lives ≡ Some x → u ≢ t
    another u x at same = none x (live_at t n.lives) gone (subst (λ v. live_at v n.lives ≡ Some x) same at)

    off_left : (u : TxId) (x : LiveState) → live_at u n.lives ≡ Some x → (e : EnlNo) → is_as b.stores.left_as (enlistment u e) ≡ false
    off_left u x at e = of_another t u e b.stores.left_as w.left (another u x at)

    off_right : (u : TxId) (x : LiveState) → live_at u n.lives ≡ Some x → (e : EnlNo) → is_as b.stores.right_as (enlistment u e) ≡ false
    off_right u x at e = of_another t u e b.stores.right_as w.right (another u x at)

    nowhere : (u : TxId) (x : LiveState) → live_at u n.lives ≡ Some x → (e : EnlNo) → stores_place b.stores (enlistment u e) ≡ Nowhere
    nowhere u x at e =
        ap (λ a. place_by 1 2 a (is_as b.stores.right_as (enlistment u e))) (off_left u x at e) ∙ ap (λ c. place_by 1 2 false c) (off_right u x at e)

    none_kept : (u : TxId) (x : LiveState) → live_at u n.lives ≡ Some x → (e : EnlNo) → stores_keep honest image b.stores (enlistment u e) → ⊥
    none_kept u x at e k = unkept (is_as b.stores.left_as (enlistment u e)) (is_as b.stores.right_as (enlistment u e)) _ _ (off_left u x at e) (off_right u x at e) k

-- It was given up, and goes on, or was taken off.
pub given_up : {D C : Type 0} (honest : Bool) (image : D → List ℕ → Type 0) (t : TxId) (b : Book D C) (n : Standing D C) → EndLaw D C honest image → ((x : LiveState) → live_at t b.manager.lives ≡ Some x → IsLeft t x n.lives)
    → AreSame t b.manager.lives n.lives → KeepsRest b.manager n → IsWriting honest image t b → AllOrNothing honest image n b.stores
given_up honest image t b n law left others rest w =
    law t b.manager n b.stores w.whole (record { left = λ z at. (w.transaction, w.on, left_so t w.transaction z n.lives at (left w.transaction w.on)); others = others; rest = rest })

-- The same, where the manager hands it back first.
pub released : {D C : Type 0} (honest : Bool) (image : D → List ℕ → Type 0) (t u : TxId) (b : Book D C) (m n : Standing D C) → EndLaw D C honest image → u ≡ t → m ≡ b.manager → ((x : LiveState) → live_at u m.lives ≡ Some x → IsLeft u x n.lives)
    → AreSame u m.lives n.lives → KeepsRest m n → IsWriting honest image t b → AllOrNothing honest image n b.stores
released {D} {C} honest image t u b m n law its back left others rest w =
    let first = subst (λ (v : TxId). ((x : LiveState) → live_at v m.lives ≡ Some x → IsLeft v x n.lives) × (AreSame v m.lives n.lives × KeepsRest m n)) its (left, (others, rest)) in
    let k = subst (λ (s : Standing D C). ((x : LiveState) → live_at t s.lives ≡ Some x → IsLeft t x n.lives) × (AreSame t s.lives n.lives × KeepsRest s n)) back first in
    given_up honest image t b n law k.0 k.1.0 k.1.1 w

-- what an error leaves, and what is done
pub from_err : {A E P : Type 0} (r : Result A E) (e : E) → r ≡ Err e → OnErr r P → P
from_err (Ok x) e is k = absurd cc
from_err (Err x) e is k = k

pub from_ok : {A E P : Type 0} (r : Result A E) (x : A) → r ≡ Ok x → OnOk r P → P
from_ok (Ok y) x is k = k
from_ok (Err e) x is k = absurd cc
