-- What a turn of the objects makes of a transaction, and what turns one after the other make.
use Rattle.std.proofs.Common.{ℕ, zero, suc, inl, inr, Bool, true, false, ◌≡◌, ◌≤◌, ◌∙◌, ◌||◌, not, List, [], ◌∷◌, ◌++◌, Option, Some, None, Result, Ok, length, append_assoc, append-nil, refl, ap, subst, sym}
use Rattle.std.proofs.lemmas.List.Folds.{list_any-append}
use Rattle.dtx_values.specs.declared.entry.Entry.{Entry}
use Rattle.dtx_values.specs.declared.note.Note.{Note}
use Rattle.dtx_values.specs.declared.note.Reply.{Reply}
use Rattle.dtx_values.specs.TxIds.{identifier_of_id}
use Rattle.dtx_values.specs.declared.tx_id.TxId.{TxId}
use Rattle.dtx_model.specs.Replies.{reply_entries}
use Rattle.dtx_model.specs.Words.{has, onto}
use Rattle.dtx_model.specs.World.{half}
use Rattle.history_table.proofs.Scans.{each_more}
use Rattle.transactions.specs.declared.event.Event.{Event}
use Rattle.resource_managers.specs.declared.enlistment.Enlistment.{Enlistment}
use Rattle.transactions.specs.Doing.{AdvancesAt, HeardAt}
use Rattle.transactions.specs.Events.{note_in}
use Rattle.transactions.specs.Hearing.{Advances, Given, Hears, HearsNote, IsHeard, Moves, MovesOn, Writes, is_one_of, is_reply, says}
use Rattle.transactions.specs.Logged.{KeepsRecords}
use Rattle.transactions.specs.Slots.{AreSame, KeepsRest, KeepsTime, Standing, live_at}
use Rattle.transactions.specs.State.{LiveState, past}
use Rattle.transactions.proofs.Advancing.{hears_none, hears_on, one_left, one_right, writes_on}
use Rattle.transactions.proofs.Untouched.{keeps_same, keeps_then}

-- what the objects of a type give
abbrev pub Gives : Type 0 → Type 1
Gives O = O → Enlistment → Note → Option Reply → O → Type 0

-- nothing was written, whatever was replied
pub writes_nothing : (rs : List Given) (x : LiveState) → Writes rs x x
writes_nothing rs x = record { written = []; grown = refl; said = refl; called = []; calls = refl }

-- two of four change places
or_four : (a b c d : Bool) → ((a || b) || (c || d)) ≡ ((a || c) || (b || d))
or_four true b true d = refl
or_four true b false d = refl
or_four false true true d = refl
or_four false true false d = refl
or_four false false c d = refl

-- the replies may stand in another order
has_four : (p : Given → Bool) (gs rs hs qs : List Given) → has p ((gs ++ rs) ++ (hs ++ qs)) ≡ has p ((gs ++ hs) ++ (rs ++ qs))
has_four p gs rs hs qs =
    by (gs ++ rs) (hs ++ qs) (has p gs || has p rs) (has p hs || has p qs) (list_any-append p gs rs) (list_any-append p hs qs)
    ∙ (or_four (has p gs) (has p rs) (has p hs) (has p qs)
    ∙ sym (by (gs ++ hs) (rs ++ qs) (has p gs || has p hs) (has p rs || has p qs) (list_any-append p gs hs) (list_any-append p rs qs)))
  where
    by : (xs ys : List Given) (a b : Bool) → has p xs ≡ a → has p ys ≡ b → has p (xs ++ ys) ≡ (a || b)
    by xs ys a b e f = list_any-append p xs ys ∙ (ap (λ c. c || has p ys) e ∙ ap (λ c. a || c) f)

-- so a reply that is one of them is one of them in that order
one_four : (gs rs hs qs : List Given) (x : Entry) → is_one_of ((gs ++ rs) ++ (hs ++ qs)) x ≡ true → is_one_of ((gs ++ hs) ++ (rs ++ qs)) x ≡ true
one_four gs rs hs qs x k = ap (λ b. not (is_reply x) || b) (sym (has_four (λ g. says g x) gs rs hs qs)) ∙ k

-- and so is each that was written
writes_four : (gs rs hs qs : List Given) (x y : LiveState) → Writes ((gs ++ rs) ++ (hs ++ qs)) x y → Writes ((gs ++ hs) ++ (rs ++ qs)) x y
writes_four gs rs hs qs x y w =
    record {
      written = w.written;
      grown = w.grown;
      said = each_more (is_one_of ((gs ++ rs) ++ (hs ++ qs))) (is_one_of ((gs ++ hs) ++ (rs ++ qs))) (one_four gs rs hs qs) w.written w.said;
      called = w.called;
      calls = w.calls;
    }

-- The objects hear some events, and then others.
hears_append : {O : Type 0} (gives : Gives O) (xs ys : List Event) (a b c : O) (rs qs : List Given) → Hears gives xs a rs b → Hears gives ys b qs c → Hears gives (xs ++ ys) a (rs ++ qs) c
hears_append gives [] ys a b c rs qs h k = subst (λ ps. Hears gives ys a (ps ++ qs) c) (sym h.0) (subst (λ m. Hears gives ys m qs c) h.1 k)
hears_append gives (x ∷ xs) ys a b c rs qs h k =
    (h.0, h.1, h.2 ++ qs, h.3, hears_append gives xs ys h.0 b c h.2 qs h.4 k, ap (λ ps. ps ++ qs) h.5 ∙ append_assoc h.1 h.2 qs)

-- They hear one event.
hears_one : {O : Type 0} (gives : Gives O) (e : Event) (a b : O) (rs : List Given) → HearsNote gives (note_in e) a rs b → Hears gives (e ∷ []) a rs b
hears_one gives e a b rs h = (b, rs, [], h, (refl, refl), sym (append-nil rs))

-- what was written is among more replies
writes_left : (gs hs : List Given) (x y : LiveState) → Writes gs x y → Writes (gs ++ hs) x y
writes_left gs hs x y w = record { written = w.written; grown = w.grown; said = each_more (is_one_of gs) (is_one_of (gs ++ hs)) (one_left gs hs) w.written w.said; called = w.called; calls = w.calls }

writes_right : (gs hs : List Given) (x y : LiveState) → Writes hs x y → Writes (gs ++ hs) x y
writes_right gs hs x y w = record { written = w.written; grown = w.grown; said = each_more (is_one_of hs) (is_one_of (gs ++ hs)) (one_right gs hs) w.written w.said; called = w.called; calls = w.calls }

-- A move is one where more replies are given from outside,
moves_more : {O : Type 0} (gives : Gives O) (gs hs : List Given) → ((x y : LiveState) → Writes gs x y → Writes hs x y) → (x y : LiveState) (a b : O) → Moves gives gs x y a b → Moves gives hs x y a b
moves_more gives gs hs more x y a b (inl k) = inl k
moves_more gives gs hs more x y a b (inr (inl k)) = inr (inl (record { writes = more x y k.0.writes; heard = k.0.heard; number = k.0.number }, k.1))
moves_more gives gs hs more x y a b (inr (inr k)) = inr (inr k)

-- and so are moves one after the other.
chain_more : {O : Type 0} (gives : Gives O) (gs hs : List Given) → ((x y : LiveState) → Writes gs x y → Writes hs x y) → (n : ℕ) (x y : LiveState) (a b : O) → MovesOn gives gs n x y a b
    → MovesOn gives hs n x y a b
chain_more gives gs hs more zero x y a b k = k
chain_more gives gs hs more (suc n) x y a b k = (k.0, k.1, chain_more gives gs hs more n x k.0 a k.1 k.2, moves_more gives gs hs more k.0 y k.1 b k.3)

-- moves, and then moves
pub chain_both : {O : Type 0} (gives : Gives O) (gs : List Given) (m n : ℕ) (x y z : LiveState) (a b c : O) → MovesOn gives gs m x y a b → MovesOn gives gs n y z b c → (k : ℕ) × MovesOn gives gs k x z a c
chain_both {O} gives gs m zero x y z a b c k l =
    (m, subst (λ (s : LiveState). MovesOn gives gs m x s a c) (sym l.0) (subst (λ (o : O). MovesOn gives gs m x y a o) (sym l.1) k))
chain_both gives gs m (suc n) x y z a b c k l =
    let h = chain_both gives gs m n x y l.0 a b l.1 k l.2 in
    (suc h.0, (l.0, l.1, h.1, l.3))

-- one move
chain_one : {O : Type 0} (gives : Gives O) (gs : List Given) (x y : LiveState) (a b : O) → Moves gives gs x y a b → MovesOn gives gs 1 x y a b
chain_one gives gs x y a b k = (x, a, (refl, refl), k)

-- nothing was done
pub heard_none : {O : Type 0} (gives : Gives O) (x : LiveState) (a : O) → IsHeard gives [] x x a a
heard_none gives x a = record { said = []; replies = []; hears = (refl, refl); next = hears_none x x refl; writes = writes_nothing [] x; number = refl; count = 0; moves = (refl, refl) }

-- What one part of a call made of a transaction and the objects, and then the next: where the first part heard no more than there was.
pub heard_on : {O : Type 0} (gives : Gives O) (gs hs : List Given) (x y z : LiveState) (a b c : O) → IsHeard gives gs x y a b → IsHeard gives hs y z b c → y.heard ≤ length (past y)
    → IsHeard gives (gs ++ hs) x z a c
heard_on gives gs hs x y z a b c p q within =
    let first = chain_more gives gs (gs ++ hs) (writes_left gs hs) p.count x y a b p.moves in
    let second = chain_more gives hs (gs ++ hs) (writes_right gs hs) q.count y z b c q.moves in
    let both = chain_both gives (gs ++ hs) p.count q.count x y z a b c first second in
    record {
      said = p.said ++ q.said;
      replies = p.replies ++ q.replies;
      hears = hears_append gives p.said q.said a b c p.replies q.replies p.hears q.hears;
      next = hears_on p.said q.said (hs ++ q.replies) x y z p.next q.writes q.next p.number within;
      writes = writes_four gs p.replies hs q.replies x z (writes_on (gs ++ p.replies) (hs ++ q.replies) x y z p.writes q.writes);
      number = q.number ∙ p.number;
      count = both.0;
      moves = both.1;
    }

-- A transaction went on, and no event came.
pub heard_idle : {O : Type 0} (gives : Gives O) (x y : LiveState) (a : O) → Advances None x y → IsHeard gives [] x y a a
heard_idle gives x y a v =
    record {
      said = [];
      replies = [];
      hears = (refl, refl);
      next = v.hears;
      writes = v.writes;
      number = ap (λ (s : LiveState). s.number) v.rest;
      count = 1;
      moves = chain_one gives [] x y a a (inl (v, refl));
    }

-- A call was entered, or a reply was given by the call itself: nothing was heard.
pub heard_given : {O : Type 0} (gives : Gives O) (gs : List Given) (x y : LiveState) (a : O) → Writes gs x y → y.heard ≡ x.heard → y.number ≡ x.number → IsHeard gives gs x y a a
heard_given gives gs x y a w same number =
    record {
      said = [];
      replies = [];
      hears = (refl, refl);
      next = hears_none x y same;
      writes = subst (λ (ps : List Given). Writes ps x y) (sym (append-nil gs)) w;
      number = number;
      count = 1;
      moves = chain_one gives gs x y a a (inr (inl (record { writes = w; heard = same; number = number }, refl)));
    }

-- An event came, the objects heard it, and their reply was given, or wasn't written.
pub heard_turn : {O : Type 0} (gives : Gives O) (e : Event) (rs : List Given) (x y z : LiveState) (a b : O) → Advances (Some e) x y → HearsNote gives (note_in e) a rs b → Writes rs y z
    → z ≡ record y { tx = z.tx }
    → y.heard ≤ length (past y) → IsHeard gives [] x z a b
heard_turn gives e rs x y z a b v h w rest within =
    let advanced : y.number ≡ x.number = ap (λ (s : LiveState). s.number) v.rest in
    record {
      said = e ∷ [];
      replies = rs;
      hears = hears_one gives e a b rs h;
      next = hears_on (e ∷ []) [] rs x y z v.hears w (hears_none y z (ap (λ (s : LiveState). s.heard) rest)) advanced within;
      writes = writes_on [] rs x y z v.writes w;
      number = ap (λ (s : LiveState). s.number) rest ∙ advanced;
      count = 1;
      moves = chain_one gives [] x z a b (inr (inr (record { event = e; replies = rs; between = y; comes = v; hears = h; writes = w; rest = rest })));
    }

-- The same, of the transaction of a number, where one goes on.
abbrev pub WithinAt : TxId → List LiveState → Type 0
WithinAt t xs = (x : LiveState) → live_at t xs ≡ Some x → x.heard ≤ length (past x)

-- these replies were given, or weren't written
abbrev pub GivenAt : List Given → TxId → List LiveState → List LiveState → Type 0
GivenAt rs t old new = (x : LiveState) → live_at t old ≡ Some x → (y : LiveState) × (live_at t new ≡ Some y) × Writes rs x y × (y ≡ record x { tx = y.tx })

-- it is as it was
pub given_none : (rs : List Given) (t : TxId) (old new : List LiveState) → live_at t new ≡ live_at t old → GivenAt rs t old new
given_none rs t old new same x at = (x, same ∙ at, writes_nothing rs x, refl)

-- nothing was done of it
pub heard_none_at : {D C O : Type 0} (honest : Bool) (image : D → List ℕ → Type 0) (gives : Gives O) (t : TxId) (old new : Standing D C) (a : O) → live_at t new.lives ≡ live_at t old.lives
    → new.log ≡ old.log → HeardAt honest image gives [] t old new a a
heard_none_at honest image gives t old new a same log x at = (x, same ∙ at, heard_none gives x a, keeps_same honest image (identifier_of_id t) old.log new.log log)

-- it went on, and no event came
pub heard_idle_at : {D C O : Type 0} (honest : Bool) (image : D → List ℕ → Type 0) (gives : Gives O) (t : TxId) (old mid new : Standing D C) (a b : O) → HeardAt honest image gives [] t old mid a b
    → AdvancesAt None t mid.lives new.lives → KeepsRecords honest image (identifier_of_id t) mid.log new.log → HeardAt honest image gives [] t old new a b
heard_idle_at honest image gives t old mid new a b h v logged x at =
    let y = h x at in
    let z = v y.0 y.1 in
    (z.0, z.1, heard_on gives [] [] x y.0 z.0 a b b y.2 (heard_idle gives y.0 z.0 b z.2) z.2.within, keeps_then honest image (identifier_of_id t) old.log mid.log new.log y.3 logged)

-- an event came, and its objects heard it
pub heard_turn_at : {D C O : Type 0} (honest : Bool) (image : D → List ℕ → Type 0) (gives : Gives O) (t : TxId) (e : Event) (rs : List Given) (old mid on new : Standing D C) (a b c : O)
    → HeardAt honest image gives [] t old mid a b → AdvancesAt (Some e) t mid.lives on.lives → KeepsRecords honest image (identifier_of_id t) mid.log on.log → WithinAt t on.lives
    → HearsNote gives (note_in e) b rs c → GivenAt rs t on.lives new.lives → new.log ≡ on.log → HeardAt honest image gives [] t old new a c
heard_turn_at honest image gives t e rs old mid on new a b c h v logged within note given log x at =
    let y = h x at in
    let z = v y.0 y.1 in
    let w = given z.0 z.1 in
    let id = identifier_of_id t in
    let on_log = keeps_then honest image id old.log mid.log on.log y.3 logged in (
      w.0,
      w.1,
      heard_on gives [] [] x y.0 w.0 a b c y.2 (heard_turn gives e rs y.0 z.0 w.0 b c z.2 note w.2 w.3 (within z.0 z.1)) z.2.within,
      keeps_then honest image id old.log on.log new.log on_log (keeps_same honest image id on.log new.log log),
    )

-- What was done of a transaction and its objects, while the others and the time stood.
abbrev pub Driven : {D C O : Type 0} → Bool → (D → List ℕ → Type 0) → Gives O → TxId → Standing D C → Standing D C → O → O → Type 0
Driven honest image gives t old now a b = HeardAt honest image gives [] t old now a b × AreSame t old.lives now.lives × KeepsTime old now

-- nothing was done
pub driven_none : {D C O : Type 0} (honest : Bool) (image : D → List ℕ → Type 0) (gives : Gives O) (t : TxId) (s : Standing D C) (a : O) → Driven honest image gives t s s a a
driven_none honest image gives t s a = (heard_none_at honest image gives t s s a refl refl, λ u n. refl, ((refl, refl), refl))

-- and then a turn of its objects
pub driven_turn : {D C O : Type 0} (honest : Bool) (image : D → List ℕ → Type 0) (gives : Gives O) (t : TxId) (e : Event) (rs : List Given) (old mid on new : Standing D C) (a b c : O)
    → Driven honest image gives t old mid a b → AdvancesAt (Some e) t mid.lives on.lives → KeepsRecords honest image (identifier_of_id t) mid.log on.log → AreSame t mid.lives on.lives
    → KeepsTime mid on → WithinAt t on.lives → HearsNote gives (note_in e) b rs c → GivenAt rs t on.lives new.lives → AreSame t on.lives new.lives → KeepsRest on new
    → Driven honest image gives t old new a c
driven_turn honest image gives t e rs old mid on new a b c d v logged same time within note given others rest = (
  heard_turn_at honest image gives t e rs old mid on new a b c d.0 v logged within note given (ap (λ (s : Standing _ _). s.log) rest),
  λ u n. others u n ∙ (same u n ∙ d.1 u n),
  ((ap (λ (s : Standing _ _). s.clock) rest ∙ (time.0.0 ∙ d.2.0.0), ap (λ (s : Standing _ _). s.reading) rest ∙ (time.0.1 ∙ d.2.0.1)), ap (λ (s : Standing _ _). s.last) rest ∙ (time.1 ∙ d.2.1)),
)

-- a reply that was done, or wasn't due
pub given_by_answer : {E : Type 0} (g : Given) (t : TxId) (old new : List LiveState) (z : Result Bool E) (b : Bool) → z ≡ Ok b
    → (z ≡ Ok true → (x : LiveState) → live_at t old ≡ Some x → (y : LiveState) × (live_at t new ≡ Some y) × Writes (g ∷ []) x y × (y ≡ record x { tx = y.tx })
    × (es : List Entry) × (past y ≡ onto (onto (past x) (reply_entries (half x.tx.world) g.0 g.1)) es))
    → (z ≡ Ok false → live_at t new ≡ live_at t old) → GivenAt (g ∷ []) t old new
given_by_answer g t old new z true is done same = λ x at. let y = done is x at in (y.0, y.1, y.2, y.3)
given_by_answer g t old new z false is done same = given_none (g ∷ []) t old new (same is)
