-- What is put at each of some transactions stands in the history of each of them, once; and the transactions of a trace, those of which the coordinator knows and those
-- that a stop of the log hits, each stand in their list once.
use Rattle.std.proofs.Common.{◌≡◌, ℕ, zero, suc, ◌==◌, Bool, true, false, ◌&&◌, ◌||◌, not, List, [], ◌∷◌, filter, if◌then◌else◌, refl, ap, sym, ◌∙◌}
use Rattle.std.proofs.lemmas.Bool.{eqb-true}
use Rattle.dtx_values.specs.declared.entry.Entry.{Entry}
use Rattle.dtx_values.specs.declared.number.TxNo.{TxNo}
use Rattle.dtx_values.specs.declared.trace.Place.TheVariants.{Context, Log, Transaction}
use Rattle.dtx_values.specs.Table.{how_many}
use Rattle.dtx_model.specs.Words.{has}
use Rattle.dtx_model.specs.Wires.{is_stopped}
use Rattle.dtx_model.specs.Caused.{is_begin_sent}
use Rattle.dtx_model.specs.Traces.{Placed, at_context, history, is_at}
use Rattle.dtx_model.specs.AtLog.{at_log, hit, is_hit, is_known, known, one_if, transactions, tx_number, with_tx}
use Rattle.dtx_model.specs.Replay.{others, put_at}
use Rattle.dtx_model.proofs.Bools.{and_left}
use Rattle.dtx_model.proofs.Counts.{how_many-insert_by}
use Rattle.dtx_values.proofs.SameNumbers.{same_transaction}
use Rattle.history_table.proofs.Tests.{eq_swap}

-- the transaction has this number
abbrev pub is_tx : ℕ → TxNo → Bool
is_tx u t = u == t.value

-- the history with an entry after it, so many times
abbrev pub times : ℕ → Entry → List Entry → List Entry
times zero x h = h
times (suc n) x h = x ∷ times n x h

times_more : (n : ℕ) (x : Entry) (h : List Entry) → times n x (x ∷ h) ≡ x ∷ times n x h
times_more zero x h = refl
times_more (suc n) x h = ap (λ g. x ∷ g) (times_more n x h)

-- what is put at each of these stands in a transaction's history as often as the transaction is one of them
pub history-put : (u : TxNo) (f : TxNo → Entry) (ts : List TxNo) (T : List Placed) → history u.value (put_at f ts T) ≡ times (how_many (is_tx u.value) ts) (f u) (history u.value T)
history-put u f [] T = refl
history-put u f (t ∷ ts) T = history-put u f ts ((Transaction t, f t) ∷ T) ∙ step (u.value == t.value) refl
  where
    step : (b : Bool) → (u.value == t.value) ≡ b
        → times (how_many (is_tx u.value) ts) (f u) (if u.value == t.value then f t ∷ history u.value T else history u.value T)
        ≡ times (if u.value == t.value then suc (how_many (is_tx u.value) ts) else how_many (is_tx u.value) ts) (f u) (history u.value T)
    step true e =
        let same : t ≡ u = sym (same_transaction u t (eqb-true u.value t.value e)) in
        rw e (ap (λ v. times (how_many (is_tx u.value) ts) (f u) (f v ∷ history u.value T)) same ∙ times_more (how_many (is_tx u.value) ts) (f u) (history u.value T))
    step false e = rw e refl

-- nothing of it stands at the log, nor at a context
pub log-put : (f : TxNo → Entry) (ts : List TxNo) (T : List Placed) → at_log (put_at f ts T) ≡ at_log T
log-put f [] T = refl
log-put f (t ∷ ts) T = log-put f ts ((Transaction t, f t) ∷ T)

pub context-put : (a : ℕ) (f : TxNo → Entry) (ts : List TxNo) (T : List Placed) → at_context a (put_at f ts T) ≡ at_context a T
context-put a f [] T = refl
context-put a f (t ∷ ts) T = context-put a f ts ((Transaction t, f t) ∷ T)

-- Of those that pass a test, a transaction is one as often as it is one of all, where it passes, and else never.
pub many-filter : (u : TxNo) (p : TxNo → Bool) (ts : List TxNo) → how_many (is_tx u.value) (filter p ts) ≡ (if p u then how_many (is_tx u.value) ts else 0)
many-filter u p [] = none (p u)
  where
    none : (b : Bool) → how_many (is_tx u.value) [] ≡ (if b then how_many (is_tx u.value) [] else 0)
    none true = refl
    none false = refl
many-filter u p (t ∷ ts) = step (p t) (u.value == t.value) refl refl (many-filter u p ts)
  where
    step : (b c : Bool) → p t ≡ b → (u.value == t.value) ≡ c → how_many (is_tx u.value) (filter p ts) ≡ (if p u then how_many (is_tx u.value) ts else 0)
        → how_many (is_tx u.value) (if b then t ∷ filter p ts else filter p ts) ≡ (if p u then (if c then suc (how_many (is_tx u.value) ts) else how_many (is_tx u.value) ts) else 0)
    step true true q e ih =
        let here : p u ≡ true = ap p (same_transaction u t (eqb-true u.value t.value e)) ∙ q in
        rw e (ap suc (ih ∙ ap (λ b. if b then how_many (is_tx u.value) ts else 0) here) ∙ ap (λ b. if b then suc (how_many (is_tx u.value) ts) else 0) (sym here))
    step true false q e ih = rw e ih
    step false true q e ih =
        let here : p u ≡ false = ap p (same_transaction u t (eqb-true u.value t.value e)) ∙ q in
        ih ∙ ap (λ b. if b then how_many (is_tx u.value) ts else 0) here ∙ ap (λ b. if b then suc (how_many (is_tx u.value) ts) else 0) (sym here)
    step false false q e ih = ih

-- some entry stands at this transaction
abbrev pub is_there : ℕ → List Placed → Bool
is_there u T = has (λ (x : Placed). is_at u x.0) T

many-with : (u t : TxNo) (ts : List TxNo) (b : Bool) → how_many (is_tx u.value) ts ≡ one_if b 0 → how_many (is_tx u.value) (with_tx t ts) ≡ one_if ((u.value == t.value) || b) 0
many-with u t ts b ih =
    how_many-insert_by (is_tx u.value) tx_number t (filter (λ v. not (t.value == v.value)) ts)
    ∙ ap (λ n. if u.value == t.value then suc n else n) (many-filter u (λ v. not (t.value == v.value)) ts) ∙ step (u.value == t.value) refl
  where
    step : (c : Bool) → (u.value == t.value) ≡ c
        → (if c then suc (if not (t.value == u.value) then how_many (is_tx u.value) ts else 0) else (if not (t.value == u.value) then how_many (is_tx u.value) ts else 0)) ≡ one_if (c || b) 0
    step true e = let back : (t.value == u.value) ≡ true = sym (eq_swap u.value t.value) ∙ e in rw back refl
    step false e = let back : (t.value == u.value) ≡ false = sym (eq_swap u.value t.value) ∙ e in rw back ih

-- each transaction of a trace stands once in the list of them
pub many-transactions : (u : TxNo) (T : List Placed) → how_many (is_tx u.value) (transactions T) ≡ one_if (is_there u.value T) 0
many-transactions u [] = refl
many-transactions u ((Transaction t, x) ∷ T) = many-with u t (transactions T) (is_there u.value T) (many-transactions u T)
many-transactions u ((Context a, x) ∷ T) = many-transactions u T
many-transactions u ((Log, x) ∷ T) = many-transactions u T

-- a history that has something is of a transaction of the trace
has_there : (p : Entry → Bool) (u : ℕ) (T : List Placed) → has p (history u T) ≡ true → is_there u T ≡ true
has_there p u [] h = absurd cc
has_there p u (x ∷ T) h = step (is_at u x.0) (has_there p u T) h
  where
    step : (b : Bool) → (has p (history u T) ≡ true → is_there u T ≡ true) → has p (if b then x.1 ∷ history u T else history u T) ≡ true → (b || is_there u T) ≡ true
    step true ih h = refl
    step false ih h = ih h

pub known_there : (T : List Placed) (u : TxNo) → is_known T u ≡ true → is_there u.value T ≡ true
known_there T u k = has_there is_begin_sent u.value T k

many_if : (p c : Bool) (n : ℕ) → n ≡ one_if c 0 → (p ≡ true → c ≡ true) → (if p then n else 0) ≡ one_if p 0
many_if true c n e f = e ∙ ap (λ b. one_if b 0) (f refl)
many_if false c n e f = refl

-- of which the coordinator knows stands once in the list of those, and no other does
pub many-known : (u : TxNo) (T : List Placed) → how_many (is_tx u.value) (known T) ≡ one_if (is_known T u) 0
many-known u T =
    many-filter u (is_known T) (transactions T) ∙ many_if (is_known T u) (is_there u.value T) (how_many (is_tx u.value) (transactions T)) (many-transactions u T) (known_there T u)

-- so does one that is hit,
pub many-hit : (u : TxNo) (T : List Placed) → how_many (is_tx u.value) (hit T) ≡ one_if (is_hit T u) 0
many-hit u T =
    many-filter u (is_hit T) (transactions T)
    ∙ many_if (is_hit T u) (is_there u.value T) (how_many (is_tx u.value) (transactions T)) (many-transactions u T) (λ k. known_there T u (and_left (is_known T u) (not (is_stopped (history u.value T))) k))

-- and one of the others that are hit
pub many-others : (u t : TxNo) (T : List Placed) → how_many (is_tx u.value) (others t (hit T)) ≡ one_if (not (t.value == u.value) && is_hit T u) 0
many-others u t T = many-filter u (λ v. not (t.value == v.value)) (hit T) ∙ step (not (t.value == u.value)) (is_hit T u) (how_many (is_tx u.value) (hit T)) (many-hit u T)
  where
    step : (a b : Bool) (n : ℕ) → n ≡ one_if b 0 → (if a then n else 0) ≡ one_if (a && b) 0
    step true b n e = e
    step false b n e = refl

-- the history with an entry after it, where this is so
abbrev pub one_more : Bool → Entry → List Entry → List Entry
one_more true x h = x ∷ h
one_more false x h = h

times_one : (b : Bool) (x : Entry) (h : List Entry) → times (one_if b 0) x h ≡ one_more b x h
times_one true x h = refl
times_one false x h = refl

-- So what is put at those of which the coordinator knows stands once in the history of each of them, and in no other;
pub history-known : (u : TxNo) (f : TxNo → Entry) (T U : List Placed) → history u.value (put_at f (known T) U) ≡ one_more (is_known T u) (f u) (history u.value U)
history-known u f T U =
    history-put u f (known T) U ∙ ap (λ n. times n (f u) (history u.value U)) (many-known u T) ∙ times_one (is_known T u) (f u) (history u.value U)

-- what is put at those that are hit, in the history of each of them,
pub history-hit : (u : TxNo) (f : TxNo → Entry) (T U : List Placed) → history u.value (put_at f (hit T) U) ≡ one_more (is_hit T u) (f u) (history u.value U)
history-hit u f T U =
    history-put u f (hit T) U ∙ ap (λ n. times n (f u) (history u.value U)) (many-hit u T) ∙ times_one (is_hit T u) (f u) (history u.value U)

-- and what is put at the others that are hit, in the history of each of these
pub history-others : (u t : TxNo) (f : TxNo → Entry) (T U : List Placed) → history u.value (put_at f (others t (hit T)) U) ≡ one_more (not (t.value == u.value) && is_hit T u) (f u) (history u.value U)
history-others u t f T U =
    history-put u f (others t (hit T)) U ∙ ap (λ n. times n (f u) (history u.value U)) (many-others u t T) ∙ times_one (not (t.value == u.value) && is_hit T u) (f u) (history u.value U)
