-- What is held of a transaction stays tied to its history, move by move.
use Rattle.std.proofs.Common.{◌≡◌, ◌⊎◌, inl, inr, ◌≤◌, ℕ, zero, suc, Bool, true, false, not, ◌&&◌, ◌||◌, ◌==◌, List, [], ◌∷◌, ◌++◌, Option, Some, None, length, append-nil, append_assoc, refl, ap, subst, sym, ◌∙◌, arith}
use Rattle.std.specs.List.{filter_map}
use Rattle.dtx_values.specs.declared.entry.Ask.TheVariants.{Prepare as AskPrepare, Promote as AskPromote, Single as AskSingle}
use Rattle.dtx_values.specs.declared.entry.Entry.{Entry}
use Rattle.dtx_values.specs.declared.entry.Entry.TheVariants.{Asked as AskedEntry, Handed, Init as InitEntry, Told as ToldEntry}
use Rattle.dtx_values.specs.declared.entry.Party.TheVariants.{Client, Enl}
use Rattle.dtx_values.specs.declared.note.Note.{Note}
use Rattle.dtx_values.specs.declared.note.Note.TheVariants.{Init, Prepare, Promote, Hand, Single, Commit, Rollback, InDoubt as InDoubtNote}
use Rattle.dtx_values.specs.declared.number.EnlNo.{EnlNo}
use Rattle.dtx_values.specs.declared.tx_id.TxId.{TxId}
use Rattle.dtx_values.specs.declared.words.Outcome.TheVariants.{Aborted, Committed, InDoubt}
use Rattle.dtx_model.proofs.Bools.{and_both, not_both, or_right}
use Rattle.dtx_model.proofs.Pasts.{always-before}
use Rattle.dtx_model.specs.Entries.{is_asked, is_hand}
use Rattle.dtx_model.specs.Words.{always, has, onto, past_of}
use Rattle.record_laws.specs.Recorded.{is_note_new, is_told_so}
use Rattle.resource_managers.specs.Pairs.{enlistment}
use Rattle.resource_managers.specs.declared.enlistment.Enlistment.{Enlistment}
use Rattle.transactions.specs.Events.{event_of, note_in, note_told}
use Rattle.transactions.specs.Hearing.{events}
use Rattle.transactions.specs.declared.event.Event.{Event}
use Rattle.all_or_nothing.specs.Marks.{At, Place}
use Rattle.all_or_nothing.proofs.Entries.{grown_more}
use Rattle.history_table.proofs.Tests.{eq_self}
use Rattle.std.proofs.lemmas.Bool.{or_left}

-- ---- which entry an event comes from

-- the entry of an event among these
pub record Comer (t : TxId) (ev : Event) (es : List Entry) : Type 0 where
  pub entry : Entry
  pub says : event_of t entry ≡ Some ev
  pub among : (p : Entry → Bool) → p entry ≡ true → has p es ≡ true

pub comer : (t : TxId) (ev : Event) (es : List Entry) → events t es ≡ ev ∷ [] → Comer t ev es
comer t ev [] k = absurd cc
comer t ev (x ∷ xs) k = by (event_of t x) refl k (λ q. comer t ev xs q)
  where
    by : (o : Option Event) → event_of t x ≡ o → Rattle.std.specs.List.cons_option o (events t xs) ≡ ev ∷ [] → (events t xs ≡ ev ∷ [] → Comer t ev xs) → Comer t ev (x ∷ xs)
    by None e k rest = let r = rest k in record { entry = r.entry; says = r.says; among = λ p q. or_right (p x) (has p xs) (r.among p q) }
    by (Some y) e k rest = record { entry = x; says = e ∙ ap (λ z. Some z) cc; among = λ p q. or_left (p x) (has p xs) q }

-- whom the event of an entry concerns, and the note
abbrev pub note_by : Option Event → Option (Enlistment × Note)
note_by (Some ev) = note_in ev
note_by None = None

abbrev pub Says : TxId → Entry → Enlistment → Note → Type 0
Says t x e n = note_by (event_of t x) ≡ Some (e, n)

own_of : (t : TxId) (f : EnlNo) (e : Enlistment) → e ≡ enlistment t f → e ≡ enlistment t e.number
own_of t f e q = q ∙ ap (λ g. enlistment t g) (sym (ap (λ (x : Enlistment). x.number) q))

same_pair : (p q : Enlistment × Note) → Some p ≡ Some q → (p.0 ≡ q.0) × (p.1 ≡ q.1)
same_pair p q k = let r : p ≡ q = cc in (ap (λ (x : Enlistment × Note). x.0) r, ap (λ (x : Enlistment × Note). x.1) r)

pub its_own : (t : TxId) (x : Entry) (e : Enlistment) (n : Note) → Says t x e n → e ≡ enlistment t e.number
its_own t (InitEntry f) e n k = own_of t f e (sym (same_pair (enlistment t f, Init) (e, n) k).0)
its_own t (AskedEntry f AskPrepare) e n k = own_of t f e (sym (same_pair (enlistment t f, Prepare) (e, n) k).0)
its_own t (AskedEntry f AskPromote) e n k = own_of t f e (sym (same_pair (enlistment t f, Promote) (e, n) k).0)
its_own t (AskedEntry f AskSingle) e n k = own_of t f e (sym (same_pair (enlistment t f, Single) (e, n) k).0)
its_own t (Handed f) e n k = own_of t f e (sym (same_pair (enlistment t f, Hand) (e, n) k).0)
its_own t (ToldEntry (Enl f) o) e n k = own_of t f e (sym (same_pair (enlistment t f, note_told o) (e, n) k).0)
its_own t (ToldEntry Client o) e n k = absurd cc
its_own t _ e n k = absurd cc

pub asks : (t : TxId) (x : Entry) (e : Enlistment) → Says t x e Prepare → is_asked e.number.value x ≡ true
asks t (InitEntry f) e k = let clash : Init ≡ Prepare = (same_pair (enlistment t f, Init) (e, Prepare) k).1 in absurd cc
asks t (AskedEntry f AskPrepare) e k = let same : e.number ≡ f = sym (ap (λ (x : Enlistment). x.number) (same_pair (enlistment t f, Prepare) (e, Prepare) k).0) in subst (λ g. (g.value == f.value) ≡ true) (sym same) (eq_self f.value)
asks t (AskedEntry f AskPromote) e k = let clash : Promote ≡ Prepare = (same_pair (enlistment t f, Promote) (e, Prepare) k).1 in absurd cc
asks t (AskedEntry f AskSingle) e k = let clash : Single ≡ Prepare = (same_pair (enlistment t f, Single) (e, Prepare) k).1 in absurd cc
asks t (Handed f) e k = let clash : Hand ≡ Prepare = (same_pair (enlistment t f, Hand) (e, Prepare) k).1 in absurd cc
asks t (ToldEntry (Enl f) Committed) e k = let clash : Commit ≡ Prepare = (same_pair (enlistment t f, Commit) (e, Prepare) k).1 in absurd cc
asks t (ToldEntry (Enl f) Aborted) e k = let clash : Rollback ≡ Prepare = (same_pair (enlistment t f, Rollback) (e, Prepare) k).1 in absurd cc
asks t (ToldEntry (Enl f) InDoubt) e k = let clash : InDoubtNote ≡ Prepare = (same_pair (enlistment t f, InDoubtNote) (e, Prepare) k).1 in absurd cc
asks t (ToldEntry Client o) e k = absurd cc
asks t _ e k = absurd cc

pub hands : (t : TxId) (x : Entry) (e : Enlistment) → Says t x e Hand → is_hand e.number.value x ≡ true
hands t (InitEntry f) e k = let clash : Init ≡ Hand = (same_pair (enlistment t f, Init) (e, Hand) k).1 in absurd cc
hands t (AskedEntry f AskPrepare) e k = let clash : Prepare ≡ Hand = (same_pair (enlistment t f, Prepare) (e, Hand) k).1 in absurd cc
hands t (AskedEntry f AskPromote) e k = let clash : Promote ≡ Hand = (same_pair (enlistment t f, Promote) (e, Hand) k).1 in absurd cc
hands t (AskedEntry f AskSingle) e k = let clash : Single ≡ Hand = (same_pair (enlistment t f, Single) (e, Hand) k).1 in absurd cc
hands t (Handed f) e k = let same : e.number ≡ f = sym (ap (λ (x : Enlistment). x.number) (same_pair (enlistment t f, Hand) (e, Hand) k).0) in subst (λ g. (g.value == f.value) ≡ true) (sym same) (eq_self f.value)
hands t (ToldEntry (Enl f) Committed) e k = let clash : Commit ≡ Hand = (same_pair (enlistment t f, Commit) (e, Hand) k).1 in absurd cc
hands t (ToldEntry (Enl f) Aborted) e k = let clash : Rollback ≡ Hand = (same_pair (enlistment t f, Rollback) (e, Hand) k).1 in absurd cc
hands t (ToldEntry (Enl f) InDoubt) e k = let clash : InDoubtNote ≡ Hand = (same_pair (enlistment t f, InDoubtNote) (e, Hand) k).1 in absurd cc
hands t (ToldEntry Client o) e k = absurd cc
hands t _ e k = absurd cc

pub tells_commit : (t : TxId) (x : Entry) (e : Enlistment) → Says t x e Commit → is_told_so Committed e.number.value x ≡ true
tells_commit t (InitEntry f) e k = let clash : Init ≡ Commit = (same_pair (enlistment t f, Init) (e, Commit) k).1 in absurd cc
tells_commit t (AskedEntry f AskPrepare) e k = let clash : Prepare ≡ Commit = (same_pair (enlistment t f, Prepare) (e, Commit) k).1 in absurd cc
tells_commit t (AskedEntry f AskPromote) e k = let clash : Promote ≡ Commit = (same_pair (enlistment t f, Promote) (e, Commit) k).1 in absurd cc
tells_commit t (AskedEntry f AskSingle) e k = let clash : Single ≡ Commit = (same_pair (enlistment t f, Single) (e, Commit) k).1 in absurd cc
tells_commit t (Handed f) e k = let clash : Hand ≡ Commit = (same_pair (enlistment t f, Hand) (e, Commit) k).1 in absurd cc
tells_commit t (ToldEntry (Enl f) Committed) e k = let same : e.number ≡ f = sym (ap (λ (x : Enlistment). x.number) (same_pair (enlistment t f, Commit) (e, Commit) k).0) in and_both (e.number.value == f.value) true (subst (λ g. (g.value == f.value) ≡ true) (sym same) (eq_self f.value)) refl
tells_commit t (ToldEntry (Enl f) Aborted) e k = let clash : Rollback ≡ Commit = (same_pair (enlistment t f, Rollback) (e, Commit) k).1 in absurd cc
tells_commit t (ToldEntry (Enl f) InDoubt) e k = let clash : InDoubtNote ≡ Commit = (same_pair (enlistment t f, InDoubtNote) (e, Commit) k).1 in absurd cc
tells_commit t (ToldEntry Client o) e k = absurd cc
tells_commit t _ e k = absurd cc

pub tells_abort : (t : TxId) (x : Entry) (e : Enlistment) → Says t x e Rollback → is_told_so Aborted e.number.value x ≡ true
tells_abort t (InitEntry f) e k = let clash : Init ≡ Rollback = (same_pair (enlistment t f, Init) (e, Rollback) k).1 in absurd cc
tells_abort t (AskedEntry f AskPrepare) e k = let clash : Prepare ≡ Rollback = (same_pair (enlistment t f, Prepare) (e, Rollback) k).1 in absurd cc
tells_abort t (AskedEntry f AskPromote) e k = let clash : Promote ≡ Rollback = (same_pair (enlistment t f, Promote) (e, Rollback) k).1 in absurd cc
tells_abort t (AskedEntry f AskSingle) e k = let clash : Single ≡ Rollback = (same_pair (enlistment t f, Single) (e, Rollback) k).1 in absurd cc
tells_abort t (Handed f) e k = let clash : Hand ≡ Rollback = (same_pair (enlistment t f, Hand) (e, Rollback) k).1 in absurd cc
tells_abort t (ToldEntry (Enl f) Committed) e k = let clash : Commit ≡ Rollback = (same_pair (enlistment t f, Commit) (e, Rollback) k).1 in absurd cc
tells_abort t (ToldEntry (Enl f) Aborted) e k = let same : e.number ≡ f = sym (ap (λ (x : Enlistment). x.number) (same_pair (enlistment t f, Rollback) (e, Rollback) k).0) in and_both (e.number.value == f.value) true (subst (λ g. (g.value == f.value) ≡ true) (sym same) (eq_self f.value)) refl
tells_abort t (ToldEntry (Enl f) InDoubt) e k = let clash : InDoubtNote ≡ Rollback = (same_pair (enlistment t f, InDoubtNote) (e, Rollback) k).1 in absurd cc
tells_abort t (ToldEntry Client o) e k = absurd cc
tells_abort t _ e k = absurd cc

-- ---- one move

-- what is known of a transaction's history: no note comes again, and one that was handed the commit is the only one of a resource
pub record NotesOnce (place : EnlNo → Place) (h : List Entry) : Type 0 where
  pub new : always is_note_new h ≡ true
  pub alone : (e : ℕ) (f : EnlNo) (m : ℕ) → has (is_hand e) h ≡ true → place f ≡ At m → has (is_asked f.value) h ≡ false

-- so it is of each part of it
pub once_before : (place : EnlNo → Place) (h ws : List Entry) → NotesOnce place (onto h ws) → NotesOnce place h
once_before place h ws k = record {
  new = always-before is_note_new h ws k.new;
  alone = λ e f m hand at. Rattle.std.proofs.lemmas.Bool.false_from_ne_true (has (is_asked f.value) h) (λ p. not_both (has (is_asked f.value) (onto h ws)) (grown_more h ws (is_asked f.value) p) (k.alone e f m (grown_more h ws (is_hand e) hand) at));
}

-- the entries that come to be heard are in the history, after those that were heard
pub come_after : (h xs es rest : List Entry) → past_of h ≡ xs ++ (es ++ rest) → h ≡ onto (past_of xs) (es ++ rest)
come_after h xs es rest split = sym (turned h) ∙ (ap (λ k. past_of k) split ∙ by xs (es ++ rest))
  where
    turned : (h : List Entry) → past_of (past_of h) ≡ h
    turned h = Rattle.dtx_model.proofs.Pasts.past-reverse (past_of h) ∙ (ap (λ ys. Rattle.std.proofs.Common.reverse ys) (Rattle.dtx_model.proofs.Pasts.past-reverse h) ∙ Rattle.std.proofs.lemmas.List.reverse-reverse h)

    by : (xs ys : List Entry) → past_of (xs ++ ys) ≡ onto (past_of xs) ys
    by xs ys = Rattle.dtx_model.proofs.Histories.onto-append [] xs ys
