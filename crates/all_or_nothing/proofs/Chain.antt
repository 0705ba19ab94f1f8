-- What is held of a transaction stays tied to its history, over all the moves of a call.
use Rattle.std.proofs.Common.{◌≡◌, ◌≤◌, Bool, true, false, not, List, [], ◌∷◌, ◌++◌, Some, None, length, drop, take, ap, subst, sym, ◌∙◌, arith}
use Rattle.std.proofs.lemmas.List.{take-append-drop}
use Rattle.std.proofs.lemmas.List.Folds.{list_any-append}
use Rattle.dtx_values.specs.TxIds.{number_of}
use Rattle.dtx_values.specs.declared.entry.Entry.{Entry}
use Rattle.dtx_values.specs.declared.note.Note.{Note}
use Rattle.dtx_values.specs.declared.note.Note.TheVariants.{Prepare, Hand, Commit, Rollback}
use Rattle.dtx_values.specs.declared.number.EnlNo.{EnlNo}
use Rattle.dtx_values.specs.declared.tx_id.TxId.{TxId}
use Rattle.dtx_values.specs.declared.words.Outcome.TheVariants.{Aborted, Committed}
use Rattle.dtx_model.proofs.Bools.{not_both, or_case, or_right}
use Rattle.dtx_model.proofs.Reading.{has-past}
use Rattle.dtx_model.specs.Entries.{is_asked, is_hand}
use Rattle.dtx_model.specs.Words.{always, each, has, onto, past_of}
use Rattle.history_table.proofs.Scans.{each_more}
use Rattle.record_laws.specs.Recorded.{is_note_new, is_told_so}
use Rattle.recovery_laws.specs.Whole.{Site}
use Rattle.resource_managers.specs.Pairs.{enlistment}
use Rattle.resource_managers.specs.declared.enlistment.Enlistment.{Enlistment}
use Rattle.transactions.specs.Events.{note_in}
use Rattle.transactions.specs.Hearing.{Advances, Given, HearsNext, Takes, Writes, events, is_one_of, is_reply, says}
use Rattle.transactions.specs.State.{LiveState, past, unheard}
use Rattle.transactions.specs.declared.event.Event.{Event}
use Rattle.transactions.proofs.Driving.{Gives}
use Rattle.all_or_nothing.specs.Marks.{Place}
use Rattle.all_or_nothing.specs.Tying.{IsTied}
use Rattle.all_or_nothing.specs.Whole.{IsTiedTo, heard_of}
use Rattle.all_or_nothing.proofs.Entries.{asked_new, handed_new, heard_more, heard_same, past_more}
use Rattle.std.proofs.lemmas.Bool.{or_left}
use Rattle.all_or_nothing.proofs.Moved.{Fewer, fewer_same, says_written}
use Rattle.all_or_nothing.proofs.Moving.{NotesOnce, Says, asks, come_after, comer, hands, its_own, note_by, once_before, tells_abort, tells_commit}
use Rattle.all_or_nothing.proofs.Tied.{Comes, more_first, more_last, tied_on}

-- what is tied, of transaction t, where its history and what was heard of it are these
abbrev pub Tie : {O : Type 0} → (O → Enlistment → Place) → (O → Enlistment → Type 0) → (O → List Site → Type 0) → TxId → List Given → O → List Entry → List Entry → Type 0
Tie place keeps leaves t gs o h heard = IsTied (number_of t) (λ e. place o (enlistment t e)) (λ e. keeps o (enlistment t e)) (leaves o) gs h heard

-- what one move, or several, left
pub record Moved {O : Type 0} (place : O → Enlistment → Place) (keeps : O → Enlistment → Type 0) (leaves : O → List Site → Type 0) (sound : O → Type 0) (gs : List Given) (y z : LiveState) (a b : O) : Type 0 where
  pub tied : IsTiedTo place keeps leaves gs z b
  pub within : z.heard ≤ length (past z)
  pub number : z.number ≡ y.number
  pub memory : sound b
  pub places : (f : Enlistment) → place b f ≡ place a f

one_of_more : (gs hs : List Given) → ((p : Given → Bool) → has p gs ≡ true → has p hs ≡ true) → (x : Entry) → is_one_of gs x ≡ true → is_one_of hs x ≡ true
one_of_more gs hs more x k = or_case (not (is_reply x)) (has (λ g. says g x) gs) (λ q. or_left (not (is_reply x)) (has (λ g. says g x) hs) q) (λ q. or_right (not (is_reply x)) (has (λ g. says g x) hs) (more (λ g. says g x) q)) k

pub all_one_of : (gs hs : List Given) → ((p : Given → Bool) → has p gs ≡ true → has p hs ≡ true) → (ws : List Entry) → each (is_one_of gs) ws ≡ true → each (is_one_of hs) ws ≡ true
all_one_of gs hs more ws k = each_more (is_one_of gs) (is_one_of hs) (one_of_more gs hs more) ws k

pub none_more : (hs : List Given) (p : Given → Bool) → has p [] ≡ true → has p hs ≡ true
none_more hs p k = absurd cc

pub last_more : (gs qs : List Given) (p : Given → Bool) → has p qs ≡ true → has p (gs ++ qs) ≡ true
last_more gs qs p k = list_any-append p gs qs ∙ or_right (has p gs) (has p qs) k

-- the history went on, with replies that were given
pub written : {O : Type 0} (place : O → Enlistment → Place) (keeps : O → Enlistment → Type 0) (leaves : O → List Site → Type 0) (t : TxId) (gs hs : List Given) (o : O) (h h_now ws heard : List Entry)
    → Tie place keeps leaves t gs o h heard → h_now ≡ onto h ws → each (is_one_of gs) ws ≡ true → Fewer hs gs → Tie place keeps leaves t hs o h_now heard
written place keeps leaves t gs hs o h h_now ws heard tied grown all fewer =
    subst (λ k. Tie place keeps leaves t hs o k heard) (sym grown)
    (tied_on (number_of t) (λ e. place o (enlistment t e)) (λ e. keeps o (enlistment t e)) (leaves o) gs hs h (onto h ws) heard heard (λ p k. k) (says_written gs hs h ws all fewer) tied)

-- entries were heard that say nothing to an enlistment that holds something
pub silent : {O : Type 0} (place : O → Enlistment → Place) (keeps : O → Enlistment → Type 0) (leaves : O → List Site → Type 0) (t : TxId) (gs : List Given) (o : O) (h heard es : List Entry)
    → Tie place keeps leaves t gs o h heard → Tie place keeps leaves t gs o h (heard ++ es)
silent place keeps leaves t gs o h heard es tied =
    tied_on (number_of t) (λ e. place o (enlistment t e)) (λ e. keeps o (enlistment t e)) (leaves o) gs gs h h heard (heard ++ es) (more_first heard es)
    (record { vote = λ e k. k; yes_vote = λ e k. k; done = λ e k. k; ack = λ e k. k }) tied

-- a transaction that is tied is so under its own number
pub under : {O : Type 0} (place : O → Enlistment → Place) (keeps : O → Enlistment → Type 0) (leaves : O → List Site → Type 0) (gs : List Given) (t : TxId) (z : LiveState) (o : O) (heard : List Entry)
    → z.number ≡ t → heard_of z ≡ heard → Tie place keeps leaves t gs o (past z) heard → IsTiedTo place keeps leaves gs z o
under place keeps leaves gs t z o heard number same tied =
    subst (λ u. Tie place keeps leaves u gs o (past z) (heard_of z)) (sym number) (subst (λ k. Tie place keeps leaves t gs o (past z) k) (sym same) tied)

-- a history that goes on is no shorter
pub longer : (h xs : List Entry) → length h ≤ length (onto h xs)
longer h [] = omega arith
longer h (x ∷ xs) = let more = longer (x ∷ h) xs in omega arith

-- ---- it goes on by itself

pub goes : {O : Type 0} (gives : Gives O) (place : O → Enlistment → Place) (keeps : O → Enlistment → Type 0) (leaves : O → List Site → Type 0) (sound : O → Type 0) (gs : List Given) (y z : LiveState) (a b : O)
    → Advances None y z → b ≡ a → sound a → IsTiedTo place keeps leaves gs y a → Moved place keeps leaves sound gs y z a b
goes gives place keeps leaves sound gs y z a b v same memory tied =
    let w = v.writes in
    let h = v.hears in
    let number : z.number ≡ y.number = ap (λ (s : LiveState). s.number) v.rest in
    let on = written place keeps leaves y.number gs gs a (past y) (past z) w.written (heard_of y) tied w.grown (all_one_of [] gs (none_more gs) w.written w.said) (fewer_same gs) in
    let all = silent place keeps leaves y.number gs a (past z) (heard_of y) h.heard on in
    record {
      tied = subst (λ o. IsTiedTo place keeps leaves gs z o) (sym same) (under place keeps leaves gs y.number z a (heard_of y ++ h.heard) number (heard_more [] [] y z h w v.within v.still) all);
      within = v.still;
      number = number;
      memory = subst (λ o. sound o) (sym same) memory;
      places = λ f. ap (λ o. place o f) same;
    }

-- ---- a call or a reply comes from outside

pub takes : {O : Type 0} (gives : Gives O) (place : O → Enlistment → Place) (keeps : O → Enlistment → Type 0) (leaves : O → List Site → Type 0) (sound : O → Type 0) (gs : List Given) (y z : LiveState) (a b : O)
    → Takes gs y z → b ≡ a → sound a → y.heard ≤ length (past y) → IsTiedTo place keeps leaves gs y a → Moved place keeps leaves sound gs y z a b
takes gives place keeps leaves sound gs y z a b v same memory within tied =
    let w = v.writes in
    let on = written place keeps leaves y.number gs gs a (past y) (past z) w.written (heard_of y) tied w.grown w.said (fewer_same gs) in
    record {
      tied = subst (λ o. IsTiedTo place keeps leaves gs z o) (sym same) (under place keeps leaves gs y.number z a (heard_of y) v.number (heard_same gs y z w v.heard within) on);
      within = let l = longer (past y) w.written in let s = ap (λ (k : List Entry). length k) w.grown in let e = v.heard in omega (arith, l, s, e, within);
      number = v.number;
      memory = subst (λ o. sound o) (sym same) memory;
      places = λ f. ap (λ o. place o f) same;
    }

-- ---- an event comes, and the objects hear it

-- the history is what was heard, what comes to be heard, and what nobody hears yet
pub split_of : (gs : List Given) (said : List Event) (x y : LiveState) (h : HearsNext said x y) → Writes gs x y → x.heard ≤ length (past x) → past_of (past y) ≡ heard_of x ++ (h.heard ++ unheard y)
split_of gs said x y h w was =
    let p = past_of (past x) in
    let there : past_of (past y) ≡ p ++ w.written = ap (λ k. past_of k) w.grown ∙ past_more (past x) w.written in
    let size = Rattle.dtx_model.proofs.Pasts.length-past (past x) in
    let same : take x.heard (past_of (past y)) ≡ heard_of x = ap (take x.heard) there ∙ Rattle.std.proofs.lemmas.List.take-append-le x.heard p w.written (omega arith) in
    sym (take-append-drop x.heard (past_of (past y))) ∙ (ap (λ k. k ++ drop x.heard (past_of (past y))) same ∙ ap (λ k. heard_of x ++ k) h.split)

-- the note of an event comes as it may
pub comes_so : (t : TxId) (place : EnlNo → Place) (h heard es rest : List Entry) (ev : Event) (e : Enlistment) (n : Note) → past_of h ≡ heard ++ (es ++ rest) → events t es ≡ ev ∷ [] → note_in ev ≡ Some (e, n)
    → NotesOnce place h → Comes place e.number n heard es
comes_so t place h heard es rest ev e n split said note once = record {
  asked = λ k. among (is_asked e.number.value) (asks t c.entry e (by Prepare k));
  handed = λ k. among (is_hand e.number.value) (hands t c.entry e (by Hand k));
  committed = λ k. among (is_told_so Committed e.number.value) (tells_commit t c.entry e (by Commit k));
  aborted = λ k. among (is_told_so Aborted e.number.value) (tells_abort t c.entry e (by Rollback k));
  new_asked = λ k. let new = asked_new e.number.value (past_of heard) (es ++ rest) order (more (is_asked e.number.value) (among (is_asked e.number.value) (asks t c.entry e (by Prepare k)))) in
      (sym (has-past (is_asked e.number.value) heard) ∙ new.0, sym (has-past (is_told_so Committed e.number.value) heard) ∙ new.1);
  new_handed = λ k. sym (has-past (is_told_so Committed e.number.value) heard) ∙ handed_new e.number.value (past_of heard) (es ++ rest) order (more (is_hand e.number.value) (among (is_hand e.number.value) (hands t c.entry e (by Hand k))));
  unasked = λ k m at.
      off (is_asked e.number.value) (once.alone e.number.value e.number m (there (is_hand e.number.value) (last (is_hand e.number.value) (among (is_hand e.number.value) (hands t c.entry e (by Hand k))))) at);
  unhanded = λ k m at. Rattle.std.proofs.lemmas.Bool.false_from_ne_true (has (is_hand e.number.value) heard) (λ p.
      not_both (has (is_asked e.number.value) h) (there (is_asked e.number.value) (last (is_asked e.number.value) (among (is_asked e.number.value) (asks t c.entry e (by Prepare k)))))
      (once.alone e.number.value e.number m (there (is_hand e.number.value) (first (is_hand e.number.value) p)) at));
}
  where
    c : Rattle.all_or_nothing.proofs.Moving.Comer t ev es
    c = comer t ev es said

    among : (p : Entry → Bool) → p c.entry ≡ true → has p es ≡ true
    among = c.among

    note_is : (p q : Enlistment × Note) → p ≡ q → Some p ≡ Some q
    note_is p q k = ap (λ x. Some x) k

    by : (m : Note) → n ≡ m → Says t c.entry e m
    by m k = ap note_by c.says ∙ (note ∙ note_is (e, n) (e, m) (ap (λ x. (e, x)) k))

    order : always is_note_new (onto (past_of heard) (es ++ rest)) ≡ true
    order = subst (λ k. always is_note_new k ≡ true) (come_after h heard es rest split) once.new

    more : (p : Entry → Bool) → has p es ≡ true → has p (es ++ rest) ≡ true
    more p k = more_first es rest p k

    first : (p : Entry → Bool) → has p heard ≡ true → has p (heard ++ (es ++ rest)) ≡ true
    first p k = more_first heard (es ++ rest) p k

    last : (p : Entry → Bool) → has p es ≡ true → has p (heard ++ (es ++ rest)) ≡ true
    last p k = more_last heard (es ++ rest) p (more p k)

    there : (p : Entry → Bool) → has p (heard ++ (es ++ rest)) ≡ true → has p h ≡ true
    there p k = sym (has-past p h) ∙ (ap (has p) split ∙ k)

    off : (p : Entry → Bool) → has p h ≡ false → has p heard ≡ false
    off p k = Rattle.std.proofs.lemmas.Bool.false_from_ne_true (has p heard) (λ q. not_both (has p h) (there p (first p q)) k)
