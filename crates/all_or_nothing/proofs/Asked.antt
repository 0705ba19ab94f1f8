-- A program that asks what comes next in a transaction, and hands it to its objects, keeps all or nothing.
use Rattle.std.specs.Prelude.{IsTrue}
use Rattle.std.proofs.Common.{◌≡◌, inl, inr, Bool, true, false, ℕ, zero, suc, List, [], ◌∷◌, ◌++◌, Option, Some, None, refl, ap, subst, sym}
use Rattle.std.proofs.lemmas.Bool.{or_left}
use Rattle.dtx_values.specs.TxIds.{number_of}
use Rattle.dtx_values.specs.declared.note.Note.{Note}
use Rattle.dtx_values.specs.declared.note.Reply.{Reply}
use Rattle.dtx_values.specs.declared.number.EnlNo.{EnlNo}
use Rattle.dtx_values.specs.declared.tx_id.TxId.{TxId}
use Rattle.recovery_laws.specs.Whole.{Site}
use Rattle.resource_managers.specs.Pairs.{enlistment}
use Rattle.resource_managers.specs.declared.enlistment.Enlistment.{Enlistment}
use Rattle.transactions.specs.Events.{note_in}
use Rattle.transactions.specs.Hearing.{Given, HearsNext, HearsNote, MovesOn, Writes}
use Rattle.transactions.specs.Slots.{Standing, live_at}
use Rattle.transactions.specs.State.{LiveState, past, unheard}
use Rattle.transactions.specs.declared.event.Event.{Event}
use Rattle.transactions.proofs.Entering.{some_same}
use Rattle.all_or_nothing.specs.Marks.{HearsAs, Place, is_same, is_single, may_become, marks_of}
use Rattle.all_or_nothing.specs.Objects.{AreHolders}
use Rattle.all_or_nothing.specs.Whole.{AreReady, IsAllOrNothing, IsAsked, IsTiedTo, heard_of}
use Rattle.all_or_nothing.proofs.Called.{EpochLaw, TellsLaw, VotesLaw}
use Rattle.all_or_nothing.proofs.Calls.{IsMoved, left_by, live_number, moved_on}
use Rattle.transactions.proofs.Driving.{Gives}
use Rattle.all_or_nothing.proofs.Chain.{Tie, split_of, under, written}
use Rattle.all_or_nothing.proofs.Entries.{heard_more}
use Rattle.all_or_nothing.proofs.Moved.{fewer_same}
use Rattle.all_or_nothing.proofs.Moving.{NotesOnce}
use Rattle.all_or_nothing.proofs.Turned.{Tied, hears_note}

-- ---- objects that hear nothing

-- they reply nothing, and stay as they are
abbrev pub idle : {O : Type 0} → Gives O
idle a e n r b = (r ≡ None) × (b ≡ a)

-- what is held once at most is the same as itself
same_single : (l : List Bool) → is_single l ≡ true → is_same l l ≡ true
same_single [] k = refl
same_single (true ∷ []) k = refl
same_single (false ∷ []) k = refl
same_single (a ∷ b ∷ l) k = absurd cc

stays_so : (n : Note) (l : List Bool) → is_single l ≡ true → may_become n l l ≡ true
stays_so n l k = or_left (is_same l l) _ (same_single l k)

idle_hears : (n : ℕ) (place : EnlNo → Place) (keeps : EnlNo → Type 0) (leaves : List Site → Type 0) (e : EnlNo) (note : Note) → HearsAs n place keeps keeps leaves leaves e note None
idle_hears n place keeps leaves e note = record {
  fitting = refl;
  somewhere = λ yes at. cc;
  turns = λ new l. (
    new,
    l,
    record { own = λ m at single. record { turned = stays_so note (marks_of m n e.value new) single; done = λ done. absurd cc }; others = λ m k f off. refl },
  );
  yes = λ yes m at. absurd cc;
  stays = λ f k. inl k;
  acked = λ ack k m at ss l. absurd cc;
}

-- so they are holders too
idle_holders : {O : Type 0} (gives : Gives O) (place : O → Enlistment → Place) (keeps : O → Enlistment → Type 0) (leaves : O → List Site → Type 0) (sound : O → Type 0) → AreHolders gives place keeps leaves sound
    → AreHolders idle place keeps leaves sound
idle_holders {O} gives place keeps leaves sound holders = record {
  hears = λ a b e n r memory g.
      subst (λ (o : O). HearsAs (number_of e.transaction) (λ f. place a (enlistment e.transaction f)) (λ f. keeps a (enlistment e.transaction f)) (λ f. keeps o (enlistment e.transaction f)) (leaves a) (leaves o) e.number n r) (sym g.1)
      (subst (λ (q : Option Reply). HearsAs (number_of e.transaction) (λ f. place a (enlistment e.transaction f)) (λ f. keeps a (enlistment e.transaction f)) (λ f. keeps a (enlistment e.transaction f)) (leaves a) (leaves a) e.number n q) (sym g.0)
      (idle_hears (number_of e.transaction) (λ f. place a (enlistment e.transaction f)) (λ f. keeps a (enlistment e.transaction f)) (leaves a) e.number n));
  on = λ a b e n r memory g. subst (λ (o : O). sound o) (sym g.1) memory;
  places = λ a b e n r g f. ap (λ (o : O). place o f) g.1;
  others = λ a b e n r memory g f off k. subst (λ (o : O). keeps o f) (sym g.1) k;
  held = holders.held;
}

idle_note : {O : Type 0} (o : O) (q : Option (Enlistment × Note)) → HearsNote idle q o [] o
idle_note o (Some x) = (None, (refl, refl), refl)
idle_note o None = (refl, refl)

-- ---- what was asked is a move

nothing_written : (rs : List Given) (y : LiveState) → Writes rs y y
nothing_written rs y = record { written = []; grown = refl; said = refl; called = []; calls = refl }

-- the objects heard the event, if one came
abbrev HearsIt : {O : Type 0} → Gives O → Option Event → O → List Given → O → Type 0
HearsIt gives (Some ev) o rs p = HearsNote gives (note_in ev) o rs p
HearsIt gives None o rs p = p ≡ o

asked_moves : {D C O : Type 0} (honest : Bool) (image : D → List ℕ → Type 0) (gives : Gives O) (e : Option Event) (rs : List Given) (t : TxId) (m n : Standing D C) (o p : O) (c : IsAsked honest image e t m n)
    → HearsIt gives e o rs p → MovesOn gives [] (suc zero) c.before c.after o p
asked_moves honest image gives (Some ev) rs t m n o p c hears =
    (c.before, o, (refl, refl), inr (inr (record { event = ev; replies = rs; between = c.after; comes = c.advances; hears = hears; writes = nothing_written rs c.after; rest = refl })))
asked_moves honest image gives None rs t m n o p c same = (c.before, o, (refl, refl), inl (c.advances, same))

asked_moved : {D C O : Type 0} (honest : Bool) (image : D → List ℕ → Type 0) (gives : Gives O) (e : Option Event) (rs : List Given) (t : TxId) (m n : Standing D C) (o p : O) (c : IsAsked honest image e t m n)
    → HearsIt gives e o rs p → IsMoved honest image gives [] t m n o p
asked_moved honest image gives e rs t m n o p c hears = record {
  before = c.before;
  was = c.was;
  after = c.after;
  now = λ y at. some_same (live_at t n.lives) y c.after at c.now;
  run_before = c.run_before;
  run = c.run;
  called = c.advances.writes.called;
  calls = c.advances.writes.calls;
  count = suc zero;
  moves = asked_moves honest image gives e rs t m n o p c hears;
  records = c.records;
  others = c.others;
  last = c.last;
}

-- A program asked what comes next, and its objects didn't hear it yet.
pub asked : {D C O : Type 0} (honest : Bool) (image : D → List ℕ → Type 0) (gives : Gives O) (place : O → Enlistment → Place) (keeps : O → Enlistment → Type 0) (leaves : O → List Site → Type 0) (sound : O → Type 0)
    → AreHolders gives place keeps leaves sound → VotesLaw → TellsLaw → EpochLaw → (e : Option Event) (t : TxId) (m n : Standing D C) (o : O) → IsTrue honest → IsAllOrNothing image place keeps leaves sound m o
    → IsAsked honest image e t m n → IsAllOrNothing image place keeps leaves sound n o
unfolding asked_moved
asked honest image gives place keeps leaves sound holders votes tells epochs e t m n o is all c =
    moved_on honest image idle place keeps leaves sound (idle_holders gives place keeps leaves sound holders) votes tells epochs [] t m n o o is all (asked_moved honest image idle e [] t m n o o c (unheard_by e)) (all.tied t c.before c.was)
  where
    unheard_by : (q : Option Event) → HearsIt idle q o [] o
    unheard_by (Some ev) = idle_note o (note_in ev)
    unheard_by None = refl

-- They heard it.
pub heard_it : {D C O : Type 0} (honest : Bool) (image : D → List ℕ → Type 0) (gives : Gives O) (place : O → Enlistment → Place) (keeps : O → Enlistment → Type 0) (leaves : O → List Site → Type 0) (sound : O → Type 0)
    → AreHolders gives place keeps leaves sound → VotesLaw → TellsLaw → EpochLaw → (ev : Event) (rs : List Given) (t : TxId) (m n : Standing D C) (o p : O) → IsTrue honest → IsAllOrNothing image place keeps leaves sound m o
    → IsAsked honest image (Some ev) t m n → HearsNote gives (note_in ev) o rs p → IsAllOrNothing image place keeps leaves sound n p
unfolding asked_moved
heard_it honest image gives place keeps leaves sound holders votes tells epochs ev rs t m n o p is all c hears =
    moved_on honest image gives place keeps leaves sound holders votes tells epochs [] t m n o p is all (asked_moved honest image gives (Some ev) rs t m n o p c hears) (all.tied t c.before c.was)

-- And then they are ready for what they replied.
pub ready_then : {D C O : Type 0} (honest : Bool) (image : D → List ℕ → Type 0) (gives : Gives O) (place : O → Enlistment → Place) (keeps : O → Enlistment → Type 0) (leaves : O → List Site → Type 0) (sound : O → Type 0)
    → AreHolders gives place keeps leaves sound → VotesLaw → TellsLaw → (ev : Event) (rs : List Given) (t : TxId) (m n : Standing D C) (o p : O) → IsTrue honest → IsAllOrNothing image place keeps leaves sound m o
    → IsAsked honest image (Some ev) t m n → HearsNote gives (note_in ev) o rs p → AreReady place keeps leaves rs t n p
unfolding asked_moved
ready_then honest image gives place keeps leaves sound holders votes tells ev rs t m n o p is all c hears y at =
    subst (λ s. IsTiedTo place keeps leaves rs s p) (some_same (live_at t n.lives) z y c.now at)
    (under place keeps leaves rs x.number z p (heard_of x ++ h.heard) number (heard_more (ev ∷ []) [] x z h w c.advances.within c.advances.still) heard.tied)
  where
    x : LiveState
    x = c.before

    z : LiveState
    z = c.after

    w : Writes [] x z
    w = c.advances.writes

    h : HearsNext (ev ∷ []) x z
    h = c.advances.hears

    number : z.number ≡ x.number
    number = ap (λ (s : LiveState). s.number) c.advances.rest

    mine : x.number ≡ t
    mine = live_number t m.lives x c.was

    once : NotesOnce (λ e. place o (enlistment x.number e)) (past z)
    once =
        let left = left_by honest image gives place keeps leaves sound holders votes tells [] t m n o p is all (asked_moved honest image gives (Some ev) rs t m n o p c hears) (all.tied t x c.was) in
        subst (λ u. NotesOnce (λ e. place o (enlistment u e)) (past z)) (sym mine) (subst (λ s. NotesOnce (λ e. place o (enlistment t e)) (past s)) (sym (left.1.now z c.now)) left.1.once)

    on : Tie place keeps leaves x.number [] o (past z) (heard_of x)
    on = written place keeps leaves x.number [] [] o (past x) (past z) w.written (heard_of x) (all.tied t x c.was) w.grown w.said (fewer_same [])

    heard : Tied place keeps leaves sound x.number [] rs (past z) (heard_of x ++ h.heard) o p
    heard =
        hears_note gives place keeps leaves sound holders x.number [] rs (past z) (heard_of x) h.heard (unheard z) ev o p (split_of [] (ev ∷ []) x z h w c.advances.within) h.says all.memory once on (note_in ev) refl hears
