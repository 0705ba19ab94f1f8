-- What a history says of an enlistment on whose own connection nothing is opened: it is told nothing until something is decided, and a volatile votes before that.
use Rattle.std.proofs.Common.{ℕ, ◌≡◌, ◌==◌, ◌||◌, ◌&&◌, Bool, true, false, List, [], ◌∷◌, Option, Some, None, is_some, refl, sym, subst, ◌∙◌, ◌⊎◌, inl, inr}
use Rattle.std.specs.Prelude.{not}
use Rattle.std.proofs.lemmas.Bool.{eqb-true, false_from_ne_true, or_left}
use Rattle.dtx_values.specs.declared.entry.Entry.{Entry}
use Rattle.dtx_values.specs.declared.entry.Entry.TheVariants.{Got, Told, Voted}
use Rattle.dtx_values.specs.declared.entry.Party.{Party}
use Rattle.dtx_values.specs.declared.entry.Party.TheVariants.{Enl as Member}
use Rattle.dtx_values.specs.declared.message.Conn.TheVariants.{Again, Enl}
use Rattle.dtx_values.specs.declared.message.Dir.TheVariants.{Down}
use Rattle.dtx_values.specs.declared.message.Message.{Message}
use Rattle.dtx_values.specs.declared.message.Message.TheVariants.{EnlistAbort, EnlistCommit, EnlistEnlisted, EnlistPrepare, ReenlistAborted, ReenlistCommitted}
use Rattle.dtx_values.specs.declared.number.EnlNo.{EnlNo}
use Rattle.dtx_values.specs.declared.words.Outcome.{Outcome}
use Rattle.dtx_values.specs.declared.words.Outcome.TheVariants.{Aborted, Committed, InDoubt}
use Rattle.dtx_values.specs.declared.words.Vote.{Vote}
use Rattle.dtx_model.specs.Entries.{decision_of, is_asked, is_decision, is_lost, is_told, is_vote}
use Rattle.dtx_model.specs.Outcome.{hears_doubt}
use Rattle.dtx_model.specs.Promotes.{is_enlisted_got}
use Rattle.dtx_model.specs.Wires.{is_ended, opens}
use Rattle.dtx_model.specs.Words.{has, latest}
use Rattle.dtx_model.specs.Entries.{is_hand}
use Rattle.dtx_model.proofs.Bools.{and_both, not_both, not_true, or_case, or_false, or_second, three_hold}
use Rattle.history_table.proofs.CameBack.{alone_by_got}
use Rattle.history_table.proofs.CoreKnown.{got_there}
use Rattle.history_table.proofs.Crossed.{is_got_on}
use Rattle.history_table.proofs.EntryTests.{is_certain, is_decided, is_enlisted}
use Rattle.history_table.proofs.Keeping.{Keeps, fifth_of_five, keeps_before, newest}
use Rattle.history_table.proofs.Leading.{opening_was_sent}
use Rattle.history_table.proofs.Owned.{decision_seen}
use Rattle.history_table.proofs.Scans.{has_more}
use Rattle.history_table.proofs.Standing.{prepared_if_asked}
use Rattle.history_table.proofs.Table.{brings, ends_again, ends_with, hears_decision, hears_here, is_prepare_got, stands_volatile}
use Rattle.history_table.proofs.Tests.{first_of_five, first_of_three, second_of_five}

-- where something was got over an enlistment's own connection, that was opened
opened_by : (e : EnlNo) (p : Entry → Bool) (h : List Entry) → Keeps h → ((x : Entry) → p x ≡ true → is_got_on (Enl e) Down (λ m. true) x ≡ true) → has p h ≡ true → has (opens (Enl e)) h ≡ true
opened_by e p h k on t = opening_was_sent (Enl e) h k.wires (got_there (Enl e) (λ m. true) h k (has_more p (is_got_on (Enl e) Down (λ m. true)) on h t))

enlisted_on : (e : EnlNo) (x : Entry) → is_enlisted_got e.value x ≡ true → is_got_on (Enl e) Down (λ m. true) x ≡ true
enlisted_on e (Got (Enl f) Down EnlistEnlisted) t = three_hold (e.value == f.value) true true t refl refl
enlisted_on e _ t = absurd cc

prepare_on : (e : EnlNo) (x : Entry) → is_prepare_got e.value x ≡ true → is_got_on (Enl e) Down (λ m. true) x ≡ true
prepare_on e (Got (Enl f) Down EnlistPrepare) t = three_hold (e.value == f.value) true true t refl refl
prepare_on e _ t = absurd cc

-- a message on its connection, or on that of its reenlistment
by_own : (e f : EnlNo) (m : Message) (h : List Entry) → Keeps (Got (Enl f) Down m ∷ h) → has (opens (Enl e)) (Got (Enl f) Down m ∷ h) ≡ false → (e.value == f.value) ≡ true → ⊥
by_own e f m h k n q =
    let g = Got (Enl f) Down m ∷ h in
    let on : has (is_got_on (Enl e) Down (λ m. true)) g ≡ true = or_left ((e.value == f.value) && true && true) (has (is_got_on (Enl e) Down (λ m. true)) h) (three_hold (e.value == f.value) true true q refl refl) in
    not_both (has (opens (Enl e)) g) (opening_was_sent (Enl e) g k.wires (got_there (Enl e) (λ m. true) g k on)) n

by_again : (e f : EnlNo) (m : Message) (h : List Entry) → Keeps (Got (Again f) Down m ∷ h) → has (opens (Enl e)) (Got (Again f) Down m ∷ h) ≡ false → (e.value == f.value) ≡ true → ⊥
by_again e f m h k n q =
    let got : has (is_enlisted_got f.value) h ≡ true = first_of_three (has (is_enlisted_got f.value) h) (not (has (is_hand f.value) h)) (is_ended (Enl f) Down h) (alone_by_got f m h k) in
    let own : has (is_enlisted_got e.value) h ≡ true = subst (λ n. has (is_enlisted_got n) h ≡ true) (sym (eqb-true e.value f.value q)) got in
    not_both (has (opens (Enl e)) h) (opened_by e (is_enlisted_got e.value) h (keeps_before (Got (Again f) Down m) h k) (enlisted_on e) own) n

-- what brings an outcome comes over one of the two
brings_is : (n : ℕ) (o : Outcome) (x : Entry) → brings n o x ≡ true → (f : EnlNo) × (m : Message) × ((x ≡ Got (Enl f) Down m) ⊎ (x ≡ Got (Again f) Down m)) × ((n == f.value) ≡ true)
brings_is n Committed x t = committed x t
  where
    committed : (x : Entry) → brings n Committed x ≡ true → (f : EnlNo) × (m : Message) × ((x ≡ Got (Enl f) Down m) ⊎ (x ≡ Got (Again f) Down m)) × ((n == f.value) ≡ true)
    committed (Got (Enl f) Down EnlistCommit) t = (f, EnlistCommit, inl refl, t)
    committed (Got (Again f) Down ReenlistCommitted) t = (f, ReenlistCommitted, inr refl, t)
    committed _ t = absurd cc
brings_is n Aborted x t = aborted x t
  where
    aborted : (x : Entry) → brings n Aborted x ≡ true → (f : EnlNo) × (m : Message) × ((x ≡ Got (Enl f) Down m) ⊎ (x ≡ Got (Again f) Down m)) × ((n == f.value) ≡ true)
    aborted (Got (Enl f) Down EnlistAbort) t = (f, EnlistAbort, inl refl, t)
    aborted (Got (Again f) Down ReenlistAborted) t = (f, ReenlistAborted, inr refl, t)
    aborted _ t = absurd cc
brings_is n InDoubt x t = absurd cc

-- nobody brings it an outcome
unheard : (e : EnlNo) (o : Outcome) (h : List Entry) → Keeps h → has (opens (Enl e)) h ≡ false → hears_here h (Member e) o ≡ true → ⊥
unheard e o [] k n t = cc
unheard e o (x ∷ h) k n t = by x k n (brings_is e.value o x t)
  where
    by : (x : Entry) → Keeps (x ∷ h) → has (opens (Enl e)) (x ∷ h) ≡ false → (f : EnlNo) × (m : Message) × ((x ≡ Got (Enl f) Down m) ⊎ (x ≡ Got (Again f) Down m)) × ((e.value == f.value) ≡ true) → ⊥
    by x k n (f, m, inl q, s) = by_own e f m h (subst (λ y. Keeps (y ∷ h)) q k) (subst (λ y. has (opens (Enl e)) (y ∷ h) ≡ false) q n) s
    by x k n (f, m, inr q, s) = by_again e f m h (subst (λ y. Keeps (y ∷ h)) q k) (subst (λ y. has (opens (Enl e)) (y ∷ h) ≡ false) q n) s

-- what is told by a decision is told after one
decision_there : (p : Party) (o : Outcome) (h : List Entry) → hears_decision h p o ≡ true → has is_decision h ≡ true
decision_there p o h t =
    sym (decision_seen h) ∙ there o (latest decision_of h) (first_of_three (is_decided o (latest decision_of h)) (is_certain o || hears_doubt h p) (not (ends_again h p)) t)
  where
    there : (x : Outcome) (o : Option Outcome) → is_decided x o ≡ true → is_some o ≡ true
    there x (Some y) k = refl
    there x None k = absurd cc

-- who is told nothing over a connection is told nothing until something is decided
pub undecided_untold : (e : EnlNo) (h : List Entry) → Keeps h → has (opens (Enl e)) h ≡ false → has is_decision h ≡ false → has (is_told e.value) h ≡ false
undecided_untold e [] k n d = refl
undecided_untold e (Told (Member f) o ∷ h) k n d =
    or_false (e.value == f.value) (has (is_told e.value) h) (false_from_ne_true (e.value == f.value) (λ q. now q)) (undecided_untold e h (keeps_before (Told (Member f) o) h k) n d)
  where
    now : (e.value == f.value) ≡ true → ⊥
    now q =
        let past = keeps_before (Told (Member f) o) h k in
        or_case (hears_here h (Member f) o) (hears_decision h (Member f) o)
        (λ t. unheard e o h past n (let P : ℕ → Type 0 = λ m. ends_with (brings m o) h ≡ true in subst P (sym (eqb-true e.value f.value q)) t))
        (λ t. not_both (has is_decision h) (decision_there (Member f) o h t) d) (newest (Told (Member f) o) h k)
undecided_untold e (x ∷ h) k n d =
    undecided_untold e h (keeps_before x h k) (or_second (opens (Enl e) x) (has (opens (Enl e)) h) n) (or_second (is_decision x) (has is_decision h) d)

-- who votes was enlisted
pub voted_enlisted : (e : EnlNo) (v : Vote) (h : List Entry) → Keeps (Voted e v ∷ h) → has (is_enlisted e.value) h ≡ true
voted_enlisted e v h k =
    first_of_five (has (is_enlisted e.value) h) (has (is_asked e.value) h) (not (has (is_vote e.value) h)) (not (has (is_lost e.value) h)) (not (stands_volatile e.value h && has is_decision h))
    (newest (Voted e v) h k)

-- who votes, and has no connection, was told nothing
pub voted_untold : (e : EnlNo) (v : Vote) (h : List Entry) → Keeps (Voted e v ∷ h) → has (opens (Enl e)) h ≡ false → has (is_told e.value) h ≡ false
voted_untold e v h k n = undecided_untold e h past n undecided
  where
    past : Keeps h
    past = keeps_before (Voted e v) h k

    row : (has (is_enlisted e.value) h && has (is_asked e.value) h && not (has (is_vote e.value) h) && not (has (is_lost e.value) h) && not (stands_volatile e.value h && has is_decision h)) ≡ true
    row = newest (Voted e v) h k

    volatile : stands_volatile e.value h ≡ true
    volatile =
        or_case (stands_volatile e.value h) (has (is_prepare_got e.value) h) (λ t. t) (λ t. absurd (not_both (has (opens (Enl e)) h) (opened_by e (is_prepare_got e.value) h past (prepare_on e) t) n))
        (prepared_if_asked e.value h past (second_of_five (has (is_enlisted e.value) h) (has (is_asked e.value) h) (not (has (is_vote e.value) h)) (not (has (is_lost e.value) h)) (not (stands_volatile e.value h && has is_decision h)) row))

    undecided : has is_decision h ≡ false
    undecided = false_from_ne_true (has is_decision h) (λ d.
        not_both (stands_volatile e.value h && has is_decision h) (and_both (stands_volatile e.value h) (has is_decision h) volatile d)
        (not_true (stands_volatile e.value h && has is_decision h)
        (fifth_of_five (has (is_enlisted e.value) h) (has (is_asked e.value) h) (not (has (is_vote e.value) h)) (not (has (is_lost e.value) h)) (not (stands_volatile e.value h && has is_decision h)) row)))
