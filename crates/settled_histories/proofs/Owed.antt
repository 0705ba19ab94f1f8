-- Where no reply is due of anyone whose plan isn't silent, and whoever is lost has voted, whoever was asked to prepare has voted, and the promotable that was asked has replied.
use Rattle.std.proofs.Common.{◌≡◌, ℕ, zero, suc, ◌==◌, Bool, true, false, ◌&&◌, ◌||◌, List, [], ◌∷◌, Option, Some, None, refl, ◌∙◌, ap, sym, subst, map}
use Rattle.std.specs.Prelude.{find, is_none, is_some, not, if◌then◌else◌}
use Rattle.std.specs.List.{slice_get}
use Rattle.std.proofs.lemmas.Bool.{eqb-true, false_from_ne_true, or_left, true_from_ne_false}
use Rattle.dtx_values.specs.declared.entry.Ask.TheVariants.{Prepare as AskPrepare, Promote as AskPromote, Single as AskSingle}
use Rattle.dtx_values.specs.declared.entry.Entry.{Entry}
use Rattle.dtx_values.specs.declared.entry.Entry.TheVariants.{Asked, Enlisted, Lost, Reenlisted, Told}
use Rattle.dtx_values.specs.declared.entry.Party.TheVariants.{Enl as Member}
use Rattle.dtx_values.specs.declared.message.Conn.TheVariants.{Begin, Enl}
use Rattle.dtx_values.specs.declared.message.Dir.TheVariants.{Down, Up}
use Rattle.dtx_values.specs.declared.note.Note.{Note}
use Rattle.dtx_values.specs.declared.note.Note.TheVariants.{Prepare, Promote as PromoteNote, Hand, Single}
use Rattle.dtx_values.specs.declared.note.Plan.{Plan}
use Rattle.dtx_values.specs.declared.number.EnlNo.{EnlNo}
use Rattle.dtx_values.specs.declared.row.Row.{Row}
use Rattle.dtx_values.specs.declared.words.Class.{Class}
use Rattle.dtx_values.specs.declared.words.Class.TheVariants.{DurableSingle, Promotable}
use Rattle.dtx_values.specs.declared.words.Outcome.{Outcome}
use Rattle.dtx_values.specs.declared.words.Outcome.TheVariants.{Committed, Aborted, InDoubt}
use Rattle.dtx_values.specs.declared.words.Vote.{Vote}
use Rattle.dtx_values.specs.Class.{is_promotable, is_single_class, is_volatile}
use Rattle.dtx_values.specs.Ends.{knows}
use Rattle.dtx_values.specs.Row.{has_voted, is_marked, is_of}
use Rattle.dtx_values.specs.Table.{enl_number, insert_by, voted, was_asked}
use Rattle.dtx_values.specs.Vote.{voted_well}
use Rattle.dtx_model.specs.declared.branch.Branch.{Branch}
use Rattle.dtx_model.specs.declared.listener.Listener.{Listener}
use Rattle.dtx_model.specs.Words.{has, each, always, latest, or_else, holds}
use Rattle.dtx_model.specs.Entries.{decision_of, handed_of, is_any_single_sent, is_asked, is_asked_alone, is_asked_to_promote, is_decision, is_hand, is_owner_answer, is_promoted, is_record, is_sealed, is_single_sent, is_told, is_two_phase_got, is_vote, same_outcome}
use Rattle.dtx_model.specs.Observed.{come_back, ends_of, hear, lose, is_ask_promote, is_ask_single, is_promote_reply, is_request, listener_number, listeners, observe, rows}
use Rattle.dtx_model.specs.Outcome.{can_own, durables, enlisted}
use Rattle.dtx_model.specs.Promotes.{is_promoting}
use Rattle.dtx_model.specs.Tied.{is_logged}
use Rattle.dtx_model.specs.Wires.{is_lost_wire}
use Rattle.dtx_model.specs.Plans.{owner_reply, promote_reply, vote_reply}
use Rattle.dtx_model.specs.Half.{is_gone, is_handed, was_told}
use Rattle.dtx_model.specs.Replies.{conn_due, due_of, is_unsettled, may_still_vote, names, note_at, note_of_conn, owes_outcome, owes_promotion, owes_request, owes_vote, row_note, with_name, with_names}
use Rattle.dtx_model.specs.History.{is_committed, is_willing}
use Rattle.dtx_model.proofs.Bools.{and_both, and_left, and_right, not_both, not_false, or_case, or_false, or_first, or_right, or_second}
use Rattle.history_table.proofs.Lists.{each-insert, has-insert, has_kept, each_from_at, has-at}
use Rattle.history_table.proofs.Scans.{each-at, has_more}
use Rattle.history_table.proofs.Tests.{eq_self}
use Rattle.history_table.proofs.EntryTests.{is_only, is_unplanned, has_promotable, is_volatile_made}
use Rattle.settled_histories.proofs.Idle.{named_rows}
use Rattle.history_table.proofs.Owned.{has_filter, has_rows}
use Rattle.history_table.proofs.Keeping.{Keeps}
use Rattle.history_table.proofs.Table.{is_lone_owner}
use Rattle.history_table.proofs.Undecided.{hand_seen}
use Rattle.history_table.proofs.LetDecide.{lone_if_one, one_apart, one_if_single, promoted_if_single, single_any, single_if_handed}
use Rattle.history_table.proofs.LetHand.{single_alone}
use Rattle.settled_histories.proofs.OnePhase.{single_opened, vote_two}
use Rattle.history_table.proofs.TableRows.{each_rows}
use Rattle.history_table.proofs.NextActs.{has_answered}
use Rattle.history_table.proofs.Messages.{COMMIT, PREPARE}
use Rattle.settled_histories.proofs.Fine.{IsFine, is_bad, is_made}
use Rattle.settled_histories.proofs.Knowledge.{knows_got}
use Rattle.settled_histories.proofs.Stages.{earlier, record_logged}
use Rattle.settled_histories.proofs.Rest.{is_ordered, is_sound}
use Rattle.settled_histories.proofs.Openings.{once_sent}
use Rattle.settled_histories.proofs.Foregoing.{is_prepared, prepared_commit, prepared_same, prepared_stays, voted_prepared}
use Rattle.settled_histories.proofs.Wired.{firm_unended}
use Rattle.settled_histories.proofs.Unblamed.{owns, unrestarted}
use Rattle.settled_histories.proofs.Committed.{none_decided}
use Rattle.settled_histories.proofs.SameRows.{asked_marked, found_passes, is_asked_there, is_made_once, marked_asked, row_found, voted_cast}
use Rattle.history_table.proofs.Crossed.{is_got_on, is_sent_on}

-- Rows of the table of rules: a volatile is asked to prepare, or who got PREPARE; a promotable is asked to promote or for its single phase; and an enlistment is
-- told committed or in doubt where it was decided, or where there is a record.
abbrev pub is_asked_well : List Entry → Entry → Bool
is_asked_well past (Asked e AskPrepare) = has (is_volatile_made e.value) past || has (is_got_on (Enl e) Down PREPARE) past
is_asked_well past (Asked e AskPromote) = has (is_made e.value is_promotable) past
is_asked_well past (Asked e AskSingle) = has (is_made e.value is_promotable) past
is_asked_well past (Told (Member e) x) = has is_decision past || has is_record past || same_outcome x Aborted
is_asked_well past x = true

-- A plan has each reply that is due of a row: its vote; where the enlistment was asked for that, that it can be promoted, and its answer as the owner; and this too where it was let decide.
pub record IsHeeded (p : Plan) (h : List Entry) (x : Row) : Type 0 where
  pub votes : owes_vote (observe h) x ≡ true → is_none p.vote ≡ true → ⊥
  pub promotes : has (is_asked_to_promote x.number.value) h ≡ true → owes_promotion (observe h) x ≡ true → is_none p.promote ≡ true → ⊥
  pub commits : has (is_asked_alone x.number.value) h ≡ true → owes_request (observe h) x ≡ true → is_none p.owner ≡ true → ⊥
  pub owns : has is_promoted h ≡ true → is_single_class x.class ≡ true → owes_outcome (observe h) x ≡ true → is_none p.owner ≡ true → ⊥

-- One that is lost has voted.
pub record IsSpared (x : Row) : Type 0 where
  pub has_cast : has_voted x ≡ true

-- The same of the vote, and that it can be promoted, alone.
pub record IsPromised (p : Plan) (h : List Entry) (x : Row) : Type 0 where
  pub votes : owes_vote (observe h) x ≡ true → is_none p.vote ≡ true → ⊥
  pub promotes : has (is_asked_to_promote x.number.value) h ≡ true → owes_promotion (observe h) x ≡ true → is_none p.promote ≡ true → ⊥

-- the plans have each reply that is due of a row; or of a promotable's row, those that come while it promotes
abbrev pub AreHeeded : (ℕ → Plan) → List Entry → Type 0
AreHeeded p h = (i : ℕ) (x : Row) → slice_get (rows h) i ≡ Some x → is_gone (observe h) x.number.value ≡ false → IsHeeded (p x.number.value) h x

abbrev pub ArePromised : (ℕ → Plan) → List Entry → Type 0
ArePromised p h = (i : ℕ) (x : Row) → slice_get (rows h) i ≡ Some x → is_promotable x.class ≡ true → is_gone (observe h) x.number.value ≡ false → IsPromised (p x.number.value) h x

pub heeded_promised : (p : ℕ → Plan) (h : List Entry) → AreHeeded p h → ArePromised p h
heeded_promised p h g = λ i x e k there. record { votes = (g i x e there).votes; promotes = (g i x e there).promotes }

-- a fine history in which each that is lost is spared, and so is each whose connection was lost; in which a promotable requested where COMMIT was sent; and where of none a reply is due that its
-- plan has
pub record IsUnowed (p : ℕ → Plan) (h : List Entry) : Type 0 where
  pub fine : IsFine h
  pub spared : (i : ℕ) (x : Row) → slice_get (rows h) i ≡ Some x → is_gone (observe h) x.number.value ≡ true → IsSpared x
  pub carried : (i : ℕ) (x : Row) → slice_get (rows h) i ≡ Some x → is_lost_wire (Enl x.number) h ≡ true → IsSpared x
  pub requests : has (is_sent_on Begin Up COMMIT) h ≡ true → has_promotable h ≡ true → has is_request h ≡ true
  pub sound : always is_sound h ≡ true
  pub ordered : always is_ordered h ≡ true
  pub once : always is_made_once h ≡ true
  pub there : always is_asked_there h ≡ true
  pub well : always is_asked_well h ≡ true
  pub unowed : each (λ e. is_unplanned (p e.value) (due_of (observe h) e.value)) (names (observe h)) ≡ true

-- each name of the table is among the names
with_each : (f : EnlNo → Bool) (e : EnlNo) (es : List EnlNo) → each f (with_name e es) ≡ true → each f es ≡ true
with_each f e es k = step (has (λ n. e.value == n.value) es) k
  where
    step : (b : Bool) → each f (if b then es else insert_by enl_number e es) ≡ true → each f es ≡ true
    step true k = k
    step false k = and_right (f e) (each f es) (sym (each-insert f enl_number e es) ∙ k)

all_each : (f : EnlNo → Bool) (bs : List Branch) (es : List EnlNo) → each f (with_names bs es) ≡ true → each f es ≡ true
all_each f [] es k = k
all_each f (b ∷ bs) es k = all_each f bs es (with_each f b.enlistment (with_names bs es) k)

-- whose listener was told was told
told_seen : (e : ℕ) (h : List Entry) → has (λ l. (e == l.enlistment.value) && l.told) (listeners h) ≡ true → has (is_told e) h ≡ true
told_seen e [] k = absurd cc
told_seen e (Enlisted f c ∷ h) k =
    or_case ((e == f.value) && false) (has (λ l. (e == l.enlistment.value) && l.told) (listeners h)) (λ a. absurd (not_both false (and_right (e == f.value) false a) refl)) (told_seen e h)
    (sym (has-insert (λ l. (e == l.enlistment.value) && l.told) listener_number (record { enlistment = f; told = false; lost = false }) (listeners h)) ∙ k)
told_seen e (Told (Member f) x ∷ h) k = step (told_seen e h) (e == f.value) refl
  where
    still : (l : Listener) → (e == f.value) ≡ false → ((e == l.enlistment.value) && ((f.value == l.enlistment.value) || l.told)) ≡ true → ((e == l.enlistment.value) && l.told) ≡ true
    still l q a =
        or_case (f.value == l.enlistment.value) l.told
        (λ b. let names : e ≡ f.value = eqb-true e l.enlistment.value (and_left (e == l.enlistment.value) ((f.value == l.enlistment.value) || l.told) a) ∙ sym (eqb-true f.value l.enlistment.value b) in
        absurd (not_both (e == f.value) (subst (λ m. (e == m) ≡ true) names (eq_self e)) q))
        (λ b. and_both (e == l.enlistment.value) l.told (and_left (e == l.enlistment.value) ((f.value == l.enlistment.value) || l.told) a) b)
        (and_right (e == l.enlistment.value) ((f.value == l.enlistment.value) || l.told) a)

    unheard : (ls : List Listener) → (e == f.value) ≡ false → has (λ l. (e == l.enlistment.value) && l.told) (map (hear f.value) ls) ≡ true → has (λ l. (e == l.enlistment.value) && l.told) ls ≡ true
    unheard [] q k = absurd cc
    unheard (l ∷ ls) q k =
        or_case ((e == l.enlistment.value) && ((f.value == l.enlistment.value) || l.told)) (has (λ l. (e == l.enlistment.value) && l.told) (map (hear f.value) ls))
        (λ a. or_left ((e == l.enlistment.value) && l.told) (has (λ l. (e == l.enlistment.value) && l.told) ls) (still l q a))
        (λ a. or_right ((e == l.enlistment.value) && l.told) (has (λ l. (e == l.enlistment.value) && l.told) ls) (unheard ls q a)) k

    step : (has (λ l. (e == l.enlistment.value) && l.told) (listeners h) ≡ true → has (is_told e) h ≡ true) → (b : Bool) → (e == f.value) ≡ b → (b || has (is_told e) h) ≡ true
    step ih true q = refl
    step ih false q = ih (unheard (listeners h) q k)
told_seen e (Lost f ∷ h) k = told_seen e h (sym (has_kept (λ l. (e == l.enlistment.value) && l.told) (lose f.value) (λ l. refl) (listeners h)) ∙ k)
told_seen e (Reenlisted f ∷ h) k = told_seen e h (sym (has_kept (λ l. (e == l.enlistment.value) && l.told) (come_back f.value) (λ l. refl) (listeners h)) ∙ k)
told_seen e (x ∷ h) k = or_right (is_told e x) (has (is_told e) h) (told_seen e h k)

-- so none is told where nothing is decided or logged and nothing bad came
untold : (e : ℕ) (h : List Entry) → has is_bad h ≡ false → always is_asked_well h ≡ true → has is_decision h ≡ false → has is_logged h ≡ false → has (is_told e) h ≡ false
untold e [] f w d l = refl
untold e (Told (Member g) x ∷ h) f w d l = absurd (bad x (and_left (has is_decision h || has is_record h || same_outcome x Aborted) (always is_asked_well h) w) (or_first _ (has is_bad h) f))
  where
    none : (has is_decision h || has is_record h || false) ≡ true → ⊥
    none k =
        or_case (has is_decision h || has is_record h) false
        (λ a. or_case (has is_decision h) (has is_record h) (λ b. not_both (has is_decision h) b d)
        (λ b. not_both (has is_logged h) (record_logged h (unrestarted h (or_second _ (has is_bad h) f)) b) l) a) (λ a. not_both false a refl) k

    bad : (x : Outcome) → (has is_decision h || has is_record h || same_outcome x Aborted) ≡ true → is_bad (Told (Member g) x) ≡ false → ⊥
    bad Committed k n = none k
    bad Aborted k n = cc
    bad InDoubt k n = cc
untold e (x ∷ h) f w d l =
    or_false (is_told e x) (has (is_told e) h) refl
    (untold e h (or_second (is_bad x) (has is_bad h) f) (and_right (is_asked_well h x) (always is_asked_well h) w) (or_second (is_decision x) (has is_decision h) d) (or_second (is_logged x) (has is_logged h) l))

-- The notes of a row whose plan has each reply that is due of it: none is due.
silent_vote : (o : Option Vote) → is_none (vote_reply o) ≡ true → is_none o ≡ true
silent_vote (Some v) k = absurd cc
silent_vote None k = refl

silent_owner : (o : Option Outcome) → is_none (owner_reply o) ≡ true → is_none o ≡ true
silent_owner (Some x) k = absurd cc
silent_owner None k = refl

silent_promotion : (o : Option Bool) → is_none (promote_reply o) ≡ true → is_none o ≡ true
silent_promotion (Some b) k = absurd cc
silent_promotion None k = refl

abbrev note_by : Bool → Bool → Bool → Bool → Option Note
note_by v m w s = if v then Some Prepare else if m then Some PromoteNote else if w then Some Hand else if s then Some Single else None

vote_unowed : (p : Plan) (v m w s : Bool) (z : Option Note) → (v ≡ true → is_none p.vote ≡ true → ⊥) → is_unplanned p (or_else (note_by v m w s) z) ≡ true → v ≡ false
vote_unowed p true m w s z f k = absurd (f refl (silent_vote p.vote k))
vote_unowed p false m w s z f k = refl

promotion_unowed : (p : Plan) (v m w s : Bool) (z : Option Note) → (v ≡ true → is_none p.vote ≡ true → ⊥) → (m ≡ true → is_none p.promote ≡ true → ⊥) → is_unplanned p (or_else (note_by v m w s) z) ≡ true
    → m ≡ false
promotion_unowed p true m w s z f g k = absurd (f refl (silent_vote p.vote k))
promotion_unowed p false true w s z f g k = absurd (g refl (silent_promotion p.promote k))
promotion_unowed p false false w s z f g k = refl

request_unowed : (p : Plan) (v m w s : Bool) (z : Option Note) → (v ≡ true → is_none p.vote ≡ true → ⊥) → m ≡ false → (s ≡ true → is_none p.owner ≡ true → ⊥)
    → is_unplanned p (or_else (note_by v m w s) z) ≡ true → s ≡ false
request_unowed p true m w s z f n g k = absurd (f refl (silent_vote p.vote k))
request_unowed p false true w s z f n g k = absurd cc
request_unowed p false false true true z f n g k = absurd (g refl (silent_owner p.owner k))
request_unowed p false false false true z f n g k = absurd (g refl (silent_owner p.owner k))
request_unowed p false false w false z f n g k = refl

outcome_unowed : (p : Plan) (v m w s : Bool) (z : Option Note) → (v ≡ true → is_none p.vote ≡ true → ⊥) → m ≡ false → (w ≡ true → is_none p.owner ≡ true → ⊥)
    → is_unplanned p (or_else (note_by v m w s) z) ≡ true → w ≡ false
outcome_unowed p true m w s z f n g k = absurd (f refl (silent_vote p.vote k))
outcome_unowed p false true w s z f n g k = absurd cc
outcome_unowed p false false true s z f n g k = absurd (g refl (silent_owner p.owner k))
outcome_unowed p false false false s z f n g k = refl

-- what is due of a row that isn't lost is what its own note is
row_unplanned : (p : ℕ → Plan) (h : List Entry) (i : ℕ) (x : Row) → IsUnowed p h → slice_get (rows h) i ≡ Some x → is_gone (observe h) x.number.value ≡ false
    → is_unplanned (p x.number.value) (or_else (row_note (observe h) x) (note_of_conn (conn_due (observe h) x.number.value))) ≡ true
unfolding observe due_of
row_unplanned p h i x r e g =
    let n = x.number.value in
    let o = observe h in
    let each_name = named_rows (λ f. is_unplanned (p f.value) (due_of o f.value)) (rows h) (all_each (λ f. is_unplanned (p f.value) (due_of o f.value)) o.branches (map (λ y. y.number) (rows h)) r.unowed) in
    let own : is_unplanned (p n) (note_at o n (find (is_of n) (rows h))) ≡ true = each-at (λ y. is_unplanned (p y.number.value) (due_of o y.number.value)) (rows h) i x each_name e in
    let found : is_unplanned (p n) (note_at o n (Some x)) ≡ true = ap (λ (y : Option Row). is_unplanned (p n) (note_at o n y)) (sym (row_found h i x r.once e)) ∙ own in
    ap (λ b. is_unplanned (p n) (if b then None else or_else (row_note o x) (note_of_conn (conn_due o n)))) (sym g) ∙ found

-- a durable or promotable that was asked to prepare got PREPARE
prepare_got : (e : EnlNo) (h : List Entry) → always is_asked_well h ≡ true → has (is_asked e.value) h ≡ true → is_prepared e h ≡ true
prepare_got e h w k = earlier is_asked_well (is_asked e.value) (is_prepared e) (prepared_stays e) (at e) h w k
  where
    at : (e : EnlNo) (x : Entry) (h : List Entry) → is_asked_well h x ≡ true → is_asked e.value x ≡ true → is_prepared e h ≡ true
    at e (Asked f AskPrepare) h w q = prepared_same e f h q w
    at e x h w q = absurd cc

-- who was made with a class that passes is a row with a class that passes
made_row : (e : ℕ) (q : Class → Bool) (h : List Entry) → has (is_made e q) h ≡ true → has (λ y. is_of e y && q y.class) (rows h) ≡ true
made_row e q h k = has_rows (λ f c. (e == f.value) && q c) h ∙ listed h k
  where
    listed : (h : List Entry) → has (is_made e q) h ≡ true → has (λ x. (e == x.0.value) && q x.1) (enlisted h) ≡ true
    listed [] k = absurd cc
    listed (Enlisted f c ∷ h) k =
        or_case ((e == f.value) && q c) (has (is_made e q) h) (λ a. or_left ((e == f.value) && q c) (has (λ x. (e == x.0.value) && q x.1) (enlisted h)) a)
        (λ a. or_right ((e == f.value) && q c) (has (λ x. (e == x.0.value) && q x.1) (enlisted h)) (listed h a)) k
    listed (x ∷ h) k = listed h k

volatile_made : (e : ℕ) (x : Entry) → is_volatile_made e x ≡ true → is_made e is_volatile x ≡ true
volatile_made e (Enlisted f c) k = k
volatile_made e x k = absurd cc

-- a row that isn't a volatile's has an enlistment that wasn't made as one
lasting_made : (h : List Entry) (i : ℕ) (x : Row) → always is_made_once h ≡ true → slice_get (rows h) i ≡ Some x → is_volatile x.class ≡ false → has (is_volatile_made x.number.value) h ≡ true → ⊥
lasting_made h i x once e v a =
    not_both (is_volatile x.class)
    (found_passes h x.number.value (λ y. is_volatile y.class) x once (row_found h i x once e)
    (made_row x.number.value is_volatile h (has_more (is_volatile_made x.number.value) (is_made x.number.value is_volatile) (volatile_made x.number.value) h a))) v

-- while nothing is decided or logged, a row that is marked may still vote, where its own connection isn't lost
marked_votes : (p : ℕ → Plan) (h : List Entry) (i : ℕ) (x : Row) → IsUnowed p h → has is_decision h ≡ false → has is_logged h ≡ false → slice_get (rows h) i ≡ Some x → is_lost_wire (Enl x.number) h ≡ false
    → is_marked x ≡ true → may_still_vote (observe h) x ≡ true
unfolding observe
marked_votes p h i x r u l e kept m = by_class (is_volatile x.class) refl
  where
    n : ℕ
    n = x.number.value

    got : is_volatile x.class ≡ false → has (is_got_on (Enl x.number) Down PREPARE) h ≡ true
    got v =
        or_case (has (is_volatile_made n) h) (has (is_got_on (Enl x.number) Down PREPARE) h) (λ a. absurd (lasting_made h i x r.once e v a)) (λ a. a)
        (prepare_got x.number h r.well
        (marked_asked n h (has-at (λ y. is_of n y && is_marked y) (rows h) i x e (and_both (n == n) (is_marked x) (eq_self n) m))))

    by_class : (b : Bool) → is_volatile x.class ≡ b
        → (if b then not (is_some (latest decision_of h)) else knows (Enl x.number) (ends_of h) && not (was_told (observe h) n)) ≡ true
    by_class true v = ap (λ d. not (is_some d)) (none_decided h u)
    by_class false v =
        and_both (knows (Enl x.number) (ends_of h)) (not (was_told (observe h) n)) (knows_got (Enl x.number) Down PREPARE h r.fine.wired (got v) (firm_unended (Enl x.number) Down h r.fine.wired (record { plain = refl; kept = kept })))
        (not_false (was_told (observe h) n)
        (false_from_ne_true (was_told (observe h) n) (λ k. not_both (has (is_told n) h) (told_seen n h k) (untold n h r.fine.unbad r.well u l))))

-- so each that was asked to prepare has voted
pub all_answered : (p : ℕ → Plan) (h : List Entry) → IsUnowed p h → AreHeeded p h → has is_decision h ≡ false → has is_logged h ≡ false → each has_answered (rows h) ≡ true
all_answered p h r g u l = each_from_at has_answered (rows h) (λ i x e. row i x e (is_gone (observe h) x.number.value) refl)
  where
    row : (i : ℕ) (x : Row) → slice_get (rows h) i ≡ Some x → (b : Bool) → is_gone (observe h) x.number.value ≡ b → has_answered x ≡ true
    row i x e true lost = or_right (not (is_marked x)) (has_voted x) (r.spared i x e lost).has_cast
    row i x e false lost = by (is_lost_wire (Enl x.number) h) refl
      where
        step : (m v w : Bool) → (m ≡ true → w ≡ true) → (m && not v && w) ≡ false → (not m || v) ≡ true
        step true true w f k = refl
        step true false w f k = absurd (not_both w (f refl) k)
        step false v w f k = refl

        by : (c : Bool) → is_lost_wire (Enl x.number) h ≡ c → has_answered x ≡ true
        by true q = or_right (not (is_marked x)) (has_voted x) (r.carried i x e q).has_cast
        by false q =
            step (is_marked x) (has_voted x) (may_still_vote (observe h) x) (marked_votes p h i x r u l e q)
            (vote_unowed (p x.number.value) (owes_vote (observe h) x) (owes_promotion (observe h) x) (owes_outcome (observe h) x) (owes_request (observe h) x)
            (note_of_conn (conn_due (observe h) x.number.value)) (g i x e lost).votes (row_unplanned p h i x r e lost))

pub all_voted : (p : ℕ → Plan) (h : List Entry) → IsUnowed p h → AreHeeded p h → has is_decision h ≡ false → has is_logged h ≡ false → (e : ℕ) → has (is_asked e) h ≡ true → has (is_vote e) h ≡ true
all_voted p h r g u l e k = voted_cast e h (each_of (rows h) (all_answered p h r g u l) (asked_marked e h r.there k))
  where
    each_of : (xs : List Row) → each has_answered xs ≡ true → was_asked e xs ≡ true → voted e xs ≡ true
    each_of [] a k = absurd cc
    each_of (x ∷ xs) a k =
        or_case (is_of e x && is_marked x) (was_asked e xs)
        (λ q. or_left (is_of e x && has_voted x) (voted e xs)
        (and_both (is_of e x) (has_voted x) (and_left (is_of e x) (is_marked x) q) (step (is_marked x) (has_voted x) (and_right (is_of e x) (is_marked x) q) (and_left (has_answered x) (each has_answered xs) a))))
        (λ q. or_right (is_of e x && has_voted x) (voted e xs) (each_of xs (and_right (has_answered x) (each has_answered xs) a) q)) k
      where
        step : (m v : Bool) → m ≡ true → (not m || v) ≡ true → v ≡ true
        step true v m k = k
        step false v m k = absurd cc

-- who was asked by an entry that names a promotable, and its row
record IsAskedRow (q : ℕ → Entry → Bool) (h : List Entry) : Type 0 where
  place : ℕ
  row : Row
  stands : slice_get (rows h) place ≡ Some row
  promotable : is_promotable row.class ≡ true
  asked : has (q row.number.value) h ≡ true

asked_one : (p : Entry → Bool) (q : ℕ → Entry → Bool) → ((x : Entry) (h : List Entry) → p x ≡ true → is_asked_well h x ≡ true → (e : ℕ) × (q e x ≡ true) × (has (is_made e is_promotable) h ≡ true)) → (h : List Entry) → always is_asked_well h ≡ true
    → has p h ≡ true → (e : ℕ) × (has (q e) h ≡ true) × (has (is_made e is_promotable) h ≡ true)
asked_one p q at [] w k = absurd cc
asked_one p q at (x ∷ h) w k =
    or_case (p x) (has p h)
    (λ a. let f = at x h a (and_left (is_asked_well h x) (always is_asked_well h) w) in (f.0, or_left (q f.0 x) (has (q f.0) h) f.1, or_right (is_made f.0 is_promotable x) (has (is_made f.0 is_promotable) h) f.2))
    (λ a. let f = asked_one p q at h (and_right (is_asked_well h x) (always is_asked_well h) w) a in (f.0, or_right (q f.0 x) (has (q f.0) h) f.1, or_right (is_made f.0 is_promotable x) (has (is_made f.0 is_promotable) h) f.2)) k

-- one that passes stands at a place
first_row : (q : Row → Bool) (xs : List Row) → has q xs ≡ true → (i : ℕ) × (x : Row) × (slice_get xs i ≡ Some x) × (q x ≡ true)
first_row q [] k = absurd cc
first_row q (x ∷ xs) k = step (first_row q xs) (q x) refl k
  where
    step : (has q xs ≡ true → (i : ℕ) × (y : Row) × (slice_get xs i ≡ Some y) × (q y ≡ true)) → (b : Bool) → q x ≡ b → (b || has q xs) ≡ true
        → (i : ℕ) × (y : Row) × (slice_get (x ∷ xs) i ≡ Some y) × (q y ≡ true)
    step ih true e k = (zero, x, refl, e)
    step ih false e k = let f = ih k in (suc f.0, f.1, f.2, f.3)

asked_row : (p : Entry → Bool) (q : ℕ → Entry → Bool) → ((x : Entry) (h : List Entry) → p x ≡ true → is_asked_well h x ≡ true → (e : ℕ) × (q e x ≡ true) × (has (is_made e is_promotable) h ≡ true)) → (h : List Entry) → always is_asked_well h ≡ true
    → has p h ≡ true → IsAskedRow q h
asked_row p q at h w k =
    let one = asked_one p q at h w k in
    let e : ℕ = one.0 in
    let f = first_row (λ y. is_of e y && is_promotable y.class) (rows h) (made_row e is_promotable h one.2) in
    record {
      place = f.0;
      row = f.1;
      stands = f.2;
      promotable = and_right (is_of e f.1) (is_promotable f.1.class) f.3;
      asked = subst (λ n. has (q n) h ≡ true) (eqb-true e f.1.number.value (and_left (is_of e f.1) (is_promotable f.1.class) f.3)) one.1;
    }

-- a promotable isn't volatile
pub unvolatile : (c : Class) → is_volatile c ≡ true → is_promotable c ≡ true → ⊥
unvolatile Promotable v k = absurd cc
unvolatile c v k = absurd cc

-- where a promotable has voted, COMMIT was sent
cast_commits : (p : ℕ → Plan) (h : List Entry) (i : ℕ) (x : Row) → IsUnowed p h → slice_get (rows h) i ≡ Some x → is_promotable x.class ≡ true → has_voted x ≡ true → has (is_sent_on Begin Up COMMIT) h ≡ true
cast_commits p h i x r e k v =
    or_case (has (is_volatile_made n) h) (has (is_got_on (Enl x.number) Down PREPARE) h)
    (λ a. absurd (lasting_made h i x r.once e (false_from_ne_true (is_volatile x.class) (λ w. unvolatile x.class w k)) a))
    (λ a. once_sent Begin Up COMMIT h r.fine.wired.run (prepared_commit x.number h r.fine.wired.run r.ordered a))
    (voted_prepared x.number h r.sound (voted_cast n h (has-at (λ y. is_of n y && has_voted y) (rows h) i x e (and_both (n == n) (has_voted x) (eq_self n) v))))
  where
    n : ℕ
    n = x.number.value

-- so it isn't lost before
promotable_there : (p : ℕ → Plan) (h : List Entry) (i : ℕ) (x : Row) → IsUnowed p h → slice_get (rows h) i ≡ Some x → is_promotable x.class ≡ true → has (is_sent_on Begin Up COMMIT) h ≡ false
    → is_gone (observe h) x.number.value ≡ false
promotable_there p h i x r e k n =
    false_from_ne_true (is_gone (observe h) x.number.value) (λ g. not_both (has (is_sent_on Begin Up COMMIT) h) (cast_commits p h i x r e k (r.spared i x e g).has_cast) n)

-- what is still open is so by its reply alone
open_still : (a b q d : Bool) → q ≡ true → d ≡ false → (a && not b && q && not d) ≡ false → (a && not b) ≡ false
open_still true true q d s t k = refl
open_still true false true false s t k = absurd cc
open_still true false true true s t k = absurd cc
open_still true false false d s t k = absurd cc
open_still false b q d s t k = refl

done : (a b : Bool) → a ≡ true → (a && not b) ≡ false → b ≡ true
done true true k n = refl
done true false k n = absurd cc
done false b k n = absurd cc

-- so before COMMIT was sent a promotable that was asked to promote has replied
pub promotion_replied : (p : ℕ → Plan) (h : List Entry) → IsUnowed p h → ArePromised p h → has is_decision h ≡ false → has (is_sent_on Begin Up COMMIT) h ≡ false → has is_ask_promote h ≡ true
    → has is_promote_reply h ≡ true
unfolding observe
promotion_replied p h r g u unsent k = by (asked_row is_ask_promote is_asked_to_promote at h r.well k)
  where
    at : (x : Entry) (h : List Entry) → is_ask_promote x ≡ true → is_asked_well h x ≡ true → (e : ℕ) × (is_asked_to_promote e x ≡ true) × (has (is_made e is_promotable) h ≡ true)
    at (Asked e AskPromote) h k w = (e.value, eq_self e.value, w)
    at x h k w = absurd cc

    by : IsAskedRow is_asked_to_promote h → has is_promote_reply h ≡ true
    by a =
        let x = a.row in
        let there = promotable_there p h a.place x r a.stands a.promotable unsent in
        let heeded = g a.place x a.stands a.promotable there in
        done (has is_ask_promote h) (has is_promote_reply h) k
        (open_still (has is_ask_promote h) (has is_promote_reply h) (is_promotable x.class) (is_some (latest decision_of h)) a.promotable (ap is_some (none_decided h u))
        (promotion_unowed (p x.number.value) (owes_vote (observe h) x) (owes_promotion (observe h) x) (owes_outcome (observe h) x) (owes_request (observe h) x)
        (note_of_conn (conn_due (observe h) x.number.value)) heeded.votes (heeded.promotes a.asked) (row_unplanned p h a.place x r a.stands there)))

-- and one that was asked for its single phase has requested
pub commit_requested : (p : ℕ → Plan) (h : List Entry) → IsUnowed p h → AreHeeded p h → has is_decision h ≡ false → has is_ask_single h ≡ true → has is_request h ≡ true
unfolding observe
commit_requested p h r g u k =
    let a = asked_row is_ask_single is_asked_alone at h r.well k in true_from_ne_false (has is_request h) (λ n. not_both (has is_request h) (by a (unsent a n)) n)
  where
    at : (x : Entry) (h : List Entry) → is_ask_single x ≡ true → is_asked_well h x ≡ true → (e : ℕ) × (is_asked_alone e x ≡ true) × (has (is_made e is_promotable) h ≡ true)
    at (Asked e AskSingle) h k w = (e.value, eq_self e.value, w)
    at x h k w = absurd cc

    replied : (a b q d : Bool) → (a ≡ true → b ≡ true) → (a && not b && q && not d) ≡ false
    replied true true q d f = refl
    replied true false q d f = absurd (not_both false (f refl) refl)
    replied false b q d f = refl

    -- without a request COMMIT wasn't sent
    unsent : IsAskedRow is_asked_alone h → has is_request h ≡ false → has (is_sent_on Begin Up COMMIT) h ≡ false
    unsent a n =
        false_from_ne_true (has (is_sent_on Begin Up COMMIT) h)
        (λ q. not_both (has is_request h) (r.requests q (sym (has_rows (λ e c. is_promotable c) h) ∙ has-at (λ y. is_promotable y.class) (rows h) a.place a.row a.stands a.promotable)) n)

    by : IsAskedRow is_asked_alone h → has (is_sent_on Begin Up COMMIT) h ≡ false → has is_request h ≡ true
    by a early =
        let x = a.row in
        let there = promotable_there p h a.place x r a.stands a.promotable early in
        let heeded = g a.place x a.stands there in
        done (has is_ask_single h) (has is_request h) k
        (open_still (has is_ask_single h) (has is_request h) (is_promotable x.class) (is_some (latest decision_of h)) a.promotable (ap is_some (none_decided h u))
        (request_unowed (p x.number.value) (owes_vote (observe h) x) (owes_promotion (observe h) x) (owes_outcome (observe h) x) (owes_request (observe h) x)
        (note_of_conn (conn_due (observe h) x.number.value)) heeded.votes
        (replied (has is_ask_promote h) (has is_promote_reply h) (is_promotable x.class) (is_some (latest decision_of h)) (promotion_replied p h r (heeded_promised p h g) u early)) (heeded.commits a.asked) (row_unplanned p h a.place x r a.stands there)))

-- Whoever was let decide is the one durable that can own the commit, and stands in a row.
lone_listed : (e : ℕ) (ds : List (EnlNo × Class)) → is_only e ds ≡ true → is_lone_owner ds ≡ true → has (λ x. (e == x.0.value) && is_single_class x.1) ds ≡ true
lone_listed e [] o l = absurd cc
lone_listed e (x ∷ []) o l = or_left ((e == x.0.value) && is_single_class x.1) false (and_both (e == x.0.value) (is_single_class x.1) (and_left (e == x.0.value) (can_own x.1) o) l)
lone_listed e (x ∷ y ∷ ds) o l = absurd cc

record IsOwnerRow (e : EnlNo) (h : List Entry) : Type 0 where
  place : ℕ
  row : Row
  stands : slice_get (rows h) place ≡ Some row
  name : (e.value == row.number.value) ≡ true
  single : is_single_class row.class ≡ true

owner_row : (e : EnlNo) (h : List Entry) → Keeps h → has (is_single_sent e.value) h ≡ true → IsOwnerRow e h
owner_row e h k s =
    let any = has_more (is_single_sent e.value) is_any_single_sent (single_any e.value) h s in
    let lone = and_right (has is_sealed h) (is_lone_owner (durables h)) (lone_if_one h k (one_if_single h k any)) in
    let listed = lone_listed e.value (durables h) (single_alone e h k s) lone in
    let all : has (λ x. (e.value == x.0.value) && is_single_class x.1) (enlisted h) ≡ true =
    has_more (λ x. ((e.value == x.0.value) && is_single_class x.1) && not (is_volatile x.1)) (λ x. (e.value == x.0.value) && is_single_class x.1)
    (λ x t. and_left ((e.value == x.0.value) && is_single_class x.1) (not (is_volatile x.1)) t) (enlisted h)
    (sym (has_filter (λ x. (e.value == x.0.value) && is_single_class x.1) (λ x. not (is_volatile x.1)) (enlisted h)) ∙ listed) in
    let f = first_row (λ y. is_of e.value y && is_single_class y.class) (rows h) (has_rows (λ f c. (e.value == f.value) && is_single_class c) h ∙ all) in
    record { place = f.0; row = f.1; stands = f.2; name = and_left (is_of e.value f.1) (is_single_class f.1.class) f.3; single = and_right (is_of e.value f.1) (is_single_class f.1.class) f.3 }

-- so it has answered, where its plan has the answer: it wasn't lost, since whoever is lost has voted, and a vote is asked for two phases
pub all_owned : (p : ℕ → Plan) (h : List Entry) → Keeps h → IsUnowed p h → AreHeeded p h → has is_promoting h ≡ true → has is_decision h ≡ false → (e : EnlNo) → has (is_hand e.value) h ≡ true → has is_owner_answer h ≡ true
unfolding observe
all_owned p h k r g b u e t = by s (owner_row e h k s)
  where
    s : has (is_single_sent e.value) h ≡ true
    s = single_if_handed e.value h k b t

    unpromotable : (c : Class) → is_single_class c ≡ true → is_promotable c ≡ false
    unpromotable DurableSingle s = refl
    unpromotable c s = absurd cc

    promotes : (a b q d : Bool) → q ≡ false → (a && not b && q && not d) ≡ false
    promotes true true q d n = refl
    promotes true false true d n = absurd cc
    promotes true false false d n = refl
    promotes false b q d n = refl

    answered : (m a : Bool) (d : Option Outcome) → m ≡ true → d ≡ None → (true && (if m then not a && is_unsettled d else not (is_some d))) ≡ false → a ≡ true
    answered true true d q n f = refl
    answered true false None q n f = absurd cc
    answered true false (Some x) q n f = absurd cc
    answered false a d q n f = absurd cc

    by : has (is_single_sent e.value) h ≡ true → IsOwnerRow e h → has is_owner_answer h ≡ true
    by s a = at (is_gone (observe h) a.row.number.value) refl
      where
        x : Row
        x = a.row

        any : has is_any_single_sent h ≡ true
        any = has_more (is_single_sent e.value) is_any_single_sent (single_any e.value) h s

        at : (c : Bool) → is_gone (observe h) x.number.value ≡ c → has is_owner_answer h ≡ true
        at true lost =
            let cast = voted_cast x.number.value h (has-at (λ y. is_of x.number.value y && has_voted y) (rows h) a.place x a.stands (and_both (x.number.value == x.number.value) (has_voted x) (eq_self x.number.value) (r.spared a.place x a.stands lost).has_cast)) in
            absurd (not_both (has is_two_phase_got h) (vote_two e h k (single_opened e h k s) (subst (λ n. has (is_vote n) h ≡ true) (sym (eqb-true e.value x.number.value a.name)) cast)) (one_apart h k (one_if_single h k any)))
        at false there =
            let promoted = promoted_if_single h k any in
            let heeded = g a.place x a.stands there in
            let none = none_decided h u in
            let unpaid =
            outcome_unowed (p x.number.value) (owes_vote (observe h) x) (owes_promotion (observe h) x) (owes_outcome (observe h) x) (owes_request (observe h) x) (note_of_conn (conn_due (observe h) x.number.value)) heeded.votes
            (promotes (has is_ask_promote h) (has is_promote_reply h) (is_promotable x.class) (is_some (latest decision_of h)) (unpromotable x.class a.single)) (heeded.owns promoted a.single)
            (row_unplanned p h a.place x r a.stands there) in
            let hand : is_handed (latest handed_of h) x.number.value ≡ true = hand_seen x.number.value h k ∙ subst (λ n. has (is_hand n) h ≡ true) (eqb-true e.value x.number.value a.name) t in
            let P : Bool → Type 0 = λ b. (b && (if has is_promoted h then not (has is_owner_answer h) && is_unsettled (latest decision_of h) else not (is_some (latest decision_of h)))) ≡ false in
            answered (has is_promoted h) (has is_owner_answer h) (latest decision_of h) promoted none (subst P hand unpaid)

-- The plan of one that is willing has each reply that is due of it.
pub willing_heeded : (p : Plan) (h : List Entry) (x : Row) → is_willing p x.class ≡ true → IsHeeded p h x
unfolding observe
willing_heeded p h x w =
    record {
      votes = λ o n. vote_there p.vote (plans_vote w) n;
      promotes = λ a o n. promotion_there p.promote (plans_promotion x.class w (promotable_owes (has is_ask_promote h) (has is_promote_reply h) (is_promotable x.class) (is_some (latest decision_of h)) o)) n;
      owns = λ m c o n. owner_there p.owner (plans_owner x.class w (single_owns x.class c)) n;
      commits = λ a o n. owner_there p.owner (plans_owner x.class w (owns x.class (promotable_owes (has is_ask_single h) (has is_request h) (is_promotable x.class) (is_some (latest decision_of h)) o))) n;
    }
  where
    vote_there : (o : Option Vote) → voted_well o ≡ true → is_none o ≡ true → ⊥
    vote_there (Some v) w k = cc
    vote_there None w k = cc

    single_owns : (c : Class) → is_single_class c ≡ true → can_own c ≡ true
    single_owns DurableSingle s = refl
    single_owns c s = absurd cc

    owner_there : (o : Option Outcome) → is_committed o ≡ true → is_none o ≡ true → ⊥
    owner_there (Some x) w k = cc
    owner_there None w k = cc

    promotion_there : (o : Option Bool) → holds o ≡ true → is_none o ≡ true → ⊥
    promotion_there (Some b) w k = cc
    promotion_there None w k = cc

    promotable_owes : (a b q d : Bool) → (a && not b && q && not d) ≡ true → q ≡ true
    promotable_owes a b q d k = and_right (a && not b) q (and_left (a && not b && q) (not d) k)

    plans_vote : is_willing p x.class ≡ true → voted_well p.vote ≡ true
    plans_vote w = and_left (voted_well p.vote) (not (can_own x.class) || is_committed p.owner) (and_left (voted_well p.vote && (not (can_own x.class) || is_committed p.owner)) (not (is_promotable x.class) || holds p.promote) w)

    held : (a b : Bool) → a ≡ true → (not a || b) ≡ true → b ≡ true
    held true b e k = k
    held false b e k = absurd cc

    plans_owner : (c : Class) → is_willing p c ≡ true → can_own c ≡ true → is_committed p.owner ≡ true
    plans_owner c w o = held (can_own c) (is_committed p.owner) o (and_right (voted_well p.vote) (not (can_own c) || is_committed p.owner) (and_left (voted_well p.vote && (not (can_own c) || is_committed p.owner)) (not (is_promotable c) || holds p.promote) w))

    plans_promotion : (c : Class) → is_willing p c ≡ true → is_promotable c ≡ true → holds p.promote ≡ true
    plans_promotion c w o = held (is_promotable c) (holds p.promote) o (and_right (voted_well p.vote && (not (can_own c) || is_committed p.owner)) (not (is_promotable c) || holds p.promote) w)

pub all_heeded : (p : ℕ → Plan) (h : List Entry) → each (λ x. is_willing (p x.0.value) x.1) (enlisted h) ≡ true → AreHeeded p h
all_heeded p h w = λ i x e there.
    willing_heeded (p x.number.value) h x (each-at (λ y. is_willing (p y.number.value) y.class) (rows h) i x (each_rows (λ e c. is_willing (p e.value) c) h ∙ w) e)
