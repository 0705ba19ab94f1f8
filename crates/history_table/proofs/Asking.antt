-- COMMIT comes once, and so does each enlistment's PREPARE: COMMIT is sent after the seal, or where a promotable requests it, and PREPARE to each desk after COMMIT.
use Rattle.std.proofs.Common.{◌≡◌, ℕ, zero, suc, ◌==◌, Bool, true, false, ◌&&◌, ◌||◌, ◌⊎◌, inl, inr, List, [], ◌∷◌, ◌++◌, Option, Some, None, refl, sym, subst, ap, ◌∙◌}
use Rattle.std.specs.Prelude.{not, filter, is_some, map, if◌then◌else◌, nat_lt}
use Rattle.std.specs.List.{slice_get}
use Rattle.std.proofs.lemmas.Bool.{eqb-true, false_from_ne_true, or_left}
use Rattle.dtx_values.specs.declared.entry.Entry.{Entry}
use Rattle.dtx_values.specs.declared.entry.Entry.TheVariants.{Called, Down as Ended, Enlisted, Got, Requested, Restarted, Sealed, Sent, Stopped}
use Rattle.dtx_values.specs.declared.message.Conn.{Conn}
use Rattle.dtx_values.specs.declared.message.Conn.TheVariants.{Begin, Voter, Enl, Again}
use Rattle.dtx_values.specs.declared.message.Dir.TheVariants.{Up, Down}
use Rattle.dtx_values.specs.declared.message.Message.{Message}
use Rattle.dtx_values.specs.declared.message.Message.TheVariants.{BeginBegin, BeginCommit, BeginCommitOne, EnlistOneAborted, VoterAsk, EnlistAck, EnlistEnlist, EnlistPrepare, ReenlistAck}
use Rattle.dtx_values.specs.declared.note.Note.TheVariants.{Hand, Single}
use Rattle.dtx_values.specs.declared.note.Reply.{Reply}
use Rattle.dtx_values.specs.declared.note.Reply.TheVariants.{Owner as OwnerReply}
use Rattle.dtx_values.specs.declared.number.EnlNo.{EnlNo}
use Rattle.dtx_values.specs.declared.words.Outcome.{Outcome}
use Rattle.dtx_values.specs.Class.{is_promotable}
use Rattle.dtx_values.specs.Ends.{knows, same_connection, same_direction}
use Rattle.dtx_values.specs.Lines.{has_line, is_opening}
use Rattle.dtx_values.specs.Row.{is_of}
use Rattle.dtx_values.specs.Table.{insert_by}
use Rattle.dtx_model.specs.declared.desk.Ballot.{Ballot}
use Rattle.dtx_model.specs.declared.desk.Ballot.TheVariants.{Refused}
use Rattle.dtx_model.specs.declared.desk.Desk.{Desk}
use Rattle.dtx_model.specs.Words.{always, each, has, onto}
use Rattle.dtx_model.specs.Entries.{is_commit_got, is_promoted, is_sealed, is_two_phase_got}
use Rattle.dtx_model.specs.Observed.{Observed, is_request, observe, rows}
use Rattle.dtx_model.specs.Promotes.{identifier_of, is_promoting}
use Rattle.dtx_model.specs.Wires.{MayCross, in_transit}
use Rattle.dtx_model.specs.Coordinated.{Coordinated, accepts, ballot_of, coordinate, core_got, desk_number, follow, hears_one, is_active, is_desk_of, is_prepared, may_log, to, to_each, unacked, with_ack, with_ballot}
use Rattle.dtx_model.specs.Half.{Half, to_up}
use Rattle.dtx_model.specs.Acts.{act_entries, commit_message, commit_sent, promotable_in}
use Rattle.dtx_model.specs.Arrivals.{local_got}
use Rattle.dtx_model.specs.Facts.{facts_if, has_facts}
use Rattle.dtx_model.specs.Replies.{due_of, reply_entries, request_message, request_of}
use Rattle.dtx_model.specs.World.{World, answer_at, core, facts_at, half}
use Rattle.dtx_model.specs.Steps.{Step, Calls, Replies, Acts, Coordinates, Delivers, Stops, Restarts, after, block_at, coordinates, delivered, ended_at, restarted}
use Rattle.dtx_model.proofs.Bools.{and_both, and_left, and_never, and_right, not_both, not_false, not_true, or_case, or_false, or_right}
use Rattle.history_table.proofs.Tests.{eq_swap, fourth_of_four}
use Rattle.history_table.proofs.Scans.{each-append, has_less, has_more}
use Rattle.history_table.proofs.Lists.{has-insert, found_at}
use Rattle.history_table.proofs.Owned.{has_filter}
use Rattle.history_table.proofs.Table.{is_enlist_got, is_opening_got, is_prepare_got, is_there, message_row, rule}
pub use Rattle.history_table.proofs.Table.{is_commit_sent}
use Rattle.history_table.proofs.Keeping.{Keeps, before, keeps_before, newest}
use Rattle.history_table.proofs.Crossed.{is_got_on, is_sent_on}
use Rattle.history_table.proofs.Recording.{enlisted_unsealed, two_phase_commit}
use Rattle.history_table.proofs.HalfRows.{commit_sealed}
use Rattle.history_table.proofs.Sendings.{sent_row}
use Rattle.history_table.proofs.Leading.{none_again, next_stands}
use Rattle.history_table.proofs.HalfReplies.{owed}
use Rattle.history_table.proofs.OnceSent.{first_got, is_first_sent}
use Rattle.history_table.proofs.BareBlocks.{Bare, Requests, Seals, act_kind, bare_appended, bare_called, bare_cons, bare_core_got, bare_ended_at, bare_freed, bare_if, bare_local_got, bare_one, bare_restarted, is_bare, reply_kind}
use Rattle.dtx_model.proofs.Quiet.{takes_next}
use Rattle.history_table.proofs.Messages.{COMMIT, PREPARE}
use Rattle.history_table.proofs.EntryTests.{has_promotable}
use Rattle.history_table.proofs.HalfOwner.{enlist_opening, none_promotable, rows_promotable}

no : false ≡ true → ⊥
no e = absurd cc

-- where COMMIT is sent it was requested, or nothing is promotable
abbrev pub is_lone : List Entry → Entry → Bool
is_lone h x = not (is_commit_sent x) || (has is_request h || not (has_promotable h))

pub record IsAsking (h : List Entry) : Type 0 where
  -- COMMIT is sent once
  pub first : always (is_first_sent Begin Up COMMIT) h ≡ true
  pub lone : always is_lone h ≡ true
  -- and so is each PREPARE
  pub asks : (e : EnlNo) → always (is_first_sent (Enl e) Down PREPARE) h ≡ true

-- an entry that sends neither keeps it
pub bare_uncommit : (x : Entry) → is_bare x ≡ true → is_commit_sent x ≡ false
bare_uncommit (Sent c Up m) t = ap (λ b. same_connection Begin c && true && b) (not_true (COMMIT m) t) ∙ and_never (same_connection Begin c && true)
bare_uncommit (Sent c Down m) t = down (same_connection Begin c) (COMMIT m)
  where
    down : (a b : Bool) → (a && false && b) ≡ false
    down true b = refl
    down false b = refl
bare_uncommit _ t = refl

bare_unasked : (e : EnlNo) (x : Entry) → is_bare x ≡ true → is_sent_on (Enl e) Down PREPARE x ≡ false
bare_unasked e (Sent c Down m) t = ap (λ b. same_connection (Enl e) c && true && b) (not_true (PREPARE m) t) ∙ and_never (same_connection (Enl e) c && true)
bare_unasked e (Sent c Up m) t = up (same_connection (Enl e) c) (PREPARE m)
  where
    up : (a b : Bool) → (a && false && b) ≡ false
    up true b = refl
    up false b = refl
bare_unasked e _ t = refl

unless_sent : (a b : Bool) → a ≡ false → (not a || b) ≡ true
unless_sent true b e = absurd cc
unless_sent false b e = refl

one_more : (x : Entry) (h : List Entry) → (is_commit_sent x ≡ true → (has is_commit_sent h ≡ false) × ((has is_request h || not (has_promotable h)) ≡ true))
    → ((e : EnlNo) → is_sent_on (Enl e) Down PREPARE x ≡ false) → IsAsking h → IsAsking (x ∷ h)
one_more x h f g i =
    record {
      first = and_both (is_first_sent Begin Up COMMIT h x) (always (is_first_sent Begin Up COMMIT) h) (sure (is_commit_sent x) (has is_commit_sent h) (λ t. (f t).0)) i.first;
      lone = and_both (is_lone h x) (always is_lone h) (owns (is_commit_sent x) (has is_request h || not (has_promotable h)) (λ t. (f t).1)) i.lone;
      asks = λ e. and_both (is_first_sent (Enl e) Down PREPARE h x) (always (is_first_sent (Enl e) Down PREPARE) h) (unless_sent (is_sent_on (Enl e) Down PREPARE x) _ (g e)) (i.asks e);
    }
  where
    sure : (a b : Bool) → (a ≡ true → b ≡ false) → (not a || not b) ≡ true
    sure true b f = not_false b (f refl)
    sure false b f = refl

    owns : (a b : Bool) → (a ≡ true → b ≡ true) → (not a || b) ≡ true
    owns true b f = f refl
    owns false b f = refl

bare_more : (x : Entry) (h : List Entry) → is_bare x ≡ true → IsAsking h → IsAsking (x ∷ h)
bare_more x h t i = one_more x h (λ a. absurd (not_both (is_commit_sent x) a (bare_uncommit x t))) (λ e. bare_unasked e x t) i

bare_onto : (h es : List Entry) → Bare es → IsAsking h → IsAsking (onto h es)
bare_onto h [] b i = i
bare_onto h (x ∷ es) b i =
    bare_onto (x ∷ h) es (record { proof = and_right (is_bare x) (each is_bare es) b.proof }) (bare_more x h (and_left (is_bare x) (each is_bare es) b.proof) i)

-- COMMIT is sent after the seal
sent_sealed : (x : Entry) (h : List Entry) → Keeps h → rule h x ≡ true → is_commit_sent x ≡ true → has is_sealed h ≡ true
sent_sealed x h k r t = sent_row Begin Up COMMIT (λ g. has is_sealed g) commit_sealed x h k r t

sealed_there : (h : List Entry) → Keeps h → has is_commit_sent h ≡ true → has is_sealed h ≡ true
sealed_there h k t = before is_commit_sent is_sealed sent_sealed h k t

-- so where it was sent it was requested, or nothing is promotable
lone_more : (x : Entry) (h : List Entry) → rule h x ≡ true → has is_sealed h ≡ true → (has is_request h || not (has_promotable h)) ≡ true → (has is_request (x ∷ h) || not (has_promotable (x ∷ h))) ≡ true
lone_more (Enlisted e c) h r s t = absurd (not_both (has is_sealed h) s (enlisted_unsealed e c h r))
lone_more (Requested e y) h r s t = refl
lone_more _ h r s t = t

pub lone_there : (h : List Entry) → Keeps h → always is_lone h ≡ true → has is_commit_sent h ≡ true → (has is_request h || not (has_promotable h)) ≡ true
lone_there [] k l t = absurd (no t)
lone_there (x ∷ h) k l t =
    let past = keeps_before x h k in
    or_case (is_commit_sent x) (has is_commit_sent h)
    (λ a. lone_more x h (newest x h k) (sent_sealed x h past (newest x h k) a)
    (or_case (not (is_commit_sent x)) (has is_request h || not (has_promotable h)) (λ b. absurd (not_both (is_commit_sent x) a (not_true (is_commit_sent x) b))) (λ b. b) (and_left (is_lone h x) (always is_lone h) l)))
    (λ a. lone_more x h (newest x h k) (sealed_there h past a) (lone_there h past (and_right (is_lone h x) (always is_lone h) l) a)) t

-- The seal.
asked_up : (o : Observed) (h : List Entry) (m : Message) → IsAsking h → (COMMIT m ≡ true → (has is_commit_sent h ≡ false) × ((has is_request h || not (has_promotable h)) ≡ true)) → IsAsking (onto h (to_up o Begin m))
asked_up o h m i f = by (knows Begin o.ends)
  where
    by : (b : Bool) → IsAsking (onto h (if b then Sent Begin Up m ∷ [] else []))
    by true = one_more (Sent Begin Up m) h f (λ e. refl) i
    by false = i

seal_asking : (h : List Entry) (v : Half) → v.seen ≡ observe h → Keeps h → Seals v (act_entries v) → IsAsking h → IsAsking (onto h (act_entries v))
unfolding observe
seal_asking h v q k s i =
    let P : List Entry → Type 0 = λ es. IsAsking (onto h es) in
    let S : Observed → Type 0 = λ o. o.sealed ≡ false in
    let C : Observed → Type 0 = λ o. IsAsking (onto (Sealed ∷ h) (commit_sent o)) in
    let unsealed : has is_sealed h ≡ false = subst S q s.0 in
    subst P (sym s.1) (subst C (sym q) (by (has is_promoted h) (is_some (promotable_in (rows h))) refl unsealed))
  where
    by : (b c : Bool) → is_some (promotable_in (rows h)) ≡ c → has is_sealed h ≡ false → IsAsking (onto (Sealed ∷ h) (if b && not c then to_up (observe h) Begin (commit_message (observe h)) else []))
    by true false e u =
        asked_up (observe h) (Sealed ∷ h) (commit_message (observe h)) (bare_more Sealed h refl i)
        (λ t. (
          false_from_ne_true (has is_commit_sent h) (λ a. not_both (has is_sealed h) (sealed_there h k a) u),
          or_right (has is_request h) (not (has_promotable h)) (not_false (has_promotable h) (none_promotable h e)),
        ))
    by true true e u = bare_more Sealed h refl i
    by false c e u = bare_more Sealed h refl i

-- A request.
has_at : {A : Type 0} (p : A → Bool) (xs : List A) (k : ℕ) (x : A) → slice_get xs k ≡ Some x → p x ≡ true → has p xs ≡ true
has_at p [] k x e t = absurd cc
has_at p (y ∷ xs) zero x e t = let same : y ≡ x = cc in or_left (p y) (has p xs) (ap p same ∙ t)
has_at p (y ∷ xs) (suc k) x e t = or_right (p y) (has p xs) (has_at p xs k x e t)

pub request_owed : (h : List Entry) (e : ℕ) (x : Outcome) → due_of (observe h) e ≡ Some Single → (has is_request h ≡ false) × (has_promotable h ≡ true)
unfolding observe
request_owed h e x d =
    let o = owed h (OwnerReply x) Single e refl d refl in
    let owes = single o.answers in
    let asked = and_left ((observe h).single_asked && not (has is_request h)) (is_promotable o.row.class) (and_left ((observe h).single_asked && not (has is_request h) && is_promotable o.row.class) (not (is_some (observe h).decided)) owes) in
    let class = and_right ((observe h).single_asked && not (has is_request h)) (is_promotable o.row.class) (and_left ((observe h).single_asked && not (has is_request h) && is_promotable o.row.class) (not (is_some (observe h).decided)) owes) in
    let w = found_at (is_of e) (rows h) o.row o.stands in
    (not_true (has is_request h) (and_right (observe h).single_asked (not (has is_request h)) asked), sym (rows_promotable h) ∙ has_at (λ y. is_promotable y.class) (rows h) w.0 o.row w.1 class)
  where
    single : {c d : Bool} → ((Single ≡ Hand) × (c ≡ true)) ⊎ ((Single ≡ Single) × (d ≡ true)) → d ≡ true
    single (inl a) = absurd (differ a.0)
      where
        differ : Single ≡ Hand → ⊥
        differ e = absurd cc
    single (inr a) = a.1

request_asking : (h : List Entry) (v : Half) (e : EnlNo) (r : Reply) → v.seen ≡ observe h → Keeps h → Requests v e (reply_entries v e r) → IsAsking h → IsAsking (onto h (reply_entries v e r))
request_asking h v e r q k s i =
    let P : List Entry → Type 0 = λ es. IsAsking (onto h es) in
    let D : Observed → Type 0 = λ o. due_of o e.value ≡ Some Single in
    let owes = request_owed h e.value s.0 (subst D q s.1) in
    let unsent : has is_commit_sent h ≡ false = false_from_ne_true (has is_commit_sent h) (λ a. none owes.0 owes.1 (lone_there h k i.lone a)) in
    subst P (sym s.2) (asked_up v.seen (Requested e (request_of s.0) ∷ h) (request_message s.0) (bare_more (Requested e (request_of s.0)) h refl i) (λ t. (unsent, refl)))
  where
    none : {a b : Bool} → a ≡ false → b ≡ true → (a || not b) ≡ true → ⊥
    none {a} {b} p q t = by a b p q t
      where
        by : (a b : Bool) → a ≡ false → b ≡ true → (a || not b) ≡ true → ⊥
        by true b p q t = absurd cc
        by false true p q t = absurd cc
        by false false p q t = absurd cc

-- The desks: one for each enlistment.
abbrev are_single : List Desk → Bool
are_single [] = true
are_single (d ∷ ds) = not (has (is_desk_of d.enlistment.value) ds) && are_single ds

-- PREPARE to each desk, where none was sent to it
each_asked : (e : EnlNo) (k : Coordinated) (ds : List Desk) (h : List Entry) → are_single ds ≡ true → (has (is_desk_of e.value) ds ≡ true → has (is_sent_on (Enl e) Down PREPARE) h ≡ false)
    → always (is_first_sent (Enl e) Down PREPARE) h ≡ true → always (is_first_sent (Enl e) Down PREPARE) (onto h (to_each k EnlistPrepare ds)) ≡ true
each_asked e k [] h s f a = a
each_asked e k (d ∷ ds) h s f a = by (has (same_connection (Enl d.enlistment)) k.known) (λ g t b. each_asked e k ds g (and_right (not (has (is_desk_of d.enlistment.value) ds)) (are_single ds) s) t b)
  where
    alone : has (is_desk_of d.enlistment.value) ds ≡ false
    alone = not_true (has (is_desk_of d.enlistment.value) ds) (and_left (not (has (is_desk_of d.enlistment.value) ds)) (are_single ds) s)

    here : (b c : Bool) → (b ≡ true → c ≡ false) → (not (b && true && true) || not c) ≡ true
    here true c g = not_false c (g refl)
    here false c g = refl

    later : (b c r : Bool) → (b ≡ true → r ≡ false) → (r ≡ true → c ≡ false) → r ≡ true → ((b && true && true) || c) ≡ false
    later true c r g q t = absurd (not_both r t (g refl))
    later false c r g q t = q t

    by : (b : Bool) → ((g : List Entry) → (has (is_desk_of e.value) ds ≡ true → has (is_sent_on (Enl e) Down PREPARE) g ≡ false) → always (is_first_sent (Enl e) Down PREPARE) g ≡ true
        → always (is_first_sent (Enl e) Down PREPARE) (onto g (to_each k EnlistPrepare ds)) ≡ true)
        → always (is_first_sent (Enl e) Down PREPARE) (onto h ((if b then Sent (Enl d.enlistment) Down EnlistPrepare ∷ [] else []) ++ to_each k EnlistPrepare ds)) ≡ true
    by true rest =
        rest (Sent (Enl d.enlistment) Down EnlistPrepare ∷ h)
        (later (e.value == d.enlistment.value) (has (is_sent_on (Enl e) Down PREPARE) h) (has (is_desk_of e.value) ds)
        (λ q. let P : ℕ → Type 0 = λ n. has (is_desk_of n) ds ≡ false in subst P (sym (eqb-true e.value d.enlistment.value q)) alone) (λ t. f (or_right (is_desk_of e.value d) (has (is_desk_of e.value) ds) t)))
        (and_both (is_first_sent (Enl e) Down PREPARE h (Sent (Enl d.enlistment) Down EnlistPrepare)) (always (is_first_sent (Enl e) Down PREPARE) h)
        (here (e.value == d.enlistment.value) (has (is_sent_on (Enl e) Down PREPARE) h) (λ q. f (or_left (is_desk_of e.value d) (has (is_desk_of e.value) ds) q))) a)
    by false rest = rest h (λ t. f (or_right (is_desk_of e.value d) (has (is_desk_of e.value) ds) t)) a

single_insert : (x : Desk) (ds : List Desk) → has (is_desk_of x.enlistment.value) ds ≡ false → are_single ds ≡ true → are_single (insert_by desk_number x ds) ≡ true
single_insert x [] n s = refl
single_insert x (d ∷ ds) n s =
    step (nat_lt d.enlistment.value x.enlistment.value)
    (single_insert x ds (second (is_desk_of x.enlistment.value d) (has (is_desk_of x.enlistment.value) ds) n) (and_right (not (has (is_desk_of d.enlistment.value) ds)) (are_single ds) s))
  where
    second : (a b : Bool) → (a || b) ≡ false → b ≡ false
    second true b k = absurd cc
    second false b k = k

    first : (a b : Bool) → (a || b) ≡ false → a ≡ false
    first true b k = absurd cc
    first false b k = refl

    step : (b : Bool) → are_single (insert_by desk_number x ds) ≡ true → are_single (if b then d ∷ insert_by desk_number x ds else x ∷ d ∷ ds) ≡ true
    step true ih =
        and_both (not (has (is_desk_of d.enlistment.value) (insert_by desk_number x ds))) (are_single (insert_by desk_number x ds))
        (not_false (has (is_desk_of d.enlistment.value) (insert_by desk_number x ds))
        (has-insert (is_desk_of d.enlistment.value) desk_number x ds
        ∙ or_false (is_desk_of d.enlistment.value x) (has (is_desk_of d.enlistment.value) ds)
        (eq_swap d.enlistment.value x.enlistment.value ∙ first (is_desk_of x.enlistment.value d) (has (is_desk_of x.enlistment.value) ds) n)
        (not_true (has (is_desk_of d.enlistment.value) ds) (and_left (not (has (is_desk_of d.enlistment.value) ds)) (are_single ds) s)))) ih
    step false ih = and_both (not (has (is_desk_of x.enlistment.value) (d ∷ ds))) (are_single (d ∷ ds)) (not_false (has (is_desk_of x.enlistment.value) (d ∷ ds)) n) s

abbrev IsSame : (Desk → Desk) → Type 0
IsSame f = (d : Desk) → (f d).enlistment ≡ d.enlistment

has_same : (f : Desk → Desk) → IsSame f → (e : ℕ) (ds : List Desk) → has (is_desk_of e) (map f ds) ≡ has (is_desk_of e) ds
has_same f g e [] = refl
has_same f g e (d ∷ ds) = ap (λ (z : EnlNo). (e == z.value) || has (is_desk_of e) (map f ds)) (g d) ∙ ap (λ b. is_desk_of e d || b) (has_same f g e ds)

single_map : (f : Desk → Desk) → IsSame f → (ds : List Desk) → are_single ds ≡ true → are_single (map f ds) ≡ true
single_map f g [] s = refl
single_map f g (d ∷ ds) s =
    let same : has (is_desk_of (f d).enlistment.value) (map f ds) ≡ has (is_desk_of d.enlistment.value) ds =
    has_same f g (f d).enlistment.value ds ∙ ap (λ (z : EnlNo). has (is_desk_of z.value) ds) (g d) in
    and_both (not (has (is_desk_of (f d).enlistment.value) (map f ds))) (are_single (map f ds))
    (not_false (has (is_desk_of (f d).enlistment.value) (map f ds)) (same ∙ not_true (has (is_desk_of d.enlistment.value) ds) (and_left (not (has (is_desk_of d.enlistment.value) ds)) (are_single ds) s)))
    (single_map f g ds (and_right (not (has (is_desk_of d.enlistment.value) ds)) (are_single ds) s))

single_filter : (p : Desk → Bool) (ds : List Desk) → are_single ds ≡ true → are_single (filter p ds) ≡ true
single_filter p [] s = refl
single_filter p (d ∷ ds) s = step (p d) (single_filter p ds (and_right (not (has (is_desk_of d.enlistment.value) ds)) (are_single ds) s))
  where
    step : (b : Bool) → are_single (filter p ds) ≡ true → are_single (if b then d ∷ filter p ds else filter p ds) ≡ true
    step true ih =
        and_both (not (has (is_desk_of d.enlistment.value) (filter p ds))) (are_single (filter p ds))
        (not_false (has (is_desk_of d.enlistment.value) (filter p ds))
        (has_filter (is_desk_of d.enlistment.value) p ds
        ∙ has_less (λ z. is_desk_of d.enlistment.value z && p z) (is_desk_of d.enlistment.value) (λ z a. and_left (is_desk_of d.enlistment.value z) (p z) a) ds
        (not_true (has (is_desk_of d.enlistment.value) ds) (and_left (not (has (is_desk_of d.enlistment.value) ds)) (are_single ds) s)))) ih
    step false ih = ih

acked_same : (e : ℕ) → IsSame (with_ack e)
acked_same e d = refl

cast_same : (e : ℕ) (o : Option Ballot) → IsSame (with_ballot e o)
cast_same e None d = refl
cast_same e (Some b) d = by (is_desk_of e d)
  where
    by : (c : Bool) → (if c then record { enlistment = d.enlistment; manager = d.manager; ballot = Some b; acked = d.acked } else d).enlistment ≡ d.enlistment
    by true = refl
    by false = refl

-- a desk is of an enlistment whose ENLIST was got
pub desk_come : (e : ℕ) (h : List Entry) → has (is_desk_of e) (coordinate h).desks ≡ true → has (is_enlist_got e) h ≡ true
unfolding coordinate follow
desk_come e [] t = absurd (no t)
desk_come e (Got (Enl f) Up (EnlistEnlist i) ∷ h) t = by (accepts (coordinate h)) t (desk_come e h)
  where
    by : (b : Bool) → has (is_desk_of e) (if b then insert_by desk_number (record { enlistment = f; manager = i.rm; ballot = None; acked = false }) (coordinate h).desks else (coordinate h).desks) ≡ true
        → (has (is_desk_of e) (coordinate h).desks ≡ true → has (is_enlist_got e) h ≡ true) → ((e == f.value) || has (is_enlist_got e) h) ≡ true
    by true t g =
        or_case (e == f.value) (has (is_desk_of e) (coordinate h).desks) (λ a. or_left (e == f.value) (has (is_enlist_got e) h) a) (λ a. or_right (e == f.value) (has (is_enlist_got e) h) (g a))
        (sym (has-insert (is_desk_of e) desk_number (record { enlistment = f; manager = i.rm; ballot = None; acked = false }) (coordinate h).desks) ∙ t)
    by false t g = or_right (e == f.value) (has (is_enlist_got e) h) (g t)
desk_come e (Got (Enl f) Up EnlistAck ∷ h) t = desk_come e h (sym (has_same (with_ack f.value) (acked_same f.value) e (coordinate h).desks) ∙ t)
desk_come e (Got (Again f) Up ReenlistAck ∷ h) t = desk_come e h (sym (has_same (with_ack f.value) (acked_same f.value) e (coordinate h).desks) ∙ t)
desk_come e (Got (Enl f) Up EnlistOneAborted ∷ h) t = by (hears_one (coordinate h) f.value) t (desk_come e h)
  where
    by : (b : Bool) → has (is_desk_of e) (if b then map (with_ballot f.value (Some Refused)) (coordinate h).desks else (coordinate h).desks) ≡ true
        → (has (is_desk_of e) (coordinate h).desks ≡ true → has (is_enlist_got e) h ≡ true) → has (is_enlist_got e) h ≡ true
    by true t g = g (sym (has_same (with_ballot f.value (Some Refused)) (cast_same f.value (Some Refused)) e (coordinate h).desks) ∙ t)
    by false t g = g t
desk_come e (Got (Enl f) Up m ∷ h) t = or_right (is_enlist_got e (Got (Enl f) Up m)) (has (is_enlist_got e) h) (by (is_active (coordinate h).stage) t (desk_come e h))
  where
    by : (b : Bool) → has (is_desk_of e) (if b then map (with_ballot f.value (ballot_of m)) (coordinate h).desks else (coordinate h).desks) ≡ true
        → (has (is_desk_of e) (coordinate h).desks ≡ true → has (is_enlist_got e) h ≡ true) → has (is_enlist_got e) h ≡ true
    by true t g = g (sym (has_same (with_ballot f.value (ballot_of m)) (cast_same f.value (ballot_of m)) e (coordinate h).desks) ∙ t)
    by false t g = g t
desk_come e (Restarted true ∷ h) t =
    desk_come e h (has_more (λ z. is_desk_of e z && is_prepared z.ballot) (is_desk_of e) (λ z a. and_left (is_desk_of e z) (is_prepared z.ballot) a) (coordinate h).desks
    (sym (has_filter (is_desk_of e) (λ z. is_prepared z.ballot) (coordinate h).desks) ∙ (sym (has_same unacked (λ d. refl) e (filter (λ z. is_prepared z.ballot) (coordinate h).desks)) ∙ t)))
desk_come e (Restarted false ∷ h) t = absurd (no t)
desk_come e (x ∷ h) t = or_right (is_enlist_got e x) (has (is_enlist_got e) h) (desk_come e h t)

desk_fresh : (f : EnlNo) (m : Message) (h : List Entry) → Keeps h → MayCross h (Got (Enl f) Up m) → is_opening (Enl f) m ≡ true → has (is_desk_of f.value) (coordinate h).desks ≡ false
desk_fresh f m h k n o =
    false_from_ne_true (has (is_desk_of f.value) (coordinate h).desks)
    (λ t. not_both (has (is_opening (Enl f)) (in_transit (Enl f) Up h)) (next_stands (is_opening (Enl f)) m (in_transit (Enl f) Up h) n o)
    (none_again (Enl f) h refl k (has_more (is_enlist_got f.value) (is_opening_got (Enl f)) (enlist_opening f) h (desk_come f.value h t))))

if_single : (b : Bool) (xs ys : List Desk) → are_single xs ≡ true → are_single ys ≡ true → are_single (if b then xs else ys) ≡ true
if_single true xs ys p q = p
if_single false xs ys p q = q

desks_single : (h : List Entry) → Keeps h → are_single (coordinate h).desks ≡ true
unfolding coordinate follow
desks_single [] k = refl
desks_single (Got (Enl f) Up (EnlistEnlist i) ∷ h) k =
    let new : Desk = record { enlistment = f; manager = i.rm; ballot = None; acked = false } in
    let past = keeps_before (Got (Enl f) Up (EnlistEnlist i)) h k in
    let old = desks_single h past in
    if_single (accepts (coordinate h)) (insert_by desk_number new (coordinate h).desks) (coordinate h).desks
    (single_insert new (coordinate h).desks (desk_fresh f (EnlistEnlist i) h past k.wires.0 refl) old) old
desks_single (Got (Enl f) Up EnlistAck ∷ h) k = single_map (with_ack f.value) (acked_same f.value) (coordinate h).desks (desks_single h (keeps_before (Got (Enl f) Up EnlistAck) h k))
desks_single (Got (Again f) Up ReenlistAck ∷ h) k = single_map (with_ack f.value) (acked_same f.value) (coordinate h).desks (desks_single h (keeps_before (Got (Again f) Up ReenlistAck) h k))
desks_single (Got (Enl f) Up EnlistOneAborted ∷ h) k =
    let old = desks_single h (keeps_before (Got (Enl f) Up EnlistOneAborted) h k) in
    if_single (hears_one (coordinate h) f.value) (map (with_ballot f.value (Some Refused)) (coordinate h).desks) (coordinate h).desks
    (single_map (with_ballot f.value (Some Refused)) (cast_same f.value (Some Refused)) (coordinate h).desks old) old
desks_single (Got (Enl f) Up m ∷ h) k =
    let old = desks_single h (keeps_before (Got (Enl f) Up m) h k) in
    if_single (is_active (coordinate h).stage) (map (with_ballot f.value (ballot_of m)) (coordinate h).desks) (coordinate h).desks
    (single_map (with_ballot f.value (ballot_of m)) (cast_same f.value (ballot_of m)) (coordinate h).desks old) old
desks_single (Restarted true ∷ h) k =
    single_map unacked (λ d. refl) (filter (λ z. is_prepared z.ballot) (coordinate h).desks) (single_filter (λ z. is_prepared z.ballot) (coordinate h).desks (desks_single h (keeps_before (Restarted true) h k)))
desks_single (Restarted false ∷ h) k = refl
desks_single (x ∷ h) k = desks_single h (keeps_before x h k)

-- The block of COMMIT.
prepare_row : (h : List Entry) (c : Conn) (m : Message) → PREPARE m ≡ true → message_row h c m ≡ true → has is_commit_got h ≡ true
prepare_row h c EnlistPrepare t r = has_more is_two_phase_got is_commit_got two_phase_commit h r
prepare_row h c _ t r = absurd (no t)

prepare_committed : (e : EnlNo) (x : Entry) (h : List Entry) → Keeps h → rule h x ≡ true → is_sent_on (Enl e) Down PREPARE x ≡ true → has is_commit_got h ≡ true
prepare_committed e (Sent c r m) h k q t =
    prepare_row h c m (and_right (same_connection (Enl e) c && same_direction Down r) (PREPARE m) t) (fourth_of_four (has_line c r m) (has is_promoting h) (is_there h c r m) (message_row h c m) q)
prepare_committed e _ h k q t = absurd (no t)

commit_on : (x : Entry) → is_commit_got x ≡ true → is_got_on Begin Up COMMIT x ≡ true
commit_on (Got Begin Up BeginCommit) t = refl
commit_on (Got Begin Up BeginCommitOne) t = refl
commit_on _ t = absurd (no t)

opening_uncommit : (m : Message) → is_opening Begin m ≡ true → COMMIT m ≡ false
opening_uncommit BeginBegin t = refl
opening_uncommit _ t = absurd (no t)

opening_unasked : (e : EnlNo) (m : Message) → is_opening (Enl e) m ≡ true → PREPARE m ≡ false
opening_unasked e (EnlistEnlist i) t = refl
opening_unasked e _ t = absurd (no t)

commit_new : (h : List Entry) → Keeps h → IsAsking h → MayCross h (Got Begin Up BeginCommit) → has is_commit_got h ≡ false
commit_new h k i n = has_less is_commit_got (is_got_on Begin Up COMMIT) commit_on h (first_got Begin Up COMMIT BeginCommit opening_uncommit refl h k.wires i.first n)

-- no COMMIT is sent by what is sent downward
abbrev is_downward : Entry → Bool
is_downward (Sent c Down m) = true
is_downward _ = false

downward_uncommit : (x : Entry) → is_downward x ≡ true → is_commit_sent x ≡ false
downward_uncommit (Sent c Down m) t = by (same_connection Begin c) (COMMIT m)
  where
    by : (a b : Bool) → (a && false && b) ≡ false
    by true b = refl
    by false b = refl
downward_uncommit _ t = absurd (no t)

first_onto : (h es : List Entry) → each is_downward es ≡ true → always (is_first_sent Begin Up COMMIT) h ≡ true → always (is_first_sent Begin Up COMMIT) (onto h es) ≡ true
first_onto h [] d a = a
first_onto h (x ∷ es) d a =
    first_onto (x ∷ h) es (and_right (is_downward x) (each is_downward es) d)
    (and_both (is_first_sent Begin Up COMMIT h x) (always (is_first_sent Begin Up COMMIT) h)
    (unless_sent (is_commit_sent x) _ (downward_uncommit x (and_left (is_downward x) (each is_downward es) d))) a)

lone_onto : (h es : List Entry) → each is_downward es ≡ true → always is_lone h ≡ true → always is_lone (onto h es) ≡ true
lone_onto h [] d a = a
lone_onto h (x ∷ es) d a =
    lone_onto (x ∷ h) es (and_right (is_downward x) (each is_downward es) d)
    (and_both (is_lone h x) (always is_lone h) (unless_sent (is_commit_sent x) _ (downward_uncommit x (and_left (is_downward x) (each is_downward es) d))) a)

down_to : (k : Coordinated) (c : Conn) (m : Message) → each is_downward (to k c m) ≡ true
down_to k c m = by (has (same_connection c) k.known)
  where
    by : (b : Bool) → each is_downward (if b then Sent c Down m ∷ [] else []) ≡ true
    by true = refl
    by false = refl

down_each : (k : Coordinated) (m : Message) (ds : List Desk) → each is_downward (to_each k m ds) ≡ true
down_each k m [] = refl
down_each k m (d ∷ ds) = each-append is_downward (to k (Enl d.enlistment) m) (to_each k m ds) (down_to k (Enl d.enlistment) m) (down_each k m ds)

asks_block : (k : Coordinated) (h : List Entry) → are_single k.desks ≡ true → ((e : EnlNo) → has (is_sent_on (Enl e) Down PREPARE) h ≡ false) → IsAsking h
    → IsAsking (onto h (to k Voter VoterAsk ++ to_each k EnlistPrepare k.desks))
asks_block k h s n i =
    let all = each-append is_downward (to k Voter VoterAsk) (to_each k EnlistPrepare k.desks) (down_to k Voter VoterAsk) (down_each k EnlistPrepare k.desks) in
    record {
      first = first_onto h (to k Voter VoterAsk ++ to_each k EnlistPrepare k.desks) all i.first;
      lone = lone_onto h (to k Voter VoterAsk ++ to_each k EnlistPrepare k.desks) all i.lone;
      asks = λ e. by e (has (same_connection Voter) k.known);
    }
  where
    by : (e : EnlNo) (b : Bool) → always (is_first_sent (Enl e) Down PREPARE) (onto h ((if b then Sent Voter Down VoterAsk ∷ [] else []) ++ to_each k EnlistPrepare k.desks)) ≡ true
    by e true = each_asked e k k.desks (Sent Voter Down VoterAsk ∷ h) s (λ t. n e) (i.asks e)
    by e false = each_asked e k k.desks h s (λ t. n e) (i.asks e)

commit_asking : (id : ℕ) (h : List Entry) → Keeps h → MayCross h (Got Begin Up BeginCommit) → IsAsking h → IsAsking (onto (Got Begin Up BeginCommit ∷ h) (core_got id (coordinate h) Begin BeginCommit))
unfolding core_got
commit_asking id h k n i = by (is_active (coordinate h).stage)
  where
    none : (e : EnlNo) → has (is_sent_on (Enl e) Down PREPARE) h ≡ false
    none e =
        false_from_ne_true (has (is_sent_on (Enl e) Down PREPARE) h)
        (λ t. not_both (has is_commit_got h) (before (is_sent_on (Enl e) Down PREPARE) is_commit_got (prepare_committed e) h k t) (commit_new h k i n))

    by : (b : Bool) → IsAsking (onto (Got Begin Up BeginCommit ∷ h) (if b then to (coordinate h) Voter VoterAsk ++ to_each (coordinate h) EnlistPrepare (coordinate h).desks else []))
    by true = asks_block (coordinate h) (Got Begin Up BeginCommit ∷ h) (desks_single h k) none (bare_more (Got Begin Up BeginCommit) h refl i)
    by false = bare_more (Got Begin Up BeginCommit) h refl i

-- After each step.
got_asking : (id : ℕ) (c : Conn) (m : Message) (h : List Entry) → Keeps h → MayCross h (Got c Up m) → IsAsking h → IsAsking (onto (Got c Up m ∷ h) (core_got id (coordinate h) c m))
got_asking id Begin BeginCommit h k n i = commit_asking id h k n i
got_asking id c m h k n i = bare_onto (Got c Up m ∷ h) (core_got id (coordinate h) c m) (bare_core_got id (coordinate h) c m refl) (bare_more (Got c Up m) h refl i)

up_asking : (t : ℕ) (w : World) (c : Conn) (ms : List Message) → in_transit c Up w.past ≡ ms → Keeps w.past → IsAsking w.past → IsAsking (onto w.past (delivered t w c Up ms))
up_asking t w c [] q k i = bare_onto w.past (Ended c Up ∷ ended_at w c Up) (bare_cons (Ended c Up) refl (bare_ended_at w c Up)) i
up_asking t w c (m ∷ ms) q k i = got_asking (identifier_of t) c m w.past k (takes_next m ms (in_transit c Up w.past) q) i

down_asking : (t : ℕ) (w : World) (c : Conn) (ms : List Message) → IsAsking w.past → IsAsking (onto w.past (delivered t w c Down ms))
down_asking t w c [] i = bare_onto w.past (Ended c Down ∷ ended_at w c Down) (bare_cons (Ended c Down) refl (bare_ended_at w c Down)) i
down_asking t w c (m ∷ ms) i = bare_onto w.past (Got c Down m ∷ local_got t (half w) c m) (bare_cons (Got c Down m) refl (bare_local_got t (half w) c m)) i

pub step_asking : (t : ℕ) (w : World) (m : Step) → Keeps w.past → IsAsking w.past → IsAsking (after t w m).past
unfolding after block_at
step_asking t w (Calls n a c m) k i =
    bare_onto (Called n a (answer_at t w c m) ∷ w.past) (facts_if (has_facts (answer_at t w c m)) (facts_at t w c (answer_at t w c m))) (bare_called t w c (answer_at t w c m))
    (bare_more (Called n a (answer_at t w c m)) w.past refl i)
step_asking t w (Replies e r) k i = by (reply_kind (half w) e r)
  where
    by : Bare (reply_entries (half w) e r) ⊎ Requests (half w) e (reply_entries (half w) e r) → IsAsking (onto w.past (reply_entries (half w) e r))
    by (inl b) = bare_onto w.past (reply_entries (half w) e r) b i
    by (inr s) = request_asking w.past (half w) e r refl k s i
step_asking t w Acts k i = by (act_kind (half w))
  where
    by : Bare (act_entries (half w)) ⊎ Seals (half w) (act_entries (half w)) → IsAsking (onto w.past (act_entries (half w)))
    by (inl b) = bare_onto w.past (act_entries (half w)) b i
    by (inr s) = seal_asking w.past (half w) refl k s i
step_asking t w (Coordinates x) k i = bare_onto w.past (coordinates (core w) x) (bare_if (may_log (core w)) (bare_appended (core w) x) (bare_freed x)) i
step_asking t w (Delivers c Up) k i = up_asking t w c (in_transit c Up w.past) refl k i
step_asking t w (Delivers c Down) k i = down_asking t w c (in_transit c Down w.past) i
step_asking t w Stops k i = bare_onto w.past (Stopped ∷ []) (bare_one Stopped refl) i
step_asking t w (Restarts found) k i = bare_onto w.past (restarted (core w).stopped found) (bare_restarted (core w).stopped found) i

pub none_asked : IsAsking []
none_asked = record { first = refl; lone = refl; asks = λ e. refl }

-- so where PREPARE comes, none came before
prepare_on : (e : EnlNo) (x : Entry) → is_prepare_got e.value x ≡ true → is_got_on (Enl e) Down PREPARE x ≡ true
prepare_on e (Got (Enl f) Down EnlistPrepare) t = rw t refl
prepare_on e _ t = absurd (no t)

pub prepare_new : (e : EnlNo) (h : List Entry) → Keeps h → IsAsking h → MayCross h (Got (Enl e) Down EnlistPrepare) → has (is_prepare_got e.value) h ≡ false
prepare_new e h k i n =
    has_less (is_prepare_got e.value) (is_got_on (Enl e) Down PREPARE) (prepare_on e) h (first_got (Enl e) Down PREPARE EnlistPrepare (opening_unasked e) refl h k.wires (i.asks e) n)
