-- Who is finished at the local side: it acknowledged, was told the abort, or voted no or done. It stays so; and a desk at the coordinator is acknowledged, or read only, only where its
-- enlistment is finished.
use Rattle.std.proofs.Common.{ℕ, Bool, ◌||◌, List, ◌≡◌, refl, true, false, ◌==◌, ◌&&◌, sym, subst, ◌∷◌, None, ◌∙◌, [], Option, Some}
use Rattle.std.specs.Prelude.{map, not, filter, if◌then◌else◌, is_some}
use Rattle.std.proofs.lemmas.Bool.{false_from_ne_true, eqb-true, or_left}
use Rattle.dtx_values.specs.declared.entry.Ask.TheVariants.{Prepare}
use Rattle.dtx_values.specs.declared.entry.Entry.{Entry}
use Rattle.dtx_values.specs.declared.entry.Entry.TheVariants.{Acked, Voted, Got, Reenlisted, Sent, Told, Asked, Enlisted, Restarted}
use Rattle.dtx_values.specs.declared.entry.Party.TheVariants.{Enl as Member}
use Rattle.dtx_values.specs.declared.message.Conn.{Conn}
use Rattle.dtx_values.specs.declared.message.Conn.TheVariants.{Enl, Again, Begin, Voter}
use Rattle.dtx_values.specs.declared.message.Dir.{Dir}
use Rattle.dtx_values.specs.declared.message.Dir.TheVariants.{Up, Down}
use Rattle.dtx_values.specs.declared.message.Message.{Message}
use Rattle.dtx_values.specs.declared.message.Message.TheVariants.{EnlistCommit, EnlistEnlist, EnlistEnlisted, ReenlistCommitted, EnlistAck, EnlistOneAborted, EnlistReadonly, ReenlistAck}
use Rattle.dtx_values.specs.declared.number.EnlNo.{EnlNo}
use Rattle.dtx_values.specs.declared.row.Row.{Row}
use Rattle.dtx_values.specs.declared.words.Outcome.TheVariants.{Aborted}
use Rattle.dtx_values.specs.declared.words.Vote.{Vote}
use Rattle.dtx_values.specs.declared.words.Vote.TheVariants.{Done}
use Rattle.dtx_values.specs.Ends.{same_connection, same_direction}
use Rattle.dtx_values.specs.Row.{fresh_row, is_of, mark_in, mark_row, number_of, vote_in, vote_row, unless_there, has_voted}
use Rattle.dtx_values.specs.Table.{marks, voted}
use Rattle.dtx_values.specs.Vote.{still_hears}
use Rattle.dtx_values.specs.declared.message.Info.{Info}
use Rattle.dtx_values.specs.Lines.{is_opening}
use Rattle.dtx_model.specs.declared.branch.Branch.{Branch}
use Rattle.dtx_model.specs.declared.desk.Ballot.{Ballot}
use Rattle.dtx_model.specs.declared.desk.Ballot.TheVariants.{ReadOnly, Refused}
use Rattle.dtx_model.specs.declared.desk.Desk.{Desk}
use Rattle.dtx_model.specs.Words.{has, each, latest}
use Rattle.dtx_model.specs.Entries.{handed_of, is_told}
use Rattle.dtx_model.specs.Half.{is_handed}
use Rattle.dtx_model.specs.Observed.{branches, is_done_branch, rows, observe, is_branch, branch_aborted, branch_acked, branch_number}
use Rattle.dtx_model.specs.World.{is_out_row, is_finished_there}
use Rattle.dtx_model.specs.Wires.{opens}
use Rattle.dtx_model.specs.Coordinated.{is_desk_of, with_ack, with_ballot, ballot_of, accepts, coordinate, desk_number, follow, hears_one, is_active, is_prepared, unacked}
use Rattle.dtx_model.proofs.Bools.{not_both, and_left, or_right, and_never, not_true, or_false, or_first, or_second, and_right, or_case, and_both, not_false}
use Rattle.dtx_values.proofs.SameNumbers.{same_enlistment}
use Rattle.history_table.proofs.HalfKnows.{unmapped}
use Rattle.history_table.proofs.Lists.{has-insert, has_kept, if_kept, each-insert}
use Rattle.history_table.proofs.Scans.{has_less, has_more, each_more}
use Rattle.history_table.proofs.Owned.{has_filter}
use Rattle.history_table.proofs.Managed.{enlist_opens, is_enlist_by, is_managed_branch, branches_managed}
use Rattle.history_table.proofs.Keeping.{Keeps, keeps_before, newest}
use Rattle.history_table.proofs.CoreKnown.{has_made}
use Rattle.history_table.proofs.Marks.{unopened_again}
use Rattle.history_table.proofs.TableRows.{enlisted_in_rows}
use Rattle.history_table.proofs.HalfRows.{voted_enlisted, voted_once, vote_seen}
use Rattle.history_table.proofs.Table.{is_cast, ends_with, is_acked_by, message_row, rule}
use Rattle.history_table.proofs.Crossed.{is_sent_on, got_sent}
use Rattle.history_table.proofs.CoreStages.{changed, each_if, kept_some}
use Rattle.settled_histories.proofs.BeforeRows.{row_of}

-- it acknowledged, was told the abort, or voted no or done
abbrev pub is_finished : ℕ → List Entry → Bool
is_finished e h = has (is_done_branch e) (branches h) || has (is_out_row e) (rows h)

-- or it was handed the commit
pub finished_seen : (e : ℕ) (h : List Entry) → is_finished_there (observe h) e ≡ (is_finished e h || is_handed (latest handed_of h) e)
unfolding observe
finished_seen e h = refl

-- Who isn't finished stays so, but by its own vote and its own acknowledgement, and by being told.
mapped_less : {A : Type 0} (p : A → Bool) (f : A → A) → ((x : A) → p (f x) ≡ true → p x ≡ true) → (xs : List A) → has p xs ≡ false → has p (map f xs) ≡ false
mapped_less p f g xs k = false_from_ne_true (has p (map f xs)) (λ t. not_both (has p xs) (unmapped false p f g xs t) k)

-- the entry is neither its vote nor its acknowledgement
abbrev pub is_not_own : ℕ → Entry → Bool
is_not_own e (Voted f v) = not (e == f.value)
is_not_own e (Acked f) = not (e == f.value)
is_not_own e _ = true

-- a mark of another's branch
other_mark : (e f : ℕ) (b : Branch) (a c : Bool) → (e == f) ≡ false → (is_branch e b && (a || (is_branch f b || c))) ≡ true → (is_branch e b && (a || c)) ≡ true
other_mark e f b a c n t = by (is_branch f b) refl t
  where
    by : (q : Bool) → is_branch f b ≡ q → (is_branch e b && (a || (q || c))) ≡ true → (is_branch e b && (a || c)) ≡ true
    by false q t = t
    by true q t =
        let P : ℕ → Type 0 = λ m. (e == m) ≡ true in
        absurd (not_both (e == f) (subst P (sym (eqb-true f b.enlistment.value q)) (and_left (is_branch e b) (a || (true || c)) t)) n)

-- either of two, turned round
turned : (i a c : Bool) → (i && (a || c)) ≡ true → (i && (c || a)) ≡ true
turned true true c t = or_right c true refl
turned true false true t = refl
turned true false false t = absurd cc
turned false a c t = absurd cc

branch_unfinished : (e : ℕ) (x : Entry) (h : List Entry) → is_not_own e x ≡ true → is_told e x ≡ false → has (is_done_branch e) (branches h) ≡ false → has (is_done_branch e) (branches (x ∷ h)) ≡ false
branch_unfinished e (Sent (Enl f) Up (EnlistEnlist i)) h o n k =
    let new : Branch = record { enlistment = f; manager = i.rm; enlisted = false; aborted = false; acked = false; due = None } in
    has-insert (is_done_branch e) branch_number new (filter (λ b. not (is_branch f.value b)) (branches h))
    ∙ or_false (is_branch e new && false) (has (is_done_branch e) (filter (λ b. not (is_branch f.value b)) (branches h))) (and_never (is_branch e new))
    (has_filter (is_done_branch e) (λ b. not (is_branch f.value b)) (branches h)
    ∙ has_less (λ b. is_done_branch e b && not (is_branch f.value b)) (is_done_branch e) (λ b. and_left (is_done_branch e b) (not (is_branch f.value b))) (branches h) k)
branch_unfinished e (Got (Enl f) Down EnlistEnlisted) h o n k = has_kept (is_done_branch e) _ (λ b. refl) (branches h) ∙ k
branch_unfinished e (Got (Enl f) Down EnlistCommit) h o n k = has_kept (is_done_branch e) _ (λ b. refl) (branches h) ∙ k
branch_unfinished e (Got (Again f) Down ReenlistCommitted) h o n k = has_kept (is_done_branch e) _ (λ b. refl) (branches h) ∙ k
branch_unfinished e (Told (Member f) Aborted) h o n k =
    mapped_less (is_done_branch e) (branch_aborted f.value) (λ b t. other_mark e f.value b b.acked b.aborted n t) (branches h) k
branch_unfinished e (Acked f) h o n k =
    mapped_less (is_done_branch e) (branch_acked f.value) (λ b t. acked b t) (branches h) k
  where
    acked : (b : Branch) → is_done_branch e (branch_acked f.value b) ≡ true → is_done_branch e b ≡ true
    acked b t =
        turned (is_branch e b) b.aborted b.acked
        (other_mark e f.value b b.aborted b.acked (not_true (e == f.value) o) (turned (is_branch e b) (is_branch f.value b || b.acked) b.aborted t))
branch_unfinished e (Reenlisted f) h o n k = has_kept (is_done_branch e) _ (λ b. refl) (branches h) ∙ k
branch_unfinished e _ h o n k = k

row_unfinished : (e : ℕ) (x : Entry) (h : List Entry) → is_not_own e x ≡ true → has (is_out_row e) (rows h) ≡ false → has (is_out_row e) (rows (x ∷ h)) ≡ false
row_unfinished e (Enlisted f c) h o k =
    has-insert (is_out_row e) number_of (fresh_row f c (marks (rows h))) (rows h)
    ∙ or_false (is_of e (fresh_row f c (marks (rows h))) && false) (has (is_out_row e) (rows h)) (and_never (is_of e (fresh_row f c (marks (rows h))))) k
row_unfinished e (Asked f Prepare) h o k =
    has_kept (is_out_row e) (mark_in f.value (marks (rows h))) (λ x. if_kept (is_out_row e) (is_of f.value x) (mark_row (marks (rows h)) x) x refl) (rows h) ∙ k
row_unfinished e (Voted f v) h o k = mapped_less (is_out_row e) (vote_in f.value v) (λ x t. by x (is_of f.value x) refl t) (rows h) k
  where
    by : (x : Row) (b : Bool) → is_of f.value x ≡ b → is_out_row e (if b then vote_row v x else x) ≡ true → is_out_row e x ≡ true
    by x false q t = t
    by x true q t =
        let P : ℕ → Type 0 = λ m. (e == m) ≡ true in
        absurd (not_both (e == f.value) (subst P (sym (eqb-true f.value x.number.value q)) (and_left (is_of e x) (not (still_hears (vote_row v x).vote)) t)) (not_true (e == f.value) o))
row_unfinished e _ h o k = k

pub unfinished_more : (e : ℕ) (x : Entry) (h : List Entry) → is_not_own e x ≡ true → is_told e x ≡ false → is_finished e h ≡ false → is_finished e (x ∷ h) ≡ false
unfinished_more e x h o n k =
    or_false (has (is_done_branch e) (branches (x ∷ h))) (has (is_out_row e) (rows (x ∷ h)))
    (branch_unfinished e x h o n (or_first (has (is_done_branch e) (branches h)) (has (is_out_row e) (rows h)) k))
    (row_unfinished e x h o (or_second (has (is_done_branch e) (branches h)) (has (is_out_row e) (rows h)) k))

-- Who is finished stays so. A branch that is finished is of one whose own connection was opened, so its ENLIST isn't sent again.
done_opened : (e : EnlNo) (h : List Entry) (bs : List Branch) → each (is_managed_branch h) bs ≡ true → has (is_done_branch e.value) bs ≡ true → has (opens (Enl e)) h ≡ true
done_opened e h [] m t = absurd cc
done_opened e h (b ∷ bs) m t =
    or_case (is_done_branch e.value b) (has (is_done_branch e.value) bs)
    (λ s. let P : ℕ → Type 0 = λ n. has (is_enlist_by n b.manager.value) h ≡ true in
    has_more (is_enlist_by e.value b.manager.value) (opens (Enl e)) (enlist_opens e b.manager.value) h
    (subst P (sym (eqb-true e.value b.enlistment.value (and_left (is_branch e.value b) (b.acked || b.aborted) s))) (and_left (is_managed_branch h b) (each (is_managed_branch h) bs) m)))
    (λ s. done_opened e h bs (and_right (is_managed_branch h b) (each (is_managed_branch h) bs) m) s) t

other_branch : (e f : EnlNo) (b : Branch) → (e.value == f.value) ≡ false → is_branch e.value b ≡ true → is_branch f.value b ≡ false
other_branch e f b n s =
    false_from_ne_true (is_branch f.value b)
    (λ q. let P : ℕ → Type 0 = λ m. (e.value == m) ≡ true in not_both (e.value == f.value) (subst P (sym (eqb-true f.value b.enlistment.value q)) s) n)

branch_finished : (e : EnlNo) (x : Entry) (h : List Entry) → Keeps (x ∷ h) → has (is_done_branch e.value) (branches h) ≡ true → has (is_done_branch e.value) (branches (x ∷ h)) ≡ true
branch_finished e (Sent (Enl f) Up (EnlistEnlist i)) h k t =
    let new : Branch = record { enlistment = f; manager = i.rm; enlisted = false; aborted = false; acked = false; due = None } in
    let once = unopened_again e (Sent (Enl f) Up (EnlistEnlist i)) h k (done_opened e h (branches h) (branches_managed h) t) in
    let other = false_from_ne_true (e.value == f.value) (λ q. not_both ((e.value == f.value) && true) (and_both (e.value == f.value) true q refl) once) in
    has-insert (is_done_branch e.value) branch_number new (filter (λ b. not (is_branch f.value b)) (branches h))
    ∙ or_right (is_done_branch e.value new) (has (is_done_branch e.value) (filter (λ b. not (is_branch f.value b)) (branches h)))
    (has_filter (is_done_branch e.value) (λ b. not (is_branch f.value b)) (branches h)
    ∙ has_more (is_done_branch e.value) (λ b. is_done_branch e.value b && not (is_branch f.value b))
    (λ b s. and_both (is_done_branch e.value b) (not (is_branch f.value b)) s (not_false (is_branch f.value b) (other_branch e f b other (and_left (is_branch e.value b) (b.acked || b.aborted) s)))) (branches h) t)
branch_finished e (Got (Enl f) Down EnlistEnlisted) h k t = has_made (is_done_branch e.value) (is_done_branch e.value) _ (λ b s. s) (branches h) t
branch_finished e (Got (Enl f) Down EnlistCommit) h k t = has_made (is_done_branch e.value) (is_done_branch e.value) _ (λ b s. s) (branches h) t
branch_finished e (Got (Again f) Down ReenlistCommitted) h k t = has_made (is_done_branch e.value) (is_done_branch e.value) _ (λ b s. s) (branches h) t
branch_finished e (Told (Member f) Aborted) h k t = has_made (is_done_branch e.value) (is_done_branch e.value) (branch_aborted f.value) (λ b s. by (is_branch e.value b) b.acked (is_branch f.value b) b.aborted s) (branches h) t
  where
    by : (i a q c : Bool) → (i && (a || c)) ≡ true → (i && (a || (q || c))) ≡ true
    by true true q c s = refl
    by true false true c s = refl
    by true false false c s = s
    by false a q c s = absurd cc
branch_finished e (Acked f) h k t = has_made (is_done_branch e.value) (is_done_branch e.value) (branch_acked f.value) (λ b s. by (is_branch e.value b) b.acked (is_branch f.value b) b.aborted s) (branches h) t
  where
    by : (i a q c : Bool) → (i && (a || c)) ≡ true → (i && ((q || a) || c)) ≡ true
    by true a true c s = refl
    by true a false c s = s
    by false a q c s = absurd cc
branch_finished e (Reenlisted f) h k t = has_made (is_done_branch e.value) (is_done_branch e.value) _ (λ b s. s) (branches h) t
branch_finished e _ h k t = t

row_finished : (e : ℕ) (x : Entry) (h : List Entry) → has (is_out_row e) (rows h) ≡ true → has (is_out_row e) (rows (x ∷ h)) ≡ true
row_finished e (Enlisted f c) h t =
    has-insert (is_out_row e) number_of (fresh_row f c (marks (rows h))) (rows h) ∙ or_right (is_out_row e (fresh_row f c (marks (rows h)))) (has (is_out_row e) (rows h)) t
row_finished e (Asked f Prepare) h t =
    has_kept (is_out_row e) (mark_in f.value (marks (rows h))) (λ x. if_kept (is_out_row e) (is_of f.value x) (mark_row (marks (rows h)) x) x refl) (rows h) ∙ t
row_finished e (Voted f v) h t = has_made (is_out_row e) (is_out_row e) (vote_in f.value v) (λ x s. by x (is_of f.value x) s) (rows h) t
  where
    stays : (i : Bool) (o : Option Vote) → (i && not (still_hears o)) ≡ true → (i && not (still_hears (unless_there o v))) ≡ true
    stays i (Some w) s = s
    stays true None s = absurd cc
    stays false None s = absurd cc

    by : (x : Row) (b : Bool) → is_out_row e x ≡ true → is_out_row e (if b then vote_row v x else x) ≡ true
    by x true s = stays (is_of e x) x.vote s
    by x false s = s
row_finished e _ h t = t

pub finished_more : (e : EnlNo) (x : Entry) (h : List Entry) → Keeps (x ∷ h) → is_finished e.value h ≡ true → is_finished e.value (x ∷ h) ≡ true
finished_more e x h k t =
    or_case (has (is_done_branch e.value) (branches h)) (has (is_out_row e.value) (rows h))
    (λ a. or_left (has (is_done_branch e.value) (branches (x ∷ h))) (has (is_out_row e.value) (rows (x ∷ h))) (branch_finished e x h k a))
    (λ a. or_right (has (is_done_branch e.value) (branches (x ∷ h))) (has (is_out_row e.value) (rows (x ∷ h))) (row_finished e.value x h a)) t

-- Who voted done is.
done_finished : (f : EnlNo) (h : List Entry) → Keeps (Voted f Done ∷ h) → is_finished f.value (Voted f Done ∷ h) ≡ true
done_finished f h k =
    let r = newest (Voted f Done) h k in
    let stands : has (is_of f.value) (rows h) ≡ true = enlisted_in_rows f.value h ∙ voted_enlisted f Done h r in
    let unvoted : voted f.value (rows h) ≡ false = vote_seen h f.value (keeps_before (Voted f Done) h k) stands ∙ voted_once f Done h r in
    or_right (has (is_done_branch f.value) (branches h)) (has (is_out_row f.value) (rows (Voted f Done ∷ h))) (out (rows h) stands unvoted)
  where
    out : (xs : List Row) → has (is_of f.value) xs ≡ true → voted f.value xs ≡ false → has (is_out_row f.value) (map (vote_in f.value Done) xs) ≡ true
    out [] s u = absurd cc
    out (x ∷ xs) s u = step (out xs) (is_of f.value x) refl s u
      where
        voteless : (o : Option Vote) → is_some o ≡ false → not (still_hears (unless_there o Done)) ≡ true
        voteless None u = refl
        voteless (Some v) u = absurd cc

        step : (has (is_of f.value) xs ≡ true → voted f.value xs ≡ false → has (is_out_row f.value) (map (vote_in f.value Done) xs) ≡ true) → (b : Bool) → is_of f.value x ≡ b → (b || has (is_of f.value) xs) ≡ true → ((b && has_voted x) || voted f.value xs) ≡ false
            → (is_out_row f.value (if b then vote_row Done x else x) || has (is_out_row f.value) (map (vote_in f.value Done) xs)) ≡ true
        step ih true q s u =
            or_left (is_out_row f.value (vote_row Done x)) (has (is_out_row f.value) (map (vote_in f.value Done) xs))
            (and_both (is_of f.value x) (not (still_hears (unless_there x.vote Done))) q (voteless x.vote (or_first (has_voted x) (voted f.value xs) u)))
        step ih false q s u = or_right (is_out_row f.value x) (has (is_out_row f.value) (map (vote_in f.value Done) xs)) (ih s u)

cast_finished : (e : EnlNo) (h : List Entry) → Keeps h → has (is_cast (Enl e) Done) h ≡ true → is_finished e.value h ≡ true
cast_finished e [] k t = absurd cc
cast_finished e (Voted f Done ∷ h) k t =
    or_case ((e.value == f.value) && true) (has (is_cast (Enl e) Done) h)
    (λ q. let P : ℕ → Type 0 = λ n. is_finished n (Voted f Done ∷ h) ≡ true in subst P (sym (eqb-true e.value f.value (and_left (e.value == f.value) true q))) (done_finished f h k))
    (λ q. finished_more e (Voted f Done) h k (cast_finished e h (keeps_before (Voted f Done) h k) q)) t
cast_finished e (Voted f v ∷ h) k t =
    or_case ((e.value == f.value) && false) (has (is_cast (Enl e) Done) h) (λ q. absurd (not_both ((e.value == f.value) && false) q (and_never (e.value == f.value))))
    (λ q. finished_more e (Voted f v) h k (cast_finished e h (keeps_before (Voted f v) h k) q)) t
cast_finished e (x ∷ h) k t = finished_more e x h k (cast_finished e h (keeps_before x h k) t)

-- whose connection was opened has a branch
enlist_is : (e : EnlNo) (x : Entry) → opens (Enl e) x ≡ true → (f : EnlNo) × (i : Info) × (x ≡ Sent (Enl f) Up (EnlistEnlist i)) × ((e.value == f.value) ≡ true)
enlist_is e (Sent c Up m) t = by c m (and_left (same_connection (Enl e) c) (is_opening c m) t) (and_right (same_connection (Enl e) c) (is_opening c m) t)
  where
    by : (c : Conn) (m : Message) → same_connection (Enl e) c ≡ true → is_opening c m ≡ true → (f : EnlNo) × (i : Info) × (Sent c Up m ≡ Sent (Enl f) Up (EnlistEnlist i)) × ((e.value == f.value) ≡ true)
    by (Enl f) (EnlistEnlist i) s o = (f, i, refl, s)
    by (Enl f) _ s o = absurd cc
    by Begin m s o = absurd cc
    by Voter m s o = absurd cc
    by (Again f) m s o = absurd cc
enlist_is e (Sent c Down m) t = absurd cc
enlist_is e _ t = absurd cc

branch_new : (e f : EnlNo) (i : Info) (h : List Entry) → (e.value == f.value) ≡ true → has (is_branch e.value) (branches (Sent (Enl f) Up (EnlistEnlist i) ∷ h)) ≡ true
branch_new e f i h q =
    let new : Branch = record { enlistment = f; manager = i.rm; enlisted = false; aborted = false; acked = false; due = None } in
    has-insert (is_branch e.value) branch_number new (filter (λ b. not (is_branch f.value b)) (branches h))
    ∙ or_left (is_branch e.value new) (has (is_branch e.value) (filter (λ b. not (is_branch f.value b)) (branches h))) q

branch_stays : (e : EnlNo) (x : Entry) (h : List Entry) → opens (Enl e) x ≡ false → has (is_branch e.value) (branches h) ≡ true → has (is_branch e.value) (branches (x ∷ h)) ≡ true
branch_stays e (Sent (Enl f) Up (EnlistEnlist i)) h n t =
    let new : Branch = record { enlistment = f; manager = i.rm; enlisted = false; aborted = false; acked = false; due = None } in
    has-insert (is_branch e.value) branch_number new (filter (λ b. not (is_branch f.value b)) (branches h))
    ∙ or_right (is_branch e.value new) (has (is_branch e.value) (filter (λ b. not (is_branch f.value b)) (branches h)))
    (has_filter (is_branch e.value) (λ b. not (is_branch f.value b)) (branches h)
    ∙ has_more (is_branch e.value) (λ b. is_branch e.value b && not (is_branch f.value b)) (λ b s. and_both (is_branch e.value b) (not (is_branch f.value b)) s (not_false (is_branch f.value b) (apart b s (is_branch f.value b) refl))) (branches h) t)
  where
    apart : (b : Branch) → is_branch e.value b ≡ true → (c : Bool) → is_branch f.value b ≡ c → c ≡ false
    apart b s false q = refl
    apart b s true q =
        let P : ℕ → Type 0 = λ n. (e.value == n) ≡ true in
        absurd (not_both ((e.value == f.value) && true) (and_both (e.value == f.value) true (subst P (sym (eqb-true f.value b.enlistment.value q)) s) refl) n)
branch_stays e (Got (Enl f) Down EnlistEnlisted) h n t = has_made (is_branch e.value) (is_branch e.value) _ (λ b s. s) (branches h) t
branch_stays e (Got (Enl f) Down EnlistCommit) h n t = has_made (is_branch e.value) (is_branch e.value) _ (λ b s. s) (branches h) t
branch_stays e (Got (Again f) Down ReenlistCommitted) h n t = has_made (is_branch e.value) (is_branch e.value) _ (λ b s. s) (branches h) t
branch_stays e (Told (Member f) Aborted) h n t = has_made (is_branch e.value) (is_branch e.value) _ (λ b s. s) (branches h) t
branch_stays e (Acked f) h n t = has_made (is_branch e.value) (is_branch e.value) _ (λ b s. s) (branches h) t
branch_stays e (Reenlisted f) h n t = has_made (is_branch e.value) (is_branch e.value) _ (λ b s. s) (branches h) t
branch_stays e _ h n t = t

pub opened_branch : (e : EnlNo) (h : List Entry) → has (opens (Enl e)) h ≡ true → has (is_branch e.value) (branches h) ≡ true
opened_branch e [] t = absurd cc
opened_branch e (x ∷ h) t = by (opened_branch e h) (opens (Enl e) x) refl t
  where
    by : (has (opens (Enl e)) h ≡ true → has (is_branch e.value) (branches h) ≡ true) → (b : Bool) → opens (Enl e) x ≡ b → (b || has (opens (Enl e)) h) ≡ true → has (is_branch e.value) (branches (x ∷ h)) ≡ true
    by ih true q t =
        let w = enlist_is e x q in
        let P : Entry → Type 0 = λ y. has (is_branch e.value) (branches (y ∷ h)) ≡ true in
        subst P (sym w.2) (branch_new e w.0 w.1 h w.3)
    by ih false q t = branch_stays e x h q (ih t)

-- Who acknowledged is.
acked_finished : (e : EnlNo) (h : List Entry) → has (opens (Enl e)) h ≡ true → ends_with (is_acked_by e.value) h ≡ true → is_finished e.value h ≡ true
acked_finished e [] o t = absurd cc
acked_finished e (Acked f ∷ h) o t =
    or_left (has (is_done_branch e.value) (branches (Acked f ∷ h))) (has (is_out_row e.value) (rows h))
    (has_made (is_branch e.value) (is_done_branch e.value) (branch_acked f.value) (λ b s. and_both (is_branch e.value b) ((is_branch f.value b || b.acked) || b.aborted) s (mark b s)) (branches h) (opened_branch e h o))
  where
    mark : (b : Branch) → is_branch e.value b ≡ true → ((is_branch f.value b || b.acked) || b.aborted) ≡ true
    mark b s =
        let P : ℕ → Type 0 = λ n. (n == b.enlistment.value) ≡ true in
        or_left (is_branch f.value b || b.acked) b.aborted (or_left (is_branch f.value b) b.acked (subst P (eqb-true e.value f.value t) s))
acked_finished e (x ∷ h) o t = absurd cc

-- a message that says so: READONLY, or an acknowledgement
abbrev pub is_last : Message → Bool
is_last EnlistReadonly = true
is_last EnlistAck = true
is_last ReenlistAck = true
is_last _ = false

abbrev pub is_last_of : ℕ → Entry → Bool
is_last_of e (Sent (Enl f) Up m) = (e == f.value) && is_last m
is_last_of e (Sent (Again f) Up m) = (e == f.value) && is_last m
is_last_of e _ = false

last_row : (e f : EnlNo) (m : Message) (h : List Entry) → Keeps h → (e.value == f.value) ≡ true → is_last m ≡ true → message_row h (Enl f) m ≡ true → is_finished e.value h ≡ true
last_row e f EnlistReadonly h k q l r = let P : EnlNo → Type 0 = λ g. has (is_cast (Enl g) Done) h ≡ true in cast_finished e h k (subst P (sym (same_enlistment e f (eqb-true e.value f.value q))) r)
last_row e f EnlistAck h k q l r =
    let P : EnlNo → Type 0 = λ g. (ends_with (is_acked_by g.value) h && has (opens (Enl g)) h) ≡ true in
    let own = subst P (sym (same_enlistment e f (eqb-true e.value f.value q))) r in
    acked_finished e h (and_right (ends_with (is_acked_by e.value) h) (has (opens (Enl e)) h) own) (and_left (ends_with (is_acked_by e.value) h) (has (opens (Enl e)) h) own)
last_row e f ReenlistAck h k q l r =
    let P : EnlNo → Type 0 = λ g. (ends_with (is_acked_by g.value) h && has (opens (Enl g)) h) ≡ true in
    let own = subst P (sym (same_enlistment e f (eqb-true e.value f.value q))) r in
    acked_finished e h (and_right (ends_with (is_acked_by e.value) h) (has (opens (Enl e)) h) own) (and_left (ends_with (is_acked_by e.value) h) (has (opens (Enl e)) h) own)
last_row e f _ h k q l r = absurd cc

again_row : (e f : EnlNo) (m : Message) (h : List Entry) → Keeps (Sent (Again f) Up m ∷ h) → (e.value == f.value) ≡ true → is_last m ≡ true → is_finished e.value h ≡ true
again_row e f ReenlistAck h k q l = last_row e f ReenlistAck h (keeps_before (Sent (Again f) Up ReenlistAck) h k) q refl (row_of (Again f) Up ReenlistAck h (newest (Sent (Again f) Up ReenlistAck) h k))
again_row e f EnlistReadonly h k q l = absurd (lineless (newest (Sent (Again f) Up EnlistReadonly) h k))
  where
    lineless : rule h (Sent (Again f) Up EnlistReadonly) ≡ true → ⊥
    lineless r = absurd cc
again_row e f EnlistAck h k q l = absurd (lineless (newest (Sent (Again f) Up EnlistAck) h k))
  where
    lineless : rule h (Sent (Again f) Up EnlistAck) ≡ true → ⊥
    lineless r = absurd cc
again_row e f _ h k q l = absurd cc

last_now : (e : EnlNo) (x : Entry) (h : List Entry) → Keeps (x ∷ h) → is_last_of e.value x ≡ true → is_finished e.value h ≡ true
last_now e (Sent (Enl f) Up m) h k t =
    last_row e f m h (keeps_before (Sent (Enl f) Up m) h k) (and_left (e.value == f.value) (is_last m) t) (and_right (e.value == f.value) (is_last m) t) (row_of (Enl f) Up m h (newest (Sent (Enl f) Up m) h k))
last_now e (Sent (Again f) Up m) h k t = again_row e f m h k (and_left (e.value == f.value) (is_last m) t) (and_right (e.value == f.value) (is_last m) t)
last_now e _ h k t = absurd cc

-- so who sent one is finished
pub last_finished : (e : EnlNo) (h : List Entry) → Keeps h → has (is_last_of e.value) h ≡ true → is_finished e.value h ≡ true
last_finished e [] k t = absurd cc
last_finished e (x ∷ h) k t =
    finished_more e x h k (or_case (is_last_of e.value x) (has (is_last_of e.value) h) (λ a. last_now e x h k a) (λ a. last_finished e h (keeps_before x h k) a) t)

own_last : (e : EnlNo) (x : Entry) → is_sent_on (Enl e) Up is_last x ≡ true → is_last_of e.value x ≡ true
own_last e (Sent c d m) t =
    let both = and_left (same_connection (Enl e) c && same_direction Up d) (is_last m) t in
    by c d (and_left (same_connection (Enl e) c) (same_direction Up d) both) (and_right (same_connection (Enl e) c) (same_direction Up d) both) (and_right (same_connection (Enl e) c && same_direction Up d) (is_last m) t)
  where
    by : (c : Conn) (d : Dir) → same_connection (Enl e) c ≡ true → same_direction Up d ≡ true → is_last m ≡ true → is_last_of e.value (Sent c d m) ≡ true
    by (Enl f) Up s w l = and_both (e.value == f.value) (is_last m) s l
    by (Enl f) Down s w l = absurd cc
    by Begin d s w l = absurd cc
    by Voter d s w l = absurd cc
    by (Again f) d s w l = absurd cc
own_last e _ t = absurd cc

again_last : (e : EnlNo) (x : Entry) → is_sent_on (Again e) Up is_last x ≡ true → is_last_of e.value x ≡ true
again_last e (Sent c d m) t =
    let both = and_left (same_connection (Again e) c && same_direction Up d) (is_last m) t in
    by c d (and_left (same_connection (Again e) c) (same_direction Up d) both) (and_right (same_connection (Again e) c) (same_direction Up d) both) (and_right (same_connection (Again e) c && same_direction Up d) (is_last m) t)
  where
    by : (c : Conn) (d : Dir) → same_connection (Again e) c ≡ true → same_direction Up d ≡ true → is_last m ≡ true → is_last_of e.value (Sent c d m) ≡ true
    by (Again f) Up s w l = and_both (e.value == f.value) (is_last m) s l
    by (Again f) Down s w l = absurd cc
    by Begin d s w l = absurd cc
    by Voter d s w l = absurd cc
    by (Enl f) d s w l = absurd cc
again_last e _ t = absurd cc

pub own_finished : (f : EnlNo) (m : Message) (h : List Entry) → Keeps (Got (Enl f) Up m ∷ h) → is_last m ≡ true → is_finished f.value h ≡ true
own_finished f m h k l =
    last_finished f h (keeps_before (Got (Enl f) Up m) h k) (has_more (is_sent_on (Enl f) Up is_last) (is_last_of f.value) (own_last f) h (got_sent (Enl f) Up m is_last h k.wires.0 l))

pub again_finished : (f : EnlNo) (m : Message) (h : List Entry) → Keeps (Got (Again f) Up m ∷ h) → is_last m ≡ true → is_finished f.value h ≡ true
again_finished f m h k l =
    last_finished f h (keeps_before (Got (Again f) Up m) h k) (has_more (is_sent_on (Again f) Up is_last) (is_last_of f.value) (again_last f) h (got_sent (Again f) Up m is_last h k.wires.0 l))

-- The desks at the coordinator: whose enlistment acknowledged, or said READONLY, is finished.
abbrev pub is_read_only : Option Ballot → Bool
is_read_only (Some ReadOnly) = true
is_read_only _ = false

abbrev pub is_done_desk : List Entry → Desk → Bool
is_done_desk h d = not (d.acked || is_read_only d.ballot) || is_finished d.enlistment.value h

implied_more : (a p q : Bool) → (p ≡ true → q ≡ true) → (not a || p) ≡ true → (not a || q) ≡ true
implied_more true p q f t = f t
implied_more false p q f t = refl

desk_more : (x : Entry) (h : List Entry) → Keeps (x ∷ h) → (d : Desk) → is_done_desk h d ≡ true → is_done_desk (x ∷ h) d ≡ true
desk_more x h k d t = implied_more (d.acked || is_read_only d.ballot) (is_finished d.enlistment.value h) (is_finished d.enlistment.value (x ∷ h)) (λ a. finished_more d.enlistment x h k a) t

desk_acked : (x : Entry) (f : EnlNo) (h : List Entry) → Keeps (x ∷ h) → is_finished f.value h ≡ true → (d : Desk) → is_done_desk h d ≡ true → is_done_desk (x ∷ h) (with_ack f.value d) ≡ true
desk_acked x f h k u d t = by (is_desk_of f.value d) refl
  where
    by : (b : Bool) → is_desk_of f.value d ≡ b → (not ((b || d.acked) || is_read_only d.ballot) || is_finished d.enlistment.value (x ∷ h)) ≡ true
    by false q = desk_more x h k d t
    by true q =
        let P : ℕ → Type 0 = λ n. is_finished n h ≡ true in
        finished_more d.enlistment x h k (subst P (eqb-true f.value d.enlistment.value q) u)

desk_balloted : (f : EnlNo) (m : Message) (h : List Entry) → Keeps (Got (Enl f) Up m ∷ h) → (o : Option Ballot) → (is_read_only o ≡ true → is_last m ≡ true) → (d : Desk) → is_done_desk h d ≡ true
    → is_done_desk (Got (Enl f) Up m ∷ h) (with_ballot f.value o d) ≡ true
desk_balloted f m h k None l d t = desk_more (Got (Enl f) Up m) h k d t
desk_balloted f m h k (Some b) l d t = by (is_desk_of f.value d) refl
  where
    cast : (a r p : Bool) → (r ≡ true → p ≡ true) → (a ≡ true → p ≡ true) → (not (a || r) || p) ≡ true
    cast true r p u v = v refl
    cast false true p u v = u refl
    cast false false p u v = refl

    before : d.acked ≡ true → is_finished d.enlistment.value h ≡ true
    before a = step d.acked (is_read_only d.ballot) (is_finished d.enlistment.value h) a t
      where
        step : (a r p : Bool) → a ≡ true → (not (a || r) || p) ≡ true → p ≡ true
        step true r p q s = s
        step false r p q s = absurd cc

    by : (c : Bool) → is_desk_of f.value d ≡ c → is_done_desk (Got (Enl f) Up m ∷ h) (if c then record { enlistment = d.enlistment; manager = d.manager; ballot = Some b; acked = d.acked } else d) ≡ true
    by false q = desk_more (Got (Enl f) Up m) h k d t
    by true q =
        let P : ℕ → Type 0 = λ n. is_finished n h ≡ true in
        cast d.acked (is_read_only (Some b)) (is_finished d.enlistment.value (Got (Enl f) Up m ∷ h))
        (λ r. finished_more d.enlistment (Got (Enl f) Up m) h k (subst P (eqb-true f.value d.enlistment.value q) (own_finished f m h k (l r))))
        (λ a. finished_more d.enlistment (Got (Enl f) Up m) h k (before a))

read_only_last : (m : Message) → is_read_only (ballot_of m) ≡ true → is_last m ≡ true
read_only_last EnlistReadonly t = refl
read_only_last _ t = absurd cc

pub desks_done : (h : List Entry) → Keeps h → each (is_done_desk h) (coordinate h).desks ≡ true
unfolding coordinate follow
desks_done [] k = refl
desks_done (Got (Enl f) Up (EnlistEnlist i) ∷ h) k =
    let x = Got (Enl f) Up (EnlistEnlist i) in
    let new : Desk = record { enlistment = f; manager = i.rm; ballot = None; acked = false } in
    let rest = each_more (is_done_desk h) (is_done_desk (x ∷ h)) (desk_more x h k) (coordinate h).desks (desks_done h (keeps_before x h k)) in
    each_if (is_done_desk (x ∷ h)) (accepts (coordinate h)) _ (coordinate h).desks
    (each-insert (is_done_desk (x ∷ h)) desk_number new (coordinate h).desks ∙ and_both true (each (is_done_desk (x ∷ h)) (coordinate h).desks) refl rest) rest
desks_done (Got (Enl f) Up EnlistAck ∷ h) k =
    let x = Got (Enl f) Up EnlistAck in
    changed (is_done_desk h) (is_done_desk (x ∷ h)) (with_ack f.value) (desk_acked x f h k (own_finished f EnlistAck h k refl)) (coordinate h).desks (desks_done h (keeps_before x h k))
desks_done (Got (Again f) Up ReenlistAck ∷ h) k =
    let x = Got (Again f) Up ReenlistAck in
    changed (is_done_desk h) (is_done_desk (x ∷ h)) (with_ack f.value) (desk_acked x f h k (again_finished f ReenlistAck h k refl)) (coordinate h).desks (desks_done h (keeps_before x h k))
desks_done (Got (Enl f) Up EnlistOneAborted ∷ h) k =
    let x = Got (Enl f) Up EnlistOneAborted in
    let past = desks_done h (keeps_before x h k) in
    each_if (is_done_desk (x ∷ h)) (hears_one (coordinate h) f.value) (map (with_ballot f.value (Some Refused)) (coordinate h).desks) (coordinate h).desks
    (changed (is_done_desk h) (is_done_desk (x ∷ h)) (with_ballot f.value (Some Refused)) (desk_balloted f EnlistOneAborted h k (Some Refused) (λ t. absurd cc)) (coordinate h).desks past)
    (each_more (is_done_desk h) (is_done_desk (x ∷ h)) (desk_more x h k) (coordinate h).desks past)
desks_done (Got (Enl f) Up m ∷ h) k =
    let x = Got (Enl f) Up m in
    let past = desks_done h (keeps_before x h k) in
    each_if (is_done_desk (x ∷ h)) (is_active (coordinate h).stage) (map (with_ballot f.value (ballot_of m)) (coordinate h).desks) (coordinate h).desks
    (changed (is_done_desk h) (is_done_desk (x ∷ h)) (with_ballot f.value (ballot_of m)) (desk_balloted f m h k (ballot_of m) (read_only_last m)) (coordinate h).desks past)
    (each_more (is_done_desk h) (is_done_desk (x ∷ h)) (desk_more x h k) (coordinate h).desks past)
desks_done (Restarted true ∷ h) k =
    let x = Restarted true in
    changed (is_done_desk h) (is_done_desk (x ∷ h)) unacked (λ d t. desk_more x h k (unacked d) (bare d.acked (is_read_only d.ballot) (is_finished d.enlistment.value h) t)) (filter (λ d. is_prepared d.ballot) (coordinate h).desks)
    (kept_some (is_done_desk h) (λ d. is_prepared d.ballot) (coordinate h).desks (desks_done h (keeps_before x h k)))
  where
    bare : (a r p : Bool) → (not (a || r) || p) ≡ true → (not (false || r) || p) ≡ true
    bare true true p t = t
    bare true false p t = refl
    bare false r p t = t
desks_done (Restarted false ∷ h) k = refl
desks_done (x ∷ h) k = each_more (is_done_desk h) (is_done_desk (x ∷ h)) (desk_more x h k) (coordinate h).desks (desks_done h (keeps_before x h k))
