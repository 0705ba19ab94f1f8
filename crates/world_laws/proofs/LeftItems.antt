-- What is left at the local side, where an entry is of one of its rows, listeners, branches and calls that wait.
use Rattle.std.proofs.Common.{◌≡◌, ℕ, suc, ◌+◌, ◌<◌, ◌≤◌, ◌==◌, Bool, true, false, ◌&&◌, ◌||◌, not, List, [], ◌∷◌, map, filter, Some, None, is_some, if◌then◌else◌, refl, sym, subst, ap, ◌∙◌, arith}
use Rattle.std.proofs.lemmas.Bool.{eqb-true}
use Rattle.dtx_values.specs.declared.entry.Ask.TheVariants.{Prepare}
use Rattle.dtx_values.specs.declared.entry.Answer.{Answer}
use Rattle.dtx_values.specs.declared.entry.Entry.{Entry}
use Rattle.dtx_values.specs.declared.entry.Entry.TheVariants.{Answered, Enlisted, Asked, Voted, Told, Sent, Got, Reenlisted, Acked}
use Rattle.dtx_values.specs.declared.entry.Party.TheVariants.{Enl as Member}
use Rattle.dtx_values.specs.declared.message.Conn.{Conn}
use Rattle.dtx_values.specs.declared.message.Conn.TheVariants.{Begin, Voter, Enl, Again}
use Rattle.dtx_values.specs.declared.message.Dir.{Dir}
use Rattle.dtx_values.specs.declared.message.Dir.TheVariants.{Up, Down}
use Rattle.dtx_values.specs.declared.message.Message.{Message}
use Rattle.dtx_values.specs.declared.message.Message.TheVariants.{EnlistEnlist, EnlistEnlisted, EnlistCommit, ReenlistCommitted}
use Rattle.dtx_values.specs.declared.number.EnlNo.{EnlNo}
use Rattle.dtx_values.specs.declared.row.Row.{Row}
use Rattle.dtx_values.specs.declared.words.Class.{Class}
use Rattle.dtx_values.specs.declared.words.Outcome.{Outcome}
use Rattle.dtx_values.specs.declared.words.Outcome.TheVariants.{Committed, Aborted, InDoubt}
use Rattle.dtx_values.specs.declared.words.Vote.{Vote}
use Rattle.dtx_values.specs.Row.{fresh_row, is_of, mark_in, number_of, vote_in}
use Rattle.dtx_values.specs.Table.{how_many, insert_by, marks}
use Rattle.local_half.specs.Half.{owes_ack}
use Rattle.dtx_model.specs.declared.branch.Branch.{Branch}
use Rattle.dtx_model.specs.declared.listener.Listener.{Listener}
use Rattle.dtx_model.specs.declared.waiting.EnteredCall.{EnteredCall}
use Rattle.dtx_model.specs.Half.{half_of}
use Rattle.dtx_model.specs.Observed.{branch_aborted, branch_acked, branch_due, branch_enlisted, branch_number, branches, due_in, hear, is_branch, listener_number, listeners, observe, rows}
use Rattle.dtx_model.specs.Waiting.{Waiter, is_place, waiting}
use Rattle.dtx_model.specs.Words.{has}
use Rattle.dtx_model.proofs.Bools.{and_both, and_left, and_right, not_true}
use Rattle.dtx_model.proofs.Counts.{how_many-insert_by, how_many-map}
use Rattle.history_table.proofs.Scans.{has_more}
use Rattle.history_table.proofs.TableRows.{there}
use Rattle.world_laws.specs.Left.{half_left, places_left, unmarked, untold, unvoted}
use Rattle.world_laws.proofs.LeftSums.{how_many-filter, how_many-none}
use Rattle.world_laws.proofs.LeftCounts.{falls, how_many-map-le, how_many-map-lt}
use Rattle.world_laws.proofs.LeftHalf.{ack_keeps, aborted-acks, cast_keeps_unmarked, cast_keeps_unvoted, hear_keeps, mark_keeps_unmarked, mark_keeps_unvoted}

no : false ≡ true → ⊥
no e = absurd cc

mark_falls : (e n : ℕ) (x : Row) → (is_of e x && unmarked x) ≡ true → falls unmarked (mark_in e n) x ≡ true
mark_falls e n x k =
    let here : is_of e x ≡ true = and_left (is_of e x) (unmarked x) k in
    rw (here, there x.asked n) (and_both (unmarked x) true (and_right (is_of e x) (unmarked x) k) refl)

cast_falls : (e : ℕ) (v : Vote) (x : Row) → (is_of e x && unvoted x) ≡ true → falls unvoted (vote_in e v) x ≡ true
cast_falls e v x k =
    let here : is_of e x ≡ true = and_left (is_of e x) (unvoted x) k in
    rw (here, there x.vote v) (and_both (unvoted x) true (and_right (is_of e x) (unvoted x) k) refl)

hear_falls : (e : ℕ) (l : Listener) → ((e == l.enlistment.value) && untold l) ≡ true → falls untold (hear e) l ≡ true
hear_falls e l k =
    let here = and_left (e == l.enlistment.value) (untold l) k in
    rw here (and_both (untold l) true (and_right (e == l.enlistment.value) (untold l) k) refl)

ack_falls : (e : ℕ) (b : Branch) → (is_branch e b && owes_ack b) ≡ true → falls owes_ack (branch_acked e) b ≡ true
ack_falls e b k =
    let here = and_left (is_branch e b) (owes_ack b) k in
    rw here (and_both (owes_ack b) true (and_right (is_branch e b) (owes_ack b) k) refl)

-- an ask, a vote, a notification and an acknowledgement of one that lacked it
pub marked-less : (ks : List EnteredCall) (e : EnlNo) (h : List Entry) → has (λ x. is_of e.value x && unmarked x) (rows h) ≡ true → half_left (half_of ks (Asked e Prepare ∷ h)) + 1 ≤ half_left (half_of ks h)
unfolding observe
marked-less ks e h k =
    let n = marks (rows h) in
    let some = has_more (λ x. is_of e.value x && unmarked x) (falls unmarked (mark_in e.value n)) (λ x q. mark_falls e.value n x q) (rows h) k in
    let a = how_many-map-lt unmarked (mark_in e.value n) (mark_keeps_unmarked e.value n) (rows h) some in
    let v = how_many-map-le unvoted (mark_in e.value n) (mark_keeps_unvoted e.value n) (rows h) in omega arith

-- a vote of one that hasn't voted
pub voted-less : (ks : List EnteredCall) (e : EnlNo) (v : Vote) (h : List Entry) → has (λ x. is_of e.value x && unvoted x) (rows h) ≡ true → half_left (half_of ks (Voted e v ∷ h)) + 2 ≤ half_left (half_of ks h)
unfolding observe
voted-less ks e v h k =
    let some = has_more (λ x. is_of e.value x && unvoted x) (falls unvoted (vote_in e.value v)) (λ x q. cast_falls e.value v x q) (rows h) k in
    let a = how_many-map-le unmarked (vote_in e.value v) (cast_keeps_unmarked e.value v) (rows h) in
    let b = how_many-map-lt unvoted (vote_in e.value v) (cast_keeps_unvoted e.value v) (rows h) some in omega arith

-- a notification of one that wasn't told
pub told-less : (ks : List EnteredCall) (e : EnlNo) (x : Outcome) (h : List Entry) → has (λ l. (e.value == l.enlistment.value) && untold l) (listeners h) ≡ true
    → half_left (half_of ks (Told (Member e) x ∷ h)) + 1 ≤ half_left (half_of ks h)
unfolding observe
told-less ks e Aborted h k =
    let some = has_more (λ l. (e.value == l.enlistment.value) && untold l) (falls untold (hear e.value)) (λ l q. hear_falls e.value l q) (listeners h) k in
    let a = how_many-map-lt untold (hear e.value) (hear_keeps e.value) (listeners h) some in let b = aborted-acks e.value (branches h) in omega arith
told-less ks e Committed h k =
    let some = has_more (λ l. (e.value == l.enlistment.value) && untold l) (falls untold (hear e.value)) (λ l q. hear_falls e.value l q) (listeners h) k in
    let a = how_many-map-lt untold (hear e.value) (hear_keeps e.value) (listeners h) some in omega arith
told-less ks e InDoubt h k =
    let some = has_more (λ l. (e.value == l.enlistment.value) && untold l) (falls untold (hear e.value)) (λ l q. hear_falls e.value l q) (listeners h) k in
    let a = how_many-map-lt untold (hear e.value) (hear_keeps e.value) (listeners h) some in omega arith

-- an acknowledgement that is due
pub acked-less : (ks : List EnteredCall) (e : EnlNo) (h : List Entry) → has (λ b. is_branch e.value b && owes_ack b) (branches h) ≡ true → half_left (half_of ks (Acked e ∷ h)) + 2 ≤ half_left (half_of ks h)
unfolding observe
acked-less ks e h k =
    let some = has_more (λ b. is_branch e.value b && owes_ack b) (falls owes_ack (branch_acked e.value)) (λ b q. ack_falls e.value b q) (branches h) k in
    let a = how_many-map-lt owes_ack (branch_acked e.value) (ack_keeps e.value) (branches h) some in omega arith

-- a call that waits for a place is answered
less-place : (n : ℕ) (ws : List Waiter) → has (λ (w : Waiter). (n == w.0) && is_place w) ws ≡ true → how_many is_place (filter (λ (w : Waiter). not (n == w.0)) ws) < how_many is_place ws
less-place n [] k = absurd (no k)
less-place n (w ∷ ws) k = by (n == w.0) (is_place w) refl k (less-place n ws) (how_many-filter is_place (λ (w : Waiter). not (n == w.0)) ws)
  where
    rest : List Waiter
    rest = filter (λ (w : Waiter). not (n == w.0)) ws

    by : (a b : Bool) → is_place w ≡ b → ((a && b) || has (λ (w : Waiter). (n == w.0) && is_place w) ws) ≡ true
        → (has (λ (w : Waiter). (n == w.0) && is_place w) ws ≡ true → how_many is_place rest < how_many is_place ws) → how_many is_place rest ≤ how_many is_place ws
        → how_many is_place (if not a then w ∷ rest else rest) < (if b then suc (how_many is_place ws) else how_many is_place ws)
    by true true q k i l = omega arith
    by true false q k i l = i k
    by false true q k i l = let s = i k in rw q (omega arith)
    by false false q k i l = let s = i k in rw q s

-- the answer of a call that waits for a place
pub answered-less : (ks : List EnteredCall) (n : ℕ) (a : Answer) (h : List Entry) → has (λ (w : Waiter). (n == w.0) && is_place w) (waiting ks h) ≡ true
    → half_left (half_of ks (Answered n a ∷ h)) + 4 ≤ half_left (half_of ks h)
unfolding observe
answered-less ks n a h k =
    let s = less-place n (waiting ks h) k in
    let z = by (observe h).promoted (how_many is_place (filter (λ (w : Waiter). not (n == w.0)) (waiting ks h))) (how_many is_place (waiting ks h)) s in omega arith
  where
    by : (b : Bool) (n m : ℕ) → n < m → places_left b n + 4 ≤ places_left b m
    by true n m k = omega arith
    by false n m k = omega arith

-- an enlistment comes
pub enlisted-more : (ks : List EnteredCall) (e : EnlNo) (c : Class) (h : List Entry) → half_left (half_of ks (Enlisted e c ∷ h)) ≤ half_left (half_of ks h) + 4
unfolding observe
enlisted-more ks e c h =
    let a = how_many-insert_by unmarked number_of (fresh_row e c (marks (rows h))) (rows h) in
    let b = how_many-insert_by unvoted number_of (fresh_row e c (marks (rows h))) (rows h) in
    let l = how_many-insert_by untold listener_number (record { enlistment = e; told = false; lost = false }) (listeners h) in omega arith

-- there is one branch of each number at most
pub branches-once : (e : ℕ) (h : List Entry) → how_many (is_branch e) (branches h) ≤ 1
branches-once e [] = omega arith
branches-once e (Sent (Enl f) Up (EnlistEnlist i) ∷ h) = by (e == f.value) refl (branches-once e h)
  where
    new : Branch
    new = record { enlistment = f; manager = i.rm; enlisted = false; aborted = false; acked = false; due = None }

    others : List Branch
    others = filter (λ b. not (is_branch f.value b)) (branches h)

    by : (s : Bool) → (e == f.value) ≡ s → how_many (is_branch e) (branches h) ≤ 1 → how_many (is_branch e) (insert_by branch_number new others) ≤ 1
    by true s i =
        let a = how_many-insert_by (is_branch e) branch_number new others in
        let one : how_many (is_branch e) (insert_by branch_number new others) ≡ suc (how_many (is_branch e) others) = a ∙ ap (λ (b : Bool). if b then suc (how_many (is_branch e) others) else how_many (is_branch e) others) s in
        let none = how_many-none (is_branch e) (λ b. not (is_branch f.value b)) (λ b n. subst (λ (m : ℕ). (m == b.enlistment.value) ≡ false) (sym (eqb-true e f.value s)) (not_true (is_branch f.value b) n)) (branches h) in
        omega arith
    by false s i =
        let a = how_many-insert_by (is_branch e) branch_number new others in
        let one : how_many (is_branch e) (insert_by branch_number new others) ≡ how_many (is_branch e) others = a ∙ ap (λ (b : Bool). if b then suc (how_many (is_branch e) others) else how_many (is_branch e) others) s in
        let less = how_many-filter (is_branch e) (λ b. not (is_branch f.value b)) (branches h) in
        omega arith
branches-once e (Got (Enl f) Down EnlistEnlisted ∷ h) = let a = how_many-map (is_branch e) (branch_enlisted f.value) (λ b. refl) (branches h) in let i = branches-once e h in omega arith
branches-once e (Got (Enl f) Down EnlistCommit ∷ h) = let a = how_many-map (is_branch e) (branch_due f.value (Some (Enl f))) (λ b. refl) (branches h) in let i = branches-once e h in omega arith
branches-once e (Got (Again f) Down ReenlistCommitted ∷ h) = let a = how_many-map (is_branch e) (branch_due f.value (Some (Again f))) (λ b. refl) (branches h) in let i = branches-once e h in omega arith
branches-once e (Told (Member f) Aborted ∷ h) = let a = how_many-map (is_branch e) (branch_aborted f.value) (λ b. refl) (branches h) in let i = branches-once e h in omega arith
branches-once e (Acked f ∷ h) = let a = how_many-map (is_branch e) (branch_acked f.value) (λ b. refl) (branches h) in let i = branches-once e h in omega arith
branches-once e (Reenlisted f ∷ h) = let a = how_many-map (is_branch e) (branch_due f.value None) (λ b. refl) (branches h) in let i = branches-once e h in omega arith
branches-once e (_ ∷ h) = branches-once e h

due-more : (e : ℕ) (c : Conn) (bs : List Branch) → how_many owes_ack (map (branch_due e (Some c)) bs) ≤ how_many owes_ack bs + how_many (is_branch e) bs
due-more e c [] = omega arith
due-more e c (b ∷ bs) = by (is_branch e b) (owes_ack b) refl (due-more e c bs)
  where
    by : (s u : Bool) → owes_ack b ≡ u → how_many owes_ack (map (branch_due e (Some c)) bs) ≤ how_many owes_ack bs + how_many (is_branch e) bs
        → (if is_some (due_in s (Some c) b.due) then suc (how_many owes_ack (map (branch_due e (Some c)) bs)) else how_many owes_ack (map (branch_due e (Some c)) bs))
        ≤ (if u then suc (how_many owes_ack bs) else how_many owes_ack bs) + (if s then suc (how_many (is_branch e) bs) else how_many (is_branch e) bs)
    by true true q i = omega arith
    by true false q i = omega arith
    by false true q i = rw q (omega arith)
    by false false q i = rw q (omega arith)

-- A message that is got: a commit is to be acknowledged.
abbrev pub gain : Conn → Dir → Message → ℕ
gain (Enl e) Down EnlistCommit = 2
gain (Again e) Down ReenlistCommitted = 2
gain _ _ _ = 0

-- what is got leaves no more at the local side, but for the acknowledgement
pub got-half : (ks : List EnteredCall) (c : Conn) (d : Dir) (m : Message) (h : List Entry) → half_left (half_of ks (Got c d m ∷ h)) ≤ half_left (half_of ks h) + gain c d m
unfolding observe
got-half ks (Enl e) Down EnlistEnlisted h = let a = how_many-map owes_ack (branch_enlisted e.value) (λ b. refl) (branches h) in omega arith
got-half ks (Enl e) Down EnlistCommit h = let a = due-more e.value (Enl e) (branches h) in let b = branches-once e.value h in omega arith
got-half ks (Again e) Down ReenlistCommitted h = let a = due-more e.value (Again e) (branches h) in let b = branches-once e.value h in omega arith
got-half ks Begin d m h = omega arith
got-half ks Voter d m h = omega arith
got-half ks (Enl e) Up m h = omega arith
got-half ks (Enl e) Down m h = omega arith
got-half ks (Again e) Up m h = omega arith
got-half ks (Again e) Down m h = omega arith
