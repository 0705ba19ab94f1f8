-- How many desks, known connections and enlistments that came back and wait the coordinator has, by who is at the coordinator.
use Rattle.std.proofs.Common.{◌≡◌, ◌≤◌, ◌+◌, ℕ, zero, suc, ◌==◌, Bool, true, false, ◌&&◌, ◌||◌, List, [], ◌∷◌, ◌++◌, filter, length, map, Option, Some, None, refl, sym, subst, ap, ◌∙◌, arith}
use Rattle.std.specs.Prelude.{not, take, if◌then◌else◌}
use Rattle.std.proofs.lemmas.Bool.{false_from_ne_true, or_left}
use Rattle.dtx_values.specs.declared.entry.Entry.{Entry}
use Rattle.dtx_values.specs.declared.entry.Entry.TheVariants.{Cut, Got, Restarted, Sent, Stopped}
use Rattle.dtx_values.specs.declared.message.Conn.{Conn}
use Rattle.dtx_values.specs.declared.message.Conn.TheVariants.{Begin, Voter, Enl, Again}
use Rattle.dtx_values.specs.declared.message.Dir.TheVariants.{Up, Down}
use Rattle.dtx_values.specs.declared.message.Message.{Message}
use Rattle.dtx_values.specs.declared.message.Message.TheVariants.{EnlistAck, EnlistEnlist, EnlistOneAborted, ReenlistAck}
use Rattle.dtx_values.specs.declared.number.EnlNo.{EnlNo}
use Rattle.dtx_values.specs.Ends.{same_connection}
use Rattle.dtx_values.specs.Lines.{has_line, is_opening}
use Rattle.dtx_values.specs.Table.{how_many, insert_by}
use Rattle.dtx_model.specs.declared.branch.Branch.{Branch}
use Rattle.dtx_model.specs.declared.desk.Ballot.{Ballot}
use Rattle.dtx_model.specs.declared.desk.Ballot.TheVariants.{Refused}
use Rattle.dtx_model.specs.declared.desk.Desk.{Desk}
use Rattle.dtx_model.specs.Coordinated.{accepts, ballot_of, coordinate, desk_number, follow, hears_one, is_active, is_desk_of, is_prepared, kept_desks, unacked, with_ack, with_ballot}
use Rattle.dtx_model.specs.Observed.{branch_number, branches, is_branch}
use Rattle.dtx_model.specs.Wires.{WireRun, in_transit, is_next, is_open_wire, is_stopped, opened_with, opens, sent_behind, without_first}
use Rattle.dtx_model.specs.Words.{each, has}
use Rattle.dtx_model.proofs.Bools.{and_both, and_left, and_right, not_both, or_case, or_right}
use Rattle.dtx_model.proofs.Counts.{how_many-insert_by, how_many-map}
use Rattle.half_parts.proofs.Lists.{how_many-all, how_many-filter-le, not_counted, picked, spread}
use Rattle.dtx_model.proofs.Connections.{same_is}
use Rattle.history_table.proofs.Leading.{opening_was_sent}
use Rattle.history_table.proofs.Lists.{has-insert}
use Rattle.history_table.proofs.Scans.{has_more}
use Rattle.history_table.proofs.Table.{is_opening_got}
use Rattle.history_table.proofs.Tests.{eq_self, eq_swap}
use Rattle.world_laws.proofs.SendingOpened.{Opened, branch_stays}

no : false ≡ true → ⊥
no e = absurd cc

-- What opened a connection was got no more often than it was sent, whatever is lost.
one_more : (b : Bool) (n : ℕ) → n ≤ (if b then suc n else n)
one_more true n = omega arith
one_more false n = omega arith

count_last : (p : Message → Bool) (m : Message) (ms : List Message) → p m ≡ false → how_many p (ms ++ m ∷ []) ≡ how_many p ms
count_last p m [] n = rw n refl
count_last p m (x ∷ ms) n = ap (λ k. if p x then suc k else k) (count_last p m ms n)

count_opened : (p : Message → Bool) (m : Message) (s : Bool) → how_many p (opened_with Up m s) ≤ 1
count_opened p m true = omega arith
count_opened p m false = by (p m)
  where
    by : (b : Bool) → (if b then 1 else 0) ≤ 1
    by true = omega arith
    by false = omega arith

count_behind : (p : Message → Bool) (b : Bool) (m : Message) (ms : List Message) → p m ≡ false → how_many p (sent_behind b m ms) ≡ how_many p ms
count_behind p true m ms n = count_last p m ms n
count_behind p false m ms n = refl

count_take : (p : Message → Bool) (u : ℕ) (ms : List Message) → how_many p (take u ms) ≤ how_many p ms
count_take p zero ms = omega arith
count_take p (suc u) [] = omega arith
count_take p (suc u) (m ∷ ms) = by (p m) (count_take p u ms)
  where
    by : (b : Bool) → how_many p (take u ms) ≤ how_many p ms → (if b then suc (how_many p (take u ms)) else how_many p (take u ms)) ≤ (if b then suc (how_many p ms) else how_many p ms)
    by true le = omega (arith, le)
    by false le = le

sent_count : (c : Conn) (m : Message) (o q s b : Bool) (ms : List Message) (g k : ℕ) → (o ≡ false → q ≡ true → is_opening c m ≡ false) → g + how_many (is_opening c) ms ≤ k
    → g + how_many (is_opening c) (if o then opened_with Up m s else if q then sent_behind b m ms else ms) ≤ (if o then suc k else k)
sent_count c m true q s b ms g k f le = let one = count_opened (is_opening c) m s in omega (arith, one, le)
sent_count c m false true s b ms g k f le = let same = count_behind (is_opening c) b m ms (f refl refl) in omega (arith, same, le)
sent_count c m false false s b ms g k f le = le

got_count : (c : Conn) (m : Message) (s o l : Bool) (ms : List Message) (g k : ℕ) → (s ≡ true → (is_opening c m ≡ o) × is_next m ms) → g + how_many (is_opening c) ms ≤ k
    → (if s && o then suc g else g) + how_many (is_opening c) (if not s then ms else if not l then [] else without_first ms) ≤ k
got_count c m false o l ms g k f le = le
got_count c m true o l [] g k f le = absurd (f refl).1
got_count c m true o l (x ∷ ms) g k f le =
    let P : Message → Type 0 = λ y. is_opening c y ≡ o in by o l (subst P (f refl).1 (f refl).0) le
  where
    by : (o l : Bool) → is_opening c x ≡ o → g + how_many (is_opening c) (x ∷ ms) ≤ k → (if o then suc g else g) + how_many (is_opening c) (if not l then [] else ms) ≤ k
    by true true q le = let more = count_cons (is_opening c x) true q in omega (arith, more, le)
      where
        count_cons : (a b : Bool) → a ≡ b → (if a then suc (how_many (is_opening c) ms) else how_many (is_opening c) ms) ≡ (if b then suc (how_many (is_opening c) ms) else how_many (is_opening c) ms)
        count_cons a b q = ap (λ z. if z then suc (how_many (is_opening c) ms) else how_many (is_opening c) ms) q
    by true false q le = let more = count_cons (is_opening c x) true q in omega (arith, more, le)
      where
        count_cons : (a b : Bool) → a ≡ b → (if a then suc (how_many (is_opening c) ms) else how_many (is_opening c) ms) ≡ (if b then suc (how_many (is_opening c) ms) else how_many (is_opening c) ms)
        count_cons a b q = ap (λ z. if z then suc (how_many (is_opening c) ms) else how_many (is_opening c) ms) q
    by false true q le = let more = one_more (is_opening c x) (how_many (is_opening c) ms) in omega (arith, more, le)
    by false false q le = omega (arith, le)

down_count : (c : Conn) (s l : Bool) (ms : List Message) (g k : ℕ) → g + how_many (is_opening c) ms ≤ k → g + how_many (is_opening c) (if not s then ms else if not l then [] else ms) ≤ k
down_count c false l ms g k le = le
down_count c true true ms g k le = le
down_count c true false ms g k le = omega (arith, le)

cut_count : (c : Conn) (s : Bool) (u : ℕ) (ms : List Message) (g k : ℕ) → g + how_many (is_opening c) ms ≤ k → g + how_many (is_opening c) (if s then take u ms else ms) ≤ k
cut_count c false u ms g k le = le
cut_count c true u ms g k le = let less = count_take (is_opening c) u ms in omega (arith, less, le)

got_at_most : (c : Conn) (h : List Entry) → WireRun h → how_many (is_opening_got c) h + how_many (is_opening c) (in_transit c Up h) ≤ how_many (opens c) h
got_at_most c [] w = omega arith
got_at_most c (Sent e Up m ∷ h) w =
    sent_count c m (same_connection c e && is_opening e m) (same_connection c e && true) (is_stopped h) (is_open_wire c h) (in_transit c Up h) (how_many (is_opening_got c) h) (how_many (opens c) h)
    (λ o q. none (same_connection c e) (and_left (same_connection c e) true q) o) (got_at_most c h w.1)
  where
    none : (s : Bool) → same_connection c e ≡ true → (same_connection c e && is_opening e m) ≡ false → is_opening c m ≡ false
    none s q o =
        let P : Conn → Type 0 = λ y. is_opening y m ≡ false in
        subst P (sym (same_is c e q)) (false_from_ne_true (is_opening e m) (λ t. not_both (same_connection c e && is_opening e m) (and_both (same_connection c e) (is_opening e m) q t) o))
got_at_most c (Sent e Down m ∷ h) w = down (same_connection c e) (got_at_most c h w.1)
  where
    down : (s : Bool) → how_many (is_opening_got c) h + how_many (is_opening c) (in_transit c Up h) ≤ how_many (opens c) h
        → how_many (is_opening_got c) h + how_many (is_opening c) (if s && false then sent_behind (is_open_wire c h) m (in_transit c Up h) else in_transit c Up h) ≤ how_many (opens c) h
    down true le = le
    down false le = le
got_at_most c (Got e Up m ∷ h) w =
    got_count c m (same_connection c e) (is_opening e m) (has_line e Up m) (in_transit c Up h) (how_many (is_opening_got c) h) (how_many (opens c) h)
    (λ s. (let P : Conn → Type 0 = λ y. is_opening y m ≡ is_opening e m in subst P (sym (same_is c e s)) refl, let Q : Conn → Type 0 = λ y. is_next m (in_transit y Up h) in subst Q (sym (same_is c e s)) w.0))
    (got_at_most c h w.1)
got_at_most c (Got e Down m ∷ h) w = down_count c (same_connection c e) (has_line e Down m) (in_transit c Up h) (how_many (is_opening_got c) h) (how_many (opens c) h) (got_at_most c h w.1)
got_at_most c (Cut e u v ∷ h) w = cut_count c (same_connection c e) u (in_transit c Up h) (how_many (is_opening_got c) h) (how_many (opens c) h) (got_at_most c h w.1)
got_at_most c (Stopped ∷ h) w = let le = got_at_most c h w.1 in omega (arith, le)
got_at_most c (x ∷ h) w = got_at_most c h w.1

-- Each desk is of an ENLIST that was got.
number_kept : (n e : ℕ) (o : Option Ballot) (d : Desk) → is_desk_of n (with_ballot e o d) ≡ is_desk_of n d
number_kept n e None d = refl
number_kept n e (Some b) d = elim (is_desk_of e d) as (λ z. is_desk_of n (if z then record { enlistment = d.enlistment; manager = d.manager; ballot = Some b; acked = d.acked } else d) ≡ is_desk_of n d) [ true ↦ refl | false ↦ refl ]

count_kept : (n : ℕ) (found : Bool) (ds : List Desk) → how_many (is_desk_of n) (kept_desks found ds) ≤ how_many (is_desk_of n) ds
count_kept n true ds =
    let same = how_many-map (is_desk_of n) unacked (λ d. refl) (filter (λ (d : Desk). is_prepared d.ballot) ds) in
    let less = how_many-filter-le (is_desk_of n) (λ (d : Desk). is_prepared d.ballot) ds in omega (arith, same, less)
count_kept n false ds = omega arith

desk_count : (e : EnlNo) (h : List Entry) → how_many (is_desk_of e.value) (coordinate h).desks ≤ how_many (is_opening_got (Enl e)) h
unfolding coordinate follow
desk_count e [] = omega arith
desk_count e (Got (Enl f) Up (EnlistEnlist i) ∷ h) = by (accepts (coordinate h)) (desk_count e h)
  where
    by : (b : Bool) → how_many (is_desk_of e.value) (coordinate h).desks ≤ how_many (is_opening_got (Enl e)) h
        → how_many (is_desk_of e.value) (if b then insert_by desk_number (record { enlistment = f; manager = i.rm; ballot = None; acked = false }) (coordinate h).desks else (coordinate h).desks)
        ≤ (if (e.value == f.value) && true then suc (how_many (is_opening_got (Enl e)) h) else how_many (is_opening_got (Enl e)) h)
    by true le = one (e.value == f.value) (how_many-insert_by (is_desk_of e.value) desk_number (record { enlistment = f; manager = i.rm; ballot = None; acked = false }) (coordinate h).desks) le
      where
        one : {k n g : ℕ} (b : Bool) → k ≡ (if b then suc n else n) → n ≤ g → k ≤ (if b && true then suc g else g)
        one true q le = omega (arith, q, le)
        one false q le = omega (arith, q, le)
    by false le = let more = one_more ((e.value == f.value) && true) (how_many (is_opening_got (Enl e)) h) in omega (arith, more, le)
desk_count e (Got (Enl f) Up EnlistAck ∷ h) =
    let same = how_many-map (is_desk_of e.value) (with_ack f.value) (λ d. refl) (coordinate h).desks in
    let le = desk_count e h in let more = one_more ((e.value == f.value) && false) (how_many (is_opening_got (Enl e)) h) in omega (arith, same, le, more)
desk_count e (Got (Again f) Up ReenlistAck ∷ h) =
    let same = how_many-map (is_desk_of e.value) (with_ack f.value) (λ d. refl) (coordinate h).desks in let le = desk_count e h in omega (arith, same, le)
desk_count e (Got (Enl f) Up EnlistOneAborted ∷ h) = by (hears_one (coordinate h) f.value) (desk_count e h)
  where
    by : (b : Bool) → how_many (is_desk_of e.value) (coordinate h).desks ≤ how_many (is_opening_got (Enl e)) h
        → how_many (is_desk_of e.value) (if b then map (with_ballot f.value (Some Refused)) (coordinate h).desks else (coordinate h).desks)
        ≤ (if (e.value == f.value) && false then suc (how_many (is_opening_got (Enl e)) h) else how_many (is_opening_got (Enl e)) h)
    by true le =
        let same = how_many-map (is_desk_of e.value) (with_ballot f.value (Some Refused)) (λ d. number_kept e.value f.value (Some Refused) d) (coordinate h).desks in
        let more = one_more ((e.value == f.value) && false) (how_many (is_opening_got (Enl e)) h) in omega (arith, same, le, more)
    by false le = let more = one_more ((e.value == f.value) && false) (how_many (is_opening_got (Enl e)) h) in omega (arith, le, more)
desk_count e (Got (Enl f) Up m ∷ h) = by (is_active (coordinate h).stage) (desk_count e h)
  where
    by : (b : Bool) → how_many (is_desk_of e.value) (coordinate h).desks ≤ how_many (is_opening_got (Enl e)) h
        → how_many (is_desk_of e.value) (if b then map (with_ballot f.value (ballot_of m)) (coordinate h).desks else (coordinate h).desks)
        ≤ (if (e.value == f.value) && is_opening (Enl f) m then suc (how_many (is_opening_got (Enl e)) h) else how_many (is_opening_got (Enl e)) h)
    by true le =
        let same = how_many-map (is_desk_of e.value) (with_ballot f.value (ballot_of m)) (λ d. number_kept e.value f.value (ballot_of m) d) (coordinate h).desks in
        let more = one_more ((e.value == f.value) && is_opening (Enl f) m) (how_many (is_opening_got (Enl e)) h) in omega (arith, same, le, more)
    by false le = let more = one_more ((e.value == f.value) && is_opening (Enl f) m) (how_many (is_opening_got (Enl e)) h) in omega (arith, le, more)
desk_count e (Restarted found ∷ h) = let less = count_kept e.value found (coordinate h).desks in let le = desk_count e h in omega (arith, less, le)
desk_count e (x ∷ h) = let more = one_more (is_opening_got (Enl e) x) (how_many (is_opening_got (Enl e)) h) in let le = desk_count e h in omega (arith, more, le)

-- One whose ENLIST was sent is at the coordinator.
sent_there : (x : Entry) (h : List Entry) (e : EnlNo) → opens (Enl e) x ≡ true → has (is_branch e.value) (branches (x ∷ h)) ≡ true
sent_there (Sent (Enl f) Up (EnlistEnlist i)) h e k =
    has-insert (is_branch e.value) branch_number (record { enlistment = f; manager = i.rm; enlisted = false; aborted = false; acked = false; due = None }) (filter (λ b. not (is_branch f.value b)) (branches h))
    ∙ or_left (e.value == f.value) (has (is_branch e.value) (filter (λ b. not (is_branch f.value b)) (branches h))) (and_left (e.value == f.value) true k)
sent_there (Sent (Enl f) Up m) h e k = absurd (not_both (is_opening (Enl f) m) (and_right (e.value == f.value) (is_opening (Enl f) m) k) refl)
sent_there (Sent Begin Up m) h e k = absurd (no k)
sent_there (Sent Voter Up m) h e k = absurd (no k)
sent_there (Sent (Again f) Up m) h e k = absurd (no k)
sent_there (Sent c Down m) h e k = absurd (no k)
sent_there _ h e k = absurd (no k)

-- so where its connection was opened
pub opened_there : (e : EnlNo) (h : List Entry) → has (opens (Enl e)) h ≡ true → has (is_branch e.value) (branches h) ≡ true
opened_there e [] k = absurd (no k)
opened_there e (x ∷ h) k = or_case (opens (Enl e) x) (has (opens (Enl e)) h) (λ t. sent_there x h e t) (λ t. branch_stays x h e.value (opened_there e h t)) k

-- Those of different numbers that are all at the coordinator are no more than are there.
pub within : {N : Type 0} (number : N → EnlNo) (bs : List Branch) (ns : List N) → ((b : Branch) → how_many (λ n. b.enlistment.value == (number n).value) ns ≤ 1)
    → each (λ n. has (is_branch (number n).value) bs) ns ≡ true → length ns ≤ length bs
within {N} number bs ns once there =
    let own : Branch → Bool = λ b. true in
    let all : N → Bool = λ n. true in
    let by_number : Branch → N → Bool = λ b n. b.enlistment.value == (number n).value in
    let first = spread own by_number all bs ns once in
    let none = picked (λ n. all n && not (has (λ b. own b && by_number b n) bs)) (λ n. has (is_branch (number n).value) bs) ns there
    (λ n k. shut (has (λ b. own b && by_number b n) bs) (has_more (is_branch (number n).value) (λ b. own b && by_number b n) (λ b t. eq_swap b.enlistment.value (number n).value ∙ t) bs k)) in
    omega (arith, how_many-all ns, how_many-all bs, first, none)
  where
    shut : (a : Bool) → a ≡ true → (true && not a) ≡ false
    shut true k = refl
    shut false k = absurd (no k)

-- what holds of each number that is there holds of each
pub each_by : {N : Type 0} (number : N → EnlNo) (p : EnlNo → Bool) (ns : List N) → ((e : EnlNo) → has (λ n. e.value == (number n).value) ns ≡ true → p e ≡ true) → each (λ n. p (number n)) ns ≡ true
each_by number p [] f = refl
each_by number p (n ∷ ns) f =
    and_both (p (number n)) (each (λ m. p (number m)) ns)
    (f (number n) (or_left ((number n).value == (number n).value) (has (λ m. (number n).value == (number m).value) ns) (eq_self (number n).value)))
    (each_by number p ns (λ e k. f e (or_right (e.value == (number n).value) (has (λ m. e.value == (number m).value) ns) k)))

counted_some : {A : Type 0} (p : A → Bool) (xs : List A) → has p xs ≡ true → 1 ≤ how_many p xs
counted_some p [] k = absurd (no k)
counted_some p (x ∷ xs) k = step (p x) k (counted_some p xs)
  where
    step : (b : Bool) → (b || has p xs) ≡ true → (has p xs ≡ true → 1 ≤ how_many p xs) → 1 ≤ (if b then suc (how_many p xs) else how_many p xs)
    step true k f = omega arith
    step false k f = f k

some_counted : {A : Type 0} (p : A → Bool) (xs : List A) → 1 ≤ how_many p xs → has p xs ≡ true
some_counted p xs k = by (has p xs) refl
  where
    by : (b : Bool) → has p xs ≡ b → has p xs ≡ true
    by true q = q
    by false q = let none = not_counted p xs q in absurd (omega (arith, none, k))

-- so the desks are no more than those at the coordinator
pub desks_few : (h : List Entry) → WireRun h → Opened h → length (coordinate h).desks ≤ length (branches h)
desks_few h w i = within (λ (d : Desk). d.enlistment) (branches h) (coordinate h).desks (λ b. once b.enlistment) (each_by (λ (d : Desk). d.enlistment) (λ e. has (is_branch e.value) (branches h)) (coordinate h).desks there)
  where
    once : (e : EnlNo) → how_many (is_desk_of e.value) (coordinate h).desks ≤ 1
    once e = let a = desk_count e h in let b = got_at_most (Enl e) h w in let c = i.on_enlistments.fresh e in omega (arith, a, b, c)

    there : (e : EnlNo) → has (is_desk_of e.value) (coordinate h).desks ≡ true → has (is_branch e.value) (branches h) ≡ true
    there e k =
        let a = counted_some (is_desk_of e.value) (coordinate h).desks k in
        let b = desk_count e h in
        opened_there e h (opening_was_sent (Enl e) h w (some_counted (is_opening_got (Enl e)) h (omega (arith, a, b))))
