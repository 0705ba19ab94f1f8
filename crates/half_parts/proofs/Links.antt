-- The enlistments at the coordinator and the connections: how many they are, and that each connection is of one of them.
use Rattle.std.proofs.Common.{◌≡◌, ◌≤◌, ◌<◌, ◌==◌, ◌+◌, ◌&&◌, ◌||◌, ℕ, suc, Bool, true, false, not, List, [], ◌∷◌, map, filter, find, length, Some, None, is_some, cond, if◌then◌else◌, refl, ap, sym, subst, ◌∙◌, arith}
use Rattle.std.proofs.lemmas.Bool.Decides.{nat_tests}
use Rattle.std.proofs.lemmas.List.{length-map}
use Rattle.dtx_values.specs.declared.end.End.{End}
use Rattle.dtx_values.specs.declared.entry.Entry.TheVariants.{Sent, Got, Down as Ended}
use Rattle.dtx_values.specs.declared.message.Conn.{Conn}
use Rattle.dtx_values.specs.declared.message.Conn.TheVariants.{Begin, Voter, Enl, Again}
use Rattle.dtx_values.specs.declared.message.Dir.TheVariants.{Up, Down}
use Rattle.dtx_values.specs.declared.message.Message.{Message}
use Rattle.dtx_values.specs.declared.message.Message.TheVariants.{EnlistEnlist, EnlistEnlisted, EnlistCommit, ReenlistReenlist, ReenlistCommitted}
use Rattle.dtx_values.specs.declared.number.EnlNo.{EnlNo}
use Rattle.dtx_values.specs.declared.number.RmNo.{RmNo}
use Rattle.dtx_values.specs.declared.row.Row.{Row}
use Rattle.dtx_values.specs.Ends.{end_order, ends_after, is_end_of, note_end, note_got, note_sent, same_connection, tag_of, with_opened, with_tag}
use Rattle.dtx_values.specs.Lines.{has_line, is_opening}
use Rattle.dtx_values.specs.Row.{is_lasting, is_of}
use Rattle.dtx_values.specs.Table.{how_many, insert_by, with_row}
use Rattle.dtx_values.specs.declared.words.Class.{Class}
use Rattle.dtx_model.specs.declared.branch.Branch.{Branch}
use Rattle.dtx_model.specs.Words.{each, has}
use Rattle.dtx_model.specs.Acts.{lasts}
use Rattle.dtx_model.specs.Half.{Half}
use Rattle.dtx_model.specs.Observed.{branch_number, branches_after, is_branch, with_branch}
use Rattle.dtx_model.specs.declared.waiting.Wanted.TheVariants.{Identifier, Place}
use Rattle.dtx_model.specs.Waiting.{Waiter, is_place, is_place_of, waiter_line}
use Rattle.dtx_model.proofs.Bools.{and_both, and_never, not_true, or_case, or_first, or_right, or_second}
use Rattle.dtx_model.proofs.Counts.{how_many-insert_by, how_many-map, length-insert_by}
use Rattle.dtx_model.proofs.Passing.{has-insert_by, has-map}
use Rattle.half_parts.specs.declared.branches.BranchChange.{BranchChange}
use Rattle.half_parts.specs.declared.branches.BranchChange.TheVariants.{Enlisted, Aborted, Acked, Due}
use Rattle.half_parts.specs.Branches.{changed}
use Rattle.half_parts.specs.Linked.{AreLinked, is_held, is_of_branch}
use Rattle.half_parts.specs.Taken.{MaySend}
use Rattle.half_parts.specs.Waits.{without}
use Rattle.half_parts.proofs.Rows.{lasts-more, lasts-new}
use Rattle.half_parts.proofs.Waiters.{IsPlaceFound}
use Rattle.half_parts.proofs.Lists.{each-filter, each-insert_by, each-map, each-more, how_many-all, how_many-filter-le, how_many-filter-none, how_many-same, none_left, picked, spread}

-- The decision, the table and the calls that wait change: until something is decided each enlistment there is held still.
pub links-held : (d f : Bool) (xs ys : List Row) (ws vs : List Waiter) (bs : List Branch) (ns : List End) → (f ≡ false → d ≡ false)
    → (f ≡ false → (e : ℕ) → is_held xs ws e ≡ true → is_held ys vs e ≡ true) → AreLinked d xs ws bs ns → AreLinked f ys vs bs ns
links-held d f xs ys ws vs bs ns open_yet more l =
    record {
      once = l.once;
      few = l.few;
      held = λ k. each-more (λ (b : Branch). is_held xs ws b.enlistment.value) (λ b. is_held ys vs b.enlistment.value) (λ b h. more k b.enlistment.value h) bs (l.held (open_yet k));
      known_once = l.known_once;
      of_branches = l.of_branches;
    }

-- the table changes, and the same last; or it has one more
pub links-table : (d : Bool) (xs ys : List Row) (ws : List Waiter) (bs : List Branch) (ns : List End) → ((f : ℕ) → lasts ys f ≡ lasts xs f) → AreLinked d xs ws bs ns → AreLinked d ys ws bs ns
links-table d xs ys ws bs ns same l = links-held d d xs ys ws ws bs ns (λ k. k) (λ k f h. ap (λ b. b || has (is_place_of f) ws) (same f) ∙ h) l

held_more : (xs ys : List Row) (ws vs : List Waiter) (f : ℕ) → (lasts xs f ≡ true → lasts ys f ≡ true) → (has (is_place_of f) ws ≡ true → is_held ys vs f ≡ true) → is_held xs ws f ≡ true → is_held ys vs f ≡ true
held_more xs ys ws vs f rows places h = or_case (lasts xs f) (has (is_place_of f) ws) (λ k. rw (rows k) refl) places h

pub links-row : (d : Bool) (xs : List Row) (ws : List Waiter) (bs : List Branch) (ns : List End) (e : EnlNo) (c : Class) → AreLinked d xs ws bs ns → AreLinked d (with_row e c xs) ws bs ns
links-row d xs ws bs ns e c l =
    links-held d d xs (with_row e c xs) ws ws bs ns (λ k. k) (λ k f h. held_more xs (with_row e c xs) ws ws f (lasts-more e c xs f) (λ p. or_right (lasts (with_row e c xs) f) (has (is_place_of f) ws) p) h) l

-- one more call waits
pub links-wait : (d : Bool) (xs : List Row) (ws : List Waiter) (bs : List Branch) (ns : List End) (w : Waiter) → AreLinked d xs ws bs ns → AreLinked d xs (insert_by waiter_line w ws) bs ns
links-wait d xs ws bs ns w l =
    links-held d d xs xs ws (insert_by waiter_line w ws) bs ns (λ k. k)
    (λ k f h. held_more xs xs ws (insert_by waiter_line w ws) f (λ p. p)
    (λ p. or_right (lasts xs f) (has (is_place_of f) (insert_by waiter_line w ws)) (has-insert_by (is_place_of f) waiter_line w ws ∙ or_right (is_place_of f w) (has (is_place_of f) ws) p)) h) l

-- a call is answered: where nothing is decided, it waits for no place
places_kept : (n f : ℕ) (ws : List Waiter) → has (λ w. (n == w.0) && is_place w) ws ≡ false → has (is_place_of f) ws ≡ true → has (is_place_of f) (without n ws) ≡ true
places_kept n f [] none k = k
places_kept n f ((m, Identifier) ∷ ws) none k = step (n == m) (places_kept n f ws (or_second ((n == m) && false) (has (λ w. (n == w.0) && is_place w) ws) none) k)
  where
    step : (b : Bool) → has (is_place_of f) (without n ws) ≡ true → has (is_place_of f) (cond (not b) ((m, Identifier) ∷ without n ws) (without n ws)) ≡ true
    step true ih = ih
    step false ih = ih
places_kept n f ((m, Place e r c) ∷ ws) none k =
    step (n == m) refl (or_first ((n == m) && true) (has (λ w. (n == w.0) && is_place w) ws) none) (f == e.value) k (λ i. places_kept n f ws (or_second ((n == m) && true) (has (λ w. (n == w.0) && is_place w) ws) none) i)
  where
    step : (b : Bool) → (n == m) ≡ b → (b && true) ≡ false → (d : Bool) → (d || has (is_place_of f) ws) ≡ true → (has (is_place_of f) ws ≡ true → has (is_place_of f) (without n ws) ≡ true)
        → has (is_place_of f) (cond (not b) ((m, Place e r c) ∷ without n ws) (without n ws)) ≡ true
    step true q z d i ih = absurd cc
    step false q z d i ih = or_case (f == e.value) (has (is_place_of f) ws) (λ here. rw here refl) (λ there. or_right (f == e.value) (has (is_place_of f) (without n ws)) (ih there)) k

pub links-answered : (d : Bool) (xs : List Row) (ws : List Waiter) (bs : List Branch) (ns : List End) (n : ℕ) → (d || not (has (λ w. (n == w.0) && is_place w) ws)) ≡ true
    → AreLinked d xs ws bs ns → AreLinked d xs (without n ws) bs ns
links-answered d xs ws bs ns n may l =
    links-held d d xs xs ws (without n ws) bs ns (λ k. k)
    (λ k f h. held_more xs xs ws (without n ws) f (λ p. p) (λ p. or_right (lasts xs f) (has (is_place_of f) (without n ws)) (places_kept n f ws (undecided d k may) p)) h) l
  where
    undecided : (b : Bool) → b ≡ false → (b || not (has (λ w. (n == w.0) && is_place w) ws)) ≡ true → has (λ w. (n == w.0) && is_place w) ws ≡ false
    undecided true k m = absurd cc
    undecided false k m = not_true (has (λ w. (n == w.0) && is_place w) ws) m

-- a call has the place that it waited for
pub links-placed : (d : Bool) (xs : List Row) (ws : List Waiter) (bs : List Branch) (ns : List End) (e : EnlNo) (n : ℕ) (c : Class) → IsPlaceFound xs ws e.value n c → AreLinked d xs ws bs ns
    → AreLinked d (with_row e c xs) (without n ws) bs ns
links-placed d xs ws bs ns e n c p l =
    links-held d d xs (with_row e c xs) ws (without n ws) bs ns (λ k. k)
    (λ k f h. held_more xs (with_row e c xs) ws (without n ws) f (lasts-more e c xs f) (λ a. by f (f == e.value) refl a) h) l
  where
    by : (f : ℕ) (b : Bool) → (f == e.value) ≡ b → has (is_place_of f) ws ≡ true → is_held (with_row e c xs) (without n ws) f ≡ true
    by f true q a =
        let number : f ≡ e.value = grind (arith, nat_tests) in
        rw (subst (λ g. lasts (with_row e c xs) g ≡ true) (sym number) (lasts-new e c xs p.lasting)) refl
    by f false q a = or_right (lasts (with_row e c xs) f) (has (is_place_of f) (without n ws)) (p.others f q a)

-- ENLIST has room where what is there after it has
pub room_for : (e : EnlNo) (r : RmNo) (bs : List Branch) (n : ℕ) → length (with_branch e r bs) ≤ n → length (filter (λ (b : Branch). not (is_branch e.value b)) bs) < n
room_for e r bs n le =
    let long = length-insert_by branch_number (record { enlistment = e; manager = r; enlisted = false; aborted = false; acked = false; due = None }) (filter (λ (b : Branch). not (is_branch e.value b)) bs) in
    omega (arith, long, le)

-- a change of an enlistment there keeps its number
changed_number : (e : ℕ) (x : BranchChange) (f : ℕ) (b : Branch) → is_branch f (changed e x b) ≡ is_branch f b
changed_number e Enlisted f b = refl
changed_number e Aborted f b = refl
changed_number e Acked f b = refl
changed_number e (Due c) f b = refl

changed_held : (xs : List Row) (ws : List Waiter) (e : ℕ) (x : BranchChange) (b : Branch) → is_held xs ws (changed e x b).enlistment.value ≡ is_held xs ws b.enlistment.value
changed_held xs ws e Enlisted b = refl
changed_held xs ws e Aborted b = refl
changed_held xs ws e Acked b = refl
changed_held xs ws e (Due c) b = refl

-- a connection is of a branch in these too
of_more : (bs cs : List Branch) → ((e : ℕ) → has (is_branch e) bs ≡ true → has (is_branch e) cs ≡ true) → (c : Conn) → is_of_branch bs c ≡ true → is_of_branch cs c ≡ true
of_more bs cs more Begin k = refl
of_more bs cs more Voter k = refl
of_more bs cs more (Enl e) k = more e.value k
of_more bs cs more (Again e) k = more e.value k

all_of_more : (bs cs : List Branch) (ns : List End) → ((e : ℕ) → has (is_branch e) bs ≡ true → has (is_branch e) cs ≡ true)
    → each (λ n. is_of_branch bs n.connection) ns ≡ true → each (λ n. is_of_branch cs n.connection) ns ≡ true
all_of_more bs cs ns more k = each-more (λ (n : End). is_of_branch bs n.connection) (λ n. is_of_branch cs n.connection) (λ n h. of_more bs cs more n.connection h) ns k

pub links-changed : (d : Bool) (xs : List Row) (ws : List Waiter) (bs : List Branch) (ns : List End) (e : ℕ) (x : BranchChange) → AreLinked d xs ws bs ns → AreLinked d xs ws (map (changed e x) bs) ns
links-changed d xs ws bs ns e x l =
    record {
      once = λ f. let same = how_many-map (is_branch f) (changed e x) (changed_number e x f) bs in omega (arith, same, l.once f);
      few = let same = length-map bs (changed e x) in omega (arith, same, l.few);
      held = λ k. each-map (λ b. is_held xs ws b.enlistment.value) (changed e x) (changed_held xs ws e x) bs ∙ l.held k;
      known_once = l.known_once;
      of_branches = all_of_more bs (map (changed e x) bs) ns (λ f k. has-map (is_branch f) (changed e x) (changed_number e x f) bs ∙ k) l.of_branches;
    }

-- what is noted of a connection keeps its name
abbrev KeepsName : (End → End) → Type 0
KeepsName f = (n : End) → (f n).connection ≡ n.connection

sent_name : (c : Conn) (t : ℕ) → KeepsName (note_sent c t)
sent_name c t n = elim (is_end_of c n) as (λ b. (if b then record { connection = n.connection; sent = with_tag t n.sent; got = n.got; ended = n.ended } else n).connection ≡ n.connection) [ true ↦ refl | false ↦ refl ]

got_name : (c : Conn) (t : ℕ) → KeepsName (note_got c t)
got_name c t n = elim (is_end_of c n) as (λ b. (if b then record { connection = n.connection; sent = n.sent; got = with_tag t n.got; ended = n.ended } else n).connection ≡ n.connection) [ true ↦ refl | false ↦ refl ]

end_name : (c : Conn) → KeepsName (note_end c)
end_name c n = elim (is_end_of c n) as (λ b. (if b then record { connection = n.connection; sent = n.sent; got = n.got; ended = true } else n).connection ≡ n.connection) [ true ↦ refl | false ↦ refl ]

links-noted : (d : Bool) (xs : List Row) (ws : List Waiter) (bs : List Branch) (ns : List End) (f : End → End) → KeepsName f → AreLinked d xs ws bs ns → AreLinked d xs ws bs (map f ns)
links-noted d xs ws bs ns f keeps l =
    record {
      once = l.once;
      few = l.few;
      held = l.held;
      known_once = λ c. let same = how_many-map (is_end_of c) f (λ n. ap (same_connection c) (keeps n)) ns in omega (arith, same, l.known_once c);
      of_branches = each-map (λ n. is_of_branch bs n.connection) f (λ n. ap (is_of_branch bs) (keeps n)) ns ∙ l.of_branches;
    }

-- two names of one connection name the same ends
same_ends : (c d : Conn) → same_connection c d ≡ true → (n : End) → is_end_of c n ≡ true → is_end_of d n ≡ true
same_ends c d k n h = by c d n.connection k h
  where
    by : (c d e : Conn) → same_connection c d ≡ true → same_connection c e ≡ true → same_connection d e ≡ true
    by Begin Begin e k h = h
    by Begin Voter e k h = absurd cc
    by Begin (Enl f) e k h = absurd cc
    by Begin (Again f) e k h = absurd cc
    by Voter Voter e k h = h
    by Voter Begin e k h = absurd cc
    by Voter (Enl f) e k h = absurd cc
    by Voter (Again f) e k h = absurd cc
    by (Enl f) (Enl g) (Enl i) k h = grind (arith, nat_tests)
    by (Enl f) (Enl g) Begin k h = absurd cc
    by (Enl f) (Enl g) Voter k h = absurd cc
    by (Enl f) (Enl g) (Again i) k h = absurd cc
    by (Enl f) Begin e k h = absurd cc
    by (Enl f) Voter e k h = absurd cc
    by (Enl f) (Again g) e k h = absurd cc
    by (Again f) (Again g) (Again i) k h = grind (arith, nat_tests)
    by (Again f) (Again g) Begin k h = absurd cc
    by (Again f) (Again g) Voter k h = absurd cc
    by (Again f) (Again g) (Enl i) k h = absurd cc
    by (Again f) Begin e k h = absurd cc
    by (Again f) Voter e k h = absurd cc
    by (Again f) (Enl g) e k h = absurd cc

-- a connection is opened anew
links-opened : (d : Bool) (xs : List Row) (ws : List Waiter) (bs : List Branch) (ns : List End) (c : Conn) (t : ℕ) → is_of_branch bs c ≡ true → AreLinked d xs ws bs ns
    → AreLinked d xs ws bs (with_opened c t ns)
links-opened d xs ws bs ns c t mine l =
    let new : End = record { connection = c; sent = with_tag t 0; got = 0; ended = false } in
    let others = filter (λ (n : End). not (is_end_of c n)) ns in
    record {
      once = l.once;
      few = l.few;
      held = l.held;
      known_once = λ e. step e (same_connection e c) refl (how_many-insert_by (is_end_of e) end_order new others);
      of_branches = each-insert_by (λ n. is_of_branch bs n.connection) end_order new others
          ∙ and_both (is_of_branch bs c) (each (λ n. is_of_branch bs n.connection) others) mine (each-filter (λ n. is_of_branch bs n.connection) (λ n. not (is_end_of c n)) ns l.of_branches);
    }
  where
    step : (e : Conn) (b : Bool) → same_connection e c ≡ b
        → how_many (is_end_of e) (with_opened c t ns) ≡ (if b then suc (how_many (is_end_of e) (filter (λ (n : End). not (is_end_of c n)) ns)) else how_many (is_end_of e) (filter (λ (n : End). not (is_end_of c n)) ns))
        → how_many (is_end_of e) (with_opened c t ns) ≤ 1
    step e true k more =
        let none = how_many-filter-none (is_end_of e) (λ (n : End). not (is_end_of c n)) (λ n h. ap not (same_ends e c k n h)) ns in
        omega (arith, more, none)
    step e false k more = omega (arith, more, how_many-filter-le (is_end_of e) (λ (n : End). not (is_end_of c n)) ns, l.known_once e)

-- as many enlistments are there as last or are waited for, at most
branches_few : (xs : List Row) (ws : List Waiter) (bs : List Branch) → ((e : ℕ) → how_many (is_branch e) bs ≤ 1) → each (λ b. is_held xs ws b.enlistment.value) bs ≡ true
    → length bs ≤ how_many is_lasting xs + how_many is_place ws
branches_few xs ws bs once held =
    let by_row : Row → Branch → Bool = λ x b. is_of b.enlistment.value x in
    let by_place : Waiter → Branch → Bool = λ w b. is_place_of b.enlistment.value w in
    let base : Branch → Bool = λ b. true in
    let first = spread is_lasting by_row base xs bs (λ x. row_once x bs once) in
    let rest : Branch → Bool = λ b. base b && not (has (λ x. is_lasting x && by_row x b) xs) in
    let second = spread is_place by_place rest ws bs (λ w. place_once w bs once) in
    let none = picked (λ b. rest b && not (has (λ w. is_place w && by_place w b) ws)) (λ b. is_held xs ws b.enlistment.value) bs held (λ b k. unheld xs ws b k) in
    omega (arith, how_many-all bs, first, second, none)
  where
    flip : (m n : ℕ) → (m == n) ≡ (n == m)
    flip m n = grind (arith, nat_tests)

    row_once : (x : Row) (cs : List Branch) → ((e : ℕ) → how_many (is_branch e) cs ≤ 1) → how_many (λ (b : Branch). is_of b.enlistment.value x) cs ≤ 1
    row_once x cs o = let same = how_many-same (λ (b : Branch). is_of b.enlistment.value x) (is_branch x.number.value) (λ b. flip b.enlistment.value x.number.value) cs in omega (arith, same, o x.number.value)

    place_once : (w : Waiter) (cs : List Branch) → ((e : ℕ) → how_many (is_branch e) cs ≤ 1) → how_many (λ (b : Branch). is_place_of b.enlistment.value w) cs ≤ 1
    place_once (n, Identifier) cs o = let none = none_left (λ (b : Branch). false) cs (λ b. refl) in omega (arith, none)
    place_once (n, Place e r c) cs o = let same = how_many-same (λ (b : Branch). b.enlistment.value == e.value) (is_branch e.value) (λ b. flip b.enlistment.value e.value) cs in omega (arith, same, o e.value)

    and_comm : (x y : Bool) → (x && y) ≡ (y && x)
    and_comm true true = refl
    and_comm true false = refl
    and_comm false true = refl
    and_comm false false = refl

    same_rows : (e : ℕ) (ys : List Row) → has (λ x. is_lasting x && is_of e x) ys ≡ lasts ys e
    same_rows e [] = refl
    same_rows e (y ∷ ys) = rw (and_comm (is_lasting y) (is_of e y), same_rows e ys) refl

    same_places : (e : ℕ) (vs : List Waiter) → has (λ w. is_place w && is_place_of e w) vs ≡ has (is_place_of e) vs
    same_places e [] = refl
    same_places e ((n, Identifier) ∷ vs) = same_places e vs
    same_places e ((n, Place f r c) ∷ vs) = rw (same_places e vs) refl

    neither : (x y : Bool) → (x || y) ≡ true → ((true && not x) && not y) ≡ false
    neither true y k = refl
    neither false true k = refl
    neither false false k = absurd cc

    unheld : (ys : List Row) (vs : List Waiter) (b : Branch) → is_held ys vs b.enlistment.value ≡ true
        → ((true && not (has (λ x. is_lasting x && is_of b.enlistment.value x) ys)) && not (has (λ w. is_place w && is_place_of b.enlistment.value w) vs)) ≡ false
    unheld ys vs b k = rw (same_rows b.enlistment.value ys, same_places b.enlistment.value vs) (neither (lasts ys b.enlistment.value) (has (is_place_of b.enlistment.value) vs) k)

-- two numbers of one enlistment name the same
same_branch : (f e : ℕ) (x : Branch) → (f == e) ≡ true → is_branch f x ≡ true → is_branch e x ≡ true
same_branch f e x k h = grind (arith, nat_tests)

apart : (f e : ℕ) (x : Branch) → (f == e) ≡ false → is_branch f x ≡ true → is_branch e x ≡ true → ⊥
apart f e x k h g = let same : (f == e) ≡ true = grind (arith, nat_tests) in absurd cc

-- one that is there stays there beside another
still_kept : (f e : ℕ) (cs : List Branch) → (f == e) ≡ false → has (is_branch f) cs ≡ true → has (is_branch f) (filter (λ (x : Branch). not (is_branch e x)) cs) ≡ true
still_kept f e [] k h = h
still_kept f e (x ∷ cs) k h = at (is_branch e x) (is_branch f x) refl refl h (λ i. still_kept f e cs k i)
  where
    at : (p q : Bool) → is_branch e x ≡ p → is_branch f x ≡ q → (q || has (is_branch f) cs) ≡ true
        → (has (is_branch f) cs ≡ true → has (is_branch f) (filter (λ (y : Branch). not (is_branch e y)) cs) ≡ true)
        → has (is_branch f) (cond (not p) (x ∷ filter (λ (y : Branch). not (is_branch e y)) cs) (filter (λ (y : Branch). not (is_branch e y)) cs)) ≡ true
    at true true p q i ih = absurd (apart f e x k q p)
    at true false p q i ih = ih i
    at false true p q i ih = rw q refl
    at false false p q i ih = rw q (ih i)

still_there : (f : ℕ) (e : EnlNo) (r : RmNo) (bs : List Branch) (b : Bool) → (f == e.value) ≡ b → has (is_branch f) bs ≡ true → has (is_branch f) (with_branch e r bs) ≡ true
still_there f e r bs b k h =
    has-insert_by (is_branch f) branch_number (record { enlistment = e; manager = r; enlisted = false; aborted = false; acked = false; due = None }) (filter (λ (x : Branch). not (is_branch e.value x)) bs) ∙ by b k
  where
    by : (b : Bool) → (f == e.value) ≡ b → ((f == e.value) || has (is_branch f) (filter (λ (x : Branch). not (is_branch e.value x)) bs)) ≡ true
    by true k = rw k refl
    by false k = or_right (f == e.value) (has (is_branch f) (filter (λ (x : Branch). not (is_branch e.value x)) bs)) (still_kept f e.value bs k h)

-- ENLIST is sent for one that is held, before anything is decided
pub links-branched : (d : Bool) (xs : List Row) (ws : List Waiter) (bs : List Branch) (ns : List End) (e : EnlNo) (r : RmNo) → d ≡ false → is_held xs ws e.value ≡ true → how_many is_lasting xs + how_many is_place ws ≤ 16
    → AreLinked d xs ws bs ns → AreLinked d xs ws (with_branch e r bs) ns
links-branched d xs ws bs ns e r undecided mine few l =
    record {
      once = once;
      few = omega (arith, branches_few xs ws (with_branch e r bs) once held, few);
      held = λ k. held;
      known_once = l.known_once;
      of_branches = all_of_more bs (with_branch e r bs) ns (λ f k. still_there f e r bs (f == e.value) refl k) l.of_branches;
    }
  where
    step : (f : ℕ) (b : Bool) → (f == e.value) ≡ b
        → how_many (is_branch f) (with_branch e r bs) ≡ (if b then suc (how_many (is_branch f) (filter (λ (x : Branch). not (is_branch e.value x)) bs)) else how_many (is_branch f) (filter (λ (x : Branch). not (is_branch e.value x)) bs))
        → how_many (is_branch f) (with_branch e r bs) ≤ 1
    step f true k more =
        let none = how_many-filter-none (is_branch f) (λ (x : Branch). not (is_branch e.value x)) (λ x h. ap not (same_branch f e.value x k h)) bs in
        omega (arith, more, none)
    step f false k more = omega (arith, more, how_many-filter-le (is_branch f) (λ (x : Branch). not (is_branch e.value x)) bs, l.once f)

    once : (f : ℕ) → how_many (is_branch f) (with_branch e r bs) ≤ 1
    once f = step f (f == e.value) refl (how_many-insert_by (is_branch f) branch_number (record { enlistment = e; manager = r; enlisted = false; aborted = false; acked = false; due = None }) (filter (λ (x : Branch). not (is_branch e.value x)) bs))

    held : each (λ b. is_held xs ws b.enlistment.value) (with_branch e r bs) ≡ true
    held =
        each-insert_by (λ (b : Branch). is_held xs ws b.enlistment.value) branch_number (record { enlistment = e; manager = r; enlisted = false; aborted = false; acked = false; due = None }) (filter (λ (x : Branch). not (is_branch e.value x)) bs)
        ∙ and_both (is_held xs ws e.value) (each (λ b. is_held xs ws b.enlistment.value) (filter (λ (x : Branch). not (is_branch e.value x)) bs)) mine
        (each-filter (λ b. is_held xs ws b.enlistment.value) (λ (x : Branch). not (is_branch e.value x)) bs (l.held undecided))

branch_there : (e : EnlNo) (r : RmNo) (bs : List Branch) → has (is_branch e.value) (with_branch e r bs) ≡ true
branch_there e r bs =
    let itself : (e.value == e.value) ≡ true = grind (arith, nat_tests) in
    has-insert_by (is_branch e.value) branch_number (record { enlistment = e; manager = r; enlisted = false; aborted = false; acked = false; due = None }) (filter (λ (x : Branch). not (is_branch e.value x)) bs) ∙ rw itself refl

-- each of these is the end of one of them
own_end : (e : EnlNo) (cs : List Branch) → has (is_branch e.value) cs ≡ true → has (λ b. true && same_connection (Enl b.enlistment) (Enl e)) cs ≡ true
own_end e [] k = k
own_end e (b ∷ cs) k = by (is_branch e.value b) refl k (λ i. own_end e cs i)
  where
    by : (x : Bool) → is_branch e.value b ≡ x → (x || has (is_branch e.value) cs) ≡ true → (has (is_branch e.value) cs ≡ true → has (λ b. true && same_connection (Enl b.enlistment) (Enl e)) cs ≡ true)
        → ((b.enlistment.value == e.value) || has (λ b. true && same_connection (Enl b.enlistment) (Enl e)) cs) ≡ true
    by true q i ih = let same : (b.enlistment.value == e.value) ≡ true = grind (arith, nat_tests) in rw same refl
    by false q i ih = or_right (b.enlistment.value == e.value) (has (λ b. true && same_connection (Enl b.enlistment) (Enl e)) cs) (ih i)

own_return : (e : EnlNo) (cs : List Branch) → has (is_branch e.value) cs ≡ true → has (λ b. true && same_connection (Again b.enlistment) (Again e)) cs ≡ true
own_return e [] k = k
own_return e (b ∷ cs) k = by (is_branch e.value b) refl k (λ i. own_return e cs i)
  where
    by : (x : Bool) → is_branch e.value b ≡ x → (x || has (is_branch e.value) cs) ≡ true → (has (is_branch e.value) cs ≡ true → has (λ b. true && same_connection (Again b.enlistment) (Again e)) cs ≡ true)
        → ((b.enlistment.value == e.value) || has (λ b. true && same_connection (Again b.enlistment) (Again e)) cs) ≡ true
    by true q i ih = let same : (b.enlistment.value == e.value) ≡ true = grind (arith, nat_tests) in rw same refl
    by false q i ih = or_right (b.enlistment.value == e.value) (has (λ b. true && same_connection (Again b.enlistment) (Again e)) cs) (ih i)

-- the connections are at most 34
pub ends_few : (d : Bool) (xs : List Row) (ws : List Waiter) (bs : List Branch) (ns : List End) → AreLinked d xs ws bs ns → length ns ≤ 34
ends_few d xs ws bs ns l =
    let any : End → Bool = λ n. true in
    let own : Branch → Bool = λ b. true in
    let by_name : Conn → End → Bool = λ c n. is_end_of c n in
    let two = spread (λ (c : Conn). true) by_name any (Begin ∷ Voter ∷ []) ns l.known_once in
    let more : End → Bool = λ n. any n && not (has (λ (c : Conn). true && by_name c n) (Begin ∷ Voter ∷ [])) in
    let by_enlistment : Branch → End → Bool = λ b n. is_end_of (Enl b.enlistment) n in
    let by_return : Branch → End → Bool = λ b n. is_end_of (Again b.enlistment) n in
    let first = spread own by_enlistment more bs ns (λ b. l.known_once (Enl b.enlistment)) in
    let most : End → Bool = λ n. more n && not (has (λ b. own b && by_enlistment b n) bs) in
    let second = spread own by_return most bs ns (λ b. l.known_once (Again b.enlistment)) in
    let none = picked (λ n. most n && not (has (λ b. own b && by_return b n) bs)) (λ n. is_of_branch bs n.connection) ns l.of_branches (λ n k. no_other bs n.connection k) in
    omega (arith, how_many-all ns, how_many-all bs, l.few, two, first, second, none)
  where
    no_other : (cs : List Branch) (c : Conn) → is_of_branch cs c ≡ true
        → (((true && not (has (λ d. true && same_connection d c) (Begin ∷ Voter ∷ []))) && not (has (λ b. true && same_connection (Enl b.enlistment) c) cs)) && not (has (λ b. true && same_connection (Again b.enlistment) c) cs)) ≡ false
    no_other cs Begin k = refl
    no_other cs Voter k = refl
    no_other cs (Enl e) k = rw (own_end e cs k) refl
    no_other cs (Again e) k = rw (own_return e cs k) (and_never (not (has (λ b. true && same_connection (Enl b.enlistment) (Again e)) cs)))

module _ (d : Bool) (xs : List Row) (ws : List Waiter) (bs : List Branch) (ns : List End) (l : AreLinked d xs ws bs ns) where
  by_opening : (c : Conn) (t : ℕ) (o : Bool) → (o ≡ true → is_of_branch bs c ≡ true) → AreLinked d xs ws bs (if o then with_opened c t ns else map (note_sent c t) ns)
  by_opening c t true mine = links-opened d xs ws bs ns c t (mine refl) l
  by_opening c t false mine = links-noted d xs ws bs ns (note_sent c t) (sent_name c t) l

  by_line : (c : Conn) (t : ℕ) (b : Bool) → AreLinked d xs ws bs (if b then map (note_got c t) ns else map (note_end c) ns)
  by_line c t true = links-noted d xs ws bs ns (note_got c t) (got_name c t) l
  by_line c t false = links-noted d xs ws bs ns (note_end c) (end_name c) l

  by_branch : (c : Conn) (m : Message) → AreLinked d xs ws (branches_after (Got c Down m) bs) ns
  by_branch (Enl e) EnlistEnlisted = links-changed d xs ws bs ns e.value Enlisted l
  by_branch (Enl e) EnlistCommit = links-changed d xs ws bs ns e.value (Due (Some (Enl e))) l
  by_branch (Enl e) _ = l
  by_branch (Again e) ReenlistCommitted = links-changed d xs ws bs ns e.value (Due (Some (Again e))) l
  by_branch (Again e) _ = l
  by_branch Begin m = l
  by_branch Voter m = l

-- what a message that is sent changes
pub links-sent : (h : Half) (c : Conn) (m : Message) → MaySend h c m → how_many is_lasting h.seen.table + how_many is_place h.waits ≤ 16
    → AreLinked (is_some h.seen.decided) h.seen.table h.waits h.seen.branches h.seen.ends
    → AreLinked (is_some h.seen.decided) h.seen.table h.waits (branches_after (Sent c Up m) h.seen.branches) (ends_after (Sent c Up m) h.seen.ends)
links-sent h Begin m may few l = by_opening (is_some h.seen.decided) h.seen.table h.waits h.seen.branches h.seen.ends l Begin (tag_of m) (is_opening Begin m) (λ k. refl)
links-sent h Voter m may few l = by_opening (is_some h.seen.decided) h.seen.table h.waits h.seen.branches h.seen.ends l Voter (tag_of m) (is_opening Voter m) (λ k. refl)
links-sent h (Enl e) (EnlistEnlist i) may few l =
    let more = links-branched (is_some h.seen.decided) h.seen.table h.waits h.seen.branches h.seen.ends e i.rm may.0 may.1 few l in
    links-opened (is_some h.seen.decided) h.seen.table h.waits (with_branch e i.rm h.seen.branches) h.seen.ends (Enl e) (tag_of (EnlistEnlist i)) (branch_there e i.rm h.seen.branches) more
links-sent h (Enl e) m may few l = links-noted (is_some h.seen.decided) h.seen.table h.waits h.seen.branches h.seen.ends (note_sent (Enl e) (tag_of m)) (sent_name (Enl e) (tag_of m)) l
links-sent h (Again e) (ReenlistReenlist i) may few l = links-opened (is_some h.seen.decided) h.seen.table h.waits h.seen.branches h.seen.ends (Again e) (tag_of (ReenlistReenlist i)) may l
links-sent h (Again e) m may few l = links-noted (is_some h.seen.decided) h.seen.table h.waits h.seen.branches h.seen.ends (note_sent (Again e) (tag_of m)) (sent_name (Again e) (tag_of m)) l

-- what a message that is got changes, and what an end does
pub links-got : (d : Bool) (xs : List Row) (ws : List Waiter) (bs : List Branch) (ns : List End) (c : Conn) (m : Message) → AreLinked d xs ws bs ns
    → AreLinked d xs ws (branches_after (Got c Down m) bs) (ends_after (Got c Down m) ns)
links-got d xs ws bs ns c m l =
    by_branch d xs ws bs (ends_after (Got c Down m) ns) (by_line d xs ws bs ns l c (tag_of m) (has_line c Down m)) c m

pub links-ended : (d : Bool) (xs : List Row) (ws : List Waiter) (bs : List Branch) (ns : List End) (c : Conn) → AreLinked d xs ws bs ns → AreLinked d xs ws bs (ends_after (Ended c Down) ns)
links-ended d xs ws bs ns c l = links-noted d xs ws bs ns (note_end c) (end_name c) l

-- what is found by a number stands by its own
pub found_branch : (e : ℕ) (bs : List Branch) (b : Branch) → find (is_branch e) bs ≡ Some b → has (is_branch b.enlistment.value) bs ≡ true
found_branch e [] b k = absurd cc
found_branch e (x ∷ bs) b k = step (is_branch e x) k (λ g. found_branch e bs b g)
  where
    step : (d : Bool) → cond d (Some x) (find (is_branch e) bs) ≡ Some b → (find (is_branch e) bs ≡ Some b → has (is_branch b.enlistment.value) bs ≡ true) → has (is_branch b.enlistment.value) (x ∷ bs) ≡ true
    step true g ih =
        let same : b ≡ x = cc in
        let number : (b.enlistment.value == x.enlistment.value) ≡ true = rw same (grind (arith, nat_tests)) in
        rw number refl
    step false g ih = or_right (is_branch b.enlistment.value x) (has (is_branch b.enlistment.value) bs) (ih g)
