-- The owner of the commit, by the rows and by the entries of a history that keeps the table and in which no promotion began.
use Rattle.std.proofs.Common.{◌≡◌, Bool, true, false, ◌&&◌, ◌||◌, ◌∙◌, List, [], ◌∷◌, map, Some, None, ap, refl, sym}
use Rattle.std.specs.Prelude.{filter, find, is_some, nat_lt, not, Option, if◌then◌else◌}
use Rattle.dtx_values.specs.declared.entry.Ask.TheVariants.{Prepare}
use Rattle.dtx_values.specs.declared.entry.Entry.{Entry}
use Rattle.dtx_values.specs.declared.entry.Entry.TheVariants.{Asked, Enlisted, Got, Voted}
use Rattle.dtx_values.specs.declared.message.Conn.TheVariants.{Enl as OnEnl}
use Rattle.dtx_values.specs.declared.message.Dir.TheVariants.{Up}
use Rattle.dtx_values.specs.declared.message.Message.TheVariants.{EnlistEnlist}
use Rattle.dtx_values.specs.declared.number.EnlNo.{EnlNo}
use Rattle.dtx_values.specs.declared.row.Row.{Row}
use Rattle.dtx_values.specs.declared.words.Class.{Class}
use Rattle.dtx_values.specs.declared.words.Class.TheVariants.{Promotable}
use Rattle.dtx_values.specs.Class.{is_promotable, is_single_class, is_volatile}
use Rattle.dtx_values.specs.Owners.{commits_alone, is_lone_single, lasting, owner_of}
use Rattle.dtx_values.specs.Row.{fresh_row, is_lasting, is_of, mark_row, number_of, vote_row}
use Rattle.dtx_values.specs.Table.{insert_by, marks}
use Rattle.dtx_values.specs.Waves.{name_of}
use Rattle.dtx_model.specs.Acts.{promotable_in}
use Rattle.dtx_model.specs.Words.{has}
use Rattle.dtx_model.specs.Entries.{is_decision, is_sealed}
use Rattle.dtx_model.specs.Observed.{rows}
use Rattle.dtx_model.specs.Outcome.{can_own, durables, enlisted, is_empty}
use Rattle.dtx_model.specs.Promotes.{is_promoting}
use Rattle.dtx_model.specs.Wires.{opens}
use Rattle.dtx_model.proofs.Bools.{and_both, not_both, or_case, or_second}
use Rattle.history_table.proofs.Tests.{fourth_of_five}
use Rattle.history_table.proofs.Scans.{find_none, has_more}
use Rattle.history_table.proofs.Lists.{if_kept}
use Rattle.history_table.proofs.EntryTests.{has_promotable, is_enlisted, is_only}
use Rattle.history_table.proofs.Owned.{Owning, filter-map, filter_none, has_filter, has_rows, insert_alone, insert_other, none_by, only_by}
use Rattle.history_table.proofs.Table.{class_row, is_enlist_got, is_lone_owner, is_opening_got, rule}
use Rattle.history_table.proofs.Keeping.{Keeps, keeps_before, newest}
use Rattle.history_table.proofs.Sendings.{opened_promoting}
use Rattle.history_table.proofs.Standing.{opened_if_got}

-- whose ENLIST came is of a promotion
pub enlist_opening : (e : EnlNo) (x : Entry) → is_enlist_got e.value x ≡ true → is_opening_got (OnEnl e) x ≡ true
enlist_opening e (Got (OnEnl f) Up (EnlistEnlist i)) t = rw t refl
enlist_opening e _ t = absurd cc

pub come_promoting : (e : EnlNo) (h : List Entry) → Keeps h → has (is_enlist_got e.value) h ≡ true → has is_promoting h ≡ true
come_promoting e h k g = opened_promoting (OnEnl e) h k (opened_if_got (OnEnl e) h k (has_more (is_enlist_got e.value) (is_opening_got (OnEnl e)) (enlist_opening e) h g))

-- an enlistment that comes while no promotion began is volatile, or it is the first durable or promotable and can own the commit
enlisted_class : (e : EnlNo) (c : Class) (h : List Entry) → Keeps h → has is_promoting h ≡ false → rule h (Enlisted e c) ≡ true → (is_volatile c || (can_own c && is_empty (durables h))) ≡ true
enlisted_class e c h k u r =
    let row : class_row h e.value c ≡ true =
    fourth_of_five (not (has is_decision h)) (not (has is_sealed h)) (not (has (is_enlisted e.value) h)) (class_row h e.value c) (not (is_volatile c && has (opens (OnEnl e)) h)) r in
    step (is_volatile c) (has (is_enlist_got e.value) h) (not (has is_promoting h)) (can_own c) (is_empty (durables h)) (λ g. not_both (has is_promoting h) (come_promoting e h k g) u) row
  where
    step : (v g p o n : Bool) → (g ≡ true → ⊥) → (v || g || (p && o && n)) ≡ true → (v || (o && n)) ≡ true
    step true g p o n f k = refl
    step false true p o n f k = absurd (f refl)
    step false false true o n f k = k
    step false false false o n f k = absurd cc

-- a history that keeps the table, in which no promotion began
owning : Owning (λ h. Keeps h × (has is_promoting h ≡ false))
owning =
    record {
      before = λ x h k. (keeps_before x h k.0, or_second (is_promoting x) (has is_promoting h) k.1);
      class = λ e c h k. enlisted_class e c h (keeps_before (Enlisted e c) h k.0) k.1 (newest (Enlisted e c) h k.0);
    }

-- the owner by the rows is the only durable or promotable, and can own the commit
pub owner_only : (h : List Entry) (e : EnlNo) → Keeps h → has is_promoting h ≡ false → owner_of (rows h) ≡ Some e → is_only e.value (durables h) ≡ true
owner_only h e r u o = only_by owning h e (r, u) o

-- where the rows have no owner, nothing is durable or promotable
pub owner_none : (h : List Entry) → Keeps h → has is_promoting h ≡ false → owner_of (rows h) ≡ None → durables h ≡ []
owner_none h r u o = none_by owning h (r, u) o

-- The rows show whether a promotable stands,
pub rows_promotable : (h : List Entry) → has (λ x. is_promotable x.class) (rows h) ≡ has_promotable h
rows_promotable h = has_rows (λ (f : EnlNo) (c : Class). is_promotable c) h

pub none_promotable : (h : List Entry) → is_some (promotable_in (rows h)) ≡ false → has_promotable h ≡ false
none_promotable h t = sym (rows_promotable h) ∙ find_none (λ x. is_promotable x.class) (rows h) (by (find (λ x. is_promotable x.class) (rows h)) t)
  where
    by : (o : Option Row) → is_some (name_of o) ≡ false → o ≡ None
    by (Some x) t = absurd cc
    by None t = refl

-- and whether the durables and promotables are one durable that can own the commit.
lone_more : (x : Row) (ys : List Row) → is_empty ys ≡ false → is_lone_single (x ∷ ys) ≡ false
lone_more x [] n = absurd cc
lone_more x (y ∷ ys) n = refl

some_picked : {A : Type 0} (p : A → Bool) (xs : List A) → has p xs ≡ true → is_empty (filter p xs) ≡ false
some_picked p [] t = absurd cc
some_picked p (x ∷ xs) t = by (p x) t (some_picked p xs)
  where
    by : (b : Bool) → (b || has p xs) ≡ true → (has p xs ≡ true → is_empty (filter p xs) ≡ false) → is_empty (if b then x ∷ filter p xs else filter p xs) ≡ false
    by true t f = refl
    by false t f = f t

some_inserted : (x : Row) (xs : List Row) → is_lasting x ≡ true → is_empty (lasting (insert_by number_of x xs)) ≡ false
some_inserted x [] t = rw t refl
some_inserted x (y ∷ ys) t = by (nat_lt (number_of y) (number_of x)) (some_inserted x ys t)
  where
    behind : (b : Bool) (zs : List Row) → is_empty zs ≡ false → is_empty (if b then y ∷ zs else zs) ≡ false
    behind true zs n = refl
    behind false zs n = n

    by : (b : Bool) → is_empty (lasting (insert_by number_of x ys)) ≡ false → is_empty (lasting (if b then y ∷ insert_by number_of x ys else x ∷ y ∷ ys)) ≡ false
    by true n = behind (is_lasting y) (lasting (insert_by number_of x ys)) n
    by false n = rw t refl

-- one more beside another makes several
beside : (x : Row) (xs : List Row) → is_lasting x ≡ true → has is_lasting xs ≡ true → is_lone_single (lasting (insert_by number_of x xs)) ≡ false
beside x [] t s = absurd cc
beside x (y ∷ ys) t s = by (beside x ys t) (nat_lt (number_of y) (number_of x)) (is_lasting y) refl
  where
    first : (b : Bool) → is_lasting y ≡ b → is_lone_single (lasting (x ∷ y ∷ ys)) ≡ false
    first true q = rw (t, q) refl
    first false q = rw (t, q) (lone_more x (lasting ys) (some_picked is_lasting ys (or_case (is_lasting y) (has is_lasting ys) (λ a. absurd (not_both (is_lasting y) a q)) (λ a. a) s)))

    by : (has is_lasting ys ≡ true → is_lone_single (lasting (insert_by number_of x ys)) ≡ false) → (b c : Bool) → is_lasting y ≡ c → is_lone_single (lasting (if b then y ∷ insert_by number_of x ys else x ∷ y ∷ ys)) ≡ false
    by f true true q = rw q (lone_more y (lasting (insert_by number_of x ys)) (some_inserted x ys t))
    by f true false q = rw q (f (or_case (is_lasting y) (has is_lasting ys) (λ a. absurd (not_both (is_lasting y) a q)) (λ a. a) s))
    by f false true q = first true q
    by f false false q = first false q

lone_map : (f : Row → Row) → ((x : Row) → is_single_class (f x).class ≡ is_single_class x.class) → (xs : List Row) → is_lone_single (map f xs) ≡ is_lone_single xs
lone_map f same [] = refl
lone_map f same (x ∷ []) = same x
lone_map f same (x ∷ y ∷ xs) = refl

lone_kept : (f : Row → Row) → ((x : Row) → is_lasting (f x) ≡ is_lasting x) → ((x : Row) → is_single_class (f x).class ≡ is_single_class x.class) → (xs : List Row)
    → is_lone_single (lasting (map f xs)) ≡ is_lone_single (lasting xs)
lone_kept f last same xs = ap is_lone_single (filter-map is_lasting f last xs) ∙ lone_map f same (lasting xs)

pub lone_seen : (h : List Entry) → commits_alone (rows h) ≡ is_lone_owner (durables h)
lone_seen [] = refl
lone_seen (Enlisted e c ∷ h) = step (lone_seen h) (is_volatile c) refl
  where
    row : Row
    row = fresh_row e c (marks (rows h))

    beside_none : (b : Bool) → has is_lasting (rows h) ≡ b → is_volatile c ≡ false → is_lone_single (lasting (insert_by number_of row (rows h))) ≡ is_lone_owner ((e, c) ∷ durables h)
    beside_none true s v = beside row (rows h) (ap (λ b. not b) v) s ∙ sym (several (durables h) (some_picked (λ x. not (is_volatile x.1)) (enlisted h) (sym (has_rows (λ (f : EnlNo) (d : Class). not (is_volatile d)) h) ∙ s)))
      where
        several : (ds : List (EnlNo × Class)) → is_empty ds ≡ false → is_lone_owner ((e, c) ∷ ds) ≡ false
        several [] n = absurd cc
        several (d ∷ ds) n = refl
    beside_none false s v =
        ap is_lone_single (insert_alone is_lasting number_of row (rows h) (ap (λ b. not b) v) s)
        ∙ sym (ap (λ ds. is_lone_owner ((e, c) ∷ ds)) (filter_none (λ x. not (is_volatile x.1)) (enlisted h) (sym (has_rows (λ (f : EnlNo) (d : Class). not (is_volatile d)) h) ∙ s)))

    step : commits_alone (rows h) ≡ is_lone_owner (durables h) → (v : Bool) → is_volatile c ≡ v → is_lone_single (lasting (insert_by number_of row (rows h))) ≡ is_lone_owner (if not (is_volatile c) then (e, c) ∷ durables h else durables h)
    step f true v = ap is_lone_single (insert_other is_lasting number_of row (rows h) (ap (λ b. not b) v)) ∙ f ∙ ap (λ b. is_lone_owner (if not b then (e, c) ∷ durables h else durables h)) (sym v)
    step f false v = beside_none (has is_lasting (rows h)) refl v ∙ ap (λ b. is_lone_owner (if not b then (e, c) ∷ durables h else durables h)) (sym v)
lone_seen (Asked e Prepare ∷ h) =
    lone_kept (λ x. if is_of e.value x then (mark_row (marks (rows h)) x) else x) (λ x. if_kept is_lasting (is_of e.value x) (mark_row (marks (rows h)) x) x refl)
    (λ x. if_kept (λ y. is_single_class y.class) (is_of e.value x) (mark_row (marks (rows h)) x) x refl) (rows h) ∙ lone_seen h
lone_seen (Voted e v ∷ h) =
    lone_kept (λ x. if is_of e.value x then (vote_row v x) else x) (λ x. if_kept is_lasting (is_of e.value x) (vote_row v x) x refl)
    (λ x. if_kept (λ y. is_single_class y.class) (is_of e.value x) (vote_row v x) x refl) (rows h) ∙ lone_seen h
lone_seen (x ∷ h) = lone_seen h

-- where a promotable stands there is no such durable
pub unlone_if_promotable : (h : List Entry) → has_promotable h ≡ true → is_lone_owner (durables h) ≡ false
unlone_if_promotable h t =
    by (durables h)
    (has_filter (λ x. is_promotable x.1) (λ x. not (is_volatile x.1)) (enlisted h)
    ∙ has_more (λ x. is_promotable x.1) (λ x. is_promotable x.1 && not (is_volatile x.1)) (λ x p. and_both (is_promotable x.1) (not (is_volatile x.1)) p (lasts x.1 p)) (enlisted h) t)
  where
    lasts : (c : Class) → is_promotable c ≡ true → not (is_volatile c) ≡ true
    lasts Promotable p = refl
    lasts _ p = absurd cc

    other : (c : Class) → (is_promotable c || false) ≡ true → is_single_class c ≡ false
    other Promotable p = refl
    other _ p = absurd cc

    by : (ds : List (EnlNo × Class)) → has (λ x. is_promotable x.1) ds ≡ true → is_lone_owner ds ≡ false
    by [] p = absurd cc
    by (x ∷ []) p = other x.1 p
    by (x ∷ y ∷ ds) p = refl
