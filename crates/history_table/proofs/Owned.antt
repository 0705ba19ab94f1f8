-- What the rows and the listeners show of the owner of the commit, of who hears of doubt, and of who is lost.
use Rattle.std.proofs.Common.{◌≡◌, Bool, ◌||◌, List, [], ◌∷◌, refl, ◌∙◌, ap, true, false, ◌&&◌, sym, ◌==◌, ℕ, map, Some, Option, None}
use Rattle.std.specs.Prelude.{if◌then◌else◌, filter, not, nat_lt, is_some}
use Rattle.std.proofs.lemmas.Bool.{or_left}
use Rattle.dtx_values.specs.declared.number.EnlNo.{EnlNo}
use Rattle.dtx_values.specs.declared.entry.Ask.TheVariants.{Prepare}
use Rattle.dtx_values.specs.declared.entry.Entry.{Entry}
use Rattle.dtx_values.specs.declared.entry.Entry.TheVariants.{Enlisted, Asked, Voted, Handed, Told, Lost, Reenlisted, Decided, Promoting}
use Rattle.dtx_values.specs.declared.entry.Party.TheVariants.{Enl}
use Rattle.dtx_values.specs.declared.words.Class.{Class}
use Rattle.dtx_values.specs.declared.row.Row.{Row}
use Rattle.dtx_values.specs.Table.{marks, insert_by}
use Rattle.dtx_values.specs.Class.{is_volatile}
use Rattle.dtx_values.specs.Owners.{only, lasting, owner_of}
use Rattle.dtx_values.specs.Row.{is_of, number_of, fresh_row, mark_row, vote_row, is_lasting}
use Rattle.dtx_values.specs.Vote.{still_hears}
use Rattle.dtx_values.specs.Waves.{hears}
use Rattle.dtx_model.specs.declared.listener.Listener.{Listener}
use Rattle.dtx_model.specs.Words.{has, latest}
use Rattle.dtx_model.specs.Entries.{is_any_hand, handed_of, is_decision, decision_of}
use Rattle.dtx_model.specs.Observed.{rows, listener_number, come_back, hear, listeners, lose, handover}
use Rattle.dtx_model.specs.Outcome.{enlisted, hears_doubt, durables, is_empty, can_own}
use Rattle.dtx_model.specs.Half.{is_handed}
use Rattle.dtx_model.proofs.Bools.{and_never, and_left, or_first, or_second, and_right, not_both, or_right}
use Rattle.history_table.proofs.Lists.{has_kept, if_kept, has-insert}
use Rattle.history_table.proofs.Scans.{has_more}
use Rattle.history_table.proofs.Tests.{eq_self}
use Rattle.history_table.proofs.EntryTests.{is_only, is_enlisted}
use Rattle.history_table.proofs.TableRows.{enlisted_in_rows}

-- what some row passes by its number and class, some enlistment passes
pub has_rows : (f : EnlNo → Class → Bool) (h : List Entry) → has (λ x. f x.number x.class) (rows h) ≡ has (λ x. f x.0 x.1) (enlisted h)
has_rows f [] = refl
has_rows f (Enlisted e c ∷ h) = has-insert (λ x. f x.number x.class) number_of (fresh_row e c (marks (rows h))) (rows h) ∙ ap (λ b. f e c || b) (has_rows f h)
has_rows f (Asked e Prepare ∷ h) =
    has_kept (λ x. f x.number x.class) (λ x. if is_of e.value x then (mark_row (marks (rows h)) x) else x)
    (λ x. if_kept (λ x. f x.number x.class) (is_of e.value x) (mark_row (marks (rows h)) x) x refl) (rows h) ∙ has_rows f h
has_rows f (Voted e v ∷ h) =
    has_kept (λ x. f x.number x.class) (λ x. if is_of e.value x then (vote_row v x) else x)
    (λ x. if_kept (λ x. f x.number x.class) (is_of e.value x) (vote_row v x) x refl) (rows h) ∙ has_rows f h
has_rows f (x ∷ h) = has_rows f h

-- some of those that pass p pass q where some pass both
pub has_filter : {A : Type 0} (q p : A → Bool) (xs : List A) → has q (filter p xs) ≡ has (λ x. q x && p x) xs
has_filter q p [] = refl
has_filter q p (x ∷ xs) = step q x (p x) (filter p xs) (has (λ y. q y && p y) xs) (has_filter q p xs)
  where
    true_last : (b : Bool) → b ≡ (b && true)
    true_last true = refl
    true_last false = refl

    step : {A : Type 0} (q : A → Bool) (x : A) (b : Bool) (ys : List A) (c : Bool) → has q ys ≡ c → has q (if b then x ∷ ys else ys) ≡ ((q x && b) || c)
    step q x true ys c e = ap (λ d. q x || d) e ∙ ap (λ d. d || c) (true_last (q x))
    step q x false ys c e = e ∙ sym (ap (λ d. d || c) (and_never (q x)))

-- a volatile that hears the outcome hears of doubt
pub volatile_hears : (h : List Entry) (e : EnlNo) → hears (rows h) e.value ≡ true → hears_doubt h (Enl e) ≡ true
unfolding hears
volatile_hears h e k =
    has_filter (λ x. e.value == x.0.value) (λ x. is_volatile x.1) (enlisted h)
    ∙ sym (has_rows (λ f c. (e.value == f.value) && is_volatile c) h)
    ∙ has_more (λ x. is_of e.value x && is_volatile x.class && still_hears x.vote) (λ x. is_of e.value x && is_volatile x.class)
    (λ x. and_left (is_of e.value x && is_volatile x.class) (still_hears x.vote)) (rows h) k

-- none passes: none is picked
pub filter_none : {A : Type 0} (p : A → Bool) (xs : List A) → has p xs ≡ false → filter p xs ≡ []
filter_none p [] h = refl
filter_none p (x ∷ xs) h = let first : p x ≡ false = or_first (p x) (has p xs) h in rw first (filter_none p xs (or_second (p x) (has p xs) h))

-- where no row is durable or promotable, no enlistment is
pub none_lasting : (h : List Entry) → has is_lasting (rows h) ≡ false → durables h ≡ []
none_lasting h k = filter_none (λ x. not (is_volatile x.1)) (enlisted h) (sym (has_rows (λ e c. not (is_volatile c)) h) ∙ k)

-- where no enlistment is durable or promotable, no row is
pub lasting_none : (h : List Entry) → durables h ≡ [] → has is_lasting (rows h) ≡ false
lasting_none h k = has_rows (λ e c. not (is_volatile c)) h ∙ nothing (λ x. not (is_volatile x.1)) (enlisted h) k
  where
    step : {A : Type 0} (b : Bool) (x : A) (ys : List A) (c : Bool) → (ys ≡ [] → c ≡ false) → (if b then x ∷ ys else ys) ≡ [] → (b || c) ≡ false
    step true x ys c f e = absurd cc
    step false x ys c f e = f e

    nothing : {A : Type 0} (p : A → Bool) (xs : List A) → filter p xs ≡ [] → has p xs ≡ false
    nothing p [] e = refl
    nothing p (x ∷ xs) e = step (p x) x (filter p xs) (has p xs) (nothing p xs) e

-- one more at its place that doesn't pass is not picked
pub insert_other : {A : Type 0} (p : A → Bool) (key : A → ℕ) (x : A) (xs : List A) → p x ≡ false → filter p (insert_by key x xs) ≡ filter p xs
insert_other p key x [] f = rw f refl
insert_other p key x (y ∷ ys) f = step p (nat_lt (key y) (key x)) x y ys (insert_by key x ys) f (insert_other p key x ys f)
  where
    step : {A : Type 0} (p : A → Bool) (b : Bool) (x y : A) (ys rest : List A) → p x ≡ false → filter p rest ≡ filter p ys → filter p (if b then y ∷ rest else x ∷ y ∷ ys) ≡ filter p (y ∷ ys)
    step p true x y ys rest f e = ap (λ zs. if p y then y ∷ zs else zs) e
    step p false x y ys rest f e = rw f refl

-- one more at its place that alone passes is picked
pub insert_alone : {A : Type 0} (p : A → Bool) (key : A → ℕ) (x : A) (xs : List A) → p x ≡ true → has p xs ≡ false → filter p (insert_by key x xs) ≡ x ∷ []
insert_alone p key x [] t n = rw t refl
insert_alone p key x (y ∷ ys) t n =
    step p (nat_lt (key y) (key x)) x y ys (insert_by key x ys) t (or_first (p y) (has p ys) n) (filter_none p ys (or_second (p y) (has p ys) n))
    (insert_alone p key x ys t (or_second (p y) (has p ys) n))
  where
    step : {A : Type 0} (p : A → Bool) (b : Bool) (x y : A) (ys rest : List A) → p x ≡ true → p y ≡ false → filter p ys ≡ [] → filter p rest ≡ x ∷ []
        → filter p (if b then y ∷ rest else x ∷ y ∷ ys) ≡ x ∷ []
    step p true x y ys rest t f n e = rw f e
    step p false x y ys rest t f n e = rw (t, f, n) refl

-- what is picked of changed items is what is made of those picked
pub filter-map : {A : Type 0} (p : A → Bool) (f : A → A) → ((x : A) → p (f x) ≡ p x) → (xs : List A) → filter p (map f xs) ≡ map f (filter p xs)
filter-map p f same [] = refl
filter-map p f same (x ∷ xs) = ap (λ b. if b then f x ∷ filter p (map f xs) else filter p (map f xs)) (same x) ∙ step f x (p x) (filter p xs) (filter p (map f xs)) (filter-map p f same xs)
  where
    step : {A : Type 0} (f : A → A) (x : A) (b : Bool) (ys zs : List A) → zs ≡ map f ys → (if b then f x ∷ zs else zs) ≡ map f (if b then x ∷ ys else ys)
    step f x true ys zs e = ap (λ l. f x ∷ l) e
    step f x false ys zs e = e

-- the only one keeps its name
only-map : (f : Row → Row) → ((x : Row) → (f x).number ≡ x.number) → (xs : List Row) → only (map f xs) ≡ only xs
only-map f same [] = refl
only-map f same (x ∷ []) = ap (λ e. Some e) (same x)
only-map f same (x ∷ y ∷ xs) = refl

-- one of two of one name has that name
pub if_named : (b : Bool) (y x : Row) → y.number ≡ x.number → (if b then y else x).number ≡ x.number
if_named true y x e = e
if_named false y x e = refl

-- rows that keep name and class have the same owner
pub kept_owner : (f : Row → Row) → ((x : Row) → is_lasting (f x) ≡ is_lasting x) → ((x : Row) → (f x).number ≡ x.number) → (xs : List Row)
    → only (lasting (map f xs)) ≡ only (lasting xs)
kept_owner f same name xs = ap only (filter-map is_lasting f same xs) ∙ only-map f name (lasting xs)

-- the name of the one durable or promotable
abbrev pub only_of : List (EnlNo × Class) → Option EnlNo
only_of [] = None
only_of (x ∷ []) = Some x.0
only_of (x ∷ y ∷ xs) = None

-- what is empty has nothing
pub empty_list : {A : Type 0} (xs : List A) → is_empty xs ≡ true → xs ≡ []
empty_list [] e = refl
empty_list (x ∷ xs) e = absurd cc

-- at most one stands, and it can own the commit
abbrev pub is_single_owner : List (EnlNo × Class) → Bool
is_single_owner [] = true
is_single_owner (x ∷ []) = can_own x.1
is_single_owner (x ∷ y ∷ xs) = false

-- A history in which each enlistment that comes is volatile, or the first durable or promotable, and can own the commit.
pub record Owning (K : List Entry → Type 0) : Type 0 where
  pub before : (x : Entry) (h : List Entry) → K (x ∷ h) → K h
  pub class : (e : EnlNo) (c : Class) (h : List Entry) → K (Enlisted e c ∷ h) → (is_volatile c || (can_own c && is_empty (durables h))) ≡ true

module _ {K : List Entry → Type 0} (o : Owning K) where
  -- the owner by the rows is the one durable or promotable of the history
  owner_by : (h : List Entry) → K h → owner_of (rows h) ≡ only_of (durables h)
  unfolding owner_of
  owner_by [] r = refl
  owner_by (Enlisted e c ∷ h) r = step e c h (o.class e c h r) (owner_by h (o.before (Enlisted e c) h r)) (is_volatile c) refl
    where
      step : (e : EnlNo) (c : Class) (h : List Entry) → (is_volatile c || (can_own c && is_empty (durables h))) ≡ true → only (lasting (rows h)) ≡ only_of (durables h)
          → (b : Bool) → is_volatile c ≡ b → only (lasting (rows (Enlisted e c ∷ h))) ≡ only_of (if not (is_volatile c) then (e, c) ∷ durables h else durables h)
      step e c h k ih true v = rw v (ap only (insert_other is_lasting number_of (fresh_row e c (marks (rows h))) (rows h) (ap (λ b. not b) v)) ∙ ih)
      step e c h k ih false v =
          let first : (false || (can_own c && is_empty (durables h))) ≡ true = rw v at k in
          let bare : durables h ≡ [] = empty_list (durables h) (and_right (can_own c) (is_empty (durables h)) first) in
          rw (v, bare) (ap only (insert_alone is_lasting number_of (fresh_row e c (marks (rows h))) (rows h) (ap (λ b. not b) v) (lasting_none h bare)))
  owner_by (Asked e Prepare ∷ h) r =
      kept_owner (λ x. if is_of e.value x then (mark_row (marks (rows h)) x) else x) (λ x. if_kept is_lasting (is_of e.value x) (mark_row (marks (rows h)) x) x refl)
      (λ x. if_named (is_of e.value x) (mark_row (marks (rows h)) x) x refl) (rows h) ∙ owner_by h (o.before (Asked e Prepare) h r)
  owner_by (Voted e v ∷ h) r =
      kept_owner (λ x. if is_of e.value x then (vote_row v x) else x) (λ x. if_kept is_lasting (is_of e.value x) (vote_row v x) x refl)
      (λ x. if_named (is_of e.value x) (vote_row v x) x refl) (rows h) ∙ owner_by h (o.before (Voted e v) h r)
  owner_by (x ∷ h) r = owner_by h (o.before x h r)

  -- at most one durable or promotable stands, and it can own the commit
  single_by : (h : List Entry) → K h → is_single_owner (durables h) ≡ true
  single_by [] r = refl
  single_by (Enlisted e c ∷ h) r = step e c (durables h) (is_volatile c) (o.class e c h r) (single_by h (o.before (Enlisted e c) h r))
    where
      step : (e : EnlNo) (c : Class) (ds : List (EnlNo × Class)) (v : Bool) → (v || (can_own c && is_empty ds)) ≡ true → is_single_owner ds ≡ true
          → is_single_owner (if not v then (e, c) ∷ ds else ds) ≡ true
      step e c ds true k s = s
      step e c [] false k s = and_left (can_own c) true k
      step e c (x ∷ xs) false k s = absurd (not_both (can_own c && false) k (and_never (can_own c)))
  single_by (x ∷ h) r = single_by h (o.before x h r)

  -- the owner by the rows is the only durable or promotable, and can own the commit
  pub only_by : (h : List Entry) (e : EnlNo) → K h → owner_of (rows h) ≡ Some e → is_only e.value (durables h) ≡ true
  only_by h e r q = step e (durables h) (single_by h r) (sym (owner_by h r) ∙ q)
    where
      step : (e : EnlNo) (ds : List (EnlNo × Class)) → is_single_owner ds ≡ true → only_of ds ≡ Some e → is_only e.value ds ≡ true
      step e [] s o = absurd cc
      step e (x ∷ []) s o = let same : x.0 ≡ e = cc in rw (ap (λ f. f.value) same, eq_self e.value) s
      step e (x ∷ y ∷ ds) s o = absurd cc

  -- where the rows have no owner, nothing is durable or promotable
  pub none_by : (h : List Entry) → K h → owner_of (rows h) ≡ None → durables h ≡ []
  none_by h r q = step (durables h) (single_by h r) (sym (owner_by h r) ∙ q)
    where
      step : (ds : List (EnlNo × Class)) → is_single_owner ds ≡ true → only_of ds ≡ None → ds ≡ []
      step [] s o = refl
      step (x ∷ []) s o = absurd cc
      step (x ∷ y ∷ ds) s o = absurd cc

-- the commit was handed over by what is observed where it was by the history
pub any_hand_seen : (h : List Entry) → is_some (latest handed_of h) ≡ has is_any_hand h
any_hand_seen [] = refl
any_hand_seen (Handed f ∷ h) = refl
any_hand_seen (x ∷ h) = any_hand_seen h

-- each enlistment is a listener
pub listens : (n : ℕ) (h : List Entry) → has (λ l. n == l.enlistment.value) (listeners h) ≡ has (is_enlisted n) h
listens n [] = refl
listens n (Enlisted e c ∷ h) =
    has-insert (λ l. n == l.enlistment.value) listener_number (record { enlistment = e; told = false; lost = false }) (listeners h) ∙ ap (λ b. (n == e.value) || b) (listens n h)
listens n (Told (Enl e) o ∷ h) = has_kept (λ l. n == l.enlistment.value) (hear e.value) (λ l. refl) (listeners h) ∙ listens n h
listens n (Lost e ∷ h) = has_kept (λ l. n == l.enlistment.value) (lose e.value) (λ l. refl) (listeners h) ∙ listens n h
listens n (Reenlisted e ∷ h) = has_kept (λ l. n == l.enlistment.value) (come_back e.value) (λ l. refl) (listeners h) ∙ listens n h
listens n (x ∷ h) = listens n h

-- the listener is lost where its enlistment is
abbrev pub is_lost_listener : ℕ → Listener → Bool
is_lost_listener n l = (n == l.enlistment.value) && l.lost

-- what was decided last was decided
pub decision_seen : (h : List Entry) → is_some (latest decision_of h) ≡ has is_decision h
decision_seen [] = refl
decision_seen (Decided x ∷ h) = refl
decision_seen (x ∷ h) = decision_seen h

-- the handover of a promotion was enlisted
pub handover_stands : (e : ℕ) (h : List Entry) → is_handed (handover h) e ≡ true → has (is_enlisted e) h ≡ true
unfolding owner_of
handover_stands e [] k = absurd cc
handover_stands e (Promoting c ∷ h) k =
    sym (enlisted_in_rows e h) ∙ has_more (λ x. is_of e x && is_lasting x) (is_of e) (λ x a. and_left (is_of e x) (is_lasting x) a) (rows h) (sym (has_filter (is_of e) is_lasting (rows h)) ∙ alone (lasting (rows h)) k)
  where
    alone : (xs : List Row) → is_handed (only xs) e ≡ true → has (is_of e) xs ≡ true
    alone [] k = absurd cc
    alone (x ∷ []) k = or_left (is_of e x) false k
    alone (x ∷ y ∷ ys) k = absurd cc
handover_stands e (x ∷ h) k = or_right (is_enlisted e x) (has (is_enlisted e) h) (handover_stands e h k)
