-- Where COMMIT for a single phase is got, exactly one enlistment came: each whose connection was opened stands since the seal, they are one durable, and its ENLIST came once.
use Rattle.std.proofs.Common.{◌≡◌, ℕ, suc, ◌==◌, Bool, true, false, ◌&&◌, ◌||◌, List, [], ◌∷◌, refl, ◌∙◌, ap, sym, subst}
use Rattle.std.specs.Prelude.{filter, not, if◌then◌else◌}
use Rattle.std.proofs.lemmas.Bool.{eqb-true, false_from_ne_true, or_left}
use Rattle.dtx_values.specs.declared.entry.Entry.{Entry}
use Rattle.dtx_values.specs.declared.entry.Entry.TheVariants.{Got}
use Rattle.dtx_values.specs.declared.message.Conn.TheVariants.{Begin, Enl}
use Rattle.dtx_values.specs.declared.message.Dir.TheVariants.{Up}
use Rattle.dtx_values.specs.declared.message.Message.TheVariants.{BeginCommitOne, EnlistEnlist}
use Rattle.dtx_values.specs.declared.number.EnlNo.{EnlNo}
use Rattle.dtx_values.specs.declared.words.Class.{Class}
use Rattle.dtx_values.specs.declared.words.Class.TheVariants.{DurableSingle}
use Rattle.dtx_values.specs.Class.{is_single_class, is_volatile}
use Rattle.dtx_values.specs.Lines.{is_opening}
use Rattle.dtx_values.specs.Table.{how_many}
use Rattle.dtx_model.specs.Words.{always, each, has}
use Rattle.dtx_model.specs.Entries.{is_enlist_got as is_any_enlist, is_sealed}
use Rattle.dtx_model.specs.Outcome.{durables, enlisted, is_lone}
use Rattle.dtx_model.specs.Wires.{in_transit}
use Rattle.dtx_model.proofs.Bools.{and_both, and_left, and_right, not_both, not_false, or_case, or_first, or_right, or_second}
use Rattle.history_table.proofs.Tests.{eq_self}
use Rattle.history_table.proofs.Scans.{has_more}
use Rattle.history_table.proofs.Owned.{has_filter}
use Rattle.history_table.proofs.EntryTests.{is_volatile_of}
use Rattle.history_table.proofs.Table.{is_enlist_got, is_lone_owner, is_opening_got}
use Rattle.history_table.proofs.Keeping.{Keeps, keeps_before}
use Rattle.history_table.proofs.HalfOwner.{enlist_opening}
use Rattle.history_table.proofs.Leading.{next_stands, none_again}
use Rattle.history_table.proofs.LetDecide.{lone_if_one}
use Rattle.history_table.proofs.Recording.{come_if_promoted}
use Rattle.history_table.proofs.Sendings.{promoted_if_commit}
use Rattle.history_table.proofs.Standing.{opened_if_got, unvolatile_if_opened}
use Rattle.settled_histories.proofs.AllCome.{AreStood, now_stood, stands_listed}
use Rattle.settled_histories.proofs.Fine.{is_lone_asked}

-- no ENLIST came, so none is counted
none_counted : (h : List Entry) → has is_any_enlist h ≡ false → how_many is_any_enlist h ≡ 0
none_counted [] n = refl
none_counted (x ∷ h) n = rw (or_first (is_any_enlist x) (has is_any_enlist h) n) (none_counted h (or_second (is_any_enlist x) (has is_any_enlist h) n))

-- whose ENLIST came
enlist_name : (h : List Entry) → has is_any_enlist h ≡ true → (e : EnlNo) × (has (is_enlist_got e.value) h ≡ true)
enlist_name [] t = absurd cc
enlist_name (Got (Enl e) Up (EnlistEnlist i) ∷ h) t = (e, or_left (e.value == e.value) (has (is_enlist_got e.value) h) (eq_self e.value))
enlist_name (x ∷ h) t = let v = enlist_name h t in (v.0, or_right (is_enlist_got v.0.value x) (has (is_enlist_got v.0.value) h) v.1)

-- where all that came have one name, one came
count_one : (n : ℕ) (h : List Entry) → Keeps h → ((e : EnlNo) → has (is_enlist_got e.value) h ≡ true → (e.value == n) ≡ true) → has (is_enlist_got n) h ≡ true → how_many is_any_enlist h ≡ 1
count_one n [] k f t = absurd cc
count_one n (Got (Enl e) Up (EnlistEnlist i) ∷ h) k f t = ap suc (none_counted h (false_from_ne_true (has is_any_enlist h) (λ a. twice (enlist_name h a))))
  where
    own : e.value ≡ n
    own = eqb-true e.value n (f e (or_left (e.value == e.value) (has (is_enlist_got e.value) h) (eq_self e.value)))

    twice : (g : EnlNo) × (has (is_enlist_got g.value) h ≡ true) → ⊥
    twice v =
        let same : v.0.value ≡ e.value = eqb-true v.0.value n (f v.0 (or_right (v.0.value == e.value) (has (is_enlist_got v.0.value) h) v.1)) ∙ sym own in
        let P : ℕ → Type 0 = λ m. has (is_enlist_got m) h ≡ true in
        not_both (has (is_opening (Enl e)) (in_transit (Enl e) Up h)) (next_stands (is_opening (Enl e)) (EnlistEnlist i) (in_transit (Enl e) Up h) k.wires.0 refl)
        (none_again (Enl e) h refl (keeps_before (Got (Enl e) Up (EnlistEnlist i)) h k) (has_more (is_enlist_got e.value) (is_opening_got (Enl e)) (enlist_opening e) h (subst P same v.1)))
count_one n (x ∷ h) k f t = count_one n h (keeps_before x h k) (λ e q. f e (or_right (is_enlist_got e.value x) (has (is_enlist_got e.value) h) q)) t

-- whose connection was opened is durable or promotable, once it is sealed
lasting_listed : (e : EnlNo) (xs : List (EnlNo × Class)) → has (is_volatile_of e.value) xs ≡ false → has (λ x. e.value == x.0.value) xs ≡ true → has (λ x. (e.value == x.0.value) && not (is_volatile x.1)) xs ≡ true
lasting_listed e [] v t = absurd cc
lasting_listed e (x ∷ xs) v t =
    or_case (e.value == x.0.value) (has (λ y. e.value == y.0.value) xs)
    (λ q. or_left ((e.value == x.0.value) && not (is_volatile x.1)) _
    (and_both (e.value == x.0.value) (not (is_volatile x.1)) q
    (not_false (is_volatile x.1) (false_from_ne_true (is_volatile x.1) (λ w. not_both (is_volatile_of e.value x) (and_both (e.value == x.0.value) (is_volatile x.1) q w) (or_first (is_volatile_of e.value x) (has (is_volatile_of e.value) xs) v))))))
    (λ q. or_right ((e.value == x.0.value) && not (is_volatile x.1)) _ (lasting_listed e xs (or_second (is_volatile_of e.value x) (has (is_volatile_of e.value) xs) v) q)) t

lone_here : (h : List Entry) → Keeps (Got Begin Up BeginCommitOne ∷ h) → AreStood h → is_lone h ≡ true
lone_here h k a = by (durables h) (and_right (has is_sealed h) (is_lone_owner (durables h)) sealed_lone) come listed
  where
    past : Keeps h
    past = keeps_before (Got Begin Up BeginCommitOne) h k

    sealed_lone : (has is_sealed h && is_lone_owner (durables h)) ≡ true
    sealed_lone = lone_if_one (Got Begin Up BeginCommitOne ∷ h) k refl

    come : each (λ x. is_volatile x.1 || has (is_enlist_got x.0.value) h) (durables h) ≡ true
    come = each_filtered (enlisted h) (come_if_promoted h past (promoted_if_commit (Got Begin Up BeginCommitOne ∷ h) k refl))
      where
        each_filtered : (xs : List (EnlNo × Class)) → each (λ x. is_volatile x.1 || has (is_enlist_got x.0.value) h) xs ≡ true
            → each (λ x. is_volatile x.1 || has (is_enlist_got x.0.value) h) (filter (λ x. not (is_volatile x.1)) xs) ≡ true
        each_filtered [] t = refl
        each_filtered (x ∷ xs) t = step (not (is_volatile x.1)) (and_left (is_volatile x.1 || has (is_enlist_got x.0.value) h) _ t) (each_filtered xs (and_right (is_volatile x.1 || has (is_enlist_got x.0.value) h) _ t))
          where
            step : (b : Bool) → (is_volatile x.1 || has (is_enlist_got x.0.value) h) ≡ true
                → each (λ x. is_volatile x.1 || has (is_enlist_got x.0.value) h) (filter (λ x. not (is_volatile x.1)) xs) ≡ true
                → each (λ x. is_volatile x.1 || has (is_enlist_got x.0.value) h) (if b then x ∷ filter (λ x. not (is_volatile x.1)) xs else filter (λ x. not (is_volatile x.1)) xs) ≡ true
            step true p q = and_both (is_volatile x.1 || has (is_enlist_got x.0.value) h) _ p q
            step false p q = q

    listed : (e : EnlNo) → has (is_enlist_got e.value) h ≡ true → has (λ x. e.value == x.0.value) (durables h) ≡ true
    listed e t =
        let opened = opened_if_got (Enl e) h past (has_more (is_enlist_got e.value) (is_opening_got (Enl e)) (enlist_opening e) h t) in
        has_filter (λ x. e.value == x.0.value) (λ x. not (is_volatile x.1)) (enlisted h)
        ∙ lasting_listed e (enlisted h) (unvolatile_if_opened e h past opened) (stands_listed e h (now_stood h a (and_left (has is_sealed h) (is_lone_owner (durables h)) sealed_lone) e opened))

    by : (ds : List (EnlNo × Class)) → is_lone_owner ds ≡ true → each (λ x. is_volatile x.1 || has (is_enlist_got x.0.value) h) ds ≡ true
        → ((e : EnlNo) → has (is_enlist_got e.value) h ≡ true → has (λ x. e.value == x.0.value) ds ≡ true) → is_lone h ≡ true
    by [] o c f = absurd cc
    by (x ∷ []) o c f = ap (λ n. n == 1) (count_one x.0.value h past (λ e t. alone (e.value == x.0.value) (f e t)) (came x.1 (has (is_enlist_got x.0.value) h) o (and_left (is_volatile x.1 || has (is_enlist_got x.0.value) h) true c)))
      where
        alone : (b : Bool) → (b || false) ≡ true → b ≡ true
        alone true t = refl
        alone false t = absurd cc

        came : (c : Class) (b : Bool) → is_single_class c ≡ true → (is_volatile c || b) ≡ true → b ≡ true
        came DurableSingle b s t = t
        came c b s t = absurd cc
    by (x ∷ y ∷ ds) o c f = absurd cc

-- so it is at each COMMIT for a single phase
pub lone_stood : (h : List Entry) → Keeps h → AreStood h → always is_lone_asked h ≡ true
lone_stood [] k a = refl
lone_stood (x ∷ h) k a = and_both (is_lone_asked h x) (always is_lone_asked h) (one x k) (lone_stood h (keeps_before x h k) a.1)
  where
    one : (x : Entry) → Keeps (x ∷ h) → is_lone_asked h x ≡ true
    one (Got Begin Up BeginCommitOne) k = lone_here h k a.1
    one _ k = refl
