-- In a history that keeps the table: the enlistment that is handed over is durable or promotable, and until the promotion succeeds no other durable or promotable
-- stands.
use Rattle.std.proofs.Common.{◌≡◌, ℕ, ◌==◌, Bool, true, false, ◌&&◌, ◌||◌, List, [], ◌∷◌, Option, Some, None, refl, ◌∙◌, ap, sym, subst}
use Rattle.std.specs.Prelude.{filter, not, if◌then◌else◌}
use Rattle.std.proofs.lemmas.Bool.{eqb-true, or_left}
use Rattle.dtx_values.specs.declared.entry.Entry.{Entry}
use Rattle.dtx_values.specs.declared.entry.Entry.TheVariants.{Enlisted, Promoted, Promoting}
use Rattle.dtx_values.specs.declared.message.Conn.TheVariants.{Enl}
use Rattle.dtx_values.specs.declared.number.EnlNo.{EnlNo}
use Rattle.dtx_values.specs.declared.words.Cause.{Cause}
use Rattle.dtx_values.specs.declared.words.Class.{Class}
use Rattle.dtx_values.specs.Class.{is_volatile}
use Rattle.dtx_values.specs.Owners.{owner_of}
use Rattle.dtx_model.specs.Words.{each, has}
use Rattle.dtx_model.specs.Entries.{is_decision, is_promoted, is_sealed}
use Rattle.dtx_model.specs.Observed.{handover, rows}
use Rattle.dtx_model.specs.Outcome.{can_own, durables, enlisted, is_empty}
use Rattle.dtx_model.specs.Promotes.{is_promoting}
use Rattle.dtx_model.specs.Wires.{opens}
use Rattle.dtx_model.specs.Half.{is_handed}
use Rattle.dtx_model.proofs.Bools.{and_both, and_left, and_right, not_both, not_true, or_case, or_right}
use Rattle.history_table.proofs.Tests.{eq_swap, fourth_of_five, third_of_five}
use Rattle.history_table.proofs.EntryTests.{is_enlisted, is_only, is_lasting_of, is_there}
use Rattle.history_table.proofs.Table.{class_row, is_enlist_got, is_opening_got, stands_volatile}
use Rattle.history_table.proofs.Keeping.{Keeps, keeps_before, newest, third_of_three}
use Rattle.history_table.proofs.Scans.{has_more}
use Rattle.history_table.proofs.Standing.{opened_if_got}
use Rattle.history_table.proofs.HalfOwner.{enlist_opening, owner_none, owner_only}
use Rattle.history_table.proofs.HalfRows.{volatile_stands}
use Rattle.history_table.proofs.Handing.{IsHanding}

-- an enlistment is made once
enlisted_new : (f : EnlNo) (c : Class) (h : List Entry) → Keeps (Enlisted f c ∷ h) → has (is_enlisted f.value) h ≡ false
enlisted_new f c h k =
    not_true (has (is_enlisted f.value) h)
    (third_of_five (not (has is_decision h)) (not (has is_sealed h)) (not (has (is_enlisted f.value) h)) (class_row h f.value c) (not (is_volatile c && has (opens (Enl f)) h)) (newest (Enlisted f c) h k))

named_new : (e : ℕ) (f : EnlNo) (c : Class) (h : List Entry) → Keeps (Enlisted f c ∷ h) → has (is_enlisted e) h ≡ true → (e == f.value) ≡ true → ⊥
named_new e f c h k s q = not_both (has (is_enlisted e) h) s (let P : ℕ → Type 0 = λ n. has (is_enlisted n) h ≡ false in subst P (sym (eqb-true e f.value q)) (enlisted_new f c h k))

-- so a durable or promotable one is no volatile
pub lasting_firm : (e : ℕ) (h : List Entry) → Keeps h → has (is_lasting_of e) (enlisted h) ≡ true → stands_volatile e h ≡ false
lasting_firm e [] k t = refl
lasting_firm e (Enlisted f c ∷ h) k t = by (e == f.value) (is_volatile c) (has (is_lasting_of e) (enlisted h)) (stands_volatile e h) new (volatile_stands e h) (lasting_firm e h (keeps_before (Enlisted f c) h k)) (is_there e (λ c. not (is_volatile c)) h) t
  where
    new : has (is_enlisted e) h ≡ true → (e == f.value) ≡ true → ⊥
    new s q = named_new e f c h k s q

    by : (s v l w : Bool) → (has (is_enlisted e) h ≡ true → s ≡ true → ⊥) → (w ≡ true → has (is_enlisted e) h ≡ true) → (l ≡ true → w ≡ false) → (l ≡ true → has (is_enlisted e) h ≡ true)
        → ((s && not v) || l) ≡ true → ((s && v) || w) ≡ false
    by true v l true n p i q t = absurd (n (p refl) refl)
    by true false l false n p i q t = refl
    by true true true false n p i q t = absurd (n (q refl) refl)
    by true true false false n p i q t = absurd cc
    by false v l w n p i q t = i t
lasting_firm e (x ∷ h) k t = lasting_firm e h (keeps_before x h k) t

-- the only durable or promotable is one
only_lasting : (e : ℕ) (h : List Entry) → is_only e (durables h) ≡ true → has (is_lasting_of e) (enlisted h) ≡ true
only_lasting e h t = picked (enlisted h) (alone (durables h) t)
  where
    alone : (ds : List (EnlNo × Class)) → is_only e ds ≡ true → has (λ x. e == x.0.value) ds ≡ true
    alone [] t = absurd cc
    alone (x ∷ []) t = or_left (e == x.0.value) false (and_left (e == x.0.value) (can_own x.1) t)
    alone (x ∷ y ∷ ds) t = absurd cc

    picked : (xs : List (EnlNo × Class)) → has (λ x. e == x.0.value) (filter (λ x. not (is_volatile x.1)) xs) ≡ true → has (is_lasting_of e) xs ≡ true
    picked [] t = absurd cc
    picked (x ∷ xs) t = step (not (is_volatile x.1)) (picked xs) t
      where
        step : (b : Bool) → (has (λ x. e == x.0.value) (filter (λ x. not (is_volatile x.1)) xs) ≡ true → has (is_lasting_of e) xs ≡ true)
            → has (λ x. e == x.0.value) (if b then x ∷ filter (λ x. not (is_volatile x.1)) xs else filter (λ x. not (is_volatile x.1)) xs) ≡ true → (((e == x.0.value) && b) || has (is_lasting_of e) xs) ≡ true
        step true f t =
            or_case (e == x.0.value) (has (λ x. e == x.0.value) (filter (λ x. not (is_volatile x.1)) xs)) (λ q. or_left ((e == x.0.value) && true) (has (is_lasting_of e) xs) (and_both (e == x.0.value) true q refl))
            (λ q. or_right ((e == x.0.value) && true) (has (is_lasting_of e) xs) (f q)) t
        step false f t = or_right ((e == x.0.value) && false) (has (is_lasting_of e) xs) (f t)

-- before a promotion begins none did
unbegun : (c : Cause) (h : List Entry) → Keeps (Promoting c ∷ h) → has is_promoting h ≡ false
unbegun c h k = not_true (has is_promoting h) (third_of_three (not (has is_decision h)) (not (has is_sealed h)) (not (has is_promoting h)) (newest (Promoting c) h k))

-- the enlistment of the handover is durable or promotable
pub handed_lasting : (e : EnlNo) (h : List Entry) → Keeps h → handover h ≡ Some e → has (is_lasting_of e.value) (enlisted h) ≡ true
handed_lasting e [] k q = absurd cc
handed_lasting e (Promoting c ∷ h) k q = only_lasting e.value h (owner_only h e (keeps_before (Promoting c) h k) (unbegun c h k) q)
handed_lasting e (Enlisted f c ∷ h) k q = or_right ((e.value == f.value) && not (is_volatile c)) (has (is_lasting_of e.value) (enlisted h)) (handed_lasting e h (keeps_before (Enlisted f c) h k) q)
handed_lasting e (x ∷ h) k q = handed_lasting e h (keeps_before x h k) q

-- Where a promotion begins each is volatile, or that of the handover.
all_begun : (o : Option EnlNo) (h : List Entry) → Keeps h → has is_promoting h ≡ false → owner_of (rows h) ≡ o → each (λ x. is_volatile x.1 || is_handed o x.0.value) (enlisted h) ≡ true
all_begun o h k u q = spread (enlisted h) (by o q)
  where
    by : (o : Option EnlNo) → owner_of (rows h) ≡ o → each (λ x. is_handed o x.0.value) (durables h) ≡ true
    by None q = ap (each (λ x. is_handed None x.0.value)) (owner_none h k u q)
    by (Some e) q = alone (durables h) (owner_only h e k u q)
      where
        alone : (ds : List (EnlNo × Class)) → is_only e.value ds ≡ true → each (λ x. x.0.value == e.value) ds ≡ true
        alone [] t = absurd cc
        alone (x ∷ []) t = and_both (x.0.value == e.value) true (eq_swap x.0.value e.value ∙ and_left (e.value == x.0.value) (can_own x.1) t) refl
        alone (x ∷ y ∷ ds) t = absurd cc

    spread : (xs : List (EnlNo × Class)) → each (λ x. is_handed o x.0.value) (filter (λ x. not (is_volatile x.1)) xs) ≡ true → each (λ x. is_volatile x.1 || is_handed o x.0.value) xs ≡ true
    spread [] t = refl
    spread (x ∷ xs) t = step (is_volatile x.1) (spread xs) t
      where
        step : (v : Bool) → (each (λ x. is_handed o x.0.value) (filter (λ x. not (is_volatile x.1)) xs) ≡ true → each (λ x. is_volatile x.1 || is_handed o x.0.value) xs ≡ true)
            → each (λ x. is_handed o x.0.value) (if not v then x ∷ filter (λ x. not (is_volatile x.1)) xs else filter (λ x. not (is_volatile x.1)) xs) ≡ true
            → ((v || is_handed o x.0.value) && each (λ x. is_volatile x.1 || is_handed o x.0.value) xs) ≡ true
        step true f t = f t
        step false f t =
            and_both (is_handed o x.0.value) (each (λ x. is_volatile x.1 || is_handed o x.0.value) xs) (and_left (is_handed o x.0.value) (each (λ x. is_handed o x.0.value) (filter (λ x. not (is_volatile x.1)) xs)) t)
            (f (and_right (is_handed o x.0.value) (each (λ x. is_handed o x.0.value) (filter (λ x. not (is_volatile x.1)) xs)) t))

-- whoever came to the coordinator is that of the handover, until the promotion succeeds
come_handed : (e : EnlNo) (h : List Entry) → Keeps h → IsHanding h → has is_promoted h ≡ false → has (is_enlist_got e.value) h ≡ true → is_handed (handover h) e.value ≡ true
come_handed e h k a p t = a p e (opened_if_got (Enl e) h k (has_more (is_enlist_got e.value) (is_opening_got (Enl e)) (enlist_opening e) h t))

-- Until the promotion succeeds each that stands is volatile, or that of the handover.
pub only_handed : (h : List Entry) → Keeps h → IsHanding h → has is_promoting h ≡ true → has is_promoted h ≡ false → each (λ x. is_volatile x.1 || is_handed (handover h) x.0.value) (enlisted h) ≡ true
only_handed [] k a b p = refl
only_handed (Promoting c ∷ h) k a b p = all_begun (owner_of (rows h)) h (keeps_before (Promoting c) h k) (unbegun c h k) refl
only_handed (Promoted u c ∷ h) k a b p = absurd cc
only_handed (Enlisted e c ∷ h) k a b p =
    and_both (is_volatile c || is_handed (handover h) e.value) (each (λ x. is_volatile x.1 || is_handed (handover h) x.0.value) (enlisted h))
    (by (is_volatile c) (has (is_enlist_got e.value) h) (has is_promoting h) (can_own c) (is_empty (durables h)) b
    (fourth_of_five (not (has is_decision h)) (not (has is_sealed h)) (not (has (is_enlisted e.value) h)) (class_row h e.value c) (not (is_volatile c && has (opens (Enl e)) h)) (newest (Enlisted e c) h k))
    (come_handed e h (keeps_before (Enlisted e c) h k) a p)) (only_handed h (keeps_before (Enlisted e c) h k) a b p)
  where
    by : (v g p o n : Bool) → p ≡ true → (v || g || (not p && o && n)) ≡ true → (g ≡ true → is_handed (handover h) e.value ≡ true) → (v || is_handed (handover h) e.value) ≡ true
    by true g p o n b t f = refl
    by false true p o n b t f = f refl
    by false false true o n b t f = absurd cc
    by false false false o n b t f = absurd cc
only_handed (x ∷ h) k a b p = only_handed h (keeps_before x h k) (λ q f o. a q f (or_right (opens (Enl f) x) (has (opens (Enl f)) h) o)) b p
