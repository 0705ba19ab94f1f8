-- Where a promotion succeeds: with the cause for which it began, and after the ENLISTED of the handover, if there was one. So the success that the local side
-- enters is called for.
use Rattle.std.proofs.Common.{◌≡◌, ◌==◌, ◌∙◌, ℕ, Bool, true, false, ◌&&◌, List, [], ◌∷◌, ◌++◌, Option, Some, None, refl, ap, subst, sym}
use Rattle.std.specs.Prelude.{not}
use Rattle.std.proofs.lemmas.Bool.{eqb-true}
use Rattle.dtx_values.specs.declared.entry.Entry.{Entry}
use Rattle.dtx_values.specs.declared.entry.Entry.TheVariants.{Promoted, Promoting}
use Rattle.dtx_values.specs.declared.number.EnlNo.{EnlNo}
use Rattle.dtx_values.specs.declared.script.Line.{Line}
use Rattle.dtx_values.specs.declared.words.Cause.{Cause}
use Rattle.dtx_values.specs.declared.words.Cause.TheVariants.{Two, Second, Beside, Marshal}
use Rattle.dtx_values.specs.declared.words.Class.{Class}
use Rattle.dtx_values.specs.Owners.{owner_of}
use Rattle.dtx_model.specs.Words.{always, each, has, latest, onto}
use Rattle.dtx_model.specs.Entries.{is_decision, is_sealed}
use Rattle.dtx_model.specs.Observed.{cause_of_promotion, handover, rows}
use Rattle.dtx_model.specs.Outcome.{can_own, durables}
use Rattle.std.specs.List.{flat_map}
use Rattle.dtx_model.specs.declared.waiting.Wanted.TheVariants.{Identifier, Place}
use Rattle.dtx_model.specs.Waiting.{Waiter}
use Rattle.dtx_model.specs.Half.{given, is_handed, promoted_by}
use Rattle.dtx_model.specs.Promotes.{before_promotion, identifier_of, is_enlisted_got, is_handed_over, is_promoting, is_promoting_for, same_cause}
use Rattle.dtx_model.proofs.Bools.{and_both, and_left, and_right, not_true}
use Rattle.history_table.proofs.Tests.{eq_self}
use Rattle.history_table.proofs.EntryTests.{is_only}
use Rattle.history_table.proofs.Keeping.{Keeps, keeps_before, newest, third_of_three}
use Rattle.history_table.proofs.HalfOwner.{owner_none, owner_only}
use Rattle.script_histories.proofs.Ordered.{is_called_for}

-- the history before the promotion began keeps the table and began none, and its owner is the handover
record IsBefore (h g : List Entry) : Type 0 where
  keeps : Keeps g
  unpromoting : has is_promoting g ≡ false
  owner : handover h ≡ owner_of (rows g)

start_of : (h : List Entry) → Keeps h → has is_promoting h ≡ true → IsBefore h (before_promotion h)
start_of [] k p = absurd cc
start_of (Promoting c ∷ h) k p =
    record {
      keeps = keeps_before (Promoting c) h k;
      unpromoting = not_true (has is_promoting h) (third_of_three (not (has is_decision h)) (not (has is_sealed h)) (not (has is_promoting h)) (newest (Promoting c) h k));
      owner = refl;
    }
start_of (x ∷ h) k p = let w = start_of h (keeps_before x h k) p in record { keeps = w.keeps; unpromoting = w.unpromoting; owner = w.owner }

-- where nothing durable or promotable stood at the start, all of it is handed over
pub none_to_hand : (h : List Entry) → Keeps h → has is_promoting h ≡ true → handover h ≡ None → is_handed_over h ≡ true
none_to_hand h k p n =
    let w = start_of h k p in
    ap (λ ds. each (λ x. has (is_enlisted_got x.0.value) h) ds) (owner_none (before_promotion h) w.keeps w.unpromoting (sym w.owner ∙ n))

-- and so it is where the ENLISTED of the handover was got
pub one_handed : (h : List Entry) (e : EnlNo) → Keeps h → has is_promoting h ≡ true → handover h ≡ Some e → has (is_enlisted_got e.value) h ≡ true → is_handed_over h ≡ true
one_handed h e k p n g =
    let w = start_of h k p in step (durables (before_promotion h)) (owner_only (before_promotion h) e w.keeps w.unpromoting (sym w.owner ∙ n))
  where
    step : (ds : List (EnlNo × Class)) → is_only e.value ds ≡ true → each (λ x. has (is_enlisted_got x.0.value) h) ds ≡ true
    step [] o = absurd cc
    step (x ∷ []) o =
        let same : e.value ≡ x.0.value = eqb-true e.value x.0.value (and_left (e.value == x.0.value) (can_own x.1) o) in
        and_both (has (is_enlisted_got x.0.value) h) true (subst (λ n. has (is_enlisted_got n) h ≡ true) same g) refl
    step (x ∷ y ∷ ds) o = absurd cc

-- the cause that the local side knows is that for which the promotion began
pub own_cause : (c : Cause) → same_cause c c ≡ true
own_cause Two = refl
own_cause Second = refl
own_cause Beside = refl
own_cause Marshal = refl

pub cause_began : (c : Cause) (h : List Entry) → latest cause_of_promotion h ≡ Some c → has (is_promoting_for c) h ≡ true
cause_began c [] e = absurd cc
cause_began c (Promoting d ∷ h) e = let same : d ≡ c = cc in rw (same, own_cause c) refl
cause_began c (x ∷ h) e = cause_began c h e

-- the success that the local side enters, when the handover is over
pub success_called : (s : List Line) (t : ℕ) (c : Cause) (h : List Entry) → latest cause_of_promotion h ≡ Some c → is_handed_over h ≡ true → is_called_for s t h (Promoted (identifier_of t) c) ≡ true
success_called s t c h e o =
    and_both (has (is_promoting_for c) h && (identifier_of t == identifier_of t)) (is_handed_over h)
    (and_both (has (is_promoting_for c) h) (identifier_of t == identifier_of t) (cause_began c h e) (eq_self (identifier_of t))) o

-- neither the start nor the success of a promotion
abbrev pub is_other : Entry → Bool
is_other (Promoting c) = false
is_other (Promoted u c) = false
is_other _ = true

-- such entries are called for
pub others_called : (s : List Line) (t : ℕ) (h es : List Entry) → each is_other es ≡ true → always (is_called_for s t) h ≡ true → always (is_called_for s t) (onto h es) ≡ true
others_called s t h [] u r = r
others_called s t h (x ∷ es) u r =
    others_called s t (x ∷ h) es (and_right (is_other x) (each is_other es) u)
    (and_both (is_called_for s t h x) (always (is_called_for s t) h) (one x (and_left (is_other x) (each is_other es) u)) r)
  where
    one : (x : Entry) → is_other x ≡ true → is_called_for s t h x ≡ true
    one (Promoting c) k = absurd cc
    one (Promoted u c) k = absurd cc
    one _ k = refl

given_other : (t : ℕ) (ws : List Waiter) → each is_other (flat_map (given t) ws) ≡ true
given_other t [] = refl
given_other t ((n, Identifier) ∷ ws) = given_other t ws
given_other t ((n, Place e r c) ∷ ws) = given_other t ws

-- what the local side enters when the handover is over is called for
pub over_called : (s : List Line) (t : ℕ) (h : List Entry) (ws : List Waiter) → is_handed_over h ≡ true → always (is_called_for s t) h ≡ true
    → always (is_called_for s t) (onto h (promoted_by t (latest cause_of_promotion h) ++ flat_map (given t) ws)) ≡ true
over_called s t h ws o r = step (latest cause_of_promotion h) refl
  where
    step : (c : Option Cause) → latest cause_of_promotion h ≡ c → always (is_called_for s t) (onto h (promoted_by t c ++ flat_map (given t) ws)) ≡ true
    step None e = others_called s t h (flat_map (given t) ws) (given_other t ws) r
    step (Some c) e =
        others_called s t (Promoted (identifier_of t) c ∷ h) (flat_map (given t) ws) (given_other t ws)
        (and_both (is_called_for s t h (Promoted (identifier_of t) c)) (always (is_called_for s t) h) (success_called s t c h e o) r)

-- the same, as the local side asks it of the enlistment whose ENLISTED it got
pub own_handed : (h : List Entry) (n : ℕ) → Keeps h → has is_promoting h ≡ true → is_handed (handover h) n ≡ true → has (is_enlisted_got n) h ≡ true → is_handed_over h ≡ true
own_handed h n k p t g = step (handover h) refl t
  where
    step : (o : Option EnlNo) → handover h ≡ o → is_handed o n ≡ true → is_handed_over h ≡ true
    step None e t = absurd cc
    step (Some f) e t = one_handed h f k p e (subst (λ m. has (is_enlisted_got m) h ≡ true) (eqb-true n f.value t) g)
