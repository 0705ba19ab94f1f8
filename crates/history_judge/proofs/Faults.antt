-- The first place at which a history is at fault.
use Rattle.std.proofs.Common.{◌≡◌, ℕ, ◌+◌, ◌<◌, Bool, true, false, List, length, get_or, take, refl, ap, sym, ◌∙◌}
use Rattle.dtx_values.specs.declared.entry.Entry.{Entry}
use Rattle.dtx_model.specs.Words.{past_of}
use Rattle.dtx_model.specs.Outcome.{is_just, justified, agree}
use Rattle.history_judge.specs.Judge.{IsNotJustifiedAt, IsDisagreementAt}
use Rattle.dtx_model.proofs.Prefixes.{just-more, unjust-later, disagree-later}

-- what the first i entries tell is just, and agrees
pub record IsGoodTo (h : List Entry) (i : ℕ) : Type 0 where
  pub just : justified (past_of (take i h)) ≡ true
  pub agrees : agree (past_of (take i h)) ≡ true

-- none are good
pub good_at_first : (xs : List Entry) → IsGoodTo xs 0
unfolding justified agree
good_at_first xs = record { just = refl; agrees = refl }

-- whether the entry at i is just, by its name
just_there : (xs : List Entry) (i : ℕ) (x : Entry) (b : Bool) → x ≡ get_or xs i x → b ≡ is_just (past_of (take i xs)) x → is_just (past_of (take i xs)) (get_or xs i x) ≡ b
just_there xs i x b e f = ap (λ (y : Entry). is_just (past_of (take i xs)) y) (sym e) ∙ sym f

still_just : (xs : List Entry) (i : ℕ) (x : Entry) → i < length xs → x ≡ get_or xs i x → IsGoodTo xs i → true ≡ is_just (past_of (take i xs)) x → justified (past_of (take (i + 1) xs)) ≡ true
still_just xs i x k e g f = just-more xs i x k ∙ rw (just_there xs i x true e f, g.just) refl

pub good_more : (xs : List Entry) (i : ℕ) (x : Entry) → i < length xs → x ≡ get_or xs i x → IsGoodTo xs i → true ≡ is_just (past_of (take i xs)) x → true ≡ agree (past_of (take (i + 1) xs)) → IsGoodTo xs (i + 1)
good_more xs i x k e g f a = record { just = still_just xs i x k e g f; agrees = sym a }

pub not_just_at : (xs : List Entry) (i : ℕ) (x : Entry) → i < length xs → x ≡ get_or xs i x → IsGoodTo xs i → false ≡ is_just (past_of (take i xs)) x → IsNotJustifiedAt xs i
not_just_at xs i x k e g f = record { within = k; just = g.just; agrees = g.agrees; fault = just-more xs i x k ∙ rw (just_there xs i x false e f) refl }

pub disagrees_at : (xs : List Entry) (i : ℕ) (x : Entry) → i < length xs → x ≡ get_or xs i x → IsGoodTo xs i → true ≡ is_just (past_of (take i xs)) x → false ≡ agree (past_of (take (i + 1) xs)) → IsDisagreementAt xs i
disagrees_at xs i x k e g f a = record { within = k; just = g.just; agrees = g.agrees; still_just = still_just xs i x k e g f; fault = sym a }

-- a history with a fault isn't fine
pub not_fine : (xs : List Entry) (i : ℕ) → IsNotJustifiedAt xs i → justified (past_of xs) ≡ true → ⊥
not_fine xs i w p = let q = unjust-later xs (i + 1) w.fault in cc

pub no_agreement : (xs : List Entry) (i : ℕ) → IsDisagreementAt xs i → agree (past_of xs) ≡ true → ⊥
no_agreement xs i w p = let q = disagree-later xs (i + 1) w.fault in cc
