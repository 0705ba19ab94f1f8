-- The transactions of a run by number: the one at a place, one that is put there, and one more at the end.
use Rattle.std.proofs.Common.{◌≡◌, ◌≢◌, ◌⊎◌, ℕ, ◌+◌, ◌-◌, ◌<◌, ◌≤◌, List, [], ◌∷◌, ◌++◌, length, get_or, set, ap, sym, ◌∙◌, arith, inl, inr, subst, length-append, length-set}
use Rattle.std.proofs.lemmas.Bool.{cases_lt}
use Rattle.std.proofs.lemmas.Bool.Decides.{eqb_tells}
use Rattle.std.proofs.lemmas.List.{get_or_append_left, get_or_past, get_or_push, get_or_read, get_or-set_other, get_or-set_same}
use Rattle.dtx_values.specs.declared.number.TxNo.{TxNo}
use Rattle.dtx_values.specs.TxIds.{first_id}
use Rattle.dtx_values.specs.declared.number.TheConstants.TxNo.{MAX}
use Rattle.dtx_values.proofs.SameNumbers.{same_transaction}
use Rattle.tx_world.specs.State.{TxState}
use Rattle.turn_parts.specs.Runs.{untouched}
use Rattle.replay_runs.specs.RunState.{AreNumbered, state_of}

-- a transaction is this one or another
pub is_it : (u t : TxNo) → (u ≡ t) ⊎ (u ≢ t)
is_it u t = elim (eqb_tells u.value t.value) [ inl k ↦ inl (same_transaction u t k.1) | inr k ↦ inr (λ e. k.1 (ap (λ (v : TxNo). v.value) e)) ]

-- others have other places
apart : (u t : TxNo) → u ≢ t → u.value - 1 ≢ t.value - 1
apart u t n = λ e. n (same_transaction u t (omega (arith, e, u.in_range.0, t.in_range.0)))

-- what stands at t's place is transaction t
pub state_reached : (t : TxNo) (ws : List TxState) (x : TxState) → t.value ≤ length ws → x ≡ get_or ws (t.value - 1) x → state_of t ws ≡ x
state_reached t ws x made e =
    let within : t.value - 1 < length ws = omega (arith, made, t.in_range.0) in
    sym (get_or_read ws (t.value - 1) x within e (untouched t))

-- and so it is, where it is indexed
pub state_indexed : (t : TxNo) (ws : List TxState) (x : TxState) (i : ℕ) → i ≡ t.value - 1 → t.value ≤ length ws → x ≡ get_or ws i x → state_of t ws ≡ x
state_indexed t ws x i place made e = state_reached t ws x made (subst (λ (j : ℕ). x ≡ get_or ws j x) place e)

-- and beyond them it is untouched
pub state_unreached : (t : TxNo) (ws : List TxState) → length ws < t.value → state_of t ws ≡ untouched t
state_unreached t ws more = get_or_past ws (t.value - 1) (untouched t) (omega (arith, more))

-- The transaction that is put at t's place is t, and the others are as before.
pub state_here : (t : TxNo) (ws : List TxState) (y : TxState) → t.value ≤ length ws → state_of t (set ws (t.value - 1) y) ≡ y
state_here t ws y made = get_or-set_same ws (t.value - 1) y (untouched t) (omega (arith, made, t.in_range.0))

pub state_there : (u t : TxNo) (ws : List TxState) (y : TxState) → u ≢ t → state_of u (set ws (t.value - 1) y) ≡ state_of u ws
state_there u t ws y n = get_or-set_other ws (t.value - 1) (u.value - 1) y (untouched u) (apart u t n)

-- each keeps its number
pub numbered_set : (t : TxNo) (ws : List TxState) (y : TxState) → AreNumbered ws → t.value ≤ length ws → y.transaction ≡ (state_of t ws).transaction → AreNumbered (set ws (t.value - 1) y)
numbered_set t ws y n made same =
    record {
      few = subst (λ (k : ℕ). k ≤ MAX) (sym (length-set ws (t.value - 1) y)) n.few;
      numbered = λ u. elim (is_it u t) [
        | inl e ↦
            subst (λ (v : TxNo). (state_of v (set ws (t.value - 1) y)).transaction ≡ first_id v) (sym e)
            (ap (λ (x : TxState). x.transaction) (state_here t ws y made) ∙ (same ∙ n.numbered t))
        | inr k ↦ ap (λ (x : TxState). x.transaction) (state_there u t ws y k) ∙ n.numbered u
      ];
    }

-- One more that is untouched changes none.
pub state_pushed : (t : TxNo) (ws : List TxState) (x : TxState) → length ws + 1 ≡ t.value → x ≡ untouched t → (u : TxNo) → state_of u (ws ++ x ∷ []) ≡ state_of u ws
state_pushed t ws x next blank u = elim (is_it u t) [ inl e ↦ subst (λ (v : TxNo). state_of v (ws ++ x ∷ []) ≡ state_of v ws) (sym e) own | inr k ↦ other k (cases_lt (u.value - 1) (length ws)) ]
  where
    own : state_of t (ws ++ x ∷ []) ≡ state_of t ws
    own =
        get_or_push ws x (untouched t) (t.value - 1) (omega (arith, next)) ∙ (blank ∙ sym (state_unreached t ws (omega (arith, next))))

    other : u ≢ t → ((u.value - 1 < length ws) ⊎ (length ws ≤ u.value - 1)) → state_of u (ws ++ x ∷ []) ≡ state_of u ws
    other k (inl low) = get_or_append_left ws (x ∷ []) (untouched u) (u.value - 1) low
    other k (inr high) =
        let far : u.value - 1 ≢ t.value - 1 = apart u t k in
        get_or_past (ws ++ x ∷ []) (u.value - 1) (untouched u) (omega (arith, high, far, next, length-append ws (x ∷ []))) ∙ sym (get_or_past ws (u.value - 1) (untouched u) high)

-- before the first call there is none
pub numbered_none : AreNumbered []
numbered_none = record { few = omega arith; numbered = λ t. ap (λ (x : TxState). x.transaction) (state_unreached t [] (omega (arith, t.in_range.0))) }

-- where none is as before but in what is untouched, and there are not too many, each has its number
pub numbered_same : (ws vs : List TxState) → AreNumbered ws → length vs ≤ MAX → ((u : TxNo) → state_of u vs ≡ state_of u ws) → AreNumbered vs
numbered_same ws vs n few same = record { few = few; numbered = λ u. ap (λ (x : TxState). x.transaction) (same u) ∙ n.numbered u }
