-- A trace that keeps what is checked is found fine by its text.
use Rattle.std.proofs.Common.{◌≡◌, ℕ, ◌+◌, ◌==◌, Bool, true, false, cond, List, [], ◌∷◌, map, refl, ap, sym, subst, ◌∙◌}
use Rattle.std.proofs.lemmas.Bool.{eqb-true}
use Rattle.dtx_values.specs.declared.message.Conn.TheVariants.{Begin}
use Rattle.dtx_values.specs.declared.number.TxNo.{TxNo}
use Rattle.dtx_values.specs.declared.trace.Place.TheVariants.{Context, Transaction, Log}
use Rattle.dtx_model.specs.Outcome.{agree, justified}
use Rattle.dtx_model.specs.Traces.{Placed, history}
use Rattle.dtx_model.specs.TraceText.{is_fit, trace_text}
use Rattle.dtx_model.specs.Wires.{WireRun}
use Rattle.dtx_model.specs.Words.{each, past_of}
use Rattle.trace_checker.specs.Keeps.{Keeps}
use Rattle.trace_lines.specs.OneTrace.{is_carried_at, is_typed_at, told_at}
use Rattle.trace_lines.proofs.OneTrace.{text_one}
use Rattle.fine_texts.proofs.Filling.{all_anew, all_carried, all_filled, all_typed, filled, filled_at, info_on}
use Rattle.fine_texts.proofs.Mapping.{past_of-map}
use Rattle.fine_texts.proofs.Outcomes.{agree_there, justified_there}
use Rattle.fine_texts.proofs.Wiring.{wires_there}

-- the identifier of a transaction
abbrev id_of : ℕ → ℕ
id_of t = 18446744073709551616 + t

-- a transaction's history in the filled trace is its history, filled
filled_history : (t : ℕ) (T : List Placed) → history t (map filled_at T) ≡ map (filled (id_of t)) (history t T)
unfolding filled_at
filled_history t [] = refl
filled_history t ((Context a, x) ∷ T) = filled_history t T
filled_history t ((Log, x) ∷ T) = filled_history t T
filled_history t ((Transaction v, x) ∷ T) = by (t == v.value) refl (filled_history t T)
  where
    by : (b : Bool) → (t == v.value) ≡ b → history t (map filled_at T) ≡ map (filled (id_of t)) (history t T)
        → cond b (filled (id_of v.value) x ∷ history t (map filled_at T)) (history t (map filled_at T)) ≡ map (filled (id_of t)) (cond b (x ∷ history t T) (history t T))
    by true e rest =
        let number = eqb-true t v.value e in
        let first : filled (id_of v.value) x ≡ filled (id_of t) x = ap (λ (n : ℕ). filled (id_of n) x) (sym number) in
        λ j. first j ∷ rest j
    by false e rest = rest

filled_past : (t : ℕ) (T : List Placed) → history t (past_of (map filled_at T)) ≡ map (filled (id_of t)) (history t (past_of T))
filled_past t T = ap (history t) (past_of-map filled_at T) ∙ filled_history t (past_of T)

-- so the filled trace keeps what the trace keeps
filled_keeps : (T : List Placed) → Keeps T → Keeps (map filled_at T)
filled_keeps T k = record {
  just = λ (t : TxNo). ap justified (filled_past t.value T) ∙ justified_there (id_of t.value) (history t.value (past_of T)) ∙ k.just t;
  agrees = λ (t : TxNo). ap agree (filled_past t.value T) ∙ agree_there (id_of t.value) (history t.value (past_of T)) ∙ k.agrees t;
  wires = λ (t : TxNo). subst WireRun (sym (filled_past t.value T)) (wires_there (id_of t.value) (history t.value (past_of T)) (k.wires t));
}

-- a trace that is fit is the filled trace of each other with its text
same_filled : (S T : List Placed) → each is_typed_at T ≡ true → each is_carried_at T ≡ true → each is_fit S ≡ true → trace_text S ≡ trace_text T → map filled_at T ≡ S
same_filled S T typed carried fit same =
    let told : map (told_at 0 (info_on 0 Begin)) S ≡ map (told_at 0 (info_on 0 Begin)) T = text_one S T 0 (info_on 0 Begin) (all_typed S fit) typed (all_carried S fit) carried same in
    sym (all_anew 0 (info_on 0 Begin) T) ∙ ap (map filled_at) (sym told) ∙ all_anew 0 (info_on 0 Begin) S ∙ all_filled S fit

pub text_keeps : (S T : List Placed) → Keeps T → each is_typed_at T ≡ true → each is_carried_at T ≡ true → each is_fit S ≡ true → trace_text S ≡ trace_text T → Keeps S
text_keeps S T k typed carried fit same = subst Keeps (same_filled S T typed carried fit same) (filled_keeps T k)
