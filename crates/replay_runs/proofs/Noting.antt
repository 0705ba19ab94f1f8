-- What is noted at the end of a trace.
use Rattle.std.proofs.Common.{◌≡◌, ◌≢◌, ◌≤◌, ℕ, List, [], ◌∷◌, ◌++◌, drop, length, inl, inr, refl, ap, sym, subst, ◌∙◌, append-nil, arith, le_refl, le_trans}
use Rattle.std.proofs.lemmas.Bool.Decides.{Decides-eqb, eqb_tells}
use Rattle.dtx_values.specs.declared.entry.Entry.{Entry}
use Rattle.dtx_values.specs.declared.number.TxNo.{TxNo}
use Rattle.dtx_model.specs.Words.{onto, past_of}
use Rattle.dtx_model.specs.Traces.{Placed, history, placed}
use Rattle.dtx_model.proofs.Histories.{history-other, history-same, onto-append}
use Rattle.dtx_model.proofs.Pasts.{length-past}
use Rattle.dtx_values.proofs.SameNumbers.{same_transaction}

-- A history that is turned round twice is itself.
turned : {E : Type 0} (ys acc xs : List E) → onto ys (onto acc xs) ≡ onto (xs ++ ys) acc
turned ys acc [] = refl
turned ys acc (x ∷ xs) = turned ys (x ∷ acc) xs

twice : {E : Type 0} (xs : List E) → past_of (past_of xs) ≡ xs
twice xs = turned [] [] xs ∙ append-nil xs

-- so two lists with one history are one
same_list : {E : Type 0} (xs ys : List E) → past_of xs ≡ past_of ys → xs ≡ ys
same_list xs ys e = sym (twice xs) ∙ (ap past_of e ∙ twice ys)

behind : {E : Type 0} (xs ys : List E) → drop (length xs) (xs ++ ys) ≡ ys
behind [] ys = refl
behind (x ∷ xs) ys = behind xs ys

-- What was written after a history stands, oldest first, after as many entries as that has.
pub written_after : (items past es : List Entry) → past_of items ≡ onto past es → drop (length past) items ≡ es
written_after items past es e =
    let all : items ≡ past_of past ++ es = same_list items (past_of past ++ es) (e ∙ (ap (λ (h : List Entry). onto h es) (sym (twice past)) ∙ sym (onto-append [] (past_of past) es))) in
    ap (λ (h : List Entry). drop (length past) h) all ∙ (ap (λ (k : ℕ). drop k (past_of past ++ es)) (sym (length-past past)) ∙ behind (past_of past) es)

-- and the history didn't get shorter
longer : {E : Type 0} (past es : List E) → length past ≤ length (onto past es)
longer past [] = le_refl (length past)
longer past (x ∷ es) = le_trans (omega arith) (longer (x ∷ past) es)

pub as_long : (items past : List Entry) → past_of items ≡ past → length items ≡ length past
as_long items past e = sym (length-past items) ∙ ap length e

pub grown : (items h past es : List Entry) → past_of items ≡ h → past ≡ onto h es → length items ≤ length past
grown items h past es e w = subst (λ (k : ℕ). k ≤ length past) (sym (as_long items h e)) (subst (λ (g : List Entry). length h ≤ length g) (sym w) (longer h es))

-- the trace with a block of t's at its end
pub trace_noted : (trace : List Placed) (t : TxNo) (es : List Entry) → past_of (trace ++ placed t es) ≡ onto (past_of trace) (placed t es)
trace_noted trace t es = onto-append [] trace (placed t es)

-- t's history goes on by the block, and no other does
pub history_here : (t : TxNo) (T : List Placed) (es : List Entry) → history t.value (onto T (placed t es)) ≡ onto (history t.value T) es
history_here t T es = history-same t.value t T es ((Decides-eqb t.value t.value).1 refl)

pub history_there : (u t : TxNo) (T : List Placed) (es : List Entry) → u ≢ t → history u.value (onto T (placed t es)) ≡ history u.value T
history_there u t T es n = elim (eqb_tells u.value t.value) [ inl k ↦ absurd (n (same_transaction u t k.1)) | inr k ↦ history-other u.value t T es k.0 ]
