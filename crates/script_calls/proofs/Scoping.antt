-- What a scope line does at its context is the definition's.
use Rattle.std.proofs.Common.{◌≡◌, ℕ, suc, ◌+◌, ◌≤◌, Bool, true, false, List, [], ◌∷◌, ◌++◌, length, map, Option, Some, None, refl, ap, sym, ◌∙◌, append_assoc, arith}
use Rattle.std.specs.Prelude.{if◌then◌else◌}
use Rattle.std.proofs.lemmas.List.{length-map}
use Rattle.dtx_values.specs.declared.entry.Answer.{Answer}
use Rattle.dtx_values.specs.declared.entry.Answer.TheVariants.{Deep}
use Rattle.dtx_values.specs.declared.entry.Entry.{Entry}
use Rattle.dtx_values.specs.declared.entry.Entry.TheVariants.{Called}
use Rattle.dtx_values.specs.declared.limits.TheConstants.{SCOPES}
use Rattle.dtx_values.specs.declared.number.ActorNo.{ActorNo}
use Rattle.dtx_values.specs.declared.number.ScopeNo.{ScopeNo}
use Rattle.dtx_values.specs.declared.scope.Entered.{Entered}
use Rattle.dtx_values.specs.declared.scope.OpenScope.{OpenScope}
use Rattle.dtx_values.specs.declared.script.Body.{Body}
use Rattle.dtx_values.specs.declared.script.Body.TheVariants.{Open, Finish, Close, Current}
use Rattle.dtx_values.specs.declared.script.Opening.{Opening}
use Rattle.dtx_values.specs.declared.trace.Place.TheVariants.{Context}
use Rattle.dtx_values.specs.declared.words.Iso.{Iso}
use Rattle.dtx_values.specs.declared.words.ScopeOption.{ScopeOption}
use Rattle.dtx_model.specs.Words.{onto, past_of}
use Rattle.dtx_model.specs.Scopes.{ScopeEntry, Opens, Finishes, Closes, close_answer, finish_answer, differing, enter_answer, entering, is_deep, is_scope, open_scopes, taken_off, unless_differing}
use Rattle.dtx_model.specs.Contexts.{called_with, entries_if, isolation_in, name_in, opening_calls, option_in, scope_answer, scope_block, scope_calls, scope_entries, timeout_in, took_off, written, is_fine}
use Rattle.dtx_model.specs.Traces.{Placed, noted}
use Rattle.dtx_model.proofs.Histories.{onto-append}
use Rattle.scope_context.specs.Refusals.{enter_refusal, if_differing}
use Rattle.scope_context.specs.Standing.{Standing}
use Rattle.scope_context.specs.declared.refusal.ScopeRefusal.{ScopeRefusal}
use Rattle.scope_context.specs.declared.refusal.ScopeRefusal.TheVariants.{TooDeep, IsolationDiffers, NoScope, AlreadyComplete, NestedWrongly}
use Rattle.script_calls.specs.declared.scope_lines.Acted.{Acted}
use Rattle.script_calls.specs.declared.scope_lines.Gives.TheVariants.{Nothing}
use Rattle.script_calls.specs.Scoped.{DoesScope, calls_given, refused_answer}

-- an opening that is refused has the answer of its refusal
enter_refused : (o : ScopeOption) (i : Iso) (xs : List OpenScope) (r : ScopeRefusal) → enter_refusal o i xs ≡ Some r → enter_answer o i xs ≡ refused_answer r
enter_refused o i xs r e = step (is_deep xs) (differing o i xs) e
  where
    step : (deep : Bool) (d : Option Iso) → (if deep then Some (TooDeep SCOPES) else if_differing i d) ≡ Some r → (if deep then Deep else unless_differing i d) ≡ refused_answer r
    step true d e = let same : TooDeep SCOPES ≡ r = cc in ap refused_answer same
    step false (Some j) e = let same : IsolationDiffers i j ≡ r = cc in ap refused_answer same
    step false None e = absurd (cc)

-- no refusal is answered ok
not_fine : (r : ScopeRefusal) → is_fine (refused_answer r) ≡ false
not_fine (TooDeep n) = refl
not_fine (IsolationDiffers a b) = refl
not_fine (NoScope s) = refl
not_fine (AlreadyComplete s) = refl
not_fine (NestedWrongly u) = refl

-- a refused opening gives no call
no_opening_calls : (r : ScopeRefusal) (o : Opening) (x : Entered) → opening_calls (refused_answer r) (timeout_in o) x ≡ []
no_opening_calls (TooDeep n) o x = refl
no_opening_calls (IsolationDiffers a b) o x = refl
no_opening_calls (NoScope s) o x = refl
no_opening_calls (AlreadyComplete s) o x = refl
no_opening_calls (NestedWrongly u) o x = refl

-- a scope isn't opened
pub refuses_open : (s : ScopeNo) (o : Opening) (old new : Standing) (notes : List Entry) (x : Acted) (r : ScopeRefusal) → enter_refusal (option_in o) (isolation_in o) old.scopes ≡ Some r
    → new ≡ old → notes ≡ [] → x.answer ≡ refused_answer r → x.gives ≡ Nothing → DoesScope (Open s o) old new notes x
refuses_open s o old new notes x r refused same none answer gives =
    let answered : enter_answer (option_in o) (isolation_in o) old.scopes ≡ refused_answer r = enter_refused (option_in o) (isolation_in o) old.scopes r refused in
    let made = entering (option_in o) (name_in o) old.scopes in
    let entries : scope_entries (Open s o) old.scopes ≡ [] =
    ap (λ a. entries_if (is_fine a) (Opens s made (isolation_in o) ∷ [])) answered ∙ ap (λ b. entries_if b (Opens s made (isolation_in o) ∷ [])) (not_fine r) in
    record {
      answer = ap Some (answered ∙ sym answer);
      noted = none ∙ sym (ap (λ (es : List ScopeEntry). map written es) entries);
      gives = ap (λ g. calls_given g new.rolled) gives ∙ sym (ap (λ a. opening_calls a (timeout_in o) made) answered ∙ no_opening_calls r o made);
      scopes = λ es h. ap (λ (xs : List ScopeEntry). open_scopes (onto es xs)) entries ∙ h ∙ sym (ap (λ (c : Standing). c.scopes) same);
    }

-- what isn't answered at a context writes nothing there and gives no call
pub no_scope_line : (b : Body) (xs : List OpenScope) → scope_answer b xs ≡ None → (scope_entries b xs ≡ []) × (scope_calls b xs ≡ [])
no_scope_line (Open s o) xs e = absurd (cc)
no_scope_line (Finish s) xs e = absurd (cc)
no_scope_line (Close s) xs e = absurd (cc)
no_scope_line Current xs e = absurd (cc)
no_scope_line _ xs e = (refl, refl)

-- what closing takes off stands
length-taken_off : (s : ℕ) (xs : List OpenScope) → length (taken_off s xs) ≤ length xs
length-taken_off s [] = omega arith
length-taken_off s (x ∷ xs) = step (is_scope s x) (length-taken_off s xs)
  where
    step : (b : Bool) → length (taken_off s xs) ≤ length xs → length (if b then x ∷ [] else x ∷ taken_off s xs) ≤ suc (length xs)
    step true k = omega arith
    step false k = omega arith

-- where entries are kept or not, there are no more
length-entries_if : (b : Bool) (es : List ScopeEntry) (n : ℕ) → length es ≤ n → length (entries_if b es) ≤ n
length-entries_if true es n k = k
length-entries_if false es n k = omega arith

-- a scope line makes at most one entry more at its context than scopes are open there
few_entries : (b : Body) (xs : List OpenScope) → length (scope_entries b xs) ≤ length xs + 1
few_entries (Open s o) xs =
    length-entries_if (is_fine (enter_answer (option_in o) (isolation_in o) xs)) (Opens s (entering (option_in o) (name_in o) xs) (isolation_in o) ∷ []) (length xs + 1) (omega arith)
few_entries (Finish s) xs = length-entries_if (is_fine (finish_answer s.value xs)) (Finishes s ∷ []) (length xs + 1) (omega arith)
few_entries (Close s) xs =
    let taken = length-taken_off s.value xs in
    length-entries_if (took_off (close_answer s.value xs)) (map (λ x. Closes x.scope) (taken_off s.value xs)) (length xs + 1) (simp length-map (omega (arith, taken)))
few_entries _ xs = omega arith

-- a scope line notes at most one entry more than scopes were open
pub few_notes : (b : Body) (old new : Standing) (notes : List Entry) (x : Acted) → DoesScope b old new notes x → length notes ≤ length old.scopes + 1
few_notes b old new notes x did =
    let few = few_entries b old.scopes in
    let same : length notes ≡ length (scope_entries b old.scopes) = ap length did.noted ∙ length-map (scope_entries b old.scopes) written in
    omega arith

-- a call and the entries noted at a context are the block of the scope line
pub noted_block : (trace new : List Placed) (n : ℕ) (a : ActorNo) (b : Body) (old after : Standing) (notes : List Entry) (x : Acted) → DoesScope b old after notes x
    → new ≡ (trace ++ (Context a, Called n a x.answer) ∷ []) ++ noted a notes → past_of new ≡ onto (past_of trace) (noted a (scope_block n a b old.scopes))
noted_block trace new n a b old after notes x did written =
    let block : scope_block n a b old.scopes ≡ Called n a x.answer ∷ notes =
    ap (λ (y : Option Answer). called_with n a y (scope_entries b old.scopes)) did.answer ∙ ap (λ (es : List Entry). Called n a x.answer ∷ es) (sym did.noted) in
    ap past_of (written ∙ append_assoc trace ((Context a, Called n a x.answer) ∷ []) (noted a notes))
    ∙ onto-append [] trace (noted a (Called n a x.answer ∷ notes))
    ∙ ap (λ (es : List Entry). onto (past_of trace) (noted a es)) (sym block)
