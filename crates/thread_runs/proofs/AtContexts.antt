-- What a line writes at its actor's context goes after what stands there.
use Rattle.std.proofs.Common.{◌≡◌, ◌≢◌, ℕ, zero, suc, ◌+◌, ◌-◌, ◌<◌, List, [], ◌∷◌, ◌++◌, length, map, Option, None, get_or, set, replicate, refl, ap, sym, ◌∙◌, subst, arith, inl, inr}
use Rattle.std.specs.Prelude.{if◌then◌else◌}
use Rattle.std.proofs.lemmas.Bool.Decides.{eqb_tells}
use Rattle.std.proofs.lemmas.List.{get_or-set_same, get_or-replicate, length-map, map-set}
use Rattle.dtx_values.specs.declared.entry.Answer.{Answer}
use Rattle.dtx_values.specs.declared.entry.Entry.{Entry}
use Rattle.dtx_values.specs.declared.entry.Entry.TheVariants.{Called}
use Rattle.dtx_values.specs.declared.number.ActorNo.{ActorNo}
use Rattle.dtx_values.specs.declared.scope.OpenScope.{OpenScope}
use Rattle.dtx_values.specs.declared.script.Line.{Line}
use Rattle.dtx_model.specs.Words.{onto, past_of}
use Rattle.dtx_model.specs.Contexts.{called_with, context, scope_block, scope_answer, scope_entries, scopes_of}
use Rattle.dtx_model.proofs.Histories.{onto-append}
use Rattle.entry_lists.specs.Held.{Held}
use Rattle.scope_context.specs.Standing.{Standing}
use Rattle.script_calls.specs.Scoped.{AreOpen, DoesScope, scopes_in}
use Rattle.script_calls.proofs.Openings.{context_here}
use Rattle.script_calls.specs.declared.scope_lines.Acted.{Acted}
use Rattle.thread_runs.specs.Contexts.{AreWritten, entries_of}

-- a write leaves the other places alone
other : {X : Type 0} (xs : List X) (i j : ℕ) (x blank : X) → j ≢ i → get_or (set xs i x) j blank ≡ get_or xs j blank
other [] i j x blank k = refl
other (y ∷ ys) zero zero x blank k = absurd (k refl)
other (y ∷ ys) zero (suc j) x blank k = refl
other (y ∷ ys) (suc i) zero x blank k = refl
other (y ∷ ys) (suc i) (suc j) x blank k = other ys i j x blank (λ e. k (ap suc e))

-- before the first line nothing stands there
pub none_written : AreWritten [] (replicate 16 [])
none_written a = ap past_of (get_or-replicate {A = List Entry} 16 (a.value - 1) [] [] (omega (arith, a.in_range.1)))

-- a line's entries go after those that stand at its actor's context
pub after_line : (ess : List (List Entry)) (before : List Line) (l : Line) (new es : List Entry) → length ess ≡ 16 → new ≡ entries_of l.actor ess ++ es
    → es ≡ scope_block (suc (length before)) l.actor l.body (scopes_of l.actor.value before) → AreWritten before ess → AreWritten (l ∷ before) (set ess (l.actor.value - 1) new)
after_line ess before l new es long is block was a =
    let i = l.actor.value - 1 in
    let within : i < length ess = rw long (omega (arith, l.actor.in_range.0, l.actor.in_range.1)) in
    let b = scope_block (suc (length before)) l.actor l.body (scopes_of a.value before) in
    elim (eqb_tells a.value l.actor.value) [
      | inl k ↦
          let there : past_of (entries_of l.actor ess) ≡ context a.value before = ap (λ n. past_of (get_or ess (n - 1) [])) (sym k.1) ∙ was a in
          ap (λ n. past_of (get_or (set ess i new) (n - 1) [])) k.1
          ∙ ap past_of (get_or-set_same ess i new [] within ∙ is)
          ∙ onto-append [] (entries_of l.actor ess) es
          ∙ ap (λ (h : List Entry). onto h es) there
          ∙ ap (λ (xs : List Entry). onto (context a.value before) xs) (block ∙ ap (λ n. scope_block (suc (length before)) l.actor l.body (scopes_of n before)) (sym k.1))
          ∙ sym (ap (λ t. if t then onto (context a.value before) b else context a.value before) k.0)
      | inr k ↦
          let apart : a.value - 1 ≢ i = λ d. k.1 (omega (arith, d, a.in_range.0, l.actor.in_range.0)) in
          ap past_of (other ess i (a.value - 1) new [] apart) ∙ was a
          ∙ sym (ap (λ t. if t then onto (context a.value before) b else context a.value before) k.0)
    ]

-- a line that isn't answered at a context writes nothing there
pub after_no_line : (ess : List (List Entry)) (before : List Line) (l : Line) → scope_answer l.body (scopes_of l.actor.value before) ≡ None → AreWritten before ess → AreWritten (l ∷ before) ess
after_no_line ess before l none was a = elim (eqb_tells a.value l.actor.value) [
  | inl k ↦
      let unanswered : scope_answer l.body (scopes_of a.value before) ≡ None = ap (λ n. scope_answer l.body (scopes_of n before)) k.1 ∙ none in
      let b = scope_block (suc (length before)) l.actor l.body (scopes_of a.value before) in
      let block : b ≡ [] = ap (λ (x : Option Answer). called_with (suc (length before)) l.actor x (scope_entries l.body (scopes_of a.value before))) unanswered in
      was a ∙ sym (ap (λ (es : List Entry). onto (context a.value before) es) block) ∙ sym (ap (λ t. if t then onto (context a.value before) b else context a.value before) k.0)
  | inr k ↦
      was a ∙ sym (ap (λ t. if t then onto (context a.value before) (scope_block (suc (length before)) l.actor l.body (scopes_of a.value before)) else context a.value before) k.0)
]

-- the call of a scope line and its notes are its block
pub block_of : (n : ℕ) (a : ActorNo) (l : Line) (old new : Standing) (notes : List Entry) (x : Acted) → DoesScope l.body old new notes x → Called n a x.answer ∷ notes ≡ scope_block n a l.body old.scopes
block_of n a l old new notes x did =
    ap (λ (es : List Entry). Called n a x.answer ∷ es) did.noted ∙ sym (ap (λ (y : Option Answer). called_with n a y (scope_entries l.body old.scopes)) did.answer)

-- the list at a place, of its entries alone
entry_here : (hs : List Held) (i : ℕ) (h : Held) → i < length hs → h ≡ get_or hs i h → get_or (map (λ k. k.items) hs) i [] ≡ h.items
entry_here [] i h less is = absurd (omega arith)
entry_here (k ∷ hs) zero h less is = ap (λ (x : Held). x.items) (sym is)
entry_here (k ∷ hs) (suc i) h less is = entry_here hs i h (omega arith) is

-- So after a scope line was done at its actor's context, and its call and notes were put there, there stands what the lines write.
pub scope_line : (hs : List Held) (cs : List Standing) (before : List Line) (l : Line) (n i : ℕ) (h new : Held) (old after : Standing) (notes : List Entry) (x : Acted) → length hs ≡ 16 → length cs ≡ 16
    → i + 1 ≡ l.actor.value → h ≡ get_or hs i h → old ≡ get_or cs i old → DoesScope l.body old after notes x → new.items ≡ h.items ++ Called n l.actor x.answer ∷ notes → length before + 1 ≡ n
    → AreOpen cs before → AreWritten before (map (λ k. k.items) hs) → AreWritten (l ∷ before) (map (λ k. k.items) (set hs i new))
scope_line hs cs before l n i h new old after notes x long many place here stands did put number open_at was =
    let ess = map (λ k. k.items) hs in
    let scopes : old.scopes ≡ scopes_of l.actor.value before = ap scopes_in (sym (context_here cs l.actor i old many place stands)) ∙ open_at l.actor in
    let next : n ≡ suc (length before) = omega (arith, number) in
    let block : Called n l.actor x.answer ∷ notes ≡ scope_block (suc (length before)) l.actor l.body (scopes_of l.actor.value before) =
    block_of n l.actor l old after notes x did ∙ ap (λ (xs : List OpenScope). scope_block n l.actor l.body xs) scopes ∙ ap (λ m. scope_block m l.actor l.body (scopes_of l.actor.value before)) next in
    let within : i < length hs = rw long (omega (arith, place, l.actor.in_range.1)) in
    let same : l.actor.value - 1 ≡ i = omega (arith, place) in
    let there : entries_of l.actor ess ≡ h.items = ap (λ k. get_or ess k []) same ∙ entry_here hs i h within here in
    let written_to : set ess (l.actor.value - 1) new.items ≡ map (λ k. k.items) (set hs i new) = ap (λ k. set ess k new.items) same ∙ sym (map-set (λ (k : Held). k.items) hs i new) in
    subst (λ (xs : List (List Entry)). AreWritten (l ∷ before) xs) written_to
    (after_line ess before l new.items (Called n l.actor x.answer ∷ notes) (length-map hs (λ (k : Held). k.items) ∙ long) (put ∙ ap (λ (es : List Entry). es ++ Called n l.actor x.answer ∷ notes) (sym there)) block was)
