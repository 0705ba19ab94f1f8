-- Lemmas on the words for histories.
use Rattle.std.proofs.Common.{◌≡◌, ℕ, ◌==◌, Bool, true, false, List, [], ◌∷◌, ◌++◌, map, refl, ◌∙◌}
use Rattle.dtx_values.specs.declared.number.ActorNo.{ActorNo}
use Rattle.dtx_values.specs.declared.number.TxNo.{TxNo}
use Rattle.dtx_values.specs.declared.entry.Entry.{Entry}
use Rattle.dtx_values.specs.declared.trace.Place.{Place}
use Rattle.dtx_values.specs.declared.trace.Place.TheVariants.{Context, Transaction}
use Rattle.dtx_model.specs.Words.{onto, past_of}
use Rattle.dtx_model.specs.Observed.{observe, track, track_all}
use Rattle.dtx_model.specs.Traces.{Placed, is_at, is_context, entries_at, history, at_context, placed, noted}

-- two blocks after each other are one
pub onto-append : {E : Type 0} (h xs ys : List E) → onto h (xs ++ ys) ≡ onto (onto h xs) ys
onto-append h [] ys = refl
onto-append h (x ∷ xs) ys = onto-append (x ∷ h) xs ys

-- the last of a list is the newest of its history
pub past_of-snoc : {E : Type 0} (xs : List E) (x : E) → past_of (xs ++ x ∷ []) ≡ x ∷ past_of xs
past_of-snoc xs x = onto-append [] xs (x ∷ [])

-- what is observed after a block is what was observed before, with what the block makes of it
pub observe-onto : (h xs : List Entry) → observe (onto h xs) ≡ track_all (observe h) xs
unfolding observe track track_all
observe-onto h [] = refl
observe-onto h (x ∷ xs) = observe-onto (x ∷ h) xs

-- a block at a place that passes is after the entries at such places
pub entries-same : (p : Place → Bool) (q : Place) (T : List Placed) (es : List Entry) → p q ≡ true → entries_at p (onto T (map (λ e. (q, e)) es)) ≡ onto (entries_at p T) es
entries-same p q T [] k = refl
entries-same p q T (x ∷ xs) k = entries-same p q ((q, x) ∷ T) xs k ∙ rw k refl

-- a block at another place leaves them alone
pub entries-other : (p : Place → Bool) (q : Place) (T : List Placed) (es : List Entry) → p q ≡ false → entries_at p (onto T (map (λ e. (q, e)) es)) ≡ entries_at p T
entries-other p q T [] k = refl
entries-other p q T (x ∷ xs) k = entries-other p q ((q, x) ∷ T) xs k ∙ rw k refl

-- a block of t's is after t's history
pub history-same : (t : ℕ) (u : TxNo) (T : List Placed) (es : List Entry) → (t == u.value) ≡ true → history t (onto T (placed u es)) ≡ onto (history t T) es
history-same t u T es k = entries-same (is_at t) (Transaction u) T es k

-- a block of another leaves t's history alone
pub history-other : (t : ℕ) (u : TxNo) (T : List Placed) (es : List Entry) → (t == u.value) ≡ false → history t (onto T (placed u es)) ≡ history t T
history-other t u T es k = entries-other (is_at t) (Transaction u) T es k

-- and so does a block at a context
pub history-noted : (t : ℕ) (a : ActorNo) (T : List Placed) (es : List Entry) → history t (onto T (noted a es)) ≡ history t T
history-noted t a T es = entries-other (is_at t) (Context a) T es refl

-- a block at actor a's context is after the entries there
pub context-same : (a : ℕ) (b : ActorNo) (T : List Placed) (es : List Entry) → (a == b.value) ≡ true → at_context a (onto T (noted b es)) ≡ onto (at_context a T) es
context-same a b T es k = entries-same (is_context a) (Context b) T es k

-- a block at another's context leaves a's alone
pub context-other : (a : ℕ) (b : ActorNo) (T : List Placed) (es : List Entry) → (a == b.value) ≡ false → at_context a (onto T (noted b es)) ≡ at_context a T
context-other a b T es k = entries-other (is_context a) (Context b) T es k

-- and so does a block at a transaction
pub context-placed : (a : ℕ) (t : TxNo) (T : List Placed) (es : List Entry) → at_context a (onto T (placed t es)) ≡ at_context a T
context-placed a t T es = entries-other (is_context a) (Transaction t) T es refl
