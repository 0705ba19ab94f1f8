-- What a scan of the entries that nobody heard tells.
use Rattle.std.proofs.Common.{ℕ, false, is_some, ◌≡◌, ◌≤◌, ◌<◌, ◌+◌, ◌∙◌, List, [], ◌∷◌, ◌++◌, Option, Some, None, length, reverse, drop, slice_index_or, append_assoc, refl, ap, arith, subst, sym}
use Rattle.std.specs.List.{cons_option}
use Rattle.std.proofs.lemmas.List.{drop_more, reverse-reverse}
use Rattle.std.proofs.lemmas.List.Elements.{filter_map-append}
use Rattle.dtx_values.specs.declared.entry.Entry.{Entry}
use Rattle.dtx_values.specs.declared.tx_id.TxId.{TxId}
use Rattle.dtx_model.specs.Words.{past_of}
use Rattle.dtx_model.proofs.Pasts.{length-past, past-reverse}
use Rattle.transactions.specs.declared.event.Event.{Event}
use Rattle.transactions.specs.Events.{event_of}
use Rattle.transactions.specs.Hearing.{HearsNext, events, listed}
use Rattle.transactions.specs.Keeping.{IsSound}
use Rattle.transactions.specs.State.{LiveState, past, unheard}

-- The entries from one place of a list up to another were passed, and they say this.
pub record Passes (t : TxId) (from next : ℕ) (items : List Entry) (said : List Event) : Type 0 where
  pub passed : List Entry
  pub split : drop from items ≡ passed ++ drop next items
  pub says : events t passed ≡ said
  pub within : next ≤ length items
  pub onward : from ≤ next

-- a list is the history of its history
past-past : {E : Type 0} (xs : List E) → past_of (past_of xs) ≡ xs
past-past xs = past-reverse (past_of xs) ∙ (ap (λ ys. reverse ys) (past-reverse xs) ∙ reverse-reverse xs)

-- what is left from a place is the item there, and what is left after it
drop-at : {A : Type 0} (xs : List A) (i : ℕ) (x : A) → i < length xs → x ≡ slice_index_or xs i x → drop i xs ≡ x ∷ drop (i + 1) xs
drop-at xs i x h e = drop_more xs i x h ∙ ap (λ y. y ∷ drop (i + 1) xs) (sym e)

-- a place of the list of a transaction's history is within it
within-history : (items : List Entry) (x : LiveState) → past_of items ≡ past x → IsSound x → x.heard ≤ length items
within-history items x h sound =
    let same : length (past_of items) ≡ length (past x) = ap (λ ys. length ys) h in
    omega (arith, sound.within, length-past items)

-- what one entry says, as a list
listed-one : (o : Option Event) → cons_option o [] ≡ listed o
listed-one (Some x) = refl
listed-one None = refl

-- no entry was passed yet
pub passes-none : (t : TxId) (items : List Entry) (x : LiveState) → past_of items ≡ past x → IsSound x → Passes t x.heard x.heard items []
passes-none t items x h sound = record { passed = []; split = refl; says = refl; within = within-history items x h sound; onward = omega arith }

-- one more entry was passed, after those that say nothing
pub passes-on : (t : TxId) (from next : ℕ) (items : List Entry) (x : Entry) (o : Option Event) → Passes t from next items []
    → next < length items → x ≡ slice_index_or items next x → o ≡ event_of t x → Passes t from (next + 1) items (listed o)
passes-on t from next items x o p h e said = record {
  passed = p.passed ++ x ∷ [];
  split = p.split ∙ (ap (λ ys. p.passed ++ ys) (drop-at items next x h e) ∙ sym (append_assoc p.passed (x ∷ []) (drop (next + 1) items)));
  says = filter_map-append (event_of t) p.passed (x ∷ [])
      ∙ (ap (λ ys. ys ++ events t (x ∷ [])) p.says ∙ (listed-one (event_of t x) ∙ ap (λ s. listed s) (sym said)));
  within = omega arith;
  onward = let o = p.onward in omega arith;
}

-- one more entry was passed that says nothing
pub passes-silent : (t : TxId) (from next : ℕ) (items : List Entry) (x : Entry) (o : Option Event) → is_some o ≡ false → Passes t from next items []
    → next < length items → x ≡ slice_index_or items next x → o ≡ event_of t x → Passes t from (next + 1) items []
passes-silent t from next items x (Some y) none p h e said = absurd cc
passes-silent t from next items x None none p h e said = passes-on t from next items x None p h e said

-- the entries that were passed are the next that nobody had heard
hears-same : (x : LiveState) (next : ℕ) (items : List Entry) (said : List Event) → past_of items ≡ past x → Passes x.number x.heard next items said
    → HearsNext said x (record x { heard = next })
hears-same x next items said h p =
    let turned : items ≡ past_of (past x) = sym (past-past items) ∙ ap (λ ys. past_of ys) h in
    let split : unheard x ≡ p.passed ++ drop next (past_of (past x)) = subst (λ (ys : List Entry). drop x.heard ys ≡ p.passed ++ drop next ys) turned p.split in
    record { heard = p.passed; split = split; says = p.says; onward = p.onward }

-- the same, where the state is given twice
pub hears-passed : (x y : LiveState) (next : ℕ) (items : List Entry) (said : List Event) → x ≡ y → past_of items ≡ past x → Passes y.number y.heard next items said
    → HearsNext said y (record x { heard = next })
hears-passed x y next items said same h p =
    subst (λ (z : LiveState). HearsNext said y (record z { heard = next })) (sym same) (hears-same y next items said (h ∙ ap (λ (z : LiveState). past z) same) p)
