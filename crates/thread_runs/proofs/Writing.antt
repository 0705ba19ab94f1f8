-- What is written at the end of a trace, place by place.
use Rattle.std.proofs.Common.{◌≡◌, ◌≤◌, ◌<◌, ◌+◌, ◌-◌, ℕ, nat_lt, true, false, List, [], ◌∷◌, ◌++◌, map, drop, take, length, append_assoc, append-nil, arith, inl, inr, refl, ap, sym, subst, ◌∙◌, slice_index_or, if◌then◌else◌}
use Rattle.std.proofs.lemmas.Bool.Decides.{eqb_tells, nat_tests}
use Rattle.std.proofs.lemmas.List.{take_all, take_more}
use Rattle.std.proofs.lemmas.List.Elements.{All-push}
use Rattle.std.specs.List.{All}
use Rattle.dtx_values.specs.declared.entry.Entry.{Entry}
use Rattle.dtx_values.specs.declared.number.ActorNo.{ActorNo}
use Rattle.dtx_values.specs.declared.number.TxNo.{TxNo}
use Rattle.dtx_values.specs.declared.trace.Place.{Place}
use Rattle.dtx_values.specs.declared.trace.Place.TheVariants.{Context, Log, Transaction}
use Rattle.dtx_model.specs.AtLog.{at_log, is_log}
use Rattle.dtx_model.specs.Traces.{Placed, at_context, history, is_at, is_context, noted, placed}
use Rattle.dtx_model.specs.Words.{onto, past_of}
use Rattle.dtx_model.proofs.Histories.{onto-append}
use Rattle.tx_cells.specs.Cell.{Cell}
use Rattle.thread_runs.specs.Contexts.{entries_of}
use Rattle.thread_runs.specs.Gathering.{IsLaidBelow, with_histories, with_log}
use Rattle.thread_runs.proofs.Laying.{laid_block}
use Rattle.thread_runs.proofs.Placing.{entries_here, entries_there}

-- A block of entries at the end of a trace is its newest part.
onto_is : {E : Type 0} (h xs : List E) → onto h xs ≡ past_of xs ++ h
onto_is h [] = refl
onto_is h (x ∷ xs) = onto_is (x ∷ h) xs ∙ (sym (append_assoc (past_of xs) (x ∷ []) h) ∙ ap (λ ys. ys ++ h) (sym (onto_is (x ∷ []) xs)))

onto_map : {A B : Type 0} (f : A → B) (h xs : List A) → onto (map f h) (map f xs) ≡ map f (onto h xs)
onto_map f h [] = refl
onto_map f h (x ∷ xs) = onto_map f (x ∷ h) xs

pub past_written : (q : Place) (T : List Placed) (es : List Entry) → past_of (T ++ map (λ e. (q, e)) es) ≡ map (λ e. (q, e)) (past_of es) ++ past_of T
past_written q T es =
    onto-append [] T (map (λ e. (q, e)) es) ∙ (onto_is (past_of T) (map (λ e. (q, e)) es) ∙ ap (λ (ys : List Placed). ys ++ past_of T) (onto_map (λ e. (q, e)) [] es))

-- the history of a transaction, whose entries stand in this list
pub history_written : (T U V : List Placed) (t u : TxNo) (es h : List Entry) → U ≡ T → V ≡ U ++ map (λ e. (Transaction t, e)) (drop 0 es) → t ≡ u → past_of es ≡ h → past_of V ≡ placed u h ++ past_of T
history_written T U V t u es h same wrote is past =
    ap past_of wrote
    ∙ (past_written (Transaction t) U es
    ∙ (ap (λ (x : List Entry). placed t x ++ past_of U) past
    ∙ (ap (λ (v : TxNo). placed v h ++ past_of U) is ∙ ap (λ (X : List Placed). placed u h ++ past_of X) same)))

-- The contexts of the actors below n were written: each has what its list has, and nothing stands elsewhere.
pub record HasUpTo (n : ℕ) (ess : List (List Entry)) (T : List Placed) : Type 0 where
  pub laid : IsLaidBelow n T
  pub contexts : (a : ActorNo) → at_context a.value T ≡ (if nat_lt a.value n then past_of (entries_of a ess) else [])
  pub transactions : (t : ℕ) → history t T ≡ []
  pub log : at_log T ≡ []

below : (a n : ℕ) → a < n → nat_lt a n ≡ true
below a n less = grind (arith, nat_tests)

not_below : (a n : ℕ) → n ≤ a → nat_lt a n ≡ false
not_below a n low = grind (arith, nat_tests)

pub up_to_more : (n m : ℕ) (ess : List (List Entry)) (T U : List Placed) (b : ActorNo) → b.value ≡ n → m ≡ n + 1 → U ≡ T ++ noted b (entries_of b ess) → HasUpTo n ess (past_of T) → HasUpTo m ess (past_of U)
up_to_more n m ess T U b at next wrote h =
    subst (λ (V : List Placed). HasUpTo m ess V) (sym (ap past_of wrote ∙ past_written (Context b) T (entries_of b ess)))
    (record {
      laid = laid_block (Context b) (past_of (entries_of b ess)) (past_of T) n m (omega (arith, at)) (omega (arith, at, next)) h.laid;
      contexts = λ a. context a;
      transactions = λ t. entries_there (is_at t) (Context b) (past_of (entries_of b ess)) (past_of T) refl ∙ h.transactions t;
      log = entries_there is_log (Context b) (past_of (entries_of b ess)) (past_of T) refl ∙ h.log;
    })
  where
    context : (a : ActorNo) → at_context a.value (noted b (past_of (entries_of b ess)) ++ past_of T) ≡ (if nat_lt a.value m then past_of (entries_of a ess) else [])
    context a = elim (eqb_tells a.value b.value) [
      | inl e ↦
          let same = e.1 in
          let before : at_context a.value (past_of T) ≡ [] = h.contexts a ∙ rw (not_below a.value n (omega (arith, same, at))) refl in
          let after : past_of (entries_of a ess) ≡ (if nat_lt a.value m then past_of (entries_of a ess) else []) = rw (below a.value m (omega (arith, same, at, next))) refl in
          entries_here (is_context a.value) (Context b) (past_of (entries_of b ess)) (past_of T) e.0
          ∙ (ap (λ (es : List Entry). past_of (entries_of b ess) ++ es) before
          ∙ (append-nil (past_of (entries_of b ess)) ∙ (ap (λ (k : ℕ). past_of (slice_index_or ess (k - 1) [])) (sym same) ∙ after)))
      | inr e ↦
          let other = e.1 in
          let tests : nat_lt a.value n ≡ nat_lt a.value m = grind (arith, nat_tests) in
          entries_there (is_context a.value) (Context b) (past_of (entries_of b ess)) (past_of T) e.0 ∙ (h.contexts a ∙ ap (λ c. if c then past_of (entries_of a ess) else []) tests)
    ]

-- One more history is written after the others.
pub one_history : (cs : List Cell) (c : Cell) (T : List Placed) → with_histories (cs ++ c ∷ []) T ≡ placed c.tx.transaction.t c.tx.world.past ++ with_histories cs T
one_history [] c T = refl
one_history (d ∷ cs) c T = one_history cs c (placed d.tx.transaction.t d.tx.world.past ++ T)

pub histories_more : (cs : List Cell) (i j : ℕ) (c : Cell) (T U V : List Placed) → i < length cs → c ≡ slice_index_or cs i c → j ≡ i + 1 → past_of U ≡ with_histories (take i cs) T → past_of V ≡ placed c.tx.transaction.t c.tx.world.past ++ past_of U
    → past_of V ≡ with_histories (take j cs) T
histories_more cs i j c T U V less is next before wrote =
    wrote
    ∙ (ap (λ (X : List Placed). placed c.tx.transaction.t c.tx.world.past ++ X) before
    ∙ (sym (one_history (take i cs) c T)
    ∙ (ap (λ (d : Cell). with_histories (take i cs ++ d ∷ []) T) is ∙ (ap (λ (ds : List Cell). with_histories ds T) (sym (take_more cs i c less)) ∙ ap (λ (k : ℕ). with_histories (take k cs) T) (sym next)))))

-- All entries at the log are written.
pub log_written : (T U V : List Placed) (es : List Entry) (n : ℕ) → length es ≤ n → U ≡ T → V ≡ U ++ map (λ e. (Log, e)) (take n es) → past_of V ≡ with_log (past_of es) (past_of T)
log_written T U V es n all same wrote =
    ap past_of wrote
    ∙ (ap (λ (xs : List Entry). past_of (U ++ map (λ e. (Log, e)) xs)) (take_all n es all) ∙ (past_written Log U es ∙ ap (λ (X : List Placed). with_log (past_of es) (past_of X)) same))

-- What is so of the first cells, and of the next, is so of one more; and of all at the end.
pub all_more : {X : Type 0} (P : X → Type 0) (xs : List X) (i : ℕ) (x : X) → i < length xs → x ≡ slice_index_or xs i x → All P (take i xs) → P x → All P (take (i + 1) xs)
all_more P xs i x less is all here = subst (All P) (sym (take_more xs i x less)) (All-push P (take i xs) (slice_index_or xs i x) all (subst P is here))

pub all_taken : {X : Type 0} (P : X → Type 0) (xs : List X) (n : ℕ) → length xs ≤ n → All P (take n xs) → All P xs
all_taken P xs n all so = subst (All P) (take_all n xs all) so
