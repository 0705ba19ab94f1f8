-- What one part of a call wrote and heard, and what the next one did, are what both did.
use Rattle.std.proofs.Common.{ℕ, Bool, true, ◌≡◌, ◌⊎◌, ◌≤◌, ◌∙◌, not, List, [], ◌∷◌, ◌++◌, Option, Some, None, Result, Ok, Err, OnErr, is_some, false, length, drop, append_assoc, append-nil, refl, ap, arith, subst, sym, inl, inr}
use Rattle.std.proofs.lemmas.Bool.{or_left}
use Rattle.std.proofs.lemmas.Grind.{reverse_onto}
use Rattle.std.proofs.lemmas.List.{drop-append-le}
use Rattle.std.proofs.lemmas.List.Elements.{filter_map-append}
use Rattle.std.proofs.lemmas.List.Folds.{list_any-append}
use Rattle.dtx_values.specs.declared.entry.Entry.{Entry}
use Rattle.dtx_model.specs.Words.{has, onto, past_of}
use Rattle.dtx_model.proofs.Bools.{or_case, or_right}
use Rattle.dtx_model.proofs.Pasts.{length-past, onto-reverse, past-reverse}
use Rattle.dtx_model.proofs.Histories.{onto-append}
use Rattle.history_table.proofs.Scans.{each-append, each_more}
use Rattle.transactions.specs.declared.event.Event.{Event}
use Rattle.transactions.specs.Events.{event_of}
use Rattle.transactions.specs.Hearing.{Advances, Given, HearsNext, Writes, events, is_one_of, is_reply, listed, says}
use Rattle.coordinator_log.specs.State.{LogState}
use Rattle.tx_world.specs.Leaves.{Leaves}
use Rattle.tx_world.proofs.Leaves.{leaves_on}
use Rattle.transactions.specs.Keeping.{IsSound}
use Rattle.transactions.specs.State.{LiveState, past, unheard}
use Rattle.transactions.proofs.Stepping.{length_onto}

-- the list of a history that went on is the list before, with the entries after it
past_one : (h : List Entry) (e : Entry) → past_of (e ∷ h) ≡ past_of h ++ e ∷ []
past_one h e = onto-reverse (e ∷ []) h ∙ (reverse_onto h e [] ∙ ap (λ xs. xs ++ e ∷ []) (sym (past-reverse h)))

past_more : (h es : List Entry) → past_of (onto h es) ≡ past_of h ++ es
past_more h [] = sym (append-nil (past_of h))
past_more h (e ∷ es) = past_more (e ∷ h) es ∙ (ap (λ xs. xs ++ es) (past_one h e) ∙ append_assoc (past_of h) (e ∷ []) es)

-- a reply that is one of some is one of more
pub one_left : (rs qs : List Given) (x : Entry) → is_one_of rs x ≡ true → is_one_of (rs ++ qs) x ≡ true
one_left rs qs x k =
    or_case (not (is_reply x)) (has (λ g. says g x) rs) (λ n. or_left (not (is_reply x)) (has (λ g. says g x) (rs ++ qs)) n)
    (λ h. or_right (not (is_reply x)) (has (λ g. says g x) (rs ++ qs)) (list_any-append (λ g. says g x) rs qs ∙ or_left (has (λ g. says g x) rs) (has (λ g. says g x) qs) h)) k

pub one_right : (rs qs : List Given) (x : Entry) → is_one_of qs x ≡ true → is_one_of (rs ++ qs) x ≡ true
one_right rs qs x k =
    or_case (not (is_reply x)) (has (λ g. says g x) qs) (λ n. or_left (not (is_reply x)) (has (λ g. says g x) (rs ++ qs)) n)
    (λ h. or_right (not (is_reply x)) (has (λ g. says g x) (rs ++ qs)) (list_any-append (λ g. says g x) rs qs ∙ or_right (has (λ g. says g x) rs) (has (λ g. says g x) qs) h)) k

-- What was written, and then was written.
pub writes_on : (rs qs : List Given) (x y z : LiveState) → Writes rs x y → Writes qs y z → Writes (rs ++ qs) x z
writes_on rs qs x y z a b =
    record {
      written = a.written ++ b.written;
      grown = b.grown ∙ (ap (λ h. onto h b.written) a.grown ∙ sym (onto-append (past x) a.written b.written));
      said = each-append (is_one_of (rs ++ qs)) a.written b.written (each_more (is_one_of rs) (is_one_of (rs ++ qs)) (one_left rs qs) a.written a.said) (each_more (is_one_of qs) (is_one_of (rs ++ qs)) (one_right rs qs) b.written b.said);
      called = b.called ++ a.called;
      calls = b.calls ∙ (ap (λ ks. b.called ++ ks) a.calls ∙ sym (append_assoc b.called a.called x.tx.world.calls));
    }

-- What was heard, and then was heard: where the first part heard no more than there was.
pub hears_on : (xs ys : List Event) (qs : List Given) (x y z : LiveState) → HearsNext xs x y → Writes qs y z → HearsNext ys y z → y.number ≡ x.number → y.heard ≤ length (past y) → HearsNext (xs ++ ys) x z
hears_on xs ys qs x y z a w b number within =
    let es = w.written in
    let before = past_of (past y) in
    let there : past_of (past z) ≡ before ++ es = ap (λ h. past_of h) w.grown ∙ past_more (past y) es in
    let room : length before ≡ length (past y) = length-past (past y) in
    let onward = a.onward in
    let first : drop x.heard (past_of (past z)) ≡ drop x.heard before ++ es = ap (drop x.heard) there ∙ drop-append-le x.heard before es (omega arith) in
    let second : drop y.heard (past_of (past z)) ≡ drop y.heard before ++ es = ap (drop y.heard) there ∙ drop-append-le y.heard before es (omega arith) in
    record {
      heard = a.heard ++ b.heard;
      split =
          first ∙ (ap (λ ks. ks ++ es) a.split ∙ (append_assoc a.heard (drop y.heard before) es ∙ (ap (λ ks. a.heard ++ ks) (sym second ∙ b.split) ∙ sym (append_assoc a.heard b.heard (unheard z)))));
      says = filter_map-append (event_of x.number) a.heard b.heard ∙ (ap (λ ks. ks ++ events x.number b.heard) a.says ∙ ap (λ ks. xs ++ ks) (ap (λ t. events t b.heard) (sym number) ∙ b.says));
      onward = let more = b.onward in omega arith;
    }

-- nothing was heard
pub hears_none : (x y : LiveState) → y.heard ≡ x.heard → HearsNext [] x y
hears_none x y same = record { heard = []; split = ap (λ k. drop k (past_of (past y))) (sym same); says = refl; onward = omega arith }

-- a history that went on has room for what was heard
pub within_on : (rs : List Given) (x y : LiveState) → Writes rs x y → x.heard ≤ length (past x) → x.heard ≤ length (past y)
within_on rs x y w within = let longer = length_onto (past x) w.written in subst (λ h. x.heard ≤ length h) (sym w.grown) (omega arith)

-- A transaction on its way to what comes next: its history went on with no reply, and nothing was heard that says something.
pub record Going (x y : LiveState) : Type 0 where
  pub writes : Writes [] x y
  pub hears : HearsNext [] x y
  pub rest : y ≡ record x { tx = y.tx; heard = y.heard }

pub going_none : (x : LiveState) → Going x x
going_none x = record { writes = record { written = []; grown = refl; said = refl; called = []; calls = refl }; hears = hears_none x x refl; rest = refl }

-- after it, the next entries were heard
pub going_heard : (e : Option Event) (x y z : LiveState) → Going x y → HearsNext (listed e) y z → z ≡ record y { heard = z.heard } → y.heard ≤ length (past y) → x.heard ≤ length (past x)
    → z.heard ≤ length (past z) → Advances e x z
going_heard e x y z go hears rest within was still =
    let none : Writes [] y z = record { written = []; grown = ap (λ (v : LiveState). past v) rest; said = refl; called = []; calls = ap (λ (v : LiveState). v.tx.world.calls) rest } in
    record {
      writes = writes_on [] [] x y z go.writes none;
      hears = hears_on [] (listed e) [] x y z go.hears none hears (ap (λ (v : LiveState). v.number) go.rest) within;
      rest = rest ∙ (ap (λ (v : LiveState). record v { heard = z.heard }) go.rest ∙ ap (λ t. record x { tx = t; heard = z.heard }) (sym (ap (λ (v : LiveState). v.tx) rest)));
      within = was;
      still = still;
    }

-- and then a step was done
pub going_step : (x y z : LiveState) → Advances None x y → Writes [] y z → z ≡ record y { tx = z.tx } → y.heard ≤ length (past y) → Going x z
going_step x y z go writes rest within =
    let heard : z.heard ≡ y.heard = ap (λ (v : LiveState). v.heard) rest in
    record {
      writes = writes_on [] [] x y z go.writes writes;
      hears = hears_on [] [] [] x y z go.hears writes (hears_none y z heard) (ap (λ (v : LiveState). v.number) go.rest) within;
      rest = rest ∙ (ap (λ (v : LiveState). record v { tx = z.tx }) go.rest ∙ ap (λ h. record x { tx = z.tx; heard = h }) (sym heard));
    }

-- On its way it heard nothing that says something.
pub going_on : (x y : LiveState) → Going x y → x.heard ≤ length (past x) → y.heard ≤ length (past y) → Advances None x y
going_on x y go was still = record { writes = go.writes; hears = go.hears; rest = go.rest; within = was; still = still }

-- A transaction is as it was, or it went on and nothing was heard that says something.
abbrev pub Onward : LiveState → LiveState → Type 0
Onward x y = (y ≡ x) ⊎ Advances None x y

-- and then what it did next
pub onward_next : (e : Option Event) (x y z : LiveState) → Onward x y → Advances e y z → Advances e x z
onward_next e x y z (inl same) a = subst (λ (v : LiveState). Advances e v z) same a
onward_next e x y z (inr b) a =
    record {
      writes = writes_on [] [] x y z b.writes a.writes;
      hears = hears_on [] (listed e) [] x y z b.hears a.writes a.hears (ap (λ (v : LiveState). v.number) b.rest) a.within;
      rest = a.rest ∙ ap (λ (v : LiveState). record v { tx = z.tx; heard = z.heard }) b.rest;
      within = b.within;
      still = a.still;
    }

-- the transaction of a sound state is its number's
pub same_own : (x y : LiveState) → IsSound x → IsSound y → y.number ≡ x.number → y.tx.transaction ≡ x.tx.transaction
same_own x y a b number = b.own ∙ (number ∙ sym a.own)

-- what a part left of the log, where another only heard before it
pub leaves_heard : {D : Type 0} (honest : Bool) (image : D → List ℕ → Type 0) (faults : D → ℕ) (x y z w : LiveState) (from mid to : LogState D) → y.tx.transaction ≡ x.tx.transaction → Leaves honest image faults x.tx from y.tx mid
    → z ≡ record y { heard = z.heard } → Leaves honest image faults z.tx mid w.tx to → Leaves honest image faults x.tx from w.tx to
leaves_heard honest image faults x y z w from mid to own was rest next =
    leaves_on x.tx y.tx w.tx from mid to own was (subst (λ t. Leaves honest image faults t mid w.tx to) (ap (λ (v : LiveState). v.tx) rest) next)

pub on_err : {A E P : Type 0} (z : Result A E) → P → OnErr z P
on_err (Ok x) p = tt
on_err (Err e) p = p

pub none_of : {A : Type 0} (o : Option A) → is_some o ≡ false → o ≡ None
none_of None e = refl
none_of (Some x) e = absurd cc
