-- What the entries of a history that come to be heard say.
use Rattle.std.proofs.Common.{◌≡◌, ◌≤◌, ℕ, true, false, not, List, [], ◌∷◌, ◌++◌, length, take, drop, append_assoc, append-nil, ap, sym, ◌∙◌, arith}
use Rattle.std.proofs.lemmas.Bool.{eqb-true}
use Rattle.std.proofs.lemmas.Grind.{reverse_onto}
use Rattle.std.proofs.lemmas.List.{length-append, length-drop, length-take-le, take-append-drop, take-append-le, take_all}
use Rattle.std.proofs.lemmas.List.Folds.{list_any-append}
use Rattle.dtx_values.specs.declared.entry.Entry.{Entry}
use Rattle.dtx_values.specs.declared.entry.Ask.TheVariants.{Prepare as AskPrepare}
use Rattle.dtx_values.specs.declared.entry.Entry.TheVariants.{Asked as AskedEntry, Handed}
use Rattle.dtx_values.specs.declared.words.Outcome.TheVariants.{Committed}
use Rattle.dtx_model.proofs.Bools.{and_left, and_right, not_true, or_case, or_first, or_second}
use Rattle.dtx_model.proofs.Pasts.{always-before, length-past, onto-reverse, past-reverse}
use Rattle.dtx_model.proofs.Reading.{has-onto, has-past}
use Rattle.dtx_model.specs.Entries.{is_asked, is_hand}
use Rattle.dtx_model.specs.Words.{always, has, onto, past_of}
use Rattle.record_laws.specs.Recorded.{is_note_new, is_told_so}
use Rattle.transactions.specs.Hearing.{Given, HearsNext, Writes}
use Rattle.transactions.specs.State.{LiveState, past}
use Rattle.transactions.specs.declared.event.Event.{Event}
use Rattle.all_or_nothing.specs.Whole.{heard_of}
use Rattle.all_or_nothing.proofs.Tied.{HasMore}

-- the list of a history that went on is the list before, with the entries after it
past_one : (h : List Entry) (e : Entry) → past_of (e ∷ h) ≡ past_of h ++ e ∷ []
past_one h e = onto-reverse (e ∷ []) h ∙ (reverse_onto h e [] ∙ ap (λ xs. xs ++ e ∷ []) (sym (past-reverse h)))

pub past_more : (h es : List Entry) → past_of (onto h es) ≡ past_of h ++ es
past_more h [] = sym (append-nil (past_of h))
past_more h (e ∷ es) = past_more (e ∷ h) es ∙ (ap (λ xs. xs ++ es) (past_one h e) ∙ append_assoc (past_of h) (e ∷ []) es)

-- the first of what is split is what comes before
take_split : {A : Type 0} (k j : ℕ) (xs es : List A) → drop k xs ≡ es ++ drop j xs → k ≤ j → j ≤ length xs → take j xs ≡ take k xs ++ es
take_split k j xs es split more within =
    let parts : xs ≡ (take k xs ++ es) ++ drop j xs = sym (take-append-drop k xs) ∙ (ap (λ ys. take k xs ++ ys) split ∙ sym (append_assoc (take k xs) es (drop j xs))) in
    let a = length-append es (drop j xs) in
    let b = length-drop j xs in
    let c = length-drop k xs in
    let d : length (drop k xs) ≡ length (es ++ drop j xs) = ap (λ ys. length ys) split in
    let e : length (take k xs) ≡ k = length-take-le k xs (omega arith) in
    let f = length-append (take k xs) es in
    let size : length (take k xs ++ es) ≡ j = omega arith in
    ap (take j) parts ∙ (take-append-le j (take k xs ++ es) (drop j xs) (omega arith) ∙ take_all j (take k xs ++ es) (omega arith))

-- What was heard, and then the entries that came to be heard, are all that was heard then.
pub heard_more : (said : List Event) (ws : List Given) (x y : LiveState) (h : HearsNext said x y) → Writes ws x y → x.heard ≤ length (past x) → y.heard ≤ length (past y) → heard_of y ≡ heard_of x ++ h.heard
heard_more said ws x y h w was within =
    let p = past_of (past x) in
    let there : past_of (past y) ≡ p ++ w.written = ap (λ k. past_of k) w.grown ∙ past_more (past x) w.written in
    let size = length-past (past x) in
    let size_now = length-past (past y) in
    let onward = h.onward in
    let same : take x.heard (past_of (past y)) ≡ take x.heard p = ap (take x.heard) there ∙ take-append-le x.heard p w.written (omega arith) in
    take_split x.heard y.heard (past_of (past y)) h.heard h.split (omega arith) (omega arith) ∙ ap (λ ks. ks ++ h.heard) same

-- where no more was heard, it is the same
pub heard_same : (ws : List Given) (x y : LiveState) → Writes ws x y → y.heard ≡ x.heard → x.heard ≤ length (past x) → heard_of y ≡ heard_of x
heard_same ws x y w same was =
    let p = past_of (past x) in
    let there : past_of (past y) ≡ p ++ w.written = ap (λ k. past_of k) w.grown ∙ past_more (past x) w.written in
    let size = length-past (past x) in
    ap (λ k. take k (past_of (past y))) same ∙ (ap (take x.heard) there ∙ take-append-le x.heard p w.written (omega arith))

-- what was heard is in the history
pub heard_within : (x : LiveState) → HasMore (heard_of x) (past x)
heard_within x p k =
    let all : has p (past_of (past x)) ≡ true =
    ap (has p) (sym (take-append-drop x.heard (past_of (past x)))) ∙ (list_any-append p (heard_of x) (drop x.heard (past_of (past x))) ∙ Rattle.std.proofs.lemmas.Bool.or_left (has p (heard_of x)) (has p (drop x.heard (past_of (past x)))) k) in
    sym (has-past p (past x)) ∙ all

pub grown_more : (h es : List Entry) → HasMore h (onto h es)
grown_more h es p k = has-onto p h es ∙ Rattle.dtx_model.proofs.Bools.or_right (has p es) (has p h) k

-- ---- no note comes again

-- who is asked by these entries wasn't asked before them, nor told of the commit
pub asked_new : (e : ℕ) (h ys : List Entry) → always is_note_new (onto h ys) ≡ true → has (is_asked e) ys ≡ true → (has (is_asked e) h ≡ false) × (has (is_told_so Committed e) h ≡ false)
asked_new e h [] new k = absurd cc
asked_new e h (y ∷ ys) new k =
    or_case (is_asked e y) (has (is_asked e) ys) (λ p. here e y p (and_left (is_note_new h y) (always is_note_new h) (always-before is_note_new (y ∷ h) ys new)))
    (λ p. let rest = asked_new e (y ∷ h) ys new p in (or_second (is_asked e y) (has (is_asked e) h) rest.0, or_second (is_told_so Committed e y) (has (is_told_so Committed e) h) rest.1)) k
  where
    here : (e : ℕ) (y : Entry) → is_asked e y ≡ true → is_note_new h y ≡ true → (has (is_asked e) h ≡ false) × (has (is_told_so Committed e) h ≡ false)
    here e (AskedEntry f AskPrepare) p q =
        let same : e ≡ f.value = eqb-true e f.value p in
        let a = and_left (not (has (is_asked f.value) h)) (not (has (is_told_so Committed f.value) h)) q in
        let b = and_right (not (has (is_asked f.value) h)) (not (has (is_told_so Committed f.value) h)) q in
        (ap (λ n. has (is_asked n) h) same ∙ not_true (has (is_asked f.value) h) a, ap (λ n. has (is_told_so Committed n) h) same ∙ not_true (has (is_told_so Committed f.value) h) b)
    here e _ p q = absurd cc

-- who is handed the commit by them wasn't told of it before
pub handed_new : (e : ℕ) (h ys : List Entry) → always is_note_new (onto h ys) ≡ true → has (is_hand e) ys ≡ true → has (is_told_so Committed e) h ≡ false
handed_new e h [] new k = absurd cc
handed_new e h (y ∷ ys) new k =
    or_case (is_hand e y) (has (is_hand e) ys) (λ p. here e y p (and_left (is_note_new h y) (always is_note_new h) (always-before is_note_new (y ∷ h) ys new)))
    (λ p. or_second (is_told_so Committed e y) (has (is_told_so Committed e) h) (handed_new e (y ∷ h) ys new p)) k
  where
    here : (e : ℕ) (y : Entry) → is_hand e y ≡ true → is_note_new h y ≡ true → has (is_told_so Committed e) h ≡ false
    here e (Handed f) p q = ap (λ n. has (is_told_so Committed n) h) (eqb-true e f.value p) ∙ not_true (has (is_told_so Committed f.value) h) q
    here e _ p q = absurd cc
