-- What stands at a place of a list that is made of parts.
use Rattle.std.proofs.Common.{◌≡◌, ◌≤◌, ℕ, zero, suc, ◌+◌, Bool, true, false, not, List, [], ◌∷◌, ◌++◌, length, map, filter, take, drop, Option, Some, None, slice_get, refl, ap, sym, subst, ◌∙◌, arith, length-append, ◌==◌, if◌then◌else◌}
use Rattle.std.specs.List.{cons_option, filter_map, flat_map}
use Rattle.std.proofs.lemmas.List.{append-nil, drop_all, take-append-drop}
use Rattle.std.proofs.lemmas.List.Concat.{flat_map-append}
use Rattle.dtx_values.specs.declared.entry.Entry.{Entry}
use Rattle.dtx_values.specs.declared.message.Conn.{Conn}
use Rattle.dtx_values.specs.declared.message.Dir.{Dir}
use Rattle.dtx_values.specs.declared.note.Note.{Note}
use Rattle.dtx_values.specs.declared.note.Plan.{Plan}
use Rattle.dtx_values.specs.declared.note.Reply.{Reply}
use Rattle.dtx_values.specs.declared.number.EnlNo.{EnlNo}
use Rattle.dtx_values.specs.Table.{enl_number, insert_by}
use Rattle.dtx_model.specs.Words.{has}
use Rattle.dtx_model.proofs.Counts.{length-insert_by}
use Rattle.dtx_model.specs.Outcome.{is_empty}
use Rattle.dtx_model.specs.Observed.{Observed}
use Rattle.dtx_model.specs.Half.{Half}
use Rattle.dtx_model.specs.Plans.{planned}
use Rattle.dtx_model.specs.Replies.{all_due, due_of, is_answered, names, with_name, with_note}
use Rattle.dtx_model.specs.Steps.{StepName, ReplyOf, delivery_if, local_if, replies_due}
use Rattle.world_parts.specs.declared.pending.At.{At}
use Rattle.world_parts.specs.declared.pending.At.TheVariants.{Step as StepHere, Beyond}
use Rattle.world_parts.specs.declared.pending.PendingStep.{PendingStep}
use Rattle.world_parts.specs.declared.pending.PendingStep.TheVariants.{Act, Deliver, Reply as PendingReply}
use Rattle.world_parts.specs.Pending.{IsAt, IsPlannedAt, name_of, planned_to, reply_if, reply_step, step_if}

-- what stands in the first list stands there with another after it
at_first : {A : Type 0} (xs ys : List A) (k : ℕ) (x : A) → slice_get xs k ≡ Some x → slice_get (xs ++ ys) k ≡ Some x
at_first [] ys k x e = absurd (cc)
at_first (z ∷ xs) ys zero x e = e
at_first (z ∷ xs) ys (suc k) x e = at_first xs ys k x e

-- what stands behind the first list stands in the second
at_second : {A : Type 0} (xs ys : List A) (k n : ℕ) → k ≡ length xs + n → slice_get (xs ++ ys) k ≡ slice_get ys n
at_second {A = A} xs ys k n e = subst (λ j. slice_get (xs ++ ys) j ≡ slice_get ys n) (sym e) (go xs)
  where
    go : (zs : List A) → slice_get (zs ++ ys) (length zs + n) ≡ slice_get ys n
    go [] = let same : 0 + n ≡ n = omega arith in ap (slice_get ys) same
    go (z ∷ zs) = let shift : length (z ∷ zs) + n ≡ suc (length zs + n) = omega arith in ap (slice_get ((z ∷ zs) ++ ys)) shift ∙ go zs

-- a place behind the first list is one in the second
pub at_later : (xs ys : List StepName) (k n : ℕ) (a : At) → k ≡ length xs + n → IsAt ys n a → IsAt (xs ++ ys) k a
at_later xs ys k n (StepHere s) e i = at_second xs ys k n e ∙ i
at_later xs ys k n (Beyond m) e i = let whole = length-append xs ys in omega (arith, e, i, whole)

-- a step in the first list is one of both
pub at_sooner : (xs ys : List StepName) (k : ℕ) (s : PendingStep) → IsAt xs k (StepHere s) → IsAt (xs ++ ys) k (StepHere s)
at_sooner xs ys k s i = at_first xs ys k (name_of s) i

-- the next part of a list that is made part by part
next_part : {A : Type 0} (f : A → List StepName) (xs : List A) (i : ℕ) (x : A) → take (i + 1) xs ≡ take i xs ++ x ∷ [] → flat_map f (take (i + 1) xs) ≡ flat_map f (take i xs) ++ f x
next_part f xs i x e = ap (flat_map f) e ∙ flat_map-append f (take i xs) (x ∷ []) ∙ ap (λ ys. flat_map f (take i xs) ++ ys) (append-nil (f x))

pub part_passed : {A : Type 0} (f : A → List StepName) (xs : List A) (i k more less : ℕ) (x : A) → take (i + 1) xs ≡ take i xs ++ x ∷ [] → k ≡ length (flat_map f (take i xs)) + more → more ≡ length (f x) + less
    → k ≡ length (flat_map f (take (i + 1) xs)) + less
part_passed f xs i k more less x e a b =
    let whole : length (flat_map f (take (i + 1) xs)) ≡ length (flat_map f (take i xs)) + length (f x) = ap length (next_part f xs i x e) ∙ length-append (flat_map f (take i xs)) (f x) in
    omega (arith, a, b, whole)

pub part_here : {A : Type 0} (f : A → List StepName) (xs : List A) (i k more : ℕ) (x : A) (s : PendingStep) → drop i xs ≡ x ∷ drop (i + 1) xs → k ≡ length (flat_map f (take i xs)) + more
    → IsAt (f x) more (StepHere s) → IsAt (flat_map f xs) k (StepHere s)
part_here f xs i k more x s e a here =
    let whole : flat_map f xs ≡ flat_map f (take i xs) ++ (f x ++ flat_map f (drop (i + 1) xs)) =
    ap (flat_map f) (sym (take-append-drop i xs)) ∙ flat_map-append f (take i xs) (drop i xs) ∙ ap (λ ys. flat_map f (take i xs) ++ flat_map f ys) e in
    subst (λ ms. IsAt ms k (StepHere s)) (sym whole) (at_later (flat_map f (take i xs)) (f x ++ flat_map f (drop (i + 1) xs)) k more (StepHere s) a (at_sooner (f x) (flat_map f (drop (i + 1) xs)) more s here))

-- the local act, and what comes, by their tests
pub act_if : (es : List Entry) → step_if (not (is_empty es)) Act ≡ local_if es
act_if [] = refl
act_if (x ∷ es) = refl

pub deliver_if : (b : Bool) (c : Conn) (d : Dir) → step_if b (Deliver c d) ≡ delivery_if b c d
deliver_if true c d = refl
deliver_if false c d = refl

-- the replies that are due are those of the names, one by one
replies_by : (p : ℕ → Plan) (f : EnlNo → Option Note) (es : List EnlNo)
    → map (λ (x : EnlNo × Note). ReplyOf x.0) (filter (is_answered p) (filter_map (λ e. with_note e (f e)) es)) ≡ flat_map (λ e. reply_if e (planned_to (p e.value) (f e))) es
replies_by p f [] = refl
replies_by p f (e ∷ es) = step (f e) (replies_by p f es)
  where
    rest : List (EnlNo × Note)
    rest = filter_map (λ e. with_note e (f e)) es

    after_it : List StepName
    after_it = flat_map (λ e. reply_if e (planned_to (p e.value) (f e))) es

    tested : (n : Note) (o : Option Reply) → planned (p e.value) n ≡ o → map (λ (y : EnlNo × Note). ReplyOf y.0) (filter (is_answered p) rest) ≡ after_it
        → map (λ (y : EnlNo × Note). ReplyOf y.0) (filter (is_answered p) ((e, n) ∷ rest)) ≡ reply_if e o ++ after_it
    tested n (Some r) q ih = rw q (ap (λ ys. ReplyOf e ∷ ys) ih)
    tested n None q ih = rw q ih

    step : (o : Option Note) → map (λ (y : EnlNo × Note). ReplyOf y.0) (filter (is_answered p) rest) ≡ after_it
        → map (λ (y : EnlNo × Note). ReplyOf y.0) (filter (is_answered p) (cons_option (with_note e o) rest)) ≡ reply_if e (planned_to (p e.value) o) ++ after_it
    step (Some n) ih = tested n (planned (p e.value) n) refl ih
    step None ih = ih

pub replies_are : (p : ℕ → Plan) (h : Half) → replies_due p h ≡ flat_map (reply_step p h.seen) (names h.seen)
unfolding all_due
replies_are p h = replies_by p (λ e. due_of h.seen e.value) (names h.seen)

-- where nothing is due there is no reply
pub no_replies : (p : ℕ → Plan) (h : Half) (k : ℕ) → all_due h.seen ≡ [] → k ≡ length (replies_due p h) + k
no_replies p h k none =
    let zero : length (replies_due p h) ≡ 0 = ap (λ (xs : List (EnlNo × Note)). length (map (λ (x : EnlNo × Note). ReplyOf x.0) (filter (is_answered p) xs))) none in
    omega (arith, zero)

-- a reply of an enlistment
pub reply_none : (p : ℕ → Plan) (o : Observed) (e : EnlNo) (more : ℕ) → planned_to (p e.value) (due_of o e.value) ≡ None → IsAt (reply_step p o e) more (Beyond more)
reply_none p o e more n = let zero : length (reply_step p o e) ≡ 0 = ap (λ (r : Option Reply). length (reply_if e r)) n in omega (arith, zero)

pub reply_some : (p : ℕ → Plan) (o : Observed) (e : EnlNo) (n : Note) (r : Reply) (more : ℕ) (a : At) → due_of o e.value ≡ Some n → planned (p e.value) n ≡ Some r
    → IsAt (step_if true (PendingReply e n r)) more a → IsAt (reply_step p o e) more a
reply_some p o e n r more a d q i = subst (λ ms. IsAt ms more a) (sym (ap (λ (x : Option Note). reply_if e (planned_to (p e.value) x)) d ∙ ap (reply_if e) q)) i

pub reply_planned : (p : ℕ → Plan) (o : Observed) (e : EnlNo) (n : Note) (r : Reply) (a : At) (b : Bool) → due_of o e.value ≡ Some n → planned (p e.value) n ≡ Some r
    → ((t : PendingStep) → a ≡ StepHere t → (t ≡ PendingReply e n r) × (b ≡ true)) → IsPlannedAt p o a
reply_planned p o e n r (StepHere s) b d q only = subst (λ t. IsPlannedAt p o (StepHere t)) (sym (only s refl).0) (d, q)
reply_planned p o e n r (Beyond m) b d q only = tt

-- all were taken
pub all_taken : {A : Type 0} (xs : List A) (i : ℕ) → length xs ≤ i → take i xs ≡ xs
all_taken xs i over = sym (append-nil (take i xs)) ∙ ap (λ ys. take i xs ++ ys) (sym (drop_all i xs over)) ∙ take-append-drop i xs

-- a list with one more name
pub named_few : (e : EnlNo) (es : List EnlNo) → length (with_name e es) ≤ length es + 1
named_few e es = by (has (λ f. e.value == f.value) es)
  where
    by : (b : Bool) → length (if b then es else insert_by enl_number e es) ≤ length es + 1
    by true = omega arith
    by false = let more = length-insert_by enl_number e es in omega (arith, more)
