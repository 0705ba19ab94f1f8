-- Where a promotion is over, each call that still waits is on its way to the coordinator.
use Rattle.std.proofs.Common.{ℕ, ◌==◌, List, Bool, false, ◌&&◌, ◌≡◌, true, [], ◌∷◌, refl, ◌||◌, sym, subst, ◌∙◌}
use Rattle.std.specs.Prelude.{not, filter, if◌then◌else◌}
use Rattle.std.specs.List.{flat_map}
use Rattle.std.proofs.lemmas.Bool.{eq-eqb, eqb-true, or_left}
use Rattle.dtx_values.specs.declared.entry.Answer.TheVariants.{Id, Wait}
use Rattle.dtx_values.specs.declared.entry.Entry.{Entry}
use Rattle.dtx_values.specs.declared.entry.Entry.TheVariants.{Answered, Sent, Called}
use Rattle.dtx_values.specs.declared.message.Conn.TheVariants.{Enl}
use Rattle.dtx_values.specs.declared.message.Dir.TheVariants.{Up}
use Rattle.dtx_values.specs.declared.message.Message.TheVariants.{EnlistEnlist}
use Rattle.dtx_values.specs.declared.number.ActorNo.{ActorNo}
use Rattle.dtx_values.specs.declared.number.EnlNo.{EnlNo}
use Rattle.dtx_values.specs.declared.number.RmNo.{RmNo}
use Rattle.dtx_values.specs.declared.words.Class.{Class}
use Rattle.dtx_model.specs.declared.waiting.Wanted.{Wanted}
use Rattle.dtx_model.specs.declared.waiting.Wanted.TheVariants.{Identifier, Place}
use Rattle.dtx_model.specs.Words.{each, has, onto}
use Rattle.dtx_model.specs.Promotes.{identifier_of, is_wait}
use Rattle.dtx_model.specs.declared.waiting.EnteredCall.{EnteredCall}
use Rattle.dtx_model.specs.Waiting.{Waiter, waiting, call_at, waiter_line, wanted}
use Rattle.dtx_model.specs.Half.{info, given}
use Rattle.dtx_model.proofs.Bools.{and_left, and_right, and_both, or_case, not_both, or_right}
use Rattle.history_table.proofs.Waiters.{is_on_its_way}
use Rattle.history_table.proofs.Messages.{ENLIST}
use Rattle.history_table.proofs.Crossed.{is_sent_on}
use Rattle.history_table.proofs.Scans.{each_more}
use Rattle.history_table.proofs.Lists.{each-insert}

-- the calls but that of this line
abbrev but : ℕ → List Waiter → List Waiter
but n ws = filter (λ w. not (n == w.0)) ws

-- two calls of one line that wait for the same: the identifier, or the place of one enlistment
abbrev same_wait : Waiter → Waiter → Bool
same_wait (n, Identifier) (m, Identifier) = n == m
same_wait (n, Place e r c) (m, Place f q d) = (n == m) && (e.value == f.value)
same_wait _ _ = false

-- each but one passes, where each that passed p passes q after that one is taken off
pub each_but : (n : ℕ) (p q : Waiter → Bool) → ((w : Waiter) → (n == w.0) ≡ false → p w ≡ true → q w ≡ true) → (ws : List Waiter) → each p ws ≡ true → each q (but n ws) ≡ true
each_but n p q sub [] k = refl
each_but n p q sub (w ∷ ws) k = step (n == w.0) refl (each_but n p q sub ws (and_right (p w) (each p ws) k))
  where
    step : (b : Bool) → (n == w.0) ≡ b → each q (but n ws) ≡ true → each q (if not b then w ∷ but n ws else but n ws) ≡ true
    step true e ih = ih
    step false e ih = and_both (q w) (each q (but n ws)) (sub w e (and_left (p w) (each p ws) k)) ih

-- on its way, or still to come in this list
abbrev is_met : List Entry → List Waiter → Waiter → Bool
is_met h vs w = is_on_its_way h w || has (same_wait w) vs

-- one that waits for the identifier is answered: each other is met as before
answered : (h : List Entry) (n : ℕ) (id : ℕ) (vs : List Waiter) (w : Waiter) → (n == w.0) ≡ false → is_met h ((n, Identifier) ∷ vs) w ≡ true → is_met (Answered n (Id id) ∷ h) vs w ≡ true
answered h n id vs (m, Identifier) o k = or_case (m == n) (has (same_wait (m, Identifier)) vs) (λ q. absurd (not_both (n == m) (eq-eqb n m (sym (eqb-true m n q))) o)) (λ q. q) k
answered h n id vs (m, Place e r c) o k = k

-- the ENLIST of one that waits for a place is sent: it is on its way
sent_on : (t : ℕ) (h : List Entry) (n : ℕ) (e : EnlNo) (r : RmNo) (c : Class) (vs : List Waiter) (w : Waiter) → is_met h ((n, Place e r c) ∷ vs) w ≡ true
    → is_met (Sent (Enl e) Up (EnlistEnlist (info t e r)) ∷ h) vs w ≡ true
sent_on t h n e r c vs (m, Identifier) k = k
sent_on t h n e r c vs (m, Place f q d) k = step (has (is_sent_on (Enl f) Up ENLIST) h) (m == n) (f.value == e.value) (has (same_wait (m, Place f q d)) vs) k
  where
    step : (a b c d : Bool) → (a || ((b && c) || d)) ≡ true → (((c && true && true) || a) || d) ≡ true
    step a b true d k = refl
    step true b false d k = refl
    step false true false d k = k
    step false false false d k = k

-- the block: each that waits is met after it
over_met : (ks : List EnteredCall) (t : ℕ) (vs : List Waiter) (h : List Entry) → each (is_met h vs) (waiting ks h) ≡ true
    → each (is_met (onto h (flat_map (given t) vs)) []) (waiting ks (onto h (flat_map (given t) vs))) ≡ true
over_met ks t [] h k = k
over_met ks t ((n, Identifier) ∷ vs) h k =
    over_met ks t vs (Answered n (Id (identifier_of t)) ∷ h)
    (each_but n (is_met h ((n, Identifier) ∷ vs)) (is_met (Answered n (Id (identifier_of t)) ∷ h) vs) (answered h n (identifier_of t) vs) (waiting ks h) k)
over_met ks t ((n, Place e r c) ∷ vs) h k =
    over_met ks t vs (Sent (Enl e) Up (EnlistEnlist (info t e r)) ∷ h)
    (each_more (is_met h ((n, Place e r c) ∷ vs)) (is_met (Sent (Enl e) Up (EnlistEnlist (info t e r)) ∷ h) vs) (sent_on t h n e r c vs) (waiting ks h) k)

-- each is among those that wait
self_met : (h : List Entry) (us vs : List Waiter) → ((w : Waiter) → has (same_wait w) us ≡ true → has (same_wait w) vs ≡ true) → each (is_met h vs) us ≡ true
self_met h [] vs sub = refl
self_met h (w ∷ us) vs sub =
    and_both (is_met h vs w) (each (is_met h vs) us) (or_right (is_on_its_way h w) (has (same_wait w) vs) (sub w (or_left (same_wait w w) (has (same_wait w) us) (self w))))
    (self_met h us vs (λ u k. sub u (or_right (same_wait u w) (has (same_wait u) us) k)))
  where
    self : (w : Waiter) → same_wait w w ≡ true
    self (n, Identifier) = eq-eqb n n refl
    self (n, Place e r c) = and_both (n == n) (e.value == e.value) (eq-eqb n n refl) (eq-eqb e.value e.value refl)

-- where a promotion is over, the ENLIST of each call that still waits was sent
pub over_waits : (ks : List EnteredCall) (t : ℕ) (h : List Entry)
    → each (is_on_its_way (onto h (flat_map (given t) (waiting ks h)))) (waiting ks (onto h (flat_map (given t) (waiting ks h)))) ≡ true
over_waits ks t h =
    let block = onto h (flat_map (given t) (waiting ks h)) in
    each_more (is_met block []) (is_on_its_way block) (λ w k. or_case (is_on_its_way block w) false (λ q. q) (λ q. absurd cc) k) (waiting ks block)
    (over_met ks t (waiting ks h) h (self_met h (waiting ks h) (waiting ks h) (λ w k. k)))

-- on its way it stays with any entry
pub way_stays : (x : Entry) (h : List Entry) (w : Waiter) → is_on_its_way h w ≡ true → is_on_its_way (x ∷ h) w ≡ true
way_stays x h (n, Identifier) k = absurd cc
way_stays x h (n, Place e r c) k = or_right (is_sent_on (Enl e) Up ENLIST x) (has (is_sent_on (Enl e) Up ENLIST) h) k

-- and no other entry but a call that waits makes one wait
pub waits_stay : (ks : List EnteredCall) (x : Entry) (h : List Entry) → is_wait x ≡ false → each (is_on_its_way h) (waiting ks h) ≡ true → each (is_on_its_way (x ∷ h)) (waiting ks (x ∷ h)) ≡ true
waits_stay ks (Called n a Wait) h q k = absurd cc
waits_stay ks (Answered n y) h q k = each_but n (is_on_its_way h) (is_on_its_way (Answered n y ∷ h)) (λ w o m. way_stays (Answered n y) h w m) (waiting ks h) k
waits_stay ks x h q k = each_more (is_on_its_way h) (is_on_its_way (x ∷ h)) (way_stays x h) (waiting ks h) k

-- a durable call of a promoted transaction: its ENLIST goes with it
pub durable_waits : (ks : List EnteredCall) (t n : ℕ) (a : ActorNo) (e : EnlNo) (r : RmNo) (c : Class) (h : List Entry) → wanted (call_at ks n) ≡ Place e r c → each (is_on_its_way h) (waiting ks h) ≡ true
    → each (is_on_its_way (Sent (Enl e) Up (EnlistEnlist (info t e r)) ∷ Called n a Wait ∷ h)) (waiting ks (Sent (Enl e) Up (EnlistEnlist (info t e r)) ∷ Called n a Wait ∷ h)) ≡ true
durable_waits ks t n a e r c h q k =
    let block = Sent (Enl e) Up (EnlistEnlist (info t e r)) ∷ Called n a Wait ∷ h in
    each-insert (is_on_its_way block) waiter_line (n, wanted (call_at ks n)) (waiting ks h)
    ∙ and_both (is_on_its_way block (n, wanted (call_at ks n))) (each (is_on_its_way block) (waiting ks h)) (here (wanted (call_at ks n)) q)
    (each_more (is_on_its_way h) (is_on_its_way block) (λ w m. way_stays (Sent (Enl e) Up (EnlistEnlist (info t e r))) (Called n a Wait ∷ h) w (way_stays (Called n a Wait) h w m)) (waiting ks h) k)
  where
    here : (w : Wanted) → w ≡ Place e r c → is_on_its_way (Sent (Enl e) Up (EnlistEnlist (info t e r)) ∷ Called n a Wait ∷ h) (n, w) ≡ true
    here w q = let P : Wanted → Type 0 = λ v. is_on_its_way (Sent (Enl e) Up (EnlistEnlist (info t e r)) ∷ Called n a Wait ∷ h) (n, v) ≡ true in
        subst P (sym q) (or_left ((e.value == e.value) && true && true) (has (is_sent_on (Enl e) Up ENLIST) h) (rw (eq-eqb e.value e.value refl) refl))
