-- BEGUN and CREATED come once, where the coordinator sends each only directly after the message that it answers: that opened the connection, and was sent once.
use Rattle.std.proofs.Common.{◌≡◌, ◌≤◌, ℕ, suc, ◌+◌, Bool, true, false, ◌||◌, List, [], ◌∷◌, refl, subst, arith}
use Rattle.std.specs.Prelude.{not, if◌then◌else◌}
use Rattle.std.proofs.lemmas.Bool.{false_from_ne_true}
use Rattle.dtx_values.specs.declared.entry.Entry.{Entry}
use Rattle.dtx_values.specs.declared.entry.Entry.TheVariants.{Got}
use Rattle.dtx_values.specs.declared.message.Conn.{Conn}
use Rattle.dtx_values.specs.declared.message.Conn.TheVariants.{Begin, Voter}
use Rattle.dtx_values.specs.declared.message.Dir.TheVariants.{Up, Down}
use Rattle.dtx_values.specs.declared.message.Message.{Message}
use Rattle.dtx_values.specs.declared.message.Message.TheVariants.{BeginBegun, VoterCreated}
use Rattle.dtx_values.specs.Lines.{is_opening}
use Rattle.dtx_values.specs.Table.{how_many}
use Rattle.dtx_model.specs.Words.{always, has}
use Rattle.dtx_model.specs.Promotes.{is_begun_got, is_created_got}
use Rattle.dtx_model.specs.Wires.{in_transit, is_next, opens}
use Rattle.dtx_model.proofs.Bools.{and_left, and_right, or_first, or_second}
use Rattle.history_table.proofs.Scans.{has_less}
use Rattle.history_table.proofs.Table.{ends_with, rule}
use Rattle.history_table.proofs.Keeping.{Keeps, keeps_before, newest}
use Rattle.history_table.proofs.Crossed.{is_got_on, is_sent_on}
use Rattle.history_table.proofs.Doubting.{begin_once, voter_once}
use Rattle.history_table.proofs.Standing.{opening_sent_on}
use Rattle.history_table.proofs.InTransit.{no_more}
use Rattle.settled_histories.proofs.MessageKinds.{BEGUN, CREATED}

-- what passes p is sent down only directly after the message that opens the connection was got
abbrev pub is_answer_to : Conn → (Message → Bool) → List Entry → Entry → Bool
is_answer_to c p past x = not (is_sent_on c Down p x) || ends_with (is_got_on c Up (is_opening c)) past

-- so no more answers are sent than openings were got
answers_fewer : (c : Conn) (p : Message → Bool) (h : List Entry) → always (is_answer_to c p) h ≡ true
    → how_many (is_sent_on c Down p) h + (if ends_with (is_got_on c Up (is_opening c)) h then 1 else 0) ≤ how_many (is_got_on c Up (is_opening c)) h
answers_fewer c p [] a = omega arith
answers_fewer c p (x ∷ h) a =
    step (is_sent_on c Down p x) (is_got_on c Up (is_opening c) x) (ends_with (is_got_on c Up (is_opening c)) h) (how_many (is_sent_on c Down p) h) (how_many (is_got_on c Up (is_opening c)) h)
    (and_left (is_answer_to c p h x) (always (is_answer_to c p) h) a) (answers_fewer c p h (and_right (is_answer_to c p h x) (always (is_answer_to c p) h) a))
  where
    step : (s g e : Bool) (n m : ℕ) → (not s || e) ≡ true → n + (if e then 1 else 0) ≤ m → (if s then suc n else n) + (if g then 1 else 0) ≤ (if g then suc m else m)
    step true g false n m r k = absurd cc
    step true true true n m r k = omega (arith, k)
    step true false true n m r k = omega (arith, k)
    step false true true n m r k = omega (arith, k)
    step false true false n m r k = omega (arith, k)
    step false false true n m r k = omega (arith, k)
    step false false false n m r k = omega (arith, k)

none_counted : {A : Type 0} (p : A → Bool) (xs : List A) → has p xs ≡ false → how_many p xs ≡ 0
none_counted p [] k = refl
none_counted p (x ∷ xs) k = step (p x) (or_first (p x) (has p xs) k) (none_counted p xs (or_second (p x) (has p xs) k))
  where
    step : (b : Bool) → b ≡ false → how_many p xs ≡ 0 → (if b then suc (how_many p xs) else how_many p xs) ≡ 0
    step true e ih = absurd cc
    step false e ih = ih

counted_there : {A : Type 0} (p : A → Bool) (xs : List A) → has p xs ≡ true → 1 ≤ how_many p xs
counted_there p [] k = absurd cc
counted_there p (x ∷ xs) k = step (p x) k (counted_there p xs)
  where
    step : (b : Bool) → (b || has p xs) ≡ true → (has p xs ≡ true → 1 ≤ how_many p xs) → 1 ≤ (if b then suc (how_many p xs) else how_many p xs)
    step true k f = omega arith
    step false k f = f k

-- what opens a connection that is opened once is sent once
opened_once : (c : Conn) → ((x : Entry) (h : List Entry) → rule h x ≡ true → opens c x ≡ true → has (opens c) h ≡ false) → (h : List Entry) → Keeps h
    → how_many (is_sent_on c Up (is_opening c)) h ≤ 1
opened_once c f [] k = omega arith
opened_once c f (x ∷ h) k = step (is_sent_on c Up (is_opening c) x) refl (opened_once c f h (keeps_before x h k))
  where
    none : is_sent_on c Up (is_opening c) x ≡ true → how_many (is_sent_on c Up (is_opening c)) h ≡ 0
    none t =
        none_counted (is_sent_on c Up (is_opening c)) h
        (has_less (is_sent_on c Up (is_opening c)) (opens c) (opening_sent_on c) h (f x h (newest x h k) (opening_sent_on c x t)))

    step : (b : Bool) → is_sent_on c Up (is_opening c) x ≡ b → how_many (is_sent_on c Up (is_opening c)) h ≤ 1
        → (if b then suc (how_many (is_sent_on c Up (is_opening c)) h) else how_many (is_sent_on c Up (is_opening c)) h) ≤ 1
    step true e ih = rw (none e) (omega arith)
    step false e ih = ih

next_counted : (p : Message → Bool) (m : Message) (ms : List Message) → is_next m ms → p m ≡ true → 1 ≤ how_many p ms
next_counted p m [] n k = absurd n
next_counted p m (x ∷ ms) n k = step (p x) (subst (λ z. p z ≡ true) n k)
  where
    step : (b : Bool) → b ≡ true → 1 ≤ (if b then suc (how_many p ms) else how_many p ms)
    step true e = omega arith
    step false e = absurd cc

-- an answer that is on the way wasn't got before
pub comes_once : (c : Conn) (p : Message → Bool) → ((x : Entry) (h : List Entry) → rule h x ≡ true → opens c x ≡ true → has (opens c) h ≡ false) → (m : Message) (h : List Entry) → Keeps h
    → always (is_answer_to c p) h ≡ true → is_next m (in_transit c Down h) → p m ≡ true → has (is_got_on c Down p) h ≡ false
comes_once c p f m h k a n t =
    false_from_ne_true (has (is_got_on c Down p) h)
    (λ s. clash (how_many (is_got_on c Down p) h) (how_many p (in_transit c Down h)) (how_many (is_sent_on c Down p) h) (if ends_with (is_got_on c Up (is_opening c)) h then 1 else 0)
    (how_many (is_got_on c Up (is_opening c)) h) (how_many (is_opening c) (in_transit c Up h)) (how_many (is_sent_on c Up (is_opening c)) h)
    (counted_there (is_got_on c Down p) h s) (next_counted p m (in_transit c Down h) n t) (no_more c Down p h k.wires) (answers_fewer c p h a) (no_more c Up (is_opening c) h k.wires) (opened_once c f h k))
  where
    clash : (g t s e o u v : ℕ) → 1 ≤ g → 1 ≤ t → g + t ≤ s → s + e ≤ o → o + u ≤ v → v ≤ 1 → ⊥
    clash g t s e o u v a b c d i j = omega (arith, a, b, c, d, i, j)

begun_on : (x : Entry) → is_begun_got x ≡ true → is_got_on Begin Down BEGUN x ≡ true
begun_on (Got Begin Down (BeginBegun u)) t = refl
begun_on _ t = absurd cc

created_on : (x : Entry) → is_created_got x ≡ true → is_got_on Voter Down CREATED x ≡ true
created_on (Got Voter Down VoterCreated) t = refl
created_on _ t = absurd cc

-- BEGUN, and CREATED
pub begun_once : (u : ℕ) (h : List Entry) → Keeps h → always (is_answer_to Begin BEGUN) h ≡ true → is_next (BeginBegun u) (in_transit Begin Down h) → has is_begun_got h ≡ false
begun_once u h k a n = has_less is_begun_got (is_got_on Begin Down BEGUN) begun_on h (comes_once Begin BEGUN begin_once (BeginBegun u) h k a n refl)

pub created_once : (h : List Entry) → Keeps h → always (is_answer_to Voter CREATED) h ≡ true → is_next VoterCreated (in_transit Voter Down h) → has is_created_got h ≡ false
created_once h k a n = has_less is_created_got (is_got_on Voter Down CREATED) created_on h (comes_once Voter CREATED voter_once VoterCreated h k a n refl)
