-- BEGUN and CREATED come once: each answers the message that opened its connection, which is sent once. So VOTER is sent once, and no ENLIST before CREATED.
use Rattle.std.proofs.Common.{◌≡◌, ◌≤◌, ◌+◌, ℕ, suc, Bool, true, false, ◌&&◌, ◌||◌, List, [], ◌∷◌, refl, sym, subst, arith}
use Rattle.std.specs.Prelude.{not, if◌then◌else◌}
use Rattle.std.proofs.lemmas.Bool.{false_from_ne_true}
use Rattle.dtx_values.specs.declared.entry.Entry.{Entry}
use Rattle.dtx_values.specs.declared.entry.Entry.TheVariants.{Got, Sent}
use Rattle.dtx_values.specs.declared.message.Conn.{Conn}
use Rattle.dtx_values.specs.declared.message.Conn.TheVariants.{Begin, Voter}
use Rattle.dtx_values.specs.declared.message.Dir.TheVariants.{Up, Down}
use Rattle.dtx_values.specs.declared.message.Message.{Message}
use Rattle.dtx_values.specs.declared.message.Message.TheVariants.{BeginBegun, VoterCreated}
use Rattle.dtx_values.specs.Lines.{is_opening}
use Rattle.dtx_values.specs.Table.{how_many}
use Rattle.dtx_model.specs.Promotes.{is_begun_got, is_created_got}
use Rattle.dtx_model.specs.Wires.{WireRun, in_transit, opens, same_connection}
use Rattle.dtx_model.specs.Words.{always, has}
use Rattle.dtx_model.proofs.Bools.{and_both, and_left, and_right, not_both, not_true, or_case}
use Rattle.dtx_model.proofs.Connections.{same_self, same_is}
use Rattle.history_table.proofs.Crossed.{is_got_on, is_sent_on}
use Rattle.history_table.proofs.InTransit.{no_more}
use Rattle.history_table.proofs.Leading.{sent_opens}
use Rattle.history_table.proofs.StillBlocks.{is_welcome}
use Rattle.history_table.proofs.Table.{ends_with, is_opening_got}
use Rattle.history_table.proofs.Welcomes.{is_direct}
use Rattle.world_laws.proofs.SendingOpened.{Opened, none_many, some_many}

no : false ≡ true → ⊥
no e = absurd cc

-- where each that passes p passes q, no more pass p than q
how_more : (p q : Entry → Bool) → ((x : Entry) → p x ≡ true → q x ≡ true) → (h : List Entry) → how_many p h ≤ how_many q h
how_more p q f [] = omega arith
how_more p q f (x ∷ h) = step (p x) (q x) (how_many p h) (how_many q h) (f x) (how_more p q f h)
  where
    step : (a b : Bool) (u v : ℕ) → (a ≡ true → b ≡ true) → u ≤ v → (if a then suc u else u) ≤ (if b then suc v else v)
    step true true u v f k = omega (arith, k)
    step true false u v f k = absurd (no (f refl))
    step false true u v f k = omega (arith, k)
    step false false u v f k = k

many_none : (p : Entry → Bool) (h : List Entry) → how_many p h ≤ 0 → has p h ≡ false
many_none p h k = false_from_ne_true (has p h) (λ t. by (how_many p h) (some_many p h t) k)
  where
    by : (n : ℕ) → 1 ≤ n → n ≤ 0 → ⊥
    by n p q = omega (arith, p, q)

-- The messages that open a connection, and those that were got.
got_opening : (c : Conn) (x : Entry) → is_opening_got c x ≡ true → is_got_on c Up (is_opening c) x ≡ true
got_opening c (Got e Up m) t =
    let s = and_left (same_connection c e) (is_opening e m) t in
    and_both (same_connection c e && true) (is_opening c m) (and_both (same_connection c e) true s refl)
    (let P : Conn → Type 0 = λ y. is_opening y m ≡ true in subst P (sym (same_is c e s)) (and_right (same_connection c e) (is_opening e m) t))
got_opening c _ t = absurd (no t)

abbrev one_if : Bool → ℕ
one_if b = if b then 1 else 0

-- no more answers are sent than opening messages are got; and one less directly after one
answers : (c : Conn) (h : List Entry) → always is_direct h ≡ true → how_many (is_sent_on c Down is_welcome) h + one_if (ends_with (is_opening_got c) h) ≤ how_many (is_opening_got c) h
answers c [] a = omega arith
answers c (Sent e Down m ∷ h) a =
    let rest = answers c h (and_right (is_direct h (Sent e Down m)) (always is_direct h) a) in
    step (same_connection c e && true && is_welcome m) (ends_with (is_opening_got c) h) (how_many (is_sent_on c Down is_welcome) h) (how_many (is_opening_got c) h)
    (λ t. ends (and_left (is_direct h (Sent e Down m)) (always is_direct h) a) t) rest
  where
    ends : (not (is_welcome m) || ends_with (is_opening_got e) h) ≡ true → (same_connection c e && true && is_welcome m) ≡ true → ends_with (is_opening_got c) h ≡ true
    ends d t =
        let same = same_is c e (and_left (same_connection c e) true (and_left (same_connection c e && true) (is_welcome m) t)) in
        let welcome = and_right (same_connection c e && true) (is_welcome m) t in
        let P : Conn → Type 0 = λ y. ends_with (is_opening_got y) h ≡ true in
        subst P (sym same) (or_case (not (is_welcome m)) (ends_with (is_opening_got e) h) (λ n. absurd (not_both (is_welcome m) welcome (not_true (is_welcome m) n))) (λ q. q) d)

    step : (s b : Bool) (n k : ℕ) → (s ≡ true → b ≡ true) → n + one_if b ≤ k → (if s then suc n else n) + 0 ≤ k
    step true true n k f p = omega (arith, p)
    step true false n k f p = absurd (no (f refl))
    step false true n k f p = omega (arith, p)
    step false false n k f p = p
answers c (Sent e Up m ∷ h) a =
    let rest = answers c h (and_right (is_direct h (Sent e Up m)) (always is_direct h) a) in
    step (same_connection c e) (is_welcome m) (ends_with (is_opening_got c) h) (how_many (is_sent_on c Down is_welcome) h) (how_many (is_opening_got c) h) rest
  where
    step : (s w b : Bool) (n k : ℕ) → n + one_if b ≤ k → (if s && false && w then suc n else n) + 0 ≤ k
    step true w true n k p = omega (arith, p)
    step true w false n k p = p
    step false w true n k p = omega (arith, p)
    step false w false n k p = p
answers c (Got e Up m ∷ h) a =
    let rest = answers c h (and_right (is_direct h (Got e Up m)) (always is_direct h) a) in
    step (same_connection c e && is_opening e m) (ends_with (is_opening_got c) h) (how_many (is_sent_on c Down is_welcome) h) (how_many (is_opening_got c) h) rest
  where
    step : (s b : Bool) (n k : ℕ) → n + one_if b ≤ k → n + one_if s ≤ (if s then suc k else k)
    step true true n k p = omega (arith, p)
    step true false n k p = omega (arith, p)
    step false true n k p = omega (arith, p)
    step false false n k p = p
answers c (x ∷ h) a =
    let rest = answers c h (and_right (is_direct h x) (always is_direct h) a) in
    step (ends_with (is_opening_got c) h) (how_many (is_sent_on c Down is_welcome) h) (how_many (is_opening_got c) h) rest
  where
    step : (b : Bool) (n k : ℕ) → n + one_if b ≤ k → n + 0 ≤ k
    step true n k p = omega (arith, p)
    step false n k p = p

-- so no more answers are sent than the connection was opened
answers_opened : (c : Conn) (h : List Entry) → WireRun h → always is_direct h ≡ true → how_many (is_sent_on c Down is_welcome) h ≤ how_many (opens c) h
answers_opened c h w a =
    by (how_many (is_sent_on c Down is_welcome) h) (one_if (ends_with (is_opening_got c) h)) (how_many (is_opening_got c) h) (how_many (is_got_on c Up (is_opening c)) h)
    (how_many (is_opening c) (in_transit c Up h)) (how_many (is_sent_on c Up (is_opening c)) h) (how_many (opens c) h) (answers c h a)
    (how_more (is_opening_got c) (is_got_on c Up (is_opening c)) (got_opening c) h) (no_more c Up (is_opening c) h w) (how_more (is_sent_on c Up (is_opening c)) (opens c) (sent_opens c) h)
  where
    by : (a b c d e f g : ℕ) → a + b ≤ c → c ≤ d → d + e ≤ f → f ≤ g → a ≤ g
    by a b c d e f g p q r s = omega (arith, p, q, r, s)

-- and as many came, with the one that comes
come_opened : (c : Conn) (m : Message) (h : List Entry) → is_welcome m ≡ true → WireRun (Got c Down m ∷ h) → always is_direct h ≡ true
    → suc (how_many (is_got_on c Down is_welcome) h) ≤ how_many (opens c) h
come_opened c m h k w a =
    let x = Got c Down m in
    by (how_many (is_got_on c Down is_welcome) h) (how_many (is_got_on c Down is_welcome) (x ∷ h)) (how_many is_welcome (in_transit c Down (x ∷ h))) (how_many (is_sent_on c Down is_welcome) h) (how_many (opens c) h)
    (here (same_connection c c) (is_welcome m) (same_self c) k) (no_more c Down is_welcome (x ∷ h) w) (answers_opened c h w.1 a)
  where
    by : (a b c d e : ℕ) → b ≡ suc a → b + c ≤ d → d ≤ e → suc a ≤ e
    by a b c d e p q r = omega (arith, p, q, r)

    here : (s t : Bool) → s ≡ true → t ≡ true → (if s && true && t then suc (how_many (is_got_on c Down is_welcome) h) else how_many (is_got_on c Down is_welcome) h) ≡ suc (how_many (is_got_on c Down is_welcome) h)
    here true true p q = refl
    here true false p q = absurd cc
    here false t p q = absurd cc

begun_on : (x : Entry) → is_begun_got x ≡ true → is_got_on Begin Down is_welcome x ≡ true
begun_on (Got Begin Down (BeginBegun u)) t = refl
begun_on _ t = absurd (no t)

created_on : (x : Entry) → is_created_got x ≡ true → is_got_on Voter Down is_welcome x ≡ true
created_on (Got Voter Down VoterCreated) t = refl
created_on _ t = absurd (no t)

-- where BEGUN comes, v wasn't opened
pub voter_new : (u : ℕ) (h : List Entry) → WireRun (Got Begin Down (BeginBegun u) ∷ h) → always is_direct h ≡ true → Opened h → has (opens Voter) h ≡ false
voter_new u h w a i =
    many_none (opens Voter) h
    (by (how_many (opens Voter) h) (how_many is_begun_got h) (how_many (is_got_on Begin Down is_welcome) h) (how_many (opens Begin) h) i.voter (how_more is_begun_got (is_got_on Begin Down is_welcome) begun_on h)
    (come_opened Begin (BeginBegun u) h refl w a) i.on_begin.single)
  where
    by : (a b c d : ℕ) → a ≤ b → b ≤ c → suc c ≤ d → d ≤ 1 → a ≤ 0
    by a b c d p q r s = omega (arith, p, q, r, s)

-- where CREATED comes, none came
pub created_new : (h : List Entry) → WireRun (Got Voter Down VoterCreated ∷ h) → always is_direct h ≡ true → Opened h → has is_created_got h ≡ false
created_new h w a i =
    many_none is_created_got h
    (by (how_many is_created_got h) (how_many (is_got_on Voter Down is_welcome) h) (how_many (opens Voter) h) (how_many is_begun_got h) (how_many (is_got_on Begin Down is_welcome) h)
    (how_many is_welcome (in_transit Begin Down h)) (how_many (is_sent_on Begin Down is_welcome) h) (how_many (opens Begin) h) (how_more is_created_got (is_got_on Voter Down is_welcome) created_on h)
    (come_opened Voter VoterCreated h refl w a) i.voter (how_more is_begun_got (is_got_on Begin Down is_welcome) begun_on h) (no_more Begin Down is_welcome h w.1) (answers_opened Begin h w.1 a) i.on_begin.single)
  where
    by : (a b c d e f g k : ℕ) → a ≤ b → suc b ≤ c → c ≤ d → d ≤ e → e + f ≤ g → g ≤ k → k ≤ 1 → a ≤ 0
    by a b c d e f g k p q r s t u v = omega (arith, p, q, r, s, t, u, v)

-- where an answer comes, the connection was opened
pub opened_before : (c : Conn) (m : Message) (h : List Entry) → is_welcome m ≡ true → WireRun (Got c Down m ∷ h) → always is_direct h ≡ true → has (opens c) h ≡ true
opened_before c m h k w a = by (has (opens c) h) refl (come_opened c m h k w a)
  where
    by : (b : Bool) → has (opens c) h ≡ b → suc (how_many (is_got_on c Down is_welcome) h) ≤ how_many (opens c) h → b ≡ true
    by true q k = refl
    by false q k = absurd (less (how_many (is_got_on c Down is_welcome) h) (how_many (opens c) h) k (none_many (opens c) h q))
      where
        less : (n m : ℕ) → suc n ≤ m → m ≡ 0 → ⊥
        less n m p e = omega (arith, p, e)
