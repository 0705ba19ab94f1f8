-- Each list of words is that of one line.
use Rattle.std.proofs.Common.{◌≡◌, ℕ, ◌^◌, ◌<◌, Bool, true, false, List, [], ◌∷◌, refl, ap, sym, ◌∙◌, subst, arith, codes, decimal, Option, Some, None}
use Rattle.std.specs.Str.Parse.{AllDigits}
use Rattle.std.proofs.lemmas.Bool.{false≢true}
use Rattle.std.proofs.lemmas.Fmt.{digits_decimal, decimal_injective}
use Rattle.std.proofs.lemmas.Str.Parse.{digit_from_value}
use Rattle.dtx_values.specs.declared.message.Conn.{Conn}
use Rattle.dtx_values.specs.declared.message.Conn.TheVariants.{Begin as OnBegin, Voter as OnVoter, Enl as OnEnl, Again}
use Rattle.dtx_values.specs.declared.number.ActorNo.{ActorNo}
use Rattle.dtx_values.specs.declared.number.TxNo.{TxNo}
use Rattle.dtx_values.specs.declared.number.EnlNo.{EnlNo}
use Rattle.dtx_values.specs.declared.number.CloneNo.{CloneNo}
use Rattle.dtx_values.specs.declared.number.ScopeNo.{ScopeNo}
use Rattle.dtx_values.specs.declared.number.RmNo.{RmNo}
use Rattle.dtx_values.specs.declared.script.Body.{Body}
use Rattle.dtx_values.specs.declared.script.Body.TheVariants.{Begin, Open, Finish, Close, Current, Volatile, Durable, Promotable, Clone, Complete, Commit, Rollback, Marshal}
use Rattle.dtx_values.specs.declared.script.Body.TheVariants.{Status, Await, Tick, Do, Lose, Gone, Reenlist, Recovered, Stop, Restart, Par}
use Rattle.dtx_values.specs.declared.script.EnlistOption.{EnlistOption}
use Rattle.dtx_values.specs.declared.script.EnlistOption.TheVariants.{Plain, DuringPrepare}
use Rattle.dtx_values.specs.declared.script.Line.{Line}
use Rattle.dtx_values.specs.declared.script.Opening.{Opening}
use Rattle.dtx_values.specs.declared.script.Opening.TheVariants.{Required, RequiresNew, Suppress}
use Rattle.dtx_values.specs.declared.script.Support.{Support}
use Rattle.dtx_values.specs.declared.script.Support.TheVariants.{SinglePhase, TwoPhase}
use Rattle.dtx_values.specs.declared.words.CloneKind.{CloneKind}
use Rattle.dtx_values.specs.declared.words.CloneKind.TheVariants.{Block, Rollback as RollbackKind}
use Rattle.dtx_values.specs.declared.words.Image.{Image}
use Rattle.dtx_values.specs.declared.words.Image.TheVariants.{Lose as LoseImage, Keep, Torn}
use Rattle.dtx_values.specs.declared.words.Iso.{Iso}
use Rattle.dtx_values.specs.declared.words.Iso.TheVariants.{Serializable, RepeatableRead, ReadCommitted, ReadUncommitted, Snapshot, Chaos, Unspecified}
use Rattle.dtx_values.specs.declared.words.IsoWord.{IsoWord}
use Rattle.dtx_values.specs.declared.words.IsoWord.TheVariants.{Default as DefaultIso, Level}
use Rattle.dtx_values.specs.declared.words.Outcome.{Outcome}
use Rattle.dtx_values.specs.declared.words.Outcome.TheVariants.{Committed, Aborted, InDoubt}
use Rattle.dtx_values.specs.declared.words.Timeout.{Timeout}
use Rattle.dtx_values.specs.declared.words.Timeout.TheVariants.{Default, Milliseconds}
use Rattle.dtx_values.specs.declared.words.Vote.{Vote}
use Rattle.dtx_values.specs.declared.words.Vote.TheVariants.{Yes, No, Done}
use Rattle.dtx_model.specs.Grammar.{actor_name, transaction_name, enlistment_name, clone_name, scope_name, manager_name, words, command_words, opening_words, support_words, connection_word, image_word, asked_iso_word, timeout_word, option_word, vote_word, owner_word, promote_word, kind_word, is_from, is_timeout, is_opening_in_range, is_in_range}
use Rattle.dtx_model.specs.Faults.{same_bytes}
use Rattle.dtx_model.proofs.Bools.{and_left, and_right}
use Rattle.dtx_values.proofs.SameNumbers.{same_actor, same_clone, same_enlistment, same_manager, same_scope, same_transaction}
use Rattle.dtx_model.proofs.Digits.{own}
use Rattle.line_tail.proofs.SameBytes.{same_bytes-refl}
use Rattle.script_words.proofs.Numbers.{to_high}

-- the first words of two equal lists
first : {a b : List ℕ} {x y : List (List ℕ)} → a ∷ x ≡ b ∷ y → a ≡ b
first {b} e = ap first_of e
  where
    first_of : List (List ℕ) → List ℕ
    first_of [] = b
    first_of (w ∷ ws) = w

-- the rest of two equal lists
rest : {a b : List ℕ} {x y : List (List ℕ)} → a ∷ x ≡ b ∷ y → x ≡ y
rest e = ap rest_of e
  where
    rest_of : List (List ℕ) → List (List ℕ)
    rest_of [] = []
    rest_of (w ∷ ws) = ws

-- their second words
second : {a b c d : List ℕ} {x y : List (List ℕ)} → a ∷ c ∷ x ≡ b ∷ d ∷ y → c ≡ d
second e = first (rest e)

-- their third
third : {a b c d f g : List ℕ} {x y : List (List ℕ)} → a ∷ c ∷ f ∷ x ≡ b ∷ d ∷ g ∷ y → f ≡ g
third e = second (rest e)

-- their fourth
fourth : {a b c d f g h k : List ℕ} {x y : List (List ℕ)} → a ∷ c ∷ f ∷ h ∷ x ≡ b ∷ d ∷ g ∷ k ∷ y → h ≡ k
fourth e = third (rest e)

-- words that differ aren't equal
apart : (v w : List ℕ) → same_bytes v w ≡ false → v ≡ w → ⊥
apart v w h e = false≢true (sym h ∙ ap (same_bytes v) (sym e) ∙ same_bytes-refl v)

-- names with one text are one
number_of_name : (letter m n : ℕ) → m < 2 ^ 64 → n < 2 ^ 64 → letter ∷ decimal m ≡ letter ∷ decimal n → m ≡ n
number_of_name letter m n h k e =
    let rest : decimal m ≡ decimal n = cc in
    decimal_injective m n h k rest

-- actors with one name are one
actor_named : (m n : ActorNo) → actor_name m.value ≡ actor_name n.value → m ≡ n
actor_named m n e = same_actor m n (number_of_name 97 m.value n.value (omega arith) (omega arith) e)

-- so are transactions
tx_named : (m n : TxNo) → transaction_name m.value ≡ transaction_name n.value → m ≡ n
tx_named m n e = same_transaction m n (number_of_name 116 m.value n.value (omega arith) (omega arith) e)

-- enlistments
enl_named : (m n : EnlNo) → enlistment_name m.value ≡ enlistment_name n.value → m ≡ n
enl_named m n e = same_enlistment m n (number_of_name 101 m.value n.value (omega arith) (omega arith) e)

-- clones
clone_named : (m n : CloneNo) → clone_name m.value ≡ clone_name n.value → m ≡ n
clone_named m n e = same_clone m n (number_of_name 99 m.value n.value (omega arith) (omega arith) e)

-- scopes
scope_named : (m n : ScopeNo) → scope_name m.value ≡ scope_name n.value → m ≡ n
scope_named m n e = same_scope m n (number_of_name 115 m.value n.value (omega arith) (omega arith) e)

-- and managers
manager_named : (m n : RmNo) → manager_name m.value ≡ manager_name n.value → m ≡ n
manager_named m n e = same_manager m n (number_of_name 114 m.value n.value (omega arith) (omega arith) e)

-- numbers in a range with one text are one
same_within : (low high m n : ℕ) → high < 2 ^ 64 → is_from low high m ≡ true → is_from low high n ≡ true → decimal m ≡ decimal n → m ≡ n
same_within low high m n h k l e = decimal_injective m n (omega (arith, to_high low high m k)) (omega (arith, to_high low high n l)) e

-- a number isn't spelled `default`
not_default : (n : ℕ) → n < 2 ^ 32 → decimal n ≡ codes "default" → ⊥
not_default n h e = omega (arith, digit_from_value 100 (subst (AllDigits 10) e (digits_decimal own n (omega arith))).0)

-- timeouts with one text are one
same_timeout : (d e : Timeout) → is_timeout d ≡ true → is_timeout e ≡ true → timeout_word d ≡ timeout_word e → d ≡ e
same_timeout Default Default h k e = refl
same_timeout Default (Milliseconds n) h k e = absurd (not_default n (omega (arith, to_high 0 4294967295 n k)) (sym e))
same_timeout (Milliseconds n) Default h k e = absurd (not_default n (omega (arith, to_high 0 4294967295 n h)) e)
same_timeout (Milliseconds m) (Milliseconds n) h k e = ap (λ x. Milliseconds x) (same_within 0 4294967295 m n (omega arith) h k e)

-- connections with one text are one
same_connection : (c d : Conn) → connection_word c ≡ connection_word d → c ≡ d
same_connection OnBegin OnBegin e = refl
same_connection OnVoter OnVoter e = refl
same_connection (OnEnl m) (OnEnl n) e = ap (λ x. OnEnl x) (enl_named m n e)
same_connection (Again m) (Again n) e = ap (λ x. Again x) (same_enlistment m n (number_of_name 120 m.value n.value (omega arith) (omega arith) e))
same_connection c d e = absurd (apart (connection_word c) (connection_word d) refl e)

-- no level is spelled `default`
level_apart : (v : Iso) → same_bytes (asked_iso_word DefaultIso) (asked_iso_word (Level v)) ≡ false
level_apart Serializable = refl
level_apart RepeatableRead = refl
level_apart ReadCommitted = refl
level_apart ReadUncommitted = refl
level_apart Snapshot = refl
level_apart Chaos = refl
level_apart Unspecified = refl

-- isolation levels with one text are one
same_iso : (v w : IsoWord) → asked_iso_word v ≡ asked_iso_word w → v ≡ w
same_iso DefaultIso DefaultIso e = refl
same_iso (Level Serializable) (Level Serializable) e = refl
same_iso (Level RepeatableRead) (Level RepeatableRead) e = refl
same_iso (Level ReadCommitted) (Level ReadCommitted) e = refl
same_iso (Level ReadUncommitted) (Level ReadUncommitted) e = refl
same_iso (Level Snapshot) (Level Snapshot) e = refl
same_iso (Level Chaos) (Level Chaos) e = refl
same_iso (Level Unspecified) (Level Unspecified) e = refl
same_iso DefaultIso (Level v) e = absurd (apart (asked_iso_word DefaultIso) (asked_iso_word (Level v)) (level_apart v) e)
same_iso v w e = absurd (apart (asked_iso_word v) (asked_iso_word w) refl e)

-- options with one text are one
same_option : (v w : EnlistOption) → option_word v ≡ option_word w → v ≡ w
same_option Plain Plain e = refl
same_option DuringPrepare DuringPrepare e = refl
same_option v w e = absurd (apart (option_word v) (option_word w) refl e)

-- no vote is spelled `silent`
vote_apart : (v : Vote) → same_bytes (vote_word None) (vote_word (Some v)) ≡ false
vote_apart Yes = refl
vote_apart No = refl
vote_apart Done = refl

-- so are votes' plans
same_vote : (v w : Option Vote) → vote_word v ≡ vote_word w → v ≡ w
same_vote (Some Yes) (Some Yes) e = refl
same_vote (Some No) (Some No) e = refl
same_vote (Some Done) (Some Done) e = refl
same_vote None None e = refl
same_vote None (Some v) e = absurd (apart (vote_word None) (vote_word (Some v)) (vote_apart v) e)
same_vote v w e = absurd (apart (vote_word v) (vote_word w) refl e)

-- nor is an owner's answer
owner_apart : (v : Outcome) → same_bytes (owner_word None) (owner_word (Some v)) ≡ false
owner_apart Committed = refl
owner_apart Aborted = refl
owner_apart InDoubt = refl

-- plans of owners' answers with one text are one
same_owner : (v w : Option Outcome) → owner_word v ≡ owner_word w → v ≡ w
same_owner (Some Committed) (Some Committed) e = refl
same_owner (Some Aborted) (Some Aborted) e = refl
same_owner (Some InDoubt) (Some InDoubt) e = refl
same_owner None None e = refl
same_owner None (Some v) e = absurd (apart (owner_word None) (owner_word (Some v)) (owner_apart v) e)
same_owner v w e = absurd (apart (owner_word v) (owner_word w) refl e)

-- nor is a promotion's
promote_apart : (v : Bool) → same_bytes (promote_word None) (promote_word (Some v)) ≡ false
promote_apart true = refl
promote_apart false = refl

-- promotions' plans with one text are one
same_promote : (v w : Option Bool) → promote_word v ≡ promote_word w → v ≡ w
same_promote (Some true) (Some true) e = refl
same_promote (Some false) (Some false) e = refl
same_promote None None e = refl
same_promote None (Some v) e = absurd (apart (promote_word None) (promote_word (Some v)) (promote_apart v) e)
same_promote v w e = absurd (apart (promote_word v) (promote_word w) refl e)

-- clones' kinds with one text are one
same_kind : (v w : CloneKind) → kind_word v ≡ kind_word w → v ≡ w
same_kind Block Block e = refl
same_kind RollbackKind RollbackKind e = refl
same_kind v w e = absurd (apart (kind_word v) (kind_word w) refl e)

-- images with one text are one
same_image : (v w : Image) → image_word v ≡ image_word w → v ≡ w
same_image LoseImage LoseImage e = refl
same_image Keep Keep e = refl
same_image Torn Torn e = refl
same_image v w e = absurd (apart (image_word v) (image_word w) refl e)

-- the first word
abbrev first_word : List (List ℕ) → List ℕ
first_word [] = []
first_word (w ∷ ws) = w

-- openings with one text are one
same_opening : (o p : Opening) → is_opening_in_range o ≡ true → is_opening_in_range p ≡ true → opening_words o ≡ opening_words p → o ≡ p
same_opening (Required t d i) (Required u f j) h k e =
    λ x. Required (tx_named t u (second e) x) (same_timeout d f h k (third e) x) (same_iso i j (fourth e) x)
same_opening (RequiresNew t d i) (RequiresNew u f j) h k e =
    λ x. RequiresNew (tx_named t u (second e) x) (same_timeout d f h k (third e) x) (same_iso i j (fourth e) x)
same_opening Suppress Suppress h k e = refl
same_opening o p h k e = absurd (apart (first_word (opening_words o)) (first_word (opening_words p)) refl (first e))

-- replies with one text are one
same_support : (s r : Support) → support_words s ≡ support_words r → s ≡ r
same_support (SinglePhase v o) (SinglePhase w p) e = λ x. SinglePhase (same_vote v w (second e) x) (same_owner o p (third e) x)
same_support (TwoPhase v) (TwoPhase w) e = ap (λ x. TwoPhase x) (same_vote v w (second e))
same_support s r e = absurd (apart (first_word (support_words s)) (first_word (support_words r)) refl (first e))

-- commands with one text are one
same_body : (b d : Body) → is_in_range b ≡ true → is_in_range d ≡ true → command_words b ≡ command_words d → b ≡ d
same_body (Begin t d) (Begin u f) h k z = λ i. Begin (tx_named t u (second z) i) (same_timeout d f h k (third z) i)
same_body (Open s o) (Open r p) h k z = λ i. Open (scope_named s r (second z) i) (same_opening o p h k (rest (rest z)) i)
same_body (Finish s) (Finish r) h k z = ap (λ x. Finish x) (scope_named s r (second z))
same_body (Close s) (Close r) h k z = ap (λ x. Close x) (scope_named s r (second z))
same_body Current Current h k z = refl
same_body (Volatile t e o v) (Volatile u f p w) h k z =
    λ i. Volatile (tx_named t u (second z) i) (enl_named e f (third z) i) (same_option o p (fourth z) i) (same_vote v w (fourth (rest z)) i)
same_body (Durable t e m x) (Durable u f n y) h k z =
    λ i. Durable (tx_named t u (second z) i) (enl_named e f (third z) i) (manager_named m n (fourth z) i) (same_support x y (rest (rest (rest (rest z)))) i)
same_body (Promotable t e m v a p) (Promotable u f n w b q) h k z =
    λ i. Promotable (tx_named t u (second z) i) (enl_named e f (third z) i) (manager_named m n (fourth z) i)
    (same_vote v w (fourth (rest z)) i) (same_owner a b (fourth (rest (rest z))) i) (same_promote p q (fourth (rest (rest (rest z)))) i)
same_body (Clone t c x) (Clone u d y) h k z = λ i. Clone (tx_named t u (second z) i) (clone_named c d (third z) i) (same_kind x y (fourth z) i)
same_body (Complete c) (Complete d) h k z = ap (λ x. Complete x) (clone_named c d (second z))
same_body (Commit t) (Commit u) h k z = ap (λ x. Commit x) (tx_named t u (second z))
same_body (Rollback t) (Rollback u) h k z = ap (λ x. Rollback x) (tx_named t u (second z))
same_body (Marshal t) (Marshal u) h k z = ap (λ x. Marshal x) (tx_named t u (second z))
same_body (Status t) (Status u) h k z = ap (λ x. Status x) (tx_named t u (second z))
same_body (Await t) (Await u) h k z = ap (λ x. Await x) (tx_named t u (second z))
same_body (Tick t i) (Tick u j) h k z =
    let count = same_within 1 1000000000 i j (omega arith) h k (third z) in
    λ x. Tick (tx_named t u (second z) x) (count x)
same_body (Do t i m) (Do u j n) h k z =
    let count = same_within 1 99 i j (omega arith) (and_left _ _ h) (and_left _ _ k) (third z) in
    let more = same_within 1 999 m n (omega arith) (and_right (is_from 1 99 i) _ h) (and_right (is_from 1 99 j) _ k) (fourth z) in
    λ x. Do (tx_named t u (second z) x) (count x) (more x)
same_body (Lose t c i m) (Lose u d j n) h k z =
    let count = same_within 0 999 i j (omega arith) (and_left _ _ h) (and_left _ _ k) (fourth z) in
    let more = same_within 0 999 m n (omega arith) (and_right (is_from 0 999 i) _ h) (and_right (is_from 0 999 j) _ k) (fourth (rest z)) in
    λ x. Lose (tx_named t u (second z) x) (same_connection c d (third z) x) (count x) (more x)
same_body (Gone e) (Gone f) h k z = ap (λ x. Gone x) (enl_named e f (second z))
same_body (Reenlist e) (Reenlist f) h k z = ap (λ x. Reenlist x) (enl_named e f (second z))
same_body (Recovered t m) (Recovered u n) h k z = λ i. Recovered (tx_named t u (second z) i) (manager_named m n (third z) i)
same_body (Stop i v) (Stop j w) h k z =
    let count = same_within 1 99 i j (omega arith) h k (second z) in
    λ x. Stop (count x) (same_image v w (third z) x)
same_body Restart Restart h k z = refl
same_body Par Par h k z = refl
same_body b d h k z = absurd (apart (first_word (command_words b)) (first_word (command_words d)) refl (first z))

-- lines with one text are one
pub same_line : (l m : Line) → is_in_range l.body ≡ true → is_in_range m.body ≡ true → words l ≡ words m → l ≡ m
same_line l m h k e = λ x. record { actor = actor_named l.actor m.actor (first e) x; body = same_body l.body m.body h k (rest e) x }
