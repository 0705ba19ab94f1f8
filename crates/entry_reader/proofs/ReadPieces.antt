-- Answers and entries are found by their words.
use Rattle.std.proofs.Common.{◌≡◌, ◌≢◌, ℕ, ◌^◌, ◌<◌, nat_le, ◌&&◌, ◌||◌, Bool, true, false, List, [], ◌∷◌, ◌++◌, codes, decimal, length, IfNone, Option, Some, None, refl, ap, sym, ◌∙◌, arith}
use Rattle.std.specs.Int.{IsInRange}
use Rattle.std.proofs.lemmas.Bool.{or_left}
use Rattle.std.proofs.lemmas.Bool.Decides.{nat_tests}
use Rattle.dtx_values.specs.declared.entry.Answer.{Answer}
use Rattle.dtx_values.specs.declared.entry.Answer.TheVariants.{True, TooLate, Ambient, OutcomeIs}
use Rattle.dtx_values.specs.declared.entry.Entry.{Entry}
use Rattle.dtx_values.specs.declared.entry.Entry.TheVariants.{Called, Answered, Cloned, Told, Promoted, Cut, Down, Scope, LogWord}
use Rattle.dtx_values.specs.declared.entry.LogNote.{LogNote}
use Rattle.dtx_values.specs.declared.entry.LogNote.TheVariants.{Armed, Opened as LogOpened}
use Rattle.dtx_values.specs.declared.entry.Party.{Party}
use Rattle.dtx_values.specs.declared.entry.ScopeNote.{ScopeNote}
use Rattle.dtx_values.specs.declared.entry.ScopeNote.TheVariants.{Opened, Finished as ScopeFinished, Closed}
use Rattle.dtx_values.specs.declared.message.Conn.{Conn}
use Rattle.dtx_values.specs.declared.message.Dir.{Dir}
use Rattle.dtx_values.specs.declared.message.Message.{Message}
use Rattle.dtx_values.specs.declared.number.ActorNo.{ActorNo}
use Rattle.dtx_values.specs.declared.number.CloneNo.{CloneNo}
use Rattle.dtx_values.specs.declared.number.ScopeNo.{ScopeNo}
use Rattle.dtx_values.specs.declared.number.TxNo.{TxNo}
use Rattle.dtx_values.specs.declared.trace.Place.{Place}
use Rattle.dtx_values.specs.Lines.{has_line}
use Rattle.dtx_values.specs.declared.words.Cause.{Cause}
use Rattle.dtx_values.specs.declared.words.CloneKind.{CloneKind}
use Rattle.dtx_values.specs.declared.words.Image.{Image}
use Rattle.dtx_values.specs.declared.words.Outcome.{Outcome}
use Rattle.dtx_values.specs.declared.words.Outcome.TheVariants.{Committed, Aborted, InDoubt}
use Rattle.dtx_model.specs.Grammar.{actor_name, clone_name, connection_word, image_word, kind_word, scope_name, transaction_name}
use Rattle.dtx_model.specs.TraceText.{ambient_text, answer_text, cause_text, direction_text, entry_text, id_text, message_text, outcome_text, party_text, sent_text, is_answer_fit, is_entry_fit, is_message_fit}
use Rattle.dtx_model.proofs.Bools.{and_left, and_right, or_right}
use Rattle.entry_reader.specs.ReadGroups.{is_plain_answer, is_refusal, is_detailed}
use Rattle.line_tail.specs.Cut.{behind, front}
use Rattle.dtx_model.specs.Faults.{same_bytes}
use Rattle.line_tail.proofs.CutLemmas.{front_whole, behind_whole}
use Rattle.line_words.proofs.Identifiers.{id_without}
use Rattle.dtx_model.proofs.Digits.{digit_of_number}
use Rattle.line_words.proofs.Without.{name_without, without_decimal}
use Rattle.trace_lines.proofs.CutWords.{connection_apart, cut_spaced, cut_twice, direction_apart, party_apart}

-- a test that fails doesn't hold (`cc` finds this too, but it looks at all that is known, once for each variant that `_` stands for)
fails : false ≡ true → ⊥
fails h = cc

-- nor do three tests that fail, where one of them holds
all_fail : (p q r : Bool) → (p || (q || r)) ≡ true → p ≡ false → q ≡ false → r ≡ false → ⊥
all_fail false false false h a b d = cc
all_fail true q r h a b d = cc
all_fail false true r h a b d = cc
all_fail false false true h a b d = cc

-- a fact holds where there is no value, where it holds at all
pub if_none : {A : Type 0} (P : Type 0) (o : Option A) → P → IfNone o P
if_none P (Some a) h = tt
if_none P None h = h

-- there is a value or there is none
pub some_apart : {A : Type 0} (o : Option A) (a : A) → o ≡ Some a → o ≡ None → ⊥
some_apart o a h k = cc

-- of one option there is one value
pub same_some : {A : Type 0} (o : Option A) (a b : A) → o ≡ Some a → o ≡ Some b → b ≡ a
same_some o a b h k = cc

-- no entry of this group has these words
abbrev pub AreOfNone : (Entry → Bool) → List ℕ → List ℕ → Type 0
AreOfNone g key rest = (p : Place) (x : Entry) → is_entry_fit p x ≡ true → g x ≡ true → key ≡ front 32 (entry_text x) → rest ≢ behind 32 (entry_text x)

-- an entry of two values, with what the words say of each
pub record IsOfTwo (A B : Type 0) (f : A → B → Entry) (P : A → Type 0) (Q : B → Type 0) (x : Entry) : Type 0 where
  pub one : A
  pub two : B
  pub is : x ≡ f one two
  pub first : P one
  pub last : Q two

-- it is the one that is made of the values that are read
pub two_found : {A B : Type 0} (f : A → B → Entry) (P : A → Type 0) (Q : B → Type 0) (x : Entry) (w : IsOfTwo A B f P Q x) (o : Option A) (q : Option B) (a : A) (b : B)
    → o ≡ Some w.one → o ≡ Some a → q ≡ Some w.two → q ≡ Some b → f a b ≡ x
two_found f P Q x w o q a b g h k l =
    let first = same_some o w.one a g h in
    let last = same_some q w.two b k l in
    (λ i. f (first i) (last i)) ∙ sym w.is

-- a name isn't spelled by letters
not_named : (t : TxNo) (letter other : ℕ) (w : List ℕ) → 57 < other → letter ∷ other ∷ w ≡ 116 ∷ front 32 (decimal t.value) → ⊥
not_named t letter other w h e =
    let rest : other ∷ w ≡ front 32 (decimal t.value) = cc in
    let whole = rest ∙ front_whole 32 (decimal t.value) (without_decimal 32 t.value (omega arith)) in
    let d : IsInRange 48 57 other = digit_of_number (other ∷ w) t.value 0 (omega arith) (omega arith) whole in
    omega arith

-- the answer `true` is found
pub true_found : (x : Answer) → codes "true" ≡ front 32 (answer_text x) → same_bytes (codes "true") (front 32 (answer_text x)) ≡ true → True ≡ x
true_found True e s = refl
true_found (Ambient (Some t)) e s = absurd (not_named t 116 114 (codes "ue") (omega arith) e)
true_found (OutcomeIs Committed) e s = absurd (fails s)
true_found (OutcomeIs Aborted) e s = absurd (fails s)
true_found (OutcomeIs InDoubt) e s = absurd (fails s)
true_found (Ambient None) e s = absurd (fails s)
true_found _ e s = absurd (fails s)

-- so is the answer `toolate`
pub late_found : (x : Answer) → codes "toolate" ≡ front 32 (answer_text x) → same_bytes (codes "toolate") (front 32 (answer_text x)) ≡ true → TooLate ≡ x
late_found TooLate e s = refl
late_found (Ambient (Some t)) e s = absurd (not_named t 116 111 (codes "olate") (omega arith) e)
late_found (OutcomeIs Committed) e s = absurd (fails s)
late_found (OutcomeIs Aborted) e s = absurd (fails s)
late_found (OutcomeIs InDoubt) e s = absurd (fails s)
late_found (Ambient None) e s = absurd (fails s)
late_found _ e s = absurd (fails s)

-- where none of the others is, the answer is an ambient transaction
pub record IsAmbient (x : Answer) (y : Option (Option TxNo)) : Type 0 where
  pub tx : Option TxNo
  pub read : y ≡ Some tx
  pub is : x ≡ Ambient tx

pub ambient_found : (x : Answer) (y : Option (Option TxNo)) (key : List ℕ) → is_plain_answer x ≡ false → is_refusal x ≡ false → is_detailed x ≡ false → key ≡ front 32 (answer_text x)
    → ((t : Option TxNo) → key ≡ ambient_text t → y ≡ Some t) → IsAmbient x y
ambient_found (Ambient (Some t)) y key a b d k hy =
    record { tx = Some t; read = hy (Some t) (k ∙ front_whole 32 (transaction_name t.value) (name_without 116 t.value (omega arith))); is = refl }
ambient_found (Ambient None) y key a b d k hy = record { tx = None; read = hy None k; is = refl }
ambient_found _ y key a b d k hy = absurd (all_fail _ _ _ refl a b d)

-- it is that of the transaction that is read
pub ambient_is : (x : Answer) (y : Option (Option TxNo)) (t : Option TxNo) → IsAmbient x y → y ≡ Some t → Some (Ambient t) ≡ Some x
ambient_is x y t w h = cc (w.read, w.is, h)

-- the keywords of a scope's entries, and of a log's
abbrev is_scope_key : List ℕ → Bool
is_scope_key k = same_bytes k (codes "opened") || (same_bytes k (codes "finished") || same_bytes k (codes "closed"))

abbrev is_log_key : List ℕ → Bool
is_log_key k = same_bytes k (codes "armed") || same_bytes k (codes "opened")

-- a scope's entry begins with one of its keywords
scope_key : (w : ScopeNote) (k : List ℕ) → same_bytes k (front 32 (entry_text (Scope w))) ≡ true → is_scope_key k ≡ true
scope_key (Opened i t) k h = or_left (same_bytes k (codes "opened")) _ h
scope_key (ScopeFinished i) k h = or_right (same_bytes k (codes "opened")) _ (or_left (same_bytes k (codes "finished")) _ h)
scope_key (Closed i) k h = or_right (same_bytes k (codes "opened")) _ (or_right (same_bytes k (codes "finished")) _ h)

-- so does a log's
log_key : (w : LogNote) (k : List ℕ) → same_bytes k (front 32 (entry_text (LogWord w))) ≡ true → is_log_key k ≡ true
log_key (Armed n i) k h = or_left (same_bytes k (codes "armed")) _ h
log_key (LogOpened n) k h = or_right (same_bytes k (codes "armed")) _ h

-- the words of a clone's making
pub cloned_cut : (x : Entry) (rest first last : List ℕ) → same_bytes (codes "cloned") (front 32 (entry_text x)) ≡ true → rest ≡ behind 32 (entry_text x)
    → first ≡ front 32 rest → last ≡ behind 32 rest → IsOfTwo CloneNo CloneKind Cloned (λ a. first ≡ clone_name a.value) (λ b. last ≡ kind_word b) x
cloned_cut (Cloned a b) rest first last s e f l =
    let k = cut_spaced rest first last (clone_name a.value) (kind_word b) f l e (name_without 99 a.value (omega arith)) in
    record { one = a; two = b; is = refl; first = k.first; last = k.last }
cloned_cut (Scope o) rest first last s e f l = absurd (fails (scope_key o (codes "cloned") s))
cloned_cut (LogWord o) rest first last s e f l = absurd (fails (log_key o (codes "cloned") s))
cloned_cut _ rest first last s e f l = absurd (fails s)

-- the words of an outcome that is told
pub told_cut : (x : Entry) (rest first last : List ℕ) → same_bytes (codes "told") (front 32 (entry_text x)) ≡ true → rest ≡ behind 32 (entry_text x)
    → first ≡ front 32 rest → last ≡ behind 32 rest → IsOfTwo Party Outcome Told (λ a. first ≡ party_text a) (λ b. last ≡ outcome_text b) x
told_cut (Told a b) rest first last s e f l =
    let k = cut_spaced rest first last (party_text a) (outcome_text b) f l e (party_apart a) in
    record { one = a; two = b; is = refl; first = k.first; last = k.last }
told_cut (Scope o) rest first last s e f l = absurd (fails (scope_key o (codes "told") s))
told_cut (LogWord o) rest first last s e f l = absurd (fails (log_key o (codes "told") s))
told_cut _ rest first last s e f l = absurd (fails s)

-- the words of a promotion
pub promoted_cut : (p : Place) (x : Entry) (rest first last : List ℕ) → is_entry_fit p x ≡ true → same_bytes (codes "promoted") (front 32 (entry_text x)) ≡ true → rest ≡ behind 32 (entry_text x)
    → first ≡ front 32 rest → last ≡ behind 32 rest → IsOfTwo ℕ Cause Promoted (λ a. (a < 2 ^ 128) × (first ≡ id_text a)) (λ b. last ≡ cause_text b) x
promoted_cut p (Promoted a b) rest first last fit s e f l =
    let k = cut_spaced rest first last (id_text a) (cause_text b) f l e (id_without 32 a (omega arith)) in
    let small : a < 2 ^ 128 = grind (arith, nat_tests) in
    record { one = a; two = b; is = refl; first = (small, k.first); last = k.last }
promoted_cut p (Scope o) rest first last fit s e f l = absurd (fails (scope_key o (codes "promoted") s))
promoted_cut p (LogWord o) rest first last fit s e f l = absurd (fails (log_key o (codes "promoted") s))
promoted_cut p _ rest first last fit s e f l = absurd (fails s)

-- the words of a connection's end
pub down_cut : (x : Entry) (rest first last : List ℕ) → same_bytes (codes "down") (front 32 (entry_text x)) ≡ true → rest ≡ behind 32 (entry_text x)
    → first ≡ front 32 rest → last ≡ behind 32 rest → IsOfTwo Conn Dir Down (λ a. first ≡ connection_word a) (λ b. last ≡ direction_text b) x
down_cut (Down a b) rest first last s e f l =
    let k = cut_spaced rest first last (connection_word a) (direction_text b) f l e (connection_apart a) in
    record { one = a; two = b; is = refl; first = k.first; last = k.last }
down_cut (Scope o) rest first last s e f l = absurd (fails (scope_key o (codes "down") s))
down_cut (LogWord o) rest first last s e f l = absurd (fails (log_key o (codes "down") s))
down_cut _ rest first last s e f l = absurd (fails s)

-- the words of an armed stop
pub armed_cut : (p : Place) (x : Entry) (rest first last : List ℕ) → is_entry_fit p x ≡ true → same_bytes (codes "armed") (front 32 (entry_text x)) ≡ true → rest ≡ behind 32 (entry_text x)
    → first ≡ front 32 rest → last ≡ behind 32 rest → IsOfTwo ℕ Image (λ a b. LogWord (Armed a b)) (λ a. (a < 2 ^ 8) × (first ≡ decimal a)) (λ b. last ≡ image_word b) x
armed_cut p (LogWord (Armed a b)) rest first last fit s e f l =
    let k = cut_spaced rest first last (decimal a) (image_word b) f l e (without_decimal 32 a (omega arith)) in
    let small : a < 2 ^ 8 = grind (arith, nat_tests) in
    record { one = a; two = b; is = refl; first = (small, k.first); last = k.last }
armed_cut p (Scope o) rest first last fit s e f l = absurd (fails (scope_key o (codes "armed") s))
armed_cut p _ rest first last fit s e f l = absurd (fails s)

-- a text of no length is empty
pub no_length : (xs : List ℕ) → length xs ≡ 0 → xs ≡ []
no_length [] h = refl
no_length (x ∷ xs) h = absurd (omega arith)

-- an ambient transaction has a word
ambient_word : (t : Option TxNo) → ambient_text t ≢ []
ambient_word None e = cc e
ambient_word (Some t) e = cc e

-- the word of an opened log
pub record IsLogOpened (x : Entry) (rest : List ℕ) : Type 0 where
  pub number : ℕ
  pub is : x ≡ LogWord (LogOpened number)
  pub small : number < 2 ^ 16
  pub word : rest ≡ decimal number

-- is found where there is one word
pub log_opened_cut : (p : Place) (x : Entry) (rest first last : List ℕ) → is_entry_fit p x ≡ true → same_bytes (codes "opened") (front 32 (entry_text x)) ≡ true
    → rest ≡ behind 32 (entry_text x)
    → first ≡ front 32 rest → last ≡ behind 32 rest → last ≡ [] → IsLogOpened x rest
log_opened_cut p (LogWord (LogOpened a)) rest first last fit s e f l n =
    let small : a < 2 ^ 16 = grind (arith, nat_tests) in
    record { number = a; is = refl; small = small; word = e }
log_opened_cut p (Scope (Opened a b)) rest first last fit s e f l n =
    let k = cut_spaced rest first last (scope_name a.value) (ambient_text b) f l e (name_without 115 a.value (omega arith)) in
    absurd (ambient_word b (sym k.last ∙ n))
log_opened_cut p _ rest first last fit s e f l n = absurd (fails s)

-- the words of an opened scope
pub opened_cut : (p : Place) (x : Entry) (rest first last : List ℕ) → is_entry_fit p x ≡ true → same_bytes (codes "opened") (front 32 (entry_text x)) ≡ true
    → rest ≡ behind 32 (entry_text x)
    → first ≡ front 32 rest → last ≡ behind 32 rest → last ≢ [] → IsOfTwo ScopeNo (Option TxNo) (λ a b. Scope (Opened a b)) (λ a. first ≡ scope_name a.value) (λ b. last ≡ ambient_text b) x
opened_cut p (Scope (Opened a b)) rest first last fit s e f l n =
    let k = cut_spaced rest first last (scope_name a.value) (ambient_text b) f l e (name_without 115 a.value (omega arith)) in
    record { one = a; two = b; is = refl; first = k.first; last = k.last }
opened_cut p (LogWord (LogOpened a)) rest first last fit s e f l n =
    let small : a < 2 ^ 16 = grind (arith, nat_tests) in
    absurd (n (l ∙ ap (λ t. behind 32 t) e ∙ behind_whole 32 (decimal a) (without_decimal 32 a (omega arith))))
opened_cut p _ rest first last fit s e f l n = absurd (fails s)

-- the words of a call's answer
pub record IsCalled (x : Entry) (u v w : List ℕ) : Type 0 where
  pub line : ℕ
  pub actor : ActorNo
  pub answer : Answer
  pub is : x ≡ Called line actor answer
  pub small : line < 2 ^ 32
  pub fit : is_answer_fit answer ≡ true
  pub first : u ≡ decimal line
  pub name : v ≡ actor_name actor.value
  pub text : w ≡ answer_text answer

pub called_cut : (p : Place) (x : Entry) (rest first last name text : List ℕ) → is_entry_fit p x ≡ true → same_bytes (codes "call") (front 32 (entry_text x)) ≡ true
    → rest ≡ behind 32 (entry_text x)
    → first ≡ front 32 rest → last ≡ behind 32 rest → name ≡ front 32 last → text ≡ behind 32 last → IsCalled x first name text
called_cut p (Called n a w) rest first last name text fit s e f l g m =
    let below = and_left (nat_le n 4294967295) (is_answer_fit w) fit in
    let small : n < 2 ^ 32 = grind (arith, nat_tests) in
    let k = cut_twice rest first last (decimal n) (actor_name a.value) (answer_text w) f l e (without_decimal 32 n (omega arith)) in
    let j = cut_spaced last name text (actor_name a.value) (answer_text w) g m k.last (name_without 97 a.value (omega arith)) in
    record {
      line = n;
      actor = a;
      answer = w;
      is = refl;
      small = small;
      fit = and_right (nat_le n 4294967295) (is_answer_fit w) fit;
      first = k.first;
      name = j.first;
      text = j.last;
    }
called_cut p (Scope o) rest first last name text fit s e f l g m = absurd (fails (scope_key o (codes "call") s))
called_cut p (LogWord o) rest first last name text fit s e f l g m = absurd (fails (log_key o (codes "call") s))
called_cut p _ rest first last name text fit s e f l g m = absurd (fails s)

-- the words of a later answer
pub answered_cut : (p : Place) (x : Entry) (rest first last : List ℕ) → is_entry_fit p x ≡ true → same_bytes (codes "answer") (front 32 (entry_text x)) ≡ true
    → rest ≡ behind 32 (entry_text x)
    → first ≡ front 32 rest → last ≡ behind 32 rest → IsOfTwo ℕ Answer Answered (λ a. (a < 2 ^ 32) × (first ≡ decimal a)) (λ b. (is_answer_fit b ≡ true) × (last ≡ answer_text b)) x
answered_cut p (Answered n w) rest first last fit s e f l =
    let below = and_left (nat_le n 4294967295) (is_answer_fit w) fit in
    let small : n < 2 ^ 32 = grind (arith, nat_tests) in
    let k = cut_spaced rest first last (decimal n) (answer_text w) f l e (without_decimal 32 n (omega arith)) in
    record { one = n; two = w; is = refl; first = (small, k.first); last = (and_right (nat_le n 4294967295) (is_answer_fit w) fit, k.last) }
answered_cut p (Scope o) rest first last fit s e f l = absurd (fails (scope_key o (codes "answer") s))
answered_cut p (LogWord o) rest first last fit s e f l = absurd (fails (log_key o (codes "answer") s))
answered_cut p _ rest first last fit s e f l = absurd (fails s)

-- the words of what is kept of a cut connection
pub record IsKept (u v w : List ℕ) (c : Conn) (i j : ℕ) : Type 0 where
  pub conn : u ≡ connection_word c
  pub up_small : i < 2 ^ 32
  pub up : v ≡ decimal i
  pub down_small : j < 2 ^ 32
  pub down : w ≡ decimal j

pub kept_cut : (c : Conn) (i j : ℕ) (rest first last word text : List ℕ) → (nat_le i 4294967295 && nat_le j 4294967295) ≡ true
    → rest ≡ connection_word c ++ codes " " ++ decimal i ++ codes " " ++ decimal j
    → first ≡ front 32 rest → last ≡ behind 32 rest → word ≡ front 32 last → text ≡ behind 32 last → IsKept first word text c i j
kept_cut c i j rest first last word text fit e f l g m =
    let up = and_left (nat_le i 4294967295) (nat_le j 4294967295) fit in
    let down = and_right (nat_le i 4294967295) (nat_le j 4294967295) fit in
    let up_small : i < 2 ^ 32 = grind (arith, nat_tests) in
    let down_small : j < 2 ^ 32 = grind (arith, nat_tests) in
    let k = cut_twice rest first last (connection_word c) (decimal i) (decimal j) f l e (connection_apart c) in
    let h = cut_spaced last word text (decimal i) (decimal j) g m k.last (without_decimal 32 i (omega arith)) in
    record { conn = k.first; up_small = up_small; up = h.first; down_small = down_small; down = h.last }

-- what is kept of a cut connection is found
pub cut_found : (p : Place) (x : Entry) (y : Option Entry) (rest : List ℕ) → is_entry_fit p x ≡ true → same_bytes (codes "cut") (front 32 (entry_text x)) ≡ true → rest ≡ behind 32 (entry_text x)
    → ((c : Conn) (i j : ℕ) → is_entry_fit p (Cut c i j) ≡ true → rest ≡ connection_word c ++ codes " " ++ decimal i ++ codes " " ++ decimal j → y ≡ Some (Cut c i j)) → y ≡ Some x
cut_found p (Cut c i j) y rest fit s e h = h c i j fit e
cut_found p (Scope o) y rest fit s e h = absurd (fails (scope_key o (codes "cut") s))
cut_found p (LogWord o) y rest fit s e h = absurd (fails (log_key o (codes "cut") s))
cut_found p _ y rest fit s e h = absurd (fails s)

-- the words of a message on its connection
pub record IsSent (u v w : List ℕ) (c : Conn) (d : Dir) (m : Message) : Type 0 where
  pub conn : u ≡ connection_word c
  pub dir : v ≡ direction_text d
  pub name : w ≡ message_text m

pub sent_cut : (c : Conn) (d : Dir) (m : Message) (rest first last word text : List ℕ) → rest ≡ sent_text c d m
    → first ≡ front 32 rest → last ≡ behind 32 rest → word ≡ front 32 last → text ≡ behind 32 last → IsSent first word text c d m
sent_cut c d m rest first last word text e f l g n =
    let k = cut_twice rest first last (connection_word c) (direction_text d) (message_text m) f l e (connection_apart c) in
    let h = cut_spaced last word text (direction_text d) (message_text m) g n k.last (direction_apart d) in
    record { conn = k.first; dir = h.first; name = h.last }

-- a message is found on the connection and in the direction that were read, if those are its own
pub message_found : (p : Place) (c k : Conn) (e d : Dir) (text : List ℕ) (m : Message) (y : Option Message) → c ≡ k → e ≡ d → has_line k d m ≡ true → is_message_fit p k m ≡ true
    → ((n : Message) → has_line c e n ≡ true → is_message_fit p c n ≡ true → text ≡ message_text n → y ≡ Some n) → text ≡ message_text m → y ≡ Some m
message_found p c k e d text m y conn dir line fit found name = found m (cc (conn, dir, line)) (cc (conn, fit)) name
