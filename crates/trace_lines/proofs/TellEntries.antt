-- An entry is read back from its words.
use Rattle.std.proofs.Common.{◌≡◌, ℕ, ◌^◌, ◌<◌, ◌==◌, nat_le, Bool, true, false, List, [], ◌∷◌, ◌++◌, codes, decimal, get_or, if◌then◌else◌, refl, ap, ◌∙◌, arith}
use Rattle.std.proofs.lemmas.Bool.Decides.{nat_tests}
use Rattle.dtx_values.specs.declared.entry.Entry.{Entry}
use Rattle.dtx_values.specs.declared.entry.Entry.TheVariants.{Called, Answered, Began, Cloned, Completed, Enlisted, Init, CommitAsked, RollbackAsked, Clock, TimedOut, Late, Asked, Voted, PromoteReply, Requested, Sealed, Handed, OwnerAnswered, LocalYes}
use Rattle.dtx_values.specs.declared.entry.Entry.TheVariants.{Decided, Told, Promoting, Promoted, PromotionFailed, Sent, Got, Cut, Down, Lost, Logged, LogFull, Freed, Stopped, Restarted, Reenlisted, Recovered, Acked, Scope, LogWord}
use Rattle.dtx_values.specs.declared.entry.LogNote.TheVariants.{Armed, Opened as LogOpened}
use Rattle.dtx_values.specs.declared.entry.ScopeNote.TheVariants.{Opened, Finished as ScopeFinished, Closed}
use Rattle.dtx_values.specs.declared.message.Conn.{Conn}
use Rattle.dtx_values.specs.declared.message.Dir.{Dir}
use Rattle.dtx_values.specs.declared.message.Info.{Info}
use Rattle.dtx_values.specs.declared.message.Message.{Message}
use Rattle.dtx_model.specs.Grammar.{actor_name, clone_name, connection_word, enlistment_name, image_word, kind_word, scope_name}
use Rattle.dtx_model.specs.TraceText.{ambient_text, answer_text, ask_text, cast_vote_text, cause_text, class_text, direction_text, entry_text, id_text, is_answer_fit, message_text, outcome_text, party_text, promote_text, request_text, sent_text}
use Rattle.dtx_model.proofs.Bools.{and_left, and_right}
use Rattle.line_tail.specs.Cut.{behind, front}
use Rattle.line_words.proofs.Identifiers.{id_without}
use Rattle.line_words.proofs.Without.{name_without, without_decimal}
use Rattle.trace_lines.specs.OneTrace.{by_name, carrying, is_carried, is_cause_typed, is_typed, named, told}
use Rattle.trace_lines.proofs.CutWords.{connection_apart, direction_apart, party_apart}
use Rattle.trace_lines.proofs.TellAnswers.{answer_of, answer_is, digit_first}
use Rattle.trace_lines.proofs.TellMessages.{message_of, message_is, carried_name}
use Rattle.trace_lines.proofs.TellPieces.{of_two, of_three, two_are, three_are}
use Rattle.trace_lines.proofs.TellWords.{chosen, value, value_is, actor_of, actor_is, ambient_of, ambient_is, ask_of, ask_is, cause_of, cause_is, class_of, class_is, clone_of, clone_is, connection_of, connection_is, direction_of, direction_is, enlistment_of, enlistment_is, found_of, found_is, id_of, id_is, image_of, image_is, kind_of, kind_is, manager_of, manager_is, outcome_of, outcome_is, party_of, party_is, promote_of, promote_is, request_of, request_is, scope_of, scope_is, vote_of, vote_is}

-- entries of one word
abbrev events : List (List ℕ × Entry)
events =
    (codes "commit", CommitAsked) ∷ (codes "rollback", RollbackAsked) ∷ (codes "timedout", TimedOut) ∷ (codes "late", Late) ∷
    (codes "sealed", Sealed) ∷ (codes "yes", LocalYes) ∷ (codes "promotionfailed", PromotionFailed) ∷ (codes "logged", Logged) ∷
    (codes "logfull", LogFull) ∷ (codes "freed", Freed) ∷ (codes "stopped", Stopped) ∷ []

-- entries of a keyword and one word
abbrev of_word : List ℕ → List (List ℕ × Entry)
of_word w =
    (codes "began", Began (value w)) ∷ (codes "completed", Completed (clone_of w)) ∷ (codes "init", Init (enlistment_of w)) ∷
    (codes "clock", Clock (value w)) ∷ (codes "hand", Handed (enlistment_of w)) ∷ (codes "decided", Decided (outcome_of w)) ∷
    (codes "promoting", Promoting (cause_of w)) ∷ (codes "lost", Lost (enlistment_of w)) ∷ (codes "restarted", Restarted (found_of w)) ∷
    (codes "reenlisted", Reenlisted (enlistment_of w)) ∷ (codes "recovered", Recovered (manager_of w)) ∷ (codes "acked", Acked (enlistment_of w)) ∷
    (codes "finished", Scope (ScopeFinished (scope_of w))) ∷ (codes "closed", Scope (Closed (scope_of w))) ∷ []

-- entries of an enlistment and a word
abbrev about_enlistment : List ℕ → List (List ℕ × Entry)
about_enlistment w =
    (codes "enlisted", of_two Enlisted enlistment_of class_of w) ∷ (codes "ask", of_two Asked enlistment_of ask_of w) ∷
    (codes "vote", of_two Voted enlistment_of vote_of w) ∷ (codes "promote", of_two PromoteReply enlistment_of promote_of w) ∷
    (codes "request", of_two Requested enlistment_of request_of w) ∷ (codes "owner", of_two OwnerAnswered enlistment_of outcome_of w) ∷ []

-- `opened` is of a scope, whose name begins with a letter, or of a log
abbrev opened_of : List ℕ → Entry
opened_of w = if get_or w 0 0 == 115 then of_two (λ s t. Scope (Opened s t)) scope_of ambient_of w else LogWord (LogOpened (value w))

-- other entries of several words
abbrev of_words : List ℕ → List (List ℕ × Entry)
of_words w =
    (codes "answer", of_two Answered value answer_of w) ∷ (codes "cloned", of_two Cloned clone_of kind_of w) ∷
    (codes "told", of_two Told party_of outcome_of w) ∷ (codes "promoted", of_two Promoted id_of cause_of w) ∷
    (codes "down", of_two Down connection_of direction_of w) ∷ (codes "opened", opened_of w) ∷
    (codes "armed", of_two (λ n k. LogWord (Armed n k)) value image_of w) ∷ (codes "call", of_three Called value actor_of answer_of w) ∷
    (codes "cut", of_three Cut connection_of value value w) ∷ []

-- what crosses, with this identifier and this recovery information in its message
abbrev crossing_of : ℕ → Info → (Conn → Dir → Message → Entry) → List ℕ → Entry
crossing_of u i f w = of_three (λ c d n. f c d (message_of u i c d n)) connection_of direction_of (λ n. n) w

abbrev crossings : ℕ → Info → List ℕ → List (List ℕ × Entry)
crossings u i w = (codes "sent", crossing_of u i Sent w) ∷ (codes "got", crossing_of u i Got w) ∷ []

-- the entry of this keyword and these words
abbrev entry_by : ℕ → Info → List ℕ → List ℕ → Entry
entry_by u i key w = chosen key (events ++ of_word w ++ about_enlistment w ++ of_words w ++ crossings u i w) Late

abbrev pub entry_of : ℕ → Info → List ℕ → Entry
entry_of u i w = entry_by u i (front 32 w) (behind 32 w)

-- the second branch where the test doesn't hold
refused : {A : Type 0} (b : Bool) (x y : A) → b ≡ false → (if b then x else y) ≡ y
refused true x y h = absurd cc
refused false x y h = refl

-- what crosses is read back by its name
crossing_is : (u : ℕ) (i : Info) (f : Conn → Dir → Message → Entry) (c : Conn) (d : Dir) (m : Message) → is_cause_typed m ≡ true
    → crossing_of u i f (sent_text c d m) ≡ f c d (by_name c d (carrying u i m))
crossing_is u i f c d m h =
    three_are (λ c d n. f c d (message_of u i c d n)) connection_of direction_of (λ n. n) c d (message_text m) (connection_word c) (direction_text d) (message_text m) (connection_apart c)
    (direction_apart d) (connection_is c) (direction_is d) refl
    ∙ ap (f c d) (message_is u i c d m h)

-- so is an entry, but for what its message's line leaves out
pub entry_is : (u : ℕ) (i : Info) (x : Entry) → is_typed x ≡ true → entry_of u i (entry_text x) ≡ named u i x
entry_is u i CommitAsked h = refl
entry_is u i RollbackAsked h = refl
entry_is u i TimedOut h = refl
entry_is u i Late h = refl
entry_is u i Sealed h = refl
entry_is u i LocalYes h = refl
entry_is u i PromotionFailed h = refl
entry_is u i Logged h = refl
entry_is u i LogFull h = refl
entry_is u i Freed h = refl
entry_is u i Stopped h = refl
entry_is u i (Began n) h =
    let small : n < 2 ^ 64 = grind (arith, nat_tests) in
    ap Began (value_is n small)
entry_is u i (Completed x) h = ap Completed (clone_is x)
entry_is u i (Init x) h = ap Init (enlistment_is x)
entry_is u i (Clock n) h =
    let small : n < 2 ^ 64 = grind (arith, nat_tests) in
    ap Clock (value_is n small)
entry_is u i (Handed x) h = ap Handed (enlistment_is x)
entry_is u i (Decided x) h = ap Decided (outcome_is x)
entry_is u i (Promoting x) h = ap Promoting (cause_is x)
entry_is u i (Lost x) h = ap Lost (enlistment_is x)
entry_is u i (Restarted x) h = ap Restarted (found_is x)
entry_is u i (Reenlisted x) h = ap Reenlisted (enlistment_is x)
entry_is u i (Recovered x) h = ap Recovered (manager_is x)
entry_is u i (Acked x) h = ap Acked (enlistment_is x)
entry_is u i (Scope (ScopeFinished s)) h = ap (λ x. Scope (ScopeFinished x)) (scope_is s)
entry_is u i (Scope (Closed s)) h = ap (λ x. Scope (Closed x)) (scope_is s)
entry_is u i (Enlisted e x) h = two_are Enlisted enlistment_of class_of e x (enlistment_name e.value) (class_text x) (name_without 101 e.value (omega arith)) (enlistment_is e) (class_is x)
entry_is u i (Asked e x) h = two_are Asked enlistment_of ask_of e x (enlistment_name e.value) (ask_text x) (name_without 101 e.value (omega arith)) (enlistment_is e) (ask_is x)
entry_is u i (Voted e x) h = two_are Voted enlistment_of vote_of e x (enlistment_name e.value) (cast_vote_text x) (name_without 101 e.value (omega arith)) (enlistment_is e) (vote_is x)
entry_is u i (PromoteReply e x) h = two_are PromoteReply enlistment_of promote_of e x (enlistment_name e.value) (promote_text x) (name_without 101 e.value (omega arith)) (enlistment_is e) (promote_is x)
entry_is u i (Requested e x) h = two_are Requested enlistment_of request_of e x (enlistment_name e.value) (request_text x) (name_without 101 e.value (omega arith)) (enlistment_is e) (request_is x)
entry_is u i (OwnerAnswered e x) h = two_are OwnerAnswered enlistment_of outcome_of e x (enlistment_name e.value) (outcome_text x) (name_without 101 e.value (omega arith)) (enlistment_is e) (outcome_is x)
entry_is u i (Answered n x) h =
    let below = and_left (nat_le n 4294967295) (is_answer_fit x) h in
    let small : n < 2 ^ 64 = grind (arith, nat_tests) in
    two_are Answered value answer_of n x (decimal n) (answer_text x) (without_decimal 32 n (omega arith)) (value_is n small) (answer_is x (and_right (nat_le n 4294967295) (is_answer_fit x) h))
entry_is u i (Cloned c k) h = two_are Cloned clone_of kind_of c k (clone_name c.value) (kind_word k) (name_without 99 c.value (omega arith)) (clone_is c) (kind_is k)
entry_is u i (Told p o) h = two_are Told party_of outcome_of p o (party_text p) (outcome_text o) (party_apart p) (party_is p) (outcome_is o)
entry_is u i (Promoted v c) h =
    let small : v < 2 ^ 128 = grind (arith, nat_tests) in
    two_are Promoted id_of cause_of v c (id_text v) (cause_text c) (id_without 32 v (omega arith)) (id_is v small) (cause_is c)
entry_is u i (Down c d) h = two_are Down connection_of direction_of c d (connection_word c) (direction_text d) (connection_apart c) (connection_is c) (direction_is d)
entry_is u i (Scope (Opened s t)) h =
    two_are (λ s t. Scope (Opened s t)) scope_of ambient_of s t (scope_name s.value) (ambient_text t) (name_without 115 s.value (omega arith)) (scope_is s) (ambient_is t)
entry_is u i (LogWord (LogOpened n)) h =
    let small : n < 2 ^ 64 = grind (arith, nat_tests) in
    let digit = digit_first n small in
    let other : (get_or (decimal n) 0 0 == 115) ≡ false = grind (arith, nat_tests) in
    refused (get_or (decimal n) 0 0 == 115) _ _ other ∙ ap (λ x. LogWord (LogOpened x)) (value_is n small)
entry_is u i (LogWord (Armed n k)) h =
    let small : n < 2 ^ 64 = grind (arith, nat_tests) in
    two_are (λ n k. LogWord (Armed n k)) value image_of n k (decimal n) (image_word k) (without_decimal 32 n (omega arith)) (value_is n small) (image_is k)
entry_is u i (Called n a x) h =
    let below = and_left (nat_le n 4294967295) (is_answer_fit x) h in
    let small : n < 2 ^ 64 = grind (arith, nat_tests) in
    three_are Called value actor_of answer_of n a x (decimal n) (actor_name a.value) (answer_text x) (without_decimal 32 n (omega arith)) (name_without 97 a.value (omega arith))
    (value_is n small) (actor_is a) (answer_is x (and_right (nat_le n 4294967295) (is_answer_fit x) h))
entry_is u i (Cut c up down) h =
    let first = and_left (nat_le up 4294967295) (nat_le down 4294967295) h in
    let last = and_right (nat_le up 4294967295) (nat_le down 4294967295) h in
    let up_small : up < 2 ^ 64 = grind (arith, nat_tests) in
    let down_small : down < 2 ^ 64 = grind (arith, nat_tests) in
    three_are Cut connection_of value value c up down (connection_word c) (decimal up) (decimal down) (connection_apart c) (without_decimal 32 up (omega arith)) (connection_is c)
    (value_is up up_small) (value_is down down_small)
entry_is u i (Sent c d m) h = crossing_is u i Sent c d m h
entry_is u i (Got c d m) h = crossing_is u i Got c d m h

-- an entry whose message its connection carries is told whole by its names
pub named_told : (u : ℕ) (i : Info) (x : Entry) → is_carried x ≡ true → named u i x ≡ told u i x
named_told u i (Sent c d m) h = ap (Sent c d) (carried_name u i c d m h)
named_told u i (Got c d m) h = ap (Got c d) (carried_name u i c d m h)
named_told u i _ h = refl
