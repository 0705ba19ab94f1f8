-- What is left at the local side: how an entry changes it.
use Rattle.std.proofs.Common.{◌≡◌, ℕ, ◌+◌, ◌*◌, ◌≤◌, ◌==◌, Bool, true, false, ◌||◌, not, List, ◌∷◌, map, filter, None, is_some, if◌then◌else◌, refl, arith}
use Rattle.dtx_values.specs.declared.entry.Ask.{Ask}
use Rattle.dtx_values.specs.declared.entry.Ask.TheVariants.{Prepare, Promote, Single}
use Rattle.dtx_values.specs.declared.entry.Answer.{Answer}
use Rattle.dtx_values.specs.declared.entry.Entry.{Entry}
use Rattle.dtx_values.specs.declared.entry.Entry.TheVariants.{Answered, Asked, Voted, PromoteReply, Requested, Sealed, Handed, OwnerAnswered, LocalYes, Decided, Told, Promoted, PromotionFailed, Sent, Down as Ended, LogFull, Freed, Stopped, Acked}
use Rattle.dtx_values.specs.declared.entry.Party.{Party}
use Rattle.dtx_values.specs.declared.entry.Party.TheVariants.{Client, Enl as Member}
use Rattle.dtx_values.specs.declared.entry.Request.{Request}
use Rattle.dtx_values.specs.declared.message.Conn.{Conn}
use Rattle.dtx_values.specs.declared.message.Conn.TheVariants.{Begin, Voter, Enl, Again}
use Rattle.dtx_values.specs.declared.message.Dir.{Dir}
use Rattle.dtx_values.specs.declared.message.Dir.TheVariants.{Up, Down}
use Rattle.dtx_values.specs.declared.message.Message.{Message}
use Rattle.dtx_values.specs.declared.message.Message.TheVariants.{EnlistEnlist}
use Rattle.dtx_values.specs.declared.number.EnlNo.{EnlNo}
use Rattle.dtx_values.specs.declared.row.Row.{Row}
use Rattle.dtx_values.specs.declared.words.Cause.{Cause}
use Rattle.dtx_values.specs.declared.words.Outcome.{Outcome}
use Rattle.dtx_values.specs.declared.words.Outcome.TheVariants.{Committed, Aborted, InDoubt}
use Rattle.dtx_values.specs.declared.words.Vote.{Vote}
use Rattle.dtx_values.specs.Row.{is_of, mark_in, mark_row, unless_there, vote_in, vote_row}
use Rattle.dtx_values.specs.Table.{how_many, marks}
use Rattle.local_half.specs.Half.{owes_ack}
use Rattle.dtx_model.specs.declared.branch.Branch.{Branch}
use Rattle.dtx_model.specs.declared.listener.Listener.{Listener}
use Rattle.dtx_model.specs.Entries.{client_told_of, decision_of, handed_of, is_owner_answer, is_promoted, is_sealed, is_yes}
use Rattle.dtx_model.specs.Half.{half_of}
use Rattle.dtx_model.specs.Observed.{branch_aborted, branch_acked, branch_number, branches, due_in, hear, is_ask_promote, is_ask_single, is_branch, is_promote_reply, is_request, listeners, observe, rows}
use Rattle.dtx_model.specs.declared.waiting.EnteredCall.{EnteredCall}
use Rattle.dtx_model.specs.Waiting.{Waiter, is_place, waiting}
use Rattle.dtx_model.specs.Words.{has, latest}
use Rattle.dtx_model.proofs.Counts.{how_many-insert_by, how_many-map}
use Rattle.history_table.proofs.TableRows.{there}
use Rattle.world_laws.specs.Left.{half_left, places_left, unmarked, untold, unvoted}
use Rattle.world_laws.proofs.LeftSums.{how_many-filter}
use Rattle.world_laws.proofs.LeftCounts.{how_many-map-le}

no : false ≡ true → ⊥
no e = absurd cc

-- A row's mark and vote, and a listener's notification, only come.
pub mark_keeps_unmarked : (e n : ℕ) (x : Row) → unmarked (mark_in e n x) ≡ true → unmarked x ≡ true
mark_keeps_unmarked e n x k = step (is_of e x) k
  where
    step : (b : Bool) → unmarked (if b then mark_row n x else x) ≡ true → unmarked x ≡ true
    step true k = let marked : is_some (unless_there x.asked n) ≡ true = there x.asked n in absurd (let e : not (is_some (unless_there x.asked n)) ≡ true = k in cc)
    step false k = k

-- a mark is no vote
pub mark_keeps_unvoted : (e n : ℕ) (x : Row) → unvoted (mark_in e n x) ≡ true → unvoted x ≡ true
mark_keeps_unvoted e n x k = step (is_of e x) k
  where
    step : (b : Bool) → unvoted (if b then mark_row n x else x) ≡ true → unvoted x ≡ true
    step true k = k
    step false k = k

-- a vote is no mark
pub cast_keeps_unmarked : (e : ℕ) (v : Vote) (x : Row) → unmarked (vote_in e v x) ≡ true → unmarked x ≡ true
cast_keeps_unmarked e v x k = step (is_of e x) k
  where
    step : (b : Bool) → unmarked (if b then vote_row v x else x) ≡ true → unmarked x ≡ true
    step true k = k
    step false k = k

-- a vote takes away what wasn't voted alone
pub cast_keeps_unvoted : (e : ℕ) (v : Vote) (x : Row) → unvoted (vote_in e v x) ≡ true → unvoted x ≡ true
cast_keeps_unvoted e v x k = step (is_of e x) k
  where
    step : (b : Bool) → unvoted (if b then vote_row v x else x) ≡ true → unvoted x ≡ true
    step true k = let voted : is_some (unless_there x.vote v) ≡ true = there x.vote v in absurd (let e : not (is_some (unless_there x.vote v)) ≡ true = k in cc)
    step false k = k

-- who is told was or wasn't told before
pub hear_keeps : (e : ℕ) (l : Listener) → untold (hear e l) ≡ true → untold l ≡ true
hear_keeps e l k = step (e == l.enlistment.value) l.told k
  where
    step : (a b : Bool) → not (a || b) ≡ true → not b ≡ true
    step true b k = absurd (let e : false ≡ true = k in cc)
    step false b k = k

-- an acknowledgement makes nothing due
pub ack_keeps : (e : ℕ) (b : Branch) → owes_ack (branch_acked e b) ≡ true → owes_ack b ≡ true
ack_keeps e b k = step (is_branch e b) k
  where
    step : (t : Bool) → is_some (due_in t None b.due) ≡ true → is_some b.due ≡ true
    step true k = absurd (no k)
    step false k = k

-- fewer calls that wait leave no more
pub places-le : (p : Bool) (n m : ℕ) → n ≤ m → places_left p n ≤ places_left p m
places-le true n m k = omega arith
places-le false n m k = omega arith

-- an entry of a step, by which nothing comes to either side but the messages that are sent
abbrev pub is_free : Entry → Bool
is_free (Answered n x) = true
is_free (Asked e a) = true
is_free (Voted e v) = true
is_free (PromoteReply e ok) = true
is_free (Requested e r) = true
is_free Sealed = true
is_free (Handed e) = true
is_free (OwnerAnswered e x) = true
is_free LocalYes = true
is_free (Decided x) = true
is_free (Told p x) = true
is_free (Promoted u c) = true
is_free PromotionFailed = true
is_free (Sent c d m) = true
is_free (Ended c d) = true
is_free LogFull = true
is_free Freed = true
is_free Stopped = true
is_free (Acked e) = true
is_free _ = false

answered-half : (ks : List EnteredCall) (n : ℕ) (a : Answer) (h : List Entry) → half_left (half_of ks (Answered n a ∷ h)) ≤ half_left (half_of ks h)
unfolding observe
answered-half ks n a h =
    let fewer = how_many-filter is_place (λ (w : Waiter). not (n == w.0)) (waiting ks h) in
    let z = places-le (observe h).promoted (how_many is_place (filter (λ (w : Waiter). not (n == w.0)) (waiting ks h))) (how_many is_place (waiting ks h)) fewer in omega arith

marked-half : (ks : List EnteredCall) (e : EnlNo) (h : List Entry) → half_left (half_of ks (Asked e Prepare ∷ h)) ≤ half_left (half_of ks h)
unfolding observe
marked-half ks e h =
    let n = marks (rows h) in
    let a = how_many-map-le unmarked (mark_in e.value n) (mark_keeps_unmarked e.value n) (rows h) in
    let v = how_many-map-le unvoted (mark_in e.value n) (mark_keeps_unvoted e.value n) (rows h) in omega arith

asked-half : (ks : List EnteredCall) (e : EnlNo) (a : Ask) (h : List Entry) → half_left (half_of ks (Asked e a ∷ h)) ≤ half_left (half_of ks h)
unfolding observe
asked-half ks e Prepare h = marked-half ks e h
asked-half ks e Promote h = omega arith
asked-half ks e Single h = omega arith

voted-half : (ks : List EnteredCall) (e : EnlNo) (v : Vote) (h : List Entry) → half_left (half_of ks (Voted e v ∷ h)) ≤ half_left (half_of ks h)
unfolding observe
voted-half ks e v h =
    let a = how_many-map-le unmarked (vote_in e.value v) (cast_keeps_unmarked e.value v) (rows h) in
    let b = how_many-map-le unvoted (vote_in e.value v) (cast_keeps_unvoted e.value v) (rows h) in omega arith

-- an abort makes nothing due
pub aborted-acks : (e : ℕ) (bs : List Branch) → how_many owes_ack (map (branch_aborted e) bs) ≡ how_many owes_ack bs
aborted-acks e bs = how_many-map owes_ack (branch_aborted e) (λ b. refl) bs

told-half : (ks : List EnteredCall) (p : Party) (x : Outcome) (h : List Entry) → half_left (half_of ks (Told p x ∷ h)) ≤ half_left (half_of ks h)
unfolding observe
told-half ks Client x h = omega arith
told-half ks (Member e) Aborted h = let a = how_many-map-le untold (hear e.value) (hear_keeps e.value) (listeners h) in let b = aborted-acks e.value (branches h) in omega arith
told-half ks (Member e) Committed h = let a = how_many-map-le untold (hear e.value) (hear_keeps e.value) (listeners h) in omega arith
told-half ks (Member e) InDoubt h = let a = how_many-map-le untold (hear e.value) (hear_keeps e.value) (listeners h) in omega arith

acked-half : (ks : List EnteredCall) (e : EnlNo) (h : List Entry) → half_left (half_of ks (Acked e ∷ h)) ≤ half_left (half_of ks h)
unfolding observe
acked-half ks e h = let a = how_many-map-le owes_ack (branch_acked e.value) (ack_keeps e.value) (branches h) in omega arith

sent-half : (ks : List EnteredCall) (c : Conn) (d : Dir) (m : Message) (h : List Entry) → half_left (half_of ks (Sent c d m ∷ h)) ≤ half_left (half_of ks h)
unfolding observe
sent-half ks Begin d m h = omega arith
sent-half ks Voter d m h = omega arith
sent-half ks (Again e) d m h = omega arith
sent-half ks (Enl e) Down m h = omega arith
sent-half ks (Enl e) Up (EnlistEnlist i) h =
    let a = how_many-insert_by owes_ack branch_number (record { enlistment = e; manager = i.rm; enlisted = false; aborted = false; acked = false; due = None }) (filter (λ b. not (is_branch e.value b)) (branches h)) in
    let b = how_many-filter owes_ack (λ b. not (is_branch e.value b)) (branches h) in omega arith
sent-half ks (Enl e) Up m h = omega arith

lost-untold : (e : ℕ) (ls : List Listener) → how_many untold (map (λ l. record { enlistment = l.enlistment; told = l.told; lost = (e == l.enlistment.value) || l.lost }) ls) ≡ how_many untold ls
lost-untold e ls = how_many-map untold (λ l. record { enlistment = l.enlistment; told = l.told; lost = (e == l.enlistment.value) || l.lost }) (λ l. refl) ls

-- a promotion that succeeds leaves the ENLIST of each that waits
pub promoted-half : (ks : List EnteredCall) (u : ℕ) (c : Cause) (h : List Entry) → (has is_promoted h ≡ false) → half_left (half_of ks (Promoted u c ∷ h)) + 13 * how_many is_place (waiting ks h) ≤ half_left (half_of ks h)
unfolding observe
promoted-half ks u c h n = rw n (omega arith)

promoted-free : (ks : List EnteredCall) (u : ℕ) (c : Cause) (h : List Entry) → half_left (half_of ks (Promoted u c ∷ h)) ≤ half_left (half_of ks h)
unfolding observe
promoted-free ks u c h = let z = by (has is_promoted h) (how_many is_place (waiting ks h)) in omega arith
  where
    by : (b : Bool) (n : ℕ) → 4 * n ≤ places_left b n
    by true n = omega arith
    by false n = omega arith

-- such an entry leaves no more at the local side
pub half-free : (ks : List EnteredCall) (x : Entry) (h : List Entry) → is_free x ≡ true → half_left (half_of ks (x ∷ h)) ≤ half_left (half_of ks h)
unfolding observe
half-free ks (Answered n a) h f = answered-half ks n a h
half-free ks (Asked e a) h f = asked-half ks e a h
half-free ks (Voted e v) h f = voted-half ks e v h
half-free ks (PromoteReply e ok) h f = omega arith
half-free ks (Requested e r) h f = omega arith
half-free ks Sealed h f = omega arith
half-free ks (Handed e) h f = omega arith
half-free ks (OwnerAnswered e x) h f = omega arith
half-free ks LocalYes h f = omega arith
half-free ks (Decided x) h f = omega arith
half-free ks (Told p x) h f = told-half ks p x h
half-free ks (Promoted u c) h f = promoted-free ks u c h
half-free ks PromotionFailed h f = omega arith
half-free ks (Sent c d m) h f = sent-half ks c d m h
half-free ks (Ended c d) h f = omega arith
half-free ks LogFull h f = omega arith
half-free ks Freed h f = omega arith
half-free ks Stopped h f = omega arith
half-free ks (Acked e) h f = acked-half ks e h
half-free ks _ h f = absurd (no f)

-- What comes once.
pub sealed-half : (ks : List EnteredCall) (h : List Entry) → (observe h).sealed ≡ false → half_left (half_of ks (Sealed ∷ h)) + 2 ≤ half_left (half_of ks h)
unfolding observe
sealed-half ks h n = let m : has is_sealed h ≡ false = n in rw m (omega arith)

-- the handing
pub handed-half : (ks : List EnteredCall) (e : EnlNo) (h : List Entry) → is_some (observe h).handed ≡ false → half_left (half_of ks (Handed e ∷ h)) + 1 ≤ half_left (half_of ks h)
unfolding observe
handed-half ks e h n = let m : is_some (latest handed_of h) ≡ false = n in rw m (omega arith)

-- the owner's answer
pub owner-half : (ks : List EnteredCall) (e : EnlNo) (x : Outcome) (h : List Entry) → (observe h).answered ≡ false → half_left (half_of ks (OwnerAnswered e x ∷ h)) + 2 ≤ half_left (half_of ks h)
unfolding observe
owner-half ks e x h n = let m : has is_owner_answer h ≡ false = n in rw m (omega arith)

-- the decision
pub decided-half : (ks : List EnteredCall) (x : Outcome) (h : List Entry) → is_some (observe h).decided ≡ false → half_left (half_of ks (Decided x ∷ h)) + 1 ≤ half_left (half_of ks h)
unfolding observe
decided-half ks x h n = let m : is_some (latest decision_of h) ≡ false = n in rw m (omega arith)

-- the client's notification
pub client-half : (ks : List EnteredCall) (x : Outcome) (h : List Entry) → is_some (observe h).told_client ≡ false → half_left (half_of ks (Told Client x ∷ h)) + 1 ≤ half_left (half_of ks h)
unfolding observe
client-half ks x h n = let m : is_some (latest client_told_of h) ≡ false = n in rw m (omega arith)

-- the ask to promote
pub promote-half : (ks : List EnteredCall) (e : EnlNo) (h : List Entry) → (observe h).promote_asked ≡ false → half_left (half_of ks (Asked e Promote ∷ h)) + 1 ≤ half_left (half_of ks h)
unfolding observe
promote-half ks e h n = let m : has is_ask_promote h ≡ false = n in rw m (omega arith)

-- its answer
pub replied-half : (ks : List EnteredCall) (e : EnlNo) (b : Bool) (h : List Entry) → (observe h).promote_replied ≡ false → half_left (half_of ks (PromoteReply e b ∷ h)) + 24 ≤ half_left (half_of ks h)
unfolding observe
replied-half ks e b h n = let m : has is_promote_reply h ≡ false = n in rw m (omega arith)

-- the ask to commit in a single phase
pub single-half : (ks : List EnteredCall) (e : EnlNo) (h : List Entry) → (observe h).single_asked ≡ false → half_left (half_of ks (Asked e Single ∷ h)) + 1 ≤ half_left (half_of ks h)
unfolding observe
single-half ks e h n = let m : has is_ask_single h ≡ false = n in rw m (omega arith)

-- its request
pub requested-half : (ks : List EnteredCall) (e : EnlNo) (r : Request) (h : List Entry) → (observe h).requested ≡ false → half_left (half_of ks (Requested e r ∷ h)) + 2 ≤ half_left (half_of ks h)
unfolding observe
requested-half ks e r h n = let m : has is_request h ≡ false = n in rw m (omega arith)

-- the voter's yes
pub yes-half : (ks : List EnteredCall) (h : List Entry) → (observe h).yes ≡ false → half_left (half_of ks (LocalYes ∷ h)) + 2 ≤ half_left (half_of ks h)
unfolding observe
yes-half ks h n = let m : has is_yes h ≡ false = n in rw m (omega arith)
