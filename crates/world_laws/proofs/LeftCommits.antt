-- COMMIT is sent at most once after the seal and once on request; so where one is on the way, the coordinator got one at most.
use Rattle.std.proofs.Common.{◌≡◌, ◌⊎◌, inl, inr, ℕ, suc, ◌+◌, ◌≤◌, Bool, true, false, ◌&&◌, ◌||◌, not, List, [], ◌∷◌, ◌++◌, Some, is_some, if◌then◌else◌, refl, sym, subst, ap, ◌∙◌, arith}
use Rattle.dtx_values.specs.declared.call.Call.{Call}
use Rattle.dtx_values.specs.declared.entry.Entry.{Entry}
use Rattle.dtx_values.specs.declared.entry.Entry.TheVariants.{Called, Down as Ended, Got, Requested, Sealed, Sent, Stopped}
use Rattle.dtx_values.specs.declared.message.Conn.{Conn}
use Rattle.dtx_values.specs.declared.message.Conn.TheVariants.{Begin, Voter, Enl}
use Rattle.dtx_values.specs.declared.message.Dir.TheVariants.{Up, Down}
use Rattle.dtx_values.specs.declared.message.Message.{Message}
use Rattle.dtx_values.specs.declared.message.Message.TheVariants.{BeginCommit, BeginCommitOne, EnlistPrepare, VoterAsk}
use Rattle.dtx_values.specs.declared.note.Note.TheVariants.{Single as SingleNote}
use Rattle.dtx_values.specs.declared.number.ActorNo.{ActorNo}
use Rattle.dtx_values.specs.declared.number.EnlNo.{EnlNo}
use Rattle.dtx_values.specs.Ends.{knows, same_connection}
use Rattle.dtx_values.specs.Table.{how_many}
use Rattle.dtx_model.specs.declared.desk.Desk.{Desk}
use Rattle.dtx_model.specs.Acts.{act_entries, commit_message, promotable_in}
use Rattle.dtx_model.specs.Caused.{Ran}
use Rattle.dtx_model.specs.Coordinated.{Coordinated, coordinate, core_got, is_active, may_log, to, to_each}
use Rattle.dtx_model.specs.Entries.{is_commit_got, is_commit_message, is_sealed}
use Rattle.dtx_model.specs.Facts.{facts_if, has_facts}
use Rattle.dtx_model.specs.Half.{Half, to_up}
use Rattle.dtx_model.specs.Observed.{Observed, is_request, observe}
use Rattle.dtx_model.specs.Promotes.{identifier_of}
use Rattle.dtx_model.specs.Arrivals.{local_got}
use Rattle.dtx_model.specs.Replies.{due_of, reply_entries, request_message, request_of}
use Rattle.dtx_model.specs.Steps.{Step, Calls, Replies, Acts, Coordinates, Delivers, Stops, Restarts, after, block_at, coordinates, delivered, ended_at, restarted}
use Rattle.dtx_model.specs.Wires.{WireRun, in_transit}
use Rattle.dtx_model.specs.Words.{each, has, onto}
use Rattle.dtx_model.specs.World.{World, answer_at, core, facts_at, half}
use Rattle.dtx_model.proofs.Bools.{and_both, and_left, and_right, not_true}
use Rattle.history_table.proofs.BareBlocks.{Bare, Requests, Seals, act_kind, bare_appended, bare_called, bare_cons, bare_core_got, bare_ended_at, bare_freed, bare_if, bare_local_got, bare_one, bare_restarted, is_bare, reply_kind}
use Rattle.history_table.proofs.Messages.{COMMIT}
use Rattle.history_table.proofs.Crossed.{is_got_on}
use Rattle.history_table.proofs.InTransit.{no_more}
use Rattle.world_laws.specs.Left.{commits}
use Rattle.world_laws.proofs.LeftActs.{owed}
use Rattle.history_table.proofs.Asking.{is_commit_sent, bare_uncommit}

no : false ≡ true → ⊥
no e = absurd cc

abbrev one_if : Bool → ℕ
one_if b = if b then 1 else 0

abbrev allowed : List Entry → ℕ
allowed h = one_if (has is_sealed h) + one_if (has is_request h)

-- COMMIT was sent at most once for the seal, and once for the request
pub record AreFew (h : List Entry) : Type 0 where
  pub few : how_many is_commit_sent h ≤ allowed h

if_more : (a b : Bool) → one_if b ≤ one_if (a || b)
if_more true true = omega arith
if_more true false = omega arith
if_more false b = omega arith

-- an entry that sends none
quiet_few : (x : Entry) (h : List Entry) → is_commit_sent x ≡ false → AreFew h → AreFew (x ∷ h)
quiet_few x h n i = record { few = rw n (let a = if_more (is_sealed x) (has is_sealed h) in let b = if_more (is_request x) (has is_request h) in let c = i.few in omega arith) }

abbrev is_uncommit : Entry → Bool
is_uncommit x = not (is_commit_sent x)

quiets_few : (h es : List Entry) → each is_uncommit es ≡ true → AreFew h → AreFew (onto h es)
quiets_few h [] q i = i
quiets_few h (x ∷ es) q i =
    quiets_few (x ∷ h) es (and_right (is_uncommit x) (each is_uncommit es) q) (quiet_few x h (not_true (is_commit_sent x) (and_left (is_uncommit x) (each is_uncommit es) q)) i)

bare_few : (h es : List Entry) → Bare es → AreFew h → AreFew (onto h es)
bare_few h [] b i = i
bare_few h (x ∷ es) b i =
    bare_few (x ∷ h) es (record { proof = and_right (is_bare x) (each is_bare es) b.proof }) (quiet_few x h (bare_uncommit x (and_left (is_bare x) (each is_bare es) b.proof)) i)

-- one that may send one
sent_few : (o : Observed) (m : Message) (h : List Entry) → how_many is_commit_sent h + 1 ≤ allowed h → AreFew (onto h (to_up o Begin m))
sent_few o m h l = by (knows Begin o.ends)
  where
    one : (b : Bool) → (if b then suc (how_many is_commit_sent h) else how_many is_commit_sent h) ≤ allowed h
    one true = omega arith
    one false = omega arith

    by : (b : Bool) → AreFew (onto h (if b then Sent Begin Up m ∷ [] else []))
    by true = record { few = one (COMMIT m) }
    by false = record { few = omega arith }

seal_few : (h : List Entry) (es : List Entry) (v : Half) → v.seen ≡ observe h → Seals v es → AreFew h → AreFew (onto h es)
unfolding observe
seal_few h es v q s i =
    let S : Observed → Type 0 = λ o. o.sealed ≡ false in
    let unsealed : has is_sealed h ≡ false = subst S q s.0 in
    let P : List Entry → Type 0 = λ es. AreFew (onto h es) in
    subst P (sym s.1) (by (v.seen.promoted && not (is_some (promotable_in v.seen.table))) unsealed)
  where
    by : (b : Bool) → has is_sealed h ≡ false → AreFew (onto (Sealed ∷ h) (if b then to_up v.seen Begin (commit_message v.seen) else []))
    by true u = sent_few v.seen (commit_message v.seen) (Sealed ∷ h) (let a : one_if (has is_sealed h) ≡ 0 = ap one_if u in let c = i.few in omega arith)
    by false u = quiet_few Sealed h refl i

request_few : (h : List Entry) (es : List Entry) (v : Half) (e : EnlNo) → v.seen ≡ observe h → Requests v e es → AreFew h → AreFew (onto h es)
unfolding observe
request_few h es v e q s i =
    let D : Observed → Type 0 = λ o. due_of o e.value ≡ Some SingleNote in
    let unrequested : has is_request h ≡ false = owed (observe h) e.value SingleNote (subst D q s.1) in
    let P : List Entry → Type 0 = λ es. AreFew (onto h es) in
    let a : one_if (has is_request h) ≡ 0 = ap one_if unrequested in
    let c = i.few in
    subst P (sym s.2) (sent_few v.seen (request_message s.0) (Requested e (request_of s.0) ∷ h) (omega arith))

-- what the coordinator sends is no COMMIT
down_to : (k : Coordinated) (c : Conn) (m : Message) → each is_uncommit (to k c m) ≡ true
down_to k c m = by (has (same_connection c) k.known)
  where
    one : (a b : Bool) → (not (a && false && b) && true) ≡ true
    one true b = refl
    one false b = refl

    by : (b : Bool) → each is_uncommit (if b then Sent c Down m ∷ [] else []) ≡ true
    by true = one (same_connection Begin c) (COMMIT m)
    by false = refl

join : (xs ys : List Entry) → each is_uncommit xs ≡ true → each is_uncommit ys ≡ true → each is_uncommit (xs ++ ys) ≡ true
join [] ys a b = b
join (x ∷ xs) ys a b = and_both (is_uncommit x) (each is_uncommit (xs ++ ys)) (and_left (is_uncommit x) (each is_uncommit xs) a) (join xs ys (and_right (is_uncommit x) (each is_uncommit xs) a) b)

down_each : (k : Coordinated) (m : Message) (ds : List Desk) → each is_uncommit (to_each k m ds) ≡ true
down_each k m [] = refl
down_each k m (d ∷ ds) = join (to k (Enl d.enlistment) m) (to_each k m ds) (down_to k (Enl d.enlistment) m) (down_each k m ds)

got_few : (id : ℕ) (c : Conn) (m : Message) (h : List Entry) → AreFew h → AreFew (onto (Got c Up m ∷ h) (core_got id (coordinate h) c m))
unfolding core_got
got_few id Begin BeginCommit h i = by (is_active (coordinate h).stage)
  where
    by : (b : Bool) → AreFew (onto (Got Begin Up BeginCommit ∷ h) (if b then to (coordinate h) Voter VoterAsk ++ to_each (coordinate h) EnlistPrepare (coordinate h).desks else []))
    by true =
        quiets_few (Got Begin Up BeginCommit ∷ h) (to (coordinate h) Voter VoterAsk ++ to_each (coordinate h) EnlistPrepare (coordinate h).desks)
        (join (to (coordinate h) Voter VoterAsk) (to_each (coordinate h) EnlistPrepare (coordinate h).desks) (down_to (coordinate h) Voter VoterAsk) (down_each (coordinate h) EnlistPrepare (coordinate h).desks))
        (quiet_few (Got Begin Up BeginCommit) h refl i)
    by false = quiet_few (Got Begin Up BeginCommit) h refl i
got_few id c m h i = bare_few (Got c Up m ∷ h) (core_got id (coordinate h) c m) (bare_core_got id (coordinate h) c m refl) (quiet_few (Got c Up m) h refl i)

up_few : (t : ℕ) (w : World) (c : Conn) (ms : List Message) → AreFew w.past → AreFew (onto w.past (delivered t w c Up ms))
up_few t w c [] i = bare_few w.past (Ended c Up ∷ ended_at w c Up) (bare_cons (Ended c Up) refl (bare_ended_at w c Up)) i
up_few t w c (m ∷ ms) i = got_few (identifier_of t) c m w.past i

down_few : (t : ℕ) (w : World) (c : Conn) (ms : List Message) → AreFew w.past → AreFew (onto w.past (delivered t w c Down ms))
down_few t w c [] i = bare_few w.past (Ended c Down ∷ ended_at w c Down) (bare_cons (Ended c Down) refl (bare_ended_at w c Down)) i
down_few t w c (m ∷ ms) i = bare_few w.past (Got c Down m ∷ local_got t (half w) c m) (bare_cons (Got c Down m) refl (bare_local_got t (half w) c m)) i

step_few : (t : ℕ) (w : World) (m : Step) → AreFew w.past → AreFew (after t w m).past
unfolding after block_at
step_few t w (Calls n a c m) i =
    bare_few (Called n a (answer_at t w c m) ∷ w.past) (facts_if (has_facts (answer_at t w c m)) (facts_at t w c (answer_at t w c m))) (bare_called t w c (answer_at t w c m))
    (quiet_few (Called n a (answer_at t w c m)) w.past refl i)
step_few t w (Replies e r) i = by (reply_kind (half w) e r)
  where
    by : Bare (reply_entries (half w) e r) ⊎ Requests (half w) e (reply_entries (half w) e r) → AreFew (onto w.past (reply_entries (half w) e r))
    by (inl b) = bare_few w.past (reply_entries (half w) e r) b i
    by (inr s) = request_few w.past (reply_entries (half w) e r) (half w) e refl s i
step_few t w Acts i = by (act_kind (half w))
  where
    by : Bare (act_entries (half w)) ⊎ Seals (half w) (act_entries (half w)) → AreFew (onto w.past (act_entries (half w)))
    by (inl b) = bare_few w.past (act_entries (half w)) b i
    by (inr s) = seal_few w.past (act_entries (half w)) (half w) refl s i
step_few t w (Coordinates x) i = bare_few w.past (coordinates (core w) x) (bare_if (may_log (core w)) (bare_appended (core w) x) (bare_freed x)) i
step_few t w (Delivers c Up) i = up_few t w c (in_transit c Up w.past) i
step_few t w (Delivers c Down) i = down_few t w c (in_transit c Down w.past) i
step_few t w Stops i = bare_few w.past (Stopped ∷ []) (bare_one Stopped refl) i
step_few t w (Restarts found) i = bare_few w.past (restarted (core w).stopped found) (bare_restarted (core w).stopped found) i

-- so it is in each history that is run
pub ran_few : (G : ℕ → ActorNo → Call → Type 0) (t : ℕ) (ms : List Step) (w : World) → Ran G t ms w → AreFew w.past
ran_few G t [] w r = subst AreFew (sym r.1) (record { few = omega arith })
ran_few G t (m ∷ ms) w r = subst (λ (x : World). AreFew x.past) (sym r.3) (step_few t r.0 m (ran_few G t ms r.0 r.1))

got_fewer : (h : List Entry) → commits h ≤ how_many (is_got_on Begin Up COMMIT) h
got_fewer [] = omega arith
got_fewer (x ∷ h) = by (is_commit_got x) (is_got_on Begin Up COMMIT x) (same x) (got_fewer h)
  where
    same : (x : Entry) → is_commit_got x ≡ true → is_got_on Begin Up COMMIT x ≡ true
    same (Got Begin Up BeginCommit) t = refl
    same (Got Begin Up BeginCommitOne) t = refl
    same _ t = absurd (no t)

    by : (a b : Bool) → (a ≡ true → b ≡ true) → commits h ≤ how_many (is_got_on Begin Up COMMIT) h
        → (if a then suc (commits h) else commits h) ≤ (if b then suc (how_many (is_got_on Begin Up COMMIT) h) else how_many (is_got_on Begin Up COMMIT) h)
    by true true s i = omega arith
    by true false s i = absurd (no (s refl))
    by false true s i = omega arith
    by false false s i = i

-- where a COMMIT comes, one came before at most
pub commits_few : (h : List Entry) (m : Message) (ms : List Message) → WireRun h → AreFew h → is_commit_message m ≡ true → in_transit Begin Up h ≡ m ∷ ms → commits h ≤ 1
commits_few h m ms w i c t =
    let a = no_more Begin Up COMMIT h w in
    let b : how_many COMMIT (in_transit Begin Up h) ≡ suc (how_many COMMIT ms) = ap (how_many COMMIT) t ∙ ap (λ (b : Bool). if b then suc (how_many COMMIT ms) else how_many COMMIT ms) (named m c) in
    let g = got_fewer h in
    let d = i.few in
    let s = most (has is_sealed h) in
    let r = most (has is_request h) in
    omega arith
  where
    named : (m : Message) → is_commit_message m ≡ true → COMMIT m ≡ true
    named BeginCommit c = refl
    named BeginCommitOne c = refl
    named _ c = absurd (no c)

    most : (b : Bool) → one_if b ≤ 1
    most true = omega arith
    most false = omega arith
