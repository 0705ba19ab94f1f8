-- Which blocks request nothing of the coordinator and send no COMMIT: all but those of a seal and of a request. And which enlist no promotable: all but that of a promotable's call.
use Rattle.std.proofs.Common.{◌≡◌, ℕ, Bool, true, false, ◌&&◌, ◌||◌, not, List, [], ◌∷◌, Option, Some, is_some, refl, if◌then◌else◌, ◌⊎◌, inl, inr}
use Rattle.dtx_values.specs.declared.call.Call.{Call}
use Rattle.dtx_values.specs.declared.entry.Answer.{Answer}
use Rattle.dtx_values.specs.declared.entry.Ask.TheVariants.{Promote, Single as AskSingle}
use Rattle.dtx_values.specs.declared.entry.Entry.{Entry}
use Rattle.dtx_values.specs.declared.entry.Entry.TheVariants.{Acked, Asked, Called, Cut, Down as Ended, Enlisted, Freed, Got, LogFull, Logged, OwnerAnswered, PromoteReply, Recovered as RecoveredEntry, Requested, Restarted, Sealed, Sent, Stopped, Voted}
use Rattle.dtx_values.specs.declared.message.Conn.{Conn}
use Rattle.dtx_values.specs.declared.message.Conn.TheVariants.{Begin, Enl, Again}
use Rattle.dtx_values.specs.declared.message.Dir.{Dir}
use Rattle.dtx_values.specs.declared.message.Dir.TheVariants.{Up, Down}
use Rattle.dtx_values.specs.declared.message.Message.{Message}
use Rattle.dtx_values.specs.declared.message.Message.TheVariants.{BeginBegin, BeginCommit, BeginCommitOne, EnlistAck, ReenlistAck}
use Rattle.dtx_values.specs.declared.note.Note.{Note}
use Rattle.dtx_values.specs.declared.note.Note.TheVariants.{Single}
use Rattle.dtx_values.specs.declared.note.Reply.{Reply}
use Rattle.dtx_values.specs.declared.note.Reply.TheVariants.{Vote as VoteReply, Promote as Promotes, Owner as OwnerReply, Ack}
use Rattle.dtx_values.specs.declared.number.EnlNo.{EnlNo}
use Rattle.dtx_values.specs.declared.words.Outcome.{Outcome}
use Rattle.dtx_values.specs.declared.words.Outcome.TheVariants.{Committed, Aborted, InDoubt}
use Rattle.dtx_values.specs.declared.words.Vote.{Vote}
use Rattle.dtx_values.specs.declared.words.Vote.TheVariants.{Yes, No, Done}
use Rattle.dtx_values.specs.Class.{is_promotable}
use Rattle.dtx_values.specs.Ends.{knows}
use Rattle.dtx_values.specs.Lines.{has_line}
use Rattle.dtx_values.specs.Owners.{commits_alone}
use Rattle.dtx_values.specs.Vote.{is_no}
use Rattle.dtx_model.specs.Words.{each}
use Rattle.dtx_model.specs.Entries.{is_commit_message}
use Rattle.dtx_model.specs.Observed.{Observed}
use Rattle.dtx_model.specs.Promotes.{identifier_of}
use Rattle.dtx_model.specs.Wires.{in_transit}
use Rattle.dtx_model.specs.Half.{Half, sees, to_up}
use Rattle.dtx_model.specs.Arrivals.{local_got}
use Rattle.dtx_model.specs.Acts.{act_entries, commit_message, commit_sent, promotable_in}
use Rattle.dtx_model.specs.Facts.{facts_if, has_facts}
use Rattle.dtx_model.specs.Replies.{conn_due, due_of, is_volatile_row, one_message, owner_entries, reply_entries, vote_message}
use Rattle.dtx_model.specs.World.{World, answer_at, core, facts_at, half}
use Rattle.dtx_model.specs.Steps.{Step, Calls, Replies, Acts, Coordinates, Delivers, Stops, Restarts, block_at, delivered, ended_at}
use Rattle.dtx_model.proofs.Writes.{Each, e_cons, e_if, e_none, e_one, IsClosed, each_closed, Source, ByAct, ByCall, ByMessage, ByReply, enlists, enlists_promotable, is_making_promotable, is_outcome_message, is_promotable_place, replies, requests, sends, writes}
use Rattle.dtx_model.proofs.Blocks.{of_ack, of_act, of_arrived, of_called, of_coordinates, of_core_down, of_core_got, of_local_down, of_reply, of_restarted, of_veto, of_veto_if, of_whole_act}
use Rattle.dtx_model.proofs.Bools.{and_both, and_right, not_both, not_true, or_case}
use Rattle.history_table.proofs.Scans.{none_more}
use Rattle.history_table.proofs.Messages.{COMMIT}
use Rattle.history_table.proofs.BareBlocks.{Requests, Seals}
use Rattle.history_table.proofs.TameBlocks.{is_unpromotable}
use Rattle.history_table.proofs.MarkSteps.{all_unpromotable}

-- the entry is no request, and sends no COMMIT
abbrev pub is_meek : Entry → Bool
is_meek (Requested e r) = false
is_meek (Sent c Up m) = not (COMMIT m)
is_meek _ = true

abbrev pub Meek : List Entry → Type 0
Meek es = Each is_meek es

meek : IsClosed (λ ws es. Each is_meek es)
meek = each_closed is_meek refl (λ x. refl) (λ n x. refl) refl refl

-- so are the entries of blocks, but of a seal and of an owner's reply
meek_up : (s : Source) → requests s ≡ false → (m : Message) → sends s m ≡ true → not (COMMIT m) ≡ true
meek_up s r BeginCommit t = absurd (not_both (requests s) t r)
meek_up s r BeginCommitOne t = absurd cc
meek_up s r _ t = refl

meek_entry : (s : Source) → replies s ≡ false → requests s ≡ false → (x : Entry) → writes s x ≡ true → Meek (x ∷ [])
meek_entry s a r x t = e_one x (passes x t)
  where
    passes : (x : Entry) → writes s x ≡ true → is_meek x ≡ true
    passes (Requested e q) t = absurd (not_both (replies s) t a)
    passes (Sent c Up m) t = meek_up s r m (and_right (has_line c Up m) (sends s m) t)
    passes (Sent c Down m) t = absurd cc
    passes _ t = refl

meek_sent : (c : Conn) (m : Message) → has_line c Down m ≡ true → is_outcome_message m ≡ true → Meek (Sent c Down m ∷ [])
meek_sent c m l o = e_one (Sent c Down m) refl

-- the local act is so, or seals
meek_act : (h : Half) → Meek (act_entries h) ⊎ Seals h (act_entries h)
meek_act h =
    of_act meek (λ es. Meek es ⊎ Seals h es) h (meek_entry (ByAct (is_some h.seen.decided)) refl refl)
    (record { rest = λ es q. inl q; promote = λ e d w s. inl (e_one (Asked e Promote) refl); single = λ e d s p q. inl (e_one (Asked e AskSingle) refl); seal = λ d s u. inr (s, refl) })

-- a reply is so, or requests
one_uncommit : (x : Outcome) → not (COMMIT (one_message x)) ≡ true
one_uncommit Committed = refl
one_uncommit Aborted = refl
one_uncommit InDoubt = refl

meek_owner : (h : Half) (e : EnlNo) (x : Outcome) (n : Option Note) → due_of h.seen e.value ≡ n → Meek (owner_entries h e x n) ⊎ Requests h e (owner_entries h e x n)
meek_owner h e x (Some Single) d = inr (x, d, refl)
meek_owner h e x _ d = inl (e_cons (OwnerAnswered e x) refl (e_if h.seen.promoted (e_if (knows (Enl e) h.seen.ends) (e_one (Sent (Enl e) Up (one_message x)) (one_uncommit x)) e_none) (meek.decides h x)))

vote_uncommit : (v : Vote) → not (COMMIT (vote_message v)) ≡ true
vote_uncommit Yes = refl
vote_uncommit No = refl
vote_uncommit Done = refl

meek_vote : (h : Half) (e : EnlNo) (v : Vote) → Meek (reply_entries h e (VoteReply v))
unfolding reply_entries
meek_vote h e v =
    let g = sees h (Voted e v) in
    e_cons (Voted e v) refl (e_if (is_volatile_row g.seen e.value) (of_veto_if meek (is_no v) g) (e_if (knows (Enl e) g.seen.ends) (e_one (Sent (Enl e) Up (vote_message v)) (vote_uncommit v)) e_none))

meek_reply : (h : Half) (e : EnlNo) (r : Reply) → Meek (reply_entries h e r) ⊎ Requests h e (reply_entries h e r)
unfolding reply_entries
meek_reply h e (VoteReply v) = inl (meek_vote h e v)
meek_reply h e (Promotes true) = inl (e_cons (PromoteReply e true) refl (e_one (Sent Begin Up BeginBegin) refl))
meek_reply h e (Promotes false) = inl (e_cons (PromoteReply e false) refl (of_veto meek (sees h (PromoteReply e false))))
meek_reply h e (OwnerReply x) = meek_owner h e x (due_of h.seen e.value) refl
meek_reply h e Ack = inl (e_cons (Acked e) refl (of_ack meek [] h.seen (conn_due h.seen e.value) (λ e. e_one (Sent (Enl e) Up EnlistAck) refl) (λ e. e_one (Sent (Again e) Up ReenlistAck) refl)))

meek_called : (t : ℕ) (w : World) (c : Call) (a : Answer) → Meek (facts_if (has_facts a) (facts_at t w c a))
meek_called t w c a = of_called meek t w c a (meek_entry (ByCall c) refl refl) (λ d n m. e_one (Cut d n m) refl) (λ r. e_one (RecoveredEntry r) refl)

meek_ended : (w : World) (c : Conn) (d : Dir) → Meek (ended_at w c d)
meek_ended w c Up = of_core_down (meek.lists []) (core w) c meek_sent
meek_ended w c Down = of_local_down meek (half w) c

meek_delivered : (t : ℕ) (w : World) (c : Conn) (d : Dir) (ms : List Message) → Meek (delivered t w c d ms)
unfolding local_got
meek_delivered t w c d [] = e_cons (Ended c d) refl (meek_ended w c d)
meek_delivered t w c Up (m ∷ ms) = e_cons (Got c Up m) refl (of_core_got (meek.lists []) (identifier_of t) (core w) c m (λ d n l a. e_one (Sent d Down n) refl))
meek_delivered t w c Down (m ∷ ms) = let g = sees (half w) (Got c Down m) in e_cons (Got c Down m) refl (of_arrived meek t g c m (meek_entry (ByMessage g.waits c m) refl refl))

-- The block of each step is so, or seals, or requests.
abbrev pub BlockKind : World → List Entry → Type 0
BlockKind w es = Meek es ⊎ (Seals (half w) es ⊎ ((e : EnlNo) × Requests (half w) e es))

pub block_kind : (t : ℕ) (w : World) (m : Step) → BlockKind w (block_at t w m)
unfolding block_at
block_kind t w (Calls n a c j) = let y = answer_at t w c j in inl (e_cons (Called n a y) refl (meek_called t w c y))
block_kind t w (Replies e r) = by (meek_reply (half w) e r)
  where
    by : Meek (reply_entries (half w) e r) ⊎ Requests (half w) e (reply_entries (half w) e r) → BlockKind w (reply_entries (half w) e r)
    by (inl q) = inl q
    by (inr s) = inr (inr (e, s))
block_kind t w Acts = by (meek_act (half w))
  where
    by : Meek (act_entries (half w)) ⊎ Seals (half w) (act_entries (half w)) → BlockKind w (act_entries (half w))
    by (inl q) = inl q
    by (inr s) = inr (inl s)
block_kind t w (Coordinates x) = inl (of_coordinates (meek.lists []) (core w) x meek_sent (e_one Logged refl) (e_one LogFull refl) (e_one Freed refl) (e_one Stopped refl))
block_kind t w (Delivers c d) = inl (meek_delivered t w c d (in_transit c d w.past))
block_kind t w Stops = inl (e_one Stopped refl)
block_kind t w (Restarts found) = inl (of_restarted (meek.lists []) (core w).stopped found (e_one Stopped refl) (e_one (Restarted found) refl))

-- what is sent after a seal is COMMIT, of either name
pub commit_named : (o : Observed) → is_commit_message (commit_message o) ≡ true
commit_named o = by (commits_alone o.table)
  where
    by : (b : Bool) → is_commit_message (if b then BeginCommitOne else BeginCommit) ≡ true
    by true = refl
    by false = refl

-- what passes the seal and COMMIT passes the block of a seal; and so it is of a request
pub seal_passes : (p : Entry → Bool) → p Sealed ≡ true → ((m : Message) → is_commit_message m ≡ true → p (Sent Begin Up m) ≡ true) → (o : Observed) → each p (Sealed ∷ commit_sent o) ≡ true
seal_passes p s c o = and_both (p Sealed) (each p (commit_sent o)) s (by (o.promoted && not (is_some (promotable_in o.table))) (knows Begin o.ends))
  where
    by : (a b : Bool) → each p (if a then (if b then Sent Begin Up (commit_message o) ∷ [] else []) else []) ≡ true
    by true true = and_both (p (Sent Begin Up (commit_message o))) true (c (commit_message o) (commit_named o)) refl
    by true false = refl
    by false b = refl

pub request_passes : (p : Entry → Bool) (x : Entry) (m : Message) → p x ≡ true → p (Sent Begin Up m) ≡ true → (o : Observed) → each p (x ∷ to_up o Begin m) ≡ true
request_passes p x m s c o = and_both (p x) (each p (to_up o Begin m)) s (by (knows Begin o.ends))
  where
    by : (b : Bool) → each p (if b then Sent Begin Up m ∷ [] else []) ≡ true
    by true = and_both (p (Sent Begin Up m)) true c refl
    by false = refl

-- the entry enlists no promotable
abbrev pub is_humble : Entry → Bool
is_humble (Enlisted e c) = not (is_promotable c)
is_humble _ = true

humble : IsClosed (λ ws es. Each is_humble es)
humble = each_closed is_humble refl (λ x. refl) (λ n x. refl) refl refl

humble_entry : (s : Source) → enlists_promotable s ≡ false → (x : Entry) → writes s x ≡ true → Each is_humble (x ∷ [])
humble_entry s n x t = e_one x (passes x t)
  where
    passes : (x : Entry) → writes s x ≡ true → is_humble x ≡ true
    passes (Enlisted e c) t =
        or_case (not (is_promotable c)) (enlists_promotable s) (λ a. a) (λ a. absurd (not_both (enlists_promotable s) a n)) (and_right (enlists s) (not (is_promotable c) || enlists_promotable s) t)
    passes _ t = refl

humble_sent : (c : Conn) (m : Message) → has_line c Down m ≡ true → is_outcome_message m ≡ true → Each is_humble (Sent c Down m ∷ [])
humble_sent c m l o = e_one (Sent c Down m) refl

humble_ended : (w : World) (c : Conn) (d : Dir) → Each is_humble (ended_at w c d)
humble_ended w c Up = of_core_down (humble.lists []) (core w) c humble_sent
humble_ended w c Down = of_local_down humble (half w) c

humble_delivered : (t : ℕ) (w : World) (c : Conn) (d : Dir) (ms : List Message) → Each is_humble (delivered t w c d ms)
unfolding local_got
humble_delivered t w c d [] = e_cons (Ended c d) refl (humble_ended w c d)
humble_delivered t w c Up (m ∷ ms) = e_cons (Got c Up m) refl (of_core_got (humble.lists []) (identifier_of t) (core w) c m (λ d n l a. e_one (Sent d Down n) refl))
humble_delivered t w c Down (m ∷ ms) =
    let g = sees (half w) (Got c Down m) in
    e_cons (Got c Down m) refl
    (of_arrived humble t g c m
    (humble_entry (ByMessage g.waits c m) (none_more is_unpromotable is_promotable_place (λ v t. not_true (is_promotable_place v) t) (half w).waits (all_unpromotable w.calls w.past))))

-- so are all of the block of each step but a promotable's call
abbrev pub is_making_step : Step → Bool
is_making_step (Calls n a c m) = is_making_promotable c
is_making_step _ = false

pub humble_block : (t : ℕ) (w : World) (m : Step) → is_making_step m ≡ false → Each is_humble (block_at t w m)
unfolding block_at
humble_block t w (Calls n a c j) k =
    let y = answer_at t w c j in
    e_cons (Called n a y) refl (of_called humble t w c y (humble_entry (ByCall c) k) (λ d n m. e_one (Cut d n m) refl) (λ r. e_one (RecoveredEntry r) refl))
humble_block t w (Replies e r) k = of_reply humble (half w) e r (humble_entry (ByReply r) refl)
humble_block t w Acts k =
    of_whole_act humble (half w) (humble_entry (ByAct (is_some (half w).seen.decided)) refl) (λ e. e_one (Asked e Promote) refl) (λ e. e_one (Asked e AskSingle) refl) (e_one Sealed refl)
    (λ m t. e_one (Sent Begin Up m) refl)
humble_block t w (Coordinates x) k = of_coordinates (humble.lists []) (core w) x humble_sent (e_one Logged refl) (e_one LogFull refl) (e_one Freed refl) (e_one Stopped refl)
humble_block t w (Delivers c d) k = humble_delivered t w c d (in_transit c d w.past)
humble_block t w Stops k = e_one Stopped refl
humble_block t w (Restarts found) k = of_restarted (humble.lists []) (core w).stopped found (e_one Stopped refl) (e_one (Restarted found) refl)
