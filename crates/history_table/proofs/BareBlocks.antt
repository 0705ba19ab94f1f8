-- Which blocks send neither COMMIT nor PREPARE: all but those of a seal, of a request, and of COMMIT itself.
use Rattle.std.proofs.Common.{◌≡◌, ℕ, Bool, true, false, not, List, [], ◌∷◌, Option, Some, is_some, refl, if◌then◌else◌, ◌⊎◌, inl, inr}
use Rattle.dtx_values.specs.declared.call.Call.{Call}
use Rattle.dtx_values.specs.declared.entry.Answer.{Answer}
use Rattle.dtx_values.specs.declared.entry.Ask.TheVariants.{Promote, Single as AskSingle}
use Rattle.dtx_values.specs.declared.entry.Entry.{Entry}
use Rattle.dtx_values.specs.declared.entry.Entry.TheVariants.{Asked, Requested, Sealed, OwnerAnswered, Sent, Got, Logged, LogFull, Freed, Stopped, Restarted, Recovered as RecoveredEntry, Cut}
use Rattle.dtx_values.specs.declared.message.Conn.{Conn}
use Rattle.dtx_values.specs.declared.message.Conn.TheVariants.{Begin, Enl, Voter}
use Rattle.dtx_values.specs.declared.message.Dir.{Dir}
use Rattle.dtx_values.specs.declared.message.Dir.TheVariants.{Up, Down}
use Rattle.dtx_values.specs.declared.message.Message.{Message}
use Rattle.dtx_values.specs.declared.message.Message.TheVariants.{BeginCommit, BeginCommitOne, EnlistOneAborted, EnlistOneCommitted, EnlistOneInDoubt, EnlistPrepare, VoterAsk}
use Rattle.dtx_values.specs.declared.note.Note.{Note}
use Rattle.dtx_values.specs.declared.note.Note.TheVariants.{Single}
use Rattle.dtx_values.specs.declared.note.Reply.{Reply}
use Rattle.dtx_values.specs.declared.note.Reply.TheVariants.{Owner as OwnerReply}
use Rattle.dtx_values.specs.declared.number.EnlNo.{EnlNo}
use Rattle.dtx_values.specs.declared.words.Outcome.{Outcome}
use Rattle.dtx_values.specs.declared.words.Outcome.TheVariants.{Aborted, Committed, InDoubt}
use Rattle.dtx_values.specs.Ends.{knows}
use Rattle.dtx_model.specs.Coordinated.{Coordinated, accepts, core_got, follow, is_one}
use Rattle.dtx_model.specs.Half.{Half, sees, to_up}
use Rattle.dtx_model.specs.Arrivals.{local_got}
use Rattle.dtx_model.specs.Acts.{commit_sent, act_entries}
use Rattle.dtx_model.specs.Replies.{due_of, one_message, owner_entries, reply_entries, request_message, request_of}
use Rattle.dtx_model.specs.Facts.{facts_if, has_facts}
use Rattle.dtx_model.specs.World.{World, half, core, facts_at}
use Rattle.dtx_model.specs.Steps.{LogAnswer, appended, ended_at, freed, restarted}
use Rattle.dtx_model.proofs.Writes.{Each, e_cons, e_if, e_none, e_one, IsClosed, each_closed, Source, ByCall, ByReply, ByMessage, ByAct, requests, sends, writes, is_outcome_message, is_asking, answers}
use Rattle.dtx_model.proofs.Blocks.{of_abort_sends, of_core_got, of_to, of_core_down, of_appended, of_freed, of_restarted, of_local_down, of_arrived, of_act, of_reply, of_called}
use Rattle.dtx_model.proofs.Bools.{and_right, not_both}
use Rattle.dtx_values.specs.Lines.{has_line}
use Rattle.history_table.proofs.Messages.{COMMIT, PREPARE}

-- the entry sends neither
abbrev pub is_bare : Entry → Bool
is_bare (Sent c Up m) = not (COMMIT m)
is_bare (Sent c Down m) = not (PREPARE m)
is_bare _ = true

abbrev pub Bare : List Entry → Type 0
Bare es = Each is_bare es

pub bare_cons : (x : Entry) {es : List Entry} → is_bare x ≡ true → Bare es → Bare (x ∷ es)
bare_cons x p q = e_cons x p q

pub bare_if : (b : Bool) {x y : List Entry} → Bare x → Bare y → Bare (if b then x else y)
bare_if b p q = e_if b p q

pub bare_one : (x : Entry) → is_bare x ≡ true → Bare (x ∷ [])
bare_one x p = e_one x p

bare : IsClosed (λ ws es. Each is_bare es)
bare = each_closed is_bare refl (λ x. refl) (λ n x. refl) refl refl

-- so are the entries of blocks, but where an owner's answer is requested
bare_up : (s : Source) → requests s ≡ false → (m : Message) → sends s m ≡ true → not (COMMIT m) ≡ true
bare_up s r BeginCommit t = absurd (not_both (requests s) t r)
bare_up s r BeginCommitOne t = absurd cc
bare_up s r _ t = refl

bare_entry : (s : Source) → requests s ≡ false → (x : Entry) → writes s x ≡ true → Bare (x ∷ [])
bare_entry s r x t = bare_one x (passes x t)
  where
    passes : (x : Entry) → writes s x ≡ true → is_bare x ≡ true
    passes (Sent c Up m) t = bare_up s r m (and_right (has_line c Up m) (sends s m) t)
    passes (Sent c Down m) t = absurd cc
    passes _ t = refl

-- COMMIT for two phases, after which all are asked to prepare
abbrev pub is_preparing : Conn → Message → Bool
is_preparing Begin BeginCommit = true
is_preparing _ _ = false

-- what the coordinator sends after another message
bare_answer : (c : Conn) (m : Message) → is_asking c m ≡ false → (n : Message) → answers c m n ≡ true → not (PREPARE n) ≡ true
bare_answer c m k EnlistPrepare t = absurd (not_both (is_asking c m) t k)
bare_answer c m k _ t = refl

bare_sent : (c : Conn) (m : Message) → has_line c Down m ≡ true → is_outcome_message m ≡ true → Bare (Sent c Down m ∷ [])
bare_sent c m l o = bare_one (Sent c Down m) (passes m o)
  where
    passes : (m : Message) → is_outcome_message m ≡ true → not (PREPARE m) ≡ true
    passes EnlistPrepare o = absurd cc
    passes _ o = refl

bare_one_phase : (id : ℕ) (k : Coordinated) → Bare (core_got id k Begin BeginCommitOne)
unfolding core_got
bare_one_phase id k =
    bare_if (not (accepts k)) e_none
    (bare_if (is_one k.desks) (of_to (bare.lists []) k Voter VoterAsk (bare_one (Sent Voter Down VoterAsk) refl)) (of_abort_sends (bare.lists []) (follow k (Got Begin Up BeginCommitOne)) bare_sent))

bare_other : (id : ℕ) (k : Coordinated) (c : Conn) (m : Message) → is_asking c m ≡ false → Bare (core_got id k c m)
bare_other id k c m n = of_core_got (bare.lists []) id k c m (λ d i l a. bare_one (Sent d Down i) (bare_answer c m n i a))

pub bare_core_got : (id : ℕ) (k : Coordinated) (c : Conn) (m : Message) → is_preparing c m ≡ false → Bare (core_got id k c m)
bare_core_got id k Begin BeginCommit n = absurd cc
bare_core_got id k Begin BeginCommitOne n = bare_one_phase id k
bare_core_got id k c m n = bare_other id k c m refl

pub bare_local_got : (t : ℕ) (h : Half) (c : Conn) (m : Message) → Bare (local_got t h c m)
unfolding local_got
bare_local_got t h c m = let g = sees h (Got c Down m) in of_arrived bare t g c m (bare_entry (ByMessage g.waits c m) refl)

pub bare_ended_at : (w : World) (c : Conn) (d : Dir) → Bare (ended_at w c d)
bare_ended_at w c Up = of_core_down (bare.lists []) (core w) c bare_sent
bare_ended_at w c Down = of_local_down bare (half w) c

-- the block seals, where nothing is under way and nothing decided
abbrev pub Seals : Half → List Entry → Type 0
Seals h es = (h.seen.sealed ≡ false) × (es ≡ (Sealed ∷ commit_sent h.seen))

-- the local act sends no COMMIT, or seals
pub act_kind : (h : Half) → Bare (act_entries h) ⊎ Seals h (act_entries h)
act_kind h =
    of_act bare (λ es. Bare es ⊎ Seals h es) h (bare_entry (ByAct (is_some h.seen.decided)) refl)
    (record { rest = λ es q. inl q; promote = λ e d w s. inl (bare_one (Asked e Promote) refl); single = λ e d s p q. inl (bare_one (Asked e AskSingle) refl); seal = λ d s u. inr (s, refl) })

-- the block requests
abbrev pub Requests : Half → EnlNo → List Entry → Type 0
Requests h e es = (x : Outcome) × (due_of h.seen e.value ≡ Some Single) × (es ≡ (Requested e (request_of x) ∷ to_up h.seen Begin (request_message x)))

owner_kind : (h : Half) (e : EnlNo) (x : Outcome) (n : Option Note) → due_of h.seen e.value ≡ n → Bare (owner_entries h e x n) ⊎ Requests h e (owner_entries h e x n)
owner_kind h e x (Some Single) d = inr (x, d, refl)
owner_kind h e x _ d = inl (bare_cons (OwnerAnswered e x) refl (bare_if h.seen.promoted (bare_if (knows (Enl e) h.seen.ends) (bare_said x) e_none) (bare.decides h x)))
  where
    bare_said : (y : Outcome) → Bare (Sent (Enl e) Up (one_message y) ∷ [])
    bare_said Committed = bare_one (Sent (Enl e) Up EnlistOneCommitted) refl
    bare_said Aborted = bare_one (Sent (Enl e) Up EnlistOneAborted) refl
    bare_said InDoubt = bare_one (Sent (Enl e) Up EnlistOneInDoubt) refl

-- a reply sends no COMMIT, or requests
pub reply_kind : (h : Half) (e : EnlNo) (r : Reply) → Bare (reply_entries h e r) ⊎ Requests h e (reply_entries h e r)
unfolding reply_entries
reply_kind h e (OwnerReply x) = owner_kind h e x (due_of h.seen e.value) refl
reply_kind h e r = inl (of_reply bare h e r (bare_entry (ByReply r) refl))

-- what stands after the call
pub bare_called : (t : ℕ) (w : World) (c : Call) (a : Answer) → Bare (facts_if (has_facts a) (facts_at t w c a))
bare_called t w c a = of_called bare t w c a (bare_entry (ByCall c) refl) (λ d n m. bare_one (Cut d n m) refl) (λ r. bare_one (RecoveredEntry r) refl)

-- the coordinator's act, and its restart
pub bare_appended : (k : Coordinated) (a : LogAnswer) → Bare (appended k a)
bare_appended k a = of_appended (bare.lists []) k a bare_sent (bare_one Logged refl) (bare_one LogFull refl) (bare_one Stopped refl)

pub bare_freed : (a : LogAnswer) → Bare (freed a)
bare_freed a = of_freed (bare.lists []) a (bare_one Freed refl) (bare_one Stopped refl)

pub bare_restarted : (b found : Bool) → Bare (restarted b found)
bare_restarted b found = of_restarted (bare.lists []) b found (bare_one Stopped refl) (bare_one (Restarted found) refl)
