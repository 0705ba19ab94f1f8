-- Which blocks send no answer to the message that opened a connection: all but that of such a message.
use Rattle.std.proofs.Common.{◌≡◌, ℕ, Bool, true, false, not, List, [], ◌∷◌, is_some, refl, if◌then◌else◌}
use Rattle.dtx_values.specs.declared.call.Call.{Call}
use Rattle.dtx_values.specs.declared.entry.Answer.{Answer}
use Rattle.dtx_values.specs.declared.entry.Ask.TheVariants.{Promote, Single as AskSingle}
use Rattle.dtx_values.specs.declared.entry.Entry.{Entry}
use Rattle.dtx_values.specs.declared.entry.Entry.TheVariants.{Asked, Sealed, Sent, Got, Logged, LogFull, Freed, Stopped, Restarted, Recovered as RecoveredEntry, Cut}
use Rattle.dtx_values.specs.declared.message.Conn.{Conn}
use Rattle.dtx_values.specs.declared.message.Conn.TheVariants.{Begin}
use Rattle.dtx_values.specs.declared.message.Dir.{Dir}
use Rattle.dtx_values.specs.declared.message.Dir.TheVariants.{Up, Down}
use Rattle.dtx_values.specs.declared.message.Message.{Message}
use Rattle.dtx_values.specs.declared.message.Message.TheVariants.{BeginBegun, VoterCreated, EnlistEnlisted}
use Rattle.dtx_values.specs.declared.note.Reply.{Reply}
use Rattle.dtx_values.specs.declared.number.EnlNo.{EnlNo}
use Rattle.dtx_values.specs.Lines.{is_opening, has_line}
use Rattle.dtx_model.specs.Coordinated.{Coordinated, core_got, to}
use Rattle.dtx_model.specs.Half.{Half, sees}
use Rattle.dtx_model.specs.Arrivals.{local_got}
use Rattle.dtx_model.specs.Acts.{act_entries}
use Rattle.dtx_model.specs.Replies.{reply_entries}
use Rattle.dtx_model.specs.Facts.{facts_if, has_facts}
use Rattle.dtx_model.specs.World.{World, half, core, facts_at}
use Rattle.dtx_model.specs.Steps.{LogAnswer, appended, ended_at, freed, restarted}
use Rattle.dtx_model.proofs.Writes.{Each, e_none, e_cons, e_if, e_one, IsClosed, each_closed, Source, ByCall, ByReply, ByMessage, ByAct, writes, is_outcome_message, answers}
use Rattle.dtx_model.proofs.Blocks.{of_to, of_core_got, of_core_down, of_appended, of_freed, of_restarted, of_local_down, of_arrived, of_whole_act, of_reply, of_called}
use Rattle.dtx_model.proofs.Bools.{not_both}

-- what answers the message that opened a connection: BEGUN, CREATED or ENLISTED
abbrev pub is_welcome : Message → Bool
is_welcome (BeginBegun u) = true
is_welcome VoterCreated = true
is_welcome EnlistEnlisted = true
is_welcome _ = false

-- the entry sends no such answer
abbrev pub is_still : Entry → Bool
is_still (Sent c Down m) = not (is_welcome m)
is_still _ = true

abbrev pub Still : List Entry → Type 0
Still es = Each is_still es

pub st_none : Still []
st_none = e_none

pub st_cons : (x : Entry) {es : List Entry} → is_still x ≡ true → Still es → Still (x ∷ es)
st_cons x p q = e_cons x p q

pub st_if : (b : Bool) {x y : List Entry} → Still x → Still y → Still (if b then x else y)
st_if b p q = e_if b p q

pub st_one : (x : Entry) → is_still x ≡ true → Still (x ∷ [])
st_one x p = e_one x p

still : IsClosed (λ ws es. Each is_still es)
still = each_closed is_still refl (λ x. refl) (λ n x. refl) refl refl

-- so are the entries of the local side, and what the coordinator sends after a message that opens nothing
still_entry : (s : Source) (x : Entry) → writes s x ≡ true → Still (x ∷ [])
still_entry s x t = st_one x (passes x t)
  where
    passes : (x : Entry) → writes s x ≡ true → is_still x ≡ true
    passes (Sent c Down m) t = absurd cc
    passes _ t = refl

still_answer : (c : Conn) (m : Message) → is_opening c m ≡ false → (n : Message) → answers c m n ≡ true → not (is_welcome n) ≡ true
still_answer c m o (BeginBegun u) t = absurd (not_both (is_opening c m) t o)
still_answer c m o VoterCreated t = absurd (not_both (is_opening c m) t o)
still_answer c m o EnlistEnlisted t = absurd (not_both (is_opening c m) t o)
still_answer c m o _ t = refl

still_sent : (c : Conn) (m : Message) → has_line c Down m ≡ true → is_outcome_message m ≡ true → Still (Sent c Down m ∷ [])
still_sent c m l o = st_one (Sent c Down m) (passes m o)
  where
    passes : (m : Message) → is_outcome_message m ≡ true → not (is_welcome m) ≡ true
    passes (BeginBegun u) o = absurd cc
    passes VoterCreated o = absurd cc
    passes EnlistEnlisted o = absurd cc
    passes _ o = refl

pub st_to : (k : Coordinated) (c : Conn) (m : Message) → is_still (Sent c Down m) ≡ true → Still (to k c m)
st_to k c m p = of_to (still.lists []) k c m (st_one (Sent c Down m) p)

pub st_core_got : (id : ℕ) (k : Coordinated) (c : Conn) (m : Message) → is_opening c m ≡ false → Still (core_got id k c m)
st_core_got id k c m o = of_core_got (still.lists []) id k c m (λ d n l a. st_one (Sent d Down n) (still_answer c m o n a))

pub st_local_got : (t : ℕ) (h : Half) (c : Conn) (m : Message) → Still (local_got t h c m)
unfolding local_got
st_local_got t h c m = let g = sees h (Got c Down m) in of_arrived still t g c m (still_entry (ByMessage g.waits c m))

pub st_ended_at : (w : World) (c : Conn) (d : Dir) → Still (ended_at w c d)
st_ended_at w c Up = of_core_down (still.lists []) (core w) c still_sent
st_ended_at w c Down = of_local_down still (half w) c

pub st_act : (h : Half) → Still (act_entries h)
st_act h =
    of_whole_act still h (still_entry (ByAct (is_some h.seen.decided))) (λ e. st_one (Asked e Promote) refl) (λ e. st_one (Asked e AskSingle) refl) (st_one Sealed refl)
    (λ m c. st_one (Sent Begin Up m) refl)

pub st_reply : (h : Half) (e : EnlNo) (r : Reply) → Still (reply_entries h e r)
st_reply h e r = of_reply still h e r (still_entry (ByReply r))

-- what stands after the call
pub st_called : (t : ℕ) (w : World) (c : Call) (a : Answer) → Still (facts_if (has_facts a) (facts_at t w c a))
st_called t w c a = of_called still t w c a (still_entry (ByCall c)) (λ d n m. st_one (Cut d n m) refl) (λ r. st_one (RecoveredEntry r) refl)

-- the coordinator's act, and its restart
pub st_appended : (k : Coordinated) (a : LogAnswer) → Still (appended k a)
st_appended k a = of_appended (still.lists []) k a still_sent (st_one Logged refl) (st_one LogFull refl) (st_one Stopped refl)

pub st_freed : (a : LogAnswer) → Still (freed a)
st_freed a = of_freed (still.lists []) a (st_one Freed refl) (st_one Stopped refl)

pub st_restarted : (b found : Bool) → Still (restarted b found)
st_restarted b found = of_restarted (still.lists []) b found (st_one Stopped refl) (st_one (Restarted found) refl)
