-- The lists of entries in the blocks of steps demand nothing to follow.
use Rattle.std.proofs.Common.{◌≡◌, ℕ, Bool, true, false, List, [], ◌∷◌, Option, refl}
use Rattle.dtx_values.specs.declared.call.Call.{Call}
use Rattle.dtx_values.specs.declared.entry.Answer.{Answer}
use Rattle.dtx_values.specs.declared.entry.Entry.{Entry}
use Rattle.dtx_values.specs.declared.entry.Entry.TheVariants.{OwnerAnswered, Handed, Told, Sent, Got, Freed, Stopped, Restarted, Recovered as RecoveredEntry, Cut, Promoting, PromoteReply, Sealed, Requested, LocalYes, Voted, Logged}
use Rattle.dtx_values.specs.declared.entry.Party.TheVariants.{Client, Enl as Member}
use Rattle.dtx_values.specs.declared.message.Conn.{Conn}
use Rattle.dtx_values.specs.declared.message.Conn.TheVariants.{Enl, Again}
use Rattle.dtx_values.specs.declared.message.Dir.{Dir}
use Rattle.dtx_values.specs.declared.message.Dir.TheVariants.{Up, Down}
use Rattle.dtx_values.specs.declared.message.Message.{Message}
use Rattle.dtx_values.specs.declared.message.Message.TheVariants.{EnlistAck, ReenlistAck}
use Rattle.dtx_values.specs.declared.number.EnlNo.{EnlNo}
use Rattle.dtx_values.specs.declared.words.Outcome.{Outcome}
use Rattle.dtx_model.specs.declared.listener.Listener.{Listener}
use Rattle.dtx_model.specs.Observed.{Observed}
use Rattle.dtx_model.specs.Coordinated.{Coordinated, abort_sends, core_got}
use Rattle.dtx_model.specs.Half.{Half, sees, decide, veto, veto_if}
use Rattle.dtx_model.specs.Arrivals.{local_got}
use Rattle.dtx_model.specs.Acts.{tell, commit_act}
use Rattle.dtx_model.specs.Replies.{ack_on}
use Rattle.dtx_model.specs.Facts.{facts_if, has_facts}
use Rattle.dtx_model.specs.World.{World, half, core, facts_at}
use Rattle.dtx_model.specs.Steps.{LogAnswer, ended_at, freed, restarted}
use Rattle.settled_histories.proofs.Paid.{is_silent}
use Rattle.dtx_model.proofs.Writes.{Each, e_one, IsClosed, each_closed, Source, ByCall, ByMessage, may_begin, begins, replies, promises, acts, writes, is_outcome_message}
use Rattle.dtx_model.proofs.Blocks.{of_abort_sends, of_core_got, of_core_down, of_freed, of_restarted, of_veto, of_veto_if, of_local_down, of_arrived, of_tell, of_commit_act, of_ack, of_called}
use Rattle.dtx_model.proofs.Bools.{not_both}
use Rattle.dtx_values.specs.Lines.{has_line}

abbrev pub Silent : List Entry → Type 0
Silent es = Each is_silent es

pub silent_one : (x : Entry) → is_silent x ≡ true → Silent (x ∷ [])
silent_one x p = e_one x p

silent : IsClosed (λ ws es. Each is_silent es)
silent = each_closed is_silent refl (λ x. refl) (λ n x. refl) refl refl

-- so are the entries of a call that can't begin a promotion, and after a message
silent_entry : (s : Source) → begins s ≡ false → replies s ≡ false → promises s ≡ false → acts s ≡ false → (x : Entry) → writes s x ≡ true → Silent (x ∷ [])
silent_entry s b r p a x t = silent_one x (passes x t)
  where
    passes : (x : Entry) → writes s x ≡ true → is_silent x ≡ true
    passes (Promoting c) t = absurd (not_both (begins s) t b)
    passes (PromoteReply e ok) t = absurd (not_both (promises s) t p)
    passes Sealed t = absurd cc
    passes (Requested e q) t = absurd (not_both (replies s) t r)
    passes LocalYes t = absurd (not_both (acts s) t a)
    passes (Voted e v) t = absurd (not_both (replies s) t r)
    passes (OwnerAnswered e x) t = absurd (not_both (replies s) t r)
    passes Logged t = absurd cc
    passes (Got c d m) t = absurd cc
    passes _ t = refl

silent_sent : (c : Conn) (m : Message) → has_line c Down m ≡ true → is_outcome_message m ≡ true → Silent (Sent c Down m ∷ [])
silent_sent c m l o = silent_one (Sent c Down m) refl

pub silent_abort : (k : Coordinated) → Silent (abort_sends k)
silent_abort k = of_abort_sends (silent.lists []) k silent_sent

pub silent_core_got : (id : ℕ) (k : Coordinated) (c : Conn) (m : Message) → Silent (core_got id k c m)
silent_core_got id k c m = of_core_got (silent.lists []) id k c m (λ d n l a. silent_one (Sent d Down n) refl)

pub silent_decide : (h : Half) (x : Outcome) → Silent (decide h x)
silent_decide h x = silent.decides h x

pub silent_veto : (h : Half) → Silent (veto h)
silent_veto h = of_veto silent h

pub silent_veto_if : (b : Bool) (h : Half) → Silent (veto_if b h)
silent_veto_if b h = of_veto_if silent b h

pub silent_local_got : (t : ℕ) (h : Half) (c : Conn) (m : Message) → Silent (local_got t h c m)
unfolding local_got
silent_local_got t h c m = let g = sees h (Got c Down m) in of_arrived silent t g c m (silent_entry (ByMessage g.waits c m) refl refl refl refl)

pub silent_ended_at : (w : World) (c : Conn) (d : Dir) → Silent (ended_at w c d)
silent_ended_at w c Up = of_core_down (silent.lists []) (core w) c silent_sent
silent_ended_at w c Down = of_local_down silent (half w) c

pub silent_tell : (x : Outcome) (l : Option Listener) (o : Option Outcome) → Silent (tell x l o)
silent_tell x l o = of_tell silent [] x l o (λ e. silent_one (Told (Member e) x) refl) (silent_one (Told Client x) refl)

pub silent_commit_act : (h : Half) (e : Option EnlNo) → Silent (commit_act h e)
silent_commit_act h e = of_commit_act silent h e (λ e. silent_one (Handed e) refl)

pub silent_ack : (o : Observed) (c : Option Conn) → Silent (ack_on o c)
silent_ack o c = of_ack silent [] o c (λ e. silent_one (Sent (Enl e) Up EnlistAck) refl) (λ e. silent_one (Sent (Again e) Up ReenlistAck) refl)

pub silent_called : (t : ℕ) (w : World) (c : Call) (a : Answer) → may_begin c ≡ false → Silent (facts_if (has_facts a) (facts_at t w c a))
silent_called t w c a g = of_called silent t w c a (silent_entry (ByCall c) g refl refl refl) (λ d n m. silent_one (Cut d n m) refl) (λ r. silent_one (RecoveredEntry r) refl)

pub silent_freed : (a : LogAnswer) → Silent (freed a)
silent_freed a = of_freed (silent.lists []) a (silent_one Freed refl) (silent_one Stopped refl)

pub silent_restarted : (b found : Bool) → Silent (restarted b found)
silent_restarted b found = of_restarted (silent.lists []) b found (silent_one Stopped refl) (silent_one (Restarted found) refl)
