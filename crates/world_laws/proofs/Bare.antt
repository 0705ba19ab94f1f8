-- What the local side writes in a call, a reply, its act, or after a message or an end, is of the local side alone; and only the call that makes a clone makes one.
use Rattle.std.proofs.Common.{◌≡◌, ℕ, Bool, true, false, [], ◌∷◌, Option, is_some, refl}
use Rattle.dtx_values.specs.declared.call.Call.{Call}
use Rattle.dtx_values.specs.declared.entry.Answer.{Answer}
use Rattle.dtx_values.specs.declared.entry.Ask.TheVariants.{Promote, Single as AskSingle}
use Rattle.dtx_values.specs.declared.entry.Entry.{Entry}
use Rattle.dtx_values.specs.declared.entry.Entry.TheVariants.{Cloned, Asked, Sealed, Sent, Got, Down as Ended, Lost as LostEntry, Reenlisted, Cut, Stopped, Restarted, Logged, LogFull, Freed, Recovered as RecoveredEntry}
use Rattle.dtx_values.specs.declared.message.Conn.{Conn}
use Rattle.dtx_values.specs.declared.message.Conn.TheVariants.{Begin, Again}
use Rattle.dtx_values.specs.declared.message.Dir.TheVariants.{Up, Down}
use Rattle.dtx_values.specs.declared.message.Message.{Message}
use Rattle.dtx_values.specs.declared.message.Message.TheVariants.{ReenlistReenlist}
use Rattle.dtx_values.specs.declared.note.Reply.{Reply}
use Rattle.dtx_values.specs.declared.number.EnlNo.{EnlNo}
use Rattle.dtx_model.specs.declared.branch.Branch.{Branch}
use Rattle.dtx_model.specs.Half.{Half, sees}
use Rattle.dtx_model.specs.Arrivals.{local_got, local_down}
use Rattle.dtx_model.specs.Acts.{act_entries}
use Rattle.dtx_model.specs.Replies.{reply_entries}
use Rattle.dtx_model.specs.Facts.{local_facts}
use Rattle.dtx_model.specs.World.{gone_unlinked, reenlist_facts}
use Rattle.world_laws.specs.Course.{is_near}
use Rattle.dtx_model.proofs.Writes.{Each, e_one, IsClosed, each_closed, Source, ByCall, ByReply, ByMessage, ByAct, is_cloning, clones, writes}
use Rattle.dtx_model.proofs.Blocks.{of_local_down, of_arrived, of_whole_act, of_reply, of_facts, of_gone_unlinked, of_reenlist}
use Rattle.dtx_model.proofs.Bools.{not_both}

-- the entry is of the local side alone, and makes no clone
abbrev pub is_bare : Entry → Bool
is_bare (Cloned c k) = false
is_bare x = is_near x

bare : IsClosed (λ ws es. Each is_bare es)
bare = each_closed is_bare refl (λ x. refl) (λ n x. refl) refl refl

bare_entry : (s : Source) → clones s ≡ false → (x : Entry) → writes s x ≡ true → Each is_bare (x ∷ [])
bare_entry s c x t = e_one x (passes x t)
  where
    passes : (x : Entry) → writes s x ≡ true → is_bare x ≡ true
    passes (Cloned d k) t = absurd (not_both (clones s) t c)
    passes (Sent d Down m) t = absurd cc
    passes (Got d u m) t = absurd cc
    passes (Ended d u) t = absurd cc
    passes (Cut d n m) t = absurd cc
    passes Stopped t = absurd cc
    passes (Restarted found) t = absurd cc
    passes Logged t = absurd cc
    passes LogFull t = absurd cc
    passes Freed t = absurd cc
    passes (RecoveredEntry r) t = absurd cc
    passes (Sent d Up m) t = refl
    passes _ t = refl

pub bare_local_got : (t : ℕ) (h : Half) (c : Conn) (m : Message) → Each is_bare (local_got t h c m)
unfolding local_got
bare_local_got t h c m = let g = sees h (Got c Down m) in of_arrived bare t g c m (bare_entry (ByMessage g.waits c m) refl)

pub bare_local_down : (h : Half) (c : Conn) → Each is_bare (local_down h c)
bare_local_down h c = of_local_down bare h c

pub bare_act : (h : Half) → Each is_bare (act_entries h)
bare_act h =
    of_whole_act bare h (bare_entry (ByAct (is_some h.seen.decided)) refl) (λ e. e_one (Asked e Promote) refl) (λ e. e_one (Asked e AskSingle) refl) (e_one Sealed refl)
    (λ m c. e_one (Sent Begin Up m) refl)

pub bare_reply : (h : Half) (e : EnlNo) (r : Reply) → Each is_bare (reply_entries h e r)
bare_reply h e r = of_reply bare h e r (bare_entry (ByReply r) refl)

pub bare_facts : (t : ℕ) (h : Half) (c : Call) (a : Answer) → is_cloning c ≡ false → Each is_bare (local_facts t h c a)
bare_facts t h c a n = of_facts bare t h c a (bare_entry (ByCall c) n)

pub bare_gone : (h : Half) (e : EnlNo) → Each is_bare (gone_unlinked h e)
bare_gone h e = of_gone_unlinked bare h e (e_one (LostEntry e) refl)

pub bare_reenlist : (t : ℕ) (b : Option Branch) → Each is_bare (reenlist_facts t b)
bare_reenlist t b = of_reenlist bare [] t b (λ e. e_one (Reenlisted e) refl) (λ e i. e_one (Sent (Again e) Up (ReenlistReenlist i)) refl)
