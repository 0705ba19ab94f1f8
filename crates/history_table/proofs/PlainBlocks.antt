-- Which entries the blocks of steps don't have: no block but that of a call has a call, and only the calls that make an enlistment, and the arrivals of CREATED
-- and ENLISTED, make one, send an ENLIST or end a promotion.
use Rattle.std.proofs.Common.{Bool, true, false, not, List, ◌≡◌, [], ◌∷◌, refl, ◌||◌, ℕ, is_some, Option}
use Rattle.dtx_values.specs.declared.call.Call.{Call}
use Rattle.dtx_values.specs.declared.entry.Answer.{Answer}
use Rattle.dtx_values.specs.declared.entry.Ask.TheVariants.{Promote, Single as AskSingle}
use Rattle.dtx_values.specs.declared.entry.Entry.{Entry}
use Rattle.dtx_values.specs.declared.entry.Entry.TheVariants.{Called, Enlisted, Promoted, Sent, Asked, Sealed, Promoting, Recovered as RecoveredEntry, Cut, Logged, LogFull, Freed, Stopped, Restarted}
use Rattle.dtx_values.specs.declared.message.Conn.{Conn}
use Rattle.dtx_values.specs.declared.message.Conn.TheVariants.{Begin}
use Rattle.dtx_values.specs.declared.message.Dir.{Dir}
use Rattle.dtx_values.specs.declared.message.Dir.TheVariants.{Up, Down}
use Rattle.dtx_values.specs.declared.message.Message.{Message}
use Rattle.dtx_values.specs.declared.message.Message.TheVariants.{EnlistEnlist, BeginCommit, BeginCommitOne, BeginBegin}
use Rattle.dtx_values.specs.declared.note.Reply.{Reply}
use Rattle.dtx_values.specs.declared.number.EnlNo.{EnlNo}
use Rattle.dtx_values.specs.declared.words.Cause.{Cause}
use Rattle.dtx_values.specs.Class.{is_promotable}
use Rattle.dtx_values.specs.Lines.{has_line}
use Rattle.dtx_model.specs.Entries.{is_commit_message}
use Rattle.dtx_model.specs.Coordinated.{Coordinated, core_got}
use Rattle.dtx_model.specs.Half.{Half}
use Rattle.dtx_model.specs.Arrivals.{arrived}
use Rattle.dtx_model.specs.Acts.{act_entries}
use Rattle.dtx_model.specs.Replies.{reply_entries}
use Rattle.dtx_model.specs.Facts.{begin_promotion, facts_if, has_facts}
use Rattle.dtx_model.specs.World.{World, half, core, facts_at}
use Rattle.dtx_model.specs.Steps.{ended_at, LogAnswer, coordinates, restarted}
use Rattle.dtx_model.proofs.Writes.{Each, e_one, IsClosed, each_closed, Source, enlists, sends, enlists_promotable, gives, writes, is_outcome_message, ByMessage, is_giving, ByAct, ByReply, ByCall, is_making}
use Rattle.dtx_model.proofs.Blocks.{of_core_got, of_arrived, of_core_down, of_local_down, of_whole_act, of_reply, of_begin_promotion, of_called, of_coordinates, of_restarted}
use Rattle.dtx_model.proofs.Bools.{not_both, and_left, and_right}
use Rattle.history_table.proofs.Messages.{ENLIST}

-- the entry is no call, makes no enlistment, ends no promotion well, and sends no ENLIST
abbrev pub is_plain : Entry → Bool
is_plain (Called n a x) = false
is_plain (Promoted u c) = false
is_plain (Enlisted e c) = false
is_plain (Sent c Up m) = not (ENLIST m)
is_plain _ = true

abbrev pub Plain : List Entry → Type 0
Plain es = Each is_plain es

pub plain_one : (x : Entry) → is_plain x ≡ true → Plain (x ∷ [])
plain_one x p = e_one x p

plain : IsClosed (λ ws es. Each is_plain es)
plain = each_closed is_plain refl (λ x. refl) (λ n x. refl) refl refl

pub plain_up : (s : Source) → enlists s ≡ false → (m : Message) → sends s m ≡ true → not (ENLIST m) ≡ true
plain_up s n (EnlistEnlist i) t = absurd (not_both (enlists s) t n)
plain_up s n _ t = refl

plain_entry : (s : Source) → enlists s ≡ false → gives s ≡ false → (x : Entry) → writes s x ≡ true → Plain (x ∷ [])
plain_entry s n g x t = plain_one x (passes x t)
  where
    passes : (x : Entry) → writes s x ≡ true → is_plain x ≡ true
    passes (Called i a x) t = absurd cc
    passes (Promoted u c) t = absurd (not_both (gives s) t g)
    passes (Enlisted e c) t = absurd (not_both (enlists s) (and_left (enlists s) (not (is_promotable c) || enlists_promotable s) t) n)
    passes (Sent c Up m) t = plain_up s n m (and_right (has_line c Up m) (sends s m) t)
    passes _ t = refl

plain_sent : (c : Conn) (m : Message) → has_line c Down m ≡ true → is_outcome_message m ≡ true → Plain (Sent c Down m ∷ [])
plain_sent c m l o = plain_one (Sent c Down m) refl

pub plain_core_got : (id : ℕ) (k : Coordinated) (c : Conn) (m : Message) → Plain (core_got id k c m)
plain_core_got id k c m = of_core_got (plain.lists []) id k c m (λ d n l a. plain_one (Sent d Down n) refl)

pub plain_arrived : (t : ℕ) (h : Half) (c : Conn) (m : Message) → is_giving c m ≡ false → Plain (arrived t h c m)
plain_arrived t h c m g = of_arrived plain t h c m (plain_entry (ByMessage h.waits c m) g g)

pub plain_ended_at : (w : World) (c : Conn) (d : Dir) → Plain (ended_at w c d)
plain_ended_at w c Up = of_core_down (plain.lists []) (core w) c plain_sent
plain_ended_at w c Down = of_local_down plain (half w) c

-- so is COMMIT, of either name
pub plain_commit : (m : Message) → is_commit_message m ≡ true → not (ENLIST m) ≡ true
plain_commit BeginCommit c = refl
plain_commit BeginCommitOne c = refl
plain_commit _ c = absurd cc

pub plain_act : (h : Half) → Plain (act_entries h)
plain_act h =
    of_whole_act plain h (plain_entry (ByAct (is_some h.seen.decided)) refl refl) (λ e. plain_one (Asked e Promote) refl) (λ e. plain_one (Asked e AskSingle) refl) (plain_one Sealed refl)
    (λ m c. plain_one (Sent Begin Up m) (plain_commit m c))

pub plain_reply : (h : Half) (e : EnlNo) (r : Reply) → Plain (reply_entries h e r)
plain_reply h e r = of_reply plain h e r (plain_entry (ByReply r) refl refl)

pub plain_begin_promotion : (h : Half) (c : Option Cause) → Plain (begin_promotion h c)
plain_begin_promotion h c = of_begin_promotion plain h c (λ c. plain_one (Promoting c) refl) (plain_one (Sent Begin Up BeginBegin) refl)

-- what stands after a call that makes nothing
pub plain_called : (t : ℕ) (w : World) (c : Call) (a : Answer) → is_making c ≡ false → Plain (facts_if (has_facts a) (facts_at t w c a))
plain_called t w c a g = of_called plain t w c a (plain_entry (ByCall c) g refl) (λ d n m. plain_one (Cut d n m) refl) (λ r. plain_one (RecoveredEntry r) refl)

pub plain_coordinates : (k : Coordinated) (a : LogAnswer) → Plain (coordinates k a)
plain_coordinates k a = of_coordinates (plain.lists []) k a plain_sent (plain_one Logged refl) (plain_one LogFull refl) (plain_one Freed refl) (plain_one Stopped refl)

pub plain_restarted : (b found : Bool) → Plain (restarted b found)
plain_restarted b found = of_restarted (plain.lists []) b found (plain_one Stopped refl) (plain_one (Restarted found) refl)
