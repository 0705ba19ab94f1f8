-- Which entries the blocks of steps don't have: none but those of a few calls, of a promotable's reply and of the local act make a clone or a promotable, take one back, open b,
-- or ask a promotable to promote or to commit in a single phase.
use Rattle.std.proofs.Common.{◌≡◌, ℕ, Bool, true, false, ◌||◌, not, List, [], ◌∷◌, is_some, refl}
use Rattle.dtx_values.specs.declared.call.Call.{Call}
use Rattle.dtx_values.specs.declared.entry.Answer.{Answer}
use Rattle.dtx_values.specs.declared.entry.Ask.TheVariants.{Promote, Single as AskSingle}
use Rattle.dtx_values.specs.declared.entry.Entry.{Entry}
use Rattle.dtx_values.specs.declared.entry.Entry.TheVariants.{Cloned, Enlisted, Asked, Sealed, Sent, Logged, LogFull, Freed, Stopped, Restarted, Reenlisted, Recovered as RecoveredEntry, Cut}
use Rattle.dtx_values.specs.declared.message.Conn.{Conn}
use Rattle.dtx_values.specs.declared.message.Conn.TheVariants.{Begin}
use Rattle.dtx_values.specs.declared.message.Dir.{Dir}
use Rattle.dtx_values.specs.declared.message.Dir.TheVariants.{Up, Down}
use Rattle.dtx_values.specs.declared.message.Message.{Message}
use Rattle.dtx_values.specs.declared.message.Message.TheVariants.{BeginBegin, BeginCommit, BeginCommitOne}
use Rattle.dtx_values.specs.declared.note.Reply.{Reply}
use Rattle.dtx_values.specs.declared.number.EnlNo.{EnlNo}
use Rattle.dtx_model.specs.Words.{each, has}
use Rattle.dtx_values.specs.Class.{is_promotable}
use Rattle.dtx_model.specs.Entries.{is_commit_message}
use Rattle.dtx_model.specs.Coordinated.{Coordinated, core_got}
use Rattle.dtx_model.specs.Half.{Half, is_promoting}
use Rattle.dtx_model.specs.Arrivals.{arrived}
use Rattle.dtx_model.specs.Acts.{commit_sent, act_entries}
use Rattle.dtx_model.specs.Replies.{reply_entries}
use Rattle.dtx_model.specs.Facts.{facts_if, has_facts}
use Rattle.dtx_model.specs.World.{World, half, core, facts_at}
use Rattle.dtx_model.specs.Steps.{LogAnswer, coordinates, ended_at, restarted}
use Rattle.dtx_model.specs.Waiting.{Waiter}
use Rattle.history_table.proofs.Scans.{none_more}
use Rattle.dtx_model.proofs.Blocks.{of_act as of_kinds, of_core_got, of_core_down, of_coordinates, of_restarted, of_local_down, of_arrived, of_commit_sent, of_reply, of_called}
use Rattle.dtx_model.proofs.Writes.{Each, e_cons, e_one, IsClosed, each_closed, Source, ByCall, ByReply, ByMessage, ByAct, is_making_promotable, may_begin, is_cloning, promotes, is_promotable_place, enlists, enlists_promotable, opens_begin, clones, returns, sends, writes, is_outcome_message, is_returning}
use Rattle.dtx_model.proofs.Bools.{and_right, not_both, not_true, or_first, or_second, or_case}
use Rattle.dtx_values.specs.Lines.{has_line}
use Rattle.history_table.proofs.Messages.{BEGIN}

-- the entry makes no clone and no promotable, takes none back, asks none to promote or to commit, and sends no BEGIN
abbrev pub is_tame : Entry → Bool
is_tame (Enlisted e c) = not (is_promotable c)
is_tame (Cloned c k) = false
is_tame (Asked e Promote) = false
is_tame (Asked e AskSingle) = false
is_tame (Reenlisted e) = false
is_tame (Sent c Up m) = not (BEGIN m)
is_tame _ = true

abbrev pub Tame : List Entry → Type 0
Tame es = Each is_tame es

pub tame_cons : (x : Entry) {es : List Entry} → is_tame x ≡ true → Tame es → Tame (x ∷ es)
tame_cons x p q = e_cons x p q

pub tame_one : (x : Entry) → is_tame x ≡ true → Tame (x ∷ [])
tame_one x p = e_one x p

tame : IsClosed (λ ws es. Each is_tame es)
tame = each_closed is_tame refl (λ x. refl) (λ n x. refl) refl refl

-- so are the entries of blocks that make no clone and no promotable, take none back and don't open b
tame_up : (s : Source) → opens_begin s ≡ false → (m : Message) → sends s m ≡ true → not (BEGIN m) ≡ true
tame_up s b BeginBegin t = absurd (not_both (opens_begin s) t b)
tame_up s b _ t = refl

tame_entry : (s : Source) → opens_begin s ≡ false → enlists_promotable s ≡ false → clones s ≡ false → returns s ≡ false → (x : Entry) → writes s x ≡ true → Tame (x ∷ [])
tame_entry s b e c r x t = tame_one x (passes x t)
  where
    passes : (x : Entry) → writes s x ≡ true → is_tame x ≡ true
    passes (Enlisted f k) t =
        or_case (not (is_promotable k)) (enlists_promotable s) (λ q. q) (λ q. absurd (not_both (enlists_promotable s) q e)) (and_right (enlists s) (not (is_promotable k) || enlists_promotable s) t)
    passes (Cloned d k) t = absurd (not_both (clones s) t c)
    passes (Asked f Promote) t = absurd cc
    passes (Asked f AskSingle) t = absurd cc
    passes (Reenlisted f) t = absurd (not_both (returns s) t r)
    passes (Sent d Up m) t = tame_up s b m (and_right (has_line d Up m) (sends s m) t)
    passes _ t = refl

tame_sent : (c : Conn) (m : Message) → has_line c Down m ≡ true → is_outcome_message m ≡ true → Tame (Sent c Down m ∷ [])
tame_sent c m l o = tame_one (Sent c Down m) refl

pub tame_core_got : (id : ℕ) (k : Coordinated) (c : Conn) (m : Message) → Tame (core_got id k c m)
tame_core_got id k c m = of_core_got (tame.lists []) id k c m (λ d n l a. tame_one (Sent d Down n) refl)

-- the calls that wait have no promotable's place
abbrev pub is_unpromotable : Waiter → Bool
is_unpromotable v = not (is_promotable_place v)

unplaced : (ws : List Waiter) → each is_unpromotable ws ≡ true → has is_promotable_place ws ≡ false
unplaced ws u = none_more is_unpromotable is_promotable_place (λ v t. not_true (is_promotable_place v) t) ws u

pub tame_arrived : (t : ℕ) (h : Half) (c : Conn) (m : Message) → each is_unpromotable h.waits ≡ true → Tame (arrived t h c m)
tame_arrived t h c m u = of_arrived tame t h c m (tame_entry (ByMessage h.waits c m) refl (unplaced h.waits u) refl refl)

pub tame_ended_at : (w : World) (c : Conn) (d : Dir) → Tame (ended_at w c d)
tame_ended_at w c Up = of_core_down (tame.lists []) (core w) c tame_sent
tame_ended_at w c Down = of_local_down tame (half w) c

-- COMMIT, of either name, isn't BEGIN
tame_commit : (m : Message) → is_commit_message m ≡ true → not (BEGIN m) ≡ true
tame_commit BeginCommit c = refl
tame_commit BeginCommitOne c = refl
tame_commit _ c = absurd cc

-- what holds of tame blocks, of an ask to promote while a promotion is under way, and of an ask to commit once it is sealed and promoted, holds of the local act
pub record OfActs (h : Half) (P : List Entry → Type 0) : Type 0 where
  pub tame : (es : List Entry) → Tame es → P es
  pub promote : (e : EnlNo) → is_promoting h.seen ≡ true → P (Asked e Promote ∷ [])
  pub single : (e : EnlNo) → h.seen.sealed ≡ true → h.seen.promoted ≡ true → P (Asked e AskSingle ∷ [])

pub of_act : (h : Half) (P : List Entry → Type 0) → OfActs h P → P (act_entries h)
of_act h P f =
    of_kinds tame P h (tame_entry (ByAct (is_some h.seen.decided)) refl refl refl refl)
    (record {
      rest = λ es q. f.tame es q;
      promote = λ e d w s. f.promote e w;
      single = λ e d s p q. f.single e s p;
      seal = λ d s u. f.tame (Sealed ∷ commit_sent h.seen) (tame_cons Sealed refl (of_commit_sent tame [] h.seen (λ m c. tame_one (Sent Begin Up m) (tame_commit m c))));
    })

-- a reply by which no promotable says that it promoted
pub tame_reply : (h : Half) (e : EnlNo) (r : Reply) → promotes r ≡ false → Tame (reply_entries h e r)
tame_reply h e r n = of_reply tame h e r (tame_entry (ByReply r) n refl refl refl)

-- the call makes a clone, or a promotable, takes one back, or may begin a promotion
abbrev pub is_marking : Call → Bool
is_marking c = (may_begin c || is_making_promotable c) || (is_cloning c || is_returning c)

-- what stands after a call that makes none of these
pub tame_called : (t : ℕ) (w : World) (c : Call) (a : Answer) → is_marking c ≡ false → Tame (facts_if (has_facts a) (facts_at t w c a))
tame_called t w c a g =
    let makes = or_first (may_begin c || is_making_promotable c) (is_cloning c || is_returning c) g in
    let rest = or_second (may_begin c || is_making_promotable c) (is_cloning c || is_returning c) g in
    of_called tame t w c a
    (tame_entry (ByCall c) (or_first (may_begin c) (is_making_promotable c) makes) (or_second (may_begin c) (is_making_promotable c) makes) (or_first (is_cloning c) (is_returning c) rest)
    (or_second (is_cloning c) (is_returning c) rest)) (λ d n m. tame_one (Cut d n m) refl) (λ r. tame_one (RecoveredEntry r) refl)

-- the coordinator's act, and its restart
pub tame_coordinates : (k : Coordinated) (a : LogAnswer) → Tame (coordinates k a)
tame_coordinates k a = of_coordinates (tame.lists []) k a tame_sent (tame_one Logged refl) (tame_one LogFull refl) (tame_one Freed refl) (tame_one Stopped refl)

pub tame_restarted : (b found : Bool) → Tame (restarted b found)
tame_restarted b found = of_restarted (tame.lists []) b found (tame_one Stopped refl) (tame_one (Restarted found) refl)
