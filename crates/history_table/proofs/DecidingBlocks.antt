-- The blocks of steps answer a call that waits, or say that the promotion failed, only where they decide; but for the arrivals of CREATED and ENLISTED. And where they decide, they
-- answer each call that waits.
use Rattle.std.proofs.Common.{◌≡◌, ℕ, Bool, true, false, ◌&&◌, ◌||◌, List, [], ◌∷◌, ◌++◌, ◌==◌, Option, is_some, refl, ◌∙◌, ap, sym}
use Rattle.std.proofs.lemmas.Bool.{or_left}
use Rattle.std.proofs.lemmas.List.Folds.{list_all-append, list_any-append}
use Rattle.dtx_values.specs.declared.call.Call.{Call}
use Rattle.dtx_values.specs.declared.entry.Answer.{Answer}
use Rattle.dtx_values.specs.declared.entry.Ask.TheVariants.{Promote, Single as AskSingle}
use Rattle.dtx_values.specs.declared.entry.Entry.{Entry}
use Rattle.dtx_values.specs.declared.entry.Entry.TheVariants.{Answered, Asked, Sealed, Decided, Promoting, PromotionFailed, Sent, Logged, LogFull, Freed, Stopped, Restarted, Recovered as RecoveredEntry, Cut}
use Rattle.dtx_values.specs.declared.message.Conn.{Conn}
use Rattle.dtx_values.specs.declared.message.Conn.TheVariants.{Begin, Voter}
use Rattle.dtx_values.specs.declared.message.Dir.{Dir}
use Rattle.dtx_values.specs.declared.message.Dir.TheVariants.{Up, Down}
use Rattle.dtx_values.specs.declared.message.Message.{Message}
use Rattle.dtx_values.specs.declared.message.Message.TheVariants.{BeginBegin, BeginAbort, VoterNo}
use Rattle.dtx_values.specs.declared.note.Reply.{Reply}
use Rattle.dtx_values.specs.declared.number.EnlNo.{EnlNo}
use Rattle.dtx_values.specs.declared.words.Cause.{Cause}
use Rattle.dtx_values.specs.declared.words.Outcome.{Outcome}
use Rattle.dtx_model.specs.Words.{each, has}
use Rattle.dtx_model.specs.Coordinated.{Coordinated, core_got}
use Rattle.dtx_model.specs.Half.{Half, is_promoting, fails_if, decide, ended}
use Rattle.dtx_model.specs.Arrivals.{arrived}
use Rattle.dtx_model.specs.Acts.{act_entries}
use Rattle.dtx_model.specs.Replies.{reply_entries}
use Rattle.dtx_model.specs.Facts.{begin_promotion, facts_if, has_facts}
use Rattle.dtx_model.specs.World.{World, half, core, facts_at}
use Rattle.dtx_model.specs.Steps.{LogAnswer, coordinates, ended_at, restarted}
use Rattle.dtx_model.specs.Entries.{is_decision}
use Rattle.dtx_model.proofs.Bools.{and_both, not_both, or_case, or_false, or_right}
use Rattle.dtx_model.specs.Waiting.{Waiter}
use Rattle.history_table.specs.Waited.{is_answer_of}
use Rattle.history_table.proofs.Scans.{each_more}
use Rattle.history_table.proofs.Tests.{eq_self}
use Rattle.dtx_model.proofs.Writes.{IsClosed, Source, ByCall, ByReply, ByMessage, ByAct, is_giving, gives, writes, is_outcome_message}
use Rattle.dtx_model.proofs.Blocks.{of_core_got, of_core_down, of_coordinates, of_restarted, of_local_down, of_arrived, of_whole_act, of_reply, of_begin_promotion, of_called}
use Rattle.dtx_values.specs.Lines.{has_line}
use Rattle.dtx_values.specs.declared.entry.Answer.TheVariants.{Ended as EndedAnswer, Fine, Id}

-- the entry decides nothing, answers no call that waits, and doesn't say that the promotion failed
abbrev pub is_kept : Entry → Bool
is_kept (Answered n x) = false
is_kept PromotionFailed = false
is_kept (Decided o) = false
is_kept _ = true

kept_open : (x : Entry) → is_kept x ≡ true → is_decision x ≡ false
kept_open (Decided o) k = absurd cc
kept_open _ k = refl

-- each of these calls gets its answer in the list
abbrev pub are_answered : List Waiter → List Entry → Bool
are_answered ws es = each (λ w. has (is_answer_of w.0) es) ws

-- the list decides, or has such entries alone; and where it decides, each of these calls gets its answer in it
pub record Keeps (ws : List Waiter) (es : List Entry) : Type 0 where
  pub proof : (has is_decision es || each is_kept es) ≡ true
  pub answers : has is_decision es ≡ true → are_answered ws es ≡ true

kept_none : {ws : List Waiter} → Keeps ws []
kept_none = record { proof = refl; answers = λ d. absurd cc }

answered_more : (ws : List Waiter) (x y : List Entry) → ((n : ℕ) → has (is_answer_of n) x ≡ true → has (is_answer_of n) y ≡ true) → are_answered ws x ≡ true → are_answered ws y ≡ true
answered_more ws x y f a = each_more (λ w. has (is_answer_of w.0) x) (λ w. has (is_answer_of w.0) y) (λ w k. f w.0 k) ws a

pub rest_join : (x y : List Entry) → (has is_decision x || each is_kept x) ≡ true → (has is_decision y || each is_kept y) ≡ true → (has is_decision (x ++ y) || each is_kept (x ++ y)) ≡ true
rest_join x y p q =
    ap (λ b. b || each is_kept (x ++ y)) (list_any-append is_decision x y) ∙ ap (λ b. (has is_decision x || has is_decision y) || b) (list_all-append is_kept x y)
    ∙ step (has is_decision x) (has is_decision y) (each is_kept x) (each is_kept y) p q
  where
    step : (a b c d : Bool) → (a || c) ≡ true → (b || d) ≡ true → ((a || b) || (c && d)) ≡ true
    step true b c d p q = refl
    step false true c d p q = refl
    step false false true d p q = q
    step false false false d p q = absurd cc

kept_join : {ws : List Waiter} {x y : List Entry} → Keeps ws x → Keeps ws y → Keeps ws (x ++ y)
kept_join {ws} {x} {y} p q = record {
  proof = rest_join x y p.proof q.proof;
  answers = λ d.
      or_case (has is_decision x) (has is_decision y)
      (λ a. answered_more ws x (x ++ y) (λ n k. list_any-append (is_answer_of n) x y ∙ or_left (has (is_answer_of n) x) (has (is_answer_of n) y) k) (p.answers a))
      (λ a. answered_more ws y (x ++ y) (λ n k. list_any-append (is_answer_of n) x y ∙ or_right (has (is_answer_of n) x) (has (is_answer_of n) y) k) (q.answers a))
      (sym (list_any-append is_decision x y) ∙ d);
}

pub kept_one : {ws : List Waiter} (x : Entry) → is_kept x ≡ true → Keeps ws (x ∷ [])
kept_one x p = record {
  proof = or_right (is_decision x || false) (is_kept x && true) (and_both (is_kept x) true p refl);
  answers = λ d. absurd (not_both (is_decision x || false) d (or_false (is_decision x) false (kept_open x p) refl));
}

-- a decision answers each call that waits
all_ended : (ws : List Waiter) (x : Outcome) → are_answered ws (ended ws x) ≡ true
all_ended [] x = refl
all_ended (w ∷ ws) x =
    let first = Answered w.0 (EndedAnswer x) in
    and_both (has (is_answer_of w.0) (first ∷ ended ws x)) (are_answered ws (first ∷ ended ws x)) (or_left (w.0 == w.0) (has (is_answer_of w.0) (ended ws x)) (eq_self w.0))
    (answered_more ws (ended ws x) (first ∷ ended ws x) (λ n k. or_right (n == w.0) (has (is_answer_of n) (ended ws x)) k) (all_ended ws x))

kept_decide : (h : Half) (x : Outcome) → Keeps h.waits (decide h x)
kept_decide h x = record { proof = step (is_promoting h.seen) (ended h.waits x); answers = λ d. behind (is_promoting h.seen) h.waits (ended h.waits x) (all_ended h.waits x) }
  where
    step : (b : Bool) (es : List Entry) → (has is_decision (fails_if b ++ Decided x ∷ es) || each is_kept (fails_if b ++ Decided x ∷ es)) ≡ true
    step true es = refl
    step false es = refl

    behind : (b : Bool) (ws : List Waiter) (es : List Entry) → are_answered ws es ≡ true → are_answered ws (fails_if b ++ Decided x ∷ es) ≡ true
    behind true ws es a = a
    behind false ws es a = a

pub kept : IsClosed (λ ws es. Keeps ws es)
kept =
    record {
      lists = λ ws. record { none = kept_none; join = λ x y p q. kept_join p q };
      decides = kept_decide;
      abort = λ ws. kept_one (Sent Begin Up BeginAbort) refl;
      no = λ ws. kept_one (Sent Voter Up VoterNo) refl;
    }

-- so are the entries of blocks that give no place
pub kept_entry : {ws : List Waiter} (s : Source) → gives s ≡ false → (x : Entry) → writes s x ≡ true → Keeps ws (x ∷ [])
kept_entry s g x t = kept_one x (passes x t)
  where
    passes : (x : Entry) → writes s x ≡ true → is_kept x ≡ true
    passes (Answered n (Id u)) t = absurd (not_both (gives s) t g)
    passes (Answered n Fine) t = absurd (not_both (gives s) t g)
    passes (Answered n x) t = absurd cc
    passes PromotionFailed t = absurd cc
    passes (Decided o) t = absurd cc
    passes _ t = refl

kept_sent : {ws : List Waiter} (c : Conn) (m : Message) → has_line c Down m ≡ true → is_outcome_message m ≡ true → Keeps ws (Sent c Down m ∷ [])
kept_sent c m l o = kept_one (Sent c Down m) refl

pub kept_core_got : {ws : List Waiter} (id : ℕ) (k : Coordinated) (c : Conn) (m : Message) → Keeps ws (core_got id k c m)
kept_core_got {ws} id k c m = of_core_got (kept.lists ws) id k c m (λ d n l a. kept_one (Sent d Down n) refl)

pub kept_arrived : (t : ℕ) (h : Half) (c : Conn) (m : Message) → is_giving c m ≡ false → Keeps h.waits (arrived t h c m)
kept_arrived t h c m g = of_arrived kept t h c m (kept_entry (ByMessage h.waits c m) g)

pub kept_ended_at : (w : World) (c : Conn) (d : Dir) → Keeps (half w).waits (ended_at w c d)
kept_ended_at w c Up = of_core_down (kept.lists (half w).waits) (core w) c kept_sent
kept_ended_at w c Down = of_local_down kept (half w) c

pub kept_act : (h : Half) → Keeps h.waits (act_entries h)
kept_act h =
    of_whole_act kept h (kept_entry (ByAct (is_some h.seen.decided)) refl) (λ e. kept_one (Asked e Promote) refl) (λ e. kept_one (Asked e AskSingle) refl) (kept_one Sealed refl)
    (λ m q. kept_one (Sent Begin Up m) refl)

pub kept_reply : (h : Half) (e : EnlNo) (r : Reply) → Keeps h.waits (reply_entries h e r)
kept_reply h e r = of_reply kept h e r (kept_entry (ByReply r) refl)

pub kept_begin_promotion : (h : Half) (c : Option Cause) → Keeps h.waits (begin_promotion h c)
kept_begin_promotion h c = of_begin_promotion kept h c (λ c. kept_one (Promoting c) refl) (kept_one (Sent Begin Up BeginBegin) refl)

-- what stands after a call
pub kept_called : (t : ℕ) (w : World) (c : Call) (a : Answer) → Keeps (half w).waits (facts_if (has_facts a) (facts_at t w c a))
kept_called t w c a = of_called kept t w c a (kept_entry (ByCall c) refl) (λ d n m. kept_one (Cut d n m) refl) (λ r. kept_one (RecoveredEntry r) refl)

pub kept_coordinates : {ws : List Waiter} (k : Coordinated) (a : LogAnswer) → Keeps ws (coordinates k a)
kept_coordinates {ws} k a = of_coordinates (kept.lists ws) k a kept_sent (kept_one Logged refl) (kept_one LogFull refl) (kept_one Freed refl) (kept_one Stopped refl)

pub kept_restarted : {ws : List Waiter} (b found : Bool) → Keeps ws (restarted b found)
kept_restarted {ws} b found = of_restarted (kept.lists ws) b found (kept_one Stopped refl) (kept_one (Restarted found) refl)
