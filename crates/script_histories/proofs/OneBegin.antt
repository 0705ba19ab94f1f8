-- BEGIN is sent once, promoted or not, whatever stops and restarts: a promotion begins once, and BEGIN is sent as it begins, or else by the one promotable that stood then.
use Rattle.std.proofs.Common.{Bool, true, false, not, ◌≡◌, ◌||◌, List, [], refl, ◌++◌, ap, ◌∙◌, ◌∷◌, is_some, Option, Some, None, sym, if◌then◌else◌, ℕ, ◌==◌, ◌&&◌, subst}
use Rattle.std.proofs.lemmas.Bool.{false_from_ne_true}
use Rattle.std.proofs.lemmas.List.Folds.{list_any-append}
use Rattle.dtx_values.specs.declared.call.Call.{Call}
use Rattle.dtx_values.specs.declared.call.Call.TheVariants.{Durable, Marshal, Promotable}
use Rattle.dtx_values.specs.declared.entry.Answer.{Answer}
use Rattle.dtx_values.specs.declared.entry.Answer.TheVariants.{Wait, Fine, True}
use Rattle.dtx_values.specs.declared.entry.Ask.TheVariants.{Promote, Single as AskSingle}
use Rattle.dtx_values.specs.declared.entry.Entry.{Entry}
use Rattle.dtx_values.specs.declared.entry.Entry.TheVariants.{Asked, Enlisted, Promoting, Sent, Decided, PromotionFailed, Answered, Called, Got, Cut, Recovered as RecoveredEntry, Freed, Logged, LogFull, Stopped, Restarted, Sealed, Init, Down as Ended}
use Rattle.dtx_values.specs.declared.message.Conn.{Conn}
use Rattle.dtx_values.specs.declared.message.Conn.TheVariants.{Begin, Voter}
use Rattle.dtx_values.specs.declared.message.Dir.{Dir}
use Rattle.dtx_values.specs.declared.message.Dir.TheVariants.{Up, Down}
use Rattle.dtx_values.specs.declared.message.Message.{Message}
use Rattle.dtx_values.specs.declared.message.Message.TheVariants.{BeginBegin, BeginAbort, VoterNo, BeginCommit, BeginCommitOne}
use Rattle.dtx_values.specs.declared.note.Note.{Note}
use Rattle.dtx_values.specs.declared.note.Reply.{Reply}
use Rattle.dtx_values.specs.declared.note.Reply.TheVariants.{Promote as Promotes, Vote as VoteReply, Owner as OwnerReply, Ack}
use Rattle.dtx_values.specs.declared.number.ActorNo.{ActorNo}
use Rattle.dtx_values.specs.declared.number.EnlNo.{EnlNo}
use Rattle.dtx_values.specs.declared.number.RmNo.{RmNo}
use Rattle.dtx_values.specs.declared.row.Row.{Row}
use Rattle.dtx_values.specs.declared.words.Cause.{Cause}
use Rattle.dtx_values.specs.declared.words.Cause.TheVariants.{Marshal as MarshalCause}
use Rattle.dtx_values.specs.declared.words.Class.TheVariants.{DurableSingle, Promotable as PromotableClass}
use Rattle.dtx_values.specs.declared.words.Outcome.{Outcome}
use Rattle.dtx_values.specs.declared.script.Support.TheVariants.{SinglePhase, TwoPhase}
use Rattle.dtx_values.specs.Class.{is_promotable}
use Rattle.dtx_values.specs.Ends.{knows}
use Rattle.dtx_values.specs.Lines.{has_line}
use Rattle.dtx_values.specs.Owners.{commits_alone, cause_of, may_own}
use Rattle.dtx_values.specs.Support.{is_single}
use Rattle.dtx_model.specs.declared.waiting.EnteredCall.{EnteredCall}
use Rattle.dtx_model.specs.Words.{each, has, or_else, latest, onto}
use Rattle.dtx_model.specs.Entries.{is_decision, decision_of, began_of, is_promoted, is_sealed}
use Rattle.dtx_model.specs.Observed.{is_promotion_failed, is_ask_promote, is_promote_reply, cause_of_promotion, rows, Observed, observe}
use Rattle.dtx_model.specs.Waiting.{wanted, Waiter, call_at, waiter_line, waiting}
use Rattle.dtx_model.specs.Promotes.{identifier_of}
use Rattle.dtx_model.specs.Wires.{in_transit}
use Rattle.dtx_model.specs.Coordinated.{Coordinated, core_got}
use Rattle.dtx_model.specs.Half.{Half, decide, ended, fails_if, is_promoting, sees, enlist_sent}
use Rattle.dtx_model.specs.Answers.{durable_answer, has_promotion, is_crowded, is_full, local_answer, marshal_answer, promotable_answer}
use Rattle.dtx_model.specs.Arrivals.{local_got}
use Rattle.dtx_model.specs.Acts.{act_entries, commit_sent, promotable_in}
use Rattle.dtx_model.specs.Replies.{reply_entries, due_of, fits, promote_entries}
use Rattle.dtx_model.specs.Facts.{facts_if, begin_promotion, has_facts, durable_facts}
use Rattle.dtx_model.specs.World.{World, core, half, facts_at, answer_at}
use Rattle.dtx_model.specs.Steps.{ended_at, LogAnswer, coordinates, restarted, called, delivered, Step, Calls, Replies, Acts, Coordinates, Delivers, Stops, Restarts, block_at, after}
use Rattle.dtx_model.specs.Caused.{is_begin_sent, MayCome, Ran, IsRun}
use Rattle.dtx_model.proofs.Blocks.{of_core_got, of_arrived, of_core_down, of_local_down, of_reply, of_called, of_coordinates, of_restarted, of_act}
use Rattle.dtx_model.proofs.Bools.{and_both, or_right, and_right, not_both, or_case, not_true, or_second, and_left, or_first}
use Rattle.dtx_model.proofs.Reading.{has-onto}
use Rattle.dtx_model.proofs.Writes.{e_join, each_closed, IsClosed, OfWritten, Source, begins, enlists, enlists_promotable, opens_begin, writes, is_promotable_place, ByMessage, ByReply, promotes, ByCall, is_making_promotable, may_begin, ByAct}
use Rattle.history_table.proofs.EntryTests.{has_promotable}
use Rattle.history_table.proofs.ToPromote.{starts, unstarted, marshal_waits, unowned, owns_alone, to_promote}
use Rattle.history_table.proofs.Scans.{none_more}
use Rattle.history_table.proofs.Owned.{has_rows, has_filter}
use Rattle.history_table.proofs.Lists.{has-insert}
use Rattle.history_table.proofs.WorldCalls.{done_behind}

-- What stands at the end of each block: BEGIN was sent, and a promotable asked to promote, after a promotion began; where no promotable answered, BEGIN was sent where none
-- stands; and a promotion that failed decided.
pub record Once (h : List Entry) : Type 0 where
  begun : has is_begin_sent h ≡ true → starts h ≡ true
  asked : has is_ask_promote h ≡ true → starts h ≡ true
  bare : has is_begin_sent h ≡ true → has is_promote_reply h ≡ false → has_promotable h ≡ false
  failed : has is_promotion_failed h ≡ true → has is_decision h ≡ true

-- the block keeps that, and where it sends BEGIN, it wasn't sent
pub record Adds (h es : List Entry) : Type 0 where
  once : Once (onto h es)
  new : has is_begin_sent es ≡ true → has is_begin_sent h ≡ false

-- an entry that doesn't send BEGIN, begins no promotion, makes no promotable, and asks one to promote only where this is so
abbrev is_calm : Bool → Entry → Bool
is_calm b (Sent Begin Up BeginBegin) = false
is_calm b (Promoting c) = false
is_calm b (Enlisted e c) = not (is_promotable c)
is_calm b (Asked e Promote) = b
is_calm b _ = true

-- such entries alone, and where a promotion fails, it is decided
record Calm (b : Bool) (es : List Entry) : Type 0 where
  calm : each (is_calm b) es ≡ true
  fails : (has is_decision es || not (has is_promotion_failed es)) ≡ true

calm_none : {b : Bool} → Calm b []
calm_none = record { calm = refl; fails = refl }

calm_join : {b : Bool} (x y : List Entry) → Calm b x → Calm b y → Calm b (x ++ y)
calm_join {b} x y p q = record {
  calm = (e_join {p = is_calm b} {x = x} {y = y} (record { proof = p.calm }) (record { proof = q.calm })).proof;
  fails =
      ap (λ c. c || not (has is_promotion_failed (x ++ y))) (list_any-append is_decision x y) ∙ ap (λ c. (has is_decision x || has is_decision y) || not c) (list_any-append is_promotion_failed x y)
      ∙ both (has is_decision x) (has is_decision y) (has is_promotion_failed x) (has is_promotion_failed y) p.fails q.fails;
}
  where
    both : (a c f g : Bool) → (a || not f) ≡ true → (c || not g) ≡ true → ((a || c) || not (f || g)) ≡ true
    both true c f g p q = refl
    both false true f g p q = refl
    both false false false false p q = refl
    both false false false true p q = absurd cc
    both false false true g p q = absurd cc

calm_one : {b : Bool} (x : Entry) → is_calm b x ≡ true → is_promotion_failed x ≡ false → Calm b (x ∷ [])
calm_one {b} x p f = record {
  calm = and_both (is_calm b x) true p refl;
  fails = or_right (is_decision x || false) (not (is_promotion_failed x || false)) (ap (λ c. not (c || false)) f);
}

calm_decides : (b : Bool) (h : Half) (x : Outcome) → Calm b (decide h x)
calm_decides b h x = record {
  calm = ((each_closed (is_calm b) refl (λ x. refl) (λ n x. refl) refl refl).decides h x).proof;
  fails = by (is_promoting h.seen) (ended h.waits x);
}
  where
    by : (c : Bool) (es : List Entry) → (has is_decision (fails_if c ++ Decided x ∷ es) || not (has is_promotion_failed (fails_if c ++ Decided x ∷ es))) ≡ true
    by true es = refl
    by false es = refl

closed : (b : Bool) → IsClosed (λ ws es. Calm b es)
closed b =
    record {
      lists = λ ws. record { none = calm_none; join = λ x y p q. calm_join x y p q };
      decides = calm_decides b;
      abort = λ ws. calm_one (Sent Begin Up BeginAbort) refl refl;
      no = λ ws. calm_one (Sent Voter Up VoterNo) refl refl;
    }

calm_entry : (b : Bool) (s : Source) → opens_begin s ≡ false → begins s ≡ false → enlists_promotable s ≡ false → OfWritten s (Calm b)
calm_entry b s o g e x t = calm_one x (passes x t) (unfailed x t)
  where
    passes : (x : Entry) → writes s x ≡ true → is_calm b x ≡ true
    passes (Sent Begin Up BeginBegin) t = absurd (not_both (opens_begin s) (and_right (has_line Begin Up BeginBegin) (opens_begin s) t) o)
    passes (Promoting c) t = absurd (not_both (begins s) t g)
    passes (Enlisted f c) t =
        or_case (not (is_promotable c)) (enlists_promotable s) (λ k. k) (λ k. absurd (not_both (enlists_promotable s) k e)) (and_right (enlists s) (not (is_promotable c) || enlists_promotable s) t)
    passes (Asked f Promote) t = absurd cc
    passes _ t = refl

    unfailed : (x : Entry) → writes s x ≡ true → is_promotion_failed x ≡ false
    unfailed PromotionFailed t = absurd cc
    unfailed _ t = refl

-- Entries that keep it.
some_later : {A : Type 0} (x o : Option A) → is_some o ≡ true → is_some (or_else x o) ≡ true
some_later (Some y) o k = refl
some_later None o k = k

calm_unsent : (b : Bool) (x : Entry) → is_calm b x ≡ true → is_begin_sent x ≡ false
calm_unsent b (Sent Begin Up BeginBegin) k = absurd cc
calm_unsent b _ k = refl

calm_asked : (b : Bool) (x : Entry) → is_calm b x ≡ true → is_ask_promote x ≡ true → b ≡ true
calm_asked b (Asked e Promote) k a = k
calm_asked b _ k a = absurd cc

calm_bare : (b : Bool) (x : Entry) (h : List Entry) → is_calm b x ≡ true → has_promotable h ≡ false → has_promotable (x ∷ h) ≡ false
calm_bare b (Enlisted e c) h k n = ap (λ a. a || has_promotable h) (not_true (is_promotable c) k) ∙ n
calm_bare b _ h k n = n

older : (p : Entry → Bool) (x : Entry) (h : List Entry) → p x ≡ false → has p (x ∷ h) ≡ true → has p h ≡ true
older p x h n k = or_case (p x) (has p h) (λ t. absurd (not_both (p x) t n)) (λ t. t) k

-- what stands but for a failure
record Shape (h : List Entry) : Type 0 where
  begun : has is_begin_sent h ≡ true → starts h ≡ true
  asked : has is_ask_promote h ≡ true → starts h ≡ true
  bare : has is_begin_sent h ≡ true → has is_promote_reply h ≡ false → has_promotable h ≡ false

shape_one : (b : Bool) (x : Entry) (h : List Entry) → (b ≡ true → starts h ≡ true) → is_calm b x ≡ true → Shape h → Shape (x ∷ h)
shape_one b x h s k i = record {
  begun = λ t. some_later (cause_of_promotion x) (latest cause_of_promotion h) (i.begun (older is_begin_sent x h (calm_unsent b x k) t));
  asked =
      λ t. some_later (cause_of_promotion x) (latest cause_of_promotion h)
      (or_case (is_ask_promote x) (has is_ask_promote h) (λ a. s (calm_asked b x k a)) (λ a. i.asked a) t);
  bare = λ t n. calm_bare b x h k (i.bare (older is_begin_sent x h (calm_unsent b x k) t) (or_second (is_promote_reply x) (has is_promote_reply h) n));
}

shape_block : (b : Bool) (h es : List Entry) → (b ≡ true → starts h ≡ true) → each (is_calm b) es ≡ true → Shape h → Shape (onto h es)
shape_block b h [] s k i = i
shape_block b h (x ∷ es) s k i =
    shape_block b (x ∷ h) es (λ t. some_later (cause_of_promotion x) (latest cause_of_promotion h) (s t)) (and_right (is_calm b x) (each (is_calm b) es) k)
    (shape_one b x h s (and_left (is_calm b x) (each (is_calm b) es) k) i)

shape_of : {h : List Entry} → Once h → Shape h
shape_of {h} i = record { begun = i.begun; asked = i.asked; bare = i.bare }

once_of : (h : List Entry) → Shape h → (has is_promotion_failed h ≡ true → has is_decision h ≡ true) → Once h
once_of h i f = record { begun = i.begun; asked = i.asked; bare = i.bare; failed = f }

fails_block : (h es : List Entry) → (has is_decision es || not (has is_promotion_failed es)) ≡ true → (has is_promotion_failed h ≡ true → has is_decision h ≡ true)
    → has is_promotion_failed (onto h es) ≡ true → has is_decision (onto h es) ≡ true
fails_block h es k f t =
    has-onto is_decision h es ∙ by (has is_decision es) (has is_promotion_failed es) (has is_promotion_failed h) (has is_decision h) k f (sym (has-onto is_promotion_failed h es) ∙ t)
  where
    by : (d g f c : Bool) → (d || not g) ≡ true → (f ≡ true → c ≡ true) → (g || f) ≡ true → (d || c) ≡ true
    by true g f c k i t = refl
    by false true f c k i t = absurd cc
    by false false f c k i t = i t

adds_calm : (b : Bool) (h es : List Entry) → (b ≡ true → starts h ≡ true) → Calm b es → Once h → Adds h es
adds_calm b h es s c i = record {
  once = once_of (onto h es) (shape_block b h es s c.calm (shape_of i)) (fails_block h es c.fails i.failed);
  new = λ t. absurd (not_both (has is_begin_sent es) t (none_more (is_calm b) is_begin_sent (calm_unsent b) es c.calm));
}

-- a block with another entry in front that sends no BEGIN
adds_head : (x : Entry) (h es : List Entry) → is_begin_sent x ≡ false → Adds (x ∷ h) es → Adds h (x ∷ es)
adds_head x h es n a = record {
  once = a.once;
  new = λ t. or_second (is_begin_sent x) (has is_begin_sent h) (a.new (or_case (is_begin_sent x) (has is_begin_sent es) (λ k. absurd (not_both (is_begin_sent x) k n)) (λ k. k) t));
}

one_once : (x : Entry) (h : List Entry) → is_calm false x ≡ true → is_promotion_failed x ≡ false → Once h → Once (x ∷ h)
one_once x h k f i = (adds_calm false h (x ∷ []) (λ e. absurd cc) (calm_one x k f) i).once

-- one of two blocks, by the test between them
adds_if : (h : List Entry) (b : Bool) (xs ys : List Entry) → (b ≡ true → Adds h xs) → (b ≡ false → Adds h ys) → Adds h (if b then xs else ys)
adds_if h true xs ys p q = p refl
adds_if h false xs ys p q = q refl

adds_none : (h : List Entry) → Once h → Adds h []
adds_none h i = record { once = i; new = λ t. absurd cc }

adds_facts : (h : List Entry) (b : Bool) (es : List Entry) → Once h → (b ≡ true → Adds h es) → Adds h (facts_if b es)
adds_facts h true es i f = f refl
adds_facts h false es i f = adds_none h i

-- so BEGIN wasn't sent
unbegun : (h : List Entry) → starts h ≡ false → Once h → has is_begin_sent h ≡ false
unbegun h n i = false_from_ne_true (has is_begin_sent h) (λ k. not_both (starts h) (i.begun k) n)

-- A promotion begins: BEGIN is sent where there is no promotable.
adds_start : (h : List Entry) (v : Half) (o : Option Cause) → v.seen.table ≡ rows h → starts h ≡ false → Once h → Adds h (begin_promotion v o)
adds_start h v None q n i = adds_none h i
adds_start h v (Some c) q n i = by (has (λ x. is_promotable x.class) v.seen.table) refl
  where
    begun : Once (Promoting c ∷ h)
    begun = record { begun = λ t. refl; asked = λ t. refl; bare = i.bare; failed = i.failed }

    by : (b : Bool) → has (λ x. is_promotable x.class) v.seen.table ≡ b → Adds h (Promoting c ∷ (if b then [] else Sent Begin Up BeginBegin ∷ []))
    by true e = record { once = begun; new = λ t. absurd cc }
    by false e =
        let none : has_promotable h ≡ false = sym (has_rows (λ e d. is_promotable d) h) ∙ ap (has (λ (x : Row). is_promotable x.class)) (sym q) ∙ e in
        record { once = record { begun = λ t. refl; asked = λ t. refl; bare = λ t r. none; failed = i.failed }; new = λ t. unbegun h n i }

-- The blocks. A call that waits has no promotable's place.
unplaced : (c : Call) (n : ℕ) → is_promotable_place (n, wanted (Some c)) ≡ false
unplaced (Durable u e r (SinglePhase v o)) n = refl
unplaced (Durable u e r (TwoPhase v)) n = refl
unplaced _ n = refl

unplaced_at : (o : Option Call) (n : ℕ) → is_promotable_place (n, wanted o) ≡ false
unplaced_at (Some c) n = unplaced c n
unplaced_at None n = refl

none_placed : (ks : List EnteredCall) (h : List Entry) → has is_promotable_place (waiting ks h) ≡ false
none_placed ks [] = refl
none_placed ks (Called n a Wait ∷ h) =
    has-insert is_promotable_place waiter_line (n, wanted (call_at ks n)) (waiting ks h) ∙ ap (λ b. b || has is_promotable_place (waiting ks h)) (unplaced_at (call_at ks n) n) ∙ none_placed ks h
none_placed ks (Answered n x ∷ h) =
    has_filter is_promotable_place (λ w. not (n == w.0)) (waiting ks h) ∙ some_less (waiting ks h) (none_placed ks h)
  where
    some_less : (ws : List Waiter) → has is_promotable_place ws ≡ false → has (λ w. is_promotable_place w && not (n == w.0)) ws ≡ false
    some_less [] k = refl
    some_less (w ∷ ws) k = ap (λ b. (b && not (n == w.0)) || has (λ w. is_promotable_place w && not (n == w.0)) ws) (or_first (is_promotable_place w) (has is_promotable_place ws) k) ∙ some_less ws (or_second (is_promotable_place w) (has is_promotable_place ws) k)
none_placed ks (x ∷ h) = none_placed ks h

down_calm : (b : Bool) (c : Conn) (m : Message) → is_calm b (Sent c Down m) ≡ true
down_calm b Begin m = refl
down_calm b _ m = refl

calm_down : (b : Bool) (c : Conn) (m : Message) → Calm b (Sent c Down m ∷ [])
calm_down b c m = calm_one (Sent c Down m) (down_calm b c m) refl

calm_core_got : (id : ℕ) (k : Coordinated) (c : Conn) (m : Message) → Calm false (core_got id k c m)
calm_core_got id k c m = of_core_got ((closed false).lists []) id k c m (λ d n l a. calm_down false d n)

calm_local_got : (t : ℕ) (h : Half) (c : Conn) (m : Message) → has is_promotable_place h.waits ≡ false → Calm false (local_got t h c m)
unfolding local_got
calm_local_got t h c m n = let g = sees h (Got c Down m) in of_arrived (closed false) t g c m (calm_entry false (ByMessage g.waits c m) refl refl n)

calm_ended_at : (w : World) (c : Conn) (d : Dir) → Calm false (ended_at w c d)
calm_ended_at w c Up = of_core_down ((closed false).lists []) (core w) c (λ c m l o. calm_down false c m)
calm_ended_at w c Down = of_local_down (closed false) (half w) c

calm_reply : (h : Half) (e : EnlNo) (r : Reply) → promotes r ≡ false → Calm false (reply_entries h e r)
calm_reply h e r n = of_reply (closed false) h e r (calm_entry false (ByReply r) n refl refl)

calm_called : (t : ℕ) (w : World) (c : Call) (a : Answer) → may_begin c ≡ false → is_making_promotable c ≡ false → Calm false (facts_if (has_facts a) (facts_at t w c a))
calm_called t w c a g p = of_called (closed false) t w c a (calm_entry false (ByCall c) g g p) (λ d n m. calm_one (Cut d n m) refl refl) (λ r. calm_one (RecoveredEntry r) refl refl)

calm_coordinates : (k : Coordinated) (a : LogAnswer) → Calm false (coordinates k a)
calm_coordinates k a =
    of_coordinates ((closed false).lists []) k a (λ c m l o. calm_down false c m) (calm_one Logged refl refl) (calm_one LogFull refl refl) (calm_one Freed refl refl) (calm_one Stopped refl refl)

calm_restarted : (b found : Bool) → Calm false (restarted b found)
calm_restarted b found = of_restarted ((closed false).lists []) b found (calm_one Stopped refl refl) (calm_one (Restarted found) refl refl)

-- where the local act asks a promotable to promote, a promotion began
calm_act : (h : Half) → Calm (is_some h.seen.cause) (act_entries h)
calm_act h =
    of_act (closed (is_some h.seen.cause)) (Calm (is_some h.seen.cause)) h (calm_entry (is_some h.seen.cause) (ByAct (is_some h.seen.decided)) refl refl refl)
    (record {
      rest = λ es r. r;
      promote = λ e d p o. calm_one (Asked e Promote) (and_left (is_some h.seen.cause) (not h.seen.promoted) (and_left (is_some h.seen.cause && not h.seen.promoted) (not h.seen.failed) p)) refl;
      single = λ e d s p o. calm_one (Asked e AskSingle) refl refl;
      seal = λ d s u. calm_join (Sealed ∷ []) (commit_sent h.seen) (calm_one Sealed refl refl) (sent (h.seen.promoted && not (is_some (promotable_in h.seen.table))) (knows Begin h.seen.ends) (commits_alone h.seen.table));
    })
  where
    sent : (a k l : Bool) → Calm (is_some h.seen.cause) (if a then (if k then Sent Begin Up (if l then BeginCommitOne else BeginCommit) ∷ [] else []) else [])
    sent true true true = calm_one (Sent Begin Up BeginCommitOne) refl refl
    sent true true false = calm_one (Sent Begin Up BeginCommit) refl refl
    sent true false l = calm_none
    sent false k l = calm_none

-- A durable call: its ENLIST is sent, a promotion begins, or its enlistment is made.
adds_durable : (t : ℕ) (h : List Entry) (v : Half) (e : EnlNo) (r : RmNo) (single : Bool) (x : Answer) → v.seen ≡ observe h → (has_facts x ≡ true → latest decision_of h ≡ None) → Once h
    → Adds h (facts_if (has_facts x) (durable_facts t v e r single x))
unfolding observe
adds_durable t h v e r single Wait s d i =
    adds_if h v.seen.promoted (enlist_sent t e r) (if is_promoting v.seen then [] else begin_promotion v (cause_of v.seen.table single))
    (λ p. adds_calm false h (enlist_sent t e r) (λ e. absurd cc) (calm_one _ refl refl) i)
    (λ p. adds_if h (is_promoting v.seen) [] (begin_promotion v (cause_of v.seen.table single)) (λ w. adds_none h i)
    (λ w. adds_start h v (cause_of v.seen.table single) (ap (λ (o : Observed). o.table) s)
    (unstarted h (sym (ap (λ (o : Observed). o.promoted) s) ∙ p) (sym (ap (λ (o : Observed). is_promoting o) s) ∙ w) (d refl) i.failed) i))
adds_durable t h v e r single Fine s d i = adds_calm false h (Enlisted e DurableSingle ∷ []) (λ e. absurd cc) (calm_one (Enlisted e DurableSingle) refl refl) i
adds_durable t h v e r single True s d i = adds_calm false h (Enlisted e DurableSingle ∷ []) (λ e. absurd cc) (calm_one (Enlisted e DurableSingle) refl refl) i
adds_durable t h v e r single _ s d i = adds_none h i

adds_promotable : (h : List Entry) (e : EnlNo) (x : Answer) → (has_facts x ≡ true → has is_begin_sent h ≡ false) → Once h → Adds h (facts_if (has_facts x) (Enlisted e PromotableClass ∷ Init e ∷ []))
adds_promotable h e x f i =
    adds_facts h (has_facts x) (Enlisted e PromotableClass ∷ Init e ∷ []) i
    (λ b. record {
      once = record { begun = i.begun; asked = i.asked; bare = λ t r. absurd (not_both (has is_begin_sent h) t (f b)); failed = i.failed };
      new = λ t. f b;
    })

call_once : (h : List Entry) (n : ℕ) (a : ActorNo) (x : Answer) → Once h → Once (Called n a x ∷ h)
call_once h n a x i = record { begun = i.begun; asked = i.asked; bare = i.bare; failed = i.failed }

call_adds : (t : ℕ) (w : World) (n : ℕ) (a : ActorNo) (c : Call) (m : ℕ) → Once w.past → Adds w.past (called t w n a c (answer_at t w c m))
unfolding answer_at local_answer observe
call_adds t w n a (Durable u e r s) m i =
    let x = answer_at t w (Durable u e r s) m in
    adds_head (Called n a x) w.past (facts_if (has_facts x) (durable_facts t (half w) e r (is_single s) x)) refl
    (adds_durable t (Called n a x ∷ w.past) (half w) e r (is_single s) x refl (λ k. (done_behind (latest began_of w.past) (latest decision_of w.past) (durable_answer (half w) (is_single s)) k).0)
    (call_once w.past n a x i))
call_adds t w n a (Promotable u e r y z p) m i =
    let x = answer_at t w (Promotable u e r y z p) m in
    adds_head (Called n a x) w.past (facts_if (has_facts x) (Enlisted e PromotableClass ∷ Init e ∷ [])) refl
    (adds_promotable (Called n a x ∷ w.past) e x
    (λ k. let d = done_behind (latest began_of w.past) (latest decision_of w.past) (promotable_answer (half w)) k in
    let free = unowned (rows w.past) (has_promotion (observe w.past)) (owns_alone (has is_sealed w.past) (may_own (rows w.past) (has_promotion (observe w.past))) (is_full (half w)) d.1) in
    unbegun w.past (unstarted w.past (or_first (has is_promoted w.past) (is_promoting (observe w.past)) free) (or_second (has is_promoted w.past) (is_promoting (observe w.past)) free) d.0 i.failed) i)
    (call_once w.past n a x i))
call_adds t w n a (Marshal u) m i =
    let x = answer_at t w (Marshal u) m in
    let h = Called n a x ∷ w.past in
    let next = call_once w.past n a x i in
    adds_head (Called n a x) w.past (facts_if (has_facts x) (if is_promoting (half w).seen then [] else begin_promotion (half w) (Some MarshalCause))) refl
    (adds_facts h (has_facts x) (if is_promoting (half w).seen then [] else begin_promotion (half w) (Some MarshalCause)) next
    (λ k. let d = done_behind (latest began_of w.past) (latest decision_of w.past) (marshal_answer t (half w)) k in
    adds_if h (is_promoting (half w).seen) [] (begin_promotion (half w) (Some MarshalCause)) (λ b. adds_none h next)
    (λ b. adds_start h (half w) (Some MarshalCause) refl
    (unstarted w.past (marshal_waits (has is_promoted w.past) (has is_sealed w.past) (is_crowded (half w)) (identifier_of t) d.1) b d.0 i.failed) next)))
call_adds t w n a c m i =
    let x = answer_at t w c m in
    adds_head (Called n a x) w.past (facts_if (has_facts x) (facts_at t w c x)) refl
    (adds_calm false (Called n a x ∷ w.past) (facts_if (has_facts x) (facts_at t w c x)) (λ e. absurd cc) (calm_called t w c x refl refl) (call_once w.past n a x i))

-- A promotable promotes: it was asked to, and hadn't answered, so BEGIN wasn't sent.
adds_promote : (w : World) (e : EnlNo) (n : Note) → due_of (half w).seen e.value ≡ Some n → fits (Promotes true) n ≡ true → Once w.past → Adds w.past (promote_entries (half w) e true)
adds_promote w e n d f i =
    let h = w.past in
    let o = to_promote w e n d f in
    let began = i.asked o.asked in
    record {
      once = record { begun = λ t. began; asked = λ t. began; bare = λ t r. absurd cc; failed = i.failed };
      new = λ t. false_from_ne_true (has is_begin_sent h) (λ k. not_both (has_promotable h) o.stands (i.bare k o.new));
    }

-- So it is after each step.
adds_delivered : (t : ℕ) (w : World) (c : Conn) (d : Dir) (ms : List Message) → Once w.past → Adds w.past (delivered t w c d ms)
adds_delivered t w c d [] i =
    adds_head (Ended c d) w.past (ended_at w c d) refl
    (adds_calm false (Ended c d ∷ w.past) (ended_at w c d) (λ e. absurd cc) (calm_ended_at w c d) (one_once (Ended c d) w.past refl refl i))
adds_delivered t w c Up (m ∷ ms) i =
    adds_head (Got c Up m) w.past (core_got (identifier_of t) (core w) c m) refl
    (adds_calm false (Got c Up m ∷ w.past) (core_got (identifier_of t) (core w) c m) (λ e. absurd cc) (calm_core_got (identifier_of t) (core w) c m) (one_once (Got c Up m) w.past refl refl i))
adds_delivered t w c Down (m ∷ ms) i =
    adds_head (Got c Down m) w.past (local_got t (half w) c m) refl
    (adds_calm false (Got c Down m ∷ w.past) (local_got t (half w) c m) (λ e. absurd cc) (calm_local_got t (half w) c m (none_placed w.calls w.past)) (one_once (Got c Down m) w.past refl refl i))

step_adds : (G : ℕ → ActorNo → Call → Type 0) (t : ℕ) (w : World) (m : Step) → MayCome G t w m → Once w.past → Adds w.past (block_at t w m)
unfolding block_at reply_entries observe
step_adds G t w (Calls n a c m) q i = call_adds t w n a c m i
step_adds G t w (Replies e (Promotes true)) q i = adds_promote w e q.0 q.1 q.2 i
step_adds G t w (Replies e (Promotes false)) q i = adds_calm false w.past (reply_entries (half w) e (Promotes false)) (λ e. absurd cc) (calm_reply (half w) e (Promotes false) refl) i
step_adds G t w (Replies e (VoteReply v)) q i = adds_calm false w.past (reply_entries (half w) e (VoteReply v)) (λ e. absurd cc) (calm_reply (half w) e (VoteReply v) refl) i
step_adds G t w (Replies e (OwnerReply x)) q i = adds_calm false w.past (reply_entries (half w) e (OwnerReply x)) (λ e. absurd cc) (calm_reply (half w) e (OwnerReply x) refl) i
step_adds G t w (Replies e Ack) q i = adds_calm false w.past (reply_entries (half w) e Ack) (λ e. absurd cc) (calm_reply (half w) e Ack refl) i
step_adds G t w Acts q i = adds_calm (starts w.past) w.past (act_entries (half w)) (λ k. k) (calm_act (half w)) i
step_adds G t w (Coordinates a) q i = adds_calm false w.past (coordinates (core w) a) (λ e. absurd cc) (calm_coordinates (core w) a) i
step_adds G t w (Delivers c d) q i = adds_delivered t w c d (in_transit c d w.past) i
step_adds G t w Stops q i = adds_calm false w.past (Stopped ∷ []) (λ e. absurd cc) (calm_one Stopped refl refl) i
step_adds G t w (Restarts found) q i = adds_calm false w.past (restarted (core w).stopped found) (λ e. absurd cc) (calm_restarted (core w).stopped found) i

ran_once : (G : ℕ → ActorNo → Call → Type 0) (t : ℕ) (ms : List Step) (w : World) → Ran G t ms w → Once w.past
unfolding after
ran_once G t [] w r = subst Once (sym r.1) (record { begun = λ t. absurd cc; asked = λ t. absurd cc; bare = λ t n. refl; failed = λ t. absurd cc })
ran_once G t (m ∷ ms) w r = subst (λ (x : World). Once x.past) (sym r.3) (step_adds G t r.0 m r.2 (ran_once G t ms r.0 r.1)).once

-- where a step that may come sends BEGIN, it wasn't sent
pub begin_new : (G : ℕ → ActorNo → Call → Type 0) (t : ℕ) (w : World) (m : Step) → IsRun G t w → MayCome G t w m → has is_begin_sent (block_at t w m) ≡ true → has is_begin_sent w.past ≡ false
begin_new G t w m r q b = (step_adds G t w m q (ran_once G t r.0 w r.1)).new b
