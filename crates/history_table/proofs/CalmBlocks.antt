-- The blocks of steps, by what they do to who comes to the coordinator: all but those of a seal, of a call that may wait, and of the arrivals of CREATED and ENLISTED are calm,
-- or decide.
use Rattle.std.proofs.Common.{◌≡◌, ℕ, Bool, true, false, ◌&&◌, ◌||◌, not, List, [], ◌∷◌, ◌++◌, None, is_some, refl, ◌==◌, ◌⊎◌, inl, inr}
use Rattle.dtx_values.specs.declared.call.Call.{Call}
use Rattle.dtx_values.specs.declared.entry.Answer.{Answer}
use Rattle.dtx_values.specs.declared.entry.Ask.TheVariants.{Promote, Single as AskSingle}
use Rattle.dtx_values.specs.declared.entry.Entry.{Entry}
use Rattle.dtx_values.specs.declared.entry.Entry.TheVariants.{Called, Asked, Sealed, Promoting, Promoted, Sent, Logged, LogFull, Freed, Stopped, Restarted, Recovered as RecoveredEntry, Cut}
use Rattle.dtx_values.specs.declared.message.Conn.{Conn}
use Rattle.dtx_values.specs.declared.message.Conn.TheVariants.{Begin, Voter}
use Rattle.dtx_values.specs.declared.message.Dir.{Dir}
use Rattle.dtx_values.specs.declared.message.Dir.TheVariants.{Up, Down}
use Rattle.dtx_values.specs.declared.message.Message.{Message}
use Rattle.dtx_values.specs.declared.message.Message.TheVariants.{BeginAbort, VoterNo}
use Rattle.dtx_values.specs.declared.note.Reply.{Reply}
use Rattle.dtx_values.specs.declared.number.EnlNo.{EnlNo}
use Rattle.dtx_model.specs.Waiting.{Waiter}
use Rattle.dtx_model.specs.Words.{each, has}
use Rattle.dtx_model.specs.Observed.{Observed}
use Rattle.dtx_model.specs.Coordinated.{Coordinated, core_got}
use Rattle.dtx_model.specs.Half.{Half}
use Rattle.dtx_model.specs.Arrivals.{arrived}
use Rattle.dtx_model.specs.Acts.{under_way, commit_sent, act_entries}
use Rattle.dtx_model.specs.Replies.{reply_entries}
use Rattle.dtx_model.specs.Facts.{facts_if, has_facts}
use Rattle.dtx_model.specs.World.{World, half, core, facts_at}
use Rattle.dtx_model.specs.Steps.{LogAnswer, coordinates, ended_at, restarted}
use Rattle.dtx_model.specs.Entries.{is_decision}
use Rattle.dtx_model.proofs.Bools.{and_left, and_right, not_both, or_first, or_second}
use Rattle.dtx_model.proofs.Writes.{Each, e_join, e_one, IsClosed, each_closed, Source, ByCall, ByReply, ByMessage, ByAct, is_making, may_begin, is_giving, enlists, gives, begins, sends, writes, is_outcome_message}
use Rattle.dtx_model.proofs.Blocks.{of_core_got, of_core_down, of_coordinates, of_restarted, of_local_down, of_arrived, of_commit_sent, of_act, of_reply, of_called}
use Rattle.dtx_values.specs.Lines.{has_line}
use Rattle.history_table.proofs.Messages.{ENLIST}
use Rattle.history_table.proofs.DecidingBlocks.{Keeps, is_kept, kept, kept_entry, kept_one, rest_join}
use Rattle.history_table.proofs.PlainBlocks.{plain_commit, plain_up}

-- the entry is no call, begins or ends no promotion well, is no seal, and sends no ENLIST
abbrev pub is_slow : Entry → Bool
is_slow (Called n a x) = false
is_slow (Promoting c) = false
is_slow (Promoted u c) = false
is_slow Sealed = false
is_slow (Sent c Up m) = not (ENLIST m)
is_slow _ = true

abbrev pub is_calm : Entry → Bool
is_calm x = is_slow x && is_kept x

-- entries that are calm, or of which one decides
pub record Calm (es : List Entry) : Type 0 where
  pub slow : each is_slow es ≡ true
  pub rest : (has is_decision es || each is_kept es) ≡ true

both_calm : {ws : List Waiter} {es : List Entry} → Each is_slow es → Keeps ws es → Calm es
both_calm s k = record { slow = s.proof; rest = k.proof }

calm_join : (x y : List Entry) → Calm x → Calm y → Calm (x ++ y)
calm_join x y p q =
    let slow = e_join {x = x} {y = y} (record { proof = p.slow }) (record { proof = q.slow }) in
    record { slow = slow.proof; rest = rest_join x y p.rest q.rest }

pub calm_one : (x : Entry) → is_calm x ≡ true → Calm (x ∷ [])
calm_one x p = both_calm (e_one x (and_left (is_slow x) (is_kept x) p)) (kept_one {ws = []} x (and_right (is_slow x) (is_kept x) p))

pub calm_cons : (x : Entry) {es : List Entry} → is_calm x ≡ true → Calm es → Calm (x ∷ es)
calm_cons x {es} p c = calm_join (x ∷ []) es (calm_one x p) c

slowly : IsClosed (λ ws es. Each is_slow es)
slowly = each_closed is_slow refl (λ x. refl) (λ n x. refl) refl refl

calm : IsClosed (λ ws es. Calm es)
calm =
    record {
      lists = λ ws. record { none = record { slow = refl; rest = refl }; join = calm_join };
      decides = λ h x. both_calm (slowly.decides h x) (kept.decides h x);
      abort = λ ws. calm_one (Sent Begin Up BeginAbort) refl;
      no = λ ws. calm_one (Sent Voter Up VoterNo) refl;
    }

-- so are the entries of blocks that give no place, make no enlistment and begin no promotion
calm_entry : (s : Source) → enlists s ≡ false → gives s ≡ false → begins s ≡ false → (x : Entry) → writes s x ≡ true → Calm (x ∷ [])
calm_entry s n g b x t = both_calm (e_one x (passes x t)) (kept_entry {ws = []} s g x t)
  where
    passes : (x : Entry) → writes s x ≡ true → is_slow x ≡ true
    passes (Called i a x) t = absurd cc
    passes (Promoting c) t = absurd (not_both (begins s) t b)
    passes (Promoted u c) t = absurd (not_both (gives s) t g)
    passes Sealed t = absurd cc
    passes (Sent c Up m) t = plain_up s n m (and_right (has_line c Up m) (sends s m) t)
    passes _ t = refl

calm_sent : (c : Conn) (m : Message) → has_line c Down m ≡ true → is_outcome_message m ≡ true → Calm (Sent c Down m ∷ [])
calm_sent c m l o = calm_one (Sent c Down m) refl

pub calm_core_got : (id : ℕ) (k : Coordinated) (c : Conn) (m : Message) → Calm (core_got id k c m)
calm_core_got id k c m = of_core_got (calm.lists []) id k c m (λ d n l a. calm_one (Sent d Down n) refl)

pub calm_arrived : (t : ℕ) (h : Half) (c : Conn) (m : Message) → is_giving c m ≡ false → Calm (arrived t h c m)
calm_arrived t h c m g = of_arrived calm t h c m (calm_entry (ByMessage h.waits c m) g g refl)

pub calm_ended_at : (w : World) (c : Conn) (d : Dir) → Calm (ended_at w c d)
calm_ended_at w c Up = of_core_down (calm.lists []) (core w) c calm_sent
calm_ended_at w c Down = of_local_down calm (half w) c

pub calm_commit_sent : (o : Observed) → Calm (commit_sent o)
calm_commit_sent o = of_commit_sent calm [] o (λ m c. both_calm (e_one (Sent Begin Up m) (plain_commit m c)) (kept_one {ws = []} (Sent Begin Up m) refl))

-- the block seals, where nothing is under way and nothing decided
abbrev pub Seals : Half → List Entry → Type 0
Seals h es = ((under_way h == 0) ≡ true) × (h.seen.decided ≡ None) × (es ≡ (Sealed ∷ commit_sent h.seen))

-- the local act is calm, or seals
pub act_kind : (h : Half) → Calm (act_entries h) ⊎ Seals h (act_entries h)
act_kind h =
    of_act calm (λ es. Calm es ⊎ Seals h es) h (calm_entry (ByAct (is_some h.seen.decided)) refl refl refl)
    (record {
      rest = λ es q. inl q;
      promote = λ e d w s. inl (calm_one (Asked e Promote) refl);
      single = λ e d s p q. inl (calm_one (Asked e AskSingle) refl);
      seal = λ d s u. inr (u, d, refl);
    })

pub calm_reply : (h : Half) (e : EnlNo) (r : Reply) → Calm (reply_entries h e r)
calm_reply h e r = of_reply calm h e r (calm_entry (ByReply r) refl refl refl)

-- the call makes an enlistment, or may wait
abbrev pub makes_or_waits : Call → Bool
makes_or_waits c = is_making c || may_begin c

-- what stands after a call that makes nothing
pub calm_called : (t : ℕ) (w : World) (c : Call) (a : Answer) → makes_or_waits c ≡ false → Calm (facts_if (has_facts a) (facts_at t w c a))
calm_called t w c a g =
    of_called calm t w c a (calm_entry (ByCall c) (or_first (is_making c) (may_begin c) g) refl (or_second (is_making c) (may_begin c) g)) (λ d n m. calm_one (Cut d n m) refl)
    (λ r. calm_one (RecoveredEntry r) refl)

pub calm_coordinates : (k : Coordinated) (a : LogAnswer) → Calm (coordinates k a)
calm_coordinates k a = of_coordinates (calm.lists []) k a calm_sent (calm_one Logged refl) (calm_one LogFull refl) (calm_one Freed refl) (calm_one Stopped refl)

pub calm_restarted : (b found : Bool) → Calm (restarted b found)
calm_restarted b found = of_restarted (calm.lists []) b found (calm_one Stopped refl) (calm_one (Restarted found) refl)
