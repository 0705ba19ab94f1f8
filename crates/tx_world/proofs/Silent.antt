-- BEGIN is sent by a durable or marshal call and by a reply to promote, and by no other step.
use Rattle.std.proofs.Common.{◌≡◌, ℕ, Bool, true, false, ◌||◌, not, List, [], ◌∷◌, Option, Some, None, is_some, refl}
use Rattle.dtx_values.specs.declared.call.Call.{Call}
use Rattle.dtx_values.specs.declared.call.Call.TheVariants.{Durable, Marshal, Do}
use Rattle.dtx_values.specs.declared.entry.Ask.TheVariants.{Promote as AskPromote, Single as AskSingle}
use Rattle.dtx_values.specs.declared.entry.Entry.{Entry}
use Rattle.dtx_values.specs.declared.entry.Entry.TheVariants.{Asked, Called, Cut, Down as Ended, Got, Recovered as RecoveredEntry, Sealed, Sent}
use Rattle.dtx_values.specs.declared.message.Conn.{Conn}
use Rattle.dtx_values.specs.declared.message.Conn.TheVariants.{Begin}
use Rattle.dtx_values.specs.declared.message.Dir.TheVariants.{Up, Down}
use Rattle.dtx_values.specs.declared.message.Message.{Message}
use Rattle.dtx_values.specs.declared.message.Message.TheVariants.{BeginBegin}
use Rattle.dtx_values.specs.declared.note.Note.{Note}
use Rattle.dtx_values.specs.declared.note.Note.TheVariants.{Promote}
use Rattle.dtx_values.specs.declared.note.Reply.{Reply}
use Rattle.dtx_values.specs.declared.note.Reply.TheVariants.{Promote as Promotes}
use Rattle.dtx_values.specs.declared.number.ActorNo.{ActorNo}
use Rattle.dtx_values.specs.declared.number.EnlNo.{EnlNo}
use Rattle.dtx_model.specs.Acts.{act_entries}
use Rattle.dtx_model.specs.Arrivals.{local_got}
use Rattle.dtx_model.specs.Caused.{is_begin_sent}
use Rattle.dtx_model.specs.Entries.{is_commit_message}
use Rattle.dtx_model.specs.Half.{Half, sees}
use Rattle.dtx_model.specs.Replies.{reply_entries}
use Rattle.dtx_model.specs.Steps.{Calls, Replies, Acts, Delivers, block_at, delivered}
use Rattle.dtx_model.specs.Wires.{in_transit}
use Rattle.dtx_model.specs.Words.{each, has}
use Rattle.dtx_model.specs.World.{World, answer_at, half}
use Rattle.dtx_model.proofs.Bools.{and_left, and_right, not_both, not_true}
use Rattle.dtx_model.proofs.Blocks.{of_arrived, of_called, of_local_down, of_reply, of_whole_act}
use Rattle.dtx_model.proofs.Writes.{Each, e_cons, e_one, IsClosed, each_closed, Source, ByCall, ByReply, ByMessage, ByAct, may_begin, opens_begin, promotes, writes}
use Rattle.local_half.specs.Half.{fits_due}
use Rattle.tx_world.specs.OwnCalls.{is_alone}
use Rattle.tx_world.specs.State.{sends_begin}
use Rattle.tx_world.specs.Stepping.{is_to_promote}

-- the entry sends no BEGIN
abbrev is_silent : Entry → Bool
is_silent x = not (is_begin_sent x)

silent : IsClosed (λ ws es. Each is_silent es)
silent = each_closed is_silent refl (λ x. refl) (λ n x. refl) refl refl

silent_entry : (s : Source) → opens_begin s ≡ false → (x : Entry) → writes s x ≡ true → Each is_silent (x ∷ [])
silent_entry s o x t = e_one x (passes x t)
  where
    passes : (x : Entry) → writes s x ≡ true → is_silent x ≡ true
    passes (Sent Begin Up BeginBegin) t = absurd (not_both (opens_begin s) t o)
    passes (Sent c Down m) t = absurd cc
    passes _ t = refl

none_sent : (es : List Entry) → each is_silent es ≡ true → has is_begin_sent es ≡ false
none_sent [] e = refl
none_sent (x ∷ es) e =
    by (is_begin_sent x) (has is_begin_sent es) (not_true (is_begin_sent x) (and_left (is_silent x) (each is_silent es) e)) (none_sent es (and_right (is_silent x) (each is_silent es) e))
  where
    by : (a b : Bool) → a ≡ false → b ≡ false → (a || b) ≡ false
    by false b i j = j
    by true b i j = absurd cc

-- the local act: COMMIT of either name is no BEGIN
commit_silent : (m : Message) → is_commit_message m ≡ true → is_silent (Sent Begin Up m) ≡ true
commit_silent BeginBegin c = absurd cc
commit_silent _ c = refl

pub act_silent : (t : ℕ) (w : World) → sends_begin t w Acts ≡ false
unfolding block_at
act_silent t w =
    let h = half w in
    none_sent (act_entries h)
    (of_whole_act silent h (silent_entry (ByAct (is_some h.seen.decided)) refl) (λ e. e_one (Asked e AskPromote) refl) (λ e. e_one (Asked e AskSingle) refl) (e_one Sealed refl)
    (λ m c. e_one (Sent Begin Up m) (commit_silent m c))).proof

-- a delivery downward
got_silent : (t : ℕ) (h : Half) (c : Conn) (m : Message) → Each is_silent (local_got t h c m)
unfolding local_got
got_silent t h c m = let g = sees h (Got c Down m) in of_arrived silent t g c m (silent_entry (ByMessage g.waits c m) refl)

pub down_silent : (t : ℕ) (w : World) (c : Conn) → sends_begin t w (Delivers c Down) ≡ false
unfolding block_at
down_silent t w c = by (in_transit c Down w.past)
  where
    by : (ms : List Message) → has is_begin_sent (delivered t w c Down ms) ≡ false
    by [] = none_sent (delivered t w c Down []) (e_cons (Ended c Down) refl (of_local_down silent (half w) c)).proof
    by (m ∷ ms) = none_sent (delivered t w c Down (m ∷ ms)) (e_cons (Got c Down m) refl (got_silent t (half w) c m)).proof

-- a reply that doesn't promote
reply_silent : (t : ℕ) (w : World) (e : EnlNo) (r : Reply) → promotes r ≡ false → sends_begin t w (Replies e r) ≡ false
unfolding block_at
reply_silent t w e r n = none_sent (reply_entries (half w) e r) (of_reply silent (half w) e r (silent_entry (ByReply r) n)).proof

unpromoting : (o : Option Note) (r : Reply) → is_some o ≡ true → fits_due r o ≡ true → is_to_promote o ≡ false → promotes r ≡ false
unpromoting None r s f n = absurd cc
unpromoting (Some Promote) r s f n = absurd cc
unpromoting (Some k) (Promotes ok) s f n = absurd cc
unpromoting (Some k) r s f n = refl

pub due_silent : (t : ℕ) (w : World) (e : EnlNo) (r : Reply) (o : Option Note) → is_some o ≡ true → fits_due r o ≡ true → is_to_promote o ≡ false → sends_begin t w (Replies e r) ≡ false
due_silent t w e r o s f n = reply_silent t w e r (unpromoting o r s f n)

-- a call that is none of durable and marshal
pub call_silent : (t : ℕ) (w : World) (n : ℕ) (a : ActorNo) (c : Call) (m : ℕ) → may_begin c ≡ false → sends_begin t w (Calls n a c m) ≡ false
unfolding block_at
call_silent t w n a c m k =
    let x = answer_at t w c m in
    none_sent (block_at t w (Calls n a c m))
    (e_cons (Called n a x) refl (of_called silent t w c x (silent_entry (ByCall c) k) (λ d i j. e_one (Cut d i j) refl) (λ r. e_one (RecoveredEntry r) refl))).proof

pub alone_silent : (c : Call) → is_alone c ≡ true → may_begin c ≡ false
alone_silent (Durable t e r s) a = absurd cc
alone_silent (Marshal t) a = absurd cc
alone_silent (Do t k n) a = absurd cc
alone_silent _ a = refl
