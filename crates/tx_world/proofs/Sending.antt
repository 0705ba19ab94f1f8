-- A step of the local side that can't begin a promotion sends nothing, where none began.
use Rattle.std.proofs.Common.{◌≡◌, ◌≤◌, ◌+◌, ℕ, length, Bool, true, false, ◌||◌, not, List, [], ◌∷◌, is_some, refl, ap, sym, subst, ◌∙◌, arith}
use Rattle.dtx_values.specs.declared.call.Call.{Call}
use Rattle.dtx_values.specs.TxIds.{number_of}
use Rattle.dtx_values.specs.declared.tx_id.TxId.{TxId}
use Rattle.dtx_values.specs.declared.entry.Ask.TheVariants.{Promote, Single as AskSingle}
use Rattle.dtx_values.specs.declared.entry.Entry.{Entry}
use Rattle.dtx_values.specs.declared.entry.Entry.TheVariants.{Asked, Cut, Promoting, Recovered as RecoveredEntry, Sealed, Sent}
use Rattle.dtx_values.specs.declared.message.Conn.TheVariants.{Begin}
use Rattle.dtx_values.specs.declared.message.Dir.TheVariants.{Up}
use Rattle.dtx_values.specs.declared.note.Reply.{Reply}
use Rattle.dtx_values.specs.declared.number.ActorNo.{ActorNo}
use Rattle.dtx_values.specs.declared.number.EnlNo.{EnlNo}
use Rattle.dtx_model.specs.Words.{has}
use Rattle.dtx_model.specs.World.{World, answer_at, half}
use Rattle.dtx_model.specs.Steps.{Step, Acts, Calls, Replies, after, block_at}
use Rattle.dtx_model.specs.Caused.{IsIn, IsOwnRun, is_unpromoted}
use Rattle.dtx_model.proofs.Blocks.{of_called, of_reply, of_whole_act}
use Rattle.dtx_model.proofs.Bools.{not_both, not_false, not_true, or_first}
use Rattle.dtx_model.proofs.Local.{free-local, has-onto}
use Rattle.dtx_model.proofs.Unpromoted.{is_local}
use Rattle.dtx_model.proofs.Writes.{ByAct, ByCall, ByReply, Each, IsClosed, Source, begins, e_one, each_closed, writes}
use Rattle.local_half.specs.Half.{Follows, Known}
use Rattle.coordinator_core.specs.Kept.{Kept as CoreKept}
use Rattle.world_laws.specs.Course.{Course}
use Rattle.tx_world.specs.Kept.{Kept}
use Rattle.world_parts.specs.Sending.{MayWrite, is_sent, may_promote}
use Rattle.tx_world.proofs.Entering.{has_none}
use Rattle.tx_world.proofs.Onward.{half_is}
use Rattle.tx_world.proofs.Written.{Ready}
use Rattle.dtx_model.specs.Promotes.{is_promoting}

-- the entry begins no promotion
abbrev is_calm : Entry → Bool
is_calm (Promoting c) = false
is_calm _ = true

calm : IsClosed (λ ws es. Each is_calm es)
calm = each_closed is_calm refl (λ x. refl) (λ n x. refl) refl refl

calm_entry : (s : Source) → begins s ≡ false → (x : Entry) → writes s x ≡ true → Each is_calm (x ∷ [])
calm_entry s b x t = e_one x (passes x t)
  where
    passes : (x : Entry) → writes s x ≡ true → is_calm x ≡ true
    passes (Promoting c) t = absurd (not_both (begins s) t b)
    passes _ t = refl

unpromising : (x : Entry) → is_calm x ≡ true → is_promoting x ≡ false
unpromising (Promoting c) k = absurd cc
unpromising _ k = refl

none_begins : {es : List Entry} → Each is_calm es → has is_promoting es ≡ false
none_begins {es} k = has_none is_calm is_promoting unpromising es k.proof

-- the local act begins none, nor does a reply, nor a call but those that may
pub act_calm : (t : ℕ) (w : World) → has is_promoting (block_at t w Acts) ≡ false
unfolding block_at
act_calm t w =
    none_begins
    (of_whole_act calm (half w) (calm_entry (ByAct (is_some (half w).seen.decided)) refl) (λ e. e_one (Asked e Promote) refl) (λ e. e_one (Asked e AskSingle) refl) (e_one Sealed refl)
    (λ m c. e_one (Sent Begin Up m) refl))

pub reply_calm : (t : ℕ) (w : World) (e : EnlNo) (r : Reply) → has is_promoting (block_at t w (Replies e r)) ≡ false
unfolding block_at
reply_calm t w e r = none_begins (of_reply calm (half w) e r (calm_entry (ByReply r) refl))

begins_none : (c : Call) → may_promote c ≡ false → begins (ByCall c) ≡ false
begins_none c k = k

pub call_calm : (t : ℕ) (w : World) (n : ℕ) (a : ActorNo) (c : Call) (m : ℕ) → may_promote c ≡ false → has is_promoting (block_at t w (Calls n a c m)) ≡ false
unfolding block_at
call_calm t w n a c m k =
    let x = answer_at t w c m in
    none_begins (of_called calm t w c x (calm_entry (ByCall c) (begins_none c k)) (λ d i j. e_one (Cut d i j) refl) (λ r. e_one (RecoveredEntry r) refl))

-- a local entry sends nothing
local_unsent : (x : Entry) → is_local x ≡ true → is_sent x ≡ false
local_unsent (Sent c d m) k = absurd cc
local_unsent _ k = refl

-- A step that is ready, where no promotion began, and it begins none, sends nothing.
ready_unsent : {t : TxId} {w : World} {m : Step} {g : Known} {k : CoreKept} {p xs : List Entry} → Ready t w m g k p xs → has is_promoting (block_at (number_of t) w m) ≡ false → is_unpromoted w.past ≡ true
    → has is_sent xs ≡ false
unfolding after
ready_unsent {t} {w} {m} {g} {k} {p} {xs} r calm_block u =
    let v = after (number_of t) w m in
    let block = block_at (number_of t) w m in
    let none : has is_promoting v.past ≡ false = has-onto is_promoting w.past block ∙ ap (λ b. b || has is_promoting w.past) calm_block ∙ not_true (has is_promoting w.past) u in
    let local = free-local (IsIn v.calls) (number_of t) v.past (v.calls, r.kept.ran) (not_false (has is_promoting v.past) none) in
    let unsent = has_none is_local is_sent local_unsent v.past local in
    or_first (has is_sent xs) (has is_sent p) (sym (has-onto is_sent p xs) ∙ ap (has is_sent) r.past ∙ unsent)

-- what the local side knows of its world, it follows
follows_kept : (t : TxId) (w : World) (h : Known) (k : CoreKept) → Kept t w h k → Follows (number_of h.transaction) w h.half
follows_kept t w h k kept = record { ran = subst (λ (x : Known). IsOwnRun (number_of x.transaction) w) (sym kept.half) kept.ran; knows = sym (half_is t w h k kept) }

-- so it knows that no promotion began
pub unpromoted_there : {t : TxId} {w : World} {h : Known} {j : CoreKept} (u : Bool) → Kept t w h j → ((v : World) → Follows (number_of h.transaction) v h.half → u ≡ is_unpromoted v.past) → not u ≡ false
    → is_unpromoted w.past ≡ true
unpromoted_there {t} {w} {h} {j} u kept says n = sym (says w (follows_kept t w h j kept)) ∙ is_true u n
  where
    is_true : (u : Bool) → not u ≡ false → u ≡ true
    is_true true n = refl
    is_true false n = absurd cc

-- and then that it sends nothing
pub unsent_there : {t : TxId} {w : World} {m : Step} {h g : Known} {j k : CoreKept} {p xs : List Entry} (u : Bool) → Kept t w h j → Ready t w m g k p xs → has is_promoting (block_at (number_of t) w m) ≡ false
    → ((v : World) → Follows (number_of h.transaction) v h.half → u ≡ is_unpromoted v.past) → not u ≡ false → has is_sent xs ≡ false
unsent_there u kept r calm_block says n = ready_unsent r calm_block (unpromoted_there u kept says n)

-- there is room for what is sent, where it was made unless nothing is
pub room_where_sent : (made sent : Bool) (n room : ℕ) → (made ≡ false → sent ≡ false) → (made ≡ true → n ≤ room) → sent ≡ true → n ≤ room
room_where_sent true sent n room none has_room s = has_room refl
room_where_sent false sent n room none has_room s = absurd (not_both sent s (none refl))

-- there is room for few entries, or for many
pub room_where_few : (made : Bool) (n few many room : ℕ) → (made ≡ false → n ≤ few) → n ≤ many → (made ≡ true → many ≤ room) → few ≤ room → n ≤ room
room_where_few true n few many room is_few is_many has_many has_few = omega (arith, has_many refl)
room_where_few false n few many room is_few is_many has_many has_few = omega (arith, is_few refl)

-- So the block of a step of the local side may be written, where room was made for what it sends unless it sends nothing, and is short.
pub may_write_near : {t : TxId} {w : World} {m : Step} {g : Known} {k : CoreKept} {xs : List Entry} (made : Bool) (h : Course) → Ready t w m g k h.past xs → length xs ≤ 64
    → (made ≡ false → (has is_sent xs ≡ false) × (length xs ≤ 4)) → (made ≡ true → 66 ≤ h.room) × (6 ≤ h.room) → (made ≡ true → (64 ≤ h.start_room) × (64 ≤ h.send_room)) → MayWrite h xs k
may_write_near {xs = xs} made h r few short room sends = record {
  written = r.written;
  sendable = r.sendable;
  stopped = r.stopped;
  runs = r.runs;
  few = few;
  room = room_where_few made (length xs + 1) 5 65 h.room (λ n. let four = (short n).1 in omega arith) (omega arith) (λ s. let many = room.0 s in omega arith) (let six = room.1 in omega arith);
  starts = room_where_sent made (has is_sent xs) 64 h.start_room (λ n. (short n).0) (λ s. (sends s).0);
  sends = room_where_sent made (has is_sent xs) 64 h.send_room (λ n. (short n).0) (λ s. (sends s).1);
}
