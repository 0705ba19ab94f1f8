-- Which blocks seal, and ask a promotable to promote or for its single phase: the local act alone, and one of these at a time.
use Rattle.std.proofs.Common.{◌≡◌, true, refl, [], ◌∷◌, ℕ, List, Some, None, ◌==◌, ◌⊎◌, inl, inr, is_some}
use Rattle.dtx_values.specs.declared.call.Call.{Call}
use Rattle.dtx_values.specs.declared.entry.Answer.{Answer}
use Rattle.dtx_values.specs.declared.entry.Ask.TheVariants.{Promote, Single as AskSingle}
use Rattle.dtx_values.specs.declared.entry.Entry.{Entry}
use Rattle.dtx_values.specs.declared.entry.Entry.TheVariants.{Asked, Sealed, Got, Restarted, Sent, Recovered as RecoveredEntry, Cut}
use Rattle.dtx_values.specs.declared.message.Conn.{Conn}
use Rattle.dtx_values.specs.declared.message.Conn.TheVariants.{Begin}
use Rattle.dtx_values.specs.declared.message.Dir.{Dir}
use Rattle.dtx_values.specs.declared.message.Dir.TheVariants.{Down, Up}
use Rattle.dtx_values.specs.declared.message.Message.{Message}
use Rattle.dtx_values.specs.declared.note.Reply.{Reply}
use Rattle.dtx_values.specs.declared.number.EnlNo.{EnlNo}
use Rattle.dtx_model.specs.Observed.{Observed}
use Rattle.dtx_model.specs.Coordinated.{Coordinated, core_got}
use Rattle.dtx_model.specs.Half.{Half, sees, is_promoting}
use Rattle.dtx_model.specs.Arrivals.{local_got}
use Rattle.dtx_model.specs.Acts.{commit_sent, promotable_in, under_way, act_entries}
use Rattle.dtx_model.specs.Replies.{reply_entries}
use Rattle.dtx_model.specs.Facts.{facts_if, has_facts}
use Rattle.dtx_model.specs.World.{World, half, core, facts_at}
use Rattle.dtx_model.specs.Steps.{ended_at}
use Rattle.dtx_model.proofs.Writes.{Source, writes, e_one, ByMessage, ByReply, ByCall, ByAct}
use Rattle.dtx_model.proofs.Blocks.{of_core_got, of_arrived, of_core_down, of_local_down, of_reply, of_called, of_commit_sent, of_act}
use Rattle.history_table.proofs.QuietBlocks.{is_quiet, Quiet, quiet, quiet_sent}

quiet_entry : (s : Source) (x : Entry) → writes s x ≡ true → is_quiet x ≡ true
quiet_entry s (Got c d m) t = absurd cc
quiet_entry s (Restarted found) t = absurd cc
quiet_entry s Sealed t = absurd cc
quiet_entry s (Asked e Promote) t = absurd cc
quiet_entry s (Asked e AskSingle) t = absurd cc
quiet_entry s _ t = refl

quiet_one : (s : Source) (x : Entry) → writes s x ≡ true → Quiet (x ∷ [])
quiet_one s x t = e_one x (quiet_entry s x t)

-- a delivery
pub q_core_got : (id : ℕ) (k : Coordinated) (c : Conn) (m : Message) → Quiet (core_got id k c m)
q_core_got id k c m = of_core_got (quiet.lists []) id k c m (λ d n l a. e_one (Sent d Down n) refl)

pub q_local_got : (t : ℕ) (h : Half) (c : Conn) (m : Message) → Quiet (local_got t h c m)
unfolding local_got
q_local_got t h c m = let g = sees h (Got c Down m) in of_arrived quiet t g c m (quiet_one (ByMessage g.waits c m))

pub q_ended_at : (w : World) (c : Conn) (d : Dir) → Quiet (ended_at w c d)
q_ended_at w c Up = of_core_down (quiet.lists []) (core w) c quiet_sent
q_ended_at w c Down = of_local_down quiet (half w) c

-- replies and calls, and the coordinator's act
pub q_reply : (h : Half) (e : EnlNo) (r : Reply) → Quiet (reply_entries h e r)
q_reply h e r = of_reply quiet h e r (quiet_one (ByReply r))

pub q_called : (t : ℕ) (w : World) (c : Call) (a : Answer) → Quiet (facts_if (has_facts a) (facts_at t w c a))
q_called t w c a = of_called quiet t w c a (quiet_one (ByCall c)) (λ d n m. e_one (Cut d n m) refl) (λ r. e_one (RecoveredEntry r) refl)

pub q_commit_sent : (o : Observed) → Quiet (commit_sent o)
q_commit_sent o = of_commit_sent quiet [] o (λ m t. e_one (Sent Begin Up m) refl)

-- the block asks the promotable to promote
pub record Promotes (h : Half) (es : List Entry) : Type 0 where
  pub who : EnlNo
  pub undecided : h.seen.decided ≡ None
  pub way : is_promoting h.seen ≡ true
  pub stands : promotable_in h.seen.table ≡ Some who
  pub block : es ≡ (Asked who Promote ∷ [])

-- or for its single phase, which comes after the seal of what is promoted
pub record Singles (h : Half) (es : List Entry) : Type 0 where
  pub who : EnlNo
  pub undecided : h.seen.decided ≡ None
  pub sealed : h.seen.sealed ≡ true
  pub promoted : h.seen.promoted ≡ true
  pub stands : promotable_in h.seen.table ≡ Some who
  pub block : es ≡ (Asked who AskSingle ∷ [])

-- or it seals, where nothing is under way
pub record Seals (h : Half) (es : List Entry) : Type 0 where
  pub undecided : h.seen.decided ≡ None
  pub still : (under_way h == 0) ≡ true
  pub block : es ≡ (Sealed ∷ commit_sent h.seen)

-- the local act is quiet, or has such a first entry
abbrev pub ActKind : Half → List Entry → Type 0
ActKind h es = Quiet es ⊎ (Promotes h es ⊎ (Singles h es ⊎ Seals h es))

pub act_kind : (h : Half) → ActKind h (act_entries h)
act_kind h =
    of_act quiet (λ es. ActKind h es) h (quiet_one (ByAct (is_some h.seen.decided)))
    (record {
      rest = λ es q. inl q;
      promote = λ e d w s. inr (inl (record { who = e; undecided = d; way = w; stands = s; block = refl }));
      single = λ e d s p q. inr (inr (inl (record { who = e; undecided = d; sealed = s; promoted = p; stands = q; block = refl })));
      seal = λ d s u. inr (inr (inr (record { undecided = d; still = u; block = refl })));
    })
