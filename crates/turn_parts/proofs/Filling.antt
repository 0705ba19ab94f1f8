-- Which blocks say that the log is full: that of an append which found it so alone.
use Rattle.std.proofs.Common.{◌≡◌, ℕ, Bool, true, false, not, List, [], ◌∷◌, is_some, refl, ap}
use Rattle.dtx_values.specs.Lines.{has_line}
use Rattle.dtx_values.specs.declared.entry.Ask.TheVariants.{Promote, Single}
use Rattle.dtx_values.specs.declared.entry.Entry.{Entry}
use Rattle.dtx_values.specs.declared.entry.Entry.TheVariants.{Asked, Called, Cut, Down as Ended, Freed, Got, LogFull, Logged, Recovered, Restarted, Sealed, Sent, Stopped}
use Rattle.dtx_values.specs.declared.message.Conn.{Conn}
use Rattle.dtx_values.specs.declared.message.Conn.TheVariants.{Begin}
use Rattle.dtx_values.specs.declared.message.Dir.{Dir}
use Rattle.dtx_values.specs.declared.message.Dir.TheVariants.{Down, Up}
use Rattle.dtx_values.specs.declared.message.Message.{Message}
use Rattle.dtx_model.specs.Arrivals.{local_got}
use Rattle.dtx_model.specs.Coordinated.{Coordinated, commit_sends, follow, may_log}
use Rattle.dtx_model.specs.Half.{Half, sees}
use Rattle.dtx_model.specs.Promotes.{identifier_of}
use Rattle.dtx_model.specs.Steps.{LogAnswer, Done, Full, StoppedNow, StoppedBefore, Step, Calls, Replies, Acts, Coordinates, Delivers, Stops, Restarts, block_at, coordinates, delivered, ended_at, got_by}
use Rattle.dtx_model.specs.Wires.{in_transit}
use Rattle.dtx_model.specs.Words.{each, has}
use Rattle.dtx_model.specs.World.{World, answer_at, core, half}
use Rattle.dtx_model.proofs.Blocks.{of_arrived, of_called, of_commit_sends, of_core_down, of_core_got, of_local_down, of_reply, of_restarted, of_whole_act}
use Rattle.dtx_model.proofs.Bools.{and_left, and_right, not_true, or_false}
use Rattle.dtx_model.proofs.Writes.{ByAct, ByCall, ByMessage, ByReply, Each, IsClosed, Source, e_cons, e_if, e_one, each_closed, is_outcome_message, writes}
use Rattle.script_histories.specs.LogQuiet.{is_log_full}

-- the entry doesn't say that the log is full
abbrev is_unfilled : Entry → Bool
is_unfilled x = not (is_log_full x)

unfilled : IsClosed (λ ws es. Each is_unfilled es)
unfilled = each_closed is_unfilled refl (λ x. refl) (λ n x. refl) refl refl

unfilled_entry : (s : Source) (x : Entry) → writes s x ≡ true → Each is_unfilled (x ∷ [])
unfilled_entry s x t = e_one x (passes x t)
  where
    passes : (x : Entry) → writes s x ≡ true → is_unfilled x ≡ true
    passes LogFull t = absurd cc
    passes _ t = refl

-- What comes on a connection
unfilled_sent : (c : Conn) (m : Message) → has_line c Down m ≡ true → is_outcome_message m ≡ true → Each is_unfilled (Sent c Down m ∷ [])
unfilled_sent c m l o = e_one (Sent c Down m) refl

unfilled_local : (t : ℕ) (h : Half) (c : Conn) (m : Message) → Each is_unfilled (local_got t h c m)
unfolding local_got
unfilled_local t h c m = let g = sees h (Got c Down m) in of_arrived unfilled t g c m (unfilled_entry (ByMessage g.waits c m))

unfilled_got : (t : ℕ) (w : World) (c : Conn) (d : Dir) (m : Message) → Each is_unfilled (got_by t w c d m)
unfilled_got t w c Up m = of_core_got (unfilled.lists []) (identifier_of t) (core w) c m (λ d n l a. e_one (Sent d Down n) refl)
unfilled_got t w c Down m = unfilled_local t (half w) c m

unfilled_ended : (w : World) (c : Conn) (d : Dir) → Each is_unfilled (ended_at w c d)
unfilled_ended w c Up = of_core_down (unfilled.lists []) (core w) c unfilled_sent
unfilled_ended w c Down = of_local_down unfilled (half w) c

unfilled_delivered : (t : ℕ) (w : World) (c : Conn) (d : Dir) (ms : List Message) → Each is_unfilled (delivered t w c d ms)
unfilled_delivered t w c d [] = e_cons (Ended c d) refl (unfilled_ended w c d)
unfilled_delivered t w c d (m ∷ ms) = e_cons (Got c d m) refl (unfilled_got t w c d m)

-- The coordinator's act at the log, where that isn't full
unfilled_commit : (k : Coordinated) → Each is_unfilled (commit_sends k)
unfilled_commit k = of_commit_sends (unfilled.lists []) k unfilled_sent

unfilled_coordinates : (k : Coordinated) (a : LogAnswer) → (a ≡ Full → ⊥) → Each is_unfilled (coordinates k a)
unfilled_coordinates k Done n = e_if (may_log k) (e_cons Logged refl (unfilled_commit (follow k Logged))) (e_one Freed refl)
unfilled_coordinates k Full n = absurd (n refl)
unfilled_coordinates k StoppedNow n = e_if (may_log k) (e_one Stopped refl) (e_one Stopped refl)
unfilled_coordinates k StoppedBefore n = e_if (may_log k) (e_one Stopped refl) (e_one Stopped refl)

-- The block of each other step.
unfilled_step : (t : ℕ) (w : World) (m : Step) → (m ≡ Coordinates Full → ⊥) → Each is_unfilled (block_at t w m)
unfolding block_at
unfilled_step t w (Calls n a c k) f =
    e_cons (Called n a (answer_at t w c k)) refl
    (of_called unfilled t w c (answer_at t w c k) (unfilled_entry (ByCall c)) (λ d i m. e_one (Cut d i m) refl) (λ r. e_one (Recovered r) refl))
unfilled_step t w (Replies e r) f = of_reply unfilled (half w) e r (unfilled_entry (ByReply r))
unfilled_step t w Acts f =
    of_whole_act unfilled (half w) (unfilled_entry (ByAct (is_some (half w).seen.decided))) (λ e. e_one (Asked e Promote) refl) (λ e. e_one (Asked e Single) refl) (e_one Sealed refl)
    (λ m c. e_one (Sent Begin Up m) refl)
unfilled_step t w (Coordinates a) f = unfilled_coordinates (core w) a (λ e. f (ap Coordinates e))
unfilled_step t w (Delivers c d) f = unfilled_delivered t w c d (in_transit c d w.past)
unfilled_step t w Stops f = e_one Stopped refl
unfilled_step t w (Restarts found) f = of_restarted (unfilled.lists []) (core w).stopped found (e_one Stopped refl) (e_one (Restarted found) refl)

none_full : (es : List Entry) → each is_unfilled es ≡ true → has is_log_full es ≡ false
none_full [] k = refl
none_full (x ∷ es) k = or_false (is_log_full x) (has is_log_full es) (not_true (is_log_full x) (and_left (is_unfilled x) (each is_unfilled es) k)) (none_full es (and_right (is_unfilled x) (each is_unfilled es) k))

-- A step that didn't find the log full writes nothing of that,
pub unfilled_block : (t : ℕ) (w : World) (m : Step) → (m ≡ Coordinates Full → ⊥) → has is_log_full (block_at t w m) ≡ false
unfilled_block t w m f = none_full (block_at t w m) (unfilled_step t w m f).proof

-- nor do the messages of a commit.
pub unfilled_commits : (k : Coordinated) → has is_log_full (commit_sends k) ≡ false
unfilled_commits k = none_full (commit_sends k) (unfilled_commit k).proof
