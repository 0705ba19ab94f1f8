-- In each world that steps made, where the local side got the coordinator's doubt, something is decided.
use Rattle.std.proofs.Common.{◌≡◌, ℕ, Bool, true, false, List, [], ◌∷◌, refl, ◌∙◌, sym, subst}
use Rattle.std.specs.Prelude.{is_some, if◌then◌else◌}
use Rattle.std.proofs.lemmas.Bool.{or_left}
use Rattle.dtx_values.specs.declared.entry.Entry.{Entry}
use Rattle.dtx_values.specs.declared.entry.Entry.TheVariants.{Called, Down as Ended, Got, Stopped}
use Rattle.dtx_values.specs.declared.message.Conn.{Conn}
use Rattle.dtx_values.specs.declared.message.Conn.TheVariants.{Begin, Voter, Enl, Again}
use Rattle.dtx_values.specs.declared.message.Dir.{Dir}
use Rattle.dtx_values.specs.declared.message.Dir.TheVariants.{Up, Down}
use Rattle.dtx_values.specs.declared.message.Message.{Message}
use Rattle.dtx_values.specs.declared.message.Message.TheVariants.{BeginInDoubt, VoterInDoubt}
use Rattle.dtx_values.specs.declared.number.ActorNo.{ActorNo}
use Rattle.dtx_values.specs.declared.call.Call.{Call}
use Rattle.dtx_values.specs.declared.words.Outcome.TheVariants.{InDoubt}
use Rattle.dtx_model.specs.Words.{has, latest, onto}
use Rattle.dtx_model.specs.Entries.{decision_of, is_decision}
use Rattle.dtx_model.specs.Observed.{observe, track}
use Rattle.dtx_model.specs.Coordinated.{may_log}
use Rattle.dtx_model.specs.Half.{Half, decide, sees}
use Rattle.dtx_model.specs.Arrivals.{local_got}
use Rattle.dtx_model.specs.Acts.{act_entries}
use Rattle.dtx_model.specs.Wires.{in_transit}
use Rattle.dtx_model.specs.Facts.{facts_if, has_facts}
use Rattle.dtx_model.specs.Replies.{reply_entries}
use Rattle.dtx_model.specs.World.{World, answer_at, core, facts_at, half}
use Rattle.dtx_model.specs.Steps.{Step, Calls, Replies, Acts, Coordinates, Delivers, Stops, Restarts, after, block_at, coordinates, delivered, ended_at, got_by, restarted}
use Rattle.dtx_model.specs.Caused.{Ran}
use Rattle.dtx_model.proofs.Bools.{not_both, or_case, or_right}
use Rattle.dtx_model.proofs.Quiet.{Quiet, is_quiet, q_act, q_appended, q_called, q_ended_at, q_freed, q_got_by, q_head, q_if, q_one, q_reply, q_restarted, q_tail}
use Rattle.dtx_model.proofs.Reading.{has-onto}
use Rattle.history_table.proofs.Owned.{decision_seen}
use Rattle.settled_histories.proofs.Ending.{decide_decides}

-- the coordinator's doubt was got, on b or on v
abbrev pub is_doubt_got : Entry → Bool
is_doubt_got (Got Begin Down BeginInDoubt) = true
is_doubt_got (Got Voter Down VoterInDoubt) = true
is_doubt_got _ = false

abbrev pub IsHeard : List Entry → Type 0
IsHeard h = has is_doubt_got h ≡ true → has is_decision h ≡ true

-- nothing is got in a quiet block
quiet_ungot : (x : Entry) → is_quiet x ≡ true → is_doubt_got x ≡ false
quiet_ungot (Got c d m) q = absurd cc
quiet_ungot _ q = refl

quiet_heard : (past es : List Entry) → Quiet es → IsHeard past → IsHeard (onto past es)
quiet_heard past [] q p = p
quiet_heard past (x ∷ es) q p = quiet_heard (x ∷ past) es (q_tail x es q) (more x (quiet_ungot x (q_head x es q)))
  where
    more : (x : Entry) → is_doubt_got x ≡ false → IsHeard (x ∷ past)
    more x n t = or_right (is_decision x) (has is_decision past) (p (or_case (is_doubt_got x) (has is_doubt_got past) (λ a. absurd (not_both (is_doubt_got x) a n)) (λ a. a) t))

head_heard : (x : Entry) (past es : List Entry) → is_doubt_got x ≡ false → Quiet es → IsHeard past → IsHeard (onto (x ∷ past) es)
head_heard x past es n q p =
    quiet_heard (x ∷ past) es q
    (λ t. or_right (is_decision x) (has is_decision past) (p (or_case (is_doubt_got x) (has is_doubt_got past) (λ a. absurd (not_both (is_doubt_got x) a n)) (λ a. a) t)))

-- where it comes, it is decided, unless it was
doubted : (x : Entry) (past : List Entry) (v : Half) (b : Bool) → b ≡ has is_decision past → IsHeard (onto (x ∷ past) (if b then [] else decide v InDoubt))
doubted x past v true q t = or_right (is_decision x) (has is_decision past) (sym q)
doubted x past v false q t =
    has-onto is_decision (x ∷ past) (decide v InDoubt) ∙ or_left (has is_decision (decide v InDoubt)) (has is_decision (x ∷ past)) (decide_decides v InDoubt)

down_heard : (t : ℕ) (w : World) (c : Conn) (m : Message) → IsHeard w.past → IsHeard (onto (Got c Down m ∷ w.past) (got_by t w c Down m))
unfolding local_got observe track
down_heard t w Begin BeginInDoubt p = doubted (Got Begin Down BeginInDoubt) w.past (sees (half w) (Got Begin Down BeginInDoubt)) (is_some (latest decision_of w.past)) (decision_seen w.past)
down_heard t w Voter VoterInDoubt p = doubted (Got Voter Down VoterInDoubt) w.past (sees (half w) (Got Voter Down VoterInDoubt)) (is_some (latest decision_of w.past)) (decision_seen w.past)
down_heard t w c m p = head_heard (Got c Down m) w.past (got_by t w c Down m) refl (q_got_by t w c Down m) p

delivered_heard : (t : ℕ) (w : World) (c : Conn) (d : Dir) (ms : List Message) → IsHeard w.past → IsHeard (onto w.past (delivered t w c d ms))
delivered_heard t w c d [] p = head_heard (Ended c d) w.past (ended_at w c d) refl (q_ended_at w c d) p
delivered_heard t w c Up (m ∷ ms) p = head_heard (Got c Up m) w.past (got_by t w c Up m) (up c m) (q_got_by t w c Up m) p
  where
    up : (c : Conn) (m : Message) → is_doubt_got (Got c Up m) ≡ false
    up Begin m = refl
    up Voter m = refl
    up (Enl e) m = refl
    up (Again e) m = refl
delivered_heard t w c Down (m ∷ ms) p = down_heard t w c m p

step_heard : (t : ℕ) (w : World) (m : Step) → IsHeard w.past → IsHeard (after t w m).past
unfolding after block_at
step_heard t w (Calls n a c m) p =
    head_heard (Called n a (answer_at t w c m)) w.past (facts_if (has_facts (answer_at t w c m)) (facts_at t w c (answer_at t w c m))) refl (q_called t w c (answer_at t w c m)) p
step_heard t w (Replies e x) p = quiet_heard w.past (reply_entries (half w) e x) (q_reply (half w) e x) p
step_heard t w Acts p = quiet_heard w.past (act_entries (half w)) (q_act (half w)) p
step_heard t w (Coordinates x) p = quiet_heard w.past (coordinates (core w) x) (q_if (may_log (core w)) (q_appended (core w) x) (q_freed x)) p
step_heard t w (Delivers c d) p = delivered_heard t w c d (in_transit c d w.past) p
step_heard t w Stops p = quiet_heard w.past (Stopped ∷ []) (q_one Stopped refl) p
step_heard t w (Restarts found) p = quiet_heard w.past (restarted (core w).stopped found) (q_restarted (core w).stopped found) p

-- so in each world that steps made
pub ran_heard : (G : ℕ → ActorNo → Call → Type 0) (t : ℕ) (ms : List Step) (w : World) → Ran G t ms w → IsHeard w.past
unfolding after
ran_heard G t [] w r = subst IsHeard (sym r.1) (λ t. absurd cc)
ran_heard G t (m ∷ ms) w r = subst (λ (x : World). IsHeard x.past) (sym r.3) (step_heard t r.0 m (ran_heard G t ms r.0 r.1))
