-- Where the coordinator never stops no restart comes, and where no restart comes, what a restart finds is tied to what was appended, promoted or not.
use Rattle.std.proofs.Common.{◌≡◌, ℕ, Bool, true, false, List, [], ◌∷◌, inl, inr, refl, sym, subst, ◌∙◌}
use Rattle.dtx_values.specs.declared.call.Call.{Call}
use Rattle.dtx_values.specs.declared.entry.Entry.{Entry}
use Rattle.dtx_values.specs.declared.entry.Entry.TheVariants.{Called, Down as Ended, Got, Restarted, Sealed, Stopped}
use Rattle.dtx_values.specs.declared.message.Conn.{Conn}
use Rattle.dtx_values.specs.declared.message.Dir.{Dir}
use Rattle.dtx_values.specs.declared.message.Dir.TheVariants.{Up, Down}
use Rattle.dtx_values.specs.declared.message.Message.{Message}
use Rattle.dtx_values.specs.declared.number.ActorNo.{ActorNo}
use Rattle.dtx_model.specs.Words.{each, has, onto}
use Rattle.dtx_model.specs.AtLog.{is_restart}
use Rattle.dtx_model.specs.Promotes.{identifier_of}
use Rattle.dtx_model.specs.Tied.{is_stop, is_tied, tied}
use Rattle.dtx_model.specs.Wires.{in_transit}
use Rattle.dtx_model.specs.Arrivals.{local_got}
use Rattle.dtx_model.specs.Acts.{act_entries, commit_sent}
use Rattle.dtx_model.specs.Coordinated.{core_got}
use Rattle.dtx_model.specs.Replies.{reply_entries}
use Rattle.dtx_model.specs.Facts.{facts_if, has_facts}
use Rattle.dtx_model.specs.World.{World, answer_at, core, facts_at, half}
use Rattle.dtx_model.specs.Steps.{Step, Calls, Replies, Acts, Coordinates, Delivers, Stops, Restarts, after, block_at, coordinates, delivered, ended_at, restarted}
use Rattle.dtx_model.specs.Caused.{FreelyCaused, Ran}
use Rattle.dtx_model.specs.History.{is_loss}
use Rattle.dtx_model.proofs.Bools.{and_both, and_left, and_right, not_both, or_second}
use Rattle.dtx_model.proofs.Reading.{has-onto}
use Rattle.history_table.proofs.Scans.{has_less}
use Rattle.history_table.proofs.CoreStages.{stopped_same}
use Rattle.history_table.proofs.Recording.{stopped_stop}
use Rattle.settled_histories.proofs.QuietKinds.{ActKind, act_kind, q_called, q_commit_sent, q_core_got, q_ended_at, q_local_got, q_reply}
use Rattle.history_table.proofs.QuietBlocks.{is_quiet, q_coordinates}

-- a list without a restart
quiet_tied : (x : Entry) (h : List Entry) → is_quiet x ≡ true → is_tied h x ≡ true
quiet_tied (Restarted found) h q = absurd cc
quiet_tied _ h q = refl

tied_onto : (h es : List Entry) → each is_quiet es ≡ true → tied h ≡ true → tied (onto h es) ≡ true
tied_onto h [] q d = d
tied_onto h (x ∷ es) q d =
    tied_onto (x ∷ h) es (and_right (is_quiet x) (each is_quiet es) q) (and_both (is_tied h x) (tied h) (quiet_tied x h (and_left (is_quiet x) (each is_quiet es) q)) d)

-- after each step
act_tied : (w : World) (es : List Entry) → ActKind (half w) es → tied w.past ≡ true → tied (onto w.past es) ≡ true
act_tied w es (inl q) d = tied_onto w.past es q.proof d
act_tied w es (inr (inl p)) d = subst (λ (xs : List Entry). tied (onto w.past xs) ≡ true) (sym p.block) d
act_tied w es (inr (inr (inl p))) d = subst (λ (xs : List Entry). tied (onto w.past xs) ≡ true) (sym p.block) d
act_tied w es (inr (inr (inr s))) d =
    subst (λ (xs : List Entry). tied (onto w.past xs) ≡ true) (sym s.block) (tied_onto (Sealed ∷ w.past) (commit_sent (half w).seen) (q_commit_sent (half w).seen).proof d)

delivered_tied : (t : ℕ) (w : World) (c : Conn) (d : Dir) (ms : List Message) → tied w.past ≡ true → tied (onto w.past (delivered t w c d ms)) ≡ true
delivered_tied t w c d [] k = tied_onto (Ended c d ∷ w.past) (ended_at w c d) (q_ended_at w c d).proof k
delivered_tied t w c Up (m ∷ ms) k = tied_onto (Got c Up m ∷ w.past) (core_got (identifier_of t) (core w) c m) (q_core_got (identifier_of t) (core w) c m).proof k
delivered_tied t w c Down (m ∷ ms) k = tied_onto (Got c Down m ∷ w.past) (local_got t (half w) c m) (q_local_got t (half w) c m).proof k

-- a restart comes after a stop, or brings one
pub none_restarts : (w : World) (b found : Bool) → (core w).stopped ≡ b → has is_stop (onto w.past (restarted b found)) ≡ false → ⊥
none_restarts w true found e n = not_both (has is_stop w.past) (stopped_stop w.past (sym (stopped_same w.past) ∙ e)) n
none_restarts w false found e n = absurd cc

step_tied : (t : ℕ) (w : World) (m : Step) → has is_stop (after t w m).past ≡ false → tied w.past ≡ true → tied (after t w m).past ≡ true
unfolding after block_at
step_tied t w (Calls n x c m) u d =
    tied_onto (Called n x (answer_at t w c m) ∷ w.past) (facts_if (has_facts (answer_at t w c m)) (facts_at t w c (answer_at t w c m))) (q_called t w c (answer_at t w c m)).proof d
step_tied t w (Replies e r) u d = tied_onto w.past (reply_entries (half w) e r) (q_reply (half w) e r).proof d
step_tied t w Acts u d = act_tied w (act_entries (half w)) (act_kind (half w)) d
step_tied t w (Coordinates x) u d = tied_onto w.past (coordinates (core w) x) (q_coordinates (core w) x).proof d
step_tied t w (Delivers c r) u d = delivered_tied t w c r (in_transit c r w.past) d
step_tied t w Stops u d = absurd cc
step_tied t w (Restarts found) u d = absurd (none_restarts w (core w).stopped found refl u)

ran_tied : (G : ℕ → ActorNo → Call → Type 0) (t : ℕ) (ms : List Step) (w : World) → Ran G t ms w → has is_stop w.past ≡ false → tied w.past ≡ true
unfolding after
ran_tied G t [] w r u = subst (λ (h : List Entry). tied h ≡ true) (sym r.1) refl
ran_tied G t (m ∷ ms) w r u =
    let v = r.0 in
    let now : has is_stop (after t v m).past ≡ false = subst (λ (x : World). has is_stop x.past ≡ false) r.3 u in
    let before : has is_stop v.past ≡ false = or_second (has is_stop (block_at t v m)) (has is_stop v.past) (sym (has-onto is_stop v.past (block_at t v m)) ∙ now) in
    subst (λ (x : World). tied x.past ≡ true) (sym r.3) (step_tied t v m now (ran_tied G t ms v r.1 before))

-- so where it is freely caused
pub unstopped_tied : (G : ℕ → ActorNo → Call → Type 0) (t : ℕ) (h : List Entry) → FreelyCaused G t h → has is_stop h ≡ false → tied h ≡ true
unstopped_tied G t h f u = ran_tied G t f.1.0 (record { calls = f.0; past = h }) f.1.1 u

-- so it is of any history in which no restart came
pub unrestarted_tied : (h : List Entry) → has is_restart h ≡ false → tied h ≡ true
unrestarted_tied [] u = refl
unrestarted_tied (Restarted found ∷ h) u = absurd cc
unrestarted_tied (x ∷ h) u = unrestarted_tied h u

-- where nothing is lost, it never stopped
stop_loses : (x : Entry) → is_stop x ≡ true → is_loss x ≡ true
stop_loses Stopped k = refl
stop_loses _ k = absurd cc

pub unlost_unstopped : (h : List Entry) → has is_loss h ≡ false → has is_stop h ≡ false
unlost_unstopped h u = has_less is_stop is_loss stop_loses h u
