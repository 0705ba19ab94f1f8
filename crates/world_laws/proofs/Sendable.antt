-- In each world that steps make, each message that is sent may be sent where it is: it is valid and has a line, what opens a connection finds nothing left of it, and what else is
-- sent goes where the connection was opened and the sender didn't see its end. The disk may find what it likes.
use Rattle.std.proofs.Common.{◌≡◌, ◌≤◌, ◌<◌, ℕ, ◌+◌, ◌*◌, ◌/◌, ◌%◌, Bool, true, false, ◌&&◌, List, [], ◌∷◌, refl, sym, subst, ap, ◌∙◌, arith}
use Rattle.std.specs.Prelude.{nat_le}
use Rattle.std.proofs.lemmas.Nat.{div-mul-add, mod-mul-add}
use Rattle.std.proofs.lemmas.Bool.Decides.{nat_tests}
use Rattle.std.proofs.lemmas.Bool.{false_from_ne_true}
use Rattle.dtx_values.specs.declared.call.Call.{Call}
use Rattle.dtx_values.specs.declared.entry.Entry.{Entry}
use Rattle.dtx_values.specs.declared.entry.Entry.TheVariants.{Down as Ended, Got, Restarted, Stopped}
use Rattle.dtx_values.specs.declared.message.Conn.{Conn}
use Rattle.dtx_values.specs.declared.message.Conn.TheVariants.{Begin, Voter, Enl}
use Rattle.dtx_values.specs.declared.message.Dir.TheVariants.{Up, Down}
use Rattle.dtx_values.specs.declared.message.Message.{Message}
use Rattle.dtx_values.specs.declared.message.Message.TheVariants.{BeginBegun, VoterCreated, EnlistEnlisted}
use Rattle.dtx_values.specs.declared.note.Reply.TheVariants.{Promote as Promotes}
use Rattle.dtx_values.specs.declared.number.ActorNo.{ActorNo}
use Rattle.dtx_values.specs.declared.number.EnlNo.{EnlNo}
use Rattle.dtx_values.specs.RecoveryInfo.{is_id}
use Rattle.dtx_model.specs.declared.waiting.Wanted.TheVariants.{Identifier, Place}
use Rattle.dtx_model.specs.Acts.{act_entries}
use Rattle.dtx_model.specs.Arrivals.{arrived, local_down, local_got}
use Rattle.dtx_model.specs.Caused.{AreMadeOnce, MayCome, Ran}
use Rattle.dtx_model.specs.Coordinated.{coordinate, core_down, core_got, may_log}
use Rattle.dtx_model.specs.Half.{sees}
use Rattle.dtx_model.specs.Observed.{observe, track}
use Rattle.dtx_model.specs.Promotes.{identifier_of, is_created_got}
use Rattle.dtx_model.specs.Replies.{reply_entries}
use Rattle.dtx_model.specs.Steps.{Step, Calls, Replies, Acts, Coordinates, Delivers, Stops, Restarts, Done, Full, StoppedNow, StoppedBefore, LogAnswer, after, block_at, coordinates, delivered, restarted}
use Rattle.dtx_model.specs.Waiting.{Waiter, waiting}
use Rattle.dtx_model.specs.Wires.{WireRun, in_transit, opens}
use Rattle.dtx_model.specs.Words.{always, has, onto}
use Rattle.dtx_model.specs.World.{World, half, core}
use Rattle.dtx_model.proofs.Bools.{and_both, not_both}
use Rattle.dtx_model.proofs.Quiet.{wire_run}
use Rattle.history_table.proofs.Waiters.{is_unplaced}
use Rattle.history_table.proofs.Scans.{each_more}
use Rattle.history_table.proofs.Makers.{AreMade, all_unplaced, ran_made}
use Rattle.history_table.proofs.Welcomes.{is_direct, step_direct}
use Rattle.world_laws.specs.Carried.{are_sendable}
use Rattle.world_laws.proofs.SendingBlocks.{apt_act, apt_arrived, apt_coordinates, apt_core_down, apt_core_got, apt_local_down, apt_reply}
use Rattle.world_laws.proofs.SendingKnown.{hears, speaks}
use Rattle.world_laws.proofs.SendingOnce.{created_new, opened_before, voter_new}
use Rattle.world_laws.proofs.SendingEnds.{Ends, apt_ends, ends_if, none_ends, one_ends}
use Rattle.world_laws.proofs.SendingPlaces.{all_apart, are_lines, ran_lines}
use Rattle.world_laws.proofs.SendingOpenings.{begun_ends, created_ends, enlisted_ends}
use Rattle.world_laws.proofs.SendingCalls.{call_ends, promote_ends}

-- what stands before a step: the wires, the answers, who made what, and the lines of those that wait
record Before (G : ℕ → ActorNo → Call → Type 0) (w : World) : Type 0 where
  direct : always is_direct w.past ≡ true
  made : AreMade G w.calls w.past
  lines : are_lines (waiting w.calls w.past) ≡ true
  wires : WireRun w.past

cut_wires : (h es : List Entry) → WireRun (onto h es) → WireRun h
cut_wires h [] w = w
cut_wires h (x ∷ es) w = (cut_wires (x ∷ h) es w).1

-- A delivery upward.
up_ends : (t : ℕ) (w : World) (c : Conn) (ms : List Message) → is_id (identifier_of t) ≡ true → WireRun (onto w.past (delivered t w c Up ms)) → Ends w.past → Ends (onto w.past (delivered t w c Up ms))
unfolding coordinate
up_ends t w c [] v r i =
    let x = Ended c Up in
    apt_ends (x ∷ w.past) (core_down (core w) c) (apt_core_down (core w) c (speaks (x ∷ w.past) (cut_wires (x ∷ w.past) (core_down (core w) c) r))) (one_ends x w.past refl refl refl i)
up_ends t w c (m ∷ ms) v r i =
    let x = Got c Up m in
    let es = core_got (identifier_of t) (core w) c m in
    apt_ends (x ∷ w.past) es (apt_core_got (identifier_of t) (core w) c m v (speaks (x ∷ w.past) (cut_wires (x ∷ w.past) es r))) (one_ends x w.past refl refl refl i)

-- A delivery downward.
still_unplaced : (h : List Entry) (e : EnlNo) (v : Waiter) → is_unplaced h v ≡ true → is_unplaced (Got (Enl e) Down EnlistEnlisted ∷ h) v ≡ true
still_unplaced h e (n, Identifier) k = refl
still_unplaced h e (n, Place f r c) k = k

got_ends : (G : ℕ → ActorNo → Call → Type 0) (t : ℕ) (w : World) (c : Conn) (m : Message) → AreMadeOnce G → Before G w → is_id (identifier_of t) ≡ true → WireRun (Got c Down m ∷ w.past) → Ends w.past
    → Ends (onto (Got c Down m ∷ w.past) (local_got t (half w) c m))
unfolding local_got observe track
got_ends G t w Begin (BeginBegun u) once b v r i =
    let x = Got Begin Down (BeginBegun u) in
    begun_ends w.calls t (x ∷ w.past) v (voter_new u w.past r b.direct i.opened) refl (one_ends x w.past refl refl refl i)
got_ends G t w Voter VoterCreated once b v r i =
    let x = Got Voter Down VoterCreated in
    created_ends w.calls t (x ∷ w.past) v
    (λ e. false_from_ne_true (has (opens (Enl e)) w.past) (λ o. not_both (has is_created_got w.past) (i.opened.on_enlistments.created e o) (created_new w.past r b.direct i.opened)))
    refl (all_apart G w.calls w.past once b.made b.lines) (one_ends x w.past refl refl refl i)
got_ends G t w (Enl e) EnlistEnlisted once b v r i =
    let x = Got (Enl e) Down EnlistEnlisted in
    enlisted_ends G w.calls t w.past (x ∷ w.past) e refl v (i.opened.on_enlistments.created e (opened_before (Enl e) EnlistEnlisted w.past refl r b.direct)) b.made.waiters
    (each_more (is_unplaced w.past) (is_unplaced (x ∷ w.past)) (still_unplaced w.past e) (waiting w.calls w.past) (all_unplaced G w.calls w.past once b.made))
    (all_apart G w.calls w.past once b.made b.lines) (one_ends x w.past refl refl refl i)
got_ends G t w c m once b v r i =
    let x = Got c Down m in
    apt_ends (x ∷ w.past) (arrived t (sees (half w) x) c m) (apt_arrived t (sees (half w) x) (hears (x ∷ w.past)) c m refl) (one_ends x w.past refl refl refl i)

down_ends : (G : ℕ → ActorNo → Call → Type 0) (t : ℕ) (w : World) (c : Conn) (ms : List Message) → AreMadeOnce G → Before G w → is_id (identifier_of t) ≡ true
    → WireRun (onto w.past (delivered t w c Down ms)) → Ends w.past → Ends (onto w.past (delivered t w c Down ms))
unfolding observe track
down_ends G t w c [] once b v r i =
    let x = Ended c Down in
    apt_ends (x ∷ w.past) (local_down (half w) c) (apt_local_down (half w) c (hears (x ∷ w.past))) (one_ends x w.past refl refl refl i)
down_ends G t w c (m ∷ ms) once b v r i = got_ends G t w c m once b v (cut_wires (Got c Down m ∷ w.past) (local_got t (half w) c m) r) i

-- The coordinator's act, and a restart.
act_ends : (w : World) (a : LogAnswer) → WireRun w.past → Ends w.past → Ends (onto w.past (coordinates (core w) a))
act_ends w Done r i = apt_ends w.past (coordinates (core w) Done) (apt_coordinates (core w) Done refl (speaks w.past r)) i
act_ends w Full r i = apt_ends w.past (coordinates (core w) Full) (apt_coordinates (core w) Full refl (speaks w.past r)) i
act_ends w StoppedNow r i = let s = one_ends Stopped w.past refl refl refl i in ends_if w.past (may_log (core w)) (Stopped ∷ []) (Stopped ∷ []) (λ b. s) (λ b. s)
act_ends w StoppedBefore r i = let s = one_ends Stopped w.past refl refl refl i in ends_if w.past (may_log (core w)) (Stopped ∷ []) (Stopped ∷ []) (λ b. s) (λ b. s)

restarted_ends : (h : List Entry) (stopped found : Bool) → Ends h → Ends (onto h (restarted stopped found))
restarted_ends h true found i = one_ends (Restarted found) h refl refl refl i
restarted_ends h false found i = one_ends (Restarted found) (Stopped ∷ h) refl refl refl (one_ends Stopped h refl refl refl i)

-- After each step.
step_ends : (G : ℕ → ActorNo → Call → Type 0) (t : ℕ) (w : World) (m : Step) → AreMadeOnce G → Before G w → is_id (identifier_of t) ≡ true → MayCome G t w m → WireRun (after t w m).past → Ends w.past
    → Ends (after t w m).past
unfolding after block_at reply_entries
step_ends G t w (Calls n a c m) once b v q r i = call_ends G t w n a c m once b.made q.0 q.1 v i
step_ends G t w (Replies e (Promotes true)) once b v q r i = promote_ends w e q.0 q.1 q.2 i
step_ends G t w (Replies e x) once b v q r i = apt_ends w.past (reply_entries (half w) e x) (apt_reply (half w) (hears w.past) e x refl) i
step_ends G t w Acts once b v q r i = apt_ends w.past (act_entries (half w)) (apt_act (half w) (hears w.past)) i
step_ends G t w (Coordinates a) once b v q r i = act_ends w a b.wires i
step_ends G t w (Delivers c Up) once b v q r i = up_ends t w c (in_transit c Up w.past) v r i
step_ends G t w (Delivers c Down) once b v q r i = down_ends G t w c (in_transit c Down w.past) once b v r i
step_ends G t w Stops once b v q r i = one_ends Stopped w.past refl refl refl i
step_ends G t w (Restarts found) once b v q r i = restarted_ends w.past (core w).stopped found i

ran_direct : (G : ℕ → ActorNo → Call → Type 0) (t : ℕ) (ms : List Step) (w : World) → Ran G t ms w → always is_direct w.past ≡ true
ran_direct G t [] w r = ap (always is_direct) r.1
ran_direct G t (m ∷ ms) w r = subst (λ (x : World). always is_direct x.past ≡ true) (sym r.3) (step_direct t r.0 m (ran_direct G t ms r.0 r.1))

-- what stands at the end of each block stands in each world that steps made
pub ran_ends : (G : ℕ → ActorNo → Call → Type 0) (t : ℕ) (ms : List Step) (w : World) → is_id (identifier_of t) ≡ true → AreMadeOnce G → Ran G t ms w → Ends w.past
ran_ends G t [] w v once r = subst Ends (sym r.1) none_ends
ran_ends G t (m ∷ ms) w v once r =
    let before : Before G r.0 = record { direct = ran_direct G t ms r.0 r.1; made = ran_made G t ms r.0 r.1; lines = ran_lines G t ms r.0 r.1; wires = wire_run G t ms r.0 r.1 } in
    subst (λ (x : World). Ends x.past) (sym r.3)
    (step_ends G t r.0 m once before v r.2 (subst (λ (x : World). WireRun x.past) r.3 (wire_run G t (m ∷ ms) w r)) (ran_ends G t ms r.0 v once r.1))

-- the halves of a sum: 1, and a number below
halves : (w t : ℕ) → t < w → ((w + t) / w ≡ 1) × ((w + t) % w ≡ t)
halves w t k = let e : w + t ≡ 1 * w + t = omega arith in (ap (λ n. n / w) e ∙ div-mul-add 1 w t k, ap (λ n. n % w) e ∙ mod-mul-add 1 w t k)

-- the identifier of a transaction is valid
pub id_valid : (t : ℕ) → 1 ≤ t → t < 281474976710656 → is_id (identifier_of t) ≡ true
id_valid t low high =
    let parts = halves 18446744073709551616 t (omega arith) in
    by ((18446744073709551616 + t) / 18446744073709551616) ((18446744073709551616 + t) % 18446744073709551616) parts.0 parts.1
  where
    by : (q r : ℕ) → q ≡ 1 → r ≡ t → (nat_le 1 q && nat_le q 18446744073709551615 && nat_le 1 r) ≡ true
    by q r d e =
        and_both (nat_le 1 q && nat_le q 18446744073709551615) (nat_le 1 r) (subst (λ n. (nat_le 1 n && nat_le n 18446744073709551615) ≡ true) (sym d) refl)
        (subst (λ n. nat_le 1 n ≡ true) (sym e) (grind (arith, nat_tests)))

-- each message of a run might be sent where it was
pub runs_sendable : (G : ℕ → ActorNo → Call → Type 0) (t : ℕ) (ms : List Step) (w : World) → 1 ≤ t → t < 281474976710656 → AreMadeOnce G → Ran G t ms w → are_sendable w.past ≡ true
runs_sendable G t ms w low high once r = (ran_ends G t ms w (id_valid t low high) once r).sendable
