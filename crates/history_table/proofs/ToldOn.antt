-- What a reenlistment got is told in the block of its message: no block ends with a message on the connection of a reenlistment.
use Rattle.std.proofs.Common.{◌≡◌, ℕ, true, false, List, [], ◌∷◌, refl}
use Rattle.dtx_values.specs.declared.entry.Entry.{Entry}
use Rattle.dtx_values.specs.declared.entry.Entry.TheVariants.{Called, Down as Ended, Got}
use Rattle.dtx_values.specs.declared.message.Conn.{Conn}
use Rattle.dtx_values.specs.declared.message.Conn.TheVariants.{Begin, Voter, Enl, Again}
use Rattle.dtx_values.specs.declared.message.Dir.{Dir}
use Rattle.dtx_values.specs.declared.message.Dir.TheVariants.{Up, Down}
use Rattle.dtx_values.specs.declared.message.Message.{Message}
use Rattle.dtx_values.specs.declared.message.Message.TheVariants.{ReenlistCommitted, ReenlistAborted}
use Rattle.dtx_values.specs.declared.number.EnlNo.{EnlNo}
use Rattle.dtx_values.specs.Lines.{has_line}
use Rattle.dtx_model.specs.Words.{each, onto}
use Rattle.dtx_model.specs.Wires.{in_transit}
use Rattle.dtx_model.specs.Coordinated.{may_log}
use Rattle.dtx_model.specs.Acts.{act_entries}
use Rattle.dtx_model.specs.Arrivals.{local_got}
use Rattle.dtx_model.specs.Facts.{facts_if, has_facts}
use Rattle.dtx_model.specs.Replies.{reply_entries}
use Rattle.dtx_model.specs.World.{World, answer_at, core, facts_at, half}
use Rattle.dtx_model.specs.Steps.{Step, Calls, Replies, Acts, Coordinates, Delivers, Stops, Restarts, after, block_at, coordinates, delivered, ended_at, got_by, restarted}
use Rattle.dtx_model.proofs.Bools.{and_left, and_right, not_both}
use Rattle.dtx_model.proofs.Quiet.{is_quiet, q_act, q_appended, q_called, q_ended_at, q_freed, q_got_by, q_if, q_reply, q_restarted}
use Rattle.history_table.proofs.Table.{is_again}
use Rattle.history_table.proofs.Keeping.{Keeps}
use Rattle.history_table.proofs.Sendings.{got_line}
use Rattle.history_table.proofs.WorldActs.{IsToldOn}

quiet_other : (e : ℕ) (x : Entry) → is_quiet x ≡ true → is_again e x ≡ false
quiet_other e (Got c d m) q = absurd cc
quiet_other e _ q = refl

quiet_told : (h es : List Entry) → each is_quiet es ≡ true → IsToldOn h → IsToldOn (onto h es)
quiet_told h [] q t = t
quiet_told h (x ∷ es) q t = quiet_told (x ∷ h) es (and_right (is_quiet x) (each is_quiet es) q) (λ e. quiet_other e x (and_left (is_quiet x) (each is_quiet es) q))

-- a message on another connection, or upward
other_way : (e : ℕ) (c : Conn) (m : Message) → is_again e (Got c Up m) ≡ false
other_way e Begin m = refl
other_way e Voter m = refl
other_way e (Enl f) m = refl
other_way e (Again f) m = refl

again_told : (t : ℕ) (w : World) (f : EnlNo) (m : Message) → Keeps (onto w.past (Got (Again f) Down m ∷ local_got t (half w) (Again f) m)) → IsToldOn (onto w.past (Got (Again f) Down m ∷ local_got t (half w) (Again f) m))
unfolding local_got
again_told t w f ReenlistCommitted k = λ e. refl
again_told t w f ReenlistAborted k = λ e. refl
again_told t w f m k = absurd (not_both (has_line (Again f) Down m) (got_line (Again f) Down m w.past k) refl)

got_told : (t : ℕ) (w : World) (c : Conn) (d : Dir) (m : Message) → Keeps (onto w.past (Got c d m ∷ got_by t w c d m)) → IsToldOn (onto w.past (Got c d m ∷ got_by t w c d m))
got_told t w (Again f) Down m k = again_told t w f m k
got_told t w Begin Down m k = quiet_told (Got Begin Down m ∷ w.past) (got_by t w Begin Down m) (q_got_by t w Begin Down m).proof (λ e. refl)
got_told t w Voter Down m k = quiet_told (Got Voter Down m ∷ w.past) (got_by t w Voter Down m) (q_got_by t w Voter Down m).proof (λ e. refl)
got_told t w (Enl f) Down m k = quiet_told (Got (Enl f) Down m ∷ w.past) (got_by t w (Enl f) Down m) (q_got_by t w (Enl f) Down m).proof (λ e. refl)
got_told t w c Up m k = quiet_told (Got c Up m ∷ w.past) (got_by t w c Up m) (q_got_by t w c Up m).proof (λ e. other_way e c m)

delivered_told : (t : ℕ) (w : World) (c : Conn) (d : Dir) (ms : List Message) → Keeps (onto w.past (delivered t w c d ms)) → IsToldOn (onto w.past (delivered t w c d ms))
delivered_told t w c d [] k = quiet_told (Ended c d ∷ w.past) (ended_at w c d) (q_ended_at w c d).proof (λ e. refl)
delivered_told t w c d (m ∷ ms) k = got_told t w c d m k

-- Each step keeps it, where the table stands after it.
pub step_told : (t : ℕ) (w : World) (m : Step) → Keeps (after t w m).past → IsToldOn w.past → IsToldOn (after t w m).past
unfolding after block_at
step_told t w (Calls n a c m) k o =
    quiet_told (Called n a (answer_at t w c m) ∷ w.past) (facts_if (has_facts (answer_at t w c m)) (facts_at t w c (answer_at t w c m))) (q_called t w c (answer_at t w c m)).proof (λ e. refl)
step_told t w (Replies e x) k o = quiet_told w.past (reply_entries (half w) e x) (q_reply (half w) e x).proof o
step_told t w Acts k o = quiet_told w.past (act_entries (half w)) (q_act (half w)).proof o
step_told t w (Coordinates x) k o = quiet_told w.past (coordinates (core w) x) (q_if (may_log (core w)) (q_appended (core w) x) (q_freed x)).proof o
step_told t w (Delivers c d) k o = delivered_told t w c d (in_transit c d w.past) k
step_told t w Stops k o = λ e. refl
step_told t w (Restarts found) k o = quiet_told w.past (restarted (core w).stopped found) (q_restarted (core w).stopped found).proof o
