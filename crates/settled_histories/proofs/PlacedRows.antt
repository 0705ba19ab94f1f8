-- In each world that steps made, whose history keeps the table, ENLISTED is sent once to each enlistment: directly after its ENLIST, which comes once.
use Rattle.std.proofs.Common.{◌≡◌, ℕ, Bool, true, false, ◌&&◌, ◌||◌, List, [], ◌∷◌, refl, sym, subst}
use Rattle.std.specs.Prelude.{not}
use Rattle.dtx_values.specs.declared.call.Call.{Call}
use Rattle.dtx_values.specs.declared.entry.Entry.{Entry}
use Rattle.dtx_values.specs.declared.entry.Entry.TheVariants.{Sent}
use Rattle.dtx_values.specs.declared.message.Conn.{Conn}
use Rattle.dtx_values.specs.declared.message.Conn.TheVariants.{Enl}
use Rattle.dtx_values.specs.declared.message.Dir.{Dir}
use Rattle.dtx_values.specs.declared.message.Dir.TheVariants.{Down, Up}
use Rattle.dtx_values.specs.declared.message.Message.{Message}
use Rattle.dtx_values.specs.declared.message.Message.TheVariants.{EnlistEnlisted}
use Rattle.dtx_values.specs.declared.number.ActorNo.{ActorNo}
use Rattle.dtx_values.specs.declared.number.EnlNo.{EnlNo}
use Rattle.dtx_values.specs.Ends.{same_connection, same_direction}
use Rattle.dtx_model.specs.Words.{always, has}
use Rattle.dtx_model.specs.World.{World}
use Rattle.dtx_model.specs.Steps.{Step}
use Rattle.dtx_model.specs.Caused.{Ran}
use Rattle.dtx_model.proofs.Bools.{and_both, and_left, and_right, not_both, not_false, not_true, or_case}
use Rattle.settled_histories.proofs.MessageKinds.{ENLISTED}
use Rattle.settled_histories.proofs.Counted.{is_once}
use Rattle.history_table.proofs.Table.{ends_with, is_opening_got}
use Rattle.history_table.proofs.Keeping.{Keeps, keeps_before}
use Rattle.history_table.proofs.Crossed.{is_sent_on}
use Rattle.history_table.proofs.StillBlocks.{is_welcome}
use Rattle.history_table.proofs.Welcomes.{is_direct, step_direct, unsent_there}
use Rattle.dtx_model.proofs.Connections.{same_is}

-- in each world that steps made each answer is sent directly after the message that opened its connection
pub ran_direct : (G : ℕ → ActorNo → Call → Type 0) (t : ℕ) (ms : List Step) (w : World) → Ran G t ms w → always is_direct w.past ≡ true
ran_direct G t [] w r = subst (λ (h : List Entry). always is_direct h ≡ true) (sym r.1) refl
ran_direct G t (m ∷ ms) w r = subst (λ (x : World). always is_direct x.past ≡ true) (sym r.3) (step_direct t r.0 m (ran_direct G t ms r.0 r.1))

enlisted_welcome : (m : Message) → ENLISTED m ≡ true → is_welcome m ≡ true
enlisted_welcome EnlistEnlisted k = refl
enlisted_welcome _ k = absurd cc

-- where it is sent, it wasn't before
first_there : (e : EnlNo) (c : Conn) (d : Dir) (m : Message) (h : List Entry) → Keeps h → is_direct h (Sent c d m) ≡ true → (same_connection (Enl e) c && same_direction Down d && ENLISTED m) ≡ true
    → has (is_sent_on (Enl e) Down ENLISTED) h ≡ false
first_there e c Up m h k d q = absurd (never (same_connection (Enl e) c) (ENLISTED m) q)
  where
    never : (a b : Bool) → (a && false && b) ≡ true → ⊥
    never true b k = cc
    never false b k = cc
first_there e c Down m h k d q =
    let same : Enl e ≡ c = same_is (Enl e) c (and_left (same_connection (Enl e) c) true (and_left (same_connection (Enl e) c && true) (ENLISTED m) q)) in
    let welcome = enlisted_welcome m (and_right (same_connection (Enl e) c && true) (ENLISTED m) q) in
    let P : Conn → Type 0 = λ x. ends_with (is_opening_got x) h ≡ true in
    let ends : ends_with (is_opening_got c) h ≡ true =
    or_case (not (is_welcome m)) (ends_with (is_opening_got c) h) (λ a. absurd (not_both (is_welcome m) welcome (not_true (is_welcome m) a))) (λ a. a) d in
    unsent_there (Enl e) ENLISTED h refl k (subst P (sym same) ends)

once_placed : (e : EnlNo) (x : Entry) (h : List Entry) → Keeps h → is_direct h x ≡ true → is_once (is_sent_on (Enl e) Down ENLISTED) h x ≡ true
once_placed e (Sent c d m) h k w = by (same_connection (Enl e) c && same_direction Down d && ENLISTED m) refl
  where
    by : (b : Bool) → (same_connection (Enl e) c && same_direction Down d && ENLISTED m) ≡ b → (not b || not (has (is_sent_on (Enl e) Down ENLISTED) h)) ≡ true
    by true q = not_false (has (is_sent_on (Enl e) Down ENLISTED) h) (first_there e c d m h k w q)
    by false q = refl
once_placed e _ h k w = refl

pub kept_placed : (e : EnlNo) (h : List Entry) → Keeps h → always is_direct h ≡ true → always (is_once (is_sent_on (Enl e) Down ENLISTED)) h ≡ true
kept_placed e [] k a = refl
kept_placed e (x ∷ h) k a =
    let past = keeps_before x h k in
    and_both (is_once (is_sent_on (Enl e) Down ENLISTED) h x) (always (is_once (is_sent_on (Enl e) Down ENLISTED)) h)
    (once_placed e x h past (and_left (is_direct h x) (always is_direct h) a)) (kept_placed e h past (and_right (is_direct h x) (always is_direct h) a))
