-- In each world that steps made, who was asked to promote, or for a single phase, was made promotable.
use Rattle.std.proofs.Common.{◌≡◌, ℕ, ◌==◌, Bool, true, false, ◌&&◌, List, [], ◌∷◌, inl, inr, Option, Some, None, refl, sym, subst, ◌∙◌}
use Rattle.std.specs.Prelude.{find}
use Rattle.dtx_values.specs.declared.call.Call.{Call}
use Rattle.dtx_values.specs.declared.entry.Ask.TheVariants.{Promote, Single}
use Rattle.dtx_values.specs.declared.entry.Entry.{Entry}
use Rattle.dtx_values.specs.declared.entry.Entry.TheVariants.{Asked, Called, Down as Ended, Got, Sealed, Stopped}
use Rattle.dtx_values.specs.declared.message.Conn.{Conn}
use Rattle.dtx_values.specs.declared.message.Dir.{Dir}
use Rattle.dtx_values.specs.declared.message.Dir.TheVariants.{Up, Down}
use Rattle.dtx_values.specs.declared.message.Message.{Message}
use Rattle.dtx_values.specs.declared.number.ActorNo.{ActorNo}
use Rattle.dtx_values.specs.declared.number.EnlNo.{EnlNo}
use Rattle.dtx_values.specs.declared.row.Row.{Row}
use Rattle.dtx_values.specs.declared.words.Class.{Class}
use Rattle.dtx_values.specs.Class.{is_promotable}
use Rattle.dtx_values.specs.Row.{is_of}
use Rattle.dtx_values.specs.Waves.{name_of}
use Rattle.dtx_model.specs.Words.{always, each, has, onto}
use Rattle.dtx_model.specs.Observed.{observe, rows}
use Rattle.dtx_model.specs.Promotes.{identifier_of}
use Rattle.dtx_model.specs.Wires.{in_transit}
use Rattle.dtx_model.specs.Arrivals.{local_got}
use Rattle.dtx_model.specs.Acts.{act_entries, commit_sent, promotable_in}
use Rattle.dtx_model.specs.Coordinated.{core_got}
use Rattle.dtx_model.specs.Replies.{reply_entries}
use Rattle.dtx_model.specs.Facts.{facts_if, has_facts}
use Rattle.dtx_model.specs.World.{World, answer_at, core, facts_at, half}
use Rattle.dtx_model.specs.Steps.{Step, Calls, Replies, Acts, Coordinates, Delivers, Stops, Restarts, after, block_at, coordinates, delivered, ended_at, restarted}
use Rattle.dtx_model.specs.Caused.{Ran}
use Rattle.dtx_model.proofs.Bools.{and_both, and_left, and_right}
use Rattle.history_table.proofs.Tests.{eq_self}
use Rattle.history_table.proofs.Lists.{found_at, has-at}
use Rattle.history_table.proofs.Owned.{has_rows}
use Rattle.settled_histories.proofs.Fine.{is_made}
use Rattle.settled_histories.proofs.CausedRows.{listed_made}
use Rattle.settled_histories.proofs.QuietKinds.{ActKind, act_kind, q_called, q_commit_sent, q_core_got, q_ended_at, q_local_got, q_reply}
use Rattle.history_table.proofs.QuietBlocks.{is_quiet, q_coordinates}

-- who is asked to promote, or for a single phase, was made promotable
abbrev pub is_asked_promotable : List Entry → Entry → Bool
is_asked_promotable h (Asked e Promote) = has (is_made e.value is_promotable) h
is_asked_promotable h (Asked e Single) = has (is_made e.value is_promotable) h
is_asked_promotable h x = true

quiet_one : (x : Entry) (h : List Entry) → is_quiet x ≡ true → is_asked_promotable h x ≡ true
quiet_one (Asked e Promote) h q = absurd cc
quiet_one (Asked e Single) h q = absurd cc
quiet_one x h q = refl

quiet_onto : (h es : List Entry) → each is_quiet es ≡ true → always is_asked_promotable h ≡ true → always is_asked_promotable (onto h es) ≡ true
quiet_onto h [] q a = a
quiet_onto h (x ∷ es) q a =
    quiet_onto (x ∷ h) es (and_right (is_quiet x) (each is_quiet es) q)
    (and_both (is_asked_promotable h x) (always is_asked_promotable h) (quiet_one x h (and_left (is_quiet x) (each is_quiet es) q)) a)

-- the promotable of the rows was made so
promotable_made : (h : List Entry) (e : EnlNo) → promotable_in (rows h) ≡ Some e → has (is_made e.value is_promotable) h ≡ true
promotable_made h e q = by (find (λ x. is_promotable x.class) (rows h)) refl q
  where
    by : (o : Option Row) → find (λ x. is_promotable x.class) (rows h) ≡ o → name_of o ≡ Some e → has (is_made e.value is_promotable) h ≡ true
    by None f n = absurd cc
    by (Some x) f n =
        let same : x.number ≡ e = cc in
        let place = found_at (λ y. is_promotable y.class) (rows h) x f in
        let own : (is_of e.value x && is_promotable x.class) ≡ true = and_both (is_of e.value x) (is_promotable x.class) (subst (λ (f : EnlNo). (f.value == x.number.value) ≡ true) same (eq_self x.number.value)) place.2 in
        sym (listed_made e.value is_promotable h) ∙ sym (has_rows (λ (f : EnlNo) (c : Class). (e.value == f.value) && is_promotable c) h)
        ∙ has-at (λ y. is_of e.value y && is_promotable y.class) (rows h) place.0 x place.1 own

-- after each step
act_asks : (w : World) (es : List Entry) → ActKind (half w) es → always is_asked_promotable w.past ≡ true → always is_asked_promotable (onto w.past es) ≡ true
unfolding observe
act_asks w es (inl q) a = quiet_onto w.past es q.proof a
act_asks w es (inr (inl p)) a =
    subst (λ (xs : List Entry). always is_asked_promotable (onto w.past xs) ≡ true) (sym p.block)
    (and_both (has (is_made p.who.value is_promotable) w.past) (always is_asked_promotable w.past) (promotable_made w.past p.who p.stands) a)
act_asks w es (inr (inr (inl p))) a =
    subst (λ (xs : List Entry). always is_asked_promotable (onto w.past xs) ≡ true) (sym p.block)
    (and_both (has (is_made p.who.value is_promotable) w.past) (always is_asked_promotable w.past) (promotable_made w.past p.who p.stands) a)
act_asks w es (inr (inr (inr s))) a =
    subst (λ (xs : List Entry). always is_asked_promotable (onto w.past xs) ≡ true) (sym s.block) (quiet_onto (Sealed ∷ w.past) (commit_sent (half w).seen) (q_commit_sent (half w).seen).proof a)

delivered_asks : (t : ℕ) (w : World) (c : Conn) (d : Dir) (ms : List Message) → always is_asked_promotable w.past ≡ true → always is_asked_promotable (onto w.past (delivered t w c d ms)) ≡ true
delivered_asks t w c d [] a = quiet_onto (Ended c d ∷ w.past) (ended_at w c d) (q_ended_at w c d).proof a
delivered_asks t w c Up (m ∷ ms) a = quiet_onto (Got c Up m ∷ w.past) (core_got (identifier_of t) (core w) c m) (q_core_got (identifier_of t) (core w) c m).proof a
delivered_asks t w c Down (m ∷ ms) a = quiet_onto (Got c Down m ∷ w.past) (local_got t (half w) c m) (q_local_got t (half w) c m).proof a

restarted_asks : (h : List Entry) (b found : Bool) → always is_asked_promotable h ≡ true → always is_asked_promotable (onto h (restarted b found)) ≡ true
restarted_asks h true found a = a
restarted_asks h false found a = a

step_asks : (t : ℕ) (w : World) (m : Step) → always is_asked_promotable w.past ≡ true → always is_asked_promotable (after t w m).past ≡ true
unfolding after block_at
step_asks t w (Calls n x c m) a =
    quiet_onto (Called n x (answer_at t w c m) ∷ w.past) (facts_if (has_facts (answer_at t w c m)) (facts_at t w c (answer_at t w c m))) (q_called t w c (answer_at t w c m)).proof a
step_asks t w (Replies e r) a = quiet_onto w.past (reply_entries (half w) e r) (q_reply (half w) e r).proof a
step_asks t w Acts a = act_asks w (act_entries (half w)) (act_kind (half w)) a
step_asks t w (Coordinates x) a = quiet_onto w.past (coordinates (core w) x) (q_coordinates (core w) x).proof a
step_asks t w (Delivers c d) a = delivered_asks t w c d (in_transit c d w.past) a
step_asks t w Stops a = quiet_onto w.past (Stopped ∷ []) refl a
step_asks t w (Restarts found) a = restarted_asks w.past (core w).stopped found a

-- so in each world that steps made
pub ran_asks : (G : ℕ → ActorNo → Call → Type 0) (t : ℕ) (ms : List Step) (w : World) → Ran G t ms w → always is_asked_promotable w.past ≡ true
ran_asks G t [] w r = subst (λ (h : List Entry). always is_asked_promotable h ≡ true) (sym r.1) refl
ran_asks G t (m ∷ ms) w r = subst (λ (x : World). always is_asked_promotable x.past ≡ true) (sym r.3) (step_asks t r.0 m (ran_asks G t ms r.0 r.1))
