-- Who is told was enlisted, or a promotion began: in each world that steps made and whose history keeps the table.
use Rattle.std.proofs.Common.{◌≡◌, ◌∙◌, ℕ, ◌==◌, Bool, true, false, ◌||◌, List, [], ◌∷◌, Option, Some, None, is_some, refl, ap, subst, sym}
use Rattle.std.specs.Prelude.{find}
use Rattle.std.proofs.lemmas.Bool.{eqb-true, or_left}
use Rattle.dtx_values.specs.declared.call.Call.{Call}
use Rattle.dtx_values.specs.declared.entry.Ask.TheVariants.{Promote, Single as AskSingle}
use Rattle.dtx_values.specs.declared.entry.Entry.{Entry}
use Rattle.dtx_values.specs.declared.entry.Entry.TheVariants.{Asked, Called, Cut, Down as Ended, Freed, Got, LogFull, Logged, Recovered as RecoveredEntry, Restarted, Sealed, Sent, Stopped, Told}
use Rattle.dtx_values.specs.declared.entry.Party.TheVariants.{Client, Enl as Member}
use Rattle.dtx_values.specs.declared.message.Conn.{Conn}
use Rattle.dtx_values.specs.declared.message.Conn.TheVariants.{Begin}
use Rattle.dtx_values.specs.declared.message.Dir.{Dir}
use Rattle.dtx_values.specs.declared.message.Dir.TheVariants.{Down, Up}
use Rattle.dtx_values.specs.declared.message.Message.{Message}
use Rattle.dtx_values.specs.declared.number.ActorNo.{ActorNo}
use Rattle.dtx_values.specs.declared.words.Outcome.{Outcome}
use Rattle.dtx_values.specs.Lines.{has_line}
use Rattle.dtx_model.specs.declared.listener.Listener.{Listener}
use Rattle.dtx_model.specs.Words.{always, each, has, latest, onto}
use Rattle.dtx_model.specs.Entries.{decision_of, is_told}
use Rattle.dtx_model.specs.Observed.{listeners, observe}
use Rattle.dtx_model.specs.Promotes.{identifier_of, is_promoting}
use Rattle.dtx_model.specs.Wires.{in_transit}
use Rattle.dtx_model.specs.Coordinated.{core_got}
use Rattle.dtx_model.specs.Acts.{act_by, act_entries, is_to_tell, tell}
use Rattle.dtx_model.specs.Arrivals.{local_got}
use Rattle.dtx_model.specs.Facts.{facts_if, has_facts}
use Rattle.dtx_model.specs.Replies.{reply_entries}
use Rattle.dtx_model.specs.World.{World, answer_at, core, facts_at, half}
use Rattle.dtx_model.specs.Steps.{Step, Calls, Replies, Acts, Coordinates, Delivers, Stops, Restarts, after, block_at, coordinates, delivered, ended_at, restarted}
use Rattle.dtx_model.specs.Caused.{Ran}
use Rattle.dtx_model.proofs.Bools.{and_both, and_left, and_right, not_both, or_case, or_right}
use Rattle.dtx_model.proofs.Blocks.{of_called, of_coordinates, of_core_down, of_core_got, of_local_down, of_reply, of_restarted, of_whole_act}
use Rattle.dtx_model.proofs.Writes.{ByAct, ByCall, ByReply, Each, IsClosed, Source, e_one, each_closed, is_outcome_message, tells, writes}
use Rattle.history_table.proofs.EntryTests.{is_enlisted}
use Rattle.history_table.proofs.Handing.{keeps_within}
use Rattle.history_table.proofs.Keeping.{Keeps}
use Rattle.history_table.proofs.Lists.{found_at, has-at}
use Rattle.history_table.proofs.Owned.{listens}
use Rattle.history_table.proofs.Sendings.{got_promoting}
use Rattle.history_table.proofs.Tests.{eq_self}
use Rattle.script_histories.proofs.PromotesRuns.{keeps_past}

-- who is told by the entry was enlisted, or a promotion began
abbrev is_listed : ℕ → List Entry → Bool
is_listed e h = has (is_enlisted e) h || has is_promoting h

abbrev is_told_listed : List Entry → Entry → Bool
is_told_listed h (Told (Member e) o) = is_listed e.value h
is_told_listed h _ = true

abbrev AreListed : List Entry → Type 0
AreListed h = always is_told_listed h ≡ true

listed_more : (e : ℕ) (x : Entry) (h : List Entry) → is_listed e h ≡ true → is_listed e (x ∷ h) ≡ true
listed_more e x h t =
    or_case (has (is_enlisted e) h) (has is_promoting h) (λ a. or_left (has (is_enlisted e) (x ∷ h)) (has is_promoting (x ∷ h)) (or_right (is_enlisted e x) (has (is_enlisted e) h) a))
    (λ a. or_right (has (is_enlisted e) (x ∷ h)) (has is_promoting (x ∷ h)) (or_right (is_promoting x) (has is_promoting h) a)) t

-- so each that was told is
told_listed : (e : ℕ) (h : List Entry) → AreListed h → has (is_told e) h ≡ true → is_listed e h ≡ true
told_listed e [] a t = absurd cc
told_listed e (Told (Member f) o ∷ h) a t =
    let P : ℕ → Type 0 = λ n. is_listed n h ≡ true in
    or_case (e == f.value) (has (is_told e) h) (λ q. subst P (sym (eqb-true e f.value q)) (and_left (is_listed f.value h) (always is_told_listed h) a))
    (λ q. told_listed e h (and_right (is_listed f.value h) (always is_told_listed h) a) q) t
told_listed e (x ∷ h) a t = listed_more e x h (told_listed e h (and_right (is_told_listed h x) (always is_told_listed h) a) t)

-- Blocks that tell nobody.
abbrev is_untelling : Entry → Bool
is_untelling (Told p o) = false
is_untelling _ = true

untelling : IsClosed (λ ws es. Each is_untelling es)
untelling = each_closed is_untelling refl (λ x. refl) (λ n x. refl) refl refl

untelling_entry : (s : Source) → tells s ≡ false → (x : Entry) → writes s x ≡ true → Each is_untelling (x ∷ [])
untelling_entry s n x t = e_one x (passes x t)
  where
    passes : (x : Entry) → writes s x ≡ true → is_untelling x ≡ true
    passes (Told p o) t = absurd (not_both (tells s) t n)
    passes _ t = refl

untelling_sent : (c : Conn) (m : Message) → has_line c Down m ≡ true → is_outcome_message m ≡ true → Each is_untelling (Sent c Down m ∷ [])
untelling_sent c m l o = e_one (Sent c Down m) refl

untelling_onto : (h es : List Entry) → each is_untelling es ≡ true → AreListed h → AreListed (onto h es)
untelling_onto h [] k a = a
untelling_onto h (x ∷ es) k a =
    untelling_onto (x ∷ h) es (and_right (is_untelling x) (each is_untelling es) k) (and_both (is_told_listed h x) (always is_told_listed h) (one x (and_left (is_untelling x) (each is_untelling es) k)) a)
  where
    one : (x : Entry) → is_untelling x ≡ true → is_told_listed h x ≡ true
    one (Told p o) k = absurd cc
    one _ k = refl

-- once a promotion began, anybody may be told
promoting_onto : (h es : List Entry) → has is_promoting h ≡ true → AreListed h → AreListed (onto h es)
promoting_onto h [] p a = a
promoting_onto h (x ∷ es) p a = promoting_onto (x ∷ h) es (or_right (is_promoting x) (has is_promoting h) p) (and_both (is_told_listed h x) (always is_told_listed h) (one x) a)
  where
    one : (x : Entry) → is_told_listed h x ≡ true
    one (Told (Member e) o) = or_right (has (is_enlisted e.value) h) (has is_promoting h) p
    one (Told Client o) = refl
    one _ = refl

-- The local act: it tells one of the listeners.
tell_listed : (h : List Entry) (x : Outcome) (p : Listener → Bool) (l : Option Listener) (o : Option Outcome) → find p (listeners h) ≡ l → AreListed h → AreListed (onto h (tell x l o))
tell_listed h x p (Some l) o q a =
    let at = found_at p (listeners h) l q in
    let there : has (λ y. l.enlistment.value == y.enlistment.value) (listeners h) ≡ true = has-at (λ y. l.enlistment.value == y.enlistment.value) (listeners h) at.0 l at.1 (eq_self l.enlistment.value) in
    and_both (is_listed l.enlistment.value h) (always is_told_listed h) (or_left (has (is_enlisted l.enlistment.value) h) (has is_promoting h) (sym (listens l.enlistment.value h) ∙ there)) a
tell_listed h x p None (Some y) q a = a
tell_listed h x p None None q a = a

act_listed : (w : World) → AreListed w.past → AreListed (onto w.past (act_entries (half w)))
unfolding observe act_entries
act_listed w a = by (latest decision_of w.past) refl
  where
    by : (o : Option Outcome) → latest decision_of w.past ≡ o → AreListed (onto w.past (act_by (latest decision_of w.past) (half w)))
    by (Some x) q =
        let P : Option Outcome → Type 0 = λ o. AreListed (onto w.past (act_by o (half w))) in
        subst P (sym q) (tell_listed w.past x (is_to_tell (half w).seen x) (find (is_to_tell (half w).seen x) (listeners w.past)) (half w).seen.told_client refl a)
    by None q =
        untelling_onto w.past (act_entries (half w))
        (of_whole_act untelling (half w) (untelling_entry (ByAct (is_some (half w).seen.decided)) (ap is_some q)) (λ e. e_one (Asked e Promote) refl) (λ e. e_one (Asked e AskSingle) refl) (e_one Sealed refl)
        (λ m t. e_one (Sent Begin Up m) refl)).proof a

-- the end of a connection, and a message
ended_untelling : (w : World) (c : Conn) (d : Dir) → Each is_untelling (ended_at w c d)
ended_untelling w c Up = of_core_down (untelling.lists []) (core w) c untelling_sent
ended_untelling w c Down = of_local_down untelling (half w) c

delivered_listed : (t : ℕ) (w : World) (c : Conn) (d : Dir) (ms : List Message) → Keeps (onto w.past (delivered t w c d ms)) → AreListed w.past → AreListed (onto w.past (delivered t w c d ms))
delivered_listed t w c d [] k a = untelling_onto w.past (Ended c d ∷ ended_at w c d) (ended_untelling w c d).proof a
delivered_listed t w c Up (m ∷ ms) k a =
    untelling_onto (Got c Up m ∷ w.past) (core_got (identifier_of t) (core w) c m) (of_core_got (untelling.lists []) (identifier_of t) (core w) c m (λ d n l b. e_one (Sent d Down n) refl)).proof a
delivered_listed t w c Down (m ∷ ms) k a =
    promoting_onto (Got c Down m ∷ w.past) (local_got t (half w) c m) (got_promoting c Down m w.past (keeps_within (Got c Down m ∷ w.past) (local_got t (half w) c m) k)) a

-- after each step
step_listed : (t : ℕ) (w : World) (m : Step) → Keeps (after t w m).past → AreListed w.past → AreListed (after t w m).past
unfolding after block_at
step_listed t w (Calls n a c i) k o =
    let x = answer_at t w c i in
    untelling_onto w.past (Called n a x ∷ facts_if (has_facts x) (facts_at t w c x)) (of_called untelling t w c x (untelling_entry (ByCall c) refl) (λ d n m. e_one (Cut d n m) refl) (λ r. e_one (RecoveredEntry r) refl)).proof o
step_listed t w (Replies e x) k o = untelling_onto w.past (reply_entries (half w) e x) (of_reply untelling (half w) e x (untelling_entry (ByReply x) refl)).proof o
step_listed t w Acts k o = act_listed w o
step_listed t w (Coordinates x) k o =
    untelling_onto w.past (coordinates (core w) x) (of_coordinates (untelling.lists []) (core w) x untelling_sent (e_one Logged refl) (e_one LogFull refl) (e_one Freed refl) (e_one Stopped refl)).proof o
step_listed t w (Delivers c d) k o = delivered_listed t w c d (in_transit c d w.past) k o
step_listed t w Stops k o = o
step_listed t w (Restarts found) k o =
    untelling_onto w.past (restarted (core w).stopped found) (of_restarted (untelling.lists []) (core w).stopped found (e_one Stopped refl) (e_one (Restarted found) refl)).proof o

ran_listed : (G : ℕ → ActorNo → Call → Type 0) (t : ℕ) (ms : List Step) (w : World) → Ran G t ms w → Keeps w.past → AreListed w.past
ran_listed G t [] w r k = subst AreListed (sym r.1) refl
ran_listed G t (m ∷ ms) w r k =
    let now = subst (λ (x : World). Keeps x.past) r.3 k in
    subst (λ (x : World). AreListed x.past) (sym r.3) (step_listed t r.0 m now (ran_listed G t ms r.0 r.1 (keeps_past t r.0 m now)))

-- So where no promotion began, whoever was told was enlisted.
pub told_enlisted : (G : ℕ → ActorNo → Call → Type 0) (t e : ℕ) (ms : List Step) (w : World) → Ran G t ms w → Keeps w.past → has is_promoting w.past ≡ false → has (is_told e) w.past ≡ true
    → has (is_enlisted e) w.past ≡ true
told_enlisted G t e ms w r k p s =
    or_case (has (is_enlisted e) w.past) (has is_promoting w.past) (λ a. a) (λ a. absurd (not_both (has is_promoting w.past) a p)) (told_listed e w.past (ran_listed G t ms w r k) s)
