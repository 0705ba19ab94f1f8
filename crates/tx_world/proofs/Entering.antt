-- A call that may be entered is new to the history: its line didn't come, and what it makes neither stands nor is waited for.
use Rattle.std.proofs.Common.{◌≡◌, ℕ, zero, suc, ◌==◌, Bool, true, false, ◌||◌, not, List, [], ◌∷◌, Option, Some, None, find, map, slice_get, ◌⊎◌, inl, inr, refl, ap, sym, subst, ◌∙◌, if◌then◌else◌}
use Rattle.std.proofs.lemmas.Bool.{eqb-true, false_from_ne_true, or_left}
use Rattle.dtx_values.specs.declared.call.Call.{Call}
use Rattle.dtx_values.specs.declared.call.Call.TheVariants.{Volatile, Durable, Promotable, Clone, Lose, Gone, Reenlist, Recovered}
use Rattle.dtx_values.specs.declared.entry.Answer.{Answer}
use Rattle.dtx_values.specs.declared.entry.Entry.{Entry}
use Rattle.dtx_values.specs.declared.entry.Entry.TheVariants.{Called, Cloned, LogFull, Logged}
use Rattle.dtx_values.specs.declared.message.Conn.{Conn}
use Rattle.dtx_values.specs.declared.message.Dir.{Dir}
use Rattle.dtx_values.specs.declared.message.Dir.TheVariants.{Up, Down}
use Rattle.dtx_values.specs.declared.message.Message.{Message}
use Rattle.dtx_values.specs.declared.number.ActorNo.{ActorNo}
use Rattle.dtx_values.specs.declared.number.EnlNo.{EnlNo}
use Rattle.dtx_model.specs.Words.{each, has, kth}
use Rattle.dtx_model.specs.Entries.{is_call}
use Rattle.dtx_model.specs.Grammar.{Name, OfEnlistment, OfClone}
use Rattle.dtx_model.specs.Acts.{act_entries}
use Rattle.dtx_values.specs.Row.{is_of}
use Rattle.dtx_values.specs.Clones.{is_clone}
use Rattle.dtx_model.specs.Observed.{clone_rows, is_branch, observe, rows}
use Rattle.dtx_model.specs.Waiting.{Waiter, is_place_of, waiting, wanted_by}
use Rattle.dtx_model.specs.Promotes.{identifier_of}
use Rattle.dtx_model.specs.Coordinated.{Coordinated, follow, may_log}
use Rattle.dtx_model.specs.Facts.{facts_if, has_facts, local_facts}
use Rattle.dtx_model.specs.Replies.{reply_entries}
use Rattle.dtx_model.specs.Wires.{in_transit}
use Rattle.dtx_model.specs.declared.waiting.EnteredCall.{EnteredCall}
use Rattle.dtx_model.specs.World.{World, half, core, answer_at, cut_upward, facts_at, gone_by, open_ones}
use Rattle.dtx_model.specs.Steps.{Step, Calls, Replies, Acts, Coordinates, Delivers, Stops, Restarts, LogAnswer, Done, Full, StoppedNow, StoppedBefore, after, appended, block_at, coordinates, delivered, freed, restarted}
use Rattle.dtx_model.specs.Caused.{AreMadeOnce, IsIn, IsOwnRun, MayCome, Ran, is_new, made_by}
use Rattle.dtx_model.proofs.Bools.{and_left, and_right, not_both, not_false, not_true, or_case, or_right, three_hold}
use Rattle.dtx_model.proofs.Quiet.{Quiet, is_quiet, q_act, q_appended, q_called, q_ended_at, q_freed, q_got_by, q_if, q_reply, q_restarted}
use Rattle.dtx_model.proofs.Reading.{has-onto}
use Rattle.history_table.proofs.Lists.{of-at}
use Rattle.history_table.proofs.Makers.{IsWaiter, makes_name, ran_made}
use Rattle.history_table.proofs.EntryTests.{is_cloned}
use Rattle.history_table.proofs.TableRows.{clone_stands, enlisted_in_rows}
use Rattle.history_table.proofs.Tests.{eq_self}
use Rattle.local_half.specs.Half.{is_free, is_made_by_waiting}
use Rattle.tx_world.specs.State.{is_maker, is_name, may_enter}
use Rattle.world_laws.specs.Course.{is_far}
use Rattle.world_laws.proofs.Bare.{bare_act, bare_facts, bare_gone, bare_local_down, bare_local_got, bare_reenlist, bare_reply, is_bare}
use Rattle.dtx_model.proofs.Writes.{Each}
use Rattle.world_laws.proofs.Far.{far_abort, far_commit, far_core_down, far_core_got}

-- a list of entries that pass has none that passes another test
pub has_none : (p q : Entry → Bool) → ((x : Entry) → p x ≡ true → q x ≡ false) → (es : List Entry) → each p es ≡ true → has q es ≡ false
has_none p q f [] e = refl
has_none p q f (x ∷ es) e = by (q x) (has q es) (f x (and_left (p x) (each p es) e)) (has_none p q f es (and_right (p x) (each p es) e))
  where
    by : (a b : Bool) → a ≡ false → b ≡ false → (a || b) ≡ false
    by false b i j = j
    by true b i j = absurd (cc)

quiet_call : (n : ℕ) (x : Entry) → is_quiet x ≡ true → is_call n x ≡ false
quiet_call n (Called m a y) q = absurd (cc)
quiet_call n _ q = refl

uncalled : (n : ℕ) (es : List Entry) → Quiet es → has (is_call n) es ≡ false
uncalled n es q = has_none is_quiet (is_call n) (quiet_call n) es q.proof

-- the call of a line that came was entered
record IsEntered (G : ℕ → ActorNo → Call → Type 0) (n : ℕ) : Type 0 where
  actor : ActorNo
  call : Call
  given : G n actor call

step_called : (G : ℕ → ActorNo → Call → Type 0) (t : ℕ) (w : World) (m : Step) (n : ℕ) → MayCome G t w m → has (is_call n) (block_at t w m) ≡ true → IsEntered G n
unfolding block_at
step_called G t w (Calls l a c d) n q k =
    or_case (n == l) (has (is_call n) rest)
    (λ e. record { actor = a; call = c; given = subst (λ j. G j a c) (sym (eqb-true n l e)) q.0 })
    (λ e. absurd (not_both (has (is_call n) rest) e (uncalled n rest (q_called t w c (answer_at t w c d))))) k
  where
    rest : List Entry
    rest = facts_if (has_facts (answer_at t w c d)) (facts_at t w c (answer_at t w c d))
step_called G t w (Replies e r) n q k = absurd (not_both (has (is_call n) (reply_entries (half w) e r)) k (uncalled n (reply_entries (half w) e r) (q_reply (half w) e r)))
step_called G t w Acts n q k = absurd (not_both (has (is_call n) (act_entries (half w))) k (uncalled n (act_entries (half w)) (q_act (half w))))
step_called G t w (Coordinates a) n q k =
    absurd (not_both (has (is_call n) (coordinates (core w) a)) k (uncalled n (coordinates (core w) a) (q_if (may_log (core w)) (q_appended (core w) a) (q_freed a))))
step_called G t w (Delivers c d) n q k = absurd (not_both (has (is_call n) (delivered t w c d (in_transit c d w.past))) k (by (in_transit c d w.past)))
  where
    by : (ms : List Message) → has (is_call n) (delivered t w c d ms) ≡ false
    by [] = uncalled n _ (q_ended_at w c d)
    by (m ∷ ms) = uncalled n _ (q_got_by t w c d m)
step_called G t w Stops n q k = absurd (cc)
step_called G t w (Restarts found) n q k = absurd (not_both (has (is_call n) (restarted (core w).stopped found)) k (uncalled n (restarted (core w).stopped found) (q_restarted (core w).stopped found)))

ran_called : (G : ℕ → ActorNo → Call → Type 0) (t : ℕ) (ms : List Step) (w : World) (n : ℕ) → Ran G t ms w → has (is_call n) w.past ≡ true → IsEntered G n
unfolding after
ran_called G t [] w n r k = absurd (not_both (has (is_call n) w.past) k (ap (has (is_call n)) r.1))
ran_called G t (m ∷ ms) w n r k =
    or_case (has (is_call n) (block_at t r.0 m)) (has (is_call n) r.0.past) (λ e. step_called G t r.0 m n r.2 e) (λ e. ran_called G t ms r.0 n r.1 e)
    (sym (has-onto (is_call n) r.0.past (block_at t r.0 m)) ∙ sym (ap (λ (x : World). has (is_call n) x.past) r.3) ∙ k)

-- a call that was entered is among the calls
is_among : (ks : List EnteredCall) (n : ℕ) (a : ActorNo) (c : Call) (p : EnteredCall → Bool) → IsIn ks n a c → p (record { line = n; actor = a; call = c }) ≡ true → has p ks ≡ true
is_among ks n a c p i k = by ks i.place i.stands
  where
    by : (ks : List EnteredCall) (j : ℕ) → kth ks j ≡ Some (record { line = n; actor = a; call = c }) → has p ks ≡ true
    by ks zero s = absurd (cc)
    by [] (suc j) s = absurd (cc)
    by (x ∷ ks) (suc zero) s = or_left (p x) (has p ks) (ap p (same x s) ∙ k)
      where
        same : (x : EnteredCall) → Some x ≡ Some (record { line = n; actor = a; call = c }) → x ≡ record { line = n; actor = a; call = c }
        same x e = ap (λ (o : Option EnteredCall). or_this o x) e
          where
            or_this : Option EnteredCall → EnteredCall → EnteredCall
            or_this (Some y) z = y
            or_this None z = z
    by (x ∷ ks) (suc (suc j)) s = or_right (p x) (has p ks) (by ks (suc j) s)

-- a line that isn't among the calls didn't come
pub fresh_line : (t : ℕ) (w : World) (n : ℕ) → IsOwnRun t w → has (λ k. k.line == n) w.calls ≡ false → has (is_call n) w.past ≡ false
fresh_line t w n r none =
    false_from_ne_true (has (is_call n) w.past)
    (λ k. let e = ran_called (IsIn w.calls) t r.0 w n r.1 k in not_both (has (λ k. k.line == n) w.calls) (is_among w.calls n e.actor e.call (λ k. k.line == n) e.given (eq_self n)) none)

-- Only the call that makes a clone makes one.
abbrev is_made_clone : ℕ → Entry → Bool
is_made_clone d (Cloned c k) = d == c.value
is_made_clone d _ = false

bare_clone : (d : ℕ) (x : Entry) → is_bare x ≡ true → is_made_clone d x ≡ false
bare_clone d (Cloned c k) b = absurd (cc)
bare_clone d _ b = refl

far_clone : (d : ℕ) (x : Entry) → is_far x ≡ true → is_made_clone d x ≡ false
far_clone d (Cloned c k) f = absurd (cc)
far_clone d _ f = refl

bare_none : (d : ℕ) {es : List Entry} → Each is_bare es → has (is_made_clone d) es ≡ false
bare_none d {es} b = has_none is_bare (is_made_clone d) (bare_clone d) es b.proof

far_none : (d : ℕ) {es : List Entry} → Each is_far es → has (is_made_clone d) es ≡ false
far_none d {es} f = has_none is_far (is_made_clone d) (far_clone d) es f.proof

cuts_none : (d : ℕ) (h : List Entry) (cs : List Conn) → has (is_made_clone d) (map (cut_upward h) cs) ≡ false
cuts_none d h [] = refl
cuts_none d h (c ∷ cs) = cuts_none d h cs

gone_none : (d : ℕ) (w : World) (e : EnlNo) (cs : List Conn) → has (is_made_clone d) (gone_by w e cs) ≡ false
gone_none d w e [] = bare_none d (bare_gone (half w) e)
gone_none d w e (c ∷ cs) = cuts_none d w.past cs

-- the clone that a call's facts make
facts_clone : (d : ℕ) (t : ℕ) (w : World) (c : Call) (x : Answer) → has (is_made_clone d) (facts_at t w c x) ≡ true → made_by c ≡ Some (OfClone d)
facts_clone d t w (Clone u c k) x m = ap (λ j. Some (OfClone j)) (sym (eqb-true d c.value (only (d == c.value) m)))
  where
    only : (b : Bool) → (b || false) ≡ true → b ≡ true
    only true e = refl
    only false e = e
facts_clone d t w (Lose u c n m) x k = absurd (cc)
facts_clone d t w (Gone e) x k = absurd (not_both (has (is_made_clone d) (gone_by w e (open_ones w e))) k (gone_none d w e (open_ones w e)))
facts_clone d t w (Reenlist e) x k =
    absurd (not_both (has (is_made_clone d) (facts_at t w (Reenlist e) x)) k (bare_none d (bare_reenlist t (find (is_branch e.value) (half w).seen.branches))))
facts_clone d t w (Recovered u r) x k = absurd (cc)
facts_clone d t w c x k = absurd (not_both (has (is_made_clone d) (local_facts t (half w) c x)) k (bare_none d (bare_facts t (half w) c x refl)))

facts_if_clone : (d : ℕ) (b : Bool) (es : List Entry) → has (is_made_clone d) (facts_if b es) ≡ true → has (is_made_clone d) es ≡ true
facts_if_clone d true es k = k
facts_if_clone d false es k = absurd (cc)

record IsCloner (G : ℕ → ActorNo → Call → Type 0) (d : ℕ) : Type 0 where
  number : ℕ
  actor : ActorNo
  call : Call
  given : G number actor call
  makes : made_by call ≡ Some (OfClone d)

coordinates_none : (d : ℕ) (k : Coordinated) (a : LogAnswer) → has (is_made_clone d) (coordinates k a) ≡ false
coordinates_none d k a = by (may_log k) a
  where
    by : (b : Bool) (a : LogAnswer) → has (is_made_clone d) (if b then appended k a else freed a) ≡ false
    by true Done = far_none d (far_commit (follow k Logged))
    by true Full = far_none d (far_abort (follow k LogFull))
    by true StoppedNow = refl
    by true StoppedBefore = refl
    by false Done = refl
    by false Full = refl
    by false StoppedNow = refl
    by false StoppedBefore = refl

delivered_none : (e : ℕ) (t : ℕ) (w : World) (c : Conn) (d : Dir) (ms : List Message) → has (is_made_clone e) (delivered t w c d ms) ≡ false
delivered_none e t w c Up [] = far_none e (far_core_down (core w) c)
delivered_none e t w c Down [] = bare_none e (bare_local_down (half w) c)
delivered_none e t w c Up (m ∷ ms) = far_none e (far_core_got (identifier_of t) (core w) c m)
delivered_none e t w c Down (m ∷ ms) = bare_none e (bare_local_got t (half w) c m)

restarted_none : (e : ℕ) (stopped found : Bool) → has (is_made_clone e) (restarted stopped found) ≡ false
restarted_none e true found = refl
restarted_none e false found = refl

step_cloned : (G : ℕ → ActorNo → Call → Type 0) (t : ℕ) (w : World) (m : Step) (d : ℕ) → MayCome G t w m → has (is_made_clone d) (block_at t w m) ≡ true → IsCloner G d
unfolding block_at
step_cloned G t w (Calls l a c j) d q k =
    record {
      number = l;
      actor = a;
      call = c;
      given = q.0;
      makes = facts_clone d t w c (answer_at t w c j) (facts_if_clone d (has_facts (answer_at t w c j)) (facts_at t w c (answer_at t w c j)) k);
    }
step_cloned G t w (Replies e r) d q k = absurd (not_both (has (is_made_clone d) (reply_entries (half w) e r)) k (bare_none d (bare_reply (half w) e r)))
step_cloned G t w Acts d q k = absurd (not_both (has (is_made_clone d) (act_entries (half w))) k (bare_none d (bare_act (half w))))
step_cloned G t w (Coordinates a) d q k = absurd (not_both (has (is_made_clone d) (coordinates (core w) a)) k (coordinates_none d (core w) a))
step_cloned G t w (Delivers c e) d q k = absurd (not_both (has (is_made_clone d) (delivered t w c e (in_transit c e w.past))) k (delivered_none d t w c e (in_transit c e w.past)))
step_cloned G t w Stops d q k = absurd (cc)
step_cloned G t w (Restarts found) d q k = absurd (not_both (has (is_made_clone d) (restarted (core w).stopped found)) k (restarted_none d (core w).stopped found))

ran_cloned : (G : ℕ → ActorNo → Call → Type 0) (t : ℕ) (ms : List Step) (w : World) (d : ℕ) → Ran G t ms w → has (is_made_clone d) w.past ≡ true → IsCloner G d
unfolding after
ran_cloned G t [] w d r k = absurd (not_both (has (is_made_clone d) w.past) k (ap (has (is_made_clone d)) r.1))
ran_cloned G t (m ∷ ms) w d r k =
    or_case (has (is_made_clone d) (block_at t r.0 m)) (has (is_made_clone d) r.0.past) (λ e. step_cloned G t r.0 m d r.2 e) (λ e. ran_cloned G t ms r.0 d r.1 e)
    (sym (has-onto (is_made_clone d) r.0.past (block_at t r.0 m)) ∙ sym (ap (λ (x : World). has (is_made_clone d) x.past) r.3) ∙ k)

-- With one more call, whose name none of the others makes, each name is made once.
same_name : (x y : Name) → Some x ≡ Some y → x ≡ y
same_name x y e = cc

is_named_by : (x : Name) (d : Call) → made_by d ≡ Some x → is_maker (Some x) d ≡ true
is_named_by x (Volatile t e o v) m = subst (λ y. is_name y (Some (OfEnlistment e.value)) ≡ true) (same_name (OfEnlistment e.value) x m) (eq_self e.value)
is_named_by x (Durable t e r s) m = subst (λ y. is_name y (Some (OfEnlistment e.value)) ≡ true) (same_name (OfEnlistment e.value) x m) (eq_self e.value)
is_named_by x (Promotable t e r v o p) m = subst (λ y. is_name y (Some (OfEnlistment e.value)) ≡ true) (same_name (OfEnlistment e.value) x m) (eq_self e.value)
is_named_by x (Clone t c k) m = subst (λ y. is_name y (Some (OfClone c.value)) ≡ true) (same_name (OfClone c.value) x m) (eq_self c.value)
is_named_by x _ m = absurd (cc)

pub once_more : (ks : List EnteredCall) (n : ℕ) (a : ActorNo) (c : Call) → AreMadeOnce (IsIn ks) → has (λ k. is_maker (made_by c) k.call) ks ≡ false → AreMadeOnce (IsIn (record { line = n; actor = a; call = c } ∷ ks))
once_more ks n a c once none i j b d e f x g h p q = by (is_new_or_old g) (is_new_or_old h)
  where
    new : EnteredCall
    new = record { line = n; actor = a; call = c }

    is_new_or_old : {l : ℕ} {y : ActorNo} {z : Call} → IsIn (new ∷ ks) l y z → (new ≡ record { line = l; actor = y; call = z }) ⊎ IsIn ks l y z
    is_new_or_old {l} {y} {z} i = at i.place i.stands
      where
        at : (k : ℕ) → kth (new ∷ ks) k ≡ Some (record { line = l; actor = y; call = z }) → (new ≡ record { line = l; actor = y; call = z }) ⊎ IsIn ks l y z
        at zero s = absurd (cc)
        at (suc zero) s = inl (ap (λ (o : Option EnteredCall). or_new o) s)
          where
            or_new : Option EnteredCall → EnteredCall
            or_new (Some k) = k
            or_new None = new
        at (suc (suc k)) s = inr (record { place = suc k; stands = s })

    clash : {l : ℕ} {y : ActorNo} {z : Call} → new ≡ record { line = l; actor = y; call = z } → made_by z ≡ Some x → (m : ℕ) (u : ActorNo) (v : Call) → IsIn ks m u v → made_by v ≡ Some x → ⊥
    clash same made m u v o other =
        let mine : made_by c ≡ Some x = ap (λ (k : EnteredCall). made_by k.call) same ∙ made in
        not_both (has (λ k. is_maker (made_by c) k.call) ks) (is_among ks m u v (λ k. is_maker (made_by c) k.call) o (ap (λ y. is_maker y v) mine ∙ is_named_by x v other)) none

    by : (new ≡ record { line = i; actor = b; call = e }) ⊎ IsIn ks i b e → (new ≡ record { line = j; actor = d; call = f }) ⊎ IsIn ks j d f → i ≡ j
    by (inl s) (inl r) = sym (ap (λ (k : EnteredCall). k.line) s) ∙ ap (λ (k : EnteredCall). k.line) r
    by (inl s) (inr o) = absurd (clash s p j d f o q)
    by (inr o) (inl s) = absurd (clash s q i b e o p)
    by (inr o) (inr r) = once i j b d e f x o r p q

-- What the call makes neither stands nor is waited for, and no call of its line waits.
pub may_be_entered : (w : World) (n : ℕ) (c : Call) → may_enter w n c ≡ true → (has (λ k. k.line == n) w.calls ≡ false) × (has (λ k. is_maker (made_by c) k.call) w.calls ≡ false)
may_be_entered w n c m = (
  not_true (has (λ k. k.line == n) w.calls) (and_left (not (has (λ k. k.line == n) w.calls)) (not (has (λ k. is_maker (made_by c) k.call) w.calls)) m),
  not_true (has (λ k. is_maker (made_by c) k.call) w.calls) (and_right (not (has (λ k. k.line == n) w.calls)) (not (has (λ k. is_maker (made_by c) k.call) w.calls)) m),
)

-- no enlistment of this number was made, where no call among those entered makes it
unmade : (t : ℕ) (w : World) (e : ℕ) (c : Call) → IsOwnRun t w → made_by c ≡ Some (OfEnlistment e) → has (λ k. is_maker (made_by c) k.call) w.calls ≡ false → has (is_of e) (rows w.past) ≡ false
unmade t w e c r made none =
    false_from_ne_true (has (is_of e) (rows w.past))
    (λ k. let m = ((ran_made (IsIn w.calls) t r.0 w r.1).enlisted e (sym (enlisted_in_rows e w.past) ∙ k)).0 in
    not_both (has (λ k. is_maker (made_by c) k.call) w.calls)
    (is_among w.calls m.number m.actor m.call (λ k. is_maker (made_by c) k.call) m.may (ap (λ y. is_maker y m.call) made ∙ is_named_by (OfEnlistment e) m.call (makes_name e m.call m.passes))) none)

-- an item that passes stands somewhere
has_item : {A : Type 0} (p : A → Bool) (xs : List A) → has p xs ≡ true → (k : ℕ) × (x : A) × (slice_get xs k ≡ Some x) × (p x ≡ true)
has_item p [] h = absurd (cc)
has_item p (x ∷ xs) h = or_case (p x) (has p xs) (λ k. (0, x, refl, k)) (λ k. let rest = has_item p xs k in (suc rest.0, rest.1, rest.2, rest.3)) h

place_maker : (e n : ℕ) (c : Call) → is_place_of e (n, wanted_by c) ≡ true → made_by c ≡ Some (OfEnlistment e)
place_maker e n (Durable t f r s) k = ap (λ j. Some (OfEnlistment j)) (sym (eqb-true e f.value k))
place_maker e n _ k = absurd (cc)

-- a call that waits was entered
waiter_entered : (t : ℕ) (w : World) (p : Waiter → Bool) → IsOwnRun t w → has p (waiting w.calls w.past) ≡ true → (v : Waiter) × IsWaiter (IsIn w.calls) w.calls w.past v × (p v ≡ true)
waiter_entered t w p r k =
    let at = has_item p (waiting w.calls w.past) k in
    (at.1, of-at (IsWaiter (IsIn w.calls) w.calls w.past) (waiting w.calls w.past) at.0 at.1 (ran_made (IsIn w.calls) t r.0 w r.1).waiters at.2, at.3)

-- nor does a call wait for its place
unawaited : (t : ℕ) (w : World) (e : ℕ) (c : Call) → IsOwnRun t w → made_by c ≡ Some (OfEnlistment e) → has (λ k. is_maker (made_by c) k.call) w.calls ≡ false → has (is_place_of e) (waiting w.calls w.past) ≡ false
unawaited t w e c r made none =
    false_from_ne_true (has (is_place_of e) (waiting w.calls w.past))
    (λ k. let at = waiter_entered t w (is_place_of e) r k in
    let v = at.1 in
    let place : is_place_of e (at.0.0, wanted_by v.call) ≡ true = ap (λ y. is_place_of e (at.0.0, y)) (sym v.wants) ∙ at.2 in
    not_both (has (λ k. is_maker (made_by c) k.call) w.calls)
    (is_among w.calls at.0.0 v.actor v.call (λ k. is_maker (made_by c) k.call) v.may (ap (λ y. is_maker y v.call) made ∙ is_named_by (OfEnlistment e) v.call (place_maker e at.0.0 v.call place))) none)

-- nor a call of its line
unwaiting : (t : ℕ) (w : World) (n : ℕ) → IsOwnRun t w → has (λ k. k.line == n) w.calls ≡ false → has (λ v. n == v.0) (waiting w.calls w.past) ≡ false
unwaiting t w n r none =
    false_from_ne_true (has (λ (v : Waiter). n == v.0) (waiting w.calls w.past))
    (λ k. let at = waiter_entered t w (λ (v : Waiter). n == v.0) r k in
    let v = at.1 in
    let same : n ≡ at.0.0 = eqb-true n at.0.0 at.2 in
    not_both (has (λ k. k.line == n) w.calls) (is_among w.calls at.0.0 v.actor v.call (λ k. k.line == n) v.may (ap (λ j. j == n) (sym same) ∙ eq_self n)) none)

-- no clone of this number was made
uncloned : (t : ℕ) (w : World) (d : ℕ) (c : Call) → IsOwnRun t w → made_by c ≡ Some (OfClone d) → has (λ k. is_maker (made_by c) k.call) w.calls ≡ false → has (is_clone d) (clone_rows w.past) ≡ false
uncloned t w d c r made none =
    false_from_ne_true (has (is_clone d) (clone_rows w.past))
    (λ k. let m = ran_cloned (IsIn w.calls) t r.0 w d r.1 (same_clones d w.past ∙ (sym (clone_stands d w.past) ∙ k)) in
    not_both (has (λ k. is_maker (made_by c) k.call) w.calls)
    (is_among w.calls m.number m.actor m.call (λ k. is_maker (made_by c) k.call) m.given (ap (λ y. is_maker y m.call) made ∙ is_named_by (OfClone d) m.call m.makes)) none)
  where
    same_clones : (d : ℕ) (h : List Entry) → has (is_made_clone d) h ≡ has (is_cloned d) h
    same_clones d [] = refl
    same_clones d (Cloned c k ∷ h) = ap (λ b. (d == c.value) || b) (same_clones d h)
    same_clones d (x ∷ h) = same_clones d h

new_call : (t : ℕ) (w : World) (c : Call) → IsOwnRun t w → has (λ k. is_maker (made_by c) k.call) w.calls ≡ false → is_new (half w).seen c ≡ true
unfolding observe
new_call t w (Volatile u e o v) r none = not_false (has (is_of e.value) (rows w.past)) (unmade t w e.value (Volatile u e o v) r refl none)
new_call t w (Durable u e i x) r none = not_false (has (is_of e.value) (rows w.past)) (unmade t w e.value (Durable u e i x) r refl none)
new_call t w (Promotable u e i v o p) r none = not_false (has (is_of e.value) (rows w.past)) (unmade t w e.value (Promotable u e i v o p) r refl none)
new_call t w (Clone u d k) r none = not_false (has (is_clone d.value) (clone_rows w.past)) (uncloned t w d.value (Clone u d k) r refl none)
new_call t w _ r none = refl

not_made_waiting : (t : ℕ) (w : World) (c : Call) → IsOwnRun t w → has (λ k. is_maker (made_by c) k.call) w.calls ≡ false → is_made_by_waiting (waiting w.calls w.past) c ≡ false
not_made_waiting t w (Volatile u e o v) r none = unawaited t w e.value (Volatile u e o v) r refl none
not_made_waiting t w (Durable u e i x) r none = unawaited t w e.value (Durable u e i x) r refl none
not_made_waiting t w (Promotable u e i v o p) r none = unawaited t w e.value (Promotable u e i v o p) r refl none
not_made_waiting t w _ r none = refl

pub free_call : (t : ℕ) (w : World) (n : ℕ) (c : Call) → IsOwnRun t w → may_enter w n c ≡ true → is_free (half w) n c ≡ true
free_call t w n c r may =
    let parts = may_be_entered w n c may in
    three_hold (is_new (half w).seen c) (not (is_made_by_waiting (waiting w.calls w.past) c)) (not (has (λ (v : Waiter). n == v.0) (waiting w.calls w.past)))
    (new_call t w c r parts.1) (not_false (is_made_by_waiting (waiting w.calls w.past) c) (not_made_waiting t w c r parts.1))
    (not_false (has (λ (v : Waiter). n == v.0) (waiting w.calls w.past)) (unwaiting t w n r parts.0))
