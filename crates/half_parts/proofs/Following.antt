-- What the local side of a transaction knows after a step, where it followed the world before: its block, and of the calls only that of the step.
use Rattle.std.proofs.Common.{◌≡◌, ℕ, ◌==◌, Bool, true, false, not, List, [], ◌∷◌, Option, Some, None, is_some, refl, ap, arith, sym, ◌∙◌}
use Rattle.std.proofs.lemmas.Bool.Decides.{nat_tests}
use Rattle.dtx_values.specs.declared.call.Call.{Call}
use Rattle.dtx_values.specs.TxIds.{number_of}
use Rattle.dtx_values.specs.declared.call.Call.TheVariants.{Durable, Await, Do, Lose, Gone, Reenlist, Recovered}
use Rattle.dtx_values.specs.declared.entry.Answer.{Answer}
use Rattle.dtx_values.specs.declared.entry.Answer.TheVariants.{Fine, True, Wait}
use Rattle.dtx_values.specs.declared.entry.Entry.{Entry}
use Rattle.dtx_values.specs.declared.entry.Entry.TheVariants.{Called, Lost, Promoting}
use Rattle.dtx_values.specs.declared.note.Note.{Note}
use Rattle.dtx_values.specs.declared.note.Reply.{Reply}
use Rattle.dtx_values.specs.declared.number.ActorNo.{ActorNo}
use Rattle.dtx_values.specs.declared.number.EnlNo.{EnlNo}
use Rattle.dtx_values.specs.declared.number.RmNo.{RmNo}
use Rattle.dtx_values.specs.Support.{is_single}
use Rattle.dtx_model.specs.Words.{has, latest, or_else}
use Rattle.dtx_model.specs.Entries.{is_call}
use Rattle.dtx_model.specs.Outcome.{is_empty}
use Rattle.dtx_model.specs.Observed.{cause_of_promotion, observe, track}
use Rattle.dtx_values.specs.Table.{insert_by}
use Rattle.dtx_model.specs.declared.waiting.EnteredCall.{EnteredCall}
use Rattle.dtx_model.specs.Waiting.{call_if, managed_by, waiter_line, wanted}
use Rattle.dtx_model.specs.Half.{Half, heeds, heeds_all, is_gone, sees, stands}
use Rattle.dtx_model.specs.Acts.{act_entries}
use Rattle.dtx_model.specs.Replies.{due_of, fits, reply_entries}
use Rattle.dtx_model.specs.Facts.{call_entries, durable_facts, facts_if, has_facts, local_facts}
use Rattle.dtx_model.specs.Answers.{gone_answer, if_begun, local_answer}
use Rattle.dtx_model.specs.World.{World, half, answer_at, facts_at, gone_by, gone_unlinked, open_ones}
use Rattle.dtx_model.specs.Steps.{Step, Calls, Replies, Acts, after, block_at, entered}
use Rattle.dtx_model.specs.Caused.{IsIn, MayAnswer, MayCome, is_unpromoted}
use Rattle.dtx_values.specs.declared.words.Cause.{Cause}
use Rattle.dtx_model.proofs.Heeding.{half_behind, heeds_all_same}
use Rattle.dtx_model.proofs.Lifting.{lift_ran, still_in}
use Rattle.dtx_model.proofs.Quiet.{q_cons, q_facts, q_gone_decides}
use Rattle.half_parts.specs.Half.{Follows, Known, after as known_after, is_done, is_its_own, is_waiting_answer}
use Rattle.half_parts.specs.Taken.{with_call, with_waiter}
use Rattle.dtx_model.specs.Promotes.{is_promoting}

n_is : (n : ℕ) → (n == n) ≡ true
n_is n = grind (arith, nat_tests)

-- the world goes on by a step that may come, whose block is this
goes_on : (t : ℕ) (w : World) (h g : Half) (m : Step) (es : List Entry) → Follows t w h → MayCome (IsIn (entered m w.calls)) t w m
    → ((n : ℕ) (a : ActorNo) (c : Call) → IsIn w.calls n a c → IsIn (entered m w.calls) n a c)
    → block_at t w m ≡ es → g ≡ heeds_all (entered m []) h es → Follows t (after t w m) g
unfolding after
goes_on t w h g m es f k up b e =
    record {
      ran = (m ∷ f.ran.0, (w, lift_ran (IsIn w.calls) (IsIn (entered m w.calls)) up t f.ran.0 w f.ran.1, k, refl));
      knows =
          half_behind (IsIn (entered m w.calls)) t w m k
          ∙ ap (λ (x : Half). heeds_all (entered m []) x (block_at t w m)) f.knows
          ∙ ap (λ xs. heeds_all (entered m []) h xs) b
          ∙ sym e;
    }

-- a call of the local side
may_answer : (t : ℕ) (w : World) (c : Call) → is_its_own c ≡ true → MayAnswer t w c 0
may_answer t w (Do u k n) o = absurd (cc)
may_answer t w (Await u) o = absurd (cc)
may_answer t w _ o = tt

own_answer : (t : ℕ) (w : World) (c : Call) → is_its_own c ≡ true → answer_at t w c 0 ≡ local_answer t (half w) c 0
unfolding answer_at
own_answer t w (Lose u d n m) o = absurd (cc)
own_answer t w (Gone e) o = absurd (cc)
own_answer t w (Reenlist e) o = absurd (cc)
own_answer t w (Recovered u r) o = absurd (cc)
own_answer t w _ o = refl

own_facts : (t : ℕ) (w : World) (c : Call) (x : Answer) → is_its_own c ≡ true → facts_at t w c x ≡ local_facts t (half w) c x
own_facts t w (Lose u d n m) x o = absurd (cc)
own_facts t w (Gone e) x o = absurd (cc)
own_facts t w (Reenlist e) x o = absurd (cc)
own_facts t w (Recovered u r) x o = absurd (cc)
own_facts t w _ x o = refl

own_block : (t : ℕ) (w : World) (n : ℕ) (a : ActorNo) (c : Call) → is_its_own c ≡ true → block_at t w (Calls n a c 0) ≡ call_entries t (half w) n a c
unfolding block_at
own_block t w n a c o = rw (own_answer t w c o, own_facts t w c (local_answer t (half w) c 0) o) refl

pub called : (t : ℕ) (w : World) (h g : Half) (n : ℕ) (a : ActorNo) (c : Call) → Follows t w h → has (is_call n) w.past ≡ false → is_its_own c ≡ true
    → g ≡ heeds_all (entered (Calls n a c 0) []) h (call_entries t h n a c) → Follows t (after t w (Calls n a c 0)) g
called t w h g n a c f fresh o e =
    goes_on t w h g (Calls n a c 0) (call_entries t h n a c) f (record { place = 1; stands = refl }, fresh, may_answer t w c o)
    (still_in (record { line = n; actor = a; call = c }) w.calls) (own_block t w n a c o ∙ ap (λ (x : Half). call_entries t x n a c) f.knows) e

-- a reply that is due and fits
replied_to : (t : ℕ) (w : World) (h g : Half) (e : EnlNo) (r : Reply) (n : Note) → Follows t w h → due_of h.seen e.value ≡ Some n → fits r n ≡ true
    → g ≡ heeds_all [] h (reply_entries h e r) → Follows t (after t w (Replies e r)) g
unfolding block_at
replied_to t w h g e r n f due fit same =
    goes_on t w h g (Replies e r) (reply_entries h e r) f (n, ap (λ (x : Half). due_of x.seen e.value) f.knows ∙ due, fit) (λ m a c i. i)
    (ap (λ (x : Half). reply_entries x e r) f.knows) same

pub replied : (k g : Known) (w : World) (e : EnlNo) (r : Reply) (n : Note) → Follows (number_of k.transaction) w k.half → due_of k.half.seen e.value ≡ Some n → fits r n ≡ true
    → g ≡ known_after [] k (reply_entries k.half e r) → Follows (number_of k.transaction) (after (number_of k.transaction) w (Replies e r)) g.half
replied k g w e r n f due fit same = replied_to (number_of k.transaction) w k.half g.half e r n f due fit (ap (λ (x : Known). x.half) same)

-- the local act, where one is pending
pub acted : (t : ℕ) (w : World) (h g : Half) → Follows t w h → is_empty (act_entries h) ≡ false → g ≡ heeds_all [] h (act_entries h) → Follows t (after t w Acts) g
unfolding block_at
acted t w h g f some same =
    goes_on t w h g Acts (act_entries h) f (ap (λ (x : Half). is_empty (act_entries x)) f.knows ∙ some) (λ m a c i. i) (ap (λ (x : Half). act_entries x) f.knows) same

-- the answer where it is begun
begun_answer : (l : Option ℕ) (x : Answer) → is_some l ≡ true → if_begun l x ≡ x
begun_answer (Some d) x b = refl
begun_answer None x b = absurd (cc)

-- the call of a loss says nothing of a manager
loss_called : (n : ℕ) (a : ActorNo) (e : EnlNo) (h : Half) → heeds (entered (Calls n a (Gone e) 0) []) h (Called n a Fine) ≡ h
unfolding track
loss_called n a e h = by (n == n)
  where
    by : (b : Bool) → record { seen = h.seen; waits = h.waits; managers = managed_by (or_else (call_if b (Gone e)) None) h.managers } ≡ h
    by true = refl
    by false = refl

loss_heeded : (n : ℕ) (a : ActorNo) (e : EnlNo) (h : Half) → heeds_all (entered (Calls n a (Gone e) 0) []) h (Called n a Fine ∷ gone_unlinked h e) ≡ heeds_all [] h (gone_unlinked h e)
unfolding heeds_all
loss_heeded n a e h =
    let ks : List EnteredCall = entered (Calls n a (Gone e) 0) [] in
    ap (λ (x : Half). heeds_all ks x (gone_unlinked h e)) (loss_called n a e h)
    ∙ heeds_all_same ks h (gone_unlinked h e) (q_cons (Lost e) refl (q_gone_decides (sees h (Lost e)) e))

loss_block : (t : ℕ) (w : World) (h : Half) (n : ℕ) (a : ActorNo) (e : EnlNo) → half w ≡ h → is_some h.seen.limit ≡ true
    → gone_answer (stands h.seen e.value) (is_gone h.seen e.value) ≡ Fine → open_ones w e ≡ [] → block_at t w (Calls n a (Gone e) 0) ≡ Called n a Fine ∷ gone_unlinked h e
unfolding block_at answer_at
loss_block t w h n a e k begun there none =
    let fine : if_begun (half w).seen.limit (gone_answer (stands (half w).seen e.value) (is_gone (half w).seen e.value)) ≡ Fine =
    ap (λ (x : Half). if_begun x.seen.limit (gone_answer (stands x.seen e.value) (is_gone x.seen e.value))) k ∙ begun_answer h.seen.limit (gone_answer (stands h.seen e.value) (is_gone h.seen e.value)) begun ∙ there in
    ap (λ x. Called n a x ∷ facts_if (has_facts x) (gone_by w e (open_ones w e))) fine
    ∙ ap (λ cs. Called n a Fine ∷ gone_by w e cs) none
    ∙ ap (λ (x : Half). Called n a Fine ∷ gone_unlinked x e) k

-- the loss of an enlistment that has no open connection
pub lost : (t : ℕ) (w : World) (h g : Half) (n : ℕ) (a : ActorNo) (e : EnlNo) → Follows t w h → has (is_call n) w.past ≡ false
    → is_some h.seen.limit ≡ true → gone_answer (stands h.seen e.value) (is_gone h.seen e.value) ≡ Fine → open_ones w e ≡ []
    → g ≡ heeds_all [] h (gone_unlinked h e) → Follows t (after t w (Calls n a (Gone e) 0)) g
lost t w h g n a e f fresh begun there none same =
    goes_on t w h g (Calls n a (Gone e) 0) (Called n a Fine ∷ gone_unlinked h e) f (record { place = 1; stands = refl }, fresh, tt)
    (still_in (record { line = n; actor = a; call = Gone e }) w.calls) (loss_block t w h n a e f.knows begun there none) (same ∙ sym (loss_heeded n a e h))

-- A call that was done: its manager is known first, and then its facts.
call_known : (n : ℕ) (a : ActorNo) (c : Call) (k : Known) (x : Answer) → is_done x ≡ true → heeds (entered (Calls n a c 0) []) k.half (Called n a x) ≡ (with_call c k).half
unfolding track
call_known n a c k Fine d = by (n == n) (n_is n)
  where
    by : (b : Bool) → b ≡ true → record { seen = k.half.seen; waits = k.half.waits; managers = managed_by (or_else (call_if b c) None) k.half.managers } ≡ (with_call c k).half
    by true e = refl
    by false e = absurd (cc)
call_known n a c k True d = by (n == n) (n_is n)
  where
    by : (b : Bool) → b ≡ true → record { seen = k.half.seen; waits = k.half.waits; managers = managed_by (or_else (call_if b c) None) k.half.managers } ≡ (with_call c k).half
    by true e = refl
    by false e = absurd (cc)
call_known n a c k _ d = absurd (cc)

-- what the facts are doesn't hang on whether ok or true was answered
durable_done : (t : ℕ) (h : Half) (e : EnlNo) (r : RmNo) (single : Bool) (x : Answer) → is_done x ≡ true → durable_facts t h e r single x ≡ durable_facts t h e r single Fine
durable_done t h e r single Fine d = refl
durable_done t h e r single True d = refl
durable_done t h e r single _ d = absurd (cc)

done_facts : (t : ℕ) (h : Half) (c : Call) (x : Answer) → is_done x ≡ true → local_facts t h c x ≡ local_facts t h c Fine
done_facts t h (Durable u e r s) x d = durable_done t h e r (is_single s) x d
done_facts t h _ x d = refl

facts_follow : (x : Answer) (es : List Entry) → is_done x ≡ true → facts_if (has_facts x) es ≡ es
facts_follow Fine es d = refl
facts_follow True es d = refl
facts_follow _ es d = absurd (cc)

pub done_entries : (t : ℕ) (h : Half) (n : ℕ) (a : ActorNo) (c : Call) → is_done (local_answer t h c 0) ≡ true
    → call_entries t h n a c ≡ Called n a (local_answer t h c 0) ∷ local_facts t h c Fine
done_entries t h n a c d =
    let x = local_answer t h c 0 in
    ap (λ es. Called n a x ∷ es) (facts_follow x (local_facts t h c x) d ∙ done_facts t h c x d)

pub done_known : (t : ℕ) (k : Known) (n : ℕ) (a : ActorNo) (c : Call) → is_done (local_answer t k.half c 0) ≡ true
    → known_after (entered (Calls n a c 0) []) k (call_entries t k.half n a c) ≡ known_after [] (with_call c k) (local_facts t k.half c Fine)
unfolding heeds_all
done_known t k n a c d =
    let ks : List EnteredCall = entered (Calls n a c 0) [] in
    let x = local_answer t k.half c 0 in
    ap (known_after ks k) (done_entries t k.half n a c d)
    ∙ ap (λ (h : Half). record { transaction = k.transaction; half = heeds_all ks h (local_facts t k.half c Fine) }) (call_known n a c k x d)
    ∙ ap (λ (h : Half). record { transaction = k.transaction; half = h }) (heeds_all_same ks (with_call c k).half (local_facts t k.half c Fine) (q_facts t k.half c Fine))

-- A call that waits: what it waits for is known first, and then its facts.
wait_heard : (n : ℕ) (a : ActorNo) (c : Call) (k : Known) → heeds (entered (Calls n a c 0) []) k.half (Called n a Wait) ≡ (with_waiter n c k).half
unfolding track
wait_heard n a c k = by (n == n) (n_is n)
  where
    by : (b : Bool) → b ≡ true
        → record { seen = k.half.seen; waits = insert_by waiter_line (n, wanted (or_else (call_if b c) None)) k.half.waits; managers = k.half.managers } ≡ (with_waiter n c k).half
    by true e = refl
    by false e = absurd (cc)

pub wait_entries : (t : ℕ) (h : Half) (n : ℕ) (a : ActorNo) (c : Call) → local_answer t h c 0 ≡ Wait → call_entries t h n a c ≡ Called n a Wait ∷ local_facts t h c Wait
wait_entries t h n a c w = ap (λ x. Called n a x ∷ facts_if (has_facts x) (local_facts t h c x)) w

pub wait_known : (t : ℕ) (k : Known) (n : ℕ) (a : ActorNo) (c : Call) → local_answer t k.half c 0 ≡ Wait
    → known_after (entered (Calls n a c 0) []) k (call_entries t k.half n a c) ≡ known_after [] (with_waiter n c k) (local_facts t k.half c Wait)
unfolding heeds_all
wait_known t k n a c w =
    let ks : List EnteredCall = entered (Calls n a c 0) [] in
    ap (known_after ks k) (wait_entries t k.half n a c w)
    ∙ ap (λ (h : Half). record { transaction = k.transaction; half = heeds_all ks h (local_facts t k.half c Wait) }) (wait_heard n a c k)
    ∙ ap (λ (h : Half). record { transaction = k.transaction; half = h }) (heeds_all_same ks (with_waiter n c k).half (local_facts t k.half c Wait) (q_facts t k.half c Wait))

-- a call that wasn't done, and doesn't wait, writes its entry alone, and changes nothing that is known
no_facts : (x : Answer) (es : List Entry) → is_done x ≡ false → is_waiting_answer x ≡ false → facts_if (has_facts x) es ≡ []
no_facts Fine es d w = absurd (cc)
no_facts True es d w = absurd (cc)
no_facts Wait es d w = absurd (cc)
no_facts _ es d w = refl

unheard : (ks : List EnteredCall) (h : Half) (n : ℕ) (a : ActorNo) (x : Answer) → is_done x ≡ false → is_waiting_answer x ≡ false → heeds ks h (Called n a x) ≡ h
unfolding track
unheard ks h n a Fine d w = absurd (cc)
unheard ks h n a True d w = absurd (cc)
unheard ks h n a Wait d w = absurd (cc)
unheard ks h n a _ d w = refl

pub undone_entries : (t : ℕ) (h : Half) (n : ℕ) (a : ActorNo) (c : Call) → is_done (local_answer t h c 0) ≡ false → is_waiting_answer (local_answer t h c 0) ≡ false
    → call_entries t h n a c ≡ Called n a (local_answer t h c 0) ∷ []
undone_entries t h n a c d w =
    let x = local_answer t h c 0 in
    ap (λ es. Called n a x ∷ es) (no_facts x (local_facts t h c x) d w)

pub undone_known : (t : ℕ) (k : Known) (n : ℕ) (a : ActorNo) (c : Call) → is_done (local_answer t k.half c 0) ≡ false → is_waiting_answer (local_answer t k.half c 0) ≡ false
    → known_after (entered (Calls n a c 0) []) k (call_entries t k.half n a c) ≡ k
unfolding heeds_all
undone_known t k n a c d w =
    let ks : List EnteredCall = entered (Calls n a c 0) [] in
    ap (known_after ks k) (undone_entries t k.half n a c d w)
    ∙ ap (λ (h : Half). record { transaction = k.transaction; half = h }) (unheard ks k.half n a (local_answer t k.half c 0) d w)

-- no promotion began in a world in which none is known
unbegun : (x : Entry) → cause_of_promotion x ≡ None → is_promoting x ≡ false
unbegun (Promoting c) k = absurd (cc)
unbegun _ k = refl

none_begun : (past : List Entry) → latest cause_of_promotion past ≡ None → has is_promoting past ≡ false
none_begun [] k = refl
none_begun (x ∷ past) k = by (cause_of_promotion x) refl k (none_begun past)
  where
    by : (o : Option Cause) → cause_of_promotion x ≡ o → or_else o (latest cause_of_promotion past) ≡ None → (latest cause_of_promotion past ≡ None → has is_promoting past ≡ false)
        → has is_promoting (x ∷ past) ≡ false
    by (Some c) e k before = absurd (cc)
    by None e k before = rw (unbegun x e) (before k)

some_begun : (past : List Entry) → is_some (latest cause_of_promotion past) ≡ true → has is_promoting past ≡ true
some_begun [] k = absurd (cc)
some_begun (Promoting c ∷ past) k = refl
some_begun (x ∷ past) k = some_begun past k

-- whether a promotion began is what is known of its cause
pub unpromoted : (t : ℕ) (w : World) (h : Half) → Follows t w h → not (is_some h.seen.cause) ≡ is_unpromoted w.past
unfolding observe
unpromoted t w h f = ap (λ (x : Half). not (is_some x.seen.cause)) (sym f.knows) ∙ by (latest cause_of_promotion w.past) refl
  where
    by : (o : Option Cause) → latest cause_of_promotion w.past ≡ o → not (is_some o) ≡ not (has is_promoting w.past)
    by None k = ap not (sym (none_begun w.past k))
    by (Some c) k = ap not (sym (some_begun w.past (ap is_some k)))
