-- An enlistment comes back: what its call is answered, and what it writes and leaves where it is done.
use Rattle.std.proofs.Common.{◌≡◌, ◌≢◌, ◌∙◌, ℕ, Bool, true, false, not, ◌&&◌, ◌||◌, List, [], ◌∷◌, find, Option, Some, None, Result, refl, ap, sym, if◌then◌else◌}
use Rattle.std.proofs.lemmas.Bool.{or_left}
use Rattle.dtx_values.proofs.Ids.{number_high, number_low}
use Rattle.dtx_values.specs.Ends.{is_in}
use Rattle.dtx_values.specs.TxIds.{number_of}
use Rattle.dtx_values.specs.declared.tx_id.TxId.{TxId}
use Rattle.dtx_values.specs.Outgoing.{Outgoing, blank, written as put_out}
use Rattle.dtx_values.specs.RecoveryInfo.{IsInfo, info_bytes, is_id}
use Rattle.dtx_values.specs.declared.call.Call.TheVariants.{Reenlist}
use Rattle.dtx_values.specs.declared.entry.Answer.{Answer}
use Rattle.dtx_values.specs.declared.entry.Answer.TheVariants.{Fine, NoSuch, Finished, Over, Connected, Stopped}
use Rattle.dtx_values.specs.declared.entry.Entry.{Entry}
use Rattle.dtx_values.specs.declared.entry.Entry.TheVariants.{Called}
use Rattle.dtx_values.specs.declared.message.Info.{Info}
use Rattle.dtx_values.specs.declared.number.ActorNo.{ActorNo}
use Rattle.dtx_values.specs.declared.number.EnlNo.{EnlNo}
use Rattle.dtx_values.specs.declared.number.RmNo.{RmNo}
use Rattle.dtx_model.specs.declared.branch.Branch.{Branch}
use Rattle.dtx_model.specs.Answers.{if_begun}
use Rattle.dtx_model.specs.Caused.{is_begin_sent}
use Rattle.dtx_model.specs.Coordinated.{Coordinated, follow_all}
use Rattle.dtx_model.specs.Facts.{has_facts}
use Rattle.dtx_model.specs.Half.{Half}
use Rattle.dtx_model.specs.Observed.{is_branch}
use Rattle.dtx_model.specs.Promotes.{identifier_of}
use Rattle.dtx_model.specs.Steps.{Calls, block_at, entered}
use Rattle.dtx_model.specs.Words.{each, has, onto, past_of}
use Rattle.dtx_model.specs.World.{World, answer_at, core, half, is_connected, is_finished_there, reenlist_answer, reenlist_by, reenlist_facts}
use Rattle.dtx_model.proofs.Writes.{Each, e_cons}
use Rattle.local_half.specs.Half.{Known, after as known_after}
use Rattle.coordinator_core.specs.Kept.{Kept as CoreKept}
use Rattle.reenlist_recovery.specs.declared.refusal.ReenlistRefusal.{ReenlistRefusal}
use Rattle.reenlist_recovery.specs.Recovery.{answered, refusal_of, unless_refused}
use Rattle.world_laws.specs.Carried.{are_sendable}
use Rattle.world_laws.specs.Course.{is_near, is_written}
use Rattle.world_laws.proofs.Near.{near_reenlist}
use Rattle.world_laws.proofs.Sendable.{id_valid}
use Rattle.world_parts.specs.Entering.{return_block}
use Rattle.tx_world.specs.Kept.{Kept}
use Rattle.world_parts.specs.Managers.{returned}
use Rattle.tx_world.specs.State.{may_enter}
use Rattle.tx_world.proofs.Linking.{Linked, fine_block, linked}
use Rattle.tx_world.proofs.Onward.{half_is, near_follow_all}
use Rattle.tx_world.proofs.Written.{block_of, near_written}

-- The answer. What a check gives says the answer.
checked_back : (i : Info) (w : World) (o : Option Branch) → returned (unless_refused i (refusal_of i.enl (reenlist_by w o))) ≡ reenlist_by w o
checked_back i w None = refl
checked_back i w (Some b) = by b.enlisted (is_finished_there (half w).seen b.enlistment.value) (is_in b.manager.value (core w).recovered) (is_connected b.enlistment w.past) (core w).stopped
  where
    by : (a f o l s : Bool)
        → returned (unless_refused i (refusal_of i.enl (if not a then NoSuch else if f then Finished else if o then Over b.manager else if l then Connected b.enlistment else if s then Stopped else Fine)))
        ≡ (if not a then NoSuch else if f then Finished else if o then Over b.manager else if l then Connected b.enlistment else if s then Stopped else Fine)
    by false f o l s = refl
    by true true o l s = refl
    by true false true l s = refl
    by true false false true s = refl
    by true false false false true = refl
    by true false false false false = refl

-- the bytes that the manager hands in are the information
pub handed_in : (t : TxId) (id : ℕ) (r : RmNo) (e : EnlNo) (b : List ℕ) → id ≡ identifier_of (number_of t) → b ≡ info_bytes (record { id = id; rm = r; enl = e }) → IsInfo b (record { id = id; rm = r; enl = e })
handed_in t id r e b is bytes = record { valid = ap is_id is ∙ id_valid (number_of t) (number_low t) (number_high t); bytes = bytes }

pub reenlist_is : (t : TxId) (w : World) (h : Known) (k : CoreKept) (e : EnlNo) (m id : ℕ) (r : RmNo) (xs : List Entry) (x : Result Info ReenlistRefusal) (a : Answer) → Kept t w h k
    → a ≡ if_begun h.half.seen.limit (returned x) → x ≡ answered xs (record { id = id; rm = r; enl = e }) → past_of xs ≡ w.past → a ≡ answer_at (number_of t) w (Reenlist e) m
unfolding answer_at
reenlist_is t w h k e m id r xs x a kept told checked same =
    let i : Info = record { id = id; rm = r; enl = e } in
    told
    ∙ ap (λ (y : Result Info ReenlistRefusal). if_begun h.half.seen.limit (returned y)) checked
    ∙ ap (λ (p : List Entry). if_begun h.half.seen.limit (returned (unless_refused i (refusal_of e (reenlist_answer (record { calls = []; past = p }) e))))) same
    ∙ ap (if_begun h.half.seen.limit) (checked_back i w (find (is_branch e.value) (half w).seen.branches))
    ∙ ap (λ (g : Half). if_begun g.seen.limit (reenlist_answer w e)) (half_is t w h k kept)

-- where it isn't ok, nothing is done
refused : (l : Option ℕ) (w : World) (o : Option Branch) (a : Answer) → a ≡ if_begun l (reenlist_by w o) → a ≢ Fine → has_facts a ≡ false
refused None w o a e d = ap has_facts e
refused (Some l) w None a e d = ap has_facts e
refused (Some l) w (Some b) a e d = by b.enlisted (is_finished_there (half w).seen b.enlistment.value) (is_in b.manager.value (core w).recovered) (is_connected b.enlistment w.past) (core w).stopped e
  where
    by : (x f o l s : Bool)
        → a ≡ (if not x then NoSuch else if f then Finished else if o then Over b.manager else if l then Connected b.enlistment else if s then Stopped else Fine) → has_facts a ≡ false
    by false f o l s e = ap has_facts e
    by true true o l s e = ap has_facts e
    by true false true l s e = ap has_facts e
    by true false false true s e = ap has_facts e
    by true false false false true e = ap has_facts e
    by true false false false false e = absurd (d e)

pub reenlist_alone : (t : ℕ) (w : World) (e : EnlNo) (m : ℕ) (a : Answer) → a ≡ answer_at t w (Reenlist e) m → a ≢ Fine → has_facts a ≡ false
unfolding answer_at
reenlist_alone t w e m a is other = refused (half w).seen.limit w (find (is_branch e.value) (half w).seen.branches) a is other

-- Where it is ok, the coordinator accepted the enlistment.
accepted_one : (e : ℕ) (bs : List Branch) (b : Branch) → find (is_branch e) bs ≡ Some b → b.enlisted ≡ true → has (λ x. is_branch e x && x.enlisted) bs ≡ true
accepted_one e [] b f a = absurd cc
accepted_one e (x ∷ bs) b f a = by (λ g. accepted_one e bs b g a) (is_branch e x) refl f
  where
    by : (find (is_branch e) bs ≡ Some b → has (λ y. is_branch e y && y.enlisted) bs ≡ true) → (q : Bool) → is_branch e x ≡ q → (if q then Some x else find (is_branch e) bs) ≡ Some b
        → has (λ y. is_branch e y && y.enlisted) (x ∷ bs) ≡ true
    by rest true q g =
        let same : x ≡ b = cc in
        or_left (is_branch e x && x.enlisted) (has (λ y. is_branch e y && y.enlisted) bs) (ap (λ v. v && x.enlisted) q ∙ ap (λ (y : Branch). y.enlisted) same ∙ a)
    by rest false q g = ap (λ v. (v && x.enlisted) || has (λ y. is_branch e y && y.enlisted) bs) q ∙ rest g

fine_enlisted : (r : RmNo) (n : EnlNo) (x f o l s : Bool) → (if not x then NoSuch else if f then Finished else if o then Over r else if l then Connected n else if s then Stopped else Fine) ≡ Fine → x ≡ true
fine_enlisted r n true f o l s e = refl
fine_enlisted r n false f o l s e = absurd cc

accepted : (e : ℕ) (w : World) (l : Option ℕ) (bs : List Branch) → if_begun l (reenlist_by w (find (is_branch e) bs)) ≡ Fine → has (λ x. is_branch e x && x.enlisted) bs ≡ true
accepted e w None bs f = absurd cc
accepted e w (Some d) bs f = by (find (is_branch e) bs) refl f
  where
    by : (o : Option Branch) → find (is_branch e) bs ≡ o → reenlist_by w o ≡ Fine → has (λ x. is_branch e x && x.enlisted) bs ≡ true
    by None q g = absurd cc
    by (Some b) q g =
        accepted_one e bs b q
        (fine_enlisted b.manager b.enlistment b.enlisted (is_finished_there (half w).seen b.enlistment.value) (is_in b.manager.value (core w).recovered) (is_connected b.enlistment w.past) (core w).stopped g)

pub fine_accepted : (t : TxId) (w : World) (h : Known) (k : CoreKept) (e : EnlNo) (m : ℕ) → Kept t w h k → answer_at (number_of t) w (Reenlist e) m ≡ Fine → has (λ b. is_branch e.value b && b.enlisted) h.half.seen.branches ≡ true
unfolding answer_at
fine_accepted t w h k e m kept fine =
    ap (λ (g : Half). has (λ b. is_branch e.value b && b.enlisted) g.seen.branches) (half_is t w h k kept) ∙ accepted e.value w (half w).seen.limit (half w).seen.branches fine

-- What it writes.
silent_return : (t : ℕ) (n : ℕ) (a : ActorNo) (o : Option Branch) → has is_begin_sent (Called n a Fine ∷ reenlist_facts t o) ≡ false
silent_return t n a None = refl
silent_return t n a (Some b) = refl

near_return : (t : ℕ) (h : Half) (n : ℕ) (a : ActorNo) (e : EnlNo) → Each is_near (return_block t h n a e)
near_return t h n a e = e_cons (Called n a Fine) refl (near_reenlist t (find (is_branch e.value) h.seen.branches))

reenlist_same : (t : ℕ) (w : World) (e : EnlNo) (m : ℕ) → answer_at t w (Reenlist e) m ≡ answer_at t w (Reenlist e) 0
unfolding answer_at
reenlist_same t w e m = refl

-- It is ready to be written.
pub record Returned (t : TxId) (w : World) (n : ℕ) (a : ActorNo) (e : EnlNo) (m : ℕ) (g : Known) (k : CoreKept) (p xs : List Entry) : Type 0 where
  pub ready : Linked t w (Calls n a (Reenlist e) m) g k xs
  pub past : onto p xs ≡ onto w.past (block_at (number_of t) w (Calls n a (Reenlist e) m))
  pub written : each is_written xs ≡ true
  pub sendable : are_sendable (onto p xs) ≡ true

pub returns_back : (t : TxId) (w : World) (h g : Known) (k : CoreKept) (n : ℕ) (a : ActorNo) (e : EnlNo) (m : ℕ) (o q : Outgoing) (p xs : List Entry) → Kept t w h k → p ≡ w.past → may_enter w n (Reenlist e) ≡ true
    → answer_at (number_of t) w (Reenlist e) 0 ≡ Fine → g ≡ known_after (entered (Calls n a (Reenlist e) m) []) h (return_block (number_of h.transaction) h.half n a e)
    → xs ≡ q.entries → q ≡ put_out o (return_block (number_of h.transaction) h.half n a e) → o ≡ blank → Returned t w n a e m g k p xs
returns_back t w h g k n a e m o q p xs kept same may fine local value wrote clear =
    let es = return_block (number_of h.transaction) h.half n a e in
    let there = return_block (number_of t) (half w) n a e in
    let xs_is : xs ≡ es = block_of o q xs es value wrote clear in
    let here : es ≡ there = ap (λ (x : Known). return_block (number_of x.transaction) x.half n a e) kept.half in
    let block : xs ≡ block_at (number_of t) w (Calls n a (Reenlist e) m) = xs_is ∙ here ∙ fine_block (number_of t) w n a (Reenlist e) m (reenlist_same (number_of t) w e m ∙ fine) in
    let near : each is_near es ≡ true = (near_return (number_of h.transaction) h.half n a e).proof in
    let still : follow_all k.state xs ≡ k.state = ap (follow_all k.state) xs_is ∙ near_follow_all k.state es near in
    let l = linked t w h g k k n a (Reenlist e) m xs kept may tt block (ap (has is_begin_sent) xs_is ∙ silent_return (number_of h.transaction) n a (find (is_branch e.value) h.half.seen.branches))
    (local ∙ ap (known_after (entered (Calls n a (Reenlist e) m) []) h) (sym xs_is)) (ap (λ (s : Coordinated). record { transaction = k.transaction; state = s }) (sym still)) in
    record {
      ready = l;
      past = ap (λ (y : List Entry). onto y xs) same ∙ ap (onto w.past) block;
      written = near_written xs es xs_is near;
      sendable = ap (λ (y : List Entry). are_sendable (onto y xs)) same ∙ l.sendable;
    }
