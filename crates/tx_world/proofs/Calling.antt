-- A call that the local side answers alone, in a world: its answer and its block are the world's, and it is ready to be written.
use Rattle.std.proofs.Common.{◌≡◌, ◌∙◌, ℕ, Bool, true, false, List, [], ◌∷◌, ◌++◌, refl, ap, sym}
use Rattle.dtx_values.specs.Outgoing.{Outgoing, blank, written as put_out}
use Rattle.dtx_values.specs.TxIds.{number_of}
use Rattle.dtx_values.specs.declared.tx_id.TxId.{TxId}
use Rattle.dtx_values.specs.declared.call.Call.{Call}
use Rattle.dtx_values.specs.declared.call.Call.TheVariants.{Lose, Gone, Reenlist, Recovered}
use Rattle.dtx_values.specs.declared.entry.Answer.{Answer}
use Rattle.dtx_values.specs.declared.entry.Entry.{Entry}
use Rattle.dtx_values.specs.declared.entry.Entry.TheVariants.{Called}
use Rattle.dtx_values.specs.declared.number.ActorNo.{ActorNo}
use Rattle.dtx_values.specs.declared.number.EnlNo.{EnlNo}
use Rattle.dtx_model.specs.Facts.{facts_if, has_facts}
use Rattle.dtx_model.specs.Half.{Half}
use Rattle.dtx_model.specs.declared.waiting.EnteredCall.{EnteredCall}
use Rattle.dtx_model.specs.Words.{each, past_of}
use Rattle.dtx_model.specs.World.{World, half, answer_at, facts_at, gone_by, gone_unlinked, open_ones}
use Rattle.dtx_model.specs.Steps.{Calls, block_at, entered}
use Rattle.dtx_model.specs.Caused.{AreMadeOnce, IsIn, MayAnswer, MayCome}
use Rattle.dtx_values.specs.declared.message.Conn.{Conn}
use Rattle.dtx_model.specs.Outcome.{is_empty}
use Rattle.dtx_model.proofs.Histories.{past_of-snoc}
use Rattle.local_half.specs.Half.{Known, after as known_after, is_free, is_its_own}
use Rattle.coordinator_core.specs.Kept.{Kept as CoreKept}
use Rattle.world_laws.specs.Course.{is_near}
use Rattle.world_parts.specs.Entering.{called_with, half_answer, half_facts, is_local, is_unlinked, local_call}
use Rattle.tx_world.specs.Kept.{Kept}
use Rattle.tx_world.specs.State.{may_enter}
use Rattle.dtx_model.proofs.Writes.{Each, e_cons, e_none}
use Rattle.tx_world.proofs.Entering.{free_call, fresh_line, may_be_entered, once_more}
use Rattle.world_laws.proofs.Near.{near_facts, near_gone}
use Rattle.tx_world.proofs.Onward.{half_is, near_kept}
use Rattle.tx_world.proofs.Written.{Ready, block_of, ready}

-- what the half itself answers, the local side answers alone
pub own_local : (c : Call) → is_its_own c ≡ true → is_local c ≡ true
own_local (Lose t c u w) k = absurd cc
own_local (Reenlist e) k = absurd cc
own_local (Recovered t r) k = absurd cc
own_local _ k = refl

pub own_unlinked : (w : World) (c : Call) → is_its_own c ≡ true → is_unlinked w c ≡ true
own_unlinked w (Gone e) k = absurd cc
own_unlinked w _ k = refl

-- its answer and its block in the world
pub answer_is : (t : ℕ) (w : World) (c : Call) (m : ℕ) → is_local c ≡ true → half_answer t (half w) c m ≡ answer_at t w c m
unfolding answer_at
answer_is t w (Lose u c i j) m k = absurd cc
answer_is t w (Reenlist e) m k = absurd cc
answer_is t w (Recovered u r) m k = absurd cc
answer_is t w _ m k = refl

gone_alone : (w : World) (e : EnlNo) (cs : List Conn) → is_empty cs ≡ true → gone_unlinked (half w) e ≡ gone_by w e cs
gone_alone w e [] k = refl
gone_alone w e (c ∷ cs) k = absurd cc

facts_are : (t : ℕ) (w : World) (c : Call) (x : Answer) → is_local c ≡ true → is_unlinked w c ≡ true → half_facts t (half w) c x ≡ facts_at t w c x
facts_are t w (Lose u c i j) x k l = absurd cc
facts_are t w (Gone e) x k l = gone_alone w e (open_ones w e) l
facts_are t w (Reenlist e) x k l = absurd cc
facts_are t w (Recovered u r) x k l = absurd cc
facts_are t w _ x k l = refl

call_block : (t : ℕ) (w : World) (n : ℕ) (a : ActorNo) (c : Call) (m : ℕ) → is_local c ≡ true → is_unlinked w c ≡ true → local_call t (half w) n a c m ≡ block_at t w (Calls n a c m)
unfolding block_at
call_block t w n a c m k l =
    ap (called_with t (half w) n a c) (answer_is t w c m k)
    ∙ ap (λ (es : List Entry). Called n a (answer_at t w c m) ∷ facts_if (has_facts (answer_at t w c m)) es) (facts_are t w c (answer_at t w c m) k l)

near_half : (t : ℕ) (h : Half) (c : Call) (x : Answer) → Each is_near (half_facts t h c x)
near_half t h (Gone e) x = near_gone h e
near_half t h c x = near_facts t h c x

pub near_if : (b : Bool) {es : List Entry} → Each is_near es → Each is_near (facts_if b es)
near_if true n = n
near_if false n = e_none

near_call : (t : ℕ) (h : Half) (n : ℕ) (a : ActorNo) (c : Call) (m : ℕ) → Each is_near (local_call t h n a c m)
near_call t h n a c m = let x = half_answer t h c m in e_cons (Called n a x) refl (near_if (has_facts x) (near_half t h c x))

-- a call that may be entered may come
pub may_come : (t : TxId) (w : World) (h : Known) (k : CoreKept) (n : ℕ) (a : ActorNo) (c : Call) (m : ℕ) → Kept t w h k → may_enter w n c ≡ true → MayAnswer (number_of t) w c m
    → MayCome (IsIn (entered (Calls n a c m) w.calls)) (number_of t) w (Calls n a c m)
may_come t w h k n a c m kept may answers =
    (record { place = 1; stands = refl }, fresh_line (number_of t) w n kept.ran (may_be_entered w n c may).0, answers)

pub call_once : (t : TxId) (w : World) (h : Known) (k : CoreKept) (n : ℕ) (a : ActorNo) (c : Call) (m : ℕ) → Kept t w h k → may_enter w n c ≡ true → AreMadeOnce (IsIn (entered (Calls n a c m) w.calls))
call_once t w h k n a c m kept may = once_more w.calls n a c kept.once (may_be_entered w n c may).1

-- it is free at the half
pub free_there : (t : TxId) (w : World) (h : Known) (k : CoreKept) (n : ℕ) (c : Call) → Kept t w h k → may_enter w n c ≡ true → is_free h.half n c ≡ true
free_there t w h k n c kept may = ap (λ (x : Half). is_free x n c) (half_is t w h k kept) ∙ free_call (number_of t) w n c kept.ran may

-- and ready to be written
pub call_ready : (t : TxId) (w : World) (h g : Known) (k : CoreKept) (n : ℕ) (a : ActorNo) (c : Call) (m : ℕ) (o q : Outgoing) (p xs : List Entry) → Kept t w h k → p ≡ w.past → is_local c ≡ true → is_unlinked w c ≡ true → may_enter w n c ≡ true
    → MayAnswer (number_of t) w c m → g ≡ known_after (entered (Calls n a c m) []) h (local_call (number_of h.transaction) h.half n a c m) → xs ≡ q.entries → q ≡ put_out o (local_call (number_of h.transaction) h.half n a c m) → o ≡ blank
    → Ready t w (Calls n a c m) g k p xs
call_ready t w h g k n a c m o q p xs kept same near alone may answers local value wrote clear =
    let es = local_call (number_of h.transaction) h.half n a c m in
    let block : es ≡ block_at (number_of t) w (Calls n a c m) =
    ap (λ (x : Known). local_call (number_of x.transaction) x.half n a c m) kept.half ∙ call_block (number_of t) w n a c m near alone in
    let come = may_come t w h k n a c m kept may answers in
    let once = call_once t w h k n a c m kept may in
    let calm : each is_near (block_at (number_of t) w (Calls n a c m)) ≡ true = ap (each is_near) (sym block) ∙ (near_call (number_of h.transaction) h.half n a c m).proof in
    ready t w (Calls n a c m) h g k p xs kept same come once
    (near_kept t w (Calls n a c m) h g k kept come once (local ∙ ap (known_after (entered (Calls n a c m) []) h) block) calm)
    (block_of o q xs es value wrote clear ∙ block) calm

pub answer_there : (t : TxId) (w : World) (h : Known) (k : CoreKept) (c : Call) (m : ℕ) → Kept t w h k → is_local c ≡ true → half_answer (number_of h.transaction) h.half c m ≡ answer_at (number_of t) w c m
answer_there t w h k c m kept near = ap (λ (x : Known). half_answer (number_of x.transaction) x.half c m) kept.half ∙ answer_is (number_of t) w c m near

-- the calls with one more
pub with_call : (ks js ls : List EnteredCall) (k : EnteredCall) → ls ≡ js ++ k ∷ [] → js ≡ ks → past_of ls ≡ k ∷ past_of ks
with_call ks js ls k e f = ap (λ (xs : List EnteredCall). past_of xs) (e ∙ ap (λ (xs : List EnteredCall). xs ++ k ∷ []) f) ∙ past_of-snoc ks k
