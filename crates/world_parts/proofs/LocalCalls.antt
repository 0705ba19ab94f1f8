-- What a call that the local side answers alone writes, and what it leaves of the local side.
use Rattle.std.proofs.Common.{◌≡◌, ◌≢◌, ◌∙◌, ℕ, Bool, true, false, List, [], ◌∷◌, Option, Some, None, refl, ap, sym, find}
use Rattle.dtx_values.specs.declared.call.Call.{Call}
use Rattle.dtx_values.specs.TxIds.{number_of}
use Rattle.dtx_values.specs.declared.call.Call.TheVariants.{Durable, Promotable, Await, Do, Gone, Reenlist}
use Rattle.dtx_values.specs.declared.entry.Answer.{Answer}
use Rattle.dtx_values.specs.declared.entry.Answer.TheVariants.{Did, Fine, True, Wait}
use Rattle.dtx_values.specs.declared.entry.Entry.{Entry}
use Rattle.dtx_values.specs.declared.entry.Entry.TheVariants.{Called, Lost as LostEntry}
use Rattle.dtx_values.specs.declared.number.ActorNo.{ActorNo}
use Rattle.dtx_values.specs.declared.number.EnlNo.{EnlNo}
use Rattle.dtx_values.specs.declared.number.RmNo.{RmNo}
use Rattle.dtx_values.specs.declared.number.TxNo.{TxNo}
use Rattle.dtx_values.specs.declared.words.Outcome.{Outcome}
use Rattle.dtx_model.specs.Observed.{track, is_branch}
use Rattle.dtx_model.specs.Answers.{await_answer, gone_answer, if_begun, local_answer}
use Rattle.dtx_model.specs.Facts.{call_entries, facts_if, has_facts}
use Rattle.dtx_model.specs.Half.{Half, heeds, heeds_all, is_gone, sees, stands}
use Rattle.dtx_model.specs.declared.waiting.EnteredCall.{EnteredCall}
use Rattle.dtx_model.specs.Waiting.{managed_by}
use Rattle.dtx_model.specs.World.{gone_unlinked, reenlist_facts}
use Rattle.dtx_model.specs.Steps.{Calls, entered}
use Rattle.dtx_model.proofs.Heeding.{heeds_all_same}
use Rattle.dtx_model.proofs.Quiet.{Quiet, q_cons, q_gone_decides}
use Rattle.history_table.proofs.Tests.{eq_self}
use Rattle.local_half.specs.Half.{Known, after as known_after, is_its_own, is_waiting_answer}
use Rattle.world_parts.specs.Entering.{called_with, half_answer, is_local, local_call, return_block}
use Rattle.dtx_model.specs.declared.branch.Branch.{Branch}

-- a call that names no manager
abbrev is_unmanaged : Call → Bool
is_unmanaged (Durable t e r s) = false
is_unmanaged (Promotable t e r v o p) = false
is_unmanaged c = true

manages_none : (c : Call) (ms : List (EnlNo × RmNo)) → is_unmanaged c ≡ true → managed_by (Some c) ms ≡ ms
manages_none (Durable t e r s) ms u = absurd cc
manages_none (Promotable t e r v o p) ms u = absurd cc
manages_none _ ms u = refl

-- the entry of such a call changes nothing of what is known
pub call_heeded : (h : Half) (n : ℕ) (a : ActorNo) (c : Call) (x : Answer) → is_unmanaged c ≡ true → is_waiting_answer x ≡ false → heeds (record { line = n; actor = a; call = c } ∷ []) h (Called n a x) ≡ h
unfolding track
call_heeded h n a c Wait u k = absurd cc
call_heeded h n a c Fine u k = rw (eq_self n, manages_none c h.managers u) refl
call_heeded h n a c True u k = rw (eq_self n, manages_none c h.managers u) refl
call_heeded h n a c _ u k = refl

called_alone : (h : Known) (n : ℕ) (a : ActorNo) (c : Call) (x : Answer) → is_unmanaged c ≡ true → is_waiting_answer x ≡ false → h ≡ known_after (record { line = n; actor = a; call = c } ∷ []) h (Called n a x ∷ [])
unfolding heeds_all
called_alone h n a c x u k = ap (λ (g : Half). record { transaction = h.transaction; half = g }) (sym (call_heeded h.half n a c x u k))

-- the block of a call that the half answers itself
pub own_answer : (t : ℕ) (h : Half) (c : Call) (m : ℕ) → is_its_own c ≡ true → local_answer t h c 0 ≡ half_answer t h c m
unfolding local_answer
own_answer t h (Await u) m k = absurd cc
own_answer t h (Do u j i) m k = absurd cc
own_answer t h (Gone e) m k = absurd cc
own_answer t h _ m k = refl

pub own_call : (t : ℕ) (h : Half) (n : ℕ) (a : ActorNo) (c : Call) (m : ℕ) → is_its_own c ≡ true → call_entries t h n a c ≡ local_call t h n a c m
unfolding local_answer
own_call t h n a (Await u) m k = absurd cc
own_call t h n a (Do u j i) m k = absurd cc
own_call t h n a (Gone e) m k = absurd cc
own_call t h n a _ m k = refl

-- no facts are none
facts_none : (b : Bool) → facts_if b [] ≡ []
facts_none true = refl
facts_none false = refl

-- what a `do` and an `await` are answered
pub do_answer : (t : ℕ) (h : Half) (c : Call) (u : TxNo) (k i m : ℕ) → c ≡ Do u k i → if_begun h.seen.limit (Did m) ≡ half_answer t h c m
unfolding local_answer
do_answer t h c u k i m e = rw e refl

pub await_answered : (t : ℕ) (h : Half) (c : Call) (u : TxNo) (m : ℕ) → c ≡ Await u → if_begun h.seen.limit (await_answer h.seen.told_client) ≡ half_answer t h c m
unfolding local_answer
await_answered t h c u m e = rw e refl

did_wait : (l : Option ℕ) (m : ℕ) → is_waiting_answer (if_begun l (Did m)) ≡ false
did_wait None m = refl
did_wait (Some d) m = refl

await_wait : (l : Option ℕ) (x : Option Outcome) → is_waiting_answer (if_begun l (await_answer x)) ≡ false
await_wait None x = refl
await_wait (Some d) (Some x) = refl
await_wait (Some d) None = refl

-- their block is their entry alone, and it leaves the local side as it was
abbrev pub is_told : Call → Bool
is_told (Await u) = true
is_told (Do u k n) = true
is_told _ = false

pub told_block : (t : ℕ) (h : Half) (n : ℕ) (a : ActorNo) (c : Call) (m : ℕ) → is_told c ≡ true → Called n a (half_answer t h c m) ∷ [] ≡ local_call t h n a c m
told_block t h n a (Await u) m k = let x = half_answer t h (Await u) m in ap (λ (es : List Entry). Called n a x ∷ es) (sym (facts_none (has_facts x)))
told_block t h n a (Do u j i) m k = let x = half_answer t h (Do u j i) m in ap (λ (es : List Entry). Called n a x ∷ es) (sym (facts_none (has_facts x)))
told_block t h n a _ m k = absurd cc

told_wait : (t : ℕ) (h : Half) (c : Call) (m : ℕ) → is_told c ≡ true → is_waiting_answer (half_answer t h c m) ≡ false
unfolding local_answer
told_wait t h (Await u) m k = await_wait h.seen.limit h.seen.told_client
told_wait t h (Do u j i) m k = did_wait h.seen.limit m
told_wait t h _ m k = absurd cc

told_unmanaged : (c : Call) → is_told c ≡ true → is_unmanaged c ≡ true
told_unmanaged (Durable t e r s) o = absurd cc
told_unmanaged (Promotable t e r v x p) o = absurd cc
told_unmanaged _ o = refl

pub told_known : (h : Known) (n : ℕ) (a : ActorNo) (c : Call) (m : ℕ) → is_told c ≡ true → h ≡ known_after (entered (Calls n a c m) []) h (local_call (number_of h.transaction) h.half n a c m)
told_known h n a c m k =
    called_alone h n a c (half_answer (number_of h.transaction) h.half c m) (told_unmanaged c k) (told_wait (number_of h.transaction) h.half c m k)
    ∙ ap (known_after (entered (Calls n a c m) []) h) (told_block (number_of h.transaction) h.half n a c m k)

-- a `gone` is done where it is answered ok, and never waits
gone_done : (limit : Option ℕ) (stands lost : Bool) (x : Answer) → x ≡ if_begun limit (gone_answer stands lost) → x ≢ Fine → has_facts x ≡ false
gone_done None stands lost x e d = rw e refl
gone_done (Some l) false lost x e d = rw e refl
gone_done (Some l) true true x e d = rw e refl
gone_done (Some l) true false x e d = absurd (d e)

gone_waits : (limit : Option ℕ) (stands lost : Bool) → is_waiting_answer (if_begun limit (gone_answer stands lost)) ≡ false
gone_waits None stands lost = refl
gone_waits (Some l) false lost = refl
gone_waits (Some l) true true = refl
gone_waits (Some l) true false = refl

gone_wait : (t : ℕ) (h : Half) (e : EnlNo) (x : Answer) → x ≡ half_answer t h (Gone e) 0 → is_waiting_answer x ≡ false
gone_wait t h e x k = ap is_waiting_answer k ∙ gone_waits h.seen.limit (stands h.seen e.value) (is_gone h.seen e.value)

-- the block of a `gone` that is answered ok, and of one that isn't
pub gone_fine : (t : ℕ) (h : Half) (n : ℕ) (a : ActorNo) (e : EnlNo) (x : Answer) → x ≡ half_answer t h (Gone e) 0 → x ≡ Fine → Called n a x ∷ gone_unlinked h e ≡ local_call t h n a (Gone e) 0
gone_fine t h n a e x k f = ap (λ (y : Answer). Called n a x ∷ facts_if (has_facts y) (gone_unlinked h e)) (sym f) ∙ ap (λ (y : Answer). called_with t h n a (Gone e) y) k

pub gone_refused : (t : ℕ) (h : Half) (n : ℕ) (a : ActorNo) (e : EnlNo) (x : Answer) → x ≡ half_answer t h (Gone e) 0 → x ≢ Fine → Called n a x ∷ [] ≡ local_call t h n a (Gone e) 0
gone_refused t h n a e x k d =
    ap (λ (b : Bool). Called n a x ∷ facts_if b (gone_unlinked h e)) (sym (gone_done h.seen.limit (stands h.seen e.value) (is_gone h.seen e.value) x k d))
    ∙ ap (λ (y : Answer). called_with t h n a (Gone e) y) k

-- what the local side knows after it
gone_quiet : (h : Half) (e : EnlNo) → Quiet (gone_unlinked h e)
gone_quiet h e = q_cons (LostEntry e) refl (q_gone_decides (sees h (LostEntry e)) e)

pub gone_known : (h : Known) (n : ℕ) (a : ActorNo) (e : EnlNo) (x : Answer) → x ≡ half_answer (number_of h.transaction) h.half (Gone e) 0 → x ≡ Fine
    → known_after [] h (gone_unlinked h.half e) ≡ known_after (entered (Calls n a (Gone e) 0) []) h (local_call (number_of h.transaction) h.half n a (Gone e) 0)
unfolding heeds_all
gone_known h n a e x k f =
    let mine : List EnteredCall = record { line = n; actor = a; call = Gone e } ∷ [] in
    ap (λ (g : Half). record { transaction = h.transaction; half = g }) (sym (heeds_all_same mine h.half (gone_unlinked h.half e) (gone_quiet h.half e)))
    ∙ ap (λ (g : Half). record { transaction = h.transaction; half = heeds_all mine g (gone_unlinked h.half e) }) (sym (call_heeded h.half n a (Gone e) x refl (gone_wait (number_of h.transaction) h.half e x k)))
    ∙ ap (known_after mine h) (gone_fine (number_of h.transaction) h.half n a e x k f)

pub not_gone_known : (h : Known) (n : ℕ) (a : ActorNo) (e : EnlNo) (x : Answer) → x ≡ half_answer (number_of h.transaction) h.half (Gone e) 0 → x ≢ Fine
    → h ≡ known_after (entered (Calls n a (Gone e) 0) []) h (local_call (number_of h.transaction) h.half n a (Gone e) 0)
not_gone_known h n a e x k d =
    called_alone h n a (Gone e) x refl (gone_wait (number_of h.transaction) h.half e x k) ∙ ap (known_after (entered (Calls n a (Gone e) 0) []) h) (gone_refused (number_of h.transaction) h.half n a e x k d)

-- the half itself answers what is no do, no await and no gone
pub answers_itself : (c : Call) → is_local c ≡ true → ((t : TxNo) → c ≡ Await t → ⊥) → ((t : TxNo) (k n : ℕ) → c ≡ Do t k n → ⊥) → ((e : EnlNo) → c ≡ Gone e → ⊥) → is_its_own c ≡ true
answers_itself (Await t) k a d g = absurd (a t refl)
answers_itself (Do t j n) k a d g = absurd (d t j n refl)
answers_itself (Gone e) k a d g = absurd (g e refl)
answers_itself _ k a d g = k

-- What an enlistment that comes back writes.
quiet_return : (t : ℕ) (o : Option Branch) → Quiet (reenlist_facts t o)
quiet_return t None = record { proof = refl }
quiet_return t (Some b) = record { proof = refl }

-- what the local side knows after it
pub return_known : (h : Known) (n : ℕ) (a : ActorNo) (e : EnlNo) (m : ℕ)
    → known_after [] h (reenlist_facts (number_of h.transaction) (find (is_branch e.value) h.half.seen.branches)) ≡ known_after (entered (Calls n a (Reenlist e) m) []) h (return_block (number_of h.transaction) h.half n a e)
unfolding heeds_all
return_known h n a e m =
    let mine : List EnteredCall = record { line = n; actor = a; call = Reenlist e } ∷ [] in
    let o = find (is_branch e.value) h.half.seen.branches in
    let es = reenlist_facts (number_of h.transaction) o in
    ap (λ (g : Half). record { transaction = h.transaction; half = g }) (sym (heeds_all_same mine h.half es (quiet_return (number_of h.transaction) o)))
    ∙ ap (λ (g : Half). record { transaction = h.transaction; half = heeds_all mine g es }) (sym (call_heeded h.half n a (Reenlist e) Fine refl refl))
