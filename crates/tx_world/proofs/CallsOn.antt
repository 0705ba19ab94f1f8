-- A call that writes its entry alone, in a world that holds.
use Rattle.std.proofs.Common.{◌≡◌, ℕ, true, false, List, [], ◌∷◌, refl, ap, sym, ◌∙◌}
use Rattle.dtx_values.specs.declared.call.Call.{Call}
use Rattle.dtx_values.specs.TxIds.{number_of}
use Rattle.dtx_values.specs.declared.tx_id.TxId.{TxId}
use Rattle.dtx_values.specs.declared.call.Call.TheVariants.{Await, Do}
use Rattle.dtx_values.specs.declared.entry.Answer.{Answer}
use Rattle.dtx_values.specs.declared.entry.Answer.TheVariants.{Did, Fine, True, Wait}
use Rattle.dtx_values.specs.declared.entry.Entry.TheVariants.{Called}
use Rattle.dtx_values.specs.declared.number.ActorNo.{ActorNo}
use Rattle.dtx_values.specs.declared.number.TxNo.{TxNo}
use Rattle.dtx_model.specs.declared.waiting.EnteredCall.{EnteredCall}
use Rattle.dtx_model.specs.Observed.{track}
use Rattle.dtx_model.specs.Answers.{await_answer, if_begun, local_answer}
use Rattle.dtx_model.specs.Facts.{facts_if, has_facts}
use Rattle.dtx_model.specs.Half.{Half, heeds_all}
use Rattle.dtx_model.specs.World.{World, answer_at, facts_at}
use Rattle.dtx_model.specs.Steps.{Calls, block_at, entered}
use Rattle.dtx_model.specs.Caused.{MayAnswer}
use Rattle.dtx_model.specs.Coordinated.{follow, follow_all}
use Rattle.local_half.specs.Half.{Known}
use Rattle.coordinator_core.specs.Kept.{Kept as CoreKept}
use Rattle.tx_world.specs.State.{may_enter}
use Rattle.tx_world.specs.Kept.{Kept}
use Rattle.tx_world.proofs.Onward.{half_is}
use Rattle.tx_world.proofs.Linking.{Linked, linked}

-- a call that writes its entry alone changes nothing that is known
unheard : (ks : List EnteredCall) (h : Half) (n : ℕ) (a : ActorNo) (x : Answer) → has_facts x ≡ false → heeds_all ks h (Called n a x ∷ []) ≡ h
unfolding heeds_all track
unheard ks h n a Fine f = absurd (cc)
unheard ks h n a True f = absurd (cc)
unheard ks h n a Wait f = absurd (cc)
unheard ks h n a _ f = refl

alone_block : (t : ℕ) (w : World) (n : ℕ) (a : ActorNo) (c : Call) (m : ℕ) (x : Answer) → x ≡ answer_at t w c m → has_facts x ≡ false → Called n a x ∷ [] ≡ block_at t w (Calls n a c m)
unfolding block_at
alone_block t w n a c m x e f =
    ap (λ b. Called n a x ∷ facts_if b (facts_at t w c x)) (sym f) ∙ ap (λ y. Called n a y ∷ facts_if (has_facts y) (facts_at t w c y)) e

alone_followed : (k : CoreKept) (n : ℕ) (a : ActorNo) (x : Answer) → k ≡ record { transaction = k.transaction; state = follow_all k.state (Called n a x ∷ []) }
unfolding follow_all follow
alone_followed k n a x = refl

-- so it is ready to be written
pub alone_ready : (t : TxId) (w : World) (h : Known) (k : CoreKept) (n : ℕ) (a : ActorNo) (c : Call) (m : ℕ) (x : Answer) → Kept t w h k → may_enter w n c ≡ true → MayAnswer (number_of t) w c m
    → x ≡ answer_at (number_of t) w c m → has_facts x ≡ false → Linked t w (Calls n a c m) h k (Called n a x ∷ [])
alone_ready t w h k n a c m x kept may answers is silent =
    linked t w h h k k n a c m (Called n a x ∷ []) kept may answers (alone_block (number_of t) w n a c m x is silent) refl
    (ap (λ (g : Half). record { transaction = h.transaction; half = g }) (sym (unheard (entered (Calls n a c m) []) h.half n a x silent))) (alone_followed k n a x)

-- the answers of await and do
pub await_is : (t : TxId) (w : World) (h : Known) (k : CoreKept) (c : Call) (u : TxNo) (m : ℕ) (x : Answer) → Kept t w h k → c ≡ Await u → x ≡ if_begun h.half.seen.limit (await_answer h.half.seen.told_client) → x ≡ answer_at (number_of t) w c m
unfolding answer_at local_answer
await_is t w h k c u m x kept same is =
    is ∙ ap (λ (g : Half). if_begun g.seen.limit (await_answer g.seen.told_client)) (half_is t w h k kept) ∙ ap (λ d. answer_at (number_of t) w d m) (sym same)

pub did_is : (t : TxId) (w : World) (h : Known) (k : CoreKept) (c : Call) (u : TxNo) (i j m : ℕ) (x : Answer) → Kept t w h k → c ≡ Do u i j → x ≡ if_begun h.half.seen.limit (Did m) → x ≡ answer_at (number_of t) w c m
unfolding answer_at local_answer
did_is t w h k c u i j m x kept same is = is ∙ ap (λ (g : Half). if_begun g.seen.limit (Did m)) (half_is t w h k kept) ∙ ap (λ d. answer_at (number_of t) w d m) (sym same)
