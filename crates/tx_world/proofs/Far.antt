-- A call that the local side doesn't answer alone: what it is answered, and that it writes its entry alone where that isn't ok.
use Rattle.std.proofs.Common.{◌≡◌, ◌≢◌, ◌∙◌, ℕ, true, false, Option, Some, None, refl, ap, sym}
use Rattle.dtx_values.specs.declared.call.Call.{Call}
use Rattle.dtx_values.specs.declared.call.Call.TheVariants.{Await, Do, Lose, Gone, Reenlist, Recovered}
use Rattle.dtx_values.specs.declared.entry.Answer.{Answer}
use Rattle.dtx_values.specs.declared.entry.Answer.TheVariants.{Did, Fine}
use Rattle.dtx_values.specs.declared.words.Outcome.{Outcome}
use Rattle.dtx_model.specs.Answers.{await_answer, if_begun, local_answer}
use Rattle.dtx_model.specs.Facts.{has_facts}
use Rattle.dtx_model.specs.World.{World, answer_at, half}
use Rattle.world_parts.specs.Entering.{is_local, is_near, is_unlinked}
use Rattle.tx_world.specs.State.{is_linking}
use Rattle.tx_world.proofs.Calling.{own_local}
use Rattle.tx_world.proofs.Leaving.{gone_alone}
use Rattle.tx_world.proofs.Linking.{lose_alone}
use Rattle.tx_world.proofs.Managing.{recovered_alone}
use Rattle.tx_world.proofs.Reenlisting.{reenlist_alone}
use Rattle.tx_world.proofs.Unlogged.{did_silent}

-- what the local side answers alone it may be given
pub near_local : (w : World) (c : Call) → is_near w c ≡ true → is_local c ≡ true
near_local w (Gone e) n = refl
near_local w c n = own_local c n

pub near_unlinked : (w : World) (c : Call) → is_near w c ≡ true → is_unlinked w c ≡ true
near_unlinked w (Gone e) n = n
near_unlinked w _ n = refl

-- an answer to an `await` has no facts
await_silent : (o : Option ℕ) (told : Option Outcome) (a : Answer) → a ≡ if_begun o (await_answer told) → has_facts a ≡ false
await_silent (Some d) (Some x) a is = ap has_facts is
await_silent (Some d) None a is = ap has_facts is
await_silent None told a is = ap has_facts is

-- what isn't answered ok writes its entry alone
pub far_alone : (t : ℕ) (w : World) (c : Call) (m : ℕ) (a : Answer) → is_near w c ≡ false → a ≡ answer_at t w c m → a ≢ Fine → has_facts a ≡ false
unfolding answer_at local_answer
far_alone t w (Await u) m a f is other = await_silent (half w).seen.limit (half w).seen.told_client a is
far_alone t w (Do u k n) m a f is other = did_silent (half w).seen.limit m a is
far_alone t w (Lose u c x y) m a f is other = lose_alone t w u c x y m a is other
far_alone t w (Gone e) m a f is other = gone_alone t w e m a is other
far_alone t w (Reenlist e) m a f is other = reenlist_alone t w e m a is other
far_alone t w (Recovered u r) m a f is other = recovered_alone t w u r m a is other
far_alone t w _ m a f is other = absurd cc

-- An `await` and a `do` are never answered ok, so what is answered so is a loss, or asks for a manager.
never_fine : (a : Answer) → has_facts a ≡ false → a ≡ Fine → ⊥
never_fine a silent is = never (sym silent ∙ ap has_facts is)
  where
    never : false ≡ true → ⊥
    never e = absurd cc

pub far_linking : (t : ℕ) (w : World) (c : Call) (m : ℕ) → is_near w c ≡ false → answer_at t w c m ≡ Fine → is_linking c ≡ true
unfolding answer_at local_answer
far_linking t w (Await u) m f fine =
    let a = if_begun (half w).seen.limit (await_answer (half w).seen.told_client) in
    absurd (never_fine a (await_silent (half w).seen.limit (half w).seen.told_client a refl) fine)
far_linking t w (Do u k n) m f fine =
    let a = if_begun (half w).seen.limit (Did m) in
    absurd (never_fine a (did_silent (half w).seen.limit m a refl) fine)
far_linking t w (Lose u c x y) m f fine = refl
far_linking t w (Gone e) m f fine = refl
far_linking t w (Reenlist e) m f fine = refl
far_linking t w (Recovered u r) m f fine = refl
far_linking t w _ m f fine = absurd cc

-- and its answer doesn't go by a number of steps
pub fine_there : (t : ℕ) (w : World) (c d : Call) (m : ℕ) → c ≡ d → is_linking d ≡ true → answer_at t w c m ≡ Fine → answer_at t w d 0 ≡ Fine
unfolding answer_at
fine_there t w c (Lose u n x y) m is l fine = ap (λ (x : Call). answer_at t w x m) (sym is) ∙ fine
fine_there t w c (Gone e) m is l fine = ap (λ (x : Call). answer_at t w x m) (sym is) ∙ fine
fine_there t w c (Reenlist e) m is l fine = ap (λ (x : Call). answer_at t w x m) (sym is) ∙ fine
fine_there t w c (Recovered u r) m is l fine = ap (λ (x : Call). answer_at t w x m) (sym is) ∙ fine
fine_there t w c _ m is l fine = absurd cc
