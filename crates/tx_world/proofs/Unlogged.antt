-- A step that sends no BEGIN is done whatever the log is; and what a `do` writes.
use Rattle.std.proofs.Common.{◌≡◌, ◌∙◌, ℕ, Bool, true, false, ◌&&◌, not, ◌∷◌, List, Option, Some, None, Result, Ok, Err, OnOk, is_some, refl, sym, ap, subst, if◌then◌else◌}
use Rattle.dtx_values.specs.declared.call.Call.{Call}
use Rattle.dtx_values.specs.TxIds.{number_of}
use Rattle.dtx_values.specs.declared.tx_id.TxId.{TxId}
use Rattle.dtx_values.specs.declared.call.Call.TheVariants.{Do}
use Rattle.dtx_values.specs.declared.entry.Answer.{Answer}
use Rattle.dtx_values.specs.declared.entry.Answer.TheVariants.{Did}
use Rattle.dtx_values.specs.declared.entry.Entry.{Entry}
use Rattle.dtx_values.specs.declared.entry.Entry.TheVariants.{Called}
use Rattle.dtx_values.specs.declared.number.ActorNo.{ActorNo}
use Rattle.dtx_model.specs.declared.waiting.EnteredCall.{EnteredCall}
use Rattle.dtx_model.specs.Words.{onto}
use Rattle.dtx_model.specs.Answers.{if_begun, local_answer}
use Rattle.dtx_model.specs.Facts.{facts_if, has_facts}
use Rattle.dtx_model.specs.World.{World, answer_at, facts_at, half}
use Rattle.dtx_model.specs.Steps.{Step, Calls, Stops, after, block_at, entered}
use Rattle.coordinator_log.specs.State.{LogState}
use Rattle.local_half.specs.Half.{Known}
use Rattle.coordinator_core.specs.Kept.{Kept as CoreKept}
use Rattle.tx_world.specs.AtLog.{Kept as LogKept}
use Rattle.tx_world.specs.Kept.{Kept}
use Rattle.tx_world.specs.State.{TxState, sends_begin, turned}
use Rattle.tx_world.specs.Stepping.{Does, DoesAt, IsAnswered}
use Rattle.tx_world.specs.OwnCalls.{DoesAlone, is_do}
use Rattle.tx_world.proofs.CallsOn.{did_is}
use Rattle.tx_world.proofs.Living.{seen_as}
use Rattle.tx_world.proofs.StillTied.{apart_kept, is_apart}
use Rattle.tx_world.proofs.Written.{world_written}

-- a step that sends no BEGIN leaves the world after it, whether the log is up or not
pub turned_silent : (up : Bool) (t : ℕ) (w : World) (m : Step) → sends_begin t w m ≡ false → turned up t w m ≡ after t w m
turned_silent up t w m s = ap (λ b. if b && not up then after t (after t w m) Stops else after t w m) s

-- A step that sends no BEGIN was written: these calls and this history are left. It was done, whatever the log is.
pub alone_done : (t : TxId) (w : World) (m : Step) (x : LogKept) (old : TxState) {ks : List EnteredCall} {n : List Entry} → is_apart m ≡ true → false ≡ sends_begin (number_of t) w m
    → ks ≡ entered m w.calls → n ≡ onto w.past (block_at (number_of t) w m) → seen_as t w x ≡ old → DoesAlone m old (seen_as t (record { calls = ks; past = n }) x)
alone_done t w m x old {ks} {n} apart silent calls past was =
    let v : World = record { calls = ks; past = n } in
    let done : v ≡ turned true (number_of t) w m = world_written (number_of t) w m true false ks (onto w.past (block_at (number_of t) w m)) n calls silent refl past in
    let alone : DoesAlone m (seen_as t w x) (seen_as t v x) = record {
      transaction = refl;
      world = done ∙ turned_silent true (number_of t) w m (sym silent);
      silent = sym silent;
      life = refl;
      kept = apart_kept m (seen_as t w x) (seen_as t v x) apart (refl, refl);
    } in
    subst (λ (y : TxState). DoesAlone m y (seen_as t v x)) was alone

-- so it was done with any log,
pub at_alone : (up : Bool) (life : ℕ) (m : Step) (old new : TxState) → DoesAlone m old new → DoesAt up life m old new
at_alone up life m old new d = record {
  transaction = d.transaction;
  world = d.world ∙ sym (turned_silent up (number_of old.transaction) old.world m d.silent);
  life = d.life ∙ ap (λ b. if b then life else old.life) (sym d.silent);
  kept = d.kept;
}

-- and one that was done with some log was done alone
pub alone_at : (up : Bool) (life : ℕ) (m : Step) (old new : TxState) → sends_begin (number_of old.transaction) old.world m ≡ false → DoesAt up life m old new → DoesAlone m old new
alone_at up life m old new silent d = record {
  transaction = d.transaction;
  world = d.world ∙ turned_silent up (number_of old.transaction) old.world m silent;
  silent = silent;
  life = d.life ∙ ap (λ b. if b then life else old.life) silent;
  kept = d.kept;
}

-- a step that was done where the log is up and lives so was done with that log, where it isn't the coordinator's act
pub does_at : {D : Type 0} (faults : D → ℕ) (up : Bool) (life : ℕ) (m : Step) (old new : TxState) (log : LogState D) → up ≡ log.is_up → life ≡ log.life → IsAnswered faults old log log m
    → DoesAt up life m old new → Does faults m old log new log
does_at faults up life m old new log is lives answered d = record {
  transaction = d.transaction;
  world = d.world ∙ ap (λ b. turned b (number_of old.transaction) old.world m) is;
  life = d.life ∙ ap (λ n. if sends_begin (number_of old.transaction) old.world m then n else old.life) lives;
  answered = answered;
  kept = d.kept;
}

pub does_alone : {D : Type 0} (faults : D → ℕ) (m : Step) (old new : TxState) (log : LogState D) → IsAnswered faults old log log m → DoesAlone m old new → Does faults m old log new log
does_alone faults m old new log answered d = does_at faults log.is_up log.life m old new log refl refl answered (at_alone log.is_up log.life m old new d)

-- the same of a call's answer
pub ok_at_alone : {A E : Type 0} (r : Result A E) (up : Bool) (life : ℕ) (m : Step) (old new : TxState) → OnOk r (DoesAlone m old new) → OnOk r (DoesAt up life m old new)
ok_at_alone (Ok x) up life m old new d = at_alone up life m old new d
ok_at_alone (Err e) up life m old new d = tt

pub ok_alone_at : {A E : Type 0} (r : Result A E) (up : Bool) (life : ℕ) (m : Step) (old new : TxState) → sends_begin (number_of old.transaction) old.world m ≡ false → OnOk r (DoesAt up life m old new)
    → OnOk r (DoesAlone m old new)
ok_alone_at (Ok x) up life m old new silent d = alone_at up life m old new silent d
ok_alone_at (Err e) up life m old new silent d = tt

pub ok_does_at : {D A E : Type 0} (faults : D → ℕ) (r : Result A E) (up : Bool) (life : ℕ) (m : Step) (old new : TxState) (log : LogState D) → up ≡ log.is_up → life ≡ log.life
    → IsAnswered faults old log log m → OnOk r (DoesAt up life m old new) → OnOk r (Does faults m old log new log)
ok_does_at faults (Ok x) up life m old new log is lives answered d = does_at faults up life m old new log is lives answered d
ok_does_at faults (Err e) up life m old new log is lives answered d = tt

-- what a `do` is answered, which has no facts
pub did_answer : (t : TxId) (w : World) (h : Known) (k : CoreKept) (c : Call) (m : ℕ) (x : Answer) → Kept t w h k → is_do c ≡ true → x ≡ if_begun h.half.seen.limit (Did m) → x ≡ answer_at (number_of t) w c m
did_answer t w h k (Do u i j) m x kept is begun = did_is t w h k (Do u i j) u i j m x kept refl begun
did_answer t w h k _ m x kept is begun = absurd cc

pub did_silent : (o : Option ℕ) (m : ℕ) (x : Answer) → x ≡ if_begun o (Did m) → has_facts x ≡ false
did_silent (Some d) m x is = ap has_facts is
did_silent None m x is = ap has_facts is

begun_answer : (o : Option ℕ) (a : Answer) → is_some o ≡ true → if_begun o a ≡ a
begun_answer (Some d) a b = refl
begun_answer None a b = absurd cc

-- the entry of a `do` of a transaction that is begun says how many steps were done
wrote_after : (t : ℕ) (w : World) (n : ℕ) (a : ActorNo) (c : Call) (m : ℕ) → is_do c ≡ true → is_some (half w).seen.limit ≡ true → (after t w (Calls n a c m)).past ≡ Called n a (Did m) ∷ w.past
unfolding after block_at answer_at local_answer
wrote_after t w n a (Do u k i) m is begun =
    ap (λ x. onto w.past (Called n a x ∷ facts_if (has_facts x) (facts_at t w (Do u k i) x))) (begun_answer (half w).seen.limit (Did m) begun)
wrote_after t w n a _ m is begun = absurd cc

pub wrote_did : {A E : Type 0} (n : ℕ) (a : ActorNo) (c : Call) (m : ℕ) (old new : TxState) (r : Result A E) → is_do c ≡ true → OnOk r (DoesAlone (Calls n a c m) old new) → is_some (half old.world).seen.limit ≡ true
    → OnOk r (new.world.past ≡ Called n a (Did m) ∷ old.world.past)
wrote_did n a c m old new (Ok x) is done begun = ap (λ (w : World). w.past) done.world ∙ wrote_after (number_of old.transaction) old.world n a c m is begun
wrote_did n a c m old new (Err e) is done begun = tt
