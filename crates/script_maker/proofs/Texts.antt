-- Each line of a made script has its text.
use Rattle.std.proofs.Common.{◌≡◌, ℕ, Some, refl}
use Rattle.dtx_values.specs.declared.number.ActorNo.{ActorNo}
use Rattle.dtx_values.specs.declared.number.TxNo.{TxNo}
use Rattle.dtx_values.specs.declared.number.EnlNo.{EnlNo}
use Rattle.dtx_values.specs.declared.number.CloneNo.{CloneNo}
use Rattle.dtx_values.specs.declared.number.RmNo.{RmNo}
use Rattle.dtx_values.specs.declared.script.Body.TheVariants.{Begin, Volatile, Durable, Clone, Commit, Par}
use Rattle.dtx_values.specs.declared.script.EnlistOption.TheVariants.{Plain}
use Rattle.dtx_values.specs.declared.script.Support.TheVariants.{SinglePhase, TwoPhase}
use Rattle.dtx_values.specs.declared.words.CloneKind.TheVariants.{Rollback}
use Rattle.dtx_values.specs.declared.words.Outcome.TheVariants.{Committed}
use Rattle.dtx_values.specs.declared.words.Timeout.TheVariants.{Default}
use Rattle.dtx_values.specs.declared.words.Vote.{Vote}
use Rattle.dtx_values.specs.declared.words.Vote.TheVariants.{Yes}
use Rattle.dtx_model.specs.Grammar.{line_text, vote_word}
use Rattle.script_maker.specs.Gen.{actor_of, begin_line, clone_line, commit_line, first_durable_line, first_of, next_actor_of, owner_line, par_line, second_durable_line, second_of, volatile_line}

-- it is begun
pub begin_text : (k : ℕ) (a : ActorNo) (t : TxNo) → a.value ≡ actor_of k → t.value ≡ k → line_text (record { actor = a; body = Begin t Default }) ≡ begin_line k
begin_text k a t p q = rw (p, q) refl

-- the threads begin
pub par_text : (a : ActorNo) → a.value ≡ 1 → line_text (record { actor = a; body = Par }) ≡ par_line
par_text a p = rw p refl

-- a volatile
pub volatile_text : (k : ℕ) (v : Vote) (a : ActorNo) (t : TxNo) (e : EnlNo) → a.value ≡ actor_of k → t.value ≡ k → e.value ≡ first_of k
    → line_text (record { actor = a; body = Volatile t e Plain (Some v) }) ≡ volatile_line (vote_word (Some v)) k
volatile_text k v a t e p q r = rw (p, q, r) refl

-- a durable that can own the commit
pub owner_text : (k : ℕ) (a : ActorNo) (t : TxNo) (e : EnlNo) (m : RmNo) → a.value ≡ actor_of k → t.value ≡ k → e.value ≡ first_of k → m.value ≡ 1
    → line_text (record { actor = a; body = Durable t e m (SinglePhase (Some Yes) (Some Committed)) }) ≡ owner_line k
owner_text k a t e m p q r o = rw (p, q, r, o) refl

-- the first of two durables
pub first_durable_text : (k : ℕ) (a : ActorNo) (t : TxNo) (e : EnlNo) (m : RmNo) → a.value ≡ actor_of k → t.value ≡ k → e.value ≡ first_of k → m.value ≡ 1
    → line_text (record { actor = a; body = Durable t e m (TwoPhase (Some Yes)) }) ≡ first_durable_line k
first_durable_text k a t e m p q r o = rw (p, q, r, o) refl

-- and the second
pub second_durable_text : (k : ℕ) (a : ActorNo) (t : TxNo) (e : EnlNo) (m : RmNo) → a.value ≡ next_actor_of k → t.value ≡ k → e.value ≡ second_of k → m.value ≡ 2
    → line_text (record { actor = a; body = Durable t e m (TwoPhase (Some Yes)) }) ≡ second_durable_line k
second_durable_text k a t e m p q r o = rw (p, q, r, o) refl

-- a clone
pub clone_text : (k : ℕ) (a : ActorNo) (t : TxNo) (c : CloneNo) → a.value ≡ actor_of k → t.value ≡ k → c.value ≡ k → line_text (record { actor = a; body = Clone t c Rollback }) ≡ clone_line k
clone_text k a t c p q r = rw (p, q, r) refl

-- commit is asked
pub commit_text : (k : ℕ) (a : ActorNo) (t : TxNo) → a.value ≡ actor_of k → t.value ≡ k → line_text (record { actor = a; body = Commit t }) ≡ commit_line k
commit_text k a t p q = rw (p, q) refl
