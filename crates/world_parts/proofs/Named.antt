-- The record that the coordinator's act keeps names who said PREPARED.
use Rattle.std.proofs.Common.{◌≡◌, ◌∙◌, ℕ, true, false, List, ◌∷◌, Option, Some, None, is_some, ap, sym}
use Rattle.dtx_values.specs.declared.entry.Entry.TheVariants.{Logged, Stopped}
use Rattle.dtx_values.specs.declared.message.Message.TheVariants.{ReenlistCommitted}
use Rattle.dtx_model.specs.declared.desk.Desk.{Desk}
use Rattle.dtx_model.specs.Log.{CommitRecord}
use Rattle.dtx_model.specs.Promotes.{identifier_of}
use Rattle.dtx_model.specs.Coordinated.{Coordinated, commit_sends, follow, follow_all}
use Rattle.coordinator_core.specs.Acting.{record_for}
use Rattle.coordinator_core.proofs.Loops.{pairs_of}
use Rattle.coordinator_core.proofs.Following.{after_commit, after_waiting}
use Rattle.world_parts.specs.Prepared.{Names}

abbrev pub record_with : ℕ → List (ℕ × ℕ) → Option CommitRecord
record_with t ps = Some (record { id = identifier_of t; enlistments = ps })

-- a coordinator whose desks say the same of them writes the same record
pub names_same : (t : ℕ) (o : Option CommitRecord) (k j : Coordinated) → pairs_of j.desks ≡ pairs_of k.desks → Names t o k → Names t o j
names_same t o k j e n = λ s. n s ∙ ap (λ (ps : List (ℕ × ℕ)). record_with t ps) (sym e)

pub names_none : (t : ℕ) (o : Option CommitRecord) (k : Coordinated) → o ≡ None → Names t o k
names_none t o k e = λ s. absurd (never (ap (λ (p : Option CommitRecord). is_some p) (sym e) ∙ s))
  where
    never : false ≡ true → ⊥
    never f = absurd cc

-- The coordinator's act keeps the very record that it writes,
pub named_logged : (t : ℕ) (k : Coordinated) (r : CommitRecord) → r ≡ record_for t k → Names t (Some r) (follow_all k (Logged ∷ commit_sends (follow k Logged)))
unfolding follow_all follow
named_logged t k r e = λ s.
    let j = follow k Logged in
    let told : (follow_all j (commit_sends j)).desks ≡ k.desks = ap (λ (i : Coordinated). i.desks) (after_commit j ∙ after_waiting j ReenlistCommitted) in
    names_same t (Some r) k (follow_all j (commit_sends j)) (ap (λ (ds : List Desk). pairs_of ds) told) (λ z. ap (λ (q : CommitRecord). Some q) e) s

-- also where it stops;
pub named_stopped : (t : ℕ) (o : Option CommitRecord) (k : Coordinated) → Names t o k → Names t o (follow k Stopped)
unfolding follow
named_stopped t o k n = n

pub named_tried : (t : ℕ) (k : Coordinated) (r : CommitRecord) → r ≡ record_for t k → Names t (Some r) (follow k Stopped)
named_tried t k r e = named_stopped t (Some r) k (λ s. ap (λ (q : CommitRecord). Some q) e)
