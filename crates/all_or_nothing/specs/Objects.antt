-- Objects that hold what they prepare, as their notes tell it.
use Rattle.std.specs.Prelude.{ℕ, ◌≡◌, ◌==◌, false, List, Option}
use Rattle.dtx_values.specs.TxIds.{number_of}
use Rattle.dtx_values.specs.declared.note.Note.{Note}
use Rattle.dtx_values.specs.declared.note.Reply.{Reply}
use Rattle.dtx_model.specs.Outcome.{is_empty}
use Rattle.recovery_laws.specs.Whole.{Site}
use Rattle.resource_managers.specs.Pairs.{enlistment}
use Rattle.resource_managers.specs.declared.enlistment.Enlistment.{Enlistment}
use Rattle.all_or_nothing.specs.Marks.{At, HearsAs, Place, marks_of}

-- What objects give to notes is what holders of prepared work give, where this is the place at which they hear an enlistment, this says that they keep what it prepared, this what a crash may leave of all
-- that they hold, and this that their memory is sound. They hear a note as `HearsAs` says, and stay sound; none moves a place, or what is kept of another transaction; and a crash leaves all that is kept.
pub record AreHolders {O : Type 0} (gives : O → Enlistment → Note → Option Reply → O → Type 0) (place : O → Enlistment → Place) (keeps : O → Enlistment → Type 0) (leaves : O → List Site → Type 0) (sound : O → Type 0) : Type 0 where
  pub hears : (a b : O) (e : Enlistment) (n : Note) (r : Option Reply) → sound a → gives a e n r b
      → HearsAs (number_of e.transaction) (λ f. place a (enlistment e.transaction f)) (λ f. keeps a (enlistment e.transaction f)) (λ f. keeps b (enlistment e.transaction f)) (leaves a) (leaves b) e.number n r
  pub on : (a b : O) (e : Enlistment) (n : Note) (r : Option Reply) → sound a → gives a e n r b → sound b
  pub places : (a b : O) (e : Enlistment) (n : Note) (r : Option Reply) → gives a e n r b → (f : Enlistment) → place b f ≡ place a f
  pub others : (a b : O) (e : Enlistment) (n : Note) (r : Option Reply) → sound a → gives a e n r b → (f : Enlistment) → (number_of f.transaction == number_of e.transaction) ≡ false → keeps a f → keeps b f
  pub held : (o : O) (f : Enlistment) (m : ℕ) → sound o → keeps o f → place o f ≡ At m → (ss : List Site) → leaves o ss → is_empty (marks_of m (number_of f.transaction) f.number.value ss) ≡ false
