-- The base is a fold of what was live at each Commit.
use Rattle.std.proofs.Common.{◌≡◌, ℕ, List, [], ◌∷◌, Option, Some, None, refl, ap, ◌∙◌}
use Rattle.dtx_values.specs.declared.note.Note.TheVariants.{Init, Prepare, Promote, Hand, Single, Commit, Rollback, InDoubt}
use Rattle.tx_map.specs.declared.refusal.MapRefusal.{MapRefusal}
use Rattle.tx_map.specs.declared.write.LiveWrite.{LiveWrite}
use Rattle.tx_map.specs.Live.{MapState, Pair}
use Rattle.tx_map.specs.Puts.{after_put}
use Rattle.tx_map.specs.Laws.{Hears, IsFold, MapCall, Puts, after_call, committed, moved_all, taken, unless_refused}

-- a put leaves the base
base-put : (o : Option MapRefusal) (m : MapState) (p : Pair) (k : ℕ) (v : Option ℕ) → (unless_refused o m (after_put p k v m)).base ≡ m.base
base-put (Some r) m p k v = refl
base-put None m p k v = refl

-- what a call moves into the base is what was live at it
one_call : (m : MapState) (c : MapCall) (rest : List (List LiveWrite)) → moved_all rest (after_call m c).base ≡ moved_all (taken m c rest) m.base
one_call m (Puts p k v) rest = ap (λ b. moved_all rest b) (base-put _ m p k v)
one_call m (Hears p Init) rest = refl
one_call m (Hears p Prepare) rest = refl
one_call m (Hears p Promote) rest = refl
one_call m (Hears p Hand) rest = refl
one_call m (Hears p Single) rest = refl
one_call m (Hears p Commit) rest = refl
one_call m (Hears p Rollback) rest = refl
one_call m (Hears p InDoubt) rest = refl

pub folded : IsFold
folded m [] = refl
folded m (c ∷ cs) = folded (after_call m c) cs ∙ one_call m c (committed (after_call m c) cs)
