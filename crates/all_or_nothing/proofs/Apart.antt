-- What is held of the other transactions stays as it is while one goes on.
use Rattle.std.proofs.Common.{◌≡◌, ◌⊎◌, inl, inr, ℕ, zero, suc, Bool, true, false, not, ◌&&◌, ◌||◌, ◌==◌, List, [], ◌∷◌, Option, Some, None, refl, ap, subst, sym, ◌∙◌}
use Rattle.dtx_values.specs.TxIds.{number_of}
use Rattle.dtx_values.specs.declared.entry.Entry.{Entry}
use Rattle.dtx_values.specs.declared.note.Note.{Note}
use Rattle.dtx_values.specs.declared.number.EnlNo.{EnlNo}
use Rattle.dtx_values.specs.declared.tx_id.TxId.{TxId}
use Rattle.dtx_model.specs.Outcome.{is_empty}
use Rattle.recovery_laws.specs.Whole.{Site}
use Rattle.resource_managers.specs.Pairs.{enlistment}
use Rattle.resource_managers.specs.declared.enlistment.Enlistment.{Enlistment}
use Rattle.transactions.specs.Events.{note_in}
use Rattle.transactions.specs.Hearing.{Given, HearsNote, Moves, MovesOn, events}
use Rattle.transactions.specs.State.{LiveState}
use Rattle.transactions.specs.declared.event.Event.{Event}
use Rattle.all_or_nothing.specs.Marks.{Place, is_at, is_single, is_unmarked, marks_of}
use Rattle.all_or_nothing.specs.Objects.{AreHolders}
use Rattle.all_or_nothing.specs.Tying.{IsLeftSo, IsTied, is_aborted_by}
use Rattle.transactions.proofs.Driving.{Gives}
use Rattle.all_or_nothing.proofs.Moving.{comer, its_own, note_by}

-- What the moves of transaction number n left of the others: whatever a crash may leave of them it might have left before, what was kept is kept, and no place moved.
pub record KeepsOthers {O : Type 0} (place : O → Enlistment → Place) (keeps : O → Enlistment → Type 0) (leaves : O → List Site → Type 0) (sound : O → Type 0) (n : ℕ) (a b : O) : Type 0 where
  pub memory : sound b
  pub left : (ss : List Site) → leaves b ss → (old : List Site) × leaves a old × ((m j f : ℕ) → (n == j) ≡ false → marks_of m j f ss ≡ marks_of m j f old)
  pub kept : (f : Enlistment) → (number_of f.transaction == n) ≡ false → keeps a f → keeps b f
  pub places : (f : Enlistment) → place b f ≡ place a f

same : {O : Type 0} (place : O → Enlistment → Place) (keeps : O → Enlistment → Type 0) (leaves : O → List Site → Type 0) (sound : O → Type 0) (n : ℕ) (a b : O) → b ≡ a → sound a → KeepsOthers place keeps leaves sound n a b
same place keeps leaves sound n a b e memory = subst (λ o. KeepsOthers place keeps leaves sound n a o) (sym e) (record { memory = memory; left = λ ss l. (ss, l, λ m j f off. refl); kept = λ f off k. k; places = λ f. refl })

hears : {O : Type 0} (gives : Gives O) (place : O → Enlistment → Place) (keeps : O → Enlistment → Type 0) (leaves : O → List Site → Type 0) (sound : O → Type 0) → AreHolders gives place keeps leaves sound
    → (t : TxId) (rs : List Given) (es : List Entry) (ev : Event) (a b : O) → events t es ≡ ev ∷ [] → sound a → (o : Option (Enlistment × Note)) → note_in ev ≡ o → HearsNote gives o a rs b
    → KeepsOthers place keeps leaves sound (number_of t) a b
hears gives place keeps leaves sound holders t rs es ev a b said memory None note k = same place keeps leaves sound (number_of t) a b k.1 memory
hears gives place keeps leaves sound holders t rs es ev a b said memory (Some x) note k =
    let e = x.0 in
    let n = x.1 in
    let c = comer t ev es said in
    let own : e ≡ enlistment t e.number = its_own t c.entry e n (ap note_by c.says ∙ note) in
    let its : number_of e.transaction ≡ number_of t = ap (λ (y : Enlistment). number_of y.transaction) own in
    subst (λ j. KeepsOthers place keeps leaves sound j a b) its (record {
      memory = holders.on a b e n k.0 memory k.1;
      left = λ ss l. let was = (holders.hears a b e n k.0 memory k.1).turns ss l in (was.0, was.1, λ m j f off. was.2.others m j f (by (number_of e.transaction == j) (is_at (place a e) m) (e.number.value == f) off));
      kept = λ f off q. holders.others a b e n k.0 memory k.1 f off q;
      places = holders.places a b e n k.0 k.1;
    })
  where
    by : (b c d : Bool) → b ≡ false → (c && (b && d)) ≡ false
    by false true d e = refl
    by false false d e = refl
    by true c d e = absurd cc

-- one move
move : {O : Type 0} (gives : Gives O) (place : O → Enlistment → Place) (keeps : O → Enlistment → Type 0) (leaves : O → List Site → Type 0) (sound : O → Type 0) → AreHolders gives place keeps leaves sound
    → (gs : List Given) (y z : LiveState) (a b : O) → Moves gives gs y z a b → sound a → KeepsOthers place keeps leaves sound (number_of y.number) a b × (z.number ≡ y.number)
move gives place keeps leaves sound holders gs y z a b (inl v) memory = (same place keeps leaves sound (number_of y.number) a b v.1 memory, ap (λ (s : LiveState). s.number) v.0.rest)
move gives place keeps leaves sound holders gs y z a b (inr (inl v)) memory = (same place keeps leaves sound (number_of y.number) a b v.1 memory, v.0.number)
move gives place keeps leaves sound holders gs y z a b (inr (inr v)) memory =
    let h = v.comes.hears in (
      hears gives place keeps leaves sound holders y.number v.replies h.heard v.event a b h.says memory (note_in v.event) refl v.hears,
      ap (λ (s : LiveState). s.number) v.rest ∙ ap (λ (s : LiveState). s.number) v.comes.rest,
    )

-- and all of them, one after the other
pub moves_apart : {O : Type 0} (gives : Gives O) (place : O → Enlistment → Place) (keeps : O → Enlistment → Type 0) (leaves : O → List Site → Type 0) (sound : O → Type 0) → AreHolders gives place keeps leaves sound
    → (gs : List Given) (n : ℕ) (x z : LiveState) (a b : O) → MovesOn gives gs n x z a b → sound a → KeepsOthers place keeps leaves sound (number_of x.number) a b × (z.number ≡ x.number)
moves_apart gives place keeps leaves sound holders gs zero x z a b v memory = (same place keeps leaves sound (number_of x.number) a b v.1 memory, ap (λ (s : LiveState). s.number) v.0)
moves_apart gives place keeps leaves sound holders gs (suc n) x z a b v memory =
    let y = v.0 in
    let m = v.1 in
    let first = moves_apart gives place keeps leaves sound holders gs n x y a m v.2 memory in
    let last = move gives place keeps leaves sound holders gs y z m b v.3 first.0.memory in
    let second : KeepsOthers place keeps leaves sound (number_of x.number) m b = subst (λ t. KeepsOthers place keeps leaves sound (number_of t) m b) first.1 last.0 in (
      record {
        memory = second.memory;
        left = λ ss l. let p = second.left ss l in let q = first.0.left p.0 p.1 in (q.0, q.1, λ i j f off. p.2 i j f off ∙ q.2 i j f off);
        kept = λ f off k. second.kept f off (first.0.kept f off k);
        places = λ f. second.places f ∙ first.0.places f;
      },
      last.1 ∙ first.1,
    )

-- So another transaction that was tied is so still.
pub tied_apart : {O : Type 0} (place : O → Enlistment → Place) (keeps : O → Enlistment → Type 0) (leaves : O → List Site → Type 0) (sound : O → Type 0) (n : ℕ) (u : TxId) (gs : List Given) (h heard : List Entry) (a b : O)
    → KeepsOthers place keeps leaves sound n a b → (n == number_of u) ≡ false → (number_of u == n) ≡ false
    → IsTied (number_of u) (λ e. place a (enlistment u e)) (λ e. keeps a (enlistment u e)) (leaves a) gs h heard
    → IsTied (number_of u) (λ e. place b (enlistment u e)) (λ e. keeps b (enlistment u e)) (leaves b) gs h heard
tied_apart place keeps leaves sound n u gs h heard a b k off off_too tied = record {
  votes = tied.votes;
  acks = tied.acks;
  placed = λ e s at. tied.placed e s (sym (k.places (enlistment u e)) ∙ at);
  kept = λ e m at s. by e (tied.kept e m (sym (k.places (enlistment u e)) ∙ at) s);
  left = λ ss l. let was = k.left ss l in there ss was.0 (λ m e. was.2 m (number_of u) e off) (tied.left was.0 was.1);
}
  where
    by : (e : EnlNo) → keeps a (enlistment u e) ⊎ (is_aborted_by heard e.value ≡ true) → keeps b (enlistment u e) ⊎ (is_aborted_by heard e.value ≡ true)
    by e (inl q) = inl (k.kept (enlistment u e) off_too q)
    by e (inr q) = inr q

    there : (ss old : List Site) → ((m e : ℕ) → marks_of m (number_of u) e ss ≡ marks_of m (number_of u) e old) → IsLeftSo (number_of u) (λ e. place a (enlistment u e)) gs h heard old
        → IsLeftSo (number_of u) (λ e. place b (enlistment u e)) gs h heard ss
    there ss old is so = record {
      single = λ m e. subst (λ l. is_single l ≡ true) (sym (is m e)) (so.single m e);
      routed = λ m e some. let at = so.routed m e (subst (λ l. is_empty l ≡ false) (is m e) some) in (at.0, at.1, k.places (enlistment u at.0) ∙ at.2, at.3);
      marked = λ m e q. so.marked m e (sym (is m e) ∙ q);
      done = λ m e s. subst (λ l. is_empty l ≡ true) (sym (is m e)) (so.done m e s);
      acked = λ m e p q. subst (λ l. (not (is_unmarked l) || is_aborted_by heard e) ≡ true) (sym (is m e)) (so.acked m e p q);
    }
