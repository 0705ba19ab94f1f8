-- What is held of a transaction stays tied to its history where its objects hear an event, and over all the moves of a call.
use Rattle.std.proofs.Common.{◌≡◌, inl, inr, ◌≤◌, ℕ, zero, suc, List, [], ◌∷◌, ◌++◌, Option, Some, None, length, append-nil, refl, ap, subst, sym, ◌∙◌, arith}
use Rattle.dtx_values.specs.TxIds.{number_of}
use Rattle.dtx_values.specs.declared.entry.Entry.{Entry}
use Rattle.dtx_values.specs.declared.note.Note.{Note}
use Rattle.dtx_values.specs.declared.note.Reply.{Reply}
use Rattle.dtx_values.specs.declared.number.EnlNo.{EnlNo}
use Rattle.dtx_values.specs.declared.tx_id.TxId.{TxId}
use Rattle.dtx_model.specs.Words.{onto, past_of}
use Rattle.recovery_laws.specs.Whole.{Site}
use Rattle.resource_managers.specs.Pairs.{enlistment}
use Rattle.resource_managers.specs.declared.enlistment.Enlistment.{Enlistment}
use Rattle.transactions.specs.Events.{note_in}
use Rattle.transactions.specs.Hearing.{Advances, Given, HearsNext, HearsNote, Moves, MovesOn, Takes, Turns, Writes, is_one_of, listed, replied as replied_by}
use Rattle.transactions.specs.State.{LiveState, past, unheard}
use Rattle.transactions.specs.declared.event.Event.{Event}
use Rattle.all_or_nothing.specs.Marks.{HearsAs, Place}
use Rattle.all_or_nothing.specs.Objects.{AreHolders}
use Rattle.all_or_nothing.specs.Tying.{IsTied}
use Rattle.all_or_nothing.specs.Whole.{IsTiedTo, heard_of}
use Rattle.transactions.proofs.Driving.{Gives}
use Rattle.all_or_nothing.proofs.Chain.{Moved, Tie, all_one_of, comes_so, goes, last_more, longer, none_more, silent, split_of, takes, under, written}
use Rattle.all_or_nothing.proofs.Entries.{heard_more, heard_same}
use Rattle.all_or_nothing.proofs.Heard.{Hearing, tied_heard}
use Rattle.all_or_nothing.proofs.Moved.{fewer_first, fewer_same}
use Rattle.all_or_nothing.proofs.Moving.{NotesOnce, comer, its_own, note_by, once_before}
use Rattle.all_or_nothing.proofs.Tied.{replied}

-- both say the same of a reply
same_reply : (e : Enlistment) (r : Option Reply) → replied_by e r ≡ replied e.number r
same_reply e (Some r) = refl
same_reply e None = refl

-- what the objects heard, and what they gave, tied
pub record Tied {O : Type 0} (place : O → Enlistment → Place) (keeps : O → Enlistment → Type 0) (leaves : O → List Site → Type 0) (sound : O → Type 0) (t : TxId) (gs rs : List Given) (h heard : List Entry) (a b : O) : Type 0 where
  pub tied : Tie place keeps leaves t (gs ++ rs) b h heard
  pub memory : sound b
  pub places : (f : Enlistment) → place b f ≡ place a f

pub hears_note : {O : Type 0} (gives : Gives O) (place : O → Enlistment → Place) (keeps : O → Enlistment → Type 0) (leaves : O → List Site → Type 0) (sound : O → Type 0) → AreHolders gives place keeps leaves sound
    → (t : TxId) (gs rs : List Given) (h heard es rest : List Entry) (ev : Event) (a b : O) → past_of h ≡ heard ++ (es ++ rest) → Rattle.transactions.specs.Hearing.events t es ≡ ev ∷ [] → sound a
    → NotesOnce (λ e. place a (enlistment t e)) h → Tie place keeps leaves t gs a h heard → (o : Option (Enlistment × Note)) → note_in ev ≡ o → HearsNote gives o a rs b
    → Tied place keeps leaves sound t gs rs h (heard ++ es) a b
hears_note gives place keeps leaves sound holders t gs rs h heard es rest ev a b split said memory once tied None note hears =
    let all = silent place keeps leaves t gs a h heard es tied in
    let more : Tie place keeps leaves t (gs ++ []) a h (heard ++ es) = subst (λ k. Tie place keeps leaves t k a h (heard ++ es)) (sym (append-nil gs)) all in
    let given : Tie place keeps leaves t (gs ++ rs) a h (heard ++ es) = subst (λ k. Tie place keeps leaves t (gs ++ k) a h (heard ++ es)) (sym hears.0) more in
    record { tied = subst (λ o. Tie place keeps leaves t (gs ++ rs) o h (heard ++ es)) (sym hears.1) given; memory = subst (λ o. sound o) (sym hears.1) memory; places = λ f. ap (λ o. place o f) hears.1 }
hears_note gives place keeps leaves sound holders t gs rs h heard es rest ev a b split said memory once tied (Some x) note hears =
    let e = x.0 in
    let n = x.1 in
    let r = hears.0 in
    let g = hears.1 in
    let c = comer t ev es said in
    let own : e ≡ enlistment t e.number = its_own t c.entry e n (ap note_by c.says ∙ note) in
    let its : e.transaction ≡ t = ap (λ (y : Enlistment). y.transaction) own in
    let places = holders.places a b e n r g in
    let here : HearsAs (number_of t) (λ f. place a (enlistment t f)) (λ f. keeps a (enlistment t f)) (λ f. keeps b (enlistment t f)) (leaves a) (leaves b) e.number n r =
    subst (λ u. HearsAs (number_of u) (λ f. place a (enlistment u f)) (λ f. keeps a (enlistment u f)) (λ f. keeps b (enlistment u f)) (leaves a) (leaves b) e.number n r) its (holders.hears a b e n r memory g) in
    let hearing : Hearing (number_of t) (λ f. place a (enlistment t f)) (λ f. keeps a (enlistment t f)) (λ f. keeps b (enlistment t f)) (leaves a) (leaves b) gs h heard es e.number n r =
    record { hears = here; comes = comes_so t (λ f. place a (enlistment t f)) h heard es rest ev e n split said note once; tied = tied } in
    let all = tied_heard (number_of t) (λ f. place a (enlistment t f)) (λ f. keeps a (enlistment t f)) (λ f. keeps b (enlistment t f)) (leaves a) (leaves b) gs h heard es e.number n r hearing in
    let there : IsTied (number_of t) (λ f. place b (enlistment t f)) (λ f. keeps b (enlistment t f)) (leaves b) (gs ++ replied e.number r) h (heard ++ es) =
    subst (λ (p : EnlNo → Place). IsTied (number_of t) p (λ f. keeps b (enlistment t f)) (leaves b) (gs ++ replied e.number r) h (heard ++ es)) (λ i f. sym (places (enlistment t f)) i) all in
    record {
      tied = subst (λ k. Tie place keeps leaves t (gs ++ k) b h (heard ++ es)) (sym (hears.2 ∙ same_reply e r)) there;
      memory = holders.on a b e n r memory g;
      places = places;
    }

turns : {O : Type 0} (gives : Gives O) (place : O → Enlistment → Place) (keeps : O → Enlistment → Type 0) (leaves : O → List Site → Type 0) (sound : O → Type 0) → AreHolders gives place keeps leaves sound
    → (gs : List Given) (y z : LiveState) (a b : O) → Turns gives y z a b → sound a → NotesOnce (λ e. place a (enlistment y.number e)) (past z) → IsTiedTo place keeps leaves gs y a → Moved place keeps leaves sound gs y z a b
turns gives place keeps leaves sound holders gs y z a b v memory once tied =
    let t = y.number in
    let m = v.between in
    let c = v.comes in
    let w = c.writes in
    let h = c.hears in
    let place_a : EnlNo → Place = λ e. place a (enlistment t e) in
    let number : m.number ≡ t = ap (λ (s : LiveState). s.number) c.rest in
    let on = written place keeps leaves t gs gs a (past y) (past m) w.written (heard_of y) tied w.grown (all_one_of [] gs (none_more gs) w.written w.said) (fewer_same gs) in
    let before : NotesOnce place_a (past m) = once_before place_a (past m) v.writes.written (subst (λ k. NotesOnce place_a k) v.writes.grown once) in
    let heard = hears_note gives place keeps leaves sound holders t gs v.replies (past m) (heard_of y) h.heard (unheard m) v.event a b (split_of [] (v.event ∷ []) y m h w c.within) h.says memory before on (note_in v.event) refl v.hears in
    let all = written place keeps leaves t (gs ++ v.replies) gs b (past m) (past z) v.writes.written (heard_of y ++ h.heard) heard.tied v.writes.grown (all_one_of v.replies (gs ++ v.replies) (last_more gs v.replies) v.writes.written v.writes.said) (fewer_first gs v.replies) in
    let still : z.heard ≡ m.heard = ap (λ (s : LiveState). s.heard) v.rest in
    let number_now : z.number ≡ t = ap (λ (s : LiveState). s.number) v.rest ∙ number in
    record {
      tied = under place keeps leaves gs t z b (heard_of y ++ h.heard) number_now (heard_same v.replies m z v.writes still c.still ∙ heard_more (v.event ∷ []) [] y m h w c.within c.still) all;
      within = let l = longer (past m) v.writes.written in let s = ap (λ (k : List Entry). length k) v.writes.grown in let q = c.still in omega (arith, l, s, still, q);
      number = number_now;
      memory = heard.memory;
      places = heard.places;
    }

-- One move keeps it.
move : {O : Type 0} (gives : Gives O) (place : O → Enlistment → Place) (keeps : O → Enlistment → Type 0) (leaves : O → List Site → Type 0) (sound : O → Type 0) → AreHolders gives place keeps leaves sound
    → (gs : List Given) (y z : LiveState) (a b : O) → Moves gives gs y z a b → sound a → y.heard ≤ length (past y) → NotesOnce (λ e. place a (enlistment y.number e)) (past z) → IsTiedTo place keeps leaves gs y a
    → Moved place keeps leaves sound gs y z a b
move gives place keeps leaves sound holders gs y z a b (inl v) memory within once tied = goes gives place keeps leaves sound gs y z a b v.0 v.1 memory tied
move gives place keeps leaves sound holders gs y z a b (inr (inl v)) memory within once tied = takes gives place keeps leaves sound gs y z a b v.0 v.1 memory within tied
move gives place keeps leaves sound holders gs y z a b (inr (inr v)) memory within once tied = turns gives place keeps leaves sound holders gs y z a b v memory once tied

-- what a move wrote
move_grown : {O : Type 0} (gives : Gives O) (gs : List Given) (y z : LiveState) (a b : O) → Moves gives gs y z a b → (ws : List Entry) × (past z ≡ onto (past y) ws)
move_grown gives gs y z a b (inl v) = (v.0.writes.written, v.0.writes.grown)
move_grown gives gs y z a b (inr (inl v)) = (v.0.writes.written, v.0.writes.grown)
move_grown gives gs y z a b (inr (inr v)) =
    let w = v.comes.writes in
    (w.written ++ v.writes.written, v.writes.grown ∙ (ap (λ k. onto k v.writes.written) w.grown ∙ sym (Rattle.dtx_model.proofs.Histories.onto-append (past y) w.written v.writes.written)))

-- So do all of them, one after the other.
pub moves_on : {O : Type 0} (gives : Gives O) (place : O → Enlistment → Place) (keeps : O → Enlistment → Type 0) (leaves : O → List Site → Type 0) (sound : O → Type 0) → AreHolders gives place keeps leaves sound
    → (gs : List Given) (n : ℕ) (x z : LiveState) (a b : O) → MovesOn gives gs n x z a b → sound a → x.heard ≤ length (past x) → NotesOnce (λ e. place a (enlistment x.number e)) (past z) → IsTiedTo place keeps leaves gs x a
    → Moved place keeps leaves sound gs x z a b
moves_on gives place keeps leaves sound holders gs zero x z a b v memory within once tied = record {
  tied = subst (λ s. IsTiedTo place keeps leaves gs s b) (sym v.0) (subst (λ o. IsTiedTo place keeps leaves gs x o) (sym v.1) tied);
  within = subst (λ (s : LiveState). s.heard ≤ length (past s)) (sym v.0) within;
  number = ap (λ (s : LiveState). s.number) v.0;
  memory = subst (λ o. sound o) (sym v.1) memory;
  places = λ f. ap (λ o. place o f) v.1;
}
moves_on gives place keeps leaves sound holders gs (suc n) x z a b v memory within once tied =
    let y = v.0 in
    let m = v.1 in
    let grown = move_grown gives gs y z m b v.3 in
    let place_a : EnlNo → Place = λ e. place a (enlistment x.number e) in
    let before : NotesOnce place_a (past y) = once_before place_a (past y) grown.0 (subst (λ k. NotesOnce place_a k) grown.1 once) in
    let first = moves_on gives place keeps leaves sound holders gs n x y a m v.2 memory within before tied in
    let last = move gives place keeps leaves sound holders gs y z m b v.3 first.memory first.within (once_there x.number y.number m first.number first.places once) first.tied in
    record { tied = last.tied; within = last.within; number = last.number ∙ first.number; memory = last.memory; places = λ f. last.places f ∙ first.places f }
  where
    once_there : (t u : TxId) (m : _) → u ≡ t → ((f : Enlistment) → place m f ≡ place a f) → NotesOnce (λ e. place a (enlistment t e)) (past z) → NotesOnce (λ e. place m (enlistment u e)) (past z)
    once_there t u m same places k = subst (λ w. NotesOnce (λ e. place m (enlistment w e)) (past z)) (sym same) (subst (λ (p : EnlNo → Place). NotesOnce p (past z)) (λ i e. sym (places (enlistment t e)) i) k)
