-- What an open transaction is said to wait for is an excuse.
use Rattle.std.proofs.Common.{◌≡◌, ℕ, ◌==◌, ◌&&◌, ◌||◌, ◌⊎◌, not, Bool, true, false, List, [], ◌∷◌, Option, Some, None, is_none, length, refl, ap, sym, ◌∙◌, inl, inr}
use Rattle.std.specs.Option.{option_map}
use Rattle.std.proofs.lemmas.Bool.{cases_Bool, and_parts, and_from, and_left, and_right, or_right, or_left, or_from, or_parts, or_cases, eq-eqb, eqb-true, false_from_ne_true, both_ways}
use Rattle.dtx_values.specs.Clones.{blocks}
use Rattle.dtx_values.specs.declared.entry.Ask.TheVariants.{Prepare as AskPrepare, Promote as AskPromote, Single as AskSingle}
use Rattle.dtx_values.specs.declared.entry.Entry.{Entry}
use Rattle.dtx_values.specs.declared.entry.Entry.TheVariants.{Asked, Cloned, Handed}
use Rattle.dtx_values.specs.declared.note.Note.{Note}
use Rattle.dtx_values.specs.declared.note.Note.TheVariants.{Hand, Prepare, Promote, Single}
use Rattle.dtx_values.specs.declared.note.Plan.{Plan}
use Rattle.dtx_values.specs.declared.number.CloneNo.{CloneNo}
use Rattle.dtx_values.specs.declared.number.EnlNo.{EnlNo}
use Rattle.dtx_values.specs.declared.script.Line.{Line}
use Rattle.dtx_values.specs.declared.words.CloneKind.{CloneKind}
use Rattle.dtx_values.specs.declared.words.Outcome.{Outcome}
use Rattle.dtx_values.specs.declared.words.Vote.{Vote}
use Rattle.dtx_model.specs.Caused.{plans_of}
use Rattle.dtx_model.specs.Entries.{clone_of, is_any_owner, is_asked, is_asked_alone, is_asked_to_promote, is_hand, is_promote_reply_of, is_request_of, is_vote}
use Rattle.dtx_model.specs.History.{is_silent, is_silent_to_promote, is_still_lost, is_waiting}
use Rattle.dtx_model.specs.Outcome.{enlisted, is_complete}
use Rattle.dtx_model.specs.Plans.{owner_reply, planned, promote_reply, vote_reply}
use Rattle.dtx_model.specs.Words.{all_of, has, or_else, put}
use Rattle.outcome_reasons.specs.First.{first_of, when}
use Rattle.outcome_reasons.proofs.Oldest.{parts_of}
use Rattle.outcome_reasons.specs.Opens.{blocking, is_answer, is_silent_to, unanswered}

-- what a history's first entry says, one of its entries says
said-once : {A : Type 0} (g : Entry → Option A) (p : Entry → Bool) (a : A) → ((x : Entry) → g x ≡ Some a → p x ≡ true) → (h : List Entry) (i : ℕ) → first_of (λ past x. g x) h ≡ Some (i, a) → has p h ≡ true
said-once g p a passes [] i k = absurd cc
said-once {A} g p a passes (x ∷ past) i k = by (first_of (λ l y. g y) past) (g x) (λ w. said-once g p a passes past i w) refl refl k
  where
    by : (o : Option (ℕ × A)) (q : Option A) → (first_of (λ l y. g y) past ≡ Some (i, a) → has p past ≡ true) → first_of (λ l y. g y) past ≡ o → g x ≡ q → or_else o (option_map (λ b. (length past, b)) q) ≡ Some (i, a) → has p (x ∷ past) ≡ true
    by (Some r) q ih is says e = or_right (p x) (has p past) (ih (is ∙ e))
    by None (Some b) ih is says e = or_left (p x) (has p past) (passes x (says ∙ ap Some (parts_of (length past) i b a e).1))
    by None None ih is says e = absurd cc

-- where none says anything, each says nothing
said-never : {A : Type 0} (g : Entry → Option A) (p : Entry → Bool) → ((x : Entry) → g x ≡ None → p x ≡ false) → (h : List Entry) → first_of (λ past x. g x) h ≡ None → has p h ≡ false
said-never g p fails [] k = refl
said-never {A} g p fails (x ∷ past) k = by (first_of (λ l y. g y) past) (g x) (λ w. said-never g p fails past w) refl refl k
  where
    by : (o : Option (ℕ × A)) (q : Option A) → (first_of (λ l y. g y) past ≡ None → has p past ≡ false) → first_of (λ l y. g y) past ≡ o → g x ≡ q → or_else o (option_map (λ b. (length past, b)) q) ≡ None → has p (x ∷ past) ≡ false
    by (Some r) q ih is says e = absurd cc
    by None (Some b) ih is says e = absurd cc
    by None None ih is says e = or_from (p x) (has p past) (fails x says) (ih is)

-- whether some item passes is a question on each entry
abbrev passing : {A : Type 0} → (A → Bool) → Option A → Bool
passing p (Some x) = p x
passing p None = false

has-items : {A : Type 0} (f : Entry → Option A) (p : A → Bool) (h : List Entry) → has p (all_of f h) ≡ has (λ x. passing p (f x)) h
has-items f p [] = refl
has-items {A} f p (x ∷ past) = by (f x) (has-items f p past)
  where
    by : (o : Option A) → has p (all_of f past) ≡ has (λ y. passing p (f y)) past → has p (put o (all_of f past)) ≡ (passing p o || has (λ y. passing p (f y)) past)
    by (Some a) ih = ap (λ b. p a || b) ih
    by None ih = ih

-- a clone that blocks and isn't complete
abbrev blocking_clone : List Entry → CloneNo × CloneKind → Bool
blocking_clone h d = blocks d.1 && not (is_complete h d)

blocks_here : (h : List Entry) (c : CloneNo) (x : Entry) → blocking h x ≡ Some c → passing (λ d. c.value == d.0.value && blocking_clone h d) (clone_of x) ≡ true
blocks_here h c (Cloned d k) e = by (blocking_clone h (d, k)) refl e
  where
    by : (b : Bool) → blocking_clone h (d, k) ≡ b → when b d ≡ Some c → (c.value == d.value && blocking_clone h (d, k)) ≡ true
    by true is e = and_from (c.value == d.value) (blocking_clone h (d, k)) (eq-eqb c.value d.value (same e)) is
      where
        same : Some d ≡ Some c → c.value ≡ d.value
        same q = cc
    by false is e = absurd cc
blocks_here h c _ e = absurd cc

pub open_clone : (h : List Entry) (i : ℕ) (c : CloneNo) → first_of (λ past x. blocking h x) h ≡ Some (i, c) → has (λ d. c.value == d.0.value && (blocks d.1 && not (is_complete h d))) (all_of clone_of h) ≡ true
open_clone h i c k =
    has-items clone_of (λ d. c.value == d.0.value && blocking_clone h d) h ∙ said-once (blocking h) (λ x. passing (λ d. c.value == d.0.value && blocking_clone h d) (clone_of x)) c (blocks_here h c) h i k

blocks_not : (h : List Entry) (x : Entry) → blocking h x ≡ None → passing (blocking_clone h) (clone_of x) ≡ false
blocks_not h (Cloned d k) e = by (blocking_clone h (d, k)) e
  where
    by : (b : Bool) → when b d ≡ None → b ≡ false
    by true e = absurd cc
    by false e = refl
blocks_not h _ e = refl

no_open_clone : (h : List Entry) → first_of (λ past x. blocking h x) h ≡ None → has (blocking_clone h) (all_of clone_of h) ≡ false
no_open_clone h k = has-items clone_of (blocking_clone h) h ∙ said-never (blocking h) (λ x. passing (blocking_clone h) (clone_of x)) (blocks_not h) h k

-- the entry gives this enlistment the note
abbrev gives : ℕ → Note → Entry → Bool
gives e Prepare x = is_asked e x
gives e Promote x = is_asked_to_promote e x
gives e Single x = is_asked_alone e x
gives e Hand x = is_hand e x
gives e _ x = false

-- it stays silent to the note that it was given
abbrev stays_silent : Plan → List Entry → ℕ → Note → Bool
stays_silent p h e n = (not (is_still_lost e h) && is_none (planned p n)) && not (has (is_answer e n) h)

silent_here : (p : ℕ → Plan) (h : List Entry) (e f : EnlNo) (n m : Note) (b : Bool) → b ≡ is_silent_to p h f m → when {A = EnlNo × Note} b (f, m) ≡ Some (e, n) → (f ≡ e) × (m ≡ n) × (is_silent_to p h e n ≡ true)
silent_here p h e f n m true is k =
    let d = (parts_of f e m n k).0 in
    let c = (parts_of f e m n k).1 in
    (d, c, sym (is ∙ (λ j. is_silent_to p h (d j) (c j))))
silent_here p h e f n m false is k = absurd cc

given : (p : ℕ → Plan) (h : List Entry) (e : EnlNo) (n : Note) (x : Entry) → unanswered p h x ≡ Some (e, n) → (gives e.value n x && is_silent_to p h e n) ≡ true
given p h e n (Asked f AskPrepare) k =
    let w = silent_here p h e f n Prepare (is_silent_to p h f Prepare) refl k in
    and_from (gives e.value n (Asked f AskPrepare)) (is_silent_to p h e n) (sym (ap (λ m. gives e.value m (Asked f AskPrepare)) w.1) ∙ eq-eqb e.value f.value (sym (ap (λ (d : EnlNo). d.value) w.0))) w.2
given p h e n (Asked f AskPromote) k =
    let w = silent_here p h e f n Promote (is_silent_to p h f Promote) refl k in
    and_from (gives e.value n (Asked f AskPromote)) (is_silent_to p h e n) (sym (ap (λ m. gives e.value m (Asked f AskPromote)) w.1) ∙ eq-eqb e.value f.value (sym (ap (λ (d : EnlNo). d.value) w.0))) w.2
given p h e n (Asked f AskSingle) k =
    let w = silent_here p h e f n Single (is_silent_to p h f Single) refl k in
    and_from (gives e.value n (Asked f AskSingle)) (is_silent_to p h e n) (sym (ap (λ m. gives e.value m (Asked f AskSingle)) w.1) ∙ eq-eqb e.value f.value (sym (ap (λ (d : EnlNo). d.value) w.0))) w.2
given p h e n (Handed f) k =
    let w = silent_here p h e f n Hand (is_silent_to p h f Hand) refl k in
    and_from (gives e.value n (Handed f)) (is_silent_to p h e n) (sym (ap (λ m. gives e.value m (Handed f)) w.1) ∙ eq-eqb e.value f.value (sym (ap (λ (d : EnlNo). d.value) w.0))) w.2
given p h e n _ k = absurd cc

no_vote : (o : Option Vote) → is_none (vote_reply o) ≡ is_none o
no_vote (Some v) = refl
no_vote None = refl

no_owner : (o : Option Outcome) → is_none (owner_reply o) ≡ is_none o
no_owner (Some v) = refl
no_owner None = refl

no_reply : (o : Option Bool) → is_none (promote_reply o) ≡ is_none o
no_reply (Some v) = refl
no_reply None = refl

-- no entry gives what none gives
no_gift : (p : Entry → Bool) → ((x : Entry) → p x ≡ false) → (h : List Entry) → has p h ≡ true → ⊥
no_gift p never [] k = cc
no_gift p never (x ∷ past) k = elim (or_cases (p x) (has p past) k) [
  | inl now ↦ both_ways (p x) (never x) now
  | inr before ↦ no_gift p never past before
]

-- an enlistment that was given a note, with no reply planned and none given
abbrev unheard : Bool → Bool → Bool → Bool
unheard was none answered = (was && none) && not answered

-- the four ways to stay silent are those of is_silent
abbrev ways_of : Plan → List Entry → ℕ → Note → Bool
ways_of p h e Prepare = unheard (has (is_asked e) h) (is_none p.vote) (has (is_vote e) h)
ways_of p h e Hand = unheard (has (is_hand e) h) (is_none p.owner) (has (is_any_owner e) h)
ways_of p h e Promote = unheard (has (is_asked_to_promote e) h) (is_none p.promote) (has (is_promote_reply_of e) h)
ways_of p h e Single = unheard (has (is_asked_alone e) h) (is_none p.owner) (has (is_request_of e) h)
ways_of p h e _ = false

by_a_way : (p : Plan) (h : List Entry) (e : ℕ) (n : Note) → not (is_still_lost e h) ≡ true → ways_of p h e n ≡ true → is_silent p h e ≡ true
by_a_way p h e n up k =
    let a : Bool = ways_of p h e Prepare in
    let b : Bool = ways_of p h e Hand in
    let c : Bool = ways_of p h e Promote in
    let d : Bool = ways_of p h e Single in
    and_from (not (is_still_lost e h)) (((a || b) || c) || d) up (one_of a b c d n (which n k))
  where
    pick : (a b c d : Bool) → Note → Bool
    pick a b c d Prepare = a
    pick a b c d Hand = b
    pick a b c d Promote = c
    pick a b c d Single = d
    pick a b c d _ = false

    one_of : (a b c d : Bool) (m : Note) → pick a b c d m ≡ true → (((a || b) || c) || d) ≡ true
    one_of a b c d Prepare q = or_left ((a || b) || c) d (or_left (a || b) c (or_left a b q))
    one_of a b c d Hand q = or_left ((a || b) || c) d (or_left (a || b) c (or_right a b q))
    one_of a b c d Promote q = or_left ((a || b) || c) d (or_right (a || b) c q)
    one_of a b c d Single q = or_right ((a || b) || c) d q
    one_of a b c d _ q = absurd cc

    which : (m : Note) → ways_of p h e m ≡ true → pick (ways_of p h e Prepare) (ways_of p h e Hand) (ways_of p h e Promote) (ways_of p h e Single) m ≡ true
    which Prepare q = q
    which Hand q = q
    which Promote q = q
    which Single q = q
    which _ q = absurd cc

silent_is : (p : Plan) (h : List Entry) (e : ℕ) (n : Note) → has (gives e n) h ≡ true → stays_silent p h e n ≡ true → is_silent p h e ≡ true
silent_is p h e n g k =
    let a = and_parts (not (is_still_lost e h) && is_none (planned p n)) (not (has (is_answer e n) h)) k in
    let b = and_parts (not (is_still_lost e h)) (is_none (planned p n)) a.0 in
    by_a_way p h e n b.0 (way n g b.1 a.1)
  where
    heard : (was none answered : Bool) → was ≡ true → none ≡ true → not answered ≡ true → unheard was none answered ≡ true
    heard was none answered q r t = and_from (was && none) (not answered) (and_from was none q r) t

    way : (m : Note) → has (gives e m) h ≡ true → is_none (planned p m) ≡ true → not (has (is_answer e m) h) ≡ true → ways_of p h e m ≡ true
    way Prepare q r t = heard (has (is_asked e) h) (is_none p.vote) (has (is_vote e) h) q (sym (no_vote p.vote) ∙ r) t
    way Hand q r t = heard (has (is_hand e) h) (is_none p.owner) (has (is_any_owner e) h) q (sym (no_owner p.owner) ∙ r) t
    way Promote q r t = heard (has (is_asked_to_promote e) h) (is_none p.promote) (has (is_promote_reply_of e) h) q (sym (no_reply p.promote) ∙ r) t
    way Single q r t = heard (has (is_asked_alone e) h) (is_none p.owner) (has (is_request_of e) h) q (sym (no_owner p.owner) ∙ r) t
    way m q r t = absurd (no_gift (gives e m) (λ x. refl) h q)

pub silent : (s : List Line) (h : List Entry) (i : ℕ) (e : EnlNo) (n : Note) → first_of (λ past x. unanswered (plans_of s) h x) h ≡ Some (i, (e, n)) → is_silent (plans_of s e.value) h e.value ≡ true
silent s h i e n k =
    let once : has (λ x. gives e.value n x && is_silent_to (plans_of s) h e n) h ≡ true = said-once (unanswered (plans_of s) h) (λ x. gives e.value n x && is_silent_to (plans_of s) h e n) (e, n) (given (plans_of s) h e n) h i k in
    let both = apart (gives e.value n) (is_silent_to (plans_of s) h e n) h once in
    silent_is (plans_of s e.value) h e.value n both.0 both.1
  where
    apart : (g : Entry → Bool) (b : Bool) (l : List Entry) → has (λ x. g x && b) l ≡ true → (has g l ≡ true) × (b ≡ true)
    apart g b [] k = absurd cc
    apart g b (x ∷ past) k = elim (or_cases (g x && b) (has (λ y. g y && b) past) k) [
      | inl now ↦ let w = and_parts (g x) b now in (or_left (g x) (has g past) w.0, w.1)
      | inr before ↦ let w = apart g b past before in (or_right (g x) (has g past) w.0, w.1)
    ]

-- an enlistment of this number, where it was given the note, has answered it
other_way : (p : ℕ → Plan) (h : List Entry) (e : ℕ) (f : EnlNo) (n : Note) → when {A = EnlNo × Note} (is_silent_to p h f n) (f, n) ≡ None → (e == f.value && stays_silent (p e) h e n) ≡ false
other_way p h e f n k = elim (cases_Bool (e == f.value)) [
  | inl same ↦
      let is : e ≡ f.value = eqb-true e f.value same in
      rw is (and_right (f.value == f.value) (stays_silent (p f.value) h f.value n) (failed (stays_silent (p f.value) h f.value n) k))
  | inr differ ↦ and_left (e == f.value) (stays_silent (p e) h e n) differ
]
  where
    failed : (b : Bool) → when {A = EnlNo × Note} b (f, n) ≡ None → b ≡ false
    failed true q = absurd cc
    failed false q = refl

not_given : (p : ℕ → Plan) (h : List Entry) (e : ℕ) (n : Note) (x : Entry) → unanswered p h x ≡ None → (gives e n x && stays_silent (p e) h e n) ≡ false
not_given p h e Prepare (Asked f AskPrepare) k = other_way p h e f Prepare k
not_given p h e Promote (Asked f AskPromote) k = other_way p h e f Promote k
not_given p h e Single (Asked f AskSingle) k = other_way p h e f Single k
not_given p h e Hand (Handed f) k = other_way p h e f Hand k
not_given p h e _ _ k = refl

-- where an entry gives the note, nobody stays silent to it
together : (g : Entry → Bool) (b : Bool) (h : List Entry) → has (λ x. g x && b) h ≡ false → has g h ≡ true → b ≡ false
together g b [] k w = absurd cc
together g b (x ∷ past) k w =
    let none = or_parts (g x && b) (has (λ y. g y && b) past) k in
    elim (or_cases (g x) (has g past) w) [
      | inl now ↦ second (g x) b now none.0
      | inr before ↦ together g b past none.1 before
    ]
  where
    second : (a c : Bool) → a ≡ true → (a && c) ≡ false → c ≡ false
    second true c q r = r
    second false c q r = absurd cc

not_silent : (s : List Line) (h : List Entry) (e : ℕ) (n : Note) → first_of (λ past x. unanswered (plans_of s) h x) h ≡ None → has (gives e n) h ≡ true → stays_silent (plans_of s e) h e n ≡ false
not_silent s h e n k w =
    together (gives e n) (stays_silent (plans_of s e) h e n) h
    (said-never (unanswered (plans_of s) h) (λ x. gives e n x && stays_silent (plans_of s e) h e n) (not_given (plans_of s) h e n) h k) w

nobody_silent : (s : List Line) (h : List Entry) (e : ℕ) → first_of (λ past x. unanswered (plans_of s) h x) h ≡ None → is_silent (plans_of s e) h e ≡ false
nobody_silent s h e k =
    let p : Plan = plans_of s e in
    false_from_ne_true (is_silent p h e)
    (λ w.
    let here : Bool = not (is_still_lost e h) in
    let a : Bool = (has (is_asked e) h && is_none p.vote) && not (has (is_vote e) h) in
    let b : Bool = (has (is_hand e) h && is_none p.owner) && not (has (is_any_owner e) h) in
    let c : Bool = is_silent_to_promote p h e in
    let d : Bool = (has (is_asked_alone e) h && is_none p.owner) && not (has (is_request_of e) h) in
    let both = and_parts here (((a || b) || c) || d) w in
    elim (ways a b c d both.1) [
      | inl one ↦
          let x = and_parts (has (is_asked e) h && is_none p.vote) (not (has (is_vote e) h)) one in
          let y = and_parts (has (is_asked e) h) (is_none p.vote) x.0 in
          both_ways (stays_silent p h e Prepare) (not_silent s h e Prepare k y.0) (stays p h e Prepare (is_none p.vote) (no_vote p.vote) both.0 y.1 x.1)
      | inr rest ↦
          elim rest [
            | inl one ↦
                let x = and_parts (has (is_hand e) h && is_none p.owner) (not (has (is_any_owner e) h)) one in
                let y = and_parts (has (is_hand e) h) (is_none p.owner) x.0 in
                both_ways (stays_silent p h e Hand) (not_silent s h e Hand k y.0) (stays p h e Hand (is_none p.owner) (no_owner p.owner) both.0 y.1 x.1)
            | inr last ↦
                elim last [
                  | inl one ↦
                      let x = and_parts (has (is_asked_to_promote e) h && is_none p.promote) (not (has (is_promote_reply_of e) h)) one in
                      let y = and_parts (has (is_asked_to_promote e) h) (is_none p.promote) x.0 in
                      both_ways (stays_silent p h e Promote) (not_silent s h e Promote k y.0) (stays p h e Promote (is_none p.promote) (no_reply p.promote) both.0 y.1 x.1)
                  | inr one ↦
                      let x = and_parts (has (is_asked_alone e) h && is_none p.owner) (not (has (is_request_of e) h)) one in
                      let y = and_parts (has (is_asked_alone e) h) (is_none p.owner) x.0 in
                      both_ways (stays_silent p h e Single) (not_silent s h e Single k y.0) (stays p h e Single (is_none p.owner) (no_owner p.owner) both.0 y.1 x.1)
                ]
          ]
    ])
  where
    ways : (a b c d : Bool) → (((a || b) || c) || d) ≡ true → (a ≡ true) ⊎ ((b ≡ true) ⊎ ((c ≡ true) ⊎ (d ≡ true)))
    ways true b c d k = inl refl
    ways false true c d k = inr (inl refl)
    ways false false true d k = inr (inr (inl refl))
    ways false false false d k = inr (inr (inr k))

    stays : (p : Plan) (l : List Entry) (f : ℕ) (n : Note) (none : Bool) → is_none (planned p n) ≡ none → not (is_still_lost f l) ≡ true → none ≡ true → not (has (is_answer f n) l) ≡ true → stays_silent p l f n ≡ true
    stays p l f n none is up yes_none unanswered_now =
        and_from (not (is_still_lost f l) && is_none (planned p n)) (not (has (is_answer f n) l)) (and_from (not (is_still_lost f l)) (is_none (planned p n)) up (is ∙ yes_none)) unanswered_now

has-none : {A : Type 0} (q : A → Bool) → ((x : A) → q x ≡ false) → (xs : List A) → has q xs ≡ false
has-none q never [] = refl
has-none q never (x ∷ xs) = or_from (q x) (has q xs) (never x) (has-none q never xs)

-- where neither a clone nor an enlistment is named, there is nothing that it waits for
pub nothing_waits : (s : List Line) (h : List Entry) → first_of (λ past x. blocking h x) h ≡ None → first_of (λ past x. unanswered (plans_of s) h x) h ≡ None → is_waiting s h ≡ false
nothing_waits s h clones notes =
    or_from (has (blocking_clone h) (all_of clone_of h)) (has (λ x. is_silent (plans_of s x.0.value) h x.0.value) (enlisted h)) (no_open_clone h clones)
    (has-none (λ x. is_silent (plans_of s x.0.value) h x.0.value) (λ x. nobody_silent s h x.0.value notes) (enlisted h))
