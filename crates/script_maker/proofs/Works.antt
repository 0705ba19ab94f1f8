-- The lines of a made script, each after those before it.
use Rattle.std.proofs.Common.{◌≡◌, ℕ, suc, ◌+◌, ◌<◌, ◌≤◌, Bool, true, false, List, [], ◌∷◌, ◌++◌, length, refl, arith, Some}
use Rattle.dtx_values.specs.declared.number.ActorNo.{ActorNo}
use Rattle.dtx_values.specs.declared.number.TxNo.{TxNo}
use Rattle.dtx_values.specs.declared.number.EnlNo.{EnlNo}
use Rattle.dtx_values.specs.declared.number.CloneNo.{CloneNo}
use Rattle.dtx_values.specs.declared.number.RmNo.{RmNo}
use Rattle.dtx_values.specs.declared.script.Body.TheVariants.{Begin, Volatile, Durable, Clone, Commit, Par}
use Rattle.dtx_values.specs.declared.script.EnlistOption.TheVariants.{Plain}
use Rattle.dtx_values.specs.declared.script.Line.{Line}
use Rattle.dtx_values.specs.declared.script.Support.TheVariants.{SinglePhase, TwoPhase}
use Rattle.dtx_values.specs.declared.words.CloneKind.TheVariants.{Rollback}
use Rattle.dtx_values.specs.declared.words.Outcome.TheVariants.{Committed}
use Rattle.dtx_values.specs.declared.words.Timeout.TheVariants.{Default}
use Rattle.dtx_values.specs.declared.words.Vote.{Vote}
use Rattle.dtx_values.specs.declared.words.Vote.TheVariants.{Yes}
use Rattle.dtx_model.specs.Words.{past_of}
use Rattle.dtx_model.specs.Grammar.{OfTransaction, OfEnlistment, command_words, is_par, line_text, makes, uses, vote_word}
use Rattle.script_maker.specs.Gen.{actor_of, begin_line, clone_line, commit_line, first_durable_line, first_of, next_actor_of, owner_line, par_line, second_durable_line, second_of, volatile_line}
use Rattle.script_maker.proofs.Lengths.{length_line, room_of, short_number}
use Rattle.script_maker.proofs.Names.{named_begin, named_clone, named_enlist, named_same}
use Rattle.script_maker.proofs.Stages.{IsFit, IsNext, Stage, goes_on}
use Rattle.script_maker.proofs.Texts.{begin_text, clone_text, commit_text, first_durable_text, owner_text, par_text, second_durable_text, volatile_text}

-- the numbers are in their ranges
turn_range : (k : ℕ) → (1 ≤ actor_of k) × (actor_of k ≤ 16)
turn_range k = (omega arith, omega arith)

next_range : (k : ℕ) → (1 ≤ next_actor_of k) × (next_actor_of k ≤ 16)
next_range k = (omega arith, omega arith)

-- the actors of transaction k
abbrev turn : ℕ → ActorNo
turn k = record { value = actor_of k; in_range = turn_range k }

abbrev next_turn : ℕ → ActorNo
next_turn k = record { value = next_actor_of k; in_range = next_range k }

-- a line whose words have this room is short
short_line : (l : Line) → room_of (command_words l.body) ≤ 190 → length (line_text l) ≤ 200
short_line l h = length_line l.actor.value (command_words l.body) (omega (arith, l.actor.in_range)) h

-- a script with one line more, of this text
abbrev pub More : (t e c : ℕ) (p : Bool) (n : ℕ) (x y : List ℕ) → List Line → Type 0
More t e c p n x y s = (l : Line) × Stage t e c p (n + 1) (x ++ y) (s ++ l ∷ [])

-- a transaction more is begun
pub begin_next : (t n : ℕ) (x : List ℕ) (s : List Line) → Stage t 0 0 false n x s → n ≤ 2000 → t < 256 → More (suc t) 0 0 false n x (begin_line (suc t)) s
begin_next t n x s h few room =
    let u : TxNo = record { value = suc t; in_range = (omega arith, omega arith) } in
    let l : Line = record { actor = turn (suc t); body = Begin u Default } in
    let short : length (line_text l) ≤ 200 = short_line l (omega (arith, short_number u.value (omega arith))) in
    let next : IsNext (past_of s) l = record { makes_new = rw (h.named.unbegun (suc t) (omega arith)) refl; uses_old = refl; par_once = refl } in (
      l,
      goes_on t 0 0 (suc t) 0 0 n false false x (begin_line (suc t)) s l h few (record { in_range = refl; short = short; kind = λ past. refl; not_at_log = refl }) next
          (begin_text (suc t) (turn (suc t)) u refl refl) (named_begin t 0 0 false (past_of s) l h.named refl refl),
    )

-- the threads begin
pub par_next : (t e c n : ℕ) (x : List ℕ) (s : List Line) → Stage t e c false n x s → n ≤ 2000 → More t e c true n x par_line s
par_next t e c n x s h few =
    let a : ActorNo = record { value = 1; in_range = (omega arith, omega arith) } in
    let l : Line = record { actor = a; body = Par } in
    let short : length (line_text l) ≤ 200 = short_line l (omega arith) in
    let next : IsNext (past_of s) l = record { makes_new = refl; uses_old = refl; par_once = rw h.named.threads refl } in (
      l,
      goes_on t e c t e c n false true x par_line s l h few (record { in_range = refl; short = short; kind = λ past. refl; not_at_log = refl }) next (par_text a refl) (named_same t e c false (past_of s) l h.named refl),
    )

-- a line that enlists in a transaction that was begun
enlisted : (t e c n i : ℕ) (x y : List ℕ) (s : List Line) (l : Line) (u : TxNo) → Stage t e c true n x s → n ≤ 2000 → u.value ≤ t → e < i → makes l.body ≡ OfEnlistment i ∷ []
    → uses l.body ≡ OfTransaction u.value ∷ [] → is_par l.body ≡ false → IsFit l → line_text l ≡ y → More t i c true n x y s
enlisted t e c n i x y s l u h few begun above w v q f d =
    let next : IsNext (past_of s) l = record {
      makes_new = rw w (rw (h.named.unenlisted i above) refl);
      uses_old = rw v (rw (h.named.begun u.value u.in_range.0 begun) refl);
      par_once = rw q refl;
    } in
    (l, goes_on t e c t i c n true true x y s l h few f next d (named_enlist t e c i true (past_of s) l h.named above w q))

-- a volatile
pub volatile_next : (t e c k n : ℕ) (v : Vote) (x : List ℕ) (s : List Line) → Stage t e c true n x s → n ≤ 2000 → suc k ≤ t → t ≤ 256 → e < first_of (suc k) → length (vote_word (Some v)) ≤ 4
    → More t (first_of (suc k)) c true n x (volatile_line (vote_word (Some v)) (suc k)) s
volatile_next t e c k n v x s h few begun high above brief =
    let u : TxNo = record { value = suc k; in_range = (omega arith, omega arith) } in
    let i : EnlNo = record { value = first_of (suc k); in_range = (omega arith, omega arith) } in
    let l : Line = record { actor = turn (suc k); body = Volatile u i Plain (Some v) } in
    let short : length (line_text l) ≤ 200 = short_line l (omega (arith, short_number u.value (omega arith), short_number i.value (omega arith))) in
    enlisted t e c n i.value x (volatile_line (vote_word (Some v)) (suc k)) s l u h few begun above refl refl refl (record { in_range = refl; short = short; kind = λ past. refl; not_at_log = refl })
    (volatile_text (suc k) v (turn (suc k)) u i refl refl refl)

-- a durable that can own the commit
pub owner_next : (t e c k n : ℕ) (x : List ℕ) (s : List Line) → Stage t e c true n x s → n ≤ 2000 → suc k ≤ t → t ≤ 256 → e < first_of (suc k) → More t (first_of (suc k)) c true n x (owner_line (suc k)) s
owner_next t e c k n x s h few begun high above =
    let u : TxNo = record { value = suc k; in_range = (omega arith, omega arith) } in
    let i : EnlNo = record { value = first_of (suc k); in_range = (omega arith, omega arith) } in
    let r : RmNo = record { value = 1; in_range = (omega arith, omega arith) } in
    let l : Line = record { actor = turn (suc k); body = Durable u i r (SinglePhase (Some Yes) (Some Committed)) } in
    let short : length (line_text l) ≤ 200 = short_line l (omega (arith, short_number u.value (omega arith), short_number i.value (omega arith), short_number 1 (omega arith))) in
    enlisted t e c n i.value x (owner_line (suc k)) s l u h few begun above refl refl refl (record { in_range = refl; short = short; kind = λ past. refl; not_at_log = refl })
    (owner_text (suc k) (turn (suc k)) u i r refl refl refl refl)

-- the first of two durables
pub first_durable_next : (t e c k n : ℕ) (x : List ℕ) (s : List Line) → Stage t e c true n x s → n ≤ 2000 → suc k ≤ t → t ≤ 256 → e < first_of (suc k) → More t (first_of (suc k)) c true n x (first_durable_line (suc k)) s
first_durable_next t e c k n x s h few begun high above =
    let u : TxNo = record { value = suc k; in_range = (omega arith, omega arith) } in
    let i : EnlNo = record { value = first_of (suc k); in_range = (omega arith, omega arith) } in
    let r : RmNo = record { value = 1; in_range = (omega arith, omega arith) } in
    let l : Line = record { actor = turn (suc k); body = Durable u i r (TwoPhase (Some Yes)) } in
    let short : length (line_text l) ≤ 200 = short_line l (omega (arith, short_number u.value (omega arith), short_number i.value (omega arith), short_number 1 (omega arith))) in
    enlisted t e c n i.value x (first_durable_line (suc k)) s l u h few begun above refl refl refl (record { in_range = refl; short = short; kind = λ past. refl; not_at_log = refl })
    (first_durable_text (suc k) (turn (suc k)) u i r refl refl refl refl)

-- and the second
pub second_durable_next : (t e c k n : ℕ) (x : List ℕ) (s : List Line) → Stage t e c true n x s → n ≤ 2000 → suc k ≤ t → t ≤ 256 → e < second_of (suc k) → More t (second_of (suc k)) c true n x (second_durable_line (suc k)) s
second_durable_next t e c k n x s h few begun high above =
    let u : TxNo = record { value = suc k; in_range = (omega arith, omega arith) } in
    let i : EnlNo = record { value = second_of (suc k); in_range = (omega arith, omega arith) } in
    let r : RmNo = record { value = 2; in_range = (omega arith, omega arith) } in
    let l : Line = record { actor = next_turn (suc k); body = Durable u i r (TwoPhase (Some Yes)) } in
    let short : length (line_text l) ≤ 200 = short_line l (omega (arith, short_number u.value (omega arith), short_number i.value (omega arith), short_number 2 (omega arith))) in
    enlisted t e c n i.value x (second_durable_line (suc k)) s l u h few begun above refl refl refl (record { in_range = refl; short = short; kind = λ past. refl; not_at_log = refl })
    (second_durable_text (suc k) (next_turn (suc k)) u i r refl refl refl refl)

-- a clone
pub clone_next : (t e c k n : ℕ) (x : List ℕ) (s : List Line) → Stage t e c true n x s → n ≤ 2000 → suc k ≤ t → t ≤ 256 → c < suc k → More t e (suc k) true n x (clone_line (suc k)) s
clone_next t e c k n x s h few begun high above =
    let u : TxNo = record { value = suc k; in_range = (omega arith, omega arith) } in
    let i : CloneNo = record { value = suc k; in_range = (omega arith, omega arith) } in
    let l : Line = record { actor = turn (suc k); body = Clone u i Rollback } in
    let short : length (line_text l) ≤ 200 = short_line l (omega (arith, short_number u.value (omega arith))) in
    let next : IsNext (past_of s) l = record {
      makes_new = rw (h.named.uncloned (suc k) above) refl;
      uses_old = rw (h.named.begun (suc k) u.in_range.0 begun) refl;
      par_once = refl;
    } in (
      l,
      goes_on t e c t e (suc k) n true true x (clone_line (suc k)) s l h few (record { in_range = refl; short = short; kind = λ past. refl; not_at_log = refl }) next
          (clone_text (suc k) (turn (suc k)) u i refl refl refl) (named_clone t e c (suc k) true (past_of s) l h.named above refl refl),
    )

-- commit is asked
pub commit_next : (t e c k n : ℕ) (x : List ℕ) (s : List Line) → Stage t e c true n x s → n ≤ 2000 → suc k ≤ t → t ≤ 256 → More t e c true n x (commit_line (suc k)) s
commit_next t e c k n x s h few begun high =
    let u : TxNo = record { value = suc k; in_range = (omega arith, omega arith) } in
    let l : Line = record { actor = turn (suc k); body = Commit u } in
    let short : length (line_text l) ≤ 200 = short_line l (omega (arith, short_number u.value (omega arith))) in
    let next : IsNext (past_of s) l = record { makes_new = refl; uses_old = rw (h.named.begun (suc k) u.in_range.0 begun) refl; par_once = refl } in (
      l,
      goes_on t e c t e c n true true x (commit_line (suc k)) s l h few (record { in_range = refl; short = short; kind = λ past. refl; not_at_log = refl }) next
          (commit_text (suc k) (turn (suc k)) u refl refl) (named_same t e c true (past_of s) l h.named refl),
    )
