-- The text that is made of up to 256 transactions is a script.
use Rattle.std.proofs.Common.{◌≡◌, ℕ, zero, suc, ◌+◌, ◌*◌, ◌%◌, ◌≤◌, ◌==◌, Bool, true, false, List, [], ◌∷◌, ◌++◌, ap, sym, ◌∙◌, subst, arith, append_assoc, codes}
use Rattle.std.specs.Prelude.{if◌then◌else◌}
use Rattle.std.proofs.lemmas.List.{append-nil}
use Rattle.dtx_values.specs.declared.script.Line.{Line}
use Rattle.dtx_values.specs.declared.words.Vote.TheVariants.{Yes, No}
use Rattle.dtx_model.specs.Grammar.{Reads}
use Rattle.script_text.proofs.OneReading.{one_script}
use Rattle.script_maker.specs.Gen.{begin_line, clone_line, commit_line, enlisted_lines, first_durable_line, first_of, gen, owner_line, par_line, second_durable_line, second_of, up_to, volatile_line, work_lines}
use Rattle.script_maker.proofs.Stages.{Stage, stage_more, stage_none}
use Rattle.script_maker.proofs.Works.{begin_next, clone_next, commit_next, first_durable_next, owner_next, par_next, second_durable_next, volatile_next}
use Rattle.dtx_model.specs.AtLog.{has_log_line}

-- at most n lines of this text are a script
abbrev Lines : (t e c : ℕ) (p : Bool) (n : ℕ) → List ℕ → Type 0
Lines t e c p n x = (s : List Line) × Stage t e c p n x s

-- the same text, put together in another way
same_text : (t e c n : ℕ) (p : Bool) (x y : List ℕ) → x ≡ y → Lines t e c p n x → Lines t e c p n y
same_text t e c n p x y q h = (h.0, subst (λ (z : List ℕ). Stage t e c p n z h.0) q h.1)

-- transactions are begun
begun : (t : ℕ) → t ≤ 256 → Lines t 0 0 false t (up_to begin_line t)
begun zero h = ([], stage_none)
begun (suc t) h =
    let s = begun t (omega arith) in
    let r = begin_next t t (up_to begin_line t) s.0 s.1 (omega arith) (omega arith) in
    (s.0 ++ r.0 ∷ [], stage_more (suc t) 0 0 (t + 1) 0 0 (suc t) false (up_to begin_line (suc t)) (s.0 ++ r.0 ∷ []) r.1 (omega arith) (omega arith) (omega arith))

-- what is enlisted or cloned, whatever the tests say
enlisted : (t k n : ℕ) (x : List ℕ) (s : List Line) → Stage t (2 * k) k true n x s → n ≤ 1990 → suc k ≤ t → t ≤ 256 → (a b c d : Bool)
    → Lines t (2 * suc k) (suc k) true (n + 2)
    (x
    ++ (if a then volatile_line (codes "yes") (suc k)
    else if b then volatile_line (codes "no") (suc k)
    else if c then owner_line (suc k)
    else if d then first_durable_line (suc k) ++ second_durable_line (suc k)
    else clone_line (suc k)))
enlisted t k n x s h few begun high true b c d =
    let r = volatile_next t (2 * k) k k n Yes x s h (omega arith) begun high (omega arith) (omega arith) in
    (s ++ r.0 ∷ [], stage_more t (first_of (suc k)) k (n + 1) (2 * suc k) (suc k) (n + 2) true (x ++ volatile_line (codes "yes") (suc k)) (s ++ r.0 ∷ []) r.1 (omega arith) (omega arith) (omega arith))
enlisted t k n x s h few begun high false true c d =
    let r = volatile_next t (2 * k) k k n No x s h (omega arith) begun high (omega arith) (omega arith) in
    (s ++ r.0 ∷ [], stage_more t (first_of (suc k)) k (n + 1) (2 * suc k) (suc k) (n + 2) true (x ++ volatile_line (codes "no") (suc k)) (s ++ r.0 ∷ []) r.1 (omega arith) (omega arith) (omega arith))
enlisted t k n x s h few begun high false false true d =
    let r = owner_next t (2 * k) k k n x s h (omega arith) begun high (omega arith) in
    (s ++ r.0 ∷ [], stage_more t (first_of (suc k)) k (n + 1) (2 * suc k) (suc k) (n + 2) true (x ++ owner_line (suc k)) (s ++ r.0 ∷ []) r.1 (omega arith) (omega arith) (omega arith))
enlisted t k n x s h few begun high false false false true =
    let q = first_durable_next t (2 * k) k k n x s h (omega arith) begun high (omega arith) in
    let r = second_durable_next t (first_of (suc k)) k k (n + 1) (x ++ first_durable_line (suc k)) (s ++ q.0 ∷ []) q.1 (omega arith) begun high (omega arith) in
    let two : Stage t (2 * suc k) (suc k) true (n + 2) ((x ++ first_durable_line (suc k)) ++ second_durable_line (suc k)) ((s ++ q.0 ∷ []) ++ r.0 ∷ []) =
    stage_more t (second_of (suc k)) k (n + 1 + 1) (2 * suc k) (suc k) (n + 2) true ((x ++ first_durable_line (suc k)) ++ second_durable_line (suc k)) ((s ++ q.0 ∷ []) ++ r.0 ∷ []) r.1
    (omega arith) (omega arith) (omega arith) in
    same_text t (2 * suc k) (suc k) (n + 2) true ((x ++ first_durable_line (suc k)) ++ second_durable_line (suc k)) (x ++ (first_durable_line (suc k) ++ second_durable_line (suc k)))
    (append_assoc x (first_durable_line (suc k)) (second_durable_line (suc k))) ((s ++ q.0 ∷ []) ++ r.0 ∷ [], two)
enlisted t k n x s h few begun high false false false false =
    let r = clone_next t (2 * k) k k n x s h (omega arith) begun high (omega arith) in
    (s ++ r.0 ∷ [], stage_more t (2 * k) (suc k) (n + 1) (2 * suc k) (suc k) (n + 2) true (x ++ clone_line (suc k)) (s ++ r.0 ∷ []) r.1 (omega arith) (omega arith) (omega arith))

-- a transaction more is worked on
work : (t k n : ℕ) (x : List ℕ) → Lines t (2 * k) k true n x → n ≤ 1990 → suc k ≤ t → t ≤ 256 → Lines t (2 * suc k) (suc k) true (n + 3) (x ++ work_lines (suc k))
work t k n x h few begun high =
    let q : Lines t (2 * suc k) (suc k) true (n + 2) (x ++ enlisted_lines (suc k)) = enlisted t k n x h.0 h.1 few begun high (suc k % 5 == 0) (suc k % 5 == 1) (suc k % 5 == 2) (suc k % 5 == 3) in
    let r = commit_next t (2 * suc k) (suc k) k (n + 2) (x ++ enlisted_lines (suc k)) q.0 q.1 (omega arith) begun high in
    let all : Stage t (2 * suc k) (suc k) true (n + 3) ((x ++ enlisted_lines (suc k)) ++ commit_line (suc k)) (q.0 ++ r.0 ∷ []) =
    stage_more t (2 * suc k) (suc k) (n + 2 + 1) (2 * suc k) (suc k) (n + 3) true ((x ++ enlisted_lines (suc k)) ++ commit_line (suc k)) (q.0 ++ r.0 ∷ []) r.1 (omega arith) (omega arith) (omega arith) in
    same_text t (2 * suc k) (suc k) (n + 3) true ((x ++ enlisted_lines (suc k)) ++ commit_line (suc k)) (x ++ work_lines (suc k)) (append_assoc x (enlisted_lines (suc k)) (commit_line (suc k)))
    (q.0 ++ r.0 ∷ [], all)

-- all up to k are
worked : (t k : ℕ) (x : List ℕ) → Lines t 0 0 true (t + 1) x → k ≤ t → t ≤ 256 → Lines t (2 * k) k true (t + 1 + 3 * k) (x ++ up_to work_lines k)
worked t zero x h begun high =
    let s : Lines t (2 * 0) 0 true (t + 1 + 3 * 0) x = (h.0, stage_more t 0 0 (t + 1) (2 * 0) 0 (t + 1 + 3 * 0) true x h.0 h.1 (omega arith) (omega arith) (omega arith)) in
    same_text t (2 * 0) 0 (t + 1 + 3 * 0) true x (x ++ []) (sym (append-nil x)) s
worked t (suc k) x h begun high =
    let s = worked t k x h (omega arith) high in
    let r = work t k (t + 1 + 3 * k) (x ++ up_to work_lines k) s (omega arith) begun high in
    same_text t (2 * suc k) (suc k) (t + 1 + 3 * suc k) true ((x ++ up_to work_lines k) ++ work_lines (suc k)) (x ++ up_to work_lines (suc k)) (append_assoc x (up_to work_lines k) (work_lines (suc k))) (
      r.0,
      stage_more t (2 * suc k) (suc k) (t + 1 + 3 * k + 3) (2 * suc k) (suc k) (t + 1 + 3 * suc k) true ((x ++ up_to work_lines k) ++ work_lines (suc k)) r.0 r.1 (omega arith) (omega arith)
          (omega arith),
    )

-- the whole text
whole : (n : ℕ) → n ≤ 256 → Lines n (2 * n) n true (n + 1 + 3 * n) (gen n)
unfolding gen
whole n h =
    let s = begun n h in
    let p = par_next n 0 0 n (up_to begin_line n) s.0 s.1 (omega arith) in
    worked n n (up_to begin_line n ++ par_line) (s.0 ++ p.0 ∷ [], p.1) (omega arith) h

-- what a stage's lines are the text of is read as them
reads_of : (t e c n : ℕ) (p : Bool) (x : List ℕ) (s : List Line) → Stage t e c p n x s → Reads x s
reads_of t e c n p x s h = record { bytes = sym h.text; script = h.script }

-- so the whole is read as a script
pub made_reads : (n : ℕ) → n ≤ 256 → (s : List Line) × Reads (gen n) s
made_reads n h = let w = whole n h in (w.0, reads_of _ _ _ _ _ _ _ w.1)

-- which has no line at the log, as it is the one script of this text
pub made_no_log_line : (n : ℕ) → n ≤ 256 → (s : List Line) → Reads (gen n) s → has_log_line s ≡ false
made_no_log_line n h s r = let w = whole n h in ap has_log_line (one_script (gen n) s w.0 r (reads_of _ _ _ _ _ _ _ w.1)) ∙ w.1.no_log_line
