-- The answer where no script to be run came of the source is the only one that fits.
use Rattle.std.proofs.Common.{◌≡◌, ℕ, ◌⊎◌, inl, inr, List, Option, Some, refl, sym, ◌∙◌, subst}
use Rattle.std.specs.Option.{ForSome}
use Rattle.dtx_values.specs.declared.script.BadCause.{BadCause}
use Rattle.dtx_values.specs.declared.script.Line.{Line}
use Rattle.dtx_model.specs.Faults.{Bad}
use Rattle.dtx_model.specs.Grammar.{Reads}
use Rattle.script_calls.specs.Threadable.{IsThreadable}
use Rattle.program_io.specs.Judged.{HasDoAt, IsJudged, first_do}
use Rattle.program_io.specs.Refusal.{IsGoodFor, IsOnThreads, IsRunnable, Refuses}
use Rattle.program_io.specs.declared.exit.Exit.{Exit}
use Rattle.program_io.specs.declared.exit.Exit.TheVariants.{BadScript, BadTrace, Fine, LogFault, Memory, NotALog, NotThreadable, ReadFault, Usage, WriteFault}
use Rattle.program_io.specs.declared.way.Way.{Way}
use Rattle.program_io.specs.declared.way.Way.TheVariants.{Replay}
use Rattle.script_runner.proofs.Programs.{NeverBoth}
use Rattle.program_io.proofs.Threadable.{some_do}

-- bytes are one script, and have one first bad line and one first cause, by the law of readings
abbrev pub OneScript : Type 0
OneScript = (b : List ℕ) (s r : List Line) → Reads b s → Reads b r → s ≡ r

abbrev pub OneCause : Type 0
OneCause = (b : List ℕ) (n m : ℕ) (c d : BadCause) → Bad b n c → Bad b m d → (n ≡ m) × (c ≡ d)

-- a script that can run on threads has no `do`
threadable : (w : Way) (s : List Line) → IsOnThreads w → IsRunnable w s → IsThreadable s
threadable w s (h, is) k = subst (λ (v : Way). IsRunnable v s) is k

never_do : OneScript → (w : Way) (s : List Line) (b : List ℕ) (n : ℕ) → IsOnThreads w → IsRunnable w s → Reads b s → HasDoAt b n → ⊥
never_do one w s b n on k read (r, reads, at) =
    let same : r ≡ s = one b r s reads read in
    some_do 1 n s (subst (λ (x : List Line). first_do x ≡ Some n) same at) (threadable w s on k).free_of_do

never_good : NeverBoth → (b : List ℕ) (n m : ℕ) (c : BadCause) → HasDoAt b m → Bad b n c → ⊥
never_good either b n m c (s, reads, at) bad = either b s n c reads bad

same_bad : (n m : ℕ) (c d : BadCause) → (n ≡ m) × (c ≡ d) → BadScript n c ≡ BadScript m d
same_bad n m c d (e, f) = cc

same_do : OneScript → (b : List ℕ) (n m : ℕ) → HasDoAt b n → HasDoAt b m → NotThreadable n ≡ NotThreadable m
same_do one b n m (s, reads, at) (r, reads', at') =
    let same : r ≡ s = one b r s reads' reads in
    let both : first_do s ≡ Some m = subst (λ (x : List Line). first_do x ≡ Some m) same at' in
    let line : ◌≡◌ {A = Option ℕ} (Some n) (Some m) = sym at ∙ both in
    cc

pub bad_answer : NeverBoth → OneCause → (w : Way) (given : Option (List ℕ)) (x : Exit) → Refuses w given x → (n : ℕ) (c : BadCause) → ForSome given (λ b. Bad b n c → (x ≡ BadScript n c) ⊎ ((x ≡ ReadFault) ⊎ (x ≡ Memory)))
bad_answer either cause w given (BadScript m d) h n c b told bad = inl (same_bad m n d c (cause b m n d c (h b told) bad))
bad_answer either cause w given (NotThreadable m) (on, h) n c b told bad = absurd (never_good either b n m c (h b told) bad)
bad_answer either cause w given ReadFault h n c b told bad = inr (inl refl)
bad_answer either cause w given Memory h n c b told bad = inr (inr refl)
bad_answer either cause w given Fine h n c b told bad = absurd h
bad_answer either cause w given Usage h n c b told bad = absurd h
bad_answer either cause w given LogFault h n c b told bad = absurd h
bad_answer either cause w given (NotALog p) h n c b told bad = absurd h
bad_answer either cause w given (BadTrace m) h n c b told bad = absurd h
bad_answer either cause w given WriteFault h n c b told bad = absurd h

pub do_answer : NeverBoth → OneScript → (w : Way) (given : Option (List ℕ)) (x : Exit) → Refuses w given x → (n : ℕ) → ForSome given (λ b. HasDoAt b n → (x ≡ NotThreadable n) ⊎ ((x ≡ ReadFault) ⊎ (x ≡ Memory)))
do_answer either one w given (BadScript m d) h n b told at = absurd (never_good either b m n d at (h b told))
do_answer either one w given (NotThreadable m) (on, h) n b told at = inl (same_do one b m n (h b told) at)
do_answer either one w given ReadFault h n b told at = inr (inl refl)
do_answer either one w given Memory h n b told at = inr (inr refl)
do_answer either one w given Fine h n b told at = absurd h
do_answer either one w given Usage h n b told at = absurd h
do_answer either one w given LogFault h n b told at = absurd h
do_answer either one w given (NotALog p) h n b told at = absurd h
do_answer either one w given (BadTrace m) h n b told at = absurd h
do_answer either one w given WriteFault h n b told at = absurd h

-- of an input that is good only a fault of the source, or want of memory
pub good_answer : NeverBoth → OneScript → (w : Way) (given : Option (List ℕ)) (x : Exit) → Refuses w given x → IsGoodFor w given → (x ≡ ReadFault → ⊥) → (x ≡ Fine) ⊎ (x ≡ Memory)
good_answer either one w given (BadScript m d) h (b, s, told, reads, k) calm = absurd (either b s m d reads (h b told))
good_answer either one w given (NotThreadable m) (on, h) (b, s, told, reads, k) calm = absurd (never_do one w s b m on k reads (h b told))
good_answer either one w given ReadFault h good calm = absurd (calm refl)
good_answer either one w given Memory h good calm = inr refl
good_answer either one w given Fine h good calm = absurd h
good_answer either one w given Usage h good calm = absurd h
good_answer either one w given LogFault h good calm = absurd h
good_answer either one w given (NotALog p) h good calm = absurd h
good_answer either one w given (BadTrace m) h good calm = absurd h
good_answer either one w given WriteFault h good calm = absurd h

-- where a script came, none of both
pub bad_never : NeverBoth → (given : Option (List ℕ)) (s : List Line) → ForSome given (λ b. Reads b s) → (n : ℕ) (c : BadCause) → ForSome given (λ b. Bad b n c → ⊥)
bad_never either given s read n c b told bad = either b s n c (read b told) bad

pub do_never : OneScript → (w : Way) (given : Option (List ℕ)) (s : List Line) → ForSome given (λ b. Reads b s) → IsRunnable w s → (n : ℕ) → IsOnThreads w → ForSome given (λ b. HasDoAt b n → ⊥)
do_never one w given s read k n on b told at = never_do one w s b n on k (read b told) at

-- The answers of a run whose script is good: none of the words, of the bytes, or of the source.
pub sure_answer : (x : Exit) → (x ≡ Usage → ⊥) → ((p : ℕ) → x ≡ NotALog p → ⊥) → ((n : ℕ) → x ≡ BadTrace n → ⊥) → ((n : ℕ) (c : BadCause) → x ≡ BadScript n c → ⊥) → ((n : ℕ) → x ≡ NotThreadable n → ⊥) → (x ≡ ReadFault → ⊥)
    → (x ≡ Fine) ⊎ ((x ≡ LogFault) ⊎ ((x ≡ WriteFault) ⊎ (x ≡ Memory)))
sure_answer Fine usage unlisted unchecked bad undone read = inl refl
sure_answer Usage usage unlisted unchecked bad undone read = absurd (usage refl)
sure_answer (BadScript n c) usage unlisted unchecked bad undone read = absurd (bad n c refl)
sure_answer (NotThreadable n) usage unlisted unchecked bad undone read = absurd (undone n refl)
sure_answer ReadFault usage unlisted unchecked bad undone read = absurd (read refl)
sure_answer LogFault usage unlisted unchecked bad undone read = inr (inl refl)
sure_answer (NotALog p) usage unlisted unchecked bad undone read = absurd (unlisted p refl)
sure_answer (BadTrace n) usage unlisted unchecked bad undone read = absurd (unchecked n refl)
sure_answer WriteFault usage unlisted unchecked bad undone read = inr (inr (inl refl))
sure_answer Memory usage unlisted unchecked bad undone read = inr (inr (inr refl))

-- a replay isn't on threads
pub not_on_threads : IsOnThreads Replay → ⊥
not_on_threads (h, e) = cc

-- where no fault came, all was done but for want of memory
pub sure_done : (x : Exit) → (x ≡ Fine) ⊎ ((x ≡ LogFault) ⊎ ((x ≡ WriteFault) ⊎ (x ≡ Memory))) → (x ≡ LogFault → ⊥) → (x ≡ WriteFault → ⊥) → (x ≡ Fine) ⊎ (x ≡ Memory)
sure_done x (inl e) log write = inl e
sure_done x (inr (inl e)) log write = absurd (log e)
sure_done x (inr (inr (inl e))) log write = absurd (write e)
sure_done x (inr (inr (inr e))) log write = inr e

-- the answers of what only writes a text
abbrev pub IsOfText : Exit → Type 0
IsOfText x = (x ≡ Fine) ⊎ ((x ≡ WriteFault) ⊎ (x ≡ Memory))

pub made_other : (x y : Exit) → IsOfText x → x ≡ y → (Fine ≡ y → ⊥) → (WriteFault ≡ y → ⊥) → (Memory ≡ y → ⊥) → ⊥
made_other x y (inl a) e fine fault memory = fine (sym a ∙ e)
made_other x y (inr (inl a)) e fine fault memory = fault (sym a ∙ e)
made_other x y (inr (inr a)) e fine fault memory = memory (sym a ∙ e)

pub made_done : (x : Exit) → IsOfText x → (x ≡ WriteFault → ⊥) → (x ≡ Fine) ⊎ (x ≡ Memory)
made_done x (inl e) write = inl e
made_done x (inr (inl e)) write = absurd (write e)
made_done x (inr (inr e)) write = inr e

-- where a script is made, or its replay is shown, no line is judged
pub not_judged : (x : Exit) → ((n : ℕ) (c : BadCause) → x ≡ BadScript n c → ⊥) → ((n : ℕ) → x ≡ NotThreadable n → ⊥) → IsJudged x → ⊥
not_judged x bad undone (inl (n, c, e)) = bad n c e
not_judged x bad undone (inr (n, e)) = undone n e

pub made_bad : (x : Exit) → IsOfText x → (n : ℕ) (c : BadCause) → x ≡ BadScript n c → ⊥
made_bad x (inl a) n c e = cc
made_bad x (inr (inl a)) n c e = cc
made_bad x (inr (inr a)) n c e = cc

pub made_do : (x : Exit) → IsOfText x → (n : ℕ) → x ≡ NotThreadable n → ⊥
made_do x (inl a) n e = cc
made_do x (inr (inl a)) n e = cc
made_do x (inr (inr a)) n e = cc

-- what lists a log isn't asked in vain, and reads nothing
pub list_asked : (x : Exit) → (x ≡ Fine) ⊎ ((x ≡ LogFault) ⊎ ((x ≡ WriteFault) ⊎ ((x ≡ Memory) ⊎ ((p : ℕ) × (x ≡ NotALog p))))) → x ≡ Usage → ⊥
list_asked x (inl a) e = cc
list_asked x (inr (inl a)) e = cc
list_asked x (inr (inr (inl a))) e = cc
list_asked x (inr (inr (inr (inl a)))) e = cc
list_asked x (inr (inr (inr (inr (p, a))))) e = cc

pub list_unread : (x : Exit) → (x ≡ Fine) ⊎ ((x ≡ LogFault) ⊎ ((x ≡ WriteFault) ⊎ ((x ≡ Memory) ⊎ ((p : ℕ) × (x ≡ NotALog p))))) → x ≡ ReadFault → ⊥
list_unread x (inl a) e = cc
list_unread x (inr (inl a)) e = cc
list_unread x (inr (inr (inl a))) e = cc
list_unread x (inr (inr (inr (inl a)))) e = cc
list_unread x (inr (inr (inr (inr (p, a))))) e = cc

-- nor is what replays the made script, which reads nothing either
pub sure_asked : (x : Exit) → (x ≡ Fine) ⊎ ((x ≡ LogFault) ⊎ ((x ≡ WriteFault) ⊎ (x ≡ Memory))) → x ≡ Usage → ⊥
sure_asked x (inl a) e = cc
sure_asked x (inr (inl a)) e = cc
sure_asked x (inr (inr (inl a))) e = cc
sure_asked x (inr (inr (inr a))) e = cc

pub sure_unread : (x : Exit) → (x ≡ Fine) ⊎ ((x ≡ LogFault) ⊎ ((x ≡ WriteFault) ⊎ (x ≡ Memory))) → x ≡ ReadFault → ⊥
sure_unread x (inl a) e = cc
sure_unread x (inr (inl a)) e = cc
sure_unread x (inr (inr (inl a))) e = cc
sure_unread x (inr (inr (inr a))) e = cc

-- a check isn't asked in vain
pub check_asked : (x : Exit) → (x ≡ Fine) ⊎ ((x ≡ ReadFault) ⊎ ((x ≡ WriteFault) ⊎ ((x ≡ Memory) ⊎ ((n : ℕ) × (x ≡ BadTrace n))))) → x ≡ Usage → ⊥
check_asked x (inl a) e = cc
check_asked x (inr (inl a)) e = cc
check_asked x (inr (inr (inl a))) e = cc
check_asked x (inr (inr (inr (inl a)))) e = cc
check_asked x (inr (inr (inr (inr (n, a))))) e = cc
