-- What the coordinator sends where a message or an end makes it decide: the abort, or what the one that it let decide said, or its doubt.
use Rattle.std.proofs.Common.{◌≡◌, ℕ, Bool, true, false, ◌&&◌, ◌⊎◌, inl, inr, List, [], ◌∷◌, refl}
use Rattle.std.specs.Prelude.{not, if◌then◌else◌}
use Rattle.dtx_values.specs.declared.entry.Entry.{Entry}
use Rattle.dtx_values.specs.declared.entry.Entry.TheVariants.{Got, Down as Ended}
use Rattle.dtx_values.specs.declared.message.Conn.{Conn}
use Rattle.dtx_values.specs.declared.message.Conn.TheVariants.{Begin, Voter, Enl, Again}
use Rattle.dtx_values.specs.declared.message.Dir.TheVariants.{Up, Down}
use Rattle.dtx_values.specs.declared.message.Message.{Message}
use Rattle.dtx_values.specs.declared.message.Message.TheVariants.{BeginBegin, BeginCommit, BeginCommitOne, EnlistEnlist, EnlistOneAborted, EnlistOneCommitted, EnlistOneInDoubt, ReenlistReenlist, VoterAsk, VoterVoter, VoterYes}
use Rattle.dtx_values.specs.declared.number.EnlNo.{EnlNo}
use Rattle.dtx_values.specs.Lines.{has_line}
use Rattle.dtx_model.specs.declared.desk.Stage.{Stage}
use Rattle.dtx_model.specs.declared.desk.Stage.TheVariants.{Idle, Active, Aborted, Answered, Sole}
use Rattle.dtx_model.specs.Words.{has}
use Rattle.dtx_model.specs.Coordinated.{Coordinated, abort_block, abort_if, abort_sends, aborts, accepts, begin_if, coordinate, core_down, core_got, decides, doubt_sends, ended_block, ended_stage, follow, hears_one, is_one, is_undecided, known_after, one_sends, sole_if, stage_after, stage_if, to}
use Rattle.dtx_model.proofs.Bools.{not_both}
use Rattle.history_table.proofs.Keeping.{Keeps, keeps_before}
use Rattle.history_table.proofs.Table.{is_opening_got}
use Rattle.history_table.proofs.Crossed.{end_opened, is_got_on}
use Rattle.history_table.proofs.CoreKnown.{begun_on, got_there, later_opened, work_begun}
use Rattle.history_table.proofs.Standing.{begun_if_enlist, begun_if_voter}
use Rattle.dtx_model.specs.Promotes.{is_begun_got}
use Rattle.history_table.proofs.Scans.{has_more}
use Rattle.settled_histories.proofs.Awaits.{IsUpheld}

-- after the message it sends its abort; or the one that it let decide has answered, and it says so
abbrev pub IsVerdict : Coordinated → Entry → List Entry → Type 0
IsVerdict k x es =
    (es ≡ abort_sends (follow k x))
    ⊎ ((stage_after k x ≡ Answered) × (known_after x k.known ≡ k.known) × ((es ≡ one_sends k) ⊎ (es ≡ doubt_sends k)))

begun_there : (h : List Entry) → Keeps h → has is_begun_got h ≡ true → has (is_opening_got Begin) h ≡ true
begun_there h k t = got_there Begin (λ m. true) h k (has_more is_begun_got (is_got_on Begin Down (λ m. true)) begun_on h t)

module _ (p : Stage → Bool) (u : IsUpheld p) where
  begin_stays : (s : Stage) → p s ≡ true → p (begin_if s) ≡ false → ⊥
  begin_stays Idle t n = not_both (p Active) u.active n
  begin_stays s t n = not_both (p s) t n

  sole_verdict : (k : Coordinated) (x : Entry) (a one : Bool) → p k.stage ≡ true → p (sole_if a one k.stage) ≡ false
      → IsVerdict k x (if not a then [] else if one then to k Voter VoterAsk else abort_sends (follow k x))
  sole_verdict k x true true t n = absurd (not_both (p Sole) u.sole n)
  sole_verdict k x true false t n = inl refl
  sole_verdict k x false one t n = absurd (not_both (p k.stage) t n)

  abort_verdict : (k : Coordinated) (x : Entry) → p k.stage ≡ true → p (abort_if (aborts k x) k.stage) ≡ false → abort_block k x ≡ abort_sends (follow k x)
  abort_verdict k x t n = by (aborts k x && is_undecided k.stage) n
    where
      by : (b : Bool) → p (if b then Aborted else k.stage) ≡ false → (if b then abort_sends (follow k x) else []) ≡ abort_sends (follow k x)
      by true n = refl
      by false n = absurd (not_both (p k.stage) t n)

  one_verdict : (k : Coordinated) (x : Entry) (b : Bool) (es : List Entry) → known_after x k.known ≡ k.known → stage_after k x ≡ stage_if b Answered k.stage → (es ≡ one_sends k) ⊎ (es ≡ doubt_sends k)
      → p k.stage ≡ true → p (stage_if b Answered k.stage) ≡ false → IsVerdict k x (if b then es else [])
  one_verdict k x true es q e s t n = inr (e, q, s)
  one_verdict k x false es q e s t n = absurd (not_both (p k.stage) t n)

  refuse_verdict : (k : Coordinated) (x : Entry) (b : Bool) → p k.stage ≡ true → p (stage_if b Aborted k.stage) ≡ false → IsVerdict k x (if b then abort_sends (follow k x) else [])
  refuse_verdict k x true t n = inl refl
  refuse_verdict k x false t n = absurd (not_both (p k.stage) t n)

  -- a message that it got and that has a line
  pub got_verdict : (id : ℕ) (c : Conn) (m : Message) (k : Coordinated) → has_line c Up m ≡ true → p k.stage ≡ true → p (stage_after k (Got c Up m)) ≡ false → IsVerdict k (Got c Up m) (core_got id k c m)
  unfolding core_got
  got_verdict id Begin BeginBegin k l t n = absurd (begin_stays k.stage t n)
  got_verdict id Voter (VoterVoter i) k l t n = absurd (not_both (p k.stage) t n)
  got_verdict id (Enl e) (EnlistEnlist i) k l t n = absurd (not_both (p k.stage) t n)
  got_verdict id Begin BeginCommit k l t n = absurd (not_both (p k.stage) t n)
  got_verdict id (Again e) (ReenlistReenlist i) k l t n = absurd (not_both (p k.stage) t n)
  got_verdict id Voter VoterYes k l t n = absurd (not_both (p k.stage) t n)
  got_verdict id Begin BeginCommitOne k l t n = sole_verdict k (Got Begin Up BeginCommitOne) (accepts k) (is_one k.desks) t n
  got_verdict id (Enl e) EnlistOneCommitted k l t n = one_verdict k (Got (Enl e) Up EnlistOneCommitted) (decides k e.value) (one_sends k) refl refl (inl refl) t n
  got_verdict id (Enl e) EnlistOneInDoubt k l t n = one_verdict k (Got (Enl e) Up EnlistOneInDoubt) (decides k e.value) (doubt_sends k) refl refl (inr refl) t n
  got_verdict id (Enl e) EnlistOneAborted k l t n = refuse_verdict k (Got (Enl e) Up EnlistOneAborted) (hears_one k e.value) t n
  got_verdict id c m k l t n = inl (by (has_line c Up m) l n)
    where
      by : (b : Bool) → b ≡ true → p (if b then abort_if (aborts k (Got c Up m)) k.stage else ended_stage k c (Got c Up m)) ≡ false
          → (if b then abort_block k (Got c Up m) else ended_block k c (Got c Up m)) ≡ abort_sends (follow k (Got c Up m))
      by true q n = abort_verdict k (Got c Up m) t n
      by false q n = absurd cc

  -- an end that it saw
  pub end_verdict : (k : Coordinated) (c : Conn) → p k.stage ≡ true → p (stage_after k (Ended c Up)) ≡ false
      → (core_down k c ≡ abort_sends (follow k (Ended c Up))) ⊎ ((stage_after k (Ended c Up) ≡ Answered) × (core_down k c ≡ doubt_sends (follow k (Ended c Up))))
  unfolding core_down
  end_verdict k (Enl e) t n = by (decides k e.value) n
    where
      x : Entry
      x = Ended (Enl e) Up

      by : (b : Bool) → p (if b then Answered else abort_if (aborts k x) k.stage) ≡ false
          → ((if b then doubt_sends (follow k x) else abort_block k x) ≡ abort_sends (follow k x))
          ⊎ (((if b then Answered else abort_if (aborts k x) k.stage) ≡ Answered) × ((if b then doubt_sends (follow k x) else abort_block k x) ≡ doubt_sends (follow k x)))
      by true n = inr (refl, refl)
      by false n = inl (abort_verdict k x t n)
  end_verdict k Begin t n = inl (abort_verdict k (Ended Begin Up) t n)
  end_verdict k Voter t n = inl (abort_verdict k (Ended Voter Up) t n)
  end_verdict k (Again e) t n = inl (abort_verdict k (Ended (Again e) Up) t n)

  -- BEGIN was got, where a message decides
  pub begun_then : (c : Conn) (m : Message) (h : List Entry) → Keeps (Got c Up m ∷ h) → p (coordinate h).stage ≡ true → p (stage_after (coordinate h) (Got c Up m)) ≡ false → has (is_opening_got Begin) h ≡ true
  begun_then Begin BeginBegin h k t n = absurd (begin_stays (coordinate h).stage t n)
  begun_then Begin m h k t n = later_opened Begin m h k refl
  begun_then Voter m h k t n = work_begun Voter m h refl k
  begun_then (Enl e) m h k t n = work_begun (Enl e) m h refl k
  begun_then (Again e) m h k t n = absurd (not_both (p (coordinate h).stage) t (again_left (coordinate h) e m n))
    where
      again_left : (k : Coordinated) (e : EnlNo) (m : Message) → p (stage_after k (Got (Again e) Up m)) ≡ false → p k.stage ≡ false
      again_left k e m n = by (has_line (Again e) Up m) n
        where
          by : (b : Bool) → p (if b then abort_if (not b && false) k.stage else abort_if (not b && false) k.stage) ≡ false → p k.stage ≡ false
          by true n = n
          by false n = n

  -- and where an end does, but that of b
  pub end_begun : (c : Conn) (h : List Entry) → Keeps (Ended c Up ∷ h) → p (coordinate h).stage ≡ true → p (stage_after (coordinate h) (Ended c Up)) ≡ false → (c ≡ Begin → ⊥) → has (is_opening_got Begin) h ≡ true
  end_begun Begin h k t n e = absurd (e refl)
  end_begun Voter h k t n e = let past = keeps_before (Ended Voter Up) h k in begun_there h past (begun_if_voter h past (end_opened Voter Up h k.wires.0))
  end_begun (Enl f) h k t n e = let past = keeps_before (Ended (Enl f) Up) h k in begun_there h past (begun_if_enlist f h past (end_opened (Enl f) Up h k.wires.0))
  end_begun (Again f) h k t n e = absurd (not_both (p (coordinate h).stage) t n)
