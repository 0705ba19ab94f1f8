-- Messages that have no line count as the end of their connection.
use Rattle.std.proofs.Common.{◌≡◌, ◌&&◌, ◌∙◌, ℕ, Bool, true, false, List, [], ◌∷◌, map, None, refl, ap, if◌then◌else◌}
use Rattle.dtx_values.specs.declared.entry.Entry.{Entry}
use Rattle.dtx_values.specs.declared.entry.Entry.TheVariants.{Down as End, Got}
use Rattle.dtx_values.specs.declared.message.Conn.{Conn}
use Rattle.dtx_values.specs.declared.message.Conn.TheVariants.{Begin, Voter, Enl, Again}
use Rattle.dtx_values.specs.declared.message.Dir.TheVariants.{Up}
use Rattle.dtx_values.specs.declared.message.Message.{Message}
use Rattle.dtx_values.specs.declared.message.Message.TheVariants.{BeginBegin, BeginCommit, BeginAbort, BeginCommitOne, VoterVoter, VoterYes, VoterNo, EnlistEnlist, EnlistPrepared, EnlistNo, EnlistReadonly, EnlistAck, EnlistOneCommitted, EnlistOneAborted, EnlistOneInDoubt, ReenlistReenlist, ReenlistAck}
use Rattle.dtx_values.specs.Lines.{has_line}
use Rattle.dtx_model.specs.declared.desk.Desk.{Desk}
use Rattle.dtx_model.specs.declared.desk.Stage.TheVariants.{Answered}
use Rattle.dtx_model.specs.Coordinated.{Coordinated, abort_if, abort_sends, core_down, core_got, decides, doubt_sends, follow, follow_all, is_active, is_early, is_undecided, with_ballot, without}

-- a message that is no vote leaves the votes
pub no_vote : (e : ℕ) (ds : List Desk) → map (with_ballot e None) ds ≡ ds
no_vote e [] = refl
no_vote e (d ∷ ds) = ap (λ (xs : List Desk). d ∷ xs) (no_vote e ds)

pub either : {A : Type 0} (b : Bool) (x y : A) → x ≡ y → (if b then x else y) ≡ y
either true x y same = same
either false x y same = refl

-- what is known after the message
pub unlined : (k : Coordinated) (c : Conn) (m : Message) → has_line c Up m ≡ false → follow k (Got c Up m) ≡ follow k (End c Up)
unfolding follow
unlined k Begin BeginBegin none = absurd cc
unlined k Begin BeginCommit none = absurd cc
unlined k Begin BeginAbort none = absurd cc
unlined k Begin BeginCommitOne none = absurd cc
unlined k Begin m none = refl
unlined k Voter (VoterVoter u) none = absurd cc
unlined k Voter VoterYes none = absurd cc
unlined k Voter VoterNo none = absurd cc
unlined k Voter m none = refl
unlined k (Enl e) (EnlistEnlist i) none = absurd cc
unlined k (Enl e) EnlistPrepared none = absurd cc
unlined k (Enl e) EnlistNo none = absurd cc
unlined k (Enl e) EnlistReadonly none = absurd cc
unlined k (Enl e) EnlistAck none = absurd cc
unlined k (Enl e) EnlistOneCommitted none = absurd cc
unlined k (Enl e) EnlistOneAborted none = absurd cc
unlined k (Enl e) EnlistOneInDoubt none = absurd cc
unlined k (Enl e) m none =
    let same = either (is_active k.stage) (map (with_ballot e.value None) k.desks) k.desks (no_vote e.value k.desks) in
    λ j. record {
      stage = if decides k e.value then Answered else abort_if (is_early k (Enl e)) k.stage;
      commit = k.commit;
      yes = k.yes;
      no = k.no;
      desks = same j;
      known = without (Enl e) k.known;
      waits = k.waits;
      recovered = k.recovered;
      stopped = k.stopped;
    }
unlined k (Again e) (ReenlistReenlist i) none = absurd cc
unlined k (Again e) ReenlistAck none = absurd cc
unlined k (Again e) m none = refl

-- what is written after an end, where this is known then
abbrev ended_writes : Coordinated → Conn → Coordinated → List Entry
ended_writes k (Enl e) s = if decides k e.value then doubt_sends s else if is_early k (Enl e) && is_undecided k.stage then abort_sends s else []
ended_writes k c s = if is_early k c && is_undecided k.stage then abort_sends s else []

ended_down : (k : Coordinated) (c : Conn) → ended_writes k c (follow k (End c Up)) ≡ core_down k c
unfolding core_down
ended_down k Begin = refl
ended_down k Voter = refl
ended_down k (Enl e) = refl
ended_down k (Again e) = refl

-- what is written after it
pub unlined_block : (id : ℕ) (k : Coordinated) (c : Conn) (m : Message) → has_line c Up m ≡ false → core_got id k c m ≡ core_down k c
unfolding core_got
unlined_block id k c m none = by c m none ∙ ap (λ (s : Coordinated). ended_writes k c s) (unlined k c m none) ∙ ended_down k c
  where
    by : (c : Conn) (m : Message) → has_line c Up m ≡ false → core_got id k c m ≡ ended_writes k c (follow k (Got c Up m))
    by Begin BeginBegin none = absurd cc
    by Begin BeginCommit none = absurd cc
    by Begin BeginAbort none = absurd cc
    by Begin BeginCommitOne none = absurd cc
    by Begin m none = refl
    by Voter (VoterVoter u) none = absurd cc
    by Voter VoterYes none = absurd cc
    by Voter VoterNo none = absurd cc
    by Voter m none = refl
    by (Enl e) (EnlistEnlist i) none = absurd cc
    by (Enl e) EnlistPrepared none = absurd cc
    by (Enl e) EnlistNo none = absurd cc
    by (Enl e) EnlistReadonly none = absurd cc
    by (Enl e) EnlistAck none = absurd cc
    by (Enl e) EnlistOneCommitted none = absurd cc
    by (Enl e) EnlistOneAborted none = absurd cc
    by (Enl e) EnlistOneInDoubt none = absurd cc
    by (Enl e) m none = refl
    by (Again e) (ReenlistReenlist i) none = absurd cc
    by (Again e) ReenlistAck none = absurd cc
    by (Again e) m none = refl

-- both together
pub unlined_all : (id : ℕ) (k : Coordinated) (c : Conn) (m : Message) → has_line c Up m ≡ false → follow_all k (Got c Up m ∷ core_got id k c m) ≡ follow_all k (End c Up ∷ core_down k c)
unfolding follow_all
unlined_all id k c m none = λ j. follow_all (unlined k c m none j) (unlined_block id k c m none j)
