-- Two settled histories with a promotion in which commit was asked and nobody was told: they wait for a promotable, which stays silent where it is asked to promote,
-- or to commit in a single phase.
use Rattle.std.proofs.Common.{◌≡◌, ℕ, true, false, List, [], ◌∷◌, Some, None, refl}
use Rattle.std.specs.Prelude.{is_some}
use Rattle.dtx_values.specs.declared.entry.Answer.TheVariants.{Fine, Id, True, Wait}
use Rattle.dtx_values.specs.declared.entry.Ask.TheVariants.{Promote, Single}
use Rattle.dtx_values.specs.declared.entry.Entry.{Entry}
use Rattle.dtx_values.specs.declared.entry.Entry.TheVariants.{Answered, Asked, Began, Called, CommitAsked, Enlisted, Got, Init, PromoteReply, Promoted, Promoting, Sealed, Sent}
use Rattle.dtx_values.specs.declared.call.Call.TheVariants.{Begin, Commit, Marshal, Promotable}
use Rattle.dtx_values.specs.declared.message.Conn.TheVariants.{Begin as OnBegin, Enl, Voter}
use Rattle.dtx_values.specs.declared.message.Dir.TheVariants.{Down, Up}
use Rattle.dtx_values.specs.declared.message.Message.TheVariants.{BeginBegin, BeginBegun, EnlistEnlist, EnlistEnlisted, VoterCreated, VoterVoter}
use Rattle.dtx_values.specs.declared.script.Body.TheVariants.{Begin as BeginLine, Commit as CommitLine, Marshal as MarshalLine, Promotable as PromotableLine}
use Rattle.dtx_values.specs.declared.script.Line.{Line}
use Rattle.dtx_values.specs.declared.words.Cause.TheVariants.{Marshal as MarshalCause}
use Rattle.dtx_values.specs.declared.words.Class.TheVariants.{Promotable as PromotableClass}
use Rattle.dtx_values.specs.declared.words.Outcome.TheVariants.{Committed}
use Rattle.dtx_values.specs.declared.words.Timeout.TheVariants.{Default}
use Rattle.dtx_values.specs.declared.words.Vote.TheVariants.{Yes}
use Rattle.dtx_model.specs.Half.{info}
use Rattle.dtx_model.specs.Words.{has, latest, past_of}
use Rattle.dtx_model.specs.Entries.{client_told_of, is_commit}
use Rattle.dtx_model.specs.Grammar.{are_named_well}
use Rattle.dtx_model.specs.Steps.{Acts, Calls}
use Rattle.dtx_model.specs.Caused.{Caused, FreelyCaused, IsCallOf, Settled}
use Rattle.dtx_model.specs.World.{World}
use Rattle.dtx_model.specs.History.{is_loss, is_waiting}
use Rattle.dtx_model.specs.Waiting.{EnteredCall}
use Rattle.dtx_model.proofs.Cast.{a1, e1, id1, r1, says, t1}
use Rattle.dtx_model.proofs.Computing.{model}
use Rattle.dtx_model.proofs.Playing.{played}

-- `a1 begin t1 default`, `a1 promotable t1 e1 r1 yes committed silent`, `a1 marshal t1`, `a1 commit t1`
abbrev pub silent_lines : List Line
silent_lines = says a1 (BeginLine t1 Default) ∷ says a1 (PromotableLine t1 e1 r1 (Some Yes) (Some Committed) None) ∷ says a1 (MarshalLine t1) ∷ says a1 (CommitLine t1) ∷ []

abbrev pub silent_history : List Entry
silent_history =
    CommitAsked ∷ Called 4 a1 Fine ∷ Asked e1 Promote ∷ Promoting MarshalCause ∷ Called 3 a1 Wait ∷ Init e1 ∷ Enlisted e1 PromotableClass ∷ Called 2 a1 True
    ∷ Began 60000 ∷ Called 1 a1 Fine ∷ []

-- nothing is pending, commit was asked, and nothing was lost
pub silent_settled : Settled silent_lines silent_history
unfolding model
silent_settled = refl

pub silent_asked : has is_commit silent_history ≡ true
silent_asked = refl

pub silent_unlost : has is_loss silent_history ≡ false
silent_unlost = refl

pub silent_named : are_named_well silent_lines ≡ true
silent_named = refl

-- nobody was told, and it waits for the promotable
pub silent_untold : is_some (latest client_told_of silent_history) ≡ false
silent_untold = refl

pub silent_waits : is_waiting silent_lines silent_history ≡ true
silent_waits = refl

-- The script causes it: its four calls, and the act that asks the promotable after the third.
call_4 : IsCallOf silent_lines 1 4 a1 (Commit t1)
call_4 = record { line = says a1 (CommitLine t1); stands = refl; by_actor = refl; name = t1; place = 0; gives = refl; at_t = refl }

call_3 : IsCallOf silent_lines 1 3 a1 (Marshal t1)
call_3 = record { line = says a1 (MarshalLine t1); stands = refl; by_actor = refl; name = t1; place = 0; gives = refl; at_t = refl }

call_2 : IsCallOf silent_lines 1 2 a1 (Promotable t1 e1 r1 (Some Yes) (Some Committed) None)
call_2 = record { line = says a1 (PromotableLine t1 e1 r1 (Some Yes) (Some Committed) None); stands = refl; by_actor = refl; name = t1; place = 0; gives = refl; at_t = refl }

call_1 : IsCallOf silent_lines 1 1 a1 (Begin t1 Default)
call_1 = record { line = says a1 (BeginLine t1 Default); stands = refl; by_actor = refl; name = t1; place = 0; gives = refl; at_t = refl }

abbrev calls_1 : List EnteredCall
calls_1 = record { line = 1; actor = a1; call = Begin t1 Default } ∷ []

abbrev calls_2 : List EnteredCall
calls_2 = record { line = 2; actor = a1; call = Promotable t1 e1 r1 (Some Yes) (Some Committed) None } ∷ calls_1

abbrev calls_3 : List EnteredCall
calls_3 = record { line = 3; actor = a1; call = Marshal t1 } ∷ calls_2

abbrev calls_4 : List EnteredCall
calls_4 = record { line = 4; actor = a1; call = Commit t1 } ∷ calls_3

abbrev past_1 : List Entry
past_1 = Began 60000 ∷ Called 1 a1 Fine ∷ []

abbrev past_2 : List Entry
past_2 = Init e1 ∷ Enlisted e1 PromotableClass ∷ Called 2 a1 True ∷ past_1

abbrev past_3 : List Entry
past_3 = Promoting MarshalCause ∷ Called 3 a1 Wait ∷ past_2

abbrev world_of_calls : List EnteredCall → List Entry → World
world_of_calls ks h = record { calls = ks; past = h }

silent_freely : FreelyCaused (IsCallOf silent_lines 1) 1 silent_history
unfolding model
silent_freely = (
  calls_4,
  (
    Calls 4 a1 (Commit t1) 0 ∷ Acts ∷ Calls 3 a1 (Marshal t1) 0 ∷ Calls 2 a1 (Promotable t1 e1 r1 (Some Yes) (Some Committed) None) 0 ∷ Calls 1 a1 (Begin t1 Default) 0 ∷ [],
    (
      world_of_calls calls_3 (Asked e1 Promote ∷ past_3),
      (
        world_of_calls calls_3 past_3,
        (
          world_of_calls calls_2 past_2,
          (
            world_of_calls calls_1 past_1,
            (
              world_of_calls [] [],
              (refl, refl),
              (call_1, refl, tt),
              refl,
            ),
            (call_2, refl, tt),
            refl,
          ),
          (call_3, refl, tt),
          refl,
        ),
        refl,
        refl,
      ),
      (call_4, refl, tt),
      refl,
    ),
  ),
)

pub silent_caused : (k : ℕ) → Caused silent_lines k 1 silent_history
silent_caused k = record { freely = silent_freely; planned = refl }

-- Likewise a promotable that can be promoted and plans no answer as the owner: it stays silent where it is asked to commit in a single phase.
abbrev pub unowned_lines : List Line
unowned_lines = says a1 (BeginLine t1 Default) ∷ says a1 (PromotableLine t1 e1 r1 (Some Yes) None (Some true)) ∷ says a1 (MarshalLine t1) ∷ says a1 (CommitLine t1) ∷ []

abbrev pub unowned_history : List Entry
unowned_history =
    past_of (Called 1 a1 Fine ∷ Began 60000 ∷ Called 2 a1 True ∷ Enlisted e1 PromotableClass ∷ Init e1 ∷ Called 3 a1 Wait ∷ Promoting MarshalCause ∷ Called 4 a1 Fine
    ∷ CommitAsked ∷ Asked e1 Promote ∷ PromoteReply e1 true ∷ Sent OnBegin Up BeginBegin ∷ Got OnBegin Up BeginBegin ∷ Sent OnBegin Down (BeginBegun id1)
    ∷ Got OnBegin Down (BeginBegun id1) ∷ Sent Voter Up (VoterVoter id1) ∷ Got Voter Up (VoterVoter id1) ∷ Sent Voter Down VoterCreated ∷ Got Voter Down VoterCreated
    ∷ Sent (Enl e1) Up (EnlistEnlist (info 1 e1 r1)) ∷ Got (Enl e1) Up (EnlistEnlist (info 1 e1 r1)) ∷ Sent (Enl e1) Down EnlistEnlisted
    ∷ Got (Enl e1) Down EnlistEnlisted ∷ Promoted id1 MarshalCause ∷ Answered 3 (Id id1) ∷ Sealed ∷ Asked e1 Single ∷ [])

-- the script's replay makes it, nothing is pending, nobody was told, and it waits for the owner
pub unowned_played : played unowned_lines 1 [] [] ≡ Some unowned_history
unfolding model
unowned_played = refl

pub unowned_settled : Settled unowned_lines unowned_history
unfolding model
unowned_settled = refl

pub unowned_untold : is_some (latest client_told_of unowned_history) ≡ false
unowned_untold = refl

pub unowned_waits : is_waiting unowned_lines unowned_history ≡ true
unowned_waits = refl
