-- A marshalled transaction that commits is at rest, so what the law asks of a history can be met. It stands oldest first.
use Rattle.std.proofs.Common.{◌≡◌, List, [], ◌∷◌, refl}
use Rattle.dtx_values.specs.declared.entry.Answer.TheVariants.{Fine, Wait, Id}
use Rattle.dtx_values.specs.declared.entry.Entry.{Entry}
use Rattle.dtx_values.specs.declared.entry.Entry.TheVariants.{Called, Answered, Began, CommitAsked, Sealed, LocalYes, Decided, Told, Promoting, Promoted, Sent, Got, Logged, Freed}
use Rattle.dtx_values.specs.declared.entry.Party.TheVariants.{Client}
use Rattle.dtx_values.specs.declared.message.Conn.{Conn}
use Rattle.dtx_values.specs.declared.message.Conn.TheVariants.{Begin, Voter, Enl, Again}
use Rattle.dtx_values.specs.declared.message.Dir.{Dir}
use Rattle.dtx_values.specs.declared.message.Dir.TheVariants.{Up, Down}
use Rattle.dtx_values.specs.declared.message.Message.TheVariants.{BeginBegin, BeginCommit, BeginBegun, BeginCommitted, VoterVoter, VoterYes, VoterCreated, VoterAsk, VoterCommit}
use Rattle.dtx_values.specs.declared.script.Body.TheVariants.{Begin as BeginLine, Commit as CommitLine, Marshal as MarshalLine}
use Rattle.dtx_values.specs.declared.script.Line.{Line}
use Rattle.dtx_values.specs.declared.words.Cause.TheVariants.{Marshal}
use Rattle.dtx_values.specs.declared.words.Outcome.TheVariants.{Committed}
use Rattle.dtx_values.specs.declared.words.Timeout.TheVariants.{Default}
use Rattle.dtx_model.specs.Words.{past_of}
use Rattle.dtx_model.specs.Wires.{in_transit}
use Rattle.dtx_model.specs.Caused.{entered_in}
use Rattle.dtx_model.proofs.Cast.{a1, id1, says, t1}
use Rattle.dtx_model.proofs.Computing.{model}
use Rattle.settled_histories.proofs.Rest.{IsAtRest}

abbrev lines : List Line
lines = says a1 (BeginLine t1 Default) ∷ says a1 (MarshalLine t1) ∷ says a1 (CommitLine t1) ∷ []

abbrev marshalled : List Entry
marshalled =
    Called 1 a1 Fine ∷ Began 60000 ∷ Called 2 a1 Wait ∷ Promoting Marshal ∷ Sent Begin Up BeginBegin ∷ Got Begin Up BeginBegin ∷ Sent Begin Down (BeginBegun id1) ∷ Got Begin Down (BeginBegun id1)
    ∷ Sent Voter Up (VoterVoter id1) ∷ Got Voter Up (VoterVoter id1) ∷ Sent Voter Down VoterCreated ∷ Got Voter Down VoterCreated ∷ Promoted id1 Marshal ∷ Answered 2 (Id id1) ∷ Called 3 a1 Fine ∷ CommitAsked
    ∷ Sealed ∷ Sent Begin Up BeginCommit ∷ Got Begin Up BeginCommit ∷ Sent Voter Down VoterAsk ∷ Got Voter Down VoterAsk ∷ LocalYes ∷ Sent Voter Up VoterYes ∷ Got Voter Up VoterYes
    ∷ Logged ∷ Sent Begin Down BeginCommitted ∷ Sent Voter Down VoterCommit ∷ Freed ∷ Got Begin Down BeginCommitted ∷ Decided Committed ∷ Got Voter Down VoterCommit ∷ Told Client Committed ∷ []

none_on_the_way : (c : Conn) (d : Dir) → in_transit c d (past_of marshalled) ≡ []
none_on_the_way Begin Up = refl
none_on_the_way Begin Down = refl
none_on_the_way Voter Up = refl
none_on_the_way Voter Down = refl
none_on_the_way (Enl e) Up = refl
none_on_the_way (Enl e) Down = refl
none_on_the_way (Again e) Up = refl
none_on_the_way (Again e) Down = refl

marshalled_rests : IsAtRest (entered_in lines (past_of marshalled)) (past_of marshalled)
unfolding model
marshalled_rests = record {
  unmoved =
      record {
        fine = λ d. absurd cc;
        joined = λ d. absurd cc;
        later = refl;
        sound = refl;
        ordered = refl;
        stood = λ e k. absurd cc;
        paying = refl;
        free = refl;
        waits = λ k. refl;
        unplaced = refl;
        empty = none_on_the_way;
        act = refl;
        replied = λ u n a. absurd cc;
        started = refl;
      };
  begun = refl;
  zeros = λ k. refl;
  closed = refl;
  once = refl;
  prepares = λ d l k e n. absurd cc;
  lasting = λ e n. refl;
  append = refl;
  answered = λ u l. refl;
  voted = λ u l e a. absurd cc;
  requested = λ u a. absurd cc;
  owned = λ d e k. absurd cc;
  unanswered = λ d. absurd cc;
  spared = λ d e k. absurd cc;
  asked = refl;
}
