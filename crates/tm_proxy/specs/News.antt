-- What a message of the coordinator tells the local side, and when it has lost both of the connections on which it hears the outcome.
use Rattle.std.specs.Prelude.{Bool, true, false, ◌&&◌, ◌||◌, not, List}
use Rattle.dtx_values.specs.declared.end.End.{End}
use Rattle.dtx_values.specs.declared.entry.Entry.TheVariants.{Down as Ended}
use Rattle.dtx_values.specs.declared.message.Conn.{Conn}
use Rattle.dtx_values.specs.declared.message.Conn.TheVariants.{Begin, Voter, Enl, Again}
use Rattle.dtx_values.specs.declared.message.Dir.TheVariants.{Down}
use Rattle.dtx_values.specs.declared.message.Message.{Message}
use Rattle.dtx_values.specs.declared.message.Message.TheVariants.{BeginBegun, BeginCommitted, BeginAborted, BeginInDoubt, VoterYes, VoterCreated, VoterRefused, VoterAsk, VoterCommit, VoterAbort, VoterInDoubt, EnlistEnlisted, EnlistRefused, EnlistPrepare, EnlistCommit, EnlistAbort, EnlistSingle, ReenlistCommitted, ReenlistAborted}
use Rattle.dtx_values.specs.declared.words.Outcome.TheVariants.{Committed, Aborted, InDoubt}
use Rattle.dtx_values.specs.Ends.{ends_after, saw_end, tag_of, was_got, was_sent}
use Rattle.tm_proxy.specs.declared.news.ProxyNews.{ProxyNews}
use Rattle.tm_proxy.specs.declared.news.ProxyNews.TheVariants.{Begun, Created, Enlisted, Refused, AskVote, PrepareFor, CommitFor, AbortFor, SingleFor, OutcomeIs, Unfit}

-- what the message tells on its connection: each of those that the coordinator may send there tells something, and any other is unfit
abbrev pub news_of : Conn → Message → ProxyNews
news_of Begin (BeginBegun u) = Begun u
news_of Begin BeginCommitted = OutcomeIs Committed
news_of Begin BeginAborted = OutcomeIs Aborted
news_of Begin BeginInDoubt = OutcomeIs InDoubt
news_of Voter VoterCreated = Created
news_of Voter (VoterRefused cause) = Refused Voter cause
news_of Voter VoterAsk = AskVote
news_of Voter VoterCommit = OutcomeIs Committed
news_of Voter VoterAbort = OutcomeIs Aborted
news_of Voter VoterInDoubt = OutcomeIs InDoubt
news_of (Enl e) EnlistEnlisted = Enlisted e
news_of (Enl e) (EnlistRefused cause) = Refused (Enl e) cause
news_of (Enl e) EnlistPrepare = PrepareFor e
news_of (Enl e) EnlistCommit = CommitFor e
news_of (Enl e) EnlistAbort = AbortFor e
news_of (Enl e) EnlistSingle = SingleFor e
news_of (Again e) ReenlistCommitted = CommitFor e
news_of (Again e) ReenlistAborted = AbortFor e
news_of _ _ = Unfit

-- the connection is b or v, on which the local side hears the outcome
abbrev pub is_of_both : Conn → Bool
is_of_both Begin = true
is_of_both Voter = true
is_of_both (Enl e) = false
is_of_both (Again e) = false

-- the ends of b and of v were both seen
abbrev pub saw_both : List End → Bool
saw_both ns = saw_end Begin ns && saw_end Voter ns

-- the outcome was got on b or on v: that it is in doubt says only that it isn't known there
abbrev pub got_outcome : List End → Bool
got_outcome ns =
    was_got Begin (tag_of BeginCommitted) ns || was_got Begin (tag_of BeginAborted) ns || was_got Voter (tag_of VoterCommit) ns || was_got Voter (tag_of VoterAbort) ns

-- the end of this connection, b or v, makes both seen, after YES was sent and before the outcome was got
abbrev pub loses_all : Conn → List End → Bool
loses_all c ns =
    is_of_both c && not (saw_both ns) && saw_both (ends_after (Ended c Down) ns) && (was_sent Voter (tag_of VoterYes) ns && not (got_outcome ns))
