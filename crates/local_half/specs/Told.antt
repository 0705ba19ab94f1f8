-- What the local side does at the news that its connections tell it, and what a handover has to do with what is seen.
use Rattle.std.specs.Prelude.{ℕ, ◌≡◌, List, [], ◌∷◌, ◌++◌, Option, Some, None}
use Rattle.dtx_values.specs.declared.entry.Ask.TheVariants.{Prepare}
use Rattle.dtx_values.specs.declared.entry.Entry.{Entry}
use Rattle.dtx_values.specs.declared.entry.Entry.TheVariants.{Asked, Sealed, LocalYes, Told}
use Rattle.dtx_values.specs.declared.entry.Party.TheVariants.{Enl as Member}
use Rattle.dtx_values.specs.declared.message.Conn.{Conn}
use Rattle.dtx_values.specs.declared.message.Conn.TheVariants.{Voter, Again}
use Rattle.dtx_values.specs.declared.message.Message.TheVariants.{VoterYes}
use Rattle.dtx_values.specs.declared.number.EnlNo.{EnlNo}
use Rattle.dtx_values.specs.declared.words.Cause.{Cause}
use Rattle.dtx_values.specs.declared.words.Outcome.TheVariants.{Committed, Aborted}
use Rattle.tm_proxy.specs.declared.news.ProxyNews.{ProxyNews}
use Rattle.tm_proxy.specs.declared.news.ProxyNews.TheVariants.{Begun, Created, Enlisted, Refused, AskVote, PrepareFor, CommitFor, AbortFor, SingleFor, OutcomeIs}
use Rattle.promotion.specs.declared.handing.HandoverAct.{HandoverAct}
use Rattle.promotion.specs.declared.handing.HandoverAct.TheVariants.{Over}
use Rattle.promotion.specs.Handover.{Promotion, next_act}
use Rattle.dtx_model.specs.Observed.{Observed}
use Rattle.dtx_model.specs.Half.{Half, decide, promoted_by, to_up}
use Rattle.dtx_model.specs.Acts.{commit_sent}
use Rattle.dtx_model.specs.Arrivals.{aborted_by, begun, created, ended_by, enlisted_at, handed_by, refused_by, told_abort, unless_decided}
use Rattle.half_parts.specs.Taken.{MayTakeIn}
use Rattle.dtx_values.specs.Outgoing.{sends_of}
use Rattle.local_half.specs.declared.half.acts.LocalAct.{LocalAct}
use Rattle.local_half.specs.declared.half.acts.LocalAct.TheVariants.{Write, Seal, Commit, SayYes}

-- an abort for an enlistment over its connection, or after it came back
abbrev pub aborted_for : Half → Conn → EnlNo → List Entry
aborted_for h (Again f) e = Told (Member e) Aborted ∷ []
aborted_for h c e = told_abort h e ++ aborted_by h

-- what follows of the news of connection c, where this is known after its message
abbrev pub told_by : ℕ → Half → Conn → ProxyNews → List Entry
told_by t h c (Begun u) = begun t h
told_by t h c Created = created t h
told_by t h c (Enlisted e) = enlisted_at t h e
told_by t h c (Refused d cause) = refused_by h
told_by t h c AskVote = []
told_by t h c (PrepareFor e) = Asked e Prepare ∷ []
told_by t h c (CommitFor e) = Told (Member e) Committed ∷ []
told_by t h c (AbortFor e) = aborted_for h c e
told_by t h c (SingleFor e) = handed_by h e
told_by t h c (OutcomeIs x) = unless_decided h (decide h x)
told_by t h c _ = ended_by h c

-- the handover, by what is seen of it
abbrev pub handover_of : Observed → Promotion
handover_of o = record { cause = o.cause; stands = o.handover; over = o.promoted; failed = o.failed }

-- what it does next at these news
abbrev pub act_at : Observed → ProxyNews → HandoverAct
act_at o n = next_act (handover_of o) n

-- the transaction is promoted by the last act of the handover
abbrev pub promoted_at : ℕ → Option Cause → HandoverAct → List Entry
promoted_at t c Over = promoted_by t c
promoted_at t c _ = []

-- the entries of a local act
abbrev pub entries_of : Half → LocalAct → List Entry
entries_of h (Write x) = x ∷ []
entries_of h Seal = Sealed ∷ commit_sent h.seen
entries_of h Commit = decide h Committed
entries_of h SayYes = LocalYes ∷ to_up h.seen Voter VoterYes

-- the local side may do the act: what it writes alone it takes in
abbrev pub MayAct : Half → LocalAct → Type 0
MayAct h (Write x) = MayTakeIn h x × (sends_of (x ∷ []) ≡ [])
MayAct h a = Unit {0}

abbrev pub entries_if : Half → Option LocalAct → List Entry
entries_if h (Some a) = entries_of h a
entries_if h None = []
