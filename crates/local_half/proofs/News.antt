-- What follows of the news of a connection is what follows of the message that told them.
use Rattle.std.proofs.Common.{◌≡◌, ℕ, ◌++◌, refl}
use Rattle.dtx_values.specs.declared.message.Conn.{Conn}
use Rattle.dtx_values.specs.declared.message.Conn.TheVariants.{Begin, Voter, Enl, Again}
use Rattle.dtx_values.specs.declared.message.Message.{Message}
use Rattle.dtx_values.specs.declared.message.Message.TheVariants.{BeginBegun, BeginCommitted, BeginAborted, BeginInDoubt, VoterCreated, VoterRefused, VoterAsk, VoterCommit, VoterAbort, VoterInDoubt, EnlistEnlisted, EnlistRefused, EnlistPrepare, EnlistCommit, EnlistAbort, EnlistSingle, ReenlistCommitted, ReenlistAborted}
use Rattle.dtx_values.specs.declared.number.EnlNo.{EnlNo}
use Rattle.dtx_model.specs.Half.{Half}
use Rattle.dtx_model.specs.Arrivals.{aborted_by, arrived, told_abort}
use Rattle.tm_proxy.specs.News.{news_of}
use Rattle.local_half.specs.Told.{aborted_for, told_by}

pub arrived-news : (t : ℕ) (h : Half) (c : Conn) (m : Message) → told_by t h c (news_of c m) ≡ arrived t h c m
arrived-news t h Begin (BeginBegun u) = refl
arrived-news t h Begin BeginCommitted = refl
arrived-news t h Begin BeginAborted = refl
arrived-news t h Begin BeginInDoubt = refl
arrived-news t h Begin _ = refl
arrived-news t h Voter VoterCreated = refl
arrived-news t h Voter (VoterRefused cause) = refl
arrived-news t h Voter VoterAsk = refl
arrived-news t h Voter VoterCommit = refl
arrived-news t h Voter VoterAbort = refl
arrived-news t h Voter VoterInDoubt = refl
arrived-news t h Voter _ = refl
arrived-news t h (Enl e) EnlistEnlisted = refl
arrived-news t h (Enl e) (EnlistRefused cause) = refl
arrived-news t h (Enl e) EnlistPrepare = refl
arrived-news t h (Enl e) EnlistCommit = refl
arrived-news t h (Enl e) EnlistAbort = refl
arrived-news t h (Enl e) EnlistSingle = refl
arrived-news t h (Enl e) _ = refl
arrived-news t h (Again e) ReenlistCommitted = refl
arrived-news t h (Again e) ReenlistAborted = refl
arrived-news t h (Again e) _ = refl

-- an abort for an enlistment over its own connection
pub aborted_there : (h : Half) (c : Conn) (e : EnlNo) → ((f : EnlNo) → c ≡ Again f → ⊥) → aborted_for h c e ≡ told_abort h e ++ aborted_by h
aborted_there h (Again f) e other = absurd (other f refl)
aborted_there h Begin e other = refl
aborted_there h Voter e other = refl
aborted_there h (Enl f) e other = refl
