-- Which laws a history breaks, computed: those of promotion, wires and outcomes, and, as far as tests can say it, that steps made it.
use Rattle.std.proofs.Common.{◌≡◌, ◌==◌, Bool, true, false, ◌&&◌, ◌||◌, List, [], ◌∷◌, ◌++◌, Option, Some, None, if◌then◌else◌}
use Rattle.dtx_values.specs.declared.entry.Entry.{Entry}
use Rattle.dtx_values.specs.declared.entry.Entry.TheVariants.{Acked, Got, OwnerAnswered, PromoteReply, Requested, Told, Voted}
use Rattle.dtx_values.specs.declared.entry.Party.{Party}
use Rattle.dtx_values.specs.declared.entry.Party.TheVariants.{Client, Enl as Member}
use Rattle.dtx_values.specs.declared.message.Conn.TheVariants.{Enl, Again}
use Rattle.dtx_values.specs.declared.message.Dir.TheVariants.{Down}
use Rattle.dtx_values.specs.declared.message.Message.TheVariants.{EnlistAbort, EnlistCommit, ReenlistAborted, ReenlistCommitted}
use Rattle.dtx_values.specs.declared.note.Note.{Note}
use Rattle.dtx_values.specs.declared.note.Note.TheVariants.{Commit, Hand, Prepare, Promote, Single}
use Rattle.dtx_values.specs.declared.number.EnlNo.{EnlNo}
use Rattle.dtx_values.specs.declared.script.Line.{Line}
use Rattle.dtx_values.specs.declared.words.Outcome.TheVariants.{Aborted, Committed}
use Rattle.dtx_model.specs.Words.{always, past_of}
use Rattle.dtx_model.specs.Entries.{same_outcome}
use Rattle.dtx_model.specs.Outcome.{agree, justified}
use Rattle.dtx_model.specs.Promotes.{promotes}
use Rattle.dtx_model.specs.Learned.{is_learned}
use Rattle.dtx_model.specs.Observed.{observe}
use Rattle.dtx_model.specs.Half.{half_of}
use Rattle.dtx_model.specs.Acts.{act_entries}
use Rattle.dtx_model.specs.Replies.{due_of}
use Rattle.dtx_model.specs.Caused.{is_as_planned, plans_of}
use Rattle.dtx_model.specs.History.{nobody}
use Rattle.dtx_model.proofs.Crossing.{may_cross}

-- a reply answers the note that is due of its enlistment
abbrev pub replier : Entry → Option EnlNo
replier (Voted e v) = Some e
replier (PromoteReply e ok) = Some e
replier (OwnerAnswered e x) = Some e
replier (Requested e r) = Some e
replier (Acked e) = Some e
replier _ = None

abbrev pub answers : Entry → Option Note → Bool
answers (Voted e v) (Some Prepare) = true
answers (PromoteReply e ok) (Some Promote) = true
answers (OwnerAnswered e x) (Some Hand) = true
answers (Requested e r) (Some Single) = true
answers (Acked e) (Some Commit) = true
answers _ _ = false

abbrev pub answers_due : List Entry → Entry → Option EnlNo → Bool
answers_due past x (Some e) = answers x (due_of (observe past) e.value)
answers_due past x None = true

abbrev pub is_due : List Entry → Entry → Bool
is_due past x = answers_due past x (replier x)

-- an outcome is told directly after its message, or by the local act
abbrev pub same_party : Party → Party → Bool
same_party Client Client = true
same_party (Member e) (Member f) = e.value == f.value
same_party _ _ = false

abbrev pub brings : List Entry → Entry → Bool
brings (Got (Enl e) Down EnlistCommit ∷ past) (Told p o) = same_party (Member e) p && same_outcome o Committed
brings (Got (Enl e) Down EnlistAbort ∷ past) (Told p o) = same_party (Member e) p && same_outcome o Aborted
brings (Got (Again e) Down ReenlistCommitted ∷ past) (Told p o) = same_party (Member e) p && same_outcome o Committed
brings (Got (Again e) Down ReenlistAborted ∷ past) (Told p o) = same_party (Member e) p && same_outcome o Aborted
brings _ _ = false

abbrev pub tells : List Entry → Entry → Bool
tells (Told q y ∷ es) (Told p o) = same_party q p && same_outcome y o
tells _ _ = false

abbrev pub is_told_in_turn : List Entry → Entry → Bool
is_told_in_turn past (Told p o) = brings past (Told p o) || tells (act_entries (half_of [] past)) (Told p o)
is_told_in_turn past _ = true

-- the laws: a promotion goes in order; what is got is what was sent; what is told is just; nobody is told the opposite of what another is told, and it is
-- decided once; who came back learns the logged outcome; each reply is as planned; each is due; and each outcome is told in its turn
pub data Law : Type 0 where
  Order : Law
  Wires : Law
  Justice : Law
  Agreement : Law
  Learning : Law
  Plans : Law
  Notes : Law
  Telling : Law

abbrev pub unless : Bool → Law → List Law
unless holds l = if holds then [] else l ∷ []

-- the laws that the history of transaction 1 breaks
abbrev pub broken : List Line → List Entry → List Law
broken s h =
    unless (promotes s 1 h) Order ++ (unless (always may_cross h) Wires ++ (unless (justified h) Justice ++ (unless (agree h) Agreement
    ++ (unless (always is_learned h) Learning ++ (unless (always (is_as_planned (plans_of s) nobody) h) Plans ++ (unless (always is_due h) Notes ++ unless (always is_told_in_turn h) Telling))))))

-- the first history, oldest entry first, breaks none, and the second these
abbrev pub Breaks : List Line → List Entry → List Entry → List Law → Type 0
Breaks s good bad laws = (broken s (past_of good) ≡ []) × (broken s (past_of bad) ≡ laws)
