-- What the call of an enlistment says of it: the replies that it plans, and its manager.
use Rattle.std.specs.Prelude.{ℕ, ◌==◌, Bool, true, false, List, Option, Some, None}
use Rattle.dtx_values.specs.declared.call.Call.{Call}
use Rattle.dtx_values.specs.declared.call.Call.TheVariants.{Volatile, Durable, Promotable}
use Rattle.dtx_values.specs.declared.note.Note.{Note}
use Rattle.dtx_values.specs.declared.note.Note.TheVariants.{Prepare, Promote as PromoteNote, Hand, Single, Commit}
use Rattle.dtx_values.specs.declared.note.Plan.{Plan}
use Rattle.dtx_values.specs.declared.note.Reply.{Reply}
use Rattle.dtx_values.specs.declared.note.Reply.TheVariants.{Vote as VoteReply, Promote as PromoteReply, Owner as OwnerReply, Ack}
use Rattle.dtx_values.specs.declared.number.RmNo.{RmNo}
use Rattle.dtx_values.specs.declared.script.Support.{Support}
use Rattle.dtx_values.specs.declared.script.Support.TheVariants.{SinglePhase, TwoPhase}
use Rattle.dtx_values.specs.declared.words.Outcome.{Outcome}
use Rattle.dtx_values.specs.declared.words.Vote.{Vote}
use Rattle.dtx_model.specs.Words.{latest}
use Rattle.dtx_model.specs.Waiting.{EnteredCall}

-- the plan and the manager that the call of an enlistment gives it
abbrev pub support_plan : Support → Plan
support_plan (SinglePhase v o) = record { vote = v; owner = o; promote = None }
support_plan (TwoPhase v) = record { vote = v; owner = None; promote = None }

abbrev pub plan_if : Bool → Plan → Option Plan
plan_if true p = Some p
plan_if false p = None

abbrev pub plan_by : ℕ → Call → Option Plan
plan_by e (Volatile t f x v) = plan_if (e == f.value) (record { vote = v; owner = None; promote = None })
plan_by e (Durable t f r s) = plan_if (e == f.value) (support_plan s)
plan_by e (Promotable t f r v x p) = plan_if (e == f.value) (record { vote = v; owner = x; promote = p })
plan_by e _ = None

abbrev pub silent : Plan
silent = record { vote = None; owner = None; promote = None }

abbrev pub or_silent : Option Plan → Plan
or_silent (Some p) = p
or_silent None = silent

abbrev pub plan_of : List EnteredCall → ℕ → Plan
plan_of ks e = or_silent (latest (λ k. plan_by e k.call) ks)

abbrev pub manager_if : Bool → RmNo → Option RmNo
manager_if true r = Some r
manager_if false r = None

abbrev pub manager_by : ℕ → Call → Option RmNo
manager_by e (Durable t f r s) = manager_if (e == f.value) r
manager_by e (Promotable t f r v x p) = manager_if (e == f.value) r
manager_by e _ = None

abbrev pub manager_of : List EnteredCall → ℕ → Option RmNo
manager_of ks e = latest (λ k. manager_by e k.call) ks

-- the reply that a plan has to a note; none where it is silent
abbrev pub vote_reply : Option Vote → Option Reply
vote_reply (Some v) = Some (VoteReply v)
vote_reply None = None

abbrev pub owner_reply : Option Outcome → Option Reply
owner_reply (Some x) = Some (OwnerReply x)
owner_reply None = None

abbrev pub promote_reply : Option Bool → Option Reply
promote_reply (Some b) = Some (PromoteReply b)
promote_reply None = None

abbrev pub planned : Plan → Note → Option Reply
planned p Prepare = vote_reply p.vote
planned p PromoteNote = promote_reply p.promote
planned p Hand = owner_reply p.owner
planned p Single = owner_reply p.owner
planned p Commit = Some Ack
planned p _ = None
