-- The lanes of a transaction's picture.
use Rattle.std.specs.Prelude.{ℕ, ◌==◌, Bool, true, false, List, [], ◌∷◌, Option, Some, None, if◌then◌else◌}
use Rattle.dtx_values.specs.declared.entry.Entry.{Entry}
use Rattle.dtx_values.specs.declared.entry.Entry.TheVariants.{Acked, Asked, Called, Enlisted, Handed, Init, OwnerAnswered, PromoteReply, Promoting, Requested, Sent, Told, Voted}
use Rattle.dtx_values.specs.declared.entry.Party.TheVariants.{Enl}
use Rattle.dtx_values.specs.declared.number.ActorNo.{ActorNo}
use Rattle.dtx_values.specs.declared.number.EnlNo.{EnlNo}
use Rattle.dtx_values.specs.declared.words.Class.{Class}
use Rattle.dtx_model.specs.Words.{has, latest}

-- who called
abbrev pub client_in : Entry → Option ActorNo
client_in (Called n a x) = Some a
client_in _ = None

-- the enlistment that the entry is of
abbrev pub enlistment_in : Entry → Option EnlNo
enlistment_in (Enlisted e c) = Some e
enlistment_in (Init e) = Some e
enlistment_in (Asked e a) = Some e
enlistment_in (Voted e v) = Some e
enlistment_in (PromoteReply e ok) = Some e
enlistment_in (Requested e r) = Some e
enlistment_in (Handed e) = Some e
enlistment_in (OwnerAnswered e o) = Some e
enlistment_in (Told (Enl e) o) = Some e
enlistment_in (Acked e) = Some e
enlistment_in _ = None

abbrev pub with_client : Option ActorNo → List ActorNo → List ActorNo
with_client (Some a) known = if has (λ b. a.value == b.value) known then known else a ∷ known
with_client None known = known

abbrev pub with_enlistment : Option EnlNo → List EnlNo → List EnlNo
with_enlistment (Some e) es = if has (λ f. e.value == f.value) es then es else e ∷ es
with_enlistment None es = es

-- the clients and the enlistments of a history, each once, the first that it names last
pub record LaneList : Type 0 where
  pub clients : List ActorNo
  pub enlistments : List EnlNo

abbrev pub with_lanes : Entry → LaneList → LaneList
with_lanes x l = record { clients = with_client (client_in x) l.clients; enlistments = with_enlistment (enlistment_in x) l.enlistments }

abbrev pub lanes : List Entry → LaneList
lanes [] = record { clients = []; enlistments = [] }
lanes (x ∷ past) = with_lanes x (lanes past)

-- it promotes: so there are lanes of the coordinator and of the log
abbrev pub promotes : Entry → Bool
promotes (Promoting c) = true
promotes (Sent c d m) = true
promotes _ = false

abbrev pub class_in : ℕ → Entry → Option Class
class_in e (Enlisted f c) = if e == f.value then Some c else None
class_in e _ = None

-- the newest class of this enlistment
abbrev pub class_of : ℕ → List Entry → Option Class
class_of e h = latest (class_in e) h
