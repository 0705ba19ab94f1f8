-- The lanes of a picture as they are drawn.
use Rattle.std.specs.Prelude.{ℕ, ◌++◌, Bool, true, false, List, [], ◌∷◌, Option, Some, None, codes}
use Rattle.dtx_values.specs.declared.entry.Entry.{Entry}
use Rattle.dtx_values.specs.declared.number.ActorNo.{ActorNo}
use Rattle.dtx_values.specs.declared.number.EnlNo.{EnlNo}
use Rattle.dtx_values.specs.declared.words.Class.{Class}
use Rattle.dtx_values.specs.declared.words.Class.TheVariants.{DurableSingle, DurableTwo, One, Promotable, Zero}
use Rattle.dtx_model.specs.Grammar.{actor_name, enlistment_name}
use Rattle.trace_picture.specs.Lanes.{LaneList, class_of}
use Rattle.trace_picture.specs.declared.lanes.Lane.{Lane}
use Rattle.trace_picture.specs.declared.lanes.Lane.TheVariants.{Between, Client, Coordinator, Enlistment, Local, Log}
use Rattle.trace_page.specs.Geometry.{x_of}
use Rattle.trace_page.specs.Pieces.{line, title_box, words_at, words_end}

-- the class of an enlistment, after its name
abbrev pub class_said : Option Class → List ℕ
class_said None = []
class_said (Some Zero) = codes " zero"
class_said (Some One) = codes " one"
class_said (Some DurableTwo) = codes " two"
class_said (Some DurableSingle) = codes " single"
class_said (Some Promotable) = codes " promotable"

abbrev pub title : List Entry → Lane → List ℕ
title h (Client a) = actor_name a.value
title h (Enlistment e) = enlistment_name e.value ++ class_said (class_of e.value h)
title h Local = codes "local side"
title h Coordinator = codes "coordinator"
title h Log = codes "log"
title h Between = []

abbrev pub box_kind : Lane → List ℕ
box_kind (Client a) = codes "box client"
box_kind (Enlistment e) = codes "box enlistment"
box_kind _ = codes "box side"

-- a lane down to this place, with its title
unfoldable pub lane_text : LaneList → List Entry → ℕ → Lane → List ℕ
lane_text l h foot a = line (codes "lane") (x_of l a) 34 (x_of l a) foot ++ (title_box (box_kind a) (x_of l a) ++ (words_at (codes "title") (x_of l a) 25 ++ (title h a ++ words_end)))

abbrev pub clients_text : LaneList → List Entry → ℕ → List ActorNo → List ℕ
clients_text l h foot [] = []
clients_text l h foot (a ∷ rest) = clients_text l h foot rest ++ lane_text l h foot (Client a)

abbrev pub enlistments_text : LaneList → List Entry → ℕ → List EnlNo → List ℕ
enlistments_text l h foot [] = []
enlistments_text l h foot (e ∷ rest) = enlistments_text l h foot rest ++ lane_text l h foot (Enlistment e)

-- where it was promoting, the coordinator and the log have lanes
abbrev pub far_text : LaneList → List Entry → ℕ → Bool → List ℕ
far_text l h foot true = lane_text l h foot Coordinator ++ lane_text l h foot Log
far_text l h foot false = []

unfoldable pub lanes_text : LaneList → List Entry → ℕ → Bool → List ℕ
lanes_text l h foot far = clients_text l h foot l.clients ++ (enlistments_text l h foot l.enlistments ++ (lane_text l h foot Local ++ far_text l h foot far))
