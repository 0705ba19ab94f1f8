-- Where the lanes and the rows of a picture are, in pixels: lanes are 118 apart, with 220 on each side of the local side, and rows 20. A number that has no room in 64 bits
-- loses its highest ones, which no trace comes near.
use Rattle.std.specs.Prelude.{ℕ, ◌+◌, ◌*◌, ◌%◌, ◌^◌, ◌==◌, List, [], ◌∷◌, length, if◌then◌else◌}
use Rattle.dtx_values.specs.declared.number.ActorNo.{ActorNo}
use Rattle.dtx_values.specs.declared.number.EnlNo.{EnlNo}
use Rattle.trace_picture.specs.Lanes.{LaneList}
use Rattle.trace_picture.specs.declared.lanes.Lane.{Lane}
use Rattle.trace_picture.specs.declared.lanes.Lane.TheVariants.{Between, Client, Coordinator, Enlistment, Local, Log}

-- the i-th of what stands so far apart, from 0, where the first is at this place
abbrev pub spread : ℕ → ℕ → ℕ → ℕ
spread apart i first = ((i * apart) % 2 ^ 64 + first) % 2 ^ 64

-- how many clients, and how many enlistments, stand to the left of it
abbrev pub client_place : ℕ → List ActorNo → ℕ
client_place a [] = 0
client_place a (b ∷ bs) = if a == b.value then length bs else client_place a bs

abbrev pub enlistment_place : ℕ → List EnlNo → ℕ
enlistment_place e [] = 0
enlistment_place e (f ∷ fs) = if e == f.value then length fs else enlistment_place e fs

abbrev pub width : LaneList → ℕ
width l = length l.clients + length l.enlistments

abbrev pub x_of : LaneList → Lane → ℕ
x_of l (Client a) = spread 118 (client_place a.value l.clients) 130
x_of l (Enlistment e) = spread 118 (length l.clients + enlistment_place e.value l.enlistments) 130
x_of l Local = spread 118 (width l) 232
x_of l Between = spread 118 (width l) 342
x_of l Coordinator = spread 118 (width l) 452
x_of l Log = spread 118 (width l) 570

abbrev pub y_of : ℕ → ℕ
y_of r = spread 20 r 72
