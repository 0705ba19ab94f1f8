-- The steps of the coordinator's side leave what goes on at the local side as it is: they keep what stands at the end of each block.
use Rattle.std.proofs.Common.{◌≡◌, ℕ, Bool, true, false, List, [], ◌∷◌, refl, ◌∙◌}
use Rattle.dtx_values.specs.declared.call.Call.{Call}
use Rattle.dtx_values.specs.declared.entry.Entry.{Entry}
use Rattle.dtx_values.specs.declared.entry.Entry.TheVariants.{Sent, Got, Down as Ended, Logged, LogFull, Freed, Stopped, Restarted}
use Rattle.dtx_values.specs.declared.message.Conn.{Conn}
use Rattle.dtx_values.specs.declared.message.Conn.TheVariants.{Begin, Voter, Enl, Again}
use Rattle.dtx_values.specs.declared.message.Dir.TheVariants.{Up, Down}
use Rattle.dtx_values.specs.declared.message.Message.{Message}
use Rattle.dtx_values.specs.declared.number.ActorNo.{ActorNo}
use Rattle.dtx_model.specs.Words.{each, onto}
use Rattle.dtx_model.specs.Promotes.{identifier_of}
use Rattle.dtx_model.specs.World.{World, core}
use Rattle.dtx_model.specs.Steps.{delivered, block_at, after, Step, Coordinates, Delivers, Stops, Restarts}
use Rattle.dtx_model.proofs.Bools.{and_left, and_right}
use Rattle.dtx_model.specs.Tied.{tied}
use Rattle.dtx_model.specs.Wires.{in_transit, WireRun}
use Rattle.dtx_model.specs.Caused.{MayCome}
use Rattle.history_table.proofs.Undecided.{Stands, is_going}
use Rattle.history_table.proofs.CoreBlocks.{core_ruled, is_core_step}
use Rattle.history_table.proofs.Upward.{IsComing, coming_late}
use Rattle.dtx_model.proofs.Writes.{Each, e_cons, e_one, OfLists, each_lists, is_outcome_message}
use Rattle.dtx_model.proofs.Blocks.{of_core_got, of_core_down, of_coordinates, of_restarted}
use Rattle.dtx_values.specs.Lines.{has_line}

-- an entry of the coordinator's side
abbrev pub is_own : Entry → Bool
is_own (Got c Up m) = true
is_own (Ended c Up) = true
is_own (Sent c Down m) = true
is_own Logged = true
is_own LogFull = true
is_own Freed = true
is_own Stopped = true
is_own (Restarted found) = true
is_own _ = false

-- such entries leave what goes on as it is
going_more : (x : Entry) (h : List Entry) → is_own x ≡ true → is_going (x ∷ h) ≡ is_going h
going_more (Got Begin Up m) h t = refl
going_more (Got Voter Up m) h t = refl
going_more (Got (Enl e) Up m) h t = refl
going_more (Got (Again e) Up m) h t = refl
going_more (Ended c Up) h t = refl
going_more (Sent c Down m) h t = refl
going_more Logged h t = refl
going_more LogFull h t = refl
going_more Freed h t = refl
going_more Stopped h t = refl
going_more (Restarted found) h t = refl
going_more _ h t = absurd (never t)
  where
    never : false ≡ true → ⊥
    never e = absurd cc

abbrev Own : List Entry → Type 0
Own es = Each is_own es

going_onto : (h es : List Entry) → Own es → is_going (onto h es) ≡ is_going h
going_onto h [] o = refl
going_onto h (x ∷ es) o =
    going_onto (x ∷ h) es (record { proof = and_right (is_own x) (each is_own es) o.proof }) ∙ going_more x h (and_left (is_own x) (each is_own es) o.proof)

-- the coordinator's blocks
own : OfLists (λ es. Each is_own es)
own = each_lists is_own

own_sent : (c : Conn) (m : Message) → has_line c Down m ≡ true → is_outcome_message m ≡ true → Own (Sent c Down m ∷ [])
own_sent c m h o = e_one (Sent c Down m) refl

own_delivered : (t : ℕ) (w : World) (c : Conn) (ms : List Message) → Own (delivered t w c Up ms)
own_delivered t w c [] = e_cons (Ended c Up) refl (of_core_down own (core w) c own_sent)
own_delivered t w c (m ∷ ms) = e_cons (Got c Up m) refl (of_core_got own (identifier_of t) (core w) c m (λ d n h a. e_one (Sent d Down n) refl))

own_block : (t : ℕ) (w : World) (m : Step) → is_core_step m ≡ true → Own (block_at t w m)
unfolding block_at
own_block t w (Coordinates a) s = of_coordinates own (core w) a own_sent (e_one Logged refl) (e_one LogFull refl) (e_one Freed refl) (e_one Stopped refl)
own_block t w (Delivers c Up) s = own_delivered t w c (in_transit c Up w.past)
own_block t w Stops s = e_one Stopped refl
own_block t w (Restarts found) s = of_restarted own (core w).stopped found (e_one Stopped refl) (e_one (Restarted found) refl)
own_block t w _ s = absurd (never s)
  where
    never : false ≡ true → ⊥
    never e = absurd cc

core_going : (t : ℕ) (w : World) (m : Step) → is_core_step m ≡ true → is_going w.past ≡ true → is_going (after t w m).past ≡ true
unfolding after
core_going t w m s g = going_onto w.past (block_at t w m) (own_block t w m s) ∙ g

-- after such a step what stood stands, where each restart finds what may be found
pub core_stands : (G : ℕ → ActorNo → Call → Type 0) (t : ℕ) (w : World) (m : Step) → is_core_step m ≡ true → MayCome G t w m → Stands w.past → IsComing w.calls w.past
    → tied (after t w m).past ≡ true → WireRun (after t w m).past → Stands (after t w m).past
core_stands G t w m s q k i d r =
    record {
      keeps = record { rules = core_ruled G t w m s q k.keeps (coming_late w.calls w.past k.keeps i); ties = d; wires = r };
      going = core_going t w m s k.going;
    }
