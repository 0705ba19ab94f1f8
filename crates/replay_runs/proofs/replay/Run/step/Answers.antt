use Rattle.std.proofs.Common.{◌≡◌, ◌≤◌, ◌<◌, ◌-◌, ◌++◌, ◌∷◌, [], ◌∙◌, ℕ, Bool, true, false, List, Option, None, Ok, Result, ap, arith, length, set, subst, sym}
use Rattle.std.specs.Prelude.{IfSome, IsTrue, IsFalse}
use Rattle.dtx_values.specs.declared.entry.Entry.{Entry}
use Rattle.dtx_values.specs.declared.entry.Entry.TheVariants.{Stopped}
use Rattle.dtx_values.specs.declared.number.TxNo.{TxNo}
use Rattle.dtx_values.specs.declared.trace.Place.TheVariants.{Log}
use Rattle.dtx_model.specs.AtLog.{hit}
use Rattle.dtx_model.specs.Caused.{is_begin_sent}
use Rattle.dtx_model.specs.Grammar.{are_named_well}
use Rattle.dtx_model.specs.Words.{has, kth, onto, past_of}
use Rattle.dtx_model.specs.Steps.{pending}
use Rattle.dtx_model.specs.Traces.{Placed, placed}
use Rattle.dtx_model.specs.World.{core}
use Rattle.dtx_model.proofs.Bools.{not_both}
use Rattle.coordinator_log.specs.Slots.{open_records}
use Rattle.tx_world.specs.AtLog.{Fits, id_of}
use Rattle.tx_world.specs.State.{TxState}
use Rattle.tx_world.specs.declared.refusal.WorldError.{WorldError}
use Rattle.world_parts.specs.Found.{IsLeftAsWished}
use Rattle.replay_runs.proofs.Replying.{heard_stops, step_block}
use Rattle.replay_runs.proofs.Going.{hears_on, hears_same}
use Rattle.heard_notes.specs.Heard.{HeardNote, heard}
use Rattle.replay_runs.specs.Whose.{named}
use Rattle.dtx_model.proofs.Histories.{past_of-snoc}
use Rattle.tx_world.specs.Stepping.{reply_in}
use Rattle.dtx_values.specs.declared.note.Note.{Note}
use Rattle.dtx_values.specs.declared.number.EnlNo.{EnlNo}
use Rattle.script_calls.specs.Managers.{AreManagers}
use Rattle.dtx_values.specs.declared.number.RmNo.{RmNo}
use Rattle.replay_runs.specs.Objects.{DoesGiven, IsBlockOf, MayReply}
use Rattle.replay_runs.specs.RunState.{AreNumbered, HaveSameCalls, IsRecordKept, IsTied, RunState, StepsGo, halted, state_of}
use Rattle.replay_runs.proofs.Noting.{as_long, grown, trace_noted}
use Rattle.replay_runs.proofs.Numbered.{state_indexed}
use Rattle.replay_runs.proofs.StepStops.{is_stopping_step, step_stopped, stopping_lives, stopping_ties}
use Rattle.replay_runs.proofs.Steps.{IsStep, IsStepAt, IsStepped, StepOf, calls_same, did_step, none_beyond, none_pending, run_with, step_done, step_log, step_past, step_stays, was, worlds_after, wrote}
use Rattle.replay_runs.proofs.Turns.{MayGive, given_by, own_at}
use Rattle.replay_runs.proofs.replay.Run.step.Given.{Over}
use Rattle.replay_runs.proofs.replay.Run.step.Goals.{After-is_own_run, After-is_own_run-2, In_ok-note, else-was_up-via-then-was_up+else-not-is_up, else-was_up-via-else-was_up}
use Rattle.replay_runs.proofs.replay.Run.step.Goals as goal

-- it was done
abbrev did_nothing : Result Bool WorldError → Type 0
did_nothing r = r ≡ Ok false

never_false : did_nothing (Ok true) → ⊥
never_false e = cc

-- the world is the transaction's
reached : (g : Over) (c : After-is_own_run g) → state_of c.args.t c.args.self.now.worlds ≡ c.index_mut-world.result.now
reached g c =
    subst (λ (r : RunState). state_of c.args.t r.worlds ≡ c.index_mut-world.result.now) c.self.view_is
    (state_indexed c.args.t c.self.inside.worlds.items c.index_mut-world.result.now c.index-2.result (omega (arith, c.index-2.ensures.place))
    (omega (arith, c.index.ensures.place, c.if-len-index.false, c.len.ensures)) c.index_mut-world.ensures.value)

-- what the step is about
abbrev about : (g : Over) → After-is_own_run-2 g → StepOf g.row.D.Denot
about g c = record { run = c.args.self.now; t = c.args.t; k = c.args.k; given = c.asked-reply.result; y = c.do_kth.new.world; from = c.args.log.now; to = c.do_kth.new.log }

-- the world was the transaction's
was_reached : (g : Over) (c : After-is_own_run-2 g) → was (about g c) ≡ c.index_mut-world.result.now
was_reached g c =
    subst (λ (r : RunState). state_of c.args.t r.worlds ≡ c.index_mut-world.result.now) c.self.view_is
    (state_indexed c.args.t c.self.inside.worlds.items c.index_mut-world.result.now c.index-2.result (omega (arith, c.index-2.ensures.place))
    (omega (arith, c.index.ensures.place, c.if-len-index.false, c.len.ensures)) c.index_mut-world.ensures.value)

-- to what a reply is owed
abbrev due : (g : Over) → After-is_own_run-2 g → Option (EnlNo × Note)
due g c = reply_in (was (about g c)).world (kth (pending (was (about g c)).world) c.args.k)

-- what the objects were asked
asked : (g : Over) (c : After-is_own_run-2 g) → g.O.Objects.asks c.args.t (due g c) c.args.objects.now c.asked-reply.result c.asked-reply.new.self
asked g c =
    subst (λ (z : TxState). g.O.Objects.asks c.args.t (reply_in z.world (kth (pending z.world) c.args.k)) c.args.objects.now c.asked-reply.result c.asked-reply.new.self) (sym (was_reached g c))
    (subst (λ (j : ℕ). g.O.Objects.asks c.args.t (reply_in c.index_mut-world.result.now.world (kth (pending c.index_mut-world.result.now.world) j)) c.args.objects.now c.asked-reply.result c.asked-reply.new.self) c.from.ensures
    c.asked-reply.ensures.asks)

-- they are still for the script, and a reply is one of these
still : (g : Over) (c : After-is_own_run-2 g) → g.O.Objects.is_for c.args.self.now.script c.args.self.now.objects c.asked-reply.new.self
still g c = c.asked-reply.ensures.made c.args.self.now.script c.args.self.now.objects c.requires.made

-- the table that they are given is that of the script
table : (g : Over) (c : After-is_own_run-2 g) → AreManagers c.args.self.now.script c.args.self.now.script c.deref.result.now
table g c =
    subst (λ (r : RunState). AreManagers r.script r.script c.deref.result.now) c.self.view_is
    (subst (λ (ms : List (Option RmNo)). AreManagers c.self.inside.plans c.self.inside.plans ms) (sym c.deref.ensures.value) c.self.invariant.4)

-- a reply that is given is one that an object may give
may_give : (g : Over) (c : After-is_own_run-2 g) → MayGive c.args.self.now.script c.args.self.now.objects c.index_mut-world.result.now.world c.args.k c.asked-reply.result
may_give g c =
    let w = c.index_mut-world.result.now.world in
    let due = subst (λ (j : ℕ). IfSome c.asked-reply.result (λ x. MayReply w j x.0 x.1)) c.from.ensures c.asked-reply.ensures.due in
    given_by c.args.self.now.script c.args.self.now.objects w c.args.k c.asked-reply.result due (c.asked-reply.ensures.owned c.args.self.now.script c.args.self.now.objects c.requires.made (table g c))

-- whose enlistments have an object stays
objects : (g : Over) (c : After-is_own_run-2 g) → named c.self.inside.whose ≡ c.args.self.now.objects
objects g c = ap (λ (r : RunState). r.objects) c.self.view_is

-- it was done
done : (g : Over) (c : After-is_own_run-2 g) → IsStep g.D.Disk.faults g.D.Disk.honest g.D.Disk.image (about g c)
done g c =
    let x = c.index_mut-world.result.now in
    let y = c.do_kth.new.world in
    let made : c.args.t.value ≤ length c.self.inside.worlds.items = omega (arith, c.index.ensures.place, c.if-len-index.false, c.len.ensures) in
    let did = ap (λ (b : Bool). Ok b) c.if-not-branch.false in
    subst (λ (z : TxState). IsStepAt g.D.Disk.faults g.D.Disk.honest g.D.Disk.image (about g c) z) (sym (was_reached g c))
    (record {
      holds = c.requires.holds;
      numbered = subst (λ (r : RunState). AreNumbered r.worlds) c.self.view_is c.self.invariant.0;
      names = subst (λ (r : RunState). are_named_well r.script ≡ true) c.self.view_is c.self.invariant.2;
      made = subst (λ (r : RunState). c.args.t.value ≤ length r.worlds) c.self.view_is made;
      own = c.is_own_run.ensures.run;
      may = may_give g c;
      does = subst (λ (j : ℕ). DoesGiven g.D.Disk.faults c.asked-reply.result j x c.args.log.now y c.do_kth.new.log) c.from-2.ensures (c.in_ok-do_kth.ensures.some did);
      nearer = c.in_ok-do_kth.ensures.nearer did;
      leaves = c.do_kth.ensures.leaves;
      recorded = record { own = c.is_own_run-2.ensures.run; once = c.is_own_run-2.ensures.once; ours = c.is_own_run-2.ensures.ours; tried = c.is_own_run-2.ensures.tried };
    })

-- and where it stopped the log, what that left of its record is as wished
wished : (g : Over) (c : After-is_own_run-2 g) → IsTrue g.D.Disk.obeys → IsLeftAsWished g.D.Disk.faults g.D.Disk.seen (core (was (about g c)).world) (id_of (was (about g c))) c.args.log.now c.do_kth.new.log
wished g c is =
    subst (λ (z : TxState). IsLeftAsWished g.D.Disk.faults g.D.Disk.seen (core z.world) (id_of z) c.args.log.now c.do_kth.new.log) (sym (was_reached g c)) (c.do_kth.ensures.found is)

-- the run after it, as its parts stand then
parts : (g : Over) (c : After-is_own_run-2 g) (T : List Placed)
    → record { script = c.self.inside.plans; objects = named c.self.inside.whose; worlds = set c.self.inside.worlds.items c.index-2.result c.do_kth.new.world; contexts = c.self.inside.contexts.items; trace = T }
    ≡ run_with (about g c) (worlds_after (about g c)) T
parts g c T =
    let place : c.index-2.result ≡ c.args.t.value - 1 = omega (arith, c.index-2.ensures.place) in
    ap (λ (r : RunState). record { script = r.script; objects = r.objects; worlds = set r.worlds c.index-2.result c.do_kth.new.world; contexts = r.contexts; trace = T }) c.self.view_is
    ∙ ap (λ (i : ℕ). run_with (about g c) (set c.args.self.now.worlds i c.do_kth.new.world) T) place

-- no call was entered
calls : (g : Over) (c : After-is_own_run-2 g) → HaveSameCalls c.args.self.now.worlds (set c.self.inside.worlds.items c.index-2.result c.do_kth.new.world)
calls g c = subst (λ (r : RunState). HaveSameCalls c.args.self.now.worlds r.worlds) (sym (parts g c [])) (calls_same g.D.Disk.faults g.D.Disk.honest g.D.Disk.image (about g c) (done g c))

-- its history was as long as was asked before
past : (g : Over) (c : After-is_own_run-2 g) → past_of c.history.result.now.items ≡ (was (about g c)).world.past
past g c = c.history.ensures ∙ sym (ap (λ (z : TxState). z.world.past) (was_reached g c))

long : (g : Over) (c : After-is_own_run-2 g) → length (was (about g c)).world.past ≡ c.len-from.result
long g c = sym (as_long c.history.result.now.items (was (about g c)).world.past (past g c)) ∙ sym c.len-from.ensures

-- the block that it wrote
abbrev entries : (g : Over) (c : After-is_own_run-2 g) → List Entry
entries g c = wrote g.D.Disk.faults g.D.Disk.honest (about g c) (did_step g.D.Disk.faults g.D.Disk.honest g.D.Disk.image (about g c) (done g c))

wrote_here : (g : Over) (c : After-is_own_run-2 g) → c.do_kth.new.world.world.past ≡ onto (was (about g c)).world.past (entries g c)
wrote_here g c = (did_step g.D.Disk.faults g.D.Disk.honest g.D.Disk.image (about g c) (done g c)).past

-- and didn't get shorter
longer : (g : Over) (c : After-is_own_run-2 g) → c.len-from.result ≤ length c.do_kth.new.world.world.past
longer g c =
    let wrote = step_past g.D.Disk.faults g.D.Disk.honest g.D.Disk.image (about g c) (done g c) in
    subst (λ (n : ℕ). n ≤ length c.do_kth.new.world.world.past) (sym c.len-from.ensures)
    (grown c.history.result.now.items (was (about g c)).world.past c.do_kth.new.world.world.past wrote.0 (past g c) wrote.1)

-- the block is that of a step which they were asked for
shown : (g : Over) (c : After-is_own_run-2 g) → IsBlockOf c.args.self.now.script (due g c) c.asked-reply.result (entries g c)
shown g c = step_block g.D.Disk.faults g.D.Disk.honest g.D.Disk.image (about g c) (done g c)

pub asked-reply-requires-clause-made : goal.asked-reply-requires-clause-made
asked-reply-requires-clause-made g c = (c.args.self.now.script, c.args.self.now.objects, c.requires.made)

pub returns-then-len-index-clause-none : goal.returns-then-len-index-clause-none
returns-then-len-index-clause-none g c = λ e.
    let more : length c.self.inside.worlds.items < c.args.t.value = omega (arith, c.index.ensures.place, c.if-len-index.true, c.len.ensures) in
    let beyond = none_beyond c.args.self.now c.args.t c.args.k (c.requires.holds.tied c.args.t) (subst (λ (r : RunState). length r.worlds < c.args.t.value) c.self.view_is more) in
    record { none = beyond.0; none_here = beyond.1 }

pub do_kth-requires : goal.do_kth-requires
do_kth-requires g c = record {
  fits = λ h up.
      subst (λ (z : TxState). Fits z (open_records c.args.log.now.slots)) (reached g (goal.at.do_kth-requires g c).After-is_own_run) ((c.requires.holds.fits h c.args.t).fits up);
  due =
      subst (λ (j : ℕ). IfSome c.asked-reply.result (λ x. MayReply c.index_mut-world.result.now.world j x.0 x.1)) (c.from.ensures ∙ sym c.from-2.ensures) c.asked-reply.ensures.due;
}

pub returns-then-not-branch-clause-none : goal.returns-then-not-branch-clause-none
returns-then-not-branch-clause-none g c = λ e.
    let at = reached g (goal.at.returns-then-not-branch-clause-none g c).After-is_own_run in
    let r = c.args.self.now in
    let x = c.index_mut-world.result.now in
    let numbered = subst (λ (r : RunState). AreNumbered r.worlds) c.self.view_is c.self.invariant.0 in
    let none : kth (pending x.world) c.args.k ≡ None =
    subst (λ (j : ℕ). kth (pending x.world) j ≡ None) c.from-2.ensures (c.in_ok-do_kth.ensures.none (ap (λ (b : Bool). Ok b) c.if-not-branch.true)).0 in
    let here = ap (λ (z : TxState). kth (pending z.world) c.args.k) at ∙ none in
    record {
      none = here;
      none_here = none_pending r.script r.objects r.worlds (past_of r.trace) c.args.t c.args.k (c.requires.holds.tied c.args.t) (own_at c.args.t r.worlds x numbered at c.is_own_run.ensures.run) here;
    }

-- the run as it goes on
went : (g : Over) (c : After-is_own_run-2 g) (T : List Placed)
    → StepsGo g.D.Disk.faults g.D.Disk.honest g.D.Disk.image c.args.log.now c.do_kth.new.log c.args.self.now
    (record { script = c.self.inside.plans; objects = named c.self.inside.whose; worlds = set c.self.inside.worlds.items c.index-2.result c.do_kth.new.world; contexts = c.self.inside.contexts.items; trace = T })
went g c T =
    record {
      contexts = ap (λ (r : RunState). r.contexts) c.self.view_is;
      calls = calls g c;
      log = step_log g.D.Disk.faults g.D.Disk.honest g.D.Disk.image (about g c) (done g c);
      stays = step_stays g.D.Disk.faults g.D.Disk.honest g.D.Disk.image (about g c) (done g c);
    }

pub returns-in_err-reserve-clause-goes : goal.returns-in_err-reserve-clause-goes
returns-in_err-reserve-clause-goes g c = went g (goal.at.returns-in_err-reserve-clause-goes g c).After-is_own_run-2 c.reserve.new.self.items

pub returns-in_err-note-clause-goes : goal.returns-in_err-note-clause-goes
returns-in_err-note-clause-goes g c = went g (goal.at.returns-in_err-note-clause-goes g c).After-is_own_run-2 c.note.new.trace.items

pub returns-in_err-note-2-clause-goes : goal.returns-in_err-note-2-clause-goes
returns-in_err-note-2-clause-goes g c = went g (goal.at.returns-in_err-note-2-clause-goes g c).After-is_own_run-2 c.note-2.new.trace.items

pub returns-in_err-stop_all-clause-goes : goal.returns-in_err-stop_all-clause-goes
returns-in_err-stop_all-clause-goes g c =
    let before = went g (goal.at.returns-in_err-stop_all-clause-goes g c).After-is_own_run-2 c.note.new.trace.items in
    record { contexts = c.stop_all.ensures.contexts ∙ before.contexts; calls = λ v. c.stop_all.ensures.calls v ∙ before.calls v; log = before.log; stays = before.stays }

pub note-requires : goal.note-requires
note-requires g c = longer g (goal.at.note-requires g c).After-is_own_run-2

pub note-requires-2 : goal.note-requires-2
note-requires-2 g c = longer g (goal.at.note-requires-2 g c).After-is_own_run-2

-- where it stopped the log, that and its block were noted
noted : (g : Over) (c : In_ok-note g) (x : TxState) → length x.world.past ≡ c.len-from.result → (es : List Entry) → c.do_kth.new.world.world.past ≡ onto x.world.past es
    → c.note.new.trace.items ≡ (c.args.self.now.trace ++ (Log, Stopped) ∷ []) ++ placed c.args.t es
noted g c x long es wrote =
    c.in_ok-note.ensures x.world.past es long wrote
    ∙ ap (λ (T : List Placed). T ++ placed c.args.t es)
    (c.push_reserved.ensures.items ∙ ap (λ (T : List Placed). T ++ (Log, Stopped) ∷ []) (c.reserve.ensures.items ∙ ap (λ (r : RunState). r.trace) c.self.view_is))

pub stop_all-requires : goal.stop_all-requires
stop_all-requires g c =
    let at = goal.at.stop_all-requires g c in
    let b = at.After-is_own_run-2 in
    let a = about g b in
    let mid : List Placed = c.note.new.trace.items in
    let up : IsTrue a.from.is_up = sym c.is_up-was_up.ensures.up ∙ c.if-was_up.true in
    let down : IsFalse a.to.is_up = sym c.is_up.ensures.up ∙ c.if-not-is_up.true in
    let stops = is_stopping_step g.D.Disk.faults g.D.Disk.honest g.D.Disk.image a mid (done g b) up down (noted g at.In_ok-note (was a) (long g b)) in
    let now = sym (parts g b mid) in
    record {
      tied = subst (λ (r : RunState). (u : TxNo) → IsTied r.script r.objects u (past_of r.trace) (state_of u r.worlds)) now (stopping_ties g.D.Disk.faults g.D.Disk.honest g.D.Disk.image a mid (done g b) stops);
      lives = λ u begun.
          subst (λ (r : RunState). has is_begin_sent (state_of u r.worlds).world.past ≡ true → (state_of u r.worlds).life ≡ c.do_kth.new.log.life) now
          (stopping_lives g.D.Disk.faults g.D.Disk.honest g.D.Disk.image a mid (done g b) stops u) begun ∙ sym c.life.ensures;
    }

pub returns-then-not-is_up : goal.returns-then-not-is_up
returns-then-not-is_up g c =
    let at = goal.at.returns-then-not-is_up g c in
    let b = at.After-is_own_run-2 in
    let a = about g b in
    let q = c.stop_all.new.self in
    let mid : List Placed = c.note.new.trace.items in
    let now = parts g b mid in
    let up : IsTrue a.from.is_up = sym c.is_up-was_up.ensures.up ∙ c.if-was_up.true in
    let down : IsFalse a.to.is_up = sym c.is_up.ensures.up ∙ c.if-not-is_up.true in
    let stops = is_stopping_step g.D.Disk.faults g.D.Disk.honest g.D.Disk.image a mid (done g b) up down (noted g at.In_ok-note (was a) (long g b)) in
    let d : IsStepped g.D.Disk.faults g.D.Disk.honest g.D.Disk.image g.D.Disk.obeys g.D.Disk.seen a q =
    step_stopped g.D.Disk.faults g.D.Disk.honest g.D.Disk.image g.D.Disk.obeys g.D.Disk.seen a mid q (done g b) stops up down (c.stop_all.ensures.script ∙ ap (λ (r : RunState). r.script) c.self.view_is)
    (c.stop_all.ensures.objects ∙ objects g b) (c.stop_all.ensures.contexts ∙ ap (λ (r : RunState). r.contexts) c.self.view_is)
    (subst (λ (r : RunState). HaveSameCalls r.worlds q.worlds) now c.stop_all.ensures.calls)
    (λ u.
    subst (λ (r : RunState). state_of u q.worlds ≡ halted c.life.result (state_of u r.worlds)) now (c.in_ok-stop_all.ensures.worlds u)
    ∙ ap (λ l. halted l (state_of u (worlds_after a))) c.life.ensures)
    c.in_ok-stop_all.ensures.trace
    (subst (λ (r : RunState). ((u : TxNo) → IsRecordKept (state_of u r.worlds)) → (u : TxNo) → IsRecordKept (state_of u q.worlds)) now c.in_ok-stop_all.ensures.kept) (wished g b) in
    let r = c.args.self.now in
    let written : past_of mid ≡ onto ((Log, Stopped) ∷ past_of r.trace) (placed c.args.t (entries g b)) =
    ap past_of (noted g at.In_ok-note (was a) (long g b) (entries g b) (wrote_here g b)) ∙ trace_noted (r.trace ++ (Log, Stopped) ∷ []) c.args.t (entries g b)
    ∙ ap (λ (T : List Placed). onto T (placed c.args.t (entries g b))) (past_of-snoc r.trace (Log, Stopped)) in
    let seen : heard r.script r.objects (past_of q.trace) ≡ heard r.script r.objects (onto ((Log, Stopped) ∷ past_of r.trace) (placed c.args.t (entries g b))) =
    ap (heard r.script r.objects) c.in_ok-stop_all.ensures.trace ∙ heard_stops r.script r.objects (hit (past_of mid)) (past_of mid) ∙ ap (heard r.script r.objects) written in
    let hears =
    hears_on g.O.Objects.is_for g.O.Objects.reached r q c.args.objects.now c.tell.new.self d.runs.script d.runs.objects (c.tell.ensures.made r.script r.objects (still g b))
    (λ from before. subst (λ (hs : List HeardNote). g.O.Objects.reached r.script from hs c.tell.new.self) (sym seen) (c.tell.ensures.stepped (was a).world.past (entries g b) (long g b) (wrote_here g b) r.script r.objects (due g b) from c.args.objects.now c.asked-reply.result ((Log, Stopped) ∷ past_of r.trace) c.requires.made (asked g b) (shown g b) before)) in
    record { goes = d.goes; runs = d.runs; heard = hears; did = λ e. d.did; none = λ e. absurd (never_false e); unchanged = λ e. absurd (never_false e) }

pub returns : goal.returns
returns g c =
    let b = (goal.at.returns g c).After-is_own_run-2 in
    let a = about g b in
    let new : List Placed = c.note-2.new.trace.items in
    let stays : IsTrue a.from.is_up → IsTrue a.to.is_up = λ up. elim c.else-was_up.branch [
      | else-was_up-via-then-was_up+else-not-is_up w ↦ sym w.is_up.ensures.up ∙ w.if-not-is_up.false
      | else-was_up-via-else-was_up w ↦ absurd (not_both a.from.is_up up (sym c.is_up-was_up.ensures.up ∙ w.if-was_up.false))
    ] in
    let noted : (es : List Entry) → a.y.world.past ≡ onto (was a).world.past es → new ≡ a.run.trace ++ placed a.t es =
    λ es wrote. c.in_ok-note-2.ensures (was a).world.past es (long g b) wrote ∙ ap (λ (r : RunState). r.trace ++ placed a.t es) c.self.view_is in
    let d =
    subst (λ (q : RunState). IsStepped g.D.Disk.faults g.D.Disk.honest g.D.Disk.image g.D.Disk.obeys g.D.Disk.seen a q) (sym (parts g b new))
    (step_done g.D.Disk.faults g.D.Disk.honest g.D.Disk.image g.D.Disk.obeys g.D.Disk.seen a new (done g b) stays noted) in
    let r = c.args.self.now in
    let written : past_of new ≡ onto (past_of r.trace) (placed c.args.t (entries g b)) = ap past_of (noted (entries g b) (wrote_here g b)) ∙ trace_noted r.trace c.args.t (entries g b) in
    let hears =
    hears_on g.O.Objects.is_for g.O.Objects.reached r _ c.args.objects.now c.tell-2.new.self d.runs.script d.runs.objects (c.tell-2.ensures.made r.script r.objects (still g b))
    (λ from before. subst (λ (T : List Placed). g.O.Objects.reached r.script from (heard r.script r.objects T) c.tell-2.new.self) (sym written) (c.tell-2.ensures.stepped (was a).world.past (entries g b) (long g b) (wrote_here g b) r.script r.objects (due g b) from c.args.objects.now c.asked-reply.result (past_of r.trace) c.requires.made (asked g b) (shown g b) before)) in
    record { goes = d.goes; runs = d.runs; heard = hears; did = λ e. d.did; none = λ e. absurd (never_false e); unchanged = λ e. absurd (never_false e) }

pub tell-requires-clause-made : goal.tell-requires-clause-made
tell-requires-clause-made g c = let b = (goal.at.tell-requires-clause-made g c).After-is_own_run-2 in (c.args.self.now.script, c.args.self.now.objects, still g b)

pub tell-requires-clause-from : goal.tell-requires-clause-from
tell-requires-clause-from g c = longer g (goal.at.tell-requires-clause-from g c).After-is_own_run-2

pub tell-requires-2-clause-made : goal.tell-requires-2-clause-made
tell-requires-2-clause-made g c = let b = (goal.at.tell-requires-2-clause-made g c).After-is_own_run-2 in (c.args.self.now.script, c.args.self.now.objects, still g b)

pub tell-requires-2-clause-from : goal.tell-requires-2-clause-from
tell-requires-2-clause-from g c = longer g (goal.at.tell-requires-2-clause-from g c).After-is_own_run-2

pub returns-then-len-index-clause-heard : goal.returns-then-len-index-clause-heard
returns-then-len-index-clause-heard g c = hears_same g.O.Objects.is_for g.O.Objects.reached c.args.self.now c.args.objects.now c.requires.made
