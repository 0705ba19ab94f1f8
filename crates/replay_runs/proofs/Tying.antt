-- A transaction after a block that was noted is tied to its history in the trace: its replies are as planned, or of objects.
use Rattle.std.proofs.Common.{◌≡◌, ◌≢◌, ◌≤◌, ◌-◌, ℕ, Bool, true, false, ◌&&◌, not, List, [], ◌∷◌, ◌++◌, length, set, inl, inr, refl, ap, sym, subst, ◌∙◌, if◌then◌else◌}
use Rattle.dtx_values.specs.declared.call.Call.{Call}
use Rattle.dtx_values.specs.declared.entry.Entry.{Entry}
use Rattle.dtx_values.specs.declared.entry.Entry.TheVariants.{Stopped}
use Rattle.dtx_values.specs.declared.note.Plan.{Plan}
use Rattle.dtx_values.specs.declared.number.ActorNo.{ActorNo}
use Rattle.dtx_values.specs.declared.number.TxNo.{TxNo}
use Rattle.dtx_values.specs.declared.script.Line.{Line}
use Rattle.dtx_model.specs.Words.{each, onto}
use Rattle.dtx_model.specs.World.{World}
use Rattle.dtx_model.specs.Steps.{Step, block_at}
use Rattle.dtx_model.specs.Caused.{IsCallOf, IsIn, Of, answers, plans_of}
use Rattle.dtx_model.specs.Traces.{Placed, history, placed}
use Rattle.dtx_model.proofs.Bools.{and_both, and_left, and_right}
use Rattle.script_calls.proofs.RightReplies.{IsReplyRight, is_right, right_block, right_onto}
use Rattle.tx_world.specs.State.{TxState, sends_begin}
use Rattle.replay_runs.specs.RunState.{IsTied, IsToPlan, state_of}
use Rattle.replay_runs.proofs.Noting.{history_here, history_there}
use Rattle.replay_runs.proofs.Numbered.{is_it, state_here, state_there}
use Rattle.replay_runs.proofs.Turns.{written}

-- What a step writes is as planned or of an object, with the stop that may follow it.
each_more_stop : (p : ℕ → Plan) (free : ℕ → Bool) (es : List Entry) → each (is_right p free) es ≡ true → each (is_right p free) (es ++ Stopped ∷ []) ≡ true
each_more_stop p free [] k = refl
each_more_stop p free (x ∷ es) k =
    and_both (is_right p free x) (each (is_right p free) (es ++ Stopped ∷ [])) (and_left (is_right p free x) (each (is_right p free) es) k) (each_more_stop p free es (and_right (is_right p free x) (each (is_right p free) es) k))

pub right_written : (p : ℕ → Plan) (free : ℕ → Bool) (up : Bool) (t : ℕ) (w : World) (m : Step) → IsReplyRight p free m → each (is_right p free) (written up t w m) ≡ true
right_written p free up t w m q = by (sends_begin t w m && not up)
  where
    by : (b : Bool) → each (is_right p free) (if b then block_at t w m ++ Stopped ∷ [] else block_at t w m) ≡ true
    by true = each_more_stop p free (block_at t w m) (right_block p free t w m q)
    by false = right_block p free t w m q

-- A transaction that wrote these entries, which were noted, is tied to the trace with them; and each other is tied as before.
pub tied_noted : (s : List Line) (o : Of) (ws : List TxState) (T U : List Placed) (t : TxNo) (y : TxState) (es : List Entry) → t.value ≤ length ws
    → ((u : TxNo) → IsTied s o u T (state_of u ws)) → U ≡ onto T (placed t es) → y.world.past ≡ onto (state_of t ws).world.past es
    → ((n : ℕ) (a : ActorNo) (c : Call) → IsIn y.world.calls n a c → IsCallOf s t.value n a c) → each (is_right (plans_of s) (answers s o)) es ≡ true
    → (u : TxNo) → IsTied s o u U (state_of u (set ws (t.value - 1) y))
tied_noted s o ws T U t y es made tied noted past given planned u = elim (is_it u t) [ inl e ↦ own e | inr k ↦ other k ]
  where
    own : u ≡ t → IsTied s o u U (state_of u (set ws (t.value - 1) y))
    own e =
        subst (λ (v : TxNo). IsTied s o v U (state_of v (set ws (t.value - 1) y))) (sym e)
        (subst (λ (x : TxState). IsTied s o t U x) (sym (state_here t ws y made))
        (record {
          past = past ∙ (ap (λ (h : List Entry). onto h es) (tied t).past ∙ (sym (history_here t T es) ∙ ap (history t.value) (sym noted)));
          given = given;
          planned = subst (λ (h : List Entry). IsToPlan s o h) (sym past) (right_onto (plans_of s) (answers s o) (state_of t ws).world.past es (tied t).planned planned);
        }))

    other : u ≢ t → IsTied s o u U (state_of u (set ws (t.value - 1) y))
    other k =
        subst (λ (x : TxState). IsTied s o u U x) (sym (state_there u t ws y k))
        (record { past = (tied u).past ∙ (sym (history_there u t T es k) ∙ ap (history u.value) (sym noted)); given = (tied u).given; planned = (tied u).planned })

-- in a trace with the same histories it is tied too
pub tied_same : (s : List Line) (o : Of) (u : TxNo) (T U : List Placed) (x : TxState) → history u.value U ≡ history u.value T → IsTied s o u T x → IsTied s o u U x
tied_same s o u T U x e tied = record { past = tied.past ∙ sym e; given = tied.given; planned = tied.planned }

-- The calls that were entered are the script's, after a step that enters none.
pub given_same : (s : List Line) (t : ℕ) (w v : World) → v.calls ≡ w.calls → ((n : ℕ) (a : ActorNo) (c : Call) → IsIn w.calls n a c → IsCallOf s t n a c)
    → (n : ℕ) (a : ActorNo) (c : Call) → IsIn v.calls n a c → IsCallOf s t n a c
given_same s t w v e given n a c i = given n a c (subst (λ ks. IsIn ks n a c) e i)
