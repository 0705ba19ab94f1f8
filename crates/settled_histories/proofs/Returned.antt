-- Who comes back had its ENLISTED, in each world that steps made.
use Rattle.std.proofs.Common.{◌≡◌, ◌==◌, ◌∙◌, ℕ, Bool, true, false, ◌&&◌, ◌||◌, List, [], ◌∷◌, Option, Some, None, refl, ap, subst, sym}
use Rattle.std.specs.Prelude.{find, not, if◌then◌else◌}
use Rattle.std.proofs.lemmas.Bool.{eqb-true}
use Rattle.dtx_values.specs.declared.call.Call.{Call}
use Rattle.dtx_values.specs.declared.call.Call.TheVariants.{Gone, Reenlist, Tick}
use Rattle.dtx_values.specs.declared.entry.Entry.{Entry}
use Rattle.dtx_values.specs.declared.entry.Entry.TheVariants.{Called, Clock, Late, Reenlisted, Sent, TimedOut}
use Rattle.dtx_values.specs.declared.message.Conn.TheVariants.{Begin, Voter, Enl, Again}
use Rattle.dtx_values.specs.declared.message.Dir.TheVariants.{Down, Up}
use Rattle.dtx_values.specs.declared.message.Info.{Info}
use Rattle.dtx_values.specs.declared.message.Message.{Message}
use Rattle.dtx_values.specs.declared.message.Message.TheVariants.{ReenlistReenlist}
use Rattle.dtx_values.specs.declared.number.ActorNo.{ActorNo}
use Rattle.dtx_values.specs.declared.number.EnlNo.{EnlNo}
use Rattle.dtx_values.specs.Ends.{is_in}
use Rattle.dtx_values.specs.Lines.{is_opening}
use Rattle.dtx_model.specs.declared.branch.Branch.{Branch}
use Rattle.dtx_model.specs.Words.{each, has, onto}
use Rattle.dtx_model.specs.Observed.{branches, is_branch, observe}
use Rattle.dtx_model.specs.Promotes.{is_enlisted_got}
use Rattle.dtx_model.specs.Wires.{opens}
use Rattle.dtx_model.specs.Half.{Half, info, veto}
use Rattle.dtx_model.specs.Answers.{if_begun}
use Rattle.dtx_model.specs.Facts.{facts_if, has_facts, is_late, reaches, tick_facts, ticked, time_up}
use Rattle.dtx_model.specs.World.{World, answer_at, branch_answer, core, facts_at, gone_by, half, is_connected, is_finished_there, open_ones, reenlist_answer, reenlist_by, reenlist_facts, unless_stopped}
use Rattle.dtx_model.specs.Steps.{Step, Calls, after, block_at}
use Rattle.dtx_model.specs.Caused.{Ran}
use Rattle.dtx_model.proofs.Bools.{and_left, and_never, and_right, not_both, or_case, or_right}
use Rattle.history_table.proofs.Scans.{each_more}
use Rattle.history_table.proofs.Reenlisted.{branches_got}
use Rattle.history_table.proofs.WorldCalls.{branch_done, found_branch}
use Rattle.settled_histories.proofs.CommonBlocks.{common_veto, gone_passes, is_common, is_reenlist, is_usual, usual_block}

-- Who comes back had its ENLISTED.
abbrev pub AreReturned : List Entry → Type 0
AreReturned h = (e : EnlNo) → has (opens (Again e)) h ≡ true → has (is_enlisted_got e.value) h ≡ true

abbrev is_unreturning : Entry → Bool
is_unreturning (Sent c Up m) = not (is_reenlist m)
is_unreturning _ = true

usual_unreturning : (x : Entry) → is_usual x ≡ true → is_unreturning x ≡ true
usual_unreturning (Sent c Up m) k = k
usual_unreturning (Sent c Down m) k = refl
usual_unreturning _ k = refl

no : false ≡ true → ⊥
no e = absurd cc

not_opening : (e : EnlNo) (m : Message) → not (is_reenlist m) ≡ true → is_opening (Again e) m ≡ false
not_opening e (ReenlistReenlist i) t = absurd (no t)
not_opening e _ t = refl

unopened : (e : EnlNo) (x : Entry) → is_unreturning x ≡ true → opens (Again e) x ≡ false
unopened e (Sent (Again f) Up m) t = ap (λ b. (e.value == f.value) && b) (not_opening f m t) ∙ and_never (e.value == f.value)
unopened e (Sent Begin Up m) t = refl
unopened e (Sent Voter Up m) t = refl
unopened e (Sent (Enl f) Up m) t = refl
unopened e (Sent c Down m) t = refl
unopened e _ t = refl

unreturned : (h es : List Entry) → each is_unreturning es ≡ true → AreReturned h → AreReturned (onto h es)
unreturned h [] k a = a
unreturned h (x ∷ es) k a =
    unreturned (x ∷ h) es (and_right (is_unreturning x) (each is_unreturning es) k)
    (λ e t. or_right (is_enlisted_got e.value x) (has (is_enlisted_got e.value) h)
    (or_case (opens (Again e) x) (has (opens (Again e)) h) (λ b. absurd (not_both (opens (Again e) x) b (unopened e x (and_left (is_unreturning x) (each is_unreturning es) k)))) (λ b. a e b) t))

-- a tick opens nothing
time_unreturned : (v : Half) (h : List Entry) (b : Bool) → AreReturned h → AreReturned (onto h (if b then time_up v else []))
time_unreturned v h false a = a
time_unreturned v h true a = by (is_late v.seen)
  where
    by : (late : Bool) → AreReturned (onto h (if late then Late ∷ [] else TimedOut ∷ veto v))
    by true = a
    by false = unreturned (TimedOut ∷ h) (veto v) (each_more is_common is_unreturning common_unreturning (veto v) (common_veto v).proof) a
      where
        common_unreturning : (x : Entry) → is_common x ≡ true → is_unreturning x ≡ true
        common_unreturning (Sent c Up m) k = k
        common_unreturning (Sent c Down m) k = refl
        common_unreturning _ k = refl

tick_unreturned : (h : List Entry) (v : Half) (n : ℕ) (b : Bool) → AreReturned h → AreReturned (onto h (facts_if b (tick_facts v n)))
tick_unreturned h v n false a = a
tick_unreturned h v n true a = time_unreturned v (Clock n ∷ h) (reaches v.seen.limit v.seen.clock n) a

-- a reenlistment is of one that was enlisted
returned_one : (f : EnlNo) (i : Info) (h : List Entry) → has (is_enlisted_got f.value) h ≡ true → AreReturned h → AreReturned (Sent (Again f) Up (ReenlistReenlist i) ∷ h)
returned_one f i h g a = λ e t.
    or_case ((e.value == f.value) && true) (has (opens (Again e)) h)
    (λ q. subst (λ n. has (is_enlisted_got n) h ≡ true) (sym (eqb-true e.value f.value (and_left (e.value == f.value) true q))) g) (λ q. a e q) t

back_returned : (t : ℕ) (w : World) (n : ℕ) (a : ActorNo) (e : EnlNo) (l : Option ℕ) → AreReturned w.past
    → AreReturned (onto w.past (Called n a (if_begun l (reenlist_answer w e)) ∷ facts_if (has_facts (if_begun l (reenlist_answer w e))) (facts_at t w (Reenlist e) (if_begun l (reenlist_answer w e)))))
unfolding observe
back_returned t w n a e None k = k
back_returned t w n a e (Some d) k = step (find (is_branch e.value) (branches w.past)) refl
  where
    got_now : (d g : Bool) → d ≡ true → (not d || g) ≡ true → g ≡ true
    got_now true g e k = k
    got_now false g e k = absurd cc

    step : (o : Option Branch) → find (is_branch e.value) (branches w.past) ≡ o → AreReturned (onto w.past (Called n a (reenlist_by w o) ∷ facts_if (has_facts (reenlist_by w o)) (reenlist_facts t o)))
    step None q = k
    step (Some b) q = by (has_facts (branch_answer w b)) refl
      where
        by : (f : Bool) → has_facts (branch_answer w b) ≡ f → AreReturned (onto w.past (Called n a (branch_answer w b) ∷ facts_if f (reenlist_facts t (Some b))))
        by false f = k
        by true f =
            let g = branch_done b.enlisted (is_finished_there (half w).seen b.enlistment.value) (is_in b.manager.value (core w).recovered) (is_connected b.enlistment w.past) b.manager b.enlistment (unless_stopped w) f in
            returned_one b.enlistment (info t b.enlistment b.manager) (Reenlisted b.enlistment ∷ Called n a (branch_answer w b) ∷ w.past)
            (got_now b.enlisted (has (is_enlisted_got b.enlistment.value) w.past) g.0
            (found_branch (is_branch e.value) (λ b. not b.enlisted || has (is_enlisted_got b.enlistment.value) w.past) (branches w.past) b (branches_got w.past) q)) k

step_returned : (t : ℕ) (w : World) (m : Step) → AreReturned w.past → AreReturned (after t w m).past
unfolding after block_at answer_at
step_returned t w (Calls n a (Tick u i) m) k =
    let y = answer_at t w (Tick u i) m in tick_unreturned (Called n a y ∷ w.past) (half w) (ticked (half w).seen.clock i) (has_facts y) k
step_returned t w (Calls n a (Reenlist e) m) k = back_returned t w n a e (half w).seen.limit k
step_returned t w (Calls n a (Gone e) m) k =
    let y = answer_at t w (Gone e) m in
    unreturned (Called n a y ∷ w.past) (facts_if (has_facts y) (gone_by w e (open_ones w e))) (gone_passes is_unreturning usual_unreturning w e (open_ones w e) (has_facts y) refl) k
step_returned t w m k = unreturned w.past (block_at t w m) (each_more is_usual is_unreturning usual_unreturning (block_at t w m) (usual_block t w m refl)) k

pub ran_returned : (G : ℕ → ActorNo → Call → Type 0) (t : ℕ) (ms : List Step) (w : World) → Ran G t ms w → AreReturned w.past
ran_returned G t [] w r = subst AreReturned (sym r.1) (λ e q. absurd cc)
ran_returned G t (m ∷ ms) w r = subst (λ (x : World). AreReturned x.past) (sym r.3) (step_returned t r.0 m (ran_returned G t ms r.0 r.1))
