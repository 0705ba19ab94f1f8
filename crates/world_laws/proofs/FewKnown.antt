-- The connections that the coordinator knows, and who came back and waits, are of those that are at the coordinator; so it has room.
use Rattle.std.proofs.Common.{◌≡◌, ◌≤◌, suc, ◌==◌, Bool, true, false, ◌&&◌, ◌||◌, List, [], ◌∷◌, filter, length, map, refl, sym, subst, ap, ◌∙◌, arith}
use Rattle.std.specs.Prelude.{not, if◌then◌else◌}
use Rattle.std.proofs.lemmas.Bool.{eqb-true, or_left}
use Rattle.std.proofs.lemmas.List.{length-map}
use Rattle.dtx_values.specs.declared.end.End.{End}
use Rattle.dtx_values.specs.declared.entry.Entry.{Entry}
use Rattle.dtx_values.specs.declared.entry.Entry.TheVariants.{Down as Ended, Got, Sent, Stopped}
use Rattle.dtx_values.specs.declared.message.Conn.{Conn}
use Rattle.dtx_values.specs.declared.message.Conn.TheVariants.{Begin, Voter, Enl, Again}
use Rattle.dtx_values.specs.declared.message.Dir.TheVariants.{Up, Down}
use Rattle.dtx_values.specs.declared.message.Message.TheVariants.{ReenlistReenlist}
use Rattle.dtx_values.specs.declared.number.EnlNo.{EnlNo}
use Rattle.dtx_values.specs.Ends.{is_end_of, order_of, same_connection}
use Rattle.dtx_values.specs.Lines.{has_line, is_opening}
use Rattle.dtx_values.specs.Table.{enl_number, how_many, insert_by}
use Rattle.dtx_model.specs.declared.branch.Branch.{Branch}
use Rattle.dtx_model.specs.declared.waiting.EnteredCall.{EnteredCall}
use Rattle.dtx_model.specs.Coordinated.{but, coordinate, follow, without}
use Rattle.dtx_model.specs.Observed.{branches, is_branch}
use Rattle.dtx_model.specs.Wires.{WireRun}
use Rattle.dtx_model.specs.Words.{each, has}
use Rattle.dtx_model.proofs.Bools.{and_both, and_left, and_right, or_case, or_right}
use Rattle.dtx_model.proofs.Counts.{how_many-insert_by}
use Rattle.coordinator_core.specs.Kept.{IsFew}
use Rattle.local_half.specs.Linked.{AreLinked, is_of_branch}
use Rattle.half_parts.proofs.Links.{ends_few}
use Rattle.half_parts.proofs.Lists.{how_many-filter-le, how_many-filter-none}
use Rattle.dtx_model.proofs.Connections.{same_is, same_self}
use Rattle.history_table.proofs.Leading.{opening_was_sent}
use Rattle.history_table.proofs.Lists.{has-insert}
use Rattle.history_table.proofs.Owned.{has_filter}
use Rattle.history_table.proofs.Scans.{has_more}
use Rattle.history_table.proofs.Table.{is_opening_got}
use Rattle.world_laws.proofs.FewBranches.{Roomy}
use Rattle.world_laws.proofs.FewDesks.{desks_few, each_by, opened_there, within}
use Rattle.world_laws.proofs.SendingOpened.{Opened}

no : false ≡ true → ⊥
no e = absurd cc

-- What is left without some was there.
less_has : {A : Type 0} (p q : A → Bool) (xs : List A) → has p (filter q xs) ≡ true → has p xs ≡ true
less_has p q xs k = has_more (λ x. p x && q x) p (λ x t. and_left (p x) (q x) t) xs (sym (has_filter p q xs) ∙ k)

-- A connection that is known was opened by a message that came.
known_got : (c : Conn) (h : List Entry) → has (same_connection c) (coordinate h).known ≡ true → has (is_opening_got c) h ≡ true
unfolding coordinate follow
known_got c [] k = absurd (no k)
known_got c (Got e Up m ∷ h) k = step (has_line e Up m) (is_opening e m) refl (known_got c h) k
  where
    step : (l o : Bool) → is_opening e m ≡ o → (has (same_connection c) (coordinate h).known ≡ true → has (is_opening_got c) h ≡ true)
        → has (same_connection c) (if not l then without e (coordinate h).known else if o then insert_by order_of e (without e (coordinate h).known) else (coordinate h).known) ≡ true
        → ((same_connection c e && is_opening e m) || has (is_opening_got c) h) ≡ true
    step false o q ih t = or_right (same_connection c e && is_opening e m) (has (is_opening_got c) h) (ih (less_has (same_connection c) (λ d. not (same_connection e d)) (coordinate h).known t))
    step true false q ih t = or_right (same_connection c e && is_opening e m) (has (is_opening_got c) h) (ih t)
    step true true q ih t =
        or_case (same_connection c e) (has (same_connection c) (without e (coordinate h).known))
        (λ s. or_left (same_connection c e && is_opening e m) (has (is_opening_got c) h) (and_both (same_connection c e) (is_opening e m) s q))
        (λ s. or_right (same_connection c e && is_opening e m) (has (is_opening_got c) h) (ih (less_has (same_connection c) (λ d. not (same_connection e d)) (coordinate h).known s)))
        (sym (has-insert (same_connection c) order_of e (without e (coordinate h).known)) ∙ t)
known_got c (Ended e Up ∷ h) k = known_got c h (less_has (same_connection c) (λ d. not (same_connection e d)) (coordinate h).known k)
known_got c (Stopped ∷ h) k = absurd (no k)
known_got c (x ∷ h) k = or_right (is_opening_got c x) (has (is_opening_got c) h) (known_got c h k)

-- Each is known once.
known_insert : (c e : Conn) (cs : List Conn) → how_many (same_connection c) cs ≤ 1 → how_many (same_connection c) (insert_by order_of e (without e cs)) ≤ 1
known_insert c e cs le = by (same_connection c e) refl (how_many-insert_by (same_connection c) order_of e (without e cs))
  where
    by : (b : Bool) → same_connection c e ≡ b → how_many (same_connection c) (insert_by order_of e (without e cs)) ≡ (if b then suc (how_many (same_connection c) (without e cs)) else how_many (same_connection c) (without e cs))
        → how_many (same_connection c) (insert_by order_of e (without e cs)) ≤ 1
    by true q k =
        let P : Conn → Type 0 = λ y. (d : Conn) → same_connection y d ≡ true → not (same_connection e d) ≡ false in
        let none = how_many-filter-none (same_connection c) (λ d. not (same_connection e d)) (subst P (sym (same_is c e q)) (λ d t. rw t refl)) cs in omega (arith, k, none)
    by false q k = let less = how_many-filter-le (same_connection c) (λ d. not (same_connection e d)) cs in omega (arith, k, less, le)

known_once : (c : Conn) (h : List Entry) → how_many (same_connection c) (coordinate h).known ≤ 1
unfolding coordinate follow
known_once c [] = omega arith
known_once c (Got e Up m ∷ h) = step (has_line e Up m) (is_opening e m) (known_once c h)
  where
    step : (l o : Bool) → how_many (same_connection c) (coordinate h).known ≤ 1
        → how_many (same_connection c) (if not l then without e (coordinate h).known else if o then insert_by order_of e (without e (coordinate h).known) else (coordinate h).known) ≤ 1
    step false o le = let less = how_many-filter-le (same_connection c) (λ d. not (same_connection e d)) (coordinate h).known in omega (arith, less, le)
    step true false le = le
    step true true le = known_insert c e (coordinate h).known le
known_once c (Ended e Up ∷ h) = let less = how_many-filter-le (same_connection c) (λ d. not (same_connection e d)) (coordinate h).known in let le = known_once c h in omega (arith, less, le)
known_once c (Stopped ∷ h) = omega arith
known_once c (x ∷ h) = known_once c h

-- what holds of each connection that is among them holds of each
each_known : (p : Conn → Bool) (cs : List Conn) → ((c : Conn) → has (same_connection c) cs ≡ true → p c ≡ true) → each p cs ≡ true
each_known p [] f = refl
each_known p (c ∷ cs) f =
    and_both (p c) (each p cs) (f c (or_left (same_connection c c) (has (same_connection c) cs) (same_self c))) (each_known p cs (λ d k. f d (or_right (same_connection d c) (has (same_connection d) cs) k)))

-- so they are at most two for each that is at the coordinator, and two more
abbrev end_of : Conn → End
end_of c = record { connection = c; sent = 0; got = 0; ended = false }

ends_count : (c : Conn) (cs : List Conn) → how_many (is_end_of c) (map end_of cs) ≡ how_many (same_connection c) cs
ends_count c [] = refl
ends_count c (d ∷ cs) = ap (λ k. if same_connection c d then suc k else k) (ends_count c cs)

ends_each : (bs : List Branch) (cs : List Conn) → each (is_of_branch bs) cs ≡ true → each (λ n. is_of_branch bs n.connection) (map end_of cs) ≡ true
ends_each bs [] k = refl
ends_each bs (c ∷ cs) k =
    and_both (is_of_branch bs c) (each (λ n. is_of_branch bs n.connection) (map end_of cs)) (and_left (is_of_branch bs c) (each (is_of_branch bs) cs) k)
    (ends_each bs cs (and_right (is_of_branch bs c) (each (is_of_branch bs) cs) k))

returned_there : (e : EnlNo) (h : List Entry) → WireRun h → Opened h → has (is_opening_got (Again e)) h ≡ true → has (is_branch e.value) (branches h) ≡ true
returned_there e h w i k = i.on_enlistments.back e (opening_was_sent (Again e) h w k)

known_there : (h : List Entry) → WireRun h → Opened h → (c : Conn) → has (same_connection c) (coordinate h).known ≡ true → is_of_branch (branches h) c ≡ true
known_there h w i Begin k = refl
known_there h w i Voter k = refl
known_there h w i (Enl e) k = opened_there e h (opening_was_sent (Enl e) h w (known_got (Enl e) h k))
known_there h w i (Again e) k = returned_there e h w i (known_got (Again e) h k)

known_few : (ks : List EnteredCall) (h : List Entry) → WireRun h → Opened h → Roomy ks h → length (coordinate h).known ≤ 34
known_few ks h w i r =
    let cs = (coordinate h).known in
    let linked : AreLinked true [] [] (branches h) (map end_of cs) = record {
      once = r.linked.once;
      few = r.linked.few;
      held = λ k. absurd (no (sym k));
      known_once = λ c. subst (λ k. k ≤ 1) (sym (ends_count c cs)) (known_once c h);
      of_branches = ends_each (branches h) cs (each_known (is_of_branch (branches h)) cs (known_there h w i));
    } in
    let long = length-map cs end_of in
    let few = ends_few true [] [] (branches h) (map end_of cs) linked in
    omega (arith, long, few)

-- Who waits came back: its connection was opened.
waits_got : (e : EnlNo) (h : List Entry) → has (λ (f : EnlNo). e.value == f.value) (coordinate h).waits ≡ true → has (is_opening_got (Again e)) h ≡ true
unfolding coordinate follow
waits_got e [] k = absurd (no k)
waits_got e (Got (Again f) Up (ReenlistReenlist i) ∷ h) k =
    or_case (e.value == f.value) (has (λ (g : EnlNo). e.value == g.value) (but f.value (coordinate h).waits)) (λ t. or_left ((e.value == f.value) && true) (has (is_opening_got (Again e)) h) (and_both (e.value == f.value) true t refl))
    (λ t. or_right ((e.value == f.value) && true) (has (is_opening_got (Again e)) h)
    (waits_got e h (less_has (λ (g : EnlNo). e.value == g.value) (λ g. not (f.value == g.value)) (coordinate h).waits t)))
    (sym (has-insert (λ (g : EnlNo). e.value == g.value) enl_number f (but f.value (coordinate h).waits)) ∙ k)
waits_got e (Got (Again f) Up m ∷ h) k = step (has_line (Again f) Up m) (waits_got e h) k
  where
    step : (l : Bool) → (has (λ (g : EnlNo). e.value == g.value) (coordinate h).waits ≡ true → has (is_opening_got (Again e)) h ≡ true)
        → has (λ (g : EnlNo). e.value == g.value) (if l then (coordinate h).waits else but f.value (coordinate h).waits) ≡ true → (((e.value == f.value) && is_opening (Again f) m) || has (is_opening_got (Again e)) h) ≡ true
    step true ih t = or_right ((e.value == f.value) && is_opening (Again f) m) (has (is_opening_got (Again e)) h) (ih t)
    step false ih t =
        or_right ((e.value == f.value) && is_opening (Again f) m) (has (is_opening_got (Again e)) h)
        (ih (less_has (λ (g : EnlNo). e.value == g.value) (λ g. not (f.value == g.value)) (coordinate h).waits t))
waits_got e (Sent (Again f) Down m ∷ h) k = waits_got e h (less_has (λ (g : EnlNo). e.value == g.value) (λ g. not (f.value == g.value)) (coordinate h).waits k)
waits_got e (Ended (Again f) Up ∷ h) k = waits_got e h (less_has (λ (g : EnlNo). e.value == g.value) (λ g. not (f.value == g.value)) (coordinate h).waits k)
waits_got e (Stopped ∷ h) k = absurd (no k)
waits_got e (x ∷ h) k = or_right (is_opening_got (Again e) x) (has (is_opening_got (Again e)) h) (waits_got e h k)

-- Each waits once.
less_waits : (e f : EnlNo) (es : List EnlNo) → how_many (λ (g : EnlNo). e.value == g.value) es ≤ 1 → how_many (λ (g : EnlNo). e.value == g.value) (but f.value es) ≤ 1
less_waits e f es le = let less = how_many-filter-le (λ (g : EnlNo). e.value == g.value) (λ (g : EnlNo). not (f.value == g.value)) es in omega (arith, less, le)

waits_insert : (e f : EnlNo) (es : List EnlNo) → how_many (λ (g : EnlNo). e.value == g.value) es ≤ 1 → how_many (λ (g : EnlNo). e.value == g.value) (insert_by enl_number f (but f.value es)) ≤ 1
waits_insert e f es le = by (e.value == f.value) refl (how_many-insert_by (λ (g : EnlNo). e.value == g.value) enl_number f (but f.value es))
  where
    by : (b : Bool) → (e.value == f.value) ≡ b
        → how_many (λ (g : EnlNo). e.value == g.value) (insert_by enl_number f (but f.value es))
        ≡ (if b then suc (how_many (λ (g : EnlNo). e.value == g.value) (but f.value es)) else how_many (λ (g : EnlNo). e.value == g.value) (but f.value es))
        → how_many (λ (g : EnlNo). e.value == g.value) (insert_by enl_number f (but f.value es)) ≤ 1
    by true q k =
        let none = how_many-filter-none (λ (g : EnlNo). e.value == g.value) (λ (g : EnlNo). not (f.value == g.value))
        (λ g t. ap not (subst (λ n. (n == g.value) ≡ true) (eqb-true e.value f.value q) t)) es in omega (arith, k, none)
    by false q k = let less = less_waits e f es le in omega (arith, k, less)

waits_once : (e : EnlNo) (h : List Entry) → how_many (λ (f : EnlNo). e.value == f.value) (coordinate h).waits ≤ 1
unfolding coordinate follow
waits_once e [] = omega arith
waits_once e (Got (Again f) Up (ReenlistReenlist i) ∷ h) = waits_insert e f (coordinate h).waits (waits_once e h)
waits_once e (Got (Again f) Up m ∷ h) = step (has_line (Again f) Up m) (waits_once e h)
  where
    step : (l : Bool) → how_many (λ (g : EnlNo). e.value == g.value) (coordinate h).waits ≤ 1 → how_many (λ (g : EnlNo). e.value == g.value) (if l then (coordinate h).waits else but f.value (coordinate h).waits) ≤ 1
    step true le = le
    step false le = less_waits e f (coordinate h).waits le
waits_once e (Sent (Again f) Down m ∷ h) = less_waits e f (coordinate h).waits (waits_once e h)
waits_once e (Ended (Again f) Up ∷ h) = less_waits e f (coordinate h).waits (waits_once e h)
waits_once e (Stopped ∷ h) = omega arith
waits_once e (x ∷ h) = waits_once e h

waits_few : (h : List Entry) → WireRun h → Opened h → length (coordinate h).waits ≤ length (branches h)
waits_few h w i =
    within (λ (e : EnlNo). e) (branches h) (coordinate h).waits (λ b. waits_once b.enlistment h)
    (each_by (λ (e : EnlNo). e) (λ e. has (is_branch e.value) (branches h)) (coordinate h).waits (λ e k. returned_there e h w i (waits_got e h k)))

-- what the coordinator knows fits, where few are there
pub coordinate_few : (ks : List EnteredCall) (h : List Entry) → WireRun h → Opened h → Roomy ks h → IsFew (coordinate h)
coordinate_few ks h w i r =
    let desks = desks_few h w i in
    let waits = waits_few h w i in
    let few = r.linked.few in
    record { desks = omega (arith, desks, few); known = known_few ks h w i r; waits = omega (arith, waits, few) }
