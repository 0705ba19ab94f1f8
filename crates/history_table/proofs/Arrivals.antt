-- The block of each message that comes down, and of each end, keeps the table.
use Rattle.std.proofs.Common.{◌≡◌, ℕ, ◌==◌, Bool, true, false, ◌&&◌, ◌||◌, List, [], ◌∷◌, Option, Some, None, refl, ◌∙◌, sym, subst}
use Rattle.std.specs.Prelude.{find, if◌then◌else◌}
use Rattle.std.proofs.lemmas.Bool.{eqb-true, false_from_ne_true, or_left}
use Rattle.dtx_values.specs.declared.entry.Answer.TheVariants.{Fine}
use Rattle.dtx_values.specs.declared.entry.Entry.{Entry}
use Rattle.dtx_values.specs.declared.entry.Entry.TheVariants.{Answered, Down as Ended, Enlisted, Got}
use Rattle.dtx_values.specs.declared.message.Conn.{Conn}
use Rattle.dtx_values.specs.declared.message.Conn.TheVariants.{Begin, Voter, Enl, Again}
use Rattle.dtx_values.specs.declared.message.Dir.TheVariants.{Up, Down}
use Rattle.dtx_values.specs.declared.message.Message.{Message}
use Rattle.dtx_values.specs.declared.message.Message.TheVariants.{BeginBegun, BeginCommitted, BeginAborted, BeginInDoubt, VoterCreated, VoterRefused, VoterAsk, VoterCommit, VoterAbort, VoterInDoubt, EnlistEnlist, EnlistEnlisted, EnlistRefused, EnlistPrepare, EnlistCommit, EnlistAbort, EnlistSingle, ReenlistCommitted, ReenlistAborted}
use Rattle.dtx_values.specs.declared.number.EnlNo.{EnlNo}
use Rattle.dtx_values.specs.declared.number.RmNo.{RmNo}
use Rattle.dtx_values.specs.Class.{is_volatile}
use Rattle.dtx_values.specs.Lines.{has_line}
use Rattle.dtx_model.specs.Words.{has, onto}
use Rattle.dtx_model.specs.Entries.{is_asked, is_decision, is_promoted, is_sealed}
use Rattle.dtx_model.specs.Observed.{handover, observe, track}
use Rattle.dtx_model.specs.Outcome.{enlisted}
use Rattle.dtx_model.specs.Promotes.{is_begun_got, is_created_got, is_under_way}
use Rattle.dtx_model.specs.Wires.{MayCross, is_next, in_transit, opens}
use Rattle.dtx_model.specs.declared.waiting.Wanted.TheVariants.{Identifier, Place}
use Rattle.dtx_model.specs.Waiting.{Waiter, is_place_of, managed, waiting}
use Rattle.dtx_model.specs.Half.{is_handed, over, is_promoting as sees_promoting}
use Rattle.dtx_model.specs.Arrivals.{arrived, enlisted_at, local_down, local_got, place_given}
use Rattle.dtx_model.specs.World.{World, half}
use Rattle.dtx_model.proofs.Bools.{and_left, and_never, not_both, or_case, or_right}
use Rattle.dtx_values.proofs.SameNumbers.{same_enlistment}
use Rattle.history_table.proofs.Scans.{each_more, has_more}
use Rattle.history_table.proofs.Table.{have_come, is_enlist_got, is_opening_got}
use Rattle.history_table.proofs.Keeping.{Keeps}
use Rattle.history_table.proofs.Sendings.{got_line}
use Rattle.history_table.proofs.Standing.{begun_if_enlist, opened_if_got}
use Rattle.history_table.proofs.HalfKnows.{way_seen}
use Rattle.history_table.proofs.Deciding.{one_more, seen_half}
use Rattle.history_table.proofs.Undecided.{Stands, stand}
use Rattle.history_table.proofs.HalfCalls.{enlisted_stands}
use Rattle.history_table.proofs.MessageArrivals.{down_stands, open_block, aborted_stands, again_aborted, again_committed, commit_told, committed_stands, doubted_stands, enlistment_aborted, single_stands, prepare_stands, refused_stands}
use Rattle.history_table.proofs.Handover.{IsWaitedFor, begun_stands, created_stands, is_unsent, opening_before, over_stands}

-- whose opening message was got came to the coordinator
pub opening_enlist : (e : EnlNo) (x : Entry) → is_opening_got (Enl e) x ≡ true → is_enlist_got e.value x ≡ true
opening_enlist e (Got (Enl f) Up (EnlistEnlist i)) t = and_left (e.value == f.value) true t
opening_enlist e (Got (Enl f) Up m) t = absurd (not_both ((e.value == f.value) && false) t (and_never (e.value == f.value)))
opening_enlist e (Got Begin Up m) t = absurd cc
opening_enlist e (Got Voter Up m) t = absurd cc
opening_enlist e (Got (Again f) Up m) t = absurd cc
opening_enlist e (Got c Down m) t = absurd cc
opening_enlist e _ t = absurd cc

come_there : (e : EnlNo) (m : Message) (h : List Entry) → Keeps (Got (Enl e) Down m ∷ h) → has (is_enlist_got e.value) h ≡ true
come_there e m h a = has_more (is_opening_got (Enl e)) (is_enlist_got e.value) (opening_enlist e) h (opening_before (Enl e) m h a)

-- what is found passes
found_passes : {A : Type 0} (p : A → Bool) (xs : List A) (x : A) → find p xs ≡ Some x → p x ≡ true
found_passes p [] x e = absurd cc
found_passes p (y ∷ ys) x e = step (p y) refl e (found_passes p ys x)
  where
    step : (b : Bool) → p y ≡ b → (if b then Some y else find p ys) ≡ Some x → (find p ys ≡ Some x → p x ≡ true) → p x ≡ true
    step true q e f = let same : y ≡ x = cc in subst (λ z. p z ≡ true) same q
    step false q e f = f e

-- ENLISTED: the handover is over, or a call has its place.
pub enlisted_arrives : (t : ℕ) (h : List Entry) (ws : List Waiter) (ms : List (EnlNo × RmNo)) (e : EnlNo) → Keeps (Got (Enl e) Down EnlistEnlisted ∷ h) → Stands h → IsWaitedFor h ws
    → (is_under_way h ≡ true → is_handed (handover h) e.value ≡ true → has is_created_got h ≡ true)
    → Stands (onto (Got (Enl e) Down EnlistEnlisted ∷ h) (enlisted_at t (seen_half (Got (Enl e) Down EnlistEnlisted ∷ h) ws ms) e))
unfolding observe
enlisted_arrives t h ws ms e a k w v =
    open_block (Got (Enl e) Down EnlistEnlisted ∷ h) ws ms
    (if sees_promoting (observe (Got (Enl e) Down EnlistEnlisted ∷ h)) && is_handed (handover h) e.value then over t (seen_half (Got (Enl e) Down EnlistEnlisted ∷ h) ws ms)
    else if has is_promoted h then place_given (find (is_place_of e.value) ws) else []) a
    (λ d. step (sees_promoting (observe h)) (is_handed (handover h) e.value) (has is_promoted h) refl refl d)
  where
    alone : Stands (Got (Enl e) Down EnlistEnlisted ∷ h)
    alone = stand (Got (Enl e) Down EnlistEnlisted) h refl a.wires.0 k refl (λ g. g)

    here : has (is_enlist_got e.value) h ≡ true
    here = come_there e EnlistEnlisted h a

    named : (o : Option EnlNo) (f : ℕ) → is_handed o e.value ≡ true → is_handed o f ≡ true → has (is_enlist_got f) h ≡ true
    named (Some g) f p q =
        let first : e.value ≡ g.value = eqb-true e.value g.value p in
        let second : f ≡ g.value = eqb-true f g.value q in
        let P : ℕ → Type 0 = λ n. has (is_enlist_got n) h ≡ true in subst P (first ∙ sym second) here
    named None f p q = absurd cc

    all_come : is_under_way h ≡ true → is_handed (handover h) e.value ≡ true → have_come (Got (Enl e) Down EnlistEnlisted ∷ h) ≡ true
    all_come y p =
        each_more (λ x. is_volatile x.1 || is_handed (handover h) x.0.value) (λ x. is_volatile x.1 || has (is_enlist_got x.0.value) h)
        (λ x q. or_case (is_volatile x.1) (is_handed (handover h) x.0.value) (λ z. or_left (is_volatile x.1) (has (is_enlist_got x.0.value) h) z)
        (λ z. or_right (is_volatile x.1) (has (is_enlist_got x.0.value) h) (named (handover h) x.0.value p z)) q) (enlisted h) (w.handed y)

    same : (v : Waiter) → is_unsent h v ≡ true → is_unsent (Got (Enl e) Down EnlistEnlisted ∷ h) v ≡ true
    same (m, Identifier) z = refl
    same (m, Place f r c) z = z

    placed : (o : Option Waiter) → find (is_place_of e.value) ws ≡ o → has is_decision h ≡ false → Stands (onto (Got (Enl e) Down EnlistEnlisted ∷ h) (place_given o))
    placed None q d = alone
    placed (Some (n, Identifier)) q d = alone
    placed (Some (n, Place f r c)) q d =
        let number : e.value ≡ f.value = eqb-true e.value f.value (found_passes (is_place_of e.value) ws (n, Place f r c) q) in
        let same_one : e ≡ f = same_enlistment e f number in
        let P : EnlNo → Type 0 = λ g. find (is_place_of e.value) ws ≡ Some (n, Place g r c) in
        let unsealed = false_from_ne_true (has is_sealed h) (λ s. let Q : List Waiter → Type 0 = λ vs. find (is_place_of e.value) vs ≡ Some (n, Place f r c) in none_found (subst Q (w.quiet s) q)) in
        let fresh = w.free e n r c unsealed (subst P (sym same_one) q) in
        let F : EnlNo → Type 0 = λ g. Stands (Answered n Fine ∷ Enlisted g c ∷ Got (Enl e) Down EnlistEnlisted ∷ h) in
        subst F same_one
        (stand (Answered n Fine) (Enlisted e c ∷ Got (Enl e) Down EnlistEnlisted ∷ h) refl tt
        (enlisted_stands (Got (Enl e) Down EnlistEnlisted ∷ h) e c alone d unsealed fresh.0
        (or_left (is_volatile c || has (is_enlist_got e.value) h) _ (or_right (is_volatile c) (has (is_enlist_got e.value) h) here)) (rw fresh.1 refl)) refl (λ g. g))
      where
        none_found : find (is_place_of e.value) [] ≡ Some (n, Place f r c) → ⊥
        none_found z = cc

    step : (b i p : Bool) → sees_promoting (observe h) ≡ b → is_handed (handover h) e.value ≡ i → has is_decision h ≡ false
        → Stands (onto (Got (Enl e) Down EnlistEnlisted ∷ h) (if b && i then over t (seen_half (Got (Enl e) Down EnlistEnlisted ∷ h) ws ms) else if p then place_given (find (is_place_of e.value) ws) else []))
    step true true p q z d =
        let y = sym (way_seen h) ∙ q in
        over_stands t (Got (Enl e) Down EnlistEnlisted ∷ h) ws ms alone d y (all_come y z) (begun_if_enlist e h k.keeps (opened_if_got (Enl e) h k.keeps (opening_before (Enl e) EnlistEnlisted h a))) (v y z)
        (each_more (is_unsent h) (is_unsent (Got (Enl e) Down EnlistEnlisted ∷ h)) (λ u z. same u z) ws (w.places y)) w.apart
    step true false true q z d = placed (find (is_place_of e.value) ws) refl d
    step true false false q z d = alone
    step false i true q z d = placed (find (is_place_of e.value) ws) refl d
    step false i false q z d = alone

-- What comes once: BEGUN, CREATED, and PREPARE of each enlistment. And the ENLIST of the handover was sent after CREATED.
pub record ComeOnce (h : List Entry) : Type 0 where
  pub begun : (u : ℕ) → is_next (BeginBegun u) (in_transit Begin Down h) → has is_begun_got h ≡ false
  pub created : is_next VoterCreated (in_transit Voter Down h) → has is_created_got h ≡ false
  pub prepared : (e : EnlNo) → is_next EnlistPrepare (in_transit (Enl e) Down h) → has (is_asked e.value) h ≡ false
  pub after_created : (e : EnlNo) → has (opens (Enl e)) h ≡ true → has is_created_got h ≡ true

begin_got : (t : ℕ) (h : List Entry) (ws : List Waiter) (ms : List (EnlNo × RmNo)) (m : Message) → MayCross h (Got Begin Down m) → Stands h → ComeOnce h
    → Stands (onto (Got Begin Down m ∷ h) (arrived t (seen_half (Got Begin Down m ∷ h) ws ms) Begin m))
begin_got t h ws ms (BeginBegun u) x k o = begun_stands t h ws ms u (one_more (Got Begin Down (BeginBegun u)) h refl x k.keeps refl) k (o.begun u x)
begin_got t h ws ms BeginCommitted x k o = committed_stands Begin BeginCommitted h ws ms k.keeps (one_more (Got Begin Down BeginCommitted) h refl x k.keeps refl) refl refl
begin_got t h ws ms BeginAborted x k o = aborted_stands (Got Begin Down BeginAborted) h ws ms refl (one_more (Got Begin Down BeginAborted) h refl x k.keeps refl) refl
begin_got t h ws ms BeginInDoubt x k o = doubted_stands Begin BeginInDoubt h ws ms k.keeps (one_more (Got Begin Down BeginInDoubt) h refl x k.keeps refl) refl
begin_got t h ws ms m x k o = absurd (not_both (has_line Begin Down m) (got_line Begin Down m h (one_more (Got Begin Down m) h refl x k.keeps refl)) refl)

voter_got : (t : ℕ) (h : List Entry) (ws : List Waiter) (ms : List (EnlNo × RmNo)) (m : Message) → MayCross h (Got Voter Down m) → Stands h → ComeOnce h → IsWaitedFor h ws
    → Stands (onto (Got Voter Down m ∷ h) (arrived t (seen_half (Got Voter Down m ∷ h) ws ms) Voter m))
voter_got t h ws ms VoterCreated x k o w = created_stands t h ws ms (one_more (Got Voter Down VoterCreated) h refl x k.keeps refl) k w (o.created x)
voter_got t h ws ms (VoterRefused cause) x k o w = refused_stands (Got Voter Down (VoterRefused cause)) h ws ms refl (one_more (Got Voter Down (VoterRefused cause)) h refl x k.keeps refl) refl
voter_got t h ws ms VoterAsk x k o w = stand (Got Voter Down VoterAsk) h refl x k refl (λ g. g)
voter_got t h ws ms VoterCommit x k o w = committed_stands Voter VoterCommit h ws ms k.keeps (one_more (Got Voter Down VoterCommit) h refl x k.keeps refl) refl refl
voter_got t h ws ms VoterAbort x k o w = aborted_stands (Got Voter Down VoterAbort) h ws ms refl (one_more (Got Voter Down VoterAbort) h refl x k.keeps refl) refl
voter_got t h ws ms VoterInDoubt x k o w = doubted_stands Voter VoterInDoubt h ws ms k.keeps (one_more (Got Voter Down VoterInDoubt) h refl x k.keeps refl) refl
voter_got t h ws ms m x k o w = absurd (not_both (has_line Voter Down m) (got_line Voter Down m h (one_more (Got Voter Down m) h refl x k.keeps refl)) refl)

enlist_got : (t : ℕ) (h : List Entry) (ws : List Waiter) (ms : List (EnlNo × RmNo)) (e : EnlNo) (m : Message) → MayCross h (Got (Enl e) Down m) → Stands h → ComeOnce h → IsWaitedFor h ws
    → Stands (onto (Got (Enl e) Down m ∷ h) (arrived t (seen_half (Got (Enl e) Down m ∷ h) ws ms) (Enl e) m))
enlist_got t h ws ms e EnlistEnlisted x k o w =
    let a = one_more (Got (Enl e) Down EnlistEnlisted) h refl x k.keeps refl in
    enlisted_arrives t h ws ms e a k w (λ y i. o.after_created e (opened_if_got (Enl e) h k.keeps (opening_before (Enl e) EnlistEnlisted h a)))
enlist_got t h ws ms e (EnlistRefused cause) x k o w = refused_stands (Got (Enl e) Down (EnlistRefused cause)) h ws ms refl (one_more (Got (Enl e) Down (EnlistRefused cause)) h refl x k.keeps refl) refl
enlist_got t h ws ms e EnlistPrepare x k o w = prepare_stands h e x k (o.prepared e x)
enlist_got t h ws ms e EnlistCommit x k o w = commit_told h e x k
enlist_got t h ws ms e EnlistAbort x k o w = enlistment_aborted h ws ms e (one_more (Got (Enl e) Down EnlistAbort) h refl x k.keeps refl)
enlist_got t h ws ms e EnlistSingle x k o w = single_stands h ws ms e x k
enlist_got t h ws ms e m x k o w = absurd (not_both (has_line (Enl e) Down m) (got_line (Enl e) Down m h (one_more (Got (Enl e) Down m) h refl x k.keeps refl)) refl)

again_got : (t : ℕ) (h : List Entry) (ws : List Waiter) (ms : List (EnlNo × RmNo)) (e : EnlNo) (m : Message) → MayCross h (Got (Again e) Down m) → Stands h
    → Stands (onto (Got (Again e) Down m ∷ h) (arrived t (seen_half (Got (Again e) Down m ∷ h) ws ms) (Again e) m))
again_got t h ws ms e ReenlistCommitted x k = again_committed h e x k
again_got t h ws ms e ReenlistAborted x k = again_aborted h e x k
again_got t h ws ms e m x k = absurd (not_both (has_line (Again e) Down m) (got_line (Again e) Down m h (one_more (Got (Again e) Down m) h refl x k.keeps refl)) refl)

-- The block of a message that comes down keeps it.
pub got_stands : (t : ℕ) (w : World) (c : Conn) (m : Message) → MayCross w.past (Got c Down m) → Stands w.past → ComeOnce w.past → IsWaitedFor w.past (waiting w.calls w.past)
    → Stands (onto w.past (Got c Down m ∷ local_got t (half w) c m))
unfolding local_got observe track
got_stands t w Begin m x k o v = begin_got t w.past (waiting w.calls w.past) (managed w.calls w.past) m x k o
got_stands t w Voter m x k o v = voter_got t w.past (waiting w.calls w.past) (managed w.calls w.past) m x k o v
got_stands t w (Enl e) m x k o v = enlist_got t w.past (waiting w.calls w.past) (managed w.calls w.past) e m x k o v
got_stands t w (Again e) m x k o v = again_got t w.past (waiting w.calls w.past) (managed w.calls w.past) e m x k

-- And so does that of an end.
pub end_stands : (w : World) (c : Conn) → MayCross w.past (Ended c Down) → Stands w.past → Stands (onto w.past (Ended c Down ∷ local_down (half w) c))
unfolding local_down observe track
end_stands w c x k = down_stands w.past (waiting w.calls w.past) (managed w.calls w.past) c x k
